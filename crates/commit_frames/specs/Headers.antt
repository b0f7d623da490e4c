-- The header of a frame: a mark, and numbers in digits of which no byte is 0, two of them spelled twice.
use Rattle.std.specs.Prelude.{◌≡◌, ℕ, ◌-◌, ◌<◌, ◌^◌, List, ◌∷◌, ◌++◌, length, take, count_by, ◌==◌}
use Rattle.std.specs.Int.{w32, from_be_bytes}
use Rattle.md5.specs.Md5.{md5}
use Rattle.commit_frames.specs.Digits.{digits}
use Rattle.commit_frames.specs.declared.header.Header.{Header}
use Rattle.commit_frames.specs.declared.mark.Mark.{Mark}
use Rattle.commit_frames.specs.declared.mark.Mark.TheVariants as marks

-- the first byte of a frame
abbrev pub mark_byte : Mark → ℕ
mark_byte marks.Commit = 199
mark_byte marks.Part = 180
mark_byte marks.Turn = 218
mark_byte marks.Cancel = 173

-- how much smaller a number is than the greatest of five digits: each digit of the one tells that of the other
abbrev pub rest_of : ℕ → ℕ
rest_of n = 2 ^ 35 - 1 - n

-- the header up to its check: the mark, the serial number of the frame and of the first one that counts,
-- the length of the payload and how many of its bytes are 0, and what is left of these two
unfoldable pub front_bytes : Mark → (serial first size zeros : ℕ) → List ℕ
front_bytes mark serial first size zeros =
    mark_byte mark ∷ (digits 9 serial ++ (digits 9 first ++ (digits 5 size ++ (digits 5 zeros ++ (digits 5 (rest_of size) ++ digits 5 (rest_of zeros))))))

unfoldable pub header_bytes : Header → List ℕ
header_bytes h = front_bytes h.mark h.serial h.first h.length h.zeros ++ digits 5 h.check

-- the numbers of a header fit in their digits
pub record FitsHeader (h : Header) : Type 0 where
  pub serial : h.serial < 2 ^ 63
  pub first : h.first < 2 ^ 63
  pub size : h.length < 2 ^ 35
  pub zeros : h.zeros < 2 ^ 35
  pub check : h.check < 2 ^ 35

-- how many bytes are 0
abbrev pub zeros_in : List ℕ → ℕ
zeros_in bytes = count_by (λ byte. byte == 0) bytes

-- the first four bytes of the digest of the front of the header and the payload
unfoldable pub check_of : (front payload : List ℕ) → ℕ
check_of front payload = from_be_bytes w32 (take 4 (md5 (front ++ payload)))

-- the header of this payload
abbrev pub header_of : Mark → (serial first : ℕ) → (payload : List ℕ) → Header
header_of mark serial first payload = record {
  mark = mark;
  serial = serial;
  first = first;
  length = length payload;
  zeros = zeros_in payload;
  check = check_of (front_bytes mark serial first (length payload) (zeros_in payload)) payload;
}

-- no byte of this payload was lost: it is as long as the header says, and has as many zeros
pub record IsWhole (h : Header) (payload : List ℕ) : Type 0 where
  pub size : h.length ≡ length payload
  pub zeros : h.zeros ≡ zeros_in payload

-- the check fits the header and the payload
abbrev pub IsSound : Header → List ℕ → Type 0
IsSound h payload = h.check ≡ check_of (front_bytes h.mark h.serial h.first h.length h.zeros) payload
