-- A frame of which a crash left a part.
use Rattle.std.proofs.Common.{◌≡◌, inl, inr, ⊎_elim, ℕ, zero, suc, ◌+◌, ◌%◌, ◌/◌, ◌<◌, List, [], ◌∷◌, ◌++◌, length, take, drop, get_or, refl, sym, ap, ◌∙◌, arith, length-append}
use Rattle.std.proofs.lemmas.List.{get_or-take, get_or-drop, get_or_append_left, get_or-append-add, length-drop, take-append-drop, ext_get_or}
use Rattle.commit_frames.specs.Digits.{digits}
use Rattle.commit_frames.specs.Headers.{front_bytes, header_bytes, mark_byte, rest_of, FitsHeader, IsWhole, zeros_in}
use Rattle.commit_frames.specs.Frames.{Frame, frame_bytes, IsLostFrom}
use Rattle.commit_frames.specs.declared.header.Header.{Header}
use Rattle.commit_frames.specs.declared.mark.Mark.{Mark}
use Rattle.commit_frames.specs.declared.mark.Mark.TheVariants as marks
use Rattle.commit_frames.proofs.Pieces.{length-header, read_back, read_once}
use Rattle.commit_frames.proofs.Lost.{zeros_same}

-- no byte of a header is 0
pub record NoZero (bytes : List ℕ) : Type 0 where
  pub each : (i : ℕ) → i < length bytes → 0 < get_or bytes i 0

no_zero_cons : (b : ℕ) (bs : List ℕ) → 0 < b → NoZero bs → NoZero (b ∷ bs)
no_zero_cons b bs pos others = record { each = at }
  where
    at : (i : ℕ) → i < length (b ∷ bs) → 0 < get_or (b ∷ bs) i 0
    at zero lt = pos
    at (suc i) lt = others.each i (omega arith)

no_zero_append : (a b : List ℕ) → NoZero a → NoZero b → NoZero (a ++ b)
no_zero_append [] b first second = second
no_zero_append (x ∷ a) b first second = no_zero_cons x (a ++ b) (first.each 0 (omega arith)) (no_zero_append a b (record { each = λ i lt. first.each (suc i) (omega arith) }) second)

no_zero_digits : (k n : ℕ) → NoZero (digits k n)
unfolding digits
no_zero_digits zero n = record { each = λ i lt. absurd (omega arith) }
no_zero_digits (suc k) n = no_zero_cons (128 + n % 128) (digits k (n / 128)) (omega arith) (no_zero_digits k (n / 128))

mark_some : (m : Mark) → 0 < mark_byte m
mark_some marks.Commit = omega arith
mark_some marks.Part = omega arith
mark_some marks.Turn = omega arith
mark_some marks.Cancel = omega arith

pub no_zero_header : (h : Header) → NoZero (header_bytes h)
unfolding header_bytes front_bytes
no_zero_header h =
    no_zero_append _ _
    (no_zero_cons (mark_byte h.mark) _ (mark_some h.mark)
    (no_zero_append _ _ (no_zero_digits 9 h.serial)
    (no_zero_append _ _ (no_zero_digits 9 h.first)
    (no_zero_append _ _ (no_zero_digits 5 h.length)
    (no_zero_append _ _ (no_zero_digits 5 h.zeros)
    (no_zero_append _ _ (no_zero_digits 5 (rest_of h.length)) (no_zero_digits 5 (rest_of h.zeros))))))))
    (no_zero_digits 5 h.check)

-- two headers of the same bytes are the same
pub header_once : (h g : Header) → FitsHeader h → FitsHeader g → header_bytes h ≡ header_bytes g → h ≡ g
header_once h g fits fits' same = read_once (header_bytes h ++ []) h g (read_back (header_bytes h ++ []) h [] fits refl) (read_back (header_bytes h ++ []) g [] fits' (ap (λ (l : List ℕ). l ++ []) same))

-- a header that stands in what a crash left of a frame is that of the frame
pub header_left : (f : Frame) (left : List ℕ) (h : Header) → FitsHeader f.head → IsLostFrom (frame_bytes f) left → FitsHeader h → take 44 left ≡ header_bytes h → h ≡ f.head
header_left f left h fits lost fits' read = header_once h f.head fits' fits (ext_get_or 0 (header_bytes h) (header_bytes f.head) (length-header h ∙ sym (length-header f.head)) at)
  where
    at : (i : ℕ) → i < length (header_bytes h) → get_or (header_bytes h) i 0 ≡ get_or (header_bytes f.head) i 0
    at i lt =
        let small : i < 44 = omega (arith, lt, length-header h) in
        let shown : get_or left i 0 ≡ get_or (header_bytes h) i 0 = sym (get_or-take 44 left i 0 small) ∙ ap (λ (l : List ℕ). get_or l i 0) read in
        let within : i < length (header_bytes f.head) = omega (arith, small, length-header f.head) in
        ⊎_elim (λ (z : get_or left i 0 ≡ 0). absurd (omega (arith, z, shown, (no_zero_header h).each i lt)))
        (λ (e : get_or left i 0 ≡ get_or (frame_bytes f) i 0). sym shown ∙ e ∙ get_or_append_left (header_bytes f.head) f.payload 0 i within)
        (lost.each i (omega (arith, within, length-append (header_bytes f.head) f.payload)))

-- the payload that a crash left
pub payload_left : (f : Frame) (left : List ℕ) → IsLostFrom (frame_bytes f) left → IsLostFrom f.payload (drop 44 left)
payload_left f left lost = record {
  size = (let e : length (drop 44 left) ≡ length f.payload = omega (arith, lost.size, length-drop 44 left, length-header f.head, length-append (header_bytes f.head) f.payload) in e);
  each = λ i lt.
      let shift : get_or (drop 44 left) i 0 ≡ get_or left (44 + i) 0 = get_or-drop 44 left i 0 in
      let under : get_or (frame_bytes f) (44 + i) 0 ≡ get_or f.payload i 0 =
      ap (λ (n : ℕ). get_or (frame_bytes f) (n + i) 0) (sym (length-header f.head)) ∙ get_or-append-add (header_bytes f.head) f.payload i 0 in
      ⊎_elim (λ (z : get_or left (44 + i) 0 ≡ 0). inl (shift ∙ z)) (λ (e : get_or left (44 + i) 0 ≡ get_or (frame_bytes f) (44 + i) 0). inr (shift ∙ e ∙ under))
      (lost.each (44 + i) (omega (arith, lt, length-header f.head, length-append (header_bytes f.head) f.payload)));
}

pub whole_or_none : (f : Frame) (left : List ℕ) (h : Header) → FitsHeader f.head → IsWhole f.head f.payload → IsLostFrom (frame_bytes f) left → FitsHeader h → take 44 left ≡ header_bytes h → IsWhole h (drop 44 left) → left ≡ frame_bytes f
whole_or_none f left h fits whole lost fits' read whole' =
    let same : h ≡ f.head = header_left f left h fits lost fits' read in
    let zeros : zeros_in (drop 44 left) ≡ zeros_in f.payload = sym whole'.zeros ∙ ap (λ (g : Header). g.zeros) same ∙ whole.zeros in
    let rest : drop 44 left ≡ f.payload = zeros_same f.payload (drop 44 left) (payload_left f left lost) zeros in
    sym (take-append-drop 44 left) ∙ (λ i. (read ∙ ap header_bytes same) i ++ rest i)
