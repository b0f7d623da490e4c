-- The record at the front of some bytes.
use Rattle.std.proofs.Common.{◌≡◌, ℕ, ◌+◌, ◌<◌, ◌≤◌, ◌^◌, List, [], ◌∷◌, ◌++◌, length, take, drop, Option, None, Some, Bool, true, false, refl, sym, ap, ◌∙◌, subst, arith, length-append, append_assoc}
use Rattle.std.specs.Prelude.{nat_le, ◌==◌, ◌&&◌, if◌then◌else◌}
use Rattle.std.specs.Int.{w64, from_be_bytes, to_be_bytes}
use Rattle.std.proofs.Math.Seq.{take-append_seam, drop-append_seam, drop-append-add}
use Rattle.std.proofs.lemmas.List.{take-append-drop, take-take, drop-drop, length-take, length-drop}
use Rattle.std.proofs.lemmas.Nat.{from_be_bytes-to_be_bytes_8}
use Rattle.std.proofs.lemmas.Bool.{eqb-true}
use Rattle.std.proofs.lemmas.Bool.Decides.{nat_tests}
use Rattle.disk_stores.specs.Records.{Prefix, prefix_of, with_header, cut_header, header_in, is_marked, record_bytes}
use Rattle.disk_stores.specs.declared.header.Header.{Header}

abbrev made : List ℕ → List ℕ → List ℕ → Prefix
made a b c = record { name = a; content = b; rest = c }

abbrev some_or : {A : Type 0} → A → Option A → A
some_or x None = x
some_or x (Some y) = y

abbrev headed : ℕ → List ℕ → Header
headed len name = record { name = name; len = len }

pub none_is_some : {A : Type 0} (x : A) → None ≡ Some x → ⊥
none_is_some x is = grind (arith, is)

-- ---- headers

record HeaderCuts (t : Bool) (size len : ℕ) (tail : List ℕ) (h : Header) : Type 0 where
  yes : t ≡ true
  fits : size ≤ length tail
  name : h.name ≡ take size tail
  long : h.len ≡ len

header_some : (t : Bool) (size len : ℕ) (tail : List ℕ) (h : Header) → cut_header t size len tail ≡ Some h → HeaderCuts t size len tail h
header_some false size len tail h is = absurd (none_is_some h is)
header_some true size len tail h is = by (nat_le size (length tail)) refl is
  where
    by : (b : Bool) → nat_le size (length tail) ≡ b → (if b then Some (headed len (take size tail)) else None) ≡ Some h → HeaderCuts true size len tail h
    by false p e = absurd (none_is_some h e)
    by true p e = grind (arith, nat_tests)

-- the name is cut again, whatever follows it
header_again : (t : Bool) (size len : ℕ) (tail : List ℕ) (h : Header) → HeaderCuts t size len tail h → (rest : List ℕ) → cut_header t size len (h.name ++ rest) ≡ Some h
header_again t size len tail h k rest =
    let size_is : length h.name ≡ size = ap length k.name ∙ (let e : length (take size tail) ≡ size = omega (arith, length-take size tail, k.fits) in e) in
    let fits : nat_le size (length (h.name ++ rest)) ≡ true = grind (arith, nat_tests, length-append h.name rest, size_is) in
    let name : take size (h.name ++ rest) ≡ h.name = ap (λ (n : ℕ). take n (h.name ++ rest)) (sym size_is) ∙ take-append_seam h.name rest in
    ap (λ (b : Bool). cut_header b size len (h.name ++ rest)) k.yes
    ∙ ap (λ (b : Bool). if b then Some (headed len (take size (h.name ++ rest))) else None) fits
    ∙ ap (λ (l : List ℕ). Some (headed len l)) name
    ∙ ap (λ (n : ℕ). Some (headed n h.name)) (sym k.long)

-- the ten bytes before the name of the record at the front
record Headed (bytes : List ℕ) (h : Header) : Type 0 where
  head : List ℕ
  ten : length head ≡ 10
  split : bytes ≡ head ++ (h.name ++ drop (10 + length h.name) bytes)
  again : (rest : List ℕ) → header_in (head ++ (h.name ++ rest)) ≡ Some h

headed_bytes : (bytes : List ℕ) (h : Header) → header_in bytes ≡ Some h → Headed bytes h
headed_bytes (mark ∷ size ∷ a ∷ b ∷ c ∷ d ∷ e ∷ f ∷ g ∷ h ∷ tail) header is =
    let len = from_be_bytes w64 (a ∷ b ∷ c ∷ d ∷ e ∷ f ∷ g ∷ h ∷ []) in
    let t = mark == 1 && nat_le size 255 in
    let k = header_some t size len tail header is in
    let bytes = mark ∷ size ∷ a ∷ b ∷ c ∷ d ∷ e ∷ f ∷ g ∷ h ∷ tail in
    let size_is : length header.name ≡ size = ap length k.name ∙ (let e : length (take size tail) ≡ size = omega (arith, length-take size tail, k.fits) in e) in
    let rest : drop size tail ≡ drop (10 + length header.name) bytes = ap (λ (n : ℕ). drop n tail) (sym size_is) ∙ drop-drop (length header.name) 10 bytes in
    let parts : tail ≡ header.name ++ drop (10 + length header.name) bytes = sym (take-append-drop size tail) ∙ ap (λ (l : List ℕ). l ++ drop size tail) (sym k.name) ∙ ap (λ (l : List ℕ). header.name ++ l) rest in
    record {
      head = mark ∷ size ∷ a ∷ b ∷ c ∷ d ∷ e ∷ f ∷ g ∷ h ∷ [];
      ten = refl;
      split = ap (λ (l : List ℕ). mark ∷ size ∷ a ∷ b ∷ c ∷ d ∷ e ∷ f ∷ g ∷ h ∷ l) parts;
      again = header_again t size len tail header k;
    }
headed_bytes [] header is = absurd (none_is_some header is)
headed_bytes (m ∷ []) header is = absurd (none_is_some header is)
headed_bytes (m ∷ s ∷ []) header is = absurd (none_is_some header is)
headed_bytes (m ∷ s ∷ a ∷ []) header is = absurd (none_is_some header is)
headed_bytes (m ∷ s ∷ a ∷ b ∷ []) header is = absurd (none_is_some header is)
headed_bytes (m ∷ s ∷ a ∷ b ∷ c ∷ []) header is = absurd (none_is_some header is)
headed_bytes (m ∷ s ∷ a ∷ b ∷ c ∷ d ∷ []) header is = absurd (none_is_some header is)
headed_bytes (m ∷ s ∷ a ∷ b ∷ c ∷ d ∷ e ∷ []) header is = absurd (none_is_some header is)
headed_bytes (m ∷ s ∷ a ∷ b ∷ c ∷ d ∷ e ∷ f ∷ []) header is = absurd (none_is_some header is)
headed_bytes (m ∷ s ∷ a ∷ b ∷ c ∷ d ∷ e ∷ f ∷ g ∷ []) header is = absurd (none_is_some header is)

-- the first 265 bytes determine the header
header_cut : (t : Bool) (size len : ℕ) (tail : List ℕ) → cut_header (t && nat_le size 255) size len (take 255 tail) ≡ cut_header (t && nat_le size 255) size len tail
header_cut false size len tail = refl
header_cut true size len tail = by (nat_le size 255) refl
  where
    by : (b : Bool) → nat_le size 255 ≡ b → cut_header b size len (take 255 tail) ≡ cut_header b size len tail
    by false p = refl
    by true p =
        let le : size ≤ 255 = grind (arith, nat_tests, p) in
        let same : nat_le size (length (take 255 tail)) ≡ nat_le size (length tail) = grind (arith, nat_tests, length-take 255 tail) in
        ap (λ (b : Bool). if b then Some (headed len (take size (take 255 tail))) else None) same
        ∙ ap (λ (l : List ℕ). if nat_le size (length tail) then Some (headed len l) else None) (take-take size 255 tail le)

pub header_shown : (bytes : List ℕ) → header_in (take 265 bytes) ≡ header_in bytes
header_shown (mark ∷ size ∷ a ∷ b ∷ c ∷ d ∷ e ∷ f ∷ g ∷ h ∷ tail) = header_cut (mark == 1) size (from_be_bytes w64 (a ∷ b ∷ c ∷ d ∷ e ∷ f ∷ g ∷ h ∷ [])) tail
header_shown [] = refl
header_shown (m ∷ []) = refl
header_shown (m ∷ s ∷ []) = refl
header_shown (m ∷ s ∷ a ∷ []) = refl
header_shown (m ∷ s ∷ a ∷ b ∷ []) = refl
header_shown (m ∷ s ∷ a ∷ b ∷ c ∷ []) = refl
header_shown (m ∷ s ∷ a ∷ b ∷ c ∷ d ∷ []) = refl
header_shown (m ∷ s ∷ a ∷ b ∷ c ∷ d ∷ e ∷ []) = refl
header_shown (m ∷ s ∷ a ∷ b ∷ c ∷ d ∷ e ∷ f ∷ []) = refl
header_shown (m ∷ s ∷ a ∷ b ∷ c ∷ d ∷ e ∷ f ∷ g ∷ []) = refl

-- ---- records

-- after a header with a name and a content of this length, the record is whole, whatever follows it
prefix_plain : (head name content rest : List ℕ) (h : Header) → length head ≡ 10 → header_in (head ++ (name ++ (content ++ 1 ∷ rest))) ≡ Some h → h.name ≡ name → h.len ≡ length content
    → prefix_of (head ++ (name ++ (content ++ 1 ∷ rest))) ≡ Some (record { name = name; content = content; rest = rest })
prefix_plain head name content rest h ten is named long =
    ap (λ (o : Option Header). with_header o bytes) is
    ∙ ap (λ (b : Bool). if b then Some (made h.name (take h.len (drop (10 + length h.name) bytes)) (drop (11 + length h.name + h.len) bytes)) else None) marked
    ∙ ap (λ (l : List ℕ). Some (made l (take h.len (drop (10 + length h.name) bytes)) (drop (11 + length h.name + h.len) bytes))) named
    ∙ ap (λ (l : List ℕ). Some (made name l (drop (11 + length h.name + h.len) bytes))) held
    ∙ ap (λ (l : List ℕ). Some (made name content l)) after
  where
    bytes : List ℕ
    bytes = head ++ (name ++ (content ++ 1 ∷ rest))

    behind : (k : ℕ) (n : ℕ) → n ≡ 10 + length h.name + k → drop n (head ++ (name ++ (content ++ 1 ∷ rest))) ≡ drop k (content ++ 1 ∷ rest)
    behind k n is_n =
        let first : n ≡ length head + (length name + k) = omega (arith, is_n, ten, ap length named) in
        ap (λ (m : ℕ). drop m (head ++ (name ++ (content ++ 1 ∷ rest)))) first
        ∙ drop-append-add head (name ++ (content ++ 1 ∷ rest)) (length name + k)
        ∙ drop-append-add name (content ++ 1 ∷ rest) k

    held : take h.len (drop (10 + length h.name) (head ++ (name ++ (content ++ 1 ∷ rest)))) ≡ content
    held = ap (take h.len) (behind 0 (10 + length h.name) (omega arith)) ∙ ap (λ (n : ℕ). take n (content ++ 1 ∷ rest)) long ∙ take-append_seam content (1 ∷ rest)

    last : drop (10 + length h.name + h.len) (head ++ (name ++ (content ++ 1 ∷ rest))) ≡ 1 ∷ rest
    last = behind h.len (10 + length h.name + h.len) refl ∙ ap (λ (n : ℕ). drop n (content ++ 1 ∷ rest)) long ∙ drop-append_seam content (1 ∷ rest)

    marked : is_marked (drop (10 + length h.name + h.len) (head ++ (name ++ (content ++ 1 ∷ rest)))) ≡ true
    marked = ap is_marked last

    after : drop (11 + length h.name + h.len) (head ++ (name ++ (content ++ 1 ∷ rest))) ≡ rest
    after = behind (h.len + 1) (11 + length h.name + h.len) (omega arith) ∙ ap (λ (n : ℕ). drop (n + 1) (content ++ 1 ∷ rest)) long ∙ drop-append-add content (1 ∷ rest) 1

-- the bytes of the record at the front, which are read so whatever follows them
pub record Chunk (bytes : List ℕ) (r : Prefix) : Type 0 where
  pub chunk : List ℕ
  pub split : bytes ≡ chunk ++ r.rest
  pub reads : (rest : List ℕ) → prefix_of (chunk ++ rest) ≡ Some (record { name = r.name; content = r.content; rest = rest })
  pub size : length chunk ≡ 11 + length r.name + length r.content
  pub holds : take (length r.content) (drop (10 + length r.name) chunk) ≡ r.content

chunk_joined : (head name content rest : List ℕ) → (head ++ (name ++ (content ++ 1 ∷ []))) ++ rest ≡ head ++ (name ++ (content ++ 1 ∷ rest))
chunk_joined head name content rest =
    append_assoc head (name ++ (content ++ 1 ∷ [])) rest
    ∙ ap (λ (l : List ℕ). head ++ l) (append_assoc name (content ++ 1 ∷ []) rest ∙ ap (λ (l : List ℕ). name ++ l) (append_assoc content (1 ∷ []) rest))

-- a chunk of these parts
pub chunk_made : (head name content rest : List ℕ) (h : Header) → length head ≡ 10 → ((more : List ℕ) → header_in (head ++ (name ++ more)) ≡ Some h) → h.name ≡ name → h.len ≡ length content
    → Chunk (head ++ (name ++ (content ++ 1 ∷ rest))) (record { name = name; content = content; rest = rest })
chunk_made head name content rest h ten again named long = record {
  chunk = head ++ (name ++ (content ++ 1 ∷ []));
  split = sym (chunk_joined head name content rest);
  reads = λ more. ap prefix_of (chunk_joined head name content more) ∙ prefix_plain head name content more h ten (again (content ++ 1 ∷ more)) named long;
  size = omega (arith, length-append head (name ++ (content ++ 1 ∷ [])), length-append name (content ++ 1 ∷ []), length-append content (1 ∷ []), ten);
  holds =
      ap (λ (n : ℕ). take (length content) (drop (n + length name) (head ++ (name ++ (content ++ 1 ∷ []))))) (sym ten)
      ∙ ap (take (length content)) (drop-append-add head (name ++ (content ++ 1 ∷ [])) (length name) ∙ drop-append_seam name (content ++ 1 ∷ []))
      ∙ take-append_seam content (1 ∷ []);
}

marked_first : (bytes : List ℕ) → is_marked bytes ≡ true → bytes ≡ 1 ∷ drop 1 bytes
marked_first [] is = absurd (grind (arith, is))
marked_first (byte ∷ bytes) is = ap (λ (n : ℕ). n ∷ bytes) (eqb-true byte 1 is)

pub chunk_of : (bytes : List ℕ) (r : Prefix) → prefix_of bytes ≡ Some r → Chunk bytes r
chunk_of bytes r is = by_header (header_in bytes) refl is
  where
    by_mark : (h : Header) → header_in bytes ≡ Some h → (b : Bool) → is_marked (drop (10 + length h.name + h.len) bytes) ≡ b
        → (if b then Some (made h.name (take h.len (drop (10 + length h.name) bytes)) (drop (11 + length h.name + h.len) bytes)) else None) ≡ Some r → Chunk bytes r
    by_mark h told false p e = absurd (none_is_some r e)
    by_mark h told true p e =
        let k = headed_bytes bytes h told in
        let tail = drop (10 + length h.name) bytes in
        let content = take h.len tail in
        let rest = drop (11 + length h.name + h.len) bytes in
        let marked : drop h.len tail ≡ 1 ∷ rest =
        drop-drop h.len (10 + length h.name) bytes
        ∙ marked_first (drop (10 + length h.name + h.len) bytes) p
        ∙ ap (λ (l : List ℕ). 1 ∷ l) (drop-drop 1 (10 + length h.name + h.len) bytes ∙ ap (λ (n : ℕ). drop n bytes) (let e : 10 + length h.name + h.len + 1 ≡ 11 + length h.name + h.len = omega arith in e)) in
        let parts : bytes ≡ k.head ++ (h.name ++ (content ++ 1 ∷ rest)) =
        k.split ∙ ap (λ (l : List ℕ). k.head ++ (h.name ++ l)) (sym (take-append-drop h.len tail) ∙ ap (λ (l : List ℕ). content ++ l) marked) in
        let full : h.len ≤ length tail = omega (arith, ap length marked, length-drop h.len tail) in
        let long : h.len ≡ length content = omega (arith, length-take h.len tail, full) in
        let c = chunk_made k.head h.name content rest h k.ten k.again refl long in
        let same : made h.name content rest ≡ r = ap (some_or (made h.name content rest)) e in
        subst (Chunk bytes) same (subst (λ (l : List ℕ). Chunk l (made h.name content rest)) (sym parts) c)

    by_header : (o : Option Header) → header_in bytes ≡ o → with_header o bytes ≡ Some r → Chunk bytes r
    by_header None told e = absurd (none_is_some r e)
    by_header (Some h) told e = by_mark h told (is_marked (drop (10 + length h.name + h.len) bytes)) refl e

-- what a record spelled is read as
pub record_reads : (name content rest : List ℕ) → length name ≤ 255 → length content < 2 ^ 64 → prefix_of (record_bytes name content ++ rest) ≡ Some (record { name = name; content = content; rest = rest })
record_reads name content rest short small =
    ap prefix_of (chunk_joined (1 ∷ length name ∷ to_be_bytes w64 (length content)) name content rest)
    ∙ prefix_plain (1 ∷ length name ∷ to_be_bytes w64 (length content)) name content rest (headed (length content) name) refl (again (content ++ 1 ∷ rest)) refl refl
  where
    again : (more : List ℕ) → header_in ((1 ∷ length name ∷ to_be_bytes w64 (length content)) ++ (name ++ more)) ≡ Some (headed (length content) name)
    again more =
        let fits : nat_le (length name) 255 ≡ true = grind (arith, nat_tests, short) in
        let within : nat_le (length name) (length (name ++ more)) ≡ true = grind (arith, nat_tests, length-append name more) in
        ap (λ (b : Bool). cut_header b (length name) (from_be_bytes w64 (to_be_bytes w64 (length content))) (name ++ more)) fits
        ∙ ap (λ (n : ℕ). cut_header true (length name) n (name ++ more)) (from_be_bytes-to_be_bytes_8 (length content) small)
        ∙ ap (λ (b : Bool). if b then Some (headed (length content) (take (length name) (name ++ more))) else None) within
        ∙ ap (λ (l : List ℕ). Some (headed (length content) l)) (take-append_seam name more)

-- where the name and the content of a spelled record are
pub record_size : (name content : List ℕ) → length (record_bytes name content) ≡ 11 + length name + length content
record_size name content = omega (arith, length-append name (content ++ 1 ∷ []), length-append content (1 ∷ []))

pub record_holds : (name content : List ℕ) → take (length content) (drop (10 + length name) (record_bytes name content)) ≡ content
record_holds name content =
    ap (take (length content)) (sym (drop-drop (length name) 10 (record_bytes name content)) ∙ drop-append_seam name (content ++ 1 ∷ [])) ∙ take-append_seam content (1 ∷ [])
