-- The grammar of frames.
use Rattle.std.proofs.Common.{◌≡◌, ℕ, ◌+◌, ◌-◌, ◌<◌, ◌≤◌, ◌^◌, Bool, true, false, cond, eqb, List, [], ◌∷◌, ◌++◌, length, get_or, drop, Result, Ok, Err, refl, sym, ap, subst, ◌∙◌, append-nil, arith, eq-eqb}
use Rattle.std.specs.Prelude.{IfOk, nat_lt, nat_le, ◌&&◌, ◌==◌}
use Rattle.std.proofs.lemmas.Bool.{eqb-true, ltb-false, le-ltb, lt-ltb}
use Rattle.std.proofs.lemmas.Bool.Decides.{nat_tests}
use Rattle.std.proofs.lemmas.List.{drop_all}
use Rattle.byteorder.specs.Endian.{big_bytes, big_number}
use Rattle.byteorder.specs.Numbers.{big_number-reads_back}
use Rattle.fields.specs.declared.field_error.FieldError.{FieldError}
use Rattle.fields.specs.declared.field_error.FieldError.TheVariants as fields
use Rattle.ens_base.specs.Limits.{IsBytes}
use Rattle.fields.specs.Places.{Spells}
use Rattle.fields.proofs.ByteLaws.{Spells-then}
use Rattle.fields.proofs.GrammarLaws.{test_ok, guard_ok, ok_is, right, apart}
use Rattle.fields.proofs.NumberLaws.{byte_grammar, u16_grammar, u32_grammar}
use Rattle.wire_frames.specs.declared.message.Message.{Message}
use Rattle.wire_frames.specs.declared.message.Message.TheVariants as messages
use Rattle.wire_frames.specs.declared.frame.Frame.{Frame}
use Rattle.wire_frames.specs.declared.error.FrameError.{FrameError}
use Rattle.wire_frames.specs.declared.error.FrameError.TheVariants.{Short, Magic, Version, Kind, Length, Trailing, Field}
use Rattle.wire_frames.specs.Messages.{kind_of, message_spelling, message_at}
use Rattle.wire_frames.specs.Frames.{IsEnd, IsFrame, frame_spelling, all_of, second_version_of, frame_of, Answers}
use Rattle.wire_frames.proofs.MessageLaws.{message_grammar}
use Rattle.wire_frames.proofs.SizeLaws.{message_size}

-- what was read, where a frame was made of it
all_ok : (from to size : ℕ) (r : Result (Message × ℕ) FieldError) (f : Frame) → all_of from to size r ≡ right FrameError f → (m : Message) × (r ≡ Ok (m, size)) × ((let made : Frame = record { from = from; to = to; message = m } in made) ≡ f)
all_ok from to size (Ok x) f e = by (eqb x.1 size) refl e
  where
    made : Frame
    made = record { from = from; to = to; message = x.0 }

    by : (b : Bool) → eqb x.1 size ≡ b → cond b (right FrameError made) (Err (Field x.1)) ≡ right FrameError f → (m : Message) × (right FieldError x ≡ Ok (m, size)) × ((let made : Frame = record { from = from; to = to; message = m } in made) ≡ f)
    by true t h = let ends : x.1 ≡ size = eqb-true _ _ t in (x.0, ap (λ (n : ℕ). right FieldError (x.0, n)) ends, ok_is FrameError made f h)
    by false t h = absurd cc
all_ok from to size (Err (fields.Short at)) f e = absurd cc
all_ok from to size (Err (fields.Rule at)) f e = absurd cc
all_ok from to size (Err fields.Memory) f e = absurd cc

from_two : (x y a b : ℕ) → (x == a && y == b) ≡ true → (x ≡ a) × (y ≡ b)
from_two x y a b h = grind (arith, nat_tests)

from_range : (n k : ℕ) → (nat_le 1 n && nat_le n k) ≡ true → (1 ≤ n) × (n ≤ k)
from_range n k h = grind (arith, nat_tests)

to_range : (n k : ℕ) → (1 ≤ n) × (n ≤ k) → (nat_le 1 n && nat_le n k) ≡ true
to_range n k h = grind (arith, nat_tests)

byte_read : (bytes : List ℕ) (at : ℕ) → at < length bytes → IsBytes bytes → Spells bytes at (get_or bytes at 0 ∷ []) (at + 1)
byte_read bytes at lt fits =
    let inside : nat_lt at (length bytes) ≡ true = lt-ltb _ _ lt in
    (byte_grammar.found bytes at (get_or bytes at 0) (at + 1) fits (rw inside refl)).0

u32_read : (bytes : List ℕ) (at : ℕ) → at + 4 ≤ length bytes → IsBytes bytes → Spells bytes at (big_bytes 4 (big_number 4 (drop at bytes))) (at + 4)
u32_read bytes at le fits =
    let long : nat_lt (length bytes - at) 4 ≡ false = le-ltb _ _ (omega arith) in
    (u32_grammar.found bytes at (big_number 4 (drop at bytes)) (at + 4) fits (rw long refl)).0

u16_read : (bytes : List ℕ) (at : ℕ) → at + 2 ≤ length bytes → IsBytes bytes → Spells bytes at (big_bytes 2 (big_number 2 (drop at bytes))) (at + 2)
u16_read bytes at le fits =
    let long : nat_lt (length bytes - at) 2 ≡ false = le-ltb _ _ (omega arith) in
    (u16_grammar.found bytes at (big_number 2 (drop at bytes)) (at + 2) fits (rw long refl)).0

-- the tests that bytes pass from which a frame was read
record Passes (bytes : List ℕ) (f : Frame) : Type 0 where
  long : 14 ≤ length bytes
  magic : (get_or bytes 0 0 ≡ 0x52) × (get_or bytes 1 0 ≡ 0x45)
  version : get_or bytes 2 0 ≡ 2
  kind : (1 ≤ get_or bytes 3 0) × (get_or bytes 3 0 ≤ 19)
  size : length bytes ≡ 14 + big_number 2 (drop 12 bytes)
  from : IsEnd (big_number 4 (drop 4 bytes))
  to : IsEnd (big_number 4 (drop 8 bytes))
  read : all_of (big_number 4 (drop 4 bytes)) (big_number 4 (drop 8 bytes)) (length bytes) (message_at (get_or bytes 3 0) bytes 14) ≡ right FrameError f

passes : (bytes : List ℕ) (f : Frame) → frame_of bytes ≡ Ok f → Passes bytes f
unfolding frame_of second_version_of
passes bytes f e =
    let kind : ℕ = get_or bytes 3 0 in
    let size : ℕ = big_number 2 (drop 12 bytes) in
    let a = guard_ok (nat_lt (length bytes) 14) Short _ f e in
    let b = test_ok (get_or bytes 0 0 == 0x52 && get_or bytes 1 0 == 0x45) _ Magic f a.1 in
    let c = test_ok (get_or bytes 2 0 == 2) _ Version f b.1 in
    let d = test_ok (nat_le 1 (get_or bytes 3 0) && nat_le (get_or bytes 3 0) 19) _ Kind f c.1 in
    let g = guard_ok (nat_lt 4096 (big_number 2 (drop 12 bytes))) Length _ f d.1 in
    let h = guard_ok (nat_lt (length bytes) (14 + big_number 2 (drop 12 bytes))) Short _ f g.1 in
    let i = guard_ok (nat_lt (14 + big_number 2 (drop 12 bytes)) (length bytes)) Trailing _ f h.1 in
    let j = test_ok (nat_le 1 (big_number 4 (drop 4 bytes)) && nat_le (big_number 4 (drop 4 bytes)) 63) _ (Field 4) f i.1 in
    let k = test_ok (nat_le 1 (big_number 4 (drop 8 bytes)) && nat_le (big_number 4 (drop 8 bytes)) 63) _ (Field 8) f j.1 in
    record {
      long = ltb-false _ _ a.0;
      magic = from_two _ _ _ _ b.0;
      version = eqb-true _ _ c.0;
      kind = from_range _ _ d.0;
      size = omega (arith, ltb-false _ _ h.0, ltb-false _ _ i.0);
      from = from_range _ _ j.0;
      to = from_range _ _ k.0;
      read = k.1;
    }

header_spelled : (bytes : List ℕ) (kind from to size : ℕ) → 14 ≤ length bytes → IsBytes bytes → get_or bytes 0 0 ≡ 0x52 → get_or bytes 1 0 ≡ 0x45 → get_or bytes 2 0 ≡ 2 → get_or bytes 3 0 ≡ kind
    → big_number 4 (drop 4 bytes) ≡ from → big_number 4 (drop 8 bytes) ≡ to → big_number 2 (drop 12 bytes) ≡ size
    → bytes ≡ (0x52 ∷ 0x45 ∷ 2 ∷ kind ∷ [] ++ big_bytes 4 from ++ big_bytes 4 to ++ big_bytes 2 size) ++ drop 14 bytes
header_spelled bytes kind from to size long fits m0 m1 v k f t s =
    let p0 = Spells-then bytes 0 (get_or bytes 0 0 ∷ []) 1 (get_or bytes 1 0 ∷ []) 2 (byte_read bytes 0 (omega arith) fits) (byte_read bytes 1 (omega arith) fits) in
    let p1 = Spells-then bytes 0 (get_or bytes 0 0 ∷ get_or bytes 1 0 ∷ []) 2 (get_or bytes 2 0 ∷ []) 3 p0 (byte_read bytes 2 (omega arith) fits) in
    let p2 = Spells-then bytes 0 (get_or bytes 0 0 ∷ get_or bytes 1 0 ∷ get_or bytes 2 0 ∷ []) 3 (get_or bytes 3 0 ∷ []) 4 p1 (byte_read bytes 3 (omega arith) fits) in
    let start : List ℕ = get_or bytes 0 0 ∷ get_or bytes 1 0 ∷ get_or bytes 2 0 ∷ get_or bytes 3 0 ∷ [] in
    let p3 = Spells-then bytes 0 (get_or bytes 0 0 ∷ get_or bytes 1 0 ∷ get_or bytes 2 0 ∷ get_or bytes 3 0 ∷ []) 4 (big_bytes 4 (big_number 4 (drop 4 bytes))) 8 p2 (u32_read bytes 4 (omega arith) fits) in
    let p4 = Spells-then bytes 0 (get_or bytes 0 0 ∷ get_or bytes 1 0 ∷ get_or bytes 2 0 ∷ get_or bytes 3 0 ∷ [] ++ big_bytes 4 (big_number 4 (drop 4 bytes))) 8 (big_bytes 4 (big_number 4 (drop 8 bytes))) 12 p3 (u32_read bytes 8 (omega arith) fits) in
    let p5 = Spells-then bytes 0 (get_or bytes 0 0 ∷ get_or bytes 1 0 ∷ get_or bytes 2 0 ∷ get_or bytes 3 0 ∷ [] ++ big_bytes 4 (big_number 4 (drop 4 bytes)) ++ big_bytes 4 (big_number 4 (drop 8 bytes))) 12 (big_bytes 2 (big_number 2 (drop 12 bytes))) 14 p4 (u16_read bytes 12 (omega arith) fits) in
    p5.parts ∙ same_header (get_or bytes 0 0) (get_or bytes 1 0) (get_or bytes 2 0) (get_or bytes 3 0) (big_number 4 (drop 4 bytes)) (big_number 4 (drop 8 bytes)) (big_number 2 (drop 12 bytes)) 0x52 0x45 2 kind from to size (drop 14 bytes) m0 m1 v k f t s
  where
    same_header : (a b c d e g h a' b' c' d' e' g' h' : ℕ) (rest : List ℕ) → a ≡ a' → b ≡ b' → c ≡ c' → d ≡ d' → e ≡ e' → g ≡ g' → h ≡ h'
        → (a ∷ b ∷ c ∷ d ∷ [] ++ big_bytes 4 e ++ big_bytes 4 g ++ big_bytes 2 h) ++ rest ≡ (a' ∷ b' ∷ c' ∷ d' ∷ [] ++ big_bytes 4 e' ++ big_bytes 4 g' ++ big_bytes 2 h') ++ rest
    same_header a b c d e g h a' b' c' d' e' g' h' rest p q r s t u v = λ i. (p i ∷ q i ∷ r i ∷ s i ∷ [] ++ big_bytes 4 (t i) ++ big_bytes 4 (u i) ++ big_bytes 2 (v i)) ++ rest

-- what is read was spelled so
frame_takes : (bytes : List ℕ) (f : Frame) → IsBytes bytes → frame_of bytes ≡ Ok f → IsFrame f × (bytes ≡ frame_spelling f)
frame_takes bytes f fits e =
    let p = passes bytes f e in
    let a = all_ok (big_number 4 (drop 4 bytes)) (big_number 4 (drop 8 bytes)) (length bytes) (message_at (get_or bytes 3 0) bytes 14) f p.read in
    let g = (message_grammar (get_or bytes 3 0)).found bytes 14 a.0 (length bytes) fits a.1 in
    let body : drop 14 bytes ≡ message_spelling a.0 = g.0.parts ∙ ap (λ (l : List ℕ). message_spelling a.0 ++ l) (drop_all (length bytes) bytes (omega arith)) ∙ append-nil (message_spelling a.0) in
    let size : big_number 2 (drop 12 bytes) ≡ length (message_spelling a.0) = omega (arith, p.size, g.0.place) in
    let head = header_spelled bytes (kind_of a.0) (big_number 4 (drop 4 bytes)) (big_number 4 (drop 8 bytes)) (length (message_spelling a.0)) p.long fits p.magic.0 p.magic.1 p.version (sym g.1.0) refl refl size in
    let whole : bytes ≡ (0x52 ∷ 0x45 ∷ 2 ∷ kind_of a.0 ∷ [] ++ big_bytes 4 (big_number 4 (drop 4 bytes)) ++ big_bytes 4 (big_number 4 (drop 8 bytes)) ++ big_bytes 2 (length (message_spelling a.0))) ++ message_spelling a.0 =
    head ∙ ap (λ (l : List ℕ). (0x52 ∷ 0x45 ∷ 2 ∷ kind_of a.0 ∷ [] ++ big_bytes 4 (big_number 4 (drop 4 bytes)) ++ big_bytes 4 (big_number 4 (drop 8 bytes)) ++ big_bytes 2 (length (message_spelling a.0))) ++ l) body in
    let made : Frame = record { from = big_number 4 (drop 4 bytes); to = big_number 4 (drop 8 bytes); message = a.0 } in
    let valid : IsFrame made = record { from = p.from; to = p.to; message = g.1.1 } in
    subst (λ (x : Frame). IsFrame x × (bytes ≡ frame_spelling x)) a.2 (valid, whole)

pub frame_found : (bytes : List ℕ) (r : Result Frame FrameError) → IsBytes bytes → Answers r (frame_of bytes) → IfOk r (λ f. IsFrame f × (bytes ≡ frame_spelling f))
frame_found bytes (Ok f) fits h = frame_takes bytes f fits h
frame_found bytes (Err e) fits h = tt

kind_range : (m : Message) → (1 ≤ kind_of m) × (kind_of m ≤ 19)
kind_range messages.Probe = (omega arith, omega arith)
kind_range (messages.ProbeReply a) = (omega arith, omega arith)
kind_range (messages.Prepare a) = (omega arith, omega arith)
kind_range (messages.Promise a b) = (omega arith, omega arith)
kind_range (messages.Nack a b) = (omega arith, omega arith)
kind_range (messages.NewEpoch a) = (omega arith, omega arith)
kind_range (messages.Accepted a b) = (omega arith, omega arith)
kind_range (messages.Get a b c) = (omega arith, omega arith)
kind_range (messages.GetReply a b c d e) = (omega arith, omega arith)
kind_range (messages.Put a b) = (omega arith, omega arith)
kind_range (messages.PutReply a b c) = (omega arith, omega arith)
kind_range (messages.Check a b) = (omega arith, omega arith)
kind_range (messages.CheckReply a b) = (omega arith, omega arith)
kind_range (messages.TreeAsk a b c) = (omega arith, omega arith)
kind_range (messages.TreeGive a b c d e) = (omega arith, omega arith)
kind_range (messages.Commit a) = (omega arith, omega arith)
kind_range (messages.Beat a) = (omega arith, omega arith)
kind_range (messages.CallFrame a b c) = (omega arith, omega arith)
kind_range (messages.AnswerFrame a b) = (omega arith, omega arith)

frame_by : (bytes : List ℕ) (kind size from to : ℕ) → 14 ≤ length bytes → get_or bytes 0 0 ≡ 0x52 → get_or bytes 1 0 ≡ 0x45 → get_or bytes 2 0 ≡ 2 → get_or bytes 3 0 ≡ kind → (1 ≤ kind) × (kind ≤ 19)
    → big_number 2 (drop 12 bytes) ≡ size → size ≤ 4096 → length bytes ≡ 14 + size → big_number 4 (drop 4 bytes) ≡ from → IsEnd from → big_number 4 (drop 8 bytes) ≡ to → IsEnd to
    → frame_of bytes ≡ all_of from to (length bytes) (message_at kind bytes 14)
unfolding frame_of second_version_of
frame_by bytes kind size from to long m0 m1 v k kr s small len f fr t tr =
    let a : nat_lt (length bytes) 14 ≡ false = le-ltb _ _ (omega arith) in
    let c : (nat_le 1 kind && nat_le kind 19) ≡ true = to_range kind 19 kr in
    let d : nat_lt 4096 size ≡ false = le-ltb _ _ small in
    let g : nat_lt (length bytes) (14 + size) ≡ false = le-ltb _ _ (omega arith) in
    let h : nat_lt (14 + size) (length bytes) ≡ false = le-ltb _ _ (omega arith) in
    let i : (nat_le 1 from && nat_le from 63) ≡ true = to_range from 63 fr in
    let j : (nat_le 1 to && nat_le to 63) ≡ true = to_range to 63 tr in
    rw (a, m0, m1, v, k, c, s, d, g, h, f, i, t, j) refl

-- what is spelled so is read
pub frame_again : (bytes : List ℕ) (f : Frame) → IsFrame f → bytes ≡ frame_spelling f → frame_of bytes ≡ Ok f
frame_again bytes f good e = subst (λ (l : List ℕ). frame_of l ≡ Ok f) (sym e) spelled
  where
    body : List ℕ
    body = message_spelling f.message

    fits : length (message_spelling f.message) ≤ 4096
    fits = message_size f.message good.message

    tail : List ℕ
    tail = big_bytes 4 f.from ++ big_bytes 4 f.to ++ big_bytes 2 (length (message_spelling f.message)) ++ message_spelling f.message

    read : message_at (kind_of f.message) (frame_spelling f) 14 ≡ Ok (f.message, 14 + length (message_spelling f.message))
    read = (message_grammar (kind_of f.message)).again (frame_spelling f) 14 f.message [] (refl, good.message) (sym (append-nil (message_spelling f.message)))

    size : length (frame_spelling f) ≡ 14 + length (message_spelling f.message)
    size = omega arith

    ends : eqb (14 + length (message_spelling f.message)) (length (frame_spelling f)) ≡ true
    ends = eq-eqb _ _ (sym size)

    spelled : frame_of (frame_spelling f) ≡ Ok f
    spelled =
        frame_by (frame_spelling f) (kind_of f.message) (length (message_spelling f.message)) f.from f.to (omega arith) refl refl refl refl (kind_range f.message)
        (big_number-reads_back 2 (length (message_spelling f.message)) (message_spelling f.message) (omega (arith, fits))) fits size
        (big_number-reads_back 4 f.from (big_bytes 4 f.to ++ big_bytes 2 (length (message_spelling f.message)) ++ message_spelling f.message) (omega (arith, good.from))) good.from
        (big_number-reads_back 4 f.to (big_bytes 2 (length (message_spelling f.message)) ++ message_spelling f.message) (omega (arith, good.to))) good.to
        ∙ rw (read, ends) refl

end_fits : (n : ℕ) → IsEnd n → n < 2 ^ 32
end_fits n h = omega arith

-- no frame's spelling begins another's
pub frames_apart : (x y : Frame) (a b : List ℕ) → IsFrame x → IsFrame y → frame_spelling x ++ a ≡ frame_spelling y ++ b → (x ≡ y) × (a ≡ b)
frames_apart x y a b good fine same =
    let kinds : kind_of x.message ≡ kind_of y.message = ap (λ (l : List ℕ). get_or l 3 0) same in
    let after : big_bytes 4 x.from ++ (big_bytes 4 x.to ++ (big_bytes 2 (length (message_spelling x.message)) ++ (message_spelling x.message ++ a))) ≡ big_bytes 4 y.from ++ (big_bytes 4 y.to ++ (big_bytes 2 (length (message_spelling y.message)) ++ (message_spelling y.message ++ b))) = ap (λ (l : List ℕ). drop 4 l) same in
    let senders = apart u32_grammar x.from y.from _ _ (end_fits x.from good.from) (end_fits y.from fine.from) after in
    let receivers = apart u32_grammar x.to y.to _ _ (end_fits x.to good.to) (end_fits y.to fine.to) senders.1 in
    let bodies : message_spelling x.message ++ a ≡ message_spelling y.message ++ b = ap (λ (l : List ℕ). drop 2 l) receivers.1 in
    let messages = apart (message_grammar (kind_of x.message)) x.message y.message a b (refl, good.message) (sym kinds, fine.message) bodies in
    ((λ i. record { from = senders.0 i; to = receivers.0 i; message = messages.0 i }), messages.1)
