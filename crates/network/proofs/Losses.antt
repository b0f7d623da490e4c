-- The waiting messages after a loss.
use Rattle.std.proofs.Common.{◌≡◌, ◌&&◌, refl, ap, sym, ◌∙◌, ℕ, zero, suc, Bool, true, false, List, [], ◌∷◌, Option, None, Some}
use Rattle.std.specs.Prelude.{not, slice_get, slice_index_or}
use Rattle.std.specs.Option.{option_map_or}
use Rattle.std.proofs.lemmas.Bool.{and_right}
use Rattle.wire_frames.specs.declared.frame.Frame.{Frame}
use Rattle.network.specs.Mail.{Mail, lost, goes, waits_without, oldest, is_waiting}
use Rattle.network.proofs.Least.{least_none, past}

both_tests : (w test kind : Bool) → ((w && not kind) && test) ≡ (w && (test && not kind))
both_tests true true true = refl
both_tests true true false = refl
both_tests true false kind = and_right (not kind) false refl
both_tests false test kind = refl

-- a message waits and passes the test after a loss exactly if it did before and is not of the lost
-- kind
waiting_without : (test kind : Frame → Bool) (sent : List Frame) (waits : List Bool) (n : ℕ) → is_waiting test (record { sent = sent; waits = waits_without kind sent waits }) n ≡ is_waiting (λ f. test f && not (kind f)) (record { sent = sent; waits = waits }) n
waiting_without test kind [] waits n = past test waits n ∙ sym (past (λ f. test f && not (kind f)) waits n)
waiting_without test kind (f ∷ sent) [] n = refl
waiting_without test kind (f ∷ sent) (w ∷ waits) zero = both_tests w (test f) (kind f)
waiting_without test kind (f ∷ sent) (w ∷ waits) (suc n) = waiting_without test kind sent waits n

not_both : (b : Bool) → (b && not b) ≡ false
not_both true = refl
not_both false = refl

of_no_kind : (kind : Frame → Bool) (w : Bool) (o : Option Frame) → (w && option_map_or (λ f. kind f && not (kind f)) o false) ≡ false
of_no_kind kind w None = and_right w false refl
of_no_kind kind w (Some f) = and_right w _ (not_both (kind f))

pub lost_is_gone : (m : Mail) (from to : ℕ) → oldest (goes from to) (lost from to m) ≡ None
lost_is_gone m from to =
    least_none (goes from to) m.sent _ (λ n. waiting_without (goes from to) (goes from to) m.sent m.waits n ∙ of_no_kind (goes from to) (slice_index_or m.waits n false) (slice_get m.sent n))

passes_alone : (test kind : Bool) → (test ≡ true → kind ≡ false) → (test && not kind) ≡ test
passes_alone true kind apart = ap not (apart refl)
passes_alone false kind apart = refl

pub others_stay : (test : Frame → Bool) (m : Mail) (from to n : ℕ) → ((f : Frame) → test f ≡ true → goes from to f ≡ false) → is_waiting test (lost from to m) n ≡ is_waiting test m n
others_stay test m from to n apart =
    waiting_without test (goes from to) m.sent m.waits n
    ∙ ap (λ (t : Frame → Bool). is_waiting t m n) (λ i f. passes_alone (test f) (goes from to f) (apart f) i)
