-- The messages of a leader go to other peers.
use Rattle.std.specs.Prelude.{All}
use Rattle.std.proofs.Common.{◌≡◌, ◌≢◌, ◌≤◌, ◌+◌, ◌==◌, ◌&&◌, not, ap, sym, refl, lit≤, ℕ, zero, suc, None, Some, Bool, true, false, if◌then◌else◌, List, [], ◌∷◌, ◌∙◌, arith}
use Rattle.std.proofs.lemmas.Bool.{true≢false}
use Rattle.std.proofs.lemmas.List.Elements.{All-nil, All-cons, All-append}
use Rattle.quorums.specs.Quorums.{is_member}
use Rattle.wire_frames.specs.StoredFormats.{Fact}
use Rattle.wire_frames.specs.Messages.{Obeys}
use Rattle.wire_frames.specs.declared.message.Message.{Message}
use Rattle.leader_output.specs.Sends.{is_other, sent_up_to}
use Rattle.leader_laws.specs.Steps.{MayGo}
use Rattle.leader.specs.Ticks.{Finishing, finishing_message, tick_message, ticks_up_to}
use Rattle.leader.specs.declared.leader.Leader.{Leader}
use Rattle.ens_base.proofs.Tests.{itself}

pub not_itself : (b : Bool) (p : ℕ) → (b && not (p == p)) ≡ false
not_itself true p = rw (itself p) refl
not_itself false p = refl

pub other_than : (test : ℕ → Bool) (me p : ℕ) → test me ≡ false → test p ≡ true → p ≢ me
other_than test me p none here same = let both : true ≡ false = sym here ∙ ap test same ∙ none in absurd (true≢false both)

not_me : (me : ℕ) (views : List (List ℕ)) → is_other me views me ≡ false
not_me me views = not_itself (is_member views me) me

one_may : (test : ℕ → Bool) (me n : ℕ) (message : Message) → n + 1 ≤ 31 → test me ≡ false → Obeys message → (t : Bool) → test (n + 1) ≡ t
    → All (MayGo me) (if t then record { to = n + 1; message = message } ∷ [] else [])
one_may test me n message le none obeys true e =
    All-cons (MayGo me) (record { to = n + 1; message = message }) [] ((omega arith, le), other_than test me (n + 1) none e, obeys) (All-nil (MayGo me))
one_may test me n message le none obeys false e = All-nil (MayGo me)

sent_may : (test : ℕ → Bool) (me : ℕ) (message : Message) → test me ≡ false → Obeys message → (n : ℕ) → n ≤ 31 → All (MayGo me) (sent_up_to test message n)
unfolding sent_up_to
sent_may test me message none obeys zero le = All-nil (MayGo me)
sent_may test me message none obeys (suc n) le =
    All-append (MayGo me) (sent_up_to test message n) _ (sent_may test me message none obeys n (omega (arith, le))) (one_may test me n message (omega (arith, le)) none obeys (test (n + 1)) refl)

-- a message to all members except `me`
pub told_may : (me : ℕ) (views : List (List ℕ)) (message : Message) → Obeys message → All (MayGo me) (sent_up_to (is_other me views) message 31)
told_may me views message obeys = sent_may (is_other me views) me message (not_me me views) obeys 31 (lit≤ tt)

finishing_obeys : (finishing : Finishing) (fact : Fact) (l : Leader) (p : ℕ) → Obeys (finishing_message finishing fact l p)
finishing_obeys None fact l p = tt
finishing_obeys (Some finishing) fact l p = grind arith

tick_obeys : (finishing : Finishing) (fact : Fact) (l : Leader) (p : ℕ) → Obeys (tick_message finishing fact l p)
tick_obeys finishing fact l p = grind (arith, finishing_obeys finishing fact l p)

-- the messages of a tick
pub ticks_may : (finishing : Finishing) (fact : Fact) (l : Leader) (n : ℕ) → n ≤ 31 → All (MayGo l.me) (ticks_up_to finishing fact l n)
unfolding ticks_up_to
ticks_may finishing fact l zero le = All-nil (MayGo l.me)
ticks_may finishing fact l (suc n) le =
    All-append (MayGo l.me) (ticks_up_to finishing fact l n) _ (ticks_may finishing fact l n (omega (arith, le)))
    (one_may (is_other l.me l.fact.views) l.me n (tick_message finishing fact l (n + 1)) (omega (arith, le)) (not_me l.me l.fact.views) (tick_obeys finishing fact l (n + 1)) (is_other l.me l.fact.views (n + 1)) refl)
