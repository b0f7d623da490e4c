-- Runs in which one guard is weakened once, and the laws break.
use Rattle.std.proofs.Common.{◌≡◌, ℕ, ◌<◌, ◌≤◌, Bool, true, false, ◌||◌, ◌==◌, ◌⊎◌, sym, subst, eqb-true, List, [], ◌∷◌, eqb, refl, inl, inr, lit<, lit≤, Some, arith}
use Rattle.std.proofs.lemmas.Bool.Decides.{nat_tests}
use Rattle.std.proofs.lemmas.Bool.{false≢true, true≢false}
use Rattle.ens_base.specs.declared.command.Command.TheVariants.{Over}
use Rattle.register_model.specs.declared.call.Call.{Call}
use Rattle.protocol_laws.specs.Ledger.{Add}
use Rattle.protocol_laws.specs.Objects.{epoch_of}
use Rattle.protocol_laws.specs.Book.{version_of}
use Rattle.protocol_laws.specs.Protocol.{Step, Ask, Raise, Elect, Accept, Commit, Write, Acknowledge, Propose, Settle, MayCome, IsRun, state_after}
use Rattle.protocol_witness.specs.Guarded.{AcceptanceMatters, BallotMatters, PromisesMatter, QuorumMatters, OldViewMatters}
use Rattle.protocol_witness.proofs.Words.{opening_view, first_key, written, bytes, one, two, at_one, at_two, not_member, none_yet}

abbrev three_view : List ℕ
three_view = 1 ∷ 2 ∷ 3 ∷ []

abbrev first_two : ℕ → Bool
first_two q = (q == 1) || (q == 2)

abbrev last_two : ℕ → Bool
last_two q = (q == 2) || (q == 3)

abbrev outer_two : ℕ → Bool
outer_two q = (q == 1) || (q == 3)

at_either : (P : ℕ → Type 0) (a b : ℕ) → P a → P b → (q : ℕ) → ((q == a) || (q == b)) ≡ true → P q
at_either P a b p r q h = by_cases (eqb q a) (eqb q b) refl refl h
  where
    by_cases : (x y : Bool) → eqb q a ≡ x → eqb q b ≡ y → (x || y) ≡ true → P q
    by_cases true y e f t = subst P (sym (eqb-true q a e)) p
    by_cases false true e f t = subst P (sym (eqb-true q b f)) r
    by_cases false false e f t = absurd (false≢true t)

below_one : (a : ℕ) → a < 1 → a ≤ 0
below_one a h = omega arith

none_lower : 1 ≤ 0 → ⊥
none_lower h = omega arith

abbrev first_call : Call
first_call = record { id = 1; key = first_key; command = Over (97 ∷ []); event = 1 }

-- ## unsynced

abbrev unsynced_0 : List Step
unsynced_0 = []

unsynced_run_0 : IsRun opening_view unsynced_0
unsynced_run_0 = lit< tt

abbrev unsynced_1 : List Step
unsynced_1 = Raise 1 1 ∷ unsynced_0

unsynced_may_1 : MayCome (state_after opening_view unsynced_0) (Raise 1 1)
unfolding epoch_of
unsynced_may_1 = (lit≤ tt, tt)

unsynced_run_1 : IsRun opening_view unsynced_1
unsynced_run_1 = (unsynced_run_0, unsynced_may_1)

abbrev unsynced_2 : List Step
unsynced_2 = Elect 1 (record { epoch = 0; seq = 0 }) ∷ unsynced_1

unsynced_may_2 : MayCome (state_after opening_view unsynced_1) (Elect 1 (record { epoch = 0; seq = 0 }))
unfolding epoch_of
unsynced_may_2 = (record { fresh = refl; above = lit< tt; listed = refl; is_fact = inl (refl, refl); voters = one; quorum = refl; reached = at_one (λ q. 1 ≤ (state_after opening_view unsynced_1).objects.ledger.ballot q) (lit≤ tt); told = λ q a v h l. omega arith }, tt)

unsynced_run_2 : IsRun opening_view unsynced_2
unsynced_run_2 = (unsynced_run_1, unsynced_may_2)

abbrev unsynced_3 : List Step
unsynced_3 = Accept 1 1 ∷ unsynced_2

unsynced_may_3 : MayCome (state_after opening_view unsynced_2) (Accept 1 1)
unfolding epoch_of
unsynced_may_3 = (record { elected = refl; stands = refl; newer = lit< tt; old = λ h. h }, tt)

unsynced_run_3 : IsRun opening_view unsynced_3
unsynced_run_3 = (unsynced_run_2, unsynced_may_3)

abbrev unsynced_4 : List Step
unsynced_4 = Commit 1 (Add (2 ∷ [])) ∷ unsynced_3

unsynced_may_4 : MayCome (state_after opening_view unsynced_3) (Commit 1 (Add (2 ∷ [])))
unfolding epoch_of
unsynced_may_4 = (record { led = lit< tt; elected = refl; established = refl; fresh = refl }, tt)

unsynced_run_4 : IsRun opening_view unsynced_4
unsynced_run_4 = (unsynced_run_3, unsynced_may_4)

abbrev unsynced_5 : List Step
unsynced_5 = Raise 1 2 ∷ unsynced_4

unsynced_may_5 : MayCome (state_after opening_view unsynced_4) (Raise 1 2)
unfolding epoch_of
unsynced_may_5 = (lit≤ tt, tt)

unsynced_run_5 : IsRun opening_view unsynced_5
unsynced_run_5 = (unsynced_run_4, unsynced_may_5)

abbrev unsynced_6 : List Step
unsynced_6 = Elect 2 (record { epoch = 1; seq = 2 }) ∷ unsynced_5

unsynced_may_6 : MayCome (state_after opening_view unsynced_5) (Elect 2 (record { epoch = 1; seq = 2 }))
unfolding epoch_of
unsynced_may_6 = (record { fresh = refl; above = lit< tt; listed = refl; is_fact = inr (inr (refl, refl)); voters = one; quorum = refl; reached = at_one (λ q. 2 ≤ (state_after opening_view unsynced_5).objects.ledger.ballot q) (lit≤ tt); told = λ q a v h l. omega arith }, tt)

unsynced_run_6 : IsRun opening_view unsynced_6
unsynced_run_6 = (unsynced_run_5, unsynced_may_6)

abbrev unsynced_7 : List Step
unsynced_7 = Accept 1 2 ∷ unsynced_6

unsynced_may_7 : MayCome (state_after opening_view unsynced_6) (Accept 1 2)
unfolding epoch_of
unsynced_may_7 = (record { elected = refl; stands = refl; newer = lit< tt; old = not_member 1 2 refl }, tt)

unsynced_run_7 : IsRun opening_view unsynced_7
unsynced_run_7 = (unsynced_run_6, unsynced_may_7)

abbrev unsynced_8 : List Step
unsynced_8 = Raise 2 2 ∷ unsynced_7

unsynced_may_8 : MayCome (state_after opening_view unsynced_7) (Raise 2 2)
unfolding epoch_of
unsynced_may_8 = (lit≤ tt, tt)

unsynced_run_8 : IsRun opening_view unsynced_8
unsynced_run_8 = (unsynced_run_7, unsynced_may_8)

pub acceptance_matters : AcceptanceMatters
acceptance_matters = record {
  steps = unsynced_8;
  run = unsynced_run_8;
  weakened = record { elected = refl; stands = refl; newer = lit< tt };
  broken = λ joined. false≢true (joined 2 (2 ∷ []) (1 ∷ []) refl refl);
}

-- ## late

abbrev late_0 : List Step
late_0 = []

late_run_0 : IsRun three_view late_0
late_run_0 = lit< tt

abbrev late_1 : List Step
late_1 = Raise 1 1 ∷ late_0

late_may_1 : MayCome (state_after three_view late_0) (Raise 1 1)
unfolding epoch_of
late_may_1 = (lit≤ tt, tt)

late_run_1 : IsRun three_view late_1
late_run_1 = (late_run_0, late_may_1)

abbrev late_2 : List Step
late_2 = Raise 2 1 ∷ late_1

late_may_2 : MayCome (state_after three_view late_1) (Raise 2 1)
unfolding epoch_of
late_may_2 = (lit≤ tt, tt)

late_run_2 : IsRun three_view late_2
late_run_2 = (late_run_1, late_may_2)

abbrev late_3 : List Step
late_3 = Elect 1 (record { epoch = 0; seq = 0 }) ∷ late_2

late_may_3 : MayCome (state_after three_view late_2) (Elect 1 (record { epoch = 0; seq = 0 }))
unfolding epoch_of
late_may_3 = (record { fresh = refl; above = lit< tt; listed = refl; is_fact = inl (refl, refl); voters = first_two; quorum = refl; reached = at_either (λ q. 1 ≤ (state_after three_view late_2).objects.ledger.ballot q) 1 2 (lit≤ tt) (lit≤ tt); told = λ q a v h l. below_one a l }, tt)

late_run_3 : IsRun three_view late_3
late_run_3 = (late_run_2, late_may_3)

abbrev late_4 : List Step
late_4 = Accept 1 1 ∷ late_3

late_may_4 : MayCome (state_after three_view late_3) (Accept 1 1)
unfolding epoch_of
late_may_4 = (record { elected = refl; stands = refl; newer = lit< tt; old = λ h. h }, tt)

late_run_4 : IsRun three_view late_4
late_run_4 = (late_run_3, late_may_4)

abbrev late_5 : List Step
late_5 = Raise 3 1 ∷ late_4

late_may_5 : MayCome (state_after three_view late_4) (Raise 3 1)
unfolding epoch_of
late_may_5 = (lit≤ tt, tt)

late_run_5 : IsRun three_view late_5
late_run_5 = (late_run_4, late_may_5)

abbrev late_6 : List Step
late_6 = Raise 3 2 ∷ late_5

late_may_6 : MayCome (state_after three_view late_5) (Raise 3 2)
unfolding epoch_of
late_may_6 = (lit≤ tt, tt)

late_run_6 : IsRun three_view late_6
late_run_6 = (late_run_5, late_may_6)

abbrev late_7 : List Step
late_7 = Raise 2 2 ∷ late_6

late_may_7 : MayCome (state_after three_view late_6) (Raise 2 2)
unfolding epoch_of
late_may_7 = (lit≤ tt, tt)

late_run_7 : IsRun three_view late_7
late_run_7 = (late_run_6, late_may_7)

abbrev late_8 : List Step
late_8 = Elect 2 (record { epoch = 0; seq = 0 }) ∷ late_7

late_may_8 : MayCome (state_after three_view late_7) (Elect 2 (record { epoch = 0; seq = 0 }))
unfolding epoch_of
late_may_8 = (record { fresh = refl; above = lit< tt; listed = refl; is_fact = inl (refl, refl); voters = last_two; quorum = refl; reached = at_either (λ q. 2 ≤ (state_after three_view late_7).objects.ledger.ballot q) 2 3 (lit≤ tt) (lit≤ tt); told = λ q a v h l. at_either (λ q. (state_after three_view late_7).objects.ledger.accepted a q ≡ true → a ≤ 0) 2 3 (λ h. grind (arith, nat_tests)) (λ h. grind (arith, nat_tests)) q v h }, tt)

late_run_8 : IsRun three_view late_8
late_run_8 = (late_run_7, late_may_8)

pub ballot_matters : BallotMatters
ballot_matters = record {
  steps = late_8;
  run = late_run_8;
  weakened = record {
    elected = refl;
    started = lit≤ tt;
    newer = lit< tt;
    honest = λ k. refl;
    synced = record {
      sources = first_two;
      majority = refl;
      reached = at_either (λ q. 1 ≤ (state_after three_view late_8).objects.ledger.ballot q) 1 2 (lit≤ tt) (lit≤ tt);
      given = λ q k. at_either (λ q. (state_after three_view late_8).objects.floor q 1 k ≤ 0) 1 2 (lit≤ tt) (lit≤ tt) q;
    };
  };
  broken = λ kept. none_lower (kept 2 1 refl refl (lit< tt) refl);
}

-- ## untold

abbrev untold_0 : List Step
untold_0 = []

untold_run_0 : IsRun three_view untold_0
untold_run_0 = lit< tt

abbrev untold_1 : List Step
untold_1 = Raise 1 1 ∷ untold_0

untold_may_1 : MayCome (state_after three_view untold_0) (Raise 1 1)
unfolding epoch_of
untold_may_1 = (lit≤ tt, tt)

untold_run_1 : IsRun three_view untold_1
untold_run_1 = (untold_run_0, untold_may_1)

abbrev untold_2 : List Step
untold_2 = Raise 2 1 ∷ untold_1

untold_may_2 : MayCome (state_after three_view untold_1) (Raise 2 1)
unfolding epoch_of
untold_may_2 = (lit≤ tt, tt)

untold_run_2 : IsRun three_view untold_2
untold_run_2 = (untold_run_1, untold_may_2)

abbrev untold_3 : List Step
untold_3 = Elect 1 (record { epoch = 0; seq = 0 }) ∷ untold_2

untold_may_3 : MayCome (state_after three_view untold_2) (Elect 1 (record { epoch = 0; seq = 0 }))
unfolding epoch_of
untold_may_3 = (record { fresh = refl; above = lit< tt; listed = refl; is_fact = inl (refl, refl); voters = first_two; quorum = refl; reached = at_either (λ q. 1 ≤ (state_after three_view untold_2).objects.ledger.ballot q) 1 2 (lit≤ tt) (lit≤ tt); told = λ q a v h l. below_one a l }, tt)

untold_run_3 : IsRun three_view untold_3
untold_run_3 = (untold_run_2, untold_may_3)

abbrev untold_4 : List Step
untold_4 = Accept 1 1 ∷ untold_3

untold_may_4 : MayCome (state_after three_view untold_3) (Accept 1 1)
unfolding epoch_of
untold_may_4 = (record { elected = refl; stands = refl; newer = lit< tt; old = λ h. h }, tt)

untold_run_4 : IsRun three_view untold_4
untold_run_4 = (untold_run_3, untold_may_4)

abbrev untold_5 : List Step
untold_5 = Accept 2 1 ∷ untold_4

untold_may_5 : MayCome (state_after three_view untold_4) (Accept 2 1)
unfolding epoch_of
untold_may_5 = (record { elected = refl; stands = refl; newer = lit< tt; old = λ h. h }, tt)

untold_run_5 : IsRun three_view untold_5
untold_run_5 = (untold_run_4, untold_may_5)

abbrev untold_6 : List Step
untold_6 = Raise 2 2 ∷ untold_5

untold_may_6 : MayCome (state_after three_view untold_5) (Raise 2 2)
unfolding epoch_of
untold_may_6 = (lit≤ tt, tt)

untold_run_6 : IsRun three_view untold_6
untold_run_6 = (untold_run_5, untold_may_6)

abbrev untold_7 : List Step
untold_7 = Raise 3 2 ∷ untold_6

untold_may_7 : MayCome (state_after three_view untold_6) (Raise 3 2)
unfolding epoch_of
untold_may_7 = (lit≤ tt, tt)

untold_run_7 : IsRun three_view untold_7
untold_run_7 = (untold_run_6, untold_may_7)

pub promises_matter : PromisesMatter
promises_matter = record {
  steps = untold_7;
  run = untold_run_7;
  weakened = record {
    fresh = refl;
    above = lit< tt;
    listed = refl;
    is_fact = inl (refl, refl);
    voters = last_two;
    quorum = refl;
    reached = at_either (λ q. 2 ≤ (state_after three_view untold_7).objects.ledger.ballot q) 2 3 (lit≤ tt) (lit≤ tt);
  };
  broken = λ kept. none_lower (kept 2 1 refl refl (lit< tt) refl);
}

-- ## alone

abbrev alone_0 : List Step
alone_0 = []

alone_run_0 : IsRun three_view alone_0
alone_run_0 = lit< tt

abbrev alone_1 : List Step
alone_1 = Raise 1 1 ∷ alone_0

alone_may_1 : MayCome (state_after three_view alone_0) (Raise 1 1)
unfolding epoch_of
alone_may_1 = (lit≤ tt, tt)

alone_run_1 : IsRun three_view alone_1
alone_run_1 = (alone_run_0, alone_may_1)

abbrev alone_2 : List Step
alone_2 = Raise 3 1 ∷ alone_1

alone_may_2 : MayCome (state_after three_view alone_1) (Raise 3 1)
unfolding epoch_of
alone_may_2 = (lit≤ tt, tt)

alone_run_2 : IsRun three_view alone_2
alone_run_2 = (alone_run_1, alone_may_2)

abbrev alone_3 : List Step
alone_3 = Elect 1 (record { epoch = 0; seq = 0 }) ∷ alone_2

alone_may_3 : MayCome (state_after three_view alone_2) (Elect 1 (record { epoch = 0; seq = 0 }))
unfolding epoch_of
alone_may_3 = (record { fresh = refl; above = lit< tt; listed = refl; is_fact = inl (refl, refl); voters = outer_two; quorum = refl; reached = at_either (λ q. 1 ≤ (state_after three_view alone_2).objects.ledger.ballot q) 1 3 (lit≤ tt) (lit≤ tt); told = λ q a v h l. below_one a l }, tt)

alone_run_3 : IsRun three_view alone_3
alone_run_3 = (alone_run_2, alone_may_3)

abbrev alone_4 : List Step
alone_4 = Accept 1 1 ∷ alone_3

alone_may_4 : MayCome (state_after three_view alone_3) (Accept 1 1)
unfolding epoch_of
alone_may_4 = (record { elected = refl; stands = refl; newer = lit< tt; old = λ h. h }, tt)

alone_run_4 : IsRun three_view alone_4
alone_run_4 = (alone_run_3, alone_may_4)

abbrev alone_5 : List Step
alone_5 = Accept 3 1 ∷ alone_4

alone_may_5 : MayCome (state_after three_view alone_4) (Accept 3 1)
unfolding epoch_of
alone_may_5 = (record { elected = refl; stands = refl; newer = lit< tt; old = λ h. h }, tt)

alone_run_5 : IsRun three_view alone_5
alone_run_5 = (alone_run_4, alone_may_5)

abbrev alone_6 : List Step
alone_6 = Raise 2 2 ∷ alone_5

alone_may_6 : MayCome (state_after three_view alone_5) (Raise 2 2)
unfolding epoch_of
alone_may_6 = (lit≤ tt, tt)

alone_run_6 : IsRun three_view alone_6
alone_run_6 = (alone_run_5, alone_may_6)

pub quorum_matters : QuorumMatters
quorum_matters = record {
  steps = alone_6;
  run = alone_run_6;
  weakened = record { fresh = refl; above = lit< tt; listed = refl; is_fact = inl (refl, refl); voter = 2; reached = lit≤ tt; told = λ a h l. grind (arith, nat_tests) };
  broken = λ kept. none_lower (kept 2 1 refl refl (lit< tt) refl);
}

-- ## from_new

abbrev from_new_0 : List Step
from_new_0 = []

from_new_run_0 : IsRun opening_view from_new_0
from_new_run_0 = lit< tt

abbrev from_new_1 : List Step
from_new_1 = Raise 1 1 ∷ from_new_0

from_new_may_1 : MayCome (state_after opening_view from_new_0) (Raise 1 1)
unfolding epoch_of
from_new_may_1 = (lit≤ tt, tt)

from_new_run_1 : IsRun opening_view from_new_1
from_new_run_1 = (from_new_run_0, from_new_may_1)

abbrev from_new_2 : List Step
from_new_2 = Elect 1 (record { epoch = 0; seq = 0 }) ∷ from_new_1

from_new_may_2 : MayCome (state_after opening_view from_new_1) (Elect 1 (record { epoch = 0; seq = 0 }))
unfolding epoch_of
from_new_may_2 = (record { fresh = refl; above = lit< tt; listed = refl; is_fact = inl (refl, refl); voters = one; quorum = refl; reached = at_one (λ q. 1 ≤ (state_after opening_view from_new_1).objects.ledger.ballot q) (lit≤ tt); told = λ q a v h l. omega arith }, tt)

from_new_run_2 : IsRun opening_view from_new_2
from_new_run_2 = (from_new_run_1, from_new_may_2)

abbrev from_new_3 : List Step
from_new_3 = Accept 1 1 ∷ from_new_2

from_new_may_3 : MayCome (state_after opening_view from_new_2) (Accept 1 1)
unfolding epoch_of
from_new_may_3 = (record { elected = refl; stands = refl; newer = lit< tt; old = λ h. h }, tt)

from_new_run_3 : IsRun opening_view from_new_3
from_new_run_3 = (from_new_run_2, from_new_may_3)

abbrev from_new_4 : List Step
from_new_4 = Ask first_call ∷ from_new_3

from_new_may_4 : MayCome (state_after opening_view from_new_3) (Ask first_call)
unfolding epoch_of
from_new_may_4 = (tt, record { fresh = refl; event = refl })

from_new_run_4 : IsRun opening_view from_new_4
from_new_run_4 = (from_new_run_3, from_new_may_4)

abbrev from_new_5 : List Step
from_new_5 = Propose written first_key 0 (version_of written) bytes (Some 1) ∷ from_new_4

from_new_may_5 : MayCome (state_after opening_view from_new_4) (Propose written first_key 0 (version_of written) bytes (Some 1))
unfolding epoch_of
from_new_may_5 = (record { fresh = refl; led = lit< tt; elected = refl; established = refl; lower = lit< tt; from = inl (record { untouched = none_yet (λ x. (state_after opening_view from_new_4).objects.key x ≡ first_key → epoch_of x ≡ 1 → ⊥); heard = record { readers = one; quorum = refl; reached = at_one (λ q. 1 ≤ (state_after opening_view from_new_4).objects.ledger.ballot q) (lit≤ tt); given = at_one (λ q. (state_after opening_view from_new_4).objects.floor q 1 first_key ≤ 0) (lit≤ tt) }; genuine = inl refl }) }, record { waiting = record { called = refl; not_written = λ v w. none_yet (λ v. (state_after opening_view from_new_4).book.call v ≡ Some 1 → ⊥) v w.0 w.1; not_noted = refl; not_refused = λ a. absurd (false≢true a) }; on_key = refl; own_stamp = refl; applies = refl })

from_new_run_5 : IsRun opening_view from_new_5
from_new_run_5 = (from_new_run_4, from_new_may_5)

abbrev from_new_6 : List Step
from_new_6 = Write 1 written ∷ from_new_5

from_new_may_6 : MayCome (state_after opening_view from_new_5) (Write 1 written)
unfolding epoch_of
from_new_may_6 = (record { honest = λ k. refl; proposed = refl; low = lit≤ tt; higher = lit≤ tt }, tt)

from_new_run_6 : IsRun opening_view from_new_6
from_new_run_6 = (from_new_run_5, from_new_may_6)

abbrev from_new_7 : List Step
from_new_7 = Acknowledge 1 written ∷ from_new_6

from_new_may_7 : MayCome (state_after opening_view from_new_6) (Acknowledge 1 written)
unfolding epoch_of
from_new_may_7 = (record { proposed = refl; stands = refl; accepted = refl; has = lit≤ tt }, tt)

from_new_run_7 : IsRun opening_view from_new_7
from_new_run_7 = (from_new_run_6, from_new_may_7)

abbrev from_new_8 : List Step
from_new_8 = Settle written ∷ from_new_7

from_new_may_8 : MayCome (state_after opening_view from_new_7) (Settle written)
unfolding epoch_of
from_new_may_8 = (record { proposed = refl; fresh = refl; quorum = refl }, tt)

from_new_run_8 : IsRun opening_view from_new_8
from_new_run_8 = (from_new_run_7, from_new_may_8)

abbrev from_new_9 : List Step
from_new_9 = Commit 1 (Add (2 ∷ [])) ∷ from_new_8

from_new_may_9 : MayCome (state_after opening_view from_new_8) (Commit 1 (Add (2 ∷ [])))
unfolding epoch_of
from_new_may_9 = (record { led = lit< tt; elected = refl; established = refl; fresh = refl }, tt)

from_new_run_9 : IsRun opening_view from_new_9
from_new_run_9 = (from_new_run_8, from_new_may_9)

abbrev from_new_10 : List Step
from_new_10 = Raise 1 2 ∷ from_new_9

from_new_may_10 : MayCome (state_after opening_view from_new_9) (Raise 1 2)
unfolding epoch_of
from_new_may_10 = (lit≤ tt, tt)

from_new_run_10 : IsRun opening_view from_new_10
from_new_run_10 = (from_new_run_9, from_new_may_10)

abbrev from_new_11 : List Step
from_new_11 = Elect 2 (record { epoch = 1; seq = 2 }) ∷ from_new_10

from_new_may_11 : MayCome (state_after opening_view from_new_10) (Elect 2 (record { epoch = 1; seq = 2 }))
unfolding epoch_of
from_new_may_11 = (record { fresh = refl; above = lit< tt; listed = refl; is_fact = inr (inr (refl, refl)); voters = one; quorum = refl; reached = at_one (λ q. 2 ≤ (state_after opening_view from_new_10).objects.ledger.ballot q) (lit≤ tt); told = λ q a v h l. omega arith }, tt)

from_new_run_11 : IsRun opening_view from_new_11
from_new_run_11 = (from_new_run_10, from_new_may_11)

abbrev from_new_12 : List Step
from_new_12 = Accept 1 2 ∷ from_new_11

from_new_may_12 : MayCome (state_after opening_view from_new_11) (Accept 1 2)
unfolding epoch_of
from_new_may_12 = (record { elected = refl; stands = refl; newer = lit< tt; old = not_member 1 2 refl }, tt)

from_new_run_12 : IsRun opening_view from_new_12
from_new_run_12 = (from_new_run_11, from_new_may_12)

abbrev from_new_13 : List Step
from_new_13 = Raise 2 2 ∷ from_new_12

from_new_may_13 : MayCome (state_after opening_view from_new_12) (Raise 2 2)
unfolding epoch_of
from_new_may_13 = (lit≤ tt, tt)

from_new_run_13 : IsRun opening_view from_new_13
from_new_run_13 = (from_new_run_12, from_new_may_13)

not_kept : (written ≤ 0) ⊎ (true ≡ false) → ⊥
not_kept (inl h) = omega arith
not_kept (inr h) = true≢false h

pub old_view_matters : OldViewMatters
unfolding epoch_of
old_view_matters = record {
  steps = from_new_13;
  run = from_new_run_13;
  weakened = record {
    join = record { elected = refl; stands = refl; newer = lit< tt };
    honest = λ k. refl;
    sources = two;
    majority = refl;
    reached = at_two (λ q. 2 ≤ (state_after opening_view from_new_13).objects.ledger.ballot q) (lit≤ tt);
    given = λ q k. at_two (λ q. (state_after opening_view from_new_13).objects.floor q 2 k ≤ 0) (lit≤ tt) q;
  };
  broken = λ kept. not_kept (kept.synced 2 written 2 refl refl (lit< tt));
}
