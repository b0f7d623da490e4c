-- What is preserved from one state to each later one.
use Rattle.std.proofs.Common.{◌≡◌, ℕ, ◌≤◌, true, List, ◌∷◌, arith, refl, inl, inr, ◌∙◌, le_trans}
use Rattle.std.proofs.lemmas.Bool.Decides.{nat_tests}
use Rattle.protocol_laws.proofs.Epochs.{not_both}
use Rattle.protocol_laws.proofs.Rising.{step_stays, stays_same, stays_then}
use Rattle.protocol_laws.proofs.Maps.{put_other}
use Rattle.protocol_laws.proofs.Dead.{dead_stays}
use Rattle.protocol_laws.specs.Versions.{VersionsStay}
use Rattle.protocol_laws.specs.Objects.{Map, Objects, epoch_of, floor_after, install, IsGenuine}
use Rattle.protocol_laws.specs.Protocol.{Step, Begin, Ask, Raise, Elect, Accept, Commit, Adopt, Write, Acknowledge, Install, EndSync, Propose, Settle, Note, Answer, Lose, Revert, objects_after, MayDo, IsRun, state_after}

raise_falls : (o : Objects) (p b q d : ℕ) (k : List ℕ) → o.ledger.ballot p ≤ b → d ≤ o.ledger.ballot q → floor_after o p q d k ≤ o.floor q d k
raise_falls o p b q d k may l = grind (arith, nat_tests)

install_falls : (o : Objects) (p e : ℕ) (m : Map) (q d : ℕ) (k : List ℕ) → (install o p e m).floor q d k ≤ o.floor q d k
install_falls o p e m q d k = grind (arith, nat_tests)

floors_fall : (o : Objects) (e : Step) → MayDo o e → (q d : ℕ) (k : List ℕ) → d ≤ o.ledger.ballot q → (objects_after o e).floor q d k ≤ o.floor q d k
floors_fall o (Raise p b) may q d k l = raise_falls o p b q d k may l
floors_fall o (Install p b m) may q d k l = install_falls o p b m q d k
floors_fall o Begin may q d k l = omega arith
floors_fall o (Ask c) may q d k l = omega arith
floors_fall o (Elect e b) may q d k l = omega arith
floors_fall o (Accept p e) may q d k l = omega arith
floors_fall o (Commit e c) may q d k l = omega arith
floors_fall o (Adopt p e) may q d k l = omega arith
floors_fall o (Write p v) may q d k l = omega arith
floors_fall o (Acknowledge p v) may q d k l = omega arith
floors_fall o (EndSync p e) may q d k l = omega arith
floors_fall o (Propose x j u y z c) may q d k l = omega arith
floors_fall o (Settle v) may q d k l = omega arith
floors_fall o (Note i j u e) may q d k l = omega arith
floors_fall o (Answer i r) may q d k l = omega arith
floors_fall o (Lose p) may q d k l = omega arith
floors_fall o (Revert p m) may q d k l = omega arith

proposed_step : (o : Objects) (e : Step) → MayDo o e → (v : ℕ) → o.proposed v ≡ true → (objects_after o e).proposed v ≡ true
proposed_step o (Propose x k u y z c) may v h = put_other o.proposed x true v (λ e. not_both h (rw (← e) may.fresh)) ∙ h
proposed_step o e may v h = h

key_step : (o : Objects) (e : Step) → MayDo o e → (v : ℕ) → o.proposed v ≡ true → (objects_after o e).key v ≡ o.key v
key_step o (Propose x k u y z c) may v h = put_other o.key x k v (λ e. not_both h (rw (← e) may.fresh))
key_step o e may v h = refl

parent_step : (o : Objects) (e : Step) → MayDo o e → (v : ℕ) → o.proposed v ≡ true → (objects_after o e).parent v ≡ o.parent v
parent_step o (Propose x k u y z c) may v h = put_other o.parent x u v (λ e. not_both h (rw (← e) may.fresh))
parent_step o e may v h = refl

acked_step : (o : Objects) (e : Step) (v q : ℕ) → o.acked v q ≡ true → (objects_after o e).acked v q ≡ true
acked_step o (Acknowledge p x) v q h = grind (arith, nat_tests)
acked_step o e v q h = h

settled_step : (o : Objects) (e : Step) → MayDo o e → (v : ℕ) → o.settled v ≡ true → (objects_after o e).settled v ≡ true
settled_step o (Settle x) may v h = put_other o.settled x true v (λ e. not_both h (rw (← e) may.fresh)) ∙ h
settled_step o e may v h = h

settled_by_step : (o : Objects) (e : Step) → MayDo o e → (v : ℕ) → o.settled v ≡ true → (objects_after o e).settled_by v ≡ o.settled_by v
settled_by_step o (Settle x) may v h = put_other o.settled_by x (o.acked x) v (λ e. not_both h (rw (← e) may.fresh))
settled_by_step o e may v h = refl

reverted_step : (o : Objects) (e : Step) (q : ℕ) → o.reverted q ≡ true → (objects_after o e).reverted q ≡ true
reverted_step o (Revert p m) q h = grind (arith, nat_tests)
reverted_step o e q h = h

pub versions_step : (o : Objects) (e : Step) → MayDo o e → VersionsStay o (objects_after o e)
versions_step o e may = record {
  ledger = step_stays o e may;
  floors = floors_fall o e may;
  dead = dead_stays o e may;
  proposed = proposed_step o e may;
  key = key_step o e may;
  parent = parent_step o e may;
  acked = acked_step o e;
  settled = settled_step o e may;
  settled_by = settled_by_step o e may;
  reverted = reverted_step o e;
}

pub versions_same : (o : Objects) → VersionsStay o o
versions_same o = record {
  ledger = stays_same o.ledger;
  floors = λ q d k l. omega arith;
  dead = λ v e h. h;
  proposed = λ v h. h;
  key = λ v h. refl;
  parent = λ v h. refl;
  acked = λ v q h. h;
  settled = λ v h. h;
  settled_by = λ v h. refl;
  reverted = λ q h. h;
}

pub versions_then : (o m t : Objects) → VersionsStay o m → VersionsStay m t → VersionsStay o t
versions_then o m t a b = record {
  ledger = stays_then o.ledger m.ledger t.ledger a.ledger b.ledger;
  floors = λ q d k l. le_trans (b.floors q d k (le_trans l (a.ledger.ballot q))) (a.floors q d k l);
  dead = λ v e h. b.dead v (a.ledger.elected (epoch_of v) e) (a.dead v e h);
  proposed = λ v h. b.proposed v (a.proposed v h);
  key = λ v h. b.key v (a.proposed v h) ∙ a.key v h;
  parent = λ v h. b.parent v (a.proposed v h) ∙ a.parent v h;
  acked = λ v q h. b.acked v q (a.acked v q h);
  settled = λ v h. b.settled v (a.settled v h);
  settled_by = λ v h. b.settled_by v (a.settled v h) ∙ a.settled_by v h;
  reverted = λ q h. b.reverted q (a.reverted q h);
}

-- a genuine entry stays genuine, also for a greater epoch
pub genuine_rises : (o t : Objects) → VersionsStay o t → (d e : ℕ) (k : List ℕ) (v : ℕ) → d ≤ e → IsGenuine o d k v → IsGenuine t e k v
genuine_rises o t stay d e k v l (inl z) = inl z
genuine_rises o t stay d e k v l (inr a) = inr (stay.proposed v a.0, stay.key v a.0 ∙ a.1, le_trans a.2 l)

pub genuine_stays : (o t : Objects) → VersionsStay o t → (d : ℕ) (k : List ℕ) (v : ℕ) → IsGenuine o d k v → IsGenuine t d k v
genuine_stays o t stay d k v a = genuine_rises o t stay d d k v (omega arith) a

pub run_versions_stay : (view : List ℕ) (steps : List Step) (step : Step) → IsRun view (step ∷ steps) → VersionsStay (state_after view steps).objects (state_after view (step ∷ steps)).objects
run_versions_stay view steps step run = versions_step (state_after view steps).objects step run.1.0
