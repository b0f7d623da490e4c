-- The tasks of a step, one after another: each ends in agreement, and no task is left at the end.
use Rattle.std.proofs.Common.{◌≡◌, inl, inr, ℕ, zero, suc, List, [], ◌∷◌, ◌++◌, refl, sym, subst}
use Rattle.peer_refinement.specs.WorldSpec.{Held}
use Rattle.leader.specs.Rules.{lead_row}
use Rattle.peer_spec.specs.Drives.{lead, task_done, driven}
use Rattle.peer_state.specs.Moves.{leading}
use Rattle.peer_spec.specs.Turns.{StepsAlone}
use Rattle.peer_state.specs.declared.state.Phase.{Phase}
use Rattle.peer_state.specs.declared.state.Phase.TheVariants as phases
use Rattle.peer_state.specs.declared.state.State.{State as PeerState}
use Rattle.register_model.specs.declared.note.Note.{Note}
use Rattle.step_plans.specs.Plans.{Out, Rest}
use Rattle.step_plans.specs.declared.tasks.Task.{Task}
use Rattle.step_plans.specs.declared.tasks.Task.TheVariants as tasks
use Rattle.phase_rows.specs.declared.phase.Seen.{Seen}
use Rattle.phase_rows.specs.declared.phase.Seen.TheVariants as seens
use Rattle.phase_rows.specs.declared.rules.KeyRule.{KeyRule}
use Rattle.phase_rows.specs.declared.rules.KeyRule.TheVariants as key_rules
use Rattle.step_refinement.proofs.CallByCall.{Ends, Onward}
use Rattle.step_refinement.specs.Scenes.{Scene, Here, AtRest}
use Rattle.step_refinement.proofs.LeadersAtWork.{as_leading, rekeyed_leader}
use Rattle.step_refinement.proofs.LeaderPlans.{There}
use Rattle.step_refinement.proofs.FirstHalves.{opens_ends}
use Rattle.step_refinement.proofs.KeyTasks.{Grounds, half_ends}
use Rattle.step_refinement.proofs.LeaderTasks.{ArePhases, Wait, phases_wait, phases_then, wait_after_phase, wait_after_reminder, next_fits, PhasesNext, TasksFit}
use Rattle.step_refinement.specs.Peers.{IsAtRest}

module _ (c : Scene) where
  open c use {peer as p}

  -- the rules of phases end well
  abbrev pub PhasesGood : Type 0
  PhasesGood = (t : Task) → ArePhases (t ∷ []) → (key : List ℕ) (x : PeerState) (h : Held) (out : Out) (notes : List Note) → AtRest c key x h out notes → (next mark : Rest PeerState (List Task)) → Onward c (PhasesNext c) next mark
      → Ends c (task_done p t x out next) (task_done p t x out mark) h notes

  -- what follows the tasks: it ends well if none is left, and at the limit none is left
  pub record Limit (next mark : Rest PeerState (List Task)) : Type 0 where
    pub goes : (key : List ℕ) (x : PeerState) (h : Held) (out : Out) (notes : List Note) → AtRest c key x h out notes → Ends c (next [] x out) (mark [] x out) h notes
    pub none : (t : Task) (ts : List Task) (x : PeerState) (out : Out) → StepsAlone (mark (t ∷ ts) x out) → ⊥

module _ (c : Scene) (grounds : Grounds c) (phases_good : PhasesGood c) where
  open c use {peer as p}

  abbrev Goes : Task → PeerState → Held → Out → List Note → Rest PeerState (List Task) → Rest PeerState (List Task) → Type 0
  Goes t x h out notes next mark = Ends c (task_done p t x out next) (task_done p t x out mark) h notes

  -- a rule of a phase
  phase_good : (t : Task) → ArePhases (t ∷ []) → (ts : List Task) (key : List ℕ) (x : PeerState) (h : Held) (out : Out) (notes : List Note) → AtRest c key x h out notes → ArePhases ts → (next mark : Rest PeerState (List Task)) → Onward c (There c ts) next mark
      → Goes t x h out notes next mark
  phase_good t are ts key x h out notes rest later next mark go =
      phases_good t are key x h out notes rest next mark (λ more k y g o ns there. go more k y g o ns (inl ((there.1, phases_wait y.phase (more ++ ts) (phases_then more ts there.0 later)))))

  -- a peer that does not lead does nothing on a key; a leader looks for the next call of an idle key
  wait_good : (rule : KeyRule) (k : List ℕ) (ts : List Task) (key : List ℕ) (x : PeerState) (h : Held) (out : Out) (notes : List Note) (phase : Phase) → x.phase ≡ phase → AtRest c key x h out notes → Wait phase (tasks.Key rule k ∷ ts) → (next mark : Rest PeerState (List Task))
      → Onward c (There c ts) next mark → Ends c (lead (lead_row rule k seens.Nothing) p phase x out next) (lead (lead_row rule k seens.Nothing) p phase x out mark) h notes
  wait_good rule k ts key x h out notes (phases.Leading l) is rest wait next mark go =
      subst (λ m. Ends c (lead (lead_row m k seens.Nothing) p (phases.Leading l) x out next) (lead (lead_row m k seens.Nothing) p (phases.Leading l) x out mark) h notes) (sym wait.0)
      (half_ends c grounds key_rules.StartNextCall k seens.Nothing ts (next_fits c l x (rekeyed_leader c l x here k free) ts wait.1.1.0 wait.1.1.1 free wait.1.0) next mark go)
    where
      here : Here c key (leading l x) h out notes
      here = as_leading c x (phases.Leading l) is rest.0

      free : IsAtRest (phases.Leading l)
      free = subst IsAtRest is rest.1
  wait_good n k ts key x h out notes (phases.Following f) is rest wait next mark go = go [] key x h out notes (inl ((rest, subst (λ (phase : Phase). Wait phase ts) (sym is) wait)))
  wait_good n k ts key x h out notes (phases.Probing b) is rest wait next mark go = go [] key x h out notes (inl ((rest, subst (λ (phase : Phase). Wait phase ts) (sym is) wait)))
  wait_good n k ts key x h out notes (phases.Electing e) is rest wait next mark go = go [] key x h out notes (inl ((rest, subst (λ (phase : Phase). Wait phase ts) (sym is) wait)))

  again_good : (rule : KeyRule) (k : List ℕ) (seen : Seen) (ts : List Task) (key : List ℕ) (x : PeerState) (h : Held) (out : Out) (notes : List Note) (phase : Phase) → x.phase ≡ phase → AtRest c key x h out notes → Wait phase (tasks.Again rule k seen ∷ ts) → (next mark : Rest PeerState (List Task))
      → Onward c (There c ts) next mark → Ends c (lead (lead_row rule k seen) p phase x out next) (lead (lead_row rule k seen) p phase x out mark) h notes
  again_good rule k seen ts key x h out notes (phases.Leading l) is rest wait next mark go = absurd wait
  again_good rule k seen ts key x h out notes (phases.Following f) is rest wait next mark go = go [] key x h out notes (inl ((rest, subst (λ (phase : Phase). Wait phase ts) (sym is) wait)))
  again_good rule k seen ts key x h out notes (phases.Probing b) is rest wait next mark go = go [] key x h out notes (inl ((rest, subst (λ (phase : Phase). Wait phase ts) (sym is) wait)))
  again_good rule k seen ts key x h out notes (phases.Electing e) is rest wait next mark go = go [] key x h out notes (inl ((rest, subst (λ (phase : Phase). Wait phase ts) (sym is) wait)))

  -- one task is run
  pub task_good : (t : Task) (ts : List Task) (key : List ℕ) (x : PeerState) (h : Held) (out : Out) (notes : List Note) → TasksFit c (t ∷ ts) key x h out notes → (next mark : Rest PeerState (List Task)) → Onward c (There c ts) next mark → Goes t x h out notes next mark
  task_good (tasks.Phase n) ts key x h out notes (inl fits) next mark go = phase_good (tasks.Phase n) tt ts key x h out notes fits.0 (wait_after_phase n x.phase ts fits.1) next mark go
  task_good (tasks.Phase n) ts key x h out notes (inr at_hand) next mark go = absurd at_hand
  task_good tasks.Remind ts key x h out notes (inl fits) next mark go = phase_good tasks.Remind tt ts key x h out notes fits.0 (wait_after_reminder x.phase ts fits.1) next mark go
  task_good tasks.Remind ts key x h out notes (inr at_hand) next mark go = absurd at_hand
  task_good (tasks.Key n k) ts key x h out notes (inl fits) next mark go = wait_good n k ts key x h out notes x.phase refl fits.0 fits.1 next mark go
  task_good (tasks.Key n k) ts key x h out notes (inr (inl half)) next mark go = half_ends c grounds n k seens.Nothing ts half next mark go
  task_good (tasks.Key n k) ts key x h out notes (inr (inr opens)) next mark go = opens_ends c n k ts opens next mark go
  task_good (tasks.Again n k seen) ts key x h out notes (inl fits) next mark go = again_good n k seen ts key x h out notes x.phase refl fits.0 fits.1 next mark go
  task_good (tasks.Again n k seen) ts key x h out notes (inr half) next mark go = half_ends c grounds n k seen ts half next mark go

  -- all tasks are run
  pub drive_good : (n : ℕ) (ts : List Task) (key : List ℕ) (x : PeerState) (h : Held) (out : Out) (notes : List Note) → TasksFit c ts key x h out notes → (next mark : Rest PeerState (List Task)) → Limit c next mark
      → Ends c (driven p n ts x out next) (driven p n ts x out mark) h notes
  unfolding driven
  drive_good zero [] key x h out notes (inl fits) next mark limit = limit.goes key x h out notes fits.0
  drive_good zero [] key x h out notes (inr none) next mark limit = absurd none
  drive_good zero (t ∷ ts) key x h out notes fits next mark limit = λ alone. absurd (limit.none t ts x out alone)
  drive_good (suc n) [] key x h out notes (inl fits) next mark limit = limit.goes key x h out notes fits.0
  drive_good (suc n) [] key x h out notes (inr none) next mark limit = absurd none
  drive_good (suc n) (t ∷ ts) key x h out notes fits next mark limit =
      task_good t ts key x h out notes fits (λ more y o. driven p n (more ++ ts) y o next) (λ more y o. driven p n (more ++ ts) y o mark) (λ more k y g o ns there. drive_good n (more ++ ts) k y g o ns there next mark limit)
