-- The rules of a leader on a key, one after another in a step.
use Rattle.std.proofs.Common.{◌≡◌, ap, sym, ◌∙◌, subst, ℕ, suc, true, false, List, [], ◌∷◌, ◌++◌, None, Some}
use Rattle.std.proofs.lemmas.List.{append-nil}
use Rattle.peer_refinement.specs.WorldSpec.{Held}
use Rattle.leader_output.specs.Outs.{asked_by}
use Rattle.leader_output.specs.declared.out.AnswerOut.{AnswerOut}
use Rattle.leader_output.specs.declared.out.LeadOut.{LeadOut}
use Rattle.leader_output.specs.declared.out.Outgoing.{Outgoing}
use Rattle.leader_output.specs.declared.out.Own.{Own}
use Rattle.leader.specs.Rules.{lead_row}
use Rattle.leader.specs.declared.leader.Leader.{Leader}
use Rattle.peer_refinement.specs.PeerSpec.{lead, lead_done, owned, own_key, followed_up, driven}
use Rattle.peer_refinement.proofs.PeerSpec.{driven_none}
use Rattle.peer_state.specs.declared.state.ChangeState.TheVariants.{Settled}
use Rattle.peer_state.specs.declared.state.Phase.TheVariants as phases
use Rattle.peer_state.specs.declared.state.State.{State}
use Rattle.stored_formats.specs.declared.fact.Fact.{Fact}
use Rattle.register_model.specs.declared.note.Note.{Note}
use Rattle.step_plans.specs.Plans.{Plan, Out, Rest, noted}
use Rattle.step_plans.specs.Tasks.{keyed}
use Rattle.step_plans.specs.declared.tasks.Task.{Task}
use Rattle.step_plans.specs.declared.tasks.Task.TheVariants as tasks
use Rattle.phase_rows.specs.declared.phase.Seen.{Seen}
use Rattle.phase_rows.specs.declared.phase.Seen.TheVariants as seens
use Rattle.phase_rows.specs.declared.phase.Then.{Then}
use Rattle.phase_rows.specs.declared.phase.Then.TheVariants as thens
use Rattle.phase_rows.specs.declared.rules.KeyRule.{KeyRule}
use Rattle.calm_step_laws.proofs.Keeping.{Keeping, Standing}
use Rattle.calm_step_laws.proofs.Lands.{Aim, Lands}

-- the answer of a rule that goes on with rules on a key, or ends
abbrev pub plain : List Outgoing → List AnswerOut → List Note → Then → List (List ℕ) → LeadOut
plain sends answers notes then keys = record { leave = false; sends = sends; answers = answers; notes = notes; own = None; then = then; keys = keys }

-- the answer of a rule that asks the own stores
abbrev pub asks : List Note → Own → LeadOut
asks notes own = record { leave = false; sends = []; answers = []; notes = notes; own = Some own; then = thens.Stay; keys = [] }

abbrev pub IsSimple : Then → Type 0
IsSimple thens.Stay = Unit {0}
IsSimple (thens.OnKeys n) = Unit {0}
IsSimple other = ⊥

-- the output with these messages and answers
abbrev pub told : Out → List Outgoing → List AnswerOut → Out
told out sends answers = record out { sends = out.sends ++ sends; answers = out.answers ++ answers }

abbrev pub all_noted : List Note → List Note → List Note
all_noted ns [] = ns
all_noted ns (n ∷ more) = all_noted (ns ++ n ∷ []) more

-- a leader of the epoch of this fact, with no change
abbrev pub leads : Fact → Leader → Standing
leads fact l keep = record { fact = fact; seal = keep.seal; mode = keep.mode; trusted = true; phase = phases.Leading (record { leader = l; change = Settled }); sync = None }

pub told_nothing : (out : Out) → told out [] [] ≡ out
told_nothing out = ap (λ s. record out { sends = s; answers = out.answers ++ [] }) (append-nil out.sends) ∙ ap (λ a. record out { answers = a }) (append-nil out.answers)

module _ (me : ℕ) (fact : Fact) (strings : List (List ℕ)) (P : Aim) where
  lands_noted : (notes : List Note) (plan : Plan State) (h : Held) (ns : List Note) → Lands strings P plan h (all_noted ns notes) → Lands strings P (noted notes plan) h ns
  lands_noted [] plan h ns lands = lands
  lands_noted (n ∷ notes) plan h ns lands = lands_noted notes plan h (ns ++ n ∷ []) lands

  followed : (then : Then) (keys : List (List ℕ)) (x : State) (out : Out) (next : Rest State (List Task)) (h : Held) (ns : List Note) → IsSimple then → Lands strings P (next (keyed then keys) x out) h ns → Lands strings P (followed_up me None then keys x out next) h ns
  followed thens.Stay keys x out next h ns simple lands = lands
  followed (thens.OnKeys n) keys x out next h ns simple lands = lands
  followed (thens.Rule n) keys x out next h ns simple lands = absurd simple
  followed thens.Follow keys x out next h ns simple lands = absurd simple
  followed (thens.Lead f) keys x out next h ns simple lands = absurd simple
  followed thens.Untrust keys x out next h ns simple lands = absurd simple
  followed thens.Put keys x out next h ns simple lands = absurd simple
  followed thens.Resume keys x out next h ns simple lands = absurd simple
  followed (thens.SyncOn f) keys x out next h ns simple lands = absurd simple

  -- the plan lands from this leader, whatever its seal and its mode are
  abbrev pub LandsFrom : (State → Plan State) → Leader → Held → List Note → Type 0
  LandsFrom plan l h ns = (keep : Keeping) → Lands strings P (plan (leads fact l keep)) h ns

  -- a row of a leader that goes on with rules on a key, or ends
  pub row_goes : (row : Leader → Leader × LeadOut) (l m : Leader) (out : Out) (sends : List Outgoing) (answers : List AnswerOut) (notes : List Note) (then : Then) (keys : List (List ℕ)) (next : Rest State (List Task)) (h : Held) (ns : List Note)
      → row l ≡ (m, plain sends answers notes then keys) → IsSimple then → LandsFrom (λ x. next (keyed then keys) x (told out sends answers)) m h (all_noted ns notes)
      → LandsFrom (λ x. lead row me x.phase x out next) l h ns
  row_goes row l m out sends answers notes then keys next h ns is simple lands = λ keep.
      subst (λ (r : Leader × LeadOut). Lands strings P (lead_done me r.1 (leads fact r.0 keep) out next) h ns) (sym is)
      (lands_noted notes (followed_up me None then keys (leads fact m keep) (told out sends answers) next) h ns (followed then keys (leads fact m keep) (told out sends answers) next h (all_noted ns notes) simple (lands keep)))

  -- a row of a leader that asks the own stores
  pub row_asks : (row : Leader → Leader × LeadOut) (l m : Leader) (out : Out) (notes : List Note) (own : Own) (next : Rest State (List Task)) (h : Held) (ns : List Note)
      → row l ≡ (m, asks notes own) → LandsFrom (λ x. owned own x out (λ seen y o. next (tasks.Again (asked_by own) (own_key own) seen ∷ []) y o)) m h (all_noted ns notes)
      → LandsFrom (λ x. lead row me x.phase x out next) l h ns
  row_asks row l m out notes own next h ns is lands = λ keep.
      subst (λ (r : Leader × LeadOut). Lands strings P (lead_done me r.1 (leads fact r.0 keep) out next) h ns) (sym is)
      (lands_noted notes (followed_up me (Some own) thens.Stay [] (leads fact m keep) (told out [] []) next) h ns
      (subst (λ o. Lands strings P (owned own (leads fact m keep) o (λ seen y p. next (tasks.Again (asked_by own) (own_key own) seen ∷ []) y p)) h (all_noted ns notes)) (sym (told_nothing out)) (lands keep)))

  module _ (next : Rest State (List Task)) where
    -- rules on a key, in the loop of a step
    pub key_goes : (n : ℕ) (k : KeyRule) (key : List ℕ) (l m : Leader) (out : Out) (sends : List Outgoing) (answers : List AnswerOut) (notes : List Note) (then : Then) (keys : List (List ℕ)) (h : Held) (ns : List Note)
        → lead_row k key seens.Nothing l ≡ (m, plain sends answers notes then keys) → IsSimple then → LandsFrom (λ x. driven me n (keyed then keys ++ []) x (told out sends answers) next) m h (all_noted ns notes)
        → LandsFrom (λ x. driven me (suc n) (tasks.Key k key ∷ []) x out next) l h ns
    unfolding driven
    key_goes n k key l m out sends answers notes then keys h ns is simple lands = row_goes (lead_row k key seens.Nothing) l m out sends answers notes then keys (λ more y o. driven me n (more ++ []) y o next) h ns is simple lands

    pub key_asks : (n : ℕ) (k : KeyRule) (key : List ℕ) (l m : Leader) (out : Out) (notes : List Note) (own : Own) (h : Held) (ns : List Note)
        → lead_row k key seens.Nothing l ≡ (m, asks notes own) → LandsFrom (λ x. owned own x out (λ seen y o. driven me n (tasks.Again (asked_by own) (own_key own) seen ∷ []) y o next)) m h (all_noted ns notes)
        → LandsFrom (λ x. driven me (suc n) (tasks.Key k key ∷ []) x out next) l h ns
    unfolding driven
    key_asks n k key l m out notes own h ns is lands = row_asks (lead_row k key seens.Nothing) l m out notes own (λ more y o. driven me n (more ++ []) y o next) h ns is lands

    pub again_goes : (n : ℕ) (k : KeyRule) (key : List ℕ) (seen : Seen) (l m : Leader) (out : Out) (sends : List Outgoing) (answers : List AnswerOut) (notes : List Note) (then : Then) (keys : List (List ℕ)) (h : Held) (ns : List Note)
        → lead_row k key seen l ≡ (m, plain sends answers notes then keys) → IsSimple then → LandsFrom (λ x. driven me n (keyed then keys ++ []) x (told out sends answers) next) m h (all_noted ns notes)
        → LandsFrom (λ x. driven me (suc n) (tasks.Again k key seen ∷ []) x out next) l h ns
    unfolding driven
    again_goes n k key seen l m out sends answers notes then keys h ns is simple lands = row_goes (lead_row k key seen) l m out sends answers notes then keys (λ more y o. driven me n (more ++ []) y o next) h ns is simple lands

    pub rests_there : (n : ℕ) (l : Leader) (out : Out) (h : Held) (ns : List Note) → LandsFrom (λ x. next [] x out) l h ns → LandsFrom (λ x. driven me n [] x out next) l h ns
    rests_there n l out h ns lands = λ keep. subst (λ plan. Lands strings P plan h ns) (sym (driven_none me n (leads fact l keep) out next)) (lands keep)
