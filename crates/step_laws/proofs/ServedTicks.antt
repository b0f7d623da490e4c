-- What becomes of each call of a leader in a tick.
use Rattle.std.specs.Prelude.{All, filter}
use Rattle.std.proofs.Common.{◌≡◌, ◌∙◌, inl, ap, refl, sym, subst, append-nil, map, ℕ, Bool, true, false, if◌then◌else◌, List, [], ◌∷◌, ◌++◌, Some}
use Rattle.std.proofs.lemmas.Bool.{false≢true}
use Rattle.call_table.specs.Calls.{running, is_due, not_due, older as older_call}
use Rattle.call_table.specs.declared.table.CallTable.{CallTable}
use Rattle.call_table.specs.declared.waiting.Waiting.{Waiting}
use Rattle.leader_output.specs.declared.out.AnswerOut.{AnswerOut}
use Rattle.leader_output.specs.declared.out.LeadOut.{LeadOut}
use Rattle.leader.specs.Ticks.{left_answer, row_5_calls as tick_row}
use Rattle.leader.specs.declared.leader.Leader.{Leader}
use Rattle.leader_laws.specs.Steps.{Serves, IsTimely}
use Rattle.leader_laws.proofs.TimeOuts.{row_5_ticks}
use Rattle.peer_spec.specs.Drives.{step_of}
use Rattle.peer_spec.specs.Kept.{IsStepCall}
use Rattle.peer_state.specs.Leading.{older, end_of}
use Rattle.peer_state.specs.declared.event.Event.TheVariants as events
use Rattle.peer_state.specs.declared.state.Leadership.{Leadership}
use Rattle.peer_state.specs.declared.state.Phase.{Phase}
use Rattle.peer_state.specs.declared.state.Phase.TheVariants as phases
use Rattle.peer_state.specs.declared.state.State.{State}
use Rattle.register_model.specs.declared.note.Note.{Note}
use Rattle.step_laws.specs.Whole.{IsGivenFor}
use Rattle.step_plans.specs.Plans.{Follows, nothing}
use Rattle.step_laws.specs.Answering.{AreAnswered, AnswersTick, timeout_of, stops_by_age}
use Rattle.step_laws.specs.Reached.{unanswered}
use Rattle.step_laws.specs.Resting.{IsResting, LeadsWhole}
use Rattle.step_laws.proofs.Served.{Kept, kept_keeps}
use Rattle.step_laws.proofs.Counts.{late_calls}
use Rattle.step_laws.proofs.Walks.{left_calls, left_given}
use Rattle.step_laws.proofs.Wholes.{KeepsGiven, TickComes, both, step_follows}

-- each of these calls is answered `timeout`, and none is unanswered
abbrev Stopped : List Waiting → List Waiting → List AnswerOut → List Bool → Type 0
Stopped calls after answers taken = (answers ≡ map timeout_of calls) × (after ≡ [])

stopped_keeps : (calls : List Waiting) → KeepsGiven (Stopped calls)
stopped_keeps calls = record { left = left; served = served }
  where
    left : (after : List Waiting) (answers : List AnswerOut) (taken : List Bool) → Stopped calls after answers taken → Stopped calls [] (answers ++ map left_answer after) taken
    left after answers taken (are, none) = (ap (λ (ws : List Waiting). answers ++ map left_answer ws) none ∙ append-nil answers ∙ are, refl)

    served : (key : List ℕ) (old new : CallTable) (more : List AnswerOut) (notes : List Note) (answers : List AnswerOut) (taken : List Bool) → Serves key old new more notes → All (λ a. IsGivenFor notes a.reply) more
        → Stopped calls old.calls answers taken → Stopped calls new.calls (answers ++ more) taken
    served key old new [] notes answers taken serves given (are, none) = (append-nil answers ∙ are, serves.0 ∙ none)
    served key old new (a ∷ []) notes answers taken (w, ended, same_from, same_id, cause) given (are, none) = absurd (nobody (subst (λ (ws : List Waiting). running key ws ≡ Some w) none ended.running))
      where
        nobody : running key [] ≡ Some w → ⊥
        nobody is = cc is
    served key old new (a ∷ (b ∷ more)) notes answers taken serves given stopped = absurd serves

-- an answer `timeout` does not tell the age of its call
older_same : (calls : List Waiting) → map left_answer (map older_call calls) ≡ map timeout_of calls
older_same [] = refl
older_same (w ∷ calls) = ap (λ (more : List AnswerOut). timeout_of w ∷ more) (older_same calls)

module _ (me : ℕ) (l : Leadership) where
  abbrev ticked : Leader × LeadOut
  ticked = tick_row (end_of (older l.change)) l.leader

  abbrev older_calls : List Waiting
  older_calls = map older_call l.leader.table.calls

  late_begins : (leave : Bool) (calls : List Waiting) (more : List AnswerOut) → leave ≡ true → calls ≡ older_calls → more ≡ [] → Stopped l.leader.table.calls (left_calls leave calls) (left_given leave calls [] ++ more) []
  late_begins true calls more is same none =
      (ap (λ (z : List AnswerOut). map left_answer calls ++ z) none ∙ append-nil (map left_answer calls) ∙ ap (map left_answer) same ∙ older_same l.leader.table.calls, refl)
  late_begins false calls more is same none = absurd (false≢true is)

  early_begins : (first : List AnswerOut) (start : List Waiting) (leave : Bool) (calls : List Waiting) (more : List AnswerOut) → leave ≡ false → calls ≡ start → more ≡ first → AreAnswered first start (left_calls leave calls) (left_given leave calls [] ++ more)
  early_begins first start false calls more is same are = record { served = []; left = start; serves = refl; ends = inl (are ∙ sym (append-nil first), same) }
  early_begins first start true calls more is same are = absurd (false≢true (sym is))

  pub tick_answers : (x : State) → x.phase ≡ phases.Leading l → IsResting x.phase → LeadsWhole x.phase → Follows IsStepCall (λ y out. AnswersTick l (unanswered y.phase) out.answers) (step_of me events.Tick x)
  tick_answers x same rests whole = by (stops_by_age l) refl (row_5_ticks (end_of (older l.change)) l.leader).timely
    where
      by : (late : Bool) → stops_by_age l ≡ late → IsTimely (stops_by_age l) l.leader ticked → Follows IsStepCall (λ y out. AnswersTick l (unanswered y.phase) out.answers) (step_of me events.Tick x)
      by true late timely =
          step_follows me (Stopped l.leader.table.calls) (stopped_keeps l.leader.table.calls) (λ y out. AnswersTick l (unanswered y.phase) out.answers) events.Tick x (both x.phase rests whole)
          (subst (λ (phase : Phase). TickComes (Stopped l.leader.table.calls) phase nothing) (sym same)
          (late_begins ticked.1.leave ticked.0.table.calls ticked.1.answers (timely.leave ∙ late) (late_calls (stops_by_age l) _ _ late)
          (timely.answers ∙ ap (λ (b : Bool). if◌then◌else◌ {A = List AnswerOut} b [] (map left_answer (filter is_due older_calls))) late)))
          (λ y out good. record { stops = λ is. good.1; goes_on = λ is. absurd (false≢true (sym is ∙ late)) })
      by false late timely =
          let first : List AnswerOut = map timeout_of (filter is_due older_calls) in
          step_follows me (Kept first (not_due older_calls)) (kept_keeps first (not_due older_calls)) (λ y out. AnswersTick l (unanswered y.phase) out.answers) events.Tick x (both x.phase rests whole)
          (subst (λ (phase : Phase). TickComes (Kept first (not_due older_calls)) phase nothing) (sym same)
          (early_begins first (not_due older_calls) ticked.1.leave ticked.0.table.calls ticked.1.answers (timely.leave ∙ late) (timely.calls late)
          (timely.answers ∙ ap (λ (b : Bool). if◌then◌else◌ {A = List AnswerOut} b [] (map left_answer (filter is_due older_calls))) late)))
          (λ y out good. record { stops = λ is. absurd (false≢true (sym late ∙ is)); goes_on = λ is. good.1 })
