-- What becomes of each call of a leader in a step on a call.
use Rattle.std.proofs.Common.{◌≡◌, ◌∙◌, ◌==◌, refl, sym, subst, nat_le, ℕ, Bool, true, false, if◌then◌else◌, List, [], ◌∷◌, ◌++◌}
use Rattle.std.proofs.lemmas.Bool.{false≢true}
use Rattle.call_table.specs.Calls.{waiting_on}
use Rattle.call_table.specs.declared.waiting.Waiting.{Waiting}
use Rattle.ens_base.specs.declared.reply.Reply.TheVariants as replies
use Rattle.leader_output.specs.Outs.{rests, leads_on, and_answer}
use Rattle.leader_output.specs.declared.out.AnswerOut.{AnswerOut}
use Rattle.leader_output.specs.declared.out.LeadOut.{LeadOut}
use Rattle.leader.proofs.Cases.{either}
use Rattle.leader.specs.Leaders.{joined}
use Rattle.leader.specs.Starts.{row_27}
use Rattle.leader.specs.declared.leader.Leader.{Leader}
use Rattle.peer_spec.specs.Drives.{step_of}
use Rattle.peer_spec.specs.Kept.{IsStepCall}
use Rattle.peer_state.specs.Rows.{has_begun}
use Rattle.peer_state.specs.declared.event.CallIn.{CallIn}
use Rattle.peer_state.specs.declared.event.Event.TheVariants as events
use Rattle.peer_state.specs.declared.state.ChangeState.{ChangeState}
use Rattle.peer_state.specs.declared.state.ChangeState.TheVariants.{Settled, Wanted, Finishing}
use Rattle.peer_state.specs.declared.state.Leadership.{Leadership}
use Rattle.peer_state.specs.declared.state.Phase.{Phase}
use Rattle.peer_state.specs.declared.state.Phase.TheVariants as phases
use Rattle.peer_state.specs.declared.state.State.{State}
use Rattle.phase_rows.specs.declared.rules.KeyRule.TheVariants as key_rules
use Rattle.step_laws.proofs.CallStarts.{at_least, below}
use Rattle.step_plans.specs.Plans.{Follows, nothing}
use Rattle.step_laws.specs.Answering.{HasBegun, AreAnswered, AnswersCall, refusal_of, busy_answer_of, waiting_of}
use Rattle.step_laws.specs.Reached.{unanswered}
use Rattle.step_laws.specs.Resting.{IsResting, LeadsWhole}
use Rattle.step_laws.proofs.Answered.{begun_true}
use Rattle.step_laws.proofs.Served.{Kept, kept_keeps, at_first}
use Rattle.step_laws.proofs.Wholes.{After, CallComes, both, step_follows}

has_one : (change : ChangeState) → has_begun change ≡ true → HasBegun change
has_one Settled is = absurd (false≢true is)
has_one (Wanted change) is = tt
has_one (Finishing f) is = tt

module _ (me : ℕ) (call : CallIn) (l : Leadership) where
  -- what rule 27 leaves of a leader that has begun a change, or whose key has enough calls, or neither
  abbrev refuses : Leader × LeadOut
  refuses = (l.leader, and_answer call.from call.id replies.Unavailable rests)

  abbrev is_busy : Leader × LeadOut
  is_busy = (l.leader, and_answer call.from call.id replies.Busy rests)

  abbrev joins : Leader × LeadOut
  joins = (joined (waiting_of call) l.leader, if waiting_on call.key l.leader.table.calls == 0 then leads_on key_rules.StartCall call.key else rests)

  -- a leader begins with these answers, and with these calls
  abbrev Begins : List AnswerOut → List Waiting → Leader × LeadOut → Type 0
  Begins first calls r = After (Kept first calls) r nothing

  joins_begin : Begins [] (l.leader.table.calls ++ waiting_of call ∷ []) joins
  joins_begin =
      let calls : List Waiting = l.leader.table.calls ++ waiting_of call ∷ [] in
      either (λ (o : LeadOut). Begins [] calls (joined (waiting_of call) l.leader, o)) (waiting_on call.key l.leader.table.calls == 0) _ _ (at_first [] calls [] refl) (at_first [] calls [] refl)

  pub call_answers : (x : State) → x.phase ≡ phases.Leading l → IsResting x.phase → LeadsWhole x.phase → Follows IsStepCall (λ y out. AnswersCall call l (unanswered y.phase) out.answers) (step_of me (events.Call call) x)
  call_answers x same rests whole = by_change (has_begun l.change) refl (nat_le 16 many) refl
    where
      many : ℕ
      many = waiting_on call.key l.leader.table.calls

      goes : (first : List AnswerOut) (calls : List Waiting) → Begins first calls (row_27 call.from call.id call.key call.command (has_begun l.change) l.leader)
          → ((after : List Waiting) (answers : List AnswerOut) → AreAnswered first calls after answers → AnswersCall call l after answers)
          → Follows IsStepCall (λ y out. AnswersCall call l (unanswered y.phase) out.answers) (step_of me (events.Call call) x)
      goes first calls begins answers =
          step_follows me (Kept first calls) (kept_keeps first calls) (λ y out. AnswersCall call l (unanswered y.phase) out.answers) (events.Call call) x (both x.phase rests whole)
          (subst (λ (phase : Phase). CallComes (Kept first calls) call phase nothing) (sym same) begins) (λ y out good. answers (unanswered y.phase) out.answers good.1)

      by_change : (b : Bool) → has_begun l.change ≡ b → (full : Bool) → nat_le 16 many ≡ full → Follows IsStepCall (λ y out. AnswersCall call l (unanswered y.phase) out.answers) (step_of me (events.Call call) x)
      by_change true begun full room =
          goes (refusal_of call ∷ []) l.leader.table.calls
          (subst (λ (b : Bool). Begins (refusal_of call ∷ []) l.leader.table.calls (if b then refuses else (if nat_le 16 many then is_busy else joins))) (sym begun) (at_first (refusal_of call ∷ []) l.leader.table.calls (refusal_of call ∷ []) refl))
          (λ after answers are. record { begun = λ one. are; busy = λ none enough. absurd (none (has_one l.change begun)); waits = λ none few. absurd (none (has_one l.change begun)) })
      by_change false none true room =
          goes (busy_answer_of call ∷ []) l.leader.table.calls
          (subst (λ (b : Bool). Begins (busy_answer_of call ∷ []) l.leader.table.calls (if b then refuses else (if nat_le 16 many then is_busy else joins))) (sym none)
          (subst (λ (full : Bool). Begins (busy_answer_of call ∷ []) l.leader.table.calls (if full then is_busy else joins)) (sym room) (at_first (busy_answer_of call ∷ []) l.leader.table.calls (busy_answer_of call ∷ []) refl)))
          (λ after answers are. record { begun = λ one. absurd (false≢true (sym none ∙ begun_true l.change one)); busy = λ no enough. are; waits = λ no few. absurd (false≢true (sym (below many few) ∙ room)) })
      by_change false none false room =
          let calls : List Waiting = l.leader.table.calls ++ waiting_of call ∷ [] in
          goes [] calls
          (subst (λ (b : Bool). Begins [] calls (if b then refuses else (if nat_le 16 many then is_busy else joins))) (sym none)
          (subst (λ (full : Bool). Begins [] calls (if full then is_busy else joins)) (sym room) joins_begin))
          (λ after answers are. record { begun = λ one. absurd (false≢true (sym none ∙ begun_true l.change one)); busy = λ no enough. absurd (false≢true (sym room ∙ at_least many enough)); waits = λ no few. are })
