-- What becomes of each call of a leader in a step: on a message, and on a request to change the view.
use Rattle.std.specs.Prelude.{All}
use Rattle.std.proofs.Common.{◌≡◌, ◌⊎◌, ◌∙◌, inl, inr, ap, refl, sym, subst, append-nil, append_assoc, map, ℕ, Bool, List, [], ◌∷◌, ◌++◌, Some}
use Rattle.std.proofs.lemmas.List.Elements.{All-head}
use Rattle.call_table.specs.Calls.{running, without_running}
use Rattle.call_table.specs.declared.table.CallTable.{CallTable}
use Rattle.call_table.specs.declared.waiting.Waiting.{Waiting}
use Rattle.ens_base.specs.declared.reply.Reply.{Reply}
use Rattle.ens_base.specs.declared.reply.Reply.TheVariants as replies
use Rattle.leader_output.specs.declared.out.AnswerOut.{AnswerOut}
use Rattle.leader.specs.Ticks.{left_answer}
use Rattle.leader_laws.specs.Steps.{Serves}
use Rattle.peer_spec.specs.Drives.{step_of}
use Rattle.peer_spec.specs.Kept.{IsStepCall}
use Rattle.peer_state.specs.declared.event.Event.TheVariants as events
use Rattle.peer_state.specs.declared.state.State.{State}
use Rattle.register_model.specs.declared.note.Note.{Note}
use Rattle.step_laws.specs.Whole.{IsGivenFor}
use Rattle.step_plans.specs.Plans.{Follows}
use Rattle.wire_frames.specs.declared.message.Message.{Message}
use Rattle.step_laws.specs.Answering.{IsOfRule, AreServed, AreAnswered, timeout_of}
use Rattle.step_laws.specs.Reached.{unanswered}
use Rattle.step_laws.specs.Resting.{IsResting, LeadsWhole}
use Rattle.step_laws.proofs.Wholes.{KeepsGiven, both, step_follows}

-- ## Rules serve some calls, and the others are left

of_rule : (notes : List Note) (reply : Reply) → IsGivenFor notes reply → IsOfRule reply
of_rule notes (replies.Value stamp bytes) given = tt
of_rule notes replies.NotFound given = tt
of_rule notes replies.Failed given = tt
of_rule notes (replies.Ok stamp) given = tt
of_rule notes replies.Lost given = tt
of_rule notes replies.Unavailable given = given
of_rule notes replies.Busy given = given
of_rule notes replies.Timeout given = given

-- one more is served
more_served : (calls : List Waiting) (served : List AnswerOut) (left : List Waiting) (a : AnswerOut) (key : List ℕ) (w : Waiting) → AreServed calls served left → running key left ≡ Some w → a.caller ≡ w.from → a.id ≡ w.id → IsOfRule a.reply
    → AreServed calls (served ++ a ∷ []) (without_running key left)
more_served calls [] left a key w is runs from id rule = (key, w, subst (λ (cs : List Waiting). running key cs ≡ Some w) is runs, from, id, rule, ap (without_running key) is)
more_served calls (b ∷ served) left a key w (k, v, run, same_from, same_id, by_rule, rest) runs from id rule =
    (k, v, run, same_from, same_id, by_rule, more_served (without_running k calls) served left a key w rest runs from id rule)

module _ (first : List AnswerOut) (calls : List Waiting) where
  abbrev pub Kept : List Waiting → List AnswerOut → List Bool → Type 0
  Kept after answers taken = AreAnswered first calls after answers

  kept_left : (after : List Waiting) (answers : List AnswerOut) (taken : List Bool) → Kept after answers taken → Kept [] (answers ++ map left_answer after) taken
  kept_left after answers taken kept = record { served = kept.served; left = kept.left; serves = kept.serves; ends = inr (by kept.ends, refl) }
    where
      by : ((answers ≡ first ++ kept.served) × (after ≡ kept.left)) ⊎ ((answers ≡ (first ++ kept.served) ++ map timeout_of kept.left) × (after ≡ []))
          → answers ++ map left_answer after ≡ (first ++ kept.served) ++ map timeout_of kept.left
      by (inl (are, rest)) = ap (λ (z : List AnswerOut). z ++ map left_answer after) are ∙ ap (λ (ws : List Waiting). (first ++ kept.served) ++ map left_answer ws) rest
      by (inr (are, none)) = ap (λ (ws : List Waiting). answers ++ map left_answer ws) none ∙ append-nil answers ∙ are

  kept_served : (key : List ℕ) (old new : CallTable) (more : List AnswerOut) (notes : List Note) (answers : List AnswerOut) (taken : List Bool) → Serves key old new more notes → All (λ a. IsGivenFor notes a.reply) more
      → Kept old.calls answers taken → Kept new.calls (answers ++ more) taken
  kept_served key old new [] notes answers taken serves given kept =
      subst (λ (z : List AnswerOut). Kept new.calls z taken) (sym (append-nil answers)) (subst (λ (ws : List Waiting). Kept ws answers taken) (sym serves.0) kept)
  kept_served key old new (a ∷ []) notes answers taken (w, ended, same_from, same_id, cause) given kept = by kept.ends
    where
      by : ((answers ≡ first ++ kept.served) × (old.calls ≡ kept.left)) ⊎ ((answers ≡ (first ++ kept.served) ++ map timeout_of kept.left) × (old.calls ≡ [])) → Kept new.calls (answers ++ a ∷ []) taken
      by (inl (are, rest)) = record {
        served = kept.served ++ a ∷ [];
        left = without_running key kept.left;
        serves = more_served calls kept.served kept.left a key w kept.serves (subst (λ (ws : List Waiting). running key ws ≡ Some w) rest ended.running) same_from same_id
            (of_rule notes a.reply (All-head (λ (b : AnswerOut). IsGivenFor notes b.reply) a [] given));
        ends = inl (ap (λ (z : List AnswerOut). z ++ a ∷ []) are ∙ append_assoc first kept.served (a ∷ []), ended.calls ∙ ap (without_running key) rest);
      }
      by (inr (are, none)) = absurd (nobody (subst (λ (ws : List Waiting). running key ws ≡ Some w) none ended.running))
        where
          nobody : running key [] ≡ Some w → ⊥
          nobody is = cc is
  kept_served key old new (a ∷ (b ∷ more)) notes answers taken serves given kept = absurd serves

  pub kept_keeps : KeepsGiven Kept
  kept_keeps = record { left = kept_left; served = kept_served }

  -- at first no call was served
  pub at_first : (answers : List AnswerOut) → answers ≡ first → AreAnswered first calls calls answers
  at_first answers are = record { served = []; left = calls; serves = refl; ends = inl (are ∙ sym (append-nil first), refl) }

-- ## Messages, and requests to change the view

pub message_answers : (me from : ℕ) (message : Message) (x : State) → IsResting x.phase → LeadsWhole x.phase
    → Follows IsStepCall (λ y out. AreAnswered [] (unanswered x.phase) (unanswered y.phase) out.answers) (step_of me (events.Deliver from message) x)
message_answers me from message x rests whole =
    step_follows me (Kept [] (unanswered x.phase)) (kept_keeps [] (unanswered x.phase)) (λ y out. AreAnswered [] (unanswered x.phase) (unanswered y.phase) out.answers) (events.Deliver from message) x (both x.phase rests whole)
    (at_first [] (unanswered x.phase) [] refl) (λ y out good. good.1)

pub change_answers : (me : ℕ) (view : List ℕ) (x : State) → IsResting x.phase → LeadsWhole x.phase
    → Follows IsStepCall (λ y out. AreAnswered [] (unanswered x.phase) (unanswered y.phase) out.answers) (step_of me (events.Change view) x)
change_answers me view x rests whole =
    step_follows me (Kept [] (unanswered x.phase)) (kept_keeps [] (unanswered x.phase)) (λ y out. AreAnswered [] (unanswered x.phase) (unanswered y.phase) out.answers) (events.Change view) x (both x.phase rests whole)
    (at_first [] (unanswered x.phase) [] refl) (λ y out good. good.1)
