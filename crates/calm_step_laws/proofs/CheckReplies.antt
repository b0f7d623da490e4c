-- A leader hears that a member stands at its epoch, and answers its call once a quorum does.
use Rattle.std.proofs.Common.{◌≡◌, refl, ap, sym, ◌∙◌, subst, arith, ℕ, ◌-◌, ◌^◌, Bool, true, false, List, [], ◌∷◌, None, Some}
use Rattle.ens_base.specs.Lists.{same_bytes}
use Rattle.ens_base.specs.PeerSet.{holds}
use Rattle.ens_base.specs.declared.epoch.Epoch.{Epoch}
use Rattle.ens_base.specs.declared.reply.Reply.{Reply}
use Rattle.call_table.specs.Calls.{running, without_running}
use Rattle.call_table.specs.Rows.{row_at, check_at}
use Rattle.call_table.specs.Tables.{ended, rested}
use Rattle.call_table.specs.declared.table.CallTable.{CallTable}
use Rattle.call_table.specs.declared.row.Stage.TheVariants as stages
use Rattle.call_table.specs.declared.waiting.Waiting.{Waiting}
use Rattle.peer_refinement.specs.WorldSpec.{Held}
use Rattle.quorums.specs.Quorums.{is_quorum}
use Rattle.leader_output.specs.declared.out.AnswerOut.{AnswerOut}
use Rattle.leader.specs.Leaders.{stands, base}
use Rattle.leader.specs.Rounds.{row_33_reply, counts}
use Rattle.leader.specs.declared.leader.Leader.{Leader}
use Rattle.peer_refinement.specs.PeerSpec.{step_of, driven, most_turns, concluded}
use Rattle.peer_refinement.proofs.PeerSpec.{most_is_some}
use Rattle.peer_state.specs.declared.event.Event.TheVariants as events
use Rattle.peer_state.specs.declared.state.State.{State}
use Rattle.stored_formats.specs.declared.fact.Fact.{Fact}
use Rattle.quorums.specs.Rounds.{state_of, answered as heard_from}
use Rattle.quorums.specs.declared.round.Round.{Round}
use Rattle.quorums.specs.declared.round.RoundState.{RoundState}
use Rattle.quorums.specs.declared.round.RoundState.TheVariants.{Open, Met, AllAnswered}
use Rattle.register_model.specs.declared.note.Note.TheVariants.{Read}
use Rattle.step_plans.specs.Plans.{Done, Rest, nothing}
use Rattle.step_plans.specs.declared.tasks.Task.{Task}
use Rattle.step_plans.specs.declared.tasks.Task.TheVariants as tasks
use Rattle.wire_frames.specs.declared.message.Message.TheVariants as messages
use Rattle.phase_rows.specs.declared.phase.Then.TheVariants as thens
use Rattle.phase_rows.specs.declared.rules.KeyRule.TheVariants as key_rules
use Rattle.calm_step_laws.proofs.Ends.{concludes, over}
use Rattle.calm_step_laws.proofs.KeyRows.{row_36_ends}
use Rattle.calm_step_laws.proofs.Keeping.{Keeping}
use Rattle.calm_step_laws.proofs.Lands.{Aim, Lands}
use Rattle.calm_step_laws.proofs.Leads.{plain, leads, told, LandsFrom, row_goes, key_goes, rests_there}

-- while a round is open, its votes are no quorum
pub open_votes : (round : Round) → state_of round ≡ Open → is_quorum (holds round.tally.votes) round.tally.views ≡ false
unfolding state_of
open_votes round is = by (is_quorum (holds round.tally.votes) round.tally.views) refl where
  by : (b : Bool) → is_quorum (holds round.tally.votes) round.tally.views ≡ b → b ≡ false
  by false none = refl
  by true quorum = absurd (never (subst (λ (b : Bool). state_of round ≡ Open → state_of round ≡ Open) quorum (λ e. e) is)) where
    never : state_of round ≡ Open → ⊥
    never e = grind (arith, e, quorum)

-- the calls after one is answered
pub ended_calls : (key : List ℕ) (t : CallTable) → (ended key t).calls ≡ without_running key t.calls
unfolding ended rested
ended_calls key t = refl

pub none_left : (key : List ℕ) (w : Waiting) → running key (w ∷ []) ≡ Some w → running key (without_running key (w ∷ [])) ≡ None
none_left key w is = by (same_bytes w.key key) refl where
  by : (b : Bool) → same_bytes w.key key ≡ b → running key (without_running key (w ∷ [])) ≡ None
  by true same = rw same refl
  by false other = rw other (rw other refl)

module _ (me q : ℕ) (fact : Fact) (d : Epoch) (r : ℕ) (key : List ℕ) (w : Waiting) (votes : Round) (reply : Reply) (l : Leader) (strings : List (List ℕ)) (P : Aim)
    (calls : l.table.calls ≡ w ∷ []) (runs : running key (w ∷ []) ≡ Some w) (stage : (row_at key l.table.rows).stage ≡ stages.Checking r votes reply) (at : check_at r l.table.checks ≡ Some key) (epoch : counts d r r l ≡ true) where
  abbrev following : Rest State (List Task)
  following ts y o = driven me most_turns ts y o (λ left z k. concluded me z k (λ u v e. Done v e))

  abbrev pub waiting : Leader
  waiting = stands key (stages.Checking r (heard_from q votes) reply) l

  pub heard_open : (h : Held) → state_of (heard_from q votes) ≡ Open → ((keep : Keeping) → P (leads fact waiting keep) h nothing []) → LandsFrom me fact strings P (λ x. step_of me (events.Deliver q (messages.CheckReply d r)) x) l h []
  heard_open h still holds =
      row_goes me fact strings P (row_33_reply q d r) l waiting nothing [] [] [] thens.Stay [] following h [] (rw (at, calls, runs, stage, epoch, still) refl) tt
      (λ keep. subst (λ z. Lands strings P z h []) (sym (over me (leads fact waiting keep) nothing refl)) (λ among. holds keep))

  abbrev pub answered : Leader
  answered = record l { table = ended key l.table }

  abbrev pub answer : AnswerOut
  answer = record { caller = w.from; id = w.id; reply = reply }

  -- the step ends with the answer
  abbrev pub Answers : Held → Type 0
  Answers h = (keep : Keeping) → P (leads fact answered keep) h (told nothing [] (answer ∷ [])) (Read w.id key (base key l) ∷ [])

  -- the call is answered, and none is left
  answers_call : (h : Held) → row_33_reply q d r l ≡ (answered, plain [] (answer ∷ []) (Read w.id key (base key l) ∷ []) (thens.OnKeys key_rules.StartNextCall) (key ∷ [])) → Answers h → LandsFrom me fact strings P (λ x. step_of me (events.Deliver q (messages.CheckReply d r)) x) l h []
  answers_call h is holds =
      row_goes me fact strings P (row_33_reply q d r) l answered nothing [] (answer ∷ []) (Read w.id key (base key l) ∷ []) (thens.OnKeys key_rules.StartNextCall) (key ∷ []) following h [] is tt
      (subst (λ n. LandsFrom me fact strings P (λ x. driven me n (tasks.Key key_rules.StartNextCall key ∷ []) x (told nothing [] (answer ∷ [])) (λ left z k. concluded me z k (λ u v e. Done v e))) answered h (Read w.id key (base key l) ∷ [])) (sym most_is_some)
      (key_goes me fact strings P (λ left z k. concluded me z k (λ u v e. Done v e)) (2 ^ 64 - 2) key_rules.StartNextCall key answered answered (told nothing [] (answer ∷ [])) [] [] [] thens.Stay [] h (Read w.id key (base key l) ∷ [])
      (row_36_ends key answered (ap (λ cs. running key cs) (ended_calls key l.table ∙ ap (λ cs. without_running key cs) calls) ∙ none_left key w runs)) tt
      (rests_there me fact strings P (λ left z k. concluded me z k (λ u v e. Done v e)) (2 ^ 64 - 2) answered (told nothing [] (answer ∷ [])) h (Read w.id key (base key l) ∷ [])
      (λ keep. subst (λ z. Lands strings P z h (Read w.id key (base key l) ∷ [])) (sym (concludes me (leads fact answered keep) (told nothing [] (answer ∷ [])) (λ u v e. Done v e) refl)) (λ among. holds keep)))))

  -- the reply makes a quorum
  pub heard_met : (h : Held) (state : RoundState) → state_of (heard_from q votes) ≡ state → (state ≡ Open → ⊥) → Answers h → LandsFrom me fact strings P (λ x. step_of me (events.Deliver q (messages.CheckReply d r)) x) l h []
  heard_met h Open met not holds = absurd (not refl)
  heard_met h Met met not holds = answers_call h (rw (at, calls, runs, stage, epoch, met) refl) holds
  heard_met h AllAnswered met not holds = answers_call h (rw (at, calls, runs, stage, epoch, met) refl) holds
