-- The plan of a step, call by call: it ends in agreement if each of its calls goes on in agreement or is
-- refused.
use Rattle.std.proofs.Common.{◌≡◌, ◌⊎◌, inl, inr, ℕ, List, [], ◌∷◌, ◌++◌, Result, Ok, Err, refl, sym, subst, ◌∙◌}
use Rattle.protocol_laws.specs.Protocol.{State}
use Rattle.call_table.specs.Calls.{running}
use Rattle.call_table.specs.Rows.{row_at}
use Rattle.peer_refinement.specs.WorldSpec.{answered, Held, Ended, run, either}
use Rattle.leader_refinement.specs.Follows.{TaskHolds}
use Rattle.leader.specs.declared.pending.Pending.{Pending}
use Rattle.peer_state.specs.declared.state.Phase.{Phase}
use Rattle.peer_state.specs.declared.state.Phase.TheVariants as phases
use Rattle.peer_state.specs.declared.state.State.{State as PeerState}
use Rattle.peer_spec.specs.Turns.{StepsAlone}
use Rattle.register_model.specs.declared.note.Note.{Note}
use Rattle.step_plans.specs.Calls.{Call, AnswerOf}
use Rattle.step_plans.specs.Plans.{Plan, Done, Say, Ask, Stopped, Out, Rest}
use Rattle.step_plans.specs.declared.error.PeerError.{PeerError}
use Rattle.step_refinement.specs.Peers.{TaskFits, IsAtRest}
use Rattle.peer_refinement.specs.Trees.{AreAmong}
use Rattle.peer_refinement.specs.TreeLaws.{KeepsHashed}
use Rattle.step_refinement.specs.Scenes.{Scene, EndsBy, Rests}

-- a peer without a task fits on each key
pub rest_task : (s : State) (key : List ℕ) (phase : Phase) → IsAtRest phase → TaskFits s key phase
rest_task s key (phases.Leading l) rests = subst (λ (task : Pending). TaskHolds s l.leader key (row_at key l.leader.table.rows).known (running key l.leader.table.calls) task) (sym rests) tt
rest_task s key phase rests = tt

module _ (c : Scene) where
  open c use {strings}

  -- The plan ends in agreement, if all that its run hashes is among the strings. `mark` is the same plan
  -- but for what follows when the limit on tasks is reached, so that this never happens: see
  -- `nothing_is_left` of peer_spec.
  abbrev pub Ends : Plan PeerState → Plan PeerState → Held → List Note → Type 0
  Ends plan mark h notes = StepsAlone mark → AreAmong (run plan h notes).held.hashed strings → EndsBy c (run plan h notes).ending (run plan h notes).held (run plan h notes).notes

  -- what follows a call: its answer, and the rest of the plan from there
  pub record Answers (call : Call) (next mark : AnswerOf call → Plan PeerState) (h : Held) (notes : List Note) : Type 0 where
    pub answer : AnswerOf call
    pub is : (answered call h).result ≡ Ok answer
    pub goes : Ends (next answer) (mark answer) (answered call h).held notes

  -- the call is refused, and the step ends
  pub record IsRefused (call : Call) (h : Held) (notes : List Note) : Type 0 where
    pub error : PeerError
    pub is : (answered call h).result ≡ Err error
    pub rests : Rests c (answered call h).held notes

  -- the rest of a plan ends well wherever the peer is in agreement
  abbrev pub Onward : {A : Type 0} → (A → List ℕ → PeerState → Held → Out → List Note → Type 0) → Rest PeerState A → Rest PeerState A → Type 0
  Onward {A} There next mark = (v : A) (key : List ℕ) (x : PeerState) (h : Held) (out : Out) (notes : List Note) → There v key x h out notes → Ends (next v x out) (mark v x out) h notes

module _ (hash : KeepsHashed) where
  -- what was hashed before a plan runs stays hashed
  pub run_hashes : (plan : Plan PeerState) (h : Held) (notes : List Note) → AreAmong h.hashed (run plan h notes).held.hashed
  run_hashes (Done x out) h notes = λ s at. at
  run_hashes (Say n plan) h notes = run_hashes plan h (notes ++ n ∷ [])
  run_hashes (Ask call next) h notes = λ s at. goes_on (answered call h).result (λ a. run_hashes (next a) (answered call h).held notes) s (hash call h s at)
    where
      goes_on : (r : Result (AnswerOf call) PeerError) → ((a : AnswerOf call) → AreAmong (answered call h).held.hashed (run (next a) (answered call h).held notes).held.hashed)
          → AreAmong (answered call h).held.hashed (either {R = Ended PeerState} r (λ a. run (next a) (answered call h).held notes) (λ error. record { ending = Stopped error; held = (answered call h).held; notes = notes })).held.hashed
      goes_on (Ok a) rest = rest a
      goes_on (Err e) rest = λ s at. at

  -- a call: the plan goes on with its answer, or the step ends
  pub ask_may_end : (c : Scene) (call : Call) (next mark : AnswerOf call → Plan PeerState) (h : Held) (notes : List Note)
      → (AreAmong (answered call h).held.hashed c.strings → Answers c call next mark h notes ⊎ IsRefused c call h notes) → Ends c (Ask call next) (Ask call mark) h notes
  ask_may_end c call next mark h notes goes alone = by_result (answered call h).result refl
    where
      after : Result (AnswerOf call) PeerError → Ended PeerState
      after r = either r (λ a. run (next a) (answered call h).held notes) (λ error. record { ending = Stopped error; held = (answered call h).held; notes = notes })

      ended : (a : AnswerOf call) → AreAmong (run (next a) (answered call h).held notes).held.hashed c.strings → Answers c call next mark h notes ⊎ IsRefused c call h notes
      ended a among = goes (λ s at. among s (run_hashes (next a) (answered call h).held notes s at))

      with_answer : (r : Result (AnswerOf call) PeerError) → Answers c call next mark h notes ⊎ IsRefused c call h notes → (answered call h).result ≡ r → AreAmong (after r).held.hashed c.strings → EndsBy c (after r).ending (after r).held (after r).notes
      with_answer r (inl ans) is = subst (λ z. AreAmong (after z).held.hashed c.strings → EndsBy c (after z).ending (after z).held (after z).notes) (sym ans.is ∙ is) (λ among. ans.goes (alone.1 ans.answer) among)
      with_answer r (inr refused) is = subst (λ z. AreAmong (after z).held.hashed c.strings → EndsBy c (after z).ending (after z).held (after z).notes) (sym refused.is ∙ is) (λ among. refused.rests)

      by_result : (r : Result (AnswerOf call) PeerError) → (answered call h).result ≡ r → AreAmong (after r).held.hashed c.strings → EndsBy c (after r).ending (after r).held (after r).notes
      by_result (Ok a) is among = with_answer (Ok a) (ended a among) is among
      by_result (Err e) is among = with_answer (Err e) (goes among) is among

  -- a call that is not refused
  pub ask_ends : (c : Scene) (call : Call) (next mark : AnswerOf call → Plan PeerState) (h : Held) (notes : List Note)
      → (AreAmong (answered call h).held.hashed c.strings → Answers c call next mark h notes) → Ends c (Ask call next) (Ask call mark) h notes
  ask_ends c call next mark h notes goes = ask_may_end c call next mark h notes (λ among. inl (goes among))
