-- Where a plan that ran to its end arrived.
use Rattle.std.specs.Prelude.{OnOk, is_err}
use Rattle.std.proofs.Common.{◌≡◌, false, List, [], ◌∷◌, ◌++◌, Result, Ok, Err, inl, inr, subst, arith}
use Rattle.std.proofs.lemmas.Bool.{true≢false}
use Rattle.register_model.specs.declared.note.Note.{Note}
use Rattle.step_plans.specs.Calls.{Call, AnswerOf}
use Rattle.step_plans.specs.Plans.{Plan, Done, Say, Ask, Out, Finished, Runs, Follows}
use Rattle.step_plans.specs.declared.error.PeerError.{PeerError}
use Rattle.peer_state.specs.declared.state.State.{State}

-- the end that a finished plan reached
pub same_end : (P : State → Out → Type 0) (y x : State) (more out : Out) → Finished x out ≡ Finished y more → P y more → P x out
same_end P y x more out same end = let state : y ≡ x = grind (arith, same) in let sent : more ≡ out = grind (arith, same) in subst (λ k. P k out) state (subst (P y) sent end)

-- a plan that ran to an end reached one that it may reach
pub ran_follows : {S : Type 0} (does : S → (call : Call) → AnswerOf call → S → Type 0) (refuses : S → Call → PeerError → S → Type 0) (Q : Call → Type 0) (P : State → Out → Type 0)
    (p : Plan State) (s : S) (ns : List Note) (x : State) (out : Out) (t : S) (ms : List Note)
    → Follows Q P p → Runs does refuses p s ns (Finished x out) t ms → P x out
ran_follows does refuses Q P (Done y more) s ns x out t ms follows ran = elim ran [
  | inl cut ↦ let none : ⊥ = grind (arith, cut.0) in absurd none
  | inr end ↦ same_end P y x more out end.0 follows
]
ran_follows does refuses Q P (Say note p) s ns x out t ms follows ran = elim ran [
  | inl cut ↦ let none : ⊥ = grind (arith, cut.0) in absurd none
  | inr on ↦ ran_follows does refuses Q P p s (ns ++ note ∷ []) x out t ms follows on
]
ran_follows does refuses Q P (Ask call next) s ns x out t ms follows ran = elim ran [
  | inl cut ↦ let none : ⊥ = grind (arith, cut.0) in absurd none
  | inr (inl off) ↦ let none : ⊥ = grind (arith, off.2) in absurd none
  | inr (inr on) ↦ ran_follows does refuses Q P (next on.0) on.1 ns x out t ms (follows.1 on.0) on.3
]

-- what holds after a step that ended well
pub on_ok : {A E P : Type 0} (r : Result A E) → OnOk r P → is_err r ≡ false → P
on_ok (Ok u) holds well = holds
on_ok (Err e) holds well = absurd (true≢false well)
