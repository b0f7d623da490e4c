-- Runs over stores.
use Rattle.std.proofs.Common.{true, List, [], ◌∷◌, ◌++◌, refl, sym, inl, inr, subst, arith}
use Rattle.stored_formats.specs.declared.saved.SavedFact.{SavedFact}
use Rattle.peer_state.specs.declared.event.Event.{Event}
use Rattle.peer_state.specs.declared.event.Event.TheVariants as events
use Rattle.peer_state.specs.declared.state.State.{State}
use Rattle.peer_spec.proofs.Ends.{same_end}
use Rattle.register_model.specs.declared.note.Note.{Note}
use Rattle.step_plans.specs.Calls.{Call, AnswerOf}
use Rattle.step_plans.specs.Plans.{Plan, Done, Say, Ask, Out, Finished, Runs}
use Rattle.step_plans.specs.declared.error.PeerError.{PeerError}
use Rattle.peer_turns.specs.Ends.{ComesFrom, EndsIn, last_saved}

-- what holds at each end holds there if it follows
pub ends_less : (P Q : SavedFact → State → Out → Type 0) → ((f : SavedFact) (y : State) (o : Out) → P f y o → Q f y o) → (f : SavedFact) (p : Plan State) → EndsIn P f p → EndsIn Q f p
ends_less P Q less f (Done x out) ends = less f x out ends
ends_less P Q less f (Say note p) ends = ends_less P Q less f p ends
ends_less P Q less f (Ask call next) ends = λ a. ends_less P Q less (last_saved call f) (next a) (ends a)

-- each event comes from a caller of which nothing is asked
pub comes : (event : Event) → ComesFrom (λ n. true) event
comes (events.Deliver from message) = tt
comes events.Tick = tt
comes (events.Call call) = refl
comes (events.Change view) = tt

-- A run to an end of the plan, over stores that hold a fact: at its end they hold the fact that was
-- saved last, and what holds at each end of the plan holds of that fact.
pub ran_ends : {S : Type 0} (does : S → (call : Call) → AnswerOf call → S → Type 0) (refuses : S → Call → PeerError → S → Type 0)
    (P : SavedFact → State → Out → Type 0) (Holds : S → SavedFact → Type 0) → ((s t : S) (call : Call) (a : AnswerOf call) (f : SavedFact) → does s call a t → Holds s f → Holds t (last_saved call f))
    → (p : Plan State) (s : S) (ns : List Note) (f : SavedFact) (x : State) (out : Out) (t : S) (ms : List Note)
    → Holds s f → EndsIn P f p → Runs does refuses p s ns (Finished x out) t ms → (last : SavedFact) × Holds t last × P last x out
ran_ends does refuses P Holds keeps (Done y more) s ns f x out t ms holds ends ran = elim ran [
  | inl cut ↦ let none : ⊥ = grind (arith, cut.0) in absurd none
  | inr end ↦ (f, subst (λ u. Holds u f) (sym end.1) holds, same_end (P f) y x more out end.0 ends)
]
ran_ends does refuses P Holds keeps (Say note p) s ns f x out t ms holds ends ran = elim ran [
  | inl cut ↦ let none : ⊥ = grind (arith, cut.0) in absurd none
  | inr on ↦ ran_ends does refuses P Holds keeps p s (ns ++ note ∷ []) f x out t ms holds ends on
]
ran_ends does refuses P Holds keeps (Ask call next) s ns f x out t ms holds ends ran = elim ran [
  | inl cut ↦ let none : ⊥ = grind (arith, cut.0) in absurd none
  | inr (inl off) ↦ let none : ⊥ = grind (arith, off.2) in absurd none
  | inr (inr on) ↦ ran_ends does refuses P Holds keeps (next on.0) on.1 ns (last_saved call f) x out t ms (keeps s on.1 call on.0 f on.2 holds) (ends on.0) on.3
]
