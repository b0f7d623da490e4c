-- The loop of a step, one task after another.
use Rattle.std.proofs.Common.{◌≡◌, ◌<◌, ◌≤◌, ◌∙◌, sym, subst, ℕ, zero, suc, ◌+◌, ◌-◌, arith, List, [], ◌∷◌, ◌++◌, Result, Ok, Err, refl}
use Rattle.register_model.specs.declared.note.Note.{Note}
use Rattle.step_plans.specs.Calls.{Call, AnswerOf, Answers}
use Rattle.step_plans.specs.Plans.{Plan, Out, Rest, Spot, Ending, Stopped, Runs, Did, asked}
use Rattle.step_plans.specs.declared.error.PeerError.{PeerError}
use Rattle.step_plans.specs.declared.error.PeerError.TheVariants.{Memory}
use Rattle.step_plans.specs.declared.tasks.Task.{Task}
use Rattle.step_plans.proofs.Parts.{cut as cut_at, asked_did as asks}
use Rattle.peer_spec.specs.Drives.{task_done, driven}
use Rattle.peer_state.specs.declared.state.State.{State}

pub one_turn : (turns turn : ℕ) → turn < turns → turns - turn ≡ suc (turns - (turn + 1))
one_turn turns turn lt = omega (arith, lt)

pub driven_none : (me n : ℕ) (x : State) (out : Out) (next : Rest State (List Task)) → driven me n [] x out next ≡ next [] x out
unfolding driven
driven_none me zero x out next = refl
driven_none me (suc n) x out next = refl

module _ {P : Type 0} (does : P → (call : Call) → AnswerOf call → P → Type 0) (refuses : P → Call → PeerError → P → Type 0) where
  -- each plan may be cut at once, out of memory
  pub cut : (p : Plan State) (s : P) (ns : List Note) → Runs does refuses p s ns (Stopped Memory) s ns
  cut p s ns = cut_at does refuses p s ns

  -- a call to the stores, answered or refused, is a part of a step
  pub asked_did : (call : Call) (x : State) (out : Out) (s t : P) (ns : List Note) (r : Result (AnswerOf call) PeerError) → Answers does refuses s call r t
      → Did does refuses (asked call) (record { state = x; out = out; stores = s; notes = ns }) r (record { state = x; out = out; stores = t; notes = ns })
  asked_did call x out s t ns r told = asks does refuses call x out s t ns r told

  -- no task is left
  pub all_done : (me n : ℕ) (ts rest : List Task) (a : Spot State P) (next : Rest State (List Task)) (e : Ending State) (t : P) (ls : List Note) → ts ≡ [] → ts ≡ rest
      → Runs does refuses (next rest a.state a.out) a.stores a.notes e t ls → Runs does refuses (driven me n ts a.state a.out next) a.stores a.notes e t ls
  all_done me n ts rest a next e t ls none same ran =
      rw none (rw (driven_none me n a.state a.out next) (subst (λ k. Runs does refuses (next k a.state a.out) a.stores a.notes e t ls) (sym same ∙ none) ran))

  driven_all : (me n : ℕ) (ts : List Task) (x : State) (out : Out) (next : Rest State (List Task)) → n ≡ 0 → driven me n ts x out next ≡ next ts x out
  unfolding driven
  driven_all me zero ts x out next is = refl
  driven_all me (suc n) ts x out next is = let none : ⊥ = grind (arith, is) in absurd none

  -- no turn is left
  pub no_turns : (me turns turn : ℕ) (ts : List Task) (a : Spot State P) (next : Rest State (List Task)) (e : Ending State) (t : P) (ls : List Note) → turns ≤ turn
      → Runs does refuses (next ts a.state a.out) a.stores a.notes e t ls → Runs does refuses (driven me (turns - turn) ts a.state a.out next) a.stores a.notes e t ls
  no_turns me turns turn ts a next e t ls over ran =
      let none : turns - turn ≡ 0 = omega (arith, over) in rw (driven_all me (turns - turn) ts a.state a.out next none) ran

  -- one task was run
  pub one_done : (me turns turn : ℕ) (ts rest more : List Task) (task : Task) (a b : Spot State P) (next : Rest State (List Task)) (e : Ending State) (t : P) (ls : List Note)
      → turn < turns → ts ≡ task ∷ rest → Did does refuses (task_done me task) a (Ok more) b
      → Runs does refuses (driven me (turns - (turn + 1)) (more ++ rest) b.state b.out next) b.stores b.notes e t ls
      → Runs does refuses (driven me (turns - turn) ts a.state a.out next) a.stores a.notes e t ls
  unfolding driven
  one_done me turns turn ts rest more task a b next e t ls lt is did ran =
      rw is (rw (one_turn turns turn lt) (did (λ more y o. driven me (turns - (turn + 1)) (more ++ rest) y o next) e t ls ran))

  -- one task stopped
  pub one_stopped : (me turns turn : ℕ) (ts rest : List Task) (task : Task) (a b : Spot State P) (error : PeerError) (next : Rest State (List Task))
      → turn < turns → ts ≡ task ∷ rest → Did {A = List Task} does refuses (task_done me task) a (Err error) b
      → Runs does refuses (driven me (turns - turn) ts a.state a.out next) a.stores a.notes (Stopped error) b.stores b.notes
  unfolding driven
  one_stopped me turns turn ts rest task a b error next lt is did =
      rw is (rw (one_turn turns turn lt) (did (λ more y o. driven me (turns - (turn + 1)) (more ++ rest) y o next)))
