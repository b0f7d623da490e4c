-- A step as a plan: the calls it makes to the stores, what it notes, and how it goes on after each
-- answer. `X` is the state of the peer.
use Rattle.std.specs.Prelude.{◌≡◌, ◌⊎◌, Bool, List, [], ◌∷◌, ◌++◌, Result, Ok, Err}
use Rattle.leader_output.specs.RegisterModel.{Note}
use Rattle.step_plans.specs.Calls.{Call, AnswerOf}
use Rattle.step_plans.specs.declared.error.PeerError.{PeerError}
use Rattle.step_plans.specs.declared.error.PeerError.TheVariants.{Memory}
use Rattle.leader_output.specs.declared.out.AnswerOut.{AnswerOut}
use Rattle.leader_output.specs.declared.out.Outgoing.{Outgoing}

-- the output of a step that ended well: messages, answers to calls, and replies to requests to
-- change the view
pub record Out : Type 0 where
  pub sends : List Outgoing
  pub answers : List AnswerOut
  pub changes : List Bool

-- no output
abbrev pub nothing : Out
nothing = record { sends = []; answers = []; changes = [] }

-- the step ends in a state with its output, or notes something and goes on, or calls the stores and
-- goes on with the answer
pub data Plan (X : Type 0) : Type 0 where
  Done : (state : X) (out : Out) → Plan X
  Say : (note : Note) (next : Plan X) → Plan X
  Ask : (call : Call) (next : AnswerOf call → Plan X) → Plan X

-- how a step ended
pub data Ending (X : Type 0) : Type 0 where
  Finished : (state : X) (out : Out) → Ending X
  Stopped : (error : PeerError) → Ending X

-- the run is cut here, out of memory: the stores and the notes stay as they are
abbrev pub IsCut : {X P : Type 0} → P → List Note → Ending X → P → List Note → Type 0
IsCut s ns e t ms = (e ≡ Stopped Memory) × (t ≡ s) × (ms ≡ ns)

-- The plan may lead from these stores and notes to this ending, with those stores and notes. A run
-- may be cut anywhere, out of memory, and a refused call ends it. `P` is the state of the stores
-- and the hasher together.
abbrev pub Runs : {X P : Type 0} → (P → (call : Call) → AnswerOf call → P → Type 0) → (P → Call → PeerError → P → Type 0)
    → Plan X → P → List Note → Ending X → P → List Note → Type 0
Runs does refuses (Done x out) s ns e t ms = IsCut s ns e t ms ⊎ ((e ≡ Finished x out) × (t ≡ s) × (ms ≡ ns))
Runs does refuses (Say n p) s ns e t ms = IsCut s ns e t ms ⊎ Runs does refuses p s (ns ++ n ∷ []) e t ms
Runs does refuses (Ask c next) s ns e t ms =
    IsCut s ns e t ms
    ⊎ (((error : PeerError) × refuses s c error t × (e ≡ Stopped error) × (ms ≡ ns))
    ⊎ ((a : AnswerOf c) × (m : _) × does s c a m × Runs does refuses (next a) m ns e t ms))

-- how a plan goes on after a part that returns an `A`: from the state and the output so far
abbrev pub Rest : Type 0 → Type 0 → Type 0
Rest X A = A → X → Out → Plan X

-- a part of a step, which returns an `A`
abbrev pub Part : Type 0 → Type 0 → Type 0
Part X A = X → Out → Rest X A → Plan X

-- a point in a step: the state, the output so far, the stores, and the notes
pub record Spot (X P : Type 0) : Type 0 where
  pub state : X
  pub out : Out
  pub stores : P
  pub notes : List Note

-- A part of a step did what its plan says, whatever follows: it reached its end, or the point where
-- an error stopped it.
abbrev pub Did : {X A P : Type 0} → (P → (call : Call) → AnswerOf call → P → Type 0) → (P → Call → PeerError → P → Type 0)
    → Part X A → Spot X P → Result A PeerError → Spot X P → Type 0
Did does refuses part a (Ok v) b =
    (next : _) (e : Ending _) (end : _) (ls : List Note) → Runs does refuses (next v b.state b.out) b.stores b.notes e end ls
    → Runs does refuses (part a.state a.out next) a.stores a.notes e end ls
Did does refuses part a (Err error) b = (next : _) → Runs does refuses (part a.state a.out next) a.stores a.notes (Stopped error) b.stores b.notes

-- the part that makes one call to the stores
unfoldable pub asked : {X : Type 0} → (call : Call) → Part X (AnswerOf call)
asked call x out next = Ask call (λ a. next a x out)

-- these notes are made, and then the plan goes on
abbrev pub noted : {X : Type 0} → List Note → Plan X → Plan X
noted [] plan = plan
noted (n ∷ ns) plan = Say n (noted ns plan)

-- each call that the plan may make satisfies Q, and each end that it may reach satisfies P
abbrev pub Follows : {X : Type 0} → (Call → Type 0) → (X → Out → Type 0) → Plan X → Type 0
Follows Q P (Done x out) = P x out
Follows Q P (Say n p) = Follows Q P p
Follows Q P (Ask c next) = Q c × ((a : AnswerOf c) → Follows Q P (next a))
