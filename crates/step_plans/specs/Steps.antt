-- What a call did that took a step: how its plan ended, and what it added to the outbox.
use Rattle.std.specs.Prelude.{◌≡◌, ◌++◌, List, Result, Ok, Err}
use Rattle.leader_output.specs.RegisterModel.{Note}
use Rattle.step_plans.specs.Calls.{Call, AnswerOf}
use Rattle.step_plans.specs.Outboxes.{out_of}
use Rattle.step_plans.specs.Plans.{Plan, Out, Finished, Stopped, Runs}
use Rattle.step_plans.specs.declared.error.PeerError.{PeerError}
use Rattle.step_plans.specs.declared.error.PeerError.TheVariants.{Memory}
use Rattle.step_plans.specs.declared.outbox.Outbox.{Outbox}

-- The plan led from these stores and notes to the end of the call. A plan that ended well may still
-- be cut, out of memory, at the very end.
abbrev pub Ended : {X A P : Type 0} → (P → (call : Call) → AnswerOf call → P → Type 0) → (P → Call → PeerError → P → Type 0)
    → Plan X → P → List Note → Result A PeerError → X → Out → P → List Note → Type 0
Ended does refuses plan s ns (Ok u) x out t ms = Runs does refuses plan s ns (Finished x out) t ms × Runs does refuses plan s ns (Stopped Memory) t ms
Ended does refuses plan s ns (Err error) x out t ms = Runs does refuses plan s ns (Stopped error) t ms

-- the step ended well: its output comes after what was in the outbox, and its notes after the notes
pub record HasFinished {X P : Type 0} (does : P → (call : Call) → AnswerOf call → P → Type 0) (refuses : P → Call → PeerError → P → Type 0)
    (plan : Plan X) (s : P) (o : Outbox) (x : X) (t : P) (q : Outbox) : Type 0 where
  pub out : Out
  pub ran : Runs does refuses plan s o.notes.items (Finished x out) t q.notes.items
  pub sends : q.sends.items ≡ o.sends.items ++ out.sends
  pub answers : q.answers.items ≡ o.answers.items ++ out.answers
  pub changes : q.changes.items ≡ o.changes.items ++ out.changes

-- This error stopped the step: it puts out nothing, and the stores, the hasher and the notes are as
-- the run left them at that point.
pub record HasStopped {X P : Type 0} (does : P → (call : Call) → AnswerOf call → P → Type 0) (refuses : P → Call → PeerError → P → Type 0)
    (plan : Plan X) (error : PeerError) (s : P) (o : Outbox) (t : P) (q : Outbox) : Type 0 where
  pub ran : Runs does refuses plan s o.notes.items (Stopped error) t q.notes.items
  pub still : out_of q ≡ out_of o

-- the call took the step
abbrev pub Steps : {X A P : Type 0} → (P → (call : Call) → AnswerOf call → P → Type 0) → (P → Call → PeerError → P → Type 0)
    → Plan X → P → Outbox → Result A PeerError → X → P → Outbox → Type 0
Steps does refuses plan s o (Ok u) x t q = HasFinished does refuses plan s o x t q
Steps does refuses plan s o (Err error) x t q = HasStopped does refuses plan error s o t q
