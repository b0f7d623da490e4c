use Rattle.std.proofs.Common.{◌≡◌, ◌-◌, List, []}
use Rattle.register_model.specs.declared.note.Note.{Note}
use Rattle.peer_spec.specs.Drives.{driven}
use Rattle.step_plans.specs.Outboxes.{Grows, out_of}
use Rattle.step_plans.specs.Plans.{Rest, Ending, Runs}
use Rattle.step_plans.specs.declared.tasks.Task.{Task}
use Rattle.peer_state.specs.declared.state.State.{State}
use Rattle.peer_machine.proofs.machine.Machine.drive.Given as goal

-- running the tasks that are left from this point completes the whole loop, whatever follows
abbrev pub invariant-loop-turn : goal.invariant-loop-turn
invariant-loop-turn g l = ((next : Rest State (List Task)) (e : Ending State) (end : _) (ls : List Note)
    → Runs g.S.Store.does g.S.Store.refuses (driven l.me (l.turns - l.turn) l.tasks l.self.state (out_of l.out) next) (l.self.stores, l.hasher) l.out.notes.items e end ls
    → Runs g.S.Store.does g.S.Store.refuses (driven l.me l.turns l.fn.tasks l.fn.self.state (out_of l.fn.out) next) (l.fn.self.stores, l.fn.hasher) l.fn.out.notes.items e end ls)
    × Grows l.fn.out l.out × (l.fn.tasks ≡ [] → l.tasks ≡ [])
