use Rattle.std.proofs.Common.{◌≡◌, true, sym, subst}
use Rattle.step_plans.specs.Outboxes.{out_of}
use Rattle.step_plans.specs.Plans.{Runs}
use Rattle.step_plans.proofs.Parts.{did_after}
use Rattle.peer_spec.specs.Drives.{row_done, delivered}
use Rattle.peer_state.specs.NoAllocation.{ends_step, IsFreeRow}
use Rattle.peer_machine.specs.Outcomes.{spot}
use Rattle.peer_spec.proofs.Delivering.{delivered_row}
use Rattle.peer_spec.proofs.FreeRows.{received_free, received_ends}
use Rattle.peer_machine.proofs.machine.Machine.deliver.Goals as goal

pub returns-in_default-clause-fits : goal.returns-in_default-clause-fits
returns-in_default-clause-fits g c = λ is quiet room.
    c.row_done.ensures.fits (subst (λ r. IsFreeRow c.args.out.now r.0.phase r.1) (sym c.receive-row.ensures)
    (received_free c.args.out.now c.args.me c.args.from c.args.message.now c.args.self.now.state c.requires.from quiet room is))

pub returns-in_default-clause-names : goal.returns-in_default-clause-names
returns-in_default-clause-names g c = λ is.
    c.row_done.ensures.none (subst (λ r. ends_step r.1.then ≡ true) (sym c.receive-row.ensures) (received_ends c.args.me c.args.from c.args.message.now c.args.self.now.state is))

pub returns-in_default-clause-acts : goal.returns-in_default-clause-acts
returns-in_default-clause-acts g c =
    did_after g.S.Store.does g.S.Store.refuses (delivered c.args.me c.args.from c.args.message.now) (row_done c.args.me c.receive-row.result)
    (spot c.args.self.now c.args.hasher.now c.args.out.now) (spot (record c.args.self.now { state = c.receive-row.new.self }) c.args.hasher.now c.args.out.now) (spot c.row_done.new.self c.row_done.new.hasher c.row_done.new.out) c.row_done.result
    (λ next e end ls h. rw (delivered_row c.args.me c.args.from c.args.message.now c.args.self.now.state (out_of c.args.out.now) next c.in_default.not-Get c.in_default.not-GetReply c.in_default.not-Put c.in_default.not-PutReply c.in_default.not-CheckReply c.in_default.not-TreeAsk c.in_default.not-TreeGive)
    (subst (λ q. Runs g.S.Store.does g.S.Store.refuses (row_done c.args.me q.1 q.0 (out_of c.args.out.now) next) (c.args.self.now.stores, c.args.hasher.now) c.args.out.now.notes.items e end ls) c.receive-row.ensures h))
    c.row_done.ensures.acts
