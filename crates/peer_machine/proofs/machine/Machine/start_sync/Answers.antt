use Rattle.std.proofs.Common.{subst}
use Rattle.tree_sync.specs.Rows.{row_start}
use Rattle.step_plans.specs.Outboxes.{out_of}
use Rattle.step_plans.specs.Plans.{Runs}
use Rattle.step_plans.proofs.Parts.{did_after}
use Rattle.peer_machine.specs.Outcomes.{spot}
use Rattle.peer_spec.specs.Syncs.{start_sync, go_on}
use Rattle.peer_machine.proofs.machine.Machine.start_sync.Goals as goal

pub returns-clause-acts : goal.returns-clause-acts
returns-clause-acts g c =
    did_after g.S.Store.does g.S.Store.refuses (start_sync c.args.me c.args.new) (go_on c.args.me (c.in_ok-running.running, c.in_ok-running.sends))
    (spot c.args.self.now c.args.hasher.now c.args.out.now) (spot c.scan.new.self c.scan.new.hasher c.args.out.now) (spot c.go_on.new.self c.go_on.new.hasher c.go_on.new.out) c.go_on.result
    (λ next e end ls h. c.in_ok-scan.ensures (λ scan y o. go_on c.args.me (row_start c.args.new c.args.me y.trusted scan) y o next) e end ls
    (subst (λ r. Runs g.S.Store.does g.S.Store.refuses (go_on c.args.me r c.scan.new.self.state (out_of c.args.out.now) next) (c.scan.new.self.stores, c.scan.new.hasher) c.args.out.now.notes.items e end ls)
    c.in_ok-running.ensures.ok h))
    c.go_on.ensures.acts
