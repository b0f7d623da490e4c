use Rattle.std.proofs.Common.{subst}
use Rattle.step_plans.specs.Outboxes.{out_of}
use Rattle.step_plans.specs.Plans.{Plan, Runs}
use Rattle.step_plans.proofs.Parts.{did_after}
use Rattle.peer_machine.specs.Outcomes.{spot}
use Rattle.peer_spec.specs.Syncs.{take_give, go_on}
use Rattle.peer_state.specs.declared.state.State.{State}
use Rattle.peer_spec.proofs.Syncs.{go_on_without}
use Rattle.peer_machine.proofs.machine.Machine.take_give.Goals as goal

pub returns-in_ok-sends-in-Some-clause-acts : goal.returns-in_ok-sends-in-Some-clause-acts
returns-in_ok-sends-in-Some-clause-acts g c =
    let x : State = c.args.self.now.state in
    did_after g.S.Store.does g.S.Store.refuses (λ x o next. take_give c.args.tree c.args.me c.args.from c.args.give.now c.args.own.now x.sync x o next) (go_on c.args.me (c.take_give.new.running, c.in_ok-sends-in-Some.sends))
    (spot c.args.self.now c.args.hasher.now c.args.out.now) (spot (record c.args.self.now { state = record x { sync = c.take.new.self } }) c.args.hasher.now c.args.out.now) (spot c.go_on.new.self c.go_on.new.hasher c.go_on.new.out) c.go_on.result
    (λ next e end ls h.
    let Ran : Plan State → Type 0 = λ p. Runs g.S.Store.does g.S.Store.refuses p (c.args.self.now.stores, c.args.hasher.now) c.args.out.now.notes.items e end ls in
    subst (λ k. Ran (take_give c.args.tree c.args.me c.args.from c.args.give.now c.args.own.now k x (out_of c.args.out.now) next)) c.in-Some.ensures.value
    (subst (λ r. Ran (go_on c.args.me r x (out_of c.args.out.now) next)) c.in_ok-sends-in-Some.ensures.ok
    (subst Ran (go_on_without c.args.me (c.take_give.new.running, c.in_ok-sends-in-Some.sends) x (out_of c.args.out.now) next)
    (subst (λ k. Ran (go_on c.args.me (c.take_give.new.running, c.in_ok-sends-in-Some.sends) (record x { sync = k }) (out_of c.args.out.now) next)) c.take.ensures.after h))))
    c.go_on.ensures.acts
