use Rattle.std.proofs.Common.{◌≡◌, ◌-◌, List, [], ◌∷◌, sym, ◌∙◌, arith}
use Rattle.step_plans.specs.declared.tasks.Task.{Task}
use Rattle.step_plans.proofs.Growing.{grows_after}
use Rattle.peer_machine.specs.Outcomes.{spot}
use Rattle.peer_spec.proofs.Parts.{all_done, no_turns, one_done, one_stopped, cut}
use Rattle.peer_machine.proofs.machine.Machine.drive.Goals as goal

not_none : (ts rest : List Task) (task : Task) → ts ≡ [] → ts ≡ task ∷ rest → ⊥
not_none ts rest task none some = let same : task ∷ rest ≡ [] = sym some ∙ none in grind (arith, same)

pub returns-in-None-clause-acts : goal.returns-in-None-clause-acts
returns-in-None-clause-acts g c = λ next e end ls h. c.loop-turn.invariant.0 next e end ls
    (all_done g.S.Store.does g.S.Store.refuses c.args.me (c.args.turns - c.loop-turn.turn) c.loop-turn.tasks c.take.new.self (spot c.loop-turn.self c.loop-turn.hasher c.loop-turn.out) next e end ls c.in-None.ensures.none c.in-None.ensures.items h)

pub returns-clause-acts : goal.returns-clause-acts
returns-clause-acts g c = λ next e end ls h. c.loop-turn.invariant.0 next e end ls
    (no_turns g.S.Store.does g.S.Store.refuses c.args.me c.args.turns c.loop-turn.turn c.loop-turn.tasks (spot c.loop-turn.self c.loop-turn.hasher c.loop-turn.out) next e end ls c.loop-turn-test.false h)

pub returns-in-Err-clause-acts : goal.returns-in-Err-clause-acts
returns-in-Err-clause-acts g c = λ next. c.loop-turn.invariant.0 next _ _ _
    (one_stopped g.S.Store.does g.S.Store.refuses c.args.me c.args.turns c.loop-turn.turn c.loop-turn.tasks c.take.new.self c.in-Some.task
    (spot c.loop-turn.self c.loop-turn.hasher c.loop-turn.out) (spot c.task_done.new.self c.task_done.new.hasher c.task_done.new.out) c.in-Err.error next
    c.loop-turn-test.true c.in-Some.ensures.items c.in-Err.ensures.acts)

pub returns-in-Err-clause-grows : goal.returns-in-Err-clause-grows
returns-in-Err-clause-grows g c = grows_after c.args.out.now c.loop-turn.out c.task_done.new.out c.loop-turn.invariant.1 c.task_done.ensures.grows

pub returns-in-Err-clause-none : goal.returns-in-Err-clause-none
returns-in-Err-clause-none g c = λ is. absurd (not_none c.loop-turn.tasks c.take.new.self c.in-Some.task (c.loop-turn.invariant.2 is) c.in-Some.ensures.items)

pub returns-in-Err-put_all-clause-acts : goal.returns-in-Err-put_all-clause-acts
returns-in-Err-put_all-clause-acts g c = λ next. c.loop-turn.invariant.0 next _ _ _
    (one_done g.S.Store.does g.S.Store.refuses c.args.me c.args.turns c.loop-turn.turn c.loop-turn.tasks c.take.new.self c.in-Ok.more c.in-Some.task
    (spot c.loop-turn.self c.loop-turn.hasher c.loop-turn.out) (spot c.task_done.new.self c.task_done.new.hasher c.task_done.new.out) next _ _ _
    c.loop-turn-test.true c.in-Some.ensures.items c.in-Ok.ensures.acts (cut g.S.Store.does g.S.Store.refuses _ _ _))

pub returns-in-Err-put_all-clause-grows : goal.returns-in-Err-put_all-clause-grows
returns-in-Err-put_all-clause-grows g c = grows_after c.args.out.now c.loop-turn.out c.task_done.new.out c.loop-turn.invariant.1 c.task_done.ensures.grows

pub returns-in-Err-put_all-clause-none : goal.returns-in-Err-put_all-clause-none
returns-in-Err-put_all-clause-none g c = λ is. absurd (not_none c.loop-turn.tasks c.take.new.self c.in-Some.task (c.loop-turn.invariant.2 is) c.in-Some.ensures.items)

pub loop-turn-preserved : goal.loop-turn-preserved
loop-turn-preserved g c = (
  λ next e end ls h. c.loop-turn.invariant.0 next e end ls
      (one_done g.S.Store.does g.S.Store.refuses c.args.me c.args.turns c.loop-turn.turn c.loop-turn.tasks c.take.new.self c.in-Ok.more c.in-Some.task
      (spot c.loop-turn.self c.loop-turn.hasher c.loop-turn.out) (spot c.task_done.new.self c.task_done.new.hasher c.task_done.new.out) next e end ls
      c.loop-turn-test.true c.in-Some.ensures.items c.in-Ok.ensures.acts
      (rw (← c.in-Ok-put_all.ensures.ok) h)),
  grows_after c.args.out.now c.loop-turn.out c.task_done.new.out c.loop-turn.invariant.1 c.task_done.ensures.grows,
  λ is. absurd (not_none c.loop-turn.tasks c.take.new.self c.in-Some.task (c.loop-turn.invariant.2 is) c.in-Some.ensures.items),
)
