use Rattle.std.proofs.Common.{arith, ap, sym, ◌∙◌, Option}
use Rattle.std.specs.Prelude.{slice_set}
use Rattle.call_table.specs.Calls.{running, without_running}
use Rattle.call_table.specs.Slots.{present}
use Rattle.call_table.specs.declared.waiting.Waiting.{Waiting}
use Rattle.call_table.proofs.Slots.{none_kept, first_kept, kept_taken}
use Rattle.call_table.proofs.calls.Calls.take_running.Goals as goal

pub returns-in_default-clause-calls : goal.returns-in_default-clause-calls
returns-in_default-clause-calls c =
    let key = c.args.key.now in
    sym c.self.view_is ∙ sym (none_kept key c.self.inside.slots.items c.self.inside.places c.self.invariant.places c.in_default.ensures).1 ∙ ap (without_running key) c.self.view_is

pub returns-in_default-clause-call : goal.returns-in_default-clause-call
returns-in_default-clause-call c =
    let key = c.args.key.now in
    sym (none_kept key c.self.inside.slots.items c.self.inside.places c.self.invariant.places c.in_default.ensures).0 ∙ ap (running key) c.self.view_is

pub overflow_sub-self : goal.overflow_sub-self
overflow_sub-self c =
    let first = first_kept c.args.key.now c.self.inside.slots.items c.self.inside.places c.in-Some.place c.self.invariant.places c.in-Some.ensures in
    omega (arith, first.less, c.self.invariant.count)

pub index_mut-requires : goal.index_mut-requires
index_mut-requires c =
    let slots = c.self.inside.slots in
    let first = first_kept c.args.key.now slots.items c.self.inside.places c.in-Some.place c.self.invariant.places c.in-Some.ensures in
    omega (arith, first.within, slots.ok.0)

pub invariant_of-self : goal.invariant_of-self
invariant_of-self c =
    let key = c.args.key.now in
    let slots = c.self.inside.slots in
    let first = first_kept key slots.items c.self.inside.places c.in-Some.place c.self.invariant.places c.in-Some.ensures in
    kept_taken key slots.items c.self.inside.places c.remove_first.new.self c.self.inside.count c.in-Some.place c.take.new.self c.self.invariant first c.take.ensures.after c.remove_first.ensures

pub returns-clause-calls : goal.returns-clause-calls
returns-clause-calls c =
    let key = c.args.key.now in
    let slots = c.self.inside.slots in
    let first = first_kept key slots.items c.self.inside.places c.in-Some.place c.self.invariant.places c.in-Some.ensures in
    ap (λ (s : Option Waiting). present (slice_set slots.items c.in-Some.place s)) c.take.ensures.after ∙ first.rest ∙ ap (without_running key) c.self.view_is

pub returns-clause-call : goal.returns-clause-call
returns-clause-call c =
    let key = c.args.key.now in
    let slots = c.self.inside.slots in
    let first = first_kept key slots.items c.self.inside.places c.in-Some.place c.self.invariant.places c.in-Some.ensures in
    c.take.ensures.value ∙ c.index_mut.ensures.value ∙ first.call _ ∙ ap (running key) c.self.view_is
