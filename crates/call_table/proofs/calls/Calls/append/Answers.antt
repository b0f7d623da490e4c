use Rattle.std.proofs.Common.{◌≡◌, ◌++◌, ◌∷◌, [], length, List, Some, rules, arith, ap, ◌∙◌}
use Rattle.call_table.specs.Slots.{present}
use Rattle.call_table.specs.declared.waiting.Waiting.{Waiting}
use Rattle.call_table.proofs.Slots.{present_few, present_more, kept_pushed}
use Rattle.call_table.proofs.calls.Calls.append.Goals as goal

pub overflow_add-self : goal.overflow_add-self
overflow_add-self c =
    let slots = c.self.inside.slots in
    omega (arith, c.self.invariant.count, present_few slots.items, slots.ok.0, slots.ok.1, slots.small)

pub invariant_of-self-2 : goal.invariant_of-self-2
invariant_of-self-2 c =
    let slots = c.self.inside.slots in
    let pushed : c.push-2.new.self.items ≡ slots.items ++ Some c.args.call ∷ [] = search rules in
    let end : c.len.result ≡ length slots.items = search rules in
    kept_pushed slots.items c.push-2.new.self.items c.self.inside.places c.push.new.self c.self.inside.count c.len.result c.args.call c.in_ok-key.key c.self.invariant pushed end c.in_ok-key.ensures c.in_ok-push.ensures.ok

pub returns : goal.returns
returns c =
    let slots = c.self.inside.slots in
    let pushed : c.push-2.new.self.items ≡ slots.items ++ Some c.args.call ∷ [] = search rules in
    ap present pushed ∙ present_more slots.items c.args.call ∙ ap (λ (ws : List Waiting). ws ++ c.args.call ∷ []) c.self.view_is
