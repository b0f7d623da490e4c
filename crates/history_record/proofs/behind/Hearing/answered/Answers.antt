use Rattle.std.proofs.Common.{◌≡◌, ◌+◌, [], ◌∷◌, ◌++◌, Some, sym, ◌∙◌, rules, arith}
use Rattle.std.specs.BTreeMap.{get}
use Rattle.std.specs.Ordering.{nat_cmp}
use Rattle.history_record.proofs.Hearings.{answer_kept, answer_sound}
use Rattle.history_record.proofs.behind.Hearing.answered.Goals as goal

pub invariant_of-self : goal.invariant_of-self
invariant_of-self c = rw c.reserve.ensures.items c.self.invariant

pub invariant_of-self-2 : goal.invariant_of-self-2
invariant_of-self-2 c =
    let i = c.self.inside in
    let sound = c.self.invariant.0 in
    let kept = c.self.invariant.1 in
    let items : c.push.new.self.items ≡ i.answers.items ++ c.args.answer ∷ [] = search rules in
    let found : Some c.in-Some.called ≡ get nat_cmp i.open_calls c.args.answer.id = search rules in
    let removed = c.remove.ensures.value ∙ sym found in
    let len = rw removed at c.remove.ensures.len in
    rw items (
      answer_sound _ _ _ _ sound kept c.args.answer c.in-Some.called found (omega (arith, c.if-answer-called.false)),
      answer_kept _ _ _ _ sound kept c.args.answer c.in-Some.called found (get nat_cmp c.remove.new.self) _ c.remove.ensures.updates.0 (omega (arith, len)),
      record { are = c.self.invariant.2.are; places = c.self.invariant.2.places },
    )
