use Rattle.std.proofs.Common.{◌≡◌, [], None, Ok, sym, ◌∙◌, rules}
use Rattle.ens_base.specs.Lists.{same_bytes}
use Rattle.schedule_text.specs.Reading.{ended}
use Rattle.history_record.specs.Reading.{answers_line}
use Rattle.history_record.proofs.Begun.{ended-fit, next_begun}
use Rattle.history_record.proofs.Stages.{line_counts, line_few, opened_next, unequal_not}
use Rattle.history_record.proofs.reading.RecordReading.line.Goals as goal

pub invariant_of-self-then-ne : goal.invariant_of-self-then-ne
invariant_of-self-then-ne c = next_begun _ _ c.args.text.now c.in_ok-line.ensures c.self.invariant

pub returns-then-ne-clause-count : goal.returns-then-ne-clause-count
returns-then-ne-clause-count c =
    let none : c.self.inside.behind ≡ None = search rules in
    rw (← c.self.view_is) (line_counts _ _ c.self.inside.behind c.args.text.now none c.in_ok-line.ensures)

pub returns-then-ne-clause-few : goal.returns-then-ne-clause-few
returns-then-ne-clause-few c =
    let none : c.self.inside.behind ≡ None = search rules in
    line_few _ _ c.self.inside.behind c.args.text.now none c.in_ok-line.ensures c.self.invariant

pub new-requires-2 : goal.new-requires-2
new-requires-2 c =
    let e : ended c.replace-reading.result [] ≡ Ok c.in_ok-schedule.schedule = sym c.end.ensures ∙ c.in_ok-schedule.was in
    ended-fit c.self.inside.schedule [] c.in_ok-schedule.schedule (rw c.replace-reading.ensures.value at e) c.self.invariant

pub returns-clause-steps : goal.returns-clause-steps
returns-clause-steps c =
    let none : c.self.inside.behind ≡ None = search rules in
    let e : ended c.replace-reading.result [] ≡ Ok c.in_ok-schedule.schedule = sym c.end.ensures ∙ c.in_ok-schedule.was in
    let same = unequal_not (same_bytes c.args.text.now answers_line) (rw c.as_slice.ensures at c.if-ne.ensures) in
    rw (← c.self.view_is) (opened_next c.self.inside.schedule c.self.inside.behind c.args.text.now c.in_ok-schedule.schedule c.in_ok-new.field-0 none same (rw c.replace-reading.ensures.value at e) c.in_ok-new.ensures.heard)
