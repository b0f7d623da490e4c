use Rattle.std.proofs.Common.{◌≡◌, ◌+◌, ℕ, None, ap, ◌∙◌, rules, arith}
use Rattle.history_record.specs.Reading.{lines_of, most_in}
use Rattle.history_record.specs.ShortRecords.{stage_with_short_last}
use Rattle.history_record.proofs.Shortening.{last_lines, last_most}
use Rattle.audit.proofs.RecordsAlike.{alike_on, at_end, like_end}
use Rattle.audit.proofs.Cutting.{taken_short}
use Rattle.audit.proofs.read.read_record.Goals as goal

pub returns-in-Some-clause-ok : goal.returns-in-Some-clause-ok
returns-in-Some-clause-ok g c =
    let rest = rw c.in-Some.is at c.in_ok-rest.ensures.rest in
    like_end (g.S.Source.left c.args.input.now) _ c.loop-turn.reading c.take_line.new.reading c.in-Some.rest.items c.deref.result.now c.end_of.result c.loop-turn.invariant.reads rest.0 rest.2 c.deref.ensures.value c.end_of.ensures.ok

pub returns-in-Some-clause-end : goal.returns-in-Some-clause-end
returns-in-Some-clause-end g c =
    let rest = rw c.in-Some.is at c.in_ok-rest.ensures.rest in
    at_end c.take_line.new.lines.pending.items (g.S.Source.left c.take_line.new.input) c.end_of.result rest.1

pub loop-turn-preserved : goal.loop-turn-preserved
loop-turn-preserved g c =
    let none : c.in_ok-rest.field-0 ≡ None = search rules in
    let line = rw none at c.in_ok-rest.ensures.line in
    let held = rw none at c.in_ok-rest.ensures.held in
    let count = rw none at c.in_ok-rest.ensures.count in
    let read = c.take_line.new.reading in
    let short : c.shorten.new.self ≡ stage_with_short_last read = c.in_ok-shorten.ensures.last in
    let lines : lines_of c.shorten.new.self ≡ lines_of read = ap lines_of short ∙ last_lines read in
    let most : most_in c.shorten.new.self ≡ most_in read = ap most_in short ∙ last_most read in
    record {
      reads = alike_on (g.S.Source.left c.args.input.now) _ _ _ c.loop-turn.reading read c.shorten.new.self c.loop-turn.invariant.reads line short;
      taken = taken_short (g.S.Source.left c.args.input.now) _ _ read c.shorten.new.self short (held (g.S.Source.left c.args.input.now) c.loop-turn.invariant.taken);
      held = omega (arith, c.in_ok-rest.ensures.few, most);
      count = lines ∙ count.0 ∙ ap (λ (n : ℕ). n + 1) c.loop-turn.invariant.count;
      few = omega (arith, count.1, lines);
      later = omega (arith, c.take_line.ensures.later, c.loop-turn.invariant.later);
    }
