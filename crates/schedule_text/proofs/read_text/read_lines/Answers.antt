use Rattle.schedule_text.proofs.Parts.{read_parts-taken, read_parts-refused}
use Rattle.schedule_text.proofs.read_text.read_lines.Goals as goal

pub returns-in-Err : goal.returns-in-Err
returns-in-Err c =
    read_parts-refused c.loop-line.reading c.line.new.self c.loop-line.rest.now c.in-Some.line.now c.in-Some.more.now _ c.in-Err.e c.loop-line.invariant c.in-Some.ensures.parts c.in-Err.ensures

pub loop-line-preserved : goal.loop-line-preserved
loop-line-preserved c =
    read_parts-taken c.loop-line.reading c.line.new.self c.loop-line.rest.now c.in-Some.line.now c.in-Some.more.now _ c.loop-line.invariant c.in-Some.ensures.parts c.in-Ok.ensures
