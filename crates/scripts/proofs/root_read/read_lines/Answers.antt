use Rattle.scripts.proofs.Parts.{text-taken, text-refused}
use Rattle.scripts.proofs.root_read.read_lines.Goals as goal

pub returns-in-Err : goal.returns-in-Err
returns-in-Err c =
    text-refused c.loop-line.reading c.line.new.self c.loop-line.rest.now c.in-Some.line.now c.in-Some.more.now _ c.in-Err.e c.loop-line.invariant c.in-Some.ensures.parts c.in-Err.ensures

pub loop-line-preserved : goal.loop-line-preserved
loop-line-preserved c =
    text-taken c.loop-line.reading c.line.new.self c.loop-line.rest.now c.in-Some.line.now c.in-Some.more.now _ c.loop-line.invariant c.in-Some.ensures.parts c.in-Ok.ensures
