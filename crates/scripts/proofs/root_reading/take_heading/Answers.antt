use Rattle.scripts.proofs.Heading.{heading_error}
use Rattle.scripts.proofs.root_reading.take_heading.Goals as goal

pub returns-in-Err : goal.returns-in-Err
returns-in-Err c = heading_error c.args.heading.now c.line.new.self c.args.line.now c.in-Err.e c.without_line.result c.requires c.in-Err.ensures c.without_line.ensures
