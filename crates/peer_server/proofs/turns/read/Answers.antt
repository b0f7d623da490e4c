use Rattle.peer_server.proofs.Reading.{found_event, found_no_event, found_no_frame}
use Rattle.peer_server.proofs.turns.read.Goals as goal

pub returns-in_default : goal.returns-in_default
returns-in_default c = record { found = found_no_frame c.args.words.now c.args.bytes.now c.in-Err.error c.in_default.not-Memory c.in-Err.ensures.exact; memory = tt }

pub returns-in-Some : goal.returns-in-Some
returns-in-Some c = record { found = found_event c.args.words.now c.args.bytes.now c.in-Ok.frame c.in-Some.event c.in-Ok.ensures.exact c.in-Some.ensures.event c.in-Some.ensures.may; memory = tt }

pub returns-in-None : goal.returns-in-None
returns-in-None c = record { found = found_no_event c.args.words.now c.args.bytes.now c.in-Ok.frame c.in-Ok.ensures.exact c.in-None.ensures.event; memory = tt }
