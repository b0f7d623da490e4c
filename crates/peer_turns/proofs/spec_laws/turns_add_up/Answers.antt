use Rattle.peer_turns.proofs.Counting.{frames_counted, events_counted, events_later}
use Rattle.peer_turns.proofs.spec_laws.turns_add_up.Goals as goal

pub returns-clause-frames : goal.returns-clause-frames
returns-clause-frames c = frames_counted

pub returns-clause-events : goal.returns-clause-events
returns-clause-events c = events_counted

pub returns-clause-later : goal.returns-clause-later
returns-clause-later c = events_later
