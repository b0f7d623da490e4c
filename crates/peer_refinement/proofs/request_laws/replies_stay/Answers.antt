use Rattle.peer_refinement.proofs.RequestStaying.{put_entry, write_shows, entries_stay, maps_stay, run_replies_stay}
use Rattle.peer_refinement.proofs.request_laws.replies_stay.Goals as goal

pub returns-clause-puts : goal.returns-clause-puts
returns-clause-puts c = put_entry

pub returns-clause-writes : goal.returns-clause-writes
returns-clause-writes c = write_shows

pub returns-clause-entries : goal.returns-clause-entries
returns-clause-entries c = entries_stay

pub returns-clause-maps : goal.returns-clause-maps
returns-clause-maps c = maps_stay

pub returns-clause-replies : goal.returns-clause-replies
returns-clause-replies c = run_replies_stay
