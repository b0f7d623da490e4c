-- The role of a peer in the theory of leaders, and what its messages say of calls.
use Rattle.std.specs.Prelude.{ℕ, List, [], ◌∷◌, Option, None, Some}
use Rattle.protocol_laws.specs.Numbers.{epoch_number}
use Rattle.phase_rules.specs.declared.election.Election.{Election}
use Rattle.phase_rules.specs.declared.election.Election.TheVariants.{Preparing, Starting}
use Rattle.leader_output.specs.declared.out.Outgoing.{Outgoing}
use Rattle.role_laws.specs.Tables.{Owed}
use Rattle.role_laws.specs.Roles.{Role, Follows, Starts, Leads, Said, Reads, Entry, Checks, Stands, Puts, Acks, Sent}
use Rattle.leader_refinement.specs.Seen.{rank, content_of, entry_rank, shown, table_of}
use Rattle.peer_state.specs.declared.state.Phase.{Phase}
use Rattle.peer_state.specs.declared.state.Phase.TheVariants as phases
use Rattle.wire_frames.specs.declared.message.Message.{Message}
use Rattle.wire_frames.specs.declared.message.Message.TheVariants as messages

-- the role of a peer that prepares or starts an epoch
abbrev pub role_electing : Election → List Owed → Role
role_electing (Preparing base promises asked age) owed = Follows owed
role_electing (Starting new accepts age) owed = Starts (epoch_number new.epoch) owed

-- the role of a peer in this phase that owes these answers; a leader may have a task on the key
abbrev pub role_in : List ℕ → Phase → List Owed → Role
role_in key (phases.Leading l) owed = Leads (table_of key owed l.leader)
role_in key (phases.Electing election) owed = role_electing election owed
role_in key (phases.Following f) owed = Follows owed
role_in key (phases.Probing b) owed = Follows owed

-- what a message says of calls, if anything
abbrev pub said_of : Message → Option Said
said_of (messages.Get ballot round key) = Some (Reads (epoch_number ballot) round key)
said_of (messages.GetReply ballot round key entry object) = Some (Entry (epoch_number ballot) round key (entry_rank entry) (shown entry object))
said_of (messages.Check ballot round) = Some (Checks (epoch_number ballot) round)
said_of (messages.CheckReply ballot round) = Some (Stands (epoch_number ballot) round)
said_of (messages.Put ballot o) = Some (Puts (epoch_number ballot) o.key (rank o.version) (content_of o))
said_of (messages.PutReply ballot key version) = Some (Acks (rank version))
said_of message = None

abbrev pub said_by : ℕ → Option Said → List Sent → List Sent
said_by from None rest = rest
said_by from (Some said) rest = record { from = from; said = said } ∷ rest

-- what a peer says in these messages
abbrev pub said_in_sends : ℕ → List Outgoing → List Sent
said_in_sends peer [] = []
said_in_sends peer (o ∷ sends) = said_by peer (said_of o.message) (said_in_sends peer sends)
