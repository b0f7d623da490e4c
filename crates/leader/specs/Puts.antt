-- Rules 31, 32 and 35: writes and rewrites, and how they settle.
use Rattle.std.specs.Prelude.{ℕ, ◌+◌, ◌&&◌, Bool, true, false, is_none, if◌then◌else◌, Option, Some, None, List}
use Rattle.ens_base.specs.Epochs.{same_version}
use Rattle.ens_base.specs.declared.epoch.Epoch.{Epoch}
use Rattle.ens_base.specs.declared.epoch.Version.{Version}
use Rattle.ens_base.specs.declared.reply.Reply.TheVariants as replies
use Rattle.leader_output.specs.ObjectCommands.{Object}
use Rattle.phase_rows.specs.Orders.{is_same}
use Rattle.quorums.specs.Rounds.{begun, answered as heard_from, state_of}
use Rattle.quorums.specs.declared.round.Round.{Round}
use Rattle.quorums.specs.declared.round.RoundState.{RoundState}
use Rattle.quorums.specs.declared.round.RoundState.TheVariants.{Open}
use Rattle.register_model.specs.declared.note.Note.TheVariants.{Proposed, Settled}
use Rattle.phase_rows.specs.WireFrames.{Put}
use Rattle.phase_rows.specs.declared.phase.Seen.{Seen}
use Rattle.phase_rows.specs.declared.phase.Seen.TheVariants as seens
use Rattle.phase_rows.specs.declared.phase.Then.TheVariants.{Untrust}
use Rattle.phase_rows.specs.declared.rules.KeyRule.TheVariants as key_rules
use Rattle.call_table.specs.Calls.{running}
use Rattle.call_table.specs.Rows.{row_at}
use Rattle.call_table.specs.declared.row.Stage.{Stage}
use Rattle.call_table.specs.declared.row.Stage.TheVariants as stages
use Rattle.call_table.specs.declared.waiting.Waiting.{Waiting}
use Rattle.leader_output.specs.Outs.{rests, comes, leaves, leads_on, and_note, and_own, and_then}
use Rattle.leader_output.specs.Sends.{tells_all}
use Rattle.leader_output.specs.declared.out.LeadOut.{LeadOut}
use Rattle.leader_output.specs.declared.out.Own.TheVariants as owns
use Rattle.leader.specs.Leaders.{idle, with_task, knows, stands, settled_as, answered, is_spent, next_version}
use Rattle.leader.specs.declared.leader.Leader.{Leader}
use Rattle.leader.specs.declared.pending.Pending.{Pending}
use Rattle.leader.specs.declared.pending.Pending.TheVariants as tasks

-- rule 35 is to put this object upon the parent; the number of the epoch rises by 1
abbrev pub proposed : Object → Option Version → Option ℕ → List ℕ → Leader → Leader × LeadOut
proposed o parent call key l = (record l { seq = l.seq + 1; task = tasks.Propose o parent call }, leads_on key_rules.Put key)

abbrev pub written_for : Option Waiting → Pending → List ℕ → Leader → Leader × LeadOut
written_for (Some w) (tasks.Write content parent) key l =
    if is_spent l.seq then (l, leaves)
    else proposed (record { version = next_version l; stamp = next_version l; key = key; value = content }) parent (Some w.id) key l
written_for call task key l = idle l

-- rule 31: a write, whose stamp is its own version
abbrev pub row_31 : List ℕ → Leader → Leader × LeadOut
row_31 key l = written_for (running key l.table.calls) l.task key (with_task tasks.Nothing l)

abbrev pub rewritten : Pending → List ℕ → Leader → Leader × LeadOut
rewritten (tasks.Rewrite o) key l =
    if is_spent l.seq then (l, leaves)
    else proposed (record { version = next_version l; stamp = o.stamp; key = key; value = o.value }) (Some o.version) None key l
rewritten task key l = idle l

-- rule 32: an object of an earlier epoch is proposed again; it keeps its stamp and serves no call
abbrev pub row_32 : List ℕ → Leader → Leader × LeadOut
row_32 key l = rewritten l.task key (with_task tasks.Nothing l)

-- a settled write: the running call is answered `ok` with the stamp
abbrev pub write_settled : Option Waiting → Object → List ℕ → LeadOut → Leader → Leader × LeadOut
write_settled None o key out l = (l, out)
write_settled (Some w) o key out l = answered w (replies.Ok o.stamp) key out l

-- a settled put: after a rewrite the command is applied, and a write is answered
abbrev pub settled_for : Bool → Object → List ℕ → LeadOut → Leader → Leader × LeadOut
settled_for true o key out l = (with_task (tasks.Apply (Some o)) (stands key stages.Idle l), and_then key_rules.Apply key out)
settled_for false o key out l = write_settled (running key l.table.calls) o key out l

-- a put waits until a quorum has acknowledged it, and then settles
abbrev pub acknowledged : RoundState → Object → List ℕ → Round → Bool → List ℕ → LeadOut → Leader → Leader × LeadOut
acknowledged Open o digest acks rewrite key out l = (stands key (stages.Putting o digest acks rewrite) l, out)
acknowledged state o digest acks rewrite key out l = settled_for rewrite o key (and_note (Settled key o.version) out) (knows key (settled_as o.version o digest) l)

-- the peer's own tree and backend have stored the object: it goes to the other members
abbrev pub put_stored : Object → List ℕ → Bool → List ℕ → Leader → Leader × LeadOut
put_stored o digest rewrite key l =
    let acks = begun l.fact.views l.me in acknowledged (state_of acks) o digest acks rewrite key (tells_all l.me l.fact.views (Put l.fact.epoch o) rests) l

abbrev pub put_seen : Seen → Object → Option Version → Option ℕ → List ℕ → Leader → Leader × LeadOut
put_seen seens.Nothing o parent call key l = (with_task (tasks.Propose o parent call) l, and_own (owns.Put o) (and_note (Proposed key o.version parent call) rests))
put_seen (seens.Damaged at) o parent call key l = (l, comes Untrust)
put_seen (seens.Stored digest) o parent call key l = put_stored o digest (is_none call) key l
put_seen seen o parent call key l = idle l

abbrev pub put_for : Pending → Seen → List ℕ → Leader → Leader × LeadOut
put_for (tasks.Propose o parent call) seen key l = put_seen seen o parent call key l
put_for task seen key l = idle l

-- rule 35: an object is put
abbrev pub row_35 : List ℕ → Seen → Leader → Leader × LeadOut
row_35 key seen l = put_for l.task seen key (with_task tasks.Nothing l)

abbrev pub acknowledged_by : Stage → ℕ → Epoch → Version → List ℕ → Leader → Leader × LeadOut
acknowledged_by (stages.Putting o digest acks rewrite) from ballot version key l =
    if is_same ballot l.fact.epoch && same_version version o.version then acknowledged (state_of (heard_from from acks)) o digest (heard_from from acks) rewrite key rests l else idle l
acknowledged_by stage from ballot version key l = idle l

-- rule 35, PutReply: it counts if it names the epoch and the version that the key has put
abbrev pub row_35_reply : ℕ → Epoch → List ℕ → Version → Leader → Leader × LeadOut
row_35_reply from ballot key version l = acknowledged_by (row_at key l.table.rows).stage from ballot version key l
