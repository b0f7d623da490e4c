-- The state of a leader, its small changes, and the answer to a running call.
use Rattle.std.specs.Prelude.{ℕ, ◌+◌, ◌-◌, ◌^◌, ◌==◌, Bool, Option, is_none, List, [], ◌∷◌, ◌++◌}
use Rattle.phase_rows.specs.declared.rules.KeyRule.TheVariants as key_rules
use Rattle.ens_base.specs.declared.epoch.Version.{Version}
use Rattle.ens_base.specs.declared.reply.Reply.{Reply}
use Rattle.leader_output.specs.ObjectCommands.{Object, Verdict, Answer, Write}
use Rattle.phase_rows.specs.StoredFormats.{Fact}
use Rattle.register_model.specs.declared.note.Note.TheVariants.{Read}
use Rattle.call_table.specs.Rows.{row_at, with_known, with_stage, base_of}
use Rattle.call_table.specs.Tables.{empty_table, ended}
use Rattle.call_table.specs.declared.row.Known.{Known}
use Rattle.call_table.specs.declared.row.Known.TheVariants.{Present}
use Rattle.call_table.specs.declared.row.Stage.{Stage}
use Rattle.call_table.specs.declared.waiting.Waiting.{Waiting}
use Rattle.leader_output.specs.Outs.{rests, leads_on, and_answer, and_note, and_then}
use Rattle.leader_output.specs.declared.out.LeadOut.{LeadOut}
use Rattle.leader.specs.declared.leader.Leader.{Leader}
use Rattle.leader.specs.declared.pending.Pending.{Pending}
use Rattle.leader.specs.declared.pending.Pending.TheVariants as tasks

-- a leader of the epoch of this fact, with an empty table
abbrev pub new_leader : Fact → ℕ → List Bool → Leader
new_leader fact me accepts = record { fact = fact; me = me; accepts = accepts; seq = 0; round = 0; table = empty_table; task = tasks.Nothing }

-- nothing happens
abbrev pub idle : Leader → Leader × LeadOut
idle l = (l, rests)

-- the leader with this task for the next rule
abbrev pub with_task : Pending → Leader → Leader
with_task task l = record l { task = task }

-- the leader after this call joined
abbrev pub joined : Waiting → Leader → Leader
joined w l = record l { table = record l.table { calls = l.table.calls ++ w ∷ [] } }

-- the leader that knows this of the key
abbrev pub knows : List ℕ → Known → Leader → Leader
knows key known l = record l { table = record l.table { rows = with_known key known l.table.rows } }

-- the leader whose key has this stage
abbrev pub stands : List ℕ → Stage → Leader → Leader
stands key stage l = record l { table = record l.table { rows = with_stage key stage l.table.rows } }

-- the settled version of the key, if there is one
abbrev pub base : List ℕ → Leader → Option Version
base key l = base_of (row_at key l.table.rows).known

-- what is known of a key once this object is settled
abbrev pub settled_as : Version → Object → List ℕ → Known
settled_as version o digest = Present version o.stamp digest (is_none o.value)

-- the running call of the key is answered and removed, and rule 36 runs
abbrev pub answered : Waiting → Reply → List ℕ → LeadOut → Leader → Leader × LeadOut
answered w reply key out l = (record l { table = ended key l.table }, and_then key_rules.StartNextCall key (and_answer w.from w.id reply out))

-- a read of the settled version is noted, and the running call of the key is answered
abbrev pub read_answered : Waiting → Reply → List ℕ → LeadOut → Leader → Leader × LeadOut
read_answered w reply key out l = answered w reply key (and_note (Read w.id key (base key l)) out) l

-- a command applied to what is known: a write is proposed upon the parent, and a reply is given after a check
abbrev pub decided : Option Version → Verdict → List ℕ → Leader → Leader × LeadOut
decided parent (Write content) key l = (with_task (tasks.Write content parent) l, leads_on key_rules.Write key)
decided parent (Answer reply) key l = (with_task (tasks.Check reply) l, leads_on key_rules.Check key)

-- a command applied to what a round found: a write is proposed upon the settled version, and a reply is given at once
abbrev pub concluded : Verdict → Waiting → List ℕ → Leader → Leader × LeadOut
concluded (Write content) w key l = (with_task (tasks.Write content (base key l)) l, leads_on key_rules.Write key)
concluded (Answer reply) w key l = read_answered w reply key rests l

-- no number follows this one
abbrev pub is_spent : ℕ → Bool
is_spent n = n == 2 ^ 64 - 1

-- the version of the next write
abbrev pub next_version : Leader → Version
next_version l = record { epoch = l.fact.epoch; seq = l.seq + 1 }
