-- Rules 27, 28 and 36: calls join and start.
use Rattle.std.specs.Prelude.{ℕ, Bool, true, false, ◌==◌, nat_le, if◌then◌else◌, Option, Some, None, List}
use Rattle.ens_base.specs.declared.command.Command.{Command}
use Rattle.ens_base.specs.declared.epoch.Version.{Version}
use Rattle.ens_base.specs.declared.reply.Reply.TheVariants as replies
use Rattle.leader_output.specs.ObjectCommands.{Object, register_of, verdict_of, stamp_verdict, Verdict}
use Rattle.object_commands.specs.Kept.{matching}
use Rattle.register_model.specs.Registers.{outcome}
use Rattle.register_model.specs.declared.register.Register.TheVariants as registers
use Rattle.phase_rows.specs.declared.phase.Seen.{Seen}
use Rattle.phase_rows.specs.declared.phase.Seen.TheVariants as seens
use Rattle.phase_rows.specs.declared.rules.KeyRule.TheVariants as key_rules
use Rattle.call_table.specs.Calls.{waiting_on, running}
use Rattle.call_table.specs.Rows.{row_at}
use Rattle.call_table.specs.declared.row.Known.{Known}
use Rattle.call_table.specs.declared.row.Known.TheVariants as knowns
use Rattle.call_table.specs.declared.waiting.Waiting.{Waiting}
use Rattle.leader_output.specs.Outs.{rests, leads_on, and_answer, and_own}
use Rattle.leader_output.specs.declared.out.LeadOut.{LeadOut}
use Rattle.leader_output.specs.declared.out.Own.TheVariants.{Fetch}
use Rattle.leader.specs.Leaders.{idle, joined, decided, base}
use Rattle.leader.specs.declared.leader.Leader.{Leader}

-- rule 27: a leader that finishes a change answers `unavailable`, and a key with 16 unanswered calls is answered `busy`; any other call joins, and starts if it is the only one of its key
abbrev pub row_27 : ℕ → ℕ → List ℕ → Command → Bool → Leader → Leader × LeadOut
row_27 from id key command finishing l =
    if finishing then (l, and_answer from id replies.Unavailable rests)
    else (if nat_le 16 (waiting_on key l.table.calls) then (l, and_answer from id replies.Busy rests)
    else (joined (record { from = from; id = id; key = key; command = command; age = 0 }) l, if waiting_on key l.table.calls == 0 then leads_on key_rules.StartCall key else rests))

-- a command is applied to the settled object; if the backend does not keep that object, the key is read
abbrev pub on_object : Option Object → Command → List ℕ → Leader → Leader × LeadOut
on_object None command key l = (l, leads_on key_rules.Read key)
on_object (Some o) command key l = decided (base key l) (verdict_of (outcome command (register_of o))) key l

-- a command that needs the settled value: the peer's own backend is asked first
abbrev pub by_value : Seen → Version → List ℕ → Command → List ℕ → Leader → Leader × LeadOut
by_value seens.Nothing version digest command key l = (l, and_own (Fetch key) rests)
by_value (seens.Kept kept) version digest command key l = on_object (matching (record { key = key; version = version; digest = digest }) kept) command key l
by_value seen version digest command key l = idle l

-- a command on a settled value: if the stamp is not enough to decide it, the value is looked up
abbrev pub by_stamp : Option Verdict → Seen → Version → List ℕ → Command → List ℕ → Leader → Leader × LeadOut
by_stamp (Some verdict) seen version digest command key l = decided (base key l) verdict key l
by_stamp None seen version digest command key l = by_value seen version digest command key l

-- a command on a settled value or tombstone; a tombstone is an absent register
abbrev pub on_present : Bool → Version → Version → List ℕ → Seen → Command → List ℕ → Leader → Leader × LeadOut
on_present true version stamp digest seen command key l = decided (base key l) (verdict_of (outcome command registers.Absent)) key l
on_present false version stamp digest seen command key l = by_stamp (stamp_verdict command stamp) seen version digest command key l

-- a command goes by what is known of its key; an unknown key is read
abbrev pub by_known : Known → Seen → Command → List ℕ → Leader → Leader × LeadOut
by_known knowns.Unknown seen command key l = (l, leads_on key_rules.Read key)
by_known knowns.Absent seen command key l = decided (base key l) (verdict_of (outcome command registers.Absent)) key l
by_known (knowns.Present version stamp digest tombstone) seen command key l = on_present tombstone version stamp digest seen command key l

abbrev pub started : Option Waiting → Seen → List ℕ → Leader → Leader × LeadOut
started None seen key l = idle l
started (Some w) seen key l = by_known (row_at key l.table.rows).known seen w.command key l

-- rule 28: the running call of the key starts
abbrev pub row_28 : List ℕ → Seen → Leader → Leader × LeadOut
row_28 key seen l = started (running key l.table.calls) seen key l

abbrev pub next_call : Option Waiting → List ℕ → LeadOut
next_call None key = rests
next_call (Some w) key = leads_on key_rules.StartCall key

-- rule 36: the next call of the key starts
abbrev pub row_36 : List ℕ → Leader → Leader × LeadOut
row_36 key l = (l, next_call (running key l.table.calls) key)
