-- How many rules can still run before a step of a leader ends: a measure that each rule lowers.
use Rattle.std.specs.Prelude.{ℕ, ◌+◌, ◌*◌, length, Option, Some, None, List}
use Rattle.phase_rows.specs.declared.phase.Seen.{Seen}
use Rattle.phase_rows.specs.declared.phase.Seen.TheVariants as seens
use Rattle.phase_rows.specs.declared.phase.Then.{Then}
use Rattle.phase_rows.specs.declared.phase.Then.TheVariants.{OnKeys}
use Rattle.phase_rows.specs.declared.rules.KeyRule.{KeyRule}
use Rattle.phase_rows.specs.declared.rules.KeyRule.TheVariants as key_rules
use Rattle.leader_output.specs.Outs.{asked_by}
use Rattle.leader_output.specs.declared.out.LeadOut.{LeadOut}
use Rattle.leader_output.specs.declared.out.Own.{Own}
use Rattle.leader.specs.declared.leader.Leader.{Leader}
use Rattle.leader.specs.declared.pending.Pending.{Pending}
use Rattle.leader.specs.declared.pending.Pending.TheVariants as tasks

-- the most rules that run on a key, beginning with this one, until its call waits or is answered
abbrev pub turns_of : KeyRule → ℕ
turns_of key_rules.StartCall = 12
turns_of key_rules.Read = 10
turns_of key_rules.EnoughReplies = 8
turns_of key_rules.Write = 3
turns_of key_rules.Rewrite = 7
turns_of key_rules.Check = 1
turns_of key_rules.Apply = 4
turns_of key_rules.Put = 2
turns_of key_rules.StartNextCall = 13

-- the same for a rule that runs again, after the stores returned
abbrev pub turns_again : KeyRule → ℕ
turns_again key_rules.StartCall = 11
turns_again key_rules.Read = 9
turns_again key_rules.Put = 1
turns_again rule = turns_of rule

-- the same for a rule with what it has seen of the stores
abbrev pub turns_seen : KeyRule → Seen → ℕ
turns_seen rule seens.Nothing = turns_of rule
turns_seen rule seen = turns_again rule

-- a rewrite is followed by the command that it was for
abbrev pub task_turns : Pending → ℕ
task_turns (tasks.Propose o parent None) = 4
task_turns task = 0

-- the rules that run for the unanswered calls of the leader, and for its task
abbrev pub weight : Leader → ℕ
weight l = 13 * length l.table.calls + task_turns l.task

-- the rules that follow: the one that asks, once more, or the named one on each of the keys
abbrev pub turns_next : Option Own → Then → List (List ℕ) → ℕ
turns_next (Some own) next keys = turns_again (asked_by own)
turns_next None (OnKeys rule) keys = turns_of rule * length keys
turns_next None other keys = 0

-- the rules that follow after the answer of a rule
abbrev pub turns_after : LeadOut → ℕ
turns_after o = turns_next o.own o.then o.keys
