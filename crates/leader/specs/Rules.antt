-- The rules on a key.
use Rattle.std.specs.Prelude.{ℕ, List}
use Rattle.phase_rows.specs.declared.phase.Seen.{Seen}
use Rattle.phase_rows.specs.declared.rules.KeyRule.{KeyRule}
use Rattle.phase_rows.specs.declared.rules.KeyRule.TheVariants as key_rules
use Rattle.leader_output.specs.declared.out.LeadOut.{LeadOut}
use Rattle.leader.specs.Starts.{row_28, row_36}
use Rattle.leader.specs.Rounds.{row_29, row_30, row_33, row_34}
use Rattle.leader.specs.Puts.{row_31, row_32, row_35}
use Rattle.leader.specs.declared.leader.Leader.{Leader}

-- the row of the rule on a key
abbrev pub lead_row : KeyRule → List ℕ → Seen → Leader → Leader × LeadOut
lead_row key_rules.StartCall key seen l = row_28 key seen l
lead_row key_rules.Read key seen l = row_29 key seen l
lead_row key_rules.EnoughReplies key seen l = row_30 key l
lead_row key_rules.Write key seen l = row_31 key l
lead_row key_rules.Rewrite key seen l = row_32 key l
lead_row key_rules.Check key seen l = row_33 key l
lead_row key_rules.Apply key seen l = row_34 key l
lead_row key_rules.Put key seen l = row_35 key seen l
lead_row key_rules.StartNextCall key seen l = row_36 key l
