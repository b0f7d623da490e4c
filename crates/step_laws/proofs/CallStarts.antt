-- How a call is refused, waits or starts.
use Rattle.std.proofs.Common.{◌≡◌, ◌≤◌, ◌<◌, ◌∙◌, ◌==◌, ◌&&◌, ap, sym, refl, subst, ℕ, Bool, true, false, nat_le, if◌then◌else◌, List, Option, Some, None, arith}
use Rattle.std.proofs.lemmas.Bool.{and_parts}
use Rattle.std.proofs.lemmas.Bool.Decides.{nat_tests}
use Rattle.ens_base.specs.Epochs.{same_version}
use Rattle.ens_base.specs.Lists.{same_bytes}
use Rattle.ens_base.proofs.Lists.{bytes_same, bytes_itself}
use Rattle.ens_base.proofs.Orders.{version_same, version_itself}
use Rattle.ens_base.specs.declared.command.Command.{Command}
use Rattle.ens_base.specs.declared.command.Command.TheVariants as commands
use Rattle.ens_base.specs.declared.epoch.Version.{Version}
use Rattle.ens_base.specs.declared.reply.Reply.TheVariants as replies
use Rattle.stored_formats.specs.declared.object.Object.{Object}
use Rattle.object_commands.specs.Kept.{is_named, matching}
use Rattle.object_commands.specs.Commands.{register_of, verdict_of, stamp_verdict}
use Rattle.object_commands.specs.declared.verdict.Verdict.{Verdict}
use Rattle.object_commands.specs.declared.verdict.Verdict.TheVariants.{Answer, Write}
use Rattle.register_model.specs.Registers.{Outcome, Keeps, Writes, outcome}
use Rattle.register_model.specs.declared.register.Register.TheVariants as registers
use Rattle.phase_rows.specs.declared.phase.Seen.{Seen}
use Rattle.phase_rows.specs.declared.phase.Seen.TheVariants as seens
use Rattle.phase_rows.specs.declared.rules.KeyRule.TheVariants as key_rules
use Rattle.call_table.specs.Calls.{running, waiting_on}
use Rattle.call_table.specs.Rows.{row_at}
use Rattle.call_table.specs.declared.row.Known.{Known}
use Rattle.call_table.specs.declared.row.Known.TheVariants as knowns
use Rattle.call_table.specs.declared.waiting.Waiting.{Waiting}
use Rattle.leader_output.specs.Outs.{rests, leads_on, and_own, and_answer}
use Rattle.leader_output.specs.declared.out.LeadOut.{LeadOut}
use Rattle.leader_output.specs.declared.out.Own.TheVariants.{Fetch}
use Rattle.step_laws.specs.Answers.{NeedsValue, IsAbsent, IsSettledObject, decides, Waits}
use Rattle.leader.specs.Leaders.{base, decided, joined}
use Rattle.leader.specs.Starts.{row_27, on_object, by_value, by_stamp, by_known, started, row_28}
use Rattle.leader.specs.declared.leader.Leader.{Leader}

-- ## Rule 27

pub at_least : (n : ℕ) → 16 ≤ n → nat_le 16 n ≡ true
at_least n h = grind (arith, nat_tests)

pub below : (n : ℕ) → n < 16 → nat_le 16 n ≡ false
below n h = grind (arith, nat_tests)

is_none : (n : ℕ) → n ≡ 0 → (n == 0) ≡ true
is_none n h = grind (arith, nat_tests)

is_some : (n : ℕ) → 0 < n → (n == 0) ≡ false
is_some n h = grind (arith, nat_tests)

pub refused_busy : (from id : ℕ) (key : List ℕ) (command : Command) (l : Leader) → 16 ≤ waiting_on key l.table.calls → row_27 from id key command false l ≡ (l, and_answer from id replies.Busy rests)
refused_busy from id key command l many =
    ap (λ (b : Bool). if b then (l, and_answer from id replies.Busy rests)
    else (joined (record { from = from; id = id; key = key; command = command; age = 0 }) l, if waiting_on key l.table.calls == 0 then leads_on key_rules.StartCall key else rests)) (at_least (waiting_on key l.table.calls) many)

-- the call as it waits
abbrev joins : ℕ → ℕ → List ℕ → Command → Leader → Leader × LeadOut
joins from id key command l = (joined (record { from = from; id = id; key = key; command = command; age = 0 }) l, if waiting_on key l.table.calls == 0 then leads_on key_rules.StartCall key else rests)

pub joined_waits : (from id : ℕ) (key : List ℕ) (command : Command) (l : Leader) → waiting_on key l.table.calls < 16 → Waits from id key command l (row_27 from id key command false l)
joined_waits from id key command l few =
    subst (λ (b : Bool). Waits from id key command l (if b then (l, and_answer from id replies.Busy rests) else joins from id key command l)) (sym (below (waiting_on key l.table.calls) few))
    (record {
      waiting = refl;
      starts = λ none. ap (λ (b : Bool). if b then leads_on key_rules.StartCall key else rests) (is_none (waiting_on key l.table.calls) none);
      queues = λ some. ap (λ (b : Bool). if b then leads_on key_rules.StartCall key else rests) (is_some (waiting_on key l.table.calls) some);
    })

-- ## Rule 28

-- what is decided of a command is its outcome
outcome_decides : (o : Outcome) (key : List ℕ) (l : Leader) → decided (base key l) (verdict_of o) key l ≡ decides o key l
outcome_decides (Writes content) key l = refl
outcome_decides (Keeps reply) key l = refl

-- by what is known of the key of the running call
starts_by : (key : List ℕ) (seen : Seen) (w : Waiting) (known : Known) (l : Leader) (r : Leader × LeadOut) → running key l.table.calls ≡ Some w → (row_at key l.table.rows).known ≡ known → by_known known seen w.command key l ≡ r → row_28 key seen l ≡ r
starts_by key seen w known l r runs is so = ap (λ (call : Option Waiting). started call seen key l) runs ∙ ap (λ (k : Known). by_known k seen w.command key l) is ∙ so

pub starts_unknown : (key : List ℕ) (seen : Seen) (w : Waiting) (l : Leader) → running key l.table.calls ≡ Some w → (row_at key l.table.rows).known ≡ knowns.Unknown → row_28 key seen l ≡ (l, leads_on key_rules.Read key)
starts_unknown key seen w l runs is = starts_by key seen w knowns.Unknown l (l, leads_on key_rules.Read key) runs is refl

pub starts_absent : (key : List ℕ) (seen : Seen) (w : Waiting) (l : Leader) → running key l.table.calls ≡ Some w → IsAbsent (row_at key l.table.rows).known → row_28 key seen l ≡ decides (outcome w.command registers.Absent) key l
starts_absent key seen w l runs absent = by_case (row_at key l.table.rows).known refl absent
  where
    by_case : (known : Known) → (row_at key l.table.rows).known ≡ known → IsAbsent known → row_28 key seen l ≡ decides (outcome w.command registers.Absent) key l
    by_case knowns.Absent is needs = starts_by key seen w knowns.Absent l _ runs is (outcome_decides (outcome w.command registers.Absent) key l)
    by_case (knowns.Present version stamp digest true) is needs = starts_by key seen w (knowns.Present version stamp digest true) l _ runs is (outcome_decides (outcome w.command registers.Absent) key l)
    by_case (knowns.Present version stamp digest false) is needs = absurd cc
    by_case knowns.Unknown is needs = absurd needs

-- the stamp alone decides a command that does not depend on the value
by_stamp_alone : (command : Command) (stamp : Version) (bytes : List ℕ) → ¬ NeedsValue command → stamp_verdict command stamp ≡ Some (verdict_of (outcome command (registers.Present stamp bytes)))
by_stamp_alone commands.Get stamp bytes apart = absurd (apart tt)
by_stamp_alone (commands.PutOnce value) stamp bytes apart = refl
by_stamp_alone (commands.Update wanted value) stamp bytes apart = by_test (same_version wanted stamp)
  where
    by_test : (b : Bool) → Some (if b then Write (Some value) else Answer replies.Failed) ≡ Some (verdict_of (if b then Writes (Some value) else Keeps replies.Failed))
    by_test true = refl
    by_test false = refl
by_stamp_alone (commands.Append tail) stamp bytes apart = absurd (apart tt)
by_stamp_alone (commands.Add n) stamp bytes apart = absurd (apart tt)
by_stamp_alone (commands.Swap old new) stamp bytes apart = absurd (apart tt)
by_stamp_alone (commands.Over value) stamp bytes apart = refl
by_stamp_alone commands.Delete stamp bytes apart = refl

pub starts_stamp : (key : List ℕ) (seen : Seen) (w : Waiting) (version stamp : Version) (digest bytes : List ℕ) (l : Leader) → running key l.table.calls ≡ Some w → (row_at key l.table.rows).known ≡ knowns.Present version stamp digest false
    → ¬ NeedsValue w.command → row_28 key seen l ≡ decides (outcome w.command (registers.Present stamp bytes)) key l
starts_stamp key seen w version stamp digest bytes l runs is apart =
    starts_by key seen w (knowns.Present version stamp digest false) l _ runs is
    (ap (λ (v : Option Verdict). by_stamp v seen version digest w.command key l) (by_stamp_alone w.command stamp bytes apart) ∙ outcome_decides (outcome w.command (registers.Present stamp bytes)) key l)

value_alone : (command : Command) (stamp : Version) → NeedsValue command → stamp_verdict command stamp ≡ None
value_alone commands.Get stamp needs = refl
value_alone (commands.PutOnce value) stamp needs = absurd needs
value_alone (commands.Update wanted value) stamp needs = absurd needs
value_alone (commands.Append tail) stamp needs = refl
value_alone (commands.Add n) stamp needs = refl
value_alone (commands.Swap old new) stamp needs = refl
value_alone (commands.Over value) stamp needs = absurd needs
value_alone commands.Delete stamp needs = absurd needs

by_the_value : (key : List ℕ) (seen : Seen) (w : Waiting) (version stamp : Version) (digest : List ℕ) (l : Leader) (r : Leader × LeadOut) → running key l.table.calls ≡ Some w → (row_at key l.table.rows).known ≡ knowns.Present version stamp digest false
    → NeedsValue w.command → by_value seen version digest w.command key l ≡ r → row_28 key seen l ≡ r
by_the_value key seen w version stamp digest l r runs is needs so =
    starts_by key seen w (knowns.Present version stamp digest false) l r runs is (ap (λ (v : Option Verdict). by_stamp v seen version digest w.command key l) (value_alone w.command stamp needs) ∙ so)

pub starts_fetching : (key : List ℕ) (w : Waiting) (version stamp : Version) (digest : List ℕ) (l : Leader) → running key l.table.calls ≡ Some w → (row_at key l.table.rows).known ≡ knowns.Present version stamp digest false
    → NeedsValue w.command → row_28 key seens.Nothing l ≡ (l, and_own (Fetch key) rests)
starts_fetching key w version stamp digest l runs is needs = by_the_value key seens.Nothing w version stamp digest l (l, and_own (Fetch key) rests) runs is needs refl

-- the settled object is the one that the entry names
named_here : (key : List ℕ) (version : Version) (digest : List ℕ) (o : Object) → o.key ≡ key → o.version ≡ version → is_named (record { key = key; version = version; digest = digest }) o digest ≡ true
named_here key version digest o on at =
    ap (λ (b : Bool). b && same_version o.version version && same_bytes digest digest) (ap (λ (k : List ℕ). same_bytes k key) on ∙ bytes_itself key)
    ∙ ap (λ (b : Bool). b && same_bytes digest digest) (ap (λ (v : Version). same_version v version) at ∙ version_itself version) ∙ bytes_itself digest

found_here : (key : List ℕ) (version : Version) (digest : List ℕ) (kept : Option (Object × List ℕ)) (o : Object) → IsSettledObject key version digest kept o → matching (record { key = key; version = version; digest = digest }) kept ≡ Some o
found_here key version digest kept o is =
    ap (matching (record { key = key; version = version; digest = digest })) is.given ∙ ap (λ (b : Bool). if b then Some o else None) (named_here key version digest o is.on_key is.at_version)

not_here : (key : List ℕ) (version : Version) (digest : List ℕ) (kept : Option (Object × List ℕ)) → ((o : Object) → ¬ IsSettledObject key version digest kept o) → matching (record { key = key; version = version; digest = digest }) kept ≡ None
not_here key version digest None apart = refl
not_here key version digest (Some (o, d)) apart = by_test (is_named (record { key = key; version = version; digest = digest }) o d) refl
  where
    by_test : (b : Bool) → is_named (record { key = key; version = version; digest = digest }) o d ≡ b → (if b then Some o else None) ≡ None
    by_test false e = refl
    by_test true e =
        let first = and_parts (same_bytes o.key key && same_version o.version version) (same_bytes d digest) e in
        let rest = and_parts (same_bytes o.key key) (same_version o.version version) first.0 in
        absurd (apart o (record {
          given = ap (λ (x : List ℕ). Some (o, x)) (bytes_same d digest first.1);
          on_key = bytes_same o.key key rest.0;
          at_version = version_same o.version version rest.1;
        }))

pub starts_value : (key : List ℕ) (kept : Option (Object × List ℕ)) (o : Object) (w : Waiting) (version stamp : Version) (digest : List ℕ) (l : Leader) → running key l.table.calls ≡ Some w → (row_at key l.table.rows).known ≡ knowns.Present version stamp digest false
    → NeedsValue w.command → IsSettledObject key version digest kept o → row_28 key (seens.Kept kept) l ≡ decides (outcome w.command (register_of o)) key l
starts_value key kept o w version stamp digest l runs is needs settled =
    by_the_value key (seens.Kept kept) w version stamp digest l _ runs is needs
    (ap (λ (found : Option Object). on_object found w.command key l) (found_here key version digest kept o settled) ∙ outcome_decides (outcome w.command (register_of o)) key l)

pub starts_reading : (key : List ℕ) (kept : Option (Object × List ℕ)) (w : Waiting) (version stamp : Version) (digest : List ℕ) (l : Leader) → running key l.table.calls ≡ Some w → (row_at key l.table.rows).known ≡ knowns.Present version stamp digest false
    → NeedsValue w.command → ((o : Object) → ¬ IsSettledObject key version digest kept o) → row_28 key (seens.Kept kept) l ≡ (l, leads_on key_rules.Read key)
starts_reading key kept w version stamp digest l runs is needs apart =
    by_the_value key (seens.Kept kept) w version stamp digest l (l, leads_on key_rules.Read key) runs is needs (ap (λ (found : Option Object). on_object found w.command key l) (not_here key version digest kept apart))
