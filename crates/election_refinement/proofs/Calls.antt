-- The rules of calls leave the epoch that a leader leads as it is, and who accepted it. They send
-- only messages of calls, which assert nothing about elections.
use Rattle.std.specs.Prelude.{All, nat_le}
use Rattle.std.proofs.Common.{◌≡◌, ℕ, zero, suc, ◌≤◌, ◌+◌, ◌==◌, ◌&&◌, ◌||◌, Bool, true, false, if◌then◌else◌, List, [], ◌∷◌, Option, Some, None, arith, refl}
use Rattle.std.proofs.lemmas.List.Elements.{All-nil, All-cons, All-append}
use Rattle.call_table.specs.Calls.{running, due, waiting_on}
use Rattle.call_table.specs.Rows.{row_at, check_at}
use Rattle.call_table.specs.Tables.{late_put}
use Rattle.call_table.specs.declared.row.Found.{Found}
use Rattle.call_table.specs.declared.row.Known.{Known}
use Rattle.call_table.specs.declared.row.Known.TheVariants as knowns
use Rattle.call_table.specs.declared.row.Stage.{Stage}
use Rattle.call_table.specs.declared.row.Stage.TheVariants as stages
use Rattle.call_table.specs.declared.waiting.DueCall.{DueCall}
use Rattle.call_table.specs.declared.waiting.Waiting.{Waiting}
use Rattle.ens_base.specs.Epochs.{same_version}
use Rattle.ens_base.specs.View.{IsPeer}
use Rattle.ens_base.specs.declared.command.Command.{Command}
use Rattle.ens_base.specs.declared.entry.Entry.{Entry}
use Rattle.ens_base.specs.declared.epoch.Epoch.{Epoch}
use Rattle.ens_base.specs.declared.epoch.Version.{Version}
use Rattle.ens_base.specs.declared.reply.Reply.{Reply}
use Rattle.ens_base.specs.declared.reply.Reply.TheVariants as replies
use Rattle.stored_formats.specs.declared.object.Object.{Object}
use Rattle.object_commands.specs.Kept.{matching}
use Rattle.object_commands.specs.Commands.{register_of, verdict_of, stamp_verdict, blind_verdict}
use Rattle.object_commands.specs.declared.verdict.Verdict.{Verdict}
use Rattle.object_commands.specs.declared.verdict.Verdict.TheVariants.{Answer, Write}
use Rattle.leader_output.specs.Outs.{rests, comes, and_answer, and_key}
use Rattle.leader_output.specs.Sends.{is_other, sent_up_to}
use Rattle.leader_output.specs.declared.out.LeadOut.{LeadOut}
use Rattle.leader_output.specs.declared.out.Outgoing.{Outgoing}
use Rattle.leader.specs.Leaders.{base, is_spent, decided, concluded, joined, with_task}
use Rattle.leader.specs.Puts.{written_for, rewritten, write_settled, settled_for, acknowledged, put_seen, put_for, acknowledged_by, row_35_reply}
use Rattle.leader.specs.Rounds.{counts, asked, asked_for, heard, row_29_reply, without_object, on_found, on_greatest, on_best, by_state, gathered, gathered_for, begins_check, checked_for, goes_on_checking, stood, stood_at, row_33_reply, register_at, applied_for}
use Rattle.leader.specs.Rules.{lead_row}
use Rattle.leader.specs.Starts.{row_27, on_object, by_value, by_stamp, on_present, by_known, started, next_call}
use Rattle.leader.specs.Ticks.{Finishing, is_late, aged, timed_out, and_key_if, row_5_calls}
use Rattle.leader.specs.declared.leader.Leader.{Leader}
use Rattle.leader.specs.declared.pending.Pending.{Pending}
use Rattle.leader.specs.declared.pending.Pending.TheVariants as tasks
use Rattle.stored_formats.specs.declared.fact.Fact.{Fact}
use Rattle.phase_rows.specs.Orders.{is_same}
use Rattle.quorums.specs.Rounds.{begun, answered as heard_from, state_of}
use Rattle.quorums.specs.declared.round.Round.{Round}
use Rattle.quorums.specs.declared.round.RoundState.{RoundState}
use Rattle.quorums.specs.declared.round.RoundState.TheVariants.{Open, Met, AllAnswered}
use Rattle.register_model.specs.Registers.{outcome}
use Rattle.register_model.specs.declared.register.Register.TheVariants as registers
use Rattle.wire_frames.specs.declared.message.Message.{Message}
use Rattle.wire_frames.specs.declared.message.Message.TheVariants as messages
use Rattle.phase_rows.specs.declared.phase.Seen.{Seen}
use Rattle.phase_rows.specs.declared.phase.Seen.TheVariants as seens
use Rattle.phase_rows.specs.declared.phase.Then.{Then}
use Rattle.phase_rows.specs.declared.phase.Then.TheVariants as thens
use Rattle.phase_rows.specs.declared.rules.KeyRule.{KeyRule}
use Rattle.phase_rows.specs.declared.rules.KeyRule.TheVariants as key_rules
use Rattle.election_refinement.proofs.Tests.{by_test}

-- a message that a leader sends for a call
abbrev pub IsOfCalls : Message → Type 0
IsOfCalls (messages.Check ballot round) = Unit {0}
IsOfCalls (messages.Get ballot round key) = Unit {0}
IsOfCalls (messages.Put ballot object) = Unit {0}
IsOfCalls other = ⊥

-- such a message goes to a peer
abbrev pub AsksPeer : Outgoing → Type 0
AsksPeer o = IsPeer o.to × IsOfCalls o.message

-- no epoch begins to be led, and no sync begins
abbrev pub BeginsNothing : Then → Type 0
BeginsNothing (thens.Lead fact) = ⊥
BeginsNothing (thens.SyncOn fact) = ⊥
BeginsNothing other = Unit {0}

-- the leader still leads the epoch of this fact, which these peers accepted
pub record StillLeads (first : Fact) (accepters : List Bool) (r : Leader × LeadOut) : Type 0 where
  pub fact : r.0.fact ≡ first
  pub accepts : r.0.accepts ≡ accepters
  pub sends : All AsksPeer r.1.sends
  pub next : BeginsNothing r.1.then

abbrev Stays : Leader → Leader × LeadOut → Type 0
Stays l r = StillLeads l.fact l.accepts r

-- nothing is sent
silent : {first : Fact} {accepters : List Bool} {m : Leader} {out : LeadOut} → m.fact ≡ first → m.accepts ≡ accepters → out.sends ≡ [] → BeginsNothing out.then → StillLeads first accepters (m, out)
silent {out = out} fact accepts sends next = record { fact = fact; accepts = accepts; sends = subst_none out.sends sends; next = next }
  where
    subst_none : (xs : List Outgoing) → xs ≡ [] → All AsksPeer xs
    subst_none [] e = All-nil AsksPeer
    subst_none (x ∷ xs) e = absurd (cc)

told : (test : ℕ → Bool) (message : Message) → IsOfCalls message → (n : ℕ) → n ≤ 31 → All AsksPeer (sent_up_to test message n)
unfolding sent_up_to
told test message of_calls zero within = All-nil AsksPeer
told test message of_calls (suc n) within = All-append AsksPeer (sent_up_to test message n) (if test (n + 1) then sent ∷ [] else []) (told test message of_calls n (omega arith))
    (by_test (All AsksPeer) (test (n + 1)) (sent ∷ []) []
    (λ is. All-cons AsksPeer sent [] ((omega arith, omega arith), of_calls) (All-nil AsksPeer))
    (λ not. All-nil AsksPeer))
  where
    sent : Outgoing
    sent = record { to = n + 1; message = message }

tells : (l : Leader) (message : Message) → IsOfCalls message → All AsksPeer (sent_up_to (is_other l.me l.fact.views) message 31)
tells l message of_calls = told (is_other l.me l.fact.views) message of_calls 31 (omega arith)

-- ## Rules 27, 28 and 36

decided_stays : (parent : Option Version) (verdict : Verdict) (key : List ℕ) (l : Leader) → Stays l (decided parent verdict key l)
decided_stays parent (Write content) key l = silent refl refl refl tt
decided_stays parent (Answer reply) key l = silent refl refl refl tt

concluded_stays : (verdict : Verdict) (w : Waiting) (key : List ℕ) (l : Leader) → Stays l (concluded verdict w key l)
concluded_stays (Write content) w key l = silent refl refl refl tt
concluded_stays (Answer reply) w key l = silent refl refl refl tt

on_object_stays : (o : Option Object) (command : Command) (key : List ℕ) (l : Leader) → Stays l (on_object o command key l)
on_object_stays None command key l = silent refl refl refl tt
on_object_stays (Some o) command key l = decided_stays (base key l) (verdict_of (outcome command (register_of o))) key l

by_value_stays : (seen : Seen) (version : Version) (digest : List ℕ) (command : Command) (key : List ℕ) (l : Leader) → Stays l (by_value seen version digest command key l)
by_value_stays seens.Nothing version digest command key l = silent refl refl refl tt
by_value_stays (seens.Kept kept) version digest command key l = on_object_stays (matching (record { key = key; version = version; digest = digest }) kept) command key l
by_value_stays seen version digest command key l = silent refl refl refl tt

by_stamp_stays : (verdict : Option Verdict) (seen : Seen) (version : Version) (digest : List ℕ) (command : Command) (key : List ℕ) (l : Leader) → Stays l (by_stamp verdict seen version digest command key l)
by_stamp_stays (Some verdict) seen version digest command key l = decided_stays (base key l) verdict key l
by_stamp_stays None seen version digest command key l = by_value_stays seen version digest command key l

on_present_stays : (tombstone : Bool) (version stamp : Version) (digest : List ℕ) (seen : Seen) (command : Command) (key : List ℕ) (l : Leader) → Stays l (on_present tombstone version stamp digest seen command key l)
on_present_stays true version stamp digest seen command key l = decided_stays (base key l) (verdict_of (outcome command registers.Absent)) key l
on_present_stays false version stamp digest seen command key l = by_stamp_stays (stamp_verdict command stamp) seen version digest command key l

by_known_stays : (known : Known) (seen : Seen) (command : Command) (key : List ℕ) (l : Leader) → Stays l (by_known known seen command key l)
by_known_stays knowns.Unknown seen command key l = silent refl refl refl tt
by_known_stays knowns.Absent seen command key l = decided_stays (base key l) (verdict_of (outcome command registers.Absent)) key l
by_known_stays (knowns.Present version stamp digest tombstone) seen command key l = on_present_stays tombstone version stamp digest seen command key l

started_stays : (w : Option Waiting) (seen : Seen) (key : List ℕ) (l : Leader) → Stays l (started w seen key l)
started_stays None seen key l = silent refl refl refl tt
started_stays (Some w) seen key l = by_known_stays (row_at key l.table.rows).known seen w.command key l

next_stays : (w : Option Waiting) (key : List ℕ) (l : Leader) → Stays l (l, next_call w key)
next_stays None key l = silent refl refl refl tt
next_stays (Some w) key l = silent refl refl refl tt

pub joined_stays : (from id : ℕ) (key : List ℕ) (command : Command) (finishing : Bool) (l : Leader) → Stays l (row_27 from id key command finishing l)
joined_stays from id key command finishing l =
    by_test (Stays l) finishing _ _
    (λ ends. silent refl refl refl tt)
    (λ goes_on. by_test (Stays l) (nat_le 16 (waiting_on key l.table.calls)) _ _
    (λ busy. silent refl refl refl tt)
    (λ free. by_test (λ (out : LeadOut). Stays l (joined (record { from = from; id = id; key = key; command = command; age = 0 }) l, out)) (waiting_on key l.table.calls == 0) _ _
    (λ alone. silent refl refl refl tt)
    (λ behind. silent refl refl refl tt)))

-- ## Rules 29, 30, 33 and 34

asked_stays : (seen : Seen) (key : List ℕ) (l : Leader) → Stays l (asked seen key l)
asked_stays seens.Nothing key l = by_test (Stays l) (is_spent l.round) _ _ (λ spent. silent refl refl refl tt) (λ more. silent refl refl refl tt)
asked_stays (seens.Damaged at) key l = silent refl refl refl tt
asked_stays (seens.Held entry object) key l = record { fact = refl; accepts = refl; sends = tells l (messages.Get l.fact.epoch l.round key) tt; next = tt }
asked_stays seen key l = silent refl refl refl tt

asked_for_stays : (w : Option Waiting) (seen : Seen) (key : List ℕ) (l : Leader) → Stays l (asked_for w seen key l)
asked_for_stays None seen key l = silent refl refl refl tt
asked_for_stays (Some w) seen key l = asked_stays seen key l

heard_stays : (stage : Stage) (from : ℕ) (ballot : Epoch) (round : ℕ) (key : List ℕ) (entry : Option Entry) (object : Option Object) (l : Leader) → Stays l (heard stage from ballot round key entry object l)
heard_stays (stages.Reading asked_in votes best) from ballot round key entry object l = by_test (Stays l) (counts ballot round asked_in l) _ _ (λ own. silent refl refl refl tt) (λ other. silent refl refl refl tt)
heard_stays stage from ballot round key entry object l = silent refl refl refl tt

pub got_stays : (from : ℕ) (ballot : Epoch) (round : ℕ) (key : List ℕ) (entry : Option Entry) (object : Option Object) (l : Leader) → Stays l (row_29_reply from ballot round key entry object l)
got_stays from ballot round key entry object l = heard_stays (row_at key l.table.rows).stage from ballot round key entry object l

without_stays : (state : RoundState) (w : Waiting) (key : List ℕ) (l : Leader) → Stays l (without_object state w key l)
without_stays AllAnswered w key l = silent refl refl refl tt
without_stays state w key l = silent refl refl refl tt

on_found_stays : (o : Option Object) (state : RoundState) (u : Entry) (w : Waiting) (key : List ℕ) (l : Leader) → Stays l (on_found o state u w key l)
on_found_stays None state u w key l = without_stays state w key l
on_found_stays (Some o) state u w key l = by_test (Stays l) (is_same u.version.epoch l.fact.epoch) _ _ (λ own. silent refl refl refl tt) (λ earlier. silent refl refl refl tt)

on_greatest_stays : (verdict : Option Verdict) (state : RoundState) (u : Found) (w : Waiting) (key : List ℕ) (l : Leader) → Stays l (on_greatest verdict state u w key l)
on_greatest_stays (Some verdict) state u w key l = decided_stays (Some u.entry.version) verdict key l
on_greatest_stays None state u w key l = on_found_stays u.object state u.entry w key l

on_best_stays : (best : Option Found) (state : RoundState) (w : Waiting) (key : List ℕ) (l : Leader) → Stays l (on_best best state w key l)
on_best_stays None state w key l = silent refl refl refl tt
on_best_stays (Some u) state w key l = on_greatest_stays (blind_verdict w.command) state u w key l

by_state_stays : (state : RoundState) (best : Option Found) (w : Waiting) (key : List ℕ) (l : Leader) → Stays l (by_state state best w key l)
by_state_stays Open best w key l = silent refl refl refl tt
by_state_stays Met best w key l = on_best_stays best Met w key l
by_state_stays AllAnswered best w key l = on_best_stays best AllAnswered w key l

gathered_stays : (stage : Stage) (w : Waiting) (key : List ℕ) (l : Leader) → Stays l (gathered stage w key l)
gathered_stays (stages.Reading round votes best) w key l = by_state_stays (state_of votes) best w key l
gathered_stays stage w key l = silent refl refl refl tt

gathered_for_stays : (w : Option Waiting) (key : List ℕ) (l : Leader) → Stays l (gathered_for w key l)
gathered_for_stays None key l = silent refl refl refl tt
gathered_for_stays (Some w) key l = gathered_stays (row_at key l.table.rows).stage w key l

begins_stays : (state : RoundState) (votes : Round) (reply : Reply) (w : Waiting) (key : List ℕ) (out : LeadOut) (l : Leader) → All AsksPeer out.sends → BeginsNothing out.then → Stays l (begins_check state votes reply w key out l)
begins_stays Open votes reply w key out l sends next = record { fact = refl; accepts = refl; sends = sends; next = next }
begins_stays Met votes reply w key out l sends next = record { fact = refl; accepts = refl; sends = sends; next = tt }
begins_stays AllAnswered votes reply w key out l sends next = record { fact = refl; accepts = refl; sends = sends; next = tt }

checked_stays : (w : Option Waiting) (task : Pending) (key : List ℕ) (l : Leader) → Stays l (checked_for w task key l)
checked_stays (Some w) (tasks.Check reply) key l =
    by_test (Stays l) (is_spent l.round) _ _
    (λ spent. silent refl refl refl tt)
    (λ more. begins_stays (state_of (begun l.fact.views l.me)) (begun l.fact.views l.me) reply w key _ (record l { round = l.round + 1 }) (tells l (messages.Check l.fact.epoch (l.round + 1)) tt) tt)
checked_stays call task key l = silent refl refl refl tt

goes_on_stays : (state : RoundState) (round : ℕ) (votes : Round) (reply : Reply) (w : Waiting) (key : List ℕ) (l : Leader) → Stays l (goes_on_checking state round votes reply w key l)
goes_on_stays Open round votes reply w key l = silent refl refl refl tt
goes_on_stays Met round votes reply w key l = silent refl refl refl tt
goes_on_stays AllAnswered round votes reply w key l = silent refl refl refl tt

stood_stays : (w : Option Waiting) (stage : Stage) (from : ℕ) (ballot : Epoch) (round : ℕ) (key : List ℕ) (l : Leader) → Stays l (stood w stage from ballot round key l)
stood_stays (Some w) (stages.Checking asked_in votes reply) from ballot round key l =
    by_test (Stays l) (counts ballot round asked_in l) _ _ (λ own. goes_on_stays (state_of (heard_from from votes)) asked_in (heard_from from votes) reply w key l) (λ other. silent refl refl refl tt)
stood_stays call stage from ballot round key l = silent refl refl refl tt

stood_at_stays : (key : Option (List ℕ)) (from : ℕ) (ballot : Epoch) (round : ℕ) (l : Leader) → Stays l (stood_at key from ballot round l)
stood_at_stays None from ballot round l = silent refl refl refl tt
stood_at_stays (Some key) from ballot round l = stood_stays (running key l.table.calls) (row_at key l.table.rows).stage from ballot round key l

pub stands_stays : (from : ℕ) (ballot : Epoch) (round : ℕ) (l : Leader) → Stays l (row_33_reply from ballot round l)
stands_stays from ballot round l = stood_at_stays (check_at round l.table.checks) from ballot round l

applied_stays : (w : Option Waiting) (task : Pending) (key : List ℕ) (l : Leader) → Stays l (applied_for w task key l)
applied_stays (Some w) (tasks.Apply current) key l = concluded_stays (verdict_of (outcome w.command (register_at current))) w key l
applied_stays call task key l = silent refl refl refl tt

-- ## Rules 31, 32 and 35

written_stays : (w : Option Waiting) (task : Pending) (key : List ℕ) (l : Leader) → Stays l (written_for w task key l)
written_stays (Some w) (tasks.Write content parent) key l = by_test (Stays l) (is_spent l.seq) _ _ (λ spent. silent refl refl refl tt) (λ more. silent refl refl refl tt)
written_stays call task key l = silent refl refl refl tt

rewritten_stays : (task : Pending) (key : List ℕ) (l : Leader) → Stays l (rewritten task key l)
rewritten_stays (tasks.Rewrite o) key l = by_test (Stays l) (is_spent l.seq) _ _ (λ spent. silent refl refl refl tt) (λ more. silent refl refl refl tt)
rewritten_stays task key l = silent refl refl refl tt

write_settled_stays : (w : Option Waiting) (o : Object) (key : List ℕ) (out : LeadOut) (l : Leader) → All AsksPeer out.sends → BeginsNothing out.then → Stays l (write_settled w o key out l)
write_settled_stays None o key out l sends next = record { fact = refl; accepts = refl; sends = sends; next = next }
write_settled_stays (Some w) o key out l sends next = record { fact = refl; accepts = refl; sends = sends; next = tt }

settled_stays : (rewrite : Bool) (o : Object) (key : List ℕ) (out : LeadOut) (l : Leader) → All AsksPeer out.sends → BeginsNothing out.then → Stays l (settled_for rewrite o key out l)
settled_stays true o key out l sends next = record { fact = refl; accepts = refl; sends = sends; next = tt }
settled_stays false o key out l sends next = write_settled_stays (running key l.table.calls) o key out l sends next

acknowledged_stays : (state : RoundState) (o : Object) (digest : List ℕ) (acks : Round) (rewrite : Bool) (key : List ℕ) (out : LeadOut) (l : Leader) → All AsksPeer out.sends → BeginsNothing out.then → Stays l (acknowledged state o digest acks rewrite key out l)
acknowledged_stays Open o digest acks rewrite key out l sends next = record { fact = refl; accepts = refl; sends = sends; next = next }
acknowledged_stays Met o digest acks rewrite key out l sends next = settled_stays rewrite o key _ _ sends next
acknowledged_stays AllAnswered o digest acks rewrite key out l sends next = settled_stays rewrite o key _ _ sends next

put_seen_stays : (seen : Seen) (o : Object) (parent : Option Version) (call : Option ℕ) (key : List ℕ) (l : Leader) → Stays l (put_seen seen o parent call key l)
put_seen_stays seens.Nothing o parent call key l = silent refl refl refl tt
put_seen_stays (seens.Damaged at) o parent call key l = silent refl refl refl tt
put_seen_stays (seens.Stored digest) o parent call key l = acknowledged_stays (state_of (begun l.fact.views l.me)) o digest (begun l.fact.views l.me) _ key _ l (tells l (messages.Put l.fact.epoch o) tt) tt
put_seen_stays seen o parent call key l = silent refl refl refl tt

put_stays : (task : Pending) (seen : Seen) (key : List ℕ) (l : Leader) → Stays l (put_for task seen key l)
put_stays (tasks.Propose o parent call) seen key l = put_seen_stays seen o parent call key l
put_stays task seen key l = silent refl refl refl tt

acknowledged_by_stays : (stage : Stage) (from : ℕ) (ballot : Epoch) (version : Version) (key : List ℕ) (l : Leader) → Stays l (acknowledged_by stage from ballot version key l)
acknowledged_by_stays (stages.Putting o digest acks rewrite) from ballot version key l =
    by_test (Stays l) (is_same ballot l.fact.epoch && same_version version o.version) _ _
    (λ own. acknowledged_stays (state_of (heard_from from acks)) o digest (heard_from from acks) rewrite key rests l (All-nil AsksPeer) tt)
    (λ other. silent refl refl refl tt)
acknowledged_by_stays stage from ballot version key l = silent refl refl refl tt

pub put_heard_stays : (from : ℕ) (ballot : Epoch) (key : List ℕ) (version : Version) (l : Leader) → Stays l (row_35_reply from ballot key version l)
put_heard_stays from ballot key version l = acknowledged_by_stays (row_at key l.table.rows).stage from ballot version key l

-- ## All rules on a key, and the calls of a tick

pub lead_stays : (rule : KeyRule) (key : List ℕ) (seen : Seen) (l : Leader) → Stays l (lead_row rule key seen l)
lead_stays key_rules.StartCall key seen l = started_stays (running key l.table.calls) seen key l
lead_stays key_rules.Read key seen l = asked_for_stays (running key l.table.calls) seen key l
lead_stays key_rules.EnoughReplies key seen l = gathered_for_stays (running key l.table.calls) key l
lead_stays key_rules.Write key seen l = written_stays (running key l.table.calls) l.task key (with_task tasks.Nothing l)
lead_stays key_rules.Rewrite key seen l = rewritten_stays l.task key (with_task tasks.Nothing l)
lead_stays key_rules.Check key seen l = checked_stays (running key l.table.calls) l.task key (with_task tasks.Nothing l)
lead_stays key_rules.Apply key seen l = applied_stays (running key l.table.calls) l.task key (with_task tasks.Nothing l)
lead_stays key_rules.Put key seen l = put_stays l.task seen key (with_task tasks.Nothing l)
lead_stays key_rules.StartNextCall key seen l = next_stays (running key l.table.calls) key l

timed_out_stays : (ds : List DueCall) (o : LeadOut) (l m : Leader) → m.fact ≡ l.fact → m.accepts ≡ l.accepts → o.sends ≡ [] → BeginsNothing o.then → Stays l (m, timed_out ds o)
timed_out_stays [] o l m fact accepts none next = silent fact accepts none next
timed_out_stays (d ∷ ds) o l m fact accepts none next = with_key d.running (and_answer d.from d.id replies.Timeout o) none next (λ p no_send leads. timed_out_stays ds p l m fact accepts no_send leads)
  where
    with_key : (key : Option (List ℕ)) (p : LeadOut) → p.sends ≡ [] → BeginsNothing p.then → ((q : LeadOut) → q.sends ≡ [] → BeginsNothing q.then → Stays l (m, timed_out ds q)) → Stays l (m, timed_out ds (and_key_if key p))
    with_key None p no_send leads rest = rest p no_send leads
    with_key (Some key) p no_send leads rest = rest (and_key key p) no_send leads

pub tick_stays : (finishing : Finishing) (l : Leader) → Stays l (row_5_calls finishing l)
tick_stays finishing l =
    by_test (Stays l) (late_put (aged l.table) || is_late finishing) _ _
    (λ late. silent refl refl refl tt)
    (λ on_time. timed_out_stays (due (aged l.table).calls) (comes (thens.OnKeys key_rules.StartNextCall)) l _ refl refl refl tt)
