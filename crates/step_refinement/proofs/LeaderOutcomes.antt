-- The answers of the rules of a leader: the leader steps down, or it stays; then another rule comes next on the
-- key, or none, and only the rules 28, 29 and 35 ask the stores. Rules 29 and 35 may be shown damage.
use Rattle.std.specs.Prelude.{All, nat_le}
use Rattle.std.proofs.Common.{◌≡◌, ◌⊎◌, inl, inr, ℕ, zero, suc, ◌≤◌, ◌+◌, ◌==◌, ◌&&◌, ◌||◌, Bool, true, false, if◌then◌else◌, List, [], ◌∷◌, Option, Some, None, arith, refl, sym, subst}
use Rattle.std.proofs.lemmas.List.Elements.{All-nil, All-cons, All-append}
use Rattle.call_table.specs.Calls.{running, due, waiting_on}
use Rattle.call_table.specs.Rows.{row_at, check_at}
use Rattle.call_table.specs.Tables.{late_put}
use Rattle.call_table.specs.declared.row.Found.{Found}
use Rattle.call_table.specs.declared.row.Known.{Known}
use Rattle.call_table.specs.declared.row.Known.TheVariants as knowns
use Rattle.call_table.specs.declared.row.Stage.{Stage}
use Rattle.call_table.specs.declared.row.Stage.TheVariants as stages
use Rattle.call_table.specs.declared.waiting.DueCall.{DueCall}
use Rattle.call_table.specs.declared.waiting.Waiting.{Waiting}
use Rattle.ens_base.specs.Epochs.{same_version}
use Rattle.ens_base.specs.declared.command.Command.{Command}
use Rattle.ens_base.specs.declared.entry.Entry.{Entry}
use Rattle.ens_base.specs.declared.epoch.Epoch.{Epoch}
use Rattle.ens_base.specs.declared.epoch.Version.{Version}
use Rattle.ens_base.specs.declared.reply.Reply.{Reply}
use Rattle.ens_base.specs.declared.reply.Reply.TheVariants as replies
use Rattle.stored_formats.specs.Objects.{IsObject}
use Rattle.stored_formats.specs.declared.object.Object.{Object}
use Rattle.object_commands.specs.Kept.{matching}
use Rattle.object_commands.specs.Commands.{register_of, verdict_of, stamp_verdict, blind_verdict}
use Rattle.object_commands.specs.declared.verdict.Verdict.{Verdict}
use Rattle.object_commands.specs.declared.verdict.Verdict.TheVariants.{Answer, Write}
use Rattle.leader_output.specs.Outs.{rests, comes, leaves, and_own, and_answer, and_key}
use Rattle.leader_output.specs.Sends.{is_other, sent_up_to}
use Rattle.leader_output.specs.declared.out.LeadOut.{LeadOut}
use Rattle.leader_output.specs.declared.out.Outgoing.{Outgoing}
use Rattle.leader_output.specs.declared.out.Own.TheVariants as owns
use Rattle.leader.specs.Leaders.{base, is_spent, decided, concluded, with_task}
use Rattle.leader.specs.Puts.{write_settled, settled_for, acknowledged, put_for, acknowledged_by, row_35, row_35_reply}
use Rattle.leader.specs.Rounds.{counts, asked, asked_for, heard, row_29, row_29_reply, without_object, on_found, on_greatest, on_best, by_state, gathered, gathered_for, row_30, begins_check, checked_for, row_33, goes_on_checking, stood, stood_at, row_33_reply, register_at, applied_for, row_34}
use Rattle.leader.specs.Starts.{row_27, on_object, by_value, by_stamp, on_present, by_known, started, row_28, next_call, row_36}
use Rattle.leader.specs.Ticks.{Finishing, is_late, aged, timed_out, and_key_if, row_5_calls}
use Rattle.leader.specs.declared.leader.Leader.{Leader}
use Rattle.leader.specs.declared.pending.Pending.{Pending}
use Rattle.leader.specs.declared.pending.Pending.TheVariants as tasks
use Rattle.phase_rows.specs.Orders.{is_same}
use Rattle.quorums.specs.Rounds.{begun, answered as heard_from, state_of}
use Rattle.quorums.specs.declared.round.Round.{Round}
use Rattle.quorums.specs.declared.round.RoundState.{RoundState}
use Rattle.quorums.specs.declared.round.RoundState.TheVariants.{Open, Met, AllAnswered}
use Rattle.register_model.specs.Registers.{outcome}
use Rattle.register_model.specs.declared.register.Register.TheVariants as registers
use Rattle.tree_node.specs.declared.position.Position.{Position}
use Rattle.wire_frames.specs.declared.message.Message.{Message}
use Rattle.wire_frames.specs.declared.message.Message.TheVariants as messages
use Rattle.phase_rows.specs.declared.phase.Seen.{Seen}
use Rattle.phase_rows.specs.declared.phase.Seen.TheVariants as seens
use Rattle.phase_rows.specs.declared.phase.Then.{Then}
use Rattle.phase_rows.specs.declared.phase.Then.TheVariants as thens
use Rattle.phase_rows.specs.declared.rules.KeyRule.{KeyRule}
use Rattle.phase_rows.specs.declared.rules.KeyRule.TheVariants as key_rules
use Rattle.election_refinement.proofs.Tests.{by_test}
use Rattle.step_refinement.proofs.LeaderMessages.{CallFits, AskFits}

-- a rule that a rule names on its key; rules 31 and 32 alone name rule 35
abbrev pub IsNamed : KeyRule → Type 0
IsNamed key_rules.Put = ⊥
IsNamed rule = Unit {0}

-- no rule comes next, or one of these
abbrev pub NamesNext : Then → Type 0
NamesNext thens.Stay = Unit {0}
NamesNext (thens.OnKeys rule) = IsNamed rule
NamesNext other = ⊥

-- the leader stays and asks no store
pub record IsCalmOut (o : LeadOut) : Type 0 where
  pub leave : o.leave ≡ false
  pub own : o.own ≡ None
  pub next : NamesNext o.then
  pub sends : All AskFits o.sends

-- the leader steps down, or it stays and asks no store
abbrev pub IsTame : LeadOut → Type 0
IsTame o = (o ≡ leaves) ⊎ IsCalmOut o

abbrev Tames : Leader × LeadOut → Type 0
Tames r = IsTame r.1

-- a rule that was shown damage answers, notes and sends nothing, and the leader's peer no longer trusts its tree
abbrev pub IsDamage : Leader × LeadOut → Type 0
IsDamage r = (r.1.then ≡ thens.Untrust) × (r.1.own ≡ None) × (r.1.sends ≡ []) × (r.1.notes ≡ []) × (r.1.answers ≡ []) × (r.1.leave ≡ false) × (r.1.keys ≡ [])

damaged : (l : Leader) → IsDamage (l, comes thens.Untrust)
damaged l = (refl, refl, refl, refl, refl, refl, refl)

-- nothing is sent
calm_out : (o : LeadOut) → o.leave ≡ false → o.own ≡ None → NamesNext o.then → o.sends ≡ [] → IsCalmOut o
calm_out o leave own next sends = record { leave = leave; own = own; next = next; sends = none o.sends sends }
  where
    none : (xs : List Outgoing) → xs ≡ [] → All AskFits xs
    none [] e = All-nil AskFits
    none (x ∷ xs) e = absurd (cc)

calm : {o : LeadOut} → o.leave ≡ false → o.own ≡ None → NamesNext o.then → o.sends ≡ [] → IsTame o
calm {o} leave own next sends = inr (calm_out o leave own next sends)

told : (test : ℕ → Bool) (message : Message) → CallFits message → (n : ℕ) → n ≤ 31 → All AskFits (sent_up_to test message n)
unfolding sent_up_to
told test message fits zero within = All-nil AskFits
told test message fits (suc n) within = All-append AskFits (sent_up_to test message n) (if test (n + 1) then sent ∷ [] else []) (told test message fits n (omega arith))
    (by_test (All AskFits) (test (n + 1)) (sent ∷ []) []
    (λ is. All-cons AskFits sent [] (record { to = (omega arith, omega arith); fits = fits }) (All-nil AskFits))
    (λ not. All-nil AskFits))
  where
    sent : Outgoing
    sent = record { to = n + 1; message = message }

tells : (l : Leader) (message : Message) → CallFits message → All AskFits (sent_up_to (is_other l.me l.fact.views) message 31)
tells l message fits = told (is_other l.me l.fact.views) message fits 31 (omega arith)

-- ## Rules 27, 28 and 36

decided_tame : (parent : Option Version) (verdict : Verdict) (key : List ℕ) (l : Leader) → Tames (decided parent verdict key l)
decided_tame parent (Write content) key l = calm refl refl tt refl
decided_tame parent (Answer reply) key l = calm refl refl tt refl

concluded_tame : (verdict : Verdict) (w : Waiting) (key : List ℕ) (l : Leader) → Tames (concluded verdict w key l)
concluded_tame (Write content) w key l = calm refl refl tt refl
concluded_tame (Answer reply) w key l = calm refl refl tt refl

-- rule 28 may ask the backend instead
abbrev pub IsLooking : List ℕ → Leader → Leader × LeadOut → Type 0
IsLooking key l r = IsTame r.1 ⊎ (r ≡ (l, and_own (owns.Fetch key) rests))

on_object_tame : (o : Option Object) (command : Command) (key : List ℕ) (l : Leader) → Tames (on_object o command key l)
on_object_tame None command key l = calm refl refl tt refl
on_object_tame (Some o) command key l = decided_tame (base key l) (verdict_of (outcome command (register_of o))) key l

by_value_looks : (seen : Seen) (version : Version) (digest : List ℕ) (command : Command) (key : List ℕ) (l : Leader) → IsLooking key l (by_value seen version digest command key l)
by_value_looks seens.Nothing version digest command key l = inr refl
by_value_looks (seens.Kept kept) version digest command key l = inl (on_object_tame (matching (record { key = key; version = version; digest = digest }) kept) command key l)
by_value_looks seen version digest command key l = inl (calm refl refl tt refl)

by_stamp_looks : (verdict : Option Verdict) (seen : Seen) (version : Version) (digest : List ℕ) (command : Command) (key : List ℕ) (l : Leader) → IsLooking key l (by_stamp verdict seen version digest command key l)
by_stamp_looks (Some verdict) seen version digest command key l = inl (decided_tame (base key l) verdict key l)
by_stamp_looks None seen version digest command key l = by_value_looks seen version digest command key l

on_present_looks : (tombstone : Bool) (version stamp : Version) (digest : List ℕ) (seen : Seen) (command : Command) (key : List ℕ) (l : Leader) → IsLooking key l (on_present tombstone version stamp digest seen command key l)
on_present_looks true version stamp digest seen command key l = inl (decided_tame (base key l) (verdict_of (outcome command registers.Absent)) key l)
on_present_looks false version stamp digest seen command key l = by_stamp_looks (stamp_verdict command stamp) seen version digest command key l

by_known_looks : (known : Known) (seen : Seen) (command : Command) (key : List ℕ) (l : Leader) → IsLooking key l (by_known known seen command key l)
by_known_looks knowns.Unknown seen command key l = inl (calm refl refl tt refl)
by_known_looks knowns.Absent seen command key l = inl (decided_tame (base key l) (verdict_of (outcome command registers.Absent)) key l)
by_known_looks (knowns.Present version stamp digest tombstone) seen command key l = on_present_looks tombstone version stamp digest seen command key l

started_looks : (w : Option Waiting) (seen : Seen) (key : List ℕ) (l : Leader) → IsLooking key l (started w seen key l)
started_looks None seen key l = inl (calm refl refl tt refl)
started_looks (Some w) seen key l = by_known_looks (row_at key l.table.rows).known seen w.command key l

-- rule 28 is tame, or asks the backend
pub tame_28 : (key : List ℕ) (seen : Seen) (l : Leader) → IsLooking key l (row_28 key seen l)
tame_28 key seen l = started_looks (running key l.table.calls) seen key l

next_tame : (w : Option Waiting) (key : List ℕ) → IsTame (next_call w key)
next_tame None key = calm refl refl tt refl
next_tame (Some w) key = calm refl refl tt refl

-- rule 36 is tame
pub tame_36 : (key : List ℕ) (l : Leader) → IsTame (row_36 key l).1
tame_36 key l = next_tame (running key l.table.calls) key

-- rule 27 is calm
pub calm_27 : (from id : ℕ) (key : List ℕ) (command : Command) (finishing : Bool) (l : Leader) → IsCalmOut (row_27 from id key command finishing l).1
calm_27 from id key command finishing l =
    by_test (λ (r : Leader × LeadOut). IsCalmOut r.1) finishing _ _
    (λ ends. calm_out _ refl refl tt refl)
    (λ goes_on. by_test (λ (r : Leader × LeadOut). IsCalmOut r.1) (nat_le 16 (waiting_on key l.table.calls)) _ _
    (λ busy. calm_out _ refl refl tt refl)
    (λ free. by_test IsCalmOut (waiting_on key l.table.calls == 0) _ _
    (λ alone. calm_out _ refl refl tt refl)
    (λ behind. calm_out _ refl refl tt refl)))

-- ## Rules 29, 30, 33 and 34

-- the second run of rule 29, without damage
asked_tame : (entry : Option Entry) (object : Option Object) (key : List ℕ) (l : Leader) → Tames (asked (seens.Held entry object) key l)
asked_tame entry object key l = inr (record { leave = refl; own = refl; next = tt; sends = tells l (messages.Get l.fact.epoch l.round key) tt })

asked_for_tame : (w : Option Waiting) (entry : Option Entry) (object : Option Object) (key : List ℕ) (l : Leader) → Tames (asked_for w (seens.Held entry object) key l)
asked_for_tame None entry object key l = calm refl refl tt refl
asked_for_tame (Some w) entry object key l = asked_tame entry object key l

-- rule 29 is tame where it is shown an entry
pub tame_29 : (entry : Option Entry) (object : Option Object) (key : List ℕ) (l : Leader) → IsTame (row_29 key (seens.Held entry object) l).1
tame_29 entry object key l = asked_for_tame (running key l.table.calls) entry object key l

-- the second run of rule 29, with damage; without a call nothing happens
pub broken_29 : (at : Position) (key : List ℕ) (l : Leader) → IsTame (row_29 key (seens.Damaged at) l).1 ⊎ IsDamage (row_29 key (seens.Damaged at) l)
broken_29 at key l = by_call (running key l.table.calls)
  where
    by_call : (w : Option Waiting) → IsTame (asked_for w (seens.Damaged at) key l).1 ⊎ IsDamage (asked_for w (seens.Damaged at) key l)
    by_call None = inl (calm refl refl tt refl)
    by_call (Some w) = inr (damaged l)

heard_tame : (stage : Stage) (from : ℕ) (ballot : Epoch) (round : ℕ) (key : List ℕ) (entry : Option Entry) (object : Option Object) (l : Leader) → Tames (heard stage from ballot round key entry object l)
heard_tame (stages.Reading asked_in votes best) from ballot round key entry object l = by_test Tames (counts ballot round asked_in l) _ _ (λ own. calm refl refl tt refl) (λ other. calm refl refl tt refl)
heard_tame stage from ballot round key entry object l = calm refl refl tt refl

-- the rule for a reply to a read is tame
pub tame_got : (from : ℕ) (ballot : Epoch) (round : ℕ) (key : List ℕ) (entry : Option Entry) (object : Option Object) (l : Leader) → IsTame (row_29_reply from ballot round key entry object l).1
tame_got from ballot round key entry object l = heard_tame (row_at key l.table.rows).stage from ballot round key entry object l

without_tame : (state : RoundState) (w : Waiting) (key : List ℕ) (l : Leader) → Tames (without_object state w key l)
without_tame AllAnswered w key l = calm refl refl tt refl
without_tame state w key l = calm refl refl tt refl

on_found_tame : (o : Option Object) (state : RoundState) (u : Entry) (w : Waiting) (key : List ℕ) (l : Leader) → Tames (on_found o state u w key l)
on_found_tame None state u w key l = without_tame state w key l
on_found_tame (Some o) state u w key l = by_test Tames (is_same u.version.epoch l.fact.epoch) _ _ (λ own. calm refl refl tt refl) (λ earlier. calm refl refl tt refl)

on_greatest_tame : (verdict : Option Verdict) (state : RoundState) (u : Found) (w : Waiting) (key : List ℕ) (l : Leader) → Tames (on_greatest verdict state u w key l)
on_greatest_tame (Some verdict) state u w key l = decided_tame (Some u.entry.version) verdict key l
on_greatest_tame None state u w key l = on_found_tame u.object state u.entry w key l

on_best_tame : (best : Option Found) (state : RoundState) (w : Waiting) (key : List ℕ) (l : Leader) → Tames (on_best best state w key l)
on_best_tame None state w key l = calm refl refl tt refl
on_best_tame (Some u) state w key l = on_greatest_tame (blind_verdict w.command) state u w key l

by_state_tame : (state : RoundState) (best : Option Found) (w : Waiting) (key : List ℕ) (l : Leader) → Tames (by_state state best w key l)
by_state_tame Open best w key l = calm refl refl tt refl
by_state_tame Met best w key l = on_best_tame best Met w key l
by_state_tame AllAnswered best w key l = on_best_tame best AllAnswered w key l

gathered_tame : (stage : Stage) (w : Waiting) (key : List ℕ) (l : Leader) → Tames (gathered stage w key l)
gathered_tame (stages.Reading round votes best) w key l = by_state_tame (state_of votes) best w key l
gathered_tame stage w key l = calm refl refl tt refl

gathered_for_tame : (w : Option Waiting) (key : List ℕ) (l : Leader) → Tames (gathered_for w key l)
gathered_for_tame None key l = calm refl refl tt refl
gathered_for_tame (Some w) key l = gathered_tame (row_at key l.table.rows).stage w key l

-- rule 30 is tame
pub tame_30 : (key : List ℕ) (l : Leader) → IsTame (row_30 key l).1
tame_30 key l = gathered_for_tame (running key l.table.calls) key l

begins_tame : (state : RoundState) (votes : Round) (reply : Reply) (w : Waiting) (key : List ℕ) (out : LeadOut) (l : Leader) → IsCalmOut out → Tames (begins_check state votes reply w key out l)
begins_tame Open votes reply w key out l was = inr was
begins_tame Met votes reply w key out l was = inr (record { leave = was.leave; own = was.own; next = tt; sends = was.sends })
begins_tame AllAnswered votes reply w key out l was = inr (record { leave = was.leave; own = was.own; next = tt; sends = was.sends })

checked_tame : (w : Option Waiting) (task : Pending) (key : List ℕ) (l : Leader) → Tames (checked_for w task key l)
checked_tame (Some w) (tasks.Check reply) key l =
    by_test Tames (is_spent l.round) _ _
    (λ spent. inl refl)
    (λ more. begins_tame (state_of (begun l.fact.views l.me)) (begun l.fact.views l.me) reply w key _ (record l { round = l.round + 1 }) (record { leave = refl; own = refl; next = tt; sends = tells l (messages.Check l.fact.epoch (l.round + 1)) tt }))
checked_tame call task key l = calm refl refl tt refl

-- rule 33 is tame
pub tame_33 : (key : List ℕ) (l : Leader) → IsTame (row_33 key l).1
tame_33 key l = checked_tame (running key l.table.calls) l.task key (with_task tasks.Nothing l)

goes_on_tame : (state : RoundState) (round : ℕ) (votes : Round) (reply : Reply) (w : Waiting) (key : List ℕ) (l : Leader) → Tames (goes_on_checking state round votes reply w key l)
goes_on_tame Open round votes reply w key l = calm refl refl tt refl
goes_on_tame Met round votes reply w key l = calm refl refl tt refl
goes_on_tame AllAnswered round votes reply w key l = calm refl refl tt refl

stood_tame : (w : Option Waiting) (stage : Stage) (from : ℕ) (ballot : Epoch) (round : ℕ) (key : List ℕ) (l : Leader) → Tames (stood w stage from ballot round key l)
stood_tame (Some w) (stages.Checking asked_in votes reply) from ballot round key l =
    by_test Tames (counts ballot round asked_in l) _ _ (λ own. goes_on_tame (state_of (heard_from from votes)) asked_in (heard_from from votes) reply w key l) (λ other. calm refl refl tt refl)
stood_tame call stage from ballot round key l = calm refl refl tt refl

stood_at_tame : (key : Option (List ℕ)) (from : ℕ) (ballot : Epoch) (round : ℕ) (l : Leader) → Tames (stood_at key from ballot round l)
stood_at_tame None from ballot round l = calm refl refl tt refl
stood_at_tame (Some key) from ballot round l = stood_tame (running key l.table.calls) (row_at key l.table.rows).stage from ballot round key l

-- the rule for a reply to a check is tame
pub tame_stands : (from : ℕ) (ballot : Epoch) (round : ℕ) (l : Leader) → IsTame (row_33_reply from ballot round l).1
tame_stands from ballot round l = stood_at_tame (check_at round l.table.checks) from ballot round l

applied_tame : (w : Option Waiting) (task : Pending) (key : List ℕ) (l : Leader) → Tames (applied_for w task key l)
applied_tame (Some w) (tasks.Apply current) key l = concluded_tame (verdict_of (outcome w.command (register_at current))) w key l
applied_tame call task key l = calm refl refl tt refl

-- rule 34 is tame
pub tame_34 : (key : List ℕ) (l : Leader) → IsTame (row_34 key l).1
tame_34 key l = applied_tame (running key l.table.calls) l.task key (with_task tasks.Nothing l)

-- ## Rule 35

write_settled_tame : (w : Option Waiting) (o : Object) (key : List ℕ) (out : LeadOut) (l : Leader) → IsCalmOut out → Tames (write_settled w o key out l)
write_settled_tame None o key out l was = inr was
write_settled_tame (Some w) o key out l was = inr (record { leave = was.leave; own = was.own; next = tt; sends = was.sends })

settled_tame : (rewrite : Bool) (o : Object) (key : List ℕ) (out : LeadOut) (l : Leader) → IsCalmOut out → Tames (settled_for rewrite o key out l)
settled_tame true o key out l was = inr (record { leave = was.leave; own = was.own; next = tt; sends = was.sends })
settled_tame false o key out l was = write_settled_tame (running key l.table.calls) o key out l was

acknowledged_tame : (state : RoundState) (o : Object) (digest : List ℕ) (acks : Round) (rewrite : Bool) (key : List ℕ) (out : LeadOut) (l : Leader) → IsCalmOut out → Tames (acknowledged state o digest acks rewrite key out l)
acknowledged_tame Open o digest acks rewrite key out l was = inr was
acknowledged_tame Met o digest acks rewrite key out l was = settled_tame rewrite o key _ _ (record { leave = was.leave; own = was.own; next = was.next; sends = was.sends })
acknowledged_tame AllAnswered o digest acks rewrite key out l was = settled_tame rewrite o key _ _ (record { leave = was.leave; own = was.own; next = was.next; sends = was.sends })

put_tame : (task : Pending) (o : Object) (parent : Option Version) (call : Option ℕ) (digest : List ℕ) (key : List ℕ) (l : Leader) → task ≡ tasks.Propose o parent call → IsObject o → Tames (put_for task (seens.Stored digest) key l)
put_tame task o parent call digest key l is object = subst (λ (t : Pending). Tames (put_for t (seens.Stored digest) key l)) (sym is)
    (acknowledged_tame (state_of (begun l.fact.views l.me)) o digest (begun l.fact.views l.me) _ key _ l (record { leave = refl; own = refl; next = tt; sends = tells l (messages.Put l.fact.epoch o) object }))

-- after the leader's own peer has stored the object
pub tame_35 : (o : Object) (parent : Option Version) (call : Option ℕ) (digest : List ℕ) (key : List ℕ) (l : Leader) → l.task ≡ tasks.Propose o parent call → IsObject o → IsTame (row_35 key (seens.Stored digest) l).1
tame_35 o parent call digest key l is object = put_tame l.task o parent call digest key (with_task tasks.Nothing l) is object

-- or after it found the path of its key damaged
pub broken_35 : (at : Position) (o : Object) (parent : Option Version) (call : Option ℕ) (key : List ℕ) (l : Leader) → l.task ≡ tasks.Propose o parent call → IsDamage (row_35 key (seens.Damaged at) l)
broken_35 at o parent call key l is = subst (λ (t : Pending). IsDamage (put_for t (seens.Damaged at) key (with_task tasks.Nothing l))) (sym is) (damaged (with_task tasks.Nothing l))

acknowledged_by_tame : (stage : Stage) (from : ℕ) (ballot : Epoch) (version : Version) (key : List ℕ) (l : Leader) → Tames (acknowledged_by stage from ballot version key l)
acknowledged_by_tame (stages.Putting o digest acks rewrite) from ballot version key l =
    by_test Tames (is_same ballot l.fact.epoch && same_version version o.version) _ _
    (λ own. acknowledged_tame (state_of (heard_from from acks)) o digest (heard_from from acks) rewrite key rests l (record { leave = refl; own = refl; next = tt; sends = All-nil AskFits }))
    (λ other. calm refl refl tt refl)
acknowledged_by_tame stage from ballot version key l = calm refl refl tt refl

-- the rule for a reply to a put is tame
pub tame_put : (from : ℕ) (ballot : Epoch) (key : List ℕ) (version : Version) (l : Leader) → IsTame (row_35_reply from ballot key version l).1
tame_put from ballot key version l = acknowledged_by_tame (row_at key l.table.rows).stage from ballot version key l

-- ## A tick

timed_out_tame : (ds : List DueCall) (o : LeadOut) → IsCalmOut o → IsTame (timed_out ds o)
timed_out_tame [] o was = inr was
timed_out_tame (d ∷ ds) o was = with_key d.running (and_answer d.from d.id replies.Timeout o) (record { leave = was.leave; own = was.own; next = was.next; sends = was.sends }) (timed_out_tame ds)
  where
    with_key : (key : Option (List ℕ)) (p : LeadOut) → IsCalmOut p → ((q : LeadOut) → IsCalmOut q → IsTame (timed_out ds q)) → IsTame (timed_out ds (and_key_if key p))
    with_key None p calm_out rest = rest p calm_out
    with_key (Some key) p calm_out rest = rest (and_key key p) (record { leave = calm_out.leave; own = calm_out.own; next = calm_out.next; sends = calm_out.sends })

-- the part of rule 5 that answers calls is tame
pub tame_5 : (finishing : Finishing) (l : Leader) → IsTame (row_5_calls finishing l).1
tame_5 finishing l =
    by_test Tames (late_put (aged l.table) || is_late finishing) _ _
    (λ late. inl refl)
    (λ on_time. timed_out_tame (due (aged l.table).calls) (comes (thens.OnKeys key_rules.StartNextCall)) (record { leave = refl; own = refl; next = tt; sends = All-nil AskFits }))
