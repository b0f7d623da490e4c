-- Rule 5: a tick of a leader. And the answers of a leader that steps down.
use Rattle.std.specs.Prelude.{ℕ, zero, suc, ◌+◌, ◌&&◌, ◌||◌, nat_le, Bool, true, false, is_none, map, if◌then◌else◌, Option, Some, None, List, [], ◌∷◌, ◌++◌}
use Rattle.ens_base.specs.PeerSet.{holds}
use Rattle.ens_base.specs.declared.reply.Reply.TheVariants as replies
use Rattle.phase_rows.specs.StoredFormats.{Fact}
use Rattle.phase_rows.specs.Orders.{is_joint}
use Rattle.phase_rows.specs.WireFrames.{Message, NewEpoch, Commit, Beat}
use Rattle.phase_rows.specs.declared.phase.Then.{Then}
use Rattle.phase_rows.specs.declared.phase.Then.TheVariants.{Stay, Rule, OnKeys}
use Rattle.phase_rows.specs.declared.rules.KeyRule.TheVariants as key_rules
use Rattle.phase_rows.specs.declared.rules.PhaseRule.TheVariants as phase_rules
use Rattle.call_table.specs.Calls.{older, due}
use Rattle.call_table.specs.Tables.{late_put, without_due}
use Rattle.call_table.specs.declared.table.CallTable.{CallTable}
use Rattle.call_table.specs.declared.waiting.DueCall.{DueCall}
use Rattle.call_table.specs.declared.waiting.Waiting.{Waiting}
use Rattle.leader_output.specs.Outs.{comes, leaves, and_answer, and_key}
use Rattle.leader_output.specs.Sends.{is_other}
use Rattle.leader_output.specs.declared.out.AnswerOut.{AnswerOut}
use Rattle.leader_output.specs.declared.out.LeadOut.{LeadOut}
use Rattle.leader_output.specs.declared.out.Outgoing.{Outgoing}
use Rattle.leader.specs.declared.leader.Leader.{Leader}

-- of a change being finished: the peers that accepted it, and its age in ticks
abbrev pub Finishing : Type 0
Finishing = Option (List Bool × ℕ)

-- whether the change has reached age 8
abbrev pub is_late : Finishing → Bool
is_late None = false
is_late (Some finishing) = nat_le 8 finishing.1

abbrev pub and_key_if : Option (List ℕ) → LeadOut → LeadOut
and_key_if None o = o
and_key_if (Some key) o = and_key key o

-- each of these calls is answered `timeout`; the keys whose running call is among them start their next call
abbrev pub timed_out : List DueCall → LeadOut → LeadOut
timed_out [] o = o
timed_out (d ∷ ds) o = timed_out ds (and_key_if d.running (and_answer d.from d.id replies.Timeout o))

-- the age of each call rises by 1
abbrev pub aged : CallTable → CallTable
aged t = record t { calls = map older t.calls }

abbrev pub after_ages : Finishing → Leader → Leader × LeadOut
after_ages finishing l =
    if late_put l.table || is_late finishing then (l, leaves)
    else (record l { table = without_due l.table }, timed_out (due l.table.calls) (comes (OnKeys key_rules.StartNextCall)))

-- rule 5, the calls: if a put or the change is late, the leader steps down; otherwise the calls that are due are answered `timeout`
abbrev pub row_5_calls : Finishing → Leader → Leader × LeadOut
row_5_calls finishing l = after_ages finishing (record l { table = aged l.table })

-- the tick message to a member that accepted the epoch
abbrev pub finishing_message : Finishing → Fact → Leader → ℕ → Message
finishing_message None fact l p = Beat l.fact.epoch
finishing_message (Some finishing) fact l p = if holds finishing.0 p then Beat l.fact.epoch else Commit fact

-- the tick message to a member
abbrev pub tick_message : Finishing → Fact → Leader → ℕ → Message
tick_message finishing fact l p = if holds l.accepts p then finishing_message finishing fact l p else NewEpoch l.fact

-- the tick messages to the other members from 1 up to this number, ascending
unfoldable pub ticks_up_to : Finishing → Fact → Leader → ℕ → List Outgoing
ticks_up_to finishing fact l zero = []
ticks_up_to finishing fact l (suc n) =
    ticks_up_to finishing fact l n ++ (if is_other l.me l.fact.views (n + 1) then record { to = n + 1; message = tick_message finishing fact l (n + 1) } ∷ [] else [])

-- whether an epoch of two views is to be ended, as it is unless that has begun
abbrev pub is_to_end : Finishing → Fact → Bool
is_to_end finishing first = is_none finishing && is_joint first.views

-- rule 25 ends it
abbrev pub after_tick : Finishing → Leader → Then
after_tick finishing l = if is_to_end finishing l.fact then Rule phase_rules.BeginChange else Stay

-- rule 5, the messages: each other member gets one, and a joint epoch is ended
abbrev pub row_5_rest : Finishing → Fact → Leader → LeadOut
row_5_rest finishing fact l =
    let o = comes (after_tick finishing l) in record o { sends = ticks_up_to finishing fact l 31 }

-- rule 5: the calls first, and then the rest
abbrev pub row_5 : Bool → Fact → Finishing → Leader → Leader × LeadOut
row_5 true fact finishing l = (l, row_5_rest finishing fact l)
row_5 false fact finishing l = row_5_calls finishing l

-- the answer to an unanswered call when its leader steps down
abbrev pub left_answer : Waiting → AnswerOut
left_answer w = record { caller = w.from; id = w.id; reply = replies.Timeout }
