-- Rules 29, 30, 33 and 34: rounds of reading and of checking, and what follows.
use Rattle.std.specs.Prelude.{ℕ, ◌+◌, ◌==◌, ◌&&◌, Bool, if◌then◌else◌, Option, Some, None, List}
use Rattle.ens_base.specs.declared.epoch.Epoch.{Epoch}
use Rattle.ens_base.specs.declared.entry.Entry.{Entry}
use Rattle.ens_base.specs.declared.reply.Reply.{Reply}
use Rattle.ens_base.specs.declared.reply.Reply.TheVariants as replies
use Rattle.leader_output.specs.ObjectCommands.{Object, register_of, verdict_of, blind_verdict, Verdict}
use Rattle.phase_rows.specs.Orders.{is_same}
use Rattle.quorums.specs.Rounds.{begun, answered as heard_from, state_of}
use Rattle.quorums.specs.declared.round.Round.{Round}
use Rattle.quorums.specs.declared.round.RoundState.{RoundState}
use Rattle.quorums.specs.declared.round.RoundState.TheVariants.{Open, AllAnswered}
use Rattle.register_model.specs.Registers.{outcome}
use Rattle.register_model.specs.declared.register.Register.{Register}
use Rattle.register_model.specs.declared.register.Register.TheVariants as registers
use Rattle.phase_rows.specs.WireFrames.{Get, Check}
use Rattle.phase_rows.specs.declared.phase.Seen.{Seen}
use Rattle.phase_rows.specs.declared.phase.Seen.TheVariants as seens
use Rattle.phase_rows.specs.declared.phase.Then.TheVariants.{Untrust}
use Rattle.phase_rows.specs.declared.rules.KeyRule.TheVariants as key_rules
use Rattle.call_table.specs.Best.{better}
use Rattle.call_table.specs.Calls.{running}
use Rattle.call_table.specs.Rows.{row_at, check_at, with_check}
use Rattle.call_table.specs.declared.row.Found.{Found}
use Rattle.call_table.specs.declared.row.Known.TheVariants as knowns
use Rattle.call_table.specs.declared.row.Stage.{Stage}
use Rattle.call_table.specs.declared.row.Stage.TheVariants as stages
use Rattle.call_table.specs.declared.waiting.Waiting.{Waiting}
use Rattle.leader_output.specs.Outs.{rests, comes, leaves, leads_on, and_own}
use Rattle.leader_output.specs.Sends.{tells_all}
use Rattle.leader_output.specs.declared.out.LeadOut.{LeadOut}
use Rattle.leader_output.specs.declared.out.Own.TheVariants.{Look}
use Rattle.leader.specs.Leaders.{idle, with_task, knows, stands, settled_as, answered, read_answered, decided, concluded, is_spent}
use Rattle.leader.specs.declared.leader.Leader.{Leader}
use Rattle.leader.specs.declared.pending.Pending.{Pending}
use Rattle.leader.specs.declared.pending.Pending.TheVariants as tasks

-- whether a reply with this ballot and round is of the leader's epoch and answers the question of round `asked`
abbrev pub counts : Epoch → ℕ → ℕ → Leader → Bool
counts ballot round asked l = is_same ballot l.fact.epoch && round == asked

-- the peer's own tree and backend reply first, and then the other members are asked
abbrev pub asked : Seen → List ℕ → Leader → Leader × LeadOut
asked seens.Nothing key l = if is_spent l.round then (l, leaves) else (record l { round = l.round + 1 }, and_own (Look key) rests)
asked (seens.Damaged at) key l = (l, comes Untrust)
asked (seens.Held entry object) key l =
    (stands key (stages.Reading l.round (begun l.fact.views l.me) (better None entry object)) l, tells_all l.me l.fact.views (Get l.fact.epoch l.round key) (leads_on key_rules.EnoughReplies key))
asked seen key l = idle l

abbrev pub asked_for : Option Waiting → Seen → List ℕ → Leader → Leader × LeadOut
asked_for None seen key l = idle l
asked_for (Some w) seen key l = asked seen key l

-- rule 29: the key is read in a new round
abbrev pub row_29 : List ℕ → Seen → Leader → Leader × LeadOut
row_29 key seen l = asked_for (running key l.table.calls) seen key l

abbrev pub heard : Stage → ℕ → Epoch → ℕ → List ℕ → Option Entry → Option Object → Leader → Leader × LeadOut
heard (stages.Reading asked votes best) from ballot round key entry object l =
    if counts ballot round asked l then (stands key (stages.Reading asked (heard_from from votes) (better best entry object)) l, leads_on key_rules.EnoughReplies key) else idle l
heard stage from ballot round key entry object l = idle l

-- rule 29, GetReply: it counts if it names the epoch and the round in which the key is read
abbrev pub row_29_reply : ℕ → Epoch → ℕ → List ℕ → Option Entry → Option Object → Leader → Leader × LeadOut
row_29_reply from ballot round key entry object l = heard (row_at key l.table.rows).stage from ballot round key entry object l

-- no reply had the object of the greatest entry: once every member has replied, the answer is `lost`
abbrev pub without_object : RoundState → Waiting → List ℕ → Leader → Leader × LeadOut
without_object AllAnswered w key l = answered w replies.Lost key rests l
without_object state w key l = idle l

-- an object of this epoch is settled, and one of an earlier epoch is rewritten
abbrev pub on_found : Option Object → RoundState → Entry → Waiting → List ℕ → Leader → Leader × LeadOut
on_found None state u w key l = without_object state w key l
on_found (Some o) state u w key l =
    if is_same u.version.epoch l.fact.epoch then (with_task (tasks.Apply (Some o)) (knows key (settled_as u.version o u.digest) l), leads_on key_rules.Apply key)
    else (with_task (tasks.Rewrite o) l, leads_on key_rules.Rewrite key)

-- an overwrite or a delete is decided without the object; any other command needs it
abbrev pub on_greatest : Option Verdict → RoundState → Found → Waiting → List ℕ → Leader → Leader × LeadOut
on_greatest (Some verdict) state u w key l = decided (Some u.entry.version) verdict key l
on_greatest None state u w key l = on_found u.object state u.entry w key l

-- what a quorum of replies shows: without an entry the key is absent
abbrev pub on_best : Option Found → RoundState → Waiting → List ℕ → Leader → Leader × LeadOut
on_best None state w key l = (with_task (tasks.Apply None) (knows key knowns.Absent l), leads_on key_rules.Apply key)
on_best (Some u) state w key l = on_greatest (blind_verdict w.command) state u w key l

abbrev pub by_state : RoundState → Option Found → Waiting → List ℕ → Leader → Leader × LeadOut
by_state Open best w key l = idle l
by_state state best w key l = on_best best state w key l

abbrev pub gathered : Stage → Waiting → List ℕ → Leader → Leader × LeadOut
gathered (stages.Reading round votes best) w key l = by_state (state_of votes) best w key l
gathered stage w key l = idle l

abbrev pub gathered_for : Option Waiting → List ℕ → Leader → Leader × LeadOut
gathered_for None key l = idle l
gathered_for (Some w) key l = gathered (row_at key l.table.rows).stage w key l

-- rule 30: the replies of a round of reading are evaluated
abbrev pub row_30 : List ℕ → Leader → Leader × LeadOut
row_30 key l = gathered_for (running key l.table.calls) key l

-- a check waits until a quorum has replied, and then gives its reply
abbrev pub begins_check : RoundState → Round → Reply → Waiting → List ℕ → LeadOut → Leader → Leader × LeadOut
begins_check Open votes reply w key out l =
    let m = stands key (stages.Checking l.round votes reply) l in (record m { table = record m.table { checks = with_check l.round key m.table.checks } }, out)
begins_check state votes reply w key out l = read_answered w reply key out l

-- the members are asked, in the leader's present round, whether they are still at the epoch
abbrev pub check_now : Reply → Waiting → List ℕ → Leader → Leader × LeadOut
check_now reply w key l =
    let votes = begun l.fact.views l.me in begins_check (state_of votes) votes reply w key (tells_all l.me l.fact.views (Check l.fact.epoch l.round) rests) l

abbrev pub checked_for : Option Waiting → Pending → List ℕ → Leader → Leader × LeadOut
checked_for (Some w) (tasks.Check reply) key l = if is_spent l.round then (l, leaves) else check_now reply w key (record l { round = l.round + 1 })
checked_for call task key l = idle l

-- rule 33: a check in a new round, before a reply is given without a round of reading
abbrev pub row_33 : List ℕ → Leader → Leader × LeadOut
row_33 key l = checked_for (running key l.table.calls) l.task key (with_task tasks.Nothing l)

abbrev pub goes_on_checking : RoundState → ℕ → Round → Reply → Waiting → List ℕ → Leader → Leader × LeadOut
goes_on_checking Open round votes reply w key l = (stands key (stages.Checking round votes reply) l, rests)
goes_on_checking state round votes reply w key l = read_answered w reply key rests l

abbrev pub stood : Option Waiting → Stage → ℕ → Epoch → ℕ → List ℕ → Leader → Leader × LeadOut
stood (Some w) (stages.Checking asked votes reply) from ballot round key l =
    if counts ballot round asked l then goes_on_checking (state_of (heard_from from votes)) asked (heard_from from votes) reply w key l else idle l
stood call stage from ballot round key l = idle l

abbrev pub stood_at : Option (List ℕ) → ℕ → Epoch → ℕ → Leader → Leader × LeadOut
stood_at None from ballot round l = idle l
stood_at (Some key) from ballot round l = stood (running key l.table.calls) (row_at key l.table.rows).stage from ballot round key l

-- rule 33, CheckReply: it counts if it names the epoch and a round in which a running call checks
abbrev pub row_33_reply : ℕ → Epoch → ℕ → Leader → Leader × LeadOut
row_33_reply from ballot round l = stood_at (check_at round l.table.checks) from ballot round l

-- the register of a settled object; without an object it is absent
abbrev pub register_at : Option Object → Register
register_at None = registers.Absent
register_at (Some o) = register_of o

abbrev pub applied_for : Option Waiting → Pending → List ℕ → Leader → Leader × LeadOut
applied_for (Some w) (tasks.Apply current) key l = concluded (verdict_of (outcome w.command (register_at current))) w key l
applied_for call task key l = idle l

-- rule 34: the command of the running call is applied to the settled object
abbrev pub row_34 : List ℕ → Leader → Leader × LeadOut
row_34 key l = applied_for (running key l.table.calls) l.task key (with_task tasks.Nothing l)
