-- Each rule on a key is a step.
use Rattle.std.specs.Prelude.{All, IsSome}
use Rattle.std.proofs.Common.{◌≡◌, ◌<◌, ◌+◌, ◌*◌, ◌∙◌, ap, sym, refl, subst, inl, inr, lit<, ℕ, Bool, true, false, length, is_none, List, [], ◌∷◌, Option, Some, None, arith}
use Rattle.std.proofs.lemmas.Bool.{true≢false}
use Rattle.ens_base.specs.declared.command.Command.{Command}
use Rattle.ens_base.specs.declared.entry.Entry.{Entry}
use Rattle.ens_base.specs.declared.epoch.Version.{Version}
use Rattle.ens_base.specs.declared.reply.Reply.{Reply}
use Rattle.ens_base.specs.declared.reply.Reply.TheVariants as replies
use Rattle.stored_formats.specs.declared.object.Object.{Object}
use Rattle.leader.specs.ObjectCommands.{matching}
use Rattle.object_commands.specs.Commands.{register_of, verdict_of, stamp_verdict, blind_verdict}
use Rattle.object_commands.specs.declared.verdict.Verdict.{Verdict}
use Rattle.object_commands.specs.declared.verdict.Verdict.TheVariants.{Answer, Write}
use Rattle.phase_rows.specs.Orders.{is_same}
use Rattle.quorums.specs.Rounds.{begun, state_of}
use Rattle.quorums.specs.declared.round.Round.{Round}
use Rattle.quorums.specs.declared.round.RoundState.{RoundState}
use Rattle.quorums.specs.declared.round.RoundState.TheVariants.{Open, Met, AllAnswered}
use Rattle.register_model.specs.Registers.{outcome}
use Rattle.register_model.specs.declared.note.Note.{Note}
use Rattle.register_model.specs.declared.note.Note.TheVariants.{Proposed, Settled, Read}
use Rattle.register_model.specs.declared.register.Register.TheVariants as registers
use Rattle.wire_frames.specs.declared.message.Message.TheVariants as messages
use Rattle.phase_rows.specs.declared.phase.Seen.{Seen}
use Rattle.phase_rows.specs.declared.phase.Seen.TheVariants as seens
use Rattle.phase_rows.specs.declared.phase.Then.TheVariants.{Stay, OnKeys}
use Rattle.phase_rows.specs.declared.rules.KeyRule.{KeyRule}
use Rattle.phase_rows.specs.declared.rules.KeyRule.TheVariants as key_rules
use Rattle.call_table.specs.Best.{better}
use Rattle.call_table.specs.Calls.{running}
use Rattle.call_table.specs.Rows.{row_at, with_check}
use Rattle.call_table.specs.declared.row.Found.{Found}
use Rattle.call_table.specs.declared.row.Known.{Known}
use Rattle.call_table.specs.declared.row.Known.TheVariants as knowns
use Rattle.call_table.specs.declared.row.Stage.{Stage}
use Rattle.call_table.specs.declared.row.Stage.TheVariants as stages
use Rattle.call_table.specs.declared.waiting.Waiting.{Waiting}
use Rattle.leader_output.specs.Outs.{leads_on}
use Rattle.leader_output.specs.Sends.{is_other, sent_up_to}
use Rattle.leader_output.specs.declared.out.LeadOut.{LeadOut}
use Rattle.leader_output.specs.declared.out.Outgoing.{Outgoing}
use Rattle.leader_output.specs.declared.out.Own.TheVariants as owns
use Rattle.leader.specs.Leaders.{with_task, knows, stands, base, settled_as, answered, read_answered, decided, concluded, is_spent, next_version}
use Rattle.leader.specs.Starts.{on_object, by_value, by_stamp, by_known, started, row_28, next_call, row_36}
use Rattle.leader.specs.Rounds.{asked, asked_for, row_29, without_object, on_found, on_greatest, on_best, by_state, gathered, gathered_for, row_30, begins_check, checked_for, row_33, register_at, applied_for, row_34}
use Rattle.leader.specs.Puts.{proposed, written_for, row_31, rewritten, row_32, write_settled, settled_for, acknowledged, put_stored, put_seen, put_for, row_35}
use Rattle.leader_laws.specs.Measure.{turns_of, turns_seen, task_turns}
use Rattle.leader_laws.specs.Steps.{MayGo, IsCause, Runs, Fits, IsReady, CountsIn, CountsInOwnViews}
use Rattle.leader.specs.declared.leader.Leader.{Leader}
use Rattle.leader.specs.declared.pending.Pending.{Pending}
use Rattle.leader.specs.declared.pending.Pending.TheVariants as tasks
use Rattle.leader_laws.proofs.Lookups.{stage_other, stages_then}
use Rattle.leader_laws.proofs.Sends.{told_may}
use Rattle.leader_laws.proofs.Votes.{begun_on}
use Rattle.leader.proofs.Cases.{either}
use Rattle.leader_laws.proofs.Moves.{OnlyPutSettles, read_settles_nothing, IsStep, IsMoved, with_task_moves, stays, knows_moves, stands_moves, moves_on, out, none_may, goes, free, IsFree, room, room_at, idle_step, leaves_step, untrust_step, answered_step, on_ready, no_task, started_by, taken, free_after, more}

-- ## Rule 28

task_less : (a size x y : ℕ) → y ≡ 0 → a < size → a * 1 + y < size + x
task_less a size x y none h = omega (arith, none, h)

fewer_still : (size : ℕ) → 3 < size → 1 < size
fewer_still size h = omega (arith, h)

task_step : (rule : KeyRule) (size : ℕ) (m : KeyRule) (key : List ℕ) (l : Leader) (task : Pending) → task_turns task ≡ 0 → turns_of m < size → (Runs key l → Fits m key (with_task task l) task)
    → IsStep rule key size (IsFree key l) l (with_task task l, leads_on m key)
task_step rule size m key l task none h fits =
    goes rule size key (IsFree key l) l (with_task task l) false [] [] None (OnKeys m) (key ∷ []) (with_task_moves key task l) (none_may l.me) refl tt tt (task_less (turns_of m) size (task_turns l.task) (task_turns task) none h) (λ before. fits before.1) (inr refl)

decided_step : (rule : KeyRule) (size : ℕ) (key : List ℕ) (l : Leader) (parent : Option Version) (verdict : Verdict) → 3 < size → IsStep rule key size (IsFree key l) l (decided parent verdict key l)
decided_step rule size key l parent (Write content) h = task_step rule size key_rules.Write key l (tasks.Write content parent) refl h (λ held. (refl, held))
decided_step rule size key l parent (Answer reply) h = task_step rule size key_rules.Check key l (tasks.Check reply) refl (fewer_still size h) (λ held. (refl, held))

reads_step : (rule : KeyRule) (size : ℕ) (key : List ℕ) (l : Leader) → 10 < size → IsStep rule key size (IsFree key l) l (l, leads_on key_rules.Read key)
reads_step rule size key l h =
    goes rule size key (IsFree key l) l l false [] [] None (OnKeys key_rules.Read) (key ∷ []) (stays key l) (none_may l.me) refl tt tt (room_at 10 size (task_turns l.task) h) (λ before. free key_rules.Read key l refl before.0) (inr refl)

on_object_step : (size : ℕ) (key : List ℕ) (l : Leader) (o : Option Object) (command : Command) → 10 < size → IsStep key_rules.StartCall key size (IsFree key l) l (on_object o command key l)
on_object_step size key l None command h = reads_step key_rules.StartCall size key l h
on_object_step size key l (Some o) command h = decided_step key_rules.StartCall size key l (base key l) (verdict_of (outcome command (register_of o))) (omega (arith, h))

by_value_step : (key : List ℕ) (l : Leader) (seen : Seen) (version : Version) (digest : List ℕ) (command : Command) → IsStep key_rules.StartCall key (turns_seen key_rules.StartCall seen) (IsFree key l) l (by_value seen version digest command key l)
by_value_step key l seens.Nothing version digest command =
    goes key_rules.StartCall 12 key (IsFree key l) l l false [] [] (Some (owns.Fetch key)) Stay [] (stays key l) (none_may l.me) refl (refl, refl) tt (room_at 11 12 (task_turns l.task) (lit< tt)) (λ before. free key_rules.StartCall key l refl before.0) (inr refl)
by_value_step key l (seens.Kept kept) version digest command = on_object_step 11 key l (matching (record { key = key; version = version; digest = digest }) kept) command (lit< tt)
by_value_step key l (seens.Damaged at) version digest command = idle_step key_rules.StartCall 11 key (IsFree key l) l (lit< tt) (λ before. before.0)
by_value_step key l (seens.Held entry object) version digest command = idle_step key_rules.StartCall 11 key (IsFree key l) l (lit< tt) (λ before. before.0)
by_value_step key l (seens.Stored d) version digest command = idle_step key_rules.StartCall 11 key (IsFree key l) l (lit< tt) (λ before. before.0)

room_28 : (seen : Seen) → 10 < turns_seen key_rules.StartCall seen
room_28 seens.Nothing = lit< tt
room_28 (seens.Kept kept) = lit< tt
room_28 (seens.Damaged at) = lit< tt
room_28 (seens.Held entry object) = lit< tt
room_28 (seens.Stored d) = lit< tt

few_28 : (seen : Seen) → 3 < turns_seen key_rules.StartCall seen
few_28 seen = omega (arith, room_28 seen)

by_stamp_step : (key : List ℕ) (l : Leader) (verdict : Option Verdict) (seen : Seen) (version : Version) (digest : List ℕ) (command : Command)
    → IsStep key_rules.StartCall key (turns_seen key_rules.StartCall seen) (IsFree key l) l (by_stamp verdict seen version digest command key l)
by_stamp_step key l (Some verdict) seen version digest command = decided_step key_rules.StartCall (turns_seen key_rules.StartCall seen) key l (base key l) verdict (few_28 seen)
by_stamp_step key l None seen version digest command = by_value_step key l seen version digest command

by_known_step : (key : List ℕ) (l : Leader) (known : Known) (seen : Seen) (command : Command) → IsStep key_rules.StartCall key (turns_seen key_rules.StartCall seen) (IsFree key l) l (by_known known seen command key l)
by_known_step key l knowns.Unknown seen command = reads_step key_rules.StartCall (turns_seen key_rules.StartCall seen) key l (room_28 seen)
by_known_step key l knowns.Absent seen command = decided_step key_rules.StartCall (turns_seen key_rules.StartCall seen) key l (base key l) (verdict_of (outcome command registers.Absent)) (few_28 seen)
by_known_step key l (knowns.Present version stamp digest true) seen command = decided_step key_rules.StartCall (turns_seen key_rules.StartCall seen) key l (base key l) (verdict_of (outcome command registers.Absent)) (few_28 seen)
by_known_step key l (knowns.Present version stamp digest false) seen command = by_stamp_step key l (stamp_verdict command stamp) seen version digest command

some_28 : (seen : Seen) → 0 < turns_seen key_rules.StartCall seen
some_28 seen = omega (arith, room_28 seen)

pub row_28_step : (key : List ℕ) (seen : Seen) (l : Leader) → IsStep key_rules.StartCall key (turns_seen key_rules.StartCall seen) (IsReady key_rules.StartCall key l) l (row_28 key seen l)
row_28_step key seen l =
    started_by key_rules.StartCall (turns_seen key_rules.StartCall seen) key l (running key l.table.calls) (λ call. started call seen key l) refl (some_28 seen) refl refl (λ w e. by_known_step key l (row_at key l.table.rows).known seen w.command)

-- ## Rule 36

pub row_36_step : (key : List ℕ) (l : Leader) → IsStep key_rules.StartNextCall key 13 (IsReady key_rules.StartNextCall key l) l (row_36 key l)
row_36_step key l = by_call (running key l.table.calls)
  where
    by_call : (call : Option Waiting) → IsStep key_rules.StartNextCall key 13 (IsReady key_rules.StartNextCall key l) l (l, next_call call key)
    by_call None = idle_step key_rules.StartNextCall 13 key (IsReady key_rules.StartNextCall key l) l (lit< tt) (λ ready. no_task key_rules.StartNextCall key l l.task refl ready)
    by_call (Some w) =
        goes key_rules.StartNextCall 13 key (IsReady key_rules.StartNextCall key l) l l false [] [] None (OnKeys key_rules.StartCall) (key ∷ []) (stays key l) (none_may l.me) refl tt tt (room_at 12 13 (task_turns l.task) (lit< tt))
        (λ ready. free key_rules.StartCall key l refl (no_task key_rules.StartNextCall key l l.task refl ready)) (inr refl)

-- ## Rule 29

round_moves : (key : List ℕ) (l : Leader) → IsMoved key l (record l { round = l.round + 1 })
round_moves key l = record { fact = refl; me = refl; accepts = refl; seq = refl; calls = refl; others = λ k off. refl; counts = λ before. before }

-- the stage of a key whose round of reading begins
abbrev asks_at : Leader → Option Entry → Option Object → Stage
asks_at l entry object = stages.Reading l.round (begun l.fact.views l.me) (better None entry object)

asked_step : (key : List ℕ) (l : Leader) (seen : Seen) → IsStep key_rules.Read key (turns_seen key_rules.Read seen) (IsFree key l) l (asked seen key l)
asked_step key l seens.Nothing = either (λ (r : Leader × LeadOut). IsStep key_rules.Read key 10 (IsFree key l) l r) (is_spent l.round) _ _ (leaves_step key_rules.Read 10 key (IsFree key l) l (lit< tt) (λ before. before.0))
    (goes key_rules.Read 10 key (IsFree key l) l (record l { round = l.round + 1 }) false [] [] (Some (owns.Look key)) Stay [] (round_moves key l) (none_may l.me) refl (refl, refl) tt (room_at 9 10 (task_turns l.task) (lit< tt))
    (λ before. free key_rules.Read key (record l { round = l.round + 1 }) refl before.0) (inr refl))
asked_step key l (seens.Damaged at) = untrust_step key_rules.Read 9 key (IsFree key l) l (lit< tt) (λ before. before.0)
asked_step key l (seens.Held entry object) =
    goes key_rules.Read 9 key (IsFree key l) l (stands key (asks_at l entry object) l) false (sent_up_to (is_other l.me l.fact.views) (messages.Get l.fact.epoch l.round key) 31) [] None (OnKeys key_rules.EnoughReplies) (key ∷ [])
    (stands_moves key (asks_at l entry object) l (λ before. tt)) (told_may l.me l.fact.views (messages.Get l.fact.epoch l.round key) tt) refl tt tt (room_at 8 9 (task_turns l.task) (lit< tt)) (λ before. free key_rules.EnoughReplies key (stands key (asks_at l entry object) l) refl before.0) (inl (λ before. before.1))
asked_step key l (seens.Kept kept) = idle_step key_rules.Read 9 key (IsFree key l) l (lit< tt) (λ before. before.0)
asked_step key l (seens.Stored d) = idle_step key_rules.Read 9 key (IsFree key l) l (lit< tt) (λ before. before.0)

some_29 : (seen : Seen) → 0 < turns_seen key_rules.Read seen
some_29 seens.Nothing = lit< tt
some_29 (seens.Kept kept) = lit< tt
some_29 (seens.Damaged at) = lit< tt
some_29 (seens.Held entry object) = lit< tt
some_29 (seens.Stored d) = lit< tt

pub row_29_step : (key : List ℕ) (seen : Seen) (l : Leader) → IsStep key_rules.Read key (turns_seen key_rules.Read seen) (IsReady key_rules.Read key l) l (row_29 key seen l)
row_29_step key seen l =
    started_by key_rules.Read (turns_seen key_rules.Read seen) key l (running key l.table.calls) (λ call. asked_for call seen key l) refl (some_29 seen) refl refl (λ w e. asked_step key l seen)

-- ## Rule 30

answer_step : (rule : KeyRule) (size : ℕ) (key : List ℕ) (l : Leader) (w : Waiting) (reply : Reply) (sends : List Outgoing) (notes : List Note)
    → running key l.table.calls ≡ Some w → All (MayGo l.me) sends → IsCause key w reply notes → OnlyPutSettles rule notes → 0 < size
    → IsStep rule key size (IsFree key l) l (answered w reply key (out false sends notes None Stay []) l)
answer_step rule size key l w reply sends notes e may cause settles some = answered_step rule size key l l w reply sends notes (stays key l) refl e may cause settles some

-- the running call is answered after a noted read
pub read_step : (rule : KeyRule) (size : ℕ) (key : List ℕ) (l : Leader) (w : Waiting) (reply : Reply) (sends : List Outgoing)
    → running key l.table.calls ≡ Some w → All (MayGo l.me) sends → 0 < size → IsStep rule key size (IsFree key l) l (read_answered w reply key (out false sends [] None Stay []) l)
read_step rule size key l w reply sends e may some = answer_step rule size key l w reply sends (Read w.id key (base key l) ∷ []) e may (refl, refl) (read_settles_nothing rule w.id key (base key l)) some

without_object_step : (key : List ℕ) (l : Leader) (w : Waiting) (state : RoundState) → running key l.table.calls ≡ Some w → IsStep key_rules.EnoughReplies key 8 (IsFree key l) l (without_object state w key l)
without_object_step key l w AllAnswered e = answer_step key_rules.EnoughReplies 8 key l w replies.Lost [] [] e (none_may l.me) refl (λ k version h. absurd h) (lit< tt)
without_object_step key l w Open e = idle_step key_rules.EnoughReplies 8 key (IsFree key l) l (lit< tt) (λ before. before.0)
without_object_step key l w Met e = idle_step key_rules.EnoughReplies 8 key (IsFree key l) l (lit< tt) (λ before. before.0)

applies_step : (key : List ℕ) (l : Leader) (known : Known) (current : Option Object) → IsStep key_rules.EnoughReplies key 8 (IsFree key l) l (with_task (tasks.Apply current) (knows key known l), leads_on key_rules.Apply key)
applies_step key l known current =
    goes key_rules.EnoughReplies 8 key (IsFree key l) l (with_task (tasks.Apply current) (knows key known l)) false [] [] None (OnKeys key_rules.Apply) (key ∷ [])
    (moves_on key l (knows key known l) (with_task (tasks.Apply current) (knows key known l)) (knows_moves key known l) (with_task_moves key (tasks.Apply current) (knows key known l)))
    (none_may l.me) refl tt tt (room 4 8 (task_turns l.task) (lit< tt)) (λ before. (refl, before.1)) (inl (λ before. before.1))

on_found_step : (key : List ℕ) (l : Leader) (w : Waiting) (state : RoundState) (o : Option Object) (u : Entry) → running key l.table.calls ≡ Some w → IsStep key_rules.EnoughReplies key 8 (IsFree key l) l (on_found o state u w key l)
on_found_step key l w state None u e = without_object_step key l w state e
on_found_step key l w state (Some o) u e = either (λ (r : Leader × LeadOut). IsStep key_rules.EnoughReplies key 8 (IsFree key l) l r) (is_same u.version.epoch l.fact.epoch) _ _
    (applies_step key l (settled_as u.version o u.digest) (Some o))
    (task_step key_rules.EnoughReplies 8 key_rules.Rewrite key l (tasks.Rewrite o) refl (lit< tt) (λ held. (refl, held)))

on_greatest_step : (key : List ℕ) (l : Leader) (w : Waiting) (state : RoundState) (verdict : Option Verdict) (u : Found) → running key l.table.calls ≡ Some w → IsStep key_rules.EnoughReplies key 8 (IsFree key l) l (on_greatest verdict state u w key l)
on_greatest_step key l w state (Some verdict) u e = decided_step key_rules.EnoughReplies 8 key l (Some u.entry.version) verdict (lit< tt)
on_greatest_step key l w state None u e = on_found_step key l w state u.object u.entry e

on_best_step : (key : List ℕ) (l : Leader) (w : Waiting) (state : RoundState) (best : Option Found) → running key l.table.calls ≡ Some w → IsStep key_rules.EnoughReplies key 8 (IsFree key l) l (on_best best state w key l)
on_best_step key l w state None e = applies_step key l knowns.Absent None
on_best_step key l w state (Some u) e = on_greatest_step key l w state (blind_verdict w.command) u e

by_state_step : (key : List ℕ) (l : Leader) (w : Waiting) (state : RoundState) (best : Option Found) → running key l.table.calls ≡ Some w → IsStep key_rules.EnoughReplies key 8 (IsFree key l) l (by_state state best w key l)
by_state_step key l w Open best e = idle_step key_rules.EnoughReplies 8 key (IsFree key l) l (lit< tt) (λ before. before.0)
by_state_step key l w Met best e = on_best_step key l w Met best e
by_state_step key l w AllAnswered best e = on_best_step key l w AllAnswered best e

gathered_step : (key : List ℕ) (l : Leader) (w : Waiting) (stage : Stage) → running key l.table.calls ≡ Some w → IsStep key_rules.EnoughReplies key 8 (IsFree key l) l (gathered stage w key l)
gathered_step key l w (stages.Reading round votes best) e = by_state_step key l w (state_of votes) best e
gathered_step key l w stages.Idle e = idle_step key_rules.EnoughReplies 8 key (IsFree key l) l (lit< tt) (λ before. before.0)
gathered_step key l w (stages.Checking round votes reply) e = idle_step key_rules.EnoughReplies 8 key (IsFree key l) l (lit< tt) (λ before. before.0)
gathered_step key l w (stages.Putting o digest acks rewrite) e = idle_step key_rules.EnoughReplies 8 key (IsFree key l) l (lit< tt) (λ before. before.0)

pub row_30_step : (key : List ℕ) (l : Leader) → IsStep key_rules.EnoughReplies key 8 (IsReady key_rules.EnoughReplies key l) l (row_30 key l)
row_30_step key l = started_by key_rules.EnoughReplies 8 key l (running key l.table.calls) (λ call. gathered_for call key l) refl (lit< tt) refl refl (λ w e. gathered_step key l w (row_at key l.table.rows).stage e)

-- ## Rule 31

proposal_less : (size a x y : ℕ) → 2 + a < size → 2 + (y + a) < size + (y + x)
proposal_less size a x y h = omega (arith, h)

next_step : (rule : KeyRule) (size : ℕ) (key : List ℕ) (l : Leader) (o : Object) (parent : Option Version) (call : Option ℕ) → 2 + task_turns (tasks.Propose o parent call) < size → o.key ≡ key → o.version ≡ next_version l
    → IsStep rule key size (IsFree key l) l (proposed o parent call key l)
next_step rule size key l o parent call h on version = record {
  fact = refl;
  me = refl;
  accepts = refl;
  others = λ k off. refl;
  sends = none_may l.me;
  names = refl;
  asks = tt;
  serves = (refl, tt);
  numbers = inr (refl, version);
  lowers = proposal_less size (task_turns (tasks.Propose o parent call)) (task_turns l.task) (13 * length l.table.calls) h;
  ready = λ before. (refl, before.1, on, version);
  kept = inr refl;
  settles = λ k own h. absurd h;
  counts = λ before. before;
}

written_for_step : (size : ℕ) (key : List ℕ) (l : Leader) (call : Option Waiting) (task : Pending) → 2 < size → IsStep key_rules.Write key size (IsFree key l) l (written_for call task key l)
written_for_step size key l None task h = idle_step key_rules.Write size key (IsFree key l) l (omega (arith, h)) (λ before. before.0)
written_for_step size key l (Some w) (tasks.Write content parent) h = either (λ (r : Leader × LeadOut). IsStep key_rules.Write key size (IsFree key l) l r) (is_spent l.seq) _ _
    (leaves_step key_rules.Write size key (IsFree key l) l (omega (arith, h)) (λ before. before.0))
    (next_step key_rules.Write size key l (record { version = next_version l; stamp = next_version l; key = key; value = content }) parent (Some w.id) h refl refl)
written_for_step size key l (Some w) tasks.Nothing h = idle_step key_rules.Write size key (IsFree key l) l (omega (arith, h)) (λ before. before.0)
written_for_step size key l (Some w) (tasks.Rewrite o) h = idle_step key_rules.Write size key (IsFree key l) l (omega (arith, h)) (λ before. before.0)
written_for_step size key l (Some w) (tasks.Check reply) h = idle_step key_rules.Write size key (IsFree key l) l (omega (arith, h)) (λ before. before.0)
written_for_step size key l (Some w) (tasks.Apply current) h = idle_step key_rules.Write size key (IsFree key l) l (omega (arith, h)) (λ before. before.0)
written_for_step size key l (Some w) (tasks.Propose o parent call) h = idle_step key_rules.Write size key (IsFree key l) l (omega (arith, h)) (λ before. before.0)

pub row_31_step : (key : List ℕ) (l : Leader) → IsStep key_rules.Write key 3 (IsReady key_rules.Write key l) l (row_31 key l)
row_31_step key l = taken key_rules.Write 3 key (IsFree key (with_task tasks.Nothing l)) (IsReady key_rules.Write key l) l (row_31 key l) (free_after key_rules.Write key l refl)
    (written_for_step (3 + task_turns l.task) key (with_task tasks.Nothing l) (running key l.table.calls) l.task (more 2 3 (task_turns l.task) (lit< tt)))

-- ## Rule 32

rewritten_step : (size : ℕ) (key : List ℕ) (l : Leader) (task : Pending) → 6 < size → IsStep key_rules.Rewrite key size (IsFree key l) l (rewritten task key l)
rewritten_step size key l (tasks.Rewrite o) h = either (λ (r : Leader × LeadOut). IsStep key_rules.Rewrite key size (IsFree key l) l r) (is_spent l.seq) _ _
    (leaves_step key_rules.Rewrite size key (IsFree key l) l (omega (arith, h)) (λ before. before.0))
    (next_step key_rules.Rewrite size key l (record { version = next_version l; stamp = o.stamp; key = key; value = o.value }) (Some o.version) None h refl refl)
rewritten_step size key l tasks.Nothing h = idle_step key_rules.Rewrite size key (IsFree key l) l (omega (arith, h)) (λ before. before.0)
rewritten_step size key l (tasks.Write content parent) h = idle_step key_rules.Rewrite size key (IsFree key l) l (omega (arith, h)) (λ before. before.0)
rewritten_step size key l (tasks.Check reply) h = idle_step key_rules.Rewrite size key (IsFree key l) l (omega (arith, h)) (λ before. before.0)
rewritten_step size key l (tasks.Apply current) h = idle_step key_rules.Rewrite size key (IsFree key l) l (omega (arith, h)) (λ before. before.0)
rewritten_step size key l (tasks.Propose o parent call) h = idle_step key_rules.Rewrite size key (IsFree key l) l (omega (arith, h)) (λ before. before.0)

pub row_32_step : (key : List ℕ) (l : Leader) → IsStep key_rules.Rewrite key 7 (IsReady key_rules.Rewrite key l) l (row_32 key l)
row_32_step key l = taken key_rules.Rewrite 7 key (IsFree key (with_task tasks.Nothing l)) (IsReady key_rules.Rewrite key l) l (row_32 key l) (free_after key_rules.Rewrite key l refl)
    (rewritten_step (7 + task_turns l.task) key (with_task tasks.Nothing l) l.task (more 6 7 (task_turns l.task) (lit< tt)))

-- ## Rule 33

-- the key checks in this round
abbrev checks_on : ℕ → List ℕ → Leader → Leader
checks_on round key l = record l { table = record l.table { checks = with_check round key l.table.checks } }

begins_check_step : (size : ℕ) (key : List ℕ) (l m : Leader) (w : Waiting) (state : RoundState) (votes : Round) (reply : Reply) → IsMoved key l m → m.task ≡ l.task → running key l.table.calls ≡ Some w → 0 < size
    → IsStep key_rules.Check key size (IsFree key l) l (begins_check state votes reply w key (out false (sent_up_to (is_other l.me l.fact.views) (messages.Check l.fact.epoch m.round) 31) [] None Stay []) m)
begins_check_step size key l m w Open votes reply moved task e some =
    goes key_rules.Check size key (IsFree key l) l (checks_on m.round key (stands key (stages.Checking m.round votes reply) m)) false (sent_up_to (is_other l.me l.fact.views) (messages.Check l.fact.epoch m.round) 31) [] None Stay []
    (moves_on key l m (checks_on m.round key (stands key (stages.Checking m.round votes reply) m)) moved
    (record { fact = refl; me = refl; accepts = refl; seq = refl; calls = refl; others = λ k off. stage_other key k (stages.Checking m.round votes reply) m.table.rows off; counts = λ before k. stages_then (CountsIn m.fact.views) key k (stages.Checking m.round votes reply) m.table.rows tt (before k) }))
    (told_may l.me l.fact.views (messages.Check l.fact.epoch m.round) tt) refl tt tt (less (ap task_turns task)) (λ before. task ∙ before.0) (inl (λ before. before.1))
  where
    less : task_turns m.task ≡ task_turns l.task → 0 + task_turns m.task < size + task_turns l.task
    less same = omega (arith, same, some)
begins_check_step size key l m w Met votes reply moved task e some =
    answered_step key_rules.Check size key l m w reply (sent_up_to (is_other l.me l.fact.views) (messages.Check l.fact.epoch m.round) 31) (Read w.id key (base key m) ∷ []) moved task e (told_may l.me l.fact.views (messages.Check l.fact.epoch m.round) tt) (refl, refl) (read_settles_nothing key_rules.Check w.id key (base key m)) some
begins_check_step size key l m w AllAnswered votes reply moved task e some =
    answered_step key_rules.Check size key l m w reply (sent_up_to (is_other l.me l.fact.views) (messages.Check l.fact.epoch m.round) 31) (Read w.id key (base key m) ∷ []) moved task e (told_may l.me l.fact.views (messages.Check l.fact.epoch m.round) tt) (refl, refl) (read_settles_nothing key_rules.Check w.id key (base key m)) some

checked_for_step : (size : ℕ) (key : List ℕ) (l : Leader) (call : Option Waiting) (task : Pending) → running key l.table.calls ≡ call → 0 < size → IsStep key_rules.Check key size (IsFree key l) l (checked_for call task key l)
checked_for_step size key l None task e some = idle_step key_rules.Check size key (IsFree key l) l some (λ before. before.0)
checked_for_step size key l (Some w) (tasks.Check reply) e some = either (λ (r : Leader × LeadOut). IsStep key_rules.Check key size (IsFree key l) l r) (is_spent l.round) _ _
    (leaves_step key_rules.Check size key (IsFree key l) l some (λ before. before.0))
    (begins_check_step size key l (record l { round = l.round + 1 }) w (state_of (begun l.fact.views l.me)) (begun l.fact.views l.me) reply (round_moves key l) refl e some)
checked_for_step size key l (Some w) tasks.Nothing e some = idle_step key_rules.Check size key (IsFree key l) l some (λ before. before.0)
checked_for_step size key l (Some w) (tasks.Write content parent) e some = idle_step key_rules.Check size key (IsFree key l) l some (λ before. before.0)
checked_for_step size key l (Some w) (tasks.Rewrite o) e some = idle_step key_rules.Check size key (IsFree key l) l some (λ before. before.0)
checked_for_step size key l (Some w) (tasks.Apply current) e some = idle_step key_rules.Check size key (IsFree key l) l some (λ before. before.0)
checked_for_step size key l (Some w) (tasks.Propose o parent call) e some = idle_step key_rules.Check size key (IsFree key l) l some (λ before. before.0)

pub row_33_step : (key : List ℕ) (l : Leader) → IsStep key_rules.Check key 1 (IsReady key_rules.Check key l) l (row_33 key l)
row_33_step key l = taken key_rules.Check 1 key (IsFree key (with_task tasks.Nothing l)) (IsReady key_rules.Check key l) l (row_33 key l) (free_after key_rules.Check key l refl)
    (checked_for_step (1 + task_turns l.task) key (with_task tasks.Nothing l) (running key l.table.calls) l.task refl (more 0 1 (task_turns l.task) (lit< tt)))

-- ## Rule 34

concluded_step : (size : ℕ) (key : List ℕ) (l : Leader) (w : Waiting) (verdict : Verdict) → running key l.table.calls ≡ Some w → 3 < size → IsStep key_rules.Apply key size (IsFree key l) l (concluded verdict w key l)
concluded_step size key l w (Write content) e h = task_step key_rules.Apply size key_rules.Write key l (tasks.Write content (base key l)) refl h (λ held. (refl, held))
concluded_step size key l w (Answer reply) e h = read_step key_rules.Apply size key l w reply [] e (none_may l.me) (omega (arith, h))

applied_for_step : (size : ℕ) (key : List ℕ) (l : Leader) (call : Option Waiting) (task : Pending) → running key l.table.calls ≡ call → 3 < size → IsStep key_rules.Apply key size (IsFree key l) l (applied_for call task key l)
applied_for_step size key l None task e h = idle_step key_rules.Apply size key (IsFree key l) l (omega (arith, h)) (λ before. before.0)
applied_for_step size key l (Some w) (tasks.Apply current) e h = concluded_step size key l w (verdict_of (outcome w.command (register_at current))) e h
applied_for_step size key l (Some w) tasks.Nothing e h = idle_step key_rules.Apply size key (IsFree key l) l (omega (arith, h)) (λ before. before.0)
applied_for_step size key l (Some w) (tasks.Write content parent) e h = idle_step key_rules.Apply size key (IsFree key l) l (omega (arith, h)) (λ before. before.0)
applied_for_step size key l (Some w) (tasks.Rewrite o) e h = idle_step key_rules.Apply size key (IsFree key l) l (omega (arith, h)) (λ before. before.0)
applied_for_step size key l (Some w) (tasks.Check reply) e h = idle_step key_rules.Apply size key (IsFree key l) l (omega (arith, h)) (λ before. before.0)
applied_for_step size key l (Some w) (tasks.Propose o parent call) e h = idle_step key_rules.Apply size key (IsFree key l) l (omega (arith, h)) (λ before. before.0)

pub row_34_step : (key : List ℕ) (l : Leader) → IsStep key_rules.Apply key 4 (IsReady key_rules.Apply key l) l (row_34 key l)
row_34_step key l = taken key_rules.Apply 4 key (IsFree key (with_task tasks.Nothing l)) (IsReady key_rules.Apply key l) l (row_34 key l) (free_after key_rules.Apply key l refl)
    (applied_for_step (4 + task_turns l.task) key (with_task tasks.Nothing l) (running key l.table.calls) l.task refl (more 3 4 (task_turns l.task) (lit< tt)))

-- ## Rule 35

write_settled_step : (size : ℕ) (key : List ℕ) (l m : Leader) (call : Option Waiting) (o : Object) (version : Version) (sends : List Outgoing) → IsMoved key l m → m.task ≡ l.task → running key l.table.calls ≡ call → All (MayGo l.me) sends → 0 < size
    → IsStep key_rules.Put key size (IsFree key l) l (write_settled call o key (out false sends (Settled key version ∷ []) None Stay []) m)
write_settled_step size key l m None o version sends moved task e may some =
    goes key_rules.Put size key (IsFree key l) l m false sends (Settled key version ∷ []) None Stay [] moved may refl tt (refl, refl) (less (ap task_turns task)) (λ before. task ∙ before.0) (inl (λ before. before.1))
  where
    less : task_turns m.task ≡ task_turns l.task → 0 + task_turns m.task < size + task_turns l.task
    less same = omega (arith, same, some)
write_settled_step size key l m (Some w) o version sends moved task e may some =
    answered_step key_rules.Put size key l m w (replies.Ok o.stamp) sends (Settled key version ∷ []) moved task e may (refl, o.stamp, refl) (λ k settled h. refl) some

settled_for_step : (size : ℕ) (key : List ℕ) (l m : Leader) (rewrite : Bool) (o : Object) (version : Version) (sends : List Outgoing) → IsMoved key l m → m.task ≡ l.task → All (MayGo l.me) sends → (rewrite ≡ true → 4 < size) → 0 < size
    → IsStep key_rules.Put key size (IsFree key l) l (settled_for rewrite o key (out false sends (Settled key version ∷ []) None Stay []) m)
settled_for_step size key l m true o version sends moved task may high some =
    goes key_rules.Put size key (IsFree key l) l (with_task (tasks.Apply (Some o)) (stands key stages.Idle m)) false sends (Settled key version ∷ []) None (OnKeys key_rules.Apply) (key ∷ [])
    (moves_on key l m (with_task (tasks.Apply (Some o)) (stands key stages.Idle m)) moved (record { fact = refl; me = refl; accepts = refl; seq = refl; calls = refl; others = λ k off. stage_other key k stages.Idle m.table.rows off; counts = λ before k. stages_then (CountsIn m.fact.views) key k stages.Idle m.table.rows tt (before k) }))
    may refl tt (refl, refl) (room 4 size (task_turns l.task) (high refl)) (λ before. (refl, subst (λ (cs : List Waiting). IsSome (running key cs)) (sym moved.calls) before.1)) (inl (λ before. before.1))
settled_for_step size key l m false o version sends moved task may high some =
    write_settled_step size key l m (running key m.table.calls) o version sends moved task (ap (running key) (sym moved.calls)) may some

pub acknowledged_step : (size : ℕ) (key : List ℕ) (l : Leader) (state : RoundState) (o : Object) (digest : List ℕ) (acks : Round) (rewrite : Bool) (sends : List Outgoing) → (CountsInOwnViews l → acks.tally.views ≡ l.fact.views) → All (MayGo l.me) sends → (rewrite ≡ true → 4 < size) → 0 < size
    → IsStep key_rules.Put key size (IsFree key l) l (acknowledged state o digest acks rewrite key (out false sends [] None Stay []) l)
acknowledged_step size key l Open o digest acks rewrite sends on may high some =
    goes key_rules.Put size key (IsFree key l) l (stands key (stages.Putting o digest acks rewrite) l) false sends [] None Stay [] (stands_moves key (stages.Putting o digest acks rewrite) l on) may refl tt tt
    (room_at 0 size (task_turns l.task) some) (λ before. before.0) (inl (λ before. before.1))
acknowledged_step size key l Met o digest acks rewrite sends on may high some =
    settled_for_step size key l (knows key (settled_as o.version o digest) l) rewrite o o.version sends (knows_moves key (settled_as o.version o digest) l) refl may high some
acknowledged_step size key l AllAnswered o digest acks rewrite sends on may high some =
    settled_for_step size key l (knows key (settled_as o.version o digest) l) rewrite o o.version sends (knows_moves key (settled_as o.version o digest) l) refl may high some

put_stored_step : (size : ℕ) (key : List ℕ) (l : Leader) (o : Object) (digest : List ℕ) (rewrite : Bool) → (rewrite ≡ true → 4 < size) → 0 < size → IsStep key_rules.Put key size (IsFree key l) l (put_stored o digest rewrite key l)
put_stored_step size key l o digest rewrite high some =
    acknowledged_step size key l (state_of (begun l.fact.views l.me)) o digest (begun l.fact.views l.me) rewrite (sent_up_to (is_other l.me l.fact.views) (messages.Put l.fact.epoch o) 31)
    (λ before. begun_on l.fact.views l.me) (told_may l.me l.fact.views (messages.Put l.fact.epoch o) tt) high some

high_for : (o : Object) (parent : Option Version) (call : Option ℕ) → is_none call ≡ true → 4 < 1 + task_turns (tasks.Propose o parent call)
high_for o parent None e = lit< tt
high_for o parent (Some id) e = absurd (true≢false (sym e))

one_less : (x y : ℕ) → 1 + x < 2 + x + y
one_less x y = omega arith

one_more : (x : ℕ) → 0 < 1 + x
one_more x = omega arith

put_seen_step : (key : List ℕ) (l : Leader) (seen : Seen) (o : Object) (parent : Option Version) (call : Option ℕ)
    → IsStep key_rules.Put key (turns_seen key_rules.Put seen + task_turns (tasks.Propose o parent call)) (IsFree key l × Fits key_rules.Put key l (tasks.Propose o parent call)) l (put_seen seen o parent call key l)
put_seen_step key l seens.Nothing o parent call =
    goes key_rules.Put (2 + task_turns (tasks.Propose o parent call)) key (IsFree key l × Fits key_rules.Put key l (tasks.Propose o parent call)) l (with_task (tasks.Propose o parent call) l) false [] (Proposed key o.version parent call ∷ []) (Some (owns.Put o)) Stay []
    (with_task_moves key (tasks.Propose o parent call) l) (none_may l.me) refl refl refl (one_less (task_turns (tasks.Propose o parent call)) (task_turns l.task)) (λ before. before.1) (inr refl)
put_seen_step key l (seens.Damaged at) o parent call = untrust_step key_rules.Put (1 + task_turns (tasks.Propose o parent call)) key (IsFree key l × Fits key_rules.Put key l (tasks.Propose o parent call)) l (one_more (task_turns (tasks.Propose o parent call))) (λ before. before.0.0)
put_seen_step key l (seens.Stored digest) o parent call =
    on_ready key_rules.Put (1 + task_turns (tasks.Propose o parent call)) key (IsFree key l) (IsFree key l × Fits key_rules.Put key l (tasks.Propose o parent call)) l (put_stored o digest (is_none call) key l) (λ before. before.0)
    (put_stored_step (1 + task_turns (tasks.Propose o parent call)) key l o digest (is_none call) (high_for o parent call) (one_more (task_turns (tasks.Propose o parent call))))
put_seen_step key l (seens.Held entry object) o parent call = idle_step key_rules.Put (1 + task_turns (tasks.Propose o parent call)) key (IsFree key l × Fits key_rules.Put key l (tasks.Propose o parent call)) l (one_more (task_turns (tasks.Propose o parent call))) (λ before. before.0.0)
put_seen_step key l (seens.Kept kept) o parent call = idle_step key_rules.Put (1 + task_turns (tasks.Propose o parent call)) key (IsFree key l × Fits key_rules.Put key l (tasks.Propose o parent call)) l (one_more (task_turns (tasks.Propose o parent call))) (λ before. before.0.0)

some_35 : (seen : Seen) (x : ℕ) → 0 < turns_seen key_rules.Put seen + x
some_35 seens.Nothing x = omega arith
some_35 (seens.Kept kept) x = omega arith
some_35 (seens.Damaged at) x = omega arith
some_35 (seens.Held entry object) x = omega arith
some_35 (seens.Stored d) x = omega arith

put_for_step : (key : List ℕ) (l : Leader) (seen : Seen) (task : Pending) → IsStep key_rules.Put key (turns_seen key_rules.Put seen + task_turns task) (IsFree key l × Fits key_rules.Put key l task) l (put_for task seen key l)
put_for_step key l seen (tasks.Propose o parent call) = put_seen_step key l seen o parent call
put_for_step key l seen tasks.Nothing = idle_step key_rules.Put (turns_seen key_rules.Put seen + 0) key (IsFree key l × Fits key_rules.Put key l tasks.Nothing) l (some_35 seen 0) (λ before. before.0.0)
put_for_step key l seen (tasks.Write content parent) = idle_step key_rules.Put (turns_seen key_rules.Put seen + 0) key (IsFree key l × Fits key_rules.Put key l (tasks.Write content parent)) l (some_35 seen 0) (λ before. before.0.0)
put_for_step key l seen (tasks.Rewrite o) = idle_step key_rules.Put (turns_seen key_rules.Put seen + 0) key (IsFree key l × Fits key_rules.Put key l (tasks.Rewrite o)) l (some_35 seen 0) (λ before. before.0.0)
put_for_step key l seen (tasks.Check reply) = idle_step key_rules.Put (turns_seen key_rules.Put seen + 0) key (IsFree key l × Fits key_rules.Put key l (tasks.Check reply)) l (some_35 seen 0) (λ before. before.0.0)
put_for_step key l seen (tasks.Apply current) = idle_step key_rules.Put (turns_seen key_rules.Put seen + 0) key (IsFree key l × Fits key_rules.Put key l (tasks.Apply current)) l (some_35 seen 0) (λ before. before.0.0)

-- the task fits also the leader from which it was taken
fits_taken : (rule : KeyRule) (key : List ℕ) (l : Leader) (task : Pending) → Fits rule key l task → Fits rule key (with_task tasks.Nothing l) task
fits_taken rule key l tasks.Nothing fits = fits
fits_taken rule key l (tasks.Write content parent) fits = fits
fits_taken rule key l (tasks.Rewrite o) fits = fits
fits_taken rule key l (tasks.Check reply) fits = fits
fits_taken rule key l (tasks.Apply current) fits = fits
fits_taken rule key l (tasks.Propose o parent call) fits = fits

pub row_35_step : (key : List ℕ) (seen : Seen) (l : Leader) → IsStep key_rules.Put key (turns_seen key_rules.Put seen) (IsReady key_rules.Put key l) l (row_35 key seen l)
row_35_step key seen l =
    taken key_rules.Put (turns_seen key_rules.Put seen) key (IsFree key (with_task tasks.Nothing l) × Fits key_rules.Put key (with_task tasks.Nothing l) l.task) (IsReady key_rules.Put key l) l (row_35 key seen l)
    (λ ready. (free_after key_rules.Put key l refl ready, fits_taken key_rules.Put key l l.task ready)) (put_for_step key (with_task tasks.Nothing l) seen l.task)
