-- Each rule keeps the table of a leader whole.
use Rattle.std.specs.Prelude.{All, slice_set, replicate}
use Rattle.std.proofs.Common.{◌≡◌, ◌≤◌, ◌<◌, ◌+◌, ◌∙◌, ◌&&◌, ap, sym, refl, subst, ℕ, Bool, true, false, is_none, nat_le, length, if◌then◌else◌, List, [], ◌∷◌, ◌++◌, Option, Some, None, is_some, arith, le_refl}
use Rattle.std.proofs.lemmas.Bool.{false≢true}
use Rattle.std.proofs.lemmas.List.{length-set}
use Rattle.std.proofs.lemmas.List.Elements.{All-nil, All-cons}
use Rattle.ens_base.specs.Epochs.{same_version}
use Rattle.ens_base.specs.Lists.{same_bytes}
use Rattle.ens_base.proofs.Lists.{bytes_same}
use Rattle.ens_base.specs.declared.command.Command.{Command}
use Rattle.ens_base.specs.declared.command.Command.TheVariants as commands
use Rattle.ens_base.specs.declared.entry.Entry.{Entry}
use Rattle.ens_base.specs.declared.epoch.Epoch.{Epoch}
use Rattle.ens_base.specs.declared.epoch.Version.{Version}
use Rattle.ens_base.specs.declared.reply.Reply.{Reply}
use Rattle.ens_base.specs.declared.reply.Reply.TheVariants as replies
use Rattle.stored_formats.specs.declared.object.Object.{Object}
use Rattle.quorums.specs.Quorums.{is_member}
use Rattle.object_commands.specs.Kept.{matching}
use Rattle.object_commands.specs.Commands.{register_of, verdict_of, stamp_verdict, blind_verdict}
use Rattle.object_commands.specs.declared.verdict.Verdict.{Verdict}
use Rattle.object_commands.specs.declared.verdict.Verdict.TheVariants.{Answer, Write}
use Rattle.phase_rows.specs.Orders.{is_same}
use Rattle.quorums.specs.Rounds.{begun, answered as heard_from, state_of}
use Rattle.quorums.specs.declared.round.Round.{Round}
use Rattle.quorums.specs.declared.round.RoundState.{RoundState}
use Rattle.quorums.specs.declared.round.RoundState.TheVariants.{Open, Met, AllAnswered}
use Rattle.register_model.specs.Registers.{Outcome, Keeps, Writes, outcome}
use Rattle.register_model.specs.declared.note.Note.{Note}
use Rattle.register_model.specs.declared.note.Note.TheVariants.{Settled, Read}
use Rattle.register_model.specs.declared.register.Register.{Register}
use Rattle.register_model.specs.declared.register.Register.TheVariants as registers
use Rattle.wire_frames.specs.declared.message.Message.TheVariants as messages
use Rattle.phase_rows.specs.declared.phase.Seen.{Seen}
use Rattle.phase_rows.specs.declared.phase.Seen.TheVariants as seens
use Rattle.phase_rows.specs.declared.rules.KeyRule.{KeyRule}
use Rattle.phase_rows.specs.declared.rules.KeyRule.TheVariants as key_rules
use Rattle.call_table.specs.Best.{better}
use Rattle.call_table.specs.Calls.{running}
use Rattle.call_table.specs.Rows.{Rows, row_at, check_at, check_round, with_known, with_stage, with_check}
use Rattle.call_table.specs.Tables.{ended, rested}
use Rattle.call_table.specs.declared.row.Found.{Found}
use Rattle.call_table.specs.declared.row.KeyRow.{KeyRow}
use Rattle.call_table.specs.declared.row.Known.{Known}
use Rattle.call_table.specs.declared.row.Known.TheVariants as knowns
use Rattle.call_table.specs.declared.row.Stage.{Stage}
use Rattle.call_table.specs.declared.row.Stage.TheVariants as stages
use Rattle.call_table.specs.declared.waiting.Waiting.{Waiting}
use Rattle.leader_output.specs.Outs.{rests, leads_on, and_note}
use Rattle.leader_output.specs.Sends.{tells_all}
use Rattle.leader_output.specs.declared.out.AnswerOut.{AnswerOut}
use Rattle.leader_output.specs.declared.out.LeadOut.{LeadOut}
use Rattle.leader.specs.Leaders.{with_task, knows, stands, base, settled_as, answered, read_answered, decided, concluded, is_spent, next_version}
use Rattle.leader.specs.Starts.{on_object, by_value, by_stamp, by_known, started, next_call}
use Rattle.leader.specs.Rounds.{counts, asked, asked_for, heard, row_29_reply, without_object, on_found, on_greatest, on_best, by_state, gathered, gathered_for, begins_check, checked_for, goes_on_checking, stood, stood_at, row_33_reply, register_at, applied_for}
use Rattle.leader.specs.Puts.{proposed, written_for, rewritten, write_settled, settled_for, acknowledged, put_seen, put_for, acknowledged_by, row_35_reply}
use Rattle.leader.specs.Rules.{lead_row}
use Rattle.step_laws.specs.Whole.{IsRead, CountsVotes, IsStage, IsTask, IsIndexed, IsWhole, IsClear, StaysWhole, IsGivenFor, AreGiven}
use Rattle.leader.specs.declared.leader.Leader.{Leader}
use Rattle.leader.specs.declared.pending.Pending.{Pending}
use Rattle.leader.specs.declared.pending.Pending.TheVariants as tasks
use Rattle.step_laws.proofs.Indexed.{index_stays, index_begins, index_ends}
use Rattle.leader_laws.proofs.Lookups.{stage_other, stage_here, stages_then, known_then}
use Rattle.leader.proofs.Cases.{either}

-- ## Votes

-- one more vote leaves as many flags, on the same views
votes_flags : (b : Bool) (votes : List Bool) (p : ℕ) → length votes ≡ 32 → length (if b then slice_set votes p true else votes) ≡ 32
votes_flags true votes p h = length-set votes p true ∙ h
votes_flags false votes p h = h

pub heard_counts : (views : List (List ℕ)) (round : Round) (from : ℕ) → CountsVotes views round → CountsVotes views (heard_from from round)
unfolding heard_from
heard_counts views round from h = record { on = h.on; flags = votes_flags (is_member round.tally.views from) round.tally.votes from h.flags }

pub begun_counts : (views : List (List ℕ)) (me : ℕ) → CountsVotes views (begun views me)
unfolding begun heard_from
begun_counts views me = record { on = refl; flags = votes_flags (is_member views me) (replicate 32 false) me refl }

-- ## Replies of commands

abbrev ReadsOnly : Verdict → Type 0
ReadsOnly (Answer reply) = IsRead reply
ReadsOnly (Write content) = Unit {0}

reads_only : (command : Command) (register : Register) → ReadsOnly (verdict_of (outcome command register))
reads_only commands.Get registers.Absent = tt
reads_only commands.Get (registers.Present stamp bytes) = tt
reads_only (commands.PutOnce value) registers.Absent = tt
reads_only (commands.PutOnce value) (registers.Present stamp bytes) = tt
reads_only (commands.Update wanted value) registers.Absent = tt
reads_only (commands.Update wanted value) (registers.Present stamp bytes) = either (λ (o : Outcome). ReadsOnly (verdict_of o)) (same_version wanted stamp) _ _ tt tt
reads_only (commands.Append tail) registers.Absent = tt
reads_only (commands.Append tail) (registers.Present stamp bytes) = either (λ (o : Outcome). ReadsOnly (verdict_of o)) (nat_le (length bytes + length tail) 1024) (Writes (Some (bytes ++ tail))) (Keeps replies.Failed) tt tt
reads_only (commands.Add n) registers.Absent = tt
reads_only (commands.Add n) (registers.Present stamp bytes) = grind arith
reads_only (commands.Swap old new) registers.Absent = tt
reads_only (commands.Swap old new) (registers.Present stamp bytes) = either (λ (o : Outcome). ReadsOnly (verdict_of o)) (same_bytes bytes old) (Writes (Some new)) (Keeps replies.Failed) tt tt
reads_only (commands.Over value) register = tt
reads_only commands.Delete register = tt

abbrev OnlyReads : Option Verdict → Type 0
OnlyReads None = Unit {0}
OnlyReads (Some verdict) = ReadsOnly verdict

stamp_reads : (command : Command) (stamp : Version) → OnlyReads (stamp_verdict command stamp)
stamp_reads commands.Get stamp = tt
stamp_reads (commands.PutOnce value) stamp = tt
stamp_reads (commands.Update wanted value) stamp = either (λ (v : Verdict). ReadsOnly v) (same_version wanted stamp) _ _ tt tt
stamp_reads (commands.Append tail) stamp = tt
stamp_reads (commands.Add n) stamp = tt
stamp_reads (commands.Swap old new) stamp = tt
stamp_reads (commands.Over value) stamp = tt
stamp_reads commands.Delete stamp = tt

blind_reads : (command : Command) → OnlyReads (blind_verdict command)
blind_reads commands.Get = tt
blind_reads (commands.PutOnce value) = tt
blind_reads (commands.Update wanted value) = tt
blind_reads (commands.Append tail) = tt
blind_reads (commands.Add n) = tt
blind_reads (commands.Swap old new) = tt
blind_reads (commands.Over value) = tt
blind_reads commands.Delete = tt

-- ## Changes of a leader

pub whole_task : (task : Pending) (l : Leader) → IsTask task → IsWhole l → IsWhole (with_task task l)
whole_task task l is h = record { stages = h.stages; task = is; index = h.index }

one_later : (n : ℕ) → n ≤ n + 1
one_later n = omega arith

pub whole_round : (l : Leader) → IsWhole l → IsWhole (record l { round = l.round + 1 })
whole_round l h = record { stages = h.stages; task = h.task; index = index_stays l.round (l.round + 1) l.table l.table (one_later l.round) refl (λ k. refl) h.index }

known_round : (key k : List ℕ) (known : Known) (rows : Rows) → check_round (row_at k (with_known key known rows)).stage ≡ check_round (row_at k rows).stage
known_round key k known rows = known_then (λ (s : Stage). check_round s ≡ check_round (row_at k rows).stage) key k known rows refl

pub whole_knows : (key : List ℕ) (known : Known) (l : Leader) → IsWhole l → IsWhole (knows key known l)
whole_knows key known l h = record {
  stages = λ k. known_then (IsStage l.fact.views) key k known l.table.rows (h.stages k);
  task = h.task;
  index = index_stays l.round l.round l.table (knows key known l).table (le_refl l.round) refl (λ k. known_round key k known l.table.rows) h.index;
}

clear_knows : (key : List ℕ) (known : Known) (l : Leader) → IsClear l key → IsClear (knows key known l) key
clear_knows key known l clear = known_round key key known l.table.rows ∙ clear

stage_round : (key k : List ℕ) (stage : Stage) (rows : Rows) (b : Bool) → same_bytes key k ≡ b → check_round stage ≡ check_round (row_at key rows).stage
    → check_round (row_at k (with_stage key stage rows)).stage ≡ check_round (row_at k rows).stage
stage_round key k stage rows true on same =
    subst (λ (q : List ℕ). check_round (row_at q (with_stage key stage rows)).stage ≡ check_round (row_at q rows).stage) (bytes_same key k on) (ap check_round (stage_here key stage rows) ∙ same)
stage_round key k stage rows false off same = ap (λ (row : KeyRow). check_round row.stage) (stage_other key k stage rows off)

other_round : (key k : List ℕ) (stage : Stage) (rows : Rows) → same_bytes key k ≡ false → check_round (row_at k (with_stage key stage rows)).stage ≡ check_round (row_at k rows).stage
other_round key k stage rows off = ap (λ (row : KeyRow). check_round row.stage) (stage_other key k stage rows off)

-- the key is as far with its checks as before
pub whole_stands : (key : List ℕ) (stage : Stage) (l : Leader) → IsStage l.fact.views stage → check_round stage ≡ check_round (row_at key l.table.rows).stage → IsWhole l → IsWhole (stands key stage l)
whole_stands key stage l is same h = record {
  stages = λ k. stages_then (IsStage l.fact.views) key k stage l.table.rows is (h.stages k);
  task = h.task;
  index = index_stays l.round l.round l.table (stands key stage l).table (le_refl l.round) refl (λ k. stage_round key k stage l.table.rows (same_bytes key k) refl same) h.index;
}

clear_stands : (key : List ℕ) (stage : Stage) (l : Leader) → check_round stage ≡ None → IsClear (stands key stage l) key
clear_stands key stage l none = ap check_round (stage_here key stage l.table.rows) ∙ none

pub whole_ended : (key : List ℕ) (l : Leader) → IsWhole l → IsWhole (record l { table = ended key l.table })
unfolding ended rested
whole_ended key l h = record {
  stages = λ k. stages_then (IsStage l.fact.views) key k stages.Idle l.table.rows tt (h.stages k);
  task = h.task;
  index = index_ends key l.table (ended key l.table) l.round h.index (λ k off. other_round key k stages.Idle l.table.rows off) (ap check_round (stage_here key stages.Idle l.table.rows)) refl;
}

pub clear_ended : (key : List ℕ) (l : Leader) → IsClear (record l { table = ended key l.table }) key
unfolding ended rested
clear_ended key l = ap check_round (stage_here key stages.Idle l.table.rows)

-- the key checks in this round
abbrev checks_on : ℕ → List ℕ → Round → Reply → Leader → Leader
checks_on round key votes reply l = let m = stands key (stages.Checking round votes reply) l in record m { table = record m.table { checks = with_check round key m.table.checks } }

whole_begins : (key : List ℕ) (l : Leader) (n : ℕ) (votes : Round) (reply : Reply) → ((k : List ℕ) → IsStage l.fact.views (row_at k l.table.rows).stage) → IsTask l.task → IsIndexed n l.table → n < l.round → IsClear l key
    → CountsVotes l.fact.views votes → IsRead reply → IsWhole (checks_on l.round key votes reply l)
whole_begins key l n votes reply old task index less clear own read = record {
  stages = λ k. stages_then (IsStage l.fact.views) key k (stages.Checking l.round votes reply) l.table.rows (own, read) (old k);
  task = task;
  index = index_begins key l.table (checks_on l.round key votes reply l).table n index (λ k off. other_round key k (stages.Checking l.round votes reply) l.table.rows off) l.round less clear
      (ap check_round (stage_here key (stages.Checking l.round votes reply) l.table.rows)) refl;
}

-- ## What follows

-- the table stays whole, the replies have their notes, and a leader that steps down gives none
pub record KeptWhole (key : List ℕ) (r : Leader × LeadOut) : Type 0 where
  pub stays : StaysWhole key r
  pub given : AreGiven r.1
  pub quiet : r.1.leave ≡ true → r.1.answers ≡ []

none_given : (o : LeadOut) → o.answers ≡ [] → AreGiven o
none_given o silent = subst (λ (answers : List AnswerOut). All (λ a. IsGivenFor o.notes a.reply) answers) (sym silent) (All-nil (λ (a : AnswerOut). IsGivenFor o.notes a.reply))

pub so_rests : (key : List ℕ) (m : Leader) (o : LeadOut) → IsWhole m → o.keys ≡ [] → o.own ≡ None → o.answers ≡ [] → KeptWhole key (m, o)
so_rests key m o whole none nothing silent = record {
  stays = record {
    whole = whole;
    clear = subst (λ (ks : List (List ℕ)). All (IsClear m) ks) (sym none) (All-nil (IsClear m));
    own = λ some. absurd (false≢true (sym (ap is_some nothing) ∙ some));
  };
  given = none_given o silent;
  quiet = λ leave. silent;
}

pub so_goes : (key : List ℕ) (m : Leader) (o : LeadOut) → IsWhole m → IsClear m key → o.keys ≡ key ∷ [] → o.answers ≡ [] → KeptWhole key (m, o)
so_goes key m o whole clear one silent = record {
  stays = record {
    whole = whole;
    clear = subst (λ (ks : List (List ℕ)). All (IsClear m) ks) (sym one) (All-cons (IsClear m) key [] clear (All-nil (IsClear m)));
    own = λ some. clear;
  };
  given = none_given o silent;
  quiet = λ leave. silent;
}

so_asks : (key : List ℕ) (m : Leader) (o : LeadOut) → IsWhole m → IsClear m key → o.keys ≡ [] → o.answers ≡ [] → KeptWhole key (m, o)
so_asks key m o whole clear none silent = record {
  stays = record {
    whole = whole;
    clear = subst (λ (ks : List (List ℕ)). All (IsClear m) ks) (sym none) (All-nil (IsClear m));
    own = λ some. clear;
  };
  given = none_given o silent;
  quiet = λ leave. silent;
}

-- the running call is answered
pub so_answered : (key : List ℕ) (w : Waiting) (reply : Reply) (o : LeadOut) (l : Leader) → IsWhole l → o.keys ≡ [] → o.answers ≡ [] → o.leave ≡ false → IsGivenFor o.notes reply → KeptWhole key (answered w reply key o l)
so_answered key w reply o l whole none silent leads given = record {
  stays = record {
    whole = whole_ended key l whole;
    clear = subst (λ (ks : List (List ℕ)). All (IsClear (record l { table = ended key l.table })) (ks ++ key ∷ [])) (sym none)
        (All-cons (IsClear (record l { table = ended key l.table })) key [] (clear_ended key l) (All-nil (IsClear (record l { table = ended key l.table }))));
    own = λ some. clear_ended key l;
  };
  given = subst (λ (answers : List AnswerOut). All (λ a. IsGivenFor o.notes a.reply) (answers ++ record { caller = w.from; id = w.id; reply = reply } ∷ [])) (sym silent)
      (All-cons (λ (a : AnswerOut). IsGivenFor o.notes a.reply) (record { caller = w.from; id = w.id; reply = reply }) [] given (All-nil (λ (a : AnswerOut). IsGivenFor o.notes a.reply)));
  quiet = λ leave. absurd (false≢true (sym leads ∙ leave));
}

-- a read is noted, and the running call is answered
read_given : (reply : Reply) (id : ℕ) (key : List ℕ) (base : Option Version) → IsRead reply → IsGivenFor (Read id key base ∷ []) reply
read_given (replies.Value stamp bytes) id key base is = (id, key, base, refl)
read_given replies.NotFound id key base is = (id, key, base, refl)
read_given replies.Failed id key base is = (id, key, base, refl)
read_given (replies.Ok stamp) id key base is = absurd is
read_given replies.Unavailable id key base is = absurd is
read_given replies.Busy id key base is = absurd is
read_given replies.Lost id key base is = absurd is
read_given replies.Timeout id key base is = absurd is

pub so_read : (key : List ℕ) (w : Waiting) (reply : Reply) (o : LeadOut) (l : Leader) → IsWhole l → o.keys ≡ [] → o.answers ≡ [] → o.notes ≡ [] → o.leave ≡ false → IsRead reply → KeptWhole key (read_answered w reply key o l)
so_read key w reply o l whole none silent unnoted leads is = so_answered key w reply (and_note (Read w.id key (base key l)) o) l whole none silent leads
    (subst (λ (ns : List Note). IsGivenFor (ns ++ Read w.id key (base key l) ∷ []) reply) (sym unnoted) (read_given reply w.id key (base key l) is))

-- a rule on a key that does not check keeps the table whole
abbrev KeepsWhole : List ℕ → Leader → Leader × LeadOut → Type 0
KeepsWhole key l r = IsWhole l → IsClear l key → KeptWhole key r

-- ## Rules 28 and 36

decided_so : (key : List ℕ) (l : Leader) (parent : Option Version) (verdict : Verdict) → ReadsOnly verdict → KeepsWhole key l (decided parent verdict key l)
decided_so key l parent (Write content) reads whole clear = so_goes key _ _ (whole_task (tasks.Write content parent) l tt whole) clear refl refl
decided_so key l parent (Answer reply) reads whole clear = so_goes key _ _ (whole_task (tasks.Check reply) l reads whole) clear refl refl

on_object_so : (key : List ℕ) (l : Leader) (o : Option Object) (command : Command) → KeepsWhole key l (on_object o command key l)
on_object_so key l None command whole clear = so_goes key _ _ whole clear refl refl
on_object_so key l (Some o) command whole clear = decided_so key l _ _ (reads_only command (register_of o)) whole clear

by_value_so : (key : List ℕ) (l : Leader) (seen : Seen) (version : Version) (digest : List ℕ) (command : Command) → KeepsWhole key l (by_value seen version digest command key l)
by_value_so key l seens.Nothing version digest command whole clear = so_asks key _ _ whole clear refl refl
by_value_so key l (seens.Kept kept) version digest command whole clear = on_object_so key l (matching (record { key = key; version = version; digest = digest }) kept) command whole clear
by_value_so key l (seens.Damaged at) version digest command whole clear = so_rests key _ _ whole refl refl refl
by_value_so key l (seens.Held entry object) version digest command whole clear = so_rests key _ _ whole refl refl refl
by_value_so key l (seens.Stored d) version digest command whole clear = so_rests key _ _ whole refl refl refl

by_stamp_so : (key : List ℕ) (l : Leader) (verdict : Option Verdict) (seen : Seen) (version : Version) (digest : List ℕ) (command : Command) → OnlyReads verdict → KeepsWhole key l (by_stamp verdict seen version digest command key l)
by_stamp_so key l (Some verdict) seen version digest command reads whole clear = decided_so key l _ verdict reads whole clear
by_stamp_so key l None seen version digest command reads whole clear = by_value_so key l seen version digest command whole clear

by_known_so : (key : List ℕ) (l : Leader) (known : Known) (seen : Seen) (command : Command) → KeepsWhole key l (by_known known seen command key l)
by_known_so key l knowns.Unknown seen command whole clear = so_goes key _ _ whole clear refl refl
by_known_so key l knowns.Absent seen command whole clear = decided_so key l _ _ (reads_only command registers.Absent) whole clear
by_known_so key l (knowns.Present version stamp digest true) seen command whole clear = decided_so key l _ _ (reads_only command registers.Absent) whole clear
by_known_so key l (knowns.Present version stamp digest false) seen command whole clear = by_stamp_so key l (stamp_verdict command stamp) seen version digest command (stamp_reads command stamp) whole clear

started_so : (key : List ℕ) (l : Leader) (call : Option Waiting) (seen : Seen) → KeepsWhole key l (started call seen key l)
started_so key l None seen whole clear = so_rests key _ _ whole refl refl refl
started_so key l (Some w) seen whole clear = by_known_so key l (row_at key l.table.rows).known seen w.command whole clear

next_so : (key : List ℕ) (l : Leader) (call : Option Waiting) → KeepsWhole key l (l, next_call call key)
next_so key l None whole clear = so_rests key _ _ whole refl refl refl
next_so key l (Some w) whole clear = so_goes key _ _ whole clear refl refl

-- ## Rules 29 and 30

asked_so : (key : List ℕ) (l : Leader) (seen : Seen) → KeepsWhole key l (asked seen key l)
asked_so key l seens.Nothing whole clear = either (λ (r : Leader × LeadOut). KeptWhole key r) (is_spent l.round) _ _ (so_rests key _ _ whole refl refl refl) (so_asks key _ _ (whole_round l whole) clear refl refl)
asked_so key l (seens.Damaged at) whole clear = so_rests key _ _ whole refl refl refl
asked_so key l (seens.Held entry object) whole clear =
    so_goes key _ _ (whole_stands key (stages.Reading l.round (begun l.fact.views l.me) (better None entry object)) l (begun_counts l.fact.views l.me) (sym clear) whole)
    (clear_stands key (stages.Reading l.round (begun l.fact.views l.me) (better None entry object)) l refl) refl refl
asked_so key l (seens.Kept kept) whole clear = so_rests key _ _ whole refl refl refl
asked_so key l (seens.Stored d) whole clear = so_rests key _ _ whole refl refl refl

asked_for_so : (key : List ℕ) (l : Leader) (call : Option Waiting) (seen : Seen) → KeepsWhole key l (asked_for call seen key l)
asked_for_so key l None seen whole clear = so_rests key _ _ whole refl refl refl
asked_for_so key l (Some w) seen whole clear = asked_so key l seen whole clear

without_object_so : (key : List ℕ) (l : Leader) (w : Waiting) (state : RoundState) → KeepsWhole key l (without_object state w key l)
without_object_so key l w AllAnswered whole clear = so_answered key w _ rests l whole refl refl refl refl
without_object_so key l w Open whole clear = so_rests key _ _ whole refl refl refl
without_object_so key l w Met whole clear = so_rests key _ _ whole refl refl refl

applies_so : (key : List ℕ) (l : Leader) (known : Known) (current : Option Object) → KeepsWhole key l (with_task (tasks.Apply current) (knows key known l), leads_on key_rules.Apply key)
applies_so key l known current whole clear = so_goes key _ _ (whole_task (tasks.Apply current) (knows key known l) tt (whole_knows key known l whole)) (clear_knows key known l clear) refl refl

on_found_so : (key : List ℕ) (l : Leader) (w : Waiting) (state : RoundState) (o : Option Object) (u : Entry) → KeepsWhole key l (on_found o state u w key l)
on_found_so key l w state None u whole clear = without_object_so key l w state whole clear
on_found_so key l w state (Some o) u whole clear = either (λ (r : Leader × LeadOut). KeptWhole key r) (is_same u.version.epoch l.fact.epoch) _ _
    (applies_so key l (settled_as u.version o u.digest) (Some o) whole clear) (so_goes key _ _ (whole_task (tasks.Rewrite o) l tt whole) clear refl refl)

on_greatest_so : (key : List ℕ) (l : Leader) (w : Waiting) (state : RoundState) (verdict : Option Verdict) (u : Found) → OnlyReads verdict → KeepsWhole key l (on_greatest verdict state u w key l)
on_greatest_so key l w state (Some verdict) u reads whole clear = decided_so key l _ verdict reads whole clear
on_greatest_so key l w state None u reads whole clear = on_found_so key l w state u.object u.entry whole clear

on_best_so : (key : List ℕ) (l : Leader) (w : Waiting) (state : RoundState) (best : Option Found) → KeepsWhole key l (on_best best state w key l)
on_best_so key l w state None whole clear = applies_so key l knowns.Absent None whole clear
on_best_so key l w state (Some u) whole clear = on_greatest_so key l w state (blind_verdict w.command) u (blind_reads w.command) whole clear

by_state_so : (key : List ℕ) (l : Leader) (w : Waiting) (state : RoundState) (best : Option Found) → KeepsWhole key l (by_state state best w key l)
by_state_so key l w Open best whole clear = so_rests key _ _ whole refl refl refl
by_state_so key l w Met best whole clear = on_best_so key l w Met best whole clear
by_state_so key l w AllAnswered best whole clear = on_best_so key l w AllAnswered best whole clear

gathered_so : (key : List ℕ) (l : Leader) (w : Waiting) (stage : Stage) → KeepsWhole key l (gathered stage w key l)
gathered_so key l w (stages.Reading round votes best) whole clear = by_state_so key l w (state_of votes) best whole clear
gathered_so key l w stages.Idle whole clear = so_rests key _ _ whole refl refl refl
gathered_so key l w (stages.Checking round votes reply) whole clear = so_rests key _ _ whole refl refl refl
gathered_so key l w (stages.Putting o digest acks rewrite) whole clear = so_rests key _ _ whole refl refl refl

gathered_for_so : (key : List ℕ) (l : Leader) (call : Option Waiting) → KeepsWhole key l (gathered_for call key l)
gathered_for_so key l None whole clear = so_rests key _ _ whole refl refl refl
gathered_for_so key l (Some w) whole clear = gathered_so key l w (row_at key l.table.rows).stage whole clear

-- ## Rules 31 and 32

abbrev taken : Leader → Leader
taken l = with_task tasks.Nothing l

pub whole_taken : (l : Leader) → IsWhole l → IsWhole (taken l)
whole_taken l whole = whole_task tasks.Nothing l tt whole

proposed_so : (key : List ℕ) (l : Leader) (o : Object) (parent : Option Version) (call : Option ℕ) → KeepsWhole key l (proposed o parent call key l)
proposed_so key l o parent call whole clear = so_goes key _ _ (record { stages = whole.stages; task = tt; index = whole.index }) clear refl refl

written_so : (key : List ℕ) (l : Leader) (call : Option Waiting) (task : Pending) → KeepsWhole key l (written_for call task key l)
written_so key l (Some w) (tasks.Write content parent) whole clear = either (λ (r : Leader × LeadOut). KeptWhole key r) (is_spent l.seq) _ _ (so_rests key _ _ whole refl refl refl)
    (proposed_so key l (record { version = next_version l; stamp = next_version l; key = key; value = content }) parent (Some w.id) whole clear)
written_so key l None task whole clear = so_rests key _ _ whole refl refl refl
written_so key l (Some w) tasks.Nothing whole clear = so_rests key _ _ whole refl refl refl
written_so key l (Some w) (tasks.Rewrite o) whole clear = so_rests key _ _ whole refl refl refl
written_so key l (Some w) (tasks.Check reply) whole clear = so_rests key _ _ whole refl refl refl
written_so key l (Some w) (tasks.Apply current) whole clear = so_rests key _ _ whole refl refl refl
written_so key l (Some w) (tasks.Propose o parent call) whole clear = so_rests key _ _ whole refl refl refl

rewritten_so : (key : List ℕ) (l : Leader) (task : Pending) → KeepsWhole key l (rewritten task key l)
rewritten_so key l (tasks.Rewrite o) whole clear = either (λ (r : Leader × LeadOut). KeptWhole key r) (is_spent l.seq) _ _ (so_rests key _ _ whole refl refl refl)
    (proposed_so key l (record { version = next_version l; stamp = o.stamp; key = key; value = o.value }) (Some o.version) None whole clear)
rewritten_so key l tasks.Nothing whole clear = so_rests key _ _ whole refl refl refl
rewritten_so key l (tasks.Write content parent) whole clear = so_rests key _ _ whole refl refl refl
rewritten_so key l (tasks.Check reply) whole clear = so_rests key _ _ whole refl refl refl
rewritten_so key l (tasks.Apply current) whole clear = so_rests key _ _ whole refl refl refl
rewritten_so key l (tasks.Propose o parent call) whole clear = so_rests key _ _ whole refl refl refl

-- ## Rules 33 and 34

one_more : (n : ℕ) → n < n + 1
one_more n = omega arith

begins_so : (key : List ℕ) (l : Leader) (w : Waiting) (state : RoundState) (reply : Reply) (o : LeadOut) → IsRead reply → o.keys ≡ [] → o.own ≡ None → o.answers ≡ [] → o.notes ≡ [] → o.leave ≡ false → IsWhole l → IsClear l key
    → KeptWhole key (begins_check state (begun l.fact.views l.me) reply w key o (record l { round = l.round + 1 }))
begins_so key l w Open reply o read none nothing silent unnoted leads whole clear =
    so_rests key _ _ (whole_begins key (record l { round = l.round + 1 }) l.round (begun l.fact.views l.me) reply whole.stages whole.task whole.index (one_more l.round) clear (begun_counts l.fact.views l.me) read) none nothing silent
begins_so key l w Met reply o read none nothing silent unnoted leads whole clear = so_read key w reply o (record l { round = l.round + 1 }) (whole_round l whole) none silent unnoted leads read
begins_so key l w AllAnswered reply o read none nothing silent unnoted leads whole clear = so_read key w reply o (record l { round = l.round + 1 }) (whole_round l whole) none silent unnoted leads read

checked_so : (key : List ℕ) (l : Leader) (call : Option Waiting) (task : Pending) → IsTask task → KeepsWhole key l (checked_for call task key l)
checked_so key l (Some w) (tasks.Check reply) read whole clear = either (λ (r : Leader × LeadOut). KeptWhole key r) (is_spent l.round) _ _ (so_rests key _ _ whole refl refl refl)
    (begins_so key l w (state_of (begun l.fact.views l.me)) reply (tells_all l.me l.fact.views (messages.Check l.fact.epoch (l.round + 1)) rests) read refl refl refl refl refl whole clear)
checked_so key l None task read whole clear = so_rests key _ _ whole refl refl refl
checked_so key l (Some w) tasks.Nothing read whole clear = so_rests key _ _ whole refl refl refl
checked_so key l (Some w) (tasks.Write content parent) read whole clear = so_rests key _ _ whole refl refl refl
checked_so key l (Some w) (tasks.Rewrite o) read whole clear = so_rests key _ _ whole refl refl refl
checked_so key l (Some w) (tasks.Apply current) read whole clear = so_rests key _ _ whole refl refl refl
checked_so key l (Some w) (tasks.Propose o parent call) read whole clear = so_rests key _ _ whole refl refl refl

concluded_so : (key : List ℕ) (l : Leader) (w : Waiting) (verdict : Verdict) → ReadsOnly verdict → KeepsWhole key l (concluded verdict w key l)
concluded_so key l w (Write content) reads whole clear = so_goes key _ _ (whole_task (tasks.Write content (base key l)) l tt whole) clear refl refl
concluded_so key l w (Answer reply) reads whole clear = so_read key w reply rests l whole refl refl refl refl reads

applied_so : (key : List ℕ) (l : Leader) (call : Option Waiting) (task : Pending) → KeepsWhole key l (applied_for call task key l)
applied_so key l (Some w) (tasks.Apply current) whole clear = concluded_so key l w (verdict_of (outcome w.command (register_at current))) (reads_only w.command (register_at current)) whole clear
applied_so key l None task whole clear = so_rests key _ _ whole refl refl refl
applied_so key l (Some w) tasks.Nothing whole clear = so_rests key _ _ whole refl refl refl
applied_so key l (Some w) (tasks.Write content parent) whole clear = so_rests key _ _ whole refl refl refl
applied_so key l (Some w) (tasks.Rewrite o) whole clear = so_rests key _ _ whole refl refl refl
applied_so key l (Some w) (tasks.Check reply) whole clear = so_rests key _ _ whole refl refl refl
applied_so key l (Some w) (tasks.Propose o parent call) whole clear = so_rests key _ _ whole refl refl refl

-- ## Rule 35

write_settled_so : (key : List ℕ) (l : Leader) (call : Option Waiting) (o : Object) (version : Version) (out : LeadOut) → out.keys ≡ [] → out.own ≡ None → out.answers ≡ [] → out.notes ≡ Settled key version ∷ [] → out.leave ≡ false → IsWhole l
    → KeptWhole key (write_settled call o key out l)
write_settled_so key l None o version out none nothing silent noted leads whole = so_rests key _ _ whole none nothing silent
write_settled_so key l (Some w) o version out none nothing silent noted leads whole = so_answered key w (replies.Ok o.stamp) out l whole none silent leads (key, version, noted)

settled_so : (key : List ℕ) (l : Leader) (rewrite : Bool) (o : Object) (version : Version) (out : LeadOut) → out.keys ≡ [] → out.own ≡ None → out.answers ≡ [] → out.notes ≡ Settled key version ∷ [] → out.leave ≡ false → IsWhole l → IsClear l key
    → KeptWhole key (settled_for rewrite o key out l)
settled_so key l true o version out none nothing silent noted leads whole clear =
    so_goes key _ _ (whole_task (tasks.Apply (Some o)) (stands key stages.Idle l) tt (whole_stands key stages.Idle l tt (sym clear) whole)) (clear_stands key stages.Idle l refl)
    (ap (λ (ks : List (List ℕ)). ks ++ key ∷ []) none) silent
settled_so key l false o version out none nothing silent noted leads whole clear = write_settled_so key l (running key l.table.calls) o version out none nothing silent noted leads whole

-- the output with the note that this version is settled
abbrev settles : List ℕ → Version → LeadOut → LeadOut
settles key version out = and_note (Settled key version) out

pub acknowledged_so : (key : List ℕ) (l : Leader) (state : RoundState) (o : Object) (digest : List ℕ) (acks : Round) (rewrite : Bool) (out : LeadOut) → CountsVotes l.fact.views acks → out.keys ≡ [] → out.own ≡ None → out.answers ≡ [] → out.notes ≡ [] → out.leave ≡ false → IsWhole l → IsClear l key
    → KeptWhole key (acknowledged state o digest acks rewrite key out l)
acknowledged_so key l Open o digest acks rewrite out own none nothing silent unnoted leads whole clear = so_rests key _ _ (whole_stands key (stages.Putting o digest acks rewrite) l own (sym clear) whole) none nothing silent
acknowledged_so key l Met o digest acks rewrite out own none nothing silent unnoted leads whole clear =
    settled_so key (knows key (settled_as o.version o digest) l) rewrite o o.version (settles key o.version out) none nothing silent (ap (λ (ns : List Note). ns ++ Settled key o.version ∷ []) unnoted) leads
    (whole_knows key (settled_as o.version o digest) l whole) (clear_knows key (settled_as o.version o digest) l clear)
acknowledged_so key l AllAnswered o digest acks rewrite out own none nothing silent unnoted leads whole clear =
    settled_so key (knows key (settled_as o.version o digest) l) rewrite o o.version (settles key o.version out) none nothing silent (ap (λ (ns : List Note). ns ++ Settled key o.version ∷ []) unnoted) leads
    (whole_knows key (settled_as o.version o digest) l whole) (clear_knows key (settled_as o.version o digest) l clear)

put_seen_so : (key : List ℕ) (l : Leader) (seen : Seen) (o : Object) (parent : Option Version) (call : Option ℕ) → KeepsWhole key l (put_seen seen o parent call key l)
put_seen_so key l seens.Nothing o parent call whole clear = so_asks key _ _ (whole_task (tasks.Propose o parent call) l tt whole) clear refl refl
put_seen_so key l (seens.Damaged at) o parent call whole clear = so_rests key _ _ whole refl refl refl
put_seen_so key l (seens.Stored digest) o parent call whole clear =
    acknowledged_so key l (state_of (begun l.fact.views l.me)) o digest (begun l.fact.views l.me) (is_none call) (tells_all l.me l.fact.views (messages.Put l.fact.epoch o) rests) (begun_counts l.fact.views l.me) refl refl refl refl refl whole clear
put_seen_so key l (seens.Held entry object) o parent call whole clear = so_rests key _ _ whole refl refl refl
put_seen_so key l (seens.Kept kept) o parent call whole clear = so_rests key _ _ whole refl refl refl

put_so : (key : List ℕ) (l : Leader) (seen : Seen) (task : Pending) → KeepsWhole key l (put_for task seen key l)
put_so key l seen (tasks.Propose o parent call) whole clear = put_seen_so key l seen o parent call whole clear
put_so key l seen tasks.Nothing whole clear = so_rests key _ _ whole refl refl refl
put_so key l seen (tasks.Write content parent) whole clear = so_rests key _ _ whole refl refl refl
put_so key l seen (tasks.Rewrite o) whole clear = so_rests key _ _ whole refl refl refl
put_so key l seen (tasks.Check reply) whole clear = so_rests key _ _ whole refl refl refl
put_so key l seen (tasks.Apply current) whole clear = so_rests key _ _ whole refl refl refl

-- ## Any rule on a key

module _ (key : List ℕ) (seen : Seen) (l : Leader) (whole : IsWhole l) (clear : IsClear l key) where
  pub rule_so : (rule : KeyRule) → KeptWhole key (lead_row rule key seen l)
  rule_so key_rules.StartCall = started_so key l (running key l.table.calls) seen whole clear
  rule_so key_rules.Read = asked_for_so key l (running key l.table.calls) seen whole clear
  rule_so key_rules.EnoughReplies = gathered_for_so key l (running key l.table.calls) whole clear
  rule_so key_rules.Write = written_so key (taken l) (running key l.table.calls) l.task (whole_taken l whole) clear
  rule_so key_rules.Rewrite = rewritten_so key (taken l) l.task (whole_taken l whole) clear
  rule_so key_rules.Check = checked_so key (taken l) (running key l.table.calls) l.task whole.task (whole_taken l whole) clear
  rule_so key_rules.Apply = applied_so key (taken l) (running key l.table.calls) l.task (whole_taken l whole) clear
  rule_so key_rules.Put = put_so key (taken l) seen l.task (whole_taken l whole) clear
  rule_so key_rules.StartNextCall = next_so key l (running key l.table.calls) whole clear

-- ## Replies

heard_so : (key : List ℕ) (l : Leader) (stage : Stage) (from : ℕ) (ballot : Epoch) (round : ℕ) (entry : Option Entry) (object : Option Object) → (row_at key l.table.rows).stage ≡ stage → IsWhole l → KeptWhole key (heard stage from ballot round key entry object l)
heard_so key l (stages.Reading asked votes best) from ballot round entry object e whole = either (λ (r : Leader × LeadOut). KeptWhole key r) (counts ballot round asked l) _ _
    (so_goes key _ _
    (whole_stands key (stages.Reading asked (heard_from from votes) (better best entry object)) l (heard_counts l.fact.views votes from (subst (IsStage l.fact.views) e (whole.stages key))) (sym (ap check_round e)) whole)
    (clear_stands key (stages.Reading asked (heard_from from votes) (better best entry object)) l refl) refl refl)
    (so_rests key _ _ whole refl refl refl)
heard_so key l stages.Idle from ballot round entry object e whole = so_rests key _ _ whole refl refl refl
heard_so key l (stages.Checking asked votes reply) from ballot round entry object e whole = so_rests key _ _ whole refl refl refl
heard_so key l (stages.Putting o digest acks rewrite) from ballot round entry object e whole = so_rests key _ _ whole refl refl refl

pub got_so : (from : ℕ) (ballot : Epoch) (round : ℕ) (key : List ℕ) (entry : Option Entry) (object : Option Object) (l : Leader) → IsWhole l → KeptWhole key (row_29_reply from ballot round key entry object l)
got_so from ballot round key entry object l whole = heard_so key l (row_at key l.table.rows).stage from ballot round entry object refl whole

goes_on_so : (key : List ℕ) (l : Leader) (w : Waiting) (state : RoundState) (round : ℕ) (votes : Round) (reply : Reply) → check_round (row_at key l.table.rows).stage ≡ Some round → CountsVotes l.fact.views votes × IsRead reply → IsWhole l
    → KeptWhole key (goes_on_checking state round votes reply w key l)
goes_on_so key l w Open round votes reply e is whole = so_rests key _ _ (whole_stands key (stages.Checking round votes reply) l is (sym e) whole) refl refl refl
goes_on_so key l w Met round votes reply e is whole = so_read key w reply rests l whole refl refl refl refl is.1
goes_on_so key l w AllAnswered round votes reply e is whole = so_read key w reply rests l whole refl refl refl refl is.1

stood_so : (key : List ℕ) (l : Leader) (call : Option Waiting) (stage : Stage) (from : ℕ) (ballot : Epoch) (round : ℕ) → (row_at key l.table.rows).stage ≡ stage → IsWhole l → KeptWhole key (stood call stage from ballot round key l)
stood_so key l (Some w) (stages.Checking asked votes reply) from ballot round e whole =
    let is : CountsVotes l.fact.views votes × IsRead reply = subst (IsStage l.fact.views) e (whole.stages key) in
    either (λ (r : Leader × LeadOut). KeptWhole key r) (counts ballot round asked l) _ _
    (goes_on_so key l w (state_of (heard_from from votes)) asked (heard_from from votes) reply (ap check_round e) (heard_counts l.fact.views votes from is.0, is.1) whole)
    (so_rests key _ _ whole refl refl refl)
stood_so key l None stage from ballot round e whole = so_rests key _ _ whole refl refl refl
stood_so key l (Some w) stages.Idle from ballot round e whole = so_rests key _ _ whole refl refl refl
stood_so key l (Some w) (stages.Reading asked votes best) from ballot round e whole = so_rests key _ _ whole refl refl refl
stood_so key l (Some w) (stages.Putting o digest acks rewrite) from ballot round e whole = so_rests key _ _ whole refl refl refl

pub checked_reply_so : (from : ℕ) (ballot : Epoch) (round : ℕ) (l : Leader) → IsWhole l → (key : List ℕ) × KeptWhole key (row_33_reply from ballot round l)
checked_reply_so from ballot round l whole = by_key (check_at round l.table.checks)
  where
    by_key : (found : Option (List ℕ)) → (key : List ℕ) × KeptWhole key (stood_at found from ballot round l)
    by_key None = ([], so_rests [] _ _ whole refl refl refl)
    by_key (Some key) = (key, stood_so key l (running key l.table.calls) (row_at key l.table.rows).stage from ballot round refl whole)

put_reply_at : (key : List ℕ) (l : Leader) (stage : Stage) (from : ℕ) (ballot : Epoch) (version : Version) → (row_at key l.table.rows).stage ≡ stage → IsWhole l → KeptWhole key (acknowledged_by stage from ballot version key l)
put_reply_at key l (stages.Putting o digest acks rewrite) from ballot version e whole = either (λ (r : Leader × LeadOut). KeptWhole key r) (is_same ballot l.fact.epoch && same_version version o.version) _ _
    (acknowledged_so key l (state_of (heard_from from acks)) o digest (heard_from from acks) rewrite rests (heard_counts l.fact.views acks from (subst (IsStage l.fact.views) e (whole.stages key))) refl refl refl refl refl whole (ap check_round e))
    (so_rests key _ _ whole refl refl refl)
put_reply_at key l stages.Idle from ballot version e whole = so_rests key _ _ whole refl refl refl
put_reply_at key l (stages.Reading asked votes best) from ballot version e whole = so_rests key _ _ whole refl refl refl
put_reply_at key l (stages.Checking asked votes reply) from ballot version e whole = so_rests key _ _ whole refl refl refl

pub put_reply_so : (from : ℕ) (ballot : Epoch) (key : List ℕ) (version : Version) (l : Leader) → IsWhole l → KeptWhole key (row_35_reply from ballot key version l)
put_reply_so from ballot key version l whole = put_reply_at key l (row_at key l.table.rows).stage from ballot version refl whole
