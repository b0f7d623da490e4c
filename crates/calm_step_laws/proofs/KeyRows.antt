-- What the rules on a key come to in a calm run, as equations.
use Rattle.std.proofs.Common.{◌≡◌, refl, ℕ, ◌+◌, false, List, [], Option, None, Some}
use Rattle.ens_base.specs.declared.command.Command.{Command}
use Rattle.ens_base.specs.declared.epoch.Version.{Version}
use Rattle.ens_base.specs.declared.reply.Reply.{Reply}
use Rattle.stored_formats.specs.declared.object.Object.{Object}
use Rattle.call_table.specs.Calls.{running}
use Rattle.call_table.specs.Rows.{row_at}
use Rattle.call_table.specs.declared.row.Known.TheVariants as knowns
use Rattle.call_table.specs.declared.row.Stage.TheVariants as stages
use Rattle.call_table.specs.declared.waiting.Waiting.{Waiting}
use Rattle.object_commands.specs.Commands.{verdict_of}
use Rattle.object_commands.specs.declared.verdict.Verdict.TheVariants.{Write, Answer}
use Rattle.leader_output.specs.Outs.{leads_on, rests, and_own, and_note}
use Rattle.leader_output.specs.declared.out.Own.TheVariants as owns
use Rattle.leader.specs.Leaders.{with_task, knows, joined, base, read_answered, is_spent, next_version}
use Rattle.leader.specs.Puts.{row_31, row_35, put_stored}
use Rattle.leader.specs.Rounds.{row_29, row_30, row_33, row_34, check_now}
use Rattle.leader.specs.Starts.{row_27, row_28, row_36}
use Rattle.leader.specs.declared.leader.Leader.{Leader}
use Rattle.leader.specs.declared.pending.Pending.TheVariants as tasks
use Rattle.quorums.specs.Rounds.{state_of}
use Rattle.quorums.specs.declared.round.Round.{Round}
use Rattle.quorums.specs.declared.round.RoundState.TheVariants.{Open, Met, AllAnswered}
use Rattle.register_model.specs.Registers.{outcome}
use Rattle.register_model.specs.declared.note.Note.TheVariants.{Proposed}
use Rattle.register_model.specs.declared.register.Register.TheVariants.{Absent}
use Rattle.phase_rows.specs.declared.phase.Seen.TheVariants as seens
use Rattle.phase_rows.specs.declared.rules.KeyRule.TheVariants as key_rules

-- rule 27, in a leader without a call
pub row_27_first : (from id : ℕ) (key : List ℕ) (command : Command) (l : Leader) → l.table.calls ≡ [] → row_27 from id key command false l ≡ (joined (record { from = from; id = id; key = key; command = command; age = 0 }) l, leads_on key_rules.StartCall key)
row_27_first from id key command l none = rw none refl

module _ (key : List ℕ) (w : Waiting) (l : Leader) (runs : running key l.table.calls ≡ Some w) where
  pub row_28_unknown : (row_at key l.table.rows).known ≡ knowns.Unknown → row_28 key seens.Nothing l ≡ (l, leads_on key_rules.Read key)
  row_28_unknown unknown = rw (runs, unknown) refl

  pub row_29_begins : is_spent l.round ≡ false → row_29 key seens.Nothing l ≡ (record l { round = l.round + 1 }, and_own (owns.Look key) rests)
  row_29_begins fresh = rw (runs, fresh) refl

  -- rule 30: the replies are no quorum, or all of them have no entry
  pub row_30_waits : (round : ℕ) (votes : Round) → (row_at key l.table.rows).stage ≡ stages.Reading round votes None → state_of votes ≡ Open → row_30 key l ≡ (l, rests)
  row_30_waits round votes stage open_yet = rw (runs, stage, open_yet) refl

  pub row_30_absent : (round : ℕ) (votes : Round) → (row_at key l.table.rows).stage ≡ stages.Reading round votes None → state_of votes ≡ Met → row_30 key l ≡ (with_task (tasks.Apply None) (knows key knowns.Absent l), leads_on key_rules.Apply key)
  row_30_absent round votes stage met = rw (runs, stage, met) refl

  pub row_30_all : (round : ℕ) (votes : Round) → (row_at key l.table.rows).stage ≡ stages.Reading round votes None → state_of votes ≡ AllAnswered → row_30 key l ≡ (with_task (tasks.Apply None) (knows key knowns.Absent l), leads_on key_rules.Apply key)
  row_30_all round votes stage met = rw (runs, stage, met) refl

  pub row_34_writes : (content : Option (List ℕ)) → l.task ≡ tasks.Apply None → verdict_of (outcome w.command Absent) ≡ Write content → row_34 key l ≡ (with_task (tasks.Write content (base key l)) l, leads_on key_rules.Write key)
  row_34_writes content task writes = rw (runs, task, writes) refl

  pub row_34_reads : (reply : Reply) → l.task ≡ tasks.Apply None → verdict_of (outcome w.command Absent) ≡ Answer reply → row_34 key l ≡ read_answered w reply key rests (with_task tasks.Nothing l)
  row_34_reads reply task answers = rw (runs, task, answers) refl

  abbrev pub object_of : Option (List ℕ) → Object
  object_of content = record { version = next_version l; stamp = next_version l; key = key; value = content }

  pub row_31_proposes : (content : Option (List ℕ)) (parent : Option Version) → l.task ≡ tasks.Write content parent → is_spent l.seq ≡ false → row_31 key l ≡ (record l { seq = l.seq + 1; task = tasks.Propose (object_of content) parent (Some w.id) }, leads_on key_rules.Put key)
  row_31_proposes content parent task fresh = rw (runs, task, fresh) refl

  pub row_33_checks : (reply : Reply) → l.task ≡ tasks.Check reply → is_spent l.round ≡ false → row_33 key l ≡ check_now reply w key (record l { round = l.round + 1; task = tasks.Nothing })
  row_33_checks reply task fresh = rw (runs, task, fresh) refl

module _ (key : List ℕ) (l : Leader) where
  pub row_35_asks : (o : Object) (parent : Option Version) (call : Option ℕ) → l.task ≡ tasks.Propose o parent call → row_35 key seens.Nothing l ≡ (with_task (tasks.Propose o parent call) l, and_own (owns.Put o) (and_note (Proposed key o.version parent call) rests))
  row_35_asks o parent call task = rw task refl

  pub row_35_stored : (o : Object) (parent : Option Version) (id : ℕ) (digest : List ℕ) → l.task ≡ tasks.Propose o parent (Some id) → row_35 key (seens.Stored digest) l ≡ put_stored o digest false key (with_task tasks.Nothing l)
  row_35_stored o parent id digest task = rw task refl

  pub row_36_ends : running key l.table.calls ≡ None → row_36 key l ≡ (l, rests)
  row_36_ends none = rw none refl
