-- A leader without calls does nothing, and what is kept in each step.
use Rattle.std.specs.Prelude.{IsSome}
use Rattle.std.proofs.lemmas.Bool.{true≢false}
use Rattle.std.proofs.Common.{is_some, ◌≡◌, ◌⊎◌, ◌||◌, ◌∙◌, ap, sym, refl, subst, inl, inr, ℕ, Bool, true, false, map, if◌then◌else◌, List, [], ◌∷◌, Option, Some, None}
use Rattle.ens_base.specs.Lists.{same_bytes}
use Rattle.ens_base.proofs.Lists.{bytes_same}
use Rattle.ens_base.specs.declared.entry.Entry.{Entry}
use Rattle.ens_base.specs.declared.epoch.Epoch.{Epoch}
use Rattle.ens_base.specs.declared.epoch.Version.{Version}
use Rattle.stored_formats.specs.declared.object.Object.{Object}
use Rattle.register_model.specs.declared.note.Note.{Note}
use Rattle.phase_rows.specs.declared.phase.Seen.{Seen}
use Rattle.phase_rows.specs.declared.phase.Then.TheVariants.{OnKeys}
use Rattle.phase_rows.specs.declared.rules.KeyRule.{KeyRule}
use Rattle.phase_rows.specs.declared.rules.KeyRule.TheVariants as key_rules
use Rattle.call_table.specs.Calls.{has_calls, running, without_running, older, due, not_due}
use Rattle.call_table.specs.Rows.{row_at, check_at}
use Rattle.call_table.specs.Late.{late_put_after}
use Rattle.call_table.specs.Tables.{without_due, late_put, rested_all}
use Rattle.call_table.specs.declared.row.KeyRow.{KeyRow}
use Rattle.call_table.specs.declared.row.Stage.{Stage}
use Rattle.call_table.specs.declared.row.Stage.TheVariants as stages
use Rattle.call_table.specs.declared.table.CallTable.{CallTable}
use Rattle.call_table.specs.declared.waiting.DueCall.{DueCall}
use Rattle.call_table.specs.declared.waiting.Waiting.{Waiting}
use Rattle.leader_output.specs.Outs.{leaves, comes}
use Rattle.leader_output.specs.declared.out.AnswerOut.{AnswerOut}
use Rattle.leader_output.specs.declared.out.LeadOut.{LeadOut}
use Rattle.leader.specs.Leaders.{idle, with_task}
use Rattle.leader.specs.Starts.{started, row_28, next_call, row_36}
use Rattle.leader.specs.Rounds.{asked_for, row_29, heard, row_29_reply, gathered_for, row_30, checked_for, row_33, stood, stood_at, row_33_reply, applied_for, row_34}
use Rattle.leader.specs.Puts.{written_for, row_31, rewritten, row_32, put_for, row_35, acknowledged_by, row_35_reply}
use Rattle.leader.specs.Rules.{lead_row}
use Rattle.leader_laws.specs.Steps.{Serves, IsEnded, KeepsOthers, Runs, IsCalm}
use Rattle.leader.specs.Ticks.{Finishing, is_late, aged, timed_out, after_ages, row_5_calls}
use Rattle.leader.specs.declared.leader.Leader.{Leader}
use Rattle.leader.specs.declared.pending.Pending.{Pending}
use Rattle.leader.specs.declared.pending.Pending.TheVariants as tasks
use Rattle.leader_laws.proofs.Lookups.{running_other}
use Rattle.leader_laws.proofs.Moves.{IsStep}

-- ## No call

pub no_calls : (calls : List Waiting) → has_calls calls ≡ false → calls ≡ []
no_calls [] e = refl
no_calls (w ∷ ws) e = absurd cc

nobody_runs : (key : List ℕ) (l : Leader) → has_calls l.table.calls ≡ false → running key l.table.calls ≡ None
nobody_runs key l e = ap (running key) (no_calls l.table.calls e)

taken_idle : (l : Leader) → l.task ≡ tasks.Nothing → idle (with_task tasks.Nothing l) ≡ idle l
taken_idle l none = ap (λ (t : Pending). idle (with_task t l)) (sym none)

module _ (l : Leader) (empty : has_calls l.table.calls ≡ false) (none : l.task ≡ tasks.Nothing) where
  row_28_idle : (key : List ℕ) (seen : Seen) → row_28 key seen l ≡ idle l
  row_28_idle key seen = ap (λ (call : Option Waiting). started call seen key l) (nobody_runs key l empty)

  row_29_idle : (key : List ℕ) (seen : Seen) → row_29 key seen l ≡ idle l
  row_29_idle key seen = ap (λ (call : Option Waiting). asked_for call seen key l) (nobody_runs key l empty)

  row_30_idle : (key : List ℕ) → row_30 key l ≡ idle l
  row_30_idle key = ap (λ (call : Option Waiting). gathered_for call key l) (nobody_runs key l empty)

  row_31_idle : (key : List ℕ) → row_31 key l ≡ idle l
  row_31_idle key = ap (λ (call : Option Waiting). written_for call l.task key (with_task tasks.Nothing l)) (nobody_runs key l empty) ∙ taken_idle l none

  row_32_idle : (key : List ℕ) → row_32 key l ≡ idle l
  row_32_idle key = ap (λ (t : Pending). rewritten t key (with_task tasks.Nothing l)) none ∙ taken_idle l none

  row_33_idle : (key : List ℕ) → row_33 key l ≡ idle l
  row_33_idle key = ap (λ (call : Option Waiting). checked_for call l.task key (with_task tasks.Nothing l)) (nobody_runs key l empty) ∙ taken_idle l none

  row_34_idle : (key : List ℕ) → row_34 key l ≡ idle l
  row_34_idle key = ap (λ (call : Option Waiting). applied_for call l.task key (with_task tasks.Nothing l)) (nobody_runs key l empty) ∙ taken_idle l none

  row_35_idle : (key : List ℕ) (seen : Seen) → row_35 key seen l ≡ idle l
  row_35_idle key seen = ap (λ (t : Pending). put_for t seen key (with_task tasks.Nothing l)) none ∙ taken_idle l none

  row_36_idle : (key : List ℕ) → row_36 key l ≡ idle l
  row_36_idle key = ap (λ (call : Option Waiting). (l, next_call call key)) (nobody_runs key l empty)

  pub lead_row_idle : (rule : KeyRule) (key : List ℕ) (seen : Seen) → lead_row rule key seen l ≡ idle l
  lead_row_idle key_rules.StartCall key seen = row_28_idle key seen
  lead_row_idle key_rules.Read key seen = row_29_idle key seen
  lead_row_idle key_rules.EnoughReplies key seen = row_30_idle key
  lead_row_idle key_rules.Write key seen = row_31_idle key
  lead_row_idle key_rules.Rewrite key seen = row_32_idle key
  lead_row_idle key_rules.Check key seen = row_33_idle key
  lead_row_idle key_rules.Apply key seen = row_34_idle key
  lead_row_idle key_rules.Put key seen = row_35_idle key seen
  lead_row_idle key_rules.StartNextCall key seen = row_36_idle key

  module _ (calm : IsCalm l.table) where
    stage_idle : (key : List ℕ) → (row_at key l.table.rows).stage ≡ stages.Idle
    stage_idle key = calm key (nobody_runs key l empty)

    pub row_29_reply_idle : (from : ℕ) (ballot : Epoch) (round : ℕ) (key : List ℕ) (entry : Option Entry) (object : Option Object) → row_29_reply from ballot round key entry object l ≡ idle l
    row_29_reply_idle from ballot round key entry object = ap (λ (s : Stage). heard s from ballot round key entry object l) (stage_idle key)

    pub row_33_reply_idle : (from : ℕ) (ballot : Epoch) (round : ℕ) → row_33_reply from ballot round l ≡ idle l
    row_33_reply_idle from ballot round = by_key (check_at round l.table.checks)
      where
        by_key : (found : Option (List ℕ)) → stood_at found from ballot round l ≡ idle l
        by_key None = refl
        by_key (Some key) = ap (λ (call : Option Waiting). stood call (row_at key l.table.rows).stage from ballot round key l) (nobody_runs key l empty)

    pub row_35_reply_idle : (from : ℕ) (ballot : Epoch) (key : List ℕ) (version : Version) → row_35_reply from ballot key version l ≡ idle l
    row_35_reply_idle from ballot key version = ap (λ (s : Stage). acknowledged_by s from ballot version key l) (stage_idle key)

-- ## What is kept

module _ (key : List ℕ) (old new : CallTable) (others : KeepsOthers key old new) (runs : IsSome (running key old.calls)) (calm : IsCalm old) where
  other_calm : (k : List ℕ) → same_bytes key k ≡ false → running k old.calls ≡ None → (row_at k new.rows).stage ≡ stages.Idle
  other_calm k off none = ap (λ (row : KeyRow). row.stage) (others k off) ∙ calm k none

  key_runs : (k : List ℕ) → same_bytes key k ≡ true → running k old.calls ≡ None → ⊥
  key_runs k on none =
      let here : running key old.calls ≡ None = subst (λ (q : List ℕ). running q old.calls ≡ None) (sym (bytes_same key k on)) none in
      absurd (true≢false (sym runs ∙ ap is_some here))

  same_calls : new.calls ≡ old.calls → IsCalm new
  same_calls same k none = by_key (same_bytes key k) refl (sym (ap (running k) same) ∙ none)
    where
      by_key : (b : Bool) → same_bytes key k ≡ b → running k old.calls ≡ None → (row_at k new.rows).stage ≡ stages.Idle
      by_key true on before = absurd (key_runs k on before)
      by_key false off before = other_calm k off before

  one_ended : (w : Waiting) → IsEnded key old new w → IsCalm new
  one_ended w is k none = by_key (same_bytes key k) refl (sym (ap (running k) is.calls) ∙ none)
    where
      by_key : (b : Bool) → same_bytes key k ≡ b → running k (without_running key old.calls) ≡ None → (row_at k new.rows).stage ≡ stages.Idle
      by_key true on after = subst (λ (q : List ℕ). (row_at q new.rows).stage ≡ stages.Idle) (bytes_same key k on) is.idle
      by_key false off after = other_calm k off (sym (running_other key k old.calls off) ∙ after)

  served : (answers : List AnswerOut) (notes : List Note) → Serves key old new answers notes → IsCalm new
  served [] notes serves = same_calls serves.0
  served (a ∷ []) notes serves = one_ended serves.0 serves.1
  served (a ∷ b ∷ answers) notes serves = absurd serves

-- after a step on a key, a key without a call is idle if that was so before
pub calm_kept : (rule : KeyRule) (key : List ℕ) (size : ℕ) (Ready : Type 0) (l : Leader) (r : Leader × LeadOut) → IsStep rule key size Ready l r → Ready → IsCalm l.table → IsCalm r.0.table
calm_kept rule key size Ready l r s ready calm = by_kept s.kept
  where
    by_kept : (Ready → Runs key l) ⊎ (r.0.table ≡ l.table) → IsCalm r.0.table
    by_kept (inl runs) = served key l.table r.0.table s.others (runs ready) calm r.1.answers r.1.notes s.serves
    by_kept (inr e) = subst IsCalm (sym e) calm

-- ## Rule 5 without calls

with_calls_same : (t : CallTable) (calls : List Waiting) → t.calls ≡ [] → calls ≡ [] → record t { calls = calls } ≡ t
with_calls_same t calls none same = ap (λ (cs : List Waiting). record t { calls = cs }) (same ∙ sym none)

aged_empty : (t : CallTable) → t.calls ≡ [] → aged t ≡ t
aged_empty t none = with_calls_same t (map older t.calls) none (ap (map older) none)

empty_without_due : (t : CallTable) → t.calls ≡ [] → without_due t ≡ t
unfolding without_due
empty_without_due t none =
    ap (λ (ds : List DueCall). record (rested_all ds t) { calls = not_due (rested_all ds t).calls }) (ap due none) ∙ with_calls_same t (not_due t.calls) none (ap not_due none)

empty_late : (t : CallTable) → t.calls ≡ [] → late_put t ≡ false
unfolding late_put
empty_late t none = ap (late_put_after t.rows []) none

-- the leader with this table, and the answers to these calls
abbrev paired : Leader → CallTable → List DueCall → Leader × LeadOut
paired l t ds = (record l { table = t }, timed_out ds (comes (OnKeys key_rules.StartNextCall)))

abbrev ages_by : Bool → Leader → Leader × LeadOut
ages_by b l = if b then (l, leaves) else paired l (without_due l.table) (due l.table.calls)

abbrev pub ends_by : Bool → Leader → Leader × LeadOut
ends_by b l = (l, if b then leaves else comes (OnKeys key_rules.StartNextCall))

late_empty : (b : Bool) (l : Leader) → l.table.calls ≡ [] → ages_by b l ≡ ends_by b l
late_empty true l none = refl
late_empty false l none = ap (λ (t : CallTable). paired l t (due l.table.calls)) (empty_without_due l.table none) ∙ ap (λ (ds : List DueCall). paired l l.table ds) (ap due none)

after_empty : (finishing : Finishing) (l : Leader) → l.table.calls ≡ [] → after_ages finishing l ≡ ends_by (is_late finishing) l
after_empty finishing l none = ap (λ (b : Bool). ages_by (b || is_late finishing) l) (empty_late l.table none) ∙ late_empty (is_late finishing) l none

row_5_empty : (finishing : Finishing) (l : Leader) → l.table.calls ≡ [] → row_5_calls finishing l ≡ ends_by (is_late finishing) l
row_5_empty finishing l none = ap (λ (t : CallTable). after_ages finishing (record l { table = t })) (aged_empty l.table none) ∙ after_empty finishing l none

-- without calls a tick only has its second half
pub row_5_idle : (finishing : Finishing) (l : Leader) → has_calls l.table.calls ≡ false → row_5_calls finishing l ≡ ends_by (is_late finishing) l
row_5_idle finishing l empty = row_5_empty finishing l (no_calls l.table.calls empty)
