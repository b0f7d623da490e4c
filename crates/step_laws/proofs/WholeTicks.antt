-- Calls that join, and ticks, keep the table of a leader whole.
use Rattle.std.specs.Prelude.{All}
use Rattle.std.proofs.Common.{◌≡◌, ◌+◌, ◌==◌, ◌||◌, ◌∙◌, ap, sym, refl, subst, inl, inr, ℕ, Bool, true, false, map, nat_le, if◌then◌else◌, List, [], ◌∷◌, ◌++◌, Option, Some, None, eqb-true, le_refl}
use Rattle.std.proofs.lemmas.Bool.{false≢true}
use Rattle.std.proofs.lemmas.List.Elements.{All-nil, All-cons}
use Rattle.ens_base.specs.declared.command.Command.{Command}
use Rattle.ens_base.specs.declared.reply.Reply.{Reply}
use Rattle.ens_base.specs.declared.reply.Reply.TheVariants as replies
use Rattle.stored_formats.specs.declared.fact.Fact.{Fact}
use Rattle.phase_rows.specs.declared.phase.Then.TheVariants.{OnKeys}
use Rattle.phase_rows.specs.declared.rules.KeyRule.TheVariants as key_rules
use Rattle.call_table.specs.Calls.{running, waiting_on, due, older}
use Rattle.call_table.specs.Rows.{Rows, row_at, check_at, check_round}
use Rattle.call_table.specs.Tables.{rested, rested_if, rested_all, without_due, late_put}
use Rattle.call_table.specs.declared.row.KeyRow.{KeyRow}
use Rattle.call_table.specs.declared.row.Stage.TheVariants as stages
use Rattle.call_table.specs.declared.table.CallTable.{CallTable}
use Rattle.call_table.specs.declared.waiting.DueCall.{DueCall}
use Rattle.call_table.specs.declared.waiting.Waiting.{Waiting}
use Rattle.leader_output.specs.Outs.{rests, leaves, comes, leads_on, and_answer}
use Rattle.leader_output.specs.declared.out.LeadOut.{LeadOut}
use Rattle.leader.specs.Leaders.{joined, new_leader}
use Rattle.leader.specs.Starts.{row_27}
use Rattle.leader_laws.specs.Steps.{IsCalm}
use Rattle.leader.specs.Ticks.{Finishing, is_late, aged, timed_out, row_5_calls}
use Rattle.step_laws.specs.Whole.{IsStage, IsIndexed, IsWhole, IsClear, StaysWhole}
use Rattle.leader.specs.declared.leader.Leader.{Leader}
use Rattle.step_laws.proofs.Indexed.{index_stays, index_ends}
use Rattle.leader_laws.proofs.Lookups.{stage_other, stage_here, nobody_waits}
use Rattle.leader_laws.proofs.TimeOuts.{without_due_rows, due_then, all_rested, HasKey}
use Rattle.leader.proofs.Cases.{either}
use Rattle.step_laws.proofs.Resting.{key_list, keys_of_due, timed_out_keys}
use Rattle.step_laws.proofs.KeepsWhole.{so_rests, so_goes}

-- ## A new leader

pub new_whole : (fact : Fact) (me : ℕ) (accepts : List Bool) → IsWhole (new_leader fact me accepts)
unfolding row_at check_at
new_whole fact me accepts = record { stages = λ k. tt; task = tt; index = record { found = λ k r e. absurd cc; only = λ k r e. absurd cc; rounds = tt } }

-- ## A call joins

-- the calls change, and nothing else
whole_calls : (l : Leader) (calls : List Waiting) → IsWhole l → IsWhole (record l { table = record l.table { calls = calls } })
whole_calls l calls h = record { stages = h.stages; task = h.task; index = index_stays l.round l.round l.table (record l.table { calls = calls }) (le_refl l.round) refl (λ k. refl) h.index }

refused_so : (key : List ℕ) (l : Leader) (from id : ℕ) (reply : Reply) → IsWhole l → StaysWhole key (l, and_answer from id reply rests)
refused_so key l from id reply whole = record { whole = whole; clear = All-nil (IsClear l); own = λ some. absurd (false≢true some) }

pub joined_so : (from id : ℕ) (key : List ℕ) (command : Command) (finishing : Bool) (l : Leader) → IsWhole l → IsCalm l.table → StaysWhole key (row_27 from id key command finishing l)
joined_so from id key command finishing l whole calm =
    either (λ (r : Leader × LeadOut). StaysWhole key r) finishing _ _ (refused_so key l from id replies.Unavailable whole)
    (either (λ (r : Leader × LeadOut). StaysWhole key r) (nat_le 16 (waiting_on key l.table.calls)) _ _ (refused_so key l from id replies.Busy whole)
    (joins (record { from = from; id = id; key = key; command = command; age = 0 }) (waiting_on key l.table.calls == 0) refl))
  where
    joins : (w : Waiting) (alone : Bool) → (waiting_on key l.table.calls == 0) ≡ alone → StaysWhole key (joined w l, if alone then leads_on key_rules.StartCall key else rests)
    joins w true e = (so_goes key (joined w l) _ (whole_calls l (l.table.calls ++ w ∷ []) whole) (ap check_round (calm key (nobody_waits key l.table.calls (eqb-true (waiting_on key l.table.calls) 0 e)))) refl refl).stays
    joins w false e = (so_rests key (joined w l) _ (whole_calls l (l.table.calls ++ w ∷ []) whole) refl refl refl).stays

-- ## A tick

rested_index : (key : List ℕ) (t : CallTable) (n : ℕ) → IsIndexed n t → IsIndexed n (rested key t)
unfolding rested
rested_index key t n index =
    index_ends key t (rested key t) n index (λ k off. ap (λ (row : KeyRow). check_round row.stage) (stage_other key k stages.Idle t.rows off)) (ap check_round (stage_here key stages.Idle t.rows)) refl

all_index : (ds : List DueCall) (t : CallTable) (n : ℕ) → IsIndexed n t → IsIndexed n (rested_all ds t)
all_index [] t n index = index
all_index (d ∷ ds) t n index = by_key d.running (all_index ds)
  where
    by_key : (key : Option (List ℕ)) → ((u : CallTable) (m : ℕ) → IsIndexed m u → IsIndexed m (rested_all ds u)) → IsIndexed n (rested_all ds (rested_if key t))
    by_key None later = later t n index
    by_key (Some key) later = later (rested key t) n (rested_index key t n index)

due_index : (t : CallTable) (n : ℕ) → IsIndexed n t → IsIndexed n (without_due t)
unfolding without_due
due_index t n index = index_stays n n (rested_all (due t.calls) t) (without_due t) (le_refl n) refl (λ k. refl) (all_index (due t.calls) t n index)

-- what holds of the keys of calls that are due holds of each key that is named
all_keys : (P : List ℕ → Type 0) (ds : List DueCall) → ((k : List ℕ) → HasKey k ds → P k) → All P (keys_of_due ds)
all_keys P [] each = All-nil P
all_keys P (d ∷ ds) each = by_key d.running refl (all_keys P ds (λ k has. each k (inr has)))
  where
    by_key : (key : Option (List ℕ)) → d.running ≡ key → All P (keys_of_due ds) → All P (key_list key ++ keys_of_due ds)
    by_key None e rest = rest
    by_key (Some key) e rest = All-cons P key (keys_of_due ds) (each key (inl e)) rest

due_clear : (k : List ℕ) (t : CallTable) → HasKey k (due t.calls) → check_round (row_at k (without_due t).rows).stage ≡ None
due_clear k t has = ap check_round (ap (λ (rows : Rows). (row_at k rows).stage) (without_due_rows t) ∙ all_rested (due t.calls) k t has)

-- a tick keeps the table whole, and no key that starts its next call checks
abbrev TicksWhole : Leader × LeadOut → Type 0
TicksWhole r = IsWhole r.0 × All (IsClear r.0) r.1.keys

ticks_by : (late : Bool) (l : Leader) → IsWhole l → TicksWhole (if late then (record l { table = aged l.table }, leaves) else (record l { table = without_due (aged l.table) }, timed_out (due (map older l.table.calls)) (comes (OnKeys key_rules.StartNextCall))))
ticks_by true l whole = (whole_calls l (map older l.table.calls) whole, All-nil (IsClear (record l { table = aged l.table })))
ticks_by false l whole =
    let before : IsWhole (record l { table = aged l.table }) = whole_calls l (map older l.table.calls) whole in (
      record {
        stages = λ k. due_then (IsStage l.fact.views) tt k (aged l.table) (before.stages k);
        task = whole.task;
        index = due_index (aged l.table) l.round before.index;
      },
      subst (λ (ks : List (List ℕ)). All (IsClear (record l { table = without_due (aged l.table) })) ks) (sym (timed_out_keys (due (map older l.table.calls)) (comes (OnKeys key_rules.StartNextCall))))
          (all_keys (IsClear (record l { table = without_due (aged l.table) })) (due (map older l.table.calls)) (λ k has. due_clear k (aged l.table) has)),
    )

pub tick_so : (finishing : Finishing) (l : Leader) → IsWhole l → IsWhole (row_5_calls finishing l).0 × All (IsClear (row_5_calls finishing l).0) (row_5_calls finishing l).1.keys
tick_so finishing l whole = ticks_by (late_put (aged l.table) || is_late finishing) l whole
