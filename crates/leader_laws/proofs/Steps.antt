-- What each rule on a key keeps to, and each reply of a member.
use Rattle.std.specs.Prelude.{IsSome}
use Rattle.std.proofs.Common.{◌≡◌, ◌<◌, ◌∙◌, ◌&&◌, sym, refl, subst, inl, lit<, ℕ, Bool, false, List, [], ◌∷◌, Option, Some, None}
use Rattle.ens_base.specs.Epochs.{same_version}
use Rattle.ens_base.specs.declared.entry.Entry.{Entry}
use Rattle.ens_base.specs.declared.epoch.Epoch.{Epoch}
use Rattle.ens_base.specs.declared.epoch.Version.{Version}
use Rattle.ens_base.specs.declared.reply.Reply.{Reply}
use Rattle.stored_formats.specs.declared.object.Object.{Object}
use Rattle.phase_rows.specs.Orders.{is_same}
use Rattle.quorums.specs.Rounds.{answered as heard_from, state_of}
use Rattle.quorums.specs.declared.round.Round.{Round}
use Rattle.quorums.specs.declared.round.RoundState.{RoundState}
use Rattle.quorums.specs.declared.round.RoundState.TheVariants.{Open, Met, AllAnswered}
use Rattle.phase_rows.specs.declared.phase.Seen.{Seen}
use Rattle.phase_rows.specs.declared.phase.Seen.TheVariants as seens
use Rattle.phase_rows.specs.declared.phase.Then.TheVariants.{Stay, OnKeys}
use Rattle.phase_rows.specs.declared.rules.KeyRule.{KeyRule}
use Rattle.phase_rows.specs.declared.rules.KeyRule.TheVariants as key_rules
use Rattle.call_table.specs.Best.{better}
use Rattle.call_table.specs.Calls.{running}
use Rattle.call_table.specs.Rows.{row_at, check_at}
use Rattle.call_table.specs.declared.row.Found.{Found}
use Rattle.call_table.specs.declared.row.Stage.{Stage}
use Rattle.call_table.specs.declared.row.Stage.TheVariants as stages
use Rattle.call_table.specs.declared.waiting.Waiting.{Waiting}
use Rattle.leader_output.specs.declared.out.LeadOut.{LeadOut}
use Rattle.leader.specs.Leaders.{with_task, stands}
use Rattle.leader.specs.Starts.{row_36}
use Rattle.leader.specs.Rounds.{counts, asked, heard, row_29_reply, row_30, row_33, goes_on_checking, stood, stood_at, row_33_reply, row_34}
use Rattle.leader.specs.Puts.{row_31, row_32, put_for, row_35, acknowledged_by, row_35_reply}
use Rattle.leader.specs.Rules.{lead_row}
use Rattle.leader_laws.specs.Measure.{turns_of, turns_again, turns_seen, task_turns}
use Rattle.leader_laws.specs.Steps.{ProposesAt, Runs, Fits, IsReady, IsCalm, IsAtRest, CountsIn}
use Rattle.leader.specs.declared.leader.Leader.{Leader}
use Rattle.leader.specs.declared.pending.Pending.{Pending}
use Rattle.leader.specs.declared.pending.Pending.TheVariants as tasks
use Rattle.leader_laws.proofs.Votes.{answered_on}
use Rattle.leader.proofs.Cases.{either}
use Rattle.leader_laws.proofs.Moves.{IsStep, stands_moves, none_may, goes, free, IsFree, room_at, idle_step, runs, on_ready}
use Rattle.leader_laws.proofs.Rows.{row_28_step, row_36_step, row_29_step, read_step, row_30_step, row_31_step, row_32_step, row_33_step, row_34_step, acknowledged_step, row_35_step}

-- ## Any rule on a key

some_of : (rule : KeyRule) → 0 < turns_of rule
some_of key_rules.StartCall = lit< tt
some_of key_rules.Read = lit< tt
some_of key_rules.EnoughReplies = lit< tt
some_of key_rules.Write = lit< tt
some_of key_rules.Rewrite = lit< tt
some_of key_rules.Check = lit< tt
some_of key_rules.Apply = lit< tt
some_of key_rules.Put = lit< tt
some_of key_rules.StartNextCall = lit< tt

some_again : (rule : KeyRule) → 0 < turns_again rule
some_again key_rules.StartCall = lit< tt
some_again key_rules.Read = lit< tt
some_again key_rules.EnoughReplies = lit< tt
some_again key_rules.Write = lit< tt
some_again key_rules.Rewrite = lit< tt
some_again key_rules.Check = lit< tt
some_again key_rules.Apply = lit< tt
some_again key_rules.Put = lit< tt
some_again key_rules.StartNextCall = lit< tt

pub some_turns : (rule : KeyRule) (seen : Seen) → 0 < turns_seen rule seen
some_turns rule seens.Nothing = some_of rule
some_turns rule (seens.Kept kept) = some_again rule
some_turns rule (seens.Damaged at) = some_again rule
some_turns rule (seens.Held entry object) = some_again rule
some_turns rule (seens.Stored d) = some_again rule

-- rule 30 and the like take nothing from the stores
blind : (rule : KeyRule) (key : List ℕ) (Ready : Type 0) (l : Leader) (r : Leader × LeadOut) (seen : Seen) → turns_again rule ≡ turns_of rule → IsStep rule key (turns_of rule) Ready l r → IsStep rule key (turns_seen rule seen) Ready l r
blind rule key Ready l r seens.Nothing e s = s
blind rule key Ready l r (seens.Kept kept) e s = subst (λ (size : ℕ). IsStep rule key size Ready l r) (sym e) s
blind rule key Ready l r (seens.Damaged at) e s = subst (λ (size : ℕ). IsStep rule key size Ready l r) (sym e) s
blind rule key Ready l r (seens.Held entry object) e s = subst (λ (size : ℕ). IsStep rule key size Ready l r) (sym e) s
blind rule key Ready l r (seens.Stored d) e s = subst (λ (size : ℕ). IsStep rule key size Ready l r) (sym e) s

-- each rule on a key
pub lead_step : (rule : KeyRule) (key : List ℕ) (seen : Seen) (l : Leader) → IsStep rule key (turns_seen rule seen) (IsReady rule key l) l (lead_row rule key seen l)
lead_step key_rules.StartCall key seen l = row_28_step key seen l
lead_step key_rules.Read key seen l = row_29_step key seen l
lead_step key_rules.EnoughReplies key seen l = blind key_rules.EnoughReplies key (IsReady key_rules.EnoughReplies key l) l (row_30 key l) seen refl (row_30_step key l)
lead_step key_rules.Write key seen l = blind key_rules.Write key (IsReady key_rules.Write key l) l (row_31 key l) seen refl (row_31_step key l)
lead_step key_rules.Rewrite key seen l = blind key_rules.Rewrite key (IsReady key_rules.Rewrite key l) l (row_32 key l) seen refl (row_32_step key l)
lead_step key_rules.Check key seen l = blind key_rules.Check key (IsReady key_rules.Check key l) l (row_33 key l) seen refl (row_33_step key l)
lead_step key_rules.Apply key seen l = blind key_rules.Apply key (IsReady key_rules.Apply key l) l (row_34 key l) seen refl (row_34_step key l)
lead_step key_rules.Put key seen l = row_35_step key seen l
lead_step key_rules.StartNextCall key seen l = blind key_rules.StartNextCall key (IsReady key_rules.StartNextCall key l) l (row_36 key l) seen refl (row_36_step key l)

-- ## Replies of the members

no_stage : (key : List ℕ) (l : Leader) (stage : Stage) → (stage ≡ stages.Idle → ⊥) → (row_at key l.table.rows).stage ≡ stage → IsCalm l.table → Runs key l
no_stage key l stage busy e calm = by_call (running key l.table.calls) refl
  where
    by_call : (call : Option Waiting) → running key l.table.calls ≡ call → IsSome call
    by_call None none = absurd (busy (sym e ∙ calm key none))
    by_call (Some w) one = refl

between : (key : List ℕ) (l : Leader) (stage : Stage) → (stage ≡ stages.Idle → ⊥) → (row_at key l.table.rows).stage ≡ stage → IsAtRest l → IsFree key l
between key l stage busy e rest = (rest.task, no_stage key l stage busy e rest.calm)

reading : (round : ℕ) (votes : Round) (best : Option Found) → stages.Reading round votes best ≡ stages.Idle → ⊥
reading round votes best e = absurd cc

putting : (o : Object) (digest : List ℕ) (acks : Round) (rewrite : Bool) → stages.Putting o digest acks rewrite ≡ stages.Idle → ⊥
putting o digest acks rewrite e = absurd cc

-- the stage of a key after one more reply
abbrev hears : ℕ → ℕ → Round → Option Found → Option Entry → Option Object → Stage
hears from asked votes best entry object = stages.Reading asked (heard_from from votes) (better best entry object)

heard_step : (key : List ℕ) (l : Leader) (stage : Stage) (from : ℕ) (ballot : Epoch) (round : ℕ) (entry : Option Entry) (object : Option Object) → (row_at key l.table.rows).stage ≡ stage
    → IsStep key_rules.Read key 9 (IsAtRest l) l (heard stage from ballot round key entry object l)
heard_step key l (stages.Reading asked votes best) from ballot round entry object e = either (λ (r : Leader × LeadOut). IsStep key_rules.Read key 9 (IsAtRest l) l r) (counts ballot round asked l) _ _
    (goes key_rules.Read 9 key (IsAtRest l) l (stands key (hears from asked votes best entry object) l) false [] [] None (OnKeys key_rules.EnoughReplies) (key ∷ []) (stands_moves key (hears from asked votes best entry object) l (λ before. tt)) (none_may l.me) refl tt tt (room_at 8 9 (task_turns l.task) (lit< tt))
    (λ rest. free key_rules.EnoughReplies key (stands key (hears from asked votes best entry object) l) refl rest.task) (inl (λ rest. no_stage key l (stages.Reading asked votes best) (reading asked votes best) e rest.calm)))
    (idle_step key_rules.Read 9 key (IsAtRest l) l (lit< tt) (λ rest. rest.task))
heard_step key l stages.Idle from ballot round entry object e = idle_step key_rules.Read 9 key (IsAtRest l) l (lit< tt) (λ rest. rest.task)
heard_step key l (stages.Checking asked votes reply) from ballot round entry object e = idle_step key_rules.Read 9 key (IsAtRest l) l (lit< tt) (λ rest. rest.task)
heard_step key l (stages.Putting o digest acks rewrite) from ballot round entry object e = idle_step key_rules.Read 9 key (IsAtRest l) l (lit< tt) (λ rest. rest.task)

pub row_29_reply_step : (from : ℕ) (ballot : Epoch) (round : ℕ) (key : List ℕ) (entry : Option Entry) (object : Option Object) (l : Leader) → IsStep key_rules.Read key 9 (IsAtRest l) l (row_29_reply from ballot round key entry object l)
row_29_reply_step from ballot round key entry object l = heard_step key l (row_at key l.table.rows).stage from ballot round entry object refl

goes_on_checking_step : (key : List ℕ) (l : Leader) (w : Waiting) (state : RoundState) (round : ℕ) (votes : Round) (reply : Reply) → running key l.table.calls ≡ Some w → IsStep key_rules.Check key 1 (IsFree key l) l (goes_on_checking state round votes reply w key l)
goes_on_checking_step key l w Open round votes reply e =
    goes key_rules.Check 1 key (IsFree key l) l (stands key (stages.Checking round votes reply) l) false [] [] None Stay [] (stands_moves key (stages.Checking round votes reply) l (λ before. tt)) (none_may l.me) refl tt tt
    (room_at 0 1 (task_turns l.task) (lit< tt)) (λ before. before.0) (inl (λ before. before.1))
goes_on_checking_step key l w Met round votes reply e = read_step key_rules.Check 1 key l w reply [] e (none_may l.me) (lit< tt)
goes_on_checking_step key l w AllAnswered round votes reply e = read_step key_rules.Check 1 key l w reply [] e (none_may l.me) (lit< tt)

stood_step : (key : List ℕ) (l : Leader) (call : Option Waiting) (stage : Stage) (from : ℕ) (ballot : Epoch) (round : ℕ) → running key l.table.calls ≡ call → IsStep key_rules.Check key 1 (IsAtRest l) l (stood call stage from ballot round key l)
stood_step key l None stage from ballot round e = idle_step key_rules.Check 1 key (IsAtRest l) l (lit< tt) (λ rest. rest.task)
stood_step key l (Some w) (stages.Checking asked votes reply) from ballot round e = either (λ (r : Leader × LeadOut). IsStep key_rules.Check key 1 (IsAtRest l) l r) (counts ballot round asked l) _ _
    (on_ready key_rules.Check 1 key (IsFree key l) (IsAtRest l) l _ (λ rest. (rest.task, runs key l.table.calls w e)) (goes_on_checking_step key l w (state_of (heard_from from votes)) asked (heard_from from votes) reply e))
    (idle_step key_rules.Check 1 key (IsAtRest l) l (lit< tt) (λ rest. rest.task))
stood_step key l (Some w) stages.Idle from ballot round e = idle_step key_rules.Check 1 key (IsAtRest l) l (lit< tt) (λ rest. rest.task)
stood_step key l (Some w) (stages.Reading asked votes best) from ballot round e = idle_step key_rules.Check 1 key (IsAtRest l) l (lit< tt) (λ rest. rest.task)
stood_step key l (Some w) (stages.Putting o digest acks rewrite) from ballot round e = idle_step key_rules.Check 1 key (IsAtRest l) l (lit< tt) (λ rest. rest.task)

-- a reply to a check is about the key that checks in that round, or nothing happens
pub row_33_reply_step : (from : ℕ) (ballot : Epoch) (round : ℕ) (l : Leader) → (key : List ℕ) × IsStep key_rules.Check key 1 (IsAtRest l) l (row_33_reply from ballot round l)
row_33_reply_step from ballot round l = by_key (check_at round l.table.checks)
  where
    by_key : (found : Option (List ℕ)) → (key : List ℕ) × IsStep key_rules.Check key 1 (IsAtRest l) l (stood_at found from ballot round l)
    by_key None = ([], idle_step key_rules.Check 1 [] (IsAtRest l) l (lit< tt) (λ rest. rest.task))
    by_key (Some key) = (key, stood_step key l (running key l.table.calls) (row_at key l.table.rows).stage from ballot round refl)

acknowledged_by_step : (key : List ℕ) (l : Leader) (stage : Stage) (from : ℕ) (ballot : Epoch) (version : Version) → (row_at key l.table.rows).stage ≡ stage → IsStep key_rules.Put key 5 (IsAtRest l) l (acknowledged_by stage from ballot version key l)
acknowledged_by_step key l (stages.Putting o digest acks rewrite) from ballot version e = either (λ (r : Leader × LeadOut). IsStep key_rules.Put key 5 (IsAtRest l) l r) (is_same ballot l.fact.epoch && same_version version o.version) _ _
    (on_ready key_rules.Put 5 key (IsFree key l) (IsAtRest l) l _ (between key l (stages.Putting o digest acks rewrite) (putting o digest acks rewrite) e)
    (acknowledged_step 5 key l (state_of (heard_from from acks)) o digest (heard_from from acks) rewrite [] (λ before. answered_on acks from ∙ subst (CountsIn l.fact.views) e (before key)) (none_may l.me) (λ held. lit< tt) (lit< tt)))
    (idle_step key_rules.Put 5 key (IsAtRest l) l (lit< tt) (λ rest. rest.task))
acknowledged_by_step key l stages.Idle from ballot version e = idle_step key_rules.Put 5 key (IsAtRest l) l (lit< tt) (λ rest. rest.task)
acknowledged_by_step key l (stages.Reading asked votes best) from ballot version e = idle_step key_rules.Put 5 key (IsAtRest l) l (lit< tt) (λ rest. rest.task)
acknowledged_by_step key l (stages.Checking asked votes reply) from ballot version e = idle_step key_rules.Put 5 key (IsAtRest l) l (lit< tt) (λ rest. rest.task)

pub row_35_reply_step : (from : ℕ) (ballot : Epoch) (key : List ℕ) (version : Version) (l : Leader) → IsStep key_rules.Put key 5 (IsAtRest l) l (row_35_reply from ballot key version l)
row_35_reply_step from ballot key version l = acknowledged_by_step key l (row_at key l.table.rows).stage from ballot version refl

-- ## Proposals

proposes_for : (key : List ℕ) (l m : Leader) (task : Pending) → Fits key_rules.Put key l task → ProposesAt l (put_for task seens.Nothing key m).1.notes
proposes_for key l m (tasks.Propose o parent call) fits = fits.3
proposes_for key l m tasks.Nothing fits = tt
proposes_for key l m (tasks.Write content parent) fits = tt
proposes_for key l m (tasks.Rewrite o) fits = tt
proposes_for key l m (tasks.Check reply) fits = tt
proposes_for key l m (tasks.Apply current) fits = tt

-- rule 35 proposes the version of the last number
pub proposes_35 : (key : List ℕ) (l : Leader) → IsReady key_rules.Put key l → ProposesAt l (row_35 key seens.Nothing l).1.notes
proposes_35 key l ready = proposes_for key l (with_task tasks.Nothing l) l.task ready
