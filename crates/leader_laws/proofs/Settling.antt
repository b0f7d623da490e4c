-- A put settles by a quorum.
use Rattle.std.proofs.Common.{◌≡◌, ◌∙◌, ◌&&◌, ap, sym, refl, subst, inl, inr, ℕ, Bool, true, false, is_none, if◌then◌else◌, List, [], ◌∷◌, ◌++◌, Option, Some, None}
use Rattle.std.proofs.lemmas.Bool.{and_parts}
use Rattle.ens_base.proofs.Orders.{version_same}
use Rattle.ens_base.specs.Lists.{◌∈◌}
use Rattle.ens_base.specs.Epochs.{same_version}
use Rattle.ens_base.specs.declared.command.Command.{Command}
use Rattle.ens_base.specs.declared.entry.Entry.{Entry}
use Rattle.ens_base.specs.declared.epoch.Epoch.{Epoch}
use Rattle.ens_base.specs.declared.epoch.Version.{Version}
use Rattle.stored_formats.specs.declared.object.Object.{Object}
use Rattle.wire_frames.specs.StoredFormats.{Fact}
use Rattle.phase_rows.specs.Orders.{is_same}
use Rattle.quorums.specs.Rounds.{begun, answered as heard_from, state_of}
use Rattle.quorums.specs.declared.round.Round.{Round}
use Rattle.quorums.specs.declared.round.RoundState.{RoundState}
use Rattle.quorums.specs.declared.round.RoundState.TheVariants.{Open, Met, AllAnswered}
use Rattle.register_model.specs.declared.note.Note.{Note}
use Rattle.register_model.specs.declared.note.Note.TheVariants.{Proposed, Settled}
use Rattle.wire_frames.specs.declared.message.Message.TheVariants as messages
use Rattle.phase_rows.specs.declared.phase.Seen.{Seen}
use Rattle.phase_rows.specs.declared.phase.Seen.TheVariants as seens
use Rattle.phase_rows.specs.declared.rules.KeyRule.{KeyRule}
use Rattle.phase_rows.specs.declared.rules.KeyRule.TheVariants as key_rules
use Rattle.phase_rows.proofs.Epochs.{same_epochs}
use Rattle.call_table.specs.Calls.{running}
use Rattle.call_table.specs.Rows.{row_at}
use Rattle.call_table.specs.declared.row.Stage.{Stage}
use Rattle.call_table.specs.declared.row.Stage.TheVariants as stages
use Rattle.call_table.specs.declared.waiting.Waiting.{Waiting}
use Rattle.leader_output.specs.Outs.{rests}
use Rattle.leader_output.specs.Sends.{tells_all}
use Rattle.leader_output.specs.declared.out.LeadOut.{LeadOut}
use Rattle.leader.specs.Leaders.{idle, with_task, knows, settled_as, new_leader}
use Rattle.leader.specs.Puts.{write_settled, settled_for, acknowledged, put_stored, put_for, acknowledged_by, row_35_reply}
use Rattle.leader.specs.Rounds.{row_29_reply, row_33_reply}
use Rattle.leader.specs.Rules.{lead_row}
use Rattle.leader.specs.Starts.{row_27}
use Rattle.leader_laws.specs.Steps.{Proposes, SettlesNothing, SettlesAlone, SettlesWith, CountsIn, CountsInOwnViews}
use Rattle.leader.specs.Ticks.{Finishing, row_5_calls, row_5_rest}
use Rattle.leader.specs.declared.leader.Leader.{Leader}
use Rattle.leader.specs.declared.pending.Pending.{Pending}
use Rattle.leader.specs.declared.pending.Pending.TheVariants as tasks
use Rattle.leader_laws.proofs.Joins.{row_27_joins}
use Rattle.leader_laws.proofs.Steps.{lead_step, row_29_reply_step, row_33_reply_step}
use Rattle.leader_laws.proofs.TimeOuts.{row_5_ticks}
use Rattle.leader_laws.proofs.Votes.{begun_quorum, answered_quorum}

-- ## What a put notes

-- the version that is noted is that of the object, and the round of its put is not open
record SettlesAt (o : Object) (state : RoundState) (key k : List ℕ) (version : Version) : Type 0 where
  on_key : k ≡ key
  of_object : o.version ≡ version
  closed : state ≡ Open → ⊥

-- a put notes nothing more once it has settled
settled_notes : (rewrite : Bool) (o : Object) (key : List ℕ) (answer : LeadOut) (l : Leader) → (settled_for rewrite o key answer l).1.notes ≡ answer.notes
settled_notes true o key answer l = refl
settled_notes false o key answer l = by_call (running key l.table.calls)
  where
    by_call : (call : Option Waiting) → (write_settled call o key answer l).1.notes ≡ answer.notes
    by_call None = refl
    by_call (Some w) = refl

only_note : (k key : List ℕ) (version own : Version) → Settled k version ∈ (Settled key own ∷ []) → (k ≡ key) × (own ≡ version)
only_note k key version own (inl e) = (cc, cc)
only_note k key version own (inr h) = absurd h

noted : (k key : List ℕ) (version own : Version) (notes : List Note) → notes ≡ Settled key own ∷ [] → Settled k version ∈ notes → (k ≡ key) × (own ≡ version)
noted k key version own notes e h = only_note k key version own (subst (λ (ns : List Note). Settled k version ∈ ns) e h)

acknowledged_settles : (state : RoundState) (o : Object) (digest : List ℕ) (acks : Round) (rewrite : Bool) (key k : List ℕ) (version : Version) (answer : LeadOut) (l : Leader)
    → answer.notes ≡ [] → Settled k version ∈ (acknowledged state o digest acks rewrite key answer l).1.notes → SettlesAt o state key k version
acknowledged_settles Open o digest acks rewrite key k version answer l none h = absurd (subst (λ (ns : List Note). Settled k version ∈ ns) none h)
acknowledged_settles Met o digest acks rewrite key k version answer l none h =
    let parts = noted k key version o.version _ (settled_notes rewrite o key _ (knows key (settled_as o.version o digest) l) ∙ ap (λ (ns : List Note). ns ++ Settled key o.version ∷ []) none) h in record { on_key = parts.0; of_object = parts.1; closed = λ e. absurd cc }
acknowledged_settles AllAnswered o digest acks rewrite key k version answer l none h =
    let parts = noted k key version o.version _ (settled_notes rewrite o key _ (knows key (settled_as o.version o digest) l) ∙ ap (λ (ns : List Note). ns ++ Settled key o.version ∷ []) none) h in record { on_key = parts.0; of_object = parts.1; closed = λ e. absurd cc }

-- ## Rule 35

stored_settles : (o : Object) (digest : List ℕ) (rewrite : Bool) (key k : List ℕ) (version : Version) (l : Leader)
    → Settled k version ∈ (put_stored o digest rewrite key l).1.notes → SettlesAt o (state_of (begun l.fact.views l.me)) key k version
stored_settles o digest rewrite key k version l h =
    acknowledged_settles (state_of (begun l.fact.views l.me)) o digest (begun l.fact.views l.me) rewrite key k version (tells_all l.me l.fact.views (messages.Put l.fact.epoch o) rests) l refl h

proposed_only : (k key : List ℕ) (version own : Version) (parent : Option Version) (call : Option ℕ) → Settled k version ∈ (Proposed key own parent call ∷ []) → ⊥
proposed_only k key version own parent call (inl e) = absurd cc
proposed_only k key version own parent call (inr h) = h

put_settles : (l : Leader) (task : Pending) (seen : Seen) (key k : List ℕ) (version : Version) → l.task ≡ task → Settled k version ∈ (put_for task seen key (with_task tasks.Nothing l)).1.notes → (k ≡ key) × SettlesAlone version seen l
put_settles l (tasks.Propose o parent call) (seens.Stored digest) key k version same h =
    let at = stored_settles o digest (is_none call) key k version (with_task tasks.Nothing l) h in
    (at.on_key, record { put = subst (λ (t : Pending). Proposes t version) (sym same) at.of_object; digest = digest; stored = refl; quorum = begun_quorum l.fact.views l.me at.closed })
put_settles l (tasks.Propose o parent call) seens.Nothing key k version same h = absurd (proposed_only k key version o.version parent call h)
put_settles l (tasks.Propose o parent call) (seens.Damaged at) key k version same h = absurd h
put_settles l (tasks.Propose o parent call) (seens.Held entry object) key k version same h = absurd h
put_settles l (tasks.Propose o parent call) (seens.Kept kept) key k version same h = absurd h
put_settles l tasks.Nothing seen key k version same h = absurd h
put_settles l (tasks.Write content parent) seen key k version same h = absurd h
put_settles l (tasks.Rewrite o) seen key k version same h = absurd h
put_settles l (tasks.Check reply) seen key k version same h = absurd h
put_settles l (tasks.Apply current) seen key k version same h = absurd h

-- of the rules on a key, rule 35 alone settles a put
pub key_settles : (rule : KeyRule) (key : List ℕ) (seen : Seen) (l : Leader) (k : List ℕ) (version : Version) → Settled k version ∈ (lead_row rule key seen l).1.notes → (rule ≡ key_rules.Put) × (k ≡ key) × SettlesAlone version seen l
key_settles rule key seen l k version h =
    let is : rule ≡ key_rules.Put = (lead_step rule key seen l).settles k version h in
    let parts = put_settles l l.task seen key k version refl (subst (λ (m : KeyRule). Settled k version ∈ (lead_row m key seen l).1.notes) is h) in (is, parts.0, parts.1)

-- ## Replies

stage_settles : (stage : Stage) (from : ℕ) (ballot : Epoch) (key : List ℕ) (version : Version) (l : Leader) (k : List ℕ) (settled : Version) → (row_at key l.table.rows).stage ≡ stage → CountsInOwnViews l
    → Settled k settled ∈ (acknowledged_by stage from ballot version key l).1.notes → (k ≡ key) × (settled ≡ version) × SettlesWith from ballot key version l
stage_settles (stages.Putting o digest acks rewrite) from ballot key version l k settled stage counts h = by_test (is_same ballot l.fact.epoch && same_version version o.version) refl h
  where
    by_test : (b : Bool) → (is_same ballot l.fact.epoch && same_version version o.version) ≡ b
        → Settled k settled ∈ (if b then acknowledged (state_of (heard_from from acks)) o digest (heard_from from acks) rewrite key rests l else idle l).1.notes → (k ≡ key) × (settled ≡ version) × SettlesWith from ballot key version l
    by_test true e h =
        let at = acknowledged_settles (state_of (heard_from from acks)) o digest (heard_from from acks) rewrite key k settled rests l refl h in
        let parts = and_parts (is_same ballot l.fact.epoch) (same_version version o.version) e in
        let put : version ≡ o.version = version_same version o.version parts.1 in (
          at.on_key,
          sym (put ∙ at.of_object),
          record {
            object = o;
            digest = digest;
            acks = acks;
            rewrite = rewrite;
            stage = stage;
            put = sym put;
            epoch = same_epochs ballot l.fact.epoch parts.0;
            quorum = answered_quorum l.fact.views acks from (subst (CountsIn l.fact.views) stage (counts key)) at.closed;
          },
        )
    by_test false e h = absurd h
stage_settles stages.Idle from ballot key version l k settled stage counts h = absurd h
stage_settles (stages.Reading asked votes best) from ballot key version l k settled stage counts h = absurd h
stage_settles (stages.Checking asked votes reply) from ballot key version l k settled stage counts h = absurd h

pub reply_settles : (from : ℕ) (ballot : Epoch) (key : List ℕ) (version : Version) (l : Leader) (k : List ℕ) (settled : Version) → CountsInOwnViews l
    → Settled k settled ∈ (row_35_reply from ballot key version l).1.notes → (k ≡ key) × (settled ≡ version) × SettlesWith from ballot key version l
reply_settles from ballot key version l k settled counts h = stage_settles (row_at key l.table.rows).stage from ballot key version l k settled refl counts h

-- ## Rules that settle nothing

without_notes : (notes : List Note) → notes ≡ [] → SettlesNothing notes
without_notes notes e k version h = subst (λ (ns : List Note). Settled k version ∈ ns) e h

pub joined_settles : (from id : ℕ) (key : List ℕ) (command : Command) (finishing : Bool) (l : Leader) → SettlesNothing (row_27 from id key command finishing l).1.notes
joined_settles from id key command finishing l = without_notes (row_27 from id key command finishing l).1.notes (row_27_joins from id key command finishing l).notes

pub got_settles : (from : ℕ) (ballot : Epoch) (round : ℕ) (key : List ℕ) (entry : Option Entry) (object : Option Object) (l : Leader) → SettlesNothing (row_29_reply from ballot round key entry object l).1.notes
got_settles from ballot round key entry object l k version h = let is : key_rules.Read ≡ key_rules.Put = (row_29_reply_step from ballot round key entry object l).settles k version h in absurd cc

pub checked_settles : (from : ℕ) (ballot : Epoch) (round : ℕ) (l : Leader) → SettlesNothing (row_33_reply from ballot round l).1.notes
checked_settles from ballot round l k version h = let is : key_rules.Check ≡ key_rules.Put = (row_33_reply_step from ballot round l).1.settles k version h in absurd cc

pub tick_settles : (finishing : Finishing) (l : Leader) → SettlesNothing (row_5_calls finishing l).1.notes
tick_settles finishing l = without_notes (row_5_calls finishing l).1.notes (row_5_ticks finishing l).notes

pub rest_settles : (finishing : Finishing) (fact : Fact) (l : Leader) → SettlesNothing (row_5_rest finishing fact l).notes
rest_settles finishing fact l k version h = h

-- ## The views in which a put is counted

pub new_counts : (fact : Fact) (me : ℕ) (accepts : List Bool) → CountsInOwnViews (new_leader fact me accepts)
unfolding row_at
new_counts fact me accepts k = tt
