-- Which rows leave a leader at rest, or ready for the rule that they name.
use Rattle.std.proofs.Common.{◌≡◌, ◌&&◌, refl, sym, subst, ℕ, Bool, true, false, List, Option, Some, None}
use Rattle.call_table.specs.Rows.{row_at}
use Rattle.call_table.specs.Tables.{empty_table}
use Rattle.call_table.specs.declared.row.Stage.{Stage}
use Rattle.call_table.specs.declared.row.Stage.TheVariants as stages
use Rattle.call_table.specs.declared.waiting.Waiting.{Waiting}
use Rattle.call_table.specs.Calls.{running}
use Rattle.ens_base.specs.Epochs.{same_version}
use Rattle.ens_base.specs.declared.epoch.Epoch.{Epoch}
use Rattle.ens_base.specs.declared.epoch.Version.{Version}
use Rattle.stored_formats.specs.declared.object.Object.{Object}
use Rattle.leader_output.specs.Outs.{rests as no_out, and_note}
use Rattle.leader_output.specs.declared.out.LeadOut.{LeadOut}
use Rattle.leader_output.specs.declared.out.Own.{Own}
use Rattle.leader_output.specs.declared.out.Own.TheVariants as owns
use Rattle.leader.specs.Leaders.{new_leader, with_task, knows, settled_as}
use Rattle.leader.specs.Puts.{write_settled, settled_for, acknowledged, put_seen, put_for, row_35, acknowledged_by, row_35_reply}
use Rattle.leader.specs.Rules.{lead_row}
use Rattle.leader_laws.specs.Steps.{AsksOn, Fits, IsReady, IsCalm, IsAtRest}
use Rattle.leader.specs.declared.leader.Leader.{Leader}
use Rattle.leader.specs.declared.pending.Pending.{Pending}
use Rattle.leader.specs.declared.pending.Pending.TheVariants as pendings
use Rattle.leader.proofs.Cases.{either}
use Rattle.leader_laws.proofs.Steps.{lead_step}
use Rattle.stored_formats.specs.declared.fact.Fact.{Fact}
use Rattle.peer_spec.specs.Drives.{own_key}
use Rattle.peer_state.specs.Moves.{stopped_leading, without_candidacy, left, turned}
use Rattle.peer_state.specs.Rows.{aged, accepted_by, asked_change, phase_row, received}
use Rattle.peer_state.specs.declared.state.Phase.{Phase}
use Rattle.peer_state.specs.declared.state.State.{State}
use Rattle.phase_rows.specs.Orders.{is_same}
use Rattle.phase_rows.specs.declared.phase.Seen.{Seen}
use Rattle.phase_rows.specs.declared.phase.Seen.TheVariants as seens
use Rattle.phase_rows.specs.declared.phase.Then.{Then}
use Rattle.phase_rows.specs.declared.rules.KeyRule.{KeyRule}
use Rattle.phase_rows.specs.declared.rules.KeyRule.TheVariants as key_rules
use Rattle.phase_rows.specs.declared.rules.PhaseRule.{PhaseRule}
use Rattle.quorums.specs.Rounds.{state_of, begun, answered as heard_from}
use Rattle.quorums.specs.declared.round.Round.{Round}
use Rattle.quorums.specs.declared.round.RoundState.{RoundState}
use Rattle.quorums.specs.declared.round.RoundState.TheVariants.{Open, Met, AllAnswered}
use Rattle.register_model.specs.declared.note.Note.TheVariants.{Settled as Settles}
use Rattle.wire_frames.specs.declared.message.Message.{Message}
use Rattle.step_laws.specs.Resting.{IsResting}
use Rattle.step_laws.proofs.Phased.{left_keeps, untrusted_keeps, turned_keeps, phase_row_keeps, received_keeps, aged_keeps, asked_keeps}

-- ## Phases

new_calm : IsCalm empty_table
unfolding row_at
new_calm k none = refl

new_rests : (fact : Fact) (me : ℕ) (accepts : List Bool) → IsAtRest (new_leader fact me accepts)
new_rests fact me accepts = record { task = refl; calm = new_calm }

accepted_rests : (from : ℕ) (l : Leader) → IsAtRest l → IsAtRest (accepted_by from l)
accepted_rests from l rests = record { task = rests.task; calm = rests.calm }

pub left_rests : (leave : Bool) (x : State) → IsResting x.phase → IsResting (left leave x).phase
left_rests = left_keeps IsAtRest new_rests accepted_rests

pub untrusted_rests : (phase : Phase) → IsResting (without_candidacy (stopped_leading phase))
untrusted_rests = untrusted_keeps IsAtRest new_rests accepted_rests

pub turned_rests : (me : ℕ) (t : Then) (x : State) → IsResting x.phase → IsResting (turned me t x).phase
turned_rests = turned_keeps IsAtRest new_rests accepted_rests

pub phase_row_rests : (rule : PhaseRule) (me : ℕ) (x : State) → IsResting x.phase → IsResting (phase_row rule me x).0.phase
phase_row_rests = phase_row_keeps IsAtRest new_rests accepted_rests

pub received_rests : (me from : ℕ) (message : Message) (x : State) → IsResting x.phase → IsResting (received me from message x).0.phase
received_rests = received_keeps IsAtRest new_rests accepted_rests

pub aged_rests : (phase : Phase) (me : ℕ) (x : State) → IsResting x.phase → IsResting (aged phase me x).0.phase
aged_rests = aged_keeps IsAtRest new_rests accepted_rests

pub asked_rests : (view : List ℕ) (x : State) → IsResting x.phase → IsResting (asked_change view x).0.phase
asked_rests = asked_keeps IsAtRest new_rests accepted_rests

-- ## What a rule of a leader asks the stores is about its key

abbrev pub OwnOn : List ℕ → Option Own → Type 0
OwnOn key None = Unit {0}
OwnOn key (Some own) = own_key own ≡ key

write_asks : (call : Option Waiting) (o : Object) (key : List ℕ) (out : LeadOut) (l : Leader) → out.own ≡ None → (write_settled call o key out l).1.own ≡ None
write_asks None o key out l none = none
write_asks (Some w) o key out l none = none

settled_asks : (rewrite : Bool) (o : Object) (key : List ℕ) (out : LeadOut) (l : Leader) → out.own ≡ None → (settled_for rewrite o key out l).1.own ≡ None
settled_asks true o key out l none = none
settled_asks false o key out l none = write_asks (running key l.table.calls) o key out l none

acknowledged_asks : (state : RoundState) (o : Object) (digest : List ℕ) (acks : Round) (rewrite : Bool) (key : List ℕ) (out : LeadOut) (l : Leader) → out.own ≡ None → (acknowledged state o digest acks rewrite key out l).1.own ≡ None
acknowledged_asks Open o digest acks rewrite key out l none = none
acknowledged_asks Met o digest acks rewrite key out l none = settled_asks rewrite o key (and_note (Settles key o.version) out) (knows key (settled_as o.version o digest) l) none
acknowledged_asks AllAnswered o digest acks rewrite key out l none = settled_asks rewrite o key (and_note (Settles key o.version) out) (knows key (settled_as o.version o digest) l) none

asks_none : (key : List ℕ) (own : Option Own) → own ≡ None → OwnOn key own
asks_none key own none = subst (OwnOn key) (sym none) tt

put_own : (key : List ℕ) (seen : Seen) (o : Object) (parent : Option Version) (call : Option ℕ) (l : Leader) → o.key ≡ key → OwnOn key (put_seen seen o parent call key l).1.own
put_own key seens.Nothing o parent call l same = same
put_own key (seens.Damaged at) o parent call l same = tt
put_own key (seens.Stored digest) o parent call l same = asks_none key _ (acknowledged_asks (state_of (begun l.fact.views l.me)) o digest (begun l.fact.views l.me) _ key _ l refl)
put_own key (seens.Held entry object) o parent call l same = tt
put_own key (seens.Kept object) o parent call l same = tt

task_own : (key : List ℕ) (seen : Seen) (l m : Leader) (task : Pending) → Fits key_rules.Put key l task → OwnOn key (put_for task seen key m).1.own
task_own key seen l m (pendings.Propose o parent call) (n, runs, same, version) = put_own key seen o parent call m same
task_own key seen l m pendings.Nothing fits = tt
task_own key seen l m (pendings.Write content parent) fits = tt
task_own key seen l m (pendings.Rewrite o) fits = tt
task_own key seen l m (pendings.Check reply) fits = tt
task_own key seen l m (pendings.Apply current) fits = tt

row_35_own : (key : List ℕ) (seen : Seen) (l : Leader) → IsReady key_rules.Put key l → OwnOn key (row_35 key seen l).1.own
row_35_own key seen l ready = task_own key seen l (with_task pendings.Nothing l) l.task ready

pub lead_own : (rule : KeyRule) (key : List ℕ) (seen : Seen) (l : Leader) → IsReady rule key l → OwnOn key (lead_row rule key seen l).1.own
lead_own rule key seen l ready = by (lead_row rule key seen l).1.own refl (lead_step rule key seen l).asks
  where
    put : rule ≡ key_rules.Put → OwnOn key (lead_row rule key seen l).1.own
    put is = subst (λ (m : KeyRule). IsReady m key l → OwnOn key (lead_row m key seen l).1.own) (sym is) (row_35_own key seen l) ready

    by : (own : Option Own) → (lead_row rule key seen l).1.own ≡ own → AsksOn rule key own → OwnOn key own
    by None is asks = tt
    by (Some (owns.Fetch k)) is asks = asks.0
    by (Some (owns.Look k)) is asks = asks.0
    by (Some (owns.Put o)) is asks = subst (OwnOn key) is (put asks)

-- a rule that puts nothing
pub look_own : (rule : KeyRule) (key : List ℕ) (own : Option Own) → (rule ≡ key_rules.Put → ⊥) → AsksOn rule key own → OwnOn key own
look_own rule key None other asks = tt
look_own rule key (Some (owns.Fetch k)) other asks = asks.0
look_own rule key (Some (owns.Look k)) other asks = asks.0
look_own rule key (Some (owns.Put o)) other asks = absurd (other asks)

stage_own : (key : List ℕ) (stage : Stage) (from : ℕ) (ballot : Epoch) (version : Version) (l : Leader) → (acknowledged_by stage from ballot version key l).1.own ≡ None
stage_own key (stages.Putting o digest acks rewrite) from ballot version l =
    either (λ (r : Leader × LeadOut). r.1.own ≡ None) (is_same ballot l.fact.epoch && same_version version o.version) _ _ (acknowledged_asks (state_of (heard_from from acks)) o digest (heard_from from acks) rewrite key no_out l refl) refl
stage_own key stages.Idle from ballot version l = refl
stage_own key (stages.Reading round votes best) from ballot version l = refl
stage_own key (stages.Checking round votes reply) from ballot version l = refl

pub reply_own : (from : ℕ) (ballot : Epoch) (key : List ℕ) (version : Version) (l : Leader) → OwnOn key (row_35_reply from ballot key version l).1.own
reply_own from ballot key version l = asks_none key _ (stage_own key (row_at key l.table.rows).stage from ballot version l)
