-- The steps of a peer that follows.
use Rattle.std.proofs.Common.{◌≡◌, sym, subst, ℕ, true, false, List, [], None, Some}
use Rattle.ens_base.specs.declared.epoch.Epoch.{Epoch}
use Rattle.phase_rules.specs.Announcements.{accepts}
use Rattle.peer_refinement.specs.WorldSpec.{Held}
use Rattle.peer_refinement.specs.PeerSpec.{step_of, concluded, driven, most_turns}
use Rattle.peer_state.specs.Moves.{follower}
use Rattle.peer_state.specs.declared.event.Event.TheVariants as events
use Rattle.peer_state.specs.declared.state.State.{State}
use Rattle.stored_formats.specs.declared.fact.Fact.{Fact}
use Rattle.phase_rows.specs.Orders.{is_below, is_same, may_accept}
use Rattle.phase_rows.specs.Peers.{alone}
use Rattle.phase_rows.specs.Rows.{at_ballot, leaves_leading}
use Rattle.step_plans.specs.Plans.{Plan, Done, Out, nothing, Rest}
use Rattle.step_plans.specs.declared.tasks.Task.{Task}
use Rattle.step_plans.specs.Sends.{posted_to}
use Rattle.peer_refinement.specs.Whole.{HasNoFaults}
use Rattle.wire_frames.specs.declared.message.Message.{Message}
use Rattle.wire_frames.specs.declared.message.Message.TheVariants as messages
use Rattle.calm_step_laws.proofs.Ends.{over}
use Rattle.calm_step_laws.proofs.Keeping.{Keeping, Standing}
use Rattle.calm_step_laws.proofs.Lands.{Aim, Lands}
use Rattle.calm_step_laws.proofs.RowsLand.{lands_row, held_under}
use Rattle.phase_rules.specs.Ballots.{promises_to}

-- the output of a step that sends this message to one peer
abbrev pub tells : ℕ → Message → Out
tells p m = record nothing { sends = posted_to (alone p) (Some m) }

module _ (q p : ℕ) (strings : List (List ℕ)) (P : Aim) where
  abbrev pub rest : Fact → Standing
  rest fact keep = record { fact = fact; seal = keep.seal; mode = keep.mode; trusted = true; phase = follower; sync = None }

  pub lands_done : (x : State) (h : Held) (out : Out) (plan : Plan State) → plan ≡ Done x out → P x h out [] → Lands strings P plan h []
  lands_done x h out plan is holds = subst (λ z. Lands strings P z h []) (sym is) (λ among. holds)

  abbrev pub following : Rest State (List Task)
  following ts y o = driven q most_turns ts y o (λ rest z k. concluded q z k (λ u v w. Done v w))

  module _ (keep : Keeping) where
    -- rule 8: a probe is answered with the saved fact
    pub on_probe : (fact : Fact) (h : Held) → P (rest fact keep) h (tells p (messages.ProbeReply fact)) [] → Lands strings P (step_of q (events.Deliver p messages.Probe) (rest fact keep)) h []
    on_probe fact h holds = lands_done (rest fact keep) h (tells p (messages.ProbeReply fact)) _ (over q (rest fact keep) (tells p (messages.ProbeReply fact)) tt) holds

    -- rule 20: a check at the promised ballot is confirmed
    pub on_check : (fact : Fact) (d : Epoch) (r : ℕ) (h : Held) → is_below d fact.ballot ≡ false → is_same d fact.ballot ≡ true → P (rest fact keep) h (tells p (messages.CheckReply d r)) [] → Lands strings P (step_of q (events.Deliver p (messages.Check d r)) (rest fact keep)) h []
    on_check fact d r h not_below same holds = rw (not_below, same) (lands_done (rest fact keep) h (tells p (messages.CheckReply d r)) _ (over q (rest fact keep) (tells p (messages.CheckReply d r)) tt) holds)

    -- rule 11: a greater ballot is promised
    pub on_prepare : (fact : Fact) (d : Epoch) (h : Held) → HasNoFaults h.stores → is_below fact.ballot d ≡ true
        → P (rest (at_ballot fact d) keep) (held_under keep.seal (Some (at_ballot fact d)) h) (tells p (messages.Promise d (at_ballot fact d))) []
        → Lands strings P (step_of q (events.Deliver p (messages.Prepare d)) (rest fact keep)) h []
    on_prepare fact d h none below holds =
        rw below (lands_row q strings P (promises_to p (at_ballot fact d)) (rest fact keep) nothing following h [] none tt
        (lands_done (rest (at_ballot fact d) keep) (held_under keep.seal (Some (at_ballot fact d)) h) (tells p (messages.Promise d (at_ballot fact d))) _ (over q (rest (at_ballot fact d) keep) (tells p (messages.Promise d (at_ballot fact d))) tt) holds))

    -- rule 16: a new epoch is accepted
    pub on_new_epoch : (fact new : Fact) (h : Held) → HasNoFaults h.stores → is_below new.epoch fact.ballot ≡ false → is_same new.epoch fact.epoch ≡ false → may_accept true q new ≡ true
        → P (rest new keep) (held_under keep.seal (Some new) h) (tells p (messages.Accepted new.epoch 1)) []
        → Lands strings P (step_of q (events.Deliver p (messages.NewEpoch new)) (rest fact keep)) h []
    on_new_epoch fact new h none not_below other may holds =
        rw (not_below, other, may) (lands_row q strings P (leaves_leading (accepts p new)) (rest fact keep) nothing following h [] none tt
        (lands_done (rest new keep) (held_under keep.seal (Some new) h) (tells p (messages.Accepted new.epoch 1)) _ (over q (rest new keep) (tells p (messages.Accepted new.epoch 1)) tt) holds))
