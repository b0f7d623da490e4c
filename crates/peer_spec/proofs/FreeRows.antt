-- The rows that are applied without allocating.
use Rattle.std.proofs.Common.{◌≡◌, ◌≤◌, ◌+◌, ◌&&◌, if◌then◌else◌, ℕ, Bool, true, false, List, [], ◌∷◌, ◌++◌, Ok, length, refl, sym, subst, inr, arith}
use Rattle.std.proofs.lemmas.List.{append-nil, length-append}
use Rattle.leader.specs.CallTable.{has_calls}
use Rattle.ens_base.specs.PeerSet.{holds}
use Rattle.ens_base.specs.View.{IsPeer}
use Rattle.ens_base.specs.declared.epoch.Epoch.{Epoch}
use Rattle.peer_state.specs.PhaseRules.{promises_to, row_11, row_19, row_20}
use Rattle.stored_formats.specs.declared.fact.Fact.{Fact}
use Rattle.phase_rows.specs.Orders.{is_below, is_same}
use Rattle.phase_rows.specs.Peers.{alone}
use Rattle.phase_rows.specs.Rows.{silent, sends, at_ballot}
use Rattle.step_plans.specs.Calls.{Call, AnswerOf}
use Rattle.step_plans.specs.Outboxes.{spare}
use Rattle.step_plans.specs.Plans.{Done, Out, nothing, Rest, Spot, Finished, Did, Follows, asked}
use Rattle.step_plans.specs.Sends.{posted}
use Rattle.step_plans.specs.Steps.{HasFinished}
use Rattle.step_plans.specs.declared.error.PeerError.{PeerError}
use Rattle.step_plans.specs.declared.outbox.Outbox.{Outbox}
use Rattle.leader_output.specs.declared.out.Outgoing.{Outgoing}
use Rattle.step_plans.specs.declared.tasks.Task.{Task}
use Rattle.step_plans.proofs.Alone.{posted_alone}
use Rattle.wire_frames.specs.declared.message.Message.{Message}
use Rattle.wire_frames.specs.declared.message.Message.TheVariants as messages
use Rattle.phase_rows.specs.declared.phase.PhaseOut.{PhaseOut}
use Rattle.phase_rows.specs.declared.phase.Then.TheVariants as thens
use Rattle.peer_spec.specs.Drives.{row_done, delivered, responded, driven, concluded, most_turns, step_of, MayCome}
use Rattle.peer_spec.specs.Syncs.{and_sends}
use Rattle.peer_spec.specs.Kept.{IsStepCall}
use Rattle.peer_state.specs.NoAllocation.{ends_step, IsAllocationFreeMessage, IsAllocationFree, is_over, is_over_in, IsSteady, IsFreeRow}
use Rattle.peer_state.specs.Moves.{waits}
use Rattle.peer_state.specs.Rows.{received, ended, while_26}
use Rattle.peer_state.specs.declared.event.Event.{Event}
use Rattle.peer_state.specs.declared.event.Event.TheVariants as events
use Rattle.peer_state.specs.declared.state.ChangeState.{ChangeState}
use Rattle.peer_state.specs.declared.state.ChangeState.TheVariants.{Settled, Wanted, Finishing as Finishes}
use Rattle.peer_state.specs.declared.state.Phase.{Phase}
use Rattle.peer_state.specs.declared.state.Phase.TheVariants as phases
use Rattle.peer_state.specs.declared.state.State.{State}
use Rattle.leader.proofs.Cases.{either}
use Rattle.peer_spec.proofs.Ends.{ran_follows}
use Rattle.peer_spec.proofs.Parts.{driven_none}

ended_silent : (change : ChangeState) (fact : Fact) (me : ℕ) (unanswered : Bool) → is_over change fact unanswered ≡ false → ended change fact me unanswered ≡ silent thens.Stay
ended_silent Settled fact me unanswered steady = refl
ended_silent (Wanted change) fact me unanswered steady = refl
ended_silent (Finishes f) fact me unanswered steady = rw steady refl

pub while_26_silent : (phase : Phase) (me : ℕ) (x : State) → is_over_in phase x.fact ≡ false → while_26 phase me x ≡ (x, silent thens.Stay)
while_26_silent (phases.Leading l) me x steady = rw (ended_silent l.change x.fact me (has_calls l.leader.table.calls) steady) refl
while_26_silent other me x steady = refl

module _ (o : Outbox) (phase : Phase) where
  abbrev IsFree : PhaseOut → Type 0
  IsFree = IsFreeRow o phase

  stay_free : IsFree (silent thens.Stay)
  stay_free = record { fits = tt; ends = refl; leaves = tt; turns = tt }

  answer_free : (from : ℕ) (message : Message) → IsPeer from → 1 ≤ spare o → IsFree (sends (alone from) message thens.Stay)
  answer_free from message peer fits = record { fits = (fits, (from, peer, refl)); ends = refl; leaves = tt; turns = tt }

  row_20_free : (fact : Fact) (from : ℕ) (ballot : Epoch) (round : ℕ) → IsPeer from → 1 ≤ spare o → IsFree (row_20 fact from ballot round)
  row_20_free fact from ballot round peer fits =
      either IsFree (is_below ballot fact.ballot) _ _ (answer_free from _ peer fits) (either IsFree (is_same ballot fact.ballot) _ _ (answer_free from _ peer fits) stay_free)

  module _ (quiet : waits phase ≡ false) where
    row_11_free : (fact : Fact) (from : ℕ) (ballot : Epoch) → IsPeer from → 1 ≤ spare o → IsFree (row_11 fact from ballot)
    row_11_free fact from ballot peer fits =
        either IsFree (is_below fact.ballot ballot) _ _ (record { fits = (fits, (from, peer, refl)); ends = refl; leaves = quiet; turns = quiet })
        (either IsFree (is_same ballot fact.ballot) _ _ stay_free (answer_free from _ peer fits))

    row_19_free : (fact : Fact) (trusted : Bool) (from : ℕ) (ballot : Epoch) → IsPeer from → 1 ≤ spare o → IsFree (row_19 fact trusted from ballot)
    row_19_free fact trusted from ballot peer fits = either IsFree (is_below ballot fact.ballot) _ _ (answer_free from _ peer fits) (by_test (is_same fact.epoch ballot && trusted))
      where
        by_test : (t : Bool) → IsFree (silent (if t then thens.Follow else thens.Stay))
        by_test true = record { fits = tt; ends = refl; leaves = tt; turns = quiet }
        by_test false = stay_free

-- the row of a Prepare, a Check or a Beat is applied without allocating
pub received_free : (o : Outbox) (me from : ℕ) (message : Message) (x : State) → IsPeer from → waits x.phase ≡ false → 1 ≤ spare o → IsAllocationFreeMessage message
    → IsFreeRow o (received me from message x).0.phase (received me from message x).1
received_free o me from (messages.Prepare ballot) x peer quiet fits is = row_11_free o x.phase quiet x.fact from ballot peer fits
received_free o me from (messages.Beat ballot) x peer quiet fits is = row_19_free o x.phase quiet x.fact x.trusted from ballot peer fits
received_free o me from (messages.Check ballot round) x peer quiet fits is = row_20_free o x.phase x.fact from ballot round peer fits
received_free o me from other x peer quiet fits is = absurd is

-- nothing runs after the row of such a message
abbrev EndsStep : PhaseOut → Type 0
EndsStep row = ends_step row.then ≡ true

row_19_ends : (fact : Fact) (trusted : Bool) (from : ℕ) (ballot : Epoch) → EndsStep (row_19 fact trusted from ballot)
row_19_ends fact trusted from ballot = either EndsStep (is_below ballot fact.ballot) _ _ refl (by_test (is_same fact.epoch ballot && trusted))
  where
    by_test : (t : Bool) → EndsStep (silent (if t then thens.Follow else thens.Stay))
    by_test true = refl
    by_test false = refl

pub received_ends : (me from : ℕ) (message : Message) (x : State) → IsAllocationFreeMessage message → ends_step (received me from message x).1.then ≡ true
received_ends me from (messages.Prepare ballot) x is = either EndsStep (is_below x.fact.ballot ballot) _ _ refl (either EndsStep (is_same ballot x.fact.ballot) _ _ refl refl)
received_ends me from (messages.Beat ballot) x is = row_19_ends x.fact x.trusted from ballot
received_ends me from (messages.Check ballot round) x is = either EndsStep (is_below ballot x.fact.ballot) _ _ refl (either EndsStep (is_same ballot x.fact.ballot) _ _ refl refl)
received_ends me from other x is = absurd is

pub one_more : (from : ℕ) (message : Message) (sends : List Outgoing) → IsPeer from → length (sends ++ posted (holds (alone from)) (λ p. message) 31) ≤ length sends + 1
one_more from message sends peer = rw (posted_alone from message peer) (omega (arith, length-append sends (record { to = from; message = message } ∷ [])))

pub none_more : (sends : List Outgoing) → length (sends ++ []) ≤ length sends
none_more sends = rw (append-nil sends) (omega arith)

-- what such a message leads to: at most one message more, and no leader that is to end its epoch
module _ (P : State → Out → Type 0) (me : ℕ) (x : State) (steady : IsSteady x) where
  abbrev IsLight : PhaseOut → Type 0
  IsLight row = (out : Out) (next : Rest State (List Task)) → ((y : State) (o : Out) → IsSteady y → length o.sends ≤ length out.sends + 1 → Follows IsStepCall P (next [] y o)) → Follows IsStepCall P (row_done me row x out next)

  stay_light : IsLight (silent thens.Stay)
  stay_light out next go = go x _ steady (omega (arith, none_more out.sends))

  follow_light : IsLight (silent thens.Follow)
  follow_light out next go = go _ _ refl (omega (arith, none_more out.sends))

  answer_light : (from : ℕ) (message : Message) → IsPeer from → IsLight (sends (alone from) message thens.Stay)
  answer_light from message peer out next go = go x _ steady (one_more from message out.sends peer)

  promise_light : (from : ℕ) (fact : Fact) → IsPeer from → IsLight (promises_to from fact)
  unfolding asked
  promise_light from fact peer out next go = (tt, λ u. go _ _ refl (one_more from (messages.Promise fact.ballot fact) out.sends peer))

  row_11_light : (from : ℕ) (ballot : Epoch) → IsPeer from → IsLight (row_11 x.fact from ballot)
  row_11_light from ballot peer =
      either IsLight (is_below x.fact.ballot ballot) _ _ (promise_light from (at_ballot x.fact ballot) peer)
      (either IsLight (is_same ballot x.fact.ballot) _ _ stay_light (answer_light from _ peer))

  row_19_light : (from : ℕ) (ballot : Epoch) → IsPeer from → IsLight (row_19 x.fact x.trusted from ballot)
  row_19_light from ballot peer = either IsLight (is_below ballot x.fact.ballot) _ _ (answer_light from _ peer) (by_test (is_same x.fact.epoch ballot && x.trusted))
    where
      by_test : (t : Bool) → IsLight (silent (if t then thens.Follow else thens.Stay))
      by_test true = follow_light
      by_test false = stay_light

  row_20_light : (from : ℕ) (ballot : Epoch) (round : ℕ) → IsPeer from → IsLight (row_20 x.fact from ballot round)
  row_20_light from ballot round peer =
      either IsLight (is_below ballot x.fact.ballot) _ _ (answer_light from _ peer)
      (either IsLight (is_same ballot x.fact.ballot) _ _ (answer_light from _ peer) stay_light)

  received_light : (from : ℕ) (message : Message) → IsPeer from → IsAllocationFreeMessage message → (out : Out) (next : Rest State (List Task))
      → ((y : State) (o : Out) → IsSteady y → length o.sends ≤ length out.sends + 1 → Follows IsStepCall P (next [] y o)) → Follows IsStepCall P (row_done me (received me from message x).1 (received me from message x).0 out next)
  received_light from (messages.Prepare ballot) peer is = row_11_light from ballot peer
  received_light from (messages.Beat ballot) peer is = row_19_light from ballot peer
  received_light from (messages.Check ballot round) peer is = row_20_light from ballot round peer
  received_light from other peer is = absurd is

  delivered_light : (from : ℕ) (message : Message) → IsPeer from → IsAllocationFreeMessage message → (out : Out) (next : Rest State (List Task))
      → ((y : State) (o : Out) → IsSteady y → length o.sends ≤ length out.sends + 1 → Follows IsStepCall P (next [] y o)) → Follows IsStepCall P (delivered me from message x out next)
  delivered_light from (messages.Prepare ballot) peer is = received_light from (messages.Prepare ballot) peer is
  delivered_light from (messages.Beat ballot) peer is = received_light from (messages.Beat ballot) peer is
  delivered_light from (messages.Check ballot round) peer is = received_light from (messages.Check ballot round) peer is
  delivered_light from other peer is = absurd is

  responded_light : (event : Event) → MayCome me event → IsAllocationFree event → (out : Out) (next : Rest State (Unit {0}))
      → ((y : State) (o : Out) → IsSteady y → length o.sends ≤ length out.sends + 1 → Follows IsStepCall P (next tt y o)) → Follows IsStepCall P (responded me event x out next)
  responded_light (events.Deliver from message) come is out next go =
      delivered_light from message come.0 is out (λ ts y o. driven me most_turns ts y o (λ rest z q. next tt z q))
      (λ y o still few. rw (driven_none me most_turns y o (λ rest z q. next tt z q)) (go y o still few))
  responded_light events.Tick come is out next go = absurd is
  responded_light (events.Call call) come is out next go = absurd is
  responded_light (events.Change view) come is out next go = absurd is

  concluded_light : (out : Out) (next : Rest State (Unit {0})) → Follows IsStepCall P (next tt x (and_sends out [])) → Follows IsStepCall P (concluded me x out next)
  concluded_light out next end =
      subst (λ r. Follows IsStepCall P (row_done me r.1 r.0 out (λ ts y o. driven me most_turns ts y o (λ rest z q. next tt z q)))) (sym (while_26_silent x.phase me x steady))
      (rw (driven_none me most_turns x _ (λ rest z q. next tt z q)) end)

-- a step on a Prepare, a Check or a Beat sends at most one message
pub sends_one : (me : ℕ) (event : Event) (x : State) → MayCome me event → IsAllocationFree event → IsSteady x → Follows IsStepCall (λ y o. length o.sends ≤ 1) (step_of me event x)
sends_one me event x come is steady =
    let P : State → Out → Type 0 = λ y o. length o.sends ≤ 1 in
    responded_light P me x steady event come is nothing (λ u y o. concluded me y o (λ v z q. Done z q))
    (λ y o still few. concluded_light P me y still o (λ v z q. Done z q) (omega (arith, none_more o.sends, few)))

-- the row of such a message leaves no leader that is to end its epoch
responds_steady : (me : ℕ) (event : Event) (x : State) (out : Out) → MayCome me event → IsAllocationFree event → IsSteady x → Follows IsStepCall (λ y o. IsSteady y) (responded me event x out (λ u y o. Done y o))
responds_steady me event x out come is steady =
    let P : State → Out → Type 0 = λ y o. IsSteady y in responded_light P me x steady event come is out (λ u y o. Done y o) (λ y o still few. still)

module _ {S : Type 0} (does : S → (call : Call) → AnswerOf call → S → Type 0) (refuses : S → Call → PeerError → S → Type 0) (me : ℕ) (event : Event) (a b : Spot State S) where
  pub still_steady : Did does refuses (responded me event) a (Ok tt) b → MayCome me event → IsAllocationFree event → IsSteady a.state → IsSteady b.state
  still_steady did come is steady =
      ran_follows does refuses IsStepCall (λ y o. IsSteady y) (responded me event a.state a.out (λ u y o. Done y o)) a.stores a.notes b.state b.out b.stores b.notes
      (responds_steady me event a.state a.out come is steady)
      (did (λ u y o. Done y o) (Finished b.state b.out) b.stores b.notes (inr (refl, refl, refl)))

  -- at most one message was sent
  pub one_sent : (o p : Outbox) (y : State) (t : S) → HasFinished does refuses (step_of me event a.state) a.stores o y t p → MayCome me event → IsAllocationFree event → IsSteady a.state
      → length p.sends.items ≤ length o.sends.items + 1
  one_sent o p y t done come is steady =
      let few = ran_follows does refuses IsStepCall (λ z q. length q.sends ≤ 1) (step_of me event a.state) a.stores o.notes.items y done.out t p.notes.items (sends_one me event a.state come is steady) done.ran in
      rw done.sends (omega (arith, few, length-append o.sends.items done.out.sends))
