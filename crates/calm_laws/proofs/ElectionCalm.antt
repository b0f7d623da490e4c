-- The first two lines of a calm run: six ticks and a calm, at the end of which the peer leads.
use Rattle.std.proofs.Common.{◌≡◌, ◌<◌, ◌==◌, ◌+◌, inl, inr, refl, ap, sym, ◌∙◌, subst, arith, ℕ, zero, suc, Bool, true, false, List, [], ◌∷◌, length, None, Some}
use Rattle.std.specs.Prelude.{slice_get}
use Rattle.std.proofs.lemmas.Bool.{and_parts, both_ways, eqb-true, eqb-false}
use Rattle.std.proofs.lemmas.Bool.Decides.{nat_tests}
use Rattle.std.proofs.lemmas.List.{append-nil}
use Rattle.ens_base.proofs.Lists.{in_left}
use Rattle.ens_base.specs.Lists.{◌∈◌}
use Rattle.ens_base.specs.PeerSet.{holds}
use Rattle.ens_base.specs.View.{IsPeer}
use Rattle.calm_step_laws.specs.WorldSpec.{Held, held_with}
use Rattle.quorums.specs.Members.{those}
use Rattle.quorums.specs.Quorums.{is_quorum}
use Rattle.network.proofs.MailLaws.{oldest_waits}
use Rattle.network.specs.Mail.{Mail, oldest, is_among}
use Rattle.stored_formats.specs.declared.fact.Fact.{Fact}
use Rattle.peer_state.specs.declared.event.Event.TheVariants as events
use Rattle.phase_rows.specs.Peers.{alone}
use Rattle.step_plans.specs.Plans.{nothing}
use Rattle.calm_step_laws.specs.PeerRefinement.{AreAmong}
use Rattle.wire_frames.specs.declared.frame.Frame.{Frame}
use Rattle.wire_frames.specs.declared.message.Message.{Message}
use Rattle.wire_frames.specs.declared.message.Message.TheVariants as messages
use Rattle.world_refinement.proofs.WorldSpec.{ticked_grows}
use Rattle.world_refinement.specs.WorldSpec.{Run, received, stepped, ticked, calmed}
use Rattle.calm_step_laws.proofs.CandidateSteps.{ballot, opened, promised, accepted, and_probes, ticks_quietly, ticks_at_last}
use Rattle.calm_step_laws.proofs.Keeping.{Standing}
use Rattle.calm_step_laws.proofs.Lands.{Aim}
use Rattle.calm_laws.proofs.Waits.{Waits}
use Rattle.calm_laws.proofs.Counted.{all_counted, everyone_has}
use Rattle.calm_laws.proofs.ElectionReplies.{IsElecting, Moves, probes_end, first_own, replied, member}
use Rattle.calm_laws.proofs.ElectionRequests.{asked}
use Rattle.calm_laws.proofs.ElectionRounds.{begins_probes}
use Rattle.calm_laws.proofs.Elections.{Quiet, Probes, Prepares, Starts, Led, rests, candidate, IsOther, IsHeard, Elects, MayWait, asking, replying}
use Rattle.calm_laws.proofs.Parts.{grown}
use Rattle.calm_laws.proofs.Standing.{Stands, stands_here, stands_other}
use Rattle.calm_laws.proofs.Waiting.{none_waits}
use Rattle.calm_laws.proofs.Worlds.{AllAlive, moved, step_grows, calm_keeps}

module _ (me : ℕ) (view : List ℕ) (is_peer : IsPeer me) (peers : (q : ℕ) → q ∈ view → IsPeer q) (listed : me ∈ view) (strings : List (List ℕ)) where
  -- ## Deliveries

  -- the election goes on, as far as the strings of the schedule reach
  abbrev pub GoesOn : Run → Type 0
  GoesOn w = AreAmong w.hashed strings → IsElecting me view is_peer peers listed w

  waits_at : (m : Mail) (n : ℕ) (f : Frame) → oldest (is_among (those (λ p. true))) m ≡ Some n → slice_get m.sent n ≡ Some f → Waits m f
  waits_at m n f is at = record { number = n; sent = at; waits = (and_parts _ _ (oldest_waits (is_among (those (λ p. true))) m n is)).0 }

  delivery : (w : Run) (n : ℕ) (f : Frame) → GoesOn w → oldest (is_among (those (λ p. true))) w.mail ≡ Some n → slice_get w.mail.sent n ≡ Some f → GoesOn (received f n w)
  delivery w n f goes is at among = by now.1.1 (now.1.1.crowd.kinds f (waits_at w.mail n f is at)) where
    now : IsElecting me view is_peer peers listed w
    now = goes (λ s there. among s (grown f n w s there))

    by : Elects me view now.0 w → MayWait me view now.0 f → IsElecting me view is_peer peers listed (received f n w)
    by e (inl a) = subst (λ (g : Frame). IsElecting me view is_peer peers listed (received g n w)) (sym a.is)
        (now.0, (now.1.0, asked me view is_peer peers strings now.0 w n a.to a.message e a.other (at ∙ ap (λ (g : Frame). Some g) a.is) a.may (subst (λ (g : Frame). AreAmong (received g n w).hashed strings) a.is among)))
    by e (inr a) = subst (λ (g : Frame). IsElecting me view is_peer peers listed (received g n w)) (sym a.is)
        (replied me view is_peer peers listed strings w n a.from a.message a.other (at ∙ ap (λ (g : Frame). Some g) a.is) (subst (λ (g : Frame). AreAmong (received g n w).hashed strings) a.is among) now.0 e a.may)

  -- ## The end of a calm

  module _ (w : Run) (none : oldest (is_among (those (λ p. true))) w.mail ≡ None) where
    no_ask : (q : ℕ) (message : Message) → q ∈ view → Waits w.mail (asking me view q message) → ⊥
    no_ask q message is waits = none_waits (those (λ p. true)) w.mail (asking me view q message) none (rw (everyone_has me is_peer, everyone_has q (peers q is)) refl) waits

    no_reply : (q : ℕ) (message : Message) → q ∈ view → Waits w.mail (replying me view q message) → ⊥
    no_reply q message is waits = none_waits (those (λ p. true)) w.mail (replying me view q message) none (rw (everyone_has q (peers q is), everyone_has me is_peer) refl) waits

    -- each member of an open round was counted
    counted : (set : List Bool) → holds set me ≡ true → ((q : ℕ) → IsOther me view q → holds set q ≡ true) → 0 < length view → is_quorum (holds set) (view ∷ []) ≡ true
    counted set own others filled = all_counted (holds set) view filled (λ q is. by q is (q == me) refl) where
      by : (q : ℕ) → q ∈ view → (b : Bool) → (q == me) ≡ b → holds set q ≡ true
      by q is true same = subst (λ k. holds set k ≡ true) (sym (eqb-true q me same)) own
      by q is false apart = others q (is, eqb-false q me apart)

    -- what is left to be at the end of a calm: the peer leads, and each other member accepted its epoch
    pub record IsLed : Type 0 where
      pub accepts : List Bool
      pub elects : Elects me view (Led accepts) w
      pub others : (q : ℕ) → IsOther me view q → Stands w q (rests (accepted me view)) []

    pub leads_at_last : 0 < length view → IsElecting me view is_peer peers listed w → IsLed
    leads_at_last filled (Quiet ticks, it) = absurd it.0
    leads_at_last filled (Probes set, it) = absurd (both_ways _ it.1.under.open_yet (counted set it.1.under.own (λ q is. by q is (it.1.crowd.others q is).fact (it.1.crowd.others q is).heard) filled)) where
      by : (q : ℕ) → IsOther me view q → (fact : Fact) → IsHeard me view (Probes set) w.mail fact q → holds set q ≡ true
      by q is fact (inl voted) = voted
      by q is fact (inr (inl waits)) = absurd (no_ask q messages.Probe is.0 waits)
      by q is fact (inr (inr waits)) = absurd (no_reply q (messages.ProbeReply (opened me view)) is.0 waits)
    leads_at_last filled (Prepares set, it) = absurd (both_ways _ it.1.under.open_yet (counted set it.1.under.own (λ q is. by q is (it.1.crowd.others q is).fact (it.1.crowd.others q is).heard) filled)) where
      by : (q : ℕ) → IsOther me view q → (fact : Fact) → IsHeard me view (Prepares set) w.mail fact q → holds set q ≡ true
      by q is fact (inl voted) = voted
      by q is fact (inr (inl waits)) = absurd (no_ask q (messages.Prepare (ballot me view)) is.0 waits.1)
      by q is fact (inr (inr waits)) = absurd (no_reply q (messages.Promise (ballot me view) (promised me view)) is.0 waits)
    leads_at_last filled (Starts set, it) = absurd (both_ways _ it.1.under.open_yet (rw (it.1.under.own, counted set it.1.under.own (λ q is. by q is (it.1.crowd.others q is).fact (it.1.crowd.others q is).heard) filled) refl)) where
      by : (q : ℕ) → IsOther me view q → (fact : Fact) → IsHeard me view (Starts set) w.mail fact q → holds set q ≡ true
      by q is fact (inl (has, inl voted)) = voted
      by q is fact (inl (has, inr waits)) = absurd (no_reply q (messages.Accepted (ballot me view) 1) is.0 waits)
      by q is fact (inr waits) = absurd (no_ask q (messages.NewEpoch (accepted me view)) is.0 waits)
    leads_at_last filled (Led set, it) = record { accepts = set; elects = it.1; others = λ q is. let o = it.1.crowd.others q is in subst (λ (f : Fact). Stands w q (rests f) []) (by q is o.fact o.heard) o.stands } where
      by : (q : ℕ) → IsOther me view q → (fact : Fact) → IsHeard me view (Led set) w.mail fact q → fact ≡ accepted me view
      by q is fact (inl has) = has
      by q is fact (inr waits) = absurd (no_ask q (messages.NewEpoch (accepted me view)) is.0 waits)

  -- a calm in which the election goes on ends with a leader
  pub election_calm : (k : ℕ) (w : Run) → 0 < length view → AllAlive w → IsElecting me view is_peer peers listed w → AreAmong (calmed (those (λ p. true)) k w).hashed strings
      → (none : oldest (is_among (those (λ p. true))) (calmed (those (λ p. true)) k w).mail ≡ None) → IsLed (calmed (those (λ p. true)) k w) none
  election_calm k w filled alive goes among none = leads_at_last (calmed (those (λ p. true)) k w) none filled ((calm_keeps GoesOn (those (λ p. true)) delivery k w (alive, λ within. goes)).1 among)

  -- ## Ticks

  module _ (ticks : ℕ) (w : Run) (e : Elects me view (Quiet ticks) w) (among : AreAmong (stepped me events.Tick w).hashed strings) where
    abbrev Quietly : Aim
    Quietly y g out ms = AreAmong w.hashed g.hashed → Elects me view (Quiet (ticks + 1)) (moved me y g out ms w)

    -- one more quiet tick
    pub one_more_tick : (ticks + 1 == 6) ≡ false → Elects me view (Quiet (ticks + 1)) (stepped me events.Tick w)
    one_more_tick early =
        let h : Held = held_with e.leader.stores w.hashed in
        step_grows me events.Tick strings Quietly (Elects me view (Quiet (ticks + 1))) w (candidate me view (Quiet ticks) e.leader.keep) e.leader.stores e.leader.at
        (ticks_quietly me view strings Quietly (member me view is_peer peers listed) e.leader.keep ticks h early (λ grows. record {
          printed = append-nil w.printed ∙ e.printed;
          leader = stands_here me (candidate me view (Quiet (ticks + 1))) e.leader.keep h nothing [] w (candidate me view (Quiet ticks) e.leader.keep) e.leader.stores [] e.leader.at e.leader.whole;
          under = tt;
          crowd = record {
            mail = e.crowd.mail;
            others = λ q is. let o = e.crowd.others q is in record {
              fact = o.fact;
              stands = stands_other me (candidate me view (Quiet (ticks + 1))) e.leader.keep h nothing [] w q (rests o.fact) [] is_peer (peers q is.0) is.1 grows o.stands;
              may = o.may;
              heard = tt;
            };
            kinds = λ f v. kind f (e.crowd.kinds f v);
          };
        })) among (λ y g out ms grows meets. meets grows)
      where
        kind : (f : Frame) → MayWait me view (Quiet ticks) f → MayWait me view (Quiet (ticks + 1)) f
        kind f (inl a) = absurd a.may
        kind f (inr a) = absurd a.may

  -- the sixth tick begins the election
  pub last_tick : (w : Run) → Elects me view (Quiet 5) w → AreAmong (stepped me events.Tick w).hashed strings → IsElecting me view is_peer peers listed (stepped me events.Tick w)
  last_tick w e among =
      let h : Held = held_with e.leader.stores w.hashed in
      let x : Standing = candidate me view (Quiet 5) in
      let P : Aim = Moves me view is_peer peers listed strings w w.mail e.printed x e.leader in
      step_grows me events.Tick strings P (IsElecting me view is_peer peers listed) w (x e.leader.keep) e.leader.stores e.leader.at
      (ticks_at_last me view strings P (member me view is_peer peers listed) e.leader.keep h e.leader.whole.no_faults
      (probes_end me view is_peer peers listed strings w w.mail e.printed x e.leader (alone me) (and_probes me view nothing) h (record { answers = refl; changes = refl }) e.leader.whole (first_own me view is_peer peers listed strings w w.mail e.printed x e.leader)
      (begins_probes me view is_peer peers 5 w.mail w e.crowd))) among (λ y g out ms grows meets. meets grows)

  -- what was hashed by one tick, was hashed by all of them
  earlier : (n : ℕ) (w : Run) → AreAmong (ticked me (suc n) w).hashed strings → AreAmong (stepped me events.Tick w).hashed strings
  unfolding ticked
  earlier n w among = λ s there. let far = (ticked_grows me n (stepped me events.Tick w)).hashed in among s (subst (λ (all : List (List ℕ)). s ∈ all) (sym far.1) (in_left (stepped me events.Tick w).hashed far.0 s there))

  -- six ticks
  pub ticks_on : (left ticks : ℕ) (w : Run) → ticks + suc left ≡ 6 → Elects me view (Quiet ticks) w → AreAmong (ticked me (suc left) w).hashed strings → IsElecting me view is_peer peers listed (ticked me (suc left) w)
  unfolding ticked
  ticks_on zero ticks w is e among = last_tick w (subst (λ t. Elects me view (Quiet t) w) (let five : ticks ≡ 5 = omega (arith, is) in five) e) among
  ticks_on (suc left) ticks w is e among =
      ticks_on left (ticks + 1) (stepped me events.Tick w) (omega (arith, is))
      (one_more_tick ticks w e (earlier (suc left) w among) (let early : (ticks + 1 == 6) ≡ false = grind (arith, nat_tests, is) in early)) among
