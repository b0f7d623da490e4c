-- The rounds of the election: how each begins, how a reply is counted, and that late replies change nothing.
use Rattle.std.proofs.Common.{◌≡◌, ◌⊎◌, inl, inr, refl, ap, sym, subst, arith, ℕ, Bool, true, List, [], ◌∷◌, map, length, Some}
use Rattle.std.specs.Prelude.{slice_get}
use Rattle.ens_base.specs.Lists.{◌∈◌}
use Rattle.ens_base.specs.PeerSet.{holds}
use Rattle.ens_base.specs.View.{IsPeer}
use Rattle.quorums.specs.Members.{members}
use Rattle.network.proofs.MailLaws.{is_mail_settled}
use Rattle.network.specs.Mail.{Mail, settled}
use Rattle.stored_formats.specs.declared.fact.Fact.{Fact}
use Rattle.phase_rows.specs.Peers.{alone, others_of, joined}
use Rattle.step_plans.specs.Sends.{posted_to}
use Rattle.wire_frames.specs.declared.frame.Frame.{Frame}
use Rattle.wire_frames.specs.declared.message.Message.{Message}
use Rattle.wire_frames.specs.declared.message.Message.TheVariants as messages
use Rattle.world_refinement.specs.WorldSpec.{Run, frame_from, posted_all}
use Rattle.world_refinement.proofs.WorldSpec.{posted_mail}
use Rattle.calm_step_laws.proofs.CandidateSteps.{ballot, opened, promised, accepted}
use Rattle.calm_laws.proofs.Waits.{Waits}
use Rattle.calm_laws.proofs.ElectionMembers.{still_waits}
use Rattle.calm_laws.proofs.Elections.{Step, Quiet, Probes, Prepares, Starts, Led, MayHave, IsHeard, MayAsk, MayReply, IsOther, MayWait, Crowd, asking, replying}
use Rattle.calm_laws.proofs.Parts.{flag_here, flag_kept}
use Rattle.calm_laws.proofs.Standing.{goes_to_all, goes_to_others}
use Rattle.calm_laws.proofs.Waiting.{waits_settled, waits_new, was_settled}
use Rattle.calm_laws.proofs.ServedVotes.{kinds_posted}

module _ (me : ℕ) (view : List ℕ) (is_peer : IsPeer me) (peers : (q : ℕ) → q ∈ view → IsPeer q) where
  -- what may wait at one step may wait at another
  kinds_map : (s t : Step) → ((message : Message) → MayAsk me view s message → MayAsk me view t message) → ((message : Message) → MayReply me view s message → MayReply me view t message) → (f : Frame) → MayWait me view s f → MayWait me view t f
  kinds_map s t asks replies f (inl a) = inl (record { to = a.to; other = a.other; message = a.message; is = a.is; may = asks a.message a.may })
  kinds_map s t asks replies f (inr a) = inr (record { from = a.from; other = a.other; message = a.message; is = a.is; may = replies a.message a.may })

  abbrev pub all_others : Message → List Frame
  all_others message = map (frame_from me) (posted_to (others_of me (members (view ∷ []))) (Some message))

  -- a new request may wait
  new_kind : (t : Step) (message : Message) → MayAsk me view t message → (f : Frame) → f ∈ all_others message → MayWait me view t f
  new_kind t message may f is =
      let it = goes_to_others me view peers message f is in
      inl (record { to = f.to; other = it.to; message = f.message; is = frame_is f it.from; may = subst (λ (m : Message). MayAsk me view t m) (sym it.message) may })
    where
      frame_is : (g : Frame) → g.from ≡ me → g ≡ asking me view g.to g.message
      frame_is g from = rw from refl

  -- ## How the rounds begin

  pub begins_probes : (ticks : ℕ) (m : Mail) (w : Run) → Crowd me view (Quiet ticks) m w → Crowd me view (Probes (alone me)) (posted_all (all_others messages.Probe) m) w
  begins_probes ticks m w c = record {
    mail = posted_mail (all_others messages.Probe) m c.mail;
    others = λ q is. let o = c.others q is in record {
      fact = o.fact;
      stands = o.stands;
      may = o.may;
      heard = inr (inl (waits_new (all_others messages.Probe) m (asking me view q messages.Probe) c.mail (goes_to_all me view peers messages.Probe q is)));
    };
    kinds = kinds_posted (MayWait me view (Quiet ticks)) (MayWait me view (Probes (alone me))) m (all_others messages.Probe) c.mail c.kinds (kinds_map (Quiet ticks) (Probes (alone me)) (λ message none. absurd none) (λ message none. absurd none)) (new_kind (Probes (alone me)) messages.Probe refl);
  }

  pub begins_prepares : (set : List Bool) (m : Mail) (w : Run) → Crowd me view (Probes set) m w → Crowd me view (Prepares (alone me)) (posted_all (all_others (messages.Prepare (ballot me view))) m) w
  begins_prepares set m w c =
      let message : Message = messages.Prepare (ballot me view) in
      record {
        mail = posted_mail (all_others message) m c.mail;
        others = λ q is. let o = c.others q is in record {
          fact = o.fact;
          stands = o.stands;
          may = inl o.may;
          heard = inr (inl (o.may, waits_new (all_others message) m (asking me view q message) c.mail (goes_to_all me view peers message q is)));
        };
        kinds = kinds_posted (MayWait me view (Probes set)) (MayWait me view (Prepares (alone me))) m (all_others message) c.mail c.kinds
            (kinds_map (Probes set) (Prepares (alone me)) (λ m may. inl may) (λ m may. inl (opened me view, may))) (new_kind (Prepares (alone me)) message (inr refl));
      }

  weaker : (fact : Fact) → (fact ≡ opened me view) ⊎ (fact ≡ promised me view) → (fact ≡ opened me view) ⊎ ((fact ≡ promised me view) ⊎ (fact ≡ accepted me view))
  weaker fact (inl has) = inl has
  weaker fact (inr has) = inr (inl has)

  asks_more : (message : Message) → (message ≡ messages.Probe) ⊎ (message ≡ messages.Prepare (ballot me view)) → (message ≡ messages.Probe) ⊎ ((message ≡ messages.Prepare (ballot me view)) ⊎ (message ≡ messages.NewEpoch (accepted me view)))
  asks_more message (inl may) = inl may
  asks_more message (inr may) = inr (inl may)

  replies_more : (set now : List Bool) (message : Message) → MayReply me view (Prepares set) message → MayReply me view (Starts now) message
  replies_more set now message (inl may) = inl may
  replies_more set now message (inr may) = inr (inl may)

  pub begins_starts : (set : List Bool) (m : Mail) (w : Run) → Crowd me view (Prepares set) m w → Crowd me view (Starts (alone me)) (posted_all (all_others (messages.NewEpoch (accepted me view))) m) w
  begins_starts set m w c =
      let message : Message = messages.NewEpoch (accepted me view) in
      record {
        mail = posted_mail (all_others message) m c.mail;
        others = λ q is. let o = c.others q is in record {
          fact = o.fact;
          stands = o.stands;
          may = weaker o.fact o.may;
          heard = inr (waits_new (all_others message) m (asking me view q message) c.mail (goes_to_all me view peers message q is));
        };
        kinds = kinds_posted (MayWait me view (Prepares set)) (MayWait me view (Starts (alone me))) m (all_others message) c.mail c.kinds
            (kinds_map (Prepares set) (Starts (alone me)) asks_more (replies_more set (alone me))) (new_kind (Starts (alone me)) message (inr (inr refl)));
      }

  leads_heard : (set : List Bool) (m : Mail) (fact : Fact) (q : ℕ) → IsHeard me view (Starts set) m fact q → IsHeard me view (Led set) m fact q
  leads_heard set m fact q (inl (has, counted)) = inl has
  leads_heard set m fact q (inr w) = inr w

  pub begins_leading : (set : List Bool) (m : Mail) (w : Run) → Crowd me view (Starts set) m w → Crowd me view (Led set) m w
  begins_leading set m w c = record {
    mail = c.mail;
    others = λ q is. let o = c.others q is in record { fact = o.fact; stands = o.stands; may = o.may; heard = leads_heard set m o.fact q o.heard };
    kinds = λ f v. kinds_map (Starts set) (Led set) (λ message may. may) (λ message may. may) f (c.kinds f v);
  }

  -- ## Replies that are counted

  module _ (m : Mail) (n q : ℕ) (reply : Message) (other : IsOther me view q) (is : slice_get m.sent n ≡ Some (replying me view q reply)) (set : List Bool) (size : length set ≡ 32) where
    here : holds (joined q set) q ≡ true
    here = flag_here set q (omega (arith, (peers q other.0).1, size))

    ask_waits : (k : ℕ) (message : Message) → Waits m (asking me view k message) → Waits (settled m n) (asking me view k message)
    ask_waits k message w = still_waits m n (replying me view q reply) (asking me view k message) [] is (λ same. other.1 (ap (λ (f : Frame). f.from) same)) w

    -- a reply still waits, or it is the one delivered
    reply_waits : (k : ℕ) (message : Message) → Waits m (replying me view k message) → (holds (joined q set) k ≡ true) ⊎ Waits (settled m n) (replying me view k message)
    reply_waits k message w = by (waits_settled m n (replying me view q reply) (replying me view k message) is w) where
      by : (replying me view q reply ≡ replying me view k message) ⊎ Waits (settled m n) (replying me view k message) → (holds (joined q set) k ≡ true) ⊎ Waits (settled m n) (replying me view k message)
      by (inl same) = inl (subst (λ j. holds (joined q set) j ≡ true) (ap (λ (f : Frame). f.from) same) here)
      by (inr waits) = inr waits

    probes_on : (fact : Fact) (k : ℕ) → IsHeard me view (Probes set) m fact k → IsHeard me view (Probes (joined q set)) (settled m n) fact k
    probes_on fact k (inl counted) = inl (flag_kept set q k counted)
    probes_on fact k (inr (inl w)) = inr (inl (ask_waits k messages.Probe w))
    probes_on fact k (inr (inr w)) = by (reply_waits k (messages.ProbeReply (opened me view)) w) where
      by : (holds (joined q set) k ≡ true) ⊎ Waits (settled m n) (replying me view k (messages.ProbeReply (opened me view))) → IsHeard me view (Probes (joined q set)) (settled m n) fact k
      by (inl counted) = inl counted
      by (inr waits) = inr (inr waits)

    prepares_on : (fact : Fact) (k : ℕ) → IsHeard me view (Prepares set) m fact k → IsHeard me view (Prepares (joined q set)) (settled m n) fact k
    prepares_on fact k (inl counted) = inl (flag_kept set q k counted)
    prepares_on fact k (inr (inl w)) = inr (inl (w.0, ask_waits k (messages.Prepare (ballot me view)) w.1))
    prepares_on fact k (inr (inr w)) = by (reply_waits k (messages.Promise (ballot me view) (promised me view)) w) where
      by : (holds (joined q set) k ≡ true) ⊎ Waits (settled m n) (replying me view k (messages.Promise (ballot me view) (promised me view))) → IsHeard me view (Prepares (joined q set)) (settled m n) fact k
      by (inl counted) = inl counted
      by (inr waits) = inr (inr waits)

    starts_on : (fact : Fact) (k : ℕ) → IsHeard me view (Starts set) m fact k → IsHeard me view (Starts (joined q set)) (settled m n) fact k
    starts_on fact k (inl (has, inl counted)) = inl (has, inl (flag_kept set q k counted))
    starts_on fact k (inl (has, inr w)) = inl (has, reply_waits k (messages.Accepted (ballot me view) 1) w)
    starts_on fact k (inr w) = inr (ask_waits k (messages.NewEpoch (accepted me view)) w)

    module _ (w : Run) where
      goes_on : (s t : Step) → Crowd me view s m w → ((fact : Fact) → MayHave me view s fact → MayHave me view t fact) → ((fact : Fact) (k : ℕ) → IsHeard me view s m fact k → IsHeard me view t (settled m n) fact k)
          → ((f : Frame) → MayWait me view s f → MayWait me view t f) → Crowd me view t (settled m n) w
      goes_on s t c has heard kinds = record {
        mail = is_mail_settled m n c.mail;
        others = λ k at. let o = c.others k at in record { fact = o.fact; stands = o.stands; may = has o.fact o.may; heard = heard o.fact k o.heard };
        kinds = λ f v. kinds f (c.kinds f (was_settled m n f v));
      }

      pub counts_probe : Crowd me view (Probes set) m w → Crowd me view (Probes (joined q set)) (settled m n) w
      counts_probe c = goes_on (Probes set) (Probes (joined q set)) c (λ fact has. has) probes_on (kinds_map (Probes set) (Probes (joined q set)) (λ message may. may) (λ message may. may))

      pub counts_promise : Crowd me view (Prepares set) m w → Crowd me view (Prepares (joined q set)) (settled m n) w
      counts_promise c = goes_on (Prepares set) (Prepares (joined q set)) c (λ fact has. has) prepares_on (kinds_map (Prepares set) (Prepares (joined q set)) (λ message may. may) (λ message may. may))

      pub counts_acceptance : Crowd me view (Starts set) m w → Crowd me view (Starts (joined q set)) (settled m n) w
      counts_acceptance c = goes_on (Starts set) (Starts (joined q set)) c (λ fact has. has) starts_on (kinds_map (Starts set) (Starts (joined q set)) (λ message may. may) (λ message may. may))

  -- ## Replies that come too late

  -- the reply is not one that the step waits for
  abbrev pub IsLate : Step → Message → Type 0
  IsLate (Quiet ticks) message = ⊥
  IsLate (Probes set) message = ⊥
  IsLate (Prepares set) message = message ≡ messages.Promise (ballot me view) (promised me view) → ⊥
  IsLate (Starts set) message = message ≡ messages.Accepted (ballot me view) 1 → ⊥
  IsLate (Led set) message = Unit {0}

  module _ (m : Mail) (n q : ℕ) (reply : Message) (other : IsOther me view q) (is : slice_get m.sent n ≡ Some (replying me view q reply)) where
    ask_stays : (k : ℕ) (message : Message) → Waits m (asking me view k message) → Waits (settled m n) (asking me view k message)
    ask_stays k message w = still_waits m n (replying me view q reply) (asking me view k message) [] is (λ same. other.1 (ap (λ (f : Frame). f.from) same)) w

    reply_stays : (k : ℕ) (message : Message) → (reply ≡ message → ⊥) → Waits m (replying me view k message) → Waits (settled m n) (replying me view k message)
    reply_stays k message differs w = still_waits m n (replying me view q reply) (replying me view k message) [] is (λ same. differs (ap (λ (f : Frame). f.message) same)) w

    late_heard : (s : Step) → IsLate s reply → (fact : Fact) (k : ℕ) → IsHeard me view s m fact k → IsHeard me view s (settled m n) fact k
    late_heard (Quiet ticks) late fact k heard = absurd late
    late_heard (Probes set) late fact k heard = absurd late
    late_heard (Prepares set) late fact k (inl counted) = inl counted
    late_heard (Prepares set) late fact k (inr (inl w)) = inr (inl (w.0, ask_stays k (messages.Prepare (ballot me view)) w.1))
    late_heard (Prepares set) late fact k (inr (inr w)) = inr (inr (reply_stays k (messages.Promise (ballot me view) (promised me view)) late w))
    late_heard (Starts set) late fact k (inl (has, inl counted)) = inl (has, inl counted)
    late_heard (Starts set) late fact k (inl (has, inr w)) = inl (has, inr (reply_stays k (messages.Accepted (ballot me view) 1) late w))
    late_heard (Starts set) late fact k (inr w) = inr (ask_stays k (messages.NewEpoch (accepted me view)) w)
    late_heard (Led set) late fact k (inl has) = inl has
    late_heard (Led set) late fact k (inr w) = inr (ask_stays k (messages.NewEpoch (accepted me view)) w)

    pub comes_late : (s : Step) (w : Run) → IsLate s reply → Crowd me view s m w → Crowd me view s (settled m n) w
    comes_late s w late c = record {
      mail = is_mail_settled m n c.mail;
      others = λ k at. let o = c.others k at in record { fact = o.fact; stands = o.stands; may = o.may; heard = late_heard s late o.fact k o.heard };
      kinds = λ f v. c.kinds f (was_settled m n f v);
    }

    -- an acceptance that a leader counts
    pub leader_counts : (set now : List Bool) (w : Run) → Crowd me view (Led set) m w → Crowd me view (Led now) (settled m n) w
    leader_counts set now w c = let d = comes_late (Led set) w tt c in record {
      mail = d.mail;
      others = λ k at. let o = d.others k at in record { fact = o.fact; stands = o.stands; may = o.may; heard = o.heard };
      kinds = λ f v. kinds_map (Led set) (Led now) (λ message may. may) (λ message may. may) f (d.kinds f v);
    }
