-- During the election each request to another member leaves the world as the invariant says.
use Rattle.std.proofs.Common.{◌≡◌, ◌⊎◌, ◌==◌, inl, inr, refl, ap, sym, ◌∙◌, subst, arith, ℕ, Bool, true, false, List, [], map, Some}
use Rattle.std.specs.Prelude.{slice_get}
use Rattle.std.proofs.lemmas.Bool.{eqb-true, eqb-false}
use Rattle.std.proofs.lemmas.Bool.Decides.{nat_tests}
use Rattle.std.proofs.lemmas.List.{append-nil}
use Rattle.ens_base.specs.Lists.{◌∈◌}
use Rattle.ens_base.specs.PeerSet.{holds}
use Rattle.ens_base.specs.View.{IsPeer}
use Rattle.calm_step_laws.specs.WorldSpec.{Held, held_with, step_of}
use Rattle.leader_output.specs.declared.out.Outgoing.{Outgoing}
use Rattle.network.proofs.MailLaws.{is_mail_settled}
use Rattle.network.specs.Mail.{Mail, settled}
use Rattle.stored_formats.specs.declared.fact.Fact.{Fact}
use Rattle.peer_state.specs.declared.event.Event.TheVariants as events
use Rattle.peer_state.specs.declared.state.State.{State}
use Rattle.phase_rows.specs.Orders.{is_below, is_same}
use Rattle.phase_rows.specs.Peers.{alone}
use Rattle.register_model.specs.declared.note.Note.{Note}
use Rattle.step_plans.specs.Plans.{Out, nothing}
use Rattle.step_plans.specs.Sends.{posted_to}
use Rattle.calm_step_laws.specs.PeerRefinement.{AreAmong, IsWhole}
use Rattle.wire_frames.specs.declared.frame.Frame.{Frame}
use Rattle.wire_frames.specs.declared.message.Message.{Message}
use Rattle.wire_frames.specs.declared.message.Message.TheVariants as messages
use Rattle.world_refinement.specs.WorldSpec.{Run, frame_from, posted_all, received}
use Rattle.world_refinement.proofs.WorldSpec.{posted_mail}
use Rattle.calm_step_laws.proofs.Bystanders.{tells, on_probe, on_prepare, on_new_epoch}
use Rattle.calm_step_laws.proofs.CandidateSteps.{ballot, opened, promised, accepted}
use Rattle.calm_step_laws.proofs.Keeping.{Keeping, Standing}
use Rattle.calm_step_laws.proofs.Lands.{Aim, Lands}
use Rattle.calm_step_laws.proofs.MemberSteps.{on_prepare_again, on_epoch_again}
use Rattle.calm_laws.proofs.Elections.{Step, Quiet, Probes, Prepares, Starts, Led, rests, candidate, MayHave, IsHeard, MayAsk, MayReply, IsOther, MayWait, Other, Elects, asking, replying}
use Rattle.calm_laws.proofs.ElectionMembers.{stays_heard, probe_heard, promise_heard, ignored_heard, acceptance_heard}
use Rattle.calm_laws.proofs.Parts.{alone_has, alone_only, told_one}
use Rattle.calm_laws.proofs.Posting.{frame_sent, posted_only}
use Rattle.calm_laws.proofs.Standing.{Stands, stands_here, stands_other, whole_saved}
use Rattle.calm_laws.proofs.Waiting.{kinds_stay}
use Rattle.calm_laws.proofs.Worlds.{moved, step_grows}

-- the output prints no line
pub record IsQuiet (out : Out) : Type 0 where
  pub answers : out.answers ≡ []
  pub changes : out.changes ≡ []

-- a peer stands where it stood, whatever messages wait
pub at_mail : (w : Run) (m : Mail) (q : ℕ) (x : Standing) → Stands w q x [] → Stands (record w { mail = m }) q x []
at_mail w m q x s = record { keep = s.keep; stores = s.stores; at = s.at; whole = s.whole }

module _ (me : ℕ) (view : List ℕ) (is_peer : IsPeer me) (peers : (q : ℕ) → q ∈ view → IsPeer q) where
  -- the one message of a member goes to the candidate
  pub tells_it : (q : ℕ) (reply : Message) → replying me view q reply ∈ map (frame_from q) (tells me reply).sends
  tells_it q reply = frame_sent q me (alone me) reply is_peer (alone_has me is_peer)

  pub tells_only : (q : ℕ) (reply : Message) (f : Frame) → f ∈ map (frame_from q) (tells me reply).sends → f ≡ replying me view q reply
  tells_only q reply f is = told_one q me reply (posted_to (alone me) (Some reply)) f only is where
    only : (x : Outgoing) → x ∈ posted_to (alone me) (Some reply) → (x.to ≡ me) × (x.message ≡ reply)
    only x at = let it = posted_only (holds (alone me)) (λ k. reply) 31 x at in (alone_only me x.to it.tested, it.message)

  module _ (strings : List (List ℕ)) (step : Step) (w : Run) (n q : ℕ) (ask : Message) (e : Elects me view step w) (other : IsOther me view q) (at : slice_get w.mail.sent n ≡ Some (asking me view q ask)) where
    v : Run
    v = record w { mail = settled w.mail n }

    abbrev frames : Out → List Frame
    frames out = map (frame_from q) out.sends

    abbrev after : Out → Mail
    after out = posted_all (frames out) (settled w.mail n)

    -- the world after the step of the member
    moves : (now : Fact) (keep : Keeping) (g : Held) (out : Out) (ms : List Note) → AreAmong w.hashed g.hashed → IsWhole g [] → IsQuiet out → MayHave me view step now → IsHeard me view step (after out) now q → ((f : Frame) → f ∈ frames out → MayWait me view step f)
        → Elects me view step (moved q (rests now keep) g out ms (record w { mail = settled w.mail n }))
    moves now keep g out ms grown whole quiet may heard sent = record {
      printed = rw (quiet.answers, quiet.changes) (append-nil w.printed ∙ e.printed);
      leader = stands_other q (rests now) keep g out ms (record w { mail = settled w.mail n }) me (candidate me view step) [] (peers q other.0) is_peer (λ same. other.1 (sym same)) grown (at_mail w (settled w.mail n) me (candidate me view step) e.leader);
      under = e.under;
      crowd = record {
        mail = posted_mail (frames out) (settled w.mail n) (is_mail_settled w.mail n e.crowd.mail);
        others = λ k is. by k is (k == q) refl;
        kinds = kinds_stay (MayWait me view step) (MayWait me view step) w.mail n (frames out) e.crowd.mail e.crowd.kinds (λ f kind. kind) sent;
      };
    }
      where
        was : Other me view step w.mail w q
        was = e.crowd.others q other

        by : (k : ℕ) → IsOther me view k → (b : Bool) → (k == q) ≡ b → Other me view step (after out) (moved q (rests now keep) g out ms (record w { mail = settled w.mail n })) k
        by k is true same = subst (λ j. Other me view step (after out) (moved q (rests now keep) g out ms (record w { mail = settled w.mail n })) j) (sym (eqb-true k q same)) (record {
          fact = now;
          stands = stands_here q (rests now) keep g out ms (record w { mail = settled w.mail n }) (rests was.fact was.stands.keep) was.stands.stores [] was.stands.at whole;
          may = may;
          heard = heard;
        })
        by k is false apart = let o = e.crowd.others k is in record {
          fact = o.fact;
          stands = stands_other q (rests now) keep g out ms (record w { mail = settled w.mail n }) k (rests o.fact) [] (peers q other.0) (peers k is.0) (eqb-false k q apart) grown (at_mail w (settled w.mail n) k (rests o.fact) o.stands);
          may = o.may;
          heard = stays_heard me view step w.mail n k (asking me view q ask) (frames out) o.fact at
              (λ message same. eqb-false k q apart (sym (ap (λ (f : Frame). f.to) same))) (λ message same. is.1 (sym (ap (λ (f : Frame). f.from) same))) o.heard;
        }

    abbrev Comes : Fact → Out → Aim
    Comes now out y g o ms = (keep : Keeping) × ((y ≡ rests now keep) × ((o ≡ out) × IsWhole g []))

    -- a step of the member that lands so
    lands : (was now : Fact) (out : Out) (s : Stands w q (rests was) []) → Lands strings (Comes now out) (step_of q (events.Deliver me ask) (rests was s.keep)) (held_with s.stores w.hashed) []
        → IsQuiet out → MayHave me view step now → IsHeard me view step (after out) now q → ((f : Frame) → f ∈ frames out → MayWait me view step f) → AreAmong (received (asking me view q ask) n w).hashed strings
        → Elects me view step (received (asking me view q ask) n w)
    lands was now out s ends quiet may heard sent among =
        step_grows q (events.Deliver me ask) strings (Comes now out) (Elects me view step) (record w { mail = settled w.mail n }) (rests was s.keep) s.stores s.at ends among
        (λ y g o ms grown meets. subst (λ (x : State). Elects me view step (moved q x g o ms (record w { mail = settled w.mail n }))) (sym meets.1.0)
        (subst (λ (p : Out). Elects me view step (moved q (rests now meets.0) g p ms (record w { mail = settled w.mail n }))) (sym meets.1.1.0) (moves now meets.0 g out ms grown meets.1.1.1 quiet may heard sent)))

    -- what a member replies may wait
    reply_kind : (reply : Message) → MayReply me view step reply → (f : Frame) → f ∈ frames (tells me reply) → MayWait me view step f
    reply_kind reply may f is = inr (record { from = q; other = other; message = reply; is = tells_only q reply f is; may = may })

    -- ## The three requests

    probe_kind : (s : Step) (fact : Fact) → MayAsk me view s messages.Probe → MayHave me view s fact → MayReply me view s (messages.ProbeReply fact)
    probe_kind (Quiet ticks) fact may has = may
    probe_kind (Probes set) fact may has = ap (λ f. messages.ProbeReply f) has
    probe_kind (Prepares set) fact may has = inl (fact, refl)
    probe_kind (Starts set) fact may has = inl (fact, refl)
    probe_kind (Led set) fact may has = inl (fact, refl)

    pub probed : ask ≡ messages.Probe → MayAsk me view step messages.Probe → AreAmong (received (asking me view q ask) n w).hashed strings → Elects me view step (received (asking me view q ask) n w)
    probed is may among =
        let o = e.crowd.others q other in
        lands o.fact o.fact (tells me (messages.ProbeReply o.fact)) o.stands
        (subst (λ (message : Message). Lands strings (Comes o.fact (tells me (messages.ProbeReply o.fact))) (step_of q (events.Deliver me message) (rests o.fact o.stands.keep)) (held_with o.stands.stores w.hashed) []) (sym is)
        (on_probe q me strings (Comes o.fact (tells me (messages.ProbeReply o.fact))) o.stands.keep o.fact (held_with o.stands.stores w.hashed) (o.stands.keep, (refl, (refl, o.stands.whole)))))
        (record { answers = refl; changes = refl }) o.may
        (probe_heard me view w.mail n q (frames (tells me (messages.ProbeReply o.fact))) e.crowd.mail other.1 step o.fact (subst (λ (message : Message). slice_get w.mail.sent n ≡ Some (asking me view q message)) is at) o.may (tells_it q (messages.ProbeReply o.fact)) o.heard)
        (reply_kind (messages.ProbeReply o.fact) (probe_kind step o.fact may o.may)) among

    promise_kind : (s : Step) → MayAsk me view s (messages.Prepare (ballot me view)) → MayReply me view s (messages.Promise (ballot me view) (promised me view)) × MayHave me view s (promised me view)
    promise_kind (Quiet ticks) may = absurd may
    promise_kind (Probes set) may = absurd (let no : ⊥ = grind (arith, may) in no)
    promise_kind (Prepares set) may = (inr refl, inr refl)
    promise_kind (Starts set) may = (inr (inl refl), inr (inl refl))
    promise_kind (Led set) may = (inr (inl refl), inr (inl refl))

    -- the fact of a member, in words
    had : (s : Step) (fact : Fact) → MayHave me view s fact → (fact ≡ opened me view) ⊎ ((fact ≡ promised me view) ⊎ (fact ≡ accepted me view))
    had (Quiet ticks) fact has = inl has
    had (Probes set) fact has = inl has
    had (Prepares set) fact (inl has) = inl has
    had (Prepares set) fact (inr has) = inr (inl has)
    had (Starts set) fact has = has
    had (Led set) fact has = has

    not_below : is_below (ballot me view) (ballot me view) ≡ false
    not_below = grind (arith, nat_tests)

    same_ballot : is_same (ballot me view) (ballot me view) ≡ true
    same_ballot = grind (arith, nat_tests)

    pub prepared : ask ≡ messages.Prepare (ballot me view) → MayAsk me view step (messages.Prepare (ballot me view)) → AreAmong (received (asking me view q ask) n w).hashed strings → Elects me view step (received (asking me view q ask) n w)
    prepared is may among = by (had step was.fact was.may) where
      was : Other me view step w.mail w q
      was = e.crowd.others q other

      here : slice_get w.mail.sent n ≡ Some (asking me view q (messages.Prepare (ballot me view)))
      here = subst (λ (message : Message). slice_get w.mail.sent n ≡ Some (asking me view q message)) is at

      ask_is : (P : Aim) (x : State) (h : Held) → Lands strings P (step_of q (events.Deliver me (messages.Prepare (ballot me view))) x) h [] → Lands strings P (step_of q (events.Deliver me ask) x) h []
      ask_is P x h ends = subst (λ (message : Message). Lands strings P (step_of q (events.Deliver me message) x) h []) (sym is) ends

      quiet : IsQuiet nothing
      quiet = record { answers = refl; changes = refl }

      promise : Message
      promise = messages.Promise (ballot me view) (promised me view)

      late : (fact : Fact) → was.fact ≡ fact → is_below fact.ballot (ballot me view) ≡ false → is_same (ballot me view) fact.ballot ≡ true → (was.fact ≡ opened me view → ⊥) → Elects me view step (received (asking me view q ask) n w)
      late fact has below same past =
          lands was.fact was.fact nothing was.stands
          (ask_is (Comes was.fact nothing) (rests was.fact was.stands.keep) (held_with was.stands.stores w.hashed)
          (on_prepare_again q me strings (Comes was.fact nothing) was.stands.keep was.fact (ballot me view) (held_with was.stands.stores w.hashed) (ap (λ (f : Fact). is_below f.ballot (ballot me view)) has ∙ below) (ap (λ (f : Fact). is_same (ballot me view) f.ballot) has ∙ same) (was.stands.keep, (refl, (refl, was.stands.whole)))))
          quiet was.may (ignored_heard me view w.mail n q [] e.crowd.mail other.1 here step was.fact past may was.heard) (λ f none. absurd none) among

      by : (was.fact ≡ opened me view) ⊎ ((was.fact ≡ promised me view) ⊎ (was.fact ≡ accepted me view)) → Elects me view step (received (asking me view q ask) n w)
      by (inl has) =
          let s : Stands w q (rests (opened me view)) [] = subst (λ (f : Fact). Stands w q (rests f) []) has was.stands in
          let h : Held = held_with s.stores w.hashed in
          lands (opened me view) (promised me view) (tells me promise) s
          (ask_is (Comes (promised me view) (tells me promise)) (rests (opened me view) s.keep) h
          (on_prepare q me strings (Comes (promised me view) (tells me promise)) s.keep (opened me view) (ballot me view) h s.whole.no_faults refl (s.keep, (refl, (refl, whole_saved s.keep.seal (promised me view) h [] s.whole)))))
          (record { answers = refl; changes = refl }) (promise_kind step may).1
          (promise_heard me view w.mail n q (frames (tells me promise)) e.crowd.mail other.1 here step was.fact has may (tells_it q promise) was.heard)
          (reply_kind promise (promise_kind step may).0) among
      by (inr (inl has)) = late (promised me view) has not_below same_ballot (λ open_yet. let no : ⊥ = omega (arith, ap (λ (f : Fact). f.ballot.count) (sym has ∙ open_yet)) in no)
      by (inr (inr has)) = late (accepted me view) has not_below same_ballot (λ open_yet. let no : ⊥ = omega (arith, ap (λ (f : Fact). f.ballot.count) (sym has ∙ open_yet)) in no)

    accept_kind : (s : Step) → MayAsk me view s (messages.NewEpoch (accepted me view)) → MayReply me view s (messages.Accepted (ballot me view) 1) × MayHave me view s (accepted me view)
    accept_kind (Quiet ticks) may = absurd may
    accept_kind (Probes set) may = absurd (let no : ⊥ = grind (arith, may) in no)
    accept_kind (Prepares set) (inl may) = absurd (let no : ⊥ = grind (arith, may) in no)
    accept_kind (Prepares set) (inr may) = absurd (let no : ⊥ = grind (arith, may) in no)
    accept_kind (Starts set) may = (inr (inr refl), inr (inr refl))
    accept_kind (Led set) may = (inr (inr refl), inr (inr refl))

    pub announced : ask ≡ messages.NewEpoch (accepted me view) → MayAsk me view step (messages.NewEpoch (accepted me view)) → AreAmong (received (asking me view q ask) n w).hashed strings → Elects me view step (received (asking me view q ask) n w)
    announced is may among = by (had step was.fact was.may) where
      was : Other me view step w.mail w q
      was = e.crowd.others q other

      acceptance : Message
      acceptance = messages.Accepted (ballot me view) 1

      new : Fact
      new = accepted me view

      ends_so : (fact : Fact) (s : Stands w q (rests fact) []) → Lands strings (Comes (accepted me view) (tells me (messages.Accepted (ballot me view) 1))) (step_of q (events.Deliver me (messages.NewEpoch (accepted me view))) (rests fact s.keep)) (held_with s.stores w.hashed) [] → Elects me view step (received (asking me view q ask) n w)
      ends_so fact s ends =
          lands fact (accepted me view) (tells me (messages.Accepted (ballot me view) 1)) s
          (subst (λ (message : Message). Lands strings (Comes (accepted me view) (tells me (messages.Accepted (ballot me view) 1))) (step_of q (events.Deliver me message) (rests fact s.keep)) (held_with s.stores w.hashed) []) (sym is) ends)
          (record { answers = refl; changes = refl }) (accept_kind step may).1
          (acceptance_heard me view w.mail n q (frames (tells me (messages.Accepted (ballot me view) 1))) e.crowd.mail other.1 step may (tells_it q (messages.Accepted (ballot me view) 1)))
          (reply_kind (messages.Accepted (ballot me view) 1) (accept_kind step may).0) among

      accepts : (fact : Fact) (s : Stands w q (rests fact) []) → is_below (ballot me view) fact.ballot ≡ false → is_same (ballot me view) fact.epoch ≡ false → Elects me view step (received (asking me view q ask) n w)
      accepts fact s below new_one =
          let h : Held = held_with s.stores w.hashed in
          ends_so fact s (on_new_epoch q me strings (Comes (accepted me view) (tells me (messages.Accepted (ballot me view) 1))) s.keep fact (accepted me view) h s.whole.no_faults below new_one refl (s.keep, (refl, (refl, whole_saved s.keep.seal (accepted me view) h [] s.whole))))

      by : (was.fact ≡ opened me view) ⊎ ((was.fact ≡ promised me view) ⊎ (was.fact ≡ accepted me view)) → Elects me view step (received (asking me view q ask) n w)
      by (inl has) = accepts (opened me view) (subst (λ (f : Fact). Stands w q (rests f) []) has was.stands) refl refl
      by (inr (inl has)) = accepts (promised me view) (subst (λ (f : Fact). Stands w q (rests f) []) has was.stands) not_below refl
      by (inr (inr has)) =
          let s : Stands w q (rests (accepted me view)) [] = subst (λ (f : Fact). Stands w q (rests f) []) has was.stands in
          ends_so (accepted me view) s (on_epoch_again q me strings (Comes (accepted me view) (tells me (messages.Accepted (ballot me view) 1))) s.keep (accepted me view) (accepted me view) (held_with s.stores w.hashed) not_below same_ballot (s.keep, (refl, (refl, s.whole))))

    -- ## All requests

    pub asked : MayAsk me view step ask → AreAmong (received (asking me view q ask) n w).hashed strings → Elects me view step (received (asking me view q ask) n w)
    asked may among = which step may refl where
      which : (s : Step) → MayAsk me view s ask → step ≡ s → Elects me view step (received (asking me view q ask) n w)
      which (Quiet ticks) kind is = absurd kind
      which (Probes set) kind is = probed kind (subst (λ (s : Step). MayAsk me view s messages.Probe) (sym is) refl) among
      which (Prepares set) (inl kind) is = probed kind (subst (λ (s : Step). MayAsk me view s messages.Probe) (sym is) (inl refl)) among
      which (Prepares set) (inr kind) is = prepared kind (subst (λ (s : Step). MayAsk me view s (messages.Prepare (ballot me view))) (sym is) (inr refl)) among
      which (Starts set) (inl kind) is = probed kind (subst (λ (s : Step). MayAsk me view s messages.Probe) (sym is) (inl refl)) among
      which (Starts set) (inr (inl kind)) is = prepared kind (subst (λ (s : Step). MayAsk me view s (messages.Prepare (ballot me view))) (sym is) (inr (inl refl))) among
      which (Starts set) (inr (inr kind)) is = announced kind (subst (λ (s : Step). MayAsk me view s (messages.NewEpoch (accepted me view))) (sym is) (inr (inr refl))) among
      which (Led set) (inl kind) is = probed kind (subst (λ (s : Step). MayAsk me view s messages.Probe) (sym is) (inl refl)) among
      which (Led set) (inr (inl kind)) is = prepared kind (subst (λ (s : Step). MayAsk me view s (messages.Prepare (ballot me view))) (sym is) (inr (inl refl))) among
      which (Led set) (inr (inr kind)) is = announced kind (subst (λ (s : Step). MayAsk me view s (messages.NewEpoch (accepted me view))) (sym is) (inr (inr refl))) among
