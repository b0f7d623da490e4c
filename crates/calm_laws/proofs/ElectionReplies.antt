-- During the election each reply to the candidate leaves the world as the invariant says, maybe at a later step.
use Rattle.std.proofs.Common.{◌≡◌, inl, inr, refl, sym, ◌∙◌, subst, arith, ℕ, Bool, true, false, List, [], ◌∷◌, ◌++◌, map, length, Some}
use Rattle.std.specs.Prelude.{slice_get, replicate}
use Rattle.std.proofs.lemmas.List.{append-nil, length-set}
use Rattle.ens_base.proofs.Lists.{tested_in}
use Rattle.ens_base.specs.Lists.{◌∈◌}
use Rattle.ens_base.specs.PeerSet.{holds}
use Rattle.ens_base.specs.View.{IsPeer}
use Rattle.calm_step_laws.specs.WorldSpec.{Held, held_with, step_of}
use Rattle.quorums.specs.Members.{members}
use Rattle.quorums.specs.Quorums.{is_member}
use Rattle.leader_output.specs.declared.out.Outgoing.{Outgoing}
use Rattle.network.specs.Mail.{Mail, settled, posted}
use Rattle.stored_formats.specs.declared.fact.Fact.{Fact}
use Rattle.peer_state.specs.declared.event.Event.TheVariants as events
use Rattle.peer_state.specs.declared.state.State.{State}
use Rattle.phase_rows.specs.Peers.{alone, others_of, joined}
use Rattle.register_model.specs.declared.note.Note.{Note}
use Rattle.step_plans.specs.Plans.{Out, nothing}
use Rattle.step_plans.specs.Sends.{posted_to}
use Rattle.calm_step_laws.specs.PeerRefinement.{AreAmong, IsWhole}
use Rattle.wire_frames.specs.declared.message.Message.{Message}
use Rattle.wire_frames.specs.declared.message.Message.TheVariants as messages
use Rattle.world_refinement.specs.WorldSpec.{Run, frame_from, posted_all, received}
use Rattle.calm_step_laws.proofs.CandidateSteps.{ballot, opened, promised, accepted, has_quorum, may_lead, by_test, StartsEnd, PreparesEnd, ProbesEnd, and_prepares, and_announces, heard_probe, heard_promise, heard_acceptance, led_hears}
use Rattle.calm_step_laws.proofs.Ends.{over}
use Rattle.calm_step_laws.proofs.Keeping.{Keeping, Standing}
use Rattle.calm_step_laws.proofs.Lands.{Aim, Lands}
use Rattle.calm_step_laws.proofs.RowsLand.{held_under}
use Rattle.calm_laws.proofs.ElectionRequests.{IsQuiet, at_mail}
use Rattle.calm_laws.proofs.ElectionRounds.{begins_prepares, begins_starts, begins_leading, counts_probe, counts_promise, counts_acceptance, IsLate, comes_late, leader_counts}
use Rattle.calm_laws.proofs.Elections.{Step, Quiet, Probes, Prepares, Starts, Led, rests, candidate, IsOpen, IsUnder, IsOther, Crowd, Elects, replying, MayReply}
use Rattle.calm_laws.proofs.Parts.{flag_kept, alone_has}
use Rattle.calm_laws.proofs.Standing.{Stands, stands_here, stands_other, whole_saved}
use Rattle.calm_laws.proofs.Worlds.{moved, step_grows}

-- messages that are sent together are sent one after another
pub sent_both : (p : ℕ) (a b : List Outgoing) (m : Mail) → posted_all (map (frame_from p) (a ++ b)) m ≡ posted_all (map (frame_from p) b) (posted_all (map (frame_from p) a) m)
sent_both p [] b m = refl
sent_both p (x ∷ a) b m = sent_both p a b (posted m (frame_from p x))

-- a choice by a test
pub chosen : (b : Bool) (A B : Type 0) → (b ≡ true → A) → (b ≡ false → B) → by_test b A B
chosen true A B passes fails = passes refl
chosen false A B passes fails = fails refl

pub alone_size : (p : ℕ) → length (alone p) ≡ 32
alone_size p = length-set (replicate 32 false) p true

module _ (me : ℕ) (view : List ℕ) (is_peer : IsPeer me) (peers : (q : ℕ) → q ∈ view → IsPeer q) (listed : me ∈ view) where
  pub member : is_member (view ∷ []) me ≡ true
  member = rw (tested_in view me listed) refl

  -- the election has begun, and is at some step
  abbrev pub IsBegun : Step → Type 0
  IsBegun (Quiet ticks) = ⊥
  IsBegun step = Unit {0}

  abbrev pub IsElecting : Run → Type 0
  IsElecting w = (s : Step) × (IsBegun s × Elects me view s w)

  -- the set of those counted has the candidate
  pub record HasOwn (set : List Bool) : Type 0 where
    pub size : length set ≡ 32
    pub own : holds set me ≡ true

  -- the candidate takes a step in a world in which these messages were settled
  module _ (strings : List (List ℕ)) (w : Run) (base : Mail) (printed : w.printed ≡ []) (x : Standing) (own : Stands w me x []) where
    abbrev v : Run
    v = record w { mail = base }

    -- the messages after this output
    abbrev pub sent : Out → Mail
    sent out = posted_all (map (frame_from me) out.sends) base

    -- what the step is to come to
    abbrev pub Moves : Aim
    Moves y g out ms = AreAmong w.hashed g.hashed → IsElecting (moved me y g out ms v)

    at_step : (s : Step) → IsBegun s → (out : Out) (g : Held) (ms : List Note) → IsQuiet out → IsWhole g [] → IsUnder me view s → Crowd me view s (sent out) w → Moves (candidate me view s own.keep) g out ms
    at_step s begun out g ms quiet whole under c grown = (
      s,
      (
        begun,
        record {
          printed = rw (quiet.answers, quiet.changes) (append-nil w.printed ∙ printed);
          leader = stands_here me (candidate me view s) own.keep g out ms v (x own.keep) own.stores [] own.at whole;
          under = under;
          crowd = record {
            mail = c.mail;
            others = λ q is. let o = c.others q is in record {
              fact = o.fact;
              stands = stands_other me (candidate me view s) own.keep g out ms v q (rests o.fact) [] is_peer (peers q is.0) is.1 grown (at_mail w base q (rests o.fact) o.stands);
              may = o.may;
              heard = o.heard;
            };
            kinds = c.kinds;
          };
        },
      ),
    )

    pub first_own : HasOwn (alone me)
    first_own = record { size = alone_size me; own = alone_has me is_peer }

    starts_end : (set : List Bool) (out : Out) (g : Held) → IsQuiet out → IsWhole g [] → HasOwn set → Crowd me view (Starts set) (sent out) w → StartsEnd me view strings Moves member own.keep set out g
    starts_end set out g quiet whole has c = chosen (may_lead me view set) _ _
        (λ leads. at_step (Led set) tt out g [] quiet whole tt (begins_leading me view is_peer peers set (sent out) w c))
        (λ waits. at_step (Starts set) tt out g [] quiet whole (record { size = has.size; own = has.own; open_yet = waits }) c)

    prepares_end : (set : List Bool) (out : Out) (g : Held) → IsQuiet out → IsWhole g [] → HasOwn set → Crowd me view (Prepares set) (sent out) w → PreparesEnd me view strings Moves member own.keep set out g
    prepares_end set out g quiet whole has c = chosen (has_quorum me view set) _ _
        (λ quorum. starts_end (alone me) (and_announces me view out) (held_under own.keep.seal (Some (accepted me view)) g) (record { answers = quiet.answers; changes = quiet.changes }) (whole_saved own.keep.seal (accepted me view) g [] whole) first_own
        (subst (λ m. Crowd me view (Starts (alone me)) m w) (sym (sent_both me out.sends (posted_to (others_of me (members (view ∷ []))) (Some (messages.NewEpoch (accepted me view)))) base)) (begins_starts me view is_peer peers set (sent out) w c)))
        (λ waits. at_step (Prepares set) tt out g [] quiet whole (record { size = has.size; own = has.own; open_yet = waits }) c)

    pub probes_end : (set : List Bool) (out : Out) (g : Held) → IsQuiet out → IsWhole g [] → HasOwn set → Crowd me view (Probes set) (sent out) w → ProbesEnd me view strings Moves member own.keep set out g
    probes_end set out g quiet whole has c = chosen (has_quorum me view set) _ _
        (λ quorum. prepares_end (alone me) (and_prepares me view out) (held_under own.keep.seal (Some (promised me view)) g) (record { answers = quiet.answers; changes = quiet.changes }) (whole_saved own.keep.seal (promised me view) g [] whole) first_own
        (subst (λ m. Crowd me view (Prepares (alone me)) m w) (sym (sent_both me out.sends (posted_to (others_of me (members (view ∷ []))) (Some (messages.Prepare (ballot me view)))) base)) (begins_prepares me view is_peer peers set (sent out) w c)))
        (λ waits. at_step (Probes set) tt out g [] quiet whole (record { size = has.size; own = has.own; open_yet = waits }) c)

  -- ## A reply comes to the candidate

  module _ (strings : List (List ℕ)) (w : Run) (n q : ℕ) (reply : Message) (other : IsOther me view q) (at : slice_get w.mail.sent n ≡ Some (replying me view q reply)) (among : AreAmong (received (replying me view q reply) n w).hashed strings) where
    quiet : IsQuiet nothing
    quiet = record { answers = refl; changes = refl }

    -- a step of the candidate on the reply
    goes : (s : Step) (e : Elects me view s w) → Lands strings (Moves strings w (settled w.mail n) e.printed (candidate me view s) e.leader) (step_of me (events.Deliver q reply) (candidate me view s e.leader.keep)) (held_with e.leader.stores w.hashed) []
        → IsElecting (received (replying me view q reply) n w)
    goes s e lands =
        step_grows me (events.Deliver q reply) strings (Moves strings w (settled w.mail n) e.printed (candidate me view s) e.leader) IsElecting (record w { mail = settled w.mail n }) (candidate me view s e.leader.keep) e.leader.stores e.leader.at lands among
        (λ y g out ms grown meets. meets grown)

    more_own : (set : List Bool) (b : Bool) → IsOpen me view set b → HasOwn (joined q set)
    more_own set b o = record { size = length-set set q true ∙ o.size; own = flag_kept set q me o.own }

    -- a reply that the step does not wait for changes nothing
    stays : (s : Step) → IsBegun s → (e : Elects me view s w) → IsLate me view is_peer peers s reply → ((P : Aim) (h : Held) → P (candidate me view s e.leader.keep) h nothing [] → Lands strings P (step_of me (events.Deliver q reply) (candidate me view s e.leader.keep)) h []) → IsElecting (received (replying me view q reply) n w)
    stays s begun e late lands = goes s e (lands (Moves strings w (settled w.mail n) e.printed (candidate me view s) e.leader) (held_with e.leader.stores w.hashed)
        (at_step strings w (settled w.mail n) e.printed (candidate me view s) e.leader s begun nothing (held_with e.leader.stores w.hashed) [] quiet e.leader.whole e.under (comes_late me view is_peer peers w.mail n q reply other at s w late e.crowd)))

    -- a message that is ignored in this state
    ignores : (x : State) → (P : Aim) (h : Held) → (m : Message) → reply ≡ m → Lands strings P (step_of me (events.Deliver q m) x) h [] → Lands strings P (step_of me (events.Deliver q reply) x) h []
    ignores x P h m is lands = subst (λ (r : Message). Lands strings P (step_of me (events.Deliver q r) x) h []) (sym is) lands

    while_preparing : (keep : Keeping) (set : List Bool) (fact : Fact) (P : Aim) (h : Held) → P (candidate me view (Prepares set) keep) h nothing [] → Lands strings P (step_of me (events.Deliver q (messages.ProbeReply fact)) (candidate me view (Prepares set) keep)) h []
    while_preparing keep set fact P h holds = subst (λ z. Lands strings P z h []) (sym (over me (candidate me view (Prepares set) keep) nothing tt)) (λ within. holds)

    probe_while_starting : (keep : Keeping) (set : List Bool) (fact : Fact) (P : Aim) (h : Held) → P (candidate me view (Starts set) keep) h nothing [] → Lands strings P (step_of me (events.Deliver q (messages.ProbeReply fact)) (candidate me view (Starts set) keep)) h []
    probe_while_starting keep set fact P h holds = subst (λ z. Lands strings P z h []) (sym (over me (candidate me view (Starts set) keep) nothing tt)) (λ within. holds)

    promise_while_starting : (keep : Keeping) (set : List Bool) (P : Aim) (h : Held) → P (candidate me view (Starts set) keep) h nothing [] → Lands strings P (step_of me (events.Deliver q (messages.Promise (ballot me view) (promised me view))) (candidate me view (Starts set) keep)) h []
    promise_while_starting keep set P h holds = subst (λ z. Lands strings P z h []) (sym (over me (candidate me view (Starts set) keep) nothing tt)) (λ within. holds)

    probe_while_leading : (keep : Keeping) (set : List Bool) (fact : Fact) (P : Aim) (h : Held) → P (candidate me view (Led set) keep) h nothing [] → Lands strings P (step_of me (events.Deliver q (messages.ProbeReply fact)) (candidate me view (Led set) keep)) h []
    probe_while_leading keep set fact P h holds = subst (λ z. Lands strings P z h []) (sym (over me (candidate me view (Led set) keep) nothing refl)) (λ within. holds)

    promise_while_leading : (keep : Keeping) (set : List Bool) (P : Aim) (h : Held) → P (candidate me view (Led set) keep) h nothing [] → Lands strings P (step_of me (events.Deliver q (messages.Promise (ballot me view) (promised me view))) (candidate me view (Led set) keep)) h []
    promise_while_leading keep set P h holds = subst (λ z. Lands strings P z h []) (sym (over me (candidate me view (Led set) keep) nothing refl)) (λ within. holds)

    -- each reply that may wait
    pub replied : (s : Step) (e : Elects me view s w) → MayReply me view s reply → IsElecting (received (replying me view q reply) n w)
    replied (Quiet ticks) e may = absurd may
    replied (Probes set) e may =
        let x : Standing = candidate me view (Probes set) in
        let P : Aim = Moves strings w (settled w.mail n) e.printed x e.leader in
        let h : Held = held_with e.leader.stores w.hashed in
        goes (Probes set) e (ignores (x e.leader.keep) P h (messages.ProbeReply (opened me view)) may
        (heard_probe me view strings P member e.leader.keep q set h e.leader.whole.no_faults
        (probes_end strings w (settled w.mail n) e.printed x e.leader (joined q set) nothing h quiet e.leader.whole (more_own set (has_quorum me view set) e.under) (counts_probe me view is_peer peers w.mail n q reply other at set e.under.size w e.crowd))))
    replied (Prepares set) e (inl may) =
        stays (Prepares set) tt e (λ same. let no : ⊥ = grind (arith, same, may.1) in no) (λ P h holds. ignores (candidate me view (Prepares set) e.leader.keep) P h (messages.ProbeReply may.0) may.1 (while_preparing e.leader.keep set may.0 P h holds))
    replied (Prepares set) e (inr may) =
        let x : Standing = candidate me view (Prepares set) in
        let P : Aim = Moves strings w (settled w.mail n) e.printed x e.leader in
        let h : Held = held_with e.leader.stores w.hashed in
        goes (Prepares set) e (ignores (x e.leader.keep) P h (messages.Promise (ballot me view) (promised me view)) may
        (heard_promise me view strings P member e.leader.keep q set h e.leader.whole.no_faults
        (prepares_end strings w (settled w.mail n) e.printed x e.leader (joined q set) nothing h quiet e.leader.whole (more_own set (has_quorum me view set) e.under) (counts_promise me view is_peer peers w.mail n q reply other at set e.under.size w e.crowd))))
    replied (Starts set) e (inl may) =
        stays (Starts set) tt e (λ same. let no : ⊥ = grind (arith, same, may.1) in no) (λ P h holds. ignores (candidate me view (Starts set) e.leader.keep) P h (messages.ProbeReply may.0) may.1 (probe_while_starting e.leader.keep set may.0 P h holds))
    replied (Starts set) e (inr (inl may)) =
        stays (Starts set) tt e (λ same. let no : ⊥ = grind (arith, same, may) in no) (λ P h holds. ignores (candidate me view (Starts set) e.leader.keep) P h (messages.Promise (ballot me view) (promised me view)) may (promise_while_starting e.leader.keep set P h holds))
    replied (Starts set) e (inr (inr may)) =
        let x : Standing = candidate me view (Starts set) in
        let P : Aim = Moves strings w (settled w.mail n) e.printed x e.leader in
        let h : Held = held_with e.leader.stores w.hashed in
        goes (Starts set) e (ignores (x e.leader.keep) P h (messages.Accepted (ballot me view) 1) may
        (heard_acceptance me view strings P member e.leader.keep q set h e.leader.whole.no_faults
        (starts_end strings w (settled w.mail n) e.printed x e.leader (joined q set) nothing h quiet e.leader.whole (more_own set (may_lead me view set) e.under) (counts_acceptance me view is_peer peers w.mail n q reply other at set e.under.size w e.crowd))))
    replied (Led set) e (inl may) = stays (Led set) tt e tt (λ P h holds. ignores (candidate me view (Led set) e.leader.keep) P h (messages.ProbeReply may.0) may.1 (probe_while_leading e.leader.keep set may.0 P h holds))
    replied (Led set) e (inr (inl may)) = stays (Led set) tt e tt (λ P h holds. ignores (candidate me view (Led set) e.leader.keep) P h (messages.Promise (ballot me view) (promised me view)) may (promise_while_leading e.leader.keep set P h holds))
    replied (Led set) e (inr (inr may)) =
        let x : Standing = candidate me view (Led set) in
        let P : Aim = Moves strings w (settled w.mail n) e.printed x e.leader in
        let h : Held = held_with e.leader.stores w.hashed in
        goes (Led set) e (ignores (x e.leader.keep) P h (messages.Accepted (ballot me view) 1) may
        (led_hears me view strings P member e.leader.keep q set h
        (at_step strings w (settled w.mail n) e.printed x e.leader (Led (joined q set)) tt nothing h [] quiet e.leader.whole tt (leader_counts me view is_peer peers w.mail n q reply other at set (joined q set) w e.crowd))))
