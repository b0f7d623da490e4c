-- After six ticks of a member and a calm, the member leads, and every other member accepted its epoch.
use Rattle.std.proofs.Common.{◌≡◌, ◌≤◌, ◌<◌, refl, sym, subst, ℕ, Bool, true, List, [], ◌∷◌, length, None}
use Rattle.ens_base.proofs.Lists.{in_left}
use Rattle.ens_base.specs.Lists.{◌∈◌}
use Rattle.ens_base.specs.View.{IsPeer}
use Rattle.quorums.specs.Members.{those}
use Rattle.network.specs.Mail.{most_messages, oldest, is_among}
use Rattle.schedule_text.specs.declared.event.ScheduleEvent.{ScheduleEvent}
use Rattle.schedule_text.specs.declared.event.ScheduleEvent.TheVariants.{Tick, Calm}
use Rattle.calm_step_laws.specs.PeerRefinement.{AreAmong}
use Rattle.schedule_text.specs.declared.form.Form.{Form}
use Rattle.world_refinement.proofs.WorldSpec.{calmed_grows}
use Rattle.world_refinement.specs.WorldSpec.{counted, run_of_schedule, Run, opening_run, ticked, calmed}
use Rattle.calm_step_laws.proofs.CandidateSteps.{accepted}
use Rattle.calm_step_laws.proofs.Keeping.{Standing}
use Rattle.calm_laws.proofs.ElectionCalm.{election_calm, ticks_on}
use Rattle.calm_laws.proofs.ElectionReplies.{IsElecting}
use Rattle.calm_laws.proofs.Elections.{Step, Led, Elects, IsOther, rests, candidate}
use Rattle.calm_laws.proofs.Opening.{opening_elects}
use Rattle.calm_laws.proofs.Standing.{Stands}
use Rattle.calm_laws.proofs.Worlds.{ticked_alive}

-- counting a line moves nothing
counted_stands : (e : ScheduleEvent) (w : Run) (q : ℕ) (x : Standing) → Stands w q x [] → Stands (counted e w) q x []
counted_stands e w q x s = record { keep = s.keep; stores = s.stores; at = s.at; whole = s.whole }

counted_elects : (me : ℕ) (view : List ℕ) (step : Step) (e : ScheduleEvent) (w : Run) → Elects me view step w → Elects me view step (counted e w)
counted_elects me view step e w it = record {
  printed = it.printed;
  leader = counted_stands e w me (candidate me view step) it.leader;
  under = it.under;
  crowd = record {
    mail = it.crowd.mail;
    others = λ q is. let o = it.crowd.others q is in record { fact = o.fact; stands = counted_stands e w q (rests o.fact) o.stands; may = o.may; heard = o.heard };
    kinds = it.crowd.kinds;
  };
}

-- the peer leads, and no message of the election waits
pub record HasLeader (me : ℕ) (view : List ℕ) (w : Run) : Type 0 where
  pub accepts : List Bool
  pub elects : Elects me view (Led accepts) w
  pub others : (q : ℕ) → IsOther me view q → Stands w q (rests (accepted me view)) []
  pub none : oldest (is_among (those (λ p. true))) w.mail ≡ None

module _ (form : Form) (me peers : ℕ) (view : List ℕ) (listed : me ∈ view) (all : (q : ℕ) → q ∈ view → IsPeer q × (q ≤ peers)) (filled : 0 < length view) (strings : List (List ℕ)) where
  are_peers : (q : ℕ) → q ∈ view → IsPeer q
  are_peers q is = (all q is).0

  -- the world after the ticks
  abbrev ticking : Run
  ticking = counted (Tick me 6) (ticked me 6 (opening_run form peers view))

  abbrev pub first_world : Run
  first_world = run_of_schedule form peers view (Tick me 6 ∷ Calm ∷ [])

  among_ticks : AreAmong first_world.hashed strings → AreAmong (ticked me 6 (opening_run form peers view)).hashed strings
  among_ticks among s there = let far = (calmed_grows (those (λ p. true)) most_messages ticking).hashed in among s (subst (λ (hs : List (List ℕ)). s ∈ hs) (sym far.1) (in_left ticking.hashed far.0 s there))

  begun : AreAmong first_world.hashed strings → IsElecting me view (all me listed).0 are_peers listed ticking
  begun among =
      let it = ticks_on me view (all me listed).0 are_peers listed strings 5 0 (opening_run form peers view) refl (opening_elects form view me peers listed all) (among_ticks among) in
      (it.0, (it.1.0, counted_elects me view it.0 (Tick me 6) (ticked me 6 (opening_run form peers view)) it.1.1))

  pub first_calm : AreAmong first_world.hashed strings → oldest (is_among (those (λ p. true))) first_world.mail ≡ None → HasLeader me view first_world
  first_calm among none =
      let led = election_calm me view (all me listed).0 are_peers listed strings most_messages ticking filled (ticked_alive me 6 (opening_run form peers view)) (begun among) among none in
      record {
        accepts = led.accepts;
        elects = counted_elects me view (Led led.accepts) Calm (calmed (those (λ p. true)) most_messages ticking) led.elects;
        others = λ q is. counted_stands Calm (calmed (those (λ p. true)) most_messages ticking) q (rests (accepted me view)) (led.others q is);
        none = none;
      }
