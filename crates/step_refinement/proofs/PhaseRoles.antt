-- The part of a peer in leading, as its role in the theory of leaders, through a row of a phase: a leader
-- steps down and its calls are answered, an epoch begins, or the peer becomes its leader.
use Rattle.std.proofs.Common.{◌≡◌, inl, inr, ℕ, Bool, true, false, List, [], refl, ap, sym, subst, ◌∙◌}
use Rattle.ens_base.specs.declared.epoch.Epoch.{Epoch}
use Rattle.protocol_laws.specs.Ledger.{Ledger}
use Rattle.protocol_laws.specs.Numbers.{epoch_number}
use Rattle.protocol_laws.specs.Protocol.{State, Step, IsRun, state_after}
use Rattle.call_table.specs.Calls.{running}
use Rattle.call_table.specs.Rows.{row_at}
use Rattle.phase_rules.specs.declared.election.Election.TheVariants.{Preparing, Starting}
use Rattle.protocol_laws.specs.Preparing.{proposer_of}
use Rattle.election_refinement.proofs.Numbers.{proposer_of-number}
use Rattle.election_refinement.proofs.Parts.{Part, Out as Outside, Begun, Led, uncounted, part, Turns}
use Rattle.election_refinement.specs.Refinement.{PhaseHolds, IsLeading, IsStarted}
use Rattle.role_laws.specs.Leaders.{TurnsHold, OwesHold, IsUnled}
use Rattle.role_laws.specs.Roles.{IsLeaderOf, RoleHolds}
use Rattle.role_laws.specs.Tables.{Ghosts, Owed}
use Rattle.leader_refinement.proofs.Leaving.{run_leaves}
use Rattle.leader_refinement.proofs.Openings.{run_begins}
use Rattle.leader_refinement.specs.Follows.{Hash, LeaderFits, TaskHolds, IsAtWork}
use Rattle.leader_refinement.specs.Seen.{table_of, owed_after}
use Rattle.leader.specs.Leaders.{new_leader}
use Rattle.leader.specs.declared.leader.Leader.{Leader}
use Rattle.leader.specs.declared.pending.Pending.{Pending}
use Rattle.leader.specs.declared.pending.Pending.TheVariants as pendings
use Rattle.peer_state.specs.Moves.{accepts_in, left, left_answers, stopped_leading, timeouts, turned, turned_answers, without_candidacy}
use Rattle.peer_state.specs.declared.state.ChangeState.TheVariants.{Settled}
use Rattle.peer_state.specs.declared.state.Phase.{Phase}
use Rattle.peer_state.specs.declared.state.Phase.TheVariants as phases
use Rattle.peer_state.specs.declared.state.State.{State as PeerState}
use Rattle.stored_formats.specs.declared.fact.Fact.{Fact}
use Rattle.step_plans.specs.Plans.{Out}
use Rattle.phase_rows.specs.declared.phase.Then.{Then}
use Rattle.phase_rows.specs.declared.phase.Then.TheVariants as thens
use Rattle.step_refinement.proofs.Stretches.{owed_both}
use Rattle.step_refinement.specs.Peers.{PhaseFits, IsAtRest}
use Rattle.step_refinement.specs.Roles.{role_in}

-- ## Leaders, but for the acceptances that they counted

uncounted_fits : (hash : Hash) (s : State) (l : Leader) → LeaderFits hash s l → LeaderFits hash s (uncounted l)
uncounted_fits hash s l fits = record { epoch = fits.epoch; seq = fits.seq; views = fits.views; rows = fits.rows; calls = fits.calls; calm = fits.calm }

counted_fits : (hash : Hash) (s : State) (l : Leader) → LeaderFits hash s (uncounted l) → LeaderFits hash s l
counted_fits hash s l fits = record { epoch = fits.epoch; seq = fits.seq; views = fits.views; rows = fits.rows; calls = fits.calls; calm = fits.calm }

-- ## Answers that are owed

-- a peer that began an epoch does not lead
abbrev IsNotLed : Part → Type 0
IsNotLed Outside = Unit {0}
IsNotLed (Begun d) = Unit {0}
IsNotLed (Led l) = ⊥

begun_not_led : (l : Leader) (d : ℕ) → Led l ≡ Begun d → ⊥
begun_not_led l d same = subst IsNotLed (sym same) tt

no_timeouts : (phase : Phase) (d : ℕ) → part phase ≡ Begun d → timeouts phase ≡ []
no_timeouts (phases.Leading y) d begun = absurd (begun_not_led (uncounted y.leader) d begun)
no_timeouts (phases.Following f) d begun = refl
no_timeouts (phases.Probing b) d begun = refl
no_timeouts (phases.Electing e) d begun = refl

stopped_begun : (phase : Phase) (d : ℕ) → part phase ≡ Begun d → part (stopped_leading phase) ≡ Begun d
stopped_begun (phases.Leading y) d begun = absurd (begun_not_led (uncounted y.leader) d begun)
stopped_begun (phases.Following f) d begun = begun
stopped_begun (phases.Probing b) d begun = begun
stopped_begun (phases.Electing e) d begun = begun

-- a peer that stops leading still has begun the epoch that it began
pub left_begun : (leave : Bool) (x : PeerState) (d : ℕ) → part x.phase ≡ Begun d → part (left leave x).phase ≡ Begun d
left_begun true x d begun = stopped_begun x.phase d begun
left_begun false x d begun = begun

-- ## Parts and roles

-- the peer proposes the epoch that it started
epoch_own : (l : Ledger) (p : ℕ) (fact new : Fact) (accepts : List Bool) → IsStarted l p fact new accepts → proposer_of (epoch_number new.epoch) ≡ p
epoch_own l p fact new accepts started = proposer_of-number new.epoch started.first.known.epoch ∙ (ap (λ (e : Epoch). e.proposer) started.at_ballot ∙ started.own)

-- peer p after a run
module _ (view : List ℕ) (steps : List Step) (run : IsRun view steps) (g : Ghosts) (turns : TurnsHold g (state_after view steps)) (p : ℕ) (key : List ℕ) where
  -- what holds of a part: of the answers that the peer owes, of the epoch that it began, and of its table,
  -- if it leads; no task is at hand
  abbrev pub PartStands : Part → List Owed → Type 0
  PartStands Outside owed = OwesHold g (state_after view steps) p owed
  PartStands (Begun d) owed = OwesHold g (state_after view steps) p owed × IsUnled g (state_after view steps) d
  PartStands (Led l) owed = IsLeaderOf g (state_after view steps) p (table_of key owed l) × (LeaderFits g.hash (state_after view steps) l × (l.task ≡ pendings.Nothing))

  -- the same of a phase, as the peer's role
  pub record PhaseStands (phase : Phase) (owed : List Owed) : Type 0 where
    pub role : RoleHolds g (state_after view steps) p (role_in key phase owed)
    pub fits : PhaseFits g.hash (state_after view steps) phase
    pub rests : IsAtRest phase

  -- what stands of a phase stands of its part
  pub part_stands : (phase : Phase) (owed : List Owed) → RoleHolds g (state_after view steps) p (role_in key phase owed) → PhaseFits g.hash (state_after view steps) phase → IsAtRest phase → PartStands (part phase) owed
  part_stands (phases.Leading y) owed role fits rests = (role, (uncounted_fits g.hash (state_after view steps) y.leader fits, rests))
  part_stands (phases.Following f) owed role fits rests = role
  part_stands (phases.Probing b) owed role fits rests = role
  part_stands (phases.Electing (Preparing base promises asked age)) owed role fits rests = role
  part_stands (phases.Electing (Starting new accepts age)) owed role fits rests = (role.owes, role.unled)

  phase_stands : (l : Ledger) (fact : Fact) (phase : Phase) (owed : List Owed) → PhaseHolds l p fact phase → PartStands (part phase) owed → PhaseStands phase owed
  phase_stands l fact (phases.Leading y) owed holds stands = record { role = stands.0; fits = counted_fits g.hash (state_after view steps) y.leader stands.1.0; rests = stands.1.1 }
  phase_stands l fact (phases.Following f) owed holds stands = record { role = stands; fits = tt; rests = tt }
  phase_stands l fact (phases.Probing b) owed holds stands = record { role = stands; fits = tt; rests = tt }
  phase_stands l fact (phases.Electing (Preparing base promises asked age)) owed holds stands = record { role = stands; fits = tt; rests = tt }
  phase_stands l fact (phases.Electing (Starting new accepts age)) owed holds stands =
      record { role = record { own = epoch_own l p fact new accepts holds.started; owes = stands.0; unled = stands.1 }; fits = tt; rests = tt }

  -- whatever the part is, the answers that the peer owes may be given
  part_owes : (q : Part) (owed : List Owed) → PartStands q owed → OwesHold g (state_after view steps) p owed
  part_owes Outside owed stands = stands
  part_owes (Begun d) owed stands = stands.0
  part_owes (Led l) owed stands = subst (λ (q : ℕ). OwesHold g (state_after view steps) q owed) stands.0.peer stands.0.table.owes

  -- the part stays, or it ends, or the peer begins an epoch that no leader has begun
  pub turn_stands : (l : Ledger) (before next : Part) (owed : List Owed) → Turns l before next → ((d : ℕ) → l.elected d ≡ false → IsUnled g (state_after view steps) d) → PartStands before owed → PartStands next owed
  turn_stands l before next owed (inl same) unled stands = subst (λ (q : Part). PartStands q owed) (sym same) stands
  turn_stands l before next owed (inr (inl out)) unled stands = subst (λ (q : Part). PartStands q owed) (sym out) (part_owes before owed stands)
  turn_stands l before next owed (inr (inr begins)) unled stands =
      subst (λ (q : Part). PartStands q owed) (sym begins.begun) (part_owes before owed stands, unled begins.epoch begins.fresh)

  -- a leader without a task is at work
  works : (l : Leader) (owed : List Owed) → IsLeaderOf g (state_after view steps) p (table_of key owed l) → LeaderFits g.hash (state_after view steps) l → l.task ≡ pendings.Nothing → IsAtWork g (state_after view steps) key owed l
  works l owed role fits free = record {
    holds = role.table;
    turns = turns;
    fits = fits;
    task = subst (λ (task : Pending). TaskHolds (state_after view steps) l key (row_at key l.table.rows).known (running key l.table.calls) task) (sym free) tt;
  }

  -- once a leader has stepped down, it owes each of its calls a timeout
  leaves_owing : (phase : Phase) (owed : List Owed) → PartStands (part phase) owed → OwesHold g (state_after view steps) p (owed_after owed (timeouts phase))
  leaves_owing (phases.Leading y) owed stands =
      subst (λ (q : ℕ). OwesHold g (state_after view steps) q (owed_after owed (timeouts (phases.Leading y)))) stands.0.peer
      (run_leaves view steps run g key owed y.leader (works y.leader owed stands.0 (counted_fits g.hash (state_after view steps) y.leader stands.1.0) stands.1.1)).owes
  leaves_owing (phases.Following f) owed stands = stands
  leaves_owing (phases.Probing b) owed stands = stands
  leaves_owing (phases.Electing e) owed stands = part_owes (part (phases.Electing e)) owed stands

  -- a peer that no longer trusts its tree leads no longer, and has begun no epoch
  pub untrusted_stands : (phase : Phase) (owed : List Owed) → PartStands (part phase) owed → PhaseStands (without_candidacy (stopped_leading phase)) (owed_after owed (timeouts phase))
  untrusted_stands (phases.Leading y) owed stands = record { role = leaves_owing (phases.Leading y) owed stands; fits = tt; rests = tt }
  untrusted_stands (phases.Following f) owed stands = record { role = stands; fits = tt; rests = tt }
  untrusted_stands (phases.Probing b) owed stands = record { role = stands; fits = tt; rests = tt }
  untrusted_stands (phases.Electing (Preparing base promises asked age)) owed stands = record { role = stands; fits = tt; rests = tt }
  untrusted_stands (phases.Electing (Starting new accepts age)) owed stands = record { role = stands.0; fits = tt; rests = tt }

  stopped_stands : (phase : Phase) (owed : List Owed) → PartStands (part phase) owed → PartStands (part (stopped_leading phase)) (owed_after owed (timeouts phase))
  stopped_stands (phases.Leading y) owed stands = leaves_owing (phases.Leading y) owed stands
  stopped_stands (phases.Following f) owed stands = stands
  stopped_stands (phases.Probing b) owed stands = stands
  stopped_stands (phases.Electing e) owed stands = stands

  -- a leader steps down if the row asks for it
  pub left_stands : (leave : Bool) (x : PeerState) (out : Out) → PartStands (part x.phase) (owed_after [] out.answers) → PartStands (part (left leave x).phase) (owed_after [] (left_answers leave x out).answers)
  left_stands true x out stands =
      subst (λ (owed : List Owed). PartStands (part (stopped_leading x.phase)) owed) (sym (owed_both [] out.answers (timeouts x.phase))) (stopped_stands x.phase (owed_after [] out.answers) stands)
  left_stands false x out stands = stands

  -- the peer becomes the leader of the epoch that it began
  leads_now : (fact saved : Fact) (accepts : List Bool) (owed : List Owed) → IsLeading (state_after view steps).objects.ledger p saved (record { leader = new_leader fact p accepts; change = Settled }) → PartStands (Begun (epoch_number fact.epoch)) owed → PhaseStands (phases.Leading (record { leader = new_leader fact p accepts; change = Settled })) owed
  leads_now fact saved accepts owed leading stands = record {
    role = record { peer = refl; own = epoch_own (state_after view steps).objects.ledger p saved fact accepts leading.started; table = work.holds };
    fits = work.fits;
    rests = refl;
  }
    where
      work : IsAtWork g (state_after view steps) key owed (new_leader fact p accepts)
      work = run_begins view steps run g key owed fact p accepts turns stands.0 leading.started.first.later leading.started.first.known.elected leading.established stands.1
          leading.started.first.known.epoch (sym leading.started.first.known.views)

  -- what follows the message of a row
  pub turned_stands : (then : Then) (x : PeerState) (out : Out) → ((fact : Fact) → then ≡ thens.Lead fact → part x.phase ≡ Begun (epoch_number fact.epoch)) → PhaseHolds (state_after view steps).objects.ledger p (turned p then x).fact (turned p then x).phase
      → PartStands (part x.phase) (owed_after [] out.answers) → PhaseStands (turned p then x).phase (owed_after [] (turned_answers then x out).answers)
  turned_stands thens.Follow x out begun holds stands = record {
    role = subst (λ (owed : List Owed). OwesHold g (state_after view steps) p owed) (sym (owed_both [] out.answers (timeouts x.phase))) (leaves_owing x.phase (owed_after [] out.answers) stands);
    fits = tt;
    rests = tt;
  }
  turned_stands (thens.Lead fact) x out begun holds stands =
      subst (λ (owed : List Owed). PhaseStands (turned p (thens.Lead fact) x).phase owed)
      (sym (owed_both [] out.answers (timeouts x.phase) ∙ ap (owed_after (owed_after [] out.answers)) (no_timeouts x.phase (epoch_number fact.epoch) (begun fact refl))))
      (leads_now fact x.fact (accepts_in x.phase) (owed_after [] out.answers) holds (subst (λ (q : Part). PartStands q (owed_after [] out.answers)) (begun fact refl) stands))
  turned_stands thens.Untrust x out begun holds stands =
      subst (λ (owed : List Owed). PhaseStands (without_candidacy (stopped_leading x.phase)) owed) (sym (owed_both [] out.answers (timeouts x.phase))) (untrusted_stands x.phase (owed_after [] out.answers) stands)
  turned_stands thens.Stay x out begun holds stands = phase_stands (state_after view steps).objects.ledger x.fact x.phase (owed_after [] out.answers) holds stands
  turned_stands thens.Put x out begun holds stands = phase_stands (state_after view steps).objects.ledger x.fact x.phase (owed_after [] out.answers) holds stands
  turned_stands thens.Resume x out begun holds stands = phase_stands (state_after view steps).objects.ledger x.fact x.phase (owed_after [] out.answers) holds stands
  turned_stands (thens.SyncOn fact) x out begun holds stands = phase_stands (state_after view steps).objects.ledger x.fact x.phase (owed_after [] out.answers) holds stands
  turned_stands (thens.Rule n) x out begun holds stands = phase_stands (state_after view steps).objects.ledger x.fact x.phase (owed_after [] out.answers) holds stands
  turned_stands (thens.OnKeys n) x out begun holds stands = phase_stands (state_after view steps).objects.ledger x.fact x.phase (owed_after [] out.answers) holds stands
