-- Whole steps of the only candidate of a calm run: ticks, and replies to its three rounds.
use Rattle.std.proofs.Common.{◌≡◌, ◌+◌, ◌-◌, ◌^◌, ◌==◌, ◌&&◌, refl, sym, subst, arith, ℕ, suc, Bool, true, false, List, [], ◌∷◌, Option, None, Some}
use Rattle.std.proofs.lemmas.Bool.Decides.{nat_tests}
use Rattle.phase_rules.specs.Preparing.{first_fact}
use Rattle.phase_rules.specs.declared.election.Election.TheVariants.{Preparing, Starting}
use Rattle.ens_base.specs.PeerSet.{holds}
use Rattle.ens_base.specs.declared.epoch.Epoch.{Epoch}
use Rattle.peer_refinement.specs.WorldSpec.{Held}
use Rattle.quorums.specs.Members.{members}
use Rattle.quorums.specs.Quorums.{is_quorum, is_member}
use Rattle.leader.specs.Leaders.{new_leader}
use Rattle.stored_formats.specs.Facts.{opening_fact}
use Rattle.stored_formats.specs.declared.fact.Fact.{Fact}
use Rattle.peer_refinement.specs.PeerSpec.{step_of, driven, most_turns, concluded, and_sends}
use Rattle.peer_state.specs.declared.event.Event.TheVariants as events
use Rattle.peer_state.specs.declared.state.Phase.TheVariants as phases
use Rattle.peer_state.specs.declared.state.State.{State}
use Rattle.phase_rows.specs.Orders.{is_same}
use Rattle.phase_rows.specs.Peers.{alone, others_of, joined}
use Rattle.phase_rows.specs.Rows.{at_ballot, silent}
use Rattle.phase_rows.specs.declared.phase.Then.TheVariants as thens
use Rattle.phase_rows.specs.declared.rules.PhaseRule.{PhaseRule}
use Rattle.phase_rows.specs.declared.rules.PhaseRule.TheVariants as phase_rules
use Rattle.phase_rules.specs.declared.probing.Probing.{Probing}
use Rattle.step_plans.specs.Plans.{Done, Out, Rest, nothing}
use Rattle.step_plans.specs.Sends.{posted_to}
use Rattle.step_plans.specs.declared.tasks.Task.{Task}
use Rattle.step_plans.specs.declared.tasks.Task.TheVariants as tasks
use Rattle.peer_refinement.specs.Whole.{HasNoFaults}
use Rattle.wire_frames.specs.declared.message.Message.TheVariants as messages
use Rattle.calm_step_laws.proofs.Candidates.{begins_7, goes_9, waits_9, prepares_10, elects_13, waits_13, leads_14, waits_14}
use Rattle.calm_step_laws.proofs.Ends.{concludes, over}
use Rattle.calm_step_laws.proofs.Keeping.{Keeping, Standing}
use Rattle.calm_step_laws.proofs.Lands.{Aim, Lands}
use Rattle.calm_step_laws.proofs.Leads.{leads}
use Rattle.calm_step_laws.proofs.RowsLand.{lands_row, held_under}

-- the one type if the test passes, and the other if not
abbrev pub by_test : Bool → Type 0 → Type 0 → Type 0
by_test true passes fails = passes
by_test false passes fails = fails

pub faults_saved : (seal : Option (List ℕ)) (fact : Fact) (h : Held) → HasNoFaults h.stores → HasNoFaults (held_under seal (Some fact) h).stores
faults_saved seal fact h none = record { facts = none.facts; backend = none.backend; tree = none.tree }

-- a step has room for the rules of an election
many_turns : most_turns ≡ suc (suc (suc (suc (suc (2 ^ 64 - 6)))))
unfolding most_turns
many_turns = omega arith

module _ (me : ℕ) (view : List ℕ) where
  abbrev pub ballot : Epoch
  ballot = record { count = 1; proposer = me }

  -- the facts that a peer of the run may have: the opening one, the same once the ballot is promised, and that of the epoch
  abbrev pub opened : Fact
  opened = opening_fact view

  abbrev pub promised : Fact
  promised = at_ballot opened ballot

  abbrev pub accepted : Fact
  accepted = first_fact promised me (view ∷ [])

  -- the states of the candidate
  abbrev pub quiet : ℕ → Standing
  quiet ticks keep = record { fact = opened; seal = keep.seal; mode = keep.mode; trusted = true; phase = phases.Following (record { quiet = ticks }); sync = None }

  abbrev pub probing : List Bool → Standing
  probing heard keep = record { fact = opened; seal = keep.seal; mode = keep.mode; trusted = true; phase = phases.Probing (record { best = opened; count = 0; heard = heard; asked = members (view ∷ []); age = 0 }); sync = None }

  abbrev pub preparing : List Bool → Standing
  preparing promises keep = record { fact = promised; seal = keep.seal; mode = keep.mode; trusted = true; phase = phases.Electing (Preparing opened promises (members (view ∷ [])) 0); sync = None }

  abbrev pub starting : List Bool → Standing
  starting accepts keep = record { fact = accepted; seal = keep.seal; mode = keep.mode; trusted = true; phase = phases.Electing (Starting accepted accepts 0); sync = None }

  abbrev pub led : List Bool → Standing
  led accepts = leads accepted (new_leader accepted me accepts)

  -- the messages with which each round begins
  abbrev pub and_probes : Out → Out
  and_probes out = and_sends out (posted_to (others_of me (members (view ∷ []))) (Some messages.Probe))

  abbrev pub and_prepares : Out → Out
  and_prepares out = and_sends out (posted_to (others_of me (members (view ∷ []))) (Some (messages.Prepare ballot)))

  abbrev pub and_announces : Out → Out
  and_announces out = and_sends out (posted_to (others_of me (members (view ∷ []))) (Some (messages.NewEpoch accepted)))

  -- the tests that end the rounds
  abbrev pub has_quorum : List Bool → Bool
  has_quorum set = is_quorum (holds set) (view ∷ [])

  abbrev pub may_lead : List Bool → Bool
  may_lead accepts = holds accepts me && has_quorum accepts

  module _ (strings : List (List ℕ)) (P : Aim) (member : is_member (view ∷ []) me ≡ true) (keep : Keeping) where
    abbrev ending : Rest State (List Task)
    ending ts y o = concluded me y o (λ u v e. Done v e)

    -- how a step ends from each rule on
    abbrev pub StartsEnd : List Bool → Out → Held → Type 0
    StartsEnd accepts out h = by_test (may_lead accepts) (P (led accepts keep) h out []) (P (starting accepts keep) h out [])

    abbrev pub PreparesEnd : List Bool → Out → Held → Type 0
    PreparesEnd promises out h = by_test (has_quorum promises) (StartsEnd (alone me) (and_announces out) (held_under keep.seal (Some accepted) h)) (P (preparing promises keep) h out [])

    abbrev pub ProbesEnd : List Bool → Out → Held → Type 0
    ProbesEnd heard out h = by_test (has_quorum heard) (PreparesEnd (alone me) (and_prepares out) (held_under keep.seal (Some promised) h)) (P (probing heard keep) h out [])

    done : (x : State) (out : Out) (h : Held) → concluded me x out (λ u v e. Done v e) ≡ Done x out → P x h out [] → Lands strings P (ending [] x out) h []
    done x out h is holds = subst (λ z. Lands strings P z h []) (sym is) (λ among. holds)

    from_14 : (n : ℕ) (accepts : List Bool) (out : Out) (h : Held) → HasNoFaults h.stores → StartsEnd accepts out h → Lands strings P (driven me (suc n) (tasks.Phase phase_rules.EnoughAccepted ∷ []) (starting accepts keep) out ending) h []
    from_14 n accepts out h none ends = by (may_lead accepts) refl ends where
      by : (b : Bool) → may_lead accepts ≡ b → by_test b (P (led accepts keep) h out []) (P (starting accepts keep) h out []) → Lands strings P (driven me (suc n) (tasks.Phase phase_rules.EnoughAccepted ∷ []) (starting accepts keep) out ending) h []
      by true is holds = leads_14 me strings P ending keep n accepted accepted accepts 0 out h [] none is (done (led accepts keep) out h (concludes me (led accepts keep) out (λ u v e. Done v e) refl) holds)
      by false is holds = waits_14 me strings P ending keep n accepted accepted accepts 0 out h [] none is (done (starting accepts keep) out h (concludes me (starting accepts keep) out (λ u v e. Done v e) tt) holds)

    from_13 : (n : ℕ) (promises : List Bool) (out : Out) (h : Held) → HasNoFaults h.stores → PreparesEnd promises out h → Lands strings P (driven me (suc (suc n)) (tasks.Phase phase_rules.EnoughPromised ∷ []) (preparing promises keep) out ending) h []
    from_13 n promises out h none ends = by (has_quorum promises) refl ends where
      by : (b : Bool) → has_quorum promises ≡ b → by_test b (StartsEnd (alone me) (and_announces out) (held_under keep.seal (Some accepted) h)) (P (preparing promises keep) h out []) → Lands strings P (driven me (suc (suc n)) (tasks.Phase phase_rules.EnoughPromised ∷ []) (preparing promises keep) out ending) h []
      by true is holds = elects_13 me strings P ending keep (suc n) promised opened promises (members (view ∷ [])) 0 out h [] none is member (refl, from_14 n (alone me) (and_announces out) (held_under keep.seal (Some accepted) h) (faults_saved keep.seal accepted h none) holds)
      by false is holds = waits_13 me strings P ending keep (suc n) promised opened promises (members (view ∷ [])) 0 out h [] none is (done (preparing promises keep) out h (concludes me (preparing promises keep) out (λ u v e. Done v e) tt) holds)

    from_9 : (n : ℕ) (heard : List Bool) (out : Out) (h : Held) → HasNoFaults h.stores → ProbesEnd heard out h → Lands strings P (driven me (suc (suc (suc (suc n)))) (tasks.Phase phase_rules.EnoughHeard ∷ []) (probing heard keep) out ending) h []
    from_9 n heard out h none ends = by (has_quorum heard) refl ends where
      b : Probing
      b = record { best = opened; count = 0; heard = heard; asked = members (view ∷ []); age = 0 }

      by : (t : Bool) → has_quorum heard ≡ t → by_test t (PreparesEnd (alone me) (and_prepares out) (held_under keep.seal (Some promised) h)) (P (probing heard keep) h out []) → Lands strings P (driven me (suc (suc (suc (suc n)))) (tasks.Phase phase_rules.EnoughHeard ∷ []) (probing heard keep) out ending) h []
      by true is holds = goes_9 me strings P ending keep (suc (suc (suc n))) opened b out h [] none is
          (prepares_10 me strings P ending keep (suc (suc n)) opened b out h [] none member refl (from_13 n (alone me) (and_prepares out) (held_under keep.seal (Some promised) h) (faults_saved keep.seal promised h none) holds))
      by false is holds = waits_9 me strings P ending keep (suc (suc (suc n))) opened b out h [] none is (done (probing heard keep) out h (concludes me (probing heard keep) out (λ u v e. Done v e) tt) holds)

    -- the rules that a row names are run in the loop of the step
    loops : (k : PhaseRule) (x : State) (out : Out) (h : Held) → Lands strings P (driven me (suc (suc (suc (suc (suc (2 ^ 64 - 6)))))) (tasks.Phase k ∷ []) x out ending) h [] → Lands strings P (driven me most_turns (tasks.Phase k ∷ []) x out ending) h []
    loops k x out h lands = subst (λ n. Lands strings P (driven me n (tasks.Phase k ∷ []) x out ending) h []) (sym many_turns) lands

    -- ## Replies

    same_ballot : is_same ballot ballot ≡ true
    same_ballot = grind (arith, nat_tests)

    -- rule 8: a reply to a probe is counted
    pub heard_probe : (q : ℕ) (heard : List Bool) (h : Held) → HasNoFaults h.stores → ProbesEnd (joined q heard) nothing h → Lands strings P (step_of me (events.Deliver q (messages.ProbeReply opened)) (probing heard keep)) h []
    heard_probe q heard h none ends =
        lands_row me strings P (silent (thens.Rule phase_rules.EnoughHeard)) (probing (joined q heard) keep) nothing (λ ts y o. driven me most_turns ts y o ending) h [] none tt
        (loops phase_rules.EnoughHeard (probing (joined q heard) keep) nothing h (from_9 (suc (2 ^ 64 - 6)) (joined q heard) nothing h none ends))

    -- rule 12: a promise is counted
    pub heard_promise : (q : ℕ) (promises : List Bool) (h : Held) → HasNoFaults h.stores → PreparesEnd (joined q promises) nothing h → Lands strings P (step_of me (events.Deliver q (messages.Promise ballot promised)) (preparing promises keep)) h []
    heard_promise q promises h none ends =
        rw same_ballot (lands_row me strings P (silent (thens.Rule phase_rules.EnoughPromised)) (preparing (joined q promises) keep) nothing (λ ts y o. driven me most_turns ts y o ending) h [] none tt
        (loops phase_rules.EnoughPromised (preparing (joined q promises) keep) nothing h (from_13 (suc (suc (suc (2 ^ 64 - 6)))) (joined q promises) nothing h none ends)))

    -- rule 17: an acceptance is counted
    pub heard_acceptance : (q : ℕ) (accepts : List Bool) (h : Held) → HasNoFaults h.stores → StartsEnd (joined q accepts) nothing h → Lands strings P (step_of me (events.Deliver q (messages.Accepted ballot 1)) (starting accepts keep)) h []
    heard_acceptance q accepts h none ends =
        rw same_ballot (lands_row me strings P (silent (thens.Rule phase_rules.EnoughAccepted)) (starting (joined q accepts) keep) nothing (λ ts y o. driven me most_turns ts y o ending) h [] none tt
        (loops phase_rules.EnoughAccepted (starting (joined q accepts) keep) nothing h (from_14 (suc (suc (suc (suc (2 ^ 64 - 6))))) (joined q accepts) nothing h none ends)))

    -- and by a leader
    pub led_hears : (q : ℕ) (accepts : List Bool) (h : Held) → P (led (joined q accepts) keep) h nothing [] → Lands strings P (step_of me (events.Deliver q (messages.Accepted ballot 1)) (led accepts keep)) h []
    led_hears q accepts h holds =
        rw same_ballot (subst (λ z. Lands strings P z h []) (sym (over me (led (joined q accepts) keep) nothing refl)) (λ among. holds))

    -- ## Ticks

    -- rule 2: a quiet tick is counted
    pub ticks_quietly : (ticks : ℕ) (h : Held) → (ticks + 1 == 6) ≡ false → P (quiet (ticks + 1) keep) h nothing [] → Lands strings P (step_of me events.Tick (quiet ticks keep)) h []
    ticks_quietly ticks h early holds = rw (member, early) (subst (λ z. Lands strings P z h []) (sym (over me (quiet (ticks + 1) keep) nothing tt)) (λ among. holds))

    -- rules 2 and 7: at the sixth the peer begins to probe
    pub ticks_at_last : (h : Held) → HasNoFaults h.stores → ProbesEnd (alone me) (and_probes nothing) h → Lands strings P (step_of me events.Tick (quiet 5 keep)) h []
    ticks_at_last h none ends =
        rw member (lands_row me strings P (silent (thens.Rule phase_rules.BeginProbing)) (quiet 6 keep) nothing (λ ts y o. driven me most_turns ts y o ending) h [] none tt
        (loops phase_rules.BeginProbing (quiet 6 keep) nothing h (begins_7 me strings P ending keep (suc (suc (suc (suc (2 ^ 64 - 6))))) (quiet 6 keep) nothing h [] none (from_9 (2 ^ 64 - 6) (alone me) (and_probes nothing) h none ends))))
