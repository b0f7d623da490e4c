-- The rules of a candidate that follow one another in a step: 9, 10, 13 and 14.
use Rattle.std.proofs.Common.{◌≡◌, ap, sym, ◌∙◌, subst, ℕ, suc, ◌==◌, ◌&&◌, Bool, true, false, List, [], ◌∷◌, ◌++◌, None, Some}
use Rattle.std.specs.Prelude.{◌^◌, ◌-◌}
use Rattle.std.proofs.lemmas.List.{append-nil}
use Rattle.phase_rules.specs.Preparing.{next_ballot, first_fact, starts}
use Rattle.phase_rules.specs.declared.election.Election.{Election}
use Rattle.phase_rules.specs.declared.election.Election.TheVariants.{Preparing, Starting}
use Rattle.ens_base.specs.PeerSet.{holds}
use Rattle.peer_refinement.specs.WorldSpec.{Held}
use Rattle.quorums.specs.Members.{members}
use Rattle.quorums.specs.Quorums.{is_quorum, is_member}
use Rattle.peer_refinement.specs.PeerSpec.{driven, and_sends}
use Rattle.peer_state.specs.Moves.{left, left_answers, turned, turned_answers, and_answers, led}
use Rattle.peer_state.specs.Rows.{phase_row}
use Rattle.peer_state.specs.declared.state.Phase.TheVariants as phases
use Rattle.peer_state.specs.declared.state.State.{State}
use Rattle.stored_formats.specs.Facts.{views_after}
use Rattle.stored_formats.specs.declared.fact.Fact.{Fact}
use Rattle.phase_rows.specs.Orders.{may_accept}
use Rattle.phase_rows.specs.Peers.{alone, others_of}
use Rattle.phase_rows.specs.Rows.{at_ballot}
use Rattle.phase_rules.specs.Probing.{first_probing}
use Rattle.phase_rules.specs.declared.probing.Probing.{Probing}
use Rattle.register_model.specs.declared.note.Note.{Note}
use Rattle.step_plans.specs.Plans.{Out, Rest}
use Rattle.step_plans.specs.Sends.{posted_to}
use Rattle.step_plans.specs.Tasks.{named}
use Rattle.step_plans.specs.declared.tasks.Task.{Task}
use Rattle.step_plans.specs.declared.tasks.Task.TheVariants as tasks
use Rattle.peer_refinement.specs.Whole.{HasNoFaults}
use Rattle.peer_refinement.proofs.PeerSpec.{driven_none}
use Rattle.wire_frames.specs.declared.message.Message.TheVariants as messages
use Rattle.phase_rows.specs.declared.phase.PhaseOut.{PhaseOut}
use Rattle.phase_rows.specs.declared.rules.PhaseRule.{PhaseRule}
use Rattle.phase_rows.specs.declared.rules.PhaseRule.TheVariants as phase_rules
use Rattle.calm_step_laws.proofs.Keeping.{Keeping}
use Rattle.calm_step_laws.proofs.Lands.{Aim, Lands}
use Rattle.calm_step_laws.proofs.RowsLand.{with_saved, held_under, IsPlain, lands_row}

same_sends : (out : Out) → and_sends out [] ≡ out
same_sends out = ap (λ s. record out { sends = s }) (append-nil out.sends)

same_answers : (out : Out) → and_answers out [] ≡ out
same_answers out = ap (λ a. record out { answers = a }) (append-nil out.answers)

module _ (me : ℕ) (strings : List (List ℕ)) (P : Aim) (next : Rest State (List Task)) (keep : Keeping) where
  -- one rule of a phase
  phase_task : (n : ℕ) (k : PhaseRule) (x : State) (out : Out) (h : Held) (ns : List Note) → HasNoFaults h.stores → IsPlain (phase_row k me x).1.then
      → (let row : PhaseOut = (phase_row k me x).1 in let y : State = with_saved row.save (left row.leave (phase_row k me x).0) in
      Lands strings P (driven me n (named row.then ++ []) (turned me row.then y) (turned_answers row.then y (and_sends (left_answers row.leave (phase_row k me x).0 out) (posted_to row.to row.message))) next) (held_under (left row.leave (phase_row k me x).0).seal row.save h) ns)
      → Lands strings P (driven me (suc n) (tasks.Phase k ∷ []) x out next) h ns
  unfolding driven
  phase_task n k x out h ns none plain lands =
      lands_row me strings P (phase_row k me x).1 (phase_row k me x).0 out (λ more y o. driven me n (more ++ []) y o next) h ns none plain lands

  abbrev at_rest : (n : ℕ) (x : State) (out : Out) (h : Held) (ns : List Note) → Lands strings P (next [] x out) h ns → Lands strings P (driven me n [] x out next) h ns
  at_rest n x out h ns lands = subst (λ plan. Lands strings P plan h ns) (sym (driven_none me n x out next)) lands

  -- the state of a candidate
  abbrev pub stands : Fact → Election → State
  stands fact e = record { fact = fact; seal = keep.seal; mode = keep.mode; trusted = true; phase = phases.Electing e; sync = None }

  abbrev pub probes : Fact → Probing → State
  probes fact b = record { fact = fact; seal = keep.seal; mode = keep.mode; trusted = true; phase = phases.Probing b; sync = None }

  -- rule 14: without a quorum the peer goes on waiting
  pub waits_14 : (n : ℕ) (fact new : Fact) (accepts : List Bool) (age : ℕ) (out : Out) (h : Held) (ns : List Note) → HasNoFaults h.stores → (holds accepts me && is_quorum (holds accepts) new.views) ≡ false
      → Lands strings P (next [] (stands fact (Starting new accepts age)) out) h ns → Lands strings P (driven me (suc n) (tasks.Phase phase_rules.EnoughAccepted ∷ []) (stands fact (Starting new accepts age)) out next) h ns
  waits_14 n fact new accepts age out h ns none not_yet lands =
      phase_task n phase_rules.EnoughAccepted (stands fact (Starting new accepts age)) out h ns none (rw not_yet tt) (rw (not_yet, same_sends out) (at_rest n (stands fact (Starting new accepts age)) out h ns lands))

  -- and with one it leads
  pub leads_14 : (n : ℕ) (fact new : Fact) (accepts : List Bool) (age : ℕ) (out : Out) (h : Held) (ns : List Note) → HasNoFaults h.stores → (holds accepts me && is_quorum (holds accepts) new.views) ≡ true
      → Lands strings P (next [] (led me new (stands fact (Starting new accepts age))) out) h ns → Lands strings P (driven me (suc n) (tasks.Phase phase_rules.EnoughAccepted ∷ []) (stands fact (Starting new accepts age)) out next) h ns
  leads_14 n fact new accepts age out h ns none quorum lands =
      phase_task n phase_rules.EnoughAccepted (stands fact (Starting new accepts age)) out h ns none (rw quorum tt) (rw quorum (subst (λ o. Lands strings P (driven me n [] (led me new (stands fact (Starting new accepts age))) o next) h ns) (sym (same_answers (and_sends out []) ∙ same_sends out)) (at_rest n (led me new (stands fact (Starting new accepts age))) out h ns lands)))

  -- rule 13: without a quorum the peer goes on waiting
  pub waits_13 : (n : ℕ) (fact base : Fact) (promises asked : List Bool) (age : ℕ) (out : Out) (h : Held) (ns : List Note) → HasNoFaults h.stores → is_quorum (holds promises) base.views ≡ false
      → Lands strings P (next [] (stands fact (Preparing base promises asked age)) out) h ns → Lands strings P (driven me (suc n) (tasks.Phase phase_rules.EnoughPromised ∷ []) (stands fact (Preparing base promises asked age)) out next) h ns
  waits_13 n fact base promises asked age out h ns none not_yet lands =
      phase_task n phase_rules.EnoughPromised (stands fact (Preparing base promises asked age)) out h ns none (rw not_yet tt) (rw (not_yet, same_sends out) (at_rest n (stands fact (Preparing base promises asked age)) out h ns lands))

  -- and with one the epoch begins; rule 14 runs
  pub elects_13 : (n : ℕ) (fact base : Fact) (promises asked : List Bool) (age : ℕ) (out : Out) (h : Held) (ns : List Note) → HasNoFaults h.stores → is_quorum (holds promises) base.views ≡ true → is_member (views_after base) me ≡ true
      → (let new : Fact = first_fact fact me (views_after base) in (may_accept true me new ≡ true)
      × Lands strings P (driven me n (tasks.Phase phase_rules.EnoughAccepted ∷ []) (stands new (Starting new (alone me) 0)) (and_sends out (posted_to (others_of me (members new.views)) (Some (messages.NewEpoch new)))) next) (held_under keep.seal (Some new) h) ns)
      → Lands strings P (driven me (suc n) (tasks.Phase phase_rules.EnoughPromised ∷ []) (stands fact (Preparing base promises asked age)) out next) h ns
  unfolding starts
  elects_13 n fact base promises asked age out h ns none quorum member lands =
      phase_task n phase_rules.EnoughPromised (stands fact (Preparing base promises asked age)) out h ns none (rw (quorum, member, lands.0) tt) (rw (quorum, member, lands.0) lands.1)

  -- rule 10: the next ballot is prepared; rule 13 runs
  pub prepares_10 : (n : ℕ) (fact : Fact) (b : Probing) (out : Out) (h : Held) (ns : List Note) → HasNoFaults h.stores → is_member (views_after b.best) me ≡ true → (b.count == 2 ^ 64 - 1) ≡ false
      → (let saved : Fact = at_ballot fact (next_ballot b.count me) in
      Lands strings P (driven me n (tasks.Phase phase_rules.EnoughPromised ∷ []) (stands saved (Preparing b.best (alone me) (members b.best.views) 0)) (and_sends out (posted_to (others_of me (members b.best.views)) (Some (messages.Prepare (next_ballot b.count me))))) next) (held_under keep.seal (Some saved) h) ns)
      → Lands strings P (driven me (suc n) (tasks.Phase phase_rules.Prepare ∷ []) (probes fact b) out next) h ns
  prepares_10 n fact b out h ns none member few lands =
      phase_task n phase_rules.Prepare (probes fact b) out h ns none (rw (member, few) tt) (rw (member, few) lands)

  -- rule 9
  pub waits_9 : (n : ℕ) (fact : Fact) (b : Probing) (out : Out) (h : Held) (ns : List Note) → HasNoFaults h.stores → is_quorum (holds b.heard) b.best.views ≡ false
      → Lands strings P (next [] (probes fact b) out) h ns → Lands strings P (driven me (suc n) (tasks.Phase phase_rules.EnoughHeard ∷ []) (probes fact b) out next) h ns
  waits_9 n fact b out h ns none not_yet lands = phase_task n phase_rules.EnoughHeard (probes fact b) out h ns none (rw not_yet tt) (rw (not_yet, same_sends out) (at_rest n (probes fact b) out h ns lands))

  pub goes_9 : (n : ℕ) (fact : Fact) (b : Probing) (out : Out) (h : Held) (ns : List Note) → HasNoFaults h.stores → is_quorum (holds b.heard) b.best.views ≡ true
      → Lands strings P (driven me n (tasks.Phase phase_rules.Prepare ∷ []) (probes fact b) out next) h ns → Lands strings P (driven me (suc n) (tasks.Phase phase_rules.EnoughHeard ∷ []) (probes fact b) out next) h ns
  goes_9 n fact b out h ns none quorum lands = phase_task n phase_rules.EnoughHeard (probes fact b) out h ns none (rw quorum tt) (rw (quorum, same_sends out) lands)

  abbrev probes_first : State → State
  probes_first x = record x { phase = phases.Probing (first_probing x.fact me); sync = None }

  -- rule 7: the other members are asked for their facts; rule 9 runs
  pub begins_7 : (n : ℕ) (x : State) (out : Out) (h : Held) (ns : List Note) → HasNoFaults h.stores
      → Lands strings P (driven me n (tasks.Phase phase_rules.EnoughHeard ∷ []) (probes_first x) (and_sends out (posted_to (others_of me (members x.fact.views)) (Some messages.Probe))) next) h ns
      → Lands strings P (driven me (suc n) (tasks.Phase phase_rules.BeginProbing ∷ []) x out next) h ns
  begins_7 n x out h ns none lands = phase_task n phase_rules.BeginProbing x out h ns none tt lands
