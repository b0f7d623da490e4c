-- What a row of a phase does to the peer's part in leading: the part stays, or it ends, or the peer
-- begins an epoch that was not elected yet. A leader stays the leader in the state of each row, except
-- of rule 10 at the end of its epoch, and of rule 7; where else it steps down, the row asks for that.
use Rattle.std.proofs.Common.{◌≡◌, ℕ, ◌+◌, ◌-◌, ◌^◌, Bool, true, false, not, ◌&&◌, ◌||◌, ◌==◌, if◌then◌else◌, List, ◌⊎◌, inl, inr, Option, refl, sym, subst}
use Rattle.quorums.specs.Quorums.{is_quorum, is_member}
use Rattle.protocol_laws.specs.Ledger.{Ledger}
use Rattle.protocol_laws.specs.Numbers.{epoch_number}
use Rattle.call_table.specs.Calls.{has_calls}
use Rattle.phase_rules.specs.Ballots.{row_11, row_15}
use Rattle.phase_rules.specs.Preparing.{first_fact}
use Rattle.phase_rules.specs.declared.election.Election.{Election}
use Rattle.phase_rules.specs.declared.election.Election.TheVariants.{Preparing, Starting}
use Rattle.ens_base.specs.PeerSet.{holds}
use Rattle.ens_base.specs.declared.epoch.Epoch.{Epoch}
use Rattle.phase_rules.specs.Follower.{row_2}
use Rattle.phase_rules.specs.Announcements.{row_18, row_19, commits}
use Rattle.phase_rules.specs.Refusals.{unless_refused}
use Rattle.phase_rules.specs.Requests.{row_20}
use Rattle.phase_rules.specs.declared.follower.Follower.{Follower}
use Rattle.leader.specs.declared.leader.Leader.{Leader}
use Rattle.peer_state.specs.Moves.{electing, following, leading, probing, stood, waiting_for, waiting_phase}
use Rattle.peer_state.specs.Rows.{aged, announced, asked_change, calm, begun_change, ended, phase_row, prepared, received, runs_sync, wanting, leads as does_lead, changes as has_changes, has_begun, while_8, while_9, while_10, while_12, while_13, while_14, while_15, while_17, while_25, while_26}
use Rattle.peer_state.specs.declared.state.ChangeState.{ChangeState}
use Rattle.peer_state.specs.declared.state.ChangeState.TheVariants.{Settled, Wanted, Finishing as Finishes}
use Rattle.peer_state.specs.declared.state.Leadership.{Leadership}
use Rattle.peer_state.specs.declared.state.Phase.{Phase}
use Rattle.peer_state.specs.declared.state.Phase.TheVariants as phases
use Rattle.peer_state.specs.declared.state.State.{State}
use Rattle.stored_formats.specs.Facts.{views_after}
use Rattle.stored_formats.specs.declared.fact.Change.TheVariants as changes
use Rattle.stored_formats.specs.declared.fact.Fact.{Fact}
use Rattle.phase_rows.specs.Orders.{is_below, is_same, is_newer, may_accept}
use Rattle.phase_rows.specs.Peers.{nobody}
use Rattle.phase_rows.specs.Rows.{silent, leaves_leading}
use Rattle.phase_rules.specs.declared.probing.Probing.{Probing}
use Rattle.phase_rules.specs.Changes.{may_change, row_24}
use Rattle.phase_rules.specs.Finishing.{may_end}
use Rattle.wire_frames.specs.declared.message.Message.{Message}
use Rattle.wire_frames.specs.declared.message.Message.TheVariants as messages
use Rattle.wire_frames.specs.declared.message.NackCause.{NackCause}
use Rattle.wire_frames.specs.declared.message.NackCause.TheVariants as causes
use Rattle.phase_rows.specs.declared.phase.PhaseOut.{PhaseOut}
use Rattle.phase_rows.specs.declared.phase.Then.{Then}
use Rattle.phase_rows.specs.declared.phase.Then.TheVariants as thens
use Rattle.phase_rows.specs.declared.rules.PhaseRule.{PhaseRule}
use Rattle.phase_rows.specs.declared.rules.PhaseRule.TheVariants as phase_rules
use Rattle.election_refinement.proofs.Elections.{starts_either}
use Rattle.election_refinement.proofs.Tests.{by_test}
use Rattle.election_refinement.specs.Refinement.{PhaseHolds, PeerHolds}

-- what a peer does in leading: nothing, or it began an epoch and waits for acceptances, or it leads
pub data Part : Type 0 where
  Out : Part
  Begun : (epoch : ℕ) → Part
  Led : (leader : Leader) → Part

-- the leader, but for the acceptances that it counted
abbrev pub uncounted : Leader → Leader
uncounted leader = record leader { accepts = nobody }

abbrev pub part_in : Election → Part
part_in (Preparing base promises asked age) = Out
part_in (Starting new accepts age) = Begun (epoch_number new.epoch)

-- the part of a peer in this phase
abbrev pub part : Phase → Part
part (phases.Following follower) = Out
part (phases.Probing probing) = Out
part (phases.Electing election) = part_in election
part (phases.Leading leadership) = Led (uncounted leadership.leader)

-- the peer begins an epoch that is not elected in this ledger
pub record Begins (l : Ledger) (before after : Part) : Type 0 where
  pub out : before ≡ Out
  pub epoch : ℕ
  pub begun : after ≡ Begun epoch
  pub fresh : l.elected epoch ≡ false

-- the part stays, or it ends, or the peer begins an epoch
abbrev pub Turns : Ledger → Part → Part → Type 0
Turns l before after = (after ≡ before) ⊎ ((after ≡ Out) ⊎ Begins l before after)

-- the row from state x turns the peer's part, and lets the peer lead only the epoch that it began
pub record PartGoes (l : Ledger) (x : State) (r : State × PhaseOut) : Type 0 where
  pub turn : Turns l (part x.phase) (part r.0.phase)
  pub leads : (fact : Fact) → r.1.then ≡ thens.Lead fact → part r.0.phase ≡ Begun (epoch_number fact.epoch)

-- the peer does not become the leader
abbrev LeadsNot : Then → Type 0
LeadsNot (thens.Lead fact) = ⊥
LeadsNot other = Unit {0}

-- a test of which neither branch makes the peer the leader
neither : (test : Bool) (a b : Then) → LeadsNot a → LeadsNot b → LeadsNot (if test then a else b)
neither test a b first second = by_test LeadsNot test a b (λ is. first) (λ not. second)

module _ {l : Ledger} {x : State} where
  turns : {r : State × PhaseOut} → Turns l (part x.phase) (part r.0.phase) → LeadsNot r.1.then → PartGoes l x r
  turns {r} turn leads_not = record { turn = turn; leads = λ fact is. absurd (subst LeadsNot is leads_not) }

  -- the part stays
  stays : {r : State × PhaseOut} → part r.0.phase ≡ part x.phase → LeadsNot r.1.then → PartGoes l x r
  stays {r} same leads_not = turns {r = r} (inl same) leads_not

  -- the part ends
  ends : {r : State × PhaseOut} → part r.0.phase ≡ Out → LeadsNot r.1.then → PartGoes l x r
  ends {r} out leads_not = turns {r = r} (inr (inl out)) leads_not

module _ (l : Ledger) (p : ℕ) (x : State) where
  -- the phase stays
  answers : (row : PhaseOut) → LeadsNot row.then → PartGoes l x (x, row)
  answers row leads_not = stays {r = (x, row)} refl leads_not

  quiet : PartGoes l x (calm x)
  quiet = answers (silent thens.Stay) tt

  -- ## Probing

  rule_8 : (phase : Phase) (from : ℕ) (reply : Fact) → PartGoes l x (while_8 phase p from reply x)
  rule_8 (phases.Probing b) from reply = by_test (λ (r : Probing × PhaseOut). PartGoes l x (probing r.0 x, r.1)) (is_newer reply b.best) _ _ (λ newer. ends refl tt) (λ older. ends refl tt)
  rule_8 other from reply = quiet

  rule_9 : (phase : Phase) → PartGoes l x (while_9 phase x)
  rule_9 (phases.Probing b) = by_test (λ (turn : Then). PartGoes l x (probing b x, silent turn)) (is_quorum (holds b.heard) b.best.views) _ _ (λ enough. ends refl tt) (λ few. ends refl tt)
  rule_9 other = quiet

  -- ## Preparing

  prepares : (best : Fact) (count : ℕ) → PartGoes l x (prepared p best count x)
  prepares best count =
      by_test (λ (r : PhaseOut × Option Election). PartGoes l x (stood r.1 x, r.0)) (not (is_member (views_after best) p) || count == 2 ^ 64 - 1) _ _
      (λ stranger. answers (silent thens.Follow) tt)
      (λ member. ends refl tt)

  rule_10 : (phase : Phase) → PartGoes l x (while_10 phase p x)
  rule_10 (phases.Probing b) = prepares b.best b.count
  rule_10 (phases.Leading leadership) = prepares x.fact x.fact.ballot.count
  rule_10 other = quiet

  abbrev Elects : Election × PhaseOut → Type 0
  Elects r = PartGoes l x (electing r.0 x, r.1)

  rule_12 : (phase : Phase) (from : ℕ) (ballot : Epoch) (promised : Fact) → part phase ≡ part x.phase → PartGoes l x (while_12 phase p from ballot promised x)
  rule_12 (phases.Electing (Preparing base promises asked age)) from ballot promised same =
      by_test Elects (is_same ballot x.fact.ballot) _ _
      (λ own. by_test Elects (is_newer promised base) _ _ (λ newer. ends refl tt) (λ older. ends refl tt))
      (λ other. ends refl tt)
  rule_12 (phases.Electing (Starting new accepts age)) from ballot promised same = stays same tt
  rule_12 other from ballot promised same = quiet

  -- the epoch of the peer's ballot begins
  begins : (election : Election) (row : PhaseOut) → part x.phase ≡ Out → part_in election ≡ Begun (epoch_number x.fact.ballot) → l.elected (epoch_number x.fact.ballot) ≡ false → LeadsNot row.then → Elects (election, row)
  begins election row out begun fresh leads_not = turns (inr (inr (record { out = out; epoch = epoch_number x.fact.ballot; begun = begun; fresh = fresh }))) leads_not

  rule_13 : (phase : Phase) → part phase ≡ part x.phase → PhaseHolds l p x.fact phase → PartGoes l x (while_13 phase p x)
  rule_13 (phases.Electing (Preparing base promises asked age)) same old =
      by_test Elects (is_quorum (holds promises) base.views) _ _
      (λ quorum. by_test Elects (is_member (views_after base) p) _ _
      (λ member. starts_either Elects x.trusted p (first_fact x.fact p (views_after base)) (λ may. begins _ _ (sym same) refl old.fresh tt) (begins _ _ (sym same) refl old.fresh tt))
      (λ stranger. ends refl tt))
      (λ few. ends refl tt)
  rule_13 (phases.Electing (Starting new accepts age)) same old = stays same tt
  rule_13 other same old = quiet

  -- ## Starting

  rule_14 : (phase : Phase) → part phase ≡ part x.phase → PartGoes l x (while_14 phase p x)
  rule_14 (phases.Electing (Starting new accepts age)) same =
      by_test (λ (turn : Then). PartGoes l x (electing (Starting new accepts age) x, silent turn)) (holds accepts p && is_quorum (holds accepts) new.views) _ _
      (λ enough. record { turn = inl same; leads = λ fact is. subst begun_by is refl })
      (λ few. stays same tt)
    where
      begun_by : Then → Type 0
      begun_by (thens.Lead fact) = Begun (epoch_number new.epoch) ≡ Begun (epoch_number fact.epoch)
      begun_by other = Unit {0}
  rule_14 (phases.Electing (Preparing base promises asked age)) same = ends refl tt
  rule_14 other same = quiet

  heeded : (ballot : Epoch) (cause : NackCause) → PartGoes l x (x, row_15 x.fact ballot cause)
  heeded ballot (causes.Greater other) = by_test (λ (row : PhaseOut). PartGoes l x (x, row)) (is_same ballot x.fact.ballot && is_below ballot other) _ _ (λ own. answers _ tt) (λ old. answers _ tt)
  heeded ballot causes.Untrusted = quiet
  heeded ballot (causes.Damaged position) = quiet

  rule_15 : (phase : Phase) (ballot : Epoch) (cause : NackCause) → PartGoes l x (while_15 phase ballot cause x)
  rule_15 (phases.Electing e) ballot cause = heeded ballot cause
  rule_15 (phases.Leading leadership) ballot cause = heeded ballot cause
  rule_15 other ballot cause = quiet

  rule_17 : (phase : Phase) (from : ℕ) (ballot : Epoch) (seq : ℕ) → part phase ≡ part x.phase → PartGoes l x (while_17 phase from ballot seq x)
  rule_17 (phases.Electing (Starting new accepts age)) from ballot seq same = by_test Elects (is_same ballot x.fact.ballot && seq == 1) _ _ (λ own. stays same tt) (λ other. stays same tt)
  rule_17 (phases.Electing (Preparing base promises asked age)) from ballot seq same = ends refl tt
  rule_17 (phases.Leading leadership) from ballot seq same =
      stays (by_test (λ (leader : Leader). Led (uncounted leader) ≡ part x.phase) (is_same ballot x.fact.ballot && seq == 1) _ _ (λ own. same) (λ other. same)) tt
  rule_17 other from ballot seq same = quiet

  -- ## Announcements

  -- a peer that waits for a sync follows, unless it leads
  waits : (phase : Phase) → Turns l (part phase) (part (waiting_phase phase))
  waits (phases.Following follower) = inl refl
  waits (phases.Probing b) = inl refl
  waits (phases.Electing election) = inr (inl refl)
  waits (phases.Leading leadership) = inl refl

  abbrev Announces : PhaseOut → Type 0
  Announces row = PartGoes l x (waiting_for row.then x, row)

  rule_16 : (from : ℕ) (new : Fact) → PartGoes l x (announced p from new x)
  rule_16 from new =
      by_test Announces (is_below new.epoch x.fact.ballot) _ _
      (λ below. answers _ tt)
      (λ not_below. by_test Announces (is_same new.epoch x.fact.epoch) _ _
      (λ same. answers _ tt)
      (λ other. by_test (λ (row : PhaseOut). Announces (leaves_leading row)) (may_accept x.trusted p new) _ _
      (λ accepts_now. answers _ tt)
      (λ not_now. by_test (λ (row : PhaseOut). Announces (leaves_leading row)) (is_below x.fact.ballot new.epoch) _ _
      (λ below. turns (waits x.phase) tt)
      (λ at_own. by_test (λ (turn : Then). Announces (leaves_leading (silent turn))) (runs_sync x.sync) _ _
      (λ runs. turns (waits x.phase) tt)
      (λ none. turns (waits x.phase) tt)))))

  abbrev Answers : PhaseOut → Type 0
  Answers row = PartGoes l x (x, row)

  rule_11 : (from : ℕ) (ballot : Epoch) → Answers (row_11 x.fact from ballot)
  rule_11 from ballot =
      by_test Answers (is_below x.fact.ballot ballot) _ _
      (λ below. answers _ tt)
      (λ not_below. by_test Answers (is_same ballot x.fact.ballot) _ _ (λ same. answers _ tt) (λ other. answers _ tt))

  rule_18 : (from : ℕ) (new : Fact) → Answers (row_18 x.fact x.trusted from new)
  rule_18 from new = let P : Option PhaseOut → Type 0 = λ refused. Answers (unless_refused refused (commits x.fact from new)) in
      by_test P (is_below new.epoch x.fact.ballot) _ _
      (λ below. answers _ tt)
      (λ not_below. by_test P (not (is_same x.fact.epoch new.epoch)) _ _
      (λ other. answers _ tt)
      (λ same. by_test P (not x.trusted) _ _
      (λ untrusted. answers _ tt)
      (λ trusts. by_test Answers (x.fact.seq == 1) _ _ (λ first. answers _ tt) (λ later. answers _ tt))))

  rule_19 : (from : ℕ) (ballot : Epoch) → Answers (row_19 x.fact x.trusted from ballot)
  rule_19 from ballot =
      by_test Answers (is_below ballot x.fact.ballot) _ _
      (λ below. answers _ tt)
      (λ above. by_test (λ (turn : Then). Answers (silent turn)) (is_same x.fact.epoch ballot && x.trusted) _ _ (λ accepted. answers _ tt) (λ other. answers _ tt))

  rule_20 : (from : ℕ) (ballot : Epoch) (round : ℕ) → Answers (row_20 x.fact from ballot round)
  rule_20 from ballot round =
      by_test Answers (is_below ballot x.fact.ballot) _ _
      (λ below. answers _ tt)
      (λ above. by_test Answers (is_same ballot x.fact.ballot) _ _ (λ same. answers _ tt) (λ other. answers _ tt))

  -- ## Changes of the views

  abbrev Asks : Phase → List ℕ → PhaseOut × Bool → Type 0
  Asks phase view r = PartGoes l x (if r.1 then wanting (changes.Add view) phase x else x, r.0)

  rule_24 : (phase : Phase) (view : List ℕ) → part phase ≡ part x.phase → Asks phase view (row_24 x.fact (does_lead phase) (has_changes phase) view)
  rule_24 (phases.Leading leadership) view same = by_test (Asks (phases.Leading leadership) view) (may_change x.fact true (has_begun leadership.change) view) _ _ (λ may. stays same tt) (λ may_not. quiet)
  rule_24 (phases.Following f) view same = quiet
  rule_24 (phases.Probing b) view same = quiet
  rule_24 (phases.Electing e) view same = quiet

  -- the leader stays when its change begins
  begins_change : (change : ChangeState) (leadership : Leadership) → Led (uncounted leadership.leader) ≡ part x.phase → PartGoes l x (leading (begun_change change leadership x.fact p).0 x, (begun_change change leadership x.fact p).1)
  begins_change Settled leadership same = stays same tt
  begins_change (Wanted change) leadership same = stays same tt
  begins_change (Finishes f) leadership same = stays same tt

  rule_25 : (phase : Phase) → part phase ≡ part x.phase → PartGoes l x (while_25 phase p x)
  rule_25 (phases.Leading leadership) same = begins_change leadership.change leadership same
  rule_25 other same = quiet

  ends_epoch : (change : ChangeState) (unanswered : Bool) → Answers (ended change x.fact p unanswered)
  ends_epoch Settled unanswered = quiet
  ends_epoch (Wanted change) unanswered = quiet
  ends_epoch (Finishes f) unanswered = answers (silent next) (by_test LeadsNot (may_end f x.fact unanswered) _ _ (λ may. by_test LeadsNot (is_member (views_after x.fact) p) _ _ (λ member. tt) (λ stranger. tt)) (λ may_not. tt))
    where
      next : Then
      next = if may_end f x.fact unanswered then (if is_member (views_after x.fact) p then thens.Rule phase_rules.Prepare else thens.Follow) else thens.Stay

  rule_26 : (phase : Phase) → PartGoes l x (while_26 phase p x)
  rule_26 (phases.Leading leadership) = ends_epoch leadership.change (has_calls leadership.leader.table.calls)
  rule_26 other = quiet

  -- ## Ticks

  rule_2 : (f : Follower) → PartGoes l x (following (row_2 f x.fact p).0 x, (row_2 f x.fact p).1)
  rule_2 f =
      by_test (λ (r : Follower × PhaseOut). PartGoes l x (following r.0 x, r.1)) (is_member x.fact.views p) _ _
      (λ member. ends refl (neither (f.quiet + 1 == 6) (thens.Rule phase_rules.BeginProbing) thens.Stay tt tt))
      (λ stranger. ends refl tt)

  rules_2_to_4 : (phase : Phase) → part phase ≡ part x.phase → PartGoes l x (aged phase p x)
  rules_2_to_4 (phases.Following f) same = rule_2 f
  rules_2_to_4 (phases.Probing b) same = ends refl (neither (b.age + 1 == 6) (thens.Rule phase_rules.BeginProbing) thens.Stay tt tt)
  rules_2_to_4 (phases.Electing (Preparing base promises asked age)) same = ends refl (neither (age + 1 == 6) (thens.Rule phase_rules.BeginProbing) thens.Stay tt tt)
  rules_2_to_4 (phases.Electing (Starting new accepts age)) same =
      by_test (λ (row : PhaseOut). PartGoes l x (electing (Starting new accepts (age + 1)) x, row)) (age + 1 == 8) _ _
      (λ spent. stays same tt)
      (λ young. stays same (neither (runs_sync x.sync) thens.Resume thens.Stay tt tt))
  rules_2_to_4 (phases.Leading leadership) same = quiet

  -- ## The rows of a peer that agrees with the ledger

  module _ {stored : Option Fact} (peer : PeerHolds l p x stored) where
    -- the row of a rule that a row names
    pub phase_row_turns : (rule : PhaseRule) → PartGoes l x (phase_row rule p x)
    phase_row_turns phase_rules.BeginProbing = ends refl tt
    phase_row_turns phase_rules.EnoughHeard = rule_9 x.phase
    phase_row_turns phase_rules.Prepare = rule_10 x.phase
    phase_row_turns phase_rules.EnoughPromised = rule_13 x.phase refl peer.phase
    phase_row_turns phase_rules.EnoughAccepted = rule_14 x.phase refl
    phase_row_turns phase_rules.BeginChange = rule_25 x.phase refl
    phase_row_turns phase_rules.EndEpoch = rule_26 x.phase

    -- the row for a message
    pub received_turns : (from : ℕ) (message : Message) → PartGoes l x (received p from message x)
    received_turns from messages.Probe = answers _ tt
    received_turns from (messages.ProbeReply fact) = rule_8 x.phase from fact
    received_turns from (messages.Prepare ballot) = rule_11 from ballot
    received_turns from (messages.Promise ballot fact) = rule_12 x.phase from ballot fact refl
    received_turns from (messages.Nack ballot cause) = rule_15 x.phase ballot cause
    received_turns from (messages.NewEpoch fact) = rule_16 from fact
    received_turns from (messages.Accepted ballot seq) = rule_17 x.phase from ballot seq refl
    received_turns from (messages.Commit fact) = rule_18 from fact
    received_turns from (messages.Beat ballot) = rule_19 from ballot
    received_turns from (messages.Check ballot round) = rule_20 from ballot round
    received_turns from other = quiet

    -- the row of a tick, in a peer that does not lead
    pub aged_turns : PartGoes l x (aged x.phase p x)
    aged_turns = rules_2_to_4 x.phase refl

    -- the row of a request to change the view
    pub asked_change_turns : (asked : List ℕ) → PartGoes l x ((asked_change asked x).0, (asked_change asked x).1.0)
    asked_change_turns asked = rule_24 x.phase asked refl
