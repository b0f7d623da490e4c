-- The views of peers and messages stay among those that may vote: the row of a listed peer, for a
-- listed message if it is one for a message, leaves the peer listed, sends a listed message, and begins
-- a sync only on a listed fact.
use Rattle.std.specs.Prelude.{All, max}
use Rattle.std.proofs.Common.{◌≡◌, ◌<◌, ◌≤◌, ℕ, zero, suc, ◌+◌, ◌-◌, ◌^◌, Bool, true, false, not, ◌&&◌, ◌||◌, ◌==◌, if◌then◌else◌, List, [], ◌∷◌, inl, inr, Option, None, lit<, arith, refl, ◌∙◌, sym, subst}
use Rattle.std.proofs.lemmas.Bool.{and_parts, false≢true}
use Rattle.std.proofs.lemmas.Bool.Decides.{nat_tests}
use Rattle.std.proofs.lemmas.List.{get_or-set_other}
use Rattle.std.proofs.lemmas.List.Elements.{All-nil, All-cons, All-append}
use Rattle.call_table.specs.Calls.{has_calls}
use Rattle.ens_base.specs.Lists.{◌∈◌, is_in}
use Rattle.ens_base.specs.PeerSet.{holds}
use Rattle.ens_base.specs.Views.{first_view}
use Rattle.ens_base.specs.declared.epoch.Epoch.{Epoch}
use Rattle.quorums.specs.Quorums.{is_quorum, is_member}
use Rattle.phase_rules.specs.Ballots.{row_11, row_15}
use Rattle.phase_rules.specs.Preparing.{first_fact, starts}
use Rattle.phase_rules.specs.declared.election.Election.{Election}
use Rattle.phase_rules.specs.declared.election.Election.TheVariants.{Preparing, Starting}
use Rattle.phase_rules.specs.Announcements.{commits, row_18, row_19}
use Rattle.phase_rules.specs.Follower.{row_2}
use Rattle.phase_rules.specs.Refusals.{unless_refused}
use Rattle.phase_rules.specs.Requests.{row_20}
use Rattle.phase_rules.specs.declared.follower.Follower.{Follower}
use Rattle.leader_output.specs.Sends.{is_other}
use Rattle.leader_output.specs.declared.out.Outgoing.{Outgoing}
use Rattle.leader.specs.Ticks.{finishing_message, tick_message, ticks_up_to}
use Rattle.leader.specs.declared.leader.Leader.{Leader}
use Rattle.peer_state.specs.Leading.{end_of, older, row_5_calls, ticks, wished}
use Rattle.peer_state.specs.Moves.{electing, following, leading, left, probing, stood, stopped_leading, untrusted, waiting_for, waiting_phase, with_leader, without_candidacy}
use Rattle.peer_state.specs.Rows.{aged, announced, asked_change, begun_change, calm, change_heard, changes as has_changes, ended, has_begun, leader_heard, leads, phase_row, prepared, received, runs_sync, wanting, while_8, while_9, while_10, while_12, while_13, while_14, while_15, while_17, while_25, while_26}
use Rattle.peer_spec.specs.Starts.{first_state, opening_saved}
use Rattle.peer_state.specs.declared.state.ChangeState.{ChangeState}
use Rattle.peer_state.specs.declared.state.ChangeState.TheVariants.{Settled, Wanted, Finishing as Finishes}
use Rattle.peer_state.specs.declared.state.Leadership.{Leadership}
use Rattle.peer_state.specs.declared.state.Phase.{Phase}
use Rattle.peer_state.specs.declared.state.Phase.TheVariants as phases
use Rattle.peer_state.specs.declared.state.Mode.{Mode}
use Rattle.peer_state.specs.declared.state.State.{State}
use Rattle.stored_formats.specs.Facts.{changed_views, views_after, without_old}
use Rattle.stored_formats.specs.declared.fact.Change.{Change}
use Rattle.stored_formats.specs.declared.fact.Change.TheVariants as changes
use Rattle.stored_formats.specs.declared.fact.Fact.{Fact}
use Rattle.stored_formats.specs.declared.saved.SavedFact.{SavedFact}
use Rattle.phase_rows.specs.Orders.{is_below, is_joint, is_same, is_newer, may_accept}
use Rattle.phase_rows.specs.Peers.{joined, others_outside}
use Rattle.phase_rows.specs.Rows.{at_ballot, leaves_leading, sends, silent}
use Rattle.phase_rules.specs.declared.probing.Probing.{Probing}
use Rattle.tree_sync.specs.Running.{Running}
use Rattle.phase_rules.specs.Changes.{may_change, row_24, second_fact}
use Rattle.phase_rules.specs.Finishing.{may_end}
use Rattle.wire_frames.specs.declared.message.Message.{Message}
use Rattle.wire_frames.specs.declared.message.Message.TheVariants as messages
use Rattle.wire_frames.specs.declared.message.NackCause.{NackCause}
use Rattle.wire_frames.specs.declared.message.NackCause.TheVariants as causes
use Rattle.phase_rows.specs.declared.phase.PhaseOut.{PhaseOut}
use Rattle.phase_rows.specs.declared.phase.Then.{Then}
use Rattle.phase_rows.specs.declared.phase.Then.TheVariants as thens
use Rattle.phase_rows.specs.declared.rules.PhaseRule.{PhaseRule}
use Rattle.phase_rows.specs.declared.rules.PhaseRule.TheVariants as phase_rules
use Rattle.phase_rows.proofs.Epochs.{same_epochs}
use Rattle.election_refinement.proofs.Calls.{tick_stays}
use Rattle.election_refinement.proofs.Elections.{starts_either}
use Rattle.election_refinement.proofs.Rows.{settled}
use Rattle.election_refinement.proofs.Sets.{nobody_then}
use Rattle.election_refinement.proofs.Tests.{by_test}
use Rattle.election_refinement.specs.Listed.{AreVoting, IsListedChange, IsListedFact, IsListedWish, IsListedLeadership, IsListedStart, IsListedPhase, IsListedSync, IsListedPeer, IsListedMessage, SaysListed, IsListedThen}

-- after the row of peer p, and before what follows it begins, the peer is listed
pub record GoesListed (voting : List (List ℕ)) (p : ℕ) (r : State × PhaseOut) : Type 0 where
  pub peer : IsListedPeer voting p (settled p r.1 r.0)
  pub says : SaysListed voting r.1.message
  pub next : IsListedThen voting r.1.then

-- ## Views and changes

module _ (voting : List (List ℕ)) where
  -- a single view that may vote
  one_voting : (only : List ℕ) → only ∈ voting → AreVoting voting (only ∷ [])
  one_voting only votes view (inl is) = subst (λ (v : List ℕ). v ∈ voting) (sym is) votes
  one_voting only votes view (inr none) = absurd none

  -- two views that may vote
  two_voting : (new old : List ℕ) → new ∈ voting → old ∈ voting → AreVoting voting (new ∷ old ∷ [])
  two_voting new old votes voted view (inl is) = subst (λ (v : List ℕ). v ∈ voting) (sym is) votes
  two_voting new old votes voted view (inr at) = one_voting old voted view at

  -- the views without the old one of two
  dropped_voting : (views : List (List ℕ)) → AreVoting voting views → AreVoting voting (without_old views)
  dropped_voting [] vote view at = vote view at
  dropped_voting (only ∷ []) vote view at = vote view at
  dropped_voting (new ∷ old ∷ []) vote view at = one_voting new (vote new (inl refl)) view at
  dropped_voting (new ∷ old ∷ other ∷ rest) vote view at = vote view at

  -- the first view stays when the old one of two is dropped
  dropped_first : (views : List (List ℕ)) → first_view views ∈ voting → first_view (without_old views) ∈ voting
  dropped_first [] votes = votes
  dropped_first (only ∷ []) votes = votes
  dropped_first (new ∷ old ∷ []) votes = votes
  dropped_first (new ∷ old ∷ other ∷ rest) votes = votes

  -- the views after a change may vote
  changed_voting : (change : Change) (views : List (List ℕ)) → AreVoting voting views → first_view views ∈ voting → IsListedChange voting change → AreVoting voting (changed_views change views)
  changed_voting changes.None views vote first listed = vote
  changed_voting (changes.Add new) views vote first listed = two_voting new (first_view views) listed first
  changed_voting changes.Drop views vote first listed = dropped_voting views vote

  -- the first view after a change may vote
  changed_first : (change : Change) (views : List (List ℕ)) → first_view views ∈ voting → IsListedChange voting change → first_view (changed_views change views) ∈ voting
  changed_first changes.None views first listed = first
  changed_first (changes.Add new) views first listed = listed
  changed_first changes.Drop views first listed = dropped_first views first

  -- the change that a leader wants stays while it counts acceptances
  heard_wish : (change : ChangeState) (fact : Fact) (from : ℕ) (ballot : Epoch) (seq : ℕ) → IsListedWish voting change → IsListedWish voting (change_heard change fact from ballot seq)
  heard_wish Settled fact from ballot seq listed = tt
  heard_wish (Wanted change) fact from ballot seq listed = listed
  heard_wish (Finishes f) fact from ballot seq listed = tt

  -- the change stays while an ending epoch becomes older
  older_wish : (change : ChangeState) → IsListedWish voting change → IsListedWish voting (older change)
  older_wish Settled listed = tt
  older_wish (Wanted change) listed = listed
  older_wish (Finishes f) listed = tt

  -- a change that a leader begins to want by itself adds no view
  wished_wish : (fact : Fact) (change : ChangeState) → IsListedWish voting change → IsListedWish voting (wished fact change)
  wished_wish fact Settled listed = by_test (IsListedWish voting) (is_joint fact.views) (Wanted changes.Drop) Settled (λ joint. tt) (λ single. tt)
  wished_wish fact (Wanted change) listed = listed
  wished_wish fact (Finishes f) listed = tt

-- ## Facts

module _ {voting : List (List ℕ)} where
  -- a listed fact at another ballot
  raised : (f : Fact) (ballot : Epoch) → IsListedFact voting f → ballot.count < 2 ^ 64 → IsListedFact voting (at_ballot f ballot)
  raised f ballot listed low = record { views = listed.views; first = listed.first; change = listed.change; count = low; epoch = listed.epoch }

  -- the views of the epoch after a listed fact may vote
  pub listed_next : {f : Fact} → IsListedFact voting f → AreVoting voting (views_after f)
  listed_next {f} listed = changed_voting voting f.change f.views listed.views listed.first listed.change

  -- the first fact of an epoch that is based on a listed one
  first_listed : (fact base : Fact) (me : ℕ) → IsListedFact voting base → IsListedFact voting fact → IsListedFact voting (first_fact fact me (views_after base))
  first_listed fact base me listed own = record { views = listed_next listed; first = changed_first voting base.change base.views listed.first listed.change; change = tt; count = own.count; epoch = own.count }

  -- the second fact of an epoch, with a listed change
  second_listed : (fact : Fact) (change : Change) → IsListedFact voting fact → IsListedChange voting change → IsListedFact voting (second_fact fact change)
  second_listed fact change listed told = record { views = listed.views; first = listed.first; change = told; count = listed.count; epoch = listed.epoch }

-- the greater of two counts
greater : (a b : ℕ) → a < 2 ^ 64 → b < 2 ^ 64 → max a b < 2 ^ 64
greater a b low small = omega (arith, low, small)

-- a count that is not the last one has a next one
one_more : (other : Bool) (count : ℕ) → (other || count == 2 ^ 64 - 1) ≡ false → count < 2 ^ 64 → count + 1 < 2 ^ 64
one_more other count not_last low = less_one
  where
    last_is : (b c : Bool) → (b || c) ≡ false → c ≡ false
    last_is false c e = e
    last_is true c e = absurd (false≢true (sym e))

    not_equal : (n last : ℕ) → (n == last) ≡ false → n ≤ last → n < last
    not_equal n last other le = grind (arith, nat_tests)

    less_one : count + 1 < 2 ^ 64
    less_one = let less = not_equal count (2 ^ 64 - 1) (last_is other (count == 2 ^ 64 - 1) not_last) (omega (arith, low)) in omega (arith, less)

-- a peer that accepted before another one joined
accepted_before : (p from : ℕ) (accepts : List Bool) → (from ≡ p → ⊥) → holds (joined from accepts) p ≡ true → holds accepts p ≡ true
accepted_before p from accepts other has = sym (get_or-set_other accepts from p true false (λ same. other (sym same))) ∙ has

-- ## Phases

module _ (voting : List (List ℕ)) (p : ℕ) (trusted : Bool) where
  -- a leader steps down
  stopped_phase : (phase : Phase) → IsListedPhase voting p trusted phase → IsListedPhase voting p trusted (stopped_leading phase)
  stopped_phase (phases.Following f) old = tt
  stopped_phase (phases.Probing b) old = old
  stopped_phase (phases.Electing e) old = old
  stopped_phase (phases.Leading leadership) old = tt

  -- a peer that waits for a sync, and steps down if it led, follows
  awaiting_phase : (phase : Phase) → IsListedPhase voting p trusted (stopped_leading (waiting_phase phase))
  awaiting_phase (phases.Following f) = tt
  awaiting_phase (phases.Probing b) = tt
  awaiting_phase (phases.Electing e) = tt
  awaiting_phase (phases.Leading leadership) = tt

  -- no peer leads or starts an epoch once its tree is untrusted
  untrusted_phase : (phase : Phase) → IsListedPhase voting p trusted phase → IsListedPhase voting p false (without_candidacy (stopped_leading phase))
  untrusted_phase (phases.Following f) old = tt
  untrusted_phase (phases.Probing b) old = old
  untrusted_phase (phases.Electing (Preparing base promises asked age)) old = old
  untrusted_phase (phases.Electing (Starting new accepts age)) old = tt
  untrusted_phase (phases.Leading leadership) old = tt

  -- any phase is listed once the tree is trusted
  trusting_phase : (phase : Phase) → IsListedPhase voting p trusted phase → IsListedPhase voting p true phase
  trusting_phase (phases.Following f) old = tt
  trusting_phase (phases.Probing b) old = old
  trusting_phase (phases.Electing (Preparing base promises asked age)) old = old
  trusting_phase (phases.Electing (Starting new accepts age)) old = record { fact = old.fact; sees = λ has. refl }
  trusting_phase (phases.Leading leadership) old = record { fact = old.fact; wish = old.wish; sees = refl }

-- ## The rows of a listed peer

module _ {voting : List (List ℕ)} {p : ℕ} {x : State} (h : IsListedPeer voting p x) where
  abbrev G : State × PhaseOut → Type 0
  G = GoesListed voting p

  goes : {r : State × PhaseOut} → IsListedFact voting (settled p r.1 r.0).fact → IsListedPhase voting p (settled p r.1 r.0).trusted (settled p r.1 r.0).phase → IsListedSync voting (settled p r.1 r.0).sync
      → SaysListed voting r.1.message → IsListedThen voting r.1.then → GoesListed voting p r
  goes {r} fact phase sync says next = record { peer = record { fact = fact; phase = phase; sync = sync }; says = says; next = next }

  quiet : G (calm x)
  quiet = goes {r = calm x} h.fact h.phase h.sync tt tt

  -- ## Probing

  rule_8 : (phase : Phase) (from : ℕ) (reply : Fact) → IsListedPhase voting p x.trusted phase → IsListedFact voting reply → G (while_8 phase p from reply x)
  rule_8 (phases.Probing b) from reply old told =
      by_test (λ (r : Probing × PhaseOut). G (probing r.0 x, r.1)) (is_newer reply b.best) _ _
      (λ newer. goes h.fact (record { best = told; count = greater b.count reply.ballot.count old.count told.count }) h.sync tt tt)
      (λ older. goes h.fact (record { best = old.best; count = greater b.count reply.ballot.count old.count told.count }) h.sync tt tt)
  rule_8 other from reply old told = quiet

  rule_9 : (phase : Phase) → IsListedPhase voting p x.trusted phase → G (while_9 phase x)
  rule_9 (phases.Probing b) old =
      by_test (λ (turn : Then). G (probing b x, silent turn)) (is_quorum (holds b.heard) b.best.views) _ _
      (λ enough. goes h.fact old h.sync tt tt)
      (λ few. goes h.fact old h.sync tt tt)
  rule_9 other old = quiet

  -- ## Preparing

  prepares : (best : Fact) (count : ℕ) → IsListedFact voting best → count < 2 ^ 64 → G (prepared p best count x)
  prepares best count listed low =
      by_test (λ (r : PhaseOut × Option Election). G (stood r.1 x, r.0)) (not (is_member (views_after best) p) || count == 2 ^ 64 - 1) _ _
      (λ stranger. goes h.fact tt tt tt tt)
      (λ member. let more = one_more (not (is_member (views_after best) p)) count member low in goes (raised x.fact (record { count = count + 1; proposer = p }) h.fact more) listed tt more tt)

  rule_10 : (phase : Phase) → IsListedPhase voting p x.trusted phase → G (while_10 phase p x)
  rule_10 (phases.Probing b) old = prepares b.best b.count old.best old.count
  rule_10 (phases.Leading leadership) old = prepares x.fact x.fact.ballot.count h.fact h.fact.count
  rule_10 other old = quiet

  abbrev Elects : Election × PhaseOut → Type 0
  Elects r = G (electing r.0 x, r.1)

  rule_12 : (phase : Phase) (from : ℕ) (ballot : Epoch) (promised : Fact) → IsListedPhase voting p x.trusted phase → IsListedFact voting promised → G (while_12 phase p from ballot promised x)
  rule_12 (phases.Electing (Preparing base promises asked age)) from ballot promised old told =
      by_test Elects (is_same ballot x.fact.ballot) _ _
      (λ own. by_test Elects (is_newer promised base) _ _ (λ newer. goes h.fact told h.sync (subst (λ (e : Epoch). e.count < 2 ^ 64) (sym (same_epochs ballot x.fact.ballot own)) h.fact.count) tt) (λ older. goes h.fact old h.sync tt tt))
      (λ other. goes h.fact old h.sync tt tt)
  rule_12 (phases.Electing (Starting new accepts age)) from ballot promised old told = goes h.fact old h.sync tt tt
  rule_12 other from ballot promised old told = quiet

  -- a new epoch begins, and the peer accepts it at once if it trusts its tree, or syncs on it
  begins_epoch : (new : Fact) → IsListedFact voting new → Elects (starts x.trusted p new)
  begins_epoch new listed =
      starts_either Elects x.trusted p new
      (λ may. goes listed (record { fact = listed; sees = λ has. (and_parts x.trusted (not (is_joint new.views && is_in (first_view new.views) p)) may).0 }) h.sync listed tt)
      (goes h.fact (record { fact = listed; sees = nobody_then (λ q. x.trusted ≡ true) p }) tt listed listed)

  rule_13 : (phase : Phase) → IsListedPhase voting p x.trusted phase → G (while_13 phase p x)
  rule_13 (phases.Electing (Preparing base promises asked age)) old =
      by_test Elects (is_quorum (holds promises) base.views) _ _
      (λ quorum. by_test Elects (is_member (views_after base) p) _ _
      (λ member. begins_epoch (first_fact x.fact p (views_after base)) (first_listed x.fact base p old h.fact))
      (λ stranger. goes h.fact tt tt tt tt))
      (λ few. goes h.fact old h.sync tt tt)
  rule_13 (phases.Electing (Starting new accepts age)) old = goes h.fact old h.sync tt tt
  rule_13 other old = quiet

  -- ## Starting

  rule_14 : (phase : Phase) → IsListedPhase voting p x.trusted phase → G (while_14 phase p x)
  rule_14 (phases.Electing (Starting new accepts age)) old =
      by_test (λ (turn : Then). G (electing (Starting new accepts age) x, silent turn)) (holds accepts p && is_quorum (holds accepts) new.views) _ _
      (λ enough. goes h.fact (record { fact = old.fact; wish = tt; sees = old.sees (and_parts (holds accepts p) (is_quorum (holds accepts) new.views) enough).0 }) tt tt tt)
      (λ few. goes h.fact old h.sync tt tt)
  rule_14 (phases.Electing (Preparing base promises asked age)) old = goes h.fact old h.sync tt tt
  rule_14 other old = quiet

  heeded : (ballot : Epoch) (cause : NackCause) → G (x, row_15 x.fact ballot cause)
  heeded ballot (causes.Greater other) =
      by_test (λ (row : PhaseOut). G (x, row)) (is_same ballot x.fact.ballot && is_below ballot other) _ _
      (λ own. goes h.fact tt tt tt tt)
      (λ old. quiet)
  heeded ballot causes.Untrusted = quiet
  heeded ballot (causes.Damaged position) = quiet

  rule_15 : (phase : Phase) (ballot : Epoch) (cause : NackCause) → G (while_15 phase ballot cause x)
  rule_15 (phases.Electing e) ballot cause = heeded ballot cause
  rule_15 (phases.Leading leadership) ballot cause = heeded ballot cause
  rule_15 other ballot cause = quiet

  -- a leader that counts an acceptance
  heard : (leadership : Leadership) (from : ℕ) (ballot : Epoch) (seq : ℕ) → IsListedLeadership voting x.trusted leadership → IsListedLeadership voting x.trusted (leader_heard leadership x.fact from ballot seq)
  heard leadership from ballot seq old = record {
    fact = by_test (λ (leader : Leader). IsListedFact voting leader.fact) (is_same ballot x.fact.ballot && seq == 1) _ _ (λ own. old.fact) (λ other. old.fact);
    wish = heard_wish voting leadership.change x.fact from ballot seq old.wish;
    sees = old.sees;
  }

  rule_17 : (phase : Phase) (from : ℕ) (ballot : Epoch) (seq : ℕ) → (from ≡ p → ⊥) → IsListedPhase voting p x.trusted phase → G (while_17 phase from ballot seq x)
  rule_17 (phases.Electing (Starting new accepts age)) from ballot seq not_own old =
      by_test Elects (is_same ballot x.fact.ballot && seq == 1) _ _
      (λ own. goes h.fact (record { fact = old.fact; sees = λ has. old.sees (accepted_before p from accepts not_own has) }) h.sync tt tt)
      (λ other. goes h.fact old h.sync tt tt)
  rule_17 (phases.Electing (Preparing base promises asked age)) from ballot seq not_own old = goes h.fact old h.sync tt tt
  rule_17 (phases.Leading leadership) from ballot seq not_own old = goes h.fact (heard leadership from ballot seq old) h.sync tt tt
  rule_17 other from ballot seq not_own old = quiet

  -- ## Announcements

  abbrev Announces : PhaseOut → Type 0
  Announces row = G (waiting_for row.then x, row)

  -- a peer that may not accept the epoch at once waits for a sync
  rule_16 : (from : ℕ) (new : Fact) → IsListedFact voting new → G (announced p from new x)
  rule_16 from new told =
      by_test Announces (is_below new.epoch x.fact.ballot) _ _
      (λ below. goes h.fact h.phase h.sync tt tt)
      (λ not_below. by_test Announces (is_same new.epoch x.fact.epoch) _ _
      (λ same. goes h.fact tt tt tt tt)
      (λ other. by_test (λ (row : PhaseOut). Announces (leaves_leading row)) (may_accept x.trusted p new) _ _
      (λ accepts_now. goes told tt tt tt tt)
      (λ not_now. by_test (λ (row : PhaseOut). Announces (leaves_leading row)) (is_below x.fact.ballot new.epoch) _ _
      (λ below. goes (raised x.fact new.epoch h.fact told.epoch) (awaiting_phase voting p x.trusted x.phase) tt tt told)
      (λ at_own. by_test (λ (turn : Then). Announces (leaves_leading (silent turn))) (runs_sync x.sync) thens.Resume (thens.SyncOn new)
      (λ runs. goes h.fact (awaiting_phase voting p x.trusted x.phase) h.sync tt tt)
      (λ none. goes h.fact (awaiting_phase voting p x.trusted x.phase) tt tt told)))))

  abbrev Answers : PhaseOut → Type 0
  Answers row = G (x, row)

  rule_11 : (from : ℕ) (ballot : Epoch) → ballot.count < 2 ^ 64 → Answers (row_11 x.fact from ballot)
  rule_11 from ballot low =
      by_test Answers (is_below x.fact.ballot ballot) _ _
      (λ below. goes (raised x.fact ballot h.fact low) tt tt (raised x.fact ballot h.fact low) tt)
      (λ not_below. by_test Answers (is_same ballot x.fact.ballot) _ _
      (λ same. quiet)
      (λ other. goes h.fact h.phase h.sync tt tt))

  rule_18 : (from : ℕ) (second : Fact) → IsListedFact voting second → Answers (row_18 x.fact x.trusted from second)
  rule_18 from second told = let P : Option PhaseOut → Type 0 = λ refused. Answers (unless_refused refused (commits x.fact from second)) in
      by_test P (is_below second.epoch x.fact.ballot) _ _
      (λ below. goes h.fact h.phase h.sync tt tt)
      (λ not_below. by_test P (not (is_same x.fact.epoch second.epoch)) _ _
      (λ other. quiet)
      (λ same. by_test P (not x.trusted) _ _
      (λ distrusts. goes h.fact h.phase h.sync tt tt)
      (λ trusts. by_test Answers (x.fact.seq == 1) _ _
      (λ first. goes told tt tt tt tt)
      (λ later. goes h.fact tt tt tt tt))))

  rule_19 : (from : ℕ) (ballot : Epoch) → Answers (row_19 x.fact x.trusted from ballot)
  rule_19 from ballot =
      by_test Answers (is_below ballot x.fact.ballot) _ _
      (λ below. goes h.fact h.phase h.sync tt tt)
      (λ above. by_test (λ (turn : Then). Answers (silent turn)) (is_same x.fact.epoch ballot && x.trusted) _ _
      (λ accepted. goes h.fact tt tt tt tt)
      (λ other. quiet))

  rule_20 : (from : ℕ) (ballot : Epoch) (round : ℕ) → Answers (row_20 x.fact from ballot round)
  rule_20 from ballot round =
      by_test Answers (is_below ballot x.fact.ballot) _ _
      (λ below. goes h.fact h.phase h.sync tt tt)
      (λ above. by_test Answers (is_same ballot x.fact.ballot) _ _
      (λ same. goes h.fact h.phase h.sync tt tt)
      (λ other. quiet))

  -- ## Changes of the views

  abbrev Asks : Phase → List ℕ → PhaseOut × Bool → Type 0
  Asks phase view r = G (if r.1 then wanting (changes.Add view) phase x else x, r.0)

  rule_24 : (phase : Phase) (view : List ℕ) → view ∈ voting → IsListedPhase voting p x.trusted phase → Asks phase view (row_24 x.fact (leads phase) (has_changes phase) view)
  rule_24 (phases.Leading leadership) view votes old =
      by_test (Asks (phases.Leading leadership) view) (may_change x.fact true (has_begun leadership.change) view) _ _
      (λ may. goes h.fact (record { fact = old.fact; wish = votes; sees = old.sees }) h.sync tt tt)
      (λ may_not. quiet)
  rule_24 (phases.Following f) view votes old = quiet
  rule_24 (phases.Probing b) view votes old = quiet
  rule_24 (phases.Electing e) view votes old = quiet

  begins : (leadership : Leadership) → IsListedLeadership voting x.trusted leadership → (change : ChangeState) → IsListedWish voting change → G (leading (begun_change change leadership x.fact p).0 x, (begun_change change leadership x.fact p).1)
  begins leadership old Settled wish = goes h.fact old h.sync tt tt
  begins leadership old (Wanted change) wish =
      goes (second_listed x.fact change h.fact wish) (record { fact = old.fact; wish = tt; sees = old.sees }) h.sync (second_listed x.fact change h.fact wish) tt
  begins leadership old (Finishes f) wish = goes h.fact old h.sync tt tt

  rule_25 : (phase : Phase) → IsListedPhase voting p x.trusted phase → G (while_25 phase p x)
  rule_25 (phases.Leading leadership) old = begins leadership old leadership.change old.wish
  rule_25 other old = quiet

  ends : (change : ChangeState) (unanswered : Bool) → Answers (ended change x.fact p unanswered)
  ends Settled unanswered = quiet
  ends (Wanted change) unanswered = quiet
  ends (Finishes f) unanswered = let P : Then → Type 0 = λ turn. Answers (silent turn) in
      by_test P (may_end f x.fact unanswered) _ _
      (λ may. by_test P (is_member (views_after x.fact) p) _ _ (λ member. goes h.fact h.phase h.sync tt tt) (λ stranger. goes h.fact tt tt tt tt))
      (λ may_not. quiet)

  rule_26 : (phase : Phase) → G (while_26 phase p x)
  rule_26 (phases.Leading leadership) = ends leadership.change (has_calls leadership.leader.table.calls)
  rule_26 other = quiet

  -- ## Ticks

  -- a tick that changes only the phase, and may run rule 7
  anew : (phase : Phase) (test : Bool) → IsListedPhase voting p x.trusted phase → G (record x { phase = phase }, silent (if test then thens.Rule phase_rules.BeginProbing else thens.Stay))
  anew phase test listed =
      by_test (λ (turn : Then). G (record x { phase = phase }, silent turn)) test _ _
      (λ is. goes h.fact listed h.sync tt tt)
      (λ not. goes h.fact listed h.sync tt tt)

  rule_2 : (f : Follower) → G (following (row_2 f x.fact p).0 x, (row_2 f x.fact p).1)
  rule_2 f =
      by_test (λ (r : Follower × PhaseOut). G (following r.0 x, r.1)) (is_member x.fact.views p) _ _
      (λ member. anew (phases.Following (record f { quiet = f.quiet + 1 })) (f.quiet + 1 == 6) tt)
      (λ stranger. goes h.fact tt h.sync tt tt)

  rules_2_to_4 : (phase : Phase) → IsListedPhase voting p x.trusted phase → G (aged phase p x)
  rules_2_to_4 (phases.Following f) old = rule_2 f
  rules_2_to_4 (phases.Probing b) old = anew (phases.Probing (record b { age = b.age + 1 })) (b.age + 1 == 6) (record { best = old.best; count = old.count })
  rules_2_to_4 (phases.Electing (Preparing base promises asked age)) old = anew (phases.Electing (Preparing base promises asked (age + 1))) (age + 1 == 6) old
  rules_2_to_4 (phases.Electing (Starting new accepts age)) old =
      by_test (λ (row : PhaseOut). G (electing (Starting new accepts (age + 1)) x, row)) (age + 1 == 8) _ _
      (λ spent. goes h.fact tt tt tt tt)
      (λ young. by_test (λ (turn : Then). G (electing (Starting new accepts (age + 1)) x, sends (others_outside p accepts new.views) (messages.NewEpoch new) turn)) (runs_sync x.sync) _ _
      (λ runs. goes h.fact old h.sync old.fact tt)
      (λ none. goes h.fact old h.sync old.fact tt))
  rules_2_to_4 (phases.Leading leadership) old = quiet

  -- ## All rows

  -- the row of a rule that a row names
  pub listed_phase_row : (rule : PhaseRule) → GoesListed voting p (phase_row rule p x)
  listed_phase_row phase_rules.BeginProbing = goes h.fact (record { best = h.fact; count = h.fact.count }) tt tt tt
  listed_phase_row phase_rules.EnoughHeard = rule_9 x.phase h.phase
  listed_phase_row phase_rules.Prepare = rule_10 x.phase h.phase
  listed_phase_row phase_rules.EnoughPromised = rule_13 x.phase h.phase
  listed_phase_row phase_rules.EnoughAccepted = rule_14 x.phase h.phase
  listed_phase_row phase_rules.BeginChange = rule_25 x.phase h.phase
  listed_phase_row phase_rules.EndEpoch = rule_26 x.phase

  -- the row for a listed message of another peer
  pub listed_received : (from : ℕ) (message : Message) → (from ≡ p → ⊥) → IsListedMessage voting message → GoesListed voting p (received p from message x)
  listed_received from messages.Probe other told = goes h.fact h.phase h.sync h.fact tt
  listed_received from (messages.ProbeReply fact) other told = rule_8 x.phase from fact h.phase told
  listed_received from (messages.Prepare ballot) other told = rule_11 from ballot told
  listed_received from (messages.Promise ballot fact) other told = rule_12 x.phase from ballot fact h.phase told
  listed_received from (messages.Nack ballot cause) other told = rule_15 x.phase ballot cause
  listed_received from (messages.NewEpoch fact) other told = rule_16 from fact told
  listed_received from (messages.Accepted ballot seq) other told = rule_17 x.phase from ballot seq other h.phase
  listed_received from (messages.Commit fact) other told = rule_18 from fact told
  listed_received from (messages.Beat ballot) other told = rule_19 from ballot
  listed_received from (messages.Check ballot round) other told = rule_20 from ballot round
  listed_received from message other told = quiet

  -- the row of a tick, which changes nothing in a leader
  pub listed_aged : GoesListed voting p (aged x.phase p x)
  listed_aged = rules_2_to_4 x.phase h.phase

  -- the row for a request to change to a view that may vote
  pub listed_asked_change : (asked : List ℕ) → asked ∈ voting → GoesListed voting p ((asked_change asked x).0, (asked_change asked x).1.0)
  listed_asked_change asked votes = rule_24 x.phase asked votes h.phase

-- ## Moves outside of the rows

module _ {voting : List (List ℕ)} {p : ℕ} {x : State} where
  -- the peer no longer trusts its tree
  pub listed_untrusted : IsListedPeer voting p x → IsListedPeer voting p (untrusted x)
  listed_untrusted h = record { fact = h.fact; phase = untrusted_phase voting p x.trusted x.phase h.phase; sync = tt }

  -- a leader steps down if the rule asks for it
  pub listed_left : (leave : Bool) → IsListedPeer voting p x → IsListedPeer voting p (left leave x)
  listed_left true h = record { fact = h.fact; phase = stopped_phase voting p x.trusted x.phase h.phase; sync = h.sync }
  listed_left false h = h

  -- a sync on a listed fact ends
  pub listed_synced : (new : Fact) → IsListedFact voting new → IsListedPeer voting p x → IsListedPeer voting p (record x { fact = new; trusted = true; sync = None })
  listed_synced new listed h = record { fact = listed; phase = trusting_phase voting p x.trusted x.phase h.phase; sync = tt }

  -- a starting peer that trusts its tree counts itself
  pub listed_counts_itself : (new : Fact) (accepts : List Bool) (age : ℕ) → x.trusted ≡ true → x.phase ≡ phases.Electing (Starting new accepts age) → IsListedPeer voting p x
      → IsListedPeer voting p (electing (Starting new (joined p accepts) age) x)
  listed_counts_itself new accepts age trusts starting h = record { fact = h.fact; phase = record { fact = started.fact; sees = λ has. trusts }; sync = h.sync }
    where
      started : IsListedStart voting p x.trusted new accepts
      started = subst (λ (phase : Phase). IsListedPhase voting p x.trusted phase) starting h.phase

  -- the peer runs this sync, or none
  pub listed_sync : (sync : Option Running) → IsListedSync voting sync → IsListedPeer voting p x → IsListedPeer voting p (record x { sync = sync })
  listed_sync sync listed h = record { fact = h.fact; phase = h.phase; sync = listed }

  -- a listed peer that leads, whatever it did before
  pub listed_leading : IsListedPeer voting p x → (l : Leadership) → IsListedLeadership voting x.trusted l → IsListedPeer voting p (leading l x)
  listed_leading h l listed = record { fact = h.fact; phase = listed; sync = h.sync }

-- ## A leader's calls and ticks

-- a message that is sent is listed
abbrev pub SendListed : List (List ℕ) → Outgoing → Type 0
SendListed voting o = IsListedMessage voting o.message

module _ {voting : List (List ℕ)} where
  -- what a leader tells a peer that accepted its epoch
  told_after : (change : ChangeState) (fact : Fact) (leader : Leader) → IsListedFact voting fact → (q : ℕ) → IsListedMessage voting (finishing_message (end_of change) fact leader q)
  told_after Settled fact leader own q = tt
  told_after (Wanted change) fact leader own q = tt
  told_after (Finishes f) fact leader own q = by_test (IsListedMessage voting) (holds f.accepts2 q) _ _ (λ has. tt) (λ lacks. own)

  -- what a leader sends at a tick
  ticks_listed : (change : ChangeState) (fact : Fact) (leader : Leader) → IsListedFact voting fact → IsListedFact voting leader.fact → (n : ℕ) → All (SendListed voting) (ticks_up_to (end_of change) fact leader n)
  unfolding ticks_up_to
  ticks_listed change fact leader own first zero = All-nil (SendListed voting)
  ticks_listed change fact leader own first (suc n) =
      All-append (SendListed voting) (ticks_up_to (end_of change) fact leader n) (if is_other leader.me leader.fact.views (n + 1) then sent ∷ [] else []) (ticks_listed change fact leader own first n)
      (by_test (All (SendListed voting)) (is_other leader.me leader.fact.views (n + 1)) (sent ∷ []) []
      (λ is. All-cons (SendListed voting) sent [] word (All-nil (SendListed voting)))
      (λ not. All-nil (SendListed voting)))
    where
      sent : Outgoing
      sent = record { to = n + 1; message = tick_message (end_of change) fact leader (n + 1) }

      word : IsListedMessage voting (tick_message (end_of change) fact leader (n + 1))
      word = by_test (IsListedMessage voting) (holds leader.accepts (n + 1)) _ _ (λ has. told_after change fact leader own (n + 1)) (λ lacks. first)

module _ {voting : List (List ℕ)} {trusted : Bool} {l : Leadership} (h : IsListedLeadership voting trusted l) where
  -- the leader after a rule on its calls
  pub listed_leader : (leader : Leader) → leader.fact ≡ l.leader.fact → IsListedLeadership voting trusted (with_leader leader l)
  listed_leader leader same = record { fact = subst (IsListedFact voting) (sym same) h.fact; wish = h.wish; sees = h.sees }

  -- the leader after the calls of a tick
  pub listed_calls : (fact : Fact) → IsListedLeadership voting trusted (row_5_calls fact l).0
  listed_calls fact = record { fact = subst (IsListedFact voting) (sym (tick_stays (end_of (older l.change)) l.leader).fact) h.fact; wish = older_wish voting l.change h.wish; sees = h.sees }

  -- the leader after a tick
  pub listed_reminded : IsListedLeadership voting trusted (record l { change = wished l.leader.fact l.change })
  listed_reminded = record { fact = h.fact; wish = wished_wish voting l.leader.fact l.change h.wish; sees = h.sees }

  -- the messages of a tick
  pub listed_ticks : (fact : Fact) → IsListedFact voting fact → All (λ (o : Outgoing). IsListedMessage voting o.message) (ticks fact l)
  listed_ticks fact own = ticks_listed l.change fact l.leader own h.fact 31

-- ## Starts

-- a peer that starts from a listed fact, with any seal
pub listed_started : (voting : List (List ℕ)) (p : ℕ) (mode : Mode) (saved : SavedFact) (trusted : Bool) → IsListedFact voting saved.fact → IsListedPeer voting p (first_state mode saved trusted)
listed_started voting p mode saved trusted listed = record { fact = listed; phase = tt; sync = tt }

-- a peer that starts over nothing kept, in a view that may vote
pub listed_opening : (voting : List (List ℕ)) (p : ℕ) (mode : Mode) (view : List ℕ) (seal : Option (List ℕ)) → view ∈ voting → IsListedPeer voting p (first_state mode (opening_saved view seal) true)
listed_opening voting p mode view seal votes = listed_started voting p mode (opening_saved view seal) true (record { views = one_voting voting view votes; first = votes; change = tt; count = lit< tt; epoch = lit< tt })
