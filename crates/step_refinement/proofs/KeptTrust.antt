-- A row of a phase leaves the seal and the mode of the peer as they were, and its trust in its tree, unless it finds damage, and
-- it begins no sync: the sync of the peer runs on, or it ends.
use Rattle.std.proofs.Common.{◌≡◌, ◌⊎◌, inl, inr, ℕ, Bool, true, false, if◌then◌else◌, List, Option, None, Some, refl, sym, ap, subst, ◌∙◌}
use Rattle.ens_base.specs.declared.entry.Entry.{Entry}
use Rattle.ens_base.specs.declared.epoch.Epoch.{Epoch}
use Rattle.protocol_laws.specs.Ledger.{Ledger}
use Rattle.protocol_laws.specs.Numbers.{epoch_number}
use Rattle.protocol_laws.specs.Protocol.{State as Protocol}
use Rattle.phase_rules.specs.Preparing.{row_10}
use Rattle.phase_rules.specs.declared.election.Election.{Election}
use Rattle.phase_rules.specs.declared.election.Election.TheVariants.{Preparing, Starting}
use Rattle.election_refinement.proofs.Rows.{made_way, saved_in, settled}
use Rattle.election_refinement.proofs.Tests.{by_test}
use Rattle.election_refinement.specs.Refinement.{SyncHolds}
use Rattle.phase_rules.specs.Announcements.{row_16}
use Rattle.peer_state.specs.Moves.{left, sought, stood, turned, waiting_for}
use Rattle.peer_state.specs.Rows.{aged, asked_change, changes, leads, phase_row, received, runs_sync, wanting, while_8, while_9, while_10, while_12, while_13, while_14, while_15, while_17, while_25, while_26}
use Rattle.peer_state.specs.declared.state.Phase.{Phase}
use Rattle.peer_state.specs.declared.state.Phase.TheVariants as phases
use Rattle.peer_state.specs.declared.state.State.{State}
use Rattle.stored_formats.specs.declared.fact.Change.{Change}
use Rattle.stored_formats.specs.declared.fact.Change.TheVariants as facts
use Rattle.stored_formats.specs.declared.fact.Fact.{Fact}
use Rattle.phase_rules.specs.Probing.{row_7}
use Rattle.phase_rules.specs.declared.probing.Probing.{Probing}
use Rattle.tree_sync.specs.Running.{Running}
use Rattle.role_laws.specs.Facts.{Lines}
use Rattle.tree_node.specs.declared.version.TreeVersion.{TreeVersion}
use Rattle.step_refinement.specs.Peers.{SyncFits}
use Rattle.phase_rules.specs.Changes.{may_change}
use Rattle.wire_frames.specs.declared.message.Message.{Message}
use Rattle.wire_frames.specs.declared.message.Message.TheVariants as messages
use Rattle.wire_frames.specs.declared.message.NackCause.{NackCause}
use Rattle.phase_rows.specs.declared.phase.PhaseOut.{PhaseOut}
use Rattle.phase_rows.specs.declared.phase.Then.{Then}
use Rattle.phase_rows.specs.declared.phase.Then.TheVariants as thens
use Rattle.phase_rows.specs.declared.rules.PhaseRule.{PhaseRule}
use Rattle.phase_rows.specs.declared.rules.PhaseRule.TheVariants as phase_rules

-- from x to y the seal, the mode and the trust stay, and the sync runs on or ends
pub record Spares (x y : State) : Type 0 where
  pub seal : y.seal ≡ x.seal
  pub mode : y.mode ≡ x.mode
  pub trusted : y.trusted ≡ x.trusted
  pub sync : (y.sync ≡ x.sync) ⊎ (y.sync ≡ None)

-- the peer does not trust its tree, and no sync runs
abbrev pub IsBlind : State → Type 0
IsBlind x = (x.trusted ≡ false) × (x.sync ≡ None)

-- nothing changes
pub spares_same : (x : State) → Spares x x
spares_same x = record { seal = refl; mode = refl; trusted = refl; sync = inl refl }

-- two changes that spare the peer spare it together
pub spares_then : (x y z : State) → Spares x y → Spares y z → Spares x z
spares_then x y z a b = record { seal = b.seal ∙ a.seal; mode = b.mode ∙ a.mode; trusted = b.trusted ∙ a.trusted; sync = by_later b.sync a.sync }
  where
    by_first : z.sync ≡ y.sync → (y.sync ≡ x.sync) ⊎ (y.sync ≡ None) → (z.sync ≡ x.sync) ⊎ (z.sync ≡ None)
    by_first same (inl first) = inl (same ∙ first)
    by_first same (inr ended) = inr (same ∙ ended)

    by_later : (z.sync ≡ y.sync) ⊎ (z.sync ≡ None) → (y.sync ≡ x.sync) ⊎ (y.sync ≡ None) → (z.sync ≡ x.sync) ⊎ (z.sync ≡ None)
    by_later (inl same) first = by_first same first
    by_later (inr ended) first = inr ended

-- ## After a row

pub left_spares : (leave : Bool) (x : State) → Spares x (left leave x)
left_spares true x = record { seal = refl; mode = refl; trusted = refl; sync = inl refl }
left_spares false x = spares_same x

saved_spares : (save : Option Fact) (x : State) → Spares x (saved_in save x)
saved_spares None x = spares_same x
saved_spares (Some fact) x = record { seal = refl; mode = refl; trusted = refl; sync = inl refl }

turned_spares : (me : ℕ) (next : Then) (x : State) → IsBlind (made_way next (turned me next x)) ⊎ Spares x (made_way next (turned me next x))
turned_spares me thens.Follow x = inr (record { seal = refl; mode = refl; trusted = refl; sync = inr refl })
turned_spares me (thens.Lead fact) x = inr (record { seal = refl; mode = refl; trusted = refl; sync = inr refl })
turned_spares me thens.Untrust x = inl (refl, refl)
turned_spares me thens.Stay x = inr (spares_same x)
turned_spares me thens.Put x = inr (spares_same x)
turned_spares me thens.Resume x = inr (spares_same x)
turned_spares me (thens.SyncOn fact) x = inr (record { seal = refl; mode = refl; trusted = refl; sync = inr refl })
turned_spares me (thens.Rule n) x = inr (spares_same x)
turned_spares me (thens.OnKeys n) x = inr (spares_same x)

-- the whole row, from the state in it
pub settled_spares : (me : ℕ) (row : PhaseOut) (x y : State) → Spares x y → IsBlind (settled me row y) ⊎ Spares x (settled me row y)
settled_spares me row x y before = by_turn (turned_spares me row.then kept)
  where
    kept : State
    kept = saved_in row.save (left row.leave y)

    by_turn : IsBlind (settled me row y) ⊎ Spares kept (settled me row y) → IsBlind (settled me row y) ⊎ Spares x (settled me row y)
    by_turn (inl blind) = inl blind
    by_turn (inr spares) = inr (spares_then x kept (settled me row y) (spares_then x (left row.leave y) kept (spares_then x y (left row.leave y) before (left_spares row.leave y)) (saved_spares row.save (left row.leave y))) spares)

-- what follows the first part of a row leaves the seal, also where damage was found
pub settled_seal : (me : ℕ) (row : PhaseOut) (y : State) → (settled me row y).seal ≡ (left row.leave y).seal
settled_seal me row y = turned_seal row.then (saved_in row.save (left row.leave y)) ∙ saved_seal row.save (left row.leave y)
  where
    saved_seal : (save : Option Fact) (x : State) → (saved_in save x).seal ≡ x.seal
    saved_seal None x = refl
    saved_seal (Some fact) x = refl

    turned_seal : (next : Then) (x : State) → (made_way next (turned me next x)).seal ≡ x.seal
    turned_seal thens.Follow x = refl
    turned_seal (thens.Lead fact) x = refl
    turned_seal thens.Untrust x = refl
    turned_seal thens.Stay x = refl
    turned_seal thens.Put x = refl
    turned_seal thens.Resume x = refl
    turned_seal (thens.SyncOn fact) x = refl
    turned_seal (thens.Rule n) x = refl
    turned_seal (thens.OnKeys n) x = refl

-- so it does the mode
pub settled_mode : (me : ℕ) (row : PhaseOut) (y : State) → (settled me row y).mode ≡ (left row.leave y).mode
settled_mode me row y = turned_mode row.then (saved_in row.save (left row.leave y)) ∙ saved_mode row.save (left row.leave y)
  where
    saved_mode : (save : Option Fact) (x : State) → (saved_in save x).mode ≡ x.mode
    saved_mode None x = refl
    saved_mode (Some fact) x = refl

    turned_mode : (next : Then) (x : State) → (made_way next (turned me next x)).mode ≡ x.mode
    turned_mode thens.Follow x = refl
    turned_mode (thens.Lead fact) x = refl
    turned_mode thens.Untrust x = refl
    turned_mode thens.Stay x = refl
    turned_mode thens.Put x = refl
    turned_mode thens.Resume x = refl
    turned_mode (thens.SyncOn fact) x = refl
    turned_mode (thens.Rule n) x = refl
    turned_mode (thens.OnKeys n) x = refl

-- ## The sync

-- a running sync says what it said after the peer saved another fact on which it may run
sync_resaved : (version : TreeVersion) (lines : Lines) (s : Protocol) (strings : List (List ℕ)) (l : Ledger) (p : ℕ) (old new : Fact) (trusted : Bool) (m : List Entry) (root : Option (List ℕ)) (waiting : Bool) (sync : Option Running) → SyncHolds l p new waiting sync
    → SyncFits version lines s strings p old trusted m root sync → SyncFits version lines s strings p new trusted m root sync
sync_resaved version lines s strings l p old new trusted m root waiting None holds fits = tt
sync_resaved version lines s strings l p old new trusted m root waiting (Some r) holds fits = let says = fits.0 in (
  record {
    me = says.me;
    trust = says.trust;
    view = says.view;
    scan = says.scan;
    positions = says.positions;
    seen = says.seen;
    distinct = says.distinct;
    others = says.others;
    sources = says.sources;
    received = says.received;
    holds = record {
      first = says.holds.first;
      stands = ap epoch_number holds.may.promised;
      newer = holds.may.newer;
      found = says.holds.found;
      scanned = says.holds.scanned;
      whole = says.holds.whole;
      asks = says.holds.asks;
    };
  },
  fits.1,
)

-- so does the sync of a peer whose trust stays, if it runs on
pub sync_spared : (version : TreeVersion) (lines : Lines) (s : Protocol) (strings : List (List ℕ)) (l : Ledger) (p : ℕ) (m : List Entry) (root : Option (List ℕ)) (waiting : Bool) (x y : State) → Spares x y → SyncHolds l p y.fact waiting y.sync
    → SyncFits version lines s strings p x.fact x.trusted m root x.sync → SyncFits version lines s strings p y.fact y.trusted m root y.sync
sync_spared version lines s strings l p m root waiting x y spares holds says = by_sync spares.sync
  where
    by_sync : (y.sync ≡ x.sync) ⊎ (y.sync ≡ None) → SyncFits version lines s strings p y.fact y.trusted m root y.sync
    by_sync (inl same) =
        sync_resaved version lines s strings l p x.fact y.fact y.trusted m root waiting y.sync holds
        (subst (λ (sync : Option Running). SyncFits version lines s strings p x.fact y.trusted m root sync) (sym same) (subst (λ (trusted : Bool). SyncFits version lines s strings p x.fact trusted m root x.sync) (sym spares.trusted) says))
    by_sync (inr ended) = subst (λ (sync : Option Running). SyncFits version lines s strings p y.fact y.trusted m root sync) (sym ended) tt

-- ## The rows

module _ (p : ℕ) (x : State) where
  -- in the state of the row
  abbrev G : State × PhaseOut → Type 0
  G r = Spares x r.0

  same : Spares x x
  same = spares_same x

  seeks : (o : Option Probing) → Spares x (sought o x)
  seeks None = same
  seeks (Some b) = record { seal = refl; mode = refl; trusted = refl; sync = inr refl }

  stands : (o : Option Election) → Spares x (stood o x)
  stands None = same
  stands (Some e) = record { seal = refl; mode = refl; trusted = refl; sync = inr refl }

  waits : (next : Then) → Spares x (waiting_for next x)
  waits (thens.SyncOn fact) = record { seal = refl; mode = refl; trusted = refl; sync = inl refl }
  waits thens.Resume = record { seal = refl; mode = refl; trusted = refl; sync = inl refl }
  waits thens.Stay = same
  waits thens.Follow = same
  waits (thens.Lead fact) = same
  waits thens.Untrust = same
  waits thens.Put = same
  waits (thens.Rule n) = same
  waits (thens.OnKeys n) = same

  wants : (change : Change) (phase : Phase) → Spares x (wanting change phase x)
  wants change (phases.Leading l) = record { seal = refl; mode = refl; trusted = refl; sync = inl refl }
  wants change other = same

  rule_8 : (phase : Phase) (from : ℕ) (reply : Fact) → G (while_8 phase p from reply x)
  rule_8 (phases.Probing b) from reply = record { seal = refl; mode = refl; trusted = refl; sync = inl refl }
  rule_8 other from reply = same

  rule_9 : (phase : Phase) → G (while_9 phase x)
  rule_9 (phases.Probing b) = record { seal = refl; mode = refl; trusted = refl; sync = inl refl }
  rule_9 other = same

  rule_10 : (phase : Phase) → G (while_10 phase p x)
  rule_10 (phases.Probing b) = stands (row_10 x.fact p b.best b.count).1
  rule_10 (phases.Leading l) = stands (row_10 x.fact p x.fact x.fact.ballot.count).1
  rule_10 other = same

  rule_12 : (phase : Phase) (from : ℕ) (ballot : Epoch) (promised : Fact) → G (while_12 phase p from ballot promised x)
  rule_12 (phases.Electing e) from ballot promised = record { seal = refl; mode = refl; trusted = refl; sync = inl refl }
  rule_12 other from ballot promised = same

  rule_13 : (phase : Phase) → G (while_13 phase p x)
  rule_13 (phases.Electing e) = record { seal = refl; mode = refl; trusted = refl; sync = inl refl }
  rule_13 other = same

  rule_14 : (phase : Phase) → G (while_14 phase p x)
  rule_14 (phases.Electing e) = record { seal = refl; mode = refl; trusted = refl; sync = inl refl }
  rule_14 other = same

  rule_15 : (phase : Phase) (ballot : Epoch) (cause : NackCause) → G (while_15 phase ballot cause x)
  rule_15 (phases.Electing e) ballot cause = same
  rule_15 (phases.Leading l) ballot cause = same
  rule_15 other ballot cause = same

  rule_17 : (phase : Phase) (from : ℕ) (ballot : Epoch) (seq : ℕ) → G (while_17 phase from ballot seq x)
  rule_17 (phases.Electing e) from ballot seq = record { seal = refl; mode = refl; trusted = refl; sync = inl refl }
  rule_17 (phases.Leading l) from ballot seq = record { seal = refl; mode = refl; trusted = refl; sync = inl refl }
  rule_17 other from ballot seq = same

  rule_25 : (phase : Phase) → G (while_25 phase p x)
  rule_25 (phases.Leading l) = record { seal = refl; mode = refl; trusted = refl; sync = inl refl }
  rule_25 other = same

  rule_26 : (phase : Phase) → G (while_26 phase p x)
  rule_26 (phases.Leading l) = same
  rule_26 other = same

  rules_2_to_4 : (phase : Phase) → G (aged phase p x)
  rules_2_to_4 (phases.Following f) = record { seal = refl; mode = refl; trusted = refl; sync = inl refl }
  rules_2_to_4 (phases.Probing b) = record { seal = refl; mode = refl; trusted = refl; sync = inl refl }
  rules_2_to_4 (phases.Electing (Preparing base promises asked age)) = record { seal = refl; mode = refl; trusted = refl; sync = inl refl }
  rules_2_to_4 (phases.Electing (Starting new accepts age)) = record { seal = refl; mode = refl; trusted = refl; sync = inl refl }
  rules_2_to_4 (phases.Leading l) = same

  -- the row of a rule that a row names
  pub phase_row_spares : (rule : PhaseRule) → G (phase_row rule p x)
  phase_row_spares phase_rules.BeginProbing = seeks (row_7 x.fact p).1
  phase_row_spares phase_rules.EnoughHeard = rule_9 x.phase
  phase_row_spares phase_rules.Prepare = rule_10 x.phase
  phase_row_spares phase_rules.EnoughPromised = rule_13 x.phase
  phase_row_spares phase_rules.EnoughAccepted = rule_14 x.phase
  phase_row_spares phase_rules.BeginChange = rule_25 x.phase
  phase_row_spares phase_rules.EndEpoch = rule_26 x.phase

  -- the row for a message
  pub received_spares : (from : ℕ) (message : Message) → G (received p from message x)
  received_spares from messages.Probe = same
  received_spares from (messages.ProbeReply fact) = rule_8 x.phase from fact
  received_spares from (messages.Prepare ballot) = same
  received_spares from (messages.Promise ballot fact) = rule_12 x.phase from ballot fact
  received_spares from (messages.Nack ballot cause) = rule_15 x.phase ballot cause
  received_spares from (messages.NewEpoch fact) = waits (row_16 x.fact p x.trusted (runs_sync x.sync) from fact).then
  received_spares from (messages.Accepted ballot seq) = rule_17 x.phase from ballot seq
  received_spares from (messages.Commit fact) = same
  received_spares from (messages.Beat ballot) = same
  received_spares from (messages.Check ballot round) = same
  received_spares from other = same

  -- the row of a tick, in a peer that does not lead
  pub aged_spares : G (aged x.phase p x)
  aged_spares = rules_2_to_4 x.phase

  -- the row of a request to change the view
  pub asked_change_spares : (asked : List ℕ) → Spares x (asked_change asked x).0
  asked_change_spares asked =
      by_test (λ (r : PhaseOut × Bool). Spares x (if r.1 then wanting (facts.Add asked) x.phase x else x)) (may_change x.fact (leads x.phase) (changes x.phase) asked) _ _
      (λ may. wants (facts.Add asked) x.phase)
      (λ may_not. same)
