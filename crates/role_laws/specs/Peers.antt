-- Peers with their facts, trees, trust, phases and syncs, and what these say of the abstract protocol.
use Rattle.std.specs.Prelude.{◌≡◌, ℕ, ◌<◌, ◌≤◌, Bool, true, false, Option, None, Some}
use Rattle.protocol_laws.specs.Preparing.{proposer_of}
use Rattle.protocol_laws.specs.Ledger.{Ledger, is_established}
use Rattle.protocol_laws.specs.Objects.{Objects, IsHonest}
use Rattle.role_laws.specs.Facts.{Fact, count_of, Lines, IsTrue, IsFirst, IsSaved, HasPromised}
use Rattle.role_laws.specs.Trees.{Tree, TreeHolds}
use Rattle.role_laws.specs.Syncs.{Sync, SyncHolds}

-- the phases
pub data Phase : Type 0 where
  Following : Phase
  Probing : (best : Fact) (count : ℕ) → Phase
  Preparing : (base : Fact) (promises : ℕ → Bool) → Phase
  Starting : (new : Fact) (accepts : ℕ → Bool) → Phase
  Leading : (new : Fact) (accepts : ℕ → Bool) (finishing : Option (ℕ → Bool)) → Phase

-- a peer is down, or it runs
pub data Mode : Type 0 where
  Down : Mode
  Up : (trusted : Bool) (phase : Phase) (sync : Option Sync) → Mode

pub record Peer : Type 0 where
  pub fact : Fact
  pub tree : Tree
  pub mode : Mode

abbrev pub peer_of : Fact → Tree → Bool → Phase → Option Sync → Peer
peer_of f t trusted phase sync = record { fact = f; tree = t; mode = Up trusted phase sync }

abbrev pub trusts : Mode → Bool
trusts Down = false
trusts (Up trusted phase sync) = trusted

-- a sync runs only in these phases
abbrev pub MaySync : Phase → Type 0
MaySync Following = Unit {0}
MaySync (Starting new accepts) = Unit {0}
MaySync phase = ⊥

abbrev pub SyncsHold : Lines → Objects → ℕ → Fact → Tree → Bool → Phase → Option Sync → Type 0
SyncsHold g o p fact t trusted phase None = Unit {0}
SyncsHold g o p fact t trusted phase (Some y) = SyncHolds g o p fact t trusted y × MaySync phase

pub record IsProbing (l : Ledger) (fact best : Fact) (count : ℕ) : Type 0 where
  pub known : IsTrue l best
  pub newer : fact.epoch ≤ best.epoch
  pub counts_best : count_of best.ballot ≤ count
  pub counts_own : count_of fact.ballot ≤ count

pub record IsPreparing (l : Ledger) (p : ℕ) (fact base : Fact) (promises : ℕ → Bool) : Type 0 where
  pub own : proposer_of fact.ballot ≡ p
  pub fresh : l.elected fact.ballot ≡ false
  pub known : IsTrue l base
  pub above : base.epoch < fact.ballot
  pub promised : (q : ℕ) → promises q ≡ true → HasPromised l q fact.ballot base.epoch

-- the peer started the epoch of its ballot, and these peers accepted it
pub record IsStarted (l : Ledger) (p : ℕ) (fact new : Fact) (accepts : ℕ → Bool) : Type 0 where
  pub own : proposer_of new.epoch ≡ p
  pub first : IsFirst l new
  pub stands : new.epoch ≡ fact.ballot
  pub accepted : (q : ℕ) → accepts q ≡ true → l.accepted new.epoch q ≡ true

pub record IsStarting (l : Ledger) (p : ℕ) (fact : Fact) (trusted : Bool) (new : Fact) (accepts : ℕ → Bool) : Type 0 where
  pub started : IsStarted l p fact new accepts
  pub unchanged : l.changed new.epoch ≡ false
  pub sees : fact.epoch ≡ new.epoch → trusted ≡ true

-- the leader has not changed the views, or its saved fact changed them
abbrev pub HasChanged : Ledger → Fact → Option (ℕ → Bool) → Type 0
HasChanged l fact None = (fact.seq ≡ 1) × (l.changed fact.epoch ≡ false)
HasChanged l fact (Some adopts) = (fact.seq ≡ 2) × ((q : ℕ) → adopts q ≡ true → l.adopted fact.epoch q ≡ true)

pub record IsLeading (l : Ledger) (p : ℕ) (fact : Fact) (trusted : Bool) (new : Fact) (accepts : ℕ → Bool) (finishing : Option (ℕ → Bool)) : Type 0 where
  pub started : IsStarted l p fact new accepts
  pub established : is_established l new.epoch ≡ true
  pub has : fact.epoch ≡ new.epoch
  pub sees : trusted ≡ true
  pub change : HasChanged l fact finishing

abbrev pub PhaseHolds : Ledger → ℕ → Fact → Bool → Phase → Type 0
PhaseHolds l p fact trusted Following = Unit {0}
PhaseHolds l p fact trusted (Probing best count) = IsProbing l fact best count
PhaseHolds l p fact trusted (Preparing base promises) = IsPreparing l p fact base promises
PhaseHolds l p fact trusted (Starting new accepts) = IsStarting l p fact trusted new accepts
PhaseHolds l p fact trusted (Leading new accepts finishing) = IsLeading l p fact trusted new accepts finishing

abbrev pub ModeHolds : Lines → Objects → ℕ → Fact → Tree → Mode → Type 0
ModeHolds g o p fact t Down = Unit {0}
ModeHolds g o p fact t (Up trusted phase sync) = PhaseHolds o.ledger p fact trusted phase × SyncsHold g o p fact t trusted phase sync

-- what a peer says, up or down
pub record PeerHolds (g : Lines) (o : Objects) (p : ℕ) (x : Peer) : Type 0 where
  pub saved : IsSaved o.ledger p x.fact
  pub trusted : o.trusted p ≡ trusts x.mode
  pub tree : TreeHolds o p x.tree
  pub firm : g.firm p ≡ true → x.tree.intact ≡ true → IsHonest o p
  pub mode : ModeHolds g o p x.fact x.tree x.mode
