-- The laws of the rules of elections.
use Rattle.std.specs.Prelude.{◌≡◌, ℕ, List, Bool, true, Option, Some, None}
use Rattle.ens_base.specs.Epochs.{IsEpochBelow}
use Rattle.ens_base.specs.PeerSet.{holds}
use Rattle.quorums.specs.Quorums.{is_quorum, is_member}
use Rattle.stored_formats.specs.declared.fact.Fact.{Fact}
use Rattle.stored_formats.specs.Facts.{IsNewer, views_after}
use Rattle.phase_rows.specs.Orders.{may_accept}
use Rattle.phase_rows.specs.Rows.{at_ballot}
use Rattle.phase_rules.specs.Preparing.{first_fact}
use Rattle.phase_rules.specs.declared.election.Election.{Election}
use Rattle.phase_rules.specs.declared.election.Election.TheVariants.{Preparing, Starting}

-- what is saved, if anything, is the fact with a greater ballot; its epoch, sequence number,
-- leader, views and change are unchanged
abbrev pub RaisesTheBallot : Fact → Option Fact → Type 0
RaisesTheBallot fact None = Unit {0}
RaisesTheBallot fact (Some saved) = IsEpochBelow fact.ballot saved.ballot × (saved ≡ at_ballot fact saved.ballot)

-- the base is no older than before, and at least as new as the promised fact
abbrev pub KeepsTheNewest : Election → Fact → Election → Type 0
KeepsTheNewest (Preparing base promises asked age) promised (Preparing now kept too old) = ¬ IsNewer base now × ¬ IsNewer promised now
KeepsTheNewest (Preparing base promises asked age) promised (Starting new accepts young) = ⊥
KeepsTheNewest (Starting new accepts age) promised after = Unit {0}

-- the new fact is the first one of the saved ballot, on the views that follow the base; its leader
-- is a member of them, and a quorum of the base's views promised
pub record IsElectedOn (base : Fact) (promises : List Bool) (fact : Fact) (me : ℕ) (new : Fact) : Type 0 where
  pub quorum : is_quorum (holds promises) base.views ≡ true
  pub member : is_member (views_after base) me ≡ true
  pub first : new ≡ first_fact fact me (views_after base)

-- a peer that was preparing starts an epoch only if it is elected
abbrev pub StartsElected : Election → Fact → ℕ → Election → Type 0
StartsElected (Preparing base promises asked age) fact me (Starting new accepts young) = IsElectedOn base promises fact me new
StartsElected (Preparing base promises asked age) fact me (Preparing same kept too old) = Unit {0}
StartsElected (Starting new accepts age) fact me after = Unit {0}

-- what is saved, if anything, begins the ballot's epoch, and the peer may accept it
abbrev pub SavesAcceptable : Bool → ℕ → Fact → Option Fact → Type 0
SavesAcceptable trusted me fact None = Unit {0}
SavesAcceptable trusted me fact (Some saved) = (may_accept trusted me saved ≡ true) × (saved.ballot ≡ fact.ballot) × (saved.epoch ≡ fact.ballot)

-- the peer starts the epoch of this fact, and has accepted it, as has a quorum of its views
abbrev pub IsAccepted : Election → ℕ → Fact → Type 0
IsAccepted (Preparing base promises asked age) me fact = ⊥
IsAccepted (Starting new accepts age) me fact = (fact ≡ new) × (holds accepts me ≡ true) × (is_quorum (holds accepts) new.views ≡ true)
