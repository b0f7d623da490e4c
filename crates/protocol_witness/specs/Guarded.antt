-- Each of five guards matters: a run, a next step that only the weakened guard allows, and the law
-- that it breaks.
use Rattle.std.specs.Prelude.{List, [], ◌∷◌}
use Rattle.protocol_laws.specs.Protocol.{Step, Elect, Accept, EndSync, happens, IsRun, state_after}
use Rattle.protocol_laws.specs.Elections.{Joined, EstablishedIsKept}
use Rattle.protocol_laws.specs.Versions.{Kept}
use Rattle.protocol_witness.specs.Weakened.{MayAcceptUnsynced, MayEndLate, MayElectUntold, MayElectAlone, MayEndFromNew}

-- peer 2 of the new view accepts the joint epoch 2 without a sync
pub record AcceptanceMatters : Type 0 where
  pub steps : List Step
  pub run : IsRun (1 ∷ []) steps
  pub weakened : MayAcceptUnsynced (state_after (1 ∷ []) steps).objects.ledger 2 2
  pub broken : ¬ Joined (happens (state_after (1 ∷ []) steps) (Accept 2 2)).objects.ledger

-- peer 3 ends a sync at epoch 1 after it promised epoch 2
pub record BallotMatters : Type 0 where
  pub steps : List Step
  pub run : IsRun (1 ∷ 2 ∷ 3 ∷ []) steps
  pub weakened : MayEndLate (state_after (1 ∷ 2 ∷ 3 ∷ []) steps).objects 3 1
  pub broken : ¬ EstablishedIsKept (happens (state_after (1 ∷ 2 ∷ 3 ∷ []) steps) (EndSync 3 1)).objects.ledger

-- epoch 2 follows the opening, although a voter accepted epoch 1
pub record PromisesMatter : Type 0 where
  pub steps : List Step
  pub run : IsRun (1 ∷ 2 ∷ 3 ∷ []) steps
  pub weakened : MayElectUntold (state_after (1 ∷ 2 ∷ 3 ∷ []) steps).objects.ledger 2 (record { epoch = 0; seq = 0 })
  pub broken : ¬ EstablishedIsKept (happens (state_after (1 ∷ 2 ∷ 3 ∷ []) steps) (Elect 2 (record { epoch = 0; seq = 0 }))).objects.ledger

-- epoch 2 is elected by one peer of three
pub record QuorumMatters : Type 0 where
  pub steps : List Step
  pub run : IsRun (1 ∷ 2 ∷ 3 ∷ []) steps
  pub weakened : MayElectAlone (state_after (1 ∷ 2 ∷ 3 ∷ []) steps).objects.ledger 2 (record { epoch = 0; seq = 0 })
  pub broken : ¬ EstablishedIsKept (happens (state_after (1 ∷ 2 ∷ 3 ∷ []) steps) (Elect 2 (record { epoch = 0; seq = 0 }))).objects.ledger

-- peer 2 syncs in the joint epoch 2 from the new view, which is peer 2 alone
pub record OldViewMatters : Type 0 where
  pub steps : List Step
  pub run : IsRun (1 ∷ []) steps
  pub weakened : MayEndFromNew (state_after (1 ∷ []) steps).objects 2 2
  pub broken : ¬ Kept (happens (state_after (1 ∷ []) steps) (EndSync 2 2)).objects
