-- What the crates above name of election_refinement, passed on.
pub use Rattle.election_refinement.specs.Listed.{IsListedFact, IsListedMessage, IsListedPeer}
pub use Rattle.election_refinement.specs.Refinement.{FrameHolds, IsKept, IsOrderly, IsSaved, NodeHolds, PeerHolds, SendHolds}
