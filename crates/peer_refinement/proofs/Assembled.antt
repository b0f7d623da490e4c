-- The laws of running syncs, in one record.
use Rattle.std.specs.Prelude.{ℕ, List}
use Rattle.protocol_laws.specs.Protocol.{Step, IsRun, state_after}
use Rattle.role_laws.specs.Facts.{Lines}
use Rattle.peer_refinement.proofs.Ends.{ends}
use Rattle.peer_refinement.proofs.Gives.{trusted_maps, may_return, gives}
use Rattle.peer_refinement.proofs.Resumes.{resumes}
use Rattle.peer_refinement.proofs.Starts.{starts}
use Rattle.peer_refinement.proofs.Takes.{takes}
use Rattle.peer_refinement.specs.SyncLaws.{SyncLaws}

-- the laws in each state of a run
pub laws : (g : Lines) (view : List ℕ) (steps : List Step) → IsRun view steps → SyncLaws g (state_after view steps)
laws g view steps run = record {
  trusted_maps = trusted_maps view steps run;
  may_return = may_return view steps run;
  gives = gives g view steps run;
  starts = starts g view steps run;
  resumes = resumes g view steps run;
  takes = takes g view steps run;
  ends = ends g view steps run;
}
