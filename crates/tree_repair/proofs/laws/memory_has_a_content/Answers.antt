use Rattle.std.proofs.Common.{ap}
use Rattle.environment.specs.Maps.{value_at}
use Rattle.environment.specs.MemStores.{Nodes}
use Rattle.tree_repair.proofs.laws.memory_has_a_content.Goals as goal

pub returns : goal.returns
returns c = record {
  returns = λ s t digest answer did. did.1;
  stays = λ s t digest other answer did. ap (λ (nodes : Nodes). value_at other nodes.held.entries) did.2;
}
