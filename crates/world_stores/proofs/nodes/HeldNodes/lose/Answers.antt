use Rattle.std.proofs.Common.{ap, ◌∙◌, rules}
use Rattle.ens_base.specs.contracts.digest.DigestPartialEq.TheImpl.{eq-value}
use Rattle.environment.specs.Maps.{Entries}
use Rattle.world_stores.specs.Maps.{without}
use Rattle.world_stores.specs.Nodes.{Nodes}
use Rattle.world_stores.proofs.Tables.{table_lost}
use Rattle.world_stores.proofs.nodes.HeldNodes.lose.Goals as goal

pub returns : goal.returns
returns c =
    let digest = c.args.digest.now in
    ap (λ (es : Entries). record { entries = es; tops = c.self.inside.tops.items; faults = c.self.inside.faults })
    (table_lost eq-value.it (λ k l. search rules) (λ k l. search rules) digest c.self.inside.nodes.entries _ c.swap_remove.ensures.updates.1 (λ q differ. c.swap_remove.ensures.updates.2 q differ))
    ∙ ap (λ (s : Nodes). record s { entries = without digest s.entries }) c.self.view_is
