use Rattle.std.proofs.Common.{ap, sym, ◌∙◌, Some, rules}
use Rattle.ens_base.specs.contracts.digest.DigestPartialEq.TheImpl.{eq-value}
use Rattle.environment.specs.Maps.{value_at}
use Rattle.world_stores.specs.Nodes.{Nodes}
use Rattle.world_stores.proofs.Tables.{table_found}
use Rattle.world_stores.proofs.nodes.HeldNodes.look.Goals as goal

pub returns-in-Some : goal.returns-in-Some
returns-in-Some c = ap Some c.as_slice.ensures ∙ c.in-Some.ensures.value
    ∙ sym (table_found eq-value.it (λ k l. search rules) (λ k l. search rules) c.args.digest.now c.self.inside.nodes.entries)
    ∙ ap (λ (s : Nodes). value_at c.args.digest.now s.entries) c.self.view_is

pub returns-in-None : goal.returns-in-None
returns-in-None c = c.in-None.ensures.value
    ∙ sym (table_found eq-value.it (λ k l. search rules) (λ k l. search rules) c.args.digest.now c.self.inside.nodes.entries)
    ∙ ap (λ (s : Nodes). value_at c.args.digest.now s.entries) c.self.view_is
