use Rattle.std.proofs.Common.{ℕ, List, ap, ◌∙◌, rules}
use Rattle.ens_base.specs.contracts.digest.DigestPartialEq.TheImpl.{eq-value}
use Rattle.environment.specs.Maps.{Entries, with_value}
use Rattle.world_stores.specs.Maps.{map_of}
use Rattle.world_stores.specs.Nodes.{Nodes}
use Rattle.world_stores.proofs.Tables.{table_inserted}
use Rattle.world_stores.proofs.nodes.HeldNodes.keep.Goals as goal

pub returns-clause-kept : goal.returns-clause-kept
returns-clause-kept c =
    ap (λ (es : Entries). record { entries = es; tops = c.self.inside.tops.items; faults = c.self.inside.faults })
    (ap map_of c.in_ok-insert.ensures.entries
    ∙ table_inserted eq-value.it (λ k l. search rules) (λ k l. search rules) c.args.digest.now c.in_ok-bytes.bytes c.self.inside.nodes.entries
    ∙ ap (λ (b : List ℕ). with_value c.args.digest.now b (map_of c.self.inside.nodes.entries)) c.in_ok-bytes.ensures)
    ∙ ap (λ (s : Nodes). record s { entries = with_value c.args.digest.now c.args.bytes.now s.entries }) c.self.view_is
