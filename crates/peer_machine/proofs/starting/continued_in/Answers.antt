use Rattle.std.proofs.Common.{sym, subst}
use Rattle.peer_spec.specs.Starts.{Starts, continued_in}
use Rattle.tree_node.specs.declared.version.TreeVersion.{TreeVersion}
use Rattle.peer_machine.proofs.starting.continued_in.Goals as goal

pub returns-in-One-clause-starts : goal.returns-in-One-clause-starts
returns-in-One-clause-starts g c =
    subst (λ (tree : TreeVersion). Starts g.S.Store.does g.S.Store.refuses (continued_in tree c.args.mode c.args.saved) (c.args.stores.now, c.args.hasher.now) c.continued.result (c.continued.new.stores, c.continued.new.hasher)) (sym c.in-One.is) c.continued.ensures.starts

pub returns-in-Two-clause-starts : goal.returns-in-Two-clause-starts
returns-in-Two-clause-starts g c =
    subst (λ (tree : TreeVersion). Starts g.S.Store.does g.S.Store.refuses (continued_in tree c.args.mode c.args.saved) (c.args.stores.now, c.args.hasher.now) c.continued_in_two.result (c.continued_in_two.new.stores, c.continued_in_two.new.hasher)) (sym c.in-Two.is) c.continued_in_two.ensures.starts
