use Rattle.std.proofs.Common.{List, subst, sym, ◌∙◌}
use Rattle.ens_base.specs.declared.entry.Entry.{Entry}
use Rattle.tree_node.specs.declared.version.TreeVersion.TheVariants.{Two}
use Rattle.peer_spec.specs.Starts.{Starts, continued, is_whole, migrated}
use Rattle.peer_machine.proofs.Starts.{first_chosen, second_chosen}
use Rattle.peer_machine.proofs.starting.scanned.Goals as goal

pub returns-then-is_whole-clause-starts : goal.returns-then-is_whole-clause-starts
returns-then-is_whole-clause-starts g c =
    first_chosen g.S.Store.does g.S.Store.refuses (is_whole c.args.scan.now) (migrated c.args.mode c.args.saved c.args.scan.now.entries) (continued Two c.args.mode c.args.saved) (c.args.stores.now, c.args.hasher.now) (c.migrate.new.stores, c.migrate.new.hasher) c.migrate.result
    (sym c.is_whole.ensures.is ∙ c.if-is_whole.true) (subst (λ (es : List Entry). Starts g.S.Store.does g.S.Store.refuses (migrated c.args.mode c.args.saved es) (c.args.stores.now, c.args.hasher.now) c.migrate.result (c.migrate.new.stores, c.migrate.new.hasher)) c.as_slice.ensures c.migrate.ensures.starts)

pub returns-else-is_whole-clause-starts : goal.returns-else-is_whole-clause-starts
returns-else-is_whole-clause-starts g c =
    second_chosen g.S.Store.does g.S.Store.refuses (is_whole c.args.scan.now) (migrated c.args.mode c.args.saved c.args.scan.now.entries) (continued Two c.args.mode c.args.saved) (c.args.stores.now, c.args.hasher.now) (c.continued.new.stores, c.continued.new.hasher) c.continued.result
    (sym c.is_whole.ensures.is ∙ c.if-is_whole.false) c.continued.ensures.starts
