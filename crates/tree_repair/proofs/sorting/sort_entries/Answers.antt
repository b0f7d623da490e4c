use Rattle.std.proofs.Common.{rules}
use Rattle.tree_repair.proofs.Rising.{sorted_by_keys}
use Rattle.tree_repair.proofs.sorting.sort_entries.Goals as goal

pub returns-clause-ok : goal.returns-clause-ok
returns-clause-ok c = sorted_by_keys c.args.entries.items c.sort_by.new.self.items (c.in_ok-sort_by.ensures).sorted (c.in_ok-sort_by.ensures).stable (λ a r f' k. search rules)
