use Rattle.std.proofs.Common.{◌≡◌, ◌<◌, ℕ, get_or}
use Rattle.std.specs.declared.cmp.Ordering.TheVariants.{Greater}
use Rattle.ens_base.specs.Lists.{bytes_cmp}
use Rattle.synctree.proofs.entering.put_into.Given as goal

abbrev pub invariant-loop-i : goal.invariant-loop-i
invariant-loop-i l = record {
  same : l.entries.items ≡ l.fn.entries;
  above : (j : ℕ) → j < l.i → bytes_cmp l.entry.key (get_or l.entries.items j l.entry).key ≡ Greater;
}
