use Rattle.std.proofs.Common.{◌≡◌, List, ap, sym, subst, ◌∙◌}
use Rattle.ens_base.specs.declared.entry.Entry.{Entry}
use Rattle.tree_sync.specs.Merges.{with_entry}
use Rattle.tree_sync.specs.Ranks.{rank_of, entries_of}
use Rattle.tree_sync.proofs.RuleKeeping.{inserted, kept}
use Rattle.tree_sync.proofs.merging.Merge.add.Goals as goal

pub returns-then-is_held : goal.returns-then-is_held
returns-then-is_held c =
    let entry = c.args.entry.now in
    subst (λ (m : List Entry). m ≡ with_entry entry m) c.self.view_is (kept entry.key (rank_of entry) c.self.inside.ranks.entries c.self.invariant (sym c.is_held.ensures ∙ c.if-is_held.true))

pub returns : goal.returns
returns c =
    let entry = c.args.entry.now in
    let ranks = c.self.inside.ranks.entries in
    let done = rw c.in_ok-copy.ensures at c.in_ok-insert.ensures.entries in
    ap entries_of done ∙ inserted entry.key (rank_of entry) ranks (sym c.is_held.ensures ∙ c.if-is_held.false) ∙ ap (with_entry entry) c.self.view_is
