-- Whether keys ascend, entry by entry.
use Rattle.std.proofs.Common.{◌≡◌, ℕ, ◌+◌, ◌<◌, List, [], length, get_or, drop, ap, sym, ◌∙◌, subst}
use Rattle.std.specs.declared.cmp.Ordering.TheVariants.{Less}
use Rattle.ens_base.specs.declared.entry.Entry.{Entry}
use Rattle.ens_base.specs.Lists.{bytes_cmp}
use Rattle.tree_node.specs.Entries.{is_less, AreAbove}
use Rattle.synctree.proofs.Slices.{drop_at}

pub step_all : (low key : List ℕ) (es : List Entry) (i : ℕ) (e : Entry) → i < length es → e ≡ get_or es i e → key ≡ e.key → bytes_cmp low key ≡ Less → (AreAbove low (drop i es) → AreAbove [] es) → AreAbove key (drop (i + 1) es) → AreAbove [] es
step_all low key es i e l at is less k a = k (subst (λ (xs : List Entry). AreAbove low xs) (sym (drop_at es i e e l at)) (ap is_less (ap (bytes_cmp low) (sym is) ∙ less), subst (λ (x : List ℕ). AreAbove x (drop (i + 1) es)) is a))

pub step_rest : (low key : List ℕ) (es : List Entry) (i : ℕ) (e : Entry) → i < length es → e ≡ get_or es i e → key ≡ e.key → (AreAbove [] es → AreAbove low (drop i es)) → AreAbove [] es → AreAbove key (drop (i + 1) es)
step_rest low key es i e l at is k a = subst (λ (x : List ℕ). AreAbove x (drop (i + 1) es)) (sym is) (subst (λ (xs : List Entry). AreAbove low xs) (drop_at es i e e l at) (k a)).1
