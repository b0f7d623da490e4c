use Rattle.std.proofs.Common.{◌≡◌, ◌∙◌, ◌<◌, ap, sym, arith, ℕ, List, [], ◌∷◌, ◌++◌, length, get_or, set}
use Rattle.std.specs.Prelude.{insert}
use Rattle.std.proofs.lemmas.Grind.{common_steps}
use Rattle.std.specs.declared.cmp.Ordering.TheVariants.{Less, Equal}
use Rattle.ens_base.specs.declared.entry.Entry.{Entry}
use Rattle.ens_base.specs.Lists.{bytes_cmp}
use Rattle.synctree.specs.Entries.{put}
use Rattle.synctree.proofs.Parts.{get_or-any}
use Rattle.synctree.proofs.Puts.{put_same, put_before, put_last}
use Rattle.synctree.proofs.entering.put_into.Goals as goal

pub returns-in-Less-clause-made : goal.returns-in-Less-clause-made
returns-in-Less-clause-made c = ap (put c.args.entry.now) (sym c.loop-i.invariant.same) ∙ put_before c.args.entry.now c.loop-i.entries.items c.loop-i.i within c.loop-i.invariant.above found ∙ ap (λ (x : Entry). insert c.loop-i.entries.items c.loop-i.i x) (sym c.in_ok-copy.ensures) ∙ sym (c.new.ensures ∙ (c.in_ok-insert-in-Less.ensures).items)
  where
    within : c.loop-i.i < length c.loop-i.entries.items
    within = rw c.loop-i.invariant.same (grind (arith, common_steps))

    here : get_or c.loop-i.entries.items c.loop-i.i c.args.entry.now ≡ c.index.result.now
    here = get_or-any c.loop-i.entries.items c.loop-i.i c.args.entry.now c.index.result.now within ∙ sym c.index.ensures

    found : bytes_cmp c.args.entry.now.key (get_or c.loop-i.entries.items c.loop-i.i c.args.entry.now).key ≡ Less
    found = ap (λ (k : List ℕ). bytes_cmp k (get_or c.loop-i.entries.items c.loop-i.i c.args.entry.now).key) (sym c.bytes-key.ensures.bytes) ∙ ap (λ (x : Entry). bytes_cmp c.bytes-key.result.now x.key) here ∙ ap (λ (k : List ℕ). bytes_cmp c.bytes-key.result.now k) (sym c.bytes.ensures.bytes) ∙ sym c.in-Less.ensures

pub returns-in-Equal-clause-made : goal.returns-in-Equal-clause-made
returns-in-Equal-clause-made c = ap (put c.args.entry.now) (sym c.loop-i.invariant.same) ∙ put_same c.args.entry.now c.loop-i.entries.items c.loop-i.i within c.loop-i.invariant.above found ∙ ap (λ (x : Entry). set c.loop-i.entries.items c.loop-i.i x) (sym c.in_ok-copy.ensures) ∙ sym c.new-in-Equal.ensures
  where
    within : c.loop-i.i < length c.loop-i.entries.items
    within = rw c.loop-i.invariant.same (grind (arith, common_steps))

    here : get_or c.loop-i.entries.items c.loop-i.i c.args.entry.now ≡ c.index.result.now
    here = get_or-any c.loop-i.entries.items c.loop-i.i c.args.entry.now c.index.result.now within ∙ sym c.index.ensures

    found : bytes_cmp c.args.entry.now.key (get_or c.loop-i.entries.items c.loop-i.i c.args.entry.now).key ≡ Equal
    found = ap (λ (k : List ℕ). bytes_cmp k (get_or c.loop-i.entries.items c.loop-i.i c.args.entry.now).key) (sym c.bytes-key.ensures.bytes) ∙ ap (λ (x : Entry). bytes_cmp c.bytes-key.result.now x.key) here ∙ ap (λ (k : List ℕ). bytes_cmp c.bytes-key.result.now k) (sym c.bytes.ensures.bytes) ∙ sym c.in-Equal.ensures

pub returns-clause-made : goal.returns-clause-made
returns-clause-made c = ap (put c.args.entry.now) (sym c.loop-i.invariant.same) ∙ put_last c.args.entry.now c.loop-i.entries.items (λ j b. c.loop-i.invariant.above j (at_end j b)) ∙ ap (λ (x : Entry). c.loop-i.entries.items ++ x ∷ []) (sym c.in_ok-copy.ensures) ∙ sym (c.new-2.ensures ∙ (c.in_ok-push.ensures).items)
  where
    at_end : (j : ℕ) → j < length c.loop-i.entries.items → j < c.loop-i.i
    at_end j b = let b' = rw c.loop-i.invariant.same at b in grind (arith, common_steps)
