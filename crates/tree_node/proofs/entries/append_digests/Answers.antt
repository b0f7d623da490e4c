use Rattle.std.proofs.Common.{◌≡◌, ◌+◌, ◌++◌, ◌∷◌, [], ℕ, List, take, arith, sym, ap, ◌∙◌, subst}
use Rattle.std.proofs.lemmas.List.{take_more}
use Rattle.tree_node.specs.Entries.{AreDigests}
use Rattle.tree_node.proofs.RepeatLaws.{wrote_more}
use Rattle.tree_node.proofs.EntryLaws.{digests_more}
use Rattle.tree_node.proofs.entries.append_digests.Goals as goal

pub loop-digest-preserved : goal.loop-digest-preserved
loop-digest-preserved c =
    let d : List ℕ = c.digest-item.result in
    let prefix : take (c.loop-digest.digest-index + 1) c.args.digests.now ≡ take c.loop-digest.digest-index c.args.digests.now ++ c.digest-item.result ∷ [] =
    take_more c.args.digests.now c.loop-digest.digest-index c.digest-item.result (omega arith) ∙ ap (λ (x : List ℕ). take c.loop-digest.digest-index c.args.digests.now ++ x ∷ []) (sym c.digest-item.is) in
    record {
      written = wrote_more (λ (x : List ℕ). x) c.args.digests.now c.loop-digest.digest-index c.digest-item.result _ _ _ (omega arith) c.digest-item.is c.loop-digest.invariant.written c.in_ok-put_digest.ensures.ok;
      valid = subst AreDigests (sym prefix) (digests_more _ c.digest-item.result c.loop-digest.invariant.valid c.in_ok-put_digest.ensures.valid);
    }
