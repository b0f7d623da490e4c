use Rattle.std.proofs.Common.{◌≡◌, List, [], sym, subst, ◌∙◌}
use Rattle.ens_base.specs.declared.entry.Entry.{Entry}
use Rattle.peer_spec.specs.Starts.{ascends}
use Rattle.peer_spec.proofs.Ascending.{ascending}
use Rattle.peer_spec.proofs.opening.is_whole.Goals as goal

pub returns-then-is_clean-clause-is : goal.returns-then-is_clean-clause-is
returns-then-is_clean-clause-is c =
    rw (sym c.is_clean.ensures ∙ c.if-is_clean.true)
    (subst (λ (es : List Entry). c.ascends.result ≡ ascends [] es) c.as_slice.ensures (ascending c.as_slice.result.now c.ascends.result c.ascends.ensures.yes c.ascends.ensures.always))
