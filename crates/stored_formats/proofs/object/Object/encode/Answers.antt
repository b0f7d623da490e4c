use Rattle.std.proofs.Common.{ℕ, List, ◌++◌, ap, ◌∙◌}
use Rattle.stored_formats.specs.Objects.{object_spelling}
use Rattle.stored_formats.proofs.ObjectLaws.{object_again}
use Rattle.stored_formats.proofs.object.Object.encode.Goals as goal

pub returns-in-Ok-clause-again : goal.returns-in-Ok-clause-again
returns-in-Ok-clause-again c = object_again _ c.args.self.now c.in-Ok.ensures.valid (c.in-Ok.ensures.ok ∙ ap (λ (l : List ℕ). l ++ object_spelling c.args.self.now) c.new-out.ensures.items)
