use Rattle.std.proofs.Common.{subst, List, ℕ, ◌∷◌, append-nil, sym}
use Rattle.fields.specs.Places.{Writes}
use Rattle.fields.specs.Views.{view_spelling}
use Rattle.fields.proofs.ByteLaws.{Writes-then}
use Rattle.fields.proofs.views.write_one.Goals as goal

pub returns-clause-written : goal.returns-clause-written
returns-clause-written c =
    let both = Writes-then _ _ _ _ _ _ _ _ c.write_u8-place.ensures c.write_view.ensures.written in
    subst (λ (l : List ℕ). Writes c.args.out.now c.write_view.new.out c.args.at (1 ∷ l) c.write_view.result) (sym (append-nil (view_spelling c.args.x.now))) both
