use Rattle.std.proofs.Common.{ℕ, List, [], ◌∷◌, ◌++◌, ap, ◌∙◌, append_assoc}
use Rattle.fields.specs.Versions.{version_spelling}
use Rattle.fields.specs.Strings.{value_spelling}
use Rattle.std.proofs.lemmas.Result.{on_ok_weaker}
use Rattle.wire_frames.proofs.put_calls.append_stamped.Goals as goal

pub returns-clause-ok : goal.returns-clause-ok
returns-clause-ok c =
    on_ok_weaker c.put_value.result
    (λ e. e ∙ ap (λ (l : List ℕ). l ++ value_spelling c.args.value.now) (c.in_ok-put_version.ensures.ok ∙ ap (λ (l : List ℕ). l ++ version_spelling c.args.stamp.now) c.in_ok-put_u8.ensures.ok)
    ∙ append_assoc (c.args.out.now.items ++ 1 ∷ []) (version_spelling c.args.stamp.now) (value_spelling c.args.value.now)
    ∙ append_assoc c.args.out.now.items (1 ∷ []) (version_spelling c.args.stamp.now ++ value_spelling c.args.value.now))
    c.put_value.ensures.ok
