use Rattle.std.proofs.Common.{ℕ, List, ◌++◌, ap, ◌∙◌, append_assoc}
use Rattle.fields.specs.Versions.{version_spelling}
use Rattle.fields.specs.Strings.{value_spelling}
use Rattle.std.proofs.lemmas.Result.{on_ok_weaker}
use Rattle.wire_frames.proofs.put_calls.append_arguments.Goals as goal

pub returns-in_ok-put_version-in-Update-clause-ok : goal.returns-in_ok-put_version-in-Update-clause-ok
returns-in_ok-put_version-in-Update-clause-ok c =
    rw c.in-Update.is (on_ok_weaker c.put_value-in-Update.result
    (λ e. e ∙ ap (λ (l : List ℕ). l ++ value_spelling c.in-Update.value) c.in_ok-put_version-in-Update.ensures.ok ∙ append_assoc c.args.out.now.items (version_spelling c.in-Update.stamp) (value_spelling c.in-Update.value))
    c.put_value-in-Update.ensures.ok)
