use Rattle.std.proofs.Common.{◌≡◌, ℕ, List, [], ◌∷◌, ◌++◌, ap, ◌∙◌, string_bytes}
use Rattle.serde_json.specs.Written.{compact_text}
use Rattle.audit.specs.Text.{report_data}
use Rattle.audit.proofs.Texts.{no_float}
use Rattle.audit.proofs.text.report_text.Goals as goal

pub returns-clause-text : goal.returns-clause-text
returns-clause-text c =
    let text : string_bytes c.in_ok-text.text ≡ compact_text (report_data c.args.report.now) = (rw c.in_ok-value.ensures at c.in_ok-text.ensures.text) (no_float c.args.report.now) in
    ap (λ v. v.items) c.into_bytes.ensures.value ∙ c.in_ok-push_str.ensures.bytes ∙ ap (λ (l : List ℕ). l ++ 10 ∷ []) text
