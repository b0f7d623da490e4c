use Rattle.std.proofs.Common.{◌≡◌, ℕ, List, ap, sym, subst, string_bytes}
use Rattle.audit.specs.Printed.{PrintsReport}
use Rattle.audit.proofs.Printing.{unread_prints}
use Rattle.audit.proofs.job.unread_ending.Goals as goal

pub returns-clause-printed : goal.returns-clause-printed
returns-clause-printed c = λ source refuses.
    let same : c.into_bytes.result.items ≡ string_bytes c.in_ok-ending.ending.text = ap (λ v. v.items) c.into_bytes.ensures.value in
    subst (λ (text : List ℕ). PrintsReport source c.in_ok-ending.ending.status text) (sym same) (unread_prints source c.in_ok-ending.ending.status (string_bytes c.in_ok-ending.ending.text) (c.in_ok-ending.ensures.printed source refuses))
