use Rattle.std.proofs.Common.{ℕ, List, refl, sym, subst, string_bytes}
use Rattle.ens_base.specs.declared.status.Status.{Status}
use Rattle.ens_base.specs.declared.status.Status.TheVariants as statuses
use Rattle.ensemble.proofs.Endings.{summary_prints}
use Rattle.ensemble.specs.Top.{PrintsSummary}
use Rattle.ensemble.proofs.generating.print_summary.Goals as goal

pub returns-in-Ok-clause-printed : goal.returns-in-Ok-clause-printed
returns-in-Ok-clause-printed g c = λ wrote.
    let w = c.finish.ensures.written wrote in (
      c.as_str.result.now,
      subst (λ (s : Status). PrintsSummary c.args.number c.args.calls s c.as_str.result.now) (sym w.0)
          (subst (λ (t : List ℕ). PrintsSummary c.args.number c.args.calls c.in-Ok.ending.status t) (sym c.as_str.ensures.value)
          (summary_prints c.args.number c.args.calls c.in-Ok.ending.status (string_bytes c.in-Ok.ending.text) c.in-Ok.ensures)),
      w.1,
    )

pub returns-in-Ok-clause-prefix : goal.returns-in-Ok-clause-prefix
returns-in-Ok-clause-prefix g c = λ fault. (
  c.in-Ok.ending.status,
  c.as_str.result.now,
  subst (λ (t : List ℕ). PrintsSummary c.args.number c.args.calls c.in-Ok.ending.status t) (sym c.as_str.ensures.value)
      (summary_prints c.args.number c.args.calls c.in-Ok.ending.status (string_bytes c.in-Ok.ending.text) c.in-Ok.ensures),
  c.finish.ensures.prefix fault,
)

pub returns-in-Err-clause-prefix : goal.returns-in-Err-clause-prefix
returns-in-Err-clause-prefix g c = λ fault. (statuses.Memory, _, refl, c.finish-in-Err.ensures.prefix fault)
