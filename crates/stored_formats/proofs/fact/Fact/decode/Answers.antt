use Rattle.std.proofs.Common.{ℕ, ◌≡◌, ap, sym, ◌∙◌, arith, length, Result}
use Rattle.fields.specs.declared.fault.Fault.{Fault}
use Rattle.stored_formats.specs.declared.fact.Fact.{Fact}
use Rattle.stored_formats.specs.declared.fact_error.FactRule.{FactRule}
use Rattle.stored_formats.specs.FactBytes.{all_of, fact_of}
use Rattle.stored_formats.proofs.FactLaws.{fact_found, fact_again}
use Rattle.stored_formats.proofs.fact.Fact.decode.Goals as goal

pub returns-clause-found : goal.returns-clause-found
returns-clause-found c =
    let exact : fact_of c.args.bytes.now ≡ c.if_all.result = ap (λ (r : Result (Fact × ℕ) (Fault FactRule)). all_of r (length c.args.bytes.now)) c.read_fact.ensures.exact ∙ sym c.if_all.ensures in
    fact_found c.args.bytes.now c.if_all.result (λ i. omega (arith, c.type_inv.bytes i)) exact

pub returns-clause-only : goal.returns-clause-only
returns-clause-only c =
    let exact : fact_of c.args.bytes.now ≡ c.if_all.result = ap (λ (r : Result (Fact × ℕ) (Fault FactRule)). all_of r (length c.args.bytes.now)) c.read_fact.ensures.exact ∙ sym c.if_all.ensures in
    λ f good e. sym exact ∙ fact_again c.args.bytes.now f good e
