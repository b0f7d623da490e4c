use Rattle.std.proofs.Common.{ℕ, ◌≡◌, ap, sym, ◌∙◌, arith, length, Result}
use Rattle.fields.specs.declared.fault.Fault.{Fault}
use Rattle.stored_formats.specs.declared.saved.SavedFact.{SavedFact}
use Rattle.stored_formats.specs.declared.fact_error.FactRule.{FactRule}
use Rattle.stored_formats.specs.SavedBytes.{all_saved, saved_of}
use Rattle.stored_formats.proofs.SavedLaws.{saved_found, saved_again}
use Rattle.stored_formats.proofs.saved.SavedFact.decode.Goals as goal

pub returns-clause-found : goal.returns-clause-found
returns-clause-found c =
    let exact : saved_of c.args.bytes.now ≡ c.if_all.result = ap (λ (r : Result (SavedFact × ℕ) (Fault FactRule)). all_saved r (length c.args.bytes.now)) c.read_saved.ensures.exact ∙ sym c.if_all.ensures in
    saved_found c.args.bytes.now c.if_all.result (λ i. omega (arith, c.type_inv.bytes i)) exact

pub returns-clause-only : goal.returns-clause-only
returns-clause-only c =
    let exact : saved_of c.args.bytes.now ≡ c.if_all.result = ap (λ (r : Result (SavedFact × ℕ) (Fault FactRule)). all_saved r (length c.args.bytes.now)) c.read_saved.ensures.exact ∙ sym c.if_all.ensures in
    λ s good e. sym exact ∙ saved_again c.args.bytes.now s good e
