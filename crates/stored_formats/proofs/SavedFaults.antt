-- The first faults of saved facts.
use Rattle.std.proofs.Common.{◌≡◌, ℕ, Bool, true, false, cond, eqb, List, length, Some, None, Result, Ok, Err, refl, arith, inl, inr}
use Rattle.ens_base.specs.Limits.{IsBytes}
use Rattle.fields.specs.declared.fault.Fault.{Fault}
use Rattle.fields.specs.declared.fault.Fault.TheVariants.{Ended, Broken, NoMemory}
use Rattle.fields.proofs.NumberLaws.{byte_grammar}
use Rattle.fields.proofs.FaultLaws.{plain_grammar}
use Rattle.fields.proofs.FirstFaultLaws.{IsOne, Faults, faults_then, faults_last}
use Rattle.fields.proofs.FieldFaults.{IsNamed, or_else, rejects, byte_faults, run_faults, plain_faults}
use Rattle.stored_formats.specs.declared.saved.SavedFact.{SavedFact}
use Rattle.stored_formats.specs.declared.fact_error.FactRule.{FactRule}
use Rattle.stored_formats.specs.declared.fact_error.FactRule.TheVariants as rules
use Rattle.stored_formats.specs.declared.fact_error.FactError.{FactError}
use Rattle.stored_formats.specs.declared.fact_error.FactError.TheVariants as errors
use Rattle.stored_formats.specs.SavedBytes.{unsealed_at, sealed_at, saved_at, all_saved, saved_of}
use Rattle.stored_formats.proofs.FactLaws.{fields_grammar}
use Rattle.stored_formats.proofs.FactFaults.{fields_faults, ended_no_memory, broken_no_memory}

unsealed_faults : Faults Ended IsNamed unsealed_at
unfolding unsealed_at
unsealed_faults = faults_last fields_faults (λ fact. let made : SavedFact = record { fact = fact; seal = None } in made)

sealed_faults : Faults Ended IsNamed sealed_at
unfolding sealed_at
sealed_faults =
    faults_then fields_grammar fields_faults _
    (λ fact start. inl (faults_last (plain_faults FactRule (run_faults (λ _ _. ⊥) 16)) (λ seal. let made : SavedFact = record { fact = fact; seal = Some seal } in made)))

pub saved_faults : Faults Ended IsNamed saved_at
unfolding saved_at
saved_faults =
    faults_then (plain_grammar FactRule byte_grammar) (plain_faults FactRule (byte_faults (λ _ _. ⊥))) _
    (λ n start. or_else 1 start (eqb n 1) unsealed_faults (or_else 1 start (eqb n 2) sealed_faults (rejects 1 start (Broken rules.Tag start) (omega arith) (rules.Tag, refl))))

fault_no_memory : (bytes : List ℕ) → IsOne Ended (IsNamed {R = FactRule}) saved_at bytes 0 NoMemory → ⊥
fault_no_memory bytes (inl s) = ended_no_memory s.0 s.1
fault_no_memory bytes (inr b) = broken_no_memory b.2.0 b.0 b.2.1

-- reading a saved fact never runs out of memory
pub no_memory : (bytes : List ℕ) → IsBytes bytes → saved_of bytes ≡ Err errors.Memory → ⊥
no_memory bytes fits h = by (saved_at bytes 0) refl h
  where
    by : (r : Result (SavedFact × ℕ) (Fault FactRule)) → saved_at bytes 0 ≡ r → all_saved r (length bytes) ≡ Err errors.Memory → ⊥
    by (Ok x) e m = sized (eqb x.1 (length bytes)) m
      where
        sized : (b : Bool) → cond {A = Result SavedFact FactError} b (Ok x.0) (Err errors.Trailing) ≡ Err errors.Memory → ⊥
        sized true m = cc
        sized false m = cc
    by (Err (Ended p)) e m = cc
    by (Err (Broken rules.Tag p)) e m = cc
    by (Err (Broken rules.View p)) e m = cc
    by (Err NoMemory) e m = fault_no_memory bytes (saved_faults.one bytes 0 NoMemory fits (omega arith) e)
