-- The first faults of facts.
use Rattle.std.proofs.Common.{◌≡◌, ℕ, Bool, true, false, cond, eqb, List, length, Result, Ok, Err, refl, arith, inl, inr}
use Rattle.ens_base.specs.Limits.{IsBytes}
use Rattle.fields.specs.declared.fault.Fault.{Fault}
use Rattle.fields.specs.declared.fault.Fault.TheVariants.{Ended, Broken, NoMemory}
use Rattle.fields.proofs.NumberLaws.{byte_grammar, u32_grammar, u64_grammar}
use Rattle.fields.proofs.FieldLaws.{epoch_grammar}
use Rattle.fields.proofs.ViewLaws.{views_grammar}
use Rattle.fields.proofs.FaultLaws.{with_rule_grammar, plain_grammar}
use Rattle.fields.proofs.FirstFaultLaws.{IsOne, Faults, faultless, faults_then, faults_last}
use Rattle.fields.proofs.FieldFaults.{IsNamed, or_else, rejects, byte_faults, number_faults, epoch_faults, view_faults, views_faults, with_rule_faults, plain_faults}
use Rattle.stored_formats.specs.declared.fact.Fact.{Fact}
use Rattle.stored_formats.specs.declared.fact.Change.TheVariants as changes
use Rattle.stored_formats.specs.declared.fact_error.FactRule.{FactRule}
use Rattle.stored_formats.specs.declared.fact_error.FactRule.TheVariants as rules
use Rattle.stored_formats.specs.declared.fact_error.FactError.{FactError}
use Rattle.stored_formats.specs.declared.fact_error.FactError.TheVariants as errors
use Rattle.stored_formats.specs.FactBytes.{added_at, change_at, fields_at, fact_at, all_of, fact_of}

added_faults : Faults Ended IsNamed added_at
unfolding added_at
added_faults = faults_last (with_rule_faults rules.View view_faults) (λ view. changes.Add view)

change_faults : Faults Ended IsNamed change_at
unfolding change_at
change_faults =
    faults_then (plain_grammar FactRule byte_grammar) (plain_faults FactRule (byte_faults (λ _ _. ⊥))) _
    (λ n start. or_else 1 start (eqb n 0) (faultless changes.None) (or_else 1 start (eqb n 1) added_faults (or_else 1 start (eqb n 2) (faultless changes.Drop) (rejects 1 start (Broken rules.Tag start) (omega arith) (rules.Tag, refl)))))

pub fields_faults : Faults Ended IsNamed fields_at
unfolding fields_at
fields_faults =
    faults_then (plain_grammar FactRule epoch_grammar) (plain_faults FactRule (epoch_faults (λ _ _. ⊥))) _ (λ ballot start. inl
    (faults_then (plain_grammar FactRule epoch_grammar) (plain_faults FactRule (epoch_faults (λ _ _. ⊥))) _ (λ epoch start. inl
    (faults_then (plain_grammar FactRule u64_grammar) (plain_faults FactRule (number_faults (λ _ _. ⊥) 8)) _ (λ seq start. inl
    (faults_then (plain_grammar FactRule u32_grammar) (plain_faults FactRule (number_faults (λ _ _. ⊥) 4)) _ (λ leader start. inl
    (faults_then (with_rule_grammar rules.View views_grammar) (with_rule_faults rules.View views_faults) _ (λ views start. inl
    (faults_last change_faults (λ change. let made : Fact = record { ballot = ballot; epoch = epoch; seq = seq; leader = leader; views = views; change = change } in made)))))))))))

pub fact_faults : Faults Ended IsNamed fact_at
unfolding fact_at
fact_faults =
    faults_then (plain_grammar FactRule byte_grammar) (plain_faults FactRule (byte_faults (λ _ _. ⊥))) _
    (λ n start. or_else 1 start (eqb n 1) fields_faults (rejects 1 start (Broken rules.Tag start) (omega arith) (rules.Tag, refl)))

pub ended_no_memory : {R : Type 0} (p : ℕ) → (let none : Fault R = NoMemory in none) ≡ Ended p → ⊥
ended_no_memory p e = cc

pub broken_no_memory : {R : Type 0} (rule : R) (p : ℕ) → NoMemory ≡ Broken rule p → ⊥
broken_no_memory rule p e = cc

fault_no_memory : (bytes : List ℕ) → IsOne Ended (IsNamed {R = FactRule}) fact_at bytes 0 NoMemory → ⊥
fault_no_memory bytes (inl s) = ended_no_memory s.0 s.1
fault_no_memory bytes (inr b) = broken_no_memory b.2.0 b.0 b.2.1

-- reading a fact never runs out of memory
pub no_memory : (bytes : List ℕ) → IsBytes bytes → fact_of bytes ≡ Err errors.Memory → ⊥
no_memory bytes fits h = by (fact_at bytes 0) refl h
  where
    by : (r : Result (Fact × ℕ) (Fault FactRule)) → fact_at bytes 0 ≡ r → all_of r (length bytes) ≡ Err errors.Memory → ⊥
    by (Ok x) e m = sized (eqb x.1 (length bytes)) m
      where
        sized : (b : Bool) → cond {A = Result Fact FactError} b (Ok x.0) (Err errors.Trailing) ≡ Err errors.Memory → ⊥
        sized true m = cc
        sized false m = cc
    by (Err (Ended p)) e m = cc
    by (Err (Broken rules.Tag p)) e m = cc
    by (Err (Broken rules.View p)) e m = cc
    by (Err NoMemory) e m = fault_no_memory bytes (fact_faults.one bytes 0 NoMemory fits (omega arith) e)
