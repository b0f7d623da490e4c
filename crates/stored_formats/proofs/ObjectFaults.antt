-- The first faults of objects.
use Rattle.std.proofs.Common.{eqb, None, Some, refl, arith, inl}
use Rattle.fields.specs.declared.fault.Fault.TheVariants.{Ended, Broken}
use Rattle.fields.proofs.NumberLaws.{byte_grammar}
use Rattle.fields.proofs.FieldLaws.{version_grammar, key_grammar}
use Rattle.fields.proofs.FaultLaws.{with_rule_grammar, plain_grammar}
use Rattle.fields.proofs.FirstFaultLaws.{Faults, faultless, faults_then, faults_last}
use Rattle.fields.proofs.FieldFaults.{IsNamed, or_else, rejects, byte_faults, version_faults, key_faults, value_faults, with_rule_faults, plain_faults}
use Rattle.stored_formats.specs.declared.object.Object.{Object}
use Rattle.stored_formats.specs.declared.object_error.ObjectRule.{ObjectRule}
use Rattle.stored_formats.specs.declared.object_error.ObjectRule.TheVariants as rules
use Rattle.stored_formats.specs.Objects.{held_at, content_at, object_at}

held_faults : Faults Ended IsNamed held_at
unfolding held_at
held_faults = faults_last (with_rule_faults rules.ValueLength value_faults) (λ value. Some value)

content_faults : Faults Ended IsNamed content_at
unfolding content_at
content_faults =
    faults_then (plain_grammar ObjectRule byte_grammar) (plain_faults ObjectRule (byte_faults (λ _ _. ⊥))) _
    (λ n start. or_else 1 start (eqb n 0) (faultless None) (or_else 1 start (eqb n 1) held_faults (rejects 1 start (Broken rules.Tag start) (omega arith) (rules.Tag, refl))))

pub object_faults : Faults Ended IsNamed object_at
unfolding object_at
object_faults =
    faults_then (plain_grammar ObjectRule version_grammar) (plain_faults ObjectRule (version_faults (λ _ _. ⊥))) _ (λ version start. inl
    (faults_then (plain_grammar ObjectRule version_grammar) (plain_faults ObjectRule (version_faults (λ _ _. ⊥))) _ (λ stamp start. inl
    (faults_then (with_rule_grammar rules.KeyLength key_grammar) (with_rule_faults rules.KeyLength key_faults) _ (λ key start. inl
    (faults_last content_faults (λ value. let made : Object = record { version = version; stamp = stamp; key = key; value = value } in made)))))))
