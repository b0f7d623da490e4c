-- The grammars of epochs, versions, keys and values.
use Rattle.std.proofs.Common.{◌≡◌, ℕ, ◌^◌, ◌<◌, ◌≤◌, true, List, length, refl, sym, ap, arith}
use Rattle.ens_base.specs.declared.epoch.Epoch.{Epoch}
use Rattle.ens_base.specs.declared.epoch.Version.{Version}
use Rattle.fields.specs.Grammar.{IsGrammar}
use Rattle.std.specs.Prelude.{nat_le, ◌&&◌}
use Rattle.std.proofs.lemmas.Bool.Decides.{nat_tests}
use Rattle.fields.specs.declared.field_error.FieldError.TheVariants.{Rule}
use Rattle.ens_base.specs.Limits.{IsKey, IsValue, IsEpoch, IsVersion}
use Rattle.fields.specs.Strings.{key_spelling, key_at, value_spelling, value_at}
use Rattle.fields.specs.Versions.{epoch_spelling, epoch_at, version_spelling, version_at}
use Rattle.fields.proofs.GrammarLaws.{valid_as, field_then, field_last, tested}
use Rattle.fields.proofs.NumberLaws.{byte_grammar, run_grammar, u16_grammar, u32_grammar, u64_grammar}

pub epoch_grammar : IsGrammar IsEpoch epoch_spelling epoch_at
unfolding epoch_at
epoch_grammar =
    let parts : IsGrammar (λ (e : Epoch). Unit {0} × ((e.count < 2 ^ 64) × (e.proposer < 2 ^ 32))) epoch_spelling epoch_at =
    field_then u64_grammar (λ (e : Epoch). e.count) _
    (λ count _ _. field_last u32_grammar (λ (e : Epoch). e.proposer) (λ proposer. record { count = count; proposer = proposer }) (λ _. refl) (λ _. (tt, refl)) (λ e h. ap (λ (n : ℕ). record { count = n; proposer = e.proposer }) (sym h.1))) in
    valid_as (λ e h. record { count = h.1.0; proposer = h.1.1 }) (λ e h. (tt, (h.count, h.proposer))) parts

pub version_grammar : IsGrammar IsVersion version_spelling version_at
unfolding version_at
version_grammar =
    let parts : IsGrammar (λ (v : Version). Unit {0} × (IsEpoch v.epoch × (v.seq < 2 ^ 64))) version_spelling version_at =
    field_then epoch_grammar (λ (v : Version). v.epoch) _
    (λ epoch _ _. field_last u64_grammar (λ (v : Version). v.seq) (λ seq. record { epoch = epoch; seq = seq }) (λ _. refl) (λ _. (tt, refl)) (λ v h. ap (λ (e : Epoch). record { epoch = e; seq = v.seq }) (sym h.1))) in
    valid_as (λ v h. record { epoch = h.1.0; seq = h.1.1 }) (λ v h. (tt, (h.epoch, h.seq))) parts

in_limits : (n : ℕ) → (1 ≤ n) × (n ≤ 64) → nat_le 1 n && nat_le n 64 ≡ true
in_limits n h = grind (arith, nat_tests)

from_limits : (n : ℕ) → nat_le 1 n && nat_le n 64 ≡ true → (1 ≤ n) × (n ≤ 64)
from_limits n h = grind (arith, nat_tests)

pub key_grammar : IsGrammar IsKey key_spelling key_at
unfolding key_at
key_grammar =
    let parts : IsGrammar (λ (k : List ℕ). Unit {0} × ((length k < 256) × IsKey k)) key_spelling key_at =
    field_then byte_grammar (λ (k : List ℕ). length k) _
    (λ n start _. valid_as
    (λ k h. ((tt, h.1.size), record { size = from_limits (length k) (rw h.1.size h.0); bytes = h.1.bytes }))
    (λ k h. (rw (← h.0.1) (in_limits (length k) h.1.size), record { size = h.0.1; bytes = h.1.bytes }))
    (tested (nat_le 1 n && nat_le n 64) (Rule start) (run_grammar n))) in
    valid_as (λ k h. h.1.1) (λ k h. (tt, (omega (arith, h.size), h))) parts

few_enough : (n : ℕ) → n ≤ 1024 → nat_le n 1024 ≡ true
few_enough n h = grind (arith, nat_tests)

from_few : (n : ℕ) → nat_le n 1024 ≡ true → n ≤ 1024
from_few n h = grind (arith, nat_tests)

pub value_grammar : IsGrammar IsValue value_spelling value_at
unfolding value_at
value_grammar =
    let parts : IsGrammar (λ (v : List ℕ). Unit {0} × ((length v < 2 ^ 16) × IsValue v)) value_spelling value_at =
    field_then u16_grammar (λ (v : List ℕ). length v) _
    (λ n start _. valid_as
    (λ v h. ((tt, h.1.size), record { size = from_few (length v) (rw h.1.size h.0); bytes = h.1.bytes }))
    (λ v h. (rw (← h.0.1) (few_enough (length v) h.1.size), record { size = h.0.1; bytes = h.1.bytes }))
    (tested (nat_le n 1024) (Rule start) (run_grammar n))) in
    valid_as (λ v h. h.1.1) (λ v h. (tt, (omega (arith, h.size), h))) parts
