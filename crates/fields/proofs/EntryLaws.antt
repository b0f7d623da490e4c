-- The grammar of entries.
use Rattle.std.proofs.Common.{◌≡◌, ℕ, List, ◌++◌, refl, sym, append_assoc}
use Rattle.ens_base.specs.declared.entry.Entry.{Entry}
use Rattle.ens_base.specs.declared.epoch.Version.{Version}
use Rattle.fields.specs.Grammar.{IsGrammar}
use Rattle.fields.specs.Numbers.{IsRun}
use Rattle.ens_base.specs.Limits.{IsVersion, IsKey}
use Rattle.fields.specs.Versions.{version_spelling}
use Rattle.fields.specs.Strings.{key_spelling}
use Rattle.fields.specs.Entries.{IsEntry, entry_spelling, entry_at}
use Rattle.fields.proofs.GrammarLaws.{valid_as, spelled_as, field_then, field_last}
use Rattle.fields.proofs.NumberLaws.{run_grammar}
use Rattle.fields.proofs.FieldLaws.{key_grammar, version_grammar}

pub remade : (e : Entry) (key : List ℕ) (version : Version) → key ≡ e.key → version ≡ e.version → (let made : Entry = record { key = key; version = version; digest = e.digest } in made) ≡ e
remade e key version k v = λ i. record { key = k i; version = v i; digest = e.digest }

pub entry_grammar : IsGrammar IsEntry entry_spelling entry_at
unfolding entry_at
entry_grammar =
    let parts : IsGrammar (λ (e : Entry). Unit {0} × (IsKey e.key × (IsVersion e.version × IsRun 16 e.digest))) (λ e. key_spelling e.key ++ (version_spelling e.version ++ e.digest)) entry_at =
    field_then key_grammar (λ (e : Entry). e.key) _
    (λ key _ _. field_then version_grammar (λ (e : Entry). e.version) _
    (λ version _ _. field_last (run_grammar 16) (λ (e : Entry). e.digest) (λ digest. record { key = key; version = version; digest = digest }) (λ _. refl) (λ _. ((tt, refl), refl))
    (λ e h. remade e key version (sym h.0.1) (sym h.1)))) in
    valid_as (λ e h. record { key = h.1.0; version = h.1.1.0; digest = h.1.1.1 }) (λ e h. (tt, (h.key, (h.version, h.digest))))
    (spelled_as (λ e h. sym (append_assoc (key_spelling e.key) (version_spelling e.version) e.digest)) parts)
