-- The grammars of entries in order, and of digests.
use Rattle.std.proofs.Common.{◌≡◌, ℕ, ◌-◌, true, List, [], ◌∷◌, ◌++◌, length, Some, refl, sym, ap, ◌∙◌, append_assoc, arith, length-append}
use Rattle.std.specs.Prelude.{slice_get}
use Rattle.std.specs.List.{AllByRecursion}
use Rattle.ens_base.specs.declared.entry.Entry.{Entry}
use Rattle.fields.specs.declared.field_error.FieldError.TheVariants.{Rule}
use Rattle.fields.specs.Grammar.{IsGrammar}
use Rattle.fields.specs.Numbers.{IsRun, run_at}
use Rattle.ens_base.specs.Limits.{IsVersion, IsKey}
use Rattle.fields.specs.Versions.{version_spelling}
use Rattle.fields.specs.Strings.{key_spelling}
use Rattle.fields.specs.Entries.{IsEntry, entry_spelling}
use Rattle.fields.proofs.GrammarLaws.{valid_as, spelled_as, field_then, field_last, tested}
use Rattle.fields.proofs.NumberLaws.{run_grammar}
use Rattle.fields.proofs.FieldLaws.{key_grammar, version_grammar}
use Rattle.fields.proofs.EntryLaws.{remade}
use Rattle.tree_node.specs.Entries.{is_above, key_or_none, last_key, AreAbove, IsNext, rest_at, next_at, entries_at, entries_spelling, AreDigests, digests_at, digests_spelling}
use Rattle.tree_node.specs.Repeats.{AreListed}
use Rattle.tree_node.proofs.RepeatLaws.{list_grammar}

pub rest_grammar : (key : List ℕ) → IsGrammar (λ (e : Entry). (Unit {0} × (e.key ≡ key)) × (IsVersion e.version × IsRun 16 e.digest)) (λ e. version_spelling e.version ++ e.digest) (rest_at key)
unfolding rest_at
rest_grammar key =
    field_then version_grammar (λ (e : Entry). e.version) _
    (λ version _ _. field_last (run_grammar 16) (λ (e : Entry). e.digest) (λ digest. record { key = key; version = version; digest = digest }) {P = λ e. (Unit {0} × (e.key ≡ key)) × (e.version ≡ version)} (λ _. refl) (λ _. ((tt, refl), refl)) (λ e h. remade e key version (sym h.0.1) (sym h.1)))

pub next_grammar : (low : List ℕ) → IsGrammar (IsNext low) entry_spelling (next_at low)
unfolding next_at
next_grammar low =
    let parts : IsGrammar (λ (e : Entry). Unit {0} × (IsKey e.key × ((is_above low e.key ≡ true) × (IsVersion e.version × IsRun 16 e.digest)))) (λ e. key_spelling e.key ++ (version_spelling e.version ++ e.digest)) (next_at low) =
    field_then key_grammar (λ (e : Entry). e.key) _
    (λ key start _. valid_as
    (λ e h. (h.1.0, (ap (λ (k : List ℕ). is_above low k) h.1.0.1 ∙ h.0, h.1.1)))
    (λ e h. (ap (λ (k : List ℕ). is_above low k) (sym h.0.1) ∙ h.1.0, (h.0, h.1.1)))
    (tested (is_above low key) (Rule start) (rest_grammar key))) in
    valid_as (λ e h. (h.1.1.0, record { key = h.1.0; version = h.1.1.1.0; digest = h.1.1.1.1 })) (λ e h. (tt, (h.1.key, (h.0, (h.1.version, h.1.digest)))))
    (spelled_as (λ e h. sym (append_assoc (key_spelling e.key) (version_spelling e.version) e.digest)) parts)

pub entries_grammar : (n : ℕ) → IsGrammar (λ es. AreListed IsNext (λ e. e.key) [] es × (length es ≡ n)) entries_spelling (entries_at n)
entries_grammar n = list_grammar next_at (λ e. e.key) IsNext entry_spelling next_grammar n []

pub digests_grammar : (n : ℕ) → IsGrammar (λ ds. AreDigests ds × (length ds ≡ n)) digests_spelling (digests_at n)
digests_grammar n = list_grammar {B = Unit {0}} (λ _. run_at 16) (λ _. tt) (λ _ d. IsRun 16 d) (λ d. d) (λ _. run_grammar 16) n tt

slice_get-last : (es : List Entry) (e : Entry) → slice_get (es ++ e ∷ []) (length es) ≡ Some e
slice_get-last [] e = refl
slice_get-last (x ∷ es) e = slice_get-last es e

pub last_key-push : (es : List Entry) (e : Entry) → last_key (es ++ e ∷ []) ≡ e.key
last_key-push es e =
    let place : length (es ++ e ∷ []) - 1 ≡ length es = omega (arith, length-append es (e ∷ [])) in
    ap (λ (n : ℕ). key_or_none (slice_get (es ++ e ∷ []) n)) place ∙ ap key_or_none (slice_get-last es e)

pub digests_more : (ds : List (List ℕ)) (d : List ℕ) → AreDigests ds → IsRun 16 d → AreDigests (ds ++ d ∷ [])
digests_more [] d h more = (more, tt)
digests_more (x ∷ ds) d h more = (h.0, digests_more ds d h.1 more)

-- entries in order that keep their limits
pub entries_valid : (low : List ℕ) (es : List Entry) → AreAbove low es → AllByRecursion IsEntry es → AreListed IsNext (λ e. e.key) low es
entries_valid low [] up all = tt
entries_valid low (e ∷ es) up all = ((up.0, all.0), entries_valid e.key es up.1 all.1)
