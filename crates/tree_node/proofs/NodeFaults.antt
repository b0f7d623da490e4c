-- The first faults of positions, of entries in order, of digests and of nodes.
use Rattle.std.proofs.Common.{ℕ, zero, suc, ◌^◌, List, [], ◌∷◌, refl, arith, inl}
use Rattle.std.specs.Prelude.{nat_le, nat_lt}
use Rattle.ens_base.specs.declared.entry.Entry.{Entry}
use Rattle.fields.specs.declared.field_error.FieldError.{FieldError}
use Rattle.fields.specs.declared.field_error.FieldError.TheVariants as fields
use Rattle.fields.specs.Grammar.{IsGrammar}
use Rattle.fields.specs.Numbers.{run_at}
use Rattle.fields.proofs.GrammarLaws.{Reader}
use Rattle.fields.proofs.NumberLaws.{byte_grammar, run_grammar, u32_grammar}
use Rattle.fields.proofs.FieldLaws.{key_grammar, version_grammar}
use Rattle.fields.proofs.FirstFaultLaws.{Faults, IsRule, faultless, faults_then, faults_last}
use Rattle.fields.proofs.FieldFaults.{or_else, rejects, byte_faults, number_faults, run_faults, key_faults, version_faults}
use Rattle.tree_node.specs.declared.position.Position.{Position}
use Rattle.tree_node.specs.declared.version.TreeVersion.{TreeVersion}
use Rattle.tree_node.specs.Repeats.{list_at}
use Rattle.tree_node.specs.TreeVersions.{levels}
use Rattle.tree_node.specs.Positions.{level_at, index_at, position_at, any_position_at}
use Rattle.tree_node.specs.Entries.{is_above, rest_at, next_at, entries_at, IsNext, digests_at}
use Rattle.tree_node.proofs.PositionLaws.{level_grammar}
use Rattle.tree_node.proofs.EntryLaws.{next_grammar}

level_faults : (v : TreeVersion) → Faults fields.Short IsRule (level_at v)
unfolding level_at
level_faults v = faults_then byte_grammar (byte_faults IsRule) _ (λ level start. or_else 1 start (nat_le level (levels v)) (faultless level) (rejects 1 start (fields.Rule start) (omega arith) refl))

index_faults : (level : ℕ) → Faults fields.Short IsRule (index_at level)
unfolding index_at
index_faults level = faults_then u32_grammar (number_faults IsRule 4) _ (λ index start. or_else 4 start (nat_lt index (16 ^ level)) (faultless index) (rejects 4 start (fields.Rule start) (omega arith) refl))

pub position_faults : (v : TreeVersion) → Faults fields.Short IsRule (position_at v)
unfolding position_at
position_faults v = faults_then (level_grammar v) (level_faults v) _ (λ level start. inl (faults_last (index_faults level) (λ index. let made : Position = record { level = level; index = index } in made)))

pub any_position_faults : (IsBroken : ℕ → FieldError → Type 0) → Faults fields.Short IsBroken any_position_at
unfolding any_position_at
any_position_faults IsBroken = faults_then byte_grammar (byte_faults IsBroken) _ (λ level start. inl (faults_last (number_faults IsBroken 4) (λ index. let made : Position = record { level = level; index = index } in made)))

pub list_faults : {B A E : Type 0} {short : ℕ → E} {IsBroken : ℕ → E → Type 0} (item : B → Reader A E) (after : A → B) (IsValid : B → A → Type 0) (spelling : A → List ℕ) → ((b : B) → IsGrammar (IsValid b) spelling (item b)) → ((b : B) → Faults short IsBroken (item b)) → (n : ℕ) (b : B)
    → Faults short IsBroken (list_at item after n b)
unfolding list_at
list_faults item after IsValid spelling g f zero b = faultless []
list_faults item after IsValid spelling g f (suc n) b = faults_then (g b) (f b) _ (λ a start. inl (faults_last (list_faults item after IsValid spelling g f n (after a)) (λ xs. a ∷ xs)))

rest_faults : (key : List ℕ) → Faults fields.Short IsRule (rest_at key)
unfolding rest_at
rest_faults key = faults_then version_grammar (version_faults IsRule) _ (λ version start. inl (faults_last (run_faults IsRule 16) (λ digest. let made : Entry = record { key = key; version = version; digest = digest } in made)))

next_faults : (low : List ℕ) → Faults fields.Short IsRule (next_at low)
unfolding next_at
next_faults low = faults_then key_grammar key_faults _ (λ key start. or_else _ start (is_above low key) (rest_faults key) (rejects _ start (fields.Rule start) (omega arith) refl))

pub entries_faults : (n : ℕ) → Faults fields.Short IsRule (entries_at n)
entries_faults n = list_faults next_at (λ e. e.key) IsNext _ next_grammar next_faults n []

pub digests_faults : (IsBroken : ℕ → FieldError → Type 0) (n : ℕ) → Faults fields.Short IsBroken (digests_at n)
digests_faults IsBroken n = list_faults {B = Unit {0}} (λ _. run_at 16) (λ _. tt) _ (λ d. d) (λ _. run_grammar 16) (λ _. run_faults IsBroken 16) n tt
