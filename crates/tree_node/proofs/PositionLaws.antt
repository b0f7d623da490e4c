-- The grammars of positions.
use Rattle.std.proofs.Common.{◌≡◌, ℕ, zero, suc, ◌^◌, ◌<◌, ◌≤◌, Bool, true, false, eqb, ◌&&◌, [], ◌∷◌, refl, sym, ap, subst, arith, eq-eqb}
use Rattle.std.specs.Prelude.{nat_le, nat_lt}
use Rattle.std.proofs.lemmas.Bool.{ltb-true, lt-ltb, eqb-true}
use Rattle.std.proofs.lemmas.Bool.Decides.{nat_tests}
use Rattle.byteorder.specs.Endian.{big_bytes}
use Rattle.fields.specs.declared.field_error.FieldError.TheVariants.{Rule}
use Rattle.fields.specs.Grammar.{IsGrammar}
use Rattle.fields.proofs.GrammarLaws.{valid_as, field_then, field_last, checked}
use Rattle.fields.proofs.NumberLaws.{byte_grammar, u32_grammar}
use Rattle.tree_node.specs.declared.position.Position.{Position}
use Rattle.tree_node.specs.declared.version.TreeVersion.{TreeVersion}
use Rattle.tree_node.specs.TreeVersions.{levels}
use Rattle.tree_node.proofs.TreeVersionLaws.{levels_few}
use Rattle.tree_node.specs.Positions.{IsPosition, position_spelling, level_at, index_at, position_at, any_position_at, same_position}

from_le : (n m : ℕ) → nat_le n m ≡ true → n ≤ m
from_le n m h = grind (arith, nat_tests)

to_le : (n m : ℕ) → n ≤ m → nat_le n m ≡ true
to_le n m h = grind (arith, nat_tests)

pub level_grammar : (v : TreeVersion) → IsGrammar (λ n. n ≤ levels v) (λ n. n ∷ []) (level_at v)
unfolding level_at
level_grammar v = valid_as (λ n h. from_le n (levels v) h.1) (λ n h. (omega (arith, h, levels_few v), to_le n (levels v) h)) (checked (λ n. nat_le n (levels v)) (λ at. Rule at) byte_grammar)

width_fits : (level index : ℕ) → level ≤ 5 → index < 16 ^ level → index < 2 ^ 32
width_fits level index le lt = by level le lt
  where
    by : (l : ℕ) → l ≤ 5 → index < 16 ^ l → index < 2 ^ 32
    by zero le lt = omega arith
    by (suc zero) le lt = omega arith
    by (suc (suc zero)) le lt = omega arith
    by (suc (suc (suc zero))) le lt = omega arith
    by (suc (suc (suc (suc zero)))) le lt = omega arith
    by (suc (suc (suc (suc (suc zero))))) le lt = omega arith
    by (suc (suc (suc (suc (suc (suc l)))))) le lt = absurd (omega arith)

index_grammar : (level : ℕ) → level ≤ 5 → IsGrammar (λ n. n < 16 ^ level) (big_bytes 4) (index_at level)
unfolding index_at
index_grammar level le = valid_as (λ n h. ltb-true _ _ h.1) (λ n h. (width_fits level n le h, lt-ltb _ _ h)) (checked (λ n. nat_lt n (16 ^ level)) (λ at. Rule at) u32_grammar)

pub position_grammar : (v : TreeVersion) → IsGrammar (IsPosition v) position_spelling (position_at v)
unfolding position_at
position_grammar v =
    let parts : IsGrammar (λ (p : Position). Unit {0} × ((p.level ≤ levels v) × (p.index < 16 ^ p.level))) position_spelling (position_at v) =
    field_then (level_grammar v) (λ (p : Position). p.level) _
    (λ level _ le. valid_as
    (λ p h. (h.0, subst (λ (l : ℕ). p.index < 16 ^ l) (sym h.0.1) h.1))
    (λ p h. (h.0, subst (λ (l : ℕ). p.index < 16 ^ l) h.0.1 h.1))
    (field_last (index_grammar level (omega (arith, le, levels_few v))) (λ (p : Position). p.index) (λ index. record { level = level; index = index }) {P = λ p. Unit {0} × (p.level ≡ level)} (λ _. refl) (λ _. (tt, refl)) (λ p h. ap (λ (l : ℕ). record { level = l; index = p.index }) (sym h.1)))) in
    valid_as (λ p h. record { level = h.1.0; index = h.1.1 }) (λ p h. (tt, (h.level, h.index))) parts

pub any_grammar : IsGrammar (λ (p : Position). (p.level < 256) × (p.index < 2 ^ 32)) position_spelling any_position_at
unfolding any_position_at
any_grammar =
    let parts : IsGrammar (λ (p : Position). Unit {0} × ((p.level < 256) × (p.index < 2 ^ 32))) position_spelling any_position_at =
    field_then byte_grammar (λ (p : Position). p.level) _
    (λ level _ _. field_last u32_grammar (λ (p : Position). p.index) (λ index. record { level = level; index = index }) (λ _. refl) (λ _. (tt, refl)) (λ p h. ap (λ (l : ℕ). record { level = l; index = p.index }) (sym h.1))) in
    valid_as (λ p h. h.1) (λ p h. (tt, h)) parts

pub position_fits : (v : TreeVersion) (p : Position) → IsPosition v p → (p.level < 256) × (p.index < 2 ^ 32)
position_fits v p h = (omega (arith, h.level, levels_few v), width_fits p.level p.index (omega (arith, h.level, levels_few v)) h.index)

pub from_same : (a b : Position) → same_position a b ≡ true → a ≡ b
from_same a b h = let parts = both (eqb a.level b.level) (eqb a.index b.index) h in let l = eqb-true _ _ parts.0 in let n = eqb-true _ _ parts.1 in λ i. record { level = l i; index = n i }
  where
    both : (x y : Bool) → x && y ≡ true → (x ≡ true) × (y ≡ true)
    both true true e = (refl, refl)
    both true false e = (refl, e)
    both false y e = (e, absurd cc)

pub to_same : (a b : Position) → a ≡ b → same_position a b ≡ true
to_same a b e = subst (λ (p : Position). same_position a p ≡ true) e (rw (eq-eqb a.level a.level refl, eq-eqb a.index a.index refl) refl)
