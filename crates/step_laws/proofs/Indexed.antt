-- The index of checks after a change at one key.
use Rattle.std.proofs.Common.{◌≡◌, ◌≤◌, ◌<◌, ◌⊎◌, ◌+◌, ◌∙◌, ap, sym, refl, subst, inl, inr, ℕ, Bool, true, false, cond, List, [], ◌∷◌, Option, Some, None, Ordering, is_eq, arith}
use Rattle.std.proofs.lemmas.Bool.{cases_order, true≢false}
use Rattle.std.proofs.lemmas.Option.{same_Some}
use Rattle.std.specs.BTreeMap.{is_at, insert_entry}
use Rattle.std.specs.Map.{lookup, remove_entry}
use Rattle.std.specs.Ordering.{nat_cmp, match_ordering}
use Rattle.ens_base.specs.Lists.{same_bytes}
use Rattle.ens_base.proofs.Lists.{bytes_same, bytes_itself}
use Rattle.ens_base.proofs.Orders.{cmp_less, cmp_equal, cmp_greater}
use Rattle.call_table.specs.Rows.{Checks, row_at, check_at, with_check, without_check, check_round}
use Rattle.call_table.specs.declared.table.CallTable.{CallTable}
use Rattle.step_laws.specs.Whole.{AreRounds, IsIndexed}

-- ## Looking up a round

at_itself : (r : ℕ) → is_at (nat_cmp r) r ≡ true
at_itself r = ap is_eq (cmp_equal r r refl)

at_above : (r s : ℕ) → r < s → is_at (nat_cmp r) s ≡ false
at_above r s h = ap is_eq (cmp_less r s h)

at_below : (r s : ℕ) → s < r → is_at (nat_cmp r) s ≡ false
at_below r s h = ap is_eq (cmp_greater r s h)

-- a round that is looked up lies between the bounds
in_bounds : (low high r : ℕ) (checks : Checks) (k : List ℕ) → AreRounds low high checks → lookup (is_at (nat_cmp r)) checks ≡ Some k → (low ≤ r) × (r ≤ high)
in_bounds low high r [] k rounds e = absurd cc
in_bounds low high r (c ∷ checks) k rounds e = by_order (cases_order r c.0) (in_bounds (c.0 + 1) high r checks k rounds.2)
  where
    past : is_at (nat_cmp r) c.0 ≡ false → lookup (is_at (nat_cmp r)) checks ≡ Some k
    past off = sym (ap (λ (b : Bool). cond b (Some c.1) (lookup (is_at (nat_cmp r)) checks)) off) ∙ e

    by_order : (r ≡ c.0) ⊎ ((r < c.0) ⊎ (c.0 < r)) → (lookup (is_at (nat_cmp r)) checks ≡ Some k → (c.0 + 1 ≤ r) × (r ≤ high)) → (low ≤ r) × (r ≤ high)
    by_order (inl same) later = (subst (λ (n : ℕ). low ≤ n) (sym same) rounds.0, subst (λ (n : ℕ). n ≤ high) (sym same) rounds.1)
    by_order (inr (inl less)) later = let rest = later (past (at_above r c.0 less)) in (omega (arith, rounds.0, rest.0), rest.1)
    by_order (inr (inr more)) later = let rest = later (past (at_below r c.0 more)) in (omega (arith, rounds.0, rest.0), rest.1)

-- no round below the bounds is found
none_below : (low high r : ℕ) (checks : Checks) → AreRounds low high checks → r < low → lookup (is_at (nat_cmp r)) checks ≡ None
none_below low high r [] rounds h = refl
none_below low high r (c ∷ checks) rounds h =
    ap (λ (b : Bool). cond b (Some c.1) (lookup (is_at (nat_cmp r)) checks)) (at_above r c.0 (omega (arith, h, rounds.0))) ∙ none_below (c.0 + 1) high r checks rounds.2 (omega (arith, h, rounds.0))

lower : (low least high : ℕ) (checks : Checks) → least ≤ low → AreRounds low high checks → AreRounds least high checks
lower low least high [] h rounds = tt
lower low least high (c ∷ checks) h rounds = (omega (arith, h, rounds.0), rounds.1, rounds.2)

-- ## A check begins, in a round after all others

inserted_rounds : (low high r : ℕ) (k : List ℕ) (checks : Checks) → low ≤ r → high < r → AreRounds low high checks → AreRounds low r (insert_entry nat_cmp checks r k)
inserted_rounds low high r k [] h after rounds = (h, omega arith, tt)
inserted_rounds low high r k (c ∷ checks) h after rounds =
    subst (λ (o : Ordering). AreRounds low r (match_ordering o ((r, k) ∷ c ∷ checks) ((c.0, k) ∷ checks) (c ∷ insert_entry nat_cmp checks r k))) (sym (cmp_greater r c.0 (omega (arith, rounds.1, after))))
    (rounds.0, omega (arith, rounds.1, after), inserted_rounds (c.0 + 1) high r k checks (omega (arith, rounds.1, after)) after rounds.2)

inserted_here : (low high r : ℕ) (k : List ℕ) (checks : Checks) → high < r → AreRounds low high checks → lookup (is_at (nat_cmp r)) (insert_entry nat_cmp checks r k) ≡ Some k
inserted_here low high r k [] after rounds = ap (λ (b : Bool). cond b (Some k) None) (at_itself r)
inserted_here low high r k (c ∷ checks) after rounds =
    ap (λ (o : Ordering). lookup (is_at (nat_cmp r)) (match_ordering o ((r, k) ∷ c ∷ checks) ((c.0, k) ∷ checks) (c ∷ insert_entry nat_cmp checks r k))) (cmp_greater r c.0 (omega (arith, rounds.1, after)))
    ∙ ap (λ (b : Bool). cond b (Some c.1) (lookup (is_at (nat_cmp r)) (insert_entry nat_cmp checks r k))) (at_below r c.0 (omega (arith, rounds.1, after)))
    ∙ inserted_here (c.0 + 1) high r k checks after rounds.2

inserted_other : (low high r s : ℕ) (k : List ℕ) (checks : Checks) → high < r → s < r → AreRounds low high checks → lookup (is_at (nat_cmp s)) (insert_entry nat_cmp checks r k) ≡ lookup (is_at (nat_cmp s)) checks
inserted_other low high r s k [] after less rounds = ap (λ (b : Bool). cond b (Some k) None) (at_above s r less)
inserted_other low high r s k (c ∷ checks) after less rounds =
    ap (λ (o : Ordering). lookup (is_at (nat_cmp s)) (match_ordering o ((r, k) ∷ c ∷ checks) ((c.0, k) ∷ checks) (c ∷ insert_entry nat_cmp checks r k))) (cmp_greater r c.0 (omega (arith, rounds.1, after)))
    ∙ ap (λ (o : Option (List ℕ)). cond (is_at (nat_cmp s) c.0) (Some c.1) o) (inserted_other (c.0 + 1) high r s k checks after less rounds.2)

-- ## A check ends

removed_rounds : (low high r : ℕ) (checks : Checks) → AreRounds low high checks → AreRounds low high (remove_entry (is_at (nat_cmp r)) checks)
removed_rounds low high r [] rounds = tt
removed_rounds low high r (c ∷ checks) rounds = by_test (is_at (nat_cmp r) c.0) (removed_rounds (c.0 + 1) high r checks rounds.2)
  where
    by_test : (b : Bool) → AreRounds (c.0 + 1) high (remove_entry (is_at (nat_cmp r)) checks) → AreRounds low high (cond b checks (c ∷ remove_entry (is_at (nat_cmp r)) checks))
    by_test true rest = lower (c.0 + 1) low high checks (omega (arith, rounds.0)) rounds.2
    by_test false rest = (rounds.0, rounds.1, rest)

removed_here : (low high r : ℕ) (checks : Checks) → AreRounds low high checks → lookup (is_at (nat_cmp r)) (remove_entry (is_at (nat_cmp r)) checks) ≡ None
removed_here low high r [] rounds = refl
removed_here low high r (c ∷ checks) rounds = by_order (cases_order r c.0) (removed_here (c.0 + 1) high r checks rounds.2)
  where
    kept : is_at (nat_cmp r) c.0 ≡ false → lookup (is_at (nat_cmp r)) (remove_entry (is_at (nat_cmp r)) checks) ≡ None → lookup (is_at (nat_cmp r)) (remove_entry (is_at (nat_cmp r)) (c ∷ checks)) ≡ None
    kept off rest =
        ap (λ (b : Bool). lookup (is_at (nat_cmp r)) (cond b checks (c ∷ remove_entry (is_at (nat_cmp r)) checks))) off
        ∙ ap (λ (b : Bool). cond b (Some c.1) (lookup (is_at (nat_cmp r)) (remove_entry (is_at (nat_cmp r)) checks))) off ∙ rest

    by_order : (r ≡ c.0) ⊎ ((r < c.0) ⊎ (c.0 < r)) → lookup (is_at (nat_cmp r)) (remove_entry (is_at (nat_cmp r)) checks) ≡ None → lookup (is_at (nat_cmp r)) (remove_entry (is_at (nat_cmp r)) (c ∷ checks)) ≡ None
    by_order (inl same) rest =
        ap (λ (b : Bool). lookup (is_at (nat_cmp r)) (cond b checks (c ∷ remove_entry (is_at (nat_cmp r)) checks))) (ap is_eq (cmp_equal r c.0 same))
        ∙ none_below (c.0 + 1) high r checks rounds.2 (omega (arith, same))
    by_order (inr (inl less)) rest = kept (at_above r c.0 less) rest
    by_order (inr (inr more)) rest = kept (at_below r c.0 more) rest

removed_other : (r s : ℕ) (checks : Checks) → (r ≡ s → ⊥) → lookup (is_at (nat_cmp s)) (remove_entry (is_at (nat_cmp r)) checks) ≡ lookup (is_at (nat_cmp s)) checks
removed_other r s [] apart = refl
removed_other r s (c ∷ checks) apart = by_order (cases_order r c.0) (removed_other r s checks apart)
  where
    kept : is_at (nat_cmp r) c.0 ≡ false → lookup (is_at (nat_cmp s)) (remove_entry (is_at (nat_cmp r)) checks) ≡ lookup (is_at (nat_cmp s)) checks → lookup (is_at (nat_cmp s)) (remove_entry (is_at (nat_cmp r)) (c ∷ checks)) ≡ lookup (is_at (nat_cmp s)) (c ∷ checks)
    kept off rest =
        ap (λ (b : Bool). lookup (is_at (nat_cmp s)) (cond b checks (c ∷ remove_entry (is_at (nat_cmp r)) checks))) off
        ∙ ap (λ (o : Option (List ℕ)). cond (is_at (nat_cmp s) c.0) (Some c.1) o) rest

    apart_at : r ≡ c.0 → is_at (nat_cmp s) c.0 ≡ false
    apart_at same = by_side (cases_order s c.0)
      where
        by_side : (s ≡ c.0) ⊎ ((s < c.0) ⊎ (c.0 < s)) → is_at (nat_cmp s) c.0 ≡ false
        by_side (inl both) = absurd (apart (same ∙ sym both))
        by_side (inr (inl less)) = at_above s c.0 less
        by_side (inr (inr more)) = at_below s c.0 more

    by_order : (r ≡ c.0) ⊎ ((r < c.0) ⊎ (c.0 < r)) → lookup (is_at (nat_cmp s)) (remove_entry (is_at (nat_cmp r)) checks) ≡ lookup (is_at (nat_cmp s)) checks → lookup (is_at (nat_cmp s)) (remove_entry (is_at (nat_cmp r)) (c ∷ checks)) ≡ lookup (is_at (nat_cmp s)) (c ∷ checks)
    by_order (inl same) rest =
        ap (λ (b : Bool). lookup (is_at (nat_cmp s)) (cond b checks (c ∷ remove_entry (is_at (nat_cmp r)) checks))) (ap is_eq (cmp_equal r c.0 same))
        ∙ sym (ap (λ (b : Bool). cond b (Some c.1) (lookup (is_at (nat_cmp s)) checks)) (apart_at same))
    by_order (inr (inl less)) rest = kept (at_above r c.0 less) rest
    by_order (inr (inr more)) rest = kept (at_below r c.0 more) rest

-- ## The index of a table

check_in : (low high r : ℕ) (checks : Checks) (k : List ℕ) → AreRounds low high checks → check_at r checks ≡ Some k → r ≤ high
unfolding check_at
check_in low high r checks k rounds e = (in_bounds low high r checks k rounds e).1

raised : (low high more : ℕ) (checks : Checks) → high ≤ more → AreRounds low high checks → AreRounds low more checks
raised low high more [] h rounds = tt
raised low high more (c ∷ checks) h rounds = (rounds.0, omega (arith, h, rounds.1), raised (c.0 + 1) high more checks h rounds.2)

-- the same checks, and each key as far as before
pub index_stays : (n m : ℕ) (t u : CallTable) → n ≤ m → u.checks ≡ t.checks → ((k : List ℕ) → check_round (row_at k u.rows).stage ≡ check_round (row_at k t.rows).stage) → IsIndexed n t → IsIndexed m u
index_stays n m t u le checks same index = record {
  found = λ k r e. ap (check_at r) checks ∙ index.found k r (sym (same k) ∙ e);
  only = λ k r e. same k ∙ index.only k r (sym (ap (check_at r) checks) ∙ e);
  rounds = subst (λ (cs : Checks). AreRounds 0 m cs) (sym checks) (raised 0 n m t.checks le index.rounds);
}

module _ (key : List ℕ) (t u : CallTable) (n : ℕ) (index : IsIndexed n t) (others : (k : List ℕ) → same_bytes key k ≡ false → check_round (row_at k u.rows).stage ≡ check_round (row_at k t.rows).stage) where
  -- the key begins to check, in a round that had not begun
  pub index_begins : (r0 : ℕ) → n < r0 → check_round (row_at key t.rows).stage ≡ None → check_round (row_at key u.rows).stage ≡ Some r0 → u.checks ≡ with_check r0 key t.checks → IsIndexed r0 u
  unfolding check_at with_check
  index_begins r0 after clear begins checks = record {
    found = λ k r e. ap (check_at r) checks ∙ found k r (same_bytes key k) refl e;
    only = λ k r e. only k r (cases_order r r0) (sym (ap (check_at r) checks) ∙ e);
    rounds = subst (λ (cs : Checks). AreRounds 0 r0 cs) (sym checks) (inserted_rounds 0 n r0 key t.checks (omega arith) after index.rounds);
  }
    where
      found : (k : List ℕ) (r : ℕ) (b : Bool) → same_bytes key k ≡ b → check_round (row_at k u.rows).stage ≡ Some r → check_at r (with_check r0 key t.checks) ≡ Some k
      found k r true on e =
          let same : key ≡ k = bytes_same key k on in
          let round : r0 ≡ r = same_Some r0 r (sym (subst (λ (q : List ℕ). check_round (row_at q u.rows).stage ≡ Some r0) same begins) ∙ e) in
          subst (λ (s : ℕ). check_at s (with_check r0 key t.checks) ≡ Some k) round (inserted_here 0 n r0 key t.checks after index.rounds ∙ ap Some same)
      found k r false off e =
          let before : check_at r t.checks ≡ Some k = index.found k r (sym (others k off) ∙ e) in
          let less : r ≤ n = check_in 0 n r t.checks k index.rounds before in
          inserted_other 0 n r0 r key t.checks after (omega (arith, less, after)) index.rounds ∙ before

      other : (k : List ℕ) (r : ℕ) (b : Bool) → same_bytes key k ≡ b → check_round (row_at k t.rows).stage ≡ Some r → check_round (row_at k u.rows).stage ≡ Some r
      other k r true on e = let none : None ≡ Some r = sym (subst (λ (q : List ℕ). check_round (row_at q t.rows).stage ≡ None) (bytes_same key k on) clear) ∙ e in absurd cc
      other k r false off e = others k off ∙ e

      only : (k : List ℕ) (r : ℕ) → (r ≡ r0) ⊎ ((r < r0) ⊎ (r0 < r)) → check_at r (with_check r0 key t.checks) ≡ Some k → check_round (row_at k u.rows).stage ≡ Some r
      only k r (inl same) e =
          let is : key ≡ k = same_Some key k (sym (inserted_here 0 n r0 key t.checks after index.rounds) ∙ subst (λ (s : ℕ). check_at s (with_check r0 key t.checks) ≡ Some k) same e) in
          subst (λ (q : List ℕ). check_round (row_at q u.rows).stage ≡ Some r) is (begins ∙ ap Some (sym same))
      only k r (inr (inl less)) e = other k r (same_bytes key k) refl (index.only k r (sym (inserted_other 0 n r0 r key t.checks after less index.rounds) ∙ e))
      only k r (inr (inr more)) e =
          let le : r ≤ r0 = check_in 0 r0 r (with_check r0 key t.checks) k (inserted_rounds 0 n r0 key t.checks (omega arith) after index.rounds) e in
          absurd (omega (arith, le, more))

  -- the check of the key ends, if it has one
  pub index_ends : check_round (row_at key u.rows).stage ≡ None → u.checks ≡ without_check (check_round (row_at key t.rows).stage) t.checks → IsIndexed n u
  unfolding check_at without_check
  index_ends rests checks = by_round (check_round (row_at key t.rows).stage) refl checks
    where
      by_round : (o : Option ℕ) → check_round (row_at key t.rows).stage ≡ o → u.checks ≡ without_check o t.checks → IsIndexed n u
      by_round None clear checks = index_stays n n t u (omega arith) checks (λ k. each k (same_bytes key k) refl) index
        where
          each : (k : List ℕ) (b : Bool) → same_bytes key k ≡ b → check_round (row_at k u.rows).stage ≡ check_round (row_at k t.rows).stage
          each k true on = subst (λ (q : List ℕ). check_round (row_at q u.rows).stage ≡ check_round (row_at q t.rows).stage) (bytes_same key k on) (rests ∙ sym clear)
          each k false off = others k off
      by_round (Some r0) held checks = record {
        found = λ k r e. ap (check_at r) checks ∙ found k r (same_bytes key k) refl e;
        only = λ k r e. only k r (cases_order r r0) (sym (ap (check_at r) checks) ∙ e);
        rounds = subst (λ (cs : Checks). AreRounds 0 n cs) (sym checks) (removed_rounds 0 n r0 t.checks index.rounds);
      }
        where
          found : (k : List ℕ) (r : ℕ) (b : Bool) → same_bytes key k ≡ b → check_round (row_at k u.rows).stage ≡ Some r → check_at r (without_check (Some r0) t.checks) ≡ Some k
          found k r true on e = let none : None ≡ Some r = sym (subst (λ (q : List ℕ). check_round (row_at q u.rows).stage ≡ None) (bytes_same key k on) rests) ∙ e in absurd cc
          found k r false off e =
              let before : check_at r t.checks ≡ Some k = index.found k r (sym (others k off) ∙ e) in
              removed_other r0 r t.checks (λ same. apart k off (same_Some key k (sym (index.found key r0 held) ∙ subst (λ (s : ℕ). check_at s t.checks ≡ Some k) (sym same) before))) ∙ before
            where
              apart : (k : List ℕ) → same_bytes key k ≡ false → key ≡ k → ⊥
              apart k off same = true≢false (sym (bytes_itself key) ∙ ap (same_bytes key) same ∙ off)

          other : (k : List ℕ) (r : ℕ) (b : Bool) → same_bytes key k ≡ b → (r ≡ r0 → ⊥) → check_round (row_at k t.rows).stage ≡ Some r → check_round (row_at k u.rows).stage ≡ Some r
          other k r true on apart e = absurd (apart (same_Some r r0 (sym e ∙ subst (λ (q : List ℕ). check_round (row_at q t.rows).stage ≡ Some r0) (bytes_same key k on) held)))
          other k r false off apart e = others k off ∙ e

          left : (k : List ℕ) (r : ℕ) → (r0 ≡ r → ⊥) → check_at r (without_check (Some r0) t.checks) ≡ Some k → check_round (row_at k u.rows).stage ≡ Some r
          left k r apart e = other k r (same_bytes key k) refl (λ same. apart (sym same)) (index.only k r (sym (removed_other r0 r t.checks apart) ∙ e))

          only : (k : List ℕ) (r : ℕ) → (r ≡ r0) ⊎ ((r < r0) ⊎ (r0 < r)) → check_at r (without_check (Some r0) t.checks) ≡ Some k → check_round (row_at k u.rows).stage ≡ Some r
          only k r (inl same) e =
              let none : None ≡ Some k = sym (removed_here 0 n r0 t.checks index.rounds) ∙ subst (λ (s : ℕ). check_at s (without_check (Some r0) t.checks) ≡ Some k) same e in
              absurd cc
          only k r (inr (inl less)) e = left k r (λ same. omega (arith, less, same)) e
          only k r (inr (inr more)) e = left k r (λ same. omega (arith, more, same)) e
