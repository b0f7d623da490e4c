-- What a scan says of every map that stands under the top record.
use Rattle.std.proofs.Common.{◌≡◌, ℕ, zero, suc, ◌+◌, ◌*◌, ◌/◌, ◌%◌, ◌<◌, ◌≤◌, Bool, true, false, cond, List, [], ◌∷◌, ◌++◌, Option, None, Some, Result, Ok, Err, IfOk, length, refl, ap, sym, ◌∙◌, subst, arith, inl, inr}
use Rattle.ens_base.proofs.Lists.{bytes_same}
use Rattle.std.specs.Prelude.{filter, not, ◌==◌, ◌&&◌, ◌||◌, nat_le, nat_lt}
use Rattle.std.specs.Option.{is_some}
use Rattle.std.proofs.lemmas.Bool.Decides.{nat_tests}
use Rattle.std.proofs.Math.Nat.{mod-eq_of_lt, div-eq_of_lt, mul-add-div, mul-add-mod_self_left}
use Rattle.md5.specs.Md5.{md5}
use Rattle.ens_base.specs.declared.entry.Entry.{Entry}
use Rattle.ens_base.specs.Lists.{◌∈◌, same_bytes, bytes_cmp}
use Rattle.std.specs.declared.cmp.Ordering.TheVariants.{Less}
use Rattle.tree_node.specs.declared.body.Scan.{Scan}
use Rattle.tree_node.specs.declared.position.Position.{Position}
use Rattle.synctree.specs.Entries.{IsBelowAll, Ascends, IsMap}
use Rattle.synctree.specs.Forms.{Form, Laws, IsPlace, child, root}
use Rattle.synctree.specs.Maps.{each_of, within, named, text, children, AreApart, Stands}
use Rattle.synctree.specs.Paths.{passes, under}
use Rattle.synctree.proofs.Below.{IsThere, there_if_some, place as position, every, under_child, under_map, node_below, some_width}
use Rattle.synctree.proofs.Orders.{cmp_back}
use Rattle.synctree.proofs.Unique.{some_once, has_entries, root_is_node, root_place, child_place, children_again}
use Rattle.synctree.specs.declared.error.TreeError.{TreeError}
use Rattle.synctree.specs.Plans.{Call, AnswerOf, Plan, Done, ◌>>=◌, Ends, Did}
use Rattle.synctree.proofs.Meaning.{ok_once, apart_left, apart_right, parted}
use Rattle.tree_repair.specs.declared.slot.Slot.{Slot}
use Rattle.tree_repair.specs.Levels.{for_each, read_named, read_all, hash_all, read_level, verified, slot, child_slots, slots_below, next_level, entries_of, damage_of, entries_in, damage_in, found, scan_from, scan_plan}
use Rattle.tree_repair.specs.Sorted.{place, sorted}
use Rattle.tree_repair.specs.Scans.{lost, Scans}

-- ## Lists

pub in_filter : (q : Entry → Bool) (e : Entry) (m : List Entry) → e ∈ m → q e ≡ true → e ∈ filter q m
in_filter q e [] i h = absurd i
in_filter q e (x ∷ m) (inl is) h = let here : q x ≡ true = subst (λ (y : Entry). q y ≡ true) is h in subst (λ ys. e ∈ ys) (sym (ap (λ (t : Bool). cond t (x ∷ filter q m) (filter q m)) here)) (inl is)
in_filter q e (x ∷ m) (inr i) h = by (q x) (in_filter q e m i h)
  where
    by : (t : Bool) → e ∈ filter q m → e ∈ cond t (x ∷ filter q m) (filter q m)
    by true r = inr r
    by false r = r

filter_agree : (p q : Entry → Bool) (m : List Entry) → ((e : Entry) → e ∈ m → p e ≡ q e) → filter p m ≡ filter q m
filter_agree p q [] h = refl
filter_agree p q (x ∷ m) h = ap (λ (t : Bool). cond t (x ∷ filter p m) (filter p m)) (h x (inl refl)) ∙ ap (λ ys. cond (q x) (x ∷ ys) ys) (filter_agree p q m (λ e i. h e (inr i)))

below_filter : (q : Entry → Bool) (k : List ℕ) (m : List Entry) → IsBelowAll k m → IsBelowAll k (filter q m)
below_filter q k [] a = tt
below_filter q k (x ∷ m) a = by (q x) (below_filter q k m a.1)
  where
    by : (t : Bool) → IsBelowAll k (filter q m) → IsBelowAll k (cond t (x ∷ filter q m) (filter q m))
    by true r = (a.0, r)
    by false r = r

abbrev places : List Entry → List Entry → List Entry
places [] zs = zs
places (e ∷ es) zs = place e (places es zs)

sorted_append : (es zs : List Entry) → sorted (es ++ zs) ≡ places es (sorted zs)
sorted_append [] zs = refl
sorted_append (e ∷ es) zs = ap (place e) (sorted_append es zs)

place_prefix : (x : Entry) (zs : List Entry) → IsBelowAll x.key zs → place x zs ≡ x ∷ zs
place_prefix x [] a = refl
place_prefix x (z ∷ zs) a = rw a.0 refl

place_after : (e x : Entry) (zs : List Entry) → bytes_cmp x.key e.key ≡ Less → place e (x ∷ zs) ≡ x ∷ place e zs
place_after e x zs l = rw (cmp_back e.key x.key) (rw l refl)

places_after : (x : Entry) (es zs : List Entry) → IsBelowAll x.key es → places es (x ∷ zs) ≡ x ∷ places es zs
places_after x [] zs a = refl
places_after x (e ∷ es) zs a = ap (place e) (places_after x es zs a.1) ∙ place_after e x (places es zs) a.0

-- two parts of a map that share no entry
merged : (q r : Entry → Bool) (m : List Entry) → Ascends m → ((e : Entry) → e ∈ m → q e ≡ true → r e ≡ false) → places (filter q m) (filter r m) ≡ filter (λ e. q e || r e) m
merged q r [] a apart = refl
merged q r (x ∷ m) a apart = by (q x) (r x) refl refl (merged q r m a.1 (λ e i. apart e (inr i)))
  where
    by : (t u : Bool) → q x ≡ t → r x ≡ u → places (filter q m) (filter r m) ≡ filter (λ e. q e || r e) m → places (filter q (x ∷ m)) (filter r (x ∷ m)) ≡ filter (λ e. q e || r e) (x ∷ m)
    by true true eq er rest = let no : true ≡ false = sym er ∙ apart x (inl refl) eq in absurd cc
    by true false eq er rest = rw (eq, er) (ap (place x) rest ∙ place_prefix x (filter (λ e. q e || r e) m) (below_filter (λ e. q e || r e) x.key m a.0))
    by false true eq er rest = rw (eq, er) (places_after x (filter q m) (filter r m) (below_filter q x.key m a.0) ∙ ap (λ ys. x ∷ ys) rest)
    by false false eq er rest = rw (eq, er) rest

-- ## The strings of a level

abbrev strings_of : List (Option (List ℕ)) → List (List ℕ)
strings_of [] = []
strings_of (None ∷ rs) = strings_of rs
strings_of (Some b ∷ rs) = b ∷ strings_of rs

module _ {S : Type 0} (does : S → (call : Call) → AnswerOf call → S → Type 0) where
  hash_strings : (rs : List (Option (List ℕ))) (s t : S) (xs : List (List ℕ)) (v : Unit {0}) → Ends does (hash_all rs) s xs (Ok v) t → xs ≡ strings_of rs
  hash_strings [] s t xs v (e, is, same) = e
  hash_strings (None ∷ rs) s t xs v h = hash_strings rs s t xs v h
  hash_strings (Some b ∷ rs) s t xs v (a, u, rest, d, e, h) = e ∙ ap (λ ys. b ∷ ys) (hash_strings rs u t rest v h)

  count_each : {A B : Type 0} (p : A → Plan B) (xs : List A) (s t : S) (strs : List (List ℕ)) (ys : List B) → Ends does (for_each p xs) s strs (Ok ys) t → length ys ≡ length xs
  count_each p [] s t strs ys (e, is, same) = ap length (ok_once ys [] is)
  count_each p (x ∷ xs) s t strs ys ends =
      let r = parted does (p x) (λ y. for_each p xs >>= (λ zs. Done (y ∷ zs))) s t strs ys ends in
      let q = parted does (for_each p xs) (λ zs. Done (r.value ∷ zs)) r.between t r.second ys r.went_on in
      ap length (ok_once ys (r.value ∷ q.value) q.went_on.1) ∙ ap suc (count_each p xs r.between q.between q.first q.value q.came)

  pub level_count : (xs : List Slot) (s t : S) (strs : List (List ℕ)) (rs : List (Option (List ℕ))) → Ends does (read_level xs) s strs (Ok rs) t → length rs ≡ length xs
  level_count xs s t strs rs ends =
      let r = parted does (read_all xs) (λ reads. hash_all reads >>= (λ _. Done reads)) s t strs rs ends in
      let q = parted does (hash_all r.value) (λ _. Done r.value) r.between t r.second rs r.went_on in
      ap length (ok_once rs r.value q.went_on.1) ∙ count_each (λ (x : Slot). read_named x.digest) xs s r.between r.first r.value r.came

  level_apart : (F : Form) (m : List Entry) (xs : List Slot) (s t : S) (strs : List (List ℕ)) (rs : List (Option (List ℕ))) → AreApart strs F F.depth root m → Ends does (read_level xs) s strs (Ok rs) t → AreApart (strings_of rs) F F.depth root m
  level_apart F m xs s t strs rs apart ends =
      let r = parted does (read_all xs) (λ reads. hash_all reads >>= (λ _. Done reads)) s t strs rs ends in
      let q = parted does (hash_all r.value) (λ _. Done r.value) r.between t r.second rs r.went_on in
      let second : AreApart r.second F F.depth root m = apart_right F F.depth root m r.first r.second (subst (λ zs. AreApart zs F F.depth root m) r.strings apart) in
      let first : AreApart q.first F F.depth root m = apart_left F F.depth root m q.first q.second (subst (λ zs. AreApart zs F F.depth root m) q.strings second) in
      subst (λ zs. AreApart (strings_of zs) F F.depth root m) (sym (ok_once rs r.value q.went_on.1)) (subst (λ zs. AreApart zs F F.depth root m) (hash_strings r.value r.between q.between q.first q.value q.came) first)

-- ## How often the path of a key goes through a level

-- one if it is so
abbrev one_if : Bool → ℕ
one_if b = cond b 1 0

abbrev hit : Form → List ℕ → Position → ℕ
hit F key at = one_if (passes F key at.level at.index)

abbrev hits : Form → List ℕ → List Slot → ℕ
hits F key [] = 0
hits F key (x ∷ xs) = hit F key x.at + hits F key xs

hits_append : (F : Form) (key : List ℕ) (xs ys : List Slot) → hits F key (xs ++ ys) ≡ hits F key xs + hits F key ys
hits_append F key [] ys = let zeros : hits F key ys ≡ 0 + hits F key ys = omega arith in zeros
hits_append F key (x ∷ xs) ys = let more : hit F key x.at + (hits F key xs + hits F key ys) ≡ hit F key x.at + hits F key xs + hits F key ys = omega arith in ap (λ (n : ℕ). hit F key x.at + n) (hits_append F key xs ys) ∙ more

count_none : (p : Bool) (i d n : ℕ) → (p ≡ true → d ≡ i → ⊥) → one_if (p && (nat_le (i + 1) d && nat_lt d (i + 1 + n))) ≡ one_if (p && (nat_le i d && nat_lt d (i + suc n)))
count_none false i d n h = refl
count_none true i d n h = let no : d ≡ i → ⊥ = h refl in grind (arith, nat_tests, no)

count_some : (p : Bool) (i d n : ℕ) → one_if (p && d == i) + one_if (p && (nat_le (i + 1) d && nat_lt d (i + 1 + n))) ≡ one_if (p && (nat_le i d && nat_lt d (i + suc n)))
count_some false i d n = refl
count_some true i d n = grind (arith, nat_tests)

pub named_some : (l : List Entry) (t d : List ℕ) → named l t ≡ Some d → d ≡ md5 t
named_some [] t d e = absurd cc
named_some (x ∷ l) t d e = cc

named_none : (l : List Entry) (t : List ℕ) → named l t ≡ None → l ≡ []
named_none [] t e = refl
named_none (x ∷ l) t e = absurd cc

module _ (F : Form) (laws : Laws F) (m : List Entry) where
  abbrev NamesOne : ℕ → Position → Option (List ℕ) → Type 0
  NamesOne h at None = Unit {0}
  NamesOne h at (Some d) = IsPlace F h at × IsThere at.level (under F at m) × (d ≡ md5 (text F h at (under F at m)))

  abbrev Names : ℕ → List Slot → Type 0
  Names h [] = Unit {0}
  Names h (x ∷ xs) = NamesOne h x.at x.digest × Names h xs

  names_append : (h : ℕ) (xs ys : List Slot) → Names h xs → Names h ys → Names h (xs ++ ys)
  names_append h [] ys a b = b
  names_append h (x ∷ xs) ys a b = (a.0, names_append h xs ys a.1 b)

  quotient : (i c : ℕ) → c < F.width → (F.width * i + c) / F.width ≡ i
  quotient i c l = let zeros : i + 0 ≡ i = omega arith in mul-add-div (some_width F laws) i c ∙ ap (λ (n : ℕ). i + n) (div-eq_of_lt l) ∙ zeros

  remainder : (i c : ℕ) → c < F.width → (F.width * i + c) % F.width ≡ c
  remainder i c l = mul-add-mod_self_left F.width i c ∙ mod-eq_of_lt l

  child_under : (at : Position) (c : ℕ) → c < F.width → within F at c (under F at m) ≡ under F (child F at c) m
  child_under at c l = sym (
      ap (λ (n : ℕ). under F (position n (F.width * at.index + c)) m) next
      ∙ under_child F at.level (F.width * at.index + c) m
      ∙ ap (λ (q : ℕ). within F (position at.level q) ((F.width * at.index + c) % F.width) (under F (position at.level q) m)) (quotient at.index c l)
      ∙ ap (λ (r : ℕ). within F at r (under F at m)) (remainder at.index c l))
    where
      next : at.level + 1 ≡ suc at.level
      next = omega arith

  child_passes : (key : List ℕ) (at : Position) (c : ℕ) → c < F.width → passes F key (at.level + 1) (F.width * at.index + c) ≡ (passes F key at.level at.index && F.digit key at.level == c)
  child_passes key at c l =
      ap (λ (n : ℕ). passes F key n (F.width * at.index + c)) next
      ∙ ap (λ (q : ℕ). passes F key at.level q && F.digit key at.level == (F.width * at.index + c) % F.width) (quotient at.index c l)
      ∙ ap (λ (r : ℕ). passes F key at.level at.index && F.digit key at.level == r) (remainder at.index c l)
    where
      next : at.level + 1 ≡ suc at.level
      next = omega arith

  child_names : (h : ℕ) (at : Position) (n i : ℕ) → IsPlace F (suc h) at → i + n ≤ F.width → Names h (child_slots F at i (each_of (λ c. named (within F at c (under F at m)) (text F h (child F at c) (within F at c (under F at m)))) n i))
  child_names h at zero i p few = tt
  child_names h at (suc n) i p few = by (named (within F at i (under F at m)) (text F h (child F at i) (within F at i (under F at m)))) refl (child_names h at n (i + 1) p (omega (arith, few)))
    where
      by : (o : Option (List ℕ)) → named (within F at i (under F at m)) (text F h (child F at i) (within F at i (under F at m))) ≡ o
          → Names h (child_slots F at (i + 1) (each_of (λ c. named (within F at c (under F at m)) (text F h (child F at c) (within F at c (under F at m)))) n (i + 1)))
          → Names h (child_slots F at i (o ∷ each_of (λ c. named (within F at c (under F at m)) (text F h (child F at c) (within F at c (under F at m)))) n (i + 1)))
      by None e rest = rest
      by (Some d) e rest = (
        (
          child_place F h at i (omega (arith, few)) p,
          there_if_some (at.level + 1) (under F (child F at i) m) (λ none. has_entries (within F at i (under F at m)) (text F h (child F at i) (within F at i (under F at m))) d e (child_under at i (omega (arith, few)) ∙ none)),
          named_some (within F at i (under F at m)) (text F h (child F at i) (within F at i (under F at m))) d e ∙ ap (λ (es : List Entry). md5 (text F h (child F at i) es)) (child_under at i (omega (arith, few))),
        ),
        rest,
      )

  child_hits : (h : ℕ) (at : Position) (e : Entry) → e ∈ m → (n i : ℕ) → i + n ≤ F.width
      → hits F e.key (child_slots F at i (each_of (λ c. named (within F at c (under F at m)) (text F h (child F at c) (within F at c (under F at m)))) n i))
      ≡ one_if (passes F e.key at.level at.index && (nat_le i (F.digit e.key at.level) && nat_lt (F.digit e.key at.level) (i + n)))
  child_hits h at e inside zero i few = none (passes F e.key at.level at.index) i (F.digit e.key at.level)
    where
      none : (p : Bool) (i d : ℕ) → 0 ≡ one_if (p && (nat_le i d && nat_lt d (i + 0)))
      none false i d = refl
      none true i d = grind (arith, nat_tests)
  child_hits h at e inside (suc n) i few = by (named (within F at i (under F at m)) (text F h (child F at i) (within F at i (under F at m)))) refl (child_hits h at e inside n (i + 1) (omega (arith, few)))
    where
      there : passes F e.key at.level at.index ≡ true → F.digit e.key at.level ≡ i → e ∈ within F at i (under F at m)
      there p d = in_filter (λ x. F.digit x.key at.level == i) e (under F at m) (in_filter (λ x. passes F x.key at.level at.index) e m inside p) (grind (arith, nat_tests, d))

      by : (o : Option (List ℕ)) → named (within F at i (under F at m)) (text F h (child F at i) (within F at i (under F at m))) ≡ o
          → hits F e.key (child_slots F at (i + 1) (each_of (λ c. named (within F at c (under F at m)) (text F h (child F at c) (within F at c (under F at m)))) n (i + 1)))
          ≡ one_if (passes F e.key at.level at.index && (nat_le (i + 1) (F.digit e.key at.level) && nat_lt (F.digit e.key at.level) (i + 1 + n)))
          → hits F e.key (child_slots F at i (o ∷ each_of (λ c. named (within F at c (under F at m)) (text F h (child F at c) (within F at c (under F at m)))) n (i + 1)))
          ≡ one_if (passes F e.key at.level at.index && (nat_le i (F.digit e.key at.level) && nat_lt (F.digit e.key at.level) (i + suc n)))
      by None none rest = rest ∙ count_none (passes F e.key at.level at.index) i (F.digit e.key at.level) n
          (λ p d. subst (λ ys. e ∈ ys) (named_none (within F at i (under F at m)) (text F h (child F at i) (within F at i (under F at m))) none) (there p d))
      by (Some d) some rest =
          ap (λ (t : Bool). one_if t + hits F e.key (child_slots F at (i + 1) (each_of (λ c. named (within F at c (under F at m)) (text F h (child F at c) (within F at c (under F at m)))) n (i + 1)))) (child_passes e.key at i (omega (arith, few)))
          ∙ ap (λ (k : ℕ). one_if (passes F e.key at.level at.index && F.digit e.key at.level == i) + k) rest
          ∙ count_some (passes F e.key at.level at.index) i (F.digit e.key at.level) n

  all_hits : (h : ℕ) (at : Position) (e : Entry) → e ∈ m → hits F e.key (child_slots F at 0 (children F h at (under F at m))) ≡ hit F e.key at
  all_hits h at e inside = child_hits h at e inside F.width 0 (omega arith) ∙ whole (passes F e.key at.level at.index) (F.digit e.key at.level) (laws.in_width e.key at.level)
    where
      whole : (p : Bool) (d : ℕ) → d < F.width → one_if (p && (nat_le 0 d && nat_lt d (0 + F.width))) ≡ one_if p
      whole false d l = refl
      whole true d l = grind (arith, nat_tests, l)

  -- ## Nodes that verify are those of the map

  opened_text : (h : ℕ) (at : Position) {A : Type 0} (node_at : List ℕ → Option A) (named_by read : Option (List ℕ)) (node : A) → NamesOne h at named_by → AreApart (strings_of (read ∷ [])) F F.depth root m → verified node_at named_by read ≡ Some node
      → IsPlace F h at × (node_at (text F h at (under F at m)) ≡ Some node)
  opened_text h at node_at None read node n apart e = absurd cc
  opened_text h at node_at (Some d) None node n apart e = absurd cc
  opened_text h at node_at (Some d) (Some b) node n apart e = (n.0, by (same_bytes (md5 b) d) refl e)
    where
      by : (t : Bool) → same_bytes (md5 b) d ≡ t → cond t (node_at b) None ≡ Some node → node_at (text F h at (under F at m)) ≡ Some node
      by true is e = ap node_at (sym (apart b (text F h at (under F at m)) (inl refl) (node_below F laws h at.level at.index m (text F h at (under F at m)) n.0 n.1 (root_is_node F h at (under F at m))) (bytes_same (md5 b) d is ∙ n.2))) ∙ e
      by false is e = absurd cc

  names_are : (h : ℕ) (at : Position) (named_by read : Option (List ℕ)) (names : List (Option (List ℕ))) → NamesOne (suc h) at named_by → AreApart (strings_of (read ∷ [])) F F.depth root m → verified (F.inner_at at) named_by read ≡ Some names
      → IsPlace F (suc h) at × (names ≡ children F h at (under F at m))
  names_are h at named_by read names n apart e =
      let o = opened_text (suc h) at (F.inner_at at) named_by read names n apart e in
      (o.0, some_once (F.inner_at at (F.inner_text at (children F h at (under F at m)))) names (children F h at (under F at m)) o.1 (children_again F laws h at (under F at m) o.0))

  entries_are : (ok : IsMap m) (at : Position) (named_by read : Option (List ℕ)) (es : List Entry) → NamesOne 0 at named_by → AreApart (strings_of (read ∷ [])) F F.depth root m → verified (F.segment_at at) named_by read ≡ Some es → es ≡ under F at m
  entries_are ok at named_by read es n apart e =
      let o = opened_text 0 at (F.segment_at at) named_by read es n apart e in
      some_once (F.segment_at at (F.segment_text at (under F at m))) es (under F at m) o.1 (laws.segment_again 0 at (under F at m) o.0 (under_map F at m ok))

  first_apart : (r : Option (List ℕ)) (rs : List (Option (List ℕ))) → AreApart (strings_of (r ∷ rs)) F F.depth root m → AreApart (strings_of (r ∷ [])) F F.depth root m
  first_apart None rs a s t i n = absurd i
  first_apart (Some b) rs a s t (inl is) n = a s t (inl is) n
  first_apart (Some b) rs a s t (inr i) n = absurd i

  rest_apart : (r : Option (List ℕ)) (rs : List (Option (List ℕ))) → AreApart (strings_of (r ∷ rs)) F F.depth root m → AreApart (strings_of rs) F F.depth root m
  rest_apart None rs a s t i n = a s t i n
  rest_apart (Some b) rs a s t i n = a s t (inr i) n

  -- ## From one level to the next

  slot_names : (h : ℕ) (at : Position) (named_by read : Option (List ℕ)) (o : Option (List (Option (List ℕ)))) → NamesOne (suc h) at named_by → AreApart (strings_of (read ∷ [])) F F.depth root m → verified (F.inner_at at) named_by read ≡ o → Names h (slots_below F at o)
  slot_names h at named_by read None n apart e = (tt, tt)
  slot_names h at named_by read (Some names) n apart e =
      let o = names_are h at named_by read names n apart e in
      subst (λ cs. Names h (child_slots F at 0 cs)) (sym o.1) (child_names h at F.width 0 o.0 (omega arith))

  slot_hits : (h : ℕ) (e : Entry) (at : Position) (named_by read : Option (List ℕ)) (o : Option (List (Option (List ℕ)))) → e ∈ m → NamesOne (suc h) at named_by → AreApart (strings_of (read ∷ [])) F F.depth root m → verified (F.inner_at at) named_by read ≡ o → hits F e.key (slots_below F at o) ≡ hit F e.key at
  slot_hits h e at named_by read None inside n apart is = let zeros : hit F e.key at + 0 ≡ hit F e.key at = omega arith in zeros
  slot_hits h e at named_by read (Some names) inside n apart is = ap (λ cs. hits F e.key (child_slots F at 0 cs)) (names_are h at named_by read names n apart is).1 ∙ all_hits h at e inside

  level_names : (h : ℕ) (xs : List Slot) (rs : List (Option (List ℕ))) → Names (suc h) xs → AreApart (strings_of rs) F F.depth root m → Names h (next_level F xs rs)
  level_names h [] rs n apart = tt
  level_names h (x ∷ xs) [] n apart = tt
  level_names h (x ∷ xs) (r ∷ rs) n apart = names_append h (slots_below F x.at (verified (F.inner_at x.at) x.digest r)) (next_level F xs rs)
      (slot_names h x.at x.digest r (verified (F.inner_at x.at) x.digest r) n.0 (first_apart r rs apart) refl) (level_names h xs rs n.1 (rest_apart r rs apart))

  level_hits : (h : ℕ) (e : Entry) (xs : List Slot) (rs : List (Option (List ℕ))) → e ∈ m → length rs ≡ length xs → Names (suc h) xs → AreApart (strings_of rs) F F.depth root m → hits F e.key (next_level F xs rs) ≡ hits F e.key xs
  level_hits h e [] rs inside l n apart = refl
  level_hits h e (x ∷ xs) [] inside l n apart = absurd (omega arith)
  level_hits h e (x ∷ xs) (r ∷ rs) inside l n apart =
      hits_append F e.key (slots_below F x.at (verified (F.inner_at x.at) x.digest r)) (next_level F xs rs)
      ∙ ap (λ (k : ℕ). k + hits F e.key (next_level F xs rs)) (slot_hits h e x.at x.digest r (verified (F.inner_at x.at) x.digest r) inside n.0 (first_apart r rs apart) refl)
      ∙ ap (λ (k : ℕ). hit F e.key x.at + k) (level_hits h e xs rs inside (omega (arith, l)) n.1 (rest_apart r rs apart))

  -- ## The lowest level

  abbrev held : List Slot → List (Option (List ℕ)) → List ℕ → Bool
  held [] rs key = false
  held (x ∷ xs) [] key = false
  held (x ∷ xs) (r ∷ rs) key = (is_some (verified (F.segment_at x.at) x.digest r) && passes F key x.at.level x.at.index) || held xs rs key

  lost_once : (at : Position) (o : Option (List Entry)) (ps : List Position) (key : List ℕ) → lost F (damage_of at o ++ ps) key ≡ ((not (is_some o) && passes F key at.level at.index) || lost F ps key)
  lost_once at None ps key = refl
  lost_once at (Some es) ps key = refl

  none_hit : (key : List ℕ) (xs : List Slot) (rs : List (Option (List ℕ))) → hits F key xs ≡ 0 → (held xs rs key ≡ false) × (lost F (damage_in F xs rs) key ≡ false)
  none_hit key [] rs z = (refl, refl)
  none_hit key (x ∷ xs) [] z = (refl, refl)
  none_hit key (x ∷ xs) (r ∷ rs) z = by (is_some (verified (F.segment_at x.at) x.digest r)) (passes F key x.at.level x.at.index) refl refl z (λ k. none_hit key xs rs k)
    where
      by : (t p : Bool) → is_some (verified (F.segment_at x.at) x.digest r) ≡ t → passes F key x.at.level x.at.index ≡ p → one_if p + hits F key xs ≡ 0 → (hits F key xs ≡ 0 → (held xs rs key ≡ false) × (lost F (damage_in F xs rs) key ≡ false))
          → (held (x ∷ xs) (r ∷ rs) key ≡ false) × (lost F (damage_in F (x ∷ xs) (r ∷ rs)) key ≡ false)
      by t true et ep z rest = absurd (omega (arith, z))
      by true false et ep z rest = let zero_is : hits F key xs ≡ 0 = omega (arith, z) in (rw (et, ep) (rest zero_is).0, lost_once x.at (verified (F.segment_at x.at) x.digest r) (damage_in F xs rs) key ∙ rw et (rest zero_is).1)
      by false false et ep z rest = let zero_is : hits F key xs ≡ 0 = omega (arith, z) in (rw et (rest zero_is).0, lost_once x.at (verified (F.segment_at x.at) x.digest r) (damage_in F xs rs) key ∙ rw (et, ep) (rest zero_is).1)

  one_hit : (key : List ℕ) (xs : List Slot) (rs : List (Option (List ℕ))) → length rs ≡ length xs → hits F key xs ≡ 1 → held xs rs key ≡ not (lost F (damage_in F xs rs) key)
  one_hit key [] rs l z = absurd (omega (arith, z))
  one_hit key (x ∷ xs) [] l z = absurd (omega (arith, l))
  one_hit key (x ∷ xs) (r ∷ rs) l z = by (is_some (verified (F.segment_at x.at) x.digest r)) (passes F key x.at.level x.at.index) refl refl z (λ k. one_hit key xs rs (omega (arith, l)) k)
    where
      by : (t p : Bool) → is_some (verified (F.segment_at x.at) x.digest r) ≡ t → passes F key x.at.level x.at.index ≡ p → one_if p + hits F key xs ≡ 1 → (hits F key xs ≡ 1 → held xs rs key ≡ not (lost F (damage_in F xs rs) key))
          → held (x ∷ xs) (r ∷ rs) key ≡ not (lost F (damage_in F (x ∷ xs) (r ∷ rs)) key)
      by true true et ep z rest =
          let none = none_hit key xs rs (omega (arith, z)) in
          ap (λ (b : Bool). (b && passes F key x.at.level x.at.index) || held xs rs key) et ∙ ap (λ (b : Bool). (true && b) || held xs rs key) ep
          ∙ sym (ap not (lost_once x.at (verified (F.segment_at x.at) x.digest r) (damage_in F xs rs) key ∙ ap (λ (b : Bool). (not b && passes F key x.at.level x.at.index) || lost F (damage_in F xs rs) key) et ∙ none.1))
      by false true et ep z rest =
          let none = none_hit key xs rs (omega (arith, z)) in
          ap (λ (b : Bool). (b && passes F key x.at.level x.at.index) || held xs rs key) et ∙ none.0
          ∙ sym (ap not (lost_once x.at (verified (F.segment_at x.at) x.digest r) (damage_in F xs rs) key ∙ ap (λ (b : Bool). (not b && passes F key x.at.level x.at.index) || lost F (damage_in F xs rs) key) et ∙ ap (λ (b : Bool). (true && b) || lost F (damage_in F xs rs) key) ep))
      by t false et ep z rest = held_on t (passes F key x.at.level x.at.index) (held xs rs key) et ep ∙ rest (omega (arith, z)) ∙ ap not (sym (lost_once x.at (verified (F.segment_at x.at) x.digest r) (damage_in F xs rs) key ∙ lost_on (is_some (verified (F.segment_at x.at) x.digest r)) (passes F key x.at.level x.at.index) (lost F (damage_in F xs rs) key) ep))
        where
          held_on : (t p h : Bool) → is_some (verified (F.segment_at x.at) x.digest r) ≡ t → p ≡ false → ((is_some (verified (F.segment_at x.at) x.digest r) && p) || h) ≡ h
          held_on true false h e f = rw e refl
          held_on false false h e f = rw e refl
          held_on t true h e f = absurd cc

          lost_on : (t p h : Bool) → p ≡ false → ((not t && p) || h) ≡ h
          lost_on true false h f = refl
          lost_on false false h f = refl
          lost_on t true h f = absurd cc

  found_are : (ok : IsMap m) (xs : List Slot) (rs : List (Option (List ℕ))) → ((e : Entry) → e ∈ m → hits F e.key xs ≤ 1) → Names 0 xs → AreApart (strings_of rs) F F.depth root m → sorted (entries_in F xs rs) ≡ filter (λ e. held xs rs e.key) m
  found_are ok [] rs once n apart = sym (no_entries m)
    where
      no_entries : (m : List Entry) → filter (λ _. false) m ≡ []
      no_entries [] = refl
      no_entries (x ∷ m) = no_entries m
  found_are ok (x ∷ xs) [] once n apart = sym (no_entries m)
    where
      no_entries : (m : List Entry) → filter (λ _. false) m ≡ []
      no_entries [] = refl
      no_entries (x ∷ m) = no_entries m
  found_are ok (x ∷ xs) (r ∷ rs) once n apart = by (verified (F.segment_at x.at) x.digest r) refl (found_are ok xs rs (λ e i. less (hit F e.key x.at) (hits F e.key xs) (once e i)) n.1 (rest_apart r rs apart))
    where
      less : (a b : ℕ) → a + b ≤ 1 → b ≤ 1
      less a b l = omega arith

      by : (o : Option (List Entry)) → verified (F.segment_at x.at) x.digest r ≡ o → sorted (entries_in F xs rs) ≡ filter (λ e. held xs rs e.key) m
          → sorted (entries_of (verified (F.segment_at x.at) x.digest r) ++ entries_in F xs rs) ≡ filter (λ e. (is_some (verified (F.segment_at x.at) x.digest r) && passes F e.key x.at.level x.at.index) || held xs rs e.key) m
      by None e rest = ap (λ q. sorted (entries_of q ++ entries_in F xs rs)) e ∙ rest ∙ ap (λ q. filter (λ e. (is_some q && passes F e.key x.at.level x.at.index) || held xs rs e.key) m) (sym e)
      by (Some es) e rest =
          ap (λ q. sorted (entries_of q ++ entries_in F xs rs)) e ∙ sorted_append es (entries_in F xs rs)
          ∙ ap (λ ys. places ys (sorted (entries_in F xs rs))) (entries_are ok x.at x.digest r es n.0 (first_apart r rs apart) e)
          ∙ ap (places (under F x.at m)) rest
          ∙ merged (λ e. passes F e.key x.at.level x.at.index) (λ e. held xs rs e.key) m ok.ascends (λ e i p. (none_hit e.key xs rs (none (passes F e.key x.at.level x.at.index) (hits F e.key xs) p (once e i))).0)
          ∙ ap (λ q. filter (λ e. (is_some q && passes F e.key x.at.level x.at.index) || held xs rs e.key) m) (sym e)
        where
          none : (p : Bool) (k : ℕ) → p ≡ true → one_if p + k ≤ 1 → k ≡ 0
          none true k e l = omega arith
          none false k e l = absurd cc

  module _ {S : Type 0} (does : S → (call : Call) → AnswerOf call → S → Type 0) where
    scan_is : (ok : IsMap m) (h : ℕ) (xs : List Slot) (s t : S) (strs : List (List ℕ)) (scan : Scan) → Names h xs → ((e : Entry) → e ∈ m → hits F e.key xs ≡ 1) → AreApart strs F F.depth root m → Ends does (scan_from F h xs) s strs (Ok scan) t
        → scan.entries ≡ filter (λ e. not (lost F scan.damaged e.key)) m
    scan_is ok zero xs s t strs scan n once apart ends =
        let r = parted does (read_level xs) (λ reads. Done (found F xs reads)) s t strs scan ends in
        let is : scan ≡ found F xs r.value = ok_once scan (found F xs r.value) r.went_on.1 in
        let here : AreApart (strings_of r.value) F F.depth root m = level_apart does F m xs s r.between r.first r.value (apart_left F F.depth root m r.first r.second (subst (λ zs. AreApart zs F F.depth root m) r.strings apart)) r.came in
        ap (λ (q : Scan). q.entries) is
        ∙ found_are ok xs r.value (λ e i. at_most (hits F e.key xs) (once e i)) n here
        ∙ filter_agree (λ e. held xs r.value e.key) (λ e. not (lost F (damage_in F xs r.value) e.key)) m (λ e i. one_hit e.key xs r.value (level_count does xs s r.between r.first r.value r.came) (once e i))
        ∙ ap (λ (q : Scan). filter (λ e. not (lost F q.damaged e.key)) m) (sym is)
      where
        at_most : (k : ℕ) → k ≡ 1 → k ≤ 1
        at_most k e = omega arith
    scan_is ok (suc h) xs s t strs scan n once apart ends =
        let r = parted does (read_level xs) (λ reads. scan_from F h (next_level F xs reads)) s t strs scan ends in
        let both : AreApart (r.first ++ r.second) F F.depth root m = subst (λ zs. AreApart zs F F.depth root m) r.strings apart in
        let here : AreApart (strings_of r.value) F F.depth root m = level_apart does F m xs s r.between r.first r.value (apart_left F F.depth root m r.first r.second both) r.came in
        scan_is ok h (next_level F xs r.value) r.between t r.second scan (level_names h xs r.value n here)
        (λ e i. level_hits h e xs r.value i (level_count does xs s r.between r.first r.value r.came) n here ∙ once e i)
        (apart_right F F.depth root m r.first r.second both) r.went_on

module _ (F : Form) (laws : Laws F) {S : Type 0} (does : S → (call : Call) → AnswerOf call → S → Type 0) where
  pub scan_answers : (digest : List ℕ) (m : List Entry) (s t : S) (xs : List (List ℕ)) (scan : Scan) → Stands F digest m → AreApart xs F F.depth root m → Ends does (scan_plan F (Some digest)) s xs (Ok scan) t → scan.entries ≡ filter (λ e. not (lost F scan.damaged e.key)) m
  scan_answers digest m s t xs scan stands apart ends = scan_is F laws m does stands.is_map F.depth (slot root (Some digest) ∷ []) s t xs scan
      ((root_place F, tt, stands.root_is ∙ ap (λ (es : List Entry). md5 (text F F.depth root es)) (sym (every m))), tt) (λ e i. refl) apart ends

  pub scans_of : (refuses : S → Call → TreeError → S → Type 0) (top : Option (List ℕ)) (s t : S) (r : Result Scan TreeError) → Did does refuses (scan_plan F top) s r t → IfOk r (λ scan. Scans does F top s scan t)
  scans_of refuses top s t (Ok scan) (xs, ends) = record {
    strings = xs;
    ends = ends;
    finds = λ digest m is stands apart. scan_answers digest m s t xs scan stands apart (subst (λ (q : Option (List ℕ)). Ends does (scan_plan F q) s xs (Ok scan) t) is ends);
  }
  scans_of refuses top s t (Err e) d = tt
