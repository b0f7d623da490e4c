-- The levels of a scan, one slot after another.
use Rattle.std.proofs.Common.{◌≡◌, ℕ, zero, suc, ◌+◌, ◌<◌, ◌≤◌, true, false, Bool, cond, List, [], ◌∷◌, ◌++◌, Option, None, Some, Result, Ok, Err, length, get_or, take, refl, ap, sym, ◌∙◌, subst, arith, append_assoc, append-nil}
use Rattle.std.specs.Prelude.{IsErr}
use Rattle.std.specs.Result.{IsErrAnd}
use Rattle.std.proofs.lemmas.List.Elements.{All-nil, All-cons, All-head, All-tail, All-append}
use Rattle.hash_book.specs.Hashing.{Book}
use Rattle.md5.specs.Md5.{md5}
use Rattle.ens_base.specs.Lists.{same_bytes}
use Rattle.ens_base.specs.declared.entry.Entry.{Entry}
use Rattle.environment.specs.Stores.{NodeCall, NodeAnswer}
use Rattle.environment.specs.declared.errors.StoreError.{StoreError}
use Rattle.tree_node.specs.declared.body.Scan.{Scan}
use Rattle.tree_node.specs.declared.position.Position.{Position}
use Rattle.tree_node.specs.declared.version.TreeVersion.{TreeVersion}
use Rattle.tree_node.specs.TreeVersions.{levels}
use Rattle.tree_node.proofs.TreeVersionLaws.{levels_few}
use Rattle.tree_node.specs.Nodes.{inner_of, segment_of}
use Rattle.synctree.specs.Forms.{Form, IsPlace, child, root}
use Rattle.synctree.specs.Sixteen.{form_of, children_in, entries_in as segment_entries}
use Rattle.synctree.proofs.Unique.{child_place}
use Rattle.synctree.proofs.Slices.{take_at}
use Rattle.synctree.proofs.Formats.{place_position}
use Rattle.synctree.specs.Answers.{Makes}
use Rattle.synctree.specs.declared.error.TreeError.{TreeError}
use Rattle.synctree.specs.declared.error.TreeError.TheVariants.{Memory}
use Rattle.synctree.proofs.Exits.{DidOutside, after, cut_off, made_did, memory_did, passed_on}
use Rattle.synctree.proofs.Places.{width_is, inner_is, segment_is, place_of}
use Rattle.synctree.proofs.Puts.{read_width}
use Rattle.tree_repair.specs.declared.slot.Slot.{Slot}
use Rattle.tree_repair.specs.Hashers.{digest_if, agree}
use Rattle.tree_repair.specs.Levels.{verified, slot, child_slots, slots_below, next_level, entries_of, damage_of, entries_in, damage_in, found, read_level, scan_from}
use Rattle.tree_repair.specs.Slots.{HasBelow, IsSlot, AreSlots}

pub opened_is : {A : Type 0} (node_at : List ℕ → Option A) (named found read : Option (List ℕ)) (bytes b : List ℕ) → found ≡ digest_if read → read ≡ Some bytes → b ≡ bytes → agree named found ≡ true → verified node_at named read ≡ node_at b
opened_is node_at None found read bytes b is some same test = absurd cc
opened_is node_at (Some d) found read bytes b is some same test = rw (some, same) (by (same_bytes (md5 bytes) d) (subst (λ (q : Option (List ℕ)). agree (Some d) q ≡ true) (is ∙ ap digest_if some) test))
  where
    by : (t : Bool) → t ≡ true → cond t (node_at bytes) None ≡ node_at bytes
    by true e = refl
    by false e = absurd cc

pub inner_made : (v : TreeVersion) (at : Position) (named found read : Option (List ℕ)) (bytes b : List ℕ) (r : Result (Option (List (Option (List ℕ)))) TreeError) → found ≡ digest_if read → read ≡ Some bytes → b ≡ bytes → agree named found ≡ true → Makes r (children_in (inner_of v at b)) → Makes r (verified ((form_of v).inner_at at) named read)
inner_made v at named found read bytes b r is some same test m = subst (λ x. Makes r x) (sym (opened_is ((form_of v).inner_at at) named found read bytes b is some same test ∙ inner_is v at b)) m

pub segment_made : (v : TreeVersion) (at : Position) (named found read : Option (List ℕ)) (bytes b : List ℕ) (r : Result (Option (List Entry)) TreeError) → found ≡ digest_if read → read ≡ Some bytes → b ≡ bytes → agree named found ≡ true → Makes r (segment_entries (segment_of v at b)) → Makes r (verified ((form_of v).segment_at at) named read)
segment_made v at named found read bytes b r is some same test m = subst (λ x. Makes r x) (sym (opened_is ((form_of v).segment_at at) named found read bytes b is some same test ∙ segment_is v at b)) m

pub inner_width : (v : TreeVersion) (at : Position) (named read : Option (List ℕ)) (names : List (Option (List ℕ))) → verified ((form_of v).inner_at at) named read ≡ Some names → length names ≡ 16
inner_width v at None read names e = absurd cc
inner_width v at (Some d) None names e = absurd cc
inner_width v at (Some d) (Some bytes) names e = by (same_bytes (md5 bytes) d) e
  where
    by : (t : Bool) → cond t ((form_of v).inner_at at bytes) None ≡ Some names → length names ≡ 16
    by true e = read_width (inner_of v at bytes) names (sym (inner_is v at bytes) ∙ e)
    by false e = absurd cc

pub slots_snoc : (F : Form) (at : Position) (i : ℕ) (names : List (Option (List ℕ))) (name : Option (List ℕ)) → child_slots F at i (names ++ name ∷ []) ≡ child_slots F at i names ++ child_slots F at (i + length names) (name ∷ [])
slots_snoc F at i [] name = let zeros : i + 0 ≡ i = omega arith in rw zeros refl
slots_snoc F at i (None ∷ names) name = let next : i + suc (length names) ≡ (i + 1) + length names = omega arith in rw next (slots_snoc F at (i + 1) names name)
slots_snoc F at i (Some d ∷ names) name = let next : i + suc (length names) ≡ (i + 1) + length names = omega arith in rw next (ap (λ xs. slot (child F at i) (Some d) ∷ xs) (slots_snoc F at (i + 1) names name))

pub next_snoc : (F : Form) (xs : List Slot) (rs : List (Option (List ℕ))) (x : Slot) (r : Option (List ℕ)) → length xs ≡ length rs → next_level F (xs ++ x ∷ []) (rs ++ r ∷ []) ≡ next_level F xs rs ++ slots_below F x.at (verified (F.inner_at x.at) x.digest r)
next_snoc F [] [] x r e = append-nil (slots_below F x.at (verified (F.inner_at x.at) x.digest r))
next_snoc F [] (q ∷ rs) x r e = absurd (omega arith)
next_snoc F (y ∷ xs) [] x r e = absurd (omega arith)
next_snoc F (y ∷ xs) (q ∷ rs) x r e = ap (λ zs. slots_below F y.at (verified (F.inner_at y.at) y.digest q) ++ zs) (next_snoc F xs rs x r (omega arith)) ∙ sym (append_assoc (slots_below F y.at (verified (F.inner_at y.at) y.digest q)) (next_level F xs rs) (slots_below F x.at (verified (F.inner_at x.at) x.digest r)))

pub entries_snoc : (F : Form) (xs : List Slot) (rs : List (Option (List ℕ))) (x : Slot) (r : Option (List ℕ)) → length xs ≡ length rs → entries_in F (xs ++ x ∷ []) (rs ++ r ∷ []) ≡ entries_in F xs rs ++ entries_of (verified (F.segment_at x.at) x.digest r)
entries_snoc F [] [] x r e = append-nil (entries_of (verified (F.segment_at x.at) x.digest r))
entries_snoc F [] (q ∷ rs) x r e = absurd (omega arith)
entries_snoc F (y ∷ xs) [] x r e = absurd (omega arith)
entries_snoc F (y ∷ xs) (q ∷ rs) x r e = ap (λ zs. entries_of (verified (F.segment_at y.at) y.digest q) ++ zs) (entries_snoc F xs rs x r (omega arith)) ∙ sym (append_assoc (entries_of (verified (F.segment_at y.at) y.digest q)) (entries_in F xs rs) (entries_of (verified (F.segment_at x.at) x.digest r)))

pub damage_snoc : (F : Form) (xs : List Slot) (rs : List (Option (List ℕ))) (x : Slot) (r : Option (List ℕ)) → length xs ≡ length rs → damage_in F (xs ++ x ∷ []) (rs ++ r ∷ []) ≡ damage_in F xs rs ++ damage_of x.at (verified (F.segment_at x.at) x.digest r)
damage_snoc F [] [] x r e = append-nil (damage_of x.at (verified (F.segment_at x.at) x.digest r))
damage_snoc F [] (q ∷ rs) x r e = absurd (omega arith)
damage_snoc F (y ∷ xs) [] x r e = absurd (omega arith)
damage_snoc F (y ∷ xs) (q ∷ rs) x r e = ap (λ zs. damage_of y.at (verified (F.segment_at y.at) y.digest q) ++ zs) (damage_snoc F xs rs x r (omega arith)) ∙ sym (append_assoc (damage_of y.at (verified (F.segment_at y.at) y.digest q)) (damage_in F xs rs) (damage_of x.at (verified (F.segment_at x.at) x.digest r)))

-- ## The steps of the loops

length_take : {A : Type 0} (xs : List A) (i : ℕ) → i ≤ length xs → length (take i xs) ≡ i
length_take [] zero h = refl
length_take [] (suc i) h = absurd (omega arith)
length_take (x ∷ xs) zero h = refl
length_take (x ∷ xs) (suc i) h = ap suc (length_take xs i (omega arith))

pub children_next : (F : Form) (at : Position) (i : ℕ) (names : List (Option (List ℕ))) (name : Option (List ℕ)) (old now : List Slot) → i < length names → name ≡ get_or names i name → now ≡ old ++ child_slots F at 0 (take i names)
    → now ++ child_slots F at i (name ∷ []) ≡ old ++ child_slots F at 0 (take (i + 1) names)
children_next F at i names name old now l is e =
    let zeros : 0 + length (take i names) ≡ length (take i names) = omega arith in
    let long : 0 + length (take i names) ≡ i = zeros ∙ length_take names i (omega arith) in
    ap (λ xs. xs ++ child_slots F at i (name ∷ [])) e ∙ append_assoc old (child_slots F at 0 (take i names)) (child_slots F at i (name ∷ []))
    ∙ ap (λ (n : ℕ). old ++ (child_slots F at 0 (take i names) ++ child_slots F at n (name ∷ []))) (sym long)
    ∙ ap (λ xs. old ++ xs) (sym (slots_snoc F at 0 (take i names) name)) ∙ ap (λ ns. old ++ child_slots F at 0 ns) (sym (take_at names i name name l is))

module _ (F : Form) (i : ℕ) (xs : List Slot) (rs : List (Option (List ℕ))) (x : Slot) (r : Option (List ℕ)) where
  same_length : length rs ≡ length xs → i < length xs → length (take i xs) ≡ length (take i rs)
  same_length e l = length_take xs i (omega arith) ∙ sym (length_take rs i (omega (arith, e)))

  pub level_next : (now : List Slot) → length rs ≡ length xs → i < length xs → x ≡ get_or xs i x → r ≡ get_or rs i r → now ≡ next_level F (take i xs) (take i rs)
      → now ++ slots_below F x.at (verified (F.inner_at x.at) x.digest r) ≡ next_level F (take (i + 1) xs) (take (i + 1) rs)
  level_next now e l p q is = ap (λ ys. ys ++ slots_below F x.at (verified (F.inner_at x.at) x.digest r)) is ∙ sym (next_snoc F (take i xs) (take i rs) x r (same_length e l))
      ∙ ap (λ ys. next_level F ys (take i rs ++ r ∷ [])) (sym (take_at xs i x x l p)) ∙ ap (next_level F (take (i + 1) xs)) (sym (take_at rs i r r (omega (arith, e)) q))

  pub entries_next : (now : List Entry) → length rs ≡ length xs → i < length xs → x ≡ get_or xs i x → r ≡ get_or rs i r → now ≡ entries_in F (take i xs) (take i rs)
      → now ++ entries_of (verified (F.segment_at x.at) x.digest r) ≡ entries_in F (take (i + 1) xs) (take (i + 1) rs)
  entries_next now e l p q is = ap (λ ys. ys ++ entries_of (verified (F.segment_at x.at) x.digest r)) is ∙ sym (entries_snoc F (take i xs) (take i rs) x r (same_length e l))
      ∙ ap (λ ys. entries_in F ys (take i rs ++ r ∷ [])) (sym (take_at xs i x x l p)) ∙ ap (entries_in F (take (i + 1) xs)) (sym (take_at rs i r r (omega (arith, e)) q))

  pub damage_next : (now : List Position) → length rs ≡ length xs → i < length xs → x ≡ get_or xs i x → r ≡ get_or rs i r → now ≡ damage_in F (take i xs) (take i rs)
      → now ++ damage_of x.at (verified (F.segment_at x.at) x.digest r) ≡ damage_in F (take (i + 1) xs) (take (i + 1) rs)
  damage_next now e l p q is = ap (λ ys. ys ++ damage_of x.at (verified (F.segment_at x.at) x.digest r)) is ∙ sym (damage_snoc F (take i xs) (take i rs) x r (same_length e l))
      ∙ ap (λ ys. damage_in F ys (take i rs ++ r ∷ [])) (sym (take_at xs i x x l p)) ∙ ap (damage_in F (take (i + 1) xs)) (sym (take_at rs i r r (omega (arith, e)) q))

pub next_height : (v : TreeVersion) (h : ℕ) (xs : List Slot) → AreSlots v (h + 1) xs → AreSlots v (suc h) xs
next_height v h xs a = let next : h + 1 ≡ suc h = omega arith in subst (λ (n : ℕ). AreSlots v n xs) next a

-- ## Slots of the next level

child_are : (v : TreeVersion) (h i : ℕ) (at : Position) (names : List (Option (List ℕ))) → IsPlace (form_of v) (suc h) at → at.level + suc h ≡ levels v → i + length names ≤ 16 → AreSlots v h (child_slots (form_of v) at i names)
child_are v h i at [] p l few = All-nil (IsSlot v h)
child_are v h i at (None ∷ names) p l few = child_are v h (i + 1) at names p l (omega arith)
child_are v h i at (Some d ∷ names) p l few = All-cons (IsSlot v h) (slot (child (form_of v) at i) (Some d)) (child_slots (form_of v) at (i + 1) names)
    (record { position = place_position v h (child (form_of v) at i) (child_place (form_of v) h at i (wide i (omega arith)) p); below = sum at.level h l })
    (child_are v h (i + 1) at names p l (omega arith))
  where
    wide : (c : ℕ) → c < 16 → c < (form_of v).width
    wide c l = rw (width_is v) l

    sum : (a b : ℕ) → a + suc b ≡ levels v → (a + 1) + b ≡ levels v
    sum a b e = omega arith

below_are : (v : TreeVersion) (h : ℕ) (x : Slot) (r : Option (List ℕ)) (o : Option (List (Option (List ℕ)))) → IsSlot v (suc h) x → verified ((form_of v).inner_at x.at) x.digest r ≡ o → AreSlots v h (slots_below (form_of v) x.at o)
below_are v h x r None s e = All-cons (IsSlot v h) (slot x.at None) [] (record { position = s.position; below = tt }) (All-nil (IsSlot v h))
below_are v h x r (Some names) s e = child_are v h 0 x.at names (place (named_below x.digest s.below e)) (named_below x.digest s.below e) (omega (arith, inner_width v x.at x.digest r names e))
  where
    named_below : (q : Option (List ℕ)) → HasBelow v (suc h) x.at q → verified ((form_of v).inner_at x.at) q r ≡ Some names → x.at.level + suc h ≡ levels v
    named_below None b e = absurd cc
    named_below (Some d) b e = b

    place : x.at.level + suc h ≡ levels v → IsPlace (form_of v) (suc h) x.at
    place l = subst (λ (n : ℕ). IsPlace (form_of v) n x.at) (omega (arith, l)) (place_of v x.at s.position)

pub level_are : (v : TreeVersion) (h : ℕ) (xs : List Slot) (rs : List (Option (List ℕ))) → AreSlots v (suc h) xs → AreSlots v h (next_level (form_of v) xs rs)
level_are v h [] rs a = All-nil (IsSlot v h)
level_are v h (x ∷ xs) [] a = All-nil (IsSlot v h)
level_are v h (x ∷ xs) (r ∷ rs) a = All-append (IsSlot v h) (slots_below (form_of v) x.at (verified ((form_of v).inner_at x.at) x.digest r)) (next_level (form_of v) xs rs)
    (below_are v h x r (verified ((form_of v).inner_at x.at) x.digest r) (All-head (IsSlot v (suc h)) x xs a) refl) (level_are v h xs rs (All-tail (IsSlot v (suc h)) x xs a))

-- an inner node that verifies stands above the last level of the deepest tree
pub above_last : (v : TreeVersion) (h : ℕ) (at : Position) (named read : Option (List ℕ)) (names : List (Option (List ℕ))) → HasBelow v (h + 1) at named → verified ((form_of v).inner_at at) named read ≡ Some names → at.level < 5
above_last v h at None read names b e = absurd cc
above_last v h at (Some d) read names b e = omega (arith, b, levels_few v)

-- a scan begins with the slot of the root
pub first_slots : (v : TreeVersion) (h : ℕ) (top : Option (List ℕ)) → h ≡ levels v → AreSlots v h (slot root top ∷ [])
first_slots v h top e = All-cons (IsSlot v h) (slot root top) [] (record { position = record { level = omega arith; index = omega arith }; below = by top }) (All-nil (IsSlot v h))
  where
    by : (o : Option (List ℕ)) → HasBelow v h root o
    by None = tt
    by (Some d) = omega (arith, e)

-- ## The steps of a scan

module _ {N H : Type 0} (may : N → (call : NodeCall) → NodeAnswer call → N → Type 0) (loses : N → NodeCall → StoreError → N → Type 0) (top : N → Option (Option (List ℕ))) (faults : N → ℕ)
    (kept : H → Option Book) (clashes fulls : H → ℕ) (F : Form) where
  pub scan_err : (h : ℕ) (slots : List Slot) (s t : N × H) (r : Result Scan TreeError) (e : TreeError) (G : TreeError → Type 0) → DidOutside may loses top faults kept clashes fulls (read_level slots) s (Err e) t → IsErr r → IsErrAnd r G → ((d : TreeError) → G d → d ≡ e) → DidOutside may loses top faults kept clashes fulls (scan_from F h slots) s r t
  scan_err zero slots s t r e G d bad and same = cut_off may loses top faults kept clashes fulls (read_level slots) _ s t r e G d bad and same
  scan_err (suc h) slots s t r e G d bad and same = cut_off may loses top faults kept clashes fulls (read_level slots) _ s t r e G d bad and same

  pub scan_last : (h : ℕ) (slots : List Slot) (s t : N × H) (reads : List (Option (List ℕ))) (r : Result Scan TreeError) → h ≡ 0 → DidOutside may loses top faults kept clashes fulls (read_level slots) s (Ok reads) t → Makes r (found F slots reads) → DidOutside may loses top faults kept clashes fulls (scan_from F h slots) s r t
  scan_last h slots s t reads r z d m = subst (λ (n : ℕ). DidOutside may loses top faults kept clashes fulls (scan_from F n slots) s r t) (sym z)
      (after may loses top faults kept clashes fulls (read_level slots) _ s t t reads r d (made_did may loses top faults kept clashes fulls r (found F slots reads) t m))

  pub scan_memory : (h b : ℕ) (slots : List Slot) (s t : N × H) (reads : List (Option (List ℕ))) (r : Result Scan TreeError) (e : TreeError) (G : TreeError → Type 0) → h ≡ suc b → DidOutside may loses top faults kept clashes fulls (read_level slots) s (Ok reads) t → e ≡ Memory → IsErr r → IsErrAnd r G → ((d : TreeError) → G d → d ≡ e) → DidOutside may loses top faults kept clashes fulls (scan_from F h slots) s r t
  scan_memory h b slots s t reads r e G z d m bad and same = subst (λ (n : ℕ). DidOutside may loses top faults kept clashes fulls (scan_from F n slots) s r t) (sym z)
      (after may loses top faults kept clashes fulls (read_level slots) _ s t t reads r d
      (passed_on r e G (λ q. DidOutside may loses top faults kept clashes fulls (scan_from F b (next_level F slots reads)) t q t) bad and same (memory_did may loses top faults kept clashes fulls (scan_from F b (next_level F slots reads)) t e m)))

  pub scan_next : (h b : ℕ) (slots next : List Slot) (s u t : N × H) (reads : List (Option (List ℕ))) (r : Result Scan TreeError) → h ≡ suc b → DidOutside may loses top faults kept clashes fulls (read_level slots) s (Ok reads) u → next ≡ next_level F slots reads → DidOutside may loses top faults kept clashes fulls (scan_from F b next) u r t → DidOutside may loses top faults kept clashes fulls (scan_from F h slots) s r t
  scan_next h b slots next s u t reads r z d is rest = subst (λ (n : ℕ). DidOutside may loses top faults kept clashes fulls (scan_from F n slots) s r t) (sym z)
      (after may loses top faults kept clashes fulls (read_level slots) _ s u t reads r d (subst (λ (xs : List Slot). DidOutside may loses top faults kept clashes fulls (scan_from F b xs) u r t) is rest))
