-- Maps of versions against lists of entries, and tests of positions against what they test.
use Rattle.std.proofs.Common.{◌≡◌, ◌⊎◌, ℕ, zero, ◌<◌, ◌≤◌, suc, max, Bool, true, false, cond, ◌&&◌, ◌||◌, List, [], ◌∷◌, ◌++◌, Option, None, Some, take, arith, refl, ap, sym, ◌∙◌, subst, inl, inr, le_trans, le_refl}
use Rattle.ens_base.proofs.Lists.{bytes_same, bytes_itself}
use Rattle.std.specs.Prelude.{if◌then◌else◌}
use Rattle.std.specs.declared.cmp.Ordering.TheVariants.{Less}
use Rattle.std.proofs.lemmas.Bool.{and_parts, or_cases, or_left, or_right, and_from}
use Rattle.std.proofs.lemmas.Bool.Decides.{nat_tests}
use Rattle.ens_base.specs.Lists.{◌∈◌, bytes_cmp, same_bytes}
use Rattle.ens_base.specs.declared.entry.Entry.{Entry}
use Rattle.ens_base.specs.declared.epoch.Epoch.{Epoch}
use Rattle.ens_base.specs.declared.epoch.Version.{Version}
use Rattle.protocol_laws.specs.Numbers.{epoch_number, IsVersion}
use Rattle.tree_node.specs.declared.version.TreeVersion.{TreeVersion}
use Rattle.tree_node.specs.declared.version.TreeVersion.TheVariants.{Two}
use Rattle.tree_exchange.proofs.Having.{has_in}
use Rattle.tree_exchange.specs.Covers.{IsAtLeast, Has, PassesAny, IsLeft}
use Rattle.tree_exchange.specs.Gives.{is_beyond}
use Rattle.tree_exchange.specs.declared.question.Question.{Question}
use Rattle.role_laws.specs.Tables as theory
use Rattle.peer_refinement.specs.LeaderRefinement.{rank, entry_rank}
use Rattle.peer_refinement.proofs.Lookups.{lookup_in, lookup_key}
use Rattle.role_laws.proofs.Coverage.{max_left, max_right}
use Rattle.synctree.proofs.Orders.{not_same, less_not_same}
use Rattle.synctree.specs.Entries.{IsBelowAll, Ascends, lookup}
use Rattle.synctree.specs.Sixteen.{form_of}
use Rattle.tree_node.specs.declared.position.Position.{Position}
use Rattle.peer_refinement.proofs.Foreign.{passes_same}
use Rattle.tree_repair.specs.Scans.{lost}
use Rattle.peer_refinement.specs.Seen.{ranks, greatest, through, through_any, is_left}
use Rattle.role_laws.proofs.LeaderMoves.{max_cases}
use Rattle.protocol_laws.proofs.Epochs.{not_both}

-- ## Numbers and tests

-- a number above zero is not zero
pub not_zero : (a : ℕ) → 0 < a → a ≡ 0 → ⊥
not_zero a l e = omega (arith, l, e)

max_again : (a b c : ℕ) → max a (max b c) ≡ max (max a b) c
max_again a b c = grind (arith, nat_tests)

max_zero : (a : ℕ) → a ≡ max 0 a
max_zero a = grind (arith, nat_tests)

-- ## Ranks of versions

-- a version that is at least another has no lower rank
pub rank_at_least : (v least : Version) → IsVersion least → IsAtLeast v least → rank least ≤ rank v
unfolding theory.version_at epoch_number
rank_at_least v least fits (inl same) = subst (λ (x : Version). rank least ≤ rank x) (sym same) (le_refl (rank least))
rank_at_least v least fits (inr (inl (inl count))) = omega (arith, count, fits.0, fits.1)
rank_at_least v least fits (inr (inl (inr (count, proposer)))) = omega (arith, count, proposer, fits.1)
rank_at_least v least fits (inr (inr (epoch, seq))) =
    let count : least.epoch.count ≡ v.epoch.count = ap (λ (e : Epoch). e.count) epoch in
    let proposer : least.epoch.proposer ≡ v.epoch.proposer = ap (λ (e : Epoch). e.proposer) epoch in
    omega (arith, count, proposer, seq)

-- ## Maps

below_in : (k : List ℕ) (m : List Entry) (e : Entry) → IsBelowAll k m → e ∈ m → bytes_cmp k e.key ≡ Less
below_in k [] e below at = absurd at
below_in k (x ∷ m) e below (inl same) = subst (λ (y : Entry). bytes_cmp k y.key ≡ Less) (sym same) below.0
below_in k (x ∷ m) e below (inr at) = below_in k m e below.1 at

-- an entry of a map is found under its key
pub lookup_of_in : (m : List Entry) (e : Entry) → Ascends m → e ∈ m → lookup e.key m ≡ Some e
lookup_of_in [] e ascends at = absurd at
lookup_of_in (x ∷ m) e ascends (inl same) = subst (λ (y : Entry). lookup y.key (x ∷ m) ≡ Some y) (sym same) (here (same_bytes x.key x.key) (bytes_itself x.key))
  where
    here : (b : Bool) → b ≡ true → cond b (Some x) (lookup x.key m) ≡ Some x
    here true h = refl
    here false h = absurd cc
lookup_of_in (x ∷ m) e ascends (inr at) = later (same_bytes x.key e.key) (not_same x.key e.key (less_not_same x.key e.key (below_in x.key m e ascends.0 at))) (lookup_of_in m e ascends.1 at)
  where
    later : (b : Bool) → b ≡ false → lookup e.key m ≡ Some e → cond b (Some x) (lookup e.key m) ≡ Some e
    later true h found = absurd cc
    later false h found = found

-- so the key has the version of the entry
pub ranks_in : (m : List Entry) (e : Entry) (k : List ℕ) → Ascends m → e ∈ m → e.key ≡ k → ranks m k ≡ rank e.version
ranks_in m e k ascends at key = subst (λ (j : List ℕ). ranks m j ≡ rank e.version) key (ap entry_rank (lookup_of_in m e ascends at))

-- an entry of the list has the key, and its version has this rank
pub record HasRank (m : List Entry) (k : List ℕ) (v : ℕ) : Type 0 where
  pub entry : Entry
  pub inside : entry ∈ m
  pub key_is : entry.key ≡ k
  pub rank_is : v ≡ rank entry.version

-- a key has no version, or that of an entry
pub ranks_found : (m : List Entry) (k : List ℕ) → (ranks m k ≡ 0) ⊎ HasRank m k (ranks m k)
ranks_found m k = by_entry (lookup k m) refl
  where
    by_entry : (o : Option Entry) → lookup k m ≡ o → (ranks m k ≡ 0) ⊎ HasRank m k (ranks m k)
    by_entry None e = inl (ap entry_rank e)
    by_entry (Some x) e = inr (record { entry = x; inside = lookup_in k m x e; key_is = lookup_key k m x e; rank_is = ap entry_rank e })

-- what has a key at a version shows no lower one
pub ranks_has : (m : List Entry) (k : List ℕ) (v : Version) → Ascends m → IsVersion v → Has m k v → rank v ≤ ranks m k
ranks_has m k v ascends fits has =
    let held = has_in m k v has in
    subst (λ n. rank v ≤ n) (sym (ranks_in m held.entry k ascends held.inside held.key_is)) (rank_at_least held.entry.version v fits held.least)

-- ## Greatest versions

-- the greatest version in two lists is that of one of them
pub greatest_append : (a b : List Entry) (k : List ℕ) → greatest (a ++ b) k ≡ max (greatest a k) (greatest b k)
greatest_append [] b k = max_zero (greatest b k)
greatest_append (e ∷ a) b k = by_same (same_bytes e.key k) (greatest_append a b k)
  where
    by_same : (c : Bool) → greatest (a ++ b) k ≡ max (greatest a k) (greatest b k) → (if c then max (rank e.version) (greatest (a ++ b) k) else greatest (a ++ b) k) ≡ max (if c then max (rank e.version) (greatest a k) else greatest a k) (greatest b k)
    by_same true h = ap (λ n. max (rank e.version) n) h ∙ max_again (rank e.version) (greatest a k) (greatest b k)
    by_same false h = h

-- no entry of a key is greater
pub greatest_in : (es : List Entry) (e : Entry) (k : List ℕ) → e ∈ es → e.key ≡ k → rank e.version ≤ greatest es k
greatest_in [] e k at key = absurd at
greatest_in (x ∷ es) e k (inl same) key = subst (λ (y : Entry). y.key ≡ k → rank y.version ≤ greatest (x ∷ es) k) (sym same) first key
  where
    first : x.key ≡ k → rank x.version ≤ greatest (x ∷ es) k
    first is = subst (λ (j : List ℕ). rank x.version ≤ greatest (x ∷ es) j) is (rw (bytes_itself x.key) (max_left (rank x.version) (greatest es x.key)))
greatest_in (x ∷ es) e k (inr at) key = later (same_bytes x.key k) (greatest_in es e k at key)
  where
    later : (b : Bool) → rank e.version ≤ greatest es k → rank e.version ≤ (if b then max (rank x.version) (greatest es k) else greatest es k)
    later true h = le_trans h (max_right (rank x.version) (greatest es k))
    later false h = h

-- nor does the list have a greater version of it
pub greatest_has : (es : List Entry) (k : List ℕ) (v : Version) → IsVersion v → Has es k v → rank v ≤ greatest es k
greatest_has es k v fits has =
    let held = has_in es k v has in
    le_trans (rank_at_least held.entry.version v fits held.least) (greatest_in es held.entry k held.inside held.key_is)

-- the greatest version is none, or that of an entry
pub greatest_found : (es : List Entry) (k : List ℕ) → (greatest es k ≡ 0) ⊎ HasRank es k (greatest es k)
greatest_found [] k = inl refl
greatest_found (x ∷ es) k = by_same (same_bytes x.key k) refl (greatest_found es k)
  where
    Found : List Entry → ℕ → Type 0
    Found l n = (n ≡ 0) ⊎ HasRank l k n

    further : (n : ℕ) → Found es n → Found (x ∷ es) n
    further n (inl none) = inl none
    further n (inr h) = inr (record { entry = h.entry; inside = inr h.inside; key_is = h.key_is; rank_is = h.rank_is })

    either : (n : ℕ) → x.key ≡ k → Found es n → (max (rank x.version) n ≡ rank x.version) ⊎ (max (rank x.version) n ≡ n) → Found (x ∷ es) (max (rank x.version) n)
    either n key found (inl is) = inr (record { entry = x; inside = inl refl; key_is = key; rank_is = is })
    either n key found (inr is) = subst (Found (x ∷ es)) (sym is) (further n found)

    by_same : (b : Bool) → same_bytes x.key k ≡ b → Found es (greatest es k) → Found (x ∷ es) (if b then max (rank x.version) (greatest es k) else greatest es k)
    by_same true same found = either (greatest es k) (bytes_same x.key k same) found (max_cases (rank x.version) (greatest es k))
    by_same false same found = further (greatest es k) found

-- entries of a map have no other versions than the map
pub greatest_of : (m es : List Entry) → Ascends m → ((e : Entry) → e ∈ es → e ∈ m) → (k : List ℕ) → (greatest es k ≡ 0) ⊎ (greatest es k ≡ ranks m k)
greatest_of m es ascends among k = by_found (greatest_found es k)
  where
    by_found : (greatest es k ≡ 0) ⊎ HasRank es k (greatest es k) → (greatest es k ≡ 0) ⊎ (greatest es k ≡ ranks m k)
    by_found (inl none) = inl none
    by_found (inr h) = inr (h.rank_is ∙ sym (ranks_in m h.entry k ascends (among h.entry h.inside) h.key_is))

-- ## Lists

-- the first items of a list are in it
pub in_take : {A : Type 0} (n : ℕ) (xs : List A) (x : A) → x ∈ take n xs → x ∈ xs
in_take zero xs x at = absurd at
in_take (suc n) [] x at = absurd at
in_take (suc n) (y ∷ xs) x (inl same) = inl same
in_take (suc n) (y ∷ xs) x (inr at) = inr (in_take n xs x at)

-- ## Positions

-- the test whether a path goes through one of some positions says so
pub passes_of_any : (version : TreeVersion) (key : List ℕ) (ps : List Position) → through_any key ps ≡ true → PassesAny version key ps
passes_of_any version key [] h = absurd (not_both refl (sym h))
passes_of_any version key (p ∷ ps) h = by_either (or_cases (through key p) (through_any key ps) h) (λ t. passes_of_any version key ps t)
  where
    by_either : (through key p ≡ true) ⊎ (through_any key ps ≡ true) → (through_any key ps ≡ true → PassesAny version key ps) → PassesAny version key (p ∷ ps)
    by_either (inl here) further = inl (passes_same version key p.level p.index ∙ here)
    by_either (inr there) further = inr (further there)

-- and it is true if so
pub any_of_passes : (version : TreeVersion) (key : List ℕ) (ps : List Position) → PassesAny version key ps → through_any key ps ≡ true
any_of_passes version key [] h = absurd h
any_of_passes version key (p ∷ ps) (inl here) = or_left (through key p) (through_any key ps) (sym (passes_same version key p.level p.index) ∙ here)
any_of_passes version key (p ∷ ps) (inr there) = or_right (through key p) (through_any key ps) (any_of_passes version key ps there)

-- a key is lost if its path goes through a damaged position
pub lost_is_any : (key : List ℕ) (ps : List Position) → lost (form_of Two) ps key ≡ through_any key ps
lost_is_any key [] = refl
lost_is_any key (p ∷ ps) = ap (λ b. through key p || b) (lost_is_any key ps)

-- the test whether a key is left to ask says so
pub left_is : (version : TreeVersion) (current : Option Question) (left : List Position) (key : List ℕ) → is_left current left key ≡ true → IsLeft version current left key
left_is version None left key h = absurd (not_both refl (sym h))
left_is version (Some q) left key h = by_either (or_cases (through key q.position && is_beyond q.after key) (through_any key left) h)
  where
    by_either : ((through key q.position && is_beyond q.after key) ≡ true) ⊎ (through_any key left ≡ true) → IsLeft version (Some q) left key
    by_either (inl here) = let parts = and_parts (through key q.position) (is_beyond q.after key) here in inl (passes_same version key q.position.level q.position.index ∙ parts.0, parts.1)
    by_either (inr there) = inr (passes_of_any version key left there)

-- and it is true if so
pub is_left_of : (version : TreeVersion) (current : Option Question) (left : List Position) (key : List ℕ) → IsLeft version current left key → is_left current left key ≡ true
is_left_of version None left key h = absurd h
is_left_of version (Some q) left key (inl (here, past)) = or_left (through key q.position && is_beyond q.after key) (through_any key left)
    (and_from (through key q.position) (is_beyond q.after key) (sym (passes_same version key q.position.level q.position.index) ∙ here) past)
is_left_of version (Some q) left key (inr there) = or_right (through key q.position && is_beyond q.after key) (through_any key left) (any_of_passes version key left there)
