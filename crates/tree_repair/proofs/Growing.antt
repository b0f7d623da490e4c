-- A level that grows, node by node, along the runs of its indexes.
use Rattle.std.proofs.Common.{◌≡◌, ℕ, ◌+◌, ◌<◌, ◌≤◌, ◌^◌, List, [], ◌∷◌, ◌++◌, Option, length, get_or, take, drop, map, refl, ap, sym, ◌∙◌, subst, arith}
use Rattle.std.specs.Prelude.{◌==◌, filter}
use Rattle.std.specs.List.{All}
use Rattle.std.proofs.lemmas.List.Elements.{All-take, All-drop}
use Rattle.std.proofs.lemmas.List.{map-append}
use Rattle.ens_base.specs.declared.entry.Entry.{Entry}
use Rattle.tree_node.specs.declared.version.TreeVersion.{TreeVersion}
use Rattle.tree_node.specs.TreeVersions.{levels}
use Rattle.tree_node.specs.Positions.{IsPosition}
use Rattle.synctree.specs.Sixteen.{form_of}
use Rattle.synctree.proofs.Slices.{take_at, take_all}
use Rattle.synctree.proofs.Places.{depth_is}
use Rattle.tree_repair.specs.Builds.{place}
use Rattle.tree_repair.specs.RepairLevels.{index_of}
use Rattle.tree_repair.specs.Runs.{IsRun}
use Rattle.tree_repair.specs.Segments.{placed}
use Rattle.tree_repair.specs.declared.order.Placed.{Placed}
use Rattle.tree_repair.specs.declared.runs.Run.{Run}
use Rattle.tree_repair.proofs.Buckets.{AreParts}
use Rattle.tree_repair.proofs.Lists.{length_of_map}

-- the run that the loop is at
pub run_at : (ns more : List ℕ) (runs rs : List Run) (k : ℕ) (d : Run) → ns ≡ more → rs ≡ runs → All (IsRun ns) runs → k < length rs → IsRun more (get_or rs k d)
run_at ns more runs rs k d same items all l = let each : All (IsRun ns) rs = subst (λ (xs : List Run). All (IsRun ns) xs) (sym items) all in subst (λ (xs : List ℕ). IsRun xs (get_or rs k d)) same (each k d l)

pub indexes_more : (rs : List Run) (k : ℕ) (d : Run) (old new : List ℕ) → k < length rs → old ≡ map (λ x. x.number) (take k rs) → new ≡ old ++ (get_or rs k d).number ∷ [] → new ≡ map (λ x. x.number) (take (k + 1) rs)
indexes_more rs k d old new l was grown = grown ∙ ap (λ (ns : List ℕ). ns ++ (get_or rs k d).number ∷ []) was ∙ sym (map-append {A = Run} {B = ℕ} (λ x. x.number) (take k rs) (get_or rs k d ∷ [])) ∙ ap (λ (xs : List Run). map {A = Run} {B = ℕ} (λ x. x.number) xs) (sym (take_at rs k (get_or rs k d) d l refl))

pub indexes_all : (rs : List Run) (k : ℕ) (is : List ℕ) → length rs ≤ k → is ≡ map (λ x. x.number) (take k rs) → is ≡ map (λ x. x.number) rs
indexes_all rs k is l was = was ∙ ap (λ (xs : List Run). map {A = Run} {B = ℕ} (λ x. x.number) xs) (take_all rs k l)

pub texts_more : (f : ℕ → Option (List ℕ)) (i : ℕ) (text : Option (List ℕ)) (oldi newi : List ℕ) (old new : List (Option (List ℕ))) → newi ≡ oldi ++ i ∷ [] → old ≡ map f oldi → new ≡ old ++ text ∷ [] → text ≡ f i → new ≡ map f newi
texts_more f i text oldi newi old new more was grown is = grown ∙ (λ j. was j ++ is j ∷ []) ∙ sym (map-append f oldi (i ∷ [])) ∙ ap (map f) (sym more)

-- the entries in the order of their segments
pub parts_of : (v : TreeVersion) (m : List Entry) (segments : List ℕ) (order slice : List Placed) → segments ≡ map (λ e. index_of (form_of v) (form_of v).depth e.key) m → slice ≡ order → ((i : ℕ) → filter (λ p. p.segment == i) order ≡ filter (λ p. p.segment == i) (placed segments 0)) → AreParts (map (λ e. index_of (form_of v) (levels v) e.key) m) slice
parts_of v m segments order slice is same parts i =
    ap (λ (ps : List Placed). filter (λ p. p.segment == i) ps) same ∙ parts i
    ∙ ap (λ (ss : List ℕ). filter (λ p. p.segment == i) (placed ss 0)) (is ∙ ap (λ (d : ℕ). map (λ (e : Entry). index_of (form_of v) d e.key) m) (depth_is v))

pub within_of : (v : TreeVersion) (m : List Entry) (segments : List ℕ) (order slice : List Placed) (s n : ℕ) → segments ≡ map (λ e. index_of (form_of v) (form_of v).depth e.key) m → slice ≡ order → All (λ (p : Placed). p.entry < length segments) order → All (λ (p : Placed). p.entry < length m) (take n (drop s slice))
within_of v m segments order slice s n is same all = All-take (λ (p : Placed). p.entry < length m) n (drop s slice) (All-drop (λ (p : Placed). p.entry < length m) s slice
    (subst (λ (ps : List Placed). All (λ (p : Placed). p.entry < length m) ps) (sym same) (subst (λ (l : ℕ). All (λ (p : Placed). p.entry < l) order) (ap length is ∙ length_of_map (λ (e : Entry). index_of (form_of v) (form_of v).depth e.key) m) all)))

pub inner_position : (v : TreeVersion) (l i : ℕ) → l < levels v → i < 16 ^ l → IsPosition v (place l i)
inner_position v l i a b = record { level = omega arith; index = b }
