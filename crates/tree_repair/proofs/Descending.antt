-- The scan by levels finds what the plain scan finds, in its order.
use Rattle.std.proofs.Common.{◌≡◌, ℕ, zero, suc, List, [], ◌∷◌, ◌++◌, map, Option, None, Some, Result, Ok, refl, ap, ◌∙◌}
use Rattle.environment.specs.Stores.{Read, Write, Top, SetTop}
use Rattle.tree_node.specs.declared.body.Scan.{Scan}
use Rattle.tree_node.specs.declared.position.Position.{Position}
use Rattle.synctree.specs.Forms.{Form, root}
use Rattle.synctree.proofs.Unique.{some_once}
use Rattle.synctree.specs.Plans.{Call, Node, Hash, AnswerOf, Plan, Done, Broken, Ask, ◌>>=◌, Ends}
use Rattle.tree_repair.specs.declared.slot.Slot.{Slot}
use Rattle.tree_repair.specs.Contents.{answered}
use Rattle.tree_repair.specs.Findings.{segment_found, joined, by_key}
use Rattle.tree_repair.specs.Levels.{read_named, read_all, hash_all, read_level, verified, slot, slots_below, next_level, entries_in, damage_in, found, scan_from, scan_plan}
use Rattle.tree_repair.specs.PlainScans.{stored, in_turn, inner_found, found_below, plain_scan}
use Rattle.tree_repair.proofs.Joining.{scan_of, joined_again, joined_nothing, segment_is}

-- ## What a plan that reads a content returns

module _ (has : List ℕ → Option (List ℕ)) where
  answered_then : {A B : Type 0} (p : Plan A) (f : A → Plan B) (x : A) → answered has p ≡ Some x → answered has (p >>= f) ≡ answered has (f x)
  answered_then (Done y) f x e = ap (λ z. answered has (f z)) (some_once (Some y) y x refl e)
  answered_then (Broken at) f x e = absurd cc
  answered_then (Ask (Node (Read digest)) next) f x e = answered_then (next (has digest)) f x e
  answered_then (Ask (Node (Write digest bytes)) next) f x e = absurd cc
  answered_then (Ask (Node Top) next) f x e = absurd cc
  answered_then (Ask (Node (SetTop digest)) next) f x e = absurd cc
  answered_then (Ask (Hash bytes) next) f x e = answered_then (next tt) f x e

  -- what is read of a level
  abbrev texts : List Slot → List (Option (List ℕ))
  texts xs = map (λ (x : Slot). stored has x.digest) xs

  named_read : (o : Option (List ℕ)) → answered has (read_named o) ≡ Some (stored has o)
  named_read None = refl
  named_read (Some digest) = refl

  all_read : (xs : List Slot) → answered has (read_all xs) ≡ Some (texts xs)
  all_read [] = refl
  all_read (x ∷ xs) =
      answered_then (read_named x.digest) (λ y. read_all xs >>= (λ ys. Done (y ∷ ys))) (stored has x.digest) (named_read x.digest)
      ∙ answered_then (read_all xs) (λ ys. Done (stored has x.digest ∷ ys)) (texts xs) (all_read xs)

  all_hashed : (rs : List (Option (List ℕ))) → answered has (hash_all rs) ≡ Some tt
  all_hashed [] = refl
  all_hashed (None ∷ rs) = all_hashed rs
  all_hashed (Some bytes ∷ rs) = all_hashed rs

  level_read : (xs : List Slot) → answered has (read_level xs) ≡ Some (texts xs)
  level_read xs =
      answered_then (read_all xs) (λ reads. hash_all reads >>= (λ _. Done reads)) (texts xs) (all_read xs)
      ∙ answered_then (hash_all (texts xs)) (λ _. Done (texts xs)) tt (all_hashed (texts xs))

-- ## From one level to the next

turn_parts : (gives : Slot → Scan) (xs ys : List Slot) → in_turn gives (xs ++ ys) ≡ joined (in_turn gives xs) (in_turn gives ys)
turn_parts gives [] ys = refl
turn_parts gives (x ∷ xs) ys = ap (λ all. joined (gives x) all) (turn_parts gives xs ys) ∙ joined_again (gives x) (in_turn gives xs) (in_turn gives ys)

module _ (F : Form) (has : List ℕ → Option (List ℕ)) where
  slot_turn : (h : ℕ) (at : Position) (o : Option (List (Option (List ℕ)))) → in_turn (found_below F has h) (slots_below F at o) ≡ inner_found F (found_below F has h) at o
  slot_turn zero at None = refl
  slot_turn (suc h) at None = refl
  slot_turn h at (Some names) = refl

  next_turn : (h : ℕ) (xs : List Slot) → in_turn (found_below F has h) (next_level F xs (texts has xs)) ≡ in_turn (found_below F has (suc h)) xs
  next_turn h [] = refl
  next_turn h (x ∷ xs) =
      let o = verified (F.inner_at x.at) x.digest (stored has x.digest) in
      turn_parts (found_below F has h) (slots_below F x.at o) (next_level F xs (texts has xs))
      ∙ ap (λ all. joined all (in_turn (found_below F has h) (next_level F xs (texts has xs)))) (slot_turn h x.at o)
      ∙ ap (λ all. joined (found_below F has (suc h) x) all) (next_turn h xs)

  last_turn : (xs : List Slot) → scan_of (entries_in F xs (texts has xs)) (damage_in F xs (texts has xs)) ≡ in_turn (found_below F has zero) xs
  last_turn [] = refl
  last_turn (x ∷ xs) =
      let o = verified (F.segment_at x.at) x.digest (stored has x.digest) in
      segment_is x.at o (entries_in F xs (texts has xs)) (damage_in F xs (texts has xs)) ∙ ap (λ all. joined (segment_found x.at o) all) (last_turn xs)

  from_is : (h : ℕ) (xs : List Slot) → answered has (scan_from F h xs) ≡ Some (by_key (in_turn (found_below F has h) xs))
  from_is zero xs =
      answered_then has (read_level xs) (λ reads. Done (found F xs reads)) (texts has xs) (level_read has xs)
      ∙ ap (λ all. Some (by_key all)) (last_turn xs)
  from_is (suc h) xs =
      answered_then has (read_level xs) (λ reads. scan_from F h (next_level F xs reads)) (texts has xs) (level_read has xs)
      ∙ from_is h (next_level F xs (texts has xs))
      ∙ ap (λ all. Some (by_key all)) (next_turn h xs)

pub scan_is_plain : (F : Form) (has : List ℕ → Option (List ℕ)) (top : Option (List ℕ)) → answered has (scan_plan F top) ≡ Some (plain_scan F has top)
scan_is_plain F has top = from_is F has F.depth (slot root top ∷ []) ∙ ap (λ all. Some (by_key all)) (joined_nothing (found_below F has F.depth (slot root top)))

-- ## A run whose reads return a content

module _ {S : Type 0} (does : S → (call : Call) → AnswerOf call → S → Type 0) (has : List ℕ → Option (List ℕ)) (Keeps : S → Type 0)
    (reads : (s t : S) (digest : List ℕ) (answer : Option (List ℕ)) → Keeps s → does s (Node (Read digest)) answer t → (answer ≡ has digest) × Keeps t)
    (hashes : (s t : S) (bytes : List ℕ) (answer : Unit {0}) → Keeps s → does s (Hash bytes) answer t → Keeps t) where
  pub ends_so : {A : Type 0} (p : Plan A) (x : A) (s t : S) (strings : List (List ℕ)) (out : Result A Position) → Keeps s → answered has p ≡ Some x → Ends does p s strings out t → out ≡ Ok x
  ends_so (Done y) x s t strings out keeps e ends = ends.1 ∙ ap Ok (some_once (Some y) y x refl e)
  ends_so (Broken at) x s t strings out keeps e ends = absurd cc
  ends_so (Ask (Node (Read digest)) next) x s t strings out keeps e (answer, u, rest, did, is, more) =
      let r = reads s u digest answer keeps did in
      ends_so (next answer) x u t rest out r.1 (ap (λ a. answered has (next a)) r.0 ∙ e) more
  ends_so (Ask (Node (Write digest bytes)) next) x s t strings out keeps e ends = absurd cc
  ends_so (Ask (Node Top) next) x s t strings out keeps e ends = absurd cc
  ends_so (Ask (Node (SetTop digest)) next) x s t strings out keeps e ends = absurd cc
  ends_so (Ask (Hash bytes) next) x s t strings out keeps e (answer, u, rest, did, is, more) =
      ends_so (next answer) x u t rest out (hashes s u bytes answer keeps did) e more
