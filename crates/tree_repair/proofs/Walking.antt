-- Whatever each read returns, a scan finds what a walk by depth may find.
use Rattle.std.proofs.Common.{◌≡◌, ℕ, zero, suc, List, [], ◌∷◌, ◌++◌, Option, None, Some, Ok, length, refl, ap, ◌∙◌, arith}
use Rattle.tree_node.specs.declared.body.Scan.{Scan}
use Rattle.tree_node.specs.declared.position.Position.{Position}
use Rattle.synctree.specs.Forms.{Form, root}
use Rattle.synctree.specs.Plans.{Call, AnswerOf, Done, Ends}
use Rattle.synctree.proofs.Meaning.{ok_once, parted}
use Rattle.tree_repair.specs.declared.slot.Slot.{Slot}
use Rattle.tree_repair.specs.Findings.{nothing, damage, segment_found, joined, InTurn, InnerGives, MayFind, by_key}
use Rattle.tree_repair.specs.Levels.{read_level, verified, slot, slots_below, next_level, entries_in, damage_in, found, scan_from, scan_plan}
use Rattle.tree_repair.proofs.Joining.{scan_of, joined_again, joined_nothing, segment_is}
use Rattle.tree_repair.proofs.Telling.{level_count}

record Parts (Gives : Slot → Scan → Type 0) (xs ys : List Slot) (all : Scan) : Type 0 where
  first : Scan
  second : Scan
  left : InTurn Gives xs first
  right : InTurn Gives ys second
  whole : all ≡ joined first second

parts : (Gives : Slot → Scan → Type 0) (xs ys : List Slot) (all : Scan) → InTurn Gives (xs ++ ys) all → Parts Gives xs ys all
parts Gives [] ys all turn = record { first = nothing; second = all; left = refl; right = turn; whole = refl }
parts Gives (x ∷ xs) ys all (one, rest, gives, turn, is) =
    let p = parts Gives xs ys rest turn in
    record { first = joined one p.first; second = p.second; left = (one, p.first, gives, p.left, refl); right = p.right; whole = is ∙ ap (λ zs. joined one zs) p.whole ∙ joined_again one p.first p.second }

module _ (F : Form) where
  -- a position that did not verify stays so down to the lowest level
  still_damaged : (at : Position) (one rest all : Scan) → one ≡ damage at → rest ≡ nothing → all ≡ joined one rest → all ≡ damage at
  still_damaged at one rest all e n is = is ∙ ap (λ zs. joined zs rest) e ∙ ap (λ zs. joined (damage at) zs) n

  slot_gives : (h : ℕ) (at : Position) (o : Option (List (Option (List ℕ)))) (all : Scan) → InTurn (MayFind F h) (slots_below F at o) all → InnerGives F (MayFind F h) at o all
  slot_gives zero at None all (one, rest, gives, none, is) = still_damaged at one rest all gives.1 none is
  slot_gives (suc h) at None all (one, rest, gives, none, is) = still_damaged at one rest all gives.1 none is
  slot_gives h at (Some names) all turn = turn

  level_gives : (h : ℕ) (xs : List Slot) (rs : List (Option (List ℕ))) (all : Scan) → length rs ≡ length xs → InTurn (MayFind F h) (next_level F xs rs) all → InTurn (MayFind F (suc h)) xs all
  level_gives h [] rs all l turn = turn
  level_gives h (x ∷ xs) [] all l turn = absurd (omega arith)
  level_gives h (x ∷ xs) (r ∷ rs) all l turn =
      let o = verified (F.inner_at x.at) x.digest r in
      let p = parts (MayFind F h) (slots_below F x.at o) (next_level F xs rs) all turn in
      (p.first, p.second, (r, slot_gives h x.at o p.first p.left), level_gives h xs rs p.second (omega (arith, l)) p.right, p.whole)

  last_gives : (xs : List Slot) (rs : List (Option (List ℕ))) → length rs ≡ length xs → InTurn (MayFind F zero) xs (scan_of (entries_in F xs rs) (damage_in F xs rs))
  last_gives [] rs l = refl
  last_gives (x ∷ xs) [] l = absurd (omega arith)
  last_gives (x ∷ xs) (r ∷ rs) l =
      let o = verified (F.segment_at x.at) x.digest r in
      (segment_found x.at o, scan_of (entries_in F xs rs) (damage_in F xs rs), (r, refl), last_gives xs rs (omega (arith, l)), segment_is x.at o (entries_in F xs rs) (damage_in F xs rs))

  module _ {S : Type 0} (does : S → (call : Call) → AnswerOf call → S → Type 0) where
    from_gives : (h : ℕ) (xs : List Slot) (s t : S) (strings : List (List ℕ)) (scan : Scan) → Ends does (scan_from F h xs) s strings (Ok scan) t → (all : Scan) × InTurn (MayFind F h) xs all × (scan ≡ by_key all)
    from_gives zero xs s t strings scan ends =
        let r = parted does (read_level xs) (λ reads. Done (found F xs reads)) s t strings scan ends in
        (scan_of (entries_in F xs r.value) (damage_in F xs r.value), last_gives xs r.value (level_count does xs s r.between r.first r.value r.came), ok_once scan (found F xs r.value) r.went_on.1)
    from_gives (suc h) xs s t strings scan ends =
        let r = parted does (read_level xs) (λ reads. scan_from F h (next_level F xs reads)) s t strings scan ends in
        let below = from_gives h (next_level F xs r.value) r.between t r.second scan r.went_on in
        (below.0, level_gives h xs r.value below.0 (level_count does xs s r.between r.first r.value r.came) below.1, below.2)

    pub scan_gives : (top : Option (List ℕ)) (s t : S) (strings : List (List ℕ)) (scan : Scan) → Ends does (scan_plan F top) s strings (Ok scan) t → (all : Scan) × MayFind F F.depth (slot root top) all × (scan ≡ by_key all)
    scan_gives top s t strings scan ends = by (from_gives F.depth (slot root top ∷ []) s t strings scan ends)
      where
        by : ((all : Scan) × InTurn (MayFind F F.depth) (slot root top ∷ []) all × (scan ≡ by_key all)) → (all : Scan) × MayFind F F.depth (slot root top) all × (scan ≡ by_key all)
        by (all, (one, rest, gives, none, is), same) = (one, gives, same ∙ ap by_key (is ∙ ap (λ zs. joined one zs) none ∙ joined_nothing one))
