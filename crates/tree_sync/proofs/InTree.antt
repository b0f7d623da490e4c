-- An ask asks for positions of a tree alone.
use Rattle.std.proofs.Common.{◌≡◌, ◌<◌, ◌≤◌, ℕ, Bool, true, false, List, [], ◌∷◌, ◌++◌, Option, None, Some, length, refl, subst, arith, lit<, lit≤}
use Rattle.std.specs.Prelude.{◌==◌, ◌&&◌, not, if◌then◌else◌}
use Rattle.std.specs.List.{AllByRecursion}
use Rattle.std.proofs.lemmas.Bool.{and_parts}
use Rattle.std.proofs.lemmas.Bool.Decides.{nat_tests}
use Rattle.ens_base.specs.declared.entry.Entry.{Entry}
use Rattle.tree_node.proofs.TreeVersionLaws.{position_deepest}
use Rattle.tree_node.specs.declared.version.TreeVersion.{TreeVersion}
use Rattle.tree_node.specs.declared.version.TreeVersion.TheVariants.{Two}
use Rattle.tree_node.specs.TreeVersions.{levels}
use Rattle.tree_node.specs.declared.body.Scan.{Scan}
use Rattle.tree_node.specs.declared.body.TreeBody.{TreeBody}
use Rattle.tree_node.specs.declared.body.TreeBody.TheVariants.{Inner, Page, Damaged}
use Rattle.tree_node.specs.declared.position.Position.{Position}
use Rattle.tree_node.specs.Positions.{IsPosition, same_position}
use Rattle.tree_exchange.specs.Synctree.{root, children_of}
use Rattle.tree_exchange.specs.Asked.{Asked, ArePlaces}
use Rattle.tree_exchange.specs.Asks.{onward, started, same_after, is_open, is_empty, to_ask, names_in, after_inner, after_page, stepped, reply, taken}
use Rattle.tree_exchange.specs.declared.question.Question.{Question}
use Rattle.tree_exchange.specs.declared.step.Step.TheVariants as steps
use Rattle.tree_exchange.proofs.Stacks.{left_places}
use Rattle.tree_exchange.proofs.Widths.{children_width, asked_places, all_append}

-- what is left to ask are positions of a tree
abbrev pub IsInTree : Asked → Type 0
IsInTree ask = ArePlaces Two ask.current ask.left

all_deepest : (tree : TreeVersion) (ps : List Position) → AllByRecursion (IsPosition tree) ps → AllByRecursion (IsPosition Two) ps
all_deepest tree [] h = tt
all_deepest tree (p ∷ ps) h = (position_deepest tree p h.0, all_deepest tree ps h.1)

onward_places : (ps : List Position) (es : List Entry) → AllByRecursion (IsPosition Two) ps → IsInTree (onward ps es)
onward_places [] es h = tt
onward_places (p ∷ ps) es h = h

root_place : IsPosition Two root
root_place = record { level = lit≤ tt; index = lit< tt }

pub started_places : IsInTree started
started_places = (root_place, tt)

page_places : (at : Position) (es : List Entry) (more : Bool) (ask : Asked) → IsPosition Two at → AllByRecursion (IsPosition Two) ask.left → IsInTree (after_page at es more ask)
page_places at es true ask p h = (p, h)
page_places at es false ask p h = onward_places ask.left (ask.received ++ es) h

above_segments : (n last : ℕ) → n ≤ last → (n == last) ≡ false → n < last
above_segments n last l e = grind (arith, nat_tests)

inner_places : (tree : TreeVersion) (damaged : List Position) (at : Position) (own cs : List (Option (List ℕ))) (ask : Asked) → IsPosition tree at → (at.level == levels tree) ≡ false → length cs ≤ 16 → AllByRecursion (IsPosition Two) ask.left
    → IsInTree (after_inner tree damaged at own cs ask)
inner_places tree damaged at own cs ask p e few h =
    let above : at.level < levels tree = above_segments at.level (levels tree) p.level e in
    let asked : List Position = to_ask tree damaged at own 0 cs in
    onward_places (asked ++ ask.left) ask.received (all_append Two asked ask.left (all_deepest tree asked (asked_places tree damaged at own cs 0 p above (omega (arith, few)))) h)

reply_places : (tree : TreeVersion) (damaged : List Position) (own : List (Option (List ℕ))) (at : Position) (body : TreeBody) (ask : Asked) → IsPosition tree at → IsInTree ask → IsInTree (reply tree damaged own at body ask).1
reply_places tree damaged own at (Inner mask digests) ask p h = by (at.level == levels tree) refl
  where
    by : (b : Bool) → (at.level == levels tree) ≡ b → IsInTree (if b then (steps.Dropped, ask) else stepped (after_inner tree damaged at own (children_of mask digests) ask)).1
    by true e = h
    by false e = inner_places tree damaged at own (children_of mask digests) ask p e (children_width mask digests (children_of mask digests) refl) (left_places Two ask.current ask.left h)
reply_places tree damaged own at (Page es more) ask p h = by (at.level == levels tree && not (is_empty es && more))
  where
    by : (b : Bool) → IsInTree (if b then stepped (after_page at es more ask) else (steps.Dropped, ask)).1
    by true = page_places at es more ask (position_deepest tree at p) (left_places Two ask.current ask.left h)
    by false = h
reply_places tree damaged own at (Damaged q) ask p h = h

same_place : (p q : Position) → IsPosition Two p → same_position p q ≡ true → IsPosition Two q
same_place p q h e =
    let parts = and_parts (p.level == q.level) (p.index == q.index) e in
    subst (IsPosition Two) (λ i. record { level = same p.level q.level parts.0 i; index = same p.index q.index parts.1 i }) h
  where
    same : (m n : ℕ) → (m == n) ≡ true → m ≡ n
    same m n e = grind (arith, nat_tests)

open_place : (now : Option Question) (left : List Position) (q : Question) → ArePlaces Two now left → is_open now q ≡ true → IsPosition Two q.position
open_place None left q h e = absurd cc
open_place (Some current) left q h e = same_place current.position q.position h.0 (and_parts (same_position current.position q.position) (same_after current.after q.after) e).0

-- an ask that takes an answer for a level of the own tree asks for positions of a tree alone
pub taken_places : (tree : TreeVersion) (scan : Scan) (own : Option (List ℕ)) (q : Question) (body : TreeBody) (ask : Asked) → q.position.level ≤ levels tree → IsInTree ask → IsInTree (taken tree scan own q body ask).1
taken_places tree scan own q body ask level h = by (is_open ask.current q) refl
  where
    by : (b : Bool) → is_open ask.current q ≡ b → IsInTree (if b then reply tree scan.damaged (names_in tree q.position own) q.position body ask else (steps.Ignored, ask)).1
    by true e =
        let place : IsPosition tree q.position = record { level = level; index = (open_place ask.current ask.left q h e).index } in
        reply_places tree scan.damaged (names_in tree q.position own) q.position body ask place h
    by false e = h
