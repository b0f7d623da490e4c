-- The tree of a peer reports damage only at positions of the tree.
use Rattle.std.proofs.Common.{◌≡◌, ◌<◌, ◌≤◌, ◌-◌, ◌/◌, ◌%◌, ◌^◌, ◌*◌, lit<, ℕ, zero, suc, Bool, true, false, if◌then◌else◌, List, [], Option, Some, None, Err, refl, subst, arith}
use Rattle.std.proofs.lemmas.Bool.Decides.{nat_tests}
use Rattle.std.proofs.Math.Nat.{div-lt_iff_lt-mul, pow-suc}
use Rattle.std.specs.Prelude.{get_or, set, replicate, nat_le}
use Rattle.ens_base.specs.Lists.{same_bytes}
use Rattle.ens_base.specs.declared.entry.Entry.{Entry}
use Rattle.md5.specs.Md5.{md5}
use Rattle.tree_node.specs.declared.version.TreeVersion.{TreeVersion}
use Rattle.tree_node.specs.declared.version.TreeVersion.TheVariants.{Two}
use Rattle.tree_node.specs.TreeVersions.{levels}
use Rattle.tree_node.proofs.TreeVersionLaws.{position_deepest}
use Rattle.synctree.specs.Plans.{Plan, Done, Broken, Ask, ◌>>=◌, Ends, Call as TreeCall, AnswerOf as TreeAnswer}
use Rattle.synctree.specs.Nodes.{child_name, name_at, is_node, node_bytes, node_under, node_plan}
use Rattle.synctree.specs.Trees.{get_plan, insert_plan, publish_plan}
use Rattle.synctree.specs.Walks.{verified, fetch, spelled, open_node, onward, find, reach, store, enter, set_top, from_top}
use Rattle.synctree.specs.Entries.{put}
use Rattle.synctree.specs.Forms.{IsPlace, child, root}
use Rattle.synctree.specs.Sixteen.{form_of}
use Rattle.synctree.proofs.Formats.{form_laws, place_position}
use Rattle.synctree.proofs.Unique.{child_place, root_place}
use Rattle.tree_node.specs.declared.position.Position.{Position}
use Rattle.tree_node.specs.Positions.{IsPosition}
use Rattle.peer_spec.specs.TreeCalls.{has_position, position_plan}

-- each position that the plan may report is one of the tree of this version
abbrev pub IsInside : {A : Type 0} → TreeVersion → Plan A → Type 0
IsInside tree (Done x) = Unit {0}
IsInside tree (Broken at) = IsPosition tree at
IsInside tree (Ask call next) = (a : TreeAnswer call) → IsInside tree (next a)

-- a plan inside a tree is inside the deepest one
deepest_inside : {A : Type 0} (tree : TreeVersion) (p : Plan A) → IsInside tree p → IsInside Two p
deepest_inside tree (Done x) inside = tt
deepest_inside tree (Broken at) inside = position_deepest tree at inside
deepest_inside tree (Ask call next) inside = λ a. deepest_inside tree (next a) (inside a)

-- the level of a position that the tree has
pub has_level : (tree : TreeVersion) (at : Position) → has_position tree at ≡ true → at.level ≤ levels tree
has_level tree at has = within at.level (levels tree) has
  where
    within : (level last : ℕ) → nat_le level last ≡ true → level ≤ last
    within level last h = grind (arith, nat_tests)

-- a position whose level the tree has is one of the tree
pub placed : (tree : TreeVersion) (at : Position) → has_position tree at ≡ true → IsPosition Two at → IsPosition tree at
placed tree at has is = record { level = has_level tree at has; index = is.index }

above_lower : (l last : ℕ) → suc l ≤ last → l ≤ last
above_lower l last le = omega (arith, le)

wide : (l i : ℕ) → i < 16 ^ suc l → i < 16 ^ l * 16
wide l i less = let q = rw (pow-suc 16 l) at less in omega (arith, q)

module _ (tree : TreeVersion) where
  then_inside : {A B : Type 0} (p : Plan A) (f : A → Plan B) → IsInside tree p → ((x : A) → IsInside tree (f x)) → IsInside tree (p >>= f)
  then_inside (Done x) f inside after = after x
  then_inside (Broken at) f inside after = inside
  then_inside (Ask call next) f inside after = λ a. then_inside (next a) f (inside a) after

  -- a plan that ended at a position reported it
  ended_inside : {A S : Type 0} (does : S → (call : TreeCall) → TreeAnswer call → S → Type 0) (p : Plan A) (s : S) (strings : List (List ℕ)) (at : Position) (t : S)
      → IsInside tree p → Ends does p s strings (Err at) t → IsPosition tree at
  ended_inside does (Done x) s strings at t inside ends = let none : ⊥ = grind (arith, ends.1) in absurd none
  ended_inside does (Broken here) s strings at t inside ends = let same : here ≡ at = grind (arith, ends.1) in subst (λ k. IsPosition tree k) same inside
  ended_inside does (Ask call next) s strings at t inside ends = ended_inside does (next ends.0) ends.1 ends.2 at t (inside ends.0) ends.5

  pub walked_inside : {A S : Type 0} (does : S → (call : TreeCall) → TreeAnswer call → S → Type 0) (p : Plan A) (s : S) (at : Position) (t : S)
      → IsInside tree p → ((strings : List (List ℕ)) × Ends does p s strings (Err at) t) → IsPosition tree at
  walked_inside does p s at t inside walk = ended_inside does p s walk.0 at t inside walk.1

  choice_inside : {A : Type 0} (test : Bool) (p q : Plan A) → IsInside tree p → IsInside tree q → IsInside tree (if test then p else q)
  choice_inside true p q first second = first
  choice_inside false p q first second = second

  verified_inside : (at : Position) (digest : List ℕ) (bytes : Option (List ℕ)) → IsPosition tree at → IsInside tree (verified at digest bytes)
  verified_inside at digest None is = is
  verified_inside at digest (Some bytes) is = λ u. choice_inside (same_bytes (md5 bytes) digest) (Done bytes) (Broken at) tt is

  fetch_inside : (at : Position) (digest : List ℕ) → IsPosition tree at → IsInside tree (fetch at digest)
  fetch_inside at digest is = λ bytes. verified_inside at digest bytes is

  spelled_inside : {A : Type 0} (at : Position) (node : Option A) → IsPosition tree at → IsInside tree (spelled at node)
  spelled_inside at None is = is
  spelled_inside at (Some node) is = tt

  open_inside : {A : Type 0} (node_at : List ℕ → Option A) (at : Position) (digest : List ℕ) → IsPosition tree at → IsInside tree (open_node node_at at digest)
  open_inside node_at at digest is = then_inside (fetch at digest) (λ bytes. spelled at (node_at bytes)) (fetch_inside at digest is) (λ bytes. spelled_inside at (node_at bytes) is)

  onward_inside : {A : Type 0} (nothing : A) (next : List ℕ → Plan A) (named : Option (List ℕ)) → ((digest : List ℕ) → IsInside tree (next digest)) → IsInside tree (onward nothing next named)
  onward_inside nothing next None inside = tt
  onward_inside nothing next (Some digest) inside = inside digest

  digit_in : (key : List ℕ) (level : ℕ) → (form_of tree).digit key level < (form_of tree).width
  digit_in key level = (form_laws tree).in_width key level

  below_place : (h : ℕ) (at : Position) (key : List ℕ) → IsPlace (form_of tree) (suc h) at → IsPlace (form_of tree) h (child (form_of tree) at ((form_of tree).digit key at.level))
  below_place h at key place = child_place (form_of tree) h at ((form_of tree).digit key at.level) (digit_in key at.level) place

  find_inside : (h : ℕ) (at : Position) (digest key : List ℕ) → IsPlace (form_of tree) h at → IsInside tree (find (form_of tree) h at digest key)
  find_inside zero at digest key place = then_inside (open_node ((form_of tree).segment_at at) at digest) _ (open_inside ((form_of tree).segment_at at) at digest (place_position tree zero at place)) (λ entries. tt)
  find_inside (suc h) at digest key place =
      then_inside (open_node ((form_of tree).inner_at at) at digest) _ (open_inside ((form_of tree).inner_at at) at digest (place_position tree (suc h) at place))
      (λ names. onward_inside None (λ below. find (form_of tree) h (child (form_of tree) at ((form_of tree).digit key at.level)) below key) (get_or names ((form_of tree).digit key at.level) None)
      (λ below. find_inside h (child (form_of tree) at ((form_of tree).digit key at.level)) below key (below_place h at key place)))

  store_inside : (bytes : List ℕ) → IsInside tree (store bytes)
  store_inside bytes = λ u v. tt

  reach_inside : {A : Type 0} (node_at : List ℕ → Option A) (empty : A) (at : Position) (named : Option (List ℕ)) → IsPosition tree at → IsInside tree (reach node_at empty at named)
  reach_inside node_at empty at named is = onward_inside empty (open_node node_at at) named (λ digest. open_inside node_at at digest is)

  enter_inside : (h : ℕ) (at : Position) (named : Option (List ℕ)) (e : Entry) → IsPlace (form_of tree) h at → IsInside tree (enter (form_of tree) h at named e)
  enter_inside zero at named e place =
      then_inside (reach ((form_of tree).segment_at at) [] at named) _ (reach_inside ((form_of tree).segment_at at) [] at named (place_position tree zero at place)) (λ entries. store_inside ((form_of tree).segment_text at (put e entries)))
  enter_inside (suc h) at named e place =
      then_inside (reach ((form_of tree).inner_at at) (replicate (form_of tree).width None) at named) _ (reach_inside ((form_of tree).inner_at at) (replicate (form_of tree).width None) at named (place_position tree (suc h) at place))
      (λ names. then_inside (enter (form_of tree) h (child (form_of tree) at ((form_of tree).digit e.key at.level)) (get_or names ((form_of tree).digit e.key at.level) None) e) _
      (enter_inside h (child (form_of tree) at ((form_of tree).digit e.key at.level)) (get_or names ((form_of tree).digit e.key at.level) None) e (below_place h at e.key place)) (λ below. store_inside ((form_of tree).inner_text at (set names ((form_of tree).digit e.key at.level) (Some below)))))

  root_inside : IsPosition tree root
  root_inside = place_position tree (form_of tree).depth root (root_place (form_of tree))

  from_top_inside : {A : Type 0} (top : Option (List ℕ)) (next : List ℕ → Plan A) → ((digest : List ℕ) → IsInside tree (next digest)) → IsInside tree (from_top top next)
  from_top_inside None next inside = root_inside
  from_top_inside (Some digest) next inside = inside digest

  get_within : (top : Option (List ℕ)) (key : List ℕ) → IsInside tree (get_plan (form_of tree) top key)
  get_within top key = λ u. from_top_inside top (λ digest. find (form_of tree) (form_of tree).depth root digest key) (λ digest. find_inside (form_of tree).depth root digest key (root_place (form_of tree)))

  set_top_inside : (digest : List ℕ) → IsInside tree (set_top digest)
  set_top_inside digest = λ u. tt

  insert_within : (top : Option (List ℕ)) (e : Entry) → IsInside tree (insert_plan (form_of tree) top e)
  insert_within top e = λ u.
      from_top_inside top (λ digest. publish_plan (form_of tree) digest e)
      (λ digest. then_inside (enter (form_of tree) (form_of tree).depth root (Some digest) e) set_top (enter_inside (form_of tree).depth root (Some digest) e (root_place (form_of tree))) (λ below. set_top_inside below))

  -- ## The node at a position

  -- the node above a node of the tree is in the tree
  above_place : (l i : ℕ) → IsPosition tree (record { level = suc l; index = i }) → IsPosition tree (record { level = l; index = i / 16 })
  above_place l i is = record { level = above_lower l (levels tree) is.level; index = (div-lt_iff_lt-mul {k = 16} {x = i} {y = 16 ^ l} (lit< tt)).1 (wide l i is.index) }

  name_inside : (digest : List ℕ) (level index : ℕ) → IsPosition tree (record { level = level; index = index }) → IsInside tree (name_at (form_of tree) digest level index)
  unfolding form_of
  name_inside digest zero index is = tt
  name_inside digest (suc level) index is =
      let up = above_place level index is in
      let at : Position = record { level = level; index = index / 16 } in
      then_inside (name_at (form_of tree) digest level (index / 16)) _ (name_inside digest level (index / 16) up)
      (λ named. onward_inside None (child_name (form_of tree) at (index % 16)) named
      (λ below. then_inside (open_node ((form_of tree).inner_at at) at below) _ (open_inside ((form_of tree).inner_at at) at below up) (λ names. tt)))

  bytes_inside : (at : Position) (digest : List ℕ) → IsPosition tree at → IsInside tree (node_bytes (form_of tree) at digest)
  bytes_inside at digest is =
      then_inside (fetch at digest) _ (fetch_inside at digest is) (λ bytes. choice_inside (is_node (form_of tree) ((form_of tree).depth - at.level) at bytes) (Done (Some bytes)) (Broken at) tt is)

  under_inside : (at : Position) (digest : List ℕ) → IsPosition tree at → IsInside tree (node_under (form_of tree) at digest)
  under_inside at digest is =
      then_inside (name_at (form_of tree) digest at.level at.index) _ (name_inside digest at.level at.index is) (λ named. onward_inside None (node_bytes (form_of tree) at) named (λ below. bytes_inside at below is))

  node_within : (top : Option (List ℕ)) (at : Position) → IsPosition tree at → IsInside tree (node_plan (form_of tree) top at)
  node_within top at is = from_top_inside top (node_under (form_of tree) at) (λ digest. under_inside at digest is)

-- ## The calls of a peer's tree

pub get_inside : (tree : TreeVersion) (top : Option (List ℕ)) (key : List ℕ) → IsInside Two (get_plan (form_of tree) top key)
get_inside tree top key = deepest_inside tree (get_plan (form_of tree) top key) (get_within tree top key)

pub insert_inside : (tree : TreeVersion) (top : Option (List ℕ)) (e : Entry) → IsInside Two (insert_plan (form_of tree) top e)
insert_inside tree top e = deepest_inside tree (insert_plan (form_of tree) top e) (insert_within tree top e)

pub position_inside : (tree : TreeVersion) (top : Option (List ℕ)) (at : Position) → IsPosition Two at → IsInside Two (position_plan tree top at)
position_inside tree top at is = by (has_position tree at) refl
  where
    by : (has : Bool) → has_position tree at ≡ has → IsInside Two (if has then node_plan (form_of tree) top at else Done None)
    by true has = deepest_inside tree (node_plan (form_of tree) top at) (node_within tree top at (placed tree at has is))
    by false has = tt
