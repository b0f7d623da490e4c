-- A walk over nodes in memory is a run of its plan.
use Rattle.std.specs.Prelude.{if◌then◌else◌}
use Rattle.ens_base.proofs.Lists.{in_left}
use Rattle.std.proofs.Common.{◌≡◌, ℕ, zero, suc, ◌-◌, ◌/◌, ◌%◌, Bool, true, false, cond, List, [], ◌∷◌, ◌++◌, Option, None, Some, Ok, Err, get_or, refl, sym, subst, ◌∙◌, append_assoc}
use Rattle.std.proofs.lemmas.List.{append-nil}
use Rattle.md5.specs.Md5.{md5}
use Rattle.ens_base.specs.Lists.{◌∈◌, same_bytes}
use Rattle.environment.specs.Stores.{NodeCall, Read, Write, Top, SetTop}
use Rattle.environment.specs.declared.memory.failing_call.Leaves.{Leaves}
use Rattle.world_spec.specs.Held.{unless_failing}
use Rattle.world_spec.specs.Walks.{End, Came, Broke, Failed, Walk, walk, nodes_failed}
use Rattle.synctree.specs.Nodes.{child_name, name_at, is_node, node_bytes, node_plan}
use Rattle.synctree.specs.Plans.{Call, Node, Hash, AnswerOf, Plan, Done, Broken, Ask, ◌>>=◌, Ends}
use Rattle.synctree.specs.Trees.{get_plan}
use Rattle.synctree.specs.Walks.{verified, fetch, spelled, open_node, onward, find}
use Rattle.synctree.specs.Entries.{lookup}
use Rattle.synctree.specs.Forms.{Form, child, root}
use Rattle.synctree.proofs.Below.{place}
use Rattle.tree_node.specs.declared.position.Position.{Position}
use Rattle.tree_repair.specs.Levels.{read_named, hash_read, hash_all, read_all, read_level, next_level, found, scan_from}
use Rattle.tree_repair.specs.declared.slot.Slot.{Slot}
use Rattle.world_stores.specs.Nodes.{Nodes, NodesDo, refusal, answer, after}
use Rattle.peer_refinement.specs.Trees.{AreAmong}

-- what nodes in memory do at a call
abbrev pub does : Nodes → (call : Call) → AnswerOf call → Nodes → Type 0
does s (Node call) a t = NodesDo s call a t
does s (Hash bytes) a t = t ≡ s

-- the plan leads to the end of a walk, unless the walk failed
abbrev pub Ended : {A : Type 0} → Plan A → Nodes → List (List ℕ) → End A → Nodes → Type 0
Ended p s xs (Came x) t = Ends does p s xs (Ok x) t
Ended p s xs (Broke at) t = Ends does p s xs (Err at) t
Ended p s xs Failed t = Unit {0}

-- the walk is a run of the plan, and the strings of the run are those that it hashed
pub record IsWalk {A : Type 0} (p : Plan A) (s : Nodes) (hashed : List (List ℕ)) (w : Walk A) : Type 0 where
  pub strings : List (List ℕ)
  pub grew : w.hashed ≡ hashed ++ strings
  pub ended : Ended p s strings w.end w.nodes

hash_ended : {A : Type 0} (bytes : List ℕ) (next : Unit {0} → Plan A) (s t : Nodes) (xs : List (List ℕ)) (end : End A) → Ended (next tt) s xs end t → Ended (Ask (Hash bytes) next) s (bytes ∷ xs) end t
hash_ended bytes next s t xs (Came x) e = (tt, s, xs, refl, refl, e)
hash_ended bytes next s t xs (Broke at) e = (tt, s, xs, refl, refl, e)
hash_ended bytes next s t xs Failed e = tt

node_ended : {A : Type 0} (call : NodeCall) (next : AnswerOf (Node call) → Plan A) (s t : Nodes) (xs : List (List ℕ)) (end : End A) → refusal s call ≡ None → Ended (next (answer s call)) (after s call) xs end t → Ended (Ask (Node call) next) s xs end t
node_ended call next s t xs (Came x) none e = (answer s call, after s call, xs, (none, refl, refl), refl, e)
node_ended call next s t xs (Broke at) none e = (answer s call, after s call, xs, (none, refl, refl), refl, e)
node_ended call next s t xs Failed none e = tt

hash_walk : {A : Type 0} (bytes : List ℕ) (next : Unit {0} → Plan A) (s : Nodes) (hashed : List (List ℕ)) (w : Walk A) → IsWalk (next tt) s (hashed ++ bytes ∷ []) w → IsWalk (Ask (Hash bytes) next) s hashed w
hash_walk bytes next s hashed w is = record {
  strings = bytes ∷ is.strings;
  grew = is.grew ∙ append_assoc hashed (bytes ∷ []) is.strings;
  ended = hash_ended bytes next s w.nodes is.strings w.end is.ended;
}

node_walk : {A : Type 0} (call : NodeCall) (next : AnswerOf (Node call) → Plan A) (s : Nodes) (hashed : List (List ℕ)) (w : Walk A) (o : Option Leaves) → refusal s call ≡ o → IsWalk (next (answer s call)) (after s call) hashed w
    → IsWalk (Ask (Node call) next) s hashed (unless_failing o w (λ leaves. record { end = Failed; nodes = nodes_failed s call leaves; hashed = hashed }))
node_walk call next s hashed w None none is = record { strings = is.strings; grew = is.grew; ended = node_ended call next s w.nodes is.strings w.end none is.ended }
node_walk call next s hashed w (Some leaves) some is = record { strings = []; grew = sym (append-nil hashed); ended = tt }

pub walk_is : {A : Type 0} (p : Plan A) (s : Nodes) (hashed : List (List ℕ)) → IsWalk p s hashed (walk p s hashed)
unfolding walk
walk_is (Done x) s hashed = record { strings = []; grew = sym (append-nil hashed); ended = (refl, refl, refl) }
walk_is (Broken at) s hashed = record { strings = []; grew = sym (append-nil hashed); ended = (refl, refl, refl) }
walk_is (Ask (Hash bytes) next) s hashed = hash_walk bytes next s hashed (walk (next tt) s (hashed ++ bytes ∷ [])) (walk_is (next tt) s (hashed ++ bytes ∷ []))
walk_is (Ask (Node call) next) s hashed = node_walk call next s hashed (walk (next (answer s call)) (after s call) hashed) (refusal s call) refl (walk_is (next (answer s call)) (after s call) hashed)

pub walk_grows : {A : Type 0} (p : Plan A) (s : Nodes) (hashed : List (List ℕ)) → AreAmong hashed (walk p s hashed).hashed
walk_grows p s hashed x i = let w = walk_is p s hashed in subst (λ zs. x ∈ zs) (sym w.grew) (in_left hashed w.strings x i)

-- ## A walk that only reads does not fail, and leaves the nodes

-- the call writes neither a node nor the top record
abbrev pub IsReading : Call → Type 0
IsReading (Node (Write digest bytes)) = ⊥
IsReading (Node (SetTop digest)) = ⊥
IsReading call = Unit {0}

-- so it is with each call of the plan
abbrev pub OnlyReads : {A : Type 0} → Plan A → Type 0
OnlyReads (Done x) = Unit {0}
OnlyReads (Broken at) = Unit {0}
OnlyReads (Ask call next) = IsReading call × ((a : AnswerOf call) → OnlyReads (next a))

pub no_failure : {A : Type 0} (p : Plan A) (s : Nodes) (hashed : List (List ℕ)) → OnlyReads p → (walk p s hashed).end ≡ Failed → ⊥
unfolding walk
no_failure (Done x) s hashed q e = absurd cc
no_failure (Broken at) s hashed q e = absurd cc
no_failure (Ask (Hash bytes) next) s hashed q e = no_failure (next tt) s (hashed ++ bytes ∷ []) (q.1 tt) e
no_failure (Ask (Node (Read digest)) next) s hashed q e = no_failure (next (answer s (Read digest))) s hashed (q.1 (answer s (Read digest))) e
no_failure (Ask (Node (Write digest bytes)) next) s hashed q e = q.0
no_failure (Ask (Node Top) next) s hashed q e = no_failure (next (answer s Top)) s hashed (q.1 (answer s Top)) e
no_failure (Ask (Node (SetTop digest)) next) s hashed q e = q.0

pub nodes_stay : {A : Type 0} (p : Plan A) (s : Nodes) (hashed : List (List ℕ)) → OnlyReads p → (walk p s hashed).nodes ≡ s
unfolding walk
nodes_stay (Done x) s hashed q = refl
nodes_stay (Broken at) s hashed q = refl
nodes_stay (Ask (Hash bytes) next) s hashed q = nodes_stay (next tt) s (hashed ++ bytes ∷ []) (q.1 tt)
nodes_stay (Ask (Node (Read digest)) next) s hashed q = nodes_stay (next (answer s (Read digest))) s hashed (q.1 (answer s (Read digest)))
nodes_stay (Ask (Node (Write digest bytes)) next) s hashed q = absurd q.0
nodes_stay (Ask (Node Top) next) s hashed q = nodes_stay (next (answer s Top)) s hashed (q.1 (answer s Top))
nodes_stay (Ask (Node (SetTop digest)) next) s hashed q = absurd q.0

then_reads : {A B : Type 0} (p : Plan A) (f : A → Plan B) → OnlyReads p → ((x : A) → OnlyReads (f x)) → OnlyReads (p >>= f)
then_reads (Done x) f q r = r x
then_reads (Broken at) f q r = tt
then_reads (Ask call next) f q r = (q.0, λ a. then_reads (next a) f (q.1 a) r)

fetch_reads : (at : Position) (digest : List ℕ) → OnlyReads (fetch at digest)
fetch_reads at digest = (tt, read)
  where
    test : (bytes : List ℕ) (b : Bool) → OnlyReads (cond b (Done bytes) (Broken at))
    test bytes true = tt
    test bytes false = tt

    read : (o : Option (List ℕ)) → OnlyReads (verified at digest o)
    read None = tt
    read (Some bytes) = (tt, λ a. test bytes (same_bytes (md5 bytes) digest))

spelled_reads : {A : Type 0} (at : Position) (o : Option A) → OnlyReads (spelled at o)
spelled_reads at None = tt
spelled_reads at (Some node) = tt

pub open_reads : {A : Type 0} (node_at : List ℕ → Option A) (at : Position) (digest : List ℕ) → OnlyReads (open_node node_at at digest)
open_reads node_at at digest = then_reads (fetch at digest) (λ bytes. spelled at (node_at bytes)) (fetch_reads at digest) (λ bytes. spelled_reads at (node_at bytes))

pub onward_reads : {A : Type 0} (nothing : A) (next : List ℕ → Plan A) → ((digest : List ℕ) → OnlyReads (next digest)) → (o : Option (List ℕ)) → OnlyReads (onward nothing next o)
onward_reads nothing next rest None = tt
onward_reads nothing next rest (Some digest) = rest digest

module _ (F : Form) where
  find_reads : (h : ℕ) (at : Position) (digest key : List ℕ) → OnlyReads (find F h at digest key)
  find_reads zero at digest key = then_reads (open_node (F.segment_at at) at digest) (λ entries. Done (lookup key entries)) (open_reads (F.segment_at at) at digest) (λ entries. tt)
  find_reads (suc h) at digest key = then_reads (open_node (F.inner_at at) at digest) (λ names. onward None (λ below. find F h (child F at (F.digit key at.level)) below key) (get_or names (F.digit key at.level) None)) (open_reads (F.inner_at at) at digest)
      (λ names. onward_reads None (λ below. find F h (child F at (F.digit key at.level)) below key) (λ below. find_reads h (child F at (F.digit key at.level)) below key) (get_or names (F.digit key at.level) None))

  pub get_reads : (digest key : List ℕ) → OnlyReads (get_plan F (Some digest) key)
  get_reads digest key = (tt, λ a. find_reads F.depth root digest key)

  child_reads : (at : Position) (c : ℕ) (digest : List ℕ) → OnlyReads (child_name F at c digest)
  child_reads at c digest = then_reads (open_node (F.inner_at at) at digest) (λ names. Done (get_or names c None)) (open_reads (F.inner_at at) at digest) (λ names. tt)

  name_reads : (digest : List ℕ) (level index : ℕ) → OnlyReads (name_at F digest level index)
  name_reads digest zero index = tt
  name_reads digest (suc level) index = then_reads (name_at F digest level (index / F.width)) (onward None (child_name F (place level (index / F.width)) (index % F.width))) (name_reads digest level (index / F.width))
      (onward_reads None (child_name F (place level (index / F.width)) (index % F.width)) (child_reads (place level (index / F.width)) (index % F.width)))

  bytes_reads : (at : Position) (digest : List ℕ) → OnlyReads (node_bytes F at digest)
  bytes_reads at digest = then_reads (fetch at digest) (λ bytes. if is_node F (F.depth - at.level) at bytes then Done (Some bytes) else Broken at) (fetch_reads at digest) (λ bytes. test bytes (is_node F (F.depth - at.level) at bytes))
    where
      test : (bytes : List ℕ) (b : Bool) → OnlyReads (cond b (Done (Some bytes)) (Broken at))
      test bytes true = tt
      test bytes false = tt

  pub node_reads : (digest : List ℕ) (at : Position) → OnlyReads (node_plan F (Some digest) at)
  node_reads digest at = then_reads (name_at F digest at.level at.index) (onward None (node_bytes F at)) (name_reads digest at.level at.index) (onward_reads None (node_bytes F at) (bytes_reads at))

-- ## A walk of a scan comes to a value

-- the plan only reads, and ends at no broken position
abbrev pub Comes : {A : Type 0} → Plan A → Type 0
Comes (Done x) = Unit {0}
Comes (Broken at) = ⊥
Comes (Ask call next) = IsReading call × ((a : AnswerOf call) → Comes (next a))

pub comes_reads : {A : Type 0} (p : Plan A) → Comes p → OnlyReads p
comes_reads (Done x) c = tt
comes_reads (Broken at) c = tt
comes_reads (Ask call next) c = (c.0, λ a. comes_reads (next a) (c.1 a))

-- such a plan leads to no broken position
pub unbroken : {A S : Type 0} (does : S → (call : Call) → AnswerOf call → S → Type 0) (p : Plan A) (s t : S) (xs : List (List ℕ)) (at : Position) → Comes p → Ends does p s xs (Err at) t → ⊥
unbroken does (Done x) s t xs at c (e, is, same) = absurd cc
unbroken does (Broken b) s t xs at c ends = c
unbroken does (Ask call next) s t xs at c (a, u, rest, d, e, more) = unbroken does (next a) u t rest at (c.1 a) more

then_comes : {A B : Type 0} (p : Plan A) (f : A → Plan B) → Comes p → ((x : A) → Comes (f x)) → Comes (p >>= f)
then_comes (Done x) f c r = r x
then_comes (Broken at) f c r = absurd c
then_comes (Ask call next) f c r = (c.0, λ a. then_comes (next a) f (c.1 a) r)

read_comes : (o : Option (List ℕ)) → Comes (read_named o)
read_comes None = tt
read_comes (Some digest) = (tt, λ a. tt)

read_all_comes : (slots : List Slot) → Comes (read_all slots)
read_all_comes [] = tt
read_all_comes (x ∷ xs) = then_comes (read_named x.digest) (λ y. read_all xs >>= (λ ys. Done (y ∷ ys))) (read_comes x.digest) (λ y. then_comes (read_all xs) (λ ys. Done (y ∷ ys)) (read_all_comes xs) (λ ys. tt))

hash_comes : (o : Option (List ℕ)) → Comes (hash_read o)
hash_comes None = tt
hash_comes (Some bytes) = (tt, λ a. tt)

hash_all_comes : (reads : List (Option (List ℕ))) → Comes (hash_all reads)
hash_all_comes [] = tt
hash_all_comes (r ∷ rs) = then_comes (hash_read r) (λ _. hash_all rs) (hash_comes r) (λ _. hash_all_comes rs)

level_comes : (slots : List Slot) → Comes (read_level slots)
level_comes slots = then_comes (read_all slots) (λ reads. hash_all reads >>= (λ _. Done reads)) (read_all_comes slots) (λ reads. then_comes (hash_all reads) (λ _. Done reads) (hash_all_comes reads) (λ _. tt))

pub scan_comes : (F : Form) (h : ℕ) (slots : List Slot) → Comes (scan_from F h slots)
scan_comes F zero slots = then_comes (read_level slots) (λ reads. Done (found F slots reads)) (level_comes slots) (λ reads. tt)
scan_comes F (suc h) slots = then_comes (read_level slots) (λ reads. scan_from F h (next_level F slots reads)) (level_comes slots) (λ reads. scan_comes F h (next_level F slots reads))
