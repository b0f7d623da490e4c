-- The top record names the root of the tree, after each call that writes it.
use Rattle.std.proofs.Common.{◌≡◌, ℕ, zero, suc, ◌-◌, List, [], ◌∷◌, ◌++◌, Option, None, Some, length, get_or, set, replicate, refl, ap, ◌∙◌, subst, sym, arith, length-append}
use Rattle.std.specs.Prelude.{slice_get}
use Rattle.ens_base.specs.declared.entry.Entry.{Entry}
use Rattle.environment.specs.Stores.{Read, Write, Top, SetTop}
use Rattle.world_spec.specs.Answers.{root_after}
use Rattle.world_spec.specs.Walks.{End, Came, Broke, Failed, Walk, walk, nodes_failed}
use Rattle.synctree.specs.Installs.{write_all, install_plan}
use Rattle.synctree.specs.Plans.{Call, Node, Hash, AnswerOf, Plan, Done, Broken, Ask, ◌>>=◌}
use Rattle.synctree.specs.Trees.{fresh_plan, insert_plan}
use Rattle.synctree.specs.Walks.{open_node, reach, store, set_top, enter}
use Rattle.synctree.specs.declared.stored_node.StoredNode.{StoredNode}
use Rattle.synctree.specs.Entries.{put}
use Rattle.synctree.specs.Forms.{Form, child, root}
use Rattle.synctree.specs.Maps.{text}
use Rattle.tree_node.specs.declared.position.Position.{Position}
use Rattle.world_stores.specs.TreeRepair.{build_nodes, build_of, hash_all, rebuild_plan}
use Rattle.world_stores.specs.Nodes.{Nodes, top_of, answer, after}
use Rattle.peer_refinement.proofs.Walking.{OnlyReads, open_reads, onward_reads}
use Rattle.peer_refinement.proofs.Arriving.{goes_on}

-- the call does not write the top record
abbrev LeavesTop : Call → Type 0
LeavesTop (Node (SetTop digest)) = ⊥
LeavesTop call = Unit {0}

-- so it is with each call of the plan
abbrev WritesNoTop : {A : Type 0} → Plan A → Type 0
WritesNoTop (Done x) = Unit {0}
WritesNoTop (Broken at) = Unit {0}
WritesNoTop (Ask call next) = LeavesTop call × ((a : AnswerOf call) → WritesNoTop (next a))

-- the plan writes the top record once, at its end, and returns what it wrote
abbrev pub WritesTopLast : Plan (List ℕ) → Type 0
WritesTopLast (Done x) = ⊥
WritesTopLast (Broken at) = Unit {0}
WritesTopLast (Ask (Node (SetTop digest)) next) = next tt ≡ Done digest
WritesTopLast (Ask call next) = (a : AnswerOf call) → WritesTopLast (next a)

-- what the top record held before and after the walk of such a plan that does not fail
abbrev Recorded : List (List ℕ) → End (List ℕ) → List (List ℕ) → Type 0
Recorded tops (Came digest) later = top_of later ≡ Some digest
Recorded tops (Broke at) later = later ≡ tops
Recorded tops Failed later = ⊥

-- ## Walks

-- the top record is the last that was written
pub last_top : (tops : List (List ℕ)) (digest : List ℕ) → top_of (tops ++ digest ∷ []) ≡ Some digest
last_top tops digest =
    let place : length (tops ++ digest ∷ []) - 1 ≡ length tops = omega (arith, length-append tops (digest ∷ [])) in
    ap (λ (n : ℕ). slice_get (tops ++ digest ∷ []) n) place ∙ last tops
  where
    last : (ts : List (List ℕ)) → slice_get (ts ++ digest ∷ []) (length ts) ≡ Some digest
    last [] = refl
    last (t ∷ ts) = last ts

written : (s : Nodes) (hashed : List (List ℕ)) (digest : List ℕ) (p : Plan (List ℕ)) → p ≡ Done digest → let w = walk p (after s (SetTop digest)) hashed in Recorded s.tops w.end w.nodes.tops
unfolding walk
written s hashed digest p is = subst (λ (q : Plan (List ℕ)). let w = walk q (after s (SetTop digest)) hashed in Recorded s.tops w.end w.nodes.tops) (sym is) (last_top s.tops digest)

recorded : (p : Plan (List ℕ)) (s : Nodes) (hashed : List (List ℕ)) → s.faults.pending ≡ None → WritesTopLast p → let w = walk p s hashed in Recorded s.tops w.end w.nodes.tops
unfolding walk
recorded (Done x) s hashed none last = absurd last
recorded (Broken at) s hashed none last = refl
recorded (Ask (Hash bytes) next) s hashed none last = recorded (next tt) s (hashed ++ bytes ∷ []) none (last tt)
recorded (Ask (Node (Read digest)) next) s hashed none last = recorded (next (answer s (Read digest))) s hashed none (last (answer s (Read digest)))
recorded (Ask (Node (Write digest bytes)) next) s hashed none last = recorded (next tt) (after s (Write digest bytes)) hashed none (last tt)
recorded (Ask (Node Top) next) s hashed none last = recorded (next (answer s Top)) s hashed none (last (answer s Top))
recorded (Ask (Node (SetTop digest)) next) s hashed none last = goes_on (λ (w : Walk (List ℕ)). Recorded s.tops w.end w.nodes.tops) s.faults.pending (walk (next tt) (after s (SetTop digest)) hashed)
    (λ leaves. record { end = Failed; nodes = nodes_failed s (SetTop digest) leaves; hashed = hashed }) none (written s hashed digest (next tt) last)

-- the top record names the root after such a walk if it named the root before
pub root_recorded : (p : Plan (List ℕ)) (s : Nodes) (hashed : List (List ℕ)) (old : Option (List ℕ)) → s.faults.pending ≡ None → WritesTopLast p → top_of s.tops ≡ old → let w = walk p s hashed in top_of w.nodes.tops ≡ root_after old w.end
root_recorded p s hashed old none last is = by (walk p s hashed).end (recorded p s hashed none last)
  where
    by : (end : End (List ℕ)) → Recorded s.tops end (walk p s hashed).nodes.tops → top_of (walk p s hashed).nodes.tops ≡ root_after old end
    by (Came digest) r = r
    by (Broke at) r = ap top_of r ∙ is
    by Failed r = absurd r

-- ## Plans

then_no_top : {A B : Type 0} (p : Plan A) (f : A → Plan B) → WritesNoTop p → ((x : A) → WritesNoTop (f x)) → WritesNoTop (p >>= f)
then_no_top (Done x) f q r = r x
then_no_top (Broken at) f q r = tt
then_no_top (Ask call next) f q r = (q.0, λ a. then_no_top (next a) f (q.1 a) r)

then_last : {A : Type 0} (p : Plan A) (f : A → Plan (List ℕ)) → WritesNoTop p → ((x : A) → WritesTopLast (f x)) → WritesTopLast (p >>= f)
then_last (Done x) f q r = r x
then_last (Broken at) f q r = tt
then_last (Ask (Hash bytes) next) f q r = λ a. then_last (next a) f (q.1 a) r
then_last (Ask (Node (Read digest)) next) f q r = λ a. then_last (next a) f (q.1 a) r
then_last (Ask (Node (Write digest bytes)) next) f q r = λ a. then_last (next a) f (q.1 a) r
then_last (Ask (Node Top) next) f q r = λ a. then_last (next a) f (q.1 a) r
then_last (Ask (Node (SetTop digest)) next) f q r = absurd q.0

reading_no_top : {A : Type 0} (p : Plan A) → OnlyReads p → WritesNoTop p
reading_no_top (Done x) q = tt
reading_no_top (Broken at) q = tt
reading_no_top (Ask (Hash bytes) next) q = (tt, λ a. reading_no_top (next a) (q.1 a))
reading_no_top (Ask (Node (Read digest)) next) q = (tt, λ a. reading_no_top (next a) (q.1 a))
reading_no_top (Ask (Node (Write digest bytes)) next) q = absurd q.0
reading_no_top (Ask (Node Top) next) q = (tt, λ a. reading_no_top (next a) (q.1 a))
reading_no_top (Ask (Node (SetTop digest)) next) q = absurd q.0

reach_no_top : {A : Type 0} (node_at : List ℕ → Option A) (empty : A) (at : Position) (named : Option (List ℕ)) → WritesNoTop (reach node_at empty at named)
reach_no_top node_at empty at named = reading_no_top (reach node_at empty at named) (onward_reads empty (open_node node_at at) (open_reads node_at at) named)

store_no_top : (bytes : List ℕ) → WritesNoTop (store bytes)
store_no_top bytes = (tt, λ a. (tt, λ b. tt))

hash_all_no_top : (ts : List (List ℕ)) → WritesNoTop (hash_all ts)
hash_all_no_top [] = tt
hash_all_no_top (t ∷ ts) = (tt, λ a. hash_all_no_top ts)

write_all_no_top : (nodes : List StoredNode) → WritesNoTop (write_all nodes)
write_all_no_top [] = tt
write_all_no_top (n ∷ nodes) = (tt, λ a. write_all_no_top nodes)

module _ (F : Form) where
  enter_no_top : (h : ℕ) (at : Position) (named : Option (List ℕ)) (e : Entry) → WritesNoTop (enter F h at named e)
  enter_no_top zero at named e = then_no_top (reach (F.segment_at at) [] at named) (λ entries. store (F.segment_text at (put e entries))) (reach_no_top (F.segment_at at) [] at named) (λ entries. store_no_top (F.segment_text at (put e entries)))
  enter_no_top (suc h) at named e = then_no_top (reach (F.inner_at at) (replicate F.width None) at named)
      (λ names. enter F h (child F at (F.digit e.key at.level)) (get_or names (F.digit e.key at.level) None) e >>= (λ below. store (F.inner_text at (set names (F.digit e.key at.level) (Some below))))) (reach_no_top (F.inner_at at) (replicate F.width None) at named)
      (λ names. then_no_top (enter F h (child F at (F.digit e.key at.level)) (get_or names (F.digit e.key at.level) None) e) (λ below. store (F.inner_text at (set names (F.digit e.key at.level) (Some below))))
      (enter_no_top h (child F at (F.digit e.key at.level)) (get_or names (F.digit e.key at.level) None) e) (λ below. store_no_top (F.inner_text at (set names (F.digit e.key at.level) (Some below)))))

  pub insert_last : (top : Option (List ℕ)) (e : Entry) → WritesTopLast (insert_plan F top e)
  insert_last None e = λ a. tt
  insert_last (Some digest) e = λ a. then_last (enter F F.depth root (Some digest) e) set_top (enter_no_top F.depth root (Some digest) e) (λ new. refl)

  pub fresh_last : WritesTopLast (fresh_plan F)
  fresh_last = then_last (store (text F F.depth root [])) set_top (store_no_top (text F F.depth root [])) (λ new. refl)

  pub rebuild_last : (m : List Entry) → WritesTopLast (rebuild_plan F m)
  rebuild_last m = then_last (hash_all (build_nodes F m)) (λ v. install_plan (build_of F m).nodes (build_of F m).top) (hash_all_no_top (build_nodes F m))
      (λ v. then_last (write_all (build_of F m).nodes) (λ w. set_top (build_of F m).top) (write_all_no_top (build_of F m).nodes) (λ w. refl))
