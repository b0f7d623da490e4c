-- What holds of the stores along the steps of a peer.
use Rattle.std.specs.Option.{IsSomeAnd}
use Rattle.std.specs.Prelude.{Option, None, Some}
use Rattle.std.proofs.Common.{sym, subst, ℕ, List, [], ◌∷◌, ◌++◌, Result, Ok, Err, inl, inr, arith}
use Rattle.peer_spec.specs.Drives.{step_of}
use Rattle.peer_spec.specs.TreeCalls.{TreeDoes, Walks, end_of, position_plan}
use Rattle.peer_state.specs.declared.state.State.{State}
use Rattle.register_model.specs.declared.note.Note.{Note}
use Rattle.step_plans.specs.Calls.{Call, FreshTree, OpenTree, Root, Find, Enter, ScanTree, ReadNode, Install, AnswerOf}
use Rattle.step_plans.specs.Plans.{Plan, Done, Say, Ask, Out, Finished, Runs}
use Rattle.step_plans.specs.declared.error.PeerError.{PeerError}
use Rattle.step_plans.specs.declared.walked.Walked.TheVariants as walks
use Rattle.synctree.specs.Plans as trees
use Rattle.synctree.specs.Plans.{Call as TreeCall, AnswerOf as TreeAnswer, Plan as TreePlan, Ends}
use Rattle.synctree.specs.Trees.{fresh_plan, get_plan, insert_plan, open_plan}
use Rattle.synctree.specs.declared.tree.Tree.{Tree}
use Rattle.synctree.specs.Sixteen.{form_of}
use Rattle.tree_node.specs.declared.position.Position.{Position}
use Rattle.tree_repair.specs.Rebuilds.{rebuild_plan}
use Rattle.tree_repair.specs.Levels.{scan_plan}
use Rattle.peer_turns.specs.Deeds.{Deed, Did}

-- what each call of a tree keeps holds at the end of its plan
pub ends_keep : {A S : Type 0} (does : S → (call : TreeCall) → TreeAnswer call → S → Type 0) (I : S → Type 0) → ((s t : S) (call : TreeCall) (a : TreeAnswer call) → does s call a t → I s → I t)
    → (p : TreePlan A) (s : S) (strings : List (List ℕ)) (end : Result A Position) (t : S) → Ends does p s strings end t → I s → I t
ends_keep does I keeps (trees.Done x) s strings end t ends holds = subst I (sym ends.2) holds
ends_keep does I keeps (trees.Broken at) s strings end t ends holds = subst I (sym ends.2) holds
ends_keep does I keeps (trees.Ask call next) s strings end t ends holds = ends_keep does I keeps (next ends.0) ends.1 ends.2 end t ends.5 (keeps s ends.1 call ends.0 ends.3 holds)

from_some : {A Q : Type 0} (o : Option A) (P : A → Type 0) → IsSomeAnd o P → ((x : A) → P x → Q) → Q
from_some None P holds less = absurd holds
from_some (Some x) P holds less = less x holds

module _ {N H : Type 0} (does : N × H → (call : TreeCall) → TreeAnswer call → N × H → Type 0) (I : N × H → Type 0) (keeps : (s t : N × H) (call : TreeCall) (a : TreeAnswer call) → does s call a t → I s → I t) where
  walk_keeps : {A : Type 0} (p : TreePlan A) (s t : Tree N × H) (end : Result A Position) → Walks does p s end t → I (s.0.store, s.1) → I (t.0.store, t.1)
  walk_keeps p s t end walks holds = ends_keep does I keeps p (s.0.store, s.1) walks.0 end (t.0.store, t.1) walks.1 holds

  -- what each call of a tree keeps holds after a call of a peer to it
  pub tree_keeps : (s t : Tree N × H) (call : Call) (a : AnswerOf call) → TreeDoes does s call a t → I (s.0.store, s.1) → I (t.0.store, t.1)
  tree_keeps s t (FreshTree tree) a did holds = from_some t.0.top (λ (root : List ℕ). Walks does (fresh_plan (form_of tree)) s (Ok root) t) did (λ root walks. walk_keeps (fresh_plan (form_of tree)) s t (Ok root) walks holds)
  tree_keeps s t (OpenTree seal tree) a did holds = walk_keeps open_plan s t (Ok did.0) did.1 holds
  tree_keeps s t Root a did holds = subst (λ (y : H). I (t.0.store, y)) (sym did.2) (subst (λ (x : Tree N). I (x.store, s.1)) (sym did.1) holds)
  tree_keeps s t (Find key) a did holds = walk_keeps (get_plan (form_of s.0.version) s.0.top key) s t (end_of a) did.0 holds
  tree_keeps s t (Enter entry) (walks.Reached x) did holds =
      from_some t.0.top (λ (root : List ℕ). Walks does (insert_plan (form_of s.0.version) s.0.top entry) s (Ok root) t) did (λ root walks. walk_keeps (insert_plan (form_of s.0.version) s.0.top entry) s t (Ok root) walks holds)
  tree_keeps s t (Enter entry) (walks.Broken at) did holds = walk_keeps (insert_plan (form_of s.0.version) s.0.top entry) s t (Err at) did.0 holds
  tree_keeps s t ScanTree a did holds = walk_keeps (scan_plan (form_of s.0.version) s.0.top) s t (Ok a) did.0 holds
  tree_keeps s t (ReadNode at) a did holds = walk_keeps (position_plan s.0.version s.0.top at) s t (end_of a) did.0 holds
  tree_keeps s t (Install entries) a did holds = from_some t.0.top (λ (root : List ℕ). Walks does (rebuild_plan (form_of s.0.version) entries) s (Ok root) t) did (λ root walks. walk_keeps (rebuild_plan (form_of s.0.version) entries) s t (Ok root) walks holds)
  tree_keeps s t call a did holds = absurd did

module _ {S : Type 0} (does : S → (call : Call) → AnswerOf call → S → Type 0) (refuses : S → Call → PeerError → S → Type 0) (I : S → Type 0) (keeps : (s t : S) (call : Call) (a : AnswerOf call) → does s call a t → I s → I t) where
  -- what each call keeps holds at the end of a plan
  pub run_keeps : (p : Plan State) (s : S) (ns : List Note) (x : State) (out : Out) (t : S) (ms : List Note) → Runs does refuses p s ns (Finished x out) t ms → I s → I t
  run_keeps (Done y more) s ns x out t ms ran holds = elim ran [
    | inl cut ↦ let none : ⊥ = grind (arith, cut.0) in absurd none
    | inr end ↦ subst I (sym end.1) holds
  ]
  run_keeps (Say note p) s ns x out t ms ran holds = elim ran [
    | inl cut ↦ let none : ⊥ = grind (arith, cut.0) in absurd none
    | inr on ↦ run_keeps p s (ns ++ note ∷ []) x out t ms on holds
  ]
  run_keeps (Ask call next) s ns x out t ms ran holds = elim ran [
    | inl cut ↦ let none : ⊥ = grind (arith, cut.0) in absurd none
    | inr (inl off) ↦ let none : ⊥ = grind (arith, off.2) in absurd none
    | inr (inr on) ↦ run_keeps (next on.0) on.1 ns x out t ms on.3 (keeps s on.1 call on.0 on.2 holds)
  ]

  -- and after these steps
  pub did_keeps : (me : ℕ) (ds : List Deed) (x y : State) (s t : S) → Did does refuses me x s ds y t → I s → I t
  did_keeps me [] x y s t did holds = subst I (sym did.1) holds
  did_keeps me (d ∷ ds) x y s t did holds = did_keeps me ds did.0 y did.1 t did.3 (run_keeps (step_of me d.event x) s [] did.0 d.out did.1 d.notes did.2 holds)
