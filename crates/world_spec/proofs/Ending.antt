-- What the run of a plan over stores in memory comes to.
use Rattle.std.proofs.Common.{◌≡◌, ℕ, List, [], ◌∷◌, ◌++◌, Option, None, Some, Result, Ok, Err, Bool, true, false, refl, sym, subst, arith}
use Rattle.environment.specs.Stores.{NodeCall, Read, Write, Top, SetTop}
use Rattle.environment.specs.declared.memory.failing_call.Leaves.{Leaves}
use Rattle.world_spec.specs.Answers.{answered, looked, entered, whole, done}
use Rattle.world_spec.specs.Held.{Held, HeldStores, unless_failing}
use Rattle.world_spec.specs.HeldRuns.{Ended, run, either}
use Rattle.world_spec.specs.Walks.{End, Came, Broke, Failed, Walk, walk, nodes_failed}
use Rattle.world_spec.proofs.PeerSpec.{IsInside, get_inside, insert_inside, position_inside, IsWhole, scan_whole, rebuild_whole}
use Rattle.world_spec.specs.PeerSpec.{IsStepCall, IsSound, IsInTree, Reaches, first_state, opening_saved, position_plan}
use Rattle.peer_state.specs.declared.state.Mode.{Mode}
use Rattle.peer_state.specs.declared.state.State.{State}
use Rattle.step_plans.specs.Calls.{Call, Load, Save, FreshTree, OpenTree, Root, Find, Enter, ScanTree, ReadNode, Install, Fetch, Put, Hash, AnswerOf}
use Rattle.step_plans.specs.Plans.{Plan, Done, Say, Ask, Out, Ending, Finished, Stopped, Follows}
use Rattle.step_plans.specs.declared.error.PeerError.{PeerError}
use Rattle.step_plans.specs.declared.walked.Walked.{Walked}
use Rattle.step_plans.specs.declared.walked.Walked.TheVariants.{Reached, Broken as Damaged}
use Rattle.register_model.specs.declared.note.Note.{Note}
use Rattle.tree_node.specs.declared.version.TreeVersion.{TreeVersion}
use Rattle.tree_node.specs.declared.version.TreeVersion.TheVariants.{Two}
use Rattle.synctree.specs.Plans as tree
use Rattle.synctree.specs.Trees.{get_plan, insert_plan}
use Rattle.synctree.specs.Sixteen.{form_of}
use Rattle.tree_node.specs.Positions.{IsPosition}
use Rattle.tree_node.specs.declared.position.Position.{Position}
use Rattle.world_stores.specs.TreeRepair.{rebuild_plan}
use Rattle.world_spec.specs.TreeRepair.{scan_plan}
use Rattle.world_spec.specs.Laws.{IsFinished, NoneWaits}
use Rattle.world_spec.specs.Nodes.{Node, Up, opening_node}
use Rattle.world_stores.specs.Nodes.{Nodes, refusal, answer, after}

-- ## Damage is found at positions of the tree alone

-- the position at which a walk broke
walk_inside : {A : Type 0} (p : tree.Plan A) (s : Nodes) (hashed : List (List ℕ)) (at : Position) → IsInside Two p → (walk p s hashed).end ≡ Broke at → IsPosition Two at
unfolding walk
walk_inside (tree.Done x) s hashed at inside is = let none : ⊥ = grind (arith, is) in absurd none
walk_inside (tree.Broken here) s hashed at inside is = let same : here ≡ at = grind (arith, is) in subst (λ k. IsPosition Two k) same inside
walk_inside (tree.Ask (tree.Hash bytes) next) s hashed at inside is = walk_inside (next tt) s (hashed ++ bytes ∷ []) at (inside tt) is
walk_inside (tree.Ask (tree.Node call) next) s hashed at inside is = by_failure (refusal s call) is (λ went. walk_inside (next (answer s call)) (after s call) hashed at (inside (answer s call)) went) where
  by_failure : (o : Option Leaves) → (unless_failing o (walk (next (answer s call)) (after s call) hashed) (λ leaves. record { end = Failed; nodes = nodes_failed s call leaves; hashed = hashed })).end ≡ Broke at
      → ((walk (next (answer s call)) (after s call) hashed).end ≡ Broke at → IsPosition Two at) → IsPosition Two at
  by_failure None is goes = goes is
  by_failure (Some leaves) is goes = let none : ⊥ = grind (arith, is) in absurd none

looked_inside : {A : Type 0} (end : End A) (a : Walked A) → ((at : Position) → end ≡ Broke at → IsPosition Two at) → looked end ≡ Ok a → IsInTree a
looked_inside end (Reached x) inside is = tt
looked_inside (Came x) (Damaged at) inside is = let none : ⊥ = grind (arith, is) in absurd none
looked_inside (Broke here) (Damaged at) inside is = let same : here ≡ at = grind (arith, is) in subst (λ k. IsPosition Two k) same (inside here refl)
looked_inside Failed (Damaged at) inside is = let none : ⊥ = grind (arith, is) in absurd none

entered_inside : (end : End (List ℕ)) (a : Walked (Unit {0})) → ((at : Position) → end ≡ Broke at → IsPosition Two at) → entered end ≡ Ok a → IsInTree a
entered_inside end (Reached x) inside is = tt
entered_inside (Came x) (Damaged at) inside is = let none : ⊥ = grind (arith, is) in absurd none
entered_inside (Broke here) (Damaged at) inside is = let same : here ≡ at = grind (arith, is) in subst (λ k. IsPosition Two k) same (inside here refl)
entered_inside Failed (Damaged at) inside is = let none : ⊥ = grind (arith, is) in absurd none

answered_sound : (call : Call) (h : Held) (a : AnswerOf call) → (answered call h).result ≡ Ok a → IsSound call a
answered_sound (Find key) h a is =
    let plan = get_plan (form_of h.stores.tree.version) h.stores.tree.top key in
    looked_inside (walk plan h.stores.tree.store h.hashed).end a (λ at broke. walk_inside plan h.stores.tree.store h.hashed at (get_inside h.stores.tree.version h.stores.tree.top key) broke) is
answered_sound (Enter entry) h a is =
    let plan = insert_plan (form_of h.stores.tree.version) h.stores.tree.top entry in
    entered_inside (walk plan h.stores.tree.store h.hashed).end a (λ at broke. walk_inside plan h.stores.tree.store h.hashed at (insert_inside h.stores.tree.version h.stores.tree.top entry) broke) is
answered_sound Load h a is = tt
answered_sound (Save fact) h a is = tt
answered_sound (FreshTree tree) h a is = tt
answered_sound (OpenTree seal tree) h a is = tt
answered_sound Root h a is = tt
answered_sound ScanTree h a is = tt
answered_sound (ReadNode at) h a is = λ inside.
    let plan = position_plan h.stores.tree.version h.stores.tree.top at in
    looked_inside (walk plan h.stores.tree.store h.hashed).end a (λ place broke. walk_inside plan h.stores.tree.store h.hashed place (position_inside h.stores.tree.version h.stores.tree.top at inside) broke) is
answered_sound (Install entries) h a is = tt
answered_sound (Fetch key) h a is = tt
answered_sound (Put key bytes) h a is = tt
answered_sound (Hash bytes) h a is = tt

-- the plan stopped, or its end satisfies P
abbrev pub EndsIn : (State → Out → Type 0) → Ending State → Type 0
EndsIn P (Finished x out) = P x out
EndsIn P (Stopped error) = Unit {0}

-- the run of a plan ends as the plan does
pub run_reaches : (P : State → Out → Type 0) (p : Plan State) (h : Held) (ns : List Note) → Reaches P p → EndsIn P (run p h ns).ending
run_reaches P (Done x out) h ns reaches = reaches
run_reaches P (Say n p) h ns reaches = run_reaches P p h (ns ++ n ∷ []) reaches
run_reaches P (Ask call next) h ns reaches = by_answer (answered call h).result refl (λ a is. run_reaches P (next a) (answered call h).held ns (reaches a (answered_sound call h a is))) where
  by_answer : (r : Result (AnswerOf call) PeerError) → (answered call h).result ≡ r → ((a : AnswerOf call) → (answered call h).result ≡ Ok a → EndsIn P (run (next a) (answered call h).held ns).ending)
      → EndsIn P (either r (λ a. run (next a) (answered call h).held ns) (λ error. record { ending = Stopped error; held = (answered call h).held; notes = ns })).ending
  by_answer (Ok a) is goes = goes a is
  by_answer (Err error) is goes = tt

-- ## A step ends well if no failure waits

after_waits : (s : Nodes) (call : NodeCall) → (after s call).faults ≡ s.faults
after_waits s (Read digest) = refl
after_waits s (Write digest bytes) = refl
after_waits s Top = refl
after_waits s (SetTop digest) = refl

pub none_refused : (s : Nodes) (call : NodeCall) → s.faults.pending ≡ None → refusal s call ≡ None
none_refused s (Read digest) none = refl
none_refused s (Write digest bytes) none = refl
none_refused s Top none = refl
none_refused s (SetTop digest) none = none

-- the walk did not fail, and no failure waits after it
record IsUnfailing {A : Type 0} (w : Walk A) : Type 0 where
  end : w.end ≡ Failed → ⊥
  none : w.nodes.faults.pending ≡ None

walk_unfailing : {A : Type 0} (p : tree.Plan A) (s : Nodes) (hashed : List (List ℕ)) → s.faults.pending ≡ None → IsUnfailing (walk p s hashed)
unfolding walk
walk_unfailing (tree.Done x) s hashed none = record { end = λ is. let no : ⊥ = grind (arith, is) in no; none = none }
walk_unfailing (tree.Broken at) s hashed none = record { end = λ is. let no : ⊥ = grind (arith, is) in no; none = none }
walk_unfailing (tree.Ask (tree.Hash bytes) next) s hashed none = walk_unfailing (next tt) s (hashed ++ bytes ∷ []) none
walk_unfailing (tree.Ask (tree.Node call) next) s hashed none =
    subst (λ (o : Option Leaves). IsUnfailing (unless_failing o (walk (next (answer s call)) (after s call) hashed) (λ leaves. record { end = Failed; nodes = nodes_failed s call leaves; hashed = hashed }))) (sym (none_refused s call none))
    (walk_unfailing (next (answer s call)) (after s call) hashed (rw (after_waits s call) none))

-- the walk of a plan that reports no damage meets none
walk_whole : {A : Type 0} (p : tree.Plan A) (s : Nodes) (hashed : List (List ℕ)) (at : Position) → IsWhole p → (walk p s hashed).end ≡ Broke at → ⊥
unfolding walk
walk_whole (tree.Done x) s hashed at whole is = let none : ⊥ = grind (arith, is) in none
walk_whole (tree.Broken here) s hashed at whole is = whole
walk_whole (tree.Ask (tree.Hash bytes) next) s hashed at whole is = walk_whole (next tt) s (hashed ++ bytes ∷ []) at (whole tt) is
walk_whole (tree.Ask (tree.Node call) next) s hashed at whole is = by_failure (refusal s call) is (λ went. walk_whole (next (answer s call)) (after s call) hashed at (whole (answer s call)) went) where
  by_failure : (o : Option Leaves) → (unless_failing o (walk (next (answer s call)) (after s call) hashed) (λ leaves. record { end = Failed; nodes = nodes_failed s call leaves; hashed = hashed })).end ≡ Broke at
      → ((walk (next (answer s call)) (after s call) hashed).end ≡ Broke at → ⊥) → ⊥
  by_failure None is goes = goes is
  by_failure (Some leaves) is goes = let none : ⊥ = grind (arith, is) in none

-- the call was answered, and no failure waits after it
record IsAnswered (call : Call) (h : Held) : Type 0 where
  answer : AnswerOf call
  is : (answered call h).result ≡ Ok answer
  none : NoneWaits (answered call h).held.stores

looked_answer : {A : Type 0} (end : End A) → (end ≡ Failed → ⊥) → (a : Walked A) × (looked end ≡ Ok a)
looked_answer (Came x) goes = (Reached x, refl)
looked_answer (Broke at) goes = (Damaged at, refl)
looked_answer Failed goes = absurd (goes refl)

entered_answer : (end : End (List ℕ)) → (end ≡ Failed → ⊥) → (a : Walked (Unit {0})) × (entered end ≡ Ok a)
entered_answer (Came x) goes = (Reached tt, refl)
entered_answer (Broke at) goes = (Damaged at, refl)
entered_answer Failed goes = absurd (goes refl)

whole_answer : {A : Type 0} (end : End A) → (end ≡ Failed → ⊥) → ((at : Position) → end ≡ Broke at → ⊥) → (a : A) × (whole end ≡ Ok a)
whole_answer (Came x) goes sound = (x, refl)
whole_answer (Broke at) goes sound = absurd (sound at refl)
whole_answer Failed goes sound = absurd (goes refl)

done_answer : {A : Type 0} (end : End A) → (end ≡ Failed → ⊥) → ((at : Position) → end ≡ Broke at → ⊥) → done end ≡ Ok tt
done_answer (Came x) goes sound = refl
done_answer (Broke at) goes sound = absurd (sound at refl)
done_answer Failed goes sound = absurd (goes refl)

is_answered : (call : Call) (h : Held) → IsStepCall call → NoneWaits h.stores → IsAnswered call h
is_answered (Find key) h one none =
    let went = walk_unfailing (get_plan (form_of h.stores.tree.version) h.stores.tree.top key) h.stores.tree.store h.hashed none.tree in
    let found = looked_answer (walk (get_plan (form_of h.stores.tree.version) h.stores.tree.top key) h.stores.tree.store h.hashed).end went.end in
    record { answer = found.0; is = found.1; none = record { facts = none.facts; tree = went.none; backend = none.backend } }
is_answered (Enter entry) h one none =
    let went = walk_unfailing (insert_plan (form_of h.stores.tree.version) h.stores.tree.top entry) h.stores.tree.store h.hashed none.tree in
    let came = entered_answer (walk (insert_plan (form_of h.stores.tree.version) h.stores.tree.top entry) h.stores.tree.store h.hashed).end went.end in
    record { answer = came.0; is = came.1; none = record { facts = none.facts; tree = went.none; backend = none.backend } }
is_answered (Save fact) h one none = rw none.facts (record { answer = tt; is = refl; none = record { facts = refl; tree = none.tree; backend = none.backend } })
is_answered (Put key bytes) h one none = rw none.backend (record { answer = tt; is = refl; none = record { facts = none.facts; tree = none.tree; backend = refl } })
is_answered (Fetch key) h one none = record { answer = _; is = refl; none = none }
is_answered (Hash bytes) h one none = record { answer = _; is = refl; none = record { facts = none.facts; tree = none.tree; backend = none.backend } }
is_answered Load h one none = absurd one
is_answered (FreshTree tree) h one none = absurd one
is_answered (OpenTree seal tree) h one none = absurd one
is_answered Root h one none = record { answer = _; is = refl; none = none }
is_answered ScanTree h one none =
    let plan = scan_plan (form_of h.stores.tree.version) h.stores.tree.top in
    let went = walk_unfailing plan h.stores.tree.store h.hashed none.tree in
    let came = whole_answer (walk plan h.stores.tree.store h.hashed).end went.end (λ at broke. walk_whole plan h.stores.tree.store h.hashed at (scan_whole (form_of h.stores.tree.version) h.stores.tree.top) broke) in
    record { answer = came.0; is = came.1; none = record { facts = none.facts; tree = went.none; backend = none.backend } }
is_answered (ReadNode at) h one none =
    let plan = position_plan h.stores.tree.version h.stores.tree.top at in
    let went = walk_unfailing plan h.stores.tree.store h.hashed none.tree in
    let came = looked_answer (walk plan h.stores.tree.store h.hashed).end went.end in
    record { answer = came.0; is = came.1; none = record { facts = none.facts; tree = went.none; backend = none.backend } }
is_answered (Install entries) h one none =
    let plan = rebuild_plan (form_of h.stores.tree.version) entries in
    let went = walk_unfailing plan h.stores.tree.store h.hashed none.tree in
    let came = done_answer (walk plan h.stores.tree.store h.hashed).end went.end (λ at broke. walk_whole plan h.stores.tree.store h.hashed at (rebuild_whole (form_of h.stores.tree.version) entries) broke) in
    record { answer = tt; is = came; none = record { facts = none.facts; tree = went.none; backend = none.backend } }

-- the plan ended well, where P holds, and no write is to fail after it
pub record Finishes (P : State → Out → Type 0) (e : Ended State) : Type 0 where
  pub finished : IsFinished e
  pub holds : P finished.state finished.out

-- the run of a plan that makes only calls of steps ends well if no failure waits
pub run_finishes : (P : State → Out → Type 0) (p : Plan State) (h : Held) (ns : List Note) → Follows IsStepCall P p → NoneWaits h.stores → Finishes P (run p h ns)
run_finishes P (Done x out) h ns follows none = record { finished = record { state = x; out = out; ending = refl; none = none }; holds = follows }
run_finishes P (Say n p) h ns follows none = run_finishes P p h (ns ++ n ∷ []) follows none
run_finishes P (Ask call next) h ns follows none =
    let came = is_answered call h follows.0 none in
    subst (λ (r : Result (AnswerOf call) PeerError). Finishes P (either r (λ a. run (next a) (answered call h).held ns) (λ error. record { ending = Stopped error; held = (answered call h).held; notes = ns }))) (sym came.is)
    (run_finishes P (next came.answer) (answered call h).held ns (follows.1 came.answer) came.none)

-- ## Start on empty stores

-- the peer runs with the opening fact, which its stores keep with this seal, and no write is to fail
pub record IsOpening (mode : Mode) (view : List ℕ) (node : Node) : Type 0 where
  pub seal : Option (List ℕ)
  pub stores : HeldStores
  pub is : node ≡ Up (first_state mode (opening_saved view seal) true) stores
  pub kept : stores.facts.kept ≡ Some (opening_saved view seal)
  pub none : NoneWaits stores

pub opening_is : (seals : Bool) (version : TreeVersion) (view : List ℕ) → IsOpening (record { sealing = seals; tree = version }) view (opening_node (record { sealing = seals; tree = version }) view)
unfolding walk
opening_is false version view = record { seal = None; stores = _; is = refl; kept = refl; none = record { facts = refl; tree = refl; backend = refl } }
opening_is true version view = record { seal = _; stores = _; is = refl; kept = refl; none = record { facts = refl; tree = refl; backend = refl } }
