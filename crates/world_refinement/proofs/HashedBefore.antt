-- A run of a plan over strings that were hashed before is the run over none, behind these strings.
use Rattle.std.proofs.Common.{◌≡◌, ℕ, List, [], ◌∷◌, ◌++◌, Option, None, Some, Result, Ok, Err, refl, sym, ap, ◌∙◌, append_assoc, append-nil}
use Rattle.environment.specs.Maps.{with_value}
use Rattle.environment.specs.declared.memory.failing_call.Leaves.{Leaves}
use Rattle.peer_refinement.specs.WorldSpec.{Answered, answered, looked, entered, whole, done, root_after, root_read, root_kept, by_walk, with_facts, with_backend, facts_failed, objects_failed, Held, HeldStores, unless_failing, held_with, Ended, run, either, Failed, Walk, walk, nodes_failed}
use Rattle.peer_state.specs.declared.state.State.{State}
use Rattle.register_model.specs.declared.note.Note.{Note}
use Rattle.step_plans.specs.Calls.{Call, AnswerOf, Load, Save, FreshTree, OpenTree, Root, Find, Enter, ScanTree, ReadNode, Install, Fetch, Put, Hash}
use Rattle.step_plans.specs.Plans.{Plan, Done, Say, Ask, Stopped}
use Rattle.step_plans.specs.declared.error.PeerError.{PeerError}
use Rattle.step_plans.specs.declared.error.PeerError.TheVariants.{StoreFault}
use Rattle.peer_refinement.specs.PeerSpec.{position_plan}
use Rattle.synctree.specs.Plans as plans
use Rattle.synctree.specs.Trees.{open_plan, fresh_plan, get_plan, insert_plan}
use Rattle.synctree.specs.Sixteen.{form_of}
use Rattle.tree_repair.specs.Rebuilds.{rebuild_plan}
use Rattle.tree_repair.specs.Levels.{scan_plan}
use Rattle.world_spec.specs.Nodes.{run_over}
use Rattle.world_stores.specs.Nodes.{Nodes, refusal, answer, after}

-- these strings were hashed before all others
abbrev pub behind : List (List ℕ) → Held → Held
behind xs h = record h { hashed = xs ++ h.hashed }

-- the end of a run, behind these strings
abbrev pub ended_behind : List (List ℕ) → Ended State → Ended State
ended_behind xs e = record e { held = behind xs e.held }

abbrev walk_behind : {A : Type 0} → List (List ℕ) → Walk A → Walk A
walk_behind xs w = record w { hashed = xs ++ w.hashed }

abbrev answered_behind : {call : Call} → List (List ℕ) → Answered call → Answered call
answered_behind xs a = record a { held = behind xs a.held }

walks_behind : {A : Type 0} (p : plans.Plan A) (s : Nodes) (xs ys : List (List ℕ)) → walk p s (xs ++ ys) ≡ walk_behind xs (walk p s ys)
unfolding walk
walks_behind (plans.Done x) s xs ys = refl
walks_behind (plans.Broken at) s xs ys = refl
walks_behind (plans.Ask (plans.Hash bytes) next) s xs ys = ap (λ zs. walk (next tt) s zs) (append_assoc xs ys (bytes ∷ [])) ∙ walks_behind (next tt) s xs (ys ++ bytes ∷ [])
walks_behind (plans.Ask (plans.Node call) next) s xs ys = by_failure (refusal s call) (walks_behind (next (answer s call)) (after s call) xs ys)
  where
    by_failure : (o : Option Leaves) → walk (next (answer s call)) (after s call) (xs ++ ys) ≡ walk_behind xs (walk (next (answer s call)) (after s call) ys)
        → unless_failing o (walk (next (answer s call)) (after s call) (xs ++ ys)) (λ leaves. record { end = Failed; nodes = nodes_failed s call leaves; hashed = xs ++ ys })
        ≡ walk_behind xs (unless_failing o (walk (next (answer s call)) (after s call) ys) (λ leaves. record { end = Failed; nodes = nodes_failed s call leaves; hashed = ys }))
    by_failure None same = same
    by_failure (Some leaves) same = refl

-- a write of a fact or an object
written_behind : {call : Call} (xs : List (List ℕ)) (o : Option Leaves) (goes : Answered call) (fails : Leaves → Answered call) → unless_failing o (answered_behind xs goes) (λ leaves. answered_behind xs (fails leaves)) ≡ answered_behind xs (unless_failing o goes fails)
written_behind xs None goes fails = refl
written_behind xs (Some leaves) goes fails = refl

answers_behind : (call : Call) (xs : List (List ℕ)) (h : Held) → answered call (behind xs h) ≡ answered_behind xs (answered call h)
answers_behind Load xs h = refl
answers_behind (Save fact) xs h = written_behind xs h.stores.facts.faults.pending (record { result = Ok tt; held = with_facts (record h.stores.facts { kept = Some fact }) h })
    (λ leaves. record { result = Err StoreFault; held = with_facts (facts_failed h.stores.facts (record h.stores.facts { kept = Some fact }) leaves) h })
answers_behind (FreshTree tree) xs h = ap (λ w. by_walk (FreshTree tree) done root_after w (behind xs h)) (walks_behind (fresh_plan (form_of tree)) h.stores.tree.store xs h.hashed)
answers_behind (OpenTree seal tree) xs h = ap (λ w. by_walk (OpenTree seal tree) done (root_read seal) w (behind xs h)) (walks_behind open_plan h.stores.tree.store xs h.hashed)
answers_behind Root xs h = refl
answers_behind (Find key) xs h = ap (λ w. by_walk (Find key) looked root_kept w (behind xs h)) (walks_behind (get_plan (form_of h.stores.tree.version) h.stores.tree.top key) h.stores.tree.store xs h.hashed)
answers_behind (Enter entry) xs h = ap (λ w. by_walk (Enter entry) entered root_after w (behind xs h)) (walks_behind (insert_plan (form_of h.stores.tree.version) h.stores.tree.top entry) h.stores.tree.store xs h.hashed)
answers_behind ScanTree xs h = ap (λ w. by_walk ScanTree whole root_kept w (behind xs h)) (walks_behind (scan_plan (form_of h.stores.tree.version) h.stores.tree.top) h.stores.tree.store xs h.hashed)
answers_behind (ReadNode at) xs h = ap (λ w. by_walk (ReadNode at) looked root_kept w (behind xs h)) (walks_behind (position_plan h.stores.tree.version h.stores.tree.top at) h.stores.tree.store xs h.hashed)
answers_behind (Install entries) xs h = ap (λ w. by_walk (Install entries) done root_after w (behind xs h)) (walks_behind (rebuild_plan (form_of h.stores.tree.version) entries) h.stores.tree.store xs h.hashed)
answers_behind (Fetch key) xs h = refl
answers_behind (Put key bytes) xs h = written_behind xs h.stores.backend.faults.pending (record { result = Ok tt; held = with_backend (record h.stores.backend { entries = with_value key bytes h.stores.backend.entries }) h })
    (λ leaves. record { result = Err StoreFault; held = with_backend (objects_failed h.stores.backend (record h.stores.backend { entries = with_value key bytes h.stores.backend.entries }) leaves) h })
answers_behind (Hash bytes) xs h = ap (λ zs. record { result = (answered (Hash bytes) h).result; held = record h { hashed = zs } }) (append_assoc xs h.hashed (bytes ∷ []))

runs_behind : (plan : Plan State) (xs : List (List ℕ)) (h : Held) (ns : List Note) → run plan (behind xs h) ns ≡ ended_behind xs (run plan h ns)
runs_behind (Done x out) xs h ns = refl
runs_behind (Say n plan) xs h ns = runs_behind plan xs h (ns ++ n ∷ [])
runs_behind (Ask call next) xs h ns =
    ap (λ (a : Answered call). either {R = Ended State} a.result (λ v. run (next v) a.held ns) (λ error. record { ending = Stopped error; held = a.held; notes = ns })) (answers_behind call xs h)
    ∙ by_result (answered call h).result (answered call h).held (λ v held. runs_behind (next v) xs held ns)
  where
    by_result : (r : Result (AnswerOf call) PeerError) (held : Held) → ((v : AnswerOf call) (held : Held) → run (next v) (behind xs held) ns ≡ ended_behind xs (run (next v) held ns)) → either {R = Ended State} r (λ v. run (next v) (behind xs held) ns) (λ error. record { ending = Stopped error; held = behind xs held; notes = ns })
        ≡ ended_behind xs (either {R = Ended State} r (λ v. run (next v) held ns) (λ error. record { ending = Stopped error; held = held; notes = ns }))
    by_result (Ok v) held rest = rest v held
    by_result (Err error) held rest = refl

-- a step of a node runs as if nothing was hashed before
pub run_behind : (plan : Plan State) (stores : HeldStores) (xs : List (List ℕ)) → run plan (held_with stores xs) [] ≡ ended_behind xs (run_over plan stores)
run_behind plan stores xs = ap (λ zs. run plan (held_with stores zs) []) (sym (append-nil xs)) ∙ runs_behind plan xs (held_with stores []) []
