-- In a schedule every message obeys the grammar, every peer sends as itself, and no running peer has waited
-- long.
use Rattle.std.proofs.Common.{◌≡◌, ℕ, ◌≤◌, ◌⊎◌, Bool, true, false, if◌then◌else◌, List, [], ◌∷◌, ◌++◌, Option, None, Some, Result, Ok, Err, slice_get, slice_set, refl, ap, inl, inr, sym, ◌∙◌, subst, lit<, le_trans}
use Rattle.std.specs.Prelude.{All}
use Rattle.ens_base.specs.View.{IsPeer}
use Rattle.peer_refinement.specs.WorldSpec.{answered, Held, HeldStores, held_with, Ended, run, either}
use Rattle.network.specs.Mail.{MayBeSent}
use Rattle.peer_refinement.proofs.PeerSpec.{steps_young}
use Rattle.peer_state.specs.Ages.{IsYoung}
use Rattle.peer_refinement.specs.PeerSpec.{step_of, MayCome, IsStepCall, Reaches, start_of, opened, seals_opening, continued, reseals_if, migrated, is_whole, continued_in}
use Rattle.peer_state.specs.declared.event.Event.{Event}
use Rattle.peer_state.specs.declared.event.Event.TheVariants as does
use Rattle.peer_state.specs.declared.state.Mode.{Mode}
use Rattle.peer_state.specs.declared.state.State.{State}
use Rattle.ens_base.specs.declared.entry.Entry.{Entry}
use Rattle.stored_formats.specs.declared.saved.SavedFact.{SavedFact}
use Rattle.tree_node.specs.declared.version.TreeVersion.{TreeVersion}
use Rattle.tree_node.specs.declared.version.TreeVersion.TheVariants.{One, Two}
use Rattle.register_model.specs.declared.note.Note.{Note}
use Rattle.lexemes.specs.Spelling.{IsAmong}
use Rattle.step_plans.specs.Calls.{AnswerOf}
use Rattle.step_plans.specs.Plans.{Plan, Done, Say, Ask, Out, Ending, Finished, Stopped, Follows}
use Rattle.step_plans.specs.declared.error.PeerError.{PeerError}
use Rattle.schedule_text.specs.Forms.{is_sealed}
use Rattle.schedule_text.specs.declared.form.Form.{Form}
use Rattle.wire_frames.specs.declared.frame.Frame.{Frame}
use Rattle.world_spec.proofs.Ending.{EndsIn, run_reaches, opening_is}
use Rattle.world_spec.proofs.Obeying.{IsOwnNode, IsFine, opening_fine, stepped_fine, changed_fine, started_own, stopped_own, over_stores_own, while_down_own}
use Rattle.world_spec.specs.Nodes.{Node, Up, Down, taken, taken_by, run_over, started, hashed_by_start, stopped, over_stores, while_down, opening_node}
use Rattle.world_spec.specs.Runs.{Run, tree_first, opening_mode, opening_run, mode_at, place_of, with_taken, stepped_at, changed_at, hashing}
use Rattle.step_refinement.proofs.ElectionRefinement.{get_put, replicated}

-- a running peer has not waited long
abbrev pub IsReady : Node → Type 0
IsReady (Up x st) = IsYoung x.phase
IsReady (Down st) = Unit {0}

-- all messages obey the grammar, all peers send as themselves, and no running peer has waited long
pub record IsIntact (w : Run) : Type 0 where
  pub fine : IsFine w
  pub ready : (place : ℕ) (node : Node) → slice_get w.nodes place ≡ Some node → IsReady node

-- a peer among at most 31 has a number that a peer may have
pub is_peer : (peers p : ℕ) → peers ≤ 31 → IsAmong peers p → IsPeer p
is_peer peers p small among = (among.first, le_trans among.last small)

-- a message that may be sent may come
pub frame_comes : (f : Frame) → MayBeSent f → MayCome f.to (does.Deliver f.from f.message)
frame_comes f may = (may.0, may.2, may.3)

put_ready : (nodes : List Node) (p : ℕ) (new : Node) → ((place : ℕ) (node : Node) → slice_get nodes place ≡ Some node → IsReady node) → IsReady new → (place : ℕ) (node : Node) → slice_get (slice_set nodes p new) place ≡ Some node → IsReady node
put_ready nodes p new old here place node at = by_place (get_put nodes p place new node at)
  where
    by_place : ((p ≡ place) × (node ≡ new)) ⊎ ((p ≡ place → ⊥) × (slice_get nodes place ≡ Some node)) → IsReady node
    by_place (inl e) = subst IsReady (sym e.1) here
    by_place (inr other) = old place node other.1

-- the run of a plan stops, or ends as the plan does
run_ends : (P : State → Out → Type 0) (plan : Plan State) (h : Held) (ns : List Note) → Follows IsStepCall P plan → EndsIn P (run plan h ns).ending
run_ends P (Done x out) h ns follows = follows
run_ends P (Say n plan) h ns follows = run_ends P plan h (ns ++ n ∷ []) follows
run_ends P (Ask call next) h ns follows = by_answer (answered call h).result (λ a. run_ends P (next a) (answered call h).held ns (follows.1 a))
  where
    by_answer : (r : Result (AnswerOf call) PeerError) → ((a : AnswerOf call) → EndsIn P (run (next a) (answered call h).held ns).ending)
        → EndsIn P (either {R = Ended State} r (λ a. run (next a) (answered call h).held ns) (λ error. record { ending = Stopped error; held = (answered call h).held; notes = ns })).ending
    by_answer (Ok a) goes = goes a
    by_answer (Err error) goes = tt

ended_ready : (k : Ending State) (h : Held) (ns : List Note) → EndsIn (λ y out. IsYoung y.phase) k → IsReady (taken_by k h ns).node
ended_ready (Finished x out) h ns young = young
ended_ready (Stopped error) h ns young = tt

taken_ready : (p : ℕ) (event : Event) (node : Node) → IsPeer p → MayCome p event → IsReady node → IsReady (taken p event node).node
taken_ready p event (Up x st) peer come ready = let e : Ended State = run_over (step_of p event x) st in
    ended_ready e.ending e.held e.notes (run_ends (λ y out. IsYoung y.phase) (step_of p event x) (held_with st []) [] (steps_young p event x peer come ready))
taken_ready p event (Down st) peer come ready = tt

stopped_ready : (node : Node) → IsReady node → IsReady (stopped node)
stopped_ready (Up x st) ready = tt
stopped_ready (Down st) ready = tt

over_ready : (f : HeldStores → HeldStores) (node : Node) → IsReady node → IsReady (over_stores f node)
over_ready f (Up x st) ready = ready
over_ready f (Down st) ready = tt

while_down_ready : (f : HeldStores → HeldStores) (node : Node) → IsReady node → IsReady (while_down f node)
while_down_ready f (Up x st) ready = ready
while_down_ready f (Down st) ready = tt

-- a peer that starts has not waited yet
sealing_ready : (mode : Mode) (view : List ℕ) (seals : Bool) → Reaches (λ y out. IsYoung y.phase) (seals_opening seals mode view)
sealing_ready mode view true = λ root told a saved. lit< tt
sealing_ready mode view false = λ a saved. lit< tt

continued_ready : (tree : TreeVersion) (mode : Mode) (saved : SavedFact) → Reaches (λ y out. IsYoung y.phase) (continued tree mode saved)
continued_ready tree mode saved = λ a sound. lit< tt

resaved_ready : (seal : Option (List ℕ)) (mode : Mode) (saved : SavedFact) → Reaches (λ y out. IsYoung y.phase) (reseals_if seal mode saved)
resaved_ready None mode saved = lit< tt
resaved_ready (Some seal) mode saved = λ root told a saves. lit< tt

scanned_ready : (whole : Bool) (mode : Mode) (saved : SavedFact) (entries : List Entry) → Reaches (λ y out. IsYoung y.phase) (if whole then migrated mode saved entries else continued Two mode saved)
scanned_ready true mode saved entries = λ a opens b installs. resaved_ready saved.seal mode saved
scanned_ready false mode saved entries = continued_ready Two mode saved

-- whatever the version of its tree is
continued_in_ready : (tree : TreeVersion) (mode : Mode) (saved : SavedFact) → Reaches (λ y out. IsYoung y.phase) (continued_in tree mode saved)
continued_in_ready One mode saved = continued_ready One mode saved
continued_in_ready Two mode saved = λ a opens scan scans. scanned_ready (is_whole scan) mode saved scan.entries

opened_ready : (mode : Mode) (view : List ℕ) (kept : Option SavedFact) → Reaches (λ y out. IsYoung y.phase) (opened mode view kept)
opened_ready mode view None = λ a sound. sealing_ready mode view mode.sealing
opened_ready mode view (Some saved) = continued_in_ready mode.tree mode saved

started_ready : (mode : Mode) (view : List ℕ) (node : Node) → IsReady node → IsReady (started mode view node)
started_ready mode view (Up x st) ready = ready
started_ready mode view (Down st) ready = let e : Ended State = run_over (start_of mode view) st in ended_ready e.ending e.held e.notes (run_reaches (λ y out. IsYoung y.phase) (start_of mode view) (held_with st []) [] (λ kept sound. opened_ready mode view kept))

-- a change of a node that a line makes: the peer sends as itself as before, and has not waited longer
pub record IsHarmless (p : ℕ) (change : Node → Node) : Type 0 where
  pub own : (node : Node) → IsOwnNode p node → IsOwnNode p (change node)
  pub ready : (node : Node) → IsReady node → IsReady (change node)

-- a peer that stops is harmless
pub stopped_harmless : (p : ℕ) → IsHarmless p stopped
stopped_harmless p = record { own = stopped_own p; ready = stopped_ready }

-- so is a change of the stores
pub over_harmless : (f : HeldStores → HeldStores) (p : ℕ) → IsHarmless p (over_stores f)
over_harmless f p = record { own = over_stores_own f p; ready = over_ready f }

-- and a change of the stores of a peer that is down
pub while_down_harmless : (f : HeldStores → HeldStores) (p : ℕ) → IsHarmless p (while_down f)
while_down_harmless f p = record { own = while_down_own f p; ready = while_down_ready f }

started_harmless : (mode : Mode) (view : List ℕ) (p : ℕ) → IsHarmless p (started mode view)
started_harmless mode view p = record { own = started_own p mode view; ready = started_ready mode view }

-- a step of a peer keeps the world intact
pub taken_intact : (p : ℕ) (event : Event) (node : Node) (w : Run) → IsPeer p → MayCome p event → slice_get w.nodes (place_of p) ≡ Some node → IsIntact w → IsIntact (with_taken p (taken p event node) w)
taken_intact p event node w peer come at i = record {
  fine = subst (λ (o : Option Node). IsFine (stepped_at o p event w)) at (stepped_fine p event w peer come i.fine);
  ready = put_ready w.nodes (place_of p) (taken p event node).node i.ready (taken_ready p event node peer come (i.ready (place_of p) node at));
}

-- so does a harmless change of a node
pub changed_intact : (change : Node → Node) (p : ℕ) (node : Node) (w : Run) → IsHarmless p change → IsPeer p → slice_get w.nodes (place_of p) ≡ Some node → IsIntact w → IsIntact (record w { nodes = slice_set w.nodes (place_of p) (change node) })
changed_intact change p node w harmless peer at i = record {
  fine = subst (λ (o : Option Node). IsFine (changed_at o p change w)) at (changed_fine p change w peer harmless.own i.fine);
  ready = put_ready w.nodes (place_of p) (change node) i.ready (harmless.ready node (i.ready (place_of p) node at));
}

-- only the peers and the messages sent matter
pub alike_intact : (w v : Run) → v.nodes ≡ w.nodes → v.mail.sent ≡ w.mail.sent → IsIntact w → IsIntact v
alike_intact w v nodes sent i = record {
  fine = record { mail = subst (All MayBeSent) (sym sent) i.fine.mail; nodes = λ place node at. i.fine.nodes place node (ap (λ (ns : List Node). slice_get ns place) (sym nodes) ∙ at) };
  ready = λ place node at. i.ready place node (ap (λ (ns : List Node). slice_get ns place) (sym nodes) ∙ at);
}

-- a peer starts, and strings are hashed
pub started_intact : (p : ℕ) (node : Node) (w : Run) → IsPeer p → slice_get w.nodes (place_of p) ≡ Some node → IsIntact w → IsIntact (hashing (hashed_by_start (mode_at p w) w.view node) (record w { nodes = slice_set w.nodes (place_of p) (started (mode_at p w) w.view node) }))
started_intact p node w peer at i =
    let v : Run = record w { nodes = slice_set w.nodes (place_of p) (started (mode_at p w) w.view node) } in
    alike_intact v (hashing (hashed_by_start (mode_at p w) w.view node) v) refl refl (changed_intact (started (mode_at p w) w.view) p node w (started_harmless (mode_at p w) w.view p) peer at i)

opening_ready : (form : Form) (view : List ℕ) → IsReady (opening_node (opening_mode form) view)
opening_ready form view = let o = opening_is (is_sealed form) (tree_first form) view in subst IsReady (sym o.is) (lit< tt)

-- the world is intact before the first event
pub opening_intact : (form : Form) (peers : ℕ) (view : List ℕ) → IsIntact (opening_run form peers view)
opening_intact form peers view = record { fine = opening_fine form peers view; ready = λ place node at. subst IsReady (replicated peers place (opening_node (opening_mode form) view) node at) (opening_ready form view) }
