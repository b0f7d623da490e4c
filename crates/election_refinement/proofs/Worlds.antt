-- A world and a run of the abstract protocol advance together.
use Rattle.std.proofs.Common.{◌≡◌, ◌≢◌, ℕ, zero, suc, ◌<◌, ◌≤◌, ◌-◌, nat_lt, Bool, true, false, if◌then◌else◌, ◌==◌, eqb-true, ◌⊎◌, inl, inr, List, [], ◌∷◌, ◌++◌, map, length, Option, Some, None, Result, Ok, Err, slice_get, slice_set, get_or, append_assoc, arith, refl, ap, le_trans, ◌∙◌, sym, subst}
use Rattle.std.specs.Prelude.{All}
use Rattle.std.proofs.lemmas.Bool.{eqb-false}
use Rattle.std.proofs.lemmas.List.{get_or-set_same, get_or-set_other, length-set}
use Rattle.std.proofs.lemmas.List.Elements.{All-nil, All-push, All-head, All-tail, All-map, All-weaker}
use Rattle.std.proofs.lemmas.Option.{slice_get_within, get_or_from_slice_get, slice_get-get_or}
use Rattle.protocol_laws.specs.Ledger.{Ledger}
use Rattle.protocol_laws.specs.Protocol.{Step}
use Rattle.ens_base.specs.View.{IsPeer}
use Rattle.environment.specs.declared.memory.failing_call.Leaves.{Leaves}
use Rattle.environment.specs.declared.memory.failing_call.Leaves.TheVariants as left
use Rattle.world_spec.specs.Answers.{Answered, answered, with_facts, with_backend, facts_failed, objects_failed}
use Rattle.world_spec.specs.Held.{Held, HeldStores, unless_failing}
use Rattle.world_spec.specs.HeldLaws.{held_with}
use Rattle.world_spec.specs.HeldRuns.{Ended, run, either}
use Rattle.network.specs.Mail.{Mail, MayBeSent, posted, goes, oldest, is_among, most_messages}
use Rattle.peer_spec.proofs.Aging.{steps_young}
use Rattle.peer_state.specs.Ages.{IsYoung}
use Rattle.peer_spec.specs.Drives.{step_of, MayCome}
use Rattle.peer_spec.specs.Starts.{start_of}
use Rattle.peer_state.specs.declared.event.Event.{Event}
use Rattle.peer_state.specs.declared.event.Event.TheVariants as events
use Rattle.peer_state.specs.declared.state.Mode.{Mode}
use Rattle.peer_state.specs.declared.state.State.{State}
use Rattle.register_model.specs.declared.note.Note.{Note}
use Rattle.schedule_text.specs.Spelling.{MayStand}
use Rattle.schedule_text.specs.declared.event.ScheduleEvent.{ScheduleEvent}
use Rattle.schedule_text.specs.declared.event.ScheduleEvent.TheVariants.{Call, Tick, Deliver, Pass, Lose, Calm, CalmAmong, Change, Stop, Start, Upgrade, Deepen, Spoil, Damage, Inner, Revert, Fail}
use Rattle.schedule_text.specs.declared.keyword.StoreName.{StoreName}
use Rattle.schedule_text.specs.declared.keyword.StoreName.TheVariants as names
use Rattle.stored_formats.specs.declared.fact.Fact.{Fact}
use Rattle.stored_formats.specs.declared.saved.SavedFact.{SavedFact}
use Rattle.step_plans.specs.Calls.{Call as StoreCall, AnswerOf, Load, Save, FreshTree, OpenTree, Root, Find, Enter, ScanTree, ReadNode, Install, Fetch, Put, Hash}
use Rattle.step_plans.specs.declared.error.PeerError.{PeerError}
use Rattle.step_plans.specs.declared.error.PeerError.TheVariants.{StoreFault}
use Rattle.step_plans.specs.Plans.{Plan, Done, Say, Ask, Ending, Stopped, nothing}
use Rattle.step_plans.specs.Saved.{bare}
use Rattle.leader_output.specs.declared.out.Outgoing.{Outgoing}
use Rattle.wire_frames.specs.declared.frame.Frame.{Frame}
use Rattle.world_spec.proofs.Ending.{Finishes, run_finishes}
use Rattle.world_spec.proofs.Obeying.{IsFine, IsOwnNode, stepped_fine, changed_fine, started_own, stopped_own, over_stores_own, while_down_own}
use Rattle.world_spec.specs.Laws.{NoneWaits}
use Rattle.world_stores.specs.Objects.{Objects}
use Rattle.world_spec.specs.Lines.{call_of, set_of, everyone, with_loss, with_damage, effect, counted, applied}
use Rattle.world_spec.specs.Nodes.{Node, Up, Down, Taken, taken, taken_by, taken_of, run_over, started, stopped, over_stores, while_down}
use Rattle.world_spec.specs.Stores.{failing, leaves_of, spoiled, segment_spoiled, inner_spoiled, taken_back}
use Rattle.world_spec.specs.Runs.{Run, mode_at, upgraded, place_of, frame_from, posted_all, with_taken, stepped, stepped_at, changed, changed_at, with_start, may_deepen, deepened, with_deepening, ticked, received, without_waiting, received_if, delivered, delivered_if, going_on, calmed}
use Rattle.election_refinement.proofs.Keeps.{keeps_none, node_keeps, frames_keep}
use Rattle.election_refinement.specs.Keeps.{Keeps}
use Rattle.election_refinement.proofs.Loops.{EventHolds, Here, Rests, Good, LeavesFact, step_good, start_good}
use Rattle.election_refinement.proofs.Reaching.{Course, Reaches}
use Rattle.election_refinement.specs.Refinement.{PeerHolds, IsKept, NodeHolds, SendHolds, FrameHolds}
use Rattle.election_refinement.specs.Worlds.{Spares, Refines, ledger_after, IsRefinement, GoesOn}

-- the element at a place after an element was set
pub get_put : {A : Type 0} (xs : List A) (p q : ℕ) (y m : A) → slice_get (slice_set xs p y) q ≡ Some m → ((p ≡ q) × (m ≡ y)) ⊎ ((p ≡ q → ⊥) × (slice_get xs q ≡ Some m))
get_put xs p q y m is = by_cases (p == q) refl
  where
    within : q < length xs
    within = rw (← length-set xs p y) (slice_get_within (slice_set xs p y) q m is)

    by_cases : (b : Bool) → (p == q) ≡ b → ((p ≡ q) × (m ≡ y)) ⊎ ((p ≡ q → ⊥) × (slice_get xs q ≡ Some m))
    by_cases true e =
        let same : p ≡ q = eqb-true p q e in
        inl (same, sym (get_or_from_slice_get (slice_set xs p y) q m y is) ∙ (let z : get_or (slice_set xs q y) q y ≡ y = get_or-set_same xs q y y within in rw same z))
    by_cases false e =
        let apart : q ≢ p = λ s. eqb-false p q e (sym s) in
        inr (eqb-false p q e, slice_get-get_or xs q m within ∙ ap (λ z. Some z) (sym (get_or-set_other xs p q y m apart) ∙ get_or_from_slice_get (slice_set xs p y) q m m is))

-- a property of all messages before and of all new ones
pub posted_all_hold : (P : Frame → Type 0) (frames : List Frame) (m : Mail) → All P m.sent → All P frames → All P (posted_all frames m).sent
posted_all_hold P [] m old new = old
posted_all_hold P (f ∷ more) m old new = posted_all_hold P more (posted m f) (All-push P m.sent f old (All-head P f more new)) (All-tail P f more new)

frames_hold : (l : Ledger) (p : ℕ) → IsPeer p → (sends : List Outgoing) → All (SendHolds l p) sends → All (FrameHolds l) (map (frame_from p) sends)
frames_hold l p peer sends hold = All-map (FrameHolds l) (frame_from p) sends (All-weaker (SendHolds l p) (λ o. FrameHolds l (frame_from p o)) (λ o h. (peer, h)) sends hold)

-- what the message of this number asserts holds
frame_at : (l : Ledger) (frames : List Frame) (n : ℕ) (f : Frame) → slice_get frames n ≡ Some f → All (FrameHolds l) frames → FrameHolds l f
frame_at l frames n f is hold = subst (FrameHolds l) (get_or_from_slice_get frames n f f is) (hold n f (slice_get_within frames n f is))

-- the message of this number may be sent
frame_may : (frames : List Frame) (n : ℕ) (f : Frame) → slice_get frames n ≡ Some f → All MayBeSent frames → MayBeSent f
frame_may frames n f is may = subst MayBeSent (get_or_from_slice_get frames n f f is) (may n f (slice_get_within frames n f is))

-- a running peer of which no write is to fail
abbrev pub IsSpared : Node → Type 0
IsSpared (Up x st) = NoneWaits st × IsYoung x.phase
IsSpared (Down st) = ⊥

-- the peers at these places are such peers
abbrev pub AreSpared : (ℕ → Type 0) → Run → Type 0
AreSpared spared w = (place : ℕ) (node : Node) → spared place → slice_get w.nodes place ≡ Some node → IsSpared node

-- the line spares the peers at these places
abbrev pub SparesAll : (ℕ → Type 0) → ScheduleEvent → Type 0
SparesAll spared event = (place : ℕ) → spared place → Spares (suc place) event

-- the peer after a step, and what it sends, agree with a ledger that the run reaches
record Agrees (c : Course) (before : Ledger) (t : Taken) : Type 0 where
  ledger : Ledger
  keeps : Keeps before ledger c.peer
  reaches : Reaches c ledger
  node : NodeHolds ledger c.peer t.node
  sends : All (SendHolds ledger c.peer) t.out.sends

-- nothing is put out
abbrev silent : Node → Taken
silent node = record { node = node; out = nothing; notes = []; hashed = [] }

module _ (c : Course) (before : Ledger) where
  silenced : (t : Taken) → Agrees c before t → Agrees c before (silent t.node)
  silenced t h = record { ledger = h.ledger; keeps = h.keeps; reaches = h.reaches; node = h.node; sends = All-nil (SendHolds h.ledger c.peer) }

  -- the node is down, and its stores keep a fact that agrees with the run
  down : (st : HeldStores) (ns : List Note) (strings : List (List ℕ)) → Rests c before (bare st.facts.kept) → Agrees c before (record { node = Down st; out = nothing; notes = ns; hashed = strings })
  down st ns strings r = record { ledger = r.ledger; keeps = r.keeps; reaches = r.reaches; node = r.kept; sends = All-nil (SendHolds r.ledger c.peer) }

  -- a put keeps the fact, whether it fails or not
  put_keeps : (o : Option Leaves) (key bytes : List ℕ) (new : Objects) (h : Held)
      → (unless_failing {R = Answered (Put key bytes)} o (record { result = Ok tt; held = with_backend new h }) (λ leaves. record { result = Err StoreFault; held = with_backend (objects_failed h.stores.backend new leaves) h })).held.stores.facts.kept ≡ h.stores.facts.kept
  put_keeps None key bytes new h = refl
  put_keeps (Some leaves) key bytes new h = refl

  -- a call that is no save keeps the fact
  fact_stays : (call : StoreCall) (h : Held) → LeavesFact call → (answered call h).held.stores.facts.kept ≡ h.stores.facts.kept
  fact_stays Load h leaves = absurd leaves
  fact_stays (Save fact) h leaves = absurd leaves
  fact_stays (FreshTree tree) h leaves = refl
  fact_stays (OpenTree seal tree) h leaves = refl
  fact_stays Root h leaves = refl
  fact_stays (Find key) h leaves = refl
  fact_stays (Enter entry) h leaves = refl
  fact_stays ScanTree h leaves = refl
  fact_stays (ReadNode at) h leaves = refl
  fact_stays (Install entries) h leaves = refl
  fact_stays (Fetch key) h leaves = refl
  fact_stays (Put key bytes) h leaves = put_keeps h.stores.backend.faults.pending key bytes _ h
  fact_stays (Hash bytes) h leaves = refl

  -- and so the fact without its seal
  bare_stays : (call : StoreCall) (h : Held) → LeavesFact call → bare (answered call h).held.stores.facts.kept ≡ bare h.stores.facts.kept
  bare_stays call h leaves = ap bare (fact_stays call h leaves)

  -- what follows the answer to a call
  abbrev goes_on_from : (call : StoreCall) → (AnswerOf call → Plan State) → Held → List Note → Result (AnswerOf call) PeerError → Ended State
  goes_on_from call next held ns r = either r (λ a. run (next a) held ns) (λ error. record { ending = Stopped error; held = held; notes = ns })

  -- a call that is no save
  other_end : (call : StoreCall) (next : AnswerOf call → Plan State) (h : Held) (ns : List Note) (r : Result (AnswerOf call) PeerError) → Rests c before (bare (answered call h).held.stores.facts.kept)
      → ((a : AnswerOf call) → Agrees c before (taken_of (run (next a) (answered call h).held ns))) → Agrees c before (taken_of (goes_on_from call next (answered call h).held ns r))
  other_end call next h ns (Ok a) rests goes = goes a
  other_end call next h ns (Err error) rests goes = down (answered call h).held.stores ns (answered call h).held.hashed rests

  asked_end : (call : StoreCall) (next : AnswerOf call → Plan State) (h : Held) (ns : List Note) → LeavesFact call → Rests c before (bare h.stores.facts.kept)
      → ((a : AnswerOf call) → Agrees c before (taken_of (run (next a) (answered call h).held ns))) → Agrees c before (taken_of (run (Ask call next) h ns))
  asked_end call next h ns leaves rests goes = other_end call next h ns (answered call h).result (subst (Rests c before) (sym (bare_stays call h leaves)) rests) goes

  -- a save leaves the fact, or if it fails the old one or the new one
  saved_end : (o : Option Leaves) (fact : SavedFact) (next : Unit {0} → Plan State) (h : Held) (ns : List Note) → Rests c before (bare h.stores.facts.kept) → Rests c before (Some fact.fact)
      → Agrees c before (taken_of (run (next tt) (with_facts (record h.stores.facts { kept = Some fact }) h) ns))
      → Agrees c before (taken_of (let r : Answered (Save fact) = unless_failing o (record { result = Ok tt; held = with_facts (record h.stores.facts { kept = Some fact }) h }) (λ leaves. record { result = Err StoreFault; held = with_facts (facts_failed h.stores.facts (record h.stores.facts { kept = Some fact }) leaves) h }) in goes_on_from (Save fact) next r.held ns r.result))
  saved_end None fact next h ns old new done = done
  saved_end (Some left.Old) fact next h ns old new done = down _ ns _ old
  saved_end (Some left.New) fact next h ns old new done = down _ ns _ new

  -- a plan leaves the peer in agreement with the run, however it ends
  every_end : (plan : Plan State) (h : Held) (ns : List Note) → Good c before plan (bare h.stores.facts.kept) → Agrees c before (taken_of (run plan h ns))
  every_end (Done x out) h ns good = record { ledger = good.ledger; keeps = good.keeps; reaches = good.fits.reaches; node = good.fits.peer; sends = good.sends }
  every_end (Say n plan) h ns good = every_end plan h (ns ++ n ∷ []) good
  every_end (Ask Load next) h ns good = every_end (next h.stores.facts.kept) h ns (good.1 h.stores.facts.kept refl)
  every_end (Ask (Save fact) next) h ns good =
      saved_end h.stores.facts.faults.pending fact next h ns good.0 good.1.0 (every_end (next tt) (with_facts (record h.stores.facts { kept = Some fact }) h) ns good.1.1)
  every_end (Ask (FreshTree tree) next) h ns good = asked_end (FreshTree tree) next h ns tt good.0 (λ a. every_end (next a) (answered (FreshTree tree) h).held ns (subst (Good c before (next a)) (sym (bare_stays (FreshTree tree) h tt)) (good.1 a)))
  every_end (Ask (OpenTree seal tree) next) h ns good = asked_end (OpenTree seal tree) next h ns tt good.0 (λ a. every_end (next a) (answered (OpenTree seal tree) h).held ns (subst (Good c before (next a)) (sym (bare_stays (OpenTree seal tree) h tt)) (good.1 a)))
  every_end (Ask Root next) h ns good = asked_end Root next h ns tt good.0 (λ a. every_end (next a) (answered Root h).held ns (subst (Good c before (next a)) (sym (bare_stays Root h tt)) (good.1 a)))
  every_end (Ask (Find key) next) h ns good = asked_end (Find key) next h ns tt good.0 (λ a. every_end (next a) (answered (Find key) h).held ns (subst (Good c before (next a)) (sym (bare_stays (Find key) h tt)) (good.1 a)))
  every_end (Ask (Enter entry) next) h ns good = asked_end (Enter entry) next h ns tt good.0 (λ a. every_end (next a) (answered (Enter entry) h).held ns (subst (Good c before (next a)) (sym (bare_stays (Enter entry) h tt)) (good.1 a)))
  every_end (Ask ScanTree next) h ns good = asked_end ScanTree next h ns tt good.0 (λ a. every_end (next a) (answered ScanTree h).held ns (subst (Good c before (next a)) (sym (bare_stays ScanTree h tt)) (good.1 a)))
  every_end (Ask (ReadNode at) next) h ns good = asked_end (ReadNode at) next h ns tt good.0 (λ a. every_end (next a) (answered (ReadNode at) h).held ns (subst (Good c before (next a)) (sym (bare_stays (ReadNode at) h tt)) (good.1 a)))
  every_end (Ask (Install entries) next) h ns good = asked_end (Install entries) next h ns tt good.0 (λ a. every_end (next a) (answered (Install entries) h).held ns (subst (Good c before (next a)) (sym (bare_stays (Install entries) h tt)) (good.1 a)))
  every_end (Ask (Fetch key) next) h ns good = asked_end (Fetch key) next h ns tt good.0 (λ a. every_end (next a) (answered (Fetch key) h).held ns (subst (Good c before (next a)) (sym (bare_stays (Fetch key) h tt)) (good.1 a)))
  every_end (Ask (Put key bytes) next) h ns good = asked_end (Put key bytes) next h ns tt good.0 (λ a. every_end (next a) (answered (Put key bytes) h).held ns (subst (Good c before (next a)) (sym (bare_stays (Put key bytes) h tt)) (good.1 a)))
  every_end (Ask (Hash bytes) next) h ns good = asked_end (Hash bytes) next h ns tt good.0 (λ a. every_end (next a) (answered (Hash bytes) h).held ns (subst (Good c before (next a)) (sym (bare_stays (Hash bytes) h tt)) (good.1 a)))

module _ (view : List ℕ) (steps : List Step) (spared : ℕ → Type 0) where
  -- the world refines an extension of the run, and the spared peers run
  pub record Advances (w : Run) : Type 0 where
    pub on : GoesOn view steps w
    pub up : AreSpared spared w
    pub fine : (place : ℕ) → spared place → IsFine w

  -- the ledger that the world refines
  abbrev ledger_of : (w : Run) → GoesOn view steps w → Ledger
  ledger_of w g = ledger_after view (g.more ++ steps)

  -- the beginning of a step of a peer: the run has all steps so far, and syncs may end
  abbrev course : (p : ℕ) → IsPeer p → (w : Run) → GoesOn view steps w → Course
  course p peer w g = record { view = view; steps = g.more ++ steps; peer = p; is_peer = peer; joins = Unit {0} }

  -- ## A step of a peer

  module _ (p : ℕ) (peer : IsPeer p) (w : Run) (g : GoesOn view steps w) where
    begins : Reaches (course p peer w g) (ledger_of w g)
    begins = record { more = []; kinds = tt; run = g.refinement.run; same = refl; orderly = g.refinement.refines.orderly }

    apart : (place : ℕ) → (place_of p ≡ place → ⊥) → p ≡ suc place → ⊥
    apart place other same = other (omega (arith, same))

    number : (place : ℕ) → place_of p ≡ place → p ≡ suc place
    number place same = omega (arith, same, peer.0)

    -- the world with this node of the peer
    put_goes_on : (t : Taken) (v : Run) → (h : Agrees (course p peer w g) (ledger_of w g) t) → v.nodes ≡ slice_set w.nodes (place_of p) t.node → All (FrameHolds h.ledger) v.mail.sent → GoesOn view steps v
    put_goes_on t v h set sent = record { more = h.reaches.more ++ g.more; refinement = subst (λ all. IsRefinement view all v) (sym (append_assoc h.reaches.more g.more steps)) extended }
      where
        put : (place : ℕ) (node : Node) → slice_get (slice_set w.nodes (place_of p) t.node) place ≡ Some node → NodeHolds h.ledger (suc place) node
        put place node is = elim (get_put w.nodes (place_of p) place t.node node is) [
          | inl here ↦ subst (λ n. NodeHolds h.ledger (suc place) n) (sym here.1) (subst (λ q. NodeHolds h.ledger q t.node) (number place here.0) h.node)
          | inr there ↦ node_keeps (ledger_of w g) h.ledger p h.keeps (suc place) node (apart place there.0) (g.refinement.refines.nodes place node there.1)
        ]

        nodes : (place : ℕ) (node : Node) → slice_get v.nodes place ≡ Some node → NodeHolds h.ledger (suc place) node
        nodes place node is = put place node (ap (λ ns. slice_get ns place) (sym set) ∙ is)

        extended : IsRefinement view (h.reaches.more ++ (g.more ++ steps)) v
        extended = record { run = h.reaches.run; refines = subst (λ l. Refines l v) (sym h.reaches.same) (record { orderly = h.reaches.orderly; nodes = nodes; sent = sent }) }

    -- what was sent before still holds
    sent_before : (t : Taken) → (h : Agrees (course p peer w g) (ledger_of w g) t) → All (FrameHolds h.ledger) w.mail.sent
    sent_before t h = frames_keep (ledger_of w g) h.ledger p h.keeps w.mail.sent g.refinement.refines.sent

    taken_goes_on : (t : Taken) → Agrees (course p peer w g) (ledger_of w g) t → GoesOn view steps (with_taken p t w)
    taken_goes_on t h = put_goes_on t (with_taken p t w) h refl (posted_all_hold (FrameHolds h.ledger) (map (frame_from p) t.out.sends) w.mail (sent_before t h) (frames_hold h.ledger p peer t.out.sends h.sends))

    changed_goes_on : (node : Node) → Agrees (course p peer w g) (ledger_of w g) (silent node) → GoesOn view steps (record w { nodes = slice_set w.nodes (place_of p) node })
    changed_goes_on node h = put_goes_on (silent node) (record w { nodes = slice_set w.nodes (place_of p) node }) h refl (sent_before (silent node) h)

    -- a node that agrees with the ledger as it is
    still : (node : Node) → NodeHolds (ledger_of w g) p node → Agrees (course p peer w g) (ledger_of w g) (silent node)
    still node holds = record {
      ledger = ledger_of w g;
      keeps = keeps_none (ledger_of w g) p;
      reaches = begins;
      node = holds;
      sends = All-nil (SendHolds (ledger_of w g) p);
    }

    -- the plan of a step from this state
    step_is_good : (event : Event) (x : State) (stored : Option Fact) → PeerHolds (ledger_of w g) p x stored → EventHolds (ledger_of w g) event → Good (course p peer w g) (ledger_of w g) (step_of p event x) stored
    step_is_good event x stored holds event_holds = step_good (course p peer w g) (ledger_of w g) tt event x stored here event_holds
      where
        here : Here (course p peer w g) (ledger_of w g) x stored nothing
        here = record {
          ledger = ledger_of w g;
          keeps = keeps_none (ledger_of w g) p;
          fits = record {
            reaches = begins;
            peer = holds;
          };
          sends = All-nil (SendHolds (ledger_of w g) p);
        }

    taken_agrees : (event : Event) (node : Node) → NodeHolds (ledger_of w g) p node → EventHolds (ledger_of w g) event → Agrees (course p peer w g) (ledger_of w g) (taken p event node)
    taken_agrees event (Up x st) holds event_holds = every_end (course p peer w g) (ledger_of w g) (step_of p event x) (held_with st []) [] (step_is_good event x (bare st.facts.kept) holds event_holds)
    taken_agrees event (Down st) holds event_holds = still (Down st) holds

    -- a spared peer stays one
    finished_spared : (e : Ended State) → Finishes (λ y out. IsYoung y.phase) e → IsSpared (taken_of e).node
    finished_spared e f = subst (λ (k : Ending State). IsSpared (taken_by k e.held e.notes).node) (sym f.finished.ending) (f.finished.none, f.holds)

    taken_spared : (event : Event) (node : Node) → MayCome p event → IsSpared node → IsSpared (taken p event node).node
    taken_spared event (Up x st) come spare = finished_spared (run_over (step_of p event x) st) (run_finishes (λ y out. IsYoung y.phase) (step_of p event x) (held_with st []) [] (steps_young p event x peer come spare.1) spare.0)
    taken_spared event (Down st) come spare = absurd spare

    -- a start from the kept fact
    started_agrees : (mode : Mode) (opening : List ℕ) (node : Node) → NodeHolds (ledger_of w g) p node → Agrees (course p peer w g) (ledger_of w g) (silent (started mode opening node))
    started_agrees mode opening (Up x st) holds = still (Up x st) holds
    started_agrees mode opening (Down st) holds =
        silenced (course p peer w g) (ledger_of w g) (taken_of (run_over (start_of mode opening) st)) (every_end (course p peer w g) (ledger_of w g) (start_of mode opening) (held_with st []) []
        (start_good (course p peer w g) (ledger_of w g) mode opening (bare st.facts.kept) (record {
          ledger = ledger_of w g;
          keeps = keeps_none (ledger_of w g) p;
          reaches = begins;
          kept = holds;
        })))

    -- a stop
    stopped_agrees : (node : Node) → NodeHolds (ledger_of w g) p node → Agrees (course p peer w g) (ledger_of w g) (silent (stopped node))
    stopped_agrees (Up x st) holds = still (Down st) (record { fact = x.fact; kept = holds.kept; saved = holds.saved })
    stopped_agrees (Down st) holds = still (Down st) holds

    -- a change of the stores that keeps the fact
    over_agrees : (f : HeldStores → HeldStores) → ((st : HeldStores) → (f st).facts.kept ≡ st.facts.kept) → (node : Node) → NodeHolds (ledger_of w g) p node → Agrees (course p peer w g) (ledger_of w g) (silent (over_stores f node))
    over_agrees f kept (Up x st) holds = still (Up x (f st)) (subst (PeerHolds (ledger_of w g) p x) (sym (ap bare (kept st))) holds)
    over_agrees f kept (Down st) holds = still (Down (f st)) (subst (IsKept (ledger_of w g) p) (sym (ap bare (kept st))) holds)

    while_agrees : (f : HeldStores → HeldStores) → ((st : HeldStores) → (f st).facts.kept ≡ st.facts.kept) → (node : Node) → NodeHolds (ledger_of w g) p node → Agrees (course p peer w g) (ledger_of w g) (silent (while_down f node))
    while_agrees f kept (Up x st) holds = still (Up x st) holds
    while_agrees f kept (Down st) holds = over_agrees f kept (Down st) holds

  -- the spared peers are not the one that changed, or its new node is spared too
  put_spared : (p : ℕ) (w : Run) (new : Node) → AreSpared spared w → (spared (place_of p) → IsSpared new) → (place : ℕ) (node : Node) → spared place → slice_get (slice_set w.nodes (place_of p) new) place ≡ Some node → IsSpared node
  put_spared p w new up here place node is_spared at = elim (get_put w.nodes (place_of p) place new node at) [
    | inl same ↦ subst IsSpared (sym same.1) (here (subst spared (sym same.0) is_spared))
    | inr other ↦ up place node is_spared other.1
  ]

  -- what the peer at the place of its number asserts
  own_node : (p : ℕ) → IsPeer p → (w : Run) (g : GoesOn view steps w) (node : Node) → slice_get w.nodes (place_of p) ≡ Some node → NodeHolds (ledger_of w g) p node
  own_node p peer w g node at = subst (λ q. NodeHolds (ledger_of w g) q node) (sym (number p peer w g (place_of p) refl)) (g.refinement.refines.nodes (place_of p) node at)

  -- a step of a peer on a tick, or on a message that asserts what holds
  stepped_refines : (p : ℕ) → IsPeer p → (event : Event) (w : Run) → (a : Advances w) → EventHolds (ledger_of w a.on) event → ((q : ℕ) → spared q → MayCome p event) → Advances (stepped p event w)
  stepped_refines p peer event w a event_holds come = by_node (slice_get w.nodes (place_of p)) refl
    where
      by_node : (o : Option Node) → slice_get w.nodes (place_of p) ≡ o → Advances (stepped_at o p event w)
      by_node None at = a
      by_node (Some node) at = record {
        on = taken_goes_on p peer w a.on (taken p event node) (taken_agrees p peer w a.on event node (own_node p peer w a.on node at) event_holds);
        up = put_spared p w (taken p event node).node a.up (λ is_spared. taken_spared p peer w a.on event node (come (place_of p) is_spared) (a.up (place_of p) node is_spared at));
        fine = λ q is_spared. subst (λ (o : Option Node). IsFine (stepped_at o p event w)) at (stepped_fine p event w peer (come q is_spared) (a.fine q is_spared));
      }

  -- a change of the node of a peer
  changed_refines : (p : ℕ) → (peer : IsPeer p) → (change : Node → Node) (w : Run) → (a : Advances w)
      → ((node : Node) → NodeHolds (ledger_of w a.on) p node → Agrees (course p peer w a.on) (ledger_of w a.on) (silent (change node)))
      → (spared (place_of p) → (node : Node) → IsSpared node → IsSpared (change node)) → ((node : Node) → IsOwnNode p node → IsOwnNode p (change node)) → Advances (changed p change w)
  changed_refines p peer change w a agrees spares own = by_node (slice_get w.nodes (place_of p)) refl
    where
      by_node : (o : Option Node) → slice_get w.nodes (place_of p) ≡ o → Advances (changed_at o p change w)
      by_node None at = a
      by_node (Some node) at = record {
        on = changed_goes_on p peer w a.on (change node) (agrees node (own_node p peer w a.on node at));
        up = put_spared p w (change node) a.up (λ is_spared. spares is_spared node (a.up (place_of p) node is_spared at));
        fine = λ q is_spared. subst (λ (o : Option Node). IsFine (changed_at o p change w)) at (changed_fine p change w peer own (a.fine q is_spared));
      }

  -- ## Lines of a schedule

  ticked_refines : (p : ℕ) → IsPeer p → (n : ℕ) (w : Run) → Advances w → Advances (ticked p n w)
  unfolding ticked
  ticked_refines p peer zero w a = a
  ticked_refines p peer (suc n) w a = ticked_refines p peer n (stepped p events.Tick w) (stepped_refines p peer events.Tick w a tt (λ q is_spared. tt))

  -- only the peers and the messages ever sent matter
  resent : (w v : Run) → v.nodes ≡ w.nodes → v.mail.sent ≡ w.mail.sent → Advances w → Advances v
  resent w v nodes sent a = record {
    on = record {
      more = a.on.more;
      refinement = record {
        run = a.on.refinement.run;
        refines = record {
          orderly = a.on.refinement.refines.orderly;
          nodes = λ place node at. a.on.refinement.refines.nodes place node (ap (λ ns. slice_get ns place) (sym nodes) ∙ at);
          sent = subst (All (FrameHolds (ledger_of w a.on))) (sym sent) a.on.refinement.refines.sent;
        };
      };
    };
    up = λ place node is_spared at. a.up place node is_spared (ap (λ ns. slice_get ns place) (sym nodes) ∙ at);
    fine = λ q is_spared. record { mail = subst (All MayBeSent) (sym sent) (a.fine q is_spared).mail; nodes = λ place node at. (a.fine q is_spared).nodes place node (ap (λ ns. slice_get ns place) (sym nodes) ∙ at) };
  }

  delivered_refines : (n : ℕ) (w : Run) → Advances w → Advances (delivered n w)
  delivered_refines n w a = by_frame (slice_get w.mail.sent n) refl
    where
      came : (f : Frame) → MayBeSent f → MayCome f.to (events.Deliver f.from f.message)
      came f may = (may.0, may.2, may.3)

      by_frame : (o : Option Frame) → slice_get w.mail.sent n ≡ o → Advances (received_if o n w)
      by_frame None at = a
      by_frame (Some f) at = by_life (nat_lt n w.first_alive)
        where
          now : Advances (without_waiting n w)
          now = resent w (without_waiting n w) refl refl a

          by_life : (lost : Bool) → Advances (if lost then without_waiting n w else received f n w)
          by_life true = now
          by_life false =
              let says = frame_at (ledger_of (without_waiting n w) now.on) w.mail.sent n f at now.on.refinement.refines.sent in
              stepped_refines f.to says.1.0 (events.Deliver f.from f.message) (without_waiting n w) now says.1.1 (λ q is_spared. came f (frame_may w.mail.sent n f at (a.fine q is_spared).mail))

  delivered_if_refines : (o : Option ℕ) (w : Run) → Advances w → Advances (delivered_if o w)
  delivered_if_refines None w a = a
  delivered_if_refines (Some n) w a = delivered_refines n w a

  calmed_refines : (peers : List Bool) (n : ℕ) (w : Run) → Advances w → Advances (calmed peers n w)
  unfolding calmed
  calmed_refines peers zero w a = a
  calmed_refines peers (suc n) w a = by_oldest (oldest (is_among peers) w.mail) (λ v. calmed_refines peers n v)
    where
      by_oldest : (o : Option ℕ) → ((v : Run) → Advances v → Advances (calmed peers n v)) → Advances (going_on o (λ v. calmed peers n v) w)
      by_oldest None rest = a
      by_oldest (Some m) rest = rest (delivered m w) (delivered_refines m w a)

  -- a line that names a spared peer
  not_spared : (p : ℕ) → IsPeer p → (suc (place_of p) ≢ p) → ⊥
  not_spared p peer other = other (omega (arith, peer.0))

  module _ (peers : ℕ) (few : peers ≤ 31) where
    is_peer : (p : ℕ) → 1 ≤ p → p ≤ peers → IsPeer p
    is_peer p least most = (least, le_trans most few)

    over_refines : (p : ℕ) → IsPeer p → (f : HeldStores → HeldStores) → ((st : HeldStores) → (f st).facts.kept ≡ st.facts.kept) → (spared (place_of p) → (st : HeldStores) → NoneWaits st → NoneWaits (f st))
        → (w : Run) → Advances w → Advances (changed p (over_stores f) w)
    over_refines p peer f kept same w a = changed_refines p peer (over_stores f) w a (over_agrees p peer w a.on f kept) spares (over_stores_own f p)
      where
        spares : spared (place_of p) → (node : Node) → IsSpared node → IsSpared (over_stores f node)
        spares is_spared (Up x st) spare = (same is_spared st spare.0, spare.1)
        spares is_spared (Down st) down = absurd down

    started_spared : (mode : Mode) (opening : List ℕ) (node : Node) → IsSpared node → IsSpared (started mode opening node)
    started_spared mode opening (Up x st) none = none
    started_spared mode opening (Down st) down = absurd down

    while_spared : (f : HeldStores → HeldStores) (node : Node) → IsSpared node → IsSpared (while_down f node)
    while_spared f (Up x st) none = none
    while_spared f (Down st) down = absurd down

    failing_keeps : (store : StoreName) (leaves : Leaves) (st : HeldStores) → (failing store leaves st).facts.kept ≡ st.facts.kept
    failing_keeps names.Fact leaves st = refl
    failing_keeps names.Tree leaves st = refl
    failing_keeps names.Backend leaves st = refl

    deepening_refines : (w : Run) → Advances w → Advances (with_deepening w)
    deepening_refines w a = by (may_deepen w)
      where
        by : (b : Bool) → Advances (if b then deepened w else w)
        by true = resent w (deepened w) refl refl a
        by false = a

    effect_refines : (event : ScheduleEvent) (w : Run) → MayStand peers event → SparesAll spared event → Advances w → Advances (effect event w)
    effect_refines (Call peer id key command) w may spares a = stepped_refines peer (is_peer peer may.0.first may.0.last) (events.Call (call_of id key command)) w a tt (λ q is_spared. tt)
    effect_refines (Tick peer ticks) w may spares a = ticked_refines peer (is_peer peer may.0.first may.0.last) ticks w a
    effect_refines (Deliver message) w may spares a = delivered_refines (message - 1) w a
    effect_refines (Pass sender receiver) w may spares a = delivered_if_refines (oldest (goes sender receiver) w.mail) w a
    effect_refines (Lose sender receiver) w may spares a = resent w (with_loss sender receiver w) refl refl a
    effect_refines Calm w may spares a = calmed_refines everyone most_messages w a
    effect_refines (CalmAmong members) w may spares a = calmed_refines (set_of members) most_messages w a
    effect_refines (Change peer asked) w may spares a = stepped_refines peer (is_peer peer may.0.first may.0.last) (events.Change asked) w a tt (λ q is_spared. tt)
    effect_refines (Stop peer) w may spares a =
        changed_refines peer (is_peer peer may.first may.last) stopped w a (stopped_agrees peer (is_peer peer may.first may.last) w a.on) (λ is_spared node up. absurd (not_spared peer (is_peer peer may.first may.last) (spares (place_of peer) is_spared))) (stopped_own peer)
    effect_refines (Start peer) w may spares a =
        resent (changed peer (started (mode_at peer w) w.view) w) (with_start peer w) refl refl
        (changed_refines peer (is_peer peer may.first may.last) (started (mode_at peer w) w.view) w a (started_agrees peer (is_peer peer may.first may.last) w a.on (mode_at peer w) w.view) (λ is_spared. started_spared (mode_at peer w) w.view) (started_own peer (mode_at peer w) w.view))
    effect_refines (Upgrade peer) w may spares a = resent w (upgraded peer w) refl refl a
    effect_refines Deepen w may spares a = deepening_refines w a
    effect_refines (Spoil peer key bytes) w may spares a = over_refines peer (is_peer peer may.0.first may.0.last) (spoiled key bytes) (λ st. refl) (λ is_spared st none. record { facts = none.facts; tree = none.tree; backend = none.backend }) w a
    effect_refines (Damage peer key bytes) w may spares a =
        resent (changed peer (over_stores (segment_spoiled key bytes)) w) (with_damage peer key bytes w) refl refl
        (over_refines peer (is_peer peer may.0.first may.0.last) (segment_spoiled key bytes) (λ st. refl) (λ is_spared st none. record { facts = none.facts; tree = none.tree; backend = none.backend }) w a)
    effect_refines (Inner peer level index bytes) w may spares a =
        over_refines peer (is_peer peer may.0.first may.0.last) (inner_spoiled level index bytes) (λ st. refl) (λ is_spared st none. record { facts = none.facts; tree = none.tree; backend = none.backend }) w a
    effect_refines (Revert peer changes) w may spares a =
        changed_refines peer (is_peer peer may.0.first may.0.last) (while_down (taken_back changes)) w a (while_agrees peer (is_peer peer may.0.first may.0.last) w a.on (taken_back changes) (λ st. refl)) (λ is_spared. while_spared (taken_back changes)) (while_down_own (taken_back changes) peer)
    effect_refines (Fail peer store survivor) w may spares a =
        over_refines peer (is_peer peer may.first may.last) (failing store (leaves_of survivor)) (failing_keeps store (leaves_of survivor)) (λ is_spared st none. absurd (not_spared peer (is_peer peer may.first may.last) (spares (place_of peer) is_spared))) w a

    pub applied_refines : (event : ScheduleEvent) (w : Run) → MayStand peers event → SparesAll spared event → Advances w → Advances (applied event w)
    applied_refines event w may spares a = resent (effect event w) (counted event (effect event w)) refl refl (effect_refines event w may spares a)
