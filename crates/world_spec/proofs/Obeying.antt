-- Every message of a run goes from a peer to another and obeys the grammar of frames.
use Rattle.std.proofs.Common.{◌≡◌, ◌≤◌, ◌-◌, arith, refl, sym, subst, ap, inl, inr, ◌⊎◌, ℕ, zero, suc, Bool, true, false, List, [], ◌∷◌, map, replicate, Option, None, Some}
use Rattle.std.specs.Prelude.{All, IfSome, nat_lt, if◌then◌else◌, slice_get, slice_set}
use Rattle.std.proofs.lemmas.List.Elements.{All-nil, All-cons, All-head, All-tail, All-push}
use Rattle.std.proofs.lemmas.Option.{none-some, same_Some}
use Rattle.ens_base.specs.View.{IsPeer}
use Rattle.world_spec.specs.Held.{Held, HeldStores, empty_stores}
use Rattle.world_spec.specs.HeldLaws.{held_with}
use Rattle.world_spec.specs.HeldRuns.{Ended}
use Rattle.step_plans.specs.LeaderOutput.{Outgoing}
use Rattle.network.specs.Mail.{Mail, MayBeSent, posted, settled, goes, is_among, oldest, most_messages}
use Rattle.stored_formats.specs.declared.saved.SavedFact.{SavedFact}
use Rattle.world_spec.proofs.PeerSpec.{steps_keep}
use Rattle.world_spec.specs.PeerSpec.{step_of, MayCome, IsOwn, MaySend, AllMayGo, Reaches, start_of, opened, seals_opening, continued, continued_in, is_whole, migrated, reseals_if, scanned}
use Rattle.peer_state.specs.declared.event.Event.{Event}
use Rattle.peer_state.specs.declared.event.Event.TheVariants as events
use Rattle.peer_state.specs.declared.state.Mode.{Mode}
use Rattle.peer_state.specs.declared.state.State.{State}
use Rattle.step_plans.specs.Plans.{Plan, Ending, Finished, Stopped}
use Rattle.register_model.specs.declared.note.Note.{Note}
use Rattle.schedule_text.specs.Spelling.{MayStand, AllMayStand}
use Rattle.schedule_text.specs.declared.event.ScheduleEvent.{ScheduleEvent}
use Rattle.schedule_text.specs.declared.form.Form.{Form}
use Rattle.schedule_text.specs.declared.event.ScheduleEvent.TheVariants.{Call, Tick, Deliver, Pass, Lose, Calm, CalmAmong, Change, Stop, Start, Upgrade, Deepen, Spoil, Damage, Inner, Revert, Fail}
use Rattle.tree_node.specs.declared.body.Scan.{Scan}
use Rattle.tree_node.specs.declared.version.TreeVersion.{TreeVersion}
use Rattle.tree_node.specs.declared.version.TreeVersion.TheVariants.{One, Two}
use Rattle.phase_rows.specs.WireFrames.{Frame}
use Rattle.world_spec.proofs.Ending.{EndsIn, run_reaches}
use Rattle.world_spec.specs.Lines.{call_of, everyone, set_of, effect, applied, run_from, run_of_schedule}
use Rattle.world_spec.specs.Nodes.{Node, Up, Down, Taken, taken, taken_by, taken_of, run_over, started, stopped, over_stores, while_down, opening_node}
use Rattle.world_spec.specs.Runs.{Run, opening_mode, opening_run, mode_at, place_of, frame_from, posted_all, with_taken, stepped_at, stepped, changed_at, changed, may_deepen, deepened, with_deepening, ticked, received, without_waiting, received_if, delivered, delivered_if, going_on, calmed}
use Rattle.world_spec.specs.Stores.{failing, leaves_of, spoiled, segment_spoiled, inner_spoiled, taken_back}

-- a running peer that leads sends as itself, and a sync that it runs asks other peers alone
abbrev pub IsOwnNode : ℕ → Node → Type 0
IsOwnNode me (Up x s) = IsOwn me x
IsOwnNode me (Down s) = Unit {0}

-- the peer sends as itself after the step, and its messages may be sent
pub record IsFineTaken (me : ℕ) (t : Taken) : Type 0 where
  pub node : IsOwnNode me t.node
  pub out : AllMayGo me t.out

-- all messages so far may be sent, and all peers send as themselves
pub record IsFine (w : Run) : Type 0 where
  pub mail : All MayBeSent w.mail.sent
  pub nodes : (place : ℕ) (node : Node) → slice_get w.nodes place ≡ Some node → IsOwnNode (suc place) node

ended_fine : (me : ℕ) (e : Ending State) (h : Held) (ns : List Note) → EndsIn (λ y out. IsOwn me y × AllMayGo me out) e → IsFineTaken me (taken_by e h ns)
ended_fine me (Finished x out) h ns ends = record { node = ends.0; out = ends.1 }
ended_fine me (Stopped error) h ns ends = record { node = tt; out = All-nil (MaySend me) }

run_fine : (me : ℕ) (p : Plan State) (s : HeldStores) → Reaches (λ y out. IsOwn me y × AllMayGo me out) p → IsFineTaken me (taken_of (run_over p s))
run_fine me p s reaches =
    let e : Ended State = run_over p s in
    ended_fine me e.ending e.held e.notes (run_reaches (λ y out. IsOwn me y × AllMayGo me out) p (held_with s []) [] reaches)

-- all messages that a node sends in a step may be sent, and it sends as itself
pub taken_fine : (me : ℕ) (event : Event) (node : Node) → IsPeer me → MayCome me event → IsOwnNode me node → IsFineTaken me (taken me event node)
taken_fine me event (Up x s) peer come own = run_fine me (step_of me event x) s (steps_keep me event x peer come own)
taken_fine me event (Down s) peer come own = record { node = tt; out = All-nil (MaySend me) }

-- a peer that starts leads nobody, and runs no sync
sealing_reaches : (me : ℕ) (mode : Mode) (view : List ℕ) (seals : Bool) → Reaches (λ y out. IsOwn me y × AllMayGo me out) (seals_opening seals mode view)
sealing_reaches me mode view true = λ root told a saved. ((tt, tt), All-nil (MaySend me))
sealing_reaches me mode view false = λ a saved. ((tt, tt), All-nil (MaySend me))

resealed_reaches : (me : ℕ) (seal : Option (List ℕ)) (mode : Mode) (saved : SavedFact) → Reaches (λ y out. IsOwn me y × AllMayGo me out) (reseals_if seal mode saved)
resealed_reaches me None mode saved = ((tt, tt), All-nil (MaySend me))
resealed_reaches me (Some seal) mode saved = λ root told a kept. ((tt, tt), All-nil (MaySend me))

scanned_reaches : (me : ℕ) (mode : Mode) (saved : SavedFact) (scan : Scan) → Reaches (λ y out. IsOwn me y × AllMayGo me out) (scanned mode saved scan)
scanned_reaches me mode saved scan = by (is_whole scan)
  where
    by : (whole : Bool) → Reaches (λ y out. IsOwn me y × AllMayGo me out) (if whole then migrated mode saved scan.entries else continued Two mode saved)
    by true = λ u opened v installed. resealed_reaches me saved.seal mode saved
    by false = λ u opened. ((tt, tt), All-nil (MaySend me))

continued_reaches : (me : ℕ) (tree : TreeVersion) (mode : Mode) (saved : SavedFact) → Reaches (λ y out. IsOwn me y × AllMayGo me out) (continued_in tree mode saved)
continued_reaches me One mode saved = λ u opened. ((tt, tt), All-nil (MaySend me))
continued_reaches me Two mode saved = λ u opened scan told. scanned_reaches me mode saved scan

opened_reaches : (me : ℕ) (mode : Mode) (view : List ℕ) (kept : Option SavedFact) → Reaches (λ y out. IsOwn me y × AllMayGo me out) (opened mode view kept)
opened_reaches me mode view None = λ a sound. sealing_reaches me mode view mode.sealing
opened_reaches me mode view (Some saved) = continued_reaches me mode.tree mode saved

pub started_own : (me : ℕ) (mode : Mode) (view : List ℕ) (node : Node) → IsOwnNode me node → IsOwnNode me (started mode view node)
started_own me mode view (Up x s) own = own
started_own me mode view (Down s) own = (run_fine me (start_of mode view) s (λ kept sound. opened_reaches me mode view kept)).node

pub stopped_own : (me : ℕ) (node : Node) → IsOwnNode me node → IsOwnNode me (stopped node)
stopped_own me (Up x s) own = tt
stopped_own me (Down s) own = tt

pub over_stores_own : (f : HeldStores → HeldStores) (me : ℕ) (node : Node) → IsOwnNode me node → IsOwnNode me (over_stores f node)
over_stores_own f me (Up x s) own = own
over_stores_own f me (Down s) own = tt

pub while_down_own : (f : HeldStores → HeldStores) (me : ℕ) (node : Node) → IsOwnNode me node → IsOwnNode me (while_down f node)
while_down_own f me (Up x s) own = own
while_down_own f me (Down s) own = tt

framed : (me : ℕ) (sends : List Outgoing) → IsPeer me → All (MaySend me) sends → All MayBeSent (map (frame_from me) sends)
framed me [] peer may = All-nil MayBeSent
framed me (o ∷ sends) peer may =
    let first = All-head (MaySend me) o sends may in
    All-cons MayBeSent (frame_from me o) (map (frame_from me) sends) (peer, first.0, λ e. first.1 (sym e), first.2) (framed me sends peer (All-tail (MaySend me) o sends may))

posted_may : (fs : List Frame) (m : Mail) → All MayBeSent fs → All MayBeSent m.sent → All MayBeSent (posted_all fs m).sent
posted_may [] m new old = old
posted_may (f ∷ fs) m new old = posted_may fs (posted m f) (All-tail MayBeSent f fs new) (All-push MayBeSent m.sent f old (All-head MayBeSent f fs new))

there : {A : Type 0} (P : A → Type 0) (xs : List A) (n : ℕ) → All P xs → IfSome (slice_get xs n) P
there P [] n all = tt
there P (x ∷ xs) zero all = All-head P x xs all
there P (x ∷ xs) (suc n) all = there P xs n (All-tail P x xs all)

-- the element at a place after an element was set
get_put : {A : Type 0} (xs : List A) (p q : ℕ) (y m : A) → slice_get (slice_set xs p y) q ≡ Some m → ((p ≡ q) × (m ≡ y)) ⊎ (slice_get xs q ≡ Some m)
get_put [] p q y m is = absurd (none-some m is)
get_put (x ∷ xs) zero zero y m is = inl (refl, sym (same_Some y m is))
get_put (x ∷ xs) zero (suc q) y m is = inr is
get_put (x ∷ xs) (suc p) zero y m is = inr is
get_put (x ∷ xs) (suc p) (suc q) y m is = later (get_put xs p q y m is) where
  later : ((p ≡ q) × (m ≡ y)) ⊎ (slice_get xs q ≡ Some m) → ((suc p ≡ suc q) × (m ≡ y)) ⊎ (slice_get xs q ≡ Some m)
  later (inl here) = inl (ap suc here.0, here.1)
  later (inr other) = inr other

-- the nodes after the node of a peer changed
put_own : (peer : ℕ) (nodes : List Node) (new : Node) → IsPeer peer → IsOwnNode peer new → ((place : ℕ) (node : Node) → slice_get nodes place ≡ Some node → IsOwnNode (suc place) node)
    → (place : ℕ) (node : Node) → slice_get (slice_set nodes (place_of peer) new) place ≡ Some node → IsOwnNode (suc place) node
put_own peer nodes new is own old place node at = by_place (get_put nodes (place_of peer) place new node at) where
  number : place_of peer ≡ place → peer ≡ suc place
  number same = omega (arith, same, is.0)

  by_place : ((place_of peer ≡ place) × (node ≡ new)) ⊎ (slice_get nodes place ≡ Some node) → IsOwnNode (suc place) node
  by_place (inl here) = subst (λ n. IsOwnNode (suc place) n) (sym here.1) (subst (λ q. IsOwnNode q new) (number here.0) own)
  by_place (inr other) = old place node other

with_taken_fine : (peer : ℕ) (t : Taken) (w : Run) → IsPeer peer → IsFineTaken peer t → IsFine w → IsFine (with_taken peer t w)
with_taken_fine peer t w is fine old = record {
  mail = posted_may (map (frame_from peer) t.out.sends) w.mail (framed peer t.out.sends is fine.out) old.mail;
  nodes = put_own peer w.nodes t.node is fine.node old.nodes;
}

-- the node of a peer
own_node : (peer : ℕ) (w : Run) (node : Node) → IsPeer peer → IsFine w → slice_get w.nodes (place_of peer) ≡ Some node → IsOwnNode peer node
own_node peer w node is old at = subst (λ q. IsOwnNode q node) number (old.nodes (place_of peer) node at) where
  number : suc (place_of peer) ≡ peer
  number = omega (arith, is.0)

pub stepped_fine : (peer : ℕ) (event : Event) (w : Run) → IsPeer peer → MayCome peer event → IsFine w → IsFine (stepped peer event w)
stepped_fine peer event w is come old = by_node (slice_get w.nodes (place_of peer)) (λ node at. own_node peer w node is old at) where
  by_node : (o : Option Node) → ((node : Node) → o ≡ Some node → IsOwnNode peer node) → IsFine (stepped_at o peer event w)
  by_node None own = old
  by_node (Some node) own = with_taken_fine peer (taken peer event node) w is (taken_fine peer event node is come (own node refl)) old

pub changed_fine : (peer : ℕ) (change : Node → Node) (w : Run) → IsPeer peer → ((n : Node) → IsOwnNode peer n → IsOwnNode peer (change n)) → IsFine w → IsFine (changed peer change w)
changed_fine peer change w is keeps old = by_node (slice_get w.nodes (place_of peer)) (λ node at. own_node peer w node is old at) where
  by_node : (o : Option Node) → ((node : Node) → o ≡ Some node → IsOwnNode peer node) → IsFine (changed_at o peer change w)
  by_node None own = old
  by_node (Some node) own = record { mail = old.mail; nodes = put_own peer w.nodes (change node) is (keeps node (own node refl)) old.nodes }

ticked_fine : (peer n : ℕ) (w : Run) → IsPeer peer → IsFine w → IsFine (ticked peer n w)
unfolding ticked
ticked_fine peer zero w is old = old
ticked_fine peer (suc n) w is old = ticked_fine peer n (stepped peer events.Tick w) is (stepped_fine peer events.Tick w is tt old)

received_fine : (f : Frame) (n : ℕ) (w : Run) → MayBeSent f → IsFine w → IsFine (received f n w)
received_fine f n w may old =
    stepped_fine f.to (events.Deliver f.from f.message) (record w { mail = settled w.mail n }) may.1 (may.0, may.2, may.3) (record { mail = old.mail; nodes = old.nodes })

received_if_fine : (f : Option Frame) (n : ℕ) (w : Run) → IfSome f MayBeSent → IsFine w → IsFine (received_if f n w)
received_if_fine None n w may old = old
received_if_fine (Some f) n w may old = by (nat_lt n w.first_alive)
  where
    by : (lost : Bool) → IsFine (if lost then without_waiting n w else received f n w)
    by true = record { mail = old.mail; nodes = old.nodes }
    by false = received_fine f n w may old

pub delivered_fine : (n : ℕ) (w : Run) → IsFine w → IsFine (delivered n w)
delivered_fine n w old = received_if_fine (slice_get w.mail.sent n) n w (there MayBeSent w.mail.sent n old.mail) old

delivered_if_fine : (n : Option ℕ) (w : Run) → IsFine w → IsFine (delivered_if n w)
delivered_if_fine None w old = old
delivered_if_fine (Some n) w old = delivered_fine n w old

calmed_fine : (peers : List Bool) (n : ℕ) (w : Run) → IsFine w → IsFine (calmed peers n w)
unfolding calmed
calmed_fine peers zero w old = old
calmed_fine peers (suc n) w old = going (oldest (is_among peers) w.mail) (λ v now. calmed_fine peers n v now) where
  going : (k : Option ℕ) → ((v : Run) → IsFine v → IsFine (calmed peers n v)) → IsFine (going_on k (λ v. calmed peers n v) w)
  going None later = old
  going (Some k) later = later (delivered k w) (delivered_fine k w old)

deepening_fine : (w : Run) → IsFine w → IsFine (with_deepening w)
deepening_fine w old = by (may_deepen w)
  where
    by : (may : Bool) → IsFine (if may then deepened w else w)
    by true = record { mail = old.mail; nodes = old.nodes }
    by false = old

pub effect_fine : (peers : ℕ) (event : ScheduleEvent) (w : Run) → peers ≤ 31 → MayStand peers event → IsFine w → IsFine (effect event w)
effect_fine peers (Call peer id key command) w few stand old = stepped_fine peer (events.Call (call_of id key command)) w (stand.0.first, omega (arith, few, stand.0.last)) tt old
effect_fine peers (Tick peer ticks) w few stand old = ticked_fine peer ticks w (stand.0.first, omega (arith, few, stand.0.last)) old
effect_fine peers (Deliver message) w few stand old = delivered_fine (message - 1) w old
effect_fine peers (Pass sender receiver) w few stand old = delivered_if_fine (oldest (goes sender receiver) w.mail) w old
effect_fine peers (Lose sender receiver) w few stand old = record { mail = old.mail; nodes = old.nodes }
effect_fine peers Calm w few stand old = calmed_fine everyone most_messages w old
effect_fine peers (CalmAmong members) w few stand old = calmed_fine (set_of members) most_messages w old
effect_fine peers (Change peer view) w few stand old = stepped_fine peer (events.Change view) w (stand.0.first, omega (arith, few, stand.0.last)) tt old
effect_fine peers (Stop peer) w few stand old = changed_fine peer stopped w (stand.first, omega (arith, few, stand.last)) (stopped_own peer) old
effect_fine peers (Start peer) w few stand old =
    let now = changed_fine peer (started (mode_at peer w) w.view) w (stand.first, omega (arith, few, stand.last)) (started_own peer (mode_at peer w) w.view) old in
    record { mail = now.mail; nodes = now.nodes }
effect_fine peers (Upgrade peer) w few stand old = record { mail = old.mail; nodes = old.nodes }
effect_fine peers Deepen w few stand old = deepening_fine w old
effect_fine peers (Spoil peer key bytes) w few stand old = changed_fine peer (over_stores (spoiled key bytes)) w (stand.0.first, omega (arith, few, stand.0.last)) (over_stores_own (spoiled key bytes) peer) old
effect_fine peers (Damage peer key bytes) w few stand old =
    let now = changed_fine peer (over_stores (segment_spoiled key bytes)) w (stand.0.first, omega (arith, few, stand.0.last)) (over_stores_own (segment_spoiled key bytes) peer) old in
    record { mail = now.mail; nodes = now.nodes }
effect_fine peers (Inner peer level index bytes) w few stand old = changed_fine peer (over_stores (inner_spoiled level index bytes)) w (stand.0.first, omega (arith, few, stand.0.last)) (over_stores_own (inner_spoiled level index bytes) peer) old
effect_fine peers (Revert peer changes) w few stand old = changed_fine peer (while_down (taken_back changes)) w (stand.0.first, omega (arith, few, stand.0.last)) (while_down_own (taken_back changes) peer) old
effect_fine peers (Fail peer store survivor) w few stand old = changed_fine peer (over_stores (failing store (leaves_of survivor))) w (stand.first, omega (arith, few, stand.last)) (over_stores_own (failing store (leaves_of survivor)) peer) old

run_from_fine : (peers : ℕ) (events : List ScheduleEvent) (w : Run) → peers ≤ 31 → AllMayStand peers events → IsFine w → IsFine (run_from events w)
run_from_fine peers [] w few stand old = old
run_from_fine peers (event ∷ more) w few stand old =
    let now = effect_fine peers event w few stand.0 old in
    run_from_fine peers more (applied event w) few stand.1 (record { mail = now.mail; nodes = now.nodes })

replicated : (n place : ℕ) (x y : Node) → slice_get (replicate n x) place ≡ Some y → x ≡ y
replicated zero place x y at = absurd (none-some y at)
replicated (suc n) zero x y at = same_Some x y at
replicated (suc n) (suc place) x y at = replicated n place x y at

pub opening_fine : (form : Form) (peers : ℕ) (view : List ℕ) → IsFine (opening_run form peers view)
opening_fine form peers view = record {
  mail = All-nil MayBeSent;
  nodes = λ place node at. subst (λ n. IsOwnNode (suc place) n) (replicated peers place (opening_node (opening_mode form) view) node at) (started_own (suc place) (opening_mode form) view (Down empty_stores) tt);
}

-- every message in the run of a schedule may be sent
pub run_may : (form : Form) (peers : ℕ) (view : List ℕ) (events : List ScheduleEvent) → peers ≤ 31 → AllMayStand peers events → All MayBeSent (run_of_schedule form peers view events).mail.sent
run_may form peers view events few stand = (run_from_fine peers events (opening_run form peers view) few stand (opening_fine form peers view)).mail
