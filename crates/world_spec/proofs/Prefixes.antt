-- The strings hashed before make no difference to a run.
use Rattle.std.proofs.Common.{◌≡◌, ◌-◌, ◌∙◌, ℕ, zero, suc, Option, None, Some, List, [], ◌∷◌, ◌++◌, refl, sym, ap}
use Rattle.std.specs.Prelude.{Bool, true, false, nat_lt, if◌then◌else◌, slice_get}
use Rattle.std.proofs.lemmas.List.{append-nil, append_assoc}
use Rattle.network.specs.Mail.{settled, goes, is_among, oldest, most_messages}
use Rattle.peer_state.specs.declared.event.Event.{Event}
use Rattle.peer_state.specs.declared.event.Event.TheVariants as events
use Rattle.schedule_text.specs.declared.event.ScheduleEvent.{ScheduleEvent}
use Rattle.schedule_text.specs.declared.event.ScheduleEvent.TheVariants.{Call, Tick, Deliver, Pass, Lose, Calm, CalmAmong, Change, Stop, Start, Upgrade, Deepen, Spoil, Damage, Inner, Revert, Fail}
use Rattle.phase_rows.specs.WireFrames.{Frame}
use Rattle.world_spec.specs.Lines.{call_of, everyone, set_of, with_damage, effect, counted, applied, run_from}
use Rattle.world_spec.specs.Nodes.{Node, Taken, taken, started, stopped, over_stores, while_down}
use Rattle.world_spec.specs.Runs.{Run, in_front, unhashed, place_of, with_taken, stepped_at, stepped, changed_at, changed, mode_at, start_strings, hashing, with_start, may_deepen, deepened, with_deepening, ticked, received, without_waiting, received_if, delivered, delivered_if, going_on, calmed}
use Rattle.world_spec.specs.Stores.{failing, leaves_of, spoiled, segment_spoiled, inner_spoiled, taken_back}

taken_prefix : (xs : List (List ℕ)) (peer : ℕ) (t : Taken) (w : Run) → with_taken peer t (in_front xs w) ≡ in_front xs (with_taken peer t w)
taken_prefix xs peer t w = ap (λ h. record (with_taken peer t w) { hashed = h }) (append_assoc xs w.hashed t.hashed)

stepped_at_prefix : (xs : List (List ℕ)) (node : Option Node) (peer : ℕ) (event : Event) (w : Run) → stepped_at node peer event (in_front xs w) ≡ in_front xs (stepped_at node peer event w)
stepped_at_prefix xs None peer event w = refl
stepped_at_prefix xs (Some node) peer event w = taken_prefix xs peer (taken peer event node) w

pub stepped_prefix : (xs : List (List ℕ)) (peer : ℕ) (event : Event) (w : Run) → stepped peer event (in_front xs w) ≡ in_front xs (stepped peer event w)
stepped_prefix xs peer event w = stepped_at_prefix xs (slice_get w.nodes (place_of peer)) peer event w

pub ticked_prefix : (peer n : ℕ) (xs : List (List ℕ)) (w : Run) → ticked peer n (in_front xs w) ≡ in_front xs (ticked peer n w)
unfolding ticked
ticked_prefix peer zero xs w = refl
ticked_prefix peer (suc n) xs w = ap (λ v. ticked peer n v) (stepped_prefix xs peer events.Tick w) ∙ ticked_prefix peer n xs (stepped peer events.Tick w)

received_prefix : (xs : List (List ℕ)) (f : Option Frame) (n : ℕ) (w : Run) → received_if f n (in_front xs w) ≡ in_front xs (received_if f n w)
received_prefix xs None n w = refl
received_prefix xs (Some f) n w = by (nat_lt n w.first_alive)
  where
    by : (lost : Bool) → (if lost then without_waiting n (in_front xs w) else received f n (in_front xs w)) ≡ in_front xs (if lost then without_waiting n w else received f n w)
    by true = refl
    by false = stepped_prefix xs f.to (events.Deliver f.from f.message) (record w { mail = settled w.mail n })

delivered_prefix : (xs : List (List ℕ)) (n : ℕ) (w : Run) → delivered n (in_front xs w) ≡ in_front xs (delivered n w)
delivered_prefix xs n w = received_prefix xs (slice_get w.mail.sent n) n w

pub passed_prefix : (xs : List (List ℕ)) (n : Option ℕ) (w : Run) → delivered_if n (in_front xs w) ≡ in_front xs (delivered_if n w)
passed_prefix xs None w = refl
passed_prefix xs (Some n) w = delivered_prefix xs n w

pub calmed_prefix : (peers : List Bool) (n : ℕ) (xs : List (List ℕ)) (w : Run) → calmed peers n (in_front xs w) ≡ in_front xs (calmed peers n w)
unfolding calmed
calmed_prefix peers zero xs w = refl
calmed_prefix peers (suc n) xs w = going (oldest (is_among peers) w.mail) (λ v. calmed_prefix peers n xs v) where
  going : (k : Option ℕ) → ((v : Run) → calmed peers n (in_front xs v) ≡ in_front xs (calmed peers n v))
      → going_on k (λ v. calmed peers n v) (in_front xs w) ≡ in_front xs (going_on k (λ v. calmed peers n v) w)
  going None later = refl
  going (Some k) later = ap (λ v. calmed peers n v) (delivered_prefix xs k w) ∙ later (delivered k w)

changed_at_prefix : (xs : List (List ℕ)) (node : Option Node) (peer : ℕ) (change : Node → Node) (w : Run) → changed_at node peer change (in_front xs w) ≡ in_front xs (changed_at node peer change w)
changed_at_prefix xs None peer change w = refl
changed_at_prefix xs (Some node) peer change w = refl

changed_prefix : (xs : List (List ℕ)) (peer : ℕ) (change : Node → Node) (w : Run) → changed peer change (in_front xs w) ≡ in_front xs (changed peer change w)
changed_prefix xs peer change w = changed_at_prefix xs (slice_get w.nodes (place_of peer)) peer change w

start_prefix : (xs : List (List ℕ)) (peer : ℕ) (w : Run) → with_start peer (in_front xs w) ≡ in_front xs (with_start peer w)
start_prefix xs peer w =
    let strings = start_strings (mode_at peer w) w.view (slice_get w.nodes (place_of peer)) in
    let v = changed peer (started (mode_at peer w) w.view) w in
    ap (hashing strings) (changed_prefix xs peer (started (mode_at peer w) w.view) w) ∙ ap (λ h. record v { hashed = h }) (append_assoc xs v.hashed strings)

damage_prefix : (xs : List (List ℕ)) (peer : ℕ) (key : List ℕ) (bytes : Option (List ℕ)) (w : Run) → with_damage peer key bytes (in_front xs w) ≡ in_front xs (with_damage peer key bytes w)
damage_prefix xs peer key bytes w =
    let v = changed peer (over_stores (segment_spoiled key bytes)) w in
    ap (hashing (key ∷ [])) (changed_prefix xs peer (over_stores (segment_spoiled key bytes)) w) ∙ ap (λ h. record v { hashed = h }) (append_assoc xs v.hashed (key ∷ []))

deepening_prefix : (xs : List (List ℕ)) (w : Run) → with_deepening (in_front xs w) ≡ in_front xs (with_deepening w)
deepening_prefix xs w = by (may_deepen w)
  where
    by : (may : Bool) → (if may then deepened (in_front xs w) else in_front xs w) ≡ in_front xs (if may then deepened w else w)
    by true = refl
    by false = refl

pub effect_prefix : (event : ScheduleEvent) (xs : List (List ℕ)) (w : Run) → effect event (in_front xs w) ≡ in_front xs (effect event w)
effect_prefix (Call peer id key command) xs w = stepped_prefix xs peer (events.Call (call_of id key command)) w
effect_prefix (Tick peer ticks) xs w = ticked_prefix peer ticks xs w
effect_prefix (Deliver message) xs w = delivered_prefix xs (message - 1) w
effect_prefix (Pass sender receiver) xs w = passed_prefix xs (oldest (goes sender receiver) w.mail) w
effect_prefix (Lose sender receiver) xs w = refl
effect_prefix Calm xs w = calmed_prefix everyone most_messages xs w
effect_prefix (CalmAmong members) xs w = calmed_prefix (set_of members) most_messages xs w
effect_prefix (Change peer view) xs w = stepped_prefix xs peer (events.Change view) w
effect_prefix (Stop peer) xs w = changed_prefix xs peer stopped w
effect_prefix (Start peer) xs w = start_prefix xs peer w
effect_prefix (Upgrade peer) xs w = refl
effect_prefix Deepen xs w = deepening_prefix xs w
effect_prefix (Spoil peer key bytes) xs w = changed_prefix xs peer (over_stores (spoiled key bytes)) w
effect_prefix (Damage peer key bytes) xs w = damage_prefix xs peer key bytes w
effect_prefix (Inner peer level index bytes) xs w = changed_prefix xs peer (over_stores (inner_spoiled level index bytes)) w
effect_prefix (Revert peer changes) xs w = changed_prefix xs peer (while_down (taken_back changes)) w
effect_prefix (Fail peer store survivor) xs w = changed_prefix xs peer (over_stores (failing store (leaves_of survivor))) w

-- a line after these strings is the line with these strings in front
pub applied_prefix : (event : ScheduleEvent) (xs : List (List ℕ)) (w : Run) → applied event (in_front xs w) ≡ in_front xs (applied event w)
applied_prefix event xs w = ap (counted event) (effect_prefix event xs w)

pub run_prefix : (events : List ScheduleEvent) (xs : List (List ℕ)) (w : Run) → run_from events (in_front xs w) ≡ in_front xs (run_from events w)
run_prefix [] xs w = refl
run_prefix (event ∷ more) xs w = ap (run_from more) (applied_prefix event xs w) ∙ run_prefix more xs (applied event w)

-- ## Runs that go on from a world, which keeps no hashed strings

-- nothing in front makes no difference
pub in_front_none : (w : Run) → in_front [] w ≡ w
in_front_none w = refl

in_front_again : (xs ys : List (List ℕ)) (w : Run) → in_front xs (in_front ys w) ≡ in_front (xs ++ ys) w
in_front_again xs ys w = ap (λ h. record w { hashed = h }) (sym (append_assoc xs ys w.hashed))

begun_anew : (w : Run) → w ≡ in_front w.hashed (unhashed w)
begun_anew w = ap (λ h. record w { hashed = h }) (sym (append-nil w.hashed))

-- a run that goes on from `due` goes on from the world that `due` led to, with the strings of `due` in
-- prefix
pub onward : (f : Run → Run) → ((xs : List (List ℕ)) (w : Run) → f (in_front xs w) ≡ in_front xs (f w)) → (xs : List (List ℕ)) (due next whole : Run)
    → in_front xs (f due) ≡ whole → next ≡ unhashed due → in_front (xs ++ due.hashed) (f next) ≡ whole
onward f prefix xs due next whole old is =
    rw is (sym (in_front_again xs due.hashed (f (unhashed due))) ∙ ap (in_front xs) (sym (ap f (begun_anew due) ∙ prefix due.hashed (unhashed due))) ∙ old)
