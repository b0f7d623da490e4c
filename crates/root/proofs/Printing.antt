-- What a world prints: with each line of its schedule only lines of that event.
use Rattle.std.proofs.Common.{◌≡◌, ℕ, zero, suc, ◌+◌, ◌-◌, ◌<◌, ◌≤◌, ◌^◌, Bool, true, false, nat_lt, if◌then◌else◌, Option, None, Some, List, [], ◌∷◌, ◌++◌, length, map, drop, refl, sym, ap, subst, ◌∙◌, arith, append-nil, append_assoc, inl, inr}
use Rattle.std.specs.Prelude.{All, slice_get}
use Rattle.std.proofs.lemmas.List.Elements.{All-nil, All-cons}
use Rattle.ens_base.specs.Lists.{◌∈◌}
use Rattle.leader_output.specs.declared.out.AnswerOut.{AnswerOut}
use Rattle.network.specs.Mail.{goes, is_among, oldest, most_messages}
use Rattle.peer_state.specs.declared.event.Event.{Event}
use Rattle.peer_state.specs.declared.event.Event.TheVariants as events
use Rattle.register_model.specs.declared.answer.Answer.{Answer}
use Rattle.register_model.specs.declared.printed.Printed.{Printed}
use Rattle.register_model.specs.declared.printed.Printed.TheVariants as lines
use Rattle.schedule_text.specs.declared.event.ScheduleEvent.{ScheduleEvent}
use Rattle.schedule_text.specs.declared.event.ScheduleEvent.TheVariants.{Call, Tick, Deliver, Pass, Lose, Calm, CalmAmong, Change, Stop, Start, Upgrade, Deepen, Spoil, Damage, Inner, Revert, Fail}
use Rattle.step_plans.specs.Plans.{Out}
use Rattle.wire_frames.specs.declared.frame.Frame.{Frame}
use Rattle.world_spec.specs.Lines.{call_of, everyone, set_of, effect, applied, keys_in, run_from}
use Rattle.world_spec.specs.Nodes.{Node, taken, started, stopped, over_stores, while_down}
use Rattle.world_spec.specs.Runs.{Run, mode_at, next_event, opening_run, answer_line, change_line, printed_by, place_of, stepped_at, stepped, changed_at, changed, may_deepen, deepened, with_deepening, ticked, received, without_waiting, received_if, delivered, delivered_if, going_on, calmed}
use Rattle.world_spec.specs.Stores.{failing, leaves_of, spoiled, segment_spoiled, inner_spoiled, taken_back}
use Rattle.world_spec.proofs.Calming.{run_to_last}
use Rattle.root_laws.specs.Steps.{GrowByLine, IsAt, printed_next}
use Rattle.root_laws.specs.Worlds.{answers_in}
use Rattle.root.specs.Worlds.{newest, world, worlds}

-- ## Lines of one event

abbrev AreAt : ℕ → List Printed → Type 0
AreAt n [] = Unit {0}
AreAt n (p ∷ ps) = IsAt n p × AreAt n ps

at_both : (n : ℕ) (xs ys : List Printed) → AreAt n xs → AreAt n ys → AreAt n (xs ++ ys)
at_both n [] ys f g = g
at_both n (x ∷ xs) ys f g = (f.0, at_both n xs ys f.1 g)

at_all : (n : ℕ) (xs : List Printed) → AreAt n xs → All (IsAt n) xs
at_all n [] h = All-nil (IsAt n)
at_all n (x ∷ xs) h = All-cons (IsAt n) x xs h.0 (at_all n xs h.1)

answers_at : (n : ℕ) (answers : List AnswerOut) → AreAt n (map (answer_line n) answers)
answers_at n [] = tt
answers_at n (a ∷ answers) = (refl, answers_at n answers)

changes_at : (n peer : ℕ) (changes : List Bool) → AreAt n (map (change_line n peer) changes)
changes_at n peer [] = tt
changes_at n peer (c ∷ changes) = (refl, changes_at n peer changes)

-- from one world to the other lines of this event are printed; no event is counted, and no key is named
record Prints (n : ℕ) (w v : Run) : Type 0 where
  lines : List Printed
  printed : v.printed ≡ w.printed ++ lines
  at : AreAt n lines
  events : v.events ≡ w.events
  called : v.called ≡ w.called

module _ (n : ℕ) where
  quiet : (w v : Run) → v.printed ≡ w.printed → v.events ≡ w.events → v.called ≡ w.called → Prints n w v
  quiet w v printed events called = record { lines = []; printed = printed ∙ sym (append-nil w.printed); at = tt; events = events; called = called }

  both : (u v w : Run) → Prints n u v → Prints n v w → Prints n u w
  both u v w a b = record {
    lines = a.lines ++ b.lines;
    printed = b.printed ∙ ap (λ (l : List Printed). l ++ b.lines) a.printed ∙ append_assoc u.printed a.lines b.lines;
    at = at_both n a.lines b.lines a.at b.at;
    events = b.events ∙ a.events;
    called = b.called ∙ a.called;
  }

  abbrev IsNext : Run → Type 0
  IsNext w = next_event w.events ≡ n

  still_next : (w v : Run) → IsNext w → Prints n w v → IsNext v
  still_next w v is a = ap next_event a.events ∙ is

  stepped_prints : (peer : ℕ) (event : Event) (w : Run) → IsNext w → Prints n w (stepped peer event w)
  stepped_prints peer event w is = by (slice_get w.nodes (place_of peer))
    where
      by : (node : Option Node) → Prints n w (stepped_at node peer event w)
      by None = quiet w w refl refl refl
      by (Some node) =
          let o : Out = (taken peer event node).out in
          record {
            lines = printed_by (next_event w.events) peer o;
            printed = refl;
            at = subst (λ (e : ℕ). AreAt n (printed_by e peer o)) (sym is) (at_both n (map (answer_line n) o.answers) (map (change_line n peer) o.changes) (answers_at n o.answers) (changes_at n peer o.changes));
            events = refl;
            called = refl;
          }

  ticked_prints : (peer k : ℕ) (w : Run) → IsNext w → Prints n w (ticked peer k w)
  unfolding ticked
  ticked_prints peer zero w is = quiet w w refl refl refl
  ticked_prints peer (suc k) w is =
      let v = stepped peer events.Tick w in
      let first = stepped_prints peer events.Tick w is in
      both w v (ticked peer k v) first (ticked_prints peer k v (still_next w v is first))

  received_prints : (f : Option Frame) (k : ℕ) (w : Run) → IsNext w → Prints n w (received_if f k w)
  received_prints None k w is = quiet w w refl refl refl
  received_prints (Some f) k w is = by (nat_lt k w.first_alive)
    where
      by : (lost : Bool) → Prints n w (if lost then without_waiting k w else received f k w)
      by true = quiet w (without_waiting k w) refl refl refl
      by false =
          let a = stepped_prints f.to (events.Deliver f.from f.message) (without_waiting k w) is in
          record { lines = a.lines; printed = a.printed; at = a.at; events = a.events; called = a.called }

  delivered_prints : (k : ℕ) (w : Run) → IsNext w → Prints n w (delivered k w)
  delivered_prints k w is = received_prints (slice_get w.mail.sent k) k w is

  passed_prints : (k : Option ℕ) (w : Run) → IsNext w → Prints n w (delivered_if k w)
  passed_prints None w is = quiet w w refl refl refl
  passed_prints (Some k) w is = delivered_prints k w is

  calmed_prints : (peers : List Bool) (k : ℕ) (w : Run) → IsNext w → Prints n w (calmed peers k w)
  unfolding calmed
  calmed_prints peers zero w is = quiet w w refl refl refl
  calmed_prints peers (suc k) w is = by (oldest (is_among peers) w.mail) (λ v next. calmed_prints peers k v next)
    where
      by : (m : Option ℕ) → ((v : Run) → IsNext v → Prints n v (calmed peers k v)) → Prints n w (going_on m (λ v. calmed peers k v) w)
      by None later = quiet w w refl refl refl
      by (Some m) later =
          let first = delivered_prints m w is in
          both w (delivered m w) (calmed peers k (delivered m w)) first (later (delivered m w) (still_next w (delivered m w) is first))

  changed_at_prints : (node : Option Node) (peer : ℕ) (change : Node → Node) (w : Run) → Prints n w (changed_at node peer change w)
  changed_at_prints None peer change w = quiet w w refl refl refl
  changed_at_prints (Some node) peer change w = quiet w (changed_at (Some node) peer change w) refl refl refl

  changed_prints : (peer : ℕ) (change : Node → Node) (w : Run) → Prints n w (changed peer change w)
  changed_prints peer change w = changed_at_prints (slice_get w.nodes (place_of peer)) peer change w

  -- strings that are hashed are not printed
  hashing_prints : (peer : ℕ) (change : Node → Node) (strings : List (List ℕ)) (w : Run) → Prints n w (record (changed peer change w) { hashed = (changed peer change w).hashed ++ strings })
  hashing_prints peer change strings w = let a = changed_prints peer change w in record { lines = a.lines; printed = a.printed; at = a.at; events = a.events; called = a.called }

  deepening_prints : (w : Run) → Prints n w (with_deepening w)
  deepening_prints w = by (may_deepen w)
    where
      by : (b : Bool) → Prints n w (if b then deepened w else w)
      by true = quiet w (deepened w) refl refl refl
      by false = quiet w w refl refl refl

  effect_prints : (event : ScheduleEvent) (w : Run) → IsNext w → Prints n w (effect event w)
  effect_prints (Call peer id key command) w is = stepped_prints peer (events.Call (call_of id key command)) w is
  effect_prints (Tick peer ticks) w is = ticked_prints peer ticks w is
  effect_prints (Deliver message) w is = delivered_prints (message - 1) w is
  effect_prints (Pass sender receiver) w is = passed_prints (oldest (goes sender receiver) w.mail) w is
  effect_prints (Lose sender receiver) w is = quiet w (effect (Lose sender receiver) w) refl refl refl
  effect_prints Calm w is = calmed_prints everyone most_messages w is
  effect_prints (CalmAmong members) w is = calmed_prints (set_of members) most_messages w is
  effect_prints (Change peer view) w is = stepped_prints peer (events.Change view) w is
  effect_prints (Stop peer) w is = changed_prints peer stopped w
  effect_prints (Start peer) w is = hashing_prints peer (started (mode_at peer w) w.view) _ w
  effect_prints (Upgrade peer) w is = quiet w (effect (Upgrade peer) w) refl refl refl
  effect_prints Deepen w is = deepening_prints w
  effect_prints (Spoil peer key bytes) w is = changed_prints peer (over_stores (spoiled key bytes)) w
  effect_prints (Damage peer key bytes) w is = hashing_prints peer (over_stores (segment_spoiled key bytes)) _ w
  effect_prints (Inner peer level index bytes) w is = changed_prints peer (over_stores (inner_spoiled level index bytes)) w
  effect_prints (Revert peer changes) w is = changed_prints peer (while_down (taken_back changes)) w
  effect_prints (Fail peer store survivor) w is = changed_prints peer (over_stores (failing store (leaves_of survivor))) w

-- ## Runs

-- the run of these events has counted them
counted : (events : List ScheduleEvent) (w : Run) → w.events + length events < 2 ^ 32 → (run_from events w).events ≡ w.events + length events
counted [] w few = omega arith
counted (event ∷ more) w few =
    let a = effect_prints (next_event w.events) event w refl in
    let v = applied event w in
    let now : v.events ≡ w.events + 1 = ap next_event a.events ∙ number w.events (omega (arith, few)) in
    let later = counted more v (omega (arith, few, now)) in
    omega (arith, later, now)
  where
    number : (k : ℕ) → k < 2 ^ 32 → next_event k ≡ k + 1
    number k less = omega (arith, less)

-- the keys that these lines name
abbrev pub called_in : List ScheduleEvent → List (List ℕ)
called_in [] = []
called_in (event ∷ more) = keys_in event ++ called_in more

pub run_called : (events : List ScheduleEvent) (w : Run) → (run_from events w).called ≡ w.called ++ called_in events
run_called [] w = sym (append-nil w.called)
run_called (event ∷ more) w =
    let a = effect_prints (next_event w.events) event w refl in
    run_called more (applied event w) ∙ ap (λ (ks : List (List ℕ)). ks ++ keys_in event ++ called_in more) a.called ∙ append_assoc w.called (keys_in event) (called_in more)

drop_prefix : (xs ys : List Printed) → drop (length xs) (xs ++ ys) ≡ ys
drop_prefix [] ys = refl
drop_prefix (x ∷ xs) ys = drop_prefix xs ys

module _ (peers : ℕ) (view : List ℕ) (done : List ScheduleEvent) (event : ScheduleEvent) where
  abbrev before : Run
  before = world peers view done

  abbrev after : Run
  after = world peers view (done ++ event ∷ [])

  step : Prints (next_event before.events) before (effect event before)
  step = effect_prints (next_event before.events) event before refl

  printed_after : after.printed ≡ before.printed ++ step.lines
  printed_after = ap (λ (w : Run). w.printed) (run_to_last done event (opening_run newest peers view)) ∙ step.printed

  next_is : printed_next worlds peers view done event ≡ step.lines
  next_is = ap (drop (length before.printed)) printed_after ∙ drop_prefix before.printed step.lines

  grows : after.printed ≡ before.printed ++ printed_next worlds peers view done event
  grows = printed_after ∙ ap (λ (l : List Printed). before.printed ++ l) (sym next_is)

  grows_at : length done < 2 ^ 32 → All (IsAt (length done + 1)) (printed_next worlds peers view done event)
  grows_at few =
      let so_far : before.events ≡ 0 + length done = counted done (opening_run newest peers view) (omega (arith, few)) in
      let number : next_event before.events ≡ length done + 1 = omega (arith, so_far, few) in
      subst (λ (l : List Printed). All (IsAt (length done + 1)) l) (sym next_is) (at_all (length done + 1) step.lines (subst (λ (k : ℕ). AreAt k step.lines) number step.at))

-- the worlds of a script print line by line
pub worlds_grow : GrowByLine worlds
worlds_grow = record { silent = λ peers view. refl; grow = grows; at = grows_at }

-- ## No line is printed at an event that has not come

abbrev AreBy : ℕ → List Printed → Type 0
AreBy n [] = Unit {0}
AreBy n (lines.Answer a ∷ ps) = (a.event ≤ n) × AreBy n ps
AreBy n (lines.Change event peer taken ∷ ps) = AreBy n ps

by_later : (n m : ℕ) (ps : List Printed) → n ≤ m → AreBy n ps → AreBy m ps
by_later n m [] le h = tt
by_later n m (lines.Answer a ∷ ps) le h = (omega (arith, h.0, le), by_later n m ps le h.1)
by_later n m (lines.Change event peer taken ∷ ps) le h = by_later n m ps le h

by_at : (n : ℕ) (ps : List Printed) → AreAt n ps → AreBy n ps
by_at n [] h = tt
by_at n (lines.Answer a ∷ ps) h = (omega (arith, h.0), by_at n ps h.1)
by_at n (lines.Change event peer taken ∷ ps) h = by_at n ps h.1

by_append : (n : ℕ) (xs ys : List Printed) → AreBy n xs → AreBy n ys → AreBy n (xs ++ ys)
by_append n [] ys f g = g
by_append n (lines.Answer a ∷ xs) ys f g = (f.0, by_append n xs ys f.1 g)
by_append n (lines.Change event peer taken ∷ xs) ys f g = by_append n xs ys f g

run_by : (events : List ScheduleEvent) (w : Run) → w.events + length events < 2 ^ 32 → AreBy w.events w.printed → AreBy (w.events + length events) (run_from events w).printed
run_by [] w few h = by_later w.events (w.events + 0) w.printed (omega arith) h
run_by (event ∷ more) w few h =
    let a = effect_prints (next_event w.events) event w refl in
    let v = applied event w in
    let next : next_event w.events ≡ w.events + 1 = number w.events (omega (arith, few)) in
    let now : v.events ≡ w.events + 1 = ap next_event a.events ∙ next in
    let here : AreBy v.events v.printed = subst (λ (l : List Printed). AreBy v.events l) (sym a.printed)
    (by_append v.events w.printed a.lines (by_later w.events v.events w.printed (omega (arith, now)) h) (subst (λ (k : ℕ). AreBy k a.lines) (next ∙ sym now) (by_at (next_event w.events) a.lines a.at))) in
    let same : v.events + length more ≡ w.events + length (event ∷ more) = omega (arith, now) in
    subst (λ (k : ℕ). AreBy k (run_from more v).printed) same (run_by more v (omega (arith, few, now)) here)
  where
    number : (k : ℕ) → k < 2 ^ 32 → next_event k ≡ k + 1
    number k less = omega (arith, less)

pub answer_by : (n : ℕ) (ps : List Printed) (a : Answer) → AreBy n ps → a ∈ answers_in ps → a.event ≤ n
answer_by n [] a h m = absurd m
answer_by n (lines.Answer b ∷ ps) a h (inl is) = let at : a.event ≡ b.event = ap (λ (x : Answer). x.event) is in omega (arith, h.0, at)
answer_by n (lines.Answer b ∷ ps) a h (inr m) = answer_by n ps a h.1 m
answer_by n (lines.Change event peer taken ∷ ps) a h m = answer_by n ps a h m

pub world_by : (peers : ℕ) (view : List ℕ) (events : List ScheduleEvent) → length events < 2 ^ 32 → AreBy (length events) (world peers view events).printed
world_by peers view events few =
    let all : 0 + length events ≡ length events = omega arith in
    subst (λ (k : ℕ). AreBy k (world peers view events).printed) all (run_by events (opening_run newest peers view) (omega (arith, few)) tt)
