-- What a run prints: at each event the answers of that event, and then the outcome of the change that it asks
-- for, if it asks for one.
use Rattle.std.proofs.Common.{◌≡◌, ℕ, zero, suc, ◌+◌, ◌-◌, ◌<◌, ◌≤◌, ◌^◌, ◌⊎◌, inl, inr, Bool, true, false, nat_lt, if◌then◌else◌, Option, None, Some, List, [], ◌∷◌, ◌++◌, length, map, refl, sym, ap, subst, ◌∙◌, arith, append-nil, append_assoc}
use Rattle.std.proofs.lemmas.Bool.{ne_eqb}
use Rattle.std.specs.Prelude.{slice_get}
use Rattle.history_record.specs.Calls.{change_peer}
use Rattle.world_spec.specs.Held.{Held}
use Rattle.world_spec.specs.HeldLaws.{held_with}
use Rattle.leader_output.specs.declared.out.AnswerOut.{AnswerOut}
use Rattle.network.specs.Mail.{goes, is_among, oldest, most_messages}
use Rattle.peer_spec.specs.Drives.{step_of}
use Rattle.peer_spec.specs.Kept.{IsStepCall, Reaches}
use Rattle.peer_state.specs.declared.event.Event.{Event}
use Rattle.peer_state.specs.declared.event.Event.TheVariants as events
use Rattle.peer_state.specs.declared.state.State.{State}
use Rattle.register_model.specs.declared.note.Note.{Note}
use Rattle.register_model.specs.declared.printed.Printed.{Printed}
use Rattle.register_model.specs.declared.printed.Printed.TheVariants as lines
use Rattle.schedule_text.specs.declared.event.ScheduleEvent.{ScheduleEvent}
use Rattle.schedule_text.specs.declared.event.ScheduleEvent.TheVariants.{Call, Tick, Deliver, Pass, Lose, Calm, CalmAmong, Change, Stop, Start, Upgrade, Deepen, Spoil, Damage, Inner, Revert, Fail}
use Rattle.step_plans.specs.Plans.{Plan, Done, Say, Ask, Out, Ending, Finished, Follows, Stopped}
use Rattle.wire_frames.specs.declared.frame.Frame.{Frame}
use Rattle.world_spec.proofs.Ending.{EndsIn, run_reaches}
use Rattle.world_spec.specs.Lines.{call_of, everyone, set_of, effect, applied, keys_in, run_from}
use Rattle.world_spec.specs.Nodes.{Node, Up, Down, taken, taken_by, run_over, started, stopped, over_stores, while_down}
use Rattle.world_spec.specs.Runs.{Run, mode_at, next_event, answer_line, change_line, printed_by, place_of, stepped_at, stepped, changed_at, changed, may_deepen, deepened, with_deepening, ticked, received, without_waiting, received_if, delivered, delivered_if, going_on, calmed}
use Rattle.world_spec.specs.Stores.{failing, leaves_of, spoiled, segment_spoiled, inner_spoiled, taken_back}
use Rattle.run_laws.proofs.Replied.{HasReplies, step_replies}
use Rattle.run_laws.proofs.Told.{Follow}
use Rattle.ens_base.proofs.Tests.{itself}

-- ## Lines that may follow each other

module _ (asked : ℕ → Option ℕ) where
  follow_lower : (low mid high : ℕ) (ys : List Printed) → low ≤ mid → Follow asked mid high ys → Follow asked low high ys
  follow_lower low mid high [] le f = omega (arith, f)
  follow_lower low mid high (lines.Answer a ∷ ys) le f = (omega (arith, f.0), f.1)
  follow_lower low mid high (lines.Change event peer was ∷ ys) le f = (omega (arith, f.0), f.1, f.2)

  follow_both : (low mid high : ℕ) (xs ys : List Printed) → Follow asked low mid xs → Follow asked mid high ys → Follow asked low high (xs ++ ys)
  follow_both low mid high [] ys f g = follow_lower low mid high ys f g
  follow_both low mid high (lines.Answer a ∷ xs) ys f g = (f.0, follow_both a.event mid high xs ys f.1 g)
  follow_both low mid high (lines.Change event peer was ∷ xs) ys f g = (f.0, f.1, follow_both (event + 1) mid high xs ys f.2 g)

  answers_follow : (event : ℕ) (answers : List AnswerOut) → Follow asked event event (map (answer_line event) answers)
  answers_follow event [] = omega arith
  answers_follow event (a ∷ answers) = (omega arith, answers_follow event answers)

follow_other : (f g : ℕ → Option ℕ) (low high : ℕ) (xs : List Printed) → ((event peer : ℕ) → low ≤ event → f event ≡ Some peer → g event ≡ Some peer) → Follow f low high xs → Follow g low high xs
follow_other f g low high [] more h = h
follow_other f g low high (lines.Answer a ∷ xs) more h = (h.0, follow_other f g a.event high xs (λ event peer up. more event peer (omega (arith, h.0, up))) h.1)
follow_other f g low high (lines.Change event peer was ∷ xs) more h = (h.0, more event peer h.0 h.1, follow_other f g (event + 1) high xs (λ e p up. more e p (omega (arith, h.0, up))) h.2)

-- ## The replies of a peer

-- a peer that is down, or whose step stopped, replies to nothing
taken_replies : (me : ℕ) (event : Event) (node : Node) → ((taken me event node).out.changes ≡ []) ⊎ HasReplies event (taken me event node).out.changes
taken_replies me event (Down s) = inl refl
taken_replies me event (Up x s) =
    let e = run_over (step_of me event x) s in
    by e.ending e.held e.notes (run_reaches (λ y o. HasReplies event o.changes) (step_of me event x) (held_with s []) [] (reaches (step_of me event x) (step_replies me event x)))
  where
    reaches : (plan : Plan State) → Follows IsStepCall (λ y o. HasReplies event o.changes) plan → Reaches (λ y o. HasReplies event o.changes) plan
    reaches (Done y o) replies = replies
    reaches (Say n plan) replies = reaches plan replies
    reaches (Ask call next) replies = λ a sound. reaches (next a) (replies.1 a)

    by : (k : Ending State) (h : Held) (ns : List Note) → EndsIn (λ y o. HasReplies event o.changes) k → ((taken_by k h ns).out.changes ≡ []) ⊎ HasReplies event (taken_by k h ns).out.changes
    by (Finished y o) h ns replies = inr replies
    by (Stopped error) h ns replies = inl refl

-- an event that asks for no change
abbrev IsNoChange : Event → Type 0
IsNoChange (events.Change view) = ⊥
IsNoChange event = Unit {0}

no_replies : (event : Event) (replies : List Bool) → IsNoChange event → (replies ≡ []) ⊎ HasReplies event replies → replies ≡ []
no_replies event replies quiet (inl none) = none
no_replies (events.Deliver from message) replies quiet (inr none) = none
no_replies events.Tick replies quiet (inr none) = none
no_replies (events.Call call) replies quiet (inr none) = none
no_replies (events.Change view) replies quiet (inr one) = absurd quiet

-- ## What a line prints

module _ (asked : ℕ → Option ℕ) where
  -- from one world to the other lines are printed that may follow each other from this event on; no event is
  -- counted, and no key is named
  record Prints (low high : ℕ) (w v : Run) : Type 0 where
    lines : List Printed
    printed : v.printed ≡ w.printed ++ lines
    follow : Follow asked low high lines
    events : v.events ≡ w.events
    called : v.called ≡ w.called

  prints_none : (low high : ℕ) (w v : Run) → low ≤ high → v.printed ≡ w.printed → v.events ≡ w.events → v.called ≡ w.called → Prints low high w v
  prints_none low high w v le printed events called = record { lines = []; printed = printed ∙ sym (append-nil w.printed); follow = le; events = events; called = called }

  prints_both : (low mid high : ℕ) (u v w : Run) → Prints low mid u v → Prints mid high v w → Prints low high u w
  prints_both low mid high u v w a b = record {
    lines = a.lines ++ b.lines;
    printed = b.printed ∙ ap (λ (l : List Printed). l ++ b.lines) a.printed ∙ append_assoc u.printed a.lines b.lines;
    follow = follow_both asked low mid high a.lines b.lines a.follow b.follow;
    events = b.events ∙ a.events;
    called = b.called ∙ a.called;
  }

  -- the next event of the world has this number
  module _ (n : ℕ) where
    abbrev IsNext : Run → Type 0
    IsNext w = next_event w.events ≡ n

    abbrev Quiet : Run → Run → Type 0
    Quiet w v = Prints n n w v

    quiet_none : (w v : Run) → v.printed ≡ w.printed → v.events ≡ w.events → v.called ≡ w.called → Quiet w v
    quiet_none w v = prints_none n n w v (omega arith)

    quiet_next : (w v : Run) → IsNext w → Quiet w v → IsNext v
    quiet_next w v is a = ap next_event a.events ∙ is

    quiet_both : (u v w : Run) → Quiet u v → Quiet v w → Quiet u w
    quiet_both = prints_both n n n

    stepped_prints : (peer : ℕ) (event : Event) (w : Run) → IsNoChange event → IsNext w → Quiet w (stepped peer event w)
    stepped_prints peer event w quiet is = by (slice_get w.nodes (place_of peer))
      where
        lines_follow : (e : ℕ) (o : Out) → o.changes ≡ [] → Follow asked e e (printed_by e peer o)
        lines_follow e o none = follow_both asked e e e (map (answer_line e) o.answers) (map (change_line e peer) o.changes) (answers_follow asked e o.answers) (subst (λ (cs : List Bool). Follow asked e e (map (change_line e peer) cs)) (sym none) (omega arith))

        by : (node : Option Node) → Quiet w (stepped_at node peer event w)
        by None = quiet_none w w refl refl refl
        by (Some node) =
            let o = (taken peer event node).out in
            record { lines = printed_by (next_event w.events) peer o; printed = refl; follow = subst (λ (e : ℕ). Follow asked e e (printed_by (next_event w.events) peer o)) is (lines_follow (next_event w.events) o (no_replies event o.changes quiet (taken_replies peer event node))); events = refl; called = refl }

    ticked_prints : (peer k : ℕ) (w : Run) → IsNext w → Quiet w (ticked peer k w)
    unfolding ticked
    ticked_prints peer zero w is = quiet_none w w refl refl refl
    ticked_prints peer (suc k) w is =
        let v = stepped peer events.Tick w in
        let first = stepped_prints peer events.Tick w tt is in
        quiet_both w v (ticked peer k v) first (ticked_prints peer k v (quiet_next w v is first))

    received_prints : (f : Option Frame) (k : ℕ) (w : Run) → IsNext w → Quiet w (received_if f k w)
    received_prints None k w is = quiet_none w w refl refl refl
    received_prints (Some f) k w is = by (nat_lt k w.first_alive)
      where
        by : (lost : Bool) → Quiet w (if lost then without_waiting k w else received f k w)
        by true = quiet_none w (without_waiting k w) refl refl refl
        by false =
            let a = stepped_prints f.to (events.Deliver f.from f.message) (without_waiting k w) tt is in
            record { lines = a.lines; printed = a.printed; follow = a.follow; events = a.events; called = a.called }

    delivered_prints : (k : ℕ) (w : Run) → IsNext w → Quiet w (delivered k w)
    delivered_prints k w is = received_prints (slice_get w.mail.sent k) k w is

    passed_prints : (k : Option ℕ) (w : Run) → IsNext w → Quiet w (delivered_if k w)
    passed_prints None w is = quiet_none w w refl refl refl
    passed_prints (Some k) w is = delivered_prints k w is

    calmed_prints : (peers : List Bool) (k : ℕ) (w : Run) → IsNext w → Quiet w (calmed peers k w)
    unfolding calmed
    calmed_prints peers zero w is = quiet_none w w refl refl refl
    calmed_prints peers (suc k) w is = by (oldest (is_among peers) w.mail) (λ v next. calmed_prints peers k v next)
      where
        by : (m : Option ℕ) → ((v : Run) → IsNext v → Quiet v (calmed peers k v)) → Quiet w (going_on m (λ v. calmed peers k v) w)
        by None later = quiet_none w w refl refl refl
        by (Some m) later =
            let first = delivered_prints m w is in
            quiet_both w (delivered m w) (calmed peers k (delivered m w)) first (later (delivered m w) (quiet_next w (delivered m w) is first))

    changed_at_prints : (node : Option Node) (peer : ℕ) (change : Node → Node) (w : Run) → Quiet w (changed_at node peer change w)
    changed_at_prints None peer change w = quiet_none w w refl refl refl
    changed_at_prints (Some node) peer change w = quiet_none w (changed_at (Some node) peer change w) refl refl refl

    changed_prints : (peer : ℕ) (change : Node → Node) (w : Run) → Quiet w (changed peer change w)
    changed_prints peer change w = changed_at_prints (slice_get w.nodes (place_of peer)) peer change w

    -- strings that are hashed are not printed
    hashing_prints : (peer : ℕ) (change : Node → Node) (strings : List (List ℕ)) (w : Run) → Quiet w (record (changed peer change w) { hashed = (changed peer change w).hashed ++ strings })
    hashing_prints peer change strings w = let a = changed_prints peer change w in record { lines = a.lines; printed = a.printed; follow = a.follow; events = a.events; called = a.called }

    -- a request for a change is answered once, at its event
    asked_prints : (peer : ℕ) (view : List ℕ) (w : Run) → IsNext w → asked n ≡ Some peer → Prints n (n + 1) w (stepped peer (events.Change view) w)
    asked_prints peer view w is asks = by (slice_get w.nodes (place_of peer))
      where
        lines_follow : (o : Out) → (o.changes ≡ []) ⊎ HasReplies (events.Change view) o.changes → Follow asked n (n + 1) (printed_by n peer o)
        lines_follow o (inl none) = follow_both asked n n (n + 1) (map (answer_line n) o.answers) (map (change_line n peer) o.changes) (answers_follow asked n o.answers) (subst (λ (cs : List Bool). Follow asked n (n + 1) (map (change_line n peer) cs)) (sym none) (omega arith))
        lines_follow o (inr one) = follow_both asked n n (n + 1) (map (answer_line n) o.answers) (map (change_line n peer) o.changes) (answers_follow asked n o.answers) (subst (λ (cs : List Bool). Follow asked n (n + 1) (map (change_line n peer) cs)) (sym one.1) (omega arith, asks, omega arith))

        by : (node : Option Node) → Prints n (n + 1) w (stepped_at node peer (events.Change view) w)
        by None = prints_none n (n + 1) w w (omega arith) refl refl refl
        by (Some node) =
            let o = (taken peer (events.Change view) node).out in
            record { lines = printed_by (next_event w.events) peer o; printed = refl; follow = subst (λ (e : ℕ). Follow asked n (n + 1) (printed_by e peer o)) (sym is) (lines_follow o (taken_replies peer (events.Change view) node)); events = refl; called = refl }

    -- if the line asks for a change, it asks this peer
    abbrev Asks : ScheduleEvent → Type 0
    Asks (Change peer view) = asked n ≡ Some peer
    Asks event = Unit {0}

    later : (w v : Run) → Quiet w v → Prints n (n + 1) w v
    later w v a = record { lines = a.lines; printed = a.printed; follow = subst (Follow asked n (n + 1)) (append-nil a.lines) (follow_both asked n n (n + 1) a.lines [] a.follow (omega arith)); events = a.events; called = a.called }

    deepening_prints : (w : Run) → Quiet w (with_deepening w)
    deepening_prints w = by (may_deepen w)
      where
        by : (b : Bool) → Quiet w (if b then deepened w else w)
        by true = quiet_none w (deepened w) refl refl refl
        by false = quiet_none w w refl refl refl

    effect_prints : (event : ScheduleEvent) (w : Run) → IsNext w → Asks event → Prints n (n + 1) w (effect event w)
    effect_prints (Call peer id key command) w is asks = later w (effect (Call peer id key command) w) (stepped_prints peer (events.Call (call_of id key command)) w tt is)
    effect_prints (Tick peer ticks) w is asks = later w (effect (Tick peer ticks) w) (ticked_prints peer ticks w is)
    effect_prints (Deliver message) w is asks = later w (effect (Deliver message) w) (delivered_prints (message - 1) w is)
    effect_prints (Pass sender receiver) w is asks = later w (effect (Pass sender receiver) w) (passed_prints (oldest (goes sender receiver) w.mail) w is)
    effect_prints (Lose sender receiver) w is asks = prints_none n (n + 1) w (effect (Lose sender receiver) w) (omega arith) refl refl refl
    effect_prints Calm w is asks = later w (effect Calm w) (calmed_prints everyone most_messages w is)
    effect_prints (CalmAmong members) w is asks = later w (effect (CalmAmong members) w) (calmed_prints (set_of members) most_messages w is)
    effect_prints (Change peer view) w is asks = asked_prints peer view w is asks
    effect_prints (Stop peer) w is asks = later w (effect (Stop peer) w) (changed_prints peer stopped w)
    effect_prints (Start peer) w is asks = later w (effect (Start peer) w) (hashing_prints peer (started (mode_at peer w) w.view) _ w)
    effect_prints (Upgrade peer) w is asks = prints_none n (n + 1) w (effect (Upgrade peer) w) (omega arith) refl refl refl
    effect_prints Deepen w is asks = later w (effect Deepen w) (deepening_prints w)
    effect_prints (Spoil peer key bytes) w is asks = later w (effect (Spoil peer key bytes) w) (changed_prints peer (over_stores (spoiled key bytes)) w)
    effect_prints (Damage peer key bytes) w is asks = later w (effect (Damage peer key bytes) w) (hashing_prints peer (over_stores (segment_spoiled key bytes)) _ w)
    effect_prints (Inner peer level index bytes) w is asks = later w (effect (Inner peer level index bytes) w) (changed_prints peer (over_stores (inner_spoiled level index bytes)) w)
    effect_prints (Revert peer changes) w is asks = later w (effect (Revert peer changes) w) (changed_prints peer (while_down (taken_back changes)) w)
    effect_prints (Fail peer store survivor) w is asks = later w (effect (Fail peer store survivor) w) (changed_prints peer (over_stores (failing store (leaves_of survivor))) w)

-- ## What a schedule prints

-- the keys that the lines name
abbrev pub called_in : List ScheduleEvent → List (List ℕ)
called_in [] = []
called_in (event ∷ more) = keys_in event ++ called_in more

-- the lines that a run prints from here on, whose next event has this number
pub record PrintsOn (n : ℕ) (events : List ScheduleEvent) (w : Run) : Type 0 where
  pub lines : List Printed
  pub printed : (run_from events w).printed ≡ w.printed ++ lines
  pub follow : Follow (change_peer n events) n (n + length events) lines
  pub called : (run_from events w).called ≡ w.called ++ called_in events

asks_here : (event : ScheduleEvent) (more : List ScheduleEvent) (n : ℕ) → Asks (change_peer n (event ∷ more)) n event
asks_here (Change peer view) more n = rw (itself n) refl
asks_here event more n = tt

asks_later : (event : ScheduleEvent) (more : List ScheduleEvent) (n e peer : ℕ) → n + 1 ≤ e → change_peer (n + 1) more e ≡ Some peer → change_peer n (event ∷ more) e ≡ Some peer
asks_later (Change p view) more n e peer up h = rw (ne_eqb n e (λ same. absurd (omega (arith, same, up)))) h
asks_later event more n e peer up h = h

pub run_prints : (events : List ScheduleEvent) (w : Run) (n : ℕ) → w.events + 1 ≡ n → n + length events < 2 ^ 32 → PrintsOn n events w
run_prints [] w n is few = record { lines = []; printed = sym (append-nil w.printed); follow = omega arith; called = sym (append-nil w.called) }
run_prints (event ∷ more) w n is few =
    let here : next_event w.events ≡ n = number w.events n is (omega (arith, few)) in
    let v = applied event w in
    let a = effect_prints (change_peer n (event ∷ more)) n event w here (asks_here event more n) in
    let counted : v.events ≡ n = ap next_event a.events ∙ here in
    let b = run_prints more v (n + 1) (ap (λ (k : ℕ). k + 1) counted) (omega (arith, few)) in
    let second = follow_other (change_peer (n + 1) more) (change_peer n (event ∷ more)) (n + 1) (n + 1 + length more) b.lines (λ e peer up. asks_later event more n e peer up) b.follow in
    let high : n + 1 + length more ≡ n + length (event ∷ more) = omega arith in
    record {
      lines = a.lines ++ b.lines;
      printed = b.printed ∙ ap (λ (l : List Printed). l ++ b.lines) a.printed ∙ append_assoc w.printed a.lines b.lines;
      follow = subst (λ (k : ℕ). Follow (change_peer n (event ∷ more)) n k (a.lines ++ b.lines)) high (follow_both (change_peer n (event ∷ more)) n (n + 1) (n + 1 + length more) a.lines b.lines a.follow second);
      called = b.called ∙ ap (λ (ks : List (List ℕ)). ks ++ keys_in event ++ called_in more) a.called ∙ append_assoc w.called (keys_in event) (called_in more);
    }
  where
    number : (k n : ℕ) → k + 1 ≡ n → n < 2 ^ 32 → next_event k ≡ n
    number k n is few = omega arith
