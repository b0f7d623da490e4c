-- A calm schedule completes each of its calls before the next one begins.
use Rattle.std.proofs.Common.{◌≡◌, ◌⊎◌, ◌≤◌, ◌<◌, ◌^◌, ◌+◌, inl, inr, refl, ap, sym, ◌∙◌, subst, arith, ℕ, zero, suc, nat_lt, Bool, true, false, if◌then◌else◌, List, [], ◌∷◌, ◌++◌, append_assoc, append-nil, length, Option, None, Some}
use Rattle.std.specs.Prelude.{slice_get}
use Rattle.std.proofs.lemmas.List.{length-append}
use Rattle.register_model.proofs.Served.{served_more}
use Rattle.register_model.specs.Served.{AreServed}
use Rattle.world_refinement.specs.Lines.{call_at, calls_from, answers_in}
use Rattle.ens_base.proofs.Lists.{in_append, in_left}
use Rattle.ens_base.specs.Limits.{IsKey, IsCommand}
use Rattle.ens_base.specs.Lists.{◌∈◌}
use Rattle.ens_base.specs.View.{IsPeer}
use Rattle.ens_base.specs.declared.command.Command.{Command}
use Rattle.quorums.specs.Members.{those}
use Rattle.network.specs.Mail.{oldest, is_among, most_messages}
use Rattle.peer_state.specs.declared.event.Event.{Event}
use Rattle.peer_state.specs.declared.event.Event.TheVariants as events
use Rattle.register_model.specs.declared.answer.Answer.{Answer}
use Rattle.register_model.specs.declared.call.Call.{Call as Called}
use Rattle.register_model.specs.declared.printed.Printed.{Printed}
use Rattle.register_model.specs.declared.printed.Printed.TheVariants as printed
use Rattle.schedule_text.specs.Spelling.{AllMayStand}
use Rattle.schedule_text.specs.declared.event.ScheduleEvent.{ScheduleEvent}
use Rattle.schedule_text.specs.declared.event.ScheduleEvent.TheVariants.{Call, Tick, Calm}
use Rattle.schedule_text.specs.declared.schedule.Schedule.{Schedule}
use Rattle.lexemes.specs.Spelling.{AscendFrom}
use Rattle.calm_step_laws.specs.PeerRefinement.{AreAmong, AreFree}
use Rattle.wire_frames.specs.declared.frame.Frame.{Frame}
use Rattle.schedule_text.specs.declared.form.Form.{Form}
use Rattle.world_refinement.proofs.WorldSpec.{calm_ends, calmed_grows, run_grows}
use Rattle.world_refinement.proofs.ScheduleLaws.{free_of}
use Rattle.world_refinement.proofs.BookSteps.{call_in_front}
use Rattle.world_refinement.specs.WorldSpec.{call_of, counted, applied, run_from, run_of_schedule, IsWithinMessages, Node, Run, place_of, next_event, opening_run, stepped_at, stepped, ticked, without_waiting, received, received_if, delivered, going_on, calmed}
use Rattle.calm_laws.specs.Calm.{ArePairs, IsCalmAt, RunsUndisturbed, run_of}
use Rattle.calm_laws.proofs.FirstCalm.{first_calm}
use Rattle.calm_laws.proofs.FirstServed.{first_scene, serves_from_now}
use Rattle.calm_laws.proofs.ServedCalls.{n as next_scene, called}
use Rattle.calm_laws.proofs.ServedCalm.{calm_serves}
use Rattle.calm_laws.proofs.Worlds.{AllAlive, stepped_alive, ticked_alive, calmed_alive}
use Rattle.calm_laws.proofs.ServedWorlds.{Scene, IsTold, IsAnswered, Wait, Runs, Leading, IsServed}

-- ## Events are counted by lines alone

stepped_events : (q : ℕ) (e : Event) (w : Run) → (stepped q e w).events ≡ w.events
stepped_events q e w = by (slice_get w.nodes (place_of q)) where
  by : (o : Option Node) → (stepped_at o q e w).events ≡ w.events
  by None = refl
  by (Some node) = refl

ticked_events : (q k : ℕ) (w : Run) → (ticked q k w).events ≡ w.events
unfolding ticked
ticked_events q zero w = refl
ticked_events q (suc k) w = ticked_events q k (stepped q events.Tick w) ∙ stepped_events q events.Tick w

delivered_events : (k : ℕ) (w : Run) → (delivered k w).events ≡ w.events
delivered_events k w = by (slice_get w.mail.sent k) where
  given : (f : Frame) (b : Bool) → (if b then without_waiting k w else received f k w).events ≡ w.events
  given f true = refl
  given f false = stepped_events f.to (events.Deliver f.from f.message) (without_waiting k w)

  by : (f : Option Frame) → (received_if f k w).events ≡ w.events
  by None = refl
  by (Some f) = given f (nat_lt k w.first_alive)

calmed_events : (peers : List Bool) (k : ℕ) (w : Run) → (calmed peers k w).events ≡ w.events
unfolding calmed
calmed_events peers zero w = refl
calmed_events peers (suc k) w = by (oldest (is_among peers) w.mail) (λ v. calmed_events peers k v) where
  by : (first : Option ℕ) → ((v : Run) → (calmed peers k v).events ≡ v.events) → (going_on first (λ v. calmed peers k v) w).events ≡ w.events
  by None later = refl
  by (Some i) later = later (delivered i w) ∙ delivered_events i w

-- ## Lines, calls and answers, one after another

run_more : (first last : List ScheduleEvent) (w : Run) → run_from (first ++ last) w ≡ run_from last (run_from first w)
run_more [] last w = refl
run_more (e ∷ first) last w = run_more first last (applied e w)

answers_more : (lines : List Printed) (a : Answer) → answers_in (lines ++ printed.Answer a ∷ []) ≡ answers_in lines ++ a ∷ []
answers_more [] a = refl
answers_more (printed.Answer b ∷ lines) a = ap (λ (rest : List Answer). b ∷ rest) (answers_more lines a)
answers_more (printed.Change event peer taken ∷ lines) a = answers_more lines a

calls_more : (k : ℕ) (done : List ScheduleEvent) (q id : ℕ) (key : List ℕ) (command : Command) → calls_from k (done ++ Call q id key command ∷ Calm ∷ []) ≡ calls_from k done ++ record { id = id; key = key; command = command; event = k + length done } ∷ []
calls_more k [] q id key command = ap (λ (j : ℕ). (let c : Called = record { id = id; key = key; command = command; event = j } in c) ∷ []) (let same : k ≡ k + 0 = omega arith in same)
calls_more k (e ∷ done) q id key command =
    ap (λ (rest : List Called). call_at e k rest) (calls_more (k + 1) done q id key command)
    ∙ (call_in_front e k (calls_from (k + 1) done) (record { id = id; key = key; command = command; event = k + 1 + length done } ∷ [])
    ∙ ap (λ (j : ℕ). call_at e k (calls_from (k + 1) done) ++ (let c : Called = record { id = id; key = key; command = command; event = j } in c) ∷ []) (let same : k + 1 + length done ≡ k + suc (length done) = omega arith in same))

-- ## Counting a line moves nothing

module _ (me : ℕ) (view : List ℕ) (n : Scene) (e : ScheduleEvent) (w : Run) where
  still_told : (call : Option ℕ) → IsTold n call w → IsTold n call (counted e w)
  still_told None told = told
  still_told (Some id) told = record { answer = told.answer; named = told.named; done = told.done; early = later told.answer.event told.early; shown = told.shown } where
    later : (k : ℕ) → k ≤ next_event w.events → k ≤ next_event (next_event w.events)
    later k early = omega (arith, early)

  counted_leads : (led : Leading me view n w) → (x : Leading me view n (counted e w)) × (x.runs ≡ led.runs)
  counted_leads led = (
    record {
      mail = led.mail;
      l = led.l;
      fact = led.fact;
      self = led.self;
      task = led.task;
      map = led.map;
      leader = record { keep = led.leader.keep; stores = led.leader.stores; at = led.leader.at; whole = led.leader.whole };
      others = λ q is. let s = led.others q is in record { keep = s.keep; stores = s.stores; at = s.at; whole = s.whole };
      runs = led.runs;
      holds_well = led.holds_well;
      standing = goes_on led.runs led.standing;
      kinds = led.kinds;
    },
    refl,
  )
    where
      goes_on : (runs : Option (List ℕ × Wait me view)) → Runs me view n led.l led.leader.stores w runs → Runs me view n led.l led.leader.stores (counted e w) runs
      goes_on None (calls, told) = (calls, still_told n.call told)
      goes_on (Some it) standing = standing

  counted_served : IsServed me view n w → IsServed me view n (counted e w)
  counted_served served = let x = counted_leads served.led in record { led = x.0; rests = x.1 ∙ served.rests; none = served.none }

-- ## A call and a calm

module _ (form : Form) (me peers : ℕ) (view : List ℕ) (listed : me ∈ view) (all : (q : ℕ) → q ∈ view → IsPeer q × (q ≤ peers)) (filled : 0 < length view) (strings : List (List ℕ)) (free : AreFree strings) where
  are_peers : (q : ℕ) → q ∈ view → IsPeer q
  are_peers q is = (all q is).0

  is_peer : IsPeer me
  is_peer = (all me listed).0

  abbrev ran : List ScheduleEvent → Run
  ran done = run_of_schedule form peers view done

  -- these lines were run, and each call among them was completed before the next one
  record Past (done : List ScheduleEvent) : Type 0 where
    n : Scene
    served : IsServed me view n (ran done)
    alive : AllAlive (ran done)
    lines : (ran done).events ≡ length done
    few : n.count ≤ length done
    in_order : AreServed (calls_from 1 done) (answers_in (ran done).printed)
    early : (a : Answer) → a ∈ answers_in (ran done).printed → a.event ≤ length done

  module _ (done : List ScheduleEvent) (past : Past done) (q id : ℕ) (key : List ℕ) (command : Command) (at_me : q ≡ me) (is_key : IsKey key) (is_command : IsCommand command) (room : length done + 2 < 2 ^ 32)
      (among : AreAmong (ran (done ++ Call q id key command ∷ Calm ∷ [])).hashed strings) (within : IsWithinMessages (ran (done ++ Call q id key command ∷ Calm ∷ []))) where
    -- the world after the call line, and during the calm
    abbrev w1 : Run
    w1 = applied (Call q id key command) (ran done)

    abbrev w2 : Run
    w2 = calmed (those (λ p. true)) most_messages w1

    last_is : ran (done ++ Call q id key command ∷ Calm ∷ []) ≡ counted Calm w2
    last_is = run_more done (Call q id key command ∷ Calm ∷ []) (opening_run form peers view)

    small : suc past.n.count < 2 ^ 32
    small = let few : past.n.count ≤ length done = past.few in omega (arith, few, room)

    abbrev m : Scene
    m = next_scene me view is_peer are_peers listed strings free past.n (ran done) past.served id key command is_key is_command small

    among_2 : AreAmong w2.hashed strings
    among_2 = subst (λ (v : Run). AreAmong v.hashed strings) last_is among

    among_1 : AreAmong (stepped q (events.Call (call_of id key command)) (ran done)).hashed strings
    among_1 s there = let far = (calmed_grows (those (λ p. true)) most_messages w1).hashed in among_2 s (subst (λ (hs : List (List ℕ)). s ∈ hs) (sym far.1) (in_left w1.hashed far.0 s there))

    after_call : Leading me view m w1
    after_call = (counted_leads me view m (Call q id key command) (stepped q (events.Call (call_of id key command)) (ran done))
        (subst (λ p. AreAmong (stepped p (events.Call (call_of id key command)) (ran done)).hashed strings → Leading me view m (stepped p (events.Call (call_of id key command)) (ran done))) (sym at_me)
        (called me view is_peer are_peers listed strings free past.n (ran done) past.served id key command is_key is_command small) among_1)).0

    none_waits : oldest (is_among (those (λ p. true))) w2.mail ≡ None
    none_waits = subst (λ (v : Run). oldest (is_among (those (λ p. true))) v.mail ≡ None) last_is
        (subst (λ (es : List ScheduleEvent). IsWithinMessages (ran es) → oldest (is_among (those (λ p. true))) (ran es).mail ≡ None) (append_assoc done (Call q id key command ∷ []) (Calm ∷ [])) (calm_ends form peers view (done ++ Call q id key command ∷ [])) within)

    w1_alive : AllAlive w1
    w1_alive = stepped_alive q (events.Call (call_of id key command)) (ran done) ∙ past.alive

    after_calm : IsServed me view m w2
    after_calm = calm_serves me view is_peer are_peers listed strings free m filled most_messages w1 w1_alive after_call among_2 none_waits

    told : IsAnswered m id w2
    told = (subst (λ (x : Option (List ℕ × Wait me view)). Runs me view m after_calm.led.l after_calm.led.leader.stores w2 x) after_calm.rests after_calm.led.standing).1

    abbrev c : Called
    c = record { id = id; key = key; command = command; event = 1 + length done }

    answers : answers_in w2.printed ≡ answers_in (ran done).printed ++ told.answer ∷ []
    answers = ap (λ ps. answers_in ps) told.shown ∙ answers_more (ran done).printed told.answer

    long : length (done ++ Call q id key command ∷ Calm ∷ []) ≡ length done + 2
    long = length-append done (Call q id key command ∷ Calm ∷ [])

    w1_events : w1.events ≡ next_event (length done)
    w1_events = ap (λ k. next_event k) (stepped_events q (events.Call (call_of id key command)) (ran done) ∙ past.lines)

    w2_events : w2.events ≡ next_event (length done)
    w2_events = calmed_events (those (λ p. true)) most_messages w1 ∙ w1_events

    next_past : Past (done ++ Call q id key command ∷ Calm ∷ [])
    next_past = record {
      n = m;
      served = subst (λ (v : Run). IsServed me view m v) (sym last_is) (counted_served me view m Calm w2 after_calm);
      alive = subst (λ (v : Run). AllAlive v) (sym last_is) (calmed_alive (those (λ p. true)) most_messages w1 w1_alive);
      lines = ap (λ (v : Run). v.events) last_is ∙ (ap (λ k. next_event k) w2_events ∙ (two (length done) room ∙ sym long));
      few = rw long (let few : past.n.count ≤ length done = past.few in omega (arith, few));
      in_order = subst (λ (cs : List Called). AreServed cs (answers_in (ran (done ++ Call q id key command ∷ Calm ∷ [])).printed)) (sym (calls_more 1 done q id key command))
          (subst (λ (v : Run). AreServed (calls_from 1 done ++ c ∷ []) (answers_in v.printed)) (sym last_is)
          (subst (λ (given : List Answer). AreServed (calls_from 1 done ++ c ∷ []) given) (sym answers)
          (served_more (calls_from 1 done) (answers_in (ran done).printed) c told.answer past.in_order (λ b is. before b.event (past.early b is)) told.named told.done)));
      early = λ b is. rw long (by b (in_append (answers_in (ran done).printed) (told.answer ∷ []) b (subst (λ (given : List Answer). b ∈ given) answers (subst (λ (v : Run). b ∈ answers_in v.printed) last_is is))));
    }
      where
        two : (k : ℕ) → k + 2 < 2 ^ 32 → next_event (next_event k) ≡ k + 2
        two k few = omega (arith, few)

        before : (k : ℕ) → k ≤ length done → k < 1 + length done
        before k le = omega (arith, le)

        more : (k : ℕ) → k ≤ length done → k ≤ length done + 2
        more k le = omega (arith, le)

        at_last : (k : ℕ) → k ≤ next_event (next_event (length done)) → k ≤ length done + 2
        at_last k le = omega (arith, le)

        by : (b : Answer) → (b ∈ answers_in (ran done).printed) ⊎ (b ∈ (told.answer ∷ [])) → b.event ≤ length done + 2
        by b (inl old) = more b.event (past.early b old)
        by b (inr (inl new)) = at_last b.event (subst (λ (x : Answer). x.event ≤ next_event (next_event (length done))) (sym new) (subst (λ k. told.answer.event ≤ next_event k) w2_events told.early))
        by b (inr (inr none)) = absurd none

  -- ## All pairs

  pairs : (rest done : List ScheduleEvent) → Past done → ArePairs me rest → AllMayStand peers rest → length (done ++ rest) < 2 ^ 32 → AreAmong (ran (done ++ rest)).hashed strings → IsWithinMessages (ran (done ++ rest))
      → AreServed (calls_from 1 (done ++ rest)) (answers_in (ran (done ++ rest)).printed)
  pairs [] done past are may few among within = subst (λ (es : List ScheduleEvent). AreServed (calls_from 1 es) (answers_in (ran es).printed)) (sym (append-nil done)) past.in_order
  pairs (Call q id key command ∷ Calm ∷ more) done past are may few among within =
      subst (λ (es : List ScheduleEvent). AreServed (calls_from 1 es) (answers_in (ran es).printed)) whole
      (pairs more now (next_past done past q id key command are.0 may.0.2 may.0.3 room among_now within_now) are.1 may.1.1
      (subst (λ (es : List ScheduleEvent). length es < 2 ^ 32) (sym whole) few) (subst (λ (es : List ScheduleEvent). AreAmong (ran es).hashed strings) (sym whole) among) (subst (λ (es : List ScheduleEvent). IsWithinMessages (ran es)) (sym whole) within))
    where
      now : List ScheduleEvent
      now = done ++ Call q id key command ∷ Calm ∷ []

      whole : (done ++ Call q id key command ∷ Calm ∷ []) ++ more ≡ done ++ Call q id key command ∷ Calm ∷ more
      whole = append_assoc done (Call q id key command ∷ Calm ∷ []) more

      room : length done + 2 < 2 ^ 32
      room = shorter (length done) (length more) (length (done ++ Call q id key command ∷ Calm ∷ more)) (length-append done (Call q id key command ∷ Calm ∷ more)) few where
        shorter : (k j all : ℕ) → all ≡ k + suc (suc j) → all < 2 ^ 32 → k + 2 < 2 ^ 32
        shorter k j all is few = omega (arith, is, few)

      goes_on : ran (done ++ Call q id key command ∷ Calm ∷ more) ≡ run_from more (ran (done ++ Call q id key command ∷ Calm ∷ []))
      goes_on = ap (λ (es : List ScheduleEvent). ran es) (sym whole) ∙ run_more (done ++ Call q id key command ∷ Calm ∷ []) more (opening_run form peers view)

      among_now : AreAmong (ran (done ++ Call q id key command ∷ Calm ∷ [])).hashed strings
      among_now s there =
          let far = (run_grows more (ran (done ++ Call q id key command ∷ Calm ∷ []))).hashed in
          among s (subst (λ (v : Run). s ∈ v.hashed) (sym goes_on) (subst (λ (hs : List (List ℕ)). s ∈ hs) (sym far.1) (in_left (ran (done ++ Call q id key command ∷ Calm ∷ [])).hashed far.0 s there)))

      within_now : IsWithinMessages (ran (done ++ Call q id key command ∷ Calm ∷ []))
      within_now = fewer (length (ran (done ++ Call q id key command ∷ Calm ∷ [])).mail.sent) (length (run_from more (ran (done ++ Call q id key command ∷ Calm ∷ []))).mail.sent) (run_grows more (ran (done ++ Call q id key command ∷ Calm ∷ []))).sent (subst (λ (v : Run). IsWithinMessages v) goes_on within) where
        fewer : (a b : ℕ) → a ≤ b → b ≤ most_messages → a ≤ most_messages
        fewer a b le most = omega (arith, le, most)
  pairs other done past are may few among within = absurd are

  -- ## The whole schedule

  start : AreAmong (ran (Tick me 6 ∷ Calm ∷ [])).hashed strings → IsWithinMessages (ran (Tick me 6 ∷ Calm ∷ [])) → Past (Tick me 6 ∷ Calm ∷ [])
  start among within = record {
    n = first_scene me view is_peer are_peers;
    served = served;
    alive = calmed_alive (those (λ p. true)) most_messages (counted (Tick me 6) (ticked me 6 (opening_run form peers view))) (ticked_alive me 6 (opening_run form peers view));
    lines = ap (λ k. next_event k) (calmed_events (those (λ p. true)) most_messages (counted (Tick me 6) (ticked me 6 (opening_run form peers view))) ∙ ap (λ k. next_event k) (ticked_events me 6 (opening_run form peers view)));
    few = omega arith;
    in_order = subst (λ (ps : List Printed). AreServed [] (answers_in ps)) (sym none_printed) tt;
    early = λ a is. absurd (subst (λ (ps : List Printed). a ∈ answers_in ps) none_printed is);
  }
    where
      served : IsServed me view (first_scene me view is_peer are_peers) (ran (Tick me 6 ∷ Calm ∷ []))
      served = serves_from_now me view is_peer are_peers (ran (Tick me 6 ∷ Calm ∷ [])) (first_calm form me peers view listed all filled strings among (calm_ends form peers view (Tick me 6 ∷ []) within))

      none_printed : (ran (Tick me 6 ∷ Calm ∷ [])).printed ≡ []
      none_printed = (subst (λ (x : Option (List ℕ × Wait me view)). Runs me view (first_scene me view is_peer are_peers) served.led.l served.led.leader.stores (ran (Tick me 6 ∷ Calm ∷ [])) x) served.rests served.led.standing).1

  abbrev Completes : List ScheduleEvent → Type 0
  Completes events = AllMayStand peers events → length events < 2 ^ 32 → AreAmong (ran events).hashed strings → IsWithinMessages (ran events) → AreServed (calls_from 1 events) (answers_in (ran events).printed)

  completes_so : (more : List ScheduleEvent) → ArePairs me more → Completes (Tick me 6 ∷ Calm ∷ more)
  completes_so more are may few among within =
      pairs more (Tick me 6 ∷ Calm ∷ []) (start among_now within_now) are may.1.1 few among within
    where
      among_now : AreAmong (ran (Tick me 6 ∷ Calm ∷ [])).hashed strings
      among_now s there = let far = (run_grows more (ran (Tick me 6 ∷ Calm ∷ []))).hashed in among s (subst (λ (hs : List (List ℕ)). s ∈ hs) (sym far.1) (in_left (ran (Tick me 6 ∷ Calm ∷ [])).hashed far.0 s there))

      within_now : IsWithinMessages (ran (Tick me 6 ∷ Calm ∷ []))
      within_now = fewer (length (ran (Tick me 6 ∷ Calm ∷ [])).mail.sent) (length (ran (Tick me 6 ∷ Calm ∷ more)).mail.sent) (run_grows more (ran (Tick me 6 ∷ Calm ∷ []))).sent within where
        fewer : (a b : ℕ) → a ≤ b → b ≤ most_messages → a ≤ most_messages
        fewer a b le most = omega (arith, le, most)

  pub completes : (events : List ScheduleEvent) → IsCalmAt me events → Completes events
  completes (Tick q k ∷ Calm ∷ more) are =
      subst (λ p. Completes (Tick p k ∷ Calm ∷ more)) (sym are.0) (subst (λ j. Completes (Tick me j ∷ Calm ∷ more)) (sym are.1) (completes_so more are.2))
  completes other are = absurd are

-- ## For each calm schedule

members_are : (low peers : ℕ) (members : List ℕ) → 1 ≤ low → peers ≤ 31 → AscendFrom low peers members → (q : ℕ) → q ∈ members → IsPeer q × (q ≤ peers)
members_are low peers [] first few ascends q is = absurd is
members_are low peers (m ∷ members) first few ascends q (inl same) = subst (λ (k : ℕ). IsPeer k × (k ≤ peers)) (sym same) (here m low first few ascends.0 ascends.1) where
  here : (m low : ℕ) → 1 ≤ low → peers ≤ 31 → low ≤ m → m ≤ peers → IsPeer m × (m ≤ peers)
  here m low first few above below = ((omega (arith, first, above), omega (arith, few, below)), below)
members_are low peers (m ∷ members) first few ascends q (inr more) = members_are (m + 1) peers members (omega arith) few ascends.2 q more

pub few_lines : (n : ℕ) → n + 3 ≤ 200000 → n < 2 ^ 32
few_lines n lines = omega (arith, lines)

-- each call is completed before the next one begins
pub calls_complete : (s : Schedule) → RunsUndisturbed s → AreServed (calls_from 1 s.events) (answers_in (run_of s).printed)
calls_complete s runs =
    completes s.form runs.undisturbed.peer s.peers s.view runs.undisturbed.member (members_are 1 s.peers s.view (omega arith) runs.schedule.peers.1 runs.schedule.view.0) runs.schedule.view.1.size.0 (run_of s).hashed (free_of (run_of s).hashed runs.apart)
    s.events runs.undisturbed.calm runs.schedule.events (few_lines (length s.events) runs.schedule.lines) (λ x at. at) runs.within
