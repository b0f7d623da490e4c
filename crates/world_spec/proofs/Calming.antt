-- A calm that may deliver as many messages as were ever sent leaves none waiting.
use Rattle.std.proofs.Common.{◌≡◌, ◌≤◌, ◌<◌, ◌+◌, ◌-◌, arith, ℕ, zero, suc, Bool, true, false, List, [], ◌∷◌, ◌++◌, length, map, Option, None, Some, refl, sym}
use Rattle.std.specs.Prelude.{slice_get, nat_lt, if◌then◌else◌}
use Rattle.std.proofs.lemmas.List.{length_push}
use Rattle.network.specs.Mail.{Mail, no_mail, posted, settled, goes, is_among, oldest, most_messages, IsClear, IsMail}
use Rattle.network.proofs.MailLaws.{oldest_is_sent, oldest_is_beyond, clear_at_first, clear_past_oldest, clear_posted, clear_settled, clear_lost, is_mail_at_first, is_mail_posted, is_mail_settled, is_mail_lost}
use Rattle.peer_state.specs.declared.event.Event.{Event}
use Rattle.peer_state.specs.declared.event.Event.TheVariants as events
use Rattle.schedule_text.specs.declared.event.ScheduleEvent.{ScheduleEvent}
use Rattle.schedule_text.specs.declared.form.Form.{Form}
use Rattle.schedule_text.specs.declared.event.ScheduleEvent.TheVariants.{Call, Tick, Deliver, Pass, Lose, Calm, CalmAmong, Change, Stop, Start, Upgrade, Deepen, Spoil, Damage, Inner, Revert, Fail}
use Rattle.phase_rows.specs.WireFrames.{Frame}
use Rattle.world_spec.specs.Lines.{call_of, everyone, set_of, effect, applied, run_from, run_of_schedule}
use Rattle.world_spec.specs.Nodes.{Node, taken, started, stopped, over_stores, while_down}
use Rattle.world_spec.specs.Runs.{Run, opening_run, mode_at, place_of, frame_from, posted_all, stepped_at, stepped, changed, may_deepen, deepened, with_deepening, ticked, received, without_waiting, received_if, delivered, delivered_if, going_on, calmed}
use Rattle.world_spec.specs.Messages.{sent_in, IsCalm}
use Rattle.world_spec.specs.Stores.{failing, leaves_of, spoiled, segment_spoiled, inner_spoiled, taken_back}
use Rattle.world_spec.proofs.Growth.{changed_mail}

-- there is one flag for each message, and no message below this number waits and passes the test
record Quiet (test : Frame → Bool) (k : ℕ) (m : Mail) : Type 0 where
  mail : IsMail m
  within : k ≤ length m.sent
  clear : IsClear test k m

module _ (test : Frame → Bool) (k : ℕ) where
  posted_quiet : (fs : List Frame) (m : Mail) → Quiet test k m → Quiet test k (posted_all fs m)
  posted_quiet [] m quiet = quiet
  posted_quiet (f ∷ fs) m quiet = posted_quiet fs (posted m f) (record {
    mail = is_mail_posted m f quiet.mail;
    within = omega (arith, quiet.within, length_push m.sent f);
    clear = clear_posted test m k f quiet.mail quiet.within quiet.clear;
  })

  stepped_at_quiet : (node : Option Node) (peer : ℕ) (event : Event) (w : Run) → Quiet test k w.mail → Quiet test k (stepped_at node peer event w).mail
  stepped_at_quiet None peer event w quiet = quiet
  stepped_at_quiet (Some node) peer event w quiet = posted_quiet (map (frame_from peer) (taken peer event node).out.sends) w.mail quiet

  stepped_quiet : (peer : ℕ) (event : Event) (w : Run) → Quiet test k w.mail → Quiet test k (stepped peer event w).mail
  stepped_quiet peer event w quiet = stepped_at_quiet (slice_get w.nodes (place_of peer)) peer event w quiet

  changed_quiet : (peer : ℕ) (change : Node → Node) (w : Run) → Quiet test k w.mail → Quiet test k (changed peer change w).mail
  changed_quiet peer change w quiet = rw (changed_mail peer change w) quiet

  ticked_quiet : (peer n : ℕ) (w : Run) → Quiet test k w.mail → Quiet test k (ticked peer n w).mail
  unfolding ticked
  ticked_quiet peer zero w quiet = quiet
  ticked_quiet peer (suc n) w quiet = ticked_quiet peer n (stepped peer events.Tick w) (stepped_quiet peer events.Tick w quiet)

  settled_quiet : (m : Mail) (n : ℕ) → Quiet test k m → Quiet test k (settled m n)
  settled_quiet m n quiet = record { mail = is_mail_settled m n quiet.mail; within = quiet.within; clear = clear_settled test m k n quiet.clear }

  received_if_quiet : (f : Option Frame) (n : ℕ) (w : Run) → Quiet test k w.mail → Quiet test k (received_if f n w).mail
  received_if_quiet None n w quiet = quiet
  received_if_quiet (Some f) n w quiet = by (nat_lt n w.first_alive)
    where
      by : (lost : Bool) → Quiet test k (if lost then without_waiting n w else received f n w).mail
      by true = settled_quiet w.mail n quiet
      by false = stepped_quiet f.to (events.Deliver f.from f.message) (record w { mail = settled w.mail n }) (settled_quiet w.mail n quiet)

  delivered_quiet : (n : ℕ) (w : Run) → Quiet test k w.mail → Quiet test k (delivered n w).mail
  delivered_quiet n w quiet = received_if_quiet (slice_get w.mail.sent n) n w quiet

  -- if no message sent waits and passes the test, there is no oldest one
  none_waits : (m : Mail) (answer : Option ℕ) → answer ≡ oldest test m → IsClear test k m → length m.sent ≤ k → answer ≡ None
  none_waits m None is clear all = refl
  none_waits m (Some n) is clear all =
      let before = oldest_is_sent test m n (sym is) in
      let beyond = oldest_is_beyond test m k n clear (sym is) in
      absurd (omega (arith, before, beyond, all))

-- the delivery of the oldest message
past_quiet : (test : Frame → Bool) (n : ℕ) (f : Option Frame) (w : Run) → slice_get w.mail.sent n ≡ f → n < length w.mail.sent → IsMail w.mail → oldest test w.mail ≡ Some n → Quiet test (n + 1) (received_if f n w).mail
past_quiet test n None w is before mail oldest = absurd (past w.mail.sent n is before) where
  past : (sent : List Frame) (n : ℕ) → slice_get sent n ≡ None → n < length sent → ⊥
  past [] n is before = omega (arith, before)
  past (f ∷ sent) zero is before = cc
  past (f ∷ sent) (suc n) is before = past sent n is (omega (arith, before))
past_quiet test n (Some f) w is before mail oldest = by (nat_lt n w.first_alive)
  where
    past : Quiet test (n + 1) (settled w.mail n)
    past = record { mail = is_mail_settled w.mail n mail; within = omega (arith, before); clear = clear_past_oldest test w.mail n oldest }

    by : (lost : Bool) → Quiet test (n + 1) (if lost then without_waiting n w else received f n w).mail
    by true = past
    by false = stepped_quiet test (n + 1) f.to (events.Deliver f.from f.message) (record w { mail = settled w.mail n }) past

module _ (peers : List Bool) where
  -- each delivery of a calm is of a later message than the one before
  ends_from : (n k : ℕ) (w : Run) → Quiet (is_among peers) k w.mail → sent_in (calmed peers n w) ≤ k + n → oldest (is_among peers) (calmed peers n w).mail ≡ None
  unfolding calmed
  ends_from zero k w quiet few = none_waits (is_among peers) k w.mail (oldest (is_among peers) w.mail) refl quiet.clear (omega (arith, few))
  ends_from (suc n) k w quiet few = going (oldest (is_among peers) w.mail) refl few (ends_from n) where
    going : (first : Option ℕ) → oldest (is_among peers) w.mail ≡ first → sent_in (going_on first (λ v. calmed peers n v) w) ≤ k + suc n
        → ((j : ℕ) (v : Run) → Quiet (is_among peers) j v.mail → sent_in (calmed peers n v) ≤ j + n → oldest (is_among peers) (calmed peers n v).mail ≡ None)
        → oldest (is_among peers) (going_on first (λ v. calmed peers n v) w).mail ≡ None
    going None is few later = is
    going (Some i) is few later =
        let before = oldest_is_sent (is_among peers) w.mail i is in
        let beyond = oldest_is_beyond (is_among peers) w.mail k i quiet.clear is in
        later (i + 1) (delivered i w) (past_quiet (is_among peers) i (slice_get w.mail.sent i) w refl before quiet.mail is) (omega (arith, few, beyond))

  ends : (n : ℕ) (w : Run) → IsMail w.mail → sent_in (calmed peers n w) ≤ n → oldest (is_among peers) (calmed peers n w).mail ≡ None
  ends n w mail few = ends_from n 0 w (record { mail = mail; within = omega arith; clear = clear_at_first (is_among peers) w.mail }) (omega (arith, few))

module _ (test : Frame → Bool) (k : ℕ) where
  calmed_quiet : (peers : List Bool) (n : ℕ) (w : Run) → Quiet test k w.mail → Quiet test k (calmed peers n w).mail
  unfolding calmed
  calmed_quiet peers zero w quiet = quiet
  calmed_quiet peers (suc n) w quiet = going (oldest (is_among peers) w.mail) (λ v now. calmed_quiet peers n v now) where
    going : (first : Option ℕ) → ((v : Run) → Quiet test k v.mail → Quiet test k (calmed peers n v).mail) → Quiet test k (going_on first (λ v. calmed peers n v) w).mail
    going None later = quiet
    going (Some i) later = later (delivered i w) (delivered_quiet test k i w quiet)

  delivered_if_quiet : (n : Option ℕ) (w : Run) → Quiet test k w.mail → Quiet test k (delivered_if n w).mail
  delivered_if_quiet None w quiet = quiet
  delivered_if_quiet (Some n) w quiet = delivered_quiet test k n w quiet

  deepening_quiet : (w : Run) → Quiet test k w.mail → Quiet test k (with_deepening w).mail
  deepening_quiet w quiet = by (may_deepen w)
    where
      by : (may : Bool) → Quiet test k (if may then deepened w else w).mail
      by true = quiet
      by false = quiet

  effect_quiet : (event : ScheduleEvent) (w : Run) → Quiet test k w.mail → Quiet test k (effect event w).mail
  effect_quiet (Call peer id key command) w quiet = stepped_quiet test k peer (events.Call (call_of id key command)) w quiet
  effect_quiet (Tick peer ticks) w quiet = ticked_quiet test k peer ticks w quiet
  effect_quiet (Deliver message) w quiet = delivered_quiet test k (message - 1) w quiet
  effect_quiet (Pass sender receiver) w quiet = delivered_if_quiet (oldest (goes sender receiver) w.mail) w quiet
  effect_quiet (Lose sender receiver) w quiet = record { mail = is_mail_lost sender receiver w.mail quiet.mail; within = quiet.within; clear = clear_lost test w.mail k sender receiver quiet.clear }
  effect_quiet Calm w quiet = calmed_quiet everyone most_messages w quiet
  effect_quiet (CalmAmong members) w quiet = calmed_quiet (set_of members) most_messages w quiet
  effect_quiet (Change peer view) w quiet = stepped_quiet test k peer (events.Change view) w quiet
  effect_quiet (Stop peer) w quiet = changed_quiet test k peer stopped w quiet
  effect_quiet (Start peer) w quiet = changed_quiet test k peer (started (mode_at peer w) w.view) w quiet
  effect_quiet (Upgrade peer) w quiet = quiet
  effect_quiet Deepen w quiet = deepening_quiet w quiet
  effect_quiet (Spoil peer key bytes) w quiet = changed_quiet test k peer (over_stores (spoiled key bytes)) w quiet
  effect_quiet (Damage peer key bytes) w quiet = changed_quiet test k peer (over_stores (segment_spoiled key bytes)) w quiet
  effect_quiet (Inner peer level index bytes) w quiet = changed_quiet test k peer (over_stores (inner_spoiled level index bytes)) w quiet
  effect_quiet (Revert peer changes) w quiet = changed_quiet test k peer (while_down (taken_back changes)) w quiet
  effect_quiet (Fail peer store survivor) w quiet = changed_quiet test k peer (over_stores (failing store (leaves_of survivor))) w quiet

  run_quiet : (events : List ScheduleEvent) (w : Run) → Quiet test k w.mail → Quiet test k (run_from events w).mail
  run_quiet [] w quiet = quiet
  run_quiet (event ∷ more) w quiet = run_quiet more (applied event w) (effect_quiet event w quiet)

pub run_to_last : (events : List ScheduleEvent) (last : ScheduleEvent) (w : Run) → run_from (events ++ last ∷ []) w ≡ applied last (run_from events w)
run_to_last [] last w = refl
run_to_last (event ∷ more) last w = run_to_last more last (applied event w)

-- in every run there is one flag for each message
known : (form : Form) (peers : ℕ) (view : List ℕ) (events : List ScheduleEvent) → IsMail (run_of_schedule form peers view events).mail
known form peers view events =
    let test : Frame → Bool = λ f. true in
    (run_quiet test 0 events (opening_run form peers view) (record { mail = is_mail_at_first; within = omega arith; clear = clear_at_first test no_mail })).mail

-- a calm line leaves no message waiting
pub calm_ends : (form : Form) (peers : ℕ) (view : List ℕ) (events : List ScheduleEvent) → IsCalm everyone (run_of_schedule form peers view (events ++ Calm ∷ []))
calm_ends form peers view events = rw (run_to_last events Calm (opening_run form peers view)) (ends everyone most_messages (run_of_schedule form peers view events) (known form peers view events))

-- a calm line among some peers leaves none waiting between them
pub calm_among_ends : (form : Form) (peers : ℕ) (view : List ℕ) (events : List ScheduleEvent) (members : List ℕ) → IsCalm (set_of members) (run_of_schedule form peers view (events ++ CalmAmong members ∷ []))
calm_among_ends form peers view events members = rw (run_to_last events (CalmAmong members) (opening_run form peers view)) (ends (set_of members) most_messages (run_of_schedule form peers view events) (known form peers view events))
