-- A recorder after one more event.
use Rattle.std.proofs.Common.{◌≡◌, ◌≤◌, ◌<◌, ◌+◌, ◌∙◌, ℕ, List, [], ◌∷◌, ◌++◌, length, drop, Result, Ok, Err, refl, sym, ap, subst, arith, length-append, codes}
use Rattle.std.specs.Prelude.{IfErr, IsErrAnd}
use Rattle.std.proofs.lemmas.List.{length-map, length-replicate}
use Rattle.ens_base.specs.declared.peer_words.ClusterWords.{ClusterWords}
use Rattle.cluster.specs.Recordings.{recorded_form}
use Rattle.cluster.proofs.Mails.{Posts, applied_posts, mail_before_is, posted_mail, sent_after, sent_before}
use Rattle.cluster.specs.Messages.{AllRecorded, IsRecorded, MayBeRecorded, mail_before}
use Rattle.network.specs.Indexes.{Indexes, queue_at}
use Rattle.world_model.specs.WorldSpec.{Account, applied, IsWithinMessages, Run, opening_run, posted_all, unhashed}
use Rattle.network.specs.Mail.{IsMail, Mail, most_messages}
use Rattle.replay.proofs.Stops.{after_strings, opening_stops}
use Rattle.replay.specs.Text.{record_text}
use Rattle.replay.specs.Worlds.{schedule_run}
use Rattle.schedule_text.specs.Spelling.{MayStand}
use Rattle.schedule_text.specs.declared.event.ScheduleEvent.{ScheduleEvent}
use Rattle.schedule_text.specs.declared.event.ScheduleEvent.TheVariants.{Call, Tick, Deliver, Change, Start}
use Rattle.schedule_text.specs.declared.event.ScheduleEvent.TheVariants as events
use Rattle.schedule_text.specs.declared.schedule.Schedule.{Schedule}
use Rattle.wire_frames.specs.declared.frame.Frame.{Frame}
use Rattle.world_model.specs.Peers.{node_of}
use Rattle.world_model.specs.Refusals.{IsCutOff}
use Rattle.world_model.specs.Turns.{StopsAmong, turn, turns_of}
use Rattle.world_model.specs.Worlds.{run_of}
use Rattle.world_model.specs.declared.error.WorldError.{WorldError}
use Rattle.world_model.specs.declared.world.World.{World}
use Rattle.world_model.proofs.WorldSpec.{applied_same, peers_in, run_to_last}
use Rattle.cluster.specs.Ends.{opening, recorded_schedule}
use Rattle.cluster.specs.Recorders.{Applies, IsInStep, IsUnopened, mail_in}
use Rattle.cluster.specs.Sending.{AddsTo}
use Rattle.cluster.specs.declared.recorder.Recorder.{Recorder}
use Rattle.cluster.specs.declared.stop.Stop.{Stop}
use Rattle.cluster.specs.declared.stop.Stop.TheVariants.{World as OfWorld}

-- a schedule with one more event
abbrev pub and_event : Schedule → ScheduleEvent → Schedule
and_event s event = record s { events = s.events ++ event ∷ [] }

pub run_and_event : (s : Schedule) (event : ScheduleEvent) → schedule_run (and_event s event) ≡ applied event (schedule_run s)
run_and_event s event = run_to_last s.events event (opening_run s.form s.peers s.view)

-- what was hashed before makes no difference
unhashed_after : (event : ScheduleEvent) (v : Run) → unhashed (applied event (unhashed v)) ≡ unhashed (applied event v)
unhashed_after event v = sym (ap unhashed (after_strings event v))

mail_after : (event : ScheduleEvent) (v : Run) → (applied event (unhashed v)).mail ≡ (applied event v).mail
mail_after event v = sym (ap (λ (u : Run). u.mail) (after_strings event v))

pub many_peers : (w : World) → peers_in (run_of w) ≡ length w.peers.items
many_peers w = length-map w.peers.items node_of

-- ---- the event may stand

may_stand : (peers : ℕ) (m : Mail) (event : ScheduleEvent) → length m.sent ≤ most_messages → MayBeRecorded peers m event → IsRecorded event × MayStand peers event
may_stand peers m (Call peer id key command) few may = may
may_stand peers m (Tick peer ticks) few may = may
may_stand peers m (Deliver message) few may = (tt, (may.0, omega (arith, may.1, few)))
may_stand peers m (Change peer view) few may = may
may_stand peers m (events.Stop peer) few may = may
may_stand peers m (Start peer) few may = may
may_stand peers m event few may = absurd may.0

pub all_with : (peers : ℕ) (events : List ScheduleEvent) (event : ScheduleEvent) → AllRecorded peers events → IsRecorded event × MayStand peers event → AllRecorded peers (events ++ event ∷ [])
all_with peers [] event all may = (may, tt)
all_with peers (e ∷ events) event all may = (all.0, all_with peers events event all.1 may)

-- ---- the messages that the event sent are those behind the ones before

pub drop_prefix : (xs ys : List Frame) → drop (length xs) (xs ++ ys) ≡ ys
drop_prefix [] ys = refl
drop_prefix (x ∷ xs) ys = drop_prefix xs ys

module _ (c : Recorder) (event : ScheduleEvent) (step : IsInStep c (mail_before event (mail_in c))) (may : MayBeRecorded c.schedule.peers (mail_in c) event) where
  -- the event may be applied
  pub stands_here : MayStand c.schedule.peers event
  stands_here = (may_stand c.schedule.peers (mail_in c) event step.within may).1

  pub stands_in_world : MayStand (length c.world.peers.items) event
  stands_in_world = subst (λ (n : ℕ). MayStand n event) (sym step.many) stands_here

  pub stands_recorded : AllRecorded c.schedule.peers (c.schedule.events ++ event ∷ [])
  stands_recorded = all_with c.schedule.peers c.schedule.events event step.stand (may_stand c.schedule.peers (mail_in c) event step.within may)

  pub posts : Posts (mail_before event (mail_in c)) (schedule_run (and_event c.schedule event)).mail
  posts = subst (λ (v : Run). Posts (mail_before event (mail_in c)) v.mail) (sym (run_and_event c.schedule event)) (applied_posts c.schedule.peers event (schedule_run c.schedule) may)

  -- the world, after the event was applied to it
  module _ (world : World) (reached : run_of world ≡ unhashed (applied event (run_of c.world))) (within : IsWithinMessages (applied event (run_of c.world))) where
    world_is : run_of world ≡ unhashed (schedule_run (and_event c.schedule event))
    world_is = reached ∙ ap (λ (v : Run). unhashed (applied event v)) step.world ∙ unhashed_after event (schedule_run c.schedule) ∙ ap unhashed (sym (run_and_event c.schedule event))

    world_many : length world.peers.items ≡ c.schedule.peers
    world_many = sym (many_peers world) ∙ ap peers_in reached ∙ applied_same event (run_of c.world) ∙ many_peers c.world ∙ step.many

    within_is : IsWithinMessages (schedule_run (and_event c.schedule event))
    within_is =
        subst (λ (m : Mail). length m.sent ≤ most_messages)
        (ap (λ (v : Run). (applied event v).mail) step.world ∙ mail_after event (schedule_run c.schedule) ∙ ap (λ (v : Run). v.mail) (sym (run_and_event c.schedule event)))
        within

    -- the messages that were sent before are still there, and then come those of the event
    pub sent_now : (run_of world).mail.sent ≡ (mail_in c).sent ++ posts.frames
    sent_now =
        ap (λ (v : Run). v.mail.sent) world_is ∙ ap (λ (m : Mail). m.sent) posts.are ∙ sent_after posts.frames (mail_before event (mail_in c))
        ∙ ap (λ (l : List Frame). l ++ posts.frames) (sent_before event (mail_in c))

    pub frames_now : drop (length (mail_in c).sent) (run_of world).mail.sent ≡ posts.frames
    frames_now = ap (λ (l : List Frame). drop (length (mail_in c).sent) l) sent_now ∙ drop_prefix (mail_in c).sent posts.frames

    mail_is : IsMail (mail_before event (mail_in c))
    mail_is = mail_before_is event (mail_in c) step.mail

    -- the recorder with this world, and an index to which these messages were added
    pub next_step : (new : Recorder) → new.world ≡ world → new.schedule ≡ and_event c.schedule event → length c.schedule.events + 3 < 200000
        → AddsTo (drop (length (mail_in c).sent) (run_of world).mail.sent) (length (mail_in c).sent + 1) c.index new.index → IsInStep new (mail_in new)
    next_step new world_same schedule_same few adds = record {
      world = subst (λ (v : World). run_of v ≡ unhashed (schedule_run new.schedule)) (sym world_same) (world_is ∙ ap (λ (s : Schedule). unhashed (schedule_run s)) (sym schedule_same));
      many = subst (λ (v : World). length v.peers.items ≡ new.schedule.peers) (sym world_same) (world_many ∙ ap (λ (s : Schedule). s.peers) (sym schedule_same));
      mail = subst IsMail (sym mail_same) (posted_mail posts.frames (mail_before event (mail_in c)) mail_is);
      index = subst (Indexes new.index) (sym mail_same) (subst (λ (l : List Frame). AddsTo l (length (mail_in c).sent + 1) c.index new.index) frames_now adds (mail_before event (mail_in c)) mail_is (ap (λ (l : List Frame). length l + 1) (sent_before event (mail_in c))) step.index);
      within = subst (λ (s : Schedule). IsWithinMessages (schedule_run s)) (sym schedule_same) within_is;
      stand = subst (λ (s : Schedule). AllRecorded s.peers s.events) (sym schedule_same) stands_recorded;
      few = subst (λ (s : Schedule). length s.events + 3 ≤ 200000) (sym schedule_same) (omega (arith, few, length-append c.schedule.events (event ∷ [])));
    }
      where
        mail_same : mail_in new ≡ posted_all posts.frames (mail_before event (mail_in c))
        mail_same = ap (λ (s : Schedule). (schedule_run s).mail) schedule_same ∙ posts.are

-- ---- an event was applied, or refused

-- a schedule with these events
abbrev with_events : Schedule → List ScheduleEvent → Schedule
with_events s events = record s { events = events }

pub applied_schedule : (s : Schedule) (events : List ScheduleEvent) (event : ScheduleEvent) → events ≡ s.events ++ event ∷ [] → with_events s events ≡ and_event s event
applied_schedule s events event is = ap (with_events s) is

-- an error of the world was passed on
pub applies_err : (event : ScheduleEvent) (c d : Recorder) (first now : Account) (r : Result (Unit {0}) Stop) (G : Stop → Type 0) (e : WorldError) → IsErrAnd r G → ((s : Stop) → G s → s ≡ OfWorld e) → StopsAmong (turns_of event) (turn event) (run_of c.world) first now e → Applies event c first r d now
applies_err event c d first now (Ok x) G e and same refused = absurd and
applies_err event c d first now (Err s) G e and same refused = subst (λ (x : Stop). Applies event c first (Err x) d now) (sym (same s and)) refused

-- the peers did not start
pub opening_refused : (w : ClusterWords) (first now : Account) (r : Result Recorder Stop) (G : Stop → Type 0) (e : WorldError) → IsErrAnd r G → ((s : Stop) → G s → s ≡ OfWorld e) → IsCutOff (opening w).run.hashed first now e → IfErr r (λ s. IsUnopened w s first now)
opening_refused w first now (Ok c) G e and same cut = tt
opening_refused w first now (Err s) G e and same cut = subst (λ (x : Stop). IsUnopened w x first now) (sym (same s and)) (opening_stops (recorded_schedule w (opening w)) first now e cut)

-- ---- the peers have just started

abbrev schedule_with : ClusterWords → List ScheduleEvent → Schedule
schedule_with w events = record { form = recorded_form; peers = w.peers; view = w.view; events = events }

pub opened_schedule : (w : ClusterWords) (events : List ScheduleEvent) → events ≡ [] → schedule_with w events ≡ recorded_schedule w (opening w)
opened_schedule w events none = ap (schedule_with w) none

no_strings : (peers : ℕ) (view : List ℕ) (w : World) → run_of w ≡ unhashed (opening_run recorded_form peers view) → length w.peers.items ≡ peers
no_strings peers view w is = sym (many_peers w) ∙ ap peers_in is ∙ length-replicate {A = _} peers _

pub opening_step : (w : ClusterWords) (c : Recorder) → c.schedule ≡ recorded_schedule w (opening w) → run_of c.world ≡ unhashed (opening_run recorded_form w.peers w.view) → ((bytes : List ℕ) → queue_at c.index bytes ≡ []) → IsInStep c (mail_in c)
opening_step w c same is none = record {
  world = is ∙ ap (λ (s : Schedule). unhashed (schedule_run s)) (sym same);
  many = no_strings w.peers w.view c.world is ∙ ap (λ (s : Schedule). s.peers) (sym same);
  mail = rw same refl;
  index = λ bytes. none bytes ∙ rw same refl;
  within = rw same (omega arith);
  stand = rw same tt;
  few = rw same (omega arith);
}

-- ---- the text of a record, part after part

pub text_parts : (text again all schedule printed given : List ℕ) → text ≡ schedule → again ≡ text ++ codes "answers\n" → given ≡ printed → all ≡ again ++ given → all ≡ record_text schedule printed
text_parts text again all schedule printed given is line same rest = rest ∙ ap (λ (l : List ℕ). again ++ l) same ∙ ap (λ (l : List ℕ). l ++ printed) (line ∙ ap (λ (l : List ℕ). l ++ codes "answers\n") is)
