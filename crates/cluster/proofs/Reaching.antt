-- How far a recorder has come after one more event, or why it stopped in its line.
use Rattle.std.proofs.Common.{◌≡◌, ◌≤◌, ◌<◌, ◌+◌, ◌∙◌, ℕ, List, [], ◌∷◌, ◌++◌, length, take, drop, map, Option, Some, Result, Ok, Err, refl, sym, ap, subst, inr, arith, append_assoc, append-nil, length-append, slice_get}
use Rattle.std.specs.Prelude.{IsErrAnd}
use Rattle.std.proofs.lemmas.List.{map-append}
use Rattle.ens_base.specs.Causes.{Rose}
use Rattle.ens_base.specs.declared.peer_words.ClusterWords.{ClusterWords}
use Rattle.environment.specs.declared.errors.LinkError.{LinkError}
use Rattle.cluster.proofs.Recorded.{recorded_run}
use Rattle.cluster.specs.Messages.{AllRecorded, MayBeRecorded, mail_before}
use Rattle.cluster.specs.Recordings.{Recording, frame_out, frames_of, recorded, recorded_form}
use Rattle.network.specs.declared.index.FrameIndex.{FrameIndex}
use Rattle.world_model.specs.WorldSpec.{Account, HasHashed, applied, run_of_schedule, IsWithinMessages, Run, unhashed}
use Rattle.replay.proofs.Stops.{Doing, doing_last, doing_next, stops}
use Rattle.replay.specs.Stops.{run_after}
use Rattle.replay.specs.Worlds.{schedule_run}
use Rattle.schedule_text.specs.declared.event.ScheduleEvent.{ScheduleEvent}
use Rattle.schedule_text.specs.declared.schedule.Schedule.{Schedule}
use Rattle.peer_turns.proofs.Following.{grew_more, grew_none}
use Rattle.peer_turns.specs.Going.{Grew}
use Rattle.wire_frames.specs.declared.frame.Frame.{Frame}
use Rattle.world_model.specs.Turns.{StopsAmong, turn, turns_of}
use Rattle.world_model.specs.Worlds.{run_of}
use Rattle.world_model.specs.declared.error.WorldError.{WorldError}
use Rattle.world_model.specs.declared.world.World.{World}
use Rattle.cluster.specs.Ends.{CameThere, Handed, HandedPrefix, frames_before, frames_between, recorded_schedule, run_before, without_last}
use Rattle.cluster.specs.Recorders.{IsInStep, Reached, Records, StopsAt, mail_in}
use Rattle.cluster.specs.Sending.{HandedAll, HandedSome}
use Rattle.cluster.specs.declared.recorder.Recorder.{Recorder}
use Rattle.cluster.specs.declared.stop.Stop.{Stop}
use Rattle.cluster.specs.declared.stop.Stop.TheVariants.{Lines, World as OfWorld, Link as OfLink}
use Rattle.cluster.proofs.Stepping.{and_event, drop_prefix, frames_now, many_peers, sent_now, stands_recorded}

without_the_last : (xs : List ScheduleEvent) (x : ScheduleEvent) → without_last (xs ++ x ∷ []) ≡ xs
without_the_last [] x = refl
without_the_last (y ∷ []) x = refl
without_the_last (y ∷ z ∷ xs) x = ap (λ (l : List ScheduleEvent). y ∷ l) (without_the_last (z ∷ xs) x)

take_prefix : (xs ys : List ScheduleEvent) → take (length xs) (xs ++ ys) ≡ xs
take_prefix [] ys = refl
take_prefix (x ∷ xs) ys = ap (λ (l : List ScheduleEvent). x ∷ l) (take_prefix xs ys)

at_prefix : (xs : List ScheduleEvent) (x : ScheduleEvent) → slice_get (xs ++ x ∷ []) (length xs) ≡ Some x
at_prefix [] x = refl
at_prefix (y ∷ xs) x = at_prefix xs x

module _ {L : Type 0} (sent : L → Option (List (ℕ × List ℕ))) (given : L → Option (List (Option (List ℕ)))) (faults : L → ℕ)
    (w : ClusterWords) (first : Account) (a : L) where
  -- nothing was handed over yet
  pub nothing_yet : (frames : List (ℕ × List ℕ)) (x : L) → HandedPrefix sent given [] frames x x
  nothing_yet frames x = ([], frames, refl, record { looked = grew_none (given x); sends = grew_none (sent x) })

  -- an error was passed on
  pub records_err : (looks : List (Option (List ℕ))) (r : Recording) (event : ScheduleEvent) (link : L) (result : Result (Unit {0}) Stop) (G : Stop → Type 0) (e : Stop) (c : Recorder) (b : L) (now : Account) → IsErrAnd result G → ((d : Stop) → G d → d ≡ e)
      → StopsAt sent given faults w first a looks (recorded event r) e b now → HandedPrefix sent given [] (frames_between r (recorded event r)) link b → Records sent given faults w first a looks r event link result c b now
  records_err looks r event link (Ok x) G e c b now and same stop prefix = absurd and
  records_err looks r event link (Err d) G e c b now and same stop prefix = (subst (λ (x : Stop). StopsAt sent given faults w first a looks (recorded event r) x b now) (sym (same d and)) stop, prefix)

  module _ (looks : List (Option (List ℕ))) (r : Recording) (c : Recorder) (link : L) (mid : Account) (reached : Reached sent given faults w first a looks r c link mid) where
    run_is : schedule_run c.schedule ≡ r.run
    run_is = ap schedule_run reached.schedule ∙ sym reached.is

    events_are : c.schedule.events ≡ r.events
    events_are = ap (λ (s : Schedule). s.events) reached.schedule

    peers_are : c.schedule.peers ≡ w.peers
    peers_are = ap (λ (s : Schedule). s.peers) reached.schedule

    module _ (event : ScheduleEvent) where
      abbrev next : Recording
      next = recorded event r

      -- the run before the event
      run_then : run_before w next ≡ r.run
      run_then = ap (run_of_schedule recorded_form w.peers w.view) (without_the_last r.events event) ∙ sym reached.is

      came : IsWithinMessages (schedule_run c.schedule) → CameThere first w next
      came within = inr (record { mid = mid; within = subst IsWithinMessages (run_is ∙ sym run_then) within; has = subst (λ (v : Run). HasHashed v.hashed first mid) (sym run_then) reached.took })

      -- before the event, these messages were handed over
      before_is : frames_of r.run ≡ frames_before w next
      before_is = ap frames_of (sym run_then)

      handed_before : Handed sent given looks (frames_before w next) a link
      handed_before = subst (λ (fs : List (ℕ × List ℕ)). Handed sent given looks fs a link) before_is reached.handed

      -- there is no line left for the event
      pub stops_full : 200000 ≤ length c.schedule.events + 3 → length c.schedule.events + 3 ≤ 200000 → IsWithinMessages (schedule_run c.schedule) → StopsAt sent given faults w first a looks next Lines link mid
      stops_full full few within = (past full few, came within, handed_before)
        where
          past : 200000 ≤ length c.schedule.events + 3 → length c.schedule.events + 3 ≤ 200000 → length (r.events ++ event ∷ []) + 3 ≡ 200001
          past full few = omega (arith, subst (λ (es : List ScheduleEvent). 200000 ≤ length es + 3) events_are full, subst (λ (es : List ScheduleEvent). length es + 3 ≤ 200000) events_are few, length-append r.events (event ∷ []))

      module _ (step : IsInStep c (mail_before event (mail_in c))) (may : MayBeRecorded c.schedule.peers (mail_in c) event) (few : length c.schedule.events + 3 < 200000) where
        abbrev due : Schedule
        due = recorded_schedule w next

        run_at : run_after due (take (length r.events) due.events) ≡ r.run
        run_at = ap (run_of_schedule recorded_form w.peers w.view) (take_prefix r.events (event ∷ [])) ∙ sym reached.is

        doing : Doing due (length r.events) first (run_of c.world) mid
        doing = record {
          is = step.world ∙ ap unhashed (run_is ∙ sym run_at);
          many = many_peers c.world ∙ step.many ∙ peers_are;
          within = subst IsWithinMessages (run_is ∙ sym run_at) step.within;
          has = subst (λ (v : Run). HasHashed v.hashed first mid) (sym run_at) reached.took;
        }

        recorded_all : AllRecorded w.peers next.events
        recorded_all = subst (λ (s : Schedule). AllRecorded s.peers (s.events ++ event ∷ [])) reached.schedule (stands_recorded c event step may)

        recorded_few : length next.events + 3 ≤ 200000
        recorded_few = omega (arith, subst (λ (es : List ScheduleEvent). length es + 3 < 200000) events_are few, length-append r.events (event ∷ []))

        -- the world refused the event
        pub stops_world : (now : Account) (e : WorldError) → StopsAmong (turns_of event) (turn event) (run_of c.world) mid now e → StopsAt sent given faults w first a looks next (OfWorld e) link now
        stops_world now e refused = record {
          stops = stops due (length r.events) first (run_of c.world) mid event (at_prefix r.events event) doing now e refused;
          stand = recorded_all;
          few = recorded_few;
          came = came step.within;
          handed = handed_before;
        }

        -- the world took it
        module _ (world : World) (now : Account) (is : run_of world ≡ unhashed (applied event (run_of c.world))) (within : IsWithinMessages (applied event (run_of c.world))) (has : HasHashed (applied event (run_of c.world)).hashed mid now) where
          abbrev frames : List Frame
          frames = drop (length (mail_in c).sent) (run_of world).mail.sent

          run_next : next.run ≡ schedule_run due
          run_next = recorded_run w.peers w.view event r reached.is

          took_all : HasHashed next.run.hashed first now
          took_all =
              let all = doing_last due (length r.events + 1) first (run_of world) now (omega (arith, length-append r.events (event ∷ []))) (doing_next due (length r.events) first (run_of c.world) mid event (at_prefix r.events event) doing (run_of world) now is within has) in
              subst (λ (v : Run). HasHashed v.hashed first now) (sym run_next) all.2

          -- the messages of the run are those before and these
          next_sent : next.run.mail.sent ≡ r.run.mail.sent ++ frames
          next_sent =
              let now_sent : (run_of world).mail.sent ≡ next.run.mail.sent = ap (λ (v : Run). v.mail.sent) ((doing_last due (length r.events + 1) first (run_of world) now (omega (arith, length-append r.events (event ∷ []))) (doing_next due (length r.events) first (run_of c.world) mid event (at_prefix r.events event) doing (run_of world) now is within has)).0 ∙ ap unhashed (sym run_next)) in
              let behind : (run_of world).mail.sent ≡ (mail_in c).sent ++ frames = sent_now c event step may world is within ∙ ap (λ (l : List Frame). (mail_in c).sent ++ l) (sym (frames_now c event step may world is within)) in
              sym now_sent ∙ behind ∙ ap (λ (v : Run). v.mail.sent ++ frames) run_is

          frames_are : frames_of next.run ≡ frames_of r.run ++ map frame_out frames
          frames_are = ap (λ (l : List Frame). map frame_out l) next_sent ∙ map-append frame_out r.run.mail.sent frames

          between_are : frames_between r next ≡ map frame_out frames
          between_are = ap (λ (l : List Frame). map frame_out (drop (length r.run.mail.sent) l)) next_sent ∙ ap (λ (l : List Frame). map frame_out l) (drop_prefix r.run.mail.sent frames)

          -- these were handed over
          pub hands_next : (number : ℕ) (index : FrameIndex) (b : L) → HandedAll sent given faults frames number link c.index index b → Handed sent given [] (frames_between r next) link b
          hands_next number index b handed = record { looked = handed.looked; sends = subst (Grew (sent link) (sent b)) (sym between_are) handed.sends }

          -- or a prefix of these
          pub prefix_next : (e : LinkError) (b : L) → HandedSome sent given faults e frames link b → HandedPrefix sent given [] (frames_between r next) link b
          prefix_next e b some = (
            map frame_out some.prefix,
            map frame_out some.rest,
            between_are ∙ ap (λ (l : List Frame). map frame_out l) some.all ∙ map-append frame_out some.prefix some.rest,
            record { looked = some.looked; sends = some.sends },
          )

          -- so many were sent before
          grown_to : (fs more : List (ℕ × List ℕ)) → fs ≡ frames_of r.run ++ more → length (frames_before w next) ≤ length fs
          grown_to fs more is = omega (arith, ap (λ (l : List (ℕ × List ℕ)). length l) is, length-append (frames_of r.run) more, ap (λ (l : List (ℕ × List ℕ)). length l) before_is)

          -- the messages of the event were handed over
          pub reaches_next : (new : Recorder) (number : ℕ) (index : FrameIndex) (b : L) → new.schedule ≡ and_event c.schedule event → HandedAll sent given faults frames number link c.index index b → Reached sent given faults w first a looks next new b now
          reaches_next new number index b same handed = record {
            schedule = same ∙ ap (λ (s : Schedule). and_event s event) reached.schedule;
            is = run_next;
            took = took_all;
            handed = record {
              looked = subst (λ (l : List (Option (List ℕ))). Grew (given a) (given b) l) (append-nil looks) (grew_more (given a) (given link) (given b) looks [] reached.handed.looked handed.looked);
              sends = subst (Grew (sent a) (sent b)) (sym frames_are) (grew_more (sent a) (sent link) (sent b) (frames_of r.run) (map frame_out frames) reached.handed.sends handed.sends);
            };
            grown = grown_to (frames_of next.run) (map frame_out frames) frames_are;
            later = omega (arith, reached.later, handed.later);
          }

          -- a prefix of them was handed over
          pub stops_link : (e : LinkError) (b : L) → HandedSome sent given faults e frames link b → StopsAt sent given faults w first a looks next (OfLink e) b now
          stops_link e b some = record {
            prefix = frames_of r.run ++ map frame_out some.prefix;
            rest = map frame_out some.rest;
            all = frames_are ∙ ap (λ (l : List Frame). frames_of r.run ++ map frame_out l) some.all ∙ ap (λ (l : List (ℕ × List ℕ)). frames_of r.run ++ l) (map-append frame_out some.prefix some.rest)
                ∙ sym (append_assoc (frames_of r.run) (map frame_out some.prefix) (map frame_out some.rest));
            most = grown_to (frames_of r.run ++ map frame_out some.prefix) (map frame_out some.prefix) refl;
            handed = record {
              looked = subst (λ (l : List (Option (List ℕ))). Grew (given a) (given b) l) (append-nil looks) (grew_more (given a) (given link) (given b) looks [] reached.handed.looked some.looked);
              sends = grew_more (sent a) (sent link) (sent b) (frames_of r.run) (map frame_out some.prefix) reached.handed.sends some.sends;
            };
            cause = λ same. rose_on (faults a) (faults link) (faults b) reached.later (some.cause same);
          }
            where
              rose_on : (x y z : ℕ) → x ≤ y → Rose y z → Rose x z
              rose_on x y z le rose = omega (arith, le, rose)
