-- One event in a recorder: the calls that it takes, together.
use Rattle.std.proofs.Common.{◌≡◌, ◌≤◌, ◌<◌, ◌+◌, ◌∙◌, ℕ, true, false, List, [], ◌++◌, length, drop, Option, Ok, Err, ap, subst, arith, length-append}
use Rattle.std.specs.Prelude.{nat_le}
use Rattle.std.proofs.lemmas.Bool.Decides.{nat_tests}
use Rattle.ens_base.specs.declared.peer_words.ClusterWords.{ClusterWords}
use Rattle.environment.specs.declared.errors.LinkError.{LinkError}
use Rattle.cluster.specs.Messages.{MayBeRecorded, mail_before}
use Rattle.cluster.specs.Recordings.{Recording, recorded}
use Rattle.cluster.specs.Ends.{HandedPrefix, frames_between}
use Rattle.network.specs.declared.index.FrameIndex.{FrameIndex}
use Rattle.world_model.specs.WorldSpec.{Account, Run}
use Rattle.schedule_text.specs.declared.event.ScheduleEvent.{ScheduleEvent}
use Rattle.wire_frames.specs.declared.frame.Frame.{Frame}
use Rattle.world_model.specs.Worlds.{run_of}
use Rattle.cluster.specs.Recorders.{Applied, Applies, IsInStep, Reached, Records, StopsAt, mail_in}
use Rattle.cluster.specs.Sending.{AddsTo, HandedAll, HandedSome}
use Rattle.cluster.specs.declared.recorder.Recorder.{Recorder}
use Rattle.cluster.specs.declared.stop.Stop.{Stop}
use Rattle.cluster.specs.declared.stop.Stop.TheVariants.{Lines, World as OfWorld, Link as OfLink}
use Rattle.cluster.proofs.Reaching.{prefix_next, hands_next, reaches_next, stops_full, stops_link, stops_world}
use Rattle.cluster.proofs.Stepping.{next_step, sent_now}

is_full : (n : ℕ) → nat_le 200000 n ≡ true → 200000 ≤ n
is_full n h = grind (arith, nat_tests, h)

is_not_full : (n : ℕ) → nat_le 200000 n ≡ false → n < 200000
is_not_full n h = grind (arith, nat_tests, h)

module _ (c : Recorder) (event : ScheduleEvent) (step : IsInStep c (mail_before event (mail_in c))) (may : MayBeRecorded c.schedule.peers (mail_in c) event) where
  -- so many messages were sent before
  same_count : length (run_of c.world).mail.sent ≡ length (mail_in c).sent
  same_count = ap (λ (v : Run). length v.mail.sent) step.world

  module _ (d : Recorder) (mid later : Account) (did : Applied event c d mid later) where
    abbrev frames : List Frame
    frames = drop (length (run_of c.world).mail.sent) (run_of d.world).mail.sent

    frames_same : frames ≡ drop (length (mail_in c).sent) (run_of d.world).mail.sent
    frames_same = ap (λ (n : ℕ). drop n (run_of d.world).mail.sent) same_count

    -- no message was removed
    pub sent_before_now : length (run_of c.world).mail.sent ≤ length (run_of d.world).mail.sent
    sent_before_now = before_of (length (run_of c.world).mail.sent) (mail_in c).sent (run_of d.world).mail.sent _ same_count (sent_now c event step may d.world did.world did.within)
      where
        before_of : (n : ℕ) (xs ys more : List Frame) → n ≡ length xs → ys ≡ xs ++ more → n ≤ length ys
        before_of n xs ys more is all = omega (arith, is, ap (λ (l : List Frame). length l) all, length-append xs more)

    module _ (e : Recorder) (world : e.world ≡ d.world) (schedule : e.schedule ≡ d.schedule) where
      -- the recorder after its messages were handed over
      pub recorded_step : {L : Type 0} (sent : L → Option (List (ℕ × List ℕ))) (given : L → Option (List (Option (List ℕ)))) (faults : L → ℕ) (link b : L) → nat_le 200000 (length c.schedule.events + 3) ≡ false
          → HandedAll sent given faults frames (length (run_of c.world).mail.sent + 1) link d.index e.index b → IsInStep e (mail_in e)
      recorded_step sent given faults link b few handed =
          next_step c event step may d.world did.world did.within e world (schedule ∙ did.schedule) (is_not_full (length c.schedule.events + 3) few)
          (subst (λ (l : List Frame). AddsTo l (length (mail_in c).sent + 1) c.index e.index) frames_same
          (subst (λ (n : ℕ). AddsTo frames (n + 1) c.index e.index) same_count (subst (λ (i : FrameIndex). AddsTo frames (length (run_of c.world).mail.sent + 1) i e.index) did.index handed.adds)))

      module _ {L : Type 0} (sent : L → Option (List (ℕ × List ℕ))) (given : L → Option (List (Option (List ℕ)))) (faults : L → ℕ) (w : ClusterWords) (first : Account) (a : L) (looks : List (Option (List ℕ))) (r : Recording) (link b : L)
          (few : nat_le 200000 (length c.schedule.events + 3) ≡ false) (reached : Reached sent given faults w first a looks r c link mid) where
        pub records_event : HandedAll sent given faults frames (length (run_of c.world).mail.sent + 1) link d.index e.index b → Records sent given faults w first a looks r event link (Ok tt) e b later
        records_event handed =
            let now : HandedAll sent given faults (drop (length (mail_in c).sent) (run_of d.world).mail.sent) (length (run_of c.world).mail.sent + 1) link c.index e.index b =
            subst (λ (i : FrameIndex). HandedAll sent given faults (drop (length (mail_in c).sent) (run_of d.world).mail.sent) (length (run_of c.world).mail.sent + 1) link i e.index b) did.index
            (subst (λ (l : List Frame). HandedAll sent given faults l (length (run_of c.world).mail.sent + 1) link d.index e.index b) frames_same handed) in (
              reaches_next sent given faults w first a looks r c link mid reached event step may (is_not_full (length c.schedule.events + 3) few) d.world later did.world did.within did.has e (length (run_of c.world).mail.sent + 1) e.index b (schedule ∙ did.schedule) now,
              hands_next sent given faults w first a looks r c link mid reached event step may (is_not_full (length c.schedule.events + 3) few) d.world later did.world did.within did.has (length (run_of c.world).mail.sent + 1) e.index b now,
            )

        pub stops_handing : (error : LinkError) → HandedSome sent given faults error frames link b → StopsAt sent given faults w first a looks (recorded event r) (OfLink error) b later
        stops_handing error some =
            stops_link sent given faults w first a looks r c link mid reached event step may (is_not_full (length c.schedule.events + 3) few) d.world later did.world did.within did.has error b
            (subst (λ (l : List Frame). HandedSome sent given faults error l link b) frames_same some)

        pub prefix_handed : (error : LinkError) → HandedSome sent given faults error frames link b → HandedPrefix sent given [] (frames_between r (recorded event r)) link b
        prefix_handed error some =
            prefix_next sent given faults w first a looks r c link mid reached event step may (is_not_full (length c.schedule.events + 3) few) d.world later did.world did.within did.has error b
            (subst (λ (l : List Frame). HandedSome sent given faults error l link b) frames_same some)

  -- the world refused the event
  module _ {L : Type 0} (sent : L → Option (List (ℕ × List ℕ))) (given : L → Option (List (Option (List ℕ)))) (faults : L → ℕ) (w : ClusterWords) (first : Account) (a : L) (looks : List (Option (List ℕ))) (r : Recording) (link : L) (mid : Account)
      (reached : Reached sent given faults w first a looks r c link mid) where
    pub stops_lines : nat_le 200000 (length c.schedule.events + 3) ≡ true → StopsAt sent given faults w first a looks (recorded event r) Lines link mid
    stops_lines full = stops_full sent given faults w first a looks r c link mid reached event (is_full (length c.schedule.events + 3) full) step.few step.within

    pub stops_applying : (d : Recorder) (later : Account) (stop : Stop) → nat_le 200000 (length c.schedule.events + 3) ≡ false → Applies event c mid (Err stop) d later → StopsAt sent given faults w first a looks (recorded event r) stop link later
    stops_applying d later Lines few refused = absurd refused
    stops_applying d later (OfWorld e) few refused = stops_world sent given faults w first a looks r c link mid reached event step may (is_not_full (length c.schedule.events + 3) few) later e refused
    stops_applying d later (OfLink e) few refused = absurd refused
