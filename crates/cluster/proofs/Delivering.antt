-- No message is delivered twice.
use Rattle.std.proofs.Common.{◌≡◌, ◌⊎◌, ◌≤◌, ◌<◌, ◌+◌, ◌-◌, ◌∙◌, ℕ, zero, suc, Bool, true, false, List, [], ◌∷◌, ◌++◌, length, take, drop, Option, None, Some, refl, sym, ap, subst, inl, inr, arith, append-nil, length-append}
use Rattle.std.specs.Prelude.{slice_index_or}
use Rattle.std.proofs.lemmas.Bool.{and_parts, false≢true}
use Rattle.ens_base.specs.Lists.{AreDistinct, ◌∈◌}
use Rattle.scripts.specs.Scripts.{AllMayBeLines, IsScript, IsScripted, MayBeLine}
use Rattle.scripts.specs.declared.line.ScriptLine.{ScriptLine}
use Rattle.scripts.specs.declared.line.ScriptLine.TheVariants.{Event, Turn}
use Rattle.network.specs.Indexes.{is_spelled}
use Rattle.network.proofs.MailLaws.{flag_settled, is_mail_posted, is_mail_settled, oldest_is_sent, oldest_waits, settled_flag}
use Rattle.network.specs.Mail.{IsMail, Mail, oldest, posted, settled}
use Rattle.schedule_text.specs.declared.event.ScheduleEvent.{ScheduleEvent}
use Rattle.schedule_text.specs.declared.event.ScheduleEvent.TheVariants.{Call, Tick, Deliver, Change, Stop, Start}
use Rattle.wire_frames.specs.declared.frame.Frame.{Frame}
use Rattle.world_spec.specs.Lines.{applied}
use Rattle.world_spec.specs.Runs.{posted_all}
use Rattle.cluster.specs.Messages.{MayBeRecorded, mail_before}
use Rattle.cluster.specs.Recordings.{Follows, Recording, deliveries, delivering, heard, heard_all, nothing_recorded, recorded}
use Rattle.cluster.proofs.Mails.{applied_posts, posted_mail}

-- a message that was sent, and does not wait
pub record IsSettled (m : Mail) (n : ℕ) : Type 0 where
  pub first : 1 ≤ n
  pub sent : n ≤ length m.sent
  pub flag : slice_index_or m.waits (n - 1) false ≡ false

-- every delivery was of such a message, and none came twice
pub record AreSettled (events : List ScheduleEvent) (m : Mail) : Type 0 where
  pub mail : IsMail m
  pub settled : (n : ℕ) → n ∈ deliveries events → IsSettled m n
  pub distinct : AreDistinct (deliveries events)

-- ---- what is sent leaves the older flags

flag_in_front : (waits : List Bool) (more : List Bool) (k : ℕ) → k < length waits → slice_index_or (waits ++ more) k false ≡ slice_index_or waits k false
flag_in_front [] more k below = absurd (omega (arith, below))
flag_in_front (w ∷ waits) more zero below = refl
flag_in_front (w ∷ waits) more (suc k) below = flag_in_front waits more k (omega (arith, below))

settled_posted : (m : Mail) (f : Frame) (n : ℕ) → IsMail m → IsSettled m n → IsSettled (posted m f) n
settled_posted m f n is s = record {
  first = s.first;
  sent = omega (arith, s.sent, length-append m.sent (f ∷ []));
  flag = flag_in_front m.waits (true ∷ []) (n - 1) (omega (arith, s.first, s.sent, is)) ∙ s.flag;
}

settled_all : (frames : List Frame) (m : Mail) (n : ℕ) → IsMail m → IsSettled m n → IsSettled (posted_all frames m) n
settled_all [] m n is s = s
settled_all (f ∷ frames) m n is s = settled_all frames (posted m f) n (is_mail_posted m f is) (settled_posted m f n is s)

-- ---- one more event

deliveries_last : (events : List ScheduleEvent) (event : ScheduleEvent) → deliveries (events ++ event ∷ []) ≡ deliveries events ++ deliveries (event ∷ [])
deliveries_last [] event = refl
deliveries_last (Deliver message ∷ events) event = ap (λ (l : List ℕ). message ∷ l) (deliveries_last events event)
deliveries_last (first ∷ events) event = by first (deliveries_last events event)
  where
    by : (first : ScheduleEvent) → deliveries (events ++ event ∷ []) ≡ deliveries events ++ deliveries (event ∷ []) → deliveries (first ∷ (events ++ event ∷ [])) ≡ deliveries (first ∷ events) ++ deliveries (event ∷ [])
    by (Deliver message) same = ap (λ (l : List ℕ). message ∷ l) same
    by first same = same

scripted_none : (event : ScheduleEvent) → IsScripted event → deliveries (event ∷ []) ≡ []
scripted_none (Call peer id key command) is = refl
scripted_none (Tick peer ticks) is = refl
scripted_none (Change peer view) is = refl
scripted_none (Stop peer) is = refl
scripted_none (Start peer) is = refl
scripted_none event is = absurd is

pub scripted_before : (event : ScheduleEvent) (m : Mail) → IsScripted event → mail_before event m ≡ m
scripted_before (Call peer id key command) m is = refl
scripted_before (Tick peer ticks) m is = refl
scripted_before (Change peer view) m is = refl
scripted_before (Stop peer) m is = refl
scripted_before (Start peer) m is = refl
scripted_before event m is = absurd is

pub scripted_may : (peers : ℕ) (m : Mail) (event : ScheduleEvent) → MayBeLine peers (Event event) → MayBeRecorded peers m event
scripted_may peers m (Call peer id key command) may = may
scripted_may peers m (Tick peer ticks) may = may
scripted_may peers m (Change peer view) may = may
scripted_may peers m (Stop peer) may = may
scripted_may peers m (Start peer) may = may
scripted_may peers m event may = absurd may.0

module _ (peers : ℕ) where
  after_event : (event : ScheduleEvent) (r : Recording) → MayBeLine peers (Event event) → AreSettled r.events r.run.mail → AreSettled (recorded event r).events (recorded event r).run.mail
  after_event event r may old =
      let posts = applied_posts peers event r.run (scripted_may peers r.run.mail event may) in
      let are : (applied event r.run).mail ≡ posted_all posts.frames r.run.mail = posts.are ∙ ap (posted_all posts.frames) (scripted_before event r.run.mail may.0) in
      let same : deliveries (r.events ++ event ∷ []) ≡ deliveries r.events = deliveries_last r.events event ∙ ap (λ (l : List ℕ). deliveries r.events ++ l) (scripted_none event may.0) ∙ append-nil (deliveries r.events) in
      record {
        mail = rw are (posted_mail posts.frames r.run.mail old.mail);
        settled = λ n at. rw are (settled_all posts.frames r.run.mail n old.mail (old.settled n (subst (λ (l : List ℕ). n ∈ l) same at)));
        distinct = rw same old.distinct;
      }

  in_last : (n x : ℕ) (xs : List ℕ) → n ∈ (xs ++ x ∷ []) → (n ∈ xs) ⊎ (n ≡ x)
  in_last n x [] (inl same) = inr same
  in_last n x [] (inr none) = absurd none
  in_last n x (y ∷ xs) (inl same) = inl (inl same)
  in_last n x (y ∷ xs) (inr at) = later (in_last n x xs at)
    where
      later : (n ∈ xs) ⊎ (n ≡ x) → (n ∈ (y ∷ xs)) ⊎ (n ≡ x)
      later (inl at) = inl (inr at)
      later (inr same) = inr same

  distinct_last : (x : ℕ) (xs : List ℕ) → AreDistinct xs → ¬ (x ∈ xs) → AreDistinct (xs ++ x ∷ [])
  distinct_last x [] are new = ((λ none. none), tt)
  distinct_last x (y ∷ xs) are new = ((λ at. in_rest (in_last y x xs at)), distinct_last x xs are.1 (λ at. new (inr at)))
    where
      in_rest : (y ∈ xs) ⊎ (y ≡ x) → ⊥
      in_rest (inl at) = are.0 at
      in_rest (inr same) = new (inl (sym same))

  -- the oldest message with some bytes is delivered
  after_delivery : (bytes : List ℕ) (n : ℕ) (r : Recording) → oldest (is_spelled bytes) r.run.mail ≡ Some n → AreSettled r.events r.run.mail → AreSettled (recorded (Deliver (n + 1)) r).events (recorded (Deliver (n + 1)) r).run.mail
  after_delivery bytes n r is old =
      let m = r.run.mail in
      let below : n < length m.sent = oldest_is_sent (is_spelled bytes) m n is in
      let place : n + 1 - 1 ≡ n = omega arith in
      let posts = applied_posts peers (Deliver (n + 1)) r.run (omega arith, omega (arith, below)) in
      let before : Mail = settled m (n + 1 - 1) in
      let before_is : IsMail before = is_mail_settled m (n + 1 - 1) old.mail in
      let waits : slice_index_or m.waits n false ≡ true = (and_parts _ _ (oldest_waits (is_spelled bytes) m n is)).0 in
      let same : deliveries (r.events ++ Deliver (n + 1) ∷ []) ≡ deliveries r.events ++ (n + 1) ∷ [] = deliveries_last r.events (Deliver (n + 1)) in
      let fresh : ¬ ((n + 1) ∈ deliveries r.events) = λ at. false≢true (sym (subst (λ (k : ℕ). slice_index_or m.waits k false ≡ false) place (old.settled (n + 1) at).flag) ∙ waits) in
      let now : IsSettled before (n + 1) = record { first = omega arith; sent = omega (arith, below); flag = settled_flag m.waits (n + 1 - 1) } in
      let older : (k : ℕ) → k ∈ deliveries r.events → IsSettled before k = λ k at. let s = old.settled k at in record { first = s.first; sent = s.sent; flag = flag_settled m.waits (n + 1 - 1) (k - 1) s.flag } in
      record {
        mail = rw posts.are (posted_mail posts.frames before before_is);
        settled = λ k at. rw posts.are (settled_all posts.frames before k before_is (either k (subst (λ (l : List ℕ). k ∈ l) same at) now older));
        distinct = rw same (distinct_last (n + 1) (deliveries r.events) old.distinct fresh);
      }
    where
      either : (k : ℕ) → k ∈ (deliveries r.events ++ (n + 1) ∷ []) → IsSettled (settled r.run.mail (n + 1 - 1)) (n + 1) → ((j : ℕ) → j ∈ deliveries r.events → IsSettled (settled r.run.mail (n + 1 - 1)) j) → IsSettled (settled r.run.mail (n + 1 - 1)) k
      either k at now older = by (in_last k (n + 1) (deliveries r.events) at)
        where
          by : (k ∈ deliveries r.events) ⊎ (k ≡ n + 1) → IsSettled (settled r.run.mail (n + 1 - 1)) k
          by (inl at) = older k at
          by (inr same) = subst (IsSettled (settled r.run.mail (n + 1 - 1))) (sym same) now

  after_number : (bytes : List ℕ) (o : Option ℕ) (r : Recording) → oldest (is_spelled bytes) r.run.mail ≡ o → AreSettled r.events r.run.mail → AreSettled (delivering o r).events (delivering o r).run.mail
  after_number bytes None r is old = old
  after_number bytes (Some n) r is old = after_delivery bytes n r is old

  after_look : (look : Option (List ℕ)) (r : Recording) → AreSettled r.events r.run.mail → AreSettled (heard look r).events (heard look r).run.mail
  after_look None r old = old
  after_look (Some bytes) r old = after_number bytes (oldest (is_spelled bytes) r.run.mail) r refl old

  after_looks : (looks : List (Option (List ℕ))) (r : Recording) → AreSettled r.events r.run.mail → AreSettled (heard_all looks r).events (heard_all looks r).run.mail
  after_looks [] r old = old
  after_looks (look ∷ more) r old = after_looks more (heard look r) (after_look look r old)

  after_lines : (lines : List ScriptLine) (looks : List (Option (List ℕ))) (r s : Recording) → AllMayBeLines peers lines → Follows lines looks r s → AreSettled r.events r.run.mail → AreSettled s.events s.run.mail
  after_lines [] looks r s may follows old = subst (λ (q : Recording). AreSettled q.events q.run.mail) (sym follows.1) old
  after_lines (Event event ∷ more) looks r s may follows old = after_lines more looks (recorded event r) s may.1 follows (after_event event r may.0 old)
  after_lines (Turn count ∷ more) looks r s may follows old = after_lines more (drop count looks) (heard_all (take count looks) r) s may.1 follows.1 (after_looks (take count looks) r old)

pub delivered_once : (peers : ℕ) (view : List ℕ) (lines : List ScriptLine) (looks : List (Option (List ℕ))) (r : Recording) → IsScript peers lines → Follows lines looks (nothing_recorded peers view) r → AreDistinct (deliveries r.events) × ((n : ℕ) → n ∈ deliveries r.events → (1 ≤ n) × (n ≤ length r.run.mail.sent))
delivered_once peers view lines looks r is follows =
    let first : AreSettled [] (nothing_recorded peers view).run.mail = record { mail = refl; settled = λ n at. absurd at; distinct = tt } in
    let last = after_lines peers lines looks (nothing_recorded peers view) r is.may follows first in
    (last.distinct, λ n at. let s = last.settled n at in (s.first, s.sent))
