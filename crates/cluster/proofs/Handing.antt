-- Messages that are handed to a link one after another, and put into an index.
use Rattle.std.specs.Prelude.{IsErrAnd, Option, None, Some, map, if◌then◌else◌}
use Rattle.std.proofs.Common.{◌≡◌, ◌≤◌, ◌<◌, ◌∙◌, ◌+◌, ap, sym, subst, refl, ◌-◌, ◌^◌, ℕ, zero, suc, List, [], ◌∷◌, ◌++◌, length, take, drop, get_or, Result, Ok, Err, append_assoc, append-nil, arith, length-drop}
use Rattle.std.proofs.lemmas.List.{map-append, length-append, take_all}
use Rattle.ens_base.specs.Lists.{same_bytes}
use Rattle.ens_base.proofs.Causes.{rose_later}
use Rattle.environment.specs.Links.{LinkCounts, Sends}
use Rattle.environment.specs.Told.{StaysTold}
use Rattle.environment.specs.declared.errors.LinkError.{LinkError}
use Rattle.environment.specs.declared.errors.LinkError.TheVariants as links
use Rattle.cluster.proofs.Mails.{posted_mail, posted_more, sent_after}
use Rattle.cluster.specs.Recordings.{frame_out}
use Rattle.network.proofs.IndexNumbers.{posted_waits}
use Rattle.network.specs.Indexes.{Indexes, queue_at, waiting_numbers}
use Rattle.network.specs.declared.index.FrameIndex.{FrameIndex}
use Rattle.network.specs.Mail.{most_messages}
use Rattle.peer_turns.proofs.Following.{grew_more, grew_none}
use Rattle.peer_turns.specs.Going.{Grew}
use Rattle.wire_frames.specs.Frames.{frame_spelling}
use Rattle.wire_frames.specs.declared.frame.Frame.{Frame}
use Rattle.world_model.specs.WorldSpec.{posted_all}
use Rattle.cluster.specs.Sending.{AddsTo, HandedAll, HandedSome, HandsOn}

abbrev Sent : Type 0
Sent = Option (List (ℕ × List ℕ))

pub stays_grew : {A : Type 0} (old new : Option (List A)) → StaysTold old new → Grew old new []
stays_grew None new stays = tt
stays_grew (Some xs) new stays = stays ∙ ap (λ (l : List _). Some l) (sym (append-nil xs))

handed_grew : {T : Type 0} (old new : Sent) (to : ℕ) (bytes : List ℕ) (x : T) → Sends old new to bytes (Ok x) → Grew old new ((to, bytes) ∷ [])
handed_grew None new to bytes x sends = tt
handed_grew (Some xs) new to bytes x sends = sends

kept_grew : (T : Type 0) (old new : Sent) (to : ℕ) (bytes : List ℕ) (e : LinkError) → Sends {T = T} old new to bytes (Err e) → Grew old new []
kept_grew T None new to bytes e sends = tt
kept_grew T (Some xs) new to bytes e sends = sends ∙ ap (λ (l : List _). Some l) (sym (append-nil xs))

-- ---- an index

-- the number of a message that is sent comes behind those of its bytes
pub adds_one : (frame : Frame) (bytes : List ℕ) (number : ℕ) (old new : FrameIndex) → bytes ≡ frame_spelling frame
    → ((other : List ℕ) → queue_at new other ≡ (if same_bytes bytes other then queue_at old other ++ number ∷ [] else queue_at old other)) → AddsTo (frame ∷ []) number old new
adds_one frame bytes number old new spelled pushed m is many has other =
    pushed other ∙ ap (λ (b : List ℕ). if same_bytes b other then queue_at old other ++ number ∷ [] else queue_at old other) spelled
    ∙ ap (λ (l : List ℕ). if same_bytes (frame_spelling frame) other then l ++ number ∷ [] else l) (has other)
    ∙ ap (λ (n : ℕ). if same_bytes (frame_spelling frame) other then waiting_numbers other m ++ n ∷ [] else waiting_numbers other m) (sym many)
    ∙ sym (posted_waits other m frame is)

adds_none : (number : ℕ) (index : FrameIndex) → AddsTo [] number index index
adds_none number index m is many has = has

adds_on : (xs ys : List Frame) (number : ℕ) (a b c : FrameIndex) → AddsTo xs number a b → AddsTo ys (number + length xs) b c → AddsTo (xs ++ ys) number a c
adds_on xs ys number a b c first second m is many has =
    let more : length (posted_all xs m).sent + 1 ≡ number + length xs = omega (arith, many, ap (λ (l : List Frame). length l) (sent_after xs m), length-append m.sent xs) in
    subst (Indexes c) (sym (posted_more xs ys m)) (second (posted_all xs m) (posted_mail xs m is) more (first m is many has))

-- ---- the messages of a slice, up to one of them

next_taken : (i : ℕ) (frames : List Frame) (f : Frame) → i < length frames → take (i + 1) frames ≡ take i frames ++ get_or frames i f ∷ []
next_taken i [] f below = absurd (omega (arith, below))
next_taken zero (first ∷ more) f below = refl
next_taken (suc i) (first ∷ more) f below =
    let next : suc i + 1 ≡ suc (i + 1) = omega arith in
    ap (λ (k : ℕ). take k (first ∷ more)) next ∙ ap (λ (l : List Frame). first ∷ l) (next_taken i more f (omega (arith, below)))

parted : (i : ℕ) (frames : List Frame) (f : Frame) → i < length frames → frames ≡ take i frames ++ (get_or frames i f ∷ drop (i + 1) frames)
parted i [] f below = absurd (omega (arith, below))
parted zero (first ∷ more) f below = refl
parted (suc i) (first ∷ more) f below =
    let next : suc i + 1 ≡ suc (i + 1) = omega arith in
    ap (λ (l : List Frame). first ∷ l) (parted i more f (omega (arith, below))) ∙ ap (λ (k : ℕ). first ∷ (take i more ++ (get_or more i f ∷ drop k (first ∷ more)))) (sym next)

taken_length : (i : ℕ) (frames : List Frame) → i ≤ length frames → length (take i frames) ≡ i
taken_length zero frames below = refl
taken_length (suc i) [] below = absurd (omega (arith, below))
taken_length (suc i) (f ∷ frames) below = ap (λ (n : ℕ). suc n) (taken_length i frames (omega (arith, below)))

pub all_taken : (i : ℕ) (frames : List Frame) → length frames ≤ i → take i frames ≡ frames
all_taken i [] below = by i
  where
    by : (i : ℕ) → take {A = Frame} i [] ≡ []
    by zero = refl
    by (suc i) = refl
all_taken zero (f ∷ frames) below = absurd (omega (arith, below))
all_taken (suc i) (f ∷ frames) below = ap (λ (l : List Frame). f ∷ l) (all_taken i frames (omega (arith, below)))

module _ {L : Type 0} (sent : L → Option (List (ℕ × List ℕ))) (given : L → Option (List (Option (List ℕ)))) (faults : L → ℕ) where
  -- the message was not spelled, or not handed over
  pub unspelled : (frame : Frame) (a : L) → HandedSome sent given faults links.Memory (frame ∷ []) a a
  unspelled frame a = record { prefix = []; rest = frame ∷ []; all = refl; sends = grew_none (sent a); looked = grew_none (given a); later = omega arith; cause = λ same. absurd cc }

  pub unsent : (T : Type 0) (frame : Frame) (bytes : List ℕ) (a b : L) (e : LinkError) → Sends {T = T} (sent a) (sent b) frame.to bytes (Err e) → StaysTold (given a) (given b) → LinkCounts {T = T} (faults a) (faults b) (Err e)
      → HandedSome sent given faults e (frame ∷ []) a b
  unsent T frame bytes a b links.Failed sends stays counts = record { prefix = []; rest = frame ∷ []; all = refl; sends = kept_grew T (sent a) (sent b) frame.to bytes links.Failed sends; looked = stays_grew (given a) (given b) stays; later = counts.0; cause = λ same. counts.1 }
  unsent T frame bytes a b links.Memory sends stays counts = record {
    prefix = [];
    rest = frame ∷ [];
    all = refl;
    sends = kept_grew T (sent a) (sent b) frame.to bytes links.Memory sends;
    looked = stays_grew (given a) (given b) stays;
    later = omega (arith, counts);
    cause = λ same. absurd cc;
  }

  -- it was handed over, and memory ran out for its number
  pub unindexed : {T : Type 0} (frame : Frame) (bytes : List ℕ) (a b : L) (x : T) → bytes ≡ frame_spelling frame → Sends (sent a) (sent b) frame.to bytes (Ok x) → StaysTold (given a) (given b) → LinkCounts {T = T} (faults a) (faults b) (Ok x)
      → HandedSome sent given faults links.Memory (frame ∷ []) a b
  unindexed frame bytes a b x spelled sends stays counts = record {
    prefix = frame ∷ [];
    rest = [];
    all = refl;
    sends = subst (λ (l : List ℕ). Grew (sent a) (sent b) ((frame.to, l) ∷ [])) spelled (handed_grew (sent a) (sent b) frame.to bytes x sends);
    looked = stays_grew (given a) (given b) stays;
    later = counts;
    cause = λ same. absurd cc;
  }

  -- it was handed over, and its number put into the index
  pub handed_one : {T : Type 0} (frame : Frame) (bytes own : List ℕ) (number : ℕ) (a b : L) (old new : FrameIndex) (x : T) → bytes ≡ frame_spelling frame → own ≡ frame_spelling frame
      → Sends (sent a) (sent b) frame.to bytes (Ok x) → StaysTold (given a) (given b) → LinkCounts {T = T} (faults a) (faults b) (Ok x)
      → ((other : List ℕ) → queue_at new other ≡ (if same_bytes own other then queue_at old other ++ number ∷ [] else queue_at old other)) → HandedAll sent given faults (frame ∷ []) number a old new b
  handed_one frame bytes own number a b old new x spelled owned sends stays counts pushed = record {
    sends = subst (λ (l : List ℕ). Grew (sent a) (sent b) ((frame.to, l) ∷ [])) spelled (handed_grew (sent a) (sent b) frame.to bytes x sends);
    looked = stays_grew (given a) (given b) stays;
    later = counts;
    adds = adds_one frame own number old new owned pushed;
  }

  -- ---- one after another

  pub handed_none : (number : ℕ) (index : FrameIndex) (a : L) → HandedAll sent given faults [] number a index index a
  handed_none number index a = record { sends = grew_none (sent a); looked = grew_none (given a); later = omega arith; adds = adds_none number index }

  both_none : (a b c : L) → Grew (given a) (given b) [] → Grew (given b) (given c) [] → Grew (given a) (given c) []
  both_none a b c first second = grew_more (given a) (given b) (given c) [] [] first second

  both_sent : (xs ys : List Frame) (a b c : L) → Grew (sent a) (sent b) (map frame_out xs) → Grew (sent b) (sent c) (map frame_out ys) → Grew (sent a) (sent c) (map frame_out (xs ++ ys))
  both_sent xs ys a b c first second = subst (Grew (sent a) (sent c)) (sym (map-append frame_out xs ys)) (grew_more (sent a) (sent b) (sent c) (map frame_out xs) (map frame_out ys) first second)

  handed_on : (xs ys : List Frame) (number : ℕ) (a b c : L) (i j k : FrameIndex) → HandedAll sent given faults xs number a i j b → HandedAll sent given faults ys (number + length xs) b j k c → HandedAll sent given faults (xs ++ ys) number a i k c
  handed_on xs ys number a b c i j k first second = record {
    sends = both_sent xs ys a b c first.sends second.sends;
    looked = both_none a b c first.looked second.looked;
    later = omega (arith, first.later, second.later);
    adds = adds_on xs ys number i j k first.adds second.adds;
  }

  broke_on : (xs ys more : List Frame) (number : ℕ) (a b c : L) (i j : FrameIndex) (e : LinkError) → HandedAll sent given faults xs number a i j b → HandedSome sent given faults e ys b c → HandedSome sent given faults e (xs ++ (ys ++ more)) a c
  broke_on xs ys more number a b c i j e first second = record {
    prefix = xs ++ second.prefix;
    rest = second.rest ++ more;
    all = ap (λ (l : List Frame). xs ++ (l ++ more)) second.all ∙ ap (λ (l : List Frame). xs ++ l) (append_assoc second.prefix second.rest more) ∙ sym (append_assoc xs second.prefix (second.rest ++ more));
    sends = both_sent xs second.prefix a b c first.sends second.sends;
    looked = both_none a b c first.looked second.looked;
    later = omega (arith, first.later, second.later);
    cause = λ same. rose_later (faults a) (faults b) (faults c) first.later (second.cause same);
  }

  -- one more message of a slice was handed over
  pub handed_next : (n : ℕ) (frames : List Frame) (f : Frame) (number : ℕ) (a b c : L) (i j k : FrameIndex) → n < length frames → f ≡ get_or frames n f → HandedAll sent given faults (take n frames) number a i j b
      → HandedAll sent given faults (f ∷ []) (number + n) b j k c → HandedAll sent given faults (take (n + 1) frames) number a i k c
  handed_next n frames f number a b c i j k below is first second =
      let many : number + n ≡ number + length (take n frames) = ap (λ (m : ℕ). number + m) (sym (taken_length n frames (omega (arith, below)))) in
      subst (λ (l : List Frame). HandedAll sent given faults l number a i k c) (ap (λ (x : Frame). take n frames ++ (x ∷ [])) is ∙ sym (next_taken n frames f below))
      (handed_on (take n frames) (f ∷ []) number a b c i j k first (subst (λ (m : ℕ). HandedAll sent given faults (f ∷ []) m b j k c) many second))

  -- or it was not
  pub broke_next : (n : ℕ) (frames : List Frame) (f : Frame) (number : ℕ) (a b c : L) (i j : FrameIndex) (e : LinkError) → n < length frames → f ≡ get_or frames n f → HandedAll sent given faults (take n frames) number a i j b
      → HandedSome sent given faults e (f ∷ []) b c → HandedSome sent given faults e frames a c
  broke_next n frames f number a b c i j e below is first second =
      subst (λ (l : List Frame). HandedSome sent given faults e l a c) (ap (λ (x : Frame). take n frames ++ (x ∷ drop (n + 1) frames)) is ∙ sym (parted n frames f below))
      (broke_on (take n frames) (f ∷ []) (drop (n + 1) frames) number a b c i j e first second)

  -- `?` returns the error that it met
  pub passed_on : (frames : List Frame) (number : ℕ) (a b : L) (old new : FrameIndex) (e : LinkError) (r : Result (Unit {0}) LinkError) (G : LinkError → Type 0) → IsErrAnd r G → ((d : LinkError) → G d → d ≡ e) → HandedSome sent given faults e frames a b → HandsOn sent given faults frames number a old r new b
  passed_on frames number a b old new e (Ok x) G and same broke = absurd and
  passed_on frames number a b old new e (Err d) G and same broke = subst (λ (x : LinkError). HandedSome sent given faults x frames a b) (sym (same d and)) broke

-- ---- the messages of a slice, behind some of them

rest_whole : (before : ℕ) (sent : List Frame) → take (length sent - before) (drop before sent) ≡ drop before sent
rest_whole before sent = take_all _ _ (omega (arith, length-drop {A = Frame}))

pub rest_is : (before : ℕ) (sent all : List Frame) → sent ≡ all → take (length sent - before) (drop before sent) ≡ drop before all
rest_is before sent all same = rest_whole before sent ∙ ap (λ (l : List Frame). drop before l) same

pub rest_few : (before : ℕ) (sent all : List Frame) → sent ≡ all → before ≤ length all → length all ≤ most_messages → before + length (take (length sent - before) (drop before sent)) < 2 ^ 64
rest_few before sent all same below few =
    omega (arith, ap (λ (l : List Frame). length l) (rest_is before sent all same), length-drop before all, below, few)
