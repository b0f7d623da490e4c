-- What a recorder makes of its looks.
use Rattle.std.proofs.Common.{◌≡◌, ◌≤◌, ◌<◌, ◌+◌, ◌-◌, ◌∙◌, ℕ, Bool, true, false, List, [], ◌∷◌, ◌++◌, length, drop, Option, None, Some, Vec, Result, Ok, Err, refl, sym, ap, subst, arith, append_assoc, append-nil, length-append, slice_get, inl, inr}
use Rattle.std.specs.Prelude.{IsErrAnd, if◌then◌else◌, map}
use Rattle.std.specs.Option.{option_map}
use Rattle.std.specs.declared.alloc.Global.{Global}
use Rattle.std.proofs.lemmas.Option.{none-some, same_Some}
use Rattle.ens_base.specs.Causes.{Rose}
use Rattle.ens_base.specs.Lists.{same_bytes}
use Rattle.ens_base.specs.declared.peer_words.ClusterWords.{ClusterWords}
use Rattle.ens_base.proofs.Lists.{bytes_same}
use Rattle.environment.specs.Links.{LinkCounts, Looks}
use Rattle.environment.specs.Told.{StaysTold, bytes_of}
use Rattle.environment.specs.declared.errors.LinkError.{LinkError}
use Rattle.environment.specs.declared.errors.LinkError.TheVariants as links
use Rattle.cluster.proofs.Following.{heard_more}
use Rattle.cluster.proofs.Recorded.{heard_none}
use Rattle.cluster.specs.Messages.{MayBeRecorded}
use Rattle.cluster.specs.Recordings.{Recording, delivering, found, frame_out, frames_of, heard, heard_all, recorded}
use Rattle.network.proofs.IndexNumbers.{first_waits, settled_waits}
use Rattle.network.specs.Indexes.{Indexes, is_spelled, queue_at, waiting_numbers}
use Rattle.network.specs.declared.index.FrameIndex.{FrameIndex}
use Rattle.world_model.specs.WorldSpec.{Account, Run}
use Rattle.network.proofs.MailLaws.{oldest_is_sent}
use Rattle.network.specs.Mail.{Mail, oldest, settled}
use Rattle.replay.specs.Worlds.{schedule_run}
use Rattle.schedule_text.specs.declared.event.ScheduleEvent.TheVariants.{Deliver}
use Rattle.peer_turns.proofs.Following.{grew_more}
use Rattle.peer_turns.specs.Going.{Grew}
use Rattle.wire_frames.specs.declared.frame.Frame.{Frame}
use Rattle.cluster.specs.Ends.{Handed, HandedPrefix, Looked, LookedUntil, frames_between}
use Rattle.cluster.specs.Recorders.{Hears, IsInStep, Reached, Records, StopsAt, mail_in}
use Rattle.cluster.specs.declared.recorder.Recorder.{Recorder}
use Rattle.cluster.specs.declared.stop.Stop.{Stop}
use Rattle.cluster.specs.declared.stop.Stop.TheVariants.{Link as OfLink}
use Rattle.cluster.proofs.Handing.{stays_grew}

-- ---- what was taken from the index

-- what is at the front of a list after a number was taken from it
rest_of_none : (xs : List ℕ) → slice_get xs 0 ≡ None → drop 1 xs ≡ xs
rest_of_none [] none = refl
rest_of_none (x ∷ xs) none = absurd (none-some x (sym none))

module _ (index after : FrameIndex) (bytes : List ℕ) (m : Mail) (has : Indexes index m) (rest : (other : List ℕ) → queue_at after other ≡ (if same_bytes bytes other then drop 1 (queue_at index other) else queue_at index other)) where
  first_is : slice_get (queue_at index bytes) 0 ≡ option_map (λ (n : ℕ). n + 1) (oldest (is_spelled bytes) m)
  first_is = ap (λ (l : List ℕ). slice_get l 0) (has bytes) ∙ first_waits bytes m

  rest_is : (other : List ℕ) → queue_at after other ≡ (if same_bytes bytes other then drop 1 (waiting_numbers other m) else waiting_numbers other m)
  rest_is other = rest other ∙ ap (λ (l : List ℕ). if same_bytes bytes other then drop 1 l else l) (has other)

  -- no message waits with these bytes
  none_waits : (o : Option ℕ) → option_map (λ (n : ℕ). n + 1) o ≡ None → o ≡ None
  none_waits None is = refl
  none_waits (Some n) is = absurd (none-some (n + 1) (sym is))

  pub taken_none : (taken : Option ℕ) → taken ≡ slice_get (queue_at index bytes) 0 → taken ≡ None → oldest (is_spelled bytes) m ≡ None
  taken_none taken is none = none_waits (oldest (is_spelled bytes) m) (sym first_is ∙ sym is ∙ none)

  pub index_stays : (taken : Option ℕ) → taken ≡ slice_get (queue_at index bytes) 0 → taken ≡ None → Indexes after m
  index_stays taken is none other = rest_is other ∙ by (same_bytes bytes other) refl
    where
      here : slice_get (waiting_numbers bytes m) 0 ≡ None
      here = ap (λ (l : List ℕ). slice_get l 0) (sym (has bytes)) ∙ sym is ∙ none

      by : (b : Bool) → same_bytes bytes other ≡ b → (if b then drop 1 (waiting_numbers other m) else waiting_numbers other m) ≡ waiting_numbers other m
      by true same = rest_of_none (waiting_numbers other m) (subst (λ (l : List ℕ). slice_get (waiting_numbers l m) 0 ≡ None) (bytes_same bytes other same) here)
      by false other_bytes = refl

  -- the oldest message waits with these bytes, and was taken
  pub record TakenOne (number : ℕ) : Type 0 where
    pub place : ℕ
    pub is : number ≡ place + 1
    pub oldest_is : oldest (is_spelled bytes) m ≡ Some place

  some_waits : (o : Option ℕ) (number : ℕ) → option_map (λ (n : ℕ). n + 1) o ≡ Some number → oldest (is_spelled bytes) m ≡ o → TakenOne number
  some_waits None number is o = absurd (none-some number is)
  some_waits (Some n) number is o = record { place = n; is = sym (same_Some (n + 1) number is); oldest_is = o }

  pub taken_some : (taken : Option ℕ) (number : ℕ) → taken ≡ slice_get (queue_at index bytes) 0 → taken ≡ Some number → TakenOne number
  taken_some taken number is some = some_waits (oldest (is_spelled bytes) m) number (sym first_is ∙ sym is ∙ some) refl

  pub index_settled : (number : ℕ) → TakenOne number → Indexes after (settled m (number - 1))
  index_settled number taken other =
      let place : taken.place ≡ number - 1 = omega (arith, taken.is) in
      rest_is other ∙ sym (settled_waits bytes other m taken.place taken.oldest_is) ∙ ap (λ (k : ℕ). waiting_numbers other (settled m k)) place

  pub may_deliver : (peers number : ℕ) → TakenOne number → MayBeRecorded peers m (Deliver number)
  may_deliver peers number taken =
      let below = oldest_is_sent (is_spelled bytes) m taken.place taken.oldest_is in
      (omega (arith, taken.is), omega (arith, taken.is, below))

-- a recorder whose index alone changed
pub still_in_step : (c d : Recorder) (m n : Mail) → d.world ≡ c.world → d.schedule ≡ c.schedule → Indexes d.index n → IsInStep c m → IsInStep d n
still_in_step c d m n world schedule index step = record {
  world = rw world (rw schedule step.world);
  many = rw world (rw schedule step.many);
  mail = rw schedule step.mail;
  index = index;
  within = rw schedule step.within;
  stand = rw schedule step.stand;
  few = rw schedule step.few;
}

-- ---- what was heard

heard_number : (look : Option (List ℕ)) (r : Recording) (n number : ℕ) → found look r.run ≡ Some n → number ≡ n + 1 → heard look r ≡ recorded (Deliver number) r
heard_number look r n number some is = ap (λ (k : Option ℕ). delivering k r) some ∙ ap (λ (k : ℕ). recorded (Deliver k) r) (sym is)

told_looks : (old new : Option (List (Option (List ℕ)))) (o : Option (Vec ℕ Global)) → Looks old new (Ok o) → Grew old new (bytes_of o ∷ [])
told_looks None new o looks = tt
told_looks (Some xs) new o looks = looks

kept_looks : (old new : Option (List (Option (List ℕ)))) (e : LinkError) → Looks old new (Err e) → Grew old new []
kept_looks None new e looks = tt
kept_looks (Some xs) new e looks = looks ∙ ap (λ (l : List (Option (List ℕ))). Some l) (sym (append-nil xs))

drop_whole : (xs : List Frame) → drop (length xs) xs ≡ []
drop_whole [] = refl
drop_whole (x ∷ xs) = drop_whole xs

-- nothing is sent between a recording and itself
none_between : (r : Recording) → frames_between r r ≡ []
none_between r = ap (λ (l : List Frame). map frame_out l) (drop_whole r.run.mail.sent)

module _ {L : Type 0} (sent : L → Option (List (ℕ × List ℕ))) (given : L → Option (List (Option (List ℕ)))) (faults : L → ℕ)
    (w : ClusterWords) (first : Account) (a : L) (looks : List (Option (List ℕ))) (r : Recording) where
  abbrev At : List (Option (List ℕ)) → Recording → Recorder → L → Account → Type 0
  At = Reached sent given faults w first a

  -- a look gave this, and nothing was recorded for it yet
  pub looked_on : (c d : Recorder) (link b : L) (mid : Account) (o : Option (Vec ℕ Global)) → At looks r c link mid → d.schedule ≡ c.schedule → Looks (given link) (given b) (Ok o) → StaysTold (sent link) (sent b) → LinkCounts {T = Option (Vec ℕ Global)} (faults link) (faults b) (Ok o)
      → At (looks ++ bytes_of o ∷ []) r d b mid
  looked_on c d link b mid o reached same gave stays counts = record {
    schedule = same ∙ reached.schedule;
    is = reached.is;
    took = reached.took;
    handed = record {
      looked = grew_more (given a) (given link) (given b) looks (bytes_of o ∷ []) reached.handed.looked (told_looks (given link) (given b) o gave);
      sends = subst (Grew (sent a) (sent b)) (append-nil (frames_of r.run)) (grew_more (sent a) (sent link) (sent b) (frames_of r.run) [] reached.handed.sends (stays_grew (sent link) (sent b) stays));
    };
    grown = reached.grown;
    later = omega (arith, reached.later, counts);
  }

  -- the look failed
  rose_on : (x y z : ℕ) → x ≤ y → Rose y z → Rose x z
  rose_on x y z le rose = omega (arith, le, rose)

  failed_cause : (link b : L) (e : LinkError) → faults a ≤ faults link → LinkCounts {T = Option (Vec ℕ Global)} (faults link) (faults b) (Err e) → e ≡ links.Failed → Rose (faults a) (faults b)
  failed_cause link b links.Failed later counts same = rose_on (faults a) (faults link) (faults b) later counts.1
  failed_cause link b links.Memory later counts same = absurd cc

  pub looks_failed : (c : Recorder) (link b : L) (mid : Account) (e : LinkError) → At looks r c link mid → Looks (given link) (given b) (Err e) → StaysTold (sent link) (sent b) → LinkCounts {T = Option (Vec ℕ Global)} (faults link) (faults b) (Err e)
      → StopsAt sent given faults w first a looks r (OfLink e) b mid
  looks_failed c link b mid e reached gave stays counts = record {
    prefix = frames_of r.run;
    rest = [];
    all = sym (append-nil (frames_of r.run));
    most = reached.grown;
    handed = record {
      looked = subst (Grew (given a) (given b)) (append-nil looks) (grew_more (given a) (given link) (given b) looks [] reached.handed.looked (kept_looks (given link) (given b) e gave));
      sends = subst (Grew (sent a) (sent b)) (append-nil (frames_of r.run)) (grew_more (sent a) (sent link) (sent b) (frames_of r.run) [] reached.handed.sends (stays_grew (sent link) (sent b) stays));
    };
    cause = failed_cause link b e reached.later counts;
  }

  -- what is looked for is looked for among the messages of the recorder
  pub found_in : (c : Recorder) (link : L) (mid : Account) → At looks r c link mid → (bytes given : List ℕ) → bytes ≡ given → found (Some given) r.run ≡ oldest (is_spelled bytes) (mail_in c)
  found_in c link mid reached bytes given same =
      ap (λ (v : Run). oldest (is_spelled given) v.mail) (reached.is ∙ sym (ap schedule_run reached.schedule)) ∙ ap (λ (b : List ℕ). oldest (is_spelled b) (mail_in c)) (sym same)

  -- a look was made, and nothing was handed to the link
  pub looked_once : (link b : L) (o : Option (Vec ℕ Global)) → Looks (given link) (given b) (Ok o) → StaysTold (sent link) (sent b) → Handed sent given (bytes_of o ∷ []) [] link b
  looked_once link b o gave stays = record { looked = told_looks (given link) (given b) o gave; sends = stays_grew (sent link) (sent b) stays }

  -- the look failed, and neither gave nor sent anything
  pub looked_none : (link b : L) (e : LinkError) → Looks (given link) (given b) (Err e) → StaysTold (sent link) (sent b) → Handed sent given [] [] link b
  looked_none link b e gave stays = record { looked = kept_looks (given link) (given b) e gave; sends = stays_grew (sent link) (sent b) stays }

  -- and then these messages were
  joined : (look : Option (List ℕ)) (frames : List (ℕ × List ℕ)) (x y z : L) → Handed sent given (look ∷ []) [] x y → Handed sent given [] frames y z → Handed sent given (look ∷ []) frames x z
  joined look frames x y z one then_sent = record {
    looked = grew_more (given x) (given y) (given z) (look ∷ []) [] one.looked then_sent.looked;
    sends = grew_more (sent x) (sent y) (sent z) [] frames one.sends then_sent.sends;
  }

  -- and then a prefix of these
  joined_prefix : (look : Option (List ℕ)) (frames : List (ℕ × List ℕ)) (x y z : L) → Handed sent given (look ∷ []) [] x y → HandedPrefix sent given [] frames y z → HandedPrefix sent given (look ∷ []) frames x z
  joined_prefix look frames x y z one prefix = (prefix.0, prefix.1, prefix.2, joined look prefix.0 x y z one prefix.3)

  looked_until : (xs ys : List (Option (List ℕ))) (q : Recording) (x y z : L) → Looked sent given xs q x y → LookedUntil sent given ys (heard_all xs q) y z → LookedUntil sent given (xs ++ ys) q x z
  looked_until [] ys q x y z one more = subst (λ (l : L). LookedUntil sent given ys q l z) one more
  looked_until (look ∷ xs) ys q x y z one more = inl (one.0, one.1, looked_until xs ys (heard look q) one.0 y z one.2 more)

  looked_more : (xs ys : List (Option (List ℕ))) (q : Recording) (x y z : L) → Looked sent given xs q x y → Looked sent given ys (heard_all xs q) y z → Looked sent given (xs ++ ys) q x z
  looked_more [] ys q x y z one more = subst (λ (l : L). Looked sent given ys q l z) one more
  looked_more (look ∷ xs) ys q x y z one more = (one.0, one.1, looked_more xs ys (heard look q) one.0 y z one.2 more)

  -- ---- the results of a look

  abbrev HearsOnce : L → Result (Unit {0}) Stop → Recorder → L → Account → Type 0
  HearsOnce = Hears sent given faults w first a 1 looks r

  -- the look itself failed
  hears_failed : (link : L) (c : Recorder) (b : L) (now : Account) (e : Stop) → StopsAt sent given faults w first a looks r e b now → Handed sent given [] [] link b → HearsOnce link (Err e) c b now
  hears_failed link c b now e stop none = ([], omega arith, subst (λ (l : List (Option (List ℕ))). StopsAt sent given faults w first a l r e b now) (sym (append-nil looks)) stop, none)

  pub hears_err : (link : L) (result : Result (Unit {0}) Stop) (G : Stop → Type 0) (e : Stop) (c : Recorder) (b : L) (now : Account) → IsErrAnd result G → ((d : Stop) → G d → d ≡ e) → StopsAt sent given faults w first a looks r e b now → Handed sent given [] [] link b
      → HearsOnce link result c b now
  hears_err link (Ok x) G e c b now and same stop none = absurd and
  hears_err link (Err d) G e c b now and same stop none = hears_failed link c b now d (subst (λ (x : Stop). StopsAt sent given faults w first a looks r x b now) (sym (same d and)) stop) none

  -- nothing was recorded for the look
  pub hears_nothing : (link : L) (look : Option (List ℕ)) (c : Recorder) (b : L) (now : Account) → found look r.run ≡ None → At (looks ++ look ∷ []) r c b now → Handed sent given (look ∷ []) [] link b → HearsOnce link (Ok tt) c b now
  hears_nothing link look c b now none reached one =
      let same : r ≡ heard look r = sym (heard_none look r none) in
      let handed : Handed sent given (look ∷ []) (frames_between r r) link b = subst (λ (fs : List (ℕ × List ℕ)). Handed sent given (look ∷ []) fs link b) (sym (none_between r)) one in (
        look ∷ [],
        refl,
        subst (λ (s : Recording). At (looks ++ look ∷ []) s c b now) same reached,
        (b, subst (λ (s : Recording). Handed sent given (look ∷ []) (frames_between r s) link b) same handed, refl),
      )

  -- a delivery was to be recorded for it
  pub hears_message : (link after : L) (look : Option (List ℕ)) (n number : ℕ) (result : Result (Unit {0}) Stop) (c : Recorder) (b : L) (now : Account) → found look r.run ≡ Some n → number ≡ n + 1 → Handed sent given (look ∷ []) [] link after
      → Records sent given faults w first a (looks ++ look ∷ []) r (Deliver number) after result c b now → HearsOnce link result c b now
  hears_message link after look n number (Ok x) c b now some is one records =
      let same : recorded (Deliver number) r ≡ heard look r = sym (heard_number look r n number some is) in
      let handed : Handed sent given (look ∷ []) (frames_between r (recorded (Deliver number) r)) link b = joined look (frames_between r (recorded (Deliver number) r)) link after b one records.1 in (
        look ∷ [],
        refl,
        subst (λ (s : Recording). At (looks ++ look ∷ []) s c b now) same records.0,
        (b, subst (λ (s : Recording). Handed sent given (look ∷ []) (frames_between r s) link b) same handed, refl),
      )
  hears_message link after look n number (Err e) c b now some is one stop =
      let same : recorded (Deliver number) r ≡ heard look r = sym (heard_number look r n number some is) in
      let prefix : HandedPrefix sent given (look ∷ []) (frames_between r (recorded (Deliver number) r)) link b = joined_prefix look (frames_between r (recorded (Deliver number) r)) link after b one stop.1 in (
        look ∷ [],
        omega arith,
        subst (λ (s : Recording). StopsAt sent given faults w first a (looks ++ look ∷ []) s e b now) same stop.0,
        inr (refl, subst (λ (s : Recording). HandedPrefix sent given (look ∷ []) (frames_between r s) link b) same prefix),
      )

  -- ---- several looks

  -- an error of one of them was passed on
  pub stops_hearing : (count : ℕ) (link : L) (result : Result (Unit {0}) Stop) (G : Stop → Type 0) (e : Stop) (c : Recorder) (b : L) (now : Account) → IsErrAnd result G → ((d : Stop) → G d → d ≡ e) → Hears sent given faults w first a count looks r link (Err e) c b now
      → Hears sent given faults w first a count looks r link result c b now
  stops_hearing count link (Ok x) G e c b now and same heard = absurd and
  stops_hearing count link (Err d) G e c b now and same heard = subst (λ (x : Stop). Hears sent given faults w first a count looks r link (Err x) c b now) (sym (same d and)) heard

  pub hears_none : (c : Recorder) (b : L) (now : Account) → At looks r c b now → Hears sent given faults w first a 0 looks r b (Ok tt) c b now
  hears_none c b now reached = ([], refl, subst (λ (l : List (Option (List ℕ))). At l r c b now) (sym (append-nil looks)) reached, refl)

  -- all of them were made
  pub hears_all : (count most : ℕ) (link : L) (c : Recorder) (b : L) (now : Account) → count ≡ most → Hears sent given faults w first a count looks r link (Ok tt) c b now → Hears sent given faults w first a most looks r link (Ok tt) c b now
  hears_all count most link c b now same heard = (heard.0, heard.1 ∙ same, heard.2, heard.3)

  -- after so many looks one more was made, of this many in all
  abbrev pub HearsUpTo : ℕ → ℕ → L → Result (Unit {0}) Stop → Recorder → L → Account → Type 0
  HearsUpTo count most start (Ok x) d b now = Hears sent given faults w first a (count + 1) looks r start (Ok tt) d b now
  HearsUpTo count most start (Err e) d b now = Hears sent given faults w first a most looks r start (Err e) d b now

  pub hears_more : (count most : ℕ) (start : L) (result : Result (Unit {0}) Stop) (c d : Recorder) (link b : L) (mid now : Account) → count < most → Hears sent given faults w first a count looks r start (Ok tt) c link mid
      → ((more : List (Option (List ℕ))) (s : Recording) → At (looks ++ more) s c link mid → Hears sent given faults w first a 1 (looks ++ more) s link result d b now)
      → HearsUpTo count most start result d b now
  hears_more count most start (Ok x) c d link b mid now below heard one =
      let next = one heard.0 (heard_all heard.0 r) heard.2 in (
        heard.0 ++ next.0,
        omega (arith, length-append heard.0 next.0, heard.1, next.1),
        subst (λ (l : List (Option (List ℕ))). At l (heard_all (heard.0 ++ next.0) r) d b now) (append_assoc looks heard.0 next.0)
            (subst (λ (s : Recording). At ((looks ++ heard.0) ++ next.0) s d b now) (sym (heard_more heard.0 next.0 r)) next.2),
        looked_more heard.0 next.0 r start link b heard.3 next.3,
      )
  hears_more count most start (Err e) c d link b mid now below heard one =
      let next = one heard.0 (heard_all heard.0 r) heard.2 in (
        heard.0 ++ next.0,
        omega (arith, length-append heard.0 next.0, heard.1, next.1, below),
        subst (λ (l : List (Option (List ℕ))). StopsAt sent given faults w first a l (heard_all (heard.0 ++ next.0) r) e b now) (append_assoc looks heard.0 next.0)
            (subst (λ (s : Recording). StopsAt sent given faults w first a ((looks ++ heard.0) ++ next.0) s e b now) (sym (heard_more heard.0 next.0 r)) next.2),
        looked_until heard.0 next.0 r start link b heard.3 next.3,
      )
