-- The turns of a line, one after another.
use Rattle.std.proofs.Common.{◌≡◌, ◌<◌, ◌+◌, ◌-◌, ◌∙◌, ℕ, zero, suc, Option, None, Some, List, [], ◌++◌, Result, Ok, Err, refl, sym, ap, subst, arith, append-nil, add-one}
use Rattle.std.specs.Prelude.{Bool, IfErr}
use Rattle.network.specs.Mail.{is_among, oldest, most_messages}
use Rattle.peer_state.specs.declared.event.Event.TheVariants as events
use Rattle.schedule_text.specs.declared.event.ScheduleEvent.{ScheduleEvent}
use Rattle.schedule_text.specs.declared.event.ScheduleEvent.TheVariants.{Tick, Calm, CalmAmong}
use Rattle.world_spec.proofs.Prefixes.{effect_prefix, in_front_none, onward, passed_prefix, stepped_prefix}
use Rattle.world_spec.proofs.Growth.{IsFurther, effect_grows, further_later, further_same, passed_grows, stepped_grows}
use Rattle.world_spec.proofs.Taken.{hashed_none}
use Rattle.world_spec.specs.Held.{Account, HasHashed}
use Rattle.world_spec.specs.Lines.{effect, everyone, set_of}
use Rattle.world_spec.specs.Messages.{IsPastMessages, IsWithinMessages}
use Rattle.world_spec.specs.Runs.{Run, calmed, delivered, delivered_if, going_on, in_front, ticked, unhashed}
use Rattle.world_model.specs.Refusals.{IsCutOff}
use Rattle.world_model.specs.Turns.{StopsAmong, StopsInTurn, StopsTurn, after_oldest, after_tick, after_turns, turn, turns_of}
use Rattle.world_model.specs.Worlds.{Adds, Reaches, run_of}
use Rattle.world_model.specs.declared.error.WorldError.{WorldError}
use Rattle.world_model.specs.declared.error.WorldError.TheVariants.{Clash, BookFull, MessageLimit, Memory}
use Rattle.world_model.specs.declared.world.World.{World}

-- ## So many turns

pub no_turns : (one : Run → Run) (w : Run) → after_turns 0 one w ≡ w
unfolding after_turns
no_turns one w = refl

one_turn : (one : Run → Run) (w : Run) → after_turns 1 one w ≡ one w
unfolding after_turns
one_turn one w = refl

last_turn : (n : ℕ) (one : Run → Run) (w : Run) → after_turns (suc n) one w ≡ one (after_turns n one w)
unfolding after_turns
last_turn n one w = refl

first_turn : (n : ℕ) (one : Run → Run) (w : Run) → after_turns n one (one w) ≡ one (after_turns n one w)
unfolding after_turns
first_turn zero one w = refl
first_turn (suc n) one w = ap one (first_turn n one w)

-- ## A line is its turns

ticks_are_turns : (peer n : ℕ) (w : Run) → after_turns n (after_tick peer) w ≡ ticked peer n w
unfolding after_turns ticked
ticks_are_turns peer zero w = refl
ticks_are_turns peer (suc n) w = sym (first_turn n (after_tick peer) w) ∙ ticks_are_turns peer n (after_tick peer w)

-- a calm in which no message waits
still : (peers : List Bool) (n : ℕ) (w : Run) → oldest (is_among peers) w.mail ≡ None → after_turns n (after_oldest peers) w ≡ w
unfolding after_turns
still peers zero w none = refl
still peers (suc n) w none = ap (after_oldest peers) (still peers n w none) ∙ ap (λ (k : Option ℕ). delivered_if k w) none

calms_are_turns : (peers : List Bool) (n : ℕ) (w : Run) → after_turns n (after_oldest peers) w ≡ calmed peers n w
unfolding after_turns calmed
calms_are_turns peers zero w = refl
calms_are_turns peers (suc n) w = going (oldest (is_among peers) w.mail) refl (λ v. calms_are_turns peers n v)
  where
    going : (k : Option ℕ) → oldest (is_among peers) w.mail ≡ k → ((v : Run) → after_turns n (after_oldest peers) v ≡ calmed peers n v)
        → after_oldest peers (after_turns n (after_oldest peers) w) ≡ going_on k (λ v. calmed peers n v) w
    going None is later = ap (after_oldest peers) (still peers n w is) ∙ ap (λ (o : Option ℕ). delivered_if o w) is
    going (Some k) is later = sym (first_turn n (after_oldest peers) w) ∙ ap (λ (o : Option ℕ). after_turns n (after_oldest peers) (delivered_if o w)) is ∙ later (delivered k w)

pub line_is_turns : (event : ScheduleEvent) (w : Run) → after_turns (turns_of event) (turn event) w ≡ effect event w
line_is_turns (Tick peer ticks) w = ticks_are_turns peer ticks w
line_is_turns Calm w = calms_are_turns everyone most_messages w
line_is_turns (CalmAmong members) w = calms_are_turns (set_of members) most_messages w
line_is_turns other w = one_turn (effect other) w

-- ## The strings that were hashed before

-- a turn is the same whatever was hashed before
abbrev pub IsAlike : (Run → Run) → Type 0
IsAlike one = (xs : List (List ℕ)) (w : Run) → one (in_front xs w) ≡ in_front xs (one w)

pub tick_alike : (peer : ℕ) → IsAlike (after_tick peer)
tick_alike peer xs w = stepped_prefix xs peer events.Tick w

pub oldest_alike : (peers : List Bool) → IsAlike (after_oldest peers)
oldest_alike peers xs w = passed_prefix xs (oldest (is_among peers) w.mail) w

pub turn_alike : (event : ScheduleEvent) → IsAlike (turn event)
turn_alike (Tick peer ticks) xs w = tick_alike peer xs w
turn_alike Calm xs w = oldest_alike everyone xs w
turn_alike (CalmAmong members) xs w = oldest_alike (set_of members) xs w
turn_alike other xs w = effect_prefix other xs w

pub turns_alike : (n : ℕ) (one : Run → Run) → IsAlike one → IsAlike (after_turns n one)
unfolding after_turns
turns_alike zero one alike xs w = refl
turns_alike (suc n) one alike xs w = ap one (turns_alike n one alike xs w) ∙ alike xs (after_turns n one w)

-- ## Turns remove nothing

pub turn_grows : (event : ScheduleEvent) (w : Run) → IsFurther w (turn event w)
turn_grows (Tick peer ticks) w = stepped_grows peer events.Tick w
turn_grows Calm w = passed_grows (oldest (is_among everyone) w.mail) w
turn_grows (CalmAmong members) w = passed_grows (oldest (is_among (set_of members)) w.mail) w
turn_grows other w = effect_grows other w

-- more turns go further
more_grow : (event : ScheduleEvent) (w : Run) (n more : ℕ) → IsFurther (after_turns n (turn event) w) (after_turns (n + more) (turn event) w)
more_grow event w n zero = subst (λ (k : ℕ). IsFurther (after_turns n (turn event) w) (after_turns k (turn event) w)) (none n) (further_same (after_turns n (turn event) w))
  where
    none : (n : ℕ) → n ≡ n + 0
    none n = omega arith
more_grow event w n (suc more) =
    subst (λ (k : ℕ). IsFurther (after_turns n (turn event) w) (after_turns k (turn event) w)) (next n more)
    (further_later (after_turns n (turn event) w) (after_turns (n + more) (turn event) w) (after_turns (suc (n + more)) (turn event) w) (more_grow event w n more)
    (subst (λ (v : Run). IsFurther (after_turns (n + more) (turn event) w) v) (sym (last_turn (n + more) (turn event) w)) (turn_grows event (after_turns (n + more) (turn event) w))))
  where
    next : (n more : ℕ) → suc (n + more) ≡ n + suc more
    next n more = omega arith

-- a line goes further than each of its turns
pub line_further : (event : ScheduleEvent) (w : Run) (n : ℕ) → n < turns_of event → IsFurther (turn event (after_turns n (turn event) w)) (effect event w)
line_further event w n few =
    subst (λ (v : Run). IsFurther v (effect event w)) (last_turn n (turn event) w)
    (subst (λ (v : Run). IsFurther (after_turns (suc n) (turn event) w) v) (ap (λ (k : ℕ). after_turns k (turn event) w) (rest n (turns_of event) few) ∙ line_is_turns event w)
    (more_grow event w (suc n) (turns_of event - suc n)))
  where
    rest : (n m : ℕ) → n < m → suc n + (m - suc n) ≡ m
    rest n m few = omega (arith, few)

-- ## A world that takes the turns one after another

-- one more turn, after these strings
pub turns_next : (n : ℕ) (one : Run → Run) → IsAlike one → (first now next : Run) (strings : List (List ℕ)) → in_front strings now ≡ after_turns n one first → next ≡ unhashed (one now) → in_front (strings ++ (one now).hashed) next ≡ after_turns (n + 1) one first
turns_next n one alike first now next strings old did =
    onward (λ (w : Run). w) (λ xs w. refl) strings (one now) next (after_turns (n + 1) one first)
    (sym (alike strings now) ∙ ap one old ∙ sym (last_turn n one first) ∙ ap (λ (k : ℕ). after_turns k one first) (sym (add-one n))) did

-- an error stopped the next turn
module _ (turns n : ℕ) (one : Run → Run) (first : Run) (strings : List (List ℕ)) (w : World) (before mid after : Account) (few : n < turns)
    (so_far : in_front strings (run_of w) ≡ after_turns n one first) (has : HasHashed strings before mid) where
  in_turn : (e : WorldError) → StopsTurn mid (one (run_of w)) after e → StopsInTurn turns one first before after e
  in_turn e stops = record {
    done = n;
    few = few;
    mid = mid;
    within = subst IsWithinMessages so_far w.within;
    has = subst (λ (v : Run). HasHashed v.hashed before mid) so_far (subst (λ (h : List (List ℕ)). HasHashed h before mid) (sym (append-nil strings)) has);
    stops = subst (λ (v : Run). StopsTurn mid (one (unhashed v)) after e) so_far stops;
  }

  pub stops_among : (e : WorldError) → StopsTurn mid (one (run_of w)) after e → StopsAmong turns one first before after e
  stops_among MessageLimit stops = in_turn MessageLimit stops
  stops_among Memory stops = tt
  stops_among (Clash kept new) stops = in_turn (Clash kept new) stops
  stops_among (BookFull bytes) stops = in_turn (BookFull bytes) stops

-- an error stopped the only turn
pub stops_only : {T : Type 0} (one : Run → Run) (w : World) (first now : Account) (r : Result T WorldError) → IfErr r (StopsTurn first (one (run_of w)) now) → IfErr r (StopsAmong 1 one (run_of w) first now)
stops_only one w first now (Ok x) stops = tt
stops_only one w first now (Err e) stops = stops_among 1 0 one (run_of w) [] w first first now (omega arith) (in_front_none (run_of w) ∙ sym (no_turns one (run_of w))) (hashed_none first) e stops

-- ## A turn that was refused

-- the hasher rejected a string, or memory ran out
pub cut_off_stops : (first : Account) (due : Run) (now : Account) (e : WorldError) → IsCutOff due.hashed first now e → StopsTurn first due now e
cut_off_stops first due now MessageLimit cut = absurd cut
cut_off_stops first due now Memory cut = tt
cut_off_stops first due now (Clash kept new) cut = cut
cut_off_stops first due now (BookFull bytes) cut = cut

-- its messages were sent after its strings were hashed
pub adds_stops : {T : Type 0} (first : Account) (due : Run) (now : Account) (r : Result T WorldError) (reached added : Run) → Adds added r reached → added ≡ unhashed due → HasHashed due.hashed first now → IfErr r (StopsTurn first due now)
adds_stops first due now (Ok x) reached added adds same has = tt
adds_stops first due now (Err MessageLimit) reached added adds same has = (subst IsPastMessages same adds, has)
adds_stops first due now (Err Memory) reached added adds same has = tt
adds_stops first due now (Err (Clash kept new)) reached added adds same has = absurd adds
adds_stops first due now (Err (BookFull bytes)) reached added adds same has = absurd adds

-- a turn that sends nothing is not refused at the limit
pub unsent_stops : {T : Type 0} (first : Account) (due : Run) (now : Account) (r : Result T WorldError) (reached : Run) → IsWithinMessages due → Reaches first due r reached now → IfErr r (StopsTurn first due now)
unsent_stops first due now (Ok x) reached within reaches = tt
unsent_stops first due now (Err MessageLimit) reached within reaches = absurd (omega (arith, within, reaches))
unsent_stops first due now (Err Memory) reached within reaches = tt
unsent_stops first due now (Err (Clash kept new)) reached within reaches = reaches
unsent_stops first due now (Err (BookFull bytes)) reached within reaches = reaches

-- a turn for one run is a turn for an equal run
pub stops_same : {T : Type 0} (first : Account) (due same : Run) (now : Account) (r : Result T WorldError) → IfErr r (StopsTurn first due now) → due ≡ same → IfErr r (StopsTurn first same now)
stops_same first due same now r stops is = subst (λ (d : Run). IfErr r (StopsTurn first d now)) is stops

-- a line that sends nothing and needs no hasher is refused only if memory runs out
pub quiet_stops : {T : Type 0} (turns : ℕ) (one : Run → Run) (w : World) (first now : Account) (r : Result T WorldError) (due reached : Run) → due.mail ≡ (run_of w).mail → Adds due r reached → IfErr r (StopsAmong turns one (run_of w) first now)
quiet_stops turns one w first now (Ok x) due reached unsent adds = tt
quiet_stops turns one w first now (Err MessageLimit) due reached unsent adds =
    let within : IsWithinMessages due = rw unsent w.within in
    absurd (omega (arith, within, adds))
quiet_stops turns one w first now (Err Memory) due reached unsent adds = tt
quiet_stops turns one w first now (Err (Clash kept new)) due reached unsent adds = absurd adds
quiet_stops turns one w first now (Err (BookFull bytes)) due reached unsent adds = absurd adds
