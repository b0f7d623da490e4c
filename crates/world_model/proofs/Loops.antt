-- Ticks and deliveries, one after another.
use Rattle.std.proofs.Common.{◌≡◌, ◌<◌, ◌≤◌, ◌+◌, ◌-◌, ℕ, Option, Some, None, List, [], ◌++◌, refl, ap, subst, ◌∙◌, sym, arith}
use Rattle.std.specs.Prelude.{Bool, true, false, nat_lt, slice_get}
use Rattle.network.specs.Mail.{settled, is_among, oldest, most_messages}
use Rattle.peer_state.specs.declared.event.Event.TheVariants as events
use Rattle.wire_frames.specs.declared.frame.Frame.{Frame}
use Rattle.wire_frames.specs.declared.message.Message.{Message}
use Rattle.world_spec.proofs.Taken.{hashed_none, hashed_all}
use Rattle.world_spec.specs.Held.{Account, HasHashed}
use Rattle.world_spec.proofs.Prefixes.{in_front_none, onward, ticked_prefix, calmed_prefix}
use Rattle.world_spec.proofs.Growth.{IsFurther, further_prefix, ticked_grows, calmed_grows}
use Rattle.world_spec.proofs.Turns.{no_tick, one_tick, no_turn, one_turn, last_turn}
use Rattle.world_spec.specs.Runs.{Run, in_front, unhashed, stepped, ticked, without_waiting, delivered, delivered_if, calmed}
use Rattle.world_model.specs.Turns.{after_oldest, after_tick, after_turns}
use Rattle.world_model.specs.Worlds.{run_of, Begins}
use Rattle.world_model.specs.declared.world.World.{World}
use Rattle.world_model.proofs.Begins.{begins_same, begins_later}
use Rattle.world_model.proofs.Turning.{no_turns, oldest_alike, tick_alike, turns_next}

pub minus_zero : (n : ℕ) → n - 0 ≡ n
minus_zero n = omega arith

-- some ticks have been taken, in which the hasher took these strings, and the rest lead from here to
-- the same run
pub record Ticking (peer ticks i : ℕ) (first now : World) (before after : Account) : Type 0 where
  pub strings : List (List ℕ)
  pub rest : in_front strings (ticked peer (ticks - i) (run_of now)) ≡ ticked peer ticks (run_of first)
  pub so_far : in_front strings (run_of now) ≡ after_turns i (after_tick peer) (run_of first)
  pub has : HasHashed strings before after
  pub begins : Begins first now

pub ticking_first : (peer ticks : ℕ) (w : World) (before : Account) → Ticking peer ticks 0 w w before before
ticking_first peer ticks w before = record {
  strings = [];
  rest = in_front_none (ticked peer (ticks - 0) (run_of w)) ∙ ap (λ k. ticked peer k (run_of w)) (minus_zero ticks);
  so_far = in_front_none (run_of w) ∙ sym (no_turns (after_tick peer) (run_of w));
  has = hashed_none before;
  begins = begins_same w;
}

module _ (peer ticks i : ℕ) (first now : World) (before after : Account) (below : i < ticks) (old : Ticking peer ticks i first now before after) where
  -- the run after the next tick
  abbrev next_tick : Run
  next_tick = stepped peer events.Tick (run_of now)

  ticks_left : in_front old.strings (ticked peer (ticks - (i + 1)) next_tick) ≡ ticked peer ticks (run_of first)
  ticks_left = ap (in_front old.strings) (sym (one_tick peer ticks i (run_of now) below)) ∙ old.rest

  pub ticking_next : (next : World) (later : Account) → run_of next ≡ unhashed next_tick → HasHashed next_tick.hashed after later → Begins now next → Ticking peer ticks (i + 1) first next before later
  ticking_next next later did has begins = record {
    strings = old.strings ++ next_tick.hashed;
    rest = onward (λ w. ticked peer (ticks - (i + 1)) w) (ticked_prefix peer (ticks - (i + 1))) old.strings next_tick (run_of next) (ticked peer ticks (run_of first)) ticks_left did;
    so_far = turns_next i (after_tick peer) (tick_alike peer) (run_of first) (run_of now) (run_of next) old.strings old.so_far did;
    has = hashed_all old.strings next_tick.hashed before after later old.has has;
    begins = begins_later first now next old.begins begins;
  }

  -- the whole run sends and hashes no less than the next tick
  pub ticking_longer : IsFurther (in_front old.strings next_tick) (ticked peer ticks (run_of first))
  ticking_longer = subst (λ (w : Run). IsFurther (in_front old.strings next_tick) w) ticks_left
      (further_prefix old.strings next_tick (ticked peer (ticks - (i + 1)) next_tick) (ticked_grows peer (ticks - (i + 1)) next_tick))

pub none_left : (n i : ℕ) → n ≤ i → n - i ≡ 0
none_left n i le = omega (arith, le)

pub ticking_last : (peer ticks i : ℕ) (first now : World) (before after : Account) → ticks ≤ i → (old : Ticking peer ticks i first now before after) → in_front old.strings (run_of now) ≡ ticked peer ticks (run_of first)
ticking_last peer ticks i first now before after le old = ap (in_front old.strings) (sym (no_tick peer (run_of now)) ∙ ap (λ k. ticked peer k (run_of now)) (sym (none_left ticks i le))) ∙ old.rest

-- some turns of a calm have been taken, in which the hasher took these strings, and the rest lead from
-- here to the same run
pub record Calming (peers : List Bool) (i : ℕ) (first now : World) (before after : Account) : Type 0 where
  pub strings : List (List ℕ)
  pub rest : in_front strings (calmed peers (most_messages - i) (run_of now)) ≡ calmed peers most_messages (run_of first)
  pub so_far : in_front strings (run_of now) ≡ after_turns i (after_oldest peers) (run_of first)
  pub has : HasHashed strings before after
  pub begins : Begins first now

pub calming_first : (peers : List Bool) (w : World) (before : Account) → Calming peers 0 w w before before
calming_first peers w before = record {
  strings = [];
  rest = in_front_none (calmed peers (most_messages - 0) (run_of w)) ∙ ap (λ k. calmed peers k (run_of w)) (minus_zero most_messages);
  so_far = in_front_none (run_of w) ∙ sym (no_turns (after_oldest peers) (run_of w));
  has = hashed_none before;
  begins = begins_same w;
}

module _ (peers : List Bool) (i : ℕ) (first now : World) (before after : Account) (below : i < most_messages) (old : Calming peers i first now before after) where
  module _ (k : ℕ) (is : Some k ≡ oldest (is_among peers) (run_of now).mail) where
    -- the run after the next delivery
    abbrev next_turn : Run
    next_turn = delivered k (run_of now)

    pub turn_is : next_turn ≡ after_oldest peers (run_of now)
    turn_is = ap (λ (o : Option ℕ). delivered_if o (run_of now)) is

    turns_left : in_front old.strings (calmed peers (most_messages - (i + 1)) next_turn) ≡ calmed peers most_messages (run_of first)
    turns_left = ap (in_front old.strings) (sym (one_turn peers most_messages i (run_of now) k below is)) ∙ old.rest

    pub calming_next : (next : World) (later : Account) → run_of next ≡ unhashed next_turn → HasHashed next_turn.hashed after later → Begins now next → Calming peers (i + 1) first next before later
    calming_next next later did has begins = record {
      strings = old.strings ++ next_turn.hashed;
      rest = onward (λ w. calmed peers (most_messages - (i + 1)) w) (calmed_prefix peers (most_messages - (i + 1))) old.strings next_turn (run_of next) (calmed peers most_messages (run_of first)) turns_left did;
      so_far =
          subst (λ (v : Run). in_front (old.strings ++ v.hashed) (run_of next) ≡ after_turns (i + 1) (after_oldest peers) (run_of first)) (sym turn_is)
          (turns_next i (after_oldest peers) (oldest_alike peers) (run_of first) (run_of now) (run_of next) old.strings old.so_far (did ∙ ap unhashed turn_is));
      has = hashed_all old.strings next_turn.hashed before after later old.has has;
      begins = begins_later first now next old.begins begins;
    }

    -- the whole run sends and hashes no less than the next delivery
    pub calming_longer : IsFurther (in_front old.strings next_turn) (calmed peers most_messages (run_of first))
    calming_longer = subst (λ (w : Run). IsFurther (in_front old.strings next_turn) w) turns_left
        (further_prefix old.strings next_turn (calmed peers (most_messages - (i + 1)) next_turn) (calmed_grows peers (most_messages - (i + 1)) next_turn))

  pub calming_ends : None ≡ oldest (is_among peers) (run_of now).mail → in_front old.strings (run_of now) ≡ calmed peers most_messages (run_of first)
  calming_ends is = ap (in_front old.strings) (sym (last_turn peers most_messages i (run_of now) below is)) ∙ old.rest

pub calming_last : (peers : List Bool) (i : ℕ) (first now : World) (before after : Account) → most_messages ≤ i → (old : Calming peers i first now before after) → in_front old.strings (run_of now) ≡ calmed peers most_messages (run_of first)
calming_last peers i first now before after le old = ap (in_front old.strings) (sym (no_turn peers (run_of now)) ∙ ap (λ k. calmed peers k (run_of now)) (sym (none_left most_messages i le))) ∙ old.rest

-- settling a message and stepping its receiver delivers it, unless it was sent before trees got version two
pub received_is : (w : Run) (n : ℕ) (f : Frame) (message : Message) → slice_get w.mail.sent n ≡ Some f → message ≡ f.message → nat_lt n w.first_alive ≡ false
    → stepped f.to (events.Deliver f.from message) (record w { mail = settled w.mail n }) ≡ delivered n w
received_is w n f message here copied alive = rw here (rw copied (rw alive refl))

-- settling such a message is all that its delivery does
pub lost_is : (w : Run) (n : ℕ) (f : Frame) → slice_get w.mail.sent n ≡ Some f → nat_lt n w.first_alive ≡ true → without_waiting n w ≡ delivered n w
lost_is w n f here lost = rw here (rw lost refl)
