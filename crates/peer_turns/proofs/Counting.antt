-- The events of turns, counted.
use Rattle.std.proofs.Common.{◌≡◌, ◌∙◌, ap, sym, refl, ℕ, ◌+◌, Bool, true, false, List, [], ◌∷◌, ◌++◌, Option, None, Some, length, arith, length-append, append_assoc}
use Rattle.ens_base.specs.declared.peer_words.PeerWords.{PeerWords}
use Rattle.peer_state.specs.declared.event.Event.{Event}
use Rattle.peer_turns.specs.Turns.{Turn, event_of, events_of, ignored_by, ignored_in, listed, looked_in, one_if, one_if_none, one_if_some, taken_in, tick_if, ticks_in}

length_listed : {A : Type 0} (o : Option A) → length (listed o) ≡ one_if_some o
length_listed None = refl
length_listed (Some x) = refl

length_tick : (due : Bool) → length (tick_if due) ≡ one_if due
length_tick true = refl
length_tick false = refl

one_of_two : {A : Type 0} (o : Option A) → one_if_some o + one_if_none o ≡ 1
one_of_two None = refl
one_of_two (Some x) = refl

taken_or_ignored : (w : PeerWords) (look : Option (List ℕ)) → one_if_some (event_of w look) + ignored_by w look ≡ one_if_some look
taken_or_ignored w None = refl
taken_or_ignored w (Some bytes) = one_of_two (event_of w (Some bytes))

pub frames_counted : (w : PeerWords) (ts : List Turn) → taken_in w ts + ignored_in w ts ≡ looked_in ts
frames_counted w [] = refl
frames_counted w (t ∷ ts) = let here = taken_or_ignored w t.look in let later = frames_counted w ts in omega (arith, here, later)

pub events_counted : (w : PeerWords) (ts : List Turn) → length (events_of w ts) ≡ taken_in w ts + ticks_in ts
events_counted w [] = refl
events_counted w (t ∷ ts) =
    let taken = length_listed (event_of w t.look) in
    let tick = length_tick t.due in
    let first = length-append (listed (event_of w t.look)) (tick_if t.due ++ events_of w ts) in
    let second = length-append (tick_if t.due) (events_of w ts) in
    let later = events_counted w ts in
    omega (arith, taken, tick, first, second, later)

pub events_later : (w : PeerWords) (ts us : List Turn) → events_of w (ts ++ us) ≡ events_of w ts ++ events_of w us
events_later w [] us = refl
events_later w (t ∷ ts) us =
    let taken = listed (event_of w t.look) in
    let tick = tick_if t.due in
    ap (λ (es : List Event). taken ++ (tick ++ es)) (events_later w ts us)
    ∙ ap (λ (es : List Event). taken ++ es) (sym (append_assoc tick (events_of w ts) (events_of w us)))
    ∙ sym (append_assoc taken (tick ++ events_of w ts) (events_of w us))
