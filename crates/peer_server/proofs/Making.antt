-- The parts of a turn, and turns.
use Rattle.std.specs.Prelude.{Option, None, Some}
use Rattle.std.proofs.Common.{◌≡◌, ◌⊎◌, ◌∙◌, ◌+◌, ap, sym, subst, refl, ℕ, Bool, true, List, [], ◌∷◌, ◌++◌, inl, inr, append-nil, length-append, arith}
use Rattle.ens_base.specs.declared.peer_words.PeerWords.{PeerWords}
use Rattle.ens_base.specs.declared.status.Status.{Status}
use Rattle.ens_base.specs.declared.status.Status.TheVariants as statuses
use Rattle.environment.specs.Links.{AnswersNext}
use Rattle.peer_state.specs.declared.event.Event.{Event}
use Rattle.peer_state.specs.declared.event.Event.TheVariants as happenings
use Rattle.step_plans.specs.Calls.{Call, AnswerOf}
use Rattle.step_plans.specs.declared.error.PeerError.{PeerError}
use Rattle.peer_turns.proofs.Counting.{events_later}
use Rattle.peer_state.specs.declared.state.State.{State}
use Rattle.peer_turns.proofs.Following.{grew_more}
use Rattle.peer_turns.specs.Deeds.{Did, frames_in}
use Rattle.peer_turns.specs.Going.{Grew, Point, Went}
use Rattle.peer_turns.specs.Turns.{Turn, event_of, events_of, ignored_by, ignored_in, listed, looks_of, one_if_none, one_if_some, taken_in, tick_if}
use Rattle.peer_server.proofs.Joining.{fell_early, stays, took_look, took_more, took_none, took_quiet}
use Rattle.peer_server.proofs.Ticking.{ticks_more, ticks_none, ticks_one}
use Rattle.peer_server.specs.Turning.{AreCounted, Committing, IsInTurn, begun_at, Broke, CountsLook, Fell, FellAt, FindBroke, IsFound, LookBroke, LookMade, Place, Looking, Looked, Ticked, TickMade, TicksOn, Took, TurnBroke, TurnMade, TurnsBroke, TurnsMade, events_before, looks_at, ticked_at}
use Rattle.peer_server.specs.declared.turns.Counts.{Counts}
use Rattle.peer_server.specs.declared.turns.Found.TheVariants as found

pub looks_later : (ts us : List Turn) → looks_of (ts ++ us) ≡ looks_of ts ++ looks_of us
looks_later [] us = refl
looks_later (t ∷ ts) us = ap (λ (l : List (Option (List ℕ))). t.look ∷ l) (looks_later ts us)

taken_later : (w : PeerWords) (ts us : List Turn) → taken_in w (ts ++ us) ≡ taken_in w ts + taken_in w us
taken_later w [] us = let n : taken_in w us ≡ taken_in w [] + taken_in w us = omega arith in n
taken_later w (t ∷ ts) us = let later = taken_later w ts us in omega (arith, later)

ignored_later : (w : PeerWords) (ts us : List Turn) → ignored_in w (ts ++ us) ≡ ignored_in w ts + ignored_in w us
ignored_later w [] us = let n : ignored_in w us ≡ ignored_in w [] + ignored_in w us = omega arith in n
ignored_later w (t ∷ ts) us = let later = ignored_later w ts us in omega (arith, later)

-- one turn had begun at a place in it
pub begun_inside : (place : Place) → IsInTurn place → begun_at place ≡ 1
begun_inside Looking inside = refl
begun_inside (Looked look) inside = refl
begun_inside (Ticked look) inside = refl
begun_inside Committing inside = absurd inside

pub counted_none : (w : PeerWords) → AreCounted w [] (record { taken = 0; ignored = 0 })
counted_none w = record { taken = refl; ignored = refl; few = omega arith }

pub counted_more : (w : PeerWords) (ts : List Turn) (t : Turn) (old new : Counts) → AreCounted w ts old → CountsLook w t.look old new → AreCounted w (ts ++ t ∷ []) new
counted_more w ts t old new are look = record {
  taken = let later = taken_later w ts (t ∷ []) in omega (arith, later, are.taken, look.taken);
  ignored = let later = ignored_later w ts (t ∷ []) in omega (arith, later, are.ignored, look.ignored);
  few = let size = length-append ts (t ∷ []) in omega (arith, size, are.few, look.one);
}

-- the counts after a look that gave nothing, after one whose frame is ignored, and after one whose frame is taken
nothing_counted : (w : PeerWords) (old : Counts) → CountsLook w None old old
nothing_counted w old = record { taken = omega arith; ignored = omega arith; one = omega arith }

ignored_counted : (w : PeerWords) (look : Option (List ℕ)) (old new : Counts) → (event_of w look ≡ None) × (ignored_by w look ≡ 1) → new.taken ≡ old.taken → new.ignored ≡ old.ignored + 1 → CountsLook w look old new
ignored_counted w look old new is taken ignored =
    let none : one_if_some (event_of w look) ≡ 0 = ap one_if_some is.0 in
    record { taken = omega (arith, taken, none); ignored = omega (arith, ignored, is.1); one = omega (arith, taken, ignored) }

pub taken_counted : (w : PeerWords) (look : Option (List ℕ)) (event : Event) (old new : Counts) → event_of w look ≡ Some event → new.taken ≡ old.taken + 1 → new.ignored ≡ old.ignored → CountsLook w look old new
taken_counted w None event old new is taken ignored = absurd cc
taken_counted w (Some bytes) event old new is taken ignored =
    let some : one_if_some (event_of w (Some bytes)) ≡ 1 = ap one_if_some is in
    let none : ignored_by w (Some bytes) ≡ 0 = ap one_if_none is in
    record { taken = omega (arith, taken, some); ignored = omega (arith, ignored, none); one = omega (arith, taken, ignored) }

module _ {P L : Type 0} (does : P → (call : Call) → AnswerOf call → P → Type 0) (refuses : P → Call → PeerError → P → Type 0)
    (sent : L → Option (List (ℕ × List ℕ))) (given : L → Option (List (Option (List ℕ)))) (w : PeerWords) where
  -- a look that gave nothing, and one whose frame is ignored
  pub look_nothing : (a m : Point P L) (old : Counts) (look : Option (List ℕ)) → look ≡ None → m.state ≡ a.state → m.stores ≡ a.stores → Grew (given a.link) (given m.link) (look ∷ []) → Grew (sent a.link) (sent m.link) [] → LookMade does refuses sent given w a m old old
  look_nothing a m old look none state stores looked sends = record {
    look = None;
    took = took_look does refuses sent given w.me None a m state stores (subst (λ (l : Option (List ℕ)). Grew (given a.link) (given m.link) (l ∷ [])) none looked) sends;
    counted = nothing_counted w old;
  }

  pub look_ignored : (a m : Point P L) (old new : Counts) (look : Option (List ℕ)) → (event_of w look ≡ None) × (ignored_by w look ≡ 1) → m.state ≡ a.state → m.stores ≡ a.stores → Grew (given a.link) (given m.link) (look ∷ []) → Grew (sent a.link) (sent m.link) []
      → new.taken ≡ old.taken → new.ignored ≡ old.ignored + 1 → LookMade does refuses sent given w a m old new
  look_ignored a m old new look is state stores looked sends taken ignored = record {
    look = look;
    took =
        subst (λ (es : List Event). Took does refuses sent given w.me (look ∷ []) es a m) (sym (ap listed is.0))
        (took_look does refuses sent given w.me look a m state stores looked sends);
    counted = ignored_counted w look old new is taken ignored;
  }

  -- a look, and the step on the frame that it gave
  pub look_took : (event : Event) (a m b : Point P L) (old new : Counts) → m.state ≡ a.state → m.stores ≡ a.stores → (gave : (look : Option (List ℕ)) × Grew (given a.link) (given m.link) (look ∷ []) × IsFound w look (found.Taken event)) → Grew (sent a.link) (sent m.link) []
      → CountsLook w gave.0 old new → Took does refuses sent given w.me [] (event ∷ []) m b → LookMade does refuses sent given w a b old new
  look_took event a m b old new state stores gave sends counted step = record {
    look = gave.0;
    took =
        subst (λ (es : List Event). Took does refuses sent given w.me (gave.0 ∷ []) es a b) (sym (ap listed gave.2.0))
        (took_more does refuses sent given w.me a m b (gave.0 ∷ []) [] [] (event ∷ []) (took_look does refuses sent given w.me gave.0 a m state stores gave.1 sends) step);
    counted = counted;
  }

  -- a look whose step came to no end
  pub look_fell : (status : Status) (event : Event) (a m b : Point P L) → m.state ≡ a.state → m.stores ≡ a.stores → (look : Option (List ℕ)) × Grew (given a.link) (given m.link) (look ∷ []) × IsFound w look (found.Taken event) → Grew (sent a.link) (sent m.link) []
      → Fell does refuses sent given w.me status (Some event) m b → LookBroke does refuses sent given w status a b
  look_fell status event a m b state stores gave sends fell = record {
    place = Looked gave.0;
    early = refl;
    inside = tt;
    broke = record {
      between = m;
      took = took_look does refuses sent given w.me gave.0 a m state stores gave.1 sends;
      fell = subst (λ (o : Option Event). Fell does refuses sent given w.me status o m b) (sym gave.2.0) fell;
    };
  }

  -- memory ran out after the look
  memory_at : (place : Place) (a b : Point P L) → ticked_at place ≡ [] → IsInTurn place → b.state ≡ a.state → b.stores ≡ a.stores → Grew (given a.link) (given b.link) (looks_at place) → Grew (sent a.link) (sent b.link) []
      → Broke does refuses sent given w.me w statuses.Memory [] place a b
  memory_at Looking a b early inside state stores looked sends = record { between = b; took = took_quiet does refuses sent given w.me a b state stores looked sends; fell = stays does refuses sent given w.me b }
  memory_at (Looked look) a b early inside state stores looked sends = record { between = b; took = took_look does refuses sent given w.me look a b state stores looked sends; fell = fell_early does refuses sent given w.me (event_of w look) b }
  memory_at (Ticked look) a b early inside state stores looked sends = absurd cc
  memory_at Committing a b early inside state stores looked sends = absurd inside

  -- a look that failed
  pub look_failed : (status : Status) (a b : Point P L) → FindBroke (given a.link) (given b.link) status → b.state ≡ a.state → b.stores ≡ a.stores → Grew (sent a.link) (sent b.link) [] → LookBroke does refuses sent given w status a b
  look_failed status a b find state stores sends = by find.kind
    where
      by : (status ≡ statuses.Memory) ⊎ ((find.place ≡ Looking) × (status ≡ statuses.LinkFault)) → LookBroke does refuses sent given w status a b
      by (inl memory) = record {
        place = find.place;
        early = find.early;
        inside = find.inside;
        broke = subst (λ (s : Status). Broke does refuses sent given w.me w s [] find.place a b) (sym memory) (memory_at find.place a b find.early find.inside state stores find.looked sends);
      }
      by (inr link) = record {
        place = Looking;
        early = refl;
        inside = tt;
        broke = subst (λ (s : Status). Broke does refuses sent given w.me w s [] Looking a b) (sym link.1) (record {
          between = b;
          took = took_quiet does refuses sent given w.me a b state stores (subst (λ (p : Place). Grew (given a.link) (given b.link) (looks_at p)) link.0 find.looked) sends;
          fell = stays does refuses sent given w.me b;
        });
      }

module _ {P L T : Type 0} (does : P → (call : Call) → AnswerOf call → P → Type 0) (refuses : P → Call → PeerError → P → Type 0)
    (sent : L → Option (List (ℕ × List ℕ))) (given : L → Option (List (Option (List ℕ)))) (coming : T → Option (ℕ → Bool)) (w : PeerWords) where
  pub turn_made : (a b c : Point P L) (s t : T) (old new : Counts) → LookMade does refuses sent given w a b old new → TickMade does refuses sent given coming w b c s t → TurnMade does refuses sent given coming w a c s t old new
  turn_made a b c s t old new look tick = record {
    turn = record { look = look.look; due = tick.due };
    took = took_more does refuses sent given w.me a b c (look.look ∷ []) [] (listed (event_of w look.look)) (tick_if tick.due) look.took tick.took;
    answers = tick.answers;
    counted = look.counted;
  }

  pub tick_fell : (status : Status) (a b c : Point P L) (s t : T) (old new : Counts) → LookMade does refuses sent given w a b old new → Fell does refuses sent given w.me status (Some happenings.Tick) b c → AnswersNext (coming s) (coming t) true
      → TurnBroke does refuses sent given coming w status a c s t
  tick_fell status a b c s t old new look fell answers = record {
    place = Ticked look.look;
    inside = tt;
    broke = record { between = b; took = look.took; fell = fell };
    ticks = ticks_one (coming s) (coming t) (record { look = look.look; due = true }) answers;
  }

  -- the commit after some turns failed
  abbrev pub commit_broke : (status : Status) (a b c : Point P L) (s t : T) (ts : List Turn) → TurnsMade does refuses sent given coming w a b s t ts → FellAt does refuses sent given w.me w Committing status b c → TurnsBroke does refuses sent given coming w status a c s t ts Committing
  commit_broke status a b c s t ts made fell = record {
    broke = record {
      between = b;
      took = record {
        deeds = made.took.deeds;
        are = made.took.are ∙ sym (append-nil (events_of w ts));
        went = subst (λ (looks : List (Option (List ℕ))). Went does refuses sent given w.me a b looks made.took.deeds (frames_in w.me made.took.deeds)) (sym (append-nil (looks_of ts))) made.took.went;
      };
      fell = fell;
    };
    ticks = subst (λ (us : List Turn). TicksOn (coming s) (coming t) us) (sym (append-nil ts)) made.ticks;
  }

  -- a commit after some turns, in which all that waited was sent
  abbrev pub turns_committed : (a b c : Point P L) (s t : T) (ts : List Turn) → TurnsMade does refuses sent given coming w a b s t ts → c.state ≡ b.state → c.stores ≡ b.stores → Grew (given b.link) (given c.link) [] → Grew (sent b.link) (sent c.link) []
      → TurnsMade does refuses sent given coming w a c s t ts
  turns_committed a b c s t ts made state stores looked sends = record {
    took = record {
      deeds = made.took.deeds;
      are = made.took.are;
      went = record {
        did =
            subst (λ (z : State). Did does refuses w.me a.state a.stores made.took.deeds z c.stores) (sym state)
            (subst (λ (q : P). Did does refuses w.me a.state a.stores made.took.deeds b.state q) (sym stores) made.took.went.did);
        looked = subst (λ (l : List (Option (List ℕ))). Grew (given a.link) (given c.link) l) (append-nil (looks_of ts)) (grew_more (given a.link) (given b.link) (given c.link) (looks_of ts) [] made.took.went.looked looked);
        sends = subst (λ (l : List (ℕ × List ℕ)). Grew (sent a.link) (sent c.link) l) (append-nil (frames_in w.me made.took.deeds)) (grew_more (sent a.link) (sent b.link) (sent c.link) (frames_in w.me made.took.deeds) [] made.took.went.sends sends);
      };
    };
    ticks = made.ticks;
  }

  abbrev pub turns_none : (a : Point P L) (s : T) → TurnsMade does refuses sent given coming w a a s s []
  turns_none a s = record { took = took_none does refuses sent given w.me a; ticks = ticks_none (coming s) }

  abbrev pub turns_more : (a b c : Point P L) (s t u : T) (ts : List Turn) (old new : Counts) → TurnsMade does refuses sent given coming w a b s t ts → (one : TurnMade does refuses sent given coming w b c t u old new)
      → TurnsMade does refuses sent given coming w a c s u (ts ++ one.turn ∷ [])
  turns_more a b c s t u ts old new made one =
      let looks : looks_of ts ++ looks_of (one.turn ∷ []) ≡ looks_of (ts ++ one.turn ∷ []) = sym (looks_later ts (one.turn ∷ [])) in
      let here : listed (event_of w one.turn.look) ++ tick_if one.turn.due ≡ events_of w (one.turn ∷ []) = ap (λ (es : List Event). listed (event_of w one.turn.look) ++ es) (sym (append-nil (tick_if one.turn.due))) in
      let events : events_of w ts ++ (listed (event_of w one.turn.look) ++ tick_if one.turn.due) ≡ events_of w (ts ++ one.turn ∷ []) = ap (λ (es : List Event). events_of w ts ++ es) here ∙ sym (events_later w ts (one.turn ∷ [])) in
      let both : Took does refuses sent given w.me (looks_of ts ++ one.turn.look ∷ []) (events_of w ts ++ (listed (event_of w one.turn.look) ++ tick_if one.turn.due)) a c =
      took_more does refuses sent given w.me a b c (looks_of ts) (one.turn.look ∷ []) (events_of w ts) (listed (event_of w one.turn.look) ++ tick_if one.turn.due) made.took one.took in
      record {
        took = record {
          deeds = made.took.deeds ++ one.took.deeds;
          are = both.are ∙ events;
          went = subst (λ (l : List (Option (List ℕ))). Went does refuses sent given w.me a c l (made.took.deeds ++ one.took.deeds) (frames_in w.me (made.took.deeds ++ one.took.deeds))) looks both.went;
        };
        ticks = ticks_more (coming s) (coming t) (coming u) ts (one.turn ∷ []) made.ticks (ticks_one (coming t) (coming u) one.turn one.answers);
      }

  abbrev pub turns_broke : (status : Status) (a b c : Point P L) (s t u : T) (ts : List Turn) → TurnsMade does refuses sent given coming w a b s t ts → (one : TurnBroke does refuses sent given coming w status b c t u)
      → TurnsBroke does refuses sent given coming w status a c s u ts one.place
  turns_broke status a b c s t u ts made one = record {
    broke = record {
      between = one.broke.between;
      took = took_more does refuses sent given w.me a b one.broke.between (looks_of ts) (looks_at one.place) (events_of w ts) (events_before w one.place) made.took one.broke.took;
      fell = one.broke.fell;
    };
    ticks = ticks_more (coming s) (coming t) (coming u) ts (ticked_at one.place) made.ticks one.ticks;
  }
