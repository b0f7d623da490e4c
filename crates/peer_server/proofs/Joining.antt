-- One piece of the turns of a peer follows another.
use Rattle.std.specs.Prelude.{Option, None, Some}
use Rattle.std.proofs.Common.{◌≡◌, ◌∙◌, ap, sym, subst, refl, ℕ, List, [], ◌∷◌, ◌++◌, inl, append-nil}
use Rattle.ens_base.specs.declared.status.Status.TheVariants as statuses
use Rattle.peer_spec.specs.Drives.{step_of}
use Rattle.peer_state.specs.declared.event.Event.{Event}
use Rattle.register_model.specs.declared.note.Note.{Note}
use Rattle.step_plans.specs.Calls.{Call, AnswerOf}
use Rattle.step_plans.specs.Plans.{Out, Finished, Runs}
use Rattle.step_plans.specs.declared.error.PeerError.{PeerError}
use Rattle.peer_turns.proofs.Following.{did_one, frames_later, grew_none, went_nowhere, went_on}
use Rattle.peer_turns.specs.Deeds.{Deed, events_in, frames_in, frames_of}
use Rattle.peer_turns.specs.Going.{Grew, Point, Went}
use Rattle.peer_server.specs.Turning.{Fell, Stayed, Took}

pub events_later : (ds es : List Deed) → events_in (ds ++ es) ≡ events_in ds ++ events_in es
events_later [] es = refl
events_later (d ∷ ds) es = ap (λ (l : List Event). d.event ∷ l) (events_later ds es)

pub both : {A : Type 0} (xs ys us vs : List A) → xs ≡ us → ys ≡ vs → xs ++ ys ≡ us ++ vs
both xs ys us vs first second = cc

module _ {P L : Type 0} (does : P → (call : Call) → AnswerOf call → P → Type 0) (refuses : P → Call → PeerError → P → Type 0)
    (sent : L → Option (List (ℕ × List ℕ))) (given : L → Option (List (Option (List ℕ)))) (me : ℕ) where
  abbrev pub took_none : (a : Point P L) → Took does refuses sent given me [] [] a a
  took_none a = record { deeds = []; are = refl; went = went_nowhere does refuses me sent given a }

  abbrev pub took_more : (a b c : Point P L) (looks more : List (Option (List ℕ))) (events later : List Event)
      → Took does refuses sent given me looks events a b → Took does refuses sent given me more later b c → Took does refuses sent given me (looks ++ more) (events ++ later) a c
  took_more a b c looks more events later first second = record {
    deeds = first.deeds ++ second.deeds;
    are = events_later first.deeds second.deeds ∙ both (events_in first.deeds) (events_in second.deeds) events later first.are second.are;
    went =
        subst (λ (fs : List (ℕ × List ℕ)). Went does refuses sent given me a c (looks ++ more) (first.deeds ++ second.deeds) fs) (sym (frames_later me first.deeds second.deeds))
        (went_on does refuses me sent given a b c looks more first.deeds second.deeds (frames_in me first.deeds) (frames_in me second.deeds) first.went second.went);
  }

  -- a step
  pub took_one : (event : Event) (a b : Point P L) (out : Out) (notes : List Note) → Runs does refuses (step_of me event a.state) a.stores [] (Finished b.state out) b.stores notes
      → Grew (given a.link) (given b.link) [] → Grew (sent a.link) (sent b.link) (frames_of me out) → Took does refuses sent given me [] (event ∷ []) a b
  took_one event a b out notes ran looked sends = record {
    deeds = record { event = event; out = out; notes = notes } ∷ [];
    are = refl;
    went = record {
      did = did_one does refuses me event a.state b.state a.stores b.stores out notes ran;
      looked = looked;
      sends = subst (λ (fs : List (ℕ × List ℕ)). Grew (sent a.link) (sent b.link) fs) (sym (append-nil (frames_of me out))) sends;
    };
  }

  -- a look without a step
  pub took_look : (look : Option (List ℕ)) (a b : Point P L) → b.state ≡ a.state → b.stores ≡ a.stores → Grew (given a.link) (given b.link) (look ∷ []) → Grew (sent a.link) (sent b.link) []
      → Took does refuses sent given me (look ∷ []) [] a b
  took_look look a b state stores looked sends = record { deeds = []; are = refl; went = record { did = (state, stores); looked = looked; sends = sends } }

  -- no step, and no look that gave anything
  pub took_quiet : (a b : Point P L) → b.state ≡ a.state → b.stores ≡ a.stores → Grew (given a.link) (given b.link) [] → Grew (sent a.link) (sent b.link) []
      → Took does refuses sent given me [] [] a b
  took_quiet a b state stores looked sends = record { deeds = []; are = refl; went = record { did = (state, stores); looked = looked; sends = sends } }

  pub stays : (a : Point P L) → Stayed does refuses sent given me a a
  stays a = record { state = refl; stores = refl; looked = grew_none (given a.link); sends = grew_none (sent a.link) }

  -- memory ran out before the event was worked on
  pub fell_early : (last : Option Event) (a : Point P L) → Fell does refuses sent given me statuses.Memory last a a
  fell_early None a = stays a
  fell_early (Some event) a = inl (stays a)
