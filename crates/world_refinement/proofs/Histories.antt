-- The histories of a world that agrees with the book of a run are legal.
use Rattle.std.proofs.Common.{◌≡◌, ℕ, List, [], ◌∷◌, map, sym, inl, inr, subst}
use Rattle.ens_base.specs.Lists.{◌∈◌}
use Rattle.protocol_laws.specs.Protocol.{Step, IsRun, state_after}
use Rattle.history_scribe.specs.Histories.{history_of, AreHistories}
use Rattle.register_model.specs.declared.history.History.{History}
use Rattle.register_model.specs.declared.note.Note.{Note}
use Rattle.register_model.specs.Histories.{IsLegal}
use Rattle.register_model.specs.Orders.{order}
use Rattle.protocol_laws.proofs.Legal.{run_legal}
use Rattle.schedule_text.specs.declared.event.ScheduleEvent.{ScheduleEvent}
use Rattle.world_spec.specs.Runs.{Run}
use Rattle.world_refinement.proofs.LegalHistories.{legal_same}
use Rattle.world_refinement.specs.Lines.{calls_from, answers_in, AreLegal, BookAgrees}

-- an item of a list of images is an image
from_map : {A B : Type 0} (f : A → B) (xs : List A) (y : B) → y ∈ map f xs → (x : A) × (y ≡ f x)
from_map f [] y m = absurd m
from_map f (x ∷ xs) y (inl e) = (x, e)
from_map f (x ∷ xs) y (inr m) = from_map f xs y m

-- for every key, the order that follows from the notes of the world is a legal history of the calls of
-- the schedule and the answers printed
pub order_legal : (view : List ℕ) (steps : List Step) (events : List ScheduleEvent) (w : Run) (key : List ℕ) → IsRun view steps → BookAgrees events w (state_after view steps).book → IsLegal (calls_from 1 events) (answers_in w.printed) key (order w.notes key)
order_legal view steps events w key run agrees =
    legal_same (state_after view steps).book.calls (calls_from 1 events) (state_after view steps).book.answers (answers_in w.printed) agrees.calls agrees.answers key (order w.notes key)
    (subst (λ (ns : List Note). IsLegal (state_after view steps).book.calls (state_after view steps).book.answers key (order ns key)) agrees.notes (run_legal view steps key run))

-- the histories of a world that agrees with the book of a run are legal
pub histories_are_legal_of : (view : List ℕ) (steps : List Step) (events : List ScheduleEvent) (w : Run) (histories : List History) → IsRun view steps → BookAgrees events w (state_after view steps).book → AreHistories w.notes w.called histories → AreLegal events w.printed histories
histories_are_legal_of view steps events w histories run agrees are h m = by_key (from_map (history_of w.notes) are.0 h (subst (λ (hs : List History). h ∈ hs) are.2 m))
  where
    by_key : (key : List ℕ) × (h ≡ history_of w.notes key) → IsLegal (calls_from 1 events) (answers_in w.printed) h.key h.calls
    by_key k = subst (λ (g : History). IsLegal (calls_from 1 events) (answers_in w.printed) g.key g.calls) (sym k.1) (order_legal view steps events w k.0 run agrees)
