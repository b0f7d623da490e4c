-- One piece of what a peer does follows another.
use Rattle.std.proofs.Common.{◌≡◌, ◌∙◌, ap, sym, refl, subst, ℕ, List, [], ◌∷◌, ◌++◌, Option, None, Some, append_assoc, append-nil}
use Rattle.peer_turns.specs.PeerSpec.{step_of}
use Rattle.peer_state.specs.declared.event.Event.{Event}
use Rattle.peer_state.specs.declared.state.State.{State}
use Rattle.register_model.specs.declared.note.Note.{Note}
use Rattle.step_plans.specs.Calls.{Call, AnswerOf}
use Rattle.step_plans.specs.Plans.{Out, Finished, Runs}
use Rattle.step_plans.specs.declared.error.PeerError.{PeerError}
use Rattle.peer_turns.specs.Deeds.{Deed, Did, frames_in, frames_of}
use Rattle.peer_turns.specs.Going.{Grew, Point, Went}

pub grew_none : {A : Type 0} (old : Option (List A)) → Grew old old []
grew_none None = tt
grew_none (Some xs) = ap (λ (l : List _). Some l) (sym (append-nil xs))

pub grew_more : {A : Type 0} (a b c : Option (List A)) (xs ys : List A) → Grew a b xs → Grew b c ys → Grew a c (xs ++ ys)
grew_more None b c xs ys first second = tt
grew_more (Some old) b c xs ys first second =
    let told : c ≡ Some ((old ++ xs) ++ ys) = subst (λ (o : Option (List _)). Grew o c ys) first second in
    told ∙ ap (λ (l : List _). Some l) (append_assoc old xs ys)

pub frames_later : (me : ℕ) (ds es : List Deed) → frames_in me (ds ++ es) ≡ frames_in me ds ++ frames_in me es
frames_later me [] es = refl
frames_later me (d ∷ ds) es = ap (λ (l : List (ℕ × List ℕ)). frames_of me d.out ++ l) (frames_later me ds es) ∙ sym (append_assoc (frames_of me d.out) (frames_in me ds) (frames_in me es))

module _ {P : Type 0} (does : P → (call : Call) → AnswerOf call → P → Type 0) (refuses : P → Call → PeerError → P → Type 0) (me : ℕ) where
  pub did_more : (ds es : List Deed) (x y z : State) (s t u : P) → Did does refuses me x s ds y t → Did does refuses me y t es z u → Did does refuses me x s (ds ++ es) z u
  did_more [] es x y z s t u did more = subst (λ (v : State). Did does refuses me v s es z u) did.0 (subst (λ (p : P). Did does refuses me y p es z u) did.1 more)
  did_more (d ∷ ds) es x y z s t u did more = (did.0, did.1, did.2, did_more ds es did.0 y z did.1 t u did.3 more)

  -- one step
  pub did_one : (event : Event) (x y : State) (s t : P) (out : Out) (notes : List Note) → Runs does refuses (step_of me event x) s [] (Finished y out) t notes
      → Did does refuses me x s (record { event = event; out = out; notes = notes } ∷ []) y t
  did_one event x y s t out notes ran = (y, t, ran, (refl, refl))

  module _ {L : Type 0} (sent : L → Option (List (ℕ × List ℕ))) (given : L → Option (List (Option (List ℕ)))) where
    pub went_nowhere : (a : Point P L) → Went does refuses sent given me a a [] [] []
    went_nowhere a = record { did = (refl, refl); looked = grew_none (given a.link); sends = grew_none (sent a.link) }

    pub went_on : (a b c : Point P L) (looks more_looks : List (Option (List ℕ))) (deeds more_deeds : List Deed) (frames more_frames : List (ℕ × List ℕ))
        → Went does refuses sent given me a b looks deeds frames → Went does refuses sent given me b c more_looks more_deeds more_frames
        → Went does refuses sent given me a c (looks ++ more_looks) (deeds ++ more_deeds) (frames ++ more_frames)
    went_on a b c looks more_looks deeds more_deeds frames more_frames first second = record {
      did = did_more deeds more_deeds a.state b.state c.state a.stores b.stores c.stores first.did second.did;
      looked = grew_more (given a.link) (given b.link) (given c.link) looks more_looks first.looked second.looked;
      sends = grew_more (sent a.link) (sent b.link) (sent c.link) frames more_frames first.sends second.sends;
    }
