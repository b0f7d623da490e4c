-- Looks for a frame, and what the peer does on its bytes.
use Rattle.std.specs.Prelude.{IfErr, IfOk, Option, None, Some, Vec}
use Rattle.std.specs.declared.alloc.Global.{Global}
use Rattle.std.proofs.Common.{◌≡◌, ◌≤◌, ◌∙◌, ap, sym, subst, refl, ℕ, List, [], ◌∷◌, Result, Ok, Err, append-nil, inl, inr, arith}
use Rattle.ens_base.specs.Causes.{Rose}
use Rattle.ens_base.specs.declared.peer_words.PeerWords.{PeerWords}
use Rattle.environment.specs.Links.{LinkCounts, Looks}
use Rattle.environment.specs.Told.{bytes_of}
use Rattle.environment.specs.declared.errors.LinkError.{LinkError}
use Rattle.environment.specs.declared.errors.LinkError.TheVariants as links
use Rattle.peer_spec.specs.Drives.{MayCome}
use Rattle.peer_state.specs.declared.event.Event.{Event}
use Rattle.peer_turns.specs.Ends.{ComesFrom}
use Rattle.peer_turns.specs.Going.{Grew}
use Rattle.peer_turns.specs.Turns.{event_in, event_of, event_on, is_client, one_if_none}
use Rattle.wire_frames.specs.Frames.{Fails, frame_of}
use Rattle.wire_frames.specs.declared.error.FrameError.{FrameError}
use Rattle.wire_frames.specs.declared.error.FrameError.TheVariants as frame_errors
use Rattle.wire_frames.specs.declared.frame.Frame.{Frame}
use Rattle.peer_server.specs.Faults.{link_status, status_of}
use Rattle.peer_server.specs.Turning.{FindBroke, IsFound, Looked, Looking}
use Rattle.peer_server.specs.declared.error.ServeError.{ServeError}
use Rattle.peer_server.specs.declared.error.ServeError.TheVariants as serves
use Rattle.peer_server.specs.declared.turns.Found.{Found}
use Rattle.peer_server.specs.declared.turns.Found.TheVariants as found

-- the fault of bytes, unless memory ran out
fault_is : (e : FrameError) (read : Result Frame FrameError) → (e ≡ frame_errors.Memory → ⊥) → Fails e read → read ≡ Err e
fault_is frame_errors.Memory read other fails = absurd (other refl)
fault_is e read other fails = fails

-- bytes that are no event are ignored
ignored : (w : PeerWords) (bytes : List ℕ) → event_of w (Some bytes) ≡ None → IsFound w (Some bytes) found.Ignored
ignored w bytes none = (none, ap one_if_none none)

-- bytes that are no frame
pub found_no_frame : (w : PeerWords) (bytes : List ℕ) (e : FrameError) → (e ≡ frame_errors.Memory → ⊥) → Fails e (frame_of bytes) → IsFound w (Some bytes) found.Ignored
found_no_frame w bytes e other fails = ignored w bytes (ap (event_on w) (fault_is e (frame_of bytes) other fails))

-- a frame that is no event, and one that is
pub found_no_event : (w : PeerWords) (bytes : List ℕ) (f : Frame) → frame_of bytes ≡ Ok f → None ≡ event_in w f → IsFound w (Some bytes) found.Ignored
found_no_event w bytes f spelled none = ignored w bytes (ap (event_on w) spelled ∙ sym none)

pub found_event : (w : PeerWords) (bytes : List ℕ) (f : Frame) (event : Event) → frame_of bytes ≡ Ok f → Some event ≡ event_in w f → MayCome w.me event × ComesFrom is_client event → IsFound w (Some bytes) (found.Taken event)
found_event w bytes f event spelled some may = (ap (event_on w) spelled ∙ sym some, may.0, may.1)

-- the given looks, after one look, and after one that failed
given_once : (old new : Option (List (Option (List ℕ)))) (o : Option (Vec ℕ Global)) → Looks old new (Ok o) → Grew old new (bytes_of o ∷ [])
given_once None new o looks = tt
given_once (Some given) new o looks = looks

pub looked_once : (old new : Option (List (Option (List ℕ)))) (o p : Option (Vec ℕ Global)) → o ≡ p → Looks old new (Ok o) → Grew old new (bytes_of p ∷ [])
looked_once old new o p same looks = subst (λ (q : Option (Vec ℕ Global)). Grew old new (bytes_of q ∷ [])) same (given_once old new o looks)

not_looked : (old new : Option (List (Option (List ℕ)))) (e : LinkError) → Looks old new (Err e) → Grew old new []
not_looked None new e looks = tt
not_looked (Some given) new e looks = looks ∙ ap (λ (l : List (Option (List ℕ))). Some l) (sym (append-nil given))

module _ (old new : Option (List (Option (List ℕ)))) where
  -- what the bytes are that a look gave, or that memory ran out for them
  pub read_found : (w : PeerWords) (look : Option (List ℕ)) (r : Result Found ServeError) → Grew old new (look ∷ []) → IfOk r (IsFound w look) → IfOk r (λ f. (given : Option (List ℕ)) × Grew old new (given ∷ []) × IsFound w given f)
  read_found w look (Ok f) looked is = (look, looked, is)
  read_found w look (Err e) looked is = tt

  pub read_broke : (look : Option (List ℕ)) (r : Result Found ServeError) → Grew old new (look ∷ []) → IfErr r (λ e. e ≡ serves.Memory) → IfErr r (λ e. FindBroke old new (status_of e))
  read_broke look (Ok f) looked memory = tt
  read_broke look (Err e) looked memory = record { place = Looked look; early = refl; inside = tt; looked = looked; kind = inl (ap status_of memory) }

  -- the look failed
  pub look_broke : (e : LinkError) (s : ServeError) → status_of s ≡ link_status e → Looks old new (Err e) → FindBroke old new (status_of s)
  look_broke links.Failed s same looks = record { place = Looking; early = refl; inside = tt; looked = not_looked old new links.Failed looks; kind = inr (refl, same) }
  look_broke links.Memory s same looks = record { place = Looking; early = refl; inside = tt; looked = not_looked old new links.Memory looks; kind = inl same }

-- memory that ran out is no fault of a link
pub memory_only : (r : Result Found ServeError) (A : Type 0) → IfErr r (λ e. e ≡ serves.Memory) → IfErr r (λ e. e ≡ serves.Link → A)
memory_only (Ok f) A memory = tt
memory_only (Err e) A memory = λ is. absurd cc

-- the fault count of a link whose look failed
pub counts_later : (before now : ℕ) (e : LinkError) → LinkCounts {T = Option (Vec ℕ Global)} before now (Err e) → before ≤ now
counts_later before now links.Failed counts = counts.0
counts_later before now links.Memory counts = omega (arith, counts)

pub counts_rose : (before now : ℕ) (e : LinkError) (s : ServeError) → status_of s ≡ link_status e → LinkCounts {T = Option (Vec ℕ Global)} before now (Err e) → s ≡ serves.Link → Rose before now
counts_rose before now links.Failed s same counts is = counts.1
counts_rose before now links.Memory s same counts is = absurd (cc (ap status_of is))
