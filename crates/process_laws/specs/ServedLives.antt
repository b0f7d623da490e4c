-- The life of one process of a peer, over any stores and any link.
use Rattle.std.specs.Prelude.{◌≡◌, ◌⊎◌, ℕ, List, [], Option, None, Some}
use Rattle.ens_base.specs.declared.status.Status.{Status}
use Rattle.peer_spec.specs.Starts.{start_of}
use Rattle.peer_server.specs.Turning.{Stayed, WasDropped, WasLost, WasStopped}
use Rattle.peer_state.specs.declared.event.Event.{Event}
use Rattle.peer_state.specs.declared.state.Mode.{Mode}
use Rattle.step_plans.specs.Calls.{Call, AnswerOf}
use Rattle.step_plans.specs.Plans.{Finished, Runs, nothing}
use Rattle.step_plans.specs.declared.error.PeerError.{PeerError}
use Rattle.peer_turns.specs.Deeds.{Deed, frames_in}
use Rattle.peer_turns.specs.Going.{Point, Went}

module _ {P L : Type 0} (does : P → (call : Call) → AnswerOf call → P → Type 0) (refuses : P → Call → PeerError → P → Type 0)
    (sent : L → Option (List (ℕ × List ℕ))) (given : L → Option (List (Option (List ℕ)))) (me : ℕ) where
  -- The process was cut off between two steps, and the last of what they put out may be lost; or within a step
  -- on this event, which a store stopped, or which came to its end although what it puts out was not kept.
  abbrev pub IsCutOff : Option Event → Point P L → Point P L → Type 0
  IsCutOff None a b = Stayed does refuses sent given me a b ⊎ WasLost does refuses sent given me a b
  IsCutOff (Some event) a b = Stayed does refuses sent given me a b ⊎ (((status : Status) × WasStopped does refuses sent given me status event a b) ⊎ WasDropped does refuses sent given me event a b)

  -- A process started over these stores and this link, in a mode and in an ensemble that opens in a view. It
  -- took steps, each to its end, and handed to the link what they put out, and nothing else; its looks gave
  -- this. Then it was cut off, at this end.
  pub record Life (mode : Mode) (view : List ℕ) (stores : P) (link : L) (end : Point P L) : Type 0 where
    pub first : Point P L
    pub starts : Runs does refuses (start_of mode view) stores [] (Finished first.state nothing) first.stores []
    pub linked : first.link ≡ link
    pub deeds : List Deed
    pub looks : List (Option (List ℕ))
    pub last : Point P L
    pub went : Went does refuses sent given me first last looks deeds (frames_in me deeds)
    pub event : Option Event
    pub cut : IsCutOff event last end
