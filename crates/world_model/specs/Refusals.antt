-- How the error of a peer's step ends the run of a world.
use Rattle.std.specs.Prelude.{ℕ, List, Option, Some, None}
use Rattle.world_spec.specs.Held.{Account}
use Rattle.world_spec.specs.HeldLaws.{HasClashed, HasFilledAt}
use Rattle.network.specs.declared.error.SendError.{SendError}
use Rattle.network.specs.declared.error.SendError.TheVariants as sends
use Rattle.step_plans.specs.declared.error.PeerError.{PeerError}
use Rattle.step_plans.specs.declared.error.PeerError.TheVariants as errors
use Rattle.world_model.specs.declared.error.WorldError.{WorldError}
use Rattle.world_model.specs.declared.error.WorldError.TheVariants as worlds

-- after a store fault, or with a fact that cannot be read, the peer is down and the run goes on; out
-- of memory and a fault of the hasher end the run
abbrev pub world_error : PeerError → Option WorldError
world_error errors.StoreFault = None
world_error errors.Halted = None
world_error (errors.BadFact why) = None
world_error errors.Memory = Some worlds.Memory
world_error (errors.Clash first second) = Some (worlds.Clash first second)
world_error (errors.BookFull bytes) = Some (worlds.BookFull bytes)

-- why a peer ended the run of a world: out of memory, or the hasher rejected the next of these
-- strings
abbrev pub IsCutOff : List (List ℕ) → Account → Account → WorldError → Type 0
IsCutOff strings first now worlds.Memory = Unit {0}
IsCutOff strings first now (worlds.Clash kept new) = HasClashed strings first kept new now
IsCutOff strings first now (worlds.BookFull bytes) = HasFilledAt bytes strings first now
IsCutOff strings first now worlds.MessageLimit = ⊥

-- the world's error for a message that was not sent
abbrev pub of_send : SendError → WorldError
of_send sends.Limit = worlds.MessageLimit
of_send sends.Memory = worlds.Memory
