-- A world as the run of the lines applied so far.
use Rattle.std.specs.Prelude.{◌≡◌, ◌++◌, ℕ, List, [], map, Result, Ok, Err}
use Rattle.world_spec.specs.Held.{Account, HasHashed}
use Rattle.register_model.specs.declared.note.Note.{Note}
use Rattle.register_model.specs.declared.printed.Printed.{Printed}
use Rattle.step_plans.specs.Plans.{Out}
use Rattle.wire_frames.specs.declared.frame.Frame.{Frame}
use Rattle.world_spec.specs.Messages.{IsWithinMessages, IsPastMessages}
use Rattle.world_spec.specs.Runs.{Run, unhashed, next_event, posted_all, frame_from, printed_by}
use Rattle.world_model.specs.Peers.{node_of}
use Rattle.world_model.specs.Refusals.{IsCutOff}
use Rattle.world_model.specs.declared.error.WorldError.{WorldError}
use Rattle.world_model.specs.declared.error.WorldError.TheVariants.{Clash, BookFull, MessageLimit, Memory}
use Rattle.world_model.specs.declared.world.World.{World}

-- The run that a world represents. A world forgets which strings were hashed, so the run goes on from
-- it with none.
abbrev pub run_of : World → Run
run_of w = record { view = w.opening; form = w.form; sealing = w.sealing; tree = w.tree; first_alive = w.first_alive; nodes = map node_of w.peers.items; mail = w.network; printed = w.printed.items; notes = w.scribe.notes.items; hashed = []; events = w.events; called = w.called.items }

-- this error may refuse a call that needs no hasher
abbrev pub MayStop : Run → WorldError → Type 0
MayStop due MessageLimit = IsPastMessages due
MayStop due Memory = Unit {0}
MayStop due (Clash first second) = ⊥
MayStop due (BookFull bytes) = ⊥

-- this error may refuse a call that is to lead to the run `due`: the limit on messages only if `due`
-- is past it, and otherwise out of memory, or the hasher rejected the next string that `due` hashes
abbrev pub MayRefuse : Account → Run → Account → WorldError → Type 0
MayRefuse first due now MessageLimit = IsPastMessages due
MayRefuse first due now e = IsCutOff due.hashed first now e

-- a call that is to lead to the run `due` led to it, within the limit on messages, and the hasher took
-- the strings that `due` hashes; or it was refused
abbrev pub Reaches : {T : Type 0} → Account → Run → Result T WorldError → Run → Account → Type 0
Reaches first due (Ok x) reached now = (reached ≡ unhashed due) × IsWithinMessages due × HasHashed due.hashed first now
Reaches first due (Err e) reached now = MayRefuse first due now e

-- the same of a call that returns the world
abbrev pub RunReaches : Account → Run → Result World WorldError → Account → Type 0
RunReaches first due (Ok w) now = (run_of w ≡ unhashed due) × IsWithinMessages due × HasHashed due.hashed first now
RunReaches first due (Err e) now = MayRefuse first due now e

-- the same of a call that needs no hasher, and so is refused only at the limit or out of memory
abbrev pub Adds : {T : Type 0} → Run → Result T WorldError → Run → Type 0
Adds due (Ok x) now = (now ≡ due) × IsWithinMessages due
Adds due (Err e) now = MayStop due e

-- what was sent and printed before is a prefix of what was sent and printed now
pub record Begins (old new : World) : Type 0 where
  pub more_sent : List Frame
  pub sent : new.network.sent ≡ old.network.sent ++ more_sent
  pub more_printed : List Printed
  pub printed : new.printed.items ≡ old.printed.items ++ more_printed

-- the world after a step: its messages are sent, and its lines printed
abbrev pub reported : ℕ → Out → List Note → Run → Run
reported peer out notes w = record w {
  mail = posted_all (map (frame_from peer) out.sends) w.mail;
  printed = w.printed ++ printed_by (next_event w.events) peer out;
  notes = w.notes ++ notes;
}
