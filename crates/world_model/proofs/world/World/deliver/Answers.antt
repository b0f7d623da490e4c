use Rattle.std.proofs.Common.{arith, ◌≡◌, ◌≤◌, ◌∙◌, true, false, nat_lt, Option, Some, length, refl, sym, ap, subst, slice_get}
use Rattle.std.proofs.lemmas.Bool.{lt-ltb, le-ltb}
use Rattle.std.proofs.lemmas.Grind.{common_steps}
use Rattle.network.specs.Mail.{Mail, settled}
use Rattle.peer_state.specs.declared.event.Event.TheVariants as events
use Rattle.world_spec.specs.Held.{account}
use Rattle.std.proofs.lemmas.Option.{slice_get_read, slice_get_past}
use Rattle.wire_frames.specs.declared.frame.Frame.{Frame}
use Rattle.world_spec.specs.Messages.{IsWithinMessages}
use Rattle.world_spec.specs.Runs.{Run, delivered, received_if, stepped, without_waiting}
use Rattle.world_model.specs.Worlds.{run_of}
use Rattle.world_model.proofs.Begins.{begins_by, begins_sent}
use Rattle.world_model.proofs.Loops.{received_is, lost_is}
use Rattle.world_model.proofs.Reached.{quiet_led, reaches_same, still_reaches}
use Rattle.world_model.proofs.Turning.{stops_same}
use Rattle.world_model.proofs.world.World.deliver.Goals as goal

pub returns-in_default-clause-begins : goal.returns-in_default-clause-begins
returns-in_default-clause-begins g c = begins_by c.args.self.now c.args.self.now refl refl

pub returns-in_default-clause-reaches : goal.returns-in_default-clause-reaches
returns-in_default-clause-reaches g c =
    let past : length c.args.self.now.network.sent ≤ c.args.number = grind (arith, common_steps, c.in_default.ensures.lookup, c.sent.ensures.sent) in
    still_reaches _ c.args.self.now (delivered c.args.number (run_of c.args.self.now)) (sym (ap (λ (o : Option Frame). received_if o c.args.number (run_of c.args.self.now)) (slice_get_past c.args.self.now.network.sent c.args.number past))) c.args.self.now.within

pub returns-in_err-message-clause-begins : goal.returns-in_err-message-clause-begins
returns-in_err-message-clause-begins g c = begins_by c.args.self.now c.args.self.now refl refl

pub returns-then-number-self-clause-reaches : goal.returns-then-number-self-clause-reaches
returns-then-number-self-clause-reaches g c =
    let w : Run = run_of c.args.self.now in
    let here : slice_get c.args.self.now.network.sent c.args.number ≡ Some c.in-Some.frame.now = grind (arith, common_steps, slice_get_read, c.in-Some.ensures.lookup, c.sent.ensures.sent) in
    let is : without_waiting c.args.number w ≡ delivered c.args.number w = lost_is w c.args.number c.in-Some.frame.now here (lt-ltb _ _ (omega (arith, c.if-number-self.true))) in
    quiet_led _ (delivered c.args.number w) _ (ap (λ (v : Run). v.hashed) (sym is)) (ap (λ (m : Mail). record w { mail = m }) c.settle.ensures ∙ is) (subst IsWithinMessages is c.args.self.now.within)

pub returns-then-number-self-clause-begins : goal.returns-then-number-self-clause-begins
returns-then-number-self-clause-begins g c = begins_sent c.args.self.now _ (ap (λ (m : Mail). m.sent) c.settle.ensures) refl

pub returns-clause-reaches : goal.returns-clause-reaches
returns-clause-reaches g c =
    let here : slice_get c.args.self.now.network.sent c.args.number ≡ Some c.in-Some.frame.now = grind (arith, common_steps, slice_get_read, c.in-Some.ensures.lookup, c.sent.ensures.sent) in
    let alive : nat_lt c.args.number c.args.self.now.first_alive ≡ false = le-ltb _ _ (omega (arith, c.if-number-self.false)) in
    reaches_same _ _ _ c.step_peer.result _ _ (rw c.settle-2.ensures (received_is (run_of c.args.self.now) c.args.number c.in-Some.frame.now c.in_ok-message.message here c.in_ok-message.ensures alive)) c.step_peer.ensures.reaches

pub returns-clause-stops : goal.returns-clause-stops
returns-clause-stops g c =
    let here : slice_get c.args.self.now.network.sent c.args.number ≡ Some c.in-Some.frame.now = grind (arith, common_steps, slice_get_read, c.in-Some.ensures.lookup, c.sent.ensures.sent) in
    let alive : nat_lt c.args.number c.args.self.now.first_alive ≡ false = le-ltb _ _ (omega (arith, c.if-number-self.false)) in
    let w : Run = run_of c.args.self.now in
    let due = stepped c.in-Some.frame.now.to (events.Deliver c.in-Some.frame.now.from c.in_ok-message.message) (record w { mail = settled w.mail c.args.number }) in
    let first = account g.H.Hasher16.kept g.H.Hasher16.clashes g.H.Hasher16.fulls c.args.hasher.now in
    let now = account g.H.Hasher16.kept g.H.Hasher16.clashes g.H.Hasher16.fulls c.step_peer.new.hasher in
    stops_same first due (delivered c.args.number w) now c.step_peer.result (rw c.settle-2.ensures at c.step_peer.ensures.stops)
    (received_is w c.args.number c.in-Some.frame.now c.in_ok-message.message here c.in_ok-message.ensures alive)
