-- A message whose parts keep their limits obeys what a peer is promised of a message.
use Rattle.std.proofs.Common.{◌≡◌, ℕ, List, [], ◌∷◌}
use Rattle.std.specs.Prelude.{Result, Ok, Err, IfOk}
use Rattle.ens_base.specs.declared.entry.Entry.{Entry}
use Rattle.tree_node.specs.Entries.{AreAbove, IsNext}
use Rattle.tree_node.specs.Repeats.{AreListed}
use Rattle.tree_node.specs.declared.body.TreeBody.{TreeBody}
use Rattle.tree_node.specs.declared.body.TreeBody.TheVariants as bodies
use Rattle.wire_frames.specs.declared.message.NackCause.{NackCause}
use Rattle.wire_frames.specs.declared.message.NackCause.TheVariants as causes
use Rattle.wire_frames.specs.declared.message.Message.{Message}
use Rattle.wire_frames.specs.declared.message.Message.TheVariants as messages
use Rattle.wire_frames.specs.declared.frame.Frame.{Frame}
use Rattle.wire_frames.specs.declared.error.FrameError.{FrameError}
use Rattle.wire_frames.specs.Frames.{IsFrame, frame_spelling}
use Rattle.wire_frames.specs.Parts.{IsBody, IsCause}
use Rattle.wire_frames.specs.Messages.{IsMessage, ObeysBody, ObeysCause, Obeys}

-- entries in order have keys that ascend
listed_above : (low : List ℕ) (es : List Entry) → AreListed IsNext (λ e. e.key) low es → AreAbove low es
listed_above low [] is = is
listed_above low (e ∷ es) is = (is.0.0, listed_above e.key es is.1)

cause_obeys : (c : NackCause) → IsCause c → ObeysCause c
cause_obeys (causes.Greater ballot) is = tt
cause_obeys causes.Untrusted is = tt
cause_obeys (causes.Damaged position) is = is

body_obeys : (b : TreeBody) → IsBody b → ObeysBody b
body_obeys (bodies.Inner mask digests) is = is.1.1
body_obeys (bodies.Page entries more) is = (is.0, listed_above [] entries is.1)
body_obeys (bodies.Damaged position) is = is

pub message_obeys : (m : Message) → IsMessage m → Obeys m
message_obeys (messages.Nack ballot cause) is = cause_obeys cause is.1
message_obeys (messages.TreeAsk epoch position after) is = is.1.0
message_obeys (messages.TreeGive epoch position after trusted body) is = (is.1.0, body_obeys body is.1.1.1.1)
message_obeys _ is = tt

pub frame_obeys : (bytes : List ℕ) (r : Result Frame FrameError) → IfOk r (λ f. IsFrame f × (bytes ≡ frame_spelling f)) → IfOk r (λ f. Obeys f.message)
frame_obeys bytes (Ok f) is = message_obeys f.message is.0.message
frame_obeys bytes (Err e) is = is
