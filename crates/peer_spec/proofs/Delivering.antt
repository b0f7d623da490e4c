-- A message that a rule of a phase answers.
use Rattle.std.proofs.Common.{◌≡◌, ℕ, Bool, List, Option, refl}
use Rattle.ens_base.specs.declared.entry.Entry.{Entry}
use Rattle.ens_base.specs.declared.epoch.Epoch.{Epoch}
use Rattle.ens_base.specs.declared.epoch.Version.{Version}
use Rattle.stored_formats.specs.declared.object.Object.{Object}
use Rattle.step_plans.specs.Plans.{Out, Rest}
use Rattle.step_plans.specs.declared.tasks.Task.{Task}
use Rattle.tree_node.specs.declared.body.TreeBody.{TreeBody}
use Rattle.tree_node.specs.declared.position.Position.{Position}
use Rattle.wire_frames.specs.declared.message.Message.{Message}
use Rattle.wire_frames.specs.declared.message.Message.TheVariants as messages
use Rattle.peer_spec.specs.Drives.{row_done, delivered}
use Rattle.peer_state.specs.Rows.{received}
use Rattle.peer_state.specs.declared.state.State.{State}

pub delivered_row : (me from : ℕ) (message : Message) (x : State) (out : Out) (next : Rest State (List Task))
    → ((ballot : Epoch) (round : ℕ) (key : List ℕ) → message ≡ messages.Get ballot round key → ⊥)
    → ((ballot : Epoch) (round : ℕ) (key : List ℕ) (entry : Option Entry) (object : Option Object) → message ≡ messages.GetReply ballot round key entry object → ⊥)
    → ((ballot : Epoch) (object : Object) → message ≡ messages.Put ballot object → ⊥)
    → ((ballot : Epoch) (key : List ℕ) (version : Version) → message ≡ messages.PutReply ballot key version → ⊥)
    → ((ballot : Epoch) (round : ℕ) → message ≡ messages.CheckReply ballot round → ⊥)
    → ((ballot : Epoch) (at : Position) (after : Option (List ℕ)) → message ≡ messages.TreeAsk ballot at after → ⊥)
    → ((ballot : Epoch) (at : Position) (after : Option (List ℕ)) (trusted : Bool) (body : TreeBody) → message ≡ messages.TreeGive ballot at after trusted body → ⊥)
    → delivered me from message x out next ≡ row_done me (received me from message x).1 (received me from message x).0 out next
delivered_row me from (messages.Get ballot round key) x out next get got put stored checked asked given = absurd (get ballot round key refl)
delivered_row me from (messages.GetReply ballot round key entry object) x out next get got put stored checked asked given = absurd (got ballot round key entry object refl)
delivered_row me from (messages.Put ballot object) x out next get got put stored checked asked given = absurd (put ballot object refl)
delivered_row me from (messages.PutReply ballot key version) x out next get got put stored checked asked given = absurd (stored ballot key version refl)
delivered_row me from (messages.CheckReply ballot round) x out next get got put stored checked asked given = absurd (checked ballot round refl)
delivered_row me from (messages.TreeAsk ballot at after) x out next get got put stored checked asked given = absurd (asked ballot at after refl)
delivered_row me from (messages.TreeGive ballot at after trusted body) x out next get got put stored checked asked given = absurd (given ballot at after trusted body refl)
delivered_row me from other x out next get got put stored checked asked given = refl
