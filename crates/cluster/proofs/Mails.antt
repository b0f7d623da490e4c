-- What a recorded event makes of the messages: it may deliver one, and then sends some.
use Rattle.std.proofs.Common.{◌≡◌, ◌<◌, ◌+◌, ◌-◌, ◌∙◌, ℕ, zero, suc, nat_lt, Bool, true, false, if◌then◌else◌, List, [], ◌∷◌, ◌++◌, length, map, Option, None, Some, refl, sym, ap, arith, slice_get}
use Rattle.network.proofs.MailLaws.{is_mail_settled}
use Rattle.network.specs.Mail.{IsMail, Mail, posted, settled}
use Rattle.peer_state.specs.declared.event.Event.{Event}
use Rattle.peer_state.specs.declared.event.Event.TheVariants as events
use Rattle.schedule_text.specs.declared.event.ScheduleEvent.{ScheduleEvent}
use Rattle.schedule_text.specs.declared.event.ScheduleEvent.TheVariants.{Call, Tick, Deliver, Change, Stop, Start}
use Rattle.wire_frames.specs.declared.frame.Frame.{Frame}
use Rattle.world_spec.specs.Lines.{applied, call_of}
use Rattle.world_spec.specs.Nodes.{Node, started, stopped, taken}
use Rattle.world_spec.specs.Runs.{Run, mode_at, frame_from, place_of, posted_all, received, without_waiting, received_if, stepped, stepped_at, ticked}
use Rattle.world_spec.proofs.Growth.{changed_mail}
use Rattle.cluster.specs.Messages.{MayBeRecorded, mail_before}
pub use Rattle.world_spec.proofs.Growth.{posted_mail, sent_after}

-- messages are sent, one after another
pub record Posts (m n : Mail) : Type 0 where
  pub frames : List Frame
  pub are : n ≡ posted_all frames m

posts_none : (m n : Mail) → n ≡ m → Posts m n
posts_none m n same = record { frames = []; are = same }

pub posted_more : (xs ys : List Frame) (m : Mail) → posted_all (xs ++ ys) m ≡ posted_all ys (posted_all xs m)
posted_more [] ys m = refl
posted_more (f ∷ xs) ys m = posted_more xs ys (posted m f)

posts_on : (a b c : Mail) → Posts a b → Posts b c → Posts a c
posts_on a b c first last = record {
  frames = first.frames ++ last.frames;
  are = last.are ∙ ap (posted_all last.frames) first.are ∙ sym (posted_more first.frames last.frames a);
}

stepped_at_posts : (node : Option Node) (peer : ℕ) (event : Event) (w : Run) → Posts w.mail (stepped_at node peer event w).mail
stepped_at_posts None peer event w = posts_none w.mail w.mail refl
stepped_at_posts (Some node) peer event w = record { frames = map (frame_from peer) (taken peer event node).out.sends; are = refl }

stepped_posts : (peer : ℕ) (event : Event) (w : Run) → Posts w.mail (stepped peer event w).mail
stepped_posts peer event w = stepped_at_posts (slice_get w.nodes (place_of peer)) peer event w

ticked_posts : (peer n : ℕ) (w : Run) → Posts w.mail (ticked peer n w).mail
unfolding ticked
ticked_posts peer zero w = posts_none w.mail w.mail refl
ticked_posts peer (suc n) w = posts_on w.mail (stepped peer events.Tick w).mail (ticked peer n (stepped peer events.Tick w)).mail (stepped_posts peer events.Tick w) (ticked_posts peer n (stepped peer events.Tick w))

-- a message that was sent
sent_at : (sent : List Frame) (n : ℕ) → n < length sent → (f : Frame) × (slice_get sent n ≡ Some f)
sent_at [] n below = absurd (omega (arith, below))
sent_at (f ∷ sent) zero below = (f, refl)
sent_at (f ∷ sent) (suc n) below = sent_at sent n (omega (arith, below))

received_posts : (found : Option Frame) (f : Frame) (n : ℕ) (w : Run) → found ≡ Some f → Posts (settled w.mail n) (received_if found n w).mail
received_posts found f n w is = rw is (by (nat_lt n w.first_alive))
  where
    by : (lost : Bool) → Posts (settled w.mail n) (if lost then without_waiting n w else received f n w).mail
    by true = posts_none (settled w.mail n) (settled w.mail n) refl
    by false = stepped_posts f.to (events.Deliver f.from f.message) (without_waiting n w)

-- an event that may be recorded next sends some messages, once the one that it delivers is settled
pub applied_posts : (peers : ℕ) (event : ScheduleEvent) (w : Run) → MayBeRecorded peers w.mail event → Posts (mail_before event w.mail) (applied event w).mail
applied_posts peers (Call peer id key command) w may = stepped_posts peer (events.Call (call_of id key command)) w
applied_posts peers (Tick peer ticks) w may = ticked_posts peer ticks w
applied_posts peers (Deliver message) w may =
    let at = sent_at w.mail.sent (message - 1) (omega (arith, may.0, may.1)) in
    received_posts (slice_get w.mail.sent (message - 1)) at.0 (message - 1) w at.1
applied_posts peers (Change peer view) w may = stepped_posts peer (events.Change view) w
applied_posts peers (Stop peer) w may = posts_none w.mail (applied (Stop peer) w).mail (changed_mail peer stopped w)
applied_posts peers (Start peer) w may = posts_none w.mail (applied (Start peer) w).mail (changed_mail peer (started (mode_at peer w) w.view) w)
applied_posts peers event w may = absurd may.0

-- ---- the messages that were sent

pub sent_before : (event : ScheduleEvent) (m : Mail) → (mail_before event m).sent ≡ m.sent
sent_before (Deliver message) m = refl
sent_before event m = refl

pub mail_before_is : (event : ScheduleEvent) (m : Mail) → IsMail m → IsMail (mail_before event m)
mail_before_is (Deliver message) m is = is_mail_settled m (message - 1) is
mail_before_is event m is = is
