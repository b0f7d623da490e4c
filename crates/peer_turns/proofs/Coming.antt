-- The frames that a peer takes may come, and its answers go to clients.
use Rattle.std.proofs.Common.{◌≡◌, ◌≢◌, ◌≤◌, subst, refl, ℕ, Bool, true, false, not, nat_le, ◌==◌, ◌&&◌, if◌then◌else◌, None, Some, arith}
use Rattle.std.proofs.lemmas.Bool.Decides.{nat_tests}
use Rattle.ens_base.specs.View.{IsPeer}
use Rattle.ens_base.specs.declared.peer_words.PeerWords.{PeerWords}
use Rattle.peer_turns.specs.PeerSpec.{MayCome}
use Rattle.peer_state.specs.declared.event.Event.{Event}
use Rattle.peer_state.specs.declared.event.Event.TheVariants as events
use Rattle.peer_turns.specs.Ends.{ComesFrom}
use Rattle.peer_turns.specs.Turns.{event_from, event_in, is_client, is_other_peer}
use Rattle.wire_frames.specs.Messages.{Obeys}
use Rattle.wire_frames.specs.declared.frame.Frame.{Frame}
use Rattle.wire_frames.specs.declared.message.Message.{Message}
use Rattle.wire_frames.specs.declared.message.Message.TheVariants as messages

-- the event may come to the peer, and a call comes from a client
abbrev pub IsFit : ℕ → Event → Type 0
IsFit me e = MayCome me e × ComesFrom is_client e

other_peer : (w : PeerWords) (n : ℕ) → w.peers ≤ 31 → is_other_peer w n ≡ true → IsPeer n × (n ≢ w.me)
other_peer w n few test = by_tests (nat_le 1 n) refl (nat_le n w.peers) refl (n == w.me) refl test
  where
    low : nat_le 1 n ≡ true → 1 ≤ n
    low is = grind (arith, nat_tests)

    high : nat_le n w.peers ≡ true → n ≤ 31
    high is = grind (arith, nat_tests, few)

    apart : (n == w.me) ≡ false → n ≢ w.me
    apart is = λ same. grind (arith, nat_tests, is, same)

    by_tests : (a : Bool) → nat_le 1 n ≡ a → (b : Bool) → nat_le n w.peers ≡ b → (c : Bool) → (n == w.me) ≡ c → (a && (b && not c)) ≡ true → IsPeer n × (n ≢ w.me)
    by_tests false a b c d e is = absurd cc
    by_tests true a false c d e is = absurd cc
    by_tests true a true c true e is = absurd cc
    by_tests true a true c false e is = ((low a, high c), apart e)

-- what is true of an event that passes a test is true of the one that there is
passing : (P : Event → Type 0) (test : Bool) (here e : Event) → (test ≡ true → P here) → (if test then Some here else None) ≡ Some e → P e
passing P true here e holds is = let same : here ≡ e = cc in subst P same (holds refl)
passing P false here e holds is = absurd cc

from_fit : (w : PeerWords) (from : ℕ) (message : Message) (e : Event) → w.peers ≤ 31 → Obeys message → event_from w from message ≡ Some e → IsFit w.me e
from_fit w from (messages.CallFrame id key command) e few obeys is = passing (IsFit w.me) (is_client from) _ e (λ client. (tt, client)) is
from_fit w from (messages.AnswerFrame id reply) e few obeys is = absurd cc
from_fit w from message e few obeys is =
    passing (IsFit w.me) (is_other_peer w from) (events.Deliver from message) e (λ other. let peer = other_peer w from few other in ((peer.0, peer.1, obeys), tt)) is

pub frames_fit : (w : PeerWords) (f : Frame) (e : Event) → w.peers ≤ 31 → Obeys f.message → event_in w f ≡ Some e → MayCome w.me e × ComesFrom is_client e
frames_fit w f e few obeys is = by (f.to == w.me) is
  where
    by : (b : Bool) → (if b then event_from w f.from f.message else None) ≡ Some e → IsFit w.me e
    by true here = from_fit w f.from f.message e few obeys here
    by false none = absurd cc
