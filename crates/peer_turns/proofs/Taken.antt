-- A frame that is taken may come to the peer.
use Rattle.std.specs.Prelude.{IfSome, Option, None, Some}
use Rattle.std.proofs.Common.{◌≡◌, ◌≤◌, sym}
use Rattle.ens_base.specs.declared.peer_words.PeerWords.{PeerWords}
use Rattle.peer_turns.specs.PeerSpec.{MayCome}
use Rattle.peer_state.specs.declared.event.Event.{Event}
use Rattle.peer_turns.specs.Ends.{ComesFrom}
use Rattle.peer_turns.proofs.Coming.{frames_fit}
use Rattle.peer_turns.specs.Turns.{event_in, is_client}
use Rattle.wire_frames.specs.Messages.{Obeys}
use Rattle.wire_frames.specs.declared.frame.Frame.{Frame}

pub may_come : (w : PeerWords) (f : Frame) (o : Option Event) → w.peers ≤ 31 → Obeys f.message → o ≡ event_in w f → IfSome o (λ e. MayCome w.me e × ComesFrom is_client e)
may_come w f None few obeys is = tt
may_come w f (Some e) few obeys is = frames_fit w f e few obeys (sym is)
