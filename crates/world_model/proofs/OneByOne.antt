-- Messages are sent one after another.
use Rattle.std.specs.Prelude.{All, map, IsErrOf, Ok, Bool, true, false, nat_lt}
use Rattle.std.proofs.lemmas.Bool.Decides.{nat_tests}
use Rattle.network.specs.declared.error.SendError.TheVariants as sends
use Rattle.std.proofs.Common.{◌≡◌, ◌≤◌, ◌<◌, ◌+◌, ℕ, List, [], ◌∷◌, ◌++◌, length, refl, sym, arith}
use Rattle.std.proofs.lemmas.List.{append-nil, append_assoc, length-append}
use Rattle.std.proofs.lemmas.List.Elements.{All-tail}
use Rattle.world_spec.specs.Held.{StartsWith}
use Rattle.world_spec.specs.PeerSpec.{MaySend}
use Rattle.network.specs.Mail.{Mail, posted, most_messages}
use Rattle.leader_output.specs.declared.out.Outgoing.{Outgoing}
use Rattle.wire_frames.specs.declared.frame.Frame.{Frame}
use Rattle.world_spec.specs.Runs.{frame_from, posted_all}

-- some of the messages have been sent, and the rest lead from here to the same mail
pub record Posting (me : ℕ) (first : Mail) (all : List Outgoing) (now : Mail) (left : List Outgoing) : Type 0 where
  pub posted : posted_all (map (frame_from me) left) now ≡ posted_all (map (frame_from me) all) first
  pub may : All (MaySend me) left
  pub begins : StartsWith first.sent now.sent
  pub count : length now.sent + length left ≡ length first.sent + length all
  pub within : length first.sent ≤ most_messages → length now.sent ≤ most_messages

pub at_first : (me : ℕ) (first : Mail) (all : List Outgoing) → All (MaySend me) all → Posting me first all first all
at_first me first all may = record { posted = refl; may = may; begins = ([], sym (append-nil first.sent)); count = refl; within = λ le. le }

length_more : (sent : List Frame) (f : Frame) (left : List Outgoing) (o : Outgoing) (whole : ℕ) → length sent + length (o ∷ left) ≡ whole → length (sent ++ f ∷ []) + length left ≡ whole
length_more sent f left o whole count = rw (length-append sent (f ∷ [])) (omega (arith, count))

room : (sent : List Frame) (f : Frame) → length sent < most_messages → length (sent ++ f ∷ []) ≤ most_messages
room sent f below = rw (length-append sent (f ∷ [])) (omega (arith, below))

pub next : (me : ℕ) (first : Mail) (all : List Outgoing) (now : Mail) (o : Outgoing) (left : List Outgoing) → length now.sent < most_messages
    → Posting me first all now (o ∷ left) → Posting me first all (posted now (frame_from me o)) left
next me first all now o left below old = record {
  posted = old.posted;
  may = All-tail (MaySend me) o left old.may;
  begins = (old.begins.0 ++ frame_from me o ∷ [], rw old.begins.1 (append_assoc first.sent old.begins.0 (frame_from me o ∷ [])));
  count = length_more now.sent (frame_from me o) left o (length first.sent + length all) old.count;
  within = λ le. room now.sent (frame_from me o) below;
}

-- if one message cannot be sent at the limit, all of them would pass the limit
pub too_many : (me : ℕ) (first : Mail) (all : List Outgoing) (now : Mail) (o : Outgoing) (left : List Outgoing) → most_messages ≤ length now.sent
    → Posting me first all now (o ∷ left) → most_messages < length first.sent + length all
too_many me first all now o left full old = omega (arith, old.count, full)

-- a message that was sent was within the limit
pub had_room : {T : Type 0} (r : T) (n : ℕ) → (most_messages ≤ n → IsErrOf {T = T} (Ok r) sends.Limit) → n < most_messages
had_room r n full = below n (nat_lt n most_messages) refl (λ h. no_error r (full h)) where
  no_error : {T : Type 0} (r : T) → IsErrOf {T = T} (Ok r) sends.Limit → ⊥
  no_error r is = grind (arith, is)

  below : (n : ℕ) (b : Bool) → nat_lt n most_messages ≡ b → (most_messages ≤ n → ⊥) → n < most_messages
  below n true is room = grind (arith, nat_tests, is)
  below n false is room = absurd (room (grind (arith, nat_tests, is)))
