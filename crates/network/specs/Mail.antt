-- All messages sent so far, and which of them still wait. The first message has number 0.
use Rattle.std.specs.Prelude.{◌≡◌, ◌≢◌, ◌<◌, suc, min, ◌==◌, ◌&&◌, ℕ, Bool, true, false, not, List, [], ◌∷◌, ◌++◌, length, Option, None, Some, if◌then◌else◌, slice_get, slice_index_or, slice_set}
use Rattle.std.specs.Option.{option_map, option_map_or}
use Rattle.ens_base.specs.PeerSet.{holds}
use Rattle.ens_base.specs.View.{IsPeer}
use Rattle.wire_frames.specs.Messages.{Obeys}
use Rattle.wire_frames.specs.declared.frame.Frame.{Frame}

-- the messages in the order of sending, and for each whether it waits
pub record Mail : Type 0 where
  pub sent : List Frame
  pub waits : List Bool

-- the message goes from a peer to another, both in 1 to 31, and obeys the grammar of frames
abbrev pub MayBeSent : Frame → Type 0
MayBeSent f = IsPeer f.from × IsPeer f.to × (f.from ≢ f.to) × Obeys f.message

-- nothing was sent
abbrev pub no_mail : Mail
no_mail = record { sent = []; waits = [] }

-- a message is sent: it comes after all others, and waits
abbrev pub posted : Mail → Frame → Mail
posted m f = record { sent = m.sent ++ f ∷ []; waits = m.waits ++ true ∷ [] }

-- the message of this number no longer waits; nothing changes if there is none
abbrev pub settled : Mail → ℕ → Mail
settled m n = record m { waits = slice_set m.waits n false }

-- whether the message goes from this sender to this receiver
abbrev pub goes : ℕ → ℕ → Frame → Bool
goes from to f = f.from == from && f.to == to

-- whether the message goes from this sender to a member of the set
abbrev pub goes_into : ℕ → List Bool → Frame → Bool
goes_into from peers f = f.from == from && holds peers f.to

-- whether the sender and the receiver are both in the set
abbrev pub is_among : List Bool → Frame → Bool
is_among peers f = holds peers f.from && holds peers f.to

-- the flags after a loss: the messages that pass the test no longer wait
abbrev pub waits_without : (Frame → Bool) → List Frame → List Bool → List Bool
waits_without test [] waits = waits
waits_without test (f ∷ sent) [] = []
waits_without test (f ∷ sent) (w ∷ waits) = (w && not (test f)) ∷ waits_without test sent waits

-- all messages from this sender to this receiver are lost
abbrev pub lost : ℕ → ℕ → Mail → Mail
lost from to m = record m { waits = waits_without (goes from to) m.sent m.waits }

-- the least number of a message that waits and passes the test
abbrev pub least : (Frame → Bool) → List Frame → List Bool → Option ℕ
least test [] waits = None
least test (f ∷ sent) [] = None
least test (f ∷ sent) (w ∷ waits) = if w && test f then Some 0 else option_map (λ n. suc n) (least test sent waits)

-- the number of the oldest message that waits and passes the test
abbrev pub oldest : (Frame → Bool) → Mail → Option ℕ
oldest test m = least test m.sent m.waits

-- the lesser of two numbers, or the only one present
abbrev pub older : Option ℕ → Option ℕ → Option ℕ
older None second = second
older (Some a) second = Some (option_map_or (min a) second a)

-- whether there is a message of this number that waits and passes the test
abbrev pub is_waiting : (Frame → Bool) → Mail → ℕ → Bool
is_waiting test m n = slice_index_or m.waits n false && option_map_or test (slice_get m.sent n) false

-- no message with a lower number waits and passes the test
abbrev pub IsClear : (Frame → Bool) → ℕ → Mail → Type 0
IsClear test k m = (n : ℕ) → n < k → is_waiting test m n ≡ false

-- there is one flag for each message
abbrev pub IsMail : Mail → Type 0
IsMail m = length m.waits ≡ length m.sent

-- the greatest number of messages that are ever sent
abbrev pub most_messages : ℕ
most_messages = 500000
