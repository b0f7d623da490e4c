-- The messages of a run.
use Rattle.std.specs.Prelude.{◌≡◌, ◌≤◌, ◌<◌, ℕ, Bool, None, List, length}
use Rattle.network.specs.Mail.{is_among, oldest, most_messages}
use Rattle.world_spec.specs.Runs.{Run}

-- the number of messages sent
abbrev pub sent_in : Run → ℕ
sent_in w = length w.mail.sent

-- the run stays within the limit on messages
abbrev pub IsWithinMessages : Run → Type 0
IsWithinMessages w = sent_in w ≤ most_messages

-- the run exceeds the limit on messages
abbrev pub IsPastMessages : Run → Type 0
IsPastMessages w = most_messages < sent_in w

-- if the run stays within the limit, no message waits between these peers
abbrev pub IsCalm : List Bool → Run → Type 0
IsCalm peers w = IsWithinMessages w → oldest (is_among peers) w.mail ≡ None
