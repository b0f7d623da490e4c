-- What reading one event line gives: the event, or the first cause for which the line is refused.
use Rattle.std.specs.Prelude.{ℕ, ◌-◌, ◌^◌, not, ◌==◌, ◌||◌, nat_lt, if◌then◌else◌, List, [], ◌∷◌, length, Option, Result, Ok, Err}
use Rattle.ens_base.specs.declared.command.Command.{Command}
use Rattle.ens_base.specs.declared.command.Command.TheVariants as does
use Rattle.ens_base.specs.Results.{◌>>=◌}
use Rattle.lexemes.specs.Causes.{or_cause}
use Rattle.lexemes.specs.Words.{words_of, number_of, peer_of, key_of, value_of, content_of, version_of, members_of, view_of}
use Rattle.lexemes.specs.declared.cause.Cause.{Cause}
use Rattle.lexemes.specs.declared.cause.Cause.TheVariants.{TooLong, Unknown, Words, Number}
use Rattle.schedule_text.specs.Arguments.{has_empty, none_of, one_of, two_of, three_of, four_of, first_of, some_of}
use Rattle.schedule_text.specs.Keywords.{keyword_of, command_of, operand_count, store_of, survivor_of}
use Rattle.schedule_text.specs.declared.keyword.Keyword.{Keyword}
use Rattle.schedule_text.specs.declared.keyword.Keyword.TheVariants as line
use Rattle.schedule_text.specs.declared.keyword.CommandName.{CommandName}
use Rattle.schedule_text.specs.declared.keyword.CommandName.TheVariants as name
use Rattle.schedule_text.specs.declared.event.ScheduleEvent.{ScheduleEvent}
use Rattle.schedule_text.specs.declared.event.ScheduleEvent.TheVariants.{Call, Tick, Deliver, Pass, Lose, Calm, CalmAmong, Change, Stop, Start, Upgrade, Deepen, Spoil, Damage, Inner, Revert, Fail}

-- a command, from the words behind its key
abbrev pub operation_of : CommandName → List (List ℕ) → Result Command Cause
operation_of name.Get words = none_of words >>= λ _. Ok does.Get
operation_of name.Once words = one_of words >>= λ w. value_of w >>= λ value. Ok (does.PutOnce value)
operation_of name.Update words = do
  w ← two_of words
  stamp ← version_of w.0
  value ← value_of w.1
  Ok (does.Update stamp value)
operation_of name.Append words = one_of words >>= λ w. value_of w >>= λ tail. Ok (does.Append tail)
operation_of name.Add words = one_of words >>= λ w. number_of 0 (2 ^ 64 - 1) w >>= λ amount. Ok (does.Add amount)
operation_of name.Swap words = do
  w ← two_of words
  old ← value_of w.0
  new ← value_of w.1
  Ok (does.Swap old new)
operation_of name.Over words = one_of words >>= λ w. value_of w >>= λ value. Ok (does.Over value)
operation_of name.Delete words = none_of words >>= λ _. Ok does.Delete

-- a call, from the words of its peer, its id, its key and its operands
abbrev pub call_from : ℕ → List ℕ → List ℕ → CommandName → List ℕ → List (List ℕ) → Result ScheduleEvent Cause
call_from peers p i name k operands = do
  peer ← peer_of peers p
  id ← number_of 0 (2 ^ 64 - 1) i
  key ← key_of k
  command ← operation_of name operands
  Ok (Call peer id key command)

-- a call of a known command: so many words, and none empty
abbrev pub call_named : ℕ → CommandName → List (List ℕ) → Result ScheduleEvent Cause
call_named peers name (p ∷ i ∷ c ∷ k ∷ operands) =
    if has_empty (p ∷ i ∷ c ∷ k ∷ operands) || not (length operands == operand_count name) then Err Words
    else call_from peers p i name k operands
call_named peers name _ = Err Words

-- P ID COMMAND KEY ARGS; the command is looked up before the words are counted
abbrev pub call_of : ℕ → List (List ℕ) → Result ScheduleEvent Cause
call_of peers (p ∷ i ∷ c ∷ more) = or_cause Unknown (command_of c) >>= λ name. call_named peers name (p ∷ i ∷ c ∷ more)
call_of peers _ = Err Words

-- P N
abbrev pub tick_of : ℕ → List (List ℕ) → Result ScheduleEvent Cause
tick_of peers words = do
  w ← two_of words
  peer ← peer_of peers w.0
  ticks ← number_of 1 100 w.1
  Ok (Tick peer ticks)

-- N
abbrev pub deliver_of : List (List ℕ) → Result ScheduleEvent Cause
deliver_of words = do
  w ← one_of words
  message ← number_of 1 (2 ^ 64 - 1) w
  Ok (Deliver message)

-- P
abbrev pub one_peer_of : ℕ → List (List ℕ) → Result ℕ Cause
one_peer_of peers words = one_of words >>= λ w. peer_of peers w

-- A B
abbrev pub two_peers_of : ℕ → List (List ℕ) → Result (ℕ × ℕ) Cause
two_peers_of peers words = do
  w ← two_of words
  sender ← peer_of peers w.0
  receiver ← peer_of peers w.1
  Ok (sender, receiver)

-- nothing, or P ..
abbrev pub calm_of : ℕ → List (List ℕ) → Result ScheduleEvent Cause
calm_of peers [] = Ok Calm
calm_of peers (p ∷ more) = some_of (p ∷ more) >>= λ w. members_of peers w >>= λ members. Ok (CalmAmong members)

-- P M ..
abbrev pub change_of : ℕ → List (List ℕ) → Result ScheduleEvent Cause
change_of peers words = do
  w ← first_of words
  peer ← peer_of peers w.0
  view ← view_of peers w.1
  Ok (Change peer view)

-- P KEY BYTES
abbrev pub placed_of : ℕ → List (List ℕ) → Result (ℕ × List ℕ × Option (List ℕ)) Cause
placed_of peers words = do
  w ← three_of words
  peer ← peer_of peers w.0
  key ← key_of w.1
  bytes ← content_of w.2
  Ok (peer, key, bytes)

-- P LEVEL INDEX BYTES
abbrev pub inner_of : ℕ → List (List ℕ) → Result ScheduleEvent Cause
inner_of peers words = do
  w ← four_of words
  peer ← peer_of peers w.0
  level ← number_of 0 4 w.1
  index ← number_of 0 (16 ^ level - 1) w.2
  bytes ← content_of w.3
  Ok (Inner peer level index bytes)

-- P N
abbrev pub revert_of : ℕ → List (List ℕ) → Result ScheduleEvent Cause
revert_of peers words = do
  w ← two_of words
  peer ← peer_of peers w.0
  changes ← number_of 1 1000000 w.1
  Ok (Revert peer changes)

-- nothing
abbrev pub deepen_of : List (List ℕ) → Result ScheduleEvent Cause
deepen_of words = none_of words >>= λ _. Ok Deepen

-- P STORE OLD
abbrev pub fail_of : ℕ → List (List ℕ) → Result ScheduleEvent Cause
fail_of peers words = do
  w ← three_of words
  peer ← peer_of peers w.0
  store ← or_cause Number (store_of w.1)
  survivor ← or_cause Number (survivor_of w.2)
  Ok (Fail peer store survivor)

-- a line, from the words behind its keyword
abbrev pub keyword_event : ℕ → Keyword → List (List ℕ) → Result ScheduleEvent Cause
keyword_event peers line.Call words = call_of peers words
keyword_event peers line.Tick words = tick_of peers words
keyword_event peers line.Deliver words = deliver_of words
keyword_event peers line.Pass words = two_peers_of peers words >>= λ x. Ok (Pass x.0 x.1)
keyword_event peers line.Lose words = two_peers_of peers words >>= λ x. Ok (Lose x.0 x.1)
keyword_event peers line.Calm words = calm_of peers words
keyword_event peers line.Change words = change_of peers words
keyword_event peers line.Stop words = one_peer_of peers words >>= λ peer. Ok (Stop peer)
keyword_event peers line.Start words = one_peer_of peers words >>= λ peer. Ok (Start peer)
keyword_event peers line.Upgrade words = one_peer_of peers words >>= λ peer. Ok (Upgrade peer)
keyword_event peers line.Deepen words = deepen_of words
keyword_event peers line.Spoil words = placed_of peers words >>= λ x. Ok (Spoil x.0 x.1 x.2)
keyword_event peers line.Damage words = placed_of peers words >>= λ x. Ok (Damage x.0 x.1 x.2)
keyword_event peers line.Inner words = inner_of peers words
keyword_event peers line.Revert words = revert_of peers words
keyword_event peers line.Fail words = fail_of peers words

-- a line, from its words: its keyword first, then the words behind it
abbrev pub words_event : ℕ → List (List ℕ) → Result ScheduleEvent Cause
words_event peers [] = Err Unknown
words_event peers (first ∷ words) = or_cause Unknown (keyword_of first) >>= λ keyword. keyword_event peers keyword words

-- the most bytes of a line
abbrev pub line_limit : ℕ
line_limit = 4400

-- an event line, read where there are so many peers
abbrev pub event_of : ℕ → List ℕ → Result ScheduleEvent Cause
event_of peers text = if nat_lt line_limit (length text) then Err TooLong else words_event peers (words_of text)
