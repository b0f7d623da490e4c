-- How a schedule is written, and what may stand in one.
use Rattle.std.specs.Prelude.{ℕ, ◌+◌, ◌<◌, ◌≤◌, ◌^◌, List, [], ◌∷◌, length, map, drop, codes}
use Rattle.std.specs.Fmt.{decimal}
use Rattle.std.specs.List.{join_with_byte}
use Rattle.ens_base.specs.Limits.{IsKey, IsCommand}
use Rattle.ens_base.specs.Lists.{AreDistinct}
use Rattle.ens_base.specs.View.{IsView}
use Rattle.ens_base.specs.Words.{bytes_word, value_word, version_word}
use Rattle.ens_base.specs.declared.command.Command.{Command}
use Rattle.ens_base.specs.declared.command.Command.TheVariants as does
use Rattle.lexemes.specs.Spelling.{AreMembers, IsAmong, IsContent, content_word, member_words}
use Rattle.schedule_text.specs.Forms.{ensemble_line}
use Rattle.schedule_text.specs.Keywords.{keyword_word, command_word, store_word, survivor_word}
use Rattle.schedule_text.specs.Writing.{feeds}
use Rattle.schedule_text.specs.declared.keyword.Keyword.TheVariants as line
use Rattle.schedule_text.specs.declared.keyword.CommandName.{CommandName}
use Rattle.schedule_text.specs.declared.keyword.CommandName.TheVariants as name
use Rattle.schedule_text.specs.declared.event.ScheduleEvent.{ScheduleEvent}
use Rattle.schedule_text.specs.declared.event.ScheduleEvent.TheVariants.{Call, Tick, Deliver, Pass, Lose, Calm, CalmAmong, Change, Stop, Start, Upgrade, Deepen, Spoil, Damage, Inner, Revert, Fail}
use Rattle.schedule_text.specs.declared.schedule.Schedule.{Schedule}

-- the name of a command
abbrev pub name_of : Command → CommandName
name_of does.Get = name.Get
name_of (does.PutOnce value) = name.Once
name_of (does.Update stamp value) = name.Update
name_of (does.Append tail) = name.Append
name_of (does.Add amount) = name.Add
name_of (does.Swap old new) = name.Swap
name_of (does.Over value) = name.Over
name_of does.Delete = name.Delete

-- the words of a command behind its key
abbrev pub operand_words : Command → List (List ℕ)
operand_words does.Get = []
operand_words (does.PutOnce value) = value_word value ∷ []
operand_words (does.Update stamp value) = version_word stamp ∷ value_word value ∷ []
operand_words (does.Append tail) = value_word tail ∷ []
operand_words (does.Add amount) = decimal amount ∷ []
operand_words (does.Swap old new) = value_word old ∷ value_word new ∷ []
operand_words (does.Over value) = value_word value ∷ []
operand_words does.Delete = []

-- the words of an event
abbrev pub event_words : ScheduleEvent → List (List ℕ)
event_words (Call peer id key command) =
    keyword_word line.Call ∷ decimal peer ∷ decimal id ∷ command_word (name_of command) ∷ bytes_word key ∷ operand_words command
event_words (Tick peer ticks) = keyword_word line.Tick ∷ decimal peer ∷ decimal ticks ∷ []
event_words (Deliver message) = keyword_word line.Deliver ∷ decimal message ∷ []
event_words (Pass sender receiver) = keyword_word line.Pass ∷ decimal sender ∷ decimal receiver ∷ []
event_words (Lose sender receiver) = keyword_word line.Lose ∷ decimal sender ∷ decimal receiver ∷ []
event_words Calm = keyword_word line.Calm ∷ []
event_words (CalmAmong members) = keyword_word line.Calm ∷ member_words members
event_words (Change peer view) = keyword_word line.Change ∷ decimal peer ∷ member_words view
event_words (Stop peer) = keyword_word line.Stop ∷ decimal peer ∷ []
event_words (Start peer) = keyword_word line.Start ∷ decimal peer ∷ []
event_words (Upgrade peer) = keyword_word line.Upgrade ∷ decimal peer ∷ []
event_words Deepen = keyword_word line.Deepen ∷ []
event_words (Spoil peer key bytes) = keyword_word line.Spoil ∷ decimal peer ∷ bytes_word key ∷ content_word bytes ∷ []
event_words (Damage peer key bytes) = keyword_word line.Damage ∷ decimal peer ∷ bytes_word key ∷ content_word bytes ∷ []
event_words (Inner peer level index bytes) = keyword_word line.Inner ∷ decimal peer ∷ decimal level ∷ decimal index ∷ content_word bytes ∷ []
event_words (Revert peer changes) = keyword_word line.Revert ∷ decimal peer ∷ decimal changes ∷ []
event_words (Fail peer store survivor) = keyword_word line.Fail ∷ decimal peer ∷ store_word store ∷ survivor_word survivor ∷ []

-- the words of an event behind its keyword
abbrev pub argument_words : ScheduleEvent → List (List ℕ)
argument_words event = drop 1 (event_words event)

-- an event, as a line without its line feed: its words with single spaces between them
abbrev pub event_line : ScheduleEvent → List ℕ
event_line event = join_with_byte 32 (event_words event)

-- the second line, for so many peers
abbrev pub peers_line : ℕ → List ℕ
peers_line peers = join_with_byte 32 (codes "peers" ∷ decimal peers ∷ [])

-- the third line, for the view that the peers open with
abbrev pub view_line : List ℕ → List ℕ
view_line view = join_with_byte 32 (codes "view" ∷ member_words view)

-- the lines of a schedule
abbrev pub schedule_lines : Schedule → List (List ℕ)
schedule_lines s = ensemble_line s.form ∷ peers_line s.peers ∷ view_line s.view ∷ map event_line s.events

-- a schedule: its lines, each with a line feed at its end
abbrev pub schedule_text : Schedule → List ℕ
schedule_text s = feeds (schedule_lines s)

-- an event that may stand in a schedule of so many peers
abbrev pub MayStand : ℕ → ScheduleEvent → Type 0
MayStand peers (Call peer id key command) = IsAmong peers peer × (id < 2 ^ 64) × IsKey key × IsCommand command
MayStand peers (Tick peer ticks) = IsAmong peers peer × (1 ≤ ticks) × (ticks ≤ 100)
MayStand peers (Deliver message) = (1 ≤ message) × (message < 2 ^ 64)
MayStand peers (Pass sender receiver) = IsAmong peers sender × IsAmong peers receiver
MayStand peers (Lose sender receiver) = IsAmong peers sender × IsAmong peers receiver
MayStand peers Calm = Unit {0}
MayStand peers (CalmAmong members) = (1 ≤ length members) × AreMembers peers members
MayStand peers (Change peer view) = IsAmong peers peer × AreMembers peers view × IsView view
MayStand peers (Stop peer) = IsAmong peers peer
MayStand peers (Start peer) = IsAmong peers peer
MayStand peers (Upgrade peer) = IsAmong peers peer
MayStand peers Deepen = Unit {0}
MayStand peers (Spoil peer key bytes) = IsAmong peers peer × IsKey key × IsContent bytes
MayStand peers (Damage peer key bytes) = IsAmong peers peer × IsKey key × IsContent bytes
MayStand peers (Inner peer level index bytes) = IsAmong peers peer × (level ≤ 4) × (index < 16 ^ level) × IsContent bytes
MayStand peers (Revert peer changes) = IsAmong peers peer × (1 ≤ changes) × (changes ≤ 1000000)
MayStand peers (Fail peer store survivor) = IsAmong peers peer

-- the ids of the calls of a list of events, in order
abbrev pub call_ids : List ScheduleEvent → List ℕ
call_ids [] = []
call_ids (Call peer id key command ∷ more) = id ∷ call_ids more
call_ids (_ ∷ more) = call_ids more

-- each event may stand in a schedule of so many peers
abbrev pub AllMayStand : ℕ → List ScheduleEvent → Type 0
AllMayStand peers [] = Unit {0}
AllMayStand peers (event ∷ more) = MayStand peers event × AllMayStand peers more

-- a schedule: 1 to 31 peers, a view of them, and events that may stand, whose calls have distinct ids
pub record IsSchedule (s : Schedule) : Type 0 where
  pub peers : (1 ≤ s.peers) × (s.peers ≤ 31)
  pub view : AreMembers s.peers s.view × IsView s.view
  pub events : AllMayStand s.peers s.events
  pub distinct : AreDistinct (call_ids s.events)
  pub lines : length s.events + 3 ≤ 200000
