-- How a script is written, and what may stand in one.
use Rattle.std.specs.Prelude.{ℕ, ◌+◌, ◌<◌, ◌≤◌, ◌^◌, List, [], ◌∷◌, length, map, codes, Option, Some, None}
use Rattle.std.specs.Fmt.{decimal}
use Rattle.std.specs.List.{join_with_byte}
use Rattle.ens_base.specs.Limits.{IsKey, IsCommand}
use Rattle.ens_base.specs.Lists.{AreDistinct}
use Rattle.ens_base.specs.View.{IsView}
use Rattle.ens_base.specs.Words.{bytes_word}
use Rattle.lexemes.specs.Spelling.{AreMembers, IsAmong, member_words}
use Rattle.schedule_text.specs.Keywords.{command_word}
use Rattle.schedule_text.specs.Spelling.{MayStand as MayStandInSchedule, event_words, name_of, operand_words, peers_line, view_line}
use Rattle.schedule_text.specs.Writing.{feeds}
use Rattle.schedule_text.specs.declared.event.ScheduleEvent.{ScheduleEvent}
use Rattle.schedule_text.specs.declared.event.ScheduleEvent.TheVariants as schedule
use Rattle.scripts.specs.Keywords.{keyword_word}
use Rattle.scripts.specs.Progress.{id_of}
use Rattle.scripts.specs.declared.slots.Ensemble.{Ensemble}
use Rattle.scripts.specs.declared.slots.Ensemble.TheVariants.{Root, Slot}
use Rattle.scripts.specs.declared.event.RootEvent.{RootEvent}
use Rattle.scripts.specs.declared.event.RootEvent.TheVariants.{At, Open, Look, Route}
use Rattle.scripts.specs.declared.keyword.Keyword.TheVariants as line
use Rattle.scripts.specs.declared.script.RootScript.{RootScript}

-- an ensemble
abbrev pub ensemble_word : Ensemble → List ℕ
ensemble_word Root = codes "r"
ensemble_word (Slot slot) = decimal slot

-- the words of an event
abbrev pub root_event_words : RootEvent → List (List ℕ)
root_event_words (At ensemble event) = keyword_word line.At ∷ ensemble_word ensemble ∷ event_words event
root_event_words (Open peer id slot view) = keyword_word line.Open ∷ decimal peer ∷ decimal id ∷ decimal slot ∷ member_words view
root_event_words (Look peer id slot) = keyword_word line.Look ∷ decimal peer ∷ decimal id ∷ decimal slot ∷ []
root_event_words (Route peer id key command) =
    keyword_word line.Route ∷ decimal peer ∷ decimal id ∷ command_word (name_of command) ∷ bytes_word key ∷ operand_words command

-- an event, as a line without its line feed: its words with single spaces between them
abbrev pub root_event_line : RootEvent → List ℕ
root_event_line event = join_with_byte 32 (root_event_words event)

-- the first line
abbrev pub root_line : List ℕ
root_line = codes "root 1"

-- the lines of a script
abbrev pub script_lines : RootScript → List (List ℕ)
script_lines s = root_line ∷ peers_line s.peers ∷ view_line s.view ∷ map root_event_line s.events

-- a script: its lines, each with a line feed at its end
abbrev pub script_text : RootScript → List ℕ
script_text s = feeds (script_lines s)

-- an ensemble of a script
abbrev pub IsEnsemble : Ensemble → Type 0
IsEnsemble Root = Unit {0}
IsEnsemble (Slot slot) = slot ≤ 63

-- an event that may stand behind `at`: no call, and no change of the form of an ensemble
abbrev pub MayFollowAt : ScheduleEvent → Type 0
MayFollowAt (schedule.Call peer id key command) = ⊥
MayFollowAt (schedule.Upgrade peer) = ⊥
MayFollowAt schedule.Deepen = ⊥
MayFollowAt _ = Unit {0}

-- an event that may stand in a script of so many peers
abbrev pub MayStand : ℕ → RootEvent → Type 0
MayStand peers (At ensemble event) = IsEnsemble ensemble × MayFollowAt event × MayStandInSchedule peers event
MayStand peers (Open peer id slot view) = IsAmong peers peer × (id < 2 ^ 64) × (slot ≤ 63) × AreMembers peers view × IsView view
MayStand peers (Look peer id slot) = IsAmong peers peer × (id < 2 ^ 64) × (slot ≤ 63)
MayStand peers (Route peer id key command) = IsAmong peers peer × (id < 2 ^ 64) × IsKey key × IsCommand command

-- each event may stand in a script of so many peers
abbrev pub AllMayStand : ℕ → List RootEvent → Type 0
AllMayStand peers [] = Unit {0}
AllMayStand peers (event ∷ more) = MayStand peers event × AllMayStand peers more

-- an id, if there is one, in front of others
abbrev pub with_id : Option ℕ → List ℕ → List ℕ
with_id None ids = ids
with_id (Some id) ids = id ∷ ids

-- the ids of the calls of a list of events, in order
abbrev pub ids_of : List RootEvent → List ℕ
ids_of [] = []
ids_of (event ∷ more) = with_id (id_of event) (ids_of more)

-- a script: 1 to 31 peers, a view of them, and events that may stand, whose calls have distinct ids
pub record IsScript (s : RootScript) : Type 0 where
  pub peers : (1 ≤ s.peers) × (s.peers ≤ 31)
  pub view : AreMembers s.peers s.view × IsView s.view
  pub events : AllMayStand s.peers s.events
  pub distinct : AreDistinct (ids_of s.events)
  pub lines : length s.events + 3 ≤ 200000
