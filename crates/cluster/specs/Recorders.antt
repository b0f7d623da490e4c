-- How far a recorder has come, and why it stopped.
use Rattle.std.specs.Prelude.{◌≡◌, ◌≤◌, ◌+◌, ℕ, List, [], ◌∷◌, ◌++◌, length, Option, Result, Ok, Err}
use Rattle.ens_base.specs.Causes.{Rose}
use Rattle.ens_base.specs.declared.peer_words.ClusterWords.{ClusterWords}
use Rattle.environment.specs.declared.errors.LinkError.{LinkError}
use Rattle.environment.specs.declared.errors.LinkError.TheVariants.{Failed}
use Rattle.scripts.specs.declared.line.ScriptLine.{ScriptLine}
use Rattle.cluster.specs.Messages.{AllRecorded}
use Rattle.cluster.specs.Recordings.{Follows, IsPart, IsRunOf, Recording, frames_of, heard_all, recorded}
use Rattle.network.specs.Indexes.{Indexes}
use Rattle.world_model.specs.WorldSpec.{Account, HasHashed, applied, IsWithinMessages, unhashed}
use Rattle.network.specs.Mail.{IsMail, Mail}
use Rattle.replay.specs.Stops.{StopsIn}
use Rattle.replay.specs.Worlds.{schedule_run}
use Rattle.schedule_text.specs.declared.event.ScheduleEvent.{ScheduleEvent}
use Rattle.world_model.specs.Turns.{StopsAmong, turn, turns_of}
use Rattle.world_model.specs.Worlds.{run_of}
use Rattle.world_model.specs.declared.error.WorldError.{WorldError}
use Rattle.cluster.specs.Ends.{CameThere, Handed, HandedPrefix, IsPastLines, Looked, LookedUntil, Went, WentUntil, frames_before, frames_between, opening, recorded_schedule}
use Rattle.cluster.specs.declared.recorder.Recorder.{Recorder}
use Rattle.cluster.specs.declared.stop.Stop.{Stop}
use Rattle.cluster.specs.declared.stop.Stop.TheVariants.{Lines, World, Link}

-- the messages of the run that was recorded
abbrev pub mail_in : Recorder → Mail
mail_in c = (schedule_run c.schedule).mail

-- the world of a recorder is the run of the schedule that it recorded, and its index has the messages of this
-- mail
pub record IsInStep (c : Recorder) (m : Mail) : Type 0 where
  pub world : run_of c.world ≡ unhashed (schedule_run c.schedule)
  pub many : length c.world.peers.items ≡ c.schedule.peers
  pub mail : IsMail (mail_in c)
  pub index : Indexes c.index m
  pub within : IsWithinMessages (schedule_run c.schedule)
  pub stand : AllRecorded c.schedule.peers c.schedule.events
  pub few : length c.schedule.events + 3 ≤ 200000

-- an event was applied to the world, and added to the schedule
pub record Applied (event : ScheduleEvent) (c d : Recorder) (first now : Account) : Type 0 where
  pub world : run_of d.world ≡ unhashed (applied event (run_of c.world))
  pub within : IsWithinMessages (applied event (run_of c.world))
  pub has : HasHashed (applied event (run_of c.world)).hashed first now
  pub schedule : d.schedule ≡ record c.schedule { events = c.schedule.events ++ event ∷ [] }
  pub index : d.index ≡ c.index

-- it was, or an error of the world stopped it in one of its turns
abbrev pub Applies : ScheduleEvent → Recorder → Account → Result (Unit {0}) Stop → Recorder → Account → Type 0
Applies event c first (Ok x) d now = Applied event c d first now
Applies event c first (Err (World e)) d now = StopsAmong (turns_of event) (turn event) (run_of c.world) first now e
Applies event c first (Err stop) d now = ⊥

-- the peers have just started, and nothing is recorded yet
pub record IsOpened (w : ClusterWords) (c : Recorder) (first now : Account) : Type 0 where
  pub step : IsInStep c (mail_in c)
  pub schedule : c.schedule ≡ recorded_schedule w (opening w)
  pub took : HasHashed (opening w).run.hashed first now

-- why the peers did not start: the hasher rejected one of their strings, or memory ran out
abbrev pub IsUnopened : ClusterWords → Stop → Account → Account → Type 0
IsUnopened w (World e) first now = StopsIn (recorded_schedule w (opening w)) first now e
IsUnopened w stop first now = ⊥

module _ {L : Type 0} (sent : L → Option (List (ℕ × List ℕ))) (given : L → Option (List (Option (List ℕ)))) (faults : L → ℕ)
    (w : ClusterWords) (first : Account) (a : L) where
  -- A recorder that began with this account and this link has recorded this, and its looks gave this. Every
  -- message of the run was handed to the link.
  pub record Reached (looks : List (Option (List ℕ))) (r : Recording) (c : Recorder) (b : L) (now : Account) : Type 0 where
    pub schedule : c.schedule ≡ recorded_schedule w r
    pub is : IsRunOf w.peers w.view r
    pub took : HasHashed r.run.hashed first now
    pub handed : Handed sent given looks (frames_of r.run) a b
    pub grown : length (frames_before w r) ≤ length (frames_of r.run)
    pub later : faults a ≤ faults b

  -- The world stopped the recorder in the line that was to be recorded last, or before the first one.
  pub record StopsInWorld (looks : List (Option (List ℕ))) (s : Recording) (e : WorldError) (b : L) (now : Account) : Type 0 where
    pub stops : StopsIn (recorded_schedule w s) first now e
    pub stand : AllRecorded w.peers s.events
    pub few : length s.events + 3 ≤ 200000
    pub came : CameThere first w s
    pub handed : Handed sent given looks (frames_before w s) a b

  -- The link stopped it, or memory ran out: a prefix of the messages of the run was handed to the link, with all
  -- that were sent before the line that was recorded last.
  pub record StopsInLink (looks : List (Option (List ℕ))) (s : Recording) (e : LinkError) (b : L) : Type 0 where
    pub prefix : List (ℕ × List ℕ)
    pub rest : List (ℕ × List ℕ)
    pub all : frames_of s.run ≡ prefix ++ rest
    pub most : length (frames_before w s) ≤ length prefix
    pub handed : Handed sent given looks prefix a b
    pub cause : e ≡ Failed → Rose (faults a) (faults b)

  -- why the recorder stopped in the line that was to be recorded last
  abbrev pub StopsAt : List (Option (List ℕ)) → Recording → Stop → L → Account → Type 0
  StopsAt looks s Lines b now = IsPastLines s × CameThere first w s × Handed sent given looks (frames_before w s) a b
  StopsAt looks s (World e) b now = StopsInWorld looks s e b now
  StopsAt looks s (Link e) b now = StopsInLink looks s e b

  -- an event was to be recorded, with the link in this state: it was, or the recorder stopped in its line
  abbrev pub Records : List (Option (List ℕ)) → Recording → ScheduleEvent → L → Result (Unit {0}) Stop → Recorder → L → Account → Type 0
  Records looks r event link (Ok x) c b now = Reached looks (recorded event r) c b now × Handed sent given [] (frames_between r (recorded event r)) link b
  Records looks r event link (Err e) c b now = StopsAt looks (recorded event r) e b now × HandedPrefix sent given [] (frames_between r (recorded event r)) link b

  -- so many looks, one after another: what they gave was heard, or the recorder stopped in one of them
  abbrev pub Hears : ℕ → List (Option (List ℕ)) → Recording → L → Result (Unit {0}) Stop → Recorder → L → Account → Type 0
  Hears count looks r link (Ok x) c b now = (more : List (Option (List ℕ))) × (length more ≡ count) × Reached (looks ++ more) (heard_all more r) c b now × Looked sent given more r link b
  Hears count looks r link (Err e) c b now = (more : List (Option (List ℕ))) × (length more ≤ count) × StopsAt (looks ++ more) (heard_all more r) e b now × LookedUntil sent given more r link b

  -- lines of a script were followed, or the recorder stopped in them
  abbrev pub FollowsOn : List ScriptLine → List (Option (List ℕ)) → Recording → L → Result (Unit {0}) Stop → Recorder → L → Account → Type 0
  FollowsOn lines looks r link (Ok x) c b now = (more : List (Option (List ℕ))) × (s : Recording) × Follows lines more r s × Reached (looks ++ more) s c b now × Went sent given lines more r link b
  FollowsOn lines looks r link (Err e) c b now = (part : List ScriptLine) × (more : List (Option (List ℕ))) × (s : Recording) × IsPart part lines × Follows part more r s × StopsAt (looks ++ more) s e b now × WentUntil sent given part more r link b

  -- the whole script was followed, by a recorder that is returned, or it stopped in it
  abbrev pub RecordsAll : List ScriptLine → Result Recorder Stop → L → Account → Type 0
  RecordsAll script (Ok c) b now = IsInStep c (mail_in c) × ((looks : List (Option (List ℕ))) × (s : Recording) × Follows script looks (opening w) s × Reached looks s c b now × Went sent given script looks (opening w) a b)
  RecordsAll script (Err e) b now = (part : List ScriptLine) × (looks : List (Option (List ℕ))) × (s : Recording) × IsPart part script × Follows part looks (opening w) s × StopsAt looks s e b now × WentUntil sent given part looks (opening w) a b
