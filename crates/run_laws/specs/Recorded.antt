-- The record that is made of a schedule and of what its replay printed.
use Rattle.std.specs.Prelude.{◌≡◌, ℕ, List, [], Ok}
use Rattle.world_refinement.specs.Lines.{answers_in}
use Rattle.audit.specs.Reports.{IsReport}
use Rattle.audit.specs.declared.report.Report.{Report}
use Rattle.history_record.specs.Reading.{record_of}
use Rattle.history_record.specs.declared.record.Record.{Record}
use Rattle.history_scribe.specs.Histories.{AreHistories}
use Rattle.cluster.specs.Replay.{record_text, schedule_run}
use Rattle.schedule_text.specs.Reading.{schedule_of}
use Rattle.schedule_text.specs.declared.schedule.Schedule.{Schedule}

-- the record has the schedule, the answers that its run printed, and the histories that the notes of the run
-- give
pub record IsRecordOf (s : Schedule) (r : Record) : Type 0 where
  pub schedule : r.schedule ≡ s
  pub answers : r.answers ≡ answers_in (schedule_run s).printed
  pub histories : AreHistories (schedule_run s).notes (schedule_run s).called r.histories

-- each key of the report has a legal history
pub record IsFaultless (report : Report) : Type 0 where
  pub faults : report.faults.items ≡ []
  pub legal : report.legal ≡ report.keys

-- the record that is made of a schedule and of a text is read without a fault, as that of the run of the
-- schedule, and its report has no fault
pub record IsWellRecorded (schedule printed : List ℕ) : Type 0 where
  pub s : Schedule
  pub r : Record
  pub schedule_is : schedule_of schedule ≡ Ok s
  pub record_is : record_of (record_text schedule printed) ≡ Ok r
  pub of_run : IsRecordOf s r
  pub report : (report : Report) → IsReport r report → IsFaultless report
