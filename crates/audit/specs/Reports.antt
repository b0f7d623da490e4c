-- The report of an audit.
use Rattle.std.specs.Prelude.{◌≡◌, ◌↔◌, ◌+◌, length, map}
use Rattle.ens_base.specs.Lists.{◌∈◌}
use Rattle.register_model.specs.Histories.{IsLegal}
use Rattle.register_model.specs.declared.history.History.{History}
use Rattle.history_record.specs.Faults.{AreFaults}
use Rattle.history_record.specs.Calls.{keys_of}
use Rattle.history_record.specs.Records.{calls_of}
use Rattle.history_record.specs.declared.record.Record.{Record}
use Rattle.audit.specs.declared.report.Report.{Report}

-- the report of a record
pub record IsReport (r : Record) (report : Report) : Type 0 where
  -- so many keys are those of calls, and so many of them are in no fault
  pub keys : report.keys ≡ length (keys_of r.schedule.events)
  pub legal : report.legal + length report.faults.items ≡ report.keys
  -- a history that is not legal has the fault of the first clause that it violates
  pub faults : AreFaults (calls_of r) r.answers r.histories report.faults.items
  -- a key is in no fault exactly if its history is legal
  pub exact : (h : History) → h ∈ r.histories → IsLegal (calls_of r) r.answers h.key h.calls ↔ ¬ (h.key ∈ map (λ f. f.key) report.faults.items)
