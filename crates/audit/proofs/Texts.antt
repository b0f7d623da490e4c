-- The text of a report has no float.
use Rattle.std.proofs.Common.{◌≡◌, false, List, [], ◌∷◌, map, refl}
use Rattle.serde_json.specs.View.{items_of}
use Rattle.serde_json.specs.Written.{has_float, items_have_float}
use Rattle.audit.specs.Text.{fault_data, report_data}
use Rattle.history_record.specs.declared.fault.Fault.{Fault}
use Rattle.audit.specs.declared.report.Report.{Report}

no_float_items : (fs : List Fault) → items_have_float (items_of (map fault_data fs)) ≡ false
no_float_items [] = refl
no_float_items (f ∷ fs) = no_float_items fs

pub no_float : (r : Report) → has_float (report_data r) ≡ false
no_float r = rw (no_float_items r.faults.items) refl
