-- What an audit prints, and why it ends as it does.
use Rattle.std.specs.Prelude.{◌≡◌, ℕ, List, [], ◌∷◌, ◌++◌, codes, Option, Ok, IfSome}
use Rattle.ens_base.specs.declared.status.Status.{Status}
use Rattle.audit.specs.Reports.{IsReport}
use Rattle.audit.specs.Text.{report_line}
use Rattle.audit.specs.declared.report.Report.{Report}
use Rattle.history_record.specs.Reading.{record_of}
use Rattle.history_record.specs.declared.record.Record.{Record}
use Rattle.audit.specs.Endings.{IsUnread}

-- the text of the report of a record
abbrev pub IsReportText : Record → List ℕ → Type 0
IsReportText r text = (report : Report) × IsReport r report × (text ≡ report_line report)

-- the bytes are a record, and the text that of its report
abbrev pub IsAudit : List ℕ → List ℕ → Type 0
IsAudit bytes text = (r : Record) × (record_of bytes ≡ Ok r) × IsReportText r text

-- the text that an audit of these bytes prints, for each status; it ends with no other status, unless
-- the output fails
abbrev pub PrintsReport : Option (List ℕ) → Status → List ℕ → Type 0
PrintsReport source Status.Done text = IfSome source (λ bytes. IsAudit bytes text)
PrintsReport source Status.Memory text = text ≡ codes "memory" ++ 10 ∷ []
PrintsReport source status text = IsUnread source status text

-- nothing in these bytes ends an audit of them early: they are a record
abbrev pub IsAuditable : List ℕ → Type 0
IsAuditable bytes = (r : Record) × (record_of bytes ≡ Ok r)
