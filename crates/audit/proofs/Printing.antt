-- What an audit prints, by how it ends.
use Rattle.std.proofs.Common.{◌≡◌, ◌⊎◌, ℕ, List, Option, None, Some, Result, Ok, Err, Vec, inl, inr, refl, sym, ◌∙◌}
use Rattle.std.specs.Prelude.{IfOk, IfSome, IsSomeAnd}
use Rattle.std.specs.declared.alloc.Global.{Global}
use Rattle.ens_base.specs.declared.status.Status.{Status}
use Rattle.audit.specs.Reports.{IsReport}
use Rattle.audit.specs.Text.{report_line}
use Rattle.audit.specs.declared.report.Report.{Report}
use Rattle.audit.proofs.Alike.{alike_report}
use Rattle.history_record.specs.Reading.{record_of}
use Rattle.history_record.specs.Records.{IsRecord}
use Rattle.history_record.specs.declared.error.AuditError.{AuditError}
use Rattle.history_record.specs.declared.error.AuditError.TheVariants as audit
use Rattle.history_record.specs.declared.record.Record.{Record}
use Rattle.audit.specs.Endings.{IsUnread}
use Rattle.audit.specs.Reading.{IsLike}
use Rattle.audit.specs.Printed.{IsAuditable, IsReportText, PrintsReport}

-- the text that was made of a report is that of the report
pub reported : (r : Record) (report : Report) (made : Result (Vec ℕ Global) AuditError) → IsReport r report → IfOk made (λ text. text.items ≡ report_line report) → IfOk made (λ text. IsReportText r text.items)
reported r report (Ok text) is made = (report, is, made)
reported r report (Err e) is made = tt

pub report_prints : (source : Option (List ℕ)) (r : Record) (text : List ℕ) → IsRecord r → IfSome source (λ bytes. IsLike bytes r) → IsReportText r text → PrintsReport source Status.Done text
report_prints None r text sound read is = tt
report_prints (Some bytes) r text sound read is = (read.0, read.1, (is.0, alike_report r read.0 is.0 sound read.2 is.1, is.2))

pub unread_prints : (source : Option (List ℕ)) (status : Status) (text : List ℕ) → IsUnread source status text → PrintsReport source status text
unread_prints source Status.Done text unread = absurd unread
unread_prints source Status.Memory text unread = absurd unread
unread_prints source status text unread = unread

-- no text is that of a fault of the output
pub writes_no_fault : (source : Option (List ℕ)) (status : Status) (text : List ℕ) → PrintsReport source status text → status ≡ Status.WriteFault → ⊥
writes_no_fault source Status.WriteFault text prints is = prints
writes_no_fault source status text prints is = cc is

-- bytes that are a record have no bad line, and are within the limit on lines
not_refused : (source : Option (List ℕ)) (e : AuditError) → IsSomeAnd source IsAuditable → IfSome source (λ bytes. record_of bytes ≡ Err e) → ⊥
not_refused None e free bad = free
not_refused (Some bytes) e free bad = apart (sym free.1 ∙ bad)
  where
    apart : {A B : Type 0} {x : A} {y : B} → ◌≡◌ {A = Result A B} (Ok x) (Err y) → ⊥
    apart h = cc h

-- an audit that nothing ends early runs to its end
pub runs_out : (source : Option (List ℕ)) (status : Status) (text : List ℕ) → IsSomeAnd source IsAuditable → PrintsReport source status text → (status ≡ Status.ReadFault → ⊥) → (status ≡ Status.Done) ⊎ (status ≡ Status.Memory)
runs_out source Status.Done text free prints calm = inl refl
runs_out source Status.Memory text free prints calm = inr refl
runs_out source Status.ReadFault text free prints calm = absurd (calm refl)
runs_out source Status.Schedule text free prints calm = absurd (not_refused source (audit.Bad prints.0 prints.1) free prints.2)
runs_out source Status.Limit text free prints calm = absurd (not_refused source audit.Lines free prints.0)
runs_out source status text free prints calm = absurd prints
