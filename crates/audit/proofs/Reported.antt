-- The report of a record, from the faults of its histories.
use Rattle.std.proofs.Common.{◌≡◌, ℕ, ◌-◌, ◌≤◌, List, length, sym, ap, subst, ◌∙◌, arith}
use Rattle.std.proofs.lemmas.List.{length-map}
use Rattle.ens_base.specs.Lists.{AreDistinct}
use Rattle.register_model.specs.declared.call.Call.{Call}
use Rattle.register_model.specs.declared.history.History.{History}
use Rattle.history_record.specs.Faults.{AreFaults, IsInNone}
use Rattle.history_record.specs.Records.{IsRecord, calls_of}
use Rattle.audit.specs.Reports.{IsReport}
use Rattle.history_record.specs.declared.record.Record.{Record}
use Rattle.audit.specs.declared.report.Report.{Report}
use Rattle.audit.proofs.Rising.{keys_distinct}

module _ (r : Record) (is : IsRecord r) (calls : List Call) (same : calls ≡ calls_of r) where
  pub reported : (report : Report) → report.keys ≡ length r.histories → report.legal ≡ report.keys - length report.faults.items → length report.faults.items ≤ length r.histories
      → AreFaults calls r.answers r.histories report.faults.items → IsInNone calls r.answers r.histories report.faults.items → IsReport r report
  reported report keys legal few faults none = record {
    keys = keys ∙ sym (length-map {A = History} r.histories (λ h. h.key)) ∙ ap (λ (ks : List (List ℕ)). length ks) is.keys;
    legal = omega arith;
    faults = subst (λ (cs : List Call). AreFaults cs r.answers r.histories report.faults.items) same faults;
    exact = subst (λ (cs : List Call). IsInNone cs r.answers r.histories report.faults.items) same none (subst (λ (ks : List (List ℕ)). AreDistinct ks) (sym is.keys) (keys_distinct r.schedule.events));
  }
