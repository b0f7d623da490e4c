-- Records that are alike once their histories are shortened have the same report.
use Rattle.std.proofs.Common.{◌≡◌, ℕ, List, length, map, sym, ap, subst, ◌∙◌}
use Rattle.std.specs.Prelude.{◌↔◌}
use Rattle.ens_base.specs.Lists.{◌∈◌}
use Rattle.register_model.specs.Histories.{IsLegal}
use Rattle.register_model.specs.declared.answer.Answer.{Answer}
use Rattle.register_model.specs.declared.call.Call.{Call}
use Rattle.register_model.specs.declared.history.History.{History}
use Rattle.schedule_text.specs.declared.schedule.Schedule.{Schedule}
use Rattle.history_record.specs.Faults.{AreFaults}
use Rattle.history_record.specs.Shortened.{shortened}
use Rattle.history_record.proofs.Shortened.{alike_faults, alike_in, alike_key, alike_legal}
use Rattle.history_record.specs.Calls.{calls_from, keys_of}
use Rattle.history_record.specs.Records.{IsRecord, calls_of}
use Rattle.history_record.specs.ShortRecords.{short_record}
use Rattle.history_record.specs.declared.record.Record.{Record}
use Rattle.audit.specs.Reports.{IsReport}
use Rattle.audit.specs.declared.report.Report.{Report}

module _ (r told : Record) (report : Report) (sound : IsRecord r) (e : short_record told ≡ short_record r) where
  schedule : told.schedule ≡ r.schedule
  schedule = ap (λ (x : Record). x.schedule) e

  calls : calls_of told ≡ calls_of r
  calls = ap (λ (s : Schedule). calls_from 1 s.events) schedule

  answers : told.answers ≡ r.answers
  answers = ap (λ (x : Record). x.answers) e

  histories : map (shortened (calls_of r)) r.histories ≡ map (shortened (calls_of r)) told.histories
  histories = sym (ap (λ (x : Record). x.histories) e) ∙ ap (λ (cs : List Call). map (shortened cs) told.histories) calls

  abbrev IsRight : List Call → List Answer → History → Type 0
  IsRight cs given h = IsLegal cs given h.key h.calls ↔ ¬ (h.key ∈ map (λ f. f.key) report.faults.items)

  -- what holds of the calls and the answers of the one record holds of those of the other one
  over : (P : List Call → List Answer → Type 0) → P (calls_of r) r.answers → P (calls_of told) told.answers
  over P h = subst (λ (cs : List Call). P cs told.answers) (sym calls) (subst (λ (given : List Answer). P (calls_of r) given) (sym answers) h)

  pub alike_report : IsReport r report → IsReport told report
  alike_report is = record {
    keys = is.keys ∙ ap (λ (s : Schedule). length (keys_of s.events)) (sym schedule);
    legal = is.legal;
    faults = over (λ cs given. AreFaults cs given told.histories report.faults.items) (alike_faults (calls_of r) r.answers sound.calls r.histories told.histories report.faults.items histories is.faults);
    exact = λ h there. over (λ cs given. IsRight cs given h) (right h there);
  }
    where
      right : (h : History) → h ∈ told.histories → IsRight (calls_of r) r.answers h
      right h there =
          let g = alike_in (calls_of r) r.histories told.histories h histories there in
          let was : IsRight (calls_of r) r.answers g.0 = is.exact g.0 g.1 in
          let key : g.0.key ≡ h.key = alike_key (calls_of r) g.0 h g.2 in
          let P : List ℕ → Type 0 = λ k. k ∈ map (λ f. f.key) report.faults.items in (
            λ legal there. was.0 (alike_legal (calls_of r) r.answers sound.calls h g.0 (sym g.2) legal) (subst P (sym key) there),
            λ none. alike_legal (calls_of r) r.answers sound.calls g.0 h g.2 (was.1 (λ m. none (subst P key m))),
          )
