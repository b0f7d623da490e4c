-- The calls of a schedule, one after another.
use Rattle.std.proofs.Common.{◌≡◌, ℕ, ◌+◌, ◌<◌, ◌≤◌, List, [], ◌∷◌, ◌++◌, length, get_or, drop, refl, sym, ap, ◌∙◌, append_assoc, append-nil}
use Rattle.std.proofs.lemmas.List.{drop_more, drop_all}
use Rattle.register_model.specs.declared.call.Call.{Call}
use Rattle.schedule_text.specs.declared.event.ScheduleEvent.{ScheduleEvent}
use Rattle.schedule_text.specs.declared.event.ScheduleEvent.TheVariants as line
use Rattle.history_record.specs.Calls.{call_at, calls_from}

call_before : (event : ScheduleEvent) (n : ℕ) (rest : List Call) → call_at event n [] ++ rest ≡ call_at event n rest
call_before (line.Call peer id key command) n rest = refl
call_before _ n rest = refl

module _ (events : List ScheduleEvent) (n : ℕ) (items whole : List Call) (so_far : items ++ calls_from (n + 1) (drop n events) ≡ whole) where
  pub call_next : (event : ScheduleEvent) → n < length events → event ≡ get_or events n event → (next : List Call) → next ≡ items ++ call_at event (n + 1) [] → next ++ calls_from (n + 1 + 1) (drop (n + 1) events) ≡ whole
  call_next event lt at next e =
      let rest : List Call = calls_from (n + 1 + 1) (drop (n + 1) events) in
      ap (λ (l : List Call). l ++ rest) e ∙ append_assoc items (call_at event (n + 1) []) rest ∙ ap (λ (l : List Call). items ++ l) (call_before event (n + 1) rest)
      ∙ sym (ap (λ (l : List ScheduleEvent). items ++ calls_from (n + 1) l) (drop_more events n event lt ∙ ap (λ (d : ScheduleEvent). d ∷ drop (n + 1) events) (sym at))) ∙ so_far

  pub calls_end : length events ≤ n → items ≡ whole
  calls_end end = sym (append-nil items) ∙ sym (ap (λ (l : List ScheduleEvent). items ++ calls_from (n + 1) l) (drop_all n events end)) ∙ so_far
