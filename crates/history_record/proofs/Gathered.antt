-- The calls, the changes and the keys of a schedule, gathered from its end.
use Rattle.std.proofs.Common.{◌≡◌, ℕ, ◌+◌, ◌*◌, ◌<◌, ◌≤◌, List, ◌∷◌, length, get_or, drop, Option, sym, ap, ◌∙◌}
use Rattle.std.proofs.lemmas.List.{drop_more}
use Rattle.schedule_text.specs.declared.event.ScheduleEvent.{ScheduleEvent}
use Rattle.history_record.specs.Calls.{call_event, change_peer, keys_of}

-- the events behind the first n were gathered
pub record HasGathered (events : List ScheduleEvent) (find_call find_change : ℕ → Option ℕ) (sorted : List (List ℕ)) (entries n : ℕ) : Type 0 where
  pub within : n ≤ length events
  pub calls : (id : ℕ) → find_call id ≡ call_event (n + 1) (drop n events) id
  pub changes : (event : ℕ) → find_change event ≡ change_peer (n + 1) (drop n events) event
  pub keys : sorted ≡ keys_of (drop n events)
  pub few : entries + 2 * n ≤ 2 * length events

module _ (events : List ScheduleEvent) (m : ℕ) (lt : m < length events) where
  behind : (event : ScheduleEvent) → event ≡ get_or events m event → drop m events ≡ event ∷ drop (m + 1) events
  behind event at = drop_more events m event lt ∙ ap (λ (e : ScheduleEvent). e ∷ drop (m + 1) events) (sym at)
