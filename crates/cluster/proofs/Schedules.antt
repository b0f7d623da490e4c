-- What was recorded is a schedule.
use Rattle.std.proofs.Common.{◌≡◌, ◌≤◌, ◌+◌, ◌∙◌, ℕ, List, [], ◌∷◌, ◌++◌, length, Option, None, refl, sym, ap, subst}
use Rattle.ens_base.specs.Lists.{AreDistinct}
use Rattle.ens_base.specs.View.{IsView}
use Rattle.ens_base.proofs.Lists.{in_left}
use Rattle.scripts.specs.Scripts.{IsScript, script_events}
use Rattle.scripts.specs.declared.line.ScriptLine.{ScriptLine}
use Rattle.scripts.specs.declared.line.ScriptLine.TheVariants.{Event, Turn}
use Rattle.schedule_input.specs.Premise.{first_unsound}
use Rattle.schedule_text.specs.Spelling.{AllMayStand, IsSchedule, call_ids}
use Rattle.schedule_text.specs.declared.event.ScheduleEvent.{ScheduleEvent}
use Rattle.schedule_text.specs.declared.event.ScheduleEvent.TheVariants.{Call, Deliver}
use Rattle.schedule_text.specs.declared.schedule.Schedule.{Schedule}
use Rattle.schedule_text.proofs.Ids.{call_ids-append}
use Rattle.lexemes.specs.Spelling.{AreMembers}
use Rattle.cluster.specs.Messages.{AllRecorded}
use Rattle.cluster.specs.Recordings.{Follows, IsPart, Recording, nothing_recorded, recorded_form, without_deliveries}
use Rattle.cluster.proofs.Recorded.{keeps_script}

-- ---- the ids of calls

ids_kept : (events : List ScheduleEvent) → call_ids (without_deliveries events) ≡ call_ids events
ids_kept [] = refl
ids_kept (Deliver message ∷ events) = ids_kept events
ids_kept (event ∷ events) = by event (ids_kept events)
  where
    by : (event : ScheduleEvent) → call_ids (without_deliveries events) ≡ call_ids events → call_ids (without_deliveries (event ∷ events)) ≡ call_ids (event ∷ events)
    by (Call peer id key command) same = ap (λ (l : List ℕ). id ∷ l) same
    by (Deliver message) same = same
    by event same = same

distinct_prefix : {A : Type 0} (xs ys : List A) → AreDistinct (xs ++ ys) → AreDistinct xs
distinct_prefix [] ys d = tt
distinct_prefix (x ∷ xs) ys d = ((λ m. d.0 (in_left xs ys x m)), distinct_prefix xs ys d.1)

-- the events of a part are the first of the script
part_events : (part script : List ScriptLine) → IsPart part script → (more : List ScheduleEvent) × (script_events script ≡ script_events part ++ more)
part_events [] script is = (script_events script, refl)
part_events (Event event ∷ part) (Event first ∷ script) is =
    let rest = part_events part script is.1 in
    (rest.0, ap (λ (l : List ScheduleEvent). first ∷ l) rest.1 ∙ ap (λ (e : ScheduleEvent). e ∷ (script_events part ++ rest.0)) (sym is.0))
part_events (Turn count ∷ []) (Turn most ∷ script) is = (script_events script, refl)
part_events (Turn count ∷ line ∷ part) (Turn most ∷ script) is = part_events (line ∷ part) script is.1
part_events (Event event ∷ part) (Turn most ∷ script) is = absurd is
part_events (Turn count ∷ []) (Event first ∷ script) is = absurd is
part_events (Turn count ∷ line ∷ part) (Event first ∷ script) is = absurd is
part_events (Event event ∷ part) [] is = absurd is
part_events (Turn count ∷ []) [] is = absurd is
part_events (Turn count ∷ line ∷ part) [] is = absurd is

all_stand : (peers : ℕ) (events : List ScheduleEvent) → AllRecorded peers events → AllMayStand peers events
all_stand peers [] all = tt
all_stand peers (event ∷ events) all = (all.0.1, all_stand peers events all.1)

module _ (peers : ℕ) (view : List ℕ) (script part : List ScriptLine) (looks : List (Option (List ℕ))) (r : Recording)
    (few : (1 ≤ peers) × (peers ≤ 31)) (members : AreMembers peers view × IsView view) (is : IsScript peers script) (is_part : IsPart part script)
    (follows : Follows part looks (nothing_recorded peers view) r) (all : AllRecorded peers r.events) (lines : length r.events + 3 ≤ 200000) where
  abbrev schedule : Schedule
  schedule = record { form = recorded_form; peers = peers; view = view; events = r.events }

  same_ids : call_ids r.events ≡ call_ids (script_events part)
  same_ids = sym (ids_kept r.events) ∙ ap call_ids (keeps_script part looks (nothing_recorded peers view) r follows) ∙ ids_kept (script_events part)

  distinct : AreDistinct (call_ids r.events)
  distinct =
      let prefix = part_events part script is_part in
      let whole : call_ids (script_events script) ≡ call_ids (script_events part) ++ call_ids prefix.0 = ap call_ids prefix.1 ∙ call_ids-append (script_events part) prefix.0 in
      subst AreDistinct (sym same_ids) (distinct_prefix (call_ids (script_events part)) (call_ids prefix.0) (subst AreDistinct whole is.distinct))

  pub recorded_is : IsSchedule schedule
  recorded_is = record { peers = few; view = members; events = all_stand peers r.events all; distinct = distinct; lines = lines }

  -- every start has sealing on, so nothing is asked of trees that are put back
  pub recorded_sound : first_unsound schedule ≡ None
  recorded_sound = refl
