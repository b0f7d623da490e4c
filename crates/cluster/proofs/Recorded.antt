-- A recording is the run of its events.
use Rattle.std.proofs.Common.{◌≡◌, ◌∙◌, ◌+◌, ℕ, List, [], ◌∷◌, ◌++◌, drop, take, Option, None, Some, refl, sym, ap, subst, append-nil, append_assoc}
use Rattle.scripts.specs.declared.line.ScriptLine.{ScriptLine}
use Rattle.scripts.specs.declared.line.ScriptLine.TheVariants.{Event, Turn}
use Rattle.scripts.specs.Scripts.{script_events}
use Rattle.cluster.specs.Recordings.{Follows, IsRunOf, Recording, delivering, found, heard, heard_all, recorded, recorded_form, without_deliveries}
use Rattle.schedule_text.specs.declared.event.ScheduleEvent.{ScheduleEvent}
use Rattle.schedule_text.specs.declared.event.ScheduleEvent.TheVariants.{Deliver}
use Rattle.world_spec.specs.Lines.{applied}
use Rattle.world_spec.specs.Runs.{opening_run}
use Rattle.world_spec.proofs.Calming.{run_to_last}

module _ (peers : ℕ) (view : List ℕ) where
  pub recorded_run : (event : ScheduleEvent) (r : Recording) → IsRunOf peers view r → IsRunOf peers view (recorded event r)
  recorded_run event r is = ap (applied event) is ∙ sym (run_to_last r.events event (opening_run recorded_form peers view))

  pub delivering_run : (n : Option ℕ) (r : Recording) → IsRunOf peers view r → IsRunOf peers view (delivering n r)
  delivering_run None r is = is
  delivering_run (Some n) r is = recorded_run (Deliver (n + 1)) r is

  heard_run : (looks : List (Option (List ℕ))) (r : Recording) → IsRunOf peers view r → IsRunOf peers view (heard_all looks r)
  heard_run [] r is = is
  heard_run (look ∷ more) r is = heard_run more (heard look r) (delivering_run (found look r.run) r is)

  pub follows_run : (lines : List ScriptLine) (looks : List (Option (List ℕ))) (r s : Recording) → Follows lines looks r s → IsRunOf peers view r → IsRunOf peers view s
  follows_run [] looks r s f is = subst (IsRunOf peers view) (sym f.1) is
  follows_run (Event event ∷ more) looks r s f is = follows_run more looks (recorded event r) s f (recorded_run event r is)
  follows_run (Turn count ∷ more) looks r s f is = follows_run more (drop count looks) (heard_all (take count looks) r) s f.1 (heard_run (take count looks) r is)

pub heard_one : (look : Option (List ℕ)) (r : Recording) (n : ℕ) → found look r.run ≡ Some n → (heard look r).events ≡ r.events ++ Deliver (n + 1) ∷ []
heard_one look r n is = ap (λ (m : Option ℕ). (delivering m r).events) is

pub heard_none : (look : Option (List ℕ)) (r : Recording) → found look r.run ≡ None → heard look r ≡ r
heard_none look r is = ap (λ (m : Option ℕ). delivering m r) is

-- what is recorded but for deliveries
kept_parts : (a b : List ScheduleEvent) → without_deliveries (a ++ b) ≡ without_deliveries a ++ without_deliveries b
kept_parts [] b = refl
kept_parts (Deliver message ∷ a) b = kept_parts a b
kept_parts (event ∷ a) b = kept_event event a b (kept_parts a b)
  where
    kept_event : (event : ScheduleEvent) (a b : List ScheduleEvent) → without_deliveries (a ++ b) ≡ without_deliveries a ++ without_deliveries b → without_deliveries (event ∷ (a ++ b)) ≡ without_deliveries (event ∷ a) ++ without_deliveries b
    kept_event (Deliver message) a b is = is
    kept_event event a b is = ap (λ (l : List ScheduleEvent). event ∷ l) is

delivers_nothing_else : (n : Option ℕ) (r : Recording) → without_deliveries (delivering n r).events ≡ without_deliveries r.events
delivers_nothing_else None r = refl
delivers_nothing_else (Some n) r = kept_parts r.events (Deliver (n + 1) ∷ []) ∙ append-nil (without_deliveries r.events)

heard_nothing_else : (looks : List (Option (List ℕ))) (r : Recording) → without_deliveries (heard_all looks r).events ≡ without_deliveries r.events
heard_nothing_else [] r = refl
heard_nothing_else (look ∷ more) r = heard_nothing_else more (heard look r) ∙ delivers_nothing_else (found look r.run) r

pub keeps_script : (lines : List ScriptLine) (looks : List (Option (List ℕ))) (r s : Recording) → Follows lines looks r s → without_deliveries s.events ≡ without_deliveries r.events ++ without_deliveries (script_events lines)
keeps_script [] looks r s f = ap (λ (q : Recording). without_deliveries q.events) f.1 ∙ sym (append-nil (without_deliveries r.events))
keeps_script (Event event ∷ more) looks r s f =
    keeps_script more looks (recorded event r) s f ∙ ap (λ (l : List ScheduleEvent). l ++ without_deliveries (script_events more)) (kept_parts r.events (event ∷ [])) ∙ append_assoc (without_deliveries r.events) (without_deliveries (event ∷ [])) (without_deliveries (script_events more))
    ∙ ap (λ (l : List ScheduleEvent). without_deliveries r.events ++ l) (sym (kept_parts (event ∷ []) (script_events more)))
keeps_script (Turn count ∷ more) looks r s f =
    keeps_script more (drop count looks) (heard_all (take count looks) r) s f.1 ∙ ap (λ (l : List ScheduleEvent). l ++ without_deliveries (script_events more)) (heard_nothing_else (take count looks) r)
