-- The ids of the calls of a list of events.
use Rattle.std.proofs.Common.{◌≡◌, ℕ, ◌==◌, inl, inr, true, false, List, [], ◌∷◌, ◌++◌, Option, Some, None, refl, ap, append-nil}
use Rattle.std.proofs.lemmas.Bool.{or_parts}
use Rattle.std.specs.List.{list_any}
use Rattle.ens_base.specs.Lists.{AreDistinct, ◌∈◌}
use Rattle.ens_base.proofs.Tests.{itself}
use Rattle.scripts.specs.Progress.{came_before, has_id, id_of, is_id, is_repeated}
use Rattle.scripts.specs.Spelling.{ids_of, with_id}
use Rattle.scripts.specs.declared.event.RootEvent.{RootEvent}
use Rattle.schedule_text.proofs.Ids.{distinct_end}

-- an id that did not come before is not among those that did
not_among : (id : ℕ) (events : List RootEvent) → list_any (has_id id) events ≡ false → id ∈ ids_of events → ⊥
not_among id [] h m = m
not_among id (event ∷ more) h m =
    let parts = or_parts (has_id id event) _ h in
    by (id_of event) parts.0 m (λ k. not_among id more parts.1 k)
  where
    by : (o : Option ℕ) → is_id id o ≡ false → id ∈ with_id o (ids_of more) → (id ∈ ids_of more → ⊥) → ⊥
    by None e m later = later m
    by (Some i) e (inl is) later = let is_same : (i == id) ≡ true = rw is (itself i) in cc (is_same, e)
    by (Some i) e (inr m) later = later m

ids_of-end : (events : List RootEvent) (event : RootEvent) → ids_of (events ++ event ∷ []) ≡ ids_of events ++ with_id (id_of event) []
ids_of-end [] event = refl
ids_of-end (e ∷ more) event = by (id_of e) (ids_of-end more event)
  where
    by : (o : Option ℕ) → ids_of (more ++ event ∷ []) ≡ ids_of more ++ with_id (id_of event) [] → with_id o (ids_of (more ++ event ∷ [])) ≡ with_id o (ids_of more) ++ with_id (id_of event) []
    by None h = h
    by (Some i) h = ap (λ (ids : List ℕ). i ∷ ids) h

-- an event that is not repeated keeps the ids distinct
pub distinct_with : (events : List RootEvent) (event : RootEvent) → AreDistinct (ids_of events) → is_repeated events event ≡ false → AreDistinct (ids_of (events ++ event ∷ []))
distinct_with events event h k = rw (ids_of-end events event) (by (id_of event) k)
  where
    by : (o : Option ℕ) → came_before events o ≡ false → AreDistinct (ids_of events ++ with_id o [])
    by None e = rw append-nil h
    by (Some id) e = distinct_end id (ids_of events) h (not_among id events e)
