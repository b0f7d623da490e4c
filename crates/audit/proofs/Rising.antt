-- The keys of a schedule stand once each.
use Rattle.std.proofs.Common.{◌≡◌, ℕ, List, [], ◌∷◌, inl, inr, ◌⊎◌, refl, sym, ap, ◌∙◌}
use Rattle.std.specs.BTreeSet.{insert_key}
use Rattle.std.specs.Ordering.{match_ordering, ordering_reverse}
use Rattle.std.specs.declared.cmp.Ordering.{Ordering}
use Rattle.std.specs.declared.cmp.Ordering.TheVariants.{Less, Equal, Greater}
use Rattle.std.specs.Cmp.{IsTotalOrder}
use Rattle.std.proofs.lemmas.Cmp.{nat_list_cmp_total}
use Rattle.ens_base.specs.Lists.{◌∈◌, AreDistinct, bytes_cmp}
use Rattle.schedule_text.specs.declared.event.ScheduleEvent.{ScheduleEvent}
use Rattle.schedule_text.specs.declared.event.ScheduleEvent.TheVariants as line
use Rattle.history_record.specs.Calls.{keys_of}

abbrev IsBelow : List ℕ → List (List ℕ) → Type 0
IsBelow k ks = (x : List ℕ) → x ∈ ks → bytes_cmp k x ≡ Less

abbrev Rises : List (List ℕ) → Type 0
Rises [] = Unit {0}
Rises (k ∷ ks) = IsBelow k ks × Rises ks

total : IsTotalOrder bytes_cmp
total = nat_list_cmp_total

pub inserted : (ks : List (List ℕ)) (k y : List ℕ) → y ∈ insert_key bytes_cmp ks k → (y ≡ k) ⊎ (y ∈ ks)
inserted [] k y there = there
inserted (x ∷ xs) k y there = by (bytes_cmp k x) there (λ (m : y ∈ insert_key bytes_cmp xs k). inserted xs k y m)
  where
    deeper : (y ≡ k) ⊎ (y ∈ xs) → (y ≡ k) ⊎ (y ∈ (x ∷ xs))
    deeper (inl e) = inl e
    deeper (inr m) = inr (inr m)

    by : (o : Ordering) → y ∈ match_ordering o (k ∷ x ∷ xs) (x ∷ xs) (x ∷ insert_key bytes_cmp xs k) → (y ∈ insert_key bytes_cmp xs k → (y ≡ k) ⊎ (y ∈ xs)) → (y ≡ k) ⊎ (y ∈ (x ∷ xs))
    by Less m rest = m
    by Equal m rest = inr m
    by Greater (inl e) rest = inr (inl e)
    by Greater (inr m) rest = deeper (rest m)

rises_insert : (ks : List (List ℕ)) (k : List ℕ) → Rises ks → Rises (insert_key bytes_cmp ks k)
rises_insert [] k r = (λ y m. absurd m, tt)
rises_insert (x ∷ xs) k r = by (bytes_cmp k x) refl (rises_insert xs k r.1)
  where
    before : bytes_cmp k x ≡ Less → IsBelow k (x ∷ xs)
    before e y (inl s) = ap (bytes_cmp k) s ∙ e
    before e y (inr m) = total.trans k x y e (r.0 y m)

    above : bytes_cmp k x ≡ Greater → (y : List ℕ) → (y ≡ k) ⊎ (y ∈ xs) → bytes_cmp x y ≡ Less
    above e y (inl s) = ap (bytes_cmp x) s ∙ total.antisymm x k ∙ ap ordering_reverse e
    above e y (inr m) = r.0 y m

    by : (o : Ordering) → bytes_cmp k x ≡ o → Rises (insert_key bytes_cmp xs k) → Rises (match_ordering o (k ∷ x ∷ xs) (x ∷ xs) (x ∷ insert_key bytes_cmp xs k))
    by Less e later = (before e, r)
    by Equal e later = r
    by Greater e later = (λ y m. above e y (inserted xs k y m), later)

not_below : (k : List ℕ) → bytes_cmp k k ≡ Less → ⊥
not_below k e = let both : Less ≡ Greater = sym e ∙ total.antisymm k k ∙ ap ordering_reverse e in cc both

rises_distinct : (ks : List (List ℕ)) → Rises ks → AreDistinct ks
rises_distinct [] r = tt
rises_distinct (k ∷ ks) r = (λ m. not_below k (r.0 k m), rises_distinct ks r.1)

keys_rise : (events : List ScheduleEvent) → Rises (keys_of events)
keys_rise [] = tt
keys_rise (line.Call peer id key command ∷ more) = rises_insert (keys_of more) key (keys_rise more)
keys_rise (_ ∷ more) = keys_rise more

pub keys_distinct : (events : List ScheduleEvent) → AreDistinct (keys_of events)
keys_distinct events = rises_distinct (keys_of events) (keys_rise events)
