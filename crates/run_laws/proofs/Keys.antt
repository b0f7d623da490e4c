-- The keys of a schedule, ascending.
use Rattle.std.proofs.Common.{◌≡◌, ℕ, List, [], ◌∷◌, inl, inr, ◌⊎◌, refl, ap, ◌∙◌}
use Rattle.std.proofs.lemmas.Cmp.{nat_list_cmp_total}
use Rattle.std.proofs.lemmas.Map.Lookups.{exact_bytes}
use Rattle.std.specs.BTreeSet.{insert_key}
use Rattle.std.specs.List.{AllByRecursion}
use Rattle.std.specs.List.Sorted.{IsStrictlySortedBy}
use Rattle.std.specs.Ordering.{match_ordering, ordering_reverse}
use Rattle.std.specs.declared.cmp.Ordering.{Ordering}
use Rattle.std.specs.declared.cmp.Ordering.TheVariants.{Less, Equal, Greater}
use Rattle.ens_base.specs.Lists.{◌∈◌, bytes_cmp}
use Rattle.history_record.specs.Calls.{keys_of}
use Rattle.schedule_text.specs.declared.event.ScheduleEvent.{ScheduleEvent}
use Rattle.schedule_text.specs.declared.event.ScheduleEvent.TheVariants as line
use Rattle.run_laws.proofs.Printing.{called_in}
use Rattle.audit.proofs.Rising.{inserted}

insert_in : (ks : List (List ℕ)) (k y : List ℕ) → (y ≡ k) ⊎ (y ∈ ks) → y ∈ insert_key bytes_cmp ks k
insert_in [] k y there = there
insert_in (x ∷ xs) k y there = by (bytes_cmp k x) refl there (insert_in xs k y)
  where
    by : (o : Ordering) → bytes_cmp k x ≡ o → (y ≡ k) ⊎ (y ∈ (x ∷ xs)) → ((y ≡ k) ⊎ (y ∈ xs) → y ∈ insert_key bytes_cmp xs k) → y ∈ match_ordering o (k ∷ x ∷ xs) (x ∷ xs) (x ∷ insert_key bytes_cmp xs k)
    by Less is there rest = there
    by Equal is (inl e) rest = inl (e ∙ exact_bytes k x is)
    by Equal is (inr m) rest = m
    by Greater is (inl e) rest = inr (rest (inl e))
    by Greater is (inr (inl e)) rest = inl e
    by Greater is (inr (inr m)) rest = inr (rest (inr m))

all_above : (k : List ℕ) (ks : List (List ℕ)) → ((y : List ℕ) → y ∈ ks → bytes_cmp k y ≡ Less) → AllByRecursion (λ z. bytes_cmp k z ≡ Less) ks
all_above k [] h = tt
all_above k (x ∷ xs) h = (h x (inl refl), all_above k xs (λ y m. h y (inr m)))

above_all : (k : List ℕ) (ks : List (List ℕ)) (y : List ℕ) → AllByRecursion (λ z. bytes_cmp k z ≡ Less) ks → y ∈ ks → bytes_cmp k y ≡ Less
above_all k [] y h m = absurd m
above_all k (x ∷ xs) y h (inl e) = ap (bytes_cmp k) e ∙ h.0
above_all k (x ∷ xs) y h (inr m) = above_all k xs y h.1 m

insert_rises : (ks : List (List ℕ)) (k : List ℕ) → IsStrictlySortedBy bytes_cmp ks → IsStrictlySortedBy bytes_cmp (insert_key bytes_cmp ks k)
unfolding IsStrictlySortedBy
insert_rises [] k r = (tt, tt)
insert_rises (x ∷ xs) k r = by (bytes_cmp k x) refl (insert_rises xs k r.1)
  where
    below : bytes_cmp k x ≡ Less → (y : List ℕ) → y ∈ (x ∷ xs) → bytes_cmp k y ≡ Less
    below e y (inl s) = ap (bytes_cmp k) s ∙ e
    below e y (inr m) = nat_list_cmp_total.trans k x y e (above_all x xs y r.0 m)

    above : bytes_cmp k x ≡ Greater → (y : List ℕ) → (y ≡ k) ⊎ (y ∈ xs) → bytes_cmp x y ≡ Less
    above e y (inl s) = ap (bytes_cmp x) s ∙ nat_list_cmp_total.antisymm x k ∙ ap ordering_reverse e
    above e y (inr m) = above_all x xs y r.0 m

    by : (o : Ordering) → bytes_cmp k x ≡ o → IsStrictlySortedBy bytes_cmp (insert_key bytes_cmp xs k) → IsStrictlySortedBy bytes_cmp (match_ordering o (k ∷ x ∷ xs) (x ∷ xs) (x ∷ insert_key bytes_cmp xs k))
    by Less e later = (all_above k (x ∷ xs) (below e), r)
    by Equal e later = r
    by Greater e later = (all_above x (insert_key bytes_cmp xs k) (λ y m. above e y (inserted xs k y m)), later)

pub keys_rise : (events : List ScheduleEvent) → IsStrictlySortedBy bytes_cmp (keys_of events)
unfolding IsStrictlySortedBy
keys_rise [] = tt
keys_rise (line.Call peer id key command ∷ more) = insert_rises (keys_of more) key (keys_rise more)
keys_rise (_ ∷ more) = keys_rise more

pub keys_called : (events : List ScheduleEvent) (k : List ℕ) → k ∈ keys_of events → k ∈ called_in events
keys_called [] k m = m
keys_called (line.Call peer id key command ∷ more) k m = by (inserted (keys_of more) key k m) (keys_called more k)
  where
    by : (k ≡ key) ⊎ (k ∈ keys_of more) → (k ∈ keys_of more → k ∈ called_in more) → (k ≡ key) ⊎ (k ∈ called_in more)
    by (inl e) rest = inl e
    by (inr m) rest = inr (rest m)
keys_called (_ ∷ more) k m = keys_called more k m

pub called_keys : (events : List ScheduleEvent) (k : List ℕ) → k ∈ called_in events → k ∈ keys_of events
called_keys [] k m = m
called_keys (line.Call peer id key command ∷ more) k (inl e) = insert_in (keys_of more) key k (inl e)
called_keys (line.Call peer id key command ∷ more) k (inr m) = insert_in (keys_of more) key k (inr (called_keys more k m))
called_keys (_ ∷ more) k m = called_keys more k m
