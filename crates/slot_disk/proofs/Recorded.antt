-- One more call on a disk that records its calls.
use Rattle.std.proofs.Common.{◌≡◌, ℕ, ◌+◌, ◌≤◌, List, [], ◌∷◌, ◌++◌, length, take, drop, reverse, refl, ◌∙◌, ap, arith, length-append, length-drop, true}
use Rattle.std.proofs.Math.Seq.{drop-append_seam}
use Rattle.std.proofs.lemmas.List.{take_all, take-append-le, drop-append-le, reverse-append}
use Rattle.std.proofs.lemmas.Bool.{and_parts}
use Rattle.std.proofs.lemmas.Bool.Decides.{nat_tests}
use Rattle.slot_disk.specs.Steps.{Deed, Wrote, CutTo, Synced, deed_of, deeds, is_within, are_within, seen_of}
use Rattle.slot_disk.specs.declared.step.Step.{Step}
use Rattle.slot_disk.specs.declared.step.Step.TheVariants as steps

pub deeds_push : (log : List ℕ) (ss : List Step) (s : Step) → deeds log (ss ++ s ∷ []) ≡ deeds log ss ++ deed_of log s ∷ []
deeds_push log [] s = refl
deeds_push log (t ∷ ss) s = ap (λ (l : List Deed). deed_of log t ∷ l) (deeds_push log ss s)

pub within_push : (n : ℕ) (ss : List Step) (s : Step) → are_within n ss ≡ true → is_within n s ≡ true → are_within n (ss ++ s ∷ []) ≡ true
within_push n [] s all one = grind (arith, one)
within_push n (t ∷ ss) s all one =
    let parts = and_parts (is_within n t) (are_within n ss) all in
    grind (arith, parts.0, within_push n ss s parts.1 one)

is_within_grow : (n m : ℕ) (s : Step) → n ≤ m → is_within n s ≡ true → is_within m s ≡ true
is_within_grow n m (steps.Write at from len) le one = grind (arith, nat_tests)
is_within_grow n m (steps.Cut len) le one = refl
is_within_grow n m steps.Sync le one = refl

pub within_grow : (n m : ℕ) (ss : List Step) → n ≤ m → are_within n ss ≡ true → are_within m ss ≡ true
within_grow n m [] le all = refl
within_grow n m (t ∷ ss) le all =
    let parts = and_parts (is_within n t) (are_within n ss) all in
    grind (arith, is_within_grow n m t le parts.0, within_grow n m ss le parts.1)

deed_grow : (log more : List ℕ) (s : Step) → is_within (length log) s ≡ true → deed_of (log ++ more) s ≡ deed_of log s
deed_grow log more (steps.Write at from len) one =
    let fits : from + len ≤ length log = grind (arith, nat_tests) in
    ap (λ (l : List ℕ). Wrote at l) (ap (λ (l : List ℕ). take len l) (drop-append-le from log more (omega (arith, fits))) ∙ take-append-le len (drop from log) more (omega (arith, fits, length-drop from log)))
deed_grow log more (steps.Cut len) one = refl
deed_grow log more steps.Sync one = refl

pub deeds_grow : (log more : List ℕ) (ss : List Step) → are_within (length log) ss ≡ true → deeds (log ++ more) ss ≡ deeds log ss
deeds_grow log more [] all = refl
deeds_grow log more (t ∷ ss) all =
    let parts = and_parts (is_within (length log) t) (are_within (length log) ss) all in
    let head : deed_of (log ++ more) t ≡ deed_of log t = deed_grow log more t parts.0 in
    let rest : deeds (log ++ more) ss ≡ deeds log ss = deeds_grow log more ss parts.1 in
    (λ i. head i ∷ rest i)

reverse_push : (all : List Deed) (d : Deed) → reverse (all ++ d ∷ []) ≡ d ∷ reverse all
reverse_push all d = reverse-append all (d ∷ [])

pub seen_push : (first : List ℕ) (all : List Deed) (d : Deed) → seen_of first (reverse (all ++ d ∷ [])) ≡ seen_of first (d ∷ reverse all)
seen_push first all d = ap (λ (l : List Deed). seen_of first l) (reverse_push all d)

-- the record after one more call
pub record Recorded (first old_log new_log : List ℕ) (old new : List Step) (d : Deed) : Type 0 where
  pub all : deeds new_log new ≡ deeds old_log old ++ d ∷ []
  pub seen : seen_of first (reverse (deeds new_log new)) ≡ seen_of first (d ∷ reverse (deeds old_log old))
  pub within : are_within (length new_log) new ≡ true

recorded : (first old_log new_log : List ℕ) (old new : List Step) (d : Deed) → deeds new_log new ≡ deeds old_log old ++ d ∷ [] → are_within (length new_log) new ≡ true → Recorded first old_log new_log old new d
recorded first old_log new_log old new d all within = record {
  all = all;
  seen = ap (λ (l : List Deed). seen_of first (reverse l)) all ∙ seen_push first (deeds old_log old) d;
  within = within;
}

-- a cut or a sync
pub cut_recorded : (first log : List ℕ) (old new : List Step) (n : ℕ) → new ≡ old ++ steps.Cut n ∷ [] → are_within (length log) old ≡ true → Recorded first log log old new (CutTo n)
cut_recorded first log old new n is within =
    recorded first log log old new (CutTo n) (ap (λ (l : List Step). deeds log l) is ∙ deeds_push log old (steps.Cut n)) (rw is (within_push (length log) old (steps.Cut n) within refl))

pub sync_recorded : (first log : List ℕ) (old new : List Step) → new ≡ old ++ steps.Sync ∷ [] → are_within (length log) old ≡ true → Recorded first log log old new Synced
sync_recorded first log old new is within =
    recorded first log log old new Synced (ap (λ (l : List Step). deeds log l) is ∙ deeds_push log old steps.Sync) (rw is (within_push (length log) old steps.Sync within refl))

-- a write, whose bytes come after those of the earlier ones in the log
pub write_recorded : (first old_log bytes new_log : List ℕ) (old new : List Step) (at : ℕ) → new_log ≡ old_log ++ bytes → new ≡ old ++ steps.Write at (length old_log) (length bytes) ∷ [] → are_within (length old_log) old ≡ true → Recorded first old_log new_log old new (Wrote at bytes)
write_recorded first old_log bytes new_log old new at log_is is within =
    let size : length new_log ≡ length old_log + length bytes = ap (λ (l : List ℕ). length l) log_is ∙ length-append old_log bytes in
    let step = steps.Write at (length old_log) (length bytes) in
    let own : take (length bytes) (drop (length old_log) (old_log ++ bytes)) ≡ bytes =
    ap (λ (l : List ℕ). take (length bytes) l) (drop-append_seam old_log bytes) ∙ take_all (length bytes) bytes (omega arith) in
    let fits : is_within (length new_log) step ≡ true = grind (arith, nat_tests, size) in
    recorded first old_log new_log old new (Wrote at bytes)
    (
    ap (λ (l : List Step). deeds new_log l) is ∙ deeds_push new_log old step
    ∙ ap (λ (l : List ℕ). deeds l old ++ deed_of l step ∷ []) log_is
    ∙ ap (λ (l : List Deed). l ++ deed_of (old_log ++ bytes) step ∷ []) (deeds_grow old_log bytes old within)
    ∙ ap (λ (l : List ℕ). deeds old_log old ++ Wrote at l ∷ []) own
    )
    (rw is (within_push (length new_log) old step (within_grow (length old_log) (length new_log) old (omega (arith, size)) within) fits))
