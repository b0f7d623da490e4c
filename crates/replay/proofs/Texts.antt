-- A run has one text, and the text of a schedule is read as the schedule.
use Rattle.std.proofs.Common.{◌≡◌, ◌<◌, ◌≤◌, Less, ℕ, List, [], ◌∷◌, ◌++◌, map, Option, Some, None, Result, Ok, Err, refl, sym, ap, subst, ◌∙◌, inl, inr}
use Rattle.std.specs.List.{AllByRecursion, flat_map}
use Rattle.std.specs.List.Sorted.{IsStrictlySortedBy}
use Rattle.std.specs.Ordering.{ordering_reverse}
use Rattle.std.proofs.lemmas.Cmp.{nat_list_cmp_total}
use Rattle.ens_base.specs.Lists.{◌∈◌, bytes_cmp}
use Rattle.ens_base.specs.declared.status.Status.{Status}
use Rattle.hash_book.specs.Hashing.{total}
use Rattle.history_scribe.specs.Histories.{AreHistories, history_of}
use Rattle.register_model.specs.declared.history.History.{History}
use Rattle.register_model.specs.declared.note.Note.{Note}
use Rattle.schedule_input.specs.Premise.{first_unsound}
use Rattle.schedule_text.proofs.SchedulesAgain.{schedule_of-text}
use Rattle.schedule_text.specs.Reading.{schedule_of}
use Rattle.schedule_text.specs.Spelling.{IsSchedule, schedule_text}
use Rattle.schedule_text.specs.declared.error.ScheduleError.{ScheduleError}
use Rattle.schedule_text.specs.declared.schedule.Schedule.{Schedule}
use Rattle.world_model.specs.WorldSpec.{IsPastMessages, Run, HasNoClash, once, HasClashed, HasFilled}
use Rattle.replay.specs.Jobs.{EndsInRun, IsRunText, Prints, PrintsWith, hashed_by, nothing_hashed}
use Rattle.history_scribe.specs.Text.{history_line, printed_line}
use Rattle.replay.specs.Stops.{PassesLimit, RejectsIn}
use Rattle.replay.specs.Text.{IsTextOfRun}
use Rattle.replay.specs.Worlds.{schedule_run}
use Rattle.replay.proofs.Members.{Contains_from_in, in_from_Contains}

-- ---- sorted lists with the same elements are one

all_in : (P : List ℕ → Type 0) (xs : List (List ℕ)) (y : List ℕ) → AllByRecursion P xs → y ∈ xs → P y
all_in P [] y h at = absurd at
all_in P (x ∷ xs) y h (inl same) = subst P (sym same) h.0
all_in P (x ∷ xs) y h (inr at) = all_in P xs y h.1 at

not_both : (x y : List ℕ) → bytes_cmp x y ≡ Less → bytes_cmp y x ≡ Less → ⊥
not_both x y p q = cc (sym p ∙ nat_list_cmp_total.antisymm x y ∙ ap ordering_reverse q)

module _ (x : List ℕ) (xs : List (List ℕ)) (y : List ℕ) (ys : List (List ℕ)) (rise : AllByRecursion (λ z. bytes_cmp x z ≡ Less) xs) (climb : AllByRecursion (λ z. bytes_cmp y z ≡ Less) ys) where
  heads : x ∈ (y ∷ ys) → y ∈ (x ∷ xs) → x ≡ y
  heads (inl same) there = same
  heads (inr at) (inl same) = sym same
  heads (inr at) (inr there) = absurd (not_both y x (all_in (λ z. bytes_cmp y z ≡ Less) ys x climb at) (all_in (λ z. bytes_cmp x z ≡ Less) xs y rise there))

  tails : x ≡ y → (k : List ℕ) → k ∈ xs → k ∈ (y ∷ ys) → k ∈ ys
  tails same k at (inr there) = there
  tails same k at (inl is) =
      let less : bytes_cmp x k ≡ Less = all_in (λ z. bytes_cmp x z ≡ Less) xs k rise at in
      let k_is : k ≡ x = is ∙ sym same in
      let self : bytes_cmp x x ≡ Less = subst (λ (z : List ℕ). bytes_cmp x z ≡ Less) k_is less in
      absurd (not_both x x self self)

same_sorted : (xs ys : List (List ℕ)) → IsStrictlySortedBy bytes_cmp xs → IsStrictlySortedBy bytes_cmp ys → ((k : List ℕ) → k ∈ xs → k ∈ ys) → ((k : List ℕ) → k ∈ ys → k ∈ xs) → xs ≡ ys
unfolding IsStrictlySortedBy
same_sorted [] [] p q forth back = refl
same_sorted [] (y ∷ ys) p q forth back = absurd (back y (inl refl))
same_sorted (x ∷ xs) [] p q forth back = absurd (forth x (inl refl))
same_sorted (x ∷ xs) (y ∷ ys) p q forth back =
    let first : x ≡ y = heads x xs y ys p.0 q.0 (forth x (inl refl)) (back y (inl refl)) in
    let rest : xs ≡ ys = same_sorted xs ys p.1 q.1
    (λ k at. tails x xs y ys p.0 q.0 first k at (forth k (inr at)))
    (λ k at. tails y ys x xs q.0 p.0 (sym first) k at (back k (inr at))) in
    λ i. first i ∷ rest i

same_histories : (notes : List Note) (named : List (List ℕ)) (hs is : List History) → AreHistories notes named hs → AreHistories notes named is → hs ≡ is
same_histories notes named hs is a b =
    let forth : (k : List ℕ) → k ∈ a.0 → k ∈ b.0 = λ k at. in_from_Contains b.0 k ((b.1.same k).1 ((a.1.same k).0 (Contains_from_in a.0 k at))) in
    let back : (k : List ℕ) → k ∈ b.0 → k ∈ a.0 = λ k at. in_from_Contains a.0 k ((a.1.same k).1 ((b.1.same k).0 (Contains_from_in b.0 k at))) in
    a.2 ∙ ap (map (history_of notes)) (same_sorted a.0 b.0 a.1.ascending b.1.ascending forth back) ∙ sym b.2

pub one_text : (run : Run) (first second : List ℕ) → IsTextOfRun run first → IsTextOfRun run second → first ≡ second
one_text run first second a b =
    a.2 ∙ ap (λ (hs : List History). flat_map printed_line run.printed ++ flat_map history_line hs) (same_histories run.notes run.called a.0 b.0 a.1 b.1) ∙ sym b.2

-- ---- a replay of the text of a schedule

pub same_ok : {s t : Schedule} → ◌≡◌ {A = Result Schedule ScheduleError} (Ok s) (Ok t) → s ≡ t
same_ok h = cc h

pub no_error : {s : Schedule} {e : ScheduleError} → ◌≡◌ {A = Result Schedule ScheduleError} (Ok s) (Err e) → ⊥
no_error h = cc h

pub not_found : {view : List ℕ} → ◌≡◌ {A = Option (List ℕ)} None (Some view) → ⊥
not_found h = cc h

read_same : (s t : Schedule) → IsSchedule s → schedule_of (schedule_text s) ≡ Ok t → t ≡ s
read_same s t is read = sym (same_ok (sym (schedule_of-text s is) ∙ read))

pub text_replayed : (s : Schedule) (status : Status) (text : List ℕ) → IsSchedule s → first_unsound s ≡ None → Prints (Some (schedule_text s)) status text → EndsInRun s status text
text_replayed s Status.Done text is sound h =
    let r = h.1 in
    let same : r.0 ≡ s = read_same s r.0 is r.1 in
    (subst (λ (t : Schedule). IsRunText t text) same r.4, subst (λ (t : Schedule). HasNoClash (hashed_by t)) same (r.5.apart (1073741824, refl)), subst (λ (t : Schedule). total (once (hashed_by t)) ≤ 1073741824) same (r.5.fit 1073741824 refl))
text_replayed s Status.Schedule text is sound h = absurd (no_error (sym (schedule_of-text s is) ∙ h.1.2))
text_replayed s Status.Premise text is sound h =
    let r = h.1 in
    let found = subst (λ (t : Schedule). first_unsound t ≡ Some r.2.0) (read_same s r.0 is r.1) r.2.1 in
    absurd (not_found (sym sound ∙ found))
text_replayed s Status.Clash text is sound h =
    let r = h.1 in
    let met : HasClashed (hashed_by s) nothing_hashed r.0 r.1 h.0 = subst (λ (t : Schedule). HasClashed (hashed_by t) nothing_hashed r.0 r.1 h.0) (read_same s r.5.0 is r.5.1) r.5.3 in
    let inside = subst (λ (t : Schedule). RejectsIn t nothing_hashed (λ strings mid. HasClashed strings mid r.0 r.1 h.0)) (read_same s r.5.0 is r.5.1) r.5.4 in
    (h.0, r.0, r.1, met, inside, r.2, r.4)
text_replayed s Status.Limit text is sound h = by_limit h.1
  where
    by_limit : PrintsWith nothing_hashed h.0 (Some (schedule_text s)) Status.Limit text → EndsInRun s Status.Limit text
    by_limit (inl lines) = absurd (no_error (sym (schedule_of-text s is) ∙ lines.0))
    by_limit (inr (inl m)) =
        let same : m.0.0 ≡ s = read_same s m.0.0 is m.0.1 in
        inl (subst (λ (t : Schedule). IsPastMessages (schedule_run t)) same m.0.3, subst (λ (t : Schedule). PassesLimit t nothing_hashed) same m.0.4, m.1)
    by_limit (inr (inr b)) =
        let met : HasFilled (hashed_by s) nothing_hashed h.0 = subst (λ (t : Schedule). HasFilled (hashed_by t) nothing_hashed h.0) (read_same s b.1.0 is b.1.1) b.1.3 in
        let inside = subst (λ (t : Schedule). RejectsIn t nothing_hashed (λ strings mid. HasFilled strings mid h.0)) (read_same s b.1.0 is b.1.1) b.1.5 in
        inr (h.0, met, inside, subst (λ (t : Schedule). 1073741824 < total (once (hashed_by t))) (read_same s b.1.0 is b.1.1) (b.1.4 1073741824 refl), b.2)
text_replayed s Status.ReadFault text is sound h = h.1
text_replayed s Status.Memory text is sound h = h.1
text_replayed s status text is sound h = absurd h.1
