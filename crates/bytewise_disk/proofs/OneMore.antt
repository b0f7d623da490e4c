-- One more call of a disk that records its calls, or none.
use Rattle.std.proofs.Common.{◌≡◌, ◌≢◌, ◌⊎◌, inl, inr, ℕ, ◌+◌, ◌<◌, ◌≤◌, List, [], ◌∷◌, ◌++◌, length, reverse, refl, sym, ◌∙◌, subst, ap, arith, length-append}
use Rattle.std.proofs.lemmas.List.{take_all, take-append-le, reverse-append}
use Rattle.std.proofs.lemmas.Bool.{cases_lt}
use Rattle.slot_disk.specs.Crash.{written, Torn, Cut, Elapses}
use Rattle.slot_disk.specs.Outcomes.{cut_none}
use Rattle.slot_disk.specs.Steps.{Deed, Wrote, CutTo, Synced, seen_of, HasStep, HasRoom}
use Rattle.slot_disk.specs.declared.failing.Fate.{Fate}
use Rattle.slot_disk.specs.declared.failing.Fate.TheVariants.{Works, Fails, FailsDone}
use Rattle.slot_disk.specs.declared.step.Room.{Room}
use Rattle.slot_disk.specs.declared.step.Step.{Step}
use Rattle.slot_disk.proofs.Ranges.{torn_same}
use Rattle.bytewise_disk.specs.Mix.{Mixed}
use Rattle.bytewise_disk.specs.Images.{IsImage, Leaves, LeftSince}
use Rattle.bytewise_disk.specs.ImageLaws.{mixed_whole, seen_is_image}

-- this call was recorded, or none
abbrev pub OneMore : List Deed → List Deed → Deed → Type 0
OneMore old new d = (new ≡ old) ⊎ (new ≡ old ++ d ∷ [])

-- it was not, if it failed with no effect or for want of room
one_more : (old new : List Deed) (d : Deed) (fate : Fate) (Room : Type 0) → Room ⊎ (Room → ⊥) → (fate ≡ Fails → new ≡ old) → ((Room → ⊥) → new ≡ old) → (fate ≢ Fails → Room → new ≡ old ++ d ∷ []) → OneMore old new d
one_more old new d Fails R room undone no_room done = inl (undone refl)
one_more old new d Works R (inl room) undone no_room done = inr (done (λ e. cc) room)
one_more old new d FailsDone R (inl room) undone no_room done = inr (done (λ e. cc) room)
one_more old new d fate R (inr none) undone no_room done = inl (no_room none)

step_room : (room : Room) (taken : List Step) → HasStep room taken ⊎ (HasStep room taken → ⊥)
step_room room taken = by (cases_lt (length taken) room.calls)
  where
    by : (length taken < room.calls) ⊎ (room.calls ≤ length taken) → HasStep room taken ⊎ (HasStep room taken → ⊥)
    by (inl lt) = inl lt
    by (inr le) = inr (λ lt. omega arith)

write_room : (room : Room) (taken : List Step) (log : List ℕ) (at n : ℕ) → HasRoom room taken log at n ⊎ (HasRoom room taken log at n → ⊥)
write_room room taken log at n = by (cases_lt (length taken) room.calls) (cases_lt room.bytes (at + n)) (cases_lt room.written (length log + n))
  where
    by : (length taken < room.calls) ⊎ (room.calls ≤ length taken) → (room.bytes < at + n) ⊎ (at + n ≤ room.bytes) → (room.written < length log + n) ⊎ (length log + n ≤ room.written) → HasRoom room taken log at n ⊎ (HasRoom room taken log at n → ⊥)
    by (inl step) (inr bytes) (inr written) = inl (record { step = step; bytes = bytes; written = written })
    by (inr le) b w = inr (λ (has : HasRoom room taken log at n). omega (arith, has.step))
    by s (inl lt) w = inr (λ (has : HasRoom room taken log at n). omega (arith, has.bytes))
    by s b (inl lt) = inr (λ (has : HasRoom room taken log at n). omega (arith, has.written))

pub wrote_or_not : (old new : List Deed) (at : ℕ) (bytes : List ℕ) (fate : Fate) (room : Room) (taken : List Step) (log : List ℕ) → (fate ≡ Fails → new ≡ old) → ((HasRoom room taken log at (length bytes) → ⊥) → new ≡ old) → (fate ≢ Fails → HasRoom room taken log at (length bytes) → new ≡ old ++ Wrote at bytes ∷ []) → OneMore old new (Wrote at bytes)
wrote_or_not old new at bytes fate room taken log undone no_room done = one_more old new (Wrote at bytes) fate (HasRoom room taken log at (length bytes)) (write_room room taken log at (length bytes)) undone no_room done

pub called_or_not : (old new : List Deed) (d : Deed) (fate : Fate) (room : Room) (taken : List Step) → (fate ≡ Fails → new ≡ old) → ((HasStep room taken → ⊥) → new ≡ old) → (fate ≢ Fails → HasStep room taken → new ≡ old ++ d ∷ []) → OneMore old new d
called_or_not old new d fate room taken undone no_room done = one_more old new d fate (HasStep room taken) (step_room room taken) undone no_room done

-- time after it
pub elapses : (first later : List ℕ) (old new : List Deed) (d : Deed) → later ≡ first → OneMore old new d → Elapses (length old) (length new) (LeftSince first old) (LeftSince later new) (Leaves later new)
elapses first later old new d same (inl is) =
    subst (λ (f : List ℕ). Elapses (length old) (length new) (LeftSince first old) (LeftSince f new) (Leaves f new)) (sym same)
    (subst (λ (l : List Deed). Elapses (length old) (length l) (LeftSince first old) (LeftSince first l) (Leaves first l)) (sym is)
    (record { later = omega arith; nothing_else = λ t c le left. inl left; keeps = λ t c le left. left }))
elapses first later old new d same (inr is) =
    subst (λ (f : List ℕ). Elapses (length old) (length new) (LeftSince first old) (LeftSince f new) (Leaves f new)) (sym same)
    (subst (λ (l : List Deed). Elapses (length old) (length l) (LeftSince first old) (LeftSince first l) (Leaves first l)) (sym is) (record {
      later = omega (arith, length-append old (d ∷ []));
      nothing_else = λ t c le left. by t c left (cases_lt (length old) left.0);
      keeps = λ t c le left. (left.0, left.1, omega (arith, left.2, length-append old (d ∷ [])), subst (λ (l : List Deed). Leaves first l c) (sym (take-append-le left.0 old (d ∷ []) left.2)) left.3);
    }))
  where
    by : (t : ℕ) (c : List ℕ) (left : LeftSince first (old ++ d ∷ []) t c) → (length old < left.0) ⊎ (left.0 ≤ length old) → LeftSince first old t c ⊎ Leaves first (old ++ d ∷ []) c
    by t c left (inl more) = inr (subst (λ (l : List Deed). Leaves first l c) (take_all left.0 (old ++ d ∷ []) (omega (arith, length-append old (d ∷ [])))) left.3)
    by t c left (inr le) = inl (left.0, left.1, le, subst (λ (l : List Deed). Leaves first l c) (take-append-le left.0 old (d ∷ []) le) left.3)

-- an outcome after it is one with this call at the front, newest first, or one from before
turned : (first later : List ℕ) (old new : List Deed) (d : Deed) → later ≡ first → OneMore old new d → (c : List ℕ) → Leaves later new c → IsImage first (reverse old) c ⊎ IsImage first (d ∷ reverse old) c
turned first later old new d same (inl is) c left = inl (subst (λ (l : List Deed). Leaves first l c) is (subst (λ (f : List ℕ). Leaves f new c) same left))
turned first later old new d same (inr is) c left =
    inr (subst (λ (l : List Deed). IsImage first l c) (reverse-append old (d ∷ [])) (subst (λ (l : List Deed). Leaves first l c) is (subst (λ (f : List ℕ). Leaves f new c) same left)))

-- what a crash leaves after a write, in both readings of what is torn
pub write_leaves : (first later : List ℕ) (old new : List Deed) (at : ℕ) (bytes : List ℕ) → later ≡ first → OneMore old new (Wrote at bytes) → (c : List ℕ) → Leaves later new c → (d : List ℕ) × Leaves first old d × Torn at (length bytes) d c × Mixed at bytes d c
write_leaves first later old new at bytes same more c left = by (turned first later old new (Wrote at bytes) same more c left)
  where
    by : IsImage first (reverse old) c ⊎ IsImage first (Wrote at bytes ∷ reverse old) c → (d : List ℕ) × Leaves first old d × Torn at (length bytes) d c × Mixed at bytes d c
    by (inl before) = (c, before, torn_same at (length bytes) c, record { each = λ i. inl refl })
    by (inr after) = after

pub cut_leaves : (first later : List ℕ) (old new : List Deed) (n : ℕ) → later ≡ first → OneMore old new (CutTo n) → (c : List ℕ) → Leaves later new c → (d : List ℕ) × Leaves first old d × Cut n d c
cut_leaves first later old new n same more c left = by (turned first later old new (CutTo n) same more c left)
  where
    by : IsImage first (reverse old) c ⊎ IsImage first (CutTo n ∷ reverse old) c → (d : List ℕ) × Leaves first old d × Cut n d c
    by (inl before) = (c, before, cut_none c n)
    by (inr after) = after

pub sync_leaves : (first later : List ℕ) (old new : List Deed) → later ≡ first → OneMore old new Synced → (c : List ℕ) → Leaves later new c → Leaves first old c
sync_leaves first later old new same more c left = by (turned first later old new Synced same more c left)
  where
    by : IsImage first (reverse old) c ⊎ IsImage first (Synced ∷ reverse old) c → Leaves first old c
    by (inl before) = before
    by (inr after) = subst (λ (b : List ℕ). IsImage first (reverse old) b) (sym after) (seen_is_image first (reverse old))

-- what a read returns after a write that may have failed is one of its outcomes
pub write_seen : (first later file after : List ℕ) (old new : List Deed) (at : ℕ) (bytes : List ℕ) → later ≡ first → file ≡ seen_of first (reverse old) → after ≡ seen_of later (reverse new) → OneMore old new (Wrote at bytes) → Mixed at bytes file after
write_seen first later file after old new at bytes same was is (inl more) =
    let e : after ≡ file = is ∙ ap (λ (f : List ℕ). seen_of f (reverse new)) same ∙ ap (λ (l : List Deed). seen_of first (reverse l)) more ∙ sym was in
    rw e (record { each = λ i. inl refl })
write_seen first later file after old new at bytes same was is (inr more) =
    let e : after ≡ written file at bytes =
    is ∙ ap (λ (f : List ℕ). seen_of f (reverse new)) same ∙ ap (λ (l : List Deed). seen_of first (reverse l)) more
    ∙ ap (λ (l : List Deed). seen_of first l) (reverse-append old (Wrote at bytes ∷ [])) ∙ ap (λ (l : List ℕ). written l at bytes) (sym was) in
    rw e (mixed_whole file at bytes)

-- a sync, also one that failed, leaves what a read returns
pub sync_seen : (first later file after : List ℕ) (old new : List Deed) → later ≡ first → file ≡ seen_of first (reverse old) → after ≡ seen_of later (reverse new) → OneMore old new Synced → after ≡ file
sync_seen first later file after old new same was is (inl more) =
    is ∙ ap (λ (f : List ℕ). seen_of f (reverse new)) same ∙ ap (λ (l : List Deed). seen_of first (reverse l)) more ∙ sym was
sync_seen first later file after old new same was is (inr more) =
    is ∙ ap (λ (f : List ℕ). seen_of f (reverse new)) same ∙ ap (λ (l : List Deed). seen_of first (reverse l)) more
    ∙ ap (λ (l : List Deed). seen_of first l) (reverse-append old (Synced ∷ [])) ∙ sym was
