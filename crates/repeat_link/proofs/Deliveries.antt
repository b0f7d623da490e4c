-- A channel gives each frame once, as it was sent.
use Rattle.std.proofs.Common.{◌≡◌, ◌∙◌, ◌<◌, ◌≤◌, ◌==◌, ◌&&◌, ◌||◌, ◌⊎◌, inl, inr, ℕ, zero, suc, Bool, true, false, not, nat_lt, List, [], ◌∷◌, Option, None, Some, refl, sym, ap, arith, length, replicate, slice_set, if◌then◌else◌}
use Rattle.std.specs.Prelude.{slice_index_or, IfOk, IfSome, Result, Ok, Err, Vec}
use Rattle.std.specs.declared.alloc.AllocError.{AllocError}
use Rattle.std.specs.declared.alloc.Global.{Global}
use Rattle.environment.specs.Told.{bytes_of}
use Rattle.std.proofs.lemmas.Bool.Decides.{nat_tests}
use Rattle.std.proofs.lemmas.List.{length-set, length-replicate}
use Rattle.repeat_link.proofs.Pieces.{frame_of_parts, one_part}
use Rattle.repeat_link.specs.Channels.{Talk, met, heard, is_given, has_frame, noted, completed, Holds, IsPart, IsGenuine}
use Rattle.repeat_link.specs.Parts.{part_count, part_at, parts_for, with_part, whole}
use Rattle.repeat_link.specs.Received.{is_old}
use Rattle.repeat_link.specs.declared.header.Header.{Header}

le_of_given : (r s : ℕ) (b : Bool) → (nat_lt r s || (r == s && b)) ≡ true → r ≤ s
le_of_given r s b given = grind (arith, nat_tests)

below_given : (r s : ℕ) (b : Bool) → r < s → (nat_lt r s || b) ≡ true
below_given r s b below = grind (arith, nat_tests)

test_lt : (a b : ℕ) → nat_lt a b ≡ true → a < b
test_lt a b h = grind (arith, nat_tests)

same_of_tests : (a b : ℕ) → nat_lt a b ≡ false → nat_lt b a ≡ false → a ≡ b
same_of_tests a b h k = grind (arith, nat_tests)

-- of a greater run nothing was given, and of the one before nothing is given any more
given_after_run : (t : Talk) (run r m : ℕ) → is_given t r m ≡ true → is_given (met run t) r m ≡ true
given_after_run t run r m given = by (nat_lt t.run run) refl
  where
    by : (b : Bool) → nat_lt t.run run ≡ b → is_given (met run t) r m ≡ true
    by true above = let few = le_of_given r t.run (is_old t.received m) given in let more = test_lt t.run run above in rw above (below_given r run _ (omega arith))
    by false same = rw same given

holds_after_run : (frames : ℕ → ℕ → List ℕ) (t : Talk) (run : ℕ) → Holds frames t → Holds frames (met run t)
holds_after_run frames t run holds = by (nat_lt t.run run) refl
  where
    by : (b : Bool) → nat_lt t.run run ≡ b → Holds frames (met run t)
    by true above = rw above (record { count = inl refl; parts = λ place part is. absurd (cc is) })
    by false same = rw same holds

-- the same after all that a header tells
pub given_after_header : (now own : ℕ) (h : Header) (t : Talk) (r m : ℕ) → is_given t r m ≡ true → is_given (heard now own h t) r m ≡ true
given_after_header now own h t r m given = by (nat_lt h.run t.run) (h.known_run == own) refl refl
  where
    by : (a b : Bool) → nat_lt h.run t.run ≡ a → (h.known_run == own) ≡ b → is_given (heard now own h t) r m ≡ true
    by true b old known = rw old given
    by false true new known = rw (new, known) (given_after_run t h.run r m given)
    by false false new known = rw (new, known) (given_after_run t h.run r m given)

pub holds_after_header : (frames : ℕ → ℕ → List ℕ) (now own : ℕ) (h : Header) (t : Talk) → Holds frames t → Holds frames (heard now own h t)
holds_after_header frames now own h t holds = by (nat_lt h.run t.run) (h.known_run == own) refl refl (holds_after_run frames t h.run holds)
  where
    by : (a b : Bool) → nat_lt h.run t.run ≡ a → (h.known_run == own) ≡ b → Holds frames (met h.run t) → Holds frames (heard now own h t)
    by true b old known told = rw old holds
    by false true new known told = rw (new, known) (record { count = told.count; parts = told.parts })
    by false false new known told = rw (new, known) told

-- where no part came, there is none
none_there : (n place : ℕ) → slice_index_or (replicate {A = Option (List ℕ)} n None) place None ≡ None
none_there zero place = refl
none_there (suc n) zero = refl
none_there (suc n) (suc place) = none_there n place

-- a part in its place, and what was in another place
set_there : (xs : List (Option (List ℕ))) (i place : ℕ) (part p : List ℕ) → i < length xs → slice_index_or (slice_set xs i (Some part)) place None ≡ Some p → ((place ≡ i) × (p ≡ part)) ⊎ (slice_index_or xs place None ≡ Some p)
set_there [] i place part p within found = absurd (omega arith)
set_there (x ∷ xs) zero zero part p within found = inl (refl, cc found)
set_there (x ∷ xs) zero (suc place) part p within found = inr found
set_there (x ∷ xs) (suc i) zero part p within found = inr found
set_there (x ∷ xs) (suc i) (suc place) part p within found =
    elim (set_there xs i place part p (omega arith) found) [
      | inl here ↦ inl (ap suc here.0, here.1)
      | inr other ↦ inr other
    ]

both : (a b : Bool) → (a && b) ≡ true → (a ≡ true) × (b ≡ true)
both true true h = (refl, refl)
both true false h = absurd (cc h)
both false b h = absurd (cc h)

same_number : (a b : ℕ) → (a == b) ≡ true → a ≡ b
same_number a b h = grind (arith, nat_tests)

-- a part that came, among those that came before
module _ (frames : ℕ → ℕ → List ℕ) (t : Talk) (h : Header) (part : List ℕ) (run : h.run ≡ t.run) (holds : Holds frames t) (is : IsPart frames h part) where
  before : (place : ℕ) (p : List ℕ) → slice_index_or (parts_for t.partial h.number h.parts) place None ≡ Some p → p ≡ part_at place (frames h.run h.number)
  before place p found = by (t.partial.number == h.number && length t.partial.parts == h.parts) refl found
    where
      by : (b : Bool) → (t.partial.number == h.number && length t.partial.parts == h.parts) ≡ b → slice_index_or (if b then t.partial.parts else replicate h.parts None) place None ≡ Some p → p ≡ part_at place (frames h.run h.number)
      by true same found =
          let number = same_number t.partial.number h.number (both (t.partial.number == h.number) (length t.partial.parts == h.parts) same).0 in
          let frame : frames t.run t.partial.number ≡ frames h.run h.number = cc (number, run) in
          holds.parts place p found ∙ ap (part_at place) frame
      by false other found = absurd (cc (none_there h.parts place, found))

  places : length (parts_for t.partial h.number h.parts) ≡ h.parts
  places = by (t.partial.number == h.number && length t.partial.parts == h.parts) refl
    where
      by : (b : Bool) → (t.partial.number == h.number && length t.partial.parts == h.parts) ≡ b → length (if b then t.partial.parts else replicate h.parts None) ≡ h.parts
      by true same = same_number (length t.partial.parts) h.parts (both (t.partial.number == h.number) (length t.partial.parts == h.parts) same).1
      by false other = length-replicate h.parts None

  now_there : (place : ℕ) (p : List ℕ) → slice_index_or (with_part t.partial h.number h.part h.parts part).parts place None ≡ Some p → p ≡ part_at place (frames h.run h.number)
  now_there place p found =
      elim (set_there (parts_for t.partial h.number h.parts) h.part place part p within found) [
        | inl here ↦ here.1 ∙ is.bytes ∙ ap (λ k. part_at k (frames h.run h.number)) (sym here.0)
        | inr other ↦ before place p other
      ]
    where
      within : h.part < length (parts_for t.partial h.number h.parts)
      within = let count = places in let place = is.place in omega arith

  as_many : length (with_part t.partial h.number h.part h.parts part).parts ≡ part_count (frames h.run h.number)
  as_many = length-set (parts_for t.partial h.number h.parts) h.part (Some part) ∙ places ∙ is.count

  pub holds_with_part : Holds frames (record t { partial = with_part t.partial h.number h.part h.parts part })
  holds_with_part = record {
    count = inr (as_many ∙ ap (λ r. part_count (frames r h.number)) run);
    parts = λ place p found. now_there place p found ∙ ap (λ r. part_at place (frames r h.number)) run;
  }

  pub whole_is_sent : (x : List ℕ) → whole (with_part t.partial h.number h.part h.parts part).parts ≡ Some x → x ≡ frames h.run h.number
  whole_is_sent x found = frame_of_parts (with_part t.partial h.number h.part h.parts part).parts (frames h.run h.number) x as_many now_there found

  -- a frame of one part
  pub alone_is_sent : h.parts ≡ 1 → part ≡ frames h.run h.number
  alone_is_sent one =
      let place = is.place in
      let first : h.part ≡ 0 = omega arith in
      is.bytes ∙ ap (λ k. part_at k (frames h.run h.number)) first ∙ one_part (frames h.run h.number) (sym is.count ∙ one)

-- after all that a datagram tells but for its frame
pub given_after_note : (now own : ℕ) (h : Header) (t : Talk) (r m : ℕ) → is_given t r m ≡ true → is_given (noted now own h t) r m ≡ true
given_after_note now own h t r m given = by (has_frame h t) refl (given_after_header now own h t r m given)
  where
    by : (b : Bool) → has_frame h t ≡ b → is_given (heard now own h t) r m ≡ true → is_given (noted now own h t) r m ≡ true
    by true frame told = rw frame told
    by false none told = rw none told

pub holds_after_note : (frames : ℕ → ℕ → List ℕ) (now own : ℕ) (h : Header) (t : Talk) → Holds frames t → Holds frames (noted now own h t)
holds_after_note frames now own h t holds = by (has_frame h t) refl (holds_after_header frames now own h t holds)
  where
    by : (b : Bool) → has_frame h t ≡ b → Holds frames (heard now own h t) → Holds frames (noted now own h t)
    by true frame told = rw frame (record { count = told.count; parts = told.parts })
    by false none told = rw none told

-- a header that is not of an earlier run is of the run that is kept
pub noted_run : (now own : ℕ) (h : Header) (t : Talk) → has_frame h t ≡ true → h.run ≡ (noted now own h t).run
noted_run now own h t frame = by (nat_lt h.run t.run) (h.number == 0) (h.known_run == own) (nat_lt t.run h.run) refl refl refl refl frame
  where
    by : (a b k m : Bool) → nat_lt h.run t.run ≡ a → (h.number == 0) ≡ b → (h.known_run == own) ≡ k → nat_lt t.run h.run ≡ m → not (nat_lt h.run t.run || h.number == 0) ≡ true → h.run ≡ (noted now own h t).run
    by true b k m old number known above frame = absurd (cc (rw old at frame))
    by false true k m new number known above frame = absurd (cc (rw (new, number) at frame))
    by false false true true new number known above frame = rw (new, number, known, above) refl
    by false false true false new number known above frame = rw (new, number, known, above) (same_of_tests h.run t.run new above)
    by false false false true new number known above frame = rw (new, number, known, above) refl
    by false false false false new number known above frame = rw (new, number, known, above) (same_of_tests h.run t.run new above)

pub noted_partial : (now own : ℕ) (h : Header) (part : List ℕ) (t : Talk) → has_frame h t ≡ true → completed own h part (noted now own h t) ≡ completed own h part (met h.run t)
noted_partial now own h part t frame = by (nat_lt h.run t.run) (h.number == 0) (h.known_run == own) refl refl refl frame
  where
    by : (a b k : Bool) → nat_lt h.run t.run ≡ a → (h.number == 0) ≡ b → (h.known_run == own) ≡ k → not (nat_lt h.run t.run || h.number == 0) ≡ true → completed own h part (noted now own h t) ≡ completed own h part (met h.run t)
    by true b k old number known frame = absurd (cc (rw old at frame))
    by false true k new number known frame = absurd (cc (rw (new, number) at frame))
    by false false true new number known frame = rw (new, number, known) refl
    by false false false new number known frame = rw (new, number, known) refl

-- the frames of the run that is kept, once more numbers came
pub given_more : (u v : Talk) (r m : ℕ) → v.run ≡ u.run → ((k : ℕ) → is_old u.received k ≡ true → is_old v.received k ≡ true) → is_given u r m ≡ true → is_given v r m ≡ true
given_more u v r m run more given = rw run (by (nat_lt r u.run) (is_old u.received m) refl given)
  where
    never : (b : Bool) → (b && false) ≡ true → ⊥
    never true h = cc h
    never false h = cc h

    by : (a b : Bool) → is_old u.received m ≡ b → (a || (r == u.run && is_old u.received m)) ≡ true → (a || (r == u.run && is_old v.received m)) ≡ true
    by true b is given = refl
    by false true is given = ap (λ c. r == u.run && c) (more m is) ∙ sym (ap (λ c. r == u.run && c) is) ∙ given
    by false false is given = absurd (never (r == u.run) (rw is at given))

-- a number of the run that is kept
pub given_now : (t : Talk) (m : ℕ) → is_given t t.run m ≡ is_old t.received m
given_now t m = kept t.run (is_old t.received m)
  where
    kept : (r : ℕ) (b : Bool) → (nat_lt r r || (r == r && b)) ≡ b
    kept r b = grind (arith, nat_tests)

-- a frame that was new to the run that is kept now was new before
pub not_given_before : (now own : ℕ) (h : Header) (t : Talk) → has_frame h t ≡ true → is_old (noted now own h t).received h.number ≡ false → is_given t h.run h.number ≡ false
not_given_before now own h t frame new = by (is_given t h.run h.number) refl
  where
    by : (b : Bool) → is_given t h.run h.number ≡ b → is_given t h.run h.number ≡ false
    by false is = is
    by true is =
        let run = noted_run now own h t frame in
        let later = given_after_note now own h t h.run h.number is in
        let old = sym (given_now (noted now own h t) h.number) ∙ ap (λ r. is_given (noted now own h t) r h.number) (sym run) ∙ later in
        absurd (cc (old, new))

-- what a channel holds of a run hangs on that run and the parts alone
pub holds_at : (frames : ℕ → ℕ → List ℕ) (u v : Talk) → u.run ≡ v.run → u.partial ≡ v.partial → Holds frames u → Holds frames v
holds_at frames u v run partial holds = record {
  count = rw (← run, ← partial) holds.count;
  parts = λ place p found. rw (← run, ← partial) (holds.parts place p (rw (← partial) at found));
}

-- facts of a frame that was given
pub if_given : {P Q : Type 0} (r : Result (Option (Vec ℕ Global)) AllocError) → (P → Q) → IfOk r (λ o. IfSome o (λ f. P)) → IfOk r (λ o. IfSome o (λ f. Q))
if_given (Ok None) more is = tt
if_given (Ok (Some f)) more is = more is
if_given (Err e) more is = tt

pub given_is_sent : (r : Result (Option (Vec ℕ Global)) AllocError) (w : Option (List ℕ)) (frame : List ℕ) → ((x : List ℕ) → w ≡ Some x → x ≡ frame) → IfOk r (λ o. bytes_of o ≡ w) → IfOk r (λ o. IfSome o (λ f. f.items ≡ frame))
given_is_sent (Ok None) w frame sent is = tt
given_is_sent (Ok (Some f)) w frame sent is = sent f.items (sym is)
given_is_sent (Err e) w frame sent is = tt

-- a datagram with a number is a part of a frame
pub numbered : (frames : ℕ → ℕ → List ℕ) (h : Header) (part : List ℕ) (t : Talk) → has_frame h t ≡ true → IsGenuine frames h part → IsPart frames h part
numbered frames h part t frame (inl none) = absurd (never (nat_lt h.run t.run) (h.number == 0) (zero_test h.number none) frame)
  where
    zero_test : (n : ℕ) → n ≡ 0 → (n == 0) ≡ true
    zero_test n is = grind (arith, nat_tests)

    never : (a b : Bool) → b ≡ true → not (a || b) ≡ true → ⊥
    never true b is holds = cc holds
    never false b is holds = cc (rw is at holds)
numbered frames h part t frame (inr is) = is
