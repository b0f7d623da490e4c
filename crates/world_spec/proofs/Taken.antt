-- Strings that a hasher took, one after another, and the string that it rejected.
use Rattle.std.proofs.Common.{◌≡◌, ◌≤◌, ◌⊎◌, ℕ, List, [], ◌∷◌, ◌++◌, Option, None, Some, Contains, refl, sym, ap, subst, ◌∙◌, inl, inr, arith}
use Rattle.std.proofs.lemmas.List.{append-nil, append_assoc}
use Rattle.std.proofs.lemmas.List.Elements.{Contains-append_left, Contains-append_cases, Contains-push, Contains-push_cases}
use Rattle.hash_book.proofs.ClashFree.{same_string}
use Rattle.hash_book.specs.Hashing.{Book, Takes, AreClashFree, empty_book}
use Rattle.step_plans.specs.declared.error.PeerError.{PeerError}
use Rattle.step_plans.specs.declared.error.PeerError.TheVariants as errors
use Rattle.world_spec.specs.Held.{Account, HasTaken, HasHashed, HasNoClash, StartsWith}
use Rattle.world_spec.specs.HeldLaws.{HasRejected, IsUnplanned}

-- ## A list that starts with another

pub starts_here : {A : Type 0} (xs : List A) → StartsWith xs xs
starts_here xs = ([], sym (append-nil xs))

pub starts_later : {A : Type 0} (xs ys zs : List A) → StartsWith xs ys → StartsWith ys zs → StartsWith xs zs
starts_later xs ys zs first last = (first.0 ++ last.0, last.1 ∙ ap (λ k. k ++ last.0) first.1 ∙ append_assoc xs first.0 last.0)

pub starts_before : {A : Type 0} (xs : List A) (x : A) (ys : List A) → StartsWith (xs ++ x ∷ []) ys → StartsWith xs ys
starts_before xs x ys starts = starts_later xs (xs ++ x ∷ []) ys (x ∷ [], refl) starts

-- ## A string was rejected

-- of strings that start with those taken and this one
pub rejected_at : (taken strings : List (List ℕ)) (first : Account) (bytes : List ℕ) (now : Account) → StartsWith (taken ++ bytes ∷ []) strings → HasTaken taken first.kept now.kept → HasRejected strings first bytes now
rejected_at taken strings first bytes now starts has = record {
  before = taken;
  later = starts.0;
  are = starts.1 ∙ append_assoc taken (bytes ∷ []) starts.0;
  taken = has;
}

pub rejected_further : (xs ys : List (List ℕ)) (first : Account) (bytes : List ℕ) (now : Account) → StartsWith xs ys → HasRejected xs first bytes now → HasRejected ys first bytes now
rejected_further xs ys first bytes now starts has = record {
  before = has.before;
  later = has.later ++ starts.0;
  are = starts.1 ∙ ap (λ k. k ++ starts.0) has.are ∙ append_assoc has.before (bytes ∷ has.later) starts.0;
  taken = has.taken;
}

-- what cut off a run cuts off one that hashes more
pub unplanned_further : (xs ys : List (List ℕ)) (first now : Account) (e : PeerError) → StartsWith xs ys → IsUnplanned xs first now e → IsUnplanned ys first now e
unplanned_further xs ys first now errors.Memory starts cut = tt
unplanned_further xs ys first now (errors.Clash kept new) starts cut = (rejected_further xs ys first new now starts cut.0, cut.1, cut.2, cut.3)
unplanned_further xs ys first now (errors.BookFull kept) starts cut = (let filled = cut.0 in (filled.0, rejected_further xs ys first filled.0 now starts filled.1, filled.2, filled.3), cut.1)
unplanned_further xs ys first now errors.StoreFault starts cut = absurd cut
unplanned_further xs ys first now errors.Halted starts cut = absurd cut
unplanned_further xs ys first now (errors.BadFact why) starts cut = absurd cut

-- ## Strings were taken

-- one more string was taken
pub taken_more : (xs : List (List ℕ)) (x : List ℕ) (first kept now : Option Book) → HasTaken xs first kept → Takes x kept now → HasTaken (xs ++ x ∷ []) first now
taken_more [] x first kept now taken takes = (now, subst (λ k. Takes x k now) taken takes, refl)
taken_more (y ∷ xs) x first kept now taken takes = (taken.0, taken.1, taken_more xs x taken.0 kept now taken.2 takes)

-- some more strings were taken
pub taken_all : (xs ys : List (List ℕ)) (first kept now : Option Book) → HasTaken xs first kept → HasTaken ys kept now → HasTaken (xs ++ ys) first now
taken_all [] ys first kept now taken later = subst (λ k. HasTaken ys k now) taken later
taken_all (x ∷ xs) ys first kept now taken later = (taken.0, taken.1, taken_all xs ys taken.0 kept now taken.2 later)

pub hashed_none : (first : Account) → HasHashed [] first first
hashed_none first = record { taken = refl; clashes = omega arith; fulls = omega arith }

pub hashed_more : (xs : List (List ℕ)) (x : List ℕ) (first kept now : Account) → HasHashed xs first kept → Takes x kept.kept now.kept → kept.clashes ≤ now.clashes → kept.fulls ≤ now.fulls → HasHashed (xs ++ x ∷ []) first now
hashed_more xs x first kept now has takes clashes fulls = record {
  taken = taken_more xs x first.kept kept.kept now.kept has.taken takes;
  clashes = omega (arith, has.clashes, clashes);
  fulls = omega (arith, has.fulls, fulls);
}

pub hashed_all : (xs ys : List (List ℕ)) (first kept now : Account) → HasHashed xs first kept → HasHashed ys kept now → HasHashed (xs ++ ys) first now
hashed_all xs ys first kept now has later = record {
  taken = taken_all xs ys first.kept kept.kept now.kept has.taken later.taken;
  clashes = omega (arith, has.clashes, later.clashes);
  fulls = omega (arith, has.fulls, later.fulls);
}

-- what a hasher keeps is known exactly if it was
told_still : (x : List ℕ) (first : Book) (next : Option Book) → Takes x (Some first) next → (kept : Book) × (next ≡ Some kept)
told_still x first None takes = absurd takes
told_still x first (Some kept) takes = (kept, refl)

-- a hasher that takes a string keeps it, and what it kept
record HasKept (first : Book) (x : List ℕ) (kept : Book) : Type 0 where
  here : Contains kept.strings x
  old : (y : List ℕ) → Contains first.strings y → Contains kept.strings y

has_kept : (x : List ℕ) (first kept : Book) → Takes x (Some first) (Some kept) → HasKept first x kept
has_kept x first kept (inl same) = record { here = rw same.1 same.0; old = λ y there. rw same.1 there }
has_kept x first kept (inr new) = record { here = rw new.1 (Contains-push first.strings x); old = λ y there. rw new.1 (Contains-append_left first.strings (x ∷ []) y there) }

-- all strings taken are kept
pub record AreKept (first : Book) (strings : List (List ℕ)) (now : Option Book) : Type 0 where
  pub kept : Book
  pub is : now ≡ Some kept
  pub old : (y : List ℕ) → Contains first.strings y → Contains kept.strings y
  pub new : (y : List ℕ) → Contains strings y → Contains kept.strings y

cons_cases : (x : List ℕ) (xs : List (List ℕ)) (y : List ℕ) → Contains (x ∷ xs) y → (x ≡ y) ⊎ Contains xs y
cons_cases x xs y there = by (Contains-append_cases (x ∷ []) xs y there) where
  only : Contains [] y ⊎ (x ≡ y) → (x ≡ y) ⊎ Contains xs y
  only (inl none) = absurd (omega (arith, none.1))
  only (inr e) = inl e

  by : Contains (x ∷ []) y ⊎ Contains xs y → (x ≡ y) ⊎ Contains xs y
  by (inl first) = only (Contains-push_cases [] x y first)
  by (inr later) = inr later

one_kept : (x : List ℕ) (xs : List (List ℕ)) (first next : Book) (now : Option Book) → HasKept first x next → AreKept next xs now → AreKept first (x ∷ xs) now
one_kept x xs first next now has rest = record {
  kept = rest.kept;
  is = rest.is;
  old = λ y there. rest.old y (has.old y there);
  new = λ y there. by y (cons_cases x xs y there);
}
  where
    by : (y : List ℕ) → (x ≡ y) ⊎ Contains xs y → Contains rest.kept.strings y
    by y (inl e) = subst (Contains rest.kept.strings) e (rest.old x has.here)
    by y (inr later) = rest.new y later

pub are_kept : (strings : List (List ℕ)) (first : Book) (now : Option Book) → HasTaken strings (Some first) now → AreKept first strings now
are_kept [] first now taken = record { kept = first; is = taken; old = λ y there. there; new = λ y there. absurd (omega (arith, there.1)) }
are_kept (x ∷ xs) first now taken =
    let told = told_still x first taken.0 taken.1 in
    one_kept x xs first told.0 now (has_kept x first told.0 (rw told.1 at taken.1)) (are_kept xs told.0 now (rw told.1 at taken.2))

-- none of the strings that such a hasher took clashes with another
pub are_apart : (strings : List (List ℕ)) (limit : ℕ) (kept : Option Book) → HasTaken strings (Some (empty_book limit)) kept → AreClashFree kept → HasNoClash strings
are_apart strings limit kept taken free first second a b same =
    let all = are_kept strings (empty_book limit) kept taken in
    same_string all.kept.strings first second (rw all.is at free) (all.new first a) (all.new second b) same

-- a string that was rejected after some were taken, of all of them
pub rejected_after : (xs ys : List (List ℕ)) (first mid : Account) (bytes : List ℕ) (now : Account) → HasHashed xs first mid → HasRejected ys mid bytes now → HasRejected (xs ++ ys) first bytes now
rejected_after xs ys first mid bytes now has rejected = record {
  before = xs ++ rejected.before;
  later = rejected.later;
  are = ap (λ h. xs ++ h) rejected.are ∙ sym (append_assoc xs rejected.before (bytes ∷ rejected.later));
  taken = taken_all xs rejected.before first.kept mid.kept now.kept has.taken rejected.taken;
}
