-- A plan that sets the top record by its last call alone: what each of its ends leaves there.
use Rattle.std.proofs.Common.{◌≡◌, ◌⊎◌, ℕ, List, [], Option, None, Some, Result, Ok, Err, refl, sym, subst, inl, inr}
use Rattle.ens_base.specs.declared.entry.Entry.{Entry}
use Rattle.environment.specs.Stores.{SetTop}
use Rattle.environment.specs.Told.{StaysTold}
use Rattle.tree_node.specs.declared.position.Position.{Position}
use Rattle.synctree.specs.Forms.{Form, root}
use Rattle.synctree.specs.Plans.{Call, Node, AnswerOf, Plan, Done, Broken, Ask, ◌>>=◌, Ends, Stops, Did}
use Rattle.synctree.specs.Walks.{set_top}
use Rattle.synctree.specs.declared.error.TreeError.{TreeError}
use Rattle.synctree.specs.declared.error.TreeError.TheVariants.{Damaged, Failed, Clash, BookFull, Memory}
use Rattle.synctree.proofs.Meaning.{ok_once, parted}
use Rattle.synctree.proofs.Records.{told_on, SetsNone, enter_none, Sparing, still, ends_keep}
use Rattle.tree_repair.specs.Tops.{HoldsTop, OldOrNew, LeavesTop, path_plan}

-- ## Known records

told_holds : (a b c : Option (Option (List ℕ))) (digest : List ℕ) → StaysTold a b → HoldsTop b c digest → HoldsTop a c digest
told_holds None b c digest h k = tt
told_holds (Some top) b c digest h k = subst (λ (o : Option (Option (List ℕ))). HoldsTop o c digest) h k

-- ## The path of an entry

pub path_none : (F : Form) (top : Option (List ℕ)) (e : Entry) → SetsNone (path_plan F top e)
path_none F None e = (tt, λ _. tt)
path_none F (Some digest) e = (tt, λ _. enter_none F F.depth root (Some digest) e)

-- ## The ends of a plan that sets it last

-- out of memory, or a failure of the store
abbrev pub IsLate : TreeError → Type 0
IsLate (Damaged at) = ⊥
IsLate Failed = Unit {0}
IsLate (Clash first second) = ⊥
IsLate (BookFull bytes) = ⊥
IsLate Memory = Unit {0}

-- what a store and a hasher leave of the top record
pub record Keeping {S : Type 0} (top : S → Option (Option (List ℕ))) (does : S → (call : Call) → AnswerOf call → S → Type 0) (refuses : S → Call → TreeError → S → Type 0) : Type 0 where
  pub sparing : Sparing top does refuses
  pub sets : (s t : S) (digest : List ℕ) → does s (Node (SetTop digest)) tt t → HoldsTop (top s) (top t) digest
  pub set_refused : (s t : S) (digest : List ℕ) (e : TreeError) → refuses s (Node (SetTop digest)) e t → StaysTold (top s) (top t) ⊎ (IsLate e × HoldsTop (top s) (top t) digest)

module _ {S : Type 0} (top : S → Option (Option (List ℕ))) (does : S → (call : Call) → AnswerOf call → S → Type 0) (refuses : S → Call → TreeError → S → Type 0) (keeping : Keeping top does refuses) where
  -- the plan p ended with a value, and the record holds the digest that follows from it
  record Set {A : Type 0} (p : Plan A) (g : A → List ℕ) (s t : S) (new : List ℕ) : Type 0 where
    value : A
    strings : List (List ℕ)
    between : S
    ends : Ends does p s strings (Ok value) between
    is : new ≡ g value
    holds : HoldsTop (top s) (top t) (g value)

  set_last : {A : Type 0} (p : Plan A) (g : A → List ℕ) (s t : S) (xs : List (List ℕ)) (new : List ℕ) → SetsNone p → Ends does (p >>= (λ x. set_top (g x))) s xs (Ok new) t → Set p g s t new
  set_last {A = A} p g s t xs new n ends =
      let r = parted does p (λ x. set_top (g x)) s t xs new ends in
      by r.value r.first r.between r.second r.came r.went_on
    where
      by : (x : A) (first : List (List ℕ)) (u : S) (second : List (List ℕ)) → Ends does p s first (Ok x) u → Ends does (set_top (g x)) u second (Ok new) t → Set p g s t new
      by x first u second came (a, v, rest, d, e, (m, is, same)) = record {
        value = x;
        strings = first;
        between = u;
        ends = came;
        is = ok_once new (g x) is;
        holds = told_holds (top s) (top u) (top t) (g x) (ends_keep top does refuses keeping.sparing p s u first (Ok x) n came) (subst (λ (w : S). HoldsTop (top u) (top w) (g x)) (sym same) (keeping.sets u v (g x) d));
      }

  broken_keeps : {A : Type 0} (p : Plan A) (g : A → List ℕ) (s t : S) (xs : List (List ℕ)) (at : Position) → SetsNone p → Ends does (p >>= (λ x. set_top (g x))) s xs (Err at) t → StaysTold (top s) (top t)
  broken_keeps (Done x) g s t xs at n (a, u, rest, d, e, (m, is, same)) = absurd cc
  broken_keeps (Broken b) g s t xs at n (e, is, same) = still top does refuses keeping.sparing s t same
  broken_keeps (Ask call next) g s t xs at n (a, u, rest, d, e, more) = told_on (top s) (top u) (top t) (keeping.sparing.answered s u call a n.0 d) (broken_keeps (next a) g u t rest at (n.1 a) more)

  -- the record is as it was, or the plan p ended and the digest was set
  abbrev Stopped : {A : Type 0} → Plan A → (A → List ℕ) → S → TreeError → S → Type 0
  Stopped p g s e t = StaysTold (top s) (top t) ⊎ (IsLate e × ((new : List ℕ) × Set p g s t new))

  at_set : {A : Type 0} (x : A) (g : A → List ℕ) (s t : S) (e : TreeError) → StaysTold (top s) (top t) ⊎ (IsLate e × HoldsTop (top s) (top t) (g x)) → Stopped (Done x) g s e t
  at_set x g s t e (inl stays) = inl stays
  at_set x g s t e (inr (late, holds)) = inr (late, (g x, record { value = x; strings = []; between = s; ends = (refl, refl, refl); is = refl; holds = holds }))

  further : {A : Type 0} (call : Call) (next : AnswerOf call → Plan A) (g : A → List ℕ) (s u t : S) (a : AnswerOf call) (e : TreeError) → does s call a u → StaysTold (top s) (top u) → Stopped (next a) g u e t → Stopped (Ask call next) g s e t
  further call next g s u t a e d stays (inl more) = inl (told_on (top s) (top u) (top t) stays more)
  further call next g s u t a e d stays (inr (late, (new, r))) = inr (
    late,
    (
      new,
      record {
        value = r.value;
        strings = _;
        between = r.between;
        ends = (a, u, r.strings, d, refl, r.ends);
        is = r.is;
        holds = told_holds (top s) (top u) (top t) (g r.value) stays r.holds;
      },
    ),
  )

  stopped : {A : Type 0} (p : Plan A) (g : A → List ℕ) (s t : S) (e : TreeError) → SetsNone p → Stops does refuses (p >>= (λ x. set_top (g x))) s e t → Stopped p g s e t
  stopped (Done x) g s t e n (inl (m, same)) = inl (still top does refuses keeping.sparing s t same)
  stopped (Done x) g s t e n (inr (inl r)) = at_set x g s t e (keeping.set_refused s t (g x) e r)
  stopped (Done x) g s t e n (inr (inr (a, u, d, (m, same)))) = at_set x g s t e (inr (subst IsLate (sym m) tt, subst (λ (w : S). HoldsTop (top s) (top w) (g x)) (sym same) (keeping.sets s u (g x) d)))
  stopped (Broken at) g s t e n (m, same) = inl (still top does refuses keeping.sparing s t same)
  stopped (Ask call next) g s t e n (inl (m, same)) = inl (still top does refuses keeping.sparing s t same)
  stopped (Ask call next) g s t e n (inr (inl r)) = inl (keeping.sparing.refused s t call e n.0 r)
  stopped (Ask call next) g s t e n (inr (inr (a, u, d, more))) = further call next g s u t a e d (keeping.sparing.answered s u call a n.0 d) (stopped (next a) g u t e (n.1 a) more)

  module _ {A : Type 0} (p : Plan A) (g : A → List ℕ) (s : S) (IsNew : List ℕ → Type 0) (new_is : (x : A) (xs : List (List ℕ)) (u : S) → Ends does p s xs (Ok x) u → IsNew (g x)) (none : SetsNone p) where
    early : (t : S) (e : TreeError) → (IsLate e → ⊥) → Stopped p g s e t → StaysTold (top s) (top t)
    early t e soon (inl stays) = stays
    early t e soon (inr (l, last)) = absurd (soon l)

    late : (t : S) (e : TreeError) → Stopped p g s e t → OldOrNew IsNew (top s) (top t)
    late t e (inl stays) = inl stays
    late t e (inr (l, (new, r))) = inr (g r.value, new_is r.value r.strings r.between r.ends, r.holds)

    -- what each end leaves
    pub leaves : (r : Result (List ℕ) TreeError) (t : S) → Did does refuses (p >>= (λ x. set_top (g x))) s r t → LeavesTop IsNew (top s) (top t) r
    leaves (Ok new) t (xs, ends) =
        let r = set_last p g s t xs new none ends in
        (subst IsNew (sym r.is) (new_is r.value r.strings r.between r.ends), subst (HoldsTop (top s) (top t)) (sym r.is) r.holds)
    leaves (Err (Damaged at)) t (xs, ends) = broken_keeps p g s t xs at none ends
    leaves (Err Failed) t stops = late t Failed (stopped p g s t Failed none stops)
    leaves (Err (Clash first second)) t stops = early t (Clash first second) (λ l. l) (stopped p g s t (Clash first second) none stops)
    leaves (Err (BookFull bytes)) t stops = early t (BookFull bytes) (λ l. l) (stopped p g s t (BookFull bytes) none stops)
    leaves (Err Memory) t stops = late t Memory (stopped p g s t Memory none stops)
