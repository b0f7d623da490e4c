-- Plans that do not set the top record leave it as it was.
use Rattle.std.proofs.Common.{◌≡◌, ◌⊎◌, ℕ, zero, suc, Bool, true, false, cond, List, [], ◌∷◌, Option, None, Some, Result, Ok, Err, get_or, set, replicate, refl, sym, subst, inl, inr}
use Rattle.std.specs.Prelude.{IsErrOf}
use Rattle.md5.specs.Md5.{md5}
use Rattle.ens_base.specs.Lists.{same_bytes}
use Rattle.ens_base.specs.declared.entry.Entry.{Entry}
use Rattle.hash_book.specs.Hashing.{Book}
use Rattle.environment.specs.Stores.{NodeCall, NodeAnswer, Read, Write, Top, SetTop, SetsTop}
use Rattle.environment.specs.Told.{StaysTold}
use Rattle.environment.specs.declared.errors.StoreError.{StoreError}
use Rattle.environment.specs.declared.errors.StoreError.TheVariants as stores
use Rattle.synctree.specs.TreeNode.{Position}
use Rattle.synctree.specs.Entries.{put}
use Rattle.synctree.specs.Forms.{Form, child}
use Rattle.synctree.specs.Halves.{NodesDid}
use Rattle.synctree.specs.Installs.{store_does, store_refuses, write_all}
use Rattle.synctree.specs.Outsides.{outside_does, outside_refuses}
use Rattle.synctree.specs.Plans.{Call, Node, Hash, AnswerOf, Plan, Done, Broken, Ask, ◌>>=◌, Ends, Stops, Did}
use Rattle.synctree.specs.Walks.{verified, fetch, spelled, reach, store, enter}
use Rattle.synctree.specs.declared.error.TreeError.{TreeError}
use Rattle.synctree.specs.declared.error.TreeError.TheVariants.{Damaged, Failed, Clash, BookFull, Memory}
use Rattle.synctree.specs.declared.stored_node.StoredNode.{StoredNode}

-- ## Known records

pub told_still : (old : Option (Option (List ℕ))) → StaysTold old old
told_still None = tt
told_still (Some top) = refl

pub told_on : (a b c : Option (Option (List ℕ))) → StaysTold a b → StaysTold b c → StaysTold a c
told_on None b c h k = tt
told_on (Some top) b c h k = subst (λ (o : Option (Option (List ℕ))). StaysTold o c) h k

-- ## Plans without the top record

-- the call does not set the top record
abbrev pub IsOther : Call → Type 0
IsOther (Node (Read digest)) = Unit {0}
IsOther (Node (Write digest bytes)) = Unit {0}
IsOther (Node Top) = Unit {0}
IsOther (Node (SetTop digest)) = ⊥
IsOther (Hash bytes) = Unit {0}

-- no call of the plan sets the top record
abbrev pub SetsNone : {A : Type 0} → Plan A → Type 0
SetsNone (Done x) = Unit {0}
SetsNone (Broken at) = Unit {0}
SetsNone (Ask call next) = IsOther call × ((a : AnswerOf call) → SetsNone (next a))

none_then : {A B : Type 0} (p : Plan A) (f : A → Plan B) → SetsNone p → ((x : A) → SetsNone (f x)) → SetsNone (p >>= f)
none_then (Done x) f n k = k x
none_then (Broken at) f n k = tt
none_then (Ask call next) f n k = (n.0, λ a. none_then (next a) f (n.1 a) k)

tested_none : (b : Bool) (bytes : List ℕ) (at : Position) → SetsNone (cond b (Done bytes) (Broken at))
tested_none true bytes at = tt
tested_none false bytes at = tt

verified_none : (at : Position) (digest : List ℕ) (o : Option (List ℕ)) → SetsNone (verified at digest o)
verified_none at digest None = tt
verified_none at digest (Some bytes) = (tt, λ _. tested_none (same_bytes (md5 bytes) digest) bytes at)

spelled_none : {A : Type 0} (at : Position) (o : Option A) → SetsNone (spelled at o)
spelled_none at None = tt
spelled_none at (Some node) = tt

reach_none : {A : Type 0} (node_at : List ℕ → Option A) (empty : A) (at : Position) (named : Option (List ℕ)) → SetsNone (reach node_at empty at named)
reach_none node_at empty at None = tt
reach_none node_at empty at (Some digest) = none_then (fetch at digest) (λ bytes. spelled at (node_at bytes)) (tt, verified_none at digest) (λ bytes. spelled_none at (node_at bytes))

pub store_none : (bytes : List ℕ) → SetsNone (store bytes)
store_none bytes = (tt, λ _. (tt, λ _. tt))

pub enter_none : (F : Form) (h : ℕ) (at : Position) (named : Option (List ℕ)) (e : Entry) → SetsNone (enter F h at named e)
enter_none F zero at named e = none_then (reach (F.segment_at at) [] at named) (λ entries. store (F.segment_text at (put e entries))) (reach_none (F.segment_at at) [] at named) (λ entries. store_none (F.segment_text at (put e entries)))
enter_none F (suc h) at named e =
    none_then (reach (F.inner_at at) (replicate F.width None) at named)
    (λ names. enter F h (child F at (F.digit e.key at.level)) (get_or names (F.digit e.key at.level) None) e >>= (λ below. store (F.inner_text at (set names (F.digit e.key at.level) (Some below)))))
    (reach_none (F.inner_at at) (replicate F.width None) at named)
    (λ names. none_then (enter F h (child F at (F.digit e.key at.level)) (get_or names (F.digit e.key at.level) None) e) (λ below. store (F.inner_text at (set names (F.digit e.key at.level) (Some below))))
    (enter_none F h (child F at (F.digit e.key at.level)) (get_or names (F.digit e.key at.level) None) e) (λ below. store_none (F.inner_text at (set names (F.digit e.key at.level) (Some below)))))

pub write_all_none : (nodes : List StoredNode) → SetsNone (write_all nodes)
write_all_none [] = tt
write_all_none (n ∷ ns) = (tt, λ _. write_all_none ns)

-- ## What they leave

-- what a store and a hasher leave of the top record, where a call does not set it
pub record Sparing {S : Type 0} (top : S → Option (Option (List ℕ))) (does : S → (call : Call) → AnswerOf call → S → Type 0) (refuses : S → Call → TreeError → S → Type 0) : Type 0 where
  pub answered : (s t : S) (call : Call) (a : AnswerOf call) → IsOther call → does s call a t → StaysTold (top s) (top t)
  pub refused : (s t : S) (call : Call) (e : TreeError) → IsOther call → refuses s call e t → StaysTold (top s) (top t)

module _ {S : Type 0} (top : S → Option (Option (List ℕ))) (does : S → (call : Call) → AnswerOf call → S → Type 0) (refuses : S → Call → TreeError → S → Type 0) (sparing : Sparing top does refuses) where
  pub still : (s t : S) → t ≡ s → StaysTold (top s) (top t)
  still s t same = subst (λ (u : S). StaysTold (top s) (top u)) (sym same) (told_still (top s))

  pub ends_keep : {A : Type 0} (p : Plan A) (s t : S) (xs : List (List ℕ)) (out : Result A Position) → SetsNone p → Ends does p s xs out t → StaysTold (top s) (top t)
  ends_keep (Done x) s t xs out n (e, is, same) = still s t same
  ends_keep (Broken at) s t xs out n (e, is, same) = still s t same
  ends_keep (Ask call next) s t xs out n (a, u, rest, d, e, more) = told_on (top s) (top u) (top t) (sparing.answered s u call a n.0 d) (ends_keep (next a) u t rest out (n.1 a) more)

  stops_keep : {A : Type 0} (p : Plan A) (s t : S) (e : TreeError) → SetsNone p → Stops does refuses p s e t → StaysTold (top s) (top t)
  stops_keep (Done x) s t e n (m, same) = still s t same
  stops_keep (Broken at) s t e n (m, same) = still s t same
  stops_keep (Ask call next) s t e n (inl (m, same)) = still s t same
  stops_keep (Ask call next) s t e n (inr (inl r)) = sparing.refused s t call e n.0 r
  stops_keep (Ask call next) s t e n (inr (inr (a, u, d, more))) = told_on (top s) (top u) (top t) (sparing.answered s u call a n.0 d) (stops_keep (next a) u t e (n.1 a) more)

  -- however the plan ended
  pub did_keep : {A : Type 0} (p : Plan A) (s t : S) (r : Result A TreeError) → SetsNone p → Did does refuses p s r t → StaysTold (top s) (top t)
  did_keep p s t (Ok x) n (xs, ends) = ends_keep p s t xs (Ok x) n ends
  did_keep p s t (Err (Damaged at)) n (xs, ends) = ends_keep p s t xs (Err at) n ends
  did_keep p s t (Err Failed) n stops = stops_keep p s t Failed n stops
  did_keep p s t (Err (Clash first second)) n stops = stops_keep p s t (Clash first second) n stops
  did_keep p s t (Err (BookFull bytes)) n stops = stops_keep p s t (BookFull bytes) n stops
  did_keep p s t (Err Memory) n stops = stops_keep p s t Memory n stops

pub memory_top : (old new : Option (Option (List ℕ))) (digest : List ℕ) → SetsTop {T = Unit {0}} old new digest (Err stores.Memory) → StaysTold old new
memory_top None new digest h = tt
memory_top (Some top) new digest h = h

module _ {N : Type 0} (may : N → (call : NodeCall) → NodeAnswer call → N → Type 0) (loses : N → NodeCall → StoreError → N → Type 0) (top : N → Option (Option (List ℕ))) (faults : N → ℕ) where
  pub store_sparing : Sparing top (store_does may top faults) (store_refuses loses top faults)
  store_sparing = record { answered = answers; refused = refusals }
    where
      answers : (s t : N) (call : Call) (a : AnswerOf call) → IsOther call → store_does may top faults s call a t → StaysTold (top s) (top t)
      answers s t (Node (Read digest)) a other (m, stays, f) = stays
      answers s t (Node (Write digest bytes)) a other (m, stays, f) = stays
      answers s t (Node Top) a other (m, (stays, told), f) = stays
      answers s t (Node (SetTop digest)) a other d = absurd other
      answers s t (Hash bytes) a other d = absurd d

      refusals : (s t : N) (call : Call) (e : TreeError) → IsOther call → store_refuses loses top faults s call e t → StaysTold (top s) (top t)
      refusals s t (Node (Read digest)) Failed other (m, stays, f, rose) = stays
      refusals s t (Node (Write digest bytes)) Failed other (m, stays, f, rose) = stays
      refusals s t (Node Top) Failed other (m, stays, f, rose) = stays
      refusals s t (Node (Read digest)) Memory other (m, stays, f) = stays
      refusals s t (Node (Write digest bytes)) Memory other (m, stays, f) = stays
      refusals s t (Node Top) Memory other (m, stays, f) = stays
      refusals s t (Node (SetTop digest)) e other d = absurd other
      refusals s t (Node call) (Damaged at) other d = absurd d
      refusals s t (Node call) (Clash first second) other d = absurd d
      refusals s t (Node call) (BookFull bytes) other d = absurd d
      refusals s t (Hash bytes) e other d = absurd d

  -- a refused write of the record leaves it as it was, unless the store failed
  pub unset : {A : Type 0} (digest : List ℕ) (s t : N) (e : TreeError) → NodesDid may loses top faults (SetTop digest) s (Err e) t → IsErrOf {T = A} (Err e) Failed ⊎ StaysTold (top s) (top t)
  unset digest s t (Damaged at) d = absurd d
  unset digest s t Failed d = inl refl
  unset digest s t (Clash first second) d = absurd d
  unset digest s t (BookFull bytes) d = absurd d
  unset digest s t Memory d = inr (memory_top (top s) (top t) digest d.1)

  -- the same, after what left the record as it was
  pub unset_after : {A : Type 0} (digest : List ℕ) (s u t : N) (e : TreeError) → StaysTold (top s) (top u) → NodesDid may loses top faults (SetTop digest) u (Err e) t → IsErrOf {T = A} (Err e) Failed ⊎ StaysTold (top s) (top t)
  unset_after {A = A} digest s u t e stays d = by (unset {A = A} digest u t e d)
    where
      by : IsErrOf {T = A} (Err e) Failed ⊎ StaysTold (top u) (top t) → IsErrOf {T = A} (Err e) Failed ⊎ StaysTold (top s) (top t)
      by (inl is) = inl is
      by (inr kept) = inr (told_on (top s) (top u) (top t) stays kept)

  module _ {H : Type 0} (kept : H → Option Book) (clashes fulls : H → ℕ) where
    same_store : (s t : N × H) → t.0 ≡ s.0 → StaysTold (top s.0) (top t.0)
    same_store s t same = subst (λ (n : N). StaysTold (top s.0) (top n)) (sym same) (told_still (top s.0))

    pub outside_sparing : Sparing (λ (s : N × H). top s.0) (outside_does may top faults kept clashes fulls) (outside_refuses loses top faults kept clashes fulls)
    outside_sparing = record { answered = answers; refused = refusals }
      where
        answers : (s t : N × H) (call : Call) (a : AnswerOf call) → IsOther call → outside_does may top faults kept clashes fulls s call a t → StaysTold (top s.0) (top t.0)
        answers s t (Node (Read digest)) a other (m, stays, f, same) = stays
        answers s t (Node (Write digest bytes)) a other (m, stays, f, same) = stays
        answers s t (Node Top) a other (m, (stays, told), f, same) = stays
        answers s t (Node (SetTop digest)) a other d = absurd other
        answers s t (Hash bytes) a other (same, takes, c, f) = same_store s t same

        refusals : (s t : N × H) (call : Call) (e : TreeError) → IsOther call → outside_refuses loses top faults kept clashes fulls s call e t → StaysTold (top s.0) (top t.0)
        refusals s t (Node (Read digest)) Failed other (m, stays, f, rose, same) = stays
        refusals s t (Node (Write digest bytes)) Failed other (m, stays, f, rose, same) = stays
        refusals s t (Node Top) Failed other (m, stays, f, rose, same) = stays
        refusals s t (Node (Read digest)) Memory other (m, stays, f, same) = stays
        refusals s t (Node (Write digest bytes)) Memory other (m, stays, f, same) = stays
        refusals s t (Node Top) Memory other (m, stays, f, same) = stays
        refusals s t (Node (SetTop digest)) e other d = absurd other
        refusals s t (Node call) (Damaged at) other d = absurd d
        refusals s t (Node call) (Clash first second) other d = absurd d
        refusals s t (Node call) (BookFull bytes) other d = absurd d
        refusals s t (Hash bytes) (Clash first second) other (same, stays, r) = same_store s t same
        refusals s t (Hash bytes) (BookFull n) other (same, stays, r) = same_store s t same
        refusals s t (Hash bytes) Memory other (same, stays, r) = same_store s t same
        refusals s t (Hash bytes) (Damaged at) other d = absurd d
        refusals s t (Hash bytes) Failed other d = absurd d

    -- a plan that does not set the record leaves it as it was
    pub spared : {A : Type 0} (p : Plan A) (s t : N × H) (r : Result A TreeError) → SetsNone p → Did (outside_does may top faults kept clashes fulls) (outside_refuses loses top faults kept clashes fulls) p s r t → StaysTold (top s.0) (top t.0)
    spared p s t r none did = did_keep (λ (u : N × H). top u.0) (outside_does may top faults kept clashes fulls) (outside_refuses loses top faults kept clashes fulls) outside_sparing p s t r none did

  -- and so does one that asks no hasher
  pub store_spared : {A : Type 0} (p : Plan A) (s t : N) (r : Result A TreeError) → SetsNone p → Did (store_does may top faults) (store_refuses loses top faults) p s r t → StaysTold (top s) (top t)
  store_spared p s t r none did = did_keep top (store_does may top faults) (store_refuses loses top faults) store_sparing p s t r none did
