-- The only run of a plan.
use Rattle.std.specs.Prelude.{◌≡◌, ◌⊎◌, ◌<◌, ◌≤◌, ℕ, List, ◌∷◌, ◌++◌, Option, Some}
use Rattle.ens_base.specs.Causes.{Rose}
use Rattle.hash_book.specs.Hashing.{Book, ExceedsTold, IsClash, IsKept, IsTotal, AreClashFree, empty_book, total}
use Rattle.register_model.specs.declared.note.Note.{Note}
use Rattle.step_plans.specs.Calls.{Call, AnswerOf}
use Rattle.step_plans.specs.Plans.{Plan, Ending, Finished, Stopped, Runs}
use Rattle.step_plans.specs.declared.error.PeerError.{PeerError}
use Rattle.step_plans.specs.declared.error.PeerError.TheVariants.{Memory, Clash, BookFull, StoreFault}
use Rattle.peer_stores.specs.Stores.{stores_do, stores_refuse}
use Rattle.world_stores.specs.Facts.{FactDoes, FactRefuses, kept_of}
use Rattle.world_stores.specs.Nodes.{NodesDo, NodesRefuse, top_of}
use Rattle.world_stores.specs.Objects.{ObjectsDo, ObjectsRefuse}
use Rattle.world_spec.specs.Held.{HeldStores, Held, Account, account, HasTaken, HasHashed, HasNoClash, once}
use Rattle.world_spec.specs.HeldRuns.{run}

-- what stores in memory and a hasher may answer to a call
abbrev pub HeldDo : {H : Type 0} → (H → Option Book) → (H → ℕ) → (H → ℕ) → HeldStores × H → (call : Call) → AnswerOf call → HeldStores × H → Type 0
HeldDo strings clashes fulls s call a t =
    stores_do ObjectsDo (λ b. b.faults.count) NodesDo (λ n. Some (top_of n.tops)) (λ n. n.faults.count) FactDoes (λ f. kept_of f.kept) (λ f. f.faults.count) strings clashes fulls s call a t

-- how they may refuse it
abbrev pub HeldRefuse : {H : Type 0} → (H → Option Book) → (H → ℕ) → (H → ℕ) → HeldStores × H → Call → PeerError → HeldStores × H → Type 0
HeldRefuse strings clashes fulls s call e t =
    stores_refuse ObjectsRefuse (λ b. b.faults.count) NodesDo NodesRefuse (λ n. Some (top_of n.tops)) (λ n. n.faults.count) FactRefuses (λ f. kept_of f.kept) (λ f. f.faults.count) strings clashes fulls s call e t

-- A hasher rejected `bytes`. Of these strings, which were to be hashed in this order, it took those
-- before `bytes`.
pub record HasRejected (strings : List (List ℕ)) (first : Account) (bytes : List ℕ) (now : Account) : Type 0 where
  pub before : List (List ℕ)
  pub later : List (List ℕ)
  pub are : strings ≡ before ++ bytes ∷ later
  pub taken : HasTaken before first.kept now.kept

-- the next string has the MD5 of a different one that the hasher keeps, and it counted the clash
abbrev pub HasClashed : List (List ℕ) → Account → List ℕ → List ℕ → Account → Type 0
HasClashed strings first kept new now = HasRejected strings first new now × IsClash kept new × IsKept now.kept kept × Rose first.clashes now.clashes

-- the next string does not fit into the book of the hasher, if that is known, and the hasher counted
-- this
abbrev pub HasFilled : List (List ℕ) → Account → Account → Type 0
HasFilled strings first now = (bytes : List ℕ) × HasRejected strings first bytes now × Rose first.fulls now.fulls × ExceedsTold bytes now.kept

-- and this is the number of bytes that the hasher keeps, if that is known
abbrev pub HasFilledAt : ℕ → List (List ℕ) → Account → Account → Type 0
HasFilledAt n strings first now = HasFilled strings first now × IsTotal n now.kept

-- out of memory, or the hasher rejected the next of these strings
abbrev pub IsUnplanned : List (List ℕ) → Account → Account → PeerError → Type 0
IsUnplanned strings first now Memory = Unit {0}
IsUnplanned strings first now (Clash kept new) = HasClashed strings first kept new now
IsUnplanned strings first now (BookFull kept) = HasFilledAt kept strings first now
IsUnplanned strings first now e = ⊥

-- such an error ended the run, which was to hash these strings
abbrev pub IsCutOff : {X : Type 0} → List (List ℕ) → Account → Account → Ending X → Type 0
IsCutOff strings first now (Finished x out) = ⊥
IsCutOff strings first now (Stopped e) = IsUnplanned strings first now e

-- a run that was not cut off finished, or a store stopped it
abbrev pub IsPlanned : {X : Type 0} → Ending X → Type 0
IsPlanned (Finished x out) = Unit {0}
IsPlanned (Stopped e) = e ≡ StoreFault

-- the stores and the hashed strings together
abbrev pub held_with : HeldStores → List (List ℕ) → Held
held_with stores hashed = record { stores = stores; hashed = hashed }

-- This is the run of the plan. The hasher took the strings that the run hashed after those before.
pub record IsRun {X H : Type 0} (tells : H → Account) (first : Account) (p : Plan X) (s : HeldStores × H) (hashed : List (List ℕ)) (ns : List Note)
    (e : Ending X) (t : HeldStores × H) (ms : List Note) : Type 0 where
  pub hashed_now : List (List ℕ)
  pub is : run p (held_with s.0 hashed) ns ≡ record { ending = e; held = held_with t.0 hashed_now; notes = ms }
  pub has : HasHashed hashed_now first (tells t.1)
  pub planned : IsPlanned e

-- the strings hashed by the end of the run of a plan, after those hashed before
abbrev pub strings_by : {X : Type 0} → Plan X → HeldStores → List (List ℕ) → List Note → List (List ℕ)
strings_by p s hashed ns = (run p (held_with s hashed) ns).held.hashed

-- Each run of the plan over stores in memory is its run, unless it was cut off. `first` is the account
-- of the hasher before it took any of the strings.
abbrev pub AreDetermined : Type 0 → Type 0 → Type 0
AreDetermined X H = (strings : H → Option Book) (clashes fulls : H → ℕ) (first : Account) (p : Plan X) (s t : HeldStores × H) (hashed : List (List ℕ)) (ns ms : List Note) (e : Ending X)
    → HasHashed hashed first (account strings clashes fulls s.1) → Runs (HeldDo strings clashes fulls) (HeldRefuse strings clashes fulls) p s ns e t ms
    → IsCutOff (strings_by p s.0 hashed ns) first (account strings clashes fulls t.1) e ⊎ IsRun (account strings clashes fulls) first p s hashed ns e t ms

-- if a hasher that kept nothing took these strings, none of them clashes with another
abbrev pub AreApart : Type 0
AreApart = (strings : List (List ℕ)) (limit : ℕ) (kept : Option Book) → HasTaken strings (Some (empty_book limit)) kept → AreClashFree kept → HasNoClash strings

-- if a hasher that kept nothing took these strings, its book has each of them once, and all of them
-- fit into it
abbrev pub AreKeptOnce : Type 0
AreKeptOnce = (strings : List (List ℕ)) (limit : ℕ) (kept : Option Book) → HasTaken strings (Some (empty_book limit)) kept
    → (kept ≡ Some (record { strings = once strings; limit = limit })) × (total (once strings) ≤ limit)

-- if one of these strings did not fit into the book of such a hasher, they have more bytes than its
-- limit, each counted once
abbrev pub AreBeyond : Type 0
AreBeyond = (strings : List (List ℕ)) (limit : ℕ) (first now : Account) → first.kept ≡ Some (empty_book limit) → HasFilled strings first now → limit < total (once strings)
