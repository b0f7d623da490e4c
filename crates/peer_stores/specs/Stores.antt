-- What the three stores of a peer and the hasher lent to them may answer, taken together.
use Rattle.std.specs.Prelude.{◌≡◌, ◌⊎◌, ◌≤◌, ℕ, List, Option, Some, Result, Ok, Err}
use Rattle.ens_base.specs.Causes.{Rose}
use Rattle.hash_book.specs.Hashing.{Book, ExceedsTold, IsClash, IsKept, IsTotal, Stays, Takes}
use Rattle.hash_book.specs.declared.error.HashError.{HashError}
use Rattle.hash_book.specs.declared.error.HashError.TheVariants as hashes
use Rattle.environment.specs.Stores.{BackendCall, BackendAnswer, Get, Put as PutObject, NodeCall, NodeAnswer}
use Rattle.environment.specs.declared.errors.StoreError.{StoreError}
use Rattle.environment.specs.declared.errors.StoreError.TheVariants as stores
use Rattle.fact_store.specs.Keeping.{KeeperCall, KeeperAnswer, Load as LoadFact, Save as SaveFact, Loads, IsOldOrNew}
use Rattle.fact_store.specs.declared.error.KeepError.{KeepError}
use Rattle.fact_store.specs.declared.error.KeepError.TheVariants as keeps
use Rattle.md5.specs.Md5.{md5}
use Rattle.stored_formats.specs.declared.fact_error.FactError.{FactError}
use Rattle.stored_formats.specs.declared.saved.SavedFact.{SavedFact}
use Rattle.step_plans.specs.Calls.{Call, Load, Save, Fetch, Put, Hash, AnswerOf}
use Rattle.step_plans.specs.declared.error.PeerError.{PeerError}
use Rattle.step_plans.specs.declared.error.PeerError.TheVariants as errors
use Rattle.synctree.specs.Outsides.{outside_does, outside_refuses}
use Rattle.peer_spec.specs.TreeCalls.{TreeDoes, TreeRefuses, version_after}
use Rattle.peer_stores.specs.declared.stores.Stores.{Stores}

-- a store failed: its count of faults rose
pub record HasFailed (before now : ℕ) : Type 0 where
  pub later : before ≤ now
  pub rose : Rose before now

-- only the fact keeper was called
abbrev pub FactsAlone : {B N F H : Type 0} → Stores B N F × H → Stores B N F × H → Type 0
FactsAlone s t = (t.0.backend ≡ s.0.backend) × (t.0.tree ≡ s.0.tree) × (t.1 ≡ s.1)

-- only the tree and the hasher were called
abbrev pub TreeAlone : {B N F H : Type 0} → Stores B N F × H → Stores B N F × H → Type 0
TreeAlone s t = (t.0.backend ≡ s.0.backend) × (t.0.facts ≡ s.0.facts)

-- only the backend was called
abbrev pub BackendAlone : {B N F H : Type 0} → Stores B N F × H → Stores B N F × H → Type 0
BackendAlone s t = (t.0.tree ≡ s.0.tree) × (t.0.facts ≡ s.0.facts) × (t.1 ≡ s.1)

-- why a fact was not loaded: the keeper failed, what is kept is not a fact, or out of memory
abbrev pub IsLoadError : Option (Result SavedFact FactError) → ℕ → ℕ → PeerError → Type 0
IsLoadError kept before now errors.StoreFault = HasFailed before now
IsLoadError kept before now (errors.BadFact why) = (kept ≡ Some (Err why)) × (before ≤ now)
IsLoadError kept before now errors.Memory = before ≤ now
IsLoadError kept before now e = ⊥

-- the error of the keeper for this error of the peer
abbrev pub keeper_error : PeerError → KeepError
keeper_error (errors.BadFact why) = keeps.Bad why
keeper_error errors.Memory = keeps.Memory
keeper_error e = keeps.Failed

-- the error of a peer for this error of a hasher
abbrev pub hash_error : HashError → PeerError
hash_error (hashes.Clash first second) = errors.Clash first.items second.items
hash_error (hashes.BookFull kept) = errors.BookFull kept
hash_error hashes.Memory = errors.Memory

-- why a hasher refused the bytes: they clash with a kept string or do not fit, and the count of that
-- rose, or out of memory; no count decreased, and what is kept stays
abbrev pub HashRefuses : {H : Type 0} → (H → Option Book) → (H → ℕ) → (H → ℕ) → List ℕ → H → PeerError → H → Type 0
HashRefuses strings c d bytes h (errors.Clash first second) k =
    Stays (strings h) (strings k) × IsClash first second × IsKept (strings h) first × (second ≡ bytes) × Rose (c h) (c k) × (d h ≤ d k)
HashRefuses strings c d bytes h (errors.BookFull kept) k = Stays (strings h) (strings k) × Rose (d h) (d k) × (c h ≤ c k) × ExceedsTold bytes (strings h) × IsTotal kept (strings h)
HashRefuses strings c d bytes h errors.Memory k = Stays (strings h) (strings k) × (c h ≤ c k) × (d h ≤ d k)
HashRefuses strings c d bytes h e k = ⊥

-- a call of the tree decreased no count, and called only the tree and the hasher
abbrev pub TreeLater : {B N F H : Type 0} → (N → ℕ) → (H → ℕ) → (H → ℕ) → Stores B N F × H → Stores B N F × H → Type 0
TreeLater n c d s t = (n s.0.tree.store ≤ n t.0.tree.store) × (c s.1 ≤ c t.1) × (d s.1 ≤ d t.1) × TreeAlone s t

-- why a call of the tree was refused: a store or the hasher refused, and its count rose, or out of
-- memory
abbrev pub IsTreeError : {B N F H : Type 0} → (N → ℕ) → (H → ℕ) → (H → ℕ) → Stores B N F × H → PeerError → Stores B N F × H → Type 0
IsTreeError n c d s errors.StoreFault t = Rose (n s.0.tree.store) (n t.0.tree.store)
IsTreeError n c d s (errors.Clash first second) t = Rose (c s.1) (c t.1)
IsTreeError n c d s (errors.BookFull kept) t = Rose (d s.1) (d t.1)
IsTreeError n c d s errors.Memory t = Unit {0}
IsTreeError n c d s e t = ⊥

-- why a call of the backend was refused: it failed and its count rose, or out of memory
abbrev pub IsBackendRefusal : {B : Type 0} → (B → BackendCall → StoreError → B → Type 0) → (B → ℕ) → B → BackendCall → PeerError → B → Type 0
IsBackendRefusal loses b s call errors.StoreFault t = loses s call stores.Failed t × HasFailed (b s) (b t)
IsBackendRefusal loses b s call errors.Memory t = loses s call stores.Memory t × (b t ≡ b s)
IsBackendRefusal loses b s call e t = ⊥

-- What a call may be answered. A load returns what is kept, a saved fact is kept from then on, the
-- tree does what its plans say and has the version that the call leaves, the backend answers as its
-- contract says, and a hash is the MD5. No count decreases, and each call leaves the other stores as they
-- were.
abbrev pub stores_do : {B N F H : Type 0} → (B → (call : BackendCall) → BackendAnswer call → B → Type 0) → (B → ℕ)
    → (N → (call : NodeCall) → NodeAnswer call → N → Type 0) → (N → Option (Option (List ℕ))) → (N → ℕ)
    → (F → (call : KeeperCall) → KeeperAnswer call → F → Type 0) → (F → Option (Result SavedFact FactError)) → (F → ℕ)
    → (H → Option Book) → (H → ℕ) → (H → ℕ) → Stores B N F × H → (call : Call) → AnswerOf call → Stores B N F × H → Type 0
stores_do gives b reads tops n tells kept f strings c d s Load a t =
    Loads (kept s.0.facts) (f s.0.facts) (f t.0.facts) (Ok a) × (kept t.0.facts ≡ kept s.0.facts) × (f s.0.facts ≤ f t.0.facts) × FactsAlone s t × tells s.0.facts LoadFact a t.0.facts
stores_do gives b reads tops n tells kept f strings c d s (Save fact) a t =
    (kept t.0.facts ≡ Some (Ok fact)) × (f s.0.facts ≤ f t.0.facts) × FactsAlone s t × tells s.0.facts (SaveFact fact) tt t.0.facts
stores_do gives b reads tops n tells kept f strings c d s (Fetch key) a t = gives s.0.backend (Get key) a t.0.backend × (b s.0.backend ≤ b t.0.backend) × BackendAlone s t
stores_do gives b reads tops n tells kept f strings c d s (Put key bytes) a t = gives s.0.backend (PutObject key bytes) a t.0.backend × (b s.0.backend ≤ b t.0.backend) × BackendAlone s t
stores_do gives b reads tops n tells kept f strings c d s (Hash bytes) a t =
    (a ≡ md5 bytes) × Takes bytes (strings s.1) (strings t.1) × (c s.1 ≤ c t.1) × (d s.1 ≤ d t.1) × (t.0 ≡ s.0)
stores_do gives b reads tops n tells kept f strings c d s call a t = TreeDoes (outside_does reads tops n strings c d) (s.0.tree, s.1) call a (t.0.tree, t.1) × TreeLater n c d s t × (t.0.tree.version ≡ version_after call s.0.tree.version)

-- What a refused call may leave. After a refused save the old fact is kept, or the new one; a
-- refused call of the tree may have written nodes. The count of the store or of the hasher that
-- refused rose, unless out of memory or what is kept is not a fact.
abbrev pub stores_refuse : {B N F H : Type 0} → (B → BackendCall → StoreError → B → Type 0) → (B → ℕ)
    → (N → (call : NodeCall) → NodeAnswer call → N → Type 0) → (N → NodeCall → StoreError → N → Type 0) → (N → Option (Option (List ℕ))) → (N → ℕ)
    → (F → KeeperCall → KeepError → F → Type 0) → (F → Option (Result SavedFact FactError)) → (F → ℕ)
    → (H → Option Book) → (H → ℕ) → (H → ℕ) → Stores B N F × H → Call → PeerError → Stores B N F × H → Type 0
stores_refuse loses b reads misses tops n drops kept f strings c d s Load e t =
    IsLoadError (kept s.0.facts) (f s.0.facts) (f t.0.facts) e × (kept t.0.facts ≡ kept s.0.facts) × FactsAlone s t × drops s.0.facts LoadFact (keeper_error e) t.0.facts
stores_refuse loses b reads misses tops n drops kept f strings c d s (Save fact) e t =
    (e ≡ errors.StoreFault) × IsOldOrNew (kept s.0.facts) fact (kept t.0.facts) × HasFailed (f s.0.facts) (f t.0.facts) × FactsAlone s t × drops s.0.facts (SaveFact fact) keeps.Failed t.0.facts
stores_refuse loses b reads misses tops n drops kept f strings c d s (Fetch key) e t = IsBackendRefusal loses b s.0.backend (Get key) e t.0.backend × BackendAlone s t
stores_refuse loses b reads misses tops n drops kept f strings c d s (Put key bytes) e t = IsBackendRefusal loses b s.0.backend (PutObject key bytes) e t.0.backend × BackendAlone s t
stores_refuse loses b reads misses tops n drops kept f strings c d s (Hash bytes) e t = HashRefuses strings c d bytes s.1 e t.1 × (t.0 ≡ s.0)
stores_refuse loses b reads misses tops n drops kept f strings c d s call e t =
    TreeRefuses (outside_does reads tops n strings c d) (outside_refuses misses tops n strings c d) (s.0.tree, s.1) call e (t.0.tree, t.1) × IsTreeError n c d s e t × TreeAlone s t

-- no count decreased
pub record AreLater {B N F H : Type 0} (b : B → ℕ) (n : N → ℕ) (f : F → ℕ) (c d : H → ℕ) (s t : Stores B N F × H) : Type 0 where
  pub backend : b s.0.backend ≤ b t.0.backend
  pub nodes : n s.0.tree.store ≤ n t.0.tree.store
  pub facts : f s.0.facts ≤ f t.0.facts
  pub clashes : c s.1 ≤ c t.1
  pub fulls : d s.1 ≤ d t.1

-- the count of faults of some store rose
abbrev pub SomeRose : {B N F : Type 0} → (B → ℕ) → (N → ℕ) → (F → ℕ) → Stores B N F → Stores B N F → Type 0
SomeRose b n f s t = Rose (b s.backend) (b t.backend) ⊎ (Rose (n s.tree.store) (n t.tree.store) ⊎ Rose (f s.facts) (f t.facts))

-- why a plan stopped: the count of faults of some store or of refusals of the hasher rose, what is
-- kept is not a fact, or out of memory
abbrev pub IsCause : {B N F H : Type 0} → (B → ℕ) → (N → ℕ) → (F → ℕ) → (H → ℕ) → (H → ℕ) → Stores B N F × H → Stores B N F × H → PeerError → Type 0
IsCause b n f c d s t errors.StoreFault = SomeRose b n f s.0 t.0
IsCause b n f c d s t (errors.Clash first second) = Rose (c s.1) (c t.1)
IsCause b n f c d s t (errors.BookFull kept) = Rose (d s.1) (d t.1)
IsCause b n f c d s t (errors.BadFact why) = Unit {0}
IsCause b n f c d s t errors.Memory = Unit {0}
IsCause b n f c d s t errors.Halted = ⊥
