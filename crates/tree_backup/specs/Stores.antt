-- What a backend did with gets and with puts that came one after another.
use Rattle.std.specs.Prelude.{◌≡◌, ◌≢◌, ◌⊎◌, ℕ, List, [], ◌∷◌, Option, None, Some, Result, Ok, Err, Vec}
use Rattle.std.specs.declared.alloc.Global.{Global}
use Rattle.ens_base.specs.declared.entry.Entry.{Entry}
use Rattle.stored_formats.specs.Objects.{object_spelling}
use Rattle.stored_formats.specs.declared.object.Object.{Object}
use Rattle.environment.specs.Stores.{BackendCall, BackendAnswer, Get, Put}
use Rattle.environment.specs.declared.errors.StoreError.{StoreError}
use Rattle.environment.specs.declared.errors.StoreError.TheVariants.{Memory}
use Rattle.object_commands.specs.Kept.{object_in}
use Rattle.tree_backup.specs.declared.item.Item.{Item}

-- the object in what a backend returned, if it is one
abbrev pub decoded : Option (List ℕ) → Option Object
decoded None = None
decoded (Some bytes) = object_in bytes

abbrev pub item_with : Entry → Option Object → Item
item_with e object = record { entry = e; object = object }

-- the item of an entry under whose key the backend returned this
abbrev pub fetched : Entry → Option (List ℕ) → Item
fetched e bytes = item_with e (decoded bytes)

-- the backend answered a get of the key of each entry, which gave these items
abbrev pub Fetches : {S : Type 0} → (S → (call : BackendCall) → BackendAnswer call → S → Type 0) → List Entry → S → List Item → S → Type 0
Fetches may [] s items t = (items ≡ []) × (t ≡ s)
Fetches {S} may (e ∷ es) s items t = (bytes : Option (List ℕ)) × (u : S) × (rest : List Item) × may s (Get e.key) bytes u × (items ≡ fetched e bytes ∷ rest) × Fetches may es u rest t

-- it answered the first of them, and then refused one with this error, or memory ran out
abbrev pub FetchStops : {S : Type 0} → (S → (call : BackendCall) → BackendAnswer call → S → Type 0) → (S → BackendCall → StoreError → S → Type 0) → List Entry → S → StoreError → S → Type 0
FetchStops may loses [] s e t = (e ≡ Memory) × (t ≡ s)
FetchStops {S} may loses (x ∷ es) s e t = ((e ≡ Memory) × (t ≡ s)) ⊎ (loses s (Get x.key) e t ⊎ ((bytes : Option (List ℕ)) × (u : S) × may s (Get x.key) bytes u × FetchStops may loses es u e t))

-- the backend answered a get of this key, and this is the object in its answer; or it refused the get with
-- this error, or memory ran out behind it
abbrev pub DidFetchOne : {S : Type 0} → (S → (call : BackendCall) → BackendAnswer call → S → Type 0) → (S → BackendCall → StoreError → S → Type 0) → List ℕ → S → Result (Option Object) StoreError → S → Type 0
DidFetchOne may loses key s (Ok object) t = (bytes : Option (List ℕ)) × may s (Get key) bytes t × (object ≡ decoded bytes)
DidFetchOne may loses key s (Err e) t = loses s (Get key) e t ⊎ ((bytes : Option (List ℕ)) × may s (Get key) bytes t × (e ≡ Memory))

-- it answered a get of each key, or it was stopped
abbrev pub DidFetch : {S : Type 0} → (S → (call : BackendCall) → BackendAnswer call → S → Type 0) → (S → BackendCall → StoreError → S → Type 0) → List Entry → S → Result (Vec Item Global) StoreError → S → Type 0
DidFetch may loses es s (Ok items) t = Fetches may es s items.items t
DidFetch may loses es s (Err e) t = FetchStops may loses es s e t

-- the backend stored the spelling of each object under its key
abbrev pub Puts : {S : Type 0} → (S → (call : BackendCall) → BackendAnswer call → S → Type 0) → List Object → S → S → Type 0
Puts may [] s t = t ≡ s
Puts {S} may (o ∷ os) s t = (u : S) × may s (Put o.key (object_spelling o)) tt u × Puts may os u t

-- it stored the first of them, and then refused one with this error, or memory ran out
abbrev pub PutStops : {S : Type 0} → (S → (call : BackendCall) → BackendAnswer call → S → Type 0) → (S → BackendCall → StoreError → S → Type 0) → List Object → S → StoreError → S → Type 0
PutStops may loses [] s e t = (e ≡ Memory) × (t ≡ s)
PutStops {S} may loses (o ∷ os) s e t = ((e ≡ Memory) × (t ≡ s)) ⊎ (loses s (Put o.key (object_spelling o)) e t ⊎ ((u : S) × may s (Put o.key (object_spelling o)) tt u × PutStops may loses os u e t))

-- the backend stored the spelling of this object under its key, or refused to with this error, or memory
-- ran out before it was asked
abbrev pub DidPutOne : {S : Type 0} → (S → (call : BackendCall) → BackendAnswer call → S → Type 0) → (S → BackendCall → StoreError → S → Type 0) → Object → S → Result (Unit {0}) StoreError → S → Type 0
DidPutOne may loses o s (Ok x) t = may s (Put o.key (object_spelling o)) tt t
DidPutOne may loses o s (Err e) t = loses s (Put o.key (object_spelling o)) e t ⊎ ((e ≡ Memory) × (t ≡ s))

-- it stored each object, or it was stopped
abbrev pub DidPut : {S : Type 0} → (S → (call : BackendCall) → BackendAnswer call → S → Type 0) → (S → BackendCall → StoreError → S → Type 0) → List Object → S → Result (Unit {0}) StoreError → S → Type 0
DidPut may loses os s (Ok x) t = Puts may os s t
DidPut may loses os s (Err e) t = PutStops may loses os s e t

-- a put stores its bytes under its key, and changes nothing else that the backend has
pub record TellsPuts {S : Type 0} (may : S → (call : BackendCall) → BackendAnswer call → S → Type 0) (content : S → List ℕ → Option (List ℕ)) : Type 0 where
  pub stores : (s t : S) (key bytes : List ℕ) → may s (Put key bytes) tt t → content t key ≡ Some bytes
  pub keeps : (s t : S) (key bytes other : List ℕ) → may s (Put key bytes) tt t → other ≢ key → content t other ≡ content s other
