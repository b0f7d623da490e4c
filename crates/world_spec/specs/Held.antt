-- The stores of a peer in memory, and the strings that were hashed.
use Rattle.std.specs.Prelude.{◌≡◌, ◌≤◌, ℕ, if◌then◌else◌, List, [], ◌∷◌, ◌++◌, Option, None, Some, Contains}
use Rattle.std.specs.List.{list_any}
use Rattle.ens_base.specs.Lists.{same_bytes}
use Rattle.hash_book.specs.Hashing.{Book, Takes}
use Rattle.environment.specs.declared.memory.failing_call.Leaves.{Leaves}
use Rattle.md5.specs.Md5.{md5}
use Rattle.tree_node.specs.declared.version.TreeVersion.TheVariants.{One}
use Rattle.peer_stores.specs.declared.stores.Stores.{Stores}
use Rattle.world_stores.specs.Faults.{no_faults}
use Rattle.world_stores.specs.Nodes.{Nodes}
use Rattle.world_stores.specs.Objects.{Objects}
use Rattle.world_stores.specs.declared.fact.HeldFact.{HeldFact}

-- the stores of a peer: the objects, the tree, and the fact
abbrev pub HeldStores : Type 0
HeldStores = Stores Objects Nodes HeldFact

-- stores that hold nothing, over a tree that was never opened
abbrev pub empty_stores : HeldStores
empty_stores = record {
  backend = record { entries = []; faults = no_faults };
  tree = record { version = One; store = record { entries = []; tops = []; faults = no_faults }; top = None };
  facts = record { kept = None; faults = no_faults };
}

-- the stores of a peer, and all strings hashed so far, by any peer, in the order in which they came
pub record Held : Type 0 where
  pub stores : HeldStores
  pub hashed : List (List ℕ)

-- one more string was hashed
abbrev pub and_hashed : List ℕ → Held → Held
and_hashed bytes h = record h { hashed = h.hashed ++ bytes ∷ [] }

-- this if no failure waits, and otherwise what the failure leads to
abbrev pub unless_failing : {R : Type 0} → Option Leaves → R → (Leaves → R) → R
unless_failing None goes fails = goes
unless_failing (Some leaves) goes fails = fails leaves

-- a list of strings with one more, unless it has that one
abbrev pub added : List (List ℕ) → List ℕ → List (List ℕ)
added kept x = if list_any (same_bytes x) kept then kept else kept ++ x ∷ []

-- a list of strings with these, each added once
abbrev pub kept_after : List (List ℕ) → List (List ℕ) → List (List ℕ)
kept_after kept [] = kept
kept_after kept (x ∷ xs) = kept_after (added kept x) xs

-- these strings, each once, in the order in which they first come
abbrev pub once : List (List ℕ) → List (List ℕ)
once strings = kept_after [] strings

-- a hasher took these strings, one after another: the book that it told, before and after
abbrev pub HasTaken : List (List ℕ) → Option Book → Option Book → Type 0
HasTaken [] first kept = kept ≡ first
HasTaken (x ∷ xs) first kept = (next : Option Book) × Takes x first next × HasTaken xs next kept

-- what is known of a hasher: the strings that it keeps and their limit, if it tells them, and how
-- often it rejected a string for a clash, and how often one that did not fit
pub record Account : Type 0 where
  pub kept : Option Book
  pub clashes : ℕ
  pub fulls : ℕ

-- what is known of this hasher
abbrev pub account : {H : Type 0} → (H → Option Book) → (H → ℕ) → (H → ℕ) → H → Account
account kept clashes fulls h = record { kept = kept h; clashes = clashes h; fulls = fulls h }

-- a hasher took these strings, one after another, and no count fell
pub record HasHashed (strings : List (List ℕ)) (first now : Account) : Type 0 where
  pub taken : HasTaken strings first.kept now.kept
  pub clashes : first.clashes ≤ now.clashes
  pub fulls : first.fulls ≤ now.fulls

-- no two different strings of these have the same MD5
abbrev pub HasNoClash : List (List ℕ) → Type 0
HasNoClash strings = (first second : List ℕ) → Contains strings first → Contains strings second → md5 first ≡ md5 second → first ≡ second

-- the first list is a prefix of the second
abbrev pub StartsWith : {A : Type 0} → List A → List A → Type 0
StartsWith {A} first whole = (more : List A) × (whole ≡ first ++ more)
