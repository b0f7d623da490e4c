-- Walks down a tree of any form, as plans.
use Rattle.std.specs.Prelude.{ℕ, zero, suc, List, [], Option, None, Some, get_or, set, replicate, if◌then◌else◌}
use Rattle.md5.specs.Md5.{md5}
use Rattle.ens_base.specs.declared.entry.Entry.{Entry}
use Rattle.ens_base.specs.Lists.{same_bytes}
use Rattle.environment.specs.Stores.{Read, Write, SetTop}
use Rattle.synctree.specs.TreeNode.{Position}
use Rattle.synctree.specs.Entries.{put, lookup}
use Rattle.synctree.specs.Forms.{Form, child, root}
use Rattle.synctree.specs.Plans.{Node, Hash, Plan, Done, Broken, Ask, ◌>>=◌}

-- these bytes, whose MD5 must be the digest
abbrev pub verified : Position → List ℕ → Option (List ℕ) → Plan (List ℕ)
verified at digest None = Broken at
verified at digest (Some bytes) = Ask (Hash bytes) (λ _. if same_bytes (md5 bytes) digest then Done bytes else Broken at)

-- the bytes stored under the digest
abbrev pub fetch : Position → List ℕ → Plan (List ℕ)
fetch at digest = Ask (Node (Read digest)) (verified at digest)

-- a node, if the bytes encode one
abbrev pub spelled : {A : Type 0} → Position → Option A → Plan A
spelled at None = Broken at
spelled at (Some node) = Done node

-- the node of this position under the digest
abbrev pub open_node : {A : Type 0} → (List ℕ → Option A) → Position → List ℕ → Plan A
open_node node_at at digest = do
  bytes ← fetch at digest
  spelled at (node_at bytes)

-- what follows if a digest is named, and otherwise this value
abbrev pub onward : {A : Type 0} → A → (List ℕ → Plan A) → Option (List ℕ) → Plan A
onward nothing next None = Done nothing
onward nothing next (Some digest) = next digest

-- the entry of the key under a node with h levels below it
abbrev pub find : Form → ℕ → Position → List ℕ → List ℕ → Plan (Option Entry)
find F zero at digest key = do
  entries ← open_node (F.segment_at at) at digest
  Done (lookup key entries)
find F (suc h) at digest key = do
  names ← open_node (F.inner_at at) at digest
  onward None (λ below. find F h (child F at (F.digit key at.level)) below key) (get_or names (F.digit key at.level) None)

-- the node that is named, or an empty one
abbrev pub reach : {A : Type 0} → (List ℕ → Option A) → A → Position → Option (List ℕ) → Plan A
reach node_at empty at named = onward empty (open_node node_at at) named

-- writes a node under its MD5, and returns the digest
abbrev pub store : List ℕ → Plan (List ℕ)
store bytes = Ask (Hash bytes) (λ _. Ask (Node (Write (md5 bytes) bytes)) (λ _. Done (md5 bytes)))

-- enters an entry: writes the nodes on its path, each after the one below it, and returns the
-- digest of the topmost
abbrev pub enter : Form → ℕ → Position → Option (List ℕ) → Entry → Plan (List ℕ)
enter F zero at named e = do
  entries ← reach (F.segment_at at) [] at named
  store (F.segment_text at (put e entries))
enter F (suc h) at named e = do
  names ← reach (F.inner_at at) (replicate F.width None) at named
  below ← enter F h (child F at (F.digit e.key at.level)) (get_or names (F.digit e.key at.level) None) e
  store (F.inner_text at (set names (F.digit e.key at.level) (Some below)))

-- writes the top record
abbrev pub set_top : List ℕ → Plan (List ℕ)
set_top digest = Ask (Node (SetTop digest)) (λ _. Done digest)

-- from the root, which is damaged if there is no top record
abbrev pub from_top : {A : Type 0} → Option (List ℕ) → (List ℕ → Plan A) → Plan A
from_top None next = Broken root
from_top (Some digest) next = next digest
