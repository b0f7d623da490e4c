-- The calls of a tree, as plans. A key is hashed before its path is walked.
use Rattle.std.specs.Prelude.{ℕ, List, [], Option, Some}
use Rattle.ens_base.specs.declared.entry.Entry.{Entry}
use Rattle.environment.specs.Stores.{Top}
use Rattle.synctree.specs.Forms.{Form, root}
use Rattle.synctree.specs.Maps.{text}
use Rattle.synctree.specs.Plans.{Node, Hash, Plan, Done, Ask, ◌>>=◌}
use Rattle.synctree.specs.Walks.{find, enter, store, set_top, from_top}

-- reads the top record
abbrev pub open_plan : Plan (Option (List ℕ))
open_plan = Ask (Node Top) Done

-- returns the entry of a key
abbrev pub get_plan : Form → Option (List ℕ) → List ℕ → Plan (Option Entry)
get_plan F top key = Ask (Hash key) (λ _. from_top top (λ digest. find F F.depth root digest key))

-- writes the nodes on the path of an entry from the root, and then the top record
abbrev pub publish_plan : Form → List ℕ → Entry → Plan (List ℕ)
publish_plan F digest e = enter F F.depth root (Some digest) e >>= set_top

-- enters an entry: writes the nodes on its path, and the top record last
abbrev pub insert_plan : Form → Option (List ℕ) → Entry → Plan (List ℕ)
insert_plan F top e = Ask (Hash e.key) (λ _. from_top top (λ digest. publish_plan F digest e))

-- writes the empty map
abbrev pub fresh_plan : Form → Plan (List ℕ)
fresh_plan F = store (text F F.depth root []) >>= set_top
