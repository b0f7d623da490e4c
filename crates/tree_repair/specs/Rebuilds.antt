-- A rebuild: the plan that hashes the nodes of a tree and then installs them.
use Rattle.std.specs.Prelude.{ℕ, List, [], ◌∷◌}
use Rattle.ens_base.specs.declared.entry.Entry.{Entry}
use Rattle.synctree.specs.Installs.{install_plan}
use Rattle.synctree.specs.Plans.{Plan, Hash, Done, Ask, ◌>>=◌}
use Rattle.synctree.specs.Forms.{Form}
use Rattle.tree_repair.specs.Builds.{build_nodes, build_of}

-- gives these strings to the hasher, one after another
abbrev pub hash_all : List (List ℕ) → Plan (Unit {0})
hash_all [] = Done tt
hash_all (x ∷ xs) = Ask (Hash x) (λ _. hash_all xs)

-- hashes the nodes of the tree of these entries, and then writes them, and the top record last
abbrev pub rebuild_plan : Form → List Entry → Plan (List ℕ)
rebuild_plan F m = hash_all (build_nodes F m) >>= (λ _. install_plan (build_of F m).nodes (build_of F m).top)
