-- What a scan says of every map that stands under the top record.
use Rattle.std.specs.Prelude.{◌≡◌, ℕ, Bool, false, not, ◌||◌, List, [], ◌∷◌, Option, Some, Ok, filter}
use Rattle.ens_base.specs.declared.entry.Entry.{Entry}
use Rattle.tree_node.specs.declared.body.Scan.{Scan}
use Rattle.tree_node.specs.declared.position.Position.{Position}
use Rattle.synctree.specs.Forms.{Form, root}
use Rattle.synctree.specs.Maps.{AreApart, Stands}
use Rattle.synctree.specs.Paths.{passes}
use Rattle.synctree.specs.Plans.{Call, AnswerOf, Ends}
use Rattle.tree_repair.specs.Levels.{scan_plan}

-- the path of the key goes through one of these positions
abbrev pub lost : Form → List Position → List ℕ → Bool
lost F [] key = false
lost F (p ∷ ps) key = passes F key p.level p.index || lost F ps key

-- The plan of a scan ended with these entries and damaged positions. If a map stands under the top
-- record, the entries are those of its entries whose paths go through no damaged position, unless a
-- string that was hashed has the digest of a different node of that map.
pub record Scans {S : Type 0} (does : S → (call : Call) → AnswerOf call → S → Type 0) (F : Form) (top : Option (List ℕ)) (s : S) (scan : Scan) (t : S) : Type 0 where
  pub strings : List (List ℕ)
  pub ends : Ends does (scan_plan F top) s strings (Ok scan) t
  pub finds : (digest : List ℕ) (m : List Entry) → top ≡ Some digest → Stands F digest m → AreApart strings F F.depth root m → scan.entries ≡ filter (λ e. not (lost F scan.damaged e.key)) m
