-- Where an ask stands.
use Rattle.std.specs.Prelude.{List, Option, None, Some}
use Rattle.std.specs.List.{AllByRecursion}
use Rattle.ens_base.specs.declared.entry.Entry.{Entry}
use Rattle.tree_node.specs.declared.position.Position.{Position}
use Rattle.tree_node.specs.declared.version.TreeVersion.{TreeVersion}
use Rattle.tree_node.specs.Positions.{IsPosition}
use Rattle.tree_exchange.specs.declared.question.Question.{Question}

-- the open question, the positions left to ask after it, the next one first, and the entries received
pub record Asked : Type 0 where
  pub current : Option Question
  pub left : List Position
  pub received : List Entry

-- positions of the tree of this version
abbrev pub ArePlaces : TreeVersion → Option Question → List Position → Type 0
ArePlaces tree None left = AllByRecursion (IsPosition tree) left
ArePlaces tree (Some q) left = IsPosition tree q.position × AllByRecursion (IsPosition tree) left
