-- What a peer sends of a node that it was asked for.
use Rattle.std.specs.Prelude.{◌≡◌, ◌⊎◌, ℕ, Bool, true, false, List, [], Option, None, Some, Result, Ok, Err, length, take, filter, nat_lt, ◌==◌, if◌then◌else◌}
use Rattle.ens_base.specs.declared.entry.Entry.{Entry}
use Rattle.tree_node.specs.declared.body.TreeBody.{TreeBody}
use Rattle.tree_node.specs.declared.body.TreeBody.TheVariants.{Inner, Page, Damaged}
use Rattle.tree_node.specs.declared.error.NodeError.{NodeError}
use Rattle.tree_node.specs.declared.node.InnerNode.{InnerNode}
use Rattle.tree_node.specs.declared.node.Segment.{Segment}
use Rattle.tree_node.specs.declared.position.Position.{Position}
use Rattle.tree_node.specs.declared.version.TreeVersion.{TreeVersion}
use Rattle.tree_node.specs.Entries.{is_above}
use Rattle.tree_node.specs.TreeVersions.{levels}
use Rattle.tree_node.specs.Nodes.{inner_of, segment_of}
use Rattle.synctree.specs.declared.error.TreeError.{TreeError}
use Rattle.synctree.specs.declared.error.TreeError.TheVariants as trees
use Rattle.tree_exchange.specs.declared.error.AskError.{AskError}
use Rattle.tree_exchange.specs.declared.error.AskError.TheVariants.{Store, Clash, BookFull, Memory}
use Rattle.tree_exchange.specs.declared.question.Question.{Question}

-- whether a key lies beyond the last one received, as every key does if there is none
abbrev pub is_beyond : Option (List ℕ) → List ℕ → Bool
is_beyond None key = true
is_beyond (Some after) key = is_above after key

-- the entries beyond a key
abbrev pub beyond : Option (List ℕ) → List Entry → List Entry
beyond after es = filter (λ e. is_beyond after e.key) es

-- the first 32 entries beyond a key, and whether more follow
abbrev pub page_of : Option (List ℕ) → List Entry → TreeBody
page_of after es = Page (take 32 (beyond after es)) (nat_lt 32 (length (beyond after es)))

-- an inner node: its mask and its digests
abbrev pub inner_body : Position → Result InnerNode NodeError → TreeBody
inner_body at (Ok n) = Inner n.mask n.digests
inner_body at (Err e) = Damaged at

-- a segment: a page of its entries
abbrev pub segment_body : Position → Option (List ℕ) → Result Segment NodeError → TreeBody
segment_body at after (Ok s) = page_of after s.entries
segment_body at after (Err e) = Damaged at

-- an empty position of the tree of this version: no children, or no entries
abbrev pub nothing : TreeVersion → Position → TreeBody
nothing tree at = if at.level == levels tree then Page [] false else Inner 0 []

-- what is sent for a question, from the bytes of the node, or none if the position is empty
abbrev pub given : TreeVersion → Option (List ℕ) → Question → TreeBody
given tree None q = nothing tree q.position
given tree (Some bytes) q = if q.position.level == levels tree then segment_body q.position q.after (segment_of tree q.position bytes) else inner_body q.position (inner_of tree q.position bytes)

-- this value, or out of memory
abbrev pub Makes : {A : Type 0} → Result A AskError → A → Type 0
Makes (Ok y) x = y ≡ x
Makes (Err e) x = e ≡ Memory

-- what is sent after a node was read: damage is a body, and any other error is passed on
abbrev pub answered : TreeVersion → Question → Result (Option (List ℕ)) TreeError → Result TreeBody AskError
answered tree q (Ok node) = Ok (given tree node q)
answered tree q (Err (trees.Damaged at)) = Ok (Damaged at)
answered tree q (Err trees.Failed) = Err Store
answered tree q (Err (trees.Clash first second)) = Err (Clash first second)
answered tree q (Err (trees.BookFull bytes)) = Err (BookFull bytes)
answered tree q (Err trees.Memory) = Err Memory

-- a node was read, and this was sent, or memory ran out behind the read
abbrev pub Answers : TreeVersion → (Result (Option (List ℕ)) TreeError → Type 0) → Question → Result TreeBody AskError → Type 0
Answers tree did q result = (read : Result (Option (List ℕ)) TreeError) × did read × ((result ≡ answered tree q read) ⊎ (result ≡ Err Memory))
