-- An ask: how a peer goes through the map of another, depth first and children ascending, with one
-- question open at a time.
use Rattle.std.specs.Prelude.{◌≡◌, ◌⊎◌, ℕ, zero, suc, ◌+◌, ◌-◌, ◌/◌, Bool, true, false, not, nat_le, ◌==◌, ◌&&◌, ◌||◌, if◌then◌else◌, List, [], ◌∷◌, ◌++◌, Option, None, Some, Result, Ok, Err, get_or}
use Rattle.ens_base.specs.declared.entry.Entry.{Entry}
use Rattle.ens_base.specs.Lists.{same_bytes}
use Rattle.tree_node.specs.declared.body.Scan.{Scan}
use Rattle.tree_node.specs.declared.body.TreeBody.{TreeBody}
use Rattle.tree_node.specs.declared.body.TreeBody.TheVariants.{Inner, Page, Damaged}
use Rattle.tree_node.specs.declared.position.Position.{Position}
use Rattle.tree_node.specs.declared.version.TreeVersion.{TreeVersion}
use Rattle.tree_node.specs.TreeVersions.{levels}
use Rattle.tree_node.specs.Nodes.{inner_of}
use Rattle.tree_node.specs.Positions.{same_position}
use Rattle.synctree.specs.Forms.{root, child}
use Rattle.synctree.specs.Sixteen.{form_of, children_of, children_in}
use Rattle.synctree.specs.declared.error.TreeError.{TreeError}
use Rattle.synctree.specs.declared.error.TreeError.TheVariants as trees
use Rattle.synctree.specs.Nodes.{node_plan}
use Rattle.synctree.specs.Plans.{Plan, Done}
use Rattle.tree_exchange.specs.Asked.{Asked}
use Rattle.tree_exchange.specs.declared.error.AskError.{AskError}
use Rattle.tree_exchange.specs.declared.error.AskError.TheVariants.{Store, Clash, BookFull, Memory}
use Rattle.tree_exchange.specs.declared.question.Question.{Question}
use Rattle.tree_exchange.specs.declared.step.Step.{Step}
use Rattle.tree_exchange.specs.declared.step.Step.TheVariants as steps

-- the question for the whole of a position
abbrev pub whole : Position → Question
whole at = record { position = at; after = None }

-- the ask for the first of the positions left, or one that is done
abbrev pub onward : List Position → List Entry → Asked
onward [] es = record { current = None; left = []; received = es }
onward (p ∷ ps) es = record { current = Some (whole p); left = ps; received = es }

-- an ask begins with the root
abbrev pub started : Asked
started = onward (root ∷ []) []

-- ## The open question

abbrev pub same_after : Option (List ℕ) → Option (List ℕ) → Bool
same_after None None = true
same_after None (Some b) = false
same_after (Some a) None = false
same_after (Some a) (Some b) = same_bytes a b

abbrev pub same_question : Question → Question → Bool
same_question a b = same_position a.position b.position && same_after a.after b.after

-- whether this is the question that is open
abbrev pub is_open : Option Question → Question → Bool
is_open None q = false
is_open (Some current) q = same_question current q

-- ## The children of an inner node

-- the index of the node n levels above the node of this index
abbrev pub up : ℕ → ℕ → ℕ → ℕ
up width zero index = index
up width (suc n) index = up width n (index / width)

-- whether p lies at q or under it
abbrev pub lies_in : Position → Position → Bool
lies_in p q = nat_le q.level p.level && up 16 (p.level - q.level) p.index == q.index

-- whether one of these positions lies at the place, under it or above it
abbrev pub meets : List Position → Position → Bool
meets [] at = false
meets (p ∷ ps) at = (lies_in p at || lies_in at p) || meets ps at

-- A child need not be asked for if the own tree names it by the same digest, and no damaged position
-- of the own scan lies at, under or above it.
abbrev pub is_known : List Position → Position → Option (List ℕ) → List ℕ → Bool
is_known damaged at None digest = false
is_known damaged at (Some own) digest = same_bytes own digest && not (meets damaged at)

-- the child, if it is there and must be asked for
abbrev pub if_unknown : List Position → Position → Option (List ℕ) → Option (List ℕ) → List Position
if_unknown damaged at own None = []
if_unknown damaged at own (Some digest) = if is_known damaged at own digest then [] else at ∷ []

-- the children to ask for, from child i on, in ascending order
abbrev pub to_ask : TreeVersion → List Position → Position → List (Option (List ℕ)) → ℕ → List (Option (List ℕ)) → List Position
to_ask tree damaged at own i [] = []
to_ask tree damaged at own i (c ∷ cs) = if_unknown damaged (child (form_of tree) at i) (get_or own i None) c ++ to_ask tree damaged at own (i + 1) cs

abbrev pub or_none : Option (List (Option (List ℕ))) → List (Option (List ℕ))
or_none None = []
or_none (Some names) = names

-- the digests that the own node with these bytes names; none without a node
abbrev pub names_in : TreeVersion → Position → Option (List ℕ) → List (Option (List ℕ))
names_in tree at None = []
names_in tree at (Some bytes) = or_none (children_in (inner_of tree at bytes))

-- ## What an answer leads to

-- the key of the last entry
abbrev pub last_key : List Entry → Option (List ℕ)
last_key [] = None
last_key (e ∷ []) = Some e.key
last_key (e ∷ f ∷ es) = last_key (f ∷ es)

abbrev pub is_empty : List Entry → Bool
is_empty [] = true
is_empty (e ∷ es) = false

-- after the children of an inner node, the ask goes on with those it must ask for
abbrev pub after_inner : TreeVersion → List Position → Position → List (Option (List ℕ)) → List (Option (List ℕ)) → Asked → Asked
after_inner tree damaged at own cs ask = onward (to_ask tree damaged at own 0 cs ++ ask.left) ask.received

-- after a page, the ask goes on past its last key if more entries follow
abbrev pub after_page : Position → List Entry → Bool → Asked → Asked
after_page at es more ask = if more then record { current = Some (record { position = at; after = last_key es }); left = ask.left; received = ask.received ++ es } else onward ask.left (ask.received ++ es)

-- Next if a question is open, and otherwise Done
abbrev pub step_to : Option Question → Step
step_to None = steps.Done
step_to (Some q) = steps.Next

abbrev pub stepped : Asked → Step × Asked
stepped ask = (step_to ask.current, ask)

-- What a body for the open question leads to. Damage, the wrong form for the position, and a page
-- with no entries before more of them end the ask.
abbrev pub reply : TreeVersion → List Position → List (Option (List ℕ)) → Position → TreeBody → Asked → Step × Asked
reply tree damaged own at (Inner mask digests) ask = if at.level == levels tree then (steps.Dropped, ask) else stepped (after_inner tree damaged at own (children_of mask digests) ask)
reply tree damaged own at (Page es more) ask = if at.level == levels tree && not (is_empty es && more) then stepped (after_page at es more ask) else (steps.Dropped, ask)
reply tree damaged own at (Damaged p) ask = (steps.Dropped, ask)

-- What a body leads to, from the bytes of the own node at the position, or none if there is no such
-- node. A body for any other question than the open one is ignored.
abbrev pub taken : TreeVersion → Scan → Option (List ℕ) → Question → TreeBody → Asked → Step × Asked
taken tree scan own q body ask = if is_open ask.current q then reply tree scan.damaged (names_in tree q.position own) q.position body ask else (steps.Ignored, ask)

-- ## The own node

abbrev pub is_inner : TreeVersion → Position → TreeBody → Bool
is_inner tree at (Inner mask digests) = not (at.level == levels tree)
is_inner tree at (Page es more) = false
is_inner tree at (Damaged p) = false

-- whether the own node is read first: for the children of the open position
abbrev pub needs_own : TreeVersion → Question → TreeBody → Asked → Bool
needs_own tree q body ask = is_open ask.current q && is_inner tree q.position body

-- reads the own node at the position if it is needed
abbrev pub own_plan : TreeVersion → Option (List ℕ) → Question → TreeBody → Asked → Plan (Option (List ℕ))
own_plan tree top q body ask = if needs_own tree q body ask then node_plan (form_of tree) top q.position else Done None

abbrev pub passed : Step × Asked → Result Step AskError × Asked
passed next = (Ok next.0, next.1)

-- What a body leads to after the own node was read. A position of the own tree that does not verify
-- names no children; after any other error the ask is as it was.
abbrev pub after_read : TreeVersion → Scan → Result (Option (List ℕ)) TreeError → Question → TreeBody → Asked → Result Step AskError × Asked
after_read tree scan (Ok own) q body ask = passed (taken tree scan own q body ask)
after_read tree scan (Err (trees.Damaged at)) q body ask = passed (taken tree scan None q body ask)
after_read tree scan (Err trees.Failed) q body ask = (Err Store, ask)
after_read tree scan (Err (trees.Clash first second)) q body ask = (Err (Clash first second), ask)
after_read tree scan (Err (trees.BookFull bytes)) q body ask = (Err (BookFull bytes), ask)
after_read tree scan (Err trees.Memory) q body ask = (Err Memory, ask)

-- this step and this ask, or out of memory and the ask as it was
abbrev pub Steps : Step × Asked → Asked → Result Step AskError → Asked → Type 0
Steps next old (Ok step) new = (step ≡ next.0) × (new ≡ next.1)
Steps next old (Err e) new = (e ≡ Memory) × (new ≡ old)

-- the own node was read if it was needed, and this came of it, or memory ran out behind the read
abbrev pub Takes : TreeVersion → (Result (Option (List ℕ)) TreeError → Type 0) → Scan → Question → TreeBody → Asked → Result Step AskError → Asked → Type 0
Takes tree did scan q body old result new = (read : Result (Option (List ℕ)) TreeError) × did read × (((result, new) ≡ after_read tree scan read q body old) ⊎ ((result ≡ Err Memory) × (new ≡ old)))
