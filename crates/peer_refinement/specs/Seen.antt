-- A running sync of a peer as the theory of syncs sees it: maps from keys to versions in place of lists
-- of entries, and sets of keys in place of positions of the tree.
use Rattle.std.specs.Prelude.{ℕ, Bool, true, false, not, ◌&&◌, ◌||◌, ◌==◌, max, if◌then◌else◌, List, [], ◌∷◌, Option, None, Some}
use Rattle.protocol_laws.specs.Ledger.{Change, Add, Drop}
use Rattle.protocol_laws.specs.Numbers.{epoch_number}
use Rattle.protocol_laws.specs.Objects.{Map}
use Rattle.ens_base.specs.Lists.{same_bytes}
use Rattle.ens_base.specs.declared.entry.Entry.{Entry}
use Rattle.tree_node.specs.declared.version.TreeVersion.TheVariants.{Two}
use Rattle.tree_exchange.specs.Gives.{is_beyond}
use Rattle.tree_exchange.specs.declared.question.Question.{Question}
use Rattle.peer_refinement.specs.LeaderRefinement.{rank, entry_rank}
use Rattle.stored_formats.specs.declared.fact.Change.{Change as FactChange}
use Rattle.stored_formats.specs.declared.fact.Change.TheVariants as changes
use Rattle.stored_formats.specs.declared.fact.Fact.{Fact}
use Rattle.tree_sync.specs.Running.{Running}
use Rattle.tree_sync.specs.declared.asking.Asking.{Asking}
use Rattle.tree_sync.specs.declared.asking.Stage.{Stage}
use Rattle.tree_sync.specs.declared.asking.Stage.TheVariants as stages
use Rattle.role_laws.specs.Facts as theory
use Rattle.role_laws.specs.Syncs as syncs
use Rattle.role_laws.specs.Trees as trees
use Rattle.tree_sync.specs.Syncs.{is_clean}
use Rattle.synctree.specs.Entries.{lookup}
use Rattle.synctree.specs.Paths.{passes}
use Rattle.synctree.specs.Sixteen.{form_of}
use Rattle.tree_node.specs.declared.body.Scan.{Scan}
use Rattle.tree_node.specs.declared.position.Position.{Position}
use Rattle.tree_repair.specs.Scans.{lost}

-- ## Facts

abbrev pub seen_change : FactChange → Option Change
seen_change changes.None = None
seen_change (changes.Add view) = Some (Add view)
seen_change changes.Drop = Some Drop

abbrev pub seen_fact : Fact → theory.Fact
seen_fact f = record { ballot = epoch_number f.ballot; epoch = epoch_number f.epoch; seq = f.seq; views = f.views; change = seen_change f.change }

-- ## Maps

-- the versions of a map, each by its rank
abbrev pub ranks : List Entry → Map
ranks m k = entry_rank (lookup k m)

-- the greatest version that these entries have of each key
abbrev pub greatest : List Entry → Map
greatest [] k = 0
greatest (e ∷ es) k = if same_bytes e.key k then max (rank e.version) (greatest es k) else greatest es k

-- a tree that shows the map; no tree has a seal
abbrev pub seen_tree : List Entry → trees.Tree
seen_tree m = record { top = ranks m; named = []; intact = true }

-- what a scan found
abbrev pub seen_scan : Scan → trees.Scan
seen_scan scan = record { entries = ranks scan.entries; broken = lost (form_of Two) scan.damaged; damaged = not (is_clean scan) }

-- ## Asks

abbrev pub seen_stage : Stage → syncs.Stage
seen_stage stages.Open = syncs.Open
seen_stage stages.Finished = syncs.Finished
seen_stage stages.Dropped = syncs.Dropped

-- whether the path of the key goes through the position; in both versions of the tree it goes through the same
abbrev pub through : List ℕ → Position → Bool
through key at = passes (form_of Two) key at.level at.index

-- whether it goes through one of these positions
abbrev pub through_any : List ℕ → List Position → Bool
through_any key [] = false
through_any key (p ∷ ps) = through key p || through_any key ps

-- whether the key is left to ask
abbrev pub is_left : Option Question → List Position → List ℕ → Bool
is_left None left key = false
is_left (Some q) left key = (through key q.position && is_beyond q.after key) || through_any key left

abbrev pub seen_ask : Asking → syncs.Asking
seen_ask a = record { stage = seen_stage a.stage; flagged = a.trusted; received = greatest a.ask.received; left = is_left a.ask.current a.ask.left }

-- the ask of a peer; a peer that is not asked is as one that was dropped
abbrev pub ask_of : List Asking → ℕ → syncs.Asking
ask_of [] q = syncs.new_ask syncs.Dropped
ask_of (a ∷ asks) q = if a.peer == q then seen_ask a else ask_of asks q

-- ## Syncs

abbrev pub seen_sync : Running → syncs.Sync
seen_sync r = record { fact = seen_fact r.fact; scan = seen_scan r.sync.scan; asks = ask_of r.asks }
