-- How a peer starts.
use Rattle.std.specs.Prelude.{ℕ, Bool, true, false, ◌&&◌, if◌then◌else◌, List, [], ◌∷◌, Option, Some, None, Result, Ok, Err}
use Rattle.ens_base.specs.declared.entry.Entry.{Entry}
use Rattle.stored_formats.specs.Facts.{opening_fact}
use Rattle.stored_formats.specs.declared.saved.SavedFact.{SavedFact}
use Rattle.step_plans.specs.Calls.{Call, Load, Save, FreshTree, OpenTree, Root, ScanTree, Install, AnswerOf}
use Rattle.step_plans.specs.Plans.{Plan, Done, Ask, nothing, Finished, Stopped, Runs}
use Rattle.step_plans.specs.Saved.{with_seal}
use Rattle.step_plans.specs.declared.error.PeerError.{PeerError}
use Rattle.step_plans.specs.declared.error.PeerError.TheVariants as errors
use Rattle.peer_state.specs.TreeSync.{is_clean}
use Rattle.tree_node.specs.Entries.{is_above}
use Rattle.tree_node.specs.declared.body.Scan.{Scan}
use Rattle.tree_node.specs.declared.version.TreeVersion.{TreeVersion}
use Rattle.tree_node.specs.declared.version.TreeVersion.TheVariants.{One, Two}
use Rattle.peer_state.specs.Moves.{follower}
use Rattle.peer_state.specs.declared.state.Mode.{Mode}
use Rattle.peer_state.specs.declared.state.State.{State}

-- the state in which a peer starts in this mode from what was saved: it follows
abbrev pub first_state : Mode → SavedFact → Bool → State
first_state mode saved trusted = record { fact = saved.fact; seal = saved.seal; mode = mode; trusted = trusted; phase = follower; sync = None }

-- the opening fact, as it is saved with this seal
abbrev pub opening_saved : List ℕ → Option (List ℕ) → SavedFact
opening_saved view seal = with_seal seal (opening_fact view)

-- the opening fact is saved with this seal, and the tree is trusted
abbrev pub saves_opening : Mode → List ℕ → Option (List ℕ) → Plan State
saves_opening mode view seal = Ask (Save (opening_saved view seal)) (λ u. Done (first_state mode (opening_saved view seal) true) nothing)

-- the opening fact is saved, with the root of the empty tree as its seal if seals are kept
abbrev pub seals_opening : Bool → Mode → List ℕ → Plan State
seals_opening true mode view = Ask Root (λ root. saves_opening mode view root)
seals_opening false mode view = saves_opening mode view None

-- ## A start from a kept fact

-- the peer continues from this fact, and its tree is not trusted
abbrev pub resumed : Mode → SavedFact → Plan State
resumed mode saved = Done (first_state mode saved false) nothing

-- the tree is opened in this version under the seal of the fact, if it has one
abbrev pub continued : TreeVersion → Mode → SavedFact → Plan State
continued tree mode saved = Ask (OpenTree saved.seal tree) (λ u. resumed mode saved)

-- whether the keys ascend strictly, and lie beyond this one
abbrev pub ascends : List ℕ → List Entry → Bool
ascends low [] = true
ascends low (e ∷ es) = is_above low e.key && ascends e.key es

-- whether a scan found no damage, and no key twice
abbrev pub is_whole : Scan → Bool
is_whole scan = is_clean scan && ascends [] scan.entries

-- the fact is saved again, with the root of the tree as its seal
abbrev pub reseals : Mode → SavedFact → Plan State
reseals mode saved = Ask Root (λ root. Ask (Save (with_seal root saved.fact)) (λ u. resumed mode (with_seal root saved.fact)))

-- the same of a fact that has a seal
abbrev pub reseals_if : Option (List ℕ) → Mode → SavedFact → Plan State
reseals_if None mode saved = resumed mode saved
reseals_if (Some seal) mode saved = reseals mode saved

-- the tree of these entries takes the place of the one that is kept, in version two
abbrev pub migrated : Mode → SavedFact → List Entry → Plan State
migrated mode saved entries = Ask (OpenTree None Two) (λ u. Ask (Install entries) (λ v. reseals_if saved.seal mode saved))

-- a tree that was scanned in version one migrates if it is whole; any other is opened in version two, in
-- which its root is damaged unless it is of that version
abbrev pub scanned : Mode → SavedFact → Scan → Plan State
scanned mode saved scan = if is_whole scan then migrated mode saved scan.entries else continued Two mode saved

-- a start of a peer whose tree is to have this version: a kept tree of version one migrates to version two
abbrev pub continued_in : TreeVersion → Mode → SavedFact → Plan State
continued_in One mode saved = continued One mode saved
continued_in Two mode saved = Ask (OpenTree saved.seal One) (λ u. Ask ScanTree (λ scan. scanned mode saved scan))

-- a start from what was kept: without a kept fact the tree is made empty, in the version of the mode, and
-- trusted, and the opening fact is saved; otherwise the peer continues from the kept fact
abbrev pub opened : Mode → List ℕ → Option SavedFact → Plan State
opened mode view None = Ask (FreshTree mode.tree) (λ u. seals_opening mode.sealing mode view)
opened mode view (Some saved) = continued_in mode.tree mode saved

-- rule 1: a start, in this mode, of a peer whose ensemble opens in this view
abbrev pub start_of : Mode → List ℕ → Plan State
start_of mode view = Ask Load (λ kept. opened mode view kept)

-- the call was the start of a peer
abbrev pub Starts : {P : Type 0} → (P → (call : Call) → AnswerOf call → P → Type 0) → (P → Call → PeerError → P → Type 0)
    → Plan State → P → Result State PeerError → P → Type 0
Starts does refuses plan s (Ok x) t = Runs does refuses plan s [] (Finished x nothing) t []
Starts does refuses plan s (Err e) t = Runs does refuses plan s [] (Stopped e) t []

-- why a start failed
abbrev pub IsStartError : PeerError → Type 0
IsStartError errors.Halted = ⊥
IsStartError e = Unit {0}
