-- The sources of a sync that have finished, and what follows.
use Rattle.std.specs.Prelude.{ℕ, Bool, true, false, not, ◌&&◌, ◌||◌, ◌==◌, if◌then◌else◌, List, [], ◌∷◌, ◌++◌}
use Rattle.std.specs.List.{flat_map}
use lib.Pointwise.{pointwise}
use Rattle.ens_base.specs.Epochs.{same_version}
use Rattle.ens_base.specs.Lists.{same_bytes, is_in}
use Rattle.ens_base.specs.declared.entry.Entry.{Entry}
use Rattle.ens_base.specs.Views.{last_view}
use Rattle.stored_formats.specs.declared.fact.Fact.{Fact}
use Rattle.tree_node.specs.declared.body.Scan.{Scan}
use Rattle.tree_node.specs.declared.position.Position.{Position}
use Rattle.tree_node.specs.Entries.{AreAbove}
use Rattle.tree_sync.specs.declared.sync.Outcome.{Outcome}
use Rattle.tree_sync.specs.declared.sync.Outcome.TheVariants.{Pending, Trusted}
use Rattle.tree_sync.specs.declared.sync.Source.{Source}
use Rattle.tree_sync.specs.declared.sync.Sync.{Sync}
use Rattle.tree_sync.specs.Merges.{merged}
use Rattle.tree_sync.specs.Sources.{suffice}

-- no source has finished; the sources are the members of the last view of the fact
abbrev pub begun : Fact → ℕ → Bool → Scan → Sync
begun fact me trusted scan = record { view = last_view fact.views; me = me; trusted = trusted; scan = scan; sources = [] }

abbrev pub is_none : List Position → Bool
is_none [] = true
is_none (p ∷ ps) = false

-- whether a scan shows no damage
abbrev pub is_clean : Scan → Bool
is_clean scan = is_none scan.damaged

-- whether the peer is one of these sources
abbrev pub is_source : List Source → ℕ → Bool
is_source [] peer = false
is_source (s ∷ ss) peer = s.peer == peer || is_source ss peer

-- whether the peer is one of these sources, and its tree was trusted
abbrev pub is_trusted_source : List Source → ℕ → Bool
is_trusted_source [] peer = false
is_trusted_source (s ∷ ss) peer = (s.peer == peer && s.trusted) || is_trusted_source ss peer

-- whether this is the peer itself, and its own scan shows no damage
abbrev pub is_own_source : Sync → ℕ → Bool
is_own_source sync peer = peer == sync.me && is_clean sync.scan

-- whether the peer has finished; the peer itself has if its own scan shows no damage
abbrev pub has_finished : Sync → ℕ → Bool
has_finished sync peer = is_own_source sync peer || is_source sync.sources peer

-- whether the peer has finished with a trusted tree
abbrev pub is_trusted : Sync → ℕ → Bool
is_trusted sync peer = (is_own_source sync peer && sync.trusted) || is_trusted_source sync.sources peer

-- whether the peer may still finish as a source
abbrev pub is_awaited : Sync → ℕ → Bool
is_awaited sync peer = is_in sync.view peer && not (peer == sync.me) && not (is_source sync.sources peer)

-- the sync after a source has finished; a peer that is not awaited changes nothing
abbrev pub with_source : ℕ → Bool → List Entry → Sync → Sync
with_source peer trusted entries sync =
    if is_awaited sync peer
    then record sync { sources = sync.sources ++ record { peer = peer; trusted = trusted; entries = entries } ∷ [] }
    else sync

-- the own verified entries and those of all finished sources
abbrev pub all_entries : Sync → List Entry
all_entries sync = sync.scan.entries ++ flat_map (λ s. s.entries) sync.sources

-- whether the sources that have finished suffice
abbrev pub is_over : Sync → Bool
is_over sync = suffice (is_trusted sync) (has_finished sync) sync.view

-- the merged entries once the sources suffice
abbrev pub outcome_of : Sync → Outcome
outcome_of sync = if is_over sync then Trusted (merged (all_entries sync)) else Pending

-- a tree can be built from the merged entries: their keys ascend strictly, the first above no bytes
abbrev pub MayBeBuilt : Outcome → Type 0
MayBeBuilt Pending = Unit {0}
MayBeBuilt (Trusted entries) = AreAbove [] entries

-- whether two entries are equal
abbrev pub same_entry : Entry → Entry → Bool
same_entry a b = same_bytes a.key b.key && same_version a.version b.version && same_bytes a.digest b.digest

-- whether two lists of entries are equal
abbrev pub same_entries : List Entry → List Entry → Bool
same_entries = pointwise same_entry

-- whether the tree is to be built from the merged entries: the own scan shows damage, or they are
-- not its entries
abbrev pub needs_build : Scan → List Entry → Bool
needs_build scan entries = not (is_clean scan && same_entries scan.entries entries)
