-- What a sync merges is, as a map from keys to versions, what the theory merges.
use Rattle.std.proofs.Common.{◌≡◌, ◌⊎◌, inl, inr, ℕ, ◌≤◌, Bool, true, false, ◌||◌, List, [], ◌∷◌, map, arith, refl, sym, subst, ◌∙◌, le_trans, le_antisymm}
use Rattle.ens_base.proofs.Lists.{in_append, in_left, in_right}
use Rattle.std.specs.Prelude.{◌==◌, if◌then◌else◌}
use Rattle.std.specs.List.{flat_map}
use Rattle.std.proofs.lemmas.Bool.{eqb-true, ne_eqb}
use Rattle.ens_base.specs.Limits as limits
use Rattle.ens_base.specs.Lists.{◌∈◌, AreDistinct}
use Rattle.ens_base.specs.Views.{last_view}
use Rattle.ens_base.specs.declared.entry.Entry.{Entry}
use Rattle.peer_refinement.specs.LeaderRefinement.{rank}
use Rattle.tree_sync.specs.Running.{Running}
use Rattle.tree_sync.specs.declared.asking.Asking.{Asking}
use Rattle.role_laws.proofs.Coverage.{scan_below, given_below, max_least}
use Rattle.role_laws.specs.Syncs as syncs
use Rattle.tree_sync.specs.Merges.{Exceeds, IsMerge}
use Rattle.tree_sync.specs.Syncs.{is_source, all_entries}
use Rattle.tree_sync.specs.declared.sync.Source.{Source}
use Rattle.synctree.specs.Entries.{Ascends}
use Rattle.peer_refinement.proofs.Asks.{ask_in}
use Rattle.peer_refinement.proofs.Maps.{HasRank, ranks_in, ranks_found, greatest_in, greatest_found}
use Rattle.peer_refinement.proofs.Ranks.{merge_ascends, no_lower}
use Rattle.peer_refinement.proofs.Scans.{scan_ascends}
use Rattle.peer_refinement.specs.Seen.{ranks, greatest, seen_ask, ask_of, seen_sync}
use Rattle.peer_refinement.specs.Syncs.{IsScanOf, SourcesAre}
use Rattle.peer_refinement.proofs.Setting.{source_in}

-- ## Sources

-- what all these sources sent
abbrev pub sent_by : List Source → List Entry
sent_by ss = flat_map (λ (x : Source). x.entries) ss

-- what a source sent is among all that was sent
sent_in : (ss : List Source) (source : Source) (e : Entry) → source ∈ ss → e ∈ source.entries → e ∈ sent_by ss
sent_in [] source e at i = absurd at
sent_in (x ∷ ss) source e (inl same) i = in_left x.entries (sent_by ss) e (subst (λ (y : Source). e ∈ y.entries) same i)
sent_in (x ∷ ss) source e (inr at) i = in_right x.entries (sent_by ss) e (sent_in ss source e at i)

-- an entry that a source sent
abbrev pub IsSent : List Source → Entry → Type 0
IsSent ss e = (source : Source) × (source ∈ ss) × (e ∈ source.entries)

-- all that was sent, one of the sources sent
pub sent_of : (ss : List Source) (e : Entry) → e ∈ sent_by ss → IsSent ss e
sent_of [] e i = absurd i
sent_of (x ∷ ss) e i = by_part (in_append x.entries (sent_by ss) e i) (sent_of ss e)
  where
    by_part : (e ∈ x.entries) ⊎ (e ∈ sent_by ss) → (e ∈ sent_by ss → IsSent ss e) → IsSent (x ∷ ss) e
    by_part (inl j) later = (x, inl refl, j)
    by_part (inr j) later = let there = later j in (there.0, inr there.1, there.2)

-- a source that is this peer
abbrev SourceOf : List Source → ℕ → Type 0
SourceOf ss q = (source : Source) × (source ∈ ss) × (source.peer ≡ q)

source_at : (ss : List Source) (q : ℕ) → is_source ss q ≡ true → SourceOf ss q
source_at [] q h = absurd cc
source_at (x ∷ ss) q h = by_peer (x.peer == q) refl h (source_at ss q)
  where
    by_peer : (b : Bool) → (x.peer == q) ≡ b → (b || is_source ss q) ≡ true → (is_source ss q ≡ true → SourceOf ss q) → SourceOf (x ∷ ss) q
    by_peer true e h later = (x, inl refl, eqb-true x.peer q e)
    by_peer false e h later = let there = later h in (there.0, inr there.1, there.2)

-- ## Asks

-- a peer that is not asked never finishes
pub ask_none : (asks : List Asking) (p : ℕ) → ((a : Asking) → a ∈ asks → a.peer ≡ p → ⊥) → syncs.is_finished (ask_of asks p).stage ≡ false
ask_none [] p none = refl
ask_none (x ∷ asks) p none = rw (ne_eqb x.peer p (none x (inl refl))) (ask_none asks p (λ a i. none a (inr i)))

-- ## The merge

same_least : (a b : ℕ) → a ≡ b → a ≤ b
same_least a b e = omega (arith, e)

module _ (r : Running) (entries m : List Entry) (scan : IsScanOf m r.sync.scan) (distinct : AreDistinct (map (λ (a : Asking). a.peer) r.asks)) (sources : SourcesAre r) (view : r.sync.view ≡ last_view r.fact.views)
    (fits : (e : Entry) → e ∈ all_entries r.sync → limits.IsVersion e.version) (merge : IsMerge (all_entries r.sync) entries) where
  entries_ascend : Ascends entries
  entries_ascend = merge_ascends entries merge.ascend

  -- no entry is greater than the merged one of its key
  entry_below : (e : Entry) (k : List ℕ) → e ∈ all_entries r.sync → e.key ≡ k → rank e.version ≤ ranks entries k
  entry_below e k i same = by_greatest (merge.greatest e i)
    where
      by_greatest : (x : Entry) × (x ∈ entries) × Exceeds x e → rank e.version ≤ ranks entries k
      by_greatest x = subst (λ (v : ℕ). rank e.version ≤ v) (sym (ranks_in entries x.0 k entries_ascend x.1 (x.2.key ∙ same))) (no_lower x.0 e (fits x.0 (merge.from x.0 x.1)) (fits e i) x.2.not_lower)

  version_below : (es : List Entry) (k : List ℕ) (v : ℕ) → ((e : Entry) → e ∈ es → e ∈ all_entries r.sync) → (v ≡ 0) ⊎ HasRank es k v → v ≤ ranks entries k
  version_below es k v among (inl z) = subst (λ (n : ℕ). n ≤ ranks entries k) (sym z) (omega arith)
  version_below es k v among (inr h) = subst (λ (n : ℕ). n ≤ ranks entries k) (sym h.rank_is) (entry_below h.entry k (among h.entry h.inside) h.key_is)

  -- what a finished ask received is merged
  received_below : (q : ℕ) (k : List ℕ) → syncs.is_finished (ask_of r.asks q).stage ≡ true → (ask_of r.asks q).received k ≤ ranks entries k
  received_below q k done = by_source (source_at r.sync.sources q (sources.finished q ∙ done))
    where
      by_ask : (source : Source) → source ∈ r.sync.sources → source.peer ≡ q → (a : Asking) × (a ∈ r.asks) × (a.peer ≡ source.peer) × (source.entries ≡ a.ask.received) → (ask_of r.asks q).received k ≤ ranks entries k
      by_ask source at peer a =
          let same : ask_of r.asks q ≡ seen_ask a.0 = subst (λ (n : ℕ). ask_of r.asks n ≡ seen_ask a.0) (a.2 ∙ peer) (ask_in r.asks a.0 distinct a.1) in
          let among : (e : Entry) → e ∈ a.0.ask.received → e ∈ all_entries r.sync = λ e i. in_right r.sync.scan.entries (sent_by r.sync.sources) e (sent_in r.sync.sources source e at (subst (λ (es : List Entry). e ∈ es) (sym a.3) i)) in
          subst (λ (z : syncs.Asking). z.received k ≤ ranks entries k) (sym same) (version_below a.0.ask.received k (greatest a.0.ask.received k) among (greatest_found a.0.ask.received k))

      by_source : SourceOf r.sync.sources q → (ask_of r.asks q).received k ≤ ranks entries k
      by_source x = by_ask x.0 x.1 x.2 (sources.given x.0 x.1)

  given_least : (q : ℕ) (k : List ℕ) → syncs.given_by (seen_sync r) q k ≤ ranks entries k
  given_least q k = by_stage (syncs.is_finished (ask_of r.asks q).stage) refl
    where
      by_stage : (b : Bool) → syncs.is_finished (ask_of r.asks q).stage ≡ b → (if b then (ask_of r.asks q).received k else 0) ≤ ranks entries k
      by_stage true done = received_below q k done
      by_stage false none = omega arith

  -- the theory merges nothing greater
  gathered_least : (members : List ℕ) (k : List ℕ) → syncs.gathered (seen_sync r) members k ≤ ranks entries k
  gathered_least [] k = version_below r.sync.scan.entries k (ranks r.sync.scan.entries k) (λ e i. in_left r.sync.scan.entries (sent_by r.sync.sources) e i) (ranks_found r.sync.scan.entries k)
  gathered_least (q ∷ rest) k = max_least (syncs.given_by (seen_sync r) q k) (syncs.gathered (seen_sync r) rest k) (ranks entries k) (given_least q k) (gathered_least rest k)

  -- an entry that was scanned, or that a source sent, is among what the theory merges
  scan_gathered : (e : Entry) (k : List ℕ) → e ∈ r.sync.scan.entries → e.key ≡ k → rank e.version ≤ syncs.merged_of (seen_sync r) k
  scan_gathered e k i same = le_trans (same_least (rank e.version) (ranks r.sync.scan.entries k) (sym (ranks_in r.sync.scan.entries e k (scan_ascends m r.sync.scan scan) i same))) (scan_below (seen_sync r) (syncs.sources_of (seen_sync r)) k)

  sent_gathered : (e : Entry) (k : List ℕ) (source : Source) → source ∈ r.sync.sources → e ∈ source.entries → e.key ≡ k → rank e.version ≤ syncs.merged_of (seen_sync r) k
  sent_gathered e k source at i same = le_trans (by_ask (sources.given source at)) (given_below (seen_sync r) (syncs.sources_of (seen_sync r)) source.peer k (subst (λ (v : List ℕ). source.peer ∈ v) view (sources.among source at)) done)
    where
      done : syncs.is_finished (ask_of r.asks source.peer).stage ≡ true
      done = sym (sources.finished source.peer) ∙ source_in r.sync.sources source at

      by_ask : (a : Asking) × (a ∈ r.asks) × (a.peer ≡ source.peer) × (source.entries ≡ a.ask.received) → rank e.version ≤ (ask_of r.asks source.peer).received k
      by_ask a =
          let is : ask_of r.asks source.peer ≡ seen_ask a.0 = subst (λ (n : ℕ). ask_of r.asks n ≡ seen_ask a.0) a.2 (ask_in r.asks a.0 distinct a.1) in
          subst (λ (z : syncs.Asking). rank e.version ≤ z.received k) (sym is) (greatest_in a.0.ask.received e k (subst (λ (es : List Entry). e ∈ es) a.3 i) same)

  entry_gathered : (e : Entry) (k : List ℕ) → e ∈ all_entries r.sync → e.key ≡ k → rank e.version ≤ syncs.merged_of (seen_sync r) k
  entry_gathered e k i same = by_part (in_append r.sync.scan.entries (sent_by r.sync.sources) e i)
    where
      by_part : (e ∈ r.sync.scan.entries) ⊎ (e ∈ sent_by r.sync.sources) → rank e.version ≤ syncs.merged_of (seen_sync r) k
      by_part (inl j) = scan_gathered e k j same
      by_part (inr j) = let there = sent_of r.sync.sources e j in sent_gathered e k there.0 there.1 there.2 same

  -- both merge to the same map
  pub merged_same : (k : List ℕ) → syncs.merged_of (seen_sync r) k ≡ ranks entries k
  merged_same k = le_antisymm (gathered_least (syncs.sources_of (seen_sync r)) k) (by_rank (ranks_found entries k))
    where
      by_rank : (ranks entries k ≡ 0) ⊎ HasRank entries k (ranks entries k) → ranks entries k ≤ syncs.merged_of (seen_sync r) k
      by_rank (inl z) = subst (λ (n : ℕ). n ≤ syncs.merged_of (seen_sync r) k) (sym z) (omega arith)
      by_rank (inr h) = subst (λ (n : ℕ). n ≤ syncs.merged_of (seen_sync r) k) (sym h.rank_is) (entry_gathered h.entry k (merge.from h.entry h.inside) h.key_is)
