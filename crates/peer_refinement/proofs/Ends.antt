-- The end of a sync: the merged entries are a map, and the peer may install it.
use Rattle.std.proofs.Common.{◌≡◌, ◌⊎◌, inl, inr, ℕ, ◌<◌, ◌≤◌, Bool, true, false, ◌&&◌, ◌||◌, not, List, [], ◌∷◌, map, arith, refl, sym, ap, subst, ◌∙◌}
use Rattle.std.proofs.lemmas.Bool.{or_cases}
use Rattle.ens_base.proofs.Lists.{in_append}
use Rattle.std.specs.Prelude.{◌==◌, if◌then◌else◌, filter}
use Rattle.std.specs.List.{AllByRecursion}
use Rattle.std.specs.declared.cmp.Ordering.TheVariants.{Less, Equal}
use Rattle.std.proofs.lemmas.Bool.Decides.{nat_tests}
use Rattle.protocol_laws.specs.Numbers.{epoch_number}
use Rattle.protocol_laws.specs.Objects.{IsGenuine, IsSynced, MayInstall}
use Rattle.protocol_laws.specs.Protocol.{State, Step, IsRun, state_after}
use Rattle.ens_base.specs.Limits as limits
use Rattle.ens_base.specs.Lists.{◌∈◌, AreDistinct, bytes_cmp}
use Rattle.ens_base.specs.Views.{last_view}
use Rattle.ens_base.specs.declared.entry.Entry.{Entry}
use Rattle.fields.specs.Entries.{IsEntry}
use Rattle.fields.specs.Numbers.{IsRun as IsRunOf}
use Rattle.quorums.proofs.Majorities.{majority_more_on}
use Rattle.quorums.specs.Quorums.{is_majority, has_all}
use Rattle.stored_formats.specs.declared.fact.Fact.{Fact}
use Rattle.peer_refinement.specs.Naming.{EntrySays}
use Rattle.tree_sync.specs.Running.{Running}
use Rattle.role_laws.proofs.Coverage.{gathered_genuine, synced}
use Rattle.role_laws.specs.Facts.{Lines, AreFirm}
use Rattle.role_laws.specs.Syncs as syncs
use Rattle.tree_sync.proofs.Contents.{merge}
use Rattle.tree_sync.proofs.Same.{kept_exactly}
use Rattle.tree_sync.proofs.Telling.{all_have}
use Rattle.tree_sync.specs.Merges.{IsMerge, merged}
use Rattle.tree_sync.specs.Syncs.{is_clean, is_source, is_trusted_source, has_finished, is_trusted, all_entries, is_over, outcome_of}
use Rattle.tree_sync.specs.declared.sync.Outcome.TheVariants.{Pending, Trusted}
use Rattle.tree_sync.specs.declared.sync.Source.{Source}
use Rattle.tree_node.specs.declared.version.TreeVersion.{TreeVersion}
use Rattle.tree_node.specs.declared.version.TreeVersion.TheVariants.{Two}
use Rattle.synctree.proofs.Below.{every}
use Rattle.synctree.proofs.Names.{md5_run}
use Rattle.synctree.proofs.Orders.{cmp_same}
use Rattle.synctree.specs.Entries.{IsBelowAll, Ascends}
use Rattle.synctree.specs.Sixteen.{form_of}
use Rattle.tree_node.specs.declared.body.Scan.{Scan}
use Rattle.tree_node.specs.declared.position.Position.{Position}
use Rattle.tree_repair.specs.Scans.{lost}
use Rattle.peer_refinement.proofs.Ranks.{merge_ascends}
use Rattle.peer_refinement.proofs.Scans.{scan_among}
use Rattle.peer_refinement.proofs.Merging.{sent_by, sent_of, ask_none, merged_same}
use Rattle.peer_refinement.specs.SyncLaws.{AreFewKeys, SyncEnds, SyncsEnd}
use Rattle.peer_refinement.specs.Seen.{ranks, ask_of, seen_fact, seen_tree, seen_sync}
use Rattle.peer_refinement.specs.Syncs.{TreeSays, SyncSays, IsScanOf}

-- ## The outcome

-- the sources suffice, and this is the merge
pub record IsOutcome (r : Running) (entries : List Entry) : Type 0 where
  pub over : is_over r.sync ≡ true
  pub merges : IsMerge (all_entries r.sync) entries

-- a sync that has an outcome has enough sources
outcome_is : (r : Running) (entries : List Entry) → outcome_of r.sync ≡ Trusted entries → IsOutcome r entries
outcome_is r entries h = by_over (is_over r.sync) refl h
  where
    trusted_is : (a b : List Entry) → Trusted a ≡ Trusted b → a ≡ b
    trusted_is a b e = cc

    by_over : (b : Bool) → is_over r.sync ≡ b → (if b then Trusted (merged (all_entries r.sync)) else Pending) ≡ Trusted entries → IsOutcome r entries
    by_over true e h = record { over = e; merges = subst (IsMerge (all_entries r.sync)) (trusted_is (merged (all_entries r.sync)) entries h) (merge (all_entries r.sync)) }
    by_over false e h = absurd cc

-- ## The sources suffice

-- in numbers and tests: a member that has finished here has finished in the theory
finished_there : (p q me : ℕ) (clean source finished : Bool) → me ≡ p → source ≡ finished → (p ≡ q → finished ≡ false) → ((q == me && clean) || source) ≡ true → (if p == q then not (not clean) else finished) ≡ true
finished_there p q me clean source finished same is none h = grind (arith, nat_tests)

sure_there : (p q me : ℕ) (clean trust trusted source finished flagged : Bool) → me ≡ p → trust ≡ trusted → source ≡ (finished && flagged) → (p ≡ q → finished ≡ false) → ((q == me && clean) && trust || source) ≡ true
    → (if p == q then trusted && not (not clean) else finished && flagged) ≡ true
sure_there p q me clean trust trusted source finished flagged same is_trust is none h = grind (arith, nat_tests)

-- ## Keys

pub below_not_in : (k : List ℕ) (m : List Entry) → IsBelowAll k m → k ∈ map (λ (e : Entry). e.key) m → ⊥
below_not_in k [] below i = i
below_not_in k (e ∷ m) below (inl same) = let both : Less ≡ Equal = sym below.0 ∙ ap (λ (j : List ℕ). bytes_cmp k j) (sym same) ∙ cmp_same k in absurd cc
below_not_in k (e ∷ m) below (inr i) = below_not_in k m below.1 i

-- the keys of a map are distinct
pub distinct_keys : (m : List Entry) → Ascends m → AreDistinct (map (λ (e : Entry). e.key) m)
distinct_keys [] ascends = tt
distinct_keys (e ∷ m) ascends = (below_not_in e.key m ascends.0, distinct_keys m ascends.1)

each_is : (P : Entry → Type 0) (m : List Entry) → ((e : Entry) → e ∈ m → P e) → AllByRecursion P m
each_is P [] holds = tt
each_is P (e ∷ m) holds = (holds e (inl refl), each_is P m (λ f i. holds f (inr i)))

-- what an entry says, so that it can be spelled
pub entry_fits : (s : State) (strings : List (List ℕ)) (e : Entry) → EntrySays s strings e → IsEntry e
entry_fits s strings e says = record {
  key = subst limits.IsKey (sym says.key) says.version.object.key;
  version = says.version.object.version;
  digest = subst (IsRunOf 16) (sym says.digest) (md5_run _);
}

-- ## The scan

-- a scan without damage has the whole map
whole_scan : (m : List Entry) (scan : Scan) → IsScanOf m scan → scan.damaged ≡ [] → scan.entries ≡ m
whole_scan m scan is none = is.entries ∙ ap (λ (ps : List Position). filter (λ e. not (lost (form_of Two) ps e.key)) m) none ∙ every m

-- ## The end

module _ (version : TreeVersion) (g : Lines) (s : State) (strings : List (List ℕ)) (p : ℕ) (fact : Fact) (trusted : Bool) (m : List Entry) (r : Running) (entries : List Entry) (firm : AreFirm g) (votes : last_view r.fact.views ∈ g.voting) (few : AreFewKeys s)
    (stands : s.objects.ledger.ballot p ≡ epoch_number fact.ballot) (accepted : (s.objects.ledger.fact p).epoch ≡ epoch_number fact.epoch) (tree : TreeSays s strings p m) (says : SyncSays version g s strings p fact trusted m r) (outcome : IsOutcome r entries) where
  scan_says : (e : Entry) → e ∈ r.sync.scan.entries → EntrySays s strings e
  scan_says e i = tree.entries e (scan_among m r.sync.scan says.scan e i)

  sent_says : (e : Entry) (source : Source) → source ∈ r.sync.sources → e ∈ source.entries → EntrySays s strings e
  sent_says e source at i = let a = says.sources.given source at in says.received a.0 a.1 e (subst (λ (es : List Entry). e ∈ es) a.3 i)

  -- each entry that was scanned or received says what holds
  entry_says : (e : Entry) → e ∈ all_entries r.sync → EntrySays s strings e
  entry_says e i = by_part (in_append r.sync.scan.entries (sent_by r.sync.sources) e i)
    where
      by_part : (e ∈ r.sync.scan.entries) ⊎ (e ∈ sent_by r.sync.sources) → EntrySays s strings e
      by_part (inl j) = scan_says e j
      by_part (inr j) = let there = sent_of r.sync.sources e j in sent_says e there.0 there.1 there.2

  merged_says : (e : Entry) → e ∈ entries → EntrySays s strings e
  merged_says e i = entry_says e (outcome.merges.from e i)

  -- ## The sources suffice

  not_asked : (q : ℕ) → p ≡ q → syncs.is_finished (ask_of r.asks q).stage ≡ false
  not_asked q e = subst (λ (n : ℕ). syncs.is_finished (ask_of r.asks n).stage ≡ false) e (ask_none r.asks p says.others)

  sure : (q : ℕ) → is_trusted r.sync q ≡ true → syncs.is_sure p trusted (seen_sync r) q ≡ true
  sure q h = sure_there p q r.sync.me (is_clean r.sync.scan) r.sync.trusted trusted (is_trusted_source r.sync.sources q) (syncs.is_finished (ask_of r.asks q).stage) ((ask_of r.asks q).flagged) says.me says.trust (says.sources.flagged q) (not_asked q) h

  finished : (q : ℕ) → has_finished r.sync q ≡ true → syncs.has_finished p (seen_sync r) q ≡ true
  finished q h = finished_there p q r.sync.me (is_clean r.sync.scan) (is_source r.sync.sources q) (syncs.is_finished (ask_of r.asks q).stage) says.me (says.sources.finished q) (not_asked q) h

  -- so the sync is over in the theory
  over : syncs.IsOver p trusted (seen_sync r)
  over = by_kind (or_cases (is_majority (is_trusted r.sync) r.sync.view) (has_all (has_finished r.sync) r.sync.view) outcome.over)
    where
      by_kind : (is_majority (is_trusted r.sync) r.sync.view ≡ true) ⊎ (has_all (has_finished r.sync) r.sync.view ≡ true) → syncs.IsOver p trusted (seen_sync r)
      by_kind (inl most) = inl (majority_more_on (is_trusted r.sync) (syncs.is_sure p trusted (seen_sync r)) (last_view r.fact.views) (λ q i h. sure q h) (subst (λ (v : List ℕ). is_majority (is_trusted r.sync) v ≡ true) says.view most))
      by_kind (inr all) = inr (λ q i. finished q (all_have (has_finished r.sync) (last_view r.fact.views) q (subst (λ (v : List ℕ). has_all (has_finished r.sync) v ≡ true) says.view all) i))

  -- ## The merged map may be installed

  epoch : ℕ
  epoch = epoch_number r.fact.epoch

  -- the sources showed no more than is merged
  is_synced : IsSynced s.objects epoch (ranks entries)
  unfolding epoch
  is_synced =
      let most : IsSynced s.objects epoch (syncs.merged_of (seen_sync r)) = synced g s.objects p (seen_fact fact) (seen_tree m) trusted (seen_sync r) says.holds stands firm votes (ap last_view says.holds.first.known.views) over in
      record { sources = most.sources; majority = most.majority; reached = most.reached; given = λ q k h. subst (λ (v : ℕ). s.objects.floor q epoch k ≤ v) (merged_same r entries m says.scan says.distinct says.sources says.view (λ e i. (entry_says e i).version.object.version) outcome.merges k) (most.given q k h) }

  may : MayInstall s.objects p epoch (ranks entries)
  unfolding epoch
  may = record {
    elected = says.holds.first.known.elected;
    stands = stands ∙ sym says.holds.stands;
    newer = subst (λ (d : ℕ). d < epoch) (sym accepted) says.holds.newer;
    synced = is_synced;
    genuine = λ k. subst (IsGenuine s.objects epoch k) (merged_same r entries m says.scan says.distinct says.sources says.view (λ e i. (entry_says e i).version.object.version) outcome.merges k) (gathered_genuine g s.objects p (seen_fact fact) (seen_tree m) trusted (seen_sync r) says.holds stands (syncs.sources_of (seen_sync r)) k);
  }

  -- ## The merged entries

  -- the merged entries are a map that the peer may install
  pub sync_ends : SyncEnds s strings p m r entries
  unfolding epoch
  sync_ends = record {
    is_map = record {
      ascends = merge_ascends entries outcome.merges.ascend;
      entries = each_is IsEntry entries (λ e i. entry_fits s strings e (merged_says e i));
      few = few entries (λ e i. (merged_says e i).version.proposed) (λ e i. (merged_says e i).key) (distinct_keys entries (merge_ascends entries outcome.merges.ascend));
    };
    entries_say = merged_says;
    may = may;
    kept = λ h. let parts = (kept_exactly r.sync.scan entries).0 h in sym parts.1 ∙ whole_scan m r.sync.scan says.scan parts.0;
  }

-- at its end the merged entries are a map, and the peer may install it
pub ends : (g : Lines) (view : List ℕ) (steps : List Step) (run : IsRun view steps) → SyncsEnd g (state_after view steps)
ends g view steps run version strings p fact trusted m r entries firm votes few stands accepted tree says h = sync_ends version g (state_after view steps) strings p fact trusted m r entries firm votes few stands accepted tree says (outcome_is r entries h)
