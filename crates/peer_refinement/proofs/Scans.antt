-- What a scan found, as the theory sees it.
use Rattle.std.proofs.Common.{◌≡◌, ◌⊎◌, ℕ, Bool, true, false, not, List, [], ◌∷◌, Option, None, Some, filter, refl, ap, sym, ◌∙◌, subst, inl}
use Rattle.std.specs.List.{AllByRecursion}
use Rattle.std.proofs.lemmas.Bool.{not-true, not_from_false}
use Rattle.ens_base.specs.Lists.{◌∈◌}
use Rattle.ens_base.specs.declared.entry.Entry.{Entry}
use Rattle.tree_node.specs.declared.version.TreeVersion.{TreeVersion}
use Rattle.tree_node.specs.declared.version.TreeVersion.TheVariants.{Two}
use Rattle.tree_exchange.proofs.Having.{from_filter}
use Rattle.tree_exchange.specs.Covers.{PassesAny, IsOwn}
use Rattle.peer_refinement.specs.LeaderRefinement.{entry_rank}
use Rattle.peer_refinement.proofs.Lookups.{lookup_in, lookup_key}
use Rattle.role_laws.specs.Trees.{IsScan}
use Rattle.tree_sync.specs.Syncs.{is_none}
use Rattle.synctree.proofs.Parts.{find-part, ascends-part}
use Rattle.synctree.specs.Entries.{Ascends, IsMap, lookup}
use Rattle.synctree.specs.Paths.{node_of}
use Rattle.synctree.specs.Sixteen.{form_of}
use Rattle.tree_node.specs.declared.body.Scan.{Scan}
use Rattle.tree_node.specs.Positions.{IsPosition}
use Rattle.tree_node.specs.declared.position.Position.{Position}
use Rattle.peer_refinement.specs.Rooted.{LosesAll}
use Rattle.tree_repair.specs.Scans.{lost}
use Rattle.peer_refinement.specs.Seen.{ranks, seen_tree, seen_scan}
use Rattle.peer_refinement.specs.Syncs.{IsScanOf}
use Rattle.tree_repair.proofs.Telling.{in_filter}
use Rattle.peer_refinement.proofs.Maps.{passes_of_any, lost_is_any}
use Rattle.protocol_laws.proofs.Epochs.{not_both}

-- a scan without damage lost no key
pub clean_keeps : (damaged : List Position) (k : List ℕ) → not (is_none damaged) ≡ false → lost (form_of Two) damaged k ≡ false
clean_keeps [] k h = refl
clean_keeps (p ∷ ps) k h = absurd (not_both refl h)

module _ (m : List Entry) (scan : Scan) (is : IsScanOf m scan) where
  -- whether the scan found the key
  abbrev is_kept : List ℕ → Bool
  is_kept key = not (lost (form_of Two) scan.damaged key)

  -- the entries of a scan ascend
  pub scan_ascends : Ascends scan.entries
  scan_ascends = subst Ascends (sym is.entries) (ascends-part is_kept m is.is_map.ascends)

  -- each entry that it found is one of the map
  pub scan_among : (e : Entry) → e ∈ scan.entries → e ∈ m
  scan_among e at = (from_filter (λ (x : Entry). is_kept x.key) e m (subst (λ (es : List Entry). e ∈ es) is.entries at)).0

  -- a key that is not lost has the version of the map
  pub scan_entries : (k : List ℕ) → lost (form_of Two) scan.damaged k ≡ false → ranks scan.entries k ≡ ranks m k
  scan_entries k kept = subst (λ (es : List Entry). ranks es k ≡ ranks m k) (sym is.entries) (sym (ap entry_rank (find-part is_kept k (not_from_false (lost (form_of Two) scan.damaged k) kept) m)))

  -- a key that is lost has none
  pub scan_lost : (k : List ℕ) → lost (form_of Two) scan.damaged k ≡ true → ranks scan.entries k ≡ 0
  scan_lost k gone = subst (λ (es : List Entry). ranks es k ≡ 0) (sym is.entries) (by_entry (lookup k (filter (λ (e : Entry). is_kept e.key) m)) refl)
    where
      no : (e : Entry) → lookup k (filter (λ (e : Entry). is_kept e.key) m) ≡ Some e → ⊥
      no e found =
          let there = from_filter (λ (x : Entry). is_kept x.key) e m (lookup_in k (filter (λ (x : Entry). is_kept x.key) m) e found) in
          not_both gone (subst (λ (j : List ℕ). lost (form_of Two) scan.damaged j ≡ false) (lookup_key k (filter (λ (x : Entry). is_kept x.key) m) e found) (not-true (lost (form_of Two) scan.damaged e.key) there.1))

      by_entry : (o : Option Entry) → lookup k (filter (λ (e : Entry). is_kept e.key) m) ≡ o → entry_rank o ≡ 0
      by_entry None found = refl
      by_entry (Some e) found = absurd (no e found)

  -- it is a scan of the tree that shows the map
  pub scan_found : IsScan (seen_tree m) (seen_scan scan)
  scan_found = record { entries = scan_entries; lost = scan_lost; whole = λ whole k. clean_keeps scan.damaged k whole; verifies = λ whole. refl }

  -- the own scan, and the own node if there was one, as an ask takes them
  pub scan_own : (version : TreeVersion) (own : Option (List ℕ)) (at : Position) → AllByRecursion (IsPosition version) scan.damaged → (own ≡ None) ⊎ (own ≡ node_of (form_of version) at m) → IsOwn version own scan at m
  scan_own version own at positions node = record { is_map = is.is_map; node = node; scanned = λ e inside free. scanned e inside free (lost (form_of Two) scan.damaged e.key) refl; positions = positions }
    where
      scanned : (e : Entry) → e ∈ m → ¬ PassesAny version e.key scan.damaged → (b : Bool) → lost (form_of Two) scan.damaged e.key ≡ b → e ∈ scan.entries
      scanned e inside free true gone = absurd (free (passes_of_any version e.key scan.damaged (sym (lost_is_any e.key scan.damaged) ∙ gone)))
      scanned e inside free false kept = subst (λ (es : List Entry). e ∈ es) (sym is.entries) (in_filter (λ (x : Entry). is_kept x.key) e m inside (not_from_false (lost (form_of Two) scan.damaged e.key) kept))

-- a scan that lost each key is one of any map, as an ask takes it without an own node
pub lost_own : (version : TreeVersion) (n : List Entry) (scan : Scan) (own : Option (List ℕ)) (at : Position) → IsMap n → LosesAll scan → AllByRecursion (IsPosition version) scan.damaged → own ≡ None → IsOwn version own scan at n
lost_own version n scan own at ok loses positions none = record {
  is_map = ok;
  node = inl none;
  scanned = λ e inside free. absurd (free (passes_of_any version e.key scan.damaged (sym (lost_is_any e.key scan.damaged) ∙ loses e.key)));
  positions = positions;
}
