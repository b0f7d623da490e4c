-- A sync begins: nothing was received yet.
use Rattle.std.proofs.Common.{◌≡◌, ◌⊎◌, ℕ, zero, suc, ◌+◌, ◌≤◌, Bool, true, false, not, ◌&&◌, List, [], ◌∷◌, ◌++◌, arith, refl, ap, sym, ◌∙◌, subst, inl, inr, append-nil}
use Rattle.ens_base.proofs.Lists.{in_append}
use Rattle.std.specs.Prelude.{◌==◌, if◌then◌else◌}
use Rattle.std.proofs.lemmas.Bool.Decides.{nat_tests}
use Rattle.protocol_laws.specs.Numbers.{epoch_number}
use Rattle.protocol_laws.specs.Objects.{IsGenuine}
use Rattle.protocol_laws.specs.Protocol.{State, Step, IsRun, state_after}
use Rattle.ens_base.specs.Lists.{◌∈◌, AreDistinct, is_in}
use Rattle.ens_base.specs.Views.{last_view}
use Rattle.tree_sync.specs.Asks.{anew, is_other, asks_up_to, asks_of}
use Rattle.tree_sync.specs.declared.asking.Asking.{Asking}
use Rattle.tree_sync.specs.declared.asking.Stage.TheVariants.{Open}
use Rattle.role_laws.proofs.Coverage.{new_ask_holds}
use Rattle.role_laws.specs.Facts.{Lines}
use Rattle.role_laws.specs.Syncs as syncs
use Rattle.tree_node.specs.declared.version.TreeVersion.TheVariants.{Two}
use Rattle.synctree.specs.Sixteen.{form_of}
use Rattle.tree_node.specs.declared.body.Scan.{Scan}
use Rattle.tree_repair.specs.Scans.{lost}
use Rattle.protocol_laws.proofs.Trees.{run_versions}
use Rattle.protocol_laws.specs.Versions.{VersionsAreSafe}
use Rattle.peer_refinement.specs.SyncLaws.{SyncsStart}
use Rattle.peer_refinement.specs.Seen.{ranks, seen_ask, ask_of}
use Rattle.peer_refinement.specs.Syncs.{EntriesSay}
use Rattle.peer_refinement.proofs.Asks.{peers_of, peer_in, in_push}
use Rattle.peer_refinement.proofs.Gives.{tree_genuine, tree_floor}
use Rattle.peer_refinement.proofs.Scans.{clean_keeps, scan_entries, scan_lost, scan_found}

-- ## New asks

-- a new ask of a peer up to this number that passes the test
record IsNew (test : ℕ → Bool) (n : ℕ) (a : Asking) : Type 0 where
  new : a ≡ anew Open a.peer
  low : a.peer ≤ n
  passes : test a.peer ≡ true

new_is : (test : ℕ → Bool) (n : ℕ) (a : Asking) → a ∈ asks_up_to test n → IsNew test n a
unfolding asks_up_to
new_is test zero a at = absurd at
new_is test (suc n) a at = by_part (in_append (asks_up_to test n) (if test (n + 1) then anew Open (n + 1) ∷ [] else []) a at) (λ t. new_is test n a t)
  where
    last : (b : Bool) → test (n + 1) ≡ b → a ∈ (if b then anew Open (n + 1) ∷ [] else []) → IsNew test (suc n) a
    last true h (inl same) = let number : a.peer ≡ n + 1 = ap (λ (x : Asking). x.peer) same in
        record { new = same ∙ ap (anew Open) (sym number); low = omega (arith, number); passes = ap test number ∙ h }
    last true h (inr none) = absurd none
    last false h none = absurd none

    more : IsNew test n a → IsNew test (suc n) a
    more h = let low = h.low in record { new = h.new; low = omega (arith, low); passes = h.passes }

    by_part : (a ∈ asks_up_to test n) ⊎ (a ∈ (if test (n + 1) then anew Open (n + 1) ∷ [] else [])) → (a ∈ asks_up_to test n → IsNew test n a) → IsNew test (suc n) a
    by_part (inl there) further = more (further there)
    by_part (inr here) further = last (test (n + 1)) refl here

distinct_push : (asks : List Asking) (a : Asking) → AreDistinct (peers_of asks) → ¬ (a.peer ∈ peers_of asks) → AreDistinct (peers_of (asks ++ a ∷ []))
distinct_push [] a distinct other = ((λ none. none), tt)
distinct_push (x ∷ asks) a distinct other = ((λ at. by_part (in_push asks a x.peer at)), distinct_push asks a distinct.1 (λ at. other (inr at)))
  where
    by_part : (x.peer ∈ peers_of asks) ⊎ (x.peer ≡ a.peer) → ⊥
    by_part (inl there) = distinct.0 there
    by_part (inr same) = other (inl (sym same))

new_distinct : (test : ℕ → Bool) (n : ℕ) → AreDistinct (peers_of (asks_up_to test n))
unfolding asks_up_to
new_distinct test zero = tt
new_distinct test (suc n) = last (test (n + 1)) (new_distinct test n)
  where
    fresh : (n + 1) ∈ peers_of (asks_up_to test n) → ⊥
    fresh at = let found = peer_in (asks_up_to test n) (n + 1) at in
        let low : found.0.peer ≤ n = (new_is test n found.0 found.1).low in
        let same : found.0.peer ≡ n + 1 = found.2 in
        omega (arith, low, same)

    last : (b : Bool) → AreDistinct (peers_of (asks_up_to test n)) → AreDistinct (peers_of (asks_up_to test n ++ (if b then anew Open (n + 1) ∷ [] else [])))
    last true rest = distinct_push (asks_up_to test n) (anew Open (n + 1)) rest fresh
    last false rest = subst (λ (asks : List Asking). AreDistinct (peers_of asks)) (sym (append-nil (asks_up_to test n))) rest

-- the ask of a peer is new, or there is none
abbrev IsNewAsk : syncs.Asking → Type 0
IsNewAsk a = (a ≡ syncs.new_ask syncs.Open) ⊎ (a ≡ syncs.new_ask syncs.Dropped)

new_ask_of : (asks : List Asking) (q : ℕ) → ((a : Asking) → a ∈ asks → a ≡ anew Open a.peer) → IsNewAsk (ask_of asks q)
new_ask_of [] q new = inr refl
new_ask_of (x ∷ asks) q new = by_peer (x.peer == q) (new_ask_of asks q (λ a at. new a (inr at)))
  where
    by_peer : (b : Bool) → IsNewAsk (ask_of asks q) → IsNewAsk (if b then seen_ask x else ask_of asks q)
    by_peer true rest = inl (ap seen_ask (new x (inl refl)))
    by_peer false rest = rest

-- ## The sync

module _ (g : Lines) (s : State) (safe : VersionsAreSafe s.objects) where
  new_holds : (d : ℕ) (scan : Scan) (q : ℕ) (a : syncs.Asking) → IsNewAsk a → syncs.AskHolds g s.objects d (ranks scan.entries) q a
  new_holds d scan q a (inl is) = subst (syncs.AskHolds g s.objects d (ranks scan.entries) q) (sym is) (new_ask_holds g s.objects d (ranks scan.entries) q syncs.Open refl)
  new_holds d scan q a (inr is) = subst (syncs.AskHolds g s.objects d (ranks scan.entries) q) (sym is) (new_ask_holds g s.objects d (ranks scan.entries) q syncs.Dropped refl)

  starts_say : SyncsStart g s
  starts_say version strings p fact new trusted m scan kept trusts stands first at_ballot newer seen says is positions = record {
    me = refl;
    trust = refl;
    view = refl;
    scan = is;
    positions = positions;
    seen = seen;
    distinct = new_distinct (is_other p view) 31;
    others = λ a at same. other a.peer (new_at a at).passes same;
    sources = record { finished = λ q. not_finished (ask_of asks q) (ask_new q); flagged = λ q. not_flagged (ask_of asks q) (ask_new q); given = λ source at. absurd at; among = λ source at. absurd at };
    received = λ a at. subst (EntriesSay s strings) (sym (ap (λ (x : Asking). x.ask.received) (new_at a at).new)) (λ e none. absurd none);
    holds = record {
      first = first;
      stands = at_ballot;
      newer = newer;
      found = scan_found m scan is;
      scanned = λ k. scanned k (lost (form_of Two) scan.damaged k) refl;
      whole = λ whole sure k. subst (λ v. s.objects.floor p (epoch_number new.epoch) k ≤ v) (sym (scan_entries m scan is k (clean_keeps scan.damaged k whole))) (tree_floor g s safe strings p (epoch_number new.epoch) trusted m (stands ∙ sym at_ballot) says kept trusts sure k);
      asks = λ q. new_holds (epoch_number new.epoch) scan q (ask_of asks q) (ask_new q);
    };
  }
    where
      view : List ℕ
      view = last_view new.views

      asks : List Asking
      asks = asks_of p view

      new_at : (a : Asking) → a ∈ asks → IsNew (is_other p view) 31 a
      new_at a at = new_is (is_other p view) 31 a at

      ask_new : (q : ℕ) → IsNewAsk (ask_of asks q)
      ask_new q = new_ask_of asks q (λ a at. (new_at a at).new)

      other : (q : ℕ) → is_other p view q ≡ true → q ≡ p → ⊥
      other q h same = by_member (is_in view q) h
        where
          by_member : (b : Bool) → (b && not (q == p)) ≡ true → ⊥
          by_member b t = grind (arith, nat_tests)

      not_finished : (a : syncs.Asking) → IsNewAsk a → false ≡ syncs.is_finished a.stage
      not_finished a (inl h) = sym (ap (λ (x : syncs.Asking). syncs.is_finished x.stage) h)
      not_finished a (inr h) = sym (ap (λ (x : syncs.Asking). syncs.is_finished x.stage) h)

      not_flagged : (a : syncs.Asking) → IsNewAsk a → false ≡ (syncs.is_finished a.stage && a.flagged)
      not_flagged a (inl h) = sym (ap (λ (x : syncs.Asking). syncs.is_finished x.stage && x.flagged) h)
      not_flagged a (inr h) = sym (ap (λ (x : syncs.Asking). syncs.is_finished x.stage && x.flagged) h)

      scanned : (k : List ℕ) (b : Bool) → lost (form_of Two) scan.damaged k ≡ b → IsGenuine s.objects (epoch_number new.epoch) k (ranks scan.entries k)
      scanned k true gone = inl (scan_lost m scan is k gone)
      scanned k false found = subst (λ v. IsGenuine s.objects (epoch_number new.epoch) k v) (sym (scan_entries m scan is k found)) (tree_genuine g s safe strings p (epoch_number new.epoch) trusted m (stands ∙ sym at_ballot) says k)

-- a sync that begins says what holds
pub starts : (g : Lines) (view : List ℕ) (steps : List Step) → IsRun view steps → SyncsStart g (state_after view steps)
starts g view steps run = starts_say g (state_after view steps) (run_versions view steps run)
