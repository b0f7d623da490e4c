-- An open ask of a sync is set: it goes on, or its source has finished.
use Rattle.std.proofs.Common.{◌≡◌, ◌⊎◌, ℕ, Bool, true, false, ◌&&◌, ◌||◌, List, [], ◌∷◌, ◌++◌, Some, arith, refl, ap, sym, ◌∙◌, subst, inl, inr}
use Rattle.std.proofs.lemmas.Bool.{or_left, or_right, eq-eqb, eqb-true}
use Rattle.ens_base.proofs.Lists.{in_append}
use Rattle.std.specs.Prelude.{◌==◌, slice_get, slice_set, if◌then◌else◌}
use Rattle.protocol_laws.specs.Numbers.{epoch_number}
use Rattle.protocol_laws.specs.Protocol.{State}
use Rattle.ens_base.specs.Lists.{◌∈◌, AreDistinct}
use Rattle.ens_base.specs.declared.entry.Entry.{Entry}
use Rattle.stored_formats.specs.declared.fact.Fact.{Fact}
use Rattle.tree_sync.specs.Running.{Running}
use Rattle.tree_sync.specs.declared.asking.Asking.{Asking}
use Rattle.tree_sync.specs.declared.asking.Stage.{Stage}
use Rattle.tree_sync.specs.declared.asking.Stage.TheVariants as stages
use Rattle.role_laws.specs.Facts.{Lines}
use Rattle.role_laws.specs.Syncs as syncs
use Rattle.tree_sync.specs.Syncs.{is_source, is_trusted_source}
use Rattle.tree_sync.specs.declared.sync.Source.{Source}
use Rattle.tree_node.specs.declared.version.TreeVersion.{TreeVersion}
use Rattle.peer_refinement.specs.Seen.{ranks, seen_stage, seen_ask, ask_of}
use Rattle.peer_refinement.specs.Syncs.{EntriesSay, SourcesAre, SyncSays}
use Rattle.peer_refinement.proofs.Asks.{at_place, in_set, set_there, still_there, set_itself, set_peers, ask_in, ask_set}
use Rattle.protocol_laws.proofs.Epochs.{not_both}

-- ## Sources

-- the peer of each source counts as one
pub source_in : (ss : List Source) (x : Source) → x ∈ ss → is_source ss x.peer ≡ true
source_in [] x at = absurd at
source_in (y ∷ ss) x (inl same) = or_left (y.peer == x.peer) (is_source ss x.peer) (subst (λ (z : Source). (y.peer == z.peer) ≡ true) (sym same) (eq-eqb y.peer y.peer refl))
source_in (y ∷ ss) x (inr at) = or_right (y.peer == x.peer) (is_source ss x.peer) (source_in ss x at)

one_more : (a b c : Bool) → (a || (b || c)) ≡ ((a || b) || c)
one_more a b c = grind arith

last_one : (a : Bool) → (a || false) ≡ (false || a)
last_one a = grind arith

source_push : (ss : List Source) (x : Source) (q : ℕ) → is_source (ss ++ x ∷ []) q ≡ (is_source ss q || x.peer == q)
source_push [] x q = last_one (x.peer == q)
source_push (y ∷ ss) x q = ap (λ b. y.peer == q || b) (source_push ss x q) ∙ one_more (y.peer == q) (is_source ss q) (x.peer == q)

trusted_push : (ss : List Source) (x : Source) (q : ℕ) → is_trusted_source (ss ++ x ∷ []) q ≡ (is_trusted_source ss q || (x.peer == q && x.trusted))
trusted_push [] x q = last_one (x.peer == q && x.trusted)
trusted_push (y ∷ ss) x q = ap (λ b. (y.peer == q && y.trusted) || b) (trusted_push ss x q) ∙ one_more (y.peer == q && y.trusted) (is_trusted_source ss q) (x.peer == q && x.trusted)

-- ## The ask

-- what holds of an ask of peer q on the epoch
pub record AskSays (g : Lines) (s : State) (strings : List (List ℕ)) (d : ℕ) (scan : List Entry) (q : ℕ) (a : Asking) : Type 0 where
  pub received : EntriesSay s strings a.ask.received
  pub holds : syncs.AskHolds g s.objects d (ranks scan) q (seen_ask a)

-- the source of an ask
abbrev pub source_of : Asking → Source
source_of b = record { peer = b.peer; trusted = b.trusted; entries = b.ask.received }

-- the sync with these sources, and this ask at the place
abbrev pub with_set : Running → ℕ → Asking → List Source → Running
with_set r place b sources = record r { sync = record r.sync { sources = sources }; asks = slice_set r.asks place b }

module _ (version : TreeVersion) (g : Lines) (s : State) (strings : List (List ℕ)) (p : ℕ) (fact : Fact) (trusted : Bool) (m : List Entry) (r : Running) (old : SyncSays version g s strings p fact trusted m r) (place : ℕ) (a : Asking) (at : slice_get r.asks place ≡ Some a) where
  -- the ask as it was
  pub ask_was : AskSays g s strings (epoch_number r.fact.epoch) r.sync.scan.entries a.peer a
  ask_was = record {
    received = old.received a (at_place r.asks place a at);
    holds = subst (syncs.AskHolds g s.objects (epoch_number r.fact.epoch) (ranks r.sync.scan.entries) a.peer) (ask_in r.asks a old.distinct (at_place r.asks place a at)) (old.holds.asks a.peer);
  }

  -- the sync says what it said if the sources are those of the asks
  set_says : (b : Asking) (sources : List Source) → b.peer ≡ a.peer → AskSays g s strings (epoch_number r.fact.epoch) r.sync.scan.entries a.peer b → SourcesAre (with_set r place b sources) → SyncSays version g s strings p fact trusted m (with_set r place b sources)
  set_says b sources peer says are = record {
    me = old.me;
    trust = old.trust;
    view = old.view;
    scan = old.scan;
    positions = old.positions;
    seen = old.seen;
    distinct = subst AreDistinct (sym (set_peers r.asks place a b at peer)) old.distinct;
    others = λ x there same. others x (in_set r.asks place b x there) same;
    sources = are;
    received = λ x there. received x (in_set r.asks place b x there);
    holds = record {
      first = old.holds.first;
      stands = old.holds.stands;
      newer = old.holds.newer;
      found = old.holds.found;
      scanned = old.holds.scanned;
      whole = old.holds.whole;
      asks = λ q. subst (Holds q) (sym (ask_set r.asks place a b q old.distinct at peer)) (by_peer q (a.peer == q) refl);
    };
  }
    where
      Holds : ℕ → syncs.Asking → Type 0
      Holds q x = syncs.AskHolds g s.objects (epoch_number r.fact.epoch) (ranks r.sync.scan.entries) q x

      others : (x : Asking) → (x ≡ b) ⊎ (x ∈ r.asks) → x.peer ≡ p → ⊥
      others x (inl is) same = old.others a (at_place r.asks place a at) (sym peer ∙ ap (λ (y : Asking). y.peer) (sym is) ∙ same)
      others x (inr there) same = old.others x there same

      received : (x : Asking) → (x ≡ b) ⊎ (x ∈ r.asks) → EntriesSay s strings x.ask.received
      received x (inl is) = subst (λ (y : Asking). EntriesSay s strings y.ask.received) (sym is) says.received
      received x (inr there) = old.received x there

      by_peer : (q : ℕ) (c : Bool) → (a.peer == q) ≡ c → Holds q (if c then seen_ask b else ask_of r.asks q)
      by_peer q true same = subst (λ x. Holds x (seen_ask b)) (eqb-true a.peer q same) says.holds
      by_peer q false other = old.holds.asks q

  -- an ask that was set to itself
  pub same_says : (b : Asking) → b ≡ a → SyncSays version g s strings p fact trusted m (record r { asks = slice_set r.asks place b })
  same_says b same = subst (λ (asks : List Asking). SyncSays version g s strings p fact trusted m (record r { asks = asks })) (sym (set_itself r.asks place a b at same)) old

  module _ (waits : a.stage ≡ stages.Open) where
    -- its source has not finished
    pub no_source : is_source r.sync.sources a.peer ≡ false
    no_source = old.sources.finished a.peer ∙ ap (λ (x : syncs.Asking). syncs.is_finished x.stage) (ask_in r.asks a old.distinct (at_place r.asks place a at)) ∙ ap (λ (x : Stage). syncs.is_finished (seen_stage x)) waits

    no_trusted_source : is_trusted_source r.sync.sources a.peer ≡ false
    no_trusted_source = old.sources.flagged a.peer ∙ ap (λ (x : syncs.Asking). syncs.is_finished x.stage && x.flagged) (ask_in r.asks a old.distinct (at_place r.asks place a at)) ∙ ap (λ (x : Stage). syncs.is_finished (seen_stage x) && a.trusted) waits

    -- each source that has finished has its ask
    given_still : (b : Asking) (source : Source) → source ∈ r.sync.sources → (x : Asking) × (x ∈ slice_set r.asks place b) × (x.peer ≡ source.peer) × (source.entries ≡ x.ask.received)
    given_still b source inside = let (x, there, peer, entries) = old.sources.given source inside in by_place x peer entries (still_there r.asks place a b x at there)
      where
        by_place : (x : Asking) → x.peer ≡ source.peer → source.entries ≡ x.ask.received → (x ≡ a) ⊎ (x ∈ slice_set r.asks place b) → (y : Asking) × (y ∈ slice_set r.asks place b) × (y.peer ≡ source.peer) × (source.entries ≡ y.ask.received)
        by_place x peer entries (inl same) = absurd (not_both (subst (λ q. is_source r.sync.sources q ≡ true) (sym peer ∙ ap (λ (y : Asking). y.peer) same) (source_in r.sync.sources source inside)) no_source)
        by_place x peer entries (inr there) = (x, there, peer, entries)

    -- the ask goes on, or was dropped
    pub goes_on : (b : Asking) → b.peer ≡ a.peer → syncs.is_finished (seen_stage b.stage) ≡ false → AskSays g s strings (epoch_number r.fact.epoch) r.sync.scan.entries a.peer b → SyncSays version g s strings p fact trusted m (with_set r place b r.sync.sources)
    goes_on b peer open_still says = set_says b r.sync.sources peer says (record {
      finished = λ q. finished q (a.peer == q) refl ∙ sym (ap (λ (x : syncs.Asking). syncs.is_finished x.stage) (ask_set r.asks place a b q old.distinct at peer));
      flagged = λ q. flagged q (a.peer == q) refl ∙ sym (ap (λ (x : syncs.Asking). syncs.is_finished x.stage && x.flagged) (ask_set r.asks place a b q old.distinct at peer));
      given = given_still b;
      among = old.sources.among;
    })
      where
        finished : (q : ℕ) (c : Bool) → (a.peer == q) ≡ c → is_source r.sync.sources q ≡ syncs.is_finished (if c then seen_ask b else ask_of r.asks q).stage
        finished q true same = subst (λ x. is_source r.sync.sources x ≡ false) (eqb-true a.peer q same) no_source ∙ sym open_still
        finished q false other = old.sources.finished q

        flagged : (q : ℕ) (c : Bool) → (a.peer == q) ≡ c → is_trusted_source r.sync.sources q ≡ (syncs.is_finished (if c then seen_ask b else ask_of r.asks q).stage && (if c then seen_ask b else ask_of r.asks q).flagged)
        flagged q true same = subst (λ x. is_trusted_source r.sync.sources x ≡ false) (eqb-true a.peer q same) no_trusted_source ∙ sym (ap (λ t. t && b.trusted) open_still)
        flagged q false other = old.sources.flagged q

    -- the source of the ask has finished
    pub finishes : (b : Asking) → b.peer ≡ a.peer → b.stage ≡ stages.Finished → a.peer ∈ r.sync.view → AskSays g s strings (epoch_number r.fact.epoch) r.sync.scan.entries a.peer b → SyncSays version g s strings p fact trusted m (with_set r place b (r.sync.sources ++ source_of b ∷ []))
    finishes b peer done member says = set_says b (r.sync.sources ++ source_of b ∷ []) peer says (record {
      finished = λ q. source_push r.sync.sources (source_of b) q ∙ finished q (a.peer == q) (b.peer == q) refl (ap (λ x. x == q) peer) ∙ sym (ap (λ (x : syncs.Asking). syncs.is_finished x.stage) (ask_set r.asks place a b q old.distinct at peer));
      flagged = λ q. trusted_push r.sync.sources (source_of b) q ∙ flagged q (a.peer == q) (b.peer == q) refl (ap (λ x. x == q) peer) ∙ sym (ap (λ (x : syncs.Asking). syncs.is_finished x.stage && x.flagged) (ask_set r.asks place a b q old.distinct at peer));
      given = λ source inside. given source (in_append r.sync.sources (source_of b ∷ []) source inside);
      among = λ source inside. among source (in_append r.sync.sources (source_of b ∷ []) source inside);
    })
      where
        is_done : syncs.is_finished (seen_stage b.stage) ≡ true
        is_done = ap (λ (x : Stage). syncs.is_finished (seen_stage x)) done

        or_true : (x : Bool) → (x || true) ≡ true
        or_true x = grind arith

        or_false : (x : Bool) → (x || false) ≡ x
        or_false x = grind arith

        finished : (q : ℕ) (c d : Bool) → (a.peer == q) ≡ c → d ≡ (a.peer == q) → (is_source r.sync.sources q || d) ≡ syncs.is_finished (if c then seen_ask b else ask_of r.asks q).stage
        finished q true d same is = ap (λ x. is_source r.sync.sources q || x) (is ∙ same) ∙ or_true (is_source r.sync.sources q) ∙ sym is_done
        finished q false d other is = ap (λ x. is_source r.sync.sources q || x) (is ∙ other) ∙ or_false (is_source r.sync.sources q) ∙ old.sources.finished q

        flagged : (q : ℕ) (c d : Bool) → (a.peer == q) ≡ c → d ≡ (a.peer == q) → (is_trusted_source r.sync.sources q || (d && b.trusted)) ≡ (syncs.is_finished (if c then seen_ask b else ask_of r.asks q).stage && (if c then seen_ask b else ask_of r.asks q).flagged)
        flagged q true d same is = ap (λ x. is_trusted_source r.sync.sources q || (x && b.trusted)) (is ∙ same) ∙ ap (λ x. x || b.trusted) (subst (λ x. is_trusted_source r.sync.sources x ≡ false) (eqb-true a.peer q same) no_trusted_source) ∙ sym (ap (λ t. t && b.trusted) is_done)
        flagged q false d other is = ap (λ x. is_trusted_source r.sync.sources q || (x && b.trusted)) (is ∙ other) ∙ or_false (is_trusted_source r.sync.sources q) ∙ old.sources.flagged q

        given : (source : Source) → (source ∈ r.sync.sources) ⊎ (source ∈ (source_of b ∷ [])) → (x : Asking) × (x ∈ slice_set r.asks place b) × (x.peer ≡ source.peer) × (source.entries ≡ x.ask.received)
        given source (inl inside) = given_still b source inside
        given source (inr (inl same)) = (b, set_there r.asks place a b at, ap (λ (x : Source). x.peer) (sym same), ap (λ (x : Source). x.entries) same)
        given source (inr (inr none)) = absurd none

        among : (source : Source) → (source ∈ r.sync.sources) ⊎ (source ∈ (source_of b ∷ [])) → source.peer ∈ r.sync.view
        among source (inl inside) = old.sources.among source inside
        among source (inr (inl same)) = subst (λ q. q ∈ r.sync.view) (sym (ap (λ (x : Source). x.peer) same ∙ peer)) member
        among source (inr (inr none)) = absurd none
