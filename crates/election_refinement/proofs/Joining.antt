-- A sync may end in each state of a run: a majority of the old view reached the epoch before it was
-- elected, and the greatest versions that these peers showed there make a map.
use Rattle.std.proofs.Common.{◌≡◌, ℕ, ◌<◌, ◌≤◌, Bool, true, false, ◌&&◌, ◌==◌, if◌then◌else◌, List, [], ◌∷◌, length, inl, inr, ◌⊎◌, arith, refl, ap, le_trans, ◌∙◌, sym, subst}
use Rattle.std.specs.Prelude.{nat_lt, min, max}
use Rattle.std.proofs.lemmas.Bool.{and_parts}
use Rattle.std.proofs.lemmas.Bool.Decides.{nat_tests}
use Rattle.protocol_laws.specs.Ledger.{Ledger, Change, Add, Drop, changed_views}
use Rattle.protocol_laws.specs.Objects.{Map, Objects, IsGenuine, floor_after, install, MayInstall, MayEndSync}
use Rattle.protocol_laws.specs.Protocol.{Step, Begin, Ask, Raise, Install, EndSync, Note, Answer, MayDo, objects_after, IsRun, state_after}
use Rattle.protocol_laws.proofs.Epochs.{not_empty}
use Rattle.protocol_laws.proofs.Sound.{Election, Sound, run_sound}
use Rattle.protocol_laws.specs.Elections.{Follows}
use Rattle.ens_base.specs.Lists.{◌∈◌}
use Rattle.ens_base.specs.Views.{last_view}
use Rattle.quorums.specs.Quorums.{is_majority, is_quorum}
use Rattle.protocol_laws.proofs.Maps.{put_here}
use Rattle.protocol_laws.proofs.Sources.{synced_by}
use Rattle.protocol_laws.proofs.Stays.{versions_step, genuine_stays}
use Rattle.protocol_laws.proofs.Trees.{run_versions, genuine_higher}
use Rattle.protocol_laws.specs.Versions.{Genuine, IsSource}

-- ## Floors are genuine

-- each floor holds proposed versions of its key, of an epoch that is not greater
abbrev FloorsAreGenuine : Objects → Type 0
FloorsAreGenuine o = (q d : ℕ) (k : List ℕ) → IsGenuine o d k (o.floor q d k)

raised_floor : (o : Objects) (p d : ℕ) → Genuine o → FloorsAreGenuine o → (q e : ℕ) (k : List ℕ) → IsGenuine o e k (floor_after o p q e k)
raised_floor o p d genuine old q e k = by_place ((p == q) && nat_lt (o.ledger.ballot p) e) refl
  where
    above : (p q : ℕ) (ballot : ℕ → ℕ) → ((p == q) && nat_lt (ballot p) e) ≡ true → ballot q ≤ e
    above p q ballot h = grind (arith, nat_tests)

    by_place : (b : Bool) → ((p == q) && nat_lt (o.ledger.ballot p) e) ≡ b → IsGenuine o e k (if b then o.map q k else o.floor q e k)
    by_place true h = genuine_higher o (o.ledger.ballot q) e k (o.map q k) (above p q o.ledger.ballot h) (genuine.written q k)
    by_place false h = old q e k

installed_floor : (o : Objects) (p d : ℕ) (merged : Map) → ((k : List ℕ) → IsGenuine o d k (merged k)) → FloorsAreGenuine o → (q e : ℕ) (k : List ℕ) → IsGenuine o e k ((install o p d merged).floor q e k)
installed_floor o p d merged genuine old q e k = by_place ((p == q) && (d == e)) refl
  where
    same : (p q d e : ℕ) → ((p == q) && (d == e)) ≡ true → d ≡ e
    same p q d e h = grind (arith, nat_tests)

    either : (a b : ℕ) → (min a b ≡ a) ⊎ (min a b ≡ b)
    either a b = grind (arith, nat_tests)

    lesser : (min (o.floor q e k) (merged k) ≡ o.floor q e k) ⊎ (min (o.floor q e k) (merged k) ≡ merged k) → IsGenuine o e k (merged k) → IsGenuine o e k (min (o.floor q e k) (merged k))
    lesser (inl is) new = subst (IsGenuine o e k) (sym is) (old q e k)
    lesser (inr is) new = subst (IsGenuine o e k) (sym is) new

    by_place : (b : Bool) → ((p == q) && (d == e)) ≡ b → IsGenuine o e k (if b then min (o.floor q e k) (merged k) else o.floor q e k)
    by_place true h = lesser (either (o.floor q e k) (merged k)) (subst (λ x. IsGenuine o x k (merged k)) (same p q d e h) (genuine k))
    by_place false h = old q e k

floors_step : (o : Objects) (e : Step) → MayDo o e → Genuine o → FloorsAreGenuine o → FloorsAreGenuine (objects_after o e)
floors_step o (Raise p d) may genuine old = λ q e k. genuine_stays o (objects_after o (Raise p d)) (versions_step o (Raise p d) may) e k (floor_after o p q e k) (raised_floor o p d genuine old q e k)
floors_step o (Install p d merged) may genuine old = λ q e k. genuine_stays o (objects_after o (Install p d merged)) (versions_step o (Install p d merged) may) e k ((install o p d merged).floor q e k) (installed_floor o p d merged may.genuine old q e k)
floors_step o Begin may genuine old = old
floors_step o (Ask c) may genuine old = old
floors_step o (Note i k u d) may genuine old = old
floors_step o (Answer i r) may genuine old = old
floors_step o e may genuine old = λ q d k. genuine_stays o (objects_after o e) (versions_step o e may) d k (o.floor q d k) (old q d k)

floors_are_genuine : (view : List ℕ) (steps : List Step) → IsRun view steps → FloorsAreGenuine (state_after view steps).objects
floors_are_genuine view [] run = λ q d k. inl refl
floors_are_genuine view (e ∷ steps) run = floors_step (state_after view steps).objects e run.1.0 (run_versions view steps run.0).genuine (floors_are_genuine view steps run.0)

-- ## A majority of the old view

last_of_quorum : (s : ℕ → Bool) (views : List (List ℕ)) → 0 < length views → is_quorum s views ≡ true → is_majority s (last_view views) ≡ true
last_of_quorum s [] some quorum = absurd (omega arith)
last_of_quorum s (view ∷ []) some quorum = (and_parts (is_majority s view) true quorum).0
last_of_quorum s (view ∷ old ∷ rest) some quorum = (and_parts (is_majority s old) (is_quorum s rest) (and_parts (is_majority s view) (is_quorum s (old ∷ rest)) quorum).1).0

last_of_changed : (s : ℕ → Bool) (change : Change) (views : List (List ℕ)) → 0 < length views → is_quorum s views ≡ true → is_majority s (last_view (changed_views change views)) ≡ true
last_of_changed s change [] some quorum = absurd (omega arith)
last_of_changed s (Add new) (view ∷ []) some quorum = last_of_quorum s (view ∷ []) some quorum
last_of_changed s (Add new) (view ∷ old ∷ rest) some quorum = last_of_quorum s (view ∷ old ∷ rest) some quorum
last_of_changed s Drop (view ∷ []) some quorum = last_of_quorum s (view ∷ []) some quorum
last_of_changed s Drop (view ∷ old ∷ []) some quorum = (and_parts (is_majority s view) (is_quorum s (old ∷ [])) quorum).0
last_of_changed s Drop (view ∷ old ∷ other ∷ rest) some quorum = last_of_quorum s (view ∷ old ∷ other ∷ rest) some quorum

last_of_follower : (l : Ledger) (d b : ℕ) (s : ℕ → Bool) → Follows l d b → 0 < length (l.views b) → is_quorum s (l.views b) ≡ true → is_majority s (last_view (l.views d)) ≡ true
last_of_follower l d b s (inl same) some quorum = subst (λ views. is_majority s (last_view views) ≡ true) (sym same) (last_of_quorum s (l.views b) some quorum)
last_of_follower l d b s (inr changed) some quorum = subst (λ views. is_majority s (last_view views) ≡ true) (sym changed.1) (last_of_changed s (l.change b) (l.views b) some quorum)

-- ## The greatest of some numbers

greatest : (ℕ → ℕ) → List ℕ → ℕ
greatest f [] = 0
greatest f (q ∷ qs) = max (f q) (greatest f qs)

at_most_greatest : (f : ℕ → ℕ) (qs : List ℕ) (q : ℕ) → q ∈ qs → f q ≤ greatest f qs
unfolding greatest
at_most_greatest f [] q at = absurd at
at_most_greatest f (x ∷ qs) q (inl same) = subst (λ y. f y ≤ max (f x) (greatest f qs)) (sym same) (first (f x) (greatest f qs))
  where
    first : (a b : ℕ) → a ≤ max a b
    first a b = grind (arith, nat_tests)
at_most_greatest f (x ∷ qs) q (inr at) = le_trans (at_most_greatest f qs q at) (second (f x) (greatest f qs))
  where
    second : (a b : ℕ) → b ≤ max a b
    second a b = grind (arith, nat_tests)

of_greatest : (P : ℕ → Type 0) (f : ℕ → ℕ) (qs : List ℕ) → P 0 → ((q : ℕ) → P (f q)) → P (greatest f qs)
unfolding greatest
of_greatest P f [] none each = none
of_greatest P f (x ∷ qs) none each = by_order (of_greatest P f qs none each) (either (f x) (greatest f qs))
  where
    either : (a b : ℕ) → (max a b ≡ a) ⊎ (max a b ≡ b)
    either a b = grind (arith, nat_tests)

    by_order : P (greatest f qs) → (max (f x) (greatest f qs) ≡ f x) ⊎ (max (f x) (greatest f qs) ≡ greatest f qs) → P (max (f x) (greatest f qs))
    by_order rest (inl is) = subst P (sym is) (each x)
    by_order rest (inr is) = subst P (sym is) rest

-- ## The end of a sync

-- the peer may accept the epoch by ending a sync whose merged map this is
pub record Joins (view : List ℕ) (steps : List Step) (p d : ℕ) : Type 0 where
  pub merged : Map
  pub run : IsRun view (EndSync p d ∷ Install p d merged ∷ steps)

module _ (o : Objects) (sound : Sound o.ledger) (genuine : FloorsAreGenuine o) (p d : ℕ) (later : 0 < d) (elected : o.ledger.elected d ≡ true) (stands : o.ledger.ballot p ≡ d) (newer : (o.ledger.fact p).epoch < d) where
  abbrev election : Election o.ledger d
  election = sound.elections d elected later

  -- for each key the greatest floor at this epoch in the old view
  abbrev shown : Map
  shown k = greatest (λ q. o.floor q d k) (last_view (o.ledger.views d))

  majority : is_majority election.voters (last_view (o.ledger.views d)) ≡ true
  majority = last_of_follower o.ledger d (o.ledger.base d).epoch election.voters election.follows (not_empty o.ledger sound (o.ledger.base d).epoch election.listed) election.quorum

  sources : (q : ℕ) → q ∈ last_view (o.ledger.views d) → election.voters q ≡ true → IsSource o d shown q
  sources q at voted = record { reached = election.reached q voted; given = λ k. at_most_greatest (λ r. o.floor r d k) (last_view (o.ledger.views d)) q at }

  may_install : MayInstall o p d shown
  may_install = record {
    elected = elected;
    stands = stands;
    newer = newer;
    synced = synced_by o d shown election.voters majority sources;
    genuine = λ k. of_greatest (IsGenuine o d k) (λ q. o.floor q d k) (last_view (o.ledger.views d)) (inl refl) (λ q. genuine q d k);
  }

  abbrev next : Objects
  next = install o p d shown

  floor_falls : (q : ℕ) (k : List ℕ) → next.floor q d k ≤ o.floor q d k
  floor_falls q k = falls ((p == q) && (d == d)) (o.floor q d k) (shown k)
    where
      falls : (b : Bool) (x y : ℕ) → (if b then min x y else x) ≤ x
      falls true x y = grind (arith, nat_tests)
      falls false x y = omega arith

  abbrev written : Map
  written = next.map p

  same_map : (k : List ℕ) → written k ≡ shown k
  same_map k = ap (λ (m : Map). m k) (put_here o.map p shown)

  sources_after : (q : ℕ) → q ∈ last_view (o.ledger.views d) → election.voters q ≡ true → IsSource next d written q
  sources_after q at voted = record { reached = election.reached q voted; given = λ k. subst (λ v. next.floor q d k ≤ v) (sym (same_map k)) (le_trans (floor_falls q k) ((sources q at voted).given k)) }

  may_end : MayEndSync next p d
  may_end = record {
    honest = λ k. ap (λ (m : Map). m k) (put_here o.visible p shown) ∙ sym (same_map k);
    synced = synced_by next d written election.voters majority sources_after;
  }

pub joins_after : (view : List ℕ) (steps : List Step) → IsRun view steps → (p d : ℕ) → 0 < d → (state_after view steps).objects.ledger.elected d ≡ true → (state_after view steps).objects.ledger.ballot p ≡ d
    → ((state_after view steps).objects.ledger.fact p).epoch < d → Joins view steps p d
joins_after view steps run p d later elected stands newer =
    let o = (state_after view steps).objects in
    let sound = run_sound view steps run in
    let genuine = floors_are_genuine view steps run in
    record {
      merged = shown o sound genuine p d later elected stands newer;
      run = ((run, (may_install o sound genuine p d later elected stands newer, tt)), ((record { elected = elected; stands = stands; newer = newer }, may_end o sound genuine p d later elected stands newer), tt));
    }
