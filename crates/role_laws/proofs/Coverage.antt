-- What is covered in a sync, and what it merges.
use Rattle.std.proofs.Common.{◌≡◌, ℕ, ◌<◌, ◌≤◌, Bool, true, false, ◌&&◌, ◌||◌, not, max, ◌⊎◌, List, [], ◌∷◌, eqb, eqb-true, arith, refl, sym, inl, inr, subst, le_trans}
use Rattle.std.specs.Prelude.{if◌then◌else◌}
use Rattle.std.proofs.lemmas.Bool.Decides.{nat_tests}
use Rattle.std.proofs.lemmas.Bool.{and_parts, cases_order}
use Rattle.ens_base.specs.Lists.{◌∈◌}
use Rattle.ens_base.specs.Views.{last_view}
use Rattle.quorums.specs.Quorums.{is_majority}
use Rattle.protocol_laws.proofs.Epochs.{not_both}
use Rattle.protocol_laws.proofs.Sources.{synced_by}
use Rattle.protocol_laws.specs.Versions.{IsSource}
use Rattle.protocol_laws.specs.Objects.{Map, Objects, IsGenuine, IsSynced}
use Rattle.role_laws.specs.Facts.{Fact, Lines, AreFirm}
use Rattle.role_laws.specs.Trees.{Tree}
use Rattle.role_laws.specs.Syncs.{Stage, Asking, Sync, Covered, AskHolds, SyncHolds, IsOver, is_finished, new_ask, sources_of, given_by, gathered, merged_of, has_finished, is_sure}
use Rattle.role_laws.specs.Exchange.{Counts}
use Rattle.role_laws.specs.SyncMessages.{GiveSays}

-- ## One ask

covered_none : (a : Asking) (scan : Map) (k : List ℕ) (v : ℕ) → v ≡ 0 → Covered a scan k v
covered_none a scan k v z none = rw z (omega arith)

pub max_more : (a b c : ℕ) → a ≤ b → max a c ≤ max b c
max_more a b c l = grind (arith, nat_tests)

pub max_left : (a b : ℕ) → a ≤ max a b
max_left a b = grind (arith, nat_tests)

pub max_right : (a b : ℕ) → b ≤ max a b
max_right a b = grind (arith, nat_tests)

pub max_least : (a b c : ℕ) → a ≤ c → b ≤ c → max a b ≤ c
max_least a b c l m = grind (arith, nat_tests)

both_flags : (a flag firm : Bool) → ((a && flag) || firm) ≡ true → ((a || firm) ≡ true) × ((flag || firm) ≡ true)
both_flags a flag firm h = (grind arith, grind arith)

genuine_one_of : (o : Objects) (d : ℕ) (k : List ℕ) (a b v : ℕ) → IsGenuine o d k a → IsGenuine o d k b → (v ≡ a) ⊎ (v ≡ b) → IsGenuine o d k v
genuine_one_of o d k a b v g h (inl e) = rw e g
genuine_one_of o d k a b v g h (inr e) = rw e h

pub give_counts : (g : Lines) (o : Objects) (d : ℕ) (scan : Map) (q : ℕ) (flag : Bool) (shown : Map) (a b : Asking) → GiveSays g o q d flag shown → Counts shown scan flag a b → AskHolds g o d scan q a → AskHolds g o d scan q b
give_counts g o d scan q flag shown a b says counts old = record {
  genuine = λ k. genuine_one_of o d k (a.received k) (shown k) (b.received k) (old.genuine k) (says.genuine k) (counts.from k);
  reached = λ k none. says.reached;
  covered = λ sure k. covered k (o.floor q d k) ((says.given (flags sure).1) k) (old.covered (flags sure).0 k);
  done = counts.done;
}
  where
    covered : (k : List ℕ) (v : ℕ) → v ≤ shown k → Covered a scan k v → Covered b scan k v
    covered k v l c = by_some (cases_order 0 v)
      where
        by_some : (0 ≡ v) ⊎ ((0 < v) ⊎ (v < 0)) → Covered b scan k v
        by_some (inl z) = covered_none b scan k v (sym z)
        by_some (inr (inl some)) = counts.keeps k v some l c
        by_some (inr (inr n)) = absurd (omega arith)

    flags : (b.flagged || g.firm q) ≡ true → ((a.flagged || g.firm q) ≡ true) × ((flag || g.firm q) ≡ true)
    flags sure = both_flags a.flagged flag (g.firm q) (subst (λ x. (x || g.firm q) ≡ true) counts.flagged sure)

-- nothing is counted yet: before the first give, and after a drop
pub new_ask_holds : (g : Lines) (o : Objects) (d : ℕ) (scan : Map) (q : ℕ) (stage : Stage) → is_finished stage ≡ false → AskHolds g o d scan q (new_ask stage)
new_ask_holds g o d scan q stage waits = record {
  genuine = λ k. inl refl;
  reached = λ k none. absurd (not_both refl none);
  covered = λ sure k none. absurd (not_both refl none);
  done = λ e. absurd (not_both e waits);
}

-- ## What is merged

pub scan_below : (y : Sync) (view : List ℕ) (k : List ℕ) → y.scan.entries k ≤ gathered y view k
scan_below y [] k = omega arith
scan_below y (q ∷ rest) k = le_trans (scan_below y rest k) (max_right (given_by y q k) (gathered y rest k))

given_here : (y : Sync) (q : ℕ) (k : List ℕ) → is_finished (y.asks q).stage ≡ true → (y.asks q).received k ≤ given_by y q k
given_here y q k e = rw e (omega arith)

pub given_below : (y : Sync) (view : List ℕ) (q : ℕ) (k : List ℕ) → q ∈ view → is_finished (y.asks q).stage ≡ true → (y.asks q).received k ≤ gathered y view k
given_below y [] q k at e = absurd at
given_below y (x ∷ rest) q k (inl same) e = le_trans (given_here y q k e) (subst (λ z. given_by y q k ≤ max (given_by y z k) (gathered y rest k)) same (max_left (given_by y q k) (gathered y rest k)))
given_below y (x ∷ rest) q k (inr at) e = le_trans (given_below y rest q k at e) (max_right (given_by y x k) (gathered y rest k))

max_genuine : (o : Objects) (d : ℕ) (k : List ℕ) (a b : ℕ) → IsGenuine o d k a → IsGenuine o d k b → IsGenuine o d k (max a b)
max_genuine o d k a b g h = genuine_one_of o d k a b (max a b) g h (one_of a b)
  where
    one_of : (a b : ℕ) → (max a b ≡ a) ⊎ (max a b ≡ b)
    one_of a b = grind (arith, nat_tests)

module _ (g : Lines) (o : Objects) (p : ℕ) (fact : Fact) (t : Tree) (trusted : Bool) (y : Sync) (old : SyncHolds g o p fact t trusted y) (stands : o.ledger.ballot p ≡ fact.ballot) where
  given_genuine : (q : ℕ) (k : List ℕ) → IsGenuine o y.fact.epoch k (given_by y q k)
  given_genuine q k = by_stage (is_finished (y.asks q).stage)
    where
      by_stage : (b : Bool) → IsGenuine o y.fact.epoch k (if b then (y.asks q).received k else 0)
      by_stage true = (old.asks q).genuine k
      by_stage false = inl refl

  pub gathered_genuine : (view : List ℕ) (k : List ℕ) → IsGenuine o y.fact.epoch k (gathered y view k)
  gathered_genuine [] k = old.scanned k
  gathered_genuine (q ∷ rest) k = max_genuine o y.fact.epoch k (given_by y q k) (gathered y rest k) (given_genuine q k) (gathered_genuine rest k)

  -- what a source that has finished showed is merged
  source_of : (q : ℕ) → q ∈ sources_of y → is_finished (y.asks q).stage ≡ true → ((y.asks q).flagged || g.firm q) ≡ true → IsSource o y.fact.epoch (merged_of y) q
  source_of q at done sure = record {
    reached = (old.asks q).reached [] ((old.asks q).done done []);
    given = λ k. le_trans ((old.asks q).covered sure k ((old.asks q).done done k)) (max_least ((y.asks q).received k) (y.scan.entries k) (merged_of y k) (given_below y (sources_of y) q k at done) (scan_below y (sources_of y) k));
  }

  -- so is the own map where the scan met no damage
  source_here : y.scan.damaged ≡ false → (trusted || g.firm p) ≡ true → IsSource o y.fact.epoch (merged_of y) p
  source_here none sure = record { reached = same (o.ledger.ballot p) y.fact.epoch fact.ballot stands old.stands; given = λ k. le_trans (old.whole none sure k) (scan_below y (sources_of y) k) }
    where
      same : (a d b : ℕ) → a ≡ b → d ≡ b → d ≤ a
      same a d b e f = omega arith

  sure_source : (q : ℕ) → q ∈ sources_of y → is_sure p trusted y q ≡ true → IsSource o y.fact.epoch (merged_of y) q
  sure_source q at sure = by_peer (eqb p q) refl sure
    where
      by_peer : (b : Bool) → eqb p q ≡ b → (if b then trusted && not y.scan.damaged else is_finished (y.asks q).stage && (y.asks q).flagged) ≡ true → IsSource o y.fact.epoch (merged_of y) q
      by_peer true e h = subst (IsSource o y.fact.epoch (merged_of y)) (eqb-true p q e) (source_here (undamaged trusted y.scan.damaged h) (own trusted y.scan.damaged (g.firm p) h))
        where
          undamaged : (t d : Bool) → (t && not d) ≡ true → d ≡ false
          undamaged t d h = grind arith

          own : (t d f : Bool) → (t && not d) ≡ true → (t || f) ≡ true
          own t d f h = grind arith
      by_peer false e h = let parts = and_parts (is_finished (y.asks q).stage) (y.asks q).flagged h in source_of q at parts.0 (either (y.asks q).flagged (g.firm q) parts.1)
        where
          either : (a b : Bool) → a ≡ true → (a || b) ≡ true
          either a b h = grind arith

  firm_source : (q : ℕ) → q ∈ sources_of y → has_finished p y q ≡ true → g.firm q ≡ true → IsSource o y.fact.epoch (merged_of y) q
  firm_source q at done firm = by_peer (eqb p q) refl done
    where
      either : (a b : Bool) → b ≡ true → (a || b) ≡ true
      either a b h = grind arith

      by_peer : (b : Bool) → eqb p q ≡ b → (if b then not y.scan.damaged else is_finished (y.asks q).stage) ≡ true → IsSource o y.fact.epoch (merged_of y) q
      by_peer true e h = subst (IsSource o y.fact.epoch (merged_of y)) (eqb-true p q e) (source_here (undamaged y.scan.damaged h) (either trusted (g.firm p) (subst (λ x. g.firm x ≡ true) (back p q e) firm)))
        where
          undamaged : (d : Bool) → not d ≡ true → d ≡ false
          undamaged d h = grind arith

          back : (p q : ℕ) → eqb p q ≡ true → q ≡ p
          back p q e = grind (arith, nat_tests)
      by_peer false e h = source_of q at h (either (y.asks q).flagged (g.firm q) firm)

  -- ## Both endings

  pub synced : AreFirm g → sources_of y ∈ g.voting → (sources_of y ≡ last_view (o.ledger.views y.fact.epoch)) → IsOver p trusted y → IsSynced o y.fact.epoch (merged_of y)
  synced firm votes same (inl most) = synced_by o y.fact.epoch (merged_of y) (is_sure p trusted y) (subst (λ v. is_majority (is_sure p trusted y) v ≡ true) same most) (λ q at sure. sure_source q (subst (λ v. q ∈ v) (sym same) at) sure)
  synced firm votes same (inr all) = synced_by o y.fact.epoch (merged_of y) g.firm (subst (λ v. is_majority g.firm v ≡ true) same (firm (sources_of y) votes)) (λ q at solid. let here = subst (λ v. q ∈ v) (sym same) at in firm_source q here (all q here) solid)
