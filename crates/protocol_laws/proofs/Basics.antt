-- The plain facts about versions and syncs that each step preserves.
use Rattle.std.proofs.Common.{◌≡◌, ℕ, ◌<◌, ◌≤◌, Bool, true, false, ◌⊎◌, List, eqb, eqb-true, eq-eqb, arith, subst, refl, sym, ◌∙◌, inl, inr}
use Rattle.std.proofs.lemmas.Bool.Decides.{nat_tests}
use Rattle.std.proofs.lemmas.Bool.{false≢true}
use Rattle.quorums.specs.Quorums.{is_quorum}
use Rattle.protocol_laws.proofs.Maps.{epoch_of-zero, zero_not}
use Rattle.protocol_laws.proofs.Sound.{accept_established, join_established, elect_established}
use Rattle.protocol_laws.specs.Ledger.{Place, put, is_established, MayElect}
use Rattle.protocol_laws.specs.Objects.{Objects, opening_objects, epoch_of, MayBegin, IsNewest, MayPropose, MayAcknowledge, MaySettle}
use Rattle.protocol_laws.specs.Protocol.{Step, Begin, Ask, Raise, Elect, Accept, Commit, Adopt, Write, Acknowledge, Install, EndSync, Propose, Settle, Note, Answer, Lose, Revert, objects_after, MayDo}

pub record Basics (o : Objects) : Type 0 where
  pub acked_proposed : (v q : ℕ) → o.acked v q ≡ true → o.proposed v ≡ true
  pub acked_accepted : (v q : ℕ) → o.acked v q ≡ true → o.ledger.accepted (epoch_of v) q ≡ true
  pub led : (v : ℕ) → o.proposed v ≡ true → 0 < epoch_of v
  pub elected : (v : ℕ) → o.proposed v ≡ true → o.ledger.elected (epoch_of v) ≡ true
  pub established : (v : ℕ) → o.proposed v ≡ true → is_established o.ledger (epoch_of v) ≡ true
  pub lower : (v : ℕ) → o.proposed v ≡ true → o.parent v < v
  pub parents : (v : ℕ) → o.proposed v ≡ true → (o.parent v ≡ 0) ⊎ (o.proposed (o.parent v) ≡ true)
  pub same_key : (v : ℕ) → o.proposed v ≡ true → o.proposed (o.parent v) ≡ true → o.key (o.parent v) ≡ o.key v
  pub no_parent : o.parent 0 ≡ 0

pub record Settled (o : Objects) : Type 0 where
  pub proposed : (v : ℕ) → o.settled v ≡ true → o.proposed v ≡ true
  pub quorum : (v : ℕ) → o.settled v ≡ true → is_quorum (o.settled_by v) (o.ledger.views (epoch_of v)) ≡ true
  pub acked : (v q : ℕ) → o.settled v ≡ true → o.settled_by v q ≡ true → o.acked v q ≡ true

-- what holds of the new version, and of each old one, holds of each version
pub proposed_then : (f : ℕ → Bool) (x : ℕ) (P : ℕ → Type 0) → P x → ((v : ℕ) → (x ≡ v → ⊥) → f v ≡ true → P v) → (v : ℕ) → put f x true v ≡ true → P v
proposed_then f x P here old v h = by_cases (eqb x v) refl
  where
    by_cases : (b : Bool) → eqb x v ≡ b → P v
    by_cases true t = subst P (eqb-true x v t) here
    by_cases false t = old v (λ e. false≢true (sym t ∙ eq-eqb x v e)) (rw t at h)

elect_basics : (o : Objects) (d : ℕ) (b : Place) → MayElect o.ledger d b → Basics o → Basics (objects_after o (Elect d b))
elect_basics o d b may old = record {
  acked_proposed = old.acked_proposed;
  acked_accepted = old.acked_accepted;
  led = old.led;
  elected = λ v p. grind (arith, nat_tests, old.elected v p);
  established = λ v p. elect_established o.ledger d b (epoch_of v) may (old.elected v p) (old.established v p);
  lower = old.lower;
  parents = old.parents;
  same_key = old.same_key;
  no_parent = old.no_parent;
}

accept_basics : (o : Objects) (p d : ℕ) → Basics o → Basics (objects_after o (Accept p d))
accept_basics o p d old = record {
  acked_proposed = old.acked_proposed;
  acked_accepted = λ v q a. grind (arith, nat_tests, old.acked_accepted v q a);
  led = old.led;
  elected = old.elected;
  established = λ v h. accept_established o.ledger p d (epoch_of v) (old.established v h);
  lower = old.lower;
  parents = old.parents;
  same_key = old.same_key;
  no_parent = old.no_parent;
}

join_basics : (o : Objects) (p d : ℕ) → Basics o → Basics (objects_after o (EndSync p d))
join_basics o p d old = record {
  acked_proposed = old.acked_proposed;
  acked_accepted = λ v q a. grind (arith, nat_tests, old.acked_accepted v q a);
  led = old.led;
  elected = old.elected;
  established = λ v h. join_established o.ledger p d (epoch_of v) (old.established v h);
  lower = old.lower;
  parents = old.parents;
  same_key = old.same_key;
  no_parent = old.no_parent;
}

acknowledge_basics : (o : Objects) (p v : ℕ) → MayAcknowledge o p v → Basics o → Basics (objects_after o (Acknowledge p v))
acknowledge_basics o p v may old = record {
  acked_proposed = λ x q a. grind (arith, nat_tests, old.acked_proposed x q);
  acked_accepted = λ x q a. grind (arith, nat_tests, old.acked_accepted x q);
  led = old.led;
  elected = old.elected;
  established = old.established;
  lower = old.lower;
  parents = old.parents;
  same_key = old.same_key;
  no_parent = old.no_parent;
}

-- the parent of a new version is none, or an old version of its key
pub new_parent : (o : Objects) (v : ℕ) (k : List ℕ) (u : ℕ) → MayBegin o (epoch_of v) k u ⊎ IsNewest o (epoch_of v) k u → (u ≡ 0) ⊎ ((o.proposed u ≡ true) × (o.key u ≡ k))
new_parent o v k u (inl b) = from_genuine b.genuine
  where
    from_genuine : (u ≡ 0) ⊎ ((o.proposed u ≡ true) × (o.key u ≡ k) × (epoch_of u ≤ epoch_of v)) → (u ≡ 0) ⊎ ((o.proposed u ≡ true) × (o.key u ≡ k))
    from_genuine (inl z) = inl z
    from_genuine (inr g) = inr (g.0, g.1)
new_parent o v k u (inr n) = inr (n.proposed, n.key)

propose_basics : (o : Objects) (v : ℕ) (k : List ℕ) (u : ℕ) → MayPropose o v k u → (u ≡ 0) ⊎ ((o.proposed u ≡ true) × (o.key u ≡ k)) → (step : Objects) → step ≡ (record o { proposed = put o.proposed v true; key = put o.key v k; parent = put o.parent v u }) → Basics o →
    Basics (record o { proposed = put o.proposed v true; key = put o.key v k; parent = put o.parent v u })
propose_basics o v k u may from step same old = record {
  acked_proposed = λ x q a. grind (arith, nat_tests, old.acked_proposed x q a);
  acked_accepted = old.acked_accepted;
  led = λ x p. grind (arith, nat_tests, old.led x, may.led);
  elected = λ x p. grind (arith, nat_tests, old.elected x, may.elected);
  established = proposed_then o.proposed v (λ x. is_established o.ledger (epoch_of x) ≡ true) may.established (λ x n p. old.established x p);
  lower = λ x p. grind (arith, nat_tests, old.lower x, may.lower);
  parents = proposed_then o.proposed v (λ x. (put o.parent v u x ≡ 0) ⊎ (put o.proposed v true (put o.parent v u x) ≡ true)) (here from) (λ x n p. other x n (old.parents x p));
  same_key = proposed_then o.proposed v (λ x. put o.proposed v true (put o.parent v u x) ≡ true → put o.key v k (put o.parent v u x) ≡ put o.key v k x) (key_here from) (λ x n p. key_other x n p (old.parents x p) (old.same_key x p) (old.lower x p));
  no_parent = zero_other (zero_not v may.led) old.no_parent;
}
  where
    zero_other : (v ≡ 0 → ⊥) → o.parent 0 ≡ 0 → put o.parent v u 0 ≡ 0
    zero_other n h = grind (arith, nat_tests)

    here : (u ≡ 0) ⊎ ((o.proposed u ≡ true) × (o.key u ≡ k)) → (put o.parent v u v ≡ 0) ⊎ (put o.proposed v true (put o.parent v u v) ≡ true)
    here (inl z) = inl (grind (arith, nat_tests))
    here (inr g) = inr (grind (arith, nat_tests, g.0))

    other : (x : ℕ) → (v ≡ x → ⊥) → (o.parent x ≡ 0) ⊎ (o.proposed (o.parent x) ≡ true) → (put o.parent v u x ≡ 0) ⊎ (put o.proposed v true (put o.parent v u x) ≡ true)
    other x n (inl z) = inl (grind (arith, nat_tests))
    other x n (inr g) = inr (grind (arith, nat_tests))

    zero_fresh : put o.proposed v true 0 ≡ true → ⊥
    zero_fresh h = grind (arith, nat_tests, old.led 0, zero_not v may.led, epoch_of-zero)

    key_here : (u ≡ 0) ⊎ ((o.proposed u ≡ true) × (o.key u ≡ k)) → put o.proposed v true (put o.parent v u v) ≡ true → put o.key v k (put o.parent v u v) ≡ put o.key v k v
    key_here (inl z) h = grind (arith, nat_tests, may.lower)
    key_here (inr g) h = grind (arith, nat_tests, g.1, may.fresh, g.0)

    key_other : (x : ℕ) → (v ≡ x → ⊥) → o.proposed x ≡ true → (o.parent x ≡ 0) ⊎ (o.proposed (o.parent x) ≡ true) → (o.proposed (o.parent x) ≡ true → o.key (o.parent x) ≡ o.key x) → o.parent x < x →
        put o.proposed v true (put o.parent v u x) ≡ true → put o.key v k (put o.parent v u x) ≡ put o.key v k x
    key_other x n px (inl z) same low h = absurd (zero_fresh (grind (arith, nat_tests)))
    key_other x n px (inr g) same low h = grind (arith, nat_tests, may.fresh, same g)

pub basics_step : (o : Objects) (e : Step) → MayDo o e → Basics o → Basics (objects_after o e)
basics_step o (Elect d b) may old = elect_basics o d b may old
basics_step o (Accept p d) may old = accept_basics o p d old
basics_step o (EndSync p d) may old = join_basics o p d old
basics_step o (Propose v k u s x c) may old = propose_basics o v k u may (new_parent o v k u may.from) (objects_after o (Propose v k u s x c)) refl old
basics_step o (Acknowledge p v) may old = acknowledge_basics o p v may old
basics_step o Begin may old = old
basics_step o (Ask c) may old = old
basics_step o (Raise p d) may old = assumption
basics_step o (Commit d c) may old = assumption
basics_step o (Adopt p d) may old = assumption
basics_step o (Write p v) may old = assumption
basics_step o (Install p d m) may old = assumption
basics_step o (Settle v) may old = assumption
basics_step o (Note i k u d) may old = old
basics_step o (Answer i r) may old = old
basics_step o (Lose p) may old = assumption
basics_step o (Revert p m) may old = assumption

-- ## Settled versions

elect_settled : (o : Objects) (d : ℕ) (b : Place) → MayElect o.ledger d b → Basics o → Settled o → Settled (objects_after o (Elect d b))
elect_settled o d b may basics old = record { proposed = old.proposed; quorum = λ v h. still v (basics.elected v (old.proposed v h)) (old.quorum v h); acked = old.acked }
  where
    still : (v : ℕ) → o.ledger.elected (epoch_of v) ≡ true → is_quorum (o.settled_by v) (o.ledger.views (epoch_of v)) ≡ true → is_quorum (o.settled_by v) ((objects_after o (Elect d b)).ledger.views (epoch_of v)) ≡ true
    still v e q = grind (arith, nat_tests, may.fresh)

settle_settled : (o : Objects) (x : ℕ) → MaySettle o x → Settled o → Settled (objects_after o (Settle x))
settle_settled o x may old = record {
  proposed = λ v h. grind (arith, nat_tests, old.proposed v, may.proposed);
  quorum = λ v h. by_cases v (eqb x v) refl h;
  acked = λ v q h s. grind (arith, nat_tests, old.acked v q);
}
  where
    by_cases : (v : ℕ) (b : Bool) → eqb x v ≡ b → put o.settled x true v ≡ true → is_quorum (put o.settled_by x (o.acked x) v) (o.ledger.views (epoch_of v)) ≡ true
    by_cases v true t h = let e = eqb-true x v t in rw t (subst (λ y. is_quorum (o.acked x) (o.ledger.views (epoch_of y)) ≡ true) e may.quorum)
    by_cases v false t h = rw t (old.quorum v (rw t at h))

pub settled_step : (o : Objects) (e : Step) → MayDo o e → Basics o → Settled o → Settled (objects_after o e)
settled_step o (Elect d b) may basics old = elect_settled o d b may basics old
settled_step o (Settle v) may basics old = settle_settled o v may old
settled_step o (Propose v k u s x c) may basics old = record { proposed = λ y h. grind (arith, nat_tests, old.proposed y h); quorum = old.quorum; acked = old.acked }
settled_step o (Acknowledge p v) may basics old = record { proposed = old.proposed; quorum = old.quorum; acked = λ y q h s. grind (arith, nat_tests, old.acked y q h s) }
settled_step o Begin may basics old = old
settled_step o (Ask c) may basics old = old
settled_step o (Raise p d) may basics old = assumption
settled_step o (Accept p d) may basics old = assumption
settled_step o (Commit d c) may basics old = assumption
settled_step o (Adopt p d) may basics old = assumption
settled_step o (Write p v) may basics old = assumption
settled_step o (Install p d m) may basics old = assumption
settled_step o (EndSync p d) may basics old = assumption
settled_step o (Note i k u d) may basics old = old
settled_step o (Answer i r) may basics old = old
settled_step o (Lose p) may basics old = assumption
settled_step o (Revert p m) may basics old = assumption

pub opening_basics : (view : List ℕ) → Basics (opening_objects view)
opening_basics view = record {
  acked_proposed = λ v q h. h;
  acked_accepted = λ v q h. absurd (false≢true h);
  led = λ v h. absurd (false≢true h);
  elected = λ v h. absurd (false≢true h);
  established = λ v h. absurd (false≢true h);
  lower = λ v h. absurd (false≢true h);
  parents = λ v h. absurd (false≢true h);
  same_key = λ v h. absurd (false≢true h);
  no_parent = refl;
}

pub opening_settled : (view : List ℕ) → Settled (opening_objects view)
opening_settled view = record { proposed = λ v h. h; quorum = λ v h. absurd (false≢true h); acked = λ v q h. absurd (false≢true h) }
