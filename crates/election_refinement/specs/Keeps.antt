-- What the steps of one peer leave of the elections of others.
use Rattle.std.specs.Prelude.{◌≡◌, ◌<◌, ◌≤◌, ℕ, true, false}
use Rattle.protocol_laws.specs.Ledger.{Ledger}
use Rattle.protocol_laws.specs.Preparing.{proposer_of}

-- the steps of peer p led from ledger l to ledger m
pub record Keeps (l m : Ledger) (p : ℕ) : Type 0 where
  pub ballot : (q : ℕ) → (p ≡ q → ⊥) → m.ballot q ≡ l.ballot q
  pub fact : (q : ℕ) → (p ≡ q → ⊥) → m.fact q ≡ l.fact q
  pub rises : (q : ℕ) → l.ballot q ≤ m.ballot q
  pub elected : (d : ℕ) → l.elected d ≡ true → m.elected d ≡ true
  pub fresh : (d : ℕ) → l.elected d ≡ false → (p ≡ proposer_of d → ⊥) → m.elected d ≡ false
  pub views : (d : ℕ) → l.elected d ≡ true → m.views d ≡ l.views d
  pub accepted : (d q : ℕ) → l.accepted d q ≡ true → m.accepted d q ≡ true
  pub below : (a q : ℕ) → m.accepted a q ≡ true → a < l.ballot q → l.accepted a q ≡ true
  pub changed : (d : ℕ) → l.changed d ≡ true → m.changed d ≡ true
  pub unchanged : (d : ℕ) → l.changed d ≡ false → (p ≡ proposer_of d → ⊥) → m.changed d ≡ false
  pub change : (d : ℕ) → l.changed d ≡ true → m.change d ≡ l.change d
  pub adopted : (d q : ℕ) → l.adopted d q ≡ true → m.adopted d q ≡ true
  pub left : (a q : ℕ) → m.adopted a q ≡ true → a < l.ballot q → l.adopted a q ≡ true
