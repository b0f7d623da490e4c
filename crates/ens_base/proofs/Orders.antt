-- The order of numbers, epochs and versions.
use Rattle.std.proofs.Common.{◌≡◌, ℕ, suc, ◌+◌, ◌*◌, ◌^◌, ◌<◌, ◌⊎◌, true, arith, inl, inr, refl, sym, ap, ◌∙◌}
use Rattle.std.proofs.lemmas.Bool.{cases_order}
use Rattle.std.proofs.lemmas.Bool.Decides.{nat_tests}
use Rattle.std.proofs.lemmas.Cmp.{then_total, on_total, nat_cmp_total}
use Rattle.std.specs.Cmp.{IsTotalOrder}
use Rattle.std.specs.FinMap.{nat_cmp-IsAntisymmetric}
use Rattle.std.specs.Ordering.{nat_cmp, on, ordering_then, then_cmp}
use Rattle.std.specs.declared.cmp.Ordering.{Ordering}
use Rattle.std.specs.declared.cmp.Ordering.TheVariants.{Less, Equal, Greater}
use Rattle.ens_base.specs.Epochs.{epoch_cmp, version_cmp, same_version}
use Rattle.ens_base.specs.declared.epoch.Epoch.{Epoch}
use Rattle.ens_base.specs.declared.epoch.Version.{Version}

-- ## Numbers, and pairs of numbers as one number

pub cmp_less : (a b : ℕ) → a < b → nat_cmp a b ≡ Less
cmp_less a b h = grind (arith, nat_tests)

pub cmp_equal : (a b : ℕ) → a ≡ b → nat_cmp a b ≡ Equal
cmp_equal a b h = grind (arith, nat_tests)

pub cmp_greater : (a b : ℕ) → b < a → nat_cmp a b ≡ Greater
cmp_greater a b h = grind (arith, nat_tests)

-- two pairs of numbers compare by the first part, then by the second
pub then_by : (a b x y m n : ℕ) → (a ≡ b → x ≡ y → m ≡ n) → (a ≡ b → x < y → m < n) → (a ≡ b → y < x → n < m) → (a < b → m < n) → (b < a → n < m) → ordering_then (nat_cmp a b) (nat_cmp x y) ≡ nat_cmp m n
then_by a b x y m n same less more below above = by_first (cases_order a b)
  where
    first : (o : Ordering) → nat_cmp a b ≡ o → ordering_then (nat_cmp a b) (nat_cmp x y) ≡ ordering_then o (nat_cmp x y)
    first o e = ap (λ (p : Ordering). ordering_then p (nat_cmp x y)) e

    by_second : a ≡ b → (x ≡ y) ⊎ ((x < y) ⊎ (y < x)) → nat_cmp x y ≡ nat_cmp m n
    by_second e (inl f) = cmp_equal x y f ∙ sym (cmp_equal m n (same e f))
    by_second e (inr (inl f)) = cmp_less x y f ∙ sym (cmp_less m n (less e f))
    by_second e (inr (inr f)) = cmp_greater x y f ∙ sym (cmp_greater m n (more e f))

    by_first : (a ≡ b) ⊎ ((a < b) ⊎ (b < a)) → ordering_then (nat_cmp a b) (nat_cmp x y) ≡ nat_cmp m n
    by_first (inl e) = first Equal (cmp_equal a b e) ∙ by_second e (cases_order x y)
    by_first (inr (inl f)) = first Less (cmp_less a b f) ∙ sym (cmp_less m n (below f))
    by_first (inr (inr f)) = first Greater (cmp_greater a b f) ∙ sym (cmp_greater m n (above f))

pub epochs_compared : (a b x y : ℕ) → x < 2 ^ 32 → y < 2 ^ 32 → ordering_then (nat_cmp a b) (nat_cmp x y) ≡ nat_cmp (a * 2 ^ 32 + x) (b * 2 ^ 32 + y)
epochs_compared a b x y h k = then_by a b x y (a * 2 ^ 32 + x) (b * 2 ^ 32 + y) (λ e f. omega arith) (λ e f. omega arith) (λ e f. omega arith) (λ f. omega arith) (λ f. omega arith)

pub ranks_compared : (a b x y : ℕ) → x < 2 ^ 64 → y < 2 ^ 64 → ordering_then (nat_cmp a b) (nat_cmp x y) ≡ nat_cmp (suc (a * 2 ^ 64 + x)) (suc (b * 2 ^ 64 + y))
ranks_compared a b x y h k = then_by a b x y (suc (a * 2 ^ 64 + x)) (suc (b * 2 ^ 64 + y)) (λ e f. omega arith) (λ e f. omega arith) (λ e f. omega arith) (λ f. omega arith) (λ f. omega arith)

-- ## Epochs and versions

pub epochs : IsTotalOrder epoch_cmp
epochs = then_total (on_total (λ (e : Epoch). e.count) nat_cmp_total) (on_total (λ (e : Epoch). e.proposer) nat_cmp_total)

pub versions : IsTotalOrder version_cmp
versions = then_total (on_total (λ (v : Version). v.epoch) epochs) (on_total (λ (v : Version). v.seq) nat_cmp_total)

-- equal under two orders
pub both_equal : {K : Type 0} (R S : K → K → Ordering) (a b : K) → then_cmp R S a b ≡ Equal → (R a b ≡ Equal) × (S a b ≡ Equal)
both_equal R S a b h = by_first (R a b) refl
  where
    by_first : (o : Ordering) → R a b ≡ o → (R a b ≡ Equal) × (S a b ≡ Equal)
    by_first Less e = let no : Less ≡ Equal = rw e at h in absurd cc
    by_first Equal e = (e, rw e at h)
    by_first Greater e = let no : Greater ≡ Equal = rw e at h in absurd cc

pub equal_epochs : (a b : Epoch) → epoch_cmp a b ≡ Equal → a ≡ b
equal_epochs a b h =
    let parts = both_equal (on (λ (e : Epoch). e.count) nat_cmp) (on (λ (e : Epoch). e.proposer) nat_cmp) a b h in
    λ i. record { count = nat_cmp-IsAntisymmetric a.count b.count parts.0 i; proposer = nat_cmp-IsAntisymmetric a.proposer b.proposer parts.1 i }

pub equal_versions : (a b : Version) → version_cmp a b ≡ Equal → a ≡ b
equal_versions a b h =
    let parts = both_equal (on (λ (v : Version). v.epoch) epoch_cmp) (on (λ (v : Version). v.seq) nat_cmp) a b h in
    λ i. record { epoch = equal_epochs a.epoch b.epoch parts.0 i; seq = nat_cmp-IsAntisymmetric a.seq b.seq parts.1 i }

-- versions that are tested as equal are equal
pub version_same : (a b : Version) → same_version a b ≡ true → a ≡ b
version_same a b h = grind (arith, nat_tests)

pub version_itself : (a : Version) → same_version a a ≡ true
version_itself a = grind (arith, nat_tests)
