-- The numbers of epochs and versions.
use Rattle.std.proofs.Common.{◌≡◌, ℕ, suc, ◌+◌, ◌-◌, ◌*◌, ◌/◌, ◌%◌, ◌^◌, ◌<◌, ◌⊎◌, arith, Bool, true, false, eqb, inl, inr, refl, ap}
use Rattle.std.specs.Prelude.{◌↔◌}
use Rattle.std.proofs.lemmas.Bool.Decides.{nat_tests}
use Rattle.std.proofs.lemmas.Bool.{cases_order}
use Rattle.ens_base.specs.Epochs.{IsEpochBelow, IsVersionBelow}
use Rattle.ens_base.specs.declared.epoch.Epoch.{Epoch}
use Rattle.ens_base.specs.declared.epoch.Version.{Version}
use Rattle.register_model.specs.Orders.{rank, rank_or_none}
use Rattle.protocol_laws.specs.Numbers.{epoch_number, IsEpoch, IsVersion}
use Rattle.protocol_laws.specs.Objects.{epoch_of}
use Rattle.protocol_laws.specs.Book.{version_of, version_or_none}

-- ## Epochs

epochs_to : (a b : Epoch) → IsEpoch a → IsEpoch b → IsEpochBelow a b → epoch_number a < epoch_number b
unfolding epoch_number
epochs_to a b h k (inl p) = omega arith
epochs_to a b h k (inr p) = omega (arith, p.0, p.1)

epochs_from : (a b : Epoch) → IsEpoch a → IsEpoch b → epoch_number a < epoch_number b → IsEpochBelow a b
unfolding epoch_number
epochs_from a b h k l = by_order (cases_order a.count b.count)
  where
    by_order : (a.count ≡ b.count) ⊎ ((a.count < b.count) ⊎ (b.count < a.count)) → IsEpochBelow a b
    by_order (inl e) = inr (e, omega arith)
    by_order (inr (inl m)) = inl m
    by_order (inr (inr m)) = absurd (omega arith)

-- epochs with the same number are the same
pub epoch_same : (a b : Epoch) → IsEpoch a → IsEpoch b → epoch_number a ≡ epoch_number b → a ≡ b
unfolding epoch_number
epoch_same a b h k l = λ i. record { count = count i; proposer = proposer i }
  where
    count : a.count ≡ b.count
    count = omega arith

    proposer : a.proposer ≡ b.proposer
    proposer = omega arith

pub epochs_ordered : (a b : Epoch) → IsEpoch a → IsEpoch b → (IsEpochBelow a b ↔ (epoch_number a < epoch_number b))
epochs_ordered a b h k = (epochs_to a b h k, epochs_from a b h k)

-- ## Versions

rank-number : (v : Version) → rank v ≡ suc (epoch_number v.epoch * 2 ^ 64 + v.seq)
unfolding rank epoch_number
rank-number v = refl

versions_to : (a b : Version) → IsVersion a → IsVersion b → IsVersionBelow a b → rank a < rank b
versions_to a b h k (inl p) = let l : epoch_number a.epoch < epoch_number b.epoch = epochs_to a.epoch b.epoch h.0 k.0 p in rw (rank-number a, rank-number b) (omega (arith, l, h.1, k.1))
versions_to a b h k (inr p) = let e : epoch_number a.epoch ≡ epoch_number b.epoch = ap epoch_number p.0 in rw (rank-number a, rank-number b) (omega (arith, e, p.1))

versions_from : (a b : Version) → IsVersion a → IsVersion b → rank a < rank b → IsVersionBelow a b
versions_from a b h k l = by_order (cases_order (epoch_number a.epoch) (epoch_number b.epoch))
  where
    numbers : suc (epoch_number a.epoch * 2 ^ 64 + a.seq) < suc (epoch_number b.epoch * 2 ^ 64 + b.seq)
    numbers = rw (rank-number a, rank-number b) at l

    by_order : (epoch_number a.epoch ≡ epoch_number b.epoch) ⊎ ((epoch_number a.epoch < epoch_number b.epoch) ⊎ (epoch_number b.epoch < epoch_number a.epoch)) → IsVersionBelow a b
    by_order (inl e) = inr (epoch_same a.epoch b.epoch h.0 k.0 e, omega (arith, numbers, e))
    by_order (inr (inl m)) = inl (epochs_from a.epoch b.epoch h.0 k.0 m)
    by_order (inr (inr m)) = absurd (omega (arith, numbers, m, h.1, k.1))

pub versions_ordered : (a b : Version) → IsVersion a → IsVersion b → (IsVersionBelow a b ↔ (rank a < rank b))
versions_ordered a b h k = (versions_to a b h k, versions_from a b h k)

pub version_of-rank : (v : Version) → IsVersion v → version_of (rank v) ≡ v
unfolding rank version_of
version_of-rank v h = λ i. record { epoch = record { count = count i; proposer = proposer i }; seq = seq i }
  where
    count : (rank v - 1) / 2 ^ 64 / 2 ^ 32 ≡ v.epoch.count
    count = omega (arith, h.0, h.1)

    proposer : (rank v - 1) / 2 ^ 64 % 2 ^ 32 ≡ v.epoch.proposer
    proposer = omega (arith, h.0, h.1)

    seq : (rank v - 1) % 2 ^ 64 ≡ v.seq
    seq = omega (arith, h.0, h.1)

pub rank-version_of : (n : ℕ) → 0 < n → rank (version_of n) ≡ n
unfolding rank version_of
rank-version_of n h = omega arith

pub epoch_of-rank : (v : Version) → IsVersion v → epoch_of (rank v) ≡ epoch_number v.epoch
unfolding rank epoch_of epoch_number
epoch_of-rank v h = omega (arith, h.0, h.1)

pub version_within : (n : ℕ) → IsVersion (version_of n)
unfolding version_of
version_within n = (omega arith, omega arith)

pub rank-version_or_none : (v : ℕ) → rank_or_none (version_or_none v) ≡ v
rank-version_or_none v = by_cases (eqb v 0) refl
  where
    by_cases : (b : Bool) → eqb v 0 ≡ b → rank_or_none (version_or_none v) ≡ v
    by_cases true t = rw t (grind (arith, nat_tests))
    by_cases false t = rw t (rank-version_of v (grind (arith, nat_tests)))
