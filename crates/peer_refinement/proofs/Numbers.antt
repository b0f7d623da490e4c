-- Epochs and versions compare as their numbers.
use Rattle.std.proofs.Common.{◌≡◌, ◌⊎◌, inl, inr, ◌<◌, ◌≤◌, ◌+◌, ◌*◌, ◌^◌, suc, false, arith}
use Rattle.std.proofs.lemmas.Bool.Decides.{nat_tests}
use Rattle.ens_base.specs.declared.epoch.Epoch.{Epoch}
use Rattle.ens_base.specs.declared.epoch.Version.{Version}
use Rattle.ens_base.specs.Limits as limits
use Rattle.phase_rows.specs.Orders.{is_below}
use Rattle.phase_rules.specs.Requests.{is_version_below}
use Rattle.protocol_laws.specs.Numbers.{epoch_number, IsEpoch, IsVersion}
use Rattle.role_laws.specs.Tables as theory
use Rattle.leader_refinement.specs.Seen.{rank}

pub version_fits : (v : Version) → limits.IsVersion v → IsVersion v
version_fits v h = (h.epoch.proposer, h.seq)

-- an epoch that is not below another has no lower number
pub not_below : (a b : Epoch) → IsEpoch a → IsEpoch b → is_below a b ≡ false → epoch_number b ≤ epoch_number a
unfolding epoch_number
not_below a b h k t = by_count (either t)
  where
    either : is_below a b ≡ false → (b.count < a.count) ⊎ ((b.count ≡ a.count) × (b.proposer ≤ a.proposer))
    either t = grind (arith, nat_tests)

    by_count : (b.count < a.count) ⊎ ((b.count ≡ a.count) × (b.proposer ≤ a.proposer)) → b.count * 2 ^ 32 + b.proposer ≤ a.count * 2 ^ 32 + a.proposer
    by_count (inl less) = omega (arith, less, k)
    by_count (inr same) = omega (arith, same.0, same.1)

-- the first version comes no later than the second, part by part
abbrev IsNoLater : Version → Version → Type 0
IsNoLater b a = (b.epoch.count < a.epoch.count) ⊎ ((b.epoch.count ≡ a.epoch.count) × ((b.epoch.proposer < a.epoch.proposer) ⊎ ((b.epoch.proposer ≡ a.epoch.proposer) × (b.seq ≤ a.seq))))

-- a version that is not below another has no lower number
pub not_below_version : (a b : Version) → IsVersion a → IsVersion b → is_version_below a b ≡ false → rank b ≤ rank a
unfolding theory.version_at epoch_number
not_below_version a b h k t = by_parts (either t)
  where
    either : is_version_below a b ≡ false → IsNoLater b a
    either t = grind (arith, nat_tests)

    by_parts : IsNoLater b a → suc ((b.epoch.count * 2 ^ 32 + b.epoch.proposer) * 2 ^ 64 + b.seq) ≤ suc ((a.epoch.count * 2 ^ 32 + a.epoch.proposer) * 2 ^ 64 + a.seq)
    by_parts (inl count) = omega (arith, count, k.0, k.1)
    by_parts (inr (e, inl proposer)) = omega (arith, e, proposer, k.1)
    by_parts (inr (e, inr same)) = omega (arith, e, same.0, same.1)
