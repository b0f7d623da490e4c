-- The orders of epochs and of versions.
use Rattle.std.specs.Prelude.{◌≡◌, ◌⊎◌, ◌<◌, Bool, ◌==◌, ◌&&◌}
use Rattle.std.specs.Ordering.{nat_cmp, on, then_cmp}
use Rattle.std.specs.declared.cmp.Ordering.{Ordering}
use Rattle.ens_base.specs.declared.epoch.Epoch.{Epoch}
use Rattle.ens_base.specs.declared.epoch.Version.{Version}

-- by count, then by proposer
abbrev pub epoch_cmp : Epoch → Epoch → Ordering
epoch_cmp = then_cmp (on (λ e. e.count) nat_cmp) (on (λ e. e.proposer) nat_cmp)

abbrev pub IsEpochBelow : Epoch → Epoch → Type 0
IsEpochBelow a b = (a.count < b.count) ⊎ ((a.count ≡ b.count) × (a.proposer < b.proposer))

-- by epoch, then by sequence number
abbrev pub version_cmp : Version → Version → Ordering
version_cmp = then_cmp (on (λ v. v.epoch) epoch_cmp) (on (λ v. v.seq) nat_cmp)

abbrev pub IsVersionBelow : Version → Version → Type 0
IsVersionBelow a b = IsEpochBelow a.epoch b.epoch ⊎ ((a.epoch ≡ b.epoch) × (a.seq < b.seq))

-- whether two versions are equal
abbrev pub same_version : Version → Version → Bool
same_version a b = a.epoch.count == b.epoch.count && a.epoch.proposer == b.epoch.proposer && a.seq == b.seq
