-- Epochs and versions as numbers.
use Rattle.std.specs.Prelude.{ℕ, ◌+◌, ◌*◌, ◌^◌, ◌<◌}
use Rattle.ens_base.specs.declared.epoch.Epoch.{Epoch}
use Rattle.ens_base.specs.declared.epoch.Version.{Version}

-- the number of an epoch: by count, then by proposer
unfoldable pub epoch_number : Epoch → ℕ
epoch_number e = e.count * 2 ^ 32 + e.proposer

-- the proposer is in range
abbrev pub IsEpoch : Epoch → Type 0
IsEpoch e = e.proposer < 2 ^ 32

-- the proposer and the sequence number are in range
abbrev pub IsVersion : Version → Type 0
IsVersion v = IsEpoch v.epoch × (v.seq < 2 ^ 64)
