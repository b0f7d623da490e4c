-- Versions and their numbers.
use Rattle.std.proofs.Common.{◌≡◌, ◌<◌, false, ◌==◌, Option, Some, None, arith, refl, ap}
use Rattle.std.proofs.lemmas.Bool.Decides.{nat_tests}
use Rattle.ens_base.specs.declared.epoch.Version.{Version}
use Rattle.protocol_laws.specs.Numbers.{epoch_number, IsVersion}
use Rattle.protocol_laws.specs.Book.{version_of, version_or_none}
use Rattle.call_table.specs.Rows.{base_of}
use Rattle.call_table.specs.declared.row.Known.{Known}
use Rattle.call_table.specs.declared.row.Known.TheVariants as knowns
use Rattle.protocol_laws.proofs.Ranks.{version_of-rank}
use Rattle.register_model.specs.Orders as register
use Rattle.role_laws.specs.Tables as theory
use Rattle.leader_refinement.specs.Seen.{rank, rank_or_none}
use Rattle.leader_refinement.specs.Follows.{MayBeVersion, KnownFits, settled_rank}

-- the version of the number of a version is the version
pub rank_back : (v : Version) → IsVersion v → version_of (rank v) ≡ v
unfolding register.rank theory.version_at epoch_number
rank_back v fits = version_of-rank v fits

some_rank : (v : Version) → (rank v == 0) ≡ false
unfolding theory.version_at
some_rank v = grind (arith, nat_tests)

pub rank_some : (v : Version) → 0 < rank v
unfolding theory.version_at
rank_some v = omega arith

pub option_back : (v : Option Version) → MayBeVersion v → version_or_none (rank_or_none v) ≡ v
option_back None fits = refl
option_back (Some v) fits = rw (some_rank v) (ap (λ (u : Version). Some u) (rank_back v fits))

-- the number of the settled version
pub base_rank : (known : Known) → rank_or_none (base_of known) ≡ settled_rank known
base_rank knowns.Unknown = refl
base_rank knowns.Absent = refl
base_rank (knowns.Present v stamp digest tombstone) = refl

pub base_fits : (known : Known) → KnownFits known → MayBeVersion (base_of known)
base_fits knowns.Unknown fits = tt
base_fits knowns.Absent fits = tt
base_fits (knowns.Present v stamp digest tombstone) fits = fits
