-- A leader steps down because its tree becomes untrusted.
use Rattle.std.proofs.Common.{arith, refl, ◌≡◌, ℕ, Bool, Option, Some, None}
use Rattle.ens_base.specs.declared.epoch.Epoch.{Epoch}
use Rattle.ens_base.specs.declared.epoch.Version.{Version}
use Rattle.wire_frames.specs.StoredFormats.{Object, Fact}
use Rattle.phase_rows.specs.declared.phase.PhaseOut.{PhaseOut}
use Rattle.phase_rows.specs.declared.phase.Seen.{Seen}
use Rattle.phase_rows.specs.declared.phase.Seen.TheVariants.{Nothing, Damaged, Held, Kept, Stored}
use Rattle.phase_rules.specs.Effects.{LeavesOnDistrust}
use Rattle.phase_rules.specs.Refusals.{refusal, unless_refused}
use Rattle.phase_rules.specs.Requests.{puts_over, puts}

over : (from : ℕ) (ballot : Epoch) (object : Object) (version : Version) → LeavesOnDistrust (puts_over from ballot object version)
over from ballot object version = grind arith

pub puts_distrust : (from : ℕ) (ballot : Epoch) (object : Object) (seen : Seen) → LeavesOnDistrust (puts from ballot object seen)
puts_distrust from ballot object Nothing = grind arith
puts_distrust from ballot object (Damaged place) = grind arith
puts_distrust from ballot object (Held None kept) = grind arith
puts_distrust from ballot object (Held (Some entry) kept) = over from ballot object entry.version
puts_distrust from ballot object (Kept kept) = grind arith
puts_distrust from ballot object (Stored digest) = grind arith

pub refusals_keep : (fact : Fact) (trusted : Bool) (from : ℕ) (ballot : Epoch) (out : PhaseOut) → refusal fact trusted from ballot ≡ Some out → LeavesOnDistrust out
refusals_keep fact trusted from ballot out = grind arith

pub unless_distrust : (refused : Option PhaseOut) (answer : PhaseOut) → ((out : PhaseOut) → refused ≡ Some out → LeavesOnDistrust out) → LeavesOnDistrust answer → LeavesOnDistrust (unless_refused refused answer)
unless_distrust (Some out) answer kept law = kept out refl
unless_distrust None answer kept law = law
