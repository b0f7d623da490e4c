-- How the answer of a rule affects the trust in the tree.
use Rattle.std.specs.Prelude.{◌≡◌, ◌↔◌, true}
use Rattle.phase_rows.specs.declared.phase.PhaseOut.{PhaseOut}
use Rattle.phase_rows.specs.declared.phase.Then.TheVariants.{Untrust}

-- a leader steps down exactly if the tree becomes untrusted
abbrev pub LeavesOnDistrust : PhaseOut → Type 0
LeavesOnDistrust out = (out.leave ≡ true) ↔ (out.then ≡ Untrust)
