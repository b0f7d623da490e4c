-- Calls that were refused.
use Rattle.std.proofs.Common.{Result, Ok, Err}
use Rattle.std.specs.Prelude.{IfErr}
use Rattle.world_spec.specs.Held.{Account}
use Rattle.world_spec.specs.Runs.{Run}
use Rattle.world_model.specs.Worlds.{MayRefuse, Reaches}
use Rattle.world_model.specs.declared.error.WorldError.{WorldError}

pub why_refused : {T : Type 0} (first : Account) (due : Run) (r : Result T WorldError) (reached : Run) (now : Account) → Reaches first due r reached now → IfErr r (MayRefuse first due now)
why_refused first due (Ok x) reached now reaches = tt
why_refused first due (Err e) reached now reaches = reaches
