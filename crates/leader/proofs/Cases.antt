-- Both branches of a choice.
use Rattle.std.proofs.Common.{Bool, true, false, if◌then◌else◌}

-- what holds of both branches holds of the choice
pub either : {A : Type 0} (P : A → Type 0) (t : Bool) (a b : A) → P a → P b → P (if t then a else b)
either P true a b p q = p
either P false a b p q = q
