-- What a command writes keeps the limits of values.
use Rattle.std.specs.Prelude.{nat_lt, nat_le, if◌then◌else◌}
use Rattle.std.proofs.Common.{◌≡◌, ◌≤◌, ◌^◌, ◌+◌, ℕ, ◌==◌, ◌&&◌, Bool, true, false, length, lit≤, arith, refl, sym, subst}
use Rattle.std.proofs.lemmas.Bool.Decides.{nat_tests}
use Rattle.std.proofs.lemmas.List.{length-append}
use Rattle.byteorder.specs.Endian.{big_number}
use Rattle.ens_base.specs.Epochs.{same_version}
use Rattle.ens_base.specs.Limits.{IsValue, IsCommand}
use Rattle.ens_base.specs.Lists.{same_bytes}
use Rattle.ens_base.specs.declared.command.Command.{Command}
use Rattle.ens_base.specs.declared.command.Command.TheVariants.{Get, PutOnce, Update, Append, Add, Swap, Over, Delete}
use Rattle.ens_base.proofs.ByteLists.{bytes_both, number_bytes}
use Rattle.stored_formats.specs.Objects.{IsContent}
use Rattle.register_model.specs.Registers.{Outcome, Keeps, Writes, outcome}
use Rattle.register_model.specs.declared.register.Register.{Register}
use Rattle.register_model.specs.declared.register.Register.TheVariants.{Absent, Present}

-- the value of a register keeps its limits
abbrev pub RegisterFits : Register → Type 0
RegisterFits Absent = Unit {0}
RegisterFits (Present stamp bytes) = IsValue bytes

-- so does what a command writes
abbrev pub OutcomeFits : Outcome → Type 0
OutcomeFits (Keeps reply) = Unit {0}
OutcomeFits (Writes content) = IsContent content

by_choice : (b : Bool) (x y : Outcome) → (b ≡ true → OutcomeFits x) → OutcomeFits y → OutcomeFits (if b then x else y)
by_choice true x y passes fails = passes refl
by_choice false x y passes fails = fails

pub outcome_fits : (command : Command) (register : Register) → IsCommand command → RegisterFits register → OutcomeFits (outcome command register)
outcome_fits Get Absent fits has = tt
outcome_fits Get (Present stamp bytes) fits has = tt
outcome_fits (PutOnce value) Absent fits has = fits
outcome_fits (PutOnce value) (Present stamp bytes) fits has = tt
outcome_fits (Update wanted value) Absent fits has = tt
outcome_fits (Update wanted value) (Present stamp bytes) fits has = by_choice (same_version wanted stamp) _ _ (λ is. fits.1) tt
outcome_fits (Append tail) Absent fits has = tt
outcome_fits (Append tail) (Present stamp bytes) fits has = by_choice (nat_le (length bytes + length tail) 1024) _ _ (λ is. record { size = subst (λ n. n ≤ 1024) (sym (length-append bytes tail)) (within (length bytes + length tail) is); bytes = bytes_both bytes tail has.bytes fits.bytes }) tt
  where
    within : (n : ℕ) → nat_le n 1024 ≡ true → n ≤ 1024
    within n is = grind (arith, nat_tests)
outcome_fits (Add n) Absent fits has = tt
outcome_fits (Add n) (Present stamp bytes) fits has = by_choice (length bytes == 8 && nat_lt (big_number 8 bytes + n) (2 ^ 64)) _ _ (λ is. record { size = lit≤ tt; bytes = number_bytes 8 (big_number 8 bytes + n) }) tt
outcome_fits (Swap old new) Absent fits has = tt
outcome_fits (Swap old new) (Present stamp bytes) fits has = by_choice (same_bytes bytes old) _ _ (λ is. fits.1) tt
outcome_fits (Over value) register fits has = fits
outcome_fits Delete register fits has = tt
