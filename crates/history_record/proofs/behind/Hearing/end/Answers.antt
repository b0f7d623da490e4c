use Rattle.std.proofs.Common.{◌≡◌, List, [], ◌∷◌, length, refl, arith}
use Rattle.std.proofs.lemmas.Bool.Decides.{nat_tests}
use Rattle.history_record.proofs.Readings.{sound_record}
use Rattle.history_record.proofs.behind.Hearing.end.Goals as goal

without_items : {A : Type 0} (xs : List A) → length xs ≡ 0 → xs ≡ []
without_items [] h = refl
without_items (x ∷ xs) h = absurd (omega (arith, h))

pub returns-clause-record : goal.returns-clause-record
returns-clause-record c = rw (c.new.ensures, c.new-2.ensures) (sound_record _ c.self.invariant.0 (without_items c.self.inside.keys.keys (grind (arith, nat_tests))))
