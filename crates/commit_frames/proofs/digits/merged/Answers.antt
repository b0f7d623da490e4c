use Rattle.std.proofs.Common.{◌≡◌, [], ◌∷◌, Some, get_or, refl, sym, lit<}
use Rattle.commit_frames.specs.Digits.{either}
use Rattle.commit_frames.proofs.Leftovers.{none_some}
use Rattle.commit_frames.proofs.Twins.{five, merged_each, merged_lost, merged_there}
use Rattle.commit_frames.proofs.digits.merged.Goals as goal

pub returns-in_err-either-clause-each : goal.returns-in_err-either-clause-each
returns-in_err-either-clause-each c n fits first second = let m = merged_each c.args.bytes.now c.args.twins.now n 0 fits (lit< tt) first second in absurd (none_some _ m.0 c.in_err-either.ensures m.1)

pub returns-in_err-either-2-clause-each : goal.returns-in_err-either-2-clause-each
returns-in_err-either-2-clause-each c n fits first second = let m = merged_each c.args.bytes.now c.args.twins.now n 1 fits (lit< tt) first second in absurd (none_some _ m.0 c.in_err-either-2.ensures m.1)

pub returns-in_err-either-3-clause-each : goal.returns-in_err-either-3-clause-each
returns-in_err-either-3-clause-each c n fits first second = let m = merged_each c.args.bytes.now c.args.twins.now n 2 fits (lit< tt) first second in absurd (none_some _ m.0 c.in_err-either-3.ensures m.1)

pub returns-in_err-either-4-clause-each : goal.returns-in_err-either-4-clause-each
returns-in_err-either-4-clause-each c n fits first second = let m = merged_each c.args.bytes.now c.args.twins.now n 3 fits (lit< tt) first second in absurd (none_some _ m.0 c.in_err-either-4.ensures m.1)

pub returns-in_err-either-5-clause-each : goal.returns-in_err-either-5-clause-each
returns-in_err-either-5-clause-each c n fits first second = let m = merged_each c.args.bytes.now c.args.twins.now n 4 fits (lit< tt) first second in absurd (none_some _ m.0 c.in_err-either-5.ensures m.1)

pub returns-clause-there : goal.returns-clause-there
returns-clause-there c n fits lost =
    merged_there c.args.bytes.now c.args.twins.now (c.in_ok-either.field-0 ∷ c.in_ok-either-2.field-0 ∷ c.in_ok-either-3.field-0 ∷ c.in_ok-either-4.field-0 ∷ c.in_ok-either-5.field-0 ∷ []) n (record {
      size = refl;
      bytes_size = c.requires.bytes;
      twins_size = c.requires.twins;
      each = five (λ i. either (get_or c.args.bytes.now i 0) (get_or c.args.twins.now i 0) ≡ Some (get_or (c.in_ok-either.field-0 ∷ c.in_ok-either-2.field-0 ∷ c.in_ok-either-3.field-0 ∷ c.in_ok-either-4.field-0 ∷ c.in_ok-either-5.field-0 ∷ []) i 0)) (sym c.in_ok-either.ensures) (sym c.in_ok-either-2.ensures) (sym c.in_ok-either-3.ensures) (sym c.in_ok-either-4.ensures) (sym c.in_ok-either-5.ensures);
    }) fits lost

pub returns-clause-each : goal.returns-clause-each
returns-clause-each c n fits first second =
    merged_lost c.args.bytes.now c.args.twins.now (c.in_ok-either.field-0 ∷ c.in_ok-either-2.field-0 ∷ c.in_ok-either-3.field-0 ∷ c.in_ok-either-4.field-0 ∷ c.in_ok-either-5.field-0 ∷ []) n (record {
      size = refl;
      bytes_size = c.requires.bytes;
      twins_size = c.requires.twins;
      each = five (λ i. either (get_or c.args.bytes.now i 0) (get_or c.args.twins.now i 0) ≡ Some (get_or (c.in_ok-either.field-0 ∷ c.in_ok-either-2.field-0 ∷ c.in_ok-either-3.field-0 ∷ c.in_ok-either-4.field-0 ∷ c.in_ok-either-5.field-0 ∷ []) i 0)) (sym c.in_ok-either.ensures) (sym c.in_ok-either-2.ensures) (sym c.in_ok-either-3.ensures) (sym c.in_ok-either-4.ensures) (sym c.in_ok-either-5.ensures);
    }) fits first second
