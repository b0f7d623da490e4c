-- A word that is refused.
use Rattle.std.proofs.Common.{◌<◌, ◌≤◌, List, [], ◌∷◌, length, get_or, Result, Ok, Err, refl, arith}
use Rattle.ens_base.specs.Results.{◌>>=◌}
use Rattle.schedule_text.specs.Texts.{Word, texts}
use Rattle.lexemes.specs.Causes.{Refuses}
use Rattle.lexemes.specs.Words.{version_of}
use Rattle.lexemes.specs.declared.cause.Cause.{Cause}
use Rattle.lexemes.specs.declared.cause.WordError.{WordError}
use Rattle.lexemes.specs.declared.cause.WordError.TheVariants.{Bad, Memory}
use Rattle.history_record.specs.Flaws.{Rejects, form, form_error}
use Rattle.history_record.specs.Lines.{value_from}
use Rattle.history_record.specs.declared.flaw.Flaw.{Flaw}

-- what is read from a word that is refused
pub form_refused : {A B : Type 0} (read : Result A Cause) (next : A → Result B Flaw) (e : WordError) → Refuses read e → Rejects (form read >>= next) (form_error e)
form_refused (Err cause) next (Bad other) h = refl
form_refused (Ok x) next (Bad cause) h = absurd (cc h)
form_refused read next Memory h = tt

-- a value whose stamp is refused
pub stamp_refused : (words : List Word) (d : Word) (e : WordError) → 2 ≤ length words → length words < 3 → Refuses (version_of (get_or words 0 d).now) e → Rejects (value_from (texts words)) (form_error e)
stamp_refused [] d e long short h = absurd (omega arith)
stamp_refused (a ∷ []) d e long short h = absurd (omega arith)
stamp_refused (a ∷ b ∷ []) d e long short h = form_refused (version_of a.now) _ e h
stamp_refused (a ∷ b ∷ c ∷ more) d e long short h = absurd (omega arith)
