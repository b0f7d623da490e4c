-- Reading goes on alike where the last history is shortened.
use Rattle.std.proofs.Common.{◌≡◌, ℕ, List, [], ◌∷◌, Option, None, Some, Result, Ok, Err, sym, ap, ◌∙◌}
use Rattle.std.specs.Prelude.{IfOk, IfSome, OnOk}
use Rattle.std.specs.Io.KnownBytes.{IsAtEnd, prepend_known}
use Rattle.lexemes.specs.Words.{parts_of}
use Rattle.history_record.specs.Reading.{Stage, end_stage, first_stage, read_parts}
use Rattle.history_record.specs.ShortRecords.{short_result, stage_with_short_last}
use Rattle.history_record.specs.declared.record.Record.{Record}
use Rattle.history_record.proofs.Shortening.{last_stage, parts_alike, short_like}
use Rattle.audit.specs.Reading.{IsLike, ReadsAlike, ReadsAs, ReadsOn}
use Rattle.audit.specs.declared.read.ReadError.{ReadError}
use Rattle.audit.specs.declared.read.ReadError.TheVariants as read

-- one line more, after which the last history is shortened
pub alike_on : (a b c : Option (List ℕ)) (s t u v : Stage) → ReadsAlike a s b t → ReadsOn b t c u → v ≡ stage_with_short_last u → ReadsAlike a s c v
alike_on None b c s t u v first second short = tt
alike_on (Some x) None c s t u v first second short = absurd first
alike_on (Some x) (Some y) None s t u v first second short = absurd second
alike_on (Some x) (Some y) (Some z) s t u v first second short =
    first ∙ ap short_result second ∙ sym (ap (λ (w : Stage). short_result (read_parts w (parts_of 10 z))) short ∙ parts_alike (parts_of 10 z) (stage_with_short_last u) u (last_stage u))

-- the record at the end
pub like_read : (a b : Option (List ℕ)) (t : Stage) (v : List ℕ) (r : Record) → ReadsAlike a first_stage b t → ReadsAs b t (end_stage t v) → end_stage t v ≡ Ok r → IfSome a (λ bytes. IsLike bytes r)
like_read None b t v r alike read is = tt
like_read (Some x) None t v r alike read is = absurd alike
like_read (Some x) (Some y) t v r alike read is = short_like (read_parts first_stage (parts_of 10 x)) r (alike ∙ ap short_result (read ∙ is))

-- the same at the end of a source, whatever ended the reading
pub like_end : (a b : Option (List ℕ)) (t u : Stage) (v w : List ℕ) (result : Result Record ReadError) → ReadsAlike a first_stage b t → ReadsAs b t (end_stage t v) → u ≡ t → w ≡ v → IfOk result (λ r. end_stage u w ≡ Ok r) → IfOk result (λ r. IfSome a (λ bytes. IsLike bytes r))
like_end a b t u v w (Ok r) alike read same spelled ok = like_read a b t v r alike read (ap (λ (s : Stage). end_stage s v) (sym same) ∙ ap (λ (l : List ℕ). end_stage u l) (sym spelled) ∙ ok)
like_end a b t u v w (Err e) alike read same spelled ok = tt

pub at_end : (pending : List ℕ) (left : Option (List ℕ)) (result : Result Record ReadError) → IsAtEnd (prepend_known pending left) → OnOk result (IsAtEnd left)
at_end pending left (Err e) end = tt
at_end pending None (Ok r) end = tt
at_end [] (Some x) (Ok r) end = end
at_end (byte ∷ pending) (Some x) (Ok r) end = absurd (cc end)
