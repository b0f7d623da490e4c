-- What an audit prints if it read no record.
use Rattle.std.specs.Prelude.{◌≡◌, ℕ, List, [], ◌∷◌, ◌++◌, codes, Option, Err, IfSome}
use Rattle.ens_base.specs.declared.status.Status.{Status}
use Rattle.schedule_input.specs.Endings.{bad_line}
use Rattle.history_record.specs.Reading.{record_of}
use Rattle.history_record.specs.declared.error.AuditError.TheVariants as audit

-- line 200,001 of the bytes begins and is not `answers`, and the text reports it
abbrev pub IsLineLimit : Option (List ℕ) → List ℕ → Type 0
IsLineLimit source text = IfSome source (λ bytes. record_of bytes ≡ Err audit.Lines) × (text ≡ codes "limit lines 200000" ++ 10 ∷ [])

-- the bytes have a bad line, and the text reports the first one and its cause
abbrev pub IsBadLine : Option (List ℕ) → List ℕ → Type 0
IsBadLine source text = (line : ℕ) × (cause : ℕ) × IfSome source (λ bytes. record_of bytes ≡ Err (audit.Bad line cause)) × (text ≡ bad_line line cause)

-- the text if no record was read, for each status
abbrev pub IsUnread : Option (List ℕ) → Status → List ℕ → Type 0
IsUnread source Status.Schedule text = IsBadLine source text
IsUnread source Status.Limit text = IsLineLimit source text
IsUnread source Status.ReadFault text = text ≡ codes "read fault" ++ 10 ∷ []
IsUnread source status text = ⊥
