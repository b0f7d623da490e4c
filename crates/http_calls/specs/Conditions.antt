-- The condition that the fields of a request state (RFC 9110, section 13.1).
use Rattle.std.specs.Prelude.{ℕ, Bool, true, false, List, Option, Some, None, Result, Ok, Err, bytes_eq, codes, is_some, if◌then◌else◌}
use Rattle.http1.specs.Fields.{Header}
use Rattle.ens_base.specs.declared.epoch.Version.{Version}
use Rattle.http_calls.specs.declared.condition.Condition.{Condition}
use Rattle.http_calls.specs.declared.condition.Condition.TheVariants.{Always, IfMatch, IfAbsent, IfNoneMatch}
use Rattle.http_calls.specs.declared.problem.Problem.{Problem}
use Rattle.http_calls.specs.declared.problem.Problem.TheVariants.{BadCondition, UnknownCondition}
use Rattle.http_calls.specs.Fields.{field_of}
use Rattle.http_calls.specs.Outcomes.{◌>>=◌}
use Rattle.http_calls.specs.Stamps.{stamp_of}

abbrev pub match_stamp : Option Version → Result Condition Problem
match_stamp (Some v) = Ok (IfMatch v)
match_stamp None = Err BadCondition

-- `If-Match`: one stamp
abbrev pub tag_condition : List ℕ → Result Condition Problem
tag_condition value = match_stamp (stamp_of value)

abbrev pub none_match_stamp : Option Version → Result Condition Problem
none_match_stamp (Some v) = Ok (IfNoneMatch v)
none_match_stamp None = Err BadCondition

-- `If-None-Match`: a star or one stamp
abbrev pub none_condition : List ℕ → Result Condition Problem
none_condition value = if bytes_eq value (codes "*") then Ok IfAbsent else none_match_stamp (stamp_of value)

-- a condition on dates or ranges
abbrev pub has_date : List Header → Result Bool Problem
has_date fields = do
  modified ← field_of (codes "if-modified-since") fields
  if is_some modified then Ok true else (do
    unmodified ← field_of (codes "if-unmodified-since") fields
    if is_some unmodified then Ok true else (do
      range ← field_of (codes "if-range") fields
      Ok (is_some range)))

-- at most one of `If-Match` and `If-None-Match`
abbrev pub chosen : Option (List ℕ) → Option (List ℕ) → Result Condition Problem
chosen None None = Ok Always
chosen (Some tag) None = tag_condition tag
chosen None (Some tag) = none_condition tag
chosen (Some a) (Some b) = Err UnknownCondition

abbrev pub unless_dated : Bool → Result Condition Problem → Result Condition Problem
unless_dated true c = Err UnknownCondition
unless_dated false c = c

abbrev pub condition_of : List Header → Result Condition Problem
condition_of fields = do
  dated ← has_date fields
  unless_dated dated (do
    one ← field_of (codes "if-match") fields
    none ← field_of (codes "if-none-match") fields
    chosen one none)
