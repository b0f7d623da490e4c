-- Views as bytes.
use Rattle.std.specs.Prelude.{ℕ, zero, suc, List, [], ◌∷◌, length, Result, Ok, Err, nat_lt, nat_le, ◌==◌, ◌&&◌, if◌then◌else◌}
use Rattle.std.specs.List.{flat_map}
use Rattle.byteorder.specs.Endian.{big_bytes}
use Rattle.ens_base.specs.View.{IsView}
use Rattle.fields.specs.declared.field_error.FieldError.{FieldError}
use Rattle.fields.specs.declared.field_error.FieldError.TheVariants.{Rule}
use Rattle.ens_base.specs.Results.{◌>>=◌}
use Rattle.fields.specs.Numbers.{byte_at, number_at}

-- one byte for how many members, and four bytes for each
abbrev pub view_spelling : List ℕ → List ℕ
view_spelling view = length view ∷ flat_map (big_bytes 4) view

-- a peer's number above `low`
unfoldable pub member_at : ℕ → List ℕ → ℕ → Result (ℕ × ℕ) FieldError
member_at low bytes at = do
  member ← number_at 4 bytes at
  if nat_lt low member.0 && nat_le member.0 31 then Ok member else Err (Rule at)

-- n members, the first above `low` and each other above the one before it
unfoldable pub members_at : ℕ → ℕ → List ℕ → ℕ → Result (List ℕ × ℕ) FieldError
members_at zero low bytes at = Ok ([], at)
members_at (suc n) low bytes at = do
  member ← member_at low bytes at
  others ← members_at n member.0 bytes member.1
  Ok (member.0 ∷ others.0, others.1)

unfoldable pub view_at : List ℕ → ℕ → Result (List ℕ × ℕ) FieldError
view_at bytes at = do
  size ← byte_at bytes at
  if nat_le 1 size.0 && nat_le size.0 9 then members_at size.0 0 bytes size.1 else Err (Rule at)

-- what a call that fills a list of members, and answers the place after them, has read
abbrev pub filled : List ℕ → Result ℕ FieldError → Result (List ℕ × ℕ) FieldError
filled members (Ok end) = Ok (members, end)
filled members (Err e) = Err e

-- one view or two
abbrev pub AreViews : List (List ℕ) → Type 0
AreViews [] = ⊥
AreViews (view ∷ []) = IsView view
AreViews (new ∷ old ∷ []) = IsView new × IsView old
AreViews (new ∷ old ∷ more ∷ views) = ⊥

-- one byte for how many views, and the views
abbrev pub views_spelling : List (List ℕ) → List ℕ
views_spelling views = length views ∷ flat_map view_spelling views

unfoldable pub one_view_at : List ℕ → ℕ → Result (List (List ℕ) × ℕ) FieldError
one_view_at bytes at = do
  view ← view_at bytes at
  Ok (view.0 ∷ [], view.1)

unfoldable pub two_views_at : List ℕ → ℕ → Result (List (List ℕ) × ℕ) FieldError
two_views_at bytes at = do
  new ← view_at bytes at
  old ← view_at bytes new.1
  Ok (new.0 ∷ old.0 ∷ [], old.1)

unfoldable pub views_at : List ℕ → ℕ → Result (List (List ℕ) × ℕ) FieldError
views_at bytes at = do
  count ← byte_at bytes at
  if count.0 == 1 then one_view_at bytes count.1 else (if count.0 == 2 then two_views_at bytes count.1 else Err (Rule at))
