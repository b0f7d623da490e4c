-- Sealed frames: a frame, and a code that only holders of a key can make.
use Rattle.std.specs.Prelude.{◌≡◌, ◌-◌, ℕ, Bool, List, [], ◌∷◌, ◌++◌, Option, None, Some, length, take, if◌then◌else◌}
use Rattle.std.specs.List.{list_any}
use Rattle.ens_base.specs.Lists.{◌∈◌, same_bytes}
use Rattle.frame_codes.specs.Hmac.{hmac}
use Rattle.frame_codes.specs.declared.coverage.Ensemble.{Ensemble}
use Rattle.frame_codes.specs.declared.key_file.KeyFile.{KeyFile}

-- the bytes that name an ensemble: its id, how many members its opening view has, and each of them
abbrev pub name_of : Ensemble → List ℕ
name_of e = e.id ++ length e.opening ∷ e.opening

-- the frame, and the first 16 bytes of the HMAC under the key over the name of the ensemble and the frame
abbrev pub sealed : List ℕ → List ℕ → List ℕ → List ℕ
sealed name key frame = frame ++ take 16 (hmac key (name ++ frame))

-- the keys of a key file, the one that seals first
abbrev pub and_second : List ℕ → Option (List ℕ) → List (List ℕ)
and_second first None = first ∷ []
and_second first (Some second) = first ∷ second ∷ []

abbrev pub keys_of : KeyFile → List (List ℕ)
keys_of file = and_second file.first file.second

-- an ensemble, and the keys of its key file
pub record Keys : Type 0 where
  pub ensemble : Ensemble
  pub file : KeyFile

-- what a frame is sent as
abbrev pub sent_as : Keys → List ℕ → List ℕ
sent_as k frame = sealed (name_of k.ensemble) k.file.first frame

-- the bytes are the frame, sealed under a key of the file
abbrev pub IsSealed : Keys → List ℕ → List ℕ → Type 0
IsSealed k frame bytes = (key : List ℕ) × (key ∈ keys_of k.file) × (bytes ≡ sealed (name_of k.ensemble) key frame)

-- all but the last 16 bytes
abbrev pub front_of : List ℕ → List ℕ
front_of bytes = take (length bytes - 16) bytes

-- whether the bytes are their front, sealed under the key
abbrev pub is_sealed : List ℕ → List ℕ → List ℕ → Bool
is_sealed name bytes key = same_bytes bytes (sealed name key (front_of bytes))

-- the frame in the bytes, if they are sealed under a key of the file
abbrev pub opened : Keys → List ℕ → Option (List ℕ)
opened k bytes = if list_any (is_sealed (name_of k.ensemble) bytes) (keys_of k.file) then Some (front_of bytes) else None
