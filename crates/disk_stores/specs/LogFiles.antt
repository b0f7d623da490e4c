-- The file of a log on its disk.
use Rattle.std.specs.Prelude.{◌≡◌, ◌≤◌, ℕ, List, length, take, false, Option, Some}
use Rattle.disk_stores.specs.declared.file.LogFile.{LogFile}

-- no write has failed since the last one that was done, so nothing lies past the end of the log
abbrev pub IsClean : {D : Type 0} → LogFile D → Type 0
IsClean f = f.torn ≡ false

-- the file of a disk that tells its bytes begins with the bytes of the log, and has no others unless
-- a write failed
pub record Begins {D : Type 0} (seen : D → Option (List ℕ)) (f : LogFile D) (bytes : List ℕ) : Type 0 where
  pub file : List ℕ
  pub told : seen f.disk ≡ Some file
  pub prefix : take f.end file ≡ bytes
  pub long : f.end ≤ length file
  pub clean : IsClean f → length file ≡ f.end
