-- The answer of a get, from that of the log.
use Rattle.std.proofs.Common.{◌≡◌, ℕ, List, Option, Result, Ok, Err, ap, ◌∙◌}
use Rattle.std.specs.Prelude.{Vec, IfOk}
use Rattle.std.specs.declared.alloc.Global.{Global}
use Rattle.environment.specs.Maps.{Entries, value_at}
use Rattle.environment.specs.Stores.{Get}
use Rattle.environment.specs.Told.{bytes_of}
use Rattle.environment.specs.declared.errors.StoreError.{StoreError}
use Rattle.disk_stores.specs.LogFiles.{IsClean}
use Rattle.disk_stores.specs.Logs.{Holds}
use Rattle.disk_stores.specs.DiskCalls.{ObjectsDo}
use Rattle.disk_stores.specs.declared.backend.DiskBackend.{DiskBackend}

module _ {D : Type 0} (seen : D → Option (List ℕ)) (s t : DiskBackend D) where
  pub get_done : (key name : List ℕ) (r : Result (Option (Vec ℕ Global)) StoreError) → name ≡ key → IfOk r (λ o. (es : Entries) → Holds seen s.log es → bytes_of o ≡ value_at name es)
      → ((es : Entries) → Holds seen s.log es → Holds seen t.log es) → (IsClean s.log.file → IsClean t.log.file) → IfOk r (λ o. ObjectsDo seen s (Get key) (bytes_of o) t)
  get_done key name (Err e) same found stays clean = tt
  get_done key name (Ok o) same found stays clean = record { answers = λ es held. found es held ∙ ap (λ (k : List ℕ). value_at k es) same; holds = stays; clean = clean }
