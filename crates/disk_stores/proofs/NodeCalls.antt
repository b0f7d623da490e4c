-- The answers of a store of nodes, from those of its log.
use Rattle.std.proofs.Common.{◌≡◌, ℕ, List, [], length, Option, Some, Result, Ok, Err, refl, ap, ◌∙◌, subst}
use Rattle.std.specs.Prelude.{Vec, IfOk, OnOk}
use Rattle.std.specs.declared.alloc.Global.{Global}
use Rattle.environment.specs.Maps.{Entries, value_at, with_value}
use Rattle.environment.specs.Stores.{Read, Write, SetTop}
use Rattle.environment.specs.Told.{bytes_of}
use Rattle.environment.specs.declared.errors.StoreError.{StoreError}
use Rattle.disk_stores.specs.LogFiles.{IsClean}
use Rattle.disk_stores.specs.Logs.{Holds}
use Rattle.disk_stores.specs.DiskCalls.{NodesDo}
use Rattle.disk_stores.specs.declared.nodes.DiskNodes.{DiskNodes}
use Rattle.disk_stores.proofs.Done.{stays_held, read_held, write_held, top_held}

module _ {D : Type 0} (seen : D → Option (List ℕ)) (s t : DiskNodes D) where
  pub read_done : (digest name : List ℕ) (r : Result (Option (Vec ℕ Global)) StoreError) → name ≡ digest → length digest ≡ 16 → t.top ≡ s.top → IfOk r (λ o. (es : Entries) → Holds seen s.log es → bytes_of o ≡ value_at name es)
      → ((es : Entries) → Holds seen s.log es → Holds seen t.log es) → (IsClean s.log.file → IsClean t.log.file) → IfOk r (λ o. NodesDo seen s (Read digest) (bytes_of o) t)
  read_done digest name (Err e) same long top found stays clean = tt
  read_done digest name (Ok o) same long top found stays clean = record {
    answers = λ held h. read_held seen s t digest (bytes_of o) held h long (λ es on. found es on ∙ ap (λ (k : List ℕ). value_at k es) same);
    holds = λ held h. stays_held seen s t held h stays top;
    clean = clean;
  }

  pub write_done : {T : Type 0} (digest name bytes : List ℕ) (r : Result T StoreError) → name ≡ digest → length digest ≡ 16 → t.top ≡ s.top → OnOk r ((es : Entries) → Holds seen s.log es → Holds seen t.log (with_value name bytes es))
      → OnOk r (IsClean t.log.file) → OnOk r (NodesDo seen s (Write digest bytes) tt t)
  write_done digest name bytes (Err e) same long top puts clean = tt
  write_done digest name bytes (Ok x) same long top puts clean = record {
    answers = λ held h. refl;
    holds = λ held h. write_held seen s t digest bytes held h long (λ es on. subst (λ (k : List ℕ). Holds seen t.log (with_value k bytes es)) same (puts es on)) top;
    clean = λ was. clean;
  }

  pub top_done : (digest name bytes : List ℕ) → name ≡ [] → bytes ≡ digest → length digest ≡ 16 → t.top ≡ Some digest → ((es : Entries) → Holds seen s.log es → Holds seen t.log (with_value name bytes es)) → IsClean t.log.file → NodesDo seen s (SetTop digest) tt t
  top_done digest name bytes empty same long top puts clean = record {
    answers = λ held h. refl;
    holds = λ held h. top_held seen s t digest held h long
        (λ es on. subst (λ (b : List ℕ). Holds seen t.log (with_value [] b es)) same (subst (λ (k : List ℕ). Holds seen t.log (with_value k bytes es)) empty (puts es on))) top;
    clean = λ was. clean;
  }
