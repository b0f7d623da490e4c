-- The map of a log that was opened.
use Rattle.std.proofs.Common.{◌≡◌, ℕ, List, length, take, Option, Some, sym, ap, ◌∙◌, subst, arith}
use Rattle.std.proofs.lemmas.List.{take_all, length-take}
use Rattle.disk_stores.specs.Records.{entries_of}
use Rattle.disk_stores.specs.Logs.{Holds, Indexes}
use Rattle.disk_stores.specs.Recents.{Remembers}
use Rattle.disk_stores.specs.Scans.{ScansAll}
use Rattle.disk_stores.specs.declared.log.Log.{Log}
use Rattle.disk_stores.specs.declared.scan.Index.{Index}
use Rattle.disk_stores.proofs.Scanning.{scan_all}

pub opens_holds : {D : Type 0} (seen : D → Option (List ℕ)) (log : Log D) (index : Index) (file : List ℕ) → ScansAll file index → seen log.file.disk ≡ Some (take index.end file) → log.file.end ≡ index.end → log.places ≡ index.places
    → Remembers log.recent.slots.items (entries_of file) → Holds seen log (entries_of file)
opens_holds seen log index file all told end places recent =
    let size : length (take index.end file) ≡ index.end = omega (arith, length-take index.end file, all.scanned.within) in
    record {
      bytes = take index.end file;
      on = record {
        file = take index.end file;
        told = told;
        prefix = ap (λ (n : ℕ). take n (take index.end file)) end ∙ take_all index.end (take index.end file) (omega (arith, size));
        long = omega (arith, size, end);
        clean = λ clean. size ∙ sym end;
      };
      indexed = subst (λ p. Indexes p (take index.end file)) (sym places) all.scanned.indexed;
      recent = recent;
      map = scan_all file index all;
    }
