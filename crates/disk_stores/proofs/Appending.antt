-- The map of a log after a put, and after one that failed.
use Rattle.std.proofs.Common.{◌≡◌, ◌≢◌, ℕ, ◌+◌, ◌<◌, ◌≤◌, ◌^◌, List, ◌++◌, length, take, Option, Some, sym, ap, ◌∙◌, subst, arith}
use Rattle.std.proofs.lemmas.List.{length-take}
use Rattle.std.specs.HashMap.{get}
use Rattle.ens_base.specs.Lists.{same_bytes}
use Rattle.environment.specs.Maps.{Entries, value_at, with_value}
use Rattle.environment.proofs.MapLaws.{found_after, others_after}
use Rattle.disk_stores.specs.Records.{record_bytes}
use Rattle.disk_stores.specs.LogFiles.{Begins}
use Rattle.disk_stores.specs.Logs.{Holds}
use Rattle.disk_stores.specs.Recents.{Remembers}
use Rattle.disk_stores.specs.declared.file.LogFile.{LogFile}
use Rattle.disk_stores.specs.declared.log.Log.{Log}
use Rattle.disk_stores.specs.declared.place.Place.{Place}
use Rattle.disk_stores.specs.declared.recent.Recent.{Recent}
use Rattle.disk_stores.proofs.Prefixes.{record_reads, record_size, record_holds}
use Rattle.disk_stores.proofs.RecordLaws.{ReadsAs, entries_more}
use Rattle.disk_stores.proofs.Indexing.{Places, index_more, index_same}

pub prefix_size : {D : Type 0} (seen : D → Option (List ℕ)) (f : LogFile D) (bytes : List ℕ) → Begins seen f bytes → length bytes ≡ f.end
prefix_size seen f bytes on = ap length (sym on.prefix) ∙ (let e : length (take f.end on.file) ≡ f.end = omega (arith, length-take f.end on.file, on.long) in e)

pub put_holds : {D : Type 0} (seen : D → Option (List ℕ)) (old new : Log D) (es : Entries) (name content : List ℕ) (p : Place) → Holds seen old es → length name ≤ 255 → length content < 2 ^ 64
    → ((prefix : List ℕ) → Begins seen old.file prefix → Begins seen new.file (prefix ++ record_bytes name content)) → p.at ≡ old.file.end + 10 + length name → p.len ≡ length content
    → Places name (Some p) old.places new.places
    → ((before after : Entries) → Remembers old.recent.slots.items before → value_at name after ≡ Some content → ((q : List ℕ) → q ≢ name → value_at q after ≡ value_at q before) → Remembers new.recent.slots.items after)
    → Holds seen new (with_value name content es)
put_holds seen old new es name content p holds short small appends at len places keeps = record {
  bytes = holds.bytes ++ chunk;
  on = appends holds.bytes holds.on;
  indexed = index_more holds.bytes chunk name content p old.places new.places holds.indexed reads
      (record { at = omega (arith, at, prefix_size seen old.file holds.bytes holds.on); len = len; size = record_size name content; holds = record_holds name content }) places;
  recent = keeps es (with_value name content es) holds.recent (found_after name content es) (λ q other. others_after name q content es other);
  map = entries_more holds.bytes chunk name content holds.indexed.whole reads ∙ ap (with_value name content) holds.map;
}
  where
    chunk : List ℕ
    chunk = record_bytes name content

    reads : ReadsAs (record_bytes name content) name content
    reads rest = record_reads name content rest short small

-- a call that left the log and the places of the index as they were
pub keeps_holds : {D : Type 0} (seen : D → Option (List ℕ)) (old new : Log D) (es : Entries) → Holds seen old es → ((prefix : List ℕ) → Begins seen old.file prefix → Begins seen new.file prefix)
    → ((q : List ℕ) → get same_bytes new.places q ≡ get same_bytes old.places q) → new.recent ≡ old.recent → Holds seen new es
keeps_holds seen old new es holds stays same kept = record {
  bytes = holds.bytes;
  on = stays holds.bytes holds.on;
  indexed = index_same old.places new.places holds.bytes same holds.indexed;
  recent = subst (λ (r : Recent). Remembers r.slots.items es) (sym kept) holds.recent;
  map = holds.map;
}
