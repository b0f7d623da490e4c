-- A scan of a file, record by record.
use Rattle.std.proofs.Common.{◌≡◌, ℕ, ◌+◌, ◌-◌, ◌<◌, ◌≤◌, ◌⊎◌, inl, inr, min, Bool, true, List, [], ◌∷◌, ◌++◌, length, take, drop, Option, None, Some, refl, sym, ap, ◌∙◌, subst, arith, length-append}
use Rattle.std.proofs.Math.Seq.{take-append_seam, take-add}
use Rattle.std.proofs.lemmas.List.{take_all, length-take, length-drop, take_min, drop-drop, drop_all}
use Rattle.std.specs.Prelude.{if◌then◌else◌}
use Rattle.std.proofs.lemmas.Bool.{cases_lt}
use Rattle.slot_disk.specs.Crash.{Cut, Told, Stay}
use Rattle.disk_stores.specs.Records.{Prefix, prefix_of, with_header, header_in, is_marked, entries_of}
use Rattle.disk_stores.specs.Logs.{Indexes}
use Rattle.disk_stores.specs.Scans.{IsNext, IsPlaced, IsAnnounced, IsScanned, ScansAll}
use Rattle.disk_stores.specs.declared.header.Header.{Header}
use Rattle.disk_stores.specs.declared.scan.Found.{Found}
use Rattle.disk_stores.specs.declared.scan.Index.{Index}
use Rattle.disk_stores.proofs.Prefixes.{chunk_of, header_shown}
use Rattle.disk_stores.proofs.RecordLaws.{entries_end, prefix_cut}
use Rattle.disk_stores.proofs.Indexing.{Places, index_more}

-- what is told of known bytes, and what follows from it
pub told_also : {P Q : List ℕ → Type 0} (o : Option (List ℕ)) → ((file : List ℕ) → o ≡ Some file → P file → Q file) → Told o P → Told o Q
told_also None step is = tt
told_also (Some file) step is = step file refl is

-- what is told of known bytes
pub told_at : (P : List ℕ → Type 0) (o : Option (List ℕ)) (file : List ℕ) → o ≡ Some file → Told o P → P file
told_at P o file is told = subst (λ (p : Option (List ℕ)). Told p P) is told

pub stay_at : (a b : Option (List ℕ)) (file : List ℕ) → a ≡ Some file → Stay a b → b ≡ Some file
stay_at a b file is stay = told_at (λ bytes. b ≡ Some bytes) a file is stay

-- bytes that stay in two calls
pub stays_on : (a b c : Option (List ℕ)) → Stay a b → Stay b c → Stay a c
stays_on a b c first second = told_also a (λ file is now. stay_at b c file now second) first

-- what a read of up to 265 bytes shows of the record
shown : (file : List ℕ) (at n : ℕ) (bytes : List ℕ) → n ≡ min 265 (length file - at) → take n bytes ≡ take n (drop at file) → take n bytes ≡ take 265 (drop at file)
shown file at n bytes count same =
    let e : n ≡ min 265 (length (drop at file)) = omega (arith, count, length-drop at file) in
    same ∙ ap (λ (k : ℕ). take k (drop at file)) e ∙ take_min 265 (drop at file)

pub read_header : (file : List ℕ) (at n : ℕ) (bytes : List ℕ) (o : Option Header) → n ≡ min 265 (length file - at) → take n bytes ≡ take n (drop at file) → o ≡ header_in (take n bytes) → header_in (drop at file) ≡ o
read_header file at n bytes o count same is = sym (header_shown (drop at file)) ∙ ap header_in (sym (shown file at n bytes count same)) ∙ sym is

pub no_header : (bytes : List ℕ) → header_in bytes ≡ None → prefix_of bytes ≡ None
no_header bytes is = ap (λ (o : Option Header). with_header o bytes) is

-- the header announces a record that the file may hold, or none
pub announces : (file : List ℕ) (at end : ℕ) (h : Header) (o : Option Found) → header_in (drop at file) ≡ Some h → end ≡ length file → at ≤ end → IsPlaced h at end o → IsAnnounced at (drop at file) o
announces file at end h None is size le past =
    let over : length (drop at file) ≤ 10 + length h.name + h.len = omega (arith, past, size, le, length-drop at file) in
    ap (λ (o : Option Header). with_header o (drop at file)) is
    ∙ ap (λ (b : Bool). if b then Some (prefix h) else None) (ap is_marked (drop_all (10 + length h.name + h.len) (drop at file) over))
  where
    prefix : Header → Prefix
    prefix h = record { name = h.name; content = take h.len (drop (10 + length h.name) (drop at file)); rest = drop (11 + length h.name + h.len) (drop at file) }
announces file at end h (Some f) is size le (name, place, long) = (h, is, name, place, long)

-- what a read of one byte shows of the end of a record
pub mark_shown : (file : List ℕ) (at n : ℕ) (bytes : List ℕ) → n ≡ min 1 (length file - at) → take n bytes ≡ take n (drop at file) → is_marked (take n bytes) ≡ is_marked (drop at file)
mark_shown file at n bytes count same =
    let e : n ≡ min 1 (length (drop at file)) = omega (arith, count, length-drop at file) in
    ap is_marked (same ∙ ap (λ (k : ℕ). take k (drop at file)) e ∙ take_min 1 (drop at file)) ∙ first (drop at file)
  where
    first : (bytes : List ℕ) → is_marked (take 1 bytes) ≡ is_marked bytes
    first [] = refl
    first (byte ∷ bytes) = refl

marked_long : (bytes : List ℕ) (k : ℕ) → is_marked (drop k bytes) ≡ true → k < length bytes
marked_long bytes k is = by (cases_lt k (length bytes))
  where
    by : (k < length bytes) ⊎ (length bytes ≤ k) → k < length bytes
    by (inl lt) = lt
    by (inr le) = absurd (let e : is_marked [] ≡ true = ap is_marked (sym (drop_all k bytes le)) ∙ is in grind (arith, e))

-- the byte after the content of the record that was announced
last_byte : (file : List ℕ) (at : ℕ) (f : Found) (h : Header) → f.place.at ≡ at + (10 + length h.name) → f.place.len ≡ h.len → drop (10 + length h.name + h.len) (drop at file) ≡ drop (f.place.at + f.place.len) file
last_byte file at f h place long = drop-drop (10 + length h.name + h.len) at file ∙ ap (λ (n : ℕ). drop n file) (let e : at + (10 + length h.name + h.len) ≡ f.place.at + f.place.len = omega (arith, place, long) in e)

abbrev announced_prefix : List ℕ → Header → Prefix
announced_prefix bytes h = record { name = h.name; content = take h.len (drop (10 + length h.name) bytes); rest = drop (11 + length h.name + h.len) bytes }

announced_if : (bytes : List ℕ) (h : Header) (b : Bool) → header_in bytes ≡ Some h → is_marked (drop (10 + length h.name + h.len) bytes) ≡ b → prefix_of bytes ≡ (if b then Some (announced_prefix bytes h) else None)
announced_if bytes h b is marked = ap (λ (o : Option Header). with_header o bytes) is ∙ ap (λ (t : Bool). if t then Some (announced_prefix bytes h) else None) marked

pub ends_some : (file : List ℕ) (at : ℕ) (f : Found) → IsAnnounced at (drop at file) (Some f) → true ≡ is_marked (drop (f.place.at + f.place.len) file) → IsNext at (drop at file) (Some f)
ends_some file at f (h, is, name, place, long) marked =
    let bytes = drop at file in
    let last : is_marked (drop (10 + length h.name + h.len) bytes) ≡ true = ap is_marked (last_byte file at f h place long) ∙ sym marked in
    let within = marked_long bytes (10 + length h.name + h.len) last in
    let size : length (take h.len (drop (10 + length h.name) bytes)) ≡ h.len = omega (arith, length-take h.len (drop (10 + length h.name) bytes), length-drop (10 + length h.name) bytes, within) in
    (announced_prefix bytes h, announced_if bytes h true is last, name, place, long ∙ sym size)

-- after one more record
pub scanned_more : (file : List ℕ) (old new : Index) (f : Found) → IsScanned file old → IsNext old.end (drop old.end file) (Some f) → new.end ≡ f.place.at + f.place.len + 1 → Places f.name (Some f.place) old.places new.places → IsScanned file new
scanned_more file old new f scanned (r, is, name, place, long) end places =
    let c = chunk_of (drop old.end file) r is in
    let size : length (drop old.end file) ≡ length c.chunk + length r.rest = ap length c.split ∙ length-append c.chunk r.rest in
    let end_is : new.end ≡ old.end + length c.chunk = omega (arith, end, place, long, c.size) in
    let prefix : take new.end file ≡ take old.end file ++ c.chunk =
    ap (λ (n : ℕ). take n file) end_is ∙ take-add old.end (length c.chunk) file ∙ ap (λ (l : List ℕ). take old.end file ++ l) (ap (take (length c.chunk)) c.split ∙ take-append_seam c.chunk r.rest) in
    let at : length (take old.end file) ≡ old.end = omega (arith, length-take old.end file, scanned.within) in
    record {
      within = omega (arith, end_is, size, length-drop old.end file, scanned.within);
      indexed = subst (Indexes new.places) (sym prefix)
          (index_more (take old.end file) c.chunk r.name r.content f.place old.places new.places scanned.indexed c.reads
          (record { at = omega (arith, place, at); len = long; size = c.size; holds = c.holds })
          (subst (λ (l : List ℕ). Places l (Some f.place) old.places new.places) name places));
    }

-- the records of a file are those up to the end of the scan, also if the file was cut behind it
pub scan_cut : (file : List ℕ) (index : Index) (n : ℕ) → ScansAll file index → index.end ≤ n → entries_of (take n file) ≡ entries_of (take index.end file)
scan_cut file index n all le =
    let m = n - index.end in
    let parts : take n file ≡ take index.end file ++ take m (drop index.end file) = ap (λ (k : ℕ). take k file) (let e : n ≡ index.end + (n - index.end) = omega (arith, le) in e) ∙ take-add index.end m file in
    ap entries_of parts ∙ entries_end (take index.end file) (take m (drop index.end file)) all.scanned.indexed.whole (prefix_cut (drop index.end file) m all.ended)

pub scan_all : (file : List ℕ) (index : Index) → ScansAll file index → entries_of (take index.end file) ≡ entries_of file
scan_all file index all = sym (scan_cut file index (length file) all all.scanned.within) ∙ ap entries_of (take_all (length file) file (omega arith))

-- a cut that failed changes no record
pub scan_torn : (file after : List ℕ) (index : Index) → ScansAll file index → Cut index.end file after → entries_of after ≡ entries_of file
scan_torn file after index all cut =
    ap entries_of (sym cut.prefix) ∙ scan_cut file index (length after) all (omega (arith, cut.no_shorter, all.scanned.within)) ∙ scan_all file index all
