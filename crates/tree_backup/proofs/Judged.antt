-- What a check answers: the content of a backup, and of nothing else.
use Rattle.std.proofs.Common.{◌≡◌, ℕ, ◌^◌, ◌<◌, Bool, true, false, cond, List, [], length, map, Option, None, Some, Result, Ok, Err, refl, ap, sym, ◌∙◌, subst, arith}
use Rattle.std.specs.Prelude.{IfOk}
use Rattle.std.specs.List.{AllByRecursion}
use Rattle.ens_base.proofs.Lists.{bytes_same, bytes_itself}
use Rattle.ens_base.specs.Lists.{same_bytes}
use Rattle.ens_base.specs.Results.{◌>>=◌}
use Rattle.ens_base.specs.declared.entry.Entry.{Entry}
use Rattle.fields.proofs.GrammarLaws.{ok_is}
use Rattle.hash_book.specs.declared.error.HashError.{HashError}
use Rattle.hash_book.specs.declared.error.HashError.TheVariants as hashes
use Rattle.stored_formats.specs.declared.object.Object.{Object}
use Rattle.synctree.proofs.Names.{md5_run}
use Rattle.synctree.specs.Entries.{IsMap}
use Rattle.tree_node.specs.Entries.{AreAbove}
use Rattle.tree_repair.proofs.Lists.{length_of_map}
use Rattle.tree_backup.specs.Causes.{of_hash}
use Rattle.tree_backup.specs.Checks.{top_of, backup_with, Spells, mismatch, under, unless, judged, check_of, Refuses, Passes}
use Rattle.tree_backup.specs.Items.{IsItem, IsBackup, backup_spelling, entries_of, objects_of, content_of, KeysAbove}
use Rattle.tree_backup.specs.Readings.{Fails}
use Rattle.tree_backup.specs.Runs.{matched}
use Rattle.tree_backup.specs.declared.error.BackupError.{BackupError}
use Rattle.tree_backup.specs.declared.error.BackupError.TheVariants.{Mismatch, Top, Clash, BookFull, Memory}
use Rattle.tree_backup.specs.declared.item.Backup.{Backup}
use Rattle.tree_backup.specs.declared.item.Content.{Content}
use Rattle.tree_backup.specs.declared.item.Item.{Item}
use Rattle.tree_backup.proofs.Ascending.{entries_above, objects_above, items_listed, ascends_of, entries_valid}
use Rattle.tree_backup.proofs.Grammars.{backup_again}
use Rattle.tree_backup.proofs.Matches.{all_match, none_mismatch, all_matched, matched_entries}

-- a call answers what it is said to answer
pub passes_itself : (r : Result Content BackupError) → Passes r r
passes_itself (Ok c) = refl
passes_itself (Err (Clash first second)) = tt
passes_itself (Err (BookFull n)) = tt
passes_itself (Err Memory) = tt
passes_itself (Err e) = refl

-- an error of the hasher says nothing of the bytes
pub passes_hash : (e : HashError) (checked : Result Content BackupError) → Passes (Err (of_hash e)) checked
passes_hash (hashes.Clash first second) checked = tt
passes_hash (hashes.BookFull n) checked = tt
passes_hash hashes.Memory checked = tt

-- bytes that do not read have the fault of the reading
pub unread : (e : BackupError) (read : Result Backup BackupError) → Fails e read → Refuses e (read >>= judged)
unread (Clash first second) read h = tt
unread (BookFull n) read h = tt
unread Memory read h = tt
unread e read h = ap (λ r. r >>= judged) h

-- what is said of a backup that was read is said of the bytes
pub was_read : (r : Result Content BackupError) (b : Backup) (read : Result Backup BackupError) → read ≡ Ok b → Passes r (judged b) → Passes r (read >>= judged)
was_read r b read e h = subst (λ (x : Result Backup BackupError). Passes r (x >>= judged)) (sym e) h

pub mismatched : (key : List ℕ) (b : Backup) → Some key ≡ mismatch b.items → Passes (Err (Mismatch key)) (judged b)
mismatched key b e = ap (λ (o : Option (List ℕ)). unless o (under b.top (top_of (entries_of b.items)) (content_of b.items))) (sym e)

pub all_matching : (r : Result Content BackupError) (b : Backup) → None ≡ mismatch b.items → Passes r (under b.top (top_of (entries_of b.items)) (content_of b.items)) → Passes r (judged b)
all_matching r b e h = subst (λ (o : Option (List ℕ)). Passes r (unless o (under b.top (top_of (entries_of b.items)) (content_of b.items)))) e h

pub judged_under : (r : Result Content BackupError) (named built : List ℕ) (content : Content) (items : List Item) → r ≡ under named built content → built ≡ top_of (entries_of items) → content ≡ content_of items → Passes r (under named (top_of (entries_of items)) (content_of items))
judged_under r named built content items e b c =
    let same : under named built content ≡ under named (top_of (entries_of items)) (content_of items) = λ i. under named (b i) (c i) in
    subst (λ (x : Result Content BackupError). Passes r x) (e ∙ same) (passes_itself r)

-- ## Which bytes pass

under_ok : (named built : List ℕ) (c content : Content) → under named built c ≡ Ok content → (named ≡ built) × (content ≡ c)
under_ok named built c content e = by (same_bytes named built) refl e
  where
    by : (b : Bool) → same_bytes named built ≡ b → cond b (let r : Result Content BackupError = Ok c in r) (Err (Top named built)) ≡ Ok content → (named ≡ built) × (content ≡ c)
    by true t h = (bytes_same named built t, sym (ok_is BackupError c content h))
    by false t h = absurd cc

unless_ok : (o : Option (List ℕ)) (r : Result Content BackupError) (content : Content) → unless o r ≡ Ok content → (o ≡ None) × (r ≡ Ok content)
unless_ok None r content e = (refl, e)
unless_ok (Some key) r content e = absurd cc

spells_same : (b : Backup) (top : List ℕ) → b.top ≡ top → backup_spelling b ≡ backup_spelling (backup_with top b.items)
spells_same b top e = ap (λ (t : List ℕ). backup_spelling (backup_with t b.items)) e

-- the items of bytes that pass
pub passed : (bytes : List ℕ) (b : Backup) (content : Content) → IsBackup b → bytes ≡ backup_spelling b → judged b ≡ Ok content → Spells bytes b.items × (content ≡ content_of b.items)
passed bytes b content good is e =
    let u = unless_ok (mismatch b.items) (under b.top (top_of (entries_of b.items)) (content_of b.items)) content e in
    let t = under_ok b.top (top_of (entries_of b.items)) (content_of b.items) content u.1 in
    (record { items = good.items; few = good.few; matching = all_match b.items u.0; spelled = is ∙ spells_same b (top_of (entries_of b.items)) t.0 }, t.1)

-- bytes that spell a backup pass
pub passes : (bytes : List ℕ) (items : List Item) → Spells bytes items → check_of bytes ≡ Ok (content_of items)
passes bytes items s =
    let top = top_of (entries_of items) in
    let good : IsBackup (backup_with top items) = record { top = md5_run _; few = s.few; items = s.items } in
    let test : same_bytes top top ≡ true = bytes_itself top in
    ap (λ (r : Result Backup BackupError). r >>= judged) (backup_again bytes (backup_with top items) good s.spelled)
    ∙ ap (λ (o : Option (List ℕ)). unless o (under top top (content_of items))) (none_mismatch items s.matching)
    ∙ ap (λ (b : Bool). cond b (let r : Result Content BackupError = Ok (content_of items) in r) (Err (Top top top))) test

-- the answer to bytes that spell a backup
pub only : (r : Result Content BackupError) (bytes : List ℕ) (items : List Item) → Passes r (check_of bytes) → Spells bytes items → Passes r (Ok (content_of items))
only r bytes items h s = subst (λ (x : Result Content BackupError). Passes r x) (passes bytes items s) h

-- ## What a backup wrote

pub wrote : (es : List Entry) (items : List Item) (bytes top : List ℕ) → entries_of items ≡ es → AreAbove [] es → top ≡ top_of es → bytes ≡ backup_spelling (backup_with top (map matched items)) → length (map matched items) < 2 ^ 32 → AllByRecursion IsItem (map matched items)
    → Spells bytes (map matched items)
wrote es items bytes top same up is spelled few valid =
    let entries : entries_of (map matched items) ≡ es = matched_entries items ∙ same in
    record {
      items = items_listed [] (map matched items) (subst (AreAbove []) (sym entries) up) valid;
      few = few;
      matching = all_matched items;
      spelled = spelled ∙ ap (λ (t : List ℕ). backup_spelling (backup_with t (map matched items))) (is ∙ ap top_of (sym entries));
    }

pub entries_ascend : (bytes : List ℕ) (items : List Item) → Spells bytes items → AreAbove [] (entries_of items)
entries_ascend bytes items s = entries_above [] items s.items

pub objects_ascend : (bytes : List ℕ) (items : List Item) → Spells bytes items → KeysAbove [] (map (λ (o : Object). o.key) (objects_of items))
objects_ascend bytes items s = objects_above [] items s.items s.matching

pub is_map : (bytes : List ℕ) (items : List Item) → Spells bytes items → IsMap (entries_of items)
is_map bytes items s = record {
  ascends = ascends_of [] (entries_of items) (entries_above [] items s.items);
  entries = entries_valid [] items s.items;
  few = omega (arith, s.few, length_of_map (λ (x : Item). x.entry) items);
}

-- ## The content that is returned

pub found_of : (bytes : List ℕ) (b : Backup) (r : Result Content BackupError) → IsBackup b → bytes ≡ backup_spelling b → Passes r (judged b) → IfOk r (λ c. (items : List Item) × Spells bytes items × (c ≡ content_of items))
found_of bytes b (Ok c) good is h = let p = passed bytes b c good is h in (b.items, p.0, p.1)
found_of bytes b (Err e) good is h = tt

pub map_of : (bytes : List ℕ) (b : Backup) (r : Result Content BackupError) → IsBackup b → bytes ≡ backup_spelling b → Passes r (judged b) → IfOk r (λ c. IsMap c.entries)
map_of bytes b (Ok c) good is h = let p = passed bytes b c good is h in subst (λ (x : Content). IsMap x.entries) (sym p.1) (is_map bytes b.items p.0)
map_of bytes b (Err e) good is h = tt

pub above_of : (bytes : List ℕ) (b : Backup) (r : Result Content BackupError) → IsBackup b → bytes ≡ backup_spelling b → Passes r (judged b) → IfOk r (λ c. AreAbove [] c.entries)
above_of bytes b (Ok c) good is h = let p = passed bytes b c good is h in subst (λ (x : Content). AreAbove [] x.entries) (sym p.1) (entries_ascend bytes b.items p.0)
above_of bytes b (Err e) good is h = tt

pub keys_of : (bytes : List ℕ) (b : Backup) (r : Result Content BackupError) → IsBackup b → bytes ≡ backup_spelling b → Passes r (judged b) → IfOk r (λ c. KeysAbove [] (map (λ (o : Object). o.key) c.objects))
keys_of bytes b (Ok c) good is h = let p = passed bytes b c good is h in subst (λ (x : Content). KeysAbove [] (map (λ (o : Object). o.key) x.objects)) (sym p.1) (objects_ascend bytes b.items p.0)
keys_of bytes b (Err e) good is h = tt
