-- The grammar of backups.
use Rattle.std.proofs.Common.{◌≡◌, ℕ, ◌^◌, ◌<◌, Bool, true, false, cond, eqb, List, [], ◌∷◌, ◌++◌, ◌∙◌, length, Option, None, Some, Result, Ok, Err, refl, sym, ap, arith, eq-eqb, append_assoc}
use Rattle.std.specs.Prelude.{IfOk}
use Rattle.std.proofs.lemmas.Bool.{eqb-true, eqb-false}
use Rattle.byteorder.specs.Endian.{big_bytes}
use Rattle.ens_base.specs.Limits.{IsBytes, IsVersion, IsKey}
use Rattle.ens_base.specs.Results.{◌>>=◌}
use Rattle.ens_base.specs.declared.entry.Entry.{Entry}
use Rattle.fields.specs.Entries.{IsEntry, entry_spelling}
use Rattle.fields.specs.Grammar.{IsGrammar}
use Rattle.fields.specs.Numbers.{IsRun, number_at, run_at}
use Rattle.fields.specs.Strings.{key_spelling}
use Rattle.fields.specs.Versions.{version_spelling}
use Rattle.fields.specs.declared.fault.Fault.{Fault}
use Rattle.fields.specs.declared.fault.Fault.TheVariants as faults
use Rattle.fields.specs.declared.field_error.FieldError.{FieldError}
use Rattle.fields.specs.declared.field_error.FieldError.TheVariants as fields
use Rattle.fields.proofs.FieldLaws.{key_grammar}
use Rattle.fields.proofs.GrammarLaws.{Reader, valid_as, spelled_as, field_then, field_last, tested, checked, nothing, right, ok_is, whole_found, whole_again}
use Rattle.fields.proofs.NumberLaws.{byte_grammar, u16_grammar, u32_grammar, run_grammar}
use Rattle.stored_formats.proofs.ObjectLaws.{object_grammar}
use Rattle.stored_formats.specs.Objects.{IsObject, object_spelling}
use Rattle.stored_formats.specs.declared.object_error.ObjectRule.{ObjectRule}
use Rattle.stored_formats.specs.declared.object.Object.{Object}
use Rattle.tree_node.specs.Entries.{is_above}
use Rattle.tree_node.proofs.RepeatLaws.{list_grammar}
use Rattle.tree_node.proofs.EntryLaws.{rest_grammar}
use Rattle.tree_backup.specs.declared.error.BackupError.{BackupError}
use Rattle.tree_backup.specs.declared.error.BackupError.TheVariants.{Trailing, BadTag, Order, Memory}
use Rattle.tree_backup.specs.declared.item.Backup.{Backup}
use Rattle.tree_backup.specs.declared.item.Item.{Item}
use Rattle.tree_backup.specs.Items.{IsHeld, held_spelling, item_spelling, IsNext, AreItems, items_spelling, IsBackup, backup_spelling}
use Rattle.tree_backup.specs.Readings.{ended, keyed, held, magic_at, tag_at, tags_at, entry_at, object_behind, held_at, item_at, items_at, backup_at, all_of, backup_of, Answers}

ended_ok : {X : Type 0} (r : Result X FieldError) (x : X) → ended r ≡ right BackupError x → r ≡ Ok x
ended_ok (Ok y) x e = ap (λ z. Ok z) (ok_is BackupError y x e)
ended_ok (Err (fields.Short at)) x e = absurd cc
ended_ok (Err (fields.Rule at)) x e = absurd cc
ended_ok (Err fields.Memory) x e = absurd cc

keyed_ok : {X : Type 0} (r : Result X FieldError) (x : X) → keyed r ≡ right BackupError x → r ≡ Ok x
keyed_ok (Ok y) x e = ap (λ z. Ok z) (ok_is BackupError y x e)
keyed_ok (Err (fields.Short at)) x e = absurd cc
keyed_ok (Err (fields.Rule at)) x e = absurd cc
keyed_ok (Err fields.Memory) x e = absurd cc

held_ok : {X : Type 0} (r : Result X (Fault ObjectRule)) (x : X) → held r ≡ right BackupError x → r ≡ Ok x
held_ok (Ok y) x e = ap (λ z. Ok z) (ok_is BackupError y x e)
held_ok (Err (faults.Ended at)) x e = absurd cc
held_ok (Err (faults.Broken rule at)) x e = absurd cc
held_ok (Err faults.NoMemory) x e = absurd cc

ended_grammar : {A : Type 0} {IsValid : A → Type 0} {spelling : A → List ℕ} {read : Reader A FieldError} → IsGrammar IsValid spelling read → IsGrammar IsValid spelling (λ bytes at. ended (read bytes at))
ended_grammar {read = read} g = record {
  found = λ bytes at x end fits e. g.found bytes at x end fits (ended_ok (read bytes at) (x, end) e);
  again = λ bytes at x rest good e. ap ended (g.again bytes at x rest good e);
}

keyed_grammar : {A : Type 0} {IsValid : A → Type 0} {spelling : A → List ℕ} {read : Reader A FieldError} → IsGrammar IsValid spelling read → IsGrammar IsValid spelling (λ bytes at. keyed (read bytes at))
keyed_grammar {read = read} g = record {
  found = λ bytes at x end fits e. g.found bytes at x end fits (keyed_ok (read bytes at) (x, end) e);
  again = λ bytes at x rest good e. ap keyed (g.again bytes at x rest good e);
}

object_held : {A : Type 0} {IsValid : A → Type 0} {spelling : A → List ℕ} {read : Reader A (Fault ObjectRule)} → IsGrammar IsValid spelling read → IsGrammar IsValid spelling (λ bytes at. held (read bytes at))
object_held {read = read} g = record {
  found = λ bytes at x end fits e. g.found bytes at x end fits (held_ok (read bytes at) (x, end) e);
  again = λ bytes at x rest good e. ap held (g.again bytes at x rest good e);
}

-- ## The tags

magic_grammar : IsGrammar (λ n. n ≡ 21058) (λ _. 82 ∷ 66 ∷ []) magic_at
unfolding magic_at
magic_grammar =
    let parts : IsGrammar (λ n. n ≡ 21058) (big_bytes 2) magic_at = valid_as (λ n h. eqb-true _ _ h.1) (λ n h. (omega (arith, h), eq-eqb _ _ h)) (checked (λ n. eqb n 21058) (λ _. BadTag) (ended_grammar u16_grammar)) in
    spelled_as (λ n h. ap (big_bytes 2) h) parts

tag_grammar : (tag : ℕ) → tag < 256 → IsGrammar (λ n. n ≡ tag) (λ n. n ∷ []) (tag_at tag)
unfolding tag_at
tag_grammar tag low = valid_as (λ n h. eqb-true _ _ h.1) (λ n h. (omega (arith, h), eq-eqb _ _ h)) (checked (λ n. eqb n tag) (λ _. BadTag) (ended_grammar byte_grammar))

versions_grammar : IsGrammar (λ n. n ≡ 2) (λ n. 1 ∷ n ∷ []) (λ bytes at. tag_at 1 bytes at >>= λ x. tag_at 2 bytes x.1)
versions_grammar =
    valid_as (λ n h. h.1.1) (λ n h. (tt, (refl, h)))
    (field_then (tag_grammar 1 (omega arith)) (λ (_ : ℕ). 1) {P = λ _. Unit {0}} {IsRest = λ n. n ≡ 2} {rest_spelling = λ n. n ∷ []} (λ x _ bytes. tag_at 2 bytes x.1)
    (λ v _ is. valid_as (λ n h. ((tt, sym is), h)) (λ n h. h.1) (tag_grammar 2 (omega arith))))

tags_grammar : IsGrammar (λ n. n ≡ 2) (λ n. 82 ∷ 66 ∷ 1 ∷ n ∷ []) tags_at
unfolding tags_at
tags_grammar =
    valid_as (λ n h. h.1.1) (λ n h. (tt, (refl, h)))
    (field_then magic_grammar (λ (_ : ℕ). 21058) {P = λ _. Unit {0}} {IsRest = λ n. n ≡ 2} {rest_spelling = λ n. 1 ∷ n ∷ []} (λ x _ bytes. tag_at 1 bytes x.1 >>= λ y. tag_at 2 bytes y.1)
    (λ m _ is. valid_as (λ n h. ((tt, sym is), h)) (λ n h. h.1) versions_grammar))

-- ## Items

entry_grammar : (low : List ℕ) → IsGrammar (λ (e : Entry). (is_above low e.key ≡ true) × IsEntry e) entry_spelling (entry_at low)
unfolding entry_at
entry_grammar low =
    let parts : IsGrammar (λ (e : Entry). Unit {0} × (IsKey e.key × ((is_above low e.key ≡ true) × (IsVersion e.version × IsRun 16 e.digest)))) (λ e. key_spelling e.key ++ (version_spelling e.version ++ e.digest)) (entry_at low) =
    field_then (keyed_grammar key_grammar) (λ (e : Entry). e.key) _
    (λ key _ _. valid_as
    (λ e h. (h.1.0, (ap (λ (k : List ℕ). is_above low k) h.1.0.1 ∙ h.0, h.1.1)))
    (λ e h. (ap (λ (k : List ℕ). is_above low k) (sym h.0.1) ∙ h.1.0, (h.0, h.1.1)))
    (tested (is_above low key) Order (ended_grammar (rest_grammar key)))) in
    valid_as (λ e h. (h.1.1.0, record { key = h.1.0; version = h.1.1.1.0; digest = h.1.1.1.1 })) (λ e h. (tt, (h.1.key, (h.0, (h.1.version, h.1.digest)))))
    (spelled_as (λ e h. sym (append_assoc (key_spelling e.key) (version_spelling e.version) e.digest)) parts)

-- the flag before an object
abbrev flag_of : Option Object → ℕ
flag_of None = 0
flag_of (Some o) = 1

-- what stands behind the flag
abbrev behind_spelling : Option Object → List ℕ
behind_spelling None = []
behind_spelling (Some o) = object_spelling o

abbrev any_object : Object
any_object = record { version = record { epoch = record { count = 0; proposer = 0 }; seq = 0 }; stamp = record { epoch = record { count = 0; proposer = 0 }; seq = 0 }; key = []; value = None }

abbrev object_or_any : Option Object → Object
object_or_any None = any_object
object_or_any (Some o) = o

made_behind : (o : Option Object) → flag_of o ≡ 1 → Some (object_or_any o) ≡ o
made_behind None e = absurd (omega arith)
made_behind (Some x) e = refl

behind_to : (o : Option Object) → (flag_of o ≡ 1) × IsObject (object_or_any o) → (flag_of o ≡ 1) × IsHeld o
behind_to None h = absurd (omega (arith, h.0))
behind_to (Some x) h = h

behind_from : (o : Option Object) → (flag_of o ≡ 1) × IsHeld o → (flag_of o ≡ 1) × IsObject (object_or_any o)
behind_from None h = absurd (omega (arith, h.0))
behind_from (Some x) h = h

behind_spelled : (o : Option Object) → (flag_of o ≡ 1) × IsHeld o → object_spelling (object_or_any o) ≡ behind_spelling o
behind_spelled None h = absurd (omega (arith, h.0))
behind_spelled (Some x) h = refl

behind_grammar : IsGrammar (λ o. (flag_of o ≡ 1) × IsHeld o) behind_spelling object_behind
unfolding object_behind
behind_grammar =
    let parts : IsGrammar (λ o. (flag_of o ≡ 1) × IsObject (object_or_any o)) (λ o. object_spelling (object_or_any o)) object_behind =
    field_last (object_held object_grammar) object_or_any (λ o. Some o) (λ _. refl) (λ _. refl) made_behind in
    spelled_as behind_spelled (valid_as behind_to behind_from parts)

none_is : (o : Option Object) → flag_of o ≡ 0 → None ≡ o
none_is None e = refl
none_is (Some x) e = absurd (omega arith)

is_none : (o : Option Object) → None ≡ o → (flag_of o ≡ 0) × IsHeld o
is_none None e = (refl, tt)
is_none (Some x) e = absurd cc

none_spelled : (o : Option Object) → None ≡ o → [] ≡ behind_spelling o
none_spelled None e = refl
none_spelled (Some x) e = absurd cc

none_grammar : IsGrammar {E = BackupError} (λ o. (flag_of o ≡ 0) × IsHeld o) behind_spelling (λ bytes at. Ok (None, at))
none_grammar = valid_as is_none (λ o h. none_is o h.0) (spelled_as none_spelled (nothing None))

error_is_no : {A : Type 0} (d : BackupError) (x : A) → (let left : Result A BackupError = Err d in left) ≡ Ok x → ⊥
error_is_no d x e = cc

flag_is : (o : Option Object) → (flag_of o ≡ 0 → ⊥) → (flag_of o ≡ 1 → ⊥) → ⊥
flag_is None a b = a refl
flag_is (Some x) a b = b refl

flagged_by : (n : ℕ) (none some : Bool) → eqb n 0 ≡ none → eqb n 1 ≡ some → IsGrammar (λ o. (Unit {0} × (flag_of o ≡ n)) × IsHeld o) behind_spelling
    (λ bytes at. cond none (right BackupError (None, at)) (cond some (object_behind bytes at) (Err BadTag)))
flagged_by n true some a b = let is : n ≡ 0 = eqb-true _ _ a in valid_as (λ o h. ((tt, h.0 ∙ sym is), h.1)) (λ o h. (h.0.1 ∙ is, h.1)) none_grammar
flagged_by n false true a b = let is : n ≡ 1 = eqb-true _ _ b in valid_as (λ o h. ((tt, h.0 ∙ sym is), h.1)) (λ o h. (h.0.1 ∙ is, h.1)) behind_grammar
flagged_by n false false a b = record {
  found = λ bytes at x end fits e. absurd (error_is_no BadTag (x, end) e);
  again = λ bytes at x rest good e. absurd (flag_is x (λ zero. eqb-false _ _ a (sym good.0.1 ∙ zero)) (λ one. eqb-false _ _ b (sym good.0.1 ∙ one)));
}

flag_fits : (o : Option Object) → flag_of o < 256
flag_fits None = omega arith
flag_fits (Some x) = omega arith

flag_spelled : (o : Option Object) → flag_of o ∷ behind_spelling o ≡ held_spelling o
flag_spelled None = refl
flag_spelled (Some x) = refl

held_grammar : IsGrammar IsHeld held_spelling held_at
unfolding held_at
held_grammar =
    let parts : IsGrammar (λ o. Unit {0} × ((flag_of o < 256) × IsHeld o)) (λ o. flag_of o ∷ behind_spelling o) held_at =
    field_then (ended_grammar byte_grammar) flag_of _ (λ n _ _. flagged_by n (eqb n 0) (eqb n 1) refl refl) in
    spelled_as (λ o _. flag_spelled o) (valid_as (λ o h. h.1.1) (λ o h. (tt, (flag_fits o, h))) parts)

remade_item : (x : Item) (entry : Entry) → entry ≡ x.entry → (let made : Item = record { entry = entry; object = x.object } in made) ≡ x
remade_item x entry e = λ i. record { entry = e i; object = x.object }

item_grammar : (low : List ℕ) → IsGrammar (IsNext low) item_spelling (item_at low)
unfolding item_at
item_grammar low =
    let parts : IsGrammar (λ (x : Item). Unit {0} × (((is_above low x.entry.key ≡ true) × IsEntry x.entry) × IsHeld x.object)) item_spelling (item_at low) =
    field_then (entry_grammar low) (λ (x : Item). x.entry) _
    (λ entry _ _. field_last held_grammar (λ (x : Item). x.object) (λ object. record { entry = entry; object = object }) {P = λ x. Unit {0} × (x.entry ≡ entry)} (λ _. refl) (λ _. (tt, refl)) (λ x h. remade_item x entry (sym h.1))) in
    valid_as (λ x h. (h.1.0.0, record { entry = h.1.0.1; object = h.1.1 })) (λ x h. (tt, ((h.0, h.1.entry), h.1.object))) parts

items_grammar : (n : ℕ) → IsGrammar (λ xs. AreItems xs × (length xs ≡ n)) items_spelling (items_at n)
items_grammar n = list_grammar item_at (λ (x : Item). x.entry.key) IsNext item_spelling item_grammar n []

-- ## Backups

remade_backup : (b : Backup) (top : List ℕ) → top ≡ b.top → (let made : Backup = record { top = top; items = b.items } in made) ≡ b
remade_backup b top e = λ i. record { top = e i; items = b.items }

fields_grammar : IsGrammar (λ (b : Backup). IsRun 16 b.top × ((length b.items < 2 ^ 32) × AreItems b.items)) (λ b. b.top ++ (big_bytes 4 (length b.items) ++ items_spelling b.items))
    (λ bytes at. ended (run_at 16 bytes at) >>= λ top. ended (number_at 4 bytes top.1) >>= λ count. items_at count.0 bytes count.1 >>= λ items. Ok (record { top = top.0; items = items.0 }, items.1))
fields_grammar =
    valid_as (λ b h. h.1) (λ b h. (tt, h))
    (field_then (ended_grammar (run_grammar 16)) (λ (b : Backup). b.top) {P = λ _. Unit {0}} _
    (λ top _ _. field_then (ended_grammar u32_grammar) (λ (b : Backup). length b.items) _
    (λ count _ _. valid_as
    (λ b h. ((h.0, h.1.1), h.1.0))
    (λ b h. (h.0.0, (h.1, h.0.1)))
    (field_last (items_grammar count) (λ (b : Backup). b.items) (λ items. record { top = top; items = items }) {P = λ b. Unit {0} × (b.top ≡ top)} (λ _. refl) (λ _. (tt, refl)) (λ b h. remade_backup b top (sym h.1))))))

backup_grammar : IsGrammar IsBackup backup_spelling backup_at
unfolding backup_at
backup_grammar =
    let parts : IsGrammar (λ (b : Backup). Unit {0} × ((2 ≡ 2) × (IsRun 16 b.top × ((length b.items < 2 ^ 32) × AreItems b.items)))) backup_spelling backup_at =
    field_then tags_grammar (λ (_ : Backup). 2) _
    (λ tag _ is. valid_as (λ b h. ((tt, sym is), h)) (λ b h. h.1) fields_grammar) in
    valid_as (λ b h. record { top = h.1.1.0; few = h.1.1.1.0; items = h.1.1.1.1 }) (λ b h. (tt, (refl, (h.top, (h.few, h.items))))) parts

pub all_answers : (r read : Result (Backup × ℕ) BackupError) (size : ℕ) → Answers r read → Answers (all_of r size) (all_of read size)
all_answers (Ok x) read size h = rw h (same (eqb x.1 size))
  where
    same : (b : Bool) → Answers (cond b (right BackupError x.0) (Err Trailing)) (cond b (Ok x.0) (Err Trailing))
    same true = refl
    same false = refl
all_answers (Err Memory) read size h = tt
all_answers (Err e) read size h = rw h refl

all_ok : (r : Result (Backup × ℕ) BackupError) (size : ℕ) (b : Backup) → all_of r size ≡ right BackupError b → r ≡ Ok (b, size)
all_ok (Ok x) size b e = by (eqb x.1 size) refl e
  where
    by : (t : Bool) → eqb x.1 size ≡ t → cond t (right BackupError x.0) (Err Trailing) ≡ right BackupError b → right BackupError x ≡ Ok (b, size)
    by true t h = let is : x.0 ≡ b = ok_is BackupError x.0 b h in let ends : x.1 ≡ size = eqb-true _ _ t in λ i. Ok (is i, ends i)
    by false t h = absurd cc
all_ok (Err d) size b e = absurd cc

-- what is read was spelled so
pub backup_found : (bytes : List ℕ) (r : Result Backup BackupError) → IsBytes bytes → Answers r (backup_of bytes) → IfOk r (λ b. IsBackup b × (bytes ≡ backup_spelling b))
backup_found bytes (Ok b) fits h = whole_found backup_grammar bytes b fits (all_ok (backup_at bytes 0) (length bytes) b h)
backup_found bytes (Err e) fits h = tt

-- what is spelled so is read
pub backup_again : (bytes : List ℕ) (b : Backup) → IsBackup b → bytes ≡ backup_spelling b → backup_of bytes ≡ Ok b
backup_again bytes b good e =
    let ends : eqb (length bytes) (length bytes) ≡ true = eq-eqb _ _ refl in
    rw (whole_again backup_grammar bytes b good e, ends) refl
