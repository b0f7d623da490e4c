-- Strings that a call of a backup gave to the hasher.
use Rattle.std.proofs.Common.{◌≡◌, ℕ, ◌+◌, ◌<◌, ◌≤◌, Bool, true, false, cond, List, [], ◌∷◌, ◌++◌, length, get_or, map, take, drop, Option, None, Some, Result, Ok, Err, refl, ap, sym, ◌∙◌, subst, inr, append-nil}
use Rattle.std.specs.Prelude.{IsErr}
use Rattle.std.specs.Result.{IsErrAnd}
use Rattle.std.proofs.lemmas.List.{take_more, map-append}
use Rattle.ens_base.specs.Lists.{same_bytes}
use Rattle.hash_book.specs.Hashing.{Book}
use Rattle.hash_book.specs.declared.error.HashError.{HashError}
use Rattle.hash_book.specs.declared.error.HashError.TheVariants as hashes
use Rattle.tree_repair.specs.Admitting.{Admitted, Rejected, AdmitsAll}
use Rattle.tree_repair.proofs.Admissions.{admitted_append, rejected_first, rejected_then, memory_rejects, TriesOn}
use Rattle.synctree.proofs.Slices.{drop_all}
use Rattle.tree_repair.specs.Builds.{somes, build_nodes}
use Rattle.tree_backup.specs.declared.item.Item.{Item}
use Rattle.synctree.specs.Sixteen.{form_of}
use Rattle.tree_node.specs.declared.version.TreeVersion.TheVariants.{Two}
use Rattle.tree_backup.specs.Checks.{mismatch, under, text_at, texts_of, nodes_unless, judged_strings, strings_if, checked_strings}
use Rattle.tree_backup.specs.Items.{entries_of}
use Rattle.tree_backup.specs.Readings.{backup_of, Fails}
use Rattle.tree_backup.specs.declared.item.Backup.{Backup}
use Rattle.tree_backup.proofs.Reasons.{of_format}
use Rattle.tree_backup.specs.Causes.{of_hash}
use Rattle.tree_backup.specs.Hashed.{HashedErr, Hashed}
use Rattle.tree_backup.specs.declared.error.BackupError.{BackupError}
use Rattle.tree_backup.specs.declared.error.BackupError.TheVariants.{Clash, BookFull, Memory, Mismatch, Top}
use Rattle.tree_backup.specs.declared.item.Content.{Content}

-- one more item of a list is mapped
pub mapped_more : {A B : Type 0} (f : A → B) (xs : List A) (i : ℕ) (x : A) (y : B) (old new : List B) → i < length xs → x ≡ get_or xs i x → y ≡ f x → old ≡ map f (take i xs) → new ≡ old ++ y ∷ [] → new ≡ map f (take (i + 1) xs)
mapped_more f xs i x y old new lt is made so_far more =
    let prefix : take (i + 1) xs ≡ take i xs ++ x ∷ [] = take_more xs i x lt ∙ ap (λ z. take i xs ++ z ∷ []) (sym is) in
    more ∙ (λ j. so_far j ++ made j ∷ []) ∙ sym (map-append f (take i xs) (x ∷ [])) ∙ ap (map f) (sym prefix)

-- `?` returns the error that it met
pub passed_on : {A E : Type 0} (r : Result A E) (e : E) (G : E → Type 0) (P : Result A E → Type 0) → IsErr r → IsErrAnd r G → ((d : E) → G d → d ≡ e) → P (Err e) → P r
passed_on (Ok x) e G P is and same h = absurd cc
passed_on {A} {E} (Err d) e G P is and same h = subst (λ (x : E). P (failed A x)) (sym (same d and)) h
  where
    failed : (A : Type 0) → E → Result A E
    failed A x = Err x

module _ {H : Type 0} (kept : H → Option Book) (clashes fulls : H → ℕ) where
  -- an error of the hasher is passed on
  pub hashed_err : (A : Type 0) (xs : List (List ℕ)) (s t : H) (e : HashError) → Rejected kept clashes fulls xs s e t → Hashed {A = A} kept clashes fulls xs s (Err (of_hash e)) t
  hashed_err A xs s t (hashes.Clash first second) h = h
  hashed_err A xs s t (hashes.BookFull n) h = h
  hashed_err A xs s t hashes.Memory h = h

  err_then : (xs ys : List (List ℕ)) (s u t : H) (e : BackupError) → Admitted kept clashes fulls xs s u → HashedErr kept clashes fulls ys u e t → HashedErr kept clashes fulls (xs ++ ys) s e t
  err_then xs ys s u t (Clash first second) a h = rejected_then kept clashes fulls xs ys s u t (hashes.Clash first second) a h
  err_then xs ys s u t (BookFull n) a h = rejected_then kept clashes fulls xs ys s u t (hashes.BookFull n) a h
  err_then xs ys s u t Memory a h = rejected_then kept clashes fulls xs ys s u t hashes.Memory a h
  err_then xs ys s u t e a h = admitted_append kept clashes fulls xs ys s u t a h

  -- some strings were admitted, and then others were given
  pub hashed_then : {A : Type 0} (xs ys : List (List ℕ)) (s u t : H) (r : Result A BackupError) → Admitted kept clashes fulls xs s u → Hashed kept clashes fulls ys u r t → Hashed kept clashes fulls (xs ++ ys) s r t
  hashed_then xs ys s u t (Ok x) a h = admitted_append kept clashes fulls xs ys s u t a h
  hashed_then xs ys s u t (Err e) a h = err_then xs ys s u t e a h

  pub hashed_under : (b : Bool) (named built : List ℕ) (content : Content) (xs : List (List ℕ)) (s t : H) → Admitted kept clashes fulls xs s t → Hashed {A = Content} kept clashes fulls xs s (cond b (Ok content) (Err (Top named built))) t
  hashed_under true named built content xs s t a = a
  hashed_under false named built content xs s t a = a

  pub hashed_judged : (r : Result Content BackupError) (named built : List ℕ) (content : Content) (xs : List (List ℕ)) (s t : H) → r ≡ under named built content → Admitted kept clashes fulls xs s t → Hashed kept clashes fulls xs s r t
  hashed_judged r named built content xs s t e a = subst (λ (x : Result Content BackupError). Hashed kept clashes fulls xs s x t) (sym e) (hashed_under (same_bytes named built) named built content xs s t a)

  -- memory ran out behind strings that were admitted
  pub memory_end : (xs : List (List ℕ)) (s t : H) → Admitted kept clashes fulls xs s t → Rejected kept clashes fulls xs s hashes.Memory t
  memory_end [] s t same = (refl, same)
  memory_end (x ∷ xs) s t (u, k, c, f, rest) = inr (inr (u, k, c, f, memory_end xs u t rest))

  pub out_of_memory : (xs : List (List ℕ)) (s : H) (e : HashError) → e ≡ hashes.Memory → Rejected kept clashes fulls xs s e s
  out_of_memory xs s e is = subst (λ (d : HashError). Rejected kept clashes fulls xs s d s) (sym is) (memory_rejects kept clashes fulls xs s)

  pub admitted_nothing : (xs : List (List ℕ)) (s t : H) → Admitted kept clashes fulls xs s t → Admitted kept clashes fulls (xs ++ []) s t
  admitted_nothing xs s t a = subst (λ (ys : List (List ℕ)). Admitted kept clashes fulls ys s t) (sym (append-nil xs)) a

  -- all that was to be tried was admitted
  pub tries_end : (all : List (Option (List ℕ))) (i : ℕ) (s u : H) → length all ≤ i → TriesOn kept clashes fulls all (drop i all) s u → AdmitsAll {A = Unit {0}} kept clashes fulls (somes all) s (Ok tt) u
  tries_end all i s u le on = subst (λ (ts : List (Option (List ℕ))). TriesOn kept clashes fulls all ts s u) (drop_all all i le) on (Ok tt) u refl

  pub texts_admitted : (A : Type 0) (texts : List (Option (List ℕ))) (items : List Item) (s t : H) (r : Result A HashError) → texts ≡ map text_at items → AdmitsAll kept clashes fulls (somes texts) s r t → AdmitsAll kept clashes fulls (texts_of items) s r t
  texts_admitted A texts items s t r is h = subst (λ (ts : List (Option (List ℕ))). AdmitsAll kept clashes fulls (somes ts) s r t) is h

  -- ## A backup that was read

  pub judged_err : (b : Backup) (s t : H) (e : HashError) → Rejected kept clashes fulls (texts_of b.items) s e t → Hashed {A = Content} kept clashes fulls (judged_strings b) s (Err (of_hash e)) t
  judged_err b s t e off = hashed_err Content (judged_strings b) s t e (rejected_first kept clashes fulls (texts_of b.items) (nodes_unless (mismatch b.items) (entries_of b.items)) s t e off)

  pub judged_mismatch : (b : Backup) (key : List ℕ) (s t : H) → Some key ≡ mismatch b.items → Admitted kept clashes fulls (texts_of b.items) s t → Hashed {A = Content} kept clashes fulls (judged_strings b) s (Err (Mismatch key)) t
  judged_mismatch b key s t e a = subst (λ (o : Option (List ℕ)). Admitted kept clashes fulls (texts_of b.items ++ nodes_unless o (entries_of b.items)) s t) e (admitted_nothing (texts_of b.items) s t a)

  pub judged_top : (b : Backup) (s u t : H) (r : Result Content BackupError) → None ≡ mismatch b.items → Admitted kept clashes fulls (texts_of b.items) s u → Hashed kept clashes fulls (build_nodes (form_of Two) (entries_of b.items)) u r t → Hashed kept clashes fulls (judged_strings b) s r t
  judged_top b s u t r e a h = subst (λ (o : Option (List ℕ)). Hashed kept clashes fulls (texts_of b.items ++ nodes_unless o (entries_of b.items)) s r t) e (hashed_then (texts_of b.items) (build_nodes (form_of Two) (entries_of b.items)) s u t r a h)

  -- bytes that do not read are not hashed
  pub unread_hashed : (bytes : List ℕ) (s : H) (e : BackupError) → Fails e (backup_of bytes) → Hashed {A = Content} kept clashes fulls (checked_strings bytes) s (Err e) s
  unread_hashed bytes s Memory h = memory_rejects kept clashes fulls (checked_strings bytes) s
  unread_hashed bytes s (Clash first second) h = absurd (of_format bytes (Clash first second) h)
  unread_hashed bytes s (BookFull n) h = absurd (of_format bytes (BookFull n) h)
  unread_hashed bytes s e h = subst (λ (r : Result Backup BackupError). Admitted kept clashes fulls (strings_if r) s s) (sym h) refl

  pub read_hashed : (bytes : List ℕ) (b : Backup) (s t : H) (r : Result Content BackupError) → backup_of bytes ≡ Ok b → Hashed kept clashes fulls (judged_strings b) s r t → Hashed kept clashes fulls (checked_strings bytes) s r t
  read_hashed bytes b s t r e h = subst (λ (x : Result Backup BackupError). Hashed kept clashes fulls (strings_if x) s r t) (sym e) h
