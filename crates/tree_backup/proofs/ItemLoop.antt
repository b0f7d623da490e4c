-- A loop that reads items one after another.
use Rattle.std.proofs.Common.{◌≡◌, ℕ, suc, ◌-◌, ◌+◌, ◌≤◌, ◌<◌, List, [], ◌∷◌, ◌++◌, length, Some, Result, Ok, Err, refl, sym, ap, ◌∙◌, append_assoc, append-nil, arith, length-append}
use Rattle.std.specs.Prelude.{slice_get}
use Rattle.ens_base.specs.Results.{◌>>=◌}
use Rattle.fields.proofs.GrammarLaws.{Reader}
use Rattle.tree_node.specs.Repeats.{list_at}
use Rattle.tree_node.proofs.RepeatLaws.{with_prefix}
use Rattle.tree_backup.specs.declared.error.BackupError.{BackupError}
use Rattle.tree_backup.specs.declared.error.BackupError.TheVariants.{Memory}
use Rattle.tree_backup.specs.declared.item.Item.{Item}
use Rattle.tree_backup.specs.Readings.{key_or_none, last_key, Fails}

regroup : {A : Type 0} (prefix : List A) (x : A) (read : Result (List A × ℕ) BackupError) → with_prefix prefix (read >>= λ y. Ok (x ∷ y.0, y.1)) ≡ with_prefix (prefix ++ x ∷ []) read
regroup prefix x (Ok y) = ap (λ xs. Ok (xs, y.1)) (sym (append_assoc prefix (x ∷ []) y.0))
regroup prefix x (Err e) = refl

pub goes_on : {B A : Type 0} (item : B → Reader A BackupError) (after : A → B) (count i : ℕ) (b : B) (bytes : List ℕ) (place : ℕ) (prefix : List A) (x : A) (next : ℕ) (total : Result (List A × ℕ) BackupError)
    → i < count → item b bytes place ≡ Ok (x, next) → with_prefix prefix (list_at item after (count - i) b bytes place) ≡ total → with_prefix (prefix ++ x ∷ []) (list_at item after (count - (i + 1)) (after x) bytes next) ≡ total
unfolding list_at
goes_on item after count i b bytes place prefix x next total lt h so_far =
    let k : count - i ≡ suc (count - (i + 1)) = omega arith in
    let one : with_prefix prefix (list_at item after (count - i) b bytes place) ≡ with_prefix (prefix ++ x ∷ []) (list_at item after (count - (i + 1)) (after x) bytes next) = rw (k, h) (regroup prefix x (list_at item after (count - (i + 1)) (after x) bytes next)) in
    sym one ∙ so_far

failed_on : {B A : Type 0} (e : BackupError) (item : B → Reader A BackupError) (after : A → B) (count i : ℕ) (b : B) (bytes : List ℕ) (place : ℕ) (prefix : List A) (total : Result (List A × ℕ) BackupError)
    → i < count → item b bytes place ≡ Err e → with_prefix prefix (list_at item after (count - i) b bytes place) ≡ total → total ≡ Err e
unfolding list_at
failed_on e item after count i b bytes place prefix total lt h so_far =
    let k : count - i ≡ suc (count - (i + 1)) = omega arith in
    let one : with_prefix prefix (list_at item after (count - i) b bytes place) ≡ Err e = rw (k, h) refl in
    sym so_far ∙ one

pub stops : {B A : Type 0} (e : BackupError) (item : B → Reader A BackupError) (after : A → B) (count i : ℕ) (b : B) (bytes : List ℕ) (place : ℕ) (prefix : List A) (total : Result (List A × ℕ) BackupError)
    → i < count → Fails e (item b bytes place) → with_prefix prefix (list_at item after (count - i) b bytes place) ≡ total → Fails e total
stops Memory item after count i b bytes place prefix total lt h so_far = tt
stops e item after count i b bytes place prefix total lt h so_far = failed_on e item after count i b bytes place prefix total lt h so_far

pub is_done : {B A : Type 0} (item : B → Reader A BackupError) (after : A → B) (count i : ℕ) (b : B) (bytes : List ℕ) (place : ℕ) (prefix : List A) (total : Result (List A × ℕ) BackupError)
    → count ≤ i → with_prefix prefix (list_at item after (count - i) b bytes place) ≡ total → total ≡ Ok (prefix, place)
unfolding list_at
is_done item after count i b bytes place prefix total le so_far =
    let k : count - i ≡ 0 = omega arith in
    let one : with_prefix prefix (list_at item after (count - i) b bytes place) ≡ Ok (prefix, place) = rw k (ap (λ xs. Ok (xs, place)) (append-nil prefix)) in
    sym so_far ∙ one

slice_get-last : (xs : List Item) (x : Item) → slice_get (xs ++ x ∷ []) (length xs) ≡ Some x
slice_get-last [] x = refl
slice_get-last (y ∷ xs) x = slice_get-last xs x

pub last_key-push : (xs : List Item) (x : Item) → last_key (xs ++ x ∷ []) ≡ x.entry.key
last_key-push xs x =
    let place : length (xs ++ x ∷ []) - 1 ≡ length xs = omega (arith, length-append xs (x ∷ [])) in
    ap (λ (n : ℕ). key_or_none (slice_get (xs ++ x ∷ []) n)) place ∙ ap key_or_none (slice_get-last xs x)
