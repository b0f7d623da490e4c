-- What is found at each key after a change at one key.
use Rattle.std.proofs.Common.{◌≡◌, ◌+◌, arith, ℕ, Bool, true, false, cond, List, [], ◌∷◌, length, Option, None, Some, refl, sym, ap, subst, ◌∙◌, Ordering, Less, Equal, Greater, is_eq}
use Rattle.std.specs.Ordering.{match_ordering}
use Rattle.std.specs.BTreeMap.{is_at, insert_entry}
use Rattle.std.specs.Map.{lookup}
use Rattle.std.proofs.lemmas.Map.Text.{is_eq-slice_cmp}
use Rattle.ens_base.specs.Lists.{bytes_cmp, same_bytes}
use Rattle.ens_base.proofs.Lists.{bytes_same, bytes_itself}
use Rattle.call_table.specs.Calls.{running, without_running, waiting_on}
use Rattle.call_table.specs.Rows.{Rows, row_at, row_or_fresh, with_row, with_known, with_stage}
use Rattle.call_table.specs.declared.row.KeyRow.{KeyRow}
use Rattle.call_table.specs.declared.row.Known.{Known}
use Rattle.call_table.specs.declared.row.Stage.{Stage}
use Rattle.call_table.specs.declared.waiting.Waiting.{Waiting}

-- bytes that are equal to one key are not equal to a different key
off_key : (key k xs : List ℕ) → same_bytes key k ≡ false → same_bytes key xs ≡ true → same_bytes k xs ≡ false
off_key key k xs off on = by_test (same_bytes k xs) refl
  where
    by_test : (b : Bool) → same_bytes k xs ≡ b → b ≡ false
    by_test false e = refl
    by_test true e = sym (subst (λ (q : List ℕ). same_bytes key q ≡ true) (bytes_same key xs on ∙ sym (bytes_same k xs e)) (bytes_itself key)) ∙ off

-- a key that is looked up by its bytes
at_bytes : (k xs : List ℕ) → is_at (bytes_cmp k) xs ≡ same_bytes k xs
at_bytes k xs = is_eq-slice_cmp k xs

-- ## Inserting the entry of one key

inserted_other : (key k : List ℕ) (row : KeyRow) (rows : Rows) → same_bytes key k ≡ false → lookup (is_at (bytes_cmp k)) (insert_entry bytes_cmp rows key row) ≡ lookup (is_at (bytes_cmp k)) rows
inserted_other key k row [] off = ap (λ (b : Bool). cond b (Some row) None) (at_other key k off)
  where
    at_other : (key k : List ℕ) → same_bytes key k ≡ false → is_at (bytes_cmp k) key ≡ false
    at_other key k off = at_bytes k key ∙ off_key key k key off (bytes_itself key)
inserted_other key k row (e ∷ es) off = by_order (bytes_cmp key e.0) refl (inserted_other key k row es off)
  where
    at_key : is_at (bytes_cmp k) key ≡ false
    at_key = at_bytes k key ∙ off_key key k key off (bytes_itself key)

    by_order : (o : Ordering) → bytes_cmp key e.0 ≡ o → lookup (is_at (bytes_cmp k)) (insert_entry bytes_cmp es key row) ≡ lookup (is_at (bytes_cmp k)) es
        → lookup (is_at (bytes_cmp k)) (match_ordering o ((key, row) ∷ e ∷ es) ((e.0, row) ∷ es) (e ∷ insert_entry bytes_cmp es key row)) ≡ cond (is_at (bytes_cmp k) e.0) (Some e.1) (lookup (is_at (bytes_cmp k)) es)
    by_order Less order rest = ap (λ (b : Bool). cond b (Some row) (cond (is_at (bytes_cmp k) e.0) (Some e.1) (lookup (is_at (bytes_cmp k)) es))) at_key
    by_order Equal order rest =
        let here : is_at (bytes_cmp k) e.0 ≡ false = at_bytes k e.0 ∙ off_key key k e.0 off (sym (at_bytes key e.0) ∙ ap is_eq order) in
        ap (λ (b : Bool). cond b (Some row) (lookup (is_at (bytes_cmp k)) es)) here ∙ sym (ap (λ (b : Bool). cond b (Some e.1) (lookup (is_at (bytes_cmp k)) es)) here)
    by_order Greater order rest = ap (λ (o : Option KeyRow). cond (is_at (bytes_cmp k) e.0) (Some e.1) o) rest

inserted_here : (key : List ℕ) (row : KeyRow) (rows : Rows) → lookup (is_at (bytes_cmp key)) (insert_entry bytes_cmp rows key row) ≡ Some row
inserted_here key row [] = ap (λ (b : Bool). cond b (Some row) None) (at_bytes key key ∙ bytes_itself key)
inserted_here key row (e ∷ es) = by_order (bytes_cmp key e.0) refl (inserted_here key row es)
  where
    by_order : (o : Ordering) → bytes_cmp key e.0 ≡ o → lookup (is_at (bytes_cmp key)) (insert_entry bytes_cmp es key row) ≡ Some row
        → lookup (is_at (bytes_cmp key)) (match_ordering o ((key, row) ∷ e ∷ es) ((e.0, row) ∷ es) (e ∷ insert_entry bytes_cmp es key row)) ≡ Some row
    by_order Less order rest = ap (λ (b : Bool). cond b (Some row) (lookup (is_at (bytes_cmp key)) (e ∷ es))) (at_bytes key key ∙ bytes_itself key)
    by_order Equal order rest = ap (λ (b : Bool). cond b (Some row) (lookup (is_at (bytes_cmp key)) es)) (ap is_eq order)
    by_order Greater order rest = ap (λ (b : Bool). cond b (Some e.1) (lookup (is_at (bytes_cmp key)) (insert_entry bytes_cmp es key row))) (ap is_eq order) ∙ rest

-- ## Rows

pub row_other : (key k : List ℕ) (row : KeyRow) (rows : Rows) → same_bytes key k ≡ false → row_at k (with_row key row rows) ≡ row_at k rows
unfolding row_at
row_other key k row rows off = ap row_or_fresh (inserted_other key k row rows off)

pub row_here : (key : List ℕ) (row : KeyRow) (rows : Rows) → row_at key (with_row key row rows) ≡ row
unfolding row_at
row_here key row rows = ap row_or_fresh (inserted_here key row rows)

pub known_other : (key k : List ℕ) (known : Known) (rows : Rows) → same_bytes key k ≡ false → row_at k (with_known key known rows) ≡ row_at k rows
unfolding with_known
known_other key k known rows off = row_other key k (record (row_at key rows) { known = known }) rows off

pub stage_other : (key k : List ℕ) (stage : Stage) (rows : Rows) → same_bytes key k ≡ false → row_at k (with_stage key stage rows) ≡ row_at k rows
unfolding with_stage
stage_other key k stage rows off = row_other key k (record (row_at key rows) { stage = stage }) rows off

pub stage_here : (key : List ℕ) (stage : Stage) (rows : Rows) → (row_at key (with_stage key stage rows)).stage ≡ stage
unfolding with_stage
stage_here key stage rows = ap (λ (row : KeyRow). row.stage) (row_here key (record (row_at key rows) { stage = stage }) rows)

-- what holds of the stage of a key still holds after some key got a stage of which it holds
pub stages_then : (P : Stage → Type 0) (key k : List ℕ) (stage : Stage) (rows : Rows) → P stage → P (row_at k rows).stage → P (row_at k (with_stage key stage rows)).stage
stages_then P key k stage rows here old = by_test (same_bytes key k) refl
  where
    by_test : (b : Bool) → same_bytes key k ≡ b → P (row_at k (with_stage key stage rows)).stage
    by_test true on = subst (λ (q : List ℕ). P (row_at q (with_stage key stage rows)).stage) (bytes_same key k on) (subst P (sym (stage_here key stage rows)) here)
    by_test false off = subst (λ (row : KeyRow). P row.stage) (sym (stage_other key k stage rows off)) old

same_stage : (key : List ℕ) (known : Known) (rows : Rows) → (row_at key (with_known key known rows)).stage ≡ (row_at key rows).stage
unfolding with_known
same_stage key known rows = ap (λ (row : KeyRow). row.stage) (row_here key (record (row_at key rows) { known = known }) rows)

-- and after something is known of some key
pub known_then : (P : Stage → Type 0) (key k : List ℕ) (known : Known) (rows : Rows) → P (row_at k rows).stage → P (row_at k (with_known key known rows)).stage
known_then P key k known rows old = by_test (same_bytes key k) refl
  where
    by_test : (b : Bool) → same_bytes key k ≡ b → P (row_at k (with_known key known rows)).stage
    by_test true on =
        subst (λ (q : List ℕ). P (row_at q rows).stage → P (row_at q (with_known key known rows)).stage) (bytes_same key k on) (λ h. subst P (sym (same_stage key known rows)) h) old
    by_test false off = subst (λ (row : KeyRow). P row.stage) (sym (known_other key k known rows off)) old

-- ## Calls

-- the running call is one of the calls
pub one_fewer : (key : List ℕ) (calls : List Waiting) (w : Waiting) → running key calls ≡ Some w → length calls ≡ length (without_running key calls) + 1
one_fewer key [] w e = absurd cc
one_fewer key (v ∷ calls) w e = by_key (same_bytes v.key key) e (one_fewer key calls w)
  where
    by_key : (b : Bool) → cond b (Some v) (running key calls) ≡ Some w → (running key calls ≡ Some w → length calls ≡ length (without_running key calls) + 1)
        → length (v ∷ calls) ≡ length (cond b calls (v ∷ without_running key calls)) + 1
    by_key true h later = omega arith
    by_key false h later = omega (arith, later h)

-- the running calls of the other keys stay
pub running_other : (key k : List ℕ) (calls : List Waiting) → same_bytes key k ≡ false → running k (without_running key calls) ≡ running k calls
running_other key k [] off = refl
running_other key k (v ∷ calls) off = by_key (same_bytes v.key key) refl (running_other key k calls off)
  where
    by_key : (b : Bool) → same_bytes v.key key ≡ b → running k (without_running key calls) ≡ running k calls
        → running k (cond b calls (v ∷ without_running key calls)) ≡ cond (same_bytes v.key k) (Some v) (running k calls)
    by_key true on later =
        let here : same_bytes v.key k ≡ false = subst (λ (q : List ℕ). same_bytes q k ≡ false) (sym (bytes_same v.key key on)) off in
        sym (ap (λ (b : Bool). cond b (Some v) (running k calls)) here)
    by_key false on later = ap (λ (o : Option Waiting). cond (same_bytes v.key k) (Some v) o) later

pub known_here : (key : List ℕ) (known : Known) (rows : Rows) → (row_at key (with_known key known rows)).known ≡ known
unfolding with_known
known_here key known rows = ap (λ (row : KeyRow). row.known) (row_here key (record (row_at key rows) { known = known }) rows)

-- where nobody waits on a key, no call on it runs
pub nobody_waits : (key : List ℕ) (calls : List Waiting) → waiting_on key calls ≡ 0 → running key calls ≡ None
nobody_waits key [] e = refl
nobody_waits key (w ∷ calls) e = by_key (same_bytes w.key key) e (nobody_waits key calls)
  where
    by_key : (b : Bool) → cond b (waiting_on key calls + 1) (waiting_on key calls) ≡ 0 → (waiting_on key calls ≡ 0 → running key calls ≡ None) → cond b (Some w) (running key calls) ≡ None
    by_key true h later = absurd (omega (arith, h))
    by_key false h later = later h
