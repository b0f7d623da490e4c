-- The marks of a key determine its history just as all notes do.
use Rattle.std.proofs.Common.{◌≡◌, ℕ, ◌&&◌, ◌++◌, ◌∷◌, [], List, Bool, true, false, cond, eqb, max, refl, sym, ap, ◌∙◌, Option}
use Rattle.std.specs.Prelude.{if◌then◌else◌}
use lib.Pointwise.{bytes_decides}
use Rattle.std.specs.Ordering.{is_eq}
use Rattle.std.proofs.lemmas.Map.Text.{is_eq-slice_cmp}
use Rattle.ens_base.specs.Lists.{same_bytes, bytes_cmp}
use Rattle.ens_base.proofs.Tests.{last_or_none}
use Rattle.register_model.specs.Orders.{rank, rank_or_none, lower_or_none, parent_in, call_in, newest_in, reads_on, chain, write_of, blocks, block, order}
use Rattle.register_model.specs.declared.note.Note.{Note}
use Rattle.register_model.specs.declared.note.Note.TheVariants.{Proposed, Settled, Read}
use Rattle.history_scribe.specs.Marks.{key_of, mark_of, noted, all_noted, marks_on}
use Rattle.history_scribe.specs.declared.mark.Mark.{Mark}

-- ## One more note

marks_behind : (notes : List Note) (n : Note) (key : List ℕ) → marks_on (notes ++ n ∷ []) key ≡ marks_on notes key ++ cond (same_bytes (key_of n) key) (mark_of n ∷ []) []
marks_behind [] n key = refl
marks_behind (m ∷ notes) n key = by_test (same_bytes (key_of m) key) (marks_behind notes n key)
  where
    by_test : (b : Bool) → marks_on (notes ++ n ∷ []) key ≡ marks_on notes key ++ cond (same_bytes (key_of n) key) (mark_of n ∷ []) []
        → cond b (mark_of m ∷ marks_on (notes ++ n ∷ []) key) (marks_on (notes ++ n ∷ []) key) ≡ cond b (mark_of m ∷ marks_on notes key) (marks_on notes key) ++ cond (same_bytes (key_of n) key) (mark_of n ∷ []) []
    by_test true e = ap (λ zs. mark_of m ∷ zs) e
    by_test false e = e

marks_more : (notes : List Note) (n : Note) (key : List ℕ) → marks_on (notes ++ n ∷ []) key ≡ (if same_bytes (key_of n) key then marks_on notes key ++ mark_of n ∷ [] else marks_on notes key)
marks_more notes n key = marks_behind notes n key ∙ last_or_none (same_bytes (key_of n) key) (marks_on notes key) (mark_of n)

-- a note was added: its mark comes after those of its key
pub note_taken : (notes more : List Note) (n : Note) (copy key : List ℕ) (mark : Mark) (old new : List Mark) → more ≡ notes ++ n ∷ [] → copy ≡ key_of n → mark ≡ mark_of n
    → old ≡ marks_on notes key → new ≡ (if is_eq (bytes_cmp copy key) then old ++ mark ∷ [] else old) → new ≡ marks_on more key
note_taken notes more n copy key mark old new e f g h i = rw (i, e, f, g, h) (ap (λ (b : Bool). cond b (marks_on notes key ++ mark_of n ∷ []) (marks_on notes key)) (is_eq-slice_cmp (key_of n) key) ∙ sym (marks_more notes n key))

-- ## What the marks determine

module _ (key : List ℕ) where
  -- two lists of notes agree on the key
  record Alike (a b : List Note) : Type 0 where
    parent : (v : ℕ) → parent_in a key v ≡ parent_in b key v
    call : (v : ℕ) → call_in a key v ≡ call_in b key v
    newest : newest_in a key ≡ newest_in b key
    reads : (v : ℕ) → reads_on a key v ≡ reads_on b key v

  -- a note on another key changes nothing
  off_key : (n : Note) (notes : List Note) → same_bytes (key_of n) key ≡ false → Alike (n ∷ notes) notes
  off_key (Proposed k w p c) notes t = record { parent = λ v. rw t refl; call = λ v. rw t refl; newest = refl; reads = λ v. refl }
  off_key (Settled k w) notes t = record { parent = λ v. refl; call = λ v. refl; newest = rw t refl; reads = λ v. refl }
  off_key (Read i k u) notes t = record { parent = λ v. refl; call = λ v. refl; newest = refl; reads = λ v. rw t refl }

  -- the same notes in front of both change nothing
  in_front : (n : Note) (a b : List Note) → Alike a b → Alike (n ∷ a) (n ∷ b)
  in_front (Proposed k w p c) a b same = record {
    parent = λ v. ap (λ (x : ℕ). cond (same_bytes k key && eqb (rank w) v) (lower_or_none (rank_or_none p) v) x) (same.parent v);
    call = λ v. ap (λ (x : Option ℕ). cond (same_bytes k key && eqb (rank w) v) c x) (same.call v);
    newest = same.newest;
    reads = same.reads;
  }
  in_front (Settled k w) a b same = record {
    parent = same.parent;
    call = same.call;
    newest = ap (λ (x : ℕ). cond (same_bytes k key) (max (rank w) x) x) same.newest;
    reads = same.reads;
  }
  in_front (Read i k u) a b same = record {
    parent = same.parent;
    call = same.call;
    newest = same.newest;
    reads = λ v. ap (λ (xs : List ℕ). cond (same_bytes k key && eqb (rank_or_none u) v) (i ∷ xs) xs) (same.reads v);
  }

  -- a note on the key is determined by its mark
  noted_again : (n : Note) → same_bytes (key_of n) key ≡ true → noted key (mark_of n) ≡ n
  noted_again (Proposed k w p c) t = ap (λ (j : List ℕ). Proposed j w p c) (sym ((bytes_decides k key).0 t))
  noted_again (Settled k w) t = ap (λ (j : List ℕ). Settled j w) (sym ((bytes_decides k key).0 t))
  noted_again (Read i k u) t = ap (λ (j : List ℕ). Read i j u) (sym ((bytes_decides k key).0 t))

  marked : (notes : List Note) → Alike (all_noted key (marks_on notes key)) notes
  marked [] = record { parent = λ v. refl; call = λ v. refl; newest = refl; reads = λ v. refl }
  marked (n ∷ notes) = by_test (marked notes) (same_bytes (key_of n) key) refl
    where
      by_test : Alike (all_noted key (marks_on notes key)) notes → (b : Bool) → same_bytes (key_of n) key ≡ b → Alike (all_noted key (cond b (mark_of n ∷ marks_on notes key) (marks_on notes key))) (n ∷ notes)
      by_test same true t = rw (noted_again n t) (in_front n (all_noted key (marks_on notes key)) notes same)
      by_test same false t = let off = off_key n notes t in record {
        parent = λ v. same.parent v ∙ sym (off.parent v);
        call = λ v. same.call v ∙ sym (off.call v);
        newest = same.newest ∙ sym off.newest;
        reads = λ v. same.reads v ∙ sym (off.reads v);
      }

  -- ## The order

  block_marked : (notes : List Note) (v : ℕ) → block (all_noted key (marks_on notes key)) key v ≡ block notes key v
  block_marked notes v = λ i. write_of ((marked notes).call v i) ++ (marked notes).reads v i

  blocks_marked : (notes : List Note) (vs : List ℕ) → blocks (all_noted key (marks_on notes key)) key vs ≡ blocks notes key vs
  blocks_marked notes [] = refl
  blocks_marked notes (v ∷ vs) = λ i. block_marked notes v i ++ blocks_marked notes vs i

  -- the notes that the marks of a key stand for give its order
  pub order_marked : (notes : List Note) → order (all_noted key (marks_on notes key)) key ≡ order notes key
  order_marked notes = (λ i. (marked notes).reads 0 i ++ blocks (all_noted key (marks_on notes key)) key (chain ((marked notes).newest i) (λ v. (marked notes).parent v i) ((marked notes).newest i)))
      ∙ ap (λ (xs : List ℕ). reads_on notes key 0 ++ xs) (blocks_marked notes (chain (newest_in notes key) (parent_in notes key) (newest_in notes key)))
