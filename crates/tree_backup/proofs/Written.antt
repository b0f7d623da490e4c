-- The parts of a backup, one written after another.
use Rattle.std.proofs.Common.{◌≡◌, ℕ, List, [], ◌∷◌, ◌++◌, length, ap, ◌∙◌, append_assoc}
use Rattle.byteorder.specs.Endian.{big_bytes}
use Rattle.tree_backup.specs.declared.item.Item.{Item}
use Rattle.tree_backup.specs.Checks.{backup_with}
use Rattle.tree_backup.specs.Items.{backup_spelling, items_spelling}

pub head_is : (old a b c d new top number : List ℕ) → a ≡ old ++ (82 ∷ 66 ∷ []) → b ≡ a ++ 1 ∷ [] → c ≡ b ++ 2 ∷ [] → d ≡ c ++ top → new ≡ d ++ number → new ≡ old ++ (82 ∷ 66 ∷ 1 ∷ 2 ∷ [] ++ (top ++ number))
head_is old a b c d new top number ea eb ec ed en = en ∙ rw (ed, ec, eb, ea) (simp append_assoc)

pub backup_is : (old head new top : List ℕ) (items : List Item) (count : ℕ) → count ≡ length items → head ≡ old ++ (82 ∷ 66 ∷ 1 ∷ 2 ∷ [] ++ (top ++ big_bytes 4 count)) → new ≡ head ++ items_spelling items → new ≡ old ++ backup_spelling (backup_with top items)
backup_is old head new top items count few eh en =
    en ∙ ap (λ (l : List ℕ). l ++ items_spelling items) eh ∙ regrouped ∙ ap (λ (n : ℕ). old ++ (82 ∷ 66 ∷ 1 ∷ 2 ∷ [] ++ (top ++ (big_bytes 4 n ++ items_spelling items)))) few
  where
    regrouped : (old ++ (82 ∷ 66 ∷ 1 ∷ 2 ∷ [] ++ (top ++ big_bytes 4 count))) ++ items_spelling items ≡ old ++ (82 ∷ 66 ∷ 1 ∷ 2 ∷ [] ++ (top ++ (big_bytes 4 count ++ items_spelling items)))
    regrouped = append_assoc old (82 ∷ 66 ∷ 1 ∷ 2 ∷ [] ++ (top ++ big_bytes 4 count)) (items_spelling items) ∙ ap (λ (l : List ℕ). old ++ (82 ∷ 66 ∷ 1 ∷ 2 ∷ l)) (append_assoc top (big_bytes 4 count) (items_spelling items))
