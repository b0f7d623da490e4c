-- A hasher that was given one string.
use Rattle.std.proofs.Common.{◌≡◌, ◌≤◌, ℕ, List, [], ◌∷◌, Option, refl, sym, subst}
use Rattle.ens_base.specs.Causes.{Rose}
use Rattle.hash_book.specs.Hashing.{Book, ExceedsTold, IsClash, IsKept, IsTotal, Stays, Takes}
use Rattle.world_spec.proofs.Taken.{hashed_more, hashed_none}
use Rattle.world_spec.specs.Held.{Account, HasHashed}
use Rattle.world_spec.specs.HeldLaws.{HasClashed, HasFilledAt, HasRejected}

-- it took the string
pub took_one : (x : List ℕ) (first now : Account) → Takes x first.kept now.kept → first.clashes ≤ now.clashes → first.fulls ≤ now.fulls → HasHashed (x ∷ []) first now
took_one x first now takes clashes fulls = hashed_more [] x first first now (hashed_none first) takes clashes fulls

-- it rejected the string
rejected_one : (x : List ℕ) (first now : Account) → Stays first.kept now.kept → HasRejected (x ∷ []) first x now
rejected_one x first now stays = record { before = []; later = []; are = refl; taken = stays }

-- for a clash
pub clashed_one : (x kept new : List ℕ) (first now : Account) → new ≡ x → Stays first.kept now.kept → IsClash kept new → IsKept first.kept kept → Rose first.clashes now.clashes → HasClashed (x ∷ []) first kept new now
clashed_one x kept new first now same stays clash is_kept rose =
    (subst (λ (y : List ℕ). HasRejected (x ∷ []) first y now) (sym same) (rejected_one x first now stays), clash, subst (λ (b : Option Book). IsKept b kept) (sym stays) is_kept, rose)

-- since it did not fit
pub filled_one : (x : List ℕ) (n : ℕ) (first now : Account) → Stays first.kept now.kept → Rose first.fulls now.fulls → ExceedsTold x first.kept → IsTotal n first.kept → HasFilledAt n (x ∷ []) first now
filled_one x n first now stays rose exceeds full =
    ((x, rejected_one x first now stays, rose, subst (λ (b : Option Book). ExceedsTold x b) (sym stays) exceeds), subst (λ (b : Option Book). IsTotal n b) (sym stays) full)
