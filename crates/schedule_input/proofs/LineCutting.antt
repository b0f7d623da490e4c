-- What a source gave.
use Rattle.std.proofs.Common.{◌≡◌, ◌≢◌, ℕ, List, [], ◌∷◌, ◌++◌, Option, None, Some, Result, Ok, refl, sym, ap, subst, ◌∙◌, append_assoc, arith}
use Rattle.std.specs.Io.KnownBytes.{Consumes, Keeps, prepend_known}
use Rattle.std.proofs.lemmas.List.Elements.{All-nil}
use Rattle.environment.specs.Lines.{HasNoFeed, IsLine}
use Rattle.schedule_input.specs.LineReading.{ComeTo, HasTaken, and_then, read_text}
use Rattle.schedule_input.proofs.LineParts.{read_line}

-- nothing is a line without its line feed
pub nothing_pending : (pending : List ℕ) → pending ≡ [] → IsLine pending
nothing_pending pending none = subst IsLine (sym none) (record { no_feed = All-nil (λ b. b ≢ 10); short = omega arith })

-- a call that kept the bytes consumed none
pub kept_takes : (old new : Option (List ℕ)) → Keeps old new → Consumes old new []
kept_takes None new kept = tt
kept_takes (Some x) None kept = absurd kept
kept_takes (Some x) (Some y) kept = sym kept

-- the bytes that a call consumed, and the pending ones after them
pub with_pending : (old left : Option (List ℕ)) (bytes pending : List ℕ) → Consumes old (prepend_known pending left) bytes → Consumes old left (bytes ++ pending)
with_pending None left bytes pending took = tt
with_pending (Some x) None bytes pending took = absurd took
with_pending (Some x) (Some y) bytes pending took = took ∙ sym (append_assoc bytes pending y)

module _ {S R E : Type 0} (next : S → List ℕ → Result S E) (end : S → List ℕ → Result R E) (first : S) where
  -- one more line
  pub come_next : (lines v : List ℕ) (s t : S) → HasNoFeed v → next s v ≡ Ok t → ComeTo next end first lines s → ComeTo next end first (lines ++ (v ++ 10 ∷ [])) t
  come_next lines v s t clear ok come rest =
      let line = v ++ 10 ∷ [] in
      ap (λ (l : List ℕ). read_text next end first l) (append_assoc lines line rest) ∙ come (line ++ rest) ∙ read_line next end s (line ++ rest) v rest clear refl ∙ ap (λ (r : Result S E). and_then next end r (λ u. read_text next end u rest)) ok

  pub taken_next : (source old new : Option (List ℕ)) (was pending : List ℕ) (s t : S) (v : List ℕ) → HasNoFeed v → next s v ≡ Ok t → Consumes (prepend_known was old) (prepend_known pending new) (v ++ 10 ∷ [])
      → HasTaken next end first source was old s → HasTaken next end first source pending new t
  taken_next None old new was pending s t v clear ok took h = tt
  taken_next (Some bytes) None new was pending s t v clear ok took h = absurd h
  taken_next (Some bytes) (Some x) None was pending s t v clear ok took h = absurd took
  taken_next (Some bytes) (Some x) (Some y) was pending s t v clear ok took h =
      let line = v ++ 10 ∷ [] in
      record {
        lines = h.lines ++ line;
        are = h.are ∙ ap (λ (l : List ℕ). h.lines ++ l) took ∙ sym (append_assoc h.lines line (pending ++ y));
        good = come_next h.lines v s t clear ok h.good;
      }
