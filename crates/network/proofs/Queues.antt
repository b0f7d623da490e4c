-- The lines as a list of queues.
use Rattle.std.proofs.Common.{◌≡◌, ◌<◌, ◌==◌, refl, ap, sym, ◌∙◌, arith, ℕ, Bool, true, false, List, [], length, map, get_or, set}
use Rattle.std.specs.Prelude.{if◌then◌else◌}
use Rattle.std.proofs.lemmas.Bool.{eqb-true, eqb-false}
use Rattle.std.proofs.lemmas.List.{length-map, map-set, get_or-map, get_or-set_same, get_or-set_other, set-get_or}
use Rattle.network.specs.Lines.{line, Changes}

-- a change of one line
pub one_changed : (lines : List (List ℕ)) (place : ℕ) (ns : List ℕ) (change : List ℕ → List ℕ) → place < length lines → ns ≡ change (line lines place) → Changes lines (set lines place ns) place change
one_changed lines place ns change within is p = by (p == place) refl where
  by : (b : Bool) → (p == place) ≡ b → line (set lines place ns) p ≡ (if b then change (line lines p) else line lines p)
  by true same =
      ap (line (set lines place ns)) (eqb-true p place same)
      ∙ get_or-set_same lines place ns [] within
      ∙ is
      ∙ ap (λ (i : ℕ). change (line lines i)) (sym (eqb-true p place same))
  by false other = get_or-set_other lines place p ns [] (eqb-false p place other)

module _ {Q : Type 0} (items : Q → List ℕ) (queues : List Q) (place : ℕ) (queue : Q) (seen : List (List ℕ)) (view : map items queues ≡ seen) (within : place < length queues) where
  -- a queue among the queues is a line
  pub queue_read : queue ≡ get_or queues place queue → items queue ≡ line seen place
  queue_read is = ap items is ∙ sym (get_or-map items queues place queue [] within) ∙ ap (λ (ls : List (List ℕ)). line ls place) view

  -- a change of one queue
  pub queue_changed : (change : List ℕ → List ℕ) → items queue ≡ change (line seen place) → Changes seen (map items (set queues place queue)) place change
  queue_changed change is p =
      ap (λ (ls : List (List ℕ)). line ls p) (map-set items queues place queue ∙ ap (λ (ls : List (List ℕ)). set ls place (items queue)) view)
      ∙ one_changed seen place (items queue) change (omega (arith, within, length-map queues items, ap length view)) is p

  -- nothing changes
  pub queue_same : items queue ≡ line seen place → map items (set queues place queue) ≡ seen
  queue_same is = map-set items queues place queue ∙ ap (λ (ls : List (List ℕ)). set ls place (items queue)) view ∙ ap (set seen place) is ∙ set-get_or seen place []
