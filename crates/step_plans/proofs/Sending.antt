-- One more peer is sent its message, or is not.
use Rattle.std.proofs.Common.{◌≡◌, ℕ, ◌+◌, Bool, true, false, if◌then◌else◌, List, [], ◌∷◌, ◌++◌, ap, rules, add-one}
use Rattle.std.proofs.lemmas.List.{append_assoc}
use Rattle.phase_rows.specs.WireFrames.{Message}
use Rattle.step_plans.specs.Sends.{posted}
use Rattle.leader_output.specs.declared.out.Outgoing.{Outgoing}

posted_step : (test : ℕ → Bool) (word : ℕ → Message) (n : ℕ)
    → posted test word (n + 1) ≡ posted test word n ++ (if test (n + 1) then record { to = n + 1; message = word (n + 1) } ∷ [] else [])
unfolding posted
posted_step test word n = ap (posted test word) (add-one n)

module _ (test : ℕ → Bool) (word : ℕ → Message) (n : ℕ) (first items : List Outgoing) (has : Bool)
    (so_far : items ≡ first ++ posted test word n) (tested : has ≡ test (n + 1)) where
  pub posted_to_it : (m : Message) → has ≡ true → m ≡ word (n + 1) → items ++ record { to = n + 1; message = m } ∷ [] ≡ first ++ posted test word (n + 1)
  posted_to_it m held copied = rw (posted_step test word n) (rw so_far (rw copied (rw (← tested) (rw held (append_assoc first (posted test word n) (record { to = n + 1; message = word (n + 1) } ∷ []))))))

  pub not_posted_to_it : has ≡ false → items ≡ first ++ posted test word (n + 1)
  not_posted_to_it absent = rw (posted_step test word n) (rw so_far (rw (← tested) (rw absent (search rules))))
