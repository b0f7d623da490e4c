-- The waiting messages are still in the lines when a message is settled.
use Rattle.std.proofs.Common.{◌≡◌, ◌==◌, ap, sym, ◌∙◌, subst, ℕ, Bool, true, false, List, [], ◌∷◌, Some}
use Rattle.ens_base.specs.Lists.{is_in}
use Rattle.std.specs.Prelude.{slice_get, slice_index_or, slice_set}
use Rattle.std.specs.Option.{option_map}
use Rattle.std.proofs.lemmas.Bool.{eq-eqb, both_ways, cond_both, true_from_ne_false}
use Rattle.std.proofs.lemmas.List.{get_or-set_other}
use Rattle.std.proofs.lemmas.Option.{same_Some}
use Rattle.wire_frames.specs.declared.frame.Frame.{Frame}
use Rattle.network.specs.Lines.{line, line_of, Ascends, FrontWaits, from_waiting, Changes}
use Rattle.network.specs.Representation.{AreInLine}
use Rattle.network.proofs.Numbers.{first_in, skip_from, skip_keeps, Ascends-skip, FrontWaits-skip}
use Rattle.network.proofs.MailLaws.{flag_settled}

-- the prefix of a line without the settled message still waits
prefix_other : (waits : List Bool) (n : ℕ) (ns : List ℕ) → (is_in ns n ≡ true → ⊥) → FrontWaits waits ns → FrontWaits (slice_set waits n false) ns
prefix_other waits n [] out prefix = tt
prefix_other waits n (k ∷ ns) out prefix =
    get_or-set_other waits n k false false (λ same. out (ap (is_in (k ∷ ns)) (sym same) ∙ first_in k ns)) ∙ prefix

module _ (sent : List Frame) (waits : List Bool) (old new : List (List ℕ)) (f : Frame) (place n : ℕ) (queued : AreInLine sent waits old) (at : slice_get sent n ≡ Some f) (here : place ≡ line_of f) (skipped : Changes old new place (from_waiting (slice_set waits n false))) where
  still_waits : (k : ℕ) → slice_index_or (slice_set waits n false) k false ≡ true → slice_index_or waits k false ≡ true
  still_waits k waiting = true_from_ne_false _ (λ is. both_ways _ (flag_settled waits n k is) waiting)

  was_in : (p k : ℕ) → is_in (line new p) k ≡ true → is_in (line old p) k ≡ true
  was_in p k = subst (λ (ns : List ℕ). is_in ns k ≡ true → is_in (line old p) k ≡ true) (sym (skipped p)) (cond_both (p == place) _ _ (λ (ns : List ℕ). is_in ns k ≡ true → is_in (line old p) k ≡ true) (λ same. skip_from (slice_set waits n false) (line old p) k) (λ other there. there))

  stays_in : (p k : ℕ) → slice_index_or (slice_set waits n false) k false ≡ true → is_in (line old p) k ≡ true → is_in (line new p) k ≡ true
  stays_in p k waiting there = subst (λ (ns : List ℕ). is_in ns k ≡ true) (sym (skipped p)) (cond_both (p == place) _ _ (λ (ns : List ℕ). is_in ns k ≡ true) (λ same. skip_keeps (slice_set waits n false) (line old p) k waiting there) (λ other. there))

  -- the settled message is in no other line
  out_of : (p : ℕ) → (p == place) ≡ false → is_in (line old p) n ≡ true → ⊥
  out_of p other there =
      both_ways _ other (eq-eqb p place (sym (same_Some (line_of f) p (sym (ap (option_map line_of) at) ∙ queued.own p n there)) ∙ sym here))

  pub settled_in_line : AreInLine sent (slice_set waits n false) new
  settled_in_line = record {
    own = λ p k there. queued.own p k (was_in p k there);
    held = λ k g is waiting. stays_in (line_of g) k waiting (queued.held k g is (still_waits k waiting));
    ascending = λ p. subst Ascends (sym (skipped p)) (cond_both (p == place) _ _ Ascends (λ same. Ascends-skip (slice_set waits n false) (line old p) (queued.ascending p)) (λ other. queued.ascending p));
    prefix = λ p. subst (FrontWaits (slice_set waits n false)) (sym (skipped p)) (cond_both (p == place) _ _ (FrontWaits (slice_set waits n false)) (λ same. FrontWaits-skip (slice_set waits n false) (line old p)) (λ other. prefix_other waits n (line old p) (out_of p other) (queued.prefix p)));
  }
