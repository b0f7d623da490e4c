-- The waiting messages are still in the lines when those of a line are lost.
use Rattle.std.proofs.Common.{◌≡◌, ◌==◌, ◌&&◌, refl, ap, sym, ◌∙◌, subst, ℕ, Bool, true, false, List, [], ◌∷◌}
use Rattle.ens_base.specs.Lists.{is_in}
use Rattle.std.specs.Prelude.{not, All, slice_get, slice_index_or}
use Rattle.std.specs.Option.{option_map_or}
use Rattle.std.proofs.lemmas.Bool.{and_parts, and_from, eq-eqb, eqb-true, both_ways, not-true, not_from_false, cond_both, false_from_ne_true}
use Rattle.std.proofs.lemmas.Option.{same_Some}
use Rattle.ens_base.specs.View.{IsPeer}
use Rattle.wire_frames.specs.declared.frame.Frame.{Frame}
use Rattle.network.specs.Mail.{goes, lost, MayBeSent}
use Rattle.network.specs.Lines.{line_place, line_of, line, Ascends, FrontWaits, cleared, Changes}
use Rattle.network.specs.Representation.{mail_in, AreInLine}
use Rattle.network.proofs.Numbers.{first_in}
use Rattle.network.proofs.Flags.{flag_cleared, flag_without, length-cleared, same_flags}
use Rattle.network.proofs.MailLaws.{length-waits_without}
use Rattle.network.proofs.Oldest.{is_in_line}

-- clearing the flags of a line loses its messages
pub cleared_is_lost : (sent : List Frame) (waits : List Bool) (lines : List (List ℕ)) (from to place : ℕ) → All MayBeSent sent → AreInLine sent waits lines → IsPeer from × IsPeer to → place ≡ line_place from to → mail_in sent (cleared waits (line lines place)) ≡ lost from to (mail_in sent waits)
cleared_is_lost sent waits lines from to place may queued ends here =
    ap (mail_in sent) (same_flags _ _ (length-cleared waits (line lines place) ∙ sym (length-waits_without (goes from to) sent waits)) (λ k. flag_cleared waits (line lines place) k ∙ by (slice_index_or waits k false) k refl ∙ sym (flag_without (goes from to) sent waits k)))
  where
    by : (w : Bool) (k : ℕ) → slice_index_or waits k false ≡ w → (w && not (is_in (line lines place) k)) ≡ (w && not (option_map_or (goes from to) (slice_get sent k) false))
    by true k waiting = ap not (is_in_line sent waits lines may queued from to place ends here k waiting)
    by false k settled = refl

-- the prefix of a line without these numbers still waits
prefix_other : (waits : List Bool) (gone ns : List ℕ) → ((k : ℕ) → is_in ns k ≡ true → is_in gone k ≡ false) → FrontWaits waits ns → FrontWaits (cleared waits gone) ns
prefix_other waits gone [] out prefix = tt
prefix_other waits gone (k ∷ ns) out prefix =
    flag_cleared waits gone k ∙ and_from _ _ prefix (not_from_false _ (out k (first_in k ns)))

module _ (sent : List Frame) (waits : List Bool) (old new : List (List ℕ)) (place : ℕ) (queued : AreInLine sent waits old) (emptied : Changes old new place (λ ns. [])) where
  was_in : (p k : ℕ) → is_in (line new p) k ≡ true → is_in (line old p) k ≡ true
  was_in p k = subst (λ (ns : List ℕ). is_in ns k ≡ true → is_in (line old p) k ≡ true) (sym (emptied p)) (cond_both (p == place) _ _ (λ (ns : List ℕ). is_in ns k ≡ true → is_in (line old p) k ≡ true) (λ same there. absurd (both_ways _ refl there)) (λ other there. there))

  stays_in : (p k : ℕ) → is_in (line old place) k ≡ false → is_in (line old p) k ≡ true → is_in (line new p) k ≡ true
  stays_in p k out there = subst (λ (ns : List ℕ). is_in ns k ≡ true) (sym (emptied p)) (cond_both (p == place) _ _ (λ (ns : List ℕ). is_in ns k ≡ true) (λ same. absurd (both_ways _ out (ap (λ (i : ℕ). is_in (line old i) k) (sym (eqb-true p place same)) ∙ there))) (λ other. there))

  -- no number is in two lines
  out_of : (p : ℕ) → (p == place) ≡ false → (k : ℕ) → is_in (line old p) k ≡ true → is_in (line old place) k ≡ false
  out_of p other k there =
      false_from_ne_true _ (λ too. both_ways _ other (eq-eqb p place (same_Some p place (sym (queued.own p k there) ∙ queued.own place k too))))

  pub lost_in_line : AreInLine sent (cleared waits (line old place)) new
  lost_in_line = record {
    own = λ p k there. queued.own p k (was_in p k there);
    held = λ k g at waiting. let parts = and_parts _ _ (sym (flag_cleared waits (line old place) k) ∙ waiting) in stays_in (line_of g) k (not-true _ parts.1) (queued.held k g at parts.0);
    ascending = λ p. subst Ascends (sym (emptied p)) (cond_both (p == place) _ _ Ascends (λ same. tt) (λ other. queued.ascending p));
    prefix = λ p. subst (FrontWaits (cleared waits (line old place))) (sym (emptied p)) (cond_both (p == place) _ _ (FrontWaits (cleared waits (line old place))) (λ same. tt) (λ other. prefix_other waits (line old place) (line old p) (out_of p other) (queued.prefix p)));
  }
