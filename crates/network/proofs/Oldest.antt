-- The prefix of a line is the oldest message that waits from its sender to its receiver.
use Rattle.std.proofs.Common.{◌≡◌, ◌==◌, ◌&&◌, refl, ap, sym, ◌∙◌, arith, subst, ℕ, Bool, true, false, List, [], ◌∷◌, Option, None, Some}
use Rattle.ens_base.specs.Lists.{is_in}
use Rattle.std.specs.Prelude.{All, slice_get, slice_index_or}
use Rattle.std.specs.Option.{option_map, option_map_or}
use Rattle.std.proofs.lemmas.Bool.{and_from, and_right, eq-eqb, ne_eqb, both_ways}
use Rattle.std.proofs.lemmas.Bool.Decides.{nat_tests}
use Rattle.std.proofs.lemmas.List.Elements.{All-get_or}
use Rattle.std.proofs.lemmas.Option.{none-some, same_Some, slice_get_within, get_or_from_slice_get}
use Rattle.ens_base.specs.View.{IsPeer}
use Rattle.wire_frames.specs.declared.frame.Frame.{Frame}
use Rattle.network.specs.Mail.{goes, oldest, is_waiting, MayBeSent}
use Rattle.network.specs.Lines.{line_place, line_of, line, Ascends, FrontWaits}
use Rattle.network.specs.Representation.{mail_in, AreInLine}
use Rattle.network.proofs.Numbers.{first_in, before_first}
use Rattle.network.proofs.Least.{least_found, least_none}

-- different pairs of peers have different lines
own_line : (from to : ℕ) → IsPeer from × IsPeer to → (f : Frame) → MayBeSent f → (line_of f == line_place from to) ≡ goes from to f
own_line from to ends f peers = grind (arith, nat_tests)

module _ (sent : List Frame) (waits : List Bool) (lines : List (List ℕ)) (may : All MayBeSent sent) (queued : AreInLine sent waits lines) (from to place : ℕ) (ends : IsPeer from × IsPeer to) (here : place ≡ line_place from to) where
  -- a message that waits is in the line exactly if it goes from this sender to this receiver
  pub is_in_line : (n : ℕ) → slice_index_or waits n false ≡ true → is_in (line lines place) n ≡ option_map_or (goes from to) (slice_get sent n) false
  is_in_line n waiting = by (slice_get sent n) refl (is_in (line lines place) n) refl where
    by : (o : Option Frame) → slice_get sent n ≡ o → (b : Bool) → is_in (line lines place) n ≡ b → b ≡ option_map_or (goes from to) o false
    by None at true there = absurd (none-some place (sym (ap (option_map line_of) at) ∙ queued.own place n there))
    by None at false out = refl
    by (Some f) at b is = this b is ∙ own_line from to ends f (subst MayBeSent (get_or_from_slice_get sent n f f at) (All-get_or MayBeSent sent n f (slice_get_within sent n f at) may)) where
      this : (b : Bool) → is_in (line lines place) n ≡ b → b ≡ (line_of f == line_place from to)
      this true there = sym (eq-eqb _ _ (same_Some (line_of f) place (sym (ap (option_map line_of) at) ∙ queued.own place n there) ∙ here))
      this false out = sym (ne_eqb _ _ (λ same. both_ways _ out (ap (λ (p : ℕ). is_in (line lines p) n) (here ∙ sym same) ∙ queued.held n f at waiting)))

  waits_in_line : (n : ℕ) → is_waiting (goes from to) (mail_in sent waits) n ≡ (slice_index_or waits n false && is_in (line lines place) n)
  waits_in_line n = by (slice_index_or waits n false) refl where
    by : (w : Bool) → slice_index_or waits n false ≡ w → (w && option_map_or (goes from to) (slice_get sent n) false) ≡ (w && is_in (line lines place) n)
    by true waiting = sym (is_in_line n waiting)
    by false settled = refl

  absent : (n : ℕ) → is_in (line lines place) n ≡ false → is_waiting (goes from to) (mail_in sent waits) n ≡ false
  absent n out = waits_in_line n ∙ and_right _ _ out

  pub front_is_oldest : slice_get (line lines place) 0 ≡ oldest (goes from to) (mail_in sent waits)
  front_is_oldest = by (line lines place) refl (queued.ascending place) (queued.prefix place) where
    by : (ns : List ℕ) → line lines place ≡ ns → Ascends ns → FrontWaits waits ns → slice_get ns 0 ≡ oldest (goes from to) (mail_in sent waits)
    by [] is ascending prefix = sym (least_none (goes from to) sent waits (λ n. absent n (ap (λ (ns : List ℕ). is_in ns n) is)))
    by (k ∷ ns) is ascending prefix =
        sym (least_found (goes from to) sent waits k (waits_in_line k ∙ and_from _ _ prefix (ap (λ (ms : List ℕ). is_in ms k) is ∙ first_in k ns)) (λ n less. absent n (ap (λ (ms : List ℕ). is_in ms n) is ∙ before_first k ns n ascending less)))
