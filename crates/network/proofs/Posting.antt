-- The waiting messages are still in the lines when one more message is sent.
use Rattle.std.proofs.Common.{◌≡◌, ◌<◌, ◌≤◌, ◌==◌, ◌&&◌, ◌||◌, refl, ap, sym, ◌∙◌, arith, subst, ⊎_elim, ℕ, zero, suc, Bool, true, false, List, [], ◌∷◌, ◌++◌, length, Option, None, Some}
use Rattle.ens_base.specs.Lists.{is_in}
use Rattle.ens_base.proofs.Lists.{is_in-push}
use Rattle.std.specs.Prelude.{slice_get, slice_index_or, if◌then◌else◌}
use Rattle.std.specs.Option.{option_map}
use Rattle.std.proofs.lemmas.Bool.{and_parts, and_from, eq-eqb, eqb-true, or_left, or_right, or_cases, cond_both, cases_lt}
use Rattle.std.proofs.lemmas.List.{length_push, get_or_push}
use Rattle.std.proofs.lemmas.Option.{none-some, same_Some, slice_get_within}
use Rattle.wire_frames.specs.declared.frame.Frame.{Frame}
use Rattle.network.specs.Lines.{line, line_of, AreBelow, Ascends, FrontWaits, Changes}
use Rattle.network.specs.Representation.{AreInLine}
use Rattle.network.proofs.Numbers.{Ascends-push}
use Rattle.network.proofs.Flags.{flag_stays, flag_was}

pub last_is : (sent : List Frame) (f : Frame) → slice_get (sent ++ f ∷ []) (length sent) ≡ Some f
last_is [] f = refl
last_is (x ∷ xs) f = last_is xs f

others_are : (sent : List Frame) (f : Frame) (n : ℕ) → n < length sent → slice_get (sent ++ f ∷ []) n ≡ slice_get sent n
others_are [] f n within = absurd (omega arith)
others_are (x ∷ xs) f zero within = refl
others_are (x ∷ xs) f (suc n) within = others_are xs f n (omega arith)

-- the numbers in a line are those of messages sent
pub own_below : (sent : List Frame) (place : ℕ) (ns : List ℕ) → ((n : ℕ) → is_in ns n ≡ true → option_map line_of (slice_get sent n) ≡ Some place) → AreBelow (length sent) ns
own_below sent place ns own n there = by (slice_get sent n) refl (own n there) where
  by : (o : Option Frame) → slice_get sent n ≡ o → option_map line_of o ≡ Some place → n < length sent
  by None at is = absurd (none-some place is)
  by (Some f) at is = slice_get_within sent n f at

FrontWaits-stays : (waits : List Bool) (now : Bool) (ns : List ℕ) → FrontWaits waits ns → FrontWaits (waits ++ now ∷ []) ns
FrontWaits-stays waits now [] prefix = tt
FrontWaits-stays waits now (n ∷ ns) prefix = flag_stays waits now n prefix

FrontWaits-push : (waits : List Bool) (n : ℕ) (ns : List ℕ) → length waits ≡ n → FrontWaits waits ns → FrontWaits (waits ++ true ∷ []) (ns ++ n ∷ [])
FrontWaits-push waits n [] long prefix = get_or_push waits true false n long
FrontWaits-push waits n (k ∷ ns) long prefix = flag_stays waits true k prefix

module _ (sent : List Frame) (waits : List Bool) (old new : List (List ℕ)) (f : Frame) (place n : ℕ) (queued : AreInLine sent waits old) (last : n ≡ length sent) (mail : length waits ≡ length sent) (here : place ≡ line_of f) (pushed : Changes old new place (λ ns. ns ++ n ∷ [])) where
  -- the lines have one number more
  one_more : (p k : ℕ) → is_in (line new p) k ≡ (is_in (line old p) k || (p == place && k == n))
  one_more p k = ap (λ (ns : List ℕ). is_in ns k) (pushed p) ∙ by (p == place) where
    by : (b : Bool) → is_in (if b then line old p ++ n ∷ [] else line old p) k ≡ (is_in (line old p) k || (b && k == n))
    by true = is_in-push (line old p) n k
    by false = grind arith

  at_last : slice_get (sent ++ f ∷ []) n ≡ Some f
  at_last = ap (slice_get (sent ++ f ∷ [])) last ∙ last_is sent f

  own_more : (p k : ℕ) → is_in (line new p) k ≡ true → option_map line_of (slice_get (sent ++ f ∷ []) k) ≡ Some p
  own_more p k there = ⊎_elim stood added (or_cases _ _ (sym (one_more p k) ∙ there)) where
    stood : is_in (line old p) k ≡ true → option_map line_of (slice_get (sent ++ f ∷ []) k) ≡ Some p
    stood was = ap (option_map line_of) (others_are sent f k (own_below sent p (line old p) (queued.own p) k was)) ∙ queued.own p k was

    added : (p == place && k == n) ≡ true → option_map line_of (slice_get (sent ++ f ∷ []) k) ≡ Some p
    added is =
        let parts = and_parts (p == place) (k == n) is in
        ap (λ (i : ℕ). option_map line_of (slice_get (sent ++ f ∷ []) i)) (eqb-true k n parts.1)
        ∙ ap (option_map line_of) at_last
        ∙ ap (λ (i : ℕ). Some i) (sym here ∙ sym (eqb-true p place parts.0))

  held_more : (k : ℕ) (g : Frame) → slice_get (sent ++ f ∷ []) k ≡ Some g → slice_index_or (waits ++ true ∷ []) k false ≡ true → is_in (line new (line_of g)) k ≡ true
  held_more k g at waiting = ⊎_elim before after (cases_lt k n) where
    before : k < n → is_in (line new (line_of g)) k ≡ true
    before less =
        one_more (line_of g) k
        ∙ or_left _ _ (queued.held k g (sym (others_are sent f k (omega arith)) ∙ at) (flag_was waits true k (omega arith) waiting))

    after : n ≤ k → is_in (line new (line_of g)) k ≡ true
    after from =
        let within : k < length (sent ++ f ∷ []) = slice_get_within (sent ++ f ∷ []) k g at in
        let same : k ≡ n = omega (arith, within, from, last, length_push sent f) in
        let frame : g ≡ f = same_Some g f (sym at ∙ ap (slice_get (sent ++ f ∷ [])) same ∙ at_last) in
        one_more (line_of g) k ∙ or_right _ _ (and_from _ _ (eq-eqb (line_of g) place (ap line_of frame ∙ sym here)) (eq-eqb k n same))

  -- the waiting messages are in the lines
  pub posted_in_line : AreInLine (sent ++ f ∷ []) (waits ++ true ∷ []) new
  posted_in_line = record {
    own = own_more;
    held = held_more;
    ascending = λ p. subst Ascends (sym (pushed p)) (cond_both (p == place) _ _ Ascends (λ same. Ascends-push (line old p) n (queued.ascending p) (λ k there. subst (λ (i : ℕ). k < i) (sym last) (own_below sent p (line old p) (queued.own p) k there))) (λ other. queued.ascending p));
    prefix = λ p. subst (FrontWaits (waits ++ true ∷ [])) (sym (pushed p)) (cond_both (p == place) _ _ (FrontWaits (waits ++ true ∷ [])) (λ same. FrontWaits-push waits n (line old p) (omega arith) (queued.prefix p)) (λ other. FrontWaits-stays waits true (line old p) (queued.prefix p)));
  }
