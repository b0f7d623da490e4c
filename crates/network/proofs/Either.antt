-- The least number that passes one of two tests, and tests that agree.
use Rattle.std.proofs.Common.{◌≡◌, ◌&&◌, ◌||◌, refl, ap, sym, ◌∙◌, arith, ℕ, suc, Bool, true, false, List, [], ◌∷◌, Option, None, Some}
use Rattle.std.specs.Prelude.{All, if◌then◌else◌}
use Rattle.std.specs.Option.{option_map}
use Rattle.std.proofs.lemmas.Bool.{and_right, cond-false}
use Rattle.std.proofs.lemmas.List.Elements.{All-head, All-tail}
use Rattle.wire_frames.specs.declared.frame.Frame.{Frame}
use Rattle.network.specs.Mail.{Mail, least, oldest, older}

zero_first : (o : Option ℕ) → Some 0 ≡ older (Some 0) o
zero_first None = refl
zero_first (Some k) = ap (λ (n : ℕ). Some n) (omega arith)

zero_second : (o : Option ℕ) → Some 0 ≡ older (option_map (λ k. suc k) o) (Some 0)
zero_second None = refl
zero_second (Some k) = ap (λ (n : ℕ). Some n) (omega arith)

both_further : (o p : Option ℕ) → option_map (λ k. suc k) (older o p) ≡ older (option_map (λ k. suc k) o) (option_map (λ k. suc k) p)
both_further None p = refl
both_further (Some k) None = refl
both_further (Some k) (Some j) = ap (λ (n : ℕ). Some n) (omega arith)

first_either : (w a b : Bool) (o p : Option ℕ) → (if w && (a || b) then Some 0 else option_map (λ k. suc k) (older o p)) ≡ older (if w && a then Some 0 else option_map (λ k. suc k) o) (if w && b then Some 0 else option_map (λ k. suc k) p)
first_either true true b o p = zero_first _
first_either true false true o p = zero_second o
first_either true false false o p = both_further o p
first_either false a b o p = both_further o p

-- the least number that passes either test is the lesser of the two least numbers
least_either : (s t : Frame → Bool) (sent : List Frame) (waits : List Bool) → least (λ f. s f || t f) sent waits ≡ older (least s sent waits) (least t sent waits)
least_either s t [] waits = refl
least_either s t (f ∷ sent) [] = refl
least_either s t (f ∷ sent) (w ∷ waits) =
    ap (λ (rest : Option ℕ). if w && (s f || t f) then Some 0 else option_map (λ k. suc k) rest) (least_either s t sent waits)
    ∙ first_either w (s f) (t f) (least s sent waits) (least t sent waits)

-- two tests that agree on all messages sent find the same number
least_agree : (P : Frame → Type 0) (s t : Frame → Bool) → ((f : Frame) → P f → s f ≡ t f) → (sent : List Frame) (waits : List Bool) → All P sent → least s sent waits ≡ least t sent waits
least_agree P s t same [] waits all = refl
least_agree P s t same (f ∷ sent) [] all = refl
least_agree P s t same (f ∷ sent) (w ∷ waits) all =
    ap (λ (b : Bool). if w && b then Some 0 else option_map (λ k. suc k) (least s sent waits)) (same f (All-head P f sent all))
    ∙ ap (λ (rest : Option ℕ). if w && t f then Some 0 else option_map (λ k. suc k) rest) (least_agree P s t same sent waits (All-tail P f sent all))

-- a test that no message passes finds nothing
never : (sent : List Frame) (waits : List Bool) → least (λ f. false) sent waits ≡ None
never [] waits = refl
never (f ∷ sent) [] = refl
never (f ∷ sent) (w ∷ waits) = cond-false _ _ _ (and_right w false refl) ∙ ap (option_map (λ (k : ℕ). suc k)) (never sent waits)

module _ (P : Frame → Type 0) (m : Mail) (all : All P m.sent) where
  -- the same answer for a test that agrees on all messages sent
  pub oldest_agree : (s t : Frame → Bool) (best : Option ℕ) → ((f : Frame) → P f → s f ≡ t f) → best ≡ oldest s m → best ≡ oldest t m
  oldest_agree s t best same is = is ∙ least_agree P s t same m.sent m.waits all

  -- no answer for a test that no message passes
  pub oldest_never : (t : Frame → Bool) → ((f : Frame) → P f → t f ≡ false) → None ≡ oldest t m
  oldest_never t fails = sym (least_agree P t (λ f. false) fails m.sent m.waits all ∙ never m.sent m.waits)

  -- the older of two answers, for a test that is the disjunction of two tests
  pub oldest_either : (s t u : Frame → Bool) (first second best : Option ℕ) → ((f : Frame) → P f → (s f || t f) ≡ u f) → first ≡ oldest s m → second ≡ oldest t m → best ≡ older first second → best ≡ oldest u m
  oldest_either s t u first second best same one two is =
      is
      ∙ ap (λ (o : Option ℕ). older o second) one
      ∙ ap (λ (o : Option ℕ). older (oldest s m) o) two
      ∙ sym (least_either s t m.sent m.waits)
      ∙ least_agree P (λ f. s f || t f) u same m.sent m.waits all
