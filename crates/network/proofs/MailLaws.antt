-- Laws of waiting messages: which is the oldest, and what sending, settling and losing preserve.
use Rattle.std.proofs.Common.{◌≡◌, ◌+◌, ◌<◌, ◌≤◌, refl, ap, sym, ◌∙◌, arith, subst, ⊎_elim, ℕ, zero, suc, Bool, true, false, List, [], ◌∷◌, ◌++◌, length, Option, None, Some}
use Rattle.std.specs.Prelude.{slice_index_or, slice_set, IfSome}
use Rattle.std.specs.Option.{option_map_or}
use Rattle.std.proofs.lemmas.Bool.{and_cases, and_left, and_right, both_ways, cases_lt}
use Rattle.std.proofs.lemmas.List.{length-set, length_push}
use Rattle.std.proofs.lemmas.Option.{slice_get_past}
use Rattle.wire_frames.specs.declared.frame.Frame.{Frame}
use Rattle.network.specs.Mail.{Mail, no_mail, posted, settled, lost, goes, waits_without, oldest, is_waiting, IsClear, IsMail}
use Rattle.network.proofs.Least.{least_is, least_nothing}

-- a message that waits was sent
pub waiting_is_sent : (test : Frame → Bool) (m : Mail) (n : ℕ) → is_waiting test m n ≡ true → n < length m.sent
waiting_is_sent test m n waiting =
    ⊎_elim (λ within. within) (λ beyond. absurd (both_ways _ (and_right _ _ (ap (λ (o : Option Frame). option_map_or test o false) (slice_get_past m.sent n beyond))) waiting)) (cases_lt n (length m.sent))

-- the oldest message waits and passes the test
pub oldest_waits : (test : Frame → Bool) (m : Mail) (n : ℕ) → oldest test m ≡ Some n → is_waiting test m n ≡ true
oldest_waits test m n is = (least_is test m.sent m.waits n is).waiting

pub oldest_is_sent : (test : Frame → Bool) (m : Mail) (n : ℕ) → oldest test m ≡ Some n → n < length m.sent
oldest_is_sent test m n is = waiting_is_sent test m n (oldest_waits test m n is)

-- no message before the oldest waits and passes the test
pub clear_before_oldest : (test : Frame → Bool) (m : Mail) (n : ℕ) → oldest test m ≡ Some n → IsClear test n m
clear_before_oldest test m n is = (least_is test m.sent m.waits n is).clear

-- if there is no oldest message, none waits and passes the test
pub clear_without_oldest : (test : Frame → Bool) (m : Mail) (k : ℕ) → oldest test m ≡ None → IsClear test k m
clear_without_oldest test m k is n below = least_nothing test m.sent m.waits is n

-- the oldest message is not among those known not to wait
pub oldest_is_beyond : (test : Frame → Bool) (m : Mail) (k n : ℕ) → IsClear test k m → oldest test m ≡ Some n → k ≤ n
oldest_is_beyond test m k n clear is =
    ⊎_elim (λ below. absurd (both_ways _ (clear n below) (oldest_waits test m n is))) (λ le. le) (cases_lt n k)

pub clear_at_first : (test : Frame → Bool) (m : Mail) → IsClear test 0 m
clear_at_first test m n below = absurd (omega arith)

pub is_mail_at_first : IsMail no_mail
is_mail_at_first = refl

pub is_mail_posted : (m : Mail) (f : Frame) → IsMail m → IsMail (posted m f)
is_mail_posted m f mail = omega (arith, mail, length_push m.waits true, length_push m.sent f)

pub is_mail_settled : (m : Mail) (n : ℕ) → IsMail m → IsMail (settled m n)
is_mail_settled m n mail = length-set m.waits n false ∙ mail

pub length-waits_without : (test : Frame → Bool) (sent : List Frame) (waits : List Bool) → length (waits_without test sent waits) ≡ length waits
length-waits_without test [] waits = refl
length-waits_without test (f ∷ sent) [] = refl
length-waits_without test (f ∷ sent) (w ∷ waits) = ap (λ (n : ℕ). suc n) (length-waits_without test sent waits)

pub is_mail_lost : (from to : ℕ) (m : Mail) → IsMail m → IsMail (lost from to m)
is_mail_lost from to m mail = length-waits_without (goes from to) m.sent m.waits ∙ mail

before_posted : (test : Frame → Bool) (sent : List Frame) (waits : List Bool) (f : Frame) (n : ℕ) → length waits ≡ length sent → n < length sent → is_waiting test (record { sent = sent ++ f ∷ []; waits = waits ++ true ∷ [] }) n ≡ is_waiting test (record { sent = sent; waits = waits }) n
before_posted test [] waits f n mail below = absurd (omega arith)
before_posted test (g ∷ sent) [] f n mail below = absurd (omega arith)
before_posted test (g ∷ sent) (w ∷ waits) f zero mail below = refl
before_posted test (g ∷ sent) (w ∷ waits) f (suc n) mail below = before_posted test sent waits f n (omega arith) (omega arith)

-- sending preserves that none of the first messages waits
pub clear_posted : (test : Frame → Bool) (m : Mail) (k : ℕ) (f : Frame) → IsMail m → k ≤ length m.sent → IsClear test k m → IsClear test k (posted m f)
clear_posted test m k f mail within clear n below = before_posted test m.sent m.waits f n mail (omega arith) ∙ clear n below

pub flag_settled : (waits : List Bool) (k n : ℕ) → slice_index_or waits n false ≡ false → slice_index_or (slice_set waits k false) n false ≡ false
flag_settled [] k n is = refl
flag_settled (w ∷ waits) zero zero is = refl
flag_settled (w ∷ waits) zero (suc n) is = is
flag_settled (w ∷ waits) (suc k) zero is = is
flag_settled (w ∷ waits) (suc k) (suc n) is = flag_settled waits k n is

pub settled_flag : (waits : List Bool) (n : ℕ) → slice_index_or (slice_set waits n false) n false ≡ false
settled_flag [] n = refl
settled_flag (w ∷ waits) zero = refl
settled_flag (w ∷ waits) (suc n) = settled_flag waits n

-- settling preserves that none of the first messages waits
pub clear_settled : (test : Frame → Bool) (m : Mail) (k n : ℕ) → IsClear test k m → IsClear test k (settled m n)
clear_settled test m k n clear j below =
    ⊎_elim (λ e. and_left _ _ (flag_settled m.waits n j e)) (λ e. and_right _ _ e) (and_cases _ _ (clear j below))

-- once the oldest is settled, no message up to it waits
pub clear_past_oldest : (test : Frame → Bool) (m : Mail) (n : ℕ) → oldest test m ≡ Some n → IsClear test (n + 1) (settled m n)
clear_past_oldest test m n is j below =
    ⊎_elim (λ before. clear_settled test m n n (clear_before_oldest test m n is) j before) (λ from. let same : n ≡ j = omega arith in subst (λ (i : ℕ). is_waiting test (settled m n) i ≡ false) same (and_left _ _ (settled_flag m.waits n))) (cases_lt j n)

flag_lost : (kind : Frame → Bool) (sent : List Frame) (waits : List Bool) (n : ℕ) → slice_index_or waits n false ≡ false → slice_index_or (waits_without kind sent waits) n false ≡ false
flag_lost kind [] waits n is = is
flag_lost kind (f ∷ sent) [] n is = refl
flag_lost kind (f ∷ sent) (w ∷ waits) zero is = and_left _ _ is
flag_lost kind (f ∷ sent) (w ∷ waits) (suc n) is = flag_lost kind sent waits n is

-- losing preserves that none of the first messages waits
pub clear_lost : (test : Frame → Bool) (m : Mail) (k from to : ℕ) → IsClear test k m → IsClear test k (lost from to m)
clear_lost test m k from to clear j below =
    ⊎_elim (λ e. and_left _ _ (flag_lost (goes from to) m.sent m.waits j e)) (λ e. and_right _ _ e) (and_cases _ _ (clear j below))

-- the oldest message was sent
pub answer_is_sent : (test : Frame → Bool) (m : Mail) (answer : Option ℕ) → answer ≡ oldest test m → IfSome answer (λ n. n < length m.sent)
answer_is_sent test m None is = tt
answer_is_sent test m (Some n) is = oldest_is_sent test m n (sym is)
