-- How sending and delivery change which messages wait.
use Rattle.std.proofs.Common.{◌≡◌, ◌⊎◌, ◌==◌, inl, inr, refl, ap, sym, ◌∙◌, subst, arith, ℕ, zero, suc, Bool, true, false, List, [], ◌∷◌, ◌++◌, length, Some, None}
use Rattle.std.specs.Prelude.{slice_get, slice_index_or}
use Rattle.std.proofs.lemmas.Bool.{both_ways, eqb-true, eqb-false}
use Rattle.std.proofs.lemmas.List.{get_or-set_other}
use Rattle.std.proofs.lemmas.Option.{none-some, same_Some}
use Rattle.ens_base.specs.Lists.{◌∈◌}
use Rattle.network.specs.Mail.{Mail, posted, settled, oldest, is_among, IsMail}
use Rattle.network.proofs.Flags.{flag_stays}
use Rattle.network.proofs.MailLaws.{is_mail_posted, is_mail_settled, flag_settled, clear_without_oldest}
use Rattle.network.proofs.Posting.{last_is}
use Rattle.world_refinement.specs.WorldSpec.{posted_all}
use Rattle.world_refinement.proofs.ChangedNodes.{get_push}
use Rattle.wire_frames.specs.declared.frame.Frame.{Frame}
use Rattle.calm_laws.proofs.Waits.{Waits, AllWaiting}

get_stays : (sent : List Frame) (g f : Frame) (n : ℕ) → slice_get sent n ≡ Some f → slice_get (sent ++ g ∷ []) n ≡ Some f
get_stays [] g f n is = absurd (none-some f is)
get_stays (h ∷ sent) g f zero is = is
get_stays (h ∷ sent) g f (suc n) is = get_stays sent g f n is

pub waits_posted : (m : Mail) (g f : Frame) → Waits m f → Waits (posted m g) f
waits_posted m g f w = record { number = w.number; sent = get_stays m.sent g f w.number w.sent; waits = flag_stays m.waits true w.number w.waits }

flag_last : (waits : List Bool) → slice_index_or (waits ++ true ∷ []) (length waits) false ≡ true
flag_last [] = refl
flag_last (w ∷ waits) = flag_last waits

pub waits_last : (m : Mail) (g : Frame) → IsMail m → Waits (posted m g) g
waits_last m g mail = record { number = length m.sent; sent = last_is m.sent g; waits = subst (λ n. slice_index_or (m.waits ++ true ∷ []) n false ≡ true) mail (flag_last m.waits) }

pub waits_all_posted : (fs : List Frame) (m : Mail) (f : Frame) → Waits m f → Waits (posted_all fs m) f
waits_all_posted [] m f w = w
waits_all_posted (g ∷ fs) m f w = waits_all_posted fs (posted m g) f (waits_posted m g f w)

pub waits_new : (fs : List Frame) (m : Mail) (f : Frame) → IsMail m → f ∈ fs → Waits (posted_all fs m) f
waits_new [] m f mail is = absurd is
waits_new (g ∷ fs) m f mail (inl e) = waits_all_posted fs (posted m g) f (subst (λ h. Waits (posted m g) h) (sym e) (waits_last m g mail))
waits_new (g ∷ fs) m f mail (inr more) = waits_new fs (posted m g) f (is_mail_posted m g mail) more

-- a message still waits after a delivery, or it is the one delivered
pub waits_settled : (m : Mail) (n : ℕ) (g f : Frame) → slice_get m.sent n ≡ Some g → Waits m f → (g ≡ f) ⊎ Waits (settled m n) f
waits_settled m n g f is w = by (w.number == n) refl where
  by : (b : Bool) → (w.number == n) ≡ b → (g ≡ f) ⊎ Waits (settled m n) f
  by true same = inl (same_Some g f (sym is ∙ ap (λ k. slice_get m.sent k) (sym (eqb-true w.number n same)) ∙ w.sent))
  by false other = inr (record { number = w.number; sent = w.sent; waits = get_or-set_other m.waits n w.number false false (eqb-false w.number n other) ∙ w.waits })

flag_was_or : (sent : List Frame) (waits : List Bool) (g f : Frame) (n : ℕ) → length waits ≡ length sent → slice_get sent n ≡ Some f → slice_index_or (waits ++ true ∷ []) n false ≡ true → slice_index_or waits n false ≡ true
flag_was_or [] waits g f n long is flag = absurd (none-some f is)
flag_was_or (h ∷ sent) [] g f n long is flag = absurd (omega (arith, long))
flag_was_or (h ∷ sent) (w ∷ waits) g f zero long is flag = flag
flag_was_or (h ∷ sent) (w ∷ waits) g f (suc n) long is flag = flag_was_or sent waits g f n (omega (arith, long)) is flag

pub was_posted : (m : Mail) (g f : Frame) → IsMail m → Waits (posted m g) f → Waits m f ⊎ (f ≡ g)
was_posted m g f mail w = by (get_push m.sent g f w.number w.sent) where
  by : (slice_get m.sent w.number ≡ Some f) ⊎ (f ≡ g) → Waits m f ⊎ (f ≡ g)
  by (inr e) = inr e
  by (inl is) = inl (record { number = w.number; sent = is; waits = flag_was_or m.sent m.waits g f w.number mail is w.waits })

pub was_all_posted : (fs : List Frame) (m : Mail) (f : Frame) → IsMail m → Waits (posted_all fs m) f → Waits m f ⊎ (f ∈ fs)
was_all_posted [] m f mail w = inl w
was_all_posted (g ∷ fs) m f mail w = by (was_all_posted fs (posted m g) f (is_mail_posted m g mail) w) where
  last : Waits m f ⊎ (f ≡ g) → Waits m f ⊎ (f ∈ (g ∷ fs))
  last (inl w) = inl w
  last (inr e) = inr (inl e)

  by : Waits (posted m g) f ⊎ (f ∈ fs) → Waits m f ⊎ (f ∈ (g ∷ fs))
  by (inl v) = last (was_posted m g f mail v)
  by (inr is) = inr (inr is)

pub was_settled : (m : Mail) (n : ℕ) (f : Frame) → Waits (settled m n) f → Waits m f
was_settled m n f w = record { number = w.number; sent = w.sent; waits = by (slice_index_or m.waits w.number false) refl } where
  by : (b : Bool) → slice_index_or m.waits w.number false ≡ b → b ≡ true
  by true is = refl
  by false is = absurd (both_ways _ (flag_settled m.waits n w.number is) w.waits)

-- each waiting message is of a kind: so it stays, if the new ones are
pub kinds_stay : (K L : Frame → Type 0) (m : Mail) (n : ℕ) (fs : List Frame) → IsMail m → AllWaiting K m → ((f : Frame) → K f → L f) → ((f : Frame) → f ∈ fs → L f) → AllWaiting L (posted_all fs (settled m n))
kinds_stay K L m n fs mail all old new f w = by (was_all_posted fs (settled m n) f (is_mail_settled m n mail) w) where
  by : Waits (settled m n) f ⊎ (f ∈ fs) → L f
  by (inl v) = old f (all f (was_settled m n f v))
  by (inr is) = new f is

-- where no message waits among some peers, none between two of them does
pub none_waits : (peers : List Bool) (m : Mail) (f : Frame) → oldest (is_among peers) m ≡ None → is_among peers f ≡ true → Waits m f → ⊥
none_waits peers m f none among w =
    both_ways _ (clear_without_oldest (is_among peers) m (suc w.number) none w.number (omega arith)) (rw (w.sent, w.waits) among)
