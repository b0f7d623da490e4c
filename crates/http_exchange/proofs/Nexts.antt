-- What is found at the front of the unread bytes is what the next call hands out.
use Rattle.std.proofs.Common.{◌≡◌, ◌<◌, ◌≤◌, Bool, true, false, ◌++◌, length, drop, Some, None, sym, subst, inl, inr}
use Rattle.http_exchange.specs.declared.front.Front.TheVariants as Front
use Rattle.http_exchange.specs.declared.front.Whole.{Whole}
use Rattle.http_exchange.specs.declared.limits.TheConstants.{MAX_TEXT}
use Rattle.http_exchange.specs.declared.refusal.Refusal.{Refusal}
use Rattle.http_exchange.specs.declared.refusal.Refusal.TheVariants.{TextTooLong}
use Rattle.http_exchange.specs.declared.stage.Stage.TheVariants.{Open, Asked}
use Rattle.http_exchange.specs.Exchanges.{Connection, refused, continue_text, IsToInvite, NextsAt, Nexts}
use Rattle.http_exchange.specs.Fronts.{IsWhole, IsFront}
use Rattle.http_exchange.specs.Refusals.{Justifies}

module _ (old : Connection) (invited : Bool) (is : old.stage ≡ Open invited) where
  pub takes : (w : Whole) → IsWhole old.unread w → Nexts old (record old { stage = Asked w.server w.bodiless; unread = drop w.len old.unread }) (Some w.request)
  takes w x =
      subst (λ s. NextsAt s old (record old { stage = Asked w.server w.bodiless; unread = drop w.len old.unread }) (Some w.request)) (sym is)
      (record { begins = x.begins; stage = λ i. Asked (x.server i) (x.bodiless i); pending = λ i. old.pending })

  pub refuses : (why : Refusal) → Justifies old.unread why → Nexts old (refused old why) None
  refuses why x = subst (λ s. NextsAt s old (refused old why) None) (sym is) (inr (why, x, λ i. refused old why))

  pub too_long : (waits : Bool) → IsFront old.unread (Front.Partial waits) → MAX_TEXT < length old.unread → Nexts old (refused old TextTooLong) None
  too_long waits x over = refuses TextTooLong (x.0, over)

  pub invites : (waits : Bool) → IsFront old.unread (Front.Partial waits) → length old.unread ≤ MAX_TEXT → waits ≡ true → invited ≡ false
      → Nexts old (record old { stage = Open true; pending = old.pending ++ continue_text }) None
  invites waits x short asks first =
      let next : Connection = record old { stage = Open true; pending = old.pending ++ continue_text } in
      subst (λ s. NextsAt s old next None) (sym is) (inl (record { none = x.0; short = short; next = inl ((first, x.1.0 asks), λ i. next) }))

  pub waits_on : (waits : Bool) → IsFront old.unread (Front.Partial waits) → length old.unread ≤ MAX_TEXT → ¬ (IsToInvite invited old.unread) → Nexts old old None
  waits_on waits x short other =
      subst (λ s. NextsAt s old old None) (sym is) (inl (record { none = x.0; short = short; next = inr (other, λ i. old) }))
