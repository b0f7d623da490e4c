-- The tests of a reply are those of a legal history.
use Rattle.std.proofs.Common.{◌≡◌, ◌↔◌, true, refl}
use Rattle.std.proofs.lemmas.Bool.{false≢true}
use Rattle.ens_base.specs.declared.reply.Reply.{Reply}
use Rattle.register_model.specs.Histories.{IsDone, IsRefused, is_done, is_refused}

pub done_is : (reply : Reply) → (is_done reply ≡ true) ↔ IsDone reply
done_is (Reply.Value stamp bytes) = (λ h. tt, λ h. refl)
done_is Reply.NotFound = (λ h. tt, λ h. refl)
done_is (Reply.Ok stamp) = (λ h. tt, λ h. refl)
done_is Reply.Failed = (λ h. tt, λ h. refl)
done_is reply = (λ h. false≢true h, λ h. absurd h)

pub refused_is : (reply : Reply) → (is_refused reply ≡ true) ↔ IsRefused reply
refused_is Reply.Unavailable = (λ h. tt, λ h. refl)
refused_is Reply.Busy = (λ h. tt, λ h. refl)
refused_is Reply.Lost = (λ h. tt, λ h. refl)
refused_is reply = (λ h. false≢true h, λ h. absurd h)
