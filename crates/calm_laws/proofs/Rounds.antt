-- The rounds of a leader.
use Rattle.std.proofs.Common.{◌≡◌, ◌⊎◌, inl, inr, refl, true}
use Rattle.ens_base.specs.Lists.{◌∈◌}
use Rattle.network.specs.Mail.{settled}
use Rattle.network.proofs.MailLaws.{is_mail_settled}
use Rattle.world_refinement.specs.WorldSpec.{posted_all}
use Rattle.calm_laws.proofs.Waits.{Waits}
use Rattle.calm_laws.proofs.UnderWay.{request_to, reply_of, IsUnderWay, Begins, Delivers, Ends}
use Rattle.calm_laws.proofs.Waiting.{waits_all_posted, waits_new, waits_settled, none_waits}

pub begins : Begins
begins r test fs m votes q mail ready asked = inr (inl (ready, waits_new fs m (request_to r q) mail asked))

pub delivers : Delivers
delivers r ready still m n g fs votes now q mail is more stays asked replied (inl voted) = inl (more voted)
delivers r ready still m n g fs votes now q mail is more stays asked replied (inr (inl w)) = by (waits_settled m n g (request_to r q) is w.1) (stays w.0) where
  replies : (now q ≡ true) ⊎ (reply_of r q ∈ fs) → IsUnderWay r still (posted_all fs (settled m n)) now q
  replies (inl voted) = inl voted
  replies (inr sent) = inr (inr (waits_new fs (settled m n) (reply_of r q) (is_mail_settled m n mail) sent))

  by : (g ≡ request_to r q) ⊎ Waits (settled m n) (request_to r q) → (still q ≡ true) ⊎ ((now q ≡ true) ⊎ (reply_of r q ∈ fs)) → IsUnderWay r still (posted_all fs (settled m n)) now q
  by (inl e) later = replies (asked w.0 e)
  by (inr v) (inl yet) = inr (inl (yet, waits_all_posted fs (settled m n) (request_to r q) v))
  by (inr v) (inr reply) = replies reply
delivers r ready still m n g fs votes now q mail is more stays asked replied (inr (inr w)) = by (waits_settled m n g (reply_of r q) is w) where
  by : (g ≡ reply_of r q) ⊎ Waits (settled m n) (reply_of r q) → IsUnderWay r still (posted_all fs (settled m n)) now q
  by (inl e) = inl (replied e)
  by (inr v) = inr (inr (waits_all_posted fs (settled m n) (reply_of r q) v))

pub ends : Ends
ends r ready peers m votes q none leads among (inl voted) = voted
ends r ready peers m votes q none leads among (inr (inl w)) = absurd (none_waits peers m (request_to r q) none (rw (leads, among) refl) w.1)
ends r ready peers m votes q none leads among (inr (inr w)) = absurd (none_waits peers m (reply_of r q) none (rw (leads, among) refl) w)
