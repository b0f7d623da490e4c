use Rattle.std.proofs.Common.{ℕ, ◌<◌, subst, sym}
use Rattle.std.proofs.lemmas.Bool.{false≢true}
use Rattle.ens_base.proofs.Filling.{no_member}
use Rattle.ens_base.proofs.view.View.has.Goals as goal

pub returns-in-Err-clause-member : goal.returns-in-Err-clause-member
returns-in-Err-clause-member c = (λ h. absurd (false≢true h), λ h. absurd (no_member c.args.self.now c.args.peer c.members-members.ensures.view (λ below. c.in-Err.ensures (subst (λ (p : ℕ). p < 256) (sym c.peer.view_is) below)) h))
