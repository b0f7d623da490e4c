use Rattle.std.proofs.Common.{sym, subst, ◌∙◌, ◌&&◌, nat_lt}
use Rattle.std.specs.Prelude.{All}
use Rattle.network.specs.Mail.{Mail, goes_into, is_among, MayBeSent}
use Rattle.network.specs.Representation.{IsBelow}
use Rattle.network.proofs.Among.{among_none, among_member, among_other, among_all}
use Rattle.network.proofs.Either.{oldest_agree, oldest_either, oldest_never}
use Rattle.network.proofs.MailLaws.{answer_is_sent}
use Rattle.network.proofs.network.Network.oldest_in_lines.Goals as goal
use Rattle.network.proofs.network.Network.oldest_in_lines.Goals.{then-has, else-has}

pub loop-number-init : goal.loop-number-init
loop-number-init c =
    let peers = subst (λ (m : Mail). All MayBeSent m.sent) c.self.view_is c.self.invariant.may in
    oldest_never MayBeSent c.args.self.now peers _ (λ f ends. among_none c.args.peers.now f ends)

pub loop-number-preserved : goal.loop-number-preserved
loop-number-preserved c =
    let peers = subst (λ (m : Mail). All MayBeSent m.sent) c.self.view_is c.self.invariant.may in
    let n = c.loop-number.number in
    let members = c.args.peers.now in
    elim c.if-has.branch [
      | then-has w ↦ oldest_either MayBeSent c.args.self.now peers (λ f. is_among members f && nat_lt f.from n) (goes_into n members) _ c.loop-number.best w.oldest_from.result c.if-has.best (λ f ends. among_member members f ends n (sym c.has.ensures ∙ w.if-has.true)) c.loop-number.invariant w.oldest_from.ensures (w.best-is ∙ w.older-best.ensures)
      | else-has w ↦ w.best-is ∙ oldest_agree MayBeSent c.args.self.now peers (λ f. is_among members f && nat_lt f.from n) _ c.loop-number.best (λ f ends. among_other members f ends n (sym c.has.ensures ∙ w.if-has.false)) c.loop-number.invariant
    ]

pub returns-clause-oldest : goal.returns-clause-oldest
returns-clause-oldest c =
    let below = subst (λ (m : Mail). All (IsBelow c.self.inside.bound) m.sent) c.self.view_is c.self.invariant.below in
    oldest_agree (IsBelow c.self.inside.bound) c.args.self.now below _ _ c.loop-number.best (λ f ends. among_all c.args.peers.now f c.self.inside.bound c.loop-number.number ends c.loop-number-test.false) c.loop-number.invariant

pub returns-clause-sent : goal.returns-clause-sent
returns-clause-sent c = answer_is_sent (is_among c.args.peers.now) c.args.self.now c.loop-number.best (returns-clause-oldest c)
