use Rattle.std.proofs.Common.{sym, subst, ◌∙◌, ◌&&◌, nat_lt}
use Rattle.std.specs.Prelude.{All}
use Rattle.network.specs.Mail.{Mail, goes, goes_into, MayBeSent}
use Rattle.network.specs.Representation.{IsBelow}
use Rattle.network.proofs.Among.{into_none, into_member, into_other, into_all}
use Rattle.network.proofs.Either.{oldest_agree, oldest_either, oldest_never}
use Rattle.network.proofs.network.Network.oldest_from.Goals as goal
use Rattle.network.proofs.network.Network.oldest_from.Goals.{then-has, else-has}

pub loop-number-init : goal.loop-number-init
loop-number-init c =
    let peers = subst (λ (m : Mail). All MayBeSent m.sent) c.self.view_is c.self.invariant.may in
    oldest_never MayBeSent c.args.self.now peers _ (λ f ends. into_none c.args.peers.now f ends c.args.from)

pub loop-number-preserved : goal.loop-number-preserved
loop-number-preserved c =
    let peers = subst (λ (m : Mail). All MayBeSent m.sent) c.self.view_is c.self.invariant.may in
    let n = c.loop-number.number in
    let members = c.args.peers.now in
    elim c.if-has.branch [
      | then-has w ↦ oldest_either MayBeSent c.args.self.now peers (λ f. goes_into c.args.from members f && nat_lt f.to n) (goes c.args.from n) _ c.loop-number.best w.oldest_between.result c.if-has.best (λ f ends. into_member members f ends c.args.from n (sym c.has.ensures ∙ w.if-has.true)) c.loop-number.invariant w.oldest_between.ensures.oldest (w.best-is ∙ w.older-best.ensures)
      | else-has w ↦ w.best-is ∙ oldest_agree MayBeSent c.args.self.now peers (λ f. goes_into c.args.from members f && nat_lt f.to n) _ c.loop-number.best (λ f ends. into_other members f ends c.args.from n (sym c.has.ensures ∙ w.if-has.false)) c.loop-number.invariant
    ]

pub returns : goal.returns
returns c =
    let below = subst (λ (m : Mail). All (IsBelow c.self.inside.bound) m.sent) c.self.view_is c.self.invariant.below in
    oldest_agree (IsBelow c.self.inside.bound) c.args.self.now below _ _ c.loop-number.best (λ f ends. into_all c.args.peers.now f c.args.from c.self.inside.bound c.loop-number.number ends c.loop-number-test.false) c.loop-number.invariant
