use Rattle.std.proofs.Common.{◌≡◌, ◌<◌, ◌≤◌, ℕ, List, Some, None, length, sym, ap, ◌∙◌, subst, subst₂, arith}
use Rattle.http_exchange.specs.declared.limits.TheConstants.{MAX_TEXT}
use Rattle.http_exchange.specs.declared.stage.Stage.TheVariants.{Open, Asked}
use Rattle.http_exchange.specs.Fronts.{IsFront}
use Rattle.http_exchange.specs.Exchanges.{Connection, Nexts}
use Rattle.http_exchange.proofs.Nexts.{takes, refuses, too_long, invites, waits_on}
use Rattle.http_exchange.proofs.exchange.Exchange.next.Goals.{in-Partial+then-len-gt-MAX_TEXT+in_ok-refuse-in-Partial, in-Partial+else-len-gt-MAX_TEXT+then-waits+then-not-invited+in_ok-invite-in-Partial, in-Partial+else-len-gt-MAX_TEXT+else-waits, else-waits-via-then-waits+else-not-invited, else-waits-via-else-waits, in-Refused+in_ok-refuse-in-Refused}
use Rattle.http_exchange.proofs.exchange.Exchange.next.Goals as goal

pub returns-in-Whole-clause-ok : goal.returns-in-Whole-clause-ok
returns-in-Whole-clause-ok c =
    let self = c.self.inside in
    let old : Connection = record { stage = self.stage; unread = self.input.items; pending = self.output.items } in
    let front = subst (λ (t : List ℕ). IsFront t c.in_ok-whole.field-0) c.as_slice.ensures c.in_ok-whole.ensures in
    let next = takes old c.in-Open.invited c.in-Open.is c.in-Whole.whole (subst (IsFront self.input.items) c.in-Whole.is front) in
    subst₂ (λ a (t : List ℕ). Nexts a (record { stage = Asked c.in-Whole.whole.server c.in-Whole.whole.bodiless; unread = t; pending = self.output.items }) (Some c.in-Whole.whole.request))
    c.self.view_is (sym c.advance.ensures.items) next

pub returns-clause-ok : goal.returns-clause-ok
returns-clause-ok c =
    let old = c.args.self.now in
    let unread : c.self.inside.input.items ≡ old.unread = ap (λ (t : Connection). t.unread) c.self.view_is in
    let open_now : old.stage ≡ Open c.in-Open.invited = sym (ap (λ (t : Connection). t.stage) c.self.view_is) ∙ c.in-Open.is in
    let front = subst (λ (t : List ℕ). IsFront t c.in_ok-whole.field-0) (c.as_slice.ensures ∙ unread) c.in_ok-whole.ensures in
    elim c.match-branch-2.branch [
      | in-Partial+then-len-gt-MAX_TEXT+in_ok-refuse-in-Partial w ↦
          let over : MAX_TEXT < length old.unread = omega (arith, w.if-len-gt-MAX_TEXT.true, w.len.ensures.value, ap length unread) in
          subst (λ b. Nexts old b None) (sym (w.self-is ∙ w.in_ok-refuse-in-Partial.ensures.ok))
          (too_long old c.in-Open.invited open_now w.in-Partial.waits (subst (IsFront old.unread) w.in-Partial.is front) over)
      | in-Partial+else-len-gt-MAX_TEXT+then-waits+then-not-invited+in_ok-invite-in-Partial w ↦
          let short : length old.unread ≤ MAX_TEXT = omega (arith, w.if-len-gt-MAX_TEXT.false, w.len.ensures.value, ap length unread) in
          subst (λ b. Nexts old b None) (sym (w.self-is ∙ w.in_ok-invite-in-Partial.ensures.ok))
          (invites old c.in-Open.invited open_now w.in-Partial.waits (subst (IsFront old.unread) w.in-Partial.is front) short w.if-waits.true w.if-not-invited.true)
      | in-Partial+else-len-gt-MAX_TEXT+else-waits w ↦
          let short : length old.unread ≤ MAX_TEXT = omega (arith, w.if-len-gt-MAX_TEXT.false, w.len.ensures.value, ap length unread) in
          let partial = subst (IsFront old.unread) w.in-Partial.is front in
          subst (λ b. Nexts old b None) (sym w.self-is)
          (waits_on old c.in-Open.invited open_now w.in-Partial.waits partial short (elim w.else-waits.branch [
            | else-waits-via-then-waits+else-not-invited v ↦ λ both. let first = both.0 in let other = v.if-not-invited.false in cc
            | else-waits-via-else-waits v ↦ λ both. let asks = partial.1.1 both.1 in let other = v.if-waits.false in cc
          ]))
      | in-Refused+in_ok-refuse-in-Refused w ↦
          subst (λ b. Nexts old b None) (sym (w.self-is ∙ w.in_ok-refuse-in-Refused.ensures.ok))
          (refuses old c.in-Open.invited open_now w.in-Refused.why (subst (IsFront old.unread) w.in-Refused.is front))
    ]
