use Rattle.std.proofs.Common.{◌≡◌, ◌<◌, ◌≤◌, Bool, List, false, length, rules, arith, Some, ap, subst, sym, ◌∙◌}
use Rattle.std.specs.Prelude.{slice_get, slice_set}
use Rattle.std.proofs.lemmas.Grind.{common_steps}
use Rattle.std.proofs.lemmas.List.{length-set, set_past}
use Rattle.std.proofs.lemmas.Option.{gets}
use Rattle.network.specs.Lines.{line, from_waiting, Changes}
use Rattle.network.specs.Mail.{Mail, settled}
use Rattle.network.specs.Representation.{mail_in, AreSettled}
use Rattle.network.proofs.MailLaws.{flag_settled}
use Rattle.network.proofs.Posting.{own_below}
use Rattle.network.proofs.Settling.{settled_in_line}
use Rattle.network.proofs.Queued.{in_line, queued_by}
use Rattle.network.proofs.network.Network.settle.Goals as goal

pub skip-requires-clause-known : goal.skip-requires-clause-known
skip-requires-clause-known c n there =
    let known : n < length c.self.inside.sent.items = own_below c.self.inside.sent.items c.place-place.result (line c.self.inside.lines c.place-place.result) ((in_line c.self.inside.sent.items c.self.inside.waiting.items c.self.inside.lines c.self.invariant.queued).own c.place-place.result) n there in
    omega (arith, known, c.self.invariant.mail, ap length c.as_slice.ensures.value, length-set c.self.inside.waiting.items c.args.number false)

pub next_waiting-self-inside-requires : goal.next_waiting-self-inside-requires
next_waiting-self-inside-requires c = subst (λ (ws : List Bool). AreSettled ws c.self.inside.first) (sym c.as_slice-2.ensures.value) (record {
  within = omega (arith, c.self.invariant.settled.within, length-set c.self.inside.waiting.items c.args.number false);
  none = λ n below. flag_settled c.self.inside.waiting.items c.args.number n (c.self.invariant.settled.none n below);
})

pub invariant_of-self : goal.invariant_of-self
invariant_of-self c =
    let sent = c.self.inside.sent.items in
    let there : slice_get sent c.args.number ≡ Some c.in-Some.frame.now = grind (arith, common_steps, gets) in
    let skipped : Changes c.self.inside.lines c.skip.new.self c.place-place.result (from_waiting (slice_set c.self.inside.waiting.items c.args.number false)) = rw c.as_slice.ensures.value at c.skip.ensures in
    record {
      may = c.self.invariant.may;
      below = c.self.invariant.below;
      few = c.self.invariant.few;
      mail = length-set c.self.inside.waiting.items c.args.number false ∙ c.self.invariant.mail;
      queued = queued_by _ _ _ (settled_in_line sent c.self.inside.waiting.items c.self.inside.lines c.skip.new.self c.in-Some.frame.now c.place-place.result c.args.number (in_line c.self.inside.sent.items c.self.inside.waiting.items c.self.inside.lines c.self.invariant.queued) there c.place-place.ensures skipped);
      settled = subst (λ (ws : List Bool). AreSettled ws c.next_waiting-self-inside.result) c.as_slice-2.ensures.value c.next_waiting-self-inside.ensures;
    }

pub returns : goal.returns
returns c = ap (λ (m : Mail). settled m c.args.number) c.self.view_is

pub returns-in_default : goal.returns-in_default
returns-in_default c =
    let sent = c.self.inside.sent.items in
    let beyond : length sent ≤ c.args.number = search rules in
    sym c.self.view_is
    ∙ ap (mail_in sent) (sym (set_past c.self.inside.waiting.items c.args.number false (omega (arith, beyond, c.self.invariant.mail))))
    ∙ ap (λ (m : Mail). settled m c.args.number) c.self.view_is
