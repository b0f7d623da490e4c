use Rattle.ens_base.specs.Lists.{is_in}
use Rattle.std.specs.Prelude.{◌&&◌, not}
use Rattle.std.proofs.Common.{◌≡◌, ◌<◌, ◌++◌, List, Bool, length, take, drop, ap, arith, sym, subst, ◌∙◌}
use Rattle.network.specs.Lines.{line, line_place, cleared}
use Rattle.network.specs.Mail.{lost}
use Rattle.network.specs.Representation.{mail_in, IsKept}
use Rattle.network.proofs.Flags.{flag_cleared, length-cleared, written_over}
use Rattle.network.proofs.Losing.{cleared_is_lost, lost_in_line}
use Rattle.network.proofs.Posting.{own_below}
use Rattle.network.proofs.Queued.{in_line, queued_by}
use Rattle.network.proofs.network.Network.lose.Goals as goal

flags : (c : goal.After-self-1) → c.clear.new.waiting ≡ cleared c.self.inside.waiting.items (line c.self.inside.lines c.place-place.result)
flags c = c.clear.ensures.flags ∙ ap (λ (ws : List Bool). cleared ws (line c.self.inside.lines c.place-place.result)) c.as_mut_slice.ensures.value

over : (c : goal.After-self-1) → take c.self.inside.waiting.len (c.clear.new.waiting ++ drop (length c.clear.new.waiting) c.self.inside.waiting.items) ≡ cleared c.self.inside.waiting.items (line c.self.inside.lines c.place-place.result)
over c =
    written_over c.self.inside.waiting.items c.clear.new.waiting c.self.inside.waiting.len (ap length (flags c) ∙ length-cleared c.self.inside.waiting.items (line c.self.inside.lines c.place-place.result) ∙ sym c.self.inside.waiting.ok.0)
    ∙ flags c

pub returns : goal.returns
returns c =
    let place : c.place-place.result ≡ line_place c.args.from c.args.to = grind (arith, c.place-place.ensures, c.from.view_is, c.to.view_is) in
    ap (mail_in c.self.inside.sent.items) (over c)
    ∙ cleared_is_lost c.self.inside.sent.items c.self.inside.waiting.items c.self.inside.lines c.args.from c.args.to c.place-place.result c.self.invariant.may (in_line c.self.inside.sent.items c.self.inside.waiting.items c.self.inside.lines c.self.invariant.queued) c.requires place
    ∙ ap (lost c.args.from c.args.to) c.self.view_is

pub invariant_of-self : goal.invariant_of-self
invariant_of-self c =
    subst (λ (ws : List Bool). IsKept c.self.inside.sent.items ws c.clear.new.self c.self.inside.bound c.self.inside.first) (sym (over c)) (record {
      may = c.self.invariant.may;
      below = c.self.invariant.below;
      few = c.self.invariant.few;
      mail = length-cleared c.self.inside.waiting.items (line c.self.inside.lines c.place-place.result) ∙ c.self.invariant.mail;
      queued = queued_by _ _ _ (lost_in_line c.self.inside.sent.items c.self.inside.waiting.items c.self.inside.lines c.clear.new.self c.place-place.result (in_line c.self.inside.sent.items c.self.inside.waiting.items c.self.inside.lines c.self.invariant.queued) c.clear.ensures.empty);
      settled = record {
        within = omega (arith, c.self.invariant.settled.within, length-cleared c.self.inside.waiting.items (line c.self.inside.lines c.place-place.result));
        none = λ n below. flag_cleared c.self.inside.waiting.items (line c.self.inside.lines c.place-place.result) n ∙ ap (λ (w : Bool). w && not (is_in (line c.self.inside.lines c.place-place.result) n)) (c.self.invariant.settled.none n below);
      };
    })

pub clear-requires-clause-known : goal.clear-requires-clause-known
clear-requires-clause-known c n there =
    let known : n < length c.self.inside.sent.items = own_below c.self.inside.sent.items c.place-place.result (line c.self.inside.lines c.place-place.result) ((in_line c.self.inside.sent.items c.self.inside.waiting.items c.self.inside.lines c.self.invariant.queued).own c.place-place.result) n there in
    omega (arith, known, c.self.invariant.mail, ap length c.as_mut_slice.ensures.value)
