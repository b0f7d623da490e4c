use Rattle.std.proofs.Common.{◌&&◌, ◌∙◌, Bool, Some, ap, sym, false, rules}
use Rattle.std.specs.Option.{option_map_or}
use Rattle.std.specs.Prelude.{slice_get}
use Rattle.network.specs.Mail.{oldest, is_among, IsClear}
use Rattle.network.specs.Representation.{mail_in}
use Rattle.network.proofs.Least.{least_found}
use Rattle.network.proofs.MailLaws.{answer_is_sent}
use Rattle.network.proofs.network.Network.oldest_among.Goals as goal

pub returns-then-goes_among-clause-oldest : goal.returns-then-goes_among-clause-oldest
returns-then-goes_among-clause-oldest c =
    let sent = c.self.inside.sent.items in
    let waits = c.self.inside.waiting.items in
    let test = is_among c.args.peers.now in
    let clear : IsClear test c.self.inside.first (mail_in sent waits) = λ n below. ap (λ (w : Bool). w && option_map_or test (slice_get sent n) false) (c.self.invariant.settled.none n below) in
    sym (least_found test sent waits c.self.inside.first (search rules) clear) ∙ ap (oldest test) c.self.view_is

pub returns-then-goes_among-clause-sent : goal.returns-then-goes_among-clause-sent
returns-then-goes_among-clause-sent c = answer_is_sent (is_among c.args.peers.now) c.args.self.now (Some c.self.inside.first) (returns-then-goes_among-clause-oldest c)
