use Rattle.std.proofs.Common.{rules, arith, refl}
use Rattle.history_scribe.proofs.Ranks.{fits_if}
use Rattle.std.proofs.lemmas.Result.{on_ok_weaker}
use Rattle.history_scribe.proofs.Gathered.{takes_proposal, takes_settled, takes_read}
use Rattle.history_scribe.specs.declared.told.Proposal.{Proposal}
use Rattle.history_scribe.proofs.told.Told.take.Goals as goal

pub returns-in-Proposed : goal.returns-in-Proposed
returns-in-Proposed c = λ rest all key old.
    let p : Proposal = record { parent = c.in-Proposed.parent; call = c.in-Proposed.call } in
    on_ok_weaker c.propose.result (λ proposals. takes_proposal c.args.self.now c.propose.new.self rest all key c.in-Proposed.version p (omega arith, omega arith) proposals c.propose.ensures.newest c.propose.ensures.reads (rw c.in-Proposed.is at old)) c.propose.ensures.proposals

pub returns-in-Settled : goal.returns-in-Settled
returns-in-Settled c = λ rest all key old.
    takes_settled c.args.self.now _ rest all key c.in-Settled.version c.greater-self.ensures refl refl (rw c.in-Settled.is at old)

pub returns-in-Read : goal.returns-in-Read
returns-in-Read c = λ rest all key old.
    let fits = fits_if c.in-Read.base (λ v e. (search rules, search rules)) in
    on_ok_weaker c.push.result (λ more. takes_read c.args.self.now _ rest all key c.in-Read.id c.in-Read.base fits refl refl more (rw c.in-Read.is at old)) c.push.ensures.ok
