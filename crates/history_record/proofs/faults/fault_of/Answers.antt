use Rattle.std.proofs.Common.{◌≡◌, rules}
use Rattle.std.specs.Prelude.{None}
use Rattle.history_record.specs.Clauses.{IsFault, KeepsThree, first_late}
use Rattle.history_record.proofs.Legal.{illegal, legal}
use Rattle.history_record.proofs.faults.fault_of.Goals as goal

pub returns-in_ok-key-in-Some-clause-some : goal.returns-in_ok-key-in-Some-clause-some
returns-in_ok-key-in-Some-clause-some c =
    let calls = c.args.calls.now in
    let answers = c.args.answers.now in
    let h = c.args.history.now in
    let fault : IsFault calls answers h.key h.calls c.in-Some.clause c.in-Some.id = search rules in
    record { key = c.in_ok-key-in-Some.ensures; illegal = illegal calls answers h.key h.calls c.in-Some.clause c.in-Some.id c.requires.calls fault; fault = fault }

pub returns-in-None-clause-none : goal.returns-in-None-clause-none
returns-in-None-clause-none c =
    let calls = c.args.calls.now in
    let answers = c.args.answers.now in
    let h = c.args.history.now in
    let keeps : KeepsThree calls answers h.key h.calls × (first_late calls answers h.calls ≡ None) = search rules in
    legal calls answers h.key h.calls c.requires.in_order keeps.0 keeps.1
