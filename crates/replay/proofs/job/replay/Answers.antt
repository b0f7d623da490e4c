use Rattle.hash_book.specs.Kept.{strings_of}
use Rattle.replay.specs.Jobs.{nothing_hashed}
use Rattle.replay.proofs.Completing.{runs_out}
use Rattle.replay.proofs.Endings.{empty_account, prints_from}
use Rattle.replay.proofs.job.replay.Goals as goal

pub returns-clause-printed : goal.returns-clause-printed
returns-clause-printed g c = λ wrote.
    let p = c.replay_with.ensures.printed wrote in
    let same = empty_account (strings_of c.new-book.result.kept.entries) c.new-book.result.limit c.new-book.result.clashes c.new-book.result.fulls c.new-book.ensures.empty c.new-book.ensures.limit c.new-book.ensures.counts.0 c.new-book.ensures.counts.1 in
    (p.0, (_, prints_from _ nothing_hashed _ _ _ p.0 same p.1), p.2)

pub returns-clause-prefix : goal.returns-clause-prefix
returns-clause-prefix g c = λ fault.
    let p = c.replay_with.ensures.prefix fault in
    let same = empty_account (strings_of c.new-book.result.kept.entries) c.new-book.result.limit c.new-book.result.clashes c.new-book.result.fulls c.new-book.ensures.empty c.new-book.ensures.limit c.new-book.ensures.counts.0 c.new-book.ensures.counts.1 in
    (p.0, p.1, (_, prints_from _ nothing_hashed _ _ p.0 p.1 same p.2), p.3, p.4)

pub returns-clause-completes : goal.returns-clause-completes
returns-clause-completes g c = λ run calm quiet.
    let p = c.replay_with.ensures.printed (λ fault. quiet (c.replay_with.ensures.write fault)) in
    let same = empty_account (strings_of c.new-book.result.kept.entries) c.new-book.result.limit c.new-book.result.clashes c.new-book.result.fulls c.new-book.ensures.empty c.new-book.ensures.limit c.new-book.ensures.counts.0 c.new-book.ensures.counts.1 in
    runs_out _ _ p.0 run (_, prints_from _ nothing_hashed _ _ _ p.0 same p.1) (λ fault. calm (c.replay_with.ensures.read fault))
