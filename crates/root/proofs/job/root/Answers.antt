use Rattle.hash_book.specs.Kept.{strings_of}
use Rattle.replay.proofs.Endings.{empty_account}
use Rattle.replay.specs.Jobs.{nothing_hashed}
use Rattle.root.proofs.Ends.{prints_from}
use Rattle.root.proofs.job.root.Goals as goal

pub returns-clause-printed : goal.returns-clause-printed
returns-clause-printed g c = λ wrote.
    let p = c.root_with.ensures.printed wrote in
    let same = empty_account (strings_of c.new-book.result.kept.entries) c.new-book.result.limit c.new-book.result.clashes c.new-book.result.fulls c.new-book.ensures.empty c.new-book.ensures.limit c.new-book.ensures.counts.0 c.new-book.ensures.counts.1 in
    (p.0, (_, prints_from _ nothing_hashed _ _ _ p.0 same p.1), p.2)

pub returns-clause-prefix : goal.returns-clause-prefix
returns-clause-prefix g c = λ fault.
    let p = c.root_with.ensures.prefix fault in
    let same = empty_account (strings_of c.new-book.result.kept.entries) c.new-book.result.limit c.new-book.result.clashes c.new-book.result.fulls c.new-book.ensures.empty c.new-book.ensures.limit c.new-book.ensures.counts.0 c.new-book.ensures.counts.1 in
    (p.0, p.1, (_, prints_from _ nothing_hashed _ _ p.0 p.1 same p.2), p.3, p.4)
