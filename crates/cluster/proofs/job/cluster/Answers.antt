use Rattle.hash_book.specs.Kept.{strings_of}
use Rattle.replay.specs.Jobs.{nothing_hashed}
use Rattle.replay.proofs.Endings.{empty_account}
use Rattle.cluster.proofs.Outcomes.{ends_from}
use Rattle.cluster.proofs.job.cluster.Goals as goal

pub returns-clause-printed : goal.returns-clause-printed
returns-clause-printed g c = λ wrote.
    let p = c.cluster_with.ensures.printed wrote in
    let same = empty_account (strings_of c.new-book.result.kept.entries) c.new-book.result.limit c.new-book.result.clashes c.new-book.result.fulls c.new-book.ensures.empty c.new-book.ensures.limit c.new-book.ensures.counts.0 c.new-book.ensures.counts.1 in
    (p.0, (_, ends_from g.L.Link.sent g.L.Link.given g.L.Link.fault_count c.args.words.now _ nothing_hashed _ _ c.args.link.now _ _ p.0 same p.1), p.2)

pub returns-clause-prefix : goal.returns-clause-prefix
returns-clause-prefix g c = λ fault.
    let p = c.cluster_with.ensures.prefix fault in
    let same = empty_account (strings_of c.new-book.result.kept.entries) c.new-book.result.limit c.new-book.result.clashes c.new-book.result.fulls c.new-book.ensures.empty c.new-book.ensures.limit c.new-book.ensures.counts.0 c.new-book.ensures.counts.1 in
    (p.0, p.1, (_, ends_from g.L.Link.sent g.L.Link.given g.L.Link.fault_count c.args.words.now _ nothing_hashed _ _ c.args.link.now _ p.0 p.1 same p.2), p.3, p.4)
