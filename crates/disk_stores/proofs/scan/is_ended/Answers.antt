use Rattle.std.proofs.Common.{◌≡◌, ◌-◌, ℕ, length, min, ap, ◌∙◌, arith}
use Rattle.std.proofs.lemmas.List.{length-replicate}
use Rattle.disk_stores.proofs.Scanning.{told_also, mark_shown}
use Rattle.disk_stores.proofs.scan.is_ended.Goals as goal

pub returns-clause-ended : goal.returns-clause-ended
returns-clause-ended g c =
    let room : length c.read.new.buf ≡ 1 = omega (arith, c.read.auto.buf, length-replicate {A = ℕ} 1 0) in
    told_also (g.D.Disk.seen c.args.disk.now)
    (λ file is read. c.is_marked.ensures ∙ mark_shown file c.args.at c.in_ok-count.count c.read.new.buf (read.0 ∙ ap (λ (n : ℕ). min n (length file - c.args.at)) room) read.1)
    c.in_ok-count.ensures.bytes
