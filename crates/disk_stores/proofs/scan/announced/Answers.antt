use Rattle.std.proofs.Common.{◌≡◌, ◌-◌, ℕ, length, drop, min, ap, ◌∙◌, arith}
use Rattle.std.proofs.lemmas.List.{length-replicate}
use Rattle.disk_stores.proofs.Scanning.{told_also, read_header, no_header, announces}
use Rattle.disk_stores.proofs.scan.announced.Goals as goal

pub returns-in-None-clause-announced : goal.returns-in-None-clause-announced
returns-in-None-clause-announced g c =
    let room : length c.read.new.buf ≡ 265 = omega (arith, c.read.auto.buf, length-replicate {A = ℕ} 265 0) in
    told_also (g.D.Disk.seen c.args.disk.now)
    (λ file is read size le. no_header (drop c.args.at file) (read_header file c.args.at c.in-Ok.count c.read.new.buf c.in_ok-header_of.field-0 (read.0 ∙ ap (λ (n : ℕ). min n (length file - c.args.at)) room) read.1 c.in_ok-header_of.ensures ∙ c.in-None.is))
    c.in-Ok.ensures.bytes

pub returns-in-Some-clause-announced : goal.returns-in-Some-clause-announced
returns-in-Some-clause-announced g c =
    let room : length c.read.new.buf ≡ 265 = omega (arith, c.read.auto.buf, length-replicate {A = ℕ} 265 0) in
    told_also (g.D.Disk.seen c.args.disk.now)
    (λ file is read size le. announces file c.args.at c.args.size c.in-Some.header c.placed.result (read_header file c.args.at c.in-Ok.count c.read.new.buf c.in_ok-header_of.field-0 (read.0 ∙ ap (λ (n : ℕ). min n (length file - c.args.at)) room) read.1 c.in_ok-header_of.ensures ∙ c.in-Some.is) size le c.placed.ensures.placed)
    c.in-Ok.ensures.bytes
