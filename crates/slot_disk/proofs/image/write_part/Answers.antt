use Rattle.std.proofs.Common.{◌<◌, length, ◌≡◌, ◌+◌, rules}
use Rattle.slot_disk.proofs.Files.{partly}
use Rattle.slot_disk.proofs.image.write_part.Goals as goal

pub returns : goal.returns
returns c =
    let bytes = c.args.bytes.now in
    let some : 0 < length bytes = search rules in
    let end_is : c.in_ok-end.end ≡ c.args.at + length bytes = search rules in
    partly c.args.file.now.items c.grow.new.file.items c.overwrite.new.file.items bytes c.args.at c.in_ok-end.end c.args.part some c.requires end_is c.in_ok-grow.ensures c.overwrite.ensures.over
