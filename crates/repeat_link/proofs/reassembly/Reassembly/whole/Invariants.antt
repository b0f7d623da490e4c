use Rattle.std.proofs.Common.{◌≡◌, ◌++◌, drop}
use Rattle.std.specs.Option.{option_map}
use Rattle.repeat_link.specs.Parts.{whole}
use Rattle.repeat_link.proofs.reassembly.Reassembly.whole.Given as goal

abbrev pub invariant-loop-part : goal.invariant-loop-part
invariant-loop-part l = whole l.self.parts ≡ option_map (λ rest. l.frame.items ++ rest) (whole (drop l.part-index l.part-items))
