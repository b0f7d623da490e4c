use Rattle.std.specs.Str.Lines.{lines}
use Rattle.frame_codes.proofs.KeyLines.{key_lines}
use Rattle.frame_codes.proofs.laws.key_files_have_one_key_or_two.Goals as goal

pub returns : goal.returns
returns c text = key_lines (lines text)
