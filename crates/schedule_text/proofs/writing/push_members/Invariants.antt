use Rattle.std.proofs.Common.{◌≡◌, ◌++◌, string_bytes, take}
use Rattle.lexemes.specs.Spelling.{member_words}
use Rattle.schedule_text.specs.Writing.{spaced}
use Rattle.schedule_text.proofs.writing.push_members.Given as goal

abbrev pub invariant-loop-member : goal.invariant-loop-member
invariant-loop-member l = string_bytes l.out ≡ string_bytes l.fn.out ++ spaced (member_words (take l.member-index l.members))
