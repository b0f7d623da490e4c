use Rattle.std.proofs.Common.{◌≡◌, ◌++◌, string_bytes, take}
use Rattle.std.specs.List.{filter}
use Rattle.ens_base.specs.PeerSet.{holds}
use Rattle.lexemes.specs.Spelling.{member_words}
use Rattle.schedule_text.specs.Writing.{spaced}
use Rattle.schedule_input.proofs.text.push_members_in.Given as goal

abbrev pub invariant-loop-member : goal.invariant-loop-member
invariant-loop-member l = string_bytes l.text ≡ string_bytes l.fn.text ++ spaced (member_words (filter (holds l.set) (take l.member-index l.members)))
