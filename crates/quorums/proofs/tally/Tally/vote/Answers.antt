use Rattle.std.proofs.Common.{◌∙◌, sym}
use Rattle.std.proofs.lemmas.Bool.{false≢true}
use Rattle.quorums.proofs.Memberships.{member_of_test, test_of_member}
use Rattle.quorums.proofs.tally.Tally.vote.Goals as goal

pub returns-then-is_member-clause-other : goal.returns-then-is_member-clause-other
returns-then-is_member-clause-other c = λ no. absurd (no (member_of_test _ _ (sym c.is_member.ensures.member ∙ c.if-is_member.true)))

pub returns-else-is_member-clause-member : goal.returns-else-is_member-clause-member
returns-else-is_member-clause-member c = λ m p. absurd (false≢true (sym c.if-is_member.false ∙ c.is_member.ensures.member ∙ test_of_member _ _ m))
