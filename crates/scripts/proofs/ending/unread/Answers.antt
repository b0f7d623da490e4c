use Rattle.std.proofs.Common.{◌∙◌, append_assoc}
use Rattle.scripts.proofs.ending.unread.Goals as goal

pub returns-in_ok-format-in-Bad-clause-printed : goal.returns-in_ok-format-in-Bad-clause-printed
returns-in_ok-format-in-Bad-clause-printed c = λ source refuses. (c.in-Bad.line, c.in-Bad.cause, rw c.in-Bad.is at refuses, c.in_ok-format-in-Bad.ensures.ok ∙ simp append_assoc)
