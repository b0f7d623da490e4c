use Rattle.std.proofs.Common.{map}
use Rattle.lexemes.proofs.Ascending.{view_refused}
use Rattle.lexemes.proofs.lists.view.Goals as goal

pub returns : goal.returns
returns c = view_refused c.args.peers (map (λ word. word.now) c.args.words.now) c.in_ok-members.members (rw c.min.ensures at c.in_ok-members.ensures) (λ view. cc (c.in-Err.ensures.valid.1 (rw c.as_slice.ensures view)))
