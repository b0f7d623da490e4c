use Rattle.repeat_link.proofs.Windows.{marked_takes}
use Rattle.repeat_link.proofs.received.Received.marked.Goals as goal

pub returns : goal.returns
returns c = marked_takes c.args.self c.args.number c.requires.below c.requires.within
