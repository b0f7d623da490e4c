use Rattle.std.proofs.Common.{◌≡◌, ◌++◌, drop}
use Rattle.repeat_link.specs.Sendings.{all_due}
use Rattle.repeat_link.proofs.datagrams.due_datagrams.Given as goal

abbrev pub invariant-loop-one : goal.invariant-loop-one
invariant-loop-one l = l.out.items ++ all_due l.header l.first l.now (drop l.one-index l.queued) ≡ all_due l.header l.first l.now l.queued
