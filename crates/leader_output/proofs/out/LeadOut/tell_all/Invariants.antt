use Rattle.std.proofs.Common.{◌≡◌, ◌++◌}
use Rattle.leader_output.specs.Sends.{is_other, sent_up_to}
use Rattle.leader_output.proofs.out.LeadOut.tell_all.Given as goal

abbrev pub invariant-loop-below : goal.invariant-loop-below
invariant-loop-below l = l.self ≡ record l.initial.self { sends = l.initial.self.sends ++ sent_up_to (is_other l.me l.views) l.message l.below }
