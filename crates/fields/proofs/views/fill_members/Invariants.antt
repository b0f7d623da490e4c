use Rattle.std.proofs.Common.{◌≡◌, ◌-◌, ◌≤◌, length, take}
use Rattle.fields.specs.Views.{members_at}
use Rattle.fields.proofs.MemberLoop.{with_prefix}
use Rattle.fields.proofs.views.fill_members.Given as goal

abbrev pub invariant-loop-i : goal.invariant-loop-i
invariant-loop-i l = record {
  within : l.place ≤ length l.bytes;
  read : with_prefix (take l.i l.members) (members_at (length l.members - l.i) l.low l.bytes l.place) ≡ members_at (length l.fn.members) 0 l.bytes l.at;
}
