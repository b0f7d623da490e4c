-- If no schedule was read, the printed text says so.
use Rattle.std.proofs.Common.{ℕ, List, Option, inl}
use Rattle.ens_base.specs.declared.status.Status.{Status}
use Rattle.world_model.specs.WorldSpec.{Account}
use Rattle.schedule_input.specs.Endings.{IsUnread}
use Rattle.replay.specs.Jobs.{PrintsWith}

pub unread_prints : (first now : Account) (source : Option (List ℕ)) (status : Status) (text : List ℕ) → IsUnread source status text → PrintsWith first now source status text
unread_prints first now source Status.Schedule text unread = unread
unread_prints first now source Status.Limit text unread = inl unread
unread_prints first now source Status.ReadFault text unread = unread
unread_prints first now source status text unread = absurd unread
