-- If no schedule was read, the printed text says so.
use Rattle.std.proofs.Common.{ℕ, List, Option, inl}
use Rattle.ens_base.specs.declared.status.Status.{Status}
use Rattle.schedule_input.specs.Endings.{IsUnread}
use Rattle.chart.specs.Jobs.{Charts}

pub unread_charts : (source : Option (List ℕ)) (status : Status) (text : List ℕ) → IsUnread source status text → Charts source status text
unread_charts source Status.Schedule text unread = unread
unread_charts source Status.Limit text unread = inl unread
unread_charts source Status.ReadFault text unread = unread
unread_charts source status text unread = absurd unread
