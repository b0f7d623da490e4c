-- If no schedule was read, the printed text says so.
use Rattle.std.proofs.Common.{ℕ, List, Option, inl}
use Rattle.std.specs.Prelude.{Bool}
use Rattle.ens_base.specs.declared.status.Status.{Status}
use Rattle.schedule_input.specs.Endings.{IsUnread}
use Rattle.trace.specs.Jobs.{Traces}

pub unread_traces : (names : Bool) (source : Option (List ℕ)) (status : Status) (text : List ℕ) → IsUnread source status text → Traces names source status text
unread_traces names source Status.Schedule text unread = unread
unread_traces names source Status.Limit text unread = inl unread
unread_traces names source Status.ReadFault text unread = unread
unread_traces names source status text unread = absurd unread
