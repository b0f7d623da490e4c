use Rattle.std.proofs.Common.{Bool, List, sym, ap, subst, ◌∙◌}
use Rattle.ens_base.specs.PeerSet.{holds}
use Rattle.schedule_text.specs.Spelling.{MayStand}
use Rattle.schedule_text.specs.declared.event.ScheduleEvent.{ScheduleEvent}
use Rattle.schedule_input.proofs.Lines.{stands_at}
use Rattle.schedule_input.proofs.reverts.reverted_peers.Goals as goal
use Rattle.quorums.proofs.Sets.{none_held}

pub loop-event-init : goal.loop-event-init
loop-event-init c = λ p. ap (λ (set : List Bool). holds set p) c.empty-reverted.ensures ∙ none_held p

pub note_revert-requires : goal.note_revert-requires
note_revert-requires c =
    let P : ScheduleEvent → Type 0 = MayStand c.requires.0 in
    (c.requires.0, c.requires.1, subst P (sym c.event-item.is) (stands_at c.requires.0 c.args.events.now c.loop-event.event-index c.event-item.result c.loop-event-test.true c.requires.2))
