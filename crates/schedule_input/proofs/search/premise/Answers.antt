use Rattle.std.proofs.Common.{◌∙◌, List, sym, ap, subst}
use Rattle.schedule_text.specs.Spelling.{AllMayStand}
use Rattle.schedule_text.specs.declared.event.ScheduleEvent.{ScheduleEvent}
use Rattle.schedule_input.specs.Premise.{is_reverted}
use Rattle.schedule_input.proofs.Soundness.{found_by}
use Rattle.schedule_input.proofs.search.premise.Goals as goal

pub reverted_peers-reverted-requires : goal.reverted_peers-reverted-requires
reverted_peers-reverted-requires c =
    let P : List ScheduleEvent → Type 0 = AllMayStand c.args.schedule.now.peers in
    (c.args.schedule.now.peers, c.requires.peers.1, subst P (sym c.as_slice.ensures) c.requires.events)

pub returns-in-Some-clause-view : goal.returns-in-Some-clause-view
returns-in-Some-clause-view c =
    found_by c.args.schedule.now c.reverted_peers-reverted.result (λ p. c.reverted_peers-reverted.ensures p ∙ ap (λ (events : List ScheduleEvent). is_reverted events p) c.as_slice.ensures)
    ∙ sym c.first_named.ensures ∙ c.in-Some.is

pub returns-in-None-clause-view : goal.returns-in-None-clause-view
returns-in-None-clause-view c =
    found_by c.args.schedule.now c.reverted_peers-reverted.result (λ p. c.reverted_peers-reverted.ensures p ∙ ap (λ (events : List ScheduleEvent). is_reverted events p) c.as_slice.ensures)
    ∙ sym c.first_named.ensures ∙ c.in-None.is
