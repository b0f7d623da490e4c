use Rattle.std.proofs.Common.{◌∙◌, ◌++◌, inl, sym, subst}
use Rattle.std.specs.Prelude.{IfErr}
use Rattle.replay.proofs.WorldModel.{errs}
use Rattle.scripts.specs.declared.slots.Ensemble.TheVariants.{Root, Slot}
use Rattle.root_laws.specs.Steps.{in_root, in_slot}
use Rattle.schedule_text.specs.Spelling.{MayStand}
use Rattle.schedule_text.specs.declared.event.ScheduleEvent.{ScheduleEvent}
use Rattle.world_spec.specs.Held.{account}
use Rattle.root.specs.Ends.{PassesWith, StopsEvent, StopsLine}
use Rattle.root.specs.Hashed.{opened_hashed, opened_since, own_hashed}
use Rattle.root.specs.Standing.{Goes}
use Rattle.root.specs.Worlds.{events_in, worlds}
use Rattle.root.proofs.Moves.{line_stops, memory_stops, root_line_goes, slot_line_goes}
use Rattle.root.proofs.Own.{own_stands}
use Rattle.root.proofs.Steps.{cut_sooner, goes_err}
use Rattle.root.proofs.worlds.RootWorlds.apply_line.Goals as goal

pub returns-in_err-own-clause-stops : goal.returns-in_err-own-clause-stops
returns-in_err-own-clause-stops g c = λ r h.
    errs (StopsLine c.args.script.now c.args.number c.args.event.now r _ _) c.from_residual.result _ c.in_err-own.field-0.0 c.from_residual.ensures.1 (λ d e. e) (memory_stops c.args.script.now c.args.number c.args.event.now r _ _ c.in_err-own.field-0.0 c.in_err-own.ensures.memory)

pub returns-in_err-ensemble_of-clause-stops : goal.returns-in_err-ensemble_of-clause-stops
returns-in_err-ensemble_of-clause-stops g c = λ r h.
    errs (StopsLine c.args.script.now c.args.number c.args.event.now r _ _) c.from_residual-in_err-ensemble_of.result _ c.in_err-ensemble_of.field-0.0 c.from_residual-in_err-ensemble_of.ensures.1 (λ d e. e) (inl c.in_err-ensemble_of.ensures.error)

pub returns-in_err-ensemble_of-clause-goes : goal.returns-in_err-ensemble_of-clause-goes
returns-in_err-ensemble_of-clause-goes g c = λ r h.
    goes_err c.args.script.now _ _ _ _ _ _ c.from_residual-in_err-ensemble_of.result _ c.in_err-ensemble_of.field-0.0 c.from_residual-in_err-ensemble_of.ensures.1 (λ d e. e) (cut_sooner c.args.script.now r _ (Unit {0}) _ _ _ _ c.args.self.now c.in_err-ensemble_of.field-0.0 c.in_err-ensemble_of.ensures.error)

pub apply_in_root-requires-clause-event : goal.apply_in_root-requires-clause-event
apply_in_root-requires-clause-event g c κs within = subst (λ (e : ScheduleEvent). MayStand c.args.script.now.peers e) (sym c.in_ok-own.ensures.event) (own_stands c.args.script.now.peers c.args.event.now c.requires.event)

pub apply_in_slot-requires-clause-event : goal.apply_in_slot-requires-clause-event
apply_in_slot-requires-clause-event g c κs within = subst (λ (e : ScheduleEvent). MayStand c.args.script.now.peers e) (sym c.in_ok-own.ensures.event) (own_stands c.args.script.now.peers c.args.event.now c.requires.event)

pub returns-in-Root-clause-stops : goal.returns-in-Root-clause-stops
returns-in-Root-clause-stops g c = λ r h.
    line_stops c.args.script.now c.args.number c.args.event.now r _ _ _ c.apply_in_root.new.self c.in_ok-ensemble_of.ensures.hashed c.apply_in_root.result Root (sym c.in_ok-ensemble_of.ensures.ensemble ∙ c.in-Root.is)
    (subst (λ (e : ScheduleEvent). IfErr c.apply_in_root.result (StopsEvent c.args.script.now r (in_root worlds c.args.script.now c.args.number e r) Root e (account g.H.Hasher16.kept g.H.Hasher16.clashes g.H.Hasher16.fulls c.ensemble_of.new.hasher) (account g.H.Hasher16.kept g.H.Hasher16.clashes g.H.Hasher16.fulls c.apply_in_root.new.hasher))) c.in_ok-own.ensures.event (c.apply_in_root.ensures.stops r h))

pub returns-in-Root-clause-goes : goal.returns-in-Root-clause-goes
returns-in-Root-clause-goes g c = λ r h.
    root_line_goes c.args.script.now c.args.number c.args.event.now r _ _ _ c.apply_in_root.new.self c.in_ok-ensemble_of.ensures.hashed c.apply_in_root.result (sym c.in_ok-ensemble_of.ensures.ensemble ∙ c.in-Root.is)
    (subst (λ (e : ScheduleEvent). Goes c.args.script.now (in_root worlds c.args.script.now c.args.number e r) (own_hashed c.args.script.now e (events_in c.args.script.now r Root) ++ opened_hashed c.args.script.now (opened_since r (in_root worlds c.args.script.now c.args.number e r))) (PassesWith c.args.script.now r Root e) (account g.H.Hasher16.kept g.H.Hasher16.clashes g.H.Hasher16.fulls c.ensemble_of.new.hasher) (account g.H.Hasher16.kept g.H.Hasher16.clashes g.H.Hasher16.fulls c.apply_in_root.new.hasher) c.apply_in_root.new.self c.apply_in_root.result) c.in_ok-own.ensures.event (c.apply_in_root.ensures.goes r h))

pub returns-clause-stops : goal.returns-clause-stops
returns-clause-stops g c = λ r h.
    line_stops c.args.script.now c.args.number c.args.event.now r _ _ _ c.apply_in_slot.new.self c.in_ok-ensemble_of.ensures.hashed c.apply_in_slot.result (Slot c.in-Slot.slot) (sym c.in_ok-ensemble_of.ensures.ensemble ∙ c.in-Slot.is)
    (subst (λ (e : ScheduleEvent). IfErr c.apply_in_slot.result (StopsEvent c.args.script.now r (in_slot worlds c.args.script.now c.args.number c.in-Slot.slot e (r.slots c.in-Slot.slot) r) (Slot c.in-Slot.slot) e (account g.H.Hasher16.kept g.H.Hasher16.clashes g.H.Hasher16.fulls c.ensemble_of.new.hasher) (account g.H.Hasher16.kept g.H.Hasher16.clashes g.H.Hasher16.fulls c.apply_in_slot.new.hasher))) c.in_ok-own.ensures.event (c.apply_in_slot.ensures.stops r h))

pub returns-clause-goes : goal.returns-clause-goes
returns-clause-goes g c = λ r h.
    slot_line_goes c.args.script.now c.args.number c.args.event.now r _ _ _ c.apply_in_slot.new.self c.in_ok-ensemble_of.ensures.hashed c.apply_in_slot.result c.in-Slot.slot (sym c.in_ok-ensemble_of.ensures.ensemble ∙ c.in-Slot.is)
    (subst (λ (e : ScheduleEvent). Goes c.args.script.now (in_slot worlds c.args.script.now c.args.number c.in-Slot.slot e (r.slots c.in-Slot.slot) r) (own_hashed c.args.script.now e (events_in c.args.script.now r (Slot c.in-Slot.slot))) (PassesWith c.args.script.now r (Slot c.in-Slot.slot) e) (account g.H.Hasher16.kept g.H.Hasher16.clashes g.H.Hasher16.fulls c.ensemble_of.new.hasher) (account g.H.Hasher16.kept g.H.Hasher16.clashes g.H.Hasher16.fulls c.apply_in_slot.new.hasher) c.apply_in_slot.new.self c.apply_in_slot.result) c.in_ok-own.ensures.event (c.apply_in_slot.ensures.goes r h))
