use Rattle.std.proofs.Common.{refl, sym, subst, ℕ}
use Rattle.scripts.specs.declared.slots.Ensemble.TheVariants.{Slot}
use Rattle.schedule_text.specs.Spelling.{MayStand}
use Rattle.std.proofs.lemmas.Result.{IfErr-weaker}
use Rattle.replay.proofs.WorldModel.{errs}
use Rattle.root.specs.Ends.{PassesWith, StopsEvent}
use Rattle.root.proofs.Moves.{shut_memory, shut_refuses, slot_size, slot_turn}
use Rattle.root.proofs.Steps.{goes_err, slot_goes, slot_refused}
use Rattle.root.proofs.worlds.RootWorlds.apply_in_slot.Goals as goal
use Rattle.ens_base.proofs.Tests.{some_of}

pub apply_in-requires-after_bounds : goal.apply_in-requires-after_bounds
apply_in-requires-after_bounds g c κs within =
    subst (λ (n : ℕ). MayStand n c.args.event.now) (sym (slot_size c.args.script.now c.args.slot c.args.event.now c.requires.stood.0 c.args.self.now c.in-Some.world.now c.requires.stood.1 c.in-Some.ensures.value)) c.requires.event

pub returns-in_err-apply_in-in-Some-clause-goes : goal.returns-in_err-apply_in-in-Some-clause-goes
returns-in_err-apply_in-in-Some-clause-goes g c = λ r h.
    goes_err c.args.script.now _ (PassesWith c.args.script.now r (Slot c.args.slot) c.args.event.now) _ _ _ _ c.from_residual.result _ c.in_err-apply_in-in-Some.field-0.0 c.from_residual.ensures.1 (λ d e. e)
    (slot_refused c.args.script.now c.args.number c.args.slot c.args.event.now r c.args.self.now c.args.self.now h c.in-Some.world.now (sym c.in-Some.ensures.value) (Unit {0}) c.in_err-apply_in-in-Some.field-0.0 _ _ r c.in_err-apply_in-in-Some.ensures.reaches)

pub returns-in_err-apply_in-in-Some-clause-stops : goal.returns-in_err-apply_in-in-Some-clause-stops
returns-in_err-apply_in-in-Some-clause-stops g c = λ r h.
    errs (StopsEvent c.args.script.now r _ (Slot c.args.slot) c.args.event.now _ _) c.from_residual.result _ c.in_err-apply_in-in-Some.field-0.0 c.from_residual.ensures.1 (λ d e. e)
    (slot_turn c.args.script.now c.args.event.now r _ c.args.self.now h _ _ c.in_err-apply_in-in-Some.field-0.0 c.args.slot c.in-Some.world.now c.in-Some.ensures.value c.in_err-apply_in-in-Some.ensures.stops)

pub returns-in_ok-apply_in-in-Some-clause-goes : goal.returns-in_ok-apply_in-in-Some-clause-goes
returns-in_ok-apply_in-in-Some-clause-goes g c = λ r h.
    slot_goes c.args.script.now c.args.number c.args.slot c.args.event.now r c.args.self.now _ h c.in-Some.world.now (sym c.in-Some.ensures.value) c.apply_in.new.world _ _ c.in_ok-apply_in-in-Some.ensures.reaches
    ((c.get_mut.follows.holds c.apply_in.new.world).3 (some_of _ c.in-Some.world.now c.in-Some.ensures.value)).0 refl refl c.in_ok-apply_in-in-Some.ensures.text

pub returns-in-None-clause-goes : goal.returns-in-None-clause-goes
returns-in-None-clause-goes g c = λ r h.
    shut_refuses c.args.script.now c.args.number c.args.slot c.args.event.now r c.args.self.now _ h c.in-None.ensures.value _ c.refuse.result c.get_mut.follows.holds-at-none refl refl c.refuse.ensures.text c.refuse.ensures.memory

pub returns-in-None-clause-stops : goal.returns-in-None-clause-stops
returns-in-None-clause-stops g c = λ r h.
    IfErr-weaker c.refuse.result _ _ (λ e is. shut_memory c.args.script.now c.args.number c.args.slot c.args.event.now r _ c.args.self.now h c.in-None.ensures.value _ e is) c.refuse.ensures.memory
