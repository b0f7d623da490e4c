use Rattle.std.proofs.Common.{refl, sym, subst, ℕ}
use Rattle.scripts.specs.declared.slots.Ensemble.TheVariants.{Root}
use Rattle.schedule_text.specs.Spelling.{MayStand}
use Rattle.replay.proofs.WorldModel.{errs}
use Rattle.root.specs.Ends.{PassesWith, StopsEvent}
use Rattle.root.proofs.Moves.{root_goes, root_size, root_stops, root_turn}
use Rattle.root.proofs.Steps.{goes_err, root_refused}
use Rattle.root.proofs.worlds.RootWorlds.apply_in_root.Goals as goal

pub apply_in-requires-after_bounds : goal.apply_in-requires-after_bounds
apply_in-requires-after_bounds g c κs within = subst (λ (n : ℕ). MayStand n c.args.event.now) (sym (root_size c.args.script.now c.requires.stood.0 c.args.self.now c.requires.stood.1)) c.requires.event

pub returns-in_err-before-clause-goes : goal.returns-in_err-before-clause-goes
returns-in_err-before-clause-goes g c = λ r h.
    goes_err c.args.script.now _ (PassesWith c.args.script.now r Root c.args.event.now) _ _ _ _ c.from_residual.result _ c.in_err-before.field-0.0 c.from_residual.ensures.1 (λ d e. e)
    (root_refused c.args.script.now c.args.number c.args.event.now r c.args.self.now c.args.self.now h (Unit {0}) c.in_err-before.field-0.0 _ _ r _ c.in_err-before.ensures.reaches)

pub returns-in_err-before-clause-stops : goal.returns-in_err-before-clause-stops
returns-in_err-before-clause-stops g c = λ r h.
    errs (StopsEvent c.args.script.now r _ Root c.args.event.now _ _) c.from_residual.result _ c.in_err-before.field-0.0 c.from_residual.ensures.1 (λ d e. e) (root_turn c.args.script.now c.args.event.now r _ c.args.self.now h _ _ c.in_err-before.field-0.0 c.in_err-before.ensures.stops)

pub returns-clause-goes : goal.returns-clause-goes
returns-clause-goes g c = λ r h.
    root_goes c.args.script.now c.args.number c.args.event.now r c.args.self.now _ h _ _ c.in_ok-before.ensures.reaches refl refl c.in_ok-before.ensures.text c.open_told.new.self _ c.open_told.result c.in_ok-before.before c.in_ok-before.ensures.before c.open_told.ensures.goes c.open_told.ensures.error

pub returns-clause-stops : goal.returns-clause-stops
returns-clause-stops g c = λ r h.
    root_stops c.args.script.now c.args.number c.args.event.now r c.args.self.now _ h _ _ c.in_ok-before.ensures.reaches refl refl c.in_ok-before.ensures.text c.open_told.new.self _ c.open_told.result c.in_ok-before.before c.in_ok-before.ensures.before c.open_told.ensures.goes c.open_told.ensures.error
