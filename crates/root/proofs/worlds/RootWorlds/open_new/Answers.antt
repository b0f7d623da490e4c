use Rattle.std.proofs.Common.{refl}
use Rattle.root.proofs.Steps.{cut_opening, goes_err, opened_goes}
use Rattle.root.proofs.worlds.RootWorlds.open_new.Goals as goal

pub returns-in_err-world-clause-goes : goal.returns-in_err-world-clause-goes
returns-in_err-world-clause-goes g c = λ r h.
    goes_err c.args.script.now _ (Unit {0}) _ _ _ _ c.from_residual.result _ c.in_err-world.field-0.0 c.from_residual.ensures.1 (λ d e. e) (cut_opening c.args.script.now c.args.number c.args.slot c.args.view r c.args.self.now h (Unit {0}) c.args.self.now _ _ c.in_err-world.field-0.0 (Unit {0}) c.requires.shut c.in_err-world.ensures.error)

pub returns-clause-goes : goal.returns-clause-goes
returns-clause-goes g c = λ r h.
    opened_goes c.args.script.now c.args.number c.args.slot c.args.view r c.args.self.now h _ c.in_ok-world.world _ _ c.requires.shut c.in_ok-world.ensures.ok c.in_ok-insert.ensures.updates.0 refl c.in_ok-push.ensures.items refl c.in_ok-world.ensures.hashed
