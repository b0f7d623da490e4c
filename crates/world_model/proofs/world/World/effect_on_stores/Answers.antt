use Rattle.std.proofs.Common.{refl, sym, subst, Ok}
use Rattle.world_spec.specs.Runs.{Run}
use Rattle.world_model.specs.Worlds.{run_of, Adds}
use Rattle.world_model.proofs.Begins.{begins_by, begins_changed}
use Rattle.world_model.proofs.StoreLines.{other_line}
use Rattle.world_model.proofs.world.World.effect_on_stores.Goals as goal

pub returns-in-Revert-clause-begins : goal.returns-in-Revert-clause-begins
returns-in-Revert-clause-begins c = begins_changed c.args.self.now _ _ _ c.revert.ensures

pub returns-in-Fail-clause-begins : goal.returns-in-Fail-clause-begins
returns-in-Fail-clause-begins c = begins_changed c.args.self.now _ _ _ c.fail_next.ensures

pub returns-in_default-clause-reaches : goal.returns-in_default-clause-reaches
returns-in_default-clause-reaches c = subst (λ (due : Run). Adds due (Ok (tt {0})) (run_of c.args.self.now)) (sym (other_line c.args.event.now (run_of c.args.self.now) c.in_default.not-Spoil c.in_default.not-Inner c.in_default.not-Revert c.in_default.not-Fail)) (refl, c.args.self.now.within)

pub returns-in_default-clause-begins : goal.returns-in_default-clause-begins
returns-in_default-clause-begins c = begins_by c.args.self.now c.args.self.now refl refl
