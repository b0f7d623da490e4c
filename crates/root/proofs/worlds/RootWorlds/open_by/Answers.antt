use Rattle.std.proofs.Common.{arith, ◌≡◌, None}
use Rattle.std.proofs.lemmas.Grind.{common_steps}
use Rattle.std.proofs.lemmas.Option.{slice_get_read}
use Rattle.root.specs.Standing.{told_in}
use Rattle.root.proofs.Moves.{told_none}
use Rattle.root.proofs.worlds.RootWorlds.open_by.Goals as goal

pub returns-in-None-clause-goes : goal.returns-in-None-clause-goes
returns-in-None-clause-goes g c = λ r line at h.
    let none : None ≡ told_in c.args.script.now.events line = grind (arith, common_steps, slice_get_read, at) in
    told_none c.args.script.now c.args.number line r c.args.self.now _ none h
