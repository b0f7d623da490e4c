use Rattle.std.proofs.Common.{List, ℕ, map, sym, subst}
use Rattle.root_laws.specs.Steps.{AreOpened}
use Rattle.root.specs.Ends.{as_opening}
use Rattle.root.specs.Worlds.{worlds}
use Rattle.root.proofs.Legal.{script_legal}
use Rattle.root.proofs.Moves.{slots_opened}
use Rattle.root.proofs.run.run_root.Goals as goal

pub returns-clause-opened : goal.returns-clause-opened
returns-clause-opened g c =
    subst (λ (xs : List (ℕ × List ℕ × ℕ)). AreOpened worlds c.args.script.now (map as_opening xs)) (sym c.in_ok-finished.ensures.opened) (slots_opened c.args.script.now c.requires c.in_ok-run.run' c.in_ok-run.ensures.stands)

pub returns-clause-legal : goal.returns-clause-legal
returns-clause-legal g c = λ apart. script_legal c.args.script.now c.requires apart
