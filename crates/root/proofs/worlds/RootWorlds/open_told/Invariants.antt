use Rattle.std.proofs.Common.{◌≡◌, drop, take}
use Rattle.world_spec.specs.Held.{HasHashed, account}
use Rattle.root_laws.specs.Steps.{Roots, open_lines}
use Rattle.replay.specs.WorldModel.{run_of}
use Rattle.root.specs.Hashed.{opened_hashed, opened_since}
use Rattle.root.specs.Standing.{Stands}
use Rattle.root.proofs.worlds.RootWorlds.open_told.Given as goal

abbrev pub invariant-loop-place : goal.invariant-loop-place
invariant-loop-place g l = record {
  root : l.self.root ≡ l.fn.self.root;
  goes : (r : Roots) → Stands l.script r l.fn.self
      → Stands l.script (open_lines l.script.events l.number (drop l.before (take l.place (run_of l.fn.self.root).printed)) r) l.self
      × HasHashed (opened_hashed l.script (opened_since r (open_lines l.script.events l.number (drop l.before (take l.place (run_of l.fn.self.root).printed)) r))) (account g.H.Hasher16.kept g.H.Hasher16.clashes g.H.Hasher16.fulls l.fn.hasher) (account g.H.Hasher16.kept g.H.Hasher16.clashes g.H.Hasher16.fulls l.hasher);
}
