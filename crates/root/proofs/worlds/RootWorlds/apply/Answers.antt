use Rattle.std.specs.Prelude.{IfErr}
use Rattle.std.proofs.Common.{arith, ◌≡◌, ◌+◌, Some, slice_get, subst, sym, ◌∙◌}
use Rattle.std.proofs.lemmas.Grind.{common_steps}
use Rattle.std.proofs.lemmas.Option.{same_Some, slice_get_read}
use Rattle.world_spec.specs.Held.{account}
use Rattle.root_laws.specs.Lines.{ensemble_of, own_event}
use Rattle.root_laws.specs.Steps.{step}
use Rattle.scripts.specs.declared.event.RootEvent.{RootEvent}
use Rattle.root.specs.Ends.{PassesWith, StopsLine}
use Rattle.root.specs.Hashed.{line_hashed}
use Rattle.root.specs.Standing.{Goes}
use Rattle.root.specs.Worlds.{worlds}
use Rattle.root.proofs.Own.{stands_in}
use Rattle.root.proofs.worlds.RootWorlds.apply.Goals as goal

pub apply_line-requires-clause-event : goal.apply_line-requires-clause-event
apply_line-requires-clause-event g c κs within =
    let here : slice_get c.args.script.now.events c.args.place ≡ Some c.index-as_slice-place.result = grind (arith, common_steps, slice_get_read, c.as_slice.ensures) in
    stands_in c.args.script.now.peers c.args.script.now.events c.args.place c.index-as_slice-place.result c.requires.script.events here

pub returns-clause-stops : goal.returns-clause-stops
returns-clause-stops g c = λ r line at h.
    let here : slice_get c.args.script.now.events c.args.place ≡ Some c.index-as_slice-place.result = grind (arith, common_steps, slice_get_read, c.as_slice.ensures) in
    let same : c.index-as_slice-place.result ≡ line = same_Some c.index-as_slice-place.result line (sym here ∙ at) in
    subst
    (λ (x : RootEvent). IfErr c.apply_line.result (StopsLine c.args.script.now (c.args.place + 1) x r (account g.H.Hasher16.kept g.H.Hasher16.clashes g.H.Hasher16.fulls c.args.hasher.now) (account g.H.Hasher16.kept g.H.Hasher16.clashes g.H.Hasher16.fulls c.apply_line.new.hasher)))
    same (c.apply_line.ensures.stops r h)

pub returns-clause-goes : goal.returns-clause-goes
returns-clause-goes g c = λ r line at h.
    let here : slice_get c.args.script.now.events c.args.place ≡ Some c.index-as_slice-place.result = grind (arith, common_steps, slice_get_read, c.as_slice.ensures) in
    let same : c.index-as_slice-place.result ≡ line = same_Some c.index-as_slice-place.result line (sym here ∙ at) in
    subst
    (λ (x : RootEvent). Goes c.args.script.now (step worlds c.args.script.now (c.args.place + 1) x r) (line_hashed c.args.script.now (c.args.place + 1) x r) (PassesWith c.args.script.now r (ensemble_of x) (own_event x)) (account g.H.Hasher16.kept g.H.Hasher16.clashes g.H.Hasher16.fulls c.args.hasher.now) (account g.H.Hasher16.kept g.H.Hasher16.clashes g.H.Hasher16.fulls c.apply_line.new.hasher) c.apply_line.new.self c.apply_line.result)
    same (c.apply_line.ensures.goes r h)
