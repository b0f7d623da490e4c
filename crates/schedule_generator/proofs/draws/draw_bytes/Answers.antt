use Rattle.std.proofs.Common.{◌≡◌, ◌∷◌, [], ◌++◌, refl, rules, arith, sym, ◌∙◌}
use Rattle.schedule_generator.specs.Drawing.{draw}
use Rattle.schedule_generator.proofs.Loops.{one_byte, all_bytes}
use Rattle.schedule_generator.proofs.draws.draw_bytes.Goals as goal

pub loop-turn-preserved : goal.loop-turn-preserved
loop-turn-preserved c =
    let items : c.push.new.self.items ≡ c.loop-turn.bytes.items ++ (draw 256 c.loop-turn.x).1 ∷ [] = search rules in
    let x : c.draw.new.x ≡ (draw 256 c.loop-turn.x).0 = search rules in
    c.loop-turn.invariant ∙ one_byte c.args.count c.loop-turn._turn c.loop-turn.x c.loop-turn.bytes.items (omega arith) ∙ rw (items, x) refl

pub returns : goal.returns
returns c = sym (c.loop-turn.invariant ∙ all_bytes c.args.count c.loop-turn._turn c.loop-turn.x c.loop-turn.bytes.items (omega arith))
