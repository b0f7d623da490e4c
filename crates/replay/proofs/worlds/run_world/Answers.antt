use Rattle.std.proofs.Common.{refl, subst, string_bytes}
use Rattle.world_model.specs.WorldSpec.{Run}
use Rattle.replay.specs.Text.{IsTextOfRun}
use Rattle.replay.proofs.Endings.{run_done, clash_ends, book_ending, limit_ending}
use Rattle.replay.proofs.worlds.run_world.Goals as goal

pub returns-in_ok-run_text-in-Ok-clause-ends : goal.returns-in_ok-run_text-in-Ok-clause-ends
returns-in_ok-run_text-in-Ok-clause-ends g c =
    let text = string_bytes c.in_ok-run_text-in-Ok.field-0 in
    run_done _ _ c.args.schedule.now c.requires.sound text c.requires.valid
    (c.in-Ok.ensures.reaches.1, subst (λ (w : Run). IsTextOfRun w text) c.in-Ok.ensures.reaches.0 c.in_ok-run_text-in-Ok.ensures) c.in-Ok.ensures.reaches.2 c.in-Ok.ensures.apart

pub returns-in_ok-clash_text-in-Err-Clash-clause-ends : goal.returns-in_ok-clash_text-in-Err-Clash-clause-ends
returns-in_ok-clash_text-in-Err-Clash-clause-ends g c = clash_ends _ _ c.args.schedule.now c.requires.sound _ _ _ (rw c.in-Err-Clash.field-0-is at c.in-Err-Clash.ensures.stops) c.in_ok-clash_text-in-Err-Clash.ensures

pub returns-in-Err-BookFull-clause-ends : goal.returns-in-Err-BookFull-clause-ends
returns-in-Err-BookFull-clause-ends g c = book_ending _ _ c.args.schedule.now c.requires.sound c.new.result _ refl c.new.ensures _ (rw c.in-Err-BookFull.field-0-is at c.in-Err-BookFull.ensures.stops)

pub returns-in-Err-MessageLimit-clause-ends : goal.returns-in-Err-MessageLimit-clause-ends
returns-in-Err-MessageLimit-clause-ends g c = limit_ending _ _ c.args.schedule.now c.requires.sound c.new-in-Err-MessageLimit.result _ refl c.new-in-Err-MessageLimit.ensures (rw c.in-Err-MessageLimit.field-0-is at c.in-Err-MessageLimit.ensures.stops)
