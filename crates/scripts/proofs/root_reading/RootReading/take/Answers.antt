use Rattle.std.proofs.Common.{Err, subst}
use Rattle.std.proofs.lemmas.Result.{err_from_is_err_and}
use Rattle.scripts.specs.Progress.{RootProgress, progress_of}
use Rattle.scripts.specs.RootReading.{TakesWords}
use Rattle.scripts.proofs.Heading.{titled_refused}
use Rattle.scripts.proofs.root_reading.RootReading.take.Goals as goal

pub returns-in_err-take_heading-in-Titled : goal.returns-in_err-take_heading-in-Titled
returns-in_err-take_heading-in-Titled c =
    let exit = err_from_is_err_and c.from_residual-in_err-take_heading-in-Titled.result c.from_residual-in_err-take_heading-in-Titled.ensures.1 in
    let events = c.self.inside.log.events.items in
    let e = c.in_err-take_heading-in-Titled.field-0.0 in
    let Old : RootProgress → Type 0 = λ p. TakesWords p c.args.line.now (progress_of c.self.inside.stage c.take_heading.new.heading events) (Err e) in
    rw (exit.1, exit.2)
    (subst Old c.self.view_is (titled_refused c.self.inside.stage c.self.inside.heading c.take_heading.new.heading events c.args.line.now e c.in-Titled.is c.self.invariant.begins c.in_err-take_heading-in-Titled.ensures))
