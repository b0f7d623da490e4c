use Rattle.std.proofs.Common.{List, sym, ap, subst, ◌∙◌}
use Rattle.std.specs.Prelude.{All}
use Rattle.network.specs.Mail.{MayBeSent}
use Rattle.wire_frames.specs.declared.frame.Frame.{Frame}
use Rattle.world_spec.specs.Runs.{Run}
use Rattle.world_spec.proofs.Obeying.{run_may}
use Rattle.trace.proofs.job.run_text.Goals as goal

pub write_trace-requires : goal.write_trace-requires
write_trace-requires g c =
    let s = c.args.schedule.now in
    let P : List Frame → Type 0 = λ sent. All MayBeSent sent in
    subst P (sym (c.sent.ensures.sent ∙ ap (λ (w : Run). w.mail.sent) c.in-Ok.ensures.reaches.0)) (run_may s.form s.peers s.view s.events c.requires.peers.1 c.requires.events)
