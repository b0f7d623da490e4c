use Rattle.std.proofs.Common.{◌≡◌, ◌∙◌, true, ap, sym}
use Rattle.repeat_link.specs.Channels.{Talk, has_frame, noted, is_given, Holds}
use Rattle.repeat_link.specs.Received.{is_old}
use Rattle.repeat_link.proofs.Deliveries.{given_after_note, holds_after_note, noted_run, given_more, given_now, not_given_before, holds_at, if_given, numbered}
use Rattle.repeat_link.proofs.channel.Channel.take.Goals as goal

pub returns-then-note-clause-once : goal.returns-then-note-clause-once
returns-then-note-clause-once c =
    let t = c.args.self.now in
    let h = c.args.header.now in
    let u = c.note.new.self in
    let v = c.complete.new.self in
    let frame : has_frame h t ≡ true = sym c.note.ensures.result ∙ c.if-note.true in
    let run : v.run ≡ h.run = ap (λ (w : Talk). w.run) c.complete.ensures.others ∙ ap (λ (w : Talk). w.run) c.note.ensures.noted ∙ sym (noted_run c.args.now c.args.own h t frame) in
    if_given c.complete.result (λ new. (
      not_given_before c.args.now c.args.own h t frame (ap (λ (w : Talk). is_old w.received h.number) (sym c.note.ensures.noted) ∙ new.0),
      ap (λ r. is_given v r h.number) (sym run) ∙ given_now v h.number ∙ new.1,
    )) c.complete.ensures.once

pub returns-then-note-clause-kept : goal.returns-then-note-clause-kept
returns-then-note-clause-kept c run number given =
    let u = c.note.new.self in
    let v = c.complete.new.self in
    let then : is_given u run number ≡ true = ap (λ (w : Talk). is_given w run number) c.note.ensures.noted ∙ given_after_note c.args.now c.args.own c.args.header.now c.args.self.now run number given in
    given_more u v run number (ap (λ (w : Talk). w.run) c.complete.ensures.others) c.complete.ensures.kept then

pub returns-then-note-clause-sent : goal.returns-then-note-clause-sent
returns-then-note-clause-sent c frames holds is =
    let t = c.args.self.now in
    let h = c.args.header.now in
    let u = c.note.new.self in
    let frame : has_frame h t ≡ true = sym c.note.ensures.result ∙ c.if-note.true in
    let run : h.run ≡ u.run = noted_run c.args.now c.args.own h t frame ∙ sym (ap (λ (w : Talk). w.run) c.note.ensures.noted) in
    let held : Holds frames u = holds_at frames (noted c.args.now c.args.own h t) u (sym (ap (λ (w : Talk). w.run) c.note.ensures.noted)) (sym (ap (λ (w : Talk). w.partial) c.note.ensures.noted)) (holds_after_note frames c.args.now c.args.own h t holds) in
    c.complete.ensures.sent frames run held (numbered frames h c.args.part.now t frame is)

pub returns-else-note-clause-kept : goal.returns-else-note-clause-kept
returns-else-note-clause-kept c run number given = ap (λ (w : Talk). is_given w run number) c.note.ensures.noted ∙ given_after_note c.args.now c.args.own c.args.header.now c.args.self.now run number given
