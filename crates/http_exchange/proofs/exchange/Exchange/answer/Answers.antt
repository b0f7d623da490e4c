use Rattle.std.proofs.Common.{◌≡◌, ℕ, List, [], ◌++◌, false, ap, sym, ◌∙◌}
use Rattle.std.specs.Prelude.{IsOkAnd}
use Rattle.http1.specs.Head.{pairs}
use Rattle.http_exchange.specs.declared.stage.Stage.{Stage}
use Rattle.http_exchange.specs.declared.stage.Stage.TheVariants.{Open, Asked}
use Rattle.http_exchange.specs.Exchanges.{Connection, stage_after, answer_text, answered_by}
use Rattle.http_exchange.proofs.Answered.{stays_open, answered}
use Rattle.http_exchange.proofs.exchange.Exchange.answer.Goals.{then-not-is_closed, else-not-is_closed}
use Rattle.http_exchange.proofs.exchange.Exchange.answer.Goals as goal

-- with the stage that the server's state gives, the connection is the one that the clause names
joined : (c : goal.After-drop-text-in-Ok) (stage : Stage) → stage ≡ stage_after c.write_answer.new.server.writing
    → (record { stage = stage; unread = c.self.inside.input.items; pending = c.extend_from_slice.new.self.items }) ≡ answered_by c.args.self.now c.args.status c.args.reason.now (pairs c.args.headers.now) c.args.body.now
joined c stage is =
    let self = c.self.inside in
    let old : Connection = record { stage = self.stage; unread = self.input.items; pending = self.output.items } in
    let asked : self.stage ≡ Asked c.in-Asked.server c.in-Asked.bodiless = sym c.replace-stage.ensures.value ∙ c.in-Asked.is in
    let text = c.write_answer.new.output.items in
    let wrote : IsOkAnd (answer_text c.in-Asked.server c.in-Asked.bodiless c.args.status c.args.reason.now (pairs c.args.headers.now) c.args.body.now) (λ w. (text ≡ [] ++ w.text) × (c.write_answer.new.server ≡ w.server)) =
    rw c.new-text.ensures.items at c.in-Ok.ensures.ok in
    let pending : c.extend_from_slice.new.self.items ≡ self.output.items ++ text =
    c.in_ok-extend_from_slice-in-Ok.ensures.ok ∙ ap (λ (t : List ℕ). self.output.items ++ t) c.as_slice.ensures in
    (λ i. record { stage = stage; unread = self.input.items; pending = pending i })
    ∙ answered old c.in-Asked.server c.in-Asked.bodiless c.args.status c.args.reason.now (pairs c.args.headers.now) c.args.body.now text c.write_answer.new.server stage asked wrote is
    ∙ ap (λ t. answered_by t c.args.status c.args.reason.now (pairs c.args.headers.now) c.args.body.now) c.self.view_is

pub returns-in-Ok-clause-ok : goal.returns-in-Ok-clause-ok
returns-in-Ok-clause-ok c =
    elim c.if-not-is_closed.branch [
      | then-not-is_closed w ↦
          w.self-is ∙ joined c (Open false) (sym (stays_open c.write_answer.new.server.writing (λ is. let closed = c.is_closed.ensures.1 is in let other = w.if-not-is_closed.true in cc)))
      | else-not-is_closed w ↦
          w.self-is ∙ joined c c.replace-stage.new.dest (c.replace-stage.ensures.after ∙ sym (ap stage_after (c.is_closed.ensures.0 w.if-not-is_closed.false)))
    ]
