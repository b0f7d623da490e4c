use Rattle.std.proofs.Common.{sym, ◌∙◌}
use Rattle.register_model.specs.declared.answer.Answer.{Answer}
use Rattle.register_model.specs.Histories.{is_refused}
use Rattle.history_record.proofs.Lookups.{any_none, any_one}
use Rattle.history_record.proofs.answers.was_refused.Goals as goal

pub returns-in-Some : goal.returns-in-Some
returns-in-Some c =
    c.is_refused.ensures ∙ sym (any_one (λ (a : Answer). a.id) (λ (a : Answer). is_refused a.reply) c.args.answers.now c.args.id c.in-Some.answer.now c.requires.once c.in-Some.ensures.found.0 c.in-Some.ensures.found.1)

pub returns-in-None : goal.returns-in-None
returns-in-None c = sym (any_none (λ (a : Answer). a.id) (λ (a : Answer). is_refused a.reply) c.args.answers.now c.args.id c.in-None.ensures.none)
