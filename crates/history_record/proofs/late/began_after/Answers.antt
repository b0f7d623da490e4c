use Rattle.std.proofs.Common.{sym, ◌∙◌}
use Rattle.register_model.specs.declared.call.Call.{Call}
use Rattle.history_record.specs.Lookups.{is_before}
use Rattle.history_record.proofs.Lookups.{any_none, any_one}
use Rattle.history_record.proofs.late.began_after.Goals as goal

pub returns-in-Some : goal.returns-in-Some
returns-in-Some c =
    c.is_before.ensures ∙ sym (any_one (λ (d : Call). d.id) (λ (d : Call). is_before c.args.event d.event) c.args.calls.now c.args.id c.in-Some.call.now c.requires.once c.in-Some.ensures.found.0 c.in-Some.ensures.found.1)

pub returns-in-None : goal.returns-in-None
returns-in-None c = sym (any_none (λ (d : Call). d.id) (λ (d : Call). is_before c.args.event d.event) c.args.calls.now c.args.id c.in-None.ensures.none)
