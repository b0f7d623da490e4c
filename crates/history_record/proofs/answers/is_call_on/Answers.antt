use Rattle.std.proofs.Common.{◌≡◌, sym, ◌∙◌, rules}
use Rattle.ens_base.specs.Lists.{same_bytes}
use Rattle.register_model.specs.declared.call.Call.{Call}
use Rattle.history_record.proofs.Lookups.{any_none, any_one}
use Rattle.history_record.proofs.answers.is_call_on.Goals as goal

pub returns-in-Some : goal.returns-in-Some
returns-in-Some c =
    let same : c.eq.result ≡ same_bytes c.in-Some.call.now.key c.args.key.now = search rules in
    same
    ∙ sym (any_one (λ (d : Call). d.id) (λ (d : Call). same_bytes d.key c.args.key.now) c.args.calls.now c.args.id c.in-Some.call.now c.requires.once c.in-Some.ensures.found.0 c.in-Some.ensures.found.1)

pub returns-in-None : goal.returns-in-None
returns-in-None c = sym (any_none (λ (d : Call). d.id) (λ (d : Call). same_bytes d.key c.args.key.now) c.args.calls.now c.args.id c.in-None.ensures.none)
