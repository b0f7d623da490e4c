use Rattle.std.proofs.Common.{◌≡◌, ◌≤◌, List, length, ap, subst, ◌∙◌, arith}
use Rattle.ens_base.specs.Lists.{◌∈◌}
use Rattle.register_model.specs.declared.answer.Answer.{Answer}
use Rattle.register_model.specs.declared.call.Call.{Call}
use Rattle.register_model.specs.declared.history.History.{History}
use Rattle.history_record.specs.Calls.{calls_from}
use Rattle.history_record.specs.Records.{calls_of}
use Rattle.audit.proofs.Reported.{reported}
use Rattle.audit.proofs.auditing.audit.Goals as goal

pub faults_of-requires-clause-in_order : goal.faults_of-requires-clause-in_order
faults_of-requires-clause-in_order c = λ a d given made named.
    let same : c.deref.result.now ≡ calls_of c.args.recorded.now = c.deref.ensures.value ∙ c.in_ok-calls.ensures ∙ ap (calls_from 1) c.as_slice.ensures in
    c.requires.in_order a d (subst (λ (answers : List Answer). a ∈ answers) c.as_slice-2.ensures given) (subst (λ (calls : List Call). d ∈ calls) same made) named

pub returns-clause-report : goal.returns-clause-report
returns-clause-report c =
    let r = c.args.recorded.now in
    let same : c.deref.result.now ≡ calls_of r = c.deref.ensures.value ∙ c.in_ok-calls.ensures ∙ ap (calls_from 1) c.as_slice.ensures in
    let keys : length c.as_slice-histories.result.now ≡ length r.histories = ap (λ (hs : List History). length hs) c.as_slice-histories.ensures in
    let few : length c.in-Ok.faults.items ≤ length r.histories = omega (arith, c.in-Ok.ensures.few, keys) in
    let faults = rw (c.as_slice-2.ensures, c.as_slice-histories.ensures) at c.in-Ok.ensures.faults in
    let legal = rw (c.as_slice-2.ensures, c.as_slice-histories.ensures) at c.in-Ok.ensures.legal in
    reported r c.requires c.deref.result.now same _ keys (omega (arith, c.len.ensures, c.in-Ok.faults.ok)) few faults legal
