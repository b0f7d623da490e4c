use Rattle.std.proofs.Common.{◌≡◌, [], ◌∷◌, ◌++◌, ap, rules}
use Rattle.register_model.specs.Histories.{IsLegal}
use Rattle.history_record.specs.Faults.{IsFaultOf}
use Rattle.history_record.proofs.Found.{all_next, fault_next, legal_next}
use Rattle.history_record.proofs.faults.faults_in.Goals.{in-Some+in_ok-push, in_default}
use Rattle.history_record.proofs.faults.faults_in.Goals as goal

pub loop-history-preserved : goal.loop-history-preserved
loop-history-preserved c =
    let calls = c.args.calls.now in
    let answers = c.args.answers.now in
    let h = c.history-item.result in
    elim c.match-branch-2.branch [
      | in-Some+in_ok-push w ↦
          let f = w.in-Some.fault in
          let new : c.match-branch-2.faults.items ≡ c.loop-history.faults.items ++ f ∷ [] = search rules in
          let of : IsFaultOf calls answers h f = search rules in
          fault_next calls answers c.args.histories.now c.loop-history.history-index h c.loop-history-test.true c.history-item.is c.loop-history.faults.items c.match-branch-2.faults.items c.loop-history.invariant f new of
      | in_default w ↦
          let fine : IsLegal calls answers h.key h.calls = search rules in
          let new : c.match-branch-2.faults.items ≡ c.loop-history.faults.items = ap (λ v. v.items) w.faults-is in
          legal_next calls answers c.args.histories.now c.loop-history.history-index h c.loop-history-test.true c.history-item.is c.loop-history.faults.items c.match-branch-2.faults.items c.loop-history.invariant new fine
    ]

pub returns : goal.returns
returns c = record { faults = all_next c.args.calls.now c.args.answers.now c.args.histories.now c.loop-history.history-index c.loop-history.faults.items c.loop-history-test.false c.loop-history.invariant }
