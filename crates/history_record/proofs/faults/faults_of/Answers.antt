use Rattle.std.specs.Prelude.{IfOk, Result, Ok, Err}
use Rattle.history_record.proofs.Found.{in_none}
use Rattle.history_record.proofs.Walks.{few_faults}
use Rattle.history_record.proofs.faults.faults_of.Goals as goal

-- what follows from what holds of a result follows on success
if_ok : {T E : Type 0} {P Q : T → Type 0} (r : Result T E) → ((x : T) → P x → Q x) → IfOk r P → IfOk r Q
if_ok (Ok x) f p = f x p
if_ok (Err e) f p = tt

pub returns-clause-legal : goal.returns-clause-legal
returns-clause-legal c = if_ok c.faults_in.result (λ faults. in_none c.args.calls.now c.args.answers.now c.args.histories.now faults.items) c.faults_in.ensures.faults

pub returns-clause-few : goal.returns-clause-few
returns-clause-few c = if_ok c.faults_in.result (λ faults. few_faults c.args.calls.now c.args.answers.now c.args.histories.now faults.items) c.faults_in.ensures.faults
