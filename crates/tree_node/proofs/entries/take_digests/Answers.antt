use Rattle.std.proofs.Common.{arith}
use Rattle.std.proofs.lemmas.Result.{err_from_is_err_and}
use Rattle.fields.specs.Numbers.{run_at}
use Rattle.tree_node.proofs.RepeatLaws.{goes_on, stops, is_done, fails_of}
use Rattle.tree_node.proofs.entries.take_digests.Goals as goal

pub returns-in_err-digest-clause-exact : goal.returns-in_err-digest-clause-exact
returns-in_err-digest-clause-exact c =
    let p = err_from_is_err_and c.from_residual-in_err-digest.result c.from_residual-in_err-digest.ensures.1 in
    rw (p.1, p.2) (stops c.in_err-digest.field-0.0 (λ _. run_at 16) (λ _. tt) c.args.count c.loop.counter tt c.args.bytes.now c.loop.place c.loop.digests.items _ (omega arith) (fails_of _ _ c.in_err-digest.ensures.exact) c.loop.invariant.read)

pub loop-preserved : goal.loop-preserved
loop-preserved c = record {
  within = c.in_ok-digest.ensures.within;
  read = rw c.in_ok-push.ensures.items (goes_on (λ _. run_at 16) (λ _. tt) c.args.count c.loop.counter tt c.args.bytes.now c.loop.place c.loop.digests.items c.in_ok-digest.digest c.in_ok-digest.after _ (omega arith) c.in_ok-digest.ensures.exact c.loop.invariant.read);
}

pub returns-clause-exact : goal.returns-clause-exact
returns-clause-exact c = rw c.new.ensures (is_done (λ _. run_at 16) (λ _. tt) c.args.count c.loop.counter tt c.args.bytes.now c.loop.place c.loop.digests.items _ (omega arith) c.loop.invariant.read)
