use Rattle.std.proofs.Common.{◌∙◌, ◌++◌, ◌∷◌, [], codes, sym}
use Rattle.std.proofs.lemmas.Result.{IfOk-weaker}
use Rattle.ens_base.specs.declared.status.Status.TheVariants as Status
use Rattle.ens_base.proofs.Tests.{on_err}
use Rattle.world_model.specs.WorldSpec.{account}
use Rattle.cluster.proofs.Outcomes.{OnErr-weaker, ended_as, ends_as, read_whole, run_status, script_ends, unread_ends, unread_memory, unread_read, unread_status}
use Rattle.cluster.proofs.job.cluster_ending.Goals as goal

pub run_ending-requires-clause-words : goal.run_ending-requires-clause-words
run_ending-requires-clause-words g c = λ κs lives. c.requires

pub run_ending-requires-clause-script : goal.run_ending-requires-clause-script
run_ending-requires-clause-script g c = λ κs lives. c.in-Ok.ensures.valid c.requires.peers.1

pub returns-in-Ok-clause-ends : goal.returns-in-Ok-clause-ends
returns-in-Ok-clause-ends g c =
    IfOk-weaker c.run_ending.result _ _
    (λ p ends. script_ends g.L.Link.sent g.L.Link.given g.L.Link.fault_count c.args.words.now _ c.args.link.now _ c.in-Ok.script _ _ p.status _ (c.in-Ok.ensures.valid c.requires.peers.1) c.in-Ok.ensures.ok ends)
    c.run_ending.ensures.ends

pub returns-in-Ok-clause-memory : goal.returns-in-Ok-clause-memory
returns-in-Ok-clause-memory g c =
    OnErr-weaker c.run_ending.result _ _
    (script_ends g.L.Link.sent g.L.Link.given g.L.Link.fault_count c.args.words.now (account g.H.Hasher16.kept g.H.Hasher16.clashes g.H.Hasher16.fulls c.args.hasher.now) c.args.link.now _ c.in-Ok.script c.run_ending.new.link
    (account g.H.Hasher16.kept g.H.Hasher16.clashes g.H.Hasher16.fulls c.run_ending.new.hasher) Status.Memory (codes "memory" ++ 10 ∷ []) (c.in-Ok.ensures.valid c.requires.peers.1) c.in-Ok.ensures.ok)
    c.run_ending.ensures.memory

pub returns-in-Ok-clause-read : goal.returns-in-Ok-clause-read
returns-in-Ok-clause-read g c =
    IfOk-weaker c.run_ending.result _ _ (λ p ends. read_whole g.L.Link.sent g.L.Link.given g.L.Link.fault_count c.args.words.now _ c.args.link.now c.in-Ok.script _ _ _ _ _ _ p.status _ c.read_script.ensures.taken c.in-Ok.ensures.end ends) c.run_ending.ensures.ends

pub returns-in-Ok-clause-status : goal.returns-in-Ok-clause-status
returns-in-Ok-clause-status g c =
    IfOk-weaker c.run_ending.result _ _ (λ p ends. run_status g.L.Link.sent g.L.Link.given g.L.Link.fault_count c.args.words.now _ c.args.link.now c.in-Ok.script _ _ p.status _ ends) c.run_ending.ensures.ends

pub returns-in_ok-unread-in-Err-clause-ends : goal.returns-in_ok-unread-in-Err-clause-ends
returns-in_ok-unread-in-Err-clause-ends g c =
    ends_as g.L.Link.sent g.L.Link.given g.L.Link.fault_count c.args.words.now _ c.args.link.now _ c.args.link.now _ _ _ _ _ c.of.ensures.status c.of.ensures.text
    (unread_ends g.L.Link.sent g.L.Link.given g.L.Link.fault_count c.args.words.now _ c.args.link.now _ c.in-Err.error _ _ _ (c.in_ok-unread-in-Err.ensures c.args.words.now.peers _ c.in-Err.ensures.bad))

pub returns-in_ok-unread-in-Err-clause-read : goal.returns-in_ok-unread-in-Err-clause-read
returns-in_ok-unread-in-Err-clause-read g c =
    ended_as c.args.words.now _ _ _ _ _ _ c.of.ensures.status
    (unread_read c.args.words.now _ _ _ _ c.in-Err.error _ _ c.read_script.ensures.taken (c.in_ok-unread-in-Err.ensures c.args.words.now.peers _ c.in-Err.ensures.bad) (λ is. (c.in-Err.ensures.failed (cc), c.in-Err.ensures.cut (cc))))

pub returns-in_ok-unread-in-Err-clause-status : goal.returns-in_ok-unread-in-Err-clause-status
returns-in_ok-unread-in-Err-clause-status g c = λ same. unread_status c.args.words.now.peers _ c.in-Err.error _ _ (c.in_ok-unread-in-Err.ensures c.args.words.now.peers _ c.in-Err.ensures.bad) (sym c.of.ensures.status ∙ same)

pub returns-in_err-unread-in-Err-clause-memory : goal.returns-in_err-unread-in-Err-clause-memory
returns-in_err-unread-in-Err-clause-memory g c = on_err c.from_residual.result _ (unread_memory g.L.Link.sent g.L.Link.given g.L.Link.fault_count c.args.words.now (account g.H.Hasher16.kept g.H.Hasher16.clashes g.H.Hasher16.fulls c.args.hasher.now) c.args.link.now _ (account g.H.Hasher16.kept g.H.Hasher16.clashes g.H.Hasher16.fulls c.args.hasher.now))
