use Rattle.std.proofs.Common.{Option, refl, subst}
use Rattle.hash_book.specs.Hashing.{Book}
use Rattle.world_model.proofs.WorldSpec.{are_apart}
use Rattle.world_model.specs.WorldSpec.{HasTaken}
use Rattle.replay.specs.Jobs.{hashed_by}
use Rattle.cluster.specs.Ends.{recorded_schedule}
use Rattle.cluster.proofs.Outcomes.{done_ends, memory_ends, run_ends_as, stop_ends, took}
use Rattle.cluster.proofs.job.run_ending.Goals as goal
use Rattle.ens_base.proofs.Tests.{on_err}

pub returns-in_ok-text-in-Ok-clause-ends : goal.returns-in_ok-text-in-Ok-clause-ends
returns-in_ok-text-in-Ok-clause-ends g c =
    let w = c.args.words.now in
    let s = recorded_schedule w c.in-Ok.ensures.1.1 in
    let has = took g.L.Link.sent g.L.Link.given g.L.Link.fault_count w _ c.args.link.now c.args.script c.requires.words c.requires.script c.follow.new.link _ c.in-Ok.recorder c.in-Ok.ensures in
    done_ends g.L.Link.sent g.L.Link.given g.L.Link.fault_count w _ c.args.link.now c.args.script c.requires.words c.requires.script c.follow.new.link _ c.in-Ok.recorder c.in-Ok.ensures _
    (λ told. are_apart (hashed_by s) told.0 (g.H.Hasher16.kept c.follow.new.hasher) (subst (λ (k : Option Book). HasTaken (hashed_by s) k (g.H.Hasher16.kept c.follow.new.hasher)) told.1 has.taken) (g.met.H.Hasher16.clash_free c.follow.new.hasher))
    c.in_ok-text-in-Ok.ensures

pub returns-in_err-text-in-Ok-clause-memory : goal.returns-in_err-text-in-Ok-clause-memory
returns-in_err-text-in-Ok-clause-memory g c =
    on_err c.from_residual.result _ (memory_ends g.L.Link.sent g.L.Link.given g.L.Link.fault_count c.args.words.now _ c.args.link.now c.args.script c.requires.words c.requires.script c.follow.new.link _ c.follow.result _ c.follow.ensures refl)

pub returns-in_ok-stopped-in-Err-clause-ends : goal.returns-in_ok-stopped-in-Err-clause-ends
returns-in_ok-stopped-in-Err-clause-ends g c =
    run_ends_as g.L.Link.sent g.L.Link.given g.L.Link.fault_count c.args.words.now _ c.args.link.now c.args.script c.follow.new.link _ _ _ _ _ c.of.ensures.status c.of.ensures.text
    (stop_ends g.L.Link.sent g.L.Link.given g.L.Link.fault_count c.args.words.now _ c.args.link.now c.args.script c.requires.words c.requires.script c.follow.new.link _ c.in-Err.stop _ _ c.in-Err.ensures c.in_ok-stopped-in-Err.ensures)

pub returns-in_err-stopped-in-Err-clause-memory : goal.returns-in_err-stopped-in-Err-clause-memory
returns-in_err-stopped-in-Err-clause-memory g c =
    on_err c.from_residual-in_err-stopped-in-Err.result _ (memory_ends g.L.Link.sent g.L.Link.given g.L.Link.fault_count c.args.words.now _ c.args.link.now c.args.script c.requires.words c.requires.script c.follow.new.link _ c.follow.result _ c.follow.ensures refl)
