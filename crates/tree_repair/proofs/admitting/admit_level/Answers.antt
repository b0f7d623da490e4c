use Rattle.std.proofs.Common.{◌+◌, drop, subst, List, Option, ℕ}
use Rattle.synctree.specs.Plans.{Did}
use Rattle.synctree.proofs.Exits.{passed_on}
use Rattle.tree_repair.specs.Hashers.{hasher_does, hasher_refuses}
use Rattle.tree_repair.specs.Levels.{hash_all}
use Rattle.tree_repair.proofs.Loops.{HashesOn, hashes_next, hashes_err, hashes_end}
use Rattle.tree_repair.proofs.admitting.admit_level.Goals as goal
use Rattle.synctree.proofs.Slices.{drop_at, drop_all}

pub returns-in_err-admit_read : goal.returns-in_err-admit_read
returns-in_err-admit_read g c = passed_on c.from_residual.result c.in_err-admit_read.field-0.0 _ (λ r. Did (hasher_does g.H.Hasher16.kept g.H.Hasher16.clashes g.H.Hasher16.fulls) (hasher_refuses g.H.Hasher16.kept g.H.Hasher16.clashes g.H.Hasher16.fulls) (hash_all c.args.reads.now) c.args.hasher.now r c.admit_read.new.hasher) c.from_residual.ensures.0 c.from_residual.ensures.1 (λ d h. h)
    (hashes_err (hasher_does g.H.Hasher16.kept g.H.Hasher16.clashes g.H.Hasher16.fulls) (hasher_refuses g.H.Hasher16.kept g.H.Hasher16.clashes g.H.Hasher16.fulls) c.args.reads.now (drop (c.loop-i.i + 1) c.args.reads.now) c.index-reads-i.result c.args.hasher.now c.loop-i.hasher c.admit_read.new.hasher c.in_err-admit_read.field-0.0
    (subst (λ (rs : List (Option (List ℕ))). HashesOn (hasher_does g.H.Hasher16.kept g.H.Hasher16.clashes g.H.Hasher16.fulls) (hasher_refuses g.H.Hasher16.kept g.H.Hasher16.clashes g.H.Hasher16.fulls) c.args.reads.now rs c.args.hasher.now c.loop-i.hasher) (drop_at c.args.reads.now c.loop-i.i c.index-reads-i.result c.index-reads-i.result c.loop-i-test.true c.index-reads-i.is) c.loop-i.invariant) c.in_err-admit_read.ensures)

pub loop-i-preserved : goal.loop-i-preserved
loop-i-preserved g c = hashes_next (hasher_does g.H.Hasher16.kept g.H.Hasher16.clashes g.H.Hasher16.fulls) (hasher_refuses g.H.Hasher16.kept g.H.Hasher16.clashes g.H.Hasher16.fulls) c.args.reads.now (drop (c.loop-i.i + 1) c.args.reads.now) c.index-reads-i.result c.args.hasher.now c.loop-i.hasher c.admit_read.new.hasher
    (subst (λ (rs : List (Option (List ℕ))). HashesOn (hasher_does g.H.Hasher16.kept g.H.Hasher16.clashes g.H.Hasher16.fulls) (hasher_refuses g.H.Hasher16.kept g.H.Hasher16.clashes g.H.Hasher16.fulls) c.args.reads.now rs c.args.hasher.now c.loop-i.hasher) (drop_at c.args.reads.now c.loop-i.i c.index-reads-i.result c.index-reads-i.result c.loop-i-test.true c.index-reads-i.is) c.loop-i.invariant) c.in_ok-admit_read.ensures

pub returns : goal.returns
returns g c = hashes_end (hasher_does g.H.Hasher16.kept g.H.Hasher16.clashes g.H.Hasher16.fulls) (hasher_refuses g.H.Hasher16.kept g.H.Hasher16.clashes g.H.Hasher16.fulls) c.args.reads.now c.args.hasher.now c.loop-i.hasher
    (subst (λ (rs : List (Option (List ℕ))). HashesOn (hasher_does g.H.Hasher16.kept g.H.Hasher16.clashes g.H.Hasher16.fulls) (hasher_refuses g.H.Hasher16.kept g.H.Hasher16.clashes g.H.Hasher16.fulls) c.args.reads.now rs c.args.hasher.now c.loop-i.hasher) (drop_all c.args.reads.now c.loop-i.i c.loop-i-test.false) c.loop-i.invariant)
