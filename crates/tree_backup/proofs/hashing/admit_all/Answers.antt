use Rattle.std.proofs.Common.{◌+◌, drop, subst, List, Option, ℕ}
use Rattle.synctree.proofs.Slices.{drop_at}
use Rattle.tree_repair.proofs.Admissions.{TriesOn, tries_next, tries_err}
use Rattle.tree_repair.proofs.Climbing.{name_is}
use Rattle.tree_repair.specs.Admitting.{AdmitsAll}
use Rattle.tree_repair.specs.Builds.{somes}
use Rattle.tree_backup.proofs.Strings.{passed_on, tries_end}
use Rattle.tree_backup.proofs.hashing.admit_all.Goals as goal

pub admit-requires : goal.admit-requires
admit-requires g c = name_is c.args.digests.now c.args.texts.now c.loop-i.i c.index-digests-i.result c.index-texts-i.result c.requires c.loop-i-test.true c.index-digests-i.is c.index-texts-i.is

pub returns-in_err-admit : goal.returns-in_err-admit
returns-in_err-admit g c = passed_on c.from_residual.result c.in_err-admit.field-0.0 _ (λ r. AdmitsAll g.H.Hasher16.kept g.H.Hasher16.clashes g.H.Hasher16.fulls (somes c.args.texts.now) c.args.hasher.now r c.admit.new.hasher) c.from_residual.ensures.0 c.from_residual.ensures.1 (λ d h. h)
    (tries_err g.H.Hasher16.kept g.H.Hasher16.clashes g.H.Hasher16.fulls c.args.texts.now (drop (c.loop-i.i + 1) c.args.texts.now) c.index-texts-i.result c.args.hasher.now c.loop-i.hasher c.admit.new.hasher c.in_err-admit.field-0.0 c.in_err-admit.ensures
    (subst (λ (ts : List (Option (List ℕ))). TriesOn g.H.Hasher16.kept g.H.Hasher16.clashes g.H.Hasher16.fulls c.args.texts.now ts c.args.hasher.now c.loop-i.hasher) (drop_at c.args.texts.now c.loop-i.i c.index-texts-i.result c.index-texts-i.result c.loop-i-test.true c.index-texts-i.is) c.loop-i.invariant))

pub loop-i-preserved : goal.loop-i-preserved
loop-i-preserved g c = tries_next g.H.Hasher16.kept g.H.Hasher16.clashes g.H.Hasher16.fulls c.args.texts.now (drop (c.loop-i.i + 1) c.args.texts.now) c.index-texts-i.result c.args.hasher.now c.loop-i.hasher c.admit.new.hasher c.in_ok-admit.ensures
    (subst (λ (ts : List (Option (List ℕ))). TriesOn g.H.Hasher16.kept g.H.Hasher16.clashes g.H.Hasher16.fulls c.args.texts.now ts c.args.hasher.now c.loop-i.hasher) (drop_at c.args.texts.now c.loop-i.i c.index-texts-i.result c.index-texts-i.result c.loop-i-test.true c.index-texts-i.is) c.loop-i.invariant)

pub returns : goal.returns
returns g c = tries_end g.H.Hasher16.kept g.H.Hasher16.clashes g.H.Hasher16.fulls c.args.texts.now c.loop-i.i c.args.hasher.now c.loop-i.hasher c.loop-i-test.false c.loop-i.invariant
