use Rattle.std.proofs.Common.{sym, subst, refl, ℕ, List, [], Option, Ok, Err, inr}
use Rattle.synctree.specs.Forms.{root}
use Rattle.synctree.specs.Sixteen.{form_of}
use Rattle.synctree.specs.declared.error.TreeError.TheVariants.{Damaged}
use Rattle.synctree.specs.Halves.{HasherDid}
use Rattle.synctree.specs.Records.{KeptUnlessFailed}
use Rattle.synctree.specs.Walks.{from_top}
use Rattle.synctree.specs.Trees.{publish_plan}
use Rattle.synctree.proofs.Exits.{DidOutside, passed_on, hash_ok}
use Rattle.synctree.proofs.Records.{told_still}
use Rattle.synctree.proofs.entering.enter_from_top.Goals as goal

pub returns-in-Some-clause-did : goal.returns-in-Some-clause-did
returns-in-Some-clause-did g c = hash_ok g.N.NodeStore.may_answer g.N.NodeStore.may_refuse g.N.NodeStore.top_record g.N.NodeStore.fault_count g.H.Hasher16.kept g.H.Hasher16.clashes g.H.Hasher16.fulls c.args.entry.now.key (λ _. from_top c.args.top (λ digest. publish_plan (form_of c.args.version) digest c.args.entry.now)) c.args.nodes.now c.args.hasher.now c.hash.new.hasher c.in_ok-path.path c.publish.result (c.publish.new.nodes, c.publish.new.hasher) (subst (λ (b : List ℕ). HasherDid {A = List ℕ} g.H.Hasher16.kept g.H.Hasher16.clashes g.H.Hasher16.fulls b c.args.hasher.now (Ok c.in_ok-path.path) c.hash.new.hasher) c.bytes.ensures.bytes (c.in_ok-path.ensures).did)
    (subst (λ (o : Option (List ℕ)). DidOutside g.N.NodeStore.may_answer g.N.NodeStore.may_refuse g.N.NodeStore.top_record g.N.NodeStore.fault_count g.H.Hasher16.kept g.H.Hasher16.clashes g.H.Hasher16.fulls (from_top o (λ digest. publish_plan (form_of c.args.version) digest c.args.entry.now)) (c.args.nodes.now, c.hash.new.hasher) c.publish.result (c.publish.new.nodes, c.publish.new.hasher)) (sym c.in-Some.is) c.publish.ensures.did)

pub returns-in-None-clause-did : goal.returns-in-None-clause-did
returns-in-None-clause-did g c = hash_ok g.N.NodeStore.may_answer g.N.NodeStore.may_refuse g.N.NodeStore.top_record g.N.NodeStore.fault_count g.H.Hasher16.kept g.H.Hasher16.clashes g.H.Hasher16.fulls c.args.entry.now.key (λ _. from_top c.args.top (λ digest. publish_plan (form_of c.args.version) digest c.args.entry.now)) c.args.nodes.now c.args.hasher.now c.hash.new.hasher c.in_ok-path.path (Err (Damaged root)) (c.args.nodes.now, c.hash.new.hasher) (subst (λ (b : List ℕ). HasherDid {A = List ℕ} g.H.Hasher16.kept g.H.Hasher16.clashes g.H.Hasher16.fulls b c.args.hasher.now (Ok c.in_ok-path.path) c.hash.new.hasher) c.bytes.ensures.bytes (c.in_ok-path.ensures).did)
    (subst (λ (o : Option (List ℕ)). DidOutside g.N.NodeStore.may_answer g.N.NodeStore.may_refuse g.N.NodeStore.top_record g.N.NodeStore.fault_count g.H.Hasher16.kept g.H.Hasher16.clashes g.H.Hasher16.fulls (from_top o (λ digest. publish_plan (form_of c.args.version) digest c.args.entry.now)) (c.args.nodes.now, c.hash.new.hasher) (Err (Damaged root)) (c.args.nodes.now, c.hash.new.hasher)) (sym c.in-None.is)
    ([], (refl, refl, refl)))

pub returns-in-None-clause-kept : goal.returns-in-None-clause-kept
returns-in-None-clause-kept g c = inr (told_still (g.N.NodeStore.top_record c.args.nodes.now))

pub returns-in_err-path-clause-kept : goal.returns-in_err-path-clause-kept
returns-in_err-path-clause-kept g c = passed_on c.from_residual.result c.in_err-path.field-0.0 _ (KeptUnlessFailed (g.N.NodeStore.top_record c.args.nodes.now) (g.N.NodeStore.top_record c.args.nodes.now))
    c.from_residual.ensures.0 c.from_residual.ensures.1 (λ d h. h) (inr (told_still (g.N.NodeStore.top_record c.args.nodes.now)))
