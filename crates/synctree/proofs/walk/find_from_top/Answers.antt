use Rattle.std.proofs.Common.{◌∙◌, sym, subst, refl, ℕ, List, [], Option, Ok, Err}
use Rattle.synctree.specs.Forms.{root, IsPlace}
use Rattle.synctree.specs.Sixteen.{form_of}
use Rattle.synctree.proofs.Unique.{root_place}
use Rattle.synctree.specs.declared.error.TreeError.TheVariants.{Damaged}
use Rattle.synctree.specs.Halves.{HasherDid}
use Rattle.synctree.specs.Walks.{find, from_top}
use Rattle.synctree.proofs.Exits.{DidOutside, hash_ok}
use Rattle.synctree.proofs.Places.{depth_is}
use Rattle.synctree.proofs.walk.find_from_top.Goals as goal

pub find-requires-clause-place : goal.find-requires-clause-place
find-requires-clause-place g c = subst (λ (n : ℕ). IsPlace (form_of c.args.version) n root) (depth_is c.args.version ∙ sym c.levels-height.ensures) (root_place (form_of c.args.version))

pub returns-in-Some : goal.returns-in-Some
returns-in-Some g c = hash_ok g.N.NodeStore.may_answer g.N.NodeStore.may_refuse g.N.NodeStore.top_record g.N.NodeStore.fault_count g.H.Hasher16.kept g.H.Hasher16.clashes g.H.Hasher16.fulls c.args.key.now (λ _. from_top c.args.top (λ digest. find (form_of c.args.version) (form_of c.args.version).depth root digest c.args.key.now)) c.args.nodes.now c.args.hasher.now c.hash.new.hasher c.in_ok-path.path c.find.result (c.find.new.nodes, c.find.new.hasher)
    (subst (λ (b : List ℕ). HasherDid {A = List ℕ} g.H.Hasher16.kept g.H.Hasher16.clashes g.H.Hasher16.fulls b c.args.hasher.now (Ok c.in_ok-path.path) c.hash.new.hasher) c.bytes.ensures.bytes (c.in_ok-path.ensures).did)
    (subst (λ (o : Option (List ℕ)). DidOutside g.N.NodeStore.may_answer g.N.NodeStore.may_refuse g.N.NodeStore.top_record g.N.NodeStore.fault_count g.H.Hasher16.kept g.H.Hasher16.clashes g.H.Hasher16.fulls (from_top o (λ digest. find (form_of c.args.version) (form_of c.args.version).depth root digest c.args.key.now)) (c.args.nodes.now, c.hash.new.hasher) c.find.result (c.find.new.nodes, c.find.new.hasher)) (sym c.in-Some.is)
    (subst (λ (n : ℕ). DidOutside g.N.NodeStore.may_answer g.N.NodeStore.may_refuse g.N.NodeStore.top_record g.N.NodeStore.fault_count g.H.Hasher16.kept g.H.Hasher16.clashes g.H.Hasher16.fulls (find (form_of c.args.version) n root c.in-Some.digest c.args.key.now) (c.args.nodes.now, c.hash.new.hasher) c.find.result (c.find.new.nodes, c.find.new.hasher)) (c.levels-height.ensures ∙ sym (depth_is c.args.version)) c.find.ensures))

pub returns-in-None : goal.returns-in-None
returns-in-None g c = hash_ok g.N.NodeStore.may_answer g.N.NodeStore.may_refuse g.N.NodeStore.top_record g.N.NodeStore.fault_count g.H.Hasher16.kept g.H.Hasher16.clashes g.H.Hasher16.fulls c.args.key.now (λ _. from_top c.args.top (λ digest. find (form_of c.args.version) (form_of c.args.version).depth root digest c.args.key.now)) c.args.nodes.now c.args.hasher.now c.hash.new.hasher c.in_ok-path.path (Err (Damaged root)) (c.args.nodes.now, c.hash.new.hasher)
    (subst (λ (b : List ℕ). HasherDid {A = List ℕ} g.H.Hasher16.kept g.H.Hasher16.clashes g.H.Hasher16.fulls b c.args.hasher.now (Ok c.in_ok-path.path) c.hash.new.hasher) c.bytes.ensures.bytes (c.in_ok-path.ensures).did)
    (subst (λ (o : Option (List ℕ)). DidOutside g.N.NodeStore.may_answer g.N.NodeStore.may_refuse g.N.NodeStore.top_record g.N.NodeStore.fault_count g.H.Hasher16.kept g.H.Hasher16.clashes g.H.Hasher16.fulls (from_top o (λ digest. find (form_of c.args.version) (form_of c.args.version).depth root digest c.args.key.now)) (c.args.nodes.now, c.hash.new.hasher) (Err (Damaged root)) (c.args.nodes.now, c.hash.new.hasher)) (sym c.in-None.is)
    ([], (refl, refl, refl)))
