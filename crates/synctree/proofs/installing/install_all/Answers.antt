use Rattle.std.proofs.Common.{Ok, Err, inr}
use Rattle.synctree.specs.Installs.{install_plan, write_all}
use Rattle.synctree.specs.Records.{KeptUnlessFailed}
use Rattle.synctree.proofs.Exits.{passed_on}
use Rattle.synctree.proofs.Records.{store_spared, unset_after, write_all_none}
use Rattle.synctree.proofs.Writing.{DidStore, install_first, install_last, install_ok}
use Rattle.synctree.proofs.installing.install_all.Goals as goal

pub returns-in_err-write_all-clause-did : goal.returns-in_err-write_all-clause-did
returns-in_err-write_all-clause-did g c = passed_on c.from_residual.result c.in_err-write_all.field-0.0 _
    (λ r. DidStore g.N.NodeStore.may_answer g.N.NodeStore.may_refuse g.N.NodeStore.top_record g.N.NodeStore.fault_count (install_plan c.args.nodes.now c.args.top.now) c.args.store.now r c.write_all.new.store)
    c.from_residual.ensures.0 c.from_residual.ensures.1 (λ d h. h)
    (install_first g.N.NodeStore.may_answer g.N.NodeStore.may_refuse g.N.NodeStore.top_record g.N.NodeStore.fault_count c.args.nodes.now c.args.top.now c.args.store.now c.write_all.new.store c.in_err-write_all.field-0.0 c.in_err-write_all.ensures)

pub returns-in_err-set_top-clause-did : goal.returns-in_err-set_top-clause-did
returns-in_err-set_top-clause-did g c = passed_on c.from_residual-in_err-set_top.result c.in_err-set_top.field-0.0 _
    (λ r. DidStore g.N.NodeStore.may_answer g.N.NodeStore.may_refuse g.N.NodeStore.top_record g.N.NodeStore.fault_count (install_plan c.args.nodes.now c.args.top.now) c.args.store.now r c.set_top.new.nodes)
    c.from_residual-in_err-set_top.ensures.0 c.from_residual-in_err-set_top.ensures.1 (λ d h. h)
    (install_last g.N.NodeStore.may_answer g.N.NodeStore.may_refuse g.N.NodeStore.top_record g.N.NodeStore.fault_count c.args.nodes.now c.args.top.now c.args.store.now c.write_all.new.store c.set_top.new.nodes c.in_err-set_top.field-0.0 c.in_ok-write_all.ensures c.in_err-set_top.ensures)

pub returns-clause-did : goal.returns-clause-did
returns-clause-did g c = install_ok g.N.NodeStore.may_answer g.N.NodeStore.may_refuse g.N.NodeStore.top_record g.N.NodeStore.fault_count c.args.nodes.now c.args.top.now c.args.store.now c.write_all.new.store c.set_top.new.nodes c.in_ok-write_all.ensures c.in_ok-set_top.ensures

pub returns-in_err-write_all-clause-kept : goal.returns-in_err-write_all-clause-kept
returns-in_err-write_all-clause-kept g c = passed_on c.from_residual.result c.in_err-write_all.field-0.0 _ (KeptUnlessFailed (g.N.NodeStore.top_record c.args.store.now) (g.N.NodeStore.top_record c.write_all.new.store))
    c.from_residual.ensures.0 c.from_residual.ensures.1 (λ d h. h)
    (inr (store_spared g.N.NodeStore.may_answer g.N.NodeStore.may_refuse g.N.NodeStore.top_record g.N.NodeStore.fault_count (write_all c.args.nodes.now) c.args.store.now c.write_all.new.store (Err c.in_err-write_all.field-0.0) (write_all_none c.args.nodes.now) c.in_err-write_all.ensures))

pub returns-in_err-set_top-clause-kept : goal.returns-in_err-set_top-clause-kept
returns-in_err-set_top-clause-kept g c = passed_on c.from_residual-in_err-set_top.result c.in_err-set_top.field-0.0 _ (KeptUnlessFailed (g.N.NodeStore.top_record c.args.store.now) (g.N.NodeStore.top_record c.set_top.new.nodes))
    c.from_residual-in_err-set_top.ensures.0 c.from_residual-in_err-set_top.ensures.1 (λ d h. h)
    (unset_after g.N.NodeStore.may_answer g.N.NodeStore.may_refuse g.N.NodeStore.top_record g.N.NodeStore.fault_count c.args.top.now c.args.store.now c.write_all.new.store c.set_top.new.nodes c.in_err-set_top.field-0.0
    (store_spared g.N.NodeStore.may_answer g.N.NodeStore.may_refuse g.N.NodeStore.top_record g.N.NodeStore.fault_count (write_all c.args.nodes.now) c.args.store.now c.write_all.new.store (Ok tt) (write_all_none c.args.nodes.now) c.in_ok-write_all.ensures)
    c.in_err-set_top.ensures)
