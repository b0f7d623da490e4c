use Rattle.fact_store.proofs.delayed_fact.DelayedFactFactKeeper.load.Goals as goal

pub returns-clause-loads : goal.returns-clause-loads
returns-clause-loads c = c.loaded.ensures.loads 0 0
