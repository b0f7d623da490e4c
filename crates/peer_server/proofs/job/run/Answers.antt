use Rattle.std.proofs.Common.{◌∙◌, ap, inl}
use Rattle.peer_server.proofs.Ending.{interrupted, served}
use Rattle.peer_server.proofs.Finishing.{if_err_both, if_ok}
use Rattle.peer_server.specs.DiskPeers.{disks_under}
use Rattle.peer_server.proofs.job.run.Goals as goal

pub returns-clause-served : goal.returns-clause-served
returns-clause-served g c =
    if_ok c.turns-ended.result c.turns-ended.ensures.made
    (λ counts did. (
      did.0,
      served _ _ _ _ _ g.met.D.Disk.counts_now _ _ _ _ _ _ _ c.in-Ok.server c.turns-ended.new.server c.args.link.now c.turns-ended.new.link c.args.ticker.now c.turns-ended.new.ticker did.0 (c.close.ensures ∙ ap (λ s. disks_under s c.turns-ended.new.server.facts) c.into_stores-stores.ensures) did.1 c.in-Ok.ensures.unsent c.in-Ok.ensures.began did.2,
      did.3,
    ))

pub returns-clause-failed : goal.returns-clause-failed
returns-clause-failed g c =
    if_err_both c.turns-ended.result c.turns-ended.ensures.broke c.turns-ended.ensures.fault
    (λ e broke fault.
    inl (
      broke.0,
      broke.1,
      interrupted _ _ _ _ _ g.met.D.Disk.counts_now _ _ _ _ _ _ _ e c.in-Ok.server c.turns-ended.new.server c.args.link.now c.turns-ended.new.link c.args.ticker.now c.turns-ended.new.ticker broke.0 broke.1 (c.close.ensures ∙ ap (λ s. disks_under s c.turns-ended.new.server.facts) c.into_stores-stores.ensures) broke.2
          c.in-Ok.ensures.unsent c.in-Ok.ensures.began broke.3 fault,
    ))
