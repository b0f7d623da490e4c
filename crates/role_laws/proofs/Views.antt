-- Full views of peers that were never reverted.
use Rattle.std.proofs.Common.{◌≡◌, ℕ, true, not, List, ap}
use Rattle.std.proofs.lemmas.Bool.{and_parts}
use Rattle.ens_base.specs.Views.{last_view}
use Rattle.quorums.proofs.Majorities.{quorum_of_all}
use Rattle.quorums.specs.Quorums.{is_majority}
use Rattle.protocol_laws.specs.Protocol.{State, Step, IsRun, state_after}
use Rattle.protocol_laws.proofs.Sources.{synced_by_solid}
use Rattle.protocol_laws.specs.Versions.{is_solid}
use Rattle.role_laws.specs.SealLaws.{FullViewsSuffice}

pub suffice : (view : List ℕ) (steps : List Step) → IsRun view steps → FullViewsSuffice (state_after view steps)
suffice view steps run kept d merged some serve = synced_by_solid s.objects d merged most (λ q at solid. serve q at)
  where
    s : State
    s = state_after view steps

    most : is_majority (is_solid s.objects) (last_view (s.objects.ledger.views d)) ≡ true
    most = (and_parts (is_majority (is_solid s.objects) (last_view (s.objects.ledger.views d))) true (quorum_of_all (is_solid s.objects) (λ q. ap not (kept q)) (last_view (s.objects.ledger.views d)) some)).0
