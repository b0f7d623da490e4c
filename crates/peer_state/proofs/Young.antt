-- Ages below their limits, as conditions and as tests.
use Rattle.std.proofs.Common.{◌≡◌, true, refl}
use Rattle.std.proofs.lemmas.Bool.{ltb-true, lt-ltb}
use Rattle.phase_rules.specs.declared.election.Election.{Election}
use Rattle.phase_rules.specs.declared.election.Election.TheVariants.{Preparing, Starting}
use Rattle.peer_state.specs.Ages.{IsYoung, IsYoungElection, IsYoungChange, is_young, is_young_election, is_young_change}
use Rattle.peer_state.specs.declared.state.ChangeState.{ChangeState}
use Rattle.peer_state.specs.declared.state.ChangeState.TheVariants.{Settled, Wanted, Finishing}
use Rattle.peer_state.specs.declared.state.Phase.{Phase}
use Rattle.peer_state.specs.declared.state.Phase.TheVariants as phases

election_young : (e : Election) → is_young_election e ≡ true → IsYoungElection e
election_young (Preparing base promises asked age) test = (ltb-true age 6 test, tt)
election_young (Starting new accepts age) test = (tt, ltb-true age 8 test)

change_young : (change : ChangeState) → is_young_change change ≡ true → IsYoungChange change
change_young Settled test = tt
change_young (Wanted change) test = tt
change_young (Finishing f) test = ltb-true f.age 8 test

pub young : (phase : Phase) → is_young phase ≡ true → IsYoung phase
young (phases.Following f) test = ltb-true f.quiet 6 test
young (phases.Probing p) test = ltb-true p.age 6 test
young (phases.Electing e) test = election_young e test
young (phases.Leading l) test = change_young l.change test

election_test : (e : Election) → IsYoungElection e → is_young_election e ≡ true
election_test (Preparing base promises asked age) young = lt-ltb age 6 young.0
election_test (Starting new accepts age) young = lt-ltb age 8 young.1

change_test : (change : ChangeState) → IsYoungChange change → is_young_change change ≡ true
change_test Settled young = refl
change_test (Wanted change) young = refl
change_test (Finishing f) young = lt-ltb f.age 8 young

pub young_test : (phase : Phase) → IsYoung phase → is_young phase ≡ true
young_test (phases.Following f) young = lt-ltb f.quiet 6 young
young_test (phases.Probing p) young = lt-ltb p.age 6 young
young_test (phases.Electing e) young = election_test e young
young_test (phases.Leading l) young = change_test l.change young
