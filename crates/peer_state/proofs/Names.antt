-- Which rules the rows of the phases name.
use Rattle.std.proofs.Common.{◌≡◌, ◌^◌, ◌-◌, ℕ, Bool, not, ◌&&◌, ◌||◌, ◌==◌, Option, refl}
use Rattle.ens_base.specs.PeerSet.{holds}
use Rattle.phase_rules.specs.Preparing.{row_10, row_13, first_fact, starts}
use Rattle.phase_rules.specs.Starting.{row_14}
use Rattle.phase_rules.specs.declared.election.Election.{Election}
use Rattle.phase_rules.specs.declared.election.Election.TheVariants.{Preparing, Starting}
use Rattle.quorums.specs.Quorums.{is_quorum, is_member}
use Rattle.stored_formats.specs.Facts.{views_after}
use Rattle.stored_formats.specs.declared.fact.Fact.{Fact}
use Rattle.phase_rows.specs.Orders.{may_accept}
use Rattle.phase_rules.specs.Probing.{row_9}
use Rattle.phase_rules.specs.declared.probing.Probing.{Probing}
use Rattle.phase_rules.specs.Finishing.{may_end}
use Rattle.phase_rows.specs.declared.phase.PhaseOut.{PhaseOut}
use Rattle.phase_rows.specs.declared.phase.Then.{Then}
use Rattle.phase_rows.specs.declared.phase.Then.TheVariants as thens
use Rattle.phase_rows.specs.declared.rules.PhaseRule.{PhaseRule}
use Rattle.phase_rows.specs.declared.rules.PhaseRule.TheVariants as phase_rules
use Rattle.peer_state.specs.Rows.{begun_change, ended}
use Rattle.peer_state.specs.declared.state.ChangeState.{ChangeState}
use Rattle.peer_state.specs.declared.state.ChangeState.TheVariants.{Settled, Wanted, Finishing as Finishes}
use Rattle.peer_state.specs.declared.state.Leadership.{Leadership}
use Rattle.leader.proofs.Cases.{either}

-- the row names no rule except this one
abbrev pub NamesOnly : PhaseRule → Then → Type 0
NamesOnly k (thens.Rule n) = n ≡ k
NamesOnly k other = Unit {0}

-- the row names no rule, and begins no sync
abbrev pub NamesNone : Then → Type 0
NamesNone (thens.Rule n) = ⊥
NamesNone (thens.SyncOn fact) = ⊥
NamesNone other = Unit {0}

pub then_14 : (e : Election) (me : ℕ) → NamesNone (row_14 e me).1.then
then_14 (Preparing base promises asked age) me = tt
then_14 (Starting new accepts age) me = either NamesNone (holds accepts me && is_quorum (holds accepts) new.views) (thens.Lead new) thens.Stay tt tt

then_starts : (trusted : Bool) (me : ℕ) (new : Fact) → NamesOnly phase_rules.EnoughAccepted (starts trusted me new).1.then
unfolding starts
then_starts trusted me new = either (λ (r : Election × PhaseOut). NamesOnly phase_rules.EnoughAccepted r.1.then) (may_accept trusted me new) _ _ refl tt

pub then_13 : (e : Election) (fact : Fact) (me : ℕ) (trusted : Bool) → NamesOnly phase_rules.EnoughAccepted (row_13 e fact me trusted).1.then
then_13 (Starting new accepts age) fact me trusted = tt
then_13 (Preparing base promises asked age) fact me trusted =
    either (λ (r : Election × PhaseOut). NamesOnly phase_rules.EnoughAccepted r.1.then) (is_quorum (holds promises) base.views) _ _
    (either (λ (r : Election × PhaseOut). NamesOnly phase_rules.EnoughAccepted r.1.then) (is_member (views_after base) me) _ _ (then_starts trusted me (first_fact fact me (views_after base))) tt) tt

pub then_10 : (fact : Fact) (me : ℕ) (best : Fact) (count : ℕ) → NamesOnly phase_rules.EnoughPromised (row_10 fact me best count).0.then
then_10 fact me best count = either (λ (r : PhaseOut × Option Election). NamesOnly phase_rules.EnoughPromised r.0.then) (not (is_member (views_after best) me) || count == 2 ^ 64 - 1) _ _ tt refl

pub then_ended : (change : ChangeState) (fact : Fact) (me : ℕ) (unanswered : Bool) → NamesOnly phase_rules.Prepare (ended change fact me unanswered).then
then_ended Settled fact me unanswered = tt
then_ended (Wanted change) fact me unanswered = tt
then_ended (Finishes f) fact me unanswered = either (NamesOnly phase_rules.Prepare) (may_end f fact unanswered) _ _ (either (NamesOnly phase_rules.Prepare) (is_member (views_after fact) me) _ _ refl tt) tt

pub then_changed : (change : ChangeState) (l : Leadership) (fact : Fact) (me : ℕ) → NamesNone (begun_change change l fact me).1.then
then_changed Settled l fact me = tt
then_changed (Wanted change) l fact me = tt
then_changed (Finishes f) l fact me = tt

pub then_9 : (p : Probing) → NamesOnly phase_rules.Prepare (row_9 p).1.then
then_9 p = either (NamesOnly phase_rules.Prepare) (is_quorum (holds p.heard) p.best.views) _ _ refl tt
