-- The rules by which a peer asks for the promise of a ballot: 3, 10, 12 and 13.
use Rattle.std.specs.Prelude.{◌<◌, ℕ, ◌+◌, ◌-◌, ◌^◌, Bool, not, ◌||◌, ◌==◌, if◌then◌else◌, List, Option, Some, None}
use Rattle.ens_base.specs.declared.epoch.Epoch.{Epoch}
use Rattle.ens_base.specs.PeerSet.{holds}
use Rattle.quorums.specs.Quorums.{is_quorum, is_member}
use Rattle.stored_formats.specs.declared.fact.Fact.{Fact}
use Rattle.stored_formats.specs.declared.fact.Change.TheVariants as changes
use Rattle.stored_formats.specs.Facts.{views_after}
use Rattle.phase_rows.specs.WireFrames.{Prepare, NewEpoch}
use Rattle.phase_rows.specs.declared.phase.PhaseOut.{PhaseOut}
use Rattle.phase_rows.specs.declared.phase.Then.TheVariants.{Stay, Follow, SyncOn, Rule}
use Rattle.phase_rows.specs.Peers.{nobody, alone, joined, members, others_of, others_outside, with_members}
use Rattle.phase_rows.specs.Orders.{is_same, is_newer, may_accept}
use Rattle.phase_rows.specs.Rows.{silent, sends, saves_and_sends, at_ballot, anew_at_6}
use Rattle.phase_rows.specs.declared.rules.PhaseRule.TheVariants as phase_rules
use Rattle.phase_rules.specs.declared.election.Election.{Election}
use Rattle.phase_rules.specs.declared.election.Election.TheVariants.{Preparing, Starting}

-- the state is unchanged, and nothing is done
abbrev pub ignored : Election → Election × PhaseOut
ignored election = (election, silent Stay)

-- a peer that prepares has an age below 6
abbrev pub PreparesBelow6 : Election → Type 0
PreparesBelow6 (Preparing base promises asked age) = age < 6
PreparesBelow6 (Starting new accepts age) = Unit {0}

-- rule 3: on a tick the age of a peer that prepares rises by 1, and at 6 rule 7 runs
abbrev pub row_3 : Election → Election × PhaseOut
row_3 (Preparing base promises asked age) = (Preparing base promises asked (age + 1), silent (anew_at_6 (age + 1)))
row_3 (Starting new accepts age) = ignored (Starting new accepts age)

-- the ballot to ask for after this count
abbrev pub next_ballot : ℕ → ℕ → Epoch
next_ballot count me = record { count = count + 1; proposer = me }

-- the ballot is saved and promised by `me`, and the other members of the base's views are asked to
-- promise it
abbrev pub prepares : Fact → ℕ → Fact → Epoch → PhaseOut × Option Election
prepares fact me base ballot = (
  saves_and_sends (at_ballot fact ballot) (others_of me (members base.views)) (Prepare ballot) (Rule phase_rules.EnoughPromised),
  Some (Preparing base (alone me) (members base.views) 0),
)

-- rule 10: a peer that is in none of the views that follow the best fact, or whose count is the
-- greatest u64, follows; any other prepares the next ballot, and then runs rule 13
abbrev pub row_10 : Fact → ℕ → Fact → ℕ → PhaseOut × Option Election
row_10 fact me best count =
    if not (is_member (views_after best) me) || count == 2 ^ 64 - 1
    then (silent Follow, None)
    else prepares fact me best (next_ballot count me)

-- a promise counts; if its fact is newer than the base, it becomes the base, and Prepare goes to
-- the members of its views not asked before; then rule 13
abbrev pub promised_by : Fact → List Bool → List Bool → ℕ → ℕ → ℕ → Epoch → Fact → Election × PhaseOut
promised_by base promises asked age me from ballot promised =
    if is_newer promised base
    then (Preparing promised (joined from promises) (with_members asked promised.views) age, sends (others_outside me asked promised.views) (Prepare ballot) (Rule phase_rules.EnoughPromised))
    else (Preparing base (joined from promises) asked age, silent (Rule phase_rules.EnoughPromised))

-- rule 12: a peer that prepares counts a promise of its ballot; any other promise is ignored
abbrev pub row_12 : Election → Fact → ℕ → ℕ → Epoch → Fact → Election × PhaseOut
row_12 (Preparing base promises asked age) fact me from ballot promised =
    if is_same ballot fact.ballot
    then promised_by base promises asked age me from ballot promised
    else ignored (Preparing base promises asked age)
row_12 (Starting new accepts age) fact me from ballot promised = ignored (Starting new accepts age)

-- the first fact of the epoch that begins at the saved ballot, on these views and led by `me`
abbrev pub first_fact : Fact → ℕ → List (List ℕ) → Fact
first_fact fact me views = record { ballot = fact.ballot; epoch = fact.ballot; seq = 1; leader = me; views = views; change = changes.None }

-- the epoch of the new fact begins: NewEpoch goes to the other members of its views; if `me` may
-- accept the fact, it is saved, `me` counts as the first to accept, and rule 14 runs; otherwise a
-- sync on it begins
unfoldable pub starts : Bool → ℕ → Fact → Election × PhaseOut
starts trusted me new =
    if may_accept trusted me new
    then (Starting new (alone me) 0, saves_and_sends new (others_of me (members new.views)) (NewEpoch new) (Rule phase_rules.EnoughAccepted))
    else (Starting new nobody 0, sends (others_of me (members new.views)) (NewEpoch new) (SyncOn new))

-- the epoch begins on these views, or the peer follows if it is in none of them
abbrev pub elected : Election → Fact → ℕ → Bool → List (List ℕ) → Election × PhaseOut
elected election fact me trusted views =
    if is_member views me then starts trusted me (first_fact fact me views) else (election, silent Follow)

-- rule 13: once a quorum of the base's views promised, the epoch begins on the views that follow
-- the base
abbrev pub row_13 : Election → Fact → ℕ → Bool → Election × PhaseOut
row_13 (Preparing base promises asked age) fact me trusted =
    if is_quorum (holds promises) base.views
    then elected (Preparing base promises asked age) fact me trusted (views_after base)
    else ignored (Preparing base promises asked age)
row_13 (Starting new accepts age) fact me trusted = ignored (Starting new accepts age)
