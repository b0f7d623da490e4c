-- A change of the view: whether a leader takes it, and how it begins.
use Rattle.std.specs.Prelude.{ℕ, Bool, true, false, not, ◌&&◌, List, Option, Some, nat_eq, if◌then◌else◌}
use Rattle.ens_base.specs.Views.{first_view}
use Rattle.stored_formats.specs.declared.fact.Change.{Change}
use Rattle.stored_formats.specs.declared.fact.Fact.{Fact}
use Rattle.phase_rows.specs.WireFrames.{Commit}
use Rattle.phase_rows.specs.declared.phase.PhaseOut.{PhaseOut}
use Rattle.phase_rows.specs.declared.phase.Then.TheVariants.{Stay, Rule}
use Rattle.phase_rows.specs.Orders.{is_joint}
use Rattle.phase_rows.specs.Peers.{alone, others_of}
use Rattle.phase_rows.specs.Rows.{silent, saves_and_sends}
use Rattle.phase_rows.specs.declared.rules.PhaseRule.TheVariants as phase_rules
use Rattle.phase_rules.specs.declared.finishing.Finishing.{Finishing}
use lib.Pointwise.{pointwise}

-- whether two views have the same members
abbrev pub same_view : List ℕ → List ℕ → Bool
same_view = pointwise nat_eq

-- a leader may change to the view if it has begun no change, and its epoch has one view, which
-- differs
abbrev pub may_change : Fact → Bool → Bool → List ℕ → Bool
may_change fact leading finishing view =
    leading && not finishing && not (is_joint fact.views) && not (same_view (first_view fact.views) view)

-- rule 24, a request to change to the view: if the leader may change to it, it is taken and rule 25
-- runs; otherwise it is refused, and nothing happens
abbrev pub row_24 : Fact → Bool → Bool → List ℕ → PhaseOut × Bool
row_24 fact leading finishing view =
    if may_change fact leading finishing view then (silent (Rule phase_rules.BeginChange), true) else (silent Stay, false)

-- the second fact of the epoch: the first one with the change
abbrev pub second_fact : Fact → Change → Fact
second_fact fact change = record fact { seq = 2; change = change }

-- save the second fact, and ask these peers to accept it
abbrev pub commits : Fact → List Bool → PhaseOut
commits second peers = saves_and_sends second peers (Commit second) Stay

-- rule 25, a change begins: the second fact is saved, the peer counts as the first to accept it,
-- and the others that accepted the epoch are asked to accept it too
abbrev pub row_25 : Fact → ℕ → List Bool → Change → PhaseOut × Option Finishing
row_25 fact me accepts change =
    (commits (second_fact fact change) (others_of me accepts), Some (record { accepts2 = alone me; age = 0 }))
