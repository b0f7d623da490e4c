-- A sync in a peer: it begins, resumes, takes the answers of its sources, and ends.
use Rattle.std.specs.Prelude.{ℕ, Bool, true, false, ◌&&◌, not, nat_le, ◌==◌, if◌then◌else◌, List, [], ◌∷◌, ◌++◌, Option, Some, None}
use Rattle.peer_state.specs.PhaseRules.{Election, Preparing, Starting}
use Rattle.ens_base.specs.declared.entry.Entry.{Entry}
use Rattle.tree_node.specs.declared.version.TreeVersion.{TreeVersion}
use Rattle.peer_state.specs.TreeExchange.{given, Question}
use Rattle.leader_output.specs.declared.out.Outgoing.{Outgoing}
use Rattle.stored_formats.specs.declared.fact.Fact.{Fact}
use Rattle.phase_rows.specs.Peers.{joined}
use Rattle.peer_state.specs.TreeSync.{row_start, row_resume, row_take, needs_own_node, Running, Give, needs_build, outcome_of, Outcome, Pending, Trusted}
use Rattle.step_plans.specs.Calls.{Root, ScanTree, ReadNode, Install, Save}
use Rattle.step_plans.specs.Plans.{Out, Part, asked}
use Rattle.step_plans.specs.Saved.{with_seal}
use Rattle.step_plans.specs.declared.tasks.Task.{Task}
use Rattle.step_plans.specs.declared.tasks.Task.TheVariants as tasks
use Rattle.step_plans.specs.declared.walked.Walked.{Walked}
use Rattle.step_plans.specs.declared.walked.Walked.TheVariants.{Reached, Broken}
use Rattle.tree_node.specs.declared.body.TreeBody.{TreeBody}
use Rattle.tree_node.specs.declared.body.TreeBody.TheVariants.{Damaged}
use Rattle.tree_node.specs.declared.position.Position.{Position}
use Rattle.wire_frames.specs.declared.message.Message.TheVariants.{Accepted}
use Rattle.phase_rows.specs.declared.phase.Then.{Then}
use Rattle.phase_rows.specs.declared.phase.Then.TheVariants as thens
use Rattle.phase_rows.specs.declared.rules.PhaseRule.TheVariants as phase_rules
use Rattle.step_plans.specs.Tasks.{named}
use Rattle.peer_state.specs.Moves.{electing, keeps_seal, without_sync}
use Rattle.peer_state.specs.declared.state.Phase.{Phase}
use Rattle.peer_state.specs.declared.state.Phase.TheVariants as phases
use Rattle.peer_state.specs.declared.state.State.{State}

-- the fact, if there is one, is saved with the peer's seal, and becomes the saved fact
abbrev pub saved : Option Fact → Part State (Unit {0})
saved None x out next = next tt x out
saved (Some fact) x out next = asked (Save (with_seal x.seal fact)) x out (λ u y o. next tt (record y { fact = fact }) o)

-- the fact is saved with the root of the tree as its seal, and they become those of the peer
abbrev pub sealed : Fact → Part State (Unit {0})
sealed fact x out next = asked Root x out (λ root y o. asked (Save (with_seal root fact)) y o (λ u z p. next tt (record z { fact = fact; seal = root }) p))

-- the fact is saved, with the root of the tree as its seal if that is to be
abbrev pub sealed_if : Bool → Fact → Part State (Unit {0})
sealed_if true fact x out next = sealed fact x out next
sealed_if false fact x out next = saved (Some fact) x out next

-- these messages are added to the output
abbrev pub and_sends : Out → List Outgoing → Out
and_sends out more = record out { sends = out.sends ++ more }

-- this sync runs
abbrev pub with_sync : Running → State → State
with_sync r x = record x { sync = Some r }

-- ## The end of a sync

-- the tree is built from these entries and installed, if that is needed
abbrev pub installed : Bool → List Entry → Part State (Unit {0})
installed true entries x out next = asked (Install entries) x out next
installed false entries x out next = next tt x out

-- the peer that leads the epoch of this fact hears that `me` accepted it, if it is another peer
abbrev pub accepted : ℕ → Fact → List Outgoing
accepted me fact =
    if nat_le 1 fact.leader && nat_le fact.leader 31 && not (fact.leader == me) then record { to = fact.leader; message = Accepted fact.epoch 1 } ∷ []
    else []

-- a peer that is starting an epoch counts itself among those that accepted it, and rule 14 runs
abbrev pub accepted_own : ℕ → Election → Part State (List Task)
accepted_own me (Starting new accepts age) x out next = next (tasks.Phase phase_rules.EnoughAccepted ∷ []) (electing (Starting new (joined me accepts) age) x) out
accepted_own me (Preparing base promises asked age) x out next = next [] x out

-- the fact of a sync was accepted: a starting peer counts itself, and a follower sends its acceptance
abbrev pub accepted_in : ℕ → Fact → Phase → Part State (List Task)
accepted_in me fact (phases.Electing e) x out next = accepted_own me e x out next
accepted_in me fact (phases.Following f) x out next = next [] x (and_sends out (accepted me fact))
accepted_in me fact (phases.Probing p) x out next = next [] x out
accepted_in me fact (phases.Leading l) x out next = next [] x out

-- A sync ends with these merged entries: the tree is built from them if needed, the fact of the sync is
-- saved and accepted, with the top record as its seal if the peer keeps one, and the tree is trusted.
abbrev pub end_sync : ℕ → Running → List Entry → Part State (List Task)
end_sync me r entries x out next =
    installed (needs_build r.sync.scan entries) entries (without_sync x) out
    (λ u y o. sealed_if (keeps_seal y) r.fact y o (λ v z p. accepted_in me r.fact z.phase (record z { trusted = true }) p next))

-- a sync runs on, or ends if its sources suffice
abbrev pub by_outcome : ℕ → Running → Outcome → Part State (List Task)
by_outcome me r Pending x out next = next [] (with_sync r x) out
by_outcome me r (Trusted entries) x out next = end_sync me r entries x out next

-- ## What a sync does

-- a sync sends these messages; it runs on, or ends if its sources suffice
abbrev pub go_on : ℕ → Running × List Outgoing → Part State (List Task)
go_on me r x out next = by_outcome me r.0 (outcome_of r.0.sync) x (and_sends out r.1) next

-- a sync on this fact begins, after a scan of the own tree
abbrev pub start_sync : ℕ → Fact → Part State (List Task)
start_sync me fact x out next = asked ScanTree x out (λ scan y o. go_on me (row_start fact me y.trusted scan) y o next)

-- the sync that runs, if one does, asks again
abbrev pub resume_sync : Option Running → Part State (List Task)
resume_sync None x out next = next [] x out
resume_sync (Some r) x out next = next [] (with_sync (row_resume r).0 x) (and_sends out (row_resume r).1)

-- what follows the message of a row: a sync begins or resumes, or the named rule runs next
abbrev pub followed_on : ℕ → Then → Part State (List Task)
followed_on me (thens.SyncOn fact) x out next = start_sync me fact x out next
followed_on me thens.Resume x out next = resume_sync x.sync x out next
followed_on me (thens.Rule n) x out next = next (named (thens.Rule n)) x out
followed_on me (thens.OnKeys n) x out next = next [] x out
followed_on me thens.Stay x out next = next [] x out
followed_on me thens.Follow x out next = next [] x out
followed_on me (thens.Lead fact) x out next = next [] x out
followed_on me thens.Untrust x out next = next [] x out
followed_on me thens.Put x out next = next [] x out

-- ## Reading nodes

-- the node, if the walk reached its position
abbrev pub reached : Walked (Option (List ℕ)) → Option (List ℕ)
reached (Reached node) = node
reached (Broken at) = None

-- the node at a position, if it is needed; none if its path does not verify
abbrev pub own_node : Bool → Position → Part State (Option (List ℕ))
own_node true at x out next = asked (ReadNode at) x out (λ walked y o. next (reached walked) y o)
own_node false at x out next = next None x out

-- what a peer with a tree of this version sends of a node that it was asked for: damage on its path, or the
-- node
abbrev pub body_of : TreeVersion → Question → Walked (Option (List ℕ)) → TreeBody
body_of tree q (Broken at) = Damaged at
body_of tree q (Reached node) = given tree node q

-- what a peer sends for a question, if it is answered
abbrev pub shown_node : TreeVersion → Bool → Question → Part State (Option TreeBody)
shown_node tree true q x out next = asked (ReadNode q.position) x out (λ walked y o. next (Some (body_of tree q walked)) y o)
shown_node tree false q x out next = next None x out

-- ## The answer of a source

-- whether the own node at the position must be read to take this answer
abbrev pub needs_node : TreeVersion → ℕ → Give → Option Running → Bool
needs_node tree from give None = false
needs_node tree from give (Some r) = needs_own_node tree from give r

-- the sync that runs, if one does, takes an answer, and may end
abbrev pub take_give : TreeVersion → ℕ → ℕ → Give → Option (List ℕ) → Option Running → Part State (List Task)
take_give tree me from give own None x out next = next [] x out
take_give tree me from give own (Some r) x out next = go_on me (row_take tree from give own r) x out next

-- a source sends a part of its tree
abbrev pub tree_give : ℕ → ℕ → Give → Part State (List Task)
tree_give me from give x out next =
    own_node (needs_node x.mode.tree from give x.sync) give.question.position x out (λ own y o. take_give x.mode.tree me from give own y.sync y o next)
