-- The asks of a sync, one for each source.
use Rattle.std.specs.Prelude.{ℕ, zero, suc, ◌+◌, Bool, true, false, not, ◌==◌, ◌&&◌, if◌then◌else◌, List, [], ◌∷◌, ◌++◌, Option, None, Some}
use Rattle.ens_base.specs.Lists.{is_in}
use Rattle.std.specs.List.{flat_map}
use Rattle.ens_base.specs.declared.epoch.Epoch.{Epoch}
use Rattle.tree_node.specs.declared.version.TreeVersion.{TreeVersion}
use Rattle.tree_node.specs.declared.body.Scan.{Scan}
use Rattle.leader_output.specs.WireFrames.{TreeAsk}
use Rattle.leader_output.specs.declared.out.Outgoing.{Outgoing}
use Rattle.tree_exchange.specs.Asked.{Asked}
use Rattle.tree_exchange.specs.Asks.{started, taken, needs_own}
use Rattle.tree_exchange.specs.declared.question.Question.{Question}
use Rattle.tree_exchange.specs.declared.step.Step.{Step}
use Rattle.tree_exchange.specs.declared.step.Step.TheVariants as steps
use Rattle.tree_sync.specs.declared.asking.Asking.{Asking}
use Rattle.tree_sync.specs.declared.asking.Give.{Give}
use Rattle.tree_sync.specs.declared.asking.Stage.{Stage}
use Rattle.tree_sync.specs.declared.asking.Stage.TheVariants.{Open, Finished, Dropped}

-- a new ask of the peer, at this stage; no answer is without the flag yet
abbrev pub anew : Stage → ℕ → Asking
anew stage peer = record { peer = peer; ask = started; trusted = true; stage = stage }

-- whether a question is open
abbrev pub is_open : Stage → Bool
is_open Open = true
is_open Finished = false
is_open Dropped = false

-- whether nothing is left to ask
abbrev pub is_finished : Stage → Bool
is_finished Open = false
is_finished Finished = true
is_finished Dropped = false

-- whether the peer is a member of the view other than `me`
abbrev pub is_other : ℕ → List ℕ → ℕ → Bool
is_other me view peer = is_in view peer && not (peer == me)

-- a new ask of each peer up to this number that passes the test, ascending
unfoldable pub asks_up_to : (ℕ → Bool) → ℕ → List Asking
asks_up_to test zero = []
asks_up_to test (suc n) = asks_up_to test n ++ (if test (n + 1) then anew Open (n + 1) ∷ [] else [])

-- a new ask of each member of the view but `me`, ascending
abbrev pub asks_of : ℕ → List ℕ → List Asking
asks_of me view = asks_up_to (is_other me view) 31

-- the ask after this step. An answer without the flag makes it untrusted for good; a source that
-- reports damage is dropped, with what it sent, and is asked anew when the sync resumes.
abbrev pub after_step : Step → Bool → Asking → Asking
after_step steps.Next flag a = record a { trusted = a.trusted && flag }
after_step steps.Done flag a = record a { trusted = a.trusted && flag; stage = Finished }
after_step steps.Dropped flag a = anew Dropped a.peer
after_step steps.Ignored flag a = a

-- the step and the ask that an answer leads to
abbrev pub stepped : Bool → Step × Asked → Asking → Step × Asking
stepped flag next a = (next.0, after_step next.0 flag (record a { ask = next.1 }))

-- what a source's answer leads to in a tree of this version, from the bytes of the own node at the
-- position; only an ask with an open question takes an answer
abbrev pub answered : TreeVersion → Scan → Option (List ℕ) → Give → Asking → Step × Asking
answered tree scan own give a =
    if is_open a.stage then stepped give.trusted (taken tree scan own give.question give.body a.ask) a
    else (steps.Ignored, a)

-- the ask as the sync resumes: a dropped source is asked anew
abbrev pub resumed : Asking → Asking
resumed a = if is_finished a.stage then a else record a { stage = Open }

-- the message that asks a peer this question at a ballot, if there is one
abbrev pub ask_message : Epoch → ℕ → Option Question → List Outgoing
ask_message ballot peer None = []
ask_message ballot peer (Some q) = record { to = peer; message = TreeAsk ballot q.position q.after } ∷ []

-- the open question of an ask that is not finished
abbrev pub question_of : Epoch → Asking → List Outgoing
question_of ballot a = if is_finished a.stage then [] else ask_message ballot a.peer a.ask.current

-- the open questions of all asks that are not finished, in their order
abbrev pub questions : Epoch → List Asking → List Outgoing
questions ballot all = flat_map (question_of ballot) all

-- the place of the peer's ask, or the number of asks if it has none
abbrev pub place_of : ℕ → List Asking → ℕ
place_of peer [] = 0
place_of peer (a ∷ all) = if a.peer == peer then 0 else place_of peer all + 1

-- whether the own node at the position is needed to take the answer
abbrev pub needs_node : TreeVersion → Give → Option Asking → Bool
needs_node tree give None = false
needs_node tree give (Some a) = is_open a.stage && needs_own tree give.question give.body a.ask
