-- The step of a peer ends well on each event: its tasks of phases, the messages that come to it, its ticks,
-- requests for a view, and calls.
use Rattle.std.proofs.Common.{◌≡◌, inl, ℕ, Bool, true, false, List, [], refl}
use Rattle.peer_refinement.specs.WorldSpec.{Held}
use Rattle.peer_spec.proofs.Inside.{placed}
use Rattle.peer_spec.specs.Drives.{got_ask, in_tree, delivered}
use Rattle.peer_spec.specs.Syncs.{tree_give}
use Rattle.peer_spec.specs.TreeCalls.{has_position}
use Rattle.peer_state.specs.declared.state.State.{State as PeerState}
use Rattle.tree_sync.specs.declared.asking.Give.{Give}
use Rattle.step_plans.specs.Plans.{Out, nothing, Part, Rest}
use Rattle.step_plans.specs.declared.tasks.Task.{Task}
use Rattle.wire_frames.specs.declared.message.Message.{Message}
use Rattle.wire_frames.specs.declared.message.Message.TheVariants as messages
use Rattle.step_refinement.proofs.TaskLoop.{PhasesGood}
use Rattle.step_refinement.proofs.SyncMessages.{ask_good, give_good}
use Rattle.step_refinement.proofs.CallByCall.{Ends, Onward}
use Rattle.step_refinement.specs.Scenes.{Scene, now, AtRest, MessageComes}
use Rattle.step_refinement.proofs.CalledKeys.{run_keys_below, run_ids_below}
use Rattle.step_refinement.proofs.PhaseRules as elections
use Rattle.step_refinement.proofs.Requests.{check_good, got_good, put_in_good}
use Rattle.step_refinement.proofs.WholeSteps.{IsElse, OthersGood, StepGrounds, step_good, call_good}
use Rattle.step_refinement.proofs.LeaderTasks.{phases_wait, PhasesNext, TasksFit}
use Rattle.step_refinement.specs.Steps.{StepEndsWell, CallEndsWell}

module _ (c : Scene) where
  open c use {peer as p}

  phases_good : PhasesGood c
  phases_good = elections.phases_good c

  module _ (x : PeerState) (h : Held) (rest : AtRest c [] x h nothing []) (next mark : Rest PeerState (List Task)) (go : Onward c (TasksFit c) next mark) where
    -- after a rule that names rules of phases
    names_phases : Onward c (PhasesNext c) next mark
    names_phases ts k y g o ns there = go ts k y g o ns (inl ((there.1, phases_wait y.phase ts there.0)))

    -- after a reply
    replies : (y : PeerState) (t : Held) (o : Out) → AtRest c [] y t o [] → Ends c (next [] y o) (mark [] y o) t []
    replies y t o there = go [] [] y t o [] (inl ((there, phases_wait y.phase [] tt)))

    -- a message about a node, which does nothing where the tree does not have the position
    in_tree_ends : (has : Bool) (part : Part PeerState (List Task)) → (has ≡ true → Ends c (part x nothing next) (part x nothing mark) h []) → Ends c (in_tree has part x nothing next) (in_tree has part x nothing mark) h []
    in_tree_ends true part goes = goes refl
    in_tree_ends false part goes = names_phases [] [] x h nothing [] (tt, rest)

    message_good : (from : ℕ) (message : Message) → IsElse message → MessageComes c from message (now c rest.0.reached) → Ends c (delivered p from message x nothing next) (delivered p from message x nothing mark) h []
    message_good from (messages.Check ballot round) is comes = check_good c rest.0 rest.1 next mark replies from ballot round comes
    message_good from (messages.Get ballot round key) is comes = got_good c rest.0 rest.1 next mark replies from ballot round key comes
    message_good from (messages.Put ballot o) is comes = put_in_good c rest.0 rest.1 next mark replies run_keys_below from ballot o comes
    message_good from messages.Probe is comes = elections.received_good c [] x h nothing [] rest next mark names_phases from messages.Probe tt comes.other comes.holds comes.listed
    message_good from (messages.ProbeReply fact) is comes = elections.received_good c [] x h nothing [] rest next mark names_phases from (messages.ProbeReply fact) tt comes.other comes.holds comes.listed
    message_good from (messages.Prepare ballot) is comes = elections.received_good c [] x h nothing [] rest next mark names_phases from (messages.Prepare ballot) tt comes.other comes.holds comes.listed
    message_good from (messages.Promise ballot fact) is comes = elections.received_good c [] x h nothing [] rest next mark names_phases from (messages.Promise ballot fact) tt comes.other comes.holds comes.listed
    message_good from (messages.Nack ballot cause) is comes = elections.received_good c [] x h nothing [] rest next mark names_phases from (messages.Nack ballot cause) tt comes.other comes.holds comes.listed
    message_good from (messages.NewEpoch fact) is comes = elections.received_good c [] x h nothing [] rest next mark names_phases from (messages.NewEpoch fact) tt comes.other comes.holds comes.listed
    message_good from (messages.Accepted ballot seq) is comes = elections.received_good c [] x h nothing [] rest next mark names_phases from (messages.Accepted ballot seq) tt comes.other comes.holds comes.listed
    message_good from (messages.Beat ballot) is comes = elections.received_good c [] x h nothing [] rest next mark names_phases from (messages.Beat ballot) tt comes.other comes.holds comes.listed
    message_good from (messages.Commit fact) is comes = elections.received_good c [] x h nothing [] rest next mark names_phases from (messages.Commit fact) tt comes.other comes.holds comes.listed
    message_good from (messages.TreeAsk ballot at after) is comes = in_tree_ends (has_position x.mode.tree at) (got_ask p from ballot (record { position = at; after = after }))
        (λ has. ask_good c rest next mark names_phases from ballot at after (placed x.mode.tree at has comes.obeys))
    message_good from (messages.TreeGive ballot at after trusted body) is comes =
        let give : Give = record { ballot = ballot; question = record { position = at; after = after }; trusted = trusted; body = body } in
        in_tree_ends (has_position x.mode.tree at) (tree_give p from give) (λ has. give_good c rest next mark names_phases from give (placed x.mode.tree at has comes.obeys.0) comes.fits)
    message_good from (messages.GetReply ballot round key entry object) is comes = absurd is
    message_good from (messages.PutReply ballot key version) is comes = absurd is
    message_good from (messages.CheckReply ballot round) is comes = absurd is
    message_good from (messages.CallFrame id key command) is comes = absurd comes.listed
    message_good from (messages.AnswerFrame id reply) is comes = absurd comes.listed

  others_good : OthersGood c
  others_good = record {
    messages_good = λ from message is x h rest comes next mark go. message_good x h rest next mark go from message is comes;
    ticks_good = λ x h rest follows next mark go. elections.tick_good c [] x h nothing [] rest next mark (names_phases x h rest next mark go) follows;
    changes_good = λ asked votes x h rest next mark go. elections.change_good c [] x h nothing [] rest next mark (names_phases x h rest next mark go) asked votes;
  }

-- all of it is there
step_grounds : StepGrounds
step_grounds = record { keys = run_keys_below; ids = run_ids_below; phases_good = phases_good; others = others_good }

-- each step ends well
pub steps_good : StepEndsWell
steps_good c event x h epochs rest comes = step_good step_grounds c epochs event x h rest comes

-- so does each step on a call
pub calls_good : CallEndsWell
calls_good c call few asked x h epochs rest same may = call_good step_grounds c epochs call few asked x h rest same may
