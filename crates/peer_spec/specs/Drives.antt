-- A step as a loop: each task is run, and the rules that its row names go in front of the tasks
-- that are left.
use Rattle.std.specs.Prelude.{◌≢◌, ℕ, zero, suc, ◌-◌, ◌^◌, Bool, true, false, if◌then◌else◌, List, [], ◌∷◌, ◌++◌, Option, Some, None}
use Rattle.ens_base.specs.View.{IsPeer}
use Rattle.ens_base.specs.declared.entry.Entry.{Entry}
use Rattle.ens_base.specs.declared.epoch.Epoch.{Epoch}
use Rattle.ens_base.specs.declared.reply.Reply.TheVariants.{Unavailable}
use Rattle.stored_formats.specs.declared.object.Object.{Object}
use Rattle.peer_state.specs.PhaseRules.{is_served, tells_damage, row_21, row_22, row_23}
use Rattle.peer_state.specs.TreeExchange.{Question}
use Rattle.leader_output.specs.Outs.{asked_by}
use Rattle.leader_output.specs.declared.out.AnswerOut.{AnswerOut}
use Rattle.leader_output.specs.declared.out.LeadOut.{LeadOut}
use Rattle.leader_output.specs.declared.out.Own.{Own}
use Rattle.leader_output.specs.declared.out.Own.TheVariants as owns
use Rattle.leader.specs.Puts.{row_35_reply}
use Rattle.leader.specs.Rounds.{row_29_reply, row_33_reply}
use Rattle.leader.specs.Rules.{lead_row}
use Rattle.leader.specs.Starts.{row_27}
use Rattle.leader.specs.declared.leader.Leader.{Leader}
use Rattle.step_plans.specs.Plans.{Plan, Done, Out, nothing, Part, noted}
use Rattle.step_plans.specs.Sends.{posted_to}
use Rattle.step_plans.specs.Tasks.{named, keyed}
use Rattle.phase_rows.specs.Orders.{is_same}
use Rattle.step_plans.specs.declared.tasks.Task.{Task}
use Rattle.step_plans.specs.declared.tasks.Task.TheVariants as tasks
use Rattle.wire_frames.specs.Messages.{Obeys}
use Rattle.wire_frames.specs.declared.message.Message.{Message}
use Rattle.wire_frames.specs.declared.message.Message.TheVariants as messages
use Rattle.wire_frames.specs.declared.message.NackCause.TheVariants as causes
use Rattle.phase_rows.specs.declared.phase.PhaseOut.{PhaseOut}
use Rattle.phase_rows.specs.declared.phase.Seen.{Seen}
use Rattle.phase_rows.specs.declared.phase.Seen.TheVariants as seens
use Rattle.phase_rows.specs.declared.phase.Then.{Then}
use Rattle.phase_rows.specs.declared.phase.Then.TheVariants as thens
use Rattle.phase_rows.specs.declared.rules.PhaseRule.TheVariants as phase_rules
use Rattle.peer_state.specs.Leading.{row_5_calls, ticks, wished, begins}
use Rattle.peer_state.specs.Moves.{left, left_answers, and_answers, leading, with_leader, turned, turned_answers}
use Rattle.peer_spec.specs.Owns.{looked, fetched, found, written, confirmed}
use Rattle.peer_spec.specs.TreeCalls.{has_position}
use Rattle.peer_spec.specs.Syncs.{saved, and_sends, followed_on, shown_node, tree_give}
use Rattle.peer_state.specs.Rows.{aged, asked_change, changes, leads, phase_row, received}
use Rattle.peer_state.specs.declared.event.CallIn.{CallIn}
use Rattle.peer_state.specs.declared.event.Event.{Event}
use Rattle.peer_state.specs.declared.event.Event.TheVariants as events
use Rattle.peer_state.specs.declared.state.Phase.{Phase}
use Rattle.peer_state.specs.declared.state.Phase.TheVariants as phases
use Rattle.peer_state.specs.declared.state.State.{State}

-- a row, except for what follows it: a leader steps down if asked, the fact is saved, and the
-- message is sent
abbrev pub performed : PhaseOut → Part State (Unit {0})
performed row x out next =
    saved row.save (left row.leave x) (left_answers row.leave x out) (λ u y o. next tt y (and_sends o (posted_to row.to row.message)))

-- a whole row, with the sync that it begins or resumes; it returns the rule that runs next
abbrev pub row_done : ℕ → PhaseOut → Part State (List Task)
row_done me row x out next = performed row x out (λ u y o. followed_on me row.then (turned me row.then y) (turned_answers row.then y o) next)

-- what a rule of a leader asks of the peer's own tree and backend
abbrev pub owned : Own → Part State Seen
owned (owns.Fetch key) x out next = fetched key x out next
owned (owns.Look key) x out next = looked key x out next
owned (owns.Put o) x out next = written o x out next

-- the key that this is about
abbrev pub own_key : Own → List ℕ
own_key (owns.Fetch key) = key
own_key (owns.Look key) = key
own_key (owns.Put o) = o.key

-- what follows the messages and notes of a rule of a leader: the peer's own tree and backend are
-- asked, and the rule that asks runs again with what they returned; or the rule that is named runs on
-- each of the keys
abbrev pub followed_up : ℕ → Option Own → Then → List (List ℕ) → Part State (List Task)
followed_up me None turn keys x out next = next (keyed turn keys) (turned me turn x) (turned_answers turn x out)
followed_up me (Some own) turn keys x out next = owned own x out (λ seen y o. next (tasks.Again (asked_by own) (own_key own) seen ∷ []) y o)

-- the output of a row of a leader: if it steps down, its unanswered calls are answered first
abbrev pub and_row : LeadOut → State → Out → Out
and_row row x out = and_sends (and_answers (left_answers row.leave x out) row.answers) row.sends

-- the whole row of a rule of a leader, which returns the tasks that follow
abbrev pub lead_done : ℕ → LeadOut → Part State (List Task)
lead_done me row x out next = noted row.notes (followed_up me row.own row.then row.keys (left row.leave x) (and_row row x out) next)

-- a rule of a leader, by its row; nothing happens in a peer that does not lead
abbrev pub lead : (Leader → Leader × LeadOut) → ℕ → Phase → Part State (List Task)
lead row me (phases.Leading l) x out next = lead_done me (row l.leader).1 (leading (with_leader (row l.leader).0 l) x) out next
lead row me other x out next = next [] x out

-- rule 5 (d) and (e), in a leader: each other member is sent one message, and a change that is
-- wanted begins
abbrev pub reminded : Phase → Part State (List Task)
reminded (phases.Leading l) x out next =
    next (named (begins (wished l.leader.fact l.change))) (leading (record l { change = wished l.leader.fact l.change }) x) (and_sends out (ticks x.fact l))
reminded other x out next = next [] x out

-- one task is run
abbrev pub task_done : ℕ → Task → Part State (List Task)
task_done me (tasks.Phase rule) x out next = row_done me (phase_row rule me x).1 (phase_row rule me x).0 out next
task_done me tasks.Remind x out next = reminded x.phase x out next
task_done me (tasks.Key rule key) x out next = lead (lead_row rule key seens.Nothing) me x.phase x out next
task_done me (tasks.Again rule key seen) x out next = lead (lead_row rule key seen) me x.phase x out next

-- At most this many tasks are run. The rules that a row names run before the tasks that were left.
-- The tasks that are left at the end are returned.
unfoldable pub driven : ℕ → ℕ → List Task → Part State (List Task)
driven me zero ts x out next = next ts x out
driven me (suc n) [] x out next = next [] x out
driven me (suc n) (t ∷ ts) x out next = task_done me t x out (λ more y o. driven me n (more ++ ts) y o next)

-- rule 5 in a leader: the calls first; the rest follows once the keys have started their next calls
abbrev pub led_in : ℕ → Phase → Part State (List Task)
led_in me (phases.Leading l) x out next =
    lead_done me (row_5_calls x.fact l).1 (leading (row_5_calls x.fact l).0 x) out (λ ts y o. next (ts ++ tasks.Remind ∷ []) y o)
led_in me other x out next = next [] x out

-- rules 2 to 5, a tick, in any phase
abbrev pub ticked : ℕ → Phase → Part State (List Task)
ticked me phase x out next = if leads phase then led_in me phase x out next else row_done me (aged phase me x).1 (aged phase me x).0 out next

-- what a request is shown by this part, if it is served; otherwise nothing is read
abbrev pub shown : Bool → Part State Seen → Part State Seen
shown true part x out next = part x out next
shown false part x out next = next seens.Nothing x out

-- rule 21, Get
abbrev pub got : ℕ → ℕ → Epoch → ℕ → List ℕ → Part State (List Task)
got me from ballot round key x out next =
    shown (is_served x.fact x.trusted ballot) (looked key) x out (λ seen y o. row_done me (row_21 y.fact y.trusted from ballot round key seen) y o next)

-- the answer to a put after the object was written, or damage was found on its path
abbrev pub after_put : ℕ → Epoch → PhaseOut → Seen → PhaseOut
after_put from ballot row (seens.Damaged at) = tells_damage from (messages.Nack ballot (causes.Damaged at))
after_put from ballot row seen = row

-- an answer to a put, after the object was written if the answer asks for that
abbrev pub put_done : Then → ℕ → ℕ → Epoch → Object → PhaseOut → Part State (List Task)
put_done thens.Put me from ballot o row x out next = written o x out (λ seen y p. row_done me (after_put from ballot row seen) y p next)
put_done other me from ballot o row x out next = row_done me row x out next

-- rule 22, Put
abbrev pub put_in : ℕ → ℕ → Epoch → Object → Part State (List Task)
put_in me from ballot o x out next =
    shown (is_served x.fact x.trusted ballot) (found o.key) x out
    (λ seen y p. put_done (row_22 y.fact y.trusted from ballot o seen).then me from ballot o (row_22 y.fact y.trusted from ballot o seen) y p next)

-- rule 29, GetReply, at a leader: an object that the entry does not name counts as none
abbrev pub get_replied : ℕ → ℕ → Epoch → ℕ → List ℕ → Option Entry → Option Object → Part State (List Task)
get_replied me from ballot round key entry object x out next =
    confirmed entry object x out (λ named y o. lead (row_29_reply from ballot round key entry named) me y.phase y o next)

-- rule 23, TreeAsk: a node is read if the ballot is the promised one
abbrev pub got_ask : ℕ → ℕ → Epoch → Question → Part State (List Task)
got_ask me from ballot q x out next =
    shown_node x.mode.tree (is_same ballot x.fact.ballot) q x out (λ body y o. row_done me (row_23 y.fact y.trusted from ballot q.position q.after body) y o next)

-- a message about a node, which does nothing where the peer's tree does not have the position
abbrev pub in_tree : Bool → Part State (List Task) → Part State (List Task)
in_tree true part x out next = part x out next
in_tree false part x out next = next [] x out

-- a message from a peer
abbrev pub delivered : ℕ → ℕ → Message → Part State (List Task)
delivered me from (messages.Get ballot round key) x out next = got me from ballot round key x out next
delivered me from (messages.Put ballot o) x out next = put_in me from ballot o x out next
delivered me from (messages.GetReply ballot round key entry object) x out next =
    if leads x.phase then get_replied me from ballot round key entry object x out next else next [] x out
delivered me from (messages.PutReply ballot key version) x out next = lead (row_35_reply from ballot key version) me x.phase x out next
delivered me from (messages.CheckReply ballot round) x out next = lead (row_33_reply from ballot round) me x.phase x out next
delivered me from (messages.TreeAsk ballot at after) x out next = in_tree (has_position x.mode.tree at) (got_ask me from ballot (record { position = at; after = after })) x out next
delivered me from (messages.TreeGive ballot at after trusted body) x out next =
    in_tree (has_position x.mode.tree at) (tree_give me from (record { ballot = ballot; question = record { position = at; after = after }; trusted = trusted; body = body })) x out next
delivered me from message x out next = row_done me (received me from message x).1 (received me from message x).0 out next

-- the answer to a call that the peer does not take
abbrev pub unavailable : CallIn → AnswerOut
unavailable call = record { caller = call.from; id = call.id; reply = Unavailable }

-- rule 27, a call
abbrev pub called : ℕ → CallIn → Part State (List Task)
called me call x out next =
    if leads x.phase then lead (row_27 call.from call.id call.key call.command (changes x.phase)) me x.phase x out next
    else next [] x (and_answers out (unavailable call ∷ []))

-- the reply to a request to change the view: whether it is taken
abbrev pub and_change : Out → Bool → Out
and_change out taken = record out { changes = out.changes ++ taken ∷ [] }

-- the row of the rule for an event
abbrev pub first : ℕ → Event → Part State (List Task)
first me (events.Deliver from message) x out next = delivered me from message x out next
first me events.Tick x out next = ticked me x.phase x out next
first me (events.Call call) x out next = called me call x out next
first me (events.Change view) x out next = row_done me (asked_change view x).1.0 (asked_change view x).0 (and_change out (asked_change view x).1.1) next

-- a number of tasks that no step reaches
unfoldable pub most_turns : ℕ
most_turns = 2 ^ 64 - 1

-- the row for the event, and the rules that follow from it
abbrev pub responded : ℕ → Event → Part State (Unit {0})
responded me event x out next = first me event x out (λ ts y o. driven me most_turns ts y o (λ rest z q. next tt z q))

-- rule 6: at the end of each step rule 26 runs, and the rules that follow from it
abbrev pub concluded : ℕ → Part State (Unit {0})
concluded me x out next = task_done me (tasks.Phase phase_rules.EndEpoch) x out (λ ts y o. driven me most_turns ts y o (λ rest z q. next tt z q))

-- a whole step
abbrev pub whole : ℕ → Event → Part State (Unit {0})
whole me event x out next = responded me event x out (λ u y o. concluded me y o next)

-- the step of peer `me`, in this state, on an event: the calls it makes, what it notes, and how it
-- ends
abbrev pub step_of : ℕ → Event → State → Plan State
step_of me event x = whole me event x nothing (λ u y o. Done y o)

-- the sender of a message is another peer, and the message obeys the grammar of frames
abbrev pub MayCome : ℕ → Event → Type 0
MayCome me (events.Deliver from message) = IsPeer from × (from ≢ me) × Obeys message
MayCome me events.Tick = Unit {0}
MayCome me (events.Call call) = Unit {0}
MayCome me (events.Change view) = Unit {0}
