-- Which calls a step answers, and how.
use Rattle.std.specs.Prelude.{◌≡◌, ◌⊎◌, ◌≤◌, ◌<◌, ◌||◌, ℕ, Bool, true, false, map, filter, Some, List, [], ◌∷◌, ◌++◌}
use Rattle.call_table.specs.Calls.{running, without_running, waiting_on, is_due, not_due, older as older_call}
use Rattle.call_table.specs.Tables.{late_put}
use Rattle.call_table.specs.declared.waiting.Waiting.{Waiting}
use Rattle.ens_base.specs.Lists.{◌∈◌}
use Rattle.ens_base.specs.declared.reply.Reply.{Reply}
use Rattle.ens_base.specs.declared.reply.Reply.TheVariants as replies
use Rattle.leader_output.specs.declared.out.AnswerOut.{AnswerOut}
use Rattle.leader.specs.Ticks.{aged, is_late}
use Rattle.peer_state.specs.Leading.{older, end_of}
use Rattle.peer_state.specs.declared.event.CallIn.{CallIn}
use Rattle.peer_state.specs.declared.event.Event.{Event}
use Rattle.peer_state.specs.declared.event.Event.TheVariants as events
use Rattle.peer_state.specs.declared.state.ChangeState.{ChangeState}
use Rattle.peer_state.specs.declared.state.ChangeState.TheVariants.{Settled, Wanted, Finishing}
use Rattle.peer_state.specs.declared.state.Leadership.{Leadership}
use Rattle.peer_state.specs.declared.state.Phase.{Phase}
use Rattle.peer_state.specs.declared.state.Phase.TheVariants as phases
use Rattle.wire_frames.specs.declared.message.Message.{Message}
use Rattle.wire_frames.specs.declared.message.Message.TheVariants as messages

-- a change is wanted, or the epoch is ending
abbrev pub HasBegun : ChangeState → Type 0
HasBegun Settled = ⊥
HasBegun (Wanted change) = Unit {0}
HasBegun (Finishing f) = Unit {0}

-- the peer leads
abbrev pub Leads : Phase → Type 0
Leads (phases.Leading l) = Unit {0}
Leads (phases.Following f) = ⊥
Leads (phases.Probing p) = ⊥
Leads (phases.Electing e) = ⊥

-- the peer leads and has begun a change
abbrev pub LeadsIntoChange : Phase → Type 0
LeadsIntoChange (phases.Leading l) = HasBegun l.change
LeadsIntoChange (phases.Following f) = ⊥
LeadsIntoChange (phases.Probing p) = ⊥
LeadsIntoChange (phases.Electing e) = ⊥

-- the answer to a call that no leader takes
abbrev pub refusal_of : CallIn → AnswerOut
refusal_of call = record { caller = call.from; id = call.id; reply = replies.Unavailable }

-- the answer to a call on a key that has 16 unanswered ones
abbrev pub busy_answer_of : CallIn → AnswerOut
busy_answer_of call = record { caller = call.from; id = call.id; reply = replies.Busy }

-- the call as it waits
abbrev pub waiting_of : CallIn → Waiting
waiting_of call = record { from = call.from; id = call.id; key = call.key; command = call.command; age = 0 }

-- the answer to a call of a leader that leads no more
abbrev pub timeout_of : Waiting → AnswerOut
timeout_of w = record { caller = w.from; id = w.id; reply = replies.Timeout }

-- the call of this caller with this number is among the answers
abbrev pub IsAnswered : ℕ → ℕ → List AnswerOut → Type 0
IsAnswered from id answers = (reply : Reply) × (record { caller = from; id = id; reply = reply } ∈ answers)

-- the call of this caller with this number is among the calls
abbrev pub IsWaiting : ℕ → ℕ → List Waiting → Type 0
IsWaiting from id calls = (w : Waiting) × (w ∈ calls) × (w.from ≡ from) × (w.id ≡ id)

-- the call is answered, or it is still unanswered
abbrev pub IsKept : ℕ → ℕ → List Waiting → List AnswerOut → Type 0
IsKept from id calls answers = IsAnswered from id answers ⊎ IsWaiting from id calls

-- no leader counts the message for a call: it is no reply to a round
abbrev pub IsNoReply : Message → Type 0
IsNoReply (messages.GetReply ballot round key entry object) = ⊥
IsNoReply (messages.PutReply ballot key version) = ⊥
IsNoReply (messages.CheckReply ballot round) = ⊥
IsNoReply other = Unit {0}

-- the event serves no call of a leader: it is a message, and no reply to a round, or a request to change the
-- view
abbrev pub ServesNoCall : Event → Type 0
ServesNoCall (events.Deliver from message) = IsNoReply message
ServesNoCall events.Tick = ⊥
ServesNoCall (events.Call call) = ⊥
ServesNoCall (events.Change view) = Unit {0}

-- ## What becomes of each call of a leader

-- a reply of a rule on a key; the others are for calls that are refused, and for those that are due or left
-- when a leader stops
abbrev pub IsOfRule : Reply → Type 0
IsOfRule (replies.Value stamp bytes) = Unit {0}
IsOfRule replies.NotFound = Unit {0}
IsOfRule replies.Failed = Unit {0}
IsOfRule (replies.Ok stamp) = Unit {0}
IsOfRule replies.Lost = Unit {0}
IsOfRule other = ⊥

-- rules on keys give these answers to some of these calls, one after another, each to the running call of
-- its key, which is then gone; these calls are left
abbrev pub AreServed : List Waiting → List AnswerOut → List Waiting → Type 0
AreServed calls [] left = left ≡ calls
AreServed calls (a ∷ answers) left =
    (key : List ℕ) × (w : Waiting) × (running key calls ≡ Some w) × (a.caller ≡ w.from) × (a.id ≡ w.id) × IsOfRule a.reply
    × AreServed (without_running key calls) answers left

-- After these first answers of a step some of these calls are served. The others stay unanswered; or the
-- leader stops, and then each of them is answered `timeout`, in order of arrival, and none is unanswered.
pub record AreAnswered (first : List AnswerOut) (calls after : List Waiting) (answers : List AnswerOut) : Type 0 where
  pub served : List AnswerOut
  pub left : List Waiting
  pub serves : AreServed calls served left
  pub ends : ((answers ≡ first ++ served) × (after ≡ left)) ⊎ ((answers ≡ (first ++ served) ++ map timeout_of left) × (after ≡ []))

-- A leader takes a call. If it has begun a change the call is answered `unavailable` first, and otherwise
-- `busy` if its key has 16 unanswered calls; any other call waits behind all others.
pub record AnswersCall (call : CallIn) (l : Leadership) (after : List Waiting) (answers : List AnswerOut) : Type 0 where
  pub begun : HasBegun l.change → AreAnswered (refusal_of call ∷ []) l.leader.table.calls after answers
  pub busy : ¬ HasBegun l.change → 16 ≤ waiting_on call.key l.leader.table.calls → AreAnswered (busy_answer_of call ∷ []) l.leader.table.calls after answers
  pub waits : ¬ HasBegun l.change → waiting_on call.key l.leader.table.calls < 16 → AreAnswered [] (l.leader.table.calls ++ waiting_of call ∷ []) after answers

-- in a tick a leader stops if a put has waited for 8 ticks, or the end of its epoch has
abbrev pub stops_by_age : Leadership → Bool
stops_by_age l = late_put (aged l.leader.table) || is_late (end_of (older l.change))

-- In a tick a leader that stops by age answers each call `timeout`. Any other answers those first that have
-- waited for 8 ticks, and these alone.
pub record AnswersTick (l : Leadership) (after : List Waiting) (answers : List AnswerOut) : Type 0 where
  pub stops : stops_by_age l ≡ true → (answers ≡ map timeout_of l.leader.table.calls) × (after ≡ [])
  pub goes_on : stops_by_age l ≡ false → AreAnswered (map timeout_of (filter is_due (map older_call l.leader.table.calls))) (not_due (map older_call l.leader.table.calls)) after answers
