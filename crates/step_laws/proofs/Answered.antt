-- Which calls a step answers, and how.
use Rattle.std.specs.Prelude.{All, filter}
use Rattle.std.proofs.Common.{◌≡◌, ◌⊎◌, ◌∙◌, ◌==◌, inl, inr, ap, refl, sym, subst, append-nil, cond, not, nat_le, map, ℕ, zero, suc, Bool, true, false, if◌then◌else◌, List, [], ◌∷◌, ◌++◌, Some}
use Rattle.std.proofs.lemmas.Bool.{false≢true}
use Rattle.std.proofs.lemmas.List.Elements.{All-nil, All-cons, All-append}
use Rattle.call_table.specs.Calls.{running, without_running, is_due, not_due, older as older_call, waiting_on}
use Rattle.call_table.specs.declared.table.CallTable.{CallTable}
use Rattle.call_table.specs.declared.waiting.Waiting.{Waiting}
use Rattle.ens_base.specs.Lists.{◌∈◌, same_bytes}
use Rattle.ens_base.proofs.Lists.{in-map, in_append, in_left, in_right}
use Rattle.ens_base.specs.declared.reply.Reply.{Reply}
use Rattle.ens_base.specs.declared.reply.Reply.TheVariants as replies
use Rattle.leader_output.specs.Outs.{rests, leads_on}
use Rattle.leader_output.specs.declared.out.AnswerOut.{AnswerOut}
use Rattle.leader_output.specs.declared.out.LeadOut.{LeadOut}
use Rattle.leader.specs.Starts.{row_27}
use Rattle.leader_laws.specs.Steps.{Serves}
use Rattle.leader.specs.Ticks.{left_answer}
use Rattle.leader.specs.declared.leader.Leader.{Leader}
use Rattle.leader.proofs.Cases.{either}
use Rattle.peer_spec.specs.Drives.{driven, most_turns, step_of}
use Rattle.peer_spec.specs.Kept.{IsStepCall}
use Rattle.peer_state.specs.Rows.{has_begun}
use Rattle.peer_state.specs.declared.event.CallIn.{CallIn}
use Rattle.peer_state.specs.declared.event.Event.{Event}
use Rattle.peer_state.specs.declared.event.Event.TheVariants as events
use Rattle.peer_state.specs.declared.state.ChangeState.{ChangeState}
use Rattle.peer_state.specs.declared.state.ChangeState.TheVariants.{Settled, Wanted, Finishing}
use Rattle.peer_state.specs.declared.state.Phase.{Phase}
use Rattle.peer_state.specs.declared.state.Phase.TheVariants as phases
use Rattle.peer_state.specs.declared.state.State.{State}
use Rattle.phase_rows.specs.declared.rules.KeyRule.TheVariants as key_rules
use Rattle.register_model.specs.declared.note.Note.{Note}
use Rattle.step_plans.specs.Plans.{Done, Out, Rest, Follows, nothing}
use Rattle.step_plans.specs.declared.tasks.Task.{Task}
use Rattle.wire_frames.specs.declared.message.Message.{Message}
use Rattle.wire_frames.specs.declared.message.Message.TheVariants as messages
use Rattle.step_laws.specs.Answering.{HasBegun, Leads, LeadsIntoChange, IsAnswered, IsKept, IsNoReply, ServesNoCall, refusal_of, timeout_of}
use Rattle.step_laws.specs.Reached.{unanswered}
use Rattle.step_laws.proofs.Walks.{Keeps, CallComes, Comes, left_calls, left_given, TurnKeyed, is_reply, step_keeps}

-- ## A call at a peer that does not lead

pub no_tasks : (n me : ℕ) (x : State) (o : Out) (next : Rest State (List Task)) → driven me n [] x o next ≡ next [] x o
unfolding driven
no_tasks zero me x o next = refl
no_tasks (suc n) me x o next = refl

pub refused_elsewhere : (me : ℕ) (call : CallIn) (x : State) → (Leads x.phase → ⊥) → step_of me (events.Call call) x ≡ Done x (record { sends = []; answers = refusal_of call ∷ []; changes = [] })
refused_elsewhere me call x not_so = by x.phase not_so
  where
    by : (phase : Phase) → (Leads phase → ⊥) → step_of me (events.Call call) (record x { phase = phase }) ≡ Done (record x { phase = phase }) (record { sends = []; answers = refusal_of call ∷ []; changes = [] })
    by (phases.Leading l) not_so = absurd (not_so tt)
    by (phases.Following f) not_so = no_tasks most_turns me _ _ _ ∙ no_tasks most_turns me _ _ _
    by (phases.Probing p) not_so = no_tasks most_turns me _ _ _ ∙ no_tasks most_turns me _ _ _
    by (phases.Electing e) not_so = no_tasks most_turns me _ _ _ ∙ no_tasks most_turns me _ _ _

-- ## A call at a leader that has begun a change

abbrev IsTimeout : AnswerOut → Type 0
IsTimeout a = a.reply ≡ replies.Timeout

all_timeouts : (calls : List Waiting) → All IsTimeout (map left_answer calls)
all_timeouts [] = All-nil IsTimeout
all_timeouts (w ∷ calls) = All-cons IsTimeout (left_answer w) (map left_answer calls) refl (all_timeouts calls)

-- this answer first, and then timeouts alone
abbrev BeginsWith : AnswerOut → List Waiting → List AnswerOut → List Bool → Type 0
BeginsWith a calls answers taken = (more : List AnswerOut) × (answers ≡ a ∷ more) × All IsTimeout more

begins_keep : (a : AnswerOut) → Keeps false (BeginsWith a)
begins_keep a = record {
  left = λ calls answers taken (more, is, all). (more ++ map left_answer calls, ap (λ (z : List AnswerOut). z ++ map left_answer calls) is, All-append IsTimeout more (map left_answer calls) all (all_timeouts calls));
  served = λ keys leave key old new more notes answers taken serves is. absurd (false≢true keys);
  aged = λ keys calls answers taken is. absurd (false≢true keys);
  due = λ keys calls answers taken is. absurd (false≢true keys);
}

pub begun_true : (change : ChangeState) → HasBegun change → has_begun change ≡ true
begun_true Settled begun = absurd begun
begun_true (Wanted change) begun = refl
begun_true (Finishing f) begun = refl

refused_comes : (call : CallIn) (phase : Phase) → LeadsIntoChange phase → CallComes false (BeginsWith (refusal_of call)) call phase nothing
refused_comes call (phases.Leading l) begun = by (has_begun l.change) (begun_true l.change begun)
  where
    by : (b : Bool) → b ≡ true → BeginsWith (refusal_of call) (row_27 call.from call.id call.key call.command b l.leader).0.table.calls ([] ++ (row_27 call.from call.id call.key call.command b l.leader).1.answers) []
        × TurnKeyed false (row_27 call.from call.id call.key call.command b l.leader).1.then
    by true is = (([], refl, All-nil IsTimeout), tt)
    by false is = absurd (false≢true is)
refused_comes call (phases.Following f) begun = absurd begun
refused_comes call (phases.Probing p) begun = absurd begun
refused_comes call (phases.Electing e) begun = absurd begun

pub refused_in_change : (me : ℕ) (call : CallIn) (x : State) → LeadsIntoChange x.phase → Follows IsStepCall (λ y out. (more : List AnswerOut) × (out.answers ≡ refusal_of call ∷ more) × All (λ a. a.reply ≡ replies.Timeout) more) (step_of me (events.Call call) x)
refused_in_change me call x begun =
    step_keeps me false (BeginsWith (refusal_of call)) (begins_keep (refusal_of call)) (λ y out. (more : List AnswerOut) × (out.answers ≡ refusal_of call ∷ more) × All (λ a. a.reply ≡ replies.Timeout) more) (events.Call call) x
    (refused_comes call x.phase begun) (λ y out good. good)

-- ## No call is dropped

-- an answer to the call of this caller with this number
abbrev answer : ℕ → ℕ → Reply → AnswerOut
answer from id reply = record { caller = from; id = id; reply = reply }

answered_as : (w : Waiting) (from id : ℕ) (reply : Reply) (answers : List AnswerOut) → w.from ≡ from → w.id ≡ id → answer w.from w.id reply ∈ answers → IsAnswered from id answers
answered_as w from id reply answers same_from same_id given =
    let P : ℕ → Type 0 = λ f. answer f id reply ∈ answers in
    let Q : ℕ → Type 0 = λ i. answer w.from i reply ∈ answers in
    (reply, subst P same_from (subst Q same_id given))

more_answered : (from id : ℕ) (answers more : List AnswerOut) → IsAnswered from id answers → IsAnswered from id (answers ++ more)
more_answered from id answers more (reply, given) = (reply, in_left answers more (answer from id reply) given)

-- the running call of a key, or one that stays
running_or_stays : (key : List ℕ) (calls : List Waiting) (v w : Waiting) → running key calls ≡ Some v → w ∈ calls → (w ≡ v) ⊎ (w ∈ without_running key calls)
running_or_stays key [] v w is here = absurd here
running_or_stays key (u ∷ calls) v w is here = by (same_bytes u.key key) is here (λ later there. running_or_stays key calls v w later there)
  where
    by : (b : Bool) → (if b then Some u else running key calls) ≡ Some v → (w ≡ u) ⊎ (w ∈ calls) → (running key calls ≡ Some v → w ∈ calls → (w ≡ v) ⊎ (w ∈ without_running key calls)) → (w ≡ v) ⊎ (w ∈ (if b then calls else u ∷ without_running key calls))
    by true first (inl e) later = let one : u ≡ v = cc in inl (e ∙ one)
    by true first (inr there) later = inr there
    by false first (inl e) later = inr (inl e)
    by false first (inr there) later = stays (later first there)
      where
        stays : (w ≡ v) ⊎ (w ∈ without_running key calls) → (w ≡ v) ⊎ ((w ≡ u) ⊎ (w ∈ without_running key calls))
        stays (inl e) = inl e
        stays (inr there) = inr (inr there)

due_or_stays : (calls : List Waiting) (w : Waiting) → w ∈ calls → (w ∈ filter is_due calls) ⊎ (w ∈ not_due calls)
due_or_stays [] w here = absurd here
due_or_stays (u ∷ calls) w here = by (is_due u) here (λ there. due_or_stays calls w there)
  where
    by : (b : Bool) → (w ≡ u) ⊎ (w ∈ calls) → (w ∈ calls → (w ∈ filter is_due calls) ⊎ (w ∈ not_due calls)) → (w ∈ cond b (u ∷ filter is_due calls) (filter is_due calls)) ⊎ (w ∈ cond (not b) (u ∷ not_due calls) (not_due calls))
    by true (inl e) later = inl (inl e)
    by true (inr there) later = one (later there)
      where
        one : (w ∈ filter is_due calls) ⊎ (w ∈ not_due calls) → ((w ≡ u) ⊎ (w ∈ filter is_due calls)) ⊎ (w ∈ not_due calls)
        one (inl due) = inl (inr due)
        one (inr stays) = inr stays
    by false (inl e) later = inr (inl e)
    by false (inr there) later = two (later there)
      where
        two : (w ∈ filter is_due calls) ⊎ (w ∈ not_due calls) → (w ∈ filter is_due calls) ⊎ ((w ≡ u) ⊎ (w ∈ not_due calls))
        two (inl due) = inl due
        two (inr stays) = inr (inr stays)

module _ (from id : ℕ) where
  abbrev Kept : List Waiting → List AnswerOut → List Bool → Type 0
  Kept calls answers taken = IsKept from id calls answers

  -- the calls of a leader that steps down are answered
  kept_left : (calls : List Waiting) (answers : List AnswerOut) (taken : List Bool) → Kept calls answers taken → Kept [] (answers ++ map left_answer calls) taken
  kept_left calls answers taken (inl given) = inl (more_answered from id answers (map left_answer calls) given)
  kept_left calls answers taken (inr (w, here, same_from, same_id)) =
      inl (answered_as w from id replies.Timeout (answers ++ map left_answer calls) same_from same_id (in_right answers (map left_answer calls) (left_answer w) (in-map left_answer calls w here)))

  kept_served : (key : List ℕ) (old new : CallTable) (more : List AnswerOut) (notes : List Note) (answers : List AnswerOut) → Serves key old new more notes → IsKept from id old.calls answers → IsKept from id new.calls (answers ++ more)
  kept_served key old new more notes answers serves (inl given) = inl (more_answered from id answers more given)
  kept_served key old new [] notes answers serves (inr (w, here, same_from, same_id)) = inr (w, subst (λ (calls : List Waiting). w ∈ calls) (sym serves.0) here, same_from, same_id)
  kept_served key old new (a ∷ []) notes answers serves (inr (w, here, same_from, same_id)) = by (running_or_stays key old.calls serves.0 w serves.1.running here)
    where
      by : (w ≡ serves.0) ⊎ (w ∈ without_running key old.calls) → IsKept from id new.calls (answers ++ a ∷ [])
      by (inl e) = inl (a.reply, in_right answers (a ∷ []) (answer from id a.reply) (inl (same_answer (sym (serves.2 ∙ ap (λ (v : Waiting). v.from) (sym e) ∙ same_from)) (sym (serves.3 ∙ ap (λ (v : Waiting). v.id) (sym e) ∙ same_id)))))
        where
          same_answer : from ≡ a.caller → id ≡ a.id → answer from id a.reply ≡ a
          same_answer f i = ap (λ (g : ℕ). answer g id a.reply) f ∙ ap (λ (j : ℕ). answer a.caller j a.reply) i
      by (inr stays) = inr (w, subst (λ (calls : List Waiting). w ∈ calls) (sym serves.1.calls) stays, same_from, same_id)
  kept_served key old new (a ∷ (b ∷ more)) notes answers serves (inr here) = absurd serves

  -- a rule that answers, after which the leader steps down or not
  kept_row : (leave : Bool) (calls : List Waiting) (answers more : List AnswerOut) → IsKept from id calls (answers ++ more) → IsKept from id (left_calls leave calls) (left_given leave calls answers ++ more)
  kept_row false calls answers more kept = kept
  kept_row true calls answers more (inl (reply, given)) = inl (reply, among (in_append answers more (answer from id reply) given))
    where
      among : (answer from id reply ∈ answers) ⊎ (answer from id reply ∈ more) → answer from id reply ∈ ((answers ++ map left_answer calls) ++ more)
      among (inl first) = in_left (answers ++ map left_answer calls) more (answer from id reply) (in_left answers (map left_answer calls) (answer from id reply) first)
      among (inr last) = in_right (answers ++ map left_answer calls) more (answer from id reply) last
  kept_row true calls answers more (inr waits) = by (kept_left calls answers [] (inr waits))
    where
      by : IsKept from id [] (answers ++ map left_answer calls) → IsKept from id [] ((answers ++ map left_answer calls) ++ more)
      by (inl given) = inl (more_answered from id (answers ++ map left_answer calls) more given)
      by (inr (w, here, same_from, same_id)) = absurd here

  kept_aged : (calls : List Waiting) (answers : List AnswerOut) (taken : List Bool) → Kept calls answers taken → Kept (map older_call calls) answers taken
  kept_aged calls answers taken (inl given) = inl given
  kept_aged calls answers taken (inr (w, here, same_from, same_id)) = inr (older_call w, in-map older_call calls w here, same_from, same_id)

  kept_due : (calls : List Waiting) (answers : List AnswerOut) (taken : List Bool) → Kept calls answers taken → Kept (not_due calls) (answers ++ map left_answer (filter is_due calls)) taken
  kept_due calls answers taken (inl given) = inl (more_answered from id answers (map left_answer (filter is_due calls)) given)
  kept_due calls answers taken (inr (w, here, same_from, same_id)) = by (due_or_stays calls w here)
    where
      by : (w ∈ filter is_due calls) ⊎ (w ∈ not_due calls) → Kept (not_due calls) (answers ++ map left_answer (filter is_due calls)) taken
      by (inl due) = inl (answered_as w from id replies.Timeout (answers ++ map left_answer (filter is_due calls)) same_from same_id (in_right answers (map left_answer (filter is_due calls)) (left_answer w) (in-map left_answer (filter is_due calls) w due)))
      by (inr stays) = inr (w, stays, same_from, same_id)

  kept_keeps : Keeps true Kept
  kept_keeps = record {
    left = kept_left;
    served = λ keys leave key old new more notes answers taken serves kept. kept_row leave new.calls answers more (kept_served key old new more notes answers serves kept);
    aged = λ keys. kept_aged;
    due = λ keys. kept_due;
  }

  -- what holds once a call came to a leader, if it holds for each way that a call is taken
  joined_by : (call : CallIn) (b : Bool) (l : Leader) → IsKept from id l.table.calls (refusal_of call ∷ []) → IsKept from id l.table.calls (answer call.from call.id replies.Busy ∷ [])
      → IsKept from id (l.table.calls ++ record { from = call.from; id = call.id; key = call.key; command = call.command; age = 0 } ∷ []) []
      → IsKept from id (row_27 call.from call.id call.key call.command b l).0.table.calls ([] ++ (row_27 call.from call.id call.key call.command b l).1.answers) × TurnKeyed true (row_27 call.from call.id call.key call.command b l).1.then
  joined_by call b l refused busy joins =
      let R : Leader × LeadOut → Type 0 = λ r. IsKept from id r.0.table.calls ([] ++ r.1.answers) × TurnKeyed true r.1.then in
      let calls : List Waiting = l.table.calls ++ record { from = call.from; id = call.id; key = call.key; command = call.command; age = 0 } ∷ [] in
      either R b _ _ (refused, tt)
      (either R (nat_le 16 (waiting_on call.key l.table.calls)) _ _ (busy, tt)
      (either (λ (o : LeadOut). IsKept from id calls ([] ++ o.answers) × TurnKeyed true o.then) (waiting_on call.key l.table.calls == 0) (leads_on key_rules.StartCall call.key) rests (joins, refl) (joins, tt)))

-- a call that waited, when another comes
waits_comes : (call : CallIn) (phase : Phase) (w : Waiting) → w ∈ unanswered phase → CallComes true (Kept w.from w.id) call phase nothing
waits_comes call (phases.Leading l) w here =
    joined_by w.from w.id call (has_begun l.change) l.leader (inr (w, here, refl, refl)) (inr (w, here, refl, refl)) (inr (w, in_left l.leader.table.calls _ w here, refl, refl))
waits_comes call (phases.Following f) w here = absurd here
waits_comes call (phases.Probing p) w here = absurd here
waits_comes call (phases.Electing e) w here = absurd here

arrives_comes : (call : CallIn) (phase : Phase) → CallComes true (Kept call.from call.id) call phase nothing
arrives_comes call (phases.Leading l) =
    joined_by call.from call.id call (has_begun l.change) l.leader (inl (replies.Unavailable, inl refl)) (inl (replies.Busy, inl refl)) (inr (_, in_right l.leader.table.calls _ _ (inl refl), refl, refl))
arrives_comes call (phases.Following f) = inl (replies.Unavailable, inl refl)
arrives_comes call (phases.Probing p) = inl (replies.Unavailable, inl refl)
arrives_comes call (phases.Electing e) = inl (replies.Unavailable, inl refl)

waits_on : (event : Event) (x : State) (w : Waiting) → w ∈ unanswered x.phase → Comes true (Kept w.from w.id) event x nothing
waits_on (events.Deliver from message) x w here = (inr (w, here, refl, refl), λ counts. refl)
waits_on events.Tick x w here = (inr (w, here, refl, refl), refl)
waits_on (events.Call call) x w here = waits_comes call x.phase w here
waits_on (events.Change view) x w here = inr (w, here, refl, refl)

pub waiting_kept : (me : ℕ) (event : Event) (x : State) (w : Waiting) → w ∈ unanswered x.phase → Follows IsStepCall (λ y out. IsKept w.from w.id (unanswered y.phase) out.answers) (step_of me event x)
waiting_kept me event x w here =
    step_keeps me true (Kept w.from w.id) (kept_keeps w.from w.id) (λ y out. IsKept w.from w.id (unanswered y.phase) out.answers) event x (waits_on event x w here) (λ y out kept. kept)

pub arrived_kept : (me : ℕ) (call : CallIn) (x : State) → Follows IsStepCall (λ y out. IsKept call.from call.id (unanswered y.phase) out.answers) (step_of me (events.Call call) x)
arrived_kept me call x =
    step_keeps me true (Kept call.from call.id) (kept_keeps call.from call.id) (λ y out. IsKept call.from call.id (unanswered y.phase) out.answers) (events.Call call) x (arrives_comes call x.phase) (λ y out kept. kept)

-- ## A step that serves no call

-- nobody is answered, and these calls are left; or each of them is answered `timeout`, and none is left
abbrev AllOrNone : List Waiting → List Waiting → List AnswerOut → List Bool → Type 0
AllOrNone before calls answers taken = ((answers ≡ []) × (calls ≡ before)) ⊎ ((answers ≡ map left_answer before) × (calls ≡ []))

left_all : (before calls : List Waiting) (answers : List AnswerOut) (taken : List Bool) → AllOrNone before calls answers taken → AllOrNone before [] (answers ++ map left_answer calls) taken
left_all before calls answers taken (inl (none, same)) = inr (ap (λ (z : List AnswerOut). z ++ map left_answer calls) none ∙ ap (map left_answer) same, refl)
left_all before calls answers taken (inr (all, none)) = inr (ap (λ (z : List Waiting). answers ++ map left_answer z) none ∙ append-nil answers ∙ all, refl)

all_keeps : (before : List Waiting) → Keeps false (AllOrNone before)
all_keeps before = record {
  left = left_all before;
  served = λ keys leave key old new more notes answers taken serves is. absurd (false≢true keys);
  aged = λ keys calls answers taken is. absurd (false≢true keys);
  due = λ keys calls answers taken is. absurd (false≢true keys);
}

no_reply : (message : Message) → IsNoReply message → is_reply message ≡ true → false ≡ true
no_reply (messages.GetReply ballot round key entry object) none counts = absurd none
no_reply (messages.PutReply ballot key version) none counts = absurd none
no_reply (messages.CheckReply ballot round) none counts = absurd none
no_reply other none counts = counts

serves_none : (event : Event) (x : State) → ServesNoCall event → Comes false (AllOrNone (unanswered x.phase)) event x nothing
serves_none (events.Deliver from message) x serves = (inl (refl, refl), no_reply message serves)
serves_none events.Tick x serves = absurd serves
serves_none (events.Call call) x serves = absurd serves
serves_none (events.Change view) x serves = inl (refl, refl)

left_without : (phase : Phase) → (Leads phase → ⊥) → unanswered phase ≡ []
left_without (phases.Leading l) not_so = absurd (not_so tt)
left_without (phases.Following f) not_so = refl
left_without (phases.Probing p) not_so = refl
left_without (phases.Electing e) not_so = refl

timed_out : (before : List Waiting) (y : State) (out : Out) → AllOrNone before (unanswered y.phase) out.answers out.changes → (Leads y.phase → ⊥) → out.answers ≡ map timeout_of before
timed_out before y out (inl (none, same)) not_so = none ∙ ap (map timeout_of) (sym (left_without y.phase not_so) ∙ same)
timed_out before y out (inr (all, none)) not_so = all

pub stopped_times_out : (me : ℕ) (event : Event) (x : State) → ServesNoCall event → Follows IsStepCall (λ y out. (Leads y.phase → ⊥) → out.answers ≡ map timeout_of (unanswered x.phase)) (step_of me event x)
stopped_times_out me event x serves =
    step_keeps me false (AllOrNone (unanswered x.phase)) (all_keeps (unanswered x.phase)) (λ y out. (Leads y.phase → ⊥) → out.answers ≡ map timeout_of (unanswered x.phase)) event x (serves_none event x serves)
    (λ y out good. timed_out (unanswered x.phase) y out good)
