-- A quorum ends a round of checking and a put.
use Rattle.std.specs.Prelude.{replicate, slice_set}
use Rattle.std.proofs.Common.{◌≡◌, ◌<◌, ◌+◌, ◌∙◌, ◌==◌, ◌&&◌, ◌||◌, ap, sym, refl, subst, ℕ, Bool, true, false, eqb-true, length, if◌then◌else◌, is_none, List, [], ◌∷◌, ◌++◌, Option, Some, None, arith}
use Rattle.std.proofs.lemmas.Bool.{false≢true, eqb-false}
use Rattle.std.proofs.lemmas.Bool.Decides.{nat_tests}
use Rattle.std.proofs.lemmas.List.{get_or-set_same, get_or-set_other}
use Rattle.std.proofs.Math.Bool.{or-false}
use Rattle.ens_base.proofs.Lists.{tested_in}
use Rattle.ens_base.proofs.Orders.{version_itself}
use Rattle.ens_base.proofs.Tests.{itself}
use Rattle.ens_base.specs.Epochs.{same_version}
use Rattle.ens_base.specs.Lists.{◌∈◌, is_in}
use Rattle.ens_base.specs.PeerSet.{holds}
use Rattle.ens_base.specs.View.{IsPeer}
use Rattle.ens_base.specs.declared.epoch.Epoch.{Epoch}
use Rattle.ens_base.specs.declared.epoch.Version.{Version}
use Rattle.ens_base.specs.declared.reply.Reply.{Reply}
use Rattle.ens_base.specs.declared.reply.Reply.TheVariants as replies
use Rattle.stored_formats.specs.declared.object.Object.{Object}
use Rattle.quorums.specs.Quorums.{is_majority, is_quorum, is_member, has_every}
use Rattle.quorums.proofs.Majorities.{majority_more_on}
use Rattle.quorums.proofs.Sets.{no_flag}
use Rattle.phase_rows.specs.Orders.{is_same}
use Rattle.quorums.specs.Rounds.{begun, answered as heard_from, state_of}
use Rattle.quorums.specs.declared.round.Round.{Round}
use Rattle.quorums.specs.declared.round.RoundState.{RoundState}
use Rattle.quorums.specs.declared.round.RoundState.TheVariants.{Open, Met, AllAnswered}
use Rattle.object_commands.specs.Commands.{verdict_of}
use Rattle.register_model.specs.Registers.{Outcome, Keeps, Writes, outcome}
use Rattle.register_model.specs.declared.note.Note.{Note}
use Rattle.register_model.specs.declared.note.Note.TheVariants.{Settled, Read}
use Rattle.wire_frames.specs.declared.message.Message.TheVariants as messages
use Rattle.phase_rows.specs.declared.phase.Seen.TheVariants as seens
use Rattle.phase_rows.specs.declared.rules.KeyRule.TheVariants as key_rules
use Rattle.call_table.specs.Calls.{running, without_running}
use Rattle.call_table.specs.Rows.{Rows, row_at, check_round, base_of, with_stage}
use Rattle.call_table.specs.Tables.{ended, rested}
use Rattle.call_table.specs.declared.row.KeyRow.{KeyRow}
use Rattle.call_table.specs.declared.row.Stage.{Stage}
use Rattle.call_table.specs.declared.row.Stage.TheVariants as stages
use Rattle.call_table.specs.declared.table.CallTable.{CallTable}
use Rattle.call_table.specs.declared.waiting.Waiting.{Waiting}
use Rattle.leader_output.specs.Outs.{rests, leaves, leads_on, and_note}
use Rattle.leader_output.specs.Sends.{tells_all}
use Rattle.leader_output.specs.declared.out.AnswerOut.{AnswerOut}
use Rattle.leader_output.specs.declared.out.LeadOut.{LeadOut}
use Rattle.step_laws.specs.Answers.{IsAnswered, MakesQuorum, IsQuorumAlone, IsSettled, IsToApply}
use Rattle.leader.specs.Leaders.{idle, with_task, knows, base, settled_as, answered, read_answered, concluded, is_spent}
use Rattle.leader.specs.Rounds.{counts, begins_check, check_now, checked_for, row_33, goes_on_checking, stood, stood_at, row_33_reply, register_at, applied_for, row_34}
use Rattle.leader.specs.Puts.{write_settled, settled_for, acknowledged, put_for, row_35, acknowledged_by, row_35_reply}
use Rattle.step_laws.specs.Whole.{CountsVotes, IsStage, IsWhole}
use Rattle.leader.specs.declared.leader.Leader.{Leader}
use Rattle.leader.specs.declared.pending.Pending.{Pending}
use Rattle.leader.specs.declared.pending.Pending.TheVariants as tasks
use Rattle.leader_laws.proofs.Lookups.{row_here, stage_here, known_here}
use Rattle.step_laws.proofs.KeepsWhole.{begun_counts, heard_counts}

-- ## Quorums depend on members alone

pub quorum_of_members : (s t : ℕ → Bool) (views : List (List ℕ)) → ((p : ℕ) → is_member views p ≡ true → s p ≡ true → t p ≡ true) → is_quorum s views ≡ true → is_quorum t views ≡ true
quorum_of_members s t [] more h = refl
quorum_of_members s t (view ∷ views) more h = both (is_majority s view) (is_majority t view) (majority_more_on s t view (λ p at. more p (in_first p at))) h (quorum_of_members s t views (λ p is. more p (in_rest p is)))
  where
    in_first : (p : ℕ) → p ∈ view → (is_in view p || is_member views p) ≡ true
    in_first p at = ap (λ (b : Bool). b || is_member views p) (tested_in view p at)

    in_rest : (p : ℕ) → is_member views p ≡ true → (is_in view p || is_member views p) ≡ true
    in_rest p is = by_first (is_in view p)
      where
        by_first : (b : Bool) → (b || is_member views p) ≡ true
        by_first true = refl
        by_first false = is

    both : (a b : Bool) → (a ≡ true → b ≡ true) → (a && is_quorum s views) ≡ true → (is_quorum s views ≡ true → is_quorum t views ≡ true) → (b && is_quorum t views) ≡ true
    both true b first h rest = ap (λ (c : Bool). c && is_quorum t views) (first refl) ∙ rest h
    both false b first h rest = absurd (false≢true h)

-- ## Votes

-- a peer has voted after this vote exactly if it is this one or had voted, if it is a member
vote_of : (views : List (List ℕ)) (votes : List Bool) (from p : ℕ) (b : Bool) → is_member views from ≡ b → from < length votes → is_member views p ≡ true → holds (if b then slice_set votes from true else votes) p ≡ (p == from || holds votes p)
vote_of views votes from p b member less is = by_peer b (p == from) refl member
  where
    by_peer : (b same : Bool) → (p == from) ≡ same → is_member views from ≡ b → holds (if b then slice_set votes from true else votes) p ≡ (same || holds votes p)
    by_peer true true e member = subst (λ (q : ℕ). holds (slice_set votes from true) q ≡ true) (sym (eqb-true p from e)) (get_or-set_same votes from true false less)
    by_peer true false e member = get_or-set_other votes from p true false (λ s. eqb-false p from e s)
    by_peer false true e member = absurd (false≢true (sym member ∙ ap (is_member views) (sym (eqb-true p from e)) ∙ is))
    by_peer false false e member = refl

pub answered_votes : (views : List (List ℕ)) (round : Round) (from p : ℕ) → CountsVotes views round → IsPeer from → is_member views p ≡ true → holds (heard_from from round).tally.votes p ≡ (p == from || holds round.tally.votes p)
unfolding heard_from
answered_votes views round from p counts peer is =
    vote_of round.tally.views round.tally.votes from p (is_member round.tally.views from) refl (omega (arith, counts.flags, peer.1)) (subst (λ (vs : List (List ℕ)). is_member vs p ≡ true) (sym counts.on) is)

pub begun_votes : (views : List (List ℕ)) (me p : ℕ) → IsPeer me → is_member views p ≡ true → holds (begun views me).tally.votes p ≡ (p == me)
unfolding begun
begun_votes views me p peer is =
    answered_votes views (record { tally = record { views = views; votes = replicate 32 false } }) me p (record { on = refl; flags = refl }) peer is
    ∙ ap (λ (b : Bool). p == me || b) (no_flag 32 p) ∙ or-false (p == me)

-- a round in which a quorum has voted is not open
pub not_open : (views : List (List ℕ)) (round : Round) → round.tally.views ≡ views → is_quorum (holds round.tally.votes) views ≡ true → state_of round ≡ Open → ⊥
unfolding state_of
not_open views round on h = by_quorum (is_quorum (holds round.tally.votes) round.tally.views) (subst (λ (vs : List (List ℕ)). is_quorum (holds round.tally.votes) vs ≡ true) (sym on) h) (has_every (holds round.tally.votes) round.tally.views)
  where
    by_quorum : (q : Bool) → q ≡ true → (every : Bool) → (if q then (if every then AllAnswered else Met) else Open) ≡ Open → ⊥
    by_quorum true h true e = absurd cc
    by_quorum true h false e = absurd cc
    by_quorum false h every e = false≢true h

pub made : (from : ℕ) (round : Round) (l : Leader) → CountsVotes l.fact.views round → MakesQuorum from round l → state_of (heard_from from round) ≡ Open → ⊥
made from round l counts makes =
    not_open l.fact.views (heard_from from round) (heard_counts l.fact.views round from counts).on
    (quorum_of_members (λ p. p == from || holds round.tally.votes p) (holds (heard_from from round).tally.votes) l.fact.views (λ p is h. answered_votes l.fact.views round from p counts makes.0 is ∙ h) makes.1)

pub alone : (l : Leader) → IsQuorumAlone l → state_of (begun l.fact.views l.me) ≡ Open → ⊥
alone l is =
    not_open l.fact.views (begun l.fact.views l.me) (begun_counts l.fact.views l.me).on
    (quorum_of_members (λ p. p == l.me) (holds (begun l.fact.views l.me).tally.votes) l.fact.views (λ p member h. begun_votes l.fact.views l.me p is.0 member ∙ h) is.1)

-- ## Answers

pub is_answered : (w : Waiting) (reply : Reply) (key : List ℕ) (o : LeadOut) (l : Leader) → o.answers ≡ [] → o.keys ≡ [] → IsAnswered w reply o.notes key l (answered w reply key o l)
unfolding ended rested
is_answered w reply key o l silent none = record {
  answers = ap (λ (answers : List AnswerOut). answers ++ record { caller = w.from; id = w.id; reply = reply } ∷ []) silent;
  noted = refl;
  calls = refl;
  idle = stage_here key stages.Idle l.table.rows;
  next = refl;
  keys = ap (λ (ks : List (List ℕ)). ks ++ key ∷ []) none;
}

-- ## Rounds of checking

going_on : (key : List ℕ) (l : Leader) (w : Waiting) (state : RoundState) (round : ℕ) (votes : Round) (reply : Reply) → (state ≡ Open → ⊥) → IsAnswered w reply (Read w.id key (base key l) ∷ []) key l (goes_on_checking state round votes reply w key l)
going_on key l w Open round votes reply closed = absurd (closed refl)
going_on key l w Met round votes reply closed = is_answered w reply key (and_note (Read w.id key (base key l)) rests) l refl refl
going_on key l w AllAnswered round votes reply closed = is_answered w reply key (and_note (Read w.id key (base key l)) rests) l refl refl

pub epoch_itself : (e : Epoch) → is_same e e ≡ true
epoch_itself e = grind (arith, nat_tests)

pub counted : (round : ℕ) (l : Leader) → counts l.fact.epoch round round l ≡ true
counted round l = ap (λ (b : Bool). b && round == round) (epoch_itself l.fact.epoch) ∙ itself round

pub check_replied : (from round : ℕ) (votes : Round) (reply : Reply) (key : List ℕ) (w : Waiting) (l : Leader) → IsWhole l → running key l.table.calls ≡ Some w → (row_at key l.table.rows).stage ≡ stages.Checking round votes reply
    → MakesQuorum from votes l → IsAnswered w reply (Read w.id key (base key l) ∷ []) key l (row_33_reply from l.fact.epoch round l)
check_replied from round votes reply key w l whole runs stage makes =
    subst (λ (found : Option (List ℕ)). IsAnswered w reply (Read w.id key (base key l) ∷ []) key l (stood_at found from l.fact.epoch round l)) (sym (whole.index.found key round (ap check_round stage)))
    (subst (λ (call : Option Waiting). IsAnswered w reply (Read w.id key (base key l) ∷ []) key l (stood call (row_at key l.table.rows).stage from l.fact.epoch round key l)) (sym runs)
    (subst (λ (s : Stage). IsAnswered w reply (Read w.id key (base key l) ∷ []) key l (stood (Some w) s from l.fact.epoch round key l)) (sym stage)
    (subst (λ (b : Bool). IsAnswered w reply (Read w.id key (base key l) ∷ []) key l (if b then goes_on_checking (state_of (heard_from from votes)) round (heard_from from votes) reply w key l else idle l)) (sym (counted round l))
    (going_on key l w (state_of (heard_from from votes)) round (heard_from from votes) reply (made from votes l own makes)))))
  where
    own : CountsVotes l.fact.views votes
    own = (subst (IsStage l.fact.views) stage (whole.stages key)).0

at_once : (key : List ℕ) (l m : Leader) (w : Waiting) (reply : Reply) (o : LeadOut) → o.answers ≡ [] → o.keys ≡ [] → o.notes ≡ [] → m.table ≡ l.table → IsAnswered w reply (Read w.id key (base key l) ∷ []) key l (read_answered w reply key o m)
at_once key l m w reply o silent none unnoted same = record {
  answers = is.answers;
  noted = is.noted ∙ ap (λ (ns : List Note). ns ++ Read w.id key (base key m) ∷ []) unnoted ∙ ap (λ (t : CallTable). Read w.id key (base_of (row_at key t.rows).known) ∷ []) same;
  calls = is.calls ∙ ap (λ (t : CallTable). without_running key t.calls) same;
  idle = is.idle;
  next = is.next;
  keys = is.keys;
}
  where
    is : IsAnswered w reply (and_note (Read w.id key (base key m)) o).notes key m (read_answered w reply key o m)
    is = is_answered w reply key (and_note (Read w.id key (base key m)) o) m silent none

beginning : (key : List ℕ) (l m : Leader) (w : Waiting) (state : RoundState) (votes : Round) (reply : Reply) (o : LeadOut) → (state ≡ Open → ⊥) → o.answers ≡ [] → o.keys ≡ [] → o.notes ≡ [] → m.table ≡ l.table
    → IsAnswered w reply (Read w.id key (base key l) ∷ []) key l (begins_check state votes reply w key o m)
beginning key l m w Open votes reply o closed silent none unnoted same = absurd (closed refl)
beginning key l m w Met votes reply o closed silent none unnoted same = at_once key l m w reply o silent none unnoted same
beginning key l m w AllAnswered votes reply o closed silent none unnoted same = at_once key l m w reply o silent none unnoted same

pub check_alone : (reply : Reply) (key : List ℕ) (w : Waiting) (l : Leader) → running key l.table.calls ≡ Some w → l.task ≡ tasks.Check reply → is_spent l.round ≡ false
    → IsQuorumAlone l → IsAnswered w reply (Read w.id key (base key l) ∷ []) key l (row_33 key l)
check_alone reply key w l runs task left is =
    subst (λ (call : Option Waiting). IsAnswered w reply (Read w.id key (base key l) ∷ []) key l (checked_for call l.task key (with_task tasks.Nothing l))) (sym runs)
    (subst (λ (t : Pending). IsAnswered w reply (Read w.id key (base key l) ∷ []) key l (checked_for (Some w) t key (with_task tasks.Nothing l))) (sym task)
    (subst (λ (b : Bool). IsAnswered w reply (Read w.id key (base key l) ∷ []) key l (if b then (with_task tasks.Nothing l, leaves) else check_now reply w key (record (with_task tasks.Nothing l) { round = l.round + 1 }))) (sym left)
    (beginning key l (record (with_task tasks.Nothing l) { round = l.round + 1 }) w (state_of (begun l.fact.views l.me)) (begun l.fact.views l.me) reply (tells_all l.me l.fact.views (messages.Check l.fact.epoch (l.round + 1)) rests) (alone l is) refl refl refl refl)))

-- ## Puts

known_still : (key : List ℕ) (stage : Stage) (rows : Rows) → (row_at key (with_stage key stage rows)).known ≡ (row_at key rows).known
unfolding with_stage
known_still key stage rows = ap (λ (row : KeyRow). row.known) (row_here key (record (row_at key rows) { stage = stage }) rows)

-- the leader that knows the object
abbrev pub with_object : Object → List ℕ → List ℕ → Leader → Leader
with_object o digest key l = knows key (settled_as o.version o digest) l

abbrev pub notes_settled : Object → List ℕ → LeadOut → LeadOut
notes_settled o key out = and_note (Settled key o.version) out

ended_known : (key : List ℕ) (l : Leader) → (row_at key (ended key l.table).rows).known ≡ (row_at key l.table.rows).known
unfolding ended rested
ended_known key l = known_still key stages.Idle l.table.rows

pub settled_by : (o : Object) (digest : List ℕ) (rewrite : Bool) (key : List ℕ) (out : LeadOut) (l : Leader) → out.notes ≡ [] → IsSettled o digest key (settled_for rewrite o key (notes_settled o key out) (with_object o digest key l))
settled_by o digest true key out l unnoted = record {
  noted = ap (λ (ns : List Note). ns ++ Settled key o.version ∷ []) unnoted;
  known = known_still key stages.Idle (with_object o digest key l).table.rows ∙ known_here key (settled_as o.version o digest) l.table.rows;
}
settled_by o digest false key out l unnoted = by_call (running key l.table.calls)
  where
    by_call : (call : Option Waiting) → IsSettled o digest key (write_settled call o key (notes_settled o key out) (with_object o digest key l))
    by_call None = record { noted = ap (λ (ns : List Note). ns ++ Settled key o.version ∷ []) unnoted; known = known_here key (settled_as o.version o digest) l.table.rows }
    by_call (Some w) = record {
      noted = ap (λ (ns : List Note). ns ++ Settled key o.version ∷ []) unnoted;
      known = ended_known key (with_object o digest key l) ∙ known_here key (settled_as o.version o digest) l.table.rows;
    }

-- what holds of a put that settles holds of one that is not open any more
settling : (P : Leader × LeadOut → Type 0) (state : RoundState) (o : Object) (digest : List ℕ) (acks : Round) (rewrite : Bool) (key : List ℕ) (out : LeadOut) (l : Leader) → (state ≡ Open → ⊥)
    → P (settled_for rewrite o key (notes_settled o key out) (with_object o digest key l)) → P (acknowledged state o digest acks rewrite key out l)
settling P Open o digest acks rewrite key out l closed h = absurd (closed refl)
settling P Met o digest acks rewrite key out l closed h = h
settling P AllAnswered o digest acks rewrite key out l closed h = h

matched : (o : Object) (l : Leader) → (is_same l.fact.epoch l.fact.epoch && same_version o.version o.version) ≡ true
matched o l = ap (λ (b : Bool). b && same_version o.version o.version) (epoch_itself l.fact.epoch) ∙ version_itself o.version

pub put_replied : (P : Leader × LeadOut → Type 0) (from : ℕ) (o : Object) (digest : List ℕ) (acks : Round) (rewrite : Bool) (key : List ℕ) (l : Leader) → IsWhole l → (row_at key l.table.rows).stage ≡ stages.Putting o digest acks rewrite
    → MakesQuorum from acks l → P (settled_for rewrite o key (notes_settled o key rests) (with_object o digest key l)) → P (row_35_reply from l.fact.epoch key o.version l)
put_replied P from o digest acks rewrite key l whole stage makes h =
    subst (λ (s : Stage). P (acknowledged_by s from l.fact.epoch o.version key l)) (sym stage)
    (subst (λ (b : Bool). P (if b then acknowledged (state_of (heard_from from acks)) o digest (heard_from from acks) rewrite key rests l else idle l)) (sym (matched o l))
    (settling P (state_of (heard_from from acks)) o digest (heard_from from acks) rewrite key rests l (made from acks l (subst (IsStage l.fact.views) stage (whole.stages key)) makes) h))

pub put_alone : (P : Leader × LeadOut → Type 0) (o : Object) (digest : List ℕ) (parent : Option Version) (call : Option ℕ) (key : List ℕ) (l : Leader) → l.task ≡ tasks.Propose o parent call → IsQuorumAlone l
    → P (settled_for (is_none call) o key (notes_settled o key (tells_all l.me l.fact.views (messages.Put l.fact.epoch o) rests)) (with_object o digest key (with_task tasks.Nothing l))) → P (row_35 key (seens.Stored digest) l)
put_alone P o digest parent call key l task is h =
    subst (λ (t : Pending). P (put_for t (seens.Stored digest) key (with_task tasks.Nothing l))) (sym task)
    (settling P (state_of (begun l.fact.views l.me)) o digest (begun l.fact.views l.me) (is_none call) key (tells_all l.me l.fact.views (messages.Put l.fact.epoch o) rests) (with_task tasks.Nothing l) (alone l is) h)

-- a settled write is answered
pub write_answered : (w : Waiting) (o : Object) (digest key : List ℕ) (out : LeadOut) (l m : Leader) → running key l.table.calls ≡ Some w → m.table ≡ l.table → out.answers ≡ [] → out.keys ≡ [] → out.notes ≡ []
    → IsAnswered w (replies.Ok o.stamp) (Settled key o.version ∷ []) key l (settled_for false o key (notes_settled o key out) (with_object o digest key m))
write_answered w o digest key out l m runs same silent none unnoted =
    subst (λ (call : Option Waiting). IsAnswered w (replies.Ok o.stamp) (Settled key o.version ∷ []) key l (write_settled call o key (notes_settled o key out) (with_object o digest key m))) (sym (ap (λ (t : CallTable). running key t.calls) same ∙ runs))
    (record { answers = is.answers; noted = ap (λ (ns : List Note). ns ++ Settled key o.version ∷ []) unnoted; calls = is.calls ∙ ap (λ (t : CallTable). without_running key t.calls) same; idle = is.idle; next = is.next; keys = is.keys })
  where
    is : IsAnswered w (replies.Ok o.stamp) (notes_settled o key out).notes key (with_object o digest key m) (answered w (replies.Ok o.stamp) key (notes_settled o key out) (with_object o digest key m))
    is = is_answered w (replies.Ok o.stamp) key (notes_settled o key out) (with_object o digest key m) silent none

pub to_apply : (o : Object) (key : List ℕ) (out : LeadOut) (l : Leader) → out.keys ≡ [] → IsToApply o key (settled_for true o key out l)
to_apply o key out l none = record { task = refl; next = refl; keys = ap (λ (ks : List (List ℕ)). ks ++ key ∷ []) none }

-- ## Rule 34

pub command_answered : (current : Option Object) (reply : Reply) (key : List ℕ) (w : Waiting) (l : Leader) → running key l.table.calls ≡ Some w → l.task ≡ tasks.Apply current → outcome w.command (register_at current) ≡ Keeps reply
    → IsAnswered w reply (Read w.id key (base key l) ∷ []) key l (row_34 key l)
command_answered current reply key w l runs task o =
    subst (λ (call : Option Waiting). IsAnswered w reply (Read w.id key (base key l) ∷ []) key l (applied_for call l.task key (with_task tasks.Nothing l))) (sym runs)
    (subst (λ (t : Pending). IsAnswered w reply (Read w.id key (base key l) ∷ []) key l (applied_for (Some w) t key (with_task tasks.Nothing l))) (sym task)
    (subst (λ (out : Outcome). IsAnswered w reply (Read w.id key (base key l) ∷ []) key l (concluded (verdict_of out) w key (with_task tasks.Nothing l))) (sym o)
    (at_once key l (with_task tasks.Nothing l) w reply rests refl refl refl refl)))

pub command_written : (current : Option Object) (content : Option (List ℕ)) (key : List ℕ) (w : Waiting) (l : Leader) → running key l.table.calls ≡ Some w → l.task ≡ tasks.Apply current → outcome w.command (register_at current) ≡ Writes content
    → row_34 key l ≡ (with_task (tasks.Write content (base key l)) l, leads_on key_rules.Write key)
command_written current content key w l runs task o =
    ap (λ (call : Option Waiting). applied_for call l.task key (with_task tasks.Nothing l)) runs
    ∙ ap (λ (t : Pending). applied_for (Some w) t key (with_task tasks.Nothing l)) task
    ∙ ap (λ (out : Outcome). concluded (verdict_of out) w key (with_task tasks.Nothing l)) o
