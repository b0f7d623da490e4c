-- Which rows name no rule that needs a peer without calls, and what the rows of phases leave.
use Rattle.std.proofs.Common.{◌≡◌, ◌==◌, ◌&&◌, refl, sym, ap, not, ℕ, Bool, true, false, if◌then◌else◌, List, [], ◌∙◌, Option, Some, None}
use Rattle.call_table.specs.Calls.{has_calls}
use Rattle.phase_rules.specs.Ballots.{row_11, row_15}
use Rattle.phase_rules.specs.Preparing.{row_10, row_12, row_13}
use Rattle.phase_rules.specs.Starting.{row_14, row_17}
use Rattle.phase_rules.specs.declared.election.Election.{Election}
use Rattle.phase_rules.specs.declared.election.Election.TheVariants.{Preparing, Starting}
use Rattle.ens_base.specs.Epochs.{same_version}
use Rattle.ens_base.specs.declared.entry.Entry.{Entry}
use Rattle.ens_base.specs.declared.epoch.Epoch.{Epoch}
use Rattle.stored_formats.specs.declared.object.Object.{Object}
use Rattle.tree_exchange.specs.declared.question.Question.{Question}
use Rattle.phase_rules.specs.Announcements.{row_16, row_18, row_19, takes, commits}
use Rattle.phase_rules.specs.Refusals.{refusal, unless_refused}
use Rattle.phase_rules.specs.Requests.{row_20, row_21, row_22, row_23, gets, puts, puts_at, is_version_below, gives_read, is_damaged}
use Rattle.quorums.specs.Quorums.{is_member}
use Rattle.leader.specs.declared.leader.Leader.{Leader}
use Rattle.leader.proofs.Cases.{either}
use Rattle.leader_laws.proofs.Idle.{no_calls}
use Rattle.stored_formats.specs.Facts.{views_after}
use Rattle.stored_formats.specs.declared.fact.Change.{Change}
use Rattle.stored_formats.specs.declared.fact.Change.TheVariants.{Add}
use Rattle.stored_formats.specs.declared.fact.Fact.{Fact}
use Rattle.peer_spec.specs.Drives.{after_put}
use Rattle.peer_state.proofs.Names.{NamesNone, then_changed}
use Rattle.peer_state.proofs.Phases.{by_probing, by_electing, by_leading}
use Rattle.peer_state.specs.Moves.{stopped_leading, without_candidacy, left, leading, electing, probing, stood, waiting_phase, waiting_for}
use Rattle.peer_state.specs.Rows.{lifted, begun, prepared, runs_sync, aged, aged_election, phase_row, received, asked_change, wanting, begun_change, finishing, ended, accepted_by, leader_heard, leads, changes}
use Rattle.peer_state.specs.declared.state.ChangeState.{ChangeState}
use Rattle.peer_state.specs.declared.state.ChangeState.TheVariants.{Settled, Wanted, Finishing as Finishes}
use Rattle.peer_state.specs.declared.state.Leadership.{Leadership}
use Rattle.peer_state.specs.declared.state.Phase.{Phase}
use Rattle.peer_state.specs.declared.state.Phase.TheVariants as phases
use Rattle.peer_state.specs.declared.state.State.{State}
use Rattle.phase_rows.specs.Orders.{is_below, is_same, may_accept}
use Rattle.phase_rows.specs.declared.phase.PhaseOut.{PhaseOut}
use Rattle.phase_rows.specs.declared.phase.Seen.{Seen}
use Rattle.phase_rows.specs.declared.phase.Seen.TheVariants as seens
use Rattle.phase_rows.specs.declared.phase.Then.{Then}
use Rattle.phase_rows.specs.declared.phase.Then.TheVariants as thens
use Rattle.phase_rows.specs.declared.rules.PhaseRule.{PhaseRule}
use Rattle.phase_rows.specs.declared.rules.PhaseRule.TheVariants as phase_rules
use Rattle.phase_rows.specs.Rows.{silent}
use Rattle.phase_rules.specs.Probing.{row_8, row_8_probe, row_9}
use Rattle.tree_node.specs.declared.body.TreeBody.{TreeBody}
use Rattle.phase_rules.specs.Changes.{may_change, row_24, row_25}
use Rattle.phase_rules.specs.Finishing.{may_end}
use Rattle.phase_rules.specs.declared.finishing.Finishing.{Finishing}
use Rattle.wire_frames.specs.declared.message.Message.{Message}
use Rattle.wire_frames.specs.declared.message.Message.TheVariants as messages
use Rattle.wire_frames.specs.declared.message.NackCause.{NackCause}
use Rattle.wire_frames.specs.declared.message.NackCause.TheVariants as causes
use Rattle.step_laws.specs.Reached.{unanswered}

-- ## Rules that need a peer without calls

-- the two rules by which a peer probes or stands for election answer no call, so they run where none waits
abbrev pub Needs : PhaseRule → Phase → Type 0
Needs phase_rules.BeginProbing phase = unanswered phase ≡ []
Needs phase_rules.Prepare phase = unanswered phase ≡ []
Needs phase_rules.EnoughHeard phase = Unit {0}
Needs phase_rules.EnoughPromised phase = Unit {0}
Needs phase_rules.EnoughAccepted phase = Unit {0}
Needs phase_rules.BeginChange phase = Unit {0}
Needs phase_rules.EndEpoch phase = Unit {0}

-- the rule that is named may run in this phase
abbrev pub NamesFit : Then → Phase → Type 0
NamesFit (thens.Rule n) phase = Needs n phase
NamesFit other phase = Unit {0}

-- neither of the two rules is named
abbrev pub IsSafe : Then → Type 0
IsSafe (thens.Rule n) = (phase : Phase) → Needs n phase
IsSafe other = Unit {0}

pub safe_fits : (t : Then) (phase : Phase) → IsSafe t → NamesFit t phase
safe_fits (thens.Rule n) phase safe = safe phase
safe_fits (thens.OnKeys n) phase safe = tt
safe_fits thens.Stay phase safe = tt
safe_fits thens.Follow phase safe = tt
safe_fits (thens.Lead fact) phase safe = tt
safe_fits thens.Untrust phase safe = tt
safe_fits thens.Put phase safe = tt
safe_fits thens.Resume phase safe = tt
safe_fits (thens.SyncOn fact) phase safe = tt

none_needs : (n : PhaseRule) (phase : Phase) → unanswered phase ≡ [] → Needs n phase
none_needs phase_rules.BeginProbing phase none = none
none_needs phase_rules.Prepare phase none = none
none_needs phase_rules.EnoughHeard phase none = tt
none_needs phase_rules.EnoughPromised phase none = tt
none_needs phase_rules.EnoughAccepted phase none = tt
none_needs phase_rules.BeginChange phase none = tt
none_needs phase_rules.EndEpoch phase none = tt

-- where no call waits, each rule may run
none_fits : (t : Then) (phase : Phase) → unanswered phase ≡ [] → NamesFit t phase
none_fits (thens.Rule n) phase none = none_needs n phase none
none_fits (thens.OnKeys n) phase none = tt
none_fits thens.Stay phase none = tt
none_fits thens.Follow phase none = tt
none_fits (thens.Lead fact) phase none = tt
none_fits thens.Untrust phase none = tt
none_fits thens.Put phase none = tt
none_fits thens.Resume phase none = tt
none_fits (thens.SyncOn fact) phase none = tt

safe_none : (t : Then) → NamesNone t → IsSafe t
safe_none (thens.Rule n) none = absurd none
safe_none (thens.OnKeys n) none = tt
safe_none thens.Stay none = tt
safe_none thens.Follow none = tt
safe_none (thens.Lead fact) none = tt
safe_none thens.Untrust none = tt
safe_none thens.Put none = tt
safe_none thens.Resume none = tt
safe_none (thens.SyncOn fact) none = absurd none

-- ## The rows of messages name neither

abbrev pub SafeRow : PhaseOut → Type 0
SafeRow row = IsSafe row.then

safe_11 : (fact : Fact) (from : ℕ) (ballot : Epoch) → SafeRow (row_11 fact from ballot)
safe_11 fact from ballot = either SafeRow (is_below fact.ballot ballot) _ _ tt (either SafeRow (is_same ballot fact.ballot) _ _ tt tt)

safe_15 : (fact : Fact) (ballot : Epoch) (cause : NackCause) → SafeRow (row_15 fact ballot cause)
safe_15 fact ballot (causes.Greater other) = either SafeRow (is_same ballot fact.ballot && is_below ballot other) _ _ tt tt
safe_15 fact ballot causes.Untrusted = tt
safe_15 fact ballot (causes.Damaged at) = tt

safe_takes : (fact : Fact) (me : ℕ) (trusted runs : Bool) (from : ℕ) (new : Fact) → SafeRow (takes fact me trusted runs from new)
safe_takes fact me trusted runs from new =
    either SafeRow (may_accept trusted me new) _ _ tt (either SafeRow (is_below fact.ballot new.epoch) _ _ tt (either IsSafe runs thens.Resume (thens.SyncOn new) tt tt))

safe_16 : (fact : Fact) (me : ℕ) (trusted runs : Bool) (from : ℕ) (new : Fact) → SafeRow (row_16 fact me trusted runs from new)
safe_16 fact me trusted runs from new = either SafeRow (is_below new.epoch fact.ballot) _ _ tt (either SafeRow (is_same new.epoch fact.epoch) _ _ tt (safe_takes fact me trusted runs from new))

safe_unless : (fact : Fact) (trusted : Bool) (from : ℕ) (ballot : Epoch) (answer : PhaseOut) → SafeRow answer → SafeRow (unless_refused (refusal fact trusted from ballot) answer)
safe_unless fact trusted from ballot answer safe =
    let P : Option PhaseOut → Type 0 = λ o. SafeRow (unless_refused o answer) in
    either P (is_below ballot fact.ballot) _ _ tt (either P (not (is_same fact.epoch ballot)) _ _ tt (either P (not trusted) _ _ tt safe))

safe_18 : (fact : Fact) (trusted : Bool) (from : ℕ) (commit : Fact) → SafeRow (row_18 fact trusted from commit)
safe_18 fact trusted from commit = safe_unless fact trusted from commit.epoch (commits fact from commit) (either SafeRow (fact.seq == 1) _ _ tt tt)

safe_19 : (fact : Fact) (trusted : Bool) (from : ℕ) (ballot : Epoch) → SafeRow (row_19 fact trusted from ballot)
safe_19 fact trusted from ballot = either SafeRow (is_below ballot fact.ballot) _ _ tt (either IsSafe (is_same fact.epoch ballot && trusted) thens.Follow thens.Stay tt tt)

safe_20 : (fact : Fact) (from : ℕ) (ballot : Epoch) (round : ℕ) → SafeRow (row_20 fact from ballot round)
safe_20 fact from ballot round = either SafeRow (is_below ballot fact.ballot) _ _ tt (either SafeRow (is_same ballot fact.ballot) _ _ tt tt)

safe_gets : (from : ℕ) (ballot : Epoch) (round : ℕ) (key : List ℕ) (seen : Seen) → SafeRow (gets from ballot round key seen)
safe_gets from ballot round key seens.Nothing = tt
safe_gets from ballot round key (seens.Damaged at) = tt
safe_gets from ballot round key (seens.Held entry object) = tt
safe_gets from ballot round key (seens.Kept object) = tt
safe_gets from ballot round key (seens.Stored digest) = tt

pub safe_21 : (fact : Fact) (trusted : Bool) (from : ℕ) (ballot : Epoch) (round : ℕ) (key : List ℕ) (seen : Seen) → SafeRow (row_21 fact trusted from ballot round key seen)
safe_21 fact trusted from ballot round key seen = safe_unless fact trusted from ballot (gets from ballot round key seen) (safe_gets from ballot round key seen)

safe_puts_at : (from : ℕ) (ballot : Epoch) (o : Object) (entry : Option Entry) → SafeRow (puts_at from ballot o entry)
safe_puts_at from ballot o None = tt
safe_puts_at from ballot o (Some entry) = either SafeRow (same_version entry.version o.version) _ _ tt (either SafeRow (is_version_below o.version entry.version) _ _ tt tt)

safe_puts : (from : ℕ) (ballot : Epoch) (o : Object) (seen : Seen) → SafeRow (puts from ballot o seen)
safe_puts from ballot o seens.Nothing = tt
safe_puts from ballot o (seens.Damaged at) = tt
safe_puts from ballot o (seens.Held entry object) = safe_puts_at from ballot o entry
safe_puts from ballot o (seens.Kept object) = tt
safe_puts from ballot o (seens.Stored digest) = tt

pub safe_22 : (fact : Fact) (trusted : Bool) (from : ℕ) (ballot : Epoch) (o : Object) (seen : Seen) → SafeRow (row_22 fact trusted from ballot o seen)
safe_22 fact trusted from ballot o seen = safe_unless fact trusted from ballot (puts from ballot o seen) (safe_puts from ballot o seen)

pub safe_after_put : (from : ℕ) (ballot : Epoch) (row : PhaseOut) (seen : Seen) → SafeRow row → SafeRow (after_put from ballot row seen)
safe_after_put from ballot row (seens.Damaged at) safe = tt
safe_after_put from ballot row seens.Nothing safe = safe
safe_after_put from ballot row (seens.Held entry object) safe = safe
safe_after_put from ballot row (seens.Kept object) safe = safe
safe_after_put from ballot row (seens.Stored digest) safe = safe

safe_read : (trusted : Bool) (from : ℕ) (ballot : Epoch) (q : Question) (body : Option TreeBody) → SafeRow (gives_read trusted from ballot q.position q.after body)
safe_read trusted from ballot q None = tt
safe_read trusted from ballot q (Some body) = either SafeRow (is_damaged body) _ _ tt tt

pub safe_23 : (fact : Fact) (trusted : Bool) (from : ℕ) (ballot : Epoch) (q : Question) (body : Option TreeBody) → SafeRow (row_23 fact trusted from ballot q.position q.after body)
safe_23 fact trusted from ballot q body = either SafeRow (is_below ballot fact.ballot) _ _ tt (either SafeRow (is_same ballot fact.ballot) _ _ (safe_read trusted from ballot q body) tt)

safe_24 : (fact : Fact) (leading finishing : Bool) (view : List ℕ) → SafeRow (row_24 fact leading finishing view).0
safe_24 fact leading finishing view = either (λ (r : PhaseOut × Bool). SafeRow r.0) (may_change fact leading finishing view) _ _ (λ phase. tt) tt

-- ## What the rows of phases leave

pub stopped_none : (phase : Phase) → unanswered (stopped_leading phase) ≡ []
stopped_none (phases.Leading l) = refl
stopped_none (phases.Following f) = refl
stopped_none (phases.Probing p) = refl
stopped_none (phases.Electing e) = refl

given_up_none : (e : Election) → unanswered (without_candidacy (phases.Electing e)) ≡ []
given_up_none (Starting new accepts age) = refl
given_up_none (Preparing base promises sent age) = refl

pub untrusted_none : (phase : Phase) → unanswered (without_candidacy (stopped_leading phase)) ≡ []
untrusted_none (phases.Leading l) = refl
untrusted_none (phases.Following f) = refl
untrusted_none (phases.Probing p) = refl
untrusted_none (phases.Electing e) = given_up_none e

left_none : (leave : Bool) (x : State) → unanswered x.phase ≡ [] → unanswered (left leave x).phase ≡ []
left_none true x none = stopped_none x.phase
left_none false x none = none

-- the calls are those from before
abbrev pub Same : State → State × PhaseOut → Type 0
Same x r = unanswered r.0.phase ≡ unanswered x.phase

-- the row keeps the calls, and the rule that it names may run
abbrev pub Fits : State → State × PhaseOut → Type 0
Fits x r = Same x r × NamesFit r.1.then (left r.1.leave r.0).phase

calm_fits : (x : State) (row : PhaseOut) → SafeRow row → Fits x (x, row)
calm_fits x row safe = (refl, safe_fits row.then (left row.leave x).phase safe)

-- a row in a phase that has no calls
idle_fits : (x : State) (r : State × PhaseOut) → unanswered x.phase ≡ [] → unanswered r.0.phase ≡ [] → Fits x r
idle_fits x r before after = (after ∙ sym before, none_fits r.1.then (left r.1.leave r.0).phase (left_none r.1.leave r.0 after))

waiting_same : (phase : Phase) → unanswered (waiting_phase phase) ≡ unanswered phase
waiting_same (phases.Leading l) = refl
waiting_same (phases.Following f) = refl
waiting_same (phases.Probing p) = refl
waiting_same (phases.Electing e) = refl

waits_same : (t : Then) (x : State) → unanswered (waiting_for t x).phase ≡ unanswered x.phase
waits_same (thens.SyncOn fact) x = waiting_same x.phase
waits_same thens.Resume x = waiting_same x.phase
waits_same thens.Stay x = refl
waits_same thens.Follow x = refl
waits_same (thens.Lead fact) x = refl
waits_same thens.Untrust x = refl
waits_same thens.Put x = refl
waits_same (thens.Rule n) x = refl
waits_same (thens.OnKeys n) x = refl

stood_none : (e : Option Election) (x : State) → unanswered x.phase ≡ [] → unanswered (stood e x).phase ≡ []
stood_none None x none = none
stood_none (Some e) x none = refl

finishing_same : (f : Option Finishing) (l : Leadership) → (finishing f l).leader.table.calls ≡ l.leader.table.calls
finishing_same None l = refl
finishing_same (Some f) l = refl

begun_same : (change : ChangeState) (l : Leadership) (fact : Fact) (me : ℕ) → (begun_change change l fact me).0.leader.table.calls ≡ l.leader.table.calls
begun_same (Wanted change) l fact me = finishing_same (row_25 fact me l.leader.accepts change).1 l
begun_same Settled l fact me = refl
begun_same (Finishes f) l fact me = refl

none_of : (a b : Bool) → (a && not b) ≡ true → b ≡ false
none_of true true is = absurd cc
none_of true false is = refl
none_of false b is = absurd cc

-- rule 26 ends an epoch only where no call waits
ended_fits : (change : ChangeState) (l : Leadership) (x : State) (me : ℕ) → x.phase ≡ phases.Leading l → NamesFit (ended change x.fact me (has_calls l.leader.table.calls)).then x.phase
ended_fits Settled l x me is = tt
ended_fits (Wanted change) l x me is = tt
ended_fits (Finishes f) l x me is = by (may_end f x.fact (has_calls l.leader.table.calls)) refl (is_member (views_after x.fact) me)
  where
    by : (t : Bool) → may_end f x.fact (has_calls l.leader.table.calls) ≡ t → (m : Bool) → NamesFit (if t then (if m then thens.Rule phase_rules.Prepare else thens.Follow) else thens.Stay) x.phase
    by true e true = ap unanswered is ∙ no_calls l.leader.table.calls (none_of _ (has_calls l.leader.table.calls) e)
    by true e false = tt
    by false e m = tt

-- the row of rule 26 itself leaves nothing
ended_stays : (change : ChangeState) (l : Leadership) (x : State) (me : ℕ) → x.phase ≡ phases.Leading l → NamesFit (ended change x.fact me (has_calls l.leader.table.calls)).then (left (ended change x.fact me (has_calls l.leader.table.calls)).leave x).phase
ended_stays Settled l x me is = ended_fits Settled l x me is
ended_stays (Wanted change) l x me is = ended_fits (Wanted change) l x me is
ended_stays (Finishes f) l x me is = ended_fits (Finishes f) l x me is

pub phase_row_fits : (rule : PhaseRule) (me : ℕ) (x : State) → Needs rule x.phase → Fits x (phase_row rule me x)
phase_row_fits phase_rules.BeginProbing me x none = idle_fits x (begun me x) none refl
phase_row_fits phase_rules.EnoughHeard me x need = by_probing (Fits x) x.phase (λ p is. idle_fits x (lifted probing (row_9 p) x) (ap unanswered is) refl) (calm_fits x (silent thens.Stay) tt)
phase_row_fits phase_rules.Prepare me x none =
    by_probing (Fits x) x.phase (λ p is. idle_fits x (prepared me p.best p.count x) none (stood_none (row_10 x.fact me p.best p.count).1 x none))
    (by_leading (Fits x) x.phase (λ l is. idle_fits x (prepared me x.fact x.fact.ballot.count x) none (stood_none (row_10 x.fact me x.fact x.fact.ballot.count).1 x none)) (calm_fits x (silent thens.Stay) tt))
phase_row_fits phase_rules.EnoughPromised me x need = by_electing (Fits x) x.phase (λ e is. idle_fits x (lifted electing (row_13 e x.fact me x.trusted) x) (ap unanswered is) refl) (calm_fits x (silent thens.Stay) tt)
phase_row_fits phase_rules.EnoughAccepted me x need = by_electing (Fits x) x.phase (λ e is. idle_fits x (lifted electing (row_14 e me) x) (ap unanswered is) refl) (calm_fits x (silent thens.Stay) tt)
phase_row_fits phase_rules.BeginChange me x need =
    by_leading (Fits x) x.phase
    (λ l is. (begun_same l.change l x.fact me ∙ sym (ap unanswered is), safe_fits (begun_change l.change l x.fact me).1.then _ (safe_none (begun_change l.change l x.fact me).1.then (then_changed l.change l x.fact me)))) (calm_fits x (silent thens.Stay) tt)
phase_row_fits phase_rules.EndEpoch me x need = by_leading (Fits x) x.phase (λ l is. (refl, ended_stays l.change l x me is)) (calm_fits x (silent thens.Stay) tt)

aged_election_fits : (e : Election) (me : ℕ) (x : State) → x.phase ≡ phases.Electing e → Fits x (aged_election e me x)
aged_election_fits (Preparing base promises sent age) me x is = idle_fits x (aged_election (Preparing base promises sent age) me x) (ap unanswered is) refl
aged_election_fits (Starting new accepts age) me x is = idle_fits x (aged_election (Starting new accepts age) me x) (ap unanswered is) refl

pub aged_fits : (phase : Phase) (me : ℕ) (x : State) → x.phase ≡ phase → Fits x (aged phase me x)
aged_fits (phases.Following f) me x is = idle_fits x (aged (phases.Following f) me x) (ap unanswered is) refl
aged_fits (phases.Probing p) me x is = idle_fits x (aged (phases.Probing p) me x) (ap unanswered is) refl
aged_fits (phases.Electing e) me x is = aged_election_fits e me x is
aged_fits (phases.Leading l) me x is = calm_fits x (silent thens.Stay) tt

heard_same : (from : ℕ) (ballot : Epoch) (seq : ℕ) (fact : Fact) (l : Leadership) → (leader_heard l fact from ballot seq).leader.table.calls ≡ l.leader.table.calls
heard_same from ballot seq fact l = either (λ (m : Leader). m.table.calls ≡ l.leader.table.calls) (is_same ballot fact.ballot && seq == 1) (accepted_by from l.leader) l.leader refl refl

pub received_fits : (me from : ℕ) (message : Message) (x : State) → Fits x (received me from message x)
received_fits me from messages.Probe x = calm_fits x (row_8_probe x.fact from) tt
received_fits me from (messages.ProbeReply fact) x = by_probing (Fits x) x.phase (λ p is. idle_fits x (lifted probing (row_8 p me from fact) x) (ap unanswered is) refl) (calm_fits x (silent thens.Stay) tt)
received_fits me from (messages.Prepare ballot) x = calm_fits x (row_11 x.fact from ballot) (safe_11 x.fact from ballot)
received_fits me from (messages.Promise ballot fact) x = by_electing (Fits x) x.phase (λ e is. idle_fits x (lifted electing (row_12 e x.fact me from ballot fact) x) (ap unanswered is) refl) (calm_fits x (silent thens.Stay) tt)
received_fits me from (messages.Nack ballot cause) x =
    by_electing (Fits x) x.phase (λ e is. calm_fits x (row_15 x.fact ballot cause) (safe_15 x.fact ballot cause)) (by_leading (Fits x) x.phase (λ l is. calm_fits x (row_15 x.fact ballot cause) (safe_15 x.fact ballot cause)) (calm_fits x (silent thens.Stay) tt))
received_fits me from (messages.NewEpoch fact) x =
    let row : PhaseOut = row_16 x.fact me x.trusted (runs_sync x.sync) from fact in
    (waits_same row.then x, safe_fits row.then (left row.leave (waiting_for row.then x)).phase (safe_16 x.fact me x.trusted (runs_sync x.sync) from fact))
received_fits me from (messages.Accepted ballot seq) x =
    by_electing (Fits x) x.phase (λ e is. idle_fits x (lifted electing (row_17 e x.fact from ballot seq) x) (ap unanswered is) refl)
    (by_leading (Fits x) x.phase (λ l is. (heard_same from ballot seq x.fact l ∙ sym (ap unanswered is), tt)) (calm_fits x (silent thens.Stay) tt))
received_fits me from (messages.Commit fact) x = calm_fits x (row_18 x.fact x.trusted from fact) (safe_18 x.fact x.trusted from fact)
received_fits me from (messages.Beat ballot) x = calm_fits x (row_19 x.fact x.trusted from ballot) (safe_19 x.fact x.trusted from ballot)
received_fits me from (messages.Check ballot round) x = calm_fits x (row_20 x.fact from ballot round) (safe_20 x.fact from ballot round)
received_fits me from other x = calm_fits x (silent thens.Stay) tt

wanting_same : (change : Change) (phase : Phase) (x : State) → x.phase ≡ phase → unanswered (wanting change phase x).phase ≡ unanswered x.phase
wanting_same change (phases.Leading l) x is = sym (ap unanswered is)
wanting_same change (phases.Following f) x is = refl
wanting_same change (phases.Probing p) x is = refl
wanting_same change (phases.Electing e) x is = refl

pub asked_fits : (view : List ℕ) (x : State) → Fits x ((asked_change view x).0, (asked_change view x).1.0)
asked_fits view x = (
  either (λ (y : State). unanswered y.phase ≡ unanswered x.phase) (row_24 x.fact (leads x.phase) (changes x.phase) view).1 _ _ (wanting_same (Add view) x.phase x refl) refl,
  safe_fits (asked_change view x).1.0.then (left (asked_change view x).1.0.leave (asked_change view x).0).phase (safe_24 x.fact (leads x.phase) (changes x.phase) view),
)
