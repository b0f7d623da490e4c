-- A whole step of a peer: each row is performed alike, and the tasks of a step run one after
-- another.
use Rattle.std.specs.Option.{is_some}
use Rattle.std.proofs.Common.{◌≡◌, ◌≤◌, ℕ, zero, suc, Bool, true, false, if◌then◌else◌, List, [], ◌∷◌, ◌++◌, Option, Some, None, arith, refl, ap, ◌∙◌, sym, subst}
use Rattle.std.specs.Prelude.{All}
use Rattle.std.proofs.lemmas.List.Elements.{All-nil, All-append, All-weaker}
use Rattle.std.proofs.lemmas.Option.{none-some, same_Some}
use Rattle.protocol_laws.specs.Ledger.{Ledger, join, is_established}
use Rattle.protocol_laws.specs.Numbers.{epoch_number}
use Rattle.phase_rules.specs.declared.election.Election.TheVariants.{Preparing, Starting}
use Rattle.ens_base.specs.Views.{last_view}
use Rattle.ens_base.specs.declared.entry.Entry.{Entry}
use Rattle.ens_base.specs.declared.epoch.Epoch.{Epoch}
use Rattle.stored_formats.specs.Objects.{object_spelling}
use Rattle.stored_formats.specs.declared.object.Object.{Object}
use Rattle.tree_exchange.specs.declared.question.Question.{Question}
use Rattle.phase_rules.specs.Refusals.{is_served}
use Rattle.phase_rules.specs.Requests.{row_21, row_22, row_23}
use Rattle.object_commands.specs.Kept.{entry_of, matching, object_in}
use Rattle.leader_output.specs.declared.out.LeadOut.{LeadOut}
use Rattle.leader_output.specs.declared.out.Outgoing.{Outgoing}
use Rattle.leader_output.specs.declared.out.Own.{Own}
use Rattle.leader_output.specs.declared.out.Own.TheVariants as owns
use Rattle.leader.specs.Puts.{row_35_reply}
use Rattle.leader.specs.Rounds.{row_29_reply, row_33_reply}
use Rattle.leader.specs.Rules.{lead_row}
use Rattle.leader.specs.Starts.{row_27}
use Rattle.leader.specs.Ticks.{row_5_calls as calls_of_tick}
use Rattle.leader.specs.declared.leader.Leader.{Leader}
use Rattle.peer_spec.specs.Drives.{row_done, got_ask, in_tree, owned, followed_up, and_row, lead_done, lead, reminded, task_done, driven, most_turns, led_in, ticked, shown, after_put, put_done, delivered, unavailable, called, and_change, first, concluded, step_of}
use Rattle.peer_spec.specs.Syncs.{saved, sealed_if, and_sends, with_sync, installed, accepted, accepted_in, end_sync, by_outcome, go_on, start_sync, resume_sync, followed_on, reached, own_node, body_of, shown_node, needs_node, take_give, tree_give}
use Rattle.peer_state.specs.Leading.{begins, end_of, older, row_5_calls, ticks, wished}
use Rattle.peer_state.specs.Moves.{electing, keeps_seal, left, left_answers, and_answers, without_sync, leading, with_leader, turned, ends_leading, turned_answers}
use Rattle.peer_spec.specs.Owns.{digested, read, kept, fetched, held, looked_at, looked, found_at, found, stored, resealed, entered, written, confirmed}
use Rattle.peer_state.specs.Rows.{aged, asked_change, changes, leads, phase_row, received}
use Rattle.peer_spec.specs.Starts.{resumed, continued, is_whole, reseals, reseals_if, migrated, scanned, continued_in, opened, start_of}
use Rattle.peer_spec.specs.TreeCalls.{has_position}
use Rattle.peer_spec.proofs.Inside.{has_level}
use Rattle.peer_state.specs.declared.event.CallIn.{CallIn}
use Rattle.peer_state.specs.declared.event.Event.{Event}
use Rattle.peer_state.specs.declared.event.Event.TheVariants as events
use Rattle.peer_state.specs.declared.state.Leadership.{Leadership}
use Rattle.peer_state.specs.declared.state.Phase.{Phase}
use Rattle.peer_state.specs.declared.state.Phase.TheVariants as phases
use Rattle.peer_state.specs.declared.state.Mode.{Mode}
use Rattle.peer_state.specs.declared.state.State.{State}
use Rattle.stored_formats.specs.declared.fact.Fact.{Fact}
use Rattle.stored_formats.specs.declared.saved.SavedFact.{SavedFact}
use Rattle.phase_rows.specs.Orders.{is_same}
use Rattle.phase_rows.specs.Peers.{joined}
use Rattle.register_model.specs.declared.note.Note.{Note}
use Rattle.tree_sync.proofs.Keeping.{fact_stays}
use Rattle.tree_sync.proofs.Messages.{start_go, start_ask, resume_go, resume_ask, take_go, take_ask}
use Rattle.tree_sync.proofs.Others.{asks_are, resumed_are, taken_are}
use Rattle.tree_sync.specs.Rows.{row_start, row_resume, row_take}
use Rattle.tree_sync.specs.Running.{Running}
use Rattle.tree_sync.specs.declared.asking.Give.{Give}
use Rattle.step_plans.specs.Calls.{Call, Load, Save, Find, Enter, ReadNode, Fetch, Put, Hash, AnswerOf}
use Rattle.step_plans.specs.Plans.{Plan, Done, Say, Ask, Out, nothing, Part, Rest, asked, noted}
use Rattle.step_plans.specs.Sends.{posted_to}
use Rattle.step_plans.specs.Tasks.{named, keyed}
use Rattle.step_plans.specs.declared.tasks.Task.{Task}
use Rattle.step_plans.specs.declared.tasks.Task.TheVariants as tasks
use Rattle.step_plans.specs.declared.walked.Walked.{Walked}
use Rattle.step_plans.specs.declared.walked.Walked.TheVariants.{Reached, Broken}
use Rattle.step_plans.specs.Saved.{with_seal, bare}
use Rattle.tree_sync.specs.Syncs.{needs_build, outcome_of}
use Rattle.tree_sync.specs.declared.sync.Outcome.{Outcome}
use Rattle.tree_sync.specs.declared.sync.Outcome.TheVariants.{Pending, Trusted}
use Rattle.tree_node.specs.TreeVersions.{levels}
use Rattle.tree_node.specs.declared.body.Scan.{Scan}
use Rattle.tree_node.specs.declared.position.Position.{Position}
use Rattle.tree_node.specs.declared.version.TreeVersion.{TreeVersion}
use Rattle.tree_node.specs.declared.version.TreeVersion.TheVariants.{One, Two}
use Rattle.wire_frames.specs.declared.message.Message.{Message}
use Rattle.wire_frames.specs.declared.message.Message.TheVariants as messages
use Rattle.phase_rows.specs.declared.phase.PhaseOut.{PhaseOut}
use Rattle.phase_rows.specs.declared.phase.Seen.{Seen}
use Rattle.phase_rows.specs.declared.phase.Seen.TheVariants as seens
use Rattle.phase_rows.specs.declared.phase.Then.{Then}
use Rattle.phase_rows.specs.declared.phase.Then.TheVariants as thens
use Rattle.phase_rows.specs.declared.rules.PhaseRule.TheVariants as phase_rules
use Rattle.election_refinement.proofs.Calls.{IsOfCalls, AsksPeer, BeginsNothing, StillLeads, joined_stays, got_stays, stands_stays, put_heard_stays, lead_stays, tick_stays}
use Rattle.election_refinement.proofs.Changes.{rule_24, is_second, older_holds, wished_holds}
use Rattle.election_refinement.proofs.Keeps.{keeps_both, join_keeps, sends_keep}
use Rattle.election_refinement.specs.Keeps.{Keeps}
use Rattle.election_refinement.proofs.Reaching.{Course, Reaches}
use Rattle.election_refinement.proofs.Requests.{left_fits, turned_fits, IsHarmless, harmless_goes, row_21_harmless, row_22_harmless, row_23_harmless, after_put_harmless}
use Rattle.election_refinement.proofs.Rows.{saved_in, stored_in, made_way, settled, ThenHolds, Fits, Goes, enters, enters_alone}
use Rattle.election_refinement.proofs.Rules.{phase_goes, received_goes}
use Rattle.election_refinement.proofs.Saving.{own_accepted}
use Rattle.election_refinement.proofs.Sets.{posted_to_hold}
use Rattle.election_refinement.proofs.Syncing.{questions_hold, acceptance_holds, stands_at, end_sync_fits, counts_itself}
use Rattle.election_refinement.proofs.Tests.{by_test}
use Rattle.election_refinement.proofs.Ticks.{aged_goes, ticks_hold}
use Rattle.election_refinement.specs.Refinement.{IsKept, IsSaved, IsLeading, IsStarted, MessageHolds, PhaseHolds, may_wait, MaySync, IsSyncing, SyncHolds, SendHolds}

-- what an event asserts
abbrev pub EventHolds : Ledger → Event → Type 0
EventHolds l (events.Deliver from message) = MessageHolds l from message
EventHolds l events.Tick = Unit {0}
EventHolds l (events.Call call) = Unit {0}
EventHolds l (events.Change view) = Unit {0}

-- the answers to calls add no message
pub answers_send_nothing : (b : Bool) (x : State) (out : Out) → (left_answers b x out).sends ≡ out.sends
answers_send_nothing true x out = refl
answers_send_nothing false x out = refl

-- a call that leaves the fact
abbrev pub LeavesFact : Call → Type 0
LeavesFact Load = ⊥
LeavesFact (Save fact) = ⊥
LeavesFact call = Unit {0}

-- `before` is the ledger at the beginning of the step
module _ (c : Course) (before : Ledger) where
  open c use {peer as p}

  -- the peer, the fact that its stores keep, and what it sends agree with a ledger that the run
  -- reaches
  pub record Here (x : State) (stored : Option Fact) (out : Out) : Type 0 where
    pub ledger : Ledger
    pub keeps : Keeps before ledger p
    pub fits : Fits c ledger x stored
    pub sends : All (SendHolds ledger p) out.sends

  -- the peer is down, and the fact that its stores keep agrees with a ledger that the run reaches
  pub record Rests (stored : Option Fact) : Type 0 where
    pub ledger : Ledger
    pub keeps : Keeps before ledger p
    pub reaches : Reaches c ledger
    pub kept : IsKept ledger p stored

  -- At its end the plan leaves the peer in agreement with the run, whatever the tree and the backend
  -- return. A plan may end at a call that is refused: the stores then keep the old fact, or the new
  -- one of a save. With which seals they keep them does not matter.
  abbrev pub Good : Plan State → Option Fact → Type 0
  Good (Done x out) stored = Here x stored out
  Good (Say n plan) stored = Good plan stored
  Good (Ask Load next) stored = Rests stored × ((kept : Option SavedFact) → bare kept ≡ stored → Good (next kept) stored)
  Good (Ask (Save new) next) stored = Rests stored × (Rests (Some new.fact) × Good (next tt) (Some new.fact))
  Good (Ask call next) stored = Rests stored × ((answer : AnswerOf call) → Good (next answer) stored)

  rests : (x : State) (stored : Option Fact) (out : Out) → Here x stored out → Rests stored
  rests x stored out h = record { ledger = h.ledger; keeps = h.keeps; reaches = h.fits.reaches; kept = record { fact = x.fact; kept = h.fits.peer.kept; saved = h.fits.peer.saved } }

  -- the rest of a plan is good wherever the peer agrees with the run
  abbrev Onward : {A : Type 0} → Rest State A → Type 0
  Onward {A} next = (v : A) (x : State) (stored : Option Fact) (out : Out) → Here x stored out → Good (next v x out) stored

  -- the part of a plan is good, whatever follows
  abbrev Passes : {A : Type 0} → Part State A → Type 0
  Passes {A} part = (x : State) (stored : Option Fact) (out : Out) (next : Rest State A) → Here x stored out → Onward next → Good (part x out next) stored

  noted_good : (notes : List Note) (plan : Plan State) (stored : Option Fact) → Good plan stored → Good (noted notes plan) stored
  noted_good [] plan stored good = good
  noted_good (n ∷ notes) plan stored good = noted_good notes plan stored good

  -- a state that fits the same ledger, with no message less or more
  moved : (x y : State) (stored : Option Fact) (out more : Out) → (h : Here x stored out) → Fits c h.ledger y stored → more.sends ≡ out.sends → Here y stored more
  moved x y stored out more h fits same = record { ledger = h.ledger; keeps = h.keeps; fits = fits; sends = subst (All (SendHolds h.ledger p)) (sym same) h.sends }

  -- the fact is saved, if there is one
  saved_good : (save : Option Fact) (x : State) (stored : Option Fact) (out : Out) (next : Rest State (Unit {0}))
      → Rests stored → Rests (stored_in save stored) → Good (next tt (saved_in save x) out) (stored_in save stored) → Good (saved save x out next) stored
  unfolding asked
  saved_good None x stored out next old new good = good
  saved_good (Some fact) x stored out next old new good = (old, (new, good))

  -- with another seal the peer agrees with the same ledger
  abbrev anew : (x : State) (stored : Option Fact) (out : Out) (seal : Option (List ℕ)) → Here x stored out → Here (record x { seal = seal }) stored out
  anew x stored out seal h = record {
    ledger = h.ledger;
    keeps = h.keeps;
    fits = record { reaches = h.fits.reaches; peer = record { saved = h.fits.peer.saved; kept = h.fits.peer.kept; phase = h.fits.peer.phase; sync = h.fits.peer.sync } };
    sends = h.sends;
  }

  -- the fact is saved, with a new seal or with the old one
  sealed_good : (seals : Bool) (fact : Fact) (x : State) (stored : Option Fact) (out : Out) (next : Rest State (Unit {0})) → Rests stored
      → ((seal : Option (List ℕ)) → Rests (Some fact) × Good (next tt (record x { fact = fact; seal = seal }) out) (Some fact)) → Good (sealed_if seals fact x out next) stored
  unfolding asked
  sealed_good true fact x stored out next old goes = (old, λ root. (old, goes root))
  sealed_good false fact x stored out next old goes = (old, goes x.seal)

  -- a peer with a seal saves its own fact again
  resealed_good : (seals : Bool) → Passes (resealed seals)
  resealed_good true x stored out next h go = sealed_good true x.fact x stored out next (rests x stored out h) (λ seal. let here = kept_here seal in (rests (record x { seal = seal }) (Some x.fact) out here, go tt (record x { seal = seal }) (Some x.fact) out here))
    where
      kept_here : (seal : Option (List ℕ)) → Here (record x { seal = seal }) (Some x.fact) out
      kept_here seal = subst (λ (o : Option Fact). Here (record x { seal = seal }) o out) h.fits.peer.kept (anew x stored out seal h)
  resealed_good false x stored out next h go = go tt x stored out h

  -- ## Syncs

  -- no sync runs
  abbrev without : (x : State) (stored : Option Fact) (out : Out) → Here x stored out → Here (without_sync x) stored out
  without x stored out h = record { ledger = h.ledger; keeps = h.keeps; fits = enters_alone h.fits x.phase h.fits.peer.phase; sends = h.sends }

  -- a sync runs
  runs : (r : Running) (x : State) (stored : Option Fact) (out : Out) → (h : Here (without_sync x) stored out) → IsSyncing h.ledger p x.fact (may_wait x.phase) r → Here (with_sync r x) stored out
  runs r x stored out h syncing = record {
    ledger = h.ledger;
    keeps = h.keeps;
    fits = record { reaches = h.fits.reaches; peer = record { saved = h.fits.peer.saved; kept = h.fits.peer.kept; phase = h.fits.peer.phase; sync = syncing } };
    sends = h.sends;
  }

  -- more messages are sent
  abbrev tells : (x : State) (stored : Option Fact) (out : Out) (more : List Outgoing) → (h : Here x stored out) → All (SendHolds h.ledger p) more → Here x stored (and_sends out more)
  tells x stored out more h hold = record { ledger = h.ledger; keeps = h.keeps; fits = h.fits; sends = All-append (SendHolds h.ledger p) out.sends more h.sends hold }

  -- the tree is built anew, if that is needed
  installed_good : (builds : Bool) (entries : List Entry) (x : State) (stored : Option Fact) (out : Out) (next : Rest State (Unit {0})) → Rests stored → ((u : Unit {0}) → Good (next u x out) stored) → Good (installed builds entries x out next) stored
  unfolding asked
  installed_good true entries x stored out next old goes = (old, goes)
  installed_good false entries x stored out next old goes = goes tt

  -- a peer that accepted the epoch of its fact, and runs no sync
  accepted_good : (phase : Phase) (x : State) (stored : Option Fact) (out : Out) (next : Rest State (List Task)) → (h : Here (without_sync x) stored out) → PhaseHolds h.ledger p x.fact phase → x.fact.ballot ≡ x.fact.epoch → Onward next
      → Good (accepted_in p x.fact phase (without_sync x) out next) stored
  accepted_good (phases.Electing (Starting new accepts age)) x stored out next h old own_ballot go = go (tasks.Phase phase_rules.EnoughAccepted ∷ []) (electing (Starting new (joined p accepts) age) (without_sync x)) stored out (record {
    ledger = h.ledger;
    keeps = h.keeps;
    fits = enters_alone h.fits (phases.Electing (Starting new (joined p accepts) age)) (counts_itself h.ledger p x.fact new accepts own_ballot (own_accepted h.fits) old);
    sends = h.sends;
  })
  accepted_good (phases.Electing (Preparing base promises asked age)) x stored out next h old own_ballot go = go [] (without_sync x) stored out h
  accepted_good (phases.Following f) x stored out next h old own_ballot go =
      go [] (without_sync x) stored (and_sends out (accepted p x.fact)) (tells (without_sync x) stored out (accepted p x.fact) h (acceptance_holds h.ledger p x.fact (own_accepted h.fits)))
  accepted_good (phases.Probing b) x stored out next h old own_ballot go = go [] (without_sync x) stored out h
  accepted_good (phases.Leading l) x stored out next h old own_ballot go = go [] (without_sync x) stored out h

  -- syncs may end in the step
  module _ (joins : c.joins) where
    -- at the end of a sync the peer accepts the epoch that it promised
    end_sync_good : (r : Running) (entries : List Entry) (x : State) (stored : Option Fact) (out : Out) (next : Rest State (List Task)) → (h : Here (without_sync x) stored out) → MaySync h.ledger x.fact (may_wait x.phase) r.fact → Onward next
        → Good (end_sync p r entries x out next) stored
    end_sync_good r entries x stored out next h may go =
        installed_good (needs_build r.sync.scan entries) entries (without_sync x) stored out _ (rests (without_sync x) stored out h)
        (λ u. sealed_good (keeps_seal (without_sync x)) r.fact (without_sync x) stored out (λ v z o. accepted_in p r.fact z.phase (record z { trusted = true }) o next) (rests (without_sync x) stored out h)
        (λ seal. let here = anew (without_sync now) (Some r.fact) out seal there in
        (rests (record (without_sync now) { seal = seal }) (Some r.fact) out here, accepted_good x.phase (record now { seal = seal }) (Some r.fact) out next here here.fits.peer.phase may.first.own_ballot go)))
      where
        now : State
        now = record x { fact = r.fact; trusted = true }

        there : Here (without_sync now) (Some r.fact) out
        there =
            let k = join_keeps h.ledger p (epoch_number r.fact.epoch) (stands_at h.fits r.fact may) in
            let m = join h.ledger p (epoch_number r.fact.epoch) in
            record { ledger = m; keeps = keeps_both before h.ledger m p h.keeps k; fits = end_sync_fits h.fits r.fact may joins; sends = sends_keep h.ledger m p k p out.sends h.sends }

    ended_good : (r : Running) (outcome : Outcome) (x : State) (stored : Option Fact) (out : Out) (next : Rest State (List Task)) → (h : Here (without_sync x) stored out) → IsSyncing h.ledger p x.fact (may_wait x.phase) r → Onward next
        → Good (by_outcome p r outcome x out next) stored
    ended_good r Pending x stored out next h syncing go = go [] (with_sync r x) stored out (runs r x stored out h syncing)
    ended_good r (Trusted entries) x stored out next h syncing go = end_sync_good r entries x stored out next h syncing.may go

    go_on_good : (r : Running × List Outgoing) (x : State) (stored : Option Fact) (out : Out) (next : Rest State (List Task)) → (h : Here (without_sync x) stored out) → IsSyncing h.ledger p x.fact (may_wait x.phase) r.0 → All (SendHolds h.ledger p) r.1 → Onward next
        → Good (go_on p r x out next) stored
    go_on_good r x stored out next h syncing hold go = ended_good r.0 (outcome_of r.0.sync) x stored (and_sends out r.1) next (tells (without_sync x) stored out r.1 h hold) syncing go

    begun_good : (new : Fact) (x : State) (stored : Option Fact) (out : Out) (next : Rest State (List Task)) → (h : Here (without_sync x) stored out) → MaySync h.ledger x.fact (may_wait x.phase) new → Onward next → Good (start_sync p new x out next) stored
    unfolding asked
    begun_good new x stored out next h may go = (
      rests (without_sync x) stored out h,
      λ scan. go_on_good (row_start new p x.trusted scan) x stored out next h (record { may = may; asks = asks_are p (last_view new.views) })
          (questions_hold h.ledger p (row_start new p x.trusted scan).0 (row_start new p x.trusted scan).1 (start_go new p x.trusted scan) (start_ask new p x.trusted scan)) go,
    )

    resumed_good : (sync : Option Running) (x : State) (stored : Option Fact) (out : Out) (next : Rest State (List Task)) → (h : Here x stored out) → SyncHolds h.ledger p x.fact (may_wait x.phase) sync → Onward next → Good (resume_sync sync x out next) stored
    resumed_good None x stored out next h holds go = go [] x stored out h
    resumed_good (Some r) x stored out next h holds go =
        go [] (with_sync (row_resume r).0 x) stored (and_sends out (row_resume r).1)
        (runs (row_resume r).0 x stored (and_sends out (row_resume r).1)
        (tells (without_sync x) stored out (row_resume r).1 (without x stored out h) (questions_hold h.ledger p r (row_resume r).1 (resume_go p r holds.asks) (resume_ask p r holds.asks)))
        (record { may = holds.may; asks = resumed_are p r holds.asks }))

    taken_good : (tree : TreeVersion) (from : ℕ) (give : Give) (own : Option (List ℕ)) (sync : Option Running) → give.question.position.level ≤ levels tree → (x : State) (stored : Option Fact) (out : Out) (next : Rest State (List Task)) → (h : Here x stored out)
        → SyncHolds h.ledger p x.fact (may_wait x.phase) sync → Onward next → Good (take_give tree p from give own sync x out next) stored
    taken_good tree from give own None level x stored out next h holds go = go [] x stored out h
    taken_good tree from give own (Some r) level x stored out next h holds go =
        go_on_good (row_take tree from give own r) x stored out next (without x stored out h)
        (record { may = subst (MaySync h.ledger x.fact (may_wait x.phase)) (sym (fact_stays tree from give own r)) holds.may; asks = taken_are tree p from give own r level holds.asks })
        (questions_hold h.ledger p r (row_take tree from give own r).1 (take_go tree p from give own r level holds.asks) (take_ask tree p from give own r level holds.asks)) go

    -- what follows the message of a row
    followed_on_good : (turn : Then) (x : State) (stored : Option Fact) (out : Out) (next : Rest State (List Task)) → (h : Here (made_way turn x) stored out) → ThenHolds h.ledger (made_way turn x) turn → Onward next → Good (followed_on p turn x out next) stored
    followed_on_good (thens.SyncOn new) x stored out next h syncs go = begun_good new x stored out next h syncs go
    followed_on_good thens.Resume x stored out next h syncs go = resumed_good x.sync x stored out next h h.fits.peer.sync go
    followed_on_good (thens.Rule n) x stored out next h syncs go = go (named (thens.Rule n)) x stored out h
    followed_on_good (thens.OnKeys n) x stored out next h syncs go = go [] x stored out h
    followed_on_good thens.Stay x stored out next h syncs go = go [] x stored out h
    followed_on_good thens.Follow x stored out next h syncs go = go [] x stored out h
    followed_on_good (thens.Lead fact) x stored out next h syncs go = go [] x stored out h
    followed_on_good thens.Untrust x stored out next h syncs go = go [] x stored out h
    followed_on_good thens.Put x stored out next h syncs go = go [] x stored out h

    -- ## Rows of phases

    -- the output after a row
    abbrev put_out : PhaseOut → State → Out → Out
    put_out row x out = turned_answers row.then (saved_in row.save (left row.leave x)) (and_sends (left_answers row.leave x out) (posted_to row.to row.message))

    put_out_sends : (row : PhaseOut) (x : State) (out : Out) → (put_out row x out).sends ≡ out.sends ++ posted_to row.to row.message
    put_out_sends row x out =
        answers_send_nothing (ends_leading row.then) (saved_in row.save (left row.leave x)) (and_sends (left_answers row.leave x out) (posted_to row.to row.message))
        ∙ ap (λ sends. sends ++ posted_to row.to row.message) (answers_send_nothing row.leave x out)

    row_good : (r : State × PhaseOut) (x : State) (stored : Option Fact) (out : Out) (next : Rest State (List Task)) → (h : Here x stored out) → Goes c h.ledger stored r → Onward next → Good (row_done p r.1 r.0 out next) stored
    row_good r x stored out next h goes go =
        saved_good r.1.save (left r.1.leave r.0) stored (left_answers r.1.leave r.0 out)
        (λ u y o. followed_on p r.1.then (turned p r.1.then y) (turned_answers r.1.then y (and_sends o (posted_to r.1.to r.1.message))) next)
        (rests x stored out h)
        (rests (settled p r.1 r.0) (stored_in r.1.save stored) (put_out r.1 r.0 out) there)
        (followed_on_good r.1.then (turned p r.1.then (saved_in r.1.save (left r.1.leave r.0))) (stored_in r.1.save stored) (put_out r.1 r.0 out) next there goes.syncs go)
      where
        there : Here (settled p r.1 r.0) (stored_in r.1.save stored) (put_out r.1 r.0 out)
        there = record {
          ledger = goes.ledger;
          keeps = keeps_both before h.ledger goes.ledger p h.keeps goes.keeps;
          fits = goes.fits;
          sends = subst (All (SendHolds goes.ledger p)) (sym (put_out_sends r.1 r.0 out))
              (All-append (SendHolds goes.ledger p) out.sends (posted_to r.1.to r.1.message) (sends_keep h.ledger goes.ledger p goes.keeps p out.sends h.sends) (posted_to_hold goes.ledger p r.1.to r.1.message goes.says));
        }

    harmless_good : (row : PhaseOut) → IsHarmless row → Passes (row_done p row)
    harmless_good row harmless x stored out next h go = row_good (x, row) x stored out next h (harmless_goes h.fits row harmless) go

    -- ## What a rule asks of the tree and the backend

    asked_good : (call : Call) → LeavesFact call → Passes (asked call)
    unfolding asked
    asked_good Load leaves x stored out next h go = absurd leaves
    asked_good (Save fact) leaves x stored out next h go = absurd leaves
    asked_good call leaves x stored out next h go = (rests x stored out h, λ answer. go answer x stored out h)

    digested_good : (o : Option Object) (bytes : List ℕ) → Passes (digested o bytes)
    digested_good None bytes x stored out next h go = go None x stored out h
    digested_good (Some o) bytes x stored out next h go = asked_good (Hash bytes) tt x stored out _ h (λ digest y s q there. go (Some (o, digest)) y s q there)

    read_good : (bytes : Option (List ℕ)) → Passes (read bytes)
    read_good None x stored out next h go = go None x stored out h
    read_good (Some bytes) x stored out next h go = digested_good (object_in bytes) bytes x stored out next h go

    kept_good : (key : List ℕ) → Passes (kept key)
    kept_good key x stored out next h go = asked_good (Fetch key) tt x stored out _ h (λ bytes y s q there. read_good bytes y s q next there go)

    fetched_good : (key : List ℕ) → Passes (fetched key)
    fetched_good key x stored out next h go = kept_good key x stored out _ h (λ o y s q there. go (seens.Kept o) y s q there)

    held_good : (key : List ℕ) (entry : Option Entry) → Passes (held key entry)
    held_good key None x stored out next h go = go (seens.Held None None) x stored out h
    held_good key (Some entry) x stored out next h go = kept_good key x stored out _ h (λ o y s q there. go (seens.Held (Some entry) (matching entry o)) y s q there)

    looked_at_good : (key : List ℕ) (walked : Walked (Option Entry)) → Passes (looked_at key walked)
    looked_at_good key (Broken at) x stored out next h go = go (seens.Damaged at) x stored out h
    looked_at_good key (Reached entry) x stored out next h go = held_good key entry x stored out next h go

    looked_good : (key : List ℕ) → Passes (looked key)
    looked_good key x stored out next h go = asked_good (Find key) tt x stored out _ h (λ walked y s q there. looked_at_good key walked y s q next there go)

    found_good : (key : List ℕ) → Passes (found key)
    found_good key x stored out next h go = asked_good (Find key) tt x stored out _ h (λ walked y s q there. go (found_at walked) y s q there)

    entered_good : (o : Object) (bytes digest : List ℕ) (walked : Walked (Unit {0})) → Passes (entered o bytes digest walked)
    entered_good o bytes digest (Broken at) x stored out next h go = go (seens.Damaged at) x stored out h
    entered_good o bytes digest (Reached u) x stored out next h go =
        resealed_good (is_some x.seal) x stored out _ h (λ u y s q there. asked_good (Put o.key bytes) tt y s q _ there (λ v z t r end. go (seens.Stored digest) z t r end))

    written_good : (o : Object) → Passes (written o)
    written_good o x stored out next h go =
        asked_good (Hash (object_spelling o)) tt x stored out _ h
        (λ digest y s q there. asked_good (Enter (entry_of o digest)) tt y s q _ there (λ walked z t r end. entered_good o (object_spelling o) digest walked z t r next end go))

    confirmed_good : (entry : Option Entry) (object : Option Object) → Passes (confirmed entry object)
    confirmed_good None object x stored out next h go = go None x stored out h
    confirmed_good (Some entry) None x stored out next h go = go None x stored out h
    confirmed_good (Some entry) (Some o) x stored out next h go =
        asked_good (Hash (object_spelling o)) tt x stored out _ h (λ digest y s q there. go (matching entry (Some (o, digest))) y s q there)

    owned_good : (own : Own) → Passes (owned own)
    owned_good (owns.Fetch key) x stored out next h go = fetched_good key x stored out next h go
    owned_good (owns.Look key) x stored out next h go = looked_good key x stored out next h go
    owned_good (owns.Put o) x stored out next h go = written_good o x stored out next h go

    own_node_good : (needed : Bool) (at : Position) → Passes (own_node needed at)
    own_node_good true at x stored out next h go = asked_good (ReadNode at) tt x stored out _ h (λ walked y s q there. go (reached walked) y s q there)
    own_node_good false at x stored out next h go = go None x stored out h

    shown_node_good : (tree : TreeVersion) (answers : Bool) (q : Question) → Passes (shown_node tree answers q)
    shown_node_good tree true q x stored out next h go = asked_good (ReadNode q.position) tt x stored out _ h (λ walked y s o there. go (Some (body_of tree q walked)) y s o there)
    shown_node_good tree false q x stored out next h go = go None x stored out h

    -- ## Rows of leaders

    followed_good : (own : Option Own) (turn : Then) (keys : List (List ℕ)) → BeginsNothing turn → Passes (followed_up p own turn keys)
    followed_good None turn keys leads x stored out next h go =
        go (keyed turn keys) (turned p turn x) stored (turned_answers turn x out) (moved x (turned p turn x) stored out (turned_answers turn x out) h (turned_fits turn x leads h.fits) (answers_send_nothing (ends_leading turn) x out))
    followed_good (Some own) turn keys leads x stored out next h go = owned_good own x stored out _ h (λ seen y s q there. go _ y s q there)

    asks_hold : (l : Ledger) (sends : List Outgoing) → All AsksPeer sends → All (SendHolds l p) sends
    asks_hold l sends ask = All-weaker AsksPeer (SendHolds l p) (λ o h. (h.0, of_calls o.message h.1)) sends ask
      where
        of_calls : (message : Message) → IsOfCalls message → MessageHolds l p message
        of_calls (messages.Check ballot round) is = tt
        of_calls (messages.Get ballot round key) is = tt
        of_calls (messages.Put ballot object) is = tt
        of_calls other is = absurd is

    lead_done_good : (row : LeadOut) → All AsksPeer row.sends → BeginsNothing row.then → Passes (lead_done p row)
    lead_done_good row sends leads x stored out next h go =
        noted_good row.notes (followed_up p row.own row.then row.keys (left row.leave x) (and_row row x out) next) stored
        (followed_good row.own row.then row.keys leads (left row.leave x) stored (and_row row x out) next (record {
          ledger = h.ledger;
          keeps = h.keeps;
          fits = left_fits row.leave x h.fits;
          sends = All-append (SendHolds h.ledger p) (left_answers row.leave x out).sends row.sends
              (subst (All (SendHolds h.ledger p)) (sym (answers_send_nothing row.leave x out)) h.sends) (asks_hold h.ledger row.sends sends);
        }) go)

    still_leads : (l : Ledger) (fact : Fact) (leadership : Leadership) (leader : Leader) → leader.fact ≡ leadership.leader.fact → leader.accepts ≡ leadership.leader.accepts → IsLeading l p fact leadership → IsLeading l p fact (with_leader leader leadership)
    still_leads l fact leadership leader same accepts old = record {
      started = subst (λ f. IsStarted l p fact f leader.accepts) (sym same) (subst (λ set. IsStarted l p fact leadership.leader.fact set) (sym accepts) old.started);
      established = subst (λ (f : Fact). is_established l (epoch_number f.epoch) ≡ true) (sym same) old.established;
      has = subst (λ (f : Fact). fact.epoch ≡ f.epoch) (sym same) old.has;
      change = old.change;
    }

    -- a rule of a leader, whatever the phase
    lead_good : (row : Leader → Leader × LeadOut) → ((leader : Leader) → StillLeads leader.fact leader.accepts (row leader)) → (phase : Phase) (x : State) (stored : Option Fact) (out : Out) (next : Rest State (List Task))
        → (h : Here x stored out) → PhaseHolds h.ledger p x.fact phase → SyncHolds h.ledger p x.fact (may_wait phase) x.sync → Onward next → Good (lead row p phase x out next) stored
    lead_good row stays (phases.Leading l) x stored out next h old syncing go =
        let led = stays l.leader in
        lead_done_good (row l.leader).1 led.sends led.next (leading (with_leader (row l.leader).0 l) x) stored out next (record {
          ledger = h.ledger;
          keeps = h.keeps;
          fits = enters h.fits (phases.Leading (with_leader (row l.leader).0 l)) (still_leads h.ledger x.fact l (row l.leader).0 led.fact led.accepts old) syncing;
          sends = h.sends;
        }) go
    lead_good row stays (phases.Following f) x stored out next h old syncing go = go [] x stored out h
    lead_good row stays (phases.Probing b) x stored out next h old syncing go = go [] x stored out h
    lead_good row stays (phases.Electing e) x stored out next h old syncing go = go [] x stored out h

    -- rule 5 (d) and (e): the other members of the views are sent one message each, and a change that
    -- is wanted begins
    reminded_good : (phase : Phase) (x : State) (stored : Option Fact) (out : Out) (next : Rest State (List Task)) → (h : Here x stored out) → PhaseHolds h.ledger p x.fact phase → SyncHolds h.ledger p x.fact (may_wait phase) x.sync → Onward next → Good (reminded phase x out next) stored
    reminded_good (phases.Leading l) x stored out next h old syncing go = go (named (begins wants.change)) (leading wants x) stored (and_sends out (ticks x.fact l)) (record {
      ledger = h.ledger;
      keeps = h.keeps;
      fits = enters h.fits (phases.Leading wants) (record { started = old.started; established = old.established; has = old.has; change = wished_holds h.ledger x.fact l.leader.fact l.change old.change }) syncing;
      sends = All-append (SendHolds h.ledger p) out.sends (ticks x.fact l) h.sends (ticks_hold h.ledger p x.fact l old (is_second h.fits l old) 31 (omega arith));
    })
      where
        wants : Leadership
        wants = record l { change = wished l.leader.fact l.change }
    reminded_good (phases.Following f) x stored out next h old syncing go = go [] x stored out h
    reminded_good (phases.Probing b) x stored out next h old syncing go = go [] x stored out h
    reminded_good (phases.Electing e) x stored out next h old syncing go = go [] x stored out h

    -- ## Tasks

    task_good : (task : Task) → Passes (task_done p task)
    task_good (tasks.Phase n) x stored out next h go = row_good (phase_row n p x) x stored out next h (phase_goes h.fits n) go
    task_good tasks.Remind x stored out next h go = reminded_good x.phase x stored out next h h.fits.peer.phase h.fits.peer.sync go
    task_good (tasks.Key n key) x stored out next h go = lead_good (lead_row n key seens.Nothing) (lead_stays n key seens.Nothing) x.phase x stored out next h h.fits.peer.phase h.fits.peer.sync go
    task_good (tasks.Again n key seen) x stored out next h go = lead_good (lead_row n key seen) (lead_stays n key seen) x.phase x stored out next h h.fits.peer.phase h.fits.peer.sync go

    drive_good : (n : ℕ) (ts : List Task) → Passes (driven p n ts)
    unfolding driven
    drive_good zero ts x stored out next h go = go ts x stored out h
    drive_good (suc n) [] x stored out next h go = go [] x stored out h
    drive_good (suc n) (task ∷ ts) x stored out next h go =
        task_good task x stored out (λ more y o. driven p n (more ++ ts) y o next) h (λ more y s o there. drive_good n (more ++ ts) y s o next there go)

    -- ## Events

    -- rule 5 (a) to (c), of a leader
    led_good : (l : Leadership) (x : State) (stored : Option Fact) (out : Out) (next : Rest State (List Task)) → (h : Here x stored out) → IsLeading h.ledger p x.fact l → SyncHolds h.ledger p x.fact false x.sync → Onward next → Good (led_in p (phases.Leading l) x out next) stored
    led_good l x stored out next h old syncing go =
        lead_done_good (row_5_calls x.fact l).1 led.sends led.next (leading (row_5_calls x.fact l).0 x) stored out (λ ts y o. next (ts ++ tasks.Remind ∷ []) y o) (record {
          ledger = h.ledger;
          keeps = h.keeps;
          fits = enters h.fits (phases.Leading (row_5_calls x.fact l).0) (still_leads h.ledger x.fact (record l { change = older l.change }) (row_5_calls x.fact l).0.leader led.fact led.accepts one_older) syncing;
          sends = h.sends;
        }) (λ ts y s o there. go (ts ++ tasks.Remind ∷ []) y s o there)
      where
        led : StillLeads l.leader.fact l.leader.accepts (calls_of_tick (end_of (older l.change)) l.leader)
        led = tick_stays (end_of (older l.change)) l.leader

        one_older : IsLeading h.ledger p x.fact (record l { change = older l.change })
        one_older = record { started = old.started; established = old.established; has = old.has; change = older_holds h.ledger x.fact l.change old.change }

    tick_good : (phase : Phase) (x : State) (stored : Option Fact) (out : Out) (next : Rest State (List Task)) → (h : Here x stored out) → PhaseHolds h.ledger p x.fact phase → SyncHolds h.ledger p x.fact (may_wait phase) x.sync → Onward next → Good (ticked p phase x out next) stored
    tick_good (phases.Leading l) x stored out next h old syncing go = led_good l x stored out next h old syncing go
    tick_good phase x stored out next h old syncing go = row_good (aged phase p x) x stored out next h (aged_goes h.fits phase old syncing) go

    shown_good : (b : Bool) (part : Part State Seen) → Passes part → Passes (shown b part)
    shown_good true part good x stored out next h go = good x stored out next h go
    shown_good false part good x stored out next h go = go seens.Nothing x stored out h

    put_done_good : (turn : Then) (from : ℕ) (ballot : Epoch) (o : Object) (row : PhaseOut) → IsHarmless row → Passes (put_done turn p from ballot o row)
    put_done_good thens.Put from ballot o row harmless x stored out next h go =
        written_good o x stored out _ h (λ seen y s q there. harmless_good (after_put from ballot row seen) (after_put_harmless from ballot row seen harmless) y s q next there go)
    put_done_good other from ballot o row harmless x stored out next h go = harmless_good row harmless x stored out next h go

    -- a message about a node
    in_tree_good : (b : Bool) (part : Part State (List Task)) (x : State) (stored : Option Fact) (out : Out) (next : Rest State (List Task)) → Here x stored out → Onward next → (b ≡ true → Good (part x out next) stored) → Good (in_tree b part x out next) stored
    in_tree_good true part x stored out next h go good = good refl
    in_tree_good false part x stored out next h go good = go [] x stored out h

    delivered_good : (from : ℕ) (message : Message) (x : State) (stored : Option Fact) (out : Out) (next : Rest State (List Task)) → (h : Here x stored out) → MessageHolds h.ledger from message → Onward next → Good (delivered p from message x out next) stored
    delivered_good from (messages.Get ballot round key) x stored out next h says go =
        shown_good (is_served x.fact x.trusted ballot) (looked key) (looked_good key) x stored out _ h
        (λ seen y s q there. harmless_good (row_21 y.fact y.trusted from ballot round key seen) (row_21_harmless y.fact y.trusted from ballot round key seen) y s q next there go)
    delivered_good from (messages.Put ballot o) x stored out next h says go =
        shown_good (is_served x.fact x.trusted ballot) (found o.key) (found_good o.key) x stored out _ h
        (λ seen y s q there. put_done_good (row_22 y.fact y.trusted from ballot o seen).then from ballot o (row_22 y.fact y.trusted from ballot o seen) (row_22_harmless y.fact y.trusted from ballot o seen) y s q next there go)
    delivered_good from (messages.GetReply ballot round key entry object) x stored out next h says go =
        by_test (λ (plan : Plan State). Good plan stored) (leads x.phase) _ _
        (λ is. confirmed_good entry object x stored out _ h
        (λ sent y s q there. lead_good (row_29_reply from ballot round key entry sent) (got_stays from ballot round key entry sent) y.phase y s q next there there.fits.peer.phase there.fits.peer.sync go))
        (λ not. go [] x stored out h)
    delivered_good from (messages.PutReply ballot key version) x stored out next h says go =
        lead_good (row_35_reply from ballot key version) (put_heard_stays from ballot key version) x.phase x stored out next h h.fits.peer.phase h.fits.peer.sync go
    delivered_good from (messages.CheckReply ballot round) x stored out next h says go = lead_good (row_33_reply from ballot round) (stands_stays from ballot round) x.phase x stored out next h h.fits.peer.phase h.fits.peer.sync go
    delivered_good from (messages.TreeAsk ballot at after) x stored out next h says go =
        let asks : Question = record { position = at; after = after } in
        in_tree_good (has_position x.mode.tree at) (got_ask p from ballot asks) x stored out next h go
        (λ has. shown_node_good x.mode.tree (is_same ballot x.fact.ballot) asks x stored out _ h
        (λ body y s q there. harmless_good (row_23 y.fact y.trusted from ballot at after body) (row_23_harmless y.fact y.trusted from ballot at after body) y s q next there go))
    delivered_good from (messages.TreeGive ballot at after trusted body) x stored out next h says go =
        let give : Give = record { ballot = ballot; question = record { position = at; after = after }; trusted = trusted; body = body } in
        in_tree_good (has_position x.mode.tree at) (tree_give p from give) x stored out next h go
        (λ has. own_node_good (needs_node x.mode.tree from give x.sync) at x stored out _ h
        (λ own y s q there. taken_good x.mode.tree from give own y.sync (has_level x.mode.tree at has) y s q next there there.fits.peer.sync go))
    delivered_good from message x stored out next h says go = row_good (received p from message x) x stored out next h (received_goes h.fits from message says) go

    -- rule 27
    called_good : (call : CallIn) → Passes (called p call)
    called_good call x stored out next h go =
        by_test (λ (plan : Plan State). Good plan stored) (leads x.phase) _ _
        (λ is. lead_good (row_27 call.from call.id call.key call.command (changes x.phase)) (joined_stays call.from call.id call.key call.command (changes x.phase)) x.phase x stored out next h h.fits.peer.phase h.fits.peer.sync go)
        (λ not. go [] x stored (and_answers out (unavailable call ∷ [])) (moved x x stored out (and_answers out (unavailable call ∷ [])) h h.fits refl))

    -- rule 24
    changed_good : (view : List ℕ) → Passes (λ x out next. row_done p (asked_change view x).1.0 (asked_change view x).0 (and_change out (asked_change view x).1.1) next)
    changed_good view x stored out next h go =
        let told = and_change out (asked_change view x).1.1 in
        let same : Here x stored told = moved x x stored out told h h.fits refl in
        row_good ((asked_change view x).0, (asked_change view x).1.0) x stored told next same (rule_24 same.fits x.phase view same.fits.peer.phase same.fits.peer.sync) go

    event_good : (event : Event) (x : State) (stored : Option Fact) (out : Out) (next : Rest State (List Task)) → (h : Here x stored out) → EventHolds h.ledger event → Onward next → Good (first p event x out next) stored
    event_good (events.Deliver from message) x stored out next h says go = delivered_good from message x stored out next h says go
    event_good events.Tick x stored out next h says go = tick_good x.phase x stored out next h h.fits.peer.phase h.fits.peer.sync go
    event_good (events.Call call) x stored out next h says go = called_good call x stored out next h go
    event_good (events.Change view) x stored out next h says go = changed_good view x stored out next h go

    -- the tasks that a row names, and what follows once no task is left
    abbrev driving : Rest State (Unit {0}) → Rest State (List Task)
    driving next ts x out = driven p most_turns ts x out (λ rest y o. next tt y o)

    driving_goes : (next : Rest State (Unit {0})) → Onward next → Onward (driving next)
    driving_goes next go ts x stored out h = drive_good most_turns ts x stored out (λ rest y o. next tt y o) h (λ rest y s o there. go tt y s o there)

    -- a whole step
    pub step_good : (event : Event) (x : State) (stored : Option Fact) → (h : Here x stored nothing) → EventHolds h.ledger event → Good (step_of p event x) stored
    step_good event x stored h says =
        event_good event x stored nothing (driving (λ u y o. concluded p y o (λ v z q. Done z q))) h says
        (driving_goes (λ u y o. concluded p y o (λ v z q. Done z q)) (λ u y s o there.
        task_good (tasks.Phase phase_rules.EndEpoch) y s o (driving (λ v z q. Done z q)) there (driving_goes (λ v z q. Done z q) (λ v z t q end. end))))

  -- ## A start from a kept fact: the peer follows, and does not trust its tree

  -- the fact with which the peer continues is the one that its stores keep
  abbrev StaysAt : SavedFact → Option Fact → Type 0
  StaysAt saved stored = Rests stored × (Some saved.fact ≡ stored)

  rests_good : (mode : Mode) (saved : SavedFact) (stored : Option Fact) → StaysAt saved stored → Good (resumed mode saved) stored
  rests_good mode saved stored at =
      let r = at.0 in
      record {
        ledger = r.ledger;
        keeps = r.keeps;
        fits = record {
          reaches = r.reaches;
          peer = record { saved = subst (IsSaved r.ledger p) (sym (same_Some saved.fact r.kept.fact (at.1 ∙ r.kept.kept))) r.kept.saved; kept = sym at.1; phase = tt; sync = tt };
        };
        sends = All-nil (SendHolds r.ledger p);
      }

  continued_good : (tree : TreeVersion) (mode : Mode) (saved : SavedFact) (stored : Option Fact) → StaysAt saved stored → Good (continued tree mode saved) stored
  continued_good tree mode saved stored at = (at.0, λ u. rests_good mode saved stored at)

  -- the same fact is saved with another seal
  reseals_good : (mode : Mode) (saved : SavedFact) (stored : Option Fact) → StaysAt saved stored → Good (reseals mode saved) stored
  reseals_good mode saved stored at = (at.0, λ root. (at.0, (again, rests_good mode (with_seal root saved.fact) (Some saved.fact) (again, refl))))
    where
      again : Rests (Some saved.fact)
      again = subst Rests (sym at.1) at.0

  reseals_if_good : (seal : Option (List ℕ)) (mode : Mode) (saved : SavedFact) (stored : Option Fact) → StaysAt saved stored → Good (reseals_if seal mode saved) stored
  reseals_if_good None mode saved stored at = rests_good mode saved stored at
  reseals_if_good (Some seal) mode saved stored at = reseals_good mode saved stored at

  scanned_good : (mode : Mode) (saved : SavedFact) (scan : Scan) (stored : Option Fact) → StaysAt saved stored → Good (scanned mode saved scan) stored
  scanned_good mode saved scan stored at = by (is_whole scan)
    where
      by : (b : Bool) → Good (if b then migrated mode saved scan.entries else continued Two mode saved) stored
      by true = (at.0, λ u. (at.0, λ v. reseals_if_good saved.seal mode saved stored at))
      by false = continued_good Two mode saved stored at

  continued_in_good : (tree : TreeVersion) (mode : Mode) (saved : SavedFact) (stored : Option Fact) → StaysAt saved stored → Good (continued_in tree mode saved) stored
  continued_in_good One mode saved stored at = continued_good One mode saved stored at
  continued_in_good Two mode saved stored at = (at.0, λ u. (at.0, λ scan. scanned_good mode saved scan stored at))

  -- rule 1
  pub start_good : (mode : Mode) (view : List ℕ) (stored : Option Fact) → Rests stored → Good (start_of mode view) stored
  start_good mode view stored r = (r, opens)
    where
      opens : (kept : Option SavedFact) → bare kept ≡ stored → Good (opened mode view kept) stored
      opens None is = absurd (none-some r.kept.fact (is ∙ r.kept.kept))
      opens (Some k) is = continued_in_good mode.tree mode k stored (r, is)
