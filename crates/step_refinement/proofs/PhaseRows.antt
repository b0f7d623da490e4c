-- A row of a phase in the step of a peer: the peer takes the steps of its election, its fact is saved, and
-- its message is sent. After it the peer agrees with the run that goes on by these steps, and by the loss of
-- its trust if it found damage. Then a sync begins or resumes, or a rule that is named runs next.
use Rattle.std.specs.Prelude.{All}
use Rattle.std.proofs.Common.{◌≡◌, ◌⊎◌, inl, inr, ℕ, Bool, false, List, [], ◌++◌, Option, Some, None, refl, ap, sym, subst, ◌∙◌}
use Rattle.std.proofs.lemmas.List.Elements.{All-nil, All-append}
use Rattle.ens_base.specs.declared.entry.Entry.{Entry}
use Rattle.protocol_laws.specs.Ledger.{Ledger, put}
use Rattle.protocol_laws.specs.Numbers.{epoch_number}
use Rattle.protocol_laws.specs.Protocol.{State, Step, state_after}
use Rattle.election_refinement.proofs.Keeps.{sends_keep}
use Rattle.election_refinement.proofs.Listed.{GoesListed}
use Rattle.election_refinement.proofs.Parts.{Begun, part, PartGoes}
use Rattle.election_refinement.proofs.Rows.{saved_in, stored_in, made_way, settled, ThenHolds}
use Rattle.election_refinement.proofs.Sets.{posted_to_hold}
use Rattle.election_refinement.proofs.Whole.{RowGoes}
use Rattle.election_refinement.specs.Listed.{IsListedMessage, SaysListed, IsListedThen}
use Rattle.election_refinement.specs.Refinement.{PeerHolds, PhaseHolds, may_wait, SendHolds}
use Rattle.peer_refinement.specs.WorldSpec.{Answered, answered, with_facts, Held}
use Rattle.role_laws.proofs.Runs.{run_leaders}
use Rattle.role_laws.specs.Leaders.{IsUnled}
use Rattle.role_laws.specs.Roles.{RolesHold}
use Rattle.role_laws.specs.Tables.{Ghosts, Owed}
use Rattle.leader_refinement.specs.Seen.{owed_after}
use Rattle.leader_output.specs.declared.out.Outgoing.{Outgoing}
use Rattle.peer_spec.specs.Drives.{row_done}
use Rattle.peer_state.specs.Moves.{ends_leading, left, left_answers, turned, turned_answers, without_sync}
use Rattle.peer_spec.specs.Syncs.{saved, and_sends, start_sync, followed_on}
use Rattle.peer_spec.proofs.Syncs.{by_outcomeout}
use Rattle.peer_state.specs.declared.state.Mode.{Mode}
use Rattle.peer_state.specs.declared.state.Phase.{Phase}
use Rattle.peer_state.specs.declared.state.State.{State as PeerState}
use Rattle.stored_formats.specs.declared.fact.Fact.{Fact}
use Rattle.register_model.specs.declared.note.Note.{Note}
use Rattle.tree_sync.specs.Rows.{row_start}
use Rattle.step_plans.specs.Calls.{ScanTree, Save}
use Rattle.step_plans.specs.Plans.{Plan, Ask, Out, Rest, asked}
use Rattle.step_plans.specs.Sends.{posted_to}
use Rattle.step_plans.specs.Tasks.{named}
use Rattle.step_plans.specs.declared.error.PeerError.TheVariants.{StoreFault}
use Rattle.step_plans.specs.declared.tasks.Task.{Task}
use Rattle.step_plans.specs.Saved.{with_seal, bare}
use Rattle.tree_sync.specs.Syncs.{outcome_of}
use Rattle.tree_node.specs.declared.body.Scan.{Scan}
use Rattle.peer_refinement.proofs.Keeping.{grows}
use Rattle.peer_refinement.proofs.Tops as records
use Rattle.peer_refinement.specs.Tops.{tops_of}
use Rattle.peer_refinement.specs.Trees.{AreAmong}
use Rattle.wire_frames.specs.declared.message.Message.{Message}
use Rattle.phase_rows.specs.declared.phase.PhaseOut.{PhaseOut}
use Rattle.phase_rows.specs.declared.phase.Then.{Then}
use Rattle.phase_rows.specs.declared.phase.Then.TheVariants as thens
use Rattle.step_refinement.proofs.CallByCall.{Ends, Onward, Answers, IsRefused, ask_may_end, rest_task}
use Rattle.step_refinement.specs.Scenes.{Scene, Reached, now, AtRest, Rests}
use Rattle.step_refinement.proofs.LostTrust.{Nearly, loses}
use Rattle.step_refinement.proofs.Stretches.{role_here, role_replaced}
use Rattle.step_refinement.proofs.StoreAnswers.{HasEither, SaveEnds, Saves, Refuses, save_ends}
use Rattle.step_refinement.proofs.Refusals.{rests_over}
use Rattle.step_refinement.proofs.SentMessages.{posted_to_each, SaysSo, sends_say, says_more}
use Rattle.step_refinement.proofs.ElectionSteps.{AreElectionSteps, elections_only, entries_there, spared_there, roles_there, unled_there, tree_there, sends_there, reached_there}
use Rattle.step_refinement.proofs.KeptTrust.{Spares, IsBlind, left_spares, settled_seal, settled_mode, settled_spares, sync_spared}
use Rattle.step_refinement.proofs.LaterStates.{phase_stays, sync_stays}
use Rattle.step_refinement.proofs.SyncSteps.{begun_good, resumed_good}
use Rattle.step_refinement.proofs.LeaderTasks.{PhasesNext}
use Rattle.step_refinement.proofs.ShownMaps.{tree_saved, tree_under}
use Rattle.step_refinement.proofs.PhaseRoles.{part_stands, PartStands, PhaseStands, turn_stands, left_stands, left_begun, turned_stands}
use Rattle.step_refinement.specs.Peers.{TreeHolds, SealFits, MessageFits, SendFits, SyncFits}
use Rattle.step_refinement.specs.Roles.{role_in, said_in_sends}
use Rattle.election_refinement.proofs.Loops.{answers_send_nothing}

-- ## The save

-- the stores after the fact was saved with this seal, if there is one
abbrev pub held_after : Option (List ℕ) → Option Fact → Held → Held
held_after seal None h = h
held_after seal (Some fact) h = with_facts (record h.stores.facts { kept = Some (with_seal seal fact) }) h

kept_after : (seal : Option (List ℕ)) (save : Option Fact) (h : Held) → stored_in save (bare h.stores.facts.kept) ≡ bare (held_after seal save h).stores.facts.kept
kept_after seal None h = refl
kept_after seal (Some fact) h = refl

-- the tree shows the same map
abbrev tree_after : (s : State) (strings : List (List ℕ)) (q : ℕ) (seal : Option (List ℕ)) (save : Option Fact) (h : Held) → TreeHolds s strings q seal h → TreeHolds s strings q seal (held_after seal save h)
tree_after s strings q seal None h tree = tree
tree_after s strings q seal (Some fact) h tree = tree_saved s strings q seal fact h tree

map_after : (s : State) (strings : List (List ℕ)) (q : ℕ) (seal : Option (List ℕ)) (save : Option Fact) (h : Held) (tree : TreeHolds s strings q seal h) → tree.last.map ≡ (tree_after s strings q seal save h tree).last.map
map_after s strings q seal None h tree = refl
map_after s strings q seal (Some fact) h tree = refl

-- and has the same root
root_after : (seal : Option (List ℕ)) (save : Option Fact) (h : Held) → h.stores.tree.top ≡ (held_after seal save h).stores.tree.top
root_after seal None h = refl
root_after seal (Some fact) h = refl

-- and the same version
version_after : (seal : Option (List ℕ)) (save : Option Fact) (h : Held) → (held_after seal save h).stores.tree.version ≡ h.stores.tree.version
version_after seal None h = refl
version_after seal (Some fact) h = refl

-- the stores keep the same fact and the same top records
record IsOver (h t : Held) : Type 0 where
  fact : t.stores.facts.kept ≡ h.stores.facts.kept
  tops : tops_of t.stores ≡ tops_of h.stores
  among : AreAmong h.hashed t.hashed

module _ (c : Scene) where
  -- a save may be refused: then the step ends, over the fact before it or over the new one
  saved_ends : (save : Option Fact) (x : PeerState) (out : Out) (next mark : Rest PeerState (Unit {0})) (h : Held) (notes : List Note)
      → ((t : Held) → IsOver h t → Rests c t notes) → ((t : Held) → IsOver (held_after x.seal save h) t → Rests c t notes)
      → Ends c (next tt (saved_in save x) out) (mark tt (saved_in save x) out) (held_after x.seal save h) notes → Ends c (saved save x out next) (saved save x out mark) h notes
  unfolding asked
  saved_ends None x out next mark h notes old new goes = goes
  saved_ends (Some fact) x out next mark h notes old new goes =
      ask_may_end grows c (Save (with_seal x.seal fact)) (λ a. next tt (record x { fact = fact }) out) (λ a. mark tt (record x { fact = fact }) out) h notes (λ among. by_end (save_ends (with_seal x.seal fact) h))
    where
      tops : tops_of (answered (Save (with_seal x.seal fact)) h).held.stores ≡ tops_of h.stores
      tops = (records.keeps (Save (with_seal x.seal fact)) h tt).0

      either_rests : HasEither (with_seal x.seal fact) h (answered (Save (with_seal x.seal fact)) h).held → Rests c (answered (Save (with_seal x.seal fact)) h).held notes
      either_rests (inl same) = old (answered (Save (with_seal x.seal fact)) h).held (record { fact = same; tops = tops; among = grows (Save (with_seal x.seal fact)) h })
      either_rests (inr is) = new (answered (Save (with_seal x.seal fact)) h).held (record { fact = is; tops = tops; among = grows (Save (with_seal x.seal fact)) h })

      by_end : SaveEnds (with_seal x.seal fact) h (answered (Save (with_seal x.seal fact)) h) → Answers c (Save (with_seal x.seal fact)) (λ a. next tt (record x { fact = fact }) out) (λ a. mark tt (record x { fact = fact }) out) h notes ⊎ IsRefused c (Save (with_seal x.seal fact)) h notes
      by_end (Saves is) = inl (record {
        answer = tt;
        is = ap (λ (a : Answered (Save (with_seal x.seal fact))). a.result) is;
        goes = subst (λ (t : Held). Ends c (next tt (record x { fact = fact }) out) (mark tt (record x { fact = fact }) out) t notes) (sym (ap (λ (a : Answered (Save (with_seal x.seal fact))). a.held) is)) goes;
      })
      by_end (Refuses is left) = inr (record { error = StoreFault; is = is; rests = either_rests left })

-- ## The output

-- the output after a row, from a state of the peer
abbrev pub out_after : PhaseOut → PeerState → Out → Out
out_after row x out = turned_answers row.then (saved_in row.save (left row.leave x)) (and_sends (left_answers row.leave x out) (posted_to row.to row.message))

out_sends : (row : PhaseOut) (x : PeerState) (out : Out) → (out_after row x out).sends ≡ out.sends ++ posted_to row.to row.message
out_sends row x out =
    answers_send_nothing (ends_leading row.then) (saved_in row.save (left row.leave x)) (and_sends (left_answers row.leave x out) (posted_to row.to row.message))
    ∙ ap (λ (sends : List Outgoing). sends ++ posted_to row.to row.message) (answers_send_nothing row.leave x out)

-- what holds of a row's message holds of each copy that is sent
abbrev pub RowAll : (Message → Type 0) → Option Message → Type 0
RowAll P None = Unit {0}
RowAll P (Some message) = P message

row_each : (P : Message → Type 0) (set : List Bool) (message : Option Message) → RowAll P message → All (λ (o : Outgoing). P o.message) (posted_to set message)
row_each P set None says = All-nil (λ (o : Outgoing). P o.message)
row_each P set (Some message) says = posted_to_each (λ (o : Outgoing). P o.message) set message (λ q is_peer. says)

says_listed : (voting : List (List ℕ)) (message : Option Message) → SaysListed voting message → RowAll (IsListedMessage voting) message
says_listed voting None listed = tt
says_listed voting (Some message) listed = listed

-- ## The state

saved_phase : (save : Option Fact) (x : PeerState) → (saved_in save x).phase ≡ x.phase
saved_phase None x = refl
saved_phase (Some fact) x = refl

-- the phase stays when a sync makes way for another one
way_holds : (l : Ledger) (p : ℕ) (then : Then) (x : PeerState) → PhaseHolds l p (made_way then x).fact (made_way then x).phase → PhaseHolds l p x.fact x.phase
way_holds l p (thens.SyncOn fact) x holds = holds
way_holds l p other x holds = holds

way_phase : (then : Then) (x : PeerState) → x.phase ≡ (made_way then x).phase
way_phase (thens.SyncOn fact) x = refl
way_phase other x = refl

way_begun : (p : ℕ) (fact : Fact) (x : PeerState) (out : Out) (next : Rest PeerState (List Task)) → start_sync p fact (without_sync x) out next ≡ start_sync p fact x out next
unfolding asked
way_begun p fact x out next = λ i. Ask ScanTree (λ (scan : Scan). by_outcomeout p (row_start fact p x.trusted scan).0 (outcome_of (row_start fact p x.trusted scan).0.sync) x (and_sends out (row_start fact p x.trusted scan).1) next i)

-- ## Rows

module _ (c : Scene) where
  open c use {lines, version, view, strings, peer as p}

  -- the row goes on from the run that the step has reached, and leaves the peer listed; it spares the sync of
  -- the peer, and what its message says holds then
  pub record RowIsGood (r : Reached c) (x : PeerState) (stored : Option Fact) (row : PeerState × PhaseOut) : Type 0 where
    pub goes : RowGoes view r.steps p x stored row
    pub turns : PartGoes (now c r).objects.ledger x row
    pub listed : GoesListed lines.voting p row
    pub spares : Spares x row.0
    pub says : RowAll (SaysSo r.ghosts (state_after view (goes.es ++ r.steps)) p) row.1.message
    pub fits : RowAll (MessageFits version lines (state_after view (goes.es ++ r.steps)) strings p) row.1.message

  -- the peer is at rest, and the ledger is this one
  record RowEnds (key : List ℕ) (x : PeerState) (h : Held) (out : Out) (notes : List Note) (l : Ledger) : Type 0 where
    rest : AtRest c key x h out notes
    ledger : (now c rest.0.reached).objects.ledger ≡ l

  -- what follows the message of a row: a sync begins or resumes, or a rule runs next
  followed_ends : (then : Then) (key : List ℕ) (x : PeerState) (h : Held) (out : Out) (notes : List Note) (next mark : Rest PeerState (List Task)) → (rest : AtRest c key (made_way then x) h out notes) → ThenHolds (now c rest.0.reached).objects.ledger (made_way then x) then → IsListedThen lines.voting then
      → Onward c (PhasesNext c) next mark → Ends c (followed_on p then x out next) (followed_on p then x out mark) h notes
  followed_ends (thens.SyncOn fact) key x h out notes next mark rest may listed go =
      subst (λ (plan : Plan PeerState). Ends c plan (start_sync p fact x out mark) h notes) (way_begun p fact x out next)
      (subst (λ (plan : Plan PeerState). Ends c (start_sync p fact (without_sync x) out next) plan h notes) (way_begun p fact x out mark)
      (begun_good c rest next mark go fact listed may))
  followed_ends thens.Resume key x h out notes next mark rest may listed go = resumed_good c rest next mark go
  followed_ends thens.Untrust key x h out notes next mark rest may listed go = go [] key x h out notes (tt, rest)
  followed_ends thens.Put key x h out notes next mark rest may listed go = go [] key x h out notes (tt, rest)
  followed_ends (thens.Rule n) key x h out notes next mark rest may listed go = go (named (thens.Rule n)) key x h out notes (tt, rest)
  followed_ends (thens.OnKeys n) key x h out notes next mark rest may listed go = go [] key x h out notes (tt, rest)
  followed_ends thens.Stay key x h out notes next mark rest may listed go = go [] key x h out notes (tt, rest)
  followed_ends thens.Follow key x h out notes next mark rest may listed go = go [] key x h out notes (tt, rest)
  followed_ends (thens.Lead fact) key x h out notes next mark rest may listed go = go [] key x h out notes (tt, rest)

  module _ (key : List ℕ) (row : PeerState × PhaseOut) (x : PeerState) (h : Held) (out : Out) (notes : List Note) (at : AtRest c key x h out notes) (good : RowIsGood at.0.reached x (bare h.stores.facts.kept) row) where
    -- the run with the steps of the row
    abbrev es : List Step
    es = good.goes.es

    abbrev steps : List Step
    steps = at.0.reached.steps

    abbrev g : Ghosts
    g = at.0.reached.ghosts

    abbrev t : State
    t = state_after view (es ++ steps)

    -- the state after the save, the output after the message, the state after what follows it, and the state
    -- before a sync begins
    abbrev middle : PeerState
    middle = saved_in row.1.save (left row.1.leave row.0)

    abbrev sent : Out
    sent = and_sends (left_answers row.1.leave row.0 out) (posted_to row.1.to row.1.message)

    abbrev turning : PeerState
    turning = turned p row.1.then middle

    abbrev end : PeerState
    end = settled p row.1 row.0

    -- the seal that a save of the row keeps
    abbrev seal : Option (List ℕ)
    seal = (left row.1.leave row.0).seal

    abbrev owed : List Owed
    owed = owed_after [] out.answers

    kinds : AreElectionSteps es
    kinds = elections_only p es good.goes.kinds

    abbrev there : Reached c
    there = reached_there c at.0.reached es good.goes.run kinds good.goes.keeps good.goes.orderly

    -- the roles, before the peer's own one changes
    roles_on : RolesHold g t (put c.roles p (role_in key x.phase owed)) (said_in_sends p out.sends ++ c.said)
    roles_on = roles_there view es steps g (put c.roles p (role_in key x.phase owed)) (said_in_sends p out.sends ++ c.said) good.goes.run kinds at.0.roles

    peer_there : PeerHolds t.objects.ledger p end (bare (held_after seal row.1.save h).stores.facts.kept)
    peer_there = subst (λ (stored : Option Fact). PeerHolds t.objects.ledger p end stored) (kept_after seal row.1.save h) good.goes.peer

    unled : (d : ℕ) → (now c at.0.reached).objects.ledger.elected d ≡ false → IsUnled g t d
    unled d fresh = unled_there view es steps g d good.goes.run kinds ((run_leaders view steps at.0.reached.run).unled g d at.0.roles.turns fresh)

    -- the part of the peer in leading: before the row, and in the state of the row
    part_before : PartStands view (es ++ steps) good.goes.run g roles_on.turns p key (part x.phase) owed
    part_before = part_stands view (es ++ steps) good.goes.run g roles_on.turns p key x.phase owed (role_here g t p (said_in_sends p out.sends ++ c.said) c.roles (role_in key x.phase owed) roles_on)
        (phase_stays g.hash (now c at.0.reached) t p x.fact x.phase (entries_there view es steps good.goes.run) good.goes.keeps.views at.0.peer.phase at.0.fits) at.1

    part_in_row : PartStands view (es ++ steps) good.goes.run g roles_on.turns p key (part row.0.phase) owed
    part_in_row = turn_stands view (es ++ steps) good.goes.run g roles_on.turns p key (now c at.0.reached).objects.ledger (part x.phase) (part row.0.phase) owed good.turns.turn unled part_before

    part_left : PartStands view (es ++ steps) good.goes.run g roles_on.turns p key (part middle.phase) (owed_after [] sent.answers)
    part_left = subst (λ (phase : Phase). PartStands view (es ++ steps) good.goes.run g roles_on.turns p key (part phase) (owed_after [] (left_answers row.1.leave row.0 out).answers))
        (sym (saved_phase row.1.save (left row.1.leave row.0))) (left_stands view (es ++ steps) good.goes.run g roles_on.turns p key row.1.leave row.0 out part_in_row)

    begun : (fact : Fact) → row.1.then ≡ thens.Lead fact → part middle.phase ≡ Begun (epoch_number fact.epoch)
    begun fact is = subst (λ (phase : Phase). part phase ≡ Begun (epoch_number fact.epoch)) (sym (saved_phase row.1.save (left row.1.leave row.0)))
        (left_begun row.1.leave row.0 (epoch_number fact.epoch) (good.turns.leads fact is))

    stands : PhaseStands view (es ++ steps) good.goes.run g roles_on.turns p key end.phase (owed_after [] (out_after row.1 row.0 out).answers)
    stands = subst (λ (phase : Phase). PhaseStands view (es ++ steps) good.goes.run g roles_on.turns p key phase (owed_after [] (out_after row.1 row.0 out).answers)) (way_phase row.1.then turning)
        (turned_stands view (es ++ steps) good.goes.run g roles_on.turns p key row.1.then middle sent begun (way_holds t.objects.ledger p row.1.then turning peer_there.phase) part_left)

    roles_after : RolesHold g t (put c.roles p (role_in key end.phase (owed_after [] (out_after row.1 row.0 out).answers))) (said_in_sends p (out_after row.1 row.0 out).sends ++ c.said)
    roles_after = subst (λ (sends : List Outgoing). RolesHold g t (put c.roles p (role_in key end.phase (owed_after [] (out_after row.1 row.0 out).answers))) (said_in_sends p sends ++ c.said)) (sym (out_sends row.1 row.0 out))
        (says_more g t (put c.roles p (role_in key end.phase (owed_after [] (out_after row.1 row.0 out).answers))) p c.said out.sends (posted_to row.1.to row.1.message) (sends_say g t p (posted_to row.1.to row.1.message) (row_each (SaysSo g t p) row.1.to row.1.message good.says))
        (role_replaced g t p (said_in_sends p out.sends ++ c.said) c.roles (role_in key x.phase owed) (role_in key end.phase (owed_after [] (out_after row.1 row.0 out).answers)) roles_on stands.role))

    -- more is sent, of which each message is as it has to be
    all_after : (P : Outgoing → Type 0) → All P out.sends → All P (posted_to row.1.to row.1.message) → All P (out_after row.1 row.0 out).sends
    all_after P old new = subst (All P) (sym (out_sends row.1 row.0 out)) (All-append P out.sends (posted_to row.1.to row.1.message) old new)

    listed_row : RowAll (IsListedMessage lines.voting) row.1.message
    listed_row = says_listed lines.voting row.1.message good.listed.says

    -- the seal is that of the peer before the row, and stays after it
    seal_same : seal ≡ x.seal
    seal_same = (left_spares row.1.leave row.0).seal ∙ good.spares.seal

    -- so does the mode
    mode_same : (left row.1.leave row.0).mode ≡ x.mode
    mode_same = (left_spares row.1.leave row.0).mode ∙ good.spares.mode

    abbrev tree : TreeHolds t strings p seal h
    tree = tree_under t strings p x.seal seal h seal_same (tree_there view es steps good.goes.run strings kinds p x.seal h at.0.tree)

    abbrev tree_then : TreeHolds t strings p end.seal (held_after seal row.1.save h)
    tree_then = tree_under t strings p seal end.seal (held_after seal row.1.save h) (settled_seal p row.1 row.0) (tree_after t strings p seal row.1.save h tree)

    -- all but the trust and the sync of the peer at the end of the row
    abbrev nearly : Nearly c key end (held_after seal row.1.save h) (out_after row.1 row.0 out) notes
    nearly = record {
      reached = there;
      roles = roles_after;
      peer = peer_there;
      listed = good.listed.peer;
      tree = tree_then;
      seal = subst (SealFits lines) (sym (settled_seal p row.1 row.0 ∙ seal_same)) at.0.seal;
      mode = ap (λ (m : Mode). m.tree) (settled_mode p row.1 row.0 ∙ mode_same) ∙ at.0.mode;
      held = version_after seal row.1.save h ∙ at.0.held;
      fits = stands.fits;
      rests = stands.rests;
      noted = (spared_there view es steps kinds).notes ∙ at.0.noted;
      sends = all_after (SendHolds t.objects.ledger p) (sends_keep (now c at.0.reached).objects.ledger t.objects.ledger p good.goes.keeps p out.sends at.0.sends) (posted_to_hold t.objects.ledger p row.1.to row.1.message good.goes.says);
      listed_sends = all_after (λ (o : Outgoing). IsListedMessage lines.voting o.message) at.0.listed_sends (row_each (IsListedMessage lines.voting) row.1.to row.1.message listed_row);
      fits_sends = all_after (SendFits version lines t strings p) (sends_there view es steps good.goes.run strings version lines p out.sends at.0.fits_sends) (row_each (MessageFits version lines t strings p) row.1.to row.1.message good.fits);
    }

    -- a sync that runs on says what it said
    sync_there : Spares x end → SyncFits version lines t strings p end.fact end.trusted tree.last.map h.stores.tree.top end.sync
    sync_there spares =
        sync_spared version lines t strings t.objects.ledger p tree.last.map h.stores.tree.top (may_wait end.phase) x end spares peer_there.sync
        (sync_stays version lines (now c at.0.reached) t strings p x.fact x.trusted at.0.tree.last.map h.stores.tree.top x.sync (entries_there view es steps good.goes.run) at.0.peer.saved.ballot at.0.sync)

    -- the peer agrees with the run at the end of the row
    row_there : RowEnds key end (held_after seal row.1.save h) (out_after row.1 row.0 out) notes t.objects.ledger
    row_there = by_sight (settled_spares p row.1 x row.0 good.spares)
      where
        by_sight : IsBlind end ⊎ Spares x end → RowEnds key end (held_after seal row.1.save h) (out_after row.1 row.0 out) notes t.objects.ledger
        by_sight (inl blind) = record { rest = loses c nearly blind.0 blind.1; ledger = refl }
        by_sight (inr spares) = record {
          rest = (
            record {
              reached = there;
              roles = nearly.roles;
              peer = nearly.peer;
              listed = nearly.listed;
              trust = ap (λ (f : ℕ → Bool). f p) (spared_there view es steps kinds).trusted ∙ (at.0.trust ∙ sym spares.trusted);
              tree = tree_then;
              seal = nearly.seal;
              mode = nearly.mode;
              held = nearly.held;
              sync = subst (λ (root : Option (List ℕ)). SyncFits version lines t strings p end.fact end.trusted tree_then.last.map root end.sync) (root_after seal row.1.save h)
                  (subst (λ (m : List Entry). SyncFits version lines t strings p end.fact end.trusted m h.stores.tree.top end.sync) (map_after t strings p seal row.1.save h tree) (sync_there spares));
              fits = nearly.fits;
              task = rest_task t key end.phase nearly.rests;
              noted = nearly.noted;
              sends = nearly.sends;
              listed_sends = nearly.listed_sends;
              fits_sends = nearly.fits_sends;
            },
            nearly.rests,
          );
          ledger = refl;
        }

    -- the row is performed, and the plan goes on
    pub row_good : (next mark : Rest PeerState (List Task)) → Onward c (PhasesNext c) next mark → Ends c (row_done p row.1 row.0 out next) (row_done p row.1 row.0 out mark) h notes
    row_good next mark go =
        saved_ends c row.1.save (left row.1.leave row.0) (left_answers row.1.leave row.0 out)
        (λ u y o. followed_on p row.1.then (turned p row.1.then y) (turned_answers row.1.then y (and_sends o (posted_to row.1.to row.1.message))) next)
        (λ u y o. followed_on p row.1.then (turned p row.1.then y) (turned_answers row.1.then y (and_sends o (posted_to row.1.to row.1.message))) mark)
        h notes (λ s over. rests_over c at.0 s over.fact over.tops over.among) (λ s over. rests_over c row_there.rest.0 s over.fact over.tops over.among)
        (followed_ends row.1.then key turning (held_after seal row.1.save h) (out_after row.1 row.0 out) notes next mark row_there.rest
        (subst (λ (l : Ledger). ThenHolds l end row.1.then) (sym row_there.ledger) good.goes.syncs) good.listed.next go)
