-- A leader in the middle of a step: it is at work on a key; after each rule that is moves of the theory it is in
-- agreement with a longer run; and it may step down.
use Rattle.std.specs.Prelude.{All, map}
use Rattle.std.proofs.Common.{◌≡◌, ℕ, Bool, true, false, List, [], ◌++◌, append_assoc, Option, None, Some, refl, sym, ap, subst, ◌∙◌}
use Rattle.std.proofs.lemmas.Bool.{false≢true}
use Rattle.std.proofs.lemmas.List.Elements.{All-append, All-weaker}
use Rattle.protocol_laws.proofs.Steps.{onto_run, onto_state}
use Rattle.protocol_laws.specs.Ledger.{Ledger, Place, put, is_established}
use Rattle.protocol_laws.specs.Numbers.{epoch_number}
use Rattle.protocol_laws.specs.Objects.{Map}
use Rattle.protocol_laws.specs.Protocol.{State, Step, IsRun, state_after, after, MayAll, onto}
use Rattle.call_table.specs.Calls.{running}
use Rattle.call_table.specs.Rows.{row_at}
use Rattle.election_refinement.proofs.Keeps.{keeps_none}
use Rattle.election_refinement.specs.Keeps.{Keeps}
use Rattle.election_refinement.proofs.Listed.{listed_leader}
use Rattle.election_refinement.specs.Listed.{IsListedPeer, IsListedMessage}
use Rattle.election_refinement.specs.Refinement.{PeerHolds, SyncHolds, SendHolds, IsOrderly, IsLeading, IsStarted}
use Rattle.protocol_laws.proofs.Later.{stay_after}
use Rattle.ens_base.specs.declared.epoch.Epoch.{Epoch}
use Rattle.peer_refinement.specs.WorldSpec.{Held}
use Rattle.role_laws.proofs.Roles.{run_roles}
use Rattle.role_laws.specs.Leaders.{TurnsHold}
use Rattle.role_laws.specs.Moves.{IsLeaderMove}
use Rattle.role_laws.specs.Roles.{Follows as FollowsRole, Leads, Sent, IsLeaderOf, RolesHold, RolesMove}
use Rattle.role_laws.specs.Tables as theory
use Rattle.role_laws.specs.Tables.{Ghosts, Owed, timeouts}
use Rattle.leader_refinement.proofs.Leaving.{run_leaves, run_changes}
use Rattle.leader_refinement.proofs.Steps.{steps_keep, acks_shown}
use Rattle.leader_refinement.specs.Follows.{LeaderFits, TaskHolds, IsAtWork, SentSays, AreLeaderSteps, IsKept, Follows}
use Rattle.leader_refinement.specs.Seen.{ids_of, table_of, owed_after}
use Rattle.leader_output.specs.declared.out.AnswerOut.{AnswerOut}
use Rattle.leader_output.specs.declared.out.LeadOut.{LeadOut}
use Rattle.leader_output.specs.declared.out.Outgoing.{Outgoing}
use Rattle.leader.specs.Ticks.{left_answer}
use Rattle.leader.specs.declared.leader.Leader.{Leader}
use Rattle.leader.specs.declared.pending.Pending.TheVariants as tasks
use Rattle.peer_state.specs.Moves.{follower, and_answers, leading, with_leader}
use Rattle.peer_spec.specs.Syncs.{and_sends}
use Rattle.peer_state.specs.declared.state.Leadership.{Leadership}
use Rattle.peer_state.specs.declared.state.Phase.{Phase}
use Rattle.peer_state.specs.declared.state.Phase.TheVariants as phases
use Rattle.peer_state.specs.declared.state.State.{State as PeerState}
use Rattle.stored_formats.specs.declared.fact.Fact.{Fact}
use Rattle.register_model.specs.declared.note.Note.{Note}
use Rattle.peer_refinement.proofs.Replying.{run_serves}
use Rattle.peer_refinement.specs.Naming.{hash_of}
use Rattle.peer_refinement.specs.Replies.{MapSays, Serves}
use Rattle.tree_sync.specs.Running.{Running}
use Rattle.step_plans.specs.Plans.{Out}
use Rattle.step_plans.specs.Saved.{bare}
use Rattle.peer_refinement.proofs.Gives.{trusted_maps}
use Rattle.protocol_laws.proofs.Maps.{put_here}
use Rattle.step_refinement.specs.Scenes.{Scene, state_before, Elsewhere, now, Here, AtRest}
use Rattle.step_refinement.proofs.Stretches.{role_here, role_replaced, role_once, owed_both, elsewhere_then}
use Rattle.step_refinement.proofs.SentMessages.{says_more}
use Rattle.step_refinement.proofs.LeaderMessages.{AskFits, AcksShow, asks_say, call_holds, call_listed, call_fits, acks_later}
use Rattle.step_refinement.proofs.LaterStates.{sync_stays, sends_stay}
use Rattle.step_refinement.proofs.ShownMaps.{tree_stays}
use Rattle.step_refinement.specs.Peers.{TreeHolds, SealFits, AcksSay, PhaseFits, TaskFits, IsAtRest, SendFits, SyncFits}
use Rattle.step_refinement.specs.Roles.{role_in, said_in_sends}

-- ## A leader of the epoch

-- the same leadership with another leader of the epoch
pub still_leads : (l : Ledger) (p : ℕ) (fact : Fact) (leadership : Leadership) (leader : Leader) → leader.fact ≡ leadership.leader.fact → leader.accepts ≡ leadership.leader.accepts → IsLeading l p fact leadership → IsLeading l p fact (with_leader leader leadership)
still_leads l p fact leadership leader same accepts old = record {
  started = subst (λ f. IsStarted l p fact f leader.accepts) (sym same) (subst (λ set. IsStarted l p fact leadership.leader.fact set) (sym accepts) old.started);
  established = subst (λ (f : Fact). is_established l (epoch_number f.epoch) ≡ true) (sym same) old.established;
  has = subst (λ (f : Fact). fact.epoch ≡ f.epoch) (sym same) old.has;
  change = old.change;
}

-- no sync runs at a leader
pub no_sync : (l : Ledger) (p : ℕ) (fact : Fact) (sync : Option Running) → SyncHolds l p fact false sync → sync ≡ None
no_sync l p fact None holds = refl
no_sync l p fact (Some r) holds = absurd (false≢true holds.may.waits)

module _ (c : Scene) where
  open c use {lines, version, view, strings, peer as p}

  -- ## A longer run

  -- what is said of the peer in mid-step besides calls, in this state of any run
  pub record Standing (x : PeerState) (h : Held) (out : Out) (notes : List Note) (t : State) : Type 0 where
    pub elsewhere : Elsewhere p (state_before c) t
    pub orderly : IsOrderly t.objects.ledger
    pub acks : AcksSay t strings
    pub peer : PeerHolds t.objects.ledger p x (bare h.stores.facts.kept)
    pub listed : IsListedPeer lines.voting p x
    pub trust : t.objects.trusted p ≡ x.trusted
    pub tree : TreeHolds t strings p x.seal h
    pub seal : SealFits lines x.seal
    pub mode : x.mode.tree ≡ version
    pub held : h.stores.tree.version ≡ version
    pub sync : SyncFits version lines t strings p x.fact x.trusted tree.last.map h.stores.tree.top x.sync
    pub noted : t.book.notes ≡ (state_before c).book.notes ++ notes
    pub sends : All (SendHolds t.objects.ledger p) out.sends
    pub listed_sends : All (λ (o : Outgoing). IsListedMessage lines.voting o.message) out.sends
    pub fits_sends : All (SendFits version lines t strings p) out.sends

  -- and what is said of calls
  pub record Stands (key : List ℕ) (x : PeerState) (h : Held) (out : Out) (notes : List Note) (g : Ghosts) (t : State) : Type 0 where
    pub hash : g.hash ≡ hash_of
    pub roles : RolesHold g t (put c.roles p (role_in key x.phase (owed_after [] out.answers))) (said_in_sends p out.sends ++ c.said)
    pub fits : PhaseFits g.hash t x.phase
    pub task : TaskFits t key x.phase
    pub standing : Standing x h out notes t

  -- what stands of a peer that is in agreement
  abbrev pub standing_of : (key : List ℕ) (x : PeerState) (h : Held) (out : Out) (notes : List Note) (here : Here c key x h out notes) → Standing x h out notes (now c here.reached)
  standing_of key x h out notes here = record {
    elsewhere = here.reached.elsewhere;
    orderly = here.reached.orderly;
    acks = here.reached.acks;
    peer = here.peer;
    listed = here.listed;
    trust = here.trust;
    tree = here.tree;
    seal = here.seal;
    mode = here.mode;
    held = here.held;
    sync = here.sync;
    noted = here.noted;
    sends = here.sends;
    listed_sends = here.listed_sends;
    fits_sends = here.fits_sends;
  }

  -- a peer of which this stands after a run is in agreement with it
  abbrev pub stands_here : (key : List ℕ) (x : PeerState) (h : Held) (out : Out) (notes : List Note) (g : Ghosts) (steps : List Step) → IsRun view steps → Stands key x h out notes g (state_after view steps) → Here c key x h out notes
  stands_here key x h out notes g steps run there = let standing = there.standing in record {
    reached = record { steps = steps; run = run; ghosts = g; hash = there.hash; elsewhere = standing.elsewhere; orderly = standing.orderly; acks = standing.acks };
    roles = there.roles;
    peer = standing.peer;
    listed = standing.listed;
    trust = standing.trust;
    tree = standing.tree;
    seal = standing.seal;
    mode = standing.mode;
    held = standing.held;
    sync = standing.sync;
    fits = there.fits;
    task = there.task;
    noted = standing.noted;
    sends = standing.sends;
    listed_sends = standing.listed_sends;
    fits_sends = standing.fits_sends;
  }

  -- a run goes on with these steps, oldest first
  pub stands_on : (key : List ℕ) (x : PeerState) (h : Held) (out : Out) (notes : List Note) (before : List Step) (g : Ghosts) (steps : List Step) → IsRun view before → MayAll (state_after view before) steps → Stands key x h out notes g (after (state_after view before) steps)
      → Here c key x h out notes
  stands_on key x h out notes before g steps run may there = stands_here key x h out notes g (onto steps before) (onto_run view steps before run may) (subst (Stands key x h out notes g) (sym (onto_state view steps before)) there)

  -- ## The steps of a leader

  -- the leader takes these steps, and answers, notes and sends what it did
  module _ (l : Leadership) (x : PeerState) (h : Held) (out : Out) (notes : List Note) (s : State) (old : Standing (leading l x) h out notes s) (steps : List Step) (may : MayAll s steps) (kinds : AreLeaderSteps s l.leader.me steps) (r : Leader × LeadOut)
      (same : (r.0.fact ≡ l.leader.fact) × ((r.0.me ≡ l.leader.me) × (r.0.accepts ≡ l.leader.accepts))) (told_notes : (after s steps).book.notes ≡ s.book.notes ++ r.1.notes) where
    abbrev later : State
    later = after s steps

    kept : IsKept s later
    kept = steps_keep s l.leader.me steps kinds

    moved : Elsewhere p s later
    moved = record {
      ledger = subst (λ m. Keeps s.objects.ledger m p) (sym kept.ledger) (keeps_none s.objects.ledger p);
      map = λ q other. ap (λ (m : ℕ → Map). m q) kept.map;
      visible = λ q other. ap (λ (m : ℕ → Map). m q) kept.visible;
      trusted = λ q other. ap (λ (m : ℕ → Bool). m q) kept.trusted;
      reverted = λ q. ap (λ (m : ℕ → Bool). m q) kept.reverted;
      stays = stay_after s steps may;
      calls = kept.calls;
      called = kept.called;
      answers = kept.answers;
      answered = kept.answered;
      now = kept.now;
    }

    -- the leadership with the leader as it is now
    abbrev after_rule : Leadership
    after_rule = with_leader r.0 l

    new_peer : PeerHolds later.objects.ledger p (leading after_rule x) (bare h.stores.facts.kept)
    new_peer = subst (λ m. PeerHolds m p (leading after_rule x) (bare h.stores.facts.kept)) (sym kept.ledger) (record {
      saved = old.peer.saved;
      kept = old.peer.kept;
      phase = still_leads s.objects.ledger p x.fact l r.0 same.0 same.1.1 old.peer.phase;
      sync = old.peer.sync;
    })

    new_listed : IsListedPeer lines.voting p (leading after_rule x)
    new_listed = record { fact = old.listed.fact; phase = listed_leader old.listed.phase r.0 same.0; sync = old.listed.sync }

    new_sends : All AskFits r.1.sends → All (SendHolds later.objects.ledger p) (out.sends ++ r.1.sends)
    new_sends asks = subst (λ m. All (SendHolds m p) (out.sends ++ r.1.sends)) (sym kept.ledger)
        (All-append (SendHolds s.objects.ledger p) out.sends r.1.sends old.sends (All-weaker AskFits (SendHolds s.objects.ledger p) (λ o a. (a.to, call_holds s.objects.ledger p o.message a.fits)) r.1.sends asks))

    new_listed_sends : All AskFits r.1.sends → All (λ (o : Outgoing). IsListedMessage lines.voting o.message) (out.sends ++ r.1.sends)
    new_listed_sends asks = All-append (λ (o : Outgoing). IsListedMessage lines.voting o.message) out.sends r.1.sends old.listed_sends
        (All-weaker AskFits (λ (o : Outgoing). IsListedMessage lines.voting o.message) (λ o a. call_listed lines.voting o.message a.fits) r.1.sends asks)

    new_fits_sends : All AskFits r.1.sends → All (SendFits version lines later strings p) (out.sends ++ r.1.sends)
    new_fits_sends asks = All-append (SendFits version lines later strings p) out.sends r.1.sends
        (sends_stay s later strings (stay_after s steps may) version lines p out.sends old.fits_sends)
        (All-weaker AskFits (SendFits version lines later strings p) (λ o a. call_fits version lines later strings p o.message a.fits) r.1.sends asks)

    shows : l.leader.me ≡ p → AcksShow s p later
    shows own = subst (λ q. AcksShow s q later) own (acks_shown s l.leader.me steps kinds)

    -- what stands of the leader still does after a rule that is moves of the theory
    pub steps_stand : (g : Ghosts) → g.hash ≡ hash_of → MapSays s strings p old.tree.last.map → l.leader.me ≡ p → All AskFits r.1.sends → Standing (leading (with_leader r.0 l) x) h (and_sends (and_answers out r.1.answers) r.1.sends) (notes ++ r.1.notes) later
    steps_stand g hash map_says own asks = record {
      elsewhere = elsewhere_then p (state_before c) s later old.elsewhere moved;
      orderly = subst IsOrderly (sym kept.ledger) old.orderly;
      acks = acks_later s g strings p old.tree.last.map steps hash c.free map_says may (shows own) old.acks;
      peer = new_peer;
      listed = new_listed;
      trust = ap (λ (t : ℕ → Bool). t p) kept.trusted ∙ old.trust;
      tree = tree_stays s later strings p x.seal h (stay_after s steps may) (ap (λ (m : ℕ → Map). m p) kept.visible) (ap (λ (m : ℕ → Map). m p) kept.map) (λ blind. ap (λ (t : ℕ → Bool). t p) kept.trusted ∙ blind) old.tree;
      seal = old.seal;
      mode = old.mode;
      held = old.held;
      sync = sync_stays version lines s later strings p x.fact x.trusted old.tree.last.map h.stores.tree.top x.sync (stay_after s steps may) old.peer.saved.ballot old.sync;
      noted = told_notes ∙ ap (λ ns. ns ++ r.1.notes) old.noted ∙ append_assoc (state_before c).book.notes notes r.1.notes;
      sends = new_sends asks;
      listed_sends = new_listed_sends asks;
      fits_sends = new_fits_sends asks;
    }

  -- the roles of all peers after a move of the leader
  pub move_roles : (key : List ℕ) (out : Out) (l : Leader) (s : State) (g e : Ghosts) (steps : List Step) (r : Leader × LeadOut) → RolesMove s → RolesHold g s (put c.roles p (Leads (table_of key (owed_after [] out.answers) l))) (said_in_sends p out.sends ++ c.said)
      → (r.0.fact ≡ l.fact) × ((r.0.me ≡ l.me) × (r.0.accepts ≡ l.accepts)) → IsLeaderMove g s steps e (table_of key (owed_after (owed_after [] out.answers) r.1.answers) r.0) → TurnsHold e (after s steps) → All (SentSays e (after s steps)) r.1.sends
      → RolesHold e (after s steps) (put c.roles p (Leads (table_of key (owed_after [] (out.answers ++ r.1.answers)) r.0))) (said_in_sends p (out.sends ++ r.1.sends) ++ c.said)
  move_roles key out l s g e steps r moves roles same move turns says =
      subst (λ (o : List Owed). RolesHold e (after s steps) (put c.roles p (Leads (table_of key o r.0))) (said_in_sends p (out.sends ++ r.1.sends) ++ c.said)) (sym (owed_both [] out.answers r.1.answers))
      (says_more e (after s steps) (put c.roles p (Leads next)) p c.said out.sends r.1.sends (asks_say e (after s steps) p r.1.sends says)
      (role_once e (after s steps) p sent c.roles (Leads before) (Leads next)
      ((moves.peer g (put c.roles p (Leads before)) sent p roles).leads e before next steps (put_here c.roles p (Leads before)) (ap (λ (fact : Fact). epoch_number fact.epoch) same.0) same.1.0 move turns)))
    where
      sent : List Sent
      sent = said_in_sends p out.sends ++ c.said

      before : theory.Leader
      before = table_of key (owed_after [] out.answers) l

      next : theory.Leader
      next = table_of key (owed_after (owed_after [] out.answers) r.1.answers) r.0

  -- ## A leader at work

  -- a peer stays in agreement if its phase is written out
  pub as_leading : {key : List ℕ} {h : Held} {out : Out} {notes : List Note} (x : PeerState) (phase : Phase) → x.phase ≡ phase → Here c key x h out notes → Here c key (record x { phase = phase }) h out notes
  as_leading {key} {h} {out} {notes} x phase is here = subst (λ (f : Phase). Here c key (record x { phase = f }) h out notes) is here

  module _ {key : List ℕ} {h : Held} {out : Out} {notes : List Note} (l : Leadership) (x : PeerState) (here : Here c key (leading l x) h out notes) where
    abbrev state : State
    state = now c here.reached

    abbrev ghosts : Ghosts
    ghosts = here.reached.ghosts

    abbrev owed : List Owed
    owed = owed_after [] out.answers

    -- the table of the leader is that of a leader of the theory
    pub leads_here : IsLeaderOf ghosts state p (table_of key owed l.leader)
    leads_here = role_here ghosts state p (said_in_sends p out.sends ++ c.said) c.roles (Leads (table_of key owed l.leader)) here.roles

    -- the leader is at work on the key
    pub at_work : IsAtWork ghosts state key owed l.leader
    at_work = record { holds = leads_here.table; turns = here.roles.turns; fits = here.fits; task = here.task }

    -- its number is that of its peer
    pub own_peer : l.leader.me ≡ p
    own_peer = leads_here.peer

    -- the leader's own peer trusts its tree
    trusts : state.objects.trusted p ≡ true
    trusts = here.trust ∙ here.listed.phase.sees

    -- so the tree shows the map that the peer wrote last
    pub own_map : MapSays state strings p here.tree.last.map
    own_map = trusted_maps view here.reached.steps here.reached.run strings p here.tree.last.map trusts here.tree.last.says

    serves : Serves state p x.fact true
    serves = let saved = here.peer.saved in
        run_serves view here.reached.steps here.reached.run p x.fact true saved.ballot (ap (λ (place : Place). place.epoch) saved.place) trusts saved.known.ballot saved.known.epoch saved.known.below

    -- the peer stands at the epoch, which it accepted
    pub own_ballot : state.objects.ledger.ballot l.leader.me ≡ epoch_number l.leader.fact.epoch
    own_ballot = subst (λ q. state.objects.ledger.ballot q ≡ epoch_number l.leader.fact.epoch) (sym own_peer) (here.peer.saved.ballot ∙ ap epoch_number (sym here.peer.phase.started.at_ballot))

    -- the peer trusts its tree
    pub own_trust : state.objects.trusted l.leader.me ≡ true
    own_trust = subst (λ q. state.objects.trusted q ≡ true) (sym own_peer) trusts

    -- the peer accepted the epoch
    pub own_accepted : state.objects.ledger.accepted (epoch_number l.leader.fact.epoch) l.leader.me ≡ true
    own_accepted = subst (λ q. state.objects.ledger.accepted (epoch_number l.leader.fact.epoch) q ≡ true) (sym own_peer) (subst (λ (e : Epoch). state.objects.ledger.accepted (epoch_number e) p ≡ true) here.peer.phase.has serves.accepted)

    -- without a task the leader is the same whatever the key is
    abbrev pub rekeyed_leader : (k : List ℕ) → l.leader.task ≡ tasks.Nothing → Here c k (leading l x) h out notes
    rekeyed_leader k free = let work = (run_changes view here.reached.steps here.reached.run).works ghosts key k owed l.leader free at_work in record {
      reached = here.reached;
      roles = role_replaced ghosts state p (said_in_sends p out.sends ++ c.said) c.roles (Leads (table_of key owed l.leader)) (Leads (table_of k owed l.leader)) here.roles (record { peer = leads_here.peer; own = leads_here.own; table = work.holds });
      peer = here.peer;
      listed = here.listed;
      trust = here.trust;
      tree = here.tree;
      seal = here.seal;
      mode = here.mode;
      held = here.held;
      sync = here.sync;
      fits = here.fits;
      task = work.task;
      noted = here.noted;
      sends = here.sends;
      listed_sends = here.listed_sends;
      fits_sends = here.fits_sends;
    }

    -- the leader has made a move, and goes on from there
    pub moved_here : (r : Leader × LeadOut) (steps : List Step) (e : Ghosts) → IsLeaderMove ghosts state steps e (table_of key (owed_after owed r.1.answers) r.0) → AreLeaderSteps state l.leader.me steps → TurnsHold e (after state steps) → LeaderFits e.hash (after state steps) r.0
        → (r.0.fact ≡ l.leader.fact) × ((r.0.me ≡ l.leader.me) × (r.0.accepts ≡ l.leader.accepts)) → TaskHolds (after state steps) r.0 key (row_at key r.0.table.rows).known (running key r.0.table.calls) r.0.task → (after state steps).book.notes ≡ state.book.notes ++ r.1.notes
        → All (SentSays e (after state steps)) r.1.sends → All AskFits r.1.sends → Here c key (leading (with_leader r.0 l) x) h (and_sends (and_answers out r.1.answers) r.1.sends) (notes ++ r.1.notes)
    moved_here r steps e move kinds turns fits same task told_notes says asks =
        stands_on key (leading (with_leader r.0 l) x) h (and_sends (and_answers out r.1.answers) r.1.sends) (notes ++ r.1.notes) here.reached.steps e steps here.reached.run move.may (record {
          hash = move.ghosts.hash ∙ here.reached.hash;
          roles = move_roles key out l.leader state ghosts e steps r (run_roles view here.reached.steps here.reached.run) here.roles same move turns says;
          fits = fits;
          task = task;
          standing = steps_stand l x h out notes state (standing_of key (leading l x) h out notes here) steps move.may kinds r same told_notes ghosts here.reached.hash own_map own_peer asks;
        })

    -- the leader has followed a rule
    pub led : (r : Leader × LeadOut) (f : Follows ghosts state key owed l.leader r) → All AskFits r.1.sends → Here c key (leading (with_leader r.0 l) x) h (and_sends (and_answers out r.1.answers) r.1.sends) (notes ++ r.1.notes)
    led r f asks = moved_here r f.steps f.ghosts f.move f.kinds f.turns f.fits f.same f.task f.notes f.sends asks

    -- ## Stepping down

    -- the leader steps down, and each of its calls is owed a timeout
    pub stepped : Here c [] (record x { phase = follower }) h (and_answers out (map left_answer l.leader.table.calls)) notes
    stepped = record {
      reached = here.reached;
      roles = left_role;
      peer = record { saved = here.peer.saved; kept = here.peer.kept; phase = tt; sync = subst (λ (sync : Option Running). SyncHolds state.objects.ledger p x.fact true sync) (sym (no_sync state.objects.ledger p x.fact x.sync here.peer.sync)) tt };
      listed = record { fact = here.listed.fact; phase = tt; sync = here.listed.sync };
      trust = here.trust;
      tree = here.tree;
      seal = here.seal;
      mode = here.mode;
      held = here.held;
      sync = here.sync;
      fits = tt;
      task = tt;
      noted = here.noted;
      sends = here.sends;
      listed_sends = here.listed_sends;
      fits_sends = here.fits_sends;
    }
      where
        said_here : List Sent
        said_here = said_in_sends p out.sends ++ c.said

        answers : List AnswerOut
        answers = map left_answer l.leader.table.calls

        left_role : RolesHold ghosts state (put c.roles p (FollowsRole (owed_after [] (out.answers ++ answers)))) said_here
        left_role = let leaves = run_leaves view here.reached.steps here.reached.run ghosts key owed l.leader at_work in
            subst (λ (o : List Owed). RolesHold ghosts state (put c.roles p (FollowsRole o)) said_here) (sym (owed_both [] out.answers answers ∙ leaves.answers))
            (role_once ghosts state p said_here c.roles (Leads (table_of key owed l.leader)) (FollowsRole (owed ++ timeouts (ids_of l.leader.table.calls)))
            (((run_roles view here.reached.steps here.reached.run).peer ghosts (put c.roles p (Leads (table_of key owed l.leader))) said_here p here.roles).leaves (table_of key owed l.leader) (ids_of l.leader.table.calls)
            (put_here c.roles p (Leads (table_of key owed l.leader))) leaves.distinct leaves.among))

  -- ## No task at hand

  rekeyed_phase : (key k : List ℕ) (x : PeerState) (h : Held) (out : Out) (notes : List Note) (phase : Phase) → Here c key (record x { phase = phase }) h out notes → IsAtRest phase → Here c k (record x { phase = phase }) h out notes
  rekeyed_phase key k x h out notes (phases.Leading l) here free = rekeyed_leader l x here k free
  rekeyed_phase key k x h out notes (phases.Following f) here free = record { reached = here.reached; roles = here.roles; peer = here.peer; listed = here.listed; trust = here.trust; tree = here.tree; seal = here.seal; mode = here.mode; held = here.held; sync = here.sync; fits = tt; task = tt; noted = here.noted; sends = here.sends; listed_sends = here.listed_sends; fits_sends = here.fits_sends }
  rekeyed_phase key k x h out notes (phases.Probing b) here free = record { reached = here.reached; roles = here.roles; peer = here.peer; listed = here.listed; trust = here.trust; tree = here.tree; seal = here.seal; mode = here.mode; held = here.held; sync = here.sync; fits = tt; task = tt; noted = here.noted; sends = here.sends; listed_sends = here.listed_sends; fits_sends = here.fits_sends }
  rekeyed_phase key k x h out notes (phases.Electing e) here free = record { reached = here.reached; roles = here.roles; peer = here.peer; listed = here.listed; trust = here.trust; tree = here.tree; seal = here.seal; mode = here.mode; held = here.held; sync = here.sync; fits = tt; task = tt; noted = here.noted; sends = here.sends; listed_sends = here.listed_sends; fits_sends = here.fits_sends }

  -- without a task at hand the key says nothing
  pub rekeyed : (key k : List ℕ) (x : PeerState) (h : Held) (out : Out) (notes : List Note) → AtRest c key x h out notes → AtRest c k x h out notes
  rekeyed key k x h out notes rest = (rekeyed_phase key k x h out notes x.phase rest.0 rest.1, rest.1)
