-- What a leader does on a call, and on the replies to what it has asked.
use Rattle.std.proofs.Common.{◌≡◌, inl, ℕ, List, [], ◌∷◌, ◌++◌, append-nil, Option, Some, None, refl, sym, subst, ◌∙◌}
use Rattle.std.proofs.lemmas.List.Elements.{All-nil}
use Rattle.ens_base.specs.Lists.{◌∈◌}
use Rattle.ens_base.specs.declared.entry.Entry.{Entry}
use Rattle.ens_base.specs.declared.epoch.Epoch.{Epoch}
use Rattle.ens_base.specs.declared.epoch.Version.{Version}
use Rattle.ens_base.specs.declared.reply.Reply.TheVariants.{Unavailable}
use Rattle.stored_formats.specs.declared.object.Object.{Object}
use Rattle.protocol_laws.specs.Book.{MayCall}
use Rattle.protocol_laws.specs.Ledger.{put}
use Rattle.protocol_laws.specs.Numbers.{epoch_number}
use Rattle.protocol_laws.specs.Protocol.{State, Step, Ask, IsRun, state_after, MayCome}
use Rattle.call_table.specs.Rows.{check_at}
use Rattle.phase_rules.specs.declared.election.Election.{Election}
use Rattle.phase_rules.specs.declared.election.Election.TheVariants.{Preparing, Starting}
use Rattle.election_refinement.specs.Listed.{IsListedMessage}
use Rattle.election_refinement.specs.Refinement.{SendHolds}
use Rattle.protocol_laws.proofs.Later.{stay_step}
use Rattle.protocol_laws.specs.Stays.{EntriesStay}
use Rattle.peer_refinement.specs.WorldSpec.{Held}
use Rattle.role_laws.proofs.Roles.{run_roles}
use Rattle.role_laws.specs.Roles.{Role, Entry as Entries, Acks, Stands as StandsThere, with_owed, owed_by, RolesHold}
use Rattle.role_laws.specs.Tables.{Ghosts, with_home}
use Rattle.leader_refinement.proofs.Asking.{run_got}
use Rattle.leader_refinement.proofs.Checks.{run_counts}
use Rattle.leader_refinement.proofs.Joins.{run_joins}
use Rattle.leader_refinement.proofs.Puts.{run_acknowledged}
use Rattle.leader_refinement.specs.Follows.{Follows, TakesCall}
use Rattle.leader_refinement.specs.Laws.{EntryFits}
use Rattle.leader_refinement.specs.Seen.{rank, entry_rank, shown, owed_after}
use Rattle.leader_output.specs.Outs.{rests}
use Rattle.leader_output.specs.declared.out.LeadOut.{LeadOut}
use Rattle.leader_output.specs.declared.out.Outgoing.{Outgoing}
use Rattle.leader.specs.Puts.{row_35_reply}
use Rattle.leader.specs.Rounds.{row_29_reply, stood_at, row_33_reply}
use Rattle.leader.specs.Starts.{row_27}
use Rattle.leader.specs.declared.leader.Leader.{Leader}
use Rattle.leader.specs.declared.pending.Pending.TheVariants as pendings
use Rattle.peer_spec.specs.Drives.{lead_done, lead, delivered, unavailable, called}
use Rattle.peer_state.specs.Moves.{and_answers, leading, with_leader}
use Rattle.peer_state.specs.Rows.{has_begun}
use Rattle.peer_spec.specs.Syncs.{and_sends}
use Rattle.peer_state.specs.declared.event.CallIn.{CallIn}
use Rattle.peer_state.specs.declared.state.Leadership.{Leadership}
use Rattle.peer_state.specs.declared.state.Phase.{Phase}
use Rattle.peer_state.specs.declared.state.Phase.TheVariants as phases
use Rattle.peer_state.specs.declared.state.State.{State as PeerState}
use Rattle.register_model.specs.declared.call.Call.{Call}
use Rattle.register_model.specs.declared.note.Note.{Note}
use Rattle.peer_refinement.proofs.RequestStaying.{maps_stay}
use Rattle.peer_refinement.specs.Naming.{EntryMaySay}
use Rattle.peer_refinement.specs.Replies.{MapSays}
use Rattle.step_plans.specs.Plans.{Out, nothing, Rest}
use Rattle.step_plans.specs.declared.tasks.Task.{Task}
use Rattle.protocol_laws.proofs.Maps.{put_here}
use Rattle.wire_frames.specs.declared.message.Message.TheVariants as messages
use Rattle.step_refinement.proofs.CallByCall.{Ends, Onward}
use Rattle.step_refinement.specs.Keys.{AreFew}
use Rattle.step_refinement.specs.Scenes.{Scene, state_before, now, Here, AtRest}
use Rattle.step_refinement.specs.Steps.{asked_in, with_call}
use Rattle.step_refinement.proofs.LeadersAtWork.{Standing, Stands, standing_of, stands_here, stands_on, steps_stand, move_roles, at_work, own_peer, own_map, rekeyed_leader}
use Rattle.step_refinement.proofs.LeaderPlans.{There, told_nothing, calm_plan, tame_ends}
use Rattle.step_refinement.proofs.TreeLookups.{over_here, confirmed_ends}
use Rattle.step_refinement.proofs.Stretches.{role_once, elsewhere_none}
use Rattle.step_refinement.proofs.SentMessages.{says_here}
use Rattle.step_refinement.proofs.LaterStates.{acks_stay, sync_stays}
use Rattle.step_refinement.proofs.LeaderOutcomes.{calm_27, tame_got, tame_stands, tame_put}
use Rattle.step_refinement.proofs.LeaderTasks.{TasksFit}
use Rattle.step_refinement.proofs.ShownMaps.{tree_stays}
use Rattle.step_refinement.proofs.SaidVersions.{Confirmed}
use Rattle.step_refinement.specs.Peers.{AsksFit, IsAtRest, SendFits}
use Rattle.step_refinement.specs.Roles.{role_in}

module _ (c : Scene) where
  open c use {view, strings, peer as p}

  onward_all : (next mark : Rest PeerState (List Task)) → Onward c (TasksFit c) next mark → Onward c (There c []) next mark
  onward_all next mark go more k y g o ns there = go more k y g o ns (subst (λ ts. TasksFit c ts k y g o ns) (append-nil more) there)

  -- a leader to whom a row says nothing
  idle_ends : (key : List ℕ) (l : Leadership) (x : PeerState) (h : Held) (out : Out) (notes : List Note) → AtRest c key (leading l x) h out notes → (next mark : Rest PeerState (List Task)) → Onward c (TasksFit c) next mark
      → Ends c (lead_done p rests (leading (with_leader l.leader l) x) out next) (lead_done p rests (leading (with_leader l.leader l) x) out mark) h notes
  idle_ends key l x h out notes rest next mark go = go [] key (leading l x) h (and_sends (and_answers out []) []) notes
      (inl ((subst (λ (o : Out). Here c key (leading l x) h o notes) (sym (told_nothing out)) rest.0, rest.1), tt))

  -- ## Replies

  -- rule 35, PutReply
  pub put_heard : (from : ℕ) (ballot : Epoch) (key : List ℕ) (version : Version) (phase : Phase) (k : List ℕ) (x : PeerState) (h : Held) (out : Out) (notes : List Note) → AtRest c k (record x { phase = phase }) h out notes
      → record { from = from; said = Acks (rank version) } ∈ c.said → (next mark : Rest PeerState (List Task)) → Onward c (TasksFit c) next mark
      → Ends c (delivered p from (messages.PutReply ballot key version) (record x { phase = phase }) out next) (delivered p from (messages.PutReply ballot key version) (record x { phase = phase }) out mark) h notes
  put_heard from ballot key version (phases.Leading l) k x h out notes rest said next mark go = let here = rekeyed_leader c l x rest.0 key rest.1 in
      tame_ends c l x here (row_35_reply from ballot key version l.leader) [] (tame_put from ballot key version l.leader)
      (run_acknowledged view here.reached.steps here.reached.run here.reached.ghosts key (owed_after [] out.answers) l.leader from ballot version (at_work c l x here) rest.1 (says_here c here from (Acks (rank version)) said))
      tt tt next mark (onward_all next mark go)
  put_heard from ballot key version (phases.Following f) k x h out notes rest said next mark go = go [] k (record x { phase = phases.Following f }) h out notes (inl (rest, tt))
  put_heard from ballot key version (phases.Probing b) k x h out notes rest said next mark go = go [] k (record x { phase = phases.Probing b }) h out notes (inl (rest, tt))
  put_heard from ballot key version (phases.Electing e) k x h out notes rest said next mark go = go [] k (record x { phase = phases.Electing e }) h out notes (inl (rest, tt))

  -- rule 33, CheckReply
  pub check_heard : (from : ℕ) (ballot : Epoch) (round : ℕ) (phase : Phase) (k : List ℕ) (x : PeerState) (h : Held) (out : Out) (notes : List Note) → AtRest c k (record x { phase = phase }) h out notes
      → record { from = from; said = StandsThere (epoch_number ballot) round } ∈ c.said → (next mark : Rest PeerState (List Task)) → Onward c (TasksFit c) next mark
      → Ends c (delivered p from (messages.CheckReply ballot round) (record x { phase = phase }) out next) (delivered p from (messages.CheckReply ballot round) (record x { phase = phase }) out mark) h notes
  check_heard from ballot round (phases.Leading l) k x h out notes rest said next mark go = by_check (check_at round l.leader.table.checks) refl
    where
      Plans : Leader × LeadOut → Type 0
      Plans r = Ends c (lead_done p r.1 (leading (with_leader r.0 l) x) out next) (lead_done p r.1 (leading (with_leader r.0 l) x) out mark) h notes

      by_check : (key : Option (List ℕ)) → check_at round l.leader.table.checks ≡ key → Plans (stood_at key from ballot round l.leader)
      by_check None is = idle_ends k l x h out notes rest next mark go
      by_check (Some key) is = let here = rekeyed_leader c l x rest.0 key rest.1 in
          subst (λ found. Plans (stood_at found from ballot round l.leader)) is
          (tame_ends c l x here (row_33_reply from ballot round l.leader) [] (tame_stands from ballot round l.leader)
          (run_counts view here.reached.steps here.reached.run here.reached.ghosts key (owed_after [] out.answers) l.leader from ballot round (at_work c l x here) rest.1 is (says_here c here from (StandsThere (epoch_number ballot) round) said))
          tt tt next mark (onward_all next mark go))
  check_heard from ballot round (phases.Following f) k x h out notes rest said next mark go = go [] k (record x { phase = phases.Following f }) h out notes (inl (rest, tt))
  check_heard from ballot round (phases.Probing b) k x h out notes rest said next mark go = go [] k (record x { phase = phases.Probing b }) h out notes (inl (rest, tt))
  check_heard from ballot round (phases.Electing e) k x h out notes rest said next mark go = go [] k (record x { phase = phases.Electing e }) h out notes (inl (rest, tt))

  -- rule 29, GetReply
  pub got_heard : (from : ℕ) (ballot : Epoch) (round : ℕ) (key : List ℕ) (entry : Option Entry) (object : Option Object) (phase : Phase) (k : List ℕ) (x : PeerState) (h : Held) (out : Out) (notes : List Note) → (rest : AtRest c k (record x { phase = phase }) h out notes)
      → record { from = from; said = Entries (epoch_number ballot) round key (entry_rank entry) (shown entry object) } ∈ c.said → EntryMaySay (now c rest.0.reached) strings entry → EntryFits entry → (next mark : Rest PeerState (List Task)) → Onward c (TasksFit c) next mark
      → Ends c (delivered p from (messages.GetReply ballot round key entry object) (record x { phase = phase }) out next) (delivered p from (messages.GetReply ballot round key entry object) (record x { phase = phase }) out mark) h notes
  got_heard from ballot round key entry object (phases.Leading l) k x h out notes rest said entry_says fits next mark go =
      confirmed_ends c here from (epoch_number ballot) round key entry object (λ named y o. lead (row_29_reply from ballot round key entry named) p y.phase y o next) (λ named y o. lead (row_29_reply from ballot round key entry named) p y.phase y o mark)
      (says_here c here from (Entries (epoch_number ballot) round key (entry_rank entry) (shown entry object)) said) entry_says (λ named t over confirmed. heard named t (over_here c here t over) confirmed)
    where
      here : Here c key (leading l x) h out notes
      here = rekeyed_leader c l x rest.0 key rest.1

      heard : (named : Option Object) (t : Held) (there : Here c key (leading l x) t out notes) → Confirmed there.reached.ghosts (now c there.reached) from (epoch_number ballot) round key entry named
          → Ends c (lead (row_29_reply from ballot round key entry named) p (phases.Leading l) (leading l x) out next) (lead (row_29_reply from ballot round key entry named) p (phases.Leading l) (leading l x) out mark) t notes
      heard named t there confirmed = tame_ends c l x there (row_29_reply from ballot round key entry named l.leader) [] (tame_got from ballot round key entry named l.leader)
          (run_got view there.reached.steps there.reached.run there.reached.ghosts key (owed_after [] out.answers) l.leader from ballot round entry named (at_work c l x there) rest.1 confirmed.reply fits confirmed.found_says)
          tt tt next mark (onward_all next mark go)
  got_heard from ballot round key entry object (phases.Following f) k x h out notes rest said entry_says fits next mark go = go [] k (record x { phase = phases.Following f }) h out notes (inl (rest, tt))
  got_heard from ballot round key entry object (phases.Probing b) k x h out notes rest said entry_says fits next mark go = go [] k (record x { phase = phases.Probing b }) h out notes (inl (rest, tt))
  got_heard from ballot round key entry object (phases.Electing e) k x h out notes rest said entry_says fits next mark go = go [] k (record x { phase = phases.Electing e }) h out notes (inl (rest, tt))

-- ## Calls

module _ (c : Scene) (call : CallIn) (few : AreFew (state_after c.view (Ask (asked_in (state_before c) call) ∷ c.begun)).book.calls) (asked : AsksFit (state_after c.view (Ask (asked_in (state_before c) call) ∷ c.begun)))
    (may : MayCall (state_before c).book (asked_in (state_before c) call)) where
  open c use {lines, version, view, strings, peer as p}

  -- the scene of a step on this call, which has come
  abbrev pub d : Scene
  d = with_call c call few asked

  abbrev s : State
  s = state_before c

  abbrev t : State
  t = state_before d

  abbrev ask : Call
  ask = asked_in s call

  may_ask : MayCome s (Ask ask)
  may_ask = (tt, may)

  -- what is said stays so when the call comes
  called_later : EntriesStay s t
  called_later = stay_step s (Ask ask) may_ask

  -- the call has come
  abbrev asked_stands : (x : PeerState) (h : Held) (g : Ghosts) → Stands c [] x h nothing [] g s → Standing d x h nothing [] t
  asked_stands x h g old = record {
    elsewhere = elsewhere_none p t;
    orderly = old.standing.orderly;
    acks = acks_stay s t strings refl called_later old.standing.acks;
    peer = old.standing.peer;
    listed = old.standing.listed;
    trust = old.standing.trust;
    tree = tree_stays s t strings p x.seal h called_later refl refl (λ blind. blind) old.standing.tree;
    seal = old.standing.seal;
    mode = old.standing.mode;
    held = old.standing.held;
    sync = sync_stays version lines s t strings p x.fact x.trusted old.standing.tree.last.map h.stores.tree.top x.sync called_later old.standing.peer.saved.ballot old.standing.sync;
    noted = sym (append-nil t.book.notes);
    sends = All-nil (SendHolds t.objects.ledger p);
    listed_sends = All-nil (λ (o : Outgoing). IsListedMessage lines.voting o.message);
    fits_sends = All-nil (SendFits version lines t strings p);
  }

  -- another peer refuses the call
  refused_roles : (role : Role) (g : Ghosts) → IsRun view c.begun → RolesHold g s (put c.roles p role) c.said → RolesHold (with_home g call.id p) t (put c.roles p (with_owed role (owed_by role ++ record { call = call.id; reply = Unavailable } ∷ []))) c.said
  refused_roles role g run roles = role_once (with_home g call.id p) t p c.said c.roles role (with_owed role (owed_by role ++ record { call = call.id; reply = Unavailable } ∷ []))
      (subst (λ (old : Role). RolesHold (with_home g call.id p) t (put (put c.roles p role) p (with_owed old (owed_by old ++ record { call = call.id; reply = Unavailable } ∷ []))) c.said) (put_here c.roles p role)
      (((run_roles view c.begun run).peer g (put c.roles p role) c.said p roles).refuses ask Unavailable tt may))

  abbrev refused_out : Out
  refused_out = and_answers nothing (unavailable call ∷ [])

  refused_stands : (x : PeerState) (h : Held) (g : Ghosts) → Stands c [] x h nothing [] g s → Standing d x h refused_out [] t
  refused_stands x h g old = let now_stands = asked_stands x h g old in record {
    elsewhere = now_stands.elsewhere;
    orderly = now_stands.orderly;
    acks = now_stands.acks;
    peer = now_stands.peer;
    listed = now_stands.listed;
    trust = now_stands.trust;
    tree = now_stands.tree;
    seal = now_stands.seal;
    mode = now_stands.mode;
    held = now_stands.held;
    sync = now_stands.sync;
    noted = now_stands.noted;
    sends = now_stands.sends;
    listed_sends = now_stands.listed_sends;
    fits_sends = now_stands.fits_sends;
  }

  -- a call to a leader joins or is refused
  module _ (l : Leadership) (x : PeerState) (h : Held) (g : Ghosts) (run : IsRun view c.begun) (old : Stands c [] (leading l x) h nothing [] g s) (free : l.leader.task ≡ pendings.Nothing) where
    abbrev row : Leader × LeadOut
    row = row_27 call.from call.id call.key call.command (has_begun l.change) l.leader

    abbrev here : Here c [] (leading l x) h nothing []
    here = stands_here c [] (leading l x) h nothing [] g c.begun run old

    abbrev on_key : Here c call.key (leading l x) h nothing []
    on_key = rekeyed_leader c l x here call.key free

    takes : TakesCall g s call.key [] l.leader ask row
    takes = run_joins view c.begun run g call.key [] l.leader call.from call.id call.command (has_begun l.change) (at_work c l x on_key) free may.fresh

    abbrev f : Follows (with_home g call.id l.leader.me) t call.key [] l.leader row
    f = takes.follows

    -- the map that the leader's peer wrote last
    called_map : MapSays t strings p old.standing.tree.last.map
    called_map = maps_stay s strings strings (Ask ask ∷ []) p old.standing.tree.last.map (may_ask, tt) (tt, tt) (λ a at. at) (own_map c l x here)

    taken : Here d call.key (leading (with_leader row.0 l) x) h (and_sends (and_answers nothing row.1.answers) row.1.sends) row.1.notes
    taken = stands_on d call.key (leading (with_leader row.0 l) x) h (and_sends (and_answers nothing row.1.answers) row.1.sends) row.1.notes (Ask ask ∷ c.begun) f.ghosts f.steps (run, may_ask) f.move.may (record {
      hash = f.move.ghosts.hash ∙ old.hash;
      roles = move_roles c call.key nothing l.leader s g f.ghosts (Ask ask ∷ f.steps) row (run_roles view c.begun run) on_key.roles f.same takes.move f.turns f.sends;
      fits = f.fits;
      task = f.task;
      standing = steps_stand d l x h nothing [] t (asked_stands (leading l x) h g old) f.steps f.move.may f.kinds row f.same f.notes g old.hash called_map (own_peer c l x here) (calm_27 call.from call.id call.key call.command (has_begun l.change) l.leader).sends;
    })

    taken_ends : (next mark : Rest PeerState (List Task)) → Onward d (TasksFit d) next mark → Ends d (lead_done p row.1 (leading (with_leader row.0 l) x) nothing next) (lead_done p row.1 (leading (with_leader row.0 l) x) nothing mark) h []
    taken_ends next mark go = calm_plan d call.key l x row h [] nothing [] (calm_27 call.from call.id call.key call.command (has_begun l.change) l.leader) taken f.next f.ready tt tt next mark (onward_all d next mark go)

  called_phase : (phase : Phase) (x : PeerState) (h : Held) (g : Ghosts) → IsRun view c.begun → Stands c [] (record x { phase = phase }) h nothing [] g s → IsAtRest phase → (next mark : Rest PeerState (List Task)) → Onward d (TasksFit d) next mark
      → Ends d (called p call (record x { phase = phase }) nothing next) (called p call (record x { phase = phase }) nothing mark) h []
  called_phase (phases.Leading l) x h g run old free next mark go = taken_ends l x h g run old free next mark go
  called_phase (phases.Following f) x h g run old free next mark go = go [] [] (record x { phase = phases.Following f }) h refused_out [] (inl (
    (
      stands_here d [] (record x { phase = phases.Following f }) h refused_out [] (with_home g call.id p) (Ask ask ∷ c.begun) (run, may_ask) (record {
        hash = old.hash;
        roles = refused_roles (role_in [] (phases.Following f) []) g run old.roles;
        fits = tt;
        task = tt;
        standing = refused_stands (record x { phase = phases.Following f }) h g old;
      }),
      tt,
    ),
    tt,
  ))
  called_phase (phases.Probing b) x h g run old free next mark go = go [] [] (record x { phase = phases.Probing b }) h refused_out [] (inl (
    (
      stands_here d [] (record x { phase = phases.Probing b }) h refused_out [] (with_home g call.id p) (Ask ask ∷ c.begun) (run, may_ask) (record {
        hash = old.hash;
        roles = refused_roles (role_in [] (phases.Probing b) []) g run old.roles;
        fits = tt;
        task = tt;
        standing = refused_stands (record x { phase = phases.Probing b }) h g old;
      }),
      tt,
    ),
    tt,
  ))
  called_phase (phases.Electing e) x h g run old free next mark go = go [] [] (record x { phase = phases.Electing e }) h refused_out [] (inl (
    (
      stands_here d [] (record x { phase = phases.Electing e }) h refused_out [] (with_home g call.id p) (Ask ask ∷ c.begun) (run, may_ask) (record {
        hash = old.hash;
        roles = electing_roles e (refused_roles (role_in [] (phases.Electing e) []) g run old.roles);
        fits = tt;
        task = tt;
        standing = refused_stands (record x { phase = phases.Electing e }) h g old;
      }),
      tt,
    ),
    tt,
  ))
    where
      electing_roles : (e : Election) → RolesHold (with_home g call.id p) t (put c.roles p (with_owed (role_in [] (phases.Electing e) []) (owed_by (role_in [] (phases.Electing e) []) ++ record { call = call.id; reply = Unavailable } ∷ []))) c.said
          → RolesHold (with_home g call.id p) t (put c.roles p (role_in [] (phases.Electing e) (owed_after [] refused_out.answers))) c.said
      electing_roles (Preparing base promises asked age) roles = roles
      electing_roles (Starting new accepts age) roles = roles

  -- a call comes to a peer that has not begun its step
  pub called_good : (x : PeerState) (h : Held) (here : Here c [] x h nothing []) → here.reached.steps ≡ c.begun → IsAtRest x.phase → (next mark : Rest PeerState (List Task)) → Onward d (TasksFit d) next mark → Ends d (called p call x nothing next) (called p call x nothing mark) h []
  called_good x h here same rest next mark go = called_phase x.phase x h here.reached.ghosts (subst (IsRun view) same here.reached.run)
      (subst (λ (steps : List Step). Stands c [] x h nothing [] here.reached.ghosts (state_after view steps)) same (record { hash = here.reached.hash; roles = here.roles; fits = here.fits; task = here.task; standing = standing_of c [] x h nothing [] here })) rest next mark go
