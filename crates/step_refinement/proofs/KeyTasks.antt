-- Each task of a leader on a key: its rule runs, and asks the stores if it has to. If they find damage, the
-- rule runs again, and the leader steps down.
use Rattle.std.specs.Prelude.{All}
use Rattle.std.proofs.Common.{◌≡◌, inl, inr, ℕ, Bool, true, List, [], ◌∷◌, ◌++◌, Option, Some, None, refl, sym, ap, subst, ◌∙◌}
use Rattle.std.proofs.Math.Path.{fun_ext}
use Rattle.std.proofs.lemmas.List.Elements.{All-nil}
use Rattle.md5.specs.Md5.{md5}
use Rattle.ens_base.specs.Limits.{IsKey, IsCommand}
use Rattle.ens_base.specs.declared.entry.Entry.{Entry}
use Rattle.ens_base.specs.declared.epoch.Version.{Version}
use Rattle.stored_formats.specs.Objects.{IsObject, object_spelling}
use Rattle.stored_formats.specs.declared.object.Object.{Object}
use Rattle.protocol_laws.specs.Numbers.{epoch_number, IsVersion}
use Rattle.protocol_laws.specs.Protocol.{State, Step, Write, IsRun, state_after, happens, MayCome}
use Rattle.call_table.specs.Calls.{running}
use Rattle.call_table.specs.Rows.{row_at}
use Rattle.call_table.specs.declared.row.Stage.TheVariants as stages
use Rattle.call_table.specs.declared.waiting.Waiting.{Waiting}
use Rattle.protocol_laws.specs.Stays.{EntriesStay}
use Rattle.peer_refinement.specs.WorldSpec.{Held}
use Rattle.object_commands.specs.Kept.{object_in, matching}
use Rattle.role_laws.specs.LeaderMessages.{PutSays}
use Rattle.role_laws.specs.Tables.{Owed}
use Rattle.leader_refinement.proofs.Puts.{run_goes_in, run_stored}
use Rattle.leader_refinement.proofs.Starts.{run_starts}
use Rattle.leader_refinement.specs.Follows.{Hash, Follows, NextFits, TaskHolds}
use Rattle.leader_refinement.specs.Laws.{BackendSays, PutGoesIn}
use Rattle.leader_refinement.specs.Seen.{rank, content_of, owed_after}
use Rattle.leader_output.specs.Outs.{rests, and_own, and_note}
use Rattle.leader_output.specs.declared.out.LeadOut.{LeadOut}
use Rattle.leader_output.specs.declared.out.Own.TheVariants as owns
use Rattle.leader_laws.proofs.Steps.{lead_step}
use Rattle.leader.specs.Rules.{lead_row}
use Rattle.leader.specs.declared.leader.Leader.{Leader}
use Rattle.leader.specs.declared.pending.Pending.{Pending}
use Rattle.leader.specs.declared.pending.Pending.TheVariants as pendings
use Rattle.peer_spec.specs.Drives.{lead_done, lead}
use Rattle.peer_state.specs.Moves.{and_answers, leading, with_leader}
use Rattle.peer_spec.specs.Owns.{digested, read, held, looked_at, looked, fetched, written}
use Rattle.peer_spec.specs.Syncs.{and_sends}
use Rattle.peer_state.specs.declared.state.Leadership.{Leadership}
use Rattle.peer_state.specs.declared.state.Phase.{Phase}
use Rattle.peer_state.specs.declared.state.Phase.TheVariants as phases
use Rattle.peer_state.specs.declared.state.State.{State as PeerState}
use Rattle.register_model.specs.declared.call.Call.{Call}
use Rattle.register_model.specs.declared.note.Note.{Note}
use Rattle.peer_refinement.specs.Naming.{hash_of}
use Rattle.step_plans.specs.Calls.{Find, Fetch}
use Rattle.step_plans.specs.Plans.{Ask, Out, Rest, asked}
use Rattle.step_plans.specs.declared.tasks.Task.{Task}
use Rattle.step_plans.specs.declared.tasks.Task.TheVariants as tasks
use Rattle.step_plans.specs.declared.walked.Walked.{Walked}
use Rattle.step_plans.specs.declared.walked.Walked.TheVariants.{Reached as Came, Broken}
use Rattle.peer_refinement.proofs.RequestStaying.{put_object as said_object}
use Rattle.tree_node.specs.declared.position.Position.{Position}
use Rattle.phase_rows.specs.declared.phase.Seen.{Seen}
use Rattle.phase_rows.specs.declared.phase.Seen.TheVariants as seens
use Rattle.phase_rows.specs.declared.phase.Then.TheVariants as thens
use Rattle.phase_rows.specs.declared.rules.KeyRule.{KeyRule}
use Rattle.phase_rows.specs.declared.rules.KeyRule.TheVariants as key_rules
use Rattle.step_refinement.proofs.CallByCall.{Ends, Onward}
use Rattle.step_refinement.specs.Scenes.{Scene, state_before, now, Here}
use Rattle.step_refinement.proofs.ObjectGrammar.{objects_obey, epochs_here}
use Rattle.step_refinement.proofs.LeaderMessages.{AskFits}
use Rattle.step_refinement.proofs.LeadersAtWork.{at_work, own_peer, own_ballot, own_trust, own_accepted}
use Rattle.step_refinement.proofs.LeaderPlans.{There, told_nothing, followed, stays_follows, tame_ends, damage_ends}
use Rattle.step_refinement.proofs.TreeLookups.{MayStore, Over, over_here, Stored, write_here, fetched_ends, written_ends}
use Rattle.step_refinement.proofs.LeaderOutcomes.{NamesNext, tame_28, tame_35, broken_35}
use Rattle.step_refinement.proofs.LeaderTasks.{AreApart, AreIdle, idle_kept, looking_way, IsFetching, IsPutting, Way, Half}
use Rattle.step_refinement.specs.Keys.{KeysAreBelow}
use Rattle.step_refinement.specs.Peers.{AsksFit, EpochsFit, TaskFits}

-- ## Premises

-- what the rules of a leader stand on: the keys of a run are no more than its calls, and the epochs that were elected
-- before the step have a count of 64 bits
pub record Grounds (c : Scene) : Type 0 where
  pub few : (view : List ℕ) (steps : List Step) → IsRun view steps → KeysAreBelow (state_after view steps)
  pub epochs : EpochsFit (state_before c)

-- ## A look by a leader that has only begun one

-- the part that looks up a key passes on the state and the output
module _ (key : List ℕ) (x y : PeerState) (out o : Out) (next : Rest PeerState Seen) where
  at_object : (entry : Entry) (bytes : List ℕ) (found : Option Object) → digested found bytes y o (λ kept z q. next (seens.Held (Some entry) (matching entry kept)) z q) ≡ digested found bytes x out (λ kept z q. next (seens.Held (Some entry) (matching entry kept)) y o)
  unfolding asked
  at_object entry bytes None = refl
  at_object entry bytes (Some object) = refl

  at_bytes : (entry : Entry) (bytes : Option (List ℕ)) → read bytes y o (λ kept z q. next (seens.Held (Some entry) (matching entry kept)) z q) ≡ read bytes x out (λ kept z q. next (seens.Held (Some entry) (matching entry kept)) y o)
  at_bytes entry None = refl
  at_bytes entry (Some bytes) = at_object entry bytes (object_in bytes)

  at_entry : (entry : Option Entry) → held key entry y o next ≡ held key entry x out (λ seen z q. next seen y o)
  unfolding asked
  at_entry None = refl
  at_entry (Some entry) = ap (Ask (Fetch key)) (fun_ext (at_bytes entry))

  at_found : (found : Walked (Option Entry)) → looked_at key found y o next ≡ looked_at key found x out (λ seen z q. next seen y o)
  at_found (Broken at) = refl
  at_found (Came entry) = at_entry entry

  -- so does a whole look
  pub looked_apart : looked key y o next ≡ looked key x out (λ seen z q. next seen y o)
  unfolding asked
  looked_apart = ap (Ask (Find key)) (fun_ext at_found)

-- what a rule of the leader asks of its stores, and how it goes on
module _ (c : Scene) (grounds : Grounds c) where
  open c use {view, strings, peer as p}
  open grounds use {few, epochs}

  -- ## Rule 28

  -- the leader asks its backend, and rule 28 runs again with what it keeps
  fetch_ends : (key : List ℕ) (ts : List Task) (h : Held) (out : Out) (notes : List Note) (l : Leadership) (x : PeerState) (here : Here c key (leading l x) h out notes) → l.leader.task ≡ pendings.Nothing → (row_at key l.leader.table.rows).stage ≡ stages.Idle
      → AreApart key ts → AreIdle l.leader ts → (next mark : Rest PeerState (List Task)) → Onward c (There c ts) next mark
      → Ends c (fetched key (leading l x) out (λ seen z q. next (tasks.Again key_rules.StartCall key seen ∷ []) z q)) (fetched key (leading l x) out (λ seen z q. mark (tasks.Again key_rules.StartCall key seen ∷ []) z q)) h notes
  fetch_ends key ts h out notes l x here free rests_idle apart idle next mark go =
      fetched_ends c here key (λ seen z q. next (tasks.Again key_rules.StartCall key seen ∷ []) z q) (λ seen z q. mark (tasks.Again key_rules.StartCall key seen ∷ []) z q) (λ kept t over says.
      go (tasks.Again key_rules.StartCall key (seens.Kept kept) ∷ []) key (leading l x) t out notes (inr (half kept t over says)))
    where
      half : (kept : Option (Object × List ℕ)) (t : Held) → (over : Over c here t) → BackendSays here.reached.ghosts (now c here.reached) key (seens.Kept kept) → Half c key_rules.StartCall key (seens.Kept kept) ts (leading l x) t out notes
      half kept t over says = record {
        before = l;
        leader = l.leader;
        is = refl;
        here = over_here c here t over;
        goes = run_starts view here.reached.steps here.reached.run here.reached.ghosts key (owed_after [] out.answers) l.leader (seens.Kept kept) (at_work c l x here) free rests_idle says;
        way = looking_way key l.leader (lead_row key_rules.StartCall key (seens.Kept kept) l.leader) (tame_28 key (seens.Kept kept) l.leader) free rests_idle;
        apart = apart;
        idle = idle;
      }

  -- ## Rule 35

  calls_kept : (steps more : State) → EntriesStay steps more → more.book.called ≡ steps.book.called → AsksFit steps → AsksFit more
  calls_kept s t stay same fits i called =
      let old : s.book.called i ≡ true = subst (λ (f : ℕ → Bool). f i ≡ true) same called in
      subst (λ (call : Call). IsKey call.key × IsCommand call.command) (sym (stay.asked i old)) (fits i old)

  module _ (key : List ℕ) (ts : List Task) {h : Held} {out : Out} {notes : List Note} (l : Leadership) (x : PeerState) (here : Here c key (leading l x) h out notes) (o : Object) (parent : Option Version) (call : Option ℕ)
      (task : l.leader.task ≡ pendings.Propose o parent call) (on_key : o.key ≡ key) (apart : AreApart key ts) (idle : AreIdle l.leader ts) where
    abbrev s : State
    s = now c here.reached

    abbrev owes : List Owed
    owes = owed_after [] out.answers

    goes_in : PutGoesIn here.reached.ghosts s key owes l.leader o
    goes_in = run_goes_in view here.reached.steps here.reached.run here.reached.ghosts key owes l.leader o parent call (at_work c l x here) task (own_ballot c l x here) (own_trust c l x here) (own_accepted c l x here)

    may : MayCome s (Write p (rank o.version))
    may = subst (λ q. MayCome s (Write q (rank o.version))) (own_peer c l x here) goes_in.may

    -- the version is in range
    in_range : IsVersion o.version
    in_range = fits (running key l.leader.table.calls) (subst (λ (t : Pending). TaskHolds s l.leader key (row_at key l.leader.table.rows).known (running key l.leader.table.calls) t) task here.task)
      where
        fits : (w : Option Waiting) → TaskHolds s l.leader key (row_at key l.leader.table.rows).known w (pendings.Propose o parent call) → IsVersion o.version
        fits None holds = absurd holds
        fits (Some w) holds = holds.fits

    says : PutSays s (epoch_number l.leader.fact.epoch) o.key (rank o.version) (content_of o)
    says = subst (λ k. PutSays s (epoch_number l.leader.fact.epoch) k (rank o.version) (content_of o)) (sym on_key) goes_in.says

    obeys : IsObject o
    obeys = subst IsObject (said_object s (epoch_number l.leader.fact.epoch) o says) (objects_obey view here.reached.steps here.reached.run (calls_kept (state_before c) s here.reached.elsewhere.stays here.reached.elsewhere.called c.asked) (epochs_here c key (leading l x) h out notes here epochs) o.version in_range says.proposed)

    -- the leader's own peer stands at the epoch, which it accepted, and trusts its tree
    store : MayStore c here o (epoch_number l.leader.fact.epoch)
    store = record {
      ready = record { stands = ap epoch_number (here.peer.phase.has ∙ here.peer.phase.started.at_ballot); trusts = here.listed.phase.sees };
      may = may;
      says = says;
      obeys = obeys;
    }

    abbrev digest : List ℕ
    digest = md5 (object_spelling o)

    task_then : TaskFits (happens s (Write p (rank o.version))) key (phases.Leading l)
    task_then = subst (λ q. TaskFits (happens s (Write q (rank o.version))) key (phases.Leading l)) (own_peer c l x here) goes_in.work.task

    -- the version is written, and the peer may have another seal
    abbrev there : (seal : Option (List ℕ)) (t : Held) → Stored c here o seal t → Here c key (leading l (record x { seal = seal })) t out notes
    there seal t stored = write_here c here o (epoch_number l.leader.fact.epoch) store seal t stored task_then

    hashed : digest ≡ here.reached.ghosts.hash o.version key o.stamp o.value
    hashed = subst (λ (f : Hash). digest ≡ f o.version key o.stamp o.value) (sym here.reached.hash) (ap (λ k. hash_of o.version k o.stamp o.value) on_key)

    shown : (happens s (Write p (rank o.version))).objects.visible l.leader.me key ≡ rank o.version
    shown = subst (λ q. (happens s (Write q (rank o.version))).objects.visible l.leader.me key ≡ rank o.version) (own_peer c l x here) goes_in.shows

    stored_half : (seal : Option (List ℕ)) (t : Held) → Stored c here o seal t → Half c key_rules.Put key (seens.Stored digest) ts (leading l (record x { seal = seal })) t out notes
    stored_half seal t stored = let y : PeerState = record x { seal = seal } in let now_there = there seal t stored in record {
      before = l;
      leader = l.leader;
      is = refl;
      here = now_there;
      goes = run_stored view now_there.reached.steps now_there.reached.run now_there.reached.ghosts key owes l.leader o parent call (seens.Stored digest) (at_work c l y now_there) task (own_ballot c l y now_there) (own_trust c l y now_there) (own_accepted c l y now_there)
          (hashed, shown);
      way = inl (tame_35 o parent call digest key l.leader task obeys);
      apart = apart;
      idle = idle;
    }

    -- the path of its key is damaged
    damaged_half : (at : Position) (t : Held) → Over c here t → Half c key_rules.Put key (seens.Damaged at) ts (leading l x) t out notes
    damaged_half at t over = let now_there = over_here c here t over in record {
      before = l;
      leader = l.leader;
      is = refl;
      here = now_there;
      goes = run_stored view now_there.reached.steps now_there.reached.run now_there.reached.ghosts key owes l.leader o parent call (seens.Damaged at) (at_work c l x now_there) task (own_ballot c l x now_there) (own_trust c l x now_there) (own_accepted c l x now_there) tt;
      way = inr (inr (inr (broken_35 at o parent call key l.leader task)));
      apart = apart;
      idle = idle;
    }

    -- the object is put, and rule 35 runs again
    put_ends : (next mark : Rest PeerState (List Task)) → Onward c (There c ts) next mark
        → Ends c (written o (leading l x) out (λ seen z q. next (tasks.Again key_rules.Put o.key seen ∷ []) z q)) (written o (leading l x) out (λ seen z q. mark (tasks.Again key_rules.Put o.key seen ∷ []) z q)) h notes
    put_ends next mark go = written_ends c here few o (epoch_number l.leader.fact.epoch) store (λ seen z q. next (tasks.Again key_rules.Put o.key seen ∷ []) z q) (λ seen z q. mark (tasks.Again key_rules.Put o.key seen ∷ []) z q)
        (λ seal t stored. goes_again (seens.Stored digest) (record x { seal = seal }) t (stored_half seal t stored)) (λ at t over. goes_again (seens.Damaged at) x t (damaged_half at t over))
      where
        goes_again : (seen : Seen) (y : PeerState) (t : Held) → Half c key_rules.Put key seen ts (leading l y) t out notes
            → Ends c (next (tasks.Again key_rules.Put o.key seen ∷ []) (leading l y) out) (mark (tasks.Again key_rules.Put o.key seen ∷ []) (leading l y) out) t notes
        goes_again seen y t half = go (tasks.Again key_rules.Put o.key seen ∷ []) key (leading l y) t out notes (inr (subst (λ k. Half c key_rules.Put k seen ts (leading l y) t out notes) (sym on_key) half))

  -- ## A task at hand

  -- two answers that differ in what they ask
  module _ (n : KeyRule) (key : List ℕ) (seen : Seen) (ts : List Task) {x : PeerState} {h : Held} {out : Out} {notes : List Note} (half : Half c n key seen ts x h out notes) (next mark : Rest PeerState (List Task)) (go : Onward c (There c ts) next mark) where
    abbrev l : Leadership
    l = half.before

    abbrev r : Leader × LeadOut
    r = lead_row n key seen half.leader

    -- the rule keeps other keys idle
    idle_then : AreIdle r.0 ts
    idle_then = idle_kept key half.leader r.0 ts (lead_step n key seen half.leader).others half.apart half.idle

    abbrev Plans : Leader × LeadOut → Type 0
    Plans r = Ends c (lead_done p r.1 (leading (with_leader r.0 l) x) out next) (lead_done p r.1 (leading (with_leader r.0 l) x) out mark) h notes

    by_fetch : IsFetching n key l.leader r → Plans r
    by_fetch fetch = subst Plans (sym fetch.same)
        (fetch_ends key ts h (and_sends (and_answers out []) []) notes l x (subst (λ (o : Out). Here c key (leading l x) h o notes) (sym (told_nothing out)) half.here) fetch.free fetch.idle half.apart (subst (λ (q : Leader × LeadOut). AreIdle q.0 ts) fetch.same idle_then) next mark go)

    put_follows : (put : IsPutting n r) → Follows half.here.reached.ghosts (now c half.here.reached) key (owed_after [] out.answers) l.leader r
    put_follows put = stays_follows c l x half.here r (ap (λ (o : LeadOut). o.leave) put.same) (subst (λ (o : LeadOut). NamesNext o.then) (sym put.same) tt) half.goes

    by_put : IsPutting n r → Plans r
    by_put put = subst PlansOut (sym put.same) (put_ends key ts (with_leader r.0 l) x there put.object fits.1 fits.2 fits.3 fits.0 half.apart idle_then next mark go)
      where
        asking : LeadOut
        asking = and_own (owns.Put put.object) (and_note put.note rests)

        PlansOut : LeadOut → Type 0
        PlansOut o = Ends c (lead_done p o (leading (with_leader r.0 l) x) out next) (lead_done p o (leading (with_leader r.0 l) x) out mark) h notes

        f : Follows half.here.reached.ghosts (now c half.here.reached) key (owed_after [] out.answers) l.leader r
        f = put_follows put

        fits : NextFits key r.0 (Some (owns.Put put.object)) thens.Stay []
        fits = subst (λ (o : LeadOut). NextFits key r.0 o.own o.then o.keys) put.same f.next

        there : Here c key (leading (with_leader r.0 l) x) h (and_sends (and_answers out []) []) (notes ++ put.note ∷ [])
        there = subst (λ (o : LeadOut). Here c key (leading (with_leader r.0 l) x) h (and_sends (and_answers out o.answers) o.sends) (notes ++ o.notes)) put.same
            (followed c l x half.here r f (subst (λ (o : LeadOut). All AskFits o.sends) (sym put.same) (All-nil AskFits)))

    half_row : Plans r
    half_row = by_way half.way
      where
        by_way : Way n key l.leader r → Plans r
        by_way (inl tame) = tame_ends c l x half.here r ts tame half.goes half.apart idle_then next mark go
        by_way (inr (inl fetch)) = by_fetch fetch
        by_way (inr (inr (inl put))) = by_put put
        by_way (inr (inr (inr damage))) = damage_ends c l x half.here r ts damage half.goes idle_then next mark go

    -- a task at hand on the key
    pub half_ends : Ends c (lead (lead_row n key seen) p x.phase x out next) (lead (lead_row n key seen) p x.phase x out mark) h notes
    half_ends = subst (λ (phase : Phase). Ends c (lead (lead_row n key seen) p phase x out next) (lead (lead_row n key seen) p phase x out mark) h notes) (sym half.is) half_row
