-- The first halves of what a leader does on a key: a version takes its number before it is noted, and a round is
-- counted before the key is read.
use Rattle.std.specs.Prelude.{map, IsSome}
use Rattle.std.proofs.Common.{◌≡◌, inl, inr, ℕ, ◌+◌, Bool, if◌then◌else◌, List, [], ◌∷◌, Option, Some, None, refl, sym, ap, subst, ◌∙◌}
use Rattle.std.proofs.lemmas.Bool.{false≢true}
use Rattle.ens_base.specs.declared.epoch.Version.{Version}
use Rattle.stored_formats.specs.declared.object.Object.{Object}
use Rattle.protocol_laws.specs.Protocol.{State}
use Rattle.call_table.specs.Calls.{running}
use Rattle.call_table.specs.Rows.{row_at}
use Rattle.call_table.specs.declared.row.Stage.TheVariants as stages
use Rattle.call_table.specs.declared.table.CallTable.{CallTable}
use Rattle.call_table.specs.declared.waiting.Waiting.{Waiting}
use Rattle.election_refinement.proofs.Tests.{by_test}
use Rattle.peer_refinement.specs.WorldSpec.{Held}
use Rattle.role_laws.specs.Tables.{Ghosts, Owed}
use Rattle.leader_refinement.proofs.Asking.{run_asks}
use Rattle.leader_refinement.proofs.Writes.{run_writes, run_rewrites}
use Rattle.leader_refinement.specs.Follows.{GoesOn}
use Rattle.leader_refinement.specs.Laws.{LookSays, LookNames, looked_next, noted_next}
use Rattle.leader_refinement.specs.Seen.{owed_after}
use Rattle.leader_output.specs.Outs.{leaves, rests, and_own}
use Rattle.leader_output.specs.declared.out.LeadOut.{LeadOut}
use Rattle.leader_output.specs.declared.out.Own.TheVariants as owns
use Rattle.leader.specs.Leaders.{is_spent, next_version, with_task}
use Rattle.leader.specs.Puts.{row_31, row_32, row_35, written_for, rewritten, proposed}
use Rattle.leader.specs.Rounds.{row_29, asked_for}
use Rattle.leader.specs.Rules.{lead_row}
use Rattle.leader_laws.specs.Steps.{Runs}
use Rattle.leader.specs.Ticks.{left_answer}
use Rattle.leader.specs.declared.leader.Leader.{Leader}
use Rattle.leader.specs.declared.pending.Pending.{Pending}
use Rattle.leader.specs.declared.pending.Pending.TheVariants as pendings
use Rattle.peer_spec.specs.Drives.{lead_done, lead}
use Rattle.peer_state.specs.Moves.{and_answers, leading, with_leader}
use Rattle.peer_spec.specs.Owns.{looked}
use Rattle.peer_spec.specs.Syncs.{and_sends}
use Rattle.peer_state.specs.declared.state.Leadership.{Leadership}
use Rattle.peer_state.specs.declared.state.Phase.{Phase}
use Rattle.peer_state.specs.declared.state.State.{State as PeerState}
use Rattle.register_model.specs.declared.note.Note.{Note}
use Rattle.register_model.specs.declared.note.Note.TheVariants.{Proposed}
use Rattle.step_plans.specs.Plans.{Plan, Out, Rest}
use Rattle.step_plans.specs.declared.tasks.Task.{Task}
use Rattle.step_plans.specs.declared.tasks.Task.TheVariants as tasks
use Rattle.phase_rows.specs.declared.phase.Seen.{Seen}
use Rattle.phase_rows.specs.declared.phase.Seen.TheVariants as seens
use Rattle.phase_rows.specs.declared.rules.KeyRule.{KeyRule}
use Rattle.phase_rows.specs.declared.rules.KeyRule.TheVariants as key_rules
use Rattle.step_refinement.proofs.CallByCall.{Ends, Onward}
use Rattle.step_refinement.specs.Scenes.{Scene, now, Here}
use Rattle.step_refinement.proofs.LeadersAtWork.{at_work, own_peer, own_ballot, own_trust}
use Rattle.step_refinement.proofs.LeaderPlans.{There, told_nothing, leave_ends}
use Rattle.step_refinement.proofs.TreeLookups.{Over, over_here, looked_ends}
use Rattle.step_refinement.proofs.KeyTasks.{looked_apart}
use Rattle.step_refinement.proofs.LeaderOutcomes.{tame_29, broken_29}
use Rattle.step_refinement.proofs.LeaderTasks.{AreApart, AreIdle, idle_kept, Way, broken_way, OpensAs, Half, Opens}

module _ (c : Scene) where
  open c use {view, strings, peer as p}

  module _ (key : List ℕ) (ts : List Task) {h : Held} {out : Out} {notes : List Note} (l : Leadership) (x : PeerState) (here : Here c key (leading l x) h out notes) (apart : AreApart key ts) (idle : AreIdle l.leader ts)
      (next mark : Rest PeerState (List Task)) (go : Onward c (There c ts) next mark) where
    abbrev s : State
    s = now c here.reached

    abbrev g : Ghosts
    g = here.reached.ghosts

    abbrev owes : List Owed
    owes = owed_after [] out.answers

    -- the output after a rule that answers and sends nothing
    abbrev same_out : Out
    same_out = and_sends (and_answers out []) []

    same_here : Here c key (leading l x) h same_out notes
    same_here = subst (λ (o : Out). Here c key (leading l x) h o notes) (sym (told_nothing out)) here

    abbrev Plans : Leader × LeadOut → Type 0
    Plans r = Ends c (lead_done p r.1 (leading (with_leader r.0 l) x) out next) (lead_done p r.1 (leading (with_leader r.0 l) x) out mark) h notes

    -- no number or no round is left
    spent_ends : (m : Leader) → m.fact ≡ l.leader.fact → m.me ≡ l.leader.me → m.accepts ≡ l.leader.accepts → m.table ≡ l.leader.table → Plans (m, leaves)
    spent_ends m fact me accepts table = leave_ends c l x here (m, leaves) ts refl (inl (record { why = inl refl; calls = ap (λ (t : CallTable). map left_answer t.calls) table; same = (fact, (me, accepts)) }))
        (idle_kept key l.leader m ts (λ k off. ap (λ (t : CallTable). row_at k t.rows) table) apart idle) next mark go

    -- ## Rule 29

    module _ (free : l.leader.task ≡ pendings.Nothing) (rests_idle : (row_at key l.leader.table.rows).stage ≡ stages.Idle) where
      -- the leader in its new round
      abbrev in_round : Leader
      in_round = record l.leader { round = l.leader.round + 1 }

      abbrev looks : Leader × LeadOut
      looks = (in_round, and_own (owns.Look key) rests)

      look_half : row_29 key seens.Nothing l.leader ≡ looks → (seen : Seen) (t : Held) → Over c same_here t → LookSays (now c same_here.reached) p key seen → LookNames same_here.reached.ghosts key seen → Way key_rules.Read key l.leader (row_29 key seen in_round)
          → Half c key_rules.Read key seen ts (leading (with_leader in_round l) x) t same_out notes
      look_half is seen t over says names way = let there = over_here c same_here t over in record {
        before = l;
        leader = in_round;
        is = refl;
        here = there;
        goes = subst (λ (r : Leader × LeadOut). GoesOn there.reached.ghosts (now c there.reached) key (owed_after [] same_out.answers) l.leader (looked_next key seen r)) is
            (run_asks view there.reached.steps there.reached.run there.reached.ghosts key (owed_after [] same_out.answers) l.leader seen (at_work c l x there) free rests_idle (own_ballot c l x there) (own_trust c l x there)
            (subst (λ q. LookSays (now c there.reached) q key seen) (sym (own_peer c l x there)) says) names);
        way = way;
        apart = apart;
        idle = idle_kept key l.leader in_round ts (λ k off. refl) apart idle;
      }

      look_ends : row_29 key seens.Nothing l.leader ≡ looks → Plans looks
      look_ends is = subst (λ (plan : Plan PeerState). Ends c plan (looked key y same_out after_mark) h notes) (sym (looked_apart key (leading l x) y same_out same_out after_look))
          (subst (λ (plan : Plan PeerState). Ends c (looked key (leading l x) same_out (λ seen z q. after_look seen y same_out)) plan h notes) (sym (looked_apart key (leading l x) y same_out same_out after_mark))
          (looked_ends c same_here key (λ seen z q. after_look seen y same_out) (λ seen z q. after_mark seen y same_out) here.listed.phase.sees
          (λ entry object t over sees. go (tasks.Again key_rules.Read key (seens.Held entry object) ∷ []) key y t same_out notes
          (inr (look_half is (seens.Held entry object) t over sees.look sees.names (inl (tame_29 entry object key in_round)))))
          (λ at t over. go (tasks.Again key_rules.Read key (seens.Damaged at) ∷ []) key y t same_out notes
          (inr (look_half is (seens.Damaged at) t over tt tt (broken_way key_rules.Read key l.leader (row_29 key (seens.Damaged at) in_round) (broken_29 at key in_round)))))))
        where
          y : PeerState
          y = leading (with_leader in_round l) x

          after_look : Rest PeerState Seen
          after_look seen z q = next (tasks.Again key_rules.Read key seen ∷ []) z q

          after_mark : Rest PeerState Seen
          after_mark seen z q = mark (tasks.Again key_rules.Read key seen ∷ []) z q

      -- a key is read in a new round, if it has a call and a round is left
      pub reads_end : Plans (row_29 key seens.Nothing l.leader)
      reads_end = by_running (running key l.leader.table.calls) refl
        where
          by_running : (w : Option Waiting) → running key l.leader.table.calls ≡ w → Plans (asked_for w seens.Nothing key l.leader)
          by_running None is = go [] key (leading l x) h same_out notes (inl ((same_here, free), idle))
          by_running (Some w) is = by_test Plans (is_spent l.leader.round) (l.leader, leaves) looks
              (λ spent. spent_ends l.leader refl refl refl refl)
              (λ more. look_ends (ap (λ v. asked_for v seens.Nothing key l.leader) is ∙ ap (λ (b : Bool). if b then (l.leader, leaves) else looks) more))

    -- ## Rules 31 and 32

    -- the leader without its task, and with this object to propose
    abbrev resting : Leader
    resting = with_task pendings.Nothing l.leader

    abbrev proposing : Object → Option Version → Option ℕ → Leader
    proposing o parent call = record resting { seq = resting.seq + 1; task = pendings.Propose o parent call }

    -- rule 35 notes the proposal next
    propose_ends : (o : Object) (parent : Option Version) (call : Option ℕ) → GoesOn g s key owes l.leader (row_35 key seens.Nothing (proposing o parent call)) → Plans (proposed o parent call key resting)
    propose_ends o parent call goes = go (tasks.Key key_rules.Put key ∷ []) key (leading (with_leader (proposing o parent call) l) x) h same_out notes (inr (inl half))
      where
        half : Half c key_rules.Put key seens.Nothing ts (leading (with_leader (proposing o parent call) l) x) h same_out notes
        half = subst (λ (q : Out). Half c key_rules.Put key seens.Nothing ts (leading (with_leader (proposing o parent call) l) x) h q notes) (sym (told_nothing out)) (record {
          before = l;
          leader = proposing o parent call;
          is = refl;
          here = here;
          goes = goes;
          way = inr (inr (inl (record { rule = refl; object = o; note = Proposed key o.version parent call; same = refl })));
          apart = apart;
          idle = idle_kept key l.leader (proposing o parent call) ts (λ k off. refl) apart idle;
        })

    -- a write is proposed, if a number is left
    pub writes_end : (content : Option (List ℕ)) (parent : Option Version) → l.leader.task ≡ pendings.Write content parent → Runs key l.leader → Plans (row_31 key l.leader)
    writes_end content parent task runs = subst (λ (t : Pending). Plans (written_for (running key l.leader.table.calls) t key resting)) (sym task) (by_running (running key l.leader.table.calls) refl)
      where
        object : Object
        object = record { version = next_version resting; stamp = next_version resting; key = key; value = content }

        by_running : (w : Option Waiting) → running key l.leader.table.calls ≡ w → Plans (written_for w (pendings.Write content parent) key resting)
        by_running None is = absurd (false≢true (subst IsSome is runs))
        by_running (Some w) is = by_test Plans (is_spent resting.seq) (resting, leaves) (proposed object parent (Some w.id) key resting)
            (λ spent. spent_ends resting refl refl refl refl)
            (λ more. propose_ends object parent (Some w.id) (subst (λ (r : Leader × LeadOut). GoesOn g s key owes l.leader (noted_next key r))
            (ap (λ v. written_for v l.leader.task key resting) is ∙ ap (λ t. written_for (Some w) t key resting) task ∙ ap (λ (b : Bool). if b then (resting, leaves) else proposed object parent (Some w.id) key resting) more)
            (run_writes view here.reached.steps here.reached.run g key owes l.leader content parent (at_work c l x here) task)))

    -- a rewrite is proposed, if a number is left
    pub rewrites_end : (o : Object) → l.leader.task ≡ pendings.Rewrite o → Plans (row_32 key l.leader)
    rewrites_end o task = subst (λ (t : Pending). Plans (rewritten t key resting)) (sym task) (by_test Plans (is_spent resting.seq) (resting, leaves) (proposed object (Some o.version) None key resting)
        (λ spent. spent_ends resting refl refl refl refl)
        (λ more. propose_ends object (Some o.version) None (subst (λ (r : Leader × LeadOut). GoesOn g s key owes l.leader (noted_next key r))
        (ap (λ t. rewritten t key resting) task ∙ ap (λ (b : Bool). if b then (resting, leaves) else proposed object (Some o.version) None key resting) more)
        (run_rewrites view here.reached.steps here.reached.run g key owes l.leader o (at_work c l x here) task))))
      where
        object : Object
        object = record { version = next_version resting; stamp = o.stamp; key = key; value = o.value }

    -- whichever rule opens
    pub way_ends : (rule : KeyRule) → OpensAs rule key l.leader → Plans (lead_row rule key seens.Nothing l.leader)
    way_ends rule (inl read) = subst (λ m. Plans (lead_row m key seens.Nothing l.leader)) (sym read.rule) (reads_end read.free read.idle)
    way_ends rule (inr (inl write)) = subst (λ m. Plans (lead_row m key seens.Nothing l.leader)) (sym write.rule) (writes_end write.content write.parent write.task write.runs)
    way_ends rule (inr (inr rewrite)) = subst (λ m. Plans (lead_row m key seens.Nothing l.leader)) (sym rewrite.rule) (rewrites_end rewrite.object rewrite.task)

  -- a task that opens on the key
  pub opens_ends : (rule : KeyRule) (key : List ℕ) (ts : List Task) {x : PeerState} {h : Held} {out : Out} {notes : List Note} → Opens c rule key ts x h out notes → (next mark : Rest PeerState (List Task)) → Onward c (There c ts) next mark
      → Ends c (lead (lead_row rule key seens.Nothing) p x.phase x out next) (lead (lead_row rule key seens.Nothing) p x.phase x out mark) h notes
  opens_ends rule key ts {x} {h} {out} {notes} o next mark go = subst (λ (phase : Phase). Ends c (lead (lead_row rule key seens.Nothing) p phase x out next) (lead (lead_row rule key seens.Nothing) p phase x out mark) h notes) (sym o.is)
      (way_ends key ts o.now_leads x o.here o.apart o.idle next mark go rule o.way)
