-- While calls are served: what the world is after a step of the leader, by how the step ends: in a round that
-- waits, or with the call answered.
use Rattle.std.proofs.Common.{◌≡◌, ◌≤◌, ◌<◌, ◌^◌, ◌+◌, inl, inr, refl, ap, sym, ◌∙◌, subst, arith, ℕ, suc, Bool, true, false, List, [], ◌∷◌, ◌++◌, map, Option, None, Some}
use Rattle.std.proofs.lemmas.Bool.Decides.{nat_tests}
use Rattle.std.proofs.lemmas.List.{append-nil}
use Rattle.call_table.specs.Calls.{running, without_running}
use Rattle.call_table.specs.Rows.{Rows, row_at, with_known, with_stage, with_check}
use Rattle.call_table.specs.Tables.{ended}
use Rattle.call_table.specs.declared.row.Known.{Known}
use Rattle.call_table.specs.declared.row.Known.TheVariants as knowns
use Rattle.call_table.specs.declared.row.Stage.TheVariants as stages
use Rattle.call_table.specs.declared.table.CallTable.{CallTable}
use Rattle.call_table.specs.declared.waiting.Waiting.{Waiting}
use Rattle.ens_base.proofs.Lists.{bytes_itself}
use Rattle.ens_base.specs.Limits.{IsKey, IsVersion, IsCommand}
use Rattle.ens_base.specs.Lists.{◌∈◌}
use Rattle.ens_base.specs.PeerSet.{holds}
use Rattle.ens_base.specs.View.{IsPeer}
use Rattle.ens_base.specs.declared.entry.Entry.{Entry}
use Rattle.ens_base.specs.declared.reply.Reply.{Reply}
use Rattle.ens_base.specs.declared.reply.Reply.TheVariants as replies
use Rattle.stored_formats.specs.Objects.{IsObject, IsContent, object_spelling}
use Rattle.stored_formats.specs.declared.object.Object.{Object}
use Rattle.environment.proofs.MapLaws.{found_after}
use Rattle.environment.specs.Maps.{value_at}
use Rattle.calm_step_laws.specs.WorldSpec.{Held}
use Rattle.object_commands.specs.Commands.{verdict_of}
use Rattle.object_commands.specs.declared.verdict.Verdict.{Verdict}
use Rattle.object_commands.specs.declared.verdict.Verdict.TheVariants.{Write, Answer}
use Rattle.object_commands.specs.Kept.{entry_of}
use Rattle.leader_output.specs.declared.out.AnswerOut.{AnswerOut}
use Rattle.leader_output.specs.declared.out.Outgoing.{Outgoing}
use Rattle.leader_laws.proofs.Lookups.{stage_here, known_here}
use Rattle.leader.specs.Leaders.{settled_as, is_spent}
use Rattle.leader.specs.declared.leader.Leader.{Leader}
use Rattle.leader.specs.declared.pending.Pending.{Pending}
use Rattle.leader.specs.declared.pending.Pending.TheVariants as pendings
use Rattle.md5.specs.Md5.{md5}
use Rattle.network.specs.Mail.{Mail, IsMail}
use Rattle.peer_state.specs.declared.state.State.{State}
use Rattle.quorums.specs.Rounds.{state_of, begun}
use Rattle.quorums.specs.declared.round.RoundState.{RoundState}
use Rattle.quorums.specs.declared.round.RoundState.TheVariants.{Open, Met, AllAnswered}
use Rattle.register_model.specs.Histories.{IsDone}
use Rattle.register_model.specs.Registers.{Outcome, Keeps, Writes, outcome}
use Rattle.register_model.specs.declared.note.Note.{Note}
use Rattle.register_model.specs.declared.printed.Printed.{Printed}
use Rattle.register_model.specs.declared.printed.Printed.TheVariants as printed
use Rattle.register_model.specs.declared.register.Register.TheVariants.{Absent}
use Rattle.step_plans.specs.Plans.{Out, Rest}
use Rattle.step_plans.specs.declared.tasks.Task.{Task}
use Rattle.synctree.specs.Entries.{lookup, put}
use Rattle.calm_step_laws.specs.PeerRefinement.{AreAmong, AreFree, IsWhole}
use Rattle.wire_frames.specs.declared.frame.Frame.{Frame}
use Rattle.wire_frames.specs.declared.message.Message.{Message}
use Rattle.wire_frames.specs.declared.message.Message.TheVariants as messages
use Rattle.world_refinement.specs.WorldSpec.{Up, Run, place_of, frame_from, next_event, posted_all}
use Rattle.world_refinement.proofs.ChangedNodes.{set_same}
use Rattle.world_refinement.proofs.WorldSpec.{posted_mail}
use Rattle.calm_step_laws.proofs.CandidateSteps.{ballot, accepted}
use Rattle.calm_step_laws.proofs.CheckReplies.{ended_calls}
use Rattle.object_commands.proofs.Outcomes.{OutcomeFits, outcome_fits}
use Rattle.calm_step_laws.proofs.LeaderSteps.{ending, ends_here}
use Rattle.calm_step_laws.proofs.Keeping.{Keeping, Standing}
use Rattle.calm_step_laws.proofs.Lands.{Aim}
use Rattle.calm_step_laws.proofs.Leads.{leads, told}
use Rattle.calm_step_laws.proofs.Requests.{HasWritten}
use Rattle.calm_step_laws.proofs.Serving.{Goes, WritesEnd, ChecksEnd, AppliesEnd, missing, by_round}
use Rattle.calm_step_laws.proofs.Verdicts.{reply_completes}
use Rattle.calm_laws.proofs.UnderWay.{Round, IsUnderWay}
use Rattle.calm_laws.proofs.Waits.{AllWaiting}
use Rattle.calm_laws.proofs.ElectionReplies.{sent_both}
use Rattle.calm_laws.proofs.ElectionRequests.{IsQuiet}
use Rattle.calm_laws.proofs.Elections.{IsOther, rests}
use Rattle.calm_laws.proofs.Rounds.{begins}
use Rattle.calm_laws.proofs.ServedMembers.{with_map, map_here, map_other, each_map, at_mail}
use Rattle.calm_laws.proofs.ServedRows.{known_stays, ended_rows, check_here, fits_in, staged, learned, numbered, rounded, freed, stored}
use Rattle.calm_laws.proofs.ServedSends.{to_others, reaches_all, reaches_only}
use Rattle.calm_laws.proofs.ServedVotes.{IsBegun, kinds_posted, begins as begins_round}
use Rattle.calm_laws.proofs.ServedWorlds.{Scene, IsTold, Wait, Checks, Puts, stage_of, round_for, Knows, IsUnknown, IsPast, version_at, Holds, IsReading, Kind, MayAsk, Serves, Runs, busy_with, Leading}
use Rattle.calm_laws.proofs.Standing.{Stands, stands_other}
use Rattle.calm_laws.proofs.Worlds.{moved}

-- the only call is the running one of its key
pub runs_here : (call : Waiting) → running call.key (call ∷ []) ≡ Some call
runs_here call = rw (bytes_itself call.key) refl

pub gone : (call : Waiting) → without_running call.key (call ∷ []) ≡ []
gone call = rw (bytes_itself call.key) refl

module _ (me : ℕ) (view : List ℕ) (is_peer : IsPeer me) (peers : (q : ℕ) → q ∈ view → IsPeer q) (listed : me ∈ view) (strings : List (List ℕ)) (free : AreFree strings) (n : Scene) (accepts : List Bool) where
  -- the leader with these numbers, this table and this task
  abbrev pub L : ℕ → ℕ → CallTable → Pending → Leader
  L seq round t task = record { fact = accepted me view; me = me; accepts = accepts; seq = seq; round = round; table = t; task = task }

  -- the leader once it did its tasks
  abbrev pub F : ℕ → ℕ → CallTable → Leader
  F seq round t = L seq round t pendings.Nothing

  -- the table in which the key has this stage, and the one in which this is known of it
  abbrev pub at_stage : List ℕ → Wait me view → CallTable → CallTable
  at_stage key wait t = record t { rows = with_stage key (stage_of me view wait) t.rows }

  abbrev pub at_known : List ℕ → Known → CallTable → CallTable
  at_known key known t = record t { rows = with_known key known t.rows }

  -- ## A step in a world in which these messages wait, and whose peers stand so

  module _ (w : Run) (base : Mail) (base_mail : IsMail base) (lines : w.printed ≡ n.before) (x : Standing) (maps : ℕ → List Entry) (own : Stands w me x (maps me)) (others : (q : ℕ) → IsOther me view q → Stands w q (rests (accepted me view)) (maps q)) where
    abbrev v : Run
    v = record w { mail = base }

    abbrev pub sent : Out → Mail
    sent out = posted_all (map (frame_from me) out.sends) base

    abbrev pub Moves : Aim
    Moves y g out ms = AreAmong w.hashed g.hashed → Leading me view n (moved me y g out ms v)

    -- the step is to come to this leader, whatever its seal and its mode are
    abbrev pub MovesTo : Leader → Held → Out → List Note → Type 0
    MovesTo l g out ms = (keep : Keeping) → Moves (leads (accepted me view) l keep) g out ms

    abbrev Now : ℕ → ℕ → Rows → Held → (ℕ → List Entry) → Option (List ℕ) → Type 0
    Now seq round rows h all busy = Holds me view n seq round rows h.stores all busy

    abbrev AllKinds : Leader → Option (List ℕ × Wait me view) → Mail → Type 0
    AllKinds l runs m = AllWaiting (Kind me view n l runs) m

    -- the step leads to this leader, and what the world then holds
    pub made : (seq round : ℕ) (t : CallTable) (runs : Option (List ℕ × Wait me view)) (g : Held) (out : Out) (ms : List Note) (m : List Entry) → IsWhole g m → Now seq round t.rows g (with_map me m maps) (busy_with me view runs)
        → ((keep : Keeping) → Runs me view n (F seq round t) g.stores (moved me (leads (accepted me view) (F seq round t) keep) g out ms v) runs) → AllKinds (F seq round t) runs (sent out) → MovesTo (F seq round t) g out ms
    made seq round t runs g out ms m whole holds_so standing kinds = λ keep grown. record {
      mail = posted_mail (map (frame_from me) out.sends) base base_mail;
      l = F seq round t;
      fact = refl;
      self = refl;
      task = refl;
      map = with_map me m maps;
      leader = record {
        keep = keep;
        stores = g.stores;
        at = set_same w.nodes (place_of me) (Up (leads (accepted me view) (F seq round t) keep) g.stores) (Up (x own.keep) own.stores) own.at;
        whole = subst (λ es. IsWhole g es) (sym (map_here me m maps)) whole;
      };
      others = λ q is. subst (λ es. Stands (moved me (leads (accepted me view) (F seq round t) keep) g out ms v) q (rests (accepted me view)) es) (sym (map_other me m maps q is.1))
          (stands_other me (leads (accepted me view) (F seq round t)) keep g out ms v q (rests (accepted me view)) (maps q) is_peer (peers q is.0) is.1 grown (at_mail w base q (rests (accepted me view)) (maps q) (others q is)));
      runs = runs;
      holds_well = holds_so;
      standing = standing keep;
      kinds = kinds;
    }

    -- the answer to the call
    abbrev answer_to : Waiting → Reply → AnswerOut
    answer_to call reply = record { caller = call.from; id = call.id; reply = reply }

    -- the step ends with the call answered
    pub answers_now : (call : Waiting) (seq round : ℕ) (t : CallTable) (reply : Reply) (g : Held) (out : Out) (ms : List Note) (m : List Entry) → t.calls ≡ call ∷ [] → n.call ≡ Some call.id → IsDone reply
        → out.answers ≡ answer_to call reply ∷ [] → out.changes ≡ [] → IsWhole g m → Now seq round t.rows g (with_map me m maps) (Some call.key) → Knows me view t.rows g.stores call.key
        → AllKinds (F seq round (ended call.key t)) None (sent out) → MovesTo (F seq round (ended call.key t)) g out ms
    answers_now call seq round t reply g out ms m calls named done given unchanged whole holds_so known kinds =
        made seq round (ended call.key t) None g out ms m whole
        (subst (λ (rows : Rows). Now seq round rows g (with_map me m maps) None) (sym (ended_rows call.key t)) (freed me view n seq round t.rows g.stores (with_map me m maps) call.key known holds_so)) (λ keep. (
          ended_calls call.key t ∙ (ap (λ cs. without_running call.key cs) calls ∙ gone call),
          subst (λ (o : Option ℕ). IsTold n o (moved me (leads (accepted me view) (F seq round (ended call.key t)) keep) g out ms v)) (sym named)
              (record { answer = record { id = call.id; event = next_event w.events; reply = reply }; named = refl; done = done; early = omega arith; shown = shown }),
        ))
        kinds
      where
        shown : w.printed ++ (map (λ (a : AnswerOut). printed.Answer (record { id = a.id; event = next_event w.events; reply = a.reply })) out.answers ++ map (λ (taken : Bool). printed.Change (next_event w.events) me taken) out.changes)
            ≡ n.before ++ printed.Answer (record { id = call.id; event = next_event w.events; reply = reply }) ∷ []
        shown = rw (given, unchanged) (ap (λ (ps : List Printed). ps ++ printed.Answer (record { id = call.id; event = next_event w.events; reply = reply }) ∷ []) lines)

    -- the step ends in a round that waits
    pub waits_now : (call : Waiting) (wait : Wait me view) (seq round : ℕ) (t : CallTable) (g : Held) (out : Out) (ms : List Note) (m : List Entry) → IsQuiet out → IsWhole g m → Now seq round t.rows g (with_map me m maps) (Some call.key)
        → Serves me view n (F seq round t) g.stores (sent out) call wait → AllKinds (F seq round t) (Some (call.key, wait)) (sent out) → MovesTo (F seq round t) g out ms
    waits_now call wait seq round t g out ms m quiet whole holds_so serves kinds =
        made seq round t (Some (call.key, wait)) g out ms m whole holds_so (λ keep. (rw (quiet.answers, quiet.changes) (append-nil w.printed ∙ lines), (call, refl, serves))) kinds

    -- ## In the middle of a step

    -- a message that may also wait later, unless a key is being read
    abbrev pub Lingers : ℕ → Frame → Type 0
    Lingers round f = (l : Leader) (runs : Option (List ℕ × Wait me view)) → round ≤ l.round → (IsReading me view runs → ⊥) → Kind me view n l runs f

    -- the leader is about to go on with its only call, and wrote nothing yet
    pub record Mid (call : Waiting) (seq round : ℕ) (t : CallTable) (h : Held) (out : Out) : Type 0 where
      pub quiet : IsQuiet out
      pub whole : IsWhole h (maps me)
      pub so : Now seq round t.rows h maps (Some call.key)
      pub calls : t.calls ≡ call ∷ []
      pub named : n.call ≡ Some call.id
      pub key : IsKey call.key
      pub command : IsCommand call.command
      pub was_called : call.key ∈ n.called
      pub room : suc seq ≤ n.count
      pub kinds : AllWaiting (Lingers round) (sent out)

    -- the own map is as it was
    pub same_maps : (seq round : ℕ) (rows : Rows) (h : Held) (busy : Option (List ℕ)) → Now seq round rows h maps busy → Now seq round rows h (with_map me (maps me) maps) busy
    same_maps seq round rows h busy so = record {
      seqs = so.seqs;
      rounds = so.rounds;
      past = λ q e is at. each_map me (maps me) maps (λ es. e ∈ es → IsPast me view seq n.called e) q (λ apart. so.past q e is) (so.past me e listed) at;
      idle = so.idle;
      knows = so.knows;
      unknown = λ k is q at. each_map me (maps me) maps (λ es. lookup k es ≡ None) q (λ apart. so.unknown k is q at) (so.unknown k is me listed);
    }

    -- the messages of a new round, and those that waited
    pub kinds_after : (l : Leader) (runs : Option (List ℕ × Wait me view)) (round : ℕ) (out : Out) (message : Message) (given : List AnswerOut) → AllWaiting (Lingers round) (sent out) → round ≤ l.round → (IsReading me view runs → ⊥) → MayAsk me view n l runs message
        → AllKinds l runs (sent (told out (to_others me view peers message) given))
    kinds_after l runs round out message given kinds le not may =
        subst (λ (m : Mail). AllKinds l runs m) (sym (sent_both me out.sends (to_others me view peers message) base))
        (kinds_posted (Lingers round) (Kind me view n l runs) (sent out) (map (frame_from me) (to_others me view peers message)) (posted_mail (map (frame_from me) out.sends) base base_mail) kinds
        (λ f lingers. lingers l runs le not) (λ f is. let it = reaches_only me view peers message f is in inl (record { to = it.to; other = it.other; message = message; is = it.is; may = may })))

    -- each other member is asked in a new round
    pub way_after : (r : Round) (out : Out) (given : List AnswerOut) (votes : ℕ → Bool) (q : ℕ) → r.leader ≡ me → IsOther me view q → IsUnderWay r (λ k. true) (sent (told out (to_others me view peers r.ask) given)) votes q
    way_after r out given votes q leads_it other =
        subst (λ (m : Mail). IsUnderWay r (λ k. true) m votes q) (sym (sent_both me out.sends (to_others me view peers r.ask) base))
        (begins r (λ k. true) (map (frame_from me) (to_others me view peers r.ask)) (sent out) votes q (posted_mail (map (frame_from me) out.sends) base base_mail) refl
        (subst (λ (p : ℕ). (let f : Frame = record { from = p; to = q; message = r.ask } in f) ∈ map (frame_from me) (to_others me view peers r.ask)) (sym leads_it) (reaches_all me view peers r.ask q other)))

    -- ## How the rules of the call end

    abbrev End : Rest State (List Task)
    End = ending me (accepted me view) strings Moves free

    pub first_votes : IsBegun view me (begun (view ∷ []) me)
    first_votes = begins_round view me listed is_peer

    pub small_number : (k : ℕ) → k ≤ n.count → is_spent k ≡ false
    small_number k few = within k few n.small where
      within : (k : ℕ) → k ≤ n.count → (n.count < 2 ^ 32) → is_spent k ≡ false
      within k few small = grind (arith, nat_tests, few, small)

    pub with_answer : (out : Out) (a : AnswerOut) → IsQuiet out → out.answers ++ a ∷ [] ≡ a ∷ []
    with_answer out a quiet = ap (λ (given : List AnswerOut). given ++ a ∷ []) quiet.answers

    -- a key is still known after its call ended
    known_after : (key : List ℕ) (known : Known) (t : CallTable) → (row_at key t.rows).known ≡ known → (known ≡ knowns.Unknown → ⊥) → IsUnknown me view (ended key t).rows key → ⊥
    known_after key known t is some unknown = some (sym is ∙ (sym (known_stays key key stages.Idle t.rows) ∙ subst (λ (rows : Rows). IsUnknown me view rows key) (ended_rows key t) unknown))

    -- what waited goes on to wait
    pub kinds_still : (l : Leader) (runs : Option (List ℕ × Wait me view)) (round : ℕ) (out : Out) (given : List AnswerOut) → AllWaiting (Lingers round) (sent out) → round ≤ l.round → (IsReading me view runs → ⊥) → AllKinds l runs (sent (told out [] given))
    kinds_still l runs round out given kinds le not = subst (λ (sends : List Outgoing). AllKinds l runs (posted_all (map (frame_from me) sends) base)) (sym (append-nil out.sends)) (λ f waits. kinds f waits l runs le not)

    module _ (call : Waiting) (seq round : ℕ) (t : CallTable) (h : Held) (out : Out) (mid : Mid call seq round t h out) where
      -- ### Writes

      module _ (content : Option (List ℕ)) (fine : IsContent content) (known : IsUnknown me view t.rows call.key → ⊥) where
        abbrev o : Object
        o = record { version = version_at me view (seq + 1); stamp = version_at me view (seq + 1); key = call.key; value = content }

        valid : IsObject (let p : Object = record { version = version_at me view (seq + 1); stamp = version_at me view (seq + 1); key = call.key; value = content } in p)
        valid = record { version = in_range mid.room n.small is_peer.1; stamp = in_range mid.room n.small is_peer.1; key = mid.key; content = fine } where
          in_range : suc seq ≤ n.count → (n.count < 2 ^ 32) → me ≤ 31 → IsVersion (version_at me view (seq + 1))
          in_range room small low = record { epoch = record { count = omega arith; proposer = omega (arith, low) }; seq = omega (arith, room, small) }

        module _ (g : Held) (has : HasWritten o (maps me) h g) where
          so_stored : Now (seq + 1) round t.rows g (with_map me (put (entry_of o (md5 (object_spelling o))) (maps me)) maps) (Some call.key)
          so_stored = stored me view n listed (seq + 1) round t.rows call.key o h g maps refl refl known mid.was_called has (numbered me view n seq round t.rows h.stores maps (Some call.key) mid.room mid.so)

          in_backend : value_at call.key g.stores.backend.entries ≡ Some (object_spelling o)
          in_backend = ap (λ es. value_at call.key es) has.backend ∙ found_after call.key (object_spelling o) h.stores.backend.entries

          -- the put waits for acknowledgements
          puts_waiting : state_of (begun (view ∷ []) me) ≡ Open → (ms : List Note)
              → MovesTo (F (seq + 1) round (at_stage call.key (Puts o (begun (view ∷ []) me)) t)) g (told out (to_others me view peers (messages.Put (ballot me view) o)) []) ms
          puts_waiting is ms =
              let wait : Wait me view = Puts o (begun (view ∷ []) me) in
              let u : CallTable = at_stage call.key wait t in
              let not : IsUnknown me view u.rows call.key → ⊥ = λ unknown. known (sym (known_stays call.key call.key (stage_of me view wait) t.rows) ∙ unknown) in
              waits_now call wait (seq + 1) round u g (told out (to_others me view peers (messages.Put (ballot me view) o)) []) ms (put (entry_of o (md5 (object_spelling o))) (maps me))
              (record { answers = append-nil out.answers ∙ mid.quiet.answers; changes = mid.quiet.changes }) has.whole
              (staged me view n (seq + 1) round t.rows g.stores (with_map me (put (entry_of o (md5 (object_spelling o))) (maps me)) maps) call.key (stage_of me view wait) so_stored)
              (record {
                calls = mid.calls;
                named = mid.named;
                key = mid.key;
                command = mid.command;
                was_called = mid.was_called;
                stage = stage_here call.key (stage_of me view wait) t.rows;
                fits = (valid, refl, refl, not, in_backend);
                open_yet = is;
                views = first_votes.views;
                size = first_votes.size;
                own = first_votes.own;
                others = λ q other. way_after (round_for me view call.key wait) out [] (λ k. holds (begun (view ∷ []) me).tally.votes k) q refl other;
              })
              (kinds_after (F (seq + 1) round u) (Some (call.key, wait)) round out (messages.Put (ballot me view) o) [] mid.kinds (omega arith) (λ r. r) (refl, valid, refl, not, mid.was_called, λ r. r))

          -- the put is settled at once
          puts_settled : (ms : List Note) → MovesTo (F (seq + 1) round (ended call.key (at_known call.key (settled_as o.version o (md5 (object_spelling o))) t))) g
              (told out (to_others me view peers (messages.Put (ballot me view) o)) (answer_to call (replies.Ok o.stamp) ∷ [])) ms
          puts_settled ms =
              let known_as : Known = settled_as o.version o (md5 (object_spelling o)) in
              let u : CallTable = at_known call.key known_as t in
              let some : known_as ≡ knowns.Unknown → ⊥ = λ e. let no : ⊥ = grind (arith, e) in no in
              let is : (row_at call.key u.rows).known ≡ known_as = known_here call.key known_as t.rows in
              answers_now call (seq + 1) round u (replies.Ok o.stamp) g (told out (to_others me view peers (messages.Put (ballot me view) o)) (answer_to call (replies.Ok o.stamp) ∷ [])) ms
              (put (entry_of o (md5 (object_spelling o))) (maps me)) mid.calls mid.named tt (with_answer out (answer_to call (replies.Ok o.stamp)) mid.quiet) mid.quiet.changes has.whole
              (learned me view n (seq + 1) round t.rows g.stores (with_map me (put (entry_of o (md5 (object_spelling o))) (maps me)) maps) call.key known_as some so_stored)
              (inr (inr (record { object = o; valid = valid; keyed = refl; is = is; has = in_backend })))
              (kinds_after (F (seq + 1) round (ended call.key u)) None round out (messages.Put (ballot me view) o) (answer_to call (replies.Ok o.stamp) ∷ []) mid.kinds (omega arith) (λ r. r)
              (refl, valid, refl, known_after call.key known_as u is some, mid.was_called, λ r. r))

        -- rule 31 and what follows
        pub writes_end : (task : Pending) (state : RoundState) → state_of (begun (view ∷ []) me) ≡ state → WritesEnd me (accepted me view) strings Moves free End call.key call (runs_here call) state content (L seq round t task) out h (maps me)
        writes_end task state is = (fits_in n h (maps me) o mid.whole valid mid.was_called (λ e at. (mid.so.past me e listed at).2), λ g has. by state is g has) where
          by : (state : RoundState) → state_of (begun (view ∷ []) me) ≡ state → (g : Held) (has : HasWritten o (maps me) h g)
              → by_round state (Goes me (accepted me view) strings Moves free End call.key call (runs_here call) (F (seq + 1) round (at_stage call.key (Puts o (begun (view ∷ []) me)) t)) (told out (to_others me view peers (messages.Put (ballot me view) o)) []) g)
              (Goes me (accepted me view) strings Moves free End call.key call (runs_here call) (F (seq + 1) round (ended call.key (at_known call.key (settled_as o.version o (md5 (object_spelling o))) t))) (told out (to_others me view peers (messages.Put (ballot me view) o)) (answer_to call (replies.Ok o.stamp) ∷ [])) g)
          by Open is g has = ends_here me (accepted me view) strings Moves free (F (seq + 1) round (at_stage call.key (Puts o (begun (view ∷ []) me)) t)) (told out (to_others me view peers (messages.Put (ballot me view) o)) []) g (puts_waiting g has is)
          by Met is g has = ends_here me (accepted me view) strings Moves free (F (seq + 1) round (ended call.key (at_known call.key (settled_as o.version o (md5 (object_spelling o))) t))) (told out (to_others me view peers (messages.Put (ballot me view) o)) (answer_to call (replies.Ok o.stamp) ∷ [])) g (puts_settled g has)
          by AllAnswered is g has = ends_here me (accepted me view) strings Moves free (F (seq + 1) round (ended call.key (at_known call.key (settled_as o.version o (md5 (object_spelling o))) t))) (told out (to_others me view peers (messages.Put (ballot me view) o)) (answer_to call (replies.Ok o.stamp) ∷ [])) g (puts_settled g has)

      -- ### Checks

      module _ (reply : Reply) (done : IsDone reply) (known : Knows me view t.rows h.stores call.key) (more : suc round ≤ n.count) where
        so_rounded : Now seq (round + 1) t.rows h (with_map me (maps me) maps) (Some call.key)
        so_rounded = rounded me view n seq round t.rows h.stores (with_map me (maps me) maps) (Some call.key) more (same_maps seq round t.rows h (Some call.key) mid.so)

        checks_waiting : state_of (begun (view ∷ []) me) ≡ Open → (ms : List Note)
            → MovesTo (F seq (round + 1) (record (at_stage call.key (Checks (round + 1) (begun (view ∷ []) me) reply) t) { checks = with_check (round + 1) call.key t.checks })) h (told out (to_others me view peers (messages.Check (ballot me view) (round + 1))) []) ms
        checks_waiting is ms =
            let wait : Wait me view = Checks (round + 1) (begun (view ∷ []) me) reply in
            let u : CallTable = record (at_stage call.key wait t) { checks = with_check (round + 1) call.key t.checks } in
            waits_now call wait seq (round + 1) u h (told out (to_others me view peers (messages.Check (ballot me view) (round + 1))) []) ms (maps me)
            (record { answers = append-nil out.answers ∙ mid.quiet.answers; changes = mid.quiet.changes }) mid.whole
            (staged me view n seq (round + 1) t.rows h.stores (with_map me (maps me) maps) call.key (stage_of me view wait) so_rounded)
            (record {
              calls = mid.calls;
              named = mid.named;
              key = mid.key;
              command = mid.command;
              was_called = mid.was_called;
              stage = stage_here call.key (stage_of me view wait) t.rows;
              fits = (check_here (round + 1) call.key t.checks, done, rw (known_stays call.key call.key (stage_of me view wait) t.rows) known);
              open_yet = is;
              views = first_votes.views;
              size = first_votes.size;
              own = first_votes.own;
              others = λ q other. way_after (round_for me view call.key wait) out [] (λ k. holds (begun (view ∷ []) me).tally.votes k) q refl other;
            })
            (kinds_after (F seq (round + 1) u) (Some (call.key, wait)) round out (messages.Check (ballot me view) (round + 1)) [] mid.kinds (omega arith) (λ r. r) (refl, omega arith))

        checks_answered : (ms : List Note) → MovesTo (F seq (round + 1) (ended call.key t)) h (told out (to_others me view peers (messages.Check (ballot me view) (round + 1))) (answer_to call reply ∷ [])) ms
        checks_answered ms =
            answers_now call seq (round + 1) t reply h (told out (to_others me view peers (messages.Check (ballot me view) (round + 1))) (answer_to call reply ∷ [])) ms (maps me) mid.calls mid.named done (with_answer out (answer_to call reply) mid.quiet) mid.quiet.changes mid.whole so_rounded known
            (kinds_after (F seq (round + 1) (ended call.key t)) None round out (messages.Check (ballot me view) (round + 1)) (answer_to call reply ∷ []) mid.kinds (omega arith) (λ r. r) (refl, omega arith))

        -- rule 33
        pub checks_end : (task : Pending) (state : RoundState) → state_of (begun (view ∷ []) me) ≡ state → ChecksEnd me (accepted me view) strings Moves free End call.key call (runs_here call) state reply (L seq round t task) out h
        checks_end task Open is = ends_here me (accepted me view) strings Moves free (F seq (round + 1) (record (at_stage call.key (Checks (round + 1) (begun (view ∷ []) me) reply) t) { checks = with_check (round + 1) call.key t.checks }))
            (told out (to_others me view peers (messages.Check (ballot me view) (round + 1))) []) h (checks_waiting is)
        checks_end task Met is = ends_here me (accepted me view) strings Moves free (F seq (round + 1) (ended call.key t)) (told out (to_others me view peers (messages.Check (ballot me view) (round + 1))) (answer_to call reply ∷ [])) h checks_answered
        checks_end task AllAnswered is = ends_here me (accepted me view) strings Moves free (F seq (round + 1) (ended call.key t)) (told out (to_others me view peers (messages.Check (ballot me view) (round + 1))) (answer_to call reply ∷ [])) h checks_answered

    -- ### A key that is absent

    module _ (call : Waiting) (seq round : ℕ) (t : CallTable) (h : Held) (out : Out) (mid : Mid call seq round t h out) where
      pub not_there : knowns.Absent ≡ knowns.Unknown → ⊥
      not_there e = let no : ⊥ = grind (arith, e) in no

      learned_mid : Mid call seq round (at_known call.key knowns.Absent t) h out
      learned_mid = record {
        quiet = mid.quiet;
        whole = mid.whole;
        so = learned me view n seq round t.rows h.stores maps call.key knowns.Absent not_there mid.so;
        calls = mid.calls;
        named = mid.named;
        key = mid.key;
        command = mid.command;
        was_called = mid.was_called;
        room = mid.room;
        kinds = mid.kinds;
      }

      answers_absent : (reply : Reply) → IsDone reply → (ms : List Note) → MovesTo (F seq round (ended call.key (at_known call.key knowns.Absent t))) h (told out [] (answer_to call reply ∷ [])) ms
      answers_absent reply done ms =
          let u : CallTable = at_known call.key knowns.Absent t in
          answers_now call seq round u reply h (told out [] (answer_to call reply ∷ [])) ms (maps me) mid.calls mid.named done (with_answer out (answer_to call reply) mid.quiet) mid.quiet.changes mid.whole
          (same_maps seq round u.rows h (Some call.key) learned_mid.so) (inr (inl (known_here call.key knowns.Absent t.rows)))
          (kinds_still (F seq round (ended call.key u)) None round out (answer_to call reply ∷ []) mid.kinds (omega arith) (λ r. r))

      content_fine : (content : Option (List ℕ)) → verdict_of (outcome call.command Absent) ≡ Write content → IsContent content
      content_fine content is = by (outcome call.command Absent) (outcome_fits call.command Absent mid.command tt) is where
        same_content : (a b : Option (List ℕ)) → Write a ≡ Write b → a ≡ b
        same_content a b same = grind (arith, same)

        by : (o : Outcome) → OutcomeFits o → verdict_of o ≡ Write content → IsContent content
        by (Keeps reply) fits same = absurd (let no : ⊥ = grind (arith, same) in no)
        by (Writes given) fits same = subst IsContent (same_content given content same) fits

      -- rule 34 and what follows
      pub applies_end : (task : Pending) (state : RoundState) (verdict : Verdict) → state_of (begun (view ∷ []) me) ≡ state → verdict_of (outcome call.command Absent) ≡ verdict
          → AppliesEnd me (accepted me view) strings Moves free End call.key call (runs_here call) state verdict (missing me (accepted me view) strings Moves free End call.key call (runs_here call) (L seq round t task)) out h (maps me)
      applies_end task state (Write content) state_is is =
          (small_number seq mid.so.seqs, writes_end call seq round (at_known call.key knowns.Absent t) h out learned_mid content (content_fine content is) (λ unknown. not_there (sym (known_here call.key knowns.Absent t.rows) ∙ unknown)) (pendings.Apply None) state state_is)
      applies_end task state (Answer reply) state_is is =
          ends_here me (accepted me view) strings Moves free (F seq round (ended call.key (at_known call.key knowns.Absent t))) (told out [] (answer_to call reply ∷ [])) h (answers_absent reply (reply_completes call.command Absent reply is))
