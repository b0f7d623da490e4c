-- While calls are served: the world after a reply comes to the leader, which counts it, or ignores it.
use Rattle.std.proofs.Common.{◌≡◌, ◌≤◌, ◌==◌, ◌&&◌, inl, inr, refl, ap, sym, ◌∙◌, subst, arith, ℕ, Bool, true, false, List, [], ◌∷◌, Option, None, Some}
use Rattle.std.specs.Prelude.{slice_get}
use Rattle.std.proofs.lemmas.Bool.{eqb-true, eqb-false, false≢true}
use Rattle.std.proofs.lemmas.Bool.Decides.{nat_tests}
use Rattle.std.proofs.lemmas.List.{append-nil}
use Rattle.call_table.specs.Calls.{running}
use Rattle.call_table.specs.Rows.{Rows, row_at, check_at}
use Rattle.call_table.specs.Tables.{ended}
use Rattle.call_table.specs.declared.row.KeyRow.{KeyRow}
use Rattle.call_table.specs.declared.row.Known.{Known}
use Rattle.call_table.specs.declared.row.Known.TheVariants as knowns
use Rattle.call_table.specs.declared.row.Stage.{Stage}
use Rattle.call_table.specs.declared.row.Stage.TheVariants as stages
use Rattle.call_table.specs.declared.table.CallTable.{CallTable}
use Rattle.call_table.specs.declared.waiting.Waiting.{Waiting}
use Rattle.ens_base.proofs.Lists.{bytes_same, bytes_itself}
use Rattle.ens_base.proofs.Orders.{version_itself, version_same}
use Rattle.ens_base.specs.Epochs.{same_version}
use Rattle.ens_base.specs.Lists.{◌∈◌, same_bytes}
use Rattle.ens_base.specs.PeerSet.{holds}
use Rattle.ens_base.specs.View.{IsPeer}
use Rattle.ens_base.specs.declared.entry.Entry.{Entry}
use Rattle.ens_base.specs.declared.epoch.Epoch.{Epoch}
use Rattle.ens_base.specs.declared.epoch.Version.{Version}
use Rattle.ens_base.specs.declared.reply.Reply.{Reply}
use Rattle.ens_base.specs.declared.reply.Reply.TheVariants as replies
use Rattle.stored_formats.specs.Objects.{object_spelling}
use Rattle.stored_formats.specs.declared.object.Object.{Object}
use Rattle.calm_step_laws.specs.WorldSpec.{Held, held_with, step_of}
use Rattle.object_commands.specs.Commands.{verdict_of}
use Rattle.leader_output.specs.Outs.{rests as rests_out}
use Rattle.leader_laws.proofs.Lookups.{stage_here, known_other, known_here}
use Rattle.leader.specs.Leaders.{settled_as, base}
use Rattle.leader.specs.Puts.{row_35_reply, acknowledged_by}
use Rattle.leader.specs.Rounds.{row_29_reply, row_33_reply, heard, stood, stood_at, counts}
use Rattle.leader.specs.declared.leader.Leader.{Leader}
use Rattle.leader.specs.declared.pending.Pending.TheVariants as pendings
use Rattle.md5.specs.Md5.{md5}
use Rattle.network.proofs.MailLaws.{is_mail_settled}
use Rattle.network.specs.Mail.{Mail, settled}
use Rattle.peer_state.specs.declared.event.Event.TheVariants as events
use Rattle.phase_rows.specs.Orders.{is_same}
use Rattle.quorums.specs.Rounds.{state_of, begun, answered as heard_from}
use Rattle.quorums.specs.declared.round.Round.{Round as Tally}
use Rattle.quorums.specs.declared.round.RoundState.{RoundState}
use Rattle.quorums.specs.declared.round.RoundState.TheVariants.{Open, Met, AllAnswered}
use Rattle.register_model.specs.Registers.{outcome}
use Rattle.register_model.specs.declared.note.Note.{Note}
use Rattle.register_model.specs.declared.note.Note.TheVariants.{Read}
use Rattle.register_model.specs.declared.register.Register.TheVariants.{Absent}
use Rattle.step_plans.specs.Plans.{nothing}
use Rattle.calm_step_laws.specs.PeerRefinement.{AreAmong, AreFree}
use Rattle.wire_frames.specs.declared.frame.Frame.{Frame}
use Rattle.wire_frames.specs.declared.message.Message.{Message}
use Rattle.wire_frames.specs.declared.message.Message.TheVariants as messages
use Rattle.world_refinement.specs.WorldSpec.{Up, Run, place_of, received}
use Rattle.world_refinement.proofs.ChangedNodes.{set_same}
use Rattle.calm_step_laws.proofs.CandidateSteps.{ballot, accepted}
use Rattle.calm_step_laws.proofs.CheckReplies.{heard_open, heard_met}
use Rattle.calm_step_laws.proofs.Keeping.{Keeping}
use Rattle.calm_step_laws.proofs.Lands.{Aim}
use Rattle.calm_step_laws.proofs.LeaderSteps.{ending, ends_here, heard_read, heard_put, late_read, late_put, late_check}
use Rattle.calm_step_laws.proofs.Leads.{leads, told, LandsFrom}
use Rattle.calm_step_laws.proofs.Serving.{Goes, AppliesEnd, missing, by_round}
use Rattle.calm_laws.proofs.UnderWay.{Round, IsUnderWay}
use Rattle.calm_laws.proofs.Elections.{IsOther, rests, replying}
use Rattle.calm_laws.proofs.Rounds.{delivers}
use Rattle.calm_laws.proofs.ServedLeader.{runs_here, F, at_stage, at_known, Mid, applies_end, answers_now, waits_now, same_maps}
use Rattle.calm_laws.proofs.ServedMembers.{with_map, at_mail}
use Rattle.calm_laws.proofs.ServedRows.{known_stays, ended_rows, staged, learned}
use Rattle.calm_laws.proofs.ServedVotes.{IsCounted, counted}
use Rattle.calm_laws.proofs.ServedWorlds.{Scene, IsTold, Wait, Reads, Checks, Puts, stage_of, votes_of, round_for, IsUnknown, version_at, IsFitting, IsApart, Holds, IsReading, IsReadOf, MayAsk, MayReply, Kind, Serves, Runs, busy_with, Leading}
use Rattle.calm_laws.proofs.Standing.{stands_other}
use Rattle.calm_laws.proofs.Waiting.{kinds_stay, was_settled}
use Rattle.calm_laws.proofs.Worlds.{moved, step_grows, whole_grows}

both_false : (b : Bool) → (b && false) ≡ false
both_false true = refl
both_false false = refl

-- a leader is told by its parts
pub as_parts : (l : Leader) (me : ℕ) (view : List ℕ) → l.fact ≡ accepted me view → l.me ≡ me → l.task ≡ pendings.Nothing → l ≡ (let m : Leader = record { fact = accepted me view; me = me; accepts = l.accepts; seq = l.seq; round = l.round; table = l.table; task = pendings.Nothing } in m)
as_parts l me view fact self task = ap (λ f. record l { fact = f }) fact ∙ (ap (λ m. record l { fact = accepted me view; me = m }) self ∙ ap (λ t. record l { fact = accepted me view; me = me; task = t }) task)

module _ (me : ℕ) (view : List ℕ) (is_peer : IsPeer me) (peers : (q : ℕ) → q ∈ view → IsPeer q) (listed : me ∈ view) (strings : List (List ℕ)) (free : AreFree strings) where
  -- ## What may wait after a step

  module _ (n : Scene) where
    -- what waited during a read goes on to wait
    pub lingers : (w : Run) (base : Mail) (l : Leader) (runs : Option (List ℕ × Wait me view)) (f : Frame) → IsReading me view runs → Kind me view n l runs f → (m : Leader) (now : Option (List ℕ × Wait me view)) → l.round ≤ m.round → (IsReading me view now → ⊥) → Kind me view n m now f
    lingers w base l runs f reading (inl a) m now le not = inl (record { to = a.to; other = a.other; message = a.message; is = a.is; may = by a.message a.may }) where
      by : (x : Message) → MayAsk me view n l runs x → MayAsk me view n m now x
      by (messages.Get d r k) may = (may.0, omega (arith, may.1, le))
      by (messages.Check d r) may = (may.0, omega (arith, may.1, le))
      by (messages.Put d o) may = absurd (may.5 reading)
      by x may = absurd may
    lingers w base l runs f reading (inr a) m now le not = inr (record { from = a.from; other = a.other; message = a.message; is = a.is; may = by a.message a.may }) where
      never : (k : List ℕ) → IsReadOf me view now k → ⊥
      never k is = of now is not where
        of : (now : Option (List ℕ × Wait me view)) → IsReadOf me view now k → (IsReading me view now → ⊥) → ⊥
        of (Some (key, Reads round votes)) is not = not tt
        of (Some (key, Checks round votes reply)) is not = is
        of (Some (key, Puts o votes)) is not = is
        of None is not = is

      by : (x : Message) → MayReply me view l runs x → MayReply me view m now x
      by (messages.GetReply d r k entry object) may = (may.0, omega (arith, may.1, le), λ is. absurd (never k is))
      by (messages.CheckReply d r) may = (may.0, omega (arith, may.1, le))
      by (messages.PutReply d k v) may = may
      by x may = absurd may

    -- and so does what waited before a step that reads, writes and proposes nothing new
    pub kind_stays : (l m : Leader) (runs now : Option (List ℕ × Wait me view)) (f : Frame) → l.round ≤ m.round → m.seq ≡ l.seq → ((k : List ℕ) → IsUnknown me view m.table.rows k → IsUnknown me view l.table.rows k)
        → (IsReading me view now → IsReading me view runs) → ((k : List ℕ) → IsReadOf me view now k → IsReadOf me view runs k) → Kind me view n l runs f → Kind me view n m now f
    kind_stays l m runs now f le seq known reading read (inl a) = inl (record { to = a.to; other = a.other; message = a.message; is = a.is; may = by a.message a.may }) where
      by : (x : Message) → MayAsk me view n l runs x → MayAsk me view n m now x
      by (messages.Get d r k) may = (may.0, omega (arith, may.1, le))
      by (messages.Check d r) may = (may.0, omega (arith, may.1, le))
      by (messages.Put d o) may = (may.0, may.1, subst (λ s. o.version ≡ version_at me view s) (sym seq) may.2, λ unknown. may.3 (known o.key unknown), may.4, λ now_reads. may.5 (reading now_reads))
      by x may = absurd may
    kind_stays l m runs now f le seq known reading read (inr a) = inr (record { from = a.from; other = a.other; message = a.message; is = a.is; may = by a.message a.may }) where
      by : (x : Message) → MayReply me view l runs x → MayReply me view m now x
      by (messages.GetReply d r k entry object) may = (may.0, omega (arith, may.1, le), λ is. may.2 (read k is))
      by (messages.CheckReply d r) may = (may.0, omega (arith, may.1, le))
      by (messages.PutReply d k v) may = may
      by x may = absurd may

  module _ (n : Scene) (w : Run) (led : Leading me view n w) (i q : ℕ) (reply : Message) (other : IsOther me view q) (at : slice_get w.mail.sent i ≡ Some (replying me view q reply)) (among : AreAmong (received (replying me view q reply) i w).hashed strings) where
    -- what the step is to come to
    abbrev pub Comes : Aim
    Comes y g out ms = AreAmong w.hashed g.hashed → Leading me view n (moved me y g out ms (record w { mail = settled w.mail i }))

    finish : LandsFrom me (accepted me view) strings Comes (λ y. step_of me (events.Deliver q reply) y) led.l (held_with led.leader.stores w.hashed) [] → Leading me view n (received (replying me view q reply) i w)
    finish lands =
        step_grows me (events.Deliver q reply) strings Comes (Leading me view n) (record w { mail = settled w.mail i }) (leads (accepted me view) led.l led.leader.keep) led.leader.stores led.leader.at (lands led.leader.keep) among (λ y g out ms grown meets. meets grown)

    -- ## Replies that are ignored

    -- the reply is none of the round that runs
    abbrev Misses : Option (List ℕ × Wait me view) → Type 0
    Misses None = Unit {0}
    Misses (Some it) = reply ≡ (round_for me view it.0 it.1).reply → ⊥

    -- each member is counted as before
    way_on : (r : Round) (votes : ℕ → Bool) (k : ℕ) → r.leader ≡ me → (reply ≡ r.reply → ⊥) → IsUnderWay r (λ j. true) w.mail votes k → IsUnderWay r (λ j. true) (settled w.mail i) votes k
    way_on r votes k leads_it misses way =
        delivers r (λ j. true) (λ j. true) w.mail i (replying me view q reply) [] votes votes k led.mail at (λ voted. voted) (λ ready. inl refl)
        (λ ready same. absurd (other.1 (ap (λ (f : Frame). f.from) same ∙ leads_it))) (λ same. absurd (misses (ap (λ (f : Frame). f.message) same))) way

    round_of_leader : (key : List ℕ) (wait : Wait me view) → (round_for me view key wait).leader ≡ me
    round_of_leader key (Reads round votes) = refl
    round_of_leader key (Checks round votes reply) = refl
    round_of_leader key (Puts o votes) = refl

    module _ (g : Held) (ms : List Note) (keep : Keeping) where
      abbrev after : Run
      after = moved me (leads (accepted me view) led.l keep) g nothing ms (record w { mail = settled w.mail i })

      still_told : (call : Option ℕ) → IsTold n call w → IsTold n call after
      still_told None is = append-nil w.printed ∙ is
      still_told (Some id) told = record { answer = told.answer; named = told.named; done = told.done; early = told.early; shown = append-nil w.printed ∙ told.shown }

      runs_on : (runs : Option (List ℕ × Wait me view)) → Misses runs → Runs me view n led.l led.leader.stores w runs → Runs me view n led.l led.leader.stores after runs
      runs_on None misses (calls, is) = (calls, still_told n.call is)
      runs_on (Some it) misses (lines, (call, key, s)) = (
        append-nil w.printed ∙ lines,
        (
          call,
          key,
          record {
            calls = s.calls;
            named = s.named;
            key = s.key;
            command = s.command;
            was_called = s.was_called;
            stage = s.stage;
            fits = s.fits;
            open_yet = s.open_yet;
            views = s.views;
            size = s.size;
            own = s.own;
            others = λ k is. way_on (round_for me view call.key it.1) (λ j. holds (votes_of me view it.1).tally.votes j) k (round_of_leader call.key it.1) (subst (λ (j : List ℕ). reply ≡ (round_for me view j it.1).reply → ⊥) (sym key) misses) (s.others k is);
          },
        ),
      )

      idle_moves : Misses led.runs → g.stores ≡ led.leader.stores → Comes (leads (accepted me view) led.l keep) g nothing ms
      idle_moves misses same grown = record {
        mail = is_mail_settled w.mail i led.mail;
        l = led.l;
        fact = led.fact;
        self = led.self;
        task = led.task;
        map = led.map;
        leader = record {
          keep = keep;
          stores = led.leader.stores;
          at = set_same w.nodes (place_of me) (Up (leads (accepted me view) led.l keep) g.stores) (Up (leads (accepted me view) led.l led.leader.keep) led.leader.stores) led.leader.at ∙ ap (λ s. Some (Up (leads (accepted me view) led.l keep) s)) same;
          whole = whole_grows led.leader.stores w.hashed g.hashed (led.map me) grown led.leader.whole;
        };
        others = λ k is. stands_other me (leads (accepted me view) led.l) keep g nothing ms (record w { mail = settled w.mail i }) k (rests (accepted me view)) (led.map k) is_peer (peers k is.0) is.1 grown (at_mail w (settled w.mail i) k (rests (accepted me view)) (led.map k) (led.others k is));
        runs = led.runs;
        holds_well = led.holds_well;
        standing = runs_on led.runs misses led.standing;
        kinds = kinds_stay (Kind me view n led.l led.runs) (Kind me view n led.l led.runs) w.mail i [] led.mail led.kinds (λ f kind. kind) (λ f none. absurd none);
      }

    -- ### Each kind of reply that is ignored

    ignored_get : (d : Epoch) (r : ℕ) (k : List ℕ) (entry : Option Entry) (object : Option Object) → reply ≡ messages.GetReply d r k entry object → (runs : Option (List ℕ × Wait me view)) → led.runs ≡ runs → Misses runs
        → ((o : Option Object) → row_29_reply q d r k entry o led.l ≡ (led.l, rests_out)) → Leading me view n (received (replying me view q reply) i w)
    ignored_get d r k entry object is runs same misses ignored =
        finish (subst (λ (m : Message). LandsFrom me (accepted me view) strings Comes (λ y. step_of me (events.Deliver q m) y) led.l (held_with led.leader.stores w.hashed) []) (sym is)
        (late_read me (accepted me view) strings Comes free q d r k led.l entry object (held_with led.leader.stores w.hashed) (led.map me) ignored led.leader.whole
        (λ g whole stores keep. idle_moves g [] keep (subst (λ (x : Option (List ℕ × Wait me view)). Misses x) (sym same) misses) stores)))

    ignored_check : (d : Epoch) (r : ℕ) → reply ≡ messages.CheckReply d r → (runs : Option (List ℕ × Wait me view)) → led.runs ≡ runs → Misses runs → row_33_reply q d r led.l ≡ (led.l, rests_out) → Leading me view n (received (replying me view q reply) i w)
    ignored_check d r is runs same misses ignored =
        finish (subst (λ (m : Message). LandsFrom me (accepted me view) strings Comes (λ y. step_of me (events.Deliver q m) y) led.l (held_with led.leader.stores w.hashed) []) (sym is)
        (late_check me (accepted me view) strings Comes free q d r led.l (held_with led.leader.stores w.hashed) ignored
        (λ keep. idle_moves (held_with led.leader.stores w.hashed) [] keep (subst (λ (x : Option (List ℕ × Wait me view)). Misses x) (sym same) misses) refl)))

    ignored_put : (d : Epoch) (k : List ℕ) (version : Version) → reply ≡ messages.PutReply d k version → (runs : Option (List ℕ × Wait me view)) → led.runs ≡ runs → Misses runs → row_35_reply q d k version led.l ≡ (led.l, rests_out) → Leading me view n (received (replying me view q reply) i w)
    ignored_put d k version is runs same misses ignored =
        finish (subst (λ (m : Message). LandsFrom me (accepted me view) strings Comes (λ y. step_of me (events.Deliver q m) y) led.l (held_with led.leader.stores w.hashed) []) (sym is)
        (late_put me (accepted me view) strings Comes free q d k version led.l (held_with led.leader.stores w.hashed) ignored
        (λ keep. idle_moves (held_with led.leader.stores w.hashed) [] keep (subst (λ (x : Option (List ℕ × Wait me view)). Misses x) (sym same) misses) refl)))

    -- ## Replies that count

    abbrev G : ℕ → ℕ → CallTable → Leader
    G seq round t = F me view is_peer peers listed strings free n led.l.accepts seq round t

    abbrev tabled : List ℕ → Wait me view → CallTable
    tabled key wait = at_stage me view is_peer peers listed strings free n led.l.accepts key wait led.l.table

    -- a step of the leader, told by its parts, on a reply
    on_reply : (m : Message) → reply ≡ m → LandsFrom me (accepted me view) strings Comes (λ y. step_of me (events.Deliver q m) y) (G led.l.seq led.l.round led.l.table) (held_with led.leader.stores w.hashed) [] → Leading me view n (received (replying me view q reply) i w)
    on_reply m is lands =
        finish (subst (λ (r : Message). LandsFrom me (accepted me view) strings Comes (λ y. step_of me (events.Deliver q r) y) led.l (held_with led.leader.stores w.hashed) []) (sym is)
        (subst (λ (x : Leader). LandsFrom me (accepted me view) strings Comes (λ y. step_of me (events.Deliver q m) y) x (held_with led.leader.stores w.hashed) []) (sym (as_parts led.l me view led.fact led.self led.task)) lands))

    -- the member is counted
    way_counted : (r : Round) (votes now : ℕ → Bool) (k : ℕ) → r.leader ≡ me → ((j : ℕ) → votes j ≡ true → now j ≡ true) → now q ≡ true → IsUnderWay r (λ j. true) w.mail votes k → IsUnderWay r (λ j. true) (settled w.mail i) now k
    way_counted r votes now k leads_it kept here way =
        delivers r (λ j. true) (λ j. true) w.mail i (replying me view q reply) [] votes now k led.mail at (kept k) (λ ready. inl refl)
        (λ ready same. absurd (other.1 (ap (λ (f : Frame). f.from) same ∙ leads_it))) (λ same. subst (λ j. now j ≡ true) (ap (λ (f : Frame). f.from) same) here) way

    module _ (call : Waiting) (lines : w.printed ≡ n.before) (so : Holds me view n led.l.seq led.l.round led.l.table.rows led.leader.stores led.map (Some call.key)) where
      -- the round still waits, with one more vote
      module _ (wait now : Wait me view) (s : Serves me view n led.l led.leader.stores w.mail call wait) (again : round_for me view call.key now ≡ round_for me view call.key wait) (more : IsCounted view q (votes_of me view wait) (votes_of me view now)) (is : state_of (votes_of me view now) ≡ Open)
          (fits : IsFitting me view n (G led.l.seq led.l.round (tabled call.key now)) led.leader.stores call.key now) (kinds : (f : Frame) → Kind me view n led.l led.runs f → Kind me view n (G led.l.seq led.l.round (tabled call.key now)) (Some (call.key, now)) f) where
        counts_on : (ms : List Note) (keep : Keeping) → Comes (leads (accepted me view) (G led.l.seq led.l.round (tabled call.key now)) keep) (held_with led.leader.stores w.hashed) nothing ms
        counts_on ms =
            waits_now me view is_peer peers listed strings free n led.l.accepts w (settled w.mail i) (is_mail_settled w.mail i led.mail) lines (leads (accepted me view) led.l) led.map led.leader led.others
            call now led.l.seq led.l.round (tabled call.key now) (held_with led.leader.stores w.hashed) nothing ms (led.map me) (record { answers = refl; changes = refl }) led.leader.whole
            (staged me view n led.l.seq led.l.round led.l.table.rows led.leader.stores (with_map me (led.map me) led.map) call.key (stage_of me view now)
            (same_maps me view is_peer peers listed strings free n led.l.accepts w (settled w.mail i) (is_mail_settled w.mail i led.mail) lines (leads (accepted me view) led.l) led.map led.leader led.others led.l.seq led.l.round led.l.table.rows (held_with led.leader.stores w.hashed) (Some call.key) so))
            (record {
              calls = s.calls;
              named = s.named;
              key = s.key;
              command = s.command;
              was_called = s.was_called;
              stage = stage_here call.key (stage_of me view now) led.l.table.rows;
              fits = fits;
              open_yet = is;
              views = more.views;
              size = more.size;
              own = more.kept me s.own;
              others = λ k member. subst (λ (r : Round). IsUnderWay r (λ j. true) (settled w.mail i) (λ j. holds (votes_of me view now).tally.votes j) k) (sym again)
                  (way_counted (round_for me view call.key wait) (λ j. holds (votes_of me view wait).tally.votes j) (λ j. holds (votes_of me view now).tally.votes j) k (round_of_leader call.key wait) more.kept more.here (s.others k member));
            })
            (λ f v. kinds f (led.kinds f (was_settled w.mail i f v)))

    -- a key is unknown after its call ended only if it was before
    unknown_before : (key : List ℕ) (k : List ℕ) → IsUnknown me view (ended key led.l.table).rows k → IsUnknown me view led.l.table.rows k
    unknown_before key k unknown = sym (known_stays key k stages.Idle led.l.table.rows) ∙ subst (λ (rows : Rows). IsUnknown me view rows k) (ended_rows key led.l.table) unknown

    unknown_staged : (key : List ℕ) (wait : Wait me view) (k : List ℕ) → IsUnknown me view (tabled key wait).rows k → IsUnknown me view led.l.table.rows k
    unknown_staged key wait k unknown = sym (known_stays key k (stage_of me view wait) led.l.table.rows) ∙ unknown

    own_counts : (round : ℕ) → counts (ballot me view) round round (G led.l.seq led.l.round led.l.table) ≡ true
    own_counts round = grind (arith, nat_tests)

    -- ### A reply to a read

    module _ (round : ℕ) (votes : Tally) (key : List ℕ) (same : led.runs ≡ Some (key, Reads round votes)) (lines : w.printed ≡ n.before) (call : Waiting) (keyed : call.key ≡ key) (s : Serves me view n led.l led.leader.stores w.mail call (Reads round votes)) where
      so_read : Holds me view n led.l.seq led.l.round led.l.table.rows led.leader.stores led.map (Some call.key)
      so_read = subst (λ (k : List ℕ). Holds me view n led.l.seq led.l.round led.l.table.rows led.leader.stores led.map (Some k)) (sym keyed)
          (subst (λ (x : Option (List ℕ × Wait me view)). Holds me view n led.l.seq led.l.round led.l.table.rows led.leader.stores led.map (busy_with me view x)) same led.holds_well)

      abbrev read_now : Wait me view
      read_now = Reads round (heard_from q votes)

      more_read : IsCounted view q votes (heard_from q votes)
      more_read = counted view q votes s.views s.size other.0 (peers q other.0)

      is_reading : IsReading me view led.runs
      is_reading = subst (λ (x : Option (List ℕ × Wait me view)). IsReading me view x) (sym same) tt

      read_kinds : (f : Frame) → Kind me view n led.l led.runs f → Kind me view n (G led.l.seq led.l.round (tabled call.key read_now)) (Some (call.key, read_now)) f
      read_kinds f kind = kind_stays n led.l (G led.l.seq led.l.round (tabled call.key read_now)) led.runs (Some (call.key, read_now)) f (omega arith) refl (unknown_staged call.key read_now) (λ reading. is_reading)
          (λ k is. subst (λ (x : Option (List ℕ × Wait me view)). IsReadOf me view x k) (sym same) (sym keyed ∙ is)) kind

      read_mid : Mid me view is_peer peers listed strings free n led.l.accepts w (settled w.mail i) (is_mail_settled w.mail i led.mail) lines (leads (accepted me view) led.l) led.map led.leader led.others call led.l.seq led.l.round (tabled call.key read_now) (held_with led.leader.stores w.hashed) nothing
      read_mid = record {
        quiet = record { answers = refl; changes = refl };
        whole = led.leader.whole;
        so = staged me view n led.l.seq led.l.round led.l.table.rows led.leader.stores led.map call.key (stage_of me view read_now) so_read;
        calls = s.calls;
        named = s.named;
        key = s.key;
        command = s.command;
        was_called = s.was_called;
        room = s.fits.2;
        kinds = λ f v m now le not. lingers n w (settled w.mail i) led.l led.runs f is_reading (led.kinds f (was_settled w.mail i f v)) m now le not;
      }

      read_ends : (state : RoundState) → state_of (heard_from q votes) ≡ state → by_round state (Goes me (accepted me view) strings Comes free (ending me (accepted me view) strings Comes free) call.key call (runs_here call) (G led.l.seq led.l.round (tabled call.key read_now)) nothing (held_with led.leader.stores w.hashed))
          (AppliesEnd me (accepted me view) strings Comes free (ending me (accepted me view) strings Comes free) call.key call (runs_here call) (state_of (begun (view ∷ []) me)) (verdict_of (outcome call.command Absent))
          (missing me (accepted me view) strings Comes free (ending me (accepted me view) strings Comes free) call.key call (runs_here call) (G led.l.seq led.l.round (tabled call.key read_now))) nothing (held_with led.leader.stores w.hashed) (led.map me))
      read_ends Open is = ends_here me (accepted me view) strings Comes free (G led.l.seq led.l.round (tabled call.key read_now)) nothing (held_with led.leader.stores w.hashed)
          (counts_on call lines so_read (Reads round votes) read_now s refl more_read is (s.fits.0, known_stays call.key call.key (stage_of me view read_now) led.l.table.rows ∙ s.fits.1, s.fits.2) read_kinds)
      read_ends Met is = applies_end me view is_peer peers listed strings free n led.l.accepts w (settled w.mail i) (is_mail_settled w.mail i led.mail) lines (leads (accepted me view) led.l) led.map led.leader led.others
          call led.l.seq led.l.round (tabled call.key read_now) (held_with led.leader.stores w.hashed) nothing read_mid pendings.Nothing (state_of (begun (view ∷ []) me)) (verdict_of (outcome call.command Absent)) refl refl
      read_ends AllAnswered is = applies_end me view is_peer peers listed strings free n led.l.accepts w (settled w.mail i) (is_mail_settled w.mail i led.mail) lines (leads (accepted me view) led.l) led.map led.leader led.others
          call led.l.seq led.l.round (tabled call.key read_now) (held_with led.leader.stores w.hashed) nothing read_mid pendings.Nothing (state_of (begun (view ∷ []) me)) (verdict_of (outcome call.command Absent)) refl refl

      counted_get : reply ≡ messages.GetReply (ballot me view) round call.key None None → Leading me view n (received (replying me view q reply) i w)
      counted_get is = on_reply (messages.GetReply (ballot me view) round call.key None None) is
          (heard_read me (accepted me view) strings Comes free call.key call (runs_here call) q (ballot me view) round votes (G led.l.seq led.l.round led.l.table) (state_of (heard_from q votes)) (state_of (begun (view ∷ []) me)) (verdict_of (outcome call.command Absent))
          (held_with led.leader.stores w.hashed) (led.map me) s.calls s.stage (own_counts round) refl refl refl led.leader.whole (read_ends (state_of (heard_from q votes)) refl))

    -- ### A reply to a check

    module _ (round : ℕ) (votes : Tally) (given : Reply) (key : List ℕ) (same : led.runs ≡ Some (key, Checks round votes given)) (lines : w.printed ≡ n.before) (call : Waiting) (keyed : call.key ≡ key) (s : Serves me view n led.l led.leader.stores w.mail call (Checks round votes given)) where
      so_check : Holds me view n led.l.seq led.l.round led.l.table.rows led.leader.stores led.map (Some call.key)
      so_check = subst (λ (k : List ℕ). Holds me view n led.l.seq led.l.round led.l.table.rows led.leader.stores led.map (Some k)) (sym keyed)
          (subst (λ (x : Option (List ℕ × Wait me view)). Holds me view n led.l.seq led.l.round led.l.table.rows led.leader.stores led.map (busy_with me view x)) same led.holds_well)

      abbrev check_now : Wait me view
      check_now = Checks round (heard_from q votes) given

      more_check : IsCounted view q votes (heard_from q votes)
      more_check = counted view q votes s.views s.size other.0 (peers q other.0)

      check_kinds : (f : Frame) → Kind me view n led.l led.runs f → Kind me view n (G led.l.seq led.l.round (tabled call.key check_now)) (Some (call.key, check_now)) f
      check_kinds f kind = kind_stays n led.l (G led.l.seq led.l.round (tabled call.key check_now)) led.runs (Some (call.key, check_now)) f (omega arith) refl (unknown_staged call.key check_now) (λ reading. absurd reading) (λ k is. absurd is) kind

      check_answers : (ms : List Note) (keep : Keeping) → Comes (leads (accepted me view) (G led.l.seq led.l.round (ended call.key led.l.table)) keep) (held_with led.leader.stores w.hashed) (told nothing [] (record { caller = call.from; id = call.id; reply = given } ∷ [])) ms
      check_answers ms =
          answers_now me view is_peer peers listed strings free n led.l.accepts w (settled w.mail i) (is_mail_settled w.mail i led.mail) lines (leads (accepted me view) led.l) led.map led.leader led.others
          call led.l.seq led.l.round led.l.table given (held_with led.leader.stores w.hashed) (told nothing [] (record { caller = call.from; id = call.id; reply = given } ∷ [])) ms (led.map me) s.calls s.named s.fits.1 refl refl led.leader.whole
          (same_maps me view is_peer peers listed strings free n led.l.accepts w (settled w.mail i) (is_mail_settled w.mail i led.mail) lines (leads (accepted me view) led.l) led.map led.leader led.others led.l.seq led.l.round led.l.table.rows (held_with led.leader.stores w.hashed) (Some call.key) so_check)
          s.fits.2
          (λ f v. kind_stays n led.l (G led.l.seq led.l.round (ended call.key led.l.table)) led.runs None f (omega arith) refl (unknown_before call.key) (λ reading. absurd reading) (λ k is. absurd is) (led.kinds f (was_settled w.mail i f v)))

      counted_check : reply ≡ messages.CheckReply (ballot me view) round → Leading me view n (received (replying me view q reply) i w)
      counted_check is = on_reply (messages.CheckReply (ballot me view) round) is (by (state_of (heard_from q votes)) refl) where
        answered : (state : RoundState) → state_of (heard_from q votes) ≡ state → (state ≡ Open → ⊥) → LandsFrom me (accepted me view) strings Comes (λ y. step_of me (events.Deliver q (messages.CheckReply (ballot me view) round)) y) (G led.l.seq led.l.round led.l.table) (held_with led.leader.stores w.hashed) []
        answered state met not =
            heard_met me q (accepted me view) (ballot me view) round call.key call votes given (G led.l.seq led.l.round led.l.table) strings Comes s.calls (runs_here call) s.stage s.fits.0 (own_counts round) (held_with led.leader.stores w.hashed) state met not
            (check_answers (Read call.id call.key (base call.key led.l) ∷ []))

        by : (state : RoundState) → state_of (heard_from q votes) ≡ state → LandsFrom me (accepted me view) strings Comes (λ y. step_of me (events.Deliver q (messages.CheckReply (ballot me view) round)) y) (G led.l.seq led.l.round led.l.table) (held_with led.leader.stores w.hashed) []
        by Open waits =
            heard_open me q (accepted me view) (ballot me view) round call.key call votes given (G led.l.seq led.l.round led.l.table) strings Comes s.calls (runs_here call) s.stage s.fits.0 (own_counts round) (held_with led.leader.stores w.hashed) waits
            (counts_on call lines so_check (Checks round votes given) check_now s refl more_check waits (s.fits.0, s.fits.1, rw (known_stays call.key call.key (stage_of me view check_now) led.l.table.rows) s.fits.2) check_kinds [])
        by Met met = answered Met met (λ o. let no : ⊥ = grind (arith, o) in no)
        by AllAnswered met = answered AllAnswered met (λ o. let no : ⊥ = grind (arith, o) in no)

    -- ### An acknowledgement of a put

    module _ (o : Object) (votes : Tally) (key : List ℕ) (same : led.runs ≡ Some (key, Puts o votes)) (lines : w.printed ≡ n.before) (call : Waiting) (keyed : call.key ≡ key) (s : Serves me view n led.l led.leader.stores w.mail call (Puts o votes)) where
      so_put : Holds me view n led.l.seq led.l.round led.l.table.rows led.leader.stores led.map (Some call.key)
      so_put = subst (λ (k : List ℕ). Holds me view n led.l.seq led.l.round led.l.table.rows led.leader.stores led.map (Some k)) (sym keyed)
          (subst (λ (x : Option (List ℕ × Wait me view)). Holds me view n led.l.seq led.l.round led.l.table.rows led.leader.stores led.map (busy_with me view x)) same led.holds_well)

      abbrev put_now : Wait me view
      put_now = Puts o (heard_from q votes)

      abbrev known_then : Known
      known_then = settled_as o.version o (md5 (object_spelling o))

      some_then : settled_as o.version o (md5 (object_spelling o)) ≡ knowns.Unknown → ⊥
      some_then e = let no : ⊥ = grind (arith, e) in no

      abbrev table_then : CallTable
      table_then = at_known me view is_peer peers listed strings free n led.l.accepts call.key (settled_as o.version o (md5 (object_spelling o))) led.l.table

      more_put : IsCounted view q votes (heard_from q votes)
      more_put = counted view q votes s.views s.size other.0 (peers q other.0)

      not_unknown : IsUnknown me view (tabled call.key put_now).rows call.key → ⊥
      not_unknown unknown = s.fits.3 (unknown_staged call.key put_now call.key unknown)

      put_kinds : (f : Frame) → Kind me view n led.l led.runs f → Kind me view n (G led.l.seq led.l.round (tabled call.key put_now)) (Some (call.key, put_now)) f
      put_kinds f kind = kind_stays n led.l (G led.l.seq led.l.round (tabled call.key put_now)) led.runs (Some (call.key, put_now)) f (omega arith) refl (unknown_staged call.key put_now) (λ reading. absurd reading) (λ k is. absurd is) kind

      -- a key that is unknown once the put is settled was unknown before
      unknown_settled : (k : List ℕ) → IsUnknown me view (ended call.key table_then).rows k → IsUnknown me view led.l.table.rows k
      unknown_settled k unknown = by (same_bytes call.key k) refl (sym (known_stays call.key k stages.Idle table_then.rows) ∙ subst (λ (rows : Rows). IsUnknown me view rows k) (ended_rows call.key table_then) unknown) where
        by : (b : Bool) → same_bytes call.key k ≡ b → IsUnknown me view table_then.rows k → IsUnknown me view led.l.table.rows k
        by true here is = absurd (some_then (sym (known_here call.key known_then led.l.table.rows) ∙ subst (λ (j : List ℕ). IsUnknown me view table_then.rows j) (sym (bytes_same call.key k here)) is))
        by false apart is = ap (λ (row : KeyRow). row.known) (sym (known_other call.key k known_then led.l.table.rows apart)) ∙ is

      put_answers : (ms : List Note) (keep : Keeping) → Comes (leads (accepted me view) (G led.l.seq led.l.round (ended call.key table_then)) keep) (held_with led.leader.stores w.hashed) (told nothing [] (record { caller = call.from; id = call.id; reply = replies.Ok o.stamp } ∷ [])) ms
      put_answers ms =
          answers_now me view is_peer peers listed strings free n led.l.accepts w (settled w.mail i) (is_mail_settled w.mail i led.mail) lines (leads (accepted me view) led.l) led.map led.leader led.others
          call led.l.seq led.l.round table_then (replies.Ok o.stamp) (held_with led.leader.stores w.hashed) (told nothing [] (record { caller = call.from; id = call.id; reply = replies.Ok o.stamp } ∷ [])) ms (led.map me) s.calls s.named tt refl refl led.leader.whole
          (learned me view n led.l.seq led.l.round led.l.table.rows led.leader.stores (with_map me (led.map me) led.map) call.key known_then some_then
          (same_maps me view is_peer peers listed strings free n led.l.accepts w (settled w.mail i) (is_mail_settled w.mail i led.mail) lines (leads (accepted me view) led.l) led.map led.leader led.others led.l.seq led.l.round led.l.table.rows (held_with led.leader.stores w.hashed) (Some call.key) so_put))
          (inr (inr (record { object = o; valid = s.fits.0; keyed = s.fits.1; is = known_here call.key known_then led.l.table.rows; has = s.fits.4 })))
          (λ f v. kind_stays n led.l (G led.l.seq led.l.round (ended call.key table_then)) led.runs None f (omega arith) refl unknown_settled (λ reading. absurd reading) (λ k is. absurd is) (led.kinds f (was_settled w.mail i f v)))

      put_ends : (state : RoundState) → state_of (heard_from q votes) ≡ state → by_round state ((ms : List Note) (keep : Keeping) → Comes (leads (accepted me view) (G led.l.seq led.l.round (tabled call.key put_now)) keep) (held_with led.leader.stores w.hashed) nothing ms)
          ((ms : List Note) (keep : Keeping) → Comes (leads (accepted me view) (G led.l.seq led.l.round (ended call.key table_then)) keep) (held_with led.leader.stores w.hashed) (told nothing [] (record { caller = call.from; id = call.id; reply = replies.Ok o.stamp } ∷ [])) ms)
      put_ends Open is = counts_on call lines so_put (Puts o votes) put_now s refl more_put is (s.fits.0, s.fits.1, s.fits.2, not_unknown, s.fits.4) put_kinds
      put_ends Met is = put_answers
      put_ends AllAnswered is = put_answers

      counted_put : reply ≡ messages.PutReply (ballot me view) call.key o.version → Leading me view n (received (replying me view q reply) i w)
      counted_put is = on_reply (messages.PutReply (ballot me view) call.key o.version) is
          (heard_put me (accepted me view) strings Comes free call.key call (runs_here call) q (ballot me view) o.version o votes (G led.l.seq led.l.round led.l.table) (state_of (heard_from q votes)) (held_with led.leader.stores w.hashed) s.calls s.stage names refl (put_ends (state_of (heard_from q votes)) refl))
        where
          names : (is_same (ballot me view) (ballot me view) && same_version o.version o.version) ≡ true
          names = rw (version_itself o.version) (let it : (is_same (ballot me view) (ballot me view) && true) ≡ true = grind (arith, nat_tests) in it)

    -- ## Each reply that may wait

    on_get : (d : Epoch) (r : ℕ) (k : List ℕ) (entry : Option Entry) (object : Option Object) → reply ≡ messages.GetReply d r k entry object → MayReply me view led.l led.runs (messages.GetReply d r k entry object) → Leading me view n (received (replying me view q reply) i w)
    on_get d r k entry object is may = by led.runs refl where
      at_stage_of : (stage : Stage) → (row_at k led.l.table.rows).stage ≡ stage → (o : Option Object) → row_29_reply q d r k entry o led.l ≡ heard stage q d r k entry o led.l
      at_stage_of stage here o = ap (λ s. heard s q d r k entry o led.l) here

      get_parts : (a b : ℕ) (x y : List ℕ) (f : Option Entry) (p : Option Object) → messages.GetReply d a x f p ≡ messages.GetReply (ballot me view) b y None None → (a ≡ b) × (x ≡ y)
      get_parts a b x y f p same = (grind (arith, same), grind (arith, same))

      not_checks : (a : Epoch) (b : ℕ) → messages.GetReply d r k entry object ≡ messages.CheckReply a b → ⊥
      not_checks a b same = grind (arith, same)

      not_puts : (a : Epoch) (y : List ℕ) (v : Version) → messages.GetReply d r k entry object ≡ messages.PutReply a y v → ⊥
      not_puts a y v same = grind (arith, same)

      get_is : d ≡ ballot me view → (round : ℕ) → r ≡ round → (key : List ℕ) → k ≡ key → entry ≡ None → object ≡ None → messages.GetReply d r k entry object ≡ messages.GetReply (ballot me view) round key None None
      get_is epoch round at_round key keyed none gone = rw (epoch, at_round, keyed, none, gone) refl

      on_round : (round : ℕ) (votes : Tally) (key : List ℕ) → led.runs ≡ Some (key, Reads round votes) → key ≡ k → Runs me view n led.l led.leader.stores w (Some (key, Reads round votes)) → (b : Bool) → (r == round) ≡ b → Leading me view n (received (replying me view q reply) i w)
      on_round round votes key same here (lines, (call, keyed, s)) true now =
          let nones = may.2 (subst (λ (x : Option (List ℕ × Wait me view)). IsReadOf me view x k) (sym same) here) in
          counted_get round votes key same lines call keyed s (is ∙ get_is may.0 round (eqb-true r round now) call.key (sym here ∙ sym keyed) nones.0 nones.1)
      on_round round votes key same here (lines, (call, keyed, s)) false apart =
          ignored_get d r k entry object is (Some (key, Reads round votes)) same (λ e. eqb-false r round apart (get_parts r round k key entry object (sym is ∙ e)).0)
          (λ o. at_stage_of (stages.Reading round votes None) (subst (λ (j : List ℕ). (row_at j led.l.table.rows).stage ≡ stages.Reading round votes None) (keyed ∙ here) s.stage) o ∙ off o)
        where
          uncounted : (is_same d led.l.fact.epoch && (r == round)) ≡ false
          uncounted = ap (λ b. is_same d led.l.fact.epoch && b) apart ∙ both_false (is_same d led.l.fact.epoch)

          off : (o : Option Object) → heard (stages.Reading round votes None) q d r k entry o led.l ≡ (led.l, rests_out)
          off o = rw uncounted refl

      on_key : (key : List ℕ) (wait : Wait me view) → led.runs ≡ Some (key, wait) → Runs me view n led.l led.leader.stores w (Some (key, wait)) → (b : Bool) → same_bytes key k ≡ b → Leading me view n (received (replying me view q reply) i w)
      on_key key (Reads round votes) same runs true here = on_round round votes key same (bytes_same key k here) runs (r == round) refl
      on_key key (Checks round votes given) same (lines, (call, keyed, s)) true here =
          ignored_get d r k entry object is (Some (key, Checks round votes given)) same (λ e. not_checks (ballot me view) round (sym is ∙ e))
          (λ o. at_stage_of (stages.Checking round votes given) (subst (λ (j : List ℕ). (row_at j led.l.table.rows).stage ≡ stages.Checking round votes given) (keyed ∙ bytes_same key k here) s.stage) o)
      on_key key (Puts p votes) same (lines, (call, keyed, s)) true here =
          ignored_get d r k entry object is (Some (key, Puts p votes)) same (λ e. not_puts (ballot me view) p.key p.version (sym is ∙ e))
          (λ o. at_stage_of (stages.Putting p (md5 (object_spelling p)) votes false) (subst (λ (j : List ℕ). (row_at j led.l.table.rows).stage ≡ stages.Putting p (md5 (object_spelling p)) votes false) (keyed ∙ bytes_same key k here) s.stage) o)
      on_key key wait same runs false apart =
          ignored_get d r k entry object is (Some (key, wait)) same (misses wait)
          (λ o. at_stage_of stages.Idle (led.holds_well.idle k (subst (λ (x : Option (List ℕ × Wait me view)). IsApart (busy_with me view x) k) (sym same) apart)) o)
        where
          misses : (wait : Wait me view) → reply ≡ (round_for me view key wait).reply → ⊥
          misses (Reads round votes) e = false≢true (sym apart ∙ subst (λ (j : List ℕ). same_bytes key j ≡ true) (sym (get_parts r round k key entry object (sym is ∙ e)).1) (bytes_itself key))
          misses (Checks round votes given) e = not_checks (ballot me view) round (sym is ∙ e)
          misses (Puts p votes) e = not_puts (ballot me view) p.key p.version (sym is ∙ e)

      by : (runs : Option (List ℕ × Wait me view)) → led.runs ≡ runs → Leading me view n (received (replying me view q reply) i w)
      by None same = ignored_get d r k entry object is None same tt (λ o. at_stage_of stages.Idle (led.holds_well.idle k (subst (λ (x : Option (List ℕ × Wait me view)). IsApart (busy_with me view x) k) (sym same) tt)) o)
      by (Some (key, wait)) same = on_key key wait same (subst (λ (x : Option (List ℕ × Wait me view)). Runs me view n led.l led.leader.stores w x) same led.standing) (same_bytes key k) refl

    on_check : (d : Epoch) (r : ℕ) → reply ≡ messages.CheckReply d r → MayReply me view led.l led.runs (messages.CheckReply d r) → Leading me view n (received (replying me view q reply) i w)
    on_check d r is may = by led.runs refl where
      round_of_reply : (a : Epoch) (x y : ℕ) → messages.CheckReply d x ≡ messages.CheckReply a y → x ≡ y
      round_of_reply a x y same = grind (arith, same)

      not_gets : (a : Epoch) (b : ℕ) (y : List ℕ) → messages.CheckReply d r ≡ messages.GetReply a b y None None → ⊥
      not_gets a b y same = grind (arith, same)

      not_puts : (a : Epoch) (y : List ℕ) (v : Version) → messages.CheckReply d r ≡ messages.PutReply a y v → ⊥
      not_puts a y v same = grind (arith, same)

      -- the reply is ignored if it is for each key
      ignored_row : ((k : List ℕ) → stood (running k led.l.table.calls) (row_at k led.l.table.rows).stage q d r k led.l ≡ (led.l, rests_out)) → row_33_reply q d r led.l ≡ (led.l, rests_out)
      ignored_row each = at_key (check_at r led.l.table.checks) where
        at_key : (o : Option (List ℕ)) → stood_at o q d r led.l ≡ (led.l, rests_out)
        at_key None = refl
        at_key (Some k) = each k

      -- and so it is if it is for the key of the only call
      ignored_call : (call : Waiting) (wait : Wait me view) → Serves me view n led.l led.leader.stores w.mail call wait → stood (Some call) (stage_of me view wait) q d r call.key led.l ≡ (led.l, rests_out) → row_33_reply q d r led.l ≡ (led.l, rests_out)
      ignored_call call wait s off = ignored_row (λ k. ap (λ cs. stood (running k cs) (row_at k led.l.table.rows).stage q d r k led.l) s.calls ∙ at_key k (same_bytes call.key k) refl) where
        at_key : (k : List ℕ) (b : Bool) → same_bytes call.key k ≡ b → stood (running k (call ∷ [])) (row_at k led.l.table.rows).stage q d r k led.l ≡ (led.l, rests_out)
        at_key k true here = subst (λ (j : List ℕ). stood (running j (call ∷ [])) (row_at j led.l.table.rows).stage q d r j led.l ≡ (led.l, rests_out)) (bytes_same call.key k here)
            (ap (λ o. stood o (row_at call.key led.l.table.rows).stage q d r call.key led.l) (runs_here call) ∙ (ap (λ st. stood (Some call) st q d r call.key led.l) s.stage ∙ off))
        at_key k false apart = rw apart refl

      on_round : (round : ℕ) (votes : Tally) (given : Reply) (key : List ℕ) → led.runs ≡ Some (key, Checks round votes given) → Runs me view n led.l led.leader.stores w (Some (key, Checks round votes given)) → (b : Bool) → (r == round) ≡ b → Leading me view n (received (replying me view q reply) i w)
      on_round round votes given key same (lines, (call, keyed, s)) true now = counted_check round votes given key same lines call keyed s (is ∙ check_is may.0 (eqb-true r round now)) where
        check_is : d ≡ ballot me view → r ≡ round → messages.CheckReply d r ≡ messages.CheckReply (ballot me view) round
        check_is epoch at_round = rw (epoch, at_round) refl
      on_round round votes given key same (lines, (call, keyed, s)) false apart =
          ignored_check d r is (Some (key, Checks round votes given)) same (λ e. eqb-false r round apart (round_of_reply (ballot me view) r round (sym is ∙ e))) (ignored_call call (Checks round votes given) s off)
        where
          uncounted : (is_same d led.l.fact.epoch && (r == round)) ≡ false
          uncounted = ap (λ b. is_same d led.l.fact.epoch && b) apart ∙ both_false (is_same d led.l.fact.epoch)

          off : stood (Some call) (stages.Checking round votes given) q d r call.key led.l ≡ (led.l, rests_out)
          off = rw uncounted refl

      on_wait : (key : List ℕ) (wait : Wait me view) → led.runs ≡ Some (key, wait) → Runs me view n led.l led.leader.stores w (Some (key, wait)) → Leading me view n (received (replying me view q reply) i w)
      on_wait key (Checks round votes given) same runs = on_round round votes given key same runs (r == round) refl
      on_wait key (Reads round votes) same (lines, (call, keyed, s)) = ignored_check d r is (Some (key, Reads round votes)) same (λ e. not_gets (ballot me view) round key (sym is ∙ e)) (ignored_call call (Reads round votes) s refl)
      on_wait key (Puts p votes) same (lines, (call, keyed, s)) = ignored_check d r is (Some (key, Puts p votes)) same (λ e. not_puts (ballot me view) p.key p.version (sym is ∙ e)) (ignored_call call (Puts p votes) s refl)

      by : (runs : Option (List ℕ × Wait me view)) → led.runs ≡ runs → Leading me view n (received (replying me view q reply) i w)
      by None same = ignored_check d r is None same tt (ignored_row (λ k. ap (λ cs. stood (running k cs) (row_at k led.l.table.rows).stage q d r k led.l) (subst (λ (x : Option (List ℕ × Wait me view)). Runs me view n led.l led.leader.stores w x) same led.standing).0))
      by (Some (key, wait)) same = on_wait key wait same (subst (λ (x : Option (List ℕ × Wait me view)). Runs me view n led.l led.leader.stores w x) same led.standing)

    on_put : (d : Epoch) (k : List ℕ) (version : Version) → reply ≡ messages.PutReply d k version → MayReply me view led.l led.runs (messages.PutReply d k version) → Leading me view n (received (replying me view q reply) i w)
    on_put d k version is may = by led.runs refl where
      at_stage_of : (stage : Stage) → (row_at k led.l.table.rows).stage ≡ stage → row_35_reply q d k version led.l ≡ acknowledged_by stage q d version k led.l
      at_stage_of stage here = ap (λ s. acknowledged_by s q d version k led.l) here

      put_parts : (a : Epoch) (x y : List ℕ) (u v : Version) → messages.PutReply d x u ≡ messages.PutReply a y v → (x ≡ y) × (u ≡ v)
      put_parts a x y u v same = (grind (arith, same), grind (arith, same))

      not_gets : (a : Epoch) (b : ℕ) (y : List ℕ) → messages.PutReply d k version ≡ messages.GetReply a b y None None → ⊥
      not_gets a b y same = grind (arith, same)

      not_checks : (a : Epoch) (b : ℕ) → messages.PutReply d k version ≡ messages.CheckReply a b → ⊥
      not_checks a b same = grind (arith, same)

      on_version : (p : Object) (votes : Tally) (key : List ℕ) → led.runs ≡ Some (key, Puts p votes) → key ≡ k → Runs me view n led.l led.leader.stores w (Some (key, Puts p votes)) → (b : Bool) → same_version version p.version ≡ b → Leading me view n (received (replying me view q reply) i w)
      on_version p votes key same here (lines, (call, keyed, s)) true now = counted_put p votes key same lines call keyed s (is ∙ put_is may (sym here ∙ sym keyed) (version_same version p.version now)) where
        put_is : d ≡ ballot me view → k ≡ call.key → version ≡ p.version → messages.PutReply d k version ≡ messages.PutReply (ballot me view) call.key p.version
        put_is epoch at_key at_version = rw (epoch, at_key, at_version) refl
      on_version p votes key same here (lines, (call, keyed, s)) false apart =
          ignored_put d k version is (Some (key, Puts p votes)) same (λ e. false≢true (sym apart ∙ subst (λ v. same_version version v ≡ true) (put_parts (ballot me view) k p.key version p.version (sym is ∙ e)).1 (version_itself version)))
          (at_stage_of (stages.Putting p (md5 (object_spelling p)) votes false) (subst (λ (j : List ℕ). (row_at j led.l.table.rows).stage ≡ stages.Putting p (md5 (object_spelling p)) votes false) (keyed ∙ here) s.stage) ∙ off)
        where
          uncounted : (is_same d led.l.fact.epoch && same_version version p.version) ≡ false
          uncounted = ap (λ b. is_same d led.l.fact.epoch && b) apart ∙ both_false (is_same d led.l.fact.epoch)

          off : acknowledged_by (stages.Putting p (md5 (object_spelling p)) votes false) q d version k led.l ≡ (led.l, rests_out)
          off = rw uncounted refl

      on_key : (key : List ℕ) (wait : Wait me view) → led.runs ≡ Some (key, wait) → Runs me view n led.l led.leader.stores w (Some (key, wait)) → (b : Bool) → same_bytes key k ≡ b → Leading me view n (received (replying me view q reply) i w)
      on_key key (Puts p votes) same runs true here = on_version p votes key same (bytes_same key k here) runs (same_version version p.version) refl
      on_key key (Reads round votes) same (lines, (call, keyed, s)) true here =
          ignored_put d k version is (Some (key, Reads round votes)) same (λ e. not_gets (ballot me view) round key (sym is ∙ e))
          (at_stage_of (stages.Reading round votes None) (subst (λ (j : List ℕ). (row_at j led.l.table.rows).stage ≡ stages.Reading round votes None) (keyed ∙ bytes_same key k here) s.stage))
      on_key key (Checks round votes given) same (lines, (call, keyed, s)) true here =
          ignored_put d k version is (Some (key, Checks round votes given)) same (λ e. not_checks (ballot me view) round (sym is ∙ e))
          (at_stage_of (stages.Checking round votes given) (subst (λ (j : List ℕ). (row_at j led.l.table.rows).stage ≡ stages.Checking round votes given) (keyed ∙ bytes_same key k here) s.stage))
      on_key key wait same runs false apart =
          ignored_put d k version is (Some (key, wait)) same (misses wait runs)
          (at_stage_of stages.Idle (led.holds_well.idle k (subst (λ (x : Option (List ℕ × Wait me view)). IsApart (busy_with me view x) k) (sym same) apart)))
        where
          misses : (wait : Wait me view) → Runs me view n led.l led.leader.stores w (Some (key, wait)) → reply ≡ (round_for me view key wait).reply → ⊥
          misses (Puts p votes) (lines, (call, keyed, s)) e =
              false≢true (sym apart ∙ subst (λ (j : List ℕ). same_bytes key j ≡ true) (sym ((put_parts (ballot me view) k p.key version p.version (sym is ∙ e)).0 ∙ (s.fits.1 ∙ keyed))) (bytes_itself key))
          misses (Reads round votes) runs e = not_gets (ballot me view) round key (sym is ∙ e)
          misses (Checks round votes given) runs e = not_checks (ballot me view) round (sym is ∙ e)

      by : (runs : Option (List ℕ × Wait me view)) → led.runs ≡ runs → Leading me view n (received (replying me view q reply) i w)
      by None same = ignored_put d k version is None same tt (at_stage_of stages.Idle (led.holds_well.idle k (subst (λ (x : Option (List ℕ × Wait me view)). IsApart (busy_with me view x) k) (sym same) tt)))
      by (Some (key, wait)) same = on_key key wait same (subst (λ (x : Option (List ℕ × Wait me view)). Runs me view n led.l led.leader.stores w x) same led.standing) (same_bytes key k) refl

    pub replied : MayReply me view led.l led.runs reply → Leading me view n (received (replying me view q reply) i w)
    replied may = by reply refl may where
      by : (m : Message) → reply ≡ m → MayReply me view led.l led.runs m → Leading me view n (received (replying me view q reply) i w)
      by (messages.GetReply d r k entry object) is may = on_get d r k entry object is may
      by (messages.CheckReply d r) is may = on_check d r is may
      by (messages.PutReply d k version) is may = on_put d k version is may
      by m is may = absurd may
