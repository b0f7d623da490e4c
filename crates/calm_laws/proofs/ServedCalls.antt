-- A call comes to a leader whose calls were all answered: then it waits in a round, or is answered.
use Rattle.std.proofs.Common.{◌≡◌, ◌≤◌, ◌<◌, ◌^◌, ◌+◌, ◌-◌, inl, inr, refl, ap, sym, ◌∙◌, subst, arith, ℕ, suc, true, List, [], ◌∷◌, ◌++◌, map, length, Option, None, Some}
use Rattle.std.proofs.lemmas.List.{length-append}
use Rattle.phase_rows.specs.declared.rules.KeyRule.TheVariants as key_rules
use Rattle.call_table.specs.Rows.{Rows, row_at}
use Rattle.call_table.specs.declared.row.Known.TheVariants as knowns
use Rattle.call_table.specs.declared.table.CallTable.{CallTable}
use Rattle.call_table.specs.declared.waiting.Waiting.{Waiting}
use Rattle.ens_base.proofs.Lists.{in_left, in_right}
use Rattle.ens_base.specs.Limits.{IsKey, IsCommand}
use Rattle.ens_base.specs.Lists.{◌∈◌}
use Rattle.ens_base.specs.PeerSet.{holds}
use Rattle.ens_base.specs.View.{IsPeer}
use Rattle.ens_base.specs.declared.command.Command.{Command}
use Rattle.stored_formats.specs.Objects.{IsObject, IsContent, object_spelling}
use Rattle.stored_formats.specs.declared.object.Object.{Object}
use Rattle.environment.specs.Maps.{value_at}
use Rattle.calm_step_laws.specs.WorldSpec.{answered, Held, HeldStores, held_with, step_of}
use Rattle.quorums.specs.Members.{those}
use Rattle.object_commands.specs.Commands.{verdict_of, register_of}
use Rattle.object_commands.specs.declared.verdict.Verdict.{Verdict}
use Rattle.object_commands.specs.declared.verdict.Verdict.TheVariants.{Write, Answer}
use Rattle.leader_laws.proofs.Lookups.{stage_here}
use Rattle.leader.specs.Leaders.{settled_as}
use Rattle.leader.specs.declared.leader.Leader.{Leader}
use Rattle.leader.specs.declared.pending.Pending.TheVariants as pendings
use Rattle.md5.specs.Md5.{md5}
use Rattle.peer_state.specs.declared.event.Event.TheVariants as events
use Rattle.quorums.specs.Rounds.{state_of, begun}
use Rattle.quorums.specs.declared.round.RoundState.{RoundState}
use Rattle.quorums.specs.declared.round.RoundState.TheVariants.{Open, Met, AllAnswered}
use Rattle.register_model.specs.Registers.{Outcome, Keeps, Writes, outcome, written}
use Rattle.register_model.specs.declared.note.Note.{Note}
use Rattle.register_model.specs.declared.register.Register.{Register}
use Rattle.register_model.specs.declared.register.Register.TheVariants.{Absent}
use Rattle.step_plans.specs.Calls.{Find}
use Rattle.step_plans.specs.Plans.{Out, nothing}
use Rattle.calm_step_laws.specs.PeerRefinement.{AreAmong, AreFree, IsWhole}
use Rattle.wire_frames.specs.declared.frame.Frame.{Frame}
use Rattle.wire_frames.specs.declared.message.Message.TheVariants as messages
use Rattle.world_refinement.specs.WorldSpec.{client, call_of, Run, frame_from, stepped}
use Rattle.calm_step_laws.proofs.CandidateSteps.{ballot, accepted}
use Rattle.object_commands.proofs.Outcomes.{RegisterFits, OutcomeFits, outcome_fits}
use Rattle.calm_step_laws.proofs.Keeping.{Keeping}
use Rattle.calm_step_laws.proofs.Lands.{Aim, Lands}
use Rattle.calm_step_laws.proofs.LeaderSteps.{ending, ends_here, on_call}
use Rattle.calm_step_laws.proofs.Leads.{leads, told}
use Rattle.calm_step_laws.proofs.Serving.{Goes, Runs as RunsRule, AppliesEnd, missing, by_round}
use Rattle.calm_step_laws.proofs.Starting.{DecidesEnd, starts_unknown, starts_absent, starts_kept}
use Rattle.calm_step_laws.proofs.TreeCalls.{keeps, spares}
use Rattle.calm_step_laws.proofs.Verdicts.{reply_completes}
use Rattle.calm_laws.proofs.Waits.{Waits}
use Rattle.calm_laws.proofs.Counted.{everyone_has}
use Rattle.calm_laws.proofs.Elections.{asking, replying}
use Rattle.calm_laws.proofs.ServedLeader.{runs_here, F, at_stage, Moves, Lingers, Mid, small_number, first_votes, same_maps, way_after, writes_end, checks_end, applies_end, waits_now}
use Rattle.calm_laws.proofs.ServedReplies.{as_parts}
use Rattle.calm_laws.proofs.ServedRows.{known_stays, staged, rounded, busied}
use Rattle.calm_laws.proofs.ServedSends.{to_others, reaches_only}
use Rattle.calm_laws.proofs.ServedVotes.{kinds_posted}
use Rattle.calm_laws.proofs.ServedWorlds.{Scene, Wait, Reads, stage_of, round_for, Knows, IsKept, IsUnknown, Holds, Kind, Runs, busy_with, Leading, IsServed}
use Rattle.calm_laws.proofs.Waiting.{none_waits}
use Rattle.calm_laws.proofs.Worlds.{step_grows}

-- what a command writes is a content
content_fine : (c : Command) (r : Register) (content : Option (List ℕ)) → IsCommand c → RegisterFits r → verdict_of (outcome c r) ≡ Write content → IsContent content
content_fine c r content command fits is = by (outcome c r) (outcome_fits c r command fits) is where
  same_content : (a b : Option (List ℕ)) → Write a ≡ Write b → a ≡ b
  same_content a b same = grind (arith, same)

  by : (o : Outcome) → OutcomeFits o → verdict_of o ≡ Write content → IsContent content
  by (Keeps reply) within same = absurd (let no : ⊥ = grind (arith, same) in no)
  by (Writes given) within same = subst IsContent (same_content given content same) within

object_fits : (o : Object) → IsObject o → RegisterFits (register_of o)
object_fits o valid = by o.value valid.content where
  by : (content : Option (List ℕ)) → IsContent content → RegisterFits (written o.stamp content)
  by None fits = tt
  by (Some bytes) fits = fits

module _ (me : ℕ) (view : List ℕ) (is_peer : IsPeer me) (peers : (q : ℕ) → q ∈ view → IsPeer q) (listed : me ∈ view) (strings : List (List ℕ)) (free : AreFree strings) where
  module _ (old : Scene) (w : Run) (served : IsServed me view old w) (id : ℕ) (key : List ℕ) (command : Command) (is_key : IsKey key) (is_command : IsCommand command) (room : suc old.count < 2 ^ 32) where
    -- one more call
    pub next_few : length (old.called ++ key ∷ []) ≤ suc old.count
    next_few = rw (length-append old.called (key ∷ [])) (let few : length old.called ≤ old.count = old.few in omega (arith, few))

    abbrev pub n : Scene
    n = record { count = suc old.count; small = room; called = old.called ++ key ∷ []; few = next_few; before = w.printed; call = Some id }

    abbrev call : Waiting
    call = record { from = client; id = id; key = key; command = command; age = 0 }

    -- the table with the call
    abbrev t : CallTable
    t = record served.led.l.table { calls = served.led.l.table.calls ++ call ∷ [] }

    abbrev G : ℕ → ℕ → CallTable → Leader
    G s r u = F me view is_peer peers listed strings free n served.led.l.accepts s r u

    no_calls : served.led.l.table.calls ≡ []
    no_calls = (subst (λ (x : Option (List ℕ × Wait me view)). Runs me view old served.led.l served.led.leader.stores w x) served.rests served.led.standing).0

    held_old : Holds me view old served.led.l.seq served.led.l.round served.led.l.table.rows served.led.leader.stores served.led.map None
    held_old = subst (λ (x : Option (List ℕ × Wait me view)). Holds me view old served.led.l.seq served.led.l.round served.led.l.table.rows served.led.leader.stores served.led.map (busy_with me view x)) served.rests served.led.holds_well

    held_new : Holds me view n served.led.l.seq served.led.l.round served.led.l.table.rows served.led.leader.stores served.led.map (Some key)
    held_new = busied me view n served.led.l.seq served.led.l.round served.led.l.table.rows served.led.leader.stores served.led.map key (record {
      seqs = let s : served.led.l.seq ≤ old.count = held_old.seqs in omega (arith, s);
      rounds = let r : served.led.l.round ≤ old.count = held_old.rounds in omega (arith, r);
      past = λ q e is at. let p = held_old.past q e is at in (p.0, p.1, in_left old.called (key ∷ []) e.key p.2);
      idle = held_old.idle;
      knows = held_old.knows;
      unknown = held_old.unknown;
    })

    -- nothing waits
    nobody : (f : Frame) → Waits w.mail f → ⊥
    nobody f v = by (served.led.kinds f v) where
      by : Kind me view old served.led.l served.led.runs f → ⊥
      by (inl a) = none_waits (those (λ p. true)) w.mail (asking me view a.to a.message) served.none (rw (everyone_has me is_peer, everyone_has a.to (peers a.to a.other.0)) refl) (subst (λ (g : Frame). Waits w.mail g) a.is v)
      by (inr a) = none_waits (those (λ p. true)) w.mail (replying me view a.from a.message) served.none (rw (everyone_has me is_peer, everyone_has a.from (peers a.from a.other.0)) refl) (subst (λ (g : Frame). Waits w.mail g) a.is v)

    -- what the step is to come to
    abbrev Comes : Aim
    Comes = Moves me view is_peer peers listed strings free n served.led.l.accepts w w.mail served.led.mail refl (leads (accepted me view) served.led.l) served.led.map served.led.leader served.led.others

    abbrev MidCall : ℕ → ℕ → CallTable → Held → Type 0
    MidCall s r u h = Mid me view is_peer peers listed strings free n served.led.l.accepts w w.mail served.led.mail refl (leads (accepted me view) served.led.l) served.led.map served.led.leader served.led.others call s r u h nothing

    -- the stores may have been read meanwhile
    mid : (h : Held) → IsWhole h (served.led.map me) → h.stores.backend ≡ served.led.leader.stores.backend → MidCall served.led.l.seq served.led.l.round t h
    mid h whole backend = record {
      quiet = record { answers = refl; changes = refl };
      whole = whole;
      so = same_backend served.led.l.seq served.led.l.round served.led.l.table.rows served.led.leader.stores h.stores backend held_new;
      calls = ap (λ cs. cs ++ call ∷ []) no_calls;
      named = refl;
      key = is_key;
      command = is_command;
      was_called = in_right old.called (key ∷ []) key (inl refl);
      room = let s : served.led.l.seq ≤ old.count = held_old.seqs in omega (arith, s);
      kinds = λ f v. absurd (nobody f v);
    }
      where
        same_backend : (s r : ℕ) (rows : Rows) (before after : HeldStores) → after.backend ≡ before.backend → Holds me view n s r rows before served.led.map (Some key) → Holds me view n s r rows after served.led.map (Some key)
        same_backend s r rows before after same so = record { seqs = so.seqs; rounds = so.rounds; past = so.past; idle = so.idle; knows = λ k apart. kept k (so.knows k apart); unknown = so.unknown } where
          kept : (k : List ℕ) → Knows me view rows before k → Knows me view rows after k
          kept k (inl unknown) = inl unknown
          kept k (inr (inl absent)) = inr (inl absent)
          kept k (inr (inr it)) = inr (inr (record { object = it.object; valid = it.valid; keyed = it.keyed; is = it.is; has = ap (λ b. value_at k b.entries) same ∙ it.has }))

    more_rounds : suc served.led.l.round ≤ n.count
    more_rounds = let r : served.led.l.round ≤ old.count = held_old.rounds in omega (arith, r)

    -- ## On a key that is known

    decides : (h : Held) → MidCall served.led.l.seq served.led.l.round t h → (IsUnknown me view t.rows key → ⊥) → Knows me view t.rows h.stores key → (register : Register) → RegisterFits register → (verdict : Verdict) → verdict_of (outcome command register) ≡ verdict
        → DecidesEnd me (accepted me view) strings Comes free (ending me (accepted me view) strings Comes free) key call (runs_here call) (state_of (begun (view ∷ []) me)) verdict (G served.led.l.seq served.led.l.round t) nothing h (served.led.map me)
    decides h m known knows register fits (Write content) is = (
      small_number me view is_peer peers listed strings free n served.led.l.accepts w w.mail served.led.mail refl (leads (accepted me view) served.led.l) served.led.map served.led.leader served.led.others served.led.l.seq held_new.seqs,
      writes_end me view is_peer peers listed strings free n served.led.l.accepts w w.mail served.led.mail refl (leads (accepted me view) served.led.l) served.led.map served.led.leader served.led.others
          call served.led.l.seq served.led.l.round t h nothing m content (content_fine command register content is_command fits is) known pendings.Nothing (state_of (begun (view ∷ []) me)) refl,
    )
    decides h m known knows register fits (Answer reply) is = (
      small_number me view is_peer peers listed strings free n served.led.l.accepts w w.mail served.led.mail refl (leads (accepted me view) served.led.l) served.led.map served.led.leader served.led.others served.led.l.round held_new.rounds,
      checks_end me view is_peer peers listed strings free n served.led.l.accepts w w.mail served.led.mail refl (leads (accepted me view) served.led.l) served.led.map served.led.leader served.led.others
          call served.led.l.seq served.led.l.round t h nothing m reply (reply_completes command register reply is) knows more_rounds pendings.Nothing (state_of (begun (view ∷ []) me)) refl,
    )

    -- what is left of the step once the call joined
    abbrev Started : Type 0
    Started = RunsRule me (accepted me view) strings Comes free (ending me (accepted me view) strings Comes free) key call (runs_here call) (suc (suc (suc (suc (suc (suc (suc (suc (suc (2 ^ 64 - 10)))))))))) key_rules.StartCall (G served.led.l.seq served.led.l.round t) nothing (held_with served.led.leader.stores w.hashed) []

    own_whole : IsWhole (held_with served.led.leader.stores w.hashed) (served.led.map me)
    own_whole = served.led.leader.whole

    has_call : t.calls ≡ call ∷ []
    has_call = ap (λ cs. cs ++ call ∷ []) no_calls

    on_absent : (row_at key t.rows).known ≡ knowns.Absent → Started
    on_absent absent =
        starts_absent me (accepted me view) strings Comes free (ending me (accepted me view) strings Comes free) key call (runs_here call) (suc (suc (suc (suc (2 ^ 64 - 10))))) (G served.led.l.seq served.led.l.round t) (verdict_of (outcome command Absent)) nothing
        (held_with served.led.leader.stores w.hashed) (served.led.map me) [] (state_of (begun (view ∷ []) me)) has_call absent refl refl own_whole
        (decides (held_with served.led.leader.stores w.hashed) (mid (held_with served.led.leader.stores w.hashed) own_whole refl) (λ unknown. let no : ⊥ = grind (arith, sym absent ∙ unknown) in no) (inr (inl absent)) Absent tt (verdict_of (outcome command Absent)) refl)

    on_kept : IsKept me view served.led.leader.stores key (row_at key t.rows).known → Started
    on_kept it =
        starts_kept me (accepted me view) strings Comes free (ending me (accepted me view) strings Comes free) key call (runs_here call) it.object it.keyed it.valid (G served.led.l.seq served.led.l.round t) has_call nothing
        (held_with served.led.leader.stores w.hashed) (served.led.map me) own_whole (state_of (begun (view ∷ []) me)) refl (suc (suc (suc (2 ^ 64 - 10)))) [] it.is it.has
        (λ g whole same. decides g (mid g whole (ap (λ s. s.backend) same)) some (inr (inr (record { object = it.object; valid = it.valid; keyed = it.keyed; is = it.is; has = ap (λ s. value_at key s.backend.entries) same ∙ it.has })))
        (register_of it.object) (object_fits it.object it.valid) (verdict_of (outcome command (register_of it.object))) refl)
      where
        some : IsUnknown me view t.rows key → ⊥
        some unknown = let e : settled_as it.object.version it.object (md5 (object_spelling it.object)) ≡ knowns.Unknown = sym it.is ∙ unknown in (let no : ⊥ = grind (arith, e) in no)

    -- ## On a key of which nothing is known

    abbrev h_read : Held
    h_read = (answered (Find key) (held_with served.led.leader.stores w.hashed)).held

    abbrev wait : Wait me view
    wait = Reads (served.led.l.round + 1) (begun (view ∷ []) me)

    abbrev u : CallTable
    u = at_stage me view is_peer peers listed strings free n served.led.l.accepts key wait t

    whole_read : IsWhole (answered (Find key) (held_with served.led.leader.stores w.hashed)).held (served.led.map me)
    whole_read = keeps (Find key) (held_with served.led.leader.stores w.hashed) (served.led.map me) tt own_whole

    backend_read : (answered (Find key) (held_with served.led.leader.stores w.hashed)).held.stores.backend ≡ served.led.leader.stores.backend
    backend_read = (spares (Find key) (held_with served.led.leader.stores w.hashed)).0

    module _ (unknown : IsUnknown me view t.rows key) where
      still_unknown : IsUnknown me view u.rows key
      still_unknown = known_stays key key (stage_of me view wait) t.rows ∙ unknown

      so_read : Holds me view n served.led.l.seq (served.led.l.round + 1) u.rows h_read.stores served.led.map (Some key)
      so_read = staged me view n served.led.l.seq (served.led.l.round + 1) t.rows h_read.stores served.led.map key (stage_of me view wait)
          (rounded me view n served.led.l.seq served.led.l.round t.rows h_read.stores served.led.map (Some key) more_rounds (mid h_read whole_read backend_read).so)

      -- the read goes to the other members
      new_get : (l : Leader) (runs : Option (List ℕ × Wait me view)) → served.led.l.round + 1 ≤ l.round → (f : Frame) → f ∈ map (frame_from me) (to_others me view peers (messages.Get (ballot me view) (served.led.l.round + 1) key)) → Kind me view n l runs f
      new_get l runs le f is =
          let it = reaches_only me view peers (messages.Get (ballot me view) (served.led.l.round + 1) key) f is in
          inl (record { to = it.to; other = it.other; message = messages.Get (ballot me view) (served.led.l.round + 1) key; is = it.is; may = (refl, le) })

      abbrev out_read : Out
      out_read = told nothing (to_others me view peers (messages.Get (ballot me view) (served.led.l.round + 1) key)) []

      read_waiting : state_of (begun (view ∷ []) me) ≡ Open → (ms : List Note) (keep : Keeping) → Comes (leads (accepted me view) (G served.led.l.seq (served.led.l.round + 1) u) keep) h_read out_read ms
      read_waiting is ms =
          waits_now me view is_peer peers listed strings free n served.led.l.accepts w w.mail served.led.mail refl (leads (accepted me view) served.led.l) served.led.map served.led.leader served.led.others
          call wait served.led.l.seq (served.led.l.round + 1) u h_read out_read ms (served.led.map me) (record { answers = refl; changes = refl }) whole_read
          (same_maps me view is_peer peers listed strings free n served.led.l.accepts w w.mail served.led.mail refl (leads (accepted me view) served.led.l) served.led.map served.led.leader served.led.others served.led.l.seq (served.led.l.round + 1) u.rows h_read (Some key) so_read)
          (record {
            calls = has_call;
            named = refl;
            key = is_key;
            command = is_command;
            was_called = in_right old.called (key ∷ []) key (inl refl);
            stage = stage_here key (stage_of me view wait) t.rows;
            fits = (refl, still_unknown, let s : served.led.l.seq ≤ old.count = held_old.seqs in omega (arith, s));
            open_yet = is;
            views = (first_votes me view is_peer peers listed strings free n served.led.l.accepts w w.mail served.led.mail refl (leads (accepted me view) served.led.l) served.led.map served.led.leader served.led.others).views;
            size = (first_votes me view is_peer peers listed strings free n served.led.l.accepts w w.mail served.led.mail refl (leads (accepted me view) served.led.l) served.led.map served.led.leader served.led.others).size;
            own = (first_votes me view is_peer peers listed strings free n served.led.l.accepts w w.mail served.led.mail refl (leads (accepted me view) served.led.l) served.led.map served.led.leader served.led.others).own;
            others = λ q other. way_after me view is_peer peers listed strings free n served.led.l.accepts w w.mail served.led.mail refl (leads (accepted me view) served.led.l) served.led.map served.led.leader served.led.others (round_for me view key wait) nothing [] (λ k. holds (begun (view ∷ []) me).tally.votes k) q refl other;
          })
          (kinds_posted (λ f. ⊥) (Kind me view n (G served.led.l.seq (served.led.l.round + 1) u) (Some (key, wait))) w.mail (map (frame_from me) (to_others me view peers (messages.Get (ballot me view) (served.led.l.round + 1) key))) served.led.mail nobody (λ f none. absurd none)
          (new_get (G served.led.l.seq (served.led.l.round + 1) u) (Some (key, wait)) (omega arith)))

      mid_read : Mid me view is_peer peers listed strings free n served.led.l.accepts w w.mail served.led.mail refl (leads (accepted me view) served.led.l) served.led.map served.led.leader served.led.others call served.led.l.seq (served.led.l.round + 1) u h_read out_read
      mid_read = record {
        quiet = record { answers = refl; changes = refl };
        whole = whole_read;
        so = so_read;
        calls = has_call;
        named = refl;
        key = is_key;
        command = is_command;
        was_called = in_right old.called (key ∷ []) key (inl refl);
        room = let s : served.led.l.seq ≤ old.count = held_old.seqs in omega (arith, s);
        kinds = kinds_posted (λ f. ⊥) (Lingers me view is_peer peers listed strings free n served.led.l.accepts w w.mail served.led.mail refl (leads (accepted me view) served.led.l) served.led.map served.led.leader served.led.others (served.led.l.round + 1)) w.mail (map (frame_from me) (to_others me view peers (messages.Get (ballot me view) (served.led.l.round + 1) key))) served.led.mail nobody (λ f none. absurd none)
            (λ f is l runs le not. new_get l runs le f is);
      }

      read_ends : (state : RoundState) → state_of (begun (view ∷ []) me) ≡ state → by_round state (Goes me (accepted me view) strings Comes free (ending me (accepted me view) strings Comes free) key call (runs_here call) (G served.led.l.seq (served.led.l.round + 1) u) out_read h_read)
          (AppliesEnd me (accepted me view) strings Comes free (ending me (accepted me view) strings Comes free) key call (runs_here call) (state_of (begun (view ∷ []) me)) (verdict_of (outcome command Absent)) (missing me (accepted me view) strings Comes free (ending me (accepted me view) strings Comes free) key call (runs_here call) (G served.led.l.seq (served.led.l.round + 1) u)) out_read h_read (served.led.map me))
      read_ends Open is = ends_here me (accepted me view) strings Comes free (G served.led.l.seq (served.led.l.round + 1) u) out_read h_read (read_waiting is)
      read_ends Met is = applies_end me view is_peer peers listed strings free n served.led.l.accepts w w.mail served.led.mail refl (leads (accepted me view) served.led.l) served.led.map served.led.leader served.led.others call served.led.l.seq (served.led.l.round + 1) u h_read out_read mid_read pendings.Nothing (state_of (begun (view ∷ []) me)) (verdict_of (outcome command Absent)) refl refl
      read_ends AllAnswered is = applies_end me view is_peer peers listed strings free n served.led.l.accepts w w.mail served.led.mail refl (leads (accepted me view) served.led.l) served.led.map served.led.leader served.led.others call served.led.l.seq (served.led.l.round + 1) u h_read out_read mid_read pendings.Nothing (state_of (begun (view ∷ []) me)) (verdict_of (outcome command Absent)) refl refl

      on_unknown : Started
      on_unknown =
          starts_unknown me (accepted me view) strings Comes free (ending me (accepted me view) strings Comes free) key call (runs_here call) (2 ^ 64 - 10) (G served.led.l.seq served.led.l.round t) (verdict_of (outcome command Absent)) nothing (held_with served.led.leader.stores w.hashed) (served.led.map me) []
          (state_of (begun (view ∷ []) me)) has_call unknown (small_number me view is_peer peers listed strings free n served.led.l.accepts w w.mail served.led.mail refl (leads (accepted me view) served.led.l) served.led.map served.led.leader served.led.others served.led.l.round held_new.rounds) refl refl own_whole (held_old.unknown key unknown me listed) (read_ends (state_of (begun (view ∷ []) me)) refl)

    -- ## The whole step

    started : Started
    started = by (held_old.knows key tt) where
      by : Knows me view served.led.l.table.rows served.led.leader.stores key → Started
      by (inl unknown) = on_unknown unknown
      by (inr (inl absent)) = on_absent absent
      by (inr (inr it)) = on_kept it

    pub called : AreAmong (stepped me (events.Call (call_of id key command)) w).hashed strings → Leading me view n (stepped me (events.Call (call_of id key command)) w)
    called among =
        step_grows me (events.Call (call_of id key command)) strings Comes (Leading me view n) w (leads (accepted me view) served.led.l served.led.leader.keep) served.led.leader.stores served.led.leader.at
        (subst (λ (x : Leader). Lands strings Comes (step_of me (events.Call (call_of id key command)) (leads (accepted me view) x served.led.leader.keep)) (held_with served.led.leader.stores w.hashed) []) (sym (as_parts served.led.l me view served.led.fact served.led.self served.led.task))
        (on_call me (accepted me view) strings Comes free key call (runs_here call) (G served.led.l.seq served.led.l.round served.led.l.table) (held_with served.led.leader.stores w.hashed) no_calls refl started served.led.leader.keep))
        among (λ y g out ms grown meets. meets grown)
