-- Whole steps of a leader: on a call, and on the replies to a read and to a put.
use Rattle.std.proofs.Common.{◌≡◌, ◌^◌, ◌-◌, ◌&&◌, refl, ap, sym, ◌∙◌, subst, arith, ℕ, suc, true, false, List, [], ◌∷◌, Option, None, Some}
use Rattle.call_table.specs.Calls.{running}
use Rattle.call_table.specs.Rows.{row_at}
use Rattle.call_table.specs.declared.row.Stage.TheVariants as stages
use Rattle.call_table.specs.declared.waiting.Waiting.{Waiting}
use Rattle.ens_base.specs.Epochs.{same_version}
use Rattle.ens_base.specs.declared.entry.Entry.{Entry}
use Rattle.ens_base.specs.declared.epoch.Epoch.{Epoch}
use Rattle.ens_base.specs.declared.epoch.Version.{Version}
use Rattle.ens_base.specs.declared.reply.Reply.TheVariants as replies
use Rattle.stored_formats.specs.Objects.{object_spelling}
use Rattle.stored_formats.specs.declared.object.Object.{Object}
use Rattle.peer_refinement.specs.WorldSpec.{answered, Held}
use Rattle.object_commands.specs.Kept.{matching}
use Rattle.object_commands.specs.Commands.{verdict_of}
use Rattle.object_commands.specs.declared.verdict.Verdict.{Verdict}
use Rattle.leader_output.specs.Outs.{rests, leads_on}
use Rattle.leader_output.specs.declared.out.LeadOut.{LeadOut}
use Rattle.peer_refinement.proofs.PeerSpec.{stage_here}
use Rattle.leader.specs.Leaders.{joined, knows, stands, settled_as}
use Rattle.leader.specs.Puts.{row_35_reply}
use Rattle.leader.specs.Rounds.{row_29_reply, row_33_reply, counts}
use Rattle.leader.specs.Starts.{row_27}
use Rattle.leader.specs.declared.leader.Leader.{Leader}
use Rattle.md5.specs.Md5.{md5}
use Rattle.peer_refinement.specs.PeerSpec.{step_of, driven, most_turns, concluded, lead}
use Rattle.peer_state.specs.declared.event.Event.TheVariants as events
use Rattle.peer_state.specs.declared.state.State.{State}
use Rattle.stored_formats.specs.declared.fact.Fact.{Fact}
use Rattle.phase_rows.specs.Orders.{is_same}
use Rattle.phase_rows.specs.declared.phase.Then.TheVariants as thens
use Rattle.phase_rows.specs.declared.rules.KeyRule.{KeyRule}
use Rattle.phase_rows.specs.declared.rules.KeyRule.TheVariants as key_rules
use Rattle.quorums.specs.Rounds.{state_of, begun, answered as heard_from}
use Rattle.quorums.specs.declared.round.Round.{Round}
use Rattle.quorums.specs.declared.round.RoundState.{RoundState}
use Rattle.quorums.specs.declared.round.RoundState.TheVariants.{Open, Met, AllAnswered}
use Rattle.register_model.specs.Registers.{outcome}
use Rattle.register_model.specs.declared.note.Note.{Note}
use Rattle.register_model.specs.declared.note.Note.TheVariants.{Settled}
use Rattle.register_model.specs.declared.register.Register.TheVariants.{Absent}
use Rattle.step_plans.specs.Calls.{Hash}
use Rattle.step_plans.specs.Plans.{Done, Out, Rest, nothing, asked}
use Rattle.step_plans.specs.declared.tasks.Task.{Task}
use Rattle.step_plans.specs.declared.tasks.Task.TheVariants as tasks
use Rattle.peer_refinement.specs.Trees.{AreFree}
use Rattle.peer_refinement.specs.Whole.{IsWhole}
use Rattle.wire_frames.specs.declared.message.Message.TheVariants as messages
use Rattle.calm_step_laws.proofs.Ends.{concludes, over}
use Rattle.calm_step_laws.proofs.KeyRows.{row_27_first}
use Rattle.calm_step_laws.proofs.Keeping.{Keeping}
use Rattle.calm_step_laws.proofs.Lands.{Aim, Lands, lands_ask}
use Rattle.calm_step_laws.proofs.Leads.{leads, told, LandsFrom, row_goes}
use Rattle.calm_step_laws.proofs.Serving.{Runs, HasCall, runs, replied, answer, digest_of, ReadsEnd, by_round, reads_30, rests_36}
use Rattle.calm_step_laws.proofs.TreeCalls.{keeps}

-- a step has room for the longest chain of rules
pub most_is_many : most_turns ≡ suc (suc (suc (suc (suc (suc (suc (suc (suc (2 ^ 64 - 10)))))))))
unfolding most_turns
most_is_many = omega arith

module _ (me : ℕ) (fact : Fact) (strings : List (List ℕ)) (P : Aim) (free : AreFree strings) where
  -- what follows once no rule is left: the end of the step
  abbrev pub ending : Rest State (List Task)
  ending ts y o = concluded me y o (λ u v e. Done v e)

  abbrev following : Rest State (List Task)
  following ts y o = driven me most_turns ts y o ending

  -- the step may end with this leader, output and stores
  abbrev pub Holds : Leader → Out → Held → Type 0
  Holds l out h = (ns : List Note) (keep : Keeping) → P (leads fact l keep) h out ns

  -- and then it ends so
  pub ends_here : (l : Leader) (out : Out) (h : Held) → Holds l out h → (ns : List Note) → LandsFrom me fact strings P (λ x. ending [] x out) l h ns
  ends_here l out h holds ns = λ keep. subst (λ z. Lands strings P z h ns) (sym (concludes me (leads fact l keep) out (λ u v e. Done v e) refl)) (λ among. holds ns keep)

  -- a row of a leader by which nothing happens
  idles : (row : Leader → Leader × LeadOut) (l : Leader) (h : Held) (ns : List Note) → row l ≡ (l, rests) → ((keep : Keeping) → P (leads fact l keep) h nothing ns) → LandsFrom me fact strings P (λ x. lead row me x.phase x nothing following) l h ns
  idles row l h ns is holds =
      row_goes me fact strings P row l l nothing [] [] [] thens.Stay [] following h ns is tt (λ keep. subst (λ z. Lands strings P z h ns) (sym (over me (leads fact l keep) nothing refl)) (λ among. holds keep))

  module _ (key : List ℕ) (w : Waiting) (mine : running key (w ∷ []) ≡ Some w) where
    -- a rule on the key, as the first of the loop
    first_of_many : (k : KeyRule) (l : Leader) (out : Out) (h : Held) (ns : List Note) → Runs me fact strings P free ending key w mine (suc (suc (suc (suc (suc (suc (suc (suc (suc (2 ^ 64 - 10)))))))))) k l out h ns → LandsFrom me fact strings P (λ x. following (tasks.Key k key ∷ []) x out) l h ns
    first_of_many k l out h ns lands = subst (λ n. LandsFrom me fact strings P (λ x. driven me n (tasks.Key k key ∷ []) x out ending) l h ns) (sym most_is_many) lands

    -- rule 27: the call joins, and starts
    pub on_call : (l : Leader) (h : Held) → l.table.calls ≡ [] → w ≡ record { from = w.from; id = w.id; key = key; command = w.command; age = 0 }
        → Runs me fact strings P free ending key w mine (suc (suc (suc (suc (suc (suc (suc (suc (suc (2 ^ 64 - 10)))))))))) key_rules.StartCall (joined w l) nothing h []
        → LandsFrom me fact strings P (λ x. step_of me (events.Call (record { from = w.from; id = w.id; key = key; command = w.command })) x) l h []
    on_call l h none is lands =
        row_goes me fact strings P (row_27 w.from w.id key w.command false) l (joined w l) nothing [] [] [] (thens.OnKeys key_rules.StartCall) (key ∷ []) following h []
        (row_27_first w.from w.id key w.command l none ∙ ap (λ (v : Waiting). (joined v l, leads_on key_rules.StartCall key)) (sym is)) tt
        (first_of_many key_rules.StartCall (joined w l) nothing h [] lands)

    -- ## Replies to a read

    -- the leader that heard from this member
    abbrev pub reads_on : ℕ → ℕ → Round → Leader → Leader
    reads_on q r votes l = stands key (stages.Reading r (heard_from q votes) None) l

    -- rule 29: a reply without an entry counts, and rule 30 evaluates the replies
    pub heard_read : (q : ℕ) (d : Epoch) (r : ℕ) (votes : Round) (l : Leader) (heard state : RoundState) (verdict : Verdict) (h : Held) (m : List Entry) → HasCall me fact strings P free ending key w mine l
        → (row_at key l.table.rows).stage ≡ stages.Reading r votes None → counts d r r l ≡ true → state_of (heard_from q votes) ≡ heard → verdict_of (outcome w.command Absent) ≡ verdict → state_of (begun l.fact.views l.me) ≡ state → IsWhole h m
        → ReadsEnd me fact strings P free ending key w mine heard state verdict (reads_on q r votes l) nothing h m
        → LandsFrom me fact strings P (λ x. step_of me (events.Deliver q (messages.GetReply d r key None None)) x) l h []
    heard_read q d r votes l heard state verdict h m calls stage epoch is decides begins whole ends =
        row_goes me fact strings P (row_29_reply q d r key None None) l (reads_on q r votes l) nothing [] [] [] (thens.OnKeys key_rules.EnoughReplies) (key ∷ []) following h [] (rw (stage, epoch) refl) tt
        (first_of_many key_rules.EnoughReplies (reads_on q r votes l) nothing h []
        (reads_30 me fact strings P free ending key w mine (suc (suc (suc (2 ^ 64 - 10)))) (reads_on q r votes l) r (heard_from q votes) heard verdict nothing h m [] state calls
        (stage_here key (stages.Reading r (heard_from q votes) None) l.table.rows) is decides begins whole ends))

    -- ## Acknowledgements of a put

    abbrev pub puts_on : ℕ → Object → Round → Leader → Leader
    puts_on q o acks l = stands key (stages.Putting o (digest_of me fact strings P free ending key w mine o) (heard_from q acks) false) l

    abbrev pub PutHeard : RoundState → ℕ → Object → Round → Leader → Held → Type 0
    PutHeard heard q o acks l h = by_round heard (Holds (puts_on q o acks l) nothing h)
        (Holds (replied me fact strings P free ending key w mine (knows key (settled_as o.version o (digest_of me fact strings P free ending key w mine o)) l)) (told nothing [] (answer me fact strings P free ending key w mine (replies.Ok o.stamp))) h)

    -- the put is settled, and its call answered
    settles : (q : ℕ) (d : Epoch) (v : Version) (o : Object) (l : Leader) (h : Held) → HasCall me fact strings P free ending key w mine l
        → (let m : Leader = knows key (settled_as o.version o (digest_of me fact strings P free ending key w mine o)) l in
        (row_35_reply q d key v l ≡ (replied me fact strings P free ending key w mine m, record { leave = false; sends = []; answers = answer me fact strings P free ending key w mine (replies.Ok o.stamp); notes = Settled key o.version ∷ []; own = None; then = thens.OnKeys key_rules.StartNextCall; keys = key ∷ [] }))
        × Holds (replied me fact strings P free ending key w mine m) (told nothing [] (answer me fact strings P free ending key w mine (replies.Ok o.stamp))) h)
        → LandsFrom me fact strings P (λ x. step_of me (events.Deliver q (messages.PutReply d key v)) x) l h []
    settles q d v o l h calls goes =
        let m : Leader = knows key (settled_as o.version o (digest_of me fact strings P free ending key w mine o)) l in
        let k : Leader = replied me fact strings P free ending key w mine m in
        let given = answer me fact strings P free ending key w mine (replies.Ok o.stamp) in
        row_goes me fact strings P (row_35_reply q d key v) l k nothing [] given (Settled key o.version ∷ []) (thens.OnKeys key_rules.StartNextCall) (key ∷ []) following h [] goes.0 tt
        (first_of_many key_rules.StartNextCall k (told nothing [] given) h (Settled key o.version ∷ [])
        (rests_36 me fact strings P free ending key w mine (suc (suc (suc (suc (suc (suc (suc (suc (2 ^ 64 - 10))))))))) m (told nothing [] given) h (Settled key o.version ∷ []) calls (ends_here k (told nothing [] given) h goes.1)))

    -- rule 35: an acknowledgement counts
    pub heard_put : (q : ℕ) (d : Epoch) (v : Version) (o : Object) (acks : Round) (l : Leader) (heard : RoundState) (h : Held) → HasCall me fact strings P free ending key w mine l
        → (row_at key l.table.rows).stage ≡ stages.Putting o (digest_of me fact strings P free ending key w mine o) acks false → (is_same d l.fact.epoch && same_version v o.version) ≡ true → state_of (heard_from q acks) ≡ heard
        → PutHeard heard q o acks l h → LandsFrom me fact strings P (λ x. step_of me (events.Deliver q (messages.PutReply d key v)) x) l h []
    heard_put q d v o acks l Open h calls stage named is ends =
        row_goes me fact strings P (row_35_reply q d key v) l (puts_on q o acks l) nothing [] [] [] thens.Stay [] following h [] (rw (stage, named, is) refl) tt
        (λ keep. subst (λ z. Lands strings P z h []) (sym (over me (leads fact (puts_on q o acks l) keep) nothing refl)) (λ among. ends [] keep))
    heard_put q d v o acks l Met h calls stage named is ends = settles q d v o l h calls (rw (stage, named, is, runs me fact strings P free ending key w mine l calls) refl, ends)
    heard_put q d v o acks l AllAnswered h calls stage named is ends = settles q d v o l h calls (rw (stage, named, is, runs me fact strings P free ending key w mine l calls) refl, ends)

  -- ## Replies that come too late

  -- a reply to a read of no open round
  module _ (q : ℕ) (d : Epoch) (r : ℕ) (key : List ℕ) (l : Leader) where
    abbrev pub IsIgnored : Option Entry → Type 0
    IsIgnored entry = (object : Option Object) → row_29_reply q d r key entry object l ≡ (l, rests)

    pub late_read : (entry : Option Entry) (object : Option Object) (h : Held) (m : List Entry) → IsIgnored entry → IsWhole h m → ((g : Held) → IsWhole g m → g.stores ≡ h.stores → (keep : Keeping) → P (leads fact l keep) g nothing [])
        → LandsFrom me fact strings P (λ x. step_of me (events.Deliver q (messages.GetReply d r key entry object)) x) l h []
    unfolding asked
    late_read None object h m ignored whole holds = idles (row_29_reply q d r key None None) l h [] (ignored None) (holds h whole refl)
    late_read (Some e) None h m ignored whole holds = idles (row_29_reply q d r key (Some e) None) l h [] (ignored None) (holds h whole refl)
    late_read (Some e) (Some o) h m ignored whole holds =
        let g : Held = (answered (Hash (object_spelling o)) h).held in
        λ keep. lands_ask strings P (Hash (object_spelling o)) (λ digest. lead (row_29_reply q d r key (Some e) (matching e (Some (o, digest)))) me (leads fact l keep).phase (leads fact l keep) nothing following) h [] (λ among. record {
          answer = md5 (object_spelling o);
          is = refl;
          goes = idles (row_29_reply q d r key (Some e) (matching e (Some (o, md5 (object_spelling o))))) l g [] (ignored (matching e (Some (o, md5 (object_spelling o))))) (holds g (keeps (Hash (object_spelling o)) h m tt whole) refl) keep;
        })

  -- an acknowledgement of no open put
  pub late_put : (q : ℕ) (d : Epoch) (key : List ℕ) (v : Version) (l : Leader) (h : Held) → row_35_reply q d key v l ≡ (l, rests) → ((keep : Keeping) → P (leads fact l keep) h nothing []) → LandsFrom me fact strings P (λ x. step_of me (events.Deliver q (messages.PutReply d key v)) x) l h []
  late_put q d key v l h ignored holds = idles (row_35_reply q d key v) l h [] ignored holds

  -- a reply to a check of no open round
  pub late_check : (q : ℕ) (d : Epoch) (r : ℕ) (l : Leader) (h : Held) → row_33_reply q d r l ≡ (l, rests) → ((keep : Keeping) → P (leads fact l keep) h nothing []) → LandsFrom me fact strings P (λ x. step_of me (events.Deliver q (messages.CheckReply d r)) x) l h []
  late_check q d r l h ignored holds = idles (row_33_reply q d r) l h [] ignored holds
