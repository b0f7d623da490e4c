-- Rules 20 to 22: the replies of a peer to a check, a read and a put say what holds, and a put ends as a
-- write and an acknowledgement, as an acknowledgement, or as nothing. A peer that finds damage reports it,
-- and no longer trusts its tree.
use Rattle.std.specs.Prelude.{All, not}
use Rattle.std.proofs.Common.{◌≡◌, ◌⊎◌, inl, inr, ◌≤◌, ℕ, Bool, true, false, ◌&&◌, List, [], ◌++◌, append-nil, Option, None, Some, arith, refl, sym, ap, subst, ◌∙◌}
use Rattle.std.proofs.lemmas.List.Elements.{All-nil, All-weaker}
use Rattle.ens_base.specs.Epochs.{same_version}
use Rattle.ens_base.specs.View.{IsPeer}
use Rattle.ens_base.specs.declared.epoch.Epoch.{Epoch}
use Rattle.ens_base.specs.declared.epoch.Version.{Version}
use Rattle.stored_formats.specs.Objects.{IsObject}
use Rattle.stored_formats.specs.declared.object.Object.{Object}
use Rattle.phase_rules.specs.Refusals.{is_served, refusal, unless_refused, tells_damage}
use Rattle.phase_rules.specs.Requests.{row_20, gets, row_21, is_version_below, acknowledges, puts_over, puts, row_22}
use Rattle.protocol_laws.specs.Ledger.{Place}
use Rattle.protocol_laws.specs.Numbers.{epoch_number, IsEpoch}
use Rattle.protocol_laws.specs.Protocol.{State, Step, Write, Acknowledge, IsRun, state_after, happens}
use Rattle.election_refinement.proofs.Tests.{by_test}
use Rattle.election_refinement.specs.Listed.{IsListedMessage}
use Rattle.election_refinement.specs.Refinement.{SendHolds}
use Rattle.peer_refinement.specs.WorldSpec.{Held}
use Rattle.role_laws.specs.LeaderMessages.{GetSays, CheckSays, PutSays}
use Rattle.role_laws.specs.Roles.{Said, SaidHolds, Reads, Entry as EntryShown, Checks, Stands, Puts, Acks}
use Rattle.role_laws.specs.Tables.{Ghosts}
use Rattle.leader_refinement.specs.Seen.{rank, content_of, entry_rank, shown as shown_object}
use Rattle.leader_output.specs.declared.out.AnswerOut.{AnswerOut}
use Rattle.leader_output.specs.declared.out.Outgoing.{Outgoing}
use Rattle.peer_spec.specs.Drives.{row_done, shown, after_put, put_done, delivered}
use Rattle.peer_state.specs.Moves.{left, left_answers, timeouts, stopped_leading, without_candidacy, untrusted}
use Rattle.peer_spec.specs.Owns.{looked, found}
use Rattle.peer_spec.specs.Syncs.{and_sends}
use Rattle.peer_state.specs.declared.state.Phase.{Phase}
use Rattle.peer_state.specs.declared.state.Phase.TheVariants as phases
use Rattle.peer_state.specs.declared.state.State.{State as PeerState}
use Rattle.stored_formats.specs.declared.fact.Fact.{Fact}
use Rattle.phase_rows.specs.Orders.{is_below, is_same}
use Rattle.phase_rows.specs.Peers.{alone}
use Rattle.phase_rows.specs.Rows.{silent, refuses, refuses_below}
use Rattle.register_model.specs.declared.note.Note.{Note}
use Rattle.peer_refinement.proofs.Numbers.{not_below}
use Rattle.peer_refinement.proofs.Replying.{run_serves, run_checks, run_gets, run_puts}
use Rattle.peer_refinement.specs.Replies.{Serves, FindSees, SeenSays, ReplySays, MayReply, Replies, HasVersion, TakesVersion, IsReplyToPut}
use Rattle.step_plans.specs.Plans.{Out, Rest}
use Rattle.step_plans.specs.Sends.{posted_to}
use Rattle.step_plans.specs.declared.tasks.Task.{Task}
use Rattle.synctree.specs.Entries.{lookup}
use Rattle.tree_node.specs.declared.position.Position.{Position}
use Rattle.wire_frames.specs.declared.message.Message.{Message}
use Rattle.wire_frames.specs.declared.message.Message.TheVariants as messages
use Rattle.wire_frames.specs.declared.message.NackCause.TheVariants as causes
use Rattle.phase_rows.specs.declared.phase.PhaseOut.{PhaseOut}
use Rattle.phase_rows.specs.declared.phase.Seen.{Seen}
use Rattle.phase_rows.specs.declared.phase.Seen.TheVariants as seens
use Rattle.phase_rows.specs.declared.phase.Then.{Then}
use Rattle.phase_rows.specs.declared.phase.Then.TheVariants as thens
use Rattle.phase_rows.proofs.Epochs.{same_epochs}
use Rattle.step_refinement.proofs.CallByCall.{rest_task, Ends}
use Rattle.step_refinement.specs.Scenes.{Scene, now, Here, AtRest, MessageComes}
use Rattle.step_refinement.proofs.TreeLookups.{IsReady, Over, Stored, MayStore, shown_map, nothing_read, over_here, write_here, acknowledge_here, looked_ends, found_ends, written_ends}
use Rattle.step_refinement.proofs.LostTrust.{untrusts}
use Rattle.step_refinement.proofs.SentMessages.{posted_to_each, SendSaysSo, says_nothing, says_one, tells_more, says_here}
use Rattle.step_refinement.specs.Keys.{KeysAreBelow}
use Rattle.step_refinement.specs.Peers.{IsAtRest, SendFits}
use Rattle.step_refinement.specs.Roles.{said_of}

-- ## Rows that only reply

-- the row saves nothing, no leader steps down, and no rule follows
record IsReply (row : PhaseOut) : Type 0 where
  save : row.save ≡ None
  leave : row.leave ≡ false
  next : (row.then ≡ thens.Stay) ⊎ (row.then ≡ thens.Put)

-- such a row, of these parts
abbrev replying : List Bool → Option Message → Then → PhaseOut
replying to message next = record { leave = false; save = None; to = to; message = message; then = next }

row_is : (row : PhaseOut) (next : Then) → row.save ≡ None → row.leave ≡ false → row.then ≡ next → row ≡ replying row.to row.message next
row_is row next save leave is = λ i. record { leave = leave i; save = save i; to = row.to; message = row.message; then = is i }

-- the row reports damage to the peer
abbrev IsReport : ℕ → Epoch → PhaseOut → Type 0
IsReport from ballot row = (at : Position) × (row ≡ tells_damage from (messages.Nack ballot (causes.Damaged at)))

-- the row only replies, or it reports damage
abbrev IsResponse : ℕ → Epoch → PhaseOut → Type 0
IsResponse from ballot row = IsReply row ⊎ IsReport from ballot row

-- what holds of each refusal and of the answer holds of the row
refused_or : (P : PhaseOut → Type 0) (fact : Fact) (trusted : Bool) (from : ℕ) (ballot : Epoch) (answer : PhaseOut) → P (refuses_below from ballot fact) → P (silent thens.Stay) → P (refuses from ballot causes.Untrusted) → P answer → P (unless_refused (refusal fact trusted from ballot) answer)
refused_or P fact trusted from ballot answer below other untrusted goes = let Q : Option PhaseOut → Type 0 = λ refused. P (unless_refused refused answer) in
    by_test Q (is_below ballot fact.ballot) _ _
    (λ is. below)
    (λ above. by_test Q (not (is_same fact.epoch ballot)) _ _
    (λ is. other)
    (λ same. by_test Q (not trusted) _ _ (λ is. untrusted) (λ trusts. goes)))

row_20_replies : (fact : Fact) (from : ℕ) (ballot : Epoch) (round : ℕ) → IsReply (row_20 fact from ballot round)
row_20_replies fact from ballot round =
    by_test IsReply (is_below ballot fact.ballot) _ _
    (λ below. record { save = refl; leave = refl; next = inl refl })
    (λ above. by_test IsReply (is_same ballot fact.ballot) _ _ (λ same. record { save = refl; leave = refl; next = inl refl }) (λ other. record { save = refl; leave = refl; next = inl refl }))

-- nothing was seen, or an entry, or damage
abbrev IsSight : Seen → Type 0
IsSight seens.Nothing = Unit {0}
IsSight (seens.Held entry object) = Unit {0}
IsSight (seens.Damaged at) = Unit {0}
IsSight other = ⊥

gets_responds : (from : ℕ) (ballot : Epoch) (round : ℕ) (k : List ℕ) (seen : Seen) → IsSight seen → IsResponse from ballot (gets from ballot round k seen)
gets_responds from ballot round k seens.Nothing sight = inl (record { save = refl; leave = refl; next = inl refl })
gets_responds from ballot round k (seens.Held entry object) sight = inl (record { save = refl; leave = refl; next = inl refl })
gets_responds from ballot round k (seens.Damaged at) sight = inr (at, refl)
gets_responds from ballot round k other sight = absurd sight

row_21_responds : (fact : Fact) (trusted : Bool) (from : ℕ) (ballot : Epoch) (round : ℕ) (k : List ℕ) (seen : Seen) → IsSight seen → IsResponse from ballot (row_21 fact trusted from ballot round k seen)
row_21_responds fact trusted from ballot round k seen sight = refused_or (IsResponse from ballot) fact trusted from ballot (gets from ballot round k seen) (inl (record { save = refl; leave = refl; next = inl refl })) (inl (record { save = refl; leave = refl; next = inl refl })) (inl (record { save = refl; leave = refl; next = inl refl })) (gets_responds from ballot round k seen sight)

acknowledges_replies : (from : ℕ) (ballot : Epoch) (o : Object) → IsReply (acknowledges from ballot o thens.Put)
acknowledges_replies from ballot o = record { save = refl; leave = refl; next = inr refl }

puts_over_replies : (from : ℕ) (ballot : Epoch) (o : Object) (v : Version) → IsReply (puts_over from ballot o v)
puts_over_replies from ballot o v =
    by_test IsReply (same_version v o.version) _ _
    (λ same. record { save = refl; leave = refl; next = inl refl })
    (λ other. by_test IsReply (is_version_below o.version v) _ _ (λ greater. record { save = refl; leave = refl; next = inl refl }) (λ lower. acknowledges_replies from ballot o))

puts_responds : (from : ℕ) (ballot : Epoch) (o : Object) (seen : Seen) → IsSight seen → IsResponse from ballot (puts from ballot o seen)
puts_responds from ballot o seens.Nothing sight = inl (record { save = refl; leave = refl; next = inl refl })
puts_responds from ballot o (seens.Held None object) sight = inl (acknowledges_replies from ballot o)
puts_responds from ballot o (seens.Held (Some e) object) sight = inl (puts_over_replies from ballot o e.version)
puts_responds from ballot o (seens.Damaged at) sight = inr (at, refl)
puts_responds from ballot o other sight = absurd sight

row_22_responds : (fact : Fact) (trusted : Bool) (from : ℕ) (ballot : Epoch) (o : Object) (seen : Seen) → IsSight seen → IsResponse from ballot (row_22 fact trusted from ballot o seen)
row_22_responds fact trusted from ballot o seen sight = refused_or (IsResponse from ballot) fact trusted from ballot (puts from ballot o seen) (inl (record { save = refl; leave = refl; next = inl refl })) (inl (record { save = refl; leave = refl; next = inl refl })) (inl (record { save = refl; leave = refl; next = inl refl })) (puts_responds from ballot o seen sight)

-- a peer that serves a request stands at the epoch that it accepted, and trusts its tree
served_ready : (c : Scene) (x : PeerState) (ballot : Epoch) → IsEpoch x.fact.ballot → IsEpoch x.fact.epoch → epoch_number x.fact.epoch ≤ epoch_number x.fact.ballot → is_served x.fact x.trusted ballot ≡ true → IsReady c x
served_ready c x ballot ballot_fits epoch_fits below served = by_parts (served_parts (is_below ballot x.fact.ballot) (is_same x.fact.epoch ballot) x.trusted served)
  where
    served_parts : (a b t : Bool) → (not a && b && t) ≡ true → (a ≡ false) × (b ≡ true) × (t ≡ true)
    served_parts false true true served = (refl, refl, refl)
    served_parts true b t served = absurd (cc)
    served_parts false false t served = absurd (cc)
    served_parts false true false served = absurd (cc)

    equal : (a b : ℕ) → a ≤ b → b ≤ a → a ≡ b
    equal a b up down = omega (arith, up, down)

    by_parts : (is_below ballot x.fact.ballot ≡ false) × (is_same x.fact.epoch ballot ≡ true) × (x.trusted ≡ true) → IsReady c x
    by_parts parts = let same : x.fact.epoch ≡ ballot = same_epochs x.fact.epoch ballot parts.1 in record {
      stands = equal (epoch_number x.fact.epoch) (epoch_number x.fact.ballot) below (subst (λ (e : Epoch). epoch_number x.fact.ballot ≤ epoch_number e) (sym same) (not_below ballot x.fact.ballot (subst IsEpoch same epoch_fits) ballot_fits parts.0));
      trusts = parts.2;
    }

-- ## Damage

-- a peer that stepped down has stepped down
untrusted_left : (x : PeerState) → untrusted (left true x) ≡ untrusted x
untrusted_left x = ap (λ (phase : Phase). let next : PeerState = record x { trusted = false; phase = without_candidacy phase; sync = None } in next) (stopped_twice x.phase)
  where
    stopped_twice : (phase : Phase) → stopped_leading (stopped_leading phase) ≡ stopped_leading phase
    stopped_twice (phases.Leading l) = refl
    stopped_twice (phases.Following f) = refl
    stopped_twice (phases.Probing b) = refl
    stopped_twice (phases.Electing e) = refl

-- and has no calls
answered_left : (x : PeerState) (out : Out) → left_answers true (left true x) out ≡ out
answered_left x out = ap (λ (answers : List AnswerOut). let next : Out = record out { answers = answers } in next) (ap (λ (more : List AnswerOut). out.answers ++ more) (none_left x.phase) ∙ append-nil out.answers)
  where
    none_left : (phase : Phase) → timeouts (stopped_leading phase) ≡ []
    none_left (phases.Leading l) = refl
    none_left (phases.Following f) = refl
    none_left (phases.Probing b) = refl
    none_left (phases.Electing e) = refl

-- ## Messages that are sent

module _ (c : Scene) where
  open c use {lines, version, view, strings, peer as p}

  -- a message that peer p sends in state s says what holds
  pub record Tells (g : Ghosts) (s : State) (o : Outgoing) : Type 0 where
    pub send : SendHolds s.objects.ledger p o
    pub listed : IsListedMessage lines.voting o.message
    pub fits : SendFits version lines s strings p o
    pub says : (m : Said) → said_of o.message ≡ Some m → SaidHolds g s p m

  -- to any peer a reply says what holds
  reply_tells : (g : Ghosts) (s : State) (message : Message) (q : ℕ) → ReplySays g s strings p message → IsPeer q → Tells g s (record { to = q; message = message })
  reply_tells g s (messages.GetReply ballot round k entry object) q says is_peer = record {
    send = (is_peer, tt);
    listed = tt;
    fits = (says.entry_says, says.fits);
    says = says_one g s p (EntryShown (epoch_number ballot) round k (entry_rank entry) (shown_object entry object)) says.reply;
  }
  reply_tells g s (messages.CheckReply ballot round) q says is_peer = record { send = (is_peer, tt); listed = tt; fits = tt; says = says_one g s p (Stands (epoch_number ballot) round) says }
  reply_tells g s (messages.PutReply ballot k version) q says is_peer = record { send = (is_peer, tt); listed = tt; fits = tt; says = says_one g s p (Acks (rank version)) says }
  reply_tells g s (messages.Nack ballot cause) q says is_peer = record { send = (is_peer, tt); listed = tt; fits = tt; says = says_nothing g s p (messages.Nack ballot cause) refl }
  reply_tells g s other q says is_peer = absurd says

  -- the messages of a row
  pub replies_tell : (g : Ghosts) (s : State) (set : List Bool) (message : Option Message) → MayReply g s strings p message → All (Tells g s) (posted_to set message)
  replies_tell g s set None says = All-nil (Tells g s)
  replies_tell g s set (Some message) says = posted_to_each (Tells g s) set message (λ q is_peer. reply_tells g s message q says is_peer)

  -- the peer sends more messages, which say what holds
  abbrev pub tells_here : {key : List ℕ} {x : PeerState} {h : Held} {out : Out} {notes : List Note} → (here : Here c key x h out notes) → (more : List Outgoing) → All (Tells here.reached.ghosts (now c here.reached)) more → Here c key x h (and_sends out more) notes
  tells_here {key} {x} {h} {out} {notes} here more tell = let s : State = now c here.reached in tells_more c key x h out notes more here
      (All-weaker (Tells here.reached.ghosts s) (SendHolds s.objects.ledger p) (λ (o : Outgoing) t. t.send) more tell)
      (All-weaker (Tells here.reached.ghosts s) (λ (o : Outgoing). IsListedMessage lines.voting o.message) (λ (o : Outgoing) t. t.listed) more tell)
      (All-weaker (Tells here.reached.ghosts s) (SendFits version lines s strings p) (λ (o : Outgoing) t. t.fits) more tell)
      (All-weaker (Tells here.reached.ghosts s) (SendSaysSo here.reached.ghosts s p) (λ (o : Outgoing) t. t.says) more tell)

  -- ## The rules

  -- a row that only replies sends its message, and nothing else
  row_ends : (row : PhaseOut) (x : PeerState) (t : Held) (out : Out) (notes : List Note) (next mark : Rest PeerState (List Task)) → IsReply row
      → Ends c (next [] x (and_sends out (posted_to row.to row.message))) (mark [] x (and_sends out (posted_to row.to row.message))) t notes → Ends c (row_done p row x out next) (row_done p row x out mark) t notes
  row_ends row x t out notes next mark reply go = by_next reply.next
    where
      Runs : PhaseOut → Type 0
      Runs r = Ends c (row_done p r x out next) (row_done p r x out mark) t notes

      by_next : (row.then ≡ thens.Stay) ⊎ (row.then ≡ thens.Put) → Runs row
      by_next (inl is) = subst Runs (sym (row_is row thens.Stay reply.save reply.leave is)) go
      by_next (inr is) = subst Runs (sym (row_is row thens.Put reply.save reply.leave is)) go

  -- a row that asks for no write
  no_write : (from : ℕ) (ballot : Epoch) (o : Object) (row : PhaseOut) (x : PeerState) (t : Held) (out : Out) (notes : List Note) (next mark : Rest PeerState (List Task)) → (row.then ≡ thens.Stay) ⊎ (row.then ≡ thens.Untrust) → Ends c (row_done p row x out next) (row_done p row x out mark) t notes
      → Ends c (put_done row.then p from ballot o row x out next) (put_done row.then p from ballot o row x out mark) t notes
  no_write from ballot o row x t out notes next mark either ends = by_then either
    where
      Runs : Then → Type 0
      Runs turn = Ends c (put_done turn p from ballot o row x out next) (put_done turn p from ballot o row x out mark) t notes

      by_then : (row.then ≡ thens.Stay) ⊎ (row.then ≡ thens.Untrust) → Runs row.then
      by_then (inl is) = subst Runs (sym is) ends
      by_then (inr is) = subst Runs (sym is) ends

  module _ {key : List ℕ} {x : PeerState} {h : Held} {out : Out} {notes : List Note} (here : Here c key x h out notes) (rest : IsAtRest x.phase) (next mark : Rest PeerState (List Task))
      (go : (y : PeerState) (t : Held) (o : Out) → AtRest c key y t o notes → Ends c (next [] y o) (mark [] y o) t notes) where
    -- the peer, in any state at rest, replies what holds
    replied_ends : (y : PeerState) → IsAtRest y.phase → (t : Held) (there : Here c key y t out notes) (row : PhaseOut) → IsReply row → MayReply there.reached.ghosts (now c there.reached) strings p row.message → Ends c (row_done p row y out next) (row_done p row y out mark) t notes
    replied_ends y rests t there row reply says = row_ends row y t out notes next mark reply
        (go y t (and_sends out (posted_to row.to row.message)) (tells_here there (posted_to row.to row.message) (replies_tell there.reached.ghosts (now c there.reached) row.to row.message says), rests))

    -- and whatever was read
    reply_ends : (t : Held) (there : Here c key x t out notes) (row : PhaseOut) → IsReply row → MayReply there.reached.ghosts (now c there.reached) strings p row.message → Ends c (row_done p row x out next) (row_done p row x out mark) t notes
    reply_ends t there row reply says = replied_ends x rest t there row reply says

    -- the peer reports damage, and no longer trusts its tree
    report_ends : (t : Held) (there : Here c key x t out notes) (from : ℕ) (ballot : Epoch) (at : Position)
        → Ends c (row_done p (tells_damage from (messages.Nack ballot (causes.Damaged at))) x out next) (row_done p (tells_damage from (messages.Nack ballot (causes.Damaged at))) x out mark) t notes
    report_ends t there from ballot at = ends_at (sym (untrusted_left x)) (sym (answered_left x told)) (go (untrusted x) t told (tells_here lost.0 more (replies_tell lost.0.reached.ghosts (now c lost.0.reached) (alone from) (Some report) tt), lost.1))
      where
        report : Message
        report = messages.Nack ballot (causes.Damaged at)

        more : List Outgoing
        more = posted_to (alone from) (Some report)

        told : Out
        told = and_sends (left_answers true x out) more

        lost : AtRest c key (untrusted x) t (left_answers true x out) notes
        lost = untrusts c (there, rest)

        ends_at : {y : PeerState} {o : Out} → untrusted x ≡ y → told ≡ o → Ends c (next [] (untrusted x) told) (mark [] (untrusted x) told) t notes → Ends c (next [] y o) (mark [] y o) t notes
        ends_at {y} {o} same alike ends = subst (λ (z : PeerState). Ends c (next [] z o) (mark [] z o) t notes) same (subst (λ (q : Out). Ends c (next [] (untrusted x) q) (mark [] (untrusted x) q) t notes) alike ends)

    -- the peer replies, or reports damage
    response_ends : (t : Held) (there : Here c key x t out notes) (from : ℕ) (ballot : Epoch) (row : PhaseOut) → IsResponse from ballot row → MayReply there.reached.ghosts (now c there.reached) strings p row.message → Ends c (row_done p row x out next) (row_done p row x out mark) t notes
    response_ends t there from ballot row (inl reply) says = reply_ends t there row reply says
    response_ends t there from ballot row (inr (at, is)) says = subst (λ (r : PhaseOut). Ends c (row_done p r x out next) (row_done p r x out mark) t notes) (sym is) (report_ends t there from ballot at)

    -- the peer's saved fact and its trust are those of the protocol
    serves : Serves (now c here.reached) p x.fact x.trusted
    serves = run_serves view here.reached.steps here.reached.run p x.fact x.trusted here.peer.saved.ballot (ap (λ (f : Place). f.epoch) here.peer.saved.place) here.trust here.peer.saved.known.ballot here.peer.saved.known.epoch here.peer.saved.known.below

    ready : (ballot : Epoch) → is_served x.fact x.trusted ballot ≡ true → IsReady c x
    ready ballot served = served_ready c x ballot here.peer.saved.known.ballot here.peer.saved.known.epoch here.peer.saved.known.below served

    -- rule 20, Check
    pub check_good : (from : ℕ) (ballot : Epoch) (round : ℕ) → MessageComes c from (messages.Check ballot round) (now c here.reached) → Ends c (delivered p from (messages.Check ballot round) x out next) (delivered p from (messages.Check ballot round) x out mark) h notes
    check_good from ballot round comes =
        let says : CheckSays here.reached.ghosts (epoch_number ballot) round = says_here c here from (Checks (epoch_number ballot) round) (comes.said (Checks (epoch_number ballot) round) refl) in
        reply_ends h here (row_20 x.fact from ballot round) (row_20_replies x.fact from ballot round) (run_checks view here.reached.steps here.reached.run here.reached.ghosts strings p x.fact x.trusted from ballot round here.roles.turns serves says).says

    -- ## Rule 21

    -- after the stores were asked
    got_row : (from : ℕ) (ballot : Epoch) (round : ℕ) (k : List ℕ) (seen : Seen) (t : Held) → Over c here t → IsSight seen → SeenSays here.reached.ghosts (now c here.reached) strings p k seen → MessageComes c from (messages.Get ballot round k) (now c here.reached)
        → Ends c (row_done p (row_21 x.fact x.trusted from ballot round k seen) x out next) (row_done p (row_21 x.fact x.trusted from ballot round k seen) x out mark) t notes
    got_row from ballot round k seen t over sight sees comes =
        let says : GetSays here.reached.ghosts (now c here.reached) (epoch_number ballot) round k = says_here c here from (Reads (epoch_number ballot) round k) (comes.said (Reads (epoch_number ballot) round k) refl) in
        response_ends t (over_here c here t over) from ballot (row_21 x.fact x.trusted from ballot round k seen) (row_21_responds x.fact x.trusted from ballot round k seen sight)
        (run_gets view here.reached.steps here.reached.run here.reached.ghosts strings p x.fact x.trusted from ballot round k seen here.roles.turns serves says sees).says

    -- Get
    pub got_good : (from : ℕ) (ballot : Epoch) (round : ℕ) (k : List ℕ) → MessageComes c from (messages.Get ballot round k) (now c here.reached) → Ends c (delivered p from (messages.Get ballot round k) x out next) (delivered p from (messages.Get ballot round k) x out mark) h notes
    got_good from ballot round k comes = by_served (is_served x.fact x.trusted ballot) refl
      where
        replied : Rest PeerState (List Task) → Rest PeerState Seen
        replied after seen y o = row_done p (row_21 y.fact y.trusted from ballot round k seen) y o after

        by_served : (served : Bool) → is_served x.fact x.trusted ballot ≡ served → Ends c (shown served (looked k) x out (replied next)) (shown served (looked k) x out (replied mark)) h notes
        by_served true is = looked_ends c here k (replied next) (replied mark) (ready ballot is).trusts
            (λ entry object t over sees. got_row from ballot round k (seens.Held entry object) t over tt sees.shows comes) (λ at t over. got_row from ballot round k (seens.Damaged at) t over tt tt comes)
        by_served false is = got_row from ballot round k seens.Nothing h (nothing_read c here) tt tt comes

    -- ## Rule 22

    -- what holds when a put comes
    record PutComes (from : ℕ) (ballot : Epoch) (o : Object) : Type 0 where
      says : PutSays (now c here.reached) (epoch_number ballot) o.key (rank o.version) (content_of o)
      obeys : IsObject o

    put_comes : (from : ℕ) (ballot : Epoch) (o : Object) → MessageComes c from (messages.Put ballot o) (now c here.reached) → PutComes from ballot o
    put_comes from ballot o comes = record { says = says_here c here from (Puts (epoch_number ballot) o.key (rank o.version) (content_of o)) (comes.said (Puts (epoch_number ballot) o.key (rank o.version) (content_of o)) refl); obeys = comes.fits }

    -- nothing is acknowledged
    ignored_ends : (from : ℕ) (ballot : Epoch) (o : Object) (row : PhaseOut) (t : Held) → Over c here t → IsResponse from ballot row → Replies here.reached.ghosts (now c here.reached) strings p row
        → Ends c (put_done row.then p from ballot o row x out next) (put_done row.then p from ballot o row x out mark) t notes
    ignored_ends from ballot o row t over response replies = no_write from ballot o row x t out notes next mark replies.next (response_ends t (over_here c here t over) from ballot row response replies.says)

    -- the version is there, and is acknowledged
    there_ends : (from : ℕ) (ballot : Epoch) (o : Object) (row : PhaseOut) (t : Held) → Over c here t → x.trusted ≡ true → HasVersion here.reached.ghosts (now c here.reached) strings p from ballot o row
        → Ends c (put_done row.then p from ballot o row x out next) (put_done row.then p from ballot o row x out mark) t notes
    there_ends from ballot o row t over trusts has = no_write from ballot o row x t out notes next mark (inl (ap (λ (r : PhaseOut). r.then) has.is)) (reply_ends t acknowledged row (subst IsReply (sym has.is) (record { save = refl; leave = refl; next = inl refl })) has.says)
      where
        acknowledged : Here c key x t out notes
        acknowledged = acknowledge_here c (over_here c here t over) (rank o.version) trusts has.may.0 (rest_task (happens (now c here.reached) (Acknowledge p (rank o.version))) key x.phase rest)

    -- the request is not served
    unserved_ends : (from : ℕ) (ballot : Epoch) (o : Object) → Ends c (put_done (row_22 x.fact x.trusted from ballot o seens.Nothing).then p from ballot o (row_22 x.fact x.trusted from ballot o seens.Nothing) x out next) (put_done (row_22 x.fact x.trusted from ballot o seens.Nothing).then p from ballot o (row_22 x.fact x.trusted from ballot o seens.Nothing) x out mark) h notes
    unserved_ends from ballot o = refused_or (λ (row : PhaseOut). Ends c (put_done row.then p from ballot o row x out next) (put_done row.then p from ballot o row x out mark) h notes) x.fact x.trusted from ballot (silent thens.Stay)
        (reply_ends h here (refuses_below from ballot x.fact) (record { save = refl; leave = refl; next = inl refl }) tt)
        (reply_ends h here (silent thens.Stay) (record { save = refl; leave = refl; next = inl refl }) tt)
        (reply_ends h here (refuses from ballot causes.Untrusted) (record { save = refl; leave = refl; next = inl refl }) tt)
        (reply_ends h here (silent thens.Stay) (record { save = refl; leave = refl; next = inl refl }) tt)

    module _ (few : (view : List ℕ) (steps : List Step) → IsRun view steps → KeysAreBelow (state_after view steps)) (from : ℕ) (ballot : Epoch) (o : Object) where
      -- the version goes in, and is acknowledged
      write_ends : (row : PhaseOut) (t : Held) → Over c here t → IsReady c x → PutComes from ballot o → TakesVersion here.reached.ghosts (now c here.reached) strings p here.tree.last.map from ballot o row
          → Ends c (put_done row.then p from ballot o row x out next) (put_done row.then p from ballot o row x out mark) t notes
      write_ends row t over able comes takes = subst (λ (turn : Then). Ends c (put_done turn p from ballot o row x out next) (put_done turn p from ballot o row x out mark) t notes) (sym (ap (λ (r : PhaseOut). r.then) takes.is))
          (written_ends c there few o (epoch_number ballot) store (replied next) (replied mark) (λ seal u stored. replied_ends (record x { seal = seal }) rest u (acknowledged seal u stored) row (subst IsReply (sym takes.is) (acknowledges_replies from ballot o)) takes.says)
          (λ at u damaged. report_ends u (over_here c there u damaged) from ballot at))
        where
          replied : Rest PeerState (List Task) → Rest PeerState Seen
          replied after seen y q = row_done p (after_put from ballot row seen) y q after

          there : Here c key x t out notes
          there = over_here c here t over

          store : MayStore c there o (epoch_number ballot)
          store = record { ready = able; may = takes.may.0; says = comes.says; obeys = comes.obeys }

          written : (seal : Option (List ℕ)) (u : Held) → Stored c there o seal u → Here c key (record x { seal = seal }) u out notes
          written seal u stored = write_here c there o (epoch_number ballot) store seal u stored (rest_task (happens (now c here.reached) (Write p (rank o.version))) key x.phase rest)

          acknowledged : (seal : Option (List ℕ)) (u : Held) → Stored c there o seal u → Here c key (record x { seal = seal }) u out notes
          acknowledged seal u stored = acknowledge_here c (written seal u stored) (rank o.version) able.trusts takes.may.1.0
              (rest_task (happens (happens (now c here.reached) (Write p (rank o.version))) (Acknowledge p (rank o.version))) key x.phase rest)

      -- after the tree was asked
      put_row : (seen : Seen) (t : Held) → Over c here t → IsReady c x → IsSight seen → FindSees here.tree.last.map o.key seen → PutComes from ballot o
          → Ends c (put_done (row_22 x.fact x.trusted from ballot o seen).then p from ballot o (row_22 x.fact x.trusted from ballot o seen) x out next) (put_done (row_22 x.fact x.trusted from ballot o seen).then p from ballot o (row_22 x.fact x.trusted from ballot o seen) x out mark) t notes
      put_row seen t over able sight found comes =
          by_end (run_puts view here.reached.steps here.reached.run here.reached.ghosts strings p here.tree.last.map x.fact x.trusted from ballot o seen serves (shown_map c here) comes.says comes.obeys found)
        where
          row : PhaseOut
          row = row_22 x.fact x.trusted from ballot o seen

          by_end : IsReplyToPut here.reached.ghosts (now c here.reached) strings p here.tree.last.map from ballot o row → Ends c (put_done row.then p from ballot o row x out next) (put_done row.then p from ballot o row x out mark) t notes
          by_end (inl replies) = ignored_ends from ballot o row t over (row_22_responds x.fact x.trusted from ballot o seen sight) replies
          by_end (inr (inl has)) = there_ends from ballot o row t over able.trusts has
          by_end (inr (inr takes)) = write_ends row t over able comes takes

      -- Put
      pub put_in_good : MessageComes c from (messages.Put ballot o) (now c here.reached) → Ends c (delivered p from (messages.Put ballot o) x out next) (delivered p from (messages.Put ballot o) x out mark) h notes
      put_in_good comes = by_served (is_served x.fact x.trusted ballot) refl
        where
          replied : Rest PeerState (List Task) → Rest PeerState Seen
          replied after seen y q = put_done (row_22 y.fact y.trusted from ballot o seen).then p from ballot o (row_22 y.fact y.trusted from ballot o seen) y q after

          by_served : (served : Bool) → is_served x.fact x.trusted ballot ≡ served → Ends c (shown served (found o.key) x out (replied next)) (shown served (found o.key) x out (replied mark)) h notes
          by_served true is = found_ends c here o.key (replied next) (replied mark) (λ t over. put_row (seens.Held (lookup o.key here.tree.last.map) None) t over (ready ballot is) tt refl (put_comes from ballot o comes))
              (λ at t over. put_row (seens.Damaged at) t over (ready ballot is) tt tt (put_comes from ballot o comes))
          by_served false is = unserved_ends from ballot o
