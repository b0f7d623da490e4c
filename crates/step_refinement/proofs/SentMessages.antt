-- What the messages of a peer say: if each of them says what holds, then all that was said holds after they are sent.
use Rattle.std.proofs.Common.{◌≡◌, ◌⊎◌, inl, inr, ℕ, zero, suc, ◌+◌, ◌≤◌, Bool, if◌then◌else◌, List, [], ◌∷◌, ◌++◌, Option, Some, None, arith, refl, sym, subst}
use Rattle.ens_base.proofs.Lists.{in_append, in_left, in_right}
use Rattle.std.specs.Prelude.{All}
use Rattle.std.proofs.lemmas.Option.{same_Some}
use Rattle.std.proofs.lemmas.List.Elements.{All-nil, All-cons, All-append, All-head, All-tail}
use Rattle.ens_base.specs.Lists.{◌∈◌}
use Rattle.ens_base.specs.PeerSet.{holds}
use Rattle.ens_base.specs.View.{IsPeer}
use Rattle.protocol_laws.specs.Ledger.{put}
use Rattle.protocol_laws.specs.Protocol.{State}
use Rattle.election_refinement.proofs.Tests.{by_test}
use Rattle.election_refinement.specs.Listed.{IsListedMessage}
use Rattle.election_refinement.specs.Refinement.{SendHolds}
use Rattle.peer_refinement.specs.WorldSpec.{Held}
use Rattle.role_laws.specs.Roles.{Role, Said, Sent, SaidHolds, RolesHold}
use Rattle.role_laws.specs.Tables.{Ghosts}
use Rattle.leader_refinement.specs.Seen.{owed_after}
use Rattle.leader_output.specs.Sends.{is_other}
use Rattle.leader_output.specs.declared.out.Outgoing.{Outgoing}
use Rattle.leader.specs.Ticks.{Finishing, tick_message, ticks_up_to}
use Rattle.leader.specs.declared.leader.Leader.{Leader}
use Rattle.peer_spec.specs.Syncs.{and_sends}
use Rattle.peer_state.specs.declared.state.State.{State as PeerState}
use Rattle.stored_formats.specs.declared.fact.Fact.{Fact}
use Rattle.register_model.specs.declared.note.Note.{Note}
use Rattle.step_plans.specs.Plans.{Out}
use Rattle.step_plans.specs.Sends.{posted, posted_to}
use Rattle.wire_frames.specs.declared.message.Message.{Message}
use Rattle.step_refinement.specs.Scenes.{Scene, now, Here}
use Rattle.step_refinement.specs.Peers.{SendFits}
use Rattle.step_refinement.specs.Roles.{role_in, said_of, said_by, said_in_sends}

-- ## Messages to several peers

-- what holds of each message that may be posted holds of all that are
posted_each : (P : Outgoing → Type 0) (test : ℕ → Bool) (word : ℕ → Message) → ((q : ℕ) → IsPeer q → P (record { to = q; message = word q })) → (n : ℕ) → n ≤ 31 → All P (posted test word n)
unfolding posted
posted_each P test word each zero within = All-nil P
posted_each P test word each (suc n) within = All-append P (posted test word n) (if test (n + 1) then sent ∷ [] else []) (posted_each P test word each n (omega arith))
    (by_test (All P) (test (n + 1)) (sent ∷ []) [] (λ is. All-cons P sent [] (each (n + 1) (omega arith, omega arith)) (All-nil P)) (λ not. All-nil P))
  where
    sent : Outgoing
    sent = record { to = n + 1; message = word (n + 1) }

-- what holds of one message to each peer holds of those that are posted
pub posted_to_each : (P : Outgoing → Type 0) (set : List Bool) (message : Message) → ((q : ℕ) → IsPeer q → P (record { to = q; message = message })) → All P (posted_to set (Some message))
posted_to_each P set message each = posted_each P (holds set) (λ q. message) each 31 (omega arith)

-- the same of the messages of a tick
pub ticks_each : (P : Outgoing → Type 0) (finishing : Finishing) (fact : Fact) (l : Leader) → ((q : ℕ) → IsPeer q → P (record { to = q; message = tick_message finishing fact l q })) → (n : ℕ) → n ≤ 31 → All P (ticks_up_to finishing fact l n)
unfolding ticks_up_to
ticks_each P finishing fact l each zero within = All-nil P
ticks_each P finishing fact l each (suc n) within =
    All-append P (ticks_up_to finishing fact l n) (if is_other l.me l.fact.views (n + 1) then sent ∷ [] else []) (ticks_each P finishing fact l each n (omega arith))
    (by_test (All P) (is_other l.me l.fact.views (n + 1)) (sent ∷ []) [] (λ is. All-cons P sent [] (each (n + 1) (omega arith, omega arith)) (All-nil P)) (λ not. All-nil P))
  where
    sent : Outgoing
    sent = record { to = n + 1; message = tick_message finishing fact l (n + 1) }

-- ## What is said

-- what the message says, if anything, holds
abbrev pub SaysSo : Ghosts → State → ℕ → Message → Type 0
SaysSo g s p message = (m : Said) → said_of message ≡ Some m → SaidHolds g s p m

-- what an outgoing message says, if anything, holds
abbrev pub SendSaysSo : Ghosts → State → ℕ → Outgoing → Type 0
SendSaysSo g s p o = SaysSo g s p o.message

-- a message of no call says nothing
pub says_nothing : (g : Ghosts) (s : State) (p : ℕ) (message : Message) → said_of message ≡ None → SaysSo g s p message
says_nothing g s p message none m some = absurd (none_some (sym none) some)
  where
    none_some : {y : Option Said} → None ≡ y → y ≡ Some m → ⊥
    none_some a b = cc

-- a message says one thing
pub says_one : (g : Ghosts) (s : State) (p : ℕ) (said : Said) → SaidHolds g s p said → (m : Said) → Some said ≡ Some m → SaidHolds g s p m
says_one g s p said holds m is = subst (SaidHolds g s p) (same_Some said m is) holds

-- one more message
by_said : (P : Sent → Type 0) (p : ℕ) (said : Option Said) (rest : List Sent) → ((m : Said) → said ≡ Some m → P (record { from = p; said = m })) → ((x : Sent) → x ∈ rest → P x) → (x : Sent) → x ∈ said_by p said rest → P x
by_said P p None rest here later x at = later x at
by_said P p (Some m) rest here later x (inl same) = subst P (sym same) (here m refl)
by_said P p (Some m) rest here later x (inr at) = later x at

all_said : (P : Sent → Type 0) (p : ℕ) (sends : List Outgoing) → All (λ (o : Outgoing). (m : Said) → said_of o.message ≡ Some m → P (record { from = p; said = m })) sends → (x : Sent) → x ∈ said_in_sends p sends → P x
all_said P p [] all x at = absurd at
all_said P p (o ∷ sends) all x at =
    by_said P p (said_of o.message) (said_in_sends p sends) (All-head (λ (o : Outgoing). (m : Said) → said_of o.message ≡ Some m → P (record { from = p; said = m })) o sends all)
    (all_said P p sends (All-tail (λ (o : Outgoing). (m : Said) → said_of o.message ≡ Some m → P (record { from = p; said = m })) o sends all)) x at

-- what some messages say, and what more of them say
said_apart : (p : ℕ) (sends more : List Outgoing) (x : Sent) → x ∈ said_in_sends p (sends ++ more) → (x ∈ said_in_sends p sends) ⊎ (x ∈ said_in_sends p more)
said_apart p [] more x at = inr at
said_apart p (o ∷ sends) more x at = by_first (said_of o.message) at (said_apart p sends more x)
  where
    by_first : (said : Option Said) → x ∈ said_by p said (said_in_sends p (sends ++ more)) → (x ∈ said_in_sends p (sends ++ more) → (x ∈ said_in_sends p sends) ⊎ (x ∈ said_in_sends p more)) → (x ∈ said_by p said (said_in_sends p sends)) ⊎ (x ∈ said_in_sends p more)
    by_first None at later = later at
    by_first (Some m) (inl same) later = inl (inl same)
    by_first (Some m) (inr at) later = deeper (later at)
      where
        deeper : (x ∈ said_in_sends p sends) ⊎ (x ∈ said_in_sends p more) → (x ∈ said_by p (Some m) (said_in_sends p sends)) ⊎ (x ∈ said_in_sends p more)
        deeper (inl first) = inl (inr first)
        deeper (inr second) = inr second

-- what messages say that say what holds
pub sends_say : (g : Ghosts) (s : State) (p : ℕ) (sends : List Outgoing) → All (SendSaysSo g s p) sends → (x : Sent) → x ∈ said_in_sends p sends → SaidHolds g s x.from x.said
sends_say g s p sends = all_said (λ (x : Sent). SaidHolds g s x.from x.said) p sends

-- the peer says more
pub says_more : (g : Ghosts) (s : State) (roles : ℕ → Role) (p : ℕ) (said : List Sent) (sends more : List Outgoing) → ((x : Sent) → x ∈ said_in_sends p more → SaidHolds g s x.from x.said) → RolesHold g s roles (said_in_sends p sends ++ said)
    → RolesHold g s roles (said_in_sends p (sends ++ more) ++ said)
says_more g s roles p said sends more new hold = record {
  turns = hold.turns;
  roles_hold = hold.roles_hold;
  sent_hold = λ x at. by_place x (in_append (said_in_sends p (sends ++ more)) said x at);
}
  where
    by_sends : (x : Sent) → (x ∈ said_in_sends p sends) ⊎ (x ∈ said_in_sends p more) → SaidHolds g s x.from x.said
    by_sends x (inl at) = hold.sent_hold x (in_left (said_in_sends p sends) said x at)
    by_sends x (inr at) = new x at

    by_place : (x : Sent) → (x ∈ said_in_sends p (sends ++ more)) ⊎ (x ∈ said) → SaidHolds g s x.from x.said
    by_place x (inl at) = by_sends x (said_apart p sends more x at)
    by_place x (inr at) = hold.sent_hold x (in_right (said_in_sends p sends) said x at)

-- what a message said that comes in a step holds
pub says_here : (c : Scene) {key : List ℕ} {x : PeerState} {h : Held} {out : Out} {notes : List Note} (here : Here c key x h out notes) (from : ℕ) (m : Said) → record { from = from; said = m } ∈ c.said → SaidHolds here.reached.ghosts (now c here.reached) from m
says_here c {out = out} here from m at = here.roles.sent_hold (record { from = from; said = m }) (in_right (said_in_sends c.peer out.sends) c.said (record { from = from; said = m }) at)

-- more messages are sent in a step
abbrev pub tells_more : (c : Scene) (key : List ℕ) (x : PeerState) (h : Held) (out : Out) (notes : List Note) (more : List Outgoing) → (here : Here c key x h out notes)
    → All (SendHolds (now c here.reached).objects.ledger c.peer) more → All (λ (o : Outgoing). IsListedMessage c.lines.voting o.message) more → All (SendFits c.version c.lines (now c here.reached) c.strings c.peer) more → All (SendSaysSo here.reached.ghosts (now c here.reached) c.peer) more
    → Here c key x h (and_sends out more) notes
tells_more c key x h out notes more here hold listed fit say = record {
  reached = here.reached;
  roles = says_more here.reached.ghosts (now c here.reached) (put c.roles c.peer (role_in key x.phase (owed_after [] out.answers))) c.peer c.said out.sends more (sends_say here.reached.ghosts (now c here.reached) c.peer more say) here.roles;
  peer = here.peer;
  listed = here.listed;
  trust = here.trust;
  tree = here.tree;
  seal = here.seal;
  mode = here.mode;
  held = here.held;
  sync = here.sync;
  fits = here.fits;
  task = here.task;
  noted = here.noted;
  sends = All-append (SendHolds (now c here.reached).objects.ledger c.peer) out.sends more here.sends hold;
  listed_sends = All-append (λ (o : Outgoing). IsListedMessage c.lines.voting o.message) out.sends more here.listed_sends listed;
  fits_sends = All-append (SendFits c.version c.lines (now c here.reached) c.strings c.peer) out.sends more here.fits_sends fit;
}
