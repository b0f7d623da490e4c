-- The laws of calls, writes, reads and answers in each state of a run.
use Rattle.std.specs.Prelude.{◌≡◌, ℕ, ◌<◌, ◌≤◌, Bool, true, nat_lt, ◌⊎◌, None, Some}
use Rattle.ens_base.specs.declared.reply.Reply.{Reply}
use Rattle.register_model.specs.declared.answer.Answer.{Answer}
use Rattle.register_model.specs.Registers.{outcome, Keeps, Writes}
use Rattle.register_model.specs.Histories.{IsDone, IsRefused}
use Rattle.quorums.specs.Quorums.{is_quorum}
use Rattle.protocol_laws.specs.Ledger.{is_established}
use Rattle.protocol_laws.specs.Objects.{epoch_of}
use Rattle.protocol_laws.specs.Book.{Book, Seen, version_of, register_at, stood_below, Wrote}
use Rattle.protocol_laws.specs.Elections.{IsOpen}
use Rattle.protocol_laws.specs.Versions.{IsDead}
use Rattle.protocol_laws.specs.Protocol.{State}

-- a call has its own id, came at an event so far, and no ballot has fallen since
pub record CallKeeps (s : State) (i : ℕ) : Type 0 where
  pub own_id : (s.book.asked i).id ≡ i
  pub event : (s.book.asked i).event ≤ s.book.now
  pub stood : (q : ℕ) → s.book.stood i q ≤ s.objects.ledger.ballot q

-- a version that is the write of a call: its object has its own version as stamp, and the content
-- that the command writes on the register of its parent
pub record WriteKeeps (s : State) (v i : ℕ) : Type 0 where
  pub called : s.book.called i ≡ true
  pub on_key : (s.book.asked i).key ≡ s.objects.key v
  pub after : (s.book.asked i).event ≤ s.book.proposed_at v
  pub own_stamp : s.book.stamp v ≡ version_of v
  pub applies : outcome (s.book.asked i).command (register_at s.book (s.objects.parent v)) ≡ Writes (s.book.content v)

-- a rewrite: its object has the stamp and the content of its parent
pub record RewriteKeeps (s : State) (v : ℕ) : Type 0 where
  pub some : 0 < s.objects.parent v
  pub same_stamp : s.book.stamp v ≡ s.book.stamp (s.objects.parent v)
  pub same_content : s.book.content v ≡ s.book.content (s.objects.parent v)

-- a proposed version: it was proposed after the election of its epoch and after its parent, for a
-- call or as a rewrite
pub record ProposalKeeps (s : State) (v : ℕ) : Type 0 where
  pub elected : s.book.elected_at (epoch_of v) ≤ s.book.proposed_at v
  pub now : s.book.proposed_at v ≤ s.book.now
  pub after_parent : s.objects.proposed (s.objects.parent v) ≡ true → s.book.proposed_at (s.objects.parent v) ≤ s.book.proposed_at v
  pub write : (i : ℕ) → s.book.call v ≡ Some i → WriteKeeps s v i
  pub rewrite : s.book.call v ≡ None → RewriteKeeps s v

-- a settled version was settled after it was proposed
pub record SettledKeeps (s : State) (v : ℕ) : Type 0 where
  pub after : s.book.proposed_at v ≤ s.book.settled_at v
  pub now : s.book.settled_at v ≤ s.book.now

-- a call has at most one write, and none if a read of it was noted
pub record CallsAreOnce (s : State) : Type 0 where
  pub once : (v w i : ℕ) → Wrote s.objects s.book i v → Wrote s.objects s.book i w → v ≡ w
  pub apart : (v i : ℕ) → Wrote s.objects s.book i v → s.book.noted i ≡ true → ⊥

-- a noted read without a base: no version of the key was proposed in the epoch before the note, and
-- each version of a lower epoch is dead
pub record SawNothing (s : State) (n : Seen) : Type 0 where
  pub none : n.base ≡ 0
  pub untouched : (v : ℕ) → s.objects.proposed v ≡ true → s.objects.key v ≡ n.key → epoch_of v ≡ n.epoch → n.event ≤ s.book.proposed_at v
  pub dead : (v : ℕ) → s.objects.proposed v ≡ true → s.objects.key v ≡ n.key → epoch_of v < n.epoch → IsDead s.objects v

-- a noted read with a base: the greatest version of the key that was proposed in the epoch before
-- the note, settled by then
pub record SawNewest (s : State) (n : Seen) : Type 0 where
  pub proposed : s.objects.proposed n.base ≡ true
  pub key : s.objects.key n.base ≡ n.key
  pub epoch : epoch_of n.base ≡ n.epoch
  pub settled : s.objects.settled n.base ≡ true
  pub before : s.book.settled_at n.base ≤ n.event
  pub greatest : (v : ℕ) → s.objects.proposed v ≡ true → s.objects.key v ≡ n.key → epoch_of v ≡ n.epoch → s.book.proposed_at v < n.event → v ≤ n.base

-- a noted read of a call, in an established epoch that was elected before the call; when the call
-- came, a quorum's ballots were at that epoch or below
pub record ReadKeeps (s : State) (i : ℕ) (n : Seen) : Type 0 where
  pub called : s.book.called i ≡ true
  pub on_key : (s.book.asked i).key ≡ n.key
  pub after : (s.book.asked i).event ≤ n.event
  pub now : n.event ≤ s.book.now
  pub elected : s.objects.ledger.elected n.epoch ≡ true
  pub before : s.book.elected_at n.epoch < (s.book.asked i).event
  pub established : is_established s.objects.ledger n.epoch ≡ true
  pub quorum : is_quorum (stood_below s.book i n.epoch) (s.objects.ledger.views n.epoch) ≡ true
  pub base : SawNothing s n ⊎ SawNewest s n
  pub reply : Reply
  pub keeps : outcome (s.book.asked i).command (register_at s.book n.base) ≡ Keeps reply

-- a completed answer that comes from a write, settled at the event of the answer or before
pub record IsByWrite (s : State) (i : ℕ) (a : Answer) : Type 0 where
  pub version : ℕ
  pub proposed : s.objects.proposed version ≡ true
  pub call : s.book.call version ≡ Some i
  pub settled : s.objects.settled version ≡ true
  pub in_time : s.book.settled_at version ≤ a.event
  pub reply : a.reply ≡ Reply.Ok (version_of version)

-- a completed answer that comes from a read, noted at the event of the answer or before
pub record IsByRead (s : State) (i : ℕ) (n : Seen) (a : Answer) : Type 0 where
  pub noted : s.book.noted i ≡ true
  pub in_time : n.event ≤ a.event
  pub keeps : outcome (s.book.asked i).command (register_at s.book n.base) ≡ Keeps a.reply

-- an answer: a completed one comes from a settled write or a noted read, and a refused call has
-- neither
pub record AnswerKeeps (s : State) (i : ℕ) (a : Answer) : Type 0 where
  pub called : s.book.called i ≡ true
  pub own_id : a.id ≡ i
  pub now : a.event ≤ s.book.now
  pub done : IsDone a.reply → IsByWrite s i a ⊎ IsByRead s i (s.book.seen i) a
  pub not_written : IsRefused a.reply → (v : ℕ) → Wrote s.objects s.book i v → ⊥
  pub not_noted : IsRefused a.reply → s.book.noted i ≡ true → ⊥

-- whether the peer's ballot was above the epoch when the call came
abbrev pub stood_above : Book → ℕ → ℕ → ℕ → Bool
stood_above b i d q = nat_lt d (b.stood i q)

-- of two epochs elected before a call, the lower one had been left by a quorum when the call came,
-- or is closed
abbrev pub PastKeeps : State → ℕ → Type 0
PastKeeps s i = (d e : ℕ) → s.objects.ledger.elected d ≡ true → s.objects.ledger.elected e ≡ true → d < e → s.book.elected_at d < (s.book.asked i).event → s.book.elected_at e < (s.book.asked i).event →
    IsOpen s.objects.ledger d → is_quorum (stood_above s.book i d) (s.objects.ledger.views d) ≡ true

-- the laws of the entries of the book
pub record EntriesAreSafe (s : State) : Type 0 where
  pub calls : (i : ℕ) → s.book.called i ≡ true → CallKeeps s i
  pub elected : (d : ℕ) → s.objects.ledger.elected d ≡ true → s.book.elected_at d ≤ s.book.now
  pub proposals : (v : ℕ) → s.objects.proposed v ≡ true → ProposalKeeps s v
  pub settled : (v : ℕ) → s.objects.settled v ≡ true → SettledKeeps s v
  pub once : CallsAreOnce s
  pub reads : (i : ℕ) → s.book.noted i ≡ true → ReadKeeps s i (s.book.seen i)
  pub answers : (i : ℕ) → s.book.answered i ≡ true → AnswerKeeps s i (s.book.answer i)
  pub past : (i : ℕ) → s.book.called i ≡ true → PastKeeps s i
