-- What is preserved from one state of a run to each later one, and what a step may add.
use Rattle.std.specs.Prelude.{◌≡◌, ℕ, ◌<◌, ◌≤◌, true, false, ◌⊎◌, Some}
use Rattle.protocol_laws.specs.Objects.{epoch_of}
use Rattle.protocol_laws.specs.Book.{register_at, IsOpenCall}
use Rattle.protocol_laws.specs.Protocol.{State}
use Rattle.protocol_laws.specs.Versions.{IsDead, VersionsStay}

-- what is preserved: what versions preserve; the events of elections, proposals and settlements; the
-- object and the call of a version; calls, noted reads and answers
pub record EntriesStay (s next : State) : Type 0 where
  pub versions : VersionsStay s.objects next.objects
  pub now : s.book.now ≤ next.book.now
  pub elected_at : (d : ℕ) → s.objects.ledger.elected d ≡ true → next.book.elected_at d ≡ s.book.elected_at d
  pub proposed_at : (v : ℕ) → s.objects.proposed v ≡ true → next.book.proposed_at v ≡ s.book.proposed_at v
  pub settled_at : (v : ℕ) → s.objects.settled v ≡ true → next.book.settled_at v ≡ s.book.settled_at v
  pub call : (v : ℕ) → s.objects.proposed v ≡ true → next.book.call v ≡ s.book.call v
  pub stamp : (v : ℕ) → s.objects.proposed v ≡ true → next.book.stamp v ≡ s.book.stamp v
  pub content : (v : ℕ) → s.objects.proposed v ≡ true → next.book.content v ≡ s.book.content v
  pub register : (v : ℕ) → (v ≡ 0) ⊎ (s.objects.proposed v ≡ true) → register_at next.book v ≡ register_at s.book v
  pub called : (i : ℕ) → s.book.called i ≡ true → next.book.called i ≡ true
  pub asked : (i : ℕ) → s.book.called i ≡ true → next.book.asked i ≡ s.book.asked i
  pub stood : (i q : ℕ) → s.book.called i ≡ true → next.book.stood i q ≡ s.book.stood i q
  pub noted : (i : ℕ) → s.book.noted i ≡ true → next.book.noted i ≡ true
  pub seen : (i : ℕ) → s.book.noted i ≡ true → next.book.seen i ≡ s.book.seen i
  pub answered : (i : ℕ) → s.book.answered i ≡ true → next.book.answered i ≡ true
  pub answer : (i : ℕ) → s.book.answered i ≡ true → next.book.answer i ≡ s.book.answer i

-- a state and the one after a step: what is preserved; what is new carries the current event; a new
-- version is dead if a greater epoch is elected; and a call is open until it is written or its read
-- is noted
pub record Later (s next : State) : Type 0 where
  pub stay : EntriesStay s next
  pub new_epoch : (d : ℕ) → next.objects.ledger.elected d ≡ true → s.objects.ledger.elected d ≡ false → s.book.now ≤ next.book.elected_at d
  pub new_version : (v : ℕ) → next.objects.proposed v ≡ true → s.objects.proposed v ≡ false → s.book.now ≤ next.book.proposed_at v
  pub new_dead : (v e : ℕ) → next.objects.proposed v ≡ true → s.objects.proposed v ≡ false → s.objects.ledger.elected e ≡ true → epoch_of v < e → IsDead next.objects v
  pub new_write : (v i : ℕ) → next.objects.proposed v ≡ true → s.objects.proposed v ≡ false → next.book.call v ≡ Some i → IsOpenCall s.objects s.book i
  pub new_note : (i : ℕ) → next.book.noted i ≡ true → s.book.noted i ≡ false → IsOpenCall s.objects s.book i
