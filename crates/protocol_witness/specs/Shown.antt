-- What a run must show, so that no premise of the laws is empty.
use Rattle.std.specs.Prelude.{◌≡◌, ℕ, true, [], ◌∷◌, None, Some}
use Rattle.ens_base.specs.declared.reply.Reply.TheVariants as Reply
use Rattle.register_model.specs.Orders.{order}
use Rattle.protocol_laws.specs.Ledger.{is_established}
use Rattle.protocol_laws.specs.Book.{version_of}
use Rattle.protocol_laws.specs.Protocol.{State}
use Rattle.protocol_laws.specs.Versions.{IsDead}

-- a call was completed by a settled write
pub record ShowsWrite (s : State) : Type 0 where
  pub call : ℕ
  pub version : ℕ
  pub settled : s.objects.settled version ≡ true
  pub write : s.book.call version ≡ Some call
  pub answered : s.book.answered call ≡ true
  pub reply : (s.book.answer call).reply ≡ Reply.Ok (version_of version)

-- a call was completed by a read of a settled rewrite
pub record ShowsRewrite (s : State) : Type 0 where
  pub call : ℕ
  pub version : ℕ
  pub settled : s.objects.settled version ≡ true
  pub rewrite : s.book.call version ≡ None
  pub noted : s.book.noted call ≡ true
  pub base : (s.book.seen call).base ≡ version
  pub answered : s.book.answered call ≡ true

-- a dead version is the parent of a settled one
pub record ShowsReturn (s : State) : Type 0 where
  pub lost : ℕ
  pub heir : ℕ
  pub proposed : s.objects.proposed lost ≡ true
  pub dead : IsDead s.objects lost
  pub settled : s.objects.settled heir ≡ true
  pub parent : s.objects.parent heir ≡ lost

-- the view changed from peer 1 to peer 2 and back, each time through a joint epoch in which the new
-- peer ended a sync
pub record ShowsChange (s : State) : Type 0 where
  pub joint : s.objects.ledger.views 2 ≡ (2 ∷ []) ∷ (1 ∷ []) ∷ []
  pub joined : s.objects.ledger.synced 2 2 ≡ true
  pub there : s.objects.ledger.views 3 ≡ (2 ∷ []) ∷ []
  pub rejoined : s.objects.ledger.synced 4 1 ≡ true
  pub back : s.objects.ledger.views 5 ≡ (1 ∷ []) ∷ []
  pub established : is_established s.objects.ledger 5 ≡ true

-- all that the run must show
pub record ShowsAll (s : State) : Type 0 where
  pub write : ShowsWrite s
  pub rewrite : ShowsRewrite s
  pub return : ShowsReturn s
  pub change : ShowsChange s
  -- the orders of the keys k and l that follow from the notes: a write and two reads, the second of
  -- a rewrite; and a write that timed out, and the read that found it
  pub first_order : order s.book.notes (107 ∷ []) ≡ 1 ∷ 2 ∷ 4 ∷ []
  pub other_order : order s.book.notes (108 ∷ []) ≡ 3 ∷ 5 ∷ []
