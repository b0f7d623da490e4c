-- The first fact of an epoch, as the theory of syncs sees it.
use Rattle.std.proofs.Common.{◌≡◌, ◌<◌, ◌≤◌, true, refl, inl, inr, ap}
use Rattle.protocol_laws.specs.Ledger.{Ledger}
use Rattle.protocol_laws.specs.Numbers.{epoch_number}
use Rattle.stored_formats.specs.declared.fact.Change.TheVariants as changes
use Rattle.stored_formats.specs.declared.fact.Fact.{Fact}
use Rattle.role_laws.specs.Facts.{IsFirst, place_of, change_at}
use Rattle.peer_refinement.specs.Seen.{seen_change, seen_fact}

-- it changes no views
no_change : (l : Ledger) (f : Fact) → f.seq ≡ 1 → f.change ≡ changes.None → seen_change f.change ≡ change_at l (place_of (seen_fact f))
no_change l f seq none = rw (seq, none) refl

-- a fact that begins an elected epoch is the first of that epoch
pub seen_first : (l : Ledger) (f : Fact) → epoch_number f.epoch ≤ epoch_number f.ballot → l.elected (epoch_number f.epoch) ≡ true → f.seq ≡ 1 → 0 < epoch_number f.epoch → f.ballot ≡ f.epoch → f.views ≡ l.views (epoch_number f.epoch) → f.change ≡ changes.None → IsFirst l (seen_fact f)
seen_first l f below elected seq later own views none = record {
  known = record { below = below; elected = elected; is_fact = inr (inl (elected, seq)); views = views; change = no_change l f seq none };
  seq = seq;
  later = later;
  own_ballot = ap epoch_number own;
}
