-- A run goes on if fewer stamps are taken, and if one more stamp is taken, except for finitely
-- many.
use Rattle.std.proofs.Common.{ℕ, List, [], ◌∷◌, inl, inr, sym, subst}
use Rattle.ens_base.specs.Lists.{◌∈◌}
use Rattle.ens_base.specs.declared.epoch.Version.{Version}
use Rattle.ens_base.specs.declared.reply.Reply.{Reply}
use Rattle.register_model.specs.Registers.{Outcome, Keeps, Writes, Comes, outcome, stamps_after}
use Rattle.register_model.specs.Histories.{RunsFrom}
use Rattle.register_model.specs.declared.answer.Answer.{Answer}
use Rattle.register_model.specs.declared.call.Call.{Call}
use Rattle.register_model.specs.declared.register.Register.{Register}

-- each stamp of the second list is in the first
abbrev pub Has : List Version → List Version → Type 0
Has stamps some = (x : Version) → x ∈ some → x ∈ stamps

pub after_fewer : (reply : Reply) (S T : List Version) → Has S T → Has (stamps_after reply S) (stamps_after reply T)
after_fewer (Reply.Ok t) S T sub x (inl e) = inl e
after_fewer (Reply.Ok t) S T sub x (inr h) = inr (sub x h)
after_fewer reply S T sub x h = sub x h

pub comes_fewer : (o : Outcome) (S T : List Version) (old : Register) (reply : Reply) (new : Register) → Has S T → Comes S old o reply new → Comes T old o reply new
comes_fewer (Keeps answer) S T old reply new sub h = h
comes_fewer (Writes content) S T old reply new sub h = (h.0, h.1, λ taken. h.2 (sub h.0 taken), h.3)

module _ (calls : List Call) (answers : List Answer) where
  pub runs_fewer : (order : List ℕ) (S T : List Version) (r : Register) → Has S T → RunsFrom calls answers S r order → RunsFrom calls answers T r order
  runs_fewer [] S T r sub h = tt
  runs_fewer (id ∷ rest) S T r sub h =
      (h.0, h.1, h.2, h.3, h.4, h.5, comes_fewer (outcome h.0.command r) S T r h.1 h.2 sub h.6, runs_fewer rest (stamps_after h.1 S) (stamps_after h.1 T) h.2 (after_fewer h.1 S T sub) h.7)

-- one more stamp, taken before or after a step
swapped : (reply : Reply) (u : Version) (S : List Version) → Has (u ∷ stamps_after reply S) (stamps_after reply (u ∷ S))
swapped (Reply.Ok t) u S x (inl e) = inr (inl e)
swapped (Reply.Ok t) u S x (inr (inl e)) = inl e
swapped (Reply.Ok t) u S x (inr (inr h)) = inr (inr h)
swapped reply u S x h = h

not_later : (reply : Reply) (u : Version) (L : List Version) → ¬ (u ∈ stamps_after reply L) → ¬ (u ∈ L)
not_later (Reply.Ok t) u L n h = n (inr h)
not_later reply u L n h = n h

comes_free : (o : Outcome) (S L : List Version) (old : Register) (reply : Reply) (new : Register) (u : Version) → ¬ (u ∈ stamps_after reply L) → Comes S old o reply new → Comes (u ∷ S) old o reply new
comes_free (Keeps answer) S L old reply new u n h = h
comes_free (Writes content) S L old reply new u n h = (h.0, h.1, fresh, h.3)
  where
    fresh : ¬ (h.0 ∈ (u ∷ S))
    fresh (inl e) = (let P : Reply → Type 0 = λ r. ¬ (u ∈ stamps_after r L) in subst P h.1 n) (inl (sym e))
    fresh (inr there) = h.2 there

-- P holds with one more stamp taken, unless that is in a finite list
abbrev pub IsFree : (List Version → Register → Type 0) → List Version → Register → Type 0
IsFree P S r = (L : List Version) × ((u : Version) → ¬ (u ∈ L) → P (u ∷ S) r)

module _ (calls : List Call) (answers : List Answer) where
  pub runs_free : (order : List ℕ) (S : List Version) (r : Register) → RunsFrom calls answers S r order → IsFree (λ T q. RunsFrom calls answers T q order) S r
  runs_free [] S r h = ([], λ u n. tt)
  runs_free (id ∷ rest) S r h = onward (runs_free rest (stamps_after h.1 S) h.2 h.7)
    where
      onward : IsFree (λ T q. RunsFrom calls answers T q rest) (stamps_after h.1 S) h.2 → IsFree (λ T q. RunsFrom calls answers T q (id ∷ rest)) S r
      onward later = (
        stamps_after h.1 later.0,
        λ u n. (
          h.0,
          h.1,
          h.2,
          h.3,
          h.4,
          h.5,
          comes_free (outcome h.0.command r) S later.0 r h.1 h.2 u n h.6,
          runs_fewer calls answers rest (u ∷ stamps_after h.1 S) (stamps_after h.1 (u ∷ S)) h.2 (swapped h.1 u S) (later.1 u (not_later h.1 u later.0 n)),
        ),
      )
