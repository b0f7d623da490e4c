use Rattle.std.proofs.Common.{◌≡◌, ◌+◌, ◌<◌, ℕ, List, [], ◌∷◌, ◌++◌, length, Option, None, Some, sym, ap, rules, arith}
use Rattle.std.specs.Prelude.{IfSome, IsSome, slice_get}
use Rattle.std.proofs.lemmas.Bool.{false≢true}
use Rattle.ens_base.proofs.Lists.{bytes_same}
use Rattle.history_record.proofs.Hearings.{history_kept, history_sound}
use Rattle.history_record.proofs.behind.Hearing.told.Goals as goal

-- the first key is the one that is taken out
keys_next : (old new : List (List ℕ)) (key : List ℕ) (popped : Option (List ℕ)) → slice_get old 0 ≡ Some key → IfSome popped (λ k. old ≡ k ∷ new) → (0 < length old → IsSome popped) → old ≡ key ∷ new
keys_next [] new key popped first removal some = absurd cc
keys_next (x ∷ xs) new key None first removal some = absurd (false≢true (some (omega arith)))
keys_next (x ∷ xs) new key (Some k) first removal some = cc

pub invariant_of-self-2 : goal.invariant_of-self-2
invariant_of-self-2 c =
    let i = c.self.inside in
    let sound = c.self.invariant.0 in
    let kept = c.self.invariant.1 in
    let items : c.push.new.self.items ≡ i.histories.items ++ c.args.history ∷ [] = search rules in
    let same : c.in-Some.key.now ≡ c.args.history.key = bytes_same c.in-Some.key.now c.args.history.key (sym c.if-eq.ensures) in
    let next = keys_next i.keys.keys c.pop_first.new.self.keys c.in-Some.key.now c.pop_first.result c.in-Some.ensures.first c.pop_first.ensures.removal c.pop_first.ensures.variant.1 in
    let is : i.keys.keys ≡ c.args.history.key ∷ c.pop_first.new.self.keys = rw (← same) next in
    let len = ap (λ (l : List (List ℕ)). length l) is in
    rw items (
      history_sound _ _ _ _ sound kept c.args.history c.pop_first.new.self.keys is,
      history_kept _ _ _ _ sound kept c.args.history c.pop_first.new.self.keys _ (omega (arith, len)),
      record { are = c.self.invariant.2.are; places = c.self.invariant.2.places },
    )
