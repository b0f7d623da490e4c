-- A group of fewer than 2^32 moments has few calls.
use Rattle.std.proofs.Common.{◌<◌, ◌≤◌, ◌^◌, ◌+◌, ℕ, suc, List, [], ◌∷◌, length, map, arith, sym, subst}
use Rattle.std.proofs.lemmas.List.{length-map}
use Rattle.ens_base.proofs.Lists.{in-map}
use Rattle.process_laws.specs.Moments.{Group, Moment, Starts, Takes, Spoils, IsCutOff, call_in, calls_from, calls_of}
use Rattle.process_laws.specs.Premises.{AreFew}
use Rattle.peer_state.specs.declared.event.Event.TheVariants as events
use Rattle.register_model.specs.declared.call.Call.{Call}

-- a moment has one call at most
one_call : (m : Moment) (number : ℕ) (rest : List Call) → length (call_in m number rest) ≤ suc (length rest)
one_call (Starts p found) number rest = omega arith
one_call (Takes p (events.Call c)) number rest = omega arith
one_call (Takes p (events.Deliver from message)) number rest = omega arith
one_call (Takes p events.Tick) number rest = omega arith
one_call (Takes p (events.Change view)) number rest = omega arith
one_call (Spoils p nodes objects) number rest = omega arith
one_call (IsCutOff p) number rest = omega arith

no_more : (number : ℕ) (ms : List Moment) → length (calls_from number ms) ≤ length ms
no_more number [] = omega arith
no_more number (m ∷ ms) = both (one_call m number (calls_from (number + 1) ms)) (no_more (number + 1) ms)
  where
    both : length (call_in m number (calls_from (number + 1) ms)) ≤ suc (length (calls_from (number + 1) ms)) → length (calls_from (number + 1) ms) ≤ length ms → length (call_in m number (calls_from (number + 1) ms)) ≤ suc (length ms)
    both one rest = omega (arith, one, rest)

pub few_moments : (g : Group) → length g.moments < 2 ^ 32 → AreFew (calls_of g)
few_moments g less = record {
  few = few (length (calls_of g)) (length g.moments) (no_more 1 g.moments) less;
  keys = map (λ (c : Call). c.key) (calls_of g);
  few_keys = subst (λ (n : ℕ). n < 2 ^ 32) (sym (length-map (calls_of g) (λ (c : Call). c.key))) (fewer (length (calls_of g)) (length g.moments) (no_more 1 g.moments) less);
  own_key = in-map (λ (c : Call). c.key) (calls_of g);
}
  where
    few : (c n : ℕ) → c ≤ n → n < 2 ^ 32 → c < 2 ^ 60
    few c n no_more below = omega (arith, no_more, below)

    fewer : (c n : ℕ) → c ≤ n → n < 2 ^ 32 → c < 2 ^ 32
    fewer c n no_more below = omega (arith, no_more, below)
