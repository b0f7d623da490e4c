-- The key of each proposed version was called; so keys and ids are no more than calls, and calls no more than events.
use Rattle.std.proofs.Common.{◌≡◌, ℕ, ◌<◌, ◌≤◌, ◌^◌, true, ◌⊎◌, List, [], ◌∷◌, length, map, suc, Option, None, Some, arith, refl, ap, sym, subst, inl, inr, ◌∙◌}
use Rattle.std.proofs.lemmas.List.{length-map}
use Rattle.ens_base.proofs.Lists.{in-map}
use Rattle.ens_base.specs.Lists.{◌∈◌}
use Rattle.ens_base.specs.declared.entry.Entry.{Entry}
use Rattle.register_model.specs.declared.call.Call.{Call}
use Rattle.protocol_laws.proofs.Epochs.{strong}
use Rattle.protocol_laws.proofs.Basics.{Basics}
use Rattle.protocol_laws.proofs.Descent.{run_whole}
use Rattle.protocol_laws.specs.Entries.{EntriesAreSafe, WriteKeeps, RewriteKeeps}
use Rattle.protocol_laws.proofs.Replies.{run_entries}
use Rattle.protocol_laws.proofs.Noted.{Listed, run_listed}
use Rattle.protocol_laws.specs.Protocol.{State, Step, Begin, Ask, Raise, Elect, Accept, Commit, Adopt, Write, Acknowledge, Install, EndSync, Propose, Settle, Note, Answer, Lose, Revert, happens, IsRun, state_after}
use Rattle.step_refinement.proofs.DistinctItems.{images_few, Comes}
use Rattle.step_refinement.specs.Keys.{IsCalled, IsProposed, KeysAreCalled, KeysAreFew, IdsAreFew, CallsAreFew, AreFew, KeysAreBelow, IdsAreBelow}

module _ (s : State) (basics : Basics s.objects) (entries : EntriesAreSafe s) (listed : Listed s) where
  -- a write is on the key of its call, and a rewrite on the key of its parent
  called_by : (v : ℕ) → s.objects.proposed v ≡ true → ((u : ℕ) → u < v → s.objects.proposed u ≡ true → IsCalled s (s.objects.key u)) → (o : Option ℕ) → s.book.call v ≡ o → IsCalled s (s.objects.key v)
  called_by v p lower (Some i) e = by_write ((entries.proposals v p).write i e)
    where
      by_write : WriteKeeps s v i → IsCalled s (s.objects.key v)
      by_write k = (s.book.asked i, listed.call_in i k.called, k.on_key)
  called_by v p lower None e = by_parent ((entries.proposals v p).rewrite e) (basics.parents v p)
    where
      none : 0 < s.objects.parent v → s.objects.parent v ≡ 0 → ⊥
      none h z = omega arith

      same : s.objects.proposed (s.objects.parent v) ≡ true → IsCalled s (s.objects.key (s.objects.parent v)) → IsCalled s (s.objects.key v)
      same q c = (c.0, c.1, c.2 ∙ basics.same_key v p q)

      by_parent : RewriteKeeps s v → (s.objects.parent v ≡ 0) ⊎ (s.objects.proposed (s.objects.parent v) ≡ true) → IsCalled s (s.objects.key v)
      by_parent k (inl z) = absurd (none k.some z)
      by_parent k (inr q) = same q (lower (s.objects.parent v) (basics.lower v p) q)

  -- the key of each proposed version was called
  pub keys_called : KeysAreCalled s
  keys_called = strong (λ v. s.objects.proposed v ≡ true → IsCalled s (s.objects.key v)) (λ v lower p. called_by v p lower (s.book.call v) refl)

  key_called : (key : List ℕ) → IsProposed s key → Comes (λ (c : Call). c.key) s.book.calls key
  key_called key v = let c = keys_called v.0 v.1 in (c.0, c.1, c.2 ∙ v.2)

  -- distinct keys of versions are no more than calls
  pub keys_few : KeysAreFew s
  keys_few keys distinct proposed = images_few (λ (c : Call). c.key) s.book.calls keys distinct (λ key m. key_called key (proposed key m))

  -- distinct ids of calls are no more than calls
  pub ids_few : IdsAreFew s
  ids_few ids distinct called = images_few (λ (c : Call). c.id) s.book.calls ids distinct (λ i m. (s.book.asked i, listed.call_in i (called i m), (entries.calls i (called i m)).own_id))

  -- so they are fewer than those of few calls
  pub keys_below : KeysAreBelow s
  keys_below few keys distinct proposed = below (images_few (λ (k : List ℕ). k) few.keys keys distinct (λ key m. comes key (key_called key (proposed key m)))) few.few_keys
    where
      comes : (key : List ℕ) → Comes (λ (c : Call). c.key) s.book.calls key → Comes (λ (k : List ℕ). k) few.keys key
      comes key c = (key, subst (λ (k : List ℕ). k ∈ few.keys) c.2 (few.own_key c.0 c.1), refl)

      below : length keys ≤ length few.keys → length few.keys < 2 ^ 32 → length keys < 2 ^ 32
      below le less = omega (arith, le, less)

  pub ids_below : IdsAreBelow s
  ids_below few ids distinct called = below (images_few (λ (i : ℕ). i) few.ids ids distinct (λ i m. (i, own i (called i m), refl))) few.few_ids
    where
      own : (i : ℕ) → s.book.called i ≡ true → i ∈ few.ids
      own i came = subst (λ (j : ℕ). j ∈ few.ids) (entries.calls i came).own_id (few.own_id (s.book.asked i) (listed.call_in i came))

      below : length ids ≤ length few.ids → length few.ids < 2 ^ 60 → length ids < 2 ^ 60
      below le less = omega (arith, le, less)

-- each call begins an event
calls_few_step : (s : State) (e : Step) → CallsAreFew s → CallsAreFew (happens s e)
calls_few_step s Begin old = omega arith
calls_few_step s (Ask c) old = omega arith
calls_few_step s (Raise p d) old = old
calls_few_step s (Elect d b) old = old
calls_few_step s (Accept p d) old = old
calls_few_step s (Commit d c) old = old
calls_few_step s (Adopt p d) old = old
calls_few_step s (Write p v) old = old
calls_few_step s (Acknowledge p v) old = old
calls_few_step s (Install p d m) old = old
calls_few_step s (EndSync p d) old = old
calls_few_step s (Propose v k u x y c) old = old
calls_few_step s (Settle v) old = old
calls_few_step s (Note i k u d) old = old
calls_few_step s (Answer i r) old = old
calls_few_step s (Lose p) old = old
calls_few_step s (Revert p m) old = old

-- ## In each state of a run

-- calls are no more than events
pub run_calls_few : (view : List ℕ) (steps : List Step) → IsRun view steps → CallsAreFew (state_after view steps)
run_calls_few view [] run = omega arith
run_calls_few view (e ∷ steps) run = calls_few_step (state_after view steps) e (run_calls_few view steps run.0)

-- the key of each proposed version was called
pub run_keys_called : (view : List ℕ) (steps : List Step) → IsRun view steps → KeysAreCalled (state_after view steps)
run_keys_called view steps run = keys_called (state_after view steps) (run_whole view steps run).basics (run_entries view steps run) (run_listed view steps run)

-- distinct keys of versions are no more than calls
pub run_keys_few : (view : List ℕ) (steps : List Step) → IsRun view steps → KeysAreFew (state_after view steps)
run_keys_few view steps run = keys_few (state_after view steps) (run_whole view steps run).basics (run_entries view steps run) (run_listed view steps run)

-- distinct ids of calls are no more than calls
pub run_ids_few : (view : List ℕ) (steps : List Step) → IsRun view steps → IdsAreFew (state_after view steps)
run_ids_few view steps run = ids_few (state_after view steps) (run_whole view steps run).basics (run_entries view steps run) (run_listed view steps run)

-- and both are fewer than a limit if the calls are few
pub run_keys_below : (view : List ℕ) (steps : List Step) → IsRun view steps → KeysAreBelow (state_after view steps)
run_keys_below view steps run = keys_below (state_after view steps) (run_whole view steps run).basics (run_entries view steps run) (run_listed view steps run)

pub run_ids_below : (view : List ℕ) (steps : List Step) → IsRun view steps → IdsAreBelow (state_after view steps)
run_ids_below view steps run = ids_below (state_after view steps) (run_whole view steps run).basics (run_entries view steps run) (run_listed view steps run)

-- ## Few calls

-- some of few calls are few
pub some_few : (some calls : List Call) → ((c : Call) → c ∈ some → c ∈ calls) → AreFew calls → AreFew some
some_few some calls among few = record {
  ids = few.ids;
  few_ids = few.few_ids;
  own_id = λ c at. few.own_id c (among c at);
  keys = few.keys;
  few_keys = few.few_keys;
  own_key = λ c at. few.own_key c (among c at);
}

-- fewer than 2^60 calls on fewer than 2^32 keys are few
pub few_on_keys : (calls : List Call) → length calls < 2 ^ 60 → (keys : List (List ℕ)) → length keys < 2 ^ 32 → ((c : Call) → c ∈ calls → c.key ∈ keys) → AreFew calls
few_on_keys calls few keys few_keys own_key = record {
  ids = map (λ (c : Call). c.id) calls;
  few_ids = subst (λ (n : ℕ). n < 2 ^ 60) (sym (length-map calls (λ (c : Call). c.id))) few;
  own_id = in-map (λ (c : Call). c.id) calls;
  keys = keys;
  few_keys = few_keys;
  own_key = own_key;
}

-- so are fewer than 2^32 calls
pub calls_below : (calls : List Call) → length calls < 2 ^ 32 → AreFew calls
calls_below calls less = few_on_keys calls (wide (length calls) less) (map (λ (c : Call). c.key) calls) (subst (λ (n : ℕ). n < 2 ^ 32) (sym (length-map calls (λ (c : Call). c.key))) less) (in-map (λ (c : Call). c.key) calls)
  where
    wide : (n : ℕ) → n < 2 ^ 32 → n < 2 ^ 60
    wide n less = omega (arith, less)

-- ## The keys of a map

-- a map has as many keys as entries
pub length_keys : (m : List Entry) → length (map (λ (e : Entry). e.key) m) ≡ length m
length_keys [] = refl
length_keys (e ∷ m) = ap suc (length_keys m)

-- what holds of the key of each entry holds of each key
pub key_from : (P : List ℕ → Type 0) (m : List Entry) → ((e : Entry) → e ∈ m → P e.key) → (k : List ℕ) → k ∈ map (λ (e : Entry). e.key) m → P k
key_from P [] holds k i = absurd i
key_from P (e ∷ m) holds k (inl same) = subst P (sym same) (holds e (inl refl))
key_from P (e ∷ m) holds k (inr i) = key_from P m (λ f j. holds f (inr j)) k i
