-- The keys that are in no fault.
use Rattle.std.proofs.Common.{◌≡◌, ℕ, ◌+◌, ◌<◌, ◌≤◌, List, [], ◌∷◌, ◌++◌, length, get_or, take, map, inl, inr, ◌⊎◌, refl, sym, ap, subst, ◌∙◌}
use Rattle.std.specs.Prelude.{◌↔◌}
use Rattle.std.proofs.lemmas.List.{take_all, take_more}
use Rattle.ens_base.specs.Lists.{◌∈◌}
use Rattle.ens_base.proofs.Lists.{in-map}
use Rattle.register_model.specs.Histories.{IsLegal}
use Rattle.register_model.specs.declared.answer.Answer.{Answer}
use Rattle.register_model.specs.declared.call.Call.{Call}
use Rattle.register_model.specs.declared.history.History.{History}
use Rattle.history_record.specs.Faults.{AreFaults, IsFaultOf, IsInNone}
use Rattle.history_record.specs.declared.fault.Fault.{Fault}
use Rattle.history_record.proofs.Walks.{no_fault_more, one_fault_more}

abbrev keys : List Fault → List (List ℕ)
keys faults = map (λ (f : Fault). f.key) faults

abbrev told : List History → List (List ℕ)
told hs = map (λ (h : History). h.key) hs

no_key : (k : List ℕ) (faults : List Fault) → faults ≡ [] → k ∈ keys faults → ⊥
no_key k faults none there =
    let P : List Fault → Type 0 = λ fs. k ∈ keys fs in
    subst P none there

module _ (calls : List Call) (answers : List Answer) where
  key_told : (hs : List History) (faults : List Fault) (k : List ℕ) → AreFaults calls answers hs faults → k ∈ keys faults → k ∈ told hs
  key_told [] faults k are there = absurd (no_key k faults are there)
  key_told (h ∷ hs) faults k (inl legal) there = inr (key_told hs faults k legal.1 there)
  key_told (h ∷ hs) faults k (inr some) there =
      by
      (let P : List Fault → Type 0 = λ fs. k ∈ keys fs in subst P some.2 there)
      (λ (m : k ∈ keys some.1). key_told hs some.1 k some.4 m)
    where
      by : (k ≡ some.0.key) ⊎ (k ∈ keys some.1) → (k ∈ keys some.1 → k ∈ told hs) → (k ≡ h.key) ⊎ (k ∈ told hs)
      by (inl e) later = inl (e ∙ some.3.key)
      by (inr m) later = inr (later m)

  abbrev Right : List Fault → History → Type 0
  Right faults g = IsLegal calls answers g.key g.calls ↔ ¬ (g.key ∈ keys faults)

  pub in_none : (hs : List History) (faults : List Fault) → AreFaults calls answers hs faults → IsInNone calls answers hs faults
  in_none [] faults are distinct g there = absurd there
  in_none (h ∷ hs) faults (inl legal) distinct g (inl e) =
      let off : ¬ (h.key ∈ keys faults) = λ m. distinct.0 (key_told hs faults h.key legal.1 m) in
      let here : Right faults h = (λ is m. off m, λ un. legal.0) in
      subst (Right faults) (sym e) here
  in_none (h ∷ hs) faults (inl legal) distinct g (inr there) = in_none hs faults legal.1 distinct.1 g there
  in_none (h ∷ hs) faults (inr some) distinct g (inl e) =
      let P : List Fault → Type 0 = λ fs. h.key ∈ keys fs in
      let named : h.key ∈ keys faults = subst P (sym some.2) (inl (sym some.3.key)) in
      let here : Right faults h = (λ is. absurd (some.3.illegal is), λ un. absurd (un named)) in
      subst (Right faults) (sym e) here
  in_none (h ∷ hs) faults (inr some) distinct g (inr there) =
      let later : Right some.1 g = in_none hs some.1 some.4 distinct.1 g there in
      let P : List Fault → Type 0 = λ fs. Right fs g in
      subst P (sym some.2) (λ is. other (later.0 is), λ un. later.1 (λ m. un (inr m)))
    where
      other : ¬ (g.key ∈ keys some.1) → (g.key ≡ some.0.key) ⊎ (g.key ∈ keys some.1) → ⊥
      other un (inl e) = distinct.0 (let P : List ℕ → Type 0 = λ k. k ∈ told hs in subst P (e ∙ some.3.key) (in-map (λ (x : History). x.key) hs g there))
      other un (inr m) = un m

  -- one history more
  module _ (hs : List History) (n : ℕ) (h : History) (lt : n < length hs) (at : h ≡ get_or hs n h) (faults new : List Fault) (old : AreFaults calls answers (take n hs) faults) where
    more : take (n + 1) hs ≡ take n hs ++ h ∷ []
    more = take_more hs n h lt ∙ ap (λ (g : History). take n hs ++ g ∷ []) (sym at)

    pub legal_next : new ≡ faults → IsLegal calls answers h.key h.calls → AreFaults calls answers (take (n + 1) hs) new
    legal_next same legal = rw (more, same) (no_fault_more calls answers (take n hs) faults h old (inl (legal, refl)))

    pub fault_next : (f : Fault) → new ≡ faults ++ f ∷ [] → IsFaultOf calls answers h f → AreFaults calls answers (take (n + 1) hs) new
    fault_next f same fault = rw (more, same) (one_fault_more calls answers (take n hs) faults h f old fault)

  -- all histories
  pub all_next : (hs : List History) (n : ℕ) (faults : List Fault) → length hs ≤ n → AreFaults calls answers (take n hs) faults → AreFaults calls answers hs faults
  all_next hs n faults end are = subst (λ (gs : List History). AreFaults calls answers gs faults) (take_all n hs end) are
