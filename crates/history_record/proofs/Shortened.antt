-- Histories that are alike once they are shortened have the same fault.
use Rattle.std.proofs.Common.{◌≡◌, ◌⊎◌, ℕ, List, [], ◌∷◌, map, Option, None, Some, inl, inr, refl, sym, ap, subst, ◌∙◌}
use Rattle.std.proofs.lemmas.Bool.{eq-eqb}
use Rattle.ens_base.specs.Lists.{◌∈◌, AreDistinct}
use Rattle.register_model.specs.Histories.{IsLegal}
use Rattle.register_model.specs.declared.answer.Answer.{Answer}
use Rattle.register_model.specs.declared.call.Call.{Call}
use Rattle.register_model.specs.declared.history.History.{History}
use Rattle.history_record.specs.Clauses.{IsFault, first_stray}
use Rattle.history_record.specs.Faults.{AreFaults, IsFaultOf}
use Rattle.history_record.specs.Shortened.{short_by, shortened}
use Rattle.history_record.specs.declared.fault.Fault.{Fault}
use Rattle.history_record.proofs.Legal.{illegal}

module _ (calls : List Call) where
  abbrev stray : History → Option ℕ
  stray h = first_stray calls h.key h.calls

  pub short_key : (h : History) → (shortened calls h).key ≡ h.key
  short_key h = by (stray h)
    where
      by : (o : Option ℕ) → (short_by h o).key ≡ h.key
      by None = refl
      by (Some id) = refl

  -- an id that stands twice is stray
  twice : (key : List ℕ) (id : ℕ) → first_stray calls key (id ∷ id ∷ []) ≡ Some id
  twice key id = rw (eq-eqb id id refl) refl

  short_stray : (h : History) → stray (shortened calls h) ≡ stray h
  short_stray h = by (stray h) refl
    where
      by : (o : Option ℕ) → stray h ≡ o → stray (short_by h o) ≡ stray h
      by None e = refl
      by (Some id) e = twice h.key id ∙ sym e

  pub short_again : (h : History) → shortened calls (shortened calls h) ≡ shortened calls h
  short_again h = ap (short_by (shortened calls h)) (short_stray h) ∙ by (stray h)
    where
      by : (o : Option ℕ) → short_by (short_by h o) o ≡ short_by h o
      by None = refl
      by (Some id) = refl

  alike_stray : (g h : History) → shortened calls g ≡ shortened calls h → stray g ≡ stray h
  alike_stray g h e = sym (short_stray g) ∙ ap stray e ∙ short_stray h

  pub alike_key : (g h : History) → shortened calls g ≡ shortened calls h → g.key ≡ h.key
  alike_key g h e = sym (short_key g) ∙ ap (λ (x : History). x.key) e ∙ short_key h

  -- either they are the same, or one id is the first stray one of both
  alike : (g h : History) → shortened calls g ≡ shortened calls h → (g ≡ h) ⊎ ((id : ℕ) × (stray g ≡ Some id) × (stray h ≡ Some id))
  alike g h e = by (stray g) (stray h) refl refl (alike_stray g h e) e
    where
      by : (a b : Option ℕ) → stray g ≡ a → stray h ≡ b → a ≡ b → short_by g a ≡ short_by h b → (g ≡ h) ⊎ ((id : ℕ) × (stray g ≡ Some id) × (stray h ≡ Some id))
      by None None p q same short = inl short
      by (Some id) b p q same short = inr (id, p, q ∙ sym same)
      by None (Some id) p q same short = absurd (cc same)

  -- a history of the second list has its like in the first
  pub alike_in : (gs hs : List History) (h : History) → map (shortened calls) gs ≡ map (shortened calls) hs → h ∈ hs → (g : History) × (g ∈ gs) × (shortened calls g ≡ shortened calls h)
  alike_in gs [] h e there = absurd there
  alike_in [] (x ∷ hs) h e there = absurd (cc e)
  alike_in (g ∷ gs) (x ∷ hs) h e (inl is) = (g, inl refl, head e ∙ sym (ap (shortened calls) is))
    where
      head : map (shortened calls) (g ∷ gs) ≡ map (shortened calls) (x ∷ hs) → shortened calls g ≡ shortened calls x
      head e = cc
  alike_in (g ∷ gs) (x ∷ hs) h e (inr there) = let found = alike_in gs hs h (tail e) there in (found.0, inr found.1, found.2)
    where
      tail : map (shortened calls) (g ∷ gs) ≡ map (shortened calls) (x ∷ hs) → map (shortened calls) gs ≡ map (shortened calls) hs
      tail e = cc

  module _ (answers : List Answer) (distinct : AreDistinct (map (λ c. c.id) calls)) where
    not_legal : (h : History) (id : ℕ) → stray h ≡ Some id → ¬ (IsLegal calls answers h.key h.calls)
    not_legal h id e = illegal calls answers h.key h.calls 1 id distinct (inl (refl, e))

    pub alike_legal : (g h : History) → shortened calls g ≡ shortened calls h → IsLegal calls answers g.key g.calls → IsLegal calls answers h.key h.calls
    alike_legal g h e legal = by (alike g h e)
      where
        by : (g ≡ h) ⊎ ((id : ℕ) × (stray g ≡ Some id) × (stray h ≡ Some id)) → IsLegal calls answers h.key h.calls
        by (inl same) = subst (λ (x : History). IsLegal calls answers x.key x.calls) same legal
        by (inr one) = absurd (not_legal g one.0 one.1 legal)

    -- the fault of a history with this stray id
    stray_fault : (g h : History) (id : ℕ) → stray g ≡ Some id → stray h ≡ Some id → (clause at : ℕ) → IsFault calls answers g.key g.calls clause at → IsFault calls answers h.key h.calls clause at
    stray_fault g h id p q clause at (inl one) = inl (one.0, q ∙ sym p ∙ one.1)
    stray_fault g h id p q clause at (inr (inl two)) = absurd (cc (sym p ∙ two.1))
    stray_fault g h id p q clause at (inr (inr (inl three))) = absurd (cc (sym p ∙ three.1.0))
    stray_fault g h id p q clause at (inr (inr (inr four))) = absurd (cc (sym p ∙ four.1.0.0))

    alike_fault : (g h : History) (f : Fault) → shortened calls g ≡ shortened calls h → IsFaultOf calls answers g f → IsFaultOf calls answers h f
    alike_fault g h f e of = by (alike g h e)
      where
        by : (g ≡ h) ⊎ ((id : ℕ) × (stray g ≡ Some id) × (stray h ≡ Some id)) → IsFaultOf calls answers h f
        by (inl same) = subst (λ (x : History). IsFaultOf calls answers x f) same of
        by (inr one) = record {
          key = of.key ∙ alike_key g h e;
          illegal = not_legal h one.0 one.2;
          fault = stray_fault g h one.0 one.1 one.2 f.clause f.id of.fault;
        }

    -- histories that are alike, one by one, have the same faults
    pub alike_faults : (gs hs : List History) (faults : List Fault) → map (shortened calls) gs ≡ map (shortened calls) hs → AreFaults calls answers gs faults → AreFaults calls answers hs faults
    alike_faults [] [] faults e are = are
    alike_faults [] (h ∷ hs) faults e are = absurd (cc e)
    alike_faults (g ∷ gs) [] faults e are = absurd (cc e)
    alike_faults (g ∷ gs) (h ∷ hs) faults e are = by (first e) are (λ (rest : List Fault). alike_faults gs hs rest (later e))
      where
        first : map (shortened calls) (g ∷ gs) ≡ map (shortened calls) (h ∷ hs) → shortened calls g ≡ shortened calls h
        first e = cc

        later : map (shortened calls) (g ∷ gs) ≡ map (shortened calls) (h ∷ hs) → map (shortened calls) gs ≡ map (shortened calls) hs
        later e = cc

        by : shortened calls g ≡ shortened calls h → AreFaults calls answers (g ∷ gs) faults → ((rest : List Fault) → AreFaults calls answers gs rest → AreFaults calls answers hs rest) → AreFaults calls answers (h ∷ hs) faults
        by same (inl legal) more = inl (alike_legal g h same legal.0, more faults legal.1)
        by same (inr some) more = inr (some.0, some.1, some.2, alike_fault g h some.0 same some.3, more some.1 some.4)
