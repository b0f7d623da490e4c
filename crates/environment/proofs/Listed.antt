-- The planned failures.
use Rattle.std.proofs.Common.{◌≡◌, ◌≢◌, ℕ, Bool, true, false, ◌==◌, if◌then◌else◌, List, [], ◌∷◌, None, Some, map, inl, inr, refl, sym, eq-eqb}
use Rattle.std.proofs.lemmas.Bool.{eqb-true}
use Rattle.ens_base.specs.Lists.{◌∈◌}
use Rattle.environment.specs.Failures.{planned}
use Rattle.environment.specs.declared.memory.failing_call.FailingCall.{FailingCall}

abbrev numbers : List FailingCall → List ℕ
numbers listed = map (λ f. f.call) listed

pub listed_where_planned : (call : ℕ) (listed : List FailingCall) → planned call listed ≢ None → call ∈ numbers listed
listed_where_planned call [] fails = absurd (fails refl)
listed_where_planned call (f ∷ fs) fails = by (f.call == call) refl (listed_where_planned call fs) fails
  where
    by : (b : Bool) → (f.call == call) ≡ b → (planned call fs ≢ None → call ∈ numbers fs) → (if b then Some f.leaves else planned call fs) ≢ None → call ∈ numbers (f ∷ fs)
    by true p later some = inl (sym (eqb-true f.call call p))
    by false p later some = inr (later some)

pub planned_where_listed : (call : ℕ) (listed : List FailingCall) → call ∈ numbers listed → planned call listed ≢ None
planned_where_listed call [] at = absurd at
planned_where_listed call (f ∷ fs) at = by (f.call == call) refl (planned_where_listed call fs) at
  where
    by : (b : Bool) → (f.call == call) ≡ b → (call ∈ numbers fs → planned call fs ≢ None) → call ∈ numbers (f ∷ fs) → (if b then Some f.leaves else planned call fs) ≢ None
    by true p later there = λ e. absurd cc
    by false p later (inl same) = λ e. let hit : (f.call == call) ≡ true = eq-eqb f.call call (sym same) in absurd cc
    by false p later (inr there) = later there
