-- The faults of a list of histories.
use Rattle.std.specs.Prelude.{◌≡◌, ◌⊎◌, ◌↔◌, ◌≤◌, List, [], ◌∷◌, map}
use Rattle.ens_base.specs.Lists.{◌∈◌, AreDistinct}
use Rattle.register_model.specs.Histories.{IsLegal}
use Rattle.register_model.specs.declared.answer.Answer.{Answer}
use Rattle.register_model.specs.declared.call.Call.{Call}
use Rattle.register_model.specs.declared.history.History.{History}
use Rattle.history_record.specs.Clauses.{IsFault}
use Rattle.history_record.specs.declared.fault.Fault.{Fault}

-- no answer is earlier than its call
abbrev pub ComeBefore : List Call → List Answer → Type 0
ComeBefore calls answers = (a : Answer) (c : Call) → a ∈ answers → c ∈ calls → a.id ≡ c.id → c.event ≤ a.event

-- the fault of a history that is not legal: its key, the first clause that it violates, and the id
pub record IsFaultOf (calls : List Call) (answers : List Answer) (h : History) (f : Fault) : Type 0 where
  pub key : f.key ≡ h.key
  pub illegal : ¬ (IsLegal calls answers h.key h.calls)
  pub fault : IsFault calls answers h.key h.calls f.clause f.id

-- the faults of the histories, in their order: a history is legal and has none, or it has one
abbrev pub AreFaults : List Call → List Answer → List History → List Fault → Type 0
AreFaults calls answers [] faults = faults ≡ []
AreFaults calls answers (h ∷ more) faults =
    (IsLegal calls answers h.key h.calls × AreFaults calls answers more faults)
    ⊎ ((f : Fault) × (rest : List Fault) × (faults ≡ f ∷ rest) × IsFaultOf calls answers h f × AreFaults calls answers more rest)

-- if no key has two histories, a history is legal exactly if its key is in no fault
abbrev pub IsInNone : List Call → List Answer → List History → List Fault → Type 0
IsInNone calls answers histories faults =
    AreDistinct (map (λ h. h.key) histories) → (h : History) → h ∈ histories → IsLegal calls answers h.key h.calls ↔ ¬ (h.key ∈ map (λ f. f.key) faults)
