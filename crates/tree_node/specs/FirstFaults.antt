-- The first fault of a node, which names a cause and no place.
use Rattle.std.specs.Prelude.{◌≡◌, ◌-◌, ◌≤◌, ℕ, List, length, take, drop, Result, Err}
use Rattle.ens_base.specs.Limits.{IsBytes}
use Rattle.fields.specs.FirstFaults.{EndsInside, BreaksRule, NoneBegins}
use Rattle.tree_node.specs.declared.error.NodeError.{NodeError}
use Rattle.tree_node.specs.declared.error.NodeError.TheVariants.{Short, Trailing, Order, Position as OtherPosition, Memory, BadTag}

-- a part breaks a rule, and no valid node begins so
pub record BreaksNode {A : Type 0} (IsValid : A → Type 0) (spelling : A → List ℕ) (read : List ℕ → ℕ → Result (A × ℕ) NodeError) (bytes : List ℕ) (at : ℕ) (e : NodeError) : Type 0 where
  pub place : ℕ
  pub end : ℕ
  pub breaks : BreaksRule (λ _. Short) read bytes at place end e
  pub none : NoneBegins IsValid spelling (take (end - at) (drop at bytes))

abbrev pub IsFirstOfNode : {A : Type 0} → (A → Type 0) → (A → List ℕ) → (List ℕ → ℕ → Result (A × ℕ) NodeError) → List ℕ → ℕ → NodeError → Type 0
IsFirstOfNode IsValid spelling read bytes at Short = (p : ℕ) × EndsInside read bytes at p Short
IsFirstOfNode IsValid spelling read bytes at Order = BreaksNode IsValid spelling read bytes at Order
IsFirstOfNode IsValid spelling read bytes at OtherPosition = BreaksNode IsValid spelling read bytes at OtherPosition
IsFirstOfNode IsValid spelling read bytes at BadTag = BreaksNode IsValid spelling read bytes at BadTag
IsFirstOfNode IsValid spelling read bytes at Trailing = ⊥
IsFirstOfNode IsValid spelling read bytes at Memory = ⊥

-- whatever the bytes are, the fault that reading gives is the first one
abbrev pub NodeFaultsFirst : {A : Type 0} → (A → Type 0) → (A → List ℕ) → (List ℕ → ℕ → Result (A × ℕ) NodeError) → Type 0
NodeFaultsFirst IsValid spelling read = (bytes : List ℕ) (at : ℕ) (e : NodeError) → IsBytes bytes → at ≤ length bytes → read bytes at ≡ Err e → IsFirstOfNode IsValid spelling read bytes at e
