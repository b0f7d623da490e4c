-- The content of a store of nodes, and what a plan that reads it returns.
use Rattle.std.specs.Prelude.{◌≡◌, ℕ, List, Option, None, Some}
use Rattle.environment.specs.Stores.{NodeCall, NodeAnswer, Read}
use Rattle.synctree.specs.Plans.{Call, Node, Hash, AnswerOf, Plan, Done, Broken, Ask}

-- The value of a plan if each read returns what is stored, and the hasher takes each string. There
-- is none if the plan finds a broken position, or makes another call.
abbrev pub answered : {A : Type 0} → (List ℕ → Option (List ℕ)) → Plan A → Option A
answered has (Done x) = Some x
answered has (Broken at) = None
answered has (Ask (Node (Read digest)) next) = answered has (next (has digest))
answered has (Ask (Node call) next) = None
answered has (Ask (Hash bytes) next) = answered has (next tt)

-- a read returns what is stored
abbrev pub IsStored : (List ℕ → Option (List ℕ)) → (call : Call) → AnswerOf call → Type 0
IsStored has (Node (Read digest)) answer = answer ≡ has digest
IsStored has call answer = Unit {0}

-- each read returns what the store has under the digest, and changes nothing that it has
pub record IsContent {S : Type 0} (may : S → (call : NodeCall) → NodeAnswer call → S → Type 0) (content : S → List ℕ → Option (List ℕ)) : Type 0 where
  pub returns : (s t : S) (digest : List ℕ) (answer : Option (List ℕ)) → may s (Read digest) answer t → answer ≡ content s digest
  pub stays : (s t : S) (digest other : List ℕ) (answer : Option (List ℕ)) → may s (Read digest) answer t → content t other ≡ content s other
