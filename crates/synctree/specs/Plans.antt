-- Plans: the calls that a tree makes to its store and to the hasher, what it does with the answers,
-- and how a plan ends.
use Rattle.std.specs.Prelude.{◌≡◌, ◌⊎◌, ℕ, List, [], ◌∷◌, Result, Ok, Err}
use Rattle.synctree.specs.TreeNode.{Position}
use Rattle.environment.specs.Stores.{NodeCall, NodeAnswer}
use Rattle.synctree.specs.declared.error.TreeError.{TreeError}
use Rattle.synctree.specs.declared.error.TreeError.TheVariants.{Damaged, Failed, Clash, BookFull, Memory}

-- a call to the store of nodes, or bytes given to the hasher
pub data Call : Type 0 where
  Node : (call : NodeCall) → Call
  Hash : (bytes : List ℕ) → Call

-- the type of the answer to a call; the digest of hashed bytes is their MD5, and needs no answer
abbrev pub AnswerOf : Call → Type 0
AnswerOf (Node call) = NodeAnswer call
AnswerOf (Hash bytes) = Unit {0}

-- a value, a position that does not verify, or a call and what follows each answer to it
pub data Plan (A : Type 0) : Type 0 where
  Done : (x : A) → Plan A
  Broken : (at : Position) → Plan A
  Ask : (call : Call) (next : AnswerOf call → Plan A) → Plan A

-- a plan, and then the plan for its value
infixl 1 ◌>>=◌
abbrev pub ◌>>=◌ : {A B : Type 0} → Plan A → (A → Plan B) → Plan B
Done x >>= f = f x
Broken at >>= f = Broken at
Ask call next >>= f = Ask call (λ answer. next answer >>= f)

-- these hashed strings, after the string of a first call if it hashes one
abbrev pub hashed : Call → List (List ℕ) → List (List ℕ)
hashed (Node call) rest = rest
hashed (Hash bytes) rest = bytes ∷ rest

-- The plan may lead from s to t and return this value or this broken position, and these strings
-- are hashed on the way.
abbrev pub Ends : {A S : Type 0} → (S → (call : Call) → AnswerOf call → S → Type 0) → Plan A → S → List (List ℕ) → Result A Position → S → Type 0
Ends does (Done x) s strings out t = (strings ≡ []) × (out ≡ Ok x) × (t ≡ s)
Ends does (Broken at) s strings out t = (strings ≡ []) × (out ≡ Err at) × (t ≡ s)
Ends {A} {S} does (Ask call next) s strings out t = (answer : AnswerOf call) × (u : S) × (rest : List (List ℕ)) × does s call answer u × (strings ≡ hashed call rest) × Ends does (next answer) u rest out t

-- The plan may stop with this error: one of its calls was refused, or out of memory.
abbrev pub Stops : {A S : Type 0} → (S → (call : Call) → AnswerOf call → S → Type 0) → (S → Call → TreeError → S → Type 0) → Plan A → S → TreeError → S → Type 0
Stops does refuses (Done x) s e t = (e ≡ Memory) × (t ≡ s)
Stops does refuses (Broken at) s e t = (e ≡ Memory) × (t ≡ s)
Stops {A} {S} does refuses (Ask call next) s e t = ((e ≡ Memory) × (t ≡ s)) ⊎ (refuses s call e t ⊎ ((answer : AnswerOf call) × (u : S) × does s call answer u × Stops does refuses (next answer) u e t))

-- a call of the tree did what its plan says, to its end or to the point where an error stopped it
abbrev pub Did : {A S : Type 0} → (S → (call : Call) → AnswerOf call → S → Type 0) → (S → Call → TreeError → S → Type 0) → Plan A → S → Result A TreeError → S → Type 0
Did does refuses plan s (Ok x) t = (strings : List (List ℕ)) × Ends does plan s strings (Ok x) t
Did does refuses plan s (Err (Damaged at)) t = (strings : List (List ℕ)) × Ends does plan s strings (Err at) t
Did does refuses plan s (Err Failed) t = Stops does refuses plan s Failed t
Did does refuses plan s (Err (Clash first second)) t = Stops does refuses plan s (Clash first second) t
Did does refuses plan s (Err (BookFull bytes)) t = Stops does refuses plan s (BookFull bytes) t
Did does refuses plan s (Err Memory) t = Stops does refuses plan s Memory t
