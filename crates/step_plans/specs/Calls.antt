-- The calls that a step makes to the stores of a peer and to the hasher lent to them, and their
-- answers.
use Rattle.std.specs.Prelude.{ℕ, List, Option, Result, Ok, Err}
use Rattle.ens_base.specs.declared.entry.Entry.{Entry}
use Rattle.phase_rows.specs.StoredFormats.{SavedFact}
use Rattle.phase_rows.specs.TreeNode.{Scan, Position, TreeVersion}
use Rattle.step_plans.specs.declared.error.PeerError.{PeerError}
use Rattle.step_plans.specs.declared.walked.Walked.{Walked}

-- loads or saves the fact with its seal; makes an empty tree in a version, or opens the kept one in a
-- version, under a seal if there is one, or tells the root of the running tree; in the tree, finds an entry,
-- enters one, scans all, reads a node, or installs the tree of some entries; fetches the bytes of a key from
-- the backend, or puts them there; hashes bytes
pub data Call : Type 0 where
  Load : Call
  Save : (fact : SavedFact) → Call
  FreshTree : (tree : TreeVersion) → Call
  OpenTree : (seal : Option (List ℕ)) (tree : TreeVersion) → Call
  Root : Call
  Find : (key : List ℕ) → Call
  Enter : (entry : Entry) → Call
  ScanTree : Call
  ReadNode : (at : Position) → Call
  Install : (entries : List Entry) → Call
  Fetch : (key : List ℕ) → Call
  Put : (key bytes : List ℕ) → Call
  Hash : (bytes : List ℕ) → Call

-- the type of the answer to a call
abbrev pub AnswerOf : Call → Type 0
AnswerOf Load = Option SavedFact
AnswerOf (Save fact) = Unit {0}
AnswerOf (FreshTree tree) = Unit {0}
AnswerOf (OpenTree seal tree) = Unit {0}
AnswerOf Root = Option (List ℕ)
AnswerOf (Find key) = Walked (Option Entry)
AnswerOf (Enter entry) = Walked (Unit {0})
AnswerOf ScanTree = Scan
AnswerOf (ReadNode at) = Walked (Option (List ℕ))
AnswerOf (Install entries) = Unit {0}
AnswerOf (Fetch key) = Option (List ℕ)
AnswerOf (Put key bytes) = Unit {0}
AnswerOf (Hash bytes) = List ℕ

-- A call gave this result, an answer or an error. `P` is the state of the stores and the hasher,
-- known by two relations alone: how a call may be answered, and how it may be refused, each with
-- the state that follows.
abbrev pub Answers : {P : Type 0} → (P → (call : Call) → AnswerOf call → P → Type 0) → (P → Call → PeerError → P → Type 0)
    → P → (call : Call) → Result (AnswerOf call) PeerError → P → Type 0
Answers does refuses s call (Ok a) t = does s call a t
Answers does refuses s call (Err e) t = refuses s call e t
