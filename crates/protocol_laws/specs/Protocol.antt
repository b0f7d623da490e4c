-- The abstract protocol: its state, its steps, their guards, and its runs.
use Rattle.std.specs.Prelude.{ℕ, ◌+◌, ◌<◌, ◌≤◌, true, false, List, [], ◌∷◌, length, Option}
use Rattle.ens_base.specs.declared.epoch.Version.{Version}
use Rattle.ens_base.specs.declared.reply.Reply.{Reply}
use Rattle.register_model.specs.declared.call.Call.{Call}
use Rattle.protocol_laws.specs.Ledger.{Place, Change, put, mark, raise, elect, accept, commit, adopt, join, MayElect, MayAccept, MayCommit, MayAdopt, MayJoin}
use Rattle.protocol_laws.specs.Objects.{Map, Objects, opening_objects, floor_after, write, install, propose, settle, MayWrite, MayAcknowledge, MayInstall, MayEndSync, MayPropose, MaySettle, MayRevert}
use Rattle.protocol_laws.specs.Book.{Book, opening_book, take_call, note_proposal, note_settled, note_read, give_answer, MayCall, MayNoteProposal, MayNoteRead, MayAnswer}

-- the whole state: the ledger with the objects, and the book
pub record State : Type 0 where
  pub objects : Objects
  pub book : Book

-- the steps; their guards are MayDo and MayNote
pub data Step : Type 0 where
  Begin : Step  -- the next event begins
  Ask : (call : Call) → Step  -- the next event begins, with this call
  Raise : (peer ballot : ℕ) → Step  -- the peer promises the ballot, or prepares it
  Elect : (epoch : ℕ) (base : Place) → Step  -- the epoch's leader has the promises of a quorum of the base's views
  Accept : (peer epoch : ℕ) → Step  -- the peer accepts the epoch without a sync
  Commit : (epoch : ℕ) (change : Change) → Step  -- the epoch's leader changes the views
  Adopt : (peer epoch : ℕ) → Step  -- the peer accepts the change
  Write : (peer version : ℕ) → Step  -- the peer's tree takes the version
  Acknowledge : (peer version : ℕ) → Step  -- the peer acknowledges the version
  Install : (peer epoch : ℕ) (merged : Map) → Step  -- the peer's tree becomes the merged map of a sync at the epoch
  EndSync : (peer epoch : ℕ) → Step  -- the peer accepts the epoch by ending a sync, and trusts its tree
  Propose : (version : ℕ) (key : List ℕ) (parent : ℕ) (stamp : Version) (content : Option (List ℕ)) (call : Option ℕ) → Step  -- an epoch's leader proposes a version, for a call or as a rewrite
  Settle : (version : ℕ) → Step  -- the leader notes that a quorum acknowledged the version
  Note : (id : ℕ) (key : List ℕ) (base epoch : ℕ) → Step  -- the epoch's leader notes what the call read
  Answer : (id : ℕ) (reply : Reply) → Step  -- the call is answered
  Lose : (peer : ℕ) → Step  -- the peer stops, or finds damage, and no longer trusts its tree
  Revert : (peer : ℕ) (tree : Map) → Step  -- the peer's tree is reverted as a whole

-- the state before the first step
abbrev pub opening : List ℕ → State
opening view = record { objects = opening_objects view; book = opening_book }

-- the effect of a step on the ledger, the versions and the trees
abbrev pub objects_after : Objects → Step → Objects
objects_after o (Raise p d) = record o { ledger = raise o.ledger p d; floor = floor_after o p }
objects_after o (Elect d b) = record o { ledger = elect o.ledger d b }
objects_after o (Accept p d) = record o { ledger = accept o.ledger p d }
objects_after o (Commit d c) = record o { ledger = commit o.ledger d c }
objects_after o (Adopt p d) = record o { ledger = adopt o.ledger p d }
objects_after o (Write p v) = write o p v
objects_after o (Acknowledge p v) = record o { acked = mark o.acked v p }
objects_after o (Install p d merged) = install o p d merged
objects_after o (EndSync p d) = record o { ledger = join o.ledger p d; trusted = put o.trusted p true }
objects_after o (Propose v k u stamp content call) = propose o v k u
objects_after o (Settle v) = settle o v
objects_after o (Lose p) = record o { trusted = put o.trusted p false }
objects_after o (Revert p tree) = record o { visible = put o.visible p tree; reverted = put o.reverted p true }
objects_after o step = o

-- the effect of a step on the book
abbrev pub book_after : Objects → Book → Step → Book
book_after o b Begin = record b { now = b.now + 1 }
book_after o b (Ask c) = take_call b o.ledger.ballot c
book_after o b (Elect d base) = record b { elected_at = put b.elected_at d b.now }
book_after o b (Propose v k u stamp content call) = note_proposal b v k u stamp content call
book_after o b (Settle v) = note_settled b (o.key v) v
book_after o b (Note i k u d) = note_read b i k u d
book_after o b (Answer i r) = give_answer b i r
book_after o b step = b

-- the state after a step
abbrev pub happens : State → Step → State
happens s step = record { objects = objects_after s.objects step; book = book_after s.objects s.book step }

-- the guard of a step on the ledger, the versions and the trees
abbrev pub MayDo : Objects → Step → Type 0
MayDo o (Raise p d) = o.ledger.ballot p ≤ d
MayDo o (Elect d base) = MayElect o.ledger d base
MayDo o (Accept p d) = MayAccept o.ledger p d
MayDo o (Commit d c) = MayCommit o.ledger d
MayDo o (Adopt p d) = MayAdopt o.ledger p d
MayDo o (Write p v) = MayWrite o p v
MayDo o (Acknowledge p v) = MayAcknowledge o p v
MayDo o (Install p d merged) = MayInstall o p d merged
MayDo o (EndSync p d) = MayJoin o.ledger p d × MayEndSync o p d
MayDo o (Propose v k u stamp content call) = MayPropose o v k u
MayDo o (Settle v) = MaySettle o v
MayDo o (Revert p tree) = MayRevert o p tree
MayDo o step = Unit {0}

-- the guard of a step on the book
abbrev pub MayNote : Objects → Book → Step → Type 0
MayNote o b (Ask c) = MayCall b c
MayNote o b (Propose v k u stamp content call) = MayNoteProposal o b v k u stamp content call
MayNote o b (Note i k u d) = MayNoteRead o b i k u d
MayNote o b (Answer i r) = MayAnswer o b i r
MayNote o b step = Unit {0}

-- the guards of the step are met
abbrev pub MayCome : State → Step → Type 0
MayCome s step = MayDo s.objects step × MayNote s.objects s.book step

-- the state after these steps from the opening, given newest first
abbrev pub state_after : List ℕ → List Step → State
state_after view [] = opening view
state_after view (step ∷ steps) = happens (state_after view steps) step

-- the opening view has a member, and the guards of each step were met when it came
abbrev pub IsRun : List ℕ → List Step → Type 0
IsRun view [] = 0 < length view
IsRun view (step ∷ steps) = IsRun view steps × MayCome (state_after view steps) step

-- ## Several steps from a state

-- the state after these steps, given oldest first
abbrev pub after : State → List Step → State
after s [] = s
after s (step ∷ steps) = after (happens s step) steps

-- the guards of each step are met when it comes
abbrev pub MayAll : State → List Step → Type 0
MayAll s [] = Unit {0}
MayAll s (step ∷ steps) = MayCome s step × MayAll (happens s step) steps

-- a run, newest step first, with these steps after it, given oldest first
abbrev pub onto : List Step → List Step → List Step
onto [] run = run
onto (step ∷ steps) run = onto steps (step ∷ run)
