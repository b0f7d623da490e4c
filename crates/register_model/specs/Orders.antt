-- The order of a key's calls that follows from the notes of the leaders.
use Rattle.std.specs.Prelude.{ℕ, suc, zero, true, false, ◌+◌, ◌*◌, ◌^◌, ◌&&◌, ◌==◌, max, nat_lt, if◌then◌else◌, List, [], ◌∷◌, ◌++◌, Option, None, Some}
use Rattle.ens_base.specs.Lists.{same_bytes}
use Rattle.ens_base.specs.declared.epoch.Version.{Version}
use Rattle.register_model.specs.declared.note.Note.{Note}
use Rattle.register_model.specs.declared.note.Note.TheVariants.{Proposed, Settled, Read}

-- the rank of a version among all versions, from 1 on: by the count of its epoch, then by the
-- proposer, then by the sequence number
unfoldable pub rank : Version → ℕ
rank v = suc ((v.epoch.count * 2 ^ 32 + v.epoch.proposer) * 2 ^ 64 + v.seq)

-- the rank of a version, or 0 if there is none
abbrev pub rank_or_none : Option Version → ℕ
rank_or_none None = 0
rank_or_none (Some v) = rank v

-- the rank of the parent if it is below that of its child, and otherwise 0
abbrev pub lower_or_none : ℕ → ℕ → ℕ
lower_or_none parent v = if nat_lt parent v then parent else 0

-- the rank of the parent of a version of the key, from the first note of its proposal; 0 if there
-- is none
abbrev pub parent_in : List Note → List ℕ → ℕ → ℕ
parent_in [] key v = 0
parent_in (Proposed k w parent call ∷ notes) key v = if same_bytes k key && rank w == v then lower_or_none (rank_or_none parent) v else parent_in notes key v
parent_in (Settled k w ∷ notes) key v = parent_in notes key v
parent_in (Read i k base ∷ notes) key v = parent_in notes key v

-- the call that a version of the key is the write of, from the first note of its proposal; none for
-- a rewrite
abbrev pub call_in : List Note → List ℕ → ℕ → Option ℕ
call_in [] key v = None
call_in (Proposed k w parent call ∷ notes) key v = if same_bytes k key && rank w == v then call else call_in notes key v
call_in (Settled k w ∷ notes) key v = call_in notes key v
call_in (Read i k base ∷ notes) key v = call_in notes key v

-- the rank of the greatest settled version of the key, or 0 if there is none
abbrev pub newest_in : List Note → List ℕ → ℕ
newest_in [] key = 0
newest_in (Settled k w ∷ notes) key = if same_bytes k key then max (rank w) (newest_in notes key) else newest_in notes key
newest_in (Proposed k w parent call ∷ notes) key = newest_in notes key
newest_in (Read i k base ∷ notes) key = newest_in notes key

-- the calls whose reads of the key were noted on this base, in the order of their notes
abbrev pub reads_on : List Note → List ℕ → ℕ → List ℕ
reads_on [] key v = []
reads_on (Read i k base ∷ notes) key v = if same_bytes k key && rank_or_none base == v then i ∷ reads_on notes key v else reads_on notes key v
reads_on (Proposed k w parent call ∷ notes) key v = reads_on notes key v
reads_on (Settled k w ∷ notes) key v = reads_on notes key v

-- a version and its ancestors, the oldest first, n of them at most
abbrev pub chain : ℕ → (ℕ → ℕ) → ℕ → List ℕ
chain zero parent v = []
chain (suc n) parent v = elim (v == 0) as (λ none. List ℕ) [ true ↦ [] | false ↦ chain n parent (parent v) ++ v ∷ [] ]

-- the call of a write, and nothing for a rewrite
abbrev pub write_of : Option ℕ → List ℕ
write_of None = []
write_of (Some i) = i ∷ []

-- the call that wrote a version, followed by the reads of the version
abbrev pub block : List Note → List ℕ → ℕ → List ℕ
block notes key v = write_of (call_in notes key v) ++ reads_on notes key v

-- the blocks of these versions, one after another
abbrev pub blocks : List Note → List ℕ → List ℕ → List ℕ
blocks notes key [] = []
blocks notes key (v ∷ versions) = block notes key v ++ blocks notes key versions

-- the greatest settled version of the key and its ancestors, the oldest first
abbrev pub settled_chain : List Note → List ℕ → List ℕ
settled_chain notes key = chain (newest_in notes key) (parent_in notes key) (newest_in notes key)

-- the calls on the key: the reads that found nothing, and then the write and the reads of each
-- version of the chain
abbrev pub order : List Note → List ℕ → List ℕ
order notes key = reads_on notes key 0 ++ blocks notes key (settled_chain notes key)
