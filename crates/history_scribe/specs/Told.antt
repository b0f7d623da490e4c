-- What was gathered from the marks of one key, compared with the notes.
use Rattle.std.specs.Prelude.{◌≡◌, ◌++◌, ◌<◌, ◌^◌, ℕ, max, List, [], Option, None, Some}
use Rattle.std.specs.BTreeMap.{get}
use Rattle.std.specs.Option.{option_cmp}
use Rattle.ens_base.specs.Epochs.{version_cmp}
use Rattle.ens_base.specs.declared.epoch.Version.{Version}
use Rattle.register_model.specs.Orders.{rank, rank_or_none, lower_or_none, parent_in, call_in, newest_in, reads_on}
use Rattle.register_model.specs.declared.note.Note.{Note}
use Rattle.history_scribe.specs.Lists.{list_at}
use Rattle.history_scribe.specs.declared.told.Proposal.{Proposal}
use Rattle.history_scribe.specs.declared.told.Told.{Told}

-- the proposer and the sequence number are in range
abbrev pub Fits : Version → Type 0
Fits v = (v.epoch.proposer < 2 ^ 32) × (v.seq < 2 ^ 64)

abbrev pub FitsIfAny : Option Version → Type 0
FitsIfAny None = Unit {0}
FitsIfAny (Some v) = Fits v

-- the gathered proposal of the version
abbrev pub proposal_at : Told → Version → Option Proposal
proposal_at t v = get version_cmp t.proposals v

-- the gathered calls that read this base
abbrev pub reads_at : Told → Option Version → List ℕ
reads_at t base = list_at (option_cmp version_cmp) t.reads.lists base

-- the rank of the parent in the proposal, or `other` if there is no proposal
abbrev pub parent_or : Option Proposal → ℕ → ℕ → ℕ
parent_or None v other = other
parent_or (Some p) v other = lower_or_none (rank_or_none p.parent) v

-- the call in the proposal, or `other` if there is no proposal
abbrev pub call_or : Option Proposal → Option ℕ → Option ℕ
call_or None other = other
call_or (Some p) other = p.call

-- what was gathered, followed by the rest of the notes, agrees with all notes on the key
pub record TellsBefore (t : Told) (rest all : List Note) (key : List ℕ) : Type 0 where
  pub newest : max (rank_or_none t.newest) (newest_in rest key) ≡ newest_in all key
  pub parent : (v : Version) → Fits v → parent_or (proposal_at t v) (rank v) (parent_in rest key (rank v)) ≡ parent_in all key (rank v)
  pub call : (v : Version) → Fits v → call_or (proposal_at t v) (call_in rest key (rank v)) ≡ call_in all key (rank v)
  pub reads : (base : Option Version) → FitsIfAny base → reads_at t base ++ reads_on rest key (rank_or_none base) ≡ reads_on all key (rank_or_none base)

-- what was gathered agrees with the notes on the key
abbrev pub Tells : Told → List Note → List ℕ → Type 0
Tells t notes key = TellsBefore t [] notes key
