-- What a sync does when it starts, when it resumes, and when a source answers.
use Rattle.std.specs.Prelude.{◌≡◌, ℕ, Bool, ◌&&◌, if◌then◌else◌, List, [], Option, None, Some, map, slice_get, slice_set}
use Rattle.ens_base.specs.Epochs.{IsEpochBelow}
use Rattle.ens_base.specs.Views.{last_view}
use Rattle.tree_sync.specs.StoredFormats.{Fact}
use Rattle.tree_node.specs.declared.body.Scan.{Scan}
use Rattle.tree_node.specs.declared.version.TreeVersion.{TreeVersion}
use Rattle.leader_output.specs.PhaseRows.{is_same}
use Rattle.leader_output.specs.declared.out.Outgoing.{Outgoing}
use Rattle.tree_exchange.specs.declared.step.Step.{Step}
use Rattle.tree_exchange.specs.declared.step.Step.TheVariants as steps
use Rattle.tree_sync.specs.Syncs.{begun, with_source}
use Rattle.tree_sync.specs.Asks.{asks_of, answered, resumed, question_of, questions, place_of, needs_node}
use Rattle.tree_sync.specs.Running.{Running}
use Rattle.tree_sync.specs.declared.asking.Asking.{Asking}
use Rattle.tree_sync.specs.declared.asking.Give.{Give}

-- the sync on a fact as it begins
abbrev pub started_on : Fact → ℕ → Bool → Scan → Running
started_on fact me trusted scan = record { fact = fact; sync = begun fact me trusted scan; asks = asks_of me (last_view fact.views) }

-- it starts: each member of the last view but `me` is asked for its root, at the fact's epoch
abbrev pub row_start : Fact → ℕ → Bool → Scan → Running × List Outgoing
row_start fact me trusted scan = (started_on fact me trusted scan, questions fact.epoch (asks_of me (last_view fact.views)))

-- it resumes: each source that has not finished is asked its open question again, and a dropped one
-- the root question of a new ask
abbrev pub row_resume : Running → Running × List Outgoing
row_resume r = (record r { asks = map resumed r.asks }, questions r.fact.epoch (map resumed r.asks))

-- the source of this ask has finished
abbrev pub with_finished : Asking → Running → Running
with_finished a r = record r { sync = with_source a.peer a.trusted a.ask.received r.sync }

-- what follows a step of an ask: the next question, or the source has finished
abbrev pub concluded : Step → Asking → Running → Running × List Outgoing
concluded steps.Next a r = (r, question_of r.fact.epoch a)
concluded steps.Done a r = (with_finished a r, [])
concluded steps.Dropped a r = (r, [])
concluded steps.Ignored a r = (r, [])

-- the ask at this place took an answer
abbrev pub replied : ℕ → Step × Asking → Running → Running × List Outgoing
replied place next r = concluded next.0 next.1 (record r { asks = slice_set r.asks place next.1 })

-- the ask at this place takes an answer, if there is one
abbrev pub taken_by : TreeVersion → ℕ → Option Asking → Give → Option (List ℕ) → Running → Running × List Outgoing
taken_by tree place None give own r = (r, [])
taken_by tree place (Some a) give own r = replied place (answered tree r.sync.scan own give a) r

-- A source answers, at a ballot. An answer counts at the epoch of the fact alone, and only if the
-- source's ask has this question open. `tree` is the version of the own tree, and `own` its node at the
-- position, if there is one.
abbrev pub row_take : TreeVersion → ℕ → Give → Option (List ℕ) → Running → Running × List Outgoing
row_take tree from give own r =
    if is_same give.ballot r.fact.epoch then taken_by tree (place_of from r.asks) (slice_get r.asks (place_of from r.asks)) give own r
    else (r, [])

-- whether the own node at the position must be read to take an answer
abbrev pub needs_own_node : TreeVersion → ℕ → Give → Running → Bool
needs_own_node tree from give r = is_same give.ballot r.fact.epoch && needs_node tree give (slice_get r.asks (place_of from r.asks))

-- The sync of a peer with this saved fact: the peer promised the epoch that the sync is on, but has
-- accepted a lower one.
pub record IsOfPeer (saved : Fact) (r : Running) : Type 0 where
  pub first : r.fact.seq ≡ 1
  pub promised : r.fact.epoch ≡ saved.ballot
  pub newer : IsEpochBelow saved.epoch r.fact.epoch
