-- What an answer leads to, by cases.
use Rattle.std.proofs.Common.{◌≡◌, ℕ, Bool, true, false, List, [], Option, None, Some, refl}
use Rattle.std.specs.Prelude.{slice_get, slice_set, if◌then◌else◌}
use Rattle.ens_base.specs.declared.entry.Entry.{Entry}
use Rattle.leader_output.specs.PhaseRows.{is_same}
use Rattle.leader_output.specs.declared.out.Outgoing.{Outgoing}
use Rattle.tree_node.specs.declared.version.TreeVersion.{TreeVersion}
use Rattle.tree_exchange.specs.declared.step.Step.{Step}
use Rattle.tree_exchange.specs.declared.step.Step.TheVariants as steps
use Rattle.tree_sync.specs.Syncs.{is_awaited, with_source}
use Rattle.tree_sync.specs.declared.sync.Sync.{Sync}
use Rattle.tree_sync.specs.Asks.{answered, question_of, place_of}
use Rattle.tree_sync.specs.Rows.{with_finished, concluded, taken_by, row_take}
use Rattle.tree_sync.specs.Running.{Running}
use Rattle.tree_sync.specs.declared.asking.Asking.{Asking}
use Rattle.tree_sync.specs.declared.asking.Give.{Give}

-- the next question, nothing, or the source has finished
by_step : (P : Running × List Outgoing → Type 0) (step : Step) (a : Asking) (r : Running) → P (r, question_of r.fact.epoch a) → P (with_finished a r, []) → P (r, []) → P (concluded step a r)
by_step P steps.Next a r next done none = next
by_step P steps.Done a r next done none = done
by_step P steps.Dropped a r next done none = none
by_step P steps.Ignored a r next done none = none

-- the ask at a place, and the sync, after the ask took an answer
abbrev pub ask_after : TreeVersion → Give → Option (List ℕ) → Asking → Running → Asking
ask_after tree give own a r = (answered tree r.sync.scan own give a).1

abbrev pub sync_after : TreeVersion → ℕ → Give → Option (List ℕ) → Asking → Running → Running
sync_after tree place give own a r = record r { asks = slice_set r.asks place (ask_after tree give own a r) }

-- what holds if an answer changes nothing, and what of each ask that may take it
pub record Holds (P : Running × List Outgoing → Type 0) (tree : TreeVersion) (give : Give) (own : Option (List ℕ)) (r : Running) : Type 0 where
  pub none : P (r, [])
  pub kept : (place : ℕ) (a : Asking) → slice_get r.asks place ≡ Some a → P (sync_after tree place give own a r, [])
  pub next : (place : ℕ) (a : Asking) → slice_get r.asks place ≡ Some a → P (sync_after tree place give own a r, question_of r.fact.epoch (ask_after tree give own a r))
  pub done : (place : ℕ) (a : Asking) → slice_get r.asks place ≡ Some a → P (with_finished (ask_after tree give own a r) (sync_after tree place give own a r), [])

by_ask : (P : Running × List Outgoing → Type 0) (tree : TreeVersion) (place : ℕ) (o : Option Asking) (give : Give) (own : Option (List ℕ)) (r : Running) → slice_get r.asks place ≡ o → Holds P tree give own r → P (taken_by tree place o give own r)
by_ask P tree place None give own r e h = h.none
by_ask P tree place (Some a) give own r e h = by_step P (answered tree r.sync.scan own give a).0 (ask_after tree give own a r) (sync_after tree place give own a r) (h.next place a e) (h.done place a e) (h.kept place a e)

pub by_take : (P : Running × List Outgoing → Type 0) (tree : TreeVersion) (from : ℕ) (give : Give) (own : Option (List ℕ)) (r : Running) → Holds P tree give own r → P (row_take tree from give own r)
by_take P tree from give own r h = by (is_same give.ballot r.fact.epoch)
  where
    by : (b : Bool) → P (if b then taken_by tree (place_of from r.asks) (slice_get r.asks (place_of from r.asks)) give own r else (r, []))
    by true = by_ask P tree (place_of from r.asks) (slice_get r.asks (place_of from r.asks)) give own r refl h
    by false = h.none

either : (b : Bool) (sync now : Sync) → now.scan ≡ sync.scan → now.view ≡ sync.view → ((if b then now else sync).scan ≡ sync.scan) × ((if b then now else sync).view ≡ sync.view)
either true sync now s v = (s, v)
either false sync now s v = (refl, refl)

-- a source that finishes leaves the scan and the view
pub finished_keeps : (peer : ℕ) (trusted : Bool) (es : List Entry) (sync : Sync) → ((with_source peer trusted es sync).scan ≡ sync.scan) × ((with_source peer trusted es sync).view ≡ sync.view)
finished_keeps peer trusted es sync = either (is_awaited sync peer) sync _ refl refl
