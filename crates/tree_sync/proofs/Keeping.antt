-- A sync stays on its fact, and keeps its scan.
use Rattle.std.proofs.Common.{◌≡◌, ℕ, List, Option, refl}
use Rattle.tree_sync.specs.StoredFormats.{Fact}
use Rattle.tree_node.specs.declared.version.TreeVersion.{TreeVersion}
use Rattle.tree_sync.specs.Rows.{row_take, IsOfPeer}
use Rattle.tree_sync.specs.Running.{Running}
use Rattle.tree_sync.specs.declared.asking.Give.{Give}
use Rattle.tree_sync.proofs.Walking.{ask_after, by_take, finished_keeps}

pub fact_stays : (tree : TreeVersion) (from : ℕ) (give : Give) (own : Option (List ℕ)) (r : Running) → (row_take tree from give own r).0.fact ≡ r.fact
fact_stays tree from give own r = by_take (λ x. x.0.fact ≡ r.fact) tree from give own r (record { none = refl; kept = λ place a e. refl; next = λ place a e. refl; done = λ place a e. refl })

pub scan_stays : (tree : TreeVersion) (from : ℕ) (give : Give) (own : Option (List ℕ)) (r : Running) → (row_take tree from give own r).0.sync.scan ≡ r.sync.scan
scan_stays tree from give own r = by_take (λ x. x.0.sync.scan ≡ r.sync.scan) tree from give own r (record {
  none = refl;
  kept = λ place a e. refl;
  next = λ place a e. refl;
  done = λ place a e. let b = ask_after tree give own a r in (finished_keeps b.peer b.trusted b.ask.received r.sync).0;
})

same_fact : (saved : Fact) (r now : Running) → now.fact ≡ r.fact → IsOfPeer saved r → IsOfPeer saved now
same_fact saved r now e h = record { first = rw e h.first; promised = rw e h.promised; newer = rw e h.newer }

pub stays_of_peer : (saved : Fact) (tree : TreeVersion) (from : ℕ) (give : Give) (own : Option (List ℕ)) (r : Running) → IsOfPeer saved r → IsOfPeer saved (row_take tree from give own r).0
stays_of_peer saved tree from give own r h = same_fact saved r (row_take tree from give own r).0 (fact_stays tree from give own r) h
