-- The steps of an install.
use Rattle.std.proofs.Common.{◌≡◌, ℕ, ◌+◌, ◌<◌, ◌≤◌, List, [], Option, Result, Ok, Err, length, get_or, drop, refl, sym, subst, inl, inr}
use Rattle.environment.specs.Stores.{NodeCall, NodeAnswer, Write, SetTop}
use Rattle.environment.specs.declared.errors.StoreError.{StoreError}
use Rattle.synctree.proofs.Slices.{drop_at, drop_all}
use Rattle.synctree.specs.declared.error.TreeError.{TreeError}
use Rattle.synctree.specs.declared.error.TreeError.TheVariants.{Damaged, Failed, Clash, BookFull, Memory}
use Rattle.synctree.specs.declared.stored_node.StoredNode.{StoredNode}
use Rattle.synctree.specs.Halves.{NodesDid}
use Rattle.synctree.specs.Plans.{Node, Plan, Done, Ask, Did}
use Rattle.synctree.specs.Walks.{set_top}
use Rattle.synctree.specs.Installs.{store_does, store_refuses, write_all, install_plan}
use Rattle.synctree.proofs.Composing.{did_ask, did_then, did_err}

module _ {N : Type 0} (may : N → (call : NodeCall) → NodeAnswer call → N → Type 0) (loses : N → NodeCall → StoreError → N → Type 0) (top : N → Option (Option (List ℕ))) (faults : N → ℕ) where
  abbrev pub DidStore : {A : Type 0} → Plan A → N → Result A TreeError → N → Type 0
  DidStore plan s r t = Did (store_does may top faults) (store_refuses loses top faults) plan s r t

  pub call_ok : {A : Type 0} (call : NodeCall) (next : NodeAnswer call → Plan A) (s u t : N) (answer : NodeAnswer call) (r : Result A TreeError) → NodesDid may loses top faults call s (Ok answer) u → DidStore (next answer) u r t → DidStore (Ask (Node call) next) s r t
  call_ok call next s u t answer r d rest = did_ask (store_does may top faults) (store_refuses loses top faults) (Node call) next s u t answer r d rest

  pub call_err : {A : Type 0} (call : NodeCall) (next : NodeAnswer call → Plan A) (s t : N) (e : TreeError) → NodesDid may loses top faults call s (Err e) t → DidStore (Ask (Node call) next) s (Err e) t
  call_err call next s t (Damaged at) d = absurd d
  call_err call next s t Failed d = inr (inl d)
  call_err call next s t (Clash first second) d = absurd d
  call_err call next s t (BookFull b) d = absurd d
  call_err call next s t Memory d = inr (inl d)

  -- what remains to be written, done from u, is all of it, done from s
  abbrev pub GoesOn : List StoredNode → List StoredNode → N → N → Type 0
  GoesOn all rest s u = (r : Result (Unit {0}) TreeError) (t : N) → DidStore (write_all rest) u r t → DidStore (write_all all) s r t

  pub goes_next : (all : List StoredNode) (i : ℕ) (n : StoredNode) (b : List ℕ) (s u v : N) → i < length all → n ≡ get_or all i n → b ≡ n.bytes → NodesDid may loses top faults (Write n.digest b) u (Ok tt) v → GoesOn all (drop i all) s u → GoesOn all (drop (i + 1) all) s v
  goes_next all i n b s u v l e is d k = λ r t h. k r t (subst (λ (ns : List StoredNode). DidStore (write_all ns) u r t) (sym (drop_at all i n n l e))
      (call_ok (Write n.digest n.bytes) (λ _. write_all (drop (i + 1) all)) u v t tt r (subst (λ (x : List ℕ). NodesDid may loses top faults (Write n.digest x) u (Ok tt) v) is d) h))

  pub goes_err : (all : List StoredNode) (i : ℕ) (n : StoredNode) (b : List ℕ) (s u v : N) (e : TreeError) → i < length all → n ≡ get_or all i n → b ≡ n.bytes → NodesDid may loses top faults (Write n.digest b) u (Err e) v → GoesOn all (drop i all) s u → DidStore (write_all all) s (Err e) v
  goes_err all i n b s u v e l is same d k = k (Err e) v (subst (λ (ns : List StoredNode). DidStore (write_all ns) u (Err e) v) (sym (drop_at all i n n l is))
      (call_err (Write n.digest n.bytes) (λ _. write_all (drop (i + 1) all)) u v e (subst (λ (x : List ℕ). NodesDid may loses top faults (Write n.digest x) u (Err e) v) same d)))

  pub goes_end : (all : List StoredNode) (i : ℕ) (s u : N) → length all ≤ i → GoesOn all (drop i all) s u → DidStore (write_all all) s (Ok tt) u
  goes_end all i s u h k = k (Ok tt) u (subst (λ (ns : List StoredNode). DidStore (write_all ns) u (Ok tt) u) (sym (drop_all all i h)) ([], (refl, refl, refl)))

  pub install_first : (nodes : List StoredNode) (digest : List ℕ) (s t : N) (e : TreeError) → DidStore (write_all nodes) s (Err e) t → DidStore (install_plan nodes digest) s (Err e) t
  install_first nodes digest s t e d = did_err (store_does may top faults) (store_refuses loses top faults) (write_all nodes) (λ _. set_top digest) s t e d

  pub install_last : (nodes : List StoredNode) (digest : List ℕ) (s u t : N) (e : TreeError) → DidStore (write_all nodes) s (Ok tt) u → NodesDid may loses top faults (SetTop digest) u (Err e) t → DidStore (install_plan nodes digest) s (Err e) t
  install_last nodes digest s u t e d k = did_then (store_does may top faults) (store_refuses loses top faults) (write_all nodes) (λ _. set_top digest) s u t tt (Err e) d (call_err (SetTop digest) (λ _. Done digest) u t e k)

  pub install_ok : (nodes : List StoredNode) (digest : List ℕ) (s u t : N) → DidStore (write_all nodes) s (Ok tt) u → NodesDid may loses top faults (SetTop digest) u (Ok tt) t → DidStore (install_plan nodes digest) s (Ok digest) t
  install_ok nodes digest s u t d k = did_then (store_does may top faults) (store_refuses loses top faults) (write_all nodes) (λ _. set_top digest) s u t tt (Ok digest) d
      (call_ok (SetTop digest) (λ _. Done digest) u t t tt (Ok digest) k ([], (refl, refl, refl)))
