-- What the hasher admitted and what the store wrote, as one plan over both.
use Rattle.std.proofs.Common.{◌≡◌, ℕ, List, [], ◌∷◌, Option, None, Some, Result, Ok, Err, refl, ap, subst, inl, inr}
use Rattle.ens_base.specs.declared.entry.Entry.{Entry}
use Rattle.hash_book.specs.Hashing.{Book, Stays, Refuses as Rejects}
use Rattle.hash_book.specs.declared.error.HashError.{HashError}
use Rattle.hash_book.specs.declared.error.HashError.TheVariants as hashes
use Rattle.environment.specs.Stores.{NodeCall, NodeAnswer}
use Rattle.environment.specs.declared.errors.StoreError.{StoreError}
use Rattle.synctree.specs.Halves.{refused}
use Rattle.synctree.specs.Installs.{store_does, store_refuses, install_plan}
use Rattle.synctree.specs.Meanings.{Enters}
use Rattle.synctree.specs.Outsides.{outside_does, outside_refuses}
use Rattle.synctree.specs.Plans.{Call, Node, Hash, AnswerOf, Plan, Done, Broken, Ask, Ends, Stops}
use Rattle.synctree.specs.declared.error.TreeError.{TreeError}
use Rattle.synctree.specs.declared.error.TreeError.TheVariants.{Damaged, Failed, Clash, BookFull, Memory}
use Rattle.synctree.proofs.Composing.{did_then, did_err}
use Rattle.synctree.proofs.Exits.{DidOutside}
use Rattle.synctree.proofs.Writing.{DidStore}
use Rattle.synctree.specs.Forms.{Form}
use Rattle.tree_node.specs.declared.position.Position.{Position}
use Rattle.tree_repair.specs.Admitting.{Admitted, Rejected}
use Rattle.tree_repair.specs.Builds.{build_nodes, build_of}
use Rattle.tree_repair.specs.Rebuilds.{hash_all, rebuild_plan}
use Rattle.tree_repair.specs.declared.built.Built.{Built}

module _ {N H : Type 0} (may : N → (call : NodeCall) → NodeAnswer call → N → Type 0) (loses : N → NodeCall → StoreError → N → Type 0) (top : N → Option (Option (List ℕ))) (faults : N → ℕ)
    (kept : H → Option Book) (clashes fulls : H → ℕ) where
  abbrev Does : N × H → (call : Call) → AnswerOf call → N × H → Type 0
  Does s call a t = outside_does may top faults kept clashes fulls s call a t

  abbrev Refuses : N × H → Call → TreeError → N × H → Type 0
  Refuses s call e t = outside_refuses loses top faults kept clashes fulls s call e t

  abbrev Both : {A : Type 0} → Plan A → N × H → Result A TreeError → N × H → Type 0
  Both plan s r t = DidOutside may loses top faults kept clashes fulls plan s r t

  abbrev Alone : {A : Type 0} → Plan A → N → Result A TreeError → N → Type 0
  Alone plan s r t = DidStore may loses top faults plan s r t

  -- the hasher admitted the strings
  hashes_end : (n : N) (xs : List (List ℕ)) (h k : H) → Admitted kept clashes fulls xs h k → Ends Does (hash_all xs) (n, h) xs (Ok tt) (n, k)
  hashes_end n [] h k same = (refl, refl, ap (λ (x : H). (n, x)) same)
  hashes_end n (x ∷ xs) h k (u, takes, c, f, rest) = (tt, (n, u), xs, (refl, takes, c, f), refl, hashes_end n xs u k rest)

  hash_refused : (n : N) (x : List ℕ) (h k : H) (e : HashError) → Stays (kept h) (kept k) → Rejects x (kept h) (clashes h) (clashes k) (fulls h) (fulls k) e → Refuses (n, h) (Hash x) (refused e) (n, k)
  hash_refused n x h k (hashes.Clash first second) stays why = (refl, stays, why)
  hash_refused n x h k (hashes.BookFull b) stays why = (refl, stays, why)
  hash_refused n x h k hashes.Memory stays why = (refl, stays, why)

  -- it rejected one of them, or memory ran out
  hashes_stop : (n : N) (xs : List (List ℕ)) (h k : H) (e : HashError) → Rejected kept clashes fulls xs h e k → Stops Does Refuses (hash_all xs) (n, h) (refused e) (n, k)
  hashes_stop n [] h k e (is, same) = (ap refused is, ap (λ (x : H). (n, x)) same)
  hashes_stop n (x ∷ xs) h k e (inl (is, same)) = inl (ap refused is, ap (λ (y : H). (n, y)) same)
  hashes_stop n (x ∷ xs) h k e (inr (inl (stays, why))) = inr (inl (hash_refused n x h k e stays why))
  hashes_stop n (x ∷ xs) h k e (inr (inr (u, takes, c, f, rest))) = inr (inr (tt, (n, u), (refl, takes, c, f), hashes_stop n xs u k e rest))

  hashes_err : (n : N) (xs : List (List ℕ)) (h k : H) (e : HashError) → Rejected kept clashes fulls xs h e k → Both (hash_all xs) (n, h) (Err (refused e)) (n, k)
  hashes_err n xs h k (hashes.Clash first second) why = hashes_stop n xs h k (hashes.Clash first second) why
  hashes_err n xs h k (hashes.BookFull b) why = hashes_stop n xs h k (hashes.BookFull b) why
  hashes_err n xs h k hashes.Memory why = hashes_stop n xs h k hashes.Memory why

  store_answer : (h : H) (s u : N) (call : Call) (a : AnswerOf call) → store_does may top faults s call a u → Does (s, h) call a (u, h)
  store_answer h s u (Node call) a did = (did.0, did.1, did.2, refl)
  store_answer h s u (Hash bytes) a did = absurd did

  node_refused : (h : H) (s u : N) (call : NodeCall) (e : TreeError) → store_refuses loses top faults s (Node call) e u → Refuses (s, h) (Node call) e (u, h)
  node_refused h s u call (Damaged at) off = absurd off
  node_refused h s u call Failed off = (off.0, off.1, off.2, off.3, refl)
  node_refused h s u call (Clash first second) off = absurd off
  node_refused h s u call (BookFull b) off = absurd off
  node_refused h s u call Memory off = (off.0, off.1, off.2, refl)

  store_refusal : (h : H) (s u : N) (call : Call) (e : TreeError) → store_refuses loses top faults s call e u → Refuses (s, h) call e (u, h)
  store_refusal h s u (Node call) e off = node_refused h s u call e off
  store_refusal h s u (Hash bytes) e off = absurd off

  -- a plan of the store alone left the hasher as it was
  store_ends : {A : Type 0} (h : H) (p : Plan A) (s t : N) (xs : List (List ℕ)) (out : Result A Position) → Ends (store_does may top faults) p s xs out t → Ends Does p (s, h) xs out (t, h)
  store_ends h (Done x) s t xs out (none, is, same) = (none, is, ap (λ (y : N). (y, h)) same)
  store_ends h (Broken at) s t xs out (none, is, same) = (none, is, ap (λ (y : N). (y, h)) same)
  store_ends h (Ask call next) s t xs out (a, u, rest, did, is, more) = (a, (u, h), rest, store_answer h s u call a did, is, store_ends h (next a) u t rest out more)

  store_stops : {A : Type 0} (h : H) (p : Plan A) (s t : N) (e : TreeError) → Stops (store_does may top faults) (store_refuses loses top faults) p s e t → Stops Does Refuses p (s, h) e (t, h)
  store_stops h (Done x) s t e (is, same) = (is, ap (λ (y : N). (y, h)) same)
  store_stops h (Broken at) s t e (is, same) = (is, ap (λ (y : N). (y, h)) same)
  store_stops h (Ask call next) s t e (inl (is, same)) = inl (is, ap (λ (y : N). (y, h)) same)
  store_stops h (Ask call next) s t e (inr (inl off)) = inr (inl (store_refusal h s t call e off))
  store_stops h (Ask call next) s t e (inr (inr (a, u, did, more))) = inr (inr (a, (u, h), store_answer h s u call a did, store_stops h (next a) u t e more))

  store_did : {A : Type 0} (h : H) (p : Plan A) (s t : N) (r : Result A TreeError) → Alone p s r t → Both p (s, h) r (t, h)
  store_did h p s t (Ok x) (xs, did) = (xs, store_ends h p s t xs (Ok x) did)
  store_did h p s t (Err (Damaged at)) (xs, did) = (xs, store_ends h p s t xs (Err at) did)
  store_did h p s t (Err Failed) did = store_stops h p s t Failed did
  store_did h p s t (Err (Clash first second)) did = store_stops h p s t (Clash first second) did
  store_did h p s t (Err (BookFull b)) did = store_stops h p s t (BookFull b) did
  store_did h p s t (Err Memory) did = store_stops h p s t Memory did

  -- the hasher rejected a node of the build, and nothing was written
  pub not_built : (F : Form) (m : List Entry) (n : N) (h k : H) (e : HashError) → Rejected kept clashes fulls (build_nodes F m) h e k → Both (rebuild_plan F m) (n, h) (Err (refused e)) (n, k)
  not_built F m n h k e why = did_err Does Refuses (hash_all (build_nodes F m)) (λ _. install_plan (build_of F m).nodes (build_of F m).top) (n, h) (n, k) (refused e) (hashes_err n (build_nodes F m) h k e why)

  -- the hasher admitted the nodes of the build, and the store was asked to write them
  then_installed : (F : Form) (m : List Entry) (n t : N) (h k : H) (r : Result (List ℕ) TreeError) → Admitted kept clashes fulls (build_nodes F m) h k → Alone (install_plan (build_of F m).nodes (build_of F m).top) n r t
      → Both (rebuild_plan F m) (n, h) r (t, k)
  then_installed F m n t h k r a did = did_then Does Refuses (hash_all (build_nodes F m)) (λ _. install_plan (build_of F m).nodes (build_of F m).top) (n, h) (n, k) (t, k) tt r
      (build_nodes F m, hashes_end n (build_nodes F m) h k a)
      (store_did k (install_plan (build_of F m).nodes (build_of F m).top) n t r did)

  enters_more : (P Q : Result (List ℕ) TreeError → Type 0) (old new : Option (List ℕ)) (r : Result (Unit {0}) TreeError) → ((x : Result (List ℕ) TreeError) → P x → Q x) → Enters P old r new → Enters Q old r new
  enters_more P Q old (Some root) (Ok u) k did = k (Ok root) did
  enters_more P Q old None (Ok u) k did = absurd did
  enters_more P Q old new (Err e) k did = (k (Err e) did.0, did.1)

  pub rebuilt : (F : Form) (m : List Entry) (built : Built) (n t : N) (h k : H) (old new : Option (List ℕ)) (r : Result (Unit {0}) TreeError) → built ≡ build_of F m → Admitted kept clashes fulls (build_nodes F m) h k
      → Enters (λ x. Alone (install_plan built.nodes built.top) n x t) old r new → Enters (λ x. Both (rebuild_plan F m) (n, h) x (t, k)) old r new
  rebuilt F m built n t h k old new r is a did = enters_more (λ x. Alone (install_plan (build_of F m).nodes (build_of F m).top) n x t) (λ x. Both (rebuild_plan F m) (n, h) x (t, k)) old new r
      (λ x part. then_installed F m n t h k x a part)
      (subst (λ (b : Built). Enters (λ x. Alone (install_plan b.nodes b.top) n x t) old r new) is did)
