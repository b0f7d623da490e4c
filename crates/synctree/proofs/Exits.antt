-- How a call to the store or to the hasher begins a plan.
use Rattle.std.proofs.Common.{◌≡◌, ℕ, List, [], Option, None, Some, Result, Ok, Err, refl, ap, sym, ◌∙◌, subst, inl, inr}
use Rattle.std.specs.Prelude.{IsErr, if◌then◌else◌, true, false, Bool}
use Rattle.std.specs.Result.{IsErrAnd}
use Rattle.hash_book.specs.Hashing.{Book}
use Rattle.environment.specs.Stores.{NodeCall, NodeAnswer, Read}
use Rattle.environment.specs.declared.errors.StoreError.{StoreError}
use Rattle.synctree.specs.declared.error.TreeError.{TreeError}
use Rattle.synctree.specs.declared.error.TreeError.TheVariants.{Damaged, Failed, Clash, BookFull, Memory}
use Rattle.synctree.specs.Plans.{Node, Hash, Plan, Done, Broken, Ask, ◌>>=◌, Did}
use Rattle.synctree.specs.Outsides.{outside_does, outside_refuses}
use Rattle.synctree.specs.Halves.{NodesDid, HasherDid}
use Rattle.md5.specs.Md5.{md5}
use Rattle.ens_base.specs.Lists.{same_bytes}
use Rattle.synctree.specs.TreeNode.{Position}
use Rattle.synctree.specs.Walks.{verified, fetch, spelled}
use Rattle.synctree.specs.Answers.{Spells, Makes}
use Rattle.synctree.proofs.Composing.{did_ask, did_then, did_err, stops_memory}

-- `?` returns the error that it met
pub passed_on : {A : Type 0} (r : Result A TreeError) (e : TreeError) (G : TreeError → Type 0) (P : Result A TreeError → Type 0) → IsErr r → IsErrAnd r G → ((d : TreeError) → G d → d ≡ e) → P (Err e) → P r
passed_on (Ok x) e G P is and same h = absurd cc
passed_on {A} (Err d) e G P is and same h = subst (λ (x : TreeError). P (failed A x)) (sym (same d and)) h
  where
    failed : (A : Type 0) → TreeError → Result A TreeError
    failed A x = Err x

module _ {N H : Type 0} (may : N → (call : NodeCall) → NodeAnswer call → N → Type 0) (loses : N → NodeCall → StoreError → N → Type 0) (top : N → Option (Option (List ℕ))) (faults : N → ℕ)
    (kept : H → Option Book) (clashes fulls : H → ℕ) where
  abbrev pub DidOutside : {A : Type 0} → Plan A → N × H → Result A TreeError → N × H → Type 0
  DidOutside plan s r t = Did (outside_does may top faults kept clashes fulls) (outside_refuses loses top faults kept clashes fulls) plan s r t

  pub node_err : {A : Type 0} (call : NodeCall) (next : NodeAnswer call → Plan A) (n u : N) (h : H) (e : TreeError) → NodesDid may loses top faults call n (Err e) u → DidOutside (Ask (Node call) next) (n, h) (Err e) (u, h)
  node_err call next n u h (Damaged at) d = absurd d
  node_err call next n u h Failed d = inr (inl (d.0, d.1, d.2, d.3, refl))
  node_err call next n u h (Clash first second) d = absurd d
  node_err call next n u h (BookFull b) d = absurd d
  node_err call next n u h Memory d = inr (inl (d.0, d.1, d.2, refl))

  pub node_ok : {A : Type 0} (call : NodeCall) (next : NodeAnswer call → Plan A) (n u : N) (h : H) (answer : NodeAnswer call) (r : Result A TreeError) (t : N × H) → NodesDid may loses top faults call n (Ok answer) u → DidOutside (next answer) (u, h) r t → DidOutside (Ask (Node call) next) (n, h) r t
  node_ok call next n u h answer r t d rest = did_ask (outside_does may top faults kept clashes fulls) (outside_refuses loses top faults kept clashes fulls) (Node call) next (n, h) (u, h) t answer r (d.0, d.1, d.2, refl) rest

  pub hash_err : {A : Type 0} (B : Type 0) (bytes : List ℕ) (next : Unit {0} → Plan A) (n : N) (h u : H) (e : TreeError) → HasherDid {A = B} kept clashes fulls bytes h (Err e) u → DidOutside (Ask (Hash bytes) next) (n, h) (Err e) (n, u)
  hash_err B bytes next n h u (Damaged at) d = absurd d
  hash_err B bytes next n h u Failed d = absurd d
  hash_err B bytes next n h u (Clash first second) d = inr (inl (refl, d.0, d.1))
  hash_err B bytes next n h u (BookFull b) d = inr (inl (refl, d.0, d.1))
  hash_err B bytes next n h u Memory d = inr (inl (refl, d.0, d.1))

  pub hash_ok : {A B : Type 0} (bytes : List ℕ) (next : Unit {0} → Plan A) (n : N) (h u : H) (x : B) (r : Result A TreeError) (t : N × H) → HasherDid {A = B} kept clashes fulls bytes h (Ok x) u → DidOutside (next tt) (n, u) r t → DidOutside (Ask (Hash bytes) next) (n, h) r t
  hash_ok bytes next n h u x r t d rest = did_ask (outside_does may top faults kept clashes fulls) (outside_refuses loses top faults kept clashes fulls) (Hash bytes) next (n, h) (n, u) t tt r (refl, d.0, d.1, d.2) rest

  pub out_of_memory : {A : Type 0} (plan : Plan A) (s : N × H) → DidOutside plan s (Err Memory) s
  out_of_memory plan s = stops_memory (outside_does may top faults kept clashes fulls) (outside_refuses loses top faults kept clashes fulls) plan s

  pub fetch_none : (at : Position) (digest : List ℕ) (n u : N) (h : H) (o : Option (List ℕ)) → o ≡ None → NodesDid may loses top faults (Read digest) n (Ok o) u → DidOutside (fetch at digest) (n, h) (Err (Damaged at)) (u, h)
  fetch_none at digest n u h o is d = node_ok (Read digest) (verified at digest) n u h o (Err (Damaged at)) (u, h) d (rw is ([], (refl, refl, refl)))

  pub fetch_hash_err : (at : Position) (digest bytes b : List ℕ) (n u : N) (h v : H) (o : Option (List ℕ)) (e : TreeError) → o ≡ Some bytes → NodesDid may loses top faults (Read digest) n (Ok o) u → b ≡ bytes → HasherDid {A = List ℕ} kept clashes fulls b h (Err e) v → DidOutside (fetch at digest) (n, h) (Err e) (u, v)
  fetch_hash_err at digest bytes b n u h v o e is d same k = node_ok (Read digest) (verified at digest) n u h o (Err e) (u, v) d
      (subst (λ (q : Option (List ℕ)). DidOutside (verified at digest q) (u, h) (Err e) (u, v)) (sym is) (hash_err (List ℕ) bytes (λ _. if same_bytes (md5 bytes) digest then Done bytes else Broken at) u h v e (subst (λ (x : List ℕ). HasherDid {A = List ℕ} kept clashes fulls x h (Err e) v) same k)))

  fetch_by : (at : Position) (digest bytes b x : List ℕ) (n u : N) (h v : H) (o : Option (List ℕ)) (test : Bool) (r : Result (List ℕ) TreeError) → o ≡ Some bytes → NodesDid may loses top faults (Read digest) n (Ok o) u → b ≡ bytes → HasherDid {A = List ℕ} kept clashes fulls b h (Ok x) v → x ≡ md5 b → test ≡ same_bytes x digest
      → DidOutside (if test then Done bytes else Broken at) (u, v) r (u, v) → DidOutside (fetch at digest) (n, h) r (u, v)
  fetch_by at digest bytes b x n u h v o test r is d same k has t rest = node_ok (Read digest) (verified at digest) n u h o r (u, v) d
      (subst (λ (q : Option (List ℕ)). DidOutside (verified at digest q) (u, h) r (u, v)) (sym is) (hash_ok bytes (λ _. if same_bytes (md5 bytes) digest then Done bytes else Broken at) u h v x r (u, v) (subst (λ (y : List ℕ). HasherDid {A = List ℕ} kept clashes fulls y h (Ok x) v) same k) (subst (λ (y : Bool). DidOutside (if y then Done bytes else Broken at) (u, v) r (u, v)) (t ∙ ap (λ (y : List ℕ). same_bytes y digest) (has ∙ ap md5 same)) rest)))

  pub fetch_ok : (at : Position) (digest bytes b x : List ℕ) (n u : N) (h v : H) (o : Option (List ℕ)) → o ≡ Some bytes → NodesDid may loses top faults (Read digest) n (Ok o) u → b ≡ bytes → HasherDid {A = List ℕ} kept clashes fulls b h (Ok x) v → x ≡ md5 b → true ≡ same_bytes x digest → DidOutside (fetch at digest) (n, h) (Ok bytes) (u, v)
  fetch_ok at digest bytes b x n u h v o is d same k has t = fetch_by at digest bytes b x n u h v o true (Ok bytes) is d same k has t ([], (refl, refl, refl))

  pub fetch_other : (at : Position) (digest bytes b x : List ℕ) (n u : N) (h v : H) (o : Option (List ℕ)) → o ≡ Some bytes → NodesDid may loses top faults (Read digest) n (Ok o) u → b ≡ bytes → HasherDid {A = List ℕ} kept clashes fulls b h (Ok x) v → x ≡ md5 b → false ≡ same_bytes x digest → DidOutside (fetch at digest) (n, h) (Err (Damaged at)) (u, v)
  fetch_other at digest bytes b x n u h v o is d same k has t = fetch_by at digest bytes b x n u h v o false (Err (Damaged at)) is d same k has t ([], (refl, refl, refl))

  pub spelled_did : {A : Type 0} (r : Result A TreeError) (at : Position) (o : Option A) (s : N × H) → Spells r at o → DidOutside (spelled at o) s r s
  spelled_did (Ok x) at o s is = rw is ([], (refl, refl, refl))
  spelled_did (Err (Damaged p)) at o s (is, same) = rw (is, same) ([], (refl, refl, refl))
  spelled_did (Err Failed) at o s is = absurd is
  spelled_did (Err (Clash first second)) at o s is = absurd is
  spelled_did (Err (BookFull b)) at o s is = absurd is
  spelled_did (Err Memory) at o s is = out_of_memory (spelled at o) s

  -- a value is made, or out of memory
  pub made_did : {A : Type 0} (r : Result A TreeError) (x : A) (s : N × H) → Makes r x → DidOutside (Done x) s r s
  made_did (Ok y) x s is = rw is ([], (refl, refl, refl))
  made_did (Err e) x s is = rw is (refl, refl)

  pub after : {A B : Type 0} (p : Plan A) (f : A → Plan B) (s u t : N × H) (x : A) (r : Result B TreeError) → DidOutside p s (Ok x) u → DidOutside (f x) u r t → DidOutside (p >>= f) s r t
  after p f s u t x r a b = did_then (outside_does may top faults kept clashes fulls) (outside_refuses loses top faults kept clashes fulls) p f s u t x r a b

  pub cut_off : {A B : Type 0} (p : Plan A) (f : A → Plan B) (s t : N × H) (r : Result B TreeError) (e : TreeError) (G : TreeError → Type 0) → DidOutside p s (Err e) t → IsErr r → IsErrAnd r G → ((d : TreeError) → G d → d ≡ e) → DidOutside (p >>= f) s r t
  cut_off p f s t r e G a is and same = passed_on r e G (λ x. DidOutside (p >>= f) s x t) is and same (did_err (outside_does may top faults kept clashes fulls) (outside_refuses loses top faults kept clashes fulls) p f s t e a)

  -- any plan may stop with an error that is out of memory
  pub memory_did : {A : Type 0} (plan : Plan A) (s : N × H) (e : TreeError) → e ≡ Memory → DidOutside plan s (Err e) s
  memory_did plan s e is = subst (λ (x : TreeError). DidOutside plan s (Err x) s) (sym is) (out_of_memory plan s)
