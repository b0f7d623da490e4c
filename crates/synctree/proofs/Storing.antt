-- The steps of writing a node.
use Rattle.std.proofs.Common.{◌≡◌, ℕ, List, [], Option, Ok, Err, refl, sym, subst}
use Rattle.hash_book.specs.Hashing.{Book}
use Rattle.md5.specs.Md5.{md5}
use Rattle.environment.specs.Stores.{NodeCall, NodeAnswer, Write}
use Rattle.environment.specs.declared.errors.StoreError.{StoreError}
use Rattle.synctree.specs.TreeNode.{TreeVersion, One, Two, inner_spelling}
use Rattle.synctree.specs.Forms.{root}
use Rattle.synctree.specs.Maps.{text}
use Rattle.synctree.specs.Sixteen.{form_of}
use Rattle.synctree.specs.declared.error.TreeError.{TreeError}
use Rattle.synctree.specs.Plans.{Node, Done, Ask}
use Rattle.synctree.specs.Halves.{NodesDid, HasherDid}
use Rattle.synctree.specs.Walks.{store}
use Rattle.synctree.proofs.Exits.{DidOutside, node_err, node_ok, hash_ok}

pub empty_is : (v : TreeVersion) → text (form_of v) (form_of v).depth root [] ≡ inner_spelling (record { version = v; position = root; mask = 0; digests = [] })
unfolding form_of
empty_is One = refl
empty_is Two = refl

module _ {N H : Type 0} (may : N → (call : NodeCall) → NodeAnswer call → N → Type 0) (loses : N → NodeCall → StoreError → N → Type 0) (top : N → Option (Option (List ℕ))) (faults : N → ℕ)
    (kept : H → Option Book) (clashes fulls : H → ℕ) where
  pub store_err : (bytes digest : List ℕ) (n u : N) (h v : H) (e : TreeError) → digest ≡ md5 bytes → HasherDid {A = List ℕ} kept clashes fulls bytes h (Ok digest) v → NodesDid may loses top faults (Write digest bytes) n (Err e) u → DidOutside may loses top faults kept clashes fulls (store bytes) (n, h) (Err e) (u, v)
  store_err bytes digest n u h v e is k d = hash_ok may loses top faults kept clashes fulls bytes (λ _. Ask (Node (Write (md5 bytes) bytes)) (λ _. Done (md5 bytes))) n h v digest (Err e) (u, v) k
      (node_err may loses top faults kept clashes fulls (Write (md5 bytes) bytes) (λ _. Done (md5 bytes)) n u v e (subst (λ (x : List ℕ). NodesDid may loses top faults (Write x bytes) n (Err e) u) is d))

  pub store_ok : (bytes digest : List ℕ) (n u : N) (h v : H) → digest ≡ md5 bytes → HasherDid {A = List ℕ} kept clashes fulls bytes h (Ok digest) v → NodesDid may loses top faults (Write digest bytes) n (Ok tt) u → DidOutside may loses top faults kept clashes fulls (store bytes) (n, h) (Ok digest) (u, v)
  store_ok bytes digest n u h v is k d = subst (λ (x : List ℕ). DidOutside may loses top faults kept clashes fulls (store bytes) (n, h) (Ok x) (u, v)) (sym is)
      (hash_ok may loses top faults kept clashes fulls bytes (λ _. Ask (Node (Write (md5 bytes) bytes)) (λ _. Done (md5 bytes))) n h v digest (Ok (md5 bytes)) (u, v) k
      (node_ok may loses top faults kept clashes fulls (Write (md5 bytes) bytes) (λ _. Done (md5 bytes)) n u v tt (Ok (md5 bytes)) (u, v) (subst (λ (x : List ℕ). NodesDid may loses top faults (Write x bytes) n (Ok tt) u) is d) ([], (refl, refl, refl))))
