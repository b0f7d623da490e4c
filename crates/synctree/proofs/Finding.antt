-- The steps of a walk that finds an entry.
use Rattle.std.proofs.Common.{◌≡◌, ℕ, suc, List, [], Option, None, Some, Result, Ok, Err, get_or, refl, sym, ◌∙◌, subst}
use Rattle.std.specs.Prelude.{IsErr}
use Rattle.std.specs.Result.{IsErrAnd}
use Rattle.ens_base.specs.declared.entry.Entry.{Entry}
use Rattle.hash_book.specs.Hashing.{Book}
use Rattle.environment.specs.Stores.{NodeCall, NodeAnswer}
use Rattle.environment.specs.declared.errors.StoreError.{StoreError}
use Rattle.synctree.specs.TreeNode.{Position}
use Rattle.synctree.specs.Forms.{Form, child}
use Rattle.synctree.specs.declared.error.TreeError.{TreeError}
use Rattle.std.specs.Option.{option_map}
use Rattle.synctree.specs.Nodes.{child_name}
use Rattle.synctree.specs.Plans.{Plan, Done, ◌>>=◌}
use Rattle.synctree.specs.Walks.{fetch, open_node, onward, spelled, find}
use Rattle.synctree.proofs.Composing.{in_turn}
use Rattle.synctree.proofs.Exits.{DidOutside, after, cut_off}

module _ {N H : Type 0} (may : N → (call : NodeCall) → NodeAnswer call → N → Type 0) (loses : N → NodeCall → StoreError → N → Type 0) (top : N → Option (Option (List ℕ))) (faults : N → ℕ)
    (kept : H → Option Book) (clashes fulls : H → ℕ) (F : Form) where
  -- an entry is found under the child that its key names
  find_is : (b : ℕ) (at : Position) (digest key : List ℕ)
      → find F (suc b) at digest key ≡ (child_name F at (F.digit key at.level) digest >>= onward None (λ below. find F b (child F at (F.digit key at.level)) below key))
  find_is b at digest key = sym (in_turn (open_node (F.inner_at at) at digest) (λ names. Done (get_or names (F.digit key at.level) None)) (onward None (λ below. find F b (child F at (F.digit key at.level)) below key)))

  -- what was done by the child of this number, and then further down
  through : (h b : ℕ) (at : Position) (digest key : List ℕ) (s t : N × H) (r : Result (Option Entry) TreeError) → h ≡ suc b
      → DidOutside may loses top faults kept clashes fulls (child_name F at (F.digit key at.level) digest >>= onward None (λ below. find F b (child F at (F.digit key at.level)) below key)) s r t → DidOutside may loses top faults kept clashes fulls (find F h at digest key) s r t
  through h b at digest key s t r z d = subst (λ (n : ℕ). DidOutside may loses top faults kept clashes fulls (find F n at digest key) s r t) (sym z)
      (subst (λ (p : Plan (Option Entry)). DidOutside may loses top faults kept clashes fulls p s r t) (sym (find_is b at digest key)) d)

  pub find_err : (h b c : ℕ) (at : Position) (digest key : List ℕ) (s t : N × H) (r : Result (Option Entry) TreeError) (e : TreeError) (G : TreeError → Type 0) → h ≡ suc b → c ≡ F.digit key at.level
      → DidOutside may loses top faults kept clashes fulls (child_name F at c digest) s (Err e) t → IsErr r → IsErrAnd r G → ((d : TreeError) → G d → d ≡ e) → DidOutside may loses top faults kept clashes fulls (find F h at digest key) s r t
  find_err h b c at digest key s t r e G z is d bad and same = through h b at digest key s t r z
      (cut_off may loses top faults kept clashes fulls (child_name F at (F.digit key at.level) digest) (onward None (λ below. find F b (child F at (F.digit key at.level)) below key)) s t r e G
      (subst (λ (n : ℕ). DidOutside may loses top faults kept clashes fulls (child_name F at n digest) s (Err e) t) is d) bad and same)

  pub find_none : (h b c : ℕ) (at : Position) (digest key : List ℕ) (s t : N × H) (o : Option (List ℕ)) → h ≡ suc b → c ≡ F.digit key at.level
      → DidOutside may loses top faults kept clashes fulls (child_name F at c digest) s (Ok o) t → o ≡ None → DidOutside may loses top faults kept clashes fulls (find F h at digest key) s (Ok None) t
  find_none h b c at digest key s t o z is d none = through h b at digest key s t (Ok None) z
      (after may loses top faults kept clashes fulls (child_name F at (F.digit key at.level) digest) (onward None (λ below. find F b (child F at (F.digit key at.level)) below key)) s t t o (Ok None)
      (subst (λ (n : ℕ). DidOutside may loses top faults kept clashes fulls (child_name F at n digest) s (Ok o) t) is d)
      (subst (λ (q : Option (List ℕ)). DidOutside may loses top faults kept clashes fulls (onward None (λ below. find F b (child F at (F.digit key at.level)) below key) q) t (Ok None) t) (sym none) ([], (refl, refl, refl))))

  pub find_down : (h b c : ℕ) (at : Position) (digest below key : List ℕ) (s u t : N × H) (o : Option (List ℕ)) (r : Result (Option Entry) TreeError) → h ≡ suc b → c ≡ F.digit key at.level
      → DidOutside may loses top faults kept clashes fulls (child_name F at c digest) s (Ok o) u → o ≡ Some below → DidOutside may loses top faults kept clashes fulls (find F b (child F at c) below key) u r t → DidOutside may loses top faults kept clashes fulls (find F h at digest key) s r t
  find_down h b c at digest below key s u t o r z is d some rest = through h b at digest key s t r z
      (after may loses top faults kept clashes fulls (child_name F at (F.digit key at.level) digest) (onward None (λ below. find F b (child F at (F.digit key at.level)) below key)) s u t o r
      (subst (λ (n : ℕ). DidOutside may loses top faults kept clashes fulls (child_name F at n digest) s (Ok o) u) is d)
      (subst (λ (q : Option (List ℕ)). DidOutside may loses top faults kept clashes fulls (onward None (λ below. find F b (child F at (F.digit key at.level)) below key) q) u r t) (sym some)
      (subst (λ (n : ℕ). DidOutside may loses top faults kept clashes fulls (find F b (child F at n) below key) u r t) is rest)))

-- the child of a node, as what is read after its bytes are fetched
pub child_is : (F : Form) (at : Position) (c : ℕ) (digest : List ℕ) → child_name F at c digest ≡ (fetch at digest >>= (λ bytes. spelled at (option_map (λ names. get_or names c None) (F.inner_at at bytes))))
child_is F at c digest =
    in_turn (fetch at digest) (λ bytes. spelled at (F.inner_at at bytes)) (λ names. Done (get_or names c None))
    ∙ (λ i. fetch at digest >>= (λ bytes. named_in (F.inner_at at bytes) i))
  where
    named_in : (o : Option (List (Option (List ℕ)))) → (spelled at o >>= (λ names. Done (get_or names c None))) ≡ spelled at (option_map (λ names. get_or names c None) o)
    named_in None = refl
    named_in (Some names) = refl
