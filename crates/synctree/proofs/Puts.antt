-- The steps of a walk that enters an entry.
use Rattle.std.proofs.Common.{◌≡◌, ℕ, zero, suc, ◌<◌, ◌≤◌, ◌/◌, ◌%◌, drop, List, [], ◌∷◌, ◌++◌, Option, None, Some, Result, Ok, Err, IfOk, get_or, set, replicate, length, refl, ap, sym, ◌∙◌, subst, arith, Bool, true, false, cond}
use Rattle.std.specs.Prelude.{IsErr, slice_get, ◌==◌, insert}
use Rattle.std.specs.Result.{IsErrAnd}
use Rattle.std.specs.declared.cmp.Ordering.{Ordering}
use Rattle.std.specs.declared.cmp.Ordering.TheVariants.{Less, Equal, Greater}
use Rattle.ens_base.specs.declared.entry.Entry.{Entry}
use Rattle.ens_base.specs.Lists.{bytes_cmp}
use Rattle.hash_book.specs.Hashing.{Book}
use Rattle.environment.specs.Stores.{NodeCall, NodeAnswer}
use Rattle.environment.specs.declared.errors.StoreError.{StoreError}
use Rattle.synctree.specs.TreeNode.{Position, TreeVersion, InnerNode, NodeError, inner_spelling, segment_spelling, inner_of, IsNext, AreAbove, AreEntries, AreListed}
use Rattle.synctree.specs.Entries.{IsBelowAll, Ascends, put}
use Rattle.synctree.specs.Forms.{Form, child}
use Rattle.synctree.specs.Sixteen.{form_of, spread, children_of, inner_node, segment, children_in}
use Rattle.synctree.proofs.Parts.{ascends-put, below_trans}
use Rattle.synctree.proofs.Formats.{above_of}
use Rattle.synctree.proofs.TreeNode.{less_above, key_above}
use Rattle.synctree.specs.declared.error.TreeError.{TreeError}
use Rattle.synctree.specs.Plans.{Call, AnswerOf, Did}
use Rattle.synctree.specs.Walks.{open_node, reach, store, enter}
use Rattle.synctree.proofs.Exits.{DidOutside, after, cut_off}
use Rattle.synctree.proofs.Meaning.{opened}
use Rattle.synctree.proofs.Places.{inner_is}

pub inner_text_is : (v : TreeVersion) (at : Position) (cs : List (Option (List ℕ))) → (form_of v).inner_text at cs ≡ inner_spelling (inner_node v at cs)
unfolding form_of
inner_text_is v at cs = refl

pub segment_text_is : (v : TreeVersion) (at : Position) (es : List Entry) → (form_of v).segment_text at es ≡ segment_spelling (segment v at es)
unfolding form_of
segment_text_is v at es = refl

length_spread : (n mask : ℕ) (ds : List (List ℕ)) → length (spread n mask ds) ≡ n
length_spread zero mask ds = refl
length_spread (suc n) mask ds = by (mask % 2 == 1) (length_spread n)
  where
    by : (b : Bool) → ((m : ℕ) (es : List (List ℕ)) → length (spread n m es) ≡ n) → length (cond b (slice_get ds 0 ∷ spread n (mask / 2) (drop 1 ds)) (None ∷ spread n (mask / 2) ds)) ≡ suc n
    by true f = ap suc (f (mask / 2) (drop 1 ds))
    by false f = ap suc (f (mask / 2) ds)

length_children : (mask : ℕ) (ds : List (List ℕ)) → length (children_of mask ds) ≡ 16
unfolding children_of
length_children mask ds = length_spread 16 mask ds

pub read_width : (r : Result InnerNode NodeError) (names : List (Option (List ℕ))) → children_in r ≡ Some names → length names ≡ 16
read_width (Ok n) names e = let is : children_of n.mask n.digests ≡ names = cc in ap length (sym is) ∙ length_children n.mask n.digests
read_width (Err d) names e = absurd cc

pub width_of : {S : Type 0} (does : S → (call : Call) → AnswerOf call → S → Type 0) (refuses : S → Call → TreeError → S → Type 0) (v : TreeVersion) (at : Position) (digest : List ℕ) (s t : S) (r : Result (List (Option (List ℕ))) TreeError) → Did does refuses (open_node ((form_of v).inner_at at) at digest) s r t → IfOk r (λ names. length names ≡ 16)
width_of does refuses v at digest s t (Ok names) (xs, ends) = let o = opened does ((form_of v).inner_at at) at digest s t xs names ends in read_width (inner_of v at o.bytes) names (sym (inner_is v at o.bytes) ∙ o.is_node)
width_of does refuses v at digest s t (Err e) d = tt

-- ## Entries in order

listed_below : (low : List ℕ) (es : List Entry) → AreListed IsNext (λ e. e.key) low es → IsBelowAll low es
listed_below low [] a = tt
listed_below low (e ∷ es) a = (less_above low e.key a.0.0, below_trans low e.key es (less_above low e.key a.0.0) (listed_below e.key es a.1))

listed_ascends : (low : List ℕ) (es : List Entry) → AreListed IsNext (λ e. e.key) low es → Ascends es
listed_ascends low [] a = tt
listed_ascends low (e ∷ es) a = (listed_below e.key es a.1, listed_ascends e.key es a.1)

pub put_above : (e : Entry) (es : List Entry) → 1 ≤ length e.key → AreEntries es → AreAbove [] (put e es)
put_above e [] l a = (key_above e.key l, tt)
put_above e (x ∷ es) l a = by (bytes_cmp e.key x.key) refl
  where
    sorted : Ascends (put e (x ∷ es))
    sorted = ascends-put e (x ∷ es) (listed_ascends [] (x ∷ es) a)

    by : (o : Ordering) → bytes_cmp e.key x.key ≡ o → AreAbove [] (put e (x ∷ es))
    by Less is = let s = rw is at sorted in rw is (key_above e.key l, above_of e.key (x ∷ es) s.0 s.1)
    by Equal is = let s = rw is at sorted in rw is (key_above e.key l, above_of e.key es s.0 s.1)
    by Greater is = let s = rw is at sorted in rw is (key_above x.key a.0.1.key.size.0, above_of x.key (put e es) s.0 s.1)

-- the place of an entry
pub put_same : (e : Entry) (xs : List Entry) (i : ℕ) → i < length xs → ((j : ℕ) → j < i → bytes_cmp e.key (get_or xs j e).key ≡ Greater) → bytes_cmp e.key (get_or xs i e).key ≡ Equal → put e xs ≡ set xs i e
put_same e [] i l above same = absurd (omega arith)
put_same e (x ∷ xs) zero l above same = rw same refl
put_same e (x ∷ xs) (suc i) l above same = rw (above 0 (omega arith)) (ap (λ ys. x ∷ ys) (put_same e xs i (omega arith) (λ j b. above (suc j) (omega arith)) same))

pub put_before : (e : Entry) (xs : List Entry) (i : ℕ) → i < length xs → ((j : ℕ) → j < i → bytes_cmp e.key (get_or xs j e).key ≡ Greater) → bytes_cmp e.key (get_or xs i e).key ≡ Less → put e xs ≡ insert xs i e
put_before e [] i l above less = absurd (omega arith)
put_before e (x ∷ xs) zero l above less = rw less refl
put_before e (x ∷ xs) (suc i) l above less = rw (above 0 (omega arith)) (ap (λ ys. x ∷ ys) (put_before e xs i (omega arith) (λ j b. above (suc j) (omega arith)) less))

pub put_last : (e : Entry) (xs : List Entry) → ((j : ℕ) → j < length xs → bytes_cmp e.key (get_or xs j e).key ≡ Greater) → put e xs ≡ xs ++ e ∷ []
put_last e [] above = refl
put_last e (x ∷ xs) above = rw (above 0 (omega arith)) (ap (λ ys. x ∷ ys) (put_last e xs (λ j b. above (suc j) (omega arith))))

module _ {N H : Type 0} (may : N → (call : NodeCall) → NodeAnswer call → N → Type 0) (loses : N → NodeCall → StoreError → N → Type 0) (top : N → Option (Option (List ℕ))) (faults : N → ℕ)
    (kept : H → Option Book) (clashes fulls : H → ℕ) (F : Form) where
  pub enter_err : (h b : ℕ) (at : Position) (named : Option (List ℕ)) (x : Entry) (s t : N × H) (r : Result (List ℕ) TreeError) (e : TreeError) (G : TreeError → Type 0) → h ≡ suc b
      → DidOutside may loses top faults kept clashes fulls (reach (F.inner_at at) (replicate F.width None) at named) s (Err e) t → IsErr r → IsErrAnd r G → ((d : TreeError) → G d → d ≡ e) → DidOutside may loses top faults kept clashes fulls (enter F h at named x) s r t
  enter_err h b at named x s t r e G z d is and same = subst (λ (n : ℕ). DidOutside may loses top faults kept clashes fulls (enter F n at named x) s r t) (sym z)
      (cut_off may loses top faults kept clashes fulls (reach (F.inner_at at) (replicate F.width None) at named) _ s t r e G d is and same)

  pub enter_below_err : (h b c : ℕ) (at : Position) (named name : Option (List ℕ)) (x : Entry) (s u t : N × H) (names : List (Option (List ℕ))) (r : Result (List ℕ) TreeError) (e : TreeError) (G : TreeError → Type 0) → h ≡ suc b → c ≡ F.digit x.key at.level
      → DidOutside may loses top faults kept clashes fulls (reach (F.inner_at at) (replicate F.width None) at named) s (Ok names) u → name ≡ get_or names c None → DidOutside may loses top faults kept clashes fulls (enter F b (child F at c) name x) u (Err e) t → IsErr r → IsErrAnd r G → ((d : TreeError) → G d → d ≡ e) → DidOutside may loses top faults kept clashes fulls (enter F h at named x) s r t
  enter_below_err h b c at named name x s u t names r e G z is d so below fails and same = subst (λ (n : ℕ). DidOutside may loses top faults kept clashes fulls (enter F n at named x) s r t) (sym z)
      (after may loses top faults kept clashes fulls (reach (F.inner_at at) (replicate F.width None) at named) _ s u t names r d
      (cut_off may loses top faults kept clashes fulls (enter F b (child F at (F.digit x.key at.level)) (get_or names (F.digit x.key at.level) None) x) _ u t r e G
      (subst (λ (n : ℕ). DidOutside may loses top faults kept clashes fulls (enter F b (child F at n) (get_or names n None) x) u (Err e) t) is (subst (λ (q : Option (List ℕ)). DidOutside may loses top faults kept clashes fulls (enter F b (child F at c) q x) u (Err e) t) so below)) fails and same))

  pub enter_ok : (h b c : ℕ) (at : Position) (named name : Option (List ℕ)) (below : List ℕ) (x : Entry) (s u v t : N × H) (names : List (Option (List ℕ))) (r : Result (List ℕ) TreeError) → h ≡ suc b → c ≡ F.digit x.key at.level
      → DidOutside may loses top faults kept clashes fulls (reach (F.inner_at at) (replicate F.width None) at named) s (Ok names) u → name ≡ get_or names c None → DidOutside may loses top faults kept clashes fulls (enter F b (child F at c) name x) u (Ok below) v → DidOutside may loses top faults kept clashes fulls (store (F.inner_text at (set names c (Some below)))) v r t → DidOutside may loses top faults kept clashes fulls (enter F h at named x) s r t
  enter_ok h b c at named name below x s u v t names r z is d so lower last = subst (λ (n : ℕ). DidOutside may loses top faults kept clashes fulls (enter F n at named x) s r t) (sym z)
      (after may loses top faults kept clashes fulls (reach (F.inner_at at) (replicate F.width None) at named) _ s u t names r d
      (after may loses top faults kept clashes fulls (enter F b (child F at (F.digit x.key at.level)) (get_or names (F.digit x.key at.level) None) x) (λ digest. store (F.inner_text at (set names (F.digit x.key at.level) (Some digest)))) u v t below r
      (subst (λ (n : ℕ). DidOutside may loses top faults kept clashes fulls (enter F b (child F at n) (get_or names n None) x) u (Ok below) v) is (subst (λ (q : Option (List ℕ)). DidOutside may loses top faults kept clashes fulls (enter F b (child F at c) q x) u (Ok below) v) so lower))
      (subst (λ (n : ℕ). DidOutside may loses top faults kept clashes fulls (store (F.inner_text at (set names n (Some below)))) v r t) is last)))
