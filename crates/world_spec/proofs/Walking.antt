-- A plan of a tree over nodes in memory has one walk.
use Rattle.std.proofs.Common.{◌≡◌, ◌⊎◌, ℕ, List, [], ◌∷◌, ◌++◌, Option, None, Some, Result, Ok, Err, refl, sym, inl, inr, subst}
use Rattle.hash_book.specs.Hashing.{Book}
use Rattle.environment.specs.Stores.{NodeCall}
use Rattle.environment.specs.declared.memory.failing_call.Leaves.{Leaves}
use Rattle.synctree.specs.Outsides.{outside_does, outside_refuses}
use Rattle.synctree.specs.Plans.{Call, Node, Hash, AnswerOf, Plan, Done, Broken, Ask, Ends, Stops}
use Rattle.synctree.specs.declared.error.TreeError.{TreeError}
use Rattle.synctree.specs.declared.error.TreeError.TheVariants as trees
use Rattle.tree_node.specs.declared.position.Position.{Position}
use Rattle.world_stores.specs.Nodes.{Nodes, NodesDo, NodesRefuse, refusal, answer, after, top_of}
use Rattle.world_spec.specs.Held.{Account, account, HasHashed, StartsWith, unless_failing}
use Rattle.world_spec.specs.HeldLaws.{HasClashed, HasFilledAt}
use Rattle.world_spec.specs.Walks.{End, Came, Broke, Failed, Walk, walk, nodes_failed}
use Rattle.world_spec.proofs.Taken.{starts_here, starts_before, rejected_at, hashed_more}
use Rattle.ens_base.proofs.Causes.{rose_later}

-- the end of a plan, as the end of its walk
abbrev pub end_was : {A : Type 0} → Result A Position → End A
end_was (Ok x) = Came x
end_was (Err at) = Broke at

-- out of memory, or the hasher rejected the next of these strings
abbrev pub IsUnplannedTree : List (List ℕ) → Account → Account → TreeError → Type 0
IsUnplannedTree strings first now (trees.Damaged at) = ⊥
IsUnplannedTree strings first now trees.Failed = ⊥
IsUnplannedTree strings first now (trees.Clash kept new) = HasClashed strings first kept.items new.items now
IsUnplannedTree strings first now (trees.BookFull kept) = HasFilledAt kept strings first now
IsUnplannedTree strings first now trees.Memory = Unit {0}

pub goes_on : {R : Type 0} (o : Option Leaves) (goes w : R) (fails : Leaves → R) → o ≡ None → goes ≡ w → unless_failing o goes fails ≡ w
goes_on o goes w fails none same = rw none same

pub fails_by : {R : Type 0} (o : Option Leaves) (leaves : Leaves) (goes w : R) (fails : Leaves → R) → o ≡ Some leaves → fails leaves ≡ w → unless_failing o goes fails ≡ w
fails_by o leaves goes w fails some same = rw some same

-- a walk hashes strings after those hashed before
pub walk_grows : {A : Type 0} (p : Plan A) (s : Nodes) (hashed : List (List ℕ)) → StartsWith hashed (walk p s hashed).hashed
unfolding walk
walk_grows (Done x) s hashed = starts_here hashed
walk_grows (Broken at) s hashed = starts_here hashed
walk_grows (Ask (Hash bytes) next) s hashed = starts_before hashed bytes (walk (next tt) s (hashed ++ bytes ∷ [])).hashed (walk_grows (next tt) s (hashed ++ bytes ∷ []))
walk_grows (Ask (Node call) next) s hashed = by_failure (refusal s call) (walk_grows (next (answer s call)) (after s call) hashed) where
  by_failure : (o : Option Leaves) → StartsWith hashed (walk (next (answer s call)) (after s call) hashed).hashed
      → StartsWith hashed (unless_failing o (walk (next (answer s call)) (after s call) hashed) (λ leaves. record { end = Failed; nodes = nodes_failed s call leaves; hashed = hashed })).hashed
  by_failure None goes = goes
  by_failure (Some leaves) goes = starts_here hashed

module _ {H : Type 0} (strings : H → Option Book) (c d : H → ℕ) (first : Account) where
  -- what is known of a hasher
  abbrev tells : H → Account
  tells h = account strings c d h

  abbrev pub Does : Nodes × H → (call : Call) → AnswerOf call → Nodes × H → Type 0
  Does s call a t = outside_does NodesDo (λ n. Some (top_of n.tops)) (λ n. n.faults.count) strings c d s call a t

  abbrev pub Refuses : Nodes × H → Call → TreeError → Nodes × H → Type 0
  Refuses s call e t = outside_refuses NodesRefuse (λ n. Some (top_of n.tops)) (λ n. n.faults.count) strings c d s call e t

  -- the walk of the plan ends so, and the hasher took the strings of the walk after those before
  pub record IsWalk {A : Type 0} (p : Plan A) (s : Nodes × H) (hashed : List (List ℕ)) (end : End A) (t : Nodes × H) : Type 0 where
    pub now : List (List ℕ)
    pub is : walk p s.0 hashed ≡ record { end = end; nodes = t.0; hashed = now }
    pub has : HasHashed now first (tells t.1)

  taken_still : (hashed : List (List ℕ)) (g h : H) → h ≡ g → HasHashed hashed first (tells g) → HasHashed hashed first (tells h)
  taken_still hashed g h same taken = rw same taken

  ended : {A : Type 0} (p : Plan A) (s t : Nodes × H) (hashed : List (List ℕ)) (end : End A) → walk p s.0 hashed ≡ record { end = end; nodes = s.0; hashed = hashed } → t ≡ s → HasHashed hashed first (tells s.1) → IsWalk p s hashed end t
  ended p s t hashed end is same taken = rw same (record { now = hashed; is = is; has = taken })

  hashed_walk : {A : Type 0} (bytes : List ℕ) (next : Unit {0} → Plan A) (s u t : Nodes × H) (hashed : List (List ℕ)) (end : End A) → u.0 ≡ s.0 → IsWalk (next tt) u (hashed ++ bytes ∷ []) end t → IsWalk (Ask (Hash bytes) next) s hashed end t
  unfolding walk
  hashed_walk bytes next s u t hashed end same later = record {
    now = later.now;
    is = subst (λ n. walk (next tt) n (hashed ++ bytes ∷ []) ≡ record { end = end; nodes = t.0; hashed = later.now }) same later.is;
    has = later.has;
  }

  called_walk : {A : Type 0} (call : NodeCall) (next : AnswerOf (Node call) → Plan A) (s u t : Nodes × H) (hashed : List (List ℕ)) (a : AnswerOf (Node call)) (end : End A)
      → NodesDo s.0 call a u.0 → IsWalk (next a) u hashed end t → IsWalk (Ask (Node call) next) s hashed end t
  unfolding walk
  called_walk call next s u t hashed a end did later = record {
    now = later.now;
    is = goes_on (refusal s.0 call) (walk (next (answer s.0 call)) (after s.0 call) hashed) (record { end = end; nodes = t.0; hashed = later.now })
        (λ leaves. record { end = Failed; nodes = nodes_failed s.0 call leaves; hashed = hashed }) did.0 (rw (← did.1) (rw (← did.2) later.is));
    has = later.has;
  }

  -- a plan that came to an end has the walk with that end
  pub ends_walk : {A : Type 0} (p : Plan A) (s t : Nodes × H) (hashed xs : List (List ℕ)) (out : Result A Position) → HasHashed hashed first (tells s.1) → Ends Does p s xs out t → IsWalk p s hashed (end_was out) t
  unfolding walk
  ends_walk (Done x) s t hashed xs out taken came = rw came.1 (ended (Done x) s t hashed (Came x) refl came.2 taken)
  ends_walk (Broken at) s t hashed xs out taken came = rw came.1 (ended (Broken at) s t hashed (Broke at) refl came.2 taken)
  ends_walk (Ask (Hash bytes) next) s t hashed xs out taken came =
      let later = ends_walk (next tt) came.1 t (hashed ++ bytes ∷ []) came.2 out (hashed_more hashed bytes first (tells s.1) (tells came.1.1) taken came.3.1 came.3.2 came.3.3) came.5 in
      hashed_walk bytes next s came.1 t hashed (end_was out) came.3.0 later
  ends_walk (Ask (Node call) next) s t hashed xs out taken came =
      let later = ends_walk (next came.0) came.1 t hashed came.2 out (taken_still hashed s.1 came.1.1 came.3.3 taken) came.5 in
      called_walk call next s came.1 t hashed came.0 (end_was out) came.3.0 later

  -- the plan was stopped: out of memory, by the hasher, or by a write that failed, which ends its walk
  abbrev pub IsHalted : {A : Type 0} → Plan A → Nodes × H → List (List ℕ) → TreeError → Nodes × H → Type 0
  IsHalted p s hashed e t = IsUnplannedTree (walk p s.0 hashed).hashed first (tells t.1) e ⊎ ((e ≡ trees.Failed) × IsWalk p s hashed Failed t)

  memory_halts : {A : Type 0} (p : Plan A) (s t : Nodes × H) (hashed : List (List ℕ)) (e : TreeError) → e ≡ trees.Memory → IsHalted p s hashed e t
  memory_halts p s t hashed e is = inl (rw is tt)

  hash_refused : {A : Type 0} (bytes : List ℕ) (next : Unit {0} → Plan A) (s t : Nodes × H) (hashed : List (List ℕ)) (e : TreeError) → HasHashed hashed first (tells s.1) → Refuses s (Hash bytes) e t
      → IsUnplannedTree (walk (next tt) s.0 (hashed ++ bytes ∷ [])).hashed first (tells t.1) e
  hash_refused bytes next s t hashed (trees.Damaged at) taken off = off
  hash_refused bytes next s t hashed trees.Failed taken off = off
  hash_refused bytes next s t hashed (trees.Clash kept new) taken off =
      let rejected = rejected_at hashed (walk (next tt) s.0 (hashed ++ bytes ∷ [])).hashed first bytes (tells t.1) (walk_grows (next tt) s.0 (hashed ++ bytes ∷ [])) (rw off.1 taken.taken) in
      (rw off.2.2 rejected, off.2.0, rw off.1 off.2.1, rose_later first.clashes (c s.1) (c t.1) taken.clashes off.2.3)
  hash_refused bytes next s t hashed (trees.BookFull n) taken off =
      let rejected = rejected_at hashed (walk (next tt) s.0 (hashed ++ bytes ∷ [])).hashed first bytes (tells t.1) (walk_grows (next tt) s.0 (hashed ++ bytes ∷ [])) (rw off.1 taken.taken) in
      ((bytes, rejected, rose_later first.fulls (d s.1) (d t.1) taken.fulls off.2.0, rw off.1 off.2.2), rw off.1 off.2.3)
  hash_refused bytes next s t hashed trees.Memory taken off = tt

  hash_walk : {A : Type 0} (bytes : List ℕ) (next : Unit {0} → Plan A) (s : Nodes) (hashed : List (List ℕ)) → walk (Ask (Hash bytes) next) s hashed ≡ walk (next tt) s (hashed ++ bytes ∷ [])
  unfolding walk
  hash_walk bytes next s hashed = refl

  node_walk : {A : Type 0} (call : NodeCall) (next : AnswerOf (Node call) → Plan A) (s u : Nodes) (hashed : List (List ℕ)) (a : AnswerOf (Node call)) → NodesDo s call a u → walk (Ask (Node call) next) s hashed ≡ walk (next a) u hashed
  unfolding walk
  node_walk call next s u hashed a did =
      goes_on (refusal s call) (walk (next (answer s call)) (after s call) hashed) (walk (next a) u hashed) (λ leaves. record { end = Failed; nodes = nodes_failed s call leaves; hashed = hashed })
      did.0 (rw (← did.1) (rw (← did.2) refl))

  -- what cuts off a walk cuts off an equal one
  same_cut : {A : Type 0} (v w : Walk A) (now : Account) (e : TreeError) → w ≡ v → IsUnplannedTree v.hashed first now e → IsUnplannedTree w.hashed first now e
  same_cut v w now e is cut = subst (λ k. IsUnplannedTree k.hashed first now e) (sym is) cut

  failed_walk : {A : Type 0} (call : NodeCall) (next : AnswerOf (Node call) → Plan A) (s t : Nodes × H) (hashed : List (List ℕ)) → HasHashed hashed first (tells s.1)
      → (leaves : Leaves) → refusal s.0 call ≡ Some leaves → t.0 ≡ nodes_failed s.0 call leaves → t.1 ≡ s.1 → IsWalk (Ask (Node call) next) s hashed Failed t
  unfolding walk
  failed_walk call next s t hashed taken leaves waits left same = record {
    now = hashed;
    is = fails_by (refusal s.0 call) leaves (walk (next (answer s.0 call)) (after s.0 call) hashed) (record { end = Failed; nodes = t.0; hashed = hashed })
        (λ l. record { end = Failed; nodes = nodes_failed s.0 call l; hashed = hashed }) waits (rw left refl);
    has = taken_still hashed s.1 t.1 same taken;
  }

  node_refused : {A : Type 0} (call : NodeCall) (next : AnswerOf (Node call) → Plan A) (s t : Nodes × H) (hashed : List (List ℕ)) (e : TreeError) → HasHashed hashed first (tells s.1) → Refuses s (Node call) e t → IsHalted (Ask (Node call) next) s hashed e t
  node_refused call next s t hashed (trees.Damaged at) taken off = absurd off
  node_refused call next s t hashed trees.Failed taken off = inr (refl, failed_walk call next s t hashed taken off.0.0 off.0.1 off.0.2 off.4)
  node_refused call next s t hashed (trees.Clash a b) taken off = absurd off
  node_refused call next s t hashed (trees.BookFull n) taken off = absurd off
  node_refused call next s t hashed trees.Memory taken off = inl tt

  -- a plan that was stopped was so out of memory, by the hasher, or by a write that failed
  pub halts_walk : {A : Type 0} (p : Plan A) (s t : Nodes × H) (hashed : List (List ℕ)) (e : TreeError) → HasHashed hashed first (tells s.1) → Stops Does Refuses p s e t → IsHalted p s hashed e t
  halts_walk (Done x) s t hashed e taken stopped = memory_halts (Done x) s t hashed e stopped.0
  halts_walk (Broken at) s t hashed e taken stopped = memory_halts (Broken at) s t hashed e stopped.0
  halts_walk (Ask (Hash bytes) next) s t hashed e taken stopped = elim stopped [
    | inl cut ↦ memory_halts (Ask (Hash bytes) next) s t hashed e cut.0
    | inr (inl off) ↦ inl (same_cut (walk (next tt) s.0 (hashed ++ bytes ∷ [])) (walk (Ask (Hash bytes) next) s.0 hashed) (tells t.1) e (hash_walk bytes next s.0 hashed) (hash_refused bytes next s t hashed e taken off))
    | inr (inr on) ↦ later on.1 on.2.0 (halts_walk (next tt) on.1 t (hashed ++ bytes ∷ []) e (hashed_more hashed bytes first (tells s.1) (tells on.1.1) taken on.2.1 on.2.2 on.2.3) on.3)
  ]
    where
      later : (u : Nodes × H) → u.0 ≡ s.0 → IsHalted (next tt) u (hashed ++ bytes ∷ []) e t → IsHalted (Ask (Hash bytes) next) s hashed e t
      later u same (inl cut) = inl (same_cut (walk (next tt) u.0 (hashed ++ bytes ∷ [])) (walk (Ask (Hash bytes) next) s.0 hashed) (tells t.1) e (rw same (hash_walk bytes next s.0 hashed)) cut)
      later u same (inr rest) = inr (rest.0, hashed_walk bytes next s u t hashed Failed same rest.1)
  halts_walk (Ask (Node call) next) s t hashed e taken stopped = elim stopped [
    | inl cut ↦ memory_halts (Ask (Node call) next) s t hashed e cut.0
    | inr (inl off) ↦ node_refused call next s t hashed e taken off
    | inr (inr on) ↦ later on.1 on.0 on.2.0 (halts_walk (next on.0) on.1 t hashed e (taken_still hashed s.1 on.1.1 on.2.3 taken) on.3)
  ]
    where
      later : (u : Nodes × H) (a : AnswerOf (Node call)) → NodesDo s.0 call a u.0 → IsHalted (next a) u hashed e t → IsHalted (Ask (Node call) next) s hashed e t
      later u a did (inl cut) = inl (same_cut (walk (next a) u.0 hashed) (walk (Ask (Node call) next) s.0 hashed) (tells t.1) e (node_walk call next s.0 u.0 hashed a did) cut)
      later u a did (inr rest) = inr (rest.0, called_walk call next s u t hashed a Failed did rest.1)
