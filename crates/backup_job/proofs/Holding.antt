-- What the nodes on a disk hold after the calls of a plan.
use Rattle.std.proofs.Common.{◌≡◌, ◌≢◌, ◌≤◌, ℕ, List, Option, None, Some, Result, Ok, Err, refl, sym, ap, subst, ◌∙◌, inl, inr, arith}
use Rattle.std.specs.Prelude.{IfErr, OnOk}
use Rattle.ens_base.specs.Causes.{Rose}
use Rattle.hash_book.specs.declared.plain.PlainHasher.{PlainHasher}
use Rattle.environment.specs.MemStores.{Held}
use Rattle.environment.specs.Stores.{Read, Write, Top, SetTop}
use Rattle.disk_stores.specs.LogFiles.{IsClean}
use Rattle.disk_stores.specs.DiskCalls.{HoldsNodes, NodesDo, NodesRefuse}
use Rattle.disk_stores.specs.declared.nodes.DiskNodes.{DiskNodes}
use Rattle.synctree.specs.Halves.{NodesDid}
use Rattle.synctree.specs.Meanings.{Reopens}
use Rattle.synctree.specs.Outsides.{outside_does, outside_refuses}
use Rattle.synctree.specs.Plans.{Call, Node, Hash, AnswerOf, Plan, Done, Broken, Ask, Ends, Stops, Did}
use Rattle.synctree.specs.declared.error.TreeError.{TreeError}
use Rattle.synctree.specs.declared.error.TreeError.TheVariants as trees
use Rattle.tree_backup.specs.Causes.{IsFromOutside, of_tree}
use Rattle.tree_node.specs.declared.position.Position.{Position}
use Rattle.tree_repair.specs.Contents.{answered}
use Rattle.backup_job.specs.Backed.{node_in}

-- how a plan ends that reads a content: its value, or the position that does not verify; nothing for a plan
-- that makes another call
abbrev pub reading : {A : Type 0} → (List ℕ → Option (List ℕ)) → Plan A → Option (Result A Position)
reading has (Done x) = Some (Ok x)
reading has (Broken at) = Some (Err at)
reading has (Ask (Node (Read digest)) next) = reading has (next (has digest))
reading has (Ask (Node call) next) = None
reading has (Ask (Hash bytes) next) = reading has (next tt)

none_some : {A : Type 0} (x : A) → ◌≡◌ {A = Option A} None (Some x) → ⊥
none_some x e = cc

some_once : {A : Type 0} (x y : A) → ◌≡◌ {A = Option A} (Some x) (Some y) → x ≡ y
some_once x y e = cc

-- a plan that has a value reads it
pub reading_value : {A : Type 0} (has : List ℕ → Option (List ℕ)) (p : Plan A) (x : A) → answered has p ≡ Some x → reading has p ≡ Some (Ok x)
reading_value has (Done y) x e = cc
reading_value has (Broken at) x e = absurd (none_some x e)
reading_value has (Ask (Node (Read digest)) next) x e = reading_value has (next (has digest)) x e
reading_value has (Ask (Node (Write digest bytes)) next) x e = absurd (none_some x e)
reading_value has (Ask (Node Top) next) x e = absurd (none_some x e)
reading_value has (Ask (Node (SetTop digest)) next) x e = absurd (none_some x e)
reading_value has (Ask (Hash bytes) next) x e = reading_value has (next tt) x e

module _ {D : Type 0} (seen : D → Option (List ℕ)) (faults : D → ℕ) where
  abbrev pub Stores : Type 0
  Stores = DiskNodes D × PlainHasher

  -- what the calls of a tree on a disk may be answered, and what a refused one leaves
  abbrev pub does : Stores → (call : Call) → AnswerOf call → Stores → Type 0
  does s call answer t = outside_does (λ u c a v. NodesDo seen u c a v) (λ n. Some n.top) (λ n. faults n.log.file.disk) (λ h. None) (λ h. 0) (λ h. 0) s call answer t

  abbrev pub refuses : Stores → Call → TreeError → Stores → Type 0
  refuses s call e t = outside_refuses (λ u c e v. NodesRefuse seen u e v) (λ n. Some n.top) (λ n. faults n.log.file.disk) (λ h. None) (λ h. 0) (λ h. 0) s call e t

  abbrev pub count : Stores → ℕ
  count s = faults s.0.log.file.disk

  -- ---- one call

  done_clean : (s : Stores) (call : Call) (a : AnswerOf call) (t : Stores) → does s call a t → IsClean s.0.log.file → IsClean t.0.log.file
  done_clean s (Node call) a t did clean = did.0.clean clean
  done_clean s (Hash bytes) a t did clean = subst (λ (n : DiskNodes D). IsClean n.log.file) (sym did.0) clean

  done_later : (s : Stores) (call : Call) (a : AnswerOf call) (t : Stores) → does s call a t → count s ≤ count t
  done_later s (Node call) a t did = did.2
  done_later s (Hash bytes) a t did = omega (arith, ap (λ (n : DiskNodes D). faults n.log.file.disk) did.0)

  refused_clean : (s : Stores) (call : Call) (e : TreeError) (t : Stores) → refuses s call e t → e ≢ trees.Failed → IsClean s.0.log.file → IsClean t.0.log.file
  refused_clean s (Node call) (trees.Damaged at) t off other clean = absurd off
  refused_clean s (Node call) trees.Failed t off other clean = absurd (other refl)
  refused_clean s (Node call) (trees.Clash first second) t off other clean = absurd off
  refused_clean s (Node call) (trees.BookFull n) t off other clean = absurd off
  refused_clean s (Node call) trees.Memory t off other clean = subst IsClean (sym (off.0.memory refl)) clean
  refused_clean s (Hash bytes) (trees.Damaged at) t off other clean = absurd off
  refused_clean s (Hash bytes) trees.Failed t off other clean = absurd off
  refused_clean s (Hash bytes) (trees.Clash first second) t off other clean = subst (λ (n : DiskNodes D). IsClean n.log.file) (sym off.0) clean
  refused_clean s (Hash bytes) (trees.BookFull n) t off other clean = subst (λ (n : DiskNodes D). IsClean n.log.file) (sym off.0) clean
  refused_clean s (Hash bytes) trees.Memory t off other clean = subst (λ (n : DiskNodes D). IsClean n.log.file) (sym off.0) clean

  refused_later : (s : Stores) (call : Call) (e : TreeError) (t : Stores) → refuses s call e t → count s ≤ count t
  refused_later s (Node call) (trees.Damaged at) t off = absurd off
  refused_later s (Node call) trees.Failed t off = off.2
  refused_later s (Node call) (trees.Clash first second) t off = absurd off
  refused_later s (Node call) (trees.BookFull n) t off = absurd off
  refused_later s (Node call) trees.Memory t off = omega (arith, off.2)
  refused_later s (Hash bytes) (trees.Damaged at) t off = absurd off
  refused_later s (Hash bytes) trees.Failed t off = absurd off
  refused_later s (Hash bytes) (trees.Clash first second) t off = omega (arith, ap (λ (n : DiskNodes D). faults n.log.file.disk) off.0)
  refused_later s (Hash bytes) (trees.BookFull n) t off = omega (arith, ap (λ (n : DiskNodes D). faults n.log.file.disk) off.0)
  refused_later s (Hash bytes) trees.Memory t off = omega (arith, ap (λ (n : DiskNodes D). faults n.log.file.disk) off.0)

  refused_rose : (s : Stores) (call : Call) (t : Stores) → refuses s call trees.Failed t → Rose (count s) (count t)
  refused_rose s (Node call) t off = off.3
  refused_rose s (Hash bytes) t off = absurd off

  pub refused_holds : (s : Stores) (call : Call) (e : TreeError) (t : Stores) (held : Held) → refuses s call e t → HoldsNodes seen s.0 held → HoldsNodes seen t.0 held
  refused_holds s (Node call) (trees.Damaged at) t held off holds = absurd off
  refused_holds s (Node call) trees.Failed t held off holds = off.0.holds held holds
  refused_holds s (Node call) (trees.Clash first second) t held off holds = absurd off
  refused_holds s (Node call) (trees.BookFull n) t held off holds = absurd off
  refused_holds s (Node call) trees.Memory t held off holds = off.0.holds held holds
  refused_holds s (Hash bytes) (trees.Damaged at) t held off holds = absurd off
  refused_holds s (Hash bytes) trees.Failed t held off holds = absurd off
  refused_holds s (Hash bytes) (trees.Clash first second) t held off holds = subst (λ (n : DiskNodes D). HoldsNodes seen n held) (sym off.0) holds
  refused_holds s (Hash bytes) (trees.BookFull n) t held off holds = subst (λ (n : DiskNodes D). HoldsNodes seen n held) (sym off.0) holds
  refused_holds s (Hash bytes) trees.Memory t held off holds = subst (λ (n : DiskNodes D). HoldsNodes seen n held) (sym off.0) holds

  -- ---- a plan

  ends_clean : {A : Type 0} (p : Plan A) (s t : Stores) (xs : List (List ℕ)) (out : Result A Position) → Ends does p s xs out t → IsClean s.0.log.file → IsClean t.0.log.file
  ends_clean (Done x) s t xs out (none, is, same) clean = subst (λ (u : Stores). IsClean u.0.log.file) (sym same) clean
  ends_clean (Broken at) s t xs out (none, is, same) clean = subst (λ (u : Stores). IsClean u.0.log.file) (sym same) clean
  ends_clean (Ask call next) s t xs out (answer, u, rest, did, is, more) clean = ends_clean (next answer) u t rest out more (done_clean s call answer u did clean)

  ends_later : {A : Type 0} (p : Plan A) (s t : Stores) (xs : List (List ℕ)) (out : Result A Position) → Ends does p s xs out t → count s ≤ count t
  ends_later (Done x) s t xs out (none, is, same) = omega (arith, ap count same)
  ends_later (Broken at) s t xs out (none, is, same) = omega (arith, ap count same)
  ends_later (Ask call next) s t xs out (answer, u, rest, did, is, more) = omega (arith, done_later s call answer u did, ends_later (next answer) u t rest out more)

  stops_clean : {A : Type 0} (p : Plan A) (s t : Stores) (e : TreeError) → Stops does refuses p s e t → e ≢ trees.Failed → IsClean s.0.log.file → IsClean t.0.log.file
  stops_clean (Done x) s t e (is, same) other clean = subst (λ (u : Stores). IsClean u.0.log.file) (sym same) clean
  stops_clean (Broken at) s t e (is, same) other clean = subst (λ (u : Stores). IsClean u.0.log.file) (sym same) clean
  stops_clean (Ask call next) s t e (inl cut) other clean = subst (λ (u : Stores). IsClean u.0.log.file) (sym cut.1) clean
  stops_clean (Ask call next) s t e (inr (inl off)) other clean = refused_clean s call e t off other clean
  stops_clean (Ask call next) s t e (inr (inr (answer, u, did, more))) other clean = stops_clean (next answer) u t e more other (done_clean s call answer u did clean)

  stops_later : {A : Type 0} (p : Plan A) (s t : Stores) (e : TreeError) → Stops does refuses p s e t → count s ≤ count t
  stops_later (Done x) s t e (is, same) = omega (arith, ap count same)
  stops_later (Broken at) s t e (is, same) = omega (arith, ap count same)
  stops_later (Ask call next) s t e (inl cut) = omega (arith, ap count cut.1)
  stops_later (Ask call next) s t e (inr (inl off)) = refused_later s call e t off
  stops_later (Ask call next) s t e (inr (inr (answer, u, did, more))) = omega (arith, done_later s call answer u did, stops_later (next answer) u t e more)

  memory_failed : ◌≡◌ {A = TreeError} trees.Failed trees.Memory → ⊥
  memory_failed e = cc

  pub rose_later : (a b c : ℕ) → a ≤ b → Rose b c → Rose a c
  rose_later a b c later rose = omega (arith, later, rose)

  stops_rose : {A : Type 0} (p : Plan A) (s t : Stores) → Stops does refuses p s trees.Failed t → Rose (count s) (count t)
  stops_rose (Done x) s t (is, same) = absurd (memory_failed is)
  stops_rose (Broken at) s t (is, same) = absurd (memory_failed is)
  stops_rose (Ask call next) s t (inl cut) = absurd (memory_failed cut.0)
  stops_rose (Ask call next) s t (inr (inl off)) = refused_rose s call t off
  stops_rose (Ask call next) s t (inr (inr (answer, u, did, more))) = rose_later (count s) (count u) (count t) (done_later s call answer u did) (stops_rose (next answer) u t more)

  pub did_rose : {A : Type 0} (p : Plan A) (s t : Stores) → Did does refuses p s (Err trees.Failed) t → Rose (count s) (count t)
  did_rose p s t did = stops_rose p s t did

  pub did_clean : {A : Type 0} (p : Plan A) (s t : Stores) (r : Result A TreeError) → Did does refuses p s r t → r ≢ Err trees.Failed → IsClean s.0.log.file → IsClean t.0.log.file
  did_clean p s t (Ok x) did other clean = ends_clean p s t did.0 (Ok x) did.1 clean
  did_clean p s t (Err (trees.Damaged at)) did other clean = ends_clean p s t did.0 (Err at) did.1 clean
  did_clean p s t (Err trees.Failed) did other clean = absurd (other refl)
  did_clean p s t (Err (trees.Clash first second)) did other clean = stops_clean p s t (trees.Clash first second) did (λ e. cc) clean
  did_clean p s t (Err (trees.BookFull n)) did other clean = stops_clean p s t (trees.BookFull n) did (λ e. cc) clean
  did_clean p s t (Err trees.Memory) did other clean = stops_clean p s t trees.Memory did (λ e. cc) clean

  pub did_later : {A : Type 0} (p : Plan A) (s t : Stores) (r : Result A TreeError) → Did does refuses p s r t → count s ≤ count t
  did_later p s t (Ok x) did = ends_later p s t did.0 (Ok x) did.1
  did_later p s t (Err (trees.Damaged at)) did = ends_later p s t did.0 (Err at) did.1
  did_later p s t (Err trees.Failed) did = stops_later p s t trees.Failed did
  did_later p s t (Err (trees.Clash first second)) did = stops_later p s t (trees.Clash first second) did
  did_later p s t (Err (trees.BookFull n)) did = stops_later p s t (trees.BookFull n) did
  did_later p s t (Err trees.Memory) did = stops_later p s t trees.Memory did

  -- ---- a plan that only reads

  ends_told : {A : Type 0} (p : Plan A) (s t : Stores) (xs : List (List ℕ)) (out r : Result A Position) (held : Held) → reading (node_in held) p ≡ Some r → HoldsNodes seen s.0 held → Ends does p s xs out t → (out ≡ r) × HoldsNodes seen t.0 held
  ends_told (Done x) s t xs out r held e holds (none, is, same) = (is ∙ some_once (Ok x) r e, subst (λ (u : Stores). HoldsNodes seen u.0 held) (sym same) holds)
  ends_told (Broken at) s t xs out r held e holds (none, is, same) = (is ∙ some_once (Err at) r e, subst (λ (u : Stores). HoldsNodes seen u.0 held) (sym same) holds)
  ends_told (Ask (Node (Read digest)) next) s t xs out r held e holds (answer, u, rest, did, is, more) =
      ends_told (next answer) u t rest out r held (ap (λ (o : Option (List ℕ)). reading (node_in held) (next o)) (did.0.answers held holds) ∙ e) (did.0.holds held holds) more
  ends_told (Ask (Node (Write digest bytes)) next) s t xs out r held e holds ends = absurd (none_some r e)
  ends_told (Ask (Node Top) next) s t xs out r held e holds ends = absurd (none_some r e)
  ends_told (Ask (Node (SetTop digest)) next) s t xs out r held e holds ends = absurd (none_some r e)
  ends_told (Ask (Hash bytes) next) s t xs out r held e holds (answer, u, rest, did, is, more) =
      ends_told (next answer) u t rest out r held e (subst (λ (n : DiskNodes D). HoldsNodes seen n held) (sym did.0) holds) more

  stops_told : {A : Type 0} (p : Plan A) (s t : Stores) (e : TreeError) (r : Result A Position) (held : Held) → reading (node_in held) p ≡ Some r → HoldsNodes seen s.0 held → Stops does refuses p s e t → HoldsNodes seen t.0 held
  stops_told (Done x) s t e r held is holds (out, same) = subst (λ (u : Stores). HoldsNodes seen u.0 held) (sym same) holds
  stops_told (Broken at) s t e r held is holds (out, same) = subst (λ (u : Stores). HoldsNodes seen u.0 held) (sym same) holds
  stops_told (Ask call next) s t e r held is holds (inl cut) = subst (λ (u : Stores). HoldsNodes seen u.0 held) (sym cut.1) holds
  stops_told (Ask call next) s t e r held is holds (inr (inl off)) = refused_holds s call e t held off holds
  stops_told (Ask (Node (Read digest)) next) s t e r held is holds (inr (inr (answer, u, did, more))) =
      stops_told (next answer) u t e r held (ap (λ (o : Option (List ℕ)). reading (node_in held) (next o)) (did.0.answers held holds) ∙ is) (did.0.holds held holds) more
  stops_told (Ask (Node (Write digest bytes)) next) s t e r held is holds (inr (inr on)) = absurd (none_some r is)
  stops_told (Ask (Node Top) next) s t e r held is holds (inr (inr on)) = absurd (none_some r is)
  stops_told (Ask (Node (SetTop digest)) next) s t e r held is holds (inr (inr on)) = absurd (none_some r is)
  stops_told (Ask (Hash bytes) next) s t e r held is holds (inr (inr (answer, u, did, more))) =
      stops_told (next answer) u t e r held is (subst (λ (n : DiskNodes D). HoldsNodes seen n held) (sym did.0) holds) more

  -- the plan leaves the nodes as they were
  pub did_holds : {A : Type 0} (p : Plan A) (s t : Stores) (r : Result A TreeError) (x : Result A Position) (held : Held) → reading (node_in held) p ≡ Some x → HoldsNodes seen s.0 held → Did does refuses p s r t → HoldsNodes seen t.0 held
  did_holds p s t (Ok y) x held e holds did = (ends_told p s t did.0 (Ok y) x held e holds did.1).1
  did_holds p s t (Err (trees.Damaged at)) x held e holds did = (ends_told p s t did.0 (Err at) x held e holds did.1).1
  did_holds p s t (Err trees.Failed) x held e holds did = stops_told p s t trees.Failed x held e holds did
  did_holds p s t (Err (trees.Clash first second)) x held e holds did = stops_told p s t (trees.Clash first second) x held e holds did
  did_holds p s t (Err (trees.BookFull n)) x held e holds did = stops_told p s t (trees.BookFull n) x held e holds did
  did_holds p s t (Err trees.Memory) x held e holds did = stops_told p s t trees.Memory x held e holds did

  -- and has the value of what is read
  pub did_value : {A : Type 0} (p : Plan A) (s t : Stores) (y : A) (x : Result A Position) (held : Held) → reading (node_in held) p ≡ Some x → HoldsNodes seen s.0 held → Did does refuses p s (Ok y) t → ◌≡◌ {A = Result A Position} (Ok y) x
  did_value p s t y x held e holds did = (ends_told p s t did.0 (Ok y) x held e holds did.1).0

  pub did_break : {A : Type 0} (p : Plan A) (s t : Stores) (at : Position) (x : Result A Position) (held : Held) → reading (node_in held) p ≡ Some x → HoldsNodes seen s.0 held → Did does refuses p s (Err (trees.Damaged at)) t → ◌≡◌ {A = Result A Position} (Err at) x
  did_break p s t at x held e holds did = (ends_told p s t did.0 (Err at) x held e holds did.1).0

  -- ---- a top record that is read

  -- the tree has the root that the top record names, or the store refused to read it
  pub record Reopened (s t : DiskNodes D) (r : Result (Unit {0}) TreeError) (new : Option (List ℕ)) : Type 0 where
    pub holds : (held : Held) → HoldsNodes seen s held → HoldsNodes seen t held
    pub clean : r ≢ Err trees.Failed → IsClean s.log.file → IsClean t.log.file
    pub later : faults s.log.file.disk ≤ faults t.log.file.disk
    pub failed : r ≡ Err trees.Failed → Rose (faults s.log.file.disk) (faults t.log.file.disk)
    pub top : OnOk r (new ≡ t.top)
    pub outside : IfErr r (λ e. IsFromOutside (of_tree e))

  pub reopened : (s t : DiskNodes D) (old new : Option (List ℕ)) (r : Result (Unit {0}) TreeError)
      → Reopens (λ x. NodesDid (λ u c a v. NodesDo seen u c a v) (λ u c e v. NodesRefuse seen u e v) (λ n. Some n.top) (λ n. faults n.log.file.disk) Top s x t) None old r new → Reopened s t r new
  reopened s t old new (Ok x) (top, did, is) = record {
    holds = λ held holds. did.0.holds held holds;
    clean = λ calm clean. did.0.clean clean;
    later = did.2;
    failed = λ e. absurd (ok_err e);
    top = is ∙ did.1.1 ∙ sym (some_once _ _ did.1.0);
    outside = tt;
  }
    where
      ok_err : ◌≡◌ {A = Result (Unit {0}) TreeError} (Ok x) (Err trees.Failed) → ⊥
      ok_err e = cc
  reopened s t old new (Err (trees.Damaged at)) h = absurd h.0
  reopened s t old new (Err trees.Failed) h = record {
    holds = λ held holds. h.0.0.holds held holds;
    clean = λ calm clean. absurd (calm refl);
    later = h.0.2;
    failed = λ e. h.0.3;
    top = tt;
    outside = tt;
  }
  reopened s t old new (Err (trees.Clash first second)) h = absurd h.0
  reopened s t old new (Err (trees.BookFull n)) h = absurd h.0
  reopened s t old new (Err trees.Memory) h = record {
    holds = λ held holds. h.0.0.holds held holds;
    clean = λ calm clean. subst IsClean (sym (h.0.0.memory refl)) clean;
    later = omega (arith, h.0.2);
    failed = λ e. absurd (memory_err e);
    top = tt;
    outside = tt;
  }
    where
      memory_err : ◌≡◌ {A = Result (Unit {0}) TreeError} (Err trees.Memory) (Err trees.Failed) → ⊥
      memory_err e = cc
