-- What the stores answer to the calls of a step. A find may meet damage. A save, an entering and a put may
-- be refused; then a save leaves the old fact or the new one, and the others leave the fact as it was.
use Rattle.std.proofs.Common.{◌≡◌, ◌⊎◌, inl, inr, ◌<◌, ◌^◌, ℕ, List, length, Option, None, Some, Result, Ok, Err, refl, ap}
use Rattle.ens_base.specs.declared.entry.Entry.{Entry}
use Rattle.fields.specs.Entries.{IsEntry}
use Rattle.environment.specs.Maps.{with_value}
use Rattle.environment.specs.declared.memory.failing_call.Leaves.{Leaves}
use Rattle.environment.specs.declared.memory.failing_call.Leaves.TheVariants.{Old, New}
use Rattle.peer_refinement.specs.WorldSpec.{Answered, answered, entered, root_after, walked, with_facts, with_backend, facts_failed, objects_failed, Held, unless_failing, End, Came, Broke, Failed}
use Rattle.stored_formats.specs.declared.saved.SavedFact.{SavedFact}
use Rattle.step_plans.specs.Calls.{Save, Find, Enter, Put}
use Rattle.step_plans.specs.declared.error.PeerError.{PeerError}
use Rattle.step_plans.specs.declared.error.PeerError.TheVariants.{StoreFault}
use Rattle.step_plans.specs.declared.walked.Walked.{Walked}
use Rattle.step_plans.specs.declared.walked.Walked.TheVariants.{Reached, Broken}
use Rattle.synctree.specs.Trees.{insert_plan}
use Rattle.synctree.specs.Entries.{lookup, put}
use Rattle.tree_node.specs.declared.position.Position.{Position}
use Rattle.peer_refinement.proofs.Rooted as rooted
use Rattle.peer_refinement.specs.TreeLaws.{IsReached}
use Rattle.peer_refinement.specs.Rooted.{Sees, EndsEntered}
use Rattle.peer_refinement.specs.Tops.{tops_of, NamesNext, IsWritten}
use Rattle.peer_refinement.specs.Trees.{AreAmong, AreFree, form_in}
use Rattle.world_stores.specs.Objects.{Objects}
use Rattle.world_stores.specs.declared.fact.HeldFact.{HeldFact}

-- ## Reading

-- a walk reached this, or a position that does not verify; it is never refused
pub data Looks {A : Type 0} (x : A) (r : Result (Walked A) PeerError) : Type 0 where
  Finds : r ≡ Ok (Reached x) → Looks x r
  Breaks : (at : Position) → r ≡ Ok (Broken at) → Looks x r

-- a walk that is not refused looks
pub looks : {A : Type 0} (x : A) (r : Result (Walked A) PeerError) → IsReached x r → Looks x r
looks {A} x (Ok (Reached y)) is = Finds (ap (λ (z : A). Ok (Reached z)) is)
looks x (Ok (Broken at)) is = Breaks at refl
looks x (Err e) is = absurd is

-- a find returns the entry that the map has for the key, or meets damage
pub find_ends : (strings : List (List ℕ)) (h : Held) (m : List Entry) (key : List ℕ) → AreFree strings → AreAmong (answered (Find key) h).held.hashed strings → Sees h m → Looks (lookup key m) (answered (Find key) h).result
find_ends strings h m key free among sees = looks (lookup key m) (answered (Find key) h).result (rooted.finds strings h m key free among sees)

-- ## A save

-- the keeper of facts has the old fact, or the new one
abbrev pub HasEither : SavedFact → Held → Held → Type 0
HasEither fact h t = (t.stores.facts.kept ≡ h.stores.facts.kept) ⊎ (t.stores.facts.kept ≡ Some fact)

-- a save takes effect, or it is refused, and leaves the old fact or the new one
pub data SaveEnds (fact : SavedFact) (h : Held) (a : Answered (Save fact)) : Type 0 where
  Saves : a ≡ record { result = Ok tt; held = with_facts (record h.stores.facts { kept = Some fact }) h } → SaveEnds fact h a
  Refuses : a.result ≡ Err StoreFault → HasEither fact h a.held → SaveEnds fact h a

-- each save ends so
pub save_ends : (fact : SavedFact) (h : Held) → SaveEnds fact h (answered (Save fact) h)
save_ends fact h = by_pending h.stores.facts.faults.pending
  where
    new : HeldFact
    new = record h.stores.facts { kept = Some fact }

    left : (leaves : Leaves) → HasEither fact h (with_facts (facts_failed h.stores.facts new leaves) h)
    left Old = inl refl
    left New = inr refl

    by_pending : (o : Option Leaves) → SaveEnds fact h (unless_failing {R = Answered (Save fact)} o (record { result = Ok tt; held = with_facts new h }) (λ leaves. record { result = Err StoreFault; held = with_facts (facts_failed h.stores.facts new leaves) h }))
    by_pending None = Saves refl
    by_pending (Some leaves) = Refuses refl (left leaves)

-- ## A put into the backend

-- it is not refused, or refused
pub put_ends : (key bytes : List ℕ) (h : Held) → ((answered (Put key bytes) h).result ≡ Ok tt) ⊎ ((answered (Put key bytes) h).result ≡ Err StoreFault)
put_ends key bytes h = by_pending h.stores.backend.faults.pending
  where
    new : Objects
    new = record h.stores.backend { entries = with_value key bytes h.stores.backend.entries }

    after_it : Option Leaves → Answered (Put key bytes)
    after_it o = unless_failing o (record { result = Ok tt; held = with_backend new h }) (λ leaves. record { result = Err StoreFault; held = with_backend (objects_failed h.stores.backend new leaves) h })

    by_pending : (o : Option Leaves) → ((after_it o).result ≡ Ok tt) ⊎ ((after_it o).result ≡ Err StoreFault)
    by_pending None = inl refl
    by_pending (Some leaves) = inr refl

-- ## An entering

-- an entering puts its entry into the map; or it meets damage, and leaves the tree; or it is refused, and
-- left no top record, or one that names the map with the entry
pub data EnterEnds (e : Entry) (m : List Entry) (h : Held) (r : Result (Walked (Unit {0})) PeerError) (t : Held) : Type 0 where
  Enters : r ≡ Ok (Reached tt) → IsWritten (put e m) h t → EnterEnds e m h r t
  Stops : (at : Position) → r ≡ Ok (Broken at) → tops_of t.stores ≡ tops_of h.stores → EnterEnds e m h r t
  Tears : r ≡ Err StoreFault → (tops_of t.stores ≡ tops_of h.stores) ⊎ NamesNext (put e m) h t → EnterEnds e m h r t

entered_so : (e : Entry) (m : List Entry) (h : Held) (r : Result (Walked (Unit {0})) PeerError) (t : Held) → EndsEntered e m h r t → EnterEnds e m h r t
entered_so e m h (Ok (Reached done)) t has = Enters refl has
entered_so e m h (Ok (Broken at)) t has = Stops at refl has.1
entered_so e m h (Err error) t has = Tears (ap (λ (x : PeerError). Err x) has.0) has.1

-- each entering ends so
pub enter_ends : (strings : List (List ℕ)) (h : Held) (m : List Entry) (e : Entry) → AreFree strings → AreAmong (answered (Enter e) h).held.hashed strings → Sees h m → IsEntry e → length (put e m) < 2 ^ 32 → EnterEnds e m h (answered (Enter e) h).result (answered (Enter e) h).held
enter_ends strings h m e free among sees fits few = entered_so e m h (answered (Enter e) h).result (answered (Enter e) h).held (rooted.enters strings h m e free among sees fits few)

-- an entering that meets damage leaves the root
pub broken_root : (e : Entry) (h : Held) (at : Position) → (answered (Enter e) h).result ≡ Ok (Broken at) → (answered (Enter e) h).held.stores.tree.top ≡ h.stores.tree.top
broken_root e h at is = by_end (walked (insert_plan (form_in h) h.stores.tree.top e) h).end is
  where
    by_end : (end : End (List ℕ)) → entered end ≡ Ok (Broken at) → root_after h.stores.tree.top end ≡ h.stores.tree.top
    by_end (Came root) is = absurd (cc)
    by_end (Broke place) is = refl
    by_end Failed is = absurd (cc)
