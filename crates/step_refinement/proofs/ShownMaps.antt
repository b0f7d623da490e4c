-- The stores of a peer through the calls of a step: which map it wrote last and what names it, which map
-- its tree shows, and which maps its top records name.
use Rattle.std.proofs.Common.{◌≡◌, ◌⊎◌, inl, inr, ℕ, true, false, List, [], ◌∷◌, ◌++◌, Option, None, Some, refl, sym, ap, subst, ◌∙◌}
use Rattle.std.proofs.lemmas.Option.{none-some}
use Rattle.ens_base.proofs.Lists.{in_append}
use Rattle.ens_base.specs.Lists.{◌∈◌}
use Rattle.ens_base.specs.declared.entry.Entry.{Entry}
use Rattle.protocol_laws.specs.Objects.{Map, Objects, IsHonest}
use Rattle.protocol_laws.specs.Protocol.{State}
use Rattle.protocol_laws.specs.Stays.{EntriesStay}
use Rattle.peer_refinement.specs.WorldSpec.{answered, with_facts, Held, HeldStores, held_with}
use Rattle.stored_formats.specs.declared.fact.Fact.{Fact}
use Rattle.role_laws.proofs.SealMoves.{unsealed_not}
use Rattle.role_laws.specs.Kept.{IsSealed, RootHolds, named_by}
use Rattle.step_plans.specs.Saved.{kept_seal, with_seal}
use Rattle.step_plans.specs.Calls.{Call}
use Rattle.role_laws.specs.Facts.{Lines}
use Rattle.peer_refinement.proofs.SyncStaying.{stays, tree_says_stay}
use Rattle.peer_refinement.specs.Syncs.{TreeSays, MayReturn}
use Rattle.peer_refinement.proofs.Keeping as keeping
use Rattle.peer_refinement.proofs.Recording.{last_top}
use Rattle.peer_refinement.proofs.Tops as records
use Rattle.peer_refinement.proofs.Tops.{named_behind, named_sees}
use Rattle.peer_refinement.proofs.Rooted.{root_kept_so}
use Rattle.peer_refinement.specs.TreeLaws.{KeepsRoot}
use Rattle.peer_refinement.specs.Rooted.{Sees}
use Rattle.peer_refinement.specs.Tops.{IsNamed, NamesNext, IsWritten, tops_of}
use Rattle.peer_refinement.specs.Trees.{AreAmong}
use Rattle.world_stores.specs.Nodes.{top_of}
use Rattle.step_refinement.specs.Peers.{TopReturns, TopsReturn, LastMap, SealFits, TreeHolds}

-- ## Top records

-- a peer that gets a seal, or keeps the one that it has, has the seal that it must have
pub seal_on : (lines : Lines) (old new : Option (List ℕ)) → (new ≡ None → old ≡ None) → SealFits lines old → SealFits lines new
seal_on lines old None same fits = λ sealed. absurd (unsealed_not old (same refl) (fits sealed))
seal_on lines old (Some seal) same fits = λ sealed. tt

-- more strings were hashed
pub tops_behind : (s : State) (strings hashed more : List (List ℕ)) (q : ℕ) (tops : List (List ℕ)) → AreAmong hashed more → TopsReturn s strings hashed q tops → TopsReturn s strings more q tops
tops_behind s strings hashed more q tops among return digest at = let top = return digest at in record { map = top.map; named = named_behind hashed more digest top.map among top.named; returns = top.returns }

-- in a later state
pub tops_stay : (s t : State) (strings hashed : List (List ℕ)) (q : ℕ) (tops : List (List ℕ)) → EntriesStay s t → TopsReturn s strings hashed q tops → TopsReturn t strings hashed q tops
tops_stay s t strings hashed q tops stay return digest at = let top = return digest at in record { map = top.map; named = top.named; returns = (stays (record { sealed = false; firm = λ p. true; voting = [] }) s t stay).returns strings q top.map top.returns }

-- one more record, which names this map
pub tops_next : (s : State) (strings hashed : List (List ℕ)) (q : ℕ) (tops : List (List ℕ)) (digest : List ℕ) (m : List Entry) → IsNamed hashed digest m → MayReturn s strings q m → TopsReturn s strings hashed q tops → TopsReturn s strings hashed q (tops ++ digest ∷ [])
tops_next s strings hashed q tops digest m named returns return d at = by_place (in_append tops (digest ∷ []) d at)
  where
    by_place : (d ∈ tops) ⊎ (d ∈ (digest ∷ [])) → TopReturns s strings hashed q d
    by_place (inl old) = return d old
    by_place (inr (inl same)) = record { map = m; named = subst (λ (x : List ℕ). IsNamed hashed x m) (sym same) named; returns = returns }
    by_place (inr (inr none)) = absurd none

-- ## The map that a peer wrote last

-- without a seal the top record names the map
pub named_top : (top seal : Option (List ℕ)) → seal ≡ None → named_by top seal ≡ top
named_top top seal none = ap (λ (x : Option (List ℕ)). named_by top x) none

-- a seal names what it named whatever the top record is
pub sealed_names : (top other seal : Option (List ℕ)) (digest : List ℕ) → IsSealed seal → named_by top seal ≡ Some digest → named_by other seal ≡ Some digest
sealed_names top other None digest sealed is = absurd sealed
sealed_names top other (Some x) digest sealed is = is

-- there is no seal, or it is this digest
abbrev pub IsSealOf : Option (List ℕ) → List ℕ → Type 0
IsSealOf seal digest = (seal ≡ None) ⊎ (seal ≡ Some digest)

-- such a seal, or the top record, names the map
pub seal_names : (top seal : Option (List ℕ)) (digest : List ℕ) → top ≡ Some digest → IsSealOf seal digest → named_by top seal ≡ Some digest
seal_names top None digest is fits = is
seal_names top (Some x) digest is (inl none) = absurd (none-some x (sym none))
seal_names top (Some x) digest is (inr same) = same

-- the digest in the top record that was written
pub next_top : (h t : Held) (m : List Entry) → (next : NamesNext m h t) → top_of (tops_of t.stores) ≡ Some next.digest
next_top h t m next = ap top_of next.tops ∙ last_top (tops_of h.stores) next.digest

module _ (strings : List (List ℕ)) (q : ℕ) where
  -- more strings were hashed, and the top records are the same
  abbrev pub last_over : (s : State) (hashed more : List (List ℕ)) (seal : Option (List ℕ)) (tops others : List (List ℕ)) → AreAmong hashed more → others ≡ tops → LastMap s strings hashed q seal tops → LastMap s strings more q seal others
  last_over s hashed more seal tops others among same last = record {
    digest = last.digest;
    is = ap (λ (records : List (List ℕ)). named_by (top_of records) seal) same ∙ last.is;
    map = last.map;
    named = named_behind hashed more last.digest last.map among last.named;
    says = last.says;
    honest = last.honest;
    returns = λ none. subst (λ (records : List (List ℕ)). TopsReturn s strings more q records) (sym same) (tops_behind s strings hashed more q tops among (last.returns none));
  }

  -- in a later state in which the peer shows the same and wrote the same last
  abbrev pub last_stays : (s t : State) (hashed : List (List ℕ)) (seal : Option (List ℕ)) (tops : List (List ℕ)) → EntriesStay s t → t.objects.visible q ≡ s.objects.visible q → t.objects.map q ≡ s.objects.map q → LastMap s strings hashed q seal tops → LastMap t strings hashed q seal tops
  last_stays s t hashed seal tops stay visible written last = record {
    digest = last.digest;
    is = last.is;
    map = last.map;
    named = last.named;
    says = tree_says_stay s t strings stay q last.map visible last.says;
    honest = λ sealed k. ap (λ (m : Map). m k) visible ∙ (last.honest sealed k ∙ sym (ap (λ (m : Map). m k) written));
    returns = λ none. tops_stay s t strings hashed q tops stay (last.returns none);
  }

  -- under an equal seal
  abbrev pub last_under : (s : State) (hashed : List (List ℕ)) (seal other : Option (List ℕ)) (tops : List (List ℕ)) → other ≡ seal → LastMap s strings hashed q seal tops → LastMap s strings hashed q other tops
  last_under s hashed seal other tops same last = record {
    digest = last.digest;
    is = ap (λ (x : Option (List ℕ)). named_by (top_of tops) x) same ∙ last.is;
    map = last.map;
    named = last.named;
    says = last.says;
    honest = λ sealed. last.honest (subst IsSealed same sealed);
    returns = λ none. last.returns (sym same ∙ none);
  }

  -- under a seal over any top records
  abbrev pub last_sealed : (s : State) (hashed more : List (List ℕ)) (seal : Option (List ℕ)) (tops others : List (List ℕ)) → IsSealed seal → AreAmong hashed more → LastMap s strings hashed q seal tops → LastMap s strings more q seal others
  last_sealed s hashed more seal tops others sealed among last = record {
    digest = last.digest;
    is = sealed_names (top_of tops) (top_of others) seal last.digest sealed last.is;
    map = last.map;
    named = named_behind hashed more last.digest last.map among last.named;
    says = last.says;
    honest = last.honest;
    returns = λ none. absurd (unsealed_not seal none sealed);
  }

  -- one more top record names this map, which is that of the protocol, and so does the seal, if there is one
  abbrev pub last_written : (s : State) (h t : Held) (seal : Option (List ℕ)) (m : List Entry) → (next : NamesNext m h t) → IsSealOf seal next.digest → AreAmong h.hashed t.hashed → TreeSays s strings q m → IsHonest s.objects q → MayReturn s strings q m
      → (seal ≡ None → TopsReturn s strings h.hashed q (tops_of h.stores)) → LastMap s strings t.hashed q seal (tops_of t.stores)
  last_written s h t seal m next fits among says honest returns return = record {
    digest = next.digest;
    is = seal_names (top_of (tops_of t.stores)) seal next.digest (next_top h t m next) fits;
    map = m;
    named = next.named;
    says = says;
    honest = λ sealed. honest;
    returns = λ none. subst (λ (tops : List (List ℕ)). TopsReturn s strings t.hashed q tops) (sym next.tops) (tops_next s strings t.hashed q (tops_of h.stores) next.digest m next.named returns (tops_behind s strings h.hashed t.hashed q (tops_of h.stores) among (return none)));
  }

-- ## Roots

-- a root that holds still does in another state in which the peer does not trust its tree if it did not
pub root_over : (o e : Objects) (q : ℕ) (top seal root other next : Option (List ℕ)) → other ≡ top → next ≡ root → (o.trusted q ≡ false → e.trusted q ≡ false) → RootHolds o q top seal root → RootHolds e q other seal next
root_over o e q top seal root other next same_top same_root blind (inl is) = inl (same_root ∙ (is.0 ∙ sym same_top), same_root ∙ (is.1 ∙ sym (ap (λ (x : Option (List ℕ)). named_by x seal) same_top)))
root_over o e q top seal root other next same_top same_root blind (inr none) = inr (same_root ∙ none.0, none.1, blind none.2)

-- ## Trees

module _ (s : State) (strings : List (List ℕ)) (q : ℕ) (seal : Option (List ℕ)) where
  -- a tree has no root of its version, or shows the map that the peer wrote last
  pub tree_sees : (h : Held) → (tree : TreeHolds s strings q seal h) → Sees h tree.last.map
  tree_sees h tree = by_root tree.root
    where
      by_root : RootHolds s.objects q (top_of (tops_of h.stores)) seal h.stores.tree.top → Sees h tree.last.map
      by_root (inl is) = named_sees h tree.last.map tree.last.digest (is.1 ∙ tree.last.is) tree.last.named
      by_root (inr none) = inl (inl none.0)

  -- the same fact, top records and root are kept, and more strings were hashed
  abbrev pub tree_over : (h t : Held) → t.stores.facts.kept ≡ h.stores.facts.kept → tops_of t.stores ≡ tops_of h.stores → t.stores.tree.top ≡ h.stores.tree.top → AreAmong h.hashed t.hashed → TreeHolds s strings q seal h → TreeHolds s strings q seal t
  tree_over h t same tops root among tree = record {
    last = last_over strings q s h.hashed t.hashed seal (tops_of h.stores) (tops_of t.stores) among tops tree.last;
    sealed = ap kept_seal same ∙ tree.sealed;
    root = root_over s.objects s.objects q (top_of (tops_of h.stores)) seal h.stores.tree.top (top_of (tops_of t.stores)) t.stores.tree.top (ap top_of tops) root (λ is. is) tree.root;
  }

  -- a call that leaves the root and the fact leaves the tree
  abbrev pub tree_kept : (call : Call) (h : Held) → KeepsRoot call → (answered call h).held.stores.facts.kept ≡ h.stores.facts.kept → TreeHolds s strings q seal h → TreeHolds s strings q seal (answered call h).held
  tree_kept call h root same tree = tree_over h (answered call h).held same (records.keeps call h root).0 (root_kept_so call h root) (keeping.grows call h) tree

  -- so does a save of a fact with the same seal
  abbrev pub tree_saved : (fact : Fact) (h : Held) → TreeHolds s strings q seal h → TreeHolds s strings q seal (with_facts (record h.stores.facts { kept = Some (with_seal seal fact) }) h)
  tree_saved fact h tree = record { last = tree.last; sealed = refl; root = tree.root }

  -- more strings were hashed
  abbrev pub tree_behind : (stores : HeldStores) (hashed more : List (List ℕ)) → AreAmong hashed more → TreeHolds s strings q seal (held_with stores hashed) → TreeHolds s strings q seal (held_with stores more)
  tree_behind stores hashed more among tree = tree_over (held_with stores hashed) (held_with stores more) refl refl refl among tree

  -- another map was written, which is that of the protocol
  abbrev pub tree_written : (h t : Held) (m : List Entry) → (written : IsWritten m h t) → IsSealOf seal written.next.digest → kept_seal t.stores.facts.kept ≡ seal → AreAmong h.hashed t.hashed → TreeSays s strings q m → IsHonest s.objects q → MayReturn s strings q m
      → (seal ≡ None → TopsReturn s strings h.hashed q (tops_of h.stores)) → TreeHolds s strings q seal t
  tree_written h t m written fits sealed among says honest returns return = record {
    last = last_written strings q s h t seal m written.next fits among says honest returns return;
    sealed = sealed;
    root = inl (sym written.recorded, sym written.recorded ∙ (next_top h t m written.next ∙ sym (seal_names (top_of (tops_of t.stores)) seal written.next.digest (next_top h t m written.next) fits)));
  }

  -- an equal seal
  abbrev pub tree_under : (other : Option (List ℕ)) (h : Held) → other ≡ seal → TreeHolds s strings q seal h → TreeHolds s strings q other h
  tree_under other h same tree = record {
    last = last_under strings q s h.hashed seal other (tops_of h.stores) same tree.last;
    sealed = tree.sealed ∙ sym same;
    root = subst (λ (x : Option (List ℕ)). RootHolds s.objects q (top_of (tops_of h.stores)) x h.stores.tree.top) (sym same) tree.root;
  }

-- the root of a tree that was written is the digest in its new top record
pub written_root : (h t : Held) (m : List Entry) → (written : IsWritten m h t) → t.stores.tree.top ≡ Some written.next.digest
written_root h t m written = sym written.recorded ∙ next_top h t m written.next

-- a top record that was written, seen from earlier stores with the same top records
pub names_from : (h s t : Held) (m : List Entry) → tops_of s.stores ≡ tops_of h.stores → NamesNext m s t → NamesNext m h t
names_from h s t m same next = record { digest = next.digest; tops = next.tops ∙ ap (λ (tops : List (List ℕ)). tops ++ next.digest ∷ []) same; named = next.named }

-- so is a written tree
pub written_from : (h s t : Held) (m : List Entry) → tops_of s.stores ≡ tops_of h.stores → IsWritten m s t → IsWritten m h t
written_from h s t m same written = record { next = names_from h s t m same written.next; shows = written.shows; recorded = written.recorded }

-- a call that leaves the root leaves a written tree
abbrev pub written_kept : (call : Call) (h t : Held) (m : List Entry) → KeepsRoot call → IsWritten m h t → IsWritten m h (answered call t).held
written_kept call h t m root written = record {
  next = record {
    digest = written.next.digest;
    tops = (records.keeps call t root).0 ∙ written.next.tops;
    named = named_behind t.hashed (answered call t).held.hashed written.next.digest m (keeping.grows call t) written.next.named;
  };
  shows = keeping.keeps call t m root written.shows;
  recorded = (records.keeps call t root).1 written.recorded;
}

-- in a later state in which the peer shows the same, wrote the same last, and does not trust its tree if it
-- did not
abbrev pub tree_stays : (s t : State) (strings : List (List ℕ)) (q : ℕ) (seal : Option (List ℕ)) (h : Held) → EntriesStay s t → t.objects.visible q ≡ s.objects.visible q → t.objects.map q ≡ s.objects.map q → (s.objects.trusted q ≡ false → t.objects.trusted q ≡ false) → TreeHolds s strings q seal h → TreeHolds t strings q seal h
tree_stays s t strings q seal h stay visible written blind tree = record {
  last = last_stays strings q s t h.hashed seal (tops_of h.stores) stay visible written tree.last;
  sealed = tree.sealed;
  root = root_over s.objects t.objects q (top_of (tops_of h.stores)) seal h.stores.tree.top (top_of (tops_of h.stores)) h.stores.tree.top refl refl blind tree.root;
}
