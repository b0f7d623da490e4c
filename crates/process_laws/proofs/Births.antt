-- Before the first moment each peer has started on disks without a fact: this agrees with the opening of the protocol.
use Rattle.std.proofs.Common.{◌≡◌, ◌<◌, ◌+◌, ℕ, zero, suc, true, List, [], length, Option, None, Some, Result, Ok, slice_get, arith, lit<, refl, sym, ap, ◌∙◌, subst, inr}
use Rattle.std.proofs.lemmas.Option.{none-some, same_Some}
use Rattle.protocol_laws.specs.Protocol.{opening}
use Rattle.world_refinement.proofs.OpeningWorld.{opening_holds}
use Rattle.world_refinement.proofs.WorldGrammar.{IsIntact, IsReady, opening_intact}
use Rattle.world_refinement.specs.Roles.{role_of, role_at, roles_of}
use Rattle.world_refinement.specs.Worlds.{NodeFits, WorldHolds}
use Rattle.ens_base.proofs.Lists.{in_left, in_right}
use Rattle.ens_base.specs.Lists.{◌∈◌}
use Rattle.ens_base.specs.View.{IsView}
use Rattle.role_laws.proofs.Roles.{roles_open}
use Rattle.role_laws.specs.Roles.{Follows}
use Rattle.role_laws.specs.Tables.{Ghosts}
use Rattle.process_laws.specs.Moments.{Found, Group, born, born_on, hashed_by_births, opening_of, stores_found}
use Rattle.peer_state.specs.declared.state.State.{State as PeerState}
use Rattle.schedule_text.specs.declared.form.Form.TheVariants.{Three}
use Rattle.lexemes.specs.Spelling.{IsAmong}
use Rattle.step_plans.specs.Calls.{FreshTree}
use Rattle.step_plans.specs.Plans.{Finished, Stopped, nothing}
use Rattle.step_plans.specs.declared.error.PeerError.{PeerError}
use Rattle.step_refinement.proofs.ElectionRefinement.{listed_opening, saved_first}
use Rattle.step_refinement.proofs.ShownMaps.{tree_behind, tree_written, written_root}
use Rattle.step_refinement.proofs.Stretches.{roles_same}
use Rattle.step_refinement.specs.Peers.{SealFits, TreeHolds}
use Rattle.step_refinement.specs.PeerRefinement.{hash_of}
use Rattle.role_laws.specs.Facts.{Lines}
use Rattle.peer_refinement.proofs.Tops as records
use Rattle.peer_refinement.proofs.Whole as whole
use Rattle.peer_refinement.specs.WorldSpec.{answered, either, held_with, run, walk, with_facts, Ended, Held, HeldStores}
use Rattle.peer_refinement.specs.PeerSpec.{first_state, opening_saved, seals_opening, start_of}
use Rattle.peer_refinement.specs.Tops.{IsWritten, HasBuilt}
use Rattle.peer_refinement.specs.Trees.{AreAmong}
use Rattle.world_spec.proofs.Obeying.{IsOwnNode, started_own}
use Rattle.world_spec.specs.Nodes.{Node, Up, Down, hashed_by_start, run_over, started, taken_of}
use Rattle.world_spec.specs.Runs.{opening_mode, opening_run, tree_first}

-- ## The first start of a peer

module _ (view : List ℕ) (found : Found) where
  -- the stores over what was found, without a fact
  abbrev bare : HeldStores
  bare = record (stores_found found) { facts = record (stores_found found).facts { kept = None } }

  abbrev first : Held
  first = held_with bare []

  -- the tree is made
  abbrev fresh : Held
  fresh = (answered (FreshTree (tree_first Three)) first).held

  made : (answered (FreshTree (tree_first Three)) first).result ≡ Ok tt
  made = (whole.makes (tree_first Three) first (record { facts = refl; backend = refl; tree = refl })).0

  written : IsWritten [] first fresh
  written = subst (λ (r : Result (Unit {0}) PeerError). HasBuilt [] first r fresh) made (records.makes (tree_first Three) first)

  fresh_version : fresh.stores.tree.version ≡ tree_first Three
  unfolding walk
  fresh_version = refl

  -- the seal of the opening fact is the root of the tree that was made
  abbrev seal : Option (List ℕ)
  seal = fresh.stores.tree.top

  root_is : seal ≡ Some written.next.digest
  root_is = written_root first fresh [] written

  -- the opening fact is saved
  abbrev saved : Held
  saved = with_facts (record fresh.stores.facts { kept = Some (opening_saved view seal) }) fresh

  starts : run_over (start_of (opening_mode Three) view) bare ≡ record { ending = Finished (first_state (opening_mode Three) (opening_saved view seal) true) nothing; held = saved; notes = [] }
  starts = ap (λ (r : Result (Unit {0}) PeerError). either {R = Ended PeerState} r (λ u. run (seals_opening true (opening_mode Three) view) fresh []) (λ error. record { ending = Stopped error; held = fresh; notes = [] })) made

  node_is : Up (first_state (opening_mode Three) (opening_saved view seal) true) saved.stores ≡ started (opening_mode Three) view (Down bare)
  node_is = sym (ap (λ (e : Ended PeerState). (taken_of e).node) starts)

  strings_are : hashed_by_start (opening_mode Three) view (Down bare) ≡ fresh.hashed
  strings_are = ap (λ (e : Ended PeerState). (taken_of e).hashed) starts

  -- the fact has no part in what the tree shows
  abbrev written_saved : IsWritten [] first saved
  written_saved = record { next = record { digest = written.next.digest; tops = written.next.tops; named = written.next.named }; shows = written.shows; recorded = written.recorded }

  -- the tree shows the empty map, which the seal names
  abbrev fresh_tree : (strings : List (List ℕ)) (q : ℕ) → TreeHolds (opening view) strings q seal saved
  fresh_tree strings q = tree_written (opening view) strings q seal first saved [] written_saved (inr root_is) refl (λ s at. absurd at)
      (record { entries = λ e at. absurd at; visible = λ k. refl }) (λ k. refl) (record { entries = λ e at. absurd at; reached = λ e at. absurd at }) (λ none. absurd (none-some written.next.digest (sym none ∙ root_is)))

  bare_fits : (lines : Lines) (strings more : List (List ℕ)) (q : ℕ) → view ∈ lines.voting → AreAmong (hashed_by_start (opening_mode Three) view (Down bare)) more → NodeFits (tree_first Three) lines strings more (opening view) q (started (opening_mode Three) view (Down bare))
  bare_fits lines strings more q votes among = subst (λ (n : Node). NodeFits (tree_first Three) lines strings more (opening view) q n) node_is (record {
    holds = record { saved = saved_first view q; kept = refl; phase = tt; sync = tt };
    listed = listed_opening lines.voting q (opening_mode Three) view seal votes;
    trust = refl;
    tree = tree_behind (opening view) strings q seal saved.stores fresh.hashed more (subst (λ (xs : List (List ℕ)). AreAmong xs more) strings_are among) (fresh_tree strings q);
    seal = subst (SealFits lines) (sym root_is) (λ sealed. tt);
    mode = refl;
    held = fresh_version;
    sync = tt;
    fits = tt;
    rests = tt;
  })

  module _ (none : found.fact ≡ None) where
    bare_is : bare ≡ stores_found found
    bare_is = ap (λ fact. let s : HeldStores = record (stores_found found) { facts = record (stores_found found).facts { kept = fact } } in s) (sym none)

    abbrev peer : Node
    peer = born_on view found

    -- it agrees with the opening of the protocol
    pub born_fits : (lines : Lines) (strings more : List (List ℕ)) (q : ℕ) → view ∈ lines.voting → AreAmong (hashed_by_start (opening_mode Three) view (Down (stores_found found))) more → NodeFits (tree_first Three) lines strings more (opening view) q peer
    born_fits lines strings more q votes =
        subst (λ (s : HeldStores). AreAmong (hashed_by_start (opening_mode Three) view (Down s)) more → NodeFits (tree_first Three) lines strings more (opening view) q (started (opening_mode Three) view (Down s))) bare_is (bare_fits lines strings more q votes)

    born_is : Up (first_state (opening_mode Three) (opening_saved view seal) true) saved.stores ≡ peer
    born_is = node_is ∙ ap (λ (s : HeldStores). started (opening_mode Three) view (Down s)) bare_is

    pub born_follows : Follows [] ≡ role_of peer
    born_follows = ap role_of born_is

    pub born_ready : IsReady peer
    born_ready = subst IsReady born_is (lit< tt)

-- ## The first starts of all peers

pub born_many : (firsts : ℕ → Found) (view : List ℕ) (p n : ℕ) → length (born firsts view p n) ≡ n
born_many firsts view p zero = refl
born_many firsts view p (suc n) = ap suc (born_many firsts view (suc p) n)

-- the peer at a place started on what its first process found, and all strings are those of some start
pub record IsBornAt (firsts : ℕ → Found) (view : List ℕ) (p n place : ℕ) (node : Node) : Type 0 where
  pub within : place < n
  pub is : born_on view (firsts (p + place)) ≡ node
  pub strings : AreAmong (hashed_by_start (opening_mode Three) view (Down (stores_found (firsts (p + place))))) (hashed_by_births firsts view p n)

-- the same of one peer less, from the next one on
born_next : (firsts : ℕ → Found) (view : List ℕ) (p n place : ℕ) (node : Node) → IsBornAt firsts view (suc p) n place node → IsBornAt firsts view p (suc n) (suc place) node
born_next firsts view p n place node later = record {
  within = omega (arith, later.within);
  is = subst (λ (q : ℕ). born_on view (firsts q) ≡ node) (next p place) later.is;
  strings = subst (λ (q : ℕ). AreAmong (hashed_by_start (opening_mode Three) view (Down (stores_found (firsts q)))) (hashed_by_births firsts view p (suc n))) (next p place)
      (λ x i. in_right (hashed_by_start (opening_mode Three) view (Down (stores_found (firsts p)))) (hashed_by_births firsts view (suc p) n) x (later.strings x i));
}
  where
    next : (p place : ℕ) → suc p + place ≡ p + suc place
    next p place = omega arith

pub born_at : (firsts : ℕ → Found) (view : List ℕ) (p n place : ℕ) (node : Node) → slice_get (born firsts view p n) place ≡ Some node → IsBornAt firsts view p n place node
born_at firsts view p zero place node at = absurd (none-some node at)
born_at firsts view p (suc n) zero node at = record {
  within = omega arith;
  is = ap (λ (q : ℕ). born_on view (firsts q)) (here p) ∙ same_Some (born_on view (firsts p)) node at;
  strings = subst (λ (q : ℕ). AreAmong (hashed_by_start (opening_mode Three) view (Down (stores_found (firsts q)))) (hashed_by_births firsts view p (suc n))) (sym (here p))
      (λ x i. in_left (hashed_by_start (opening_mode Three) view (Down (stores_found (firsts p)))) (hashed_by_births firsts view (suc p) n) x i);
}
  where
    here : (p : ℕ) → p + 0 ≡ p
    here p = omega arith
born_at firsts view p (suc n) (suc place) node at = born_next firsts view p n place node (born_at firsts view (suc p) n place node at)

module _ (g : Group) (none : (p : ℕ) → IsAmong g.peers p → (g.first p).fact ≡ None) where
  abbrev nodes : List Node
  nodes = born g.first g.view 1 g.peers

  abbrev Born : ℕ → Node → Type 0
  Born place node = IsBornAt g.first g.view 1 g.peers place node

  -- the peer at a place found no fact
  none_at : (place : ℕ) → place < g.peers → (g.first (1 + place)).fact ≡ None
  none_at place within = none (1 + place) (record { first = omega arith; last = omega (arith, within) })

  role_first : (q : ℕ) → Follows [] ≡ roles_of nodes q
  role_first zero = refl
  role_first (suc place) = by_node (slice_get nodes place) refl
    where
      by_node : (o : Option Node) → slice_get nodes place ≡ o → Follows [] ≡ role_at o
      by_node None at = refl
      by_node (Some node) at = of_born (born_at g.first g.view 1 g.peers place node at)
        where
          of_born : Born place node → Follows [] ≡ role_of node
          of_born b = born_follows g.view (g.first (1 + place)) (none_at place b.within) ∙ ap role_of b.is

  -- the world before the first moment agrees with the opening state
  pub born_holds : (lines : Lines) (strings : List (List ℕ)) → lines.sealed ≡ true → IsView g.view → g.view ∈ lines.voting → WorldHolds lines g.view strings [] (opening_of g)
  born_holds lines strings same is_view votes = record {
    parts = record {
      run = o.parts.run;
      orderly = o.parts.orderly;
      acks = o.parts.acks;
      asked = o.parts.asked;
      epochs = o.parts.epochs;
      firm = o.parts.firm;
      nodes_fit = λ place node at. fits place node (born_at g.first g.view 1 g.peers place node at);
      messages = o.parts.messages;
      noted = o.parts.noted;
    };
    roles = record {
      ghosts = ghosts;
      hash = refl;
      hold = roles_same ghosts (opening g.view) (λ q. Follows []) (roles_of nodes) [] [] role_first (λ m i. i) (roles_open g.view hash_of);
    };
  }
    where
      o : WorldHolds lines g.view strings [] (opening_run Three g.peers g.view)
      o = opening_holds Three g.view lines g.peers strings same is_view votes

      ghosts : Ghosts
      ghosts = record { turn = λ d r. None; home = λ i. 0; hash = hash_of }

      fits : (place : ℕ) (node : Node) → Born place node → NodeFits (tree_first Three) lines strings (hashed_by_births g.first g.view 1 g.peers) (opening g.view) (suc place) node
      fits place node b = subst (λ (n : Node). NodeFits (tree_first Three) lines strings (hashed_by_births g.first g.view 1 g.peers) (opening g.view) (suc place) n) b.is
          (born_fits g.view (g.first (1 + place)) (none_at place b.within) lines strings (hashed_by_births g.first g.view 1 g.peers) (suc place) votes b.strings)

  pub born_intact : IsIntact (opening_of g)
  born_intact = record {
    fine = record { mail = (opening_intact Three g.peers g.view).fine.mail; nodes = λ place node at. own place node (born_at g.first g.view 1 g.peers place node at) };
    ready = λ place node at. ready place node (born_at g.first g.view 1 g.peers place node at);
  }
    where
      own : (place : ℕ) (node : Node) → Born place node → IsOwnNode (suc place) node
      own place node b = subst (IsOwnNode (suc place)) b.is (started_own (suc place) (opening_mode Three) g.view (Down (stores_found (g.first (1 + place)))) tt)

      ready : (place : ℕ) (node : Node) → Born place node → IsReady node
      ready place node b = subst IsReady b.is (born_ready g.view (g.first (1 + place)) (none_at place b.within))
