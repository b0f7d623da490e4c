-- The world before the first event agrees with the opening state of the protocol: each peer has started over empty stores.
use Rattle.std.proofs.Common.{◌≡◌, ◌^◌, eqb-true, lit<, ℕ, zero, suc, ◌<◌, inl, inr, Bool, true, false, List, [], Option, None, Some, Result, Ok, slice_get, replicate, refl, sym, ap, ◌∙◌, subst}
use Rattle.ens_base.proofs.Lists.{in_right}
use Rattle.std.proofs.lemmas.Bool.{false≢true}
use Rattle.std.proofs.lemmas.List.Elements.{All-nil}
use Rattle.ens_base.specs.Lists.{◌∈◌}
use Rattle.ens_base.specs.View.{IsView}
use Rattle.protocol_laws.specs.Ledger.{opening_ledger}
use Rattle.protocol_laws.specs.Protocol.{opening}
use Rattle.step_refinement.proofs.ElectionRefinement.{listed_opening, replicated, saved_first, orderly_first}
use Rattle.step_refinement.specs.ElectionRefinement.{IsListedMessage, FrameHolds}
use Rattle.peer_refinement.specs.WorldSpec.{answered, walked, done, version_opened, with_facts, Held, empty_stores, held_with, Ended, run, either, End, Came, Broke, Failed}
use Rattle.role_laws.proofs.Roles.{roles_open}
use Rattle.role_laws.specs.Roles.{Follows}
use Rattle.role_laws.specs.Tables.{Ghosts}
use Rattle.network.specs.Mail.{MayBeSent}
use Rattle.peer_refinement.specs.PeerSpec.{first_state, opening_saved, seals_opening, start_of}
use Rattle.peer_state.specs.declared.state.State.{State as PeerState}
use Rattle.step_refinement.specs.PeerRefinement.{hash_of}
use Rattle.schedule_text.specs.Forms.{is_sealed}
use Rattle.schedule_text.specs.declared.form.Form.{Form}
use Rattle.role_laws.specs.Kept.{IsSealed}
use Rattle.step_plans.specs.Calls.{FreshTree}
use Rattle.step_plans.specs.Plans.{Finished, Stopped, nothing}
use Rattle.step_plans.specs.declared.error.PeerError.{PeerError}
use Rattle.role_laws.specs.Facts.{Lines}
use Rattle.synctree.specs.Trees.{fresh_plan}
use Rattle.synctree.specs.Sixteen.{form_of}
use Rattle.tree_node.specs.declared.version.TreeVersion.{TreeVersion}
use Rattle.peer_refinement.proofs.Tops as records
use Rattle.peer_refinement.proofs.Whole as whole
use Rattle.peer_refinement.specs.Tops.{IsWritten, HasBuilt}
use Rattle.peer_refinement.specs.Trees.{AreAmong}
use Rattle.wire_frames.specs.declared.frame.Frame.{Frame}
use Rattle.world_spec.specs.Nodes.{Node, Up, taken_of, run_over, opening_node, opening_strings}
use Rattle.world_spec.specs.Runs.{repeated, tree_first, opening_mode, opening_run}
use Rattle.world_stores.specs.declared.fact.HeldFact.{HeldFact}
use Rattle.step_refinement.proofs.ShownMaps.{IsSealOf, next_top, tree_behind, tree_written}
use Rattle.step_refinement.specs.Peers.{TreeHolds}
use Rattle.world_refinement.specs.Roles.{role_of, role_at, roles_of}
use Rattle.world_refinement.specs.Worlds.{NodeFits, WorldHolds}
use Rattle.step_refinement.proofs.Stretches.{roles_same}

-- the strings of a start are among those of all starts, if there is one
start_among : {A : Type 0} (n place : ℕ) (x y : A) (strings : List (List ℕ)) → slice_get (replicate n x) place ≡ Some y → AreAmong strings (repeated n strings)
start_among zero place x y strings at s here = absurd (cc)
start_among (suc n) place x y strings at s here = in_right (repeated n strings) strings s here

-- the seal of the opening fact: the root of the tree that was made, if seals are kept
abbrev pub opening_seal : Bool → Held → Option (List ℕ)
opening_seal true h = h.stores.tree.top
opening_seal false h = None

-- a tree that was made has the version in which it was made
made_in : (tree old : TreeVersion) (end : End (List ℕ)) → done end ≡ Ok tt → version_opened tree old end ≡ tree
made_in tree old (Came root) is = refl
made_in tree old (Broke at) is = absurd (cc)
made_in tree old Failed is = absurd (cc)

module _ (form : Form) (view : List ℕ) where
  -- ## The start of a peer

  -- nothing is stored yet
  abbrev pub first : Held
  first = held_with empty_stores []

  -- the tree is made
  abbrev pub fresh : Held
  fresh = (answered (FreshTree (tree_first form)) first).held

  abbrev pub seal : Option (List ℕ)
  seal = opening_seal (is_sealed form) fresh

  -- the opening fact is saved
  abbrev pub kept_with : Option (List ℕ) → HeldFact
  kept_with other = record fresh.stores.facts { kept = Some (opening_saved view other) }

  abbrev pub saved : Held
  saved = with_facts (kept_with seal) fresh

  made : (answered (FreshTree (tree_first form)) first).result ≡ Ok tt
  made = (whole.makes (tree_first form) first (record { facts = refl; backend = refl; tree = refl })).0

  written : IsWritten [] first fresh
  written = subst (λ (r : Result (Unit {0}) PeerError). HasBuilt [] first r fresh) made (records.makes (tree_first form) first)

  -- the tree has the version of this form
  pub fresh_version : fresh.stores.tree.version ≡ tree_first form
  fresh_version = made_in (tree_first form) first.stores.tree.version (walked (fresh_plan (form_of (tree_first form))) first).end made

  -- the root of the tree is its top record
  root_is : fresh.stores.tree.top ≡ Some written.next.digest
  root_is = sym written.recorded ∙ next_top first fresh [] written.next

  seal_is : (seals : Bool) → IsSealOf (opening_seal seals fresh) written.next.digest
  seal_is true = inr root_is
  seal_is false = inl refl

  seal_kept : (seals : Bool) → seals ≡ true → IsSealed (opening_seal seals fresh)
  seal_kept true is = subst IsSealed (sym root_is) tt
  seal_kept false is = absurd (false≢true is)

  saves_so : (seals : Bool) → run (seals_opening seals (opening_mode form) view) fresh [] ≡ record { ending = Finished (first_state (opening_mode form) (opening_saved view (opening_seal seals fresh)) true) nothing; held = with_facts (kept_with (opening_seal seals fresh)) fresh; notes = [] }
  saves_so true = refl
  saves_so false = refl

  started : run_over (start_of (opening_mode form) view) empty_stores ≡ record { ending = Finished (first_state (opening_mode form) (opening_saved view seal) true) nothing; held = saved; notes = [] }
  started = ap (λ (r : Result (Unit {0}) PeerError). either {R = Ended PeerState} r (λ u. run (seals_opening (is_sealed form) (opening_mode form) view) fresh []) (λ error. record { ending = Stopped error; held = fresh; notes = [] })) made
      ∙ saves_so (is_sealed form)

  pub node_is : Up (first_state (opening_mode form) (opening_saved view seal) true) saved.stores ≡ opening_node (opening_mode form) view
  node_is = sym (ap (λ (e : Ended PeerState). (taken_of e).node) started)

  pub strings_are : opening_strings (opening_mode form) view ≡ fresh.hashed
  strings_are = ap (λ (e : Ended PeerState). (taken_of e).hashed) started

  -- the fact has no part in what the tree shows
  abbrev written_saved : IsWritten [] first saved
  written_saved = record { next = record { digest = written.next.digest; tops = written.next.tops; named = written.next.named }; shows = written.shows; recorded = written.recorded }

  -- the tree shows the empty map, which the only top record names, and the seal, if there is one
  abbrev fresh_tree : (strings : List (List ℕ)) (q : ℕ) → TreeHolds (opening view) strings q seal saved
  fresh_tree strings q = tree_written (opening view) strings q seal first saved [] written_saved (seal_is (is_sealed form)) refl (λ s at. absurd at)
      (record { entries = λ e at. absurd at; visible = λ k. refl }) (λ k. refl) (record { entries = λ e at. absurd at; reached = λ e at. absurd at }) (λ none digest at. absurd at)

  node_first : (lines : Lines) (strings more : List (List ℕ)) (q : ℕ) → lines.sealed ≡ is_sealed form → view ∈ lines.voting → AreAmong (opening_strings (opening_mode form) view) more → NodeFits (tree_first form) lines strings more (opening view) q (opening_node (opening_mode form) view)
  node_first lines strings more q same votes among = subst (λ (n : Node). NodeFits (tree_first form) lines strings more (opening view) q n) node_is (record {
    holds = record { saved = saved_first view q; kept = refl; phase = tt; sync = tt };
    listed = listed_opening lines.voting q (opening_mode form) view seal votes;
    trust = refl;
    tree = tree_behind (opening view) strings q seal saved.stores fresh.hashed more (subst (λ (xs : List (List ℕ)). AreAmong xs more) strings_are among) (fresh_tree strings q);
    seal = λ sealed. seal_kept (is_sealed form) (sym same ∙ sealed);
    mode = refl;
    held = fresh_version;
    sync = tt;
    fits = tt;
    rests = tt;
  })

  role_first : (peers q : ℕ) → Follows [] ≡ roles_of (replicate peers (opening_node (opening_mode form) view)) q
  role_first peers zero = refl
  role_first peers (suc place) = by_node (slice_get (replicate peers (opening_node (opening_mode form) view)) place) refl
    where
      by_node : (o : Option Node) → slice_get (replicate peers (opening_node (opening_mode form) view)) place ≡ o → Follows [] ≡ role_at o
      by_node None at = refl
      by_node (Some node) at = ap role_of (node_is ∙ replicated peers place (opening_node (opening_mode form) view) node at)

  -- the world before the first event agrees with the opening state
  pub opening_holds : (lines : Lines) (peers : ℕ) (strings : List (List ℕ)) → lines.sealed ≡ is_sealed form → IsView view → view ∈ lines.voting → WorldHolds lines view strings [] (opening_run form peers view)
  opening_holds lines peers strings same is_view votes = record {
    parts = record {
      run = is_view.size.0;
      orderly = orderly_first view;
      acks = λ v q is acked. absurd (false≢true acked);
      asked = λ i came. absurd (false≢true came);
      epochs = λ d elected. subst (λ (n : ℕ). n < 2 ^ 96) (sym (eqb-true d 0 elected)) (lit< tt);
      firm = λ q is. refl;
      nodes_fit = λ place node at. subst (λ (n : Node). NodeFits (tree_first form) lines strings (repeated peers (opening_strings (opening_mode form) view)) (opening view) (suc place) n) (replicated peers place (opening_node (opening_mode form) view) node at)
          (node_first lines strings (repeated peers (opening_strings (opening_mode form) view)) (suc place) same votes (start_among peers place (opening_node (opening_mode form) view) node (opening_strings (opening_mode form) view) at));
      messages = record { hold = All-nil (FrameHolds (opening_ledger view)); listed = All-nil (λ (f : Frame). IsListedMessage lines.voting f.message); fit = λ n f later at. absurd (cc); may = All-nil MayBeSent };
      noted = refl;
    };
    roles = record {
      ghosts = g;
      hash = refl;
      hold = roles_same g (opening view) (λ q. Follows []) (roles_of (replicate peers (opening_node (opening_mode form) view))) [] [] (role_first peers) (λ m i. i) (roles_open view hash_of);
    };
  }
    where
      g : Ghosts
      g = record { turn = λ d r. None; home = λ i. 0; hash = hash_of }
