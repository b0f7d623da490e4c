-- What a tree shows, and what its peer sends of it.
use Rattle.std.proofs.Common.{◌≡◌, ◌⊎◌, ℕ, ◌≤◌, Bool, true, false, ◌||◌, List, Option, arith, refl, ap, sym, ◌∙◌, subst, inl, inr}
use Rattle.protocol_laws.specs.Numbers.{epoch_number}
use Rattle.protocol_laws.specs.Objects.{epoch_of, IsGenuine}
use Rattle.protocol_laws.specs.Protocol.{State, Step, IsRun, state_after}
use Rattle.ens_base.specs.declared.entry.Entry.{Entry}
use Rattle.ens_base.specs.declared.epoch.Epoch.{Epoch}
use Rattle.tree_node.specs.declared.version.TreeVersion.{TreeVersion}
use Rattle.tree_exchange.specs.Gives.{given}
use Rattle.tree_exchange.specs.declared.question.Question.{Question}
use Rattle.peer_refinement.proofs.LeaderRefinement.{rank_some}
use Rattle.peer_refinement.specs.LeaderRefinement.{rank}
use Rattle.world_spec.specs.PeerSpec.{body_of}
use Rattle.step_plans.specs.declared.walked.Walked.{Walked}
use Rattle.step_plans.specs.declared.walked.Walked.TheVariants.{Reached, Broken}
use Rattle.role_laws.specs.Facts.{Lines}
use Rattle.role_laws.specs.SyncMessages.{GiveSays}
use Rattle.tree_node.specs.declared.body.TreeBody.{TreeBody}
use Rattle.tree_node.specs.declared.body.TreeBody.TheVariants as bodies
use Rattle.protocol_laws.proofs.Trees.{run_versions}
use Rattle.protocol_laws.specs.Versions.{VersionsAreSafe}
use Rattle.peer_refinement.specs.SyncLaws.{FirmAreKept, TrustedMapsSay, ShownMayReturn, HasWalked, GivesShow}
use Rattle.peer_refinement.specs.Seen.{ranks}
use Rattle.peer_refinement.specs.Syncs.{TreeSays, GiveShows, GiveFits}
use Rattle.peer_refinement.proofs.Maps.{not_zero, ranks_in}

-- ## Trees

module _ (s : State) (safe : VersionsAreSafe s.objects) where
  maps_say : TrustedMapsSay s
  maps_say strings q m trusts says = record { entries = says.entries; map = λ k. sym (safe.sight.trusted q trusts k) ∙ says.visible k; visible = says.visible }

  reached : (q : ℕ) (e : Entry) → IsGenuine s.objects (s.objects.ledger.ballot q) e.key (rank e.version) → epoch_of (rank e.version) ≤ s.objects.ledger.ballot q
  reached q e (inl none) = absurd (not_zero (rank e.version) (rank_some e.version) none)
  reached q e (inr genuine) = genuine.2

  returns_may : ShownMayReturn s
  returns_may strings q m ok says = record {
    entries = says.entries;
    reached = λ e at. reached q e (subst (λ v. IsGenuine s.objects (s.objects.ledger.ballot q) e.key v) (says.visible e.key ∙ ranks_in m e e.key ok.ascends at refl) (safe.genuine.shown q e.key));
  }

-- ## Gives

module _ (g : Lines) (s : State) (safe : VersionsAreSafe s.objects) (strings : List (List ℕ)) (q d : ℕ) (trusted : Bool) (m : List Entry) (stands : s.objects.ledger.ballot q ≡ d) (says : TreeSays s strings q m) where
  -- what a tree shows at the ballot of its peer
  pub tree_genuine : (k : List ℕ) → IsGenuine s.objects d k (ranks m k)
  tree_genuine k = subst (λ e. IsGenuine s.objects e k (ranks m k)) stands (subst (λ v. IsGenuine s.objects (s.objects.ledger.ballot q) k v) (says.visible k) (safe.genuine.shown q k))

  sure : FirmAreKept g s → (b : Bool) → s.objects.trusted q ≡ b → (b || g.firm q) ≡ true → (s.objects.trusted q ≡ true) ⊎ (s.objects.reverted q ≡ false)
  sure kept true trusts h = inl trusts
  sure kept false trusts h = inr (kept q h)

  -- a peer that trusts its tree, or is firm, shows what it had when it reached its ballot
  pub tree_floor : FirmAreKept g s → s.objects.trusted q ≡ trusted → (trusted || g.firm q) ≡ true → (k : List ℕ) → s.objects.floor q d k ≤ ranks m k
  tree_floor kept trusts h k = subst (λ e. s.objects.floor q e k ≤ ranks m k) stands (subst (λ v. s.objects.floor q (s.objects.ledger.ballot q) k ≤ v) (says.visible k) (safe.shows q k (sure kept trusted trusts h)))

  give_says : FirmAreKept g s → s.objects.trusted q ≡ trusted → GiveSays g s.objects q d trusted (ranks m)
  give_says kept trusts = record { reached = low (s.objects.ledger.ballot q) d stands; genuine = tree_genuine; given = tree_floor kept trusts }
    where
      low : (a b : ℕ) → a ≡ b → b ≤ a
      low a b e = omega arith

show_fits : (version : TreeVersion) (g : Lines) (s : State) (strings : List (List ℕ)) (q : ℕ) (ballot : Epoch) (question : Question) (trusted : Bool) (body : TreeBody) → GiveShows version g s strings q ballot question trusted body → GiveFits version g s strings q ballot question trusted body
show_fits version g s strings q ballot question trusted (bodies.Inner mask digests) shows = shows
show_fits version g s strings q ballot question trusted (bodies.Page es more) shows = shows
show_fits version g s strings q ballot question trusted (bodies.Damaged at) shows = tt

gives_show : (g : Lines) (s : State) → VersionsAreSafe s.objects → GivesShow g s
gives_show g s safe version strings q ballot question trusted m walked kept trusts stands ok says walk = by_walk walked walk
  where
    by_walk : (x : Walked (Option (List ℕ))) → HasWalked version strings m question.position x → GiveFits version g s strings q ballot question trusted (body_of version question x)
    by_walk (Reached node) is = show_fits version g s strings q ballot question trusted (given version node question) (record {
      map = m;
      is_map = ok;
      body_is = ap (λ (o : Option (List ℕ)). given version o question) is.0;
      hashed = is.1;
      entries = says.entries;
      says = give_says g s safe strings q (epoch_number ballot) trusted m stands says kept trusts;
    })
    by_walk (Broken at) is = tt

-- ## In each state of a run

-- a peer that trusts its tree shows the map that the protocol has
pub trusted_maps : (view : List ℕ) (steps : List Step) → IsRun view steps → TrustedMapsSay (state_after view steps)
trusted_maps view steps run = maps_say (state_after view steps) (run_versions view steps run)

-- a tree may be put back to a map that it shows
pub may_return : (view : List ℕ) (steps : List Step) → IsRun view steps → ShownMayReturn (state_after view steps)
may_return view steps run = returns_may (state_after view steps) (run_versions view steps run)

-- what a peer sends of its tree says what holds
pub gives : (g : Lines) (view : List ℕ) (steps : List Step) → IsRun view steps → GivesShow g (state_after view steps)
gives g view steps run = gives_show g (state_after view steps) (run_versions view steps run)
