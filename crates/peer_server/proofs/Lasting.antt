-- Which steps are durable, turn by turn and commit by commit.
use Rattle.std.specs.Prelude.{Option, Some}
use Rattle.std.proofs.Common.{◌≡◌, ◌⊎◌, ◌∙◌, ap, sym, subst, refl, ℕ, List, [], ◌∷◌, ◌++◌, Ok, inl, inr, append_assoc, append-nil}
use Rattle.std.proofs.lemmas.List.Elements.{All-nil, All-push, All-weaker}
use Rattle.fact_store.specs.Commits.{Committed, CommittedAll}
use Rattle.fact_store.specs.Files.{file_kept}
use Rattle.fact_store.specs.declared.file.FactFile.{FactFile}
use Rattle.stored_formats.specs.declared.saved.SavedFact.{SavedFact}
use Rattle.peer_state.specs.Moves.{saved_by}
use Rattle.peer_state.specs.declared.state.State.{State}
use Rattle.step_plans.specs.Calls.{Call, AnswerOf}
use Rattle.step_plans.specs.declared.error.PeerError.{PeerError}
use Rattle.peer_turns.specs.Deeds.{Deed, Did}
use Rattle.peer_server.specs.Commits.{IsFactOfSome, WasIn}
use Rattle.peer_server.specs.DiskPeers.{OnDisks, disks_do, disks_refuse}
use Rattle.peer_server.specs.Rounds.{Durable}

module _ {D : Type 0} (seen : D → Option (List ℕ)) (may_leave : D → List ℕ → Type 0) (moment : D → ℕ) (left_since : D → ℕ → List ℕ → Type 0) (faults : D → ℕ) where
  pub committed_more : (facts : List SavedFact) (fact : SavedFact) (f m g : FactFile D) → CommittedAll seen may_leave moment left_since faults facts f m → Committed seen may_leave moment left_since faults fact m g
      → CommittedAll seen may_leave moment left_since faults (facts ++ fact ∷ []) f g
  committed_more [] fact f m g all one = (g, subst (λ (k : FactFile D). Committed seen may_leave moment left_since faults fact k g) all one, refl)
  committed_more (x ∷ xs) fact f m g all one = (all.0, all.1, committed_more xs fact all.0 m g all.2 one)

  pub committed_kept : (fact : SavedFact) (f g : FactFile D) → Committed seen may_leave moment left_since faults fact f g → file_kept g ≡ Some (Ok fact)
  committed_kept fact f g (inl same) = ap file_kept same.1 ∙ same.0
  committed_kept fact f g (inr done) = done.0.kept

  module _ (me : ℕ) (x : State) (s : OnDisks D) where
    abbrev Does : OnDisks D → (call : Call) → AnswerOf call → OnDisks D → Type 0
    Does p call a q = disks_do seen faults p call a q

    abbrev Refuses : OnDisks D → Call → PeerError → OnDisks D → Type 0
    Refuses p call e q = disks_refuse seen faults p call e q

    abbrev Lasts : List Deed → FactFile D → FactFile D → Type 0
    Lasts deeds f g = Durable seen may_leave moment left_since faults me x s deeds f g

    abbrev OfSome : List Deed → SavedFact → Type 0
    OfSome deeds fact = IsFactOfSome Does Refuses me x s deeds (Some (Ok fact))

    was_in_more : (deeds more : List Deed) (z : State) → WasIn Does Refuses me x s deeds z → WasIn Does Refuses me x s (deeds ++ more) z
    was_in_more deeds more z was = record {
      done = was.done;
      later = was.later ++ more;
      all = ap (λ (l : List Deed). l ++ more) was.all ∙ append_assoc was.done was.later more;
      stores = was.stores;
      did = was.did;
    }

    pub of_some_more : (deeds more : List Deed) (fact : SavedFact) → OfSome deeds fact → OfSome (deeds ++ more) fact
    of_some_more deeds more fact one = (one.0, was_in_more deeds more one.0 one.1, one.2)

    -- after all of the steps
    pub of_all : (deeds : List Deed) (y : State) (t : OnDisks D) → Did Does Refuses me x s deeds y t → OfSome deeds (saved_by y)
    of_all deeds y t did = (y, record { done = deeds; later = []; all = sym (append-nil deeds); stores = t; did = did }, refl)

    abbrev pub lasts_none : (f : FactFile D) → Lasts [] f f
    lasts_none f = record {
      kept = [];
      late = [];
      all = refl;
      state = x;
      stores = s;
      reached = (refl, refl);
      facts = [];
      commits = refl;
      each = All-nil (OfSome []);
      newest = inl (refl, refl);
    }

    -- more steps, and nothing was committed
    abbrev pub lasts_more : (deeds more : List Deed) (f g h : FactFile D) → h ≡ g → Lasts deeds f g → Lasts (deeds ++ more) f h
    lasts_more deeds more f g h same lasts = record {
      kept = lasts.kept;
      late = lasts.late ++ more;
      all = ap (λ (l : List Deed). l ++ more) lasts.all ∙ append_assoc lasts.kept lasts.late more;
      state = lasts.state;
      stores = lasts.stores;
      reached = lasts.reached;
      facts = lasts.facts;
      commits = subst (λ (k : FactFile D). CommittedAll seen may_leave moment left_since faults lasts.facts f k) (sym same) lasts.commits;
      each = All-weaker (OfSome deeds) (OfSome (deeds ++ more)) (of_some_more deeds more) lasts.facts lasts.each;
      newest = subst (λ (k : FactFile D). ((lasts.kept ≡ []) × (k ≡ f)) ⊎ (file_kept k ≡ Some (Ok (saved_by lasts.state)))) (sym same) lasts.newest;
    }

    -- a commit: all steps are durable
    abbrev pub lasts_committed : (deeds : List Deed) (y : State) (t : OnDisks D) (f m g : FactFile D) → Lasts deeds f m → Did Does Refuses me x s deeds y t → Committed seen may_leave moment left_since faults (saved_by y) m g → Lasts deeds f g
    lasts_committed deeds y t f m g lasts did one = record {
      kept = deeds;
      late = [];
      all = sym (append-nil deeds);
      state = y;
      stores = t;
      reached = did;
      facts = lasts.facts ++ saved_by y ∷ [];
      commits = committed_more lasts.facts (saved_by y) f m g lasts.commits one;
      each = All-push (OfSome deeds) lasts.facts (saved_by y) lasts.each (of_all deeds y t did);
      newest = inr (committed_kept (saved_by y) m g one);
    }
