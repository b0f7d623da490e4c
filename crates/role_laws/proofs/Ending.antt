-- The end of a sync.
use Rattle.std.proofs.Common.{◌≡◌, ◌⊎◌, inl, inr, ℕ, Bool, true, false, List, [], ◌∷◌, ◌++◌, Option, None, Some, refl, sym, ap, subst, ◌∙◌, le_trans}
use Rattle.std.proofs.lemmas.Option.{none-some}
use Rattle.ens_base.specs.Lists.{◌∈◌}
use Rattle.protocol_laws.specs.Objects.{Map, IsGenuine, IsHonest, IsSynced, MayInstall, MayEndSync}
use Rattle.protocol_laws.specs.Protocol.{State, Step, Install, EndSync, happens, IsRun, state_after, after, MayAll}
use Rattle.protocol_laws.proofs.Maps.{put_here}
use Rattle.protocol_laws.proofs.Stays.{versions_step}
use Rattle.role_laws.proofs.SealMoves.{unsealed_not, still_returns, stopped_so, goes_so, sealed_over}
use Rattle.role_laws.specs.Kept.{Kept, Names, IsNamed, KeptHolds, RootHolds, IsSealed, MayReturn, top_of, named_by}
use Rattle.role_laws.specs.Ends.{Goes, Done, LeavesOld, LeavesNew, with_top, with_seal, seal_after, save_end, install_then_end, end_sealed, end_unsealed, end_unbuilt}
use Rattle.role_laws.specs.SealLaws.{Refines, EndsRefine}

module _ (names : Names) (s : State) (q : ℕ) where
  -- the save of the fact: without effect the peer stops after the first steps, else the others come too
  saved_so : (fact : Goes) (seal : Option (List ℕ)) (digest : List ℕ) (first later : List Step) (c : Kept) → MayAll s first → KeptHolds names (after s first).objects q c → (after s first).objects.reverted ≡ s.objects.reverted
      → MayAll s (first ++ later) → KeptHolds names (after s (first ++ later)).objects q (with_seal seal c) → (after s (first ++ later)).objects.reverted ≡ s.objects.reverted
      → Some digest ≡ top_of c.tops → Some digest ≡ named_by (top_of c.tops) seal → Refines names s q (save_end fact q seal digest first later c)
  saved_so LeavesOld seal digest first later c may holds same both ends still on_top last = stopped_so names s q c first may holds same
  saved_so LeavesNew seal digest first later c may holds same both ends still on_top last = stopped_so names s q (with_seal seal c) (first ++ later) both ends still
  saved_so Done seal digest first later c may holds same both ends still on_top last = goes_so names s q (with_seal seal c) digest (first ++ later) both ends on_top last still

  module _ (c : Kept) (h : KeptHolds names s.objects q c) (d : ℕ) (merged : Map) (digest : List ℕ) (may : MayInstall s.objects q d merged) (named : IsNamed names digest merged) where
    abbrev t : State
    t = happens s (Install q d merged)

    abbrev u : State
    u = happens t (EndSync q d)

    shown : (k : List ℕ) → t.objects.visible q k ≡ merged k
    shown k = ap (λ (m : Map). m k) (put_here s.objects.visible q merged)

    honest : IsHonest t.objects q
    honest k = shown k ∙ sym (ap (λ (m : Map). m k) (put_here s.objects.map q merged))

    may_end : MayEndSync t.objects q d
    may_end = record {
      honest = honest;
      synced = subst (λ (x : Map). IsSynced t.objects d x) (sym (put_here s.objects.map q merged)) (record {
        sources = may.synced.sources;
        majority = may.synced.majority;
        reached = may.synced.reached;
        given = λ p k at. le_trans ((versions_step s.objects (Install q d merged) may).floors p d k (may.synced.reached p at)) (may.synced.given p k at);
      });
    }

    may_both_steps : MayAll s (install_then_end q d merged)
    may_both_steps = ((may, tt), (((record { elected = may.elected; stands = may.stands; newer = may.newer }, may_end), tt), tt))

    genuine : (k : List ℕ) → IsGenuine s.objects (s.objects.ledger.ballot q) k (merged k)
    genuine k = subst (λ e. IsGenuine s.objects e k (merged k)) (sym may.stands) (may.genuine k)

    abbrev new_returns : MayReturn names s.objects q digest
    new_returns = record { map = merged; named = named; genuine = genuine }

    old_or_new : c.seal ≡ None → (top : List ℕ) → (top ≡ digest) ⊎ (top ∈ c.tops) → MayReturn names s.objects q top
    old_or_new none top (inl same) = subst (λ (x : List ℕ). MayReturn names s.objects q x) (sym same) new_returns
    old_or_new none top (inr at) = h.returns none top at

    -- the map was installed, and the top record names it
    installed : c.seal ≡ None → KeptHolds names t.objects q (with_top digest c)
    installed none = record {
      digest = digest;
      is = ap (λ (x : Option (List ℕ)). named_by (top_of (digest ∷ c.tops)) x) none;
      map = merged;
      named = named;
      shown = shown;
      honest = λ is. absurd (unsealed_not c.seal none is);
      returns = λ n top at. still_returns names s.objects t.objects q top refl refl refl (old_or_new none top at);
    }

    -- and the sync has ended: a seal names the map
    sealed_end : (tops : List (List ℕ)) → KeptHolds names u.objects q (record { tops = tops; seal = Some digest })
    sealed_end tops = record { digest = digest; is = refl; map = merged; named = named; shown = shown; honest = λ is. honest; returns = λ none. absurd (none-some digest (sym none)) }

    -- or the top record does
    top_end : (tops : List (List ℕ)) → Some digest ≡ top_of tops → ((top : List ℕ) → top ∈ tops → MayReturn names s.objects q top) → KeptHolds names u.objects q (record { tops = tops; seal = None })
    top_end tops on_top returns = record {
      digest = digest;
      is = sym on_top;
      map = merged;
      named = named;
      shown = shown;
      honest = λ is. absurd is;
      returns = λ n top at. still_returns names s.objects u.objects q top refl refl refl (returns top at);
    }

    sealed : (tree fact : Goes) → IsSealed c.seal → Refines names s q (end_sealed tree fact q d merged digest c)
    sealed LeavesOld fact is = stopped_so names s q c [] tt h refl
    sealed LeavesNew fact is = stopped_so names s q (with_top digest c) [] tt (sealed_over names s.objects q c (digest ∷ c.tops) is h) refl
    sealed Done fact is = saved_so fact (Some digest) digest [] (install_then_end q d merged) (with_top digest c) tt (sealed_over names s.objects q c (digest ∷ c.tops) is h) refl may_both_steps (sealed_end (digest ∷ c.tops)) refl refl refl

    unsealed : (sealing : Bool) (tree fact : Goes) → c.seal ≡ None → Refines names s q (end_unsealed sealing tree fact q d merged digest c)
    unsealed sealing LeavesOld fact none = stopped_so names s q c [] tt h refl
    unsealed sealing LeavesNew fact none = stopped_so names s q (with_top digest c) (Install q d merged ∷ []) ((may, tt), tt) (installed none) refl
    unsealed true Done fact none = saved_so fact (Some digest) digest (Install q d merged ∷ []) (EndSync q d ∷ []) (with_top digest c) ((may, tt), tt) (installed none) refl may_both_steps (sealed_end (digest ∷ c.tops)) refl refl refl
    unsealed false Done fact none = saved_so fact None digest (Install q d merged ∷ []) (EndSync q d ∷ []) (with_top digest c) ((may, tt), tt) (installed none) refl may_both_steps (top_end (digest ∷ c.tops) refl (old_or_new none)) refl refl refl

    -- the tree has the map already
    module _ (fact : Goes) (on_top : Some digest ≡ top_of c.tops) where
      by_seal : (sealing : Bool) (seal : Option (List ℕ)) → c.seal ≡ seal → Refines names s q (save_end fact q (seal_after sealing seal digest) digest [] (install_then_end q d merged) c)
      by_seal sealing (Some x) is = saved_so fact (Some digest) digest [] (install_then_end q d merged) c tt h refl may_both_steps (sealed_end c.tops) refl on_top refl
      by_seal true None is = saved_so fact (Some digest) digest [] (install_then_end q d merged) c tt h refl may_both_steps (sealed_end c.tops) refl on_top refl
      by_seal false None is = saved_so fact None digest [] (install_then_end q d merged) c tt h refl may_both_steps (top_end c.tops on_top (h.returns is)) refl on_top on_top

    unbuilt : (sealing : Bool) (fact : Goes) → RootHolds s.objects q (top_of c.tops) c.seal (Some digest) → Refines names s q (end_unbuilt sealing fact q d merged digest c)
    unbuilt sealing fact (inl is) = by_seal fact is.0 sealing c.seal refl
    unbuilt sealing fact (inr is) = absurd (none-some digest (sym is.0))

pub ends : (names : Names) (view : List ℕ) (steps : List Step) (q : ℕ) → IsRun view steps → EndsRefine names (state_after view steps) q
ends names view steps q run = record {
  sealed = λ c h tree fact d merged digest is may named. sealed names (state_after view steps) q c h d merged digest may named tree fact is;
  unsealed = λ c h sealing tree fact d merged digest none may named. unsealed names (state_after view steps) q c h d merged digest may named sealing tree fact none;
  unbuilt = λ c h sealing fact d merged digest root may named. unbuilt names (state_after view steps) q c h d merged digest may named sealing fact root;
}
