-- What the steps of a peer do to what its stores keep, and the puts.
use Rattle.std.proofs.Common.{◌≡◌, ◌⊎◌, inl, inr, ℕ, List, [], ◌∷◌, Option, None, Some, refl, sym, ap, subst, ◌∙◌}
use Rattle.std.proofs.lemmas.Bool.{false≢true}
use Rattle.std.proofs.lemmas.Option.{none-some}
use Rattle.ens_base.specs.Lists.{◌∈◌}
use Rattle.protocol_laws.proofs.Steps.{after_both, may_both}
use Rattle.protocol_laws.specs.Objects.{Map, Objects, IsGenuine, IsHonest, set_entry, MayWrite}
use Rattle.protocol_laws.specs.Protocol.{State, Step, Write, Lose, happens, IsRun, state_after, after, MayAll}
use Rattle.protocol_laws.proofs.Maps.{put_here, set_same}
use Rattle.protocol_laws.proofs.Trees.{run_versions}
use Rattle.role_laws.specs.Kept.{Kept, Names, IsNamed, KeptHolds, IsSealed, MayReturn, top_of, named_by}
use Rattle.role_laws.specs.Ends.{Goes, Done, LeavesOld, LeavesNew, stops, goes_on, with_top, with_seal, put_sealed, put_unsealed}
use Rattle.role_laws.specs.SealLaws.{Refines, PutsRefine, written}

-- without a seal
pub unsealed_not : (seal : Option (List ℕ)) → seal ≡ None → IsSealed seal → ⊥
unsealed_not None none is = is
unsealed_not (Some x) none is = none-some x (sym none)

-- a map that may return still may, where versions and the ballot are the same
pub still_returns : (names : Names) (o t : Objects) (q : ℕ) (top : List ℕ) → t.proposed ≡ o.proposed → t.key ≡ o.key → t.ledger.ballot q ≡ o.ledger.ballot q → MayReturn names o q top → MayReturn names t q top
still_returns names o t q top proposed key ballot may = record { map = may.map; named = may.named; genuine = λ k. each k (may.map k) (may.genuine k) }
  where
    each : (k : List ℕ) (v : ℕ) → IsGenuine o (o.ledger.ballot q) k v → IsGenuine t (t.ledger.ballot q) k v
    each k v (inl none) = inl none
    each k v (inr is) = rw (proposed, key, ballot) (inr is)

-- a peer that loses its sight keeps what its stores keep
pub lost : (names : Names) (s : State) (q : ℕ) (c : Kept) → KeptHolds names s.objects q c → KeptHolds names (happens s (Lose q)).objects q c
lost names s q c h = record { digest = h.digest; is = h.is; map = h.map; named = h.named; shown = h.shown; honest = h.honest; returns = λ none top at. still_returns names s.objects (happens s (Lose q)).objects q top refl refl refl (h.returns none top at) }

-- the peer stops after these steps
pub stopped_so : (names : Names) (s : State) (q : ℕ) (c : Kept) (steps : List Step) → MayAll s steps → KeptHolds names (after s steps).objects q c → (after s steps).objects.reverted ≡ s.objects.reverted → Refines names s q (stops q c steps)
stopped_so names s q c steps may holds same = record {
  may = may_both s steps (Lose q ∷ []) may ((tt, tt), tt);
  holds = subst (λ (t : State). KeptHolds names t.objects q c) (sym (after_both s steps (Lose q ∷ []))) (lost names (after s steps) q c holds);
  root = λ runs. absurd (false≢true runs);
  reverted = ap (λ (t : State). t.objects.reverted) (after_both s steps (Lose q ∷ [])) ∙ same;
}

-- or it runs on
pub goes_so : (names : Names) (s : State) (q : ℕ) (c : Kept) (root : List ℕ) (steps : List Step) → MayAll s steps → KeptHolds names (after s steps).objects q c → Some root ≡ top_of c.tops → Some root ≡ named_by (top_of c.tops) c.seal → (after s steps).objects.reverted ≡ s.objects.reverted → Refines names s q (goes_on c (Some root) steps)
goes_so names s q c root steps may holds on_top names_last same = record { may = may; holds = holds; root = λ runs. inl (on_top, names_last); reverted = same }

-- other top records, under the same seal
pub sealed_over : (names : Names) (o : Objects) (q : ℕ) (c : Kept) (tops : List (List ℕ)) → IsSealed c.seal → KeptHolds names o q c → KeptHolds names o q (record { tops = tops; seal = c.seal })
sealed_over names o q c tops sealed h = record {
  digest = h.digest;
  is = by_seal c.seal sealed h.is;
  map = h.map;
  named = h.named;
  shown = h.shown;
  honest = h.honest;
  returns = λ none. absurd (unsealed_not c.seal none sealed);
}
  where
    by_seal : (seal : Option (List ℕ)) → IsSealed seal → named_by (top_of c.tops) seal ≡ Some h.digest → named_by (top_of tops) seal ≡ Some h.digest
    by_seal None is e = absurd is
    by_seal (Some x) is e = e

module _ (names : Names) (view : List ℕ) (steps : List Step) (q : ℕ) (run : IsRun view steps) where
  abbrev s : State
  s = state_after view steps

  module _ (c : Kept) (h : KeptHolds names s.objects q c) (v : ℕ) (digest : List ℕ) (may : MayWrite s.objects q v) (named : IsNamed names digest (written s.objects q v h.map)) where
    abbrev t : State
    t = happens s (Write q v)

    shown : (k : List ℕ) → t.objects.visible q k ≡ written s.objects q v h.map k
    shown k = ap (λ (m : Map). m k) (put_here s.objects.visible q (set_entry (s.objects.visible q) (s.objects.key v) v)) ∙ set_same (s.objects.visible q) h.map (s.objects.key v) v k (h.shown k)

    honest : IsHonest t.objects q
    honest k =
        ap (λ (m : Map). m k) (put_here s.objects.visible q (set_entry (s.objects.visible q) (s.objects.key v) v))
        ∙ set_same (s.objects.visible q) (s.objects.map q) (s.objects.key v) v k (may.honest k)
        ∙ sym (ap (λ (m : Map). m k) (put_here s.objects.map q (set_entry (s.objects.map q) (s.objects.key v) v)))

    -- the seal names the map with the version
    sealed_write : (tops : List (List ℕ)) → KeptHolds names t.objects q (record { tops = tops; seal = Some digest })
    sealed_write tops = record { digest = digest; is = refl; map = written s.objects q v h.map; named = named; shown = shown; honest = λ is. honest; returns = λ none. absurd (none-some digest (sym none)) }

    genuine : (k : List ℕ) → IsGenuine t.objects (t.objects.ledger.ballot q) k (written s.objects q v h.map k)
    genuine k = subst (λ x. IsGenuine t.objects (t.objects.ledger.ballot q) k x) (shown k) ((run_versions view (Write q v ∷ steps) (run, (may, tt))).genuine.shown q k)

    -- the top record does
    top_write : c.seal ≡ None → KeptHolds names t.objects q (with_top digest c)
    top_write none = record {
      digest = digest;
      is = ap (λ (x : Option (List ℕ)). named_by (top_of (digest ∷ c.tops)) x) none;
      map = written s.objects q v h.map;
      named = named;
      shown = shown;
      honest = λ is. absurd (unsealed_not c.seal none is);
      returns = λ n top at. by_place top at;
    }
      where
        by_place : (top : List ℕ) → (top ≡ digest) ⊎ (top ∈ c.tops) → MayReturn names t.objects q top
        by_place top (inl same) = record { map = written s.objects q v h.map; named = subst (λ (x : List ℕ). IsNamed names x (written s.objects q v h.map)) (sym same) named; genuine = genuine }
        by_place top (inr at) = still_returns names s.objects t.objects q top refl refl refl (h.returns none top at)

    sealed : (tree fact : Goes) → IsSealed c.seal → Refines names s q (put_sealed tree fact q v digest c)
    sealed LeavesOld fact is = stopped_so names s q c [] tt h refl
    sealed LeavesNew fact is = stopped_so names s q (with_top digest c) [] tt (sealed_over names s.objects q c (digest ∷ c.tops) is h) refl
    sealed Done LeavesOld is = stopped_so names s q (with_top digest c) [] tt (sealed_over names s.objects q c (digest ∷ c.tops) is h) refl
    sealed Done LeavesNew is = stopped_so names s q (with_seal (Some digest) (with_top digest c)) (Write q v ∷ []) ((may, tt), tt) (sealed_write (digest ∷ c.tops)) refl
    sealed Done Done is = goes_so names s q (with_seal (Some digest) (with_top digest c)) digest (Write q v ∷ []) ((may, tt), tt) (sealed_write (digest ∷ c.tops)) refl refl refl

    unsealed : (tree : Goes) → c.seal ≡ None → Refines names s q (put_unsealed tree q v digest c)
    unsealed LeavesOld none = stopped_so names s q c [] tt h refl
    unsealed LeavesNew none = stopped_so names s q (with_top digest c) (Write q v ∷ []) ((may, tt), tt) (top_write none) refl
    unsealed Done none = goes_so names s q (with_top digest c) digest (Write q v ∷ []) ((may, tt), tt) (top_write none) refl (sym (ap (λ (x : Option (List ℕ)). named_by (top_of (digest ∷ c.tops)) x) none)) refl

  pub puts : PutsRefine names s q
  puts = record {
    sealed = λ c h tree fact v digest is may named. sealed c h v digest may named tree fact is;
    unsealed = λ c h tree v digest none may named. unsealed c h v digest may named tree none;
  }
