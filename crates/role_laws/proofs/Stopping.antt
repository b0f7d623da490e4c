-- Stops, top records that are put back, and starts.
use Rattle.std.proofs.Common.{◌≡◌, inl, inr, ℕ, Bool, true, false, if◌then◌else◌, List, ◌∷◌, Option, None, Some, refl, sym, ap, subst, ◌∙◌}
use Rattle.std.proofs.lemmas.Option.{none-some, same_Some}
use Rattle.ens_base.proofs.Lists.{bytes_same}
use Rattle.ens_base.specs.Lists.{◌∈◌, same_bytes}
use Rattle.protocol_laws.specs.Objects.{Map}
use Rattle.protocol_laws.specs.Protocol.{State, Step, Revert, happens, IsRun, state_after, MayCome}
use Rattle.protocol_laws.proofs.Maps.{put_here}
use Rattle.role_laws.proofs.SealMoves.{unsealed_not, still_returns, lost, sealed_over}
use Rattle.role_laws.specs.Kept.{Kept, Names, NamesOne, IsNamed, KeptHolds, RootHolds, IsSealed, MayReturn, top_of, named_by, if_sealed, opened}
use Rattle.role_laws.specs.SealLaws.{StopsRefine}

module _ (names : Names) (s : State) (q : ℕ) where
  module _ (c : Kept) (top : List ℕ) (tops : List (List ℕ)) (none : c.seal ≡ None) (blind : s.objects.trusted q ≡ false) (each : (x : List ℕ) → x ∈ (top ∷ tops) → x ∈ c.tops) (h : KeptHolds names s.objects q c) where
    abbrev back : MayReturn names s.objects q top
    back = h.returns none top (each top (inl refl))

    abbrev t : State
    t = happens s (Revert q back.map)

    reverts : (m : Map) × MayCome s (Revert q m) × KeptHolds names (happens s (Revert q m)).objects q (record c { tops = top ∷ tops })
    reverts = (
      back.map,
      (record { blind = blind; genuine = back.genuine }, tt),
      record {
        digest = top;
        is = ap (λ (x : Option (List ℕ)). named_by (top_of (top ∷ tops)) x) none;
        map = back.map;
        named = back.named;
        shown = λ k. ap (λ (m : Map). m k) (put_here s.objects.visible q back.map);
        honest = λ is. absurd (unsealed_not c.seal none is);
        returns = λ n x at. still_returns names s.objects t.objects q x refl refl refl (h.returns none x (each x at));
      },
    )

  starts : (c : Kept) → s.objects.trusted q ≡ false → RootHolds s.objects q (top_of c.tops) c.seal (opened (top_of c.tops) c.seal)
  starts c blind = by_seal c.seal refl
    where
      by_seal : (seal : Option (List ℕ)) → c.seal ≡ seal → RootHolds s.objects q (top_of c.tops) c.seal (opened (top_of c.tops) seal)
      by_seal None is = inl (refl, sym (ap (λ (x : Option (List ℕ)). named_by (top_of c.tops) x) is))
      by_seal (Some seal) is = by_top (top_of c.tops) refl
        where
          sealed : IsSealed c.seal
          sealed = subst IsSealed (sym is) tt

          by_top : (top : Option (List ℕ)) → top_of c.tops ≡ top → RootHolds s.objects q (top_of c.tops) c.seal (if_sealed seal top)
          by_top None on_top = inr (refl, sealed, blind)
          by_top (Some top) on_top = by_same (same_bytes top seal) refl
            where
              by_same : (b : Bool) → same_bytes top seal ≡ b → RootHolds s.objects q (top_of c.tops) c.seal (if b then Some top else None)
              by_same true same = inl (sym on_top, ap (λ (x : List ℕ). Some x) (bytes_same top seal same) ∙ sym (ap (λ (x : Option (List ℕ)). named_by (top_of c.tops) x) is))
              by_same false same = inr (refl, sealed, blind)

  shows : NamesOne names → (c : Kept) (root : List ℕ) (m : Map) → KeptHolds names s.objects q c → RootHolds s.objects q (top_of c.tops) c.seal (Some root) → IsNamed names root m → (k : List ℕ) → s.objects.visible q k ≡ m k
  shows one c root m h (inl is) named k = h.shown k ∙ one root h.map m (subst (λ (x : List ℕ). IsNamed names x h.map) (same_Some h.digest root (sym h.is ∙ sym is.1)) h.named) named k
  shows one c root m h (inr is) named k = absurd (none-some root (sym is.0))

pub stops_so : (names : Names) (view : List ℕ) (steps : List Step) (q : ℕ) → IsRun view steps → StopsRefine names (state_after view steps) q
stops_so names view steps q run = record {
  stops = λ c h. lost names (state_after view steps) q c h;
  sealed = λ c tops is h. sealed_over names (state_after view steps).objects q c tops is h;
  unsealed = λ c top tops none blind each h. reverts names (state_after view steps) q c top tops none blind each h;
  starts = λ c h blind. starts names (state_after view steps) q c blind;
  shows = λ one c root m h is named k. shows names (state_after view steps) q one c root m h is named k;
  shows_last = λ one c root m sealed h is named k. sym (h.honest sealed k) ∙ shows names (state_after view steps) q one c root m h is named k;
}
