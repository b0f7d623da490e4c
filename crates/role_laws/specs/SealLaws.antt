-- The laws of peers with a seal, in each state of a run.
use Rattle.std.specs.Prelude.{◌≡◌, ℕ, ◌<◌, Bool, true, false, List, ◌∷◌, length, None, Some}
use Rattle.ens_base.specs.Lists.{◌∈◌}
use Rattle.ens_base.specs.Views.{last_view}
use Rattle.protocol_laws.specs.Objects.{Map, Objects, set_entry, IsSynced, MayWrite, MayInstall}
use Rattle.protocol_laws.specs.Protocol.{State, Lose, Revert, happens, after, MayAll, MayCome}
use Rattle.protocol_laws.specs.Versions.{IsSource}
use Rattle.role_laws.specs.Kept.{Kept, Names, NamesOne, IsNamed, KeptHolds, RootHolds, IsSealed, top_of, opened}
use Rattle.role_laws.specs.Ends.{Goes, Ended, put_sealed, put_unsealed, end_sealed, end_unsealed, end_unbuilt}

-- where the peer runs on, its root holds
abbrev pub RunsOn : Objects → ℕ → Ended → Type 0
RunsOn o q e = e.runs ≡ true → RootHolds o q (top_of e.kept.tops) e.kept.seal e.root

-- the steps may come, after them the stores hold, and no tree was reverted by them
pub record Refines (names : Names) (s : State) (q : ℕ) (e : Ended) : Type 0 where
  pub may : MayAll s e.steps
  pub holds : KeptHolds names (after s e.steps).objects q e.kept
  pub root : RunsOn (after s e.steps).objects q e
  pub reverted : (after s e.steps).objects.reverted ≡ s.objects.reverted

-- the map that peer q wrote last, with the version
abbrev pub written : Objects → ℕ → ℕ → Map → Map
written o q v m = set_entry m (o.key v) v

-- a put, whichever write is refused
pub record PutsRefine (names : Names) (s : State) (q : ℕ) : Type 0 where
  pub sealed : (c : Kept) (holds : KeptHolds names s.objects q c) (tree fact : Goes) (v : ℕ) (digest : List ℕ) → IsSealed c.seal → MayWrite s.objects q v → IsNamed names digest (written s.objects q v holds.map) → Refines names s q (put_sealed tree fact q v digest c)
  pub unsealed : (c : Kept) (holds : KeptHolds names s.objects q c) (tree : Goes) (v : ℕ) (digest : List ℕ) → c.seal ≡ None → MayWrite s.objects q v → IsNamed names digest (written s.objects q v holds.map) → Refines names s q (put_unsealed tree q v digest c)

-- the end of a sync, whichever write is refused
pub record EndsRefine (names : Names) (s : State) (q : ℕ) : Type 0 where
  pub sealed : (c : Kept) → KeptHolds names s.objects q c → (tree fact : Goes) (d : ℕ) (merged : Map) (digest : List ℕ) → IsSealed c.seal → MayInstall s.objects q d merged → IsNamed names digest merged → Refines names s q (end_sealed tree fact q d merged digest c)
  pub unsealed : (c : Kept) → KeptHolds names s.objects q c → (sealing : Bool) (tree fact : Goes) (d : ℕ) (merged : Map) (digest : List ℕ) → c.seal ≡ None → MayInstall s.objects q d merged → IsNamed names digest merged → Refines names s q (end_unsealed sealing tree fact q d merged digest c)
  pub unbuilt : (c : Kept) → KeptHolds names s.objects q c → (sealing : Bool) (fact : Goes) (d : ℕ) (merged : Map) (digest : List ℕ) → RootHolds s.objects q (top_of c.tops) c.seal (Some digest) → MayInstall s.objects q d merged → IsNamed names digest merged → Refines names s q (end_unbuilt sealing fact q d merged digest c)

-- a peer stops; its top records are put back while it is down; it starts again
pub record StopsRefine (names : Names) (s : State) (q : ℕ) : Type 0 where
  pub stops : (c : Kept) → KeptHolds names s.objects q c → KeptHolds names (happens s (Lose q)).objects q c
  -- with a seal this is no step at all, whatever the top records are now
  pub sealed : (c : Kept) (tops : List (List ℕ)) → IsSealed c.seal → KeptHolds names s.objects q c → KeptHolds names s.objects q (record c { tops = tops })
  -- without one it is a revert
  pub unsealed : (c : Kept) (top : List ℕ) (tops : List (List ℕ)) → c.seal ≡ None → s.objects.trusted q ≡ false → ((x : List ℕ) → x ∈ (top ∷ tops) → x ∈ c.tops) → KeptHolds names s.objects q c → (m : Map) × MayCome s (Revert q m) × KeptHolds names (happens s (Revert q m)).objects q (record c { tops = top ∷ tops })
  pub starts : (c : Kept) → KeptHolds names s.objects q c → s.objects.trusted q ≡ false → RootHolds s.objects q (top_of c.tops) c.seal (opened (top_of c.tops) c.seal)
  -- a tree with a root shows what the protocol shows, and with a seal what the peer wrote last
  pub shows : NamesOne names → (c : Kept) (root : List ℕ) (m : Map) → KeptHolds names s.objects q c → RootHolds s.objects q (top_of c.tops) c.seal (Some root) → IsNamed names root m → (k : List ℕ) → s.objects.visible q k ≡ m k
  pub shows_last : NamesOne names → (c : Kept) (root : List ℕ) (m : Map) → IsSealed c.seal → KeptHolds names s.objects q c → RootHolds s.objects q (top_of c.tops) c.seal (Some root) → IsNamed names root m → (k : List ℕ) → s.objects.map q k ≡ m k

-- no tree was ever reverted
abbrev pub AllAreKept : State → Type 0
AllAreKept s = (q : ℕ) → s.objects.reverted q ≡ false

-- if no tree was ever reverted, then each source of a full view is one: a sync may end once all of the
-- old view have finished
abbrev pub FullViewsSuffice : State → Type 0
FullViewsSuffice s = AllAreKept s → (d : ℕ) (merged : Map) → 0 < length (last_view (s.objects.ledger.views d)) → ((q : ℕ) → q ∈ last_view (s.objects.ledger.views d) → IsSource s.objects d merged q) → IsSynced s.objects d merged
