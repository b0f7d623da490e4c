-- The end of a sync.
use Rattle.std.proofs.Common.{◌≡◌, ℕ, Bool, true, false, ◌||◌, Option, ap, sym, ◌∙◌, subst, le_trans}
use Rattle.protocol_laws.proofs.Stays.{versions_step}
use Rattle.protocol_laws.proofs.Maps.{put_here}
use Rattle.protocol_laws.specs.Versions.{VersionsAreSafe}
use Rattle.protocol_laws.specs.Objects.{Map, IsHonest, IsSynced, MayInstall, MayEndSync, install}
use Rattle.protocol_laws.specs.Protocol.{State, Install}
use Rattle.role_laws.proofs.Coverage.{synced}
use Rattle.role_laws.specs.Facts.{Fact, Lines}
use Rattle.role_laws.specs.Trees.{Tree}
use Rattle.role_laws.specs.Syncs.{Sync}
use Rattle.role_laws.specs.Peers.{Phase, PeerHolds, peer_of}

module _ (g : Lines) (s : State) (versions : VersionsAreSafe s.objects) (p : ℕ) (f : Fact) (t : Tree) (trusted : Bool) (phase : Phase) where
  honest : (sync : Option Sync) → t.intact ≡ true → PeerHolds g s.objects p (peer_of f t trusted phase sync) → (trusted || g.firm p) ≡ true → IsHonest s.objects p
  honest sync verifies a h = by_trust trusted a.trusted h
    where
      by_trust : (b : Bool) → s.objects.trusted p ≡ b → (b || g.firm p) ≡ true → IsHonest s.objects p
      by_trust true e h = versions.sight.trusted p e
      by_trust false e h = a.firm h verifies

  -- ## The end of a sync

  pub may_end : (d : ℕ) (m : Map) → MayInstall s.objects p d m → MayEndSync (install s.objects p d m) p d
  may_end d m may = record {
    honest = λ k. ap (λ (x : Map). x k) (put_here s.objects.visible p m) ∙ sym (ap (λ (x : Map). x k) (put_here s.objects.map p m));
    synced = subst (λ (x : Map). IsSynced (install s.objects p d m) d x) (sym (put_here s.objects.map p m)) (record {
      sources = may.synced.sources;
      majority = may.synced.majority;
      reached = may.synced.reached;
      given = λ q k h. le_trans ((versions_step s.objects (Install p d m) may).floors q d k (may.synced.reached q h)) (may.synced.given q k h);
    });
  }
