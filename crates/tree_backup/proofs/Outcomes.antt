-- A backup and a restore, from what their steps did.
use Rattle.std.proofs.Common.{◌≡◌, ◌<◌, ℕ, length, get_or, arith, List, [], ◌∷◌, Option, Result, Ok, Err, refl, ap, sym, subst, inl}
use Rattle.std.specs.Prelude.{Vec}
use Rattle.std.specs.declared.alloc.Global.{Global}
use Rattle.ens_base.specs.declared.entry.Entry.{Entry}
use Rattle.hash_book.specs.Hashing.{Book}
use Rattle.environment.specs.Stores.{BackendCall, BackendAnswer}
use Rattle.environment.specs.declared.errors.StoreError.{StoreError}
use Rattle.tree_node.specs.declared.body.Scan.{Scan}
use Rattle.tree_node.specs.declared.position.Position.{Position}
use Rattle.tree_backup.specs.Causes.{of_store}
use Rattle.tree_backup.specs.Runs.{IsWhole, BehindWhole, Behind, Sound}
use Rattle.tree_backup.specs.Stores.{FetchStops}
use Rattle.tree_backup.specs.declared.error.BackupError.{BackupError}
use Rattle.tree_backup.specs.declared.error.BackupError.TheVariants.{Order, Damaged}
use Rattle.tree_backup.proofs.Faults.{store_outside}

pub split_first : (ps qs : List Position) (d : Position) → qs ≡ ps → 0 < length qs → (others : List Position) × (ps ≡ get_or qs 0 d ∷ others)
split_first [] qs d same some = absurd (omega (arith, some, ap length same))
split_first (p ∷ ps) qs d same some = (ps, ap (λ (xs : List Position). get_or xs 0 d ∷ ps) (sym same))

module _ {B H : Type 0} (gets : B → (call : BackendCall) → BackendAnswer call → B → Type 0) (loses : B → BackendCall → StoreError → B → Type 0) (kept : H → Option Book) (clashes fulls : H → ℕ) where
  pub not_sound : (found : Scan) (b : B) (h : H) (e : BackupError) → Sound found (Err e) → Behind gets loses kept clashes fulls found b h (Err e) b h
  not_sound found b h (Damaged at) s = (s, refl, refl)
  not_sound found b h Order s = (s.0, s.1, refl, refl)
  not_sound found b h e s = absurd s

  pub behind_whole : (found : Scan) (es : List Entry) (b c : B) (h k : H) (r : Result (Vec ℕ Global) BackupError) → IsWhole found → es ≡ found.entries → BehindWhole gets loses kept clashes fulls es b h r c k → Behind gets loses kept clashes fulls found b h r c k
  behind_whole found es b c h k r whole same did = by r (subst (λ (xs : List Entry). BehindWhole gets loses kept clashes fulls xs b h r c k) same did)
    where
      by : (r : Result (Vec ℕ Global) BackupError) → BehindWhole gets loses kept clashes fulls found.entries b h r c k → Behind gets loses kept clashes fulls found b h r c k
      by (Ok bytes) d = (whole, d)
      by (Err (Damaged at)) d = absurd d.0
      by (Err Order) d = absurd d.0
      by (Err e) d = (whole, d)

  pub not_fetched : (es : List Entry) (b c : B) (h : H) (e : StoreError) → FetchStops gets loses es b e c → BehindWhole gets loses kept clashes fulls es b h (Err (of_store e)) c h
  not_fetched es b c h e stops = (store_outside e, inl (e, refl, stops, refl))
