-- A peer whose stores were opened, or not.
use Rattle.std.specs.Prelude.{Option, None, Some, IfOk}
use Rattle.std.proofs.Common.{◌≡◌, ◌⊎◌, ◌∙◌, ap, sym, subst, refl, ℕ, List, Result, Ok, Err, inl, inr}
use Rattle.ens_base.specs.Causes.{Rose}
use Rattle.ens_base.specs.declared.status.Status.{Status}
use Rattle.ens_base.specs.declared.status.Status.TheVariants as statuses
use Rattle.fact_store.specs.Held.{held_kept}
use Rattle.fact_store.specs.Files.{file_kept, file_serial}
use Rattle.fact_store.specs.Keeping.{file_fact}
use Rattle.fact_store.specs.declared.file.FactFile.{FactFile}
use Rattle.slot_disk.specs.Crash.{LeavesOnly, SeenIn, Stay, Told}
use Rattle.slot_disk.specs.SlotFiles.{IsAtRest}
use Rattle.slot_disk.specs.Slots.{current, last_serial}
use Rattle.peer_server.specs.DiskPeers.{OnDisks, all_there}
use Rattle.peer_server.specs.Faults.{DiskRose, IsCause}
use Rattle.peer_server.specs.Starting.{LogsOpened, LogsRefused, Opened, Unopened}
use Rattle.peer_server.specs.declared.disks.Storage.{Storage}
use Rattle.peer_server.specs.declared.disks.Three.{Three}

module _ {D : Type 0} (seen : D → Option (List ℕ)) (may_leave : D → List ℕ → Type 0) (moment : D → ℕ) (left_since : D → ℕ → List ℕ → Type 0) (faults : D → ℕ)
    (may_stay : (disk : D) (bytes : List ℕ) → seen disk ≡ Some bytes → may_leave disk bytes) where
  -- a disk that still tells its bytes may leave them
  reads : (d e : D) → Stay (seen d) (seen e) → Told (seen d) (λ file. SeenIn seen e (may_leave d))
  reads d e stay = by (seen d) refl stay
    where
      by : (o : Option (List ℕ)) → seen d ≡ o → Told o (λ bytes. seen e ≡ Some bytes) → Told o (λ file. SeenIn seen e (may_leave d))
      by None is told = tt
      by (Some bytes) is told = (bytes, told, may_stay d bytes is)

  logs_cause : (status : Status) (old new : Three D) → IsCause (Rose (faults old.nodes) (faults new.nodes) ⊎ Rose (faults old.objects) (faults new.objects)) ⊥ status → IsCause (DiskRose faults (all_there old) (all_there new)) ⊥ status
  logs_cause statuses.StoreFault old new (inl rose) = inr (inl rose)
  logs_cause statuses.StoreFault old new (inr rose) = inr (inr rose)
  logs_cause statuses.Memory old new cause = tt
  logs_cause status old new cause = absurd cause

  pub logs_unopened : (status : Status) (old new : Three D) (opened : D) → ((c : List ℕ) → may_leave opened c → may_leave old.facts c) → LeavesOnly moment left_since old.facts opened (may_leave old.facts) → Stay (seen old.facts) (seen opened) → new.facts ≡ opened
      → LogsRefused seen faults status old.nodes old.objects new.nodes new.objects → Unopened seen may_leave moment left_since faults status (all_there old) (all_there new)
  logs_unopened status old new opened crash moments stay same refused = record {
    facts = subst (λ (e : D). (c : List ℕ) → may_leave e c → may_leave old.facts c) (sym same) crash;
    moments = subst (λ (e : D). LeavesOnly moment left_since old.facts e (may_leave old.facts)) (sym same) moments;
    read = subst (λ (e : D). Told (seen old.facts) (λ file. SeenIn seen e (may_leave old.facts))) (sym same) (reads old.facts opened stay);
    nodes = refused.nodes_held;
    objects = refused.objects_held;
    cause = logs_cause status old new refused.cause;
  }

pub if_ok_all : {T E : Type 0} (r : Result T E) {P Q R S : T → Type 0} → IfOk r P → IfOk r Q → IfOk r R → ((x : T) → P x → Q x → R x → S x) → IfOk r S
if_ok_all (Ok x) first second third less = less x first second third
if_ok_all (Err e) first second third less = tt

module _ {D : Type 0} (seen : D → Option (List ℕ)) (may_leave : D → List ℕ → Type 0) (moment : D → ℕ) (left_since : D → ℕ → List ℕ → Type 0) (faults : D → ℕ) where
  -- the file was opened at rest, on a disk that still tells the same bytes
  serial_told : (d : D) (file : FactFile D) → Told (seen d) (λ bytes. IsAtRest seen may_leave file.slots × (file_kept file ≡ file_fact bytes)) → Stay (seen d) (seen file.slots.disk) → Told (seen d) (λ bytes. file_serial file ≡ last_serial (current bytes))
  serial_told d file held stay = by (seen d) held stay
    where
      same_bytes : (bytes others : List ℕ) → seen file.slots.disk ≡ Some others → seen file.slots.disk ≡ Some bytes → others ≡ bytes
      same_bytes bytes others told again = cc

      by : (o : Option (List ℕ)) → Told o (λ bytes. IsAtRest seen may_leave file.slots × (file_kept file ≡ file_fact bytes)) → Told o (λ bytes. seen file.slots.disk ≡ Some bytes) → Told o (λ bytes. file_serial file ≡ last_serial (current bytes))
      by None held stay = tt
      by (Some bytes) held stay = ap last_serial held.0.now ∙ ap (λ (file : List ℕ). last_serial (current file)) (same_bytes bytes held.0.bytes held.0.on.told stay)

  pub logs_opened : (old : Three D) (file : FactFile D) (s : Storage D) → Told (seen old.facts) (λ bytes. IsAtRest seen may_leave file.slots × (file_kept file ≡ file_fact bytes)) → faults file.slots.disk ≡ faults old.facts → file.spent ≡ 0
      → LeavesOnly moment left_since old.facts file.slots.disk (may_leave old.facts) → Stay (seen old.facts) (seen file.slots.disk) → s.facts ≡ file → held_kept s.stores.facts ≡ file_kept file → LogsOpened seen faults old.nodes old.objects (s.stores, record {})
      → Opened seen may_leave moment left_since faults (all_there old) (s.stores, record {}) s.facts
  logs_opened old file s rests good unspent moments stay same held opened =
      subst (λ (f : FactFile D). Opened seen may_leave moment left_since faults (all_there old) (s.stores, record {}) f) (sym same) (record {
        facts = (rests, good);
        serial = serial_told old.facts file rests stay;
        moments = moments;
        held = held;
        nodes = (opened.nodes_held, opened.nodes_good);
        objects = (opened.objects_held, opened.objects_good);
        unspent = unspent;
        clean = opened.clean;
        unread = opened.unread;
      })
