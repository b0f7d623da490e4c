use Rattle.std.proofs.Common.{◌≡◌, ◌≢◌, List, ℕ, length, Option, Some, refl, ap, ◌∙◌, subst, ◌++◌, cond, arith}
use Rattle.std.specs.HashMap.{get}
use Rattle.ens_base.specs.Lists.{same_bytes}
use Rattle.environment.specs.Maps.{Entries, value_at}
use Rattle.disk_stores.specs.Records.{record_bytes}
use Rattle.disk_stores.specs.Recents.{Remembers}
use Rattle.disk_stores.specs.LogFiles.{Begins}
use Rattle.disk_stores.specs.declared.place.Place.{Place}
use Rattle.disk_stores.proofs.Appending.{put_holds, keeps_holds}
use Rattle.disk_stores.proofs.Indexing.{restored}
use Rattle.disk_stores.proofs.log.Log.put.Goals as goal

pub returns-in-Err-clause-err : goal.returns-in-Err-clause-err
returns-in-Err-clause-err g c es holds =
    let name = c.args.name in
    let old = c.args.self.now.places in
    let middle = c.insert.new.self in
    keeps_holds g.D.Disk.seen c.args.self.now _ es holds c.in-Err.ensures.err
    (restored name c.in_ok-place.place old middle c.restore.new.places c.in_ok-before.ensures.updates.0
    (λ q. c.restore.ensures q
    ∙ ap (λ (n : List ℕ). cond (same_bytes n q) c.in_ok-before.before (get same_bytes middle q)) c.in_ok-again.ensures
    ∙ ap (λ (o : Option Place). cond (same_bytes name q) o (get same_bytes middle q)) c.in_ok-before.ensures.old))
    refl

pub returns-in-Ok-clause-holds : goal.returns-in-Ok-clause-holds
returns-in-Ok-clause-holds g c es holds =
    let name = c.args.name in
    let content = c.args.content.now in
    let spelled : c.deref.result.now ≡ record_bytes name content = c.deref.ensures.value ∙ c.in_ok-spell.ensures ∙ ap (λ (l : List ℕ). record_bytes l content) c.as_slice-2.ensures in
    let size : length c.as_slice.result.now ≡ length name = ap length c.as_slice.ensures in
    let placed = c.in_ok-place.ensures.place in
    put_holds g.D.Disk.seen c.args.self.now _ es name content c.in_ok-place.place holds c.requires (omega (arith, c.in_ok-place.ensures.within, placed.1))
    (λ prefix on. subst (λ (l : List ℕ). Begins g.D.Disk.seen c.append.new.self (prefix ++ l)) spelled (c.in-Ok.ensures.ok prefix on))
    (omega (arith, placed.0, size)) placed.1 c.in_ok-before.ensures.updates.0
    (subst (λ (l : List ℕ). (before after : Entries) → Remembers c.args.self.now.recent.slots.items before → value_at l after ≡ Some content → ((q : List ℕ) → q ≢ l → value_at q after ≡ value_at q before) → Remembers c.keep.new.self.slots.items after)
    c.in_ok-again.ensures c.keep.ensures)
