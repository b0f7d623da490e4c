use Rattle.std.proofs.Common.{◌≡◌, ◌+◌, ℕ, List, [], ◌∷◌, length, subst}
use Rattle.slot_disk.specs.Crash.{written, Torn, IsOn}
use Rattle.slot_disk.specs.Slots.{start, current, record_of, IsOldOrNew}
use Rattle.slot_disk.specs.Saving.{with_gate_closed, IsFree}
use Rattle.slot_disk.specs.Outcomes.{torn_whole}
use Rattle.std.proofs.lemmas.Result.{on_ok_weaker}
use Rattle.slot_disk.proofs.Ranges.{in_gate, in_body, in_last, gate_torn, slot_in_one}
use Rattle.slot_disk.proofs.Runs.{weaker, then_on}
use Rattle.slot_disk.proofs.Saves.{replace_done, old_stays, body_safe, gate_safe, gate_done}
use Rattle.slot_disk.proofs.writing.replace.Goals as goal

pub returns-in_err-close-clause-seen : goal.returns-in_err-close-clause-seen
returns-in_err-close-clause-seen g c file bytes on free has_body =
    let seen = c.close.ensures.seen file on free in
    (seen.0, seen.1, old_stays file seen.0 bytes seen.2)

pub returns-in_err-write_synced-clause-seen : goal.returns-in_err-write_synced-clause-seen
returns-in_err-write_synced-clause-seen g c file bytes on free has_body =
    let mid = c.in_ok-close.ensures.done file on free in
    let seen = (rw c.start.ensures at c.write_synced.ensures.seen) mid.0 mid.1 in
    (seen.0, seen.1, old_stays file seen.0 bytes (body_safe c.args.slot file mid.0 c.args.spelled.now bytes free.next has_body mid.2 seen.0 seen.2))

pub returns-in_err-write_synced-clause-any_moment : goal.returns-in_err-write_synced-clause-any_moment
returns-in_err-write_synced-clause-any_moment g c file bytes on free has_body =
    let mid = c.in_ok-close.ensures.done file on free in
    let P = IsOldOrNew (record_of file) bytes in
    then_on g.D.Disk.moment g.D.Disk.left_since c.args.disk.now c.close.new.disk c.write_synced.new.disk P
    (weaker g.D.Disk.moment g.D.Disk.left_since c.args.disk.now c.close.new.disk (λ n. current n ≡ current file) P (λ new is. old_stays file new bytes is) (c.close.ensures.any_moment file on free))
    (weaker g.D.Disk.moment g.D.Disk.left_since c.close.new.disk c.write_synced.new.disk (Torn (start c.args.slot + 1) (length c.args.spelled.now) mid.0) P
    (λ new torn. old_stays file new bytes (body_safe c.args.slot file mid.0 c.args.spelled.now bytes free.next has_body mid.2 new torn))
    ((rw c.start.ensures at c.write_synced.ensures.any_moment) mid.0 mid.1))

pub returns-clause-done : goal.returns-clause-done
returns-clause-done g c =
    replace_done g.D.Disk.seen g.D.Disk.may_leave c.args.disk.now c.write_synced.new.disk c.write_synced-2.new.disk c.args.slot c.args.is_shut c.args.spelled.now c.write_synced-2.result
    (rw c.start-2.ensures at c.write_synced-2.ensures.done)
    (λ file bytes on free has_body.
    let mid = c.in_ok-close.ensures.done file on free in
    let full = (rw c.start.ensures at c.in_ok-write_synced.ensures.done) mid.0 mid.1 in
    (written mid.0 (start c.args.slot + 1) c.args.spelled.now, full, gate_done c.args.slot file mid.0 c.args.spelled.now bytes free.next has_body mid.2))

pub returns-clause-seen : goal.returns-clause-seen
returns-clause-seen g c file bytes on free has_body =
    let mid = c.in_ok-close.ensures.done file on free in
    let full = (rw c.start.ensures at c.in_ok-write_synced.ensures.done) mid.0 mid.1 in
    let seen = (rw c.start-2.ensures at c.write_synced-2.ensures.seen) (written mid.0 (start c.args.slot + 1) c.args.spelled.now) full in
    (seen.0, seen.1, gate_safe c.args.slot file mid.0 c.args.spelled.now bytes free.next has_body mid.2 seen.0 seen.2)

pub returns-clause-any_moment : goal.returns-clause-any_moment
returns-clause-any_moment g c file bytes on free has_body =
    let mid = c.in_ok-close.ensures.done file on free in
    let full = (rw c.start.ensures at c.in_ok-write_synced.ensures.done) mid.0 mid.1 in
    let P = IsOldOrNew (record_of file) bytes in
    then_on g.D.Disk.moment g.D.Disk.left_since c.args.disk.now c.write_synced.new.disk c.write_synced-2.new.disk P
    (then_on g.D.Disk.moment g.D.Disk.left_since c.args.disk.now c.close.new.disk c.write_synced.new.disk P
    (weaker g.D.Disk.moment g.D.Disk.left_since c.args.disk.now c.close.new.disk (λ n. current n ≡ current file) P (λ new is. old_stays file new bytes is) (c.close.ensures.any_moment file on free))
    (weaker g.D.Disk.moment g.D.Disk.left_since c.close.new.disk c.write_synced.new.disk (Torn (start c.args.slot + 1) (length c.args.spelled.now) mid.0) P
    (λ new torn. old_stays file new bytes (body_safe c.args.slot file mid.0 c.args.spelled.now bytes free.next has_body mid.2 new torn))
    ((rw c.start.ensures at c.write_synced.ensures.any_moment) mid.0 mid.1)))
    (weaker g.D.Disk.moment g.D.Disk.left_since c.write_synced.new.disk c.write_synced-2.new.disk (Torn (start c.args.slot) 1 (written mid.0 (start c.args.slot + 1) c.args.spelled.now)) P
    (λ new torn. gate_safe c.args.slot file mid.0 c.args.spelled.now bytes free.next has_body mid.2 new torn)
    ((rw c.start-2.ensures at c.write_synced-2.ensures.any_moment) _ full))

pub returns-clause-exact : goal.returns-clause-exact
returns-clause-exact g c =
    let seen = g.D.Disk.seen in
    let may_leave = g.D.Disk.may_leave in
    let s = c.args.slot in
    let spelled = c.args.spelled.now in
    let old = c.args.disk.now in
    let mid = c.write_synced.new.disk in
    let new = c.write_synced-2.new.disk in
    on_ok_weaker {P = (file : List ℕ) → IsOn seen may_leave mid file → IsOn seen may_leave new (written file (start s) (1 ∷ []))}
    {Q = (file : List ℕ) → IsOn seen may_leave old file → IsFree file s c.args.is_shut → IsOn seen may_leave new (written file (start s) (1 ∷ spelled))}
    c.write_synced-2.result
    (λ done file on free. subst (λ (l : List ℕ). IsOn seen may_leave new l) (slot_in_one file spelled s c.args.is_shut free.gate)
    (done (written (with_gate_closed file s c.args.is_shut) (start s + 1) spelled) ((rw c.start.ensures at c.in_ok-write_synced.ensures.done) (with_gate_closed file s c.args.is_shut) (c.in_ok-close.ensures.exact file on))))
    (rw c.start-2.ensures at c.write_synced-2.ensures.done)

pub returns-in_err-close-clause-inside_seen : goal.returns-in_err-close-clause-inside_seen
returns-in_err-close-clause-inside_seen g c file on =
    let seen = c.close.ensures.inside_seen file on in
    (seen.0, seen.1, in_gate c.args.slot (length c.args.spelled.now) file seen.0 seen.2)

pub returns-in_err-close-clause-inside : goal.returns-in_err-close-clause-inside
returns-in_err-close-clause-inside g c file on =
    weaker g.D.Disk.moment g.D.Disk.left_since c.args.disk.now c.close.new.disk (Torn (start c.args.slot) 1 file) (Torn (start c.args.slot) (1 + length c.args.spelled.now) file)
    (in_gate c.args.slot (length c.args.spelled.now) file) (c.close.ensures.inside file on)

pub returns-in_err-write_synced-clause-inside_seen : goal.returns-in_err-write_synced-clause-inside_seen
returns-in_err-write_synced-clause-inside_seen g c file on =
    let s = c.args.slot in
    let mid = with_gate_closed file s c.args.is_shut in
    let seen = (rw c.start.ensures at c.write_synced.ensures.seen) mid (c.in_ok-close.ensures.exact file on) in
    (seen.0, seen.1, in_body s (length c.args.spelled.now) file mid seen.0 (gate_torn file s c.args.is_shut) seen.2)

pub returns-in_err-write_synced-clause-inside : goal.returns-in_err-write_synced-clause-inside
returns-in_err-write_synced-clause-inside g c file on =
    let s = c.args.slot in
    let n = length c.args.spelled.now in
    let mid = with_gate_closed file s c.args.is_shut in
    let P = Torn (start s) (1 + n) file in
    then_on g.D.Disk.moment g.D.Disk.left_since c.args.disk.now c.close.new.disk c.write_synced.new.disk P
    (weaker g.D.Disk.moment g.D.Disk.left_since c.args.disk.now c.close.new.disk (Torn (start s) 1 file) P (in_gate s n file) (c.close.ensures.inside file on))
    (weaker g.D.Disk.moment g.D.Disk.left_since c.close.new.disk c.write_synced.new.disk (Torn (start s + 1) n mid) P
    (λ new torn. in_body s n file mid new (gate_torn file s c.args.is_shut) torn)
    ((rw c.start.ensures at c.write_synced.ensures.any_moment) mid (c.in_ok-close.ensures.exact file on)))

pub returns-clause-inside_seen : goal.returns-clause-inside_seen
returns-clause-inside_seen g c file on =
    let s = c.args.slot in
    let n = length c.args.spelled.now in
    let mid = with_gate_closed file s c.args.is_shut in
    let full = written mid (start s + 1) c.args.spelled.now in
    let seen = (rw c.start-2.ensures at c.write_synced-2.ensures.seen) full ((rw c.start.ensures at c.in_ok-write_synced.ensures.done) mid (c.in_ok-close.ensures.exact file on)) in
    (seen.0, seen.1, in_last s n file full seen.0 (in_body s n file mid full (gate_torn file s c.args.is_shut) (torn_whole mid (start s + 1) c.args.spelled.now)) seen.2)

pub returns-clause-inside : goal.returns-clause-inside
returns-clause-inside g c file on =
    let s = c.args.slot in
    let n = length c.args.spelled.now in
    let mid = with_gate_closed file s c.args.is_shut in
    let full = written mid (start s + 1) c.args.spelled.now in
    let P = Torn (start s) (1 + n) file in
    then_on g.D.Disk.moment g.D.Disk.left_since c.args.disk.now c.write_synced.new.disk c.write_synced-2.new.disk P
    (then_on g.D.Disk.moment g.D.Disk.left_since c.args.disk.now c.close.new.disk c.write_synced.new.disk P
    (weaker g.D.Disk.moment g.D.Disk.left_since c.args.disk.now c.close.new.disk (Torn (start s) 1 file) P (in_gate s n file) (c.close.ensures.inside file on))
    (weaker g.D.Disk.moment g.D.Disk.left_since c.close.new.disk c.write_synced.new.disk (Torn (start s + 1) n mid) P
    (λ new torn. in_body s n file mid new (gate_torn file s c.args.is_shut) torn)
    ((rw c.start.ensures at c.write_synced.ensures.any_moment) mid (c.in_ok-close.ensures.exact file on))))
    (weaker g.D.Disk.moment g.D.Disk.left_since c.write_synced.new.disk c.write_synced-2.new.disk (Torn (start s) 1 full) P
    (λ new torn. in_last s n file full new (in_body s n file mid full (gate_torn file s c.args.is_shut) (torn_whole mid (start s + 1) c.args.spelled.now)) torn)
    ((rw c.start-2.ensures at c.write_synced-2.ensures.any_moment) full ((rw c.start.ensures at c.in_ok-write_synced.ensures.done) mid (c.in_ok-close.ensures.exact file on))))
