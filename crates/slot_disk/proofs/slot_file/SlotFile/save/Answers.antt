use Rattle.std.proofs.Common.{ℕ, List, ◌+◌, ◌∷◌, Some, length, ap, ◌∙◌, arith, rules}
use Rattle.slot_disk.specs.Crash.{written, Torn}
use Rattle.slot_disk.specs.Slots.{start, next_slot, open_slot}
use Rattle.slot_disk.specs.SlotFiles.{remembered}
use Rattle.slot_disk.specs.declared.slot.Slot.{Slot}
use Rattle.slot_disk.proofs.Ranges.{still, torn_same, slot_range}
use Rattle.slot_disk.proofs.Runs.{weaker}
use Rattle.slot_disk.proofs.Rests.{still_seen, free, has_body, seen_after, at_rest_after}
use Rattle.slot_disk.proofs.slot_file.SlotFile.save.Goals as goal

pub returns-then-bytes-gt-RECORD_LIMIT-clause-seen :
    goal.returns-then-bytes-gt-RECORD_LIMIT-clause-seen
returns-then-bytes-gt-RECORD_LIMIT-clause-seen g c rest = still_seen g.D.Disk.seen g.D.Disk.may_leave c.args.self.now rest c.args.bytes.now

pub returns-then-last-clause-seen : goal.returns-then-last-clause-seen
returns-then-last-clause-seen g c rest = still_seen g.D.Disk.seen g.D.Disk.may_leave c.args.self.now rest c.args.bytes.now

pub returns-in-Err-clause-seen : goal.returns-in-Err-clause-seen
returns-in-Err-clause-seen g c rest =
    let file = c.args.self.now in
    let bytes = c.args.bytes.now in
    let is_free = free g.D.Disk.seen g.D.Disk.may_leave file rest c.next_slot-slot.result c.is_shut-is_shut.result (search rules) (search rules) in
    let body = has_body g.D.Disk.seen g.D.Disk.may_leave file rest c.last_serial-last.result bytes c.as_slice.result.now c.last_serial-last.ensures (omega (arith, c.if-last.false)) (omega (arith, c.if-bytes-gt-RECORD_LIMIT.false)) (c.as_slice.ensures ∙ c.set_body.ensures) in
    rw c.doubt.ensures.disk (seen_after g.D.Disk.seen g.D.Disk.may_leave file rest bytes c.replace-done.new.disk (c.replace-done.ensures.seen rest.bytes bytes rest.on is_free body))

pub returns-in-Ok-clause-seen : goal.returns-in-Ok-clause-seen
returns-in-Ok-clause-seen g c rest =
    let file = c.args.self.now in
    let bytes = c.args.bytes.now in
    let is_free = free g.D.Disk.seen g.D.Disk.may_leave file rest c.next_slot-slot.result c.is_shut-is_shut.result (search rules) (search rules) in
    let body = has_body g.D.Disk.seen g.D.Disk.may_leave file rest c.last_serial-last.result bytes c.as_slice.result.now c.last_serial-last.ensures (omega (arith, c.if-last.false)) (omega (arith, c.if-bytes-gt-RECORD_LIMIT.false)) (c.as_slice.ensures ∙ c.set_body.ensures) in
    rw c.note.ensures.disk (seen_after g.D.Disk.seen g.D.Disk.may_leave file rest bytes c.replace-done.new.disk (c.replace-done.ensures.seen rest.bytes bytes rest.on is_free body))

pub returns-in-Ok-clause-at_rest : goal.returns-in-Ok-clause-at_rest
returns-in-Ok-clause-at_rest g c rest =
    let file = c.args.self.now in
    let bytes = c.args.bytes.now in
    let is_free = free g.D.Disk.seen g.D.Disk.may_leave file rest c.next_slot-slot.result c.is_shut-is_shut.result (search rules) (search rules) in
    let body = has_body g.D.Disk.seen g.D.Disk.may_leave file rest c.last_serial-last.result bytes c.as_slice.result.now c.last_serial-last.ensures (omega (arith, c.if-last.false)) (omega (arith, c.if-bytes-gt-RECORD_LIMIT.false)) (c.as_slice.ensures ∙ c.set_body.ensures) in
    at_rest_after g.D.Disk.seen g.D.Disk.may_leave file rest c.next_slot-slot.result c.last_serial-last.result bytes c.replace-done.new.disk c.note.new.self c.last_serial-last.ensures
    (c.in-Ok.ensures.done rest.bytes bytes rest.on is_free body)
    c.note.ensures.now c.note.ensures.here c.note.ensures.other c.note.ensures.disk

pub returns-in-Err-clause-inside : goal.returns-in-Err-clause-inside
returns-in-Err-clause-inside g c rest =
    let s = c.next_slot-slot.result in
    let t = next_slot (remembered c.args.self.now) in
    let spelled = c.as_slice.result.now in
    let bytes = c.args.bytes.now in
    rw c.doubt.ensures.disk (weaker g.D.Disk.moment g.D.Disk.left_since c.args.self.now.disk c.replace-done.new.disk (Torn (start s) (1 + length spelled) rest.bytes) (Torn (start t) (11 + length bytes) rest.bytes)
    (λ new torn. slot_range s t spelled bytes (c.last_serial-last.result + 1) rest.bytes new c.next_slot-slot.ensures (c.as_slice.ensures ∙ c.set_body.ensures) torn)
    (c.replace-done.ensures.inside rest.bytes rest.on))

pub returns-in-Err-clause-inside_seen : goal.returns-in-Err-clause-inside_seen
returns-in-Err-clause-inside_seen g c rest =
    let s = c.next_slot-slot.result in
    let t = next_slot (remembered c.args.self.now) in
    let spelled = c.as_slice.result.now in
    let bytes = c.args.bytes.now in
    let seen = c.replace-done.ensures.inside_seen rest.bytes rest.on in
    rw c.doubt.ensures.disk (seen.0, seen.1, slot_range s t spelled bytes (c.last_serial-last.result + 1) rest.bytes seen.0 c.next_slot-slot.ensures (c.as_slice.ensures ∙ c.set_body.ensures) seen.2)

pub returns-in-Ok-clause-inside : goal.returns-in-Ok-clause-inside
returns-in-Ok-clause-inside g c rest =
    let s = c.next_slot-slot.result in
    let t = next_slot (remembered c.args.self.now) in
    let spelled = c.as_slice.result.now in
    let bytes = c.args.bytes.now in
    rw c.note.ensures.disk (weaker g.D.Disk.moment g.D.Disk.left_since c.args.self.now.disk c.replace-done.new.disk (Torn (start s) (1 + length spelled) rest.bytes) (Torn (start t) (11 + length bytes) rest.bytes)
    (λ new torn. slot_range s t spelled bytes (c.last_serial-last.result + 1) rest.bytes new c.next_slot-slot.ensures (c.as_slice.ensures ∙ c.set_body.ensures) torn)
    (c.replace-done.ensures.inside rest.bytes rest.on))

pub returns-in-Ok-clause-inside_seen : goal.returns-in-Ok-clause-inside_seen
returns-in-Ok-clause-inside_seen g c rest =
    let s = c.next_slot-slot.result in
    let t = next_slot (remembered c.args.self.now) in
    let spelled = c.as_slice.result.now in
    let bytes = c.args.bytes.now in
    let seen = c.replace-done.ensures.inside_seen rest.bytes rest.on in
    rw c.note.ensures.disk (seen.0, seen.1, slot_range s t spelled bytes (c.last_serial-last.result + 1) rest.bytes seen.0 c.next_slot-slot.ensures (c.as_slice.ensures ∙ c.set_body.ensures) seen.2)

pub returns-then-bytes-gt-RECORD_LIMIT-clause-inside :
    goal.returns-then-bytes-gt-RECORD_LIMIT-clause-inside
returns-then-bytes-gt-RECORD_LIMIT-clause-inside g c rest =
    let t = next_slot (remembered c.args.self.now) in
    still g.D.Disk.seen g.D.Disk.may_leave g.D.Disk.moment g.D.Disk.left_since g.met.D.Disk.only_now c.args.self.now.disk rest.bytes (Torn (start t) (11 + length c.args.bytes.now) rest.bytes) rest.on (torn_same (start t) (11 + length c.args.bytes.now) rest.bytes)

pub returns-then-bytes-gt-RECORD_LIMIT-clause-inside_seen :
    goal.returns-then-bytes-gt-RECORD_LIMIT-clause-inside_seen
returns-then-bytes-gt-RECORD_LIMIT-clause-inside_seen g c rest = (rest.bytes, rest.on.told, torn_same (start (next_slot (remembered c.args.self.now))) (11 + length c.args.bytes.now) rest.bytes)

pub returns-then-last-clause-inside :
    goal.returns-then-last-clause-inside
returns-then-last-clause-inside g c rest =
    let t = next_slot (remembered c.args.self.now) in
    still g.D.Disk.seen g.D.Disk.may_leave g.D.Disk.moment g.D.Disk.left_since g.met.D.Disk.only_now c.args.self.now.disk rest.bytes (Torn (start t) (11 + length c.args.bytes.now) rest.bytes) rest.on (torn_same (start t) (11 + length c.args.bytes.now) rest.bytes)

pub returns-then-last-clause-inside_seen :
    goal.returns-then-last-clause-inside_seen
returns-then-last-clause-inside_seen g c rest = (rest.bytes, rest.on.told, torn_same (start (next_slot (remembered c.args.self.now))) (11 + length c.args.bytes.now) rest.bytes)

pub returns-in-Ok-clause-exact : goal.returns-in-Ok-clause-exact
returns-in-Ok-clause-exact g c rest =
    let file = c.args.self.now in
    let bytes = c.args.bytes.now in
    let s = c.next_slot-slot.result in
    let is_free = free g.D.Disk.seen g.D.Disk.may_leave file rest s c.is_shut-is_shut.result (search rules) (search rules) in
    let on = c.in-Ok.ensures.exact rest.bytes rest.on is_free in
    rw c.note.ensures.disk (on.told
    ∙ ap (λ (l : List ℕ). Some (written rest.bytes (start s) (1 ∷ l))) (c.as_slice.ensures ∙ c.set_body.ensures)
    ∙ ap (λ (t : Slot). Some (written rest.bytes (start t) (open_slot (c.last_serial-last.result + 1) bytes))) c.next_slot-slot.ensures
    ∙ ap (λ (n : ℕ). Some (written rest.bytes (start (next_slot (remembered file))) (open_slot (n + 1) bytes))) c.last_serial-last.ensures)
