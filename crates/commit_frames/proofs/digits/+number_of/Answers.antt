use Rattle.std.proofs.Common.{◌≤◌, ◌-◌, length, take, drop, arith, length-drop}
use Rattle.std.proofs.lemmas.List.{length-take}
use Rattle.commit_frames.proofs.Numbers.{room_of}
use Rattle.commit_frames.proofs.digits.+number_of.Goals as goal
use Rattle.commit_frames.proofs.digits.+number_of.Goals.{then-byte-eq0, else-byte-eq0}

pub overflow_mul-result : goal.overflow_mul-result
overflow_mul-result t c =
    let b = c.args.bytes.now in
    let le : length (take (length b - 1) (drop 1 b)) ≤ 8 = omega (arith, c.requires, length-drop 1 b, length-take (length b - 1) (drop 1 b)) in
    let room = room_of (length (take (length b - 1) (drop 1 b))) c.in_ok-higher.higher le c.in_ok-higher.ensures.below in
    omega (arith, room)

pub overflow_add-result : goal.overflow_add-result
overflow_add-result t c =
    let b = c.args.bytes.now in
    let le : length (take (length b - 1) (drop 1 b)) ≤ 8 = omega (arith, c.requires, length-drop 1 b, length-take (length b - 1) (drop 1 b)) in
    let room = room_of (length (take (length b - 1) (drop 1 b))) c.in_ok-higher.higher le c.in_ok-higher.ensures.below in
    elim c.if-byte-eq0.branch [
      | then-byte-eq0 w ↦ omega (arith, room, c.from.ensures, w.digit-is, c.ranges.lost.fits)
      | else-byte-eq0 w ↦ omega (arith, room, c.from.ensures, w.digit-is, c.type_inv.bytes 0)
    ]
