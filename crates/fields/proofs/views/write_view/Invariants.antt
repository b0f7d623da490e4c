use Rattle.std.proofs.Common.{◌≡◌, ◌+◌, ◌*◌, ◌∷◌, length, take}
use Rattle.std.specs.List.{flat_map}
use Rattle.byteorder.specs.Endian.{big_bytes}
use Rattle.fields.specs.Places.{Writes}
use Rattle.fields.proofs.views.write_view.Given as goal

abbrev pub invariant-loop-member : goal.invariant-loop-member
invariant-loop-member l = record {
  size : l.place ≡ l.at + 1 + 4 * l.member-index;
  written : Writes l.fn.out l.out l.at (length l.members ∷ flat_map (big_bytes 4) (take l.member-index l.members)) l.place;
}
