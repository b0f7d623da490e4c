use Rattle.std.proofs.Common.{◌≡◌, ◌⊎◌, inl, inr, ⊎_elim, ℕ, ◌<◌, ◌^◌, get_or, refl, sym, subst, arith, lit<, lit≤}
use Rattle.std.proofs.lemmas.Bool.{false≢true}
use Rattle.commit_frames.specs.Digits.{digits}
use Rattle.commit_frames.specs.Frames.{IsLostFrom}
use Rattle.commit_frames.specs.Headers.{mark_byte}
use Rattle.commit_frames.specs.declared.mark.Mark.{Mark}
use Rattle.commit_frames.specs.declared.mark.Mark.TheVariants as marks
use Rattle.commit_frames.proofs.Leftovers.{filled, header_there, lost_number, header_pieces, none_some, same_some, of_size, piece_read, with_size}
use Rattle.commit_frames.proofs.Pieces.{fits_at}
use Rattle.commit_frames.proofs.remains.Remains.of.Goals as goal
use Rattle.commit_frames.proofs.remains.Remains.of.Goals.{then-bytes-ne0+in_ok-of, else-bytes-ne0}

pub returns-in_err-of-clause-each : goal.returns-in_err-of-clause-each
returns-in_err-of-clause-each c h fits serial lost =
    absurd (⊎_elim (λ (z : get_or c.args.bytes.now 0 0 ≡ 0). c.if-bytes-ne0.true z) (λ (e : get_or c.args.bytes.now 0 0 ≡ mark_byte h.mark). c.in_err-of.ensures h.mark (sym e)) (header_pieces h c.args.bytes.now fits lost).mark)

pub returns-then-not-may_be-clause-each : goal.returns-then-not-may_be-clause-each
returns-then-not-may_be-clause-each c h fits serial lost =
    false≢true (c.if-not-may_be.ensures.1 (of_size c.args.bytes.now 1 9 h.serial c.args.serial (omega (arith, c.requires.size)) serial (header_pieces h c.args.bytes.now fits lost).serial))

pub returns-in_err-number_of-clause-each : goal.returns-in_err-number_of-clause-each
returns-in_err-number_of-clause-each c h fits serial lost =
    let read = lost_number 128 9 h.first _ (lit≤ tt) (lit< tt) fits.first (header_pieces h c.args.bytes.now fits lost).first in
    absurd (none_some _ read.0 c.in_err-number_of.ensures.value read.1)

pub returns-in_err-merged-clause-each : goal.returns-in_err-merged-clause-each
returns-in_err-merged-clause-each c h fits serial lost = let p = header_pieces h c.args.bytes.now fits lost in absurd (c.in_err-merged.ensures.each h.length fits.size p.size p.size_twin)

pub returns-in_err-length-clause-each : goal.returns-in_err-length-clause-each
returns-in_err-length-clause-each c h fits serial lost =
    let p = header_pieces h c.args.bytes.now fits lost in
    let read = lost_number 255 5 h.length _ (lit≤ tt) (lit< tt) fits.size (c.in_ok-merged.ensures.each h.length fits.size p.size p.size_twin) in
    absurd (none_some _ read.0 c.in_err-length.ensures.value read.1)

pub returns-in_err-merged-2-clause-each : goal.returns-in_err-merged-2-clause-each
returns-in_err-merged-2-clause-each c h fits serial lost = let p = header_pieces h c.args.bytes.now fits lost in absurd (c.in_err-merged-2.ensures.each h.zeros fits.zeros p.zeros p.zeros_twin)

pub returns-in_err-zeros-clause-each : goal.returns-in_err-zeros-clause-each
returns-in_err-zeros-clause-each c h fits serial lost =
    let p = header_pieces h c.args.bytes.now fits lost in
    let read = lost_number 128 5 h.zeros _ (lit≤ tt) (lit< tt) fits.zeros (c.in_ok-merged-2.ensures.each h.zeros fits.zeros p.zeros p.zeros_twin) in
    absurd (none_some _ read.0 c.in_err-zeros.ensures.value read.1)

pub returns-in_err-number_of-2-clause-each : goal.returns-in_err-number_of-2-clause-each
returns-in_err-number_of-2-clause-each c h fits serial lost =
    let read = lost_number 128 5 h.check _ (lit≤ tt) (lit< tt) fits.check (header_pieces h c.args.bytes.now fits lost).check in
    absurd (none_some _ read.0 c.in_err-number_of-2.ensures.value read.1)

pub returns-clause-there : goal.returns-clause-there
returns-clause-there c =
    let bytes = c.args.bytes.now in
    let first = c.in_ok-number_of.field-0 in
    let length = c.in_ok-length.length in
    let zeros = c.in_ok-zeros.zeros in
    let check = c.in_ok-number_of-2.field-0 in
    let long : length < 2 ^ 35 = subst (λ (k : ℕ). length < 128 ^ k) c.in_ok-merged.ensures.size c.in_ok-length.ensures.below in
    let many : zeros < 2 ^ 35 = subst (λ (k : ℕ). zeros < 128 ^ k) c.in_ok-merged-2.ensures.size c.in_ok-zeros.ensures.below in
    let size = c.in_ok-merged.ensures.there length long (subst (λ (k : ℕ). IsLostFrom (digits k length) c.in_ok-merged.field-0) c.in_ok-merged.ensures.size (filled 255 c.in_ok-merged.field-0 length (sym c.in_ok-length.ensures.value))) in
    let few = c.in_ok-merged-2.ensures.there zeros many (subst (λ (k : ℕ). IsLostFrom (digits k zeros) c.in_ok-merged-2.field-0) c.in_ok-merged-2.ensures.size (filled 128 c.in_ok-merged-2.field-0 zeros (sym c.in_ok-zeros.ensures.value))) in
    let there = λ (m : Mark) (mark : (get_or bytes 0 0 ≡ 0) ⊎ (get_or bytes 0 0 ≡ mark_byte m)).
    header_there bytes (record { mark = m; serial = c.args.serial; first = first; length = length; zeros = zeros; check = check }) c.requires.size
    (record {
      serial = c.requires.serial;
      first = fits_at bytes 10 9 first (omega (arith, c.requires.size)) c.in_ok-number_of.ensures.below;
      size = long;
      zeros = many;
      check = fits_at bytes 39 5 check (omega (arith, c.requires.size)) c.in_ok-number_of-2.ensures.below;
    })
    (record {
      mark = mark;
      serial = with_size bytes 1 9 c.args.serial (omega (arith, c.requires.size)) (c.if-not-may_be.ensures.0 refl);
      first = piece_read 128 bytes 10 9 first (omega (arith, c.requires.size)) (record { value = c.in_ok-number_of.ensures.value; below = c.in_ok-number_of.ensures.below });
      size = size.0;
      zeros = few.0;
      size_twin = size.1;
      zeros_twin = few.1;
      check = piece_read 128 bytes 39 5 check (omega (arith, c.requires.size)) (record { value = c.in_ok-number_of-2.ensures.value; below = c.in_ok-number_of-2.ensures.below });
    }) in
    elim c.if-bytes-ne0.branch [
      | then-bytes-ne0+in_ok-of w ↦ there w.in_ok-of.field-0 (inr (sym w.in_ok-of.ensures))
      | else-bytes-ne0 w ↦ there marks.Commit (inl w.if-bytes-ne0.false)
    ]

pub returns-clause-each : goal.returns-clause-each
returns-clause-each c h fits serial lost =
    let p = header_pieces h c.args.bytes.now fits lost in
    let most = lost_number 255 5 h.length _ (lit≤ tt) (lit< tt) fits.size (c.in_ok-merged.ensures.each h.length fits.size p.size p.size_twin) in
    let least = lost_number 128 5 h.zeros _ (lit≤ tt) (lit< tt) fits.zeros (c.in_ok-merged-2.ensures.each h.zeros fits.zeros p.zeros p.zeros_twin) in
    let a : c.in_ok-length.length ≡ most.0 = same_some _ c.in_ok-length.length most.0 c.in_ok-length.ensures.value most.1 in
    let b : c.in_ok-zeros.zeros ≡ least.0 = same_some _ c.in_ok-zeros.zeros least.0 c.in_ok-zeros.ensures.value least.1 in
    (omega (arith, a, most.2.most refl), omega (arith, b, least.2.least refl))
