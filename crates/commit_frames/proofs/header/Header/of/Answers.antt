use Rattle.std.proofs.Common.{arith, sym, ap, refl, ◌∙◌, Some, length, length-append}
use Rattle.std.proofs.lemmas.Bool.{false≢true}
use Rattle.commit_frames.specs.Headers.{header_bytes, rest_of}
use Rattle.commit_frames.proofs.Leftovers.{same_some}
use Rattle.commit_frames.proofs.Pieces.{spelled, fits_at, read_back, read_once, length-header}
use Rattle.commit_frames.proofs.header.Header.of.Goals as goal

pub returns-clause-there : goal.returns-clause-there
returns-clause-there c = (
  spelled c.args.bytes.now _ c.if-bytes-lt-HEADER_BYTES.false
      (record {
        mark = sym c.in_ok-mark.ensures;
        serial = sym c.in_ok-serial.ensures.value;
        first = sym c.in_ok-first.ensures.value;
        size = sym c.in_ok-length.ensures.value;
        zeros = sym c.in_ok-zeros.ensures.value;
        size_twin = sym c.in_ok-length_twin.ensures.value ∙ ap Some (c.if-not-is_twin.ensures.0 refl);
        zeros_twin = sym c.in_ok-zeros_twin.ensures.value ∙ ap Some (c.if-not-is_twin-2.ensures.0 refl);
        check = sym c.in_ok-check.ensures.value;
      }),
  (
      let b = c.args.bytes.now in
      let long = c.if-bytes-lt-HEADER_BYTES.false in
      record {
        serial = fits_at b 1 9 c.in_ok-serial.serial (omega arith) c.in_ok-serial.ensures.below;
        first = fits_at b 10 9 c.in_ok-first.first (omega arith) c.in_ok-first.ensures.below;
        size = fits_at b 19 5 c.in_ok-length.length (omega arith) c.in_ok-length.ensures.below;
        zeros = fits_at b 24 5 c.in_ok-zeros.zeros (omega arith) c.in_ok-zeros.ensures.below;
        check = fits_at b 39 5 c.in_ok-check.check (omega arith) c.in_ok-check.ensures.below;
      }),
)

pub returns-clause-each : goal.returns-clause-each
returns-clause-each c h rest fits is =
    ap Some (read_once c.args.bytes.now _ h
    (record {
      mark = sym c.in_ok-mark.ensures;
      serial = sym c.in_ok-serial.ensures.value;
      first = sym c.in_ok-first.ensures.value;
      size = sym c.in_ok-length.ensures.value;
      zeros = sym c.in_ok-zeros.ensures.value;
      size_twin = sym c.in_ok-length_twin.ensures.value ∙ ap Some (c.if-not-is_twin.ensures.0 refl);
      zeros_twin = sym c.in_ok-zeros_twin.ensures.value ∙ ap Some (c.if-not-is_twin-2.ensures.0 refl);
      check = sym c.in_ok-check.ensures.value;
    })
    (read_back c.args.bytes.now h rest fits is))

pub returns-then-bytes-lt-HEADER_BYTES-clause-each : goal.returns-then-bytes-lt-HEADER_BYTES-clause-each
returns-then-bytes-lt-HEADER_BYTES-clause-each c h rest fits is =
    absurd (omega (arith, c.if-bytes-lt-HEADER_BYTES.true, ap length is, length-append (header_bytes h) rest, length-header h))

pub returns-in_err-mark-clause-each : goal.returns-in_err-mark-clause-each
returns-in_err-mark-clause-each c h rest fits is = absurd (c.in_err-mark.ensures h.mark (sym (read_back c.args.bytes.now h rest fits is).mark))

pub returns-in_err-serial-clause-each : goal.returns-in_err-serial-clause-each
returns-in_err-serial-clause-each c h rest fits is = let read = (read_back c.args.bytes.now h rest fits is).serial in absurd (cc (c.in_err-serial.ensures.value, read))

pub returns-in_err-first-clause-each : goal.returns-in_err-first-clause-each
returns-in_err-first-clause-each c h rest fits is = let read = (read_back c.args.bytes.now h rest fits is).first in absurd (cc (c.in_err-first.ensures.value, read))

pub returns-in_err-length-clause-each : goal.returns-in_err-length-clause-each
returns-in_err-length-clause-each c h rest fits is = let read = (read_back c.args.bytes.now h rest fits is).size in absurd (cc (c.in_err-length.ensures.value, read))

pub returns-in_err-zeros-clause-each : goal.returns-in_err-zeros-clause-each
returns-in_err-zeros-clause-each c h rest fits is = let read = (read_back c.args.bytes.now h rest fits is).zeros in absurd (cc (c.in_err-zeros.ensures.value, read))

pub returns-in_err-length_twin-clause-each : goal.returns-in_err-length_twin-clause-each
returns-in_err-length_twin-clause-each c h rest fits is = let read = (read_back c.args.bytes.now h rest fits is).size_twin in absurd (cc (c.in_err-length_twin.ensures.value, read))

pub returns-in_err-zeros_twin-clause-each : goal.returns-in_err-zeros_twin-clause-each
returns-in_err-zeros_twin-clause-each c h rest fits is = let read = (read_back c.args.bytes.now h rest fits is).zeros_twin in absurd (cc (c.in_err-zeros_twin.ensures.value, read))

pub returns-then-not-is_twin-clause-each : goal.returns-then-not-is_twin-clause-each
returns-then-not-is_twin-clause-each c h rest fits is =
    let read = read_back c.args.bytes.now h rest fits is in
    let size = same_some _ _ _ c.in_ok-length.ensures.value read.size in
    let twin = same_some _ _ _ c.in_ok-length_twin.ensures.value read.size_twin in
    absurd (false≢true (c.if-not-is_twin.ensures.1 (twin ∙ ap rest_of (sym size))))

pub returns-then-not-is_twin-2-clause-each : goal.returns-then-not-is_twin-2-clause-each
returns-then-not-is_twin-2-clause-each c h rest fits is =
    let read = read_back c.args.bytes.now h rest fits is in
    let zeros = same_some _ _ _ c.in_ok-zeros.ensures.value read.zeros in
    let twin = same_some _ _ _ c.in_ok-zeros_twin.ensures.value read.zeros_twin in
    absurd (false≢true (c.if-not-is_twin-2.ensures.1 (twin ∙ ap rest_of (sym zeros))))

pub returns-in_err-check-clause-each : goal.returns-in_err-check-clause-each
returns-in_err-check-clause-each c h rest fits is = let read = (read_back c.args.bytes.now h rest fits is).check in absurd (cc (c.in_err-check.ensures.value, read))
