use Rattle.std.proofs.Common.{◌≡◌, ℕ, ◌-◌, List, ◌++◌, length, take, drop, sym, ap, ◌∙◌, subst, subst₂, arith, length-append, length-drop, length-take}
use Rattle.std.proofs.lemmas.List.{drop-drop}
use Rattle.http1.specs.declared.conn.Event.TheVariants.{Data, End}
use Rattle.http1.specs.Decoder.{Completes}
use Rattle.http_exchange.proofs.Contents.{InContent, loop_start, left_by, left_other, slice_rest}
use Rattle.http_exchange.proofs.front.read_content.Goals as goal

pub loop-read-init : goal.loop-read-init
loop-read-init c =
    let empty = c.new-body.ensures.items in
    (omega arith, omega (arith, ap length empty), rw empty (loop_start c.args.server.now c.args.input.now))

pub loop-read-preserved : goal.loop-read-preserved
loop-read-preserved c =
    let input = c.args.input.now in
    let used = c.loop-read.used in
    let read = c.in-Ok.read in
    let did = rw (slice_rest used input) at c.in-Ok.ensures.ok in
    let within = c.in-Ok.ensures.consumed in
    let left : c.of.result.now ≡ take (c.in-Data.piece.end - c.in-Data.piece.start) (drop c.in-Data.piece.start (drop used input)) = rw (slice_rest used input) at c.of.ensures in
    let grown = c.in_ok-extend_from_slice-in-Data.ensures.items in (
      omega (arith, within, length-drop used input),
      omega (arith, ap length grown, ap length left, length-append c.loop-read.body.items c.of.result.now, length-take (c.in-Data.piece.end - c.in-Data.piece.start) (drop c.in-Data.piece.start (drop used input)), c.if-piece-saturating_sub.false, c.saturating_sub.ensures, c.len.ensures, c.loop-read.invariant.1),
      λ d is head live.
          let x = left_by (c.loop-read.invariant.2 d is head live) head (Data c.in-Data.piece) read c.read.new.headers c.read.new.self c.in-Data.is did in
          subst₂ (λ (t u : List ℕ). InContent d c.args.server.now input c.read.new.self t u) (drop-drop read.consumed used input) (sym (grown ∙ ap (λ (t : List ℕ). c.loop-read.body.items ++ t) left)) x.0,
    )

pub returns-in-End-clause-content : goal.returns-in-End-clause-content
returns-in-End-clause-content c d is head live =
    let input = c.args.input.now in
    let did = rw (slice_rest c.loop-read.used input) at c.in-Ok.ensures.ok in
    let x = left_by (c.loop-read.invariant.2 d is head live) head (End c.in-End.field-0) c.in-Ok.read c.read.new.headers c.read.new.self c.in-End.is did in
    (record { body = x.0; bytes = x.1; short = c.loop-read.invariant.1; completes = subst (Completes d input x.0) (drop-drop c.in-Ok.read.consumed c.loop-read.used input) x.2 }, x.3)

pub returns-in_default : goal.returns-in_default
returns-in_default c = record {
  within = tt;
  content = λ d is head live.
      let x = c.loop-read.invariant.2 d is head live in
      let did = rw (slice_rest c.loop-read.used c.args.input.now) at c.in-Ok.ensures.ok in
      left_other x head c.in-Ok.read.event c.read.new.headers c.read.new.self c.in-Ok.read.consumed c.in_default.not-Data c.in_default.not-End
      (left_by x head c.in-Ok.read.event c.in-Ok.read c.read.new.headers c.read.new.self (λ i. c.in-Ok.read.event) did);
}
