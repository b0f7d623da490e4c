use Rattle.std.proofs.Common.{[], ◌∷◌, ◌+◌, ◌++◌, length-append, refl, arith}
use Rattle.std.proofs.lemmas.Result.{err_from_is_err_and}
use Rattle.peer_server.proofs.Making.{begun_inside, counted_more, counted_none}
use Rattle.peer_server.proofs.Underway.{begun, commit_failed, ended, few_left, finished, turn_failed, turned}
use Rattle.peer_server.specs.Faults.{status_of}
use Rattle.peer_server.specs.Turning.{Committing}
use Rattle.peer_server.proofs.turns.turns.Goals as goal

pub loop-made-init : goal.loop-made-init
loop-made-init g c = record {
  made = ([], refl, begun g.D.Disk.seen g.D.Disk.may_leave g.D.Disk.moment g.D.Disk.left_since g.D.Disk.fault_count g.L.Link.sent g.L.Link.given g.T.Ticker.coming c.args.words.now c.args.server.now c.args.link.now c.args.ticker.now c.requires.none, counted_none c.args.words.now);
  few = omega arith;
  ready = c.requires.ready;
  later = omega arith;
}

pub turn-requires-clause-room : goal.turn-requires-clause-room
turn-requires-clause-room g c = let held = c.loop-made.invariant.made in omega (arith, held.1, held.3.few)

pub loop-made-preserved : goal.loop-made-preserved
loop-made-preserved g c =
    let held = c.loop-made.invariant.made in
    let one = c.in_ok-is_quiet.ensures.made in
    record {
      made = (
        held.0 ++ one.turn ∷ [],
        omega (arith, held.1, length-append held.0 (one.turn ∷ [])),
        ended g.D.Disk.seen g.D.Disk.may_leave g.D.Disk.moment g.D.Disk.left_since g.D.Disk.fault_count g.L.Link.sent g.L.Link.given g.T.Ticker.coming c.args.words.now g.L.Link.fault_count c.args.server.now c.turn.new.server c.end_turn.new.server c.args.link.now c.turn.new.link c.end_turn.new.link c.args.ticker.now c.turn.new.ticker (held.0 ++ one.turn ∷ []) (c.loop-made.waiting + 1) c.in_ok-left.left
            (omega arith) (turned g.D.Disk.seen g.D.Disk.may_leave g.D.Disk.moment g.D.Disk.left_since g.D.Disk.fault_count g.L.Link.sent g.L.Link.given g.T.Ticker.coming c.args.words.now c.args.server.now c.loop-made.server c.turn.new.server c.args.link.now c.loop-made.link c.turn.new.link c.args.ticker.now c.loop-made.ticker c.turn.new.ticker held.0 c.loop-made.waiting c.loop-made.counts c.turn.new.counts held.2 one c.turn.ensures.file c.turn.ensures.sent) c.in_ok-left.ensures.ended,
        counted_more c.args.words.now held.0 one.turn c.loop-made.counts c.turn.new.counts held.3 one.counted,
      );
      few = few_left g.D.Disk.seen g.D.Disk.may_leave g.D.Disk.moment g.D.Disk.left_since g.D.Disk.fault_count g.L.Link.sent g.L.Link.given g.L.Link.fault_count c.args.words.now.me (c.loop-made.waiting + 1) c.in_ok-left.left c.turn.new.server c.end_turn.new.server c.turn.new.link c.end_turn.new.link c.in_ok-left.ensures.ended;
      ready = c.in_ok-left.ensures.ready;
      later = omega (arith, c.loop-made.invariant.later, c.turn.ensures.later, c.end_turn.ensures.later);
    }

pub returns-in_err-is_quiet-clause-broke : goal.returns-in_err-is_quiet-clause-broke
returns-in_err-is_quiet-clause-broke g c =
    let p = err_from_is_err_and c.from_residual.result c.from_residual.ensures.1 in
    let held = c.loop-made.invariant.made in
    let one = c.in_err-is_quiet.ensures.broke in
    rw (p.1, p.2) (
      held.0,
      one.place,
      omega (arith, held.1, begun_inside one.place one.inside),
      turn_failed g.D.Disk.seen g.D.Disk.may_leave g.D.Disk.moment g.D.Disk.left_since g.D.Disk.fault_count g.L.Link.sent g.L.Link.given g.T.Ticker.coming c.args.words.now (status_of c.in_err-is_quiet.field-0.0) c.args.server.now c.loop-made.server c.turn.new.server c.args.link.now c.loop-made.link c.turn.new.link c.args.ticker.now c.loop-made.ticker c.turn.new.ticker held.0 c.loop-made.waiting held.2 (omega (arith, c.loop-made.invariant.few)) one c.turn.ensures.file c.turn.ensures.sent,
    )

pub returns-in_err-left-clause-broke : goal.returns-in_err-left-clause-broke
returns-in_err-left-clause-broke g c =
    let p = err_from_is_err_and c.from_residual-in_err-left.result c.from_residual-in_err-left.ensures.1 in
    let held = c.loop-made.invariant.made in
    let one = c.in_ok-is_quiet.ensures.made in
    rw (p.1, p.2) (
      held.0 ++ one.turn ∷ [],
      Committing,
      omega (arith, held.1, length-append held.0 (one.turn ∷ [])),
      commit_failed g.D.Disk.seen g.D.Disk.may_leave g.D.Disk.moment g.D.Disk.left_since g.D.Disk.fault_count g.L.Link.sent g.L.Link.given g.T.Ticker.coming c.args.words.now (status_of c.in_err-left.field-0.0) c.args.server.now c.turn.new.server c.end_turn.new.server c.args.link.now c.turn.new.link c.end_turn.new.link c.args.ticker.now c.turn.new.ticker (held.0 ++ one.turn ∷ []) (c.loop-made.waiting + 1)
          (turned g.D.Disk.seen g.D.Disk.may_leave g.D.Disk.moment g.D.Disk.left_since g.D.Disk.fault_count g.L.Link.sent g.L.Link.given g.T.Ticker.coming c.args.words.now c.args.server.now c.loop-made.server c.turn.new.server c.args.link.now c.loop-made.link c.turn.new.link c.args.ticker.now c.loop-made.ticker c.turn.new.ticker held.0 c.loop-made.waiting c.loop-made.counts c.turn.new.counts held.2 one c.turn.ensures.file c.turn.ensures.sent) (omega (arith, c.loop-made.invariant.few)) g.L.Link.fault_count c.in_err-left.ensures.broke,
    )

pub returns-in_err-commit-clause-broke : goal.returns-in_err-commit-clause-broke
returns-in_err-commit-clause-broke g c =
    let p = err_from_is_err_and c.from_residual-in_err-commit.result c.from_residual-in_err-commit.ensures.1 in
    let held = c.loop-made.invariant.made in
    rw (p.1, p.2) (
      held.0,
      Committing,
      omega (arith, held.1),
      commit_failed g.D.Disk.seen g.D.Disk.may_leave g.D.Disk.moment g.D.Disk.left_since g.D.Disk.fault_count g.L.Link.sent g.L.Link.given g.T.Ticker.coming c.args.words.now (status_of c.in_err-commit.field-0.0) c.args.server.now c.loop-made.server c.commit.new.server c.args.link.now c.loop-made.link c.commit.new.link c.args.ticker.now c.loop-made.ticker held.0 c.loop-made.waiting held.2 (omega (arith, c.loop-made.invariant.few)) g.L.Link.fault_count c.in_err-commit.ensures.broke,
    )

pub returns-clause-made : goal.returns-clause-made
returns-clause-made g c =
    let held = c.loop-made.invariant.made in
    (held.0, omega (arith, held.1), finished g.D.Disk.seen g.D.Disk.may_leave g.D.Disk.moment g.D.Disk.left_since g.D.Disk.fault_count g.L.Link.sent g.L.Link.given g.T.Ticker.coming c.args.words.now g.L.Link.fault_count c.args.server.now c.loop-made.server c.commit.new.server c.args.link.now c.loop-made.link c.commit.new.link c.args.ticker.now c.loop-made.ticker held.0 c.loop-made.waiting held.2 c.in_ok-commit.ensures.made, held.3)
