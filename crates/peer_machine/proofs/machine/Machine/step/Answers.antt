use Rattle.std.proofs.Common.{ap, arith, length}
use Rattle.peer_machine.specs.Outcomes.{spot}
use Rattle.peer_spec.proofs.Framed.{has_finished, has_stopped}
use Rattle.peer_spec.proofs.FreeRows.{one_sent}
use Rattle.peer_spec.proofs.Closing.{ended_young, ended_steady}
use Rattle.peer_machine.proofs.machine.Machine.step.Goals as goal

pub returns-in-Ok-clause-steps : goal.returns-in-Ok-clause-steps
returns-in-Ok-clause-steps g c =
    has_finished g.S.Store.does g.S.Store.refuses c.args.me c.args.event.now c.args.self.now.state c.whole.new.self.state (c.args.self.now.stores, c.args.hasher.now) (c.whole.new.self.stores, c.whole.new.hasher) c.args.out.now c.whole.new.out c.in-Ok.ensures.acts

pub returns-in-Ok-clause-young : goal.returns-in-Ok-clause-young
returns-in-Ok-clause-young g c =
    let done = has_finished g.S.Store.does g.S.Store.refuses c.args.me c.args.event.now c.args.self.now.state c.whole.new.self.state (c.args.self.now.stores, c.args.hasher.now) (c.whole.new.self.stores, c.whole.new.hasher) c.args.out.now c.whole.new.out c.in-Ok.ensures.acts in
    ended_young c.args.me c.requires.me c.args.event.now c.requires.come c.args.self.now.state c.requires.young g.S.Store.does g.S.Store.refuses _ _ _ _ _ _ done.ran

pub returns-in-Ok-clause-steady : goal.returns-in-Ok-clause-steady
returns-in-Ok-clause-steady g c =
    let done = has_finished g.S.Store.does g.S.Store.refuses c.args.me c.args.event.now c.args.self.now.state c.whole.new.self.state (c.args.self.now.stores, c.args.hasher.now) (c.whole.new.self.stores, c.whole.new.hasher) c.args.out.now c.whole.new.out c.in-Ok.ensures.acts in
    ended_steady c.args.me c.requires.me c.args.event.now c.requires.come c.args.self.now.state c.requires.young g.S.Store.does g.S.Store.refuses _ _ _ _ _ _ done.ran

pub returns-in-Ok-clause-one : goal.returns-in-Ok-clause-one
returns-in-Ok-clause-one g c = λ is.
    let done = has_finished g.S.Store.does g.S.Store.refuses c.args.me c.args.event.now c.args.self.now.state c.whole.new.self.state (c.args.self.now.stores, c.args.hasher.now) (c.whole.new.self.stores, c.whole.new.hasher) c.args.out.now c.whole.new.out c.in-Ok.ensures.acts in
    one_sent g.S.Store.does g.S.Store.refuses c.args.me c.args.event.now (spot c.args.self.now c.args.hasher.now c.args.out.now) (spot c.whole.new.self c.whole.new.hasher c.whole.new.out) c.args.out.now c.whole.new.out c.whole.new.self.state (c.whole.new.self.stores, c.whole.new.hasher) done c.requires.come is c.requires.steady

pub returns-in-Ok-clause-room : goal.returns-in-Ok-clause-room
returns-in-Ok-clause-room g c = c.whole.ensures.grows.capacity

pub returns-in-Err-clause-steps : goal.returns-in-Err-clause-steps
returns-in-Err-clause-steps g c = record {
  ran = rw c.cut_back.ensures.notes (has_stopped g.S.Store.does g.S.Store.refuses c.args.me c.args.event.now c.args.self.now.state c.whole.new.self.state (c.args.self.now.stores, c.args.hasher.now) (c.whole.new.self.stores, c.whole.new.hasher) c.args.out.now c.whole.new.out c.in-Err.error c.in-Err.ensures.acts);
  still = c.cut_back.ensures.back c.args.out.now c.mark-mark.ensures c.whole.ensures.grows;
}

pub returns-in-Err-clause-one : goal.returns-in-Err-clause-one
returns-in-Err-clause-one g c = λ is. let back = ap (λ k. length k.sends) (c.cut_back.ensures.back c.args.out.now c.mark-mark.ensures c.whole.ensures.grows) in omega (arith, back)

pub returns-in-Err-clause-room : goal.returns-in-Err-clause-room
returns-in-Err-clause-room g c = omega (arith, c.cut_back.ensures.room, c.whole.ensures.grows.capacity)
