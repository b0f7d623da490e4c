use Rattle.std.proofs.Common.{◌∷◌, [], refl, subst, sym, List, ℕ, None, Some}
use Rattle.ens_base.specs.Causes.{Rose}
use Rattle.peer_turns.specs.Going.{Grew}
use Rattle.peer_server.proofs.Reading.{counts_later, counts_rose, look_broke, looked_once, memory_only, read_broke, read_found}
use Rattle.peer_server.proofs.turns.find.Goals as goal
use Rattle.peer_turns.proofs.Prefixes.{stays_grew}

pub returns-in-Ok-None : goal.returns-in-Ok-None
returns-in-Ok-None g c = record {
  found = (None, looked_once (g.L.Link.given c.args.link.now) (g.L.Link.given c.receive.new.self) c.in-Ok-None.field-0 None c.in-Ok-None.field-0-is c.in-Ok-None.ensures.given, refl);
  broke = tt;
  sent = stays_grew (g.L.Link.sent c.args.link.now) (g.L.Link.sent c.receive.new.self) c.in-Ok-None.ensures.sent;
  later = c.in-Ok-None.ensures.counts;
  fault = tt;
}

pub returns-in-Err : goal.returns-in-Err
returns-in-Err g c = record {
  found = tt;
  broke = look_broke (g.L.Link.given c.args.link.now) (g.L.Link.given c.receive.new.self) c.in-Err.e c.link_error.result c.link_error.ensures c.in-Err.ensures.given;
  sent = stays_grew (g.L.Link.sent c.args.link.now) (g.L.Link.sent c.receive.new.self) c.in-Err.ensures.sent;
  later = counts_later (g.L.Link.fault_count c.args.link.now) (g.L.Link.fault_count c.receive.new.self) c.in-Err.e c.in-Err.ensures.counts;
  fault = counts_rose (g.L.Link.fault_count c.args.link.now) (g.L.Link.fault_count c.receive.new.self) c.in-Err.e c.link_error.result c.link_error.ensures c.in-Err.ensures.counts;
}

pub returns : goal.returns
returns g c = record {
  found = read_found (g.L.Link.given c.args.link.now) (g.L.Link.given c.receive.new.self) c.args.words.now (Some c.deref.result.now) c.read.result (subst (λ (bytes : List ℕ). Grew (g.L.Link.given c.args.link.now) (g.L.Link.given c.receive.new.self) (Some bytes ∷ [])) (sym c.deref.ensures.value) (looked_once (g.L.Link.given c.args.link.now) (g.L.Link.given c.receive.new.self) c.in-Ok-Some.field-0 (Some c.in-Ok-Some.bytes) c.in-Ok-Some.field-0-is c.in-Ok-Some.ensures.given)) c.read.ensures.found;
  broke = read_broke (g.L.Link.given c.args.link.now) (g.L.Link.given c.receive.new.self) (Some c.deref.result.now) c.read.result (subst (λ (bytes : List ℕ). Grew (g.L.Link.given c.args.link.now) (g.L.Link.given c.receive.new.self) (Some bytes ∷ [])) (sym c.deref.ensures.value) (looked_once (g.L.Link.given c.args.link.now) (g.L.Link.given c.receive.new.self) c.in-Ok-Some.field-0 (Some c.in-Ok-Some.bytes) c.in-Ok-Some.field-0-is c.in-Ok-Some.ensures.given)) c.read.ensures.memory;
  sent = stays_grew (g.L.Link.sent c.args.link.now) (g.L.Link.sent c.receive.new.self) c.in-Ok-Some.ensures.sent;
  later = c.in-Ok-Some.ensures.counts;
  fault = memory_only c.read.result (Rose (g.L.Link.fault_count c.args.link.now) (g.L.Link.fault_count c.receive.new.self)) c.read.ensures.memory;
}
