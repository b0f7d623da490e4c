use Rattle.std.specs.Prelude.{is_err, OnOk, OnErr}
use Rattle.std.proofs.Common.{◌≡◌, Bool, false, true, Result, Ok, Err, sym, ◌∙◌}
use Rattle.std.proofs.lemmas.Bool.{true≢false}
use Rattle.peer_stores.specs.Stores.{stores_do, stores_refuse}
use Rattle.peer_core.proofs.Damage.{stores_sound}
use Rattle.peer_core.proofs.Halts.{causes, only, not_halted}
use Rattle.peer_spec.proofs.Ends.{on_ok}
use Rattle.peer_spec.proofs.Passing.{all_may_go, still_own}
use Rattle.peer_core.proofs.peer.Peer.step.Goals as goal

runs_on : {A E : Type 0} (r : Result A E) (halted : Bool) → halted ≡ is_err r → OnOk r (halted ≡ false)
runs_on (Ok u) halted is = is
runs_on (Err e) halted is = tt

is_halted : {A E : Type 0} (r : Result A E) (halted : Bool) → halted ≡ is_err r → OnErr r (halted ≡ true)
is_halted (Ok u) halted is = tt
is_halted (Err e) halted is = is

pub returns-clause-goes_on : goal.returns-clause-goes_on
returns-clause-goes_on g c = runs_on c.step-result.result c.is_err-self.result c.is_err-self.ensures.value

pub returns-clause-halts : goal.returns-clause-halts
returns-clause-halts g c = is_halted c.step-result.result c.is_err-self.result c.is_err-self.ensures.value

pub returns-clause-causes : goal.returns-clause-causes
returns-clause-causes g c = λ taken. causes c.args.self.now.me c.args.self.now.is_peer c.args.event c.requires c.args.self.now.machine.state (c.args.self.now.young c.if-self.false)
    g.B.Backend.may_answer g.B.Backend.may_refuse g.B.Backend.fault_count g.N.NodeStore.may_answer g.N.NodeStore.may_refuse g.N.NodeStore.top_record g.N.NodeStore.fault_count g.F.FactKeeper.may_answer g.F.FactKeeper.may_refuse g.F.FactKeeper.kept g.F.FactKeeper.fault_count g.H.Hasher16.kept g.H.Hasher16.clashes g.H.Hasher16.fulls (c.args.self.now.machine.stores, c.args.hasher.now) (c.step-result.new.self.stores, c.step-result.new.hasher) c.step-result.new.self.state c.args.out.now c.step-result.new.out c.step-result.result c.step-result.ensures.steps

pub returns-clause-halted : goal.returns-clause-halted
returns-clause-halted g c = (
  λ is. absurd (not_halted c.args.self.now.me c.args.self.now.is_peer c.args.event c.requires c.args.self.now.machine.state (c.args.self.now.young c.if-self.false)
      g.B.Backend.may_answer g.B.Backend.may_refuse g.B.Backend.fault_count g.N.NodeStore.may_answer g.N.NodeStore.may_refuse g.N.NodeStore.top_record g.N.NodeStore.fault_count g.F.FactKeeper.may_answer g.F.FactKeeper.may_refuse g.F.FactKeeper.kept g.F.FactKeeper.fault_count g.H.Hasher16.kept g.H.Hasher16.clashes g.H.Hasher16.fulls (c.args.self.now.machine.stores, c.args.hasher.now) (c.step-result.new.self.stores, c.step-result.new.hasher) c.step-result.new.self.state c.args.out.now c.step-result.new.out c.step-result.result c.step-result.ensures.steps is),
  λ halted. absurd (true≢false (sym halted ∙ c.if-self.false)),
)

pub returns-clause-still : goal.returns-clause-still
returns-clause-still g c = λ is. absurd (not_halted c.args.self.now.me c.args.self.now.is_peer c.args.event c.requires c.args.self.now.machine.state (c.args.self.now.young c.if-self.false)
    g.B.Backend.may_answer g.B.Backend.may_refuse g.B.Backend.fault_count g.N.NodeStore.may_answer g.N.NodeStore.may_refuse g.N.NodeStore.top_record g.N.NodeStore.fault_count g.F.FactKeeper.may_answer g.F.FactKeeper.may_refuse g.F.FactKeeper.kept g.F.FactKeeper.fault_count g.H.Hasher16.kept g.H.Hasher16.clashes g.H.Hasher16.fulls (c.args.self.now.machine.stores, c.args.hasher.now) (c.step-result.new.self.stores, c.step-result.new.hasher) c.step-result.new.self.state c.args.out.now c.step-result.new.out c.step-result.result c.step-result.ensures.steps is)

pub returns-clause-only : goal.returns-clause-only
returns-clause-only g c = only c.args.self.now.me c.args.self.now.is_peer c.args.event c.requires c.args.self.now.machine.state (c.args.self.now.young c.if-self.false)
    g.B.Backend.may_answer g.B.Backend.may_refuse g.B.Backend.fault_count g.N.NodeStore.may_answer g.N.NodeStore.may_refuse g.N.NodeStore.top_record g.N.NodeStore.fault_count g.F.FactKeeper.may_answer g.F.FactKeeper.may_refuse g.F.FactKeeper.kept g.F.FactKeeper.fault_count g.H.Hasher16.kept g.H.Hasher16.clashes g.H.Hasher16.fulls (c.args.self.now.machine.stores, c.args.hasher.now) (c.step-result.new.self.stores, c.step-result.new.hasher) c.step-result.new.self.state c.args.out.now c.step-result.new.out c.step-result.result c.step-result.ensures.steps

pub returns-clause-may_go : goal.returns-clause-may_go
returns-clause-may_go g c = all_may_go
    (stores_do g.B.Backend.may_answer g.B.Backend.fault_count g.N.NodeStore.may_answer g.N.NodeStore.top_record g.N.NodeStore.fault_count g.F.FactKeeper.may_answer g.F.FactKeeper.kept g.F.FactKeeper.fault_count g.H.Hasher16.kept g.H.Hasher16.clashes g.H.Hasher16.fulls)
    (stores_refuse g.B.Backend.may_refuse g.B.Backend.fault_count g.N.NodeStore.may_answer g.N.NodeStore.may_refuse g.N.NodeStore.top_record g.N.NodeStore.fault_count g.F.FactKeeper.may_refuse g.F.FactKeeper.kept g.F.FactKeeper.fault_count g.H.Hasher16.kept g.H.Hasher16.clashes g.H.Hasher16.fulls)
    (stores_sound g.B.Backend.may_answer g.B.Backend.fault_count g.N.NodeStore.may_answer g.N.NodeStore.top_record g.N.NodeStore.fault_count g.F.FactKeeper.may_answer g.F.FactKeeper.kept g.F.FactKeeper.fault_count g.H.Hasher16.kept g.H.Hasher16.clashes g.H.Hasher16.fulls)
    c.args.self.now.me c.args.event c.args.self.now.machine.state c.args.self.now.is_peer c.requires (c.args.self.now.own c.if-self.false)
    (c.args.self.now.machine.stores, c.args.hasher.now) (c.step-result.new.self.stores, c.step-result.new.hasher) c.step-result.new.self.state c.args.out.now c.step-result.new.out c.step-result.result c.step-result.ensures.steps

pub invariant_of-self : goal.invariant_of-self
invariant_of-self g c =
    let well : c.is_err-self.result ≡ false → is_err c.step-result.result ≡ false = λ on. sym c.is_err-self.ensures.value ∙ on in
    record {
      is_peer = c.args.self.now.is_peer;
      young = λ on. on_ok c.step-result.result c.step-result.ensures.young (well on);
      steady = λ on. on_ok c.step-result.result c.step-result.ensures.steady (well on);
      own = λ on. on_ok c.step-result.result (still_own
          (stores_do g.B.Backend.may_answer g.B.Backend.fault_count g.N.NodeStore.may_answer g.N.NodeStore.top_record g.N.NodeStore.fault_count g.F.FactKeeper.may_answer g.F.FactKeeper.kept g.F.FactKeeper.fault_count g.H.Hasher16.kept g.H.Hasher16.clashes g.H.Hasher16.fulls)
          (stores_refuse g.B.Backend.may_refuse g.B.Backend.fault_count g.N.NodeStore.may_answer g.N.NodeStore.may_refuse g.N.NodeStore.top_record g.N.NodeStore.fault_count g.F.FactKeeper.may_refuse g.F.FactKeeper.kept g.F.FactKeeper.fault_count g.H.Hasher16.kept g.H.Hasher16.clashes g.H.Hasher16.fulls)
          (stores_sound g.B.Backend.may_answer g.B.Backend.fault_count g.N.NodeStore.may_answer g.N.NodeStore.top_record g.N.NodeStore.fault_count g.F.FactKeeper.may_answer g.F.FactKeeper.kept g.F.FactKeeper.fault_count g.H.Hasher16.kept g.H.Hasher16.clashes g.H.Hasher16.fulls)
          c.args.self.now.me c.args.event c.args.self.now.machine.state c.args.self.now.is_peer c.requires (c.args.self.now.own c.if-self.false)
          (c.args.self.now.machine.stores, c.args.hasher.now) (c.step-result.new.self.stores, c.step-result.new.hasher) c.step-result.new.self.state c.args.out.now c.step-result.new.out c.step-result.result c.step-result.ensures.steps) (well on);
    }
