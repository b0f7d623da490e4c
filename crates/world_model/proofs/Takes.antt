-- A step of a peer over stores in memory is the step of its node.
use Rattle.std.proofs.Common.{◌≡◌, ◌↔◌, ℕ, true, false, Option, None, Some, List, [], Result, Ok, Err, inl, inr, refl, ap, subst, sym, ◌∙◌, arith}
use Rattle.std.specs.Prelude.{IsErrOf}
use Rattle.hash_book.specs.Hashing.{Book}
use Rattle.step_plans.specs.Outboxes.{HasNotesAlone, out_of}
use Rattle.step_plans.specs.Steps.{HasFinished, HasStopped}
use Rattle.step_plans.specs.declared.error.PeerError.{PeerError}
use Rattle.step_plans.specs.declared.error.PeerError.TheVariants as errors
use Rattle.step_plans.specs.declared.outbox.Outbox.{Outbox}
use Rattle.world_spec.specs.PeerSpec.{MayCome, step_of, AllMayGo, MaySend, start_of}
use Rattle.world_spec.specs.Held.{Account, account, HeldStores}
use Rattle.world_spec.specs.HeldLaws.{HeldDo, HeldRefuse, IsUnplanned}
use Rattle.peer_state.specs.declared.state.Mode.{Mode}
use Rattle.peer_state.specs.declared.state.State.{State}
use Rattle.step_plans.specs.Calls.{Call, AnswerOf}
use Rattle.step_plans.specs.Plans.{Plan, Out, Finished, Stopped, Runs, nothing}
use Rattle.std.proofs.lemmas.Option.{none-some, same_Some}
use Rattle.std.proofs.lemmas.List.Elements.{All-nil}
use Rattle.peer_state.specs.declared.event.Event.{Event}
use Rattle.world_spec.proofs.Determined.{step_taken, step_stopped, start_taken, start_stopped}
use Rattle.register_model.specs.declared.note.Note.{Note}
use Rattle.world_spec.specs.Nodes.{Node, Up, Down, Taken, taken, hashed_by_start}
use Rattle.world_spec.specs.Steps.{ComesTo, StartsAs}
use Rattle.world_model.specs.MemNodes.{MemPeer, RunsAs, node_by}
use Rattle.world_model.specs.Refusals.{world_error, IsCutOff}
use Rattle.world_model.specs.declared.error.WorldError.{WorldError}
use Rattle.world_model.specs.declared.error.WorldError.TheVariants as worlds
use Rattle.world_model.specs.declared.node.MemNode.{MemNode}
use Rattle.world_model.specs.declared.node.MemNode.TheVariants as memory

-- an error after which the run goes on cut nothing off
planned : (strings : List (List ℕ)) (first now : Account) (e : PeerError) → world_error e ≡ None → IsUnplanned strings first now e → ⊥
planned strings first now errors.Memory goes_on cut = grind (arith, goes_on)
planned strings first now (errors.Clash kept new) goes_on cut = grind (arith, goes_on)
planned strings first now (errors.BookFull kept) goes_on cut = grind (arith, goes_on)
planned strings first now errors.StoreFault goes_on cut = cut
planned strings first now errors.Halted goes_on cut = cut
planned strings first now (errors.BadFact why) goes_on cut = cut

-- an error that ends the run cut it off
cut_off : (strings : List (List ℕ)) (first now : Account) (e : PeerError) (w : WorldError) → world_error e ≡ Some w → IsUnplanned strings first now e → IsCutOff strings first now w
cut_off strings first now errors.Memory w is cut = subst (IsCutOff strings first now) (same_Some worlds.Memory w is) tt
cut_off strings first now (errors.Clash kept new) w is cut = subst (IsCutOff strings first now) (same_Some (worlds.Clash kept new) w is) cut
cut_off strings first now (errors.BookFull kept) w is cut = subst (IsCutOff strings first now) (same_Some (worlds.BookFull kept) w is) cut
cut_off strings first now errors.StoreFault w is cut = absurd cut
cut_off strings first now errors.Halted w is cut = absurd cut
cut_off strings first now (errors.BadFact why) w is cut = absurd cut

-- a store fault ends no run
no_fault : (e : PeerError) (w : WorldError) → e ≡ errors.StoreFault → world_error e ≡ Some w → ⊥
no_fault e w fault is = none-some w (sym (ap world_error fault) ∙ is)

-- a peer that was not halted did not fail as one
pub not_halted : (peer : MemPeer) → peer.halted ≡ false → {T : Type 0} (r : Result T PeerError) → (IsErrOf r errors.Halted ↔ (peer.halted ≡ true)) → IsErrOf r errors.Halted → ⊥
not_halted peer up r halted is = let none : ⊥ = grind (arith, up, halted.0 is) in none

module _ (peer : MemPeer) (event : Event) (come : MayCome peer.me event) (up : peer.halted ≡ false) where
  -- the peer as a node
  abbrev pub running : Node
  running = Up peer.machine.state peer.machine.stores

  module _ (new : MemPeer) (before after : Outbox) (none : HasNotesAlone before) (quiet : before.notes.items ≡ []) {H : Type 0} (strings : H → Option Book) (c d : H → ℕ) (h k : H) where
    -- what is known of the hasher before and after
    abbrev before_it : Account
    before_it = account strings c d h

    abbrev after_it : Account
    after_it = account strings c d k

    -- the step is that of the node, and left this node
    abbrev Left : Node → Type 0
    Left node = ComesTo before_it after_it (taken peer.me event running) node (out_of after) after.notes.items

    abbrev HasDone : Type 0
    HasDone = HasFinished (HeldDo strings c d) (HeldRefuse strings c d) (step_of peer.me event peer.machine.state) (peer.machine.stores, h) before new.machine.state (new.machine.stores, k) after

    abbrev HasFailed : PeerError → Type 0
    HasFailed e = HasStopped (HeldDo strings c d) (HeldRefuse strings c d) (step_of peer.me event peer.machine.state) e (peer.machine.stores, h) before (new.machine.stores, k) after

    -- the outcome is the same with an equal output
    with_out : (node : Node) (out : Out) → ComesTo before_it after_it (taken peer.me event running) node out after.notes.items → out_of after ≡ out → Left node
    with_out node out came same = subst (λ o. ComesTo before_it after_it (taken peer.me event running) node o after.notes.items) (sym same) came

    -- a step that ended well is that of the node
    pub ok_taken : {T : Type 0} (x : T) → (IsErrOf {T = T} (Ok x) errors.Halted ↔ (peer.halted ≡ true)) → ((IsErrOf {T = T} (Ok x) errors.Halted → ⊥) → HasDone) → Left (Up new.machine.state new.machine.stores)
    ok_taken x halted took =
        let did = took (not_halted peer up (Ok x) halted) in
        let ran = rw quiet at did.ran in
        let came = step_taken strings c d peer.me event peer.machine.state (peer.machine.stores, h) (new.machine.stores, k) after.notes.items new.machine.state did.out ran in
        let same : out_of after ≡ did.out = rw did.sends (rw did.answers (rw did.changes (rw none.sends (rw none.answers (rw none.changes refl))))) in
        with_out (Up new.machine.state new.machine.stores) did.out came same

    -- a step that a store stopped is that of a node that is then down
    stopped_taken : (e : PeerError) → world_error e ≡ None → HasFailed e → Left (Down new.machine.stores)
    stopped_taken e goes_on did =
        let ran = rw quiet at did.ran in
        let same : out_of after ≡ nothing = rw did.still (rw none.sends (rw none.answers (rw none.changes refl))) in
        elim (step_stopped strings c d peer.me event peer.machine.state (peer.machine.stores, h) (new.machine.stores, k) after.notes.items e ran) [
          | inl cut ↦ absurd (planned (taken peer.me event running).hashed before_it after_it e goes_on cut)
          | inr is ↦ with_out (Down new.machine.stores) nothing is.1 same
        ]

    pub refused_taken : {T : Type 0} (e : PeerError) → world_error e ≡ None → (IsErrOf {T = T} (Err e) errors.Halted ↔ (peer.halted ≡ true)) → ((IsErrOf {T = T} (Err e) errors.Halted → ⊥) → HasFailed e) → Left (Down new.machine.stores)
    refused_taken {T} e goes_on halted took = stopped_taken e goes_on (took (not_halted peer up {T = T} (Err e) halted))

    stopped_cut : (e : PeerError) (w : WorldError) → world_error e ≡ Some w → HasFailed e → IsCutOff (taken peer.me event running).hashed before_it after_it w
    stopped_cut e w is did =
        let ran = rw quiet at did.ran in
        elim (step_stopped strings c d peer.me event peer.machine.state (peer.machine.stores, h) (new.machine.stores, k) after.notes.items e ran) [
          | inl cut ↦ cut_off (taken peer.me event running).hashed before_it after_it e w is cut
          | inr fault ↦ absurd (no_fault e w fault.0 is)
        ]

    -- a step that ends the run was cut off
    pub refused_cut : {T : Type 0} (e : PeerError) (w : WorldError) → world_error e ≡ Some w → (IsErrOf {T = T} (Err e) errors.Halted ↔ (peer.halted ≡ true)) → ((IsErrOf {T = T} (Err e) errors.Halted → ⊥) → HasFailed e)
        → IsCutOff (taken peer.me event running).hashed before_it after_it w
    refused_cut {T} e w is halted took = stopped_cut e w is (took (not_halted peer up {T = T} (Err e) halted))

module _ {H : Type 0} (strings : H → Option Book) (c d : H → ℕ) (mode : Mode) (view : List ℕ) (node : MemNode) (s : HeldStores) (h k : H) (down : node ≡ memory.Down s) where
  -- a start that ended well is that of the node
  pub start_ok : (state : State) (t : HeldStores) → Runs (HeldDo strings c d) (HeldRefuse strings c d) (start_of mode view) (s, h) [] (Finished state nothing) (t, k) []
      → StartsAs (account strings c d h) (account strings c d k) mode view (node_by node) (Up state t)
  start_ok state t ran = rw down (start_taken strings c d mode view (s, h) (t, k) [] state nothing ran)

  -- a start that a store refused leaves the node down
  pub start_refused : (e : PeerError) (t : HeldStores) → world_error e ≡ None → Runs (HeldDo strings c d) (HeldRefuse strings c d) (start_of mode view) (s, h) [] (Stopped e) (t, k) []
      → StartsAs (account strings c d h) (account strings c d k) mode view (node_by node) (Down t)
  start_refused e t goes_on ran = elim (start_stopped strings c d mode view (s, h) (t, k) [] e ran) [
    | inl cut ↦ absurd (planned (hashed_by_start mode view (Down s)) (account strings c d h) (account strings c d k) e goes_on cut)
    | inr is ↦ rw down is.1
  ]

  -- a start that ends the run was cut off
  pub start_cut : (e : PeerError) (t : HeldStores) (w : WorldError) → world_error e ≡ Some w → Runs (HeldDo strings c d) (HeldRefuse strings c d) (start_of mode view) (s, h) [] (Stopped e) (t, k) []
      → IsCutOff (hashed_by_start mode view (node_by node)) (account strings c d h) (account strings c d k) w
  start_cut e t w is ran = elim (start_stopped strings c d mode view (s, h) (t, k) [] e ran) [
    | inl cut ↦ rw down (cut_off (hashed_by_start mode view (Down s)) (account strings c d h) (account strings c d k) e w is cut)
    | inr fault ↦ absurd (no_fault e w fault.0 is)
  ]

-- ## A peer in its world

module _ (me : ℕ) (event : Event) (node : MemNode) (peer : MemPeer) (here : node ≡ memory.Up peer) (own : RunsAs me node) where
  pub awake : peer.halted ≡ false
  awake = (own peer here).1

  pub named : peer.me ≡ me
  named = (own peer here).0

  pub comes_here : MayCome me event → MayCome peer.me event
  comes_here come = subst (λ (m : ℕ). MayCome m event) (sym named) come

  taken_here : taken peer.me event (Up peer.machine.state peer.machine.stores) ≡ taken me event (node_by node)
  taken_here = ap (taken peer.me event) (ap node_by (sym here)) ∙ ap (λ (m : ℕ). taken m event (node_by node)) named

  -- a step of the peer is the step of its node
  pub up_taken : (first now : Account) (left : Node) (out : Out) (notes : List Note) → ComesTo first now (taken peer.me event (Up peer.machine.state peer.machine.stores)) left out notes → ComesTo first now (taken me event (node_by node)) left out notes
  up_taken first now left out notes came = subst (λ (due : Taken). ComesTo first now due left out notes) taken_here came

  -- the same of a step after which the peer was stopped
  pub fallen_taken : (first now : Account) (left : MemNode) (s : HeldStores) (out : Out) (notes : List Note) → left ≡ memory.Down s → ComesTo first now (taken peer.me event (Up peer.machine.state peer.machine.stores)) (Down s) out notes
      → ComesTo first now (taken me event (node_by node)) (node_by left) out notes
  fallen_taken first now left s out notes is came = rw is (up_taken first now (Down s) out notes came)

  pub up_cut : (first now : Account) (w : WorldError) → IsCutOff (taken peer.me event (Up peer.machine.state peer.machine.stores)).hashed first now w → IsCutOff (taken me event (node_by node)).hashed first now w
  up_cut first now w cut = subst (λ (due : Taken). IsCutOff due.hashed first now w) taken_here cut

-- an outbox with notes alone sends nothing, so what it sends may go
pub none_goes : (me : ℕ) (o : Outbox) → HasNotesAlone o → AllMayGo me (out_of o)
none_goes me o none = rw none.sends (All-nil (MaySend me))

-- what one peer may send, the same peer may send
pub goes_as : (p q : ℕ) (o : Outbox) → p ≡ q → AllMayGo p (out_of o) → AllMayGo q (out_of o)
goes_as p q o same may = subst (λ (m : ℕ). AllMayGo m (out_of o)) same may

-- a step that was refused sends nothing
pub refused_may_go : {T A P : Type 0} {does : P → (call : Call) → AnswerOf call → P → Type 0} {refuses : P → Call → PeerError → P → Type 0} {plan : Plan A} {s t : P} (peer : MemPeer) (me : ℕ) (e : PeerError) (before after : Outbox) → peer.halted ≡ false → HasNotesAlone before
    → (IsErrOf {T = T} (Err e) errors.Halted ↔ (peer.halted ≡ true)) → ((IsErrOf {T = T} (Err e) errors.Halted → ⊥) → HasStopped does refuses plan e s before t after) → AllMayGo me (out_of after)
refused_may_go {T} peer me e before after up none halted took = subst (AllMayGo me) (sym (took (not_halted peer up {T = T} (Err e) halted)).still) (none_goes me before none)
