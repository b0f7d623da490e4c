-- Plans whose output comes after what was in the outbox before.
use Rattle.std.proofs.Common.{◌≡◌, List, [], ◌∷◌, ◌++◌, refl, ap, inl, inr, arith}
use Rattle.std.proofs.lemmas.List.{append-nil}
use Rattle.leader_output.specs.RegisterModel.{Note}
use Rattle.step_plans.specs.Calls.{Call, AnswerOf}
use Rattle.step_plans.specs.Plans.{Plan, Done, Say, Ask, Out, nothing, Finished, Stopped, Runs}
use Rattle.step_plans.specs.declared.error.PeerError.{PeerError}

-- the first output, and the second after it
abbrev pub added : Out → Out → Out
added a o = record { sends = a.sends ++ o.sends; answers = a.answers ++ o.answers; changes = a.changes ++ o.changes }

-- the plan with this output before its own
abbrev pub framed : {X : Type 0} → Out → Plan X → Plan X
framed a (Done x out) = Done x (added a out)
framed a (Say n p) = Say n (framed a p)
framed a (Ask c next) = Ask c (λ r. framed a (next r))

pub added_nothing : (a : Out) → added a nothing ≡ a
added_nothing a = rw (append-nil a.sends) (rw (append-nil a.answers) (rw (append-nil a.changes) refl))

module _ {X P : Type 0} (does : P → (call : Call) → AnswerOf call → P → Type 0) (refuses : P → Call → PeerError → P → Type 0) (a : Out) where
  same_state : (x y : X) (out o : Out) → Finished x out ≡ Finished y o → x ≡ y
  same_state x y out o same = grind (arith, same)

  same_out : (x y : X) (out o : Out) → Finished x out ≡ Finished y o → out ≡ o
  same_out x y out o same = grind (arith, same)

  -- the plan ended well, with this output before its own
  pub finished_framed : (p : Plan X) (s : P) (ns : List Note) (x : X) (out : Out) (t : P) (ms : List Note) → Runs does refuses (framed a p) s ns (Finished x out) t ms
      → (o : Out) × (out ≡ added a o) × Runs does refuses p s ns (Finished x o) t ms
  finished_framed (Done y o) s ns x out t ms ran = elim ran [
    | inl cut ↦ let none : ⊥ = grind (arith, cut.0) in absurd none
    | inr end ↦ (o, same_out x y out (added a o) end.0, inr (ap (λ k. Finished k o) (same_state x y out (added a o) end.0), end.1, end.2))
  ]
  finished_framed (Say n p) s ns x out t ms ran = elim ran [
    | inl cut ↦ let none : ⊥ = grind (arith, cut.0) in absurd none
    | inr on ↦ let rest = finished_framed p s (ns ++ n ∷ []) x out t ms on in (rest.0, rest.1, inr rest.2)
  ]
  finished_framed (Ask c next) s ns x out t ms ran = elim ran [
    | inl cut ↦ let none : ⊥ = grind (arith, cut.0) in absurd none
    | inr (inl off) ↦ let none : ⊥ = grind (arith, off.2) in absurd none
    | inr (inr on) ↦ let rest = finished_framed (next on.0) on.1 ns x out t ms on.3 in (rest.0, rest.1, inr (inr (on.0, on.1, on.2, rest.2)))
  ]

  -- the plan stopped: what was put out before makes no difference
  pub stopped_framed : (p : Plan X) (s : P) (ns : List Note) (e : PeerError) (t : P) (ms : List Note) → Runs does refuses (framed a p) s ns (Stopped e) t ms → Runs does refuses p s ns (Stopped e) t ms
  stopped_framed (Done y o) s ns e t ms ran = elim ran [
    | inl cut ↦ inl cut
    | inr end ↦ let none : ⊥ = grind (arith, end.0) in absurd none
  ]
  stopped_framed (Say n p) s ns e t ms ran = elim ran [
    | inl cut ↦ inl cut
    | inr on ↦ inr (stopped_framed p s (ns ++ n ∷ []) e t ms on)
  ]
  stopped_framed (Ask c next) s ns e t ms ran = elim ran [
    | inl cut ↦ inl cut
    | inr (inl off) ↦ inr (inl off)
    | inr (inr on) ↦ inr (inr (on.0, on.1, on.2, stopped_framed (next on.0) on.1 ns e t ms on.3))
  ]
