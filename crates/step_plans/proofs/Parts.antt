-- Parts of a step, one after another.
use Rattle.std.proofs.Common.{List, [], ◌∷◌, ◌++◌, Result, Ok, Err, refl, inl, inr}
use Rattle.std.proofs.lemmas.List.{append_assoc, append-nil}
use Rattle.leader_output.specs.RegisterModel.{Note}
use Rattle.step_plans.specs.Calls.{Call, AnswerOf, Answers}
use Rattle.step_plans.specs.Plans.{Plan, Done, Say, Ask, Out, Rest, Part, Spot, Ending, Stopped, Runs, Did, asked, noted}
use Rattle.step_plans.specs.declared.error.PeerError.{PeerError}
use Rattle.step_plans.specs.declared.error.PeerError.TheVariants.{Memory}

module _ {X P : Type 0} (does : P → (call : Call) → AnswerOf call → P → Type 0) (refuses : P → Call → PeerError → P → Type 0) where
  -- each plan may be cut at once
  pub cut : (p : Plan X) (s : P) (ns : List Note) → Runs does refuses p s ns (Stopped Memory) s ns
  cut (Done x out) s ns = inl (refl, refl, refl)
  cut (Say n p) s ns = inl (refl, refl, refl)
  cut (Ask c next) s ns = inl (refl, refl, refl)

  -- a call that the stores answered or refused is a part of a step
  pub asked_did : (call : Call) (x : X) (out : Out) (s t : P) (ns : List Note) (r : Result (AnswerOf call) PeerError) → Answers does refuses s call r t
      → Did does refuses (asked call) (record { state = x; out = out; stores = s; notes = ns }) r (record { state = x; out = out; stores = t; notes = ns })
  unfolding asked
  asked_did call x out s t ns (Ok a) did = λ next e end ls h. inr (inr (a, t, did, h))
  asked_did call x out s t ns (Err e) off = λ next. inr (inl (e, off, refl, refl))

  -- making notes together is the same as making them one by one
  pub noted_runs : (notes : List Note) (p : Plan X) (s : P) (ns : List Note) (e : Ending X) (t : P) (ms : List Note)
      → Runs does refuses p s (ns ++ notes) e t ms → Runs does refuses (noted notes p) s ns e t ms
  noted_runs [] p s ns e t ms ran = rw (← append-nil ns) ran
  noted_runs (n ∷ notes) p s ns e t ms ran = inr (noted_runs notes p s (ns ++ n ∷ []) e t ms (rw (append_assoc ns (n ∷ []) notes) ran))

  -- if plan q goes on from the point that p reached, then what q did, p did
  pub did_after : {A : Type 0} (p q : Part X A) (a b c : Spot X P) (r : Result A PeerError)
      → ((next : Rest X A) (e : Ending X) (end : P) (ls : List Note) → Runs does refuses (q b.state b.out next) b.stores b.notes e end ls → Runs does refuses (p a.state a.out next) a.stores a.notes e end ls)
      → Did does refuses q b r c → Did does refuses p a r c
  did_after p q a b c (Ok v) step did = λ next e end ls h. step next e end ls (did next e end ls h)
  did_after p q a b c (Err error) step did = λ next. step next (Stopped error) c.stores c.notes (did next)
