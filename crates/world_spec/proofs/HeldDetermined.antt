-- A plan over stores in memory has one run.
use Rattle.std.proofs.Common.{◌≡◌, ◌⊎◌, ℕ, List, [], ◌∷◌, ◌++◌, Option, Result, Ok, Err, refl, sym, subst, inl, inr}
use Rattle.hash_book.specs.Hashing.{Book}
use Rattle.register_model.specs.declared.note.Note.{Note}
use Rattle.step_plans.specs.Calls.{Call, AnswerOf}
use Rattle.step_plans.specs.Plans.{Plan, Done, Say, Ask, Ending, Stopped, Runs}
use Rattle.step_plans.specs.declared.error.PeerError.{PeerError}
use Rattle.step_plans.specs.declared.error.PeerError.TheVariants as errors
use Rattle.world_spec.specs.Answers.{answered}
use Rattle.world_spec.specs.Held.{HeldStores, Held, Account, account, HasHashed, StartsWith}
use Rattle.world_spec.specs.HeldLaws.{HeldDo, HeldRefuse, IsUnplanned, IsCutOff, IsRun, held_with, strings_by}
use Rattle.world_spec.specs.HeldRuns.{Ended, run, either}
use Rattle.world_spec.proofs.Answering.{Came_to, IsRefused, did_answer, was_refused, answered_grows}
use Rattle.world_spec.proofs.Taken.{starts_here, starts_later, unplanned_further}

-- the run of a plan hashes strings after those hashed before
run_grows : {X : Type 0} (p : Plan X) (h : Held) (ns : List Note) → StartsWith h.hashed (run p h ns).held.hashed
run_grows (Done x out) h ns = starts_here h.hashed
run_grows (Say n p) h ns = run_grows p h (ns ++ n ∷ [])
run_grows (Ask call next) h ns =
    starts_later h.hashed (answered call h).held.hashed (run (Ask call next) h ns).held.hashed (answered_grows call h) (by_answer (answered call h).result (λ a. run_grows (next a) (answered call h).held ns))
  where
    by_answer : (r : Result (AnswerOf call) PeerError) → ((a : AnswerOf call) → StartsWith (answered call h).held.hashed (run (next a) (answered call h).held ns).held.hashed)
        → StartsWith (answered call h).held.hashed (either r (λ a. run (next a) (answered call h).held ns) (λ error. record { ending = Stopped error; held = (answered call h).held; notes = ns })).held.hashed
    by_answer (Ok a) goes = goes a
    by_answer (Err error) goes = starts_here (answered call h).held.hashed

-- the strings of a run, after the call that it begins with
asked_grows : {X : Type 0} (call : Call) (next : AnswerOf call → Plan X) (h : Held) (ns : List Note) → StartsWith (answered call h).held.hashed (run (Ask call next) h ns).held.hashed
asked_grows call next h ns = by_answer (answered call h).result where
  by_answer : (r : Result (AnswerOf call) PeerError)
      → StartsWith (answered call h).held.hashed (either r (λ a. run (next a) (answered call h).held ns) (λ error. record { ending = Stopped error; held = (answered call h).held; notes = ns })).held.hashed
  by_answer (Ok a) = run_grows (next a) (answered call h).held ns
  by_answer (Err error) = starts_here (answered call h).held.hashed

module _ {X H : Type 0} where
  module _ (strings : H → Option Book) (c d : H → ℕ) (first : Account) where
    -- the run of the plan, unless it was cut off
    abbrev Ran : Plan X → HeldStores × H → List (List ℕ) → List Note → Ending X → HeldStores × H → List Note → Type 0
    Ran p s hashed ns e t ms = IsCutOff (strings_by p s.0 hashed ns) first (account strings c d t.1) e ⊎ IsRun (account strings c d) first p s hashed ns e t ms

    cut_off : (whole : List (List ℕ)) (now : Account) (e : Ending X) → e ≡ Stopped errors.Memory → IsCutOff whole first now e
    cut_off whole now e is = rw is tt

    off : (whole : List (List ℕ)) (now : Account) (e : Ending X) (error : PeerError) → e ≡ Stopped error → IsUnplanned whole first now error → IsCutOff whole first now e
    off whole now e error is unplanned = rw is unplanned

    -- a call that came to its answer goes on
    goes : (call : Call) (next : AnswerOf call → Plan X) (s m t : HeldStores × H) (hashed : List (List ℕ)) (ns ms : List Note) (e : Ending X) (a : AnswerOf call) (came : Came_to strings c d first call s hashed (Ok a) m)
        → Ran (next a) m came.now ns e t ms → Ran (Ask call next) s hashed ns e t ms
    goes call next s m t hashed ns ms e a came (inl cut) =
        let went : run (Ask call next) (held_with s.0 hashed) ns ≡ run (next a) (held_with m.0 came.now) ns = rw came.is refl in
        inl (subst (λ (k : Ended X). IsCutOff k.held.hashed first (account strings c d t.1) e) (sym went) cut)
    goes call next s m t hashed ns ms e a came (inr rest) = inr (record { hashed_now = rest.hashed_now; is = rw came.is rest.is; has = rest.has; planned = rest.planned })

    -- a call that was refused ends the run
    stops : (call : Call) (next : AnswerOf call → Plan X) (s t : HeldStores × H) (hashed : List (List ℕ)) (ns ms : List Note) (e : Ending X) (error : PeerError) → e ≡ Stopped error → ms ≡ ns
        → IsRefused strings c d first call s hashed error t → Ran (Ask call next) s hashed ns e t ms
    stops call next s t hashed ns ms e error is same (inl unplanned) =
        inl (off (strings_by (Ask call next) s.0 hashed ns) (account strings c d t.1) e error is
        (unplanned_further (answered call (held_with s.0 hashed)).held.hashed (strings_by (Ask call next) s.0 hashed ns) first (account strings c d t.1) error (asked_grows call next (held_with s.0 hashed) ns) unplanned))
    stops call next s t hashed ns ms e error is same (inr came) = inr (rw is (rw same (record { hashed_now = came.1.now; is = rw came.1.is refl; has = came.1.has; planned = came.0 })))

    ran : (p : Plan X) (s t : HeldStores × H) (hashed : List (List ℕ)) (ns ms : List Note) (e : Ending X)
        → HasHashed hashed first (account strings c d s.1) → Runs (HeldDo strings c d) (HeldRefuse strings c d) p s ns e t ms → Ran p s hashed ns e t ms
    ran (Done x out) s t hashed ns ms e taken runs = elim runs [
      | inl cut ↦ inl (cut_off (strings_by (Done x out) s.0 hashed ns) (account strings c d t.1) e cut.0)
      | inr end ↦ inr (rw end.0 (rw end.1 (rw end.2 (record { hashed_now = hashed; is = refl; has = taken; planned = tt }))))
    ]
    ran (Say n p) s t hashed ns ms e taken runs = elim runs [
      | inl cut ↦ inl (cut_off (strings_by (Say n p) s.0 hashed ns) (account strings c d t.1) e cut.0)
      | inr on ↦ said n p s t hashed ns ms e (ran p s t hashed (ns ++ n ∷ []) ms e taken on)
    ]
      where
        said : (n : Note) (p : Plan X) (s t : HeldStores × H) (hashed : List (List ℕ)) (ns ms : List Note) (e : Ending X) → Ran p s hashed (ns ++ n ∷ []) e t ms → Ran (Say n p) s hashed ns e t ms
        said n p s t hashed ns ms e (inl cut) = inl cut
        said n p s t hashed ns ms e (inr is) = inr (record { hashed_now = is.hashed_now; is = is.is; has = is.has; planned = is.planned })
    ran (Ask call next) s t hashed ns ms e taken runs = elim runs [
      | inl cut ↦ inl (cut_off (strings_by (Ask call next) s.0 hashed ns) (account strings c d t.1) e cut.0)
      | inr (inl off) ↦ stops call next s t hashed ns ms e off.0 off.2 off.3 (was_refused strings c d first call s t hashed off.0 taken off.1)
      | inr (inr on) ↦
          let came = did_answer strings c d first call s on.1 hashed on.0 taken on.2 in
          goes call next s on.1 t hashed ns ms e on.0 came (ran (next on.0) on.1 t came.now ns ms e came.has on.3)
    ]

-- each run over stores in memory is that of the function, unless it was cut off
pub determined : {X H : Type 0} (strings : H → Option Book) (clashes fulls : H → ℕ) (first : Account) (p : Plan X) (s t : HeldStores × H) (hashed : List (List ℕ)) (ns ms : List Note) (e : Ending X)
    → HasHashed hashed first (account strings clashes fulls s.1) → Runs (HeldDo strings clashes fulls) (HeldRefuse strings clashes fulls) p s ns e t ms
    → IsCutOff (strings_by p s.0 hashed ns) first (account strings clashes fulls t.1) e ⊎ IsRun (account strings clashes fulls) first p s hashed ns e t ms
determined strings clashes fulls first p s t hashed ns ms e taken runs = ran strings clashes fulls first p s t hashed ns ms e taken runs
