-- Several steps from a state, and runs that go on with them.
use Rattle.std.proofs.Common.{◌≡◌, ℕ, List, [], ◌∷◌, ◌++◌, refl}
use Rattle.protocol_laws.specs.Protocol.{State, Step, happens, state_after, IsRun, after, MayAll, onto}

pub after_both : (s : State) (es fs : List Step) → after s (es ++ fs) ≡ after (after s es) fs
after_both s [] fs = refl
after_both s (e ∷ es) fs = after_both (happens s e) es fs

pub may_both : (s : State) (es fs : List Step) → MayAll s es → MayAll (after s es) fs → MayAll s (es ++ fs)
may_both s [] fs a b = b
may_both s (e ∷ es) fs a b = (a.0, may_both (happens s e) es fs a.1 b)

pub onto_state : (view : List ℕ) (steps run : List Step) → state_after view (onto steps run) ≡ after (state_after view run) steps
onto_state view [] run = refl
onto_state view (e ∷ es) run = onto_state view es (e ∷ run)

pub onto_run : (view : List ℕ) (steps run : List Step) → IsRun view run → MayAll (state_after view run) steps → IsRun view (onto steps run)
onto_run view [] run is_run may = is_run
onto_run view (e ∷ es) run is_run may = onto_run view es (e ∷ run) (is_run, may.0) may.1
