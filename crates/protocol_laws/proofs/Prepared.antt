-- A ballot is prepared only by its proposer, and at most once.
use Rattle.std.proofs.Common.{◌≡◌, ℕ, ◌+◌, ◌<◌, ◌≤◌, true, List, [], ◌∷◌, ◌==◌, ◌&&◌, nat_lt, cond, arith, refl}
use Rattle.std.proofs.lemmas.Bool.{false≢true}
use Rattle.std.proofs.lemmas.Bool.Decides.{nat_tests}
use Rattle.protocol_laws.specs.Ledger.{Ledger, put}
use Rattle.protocol_laws.specs.Protocol.{Step, Begin, Ask, Raise, Elect, Accept, Commit, Adopt, Write, Acknowledge, Install, EndSync, Propose, Settle, Note, Answer, Lose, Revert, state_after, IsRun}
use Rattle.protocol_laws.specs.Preparing.{proposer_of, prepares, times_prepared}

same_raise : (p e q d : ℕ) → p ≡ q → e ≡ d → Raise p e ≡ Raise q d
same_raise p e q d a b = rw a (rw b refl)

by_proposer : (n p e q d : ℕ) → ((d == e) && (p == q) && nat_lt n d) ≡ true → (p ≡ q) × (e ≡ d)
by_proposer n p e q d h = grind (arith, nat_tests)

raised : (l : Ledger) (p e d : ℕ) → prepares l (Raise p e) d ≡ true → Raise p e ≡ Raise (proposer_of d) d
raised l p e d h = same_raise p e (proposer_of d) d (by_proposer (l.ballot p) p e (proposer_of d) d h).0 (by_proposer (l.ballot p) p e (proposer_of d) d h).1

pub prepared_alone : (l : Ledger) (step : Step) (d : ℕ) → prepares l step d ≡ true → step ≡ Raise (proposer_of d) d
prepared_alone l (Raise p e) d h = raised l p e d h
prepared_alone l Begin d h = absurd (false≢true h)
prepared_alone l (Ask c) d h = absurd (false≢true h)
prepared_alone l (Elect e b) d h = absurd (false≢true h)
prepared_alone l (Accept p e) d h = absurd (false≢true h)
prepared_alone l (Commit e c) d h = absurd (false≢true h)
prepared_alone l (Adopt p e) d h = absurd (false≢true h)
prepared_alone l (Write p v) d h = absurd (false≢true h)
prepared_alone l (Acknowledge p v) d h = absurd (false≢true h)
prepared_alone l (Install p e m) d h = absurd (false≢true h)
prepared_alone l (EndSync p e) d h = absurd (false≢true h)
prepared_alone l (Propose v k u s x c) d h = absurd (false≢true h)
prepared_alone l (Settle v) d h = absurd (false≢true h)
prepared_alone l (Note i k u e) d h = absurd (false≢true h)
prepared_alone l (Answer i r) d h = absurd (false≢true h)
prepared_alone l (Lose p) d h = absurd (false≢true h)
prepared_alone l (Revert p m) d h = absurd (false≢true h)

-- not prepared while the proposer's ballot is below it, and not again once it is there
raise_once : (f : ℕ → ℕ) (q d p e n : ℕ) → f p ≤ e → ((f q < d → n ≡ 0) × (n ≤ 1)) → (put f p e q < d → cond ((d == e) && (p == q) && nat_lt (f p) d) (n + 1) n ≡ 0) × (cond ((d == e) && (p == q) && nat_lt (f p) d) (n + 1) n ≤ 1)
raise_once f q d p e n may old = grind (arith, nat_tests)

once : (d : ℕ) (view : List ℕ) (steps : List Step) → IsRun view steps → ((state_after view steps).objects.ledger.ballot (proposer_of d) < d → times_prepared d view steps ≡ 0) × (times_prepared d view steps ≤ 1)
once d view [] run = (λ h. refl, omega arith)
once d view (Raise p e ∷ steps) run = raise_once (state_after view steps).objects.ledger.ballot (proposer_of d) d p e (times_prepared d view steps) run.1.0 (once d view steps run.0)
once d view (Elect e b ∷ steps) run = once d view steps run.0
once d view (Accept p e ∷ steps) run = once d view steps run.0
once d view (Begin ∷ steps) run = once d view steps run.0
once d view (Ask c ∷ steps) run = once d view steps run.0
once d view (Commit e c ∷ steps) run = once d view steps run.0
once d view (Adopt p e ∷ steps) run = once d view steps run.0
once d view (Write p v ∷ steps) run = once d view steps run.0
once d view (Acknowledge p v ∷ steps) run = once d view steps run.0
once d view (Install p e m ∷ steps) run = once d view steps run.0
once d view (EndSync p e ∷ steps) run = once d view steps run.0
once d view (Propose v k u s x c ∷ steps) run = once d view steps run.0
once d view (Settle v ∷ steps) run = once d view steps run.0
once d view (Note i k u e ∷ steps) run = once d view steps run.0
once d view (Answer i r ∷ steps) run = once d view steps run.0
once d view (Lose p ∷ steps) run = once d view steps run.0
once d view (Revert p m ∷ steps) run = once d view steps run.0

pub prepared_once : (view : List ℕ) (steps : List Step) (d : ℕ) → IsRun view steps → times_prepared d view steps ≤ 1
prepared_once view steps d run = (once d view steps run).1
