-- How a start continues after a call of the stores.
use Rattle.std.specs.Prelude.{Option, None}
use Rattle.std.proofs.Common.{◌≡◌, ℕ, true, false, Bool, if◌then◌else◌, List, Result, Ok, Err, inr, subst, sym}
use Rattle.stored_formats.specs.declared.saved.SavedFact.{SavedFact}
use Rattle.step_plans.specs.Calls.{Call, Load, FreshTree, Root, AnswerOf}
use Rattle.step_plans.specs.Plans.{Plan, Ask}
use Rattle.step_plans.specs.declared.error.PeerError.{PeerError}
use Rattle.peer_spec.specs.Starts.{Starts, start_of, saves_opening, seals_opening, opened}
use Rattle.peer_state.specs.declared.state.Mode.{Mode}
use Rattle.peer_state.specs.declared.state.State.{State}

-- a call was answered, and the start continues with the answer
pub answered : {P : Type 0} (does : P → (call : Call) → AnswerOf call → P → Type 0) (refuses : P → Call → PeerError → P → Type 0) (call : Call) (next : AnswerOf call → Plan State) (s m t : P) (a : AnswerOf call) (r : Result State PeerError)
    → does s call a m → Starts does refuses (next a) m r t → Starts does refuses (Ask call next) s r t
answered does refuses call next s m t a (Ok x) did ran = inr (inr (a, m, did, ran))
answered does refuses call next s m t a (Err e) did ran = inr (inr (a, m, did, ran))

-- a start continues by a test
pub first_chosen : {P : Type 0} (does : P → (call : Call) → AnswerOf call → P → Type 0) (refuses : P → Call → PeerError → P → Type 0) (test : Bool) (p q : Plan State) (s t : P) (r : Result State PeerError)
    → test ≡ true → Starts does refuses p s r t → Starts does refuses (if test then p else q) s r t
first_chosen does refuses test p q s t r is ran = rw is ran

pub second_chosen : {P : Type 0} (does : P → (call : Call) → AnswerOf call → P → Type 0) (refuses : P → Call → PeerError → P → Type 0) (test : Bool) (p q : Plan State) (s t : P) (r : Result State PeerError)
    → test ≡ false → Starts does refuses q s r t → Starts does refuses (if test then p else q) s r t
second_chosen does refuses test p q s t r is ran = rw is ran

-- a start continues from what was kept
pub began : {P : Type 0} (does : P → (call : Call) → AnswerOf call → P → Type 0) (refuses : P → Call → PeerError → P → Type 0) (mode : Mode) (view : List ℕ) (s m t : P) (found : Option SavedFact) (r : Result State PeerError)
    → does s Load found m → Starts does refuses (opened mode view found) m r t → Starts does refuses (start_of mode view) s r t
began does refuses mode view s m t found (Ok x) did ran = inr (inr (found, m, did, ran))
began does refuses mode view s m t found (Err e) did ran = inr (inr (found, m, did, ran))

-- a start without a kept fact continues once the tree is empty
pub freshened : {P : Type 0} (does : P → (call : Call) → AnswerOf call → P → Type 0) (refuses : P → Call → PeerError → P → Type 0) (mode : Mode) (view : List ℕ) (s m t : P) (r : Result State PeerError)
    → does s (FreshTree mode.tree) tt m → Starts does refuses (seals_opening mode.sealing mode view) m r t → Starts does refuses (opened mode view None) s r t
freshened does refuses mode view s m t (Ok x) did ran = inr (inr (tt, m, did, ran))
freshened does refuses mode view s m t (Err e) did ran = inr (inr (tt, m, did, ran))

-- where seals are kept it continues with the root of the empty tree
pub rooted : {P : Type 0} (does : P → (call : Call) → AnswerOf call → P → Type 0) (refuses : P → Call → PeerError → P → Type 0) (mode : Mode) (view : List ℕ) (s m t : P) (root : Option (List ℕ)) (r : Result State PeerError)
    → mode.sealing ≡ true → does s Root root m → Starts does refuses (saves_opening mode view root) m r t → Starts does refuses (seals_opening mode.sealing mode view) s r t
rooted does refuses mode view s m t root (Ok x) seals did ran = subst (λ (b : Bool). Starts does refuses (seals_opening b mode view) s (Ok x) t) (sym seals) (inr (inr (root, m, did, ran)))
rooted does refuses mode view s m t root (Err e) seals did ran = subst (λ (b : Bool). Starts does refuses (seals_opening b mode view) s (Err e) t) (sym seals) (inr (inr (root, m, did, ran)))
