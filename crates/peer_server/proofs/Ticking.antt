-- The answers of a ticker over some turns.
use Rattle.std.specs.Prelude.{Option, None, Some}
use Rattle.std.proofs.Common.{◌≡◌, ◌∙◌, ap, ℕ, ◌+◌, Bool, List, [], ◌∷◌, ◌++◌, length, length-append, arith}
use Rattle.environment.specs.Links.{AnswersNext}
use Rattle.peer_turns.specs.Turns.{AreDue, Turn}
use Rattle.peer_server.specs.Turning.{TicksOn}

due_same : (f g : ℕ → Bool) (us : List Turn) → ((n : ℕ) → f n ≡ g n) → AreDue f us → AreDue g us
due_same f g [] same dues = tt
due_same f g (u ∷ us) same dues = (dues.0 ∙ same 0, due_same (λ n. f (n + 1)) (λ n. g (n + 1)) us (λ n. same (n + 1)) dues.1)

due_more : (coming rest : ℕ → Bool) (ts us : List Turn) → AreDue coming ts → ((n : ℕ) → rest n ≡ coming (length ts + n)) → AreDue rest us → AreDue coming (ts ++ us)
due_more coming rest [] us dues same later = due_same rest coming us (λ n. let m : length {A = Turn} [] + n ≡ n = omega arith in same n ∙ ap coming m) later
due_more coming rest (t ∷ ts) us dues same later =
    (dues.0, due_more (λ n. coming (n + 1)) rest ts us dues.1 (λ n. let m : length (t ∷ ts) + n ≡ (length ts + n) + 1 = omega arith in same n ∙ ap coming m) later)

pub ticks_none : (a : Option (ℕ → Bool)) → TicksOn a a []
ticks_none None = tt
ticks_none (Some f) = (tt, λ n. let m : n ≡ length {A = Turn} [] + n = omega arith in ap f m)

pub ticks_one : (a b : Option (ℕ → Bool)) (t : Turn) → AnswersNext a b t.due → TicksOn a b (t ∷ [])
ticks_one None b t next = tt
ticks_one (Some f) None t next = next
ticks_one (Some f) (Some g) t next = ((next.0, tt), λ n. let m : n + 1 ≡ length (t ∷ []) + n = omega arith in next.1 n ∙ ap f m)

pub ticks_more : (a b c : Option (ℕ → Bool)) (ts us : List Turn) → TicksOn a b ts → TicksOn b c us → TicksOn a c (ts ++ us)
ticks_more None b c ts us first second = tt
ticks_more (Some f) None c ts us first second = absurd first
ticks_more (Some f) (Some g) None ts us first second = second
ticks_more (Some f) (Some g) (Some h) ts us first second = (
  due_more f g ts us first.0 first.1 second.0,
  λ n. let m : length ts + (length us + n) ≡ length (ts ++ us) + n = omega (arith, length-append ts us) in second.1 n ∙ first.1 (length us + n) ∙ ap f m,
)
