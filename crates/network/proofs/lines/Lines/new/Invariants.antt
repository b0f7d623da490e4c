use Rattle.std.proofs.Common.{◌≡◌, ℕ, [], map, vec_len}
use Rattle.network.specs.Lines.{line}
use Rattle.network.proofs.lines.Lines.new.Given as goal

abbrev pub invariant-loop : goal.invariant-loop
invariant-loop l = (vec_len l.lines ≡ l.counter) × ((p : ℕ) → line (map (λ q. q.items) l.lines.items) p ≡ [])
