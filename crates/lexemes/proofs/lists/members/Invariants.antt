use Rattle.std.proofs.Common.{◌≡◌, ◌≤◌, ◌^◌, map, drop}
use Rattle.lexemes.specs.Words.{members_from, members_of}
use Rattle.lexemes.proofs.Ascending.{prefix_onto}
use Rattle.lexemes.proofs.lists.members.Given as goal

abbrev pub invariant-loop-word : goal.invariant-loop-word
invariant-loop-word l =
    (1 ≤ l.low) × (l.low ≤ 2 ^ 32)
    × (prefix_onto l.members.items (members_from l.low l.peers (drop l.word-index (map (λ word. word.now) l.words))) ≡ members_of l.peers (map (λ word. word.now) l.words))
