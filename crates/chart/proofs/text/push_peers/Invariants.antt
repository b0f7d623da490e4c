use Rattle.std.proofs.Common.{◌≡◌, ◌++◌, ◌+◌, ◌-◌, string_bytes}
use Rattle.chart.specs.Text.{peers_text}
use Rattle.chart.proofs.text.push_peers.Given as goal

abbrev pub invariant-loop-below : goal.invariant-loop-below
invariant-loop-below l = string_bytes l.text ++ peers_text (l.below + 1) (l.peers - l.below) ≡ string_bytes l.initial.text ++ peers_text 1 l.peers
