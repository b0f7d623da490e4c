use Rattle.std.proofs.Common.{◌≡◌, ◌++◌, take, string_bytes}
use Rattle.std.specs.List.{flat_map}
use Rattle.register_model.specs.declared.history.History.{History}
use Rattle.root.specs.Slots.{slot_history_line}
use Rattle.root.proofs.text.push_slots.Given as goal

abbrev pub invariant-loop-history : goal.invariant-loop-history
invariant-loop-history l = string_bytes l.text ≡ string_bytes l.fn.text ++ flat_map (λ (h : History). slot_history_line h.key h.calls) (take l.history-index l.histories)
