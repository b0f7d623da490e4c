-- The text of the run of a script.
use Rattle.std.proofs.Common.{◌≡◌, ℕ, List, ◌++◌, sym, ap, ◌∙◌, string_bytes}
use Rattle.std.specs.BTreeMap.{IsOrdered}
use Rattle.std.specs.List.{flat_map}
use Rattle.std.specs.Ordering.{nat_cmp}
use Rattle.history_scribe.specs.Histories.{AreHistories}
use Rattle.history_scribe.specs.Text.{history_line}
use Rattle.register_model.specs.declared.history.History.{History}
use Rattle.root_laws.proofs.Prefixes.{run_printed}
use Rattle.root_laws.proofs.Opened.{few_events}
use Rattle.root_laws.specs.Runs.{printed_of}
use Rattle.root_laws.specs.Steps.{roots_after}
use Rattle.root_laws.specs.Text.{IsTextOf, key_line, keys_in, printed_line, slot_line}
use Rattle.scripts.specs.Spelling.{IsScript}
use Rattle.scripts.specs.declared.script.RootScript.{RootScript}
use Rattle.std.specs.Prelude.{map, None}
use Rattle.replay.specs.WorldModel.{run_of}
use Rattle.root.specs.Histories.{AreEmptyHistories, filled, orders_by}
use Rattle.root.specs.Slots.{slot_history_line}
use Rattle.root.specs.Standing.{Stands}
use Rattle.root.specs.Worlds.{worlds}
use Rattle.root.specs.declared.worlds.RootWorlds.{RootWorlds}
use Rattle.root.proofs.Keys.{keys_text, slots_text}
use Rattle.root.proofs.Printing.{worlds_grow}

pub whole_text : (s : RootScript) (script : IsScript s) (w : RootWorlds) (text with_slots more : List ℕ) (slots keys empties : List History) → IsOrdered nat_cmp w.slots → AreHistories (run_of w.root).notes (run_of w.root).called slots
    → with_slots ≡ string_bytes w.text ++ flat_map (λ (h : History). slot_history_line h.key h.calls) slots → AreEmptyHistories (keys_in s.events) empties → keys ≡ map (filled (λ k. orders_by w.slots.entries k None)) empties → more ≡ flat_map history_line keys → text ≡ with_slots ++ more
    → Stands s (roots_after worlds s) w → IsTextOf worlds s text
whole_text s script w text with_slots more slots keys empties ordered are_slots has_slots are_keys fill has_keys is stands =
    let first = slots_text s script w stands slots are_slots in
    let second = keys_text s script w stands ordered keys empties are_keys fill in
    let printed : string_bytes w.text ≡ flat_map printed_line (printed_of worlds s) = stands.text ∙ ap (flat_map printed_line) (sym (run_printed worlds s worlds_grow (few_events s script) script)) in
    record {
      slots = first.0;
      are_slots = first.1;
      keys = second.0;
      are_keys = second.1;
      is = is ∙ ap (λ (l : List ℕ). l ++ more) has_slots ∙ ap (λ (l : List ℕ). string_bytes w.text ++ flat_map (λ (h : History). slot_history_line h.key h.calls) slots ++ l) (has_keys ∙ second.2)
          ∙ ap (λ (l : List ℕ). string_bytes w.text ++ l ++ flat_map (key_line worlds s) second.0) first.2 ∙ ap (λ (l : List ℕ). l ++ flat_map (slot_line worlds s) first.0 ++ flat_map (key_line worlds s) second.0) printed;
    }
