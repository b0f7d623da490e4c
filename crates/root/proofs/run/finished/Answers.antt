use Rattle.std.proofs.Common.{◌≡◌, ◌++◌, ◌∙◌, List, ap, string_bytes}
use Rattle.std.specs.List.{flat_map}
use Rattle.history_scribe.specs.Text.{history_line}
use Rattle.register_model.specs.declared.history.History.{History}
use Rattle.root.specs.Slots.{slot_history_line}
use Rattle.root.proofs.Texts.{whole_text}
use Rattle.root.proofs.run.finished.Goals as goal

pub returns-clause-text : goal.returns-clause-text
returns-clause-text c = λ stands.
    let has_slots = c.in_ok-push_slots.ensures ∙ ap (λ (hs : List History). string_bytes c.args.run.text ++ flat_map (λ (h : History). slot_history_line h.key h.calls) hs) c.deref.ensures.value in
    let has_keys = c.in_ok-lines.ensures ∙ ap (flat_map history_line) c.deref-2.ensures.value in
    let is : c.into_bytes.result.items ≡ string_bytes c.push_slots.new.text ++ string_bytes c.in_ok-lines.lines = cc (c.into_bytes.ensures.value, c.in_ok-push_str.ensures.bytes, c.as_str.ensures.value) in
    whole_text c.args.script.now c.requires c.args.run c.into_bytes.result.items (string_bytes c.push_slots.new.text) (string_bytes c.in_ok-lines.lines) c.in_ok-histories.field-0.items c.in_ok-keys.keys.items c.in_ok-keys.ensures.histories.0 c.in_ok-keys.ensures.ordered c.in_ok-histories.ensures has_slots
    c.in_ok-keys.ensures.histories.1 c.in_ok-keys.ensures.histories.2 has_keys is stands
