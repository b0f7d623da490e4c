use Rattle.std.proofs.Common.{◌≡◌, ◌++◌, map, take, drop, length, ap, sym, subst, List, Option, ◌∙◌}
use Rattle.std.specs.Prelude.{option_map}
use Rattle.call_table.specs.Calls.{older}
use Rattle.call_table.specs.Slots.{present, AreKept}
use Rattle.call_table.specs.declared.waiting.Waiting.{Waiting}
use Rattle.call_table.proofs.Slots.{written_over, older_kept, present_older, length_older}
use Rattle.call_table.proofs.calls.Calls.grow_older.Goals as goal

pub invariant_of-self : goal.invariant_of-self
invariant_of-self c =
    let slots = c.self.inside.slots in
    let new = c.grow_all_older.new.slots in
    let aged : new ≡ map (option_map older) slots.items = c.grow_all_older.ensures ∙ ap (map (option_map older)) c.deref_mut.ensures.value in
    let same : take slots.len (new ++ drop (length new) slots.items) ≡ map (option_map older) slots.items = written_over slots.len slots.items new slots.ok.0 (ap length aged ∙ length_older slots.items) ∙ aged in
    subst (λ (l : List (Option Waiting)). AreKept l c.self.inside.places c.self.inside.count) (sym same) (older_kept slots.items c.self.inside.places c.self.inside.count c.self.invariant)

pub returns : goal.returns
returns c =
    let slots = c.self.inside.slots in
    let new = c.grow_all_older.new.slots in
    let aged : new ≡ map (option_map older) slots.items = c.grow_all_older.ensures ∙ ap (map (option_map older)) c.deref_mut.ensures.value in
    let same : take slots.len (new ++ drop (length new) slots.items) ≡ map (option_map older) slots.items = written_over slots.len slots.items new slots.ok.0 (ap length aged ∙ length_older slots.items) ∙ aged in
    ap present same ∙ present_older slots.items ∙ ap (map older) c.self.view_is
