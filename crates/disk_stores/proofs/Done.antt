-- The map of nodes after a call.
use Rattle.std.proofs.Common.{◌≡◌, ℕ, List, [], length, Option, Some, sym, ap, ◌∙◌}
use Rattle.environment.specs.Maps.{Entries, value_at, with_value}
use Rattle.environment.specs.MemStores.{Held}
use Rattle.disk_stores.specs.Logs.{Holds}
use Rattle.disk_stores.specs.DiskCalls.{HoldsNodes}
use Rattle.disk_stores.specs.declared.nodes.DiskNodes.{DiskNodes}
use Rattle.disk_stores.proofs.NodeLaws.{node_found, node_written, top_written}

module _ {D : Type 0} (seen : D → Option (List ℕ)) (s t : DiskNodes D) where
  -- a call that leaves the map as it was
  pub stays_held : (held : Held) → HoldsNodes seen s held → ((es : Entries) → Holds seen s.log es → Holds seen t.log es) → t.top ≡ s.top → HoldsNodes seen t held
  stays_held held h stays same = record { entries = h.entries; log = stays h.entries h.log; nodes = h.nodes; top = same ∙ h.top }

  pub read_held : (digest : List ℕ) (answer : Option (List ℕ)) (held : Held) → HoldsNodes seen s held → length digest ≡ 16 → ((es : Entries) → Holds seen s.log es → answer ≡ value_at digest es) → answer ≡ value_at digest held.entries
  read_held digest answer held h long found = found h.entries h.log ∙ sym (node_found digest h.entries long) ∙ ap (λ (k : Held). value_at digest k.entries) h.nodes

  pub write_held : (digest bytes : List ℕ) (held : Held) → HoldsNodes seen s held → length digest ≡ 16 → ((es : Entries) → Holds seen s.log es → Holds seen t.log (with_value digest bytes es)) → t.top ≡ s.top
      → HoldsNodes seen t (record held { entries = with_value digest bytes held.entries })
  write_held digest bytes held h long puts same = record {
    entries = with_value digest bytes h.entries;
    log = puts h.entries h.log;
    nodes = node_written digest bytes h.entries long ∙ ap (λ (k : Held). record k { entries = with_value digest bytes k.entries }) h.nodes;
    top = same ∙ h.top;
  }

  pub top_held : (digest : List ℕ) (held : Held) → HoldsNodes seen s held → length digest ≡ 16 → ((es : Entries) → Holds seen s.log es → Holds seen t.log (with_value [] digest es)) → t.top ≡ Some digest
      → HoldsNodes seen t (record held { top = Some digest })
  top_held digest held h long puts is = record {
    entries = with_value [] digest h.entries;
    log = puts h.entries h.log;
    nodes = top_written digest h.entries long ∙ ap (λ (k : Held). record k { top = Some digest }) h.nodes;
    top = is;
  }
