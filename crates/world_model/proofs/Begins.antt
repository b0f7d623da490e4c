-- What was sent and printed stays.
use Rattle.std.proofs.Common.{◌≡◌, ℕ, [], ◌++◌, refl, sym, ap, ◌∙◌, Option, None, Some}
use Rattle.std.specs.Prelude.{Bool, true, false, if◌then◌else◌, slice_get}
use Rattle.std.proofs.lemmas.List.{append-nil, append_assoc}
use Rattle.world_spec.proofs.Growth.{changed_mail, deepening_mail}
use Rattle.world_spec.specs.Nodes.{Node}
use Rattle.world_spec.specs.Runs.{Run, place_of, changed_at, changed, upgraded, may_deepen, deepened, with_deepening}
use Rattle.world_model.specs.Worlds.{run_of, Begins}
use Rattle.world_model.specs.declared.world.World.{World}

pub begins_same : (w : World) → Begins w w
begins_same w = record { more_sent = []; sent = sym (append-nil w.network.sent); more_printed = []; printed = sym (append-nil w.printed.items) }

pub begins_later : (a b c : World) → Begins a b → Begins b c → Begins a c
begins_later a b c first last = record {
  more_sent = first.more_sent ++ last.more_sent;
  sent = rw last.sent (rw first.sent (append_assoc a.network.sent first.more_sent last.more_sent));
  more_printed = first.more_printed ++ last.more_printed;
  printed = rw last.printed (rw first.printed (append_assoc a.printed.items first.more_printed last.more_printed));
}

-- the messages and the lines are the same
pub begins_sent : (w v : World) → v.network.sent ≡ w.network.sent → v.printed ≡ w.printed → Begins w v
begins_sent w v sent printed = record { more_sent = []; sent = rw sent (sym (append-nil w.network.sent)); more_printed = []; printed = rw printed (sym (append-nil w.printed.items)) }

-- no message was sent and no line printed
pub begins_by : (w v : World) → v.network ≡ w.network → v.printed ≡ w.printed → Begins w v
begins_by w v network printed = begins_sent w v (ap (λ n. n.sent) network) printed

changed_at_printed : (node : Option Node) (peer : ℕ) (change : Node → Node) (w : Run) → (changed_at node peer change w).printed ≡ w.printed
changed_at_printed None peer change w = refl
changed_at_printed (Some node) peer change w = refl

-- a change of a node sends and prints nothing
pub begins_changed : (w v : World) (peer : ℕ) (change : Node → Node) → run_of v ≡ changed peer change (run_of w) → Begins w v
begins_changed w v peer change is = record {
  more_sent = [];
  sent = ap (λ (r : Run). r.mail.sent) is ∙ (ap (λ m. m.sent) (changed_mail peer change (run_of w)) ∙ sym (append-nil w.network.sent));
  more_printed = [];
  printed = ap (λ (r : Run). r.printed) is ∙ (changed_at_printed (slice_get (run_of w).nodes (place_of peer)) peer change (run_of w) ∙ sym (append-nil w.printed.items));
}

-- nor does a line that upgrades a peer
pub begins_upgraded : (w v : World) (peer : ℕ) → run_of v ≡ upgraded peer (run_of w) → Begins w v
begins_upgraded w v peer is = record {
  more_sent = [];
  sent = ap (λ (r : Run). r.mail.sent) is ∙ sym (append-nil w.network.sent);
  more_printed = [];
  printed = ap (λ (r : Run). r.printed) is ∙ sym (append-nil w.printed.items);
}

deepening_printed : (w : Run) → (with_deepening w).printed ≡ w.printed
deepening_printed w = by (may_deepen w)
  where
    by : (may : Bool) → (if may then deepened w else w).printed ≡ w.printed
    by true = refl
    by false = refl

-- nor does a line that makes later trees deeper
pub begins_deepened : (w v : World) → run_of v ≡ with_deepening (run_of w) → Begins w v
begins_deepened w v is = record {
  more_sent = [];
  sent = ap (λ (r : Run). r.mail.sent) is ∙ (ap (λ m. m.sent) (deepening_mail (run_of w)) ∙ sym (append-nil w.network.sent));
  more_printed = [];
  printed = ap (λ (r : Run). r.printed) is ∙ (deepening_printed (run_of w) ∙ sym (append-nil w.printed.items));
}
