use Rattle.std.proofs.Common.{◌≡◌, ℕ, Bool, false, refl, sym, ◌∙◌}
use Rattle.wire_frames.specs.StoredFormats.{Fact}
use Rattle.phase_rows.specs.Orders.{is_below, is_same}
use Rattle.phase_rows.specs.Rows.{leaves_leading}
use Rattle.phase_rules.specs.Announcements.{takes, row_16}
use Rattle.phase_rules.proofs.announcements.rule_16.Goals as goal

new_epoch : (fact new : Fact) (me from : ℕ) (trusted sync_runs : Bool) → is_below new.epoch fact.ballot ≡ false → is_same new.epoch fact.epoch ≡ false → row_16 fact me trusted sync_runs from new ≡ leaves_leading (takes fact me trusted sync_runs from new)
new_epoch fact new me from trusted sync_runs above other = rw above (rw other refl)

pub returns-else-eq : goal.returns-else-eq
returns-else-eq c = rw c.leave_leading.ensures (rw c.take_epoch.ensures (sym (new_epoch c.args.fact c.args.new c.args.me c.args.from c.args.trusted c.args.sync_runs (sym c.is_below.ensures ∙ c.if-is_below.false) (sym c.eq.ensures ∙ c.if-eq.false))))
