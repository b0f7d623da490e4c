-- Which starts have sealing on.
use Rattle.std.specs.Prelude.{◌≡◌, ◌⊎◌, ℕ, Bool, false, ◌==◌, ◌||◌, List}
use Rattle.std.specs.List.{list_any}
use Rattle.ens_base.specs.Lists.{◌∈◌}
use Rattle.schedule_text.specs.Forms.{is_sealed}
use Rattle.schedule_text.specs.declared.event.ScheduleEvent.{ScheduleEvent}
use Rattle.schedule_text.specs.declared.event.ScheduleEvent.TheVariants.{Upgrade}
use Rattle.schedule_text.specs.declared.form.Form.{Form}
use Rattle.schedule_text.specs.declared.form.Form.TheVariants.{Two, Three}

-- whether the line makes the later starts of this peer have sealing on
abbrev pub upgrades : ℕ → ScheduleEvent → Bool
upgrades p (Upgrade peer) = p == peer
upgrades p _ = false

-- whether a start of the peer has sealing on, where these lines stand before it
abbrev pub has_sealing : Form → List ScheduleEvent → ℕ → Bool
has_sealing form before p = is_sealed form || list_any (upgrades p) before

-- a start of the peer has sealing on: every start does, or a line before it upgrades the peer
abbrev pub HasSealing : Form → List ScheduleEvent → ℕ → Type 0
HasSealing form before p = (form ≡ Two) ⊎ (form ≡ Three) ⊎ (Upgrade p ∈ before)
