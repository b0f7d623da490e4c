-- Which version the trees of the peers have that start.
use Rattle.std.specs.Prelude.{ℕ, Bool, false, ◌||◌, if◌then◌else◌, List, [], ◌∷◌}
use Rattle.schedule_text.specs.Forms.{is_deep}
use Rattle.schedule_text.specs.declared.event.ScheduleEvent.{ScheduleEvent}
use Rattle.schedule_text.specs.declared.event.ScheduleEvent.TheVariants.{Deepen}
use Rattle.schedule_text.specs.declared.form.Form.{Form}
use Rattle.tree_node.specs.declared.version.TreeVersion.{TreeVersion}
use Rattle.tree_node.specs.declared.version.TreeVersion.TheVariants.{One, Two}
use Rattle.world_spec.specs.Lines.{applied}
use Rattle.world_spec.specs.Nodes.{all_down}
use Rattle.world_spec.specs.Runs.{Run, opening_run}

-- whether the line is a `deepen` that comes while all peers are down
abbrev pub deepens : ScheduleEvent → Run → Bool
deepens Deepen w = all_down w.nodes
deepens other w = false

-- whether one of these lines is, in the run that goes on from here
abbrev pub has_deepened : List ScheduleEvent → Run → Bool
has_deepened [] w = false
has_deepened (event ∷ more) w = deepens event w || has_deepened more (applied event w)

-- The version of the trees of the peers that start behind these lines: version two in an ensemble that
-- opens with it, and in any other behind a `deepen` that came while all peers were down.
abbrev pub tree_by_lines : Form → ℕ → List ℕ → List ScheduleEvent → TreeVersion
tree_by_lines form peers view events = if is_deep form || has_deepened events (opening_run form peers view) then Two else One
