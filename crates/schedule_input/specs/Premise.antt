-- The premise on reverted trees: in each view that a schedule of form 1 names, a majority is never reverted.
use Rattle.std.specs.Prelude.{ℕ, ◌==◌, Bool, false, not, ◌||◌, if◌then◌else◌, List, [], ◌∷◌, Option, None, find}
use Rattle.std.specs.List.{list_any, flat_map}
use Rattle.quorums.specs.Quorums.{is_majority}
use Rattle.schedule_text.specs.Forms.{is_sealed}
use Rattle.schedule_text.specs.declared.event.ScheduleEvent.{ScheduleEvent}
use Rattle.schedule_text.specs.declared.event.ScheduleEvent.TheVariants.{Change, Revert}
use Rattle.schedule_text.specs.declared.form.Form.{Form}
use Rattle.schedule_text.specs.declared.schedule.Schedule.{Schedule}

-- whether the line reverts the tree of this peer
abbrev pub reverts : ℕ → ScheduleEvent → Bool
reverts p (Revert peer changes) = p == peer
reverts p _ = false

-- whether a line reverts the tree of the peer
abbrev pub is_reverted : List ScheduleEvent → ℕ → Bool
is_reverted events p = list_any (reverts p) events

-- the view that a line asks for, if it changes the view
abbrev pub views_of_line : ScheduleEvent → List (List ℕ)
views_of_line (Change peer view) = view ∷ []
views_of_line _ = []

-- the views that the lines ask for, in order
abbrev pub changed_views : List ScheduleEvent → List (List ℕ)
changed_views events = flat_map views_of_line events

-- the views that a schedule names, in the order of their lines
abbrev pub views_named : Schedule → List (List ℕ)
views_named s = s.view ∷ changed_views s.events

-- more than half of the members of the view are not reverted
abbrev pub keeps_majority : (ℕ → Bool) → List ℕ → Bool
keeps_majority reverted view = is_majority (λ p. not (reverted p)) view

-- at least half of the members of the view are reverted
abbrev pub fails : (ℕ → Bool) → List ℕ → Bool
fails reverted view = not (keeps_majority reverted view)

-- the first view that a schedule names and at least half of whose members it reverts
abbrev pub first_failing : Schedule → Option (List ℕ)
first_failing s = find (fails (is_reverted s.events)) (views_named s)

-- the first view that fails the premise; where every start has sealing on the premise is asked of none
abbrev pub first_unsound : Schedule → Option (List ℕ)
first_unsound s = if is_sealed s.form then None else first_failing s

-- whether the peer would see that its tree was reverted, since it has a seal, or no line reverts it
abbrev pub is_firm : Form → List ScheduleEvent → ℕ → Bool
is_firm form events p = is_sealed form || not (is_reverted events p)
