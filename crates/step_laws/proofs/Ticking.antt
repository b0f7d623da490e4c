-- What a tick of a leader does besides its calls.
use Rattle.std.specs.Prelude.{◌↔◌}
use Rattle.std.proofs.Common.{◌≡◌, ◌^◌, ◌-◌, ◌∙◌, ap, refl, sym, subst, append-nil, ℕ, Bool, true, false, if◌then◌else◌, List, [], ◌∷◌, ◌++◌, None}
use Rattle.std.proofs.lemmas.Bool.{false≢true}
use Rattle.call_table.specs.Calls.{has_calls}
use Rattle.leader_output.specs.declared.out.LeadOut.{LeadOut}
use Rattle.leader_output.specs.declared.out.Outgoing.{Outgoing}
use Rattle.leader.specs.Ticks.{row_5_rest}
use Rattle.leader.specs.declared.leader.Leader.{Leader}
use Rattle.leader_laws.proofs.Idle.{row_5_idle}
use Rattle.stored_formats.specs.declared.fact.Change.TheVariants.{Drop}
use Rattle.stored_formats.specs.declared.fact.Fact.{Fact}
use Rattle.peer_spec.specs.Drives.{task_done, driven, lead_done, most_turns, concluded, step_of}
use Rattle.peer_spec.specs.Syncs.{and_sends}
use Rattle.peer_state.specs.Leading.{ticks, wished, begins}
use Rattle.peer_state.specs.Moves.{leading, with_leader}
use Rattle.peer_state.specs.declared.event.Event.TheVariants as events
use Rattle.peer_state.specs.declared.state.ChangeState.{ChangeState}
use Rattle.peer_state.specs.declared.state.ChangeState.TheVariants.{Settled, Wanted, Finishing}
use Rattle.peer_state.specs.declared.state.Leadership.{Leadership}
use Rattle.peer_state.specs.declared.state.Phase.{Phase}
use Rattle.peer_state.specs.declared.state.Phase.TheVariants as phases
use Rattle.peer_state.specs.declared.state.State.{State}
use Rattle.phase_rows.specs.Orders.{is_joint}
use Rattle.step_plans.specs.Plans.{Plan, Done, Out, Rest, nothing}
use Rattle.step_plans.specs.Tasks.{named}
use Rattle.step_plans.specs.declared.tasks.Task.{Task}
use Rattle.step_plans.specs.declared.tasks.Task.TheVariants as tasks
use Rattle.peer_spec.proofs.Aging.{most_is_some}
use Rattle.step_laws.specs.Answering.{HasBegun}
use Rattle.step_laws.specs.Changing.{HasTwoViews}
use Rattle.step_laws.proofs.Answered.{no_tasks}
use Rattle.step_laws.proofs.Taken.{two_joint, one_not_joint}

-- ## An old view is dropped

joint_two : (views : List (List ℕ)) → is_joint views ≡ true → HasTwoViews views
joint_two [] is = absurd (false≢true is)
joint_two (view ∷ []) is = absurd (false≢true is)
joint_two (new ∷ (old ∷ rest)) is = (new, old, rest, refl)

-- the old view is to be dropped, or nothing changes
abbrev drops : Bool → ChangeState
drops b = if b then Wanted Drop else Settled

drops_only : (b : Bool) → drops b ≡ Wanted Drop → b ≡ true
drops_only true is = refl
drops_only false is = absurd (settled_not is)
  where
    settled_not : drops false ≡ Wanted Drop → ⊥
    settled_not is = cc is

pub drops_exactly : (first : Fact) → (wished first Settled ≡ Wanted Drop) ↔ HasTwoViews first.views
drops_exactly first = ((λ is. joint_two first.views (drops_only (is_joint first.views) is)), (λ two. ap drops (two_joint first.views two)))

pub keeps_one : (first : Fact) → (HasTwoViews first.views → ⊥) → wished first Settled ≡ Settled
keeps_one first one = ap drops (one_not_joint first.views one)

pub keeps_begun : (first : Fact) (change : ChangeState) → HasBegun change → wished first change ≡ change
keeps_begun first Settled begun = absurd begun
keeps_begun first (Wanted change) begun = refl
keeps_begun first (Finishing f) begun = refl

-- ## A tick without calls

one_task : (me : ℕ) (t : Task) (x : State) (o : Out) (next : Rest State (List Task)) → driven me most_turns (t ∷ []) x o next ≡ task_done me t x o (λ more y p. driven me (2 ^ 64 - 2) (more ++ []) y p next)
unfolding driven
one_task me t x o next = ap (λ (n : ℕ). driven me n (t ∷ []) x o next) most_is_some

without_calls : (leader : Leader) → leader.table.calls ≡ [] → has_calls leader.table.calls ≡ false
without_calls leader none = ap has_calls none

module _ (me : ℕ) (leader : Leader) (x : State) where
  -- the leader has begun no change
  abbrev calm : Leadership
  calm = record { leader = leader; change = Settled }

  -- rule 26 does nothing at the end of the step
  ends : (o : Out) → concluded me (leading calm x) o (λ u y p. Done y p) ≡ Done (leading calm x) (and_sends o [])
  ends o = no_tasks most_turns me (leading calm x) (and_sends o []) (λ rest z q. Done z q)

  abbrev after : Rest State (List Task)
  after rest z q = concluded me z q (λ u y p. Done y p)

  abbrev told : Out
  told = and_sends nothing (ticks x.fact calm)

  -- what follows once the members were sent their messages, by what is asked for
  abbrev onward : ChangeState → Plan State
  onward change = driven me (2 ^ 64 - 2) (named (begins change) ++ []) (leading (record calm { change = change }) x) told after

  reminds : (HasTwoViews leader.fact.views → ⊥) → driven me most_turns (tasks.Remind ∷ []) (leading calm x) nothing after ≡ Done (leading calm x) (and_sends told [])
  reminds one =
      one_task me tasks.Remind (leading calm x) nothing after ∙ ap (λ (change : ChangeState). onward change) (keeps_one leader.fact one) ∙ no_tasks (2 ^ 64 - 2) me (leading calm x) told after ∙ ends told

  -- what follows the calls of the tick
  abbrev ticked : Leader × LeadOut → Plan State
  ticked r = lead_done me r.1 (leading (with_leader r.0 calm) (leading calm x)) nothing (λ ts y o. driven me most_turns (ts ++ tasks.Remind ∷ []) y o after)

  pub quiet : leader.table.calls ≡ [] → (HasTwoViews leader.fact.views → ⊥)
      → step_of me events.Tick (leading calm x) ≡ Done (leading calm x) (record { sends = (row_5_rest None x.fact leader).sends; answers = []; changes = [] })
  quiet none one =
      ap (λ (r : Leader × LeadOut). ticked r) (row_5_idle None leader (without_calls leader none)) ∙ reminds one
      ∙ ap (λ (sends : List Outgoing). Done (leading calm x) (record { sends = sends; answers = []; changes = [] })) (append-nil (row_5_rest None x.fact leader).sends)

pub tick_reminds : (me : ℕ) (leader : Leader) (x : State) → x.phase ≡ phases.Leading (record { leader = leader; change = Settled }) → leader.table.calls ≡ [] → (HasTwoViews leader.fact.views → ⊥)
    → step_of me events.Tick x ≡ Done x (record { sends = (row_5_rest None x.fact leader).sends; answers = []; changes = [] })
tick_reminds me leader x same none one =
    subst (λ (phase : Phase). step_of me events.Tick (record x { phase = phase }) ≡ Done (record x { phase = phase }) (record { sends = (row_5_rest None x.fact leader).sends; answers = []; changes = [] })) (sym same) (quiet me leader x none one)
