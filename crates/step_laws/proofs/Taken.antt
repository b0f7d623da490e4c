-- When a request to change the view is taken.
use Rattle.std.specs.Prelude.{◌↔◌}
use Rattle.std.proofs.Common.{◌≡◌, ◌∙◌, ◌&&◌, ap, refl, sym, not, ℕ, Bool, true, false, if◌then◌else◌, List, [], ◌∷◌}
use Rattle.std.proofs.lemmas.Bool.{true≢false, false≢true, and_parts, not-true}
use Rattle.call_table.specs.declared.waiting.Waiting.{Waiting}
use Rattle.ens_base.specs.Views.{first_view}
use Rattle.ens_base.proofs.Lists.{bytes_same, bytes_itself}
use Rattle.ens_base.proofs.Tests.{true_of_not}
use Rattle.leader_output.specs.declared.out.AnswerOut.{AnswerOut}
use Rattle.stored_formats.specs.declared.fact.Fact.{Fact}
use Rattle.peer_spec.specs.Drives.{step_of}
use Rattle.peer_spec.specs.Kept.{IsStepCall}
use Rattle.peer_state.specs.Rows.{leads, changes, has_begun, asked_change}
use Rattle.peer_state.specs.declared.event.Event.TheVariants as events
use Rattle.peer_state.specs.declared.state.ChangeState.{ChangeState}
use Rattle.peer_state.specs.declared.state.ChangeState.TheVariants.{Settled, Wanted, Finishing}
use Rattle.peer_state.specs.declared.state.Phase.{Phase}
use Rattle.peer_state.specs.declared.state.Phase.TheVariants as phases
use Rattle.peer_state.specs.declared.state.State.{State}
use Rattle.phase_rows.specs.Orders.{is_joint}
use Rattle.phase_rows.specs.Rows.{silent}
use Rattle.phase_rows.specs.declared.phase.PhaseOut.{PhaseOut}
use Rattle.phase_rows.specs.declared.phase.Then.TheVariants.{Stay, Rule}
use Rattle.phase_rows.specs.declared.rules.PhaseRule.TheVariants as phase_rules
use Rattle.step_plans.specs.Plans.{Follows}
use Rattle.phase_rules.specs.Changes.{may_change, row_24, same_view}
use Rattle.step_laws.specs.Changing.{LeadsWithoutChange, HasTwoViews, TakesChange}
use Rattle.step_laws.proofs.Walks.{Keeps, step_keeps}

-- nothing but the event replies to a request
changes_keep : (on_keys : Bool) (replies : List Bool) → Keeps on_keys (λ (calls : List Waiting) (answers : List AnswerOut) (taken : List Bool). taken ≡ replies)
changes_keep on_keys replies = record {
  left = λ calls answers taken is. is;
  served = λ keys leave key old new more notes answers taken serves is. is;
  aged = λ keys calls answers taken is. is;
  due = λ keys calls answers taken is. is;
}

settled_of : (change : ChangeState) → has_begun change ≡ false → change ≡ Settled
settled_of Settled is = refl
settled_of (Wanted change) is = absurd (true≢false is)
settled_of (Finishing f) is = absurd (true≢false is)

without_change : (phase : Phase) → leads phase ≡ true → changes phase ≡ false → LeadsWithoutChange phase
without_change (phases.Leading l) led none = settled_of l.change none
without_change (phases.Following f) led none = absurd (false≢true led)
without_change (phases.Probing p) led none = absurd (false≢true led)
without_change (phases.Electing e) led none = absurd (false≢true led)

leads_so : (phase : Phase) → LeadsWithoutChange phase → leads phase ≡ true
leads_so (phases.Leading l) settled = refl
leads_so (phases.Following f) settled = absurd settled
leads_so (phases.Probing p) settled = absurd settled
leads_so (phases.Electing e) settled = absurd settled

changes_so : (phase : Phase) → LeadsWithoutChange phase → changes phase ≡ false
changes_so (phases.Leading l) settled = ap has_begun settled
changes_so (phases.Following f) settled = absurd settled
changes_so (phases.Probing p) settled = absurd settled
changes_so (phases.Electing e) settled = absurd settled

pub two_joint : (views : List (List ℕ)) → HasTwoViews views → is_joint views ≡ true
two_joint views two = ap is_joint two.3

pub one_not_joint : (views : List (List ℕ)) → (HasTwoViews views → ⊥) → is_joint views ≡ false
one_not_joint [] one = refl
one_not_joint (view ∷ []) one = refl
one_not_joint (new ∷ (old ∷ rest)) one = absurd (one (new, old, rest, refl))

taken_is : (fact : Fact) (led finishing : Bool) (view : List ℕ) → (row_24 fact led finishing view).1 ≡ may_change fact led finishing view
taken_is fact led finishing view = by (may_change fact led finishing view)
  where
    by : (b : Bool) → (let r : PhaseOut × Bool = if b then (silent (Rule phase_rules.BeginChange), true) else (silent Stay, false) in r.1 ≡ b)
    by true = refl
    by false = refl

-- the row in the words of the rule
taken_takes : (view : List ℕ) (x : State) → may_change x.fact (leads x.phase) (changes x.phase) view ≡ true → TakesChange view x
taken_takes view x is =
    let last = and_parts (leads x.phase && not (changes x.phase) && not (is_joint x.fact.views)) (not (same_view (first_view x.fact.views) view)) is in
    let third = and_parts (leads x.phase && not (changes x.phase)) (not (is_joint x.fact.views)) last.0 in
    let first = and_parts (leads x.phase) (not (changes x.phase)) third.0 in
    record {
      leads = without_change x.phase first.0 (not-true (changes x.phase) first.1);
      one = λ two. true≢false (sym (two_joint x.fact.views two) ∙ not-true (is_joint x.fact.views) third.1);
      other = λ same. true≢false (sym (ap (same_view (first_view x.fact.views)) (sym same) ∙ bytes_itself (first_view x.fact.views)) ∙ not-true (same_view (first_view x.fact.views) view) last.1);
    }

takes_taken : (view : List ℕ) (x : State) → TakesChange view x → may_change x.fact (leads x.phase) (changes x.phase) view ≡ true
takes_taken view x takes =
    rw (leads_so x.phase takes.leads) (rw (changes_so x.phase takes.leads) (rw (one_not_joint x.fact.views takes.one) (true_of_not (same_view (first_view x.fact.views) view) (λ same. takes.other (bytes_same (first_view x.fact.views) view same)))))

pub taken_exactly : (me : ℕ) (view : List ℕ) (x : State) → Follows IsStepCall (λ y out. (taken : Bool) × (out.changes ≡ taken ∷ []) × ((taken ≡ true) ↔ TakesChange view x)) (step_of me (events.Change view) x)
taken_exactly me view x =
    let took : Bool = (asked_change view x).1.1 in
    let is = taken_is x.fact (leads x.phase) (changes x.phase) view in
    step_keeps me false (λ calls answers taken. taken ≡ took ∷ []) (changes_keep false (took ∷ [])) (λ y out. (taken : Bool) × (out.changes ≡ taken ∷ []) × ((taken ≡ true) ↔ TakesChange view x)) (events.Change view) x refl
    (λ y out same. (took, same, ((λ t. taken_takes view x (sym is ∙ t)), (λ takes. is ∙ takes_taken view x takes))))
