-- Peers of lines `revert`, and views of lines `change`.
use Rattle.std.proofs.Common.{◌≡◌, ℕ, zero, suc, ◌<◌, Bool, true, false, ◌||◌, List, [], ◌∷◌, ◌++◌, length, get_or, refl, sym, ap, subst, ◌∙◌, inl, inr, eqb-true, arith}
use Rattle.std.proofs.lemmas.Bool.{eq-eqb, false≢true, or_right, or_left}
use Rattle.ens_base.specs.Lists.{◌∈◌}
use Rattle.ens_base.specs.View.{IsView}
use Rattle.schedule_text.specs.Spelling.{MayStand, AllMayStand}
use Rattle.schedule_text.specs.declared.event.ScheduleEvent.{ScheduleEvent}
use Rattle.schedule_text.specs.declared.event.ScheduleEvent.TheVariants.{Change, Revert}
use Rattle.schedule_input.specs.Premise.{changed_views, is_reverted, reverts, views_of_line}

-- ## The lines that a loop visits

pub stands_at : (peers : ℕ) (events : List ScheduleEvent) (i : ℕ) (d : ScheduleEvent) → i < length events → AllMayStand peers events → MayStand peers (get_or events i d)
stands_at peers [] i d below all = absurd (omega arith)
stands_at peers (event ∷ more) zero d below all = all.0
stands_at peers (event ∷ more) (suc i) d below all = stands_at peers more i d (omega (arith, below)) all.1

-- ## A line stands among the events

reverting : (p : ℕ) (event : ScheduleEvent) → reverts p event ≡ true → (changes : ℕ) × (Revert p changes ≡ event)
reverting p (Revert peer changes) h = (changes, ap (λ (q : ℕ). Revert q changes) (eqb-true p peer h))
reverting p _ h = absurd (false≢true h)

pub reverted_by : (p : ℕ) (events : List ScheduleEvent) → is_reverted events p ≡ true → (changes : ℕ) × (Revert p changes ∈ events)
reverted_by p [] h = absurd (false≢true h)
reverted_by p (event ∷ more) h = by (reverts p event) refl h (reverted_by p more)
  where
    by : (b : Bool) → reverts p event ≡ b → (b || is_reverted more p) ≡ true → (is_reverted more p ≡ true → (changes : ℕ) × (Revert p changes ∈ more)) → (changes : ℕ) × (Revert p changes ∈ event ∷ more)
    by true e h later = let here = reverting p event e in (here.0, inl here.1)
    by false e h later = let there = later h in (there.0, inr there.1)

pub by_revert : (p changes : ℕ) (events : List ScheduleEvent) → Revert p changes ∈ events → is_reverted events p ≡ true
by_revert p changes [] at = absurd at
by_revert p changes (event ∷ more) (inl same) = or_left (reverts p event) (is_reverted more p) (ap (reverts p) (sym same) ∙ eq-eqb p p refl)
by_revert p changes (event ∷ more) (inr at) = or_right (reverts p event) (is_reverted more p) (by_revert p changes more at)

-- the view of a line, among those of the lines
pub asked_by : (view : List ℕ) (events : List ScheduleEvent) → view ∈ changed_views events → (peer : ℕ) × (Change peer view ∈ events)
asked_by view [] at = absurd at
asked_by view (Change peer asked ∷ more) (inl same) = (peer, inl (ap (λ (v : List ℕ). Change peer v) same))
asked_by view (Change peer asked ∷ more) (inr at) = let there = asked_by view more at in (there.0, inr there.1)
asked_by view (_ ∷ more) at = let there = asked_by view more at in (there.0, inr there.1)

in_more : (view : List ℕ) (event : ScheduleEvent) (views : List (List ℕ)) → view ∈ views → view ∈ views_of_line event ++ views
in_more view (Change peer asked) views at = inr at
in_more view _ views at = at

pub by_change : (peer : ℕ) (view : List ℕ) (events : List ScheduleEvent) → Change peer view ∈ events → view ∈ changed_views events
by_change peer view [] at = absurd at
by_change peer view (event ∷ more) (inl same) = let P : ScheduleEvent → Type 0 = λ e. view ∈ views_of_line e ++ changed_views more in subst P same (inl refl)
by_change peer view (event ∷ more) (inr at) = in_more view event (changed_views more) (by_change peer view more at)

-- a line `change` names a view
pub view_stands : (peers peer : ℕ) (view : List ℕ) (events : List ScheduleEvent) → AllMayStand peers events → Change peer view ∈ events → IsView view
view_stands peers peer view [] all at = absurd at
view_stands peers peer view (event ∷ more) all (inl same) = let P : ScheduleEvent → Type 0 = MayStand peers in (subst P (sym same) all.0).2
view_stands peers peer view (event ∷ more) all (inr at) = view_stands peers peer view more all.1 at
