-- Which starts have sealing on.
use Rattle.std.proofs.Common.{◌≡◌, ℕ, Bool, true, false, ◌||◌, List, [], ◌∷◌, ◌++◌, refl, sym, ap, ◌∙◌, inl, inr, eqb-true}
use Rattle.std.specs.Prelude.{◌↔◌}
use Rattle.std.specs.List.{list_any}
use Rattle.std.proofs.lemmas.Bool.{eq-eqb, false≢true, or_left, or_right}
use Rattle.ens_base.specs.Lists.{◌∈◌}
use Rattle.schedule_text.specs.Starts.{has_sealing, HasSealing, upgrades}
use Rattle.schedule_text.specs.declared.event.ScheduleEvent.{ScheduleEvent}
use Rattle.schedule_text.specs.declared.event.ScheduleEvent.TheVariants.{Upgrade}
use Rattle.schedule_text.specs.declared.form.Form.{Form}
use Rattle.schedule_text.specs.declared.form.Form.TheVariants.{One, Two, Three}

-- ## Lines that upgrade a peer

upgrading : (p : ℕ) (event : ScheduleEvent) → upgrades p event ≡ true → Upgrade p ≡ event
upgrading p (Upgrade peer) h = ap Upgrade (eqb-true p peer h)
upgrading p _ h = absurd (false≢true h)

upgraded_by : (p : ℕ) (events : List ScheduleEvent) → list_any (upgrades p) events ≡ true → Upgrade p ∈ events
upgraded_by p [] h = absurd (false≢true h)
upgraded_by p (event ∷ more) h = by (upgrades p event) refl h (upgraded_by p more)
  where
    by : (b : Bool) → upgrades p event ≡ b → (b || list_any (upgrades p) more) ≡ true → (list_any (upgrades p) more ≡ true → Upgrade p ∈ more) → Upgrade p ∈ event ∷ more
    by true e h later = inl (upgrading p event e)
    by false e h later = inr (later h)

by_upgrade : (p : ℕ) (events : List ScheduleEvent) → Upgrade p ∈ events → list_any (upgrades p) events ≡ true
by_upgrade p [] at = absurd at
by_upgrade p (event ∷ more) (inl same) = or_left (upgrades p event) (list_any (upgrades p) more) (ap (upgrades p) (sym same) ∙ eq-eqb p p refl)
by_upgrade p (event ∷ more) (inr at) = or_right (upgrades p event) (list_any (upgrades p) more) (by_upgrade p more at)

-- ## Starts

has : (form : Form) (before : List ScheduleEvent) (p : ℕ) → has_sealing form before p ≡ true → HasSealing form before p
has One before p h = inr (inr (upgraded_by p before h))
has Two before p h = inl refl
has Three before p h = inr (inl refl)

had : (form : Form) (before : List ScheduleEvent) (p : ℕ) → HasSealing form before p → has_sealing form before p ≡ true
had One before p (inl same) = cc same
had One before p (inr (inl same)) = cc same
had One before p (inr (inr at)) = by_upgrade p before at
had Two before p h = refl
had Three before p h = refl

pub sealed_exactly : (form : Form) (before : List ScheduleEvent) (p : ℕ) → ((has_sealing form before p ≡ true) ↔ HasSealing form before p)
sealed_exactly form before p = (has form before p, had form before p)

still_upgraded : (p : ℕ) (before more : List ScheduleEvent) → list_any (upgrades p) before ≡ true → list_any (upgrades p) (before ++ more) ≡ true
still_upgraded p [] more h = absurd (false≢true h)
still_upgraded p (event ∷ before) more h = by (upgrades p event) h (still_upgraded p before more)
  where
    by : (b : Bool) → (b || list_any (upgrades p) before) ≡ true → (list_any (upgrades p) before ≡ true → list_any (upgrades p) (before ++ more) ≡ true)
        → (b || list_any (upgrades p) (before ++ more)) ≡ true
    by true h later = refl
    by false h later = later h

pub sealed_later : (form : Form) (before more : List ScheduleEvent) (p : ℕ) → has_sealing form before p ≡ true → has_sealing form (before ++ more) p ≡ true
sealed_later One before more p h = still_upgraded p before more h
sealed_later Two before more p h = refl
sealed_later Three before more p h = refl
