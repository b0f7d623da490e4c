-- What the search for a failing view says of a schedule.
use Rattle.std.proofs.Common.{◌≡◌, ℕ, Bool, true, false, not, if◌then◌else◌, None, Some, List, [], ◌∷◌, refl, sym, ap, subst, ◌∙◌, inl, inr, arith}
use Rattle.std.specs.Prelude.{◌↔◌, find}
use Rattle.std.proofs.lemmas.Bool.{true≢false, false≢true, not-false}
use Rattle.ens_base.specs.Lists.{◌∈◌}
use Rattle.ens_base.specs.PeerSet.{holds}
use Rattle.ens_base.specs.View.{IsView}
use Rattle.ens_base.proofs.Tests.{true_of_not}
use Rattle.quorums.specs.Quorums.{is_majority, is_quorum, Meet}
use Rattle.quorums.proofs.Majorities.{majority_more, meet_of_majorities, quorum_of_all}
use Rattle.schedule_text.specs.Spelling.{IsSchedule}
use Rattle.schedule_text.specs.Forms.{is_sealed}
use Rattle.schedule_text.specs.declared.form.Form.{Form}
use Rattle.schedule_text.specs.declared.form.Form.TheVariants.{One, Two, Three}
use Rattle.schedule_text.specs.declared.schedule.Schedule.{Schedule}
use Rattle.schedule_input.specs.Premise.{fails, first_failing, first_unsound, is_firm, is_reverted, keeps_majority, views_named}
use Rattle.schedule_input.specs.Sound.{FailsFirst, HasKept, IsNamed, IsReverted, IsSound, KeepsMajority}
use Rattle.schedule_input.proofs.Lines.{asked_by, by_change, by_revert, reverted_by, view_stands}
use Rattle.schedule_input.proofs.Searches.{FoundAt, finds_none, found_at, found_first, none_passes}

not_true : (b : Bool) → not b ≡ true → b ≡ true → ⊥
not_true true h e = false≢true h
not_true false h e = false≢true e

not_of_true : (b : Bool) → b ≡ true → not b ≡ false
not_of_true true h = refl
not_of_true false h = absurd (false≢true h)

module _ (s : Schedule) where
  kept : ℕ → Bool
  kept p = not (is_reverted s.events p)

  kept_not : (p : ℕ) → not (is_reverted s.events p) ≡ true → ¬ IsReverted s p
  kept_not p h r = not_true (is_reverted s.events p) h (by_revert p r.0 s.events r.1)

  -- ## One view

  keeps : (view : List ℕ) → fails (is_reverted s.events) view ≡ false → KeepsMajority s view
  keeps view h = record { peers = λ p. not (is_reverted s.events p); majority = not-false (keeps_majority (is_reverted s.events) view) h; kept = kept_not }

  kept_holds : (view : List ℕ) → KeepsMajority s view → keeps_majority (is_reverted s.events) view ≡ true
  kept_holds view k = majority_more k.peers (λ p. not (is_reverted s.events p)) (λ p inside. true_of_not (is_reverted s.events p) (λ r. k.kept p inside (reverted_by p s.events r))) view k.majority

  passes : (view : List ℕ) → KeepsMajority s view → fails (is_reverted s.events) view ≡ false
  passes view k = not_of_true (keeps_majority (is_reverted s.events) view) (kept_holds view k)

  -- ## The named views

  pub named_in : (view : List ℕ) → view ∈ views_named s → IsNamed s view
  named_in view (inl same) = inl same
  named_in view (inr at) = inr (asked_by view s.events at)

  among : (view : List ℕ) → IsNamed s view → view ∈ views_named s
  among view (inl same) = inl same
  among view (inr asked) = inr (by_change asked.0 view s.events asked.1)

  -- each named view keeps a majority
  abbrev KeepMajorities : Type 0
  KeepMajorities = (view : List ℕ) → IsNamed s view → KeepsMajority s view

  none_keep : first_failing s ≡ None → KeepMajorities
  none_keep none view is = keeps view (none_passes (fails (is_reverted s.events)) (views_named s) none view (among view is))

  keep_none : KeepMajorities → first_failing s ≡ None
  keep_none keep = finds_none (fails (is_reverted s.events)) (views_named s) (λ view at. passes view (keep view (named_in view at)))

  pub none_is_sound : first_unsound s ≡ None → IsSound s
  none_is_sound none = by s.form refl none
    where
      by : (form : Form) → s.form ≡ form → (if is_sealed form then None else first_failing s) ≡ None → IsSound s
      by One is h = inr (inr (none_keep h))
      by Two is h = inl is
      by Three is h = inr (inl is)

  pub sound_is_none : IsSound s → first_unsound s ≡ None
  sound_is_none sound = by s.form refl sound
    where
      by : (form : Form) → s.form ≡ form → IsSound s → (if is_sealed form then None else first_failing s) ≡ None
      by One is (inl same) = cc (is, same)
      by One is (inr (inl same)) = cc (is, same)
      by One is (inr (inr keep)) = keep_none keep
      by Two is sound = refl
      by Three is sound = refl

  fails_first : (view : List ℕ) → s.form ≡ One → first_failing s ≡ Some view → FailsFirst s view
  fails_first view is found =
      let at : FoundAt (fails (is_reverted s.events)) (views_named s) view = found_at (fails (is_reverted s.events)) (views_named s) view found in
      record {
        form = is;
        earlier = at.earlier;
        later = at.later;
        place = at.place;
        sound = λ v inside. keeps v (at.failed v inside);
        fails = λ k. true≢false (sym at.passed ∙ passes view k);
      }

  pub found_fails : (view : List ℕ) → first_unsound s ≡ Some view → FailsFirst s view
  found_fails view found = by s.form refl found
    where
      by : (form : Form) → s.form ≡ form → (if is_sealed form then None else first_failing s) ≡ Some view → FailsFirst s view
      by One is h = fails_first view is h
      by Two is h = cc h
      by Three is h = cc h

  failing : (view : List ℕ) → ¬ KeepsMajority s view → fails (is_reverted s.events) view ≡ true
  failing view never = by (fails (is_reverted s.events) view) refl
    where
      by : (b : Bool) → fails (is_reverted s.events) view ≡ b → fails (is_reverted s.events) view ≡ true
      by true e = e
      by false e = absurd (never (keeps view e))

  -- the premise is asked where not every start has sealing on
  asked_of : is_sealed s.form ≡ false → first_unsound s ≡ first_failing s
  asked_of unsealed = rw unsealed refl

  pub fails_found : (view : List ℕ) → FailsFirst s view → first_unsound s ≡ Some view
  fails_found view f =
      asked_of (ap is_sealed f.form) ∙ ap (find (fails (is_reverted s.events))) f.place
      ∙ found_first (fails (is_reverted s.events)) f.earlier f.later view (λ v inside. passes v (f.sound v inside)) (failing view f.fails)

  -- ## Majorities of a sound schedule

  pub majority_kept : (view : List ℕ) (peers : ℕ → Bool) → s.form ≡ One → IsSound s → IsNamed s view → is_majority peers view ≡ true → HasKept s peers view
  majority_kept view peers is (inl same) named more = cc (is, same)
  majority_kept view peers is (inr (inl same)) named more = cc (is, same)
  majority_kept view peers is (inr (inr keep)) named more =
      let k : KeepsMajority s view = keep view named in
      let m : Meet k.peers peers view = meet_of_majorities k.peers peers view k.majority more in
      record { peer = m.peer; member = m.member; inside = m.in_right; kept = k.kept m.peer m.in_left }

  one_view : (peers : ℕ → Bool) (view : List ℕ) → is_quorum peers (view ∷ []) ≡ true → is_majority peers view ≡ true
  one_view peers view h = grind arith

  all_of : (view : List ℕ) → IsView view → is_majority (λ p. true) view ≡ true
  all_of view is = one_view (λ p. true) view (quorum_of_all (λ p. true) (λ q. refl) view is.size.0)

  named_view : IsSchedule s → (view : List ℕ) → IsNamed s view → IsView view
  named_view of view (inl same) = let P : List ℕ → Type 0 = IsView in subst P (sym same) of.view.1
  named_view of view (inr asked) = view_stands s.peers asked.0 view s.events of.events asked.1

  pub majority_firm : (view : List ℕ) → IsSchedule s → IsSound s → IsNamed s view → is_majority (is_firm s.form s.events) view ≡ true
  majority_firm view of sound is = by s.form refl sound
    where
      by : (form : Form) → s.form ≡ form → IsSound s → is_majority (is_firm form s.events) view ≡ true
      by One one (inl same) = cc (one, same)
      by One one (inr (inl same)) = cc (one, same)
      by One one (inr (inr keep)) = kept_holds view (keep view is)
      by Two two sound = all_of view (named_view of view is)
      by Three three sound = all_of view (named_view of view is)

  -- ## No reverts

  all_kept : (view : List ℕ) → IsView view → ((p : ℕ) → ¬ IsReverted s p) → KeepsMajority s view
  all_kept view is none = record { peers = λ p. true; majority = all_of view is; kept = λ p inside. none p }

  pub unreverted_is_none : IsSchedule s → ((p : ℕ) → ¬ IsReverted s p) → first_unsound s ≡ None
  unreverted_is_none of none = sound_is_none (inr (inr (λ view is. all_kept view (named_view of view is) none)))

pub sound_exactly : (s : Schedule) → ((first_unsound s ≡ None) ↔ IsSound s)
sound_exactly s = (none_is_sound s, sound_is_none s)

pub first_exactly : (s : Schedule) (view : List ℕ) → ((first_unsound s ≡ Some view) ↔ FailsFirst s view)
first_exactly s view = (found_fails s view, fails_found s view)

-- the search with a set of the reverted peers
pub found_by : (s : Schedule) (set : List Bool) → ((p : ℕ) → holds set p ≡ is_reverted s.events p) → first_unsound s ≡ (if is_sealed s.form then None else find (fails (holds set)) (views_named s))
found_by s set same =
    let reverted : holds set ≡ is_reverted s.events = λ i p. same p i in
    ap (λ (peers : ℕ → Bool). if is_sealed s.form then None else find (fails peers) (views_named s)) (sym reverted)
