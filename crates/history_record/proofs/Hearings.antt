-- One line more behind the line `answers`.
use Rattle.std.proofs.Common.{◌≡◌, ℕ, ◌+◌, ◌*◌, ◌≤◌, Bool, true, false, cond, List, [], ◌∷◌, ◌++◌, length, map, Option, None, Some, inl, inr, ◌⊎◌, refl, sym, ap, subst, ◌∙◌, arith, append_assoc}
use Rattle.std.specs.Prelude.{◌==◌, ◌||◌, if◌then◌else◌}
use Rattle.std.specs.List.{list_any}
use Rattle.std.specs.BTreeMap.{is_at}
use Rattle.std.specs.Ordering.{nat_cmp}
use Rattle.std.proofs.lemmas.Bool.{eq-eqb, ne_eqb}
use Rattle.std.proofs.Math.Bool.{or-false}
use Rattle.ens_base.specs.Lists.{◌∈◌, AreDistinct}
use Rattle.ens_base.proofs.Lists.{in-map}
use Rattle.ens_base.proofs.Tests.{at_number, apart}
use Rattle.register_model.specs.declared.answer.Answer.{Answer}
use Rattle.register_model.specs.declared.call.Call.{Call}
use Rattle.register_model.specs.declared.history.History.{History}
use Rattle.schedule_text.specs.declared.event.ScheduleEvent.{ScheduleEvent}
use Rattle.schedule_text.specs.declared.event.ScheduleEvent.TheVariants as line
use Rattle.schedule_text.specs.declared.schedule.Schedule.{Schedule}
use Rattle.schedule_text.proofs.Ids.{in_end}
use Rattle.history_record.specs.Calls.{call_event, calls_from}
use Rattle.history_record.specs.Kept.{IsFit, IsKept, IsSound}
use Rattle.history_record.specs.Telling.{Heard, is_answered, nothing_heard}
use Rattle.history_record.proofs.Gathered.{HasGathered}

-- ## The event of a call

event_of_call : (n : ℕ) (events : List ScheduleEvent) (c : Call) → AreDistinct (map (λ d. d.id) (calls_from n events)) → c ∈ calls_from n events → call_event n events c.id ≡ Some c.event
event_of_call n [] c distinct there = absurd there
event_of_call n (line.Call peer id key command ∷ more) c distinct (inl e) =
    let same : (id == c.id) ≡ true = eq-eqb id c.id (sym (ap (λ (d : Call). d.id) e)) in
    rw same (ap (λ (d : Call). Some d.event) (sym e))
event_of_call n (line.Call peer id key command ∷ more) c distinct (inr there) =
    let off : (id == c.id) ≡ false = ne_eqb id c.id (λ is. distinct.0 (subst (λ (i : ℕ). i ∈ map (λ d. d.id) (calls_from (n + 1) more)) (sym is) (in-map (λ (d : Call). d.id) (calls_from (n + 1) more) c there))) in
    rw off (event_of_call (n + 1) more c distinct.1 there)
event_of_call n (_ ∷ more) c distinct there = event_of_call (n + 1) more c distinct there

some_same : (x y : ℕ) → Some x ≡ Some y → x ≡ y
some_same x y e = cc

-- ## One item more

any_more : {A : Type 0} (test : A → Bool) (xs : List A) (x : A) → list_any test (xs ++ x ∷ []) ≡ (list_any test xs || test x)
any_more test [] x = or-false (test x)
any_more test (y ∷ ys) x = by (test y) (any_more test ys x)
  where
    by : (b : Bool) → list_any test (ys ++ x ∷ []) ≡ (list_any test ys || test x) → (b || list_any test (ys ++ x ∷ [])) ≡ ((b || list_any test ys) || test x)
    by true e = refl
    by false e = e

-- a lookup of what is open, without an item that was just given
closed_one : (given same : Bool) (o next : Option ℕ) → next ≡ cond same None (if given then None else o) → next ≡ (if given || same then None else o)
closed_one true true o next e = e
closed_one true false o next e = e
closed_one false true o next e = e
closed_one false false o next e = e

open_means : (b : Bool) (o : Option ℕ) (x : ℕ) → (if b then None else o) ≡ Some x → (b ≡ false) × (o ≡ Some x)
open_means true o x h = absurd cc
open_means false o x h = (refl, h)

map_end : {A B : Type 0} (f : A → B) (xs : List A) (x : A) → map f (xs ++ x ∷ []) ≡ map f xs ++ f x ∷ []
map_end f [] x = refl
map_end {B = B} f (y ∷ ys) x = ap (λ (l : List B). f y ∷ l) (map_end f ys x)

distinct_end : (y : ℕ) (xs : List ℕ) → AreDistinct xs → ¬ (y ∈ xs) → AreDistinct (xs ++ y ∷ [])
distinct_end y [] h k = (λ m. m, tt)
distinct_end y (x ∷ xs) h k = (at, distinct_end y xs h.1 (λ m. k (inr m)))
  where
    by : (x ∈ xs) ⊎ (x ≡ y) → ⊥
    by (inl m) = h.0 m
    by (inr e) = k (inl (sym e))

    at : ¬ (x ∈ (xs ++ y ∷ []))
    at m = by (in_end x y xs m)

not_given : (answers : List Answer) (id : ℕ) → is_answered answers id ≡ false → ¬ (id ∈ map (λ a. a.id) answers)
not_given [] id h there = there
not_given (a ∷ answers) id h there = by (a.id == id) refl h there (not_given answers id)
  where
    by : (b : Bool) → (a.id == id) ≡ b → (b || is_answered answers id) ≡ false → (id ≡ a.id) ⊎ (id ∈ map (λ x. x.id) answers) → (is_answered answers id ≡ false → ¬ (id ∈ map (λ x. x.id) answers)) → ⊥
    by true e k m later = cc
    by false e k (inl is) later = apart (a.id == id) (eq-eqb a.id id (sym is)) e
    by false e k (inr m) later = later k m

module _ (h : Heard) (calls changes : ℕ → Option ℕ) (more : ℕ) (sound : IsSound h) (kept : IsKept h calls changes more) where
  abbrev answered : Answer → Heard
  answered a = record h { lines = h.lines + 1; answers = h.answers ++ a ∷ []; latest = a.event }

  module _ (a : Answer) (called : ℕ) (found : Some called ≡ calls a.id) where
    opened : (is_answered h.answers a.id ≡ false) × (call_event 1 h.schedule.events a.id ≡ Some called)
    opened = open_means (is_answered h.answers a.id) (call_event 1 h.schedule.events a.id) called (sym (kept.calls a.id) ∙ sym found)

    pub answer_sound : called ≤ a.event → IsSound (answered a)
    answer_sound late = record {
      schedule = sound.schedule;
      answers = subst AreDistinct (sym (map_end (λ (x : Answer). x.id) h.answers a)) (distinct_end a.id (map (λ (x : Answer). x.id) h.answers) sound.answers (not_given h.answers a.id opened.0));
      in_order = λ b c given there named. by b c (in_end b a h.answers given) there named;
      keys = sound.keys;
    }
      where
        by : (b : Answer) (c : Call) → (b ∈ h.answers) ⊎ (b ≡ a) → c ∈ calls_from 1 h.schedule.events → b.id ≡ c.id → c.event ≤ b.event
        by b c (inl given) there named = sound.in_order b c given there named
        by b c (inr is) there named =
            let at : call_event 1 h.schedule.events c.id ≡ Some c.event = event_of_call 1 h.schedule.events c sound.schedule.calls there in
            let same : a.id ≡ c.id = ap (λ (x : Answer). x.id) (sym is) ∙ named in
            let event : called ≡ c.event = some_same called c.event (sym opened.1 ∙ ap (call_event 1 h.schedule.events) same ∙ at) in
            let later : c.event ≤ a.event = subst (λ (n : ℕ). n ≤ a.event) event late in
            subst (λ (x : Answer). c.event ≤ x.event) (sym is) later

    pub answer_kept : (next : ℕ → Option ℕ) (n : ℕ) → ((q : ℕ) → next q ≡ cond (is_at (nat_cmp a.id) q) None (calls q)) → n + 1 ≤ more → IsKept (answered a) next changes n
    answer_kept next n updates less = record {
      calls = λ q. closed_one (is_answered h.answers q) (a.id == q) (call_event 1 h.schedule.events q) (next q) (updates q ∙ (λ i. cond (at_number a.id q i) None (kept.calls q i)))
          ∙ ap (λ (b : Bool). if b then None else call_event 1 h.schedule.events q) (sym (any_more (λ (x : Answer). x.id == q) h.answers a));
      changes = kept.changes;
      few = let few : h.lines + more ≤ 800004 = kept.few in omega arith;
    }

  abbrev changed : ℕ → Heard
  changed event = record h { lines = h.lines + 1; changes = h.changes ++ event ∷ []; latest = event }

  abbrev told : History → List (List ℕ) → Heard
  told history keys = record h { lines = h.lines + 1; histories = h.histories ++ history ∷ []; keys = keys }

  pub history_sound : (history : History) (keys : List (List ℕ)) → h.keys ≡ history.key ∷ keys → IsSound (told history keys)
  history_sound history keys is = record {
    schedule = sound.schedule;
    answers = sound.answers;
    in_order = sound.in_order;
    keys = ap (λ (l : List (List ℕ)). l ++ keys) (map_end (λ (x : History). x.key) h.histories history) ∙ append_assoc (map (λ (x : History). x.key) h.histories) (history.key ∷ []) keys
        ∙ ap (λ (l : List (List ℕ)). map (λ (x : History). x.key) h.histories ++ l) (sym is) ∙ sound.keys;
  }

  pub history_kept : (history : History) (keys : List (List ℕ)) (n : ℕ) → n + 1 ≤ more → IsKept (told history keys) calls changes n
  history_kept history keys n less = record { calls = kept.calls; changes = kept.changes; few = let few : h.lines + more ≤ 800004 = kept.few in omega arith }

-- ## The beginning

pub first_kept : (s : Schedule) (calls changes : ℕ → Option ℕ) (keys : List (List ℕ)) (n : ℕ) → IsFit s → HasGathered s.events calls changes keys n 0 → IsKept (nothing_heard s) calls changes n
first_kept s calls changes keys n fit has = record {
  calls = has.calls;
  changes = has.changes;
  few = let few : length s.events + 3 ≤ 200000 = fit.lines in let some : n + 2 * 0 ≤ 2 * length s.events = has.few in omega arith;
}
