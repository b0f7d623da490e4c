-- Answers are numbered by their moments, and so are calls: so histories keep the order of the moments.
use Rattle.std.proofs.Common.{◌≡◌, ◌⊎◌, ◌<◌, ◌≤◌, ◌^◌, ◌+◌, ◌-◌, ◌++◌, ℕ, suc, Bool, List, [], ◌∷◌, length, map, append-nil, Option, None, Some, slice_get, arith, refl, sym, ap, ◌∙◌, subst, inl, inr}
use Rattle.std.proofs.lemmas.List.{append_assoc, length-append}
use Rattle.ens_base.proofs.Lists.{in_append, in_left}
use Rattle.ens_base.specs.Lists.{◌∈◌}
use Rattle.process_laws.proofs.Groups.{group_legal}
use Rattle.process_laws.specs.Laws.{AreLegal, KeepsRealTime}
use Rattle.process_laws.specs.Moments.{Group, Moment, Starts, Takes, Spoils, IsCutOff, after, answers_in, answers_of, call_in, calls_from, down_on, opening_of, run_of, run_on, with_contents}
use Rattle.process_laws.specs.Premises.{IsSound}
use Rattle.peer_state.specs.declared.event.Event.{Event}
use Rattle.peer_state.specs.declared.event.Event.TheVariants as events
use Rattle.register_model.specs.declared.answer.Answer.{Answer}
use Rattle.register_model.specs.declared.call.Call.{Call}
use Rattle.register_model.specs.declared.printed.Printed.{Printed}
use Rattle.register_model.specs.declared.printed.Printed.TheVariants as printed
use Rattle.step_plans.specs.LeaderOutput.{AnswerOut}
use Rattle.step_plans.specs.Plans.{Out}
use Rattle.world_spec.specs.Nodes.{Node, over_stores, started, stopped, taken}
use Rattle.world_spec.specs.Runs.{Run, answer_line, change_line, changed, changed_at, mode_at, next_event, place_of, printed_by, stepped_at}

-- ## Answers

pub answers_append : (xs ys : List Printed) → answers_in (xs ++ ys) ≡ answers_in xs ++ answers_in ys
answers_append [] ys = refl
answers_append (printed.Answer a ∷ xs) ys = ap (λ (rest : List Answer). a ∷ rest) (answers_append xs ys)
answers_append (printed.Change event peer taken ∷ xs) ys = answers_append xs ys

-- the lines of changes of views have no answers
pub changes_none : (number peer : ℕ) (changes : List Bool) → answers_in (map (change_line number peer) changes) ≡ []
changes_none number peer [] = refl
changes_none number peer (c ∷ changes) = changes_none number peer changes

-- the answers of a step have the number of its moment
line_numbered : (number : ℕ) (answers : List AnswerOut) (a : Answer) → a ∈ answers_in (map (answer_line number) answers) → a.event ≡ number
line_numbered number [] a at = absurd at
line_numbered number (x ∷ answers) a (inl is) = ap (λ (y : Answer). y.event) is
line_numbered number (x ∷ answers) a (inr later) = line_numbered number answers a later

step_numbered : (number peer : ℕ) (out : Out) (a : Answer) → a ∈ answers_in (printed_by number peer out) → a.event ≡ number
step_numbered number peer out a at = by (in_append (answers_in (map (answer_line number) out.answers)) (answers_in (map (change_line number peer) out.changes)) a
    (subst (λ (xs : List Answer). a ∈ xs) (answers_append (map (answer_line number) out.answers) (map (change_line number peer) out.changes)) at))
  where
    by : (a ∈ answers_in (map (answer_line number) out.answers)) ⊎ (a ∈ answers_in (map (change_line number peer) out.changes)) → a.event ≡ number
    by (inl here) = line_numbered number out.answers a here
    by (inr none) = absurd (subst (λ (xs : List Answer). a ∈ xs) (changes_none number peer out.changes) none)

-- what is printed after these lines has answers of numbers up to this one
record PrintsOn (old new : List Printed) (number : ℕ) : Type 0 where
  more : List Printed
  is : new ≡ old ++ more
  early : (a : Answer) → a ∈ answers_in more → a.event ≤ number

prints_nothing : (old : List Printed) (number : ℕ) → PrintsOn old old number
prints_nothing old number = record { more = []; is = sym (append-nil old); early = λ a at. absurd at }

-- a change of a node prints nothing
changed_prints : (o : Option Node) (p : ℕ) (change : Node → Node) (w : Run) → (changed_at o p change w).printed ≡ w.printed
changed_prints None p change w = refl
changed_prints (Some node) p change w = refl

-- nor does a start
start_prints : (p : ℕ) (w v : Run) → v.printed ≡ w.printed → (changed p (started (mode_at p v) v.view) v).printed ≡ w.printed
start_prints p w v same = changed_prints (slice_get v.nodes (place_of p)) p (started (mode_at p v) v.view) v ∙ same

stepped_prints : (o : Option Node) (p : ℕ) (event : Event) (w : Run) → PrintsOn w.printed (stepped_at o p event w).printed (next_event w.events)
stepped_prints None p event w = prints_nothing w.printed (next_event w.events)
stepped_prints (Some node) p event w = record {
  more = printed_by (next_event w.events) p (taken p event node).out;
  is = refl;
  early = λ a at. up_to a.event (next_event w.events) (step_numbered (next_event w.events) p (taken p event node).out a at);
}
  where
    up_to : (m n : ℕ) → m ≡ n → m ≤ n
    up_to m n is = omega (arith, is)

moment_prints : (m : Moment) (w : Run) → PrintsOn w.printed (after m w).printed (next_event w.events)
moment_prints (Starts p found) w = subst (λ (lines : List Printed). PrintsOn w.printed lines (next_event w.events))
    (sym (start_prints p w (changed p (down_on found) w) (changed_prints (slice_get w.nodes (place_of p)) p (down_on found) w))) (prints_nothing w.printed (next_event w.events))
moment_prints (Takes p event) w = stepped_prints (slice_get w.nodes (place_of p)) p event w
moment_prints (Spoils p nodes objects) w = subst (λ (lines : List Printed). PrintsOn w.printed lines (next_event w.events))
    (sym (changed_prints (slice_get w.nodes (place_of p)) p (over_stores (with_contents nodes objects)) w)) (prints_nothing w.printed (next_event w.events))
moment_prints (IsCutOff p) w = subst (λ (lines : List Printed). PrintsOn w.printed lines (next_event w.events))
    (sym (changed_prints (slice_get w.nodes (place_of p)) p stopped w)) (prints_nothing w.printed (next_event w.events))

-- ## Many moments

pub next_is : (m n : ℕ) → m ≡ n → n < 2 ^ 64 - 1 → next_event m ≡ n + 1
next_is m n same below = omega arith

run_prints : (ms : List Moment) (w : Run) (number : ℕ) → w.events ≡ number → number + length ms < 2 ^ 64 → PrintsOn w.printed (run_on ms w).printed (number + length ms)
run_prints [] w number at few = prints_nothing w.printed (number + 0)
run_prints (m ∷ ms) w number at few = both (moment_prints m w) (run_prints ms (after m w) (number + 1) next (rest number (length ms) few))
  where
    first : (n k : ℕ) → n + suc k < 2 ^ 64 → n < 2 ^ 64 - 1
    first n k h = omega arith

    rest : (n k : ℕ) → n + suc k < 2 ^ 64 → n + 1 + k < 2 ^ 64
    rest n k h = omega arith

    next : next_event w.events ≡ number + 1
    next = next_is w.events number at (first number (length ms) few)

    sooner : (e n k : ℕ) → e ≤ n + 1 → e ≤ n + suc k
    sooner e n k h = omega (arith, h)

    later : (e n k : ℕ) → e ≤ n + 1 + k → e ≤ n + suc k
    later e n k h = omega (arith, h)

    both : PrintsOn w.printed (after m w).printed (next_event w.events) → PrintsOn (after m w).printed (run_on ms (after m w)).printed (number + 1 + length ms) → PrintsOn w.printed (run_on ms (after m w)).printed (number + suc (length ms))
    both here on = record {
      more = here.more ++ on.more;
      is = on.is ∙ ap (λ (lines : List Printed). lines ++ on.more) here.is ∙ append_assoc w.printed here.more on.more;
      early = λ a at. by a (in_append (answers_in here.more) (answers_in on.more) a (subst (λ (xs : List Answer). a ∈ xs) (answers_append here.more on.more) at));
    }
      where
        by : (a : Answer) → (a ∈ answers_in here.more) ⊎ (a ∈ answers_in on.more) → a.event ≤ number + suc (length ms)
        by a (inl at_once) = sooner a.event number (length ms) (subst (λ (n : ℕ). a.event ≤ n) next (here.early a at_once))
        by a (inr after_it) = later a.event number (length ms) (on.early a after_it)

run_further : (before later : List Moment) (w : Run) → run_on (before ++ later) w ≡ run_on later (run_on before w)
run_further [] later w = refl
run_further (m ∷ before) later w = run_further before later (after m w)

events_after : (ms : List Moment) (w : Run) (number : ℕ) → w.events ≡ number → number + length ms < 2 ^ 64 → (run_on ms w).events ≡ number + length ms
events_after [] w number at few = at ∙ none number
  where
    none : (n : ℕ) → n ≡ n + 0
    none n = omega arith
events_after (m ∷ ms) w number at few = events_after ms (after m w) (number + 1) (next_is w.events number at (first number (length ms) few)) (rest number (length ms) few) ∙ moved number (length ms)
  where
    first : (n k : ℕ) → n + suc k < 2 ^ 64 → n < 2 ^ 64 - 1
    first n k h = omega arith

    rest : (n k : ℕ) → n + suc k < 2 ^ 64 → n + 1 + k < 2 ^ 64
    rest n k h = omega arith

    moved : (n k : ℕ) → n + 1 + k ≡ n + suc k
    moved n k = omega arith

-- ## Calls

-- a call that comes later is one of all
skipped : (m : Moment) (n : ℕ) (rest : List Call) (c : Call) → c ∈ rest → c ∈ call_in m n rest
skipped (Starts p found) n rest c at = at
skipped (Takes p (events.Call x)) n rest c at = inr at
skipped (Takes p (events.Deliver from message)) n rest c at = at
skipped (Takes p events.Tick) n rest c at = at
skipped (Takes p (events.Change view)) n rest c at = at
skipped (Spoils p nodes objects) n rest c at = at
skipped (IsCutOff p) n rest c at = at

call_later : (n : ℕ) (before later : List Moment) (c : Call) → c ∈ calls_from (n + length before) later → c ∈ calls_from n (before ++ later)
call_later n [] later c at = subst (λ (k : ℕ). c ∈ calls_from k later) (none n) at
  where
    none : (n : ℕ) → n + 0 ≡ n
    none n = omega arith
call_later n (m ∷ before) later c at = skipped m n (calls_from (n + 1) (before ++ later)) c (call_later (n + 1) before later c (subst (λ (k : ℕ). c ∈ calls_from k later) (moved n (length before)) at))
  where
    moved : (n k : ℕ) → n + suc k ≡ n + 1 + k
    moved n k = omega arith

-- the first call of a moment, or a later one
call_first : (m : Moment) (n : ℕ) (rest : List Call) (c : Call) → c ∈ call_in m n rest → (c.event ≡ n) ⊎ (c ∈ rest)
call_first (Starts p found) n rest c at = inr at
call_first (Takes p (events.Call x)) n rest c (inl is) = inl (ap (λ (d : Call). d.event) is)
call_first (Takes p (events.Call x)) n rest c (inr at) = inr at
call_first (Takes p (events.Deliver from message)) n rest c at = inr at
call_first (Takes p events.Tick) n rest c at = inr at
call_first (Takes p (events.Change view)) n rest c at = inr at
call_first (Spoils p nodes objects) n rest c at = inr at
call_first (IsCutOff p) n rest c at = inr at

-- so its number is no lower
no_lower : (n e : ℕ) {P : Type 0} → (P → n + 1 ≤ e) → (e ≡ n) ⊎ P → n ≤ e
no_lower n e later (inl is) = omega (arith, is)
no_lower n e later (inr rest) = lower n e (later rest)
  where
    lower : (n e : ℕ) → n + 1 ≤ e → n ≤ e
    lower n e h = omega (arith, h)

pub call_numbered : (n : ℕ) (ms : List Moment) (c : Call) → c ∈ calls_from n ms → n ≤ c.event
call_numbered n [] c at = absurd at
call_numbered n (m ∷ ms) c at = no_lower n c.event (λ rest. call_numbered (n + 1) ms c rest) (call_first m n (calls_from (n + 1) ms) c at)

-- ## Histories

module _ (g : Group) (sound : IsSound g) where
  abbrev all_legal : AreLegal g (answers_of g)
  all_legal = group_legal g sound (answers_of g) (λ a at. at)

  pub group_in_time : KeepsRealTime g
  group_in_time before later is a given done c came key = (all_legal key).in_time a c answered called done (sooner a.event (length before) c.event early (call_numbered (1 + length before) later c came))
    where
      sooner : (e n f : ℕ) → e ≤ 0 + n → 1 + n ≤ f → e < f
      sooner e n f less more = omega (arith, less, more)

      many : (n m k : ℕ) → n < 2 ^ 64 → n ≡ m + k → 0 + m < 2 ^ 64
      many n m k less is = omega (arith, less, is)

      whole : (n m k : ℕ) → n < 2 ^ 64 → n ≡ m + k → 0 + m + k < 2 ^ 64
      whole n m k less is = omega (arith, less, is)

      lengths : length g.moments ≡ length before + length later
      lengths = ap length is ∙ length-append before later

      few : 0 + length before < 2 ^ 64
      few = many (length g.moments) (length before) (length later) sound.few_moments lengths

      here : Run
      here = run_on before (opening_of g)

      first : PrintsOn [] here.printed (0 + length before)
      first = run_prints before (opening_of g) 0 refl few

      early : a.event ≤ 0 + length before
      early = first.early a (subst (λ (lines : List Printed). a ∈ answers_in lines) first.is given)

      rest : PrintsOn here.printed (run_on later here).printed (0 + length before + length later)
      rest = run_prints later here (0 + length before) (events_after before (opening_of g) 0 refl few) (whole (length g.moments) (length before) (length later) sound.few_moments lengths)

      run_is : run_of g ≡ run_on later here
      run_is = ap (λ (ms : List Moment). run_on ms (opening_of g)) is ∙ run_further before later (opening_of g)

      answered : a ∈ answers_of g
      answered = subst (λ (w : Run). a ∈ answers_in w.printed) (sym run_is) (subst (λ (lines : List Printed). a ∈ answers_in lines) (sym rest.is)
          (subst (λ (xs : List Answer). a ∈ xs) (sym (answers_append here.printed rest.more)) (in_left (answers_in here.printed) (answers_in rest.more) a given)))

      called : c ∈ calls_from 1 g.moments
      called = subst (λ (ms : List Moment). c ∈ calls_from 1 ms) (sym is) (call_later 1 before later c came)
