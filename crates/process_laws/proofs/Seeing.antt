-- A call that no client had sent when an answer was heard came after the answer was given.
use Rattle.std.proofs.Common.{◌≡◌, ◌⊎◌, ◌<◌, ◌≤◌, ◌+◌, ◌++◌, ℕ, suc, List, [], ◌∷◌, length, map, arith, refl, sym, ap, ◌∙◌, subst, inl, inr}
use Rattle.std.proofs.lemmas.List.{append_assoc, length-map, map-append}
use Rattle.ens_base.proofs.Lists.{in_append, in_left, in_right}
use Rattle.ens_base.specs.Lists.{◌∈◌}
use Rattle.process_laws.proofs.RealTime.{call_numbered}
use Rattle.process_laws.specs.Moments.{Moment, Starts, Takes, IsCutOff, calls_from, Spoils as spoils}
use Rattle.peer_state.specs.declared.event.CallIn.{CallIn}
use Rattle.peer_state.specs.declared.event.Event.{Event}
use Rattle.peer_state.specs.declared.event.Event.TheVariants as events
use Rattle.register_model.specs.declared.answer.Answer.{Answer}
use Rattle.register_model.specs.declared.call.Call.{Call}
use Rattle.step_plans.specs.LeaderOutput.{AnswerOut}
use Rattle.peer_turns.specs.Deeds.{Deed}
use Rattle.process_laws.specs.Acts.{Act, Begins, Does, Spoils, Ends, Execution, answers_at, answers_from, given_at, moment_of}
use Rattle.process_laws.specs.Clients.{ClientsKeepTime, Sight, Acts, Sends, Hears, acts_in, answers_by, answers_put_out, ids_sent}
use Rattle.process_laws.specs.Joined.{IsLinearizable}

acts_append : (xs ys : List Sight) → acts_in (xs ++ ys) ≡ acts_in xs ++ acts_in ys
acts_append [] ys = refl
acts_append (Acts act ∷ xs) ys = ap (λ (rest : List Act). act ∷ rest) (acts_append xs ys)
acts_append (Sends id ∷ xs) ys = acts_append xs ys
acts_append (Hears answer ∷ xs) ys = acts_append xs ys

sent_append : (xs ys : List Sight) (id : ℕ) → id ∈ ids_sent xs → id ∈ ids_sent (xs ++ ys)
sent_append [] ys id at = absurd at
sent_append (Acts act ∷ xs) ys id at = sent_append xs ys id at
sent_append (Sends i ∷ xs) ys id (inl is) = inl is
sent_append (Sends i ∷ xs) ys id (inr at) = inr (sent_append xs ys id at)
sent_append (Hears answer ∷ xs) ys id at = sent_append xs ys id at

-- ## Answers

-- an answer that was put out is given at the number of its act
record IsGiven (number : ℕ) (acts : List Act) (answer : AnswerOut) : Type 0 where
  event : ℕ
  early : event < number + length acts
  given : given_at event answer ∈ answers_from number acts

mapped : (number : ℕ) (xs : List AnswerOut) (answer : AnswerOut) → answer ∈ xs → given_at number answer ∈ map (given_at number) xs
mapped number [] answer at = absurd at
mapped number (x ∷ xs) answer (inl is) = inl (ap (given_at number) is)
mapped number (x ∷ xs) answer (inr at) = inr (mapped number xs answer at)

given_by : (number : ℕ) (act : Act) (answer : AnswerOut) → answer ∈ answers_by act → given_at number answer ∈ answers_at number act
given_by number (Begins p found) answer at = absurd at
given_by number (Does p d) answer at = mapped number d.out.answers answer at
given_by number (Spoils p nodes objects) answer at = absurd at
given_by number (Ends p) answer at = absurd at

is_given : (number : ℕ) (acts : List Act) (answer : AnswerOut) → answer ∈ answers_put_out acts → IsGiven number acts answer
is_given number [] answer at = absurd at
is_given number (act ∷ acts) answer at = by (in_append (answers_by act) (answers_put_out acts) answer at) (λ rest. is_given (number + 1) acts answer rest)
  where
    now : (n k : ℕ) → n < n + suc k
    now n k = omega arith

    later : (e n k : ℕ) → e < n + 1 + k → e < n + suc k
    later e n k h = omega (arith, h)

    after_it : IsGiven (number + 1) acts answer → IsGiven number (act ∷ acts) answer
    after_it g = record { event = g.event; early = later g.event number (length acts) g.early; given = in_right (answers_at number act) (answers_from (number + 1) acts) (given_at g.event answer) g.given }

    by : (answer ∈ answers_by act) ⊎ (answer ∈ answers_put_out acts) → (answer ∈ answers_put_out acts → IsGiven (number + 1) acts answer) → IsGiven number (act ∷ acts) answer
    by (inl here) later_given = record { event = number; early = now number (length acts); given = in_left (answers_at number act) (answers_from (number + 1) acts) (given_at number answer) (given_by number act answer here) }
    by (inr rest) later_given = after_it (later_given rest)

-- answers of the first acts are answers of all
given_further : (number : ℕ) (before later : List Act) (a : Answer) → a ∈ answers_from number before → a ∈ answers_from number (before ++ later)
given_further number [] later a at = absurd at
given_further number (act ∷ before) later a at = by (in_append (answers_at number act) (answers_from (number + 1) before) a at) (λ rest. given_further (number + 1) before later a rest)
  where
    by : (a ∈ answers_at number act) ⊎ (a ∈ answers_from (number + 1) before) → (a ∈ answers_from (number + 1) before → a ∈ answers_from (number + 1) (before ++ later)) → a ∈ answers_from number (act ∷ before ++ later)
    by (inl here) further = in_left (answers_at number act) (answers_from (number + 1) (before ++ later)) a here
    by (inr rest) further = in_right (answers_at number act) (answers_from (number + 1) (before ++ later)) a (further rest)

-- ## Calls

-- the call came by an act among these
record CameBy (sights : List Sight) (c : Call) : Type 0 where
  prefix : List Sight
  rest : List Sight
  peer : ℕ
  deed : Deed
  call : CallIn
  is : sights ≡ prefix ++ Acts (Does peer deed) ∷ rest
  event : deed.event ≡ events.Call call
  id : c.id ≡ call.id

-- one more came before
one_more : (sight : Sight) (sights : List Sight) (c : Call) → CameBy sights c → CameBy (sight ∷ sights) c
one_more sight sights c b = record { prefix = sight ∷ b.prefix; rest = b.rest; peer = b.peer; deed = b.deed; call = b.call; is = ap (λ (xs : List Sight). sight ∷ xs) b.is; event = b.event; id = b.id }

-- a call came by the first act, or by a later one
came_at : (number p : ℕ) (d : Deed) (event : Event) (sights : List Sight) (c : Call) → d.event ≡ event → c ∈ calls_from number (Takes p event ∷ map moment_of (acts_in sights)) → (c ∈ calls_from (number + 1) (map moment_of (acts_in sights)) → CameBy sights c) → CameBy (Acts (Does p d) ∷ sights) c
came_at number p d (events.Call call) sights c is (inl here) later = record { prefix = []; rest = sights; peer = p; deed = d; call = call; is = refl; event = is; id = ap (λ (x : Call). x.id) here }
came_at number p d (events.Call call) sights c is (inr rest) later = one_more (Acts (Does p d)) sights c (later rest)
came_at number p d (events.Deliver from message) sights c is at later = one_more (Acts (Does p d)) sights c (later at)
came_at number p d events.Tick sights c is at later = one_more (Acts (Does p d)) sights c (later at)
came_at number p d (events.Change view) sights c is at later = one_more (Acts (Does p d)) sights c (later at)

came_by : (number : ℕ) (sights : List Sight) (c : Call) → c ∈ calls_from number (map moment_of (acts_in sights)) → CameBy sights c
came_by number [] c at = absurd at
came_by number (Acts (Begins p found) ∷ sights) c at = one_more (Acts (Begins p found)) sights c (came_by (number + 1) sights c at)
came_by number (Acts (Does p d) ∷ sights) c at = came_at number p d d.event sights c refl at (λ rest. came_by (number + 1) sights c rest)
came_by number (Acts (Spoils p nodes objects) ∷ sights) c at = one_more (Acts (Spoils p nodes objects)) sights c (came_by (number + 1) sights c at)
came_by number (Acts (Ends p) ∷ sights) c at = one_more (Acts (Ends p)) sights c (came_by (number + 1) sights c at)
came_by number (Sends id ∷ sights) c at = one_more (Sends id) sights c (came_by number sights c at)
came_by number (Hears answer ∷ sights) c at = one_more (Hears answer) sights c (came_by number sights c at)

-- a call of all moments came in the first, or has a later number
abbrev FirstOrLater : ℕ → List Moment → Call → Type 0
FirstOrLater number before c = (c ∈ calls_from number before) ⊎ (number + length before ≤ c.event)

one_earlier : (m : Moment) (number : ℕ) (before later : List Moment) (c : Call) → c ∈ calls_from number (m ∷ before ++ later) → (c ∈ calls_from (number + 1) (before ++ later) → FirstOrLater (number + 1) before c) → FirstOrLater number (m ∷ before) c
one_earlier m number before later c at rest = by m at
  where
    moved : (n k e : ℕ) → n + 1 + k ≤ e → n + suc k ≤ e
    moved n k e h = omega (arith, h)

    as_rest : FirstOrLater (number + 1) before c → FirstOrLater number (IsCutOff 0 ∷ before) c
    as_rest (inl first) = inl first
    as_rest (inr late) = inr (moved number (length before) c.event late)

    as_more : (p : ℕ) (x : CallIn) → FirstOrLater (number + 1) before c → FirstOrLater number (Takes p (events.Call x) ∷ before) c
    as_more p x (inl first) = inl (inr first)
    as_more p x (inr late) = inr (moved number (length before) c.event late)

    by : (m : Moment) → c ∈ calls_from number (m ∷ before ++ later) → FirstOrLater number (m ∷ before) c
    by (Starts p found) here = as_rest (rest here)
    by (Takes p (events.Call x)) (inl is) = inl (inl is)
    by (Takes p (events.Call x)) (inr here) = as_more p x (rest here)
    by (Takes p (events.Deliver from message)) here = as_rest (rest here)
    by (Takes p events.Tick) here = as_rest (rest here)
    by (Takes p (events.Change view)) here = as_rest (rest here)
    by (spoils p nodes objects) here = as_rest (rest here)
    by (IsCutOff p) here = as_rest (rest here)

came_or_later : (number : ℕ) (before later : List Moment) (c : Call) → c ∈ calls_from number (before ++ later) → FirstOrLater number before c
came_or_later number [] later c at = inr (bare number c.event (call_numbered number later c at))
  where
    bare : (n e : ℕ) → n ≤ e → n + 0 ≤ e
    bare n e h = omega (arith, h)
came_or_later number (m ∷ before) later c at = one_earlier m number before later c at (λ rest. came_or_later (number + 1) before later c rest)

-- ## The law

module _ (e : Execution) (legal : IsLinearizable e) where
  pub keeps_time : ClientsKeepTime e
  keeps_time sights seen before later answer is done call came unsent key =
      (legal (answers_from 1 e.acts) (λ a at. at) key).in_time (given_at here.event answer) call answered came done (late (came_or_later 1 (map moment_of first) (map moment_of (acts_in later)) call in_all))
    where
      first : List Act
      first = acts_in before

      here : IsGiven 1 first answer
      here = is_given 1 first answer (seen.heard before later answer is)

      acts_are : e.acts ≡ first ++ acts_in later
      acts_are = sym seen.acts ∙ ap acts_in is ∙ acts_append before (Hears answer ∷ later)

      answered : given_at here.event answer ∈ answers_from 1 e.acts
      answered = subst (λ (acts : List Act). given_at here.event answer ∈ answers_from 1 acts) (sym acts_are) (given_further 1 first (acts_in later) (given_at here.event answer) here.given)

      in_all : call ∈ calls_from 1 (map moment_of first ++ map moment_of (acts_in later))
      in_all = subst (λ (ms : List Moment). call ∈ calls_from 1 ms) (ap (map moment_of) acts_are ∙ map-append moment_of first (acts_in later)) came

      -- a call that came among the first acts was sent before
      was_sent : CameBy before call → call.id ∈ ids_sent before
      was_sent by = subst (λ (id : ℕ). id ∈ ids_sent before) (sym by.id) (subst (λ (xs : List Sight). by.call.id ∈ ids_sent xs) (sym by.is) (sent_append by.prefix (Acts (Does by.peer by.deed) ∷ by.rest) by.call.id
          (seen.sent by.prefix (by.rest ++ Hears answer ∷ later) by.peer by.deed by.call
          (is ∙ ap (λ (xs : List Sight). xs ++ Hears answer ∷ later) by.is ∙ append_assoc by.prefix (Acts (Does by.peer by.deed) ∷ by.rest) (Hears answer ∷ later)) by.event)))

      sooner : (g n e : ℕ) → g < 1 + n → 1 + n ≤ e → g < e
      sooner g n e early late = omega (arith, early, late)

      late : (call ∈ calls_from 1 (map moment_of first)) ⊎ (1 + length (map moment_of first) ≤ call.event) → here.event < call.event
      late (inl early) = absurd (unsent (was_sent (came_by 1 before call early)))
      late (inr after_it) = sooner here.event (length first) call.event here.early (subst (λ (n : ℕ). 1 + n ≤ call.event) (length-map first moment_of) after_it)
