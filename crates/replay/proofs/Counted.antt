-- What the summary counts in a run that completes its calls one after another.
use Rattle.std.proofs.Common.{◌≡◌, ℕ, suc, ◌+◌, Bool, true, false, cond, not, ◌||◌, if◌then◌else◌, List, [], ◌∷◌, length, count_by, None, Some, refl, sym, ap, subst, ◌∙◌, arith, inl, inr}
use Rattle.std.specs.List.{AllByRecursion, list_any}
use Rattle.std.proofs.lemmas.List.Sums.{sum_by-cons}
use Rattle.std.proofs.lemmas.Bool.{or_right, eq-eqb}
use Rattle.register_model.proofs.Served.{served}
use Rattle.register_model.specs.Served.{AreServed}
use Rattle.replay.proofs.CalmLaws.{calls_complete}
use Rattle.replay.specs.CalmLaws.{RunsUndisturbed, answers_in, calls_from}
use Rattle.ens_base.specs.Lists.{◌∈◌}
use Rattle.ens_base.specs.declared.reply.Reply.{Reply}
use Rattle.register_model.specs.Histories.{IsDone, is_done, is_refused}
use Rattle.register_model.specs.declared.answer.Answer.{Answer}
use Rattle.register_model.specs.declared.call.Call.{Call}
use Rattle.register_model.specs.declared.printed.Printed.{Printed}
use Rattle.register_model.specs.declared.printed.Printed.TheVariants as lines
use Rattle.replay.specs.Summary.{answers_with, is_call, is_id, is_unknown, reply_count, settles}
use Rattle.replay.specs.Worlds.{schedule_run}
use Rattle.schedule_text.specs.declared.event.ScheduleEvent.{ScheduleEvent}
use Rattle.schedule_text.specs.declared.event.ScheduleEvent.TheVariants as line
use Rattle.schedule_text.specs.declared.schedule.Schedule.{Schedule}
use Rattle.replay.specs.Completed.{CompletesAll}

-- ## Counting

module _ {X : Type 0} (p : X → Bool) (x : X) (xs : List X) where
  pub count_yes : p x ≡ true → count_by p (x ∷ xs) ≡ suc (count_by p xs)
  count_yes is = sum_by-cons (λ y. cond (p y) 1 0) x xs ∙ ap (λ b. cond b 1 0 + count_by p xs) is ∙ omega arith

  pub count_no : p x ≡ false → count_by p (x ∷ xs) ≡ count_by p xs
  count_no is = sum_by-cons (λ y. cond (p y) 1 0) x xs ∙ ap (λ b. cond b 1 0 + count_by p xs) is ∙ omega arith

-- the calls of the lines are as many as the lines that are calls
pub calls_counted : (n : ℕ) (events : List ScheduleEvent) → count_by is_call events ≡ length (calls_from n events)
unfolding is_call
calls_counted n [] = refl
calls_counted n (line.Call peer id key command ∷ more) = count_yes is_call (line.Call peer id key command) more refl ∙ ap suc (calls_counted (n + 1) more)
calls_counted n (e ∷ more) = count_no is_call e more refl ∙ calls_counted (n + 1) more

-- ## Completed answers

done_is : (r : Reply) → IsDone r → is_done r ≡ true
done_is (Reply.Value stamp bytes) done = refl
done_is Reply.NotFound done = refl
done_is (Reply.Ok stamp) done = refl
done_is Reply.Failed done = refl
done_is other done = absurd done

not_refused : (r : Reply) → IsDone r → is_refused r ≡ false
not_refused (Reply.Value stamp bytes) done = refl
not_refused Reply.NotFound done = refl
not_refused (Reply.Ok stamp) done = refl
not_refused Reply.Failed done = refl
not_refused other done = absurd done

abbrev AreDone : List Answer → Type 0
AreDone answers = AllByRecursion (λ a. IsDone a.reply) answers

served_done : (calls : List Call) (answers : List Answer) → AreServed calls answers → AreDone answers
served_done [] [] all = tt
served_done [] (a ∷ answers) all = absurd all
served_done (c ∷ calls) [] all = absurd all
served_done (c ∷ calls) (a ∷ answers) all = (all.1, served_done calls answers all.3)

served_many : (calls : List Call) (answers : List Answer) → AreServed calls answers → length answers ≡ length calls
served_many [] [] all = refl
served_many [] (a ∷ answers) all = absurd all
served_many (c ∷ calls) [] all = absurd all
served_many (c ∷ calls) (a ∷ answers) all = ap suc (served_many calls answers all.3)

-- each answer is counted as completed
done_counted : (printed : List Printed) → AreDone (answers_in printed) → reply_count is_done printed ≡ length (answers_in printed)
done_counted [] done = refl
done_counted (lines.Answer a ∷ more) done = count_yes (answers_with is_done) (lines.Answer a) more (done_is a.reply done.0) ∙ ap suc (done_counted more done.1)
done_counted (lines.Change event peer taken ∷ more) done = count_no (answers_with is_done) (lines.Change event peer taken) more refl ∙ done_counted more done

-- and none as refused
none_refused : (printed : List Printed) → AreDone (answers_in printed) → reply_count is_refused printed ≡ 0
none_refused [] done = refl
none_refused (lines.Answer a ∷ more) done = count_no (answers_with is_refused) (lines.Answer a) more (not_refused a.reply done.0) ∙ none_refused more done.1
none_refused (lines.Change event peer taken ∷ more) done = count_no (answers_with is_refused) (lines.Change event peer taken) more refl ∙ none_refused more done

-- ## No call is unknown

settled : (id : ℕ) (a : Answer) → a.id ≡ id → IsDone a.reply → settles id (lines.Answer a) ≡ true
settled id a named done =
    ap (λ (t : Bool). is_id id (if t || is_refused a.reply then Some a.id else None)) (done_is a.reply done) ∙ eq-eqb a.id id named

settled_in : (id : ℕ) (printed : List Printed) (a : Answer) → a ∈ answers_in printed → a.id ≡ id → IsDone a.reply → list_any (settles id) printed ≡ true
settled_in id [] a is named done = absurd is
settled_in id (lines.Answer b ∷ more) a (inl same) named done =
    ap (λ (t : Bool). t || list_any (settles id) more) (settled id b (subst (λ (z : Answer). z.id ≡ id) same named) (subst (λ (z : Answer). IsDone z.reply) same done))
settled_in id (lines.Answer b ∷ more) a (inr is) named done = or_right (settles id (lines.Answer b)) (list_any (settles id) more) (settled_in id more a is named done)
settled_in id (lines.Change event peer taken ∷ more) a is named done = settled_in id more a is named done

none_unknown : (printed : List Printed) (n : ℕ) (events : List ScheduleEvent) → ((c : Call) → c ∈ calls_from n events → list_any (settles c.id) printed ≡ true) → count_by (is_unknown printed) events ≡ 0
unfolding is_unknown
none_unknown printed n [] known = refl
none_unknown printed n (line.Call peer id key command ∷ more) known =
    count_no (is_unknown printed) (line.Call peer id key command) more (ap not (known (record { id = id; key = key; command = command; event = n }) (inl refl)))
    ∙ none_unknown printed (n + 1) more (λ c is. known c (inr is))
none_unknown printed n (e ∷ more) known = count_no (is_unknown printed) e more refl ∙ none_unknown printed (n + 1) more known

-- ## The run

pub completes_all : (s : Schedule) → RunsUndisturbed s → CompletesAll s
completes_all s runs = record {
  done = done_counted printed (served_done calls (answers_in printed) all) ∙ served_many calls (answers_in printed) all ∙ sym (calls_counted 1 s.events);
  refused = none_refused printed (served_done calls (answers_in printed) all);
  unknown = none_unknown printed 1 s.events (λ c is. let a = served calls (answers_in printed) all c is in settled_in c.id printed a.answer a.given a.named a.done);
}
  where
    printed : List Printed
    printed = (schedule_run s).printed

    calls : List Call
    calls = calls_from 1 s.events

    all : AreServed (calls_from 1 s.events) (answers_in (schedule_run s).printed)
    all = calls_complete s runs
