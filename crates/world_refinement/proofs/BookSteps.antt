-- The book of the abstract protocol agrees with a world through the steps of a line.
use Rattle.std.proofs.Common.{◌≡◌, ℕ, suc, ◌+◌, ◌<◌, ◌^◌, ◌⊎◌, Bool, List, [], ◌∷◌, ◌++◌, map, length, arith, ap, refl, inl, inr, sym, ◌∙◌, subst}
use Rattle.ens_base.proofs.Lists.{in_append, in_left, in_right}
use Rattle.std.proofs.lemmas.List.{append-nil, length-append, length-map}
use Rattle.ens_base.specs.Lists.{◌∈◌}
use Rattle.protocol_laws.specs.Book.{Book, opening_book}
use Rattle.protocol_laws.specs.Protocol.{State, Begin, Ask, happens}
use Rattle.peer_refinement.specs.WorldSpec.{HeldStores}
use Rattle.leader_output.specs.declared.out.AnswerOut.{AnswerOut}
use Rattle.peer_state.specs.declared.event.Event.{Event}
use Rattle.register_model.specs.declared.answer.Answer.{Answer}
use Rattle.register_model.specs.declared.call.Call.{Call}
use Rattle.register_model.specs.declared.note.Note.{Note}
use Rattle.register_model.specs.declared.printed.Printed.{Printed}
use Rattle.register_model.specs.declared.printed.Printed.TheVariants as printed
use Rattle.schedule_text.specs.declared.event.ScheduleEvent.{ScheduleEvent}
use Rattle.schedule_text.specs.declared.form.Form.{Form}
use Rattle.schedule_text.specs.declared.event.ScheduleEvent.TheVariants as line
use Rattle.step_plans.specs.Plans.{Out}
use Rattle.world_spec.specs.Lines.{counted}
use Rattle.world_spec.specs.Nodes.{Taken, taken, Down}
use Rattle.world_spec.specs.Runs.{Run, opening_run, next_event, answer_line, change_line, printed_by, with_taken}
use Rattle.world_refinement.specs.Lines.{call_at, calls_from, answers_in, AreSame, Agrees, BookAgrees, Within, Opens, given_at, StepAgrees, IsQuiet}

-- ## Lists with the same items

same_itself : {A : Type 0} (xs : List A) → AreSame xs xs
same_itself xs x = (λ m. m, λ m. m)

same_equal : {A : Type 0} (xs ys zs : List A) → xs ≡ ys → AreSame ys zs → AreSame xs zs
same_equal {A = A} xs ys zs e same = subst (λ (l : List A). AreSame l zs) (sym e) same

same_through : {A : Type 0} (xs ys zs : List A) → AreSame xs ys → AreSame ys zs → AreSame xs zs
same_through xs ys zs first last x = (λ m. (last x).0 ((first x).0 m), λ m. (first x).1 ((last x).1 m))

-- the two halves change places
swapped : {A : Type 0} (xs ys : List A) (x : A) → x ∈ (xs ++ ys) → x ∈ (ys ++ xs)
swapped xs ys x m = by_side (in_append xs ys x m)
  where
    by_side : (x ∈ xs) ⊎ (x ∈ ys) → x ∈ (ys ++ xs)
    by_side (inl h) = in_right ys xs x h
    by_side (inr h) = in_left ys xs x h

-- the same items before others
before_same : {A : Type 0} (more xs ys : List A) → AreSame xs ys → (x : A) → x ∈ (more ++ xs) → x ∈ (more ++ ys)
before_same more xs ys same x m = by_side (in_append more xs x m)
  where
    by_side : (x ∈ more) ⊎ (x ∈ xs) → x ∈ (more ++ ys)
    by_side (inl h) = in_left more ys x h
    by_side (inr h) = in_right more ys x ((same x).0 h)

-- new items in front of one list, and at the end of the other
pub same_ends : {A : Type 0} (more xs ys : List A) → AreSame xs ys → AreSame (more ++ xs) (ys ++ more)
same_ends more xs ys same x = (λ m. swapped more ys x (before_same more xs ys same x m), λ m. before_same more ys xs (λ y. ((same y).1, (same y).0)) x (swapped ys more x m))

-- ## Calls of a schedule

pub call_in_front : (event : ScheduleEvent) (n : ℕ) (xs ys : List Call) → call_at event n (xs ++ ys) ≡ call_at event n xs ++ ys
call_in_front (line.Call peer id key command) n xs ys = refl
call_in_front _ n xs ys = refl

calls_end : (n : ℕ) (events : List ScheduleEvent) (event : ScheduleEvent) → calls_from n (events ++ event ∷ []) ≡ calls_from n events ++ call_at event (n + length events) []
calls_end n [] event = ap (λ (m : ℕ). call_at event m []) (last n)
  where
    last : (n : ℕ) → n ≡ n + length {A = ScheduleEvent} []
    last n = omega arith
calls_end n (e ∷ events) event =
    ap (λ (cs : List Call). call_at e n cs) (calls_end (n + 1) events event ∙ ap (λ (m : ℕ). calls_from (n + 1) events ++ call_at event m []) (later n (length events))) ∙ call_in_front e n (calls_from (n + 1) events) (call_at event (n + suc (length events)) [])
  where
    later : (n m : ℕ) → n + 1 + m ≡ n + suc m
    later n m = omega arith

-- ## What was printed

answers_both : (xs ys : List Printed) → answers_in (xs ++ ys) ≡ answers_in xs ++ answers_in ys
answers_both [] ys = refl
answers_both (printed.Answer a ∷ xs) ys = ap (λ (given : List Answer). a ∷ given) (answers_both xs ys)
answers_both (printed.Change event peer taken ∷ xs) ys = answers_both xs ys

answers_given : (event : ℕ) (answers : List AnswerOut) → answers_in (map (answer_line event) answers) ≡ map (given_at event) answers
answers_given event [] = refl
answers_given event (a ∷ answers) = ap (λ (given : List Answer). given_at event a ∷ given) (answers_given event answers)

none_given : (event peer : ℕ) (changes : List Bool) → answers_in (map (change_line event peer) changes) ≡ []
none_given event peer [] = refl
none_given event peer (c ∷ changes) = none_given event peer changes

answers_put_out : (event peer : ℕ) (out : Out) → answers_in (printed_by event peer out) ≡ map (given_at event) out.answers
answers_put_out event peer out =
    answers_both (map (answer_line event) out.answers) (map (change_line event peer) out.changes)
    ∙ ap (λ (given : List Answer). answers_in (map (answer_line event) out.answers) ++ given) (none_given event peer out.changes)
    ∙ append-nil (answers_in (map (answer_line event) out.answers))
    ∙ answers_given event out.answers

-- ## Events

-- the number of the next event is not at its limit
next_is : (n m : ℕ) → 1 + n ≡ m → m < 2 ^ 64 → next_event n ≡ m
next_is n m e few = omega arith

all_counted : (n m : ℕ) → 1 + n ≡ m → m < 2 ^ 64 → 0 + next_event n ≡ m
all_counted n m e few = omega arith

-- the beginning of an event opens it without calls
pub begin_opens : (s : State) → Opens [] s.book (happens s Begin).book
begin_opens s = record { now = refl; called = refl; notes = refl; answers = refl }

-- the coming of a call opens it with the call
pub ask_opens : (s : State) (c : Call) → Opens (c ∷ []) s.book (happens s (Ask c)).book
ask_opens s c = record { now = refl; called = refl; notes = refl; answers = refl }

-- ## The steps of a line

-- before the first line
pub opening_agrees : (form : Form) (peers : ℕ) (view : List ℕ) → BookAgrees [] (opening_run form peers view) opening_book
opening_agrees form peers view = record { counted = refl; now = refl; notes = refl; calls = same_itself []; answers = same_itself []; many = refl }

-- a line begins
pub line_begins : (events : List ScheduleEvent) (event : ScheduleEvent) (w : Run) (b next : Book) → BookAgrees events w b → Opens (call_at event (b.now + 1) []) b next → Within (events ++ event ∷ []) w next
line_begins events event w b next old opens = record {
  counted = longer (length-append events (event ∷ [])) old.counted;
  now = numbered (length-append events (event ∷ [])) opens.now old.now;
  notes = opens.notes ∙ old.notes;
  calls = same_equal next.calls (call_at event (b.now + 1) [] ++ b.calls) (calls_from 1 (events ++ event ∷ [])) opens.called
      (subst (λ (cs : List Call). AreSame (call_at event (b.now + 1) [] ++ b.calls) cs) (sym ends) (same_ends (call_at event (b.now + 1) []) b.calls (calls_from 1 events) old.calls));
  answers = subst (λ (given : List Answer). AreSame given (answers_in w.printed)) (sym opens.answers) old.answers;
  many = ap (λ (given : List Answer). length given) opens.answers ∙ old.many;
}
  where
    longer : length (events ++ event ∷ []) ≡ length events + 1 → 0 + w.events ≡ length events → 1 + w.events ≡ length (events ++ event ∷ [])
    longer e f = omega arith

    numbered : length (events ++ event ∷ []) ≡ length events + 1 → next.now ≡ b.now + 1 → b.now ≡ length events → next.now ≡ length (events ++ event ∷ [])
    numbered e f g = omega arith

    number : b.now ≡ length events → 1 + length events ≡ b.now + 1
    number e = omega arith

    ends : calls_from 1 (events ++ event ∷ []) ≡ calls_from 1 events ++ call_at event (b.now + 1) []
    ends = calls_end 1 events event ∙ ap (λ (n : ℕ). calls_from 1 events ++ call_at event n []) (number old.now)

module _ (events : List ScheduleEvent) (few : length events < 2 ^ 64) where
  -- a peer takes a step
  pub taken_within : (peer : ℕ) (t : Taken) (w : Run) (b next : Book) → Within events w b → StepAgrees t b next → Within events (with_taken peer t w) next
  taken_within peer t w b next old agrees = record {
    counted = old.counted;
    now = agrees.now ∙ old.now;
    notes = agrees.notes ∙ ap (λ (ns : List Note). ns ++ t.notes) old.notes;
    calls = subst (λ (cs : List Call). AreSame cs (calls_from 1 events)) (sym agrees.calls) old.calls;
    answers = same_through next.answers (map (given_at b.now) t.out.answers ++ b.answers) (answers_in (with_taken peer t w).printed) agrees.answers
        (subst (λ (given : List Answer). AreSame (map (given_at b.now) t.out.answers ++ b.answers) given) (sym prints) (same_ends (map (given_at b.now) t.out.answers) b.answers (answers_in w.printed) old.answers));
    many = total (length next.answers) (length t.out.answers) (length b.answers) (length (answers_in w.printed)) (length (map (given_at b.now) t.out.answers)) (length (answers_in (with_taken peer t w).printed)) agrees.many old.many (length-map t.out.answers (given_at b.now))
        (ap (λ (given : List Answer). length given) prints ∙ length-append (answers_in w.printed) (map (given_at b.now) t.out.answers));
  }
    where
      total : (all new old printed given both : ℕ) → all ≡ new + old → old ≡ printed → given ≡ new → both ≡ printed + given → all ≡ both
      total all new old printed given both e f g h = omega (arith, e, f, g, h)

      number : next_event w.events ≡ b.now
      number = next_is w.events (length events) old.counted few ∙ sym old.now

      prints : answers_in (w.printed ++ printed_by (next_event w.events) peer t.out) ≡ answers_in w.printed ++ map (given_at b.now) t.out.answers
      prints = answers_both w.printed (printed_by (next_event w.events) peer t.out)
          ∙ ap (λ (given : List Answer). answers_in w.printed ++ given) (answers_put_out (next_event w.events) peer t.out ∙ ap (λ (n : ℕ). map (given_at n) t.out.answers) number)

  -- the world has counted the line
  pub line_ends : (event : ScheduleEvent) (w : Run) (b : Book) → Within events w b → BookAgrees events (counted event w) b
  line_ends event w b old = record { counted = all_counted w.events (length events) old.counted few; now = old.now; notes = old.notes; calls = old.calls; answers = old.answers; many = old.many }

-- nothing is printed or noted
pub alike_agrees : (uncounted : ℕ) (events : List ScheduleEvent) (w v : Run) (b : Book) → v.events ≡ w.events → v.notes ≡ w.notes → v.printed ≡ w.printed → Agrees uncounted events w b → Agrees uncounted events v b
alike_agrees uncounted events w v b count notes lines old = record {
  counted = ap (λ (n : ℕ). uncounted + n) count ∙ old.counted;
  now = old.now;
  notes = old.notes ∙ sym notes;
  calls = old.calls;
  answers = subst (λ (ls : List Printed). AreSame b.answers (answers_in ls)) (sym lines) old.answers;
  many = old.many ∙ ap (λ (ls : List Printed). length (answers_in ls)) (sym lines);
}

-- a step of the book that notes and answers nothing keeps the agreement
pub quiet_agrees : (uncounted : ℕ) (events : List ScheduleEvent) (w : Run) (b next : Book) → IsQuiet b next → Agrees uncounted events w b → Agrees uncounted events w next
quiet_agrees uncounted events w b next quiet old = record {
  counted = old.counted;
  now = quiet.now ∙ old.now;
  notes = quiet.notes ∙ old.notes;
  calls = subst (λ (cs : List Call). AreSame cs (calls_from 1 events)) (sym quiet.calls) old.calls;
  answers = subst (λ (given : List Answer). AreSame given (answers_in w.printed)) (sym quiet.answers) old.answers;
  many = ap (λ (given : List Answer). length given) quiet.answers ∙ old.many;
}

-- ## Steps of a peer

-- a peer that is down does nothing
pub down_agrees : (me : ℕ) (event : Event) (stores : HeldStores) (b : Book) → StepAgrees (taken me event (Down stores)) b b
down_agrees me event stores b = record { now = refl; calls = refl; notes = sym (append-nil b.notes); answers = same_itself b.answers; many = none (length b.answers) }
  where
    none : (n : ℕ) → n ≡ 0 + n
    none n = omega arith

-- the answers, each in front of those before it
abbrev pub with_answers : ℕ → List AnswerOut → List Answer → List Answer
with_answers event [] old = old
with_answers event (a ∷ answers) old = with_answers event answers (given_at event a ∷ old)

-- and as many more
pub answers_many : (event : ℕ) (answers : List AnswerOut) (old : List Answer) → length (with_answers event answers old) ≡ length answers + length old
answers_many event [] old = none (length old)
  where
    none : (n : ℕ) → n ≡ 0 + n
    none n = omega arith
answers_many event (a ∷ answers) old = moved (length (with_answers event answers (given_at event a ∷ old))) (length answers) (length old) (answers_many event answers (given_at event a ∷ old))
  where
    moved : (all n m : ℕ) → all ≡ n + suc m → all ≡ suc n + m
    moved all n m e = omega (arith, e)

-- a book with these answers in front has them
pub answers_in_front : (event : ℕ) (answers : List AnswerOut) (old : List Answer) → AreSame (with_answers event answers old) (map (given_at event) answers ++ old)
answers_in_front event [] old = same_itself old
answers_in_front event (a ∷ answers) old = same_through (with_answers event answers (given_at event a ∷ old)) (map (given_at event) answers ++ given_at event a ∷ old) (given_at event a ∷ map (given_at event) answers ++ old)
    (answers_in_front event answers (given_at event a ∷ old)) (moved (map (given_at event) answers))
  where
    moved : (xs : List Answer) → AreSame (xs ++ given_at event a ∷ old) (given_at event a ∷ xs ++ old)
    moved xs x = (λ m. to (in_append xs (given_at event a ∷ old) x m), λ m. from m)
      where
        to : (x ∈ xs) ⊎ (x ∈ (given_at event a ∷ old)) → x ∈ (given_at event a ∷ xs ++ old)
        to (inl h) = inr (in_left xs old x h)
        to (inr (inl e)) = inl e
        to (inr (inr h)) = inr (in_right xs old x h)

        back : (x ∈ xs) ⊎ (x ∈ old) → x ∈ (xs ++ given_at event a ∷ old)
        back (inl h) = in_left xs (given_at event a ∷ old) x h
        back (inr h) = in_right xs (given_at event a ∷ old) x (inr h)

        from : (x ≡ given_at event a) ⊎ (x ∈ (xs ++ old)) → x ∈ (xs ++ given_at event a ∷ old)
        from (inl e) = in_right xs (given_at event a ∷ old) x (inl e)
        from (inr h) = back (in_append xs old x h)
