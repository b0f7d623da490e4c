-- The callers whose calls a rule of a leader answers, and those whose calls it leaves.
use Rattle.std.specs.Prelude.{All, filter}
use Rattle.std.proofs.Common.{◌≡◌, ◌∙◌, sym, refl, ap, subst, ℕ, Bool, true, false, not, cond, ◌==◌, ◌||◌, nat_le, if◌then◌else◌, map, List, [], ◌∷◌, Option, Some}
use Rattle.std.proofs.lemmas.List.Elements.{All-nil, All-cons, All-head, All-tail, All-map, All-push}
use Rattle.ens_base.specs.Lists.{same_bytes}
use Rattle.ens_base.specs.declared.command.Command.{Command}
use Rattle.ens_base.specs.declared.entry.Entry.{Entry}
use Rattle.ens_base.specs.declared.epoch.Epoch.{Epoch}
use Rattle.ens_base.specs.declared.epoch.Version.{Version}
use Rattle.stored_formats.specs.declared.object.Object.{Object}
use Rattle.call_table.specs.Calls.{running, without_running, older, is_due, waiting_on}
use Rattle.call_table.specs.Tables.{late_put}
use Rattle.call_table.specs.declared.table.CallTable.{CallTable}
use Rattle.call_table.specs.declared.waiting.Waiting.{Waiting}
use Rattle.leader_output.specs.Outs.{rests, leads_on}
use Rattle.leader_output.specs.declared.out.AnswerOut.{AnswerOut}
use Rattle.leader_output.specs.declared.out.LeadOut.{LeadOut}
use Rattle.leader.specs.Puts.{row_35_reply}
use Rattle.leader.specs.Rounds.{row_29_reply, row_33_reply}
use Rattle.leader.specs.Rules.{lead_row}
use Rattle.leader.specs.Starts.{row_27}
use Rattle.leader_laws.specs.Steps.{Serves, IsTimely}
use Rattle.leader.specs.Ticks.{Finishing, is_late, aged, row_5_calls, left_answer}
use Rattle.leader.specs.declared.leader.Leader.{Leader}
use Rattle.leader.proofs.Cases.{either}
use Rattle.leader_laws.proofs.Steps.{lead_step, row_29_reply_step, row_33_reply_step, row_35_reply_step}
use Rattle.leader_laws.proofs.TimeOuts.{row_5_ticks}
use Rattle.register_model.specs.declared.note.Note.{Note}
use Rattle.phase_rows.specs.declared.phase.Seen.{Seen}
use Rattle.phase_rows.specs.declared.rules.KeyRule.{KeyRule}
use Rattle.phase_rows.specs.declared.rules.KeyRule.TheVariants as key_rules
use Rattle.peer_turns.specs.Ends.{AllFrom, AllTo}

filtered : {X : Type 0} (P : X → Type 0) (keep : X → Bool) (xs : List X) → All P xs → All P (filter keep xs)
filtered P keep [] all = all
filtered P keep (x ∷ xs) all = by (keep x) (filtered P keep xs (All-tail P x xs all))
  where
    by : (b : Bool) → All P (filter keep xs) → All P (cond b (x ∷ filter keep xs) (filter keep xs))
    by true rest = All-cons P x (filter keep xs) (All-head P x xs all) rest
    by false rest = rest

module _ (test : ℕ → Bool) where
  -- the caller of a call, and the receiver of an answer, passes the test
  abbrev Asks : Waiting → Type 0
  Asks w = test w.from ≡ true

  abbrev Hears : AnswerOut → Type 0
  Hears a = test a.caller ≡ true

  pub no_calls : AllFrom test []
  no_calls = All-nil Asks

  pub no_answers : AllTo test []
  no_answers = All-nil Hears

  pub runs_from : (key : List ℕ) (calls : List Waiting) (w : Waiting) → running key calls ≡ Some w → AllFrom test calls → test w.from ≡ true
  runs_from key [] w is all = absurd cc
  runs_from key (v ∷ calls) w is all = by (same_bytes v.key key) is (λ later. runs_from key calls w later (All-tail Asks v calls all))
    where
      by : (b : Bool) → (if b then Some v else running key calls) ≡ Some w → (running key calls ≡ Some w → test w.from ≡ true) → test w.from ≡ true
      by true same later = let one : v ≡ w = cc in subst Asks one (All-head Asks v calls all)
      by false same later = later same

  without_from : (key : List ℕ) (calls : List Waiting) → AllFrom test calls → AllFrom test (without_running key calls)
  without_from key [] all = all
  without_from key (v ∷ calls) all = by (same_bytes v.key key) (without_from key calls (All-tail Asks v calls all))
    where
      by : (b : Bool) → AllFrom test (without_running key calls) → AllFrom test (if b then calls else v ∷ without_running key calls)
      by true rest = All-tail Asks v calls all
      by false rest = All-cons Asks v (without_running key calls) (All-head Asks v calls all) rest

  aged_from : (calls : List Waiting) → AllFrom test calls → AllFrom test (map older calls)
  aged_from calls all = All-map Asks older calls all

  -- the calls of a leader that steps down are answered
  pub left_to : (calls : List Waiting) → AllFrom test calls → AllTo test (map left_answer calls)
  left_to calls all = All-map Hears left_answer calls all

  served : (key : List ℕ) (old new : CallTable) (answers : List AnswerOut) (notes : List Note) → Serves key old new answers notes → AllFrom test old.calls → AllTo test answers × AllFrom test new.calls
  served key old new [] notes serves all = (no_answers, subst (AllFrom test) (sym serves.0) all)
  served key old new (a ∷ []) notes serves all =
      let w : Waiting = serves.0 in
      let ended = serves.1 in
      let from : test w.from ≡ true = runs_from key old.calls w ended.running all in
      (All-cons Hears a [] (ap test serves.2 ∙ from) no_answers, subst (AllFrom test) (sym ended.calls) (without_from key old.calls all))
  served key old new (a ∷ (b ∷ more)) notes serves all = absurd serves

  -- a row of a leader answers callers that pass the test, and leaves calls of such callers
  abbrev pub IsFair : (Leader → Leader × LeadOut) → Type 0
  IsFair row = (l : Leader) → AllFrom test l.table.calls → AllTo test (row l).1.answers × AllFrom test (row l).0.table.calls

  pub key_fair : (rule : KeyRule) (key : List ℕ) (seen : Seen) → IsFair (lead_row rule key seen)
  key_fair rule key seen l all = served key l.table _ _ _ (lead_step rule key seen l).serves all

  pub got_fair : (from : ℕ) (ballot : Epoch) (round : ℕ) (key : List ℕ) (entry : Option Entry) (object : Option Object) → IsFair (row_29_reply from ballot round key entry object)
  got_fair from ballot round key entry object l all = served key l.table _ _ _ (row_29_reply_step from ballot round key entry object l).serves all

  pub checked_fair : (from : ℕ) (ballot : Epoch) (round : ℕ) → IsFair (row_33_reply from ballot round)
  checked_fair from ballot round l all = let step = row_33_reply_step from ballot round l in served step.0 l.table _ _ _ step.1.serves all

  pub put_fair : (from : ℕ) (ballot : Epoch) (key : List ℕ) (version : Version) → IsFair (row_35_reply from ballot key version)
  put_fair from ballot key version l all = served key l.table _ _ _ (row_35_reply_step from ballot key version l).serves all

  one_answer : (a : AnswerOut) → test a.caller ≡ true → AllTo test (a ∷ [])
  one_answer a from = All-cons Hears a [] from no_answers

  -- rule 27 of a call whose caller passes the test
  pub joined_fair : (from id : ℕ) (key : List ℕ) (command : Command) (finishing : Bool) → test from ≡ true → IsFair (row_27 from id key command finishing)
  joined_fair from id key command finishing is l all =
      let w : Waiting = record { from = from; id = id; key = key; command = command; age = 0 } in
      let P : Leader × LeadOut → Type 0 = λ r. AllTo test r.1.answers × AllFrom test r.0.table.calls in
      either P finishing _ _ (one_answer _ is, all)
      (either P (nat_le 16 (waiting_on key l.table.calls)) _ _ (one_answer _ is, all)
      (either (λ (o : LeadOut). AllTo test o.answers) (waiting_on key l.table.calls == 0) (leads_on key_rules.StartCall key) rests no_answers no_answers, All-push Asks l.table.calls w all is))

  timely_from : (late : Bool) (l : Leader) (r : Leader × LeadOut) → IsTimely late l r → (late ≡ true → r.0.table.calls ≡ map older l.table.calls) → AllFrom test l.table.calls
      → AllTo test r.1.answers × AllFrom test r.0.table.calls
  timely_from true l r timely calls all = (subst (AllTo test) (sym timely.answers) no_answers, subst (AllFrom test) (sym (calls refl)) (aged_from l.table.calls all))
  timely_from false l r timely calls all =
      let aged = aged_from l.table.calls all in
      (subst (AllTo test) (sym timely.answers) (left_to _ (filtered Asks is_due (map older l.table.calls) aged)), subst (AllFrom test) (sym (timely.calls refl)) (filtered Asks (λ w. not (is_due w)) (map older l.table.calls) aged))

  late_calls : (late : Bool) (a b : Leader × LeadOut) → late ≡ true → (if late then a else b).0.table.calls ≡ a.0.table.calls
  late_calls true a b is = refl
  late_calls false a b is = absurd cc

  -- the calls in a tick
  pub ticked_fair : (finishing : Finishing) → IsFair (row_5_calls finishing)
  ticked_fair finishing l all =
      timely_from (late_put (aged l.table) || is_late finishing) l (row_5_calls finishing l) (row_5_ticks finishing l).timely (λ is. late_calls (late_put (aged l.table) || is_late finishing) _ _ is) all
