-- A row of a phase over stores in which no failure waits.
use Rattle.std.proofs.Common.{ap, sym, subst, ℕ, Bool, List, Option, None, Some}
use Rattle.peer_refinement.specs.WorldSpec.{with_facts, Held}
use Rattle.peer_refinement.specs.PeerSpec.{row_done, and_sends, followed_on}
use Rattle.peer_state.specs.Moves.{left, left_answers, turned, turned_answers}
use Rattle.peer_state.specs.declared.state.State.{State}
use Rattle.stored_formats.specs.declared.fact.Fact.{Fact}
use Rattle.stored_formats.specs.declared.saved.SavedFact.{SavedFact}
use Rattle.register_model.specs.declared.note.Note.{Note}
use Rattle.step_plans.specs.Calls.{Save}
use Rattle.step_plans.specs.Plans.{Out, Rest, asked}
use Rattle.step_plans.specs.Sends.{posted_to}
use Rattle.step_plans.specs.Tasks.{named}
use Rattle.step_plans.specs.declared.tasks.Task.{Task}
use Rattle.step_plans.specs.Saved.{with_seal}
use Rattle.peer_refinement.specs.Whole.{HasNoFaults}
use Rattle.wire_frames.specs.declared.message.Message.{Message}
use Rattle.phase_rows.specs.declared.phase.PhaseOut.{PhaseOut}
use Rattle.phase_rows.specs.declared.phase.Then.{Then}
use Rattle.phase_rows.specs.declared.phase.Then.TheVariants as thens
use Rattle.calm_step_laws.proofs.Lands.{Aim, Lands, lands_ask}
use Rattle.calm_step_laws.proofs.TreeCalls.{serves}

abbrev pub with_saved : Option Fact → State → State
with_saved None x = x
with_saved (Some fact) x = record x { fact = fact }

-- the stores after the fact was saved with this seal, if there is one
abbrev pub held_under : Option (List ℕ) → Option Fact → Held → Held
held_under seal None h = h
held_under seal (Some fact) h = with_facts (record h.stores.facts { kept = Some (with_seal seal fact) }) h

-- no sync begins or resumes
abbrev pub IsPlain : Then → Type 0
IsPlain (thens.SyncOn fact) = ⊥
IsPlain thens.Resume = ⊥
IsPlain other = Unit {0}

module _ (me : ℕ) (strings : List (List ℕ)) (P : Aim) where
  followed : (then : Then) (x : State) (out : Out) (next : Rest State (List Task)) (h : Held) (ns : List Note) → IsPlain then → Lands strings P (next (named then) x out) h ns → Lands strings P (followed_on me then x out next) h ns
  followed (thens.SyncOn fact) x out next h ns plain lands = absurd plain
  followed thens.Resume x out next h ns plain lands = absurd plain
  followed (thens.Rule n) x out next h ns plain lands = lands
  followed (thens.OnKeys n) x out next h ns plain lands = lands
  followed thens.Stay x out next h ns plain lands = lands
  followed thens.Follow x out next h ns plain lands = lands
  followed (thens.Lead fact) x out next h ns plain lands = lands
  followed thens.Untrust x out next h ns plain lands = lands
  followed thens.Put x out next h ns plain lands = lands

  row_lands : (leave : Bool) (save : Option Fact) (to : List Bool) (message : Option Message) (then : Then) (x : State) (out : Out) (next : Rest State (List Task)) (h : Held) (ns : List Note) → HasNoFaults h.stores → IsPlain then
      → (let y : State = with_saved save (left leave x) in Lands strings P (next (named then) (turned me then y) (turned_answers then y (and_sends (left_answers leave x out) (posted_to to message)))) (held_under (left leave x).seal save h) ns)
      → Lands strings P (row_done me (record { leave = leave; save = save; to = to; message = message; then = then }) x out next) h ns
  unfolding asked
  row_lands leave None to message then x out next h ns none plain lands =
      followed then (turned me then (left leave x)) (turned_answers then (left leave x) (and_sends (left_answers leave x out) (posted_to to message))) next h ns plain lands
  row_lands leave (Some fact) to message then x out next h ns none plain lands =
      let y : State = record (left leave x) { fact = fact } in
      let o : Out = turned_answers then y (and_sends (left_answers leave x out) (posted_to to message)) in
      let saved : SavedFact = with_seal (left leave x).seal fact in
      lands_ask strings P (Save saved) (λ u. followed_on me then (turned me then y) o next) h ns (λ among. record {
        answer = tt;
        is = ap (λ a. a.result) (serves (Save saved) h none);
        goes = subst (λ g. Lands strings P (followed_on me then (turned me then y) o next) g ns) (sym (ap (λ a. a.held) (serves (Save saved) h none))) (followed then (turned me then y) o next (held_under (left leave x).seal (Some fact) h) ns plain lands);
      })

  -- a whole row
  pub lands_row : (row : PhaseOut) (x : State) (out : Out) (next : Rest State (List Task)) (h : Held) (ns : List Note) → HasNoFaults h.stores → IsPlain row.then
      → (let y : State = with_saved row.save (left row.leave x) in Lands strings P (next (named row.then) (turned me row.then y) (turned_answers row.then y (and_sends (left_answers row.leave x out) (posted_to row.to row.message)))) (held_under (left row.leave x).seal row.save h) ns)
      → Lands strings P (row_done me row x out next) h ns
  lands_row row x out next h ns none plain lands = row_lands row.leave row.save row.to row.message row.then x out next h ns none plain lands
