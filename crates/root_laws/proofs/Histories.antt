-- The histories of a script are legal, and each slot has one view.
use Rattle.std.proofs.Common.{◌≡◌, ℕ, ◌+◌, inl, inr, List, [], ◌∷◌, length, map, drop, Option, Some, None, sym, ap, subst, ◌∙◌, arith}
use Rattle.ens_base.specs.Lists.{◌∈◌}
use Rattle.register_model.specs.Openings.{HaveOneValue, IsOpening}
use Rattle.register_model.specs.Parts.{ArePart, numbered_answer}
use Rattle.register_model.proofs.Numbered.{numbered_legal}
use Rattle.register_model.proofs.Openings.{one_value}
use Rattle.register_model.proofs.Parts.{legal_among}
use Rattle.history_record.specs.Calls.{calls_from}
use Rattle.register_model.specs.Histories.{IsLegal}
use Rattle.register_model.specs.declared.answer.Answer.{Answer}
use Rattle.register_model.specs.declared.call.Call.{Call}
use Rattle.scripts.specs.Spelling.{IsScript}
use Rattle.scripts.specs.declared.slots.Ensemble.{Ensemble}
use Rattle.scripts.specs.declared.slots.Ensemble.TheVariants.{Root, Slot}
use Rattle.scripts.specs.declared.event.RootEvent.{RootEvent}
use Rattle.scripts.specs.declared.event.RootEvent.TheVariants.{At, Open, Look, Route}
use Rattle.scripts.specs.declared.script.RootScript.{RootScript}
use Rattle.root_laws.specs.Legal.{HaveLegalStories, IsLegalRun, answers_of, routed_calls_from, slot_calls_from}
use Rattle.root_laws.specs.Lines.{Line, events_of, lines_from, number_of}
use Rattle.root_laws.specs.Openings.{Opening, opening_in, view_in}
use Rattle.root_laws.specs.Runs.{ensemble_story, key_history, lines_of, lines_with, opening_of, root_answers, slot_history}
use Rattle.root_laws.specs.Slots.{slot_key, slot_of, view_of_bytes}
use Rattle.root_laws.specs.Worlds.{Worlds, answers_in, history_in}
use Rattle.root_laws.proofs.Calls.{slot_calls_apart}
use Rattle.root_laws.proofs.Lines.{Ascend, line_calls, lines_ascend, own_calls, rise_with}
use Rattle.root_laws.proofs.Sources.{answers_told, own_answers, one_routed, root_answer, root_called, routed_done, slot_answer, slot_called}
use Rattle.root_laws.proofs.Views.{Tells, opens, view_call}

-- the openings and looks have such commands alone
slot_openings : (n : ℕ) (events : List RootEvent) (c : Call) → c ∈ slot_calls_from n events → IsOpening c.command
slot_openings n [] c m = absurd m
slot_openings n (At ensemble event ∷ more) c m = slot_openings (n + 1) more c m
slot_openings n (Open peer id slot view ∷ more) c (inl is) = subst IsOpening (sym (ap (λ (x : Call). x.command) is)) tt
slot_openings n (Open peer id slot view ∷ more) c (inr m) = slot_openings (n + 1) more c m
slot_openings n (Look peer id slot ∷ more) c (inl is) = subst IsOpening (sym (ap (λ (x : Call). x.command) is)) tt
slot_openings n (Look peer id slot ∷ more) c (inr m) = slot_openings (n + 1) more c m
slot_openings n (Route peer id key command ∷ more) c m = slot_openings (n + 1) more c m

module _ (worlds : Worlds) (s : RootScript) (script : IsScript s) (stories : HaveLegalStories worlds s) where
  -- the lines of an ensemble have ascending numbers
  ascend_with : (e : Ensemble) (o : Option Opening) → Ascend 0 (lines_with s e o)
  ascend_with e None = tt
  ascend_with e (Some o) = lower (lines_from (o.event + 1) e (drop o.event s.events)) (lines_ascend (o.event + 1) e (drop o.event s.events))
    where
      lower : (lines : List Line) → Ascend (o.event + 1) lines → Ascend 0 lines
      lower [] h = tt
      lower (l ∷ ls) h = (omega arith, h.1)

  -- the histories of an ensemble are legal with the numbers of the script
  own_legal : (e : Ensemble) (key : List ℕ) → IsLegal (line_calls (lines_of worlds s e)) (own_answers worlds s e) key (history_in (events_of (lines_of worlds s e)) (ensemble_story worlds s e) key)
  own_legal e key =
      let lines : List Line = lines_of worlds s e in
      let story = ensemble_story worlds s e in
      let rise = rise_with 0 lines (answers_in story.printed) (ascend_with e (opening_of worlds s e)) (stories e).in_events in
      let legal = numbered_legal (number_of lines) (calls_from 1 (events_of lines)) (answers_in story.printed) (length lines) key (history_in (events_of lines) story key) rise ((stories e).legal key) in
      let Calls : List Call → Type 0 = λ calls. IsLegal calls (map (numbered_answer (number_of lines)) (answers_in story.printed)) key (history_in (events_of lines) story key) in
      let Answers : List Answer → Type 0 = λ answers. IsLegal (line_calls lines) answers key (history_in (events_of lines) story key) in
      subst Answers (sym (answers_told (number_of lines) story.printed)) (subst Calls (own_calls lines) legal)

  -- those of the root
  root_legal : (slot : ℕ) → IsLegal (slot_calls_from 1 s.events) (own_answers worlds s Root) (slot_key slot) (slot_history worlds s slot)
  root_legal slot =
      let Calls : List Call → Type 0 = λ calls. IsLegal calls (own_answers worlds s Root) (slot_key slot) (slot_history worlds s slot) in
      subst Calls (root_called worlds s script stories) (own_legal Root (slot_key slot))

  slots_legal : (slot : ℕ) → IsLegal (slot_calls_from 1 s.events) (answers_of worlds s) (slot_key slot) (slot_history worlds s slot)
  slots_legal slot = legal_among (slot_calls_from 1 s.events) (slot_calls_from 1 s.events) (own_answers worlds s Root) (answers_of worlds s) (slot_key slot) (slot_history worlds s slot) part (root_legal slot)
    where
      part : ArePart (slot_calls_from 1 s.events) (own_answers worlds s Root) (slot_calls_from 1 s.events) (answers_of worlds s) (slot_key slot) (slot_history worlds s slot)
      part = record {
        among = λ c m. m;
        called = λ c m there. m;
        answered = λ a given there. let c = (root_legal slot).of_key a.id there in root_answer worlds s script stories c.0 a c.1 given (sym c.2);
        completed = λ c a m given same on done. (m, root_answer worlds s script stories c a m given same);
      }

  keys_legal : (key : List ℕ) → IsLegal (routed_calls_from 1 s.events) (answers_of worlds s) key (key_history worlds s key)
  keys_legal key = legal_among (line_calls (lines_of worlds s (Slot (slot_of key)))) (routed_calls_from 1 s.events) (own_answers worlds s (Slot (slot_of key))) (answers_of worlds s) key (key_history worlds s key) part legal
    where
      legal : IsLegal (line_calls (lines_of worlds s (Slot (slot_of key)))) (own_answers worlds s (Slot (slot_of key))) key (key_history worlds s key)
      legal = own_legal (Slot (slot_of key)) key

      part : ArePart (line_calls (lines_of worlds s (Slot (slot_of key)))) (own_answers worlds s (Slot (slot_of key))) (routed_calls_from 1 s.events) (answers_of worlds s) key (key_history worlds s key)
      part = record {
        among = λ c m. (slot_called worlds s script stories (slot_of key) c m).0;
        called = λ c m there.
            let d = legal.of_key c.id there in
            let one : d.0 ≡ c = one_routed worlds s script stories d.0 c (slot_called worlds s script stories (slot_of key) d.0 d.1).0 m d.2 in
            let In : Call → Type 0 = λ x. x ∈ line_calls (lines_of worlds s (Slot (slot_of key))) in
            subst In one d.1;
        answered = λ a given there. let c = legal.of_key a.id there in slot_answer worlds s script stories (slot_of key) c.0 a c.1 given (sym c.2);
        completed = λ c a m given same on done.
            let Both : List ℕ → Type 0 = λ k. (c ∈ line_calls (lines_of worlds s (Slot (slot_of k)))) × (a ∈ own_answers worlds s (Slot (slot_of k))) in
            subst Both on (routed_done worlds s script stories c a m given same done);
      }

  -- all answers that tell the view of a slot tell that of its opening
  one_view : (slot : ℕ) (a : Answer) (view : List ℕ) → a ∈ answers_of worlds s → view_in s.events slot a ≡ Some view → (opening : Opening) × (opening_of worlds s (Slot slot) ≡ Some opening) × (opening.view ≡ view)
  one_view slot a view given tells = (first.0, first.2, views)
    where
      call : Tells (slot_calls_from 1 s.events) slot a view
      call = view_call s.peers 1 s.events slot a view script.events tells

      own : a ∈ own_answers worlds s Root
      own = root_answer worlds s script stories call.0 a call.2 given call.3

      told_root : own_answers worlds s Root ≡ root_answers worlds s
      told_root = answers_told (number_of (lines_of worlds s Root)) (ensemble_story worlds s Root).printed

      first : (o : Opening) × (b : Answer) × (opening_in s.events slot (root_answers worlds s) ≡ Some o) × (b ∈ root_answers worlds s) × (view_in s.events slot b ≡ Some o.view)
      first =
          let In : List Answer → Type 0 = λ l. a ∈ l in
          opens s.events slot (root_answers worlds s) a view (subst In told_root own) tells

      other : Tells (slot_calls_from 1 s.events) slot first.1 first.0.view
      other = view_call s.peers 1 s.events slot first.1 first.0.view script.events first.4

      one : HaveOneValue (slot_calls_from 1 s.events) (own_answers worlds s Root) (slot_key slot)
      one =
          one_value (slot_calls_from 1 s.events) (own_answers worlds s Root) (slot_key slot) (slot_calls_apart 1 s.events script.distinct) (λ c m on. slot_openings 1 s.events c m)
          (slot_history worlds s slot) (root_legal slot)

      some_same : (x y : List ℕ) → Some x ≡ Some y → x ≡ y
      some_same x y h = cc h

      views : first.0.view ≡ view
      views =
          let In : List Answer → Type 0 = λ l. first.1 ∈ l in
          let mine : call.1 ≡ one.0 = one.1 call.0 a call.1 call.2 own call.3 call.4 call.5 in
          let theirs : other.1 ≡ one.0 = one.1 other.0 first.1 other.1 other.2 (subst In (sym told_root) first.3) other.3 other.4 other.5 in
          some_same first.0.view view (sym other.6 ∙ ap view_of_bytes (theirs ∙ sym mine) ∙ call.6)

  pub run_legal : IsLegalRun worlds s
  run_legal = record { slots = slots_legal; keys = keys_legal; one_view = one_view }
