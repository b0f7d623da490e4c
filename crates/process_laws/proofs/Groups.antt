-- A group of peers is a run of the abstract protocol, and its histories are legal.
use Rattle.std.proofs.Common.{◌≡◌, ◌<◌, ◌^◌, ℕ, true, List, [], ◌∷◌, length, map, refl, sym, subst, inl, inr}
use Rattle.protocol_laws.specs.Book.{opening_book}
use Rattle.protocol_laws.specs.Protocol.{State, opening}
use Rattle.world_refinement.proofs.Agreement.{is_safe}
use Rattle.world_refinement.proofs.BookSteps.{alike_agrees, opening_agrees}
use Rattle.world_refinement.proofs.Histories.{order_legal}
use Rattle.world_refinement.proofs.LegalHistories.{legal_fewer}
use Rattle.world_refinement.proofs.ScheduleLaws.{in_contains}
use Rattle.world_refinement.specs.Lines as schedule
use Rattle.ens_base.specs.Lists.{◌∈◌, AreDistinct}
use Rattle.quorums.proofs.Majorities.{majority_of_quorum, quorum_of_all}
use Rattle.quorums.specs.Quorums.{is_majority}
use Rattle.process_laws.specs.Moments.{Group, Moment, Starts, Takes, Spoils, IsCutOff, after, opening_of, run_of, calls_of}
use Rattle.process_laws.specs.Premises.{Always, IsSound, IsWithinLimits}
use Rattle.peer_state.specs.declared.event.Event.TheVariants as events
use Rattle.register_model.specs.Orders.{order}
use Rattle.register_model.specs.declared.answer.Answer.{Answer}
use Rattle.register_model.specs.declared.call.Call.{Call}
use Rattle.schedule_text.specs.declared.event.ScheduleEvent.{ScheduleEvent}
use Rattle.schedule_text.specs.declared.form.Form.TheVariants.{Three}
use Rattle.step_refinement.proofs.CalledKeys.{few_on_keys}
use Rattle.step_refinement.specs.Keys.{AreFew}
use Rattle.role_laws.specs.Facts.{AreFirm}
use Rattle.peer_refinement.specs.Trees.{AreFree}
use Rattle.world_spec.proofs.Growth.{further_same}
use Rattle.world_spec.specs.Runs.{Run, opening_run}
use Rattle.process_laws.proofs.Births.{born_holds, born_intact, born_many}
use Rattle.process_laws.proofs.Lines.{lines_for, lines_many, calls_same, answers_same}
use Rattle.process_laws.proofs.Moments.{IsAt, all_over}
use Rattle.process_laws.specs.Laws.{lines_of, views_in, IsRunOfProtocol, AreLegal, WereGiven}

-- the views for which peers are asked have members
asked_filled : (ms : List Moment) (w : Run) → Always IsWithinLimits ms w → (v : List ℕ) → v ∈ views_in ms → 0 < length v
asked_filled [] w keep v at = absurd at
asked_filled (Takes p (events.Change view) ∷ ms) w keep v (inl same) = subst (λ (x : List ℕ). 0 < length x) (sym same) keep.0.size.0
asked_filled (Takes p (events.Change view) ∷ ms) w keep v (inr at) = asked_filled ms (after (Takes p (events.Change view)) w) keep.1 v at
asked_filled (Takes p (events.Call c) ∷ ms) w keep v at = asked_filled ms (after (Takes p (events.Call c)) w) keep.1 v at
asked_filled (Takes p (events.Deliver from message) ∷ ms) w keep v at = asked_filled ms (after (Takes p (events.Deliver from message)) w) keep.1 v at
asked_filled (Takes p events.Tick ∷ ms) w keep v at = asked_filled ms (after (Takes p events.Tick) w) keep.1 v at
asked_filled (Starts p found ∷ ms) w keep v at = asked_filled ms (after (Starts p found) w) keep.1 v at
asked_filled (Spoils p nodes objects ∷ ms) w keep v at = asked_filled ms (after (Spoils p nodes objects) w) keep.1 v at
asked_filled (IsCutOff p ∷ ms) w keep v at = asked_filled ms (after (IsCutOff p) w) keep.1 v at

-- every peer is firm, so of each view that may vote more than half are
all_firm : (g : Group) → 0 < length g.view → ((v : List ℕ) → v ∈ views_in g.moments → 0 < length v) → AreFirm (lines_of g)
all_firm g filled asked v is = by is
  where
    most : (x : List ℕ) → 0 < length x → is_majority (λ q. true) x ≡ true
    most x some = majority_of_quorum (λ q. true) (x ∷ []) x (inl refl) (quorum_of_all (λ q. true) (λ q. refl) x some)

    by : v ∈ (g.view ∷ views_in g.moments) → is_majority (λ q. true) v ≡ true
    by (inl same) = subst (λ (x : List ℕ). is_majority (λ q. true) x ≡ true) (sym same) (most g.view filled)
    by (inr at) = most v (asked v at)

module _ (g : Group) (sound : IsSound g) where
  abbrev strings : List (List ℕ)
  strings = (run_of g).hashed

  free : AreFree strings
  free a b in_a in_b same = sound.no_clash a b (in_contains strings a in_a) (in_contains strings b in_b) same

  firm : AreFirm (lines_of g)
  firm = all_firm g sound.is_view.size.0 (asked_filled g.moments (opening_of g) sound.events_keep_limits)

  abbrev Reaches : List ScheduleEvent → Run → Type 0
  Reaches = IsAt g.peers g.view (lines_of g) strings refl firm free sound.few_peers (run_of g) (λ x at. at)

  opens : Reaches [] (opening_of g)
  opens = record {
    agrees = record {
      state = opening g.view;
      holds = record { steps = []; is = refl; holds = born_holds g sound.first_without_fact (lines_of g) strings refl sound.is_view (inl refl) };
      agrees = alike_agrees 0 [] (opening_run Three g.peers g.view) (opening_of g) opening_book refl refl refl (opening_agrees Three g.peers g.view);
      size = born_many g.first g.view 1 g.peers;
      intact = born_intact g sound.first_without_fact;
    };
    alive = refl;
  }

  -- the world after all moments agrees with a run
  reached : Reaches (lines_for g.moments) (run_of g)
  reached = all_over g.peers g.view (lines_of g) strings refl firm free sound.few_peers (run_of g) (λ x at. at) [] g.moments (opening_of g) (subst (λ (n : ℕ). n < 2 ^ 64) (sym (lines_many g.moments)) sound.few_moments)
      (subst AreFew (sym (calls_same 1 g.moments)) (few_on_keys (calls_of g) sound.few_calls.few sound.few_calls.keys sound.few_calls.few_keys sound.few_calls.own_key)) opens sound.of_peers sound.one_process sound.facts_survive sound.messages_were_sent sound.events_keep_limits (λ v at. inr at) (subst (λ (cs : List Call). AreDistinct (map (λ (c : Call). c.id) cs)) (sym (calls_same 1 g.moments)) sound.distinct_calls) (further_same (run_of g))

  pub group_runs : IsRunOfProtocol g
  group_runs = let a = reached.agrees.holds in record { steps = a.steps; holds = a.holds; safe = is_safe g.view a.steps a.holds.parts.run }

  pub group_legal : (heard : List Answer) → WereGiven g heard → AreLegal g heard
  group_legal heard given key =
      let a = reached.agrees.holds in
      legal_fewer (schedule.calls_from 1 (lines_for g.moments)) (calls_of g) (schedule.answers_in (run_of g).printed) heard
      (λ c. (λ at. subst (λ (cs : List Call). c ∈ cs) (calls_same 1 g.moments) at, λ at. subst (λ (cs : List Call). c ∈ cs) (sym (calls_same 1 g.moments)) at))
      (λ x at. subst (λ (xs : List Answer). x ∈ xs) (sym (answers_same (run_of g).printed)) (given x at)) key (order (run_of g).notes key)
      (order_legal g.view a.steps (lines_for g.moments) (run_of g) key a.holds.parts.run (subst (λ (s : State). schedule.BookAgrees (lines_for g.moments) (run_of g) s.book) (sym a.is) reached.agrees.agrees))
