-- The run of each ensemble is legal.
use Rattle.std.proofs.Common.{◌≡◌, ℕ, ◌+◌, ◌<◌, ◌≤◌, ◌^◌, Bool, true, false, ◌||◌, if◌then◌else◌, List, [], ◌∷◌, length, inl, inr, refl, sym, ap, subst, ◌∙◌, arith}
use Rattle.std.proofs.lemmas.Bool.{false≢true}
use Rattle.std.specs.List.{list_any}
use Rattle.protocol_laws.specs.Protocol.{State, opening}
use Rattle.world_refinement.proofs.Agreement.{Stands as StandsFor, carried}
use Rattle.world_refinement.proofs.Causes.{causes_of}
use Rattle.world_refinement.proofs.Histories.{order_legal}
use Rattle.world_refinement.proofs.OpeningWorld.{opening_holds}
use Rattle.world_refinement.proofs.Schedules.{IsAfter, IsCarried, schedule_agrees}
use Rattle.world_refinement.proofs.ScheduleLaws.{in_contains}
use Rattle.world_refinement.specs.Causes.{HaveCauses}
use Rattle.world_refinement.specs.Lines as refined
use Rattle.world_refinement.specs.Lines.{BookAgrees, lines_of as said_of}
use Rattle.ens_base.specs.Lists.{◌∈◌, AreDistinct, same_bytes}
use Rattle.ens_base.specs.View.{IsView}
use Rattle.ens_base.proofs.Lists.{bytes_itself}
use Rattle.world_spec.specs.Held.{HasNoClash}
use Rattle.history_record.specs.Calls.{calls_from}
use Rattle.register_model.specs.Histories.{IsLegal}
use Rattle.register_model.specs.Orders.{order}
use Rattle.register_model.specs.declared.answer.Answer.{Answer}
use Rattle.register_model.specs.declared.call.Call.{Call}
use Rattle.register_model.specs.declared.printed.Printed.{Printed}
use Rattle.register_model.specs.declared.printed.Printed.TheVariants as printed
use Rattle.root_laws.specs.Worlds.{IsLegalStory, answers_in, calls_on}
use Rattle.quorums.proofs.Majorities.{quorum_of_all}
use Rattle.quorums.specs.Quorums.{is_majority, is_quorum}
use Rattle.schedule_input.proofs.Lines.{asked_by, view_stands}
use Rattle.schedule_text.specs.Spelling.{AllMayStand, call_ids}
use Rattle.schedule_text.specs.declared.event.ScheduleEvent.{ScheduleEvent}
use Rattle.schedule_text.specs.declared.event.ScheduleEvent.TheVariants as line
use Rattle.role_laws.specs.Facts.{AreFirm, Lines}
use Rattle.world_refinement.specs.PeerRefinement.{AreFree}
use Rattle.world_spec.specs.Runs.{Run, opening_run}
use Rattle.root.specs.Worlds.{newest, world, worlds}
use Rattle.root.proofs.Printing.{answer_by, world_by}

-- ## Calls and answers

pub calls_same : (n : ℕ) (events : List ScheduleEvent) → refined.calls_from n events ≡ calls_from n events
calls_same n [] = refl
calls_same n (line.Call peer id key command ∷ more) = ap (λ (cs : List Call). record { id = id; key = key; command = command; event = n } ∷ cs) (calls_same (n + 1) more)
calls_same n (_ ∷ more) = calls_same (n + 1) more

answers_same : (ps : List Printed) → refined.answers_in ps ≡ answers_in ps
answers_same [] = refl
answers_same (printed.Answer a ∷ more) = ap (λ (l : List Answer). a ∷ l) (answers_same more)
answers_same (printed.Change event peer taken ∷ more) = answers_same more

-- no call is on a key that none of the events is a call on
none_called : (n : ℕ) (key : List ℕ) (events : List ScheduleEvent) (c : Call) → list_any (calls_on key) events ≡ false → c ∈ calls_from n events → same_bytes c.key key ≡ false
none_called n key [] c none m = absurd m
none_called n key (line.Call peer id k command ∷ more) c none m = by (same_bytes k key) refl none m (none_called (n + 1) key more c)
  where
    by : (b : Bool) → same_bytes k key ≡ b → (b || list_any (calls_on key) more) ≡ false → c ∈ calls_from n (line.Call peer id k command ∷ more) → (list_any (calls_on key) more ≡ false → c ∈ calls_from (n + 1) more → same_bytes c.key key ≡ false) → same_bytes c.key key ≡ false
    by true e h m later = absurd cc
    by false e h (inl is) later = ap (λ (x : Call). same_bytes x.key key) is ∙ e
    by false e h (inr k) later = later h k
none_called n key (_ ∷ more) c none m = none_called (n + 1) key more c none m

-- a history without calls is legal where no call is on its key
nothing_legal : (calls : List Call) (answers : List Answer) (key : List ℕ) → ((c : Call) → c ∈ calls → c.key ≡ key → ⊥) → IsLegal calls answers key []
nothing_legal calls answers key none = record {
  once = tt;
  of_key = λ id m. absurd m;
  completed = λ c a m given same on done. absurd (none c m on);
  refused = λ a given is m. m;
  run = tt;
  in_time = λ a c given m done before p q at there. absurd (cc at);
}

-- ## One ensemble

one_view : (peers : ℕ → Bool) (view : List ℕ) → is_quorum peers (view ∷ []) ≡ true → is_majority peers view ≡ true
one_view peers view h = grind arith

-- all peers are a majority of a view
all_of : (view : List ℕ) → IsView view → is_majority (λ p. true) view ≡ true
all_of view is = one_view (λ p. true) view (quorum_of_all (λ p. true) (λ q. refl) view is.size.0)

module _ (peers : ℕ) (view : List ℕ) (events : List ScheduleEvent) (small : peers ≤ 31) (is_view : IsView view) (few : length events < 2 ^ 32) (may : AllMayStand peers events)
    (distinct : AreDistinct (call_ids events)) (apart : HasNoClash (world peers view events).hashed) where
  abbrev Said : Lines
  Said = said_of newest view events

  abbrev Strings : List (List ℕ)
  Strings = (world peers view events).hashed

  abbrev Agreed : Run → State → Type 0
  Agreed = StandsFor Said view Strings

  -- every peer has a seal
  firm : AreFirm Said
  firm v (inl same) = all_of v (subst IsView (sym same) is_view)
  firm v (inr asked) = let by = asked_by v events asked in all_of v (view_stands peers by.0 v events may by.1)

  free : AreFree Strings
  free a b in_a in_b same = apart a b (in_contains Strings a in_a) (in_contains Strings b in_b) same

  opens : Agreed (opening_run newest peers view) (opening view)
  opens = record { steps = []; is = refl; holds = opening_holds newest view Said peers Strings refl is_view (inl refl) }

  carries : IsCarried peers Said (world peers view events) Agreed
  carries = carried Said view Strings firm free peers small (world peers view events) (λ x at. at)

  after : IsAfter peers Agreed events (world peers view events)
  after = schedule_agrees newest peers view events Agreed carries opens small few may distinct

  legal : (key : List ℕ) → IsLegal (calls_from 1 events) (answers_in (world peers view events).printed) key (order (world peers view events).notes key)
  legal key =
      let a : Agreed (world peers view events) after.state = after.holds in
      let agrees = subst (λ (t : State). BookAgrees events (world peers view events) t.book) (sym a.is) after.agrees in
      let is = order_legal view a.steps events (world peers view events) key a.holds.parts.run agrees in
      subst (λ (answers : List Answer). IsLegal (calls_from 1 events) answers key (order (world peers view events).notes key)) (answers_same (world peers view events).printed)
      (subst (λ (calls : List Call). IsLegal calls (refined.answers_in (world peers view events).printed) key (order (world peers view events).notes key)) (calls_same 1 events) is)

  causes : HaveCauses events (world peers view events).printed (world peers view events).notes
  causes =
      let a : Agreed (world peers view events) after.state = after.holds in
      causes_of view a.steps events (world peers view events) a.holds.parts.run (subst (λ (t : State). BookAgrees events (world peers view events) t.book) (sym a.is) after.agrees)

  pub story_legal : IsLegalStory events (worlds peers view events)
  story_legal = record {
    legal = λ key. by key (list_any (calls_on key) events) refl;
    called = λ a m.
        let c = causes.caused a (subst (λ (l : List Answer). a ∈ l) (sym (answers_same (world peers view events).printed)) m) in
        (c.0, subst (λ (l : List Call). c.0 ∈ l) (calls_same 1 events) c.1, c.2);
    in_events = λ a m. answer_by (length events) (world peers view events).printed a (world_by peers view events few) m;
  }
    where
      by : (key : List ℕ) (b : Bool) → list_any (calls_on key) events ≡ b → IsLegal (calls_from 1 events) (answers_in (world peers view events).printed) key (if list_any (calls_on key) events then order (world peers view events).notes key else [])
      by key true e = subst (λ (c : Bool). IsLegal (calls_from 1 events) (answers_in (world peers view events).printed) key (if c then order (world peers view events).notes key else [])) (sym e) (legal key)
      by key false e = subst (λ (c : Bool). IsLegal (calls_from 1 events) (answers_in (world peers view events).printed) key (if c then order (world peers view events).notes key else [])) (sym e)
          (nothing_legal (calls_from 1 events) (answers_in (world peers view events).printed) key (λ c m on. false≢true (sym (none_called 1 key events c e m) ∙ ap (λ (k : List ℕ). same_bytes k key) on ∙ bytes_itself key)))

-- an ensemble that does not open
pub silence_legal : IsLegalStory [] (record { printed = []; notes = [] })
silence_legal = record { legal = λ key. nothing_legal [] [] key (λ c m on. m); called = λ a m. absurd m; in_events = λ a m. absurd m }
