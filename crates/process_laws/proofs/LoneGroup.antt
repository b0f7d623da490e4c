-- A lone peer that lives twice over stores in memory meets the premises, and some executions break one.
use Rattle.std.proofs.Common.{◌≡◌, ◌≤◌, ◌++◌, ℕ, List, [], ◌∷◌, Option, None, Result, Ok, Err, arith, lit<, lit≤, refl, sym, ap, subst, ◌∙◌, inl, inr}
use Rattle.std.proofs.lemmas.Option.{none-some}
use Rattle.ens_base.specs.Lists.{◌∈◌}
use Rattle.world_spec.specs.Walks.{walk}
use Rattle.environment.specs.Maps.{Entries}
use Rattle.process_laws.specs.Moments.{Found, run_of, stores_found, with_contents}
use Rattle.process_laws.proofs.Lone.{lone_view, older_breaks, one_string}
use Rattle.process_laws.specs.GroupWitness.{StartsOnOlder, lone_opening, nothing_found, remains_found}
use Rattle.peer_spec.specs.Drives.{driven, most_turns, step_of}
use Rattle.peer_spec.specs.Starts.{start_of}
use Rattle.process_laws.proofs.Running.{not_stopped}
use Rattle.peer_server.specs.Starting.{served_mode}
use Rattle.peer_state.specs.declared.event.Event.{Event}
use Rattle.peer_state.specs.declared.event.Event.TheVariants.{Tick}
use Rattle.peer_state.specs.declared.state.State.{State}
use Rattle.register_model.specs.declared.answer.Answer.{Answer}
use Rattle.register_model.specs.declared.call.Call.{Call}
use Rattle.register_model.specs.declared.note.Note.{Note}
use Rattle.lexemes.specs.Spelling.{IsAmong}
use Rattle.step_plans.specs.Calls.{AnswerOf}
use Rattle.step_plans.specs.Plans.{Plan, Done, Say, Ask, Ending, Finished, Stopped, Out, Runs, nothing}
use Rattle.step_plans.specs.declared.error.PeerError.{PeerError}
use Rattle.synctree.specs.Sixteen.{form_of}
use Rattle.peer_turns.specs.Deeds.{Deed, events_in}
use Rattle.wire_frames.specs.declared.message.Message.{Message}
use Rattle.world_spec.specs.HeldRuns.{Ended, either, run}
use Rattle.world_spec.specs.Held.{HasNoClash, Held}
use Rattle.world_spec.specs.Answers.{answered}
use Rattle.world_spec.specs.HeldLaws.{held_with}
use Rattle.world_stores.specs.Facts.{kept_of}
use Rattle.process_laws.proofs.Joining.{linearizable, one_group}
use Rattle.process_laws.specs.Acts.{Act, Begins, Execution, Life, Spoil, Stage, Step, acts_of, actor, and_stages, group_of, later_acts, own_acts}
use Rattle.process_laws.proofs.Places.{for_both}
use Rattle.process_laws.specs.Joined.{AreInOrder, AreOnDisks, WereGiven}
use Rattle.process_laws.specs.Lives.{AreLives, HasLived, IsOccasion}
use Rattle.process_laws.specs.ProcessWitness.{AreInMemory, IsInvented, a_lost_fact, an_unsent_message, fact_in_memory, first_of_two, found_again, memory_does, memory_holds, memory_refuses, memory_spoils, second_of_two, spoiled_world, started_world, tick_in, two_lives, two_processes}

-- ## Runs over stores in memory

-- how a run of a plan ends
abbrev pub ended : State → Out → Held → List Note → Ended State
ended x out held notes = record { ending = Finished x out; held = held; notes = notes }

-- the run of a plan is one that the stores may make
pub runs_so : (plan : Plan State) (s t : Held) (ns ms : List Note) (x : State) (out : Out) → run plan s ns ≡ ended x out t ms → Runs memory_does memory_refuses plan s ns (Finished x out) t ms
runs_so (Done y o) s t ns ms x out is = inr (sym (ap (λ (e : Ended State). e.ending) is), sym (ap (λ (e : Ended State). e.held) is), sym (ap (λ (e : Ended State). e.notes) is))
runs_so (Say note plan) s t ns ms x out is = inr (runs_so plan s t (ns ++ note ∷ []) ms x out is)
runs_so (Ask call next) s t ns ms x out is = by (answered call s).result refl is (λ a later. runs_so (next a) (answered call s).held t ns ms x out later)
  where
    by : (r : Result (AnswerOf call) PeerError) → (answered call s).result ≡ r
        → either {R = Ended State} r (λ a. run (next a) (answered call s).held ns) (λ error. record { ending = Stopped error; held = (answered call s).held; notes = ns }) ≡ ended x out t ms
        → ((a : AnswerOf call) → run (next a) (answered call s).held ns ≡ ended x out t ms → Runs memory_does memory_refuses (next a) (answered call s).held ns (Finished x out) t ms)
        → Runs memory_does memory_refuses (Ask call next) s ns (Finished x out) t ms
    by (Ok a) answer later on = inr (inr (a, (answered call s).held, (answer, refl), on a later))
    by (Err error) answer later on = absurd (not_stopped x out error (sym (ap (λ (e : Ended State). e.ending) later)))

-- and the only one
is_run : (plan : Plan State) (s t : Held) (ns ms : List Note) (x : State) (out : Out) → Runs memory_does memory_refuses plan s ns (Finished x out) t ms → run plan s ns ≡ ended x out t ms
is_run (Done y o) s t ns ms x out (inl cut) = absurd (not_stopped x out _ cut.0)
is_run (Done y o) s t ns ms x out (inr came) = ap (λ (e : Ending State). let r : Ended State = record { ending = e; held = s; notes = ns } in r) (sym came.0) ∙ ap (λ (held : Held). ended x out held ns) (sym came.1) ∙ ap (λ (notes : List Note). ended x out t notes) (sym came.2)
is_run (Say note plan) s t ns ms x out (inl cut) = absurd (not_stopped x out _ cut.0)
is_run (Say note plan) s t ns ms x out (inr on) = is_run plan s t (ns ++ note ∷ []) ms x out on
is_run (Ask call next) s t ns ms x out (inl cut) = absurd (not_stopped x out _ cut.0)
is_run (Ask call next) s t ns ms x out (inr (inl refused)) = absurd (not_stopped x out refused.0 refused.2)
is_run (Ask call next) s t ns ms x out (inr (inr on)) =
    ap (λ (r : Result (AnswerOf call) PeerError). either {R = Ended State} r (λ a. run (next a) (answered call s).held ns) (λ error. record { ending = Stopped error; held = (answered call s).held; notes = ns })) on.2.0
    ∙ ap (λ (held : Held). run (next on.0) held ns) (sym on.2.1) ∙ is_run (next on.0) on.1 t ns ms x out on.3

-- ## Two lives

abbrev Lived : Life → Type 0
Lived life = HasLived memory_does memory_refuses memory_spoils memory_holds fact_in_memory (1 ∷ []) 1 life

-- each step of a life is a tick
all_ticks : (deeds : List Deed) → ((d : Deed) → d ∈ deeds → d.event ≡ Tick) → (event : Event) → event ∈ events_in deeds → IsOccasion 1 event
all_ticks [] ticks event none = absurd none
all_ticks (d ∷ deeds) ticks event (inl same) = inl (same ∙ ticks d (inl refl))
all_ticks (d ∷ deeds) ticks event (inr at) = all_ticks deeds (λ e here. ticks e (inr here)) event at

-- a life of two ticks, between which nodes and objects become others
ticks_twice : (found : Found) (d e : Deed) (nodes objects : Entries) (x y z : State) (s t u : Held) → d.event ≡ Tick → e.event ≡ Tick → run (start_of served_mode (1 ∷ [])) (held_with (stores_found found) []) [] ≡ ended x nothing s [] → run (step_of 1 d.event x) s [] ≡ ended y d.out t d.notes
    → run (step_of 1 e.event y) (record t { stores = with_contents nodes objects t.stores }) [] ≡ ended z e.out u e.notes → Lived (record { found = found; stages = Step d ∷ Spoil nodes objects ∷ Step e ∷ [] })
ticks_twice found d e nodes objects x y z s t u first second start step later = record {
  opened = held_with (stores_found found) [];
  finds = refl;
  first = x;
  started = s;
  starts = runs_so (start_of served_mode (1 ∷ [])) (held_with (stores_found found) []) s [] [] x nothing start;
  last = z;
  left = u;
  leads = (y, t, runs_so (step_of 1 d.event x) s t [] d.notes y d.out step, (spoiled, refl, (z, u, runs_so (step_of 1 e.event y) spoiled u [] e.notes z e.out later, (refl, refl))));
  events = all_ticks (d ∷ e ∷ []) ticks;
}
  where
    spoiled : Held
    spoiled = record t { stores = with_contents nodes objects t.stores }

    ticks : (a : Deed) → a ∈ (d ∷ e ∷ []) → a.event ≡ Tick
    ticks a (inl is) = ap (λ (b : Deed). b.event) is ∙ first
    ticks a (inr (inl is)) = ap (λ (b : Deed). b.event) is ∙ second
    ticks a (inr (inr none)) = absurd none

-- a life of one tick
ticks_once : (found : Found) (d : Deed) (x y : State) (s t : Held) → d.event ≡ Tick → run (start_of served_mode (1 ∷ [])) (held_with (stores_found found) []) [] ≡ ended x nothing s [] → run (step_of 1 d.event x) s [] ≡ ended y d.out t d.notes → Lived (record { found = found; stages = Step d ∷ [] })
ticks_once found d x y s t tick start step = record {
  opened = held_with (stores_found found) [];
  finds = refl;
  first = x;
  started = s;
  starts = runs_so (start_of served_mode (1 ∷ [])) (held_with (stores_found found) []) s [] [] x nothing start;
  last = y;
  left = t;
  leads = (y, t, runs_so (step_of 1 d.event x) s t [] d.notes y d.out step, (refl, refl));
  events = all_ticks (d ∷ []) ticks;
}
  where
    ticks : (a : Deed) → a ∈ (d ∷ []) → a.event ≡ Tick
    ticks a (inl is) = ap (λ (b : Deed). b.event) is ∙ tick
    ticks a (inr none) = absurd none

first_life : Lived first_of_two
unfolding walk driven most_turns form_of
first_life = ticks_twice remains_found (tick_in lone_opening) (tick_in spoiled_world) [] ((4 ∷ [], 5 ∷ []) ∷ []) _ _ _ _ _ _ refl refl refl refl refl

second_life : Lived second_of_two
unfolding walk driven most_turns form_of
second_life = ticks_once found_again (tick_in started_world) _ _ _ _ refl refl refl

fact_survives : kept_of found_again.fact ≡ fact_in_memory first_life.left
unfolding walk driven most_turns form_of first_life ticks_twice
fact_survives = refl

abbrev Lives : ℕ → List Life → Type 0
Lives p lives = AreLives memory_does memory_refuses memory_spoils memory_holds fact_in_memory (1 ∷ []) p lives

both_lives : Lives 1 (first_of_two ∷ second_of_two ∷ [])
both_lives = (refl, first_life, (fact_survives, second_life, tt))

-- ## The premises are met

no_clash : HasNoClash (run_of (group_of two_lives)).hashed
unfolding walk driven most_turns form_of
no_clash = one_string _

-- the lone peer is peer 1
pub is_one : (p : ℕ) → IsAmong 1 p → 1 ≡ p
is_one p among = first_last among.first among.last
  where
    first_last : 1 ≤ p → p ≤ 1 → 1 ≡ p
    first_last low high = omega arith

of_one : (acts : List Act) → ((a : Act) → a ∈ acts → actor a ≡ 1) → (a : Act) → a ∈ acts → IsAmong 1 (actor a)
of_one acts all a here = subst (IsAmong 1) (sym (all a here)) (record { first = lit≤ tt; last = lit≤ tt })

pub lone_joined : AreInMemory two_lives
lone_joined = record {
  few_peers = lit≤ tt;
  is_view = lone_view;
  few_acts = lit< tt;
  few_calls = record { few = lit< tt; keys = []; few_keys = lit< tt; own_key = λ c none. absurd none };
  of_peers = of_one two_lives.acts (λ a here. by a here);
  lived = λ p among. subst (λ (q : ℕ). Lives q (two_lives.lives q)) (is_one p among) both_lives;
  in_order = λ p among. subst (λ (q : ℕ). own_acts q two_lives.acts ≡ acts_of q (two_lives.lives q)) (is_one p among) refl;
  messages_were_sent = (tt, (tt, (tt, (tt, (tt, (tt, (tt, tt)))))));
  distinct_calls = tt;
  no_clash = no_clash;
}
  where
    by : (a : Act) → a ∈ two_lives.acts → actor a ≡ 1
    by a (inl is) = ap actor is
    by a (inr (inl is)) = ap actor is
    by a (inr (inr (inl is))) = ap actor is
    by a (inr (inr (inr (inl is)))) = ap actor is
    by a (inr (inr (inr (inr (inl is))))) = ap actor is
    by a (inr (inr (inr (inr (inr (inl is)))))) = ap actor is
    by a (inr (inr (inr (inr (inr (inr (inl is))))))) = ap actor is
    by a (inr (inr (inr (inr (inr (inr (inr none))))))) = absurd none

-- ## And can be broken

-- a process that started on empty disks saved a fact
saves_one : (x : State) (s : Held) → run (start_of served_mode (1 ∷ [])) (held_with (stores_found nothing_found) []) [] ≡ ended x nothing s [] → kept_of None ≡ fact_in_memory s → ⊥
unfolding walk form_of
saves_one x s is none = none-some _ (none ∙ ap (λ (e : Ended State). fact_in_memory e.held) (sym is))

started_with : (opened s : Held) (x : State) → memory_holds opened (stores_found nothing_found) → Runs memory_does memory_refuses (start_of served_mode (1 ∷ [])) opened [] (Finished x nothing) s [] → kept_of None ≡ fact_in_memory s → ⊥
started_with opened s x holds starts none = saves_one x s (ap (λ (held : Held). run (start_of served_mode (1 ∷ [])) held []) (sym holds) ∙ is_run (start_of served_mode (1 ∷ [])) opened s [] [] x nothing starts) none

abbrev silent : Life
silent = record { found = nothing_found; stages = [] }

lost_life : Lives 1 (silent ∷ silent ∷ []) → ⊥
lost_life lives = started_with lives.1.opened lives.1.started lives.1.first lives.1.finds lives.1.starts (lives.2.0 ∙ ap fact_in_memory lives.1.leads.1)

pub lost_breaks : ¬ AreInMemory a_lost_fact
lost_breaks joined = lost_life (joined.lived 1 (record { first = lit≤ tt; last = lit≤ tt }))

-- the first act of the lives of a peer is no start
no_start : (p : ℕ) (lives : List Life) (found : Found) (rest : List Act) → (let b : List Act = Begins p found ∷ rest in b) ≡ acts_of p lives → ⊥
no_start p [] found rest is = cc
no_start p (l ∷ later) found rest is = by l.stages is
  where
    by : (stages : List Stage) → (let b : List Act = Begins p found ∷ rest in b) ≡ and_stages p stages (later_acts p later) → ⊥
    by [] is = cc
    by (Step d ∷ stages) is = cc
    by (Spoil nodes objects ∷ stages) is = cc

-- a message that was not sent comes in order
unsent_in_order : (first second : Found) (message : Message) (out : Out) (notes : List Note) → AreInOrder (an_unsent_message first second message out notes)
unsent_in_order first second message out notes = record { of_peers = of_two; in_order = for_both (λ p. own_acts p e.acts ≡ acts_of p (e.lives p)) refl refl }
  where
    e : Execution
    e = an_unsent_message first second message out notes

    of_two : (a : Act) → a ∈ e.acts → IsAmong 2 (actor a)
    of_two a (inl is) = subst (IsAmong 2) (sym (ap actor is)) (record { first = lit≤ tt; last = lit≤ tt })
    of_two a (inr (inl is)) = subst (IsAmong 2) (sym (ap actor is)) (record { first = lit≤ tt; last = lit≤ tt })
    of_two a (inr (inr (inl is))) = subst (IsAmong 2) (sym (ap actor is)) (record { first = lit≤ tt; last = lit≤ tt })
    of_two a (inr (inr (inr none))) = absurd none

module _ {D : Type 0} (seen : D → Option (List ℕ)) (faults : D → ℕ) where
  pub unsent_breaks : (first second : Found) (message : Message) (out : Out) (notes : List Note) → AreInOrder (an_unsent_message first second message out notes) × ¬ AreOnDisks seen faults (an_unsent_message first second message out notes)
  unsent_breaks first second message out notes = (unsent_in_order first second message out notes, λ joined. joined.messages_were_sent.0)

  pub second_breaks : (lives : List Life) (found : Found) → ¬ AreOnDisks seen faults (two_processes lives found)
  second_breaks lives found joined = no_start 1 lives found [] (joined.in_order 1 (record { first = lit≤ tt; last = lit≤ tt }))

  pub older_fails : (e : Execution) → StartsOnOlder (group_of e) → ¬ AreOnDisks seen faults e
  older_fails e starts joined = older_breaks (group_of e) starts (one_group seen faults e joined).sound

  pub invented_breaks : (e : Execution) → AreOnDisks seen faults e → (c : Call) (a : Answer) → IsInvented e c a → ¬ WereGiven e (a ∷ [])
  invented_breaks e joined c a invented given = invented.nowhere ((linearizable seen faults e joined (a ∷ []) given c.key).completed c a invented.came (inl refl) invented.answers refl invented.completes)
