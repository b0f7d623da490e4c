-- Processes that are joined are a sound group.
use Rattle.std.proofs.Common.{◌≡◌, ◌<◌, ◌≤◌, ◌^◌, ◌+◌, ◌-◌, ◌++◌, ℕ, suc, List, [], ◌∷◌, length, map, Option, None, Some, arith, append-nil, refl, sym, ap, ◌∙◌, subst, inl, inr}
use Rattle.std.proofs.lemmas.List.{append_assoc, length-map}
use Rattle.process_laws.proofs.Running.{run_as_maps}
use Rattle.process_laws.specs.Memory.{StandsFor, RunsInMemory}
use Rattle.ens_base.specs.Lists.{◌∈◌}
use Rattle.process_laws.proofs.Groups.{group_runs, group_legal}
use Rattle.process_laws.proofs.RealTime.{next_is}
use Rattle.process_laws.specs.Laws.{IsRunOfProtocol}
use Rattle.process_laws.specs.Moments.{Takes, after, answers_in, born_on, calls_of, opening_of, run_on, stores_found}
use Rattle.process_laws.specs.Premises.{Always, IsOfPeers, IsOneProcess, FactSurvives, WasSent, IsWithinLimits, node_of}
use Rattle.peer_spec.specs.Starts.{start_of}
use Rattle.peer_server.specs.DiskPeers.{disks_do, disks_refuse}
use Rattle.peer_server.specs.Starting.{served_mode}
use Rattle.peer_state.specs.declared.event.Event.{Event}
use Rattle.peer_state.specs.declared.event.Event.TheVariants as events
use Rattle.peer_state.specs.declared.state.State.{State}
use Rattle.register_model.specs.Histories.{IsLegal}
use Rattle.register_model.specs.Orders.{order}
use Rattle.register_model.specs.declared.answer.Answer.{Answer}
use Rattle.register_model.specs.declared.note.Note.{Note}
use Rattle.lexemes.specs.Spelling.{IsAmong}
use Rattle.step_plans.specs.Plans.{nothing}
use Rattle.wire_frames.specs.declared.frame.Frame.{Frame}
use Rattle.world_spec.specs.HeldRuns.{Ended}
use Rattle.world_spec.specs.Nodes.{Node, taken_of}
use Rattle.world_spec.specs.Runs.{Run, next_event}
use Rattle.process_laws.specs.Acts.{Act, Begins, Does, Spoils, Ends, Execution, Life, acts_of, actor, answers_at, answers_from, first_found, frames_by, group_of, moment_of, notes_of, noted_by, own_acts, sent_by}
use Rattle.process_laws.specs.Joined.{ArePutOut, AreOneGroup, AreOnDisks, AreSpoiled, IsAmongSent, IsLinearizable, WasPutOut, ProcessesAreOneGroup, ProcessesAreLinearizable, ProcessesKeepTime, ProcessesRefine, fact_on_disk}
use Rattle.process_laws.specs.Lives.{AreLives}
use Rattle.process_laws.proofs.Acting.{Goes, IsBefore, IsOn, goes}
use Rattle.process_laws.proofs.Events.{keeps_limits}
use Rattle.process_laws.proofs.Places.{get_born}
use Rattle.process_laws.proofs.Seeing.{keeps_time}

-- ## One moment after another

-- a message that was put out was sent
sent_event : (w : Run) (p : ℕ) (event : Event) → IsAmongSent w.mail.sent p event → WasSent w (Takes p event)
sent_event w p (events.Deliver from message) is = is
sent_event w p (events.Call c) is = tt
sent_event w p events.Tick is = tt
sent_event w p (events.Change view) is = tt

was_sent : (w : Run) (a : Act) → WasPutOut w.mail.sent a → WasSent w (moment_of a)
was_sent w (Begins p found) is = tt
was_sent w (Does p d) is = sent_event w p d.event is
was_sent w (Spoils p nodes objects) is = tt
was_sent w (Ends p) is = tt

-- the premises hold of each of these acts, and the world puts out what they did; the first has the number after this one
record GoAll (acts : List Act) (w : Run) (number peers : ℕ) : Type 0 where
  of_peers : Always (IsOfPeers peers) (map moment_of acts) w
  one : Always IsOneProcess (map moment_of acts) w
  facts : Always FactSurvives (map moment_of acts) w
  messages : Always WasSent (map moment_of acts) w
  keep : Always IsWithinLimits (map moment_of acts) w
  sent : (run_on (map moment_of acts) w).mail.sent ≡ w.mail.sent ++ sent_by acts
  answers : answers_in (run_on (map moment_of acts) w).printed ≡ answers_in w.printed ++ answers_from (number + 1) acts
  notes : (run_on (map moment_of acts) w).notes ≡ w.notes ++ notes_of acts

module _ {D : Type 0} (seen : D → Option (List ℕ)) (faults : D → ℕ) where
  module _ (peers : ℕ) (small : peers ≤ 31) (view : List ℕ) where
    abbrev Before : Run → List Act → Type 0
    Before = IsBefore seen faults peers small view

    abbrev GoesOn : Act → List Act → Run → Type 0
    GoesOn = Goes seen faults peers small view

    -- an act, and those after it
    and_all : (a : Act) (acts : List Act) (w : Run) (number : ℕ) → next_event w.events ≡ number + 1 → IsAmong peers (actor a) → WasPutOut w.mail.sent a → GoesOn a acts w → GoAll acts (after (moment_of a) w) (number + 1) peers → GoAll (a ∷ acts) w number peers
    and_all a acts w number next among put here later = record {
      of_peers = (among, later.of_peers);
      one = (here.one, later.one);
      facts = (here.fact, later.facts);
      messages = (was_sent w a put, later.messages);
      keep = (here.keeps, later.keep);
      sent = later.sent ∙ ap (λ (fs : List Frame). fs ++ sent_by acts) here.sent ∙ append_assoc w.mail.sent (frames_by a) (sent_by acts);
      answers = later.answers ∙ ap (λ (xs : List Answer). xs ++ answers_from (number + 1 + 1) acts) (here.answers ∙ ap (λ (n : ℕ). answers_in w.printed ++ answers_at n a) next)
          ∙ append_assoc (answers_in w.printed) (answers_at (number + 1) a) (answers_from (number + 1 + 1) acts);
      notes = later.notes ∙ ap (λ (xs : List Note). xs ++ notes_of acts) here.notes ∙ append_assoc w.notes (noted_by a) (notes_of acts);
    }

    go_all : (acts : List Act) (w : Run) (number : ℕ) (sent : List Frame) → w.events ≡ number → number + length acts < 2 ^ 64 → w.mail.sent ≡ sent → ((a : Act) → a ∈ acts → IsAmong peers (actor a)) → ArePutOut sent acts → Before w acts → GoAll acts w number peers
    go_all [] w number sent at few mail among put before = record {
      of_peers = tt;
      one = tt;
      facts = tt;
      messages = tt;
      keep = tt;
      sent = sym (append-nil w.mail.sent);
      answers = sym (append-nil (answers_in w.printed));
      notes = sym (append-nil w.notes);
    }
    go_all (a ∷ acts) w number sent at few mail among put before =
        let here = goes seen faults peers small view a acts w (among a (inl refl)) before in
        let next = next_is w.events number at (first number (length acts) few) in
        and_all a acts w number next (among a (inl refl)) (subst (λ (fs : List Frame). WasPutOut fs a) (sym mail) put.0) here
        (go_all acts (after (moment_of a) w) (number + 1) (sent ++ frames_by a) next (rest number (length acts) few) (here.sent ∙ ap (λ (fs : List Frame). fs ++ frames_by a) mail) (λ b at. among b (inr at)) put.1 here.on)
      where
        first : (n k : ℕ) → n + suc k < 2 ^ 64 → n < 2 ^ 64 - 1
        first n k h = omega arith

        rest : (n k : ℕ) → n + suc k < 2 ^ 64 → n + 1 + k < 2 ^ 64
        rest n k h = omega arith

    -- ## The opening

    abbrev Lives : ℕ → List Life → Type 0
    Lives p lives = AreLives (disks_do seen faults) (disks_refuse seen faults) (AreSpoiled seen) (StandsFor seen) fact_on_disk view p lives

    -- the first process of a peer found no fact
    first_bare : (p : ℕ) (lives : List Life) → Lives p lives → (first_found lives).fact ≡ None
    first_bare p [] lived = refl
    first_bare p (l ∷ later) lived = lived.0

    first_on : (p : ℕ) (lives : List Life) (own : List Act) (o : Option Node) → Lives p lives → own ≡ acts_of p lives → o ≡ Some (born_on view (first_found lives)) → IsOn seen faults peers small view p o own
    first_on p [] own o lived is at = inl is
    first_on p (l ∷ later) own o lived is at = inr (inl (record {
      state = lived.1.first;
      disks = lived.1.started;
      stores = so.left;
      is = at ∙ ap (λ (e : Ended State). let n : Option Node = Some (taken_of e).node in n) so.is;
      stands = so.stands;
      stages = l.stages;
      last = lived.1.last;
      left = lived.1.left;
      leads = lived.1.leads;
      keeps = λ event here. keeps_limits p event (lived.1.events event here);
      later = later;
      lives = lived.2;
      acts = is;
    }))
      where
        so : RunsInMemory seen (start_of served_mode view) (stores_found l.found) [] [] lived.1.first nothing lived.1.started []
        so = (run_as_maps seen faults).starts served_mode view lived.1.opened lived.1.started (stores_found l.found) [] [] lived.1.first nothing lived.1.finds lived.1.starts

  module _ (e : Execution) (joined : AreOnDisks seen faults e) where
    opens : IsBefore seen faults e.peers joined.few_peers e.view (opening_of (group_of e)) e.acts
    opens = record {
      opens = refl;
      sealing = refl;
      tree = refl;
      each = λ q among. first_on e.peers joined.few_peers e.view q (e.lives q) (own_acts q e.acts) (node_of (opening_of (group_of e)) q) (joined.lived q among) (joined.in_order q among)
          (get_born (group_of e).first e.view e.peers q among);
    }

    all : GoAll e.acts (opening_of (group_of e)) 0 e.peers
    all = go_all e.peers joined.few_peers e.view e.acts (opening_of (group_of e)) 0 [] refl (few (length e.acts) joined.few_acts) refl joined.of_peers joined.messages_were_sent opens
      where
        few : (n : ℕ) → n < 2 ^ 64 → 0 + n < 2 ^ 64
        few n h = omega arith

    is_group : AreOneGroup e
    is_group = record {
      sound = record {
        few_peers = joined.few_peers;
        is_view = joined.is_view;
        few_moments = subst (λ (n : ℕ). n < 2 ^ 64) (sym (length-map e.acts moment_of)) joined.few_acts;
        few_calls = joined.few_calls;
        of_peers = all.of_peers;
        first_without_fact = λ p among. first_bare e.peers joined.few_peers e.view p (e.lives p) (joined.lived p among);
        one_process = all.one;
        facts_survive = all.facts;
        messages_were_sent = all.messages;
        events_keep_limits = all.keep;
        distinct_calls = joined.distinct_calls;
        no_clash = joined.no_clash;
      };
      sent = all.sent;
      answers = all.answers;
      notes = all.notes;
    }

    is_run : IsRunOfProtocol (group_of e)
    is_run = group_runs (group_of e) is_group.sound

    is_legal : IsLinearizable e
    is_legal heard given key = subst (λ (notes : List Note). IsLegal (calls_of (group_of e)) heard key (order notes key)) is_group.notes
        (group_legal (group_of e) is_group.sound heard (λ a at. subst (λ (xs : List Answer). a ∈ xs) (sym is_group.answers) (given a at)) key)

  pub one_group : ProcessesAreOneGroup seen faults
  one_group = is_group

  pub refine : ProcessesRefine seen faults
  refine = is_run

  pub linearizable : ProcessesAreLinearizable seen faults
  linearizable = is_legal

  pub keep_time : ProcessesKeepTime seen faults
  keep_time e joined = keeps_time e (is_legal e joined)
