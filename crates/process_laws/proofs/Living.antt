-- What became of a peer that serves is a life.
use Rattle.std.proofs.Common.{◌≡◌, ◌⊎◌, ◌≤◌, ◌+◌, ◌++◌, ℕ, suc, Bool, true, false, List, [], ◌∷◌, length, Option, None, Some, Result, Ok, append-nil, arith, refl, sym, ap, ◌∙◌, subst, inl, inr}
use Rattle.std.proofs.lemmas.List.{length-append}
use Rattle.ens_base.proofs.Lists.{in_append, in_left, in_right}
use Rattle.ens_base.specs.Lists.{◌∈◌}
use Rattle.ens_base.specs.declared.peer_words.PeerWords.{PeerWords}
use Rattle.ens_base.specs.declared.status.Status.{Status}
use Rattle.ens_base.specs.declared.status.Status.TheVariants as statuses
use Rattle.fact_store.specs.Keeping.{file_fact}
use Rattle.stored_formats.specs.declared.fact_error.FactError.{FactError}
use Rattle.stored_formats.specs.declared.saved.SavedFact.{SavedFact}
use Rattle.peer_server.proofs.Ending.{told_less}
use Rattle.peer_server.proofs.Lining.{grown_nil}
use Rattle.peer_server.specs.Commits.{LeavesFacts, SentPrefix}
use Rattle.peer_server.specs.DiskPeers.{Of, OnDisks, disks_do, disks_refuse}
use Rattle.peer_server.specs.Lines.{Line, grown, looked, posted}
use Rattle.peer_server.specs.Rounds.{SentUntil}
use Rattle.peer_server.specs.Serving.{Served, Interrupted, Failed, Ended, IsDurable, IsFoundOrOfSome}
use Rattle.peer_server.specs.Starting.{FactsLeft, Refused}
use Rattle.peer_server.specs.Turning.{Stayed, Fell, FellAt, Place, Looking, Looked, Ticked, Committing, begun_at, events_before, event_at, looks_at}
use Rattle.peer_server.specs.declared.disks.Disks.{Disks}
use Rattle.peer_state.specs.Moves.{saved_by}
use Rattle.peer_state.specs.declared.event.Event.{Event}
use Rattle.slot_disk.specs.Crash.{Told}
use Rattle.step_plans.specs.Calls.{Call, AnswerOf}
use Rattle.step_plans.specs.declared.error.PeerError.{PeerError}
use Rattle.peer_turns.specs.Deeds.{frames_in}
use Rattle.peer_turns.specs.Going.{Grew, Point}
use Rattle.peer_turns.specs.Turns.{Turn, event_of, events_of, listed, looks_of, tick_if}
use Rattle.peer_turns.proofs.Following.{grew_none}
use Rattle.process_laws.specs.ServedLives.{IsCutOff}
use Rattle.process_laws.specs.Served.{IsTickOrFrame, HasLived, LivedOn}

-- ## Events

-- the event of a look is of a frame that it gave
of_look : (w : PeerWords) (look : Option (List ℕ)) (looks : List (Option (List ℕ))) (event : Event) → look ∈ looks → event ∈ listed (event_of w look) → IsTickOrFrame w looks event
of_look w None looks event at here = absurd here
of_look w (Some bytes) looks event at here = by (event_of w (Some bytes)) refl here
  where
    by : (o : Option Event) → event_of w (Some bytes) ≡ o → event ∈ listed o → IsTickOrFrame w looks event
    by None is none = absurd none
    by (Some e) is (inl same) = inr (bytes, at, is ∙ ap Some (sym same))
    by (Some e) is (inr none) = absurd none

of_tick : (w : PeerWords) (due : Bool) (looks : List (Option (List ℕ))) (event : Event) → event ∈ tick_if due → IsTickOrFrame w looks event
of_tick w true looks event (inl same) = inl same
of_tick w true looks event (inr none) = absurd none
of_tick w false looks event none = absurd none

-- more looks were made
more_looks : (w : PeerWords) (looks more : List (Option (List ℕ))) (event : Event) → ((look : Option (List ℕ)) → look ∈ looks → look ∈ more) → IsTickOrFrame w looks event → IsTickOrFrame w more event
more_looks w looks more event among (inl tick) = inl tick
more_looks w looks more event among (inr frame) = inr (frame.0, among (Some frame.0) frame.1, frame.2)

of_turns : (w : PeerWords) (turns : List Turn) (event : Event) → event ∈ events_of w turns → IsTickOrFrame w (looks_of turns) event
of_turns w [] event none = absurd none
of_turns w (t ∷ ts) event here = by (in_append (listed (event_of w t.look)) (tick_if t.due ++ events_of w ts) event here) (λ rest. of_turns w ts event rest)
  where
    later : (event ∈ tick_if t.due) ⊎ (event ∈ events_of w ts) → (event ∈ events_of w ts → IsTickOrFrame w (looks_of ts) event) → IsTickOrFrame w (looks_of (t ∷ ts)) event
    later (inl tick) on = of_tick w t.due (looks_of (t ∷ ts)) event tick
    later (inr rest) on = more_looks w (looks_of ts) (looks_of (t ∷ ts)) event (λ look at. inr at) (on rest)

    by : (event ∈ listed (event_of w t.look)) ⊎ (event ∈ (tick_if t.due ++ events_of w ts)) → (event ∈ events_of w ts → IsTickOrFrame w (looks_of ts) event) → IsTickOrFrame w (looks_of (t ∷ ts)) event
    by (inl look) on = of_look w t.look (looks_of (t ∷ ts)) event (inl refl) look
    by (inr rest) on = later (in_append (tick_if t.due) (events_of w ts) event rest) on

of_place : (w : PeerWords) (place : Place) (event : Event) → event ∈ events_before w place → IsTickOrFrame w (looks_at place) event
of_place w Looking event none = absurd none
of_place w (Looked look) event none = absurd none
of_place w (Ticked look) event here = of_look w look (look ∷ []) event (inl refl) here
of_place w Committing event none = absurd none

of_broken : (w : PeerWords) (turns : List Turn) (place : Place) (event : Event) → event ∈ (events_of w turns ++ events_before w place) → IsTickOrFrame w (looks_of turns ++ looks_at place) event
of_broken w turns place event here = by (in_append (events_of w turns) (events_before w place) event here)
  where
    by : (event ∈ events_of w turns) ⊎ (event ∈ events_before w place) → IsTickOrFrame w (looks_of turns ++ looks_at place) event
    by (inl turned) = more_looks w (looks_of turns) (looks_of turns ++ looks_at place) event (λ look at. in_left (looks_of turns) (looks_at place) look at) (of_turns w turns event turned)
    by (inr before) = more_looks w (looks_at place) (looks_of turns ++ looks_at place) event (λ look at. in_right (looks_of turns) (looks_at place) look at) (of_place w place event before)

few_at : (place : Place) → length (looks_at place) ≤ begun_at place
few_at Looking = omega arith
few_at (Looked look) = omega arith
few_at (Ticked look) = omega arith
few_at Committing = omega arith

looks_many : (turns : List Turn) → length (looks_of turns) ≡ length turns
looks_many [] = refl
looks_many (t ∷ turns) = ap suc (looks_many turns)

-- ## Ends

module _ {P L : Type 0} (does : P → (call : Call) → AnswerOf call → P → Type 0) (refuses : P → Call → PeerError → P → Type 0)
    (sent : L → Option (List (ℕ × List ℕ))) (given : L → Option (List (Option (List ℕ)))) (w : PeerWords) where
  stays : (a : Point P L) → Stayed does refuses sent given w.me a a
  stays a = record { state = refl; stores = refl; looked = grew_none (given a.link); sends = grew_none (sent a.link) }

  -- a fault cut the process off
  fell_off : (status : Status) (event : Option Event) (a b : Point P L) → Fell does refuses sent given w.me status event a b → IsCutOff does refuses sent given w.me event a b
  fell_off statuses.StoreFault (Some event) a b fell = inr (inl (statuses.StoreFault, fell))
  fell_off statuses.Memory (Some event) a b (inl stayed) = inl stayed
  fell_off statuses.Memory (Some event) a b (inr (inl stopped)) = inr (inl (statuses.Memory, stopped))
  fell_off statuses.Memory (Some event) a b (inr (inr dropped)) = inr (inr dropped)
  fell_off statuses.Memory None a b stayed = inl stayed
  fell_off status event a b fell = absurd fell

  cut_at : (place : Place) (status : Status) (a b : Point P L) → FellAt does refuses sent given w.me w place status a b → IsCutOff does refuses sent given w.me (event_at w place) a b
  cut_at Looking statuses.LinkFault a b stayed = inl stayed
  cut_at Committing statuses.StoreFault a b stayed = inl stayed
  cut_at Committing statuses.LinkFault a b lost = inr lost
  cut_at Committing statuses.Memory a b lost = inr lost
  cut_at place status a b fell = fell_off status (event_at w place) a b fell

-- ## Frames

all_prefix : (o p : Option (List (ℕ × List ℕ))) (frames : List (ℕ × List ℕ)) → Grew o p frames → SentPrefix o p frames
all_prefix None p frames grew = tt
all_prefix (Some xs) p frames grew = (frames, [], grew, sym (append-nil frames))

sent_prefix : (place : Place) (status : Status) (old new : Option (List (ℕ × List ℕ))) (frames : List (ℕ × List ℕ)) → SentUntil place status old new frames → SentPrefix old new frames
sent_prefix Committing statuses.LinkFault old new frames prefix = prefix
sent_prefix Committing statuses.Memory old new frames prefix = prefix
sent_prefix place status old new frames all = all_prefix old new frames all

-- frames that were sent, where none waits before and none after
all_posted : (o p : Option (List (ℕ × List ℕ))) (frames : List (ℕ × List ℕ)) → Grew o p frames → Grew (grown o []) (grown p []) frames
all_posted o p frames grew = subst (λ (q : Option (List (ℕ × List ℕ))). Grew q (grown p []) frames) (sym (grown_nil o)) (subst (λ (q : Option (List (ℕ × List ℕ))). Grew o q frames) (sym (grown_nil p)) grew)

-- ## Facts

module _ {D : Type 0} (seen : D → Option (List ℕ)) (may_leave : D → List ℕ → Type 0) (moment : D → ℕ) (left_since : D → ℕ → List ℕ → Type 0) (faults : D → ℕ) where
  -- a crash leaves no more than that
  left_less : (disks : Disks D) (last : D) (P Q R : Option (Result SavedFact FactError) → Option (Result SavedFact FactError) → Type 0) → ((found now : Option (Result SavedFact FactError)) → P found now → Q found now)
      → FactsLeft seen may_leave moment left_since faults disks last P R → FactsLeft seen may_leave moment left_since faults disks last Q R
  left_less disks last P Q R less left = by disks.facts left
    where
      by : (o : Option D) → Of o (λ d. Told (seen d) (λ file. LeavesFacts may_leave moment left_since d last (P (file_fact file)) (R (file_fact file)))) → Of o (λ d. Told (seen d) (λ file. LeavesFacts may_leave moment left_since d last (Q (file_fact file)) (R (file_fact file))))
      by None of = absurd of
      by (Some d) told =
          told_less (seen d) (λ (file : List ℕ). LeavesFacts may_leave moment left_since d last (P (file_fact file)) (R (file_fact file))) (λ (file : List ℕ). LeavesFacts may_leave moment left_since d last (Q (file_fact file)) (R (file_fact file)))
          (λ file leaves. record { at_end = λ c may. less (file_fact file) (file_fact c) (leaves.at_end c may); any_moment = leaves.any_moment }) told

-- ## Lives

module _ {D L T : Type 0} (seen : D → Option (List ℕ)) (may_leave : D → List ℕ → Type 0) (moment : D → ℕ) (left_since : D → ℕ → List ℕ → Type 0) (faults : D → ℕ)
    (sent : L → Option (List (ℕ × List ℕ))) (given : L → Option (List (Option (List ℕ)))) (link_faults : L → ℕ) (coming : T → Option (ℕ → Bool)) (w : PeerWords) (disks disks_after : Disks D) (link link_after : L) (ticker ticker_after : T) where
  abbrev Lived : Type 0
  Lived = HasLived seen may_leave moment left_since faults sent given link_faults coming w disks disks_after link link_after

  abbrev OnLine : Type 0
  OnLine = LivedOn seen may_leave moment left_since faults sent given link_faults coming w disks disks_after link link_after

  abbrev does : OnDisks D → (call : Call) → AnswerOf call → OnDisks D → Type 0
  does s call a t = disks_do seen faults s call a t

  abbrev refuses : OnDisks D → Call → PeerError → OnDisks D → Type 0
  refuses s call e t = disks_refuse seen faults s call e t

  -- a point of a peer for which nothing waits
  abbrev on_line : Point (OnDisks D) L → Point (OnDisks D) (Line L)
  on_line p = record { state = p.state; stores = p.stores; link = record { link = p.link; unsent = [] } }

  as_many : (looks turns begun all : ℕ) → turns + begun ≤ all → looks ≤ turns + begun → looks ≤ all
  as_many looks turns begun all fewer many = omega (arith, fewer, many)

  abbrev served_on : (turns : List Turn) → Served seen may_leave moment left_since faults sent given link_faults coming w disks disks_after link link_after ticker ticker_after turns → OnLine
  served_on turns s = record {
    stores = s.began.first;
    file = s.first_file;
    opened = s.began.opened;
    end = on_line s.end;
    end_file = s.end_file;
    life = record {
      first = on_line s.first;
      starts = s.began.starts;
      linked = ap (λ (l : L). let it : Line L = record { link = l; unsent = [] } in it) s.link_first;
      deeds = s.made.took.deeds;
      looks = looks_of turns;
      last = on_line s.end;
      went = record { did = s.made.took.went.did; looked = s.made.took.went.looked; sends = all_posted (sent s.first.link) (sent s.end.link) (frames_in w.me s.made.took.deeds) s.made.took.went.sends };
      event = None;
      cut = inl (stays does refuses (posted sent w.me) (looked given) w (on_line s.end));
    };
    events = λ event at. of_turns w turns event (subst (λ (events : List Event). event ∈ events) s.made.took.are at);
    few = as_many (length (looks_of turns)) (length turns) 0 w.turns (omega (arith, s.all)) (omega (arith, looks_many turns));
    disks_end = s.disks_end;
    link_end = s.link_end;
  }

  served : (turns : List Turn) → Served seen may_leave moment left_since faults sent given link_faults coming w disks disks_after link link_after ticker ticker_after turns → Lived
  served turns s = record {
    on = served_on turns s;
    kept = s.made.took.deeds;
    late = [];
    steps = sym (append-nil s.made.took.deeds);
    late_few = omega arith;
    state = s.end.state;
    left = s.end.stores;
    reached = s.made.took.went.did;
    sends =
        all_prefix (sent link) (sent link_after) (frames_in w.me s.made.took.deeds)
        (subst (λ (l : L). Grew (sent l) (sent link_after) (frames_in w.me s.made.took.deeds)) s.link_first (subst (λ (l : L). Grew (sent s.first.link) (sent l) (frames_in w.me s.made.took.deeds)) s.link_end s.made.took.went.sends));
    facts =
        left_less seen may_leave moment left_since faults disks s.end_file.slots.disk (λ found now. now ≡ Some (Ok (saved_by s.end.state)))
        (λ found now. IsDurable seen may_leave moment left_since faults sent given link_faults coming w s.made.took.deeds s.end.state found now ⊎ (now ≡ Some (Ok (saved_by s.end.state))))
        (IsFoundOrOfSome seen may_leave moment left_since faults sent given link_faults coming w s.first.state s.first.stores s.made.took.deeds) (λ found now is. inr is) s.facts;
  }

  abbrev interrupted_on : (status : Status) (turns : List Turn) (place : Place) → Interrupted seen may_leave moment left_since faults sent given link_faults coming w status disks disks_after link link_after ticker ticker_after turns place → OnLine
  interrupted_on status turns place s = record {
    stores = s.began.first;
    file = s.first_file;
    opened = s.began.opened;
    end = s.end;
    end_file = s.end_file;
    life = record {
      first = s.first;
      starts = s.began.starts;
      linked = s.first_line;
      deeds = s.broke.broke.took.deeds;
      looks = looks_of turns ++ looks_at place;
      last = s.broke.broke.between;
      went = s.broke.broke.took.went;
      event = event_at w place;
      cut = cut_at does refuses (posted sent w.me) (looked given) w place status s.broke.broke.between s.end s.broke.broke.fell;
    };
    events = λ event at. of_broken w turns place event (subst (λ (events : List Event). event ∈ events) s.broke.broke.took.are at);
    few = as_many (length (looks_of turns ++ looks_at place)) (length turns) (begun_at place) w.turns s.fewer (omega (arith, looks_many turns, few_at place, length-append (looks_of turns) (looks_at place)));
    disks_end = s.disks_end;
    link_end = s.link_end;
  }

  interrupted : (status : Status) (turns : List Turn) (place : Place) → Interrupted seen may_leave moment left_since faults sent given link_faults coming w status disks disks_after link link_after ticker ticker_after turns place → Lived
  interrupted status turns place s = record {
    on = interrupted_on status turns place s;
    kept = s.durable.kept;
    late = s.durable.late;
    steps = s.durable.all;
    late_few = s.few;
    state = s.durable.state;
    left = s.durable.stores;
    reached = s.durable.reached;
    sends = sent_prefix place status (sent link) (sent link_after) (frames_in w.me s.durable.kept) s.sends;
    facts = s.facts;
  }

  abbrev LivedOrNot : Status → Type 0
  LivedOrNot status = Lived ⊎ Refused seen may_leave moment left_since faults w status disks disks_after

  failed : (status : Status) → Failed seen may_leave moment left_since faults sent given link_faults coming w status disks disks_after link link_after ticker ticker_after → LivedOrNot status
  failed status (inl came) = inl (interrupted status came.0 came.1 came.2)
  failed status (inr refused) = inr refused.0

  -- whatever the status
  pub lived : (status : Status) (text : List ℕ) → Ended seen may_leave moment left_since faults sent given link_faults coming w disks disks_after link link_after ticker ticker_after status text → LivedOrNot status
  lived statuses.Done text ended = inl (served ended.0 ended.1)
  lived statuses.StoreFault text ended = failed statuses.StoreFault ended.0
  lived statuses.LinkFault text ended = failed statuses.LinkFault ended.0
  lived statuses.Memory text ended = by ended.0
    where
      by : Failed seen may_leave moment left_since faults sent given link_faults coming w statuses.Memory disks disks_after link link_after ticker ticker_after ⊎ ((turns : List Turn) × Served seen may_leave moment left_since faults sent given link_faults coming w disks disks_after link link_after ticker ticker_after turns) → LivedOrNot statuses.Memory
      by (inl came) = failed statuses.Memory came
      by (inr made) = inl (served made.0 made.1)
  lived status text ended = absurd ended
