-- A peer that served alone meets the premises: nobody sends it a message.
use Rattle.std.proofs.Common.{◌≡◌, ◌⊎◌, ◌++◌, ℕ, Bool, true, false, not, nat_le, if◌then◌else◌, List, [], ◌∷◌, Option, None, Some, Result, Ok, Err, arith, lit≤, refl, sym, ap, ◌∙◌, subst, inl, inr}
use Rattle.std.specs.Prelude.{◌==◌, ◌&&◌}
use Rattle.std.proofs.lemmas.Bool.Decides.{nat_tests}
use Rattle.std.proofs.lemmas.Option.{none-some, same_Some}
use Rattle.process_laws.specs.Memory.{StandsFor}
use Rattle.ens_base.specs.Lists.{◌∈◌}
use Rattle.ens_base.specs.declared.peer_words.PeerWords.{PeerWords}
use Rattle.fact_store.specs.Keeping.{file_fact}
use Rattle.stored_formats.specs.declared.saved.SavedFact.{SavedFact}
use Rattle.process_laws.proofs.Lone.{lone_view}
use Rattle.peer_server.specs.DiskPeers.{disks_do, disks_refuse}
use Rattle.peer_state.specs.declared.event.CallIn.{CallIn}
use Rattle.peer_state.specs.declared.event.Event.{Event}
use Rattle.peer_state.specs.declared.event.Event.TheVariants as events
use Rattle.lexemes.specs.Spelling.{IsAmong}
use Rattle.process_laws.specs.Served.{IsTickOrFrame}
use Rattle.peer_turns.specs.Deeds.{Deed, events_in}
use Rattle.peer_turns.specs.Turns.{event_from, event_in, event_on, is_client, is_other_peer}
use Rattle.wire_frames.specs.Frames.{frame_of}
use Rattle.wire_frames.specs.declared.error.FrameError.{FrameError}
use Rattle.wire_frames.specs.declared.frame.Frame.{Frame}
use Rattle.wire_frames.specs.declared.message.Message.{Message}
use Rattle.wire_frames.specs.declared.message.Message.TheVariants as messages
use Rattle.process_laws.specs.Acts.{Act, Begins, Does, Spoils, Ends, Life, Spoil, Stage, Step, actor, acts_of, and_stages, deeds_in, frames_by, later_acts, own_acts, steps}
use Rattle.process_laws.specs.Alone.{MeetAll, MeetBoth, Process, life_of}
use Rattle.process_laws.specs.Joined.{ArePutOut, AreSpoiled, IsAmongSent, fact_on_disk}
use Rattle.process_laws.specs.Lives.{AreLater, AreLives, FactRead, HasLived}
use Rattle.process_laws.specs.JoinedServed.{MayBeJoined, found_in}
use Rattle.process_laws.proofs.Acting.{kept_same}
use Rattle.process_laws.proofs.LoneGroup.{is_one}
use Rattle.process_laws.proofs.Serving.{deeds_of_steps, events_of_some, served_join}

-- ## No message comes

no_other : (n : ℕ) → (nat_le 1 n && (nat_le n 1 && not (n == 1))) ≡ false
no_other n = grind (arith, nat_tests)

is_alone : (w : PeerWords) (from : ℕ) → w.me ≡ 1 → w.peers ≡ 1 → is_other_peer w from ≡ false
is_alone w from me peers = ap (λ (p : ℕ). nat_le 1 from && (nat_le from p && not (from == w.me))) peers ∙ ap (λ (q : ℕ). nat_le 1 from && (nat_le from 1 && not (from == q))) me ∙ no_other from

-- an event that is no message
abbrev IsOwn : Event → Type 0
IsOwn event = (sent : List Frame) → IsAmongSent sent 1 event

called : (client : Bool) (c : CallIn) (event : Event) → (if client then Some (events.Call c) else None) ≡ Some event → IsOwn event
called true c event is = subst IsOwn (same_Some (events.Call c) event is) (λ sent. tt)
called false c event is = absurd (none-some event is)

none_comes : (other : Bool) (given event : Event) → other ≡ false → (if other then Some given else None) ≡ Some event → ⊥
none_comes other given event none is = none-some event (sym (ap (λ (b : Bool). if b then Some given else None) none) ∙ is)

module _ (w : PeerWords) (me : w.me ≡ 1) (peers : w.peers ≡ 1) where
  of_message : (from : ℕ) (m : Message) (event : Event) → event_from w from m ≡ Some event → IsOwn event
  of_message from (messages.CallFrame id key command) event is = called (is_client from) (record { from = from; id = id; key = key; command = command }) event is
  of_message from (messages.AnswerFrame id reply) event is = absurd (none-some event is)
  of_message from message event is = absurd (none_comes (is_other_peer w from) (events.Deliver from message) event (is_alone w from me peers) is)

  of_frame : (f : Frame) (event : Event) → event_in w f ≡ Some event → IsOwn event
  of_frame f event is = by (f.to == w.me) is
    where
      by : (own : Bool) → (if own then event_from w f.from f.message else None) ≡ Some event → IsOwn event
      by true is = of_message f.from f.message event is
      by false is = absurd (none-some event is)

  of_read : (read : Result Frame FrameError) (event : Event) → event_on w read ≡ Some event → IsOwn event
  of_read (Ok f) event is = of_frame f event is
  of_read (Err e) event is = absurd (none-some event is)

  of_event : (looks : List (Option (List ℕ))) (event : Event) → IsTickOrFrame w looks event → IsOwn event
  of_event looks event (inl tick) = subst IsOwn (sym tick) (λ sent. tt)
  of_event looks event (inr came) = of_read (frame_of came.0) event came.2

-- ## The acts of one peer

abbrev OwnDeeds : List Deed → Type 0
OwnDeeds deeds = (event : Event) → event ∈ events_in deeds → IsOwn event

own_lived : (deeds : List Deed) → OwnDeeds deeds → OwnDeeds (deeds_in (steps deeds))
own_lived deeds = subst OwnDeeds (sym (deeds_of_steps deeds))

abbrev OwnLives : List Life → Type 0
OwnLives [] = Unit {0}
OwnLives (l ∷ ls) = OwnDeeds (deeds_in l.stages) × OwnLives ls

-- all acts are those of the peer
own_stages : (stages : List Stage) (rest : List Act) → own_acts 1 rest ≡ rest → own_acts 1 (and_stages 1 stages rest) ≡ and_stages 1 stages rest
own_stages [] rest same = ap (λ (acts : List Act). Ends 1 ∷ acts) same
own_stages (Step d ∷ stages) rest same = ap (λ (acts : List Act). Does 1 d ∷ acts) (own_stages stages rest same)
own_stages (Spoil nodes objects ∷ stages) rest same = ap (λ (acts : List Act). Spoils 1 nodes objects ∷ acts) (own_stages stages rest same)

own_later : (ls : List Life) → own_acts 1 (later_acts 1 ls) ≡ later_acts 1 ls
own_later [] = refl
own_later (l ∷ ls) = ap (λ (acts : List Act). Begins 1 l.found ∷ acts) (own_stages l.stages (later_acts 1 ls) (own_later ls))

own_all : (lives : List Life) → own_acts 1 (acts_of 1 lives) ≡ acts_of 1 lives
own_all [] = refl
own_all (l ∷ ls) = own_stages l.stages (later_acts 1 ls) (own_later ls)

abbrev AreOfOne : List Act → Type 0
AreOfOne acts = (a : Act) → a ∈ acts → IsAmong 1 (actor a)

by_one : (a b : Act) → actor b ≡ 1 → a ≡ b → IsAmong 1 (actor a)
by_one a b one is = subst (IsAmong 1) (sym (ap actor is ∙ one)) (record { first = lit≤ tt; last = lit≤ tt })

stages_of_one : (stages : List Stage) (rest : List Act) → AreOfOne rest → AreOfOne (and_stages 1 stages rest)
stages_of_one [] rest all a (inl is) = by_one a (Ends 1) refl is
stages_of_one [] rest all a (inr at) = all a at
stages_of_one (Step d ∷ stages) rest all a (inl is) = by_one a (Does 1 d) refl is
stages_of_one (Spoil nodes objects ∷ stages) rest all a (inl is) = by_one a (Spoils 1 nodes objects) refl is
stages_of_one (s ∷ stages) rest all a (inr at) = stages_of_one stages rest all a at

later_of_one : (ls : List Life) → AreOfOne (later_acts 1 ls)
later_of_one [] a at = absurd at
later_of_one (l ∷ ls) a (inl is) = by_one a (Begins 1 l.found) refl is
later_of_one (l ∷ ls) a (inr at) = stages_of_one l.stages (later_acts 1 ls) (later_of_one ls) a at

all_of_one : (lives : List Life) → AreOfOne (acts_of 1 lives)
all_of_one [] a at = absurd at
all_of_one (l ∷ ls) a at = stages_of_one l.stages (later_acts 1 ls) (later_of_one ls) a at

-- and no message comes to them
stages_put_out : (stages : List Stage) (rest : List Act) (sent : List Frame) → OwnDeeds (deeds_in stages) → ((more : List Frame) → ArePutOut more rest) → ArePutOut sent (and_stages 1 stages rest)
stages_put_out [] rest sent own after_it = (tt, after_it (sent ++ frames_by (Ends 1)))
stages_put_out (Step d ∷ stages) rest sent own after_it = (own d.event (inl refl) sent, stages_put_out stages rest (sent ++ frames_by (Does 1 d)) (λ event at. own event (inr at)) after_it)
stages_put_out (Spoil nodes objects ∷ stages) rest sent own after_it = (tt, stages_put_out stages rest (sent ++ frames_by (Spoils 1 nodes objects)) own after_it)

later_put_out : (ls : List Life) (sent : List Frame) → OwnLives ls → ArePutOut sent (later_acts 1 ls)
later_put_out [] sent own = tt
later_put_out (l ∷ ls) sent own = (tt, stages_put_out l.stages (later_acts 1 ls) (sent ++ frames_by (Begins 1 l.found)) own.0 (λ more. later_put_out ls more own.1))

all_put_out : (lives : List Life) → OwnLives lives → ArePutOut [] (acts_of 1 lives)
all_put_out [] own = tt
all_put_out (l ∷ ls) own = stages_put_out l.stages (later_acts 1 ls) [] own.0 (λ more. later_put_out ls more own.1)

-- ## On disks

module _ {D L T : Type 0} (seen : D → Option (List ℕ)) (may_leave : D → List ℕ → Type 0) (moment : D → ℕ) (left_since : D → ℕ → List ℕ → Type 0) (faults : D → ℕ)
    (sent : L → Option (List (ℕ × List ℕ))) (given : L → Option (List (Option (List ℕ)))) (link_faults : L → ℕ) (coming : T → Option (ℕ → Bool)) where
  abbrev Lived : List ℕ → ℕ → Life → Type 0
  Lived view p life = HasLived (disks_do seen faults) (disks_refuse seen faults) (AreSpoiled seen) (StandsFor seen) fact_on_disk view p life

  abbrev Later : FactRead → List Life → Type 0
  Later fact ls = AreLater (disks_do seen faults) (disks_refuse seen faults) (AreSpoiled seen) (StandsFor seen) fact_on_disk (1 ∷ []) 1 fact ls

  abbrev Lives : ℕ → List Life → Type 0
  Lives p lives = AreLives (disks_do seen faults) (disks_refuse seen faults) (AreSpoiled seen) (StandsFor seen) fact_on_disk (1 ∷ []) p lives

  abbrev One : Type 0
  One = Process seen may_leave moment left_since faults sent given link_faults coming

  abbrev MeetsAll : List Life → Type 0
  MeetsAll = MeetAll seen may_leave moment left_since faults sent given link_faults coming

  abbrev life : One → Option SavedFact → List Deed → Life
  life = life_of seen may_leave moment left_since faults sent given link_faults coming

  -- lives of which no step is on a message
  meet_all : (lives : List Life) → Lives 1 lives → OwnLives lives → MeetsAll lives
  meet_all lives lived own legal = record {
    few_peers = lit≤ tt;
    is_view = lone_view;
    few_acts = legal.few_acts;
    few_calls = legal.few_calls;
    of_peers = all_of_one lives;
    lived = λ p among. subst (λ (q : ℕ). Lives q lives) (is_one p among) lived;
    in_order = λ p among. subst (λ (q : ℕ). own_acts q (acts_of 1 lives) ≡ acts_of q lives) (is_one p among) (own_all lives);
    messages_were_sent = all_put_out lives own;
    distinct_calls = legal.distinct_calls;
    no_clash = legal.no_clash;
  }

  -- a life that began without a fact, and those after it
  abbrev Follow : (deeds : List Deed) (nodes objects : List ℕ) (later : List Life) → List ℕ → ℕ → Option SavedFact → Type 0
  Follow deeds nodes objects later view p fact = (lived : Lived view p (record { found = found_in fact nodes objects; stages = steps deeds })) → Later (fact_on_disk lived.left) later → Lives 1 (record { found = found_in None nodes objects; stages = steps deeds } ∷ later)

  follow : (deeds : List Deed) (nodes objects : List ℕ) (later : List Life) (view : List ℕ) (p : ℕ) (fact : Option SavedFact) → view ≡ 1 ∷ [] → p ≡ 1 → fact ≡ None → Follow deeds nodes objects later view p fact
  follow deeds nodes objects later view p fact is_view is_one none =
      subst (λ (v : List ℕ). Follow deeds nodes objects later v p fact) (sym is_view)
      (subst (λ (q : ℕ). Follow deeds nodes objects later (1 ∷ []) q fact) (sym is_one)
      (subst (λ (f : Option SavedFact). Follow deeds nodes objects later (1 ∷ []) 1 f) (sym none) (λ lived lives. (refl, lived, lives))))

  -- what the steps of a process of a lone peer are taken on
  own_steps : (s : One) → OwnDeeds s.served.on.life.deeds
  own_steps s event at = of_event s.w s.me s.peers s.served.on.life.looks event (s.served.on.events event at)

  own_kept : (s : One) → OwnDeeds s.served.kept
  own_kept s event at = own_steps s event (subst (λ (deeds : List Deed). event ∈ events_in deeds) (sym s.served.steps) (events_of_some s.served.kept s.served.late event at))

  joins : (s : One) → MayBeJoined seen may_leave moment left_since faults sent given link_faults coming s.w s.disks s.disks_after s.link s.link_after s.served s.facts s.nodes s.objects
  joins s = served_join seen may_leave moment left_since faults sent given link_faults coming s.w s.disks s.disks_after s.link s.link_after s.served s.facts s.nodes s.objects s.facts_tell s.nodes_tell s.objects_tell s.bytes

  -- no fact was found
  none_found : (s : One) → file_fact s.facts ≡ None → (joins s).fact ≡ None
  none_found s none = kept_same (joins s).fact None (sym (joins s).is ∙ none)

  pub once : (s : One) → file_fact s.facts ≡ None → MeetsAll (life s None s.served.kept ∷ [])
  once s none = meet_all (life s None s.served.kept ∷ []) (follow s.served.kept s.nodes s.objects [] s.w.view s.w.me (joins s).fact s.view s.me (none_found s none) (joins s).lived tt) (own_lived s.served.kept (own_kept s), tt)

  -- the second life, over the fact that was left
  second : (s t : One) (left : FactRead) → file_fact t.facts ≡ left → Later left (life t (joins t).fact t.served.kept ∷ [])
  second s t left is = (sym (joins t).is ∙ is, lived, tt)
    where
      lived : Lived (1 ∷ []) 1 (life t (joins t).fact t.served.kept)
      lived = subst (λ (v : List ℕ). Lived v 1 (life t (joins t).fact t.served.kept)) t.view (subst (λ (p : ℕ). Lived t.w.view p (life t (joins t).fact t.served.kept)) t.me (joins t).lived)

  pub twice : (s t : One) → file_fact s.facts ≡ None → may_leave s.served.on.end_file.slots.disk t.facts → MeetBoth seen may_leave moment left_since faults sent given link_faults coming s t ⊎ MeetsAll (life t None t.served.kept ∷ [])
  twice s t none left = by ((joins s).at_end t.facts left)
    where
      after : List Life
      after = life t (joins t).fact t.served.kept ∷ []

      by : (file_fact t.facts ≡ fact_on_disk (joins s).lived.left) ⊎ ((file_fact t.facts ≡ fact_on_disk (joins s).whole.left) ⊎ ((s.served.kept ≡ []) × (file_fact t.facts ≡ file_fact s.facts)))
          → MeetBoth seen may_leave moment left_since faults sent given link_faults coming s t ⊎ MeetsAll (life t None t.served.kept ∷ [])
      by (inl kept) = inl (record {
        deeds = s.served.kept;
        steps = inl refl;
        fact = (joins t).fact;
        is = (joins t).is;
        both = meet_all (life s None s.served.kept ∷ after) (follow s.served.kept s.nodes s.objects after s.w.view s.w.me (joins s).fact s.view s.me (none_found s none) (joins s).lived (second s t (fact_on_disk (joins s).lived.left) kept)) (own_lived s.served.kept (own_kept s), (own_lived t.served.kept (own_kept t), tt));
      })
      by (inr (inl whole)) = inl (record {
        deeds = s.served.on.life.deeds;
        steps = inr refl;
        fact = (joins t).fact;
        is = (joins t).is;
        both = meet_all (life s None s.served.on.life.deeds ∷ after) (follow s.served.on.life.deeds s.nodes s.objects after s.w.view s.w.me (joins s).fact s.view s.me (none_found s none) (joins s).whole (second s t (fact_on_disk (joins s).whole.left) whole)) (own_lived s.served.on.life.deeds (own_steps s), (own_lived t.served.kept (own_kept t), tt));
      })
      by (inr (inr nothing)) = inr (once t (nothing.1 ∙ none))
