-- A peer between two of its turns.
use Rattle.std.specs.Prelude.{Option, None, Some}
use Rattle.std.proofs.Common.{◌≡◌, ◌∙◌, ◌+◌, ◌*◌, ◌≤◌, ◌<◌, ap, sym, subst, refl, ℕ, suc, Bool, true, false, List, [], ◌∷◌, ◌++◌, Ok, inl, inr, length, length-append, append-nil, arith}
use Rattle.ens_base.specs.declared.peer_words.PeerWords.{PeerWords}
use Rattle.ens_base.specs.declared.status.Status.{Status}
use Rattle.ens_base.specs.declared.status.Status.TheVariants as statuses
use Rattle.disk_stores.specs.declared.backend.DiskBackend.{DiskBackend}
use Rattle.disk_stores.specs.declared.nodes.DiskNodes.{DiskNodes}
use Rattle.fact_store.specs.declared.delayed_fact.DelayedFact.{DelayedFact}
use Rattle.fact_store.specs.Files.{file_kept}
use Rattle.fact_store.specs.declared.file.FactFile.{FactFile}
use Rattle.peer_core.specs.PeerStores.{Stores}
use Rattle.peer_core.specs.declared.peer.Peer.{Peer}
use Rattle.stored_formats.specs.declared.saved.SavedFact.{SavedFact}
use Rattle.peer_state.specs.Moves.{saved_by}
use Rattle.peer_state.specs.declared.event.Event.{Event}
use Rattle.peer_state.specs.declared.state.State.{State}
use Rattle.peer_turns.proofs.Following.{grew_more, grew_none}
use Rattle.peer_turns.specs.Deeds.{Deed, events_in, frames_in}
use Rattle.peer_turns.specs.Going.{Grew}
use Rattle.peer_turns.specs.Turns.{Turn, event_of, listed, tick_if}
use Rattle.step_plans.specs.declared.outbox.Outbox.{Outbox}
use Rattle.peer_server.proofs.Lasting.{committed_kept, lasts_committed, lasts_more, lasts_none}
use Rattle.peer_server.proofs.Lining.{all_sent, as_many_wait, prefix_on, given_all, lost_of, shrank, some_lost}
use Rattle.peer_server.proofs.Making.{commit_broke, turns_broke, turns_committed, turns_more, turns_none}
use Rattle.peer_server.specs.Commits.{CommitBroke, CommitMade, SentPrefix, TurnEnded, WasNotSaved, WasNotSent}
use Rattle.peer_server.specs.DiskPeers.{OnDisks, disks_do, disks_refuse}
use Rattle.peer_server.specs.Lines.{frames_waiting, grown, looked, posted}
use Rattle.peer_server.specs.Rounds.{AllMade, BrokeAt, Durable, FileEnds, SentUntil}
use Rattle.peer_server.specs.Turning.{Committing, IsInTurn, Looked, Looking, Place, Shrank, Ticked, TurnBroke, TurnMade, TurnsMade, WasLost, events_before, line, point}
use Rattle.peer_server.specs.declared.server.Server.{Server}
use Rattle.peer_server.specs.declared.turns.Counts.{Counts}

-- ## How many steps a turn takes

deeds_many : (deeds : List Deed) → length (events_in deeds) ≡ length deeds
deeds_many [] = refl
deeds_many (d ∷ deeds) = ap suc (deeds_many deeds)

listed_few : (o : Option Event) → length (listed o) ≤ 1
listed_few None = omega arith
listed_few (Some event) = omega arith

ticks_few : (due : Bool) → length (tick_if due) ≤ 1
ticks_few true = omega arith
ticks_few false = omega arith

turn_few : (w : PeerWords) (turn : Turn) (deeds : List Deed) → events_in deeds ≡ listed (event_of w turn.look) ++ tick_if turn.due → length deeds ≤ 2
turn_few w turn deeds are =
    let many : length deeds ≡ length (listed (event_of w turn.look) ++ tick_if turn.due) = sym (deeds_many deeds) ∙ ap length are in
    omega (arith, many, length-append (listed (event_of w turn.look)) (tick_if turn.due), listed_few (event_of w turn.look), ticks_few turn.due)

before_few : (w : PeerWords) (place : Place) → length (events_before w place) ≤ 1
before_few w Looking = omega arith
before_few w (Looked look) = omega arith
before_few w (Ticked look) = listed_few (event_of w look)
before_few w Committing = omega arith

broken_few : (w : PeerWords) (place : Place) (deeds : List Deed) → events_in deeds ≡ events_before w place → length deeds ≤ 2
broken_few w place deeds are =
    let many : length deeds ≡ length (events_before w place) = sym (deeds_many deeds) ∙ ap length are in
    omega (arith, many, before_few w place)

one_more : (waiting : ℕ) (late more : List Deed) → length late ≤ 2 * waiting → length more ≤ 2 → length (late ++ more) ≤ 2 * (waiting + 1)
one_more waiting late more few two = omega (arith, few, two, length-append late more)

none_few : length {A = Deed} [] ≤ 2 * 0
none_few = omega arith

none_late : length {A = Deed} [] ≤ 2 * 32
none_late = omega arith

at_most : (n waiting : ℕ) → waiting ≤ 32 → n ≤ 2 * waiting → n ≤ 2 * 32
at_most n waiting some few = omega (arith, some, few)

-- ## How many facts are committed

none_saved : length {A = SavedFact} [] + 0 ≤ length {A = Turn} []
none_saved = omega arith

-- after one more turn
saves_on : (facts : List SavedFact) (waiting : ℕ) (turns : List Turn) (turn : Turn) → length facts + waiting ≤ length turns → length facts + (waiting + 1) ≤ length (turns ++ turn ∷ [])
saves_on facts waiting turns turn saves = omega (arith, saves, length-append turns (turn ∷ []))

-- after a commit that at least one turn waited for
saves_again : (facts : List SavedFact) (fact : SavedFact) (waiting : ℕ) (turns : List Turn) → 1 ≤ waiting → length facts + waiting ≤ length turns → length (facts ++ fact ∷ []) + 0 ≤ length turns
saves_again facts fact waiting turns some saves = omega (arith, some, saves, length-append facts (fact ∷ []))

saves_so_far : (facts : List SavedFact) (waiting : ℕ) (turns : List Turn) → length facts + waiting ≤ length turns → length facts ≤ length turns + 1
saves_so_far facts waiting turns saves = omega (arith, saves)

-- after a last commit
saves_at_last : (facts : List SavedFact) (fact : SavedFact) (waiting : ℕ) (turns : List Turn) → length facts + waiting ≤ length turns → length (facts ++ fact ∷ []) ≤ length turns + 1
saves_at_last facts fact waiting turns saves = omega (arith, saves, length-append facts (fact ∷ []))

-- ## Turns and commits

-- these stores, with a hasher that keeps nothing
abbrev pub with_hasher : {D : Type 0} → Stores (DiskBackend D) (DiskNodes D) DelayedFact → OnDisks D
with_hasher s = (s, record {})

-- where nothing waits at first and at last, all that was put out was sent
pub all_given : {D L : Type 0} (sent : L → Option (List (ℕ × List ℕ))) (me : ℕ) (a c : Server D) (l n : L) (frames : List (ℕ × List ℕ)) → a.unsent.items ≡ [] → c.unsent.items ≡ [] → Grew (posted sent me (line a l)) (posted sent me (line c n)) frames → Grew (sent l) (sent n) frames
all_given sent me a c l n frames first last grew =
    given_all (sent l) (sent n) frames
    (subst (λ (os : List Outbox). Grew (grown (sent l) (frames_waiting me os)) (grown (sent n) []) frames) first
    (subst (λ (os : List Outbox). Grew (posted sent me (line a l)) (grown (sent n) (frames_waiting me os)) frames) last grew))

module _ {D L T : Type 0} (seen : D → Option (List ℕ)) (may_leave : D → List ℕ → Type 0) (moment : D → ℕ) (left_since : D → ℕ → List ℕ → Type 0) (faults : D → ℕ)
    (sent : L → Option (List (ℕ × List ℕ))) (given : L → Option (List (Option (List ℕ)))) (coming : T → Option (ℕ → Bool)) (w : PeerWords) where
  abbrev Turned : Server D → Server D → L → L → T → T → List Turn → Type 0
  Turned a b l m s t turns = TurnsMade (disks_do seen faults) (disks_refuse seen faults) (posted sent w.me) (looked given) coming w (point a l) (point b m) s t turns

  abbrev Lasts : Server D → List Deed → FactFile D → FactFile D → Type 0
  Lasts a deeds f g = Durable seen may_leave moment left_since faults w.me a.peer.machine.state (a.peer.machine.stores, record {}) deeds f g

  file_stays : (place : Place) (status : Status) (fact : SavedFact) (f g : FactFile D) → IsInTurn place → g ≡ f → FileEnds seen may_leave moment left_since faults sent given coming w place status fact f g
  file_stays Committing status fact f g inside same = absurd inside
  file_stays Looking status fact f g inside same = same
  file_stays (Looked look) status fact f g inside same = same
  file_stays (Ticked look) status fact f g inside same = same

  sent_before : (place : Place) (status : Status) (old new : Option (List (ℕ × List ℕ))) (frames : List (ℕ × List ℕ)) → IsInTurn place → Grew old new frames → SentUntil place status old new frames
  sent_before Committing status old new frames inside all = absurd inside
  sent_before Looking status old new frames inside all = all
  sent_before (Looked look) status old new frames inside all = all
  sent_before (Ticked look) status old new frames inside all = all

  -- These turns were made, and all that the durable steps put out was sent. The others are steps of so many
  -- turns.
  pub record Underway (a b : Server D) (l m : L) (s t : T) (turns : List Turn) (waiting : ℕ) : Type 0 where
    pub none : a.unsent.items ≡ []
    pub made : Turned a b l m s t turns
    pub lasts : Lasts a made.took.deeds a.facts b.facts
    pub few : length lasts.late ≤ 2 * waiting
    pub saves : length lasts.facts + waiting ≤ length turns
    pub sends : Grew (sent l) (sent m) (frames_in w.me lasts.kept)

  pub begun : (a : Server D) (l : L) (s : T) → a.unsent.items ≡ [] → Underway a a l l s s [] 0
  begun a l s none = record {
    none = none;
    made = turns_none (disks_do seen faults) (disks_refuse seen faults) (posted sent w.me) (looked given) coming w (point a l) s;
    lasts = lasts_none seen may_leave moment left_since faults w.me a.peer.machine.state (a.peer.machine.stores, record {}) a.facts;
    few = none_few;
    saves = none_saved;
    sends = grew_none (sent l);
  }

  -- nothing more was sent
  still : (l m n : L) (frames : List (ℕ × List ℕ)) → Grew (sent l) (sent m) frames → Grew (sent m) (sent n) [] → Grew (sent l) (sent n) frames
  still l m n frames first second = subst (λ (fs : List (ℕ × List ℕ)). Grew (sent l) (sent n) fs) (append-nil frames) (grew_more (sent l) (sent m) (sent n) frames [] first second)

  pub turned : (a b c : Server D) (l m n : L) (s t u : T) (turns : List Turn) (waiting : ℕ) (old new : Counts) → Underway a b l m s t turns waiting
      → (one : TurnMade (disks_do seen faults) (disks_refuse seen faults) (posted sent w.me) (looked given) coming w (point b m) (point c n) t u old new) → c.facts ≡ b.facts → Grew (sent m) (sent n) [] → Underway a c l n s u (turns ++ one.turn ∷ []) (waiting + 1)
  turned a b c l m n s t u turns waiting old new under one file quiet = record {
    none = under.none;
    made = turns_more (disks_do seen faults) (disks_refuse seen faults) (posted sent w.me) (looked given) coming w (point a l) (point b m) (point c n) s t u turns old new under.made one;
    lasts = lasts_more seen may_leave moment left_since faults w.me a.peer.machine.state (a.peer.machine.stores, record {}) under.made.took.deeds one.took.deeds a.facts b.facts c.facts file under.lasts;
    few = one_more waiting under.lasts.late one.took.deeds under.few (turn_few w one.turn one.took.deeds one.took.are);
    saves = saves_on under.lasts.facts waiting turns one.turn under.saves;
    sends = still l m n (frames_in w.me under.lasts.kept) under.sends quiet;
  }

  -- the stores of a peer that is the same
  same_stores : (b c : Server D) → c.peer ≡ b.peer → with_hasher c.peer.machine.stores ≡ with_hasher b.peer.machine.stores
  same_stores b c same = ap (λ (k : Peer (DiskBackend D) (DiskNodes D) DelayedFact). with_hasher k.machine.stores) same

  same_state : (b c : Server D) → c.peer ≡ b.peer → c.peer.machine.state ≡ b.peer.machine.state
  same_state b c same = ap (λ (k : Peer (DiskBackend D) (DiskNodes D) DelayedFact). k.machine.state) same

  -- all that waited was sent
  none_wait : (b c : Server D) (m n : L) → c.unsent.items ≡ [] → Grew (sent m) (sent n) (frames_waiting w.me b.unsent.items) → Grew (posted sent w.me (line b m)) (posted sent w.me (line c n)) []
  none_wait b c m n none sends = subst (λ (os : List Outbox). Grew (posted sent w.me (line b m)) (grown (sent n) (frames_waiting w.me os)) []) (sym none) (all_sent (sent m) (sent n) (frames_waiting w.me b.unsent.items) sends)

  abbrev turns_on : (link_faults : L → ℕ) (a b c : Server D) (l m n : L) (s t : T) (turns : List Turn) → Turned a b l m s t turns → CommitMade seen may_leave moment left_since faults sent given link_faults w.me b c m n → Turned a c l n s t turns
  turns_on link_faults a b c l m n s t turns made commit =
      turns_committed (disks_do seen faults) (disks_refuse seen faults) (posted sent w.me) (looked given) coming w (point a l) (point b m) (point c n) s t turns made (same_state b c commit.peer) (same_stores b c commit.peer) commit.sends.looked (none_wait b c m n commit.none commit.sends.sends)

  abbrev lasts_on : (link_faults : L → ℕ) (a b c : Server D) (l m n : L) (s t : T) (turns : List Turn) (waiting : ℕ) (under : Underway a b l m s t turns waiting) → CommitMade seen may_leave moment left_since faults sent given link_faults w.me b c m n → Lasts a under.made.took.deeds a.facts c.facts
  lasts_on link_faults a b c l m n s t turns waiting under commit =
      lasts_committed seen may_leave moment left_since faults w.me a.peer.machine.state (a.peer.machine.stores, record {}) under.made.took.deeds b.peer.machine.state (b.peer.machine.stores, record {}) a.facts b.facts c.facts under.lasts under.made.took.went.did commit.fact

  committed : (link_faults : L → ℕ) (a b c : Server D) (l m n : L) (s t : T) (turns : List Turn) (waiting : ℕ) → 1 ≤ waiting → Underway a b l m s t turns waiting → CommitMade seen may_leave moment left_since faults sent given link_faults w.me b c m n → Underway a c l n s t turns 0
  committed link_faults a b c l m n s t turns waiting some under commit = record {
    none = under.none;
    made = turns_on link_faults a b c l m n s t turns under.made commit;
    lasts = lasts_on link_faults a b c l m n s t turns waiting under commit;
    few = none_few;
    saves = saves_again under.lasts.facts (saved_by b.peer.machine.state) waiting turns some under.saves;
    sends = all_given sent w.me a c l n (frames_in w.me under.made.took.deeds) under.none commit.none (turns_on link_faults a b c l m n s t turns under.made commit).took.went.sends;
  }

  same_items : (b c : Server D) → c.unsent ≡ b.unsent → c.unsent.items ≡ b.unsent.items
  same_items b c same = ap (λ v. v.items) same

  -- after a last commit
  pub finished : (link_faults : L → ℕ) (a b c : Server D) (l m n : L) (s t : T) (turns : List Turn) (waiting : ℕ) → Underway a b l m s t turns waiting → CommitMade seen may_leave moment left_since faults sent given link_faults w.me b c m n → AllMade seen may_leave moment left_since faults sent given coming w a c l n s t turns
  finished link_faults a b c l m n s t turns waiting under commit = record {
    made = turns_on link_faults a b c l m n s t turns under.made commit;
    durable = lasts_on link_faults a b c l m n s t turns waiting under commit;
    newest = committed_kept seen may_leave moment left_since faults (saved_by b.peer.machine.state) b.facts c.facts commit.fact ∙ ap (λ (x : State). Some (Ok (saved_by x))) (sym (same_state b c commit.peer));
    none = commit.none;
  }

  -- a fault in a turn
  pub turn_failed : (status : Status) (a b c : Server D) (l m n : L) (s t u : T) (turns : List Turn) (waiting : ℕ) → Underway a b l m s t turns waiting → waiting + 1 ≤ 32
      → (one : TurnBroke (disks_do seen faults) (disks_refuse seen faults) (posted sent w.me) (looked given) coming w status (point b m) (point c n) t u) → c.facts ≡ b.facts → Grew (sent m) (sent n) []
      → BrokeAt seen may_leave moment left_since faults sent given coming w status a c l n s u turns one.place
  turn_failed status a b c l m n s t u turns waiting under room one file quiet = record {
    broke = turns_broke (disks_do seen faults) (disks_refuse seen faults) (posted sent w.me) (looked given) coming w status (point a l) (point b m) (point c n) s t u turns under.made one;
    file = b.facts;
    durable = lasts_more seen may_leave moment left_since faults w.me a.peer.machine.state (a.peer.machine.stores, record {}) under.made.took.deeds one.broke.took.deeds a.facts b.facts b.facts refl under.lasts;
    few = at_most (length (under.lasts.late ++ one.broke.took.deeds)) (waiting + 1) room (one_more waiting under.lasts.late one.broke.took.deeds under.few (broken_few w one.place one.broke.took.deeds one.broke.took.are));
    saves = saves_so_far under.lasts.facts waiting turns under.saves;
    sends = sent_before one.place status (sent l) (sent n) (frames_in w.me under.lasts.kept) one.inside (still l m n (frames_in w.me under.lasts.kept) under.sends quiet);
    end = file_stays one.place status (saved_by one.broke.between.state) b.facts c.facts one.inside file;
  }

  -- the fact was not saved
  not_saved : (link_faults : L → ℕ) (a b c : Server D) (l m n : L) (s t : T) (turns : List Turn) (waiting : ℕ) → Underway a b l m s t turns waiting → waiting ≤ 32 → WasNotSaved seen may_leave moment left_since faults sent given link_faults w.me b c m n → BrokeAt seen may_leave moment left_since faults sent given coming w statuses.StoreFault a c l n s t turns Committing
  not_saved link_faults a b c l m n s t turns waiting under room off = record {
    broke =
        commit_broke (disks_do seen faults) (disks_refuse seen faults) (posted sent w.me) (looked given) coming w statuses.StoreFault (point a l) (point b m) (point c n) s t turns under.made (record {
          state = same_state b c off.peer;
          stores = same_stores b c off.peer;
          looked = subst (λ (k : L). Grew (given m) (given k) []) (sym off.still) (grew_none (given m));
          sends = subst (λ (k : L). Grew (posted sent w.me (line b m)) (posted sent w.me (line c k)) []) (sym off.still) (as_many_wait (sent m) w.me b.unsent.items c.unsent.items (same_items b c off.unsent));
        });
    file = b.facts;
    durable = under.lasts;
    few = at_most (length under.lasts.late) waiting room under.few;
    saves = saves_so_far under.lasts.facts waiting turns under.saves;
    sends = subst (λ (k : L). Grew (sent l) (sent k) (frames_in w.me under.lasts.kept)) (sym off.still) under.sends;
    end = off.refused;
  }

  -- not all that waited was sent
  lost_some : (link_faults : L → ℕ) (a b c : Server D) (l m n : L) (s t : T) (turns : List Turn) (waiting : ℕ) → Underway a b l m s t turns waiting → WasNotSent seen may_leave moment left_since faults sent given link_faults w.me b c m n
      → WasLost (disks_do seen faults) (disks_refuse seen faults) (posted sent w.me) (looked given) w.me (point b m) (point c n)
  lost_some link_faults a b c l m n s t turns waiting under off = record {
    state = same_state b c off.peer;
    stores = same_stores b c off.peer;
    looked = off.looked;
    lost = lost_of off.sends;
    some = some_lost (sent m) (sent n) (frames_waiting w.me b.unsent.items) off.sends;
    sends = subst (λ (os : List Outbox). Shrank (posted sent w.me (line b m)) (grown (sent n) (frames_waiting w.me os)) (lost_of off.sends)) (sym off.none) (shrank (sent m) (sent n) (frames_waiting w.me b.unsent.items) off.sends);
  }

  abbrev lasts_after : (link_faults : L → ℕ) (a b c : Server D) (l m n : L) (s t : T) (turns : List Turn) (waiting : ℕ) (under : Underway a b l m s t turns waiting) → WasNotSent seen may_leave moment left_since faults sent given link_faults w.me b c m n → Lasts a under.made.took.deeds a.facts c.facts
  lasts_after link_faults a b c l m n s t turns waiting under off =
      lasts_committed seen may_leave moment left_since faults w.me a.peer.machine.state (a.peer.machine.stores, record {}) under.made.took.deeds b.peer.machine.state (b.peer.machine.stores, record {}) a.facts b.facts c.facts under.lasts under.made.took.went.did off.fact

  prefix_sent : (link_faults : L → ℕ) (a b c : Server D) (l m n : L) (s t : T) (turns : List Turn) (waiting : ℕ) (under : Underway a b l m s t turns waiting) → WasNotSent seen may_leave moment left_since faults sent given link_faults w.me b c m n → SentPrefix (sent l) (sent n) (frames_in w.me under.made.took.deeds)
  prefix_sent link_faults a b c l m n s t turns waiting under off =
      prefix_on (sent l) (sent m) (sent n) (frames_in w.me under.lasts.kept) (frames_waiting w.me b.unsent.items) (frames_in w.me under.made.took.deeds) under.sends
      (subst (λ (os : List Outbox). Grew (grown (sent l) (frames_waiting w.me os)) (posted sent w.me (line b m)) (frames_in w.me under.made.took.deeds)) under.none under.made.took.went.sends) off.sends

  -- a fault in a commit
  pub commit_failed : (status : Status) (a b c : Server D) (l m n : L) (s t : T) (turns : List Turn) (waiting : ℕ) → Underway a b l m s t turns waiting → waiting ≤ 32 → (link_faults : L → ℕ) → CommitBroke seen may_leave moment left_since faults sent given link_faults w.me status b c m n
      → BrokeAt seen may_leave moment left_since faults sent given coming w status a c l n s t turns Committing
  commit_failed statuses.StoreFault a b c l m n s t turns waiting under room link_faults off = not_saved link_faults a b c l m n s t turns waiting under room off
  commit_failed statuses.LinkFault a b c l m n s t turns waiting under room link_faults off = record {
    broke = commit_broke (disks_do seen faults) (disks_refuse seen faults) (posted sent w.me) (looked given) coming w statuses.LinkFault (point a l) (point b m) (point c n) s t turns under.made (lost_some link_faults a b c l m n s t turns waiting under off);
    file = c.facts;
    durable = lasts_after link_faults a b c l m n s t turns waiting under off;
    few = none_late;
    saves = saves_at_last under.lasts.facts (saved_by b.peer.machine.state) waiting turns under.saves;
    sends = prefix_sent link_faults a b c l m n s t turns waiting under off;
    end = refl;
  }
  commit_failed statuses.Memory a b c l m n s t turns waiting under room link_faults off = record {
    broke = commit_broke (disks_do seen faults) (disks_refuse seen faults) (posted sent w.me) (looked given) coming w statuses.Memory (point a l) (point b m) (point c n) s t turns under.made (lost_some link_faults a b c l m n s t turns waiting under off);
    file = c.facts;
    durable = lasts_after link_faults a b c l m n s t turns waiting under off;
    few = none_late;
    saves = saves_at_last under.lasts.facts (saved_by b.peer.machine.state) waiting turns under.saves;
    sends = prefix_sent link_faults a b c l m n s t turns waiting under off;
    end = refl;
  }
  commit_failed status a b c l m n s t turns waiting under room link_faults off = absurd off

  -- the end of a turn
  pub ended : (link_faults : L → ℕ) (a b c : Server D) (l m n : L) (s t : T) (turns : List Turn) (waiting left : ℕ) → 1 ≤ waiting → Underway a b l m s t turns waiting → TurnEnded seen may_leave moment left_since faults sent given link_faults w.me waiting left b c m n → Underway a c l n s t turns left
  ended link_faults a b c l m n s t turns waiting left some under (inl commit) = subst (λ (k : ℕ). Underway a c l n s t turns k) (sym commit.1) (committed link_faults a b c l m n s t turns waiting some under commit.0)
  ended link_faults a b c l m n s t turns waiting left some under (inr same) =
      subst (λ (k : ℕ). Underway a c l n s t turns k) (sym same.2)
      (subst (λ (k : L). Underway a c l k s t turns waiting) (sym same.1) (subst (λ (k : Server D). Underway a k l m s t turns waiting) (sym same.0) under))

-- fewer than 32 turns wait after the end of a turn
pub few_left : {D L : Type 0} (seen : D → Option (List ℕ)) (may_leave : D → List ℕ → Type 0) (moment : D → ℕ) (left_since : D → ℕ → List ℕ → Type 0) (faults : D → ℕ) (sent : L → Option (List (ℕ × List ℕ))) (given : L → Option (List (Option (List ℕ)))) (link_faults : L → ℕ) (me waiting left : ℕ) (a b : Server D) (link link_after : L)
    → TurnEnded seen may_leave moment left_since faults sent given link_faults me waiting left a b link link_after → left < 32
few_left seen may_leave moment left_since faults sent given link_faults me waiting left a b link link_after (inl commit) = omega (arith, commit.1)
few_left seen may_leave moment left_since faults sent given link_faults me waiting left a b link link_after (inr same) = omega (arith, same.2, same.3)
