-- What became of a peer, put together from its start and its turns.
use Rattle.std.specs.Prelude.{All, Option, None, Some}
use Rattle.std.proofs.Common.{◌≡◌, ◌⊎◌, ◌∙◌, ◌+◌, ◌≤◌, ap, sym, subst, refl, ℕ, List, [], ◌∷◌, length, Bool, Result, Ok, Err, inl, inr, arith}
use Rattle.std.proofs.lemmas.List.Elements.{All-head, All-tail, All-weaker}
use Rattle.ens_base.specs.Causes.{Rose}
use Rattle.ens_base.specs.declared.peer_words.PeerWords.{PeerWords}
use Rattle.ens_base.specs.declared.status.Status.{Status}
use Rattle.ens_base.specs.declared.status.Status.TheVariants as statuses
use Rattle.disk_stores.specs.Records.{entries_of}
use Rattle.disk_stores.specs.DiskCalls.{HoldsNodes, HoldsObjects}
use Rattle.disk_stores.specs.NodeMaps.{nodes_of}
use Rattle.environment.specs.Maps.{Entries}
use Rattle.environment.specs.MemStores.{Held}
use Rattle.fact_store.proofs.Leaving.{Rests, commit_rests, crash_leaves, refused_left}
use Rattle.fact_store.specs.Commits.{Committed, CommittedAll}
use Rattle.fact_store.specs.Files.{DiskFailed, FileRefuses, IsSpent, file_kept}
use Rattle.fact_store.specs.Keeping.{IsOldOrNew, Save, file_fact}
use Rattle.fact_store.specs.declared.error.KeepError.TheVariants as keeps
use Rattle.fact_store.specs.declared.file.FactFile.{FactFile}
use Rattle.stored_formats.specs.declared.fact_error.FactError.{FactError}
use Rattle.stored_formats.specs.declared.saved.SavedFact.{SavedFact}
use Rattle.peer_spec.specs.Drives.{step_of}
use Rattle.peer_spec.specs.Starts.{opened as opened_plan, start_of}
use Rattle.peer_state.specs.Moves.{saved_by}
use Rattle.peer_state.specs.declared.event.Event.{Event}
use Rattle.peer_state.specs.declared.event.Event.TheVariants as happenings
use Rattle.peer_state.specs.declared.state.State.{State}
use Rattle.slot_disk.proofs.Runs.{weaker}
use Rattle.slot_disk.specs.Crash.{LeavesOnly, Told}
use Rattle.slot_disk.specs.SlotFiles.{IsAtRest}
use Rattle.step_plans.specs.Calls.{Call, AnswerOf}
use Rattle.step_plans.specs.Plans.{Finished, Runs, nothing}
use Rattle.step_plans.specs.declared.error.PeerError.{PeerError}
use Rattle.step_plans.specs.declared.error.PeerError.TheVariants as errors
use Rattle.step_plans.specs.declared.outbox.Outbox.{Outbox}
use Rattle.peer_turns.specs.Deeds.{Deed, Did, frames_in}
use Rattle.peer_turns.specs.Going.{Point}
use Rattle.peer_turns.specs.Turns.{Turn, event_of}
use Rattle.peer_server.proofs.Caused.{Caused, IsHonest, Later, caused_later, keeps_later, later_none, later_on, loaded_honest, stopped_caused}
use Rattle.peer_server.proofs.Kept.{HasNodes, HasObjects, keeps_nodes, keeps_objects, nodes_kept, objects_kept}
use Rattle.peer_server.proofs.Lasting.{of_all}
use Rattle.peer_server.proofs.Underway.{all_given}
use Rattle.peer_server.proofs.Walked.{did_keeps, run_keeps}
use Rattle.peer_server.specs.Commits.{IsFactOfSome, LeavesFacts}
use Rattle.peer_server.specs.DiskPeers.{KeepsNodes, KeepsObjects, Of, OnDisks, disks_do, disks_refuse, disks_under}
use Rattle.peer_server.specs.Faults.{Between, DiskRose, IsCause, IsStartCause, IsStoreCause, peer_status, status_of}
use Rattle.peer_server.specs.Lines.{Line, looked, posted}
use Rattle.peer_server.specs.Rounds.{AllMade, BrokeAt, Durable, FileEnds}
use Rattle.peer_server.specs.Serving.{Interrupted, IsDurable, IsFoundOrOfSome, Served}
use Rattle.peer_server.specs.Starting.{Began, FactsLeft, Opened, Unstarted, served_mode}
use Rattle.peer_server.specs.Turning.{Committing, Fell, FellAt, Looked, Looking, Place, RanInto, Ticked, begun_at, point}
use Rattle.peer_server.specs.declared.disks.Disks.{Disks}
use Rattle.peer_server.specs.declared.error.ServeError.{ServeError}
use Rattle.peer_server.specs.declared.error.ServeError.TheVariants as serves
use Rattle.peer_server.specs.declared.server.Server.{Server}

of_less : {D : Type 0} (o : Option D) (P Q : D → Type 0) → ((d : D) → P d → Q d) → Of o P → Of o Q
of_less None P Q less of = absurd of
of_less (Some d) P Q less of = less d of

of_both : {D : Type 0} (o : Option D) (P Q R : D → Type 0) → ((d : D) → P d → Q d → R d) → Of o P → Of o Q → Of o R
of_both None P Q R both first second = absurd first
of_both (Some d) P Q R both first second = both d first second

pub told_less : (o : Option (List ℕ)) (P Q : List ℕ → Type 0) → ((file : List ℕ) → P file → Q file) → Told o P → Told o Q
told_less None P Q less told = tt
told_less (Some file) P Q less told = less file told

rose_between : {D : Type 0} (faults : D → ℕ) (o : Option D) (e : D) (first : ℕ) → Of o (λ d. first ≡ faults d) → Rose first (faults e) → Between o (Some e) (λ d f. Rose (faults d) (faults f))
rose_between faults None e first of rose = absurd of
rose_between faults (Some d) e first of rose = subst (λ (n : ℕ). Rose n (faults e)) of rose

never_link : (e : PeerError) → peer_status e ≡ statuses.LinkFault → ⊥
never_link errors.StoreFault is = cc
never_link (errors.BadFact why) is = cc
never_link errors.Halted is = cc
never_link (errors.Clash first second) is = cc
never_link (errors.BookFull kept) is = cc
never_link errors.Memory is = cc

module _ {D : Type 0} (seen : D → Option (List ℕ)) (may_leave : D → List ℕ → Type 0) (moment : D → ℕ) (left_since : D → ℕ → List ℕ → Type 0) (faults : D → ℕ)
    (counts_now : (disk : D) (t : ℕ) (c : List ℕ) → t ≤ moment disk → may_leave disk c → left_since disk t c) where
  abbrev Does : OnDisks D → (call : Call) → AnswerOf call → OnDisks D → Type 0
  Does s call a t = disks_do seen faults s call a t

  abbrev Refuses : OnDisks D → Call → PeerError → OnDisks D → Type 0
  Refuses s call e t = disks_refuse seen faults s call e t

  on_later : (X : FactError → Type 0) (first s t : OnDisks D) (call : Call) (a : AnswerOf call) → Does s call a t → Later faults X first s → Later faults X first t
  on_later X first s t call a did later = later_on faults X first s t later (keeps_later seen faults X s t call a did later.honest)

  -- the file holds a record that is no fact, for this reason
  abbrev IsBadIn : FactFile D → FactError → Type 0
  IsBadIn file why = file_kept file ≡ Some (Err why)

  -- no reason
  abbrev NoReason : FactError → Type 0
  NoReason why = ⊥

  -- what is known of opened stores and their disks
  abbrev FileOpened : FactFile D → D → Type 0
  FileOpened file d = Told (seen d) (λ bytes. IsAtRest seen may_leave file.slots × (file_kept file ≡ file_fact bytes)) × (faults file.slots.disk ≡ faults d)

  abbrev NodesOpened : OnDisks D → D → Type 0
  NodesOpened s d = Told (seen d) (λ bytes. HoldsNodes seen s.0.tree.store (nodes_of bytes)) × (faults s.0.tree.store.log.file.disk ≡ faults d)

  abbrev ObjectsOpened : OnDisks D → D → Type 0
  ObjectsOpened s d = Told (seen d) (λ bytes. HoldsObjects seen s.0.backend (entries_of bytes)) × (faults s.0.backend.log.file.disk ≡ faults d)

  opened_honest : (disks : Disks D) (first : OnDisks D) (file : FactFile D) → Opened seen may_leave moment left_since faults disks first file → IsHonest (IsBadIn file) first
  opened_honest disks first file opened why is = sym opened.held ∙ is

  -- a cause that began with opened stores began with their disks, or it is another; whatever became of the file
  -- of facts
  from_disks : (disks : Disks D) (first end : OnDisks D) (file last : FactFile D) (X : FactError → Type 0) (Other : Type 0) → Opened seen may_leave moment left_since faults disks first file → ((why : FactError) → X why → Other) → Caused faults X first end
      → DiskRose faults disks (disks_under end.0 last) ⊎ Other
  from_disks disks first end file last X Other opened other (inl rose) =
      let count : ℕ = faults first.0.tree.store.log.file.disk in
      inl (inr (inl (rose_between faults disks.nodes end.0.tree.store.log.file.disk count (of_less disks.nodes (NodesOpened first) (λ (d : D). count ≡ faults d) (λ d both. both.1) opened.nodes) rose)))
  from_disks disks first end file last X Other opened other (inr (inl rose)) =
      let count : ℕ = faults first.0.backend.log.file.disk in
      inl (inr (inr (rose_between faults disks.objects end.0.backend.log.file.disk count (of_less disks.objects (ObjectsOpened first) (λ (d : D). count ≡ faults d) (λ d both. both.1) opened.objects) rose)))
  from_disks disks first end file last X Other opened other (inr (inr useless)) = inr (other useless.0 useless.1)

  -- a save that was refused
  from_save : (disks : Disks D) (first end : OnDisks D) (file m last : FactFile D) → Opened seen may_leave moment left_since faults disks first file → faults m.slots.disk ≡ faults file.slots.disk → IsSpent m last ⊎ DiskFailed faults m last
      → IsStoreCause faults disks (disks_under end.0 last) m last
  from_save disks first end file m last opened good (inl spent) = inr spent
  from_save disks first end file m last opened good (inr failed) =
      let count : ℕ = faults m.slots.disk in
      inl (inl (rose_between faults disks.facts last.slots.disk count (of_less disks.facts (FileOpened file) (λ (d : D). count ≡ faults d) (λ d both. good ∙ both.1) opened.facts) failed.rose))

  -- commits that were made counted no fault
  commits_good : (facts : List SavedFact) (f g : FactFile D) → CommittedAll seen may_leave moment left_since faults facts f g → faults g.slots.disk ≡ faults f.slots.disk
  commits_good [] f g commits = ap (λ (k : FactFile D). faults k.slots.disk) commits
  commits_good (fact ∷ facts) f g commits = commits_good facts commits.0 g commits.2 ∙ commit_good fact f commits.0 commits.1
    where
      commit_good : (fact : SavedFact) (f g : FactFile D) → Committed seen may_leave moment left_since faults fact f g → faults g.slots.disk ≡ faults f.slots.disk
      commit_good fact f g (inl same) = ap (λ (k : FactFile D). faults k.slots.disk) same.1
      commit_good fact f g (inr done) = done.0.good

  -- what a crash left at any moment, if each fact that was committed satisfies P
  all_rest : (first : D) (P : Option (Result SavedFact FactError) → Type 0) (facts : List SavedFact) (f g : FactFile D) → All (λ (fact : SavedFact). P (Some (Ok fact))) facts → CommittedAll seen may_leave moment left_since faults facts f g
      → Rests seen may_leave moment left_since faults first P f → Rests seen may_leave moment left_since faults first P g
  all_rest first P [] f g each commits rests = subst (Rests seen may_leave moment left_since faults first P) (sym commits) rests
  all_rest first P (fact ∷ facts) f g each commits rests =
      all_rest first P facts commits.0 g (All-tail (λ (x : SavedFact). P (Some (Ok x))) fact facts each) commits.2
      (commit_rests seen may_leave moment left_since faults first P fact f commits.0 (All-head (λ (x : SavedFact). P (Some (Ok x))) fact facts each) commits.1 rests)

  -- the opened file of facts rests
  opened_rests : (d : D) (bytes : List ℕ) (file : FactFile D) (P : Option (Result SavedFact FactError) → Type 0) → P (file_fact bytes) → IsAtRest seen may_leave file.slots × (file_kept file ≡ file_fact bytes) → LeavesOnly moment left_since d file.slots.disk (may_leave d)
      → Rests seen may_leave moment left_since faults d P file
  opened_rests d bytes file P found held moments = record {
    at_rest = held.0;
    kept = subst P (sym held.1) found;
    moments = weaker moment left_since d file.slots.disk (may_leave d) (λ (c : List ℕ). may_leave d c ⊎ P (file_fact c)) (λ c left. inl left) moments;
  }

  -- what follows of a disk of facts that told its bytes, from the file that was opened on it
  facts_told : (disks : Disks D) (first : OnDisks D) (file : FactFile D) (Q : D → List ℕ → Type 0)
      → ((d : D) (bytes : List ℕ) → IsAtRest seen may_leave file.slots × (file_kept file ≡ file_fact bytes) → LeavesOnly moment left_since d file.slots.disk (may_leave d) → Q d bytes) → Opened seen may_leave moment left_since faults disks first file
      → Of disks.facts (λ d. Told (seen d) (Q d))
  facts_told disks first file Q less opened =
      of_both disks.facts (FileOpened file) (λ (d : D). LeavesOnly moment left_since d file.slots.disk (may_leave d)) (λ (d : D). Told (seen d) (Q d))
      (λ d known moments. told_less (seen d) (λ (bytes : List ℕ). IsAtRest seen may_leave file.slots × (file_kept file ≡ file_fact bytes)) (Q d) (λ bytes held. less d bytes held moments) known.0)
      opened.facts opened.moments

  -- a file at rest
  rests_left : (d : D) (file : FactFile D) (P R : Option (Result SavedFact FactError) → Type 0) → Rests seen may_leave moment left_since faults d P file → R (file_kept file) → LeavesFacts may_leave moment left_since d file.slots.disk R P
  rests_left d file P R rests here = record {
    at_end = λ c left. subst R (sym (crash_leaves seen may_leave moment left_since faults d P file rests.at_rest c left)) here;
    any_moment = rests.moments;
  }

  start_left : (disks : Disks D) (first : OnDisks D) (file : FactFile D) → Opened seen may_leave moment left_since faults disks first file → FactsLeft seen may_leave moment left_since faults disks file.slots.disk (λ found now. now ≡ found) (λ found now. now ≡ found)
  start_left disks first file opened =
      facts_told disks first file (λ (d : D) (bytes : List ℕ). LeavesFacts may_leave moment left_since d file.slots.disk (λ now. now ≡ file_fact bytes) (λ now. now ≡ file_fact bytes))
      (λ d bytes held moments. rests_left d file (λ now. now ≡ file_fact bytes) (λ now. now ≡ file_fact bytes) (opened_rests d bytes file (λ now. now ≡ file_fact bytes) refl held moments) held.1) opened

  -- a start that was stopped by a fault of the stores
  start_cause : (view : List ℕ) (disks : Disks D) (first end : OnDisks D) (file : FactFile D) → Opened seen may_leave moment left_since faults disks first file → RanInto Does Refuses statuses.StoreFault (start_of served_mode view) first end → IsStartCause faults disks (disks_under end.0 file) file
  start_cause view disks first end file opened into =
      from_disks disks first end file file (IsBadIn file) ((why : FactError) × IsBadIn file why) opened (λ why bad. (why, bad)) (stopped_caused seen faults (IsBadIn file) (start_of served_mode view) first [] into.error end into.notes into.ran (opened_honest disks first file opened) into.is)

  -- the peer did not start
  pub unstarted : (w : PeerWords) (disks : Disks D) (first end : OnDisks D) (file : FactFile D) (e : ServeError) → Opened seen may_leave moment left_since faults disks first file → RanInto Does Refuses (status_of e) (start_of served_mode w.view) first end
      → Unstarted seen may_leave moment left_since faults w (status_of e) disks (disks_under end.0 file)
  unstarted w disks first end file serves.Store opened into = record { first = first; file = file; opened = opened; end = end; stops = into; disks_end = refl; facts = start_left disks first file opened; cause = start_cause w.view disks first end file opened into }
  unstarted w disks first end file serves.Link opened into = absurd (never_link into.error into.is)
  unstarted w disks first end file serves.Memory opened into = record { first = first; file = file; opened = opened; end = end; stops = into; disks_end = refl; facts = start_left disks first file opened; cause = tt }

  -- what the start had loaded is a fact, or nothing
  started_honest : (view : List ℕ) (s t : OnDisks D) (x : State) → Runs Does Refuses (start_of served_mode view) s [] (Finished x nothing) t [] → IsHonest NoReason t
  started_honest view s t x ran = elim ran [
    | inl cut ↦ let none : ⊥ = grind (arith, cut.0) in absurd none
    | inr (inl off) ↦ let none : ⊥ = grind (arith, off.2) in absurd none
    | inr (inr on) ↦
        let later : Later faults NoReason on.1 t =
        run_keeps Does Refuses (Later faults NoReason on.1) (on_later NoReason on.1) (opened_plan served_mode view on.0) on.1 [] x nothing t [] on.3 (later_none faults NoReason on.1 (loaded_honest seen faults NoReason s on.1 on.0 on.2)) in
        later.honest
  ]

  module _ (w : PeerWords) (disks : Disks D) where
    -- from the opened stores no count decreased
    later_from : (x y : State) (s t : OnDisks D) (file : FactFile D) (deeds : List Deed) → (began : Began seen may_leave moment left_since faults w disks x s file) → Did Does Refuses w.me x s deeds y t → Later faults NoReason began.first t
    later_from x y s t file deeds began did =
        let start : Later faults (IsBadIn file) began.first s =
        run_keeps Does Refuses (Later faults (IsBadIn file) began.first) (on_later (IsBadIn file) began.first) (start_of served_mode w.view) began.first [] x nothing s [] began.starts (later_none faults (IsBadIn file) began.first (opened_honest disks began.first file began.opened)) in
        did_keeps Does Refuses (Later faults NoReason began.first) (on_later NoReason began.first) w.me deeds x y s t did
        (record { objects = start.objects; nodes = start.nodes; honest = started_honest w.view began.first s x began.starts })

    stopped_step_cause : (x y : State) (s m t : OnDisks D) (file kept last : FactFile D) (deeds : List Deed) (event : Event) → (began : Began seen may_leave moment left_since faults w disks x s file) → Did Does Refuses w.me x s deeds y m
        → RanInto Does Refuses statuses.StoreFault (step_of w.me event y) m t → IsStoreCause faults disks (disks_under t.0 last) kept last
    stopped_step_cause x y s m t file kept last deeds event began did into =
        let later = later_from x y s m file deeds began did in
        from_disks disks began.first t file last NoReason (IsSpent kept last) began.opened (λ why bad. absurd bad)
        (caused_later faults NoReason began.first m t later (stopped_caused seen faults NoReason (step_of w.me event y) m [] into.error t into.notes into.ran later.honest into.is))

    -- the steps kept what held of the opened stores
    all_keep : (I : OnDisks D → Type 0) → ((s t : OnDisks D) (call : Call) (r : AnswerOf call) → Does s call r t → I s → I t) → (x y : State) (s t : OnDisks D) (file : FactFile D) (deeds : List Deed)
        → (began : Began seen may_leave moment left_since faults w disks x s file) → Did Does Refuses w.me x s deeds y t → I began.first → I t
    all_keep I keeps x y s t file deeds began did holds =
        did_keeps Does Refuses I keeps w.me deeds x y s t did (run_keeps Does Refuses I keeps (start_of served_mode w.view) began.first [] x nothing s [] began.starts holds)

    nodes_left : (x y : State) (s t : OnDisks D) (file : FactFile D) (deeds : List Deed) → (began : Began seen may_leave moment left_since faults w disks x s file) → Did Does Refuses w.me x s deeds y t
        → (held : Held) → HoldsNodes seen began.first.0.tree.store held → KeepsNodes seen t.0.tree.store
    nodes_left x y s t file deeds began did held holds =
        nodes_kept seen t.0.tree.store
        (all_keep (λ (k : OnDisks D). HasNodes seen k.0.tree.store) (keeps_nodes seen faults) x y s t file deeds began did (record { held = held; holds = holds; clean = began.opened.clean.0 }))

    objects_left : (x y : State) (s t : OnDisks D) (file : FactFile D) (deeds : List Deed) → (began : Began seen may_leave moment left_since faults w disks x s file) → Did Does Refuses w.me x s deeds y t
        → (held : Entries) → HoldsObjects seen began.first.0.backend held → KeepsObjects seen t.0.backend
    objects_left x y s t file deeds began did held holds =
        objects_kept seen t.0.backend
        (all_keep (λ (k : OnDisks D). HasObjects seen k.0.backend) (keeps_objects seen faults) x y s t file deeds began did (record { held = held; holds = holds; clean = began.opened.clean.1 }))

    -- of a disk that told its bytes
    of_told : (o : Option D) (Known : D → Type 0) (P : List ℕ → Type 0) (Q : D → List ℕ → Type 0) → ((d : D) → Known d → Told (seen d) P) → ((d : D) (file : List ℕ) → P file → Q d file) → Of o Known → Of o (λ d. Told (seen d) (Q d))
    of_told None Known P Q known less of = absurd of
    of_told (Some d) Known P Q known less of = told_less (seen d) P (Q d) (less d) (known d of)

    module _ {L T : Type 0} (sent : L → Option (List (ℕ × List ℕ))) (given : L → Option (List (Option (List ℕ)))) (link_faults : L → ℕ) (coming : T → Option (ℕ → Bool)) where
      abbrev Ever : State → OnDisks D → List Deed → List ℕ → Option (Result SavedFact FactError) → Type 0
      Ever x s deeds bytes now = IsFoundOrOfSome seen may_leave moment left_since faults sent given link_faults coming w x s deeds (file_fact bytes) now

      -- the file of facts rests after the commits that were made
      lasting_rests : (x : State) (s : OnDisks D) (deeds : List Deed) (f g : FactFile D) (d : D) (bytes : List ℕ) → Durable seen may_leave moment left_since faults w.me x s deeds f g
          → IsAtRest seen may_leave f.slots × (file_kept f ≡ file_fact bytes) → LeavesOnly moment left_since d f.slots.disk (may_leave d) → Rests seen may_leave moment left_since faults d (Ever x s deeds bytes) g
      lasting_rests x s deeds f g d bytes lasts held moments =
          all_rest d (Ever x s deeds bytes) lasts.facts f g
          (All-weaker (λ (fact : SavedFact). IsFactOfSome Does Refuses w.me x s deeds (Some (Ok fact))) (λ (fact : SavedFact). Ever x s deeds bytes (Some (Ok fact))) (λ fact one. inr one) lasts.facts lasts.each)
          lasts.commits (opened_rests d bytes f (Ever x s deeds bytes) (inl refl) held moments)

      pub served : (disks_after : Disks D) (a b : Server D) (l m : L) (s t : T) (turns : List Turn) → disks_after ≡ disks_under b.peer.machine.stores b.facts → length turns ≡ w.turns → a.unsent.items ≡ []
          → Began seen may_leave moment left_since faults w disks a.peer.machine.state (a.peer.machine.stores, record {}) a.facts → AllMade seen may_leave moment left_since faults sent given coming w a b l m s t turns
          → Served seen may_leave moment left_since faults sent given link_faults coming w disks disks_after l m s t turns
      served disks_after a b l m s t turns closed all unsent began made =
          let deeds : List Deed = made.made.took.deeds in
          let x : State = a.peer.machine.state in
          let y : State = b.peer.machine.state in
          let p : OnDisks D = (a.peer.machine.stores, record {}) in
          let q : OnDisks D = (b.peer.machine.stores, record {}) in
          record {
            all = all;
            first = record { state = x; stores = p; link = l };
            link_first = refl;
            first_file = a.facts;
            began = began;
            end = record { state = y; stores = q; link = m };
            end_file = b.facts;
            made = record {
              took = record {
                deeds = deeds;
                are = made.made.took.are;
                went = record { did = made.made.took.went.did; looked = made.made.took.went.looked; sends = all_given sent w.me a b l m (frames_in w.me deeds) unsent made.none made.made.took.went.sends };
              };
              ticks = made.made.ticks;
            };
            link_end = refl;
            disks_end = closed;
            facts =
                facts_told disks began.first a.facts
                (λ (d : D) (bytes : List ℕ). LeavesFacts may_leave moment left_since d b.facts.slots.disk (λ now. now ≡ Some (Ok (saved_by y))) (Ever x p deeds bytes))
                (λ d bytes held moments. rests_left d b.facts (Ever x p deeds bytes) (λ now. now ≡ Some (Ok (saved_by y))) (lasting_rests x p deeds a.facts b.facts d bytes made.durable held moments) made.newest) began.opened;
            nodes =
                of_told disks.nodes (NodesOpened began.first) (λ (bytes : List ℕ). HoldsNodes seen began.first.0.tree.store (nodes_of bytes)) (λ (d : D) (bytes : List ℕ). KeepsNodes seen q.0.tree.store) (λ d known. known.0)
                (λ d bytes holds. nodes_left x y p q a.facts deeds began made.made.took.went.did (nodes_of bytes) holds) began.opened.nodes;
            objects =
                of_told disks.objects (ObjectsOpened began.first) (λ (bytes : List ℕ). HoldsObjects seen began.first.0.backend (entries_of bytes)) (λ (d : D) (bytes : List ℕ). KeepsObjects seen q.0.backend) (λ d known. known.0)
                (λ d bytes holds. objects_left x y p q a.facts deeds began made.made.took.went.did (entries_of bytes) holds) began.opened.objects;
          }

      -- the fact of the durable steps is in the file
      durable_kept : (kept : List Deed) (z : State) (f m : FactFile D) (found : Option (Result SavedFact FactError)) → file_kept f ≡ found → ((kept ≡ []) × (m ≡ f)) ⊎ (file_kept m ≡ Some (Ok (saved_by z)))
          → IsDurable seen may_leave moment left_since faults sent given link_faults coming w kept z found (file_kept m)
      durable_kept kept z f m found first (inl none) = inl (none.0, ap file_kept none.1 ∙ first)
      durable_kept kept z f m found first (inr is) = inr is

      file_ends : (place : Place) (status : Status) (fact : SavedFact) (m g : FactFile D) → FileEnds seen may_leave moment left_since faults sent given coming w place status fact m g
          → (g ≡ m) ⊎ FileRefuses seen may_leave moment left_since faults m (Save fact) keeps.Failed g
      file_ends Committing statuses.StoreFault fact m g ends = inr ends
      file_ends place status fact m g ends = inl ends

      old_or_late : (R : Option (Result SavedFact FactError) → Type 0) (fact : SavedFact) (old now : Option (Result SavedFact FactError)) → R old → IsOldOrNew old fact now → R now ⊎ (now ≡ Some (Ok fact))
      old_or_late R fact old now here (inl is) = inl (subst R (sym is) here)
      old_or_late R fact old now here (inr is) = inr is

      -- what a crash leaves at a fault
      fault_left : (d : D) (m g : FactFile D) (fact : SavedFact) (P R : Option (Result SavedFact FactError) → Type 0) → P (Some (Ok fact)) → Rests seen may_leave moment left_since faults d P m → R (file_kept m)
          → (g ≡ m) ⊎ FileRefuses seen may_leave moment left_since faults m (Save fact) keeps.Failed g → LeavesFacts may_leave moment left_since d g.slots.disk (λ now. R now ⊎ (now ≡ Some (Ok fact))) P
      fault_left d m g fact P R one rests here (inl same) =
          subst (λ (k : FactFile D). LeavesFacts may_leave moment left_since d k.slots.disk (λ now. R now ⊎ (now ≡ Some (Ok fact))) P) (sym same)
          (rests_left d m P (λ now. R now ⊎ (now ≡ Some (Ok fact))) rests (inl here))
      fault_left d m g fact P R one rests here (inr refused) =
          let left = refused_left seen may_leave moment left_since faults d P counts_now fact m g one refused.2 rests in
          record { at_end = λ c may. old_or_late R fact (file_kept m) (file_fact c) here (left.at_end c may); any_moment = left.moments }

      -- why the stores failed
      fault_cause : (place : Place) (x : State) (p : OnDisks D) (f m g : FactFile D) (deeds : List Deed) (between b : Point (OnDisks D) (Line L)) → (began : Began seen may_leave moment left_since faults w disks x p f) → Did Does Refuses w.me x p deeds between.state between.stores
          → faults m.slots.disk ≡ faults f.slots.disk → FellAt Does Refuses (posted sent w.me) (looked given) w.me w place statuses.StoreFault between b
          → FileEnds seen may_leave moment left_since faults sent given coming w place statuses.StoreFault (saved_by between.state) m g → IsStoreCause faults disks (disks_under b.stores.0 g) m g
      fault_cause Looking x p f m g deeds between b began did good fell ends = absurd fell
      fault_cause (Looked look) x p f m g deeds between b began did good fell ends = event_cause (event_of w look) fell
        where
          event_cause : (o : Option Event) → Fell Does Refuses (posted sent w.me) (looked given) w.me statuses.StoreFault o between b → IsStoreCause faults disks (disks_under b.stores.0 g) m g
          event_cause None fell = absurd fell
          event_cause (Some event) fell = stopped_step_cause x between.state p between.stores b.stores f m g deeds event began did fell.ran
      fault_cause (Ticked look) x p f m g deeds between b began did good fell ends = stopped_step_cause x between.state p between.stores b.stores f m g deeds happenings.Tick began did fell.ran
      fault_cause Committing x p f m g deeds between b began did good fell ends = from_save disks began.first b.stores f m g began.opened good ends.0

      pub interrupted : (disks_after : Disks D) (e : ServeError) (a b : Server D) (l m : L) (s t : T) (turns : List Turn) (place : Place) → disks_after ≡ disks_under b.peer.machine.stores b.facts → length turns + begun_at place ≤ w.turns → a.unsent.items ≡ []
          → Began seen may_leave moment left_since faults w disks a.peer.machine.state (a.peer.machine.stores, record {}) a.facts → BrokeAt seen may_leave moment left_since faults sent given coming w (status_of e) a b l m s t turns place
          → (e ≡ serves.Link → Rose (link_faults l) (link_faults m)) → Interrupted seen may_leave moment left_since faults sent given link_faults coming w (status_of e) disks disks_after l m s t turns place
      interrupted disks_after e a b l m s t turns place closed fewer unsent began broke link =
          let x : State = a.peer.machine.state in
          let p : OnDisks D = (a.peer.machine.stores, record {}) in
          let y : State = broke.broke.broke.between.state in
          let deeds : List Deed = broke.broke.broke.took.deeds in
          let lasts = broke.durable in
          record {
            fewer = fewer;
            first = point a l;
            first_line = ap (λ (os : List Outbox). let it : Line L = record { link = l; unsent = os } in it) unsent;
            first_file = a.facts;
            began = began;
            end = point b m;
            end_file = b.facts;
            broke = broke.broke;
            link_end = refl;
            disks_end = closed;
            file = broke.file;
            durable = lasts;
            few = broke.few;
            saves = broke.saves;
            file_end = broke.end;
            sends = broke.sends;
            facts =
                facts_told disks began.first a.facts
                (λ (d : D) (bytes : List ℕ). LeavesFacts may_leave moment left_since d b.facts.slots.disk
                (λ now. IsDurable seen may_leave moment left_since faults sent given link_faults coming w lasts.kept lasts.state (file_fact bytes) now ⊎ (now ≡ Some (Ok (saved_by y)))) (Ever x p deeds bytes))
                (λ d bytes held moments.
                fault_left d broke.file b.facts (saved_by y) (Ever x p deeds bytes) (IsDurable seen may_leave moment left_since faults sent given link_faults coming w lasts.kept lasts.state (file_fact bytes))
                (inr (of_all seen may_leave moment left_since faults w.me x p deeds y broke.broke.broke.between.stores broke.broke.broke.took.went.did)) (lasting_rests x p deeds a.facts broke.file d bytes lasts held moments)
                (durable_kept lasts.kept lasts.state a.facts broke.file (file_fact bytes) held.1 lasts.newest) (file_ends place (status_of e) (saved_by y) broke.file b.facts broke.end)) began.opened;
            cause = subst (λ (after : Disks D). IsCause (IsStoreCause faults disks after broke.file b.facts) (Rose (link_faults l) (link_faults m)) (status_of e)) (sym closed) (cause_of e broke link);
          }
        where
          cause_of : (e : ServeError) → (broken : BrokeAt seen may_leave moment left_since faults sent given coming w (status_of e) a b l m s t turns place) → (e ≡ serves.Link → Rose (link_faults l) (link_faults m))
              → IsCause (IsStoreCause faults disks (disks_under b.peer.machine.stores b.facts) broken.file b.facts) (Rose (link_faults l) (link_faults m)) (status_of e)
          cause_of serves.Store broken link =
              fault_cause place a.peer.machine.state (a.peer.machine.stores, record {}) a.facts broken.file b.facts broken.broke.broke.took.deeds broken.broke.broke.between (point b m) began broken.broke.broke.took.went.did
              (commits_good broken.durable.facts a.facts broken.file broken.durable.commits) broken.broke.broke.fell broken.end
          cause_of serves.Link broken link = link refl
          cause_of serves.Memory broken link = tt
