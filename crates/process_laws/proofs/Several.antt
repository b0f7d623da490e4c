-- The processes of several peers have lives, and these make an execution that meets the premises.
use Rattle.std.proofs.Common.{◌≡◌, ◌⊎◌, ◌≤◌, ℕ, Bool, List, [], ◌∷◌, Option, None, Some, refl, sym, ap, ◌∙◌, subst, inl, inr}
use Rattle.process_laws.specs.Memory.{StandsFor}
use Rattle.ens_base.specs.View.{IsView}
use Rattle.fact_store.specs.Keeping.{file_fact}
use Rattle.stored_formats.specs.declared.saved.SavedFact.{SavedFact}
use Rattle.peer_server.specs.Commits.{LeavesFacts}
use Rattle.peer_server.specs.DiskPeers.{Of, disks_do, disks_refuse}
use Rattle.peer_server.specs.Faults.{Between}
use Rattle.peer_server.specs.Starting.{Refused, Unstarted}
use Rattle.peer_server.specs.declared.disks.Disks.{Disks}
use Rattle.peer_turns.specs.Deeds.{Deed}
use Rattle.world_stores.specs.Facts.{kept_of}
use Rattle.process_laws.specs.Acts.{Life, steps}
use Rattle.process_laws.specs.Joined.{AreSpoiled, fact_on_disk}
use Rattle.process_laws.specs.Lives.{AreLater, AreLives, FactRead, HasLived}
use Rattle.process_laws.specs.Processes.{AreAfter, AreInTurn, AreLivesOf, Fate, IsLife, IsOf, IsUnknown, Join, Leaves, Lived, Process, ServedPeersJoin, Start, WasKilled, WasRefused}
use Rattle.process_laws.specs.JoinedServed.{IsLifeOf, MayBeJoined, found_in}
use Rattle.process_laws.proofs.Acting.{kept_same}
use Rattle.process_laws.proofs.Serving.{known_of, of_some, served_join}

module _ {D L T : Type 0} (seen : D → Option (List ℕ)) (may_leave : D → List ℕ → Type 0) (moment : D → ℕ) (left_since : D → ℕ → List ℕ → Type 0) (faults : D → ℕ)
    (sent : L → Option (List (ℕ × List ℕ))) (given : L → Option (List (Option (List ℕ)))) (link_faults : L → ℕ) (coming : T → Option (ℕ → Bool)) where
  abbrev Begun : Type 0
  Begun = Start seen may_leave moment left_since faults sent given link_faults coming

  abbrev DidLive : Begun → Type 0
  DidLive = Lived seen may_leave moment left_since faults sent given link_faults coming

  abbrev DidNot : Begun → Type 0
  DidNot = WasRefused seen may_leave moment left_since faults sent given link_faults coming

  abbrev DidDie : Begun → Type 0
  DidDie = WasKilled seen may_leave moment left_since faults sent given link_faults coming

  abbrev LifeOf : (s : Begun) → Option SavedFact → List Deed → Type 0
  LifeOf s fact deeds = IsLifeOf seen faults s.w (found_in fact s.nodes s.objects) deeds

  -- ## A process that made no turn leaves the fact as it was

  -- what may be left of a disk was there before
  as_before : (fact : FactRead) (file : List ℕ) (o n : Option D) → Between o n (λ d e. (c : List ℕ) → may_leave e c → may_leave d c) → Of n (λ d. may_leave d file) → Of o (λ d. (c : List ℕ) → may_leave d c → file_fact c ≡ fact) → file_fact file ≡ fact
  as_before fact file (Some d) (Some e) between left rests = rests file (between file left)
  as_before fact file (Some d) None between left rests = absurd left
  as_before fact file None n between left rests = absurd rests

  refused_leaves : (s : Begun) (r : DidNot s) (file : List ℕ) → Of r.disks_after.facts (λ d. may_leave d file) → file_fact file ≡ file_fact s.facts
  refused_leaves s r file left = by r.refused
    where
      by_start : Unstarted seen may_leave moment left_since faults s.w r.status s.disks r.disks_after → file_fact file ≡ file_fact s.facts
      by_start u = of_some (file_fact file ≡ file_fact s.facts) s.disks.facts
          (known_of seen (λ d bytes. LeavesFacts may_leave moment left_since d u.file.slots.disk (λ now. now ≡ file_fact bytes) (λ now. now ≡ file_fact bytes)) (λ d. file_fact file ≡ file_fact s.facts) s.disks.facts s.facts s.facts_tell
          (λ d known. known.at_end file (subst (λ (disks : Disks D). Of disks.facts (λ e. may_leave e file)) u.disks_end left)) u.facts)

      by : Refused seen may_leave moment left_since faults s.w r.status s.disks r.disks_after → file_fact file ≡ file_fact s.facts
      by (inl unopened) = as_before (file_fact s.facts) file s.disks.facts r.disks_after.facts unopened.facts left r.rests
      by (inr unstarted) = by_start unstarted

  -- ## The lives of the processes of a peer

  joins : (s : Begun) (l : DidLive s) → MayBeJoined seen may_leave moment left_since faults sent given link_faults coming s.w s.disks l.disks_after s.link l.link_after l.served s.facts s.nodes s.objects
  joins s l = served_join seen may_leave moment left_since faults sent given link_faults coming s.w s.disks l.disks_after s.link l.link_after l.served s.facts s.nodes s.objects s.facts_tell s.nodes_tell s.objects_tell l.bytes

  module _ (peers : ℕ) (view : List ℕ) (p : ℕ) where
    abbrev One : Type 0
    One = Process seen may_leave moment left_since faults sent given link_faults coming peers view p

    abbrev Are : List One → List Life → Type 0
    Are = AreLivesOf seen may_leave moment left_since faults sent given link_faults coming peers view p

    abbrev Of_one : One → Life → Type 0
    Of_one s life = IsLife seen may_leave moment left_since faults sent given link_faults coming peers view p s.start s.fate life

    abbrev Some_of : One → List Deed → Life → Type 0
    Some_of s deeds life = IsOf seen may_leave moment left_since faults sent given link_faults coming peers view p s.start deeds life

    abbrev Later : FactRead → List Life → Type 0
    Later fact lives = AreLater (disks_do seen faults) (disks_refuse seen faults) (AreSpoiled seen) (StandsFor seen) fact_on_disk view p fact lives

    -- the lives of these processes, the first of which finds this fact
    record HaveLives (processes : List One) (fact : FactRead) : Type 0 where
      lives : List Life
      later : Later fact lives
      are : Are processes lives

    -- a process has a life, and those after it have theirs
    one_more : (s : One) (later : List One) (now : FactRead) (fact : Option SavedFact) (deeds : List Deed) (lived : LifeOf s.start fact deeds) → file_fact s.start.facts ≡ now → file_fact s.start.facts ≡ kept_of fact
        → ((life : Life) → Some_of s deeds life → Of_one s life) → HaveLives later (fact_on_disk lived.left) → HaveLives (s ∷ later) now
    one_more s later now fact deeds lived is found of_one rest = record {
      lives = life ∷ rest.lives;
      later = goes lived rest.later;
      are = inr (life, rest.lives, refl, of_one life (record { fact = fact; found = found; is = refl }), rest.are);
    }
      where
        life : Life
        life = record { found = found_in fact s.start.nodes s.start.objects; stages = steps deeds }

        Goes : List ℕ → ℕ → Type 0
        Goes v q = (l : HasLived (disks_do seen faults) (disks_refuse seen faults) (AreSpoiled seen) (StandsFor seen) fact_on_disk v q life) → Later (fact_on_disk l.left) rest.lives → Later now (life ∷ rest.lives)

        goes : Goes s.start.w.view s.start.w.me
        goes = subst (λ (v : List ℕ). Goes v s.start.w.me) (sym s.view_is) (subst (λ (q : ℕ). Goes view q) (sym s.me) (λ l lives. (sym found ∙ is, l, lives)))

    -- nobody knows of a step of a process
    skipped : (s : One) (later : List One) (now : FactRead) → IsUnknown seen may_leave moment left_since faults sent given link_faults coming peers view p s.start s.fate → HaveLives later now → HaveLives (s ∷ later) now
    skipped s later now unknown rest = record { lives = rest.lives; later = rest.later; are = inl (unknown, rest.are) }

    no_more : (now : FactRead) → HaveLives [] now
    no_more now = record { lives = []; later = tt; are = refl }

    abbrev Ends : Begun → Type 0
    Ends s = Fate seen may_leave moment left_since faults sent given link_faults coming s

    abbrev made : (s : Begun) (fate : Ends s) → s.w.me ≡ p → s.w.peers ≡ peers → s.w.view ≡ view → One
    made s fate me many opens = record { start = s; fate = fate; me = me; peers_are = many; view_is = opens }

    -- the last process
    last : (s : Begun) (fate : Ends s) (me : s.w.me ≡ p) (many : s.w.peers ≡ peers) (opens : s.w.view ≡ view) (now : FactRead) → file_fact s.facts ≡ now → HaveLives (made s fate me many opens ∷ []) now
    last s (inl l) me many opens now is = one_more (made s (inl l) me many opens) [] now (joins s l).fact l.served.kept (joins s l).lived is (joins s l).is (λ life of. inl of) (no_more (fact_on_disk (joins s l).lived.left))
    last s (inr (inl r)) me many opens now is = skipped (made s (inr (inl r)) me many opens) [] now tt (no_more now)
    last s (inr (inr k)) me many opens now is = one_more (made s (inr (inr k)) me many opens) [] now k.fact k.deeds k.lived is k.is (λ life of. of) (no_more (fact_on_disk k.lived.left))

    -- a process, and the one after it, which found what this one left
    before : (s : Begun) (fate : Ends s) (me : s.w.me ≡ p) (many : s.w.peers ≡ peers) (opens : s.w.view ≡ view) (t : One) (later : List One) (now : FactRead) → file_fact s.facts ≡ now → Leaves seen may_leave moment left_since faults sent given link_faults coming s fate t.start.facts
        → ((fact : FactRead) → file_fact t.start.facts ≡ fact → HaveLives (t ∷ later) fact) → HaveLives (made s fate me many opens ∷ t ∷ later) now
    before s (inl l) me many opens t later now is left rest = by ((joins s l).at_end t.start.facts left)
      where
        one : One
        one = made s (inl l) me many opens

        by : (file_fact t.start.facts ≡ fact_on_disk (joins s l).lived.left) ⊎ ((file_fact t.start.facts ≡ fact_on_disk (joins s l).whole.left) ⊎ ((l.served.kept ≡ []) × (file_fact t.start.facts ≡ file_fact s.facts))) → HaveLives (one ∷ t ∷ later) now
        by (inl kept) = one_more one (t ∷ later) now (joins s l).fact l.served.kept (joins s l).lived is (joins s l).is (λ life of. inl of) (rest (fact_on_disk (joins s l).lived.left) kept)
        by (inr (inl whole)) = one_more one (t ∷ later) now (joins s l).fact l.served.on.life.deeds (joins s l).whole is (joins s l).is (λ life of. inr of) (rest (fact_on_disk (joins s l).whole.left) whole)
        by (inr (inr none)) = skipped one (t ∷ later) now none.0 (rest now (none.1 ∙ is))
    before s (inr (inl r)) me many opens t later now is left rest = skipped (made s (inr (inl r)) me many opens) (t ∷ later) now tt (rest now (refused_leaves s r t.start.facts left ∙ is))
    before s (inr (inr k)) me many opens t later now is left rest = by k.left
      where
        one : One
        one = made s (inr (inr k)) me many opens

        by : (file_fact k.file ≡ fact_on_disk k.lived.left) ⊎ ((k.deeds ≡ []) × (file_fact k.file ≡ file_fact s.facts)) → HaveLives (one ∷ t ∷ later) now
        by (inl kept) = one_more one (t ∷ later) now k.fact k.deeds k.lived is k.is (λ life of. of) (rest (fact_on_disk k.lived.left) (ap file_fact left ∙ kept))
        by (inr none) = skipped one (t ∷ later) now none.0 (rest now (ap file_fact left ∙ none.1 ∙ is))

    abbrev After : One → List One → Type 0
    After = AreAfter seen may_leave moment left_since faults sent given link_faults coming peers view p

    lives_from : (s : One) (later : List One) (now : FactRead) → file_fact s.start.facts ≡ now → After s later → HaveLives (s ∷ later) now
    lives_from s [] now is after = last s.start s.fate s.me s.peers_are s.view_is now is
    lives_from s (t ∷ later) now is after = before s.start s.fate s.me s.peers_are s.view_is t later now is after.0 (λ fact same. lives_from t later fact same after.1)

    lives_of : (processes : List One) → AreInTurn seen may_leave moment left_since faults sent given link_faults coming peers view p processes → HaveLives processes None
    lives_of [] turn = no_more None
    lives_of (s ∷ later) turn = lives_from s later None turn.0 turn.1

    -- the first of them began without a fact
    as_first : (lives : List Life) → Later None lives → AreLives (disks_do seen faults) (disks_refuse seen faults) (AreSpoiled seen) (StandsFor seen) fact_on_disk view p lives
    as_first [] later = tt
    as_first (l ∷ lives) later = (kept_same l.found.fact None later.0, later.1, later.2)

  -- ## All peers

  module _ (peers : ℕ) (view : List ℕ) (few : peers ≤ 31) (is_view : IsView view) (processes : (p : ℕ) → List (Process seen may_leave moment left_since faults sent given link_faults coming peers view p))
      (turns : (p : ℕ) → AreInTurn seen may_leave moment left_since faults sent given link_faults coming peers view p (processes p)) where
    each : (p : ℕ) → HaveLives peers view p (processes p) None
    each p = lives_of peers view p (processes p) (turns p)

    joined : Join seen may_leave moment left_since faults sent given link_faults coming peers view processes
    joined = record {
      lives = λ p. (each p).lives;
      are = λ p. (each p).are;
      meet = λ acts order assumed. record {
        few_peers = few;
        is_view = is_view;
        few_acts = assumed.few_acts;
        few_calls = assumed.few_calls;
        of_peers = order.of_peers;
        lived = λ p among. as_first peers view p (each p).lives (each p).later;
        in_order = order.in_order;
        messages_were_sent = assumed.messages_were_sent;
        distinct_calls = assumed.distinct_calls;
        no_clash = assumed.no_clash;
      };
    }

  pub peers_join : ServedPeersJoin seen may_leave moment left_since faults sent given link_faults coming
  peers_join = joined
