-- Any number of processes of several peers, of each of which is known what `serve` promises: what they lived, in any
-- common order, is an execution that meets the premises.
use Rattle.std.proofs.Common.{inl, inr}
use Rattle.std.specs.Prelude.{◌≡◌, ◌⊎◌, ◌<◌, ◌≤◌, ◌^◌, ℕ, Bool, List, [], ◌∷◌, length, map, Option, None}
use Rattle.ens_base.specs.Lists.{AreDistinct}
use Rattle.ens_base.specs.View.{IsView}
use Rattle.ens_base.specs.declared.peer_words.PeerWords.{PeerWords}
use Rattle.ens_base.specs.declared.status.Status.{Status}
use Rattle.fact_store.specs.Keeping.{file_fact}
use Rattle.stored_formats.specs.declared.saved.SavedFact.{SavedFact}
use Rattle.process_laws.specs.Moments.{calls_of, run_of}
use Rattle.process_laws.specs.Premises.{AreFew}
use Rattle.peer_server.specs.DiskPeers.{Of}
use Rattle.peer_server.specs.Starting.{Refused}
use Rattle.peer_server.specs.declared.disks.Disks.{Disks}
use Rattle.register_model.specs.declared.call.Call.{Call}
use Rattle.process_laws.specs.Served.{HasLived}
use Rattle.peer_turns.specs.Deeds.{Deed}
use Rattle.world_spec.specs.Held.{HasNoClash}
use Rattle.world_stores.specs.Facts.{kept_of}
use Rattle.process_laws.specs.Acts.{Act, Execution, Life, group_of, steps}
use Rattle.process_laws.specs.Joined.{AreInOrder, AreOnDisks, ArePutOut, fact_on_disk}
use Rattle.process_laws.specs.JoinedServed.{AreBytes, IsLifeOf, Tells, found_in}

-- What is assumed of the network, of the clients and of MD5: each message that comes was put out; the calls are few, and
-- repeat no id; no two strings that are hashed have one MD5.
pub record IsAssumed (e : Execution) : Type 0 where
  pub few_acts : length e.acts < 2 ^ 64
  pub few_calls : AreFew (calls_of (group_of e))
  pub messages_were_sent : ArePutOut [] e.acts
  pub distinct_calls : AreDistinct (map (λ (c : Call). c.id) (calls_of (group_of e)))
  pub no_clash : HasNoClash (run_of (group_of e)).hashed

module _ {D L T : Type 0} (seen : D → Option (List ℕ)) (may_leave : D → List ℕ → Type 0) (moment : D → ℕ) (left_since : D → ℕ → List ℕ → Type 0) (faults : D → ℕ)
    (sent : L → Option (List (ℕ × List ℕ))) (given : L → Option (List (Option (List ℕ)))) (link_faults : L → ℕ) (coming : T → Option (ℕ → Bool)) where
  -- what the words say and the disks of a process told at its start
  pub record Start : Type 0 where
    pub w : PeerWords
    pub disks : Disks D
    pub link : L
    pub facts : List ℕ
    pub nodes : List ℕ
    pub objects : List ℕ
    pub facts_tell : Tells seen disks.facts facts
    pub nodes_tell : Tells seen disks.nodes nodes
    pub objects_tell : Tells seen disks.objects objects

  -- it took some steps, as `serve` promises, and its looks gave bytes
  pub record Lived (s : Start) : Type 0 where
    pub disks_after : Disks D
    pub link_after : L
    pub served : HasLived seen may_leave moment left_since faults sent given link_faults coming s.w s.disks disks_after s.link link_after
    pub bytes : AreBytes served.on.life.looks

  -- It made no turn, as `serve` promises. The disk of its facts was at rest when it started.
  pub record WasRefused (s : Start) : Type 0 where
    pub disks_after : Disks D
    pub status : Status
    pub refused : Refused seen may_leave moment left_since faults s.w status s.disks disks_after
    pub rests : Of s.disks.facts (λ d. (file : List ℕ) → may_leave d file → file_fact file ≡ file_fact s.facts)

  -- It was killed, and `serve` promises nothing. It is assumed that these are its steps of which others know, that
  -- they are a life, and that the kill left the fact of that life; or that nobody knows of a step, and the kill left
  -- the fact as it was.
  pub record WasKilled (s : Start) : Type 0 where
    pub fact : Option SavedFact
    pub is : file_fact s.facts ≡ kept_of fact
    pub deeds : List Deed
    pub lived : IsLifeOf seen faults s.w (found_in fact s.nodes s.objects) deeds
    pub file : List ℕ
    pub left : (file_fact file ≡ fact_on_disk lived.left) ⊎ ((deeds ≡ []) × (file_fact file ≡ file_fact s.facts))

  abbrev pub Fate : Start → Type 0
  Fate s = Lived s ⊎ (WasRefused s ⊎ WasKilled s)

  -- a process of the peer in an ensemble of so many peers that opens in the view
  pub record Process (peers : ℕ) (view : List ℕ) (p : ℕ) : Type 0 where
    pub start : Start
    pub fate : Fate start
    pub me : start.w.me ≡ p
    pub peers_are : start.w.peers ≡ peers
    pub view_is : start.w.view ≡ view

  -- what became of the process left this in its file of facts, by a crash or not
  abbrev pub Leaves : (s : Start) → Fate s → List ℕ → Type 0
  Leaves s (inl l) file = may_leave l.served.on.end_file.slots.disk file
  Leaves s (inr (inl r)) file = Of r.disks_after.facts (λ d. may_leave d file)
  Leaves s (inr (inr k)) file = file ≡ k.file

  module _ (peers : ℕ) (view : List ℕ) (p : ℕ) where
    -- Each process found in its file of facts what the one before it left there.
    abbrev pub AreAfter : Process peers view p → List (Process peers view p) → Type 0
    AreAfter s [] = Unit {0}
    AreAfter s (t ∷ later) = Leaves s.start s.fate t.start.facts × AreAfter t later

    -- The first found no fact. Of nodes and objects nothing is assumed.
    abbrev pub AreInTurn : List (Process peers view p) → Type 0
    AreInTurn [] = Unit {0}
    AreInTurn (s ∷ later) = (file_fact s.start.facts ≡ None) × AreAfter s later

    -- the life of some steps of a process, with the fact that it found
    pub record IsOf (s : Start) (deeds : List Deed) (l : Life) : Type 0 where
      pub fact : Option SavedFact
      pub found : file_fact s.facts ≡ kept_of fact
      pub is : l ≡ record { found = found_in fact s.nodes s.objects; stages = steps deeds }

    -- The life of a process: of its steps of which others know, or of all its steps.
    abbrev pub IsLife : (s : Start) → Fate s → Life → Type 0
    IsLife s (inl l) life = IsOf s l.served.kept life ⊎ IsOf s l.served.on.life.deeds life
    IsLife s (inr (inl r)) life = ⊥
    IsLife s (inr (inr k)) life = IsOf s k.deeds life

    -- others know of no step of the process
    abbrev pub IsUnknown : (s : Start) → Fate s → Type 0
    IsUnknown s (inl l) = l.served.kept ≡ []
    IsUnknown s (inr (inl r)) = Unit {0}
    IsUnknown s (inr (inr k)) = k.deeds ≡ []

    -- these are the lives of the processes, in their order, but for some of which others know no step
    abbrev pub AreLivesOf : List (Process peers view p) → List Life → Type 0
    AreLivesOf [] lives = lives ≡ []
    AreLivesOf (s ∷ later) lives = (IsUnknown s.start s.fate × AreLivesOf later lives) ⊎ ((life : Life) × (rest : List Life) × (lives ≡ life ∷ rest) × IsLife s.start s.fate life × AreLivesOf later rest)

  -- These processes have lives. In whatever order they lived them, the execution meets the premises, if those of the
  -- network, the clients and MD5 hold.
  pub record Join (peers : ℕ) (view : List ℕ) (processes : (p : ℕ) → List (Process peers view p)) : Type 0 where
    pub lives : ℕ → List Life
    pub are : (p : ℕ) → AreLivesOf peers view p (processes p) (lives p)
    pub meet : (acts : List Act) → let e : Execution = record { peers = peers; view = view; lives = lives; acts = acts } in AreInOrder e → IsAssumed e → AreOnDisks seen faults e

  -- so it is with all processes that follow one another on their disks
  abbrev pub ServedPeersJoin : Type 0
  ServedPeersJoin = (peers : ℕ) (view : List ℕ) → peers ≤ 31 → IsView view → (processes : (p : ℕ) → List (Process peers view p)) → ((p : ℕ) → AreInTurn peers view p (processes p)) → Join peers view processes
