-- The only peer of an ensemble, which served once or twice: what it lived is an execution that meets the premises.
use Rattle.std.specs.Prelude.{◌≡◌, ◌⊎◌, ◌<◌, ◌^◌, ℕ, Bool, List, [], ◌∷◌, length, map, Option, None}
use Rattle.ens_base.specs.Lists.{AreDistinct}
use Rattle.ens_base.specs.declared.peer_words.PeerWords.{PeerWords}
use Rattle.fact_store.specs.Keeping.{file_fact}
use Rattle.stored_formats.specs.declared.saved.SavedFact.{SavedFact}
use Rattle.process_laws.specs.Moments.{calls_of, run_of}
use Rattle.process_laws.specs.Premises.{AreFew}
use Rattle.peer_server.specs.declared.disks.Disks.{Disks}
use Rattle.register_model.specs.declared.call.Call.{Call}
use Rattle.process_laws.specs.Served.{HasLived}
use Rattle.peer_turns.specs.Deeds.{Deed}
use Rattle.world_spec.specs.Held.{HasNoClash}
use Rattle.world_stores.specs.Facts.{kept_of}
use Rattle.process_laws.specs.Acts.{Execution, Life, acts_of, group_of, steps}
use Rattle.process_laws.specs.Joined.{AreOnDisks}
use Rattle.process_laws.specs.JoinedServed.{AreBytes, Tells, found_in}

-- these lives of the only peer, one after another, and nothing else
abbrev pub alone : List Life → Execution
alone lives = record { peers = 1; view = 1 ∷ []; lives = λ p. lives; acts = acts_of 1 lives }

-- what a lone peer cannot know: that its clients call it few times, on few keys, and repeat no id, and that no two
-- strings have one MD5
pub record MayBeLegal (e : Execution) : Type 0 where
  pub few_acts : length e.acts < 2 ^ 64
  pub few_calls : AreFew (calls_of (group_of e))
  pub distinct_calls : AreDistinct (map (λ (c : Call). c.id) (calls_of (group_of e)))
  pub no_clash : HasNoClash (run_of (group_of e)).hashed

module _ {D L T : Type 0} (seen : D → Option (List ℕ)) (may_leave : D → List ℕ → Type 0) (moment : D → ℕ) (left_since : D → ℕ → List ℕ → Type 0) (faults : D → ℕ)
    (sent : L → Option (List (ℕ × List ℕ))) (given : L → Option (List (Option (List ℕ)))) (link_faults : L → ℕ) (coming : T → Option (ℕ → Bool)) where
  -- a process of the only peer, on disks that told these bytes, ended as `serve` promises
  pub record Process : Type 0 where
    pub w : PeerWords
    pub disks : Disks D
    pub disks_after : Disks D
    pub link : L
    pub link_after : L
    pub served : HasLived seen may_leave moment left_since faults sent given link_faults coming w disks disks_after link link_after
    pub facts : List ℕ
    pub nodes : List ℕ
    pub objects : List ℕ
    pub facts_tell : Tells seen disks.facts facts
    pub nodes_tell : Tells seen disks.nodes nodes
    pub objects_tell : Tells seen disks.objects objects
    pub bytes : AreBytes served.on.life.looks
    pub me : w.me ≡ 1
    pub peers : w.peers ≡ 1
    pub view : w.view ≡ 1 ∷ []

  -- its life, if these steps count and it found this fact
  abbrev pub life_of : Process → Option SavedFact → List Deed → Life
  life_of s fact deeds = record { found = found_in fact s.nodes s.objects; stages = steps deeds }

  -- these lives meet all premises of which a lone peer can know
  abbrev pub MeetAll : List Life → Type 0
  MeetAll lives = MayBeLegal (alone lives) → AreOnDisks seen faults (alone lives)

  -- One process, on a disk of facts that held none: the steps of which others know.
  abbrev pub ServedOnce : Type 0
  ServedOnce = (s : Process) → file_fact s.facts ≡ None → MeetAll (life_of s None s.served.kept ∷ [])

  -- Two processes: those steps of the first, or all of them, and then the second, with the fact that it found.
  pub record MeetBoth (s t : Process) : Type 0 where
    pub deeds : List Deed
    pub steps : (deeds ≡ s.served.kept) ⊎ (deeds ≡ s.served.on.life.deeds)
    pub fact : Option SavedFact
    pub is : file_fact t.facts ≡ kept_of fact
    pub both : MeetAll (life_of s None deeds ∷ life_of t fact t.served.kept ∷ [])

  -- The second one served on what a crash left of the disk of the facts, and on any nodes and objects; if no fact
  -- was left, it counts as the first.
  abbrev pub ServedTwice : Type 0
  ServedTwice = (s t : Process) → file_fact s.facts ≡ None → may_leave s.served.on.end_file.slots.disk t.facts → MeetBoth s t ⊎ MeetAll (life_of t None t.served.kept ∷ [])
