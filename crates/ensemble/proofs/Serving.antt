-- What a peer prints, and what became of it, for the words that asked for it.
use Rattle.std.proofs.Common.{◌≡◌, ℕ, Bool, List, Option, Result, Ok, Err, refl, inl, inr, sym, subst, ◌∙◌}
use Rattle.std.specs.Io.KnownBytes.{Appends}
use Rattle.ens_base.specs.Causes.{Rose}
use Rattle.ens_base.specs.declared.peer_words.ClusterWords.{ClusterWords}
use Rattle.ens_base.specs.declared.peer_words.PeerWords.{PeerWords}
use Rattle.ens_base.specs.declared.status.Status.{Status}
use Rattle.environment.specs.Written.{AppendsPrefix}
use Rattle.command_line.specs.Forms.{AskFor}
use Rattle.command_line.specs.declared.job.Job.{Job}
use Rattle.command_line.specs.declared.job.Job.TheVariants.{Peer, Cluster, Backup, Restore}
use Rattle.peer_server.specs.Serving.{Ended, Printed}
use Rattle.peer_server.specs.declared.disks.Disks.{Disks}
use Rattle.peer_turns.specs.Turns.{ignored_in, taken_in}
use Rattle.ensemble.proofs.Endings.{asked_one}
use Rattle.ensemble.specs.Peers.{AskForOutside, GivenForOutside, OnOutside}
use Rattle.ensemble.specs.Top.{DidRead, GivenFor, PrintsCounts}
use Rattle.ensemble.specs.declared.arguments.ArgumentsError.{ArgumentsError}

module _ {D L T : Type 0} (seen : D → Option (List ℕ)) (may_leave : D → List ℕ → Type 0) (moment : D → ℕ) (left_since : D → ℕ → List ℕ → Type 0) (faults : D → ℕ)
    (sent : L → Option (List (ℕ × List ℕ))) (given : L → Option (List (Option (List ℕ)))) (link_faults : L → ℕ) (coming : T → Option (ℕ → Bool)) (w : PeerWords)
    (disks disks_after : Disks D) (link link_after : L) (ticker ticker_after : T) where
  -- a peer ends with a line of its own
  pub ended_prints : (status : Status) (text : List ℕ) → Ended seen may_leave moment left_since faults sent given link_faults coming w disks disks_after link link_after ticker ticker_after status text → PrintsCounts w status text
  ended_prints Status.Done text h = (taken_in w h.0, ignored_in w h.0, h.2)
  ended_prints Status.StoreFault text h = h.1
  ended_prints Status.LinkFault text h = h.1
  ended_prints Status.Memory text h = h.1
  ended_prints status text h = absurd h

-- ---- what was printed of a text with a status

-- all of it, unless the output failed
pub whole_text : (w : PeerWords) (old new : Option (List ℕ)) (before now : ℕ) (status : Status) (text : List ℕ) (result : Status) → PrintsCounts w status text → Printed old new before now status text result → (result ≡ Status.WriteFault → ⊥)
    → (text : List ℕ) × PrintsCounts w result text × Appends old new text
whole_text w old new before now status text result prints (inl p) never = (text, subst (λ (s : Status). PrintsCounts w s text) (sym p.0) prints, p.1)
whole_text w old new before now status text result prints (inr p) never = absurd (never p.0)

-- and a prefix if it failed
pub prefix_text : (w : PeerWords) (old new : Option (List ℕ)) (before now : ℕ) (status : Status) (text : List ℕ) (result : Status) → PrintsCounts w status text → Printed old new before now status text result → result ≡ Status.WriteFault
    → (status : Status) × (text : List ℕ) × PrintsCounts w status text × AppendsPrefix old new text × Rose before now
prefix_text w old new before now status text result prints (inl p) is = absurd (subst (λ (s : Status). PrintsCounts w s text) (sym p.0 ∙ is) prints)
prefix_text w old new before now status text result prints (inr p) is = (status, text, prints, p.1, p.2)

write_is_no_read : ◌≡◌ {A = Status} Status.WriteFault Status.ReadFault → ⊥
write_is_no_read e = cc e

-- a peer reads no input
pub peer_did_read : (job : Job) (w : PeerWords) (source left : Option (List ℕ)) (before now : ℕ) (status : Status) → job ≡ Peer w → DidRead job source left before now status
peer_did_read job w source left before now status is = rw is tt

pub reads_nothing : (w : PeerWords) (old new : Option (List ℕ)) (before now : ℕ) (status : Status) (text : List ℕ) (result : Status) → PrintsCounts w status text → Printed old new before now status text result → result ≡ Status.ReadFault → ⊥
reads_nothing w old new before now status text result prints (inl p) is = subst (λ (s : Status). PrintsCounts w s text) (sym p.0 ∙ is) prints
reads_nothing w old new before now status text result prints (inr p) is = write_is_no_read (sym p.0 ∙ is)

-- a line was printed to the end, or to a prefix
pub finished : (old new : Option (List ℕ)) (before now : ℕ) (status : Status) (text : List ℕ) (result : Status) → ((result ≡ Status.WriteFault → ⊥) → (result ≡ status) × Appends old new text) → (result ≡ Status.WriteFault → AppendsPrefix old new text)
    → (result ≡ Status.WriteFault → Rose before now) → Printed old new before now status text result
finished old new before now status text Status.WriteFault written prefix failed = inr (refl, prefix refl, failed refl)
finished old new before now status text result written prefix failed = inl (written (λ e. cc e))

-- ---- the words

-- what holds of a job holds of the peer for which the words ask
pub on_peer : (words : List (List ℕ)) (job : Job) (w : PeerWords) (P : PeerWords → Type 0) (Q : ClusterWords → Type 0) (B E R : Type 0) → AskFor words job → AskFor words (Peer w) → OnOutside job P Q B E R → P w
on_peer words job w P Q B E R asks also h = subst (λ (j : Job). OnOutside j P Q B E R) (asked_one words job (Peer w) asks also) h

-- or of the cluster
pub on_cluster : (words : List (List ℕ)) (job : Job) (w : ClusterWords) (P : PeerWords → Type 0) (Q : ClusterWords → Type 0) (B E R : Type 0) → AskFor words job → AskFor words (Cluster w) → OnOutside job P Q B E R → Q w
on_cluster words job w P Q B E R asks also h = subst (λ (j : Job). OnOutside j P Q B E R) (asked_one words job (Cluster w) asks also) h

-- or of the backup
pub on_backup : (words : List (List ℕ)) (job : Job) (P : PeerWords → Type 0) (Q : ClusterWords → Type 0) (B E R : Type 0) → AskFor words job → AskFor words Backup → OnOutside job P Q B E R → B
on_backup words job P Q B E R asks also h = subst (λ (j : Job). OnOutside j P Q B E R) (asked_one words job Backup asks also) h

-- or of the restore
pub on_restore : (words : List (List ℕ)) (job : Job) (P : PeerWords → Type 0) (Q : ClusterWords → Type 0) (B E R : Type 0) → AskFor words job → AskFor words Restore → OnOutside job P Q B E R → E
on_restore words job P Q B E R asks also h = subst (λ (j : Job). OnOutside j P Q B E R) (asked_one words job Restore asks also) h

-- and what holds of every other job holds where they ask for none of these
pub on_none : (words : List (List ℕ)) (job : Job) (P : PeerWords → Type 0) (Q : ClusterWords → Type 0) (B E R : Type 0) → AskFor words job → ¬ AskForOutside words → OnOutside job P Q B E R → R
on_none words (Peer w) P Q B E R asks none h = absurd (none (Peer w, asks, tt))
on_none words (Cluster w) P Q B E R asks none h = absurd (none (Cluster w, asks, tt))
on_none words Backup P Q B E R asks none h = absurd (none (Backup, asks, tt))
on_none words Restore P Q B E R asks none h = absurd (none (Restore, asks, tt))
on_none words job P Q B E R asks none h = h

-- the same for words that were read
pub given_asked : {W : Type 0} (given : Result (List (List ℕ)) ArgumentsError) (words : List (List ℕ)) (job : W → Job) (Q : W → Type 0) → ((w : W) → AskFor words (job w) → Q w) → given ≡ Ok words → (w : W) → GivenFor given (job w) → Q w
given_asked given words job Q f is w asks = f w (subst (λ (g : Result (List (List ℕ)) ArgumentsError). GivenFor g (job w)) is asks)

pub given_alone : (given : Result (List (List ℕ)) ArgumentsError) (words : List (List ℕ)) (Q : Type 0) → (¬ AskForOutside words → Q) → given ≡ Ok words → ¬ GivenForOutside given → Q
given_alone given words Q f is none = f (λ asks. none (asks.0, subst (λ (g : Result (List (List ℕ)) ArgumentsError). GivenFor g asks.0) (sym is) asks.1, asks.2))

-- words that were not read ask for nothing
pub unread_given : (given : Result (List (List ℕ)) ArgumentsError) (why : ArgumentsError) (job : Job) → given ≡ Err why → GivenFor given job → ⊥
unread_given given why job is asks = subst (λ (g : Result (List (List ℕ)) ArgumentsError). GivenFor g job) is asks

-- nor do words for which there is no job
pub none_given : (given : Result (List (List ℕ)) ArgumentsError) (words : List (List ℕ)) → given ≡ Ok words → ((job : Job) → ¬ AskFor words job) → (job : Job) → ¬ GivenFor given job
none_given given words is none job asks = none job (subst (λ (g : Result (List (List ℕ)) ArgumentsError). GivenFor g job) is asks)

pub given_one : (given : Result (List (List ℕ)) ArgumentsError) (words : List (List ℕ)) (job : Job) (Q : Type 0) → (AskFor words job → Q) → given ≡ Ok words → GivenFor given job → Q
given_one given words job Q f is asks = f (subst (λ (g : Result (List (List ℕ)) ArgumentsError). GivenFor g job) is asks)
