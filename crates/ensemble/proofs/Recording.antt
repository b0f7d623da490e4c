-- What a cluster prints, and what became of it, for the words that asked for it.
use Rattle.std.proofs.Common.{◌≡◌, ◌⊎◌, ◌∙◌, ℕ, List, [], ◌∷◌, take, drop, Option, None, refl, sym, inl, inr, ap, subst}
use Rattle.std.specs.Io.KnownBytes.{Appends}
use Rattle.cluster.specs.Ends.{BrokenOff, EndsOverBook, HandedPrefix, HasRead, IsCluster, Looked, LookedUntil, PrintsRecord, RunEnds, Stopped, Unread, Went, WentUntil, frames_between, opening}
use Rattle.scripts.specs.declared.line.ScriptLine.{ScriptLine}
use Rattle.scripts.specs.declared.line.ScriptLine.TheVariants.{Event, Turn}
use Rattle.cluster.specs.Recordings.{Recording, heard, heard_all, recorded}
use Rattle.ens_base.specs.Causes.{Rose}
use Rattle.ens_base.specs.declared.peer_words.ClusterWords.{ClusterWords}
use Rattle.ens_base.specs.declared.status.Status.{Status}
use Rattle.environment.specs.Written.{AppendsPrefix}
use Rattle.command_line.specs.Forms.{IsJob}
use Rattle.command_line.specs.declared.job.Job.{Job}
use Rattle.command_line.specs.declared.job.Job.TheVariants.{Cluster}
use Rattle.world_spec.specs.Held.{Account}
use Rattle.peer_server.specs.Serving.{Printed}
use Rattle.ensemble.specs.Top.{DidRead, IsMemoryText, ReadsInput}

-- words that ask for a cluster
pub words_valid : (job : Job) (w : ClusterWords) → job ≡ Cluster w → IsJob job → IsCluster w
words_valid job w is valid = let has = subst IsJob is valid in record { peers = has.count; view = has.members }

pub cluster_reads : (job : Job) (w : ClusterWords) → job ≡ Cluster w → ReadsInput job
cluster_reads job w is = rw is tt

pub did_read_script : (job : Job) (w : ClusterWords) (source left : Option (List ℕ)) (before now : ℕ) (status : Status) → job ≡ Cluster w → HasRead w source left before now status → DidRead job source left before now status
did_read_script job w source left before now status is has = rw is has

-- at a read fault the source counted it
pub read_rose : (w : ClusterWords) (source left : Option (List ℕ)) (before now : ℕ) (result : Status) → result ≡ Status.ReadFault → ((result ≡ Status.WriteFault → ⊥) → HasRead w source left before now result) → Rose before now
read_rose w source left before now result is has = ((has (λ e. no_write (sym is ∙ e))).fault is).0
  where
    no_write : ◌≡◌ {A = Status} Status.ReadFault Status.WriteFault → ⊥
    no_write e = cc e

-- ---- the link makes no difference to what is printed

module _ {L : Type 0} (sent : L → Option (List (ℕ × List ℕ))) (given : L → Option (List (Option (List ℕ)))) (faults : L → ℕ) (a b : L) (w : ClusterWords) where
  abbrev nothing_sent : ℕ → Option (List (ℕ × List ℕ))
  nothing_sent n = None

  abbrev nothing_given : ℕ → Option (List (Option (List ℕ)))
  nothing_given n = None

  unseen_looks : (looks : List (Option (List ℕ))) (r : Recording) (x y : L) → Looked sent given looks r x y → Looked nothing_sent nothing_given looks r (faults x) (faults y)
  unseen_looks [] r x y looked = ap faults looked
  unseen_looks (look ∷ more) r x y looked = (faults looked.0, record { looked = tt; sends = tt }, unseen_looks more (heard look r) looked.0 y looked.2)

  unseen_lines : (lines : List ScriptLine) (looks : List (Option (List ℕ))) (r : Recording) (x y : L) → Went sent given lines looks r x y → Went nothing_sent nothing_given lines looks r (faults x) (faults y)
  unseen_lines [] looks r x y went = ap faults went
  unseen_lines (Event event ∷ more) looks r x y went = (faults went.0, record { looked = tt; sends = tt }, unseen_lines more looks (recorded event r) went.0 y went.2)
  unseen_lines (Turn count ∷ more) looks r x y went = (faults went.0, unseen_looks (take count looks) r x went.0 went.1, unseen_lines more (drop count looks) (heard_all (take count looks) r) went.0 y went.2)

  unseen_prefix : (looks : List (Option (List ℕ))) (frames : List (ℕ × List ℕ)) (x y : L) → HandedPrefix sent given looks frames x y → HandedPrefix nothing_sent nothing_given looks frames (faults x) (faults y)
  unseen_prefix looks frames x y prefix = (prefix.0, prefix.1, prefix.2, record { looked = tt; sends = tt })

  unseen_looking : (looks : List (Option (List ℕ))) (r : Recording) (x y : L) → LookedUntil sent given looks r x y → LookedUntil nothing_sent nothing_given looks r (faults x) (faults y)
  unseen_looking [] r x y looked = record { looked = tt; sends = tt }
  unseen_looking (look ∷ more) r x y (inl looked) = inl (faults looked.0, record { looked = tt; sends = tt }, unseen_looking more (heard look r) looked.0 y looked.2)
  unseen_looking (look ∷ more) r x y (inr last) = inr (last.0, unseen_prefix (look ∷ []) (frames_between r (heard look r)) x y last.1)

  unseen_until : (lines : List ScriptLine) (looks : List (Option (List ℕ))) (r : Recording) (x y : L) → WentUntil sent given lines looks r x y → WentUntil nothing_sent nothing_given lines looks r (faults x) (faults y)
  unseen_until [] looks r x y went = record { looked = tt; sends = tt }
  unseen_until (Event event ∷ more) looks r x y (inl went) = inl (faults went.0, record { looked = tt; sends = tt }, unseen_until more looks (recorded event r) went.0 y went.2)
  unseen_until (Event event ∷ more) looks r x y (inr last) = inr (last.0, unseen_prefix [] (frames_between r (recorded event r)) x y last.1)
  unseen_until (Turn count ∷ more) looks r x y (inl went) = inl (faults went.0, unseen_looks (take count looks) r x went.0 went.1, unseen_until more (drop count looks) (heard_all (take count looks) r) went.0 y went.2)
  unseen_until (Turn count ∷ more) looks r x y (inr last) = inr (last.0, unseen_looking (take count looks) r x y last.1)

  unseen_stop : (first : Account) (script : List ScriptLine) (r : Recording) → Stopped sent given first w script r a b → Stopped nothing_sent nothing_given first w script r (faults a) (faults b)
  unseen_stop first script r stop = record { part = stop.part; is_part = stop.is_part; looks = stop.looks; follows = stop.follows; came = stop.came; handed = record { looked = tt; sends = tt }; went = unseen_until stop.part stop.looks (opening w) a b stop.went }

  unseen_break : (script : List ScriptLine) → BrokenOff sent given w script a b → BrokenOff nothing_sent nothing_given w script (faults a) (faults b)
  unseen_break script broken = record {
    part = broken.part;
    is_part = broken.is_part;
    looks = broken.looks;
    r = broken.r;
    follows = broken.follows;
    prefix = broken.prefix;
    rest = broken.rest;
    all = broken.all;
    most = broken.most;
    handed = record { looked = tt; sends = tt };
    went = unseen_until broken.part broken.looks (opening w) a b broken.went;
  }

  unseen_memory : (first : Account) (script : List ScriptLine) → BrokenOff sent given w script a b ⊎ ((r : Recording) × Stopped sent given first w script r a b)
      → BrokenOff nothing_sent nothing_given w script (faults a) (faults b) ⊎ ((r : Recording) × Stopped nothing_sent nothing_given first w script r (faults a) (faults b))
  unseen_memory first script (inl broken) = inl (unseen_break script broken)
  unseen_memory first script (inr stop) = inr (stop.0, unseen_stop first script stop.0 stop.1)

  unseen_run : (first now : Account) (script : List ScriptLine) (status : Status) (text : List ℕ) → RunEnds sent given faults first now w script a b status text → RunEnds nothing_sent nothing_given (λ n. n) first now w script (faults a) (faults b) status text
  unseen_run first now script Status.Done text ends = (ends.0, record { looks = ends.1.looks; follows = ends.1.follows; handed = record { looked = tt; sends = tt }; went = unseen_lines script ends.1.looks (opening w) a b ends.1.went }, ends.2)
  unseen_run first now script Status.Clash text ends = (ends.0, unseen_stop first script ends.0 ends.1, ends.2)
  unseen_run first now script Status.Limit text ends = (ends.0, unseen_stop first script ends.0 ends.1, ends.2)
  unseen_run first now script Status.LinkFault text ends = (unseen_break script ends.0, ends.1, ends.2)
  unseen_run first now script Status.Memory text ends = (unseen_memory first script ends.0, ends.1)
  unseen_run first now script status text ends = absurd ends

  unseen_unread : (source : Option (List ℕ)) (status : Status) (text : List ℕ) → Unread w source a b status text → Unread w source (faults a) (faults b) status text
  unseen_unread source Status.Schedule text unread = (unread.0, ap faults unread.1)
  unseen_unread source Status.ReadFault text unread = (unread.0, ap faults unread.1)
  unseen_unread source Status.Limit text unread = (unread.0, unread.1, ap faults unread.2)
  unseen_unread source Status.Memory text unread = (unread.0, ap faults unread.1)
  unseen_unread source status text unread = absurd unread

  pub unseen : (source : Option (List ℕ)) (status : Status) (text : List ℕ) → EndsOverBook sent given faults w source a b status text → PrintsRecord w source status text
  unseen source status text (now, inl unread) = (faults a, faults b, (now, inl (unseen_unread source status text unread)))
  unseen source status text (now, inr run) = (faults a, faults b, (now, inr (run.0, run.1, run.2, unseen_run _ now run.0 status text run.3)))

-- ---- ends that a cluster does not have, and that with no memory

pub record_usage : (w : ClusterWords) (source : Option (List ℕ)) (text : List ℕ) → PrintsRecord w source Status.Usage text → ⊥
record_usage w source text (before, now, (account, inl unread)) = unread
record_usage w source text (before, now, (account, inr run)) = run.3

pub record_memory : (w : ClusterWords) (source : Option (List ℕ)) (text : List ℕ) → PrintsRecord w source Status.Memory text → IsMemoryText text
record_memory w source text (before, now, (account, inl unread)) = unread.0
record_memory w source text (before, now, (account, inr run)) = run.3.1

-- ---- what was printed

module _ (P : Status → List ℕ → Type 0) (old new : Option (List ℕ)) (before now : ℕ) where
  -- the text with which a job ended, and what was printed of it
  pub printed_of : (result : Status) → ((result ≡ Status.WriteFault → ⊥) → (text : List ℕ) × P result text × Appends old new text)
      → (result ≡ Status.WriteFault → (status : Status) × (text : List ℕ) × P status text × AppendsPrefix old new text) → (result ≡ Status.WriteFault → Rose before now)
      → (status : Status) × (text : List ℕ) × P status text × Printed old new before now status text result
  printed_of Status.WriteFault written prefix failed = let f = prefix refl in (f.0, f.1, f.2, inr (refl, f.3, failed refl))
  printed_of result written prefix failed = let p = written (λ e. cc e) in (result, p.0, p.1, inl (refl, p.2))
