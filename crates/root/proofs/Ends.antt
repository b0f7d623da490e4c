-- How the job ends, for each way in which the run of its script ends.
use Rattle.std.proofs.Common.{◌≡◌, ℕ, List, [], ◌∷◌, ◌++◌, Option, None, Some, Result, Ok, Err, inl, inr, refl, sym, subst, ◌∙◌, string_bytes}
use Rattle.std.specs.Prelude.{IfOk, IfSome, codes}
use Rattle.std.specs.Io.KnownBytes.{IsAtEnd}
use Rattle.ens_base.specs.Causes.{Rose}
use Rattle.ens_base.specs.declared.status.Status.{Status}
use Rattle.hash_book.specs.Hashing.{Book, KeepsNothing}
use Rattle.world_spec.proofs.Books.{kept_once}
use Rattle.world_spec.specs.Held.{Account, HasHashed, HasNoClash, HasTaken}
use Rattle.world_spec.specs.HeldLaws.{HasClashed, HasFilled}
use Rattle.replay.specs.Jobs.{HasAdmitted, clash_line}
use Rattle.scripts.specs.Endings.{IsUnread}
use Rattle.scripts.specs.RootInput.{WasCutOff, WasTakenTo}
use Rattle.root_laws.specs.Steps.{roots_after}
use Rattle.root_laws.specs.Text.{IsTextOf}
use Rattle.scripts.specs.RootReading.{script_of}
use Rattle.scripts.specs.Spelling.{IsScript}
use Rattle.scripts.specs.declared.script.RootScript.{RootScript}
use Rattle.schedule_input.specs.declared.ending.Ending.{Ending}
use Rattle.schedule_input.specs.declared.read.ReadError.{ReadError}
use Rattle.schedule_input.specs.declared.read.ReadError.TheVariants as read
use Rattle.root.specs.Ends.{IsStopped, RejectsIn}
use Rattle.root.proofs.Steps.{rejects_filled, rejects_whole}
use Rattle.replay.specs.WorldModel.{WorldError, BookFull, Clash, MessageLimit}
use Rattle.root.specs.Hashed.{hashed_by}
use Rattle.root.specs.Jobs.{EndsSo, HasRead, IsLegalRoot, PrintsWith}
use Rattle.root.specs.Worlds.{AreWithin, worlds}

module _ (first now : Account) (s : RootScript) where
  pub run_done : (text : List ℕ) → IsScript s → IsTextOf worlds s text → AreWithin s (roots_after worlds s) → HasHashed (hashed_by s) first now → (KeepsNothing first.kept → HasNoClash (hashed_by s)) → IsLegalRoot s → EndsSo first now s Status.Done text
  run_done text of is within has apart legal None read = tt
  run_done text of is within has apart legal (Some bytes) read =
      let all : HasAdmitted (hashed_by s) first now = record { has = has; apart = apart; fit = λ limit is. (kept_once (hashed_by s) limit now.kept (subst (λ (k : Option Book). HasTaken (hashed_by s) k now.kept) is has.taken)).1 } in
      (s, read, of, is, within, all, legal)

  pub clash_ends : (kept new text : List ℕ) → IsStopped s first now (Clash kept new) → text ≡ clash_line kept new → EndsSo first now s Status.Clash text
  clash_ends kept new text stopped is source read = by source read
    where
      has : HasClashed (hashed_by s) first kept new now
      has = rejects_whole s first now (Clash kept new) stopped.0

      by : (source : Option (List ℕ)) → IfSome source (λ bytes. script_of bytes ≡ Ok s) → PrintsWith first now source Status.Clash text
      by None read = (kept, new, has.1, has.3, is, tt)
      by (Some bytes) read = (kept, new, has.1, has.3, is, (s, read, has, stopped.0, stopped.1))

  book_ends : (n : ℕ) (text : List ℕ) → IsStopped s first now (BookFull n) → text ≡ codes "limit book 1073741824" ++ 10 ∷ [] → EndsSo first now s Status.Limit text
  book_ends n text stops is source read = by source read
    where
      has : HasFilled (hashed_by s) first now
      has = let whole = rejects_whole s first now (BookFull n) stops.0 in whole.0

      rejects : RejectsIn s first (λ strings mid. HasFilled strings mid now)
      rejects = rejects_filled s first now n stops.0

      by : (source : Option (List ℕ)) → IfSome source (λ bytes. script_of bytes ≡ Ok s) → PrintsWith first now source Status.Limit text
      by None read = inr (inr (has.2, tt, is))
      by (Some bytes) read = inr (inr (has.2, (s, read, has, rejects, (n, stops.1)), is))

  limit_ends : (text : List ℕ) → IsStopped s first now MessageLimit → text ≡ codes "limit messages 500000" ++ 10 ∷ [] → EndsSo first now s Status.Limit text
  limit_ends text past is source read = by source read
    where
      by : (source : Option (List ℕ)) → IfSome source (λ bytes. script_of bytes ≡ Ok s) → PrintsWith first now source Status.Limit text
      by None read = inr (inl (tt, is))
      by (Some bytes) read = inr (inl ((s, read, past.0, past.1), is))

  pub book_ending : {E : Type 0} (r : Result Ending E) (line : List ℕ) → line ≡ codes "limit book 1073741824" ++ 10 ∷ [] → IfOk r (λ e. (e.status ≡ Status.Limit) × (string_bytes e.text ≡ line)) → (n : ℕ) → IsStopped s first now (BookFull n) → IfOk r (λ e. EndsSo first now s e.status (string_bytes e.text))
  book_ending (Ok e) line is made n stops = subst (λ (status : Status). EndsSo first now s status (string_bytes e.text)) (sym made.0) (book_ends n (string_bytes e.text) stops (made.1 ∙ is))
  book_ending (Err e) line is made n stops = tt

  pub limit_ending : {E : Type 0} (r : Result Ending E) (line : List ℕ) → line ≡ codes "limit messages 500000" ++ 10 ∷ [] → IfOk r (λ e. (e.status ≡ Status.Limit) × (string_bytes e.text ≡ line)) → IsStopped s first now MessageLimit → IfOk r (λ e. EndsSo first now s e.status (string_bytes e.text))
  limit_ending (Ok e) line is made past = subst (λ (status : Status). EndsSo first now s status (string_bytes e.text)) (sym made.0) (limit_ends (string_bytes e.text) past (made.1 ∙ is))
  limit_ending (Err e) line is made past = tt

-- the run was refused since a string did not fit
pub book_refused : {E : Type 0} (r : Result Ending E) (line : List ℕ) → line ≡ codes "limit book 1073741824" ++ 10 ∷ [] → IfOk r (λ e. (e.status ≡ Status.Limit) × (string_bytes e.text ≡ line)) → (error : WorldError) (n : ℕ) → error ≡ BookFull n
    → IfOk r (λ e. (s : RootScript) (first now : Account) → IsStopped s first now error → EndsSo first now s e.status (string_bytes e.text))
book_refused {E} (Ok e) line is made error n same = λ s first now stopped. book_ending first now s {E = E} (Ok e) line is made n (subst (λ (why : WorldError). IsStopped s first now why) same stopped)
book_refused (Err e) line is made error n same = tt

-- no script was read
pub unread_prints : (first now : Account) (source : Option (List ℕ)) (status : Status) (text : List ℕ) → IsUnread source status text → PrintsWith first now source status text
unread_prints first now source Status.Schedule text unread = unread
unread_prints first now source Status.Limit text unread = inl unread
unread_prints first now source Status.ReadFault text unread = unread
unread_prints first now source status text unread = absurd unread

-- ## How far the source was read

-- a job that ended as it was to end
pub ended_as : (source left : Option (List ℕ)) (before now : ℕ) (status ended : Status) → ended ≡ status → HasRead source left before now status → HasRead source left before now ended
ended_as source left before now status ended is has = subst (λ (s : Status). HasRead source left before now s) (sym is) has

-- one that read a script read the whole source
pub read_whole : (source left : Option (List ℕ)) (before now : ℕ) (status : Status) → WasTakenTo source left → IsAtEnd left → (status ≡ Status.ReadFault → ⊥) → HasRead source left before now status
read_whole source left before now status taken end calm = record { taken = taken; end = λ needs. end; limit = λ e. inr end; fault = λ e. absurd (calm e) }

-- one that read none ended where the text says
module _ (source left : Option (List ℕ)) (before now : ℕ) (error : ReadError) (taken : WasTakenTo source left) (rose : error ≡ read.Failed → Rose before now) (cut : error ≡ read.Failed → WasCutOff source left) where
  pub unread_status : (status : Status) (text : List ℕ) → IsUnread source status text → (status ≡ Status.ReadFault → error ≡ read.Failed) → HasRead source left before now status
  unread_status Status.Schedule text unread failed = record { taken = taken; end = λ needs. absurd needs; limit = λ e. absurd (not_limit e); fault = λ e. absurd (not_fault e) }
    where
      not_limit : ◌≡◌ {A = Status} Status.Schedule Status.Limit → ⊥
      not_limit e = cc e

      not_fault : ◌≡◌ {A = Status} Status.Schedule Status.ReadFault → ⊥
      not_fault e = cc e
  unread_status Status.Limit text unread failed = record { taken = taken; end = λ needs. absurd needs; limit = λ e. inl unread.0; fault = λ e. absurd (not_fault e) }
    where
      not_fault : ◌≡◌ {A = Status} Status.Limit Status.ReadFault → ⊥
      not_fault e = cc e
  unread_status Status.ReadFault text unread failed = record { taken = taken; end = λ needs. absurd needs; limit = λ e. absurd (not_limit e); fault = λ e. (rose (failed refl), cut (failed refl)) }
    where
      not_limit : ◌≡◌ {A = Status} Status.ReadFault Status.Limit → ⊥
      not_limit e = cc e
  unread_status status text unread failed = absurd unread

-- out of memory says no more of the source than how much was taken
pub memory_taken : (source left : Option (List ℕ)) (before now : ℕ) → WasTakenTo source left → HasRead source left before now Status.Memory
memory_taken source left before now taken = record { taken = taken; end = λ needs. absurd needs; limit = λ e. absurd (not_limit e); fault = λ e. absurd (not_fault e) }
  where
    not_limit : ◌≡◌ {A = Status} Status.Memory Status.Limit → ⊥
    not_limit e = cc e

    not_fault : ◌≡◌ {A = Status} Status.Memory Status.ReadFault → ⊥
    not_fault e = cc e

-- what the job prints over a hasher with this account, it prints over one with an equal account
pub prints_from : (first same now : Account) (source : Option (List ℕ)) (status : Status) (text : List ℕ) → first ≡ same → PrintsWith first now source status text → PrintsWith same now source status text
prints_from first same now source status text is prints = subst (λ (a : Account). PrintsWith a now source status text) is prints

-- a text that is another one, with its status
pub prints_as : (first now : Account) (source : Option (List ℕ)) (status ended : Status) (text shown : List ℕ) → ended ≡ status → shown ≡ text → PrintsWith first now source status text → PrintsWith first now source ended shown
prints_as first now source status ended text shown same is prints = subst (λ (s : Status). PrintsWith first now source s shown) (sym same) (subst (λ (t : List ℕ). PrintsWith first now source status t) (sym is) prints)
