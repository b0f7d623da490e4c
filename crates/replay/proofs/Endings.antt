-- How a replay ends, for each way in which the run of its schedule ends.
use Rattle.std.proofs.Common.{◌≡◌, ◌<◌, ◌^◌, ℕ, length, List, [], ◌∷◌, ◌++◌, Option, None, Some, Result, Ok, Err, refl, sym, subst, ◌∙◌, inl, inr, arith, string_bytes}
use Rattle.std.specs.Prelude.{IfOk, IfSome, codes}
use Rattle.calm_laws.proofs.Histories.{histories_in_order}
use Rattle.calm_laws.proofs.Schedules.{calls_complete}
use Rattle.calm_laws.specs.Calm.{RunsUndisturbed}
use Rattle.calm_laws.proofs.WorldRefinement.{schedules_are_legal, schedules_have_causes}
use Rattle.calm_laws.specs.WorldRefinement.{lines_of}
use Rattle.ens_base.specs.Lists.{◌∈◌}
use Rattle.ens_base.specs.declared.status.Status.{Status}
use Rattle.hash_book.specs.Hashing.{Book, KeepsNothing}
use Rattle.world_model.proofs.WorldSpec.{filled_beyond, kept_once}
use Rattle.world_model.specs.WorldSpec.{Account, account, HasHashed, HasNoClash, HasTaken, HasClashed, HasFilled}
use Rattle.schedule_input.specs.declared.ending.Ending.{Ending}
use Rattle.schedule_input.proofs.Soundness.{majority_firm, named_in, none_is_sound, unreverted_is_none}
use Rattle.schedule_input.specs.Premise.{first_unsound}
use Rattle.schedule_text.specs.Reading.{schedule_of}
use Rattle.schedule_text.specs.Spelling as schedule
use Rattle.schedule_text.specs.declared.event.ScheduleEvent.TheVariants as line
use Rattle.schedule_text.specs.declared.schedule.Schedule.{Schedule}
use Rattle.world_model.specs.Refusals.{IsCutOff}
use Rattle.world_model.specs.declared.error.WorldError.TheVariants.{BookFull, Clash}
use Rattle.role_laws.specs.Facts.{AreFirm}
use Rattle.replay.specs.Jobs.{CompletesCalls, EndsSo, HasAdmitted, HasCausedAnswers, HasLegalHistories, IsRunText, PrintsWith, clash_line, hashed_by, nothing_hashed}
use Rattle.replay.specs.Stops.{PassesLimit, RejectsIn}
use Rattle.replay.proofs.Stops.{passes_whole, rejects_filled, rejects_whole}

-- a schedule without a line that reverts a peer is sound
pub forward_sound : (s : Schedule) → schedule.IsSchedule s → ((peer changes : ℕ) → line.Revert peer changes ∈ s.events → ⊥) → first_unsound s ≡ None
forward_sound s of none = unreverted_is_none s of (λ p reverted. none p reverted.0 reverted.1)

-- of each view that a sound schedule names more than half of the members have seals or are never reverted
pub firm_lines : (s : Schedule) → schedule.IsSchedule s → first_unsound s ≡ None → AreFirm (lines_of s.form s.view s.events)
firm_lines s of sound view named = majority_firm s view of (none_is_sound s sound) (named_in s view named)

-- a sound schedule of whose strings no two clash has legal histories, its answers have causes, and if nothing
-- disturbs it each call is completed
sound_legal : (s : Schedule) → schedule.IsSchedule s → first_unsound s ≡ None → HasNoClash (hashed_by s) → HasLegalHistories s × HasCausedAnswers s × CompletesCalls s
sound_legal s of sound apart = (
  schedules_are_legal s.form s.peers s.view s.events of.peers.1 of.view.1 few (firm_lines s of sound) of.events of.distinct apart,
  schedules_have_causes s.form s.peers s.view s.events of.peers.1 of.view.1 few (firm_lines s of sound) of.events of.distinct apart,
  λ undisturbed within. let runs : RunsUndisturbed s = record { schedule = of; undisturbed = undisturbed; within = within; apart = apart } in (calls_complete s runs, histories_in_order s runs),
)
  where
    few : length s.events < 2 ^ 32
    few = omega (arith, of.lines)

-- how the run of a sound schedule ends
module _ (first now : Account) (s : Schedule) (sound : first_unsound s ≡ None) where
  pub run_done : (text : List ℕ) → schedule.IsSchedule s → IsRunText s text → HasHashed (hashed_by s) first now → (KeepsNothing first.kept → HasNoClash (hashed_by s)) → EndsSo first now s Status.Done text
  run_done text of ran has apart None read = tt
  run_done text of ran has apart (Some bytes) read =
      let all : HasAdmitted (hashed_by s) first now = record { has = has; apart = apart; fit = λ limit is. (kept_once (hashed_by s) limit now.kept (subst (λ (k : Option Book). HasTaken (hashed_by s) k now.kept) is has.taken)).1 } in
      (s, read, of, sound, ran, all, sound_legal s of sound)

  pub clash_ends : (kept new text : List ℕ) → RejectsIn s first (λ strings mid. HasClashed strings mid kept new now) → text ≡ clash_line kept new → EndsSo first now s Status.Clash text
  clash_ends kept new text rejects is source read = by source read
    where
      has : HasClashed (hashed_by s) first kept new now
      has = rejects_whole s first now (Clash kept new) rejects

      by : (source : Option (List ℕ)) → IfSome source (λ bytes. schedule_of bytes ≡ Ok s) → PrintsWith first now source Status.Clash text
      by None read = (kept, new, has.1, has.3, is, tt)
      by (Some bytes) read = (kept, new, has.1, has.3, is, (s, read, sound, has, rejects))

  pub book_ends : (n : ℕ) (text : List ℕ) → RejectsIn s first (λ strings mid. IsCutOff strings mid now (BookFull n)) → text ≡ codes "limit book 1073741824" ++ 10 ∷ [] → EndsSo first now s Status.Limit text
  book_ends n text stops is source read = by source read
    where
      has : HasFilled (hashed_by s) first now
      has = let whole = rejects_whole s first now (BookFull n) stops in whole.0

      rejects : RejectsIn s first (λ strings mid. HasFilled strings mid now)
      rejects = rejects_filled s first now n stops

      by : (source : Option (List ℕ)) → IfSome source (λ bytes. schedule_of bytes ≡ Ok s) → PrintsWith first now source Status.Limit text
      by None read = inr (inr (has.2, tt, is))
      by (Some bytes) read = inr (inr (has.2, (s, read, sound, has, (λ limit kept. filled_beyond (hashed_by s) limit first now kept has), rejects), is))

  pub limit_ends : (text : List ℕ) → PassesLimit s first → text ≡ codes "limit messages 500000" ++ 10 ∷ [] → EndsSo first now s Status.Limit text
  limit_ends text passes is None read = inr (inl (tt, is))
  limit_ends text passes is (Some bytes) read = inr (inl ((s, read, sound, passes_whole s first passes, passes), is))

  -- the same of the endings that are made with these lines
  pub book_ending : {E : Type 0} (r : Result Ending E) (line : List ℕ) → line ≡ codes "limit book 1073741824" ++ 10 ∷ [] → IfOk r (λ e. (e.status ≡ Status.Limit) × (string_bytes e.text ≡ line)) → (n : ℕ) → RejectsIn s first (λ strings mid. IsCutOff strings mid now (BookFull n))
      → IfOk r (λ e. EndsSo first now s e.status (string_bytes e.text))
  book_ending (Ok e) line is made n stops = subst (λ status. EndsSo first now s status (string_bytes e.text)) (sym made.0) (book_ends n (string_bytes e.text) stops (made.1 ∙ is))
  book_ending (Err e) line is made n stops = tt

  pub limit_ending : {E : Type 0} (r : Result Ending E) (line : List ℕ) → line ≡ codes "limit messages 500000" ++ 10 ∷ [] → IfOk r (λ e. (e.status ≡ Status.Limit) × (string_bytes e.text ≡ line)) → PassesLimit s first
      → IfOk r (λ e. EndsSo first now s e.status (string_bytes e.text))
  limit_ending (Ok e) line is made past = subst (λ status. EndsSo first now s status (string_bytes e.text)) (sym made.0) (limit_ends (string_bytes e.text) past (made.1 ∙ is))
  limit_ending (Err e) line is made past = tt

-- the account of a book that was just made
pub empty_account : (strings : List (List ℕ)) (limit clashes fulls : ℕ) → strings ≡ [] → limit ≡ 1073741824 → clashes ≡ 0 → fulls ≡ 0
    → account (λ (b : Unit {0}). Some (record { strings = strings; limit = limit })) (λ b. clashes) (λ b. fulls) tt ≡ nothing_hashed
empty_account strings limit clashes fulls none limit_is no_clash not_full = rw none (rw limit_is (rw no_clash (rw not_full refl)))

-- what a replay prints over a hasher with this account, it prints over one with an equal account
pub prints_from : (first same now : Account) (source : Option (List ℕ)) (status : Status) (text : List ℕ) → first ≡ same → PrintsWith first now source status text → PrintsWith same now source status text
prints_from first same now source status text is prints = subst (λ (a : Account). PrintsWith a now source status text) is prints
