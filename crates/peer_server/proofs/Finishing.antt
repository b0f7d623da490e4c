-- How a peer ended, and what it printed.
use Rattle.std.specs.Prelude.{IfErr, IfOk, Option}
use Rattle.std.proofs.Common.{◌≡◌, ◌⊎◌, ◌∙◌, ap, sym, subst, refl, ℕ, Bool, List, Result, Ok, Err, inl, inr}
use Rattle.ens_base.specs.declared.peer_words.PeerWords.{PeerWords}
use Rattle.ens_base.specs.declared.status.Status.{Status}
use Rattle.ens_base.specs.declared.status.Status.TheVariants as statuses
use Rattle.peer_turns.specs.Turns.{Turn, taken_in}
use Rattle.peer_server.specs.Faults.{fault_text, status_of}
use Rattle.peer_server.specs.Serving.{Ended, Failed, Printed, Served, counts_text, end_text}
use Rattle.peer_server.specs.Turning.{AreCounted}
use Rattle.peer_server.specs.declared.disks.Disks.{Disks}
use Rattle.peer_server.specs.declared.error.ServeError.{ServeError}
use Rattle.peer_server.specs.declared.error.ServeError.TheVariants as serves
use Rattle.peer_server.specs.declared.turns.Counts.{Counts}

pub if_ok : {T E : Type 0} (r : Result T E) {P Q : T → Type 0} → IfOk r P → ((x : T) → P x → Q x) → IfOk r Q
if_ok (Ok x) holds less = less x holds
if_ok (Err e) holds less = tt

pub if_err_both : {T E : Type 0} (r : Result T E) {P Q R : E → Type 0} → IfErr r P → IfErr r Q → ((e : E) → P e → Q e → R e) → IfErr r R
if_err_both (Ok x) first second less = tt
if_err_both (Err e) first second less = less e first second

module _ {D L T : Type 0} (seen : D → Option (List ℕ)) (may_leave : D → List ℕ → Type 0) (moment : D → ℕ) (left_since : D → ℕ → List ℕ → Type 0) (faults : D → ℕ)
    (sent : L → Option (List (ℕ × List ℕ))) (given : L → Option (List (Option (List ℕ)))) (link_faults : L → ℕ) (coming : T → Option (ℕ → Bool)) (w : PeerWords)
    (link link_after : L) (ticker ticker_after : T) (old new : Option (List ℕ)) (before now : ℕ) (result : Status) where
  -- the peer ended, and printed its text
  abbrev End : Disks D → Disks D → Type 0
  End disks disks_after =
      (status : Status) × (text : List ℕ) × Ended seen may_leave moment left_since faults sent given link_faults coming w disks disks_after link link_after ticker ticker_after status text × Printed old new before now status text result

  abbrev Ill : Disks D → Disks D → ServeError → Type 0
  Ill disks disks_after e = Failed seen may_leave moment left_since faults sent given link_faults coming w (status_of e) disks disks_after link link_after ticker ticker_after

  -- the disks were these
  ends_on : (disks disks_after d e : Disks D) → disks ≡ d → disks_after ≡ e → End d e → End disks disks_after
  ends_on disks disks_after d e first last end = subst (λ (x : Disks D). End x disks_after) (sym first) (subst (λ (x : Disks D). End d x) (sym last) end)

  well_end : (d e : Disks D) (counts : Counts) → ((turns : List Turn) × Served seen may_leave moment left_since faults sent given link_faults coming w d e link link_after ticker ticker_after turns × AreCounted w turns counts)
      → Printed old new before now statuses.Done (counts_text w.me counts.taken counts.ignored) result ⊎ Printed old new before now statuses.Memory (fault_text statuses.Memory) result → End d e
  well_end d e counts good (inl printed) =
      let same : counts_text w.me counts.taken counts.ignored ≡ end_text w good.0 = ap (λ (n : ℕ). counts_text w.me n counts.ignored) good.2.taken ∙ ap (λ (n : ℕ). counts_text w.me (taken_in w good.0) n) good.2.ignored in
      (statuses.Done, counts_text w.me counts.taken counts.ignored, (good.0, good.1, same), printed)
  well_end d e counts good (inr printed) = (statuses.Memory, fault_text statuses.Memory, (inr (good.0, good.1), refl), printed)

  pub ends_well : (disks disks_after d e : Disks D) → disks ≡ d → disks_after ≡ e → (counts : Counts) → ((turns : List Turn) × Served seen may_leave moment left_since faults sent given link_faults coming w d e link link_after ticker ticker_after turns × AreCounted w turns counts)
      → Printed old new before now statuses.Done (counts_text w.me counts.taken counts.ignored) result ⊎ Printed old new before now statuses.Memory (fault_text statuses.Memory) result → End disks disks_after
  ends_well disks disks_after d e first last counts good printed = ends_on disks disks_after d e first last (well_end d e counts good printed)

  ill_end : (d e : Disks D) (error : ServeError) → Ill d e error → Printed old new before now (status_of error) (fault_text (status_of error)) result → End d e
  ill_end d e serves.Store failed printed = (statuses.StoreFault, fault_text statuses.StoreFault, (failed, refl), printed)
  ill_end d e serves.Link failed printed = (statuses.LinkFault, fault_text statuses.LinkFault, (failed, refl), printed)
  ill_end d e serves.Memory failed printed = (statuses.Memory, fault_text statuses.Memory, (inl failed, refl), printed)

  pub ends_ill : (disks disks_after d e : Disks D) → disks ≡ d → disks_after ≡ e → (error : ServeError) → Ill d e error → Printed old new before now (status_of error) (fault_text (status_of error)) result → End disks disks_after
  ends_ill disks disks_after d e first last error failed printed = ends_on disks disks_after d e first last (ill_end d e error failed printed)
