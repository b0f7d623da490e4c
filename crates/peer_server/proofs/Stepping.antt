-- A step that was taken with an empty outbox, and what it put out, which waits.
use Rattle.std.specs.Prelude.{IsErrOf, Option, Some}
use Rattle.std.proofs.Common.{◌≡◌, ◌∙◌, ◌↔◌, ap, sym, subst, refl, ℕ, Bool, true, false, List, [], ◌∷◌, Result, Ok, inl, inr, arith}
use Rattle.peer_spec.specs.Drives.{step_of}
use Rattle.peer_spec.specs.Kept.{AllMayGo, MaySend}
use Rattle.peer_state.specs.declared.event.Event.{Event}
use Rattle.peer_state.specs.declared.event.Event.TheVariants as happenings
use Rattle.peer_state.specs.declared.state.State.{State}
use Rattle.register_model.specs.declared.note.Note.{Note}
use Rattle.std.proofs.lemmas.List.Elements.{All-nil}
use Rattle.step_plans.specs.Calls.{Call, AnswerOf}
use Rattle.step_plans.specs.Outboxes.{HasNotesAlone, out_of}
use Rattle.step_plans.specs.Plans.{Plan, Out, Finished, Stopped, Runs}
use Rattle.step_plans.specs.Steps.{HasFinished, HasStopped}
use Rattle.step_plans.specs.declared.error.PeerError.{PeerError}
use Rattle.step_plans.specs.declared.error.PeerError.TheVariants as errors
use Rattle.step_plans.specs.declared.outbox.Outbox.{Outbox}
use Rattle.peer_turns.specs.Deeds.{frames_of}
use Rattle.peer_turns.specs.Going.{Grew, Point}
use Rattle.peer_turns.specs.Turns.{tick_if}
use Rattle.ens_base.specs.declared.peer_words.PeerWords.{PeerWords}
use Rattle.ens_base.specs.declared.status.Status.{Status}
use Rattle.ens_base.specs.declared.status.Status.TheVariants as statuses
use Rattle.peer_turns.proofs.Following.{grew_none}
use Rattle.peer_server.proofs.Joining.{took_none, took_one}
use Rattle.peer_server.proofs.Lining.{as_many_wait, more_wait, waiting_more}
use Rattle.peer_server.specs.DiskPeers.{disks_do, disks_refuse}
use Rattle.peer_server.specs.Faults.{peer_status, status_of}
use Rattle.peer_server.specs.Lines.{frames_waiting, looked, posted}
use Rattle.peer_server.specs.Turning.{Fell, RanInto, StepBroke, Stepped, SteppedIf, TickCame, TickMade, Took, line, point}
use Rattle.peer_server.specs.declared.server.Server.{Server}
use Rattle.peer_server.specs.declared.error.ServeError.{ServeError}
use Rattle.peer_server.specs.declared.error.ServeError.TheVariants as serves

-- a peer that goes on does not fail as a halted one
pub not_halted : {T : Type 0} (halted : Bool) → halted ≡ false → (r : Result T PeerError) → (IsErrOf r errors.Halted ↔ (halted ≡ true)) → IsErrOf r errors.Halted → ⊥
not_halted halted up r is failed = let none : ⊥ = grind (arith, up, is.0 failed) in none

pub no_error : {T E : Type 0} (x : T) (e : E) → IsErrOf {T = T} {E = E} (Ok x) e → ⊥
no_error x e bad = let none : ⊥ = cc in none

-- nothing in an empty outbox may not go
pub all_may_go : (me : ℕ) (o : Outbox) → HasNotesAlone o → AllMayGo me (out_of o)
all_may_go me o alone = rw alone.sends (All-nil (MaySend me))

-- no error of a step is one of the link
pub never_link : (error : PeerError) (e : ServeError) → status_of e ≡ peer_status error → e ≡ serves.Link → ⊥
never_link errors.StoreFault e same is = absurd (cc (ap status_of is))
never_link (errors.BadFact why) e same is = absurd (cc (ap status_of is))
never_link errors.Halted e same is = absurd (cc (ap status_of is))
never_link error e same is = absurd (cc (ap status_of is))

module _ {P : Type 0} (does : P → (call : Call) → AnswerOf call → P → Type 0) (refuses : P → Call → PeerError → P → Type 0) (plan : Plan State) (y : State) (s t : P) (before after : Outbox) (alone : HasNotesAlone before) (quiet : before.notes.items ≡ []) where
  pub finished_runs : HasFinished does refuses plan s before y t after → Runs does refuses plan s [] (Finished y (out_of after)) t after.notes.items
  finished_runs did =
      let ran = rw quiet at did.ran in
      let same : out_of after ≡ did.out = rw did.sends (rw did.answers (rw did.changes (rw alone.sends (rw alone.answers (rw alone.changes refl))))) in
      subst (λ (o : Out). Runs does refuses plan s [] (Finished y o) t after.notes.items) (sym same) ran

  pub stopped_runs : (error : PeerError) → HasStopped does refuses plan error s before t after → Runs does refuses plan s [] (Stopped error) t after.notes.items
  stopped_runs error did = rw quiet at did.ran

-- the same at the plan of a step, of a peer that is `mine`
module _ {P : Type 0} (does : P → (call : Call) → AnswerOf call → P → Type 0) (refuses : P → Call → PeerError → P → Type 0) (me mine : ℕ) (same : mine ≡ me) (event : Event) (x y : State) (s t : P)
    (before after : Outbox) (alone : HasNotesAlone before) (quiet : before.notes.items ≡ []) where
  pub finished_step : HasFinished does refuses (step_of mine event x) s before y t after → Runs does refuses (step_of me event x) s [] (Finished y (out_of after)) t after.notes.items
  finished_step did = finished_runs does refuses (step_of me event x) y s t before after alone quiet (subst (λ (n : ℕ). HasFinished does refuses (step_of n event x) s before y t after) same did)

  pub stopped_step : (error : PeerError) → HasStopped does refuses (step_of mine event x) error s before t after → Runs does refuses (step_of me event x) s [] (Stopped error) t after.notes.items
  stopped_step error did = stopped_runs does refuses (step_of me event x) y s t before after alone quiet error (subst (λ (n : ℕ). HasStopped does refuses (step_of n event x) error s before t after) same did)

module _ {P L : Type 0} (does : P → (call : Call) → AnswerOf call → P → Type 0) (refuses : P → Call → PeerError → P → Type 0)
    (sent : L → Option (List (ℕ × List ℕ))) (given : L → Option (List (Option (List ℕ)))) (me : ℕ) (event : Event) (a b : Point P L) where
  -- the step was stopped
  pub was_stopped : (e : ServeError) → (e ≡ serves.Link → ⊥) → RanInto does refuses (status_of e) (step_of me event a.state) a.stores b.stores → Grew (given a.link) (given b.link) [] → Grew (sent a.link) (sent b.link) []
      → Fell does refuses sent given me (status_of e) (Some event) a b
  was_stopped serves.Store other ran looked sends = record { ran = ran; looked = looked; sends = sends }
  was_stopped serves.Link other ran looked sends = absurd (other refl)
  was_stopped serves.Memory other ran looked sends = inr (inl (record { ran = ran; looked = looked; sends = sends }))

  -- what the step put out was not kept
  pub was_dropped : (status : Status) (out : Out) (notes : List Note) → status ≡ statuses.Memory → Runs does refuses (step_of me event a.state) a.stores [] (Finished b.state out) b.stores notes → Grew (given a.link) (given b.link) [] → Grew (sent a.link) (sent b.link) []
      → Fell does refuses sent given me status (Some event) a b
  was_dropped status out notes is ran looked sends = subst (λ (k : Status). Fell does refuses sent given me k (Some event) a b) (sym is) (inr (inr (record { out = out; notes = notes; ran = ran; looked = looked; sends = sends })))

-- a step of a peer that serves, on its line
module _ {D L : Type 0} (seen : D → Option (List ℕ)) (faults : D → ℕ) (sent : L → Option (List (ℕ × List ℕ))) (given : L → Option (List (Option (List ℕ)))) (me : ℕ) (event : Event) (a b : Server D) (link : L) where
  pub took_step : Stepped seen faults me event a b → Took (disks_do seen faults) (disks_refuse seen faults) (posted sent me) (looked given) me [] (event ∷ []) (point a link) (point b link)
  took_step did =
      took_one (disks_do seen faults) (disks_refuse seen faults) (posted sent me) (looked given) me event (point a link) (point b link) (out_of did.out) did.out.notes.items did.ran (grew_none (given link))
      (more_wait (sent link) (frames_waiting me a.unsent.items) (frames_of me (out_of did.out)) (frames_waiting me b.unsent.items) (ap (frames_waiting me) did.unsent ∙ waiting_more me a.unsent.items did.out))

  -- nothing more waits
  as_many : b.unsent.items ≡ a.unsent.items → Grew (posted sent me (line a link)) (posted sent me (line b link)) []
  as_many same = as_many_wait (sent link) me a.unsent.items b.unsent.items same

  pub step_fell : (e : ServeError) → (e ≡ serves.Link → ⊥) → StepBroke seen faults me event (status_of e) a b → Fell (disks_do seen faults) (disks_refuse seen faults) (posted sent me) (looked given) me (status_of e) (Some event) (point a link) (point b link)
  step_fell e other (inl stopped) = was_stopped (disks_do seen faults) (disks_refuse seen faults) (posted sent me) (looked given) me event (point a link) (point b link) e other stopped.ran (grew_none (given link)) (as_many stopped.unsent)
  step_fell e other (inr lost) = was_dropped (disks_do seen faults) (disks_refuse seen faults) (posted sent me) (looked given) me event (point a link) (point b link) (status_of e) (out_of lost.out) lost.out.notes.items lost.memory lost.ran (grew_none (given link)) (as_many lost.unsent)

-- the ticker was asked
pub tick_made : {D L T : Type 0} (seen : D → Option (List ℕ)) (faults : D → ℕ) (sent : L → Option (List (ℕ × List ℕ))) (given : L → Option (List (Option (List ℕ)))) (coming : T → Option (ℕ → Bool)) (w : PeerWords) (a b : Server D) (link : L) (s t : T)
    → TickCame seen faults coming w.me a b s t → TickMade (disks_do seen faults) (disks_refuse seen faults) (posted sent w.me) (looked given) coming w (point a link) (point b link) s t
tick_made {D} {L} {T} seen faults sent given coming w a b link s t came = record { due = came.due; answers = came.answers; took = by came.due came.took }
  where
    by : (due : Bool) → SteppedIf seen faults w.me due a b → Took (disks_do seen faults) (disks_refuse seen faults) (posted sent w.me) (looked given) w.me [] (tick_if due) (point a link) (point b link)
    by true did = took_step seen faults sent given w.me happenings.Tick a b link did
    by false same =
        subst (λ (k : Server D). Took (disks_do seen faults) (disks_refuse seen faults) (posted sent w.me) (looked given) w.me [] [] (point a link) (point k link)) (sym same)
        (took_none (disks_do seen faults) (disks_refuse seen faults) (posted sent w.me) (looked given) w.me (point a link))
