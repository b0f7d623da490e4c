-- A step of a peer that changes no view ends with no further row.
use Rattle.std.proofs.Common.{◌≡◌, ℕ, Bool, false, List, [], Ok, refl, sym, ap, subst, ◌∙◌}
use Rattle.std.proofs.lemmas.Bool.{true≢false}
use Rattle.std.proofs.lemmas.List.{append-nil}
use Rattle.leader_output.specs.declared.out.Outgoing.{Outgoing}
use Rattle.stored_formats.specs.declared.fact.Fact.{Fact}
use Rattle.phase_rows.specs.Rows.{silent}
use Rattle.phase_rows.specs.declared.phase.Then.TheVariants as thens
use Rattle.peer_spec.proofs.Parts.{driven_none}
use Rattle.peer_spec.specs.Drives.{concluded, driven, most_turns, row_done}
use Rattle.peer_state.specs.Rows.{changes, ended, has_begun, while_26}
use Rattle.peer_state.specs.declared.state.ChangeState.{ChangeState}
use Rattle.peer_state.specs.declared.state.ChangeState.TheVariants.{Settled, Wanted, Finishing}
use Rattle.peer_state.specs.declared.state.Phase.{Phase}
use Rattle.peer_state.specs.declared.state.Phase.TheVariants as phases
use Rattle.peer_state.specs.declared.state.State.{State}
use Rattle.register_model.specs.declared.note.Note.{Note}
use Rattle.step_plans.specs.Calls.{Call, AnswerOf}
use Rattle.step_plans.specs.Plans.{Did, Out, Rest, Runs}
use Rattle.step_plans.specs.declared.error.PeerError.{PeerError}
use Rattle.step_plans.specs.declared.tasks.Task.{Task}

quiet : (change : ChangeState) (fact : Fact) (me : ℕ) (unanswered : Bool) → has_begun change ≡ false → ended change fact me unanswered ≡ silent thens.Stay
quiet Settled fact me unanswered h = refl
quiet (Wanted c) fact me unanswered h = absurd (true≢false h)
quiet (Finishing f) fact me unanswered h = absurd (true≢false h)

quiet_in : (phase : Phase) (me : ℕ) (x : State) → changes phase ≡ false → while_26 phase me x ≡ (x, silent thens.Stay)
quiet_in (phases.Leading l) me x h = ap (λ row. (x, row)) (quiet l.change x.fact me _ h)
quiet_in (phases.Following f) me x h = refl
quiet_in (phases.Probing p) me x h = refl
quiet_in (phases.Electing e) me x h = refl

silent_row : (me : ℕ) (x : State) (out : Out) (next : Rest State (List Task)) → row_done me (silent thens.Stay) x out next ≡ next [] x out
silent_row me x out next = ap (λ (sends : List Outgoing). next [] x (record out { sends = sends })) (append-nil out.sends)

-- no change has begun: the end of a step does nothing
nothing_ends : (me : ℕ) (x : State) (out : Out) (next : Rest State (Unit {0})) → changes x.phase ≡ false → concluded me x out next ≡ next tt x out
nothing_ends me x out next h =
    let go_on : Rest State (List Task) = λ ts y o. driven me most_turns ts y o (λ rest z q. next tt z q) in
    ap (λ row. row_done me row.1 row.0 out go_on) (quiet_in x.phase me x h)
    ∙ silent_row me x out go_on
    ∙ driven_none me most_turns x out (λ rest z q. next tt z q)

-- so to do nothing is that part of a step
pub nothing_done : {P : Type 0} (does : P → (call : Call) → AnswerOf call → P → Type 0) (refuses : P → Call → PeerError → P → Type 0) (me : ℕ) (x : State) (out : Out) (s : P) (ns : List Note) → changes x.phase ≡ false
    → Did does refuses (concluded me) (record { state = x; out = out; stores = s; notes = ns }) (Ok tt) (record { state = x; out = out; stores = s; notes = ns })
nothing_done does refuses me x out s ns h = λ next e end ls ran. subst (λ p. Runs does refuses p s ns e end ls) (sym (nothing_ends me x out next h)) ran
