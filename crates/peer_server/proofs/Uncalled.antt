-- A peer that has started has no call to answer.
use Rattle.std.specs.Prelude.{Option, None, Some}
use Rattle.std.proofs.Common.{◌≡◌, subst, ℕ, List, [], ◌++◌, ◌∷◌, Bool, true, false, if◌then◌else◌, inl, inr, arith}
use Rattle.std.proofs.lemmas.List.Elements.{All-nil}
use Rattle.call_table.specs.declared.waiting.Waiting.{Waiting}
use Rattle.ens_base.specs.declared.entry.Entry.{Entry}
use Rattle.stored_formats.specs.declared.saved.SavedFact.{SavedFact}
use Rattle.peer_spec.specs.Starts.{first_state, opened, opening_saved, start_of, seals_opening, continued, is_whole, reseals_if, migrated, continued_in}
use Rattle.peer_state.specs.declared.state.Mode.{Mode}
use Rattle.peer_state.specs.declared.state.State.{State}
use Rattle.register_model.specs.declared.note.Note.{Note}
use Rattle.step_plans.specs.Calls.{Call, AnswerOf}
use Rattle.step_plans.specs.Plans.{Plan, Done, Say, Ask, Out, Ending, Finished, Runs, Follows, nothing}
use Rattle.step_plans.specs.Saved.{with_seal}
use Rattle.step_plans.specs.declared.error.PeerError.{PeerError}
use Rattle.tree_node.specs.declared.version.TreeVersion.{TreeVersion}
use Rattle.tree_node.specs.declared.version.TreeVersion.TheVariants.{One, Two}
use Rattle.peer_turns.specs.Ends.{AllFrom, calls_in}

abbrev finish : State → Out → Ending State
finish x out = Finished x out

state_is : (x y : State) (o p : Out) → finish x o ≡ finish y p → y ≡ x
state_is x y o p same = grind (arith, same)

module _ {S : Type 0} (does : S → (call : Call) → AnswerOf call → S → Type 0) (refuses : S → Call → PeerError → S → Type 0) (test : ℕ → Bool) where
  abbrev AnyCall : Call → Type 0
  AnyCall call = Unit {0}

  abbrev NoCalls : State → Out → Type 0
  NoCalls x out = AllFrom test (calls_in x.phase)

  none : (mode : Mode) (f : SavedFact) (trusted : Bool) → AllFrom test (calls_in (first_state mode f trusted).phase)
  none mode f trusted = All-nil (λ (w : Waiting). test w.from ≡ true)

  sealing_none : (seals : Bool) (mode : Mode) (view : List ℕ) → Follows AnyCall NoCalls (seals_opening seals mode view)
  sealing_none true mode view = (tt, λ root. (tt, λ u. none mode (opening_saved view root) true))
  sealing_none false mode view = (tt, λ u. none mode (opening_saved view None) true)

  resealed_none : (seal : Option (List ℕ)) (mode : Mode) (f : SavedFact) → Follows AnyCall NoCalls (reseals_if seal mode f)
  resealed_none None mode f = none mode f false
  resealed_none (Some seal) mode f = (tt, λ root. (tt, λ u. none mode (with_seal root f.fact) false))

  chosen_none : (whole : Bool) (entries : List Entry) (mode : Mode) (f : SavedFact) → Follows AnyCall NoCalls (if whole then migrated mode f entries else continued Two mode f)
  chosen_none true entries mode f = (tt, λ u. (tt, λ v. resealed_none f.seal mode f))
  chosen_none false entries mode f = (tt, λ u. none mode f false)

  continued_none : (tree : TreeVersion) (mode : Mode) (f : SavedFact) → Follows AnyCall NoCalls (continued_in tree mode f)
  continued_none One mode f = (tt, λ u. none mode f false)
  continued_none Two mode f = (tt, λ u. (tt, λ scan. chosen_none (is_whole scan) scan.entries mode f))

  opened_none : (mode : Mode) (view : List ℕ) (kept : Option SavedFact) → Follows AnyCall NoCalls (opened mode view kept)
  opened_none mode view None = (tt, λ u. sealing_none mode.sealing mode view)
  opened_none mode view (Some f) = continued_none mode.tree mode f

  ended_none : (p : Plan State) (s t : S) (ns ms : List Note) (x : State) (out : Out) → Follows AnyCall NoCalls p → Runs does refuses p s ns (Finished x out) t ms → AllFrom test (calls_in x.phase)
  ended_none (Done y more) s t ns ms x out ends ran = elim ran [
    | inl cut ↦ let none : ⊥ = grind (arith, cut.0) in absurd none
    | inr end ↦ subst (λ (z : State). AllFrom test (calls_in z.phase)) (state_is x y out more end.0) ends
  ]
  ended_none (Say note p) s t ns ms x out ends ran = elim ran [
    | inl cut ↦ let none : ⊥ = grind (arith, cut.0) in absurd none
    | inr on ↦ ended_none p s t (ns ++ note ∷ []) ms x out ends on
  ]
  ended_none (Ask call next) s t ns ms x out ends ran = elim ran [
    | inl cut ↦ let none : ⊥ = grind (arith, cut.0) in absurd none
    | inr (inl off) ↦ let none : ⊥ = grind (arith, off.2) in absurd none
    | inr (inr on) ↦ ended_none (next on.0) on.1 t ns ms x out (ends.1 on.0) on.3
  ]

  pub start_calls : (mode : Mode) (view : List ℕ) (s t : S) (x : State) → Runs does refuses (start_of mode view) s [] (Finished x nothing) t [] → AllFrom test (calls_in x.phase)
  start_calls mode view s t x ran = ended_none (start_of mode view) s t [] [] x nothing (tt, λ kept. opened_none mode view kept) ran
