-- One more turn of the loop that sends the messages of a tick.
use Rattle.std.proofs.Common.{◌≡◌, ℕ, suc, ◌+◌, arith, Bool, true, false, if◌then◌else◌, List, [], ◌∷◌, ◌++◌, refl, sym, ap, ◌∙◌}
use Rattle.std.proofs.lemmas.List.{append_assoc, append-nil}
use Rattle.phase_rows.specs.StoredFormats.{Fact}
use Rattle.phase_rows.specs.WireFrames.{Message}
use Rattle.leader_output.specs.Outs.{and_send}
use Rattle.leader_output.specs.Sends.{is_other}
use Rattle.leader_output.specs.declared.out.LeadOut.{LeadOut}
use Rattle.leader_output.specs.declared.out.Outgoing.{Outgoing}
use Rattle.leader.specs.Ticks.{Finishing, tick_message, ticks_up_to}
use Rattle.leader.specs.declared.leader.Leader.{Leader}

abbrev one : Bool → ℕ → Message → List Outgoing
one b n message = if b then record { to = n + 1; message = message } ∷ [] else []

step_at : (finishing : Finishing) (fact : Fact) (l : Leader) (n m : ℕ) → m ≡ suc n → ticks_up_to finishing fact l m ≡ ticks_up_to finishing fact l n ++ one (is_other l.me l.fact.views (n + 1)) n (tick_message finishing fact l (n + 1))
unfolding ticks_up_to
step_at finishing fact l n m e = rw e refl

step : (finishing : Finishing) (fact : Fact) (l : Leader) (n : ℕ) → ticks_up_to finishing fact l (n + 1) ≡ ticks_up_to finishing fact l n ++ one (is_other l.me l.fact.views (n + 1)) n (tick_message finishing fact l (n + 1))
step finishing fact l n = step_at finishing fact l n (n + 1) (omega arith)

-- a message to another member
pub tick_to : (finishing : Finishing) (fact : Fact) (l : Leader) (message : Message) (n : ℕ) (old before now : LeadOut) → is_other l.me l.fact.views (n + 1) ≡ true → message ≡ tick_message finishing fact l (n + 1) → before ≡ record old { sends = old.sends ++ ticks_up_to finishing fact l n } → now ≡ and_send (n + 1) message before → now ≡ record old { sends = old.sends ++ ticks_up_to finishing fact l (n + 1) }
tick_to finishing fact l message n old before now passes same b s = rw s (rw same (rw b (ap (λ (xs : List Outgoing). record old { sends = xs }) (append_assoc old.sends (ticks_up_to finishing fact l n) (one true n (tick_message finishing fact l (n + 1))) ∙ ap (λ (xs : List Outgoing). old.sends ++ xs) (ap (λ b. ticks_up_to finishing fact l n ++ one b n (tick_message finishing fact l (n + 1))) (sym passes) ∙ sym (step finishing fact l n))))))

-- no message to any other number
pub tick_none : (finishing : Finishing) (fact : Fact) (l : Leader) (n : ℕ) (old before : LeadOut) → is_other l.me l.fact.views (n + 1) ≡ false → before ≡ record old { sends = old.sends ++ ticks_up_to finishing fact l n } → before ≡ record old { sends = old.sends ++ ticks_up_to finishing fact l (n + 1) }
tick_none finishing fact l n old before fails b = b ∙ ap (λ (xs : List Outgoing). record old { sends = old.sends ++ xs }) (sym (append-nil (ticks_up_to finishing fact l n)) ∙ ap (λ b. ticks_up_to finishing fact l n ++ one b n (tick_message finishing fact l (n + 1))) (sym fails) ∙ sym (step finishing fact l n))
