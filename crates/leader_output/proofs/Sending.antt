-- One more turn of the loop that sends a message to all members.
use Rattle.std.proofs.Common.{◌≡◌, ℕ, suc, ◌+◌, arith, Bool, true, false, if◌then◌else◌, List, [], ◌∷◌, ◌++◌, refl, sym, ap, ◌∙◌, ◌&&◌, ◌==◌, not}
use Rattle.std.proofs.lemmas.List.{append_assoc, append-nil}
use Rattle.object_commands.specs.EnsBase.{holds}
use Rattle.quorums.specs.Quorums.{is_member}
use Rattle.phase_rows.specs.WireFrames.{Message}
use Rattle.leader_output.specs.Outs.{and_send}
use Rattle.leader_output.specs.Sends.{is_other, is_other_in, sent_up_to}
use Rattle.leader_output.specs.declared.out.LeadOut.{LeadOut}
use Rattle.leader_output.specs.declared.out.Outgoing.{Outgoing}

abbrev one : Bool → ℕ → Message → List Outgoing
one b n message = if b then record { to = n + 1; message = message } ∷ [] else []

step_at : (test : ℕ → Bool) (message : Message) (n m : ℕ) → m ≡ suc n → sent_up_to test message m ≡ sent_up_to test message n ++ one (test (n + 1)) n message
unfolding sent_up_to
step_at test message n m e = rw e refl

step : (test : ℕ → Bool) (message : Message) (n : ℕ) → sent_up_to test message (n + 1) ≡ sent_up_to test message n ++ one (test (n + 1)) n message
step test message n = step_at test message n (n + 1) (omega arith)

-- the members of the views are those of the set that stands for them
pub in_views : (me : ℕ) (views : List (List ℕ)) (members : List Bool) (p : ℕ) {b : Bool} → holds members p ≡ is_member views p → is_other_in me members p ≡ b → is_other me views p ≡ b
in_views me views members p same is = ap (λ (t : Bool). t && not (p == me)) (sym same) ∙ is

-- a message to a member that passes the test
pub sent_to : (test : ℕ → Bool) (message copied : Message) (n : ℕ) (old before now : LeadOut) → test (n + 1) ≡ true → copied ≡ message → before ≡ record old { sends = old.sends ++ sent_up_to test message n } → now ≡ and_send (n + 1) copied before → now ≡ record old { sends = old.sends ++ sent_up_to test message (n + 1) }
sent_to test message copied n old before now passes same b s = rw s (rw same (rw b (ap (λ (xs : List Outgoing). record old { sends = xs }) (append_assoc old.sends (sent_up_to test message n) (one true n message) ∙ ap (λ (xs : List Outgoing). old.sends ++ xs) (ap (λ b. sent_up_to test message n ++ one b n message) (sym passes) ∙ sym (step test message n))))))

-- no message to a number that does not pass it
pub sent_none : (test : ℕ → Bool) (message : Message) (n : ℕ) (old before : LeadOut) → test (n + 1) ≡ false → before ≡ record old { sends = old.sends ++ sent_up_to test message n } → before ≡ record old { sends = old.sends ++ sent_up_to test message (n + 1) }
sent_none test message n old before fails b = b ∙ ap (λ (xs : List Outgoing). record old { sends = old.sends ++ xs }) (sym (append-nil (sent_up_to test message n)) ∙ ap (λ b. sent_up_to test message n ++ one b n message) (sym fails) ∙ sym (step test message n))
