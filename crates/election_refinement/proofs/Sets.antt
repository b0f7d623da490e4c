-- Sets of peers, and messages to them.
use Rattle.std.proofs.Common.{◌≡◌, ℕ, zero, suc, ◌≤◌, ◌+◌, Bool, true, false, ◌==◌, if◌then◌else◌, eqb-true, List, [], ◌∷◌, Option, Some, None, arith, refl, sym, ◌∙◌, subst}
use Rattle.std.specs.Prelude.{All}
use Rattle.std.proofs.lemmas.Bool.{eqb-false, false≢true}
use Rattle.std.proofs.lemmas.List.{get_or-set_other}
use Rattle.std.proofs.lemmas.List.Elements.{All-nil, All-cons, All-append}
use Rattle.protocol_laws.specs.Ledger.{Ledger}
use Rattle.ens_base.specs.PeerSet.{holds}
use Rattle.step_plans.specs.Sends.{posted, posted_to}
use Rattle.leader_output.specs.declared.out.Outgoing.{Outgoing}
use Rattle.phase_rows.specs.Peers.{nobody, joined, alone}
use Rattle.wire_frames.specs.declared.message.Message.{Message}
use Rattle.election_refinement.proofs.Tests.{by_test}
use Rattle.election_refinement.specs.Refinement.{MessageHolds, SendHolds}
use Rattle.quorums.proofs.Sets.{no_flag}

-- what holds of a peer and of all members of a set holds of all members once the peer joins
pub joined_then : (P : ℕ → Type 0) (peer : ℕ) (set : List Bool) → P peer → ((q : ℕ) → holds set q ≡ true → P q) → (q : ℕ) → holds (joined peer set) q ≡ true → P q
joined_then P peer set here old q h = by_same (peer == q) refl
  where
    by_same : (b : Bool) → (peer == q) ≡ b → P q
    by_same true e = subst P (eqb-true peer q e) here
    by_same false e = old q (sym (get_or-set_other set peer q true false (λ s. eqb-false peer q e (sym s))) ∙ h)

pub nobody_then : (P : ℕ → Type 0) (q : ℕ) → holds nobody q ≡ true → P q
nobody_then P q h = absurd (false≢true (sym (no_flag 32 q) ∙ h))

pub alone_then : (P : ℕ → Type 0) (peer : ℕ) → P peer → (q : ℕ) → holds (alone peer) q ≡ true → P q
alone_then P peer here = joined_then P peer nobody here (nobody_then P)

-- what the message of a row asserts, if it has one
abbrev pub RowSays : Ledger → ℕ → Option Message → Type 0
RowSays l p None = Unit {0}
RowSays l p (Some message) = MessageHolds l p message

module _ (l : Ledger) (p : ℕ) where
  -- messages to peers, each of which asserts what holds
  pub posted_hold : (test : ℕ → Bool) (word : ℕ → Message) → ((q : ℕ) → MessageHolds l p (word q)) → (n : ℕ) → n ≤ 31 → All (SendHolds l p) (posted test word n)
  unfolding posted
  posted_hold test word says zero within = All-nil (SendHolds l p)
  posted_hold test word says (suc n) within = All-append (SendHolds l p) (posted test word n) (if test (n + 1) then sent ∷ [] else []) (posted_hold test word says n (omega arith))
      (by_test (All (SendHolds l p)) (test (n + 1)) (sent ∷ []) []
      (λ is. All-cons (SendHolds l p) sent [] ((omega arith, omega arith), says (n + 1)) (All-nil (SendHolds l p)))
      (λ not. All-nil (SendHolds l p)))
    where
      sent : Outgoing
      sent = record { to = n + 1; message = word (n + 1) }

  pub posted_to_hold : (set : List Bool) (message : Option Message) → RowSays l p message → All (SendHolds l p) (posted_to set message)
  posted_to_hold set None says = All-nil (SendHolds l p)
  posted_to_hold set (Some message) says = posted_hold (holds set) (λ q. message) (λ q. says) 31 (omega arith)
