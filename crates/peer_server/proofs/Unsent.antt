-- What some steps put out, sent one after another.
use Rattle.std.specs.Prelude.{All, Option}
use Rattle.std.proofs.Common.{◌≡◌, ◌∙◌, ap, sym, subst, ℕ, List, [], ◌∷◌, ◌++◌, Ok, Err, append_assoc, append-nil}
use Rattle.std.proofs.lemmas.List.Elements.{All-head, All-tail}
use Rattle.environment.specs.declared.errors.LinkError.{LinkError}
use Rattle.peer_turns.proofs.Prefixes.{broke_early, sent_none, sent_on}
use Rattle.peer_turns.specs.Sending.{BrokeOff, SentAll}
use Rattle.step_plans.specs.Outboxes.{out_of}
use Rattle.step_plans.specs.declared.outbox.Outbox.{Outbox}
use Rattle.peer_turns.specs.Deeds.{frames_of}
use Rattle.peer_server.proofs.Lining.{waiting_later, waiting_more}
use Rattle.peer_server.specs.Commits.{IsSendable}
use Rattle.peer_server.specs.Lines.{frames_waiting}

module _ {L : Type 0} (sent : L → Option (List (ℕ × List ℕ))) (given : L → Option (List (Option (List ℕ)))) (faults : L → ℕ) (me : ℕ) (outs : List Outbox) (first : L) where
  -- all of it but this was sent, and this can be sent
  pub record Sending (left : List Outbox) (now : L) : Type 0 where
    pub done : List Outbox
    pub all : outs ≡ done ++ left
    pub may : All (IsSendable me) left
    pub went : SentAll sent given faults (frames_waiting me done) first now

  pub sends : (left : List Outbox) → left ≡ outs → All (IsSendable me) outs → Sending left first
  sends left same may = record { done = []; all = sym same; may = subst (All (IsSendable me)) (sym same) may; went = sent_none sent given faults first }

  pub sends_next : (left : List Outbox) (out : Outbox) (rest : List Outbox) (now next : L) → left ≡ out ∷ rest → Sending left now → SentAll sent given faults (frames_of me (out_of out)) now next → Sending rest next
  sends_next left out rest now next same old one = record {
    done = old.done ++ out ∷ [];
    all = old.all ∙ ap (λ (l : List Outbox). old.done ++ l) same ∙ sym (append_assoc old.done (out ∷ []) rest);
    may = All-tail (IsSendable me) out rest (subst (All (IsSendable me)) same old.may);
    went =
        subst (λ (fs : List (ℕ × List ℕ)). SentAll sent given faults fs first next) (sym (waiting_more me old.done out))
        (sent_on sent given faults {T = Unit {0}} first now next (frames_waiting me old.done) (frames_of me (out_of out)) (Ok tt) old.went one);
  }

  pub next_is_sendable : (left : List Outbox) (out : Outbox) (rest : List Outbox) (now : L) → left ≡ out ∷ rest → Sending left now → IsSendable me out
  next_is_sendable left out rest now same old = All-head (IsSendable me) out rest (subst (All (IsSendable me)) same old.may)

  pub sends_no_more : (e : LinkError) (left : List Outbox) (out : Outbox) (rest : List Outbox) (now next : L) → left ≡ out ∷ rest → Sending left now → BrokeOff sent given faults e (frames_of me (out_of out)) now next
      → BrokeOff sent given faults e (frames_waiting me outs) first next
  sends_no_more e left out rest now next same old one =
      subst (λ (fs : List (ℕ × List ℕ)). BrokeOff sent given faults e fs first next) (sym (ap (frames_waiting me) (old.all ∙ ap (λ (l : List Outbox). old.done ++ l) same) ∙ waiting_later me old.done (out ∷ rest)))
      (sent_on sent given faults {T = Unit {0}} first now next (frames_waiting me old.done) (frames_of me (out_of out) ++ frames_waiting me rest) (Err e) old.went
      (broke_early sent given faults e now next (frames_of me (out_of out)) (frames_waiting me rest) one))

  pub sent_to_the_end : (left : List Outbox) (now : L) → left ≡ [] → Sending left now → SentAll sent given faults (frames_waiting me outs) first now
  sent_to_the_end left now none old =
      subst (λ (fs : List (ℕ × List ℕ)). SentAll sent given faults fs first now) (ap (frames_waiting me) (sym (append-nil old.done) ∙ ap (λ (l : List Outbox). old.done ++ l) (sym none) ∙ sym old.all)) old.went
