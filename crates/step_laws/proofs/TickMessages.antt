-- What a tick sends to whom.
use Rattle.std.proofs.Common.{◌≡◌, ◌≤◌, ◌⊎◌, ◌+◌, ◌∙◌, ◌==◌, ◌&&◌, not, ap, sym, refl, subst, inl, inr, ℕ, zero, suc, Bool, true, false, is_none, if◌then◌else◌, List, [], ◌∷◌, ◌++◌, None, Some, arith}
use Rattle.std.proofs.lemmas.Bool.{true≢false, and_parts}
use Rattle.std.proofs.lemmas.Bool.Decides.{nat_tests}
use Rattle.ens_base.proofs.Lists.{in_append, in_left, in_right}
use Rattle.ens_base.specs.Lists.{◌∈◌}
use Rattle.ens_base.specs.PeerSet.{holds}
use Rattle.quorums.specs.Quorums.{is_member}
use Rattle.stored_formats.specs.declared.fact.Fact.{Fact}
use Rattle.phase_rows.specs.Orders.{is_joint}
use Rattle.wire_frames.specs.declared.message.Message.{Message}
use Rattle.wire_frames.specs.declared.message.Message.TheVariants.{NewEpoch, Commit, Beat}
use Rattle.phase_rows.specs.declared.phase.Then.TheVariants.{Stay, Rule}
use Rattle.phase_rows.specs.declared.rules.PhaseRule.TheVariants as phase_rules
use Rattle.leader_output.specs.Sends.{is_other}
use Rattle.leader_output.specs.declared.out.Outgoing.{Outgoing}
use Rattle.step_laws.specs.Answers.{IsOther, IsTold, IsNotTold}
use Rattle.leader.specs.Ticks.{Finishing, finishing_message, tick_message, ticks_up_to, row_5_rest}
use Rattle.leader.specs.declared.leader.Leader.{Leader}

-- a message of a tick goes to another member, and is the one for it
record IsTick (finishing : Finishing) (fact : Fact) (l : Leader) (o : Outgoing) : Type 0 where
  other : is_other l.me l.fact.views o.to ≡ true
  message : o.message ≡ tick_message finishing fact l o.to

module _ (finishing : Finishing) (fact : Fact) (l : Leader) where
  -- the message to the peer of this number
  abbrev to : ℕ → Outgoing
  to p = record { to = p; message = tick_message finishing fact l p }

  one_tick : (p : ℕ) (b : Bool) → is_other l.me l.fact.views p ≡ b → (o : Outgoing) → o ∈ (if b then record { to = p; message = tick_message finishing fact l p } ∷ [] else []) → IsTick finishing fact l o
  one_tick p true is o (inl same) = record {
    other = subst (λ (q : Outgoing). is_other l.me l.fact.views q.to ≡ true) (sym same) is;
    message = subst (λ (q : Outgoing). q.message ≡ tick_message finishing fact l q.to) (sym same) refl;
  }
  one_tick p true is o (inr at) = absurd at
  one_tick p false is o at = absurd at

  -- the message to this number, if there is one
  abbrev last_of : ℕ → List Outgoing
  last_of n = if is_other l.me l.fact.views (n + 1) then record { to = n + 1; message = tick_message finishing fact l (n + 1) } ∷ [] else []

  by_part : (n : ℕ) (o : Outgoing) → (o ∈ ticks_up_to finishing fact l n → IsTick finishing fact l o) → (o ∈ ticks_up_to finishing fact l n) ⊎ (o ∈ last_of n) → IsTick finishing fact l o
  by_part n o earlier (inl before) = earlier before
  by_part n o earlier (inr last) = one_tick (n + 1) (is_other l.me l.fact.views (n + 1)) refl o last

  all_ticks : (n : ℕ) (o : Outgoing) → o ∈ ticks_up_to finishing fact l n → IsTick finishing fact l o
  unfolding ticks_up_to
  all_ticks zero o at = absurd at
  all_ticks (suc n) o at = by_part n o (all_ticks n o) (in_append (ticks_up_to finishing fact l n) (last_of n) o at)

  number : (a b : ℕ) → (a == b) ≡ true → a ≡ b
  number a b e = grind (arith, nat_tests)

  earlier_number : (p n : ℕ) → p ≤ suc n → (p == n + 1) ≡ false → p ≤ n
  earlier_number p n high e = grind (arith, nat_tests)

  last_to : (n p : ℕ) → is_other l.me l.fact.views p ≡ true → p ≡ n + 1 → to p ∈ last_of n
  last_to n p is same = subst (λ (b : Bool). to p ∈ (if b then record { to = n + 1; message = tick_message finishing fact l (n + 1) } ∷ [] else [])) (sym (ap (is_other l.me l.fact.views) (sym same) ∙ is)) (inl (ap to same))

  by_last : (n p : ℕ) (b : Bool) → (p == n + 1) ≡ b → p ≤ suc n → is_other l.me l.fact.views p ≡ true → (p ≤ n → to p ∈ ticks_up_to finishing fact l n) → to p ∈ (ticks_up_to finishing fact l n ++ last_of n)
  by_last n p true e high is earlier = in_right (ticks_up_to finishing fact l n) (last_of n) (to p) (last_to n p is (number p (n + 1) e))
  by_last n p false e high is earlier = in_left (ticks_up_to finishing fact l n) (last_of n) (to p) (earlier (earlier_number p n high e))

  told_to : (n p : ℕ) → 1 ≤ p → p ≤ n → is_other l.me l.fact.views p ≡ true → to p ∈ ticks_up_to finishing fact l n
  unfolding ticks_up_to
  told_to zero p low high is = absurd (omega (arith, low, high))
  told_to (suc n) p low high is = by_last n p (p == n + 1) refl high is (λ le. told_to n p low le is)

  is_other_of : (p : ℕ) → IsOther p l → is_other l.me l.fact.views p ≡ true
  is_other_of p is = ap (λ (b : Bool). b && not (p == l.me)) is.member ∙ ap not (apart (p == l.me) refl)
    where
      apart : (b : Bool) → (p == l.me) ≡ b → b ≡ false
      apart true e = absurd (is.other (number p l.me e))
      apart false e = refl

  -- each other member is told what the tick message for it is
  pub is_told : (p : ℕ) → IsOther p l → (message : Message) → tick_message finishing fact l p ≡ message → IsTold p message (row_5_rest finishing fact l)
  is_told p is message e = record {
    told = subst (λ (m : Message). record { to = p; message = m } ∈ ticks_up_to finishing fact l 31) e (told_to 31 p is.peer.0 is.peer.1 (is_other_of p is));
    only = λ sent at same. (all_ticks 31 sent at).message ∙ ap (tick_message finishing fact l) same ∙ e;
  }

  last_number : (n : ℕ) (o : Outgoing) (b : Bool) → o ∈ (if b then record { to = n + 1; message = tick_message finishing fact l (n + 1) } ∷ [] else []) → o.to ≡ n + 1
  last_number n o true (inl same) = ap (λ (q : Outgoing). q.to) same
  last_number n o true (inr rest) = absurd rest
  last_number n o false rest = absurd rest

  in_range : (n : ℕ) (o : Outgoing) → (o ∈ ticks_up_to finishing fact l n → (1 ≤ o.to) × (o.to ≤ n)) → (o ∈ ticks_up_to finishing fact l n) ⊎ (o ∈ last_of n) → (1 ≤ o.to) × (o.to ≤ suc n)
  in_range n o earlier (inl before) = let b = earlier before in (b.0, omega (arith, b.1))
  in_range n o earlier (inr last) = let e = last_number n o (is_other l.me l.fact.views (n + 1)) last in (omega (arith, e), omega (arith, e))

  at_most : (n : ℕ) (o : Outgoing) → o ∈ ticks_up_to finishing fact l n → (1 ≤ o.to) × (o.to ≤ n)
  unfolding ticks_up_to
  at_most zero o at = absurd at
  at_most (suc n) o at = in_range n o (at_most n o) (in_append (ticks_up_to finishing fact l n) (last_of n) o at)

  pub is_not_told : (p : ℕ) → ¬ IsOther p l → IsNotTold p (row_5_rest finishing fact l)
  is_not_told p apart sent at same =
      let tick = all_ticks 31 sent at in
      let parts = and_parts (is_member l.fact.views sent.to) (not (sent.to == l.me)) tick.other in
      apart (record { peer = subst (λ (q : ℕ). (1 ≤ q) × (q ≤ 31)) same (at_most 31 sent at); member = subst (λ (q : ℕ). is_member l.fact.views q ≡ true) same parts.0; other = λ me. not_me (same ∙ me) parts.1 })
    where
      not_me : sent.to ≡ l.me → not (sent.to == l.me) ≡ true → ⊥
      not_me me is = true≢false (sym is ∙ ap (λ (q : ℕ). not (q == l.me)) me ∙ itself l.me)
        where
          itself : (n : ℕ) → not (n == n) ≡ false
          itself n = grind (arith, nat_tests)

  ends_by : (joint : Bool) → is_joint l.fact.views ≡ joint → (f : Finishing) → finishing ≡ f → (((if is_none f && joint then Rule phase_rules.BeginChange else Stay) ≡ Rule phase_rules.BeginChange) → (is_joint l.fact.views ≡ true) × (finishing ≡ None))
  ends_by true e None none h = (e, none)
  ends_by true e (Some f) some h = absurd cc
  ends_by false e None same h = absurd cc
  ends_by false e (Some f) same h = absurd cc

  pub ends : ((row_5_rest finishing fact l).then ≡ Rule phase_rules.BeginChange) → (is_joint l.fact.views ≡ true) × (finishing ≡ None)
  ends h = ends_by (is_joint l.fact.views) refl finishing refl h

  pub ended : (is_joint l.fact.views ≡ true) × (finishing ≡ None) → (row_5_rest finishing fact l).then ≡ Rule phase_rules.BeginChange
  ended both = ap (λ (f : Finishing). if is_none f && is_joint l.fact.views then Rule phase_rules.BeginChange else Stay) both.1 ∙ ap (λ (b : Bool). if b then Rule phase_rules.BeginChange else Stay) both.0

-- the messages, by who has accepted what
pub not_accepted : (finishing : Finishing) (fact : Fact) (l : Leader) (p : ℕ) → holds l.accepts p ≡ false → tick_message finishing fact l p ≡ NewEpoch l.fact
not_accepted finishing fact l p e = ap (λ (b : Bool). if b then finishing_message finishing fact l p else NewEpoch l.fact) e

pub accepted_by : (finishing : Finishing) (fact : Fact) (l : Leader) (p : ℕ) → holds l.accepts p ≡ true → tick_message finishing fact l p ≡ finishing_message finishing fact l p
accepted_by finishing fact l p e = ap (λ (b : Bool). if b then finishing_message finishing fact l p else NewEpoch l.fact) e

pub change_open : (accepted : List Bool) (age : ℕ) (fact : Fact) (l : Leader) (p : ℕ) (b : Bool) → holds accepted p ≡ b → finishing_message (Some (accepted, age)) fact l p ≡ (if b then Beat l.fact.epoch else Commit fact)
change_open accepted age fact l p b e = ap (λ (t : Bool). if t then Beat l.fact.epoch else Commit fact) e
