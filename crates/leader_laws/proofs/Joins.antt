-- What rule 27 keeps to.
use Rattle.std.proofs.Common.{◌≡◌, ◌≤◌, ◌+◌, ◌*◌, ◌==◌, refl, lit≤, ℕ, Bool, true, false, length, length-append, nat_le, if◌then◌else◌, List, [], ◌∷◌, ◌++◌, Some, None, arith}
use Rattle.phase_rows.specs.declared.rules.KeyRule.TheVariants as key_rules
use Rattle.ens_base.specs.Lists.{same_bytes}
use Rattle.ens_base.specs.declared.command.Command.{Command}
use Rattle.ens_base.specs.declared.reply.Reply.{Reply}
use Rattle.ens_base.specs.declared.reply.Reply.TheVariants as replies
use Rattle.call_table.specs.Calls.{running, waiting_on}
use Rattle.call_table.specs.declared.waiting.Waiting.{Waiting}
use Rattle.leader_output.specs.Outs.{rests, leads_on, and_answer}
use Rattle.leader_output.specs.declared.out.LeadOut.{LeadOut}
use Rattle.leader.specs.Leaders.{joined}
use Rattle.leader_laws.specs.Measure.{turns_after, weight, task_turns}
use Rattle.leader.specs.Starts.{row_27}
use Rattle.leader_laws.specs.Steps.{NamesOn, KeepsOthers, IsReadyFor, IsCalm, IsAtRest, CountsInOwnViews}
use Rattle.leader.specs.declared.leader.Leader.{Leader}
use Rattle.leader.proofs.Cases.{either}
use Rattle.leader_laws.proofs.Moves.{free}

-- rule 27 sends nothing and asks nothing of the stores
pub record IsJoin (key : List ℕ) (l : Leader) (r : Leader × LeadOut) : Type 0 where
  pub fact : r.0.fact ≡ l.fact
  pub me : r.0.me ≡ l.me
  pub accepts : r.0.accepts ≡ l.accepts
  pub seq : r.0.seq ≡ l.seq
  pub others : KeepsOthers key l.table r.0.table
  pub sends : r.1.sends ≡ []
  pub notes : r.1.notes ≡ []
  pub leave : r.1.leave ≡ false
  pub own : r.1.own ≡ None
  pub names : NamesOn key r.1.then r.1.keys
  pub lowers : turns_after r.1 + weight r.0 ≤ 25 + weight l
  pub ready : IsAtRest l → IsReadyFor key None r.1.then r.0
  pub calm : IsCalm l.table → IsCalm r.0.table
  pub counts : CountsInOwnViews l → CountsInOwnViews r.0

no_more : (x : ℕ) → 0 + x ≤ 25 + x
no_more x = omega arith

refused : (key : List ℕ) (l : Leader) (from id : ℕ) (reply : Reply) → IsJoin key l (l, and_answer from id reply rests)
refused key l from id reply = record {
  fact = refl;
  me = refl;
  accepts = refl;
  seq = refl;
  others = λ k off. refl;
  sends = refl;
  notes = refl;
  leave = refl;
  own = refl;
  names = refl;
  lowers = no_more (weight l);
  ready = λ rest. rest.task;
  calm = λ calm. calm;
  counts = λ before. before;
}

-- a key without a call after one joined had none before
pub none_before : (k : List ℕ) (calls : List Waiting) (w : Waiting) → running k (calls ++ w ∷ []) ≡ None → running k calls ≡ None
none_before k [] w e = refl
none_before k (v ∷ calls) w e = by_key (same_bytes v.key k) e (none_before k calls w)
  where
    by_key : (b : Bool) → (if b then Some v else running k (calls ++ w ∷ [])) ≡ None → (running k (calls ++ w ∷ []) ≡ None → running k calls ≡ None) → (if b then Some v else running k calls) ≡ None
    by_key true h later = absurd cc
    by_key false h later = later h

one_longer : (calls : List Waiting) (w : Waiting) (x a : ℕ) → a ≤ 12 → a + (13 * length (calls ++ w ∷ []) + x) ≤ 25 + (13 * length calls + x)
one_longer calls w x a h = let long : length (calls ++ w ∷ []) ≡ length calls + 1 = length-append calls (w ∷ []) in omega (arith, long, h)

joins : (key : List ℕ) (l : Leader) (w : Waiting) (alone : Bool) → IsJoin key l (joined w l, if alone then leads_on key_rules.StartCall key else rests)
joins key l w true = record {
  fact = refl;
  me = refl;
  accepts = refl;
  seq = refl;
  others = λ k off. refl;
  sends = refl;
  notes = refl;
  leave = refl;
  own = refl;
  names = refl;
  lowers = one_longer l.table.calls w (task_turns l.task) 12 (lit≤ tt);
  ready = λ rest. free key_rules.StartCall key (joined w l) refl rest.task;
  calm = λ calm k none. calm k (none_before k l.table.calls w none);
  counts = λ before. before;
}
joins key l w false = record {
  fact = refl;
  me = refl;
  accepts = refl;
  seq = refl;
  others = λ k off. refl;
  sends = refl;
  notes = refl;
  leave = refl;
  own = refl;
  names = refl;
  lowers = one_longer l.table.calls w (task_turns l.task) 0 (lit≤ tt);
  ready = λ rest. rest.task;
  calm = λ calm k none. calm k (none_before k l.table.calls w none);
  counts = λ before. before;
}

pub row_27_joins : (from id : ℕ) (key : List ℕ) (command : Command) (finishing : Bool) (l : Leader) → IsJoin key l (row_27 from id key command finishing l)
row_27_joins from id key command finishing l =
    either (λ (r : Leader × LeadOut). IsJoin key l r) finishing _ _ (refused key l from id replies.Unavailable)
    (either (λ (r : Leader × LeadOut). IsJoin key l r) (nat_le 16 (waiting_on key l.table.calls)) _ _ (refused key l from id replies.Busy)
    (joins key l (record { from = from; id = id; key = key; command = command; age = 0 }) (waiting_on key l.table.calls == 0)))
