-- The order of each key is a legal history.
use Rattle.std.proofs.Common.{◌≡◌, ℕ, ◌<◌, ◌≤◌, true, ◌⊎◌, List, Some, arith, ap, refl, inl, inr, sym, ◌∙◌, subst, le_trans}
use Rattle.std.specs.Prelude.{slice_get}
use Rattle.std.proofs.lemmas.Bool.{cases_order}
use Rattle.std.proofs.lemmas.Bool.Decides.{nat_tests}
use Rattle.ens_base.specs.Lists.{◌∈◌}
use Rattle.register_model.specs.declared.call.Call.{Call}
use Rattle.register_model.specs.declared.answer.Answer.{Answer as Given}
use Rattle.register_model.specs.Histories.{IsDone, IsRefused, StandsBefore, IsLegal}
use Rattle.register_model.specs.Orders.{order, settled_chain}
use Rattle.quorums.proofs.Majorities.{meet_of_quorums, shares_itself}
use Rattle.protocol_laws.proofs.Epochs.{not_empty, established_open}
use Rattle.protocol_laws.proofs.Maps.{epoch_mono, zero_not}
use Rattle.protocol_laws.proofs.Ordered.{by_place, distinct, get_in}
use Rattle.protocol_laws.proofs.Dead.{settled_alive}
use Rattle.protocol_laws.proofs.Descent.{Whole, run_whole}
use Rattle.protocol_laws.specs.Entries.{EntriesAreSafe, SawNothing, SawNewest, ReadKeeps, IsByWrite, IsByRead, AnswerKeeps, stood_above}
use Rattle.protocol_laws.proofs.Replies.{run_entries}
use Rattle.protocol_laws.proofs.Noted.{ReadHolds, Listed, run_listed}
use Rattle.protocol_laws.proofs.Chains.{IsOf, ancestor_at}
use Rattle.protocol_laws.proofs.Placed.{Stands, Before, stands_once, settled_in_chain, chain_line, version_is_of, order_before, in_order, write_in_order, read_in_order, noted_read}
use Rattle.protocol_laws.proofs.Runs.{done_of, order_runs}
use Rattle.protocol_laws.specs.Objects.{epoch_of}
use Rattle.protocol_laws.specs.Book.{Seen, stood_below, Wrote}
use Rattle.protocol_laws.specs.Protocol.{State, Step, IsRun, state_after}

module _ (s : State) (w : Whole s.objects) (entries : EntriesAreSafe s) (listed : Listed s) (k : List ℕ) where
  -- ## A read sees what was settled before its call

  sees_by_epoch : (v j : ℕ) → s.objects.settled v ≡ true → IsOf s k v → (n : Seen) → ReadKeeps s j n → n.key ≡ k → s.book.settled_at v < (s.book.asked j).event → v ≤ n.base
  sees_by_epoch v j hv gv n kept key early = by_order (cases_order (epoch_of v) n.epoch)
    where
      before_note : s.book.proposed_at v < n.event
      before_note = omega (arith, (entries.settled v hv).after, kept.after)

      too_early : n.event ≤ s.book.proposed_at v → ⊥
      too_early a = omega (arith, before_note)

      same : SawNothing s n ⊎ SawNewest s n → epoch_of v ≡ n.epoch → v ≤ n.base
      same (inl b) e = absurd (too_early (b.untouched v gv.0 (gv.1 ∙ sym key) e))
      same (inr b) e = b.greatest v gv.0 (gv.1 ∙ sym key) e before_note

      not_higher : epoch_of n.base ≡ n.epoch → epoch_of v < n.epoch → (v ≡ n.base) ⊎ ((v < n.base) ⊎ (n.base < v)) → v ≤ n.base
      not_higher e l (inl p) = omega arith
      not_higher e l (inr (inl p)) = omega arith
      not_higher e l (inr (inr p)) = let m : n.base ≤ v = omega arith in absurd (omega (arith, epoch_mono n.base v m))

      lower : SawNothing s n ⊎ SawNewest s n → epoch_of v < n.epoch → v ≤ n.base
      lower (inl b) l = absurd (settled_alive s.objects v w.settled hv (b.dead v gv.0 (gv.1 ∙ sym key) l))
      lower (inr b) l = not_higher b.epoch l (cases_order v n.base)

      apart : (q : ℕ) → stood_above s.book j n.epoch q ≡ true → stood_below s.book j n.epoch q ≡ true → ⊥
      apart q a b = grind (arith, nat_tests)

      higher : n.epoch < epoch_of v → ⊥
      higher l =
          let elected = w.basics.elected v gv.0 in
          let early_epoch : s.book.elected_at (epoch_of v) < (s.book.asked j).event = omega (arith, (entries.proposals v gv.0).elected, (entries.settled v hv).after) in
          let above = entries.past j kept.called n.epoch (epoch_of v) kept.elected elected l kept.before early_epoch (established_open s.objects.ledger w.sound n.epoch kept.established) in
          let c = (meet_of_quorums (stood_above s.book j n.epoch) (stood_below s.book j n.epoch) (s.objects.ledger.views n.epoch) (s.objects.ledger.views n.epoch) (shares_itself (s.objects.ledger.views n.epoch) (not_empty s.objects.ledger w.sound n.epoch kept.elected)) above kept.quorum).meet in
          apart c.peer c.in_left c.in_right

      by_order : (epoch_of v ≡ n.epoch) ⊎ ((epoch_of v < n.epoch) ⊎ (n.epoch < epoch_of v)) → v ≤ n.base
      by_order (inl e) = same kept.base e
      by_order (inr (inl l)) = lower kept.base l
      by_order (inr (inr l)) = absurd (higher l)

  -- ## No call that began after a completed call was answered comes before it

  -- i is answered before the call of j
  module _ (i j : ℕ) (a : Given) (is_answer : a ∈ s.book.answers) (id : a.id ≡ i) (is_done : IsDone a.reply) (called : s.book.called j ≡ true) (early : a.event < (s.book.asked j).event) (in_order_i : i ∈ order s.book.notes k) (in_order_j : j ∈ order s.book.notes k) where
    done : IsByWrite s i a ⊎ IsByRead s i (s.book.seen i) a
    done = done_of s w entries listed k i a is_answer id is_done

    -- the call was made before it was answered
    called_before : IsByWrite s i a ⊎ IsByRead s i (s.book.seen i) a → (s.book.asked i).event ≤ a.event
    called_before (inl b) = le_trans ((entries.proposals b.version b.proposed).write i b.call).after (le_trans (entries.settled b.version b.settled).after b.in_time)
    called_before (inr b) = le_trans (entries.reads i b.noted).after b.in_time

    not_itself : i ≡ j → ⊥
    not_itself e = too_late (called_before done) (subst (λ x. a.event < (s.book.asked x).event) (sym e) early)
      where
        too_late : (s.book.asked i).event ≤ a.event → a.event < (s.book.asked i).event → ⊥
        too_late p q = omega arith

    key_of_read : (x : ℕ) → (n : s.book.noted x ≡ true) → x ∈ order s.book.notes k → (s.book.seen x).key ≡ k
    key_of_read x n h = by_place_of (in_order s w entries listed k x h)
      where
        by_place_of : ReadHolds s x k 0 ⊎ ((v : ℕ) × (v ∈ settled_chain s.book.notes k) × (Wrote s.objects s.book x v ⊎ ReadHolds s x k v)) → (s.book.seen x).key ≡ k
        by_place_of (inl r) = r.key
        by_place_of (inr (v, h, inl a)) = absurd (entries.once.apart v x a n)
        by_place_of (inr (v, h, inr r)) = r.key

    of_write : (x v : ℕ) → Wrote s.objects s.book x v → x ∈ order s.book.notes k → v ∈ settled_chain s.book.notes k
    of_write x v wrote h = by_place_of (in_order s w entries listed k x h)
      where
        by_place_of : ReadHolds s x k 0 ⊎ ((u : ℕ) × (u ∈ settled_chain s.book.notes k) × (Wrote s.objects s.book x u ⊎ ReadHolds s x k u)) → v ∈ settled_chain s.book.notes k
        by_place_of (inl r) = absurd (entries.once.apart v x wrote r.noted)
        by_place_of (inr (u, h, inl a)) = subst (λ (y : ℕ). y ∈ settled_chain s.book.notes k) (entries.once.once u v x a wrote) h
        by_place_of (inr (u, h, inr r)) = absurd (entries.once.apart v x wrote r.noted)

    -- j is placed at version u, and a version v was settled before the call of j
    not_below : (u v : ℕ) → Stands s j u → s.objects.settled v ≡ true → IsOf s k v → s.book.settled_at v ≤ a.event → u < v → ⊥
    not_below u v (inl wrote) hv gv at l = too_late (ancestor_at s w.basics k entries v u (inr gv) (version_is_of s w entries listed k u (of_write j u wrote in_order_j)) (chain_line s w entries listed k v u (settled_in_chain s w entries listed k v hv gv) (of_write j u wrote in_order_j) (less l)))
        ((entries.proposals u wrote.0).write j wrote.1).after (entries.settled v hv).after
      where
        less : u < v → u ≤ v
        less l = omega arith

        too_late : s.book.proposed_at u ≤ s.book.proposed_at v → (s.book.asked j).event ≤ s.book.proposed_at u → s.book.proposed_at v ≤ s.book.settled_at v → ⊥
        too_late a b c = omega arith
    not_below u v (inr r) hv gv at l = too_low (sees_by_epoch v j hv gv (s.book.seen j) (entries.reads j r.0) (key_of_read j r.0 in_order_j) (omega arith)) r.1
      where
        too_low : v ≤ (s.book.seen j).base → (s.book.seen j).base ≡ u → ⊥
        too_low a b = omega arith

    no_zero_write : Wrote s.objects s.book j 0 → ⊥
    no_zero_write a = zero_not 0 (w.basics.led 0 a.0) refl

    -- j does not come before i
    not_before : (u v : ℕ) → Stands s j u → Stands s i v → (u < v) ⊎ ((u ≡ v) × (s.book.noted i ≡ true) × (s.book.noted j ≡ true → (s.book.seen j).event ≤ (s.book.seen i).event)) → IsByWrite s i a ⊎ IsByRead s i (s.book.seen i) a → ⊥
    not_before u v sj si (inl l) (inl b) = not_below u v sj (subst (λ x. s.objects.settled x ≡ true) same b.settled) gv (subst (λ x. s.book.settled_at x ≤ a.event) same b.in_time) l
      where
        same : b.version ≡ v
        same = stands_once s w entries listed k i b.version v (inl (b.proposed, b.call)) si

        gv : IsOf s k v
        gv = version_is_of s w entries listed k v (subst (λ (x : ℕ). x ∈ settled_chain s.book.notes k) same (of_write i b.version (b.proposed, b.call) in_order_i))
    not_before u v sj si (inr e) (inl b) = entries.once.apart b.version i (b.proposed, b.call) e.1
    not_before u v sj si (inl l) (inr b) = by_base (entries.reads i b.noted).base
      where
        same : (s.book.seen i).base ≡ v
        same = stands_once s w entries listed k i (s.book.seen i).base v (inr (b.noted, refl)) si

        none_below : (s.book.seen i).base ≡ 0 → ⊥
        none_below z = omega (arith, same)

        by_base : SawNothing s (s.book.seen i) ⊎ SawNewest s (s.book.seen i) → ⊥
        by_base (inl n) = none_below n.none
        by_base (inr n) = not_below u v sj (subst (λ x. s.objects.settled x ≡ true) same n.settled) (subst (IsOf s k) same (n.proposed, n.key ∙ key_of_read i b.noted in_order_i))
            (subst (λ x. s.book.settled_at x ≤ a.event) same (le_trans n.before b.in_time)) l
    not_before u v (inr r) si (inr e) (inr b) = too_late (e.2 r.0) b.in_time (entries.reads j r.0).after
      where
        too_late : (s.book.seen j).event ≤ (s.book.seen i).event → (s.book.seen i).event ≤ a.event → (s.book.asked j).event ≤ (s.book.seen j).event → ⊥
        too_late p q r = omega arith
    not_before u v (inl wrote) si (inr e) (inr b) = by_base (entries.reads i b.noted).base
      where
        same : (s.book.seen i).base ≡ u
        same = stands_once s w entries listed k i (s.book.seen i).base v (inr (b.noted, refl)) si ∙ sym e.0

        too_late : (x : ℕ) → x ≡ u → s.book.settled_at x ≤ (s.book.seen i).event → s.book.proposed_at x ≤ s.book.settled_at x → (s.book.asked j).event ≤ s.book.proposed_at x → (s.book.seen i).event ≤ a.event → ⊥
        too_late x e p q r t = omega arith

        by_base : SawNothing s (s.book.seen i) ⊎ SawNewest s (s.book.seen i) → ⊥
        by_base (inl n) = no_zero_write (subst (λ x. Wrote s.objects s.book j x) (sym same ∙ n.none) wrote)
        by_base (inr n) = too_late (s.book.seen i).base same n.before (entries.settled (s.book.seen i).base n.settled).after (subst (λ x. (s.book.asked j).event ≤ s.book.proposed_at x) (sym same) ((entries.proposals u wrote.0).write j wrote.1).after) b.in_time

    after : (p q : ℕ) → slice_get (order s.book.notes k) p ≡ Some i → slice_get (order s.book.notes k) q ≡ Some j → p < q
    after p q e f = by_order (cases_order p q)
      where
        same_id : p ≡ q → i ≡ j
        same_id r = some_same (sym e ∙ ap (slice_get (order s.book.notes k)) r ∙ f)
          where
            some_same : Some i ≡ Some j → i ≡ j
            some_same h = cc

        reversed : q < p → ⊥
        reversed l = let b : Before s j i = by_place (Before s) (order s.book.notes k) (order_before s w entries listed k) q p j i f e l in not_before b.left b.right b.first b.second b.order done

        by_order : (p ≡ q) ⊎ ((p < q) ⊎ (q < p)) → p < q
        by_order (inl r) = absurd (not_itself (same_id r))
        by_order (inr (inl l)) = l
        by_order (inr (inr l)) = absurd (reversed l)

  -- ## The parts

  of_key : (id : ℕ) → id ∈ order s.book.notes k → (c : Call) × (c ∈ s.book.calls) × (c.id ≡ id) × (c.key ≡ k)
  of_key id h = by_place_of (in_order s w entries listed k id h)
    where
      of_read : (v : ℕ) → ReadHolds s id k v → (c : Call) × (c ∈ s.book.calls) × (c.id ≡ id) × (c.key ≡ k)
      of_read v r = let kept = entries.reads id r.noted in (s.book.asked id, listed.call_in id kept.called, (entries.calls id kept.called).own_id, kept.on_key ∙ r.key)

      by_place_of : ReadHolds s id k 0 ⊎ ((v : ℕ) × (v ∈ settled_chain s.book.notes k) × (Wrote s.objects s.book id v ⊎ ReadHolds s id k v)) → (c : Call) × (c ∈ s.book.calls) × (c.id ≡ id) × (c.key ≡ k)
      by_place_of (inl r) = of_read 0 r
      by_place_of (inr (v, m, inl a)) = let kept = (entries.proposals v a.0).write id a.1 in (s.book.asked id, listed.call_in id kept.called, (entries.calls id kept.called).own_id, kept.on_key ∙ (version_is_of s w entries listed k v m).1)
      by_place_of (inr (v, m, inr r)) = of_read v r

  completed : (c : Call) (a : Given) → c ∈ s.book.calls → a ∈ s.book.answers → a.id ≡ c.id → c.key ≡ k → IsDone a.reply → c.id ∈ order s.book.notes k
  completed c a hc ha e key d = by_done (done_of s w entries listed k c.id a ha e d)
    where
      asked_key : (s.book.asked c.id).key ≡ k
      asked_key = ap (λ (x : Call). x.key) (listed.asked c hc) ∙ key

      by_base : (n : s.book.noted c.id ≡ true) → SawNothing s (s.book.seen c.id) ⊎ SawNewest s (s.book.seen c.id) → c.id ∈ order s.book.notes k
      by_base n (inl b) = read_in_order s w entries listed k 0 c.id (inl refl) (noted_read s w entries listed k 0 c.id n (sym (entries.reads c.id n).on_key ∙ asked_key) b.none)
      by_base n (inr b) = read_in_order s w entries listed k (s.book.seen c.id).base c.id (inr (settled_in_chain s w entries listed k (s.book.seen c.id).base b.settled (b.proposed, b.key ∙ (sym (entries.reads c.id n).on_key ∙ asked_key))))
          (noted_read s w entries listed k (s.book.seen c.id).base c.id n (sym (entries.reads c.id n).on_key ∙ asked_key) refl)

      by_done : IsByWrite s c.id a ⊎ IsByRead s c.id (s.book.seen c.id) a → c.id ∈ order s.book.notes k
      by_done (inl b) = write_in_order s w entries listed k b.version c.id (settled_in_chain s w entries listed k b.version b.settled (b.proposed, sym ((entries.proposals b.version b.proposed).write c.id b.call).on_key ∙ asked_key)) b.call
      by_done (inr b) = by_base b.noted (entries.reads c.id b.noted).base

  refused : (a : Given) → a ∈ s.book.answers → IsRefused a.reply → ¬ (a.id ∈ order s.book.notes k)
  refused a ha r h = by_place_of (in_order s w entries listed k a.id h)
    where
      kept : AnswerKeeps s a.id a
      kept = subst (λ (x : Given). AnswerKeeps s a.id x) (listed.answer a ha) (entries.answers a.id (listed.answered a ha))

      by_place_of : ReadHolds s a.id k 0 ⊎ ((v : ℕ) × (v ∈ settled_chain s.book.notes k) × (Wrote s.objects s.book a.id v ⊎ ReadHolds s a.id k v)) → ⊥
      by_place_of (inl n) = kept.not_noted r n.noted
      by_place_of (inr (v, m, inl x)) = kept.not_written r v x
      by_place_of (inr (v, m, inr n)) = kept.not_noted r n.noted

  in_time : (a : Given) (c : Call) → a ∈ s.book.answers → c ∈ s.book.calls → IsDone a.reply → a.event < c.event → StandsBefore (order s.book.notes k) a.id c.id
  in_time a c ha hc d early p q e f = after a.id c.id a ha refl d (listed.called c hc) (subst (λ (x : Call). a.event < x.event) (sym (listed.asked c hc)) early) (get_in (Before s) (order s.book.notes k) p a.id e) (get_in (Before s) (order s.book.notes k) q c.id f) p q e f

  pub legal : IsLegal s.book.calls s.book.answers k (order s.book.notes k)
  legal = record {
    once = distinct (Before s) (λ x b. b.differ refl) (order s.book.notes k) (order_before s w entries listed k);
    of_key = of_key;
    completed = completed;
    refused = refused;
    run = order_runs s w entries listed k;
    in_time = in_time;
  }

pub run_legal : (view : List ℕ) (steps : List Step) (key : List ℕ) → IsRun view steps → IsLegal (state_after view steps).book.calls (state_after view steps).book.answers key (order (state_after view steps).book.notes key)
run_legal view steps key run = legal (state_after view steps) (run_whole view steps run) (run_entries view steps run) (run_listed view steps run) key
