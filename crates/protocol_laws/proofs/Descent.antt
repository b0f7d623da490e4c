-- Which versions descend from which, through each step.
use Rattle.std.proofs.Common.{◌≡◌, ℕ, ◌<◌, ◌≤◌, Bool, true, ◌⊎◌, List, [], ◌∷◌, length, arith, subst, refl, inl, inr, sym, ◌∙◌, le_trans}
use Rattle.std.proofs.lemmas.Bool.Decides.{nat_tests}
use Rattle.std.proofs.lemmas.Bool.{false≢true, cases_order}
use Rattle.ens_base.specs.Views.{last_view}
use Rattle.quorums.proofs.Majorities.{majority_of_quorum}
use Rattle.quorums.specs.Quorums.{is_majority}
use Rattle.protocol_laws.proofs.Sound.{Sound, sound_step, opening_sound}
use Rattle.protocol_laws.proofs.Epochs.{not_both, not_empty}
use Rattle.protocol_laws.proofs.Maps.{epoch_mono, epoch_of-zero}
use Rattle.protocol_laws.proofs.Basics.{Basics, Settled, basics_step, settled_step, opening_basics, opening_settled, proposed_then}
use Rattle.protocol_laws.proofs.Views.{last_view_in}
use Rattle.protocol_laws.proofs.Dead.{dead_stays, new_dead}
use Rattle.protocol_laws.proofs.Keeping.{KeptSince, kept_step, since_step, aged_kept, aged_floors, found_from, or_dead, or_has}
use Rattle.protocol_laws.specs.Ledger.{put}
use Rattle.protocol_laws.specs.Objects.{Objects, opening_objects, epoch_of, IsGenuine, IsHeard, IsNewest, MayBegin, MayPropose, propose}
use Rattle.protocol_laws.specs.Protocol.{Step, Begin, Ask, Raise, Elect, Accept, Commit, Adopt, Write, Acknowledge, Install, EndSync, Propose, Settle, Note, Answer, Lose, Revert, objects_after, MayDo, IsRun, state_after}
use Rattle.protocol_laws.specs.Versions.{IsDead, Descends, itself, further, Kept, HasIt, Link, Chain, Descent}

abbrev pub IsOld : Objects → ℕ → Type 0
IsOld o v = (v ≡ 0) ⊎ (o.proposed v ≡ true)

pub old_parent : (o : Objects) → Basics o → (v : ℕ) → IsOld o v → IsOld o (o.parent v)
old_parent o basics v (inl e) = inl (rw e basics.no_parent)
old_parent o basics v (inr p) = basics.parents v p

-- what a quorum showed is at least each lower version of the key that is not dead
pub heard_has : (o : Objects) (d : ℕ) (k : List ℕ) (u : ℕ) → IsHeard o d k u → o.ledger.elected d ≡ true → Sound o.ledger → Basics o → KeptSince o → (y : ℕ) → o.proposed y ≡ true → o.key y ≡ k → epoch_of y < d → (y ≤ u) ⊎ IsDead o y
heard_has o d k u b ed sound basics since y py ky l = by_found (found_from o sound basics since d y b.readers py ed l majority b.reached)
  where
    majority : is_majority b.readers (last_view (o.ledger.views d)) ≡ true
    majority = majority_of_quorum b.readers (o.ledger.views d) (last_view (o.ledger.views d)) (last_view_in (o.ledger.views d) (not_empty o.ledger sound d ed)) b.quorum

    by_found : HasIt o d y b.readers ⊎ IsDead o y → (y ≤ u) ⊎ IsDead o y
    by_found (inl h) = inl (le_trans (rw ky at h.has) (b.given h.peer h.among))
    by_found (inr d) = inr d

-- ## A proposal

module _ (o : Objects) (x : ℕ) (k : List ℕ) (u : ℕ) (may : MayPropose o x k u) (sound : Sound o.ledger) (basics : Basics o) (since : KeptSince o) (chain : Chain o) (descent : Descent o) where
  not_old : (v : ℕ) → IsOld o v → x ≡ v → ⊥
  not_old v (inl z) e = absurd (omega (arith, may.lower))
  not_old v (inr p) e = not_both p (rw (← e) may.fresh)

  parent_other : (v : ℕ) → (x ≡ v → ⊥) → o.parent v ≡ put o.parent x u v
  parent_other v n = grind (arith, nat_tests)

  parent_here : u ≡ put o.parent x u x
  parent_here = grind (arith, nat_tests)

  pub stable : (v y : ℕ) → IsOld o v → Descends o.parent v y → Descends (put o.parent x u) v y
  stable v y old (itself w) = itself w
  stable v y old (further w z r) = further w z (subst (λ p. Descends (put o.parent x u) p z) (parent_other w (not_old w old)) (stable (o.parent w) z (old_parent o basics w old) r))

  from_parent : (y : ℕ) → o.proposed u ≡ true → Descends o.parent u y → Descends (put o.parent x u) x y
  from_parent y pu r = further x y (subst (λ p. Descends (put o.parent x u) p y) parent_here (stable u y (inr pu) r))

  key_same : (v : ℕ) → (x ≡ v → ⊥) → put o.key x k v ≡ o.key v
  key_same v n = grind (arith, nat_tests)

  key_here : put o.key x k x ≡ k
  key_here = grind (arith, nat_tests)

  -- y is in the chain of u, which has its key
  below_parent : (y : ℕ) → o.proposed u ≡ true → o.key u ≡ k → o.proposed y ≡ true → o.key y ≡ k → (y ≡ u) ⊎ ((y < u) ⊎ (u < y)) → y ≤ u → Descends (put o.parent x u) x y ⊎ IsDead o y
  below_parent y pu ku py ky (inl e) l = inl (rw e (from_parent u pu (itself u)))
  below_parent y pu ku py ky (inr (inr h)) l = absurd (omega arith)
  below_parent y pu ku py ky (inr (inl h)) l = by_epoch (cases_order (epoch_of y) (epoch_of u))
    where
      by_epoch : (epoch_of y ≡ epoch_of u) ⊎ ((epoch_of y < epoch_of u) ⊎ (epoch_of u < epoch_of y)) → Descends (put o.parent x u) x y ⊎ IsDead o y
      by_epoch (inl e) = inl (from_parent y pu (chain u y pu py (ky ∙ sym ku) e h).descends)
      by_epoch (inr (inl m)) = or_has (from_parent y pu) (λ d. d) (descent u y pu py (ky ∙ sym ku) m)
      by_epoch (inr (inr m)) = absurd (omega (arith, epoch_mono y u l))

  zero_not : (y : ℕ) → o.proposed y ≡ true → y ≤ 0 → ⊥
  zero_not y py l = omega (arith, basics.led y py, epoch_mono y 0 l, epoch_of-zero)

  -- a quorum was read
  begins : MayBegin o (epoch_of x) k u → (y : ℕ) → o.proposed y ≡ true → o.key y ≡ k → epoch_of y < epoch_of x → Descends (put o.parent x u) x y ⊎ IsDead o y
  begins b y py ky l = by_heard (heard_has o (epoch_of x) k u b.heard may.elected sound basics since y py ky l)
    where
      by_genuine : IsGenuine o (epoch_of x) k u → y ≤ u → Descends (put o.parent x u) x y ⊎ IsDead o y
      by_genuine (inl z) h = absurd (zero_not y py (rw z at h))
      by_genuine (inr g) h = below_parent y g.0 g.1 py ky (cases_order y u) h

      by_heard : (y ≤ u) ⊎ IsDead o y → Descends (put o.parent x u) x y ⊎ IsDead o y
      by_heard (inr d) = inr d
      by_heard (inl h) = by_genuine b.genuine h

  from_either : MayBegin o (epoch_of x) k u ⊎ IsNewest o (epoch_of x) k u → (y : ℕ) → o.proposed y ≡ true → o.key y ≡ k → epoch_of y < epoch_of x → Descends (put o.parent x u) x y ⊎ IsDead o y
  from_either (inl b) y py ky l = begins b y py ky l
  from_either (inr g) y py ky l = or_has (from_parent y g.proposed) (λ d. d) (descent u y g.proposed py (ky ∙ sym g.key) (rw g.epoch l))

  descent_propose : Descent (propose o x k u)
  descent_propose v y pv py same l = proposed_then o.proposed x (λ v. put o.key x k y ≡ put o.key x k v → epoch_of y < epoch_of v → Descends (put o.parent x u) v y ⊎ IsDead o y) (new y py) (old y py) v pv same l
    where
      -- the new version over an older one
      new : (y : ℕ) → put o.proposed x true y ≡ true → put o.key x k y ≡ put o.key x k x → epoch_of y < epoch_of x → Descends (put o.parent x u) x y ⊎ IsDead o y
      new = proposed_then o.proposed x (λ y. put o.key x k y ≡ put o.key x k x → epoch_of y < epoch_of x → Descends (put o.parent x u) x y ⊎ IsDead o y)
          (λ e l. absurd (omega arith))
          (λ y n py e l. from_either may.from y py (sym (key_same y n) ∙ e ∙ key_here) l)

      old : (y : ℕ) → put o.proposed x true y ≡ true → (v : ℕ) → (x ≡ v → ⊥) → o.proposed v ≡ true → put o.key x k y ≡ put o.key x k v → epoch_of y < epoch_of v → Descends (put o.parent x u) v y ⊎ IsDead o y
      old y py v n pv = proposed_then o.proposed x (λ y. put o.key x k y ≡ put o.key x k v → epoch_of y < epoch_of v → Descends (put o.parent x u) v y ⊎ IsDead o y)
          (λ e l. inr (new_dead o x k u may sound basics (epoch_of v) (basics.elected v pv) l))
          (λ y m py e l. or_has (stable v y (inr pv)) (λ d. d) (descent v y pv py (sym (key_same y m) ∙ e ∙ key_same v n) l))
          y py

  -- versions of the new one's epoch and key
  chain_new : MayBegin o (epoch_of x) k u ⊎ IsNewest o (epoch_of x) k u → (y : ℕ) → o.proposed y ≡ true → o.key y ≡ k → epoch_of y ≡ epoch_of x → Link (propose o x k u) x y
  chain_new (inl b) y py ky e = absurd (b.untouched y py ky e)
  chain_new (inr g) y py ky e = by_order (cases_order y u)
    where
      by_order : (y ≡ u) ⊎ ((y < u) ⊎ (u < y)) → Link (propose o x k u) x y
      by_order (inl p) = record { settled = rw p g.settled; descends = rw p (from_parent u g.proposed (itself u)) }
      by_order (inr (inl l)) = let link = chain u y g.proposed py (ky ∙ sym g.key) (e ∙ sym g.epoch) l in record { settled = link.settled; descends = from_parent y g.proposed link.descends }
      by_order (inr (inr l)) = absurd (omega (arith, g.greatest y py ky e))

  no_later : MayBegin o (epoch_of x) k u ⊎ IsNewest o (epoch_of x) k u → (v : ℕ) → o.proposed v ≡ true → o.key v ≡ k → epoch_of v ≡ epoch_of x → x < v → ⊥
  no_later (inl b) v pv kv e l = b.untouched v pv kv e
  no_later (inr g) v pv kv e l = omega (arith, g.greatest v pv kv e, may.lower)

  chain_propose : Chain (propose o x k u)
  chain_propose v y pv py same e l = proposed_then o.proposed x (λ v. put o.key x k y ≡ put o.key x k v → epoch_of y ≡ epoch_of v → y < v → Link (propose o x k u) v y) (new y py) (old y py) v pv same e l
    where
      new : (y : ℕ) → put o.proposed x true y ≡ true → put o.key x k y ≡ put o.key x k x → epoch_of y ≡ epoch_of x → y < x → Link (propose o x k u) x y
      new = proposed_then o.proposed x (λ y. put o.key x k y ≡ put o.key x k x → epoch_of y ≡ epoch_of x → y < x → Link (propose o x k u) x y)
          (λ e f l. absurd (omega arith))
          (λ y n py e f l. chain_new may.from y py (sym (key_same y n) ∙ e ∙ key_here) f)

      old : (y : ℕ) → put o.proposed x true y ≡ true → (v : ℕ) → (x ≡ v → ⊥) → o.proposed v ≡ true → put o.key x k y ≡ put o.key x k v → epoch_of y ≡ epoch_of v → y < v → Link (propose o x k u) v y
      old y py v n pv = proposed_then o.proposed x (λ y. put o.key x k y ≡ put o.key x k v → epoch_of y ≡ epoch_of v → y < v → Link (propose o x k u) v y)
          (λ e f l. absurd (no_later may.from v pv (sym (key_same v n) ∙ sym e ∙ key_here) (sym f) l))
          (λ y m py e f l. let link = chain v y pv py (sym (key_same y m) ∙ e ∙ key_same v n) f l in record { settled = link.settled; descends = stable v y (inr pv) link.descends })
          y py

-- ## All steps

-- a set that gains a member keeps the others
pub put_stays : (f : ℕ → Bool) (x v : ℕ) → f v ≡ true → put f x true v ≡ true
put_stays f x v h = grind (arith, nat_tests)

pub record Whole (o : Objects) : Type 0 where
  pub sound : Sound o.ledger
  pub basics : Basics o
  pub settled : Settled o
  pub kept : Kept o
  pub since : KeptSince o
  pub chain : Chain o
  pub descent : Descent o

same_link : (o t : Objects) (v y : ℕ) → o.parent ≡ t.parent → (o.settled y ≡ true → t.settled y ≡ true) → Link o v y → Link t v y
same_link o t v y e f l = record { settled = f l.settled; descends = subst (λ (p : ℕ → ℕ). Descends p v y) e l.descends }

chain_step : (o : Objects) (e : Step) → MayDo o e → Whole o → Chain (objects_after o e)
chain_step o (Propose x k u s z c) may w v y pv py k2 e l = chain_propose o x k u may w.sound w.basics w.since w.chain w.descent v y pv py k2 e l
chain_step o (Settle x) may w v y pv py k e l = same_link o (objects_after o (Settle x)) v y refl (put_stays o.settled x y) (w.chain v y pv py k e l)
chain_step o Begin may w v y pv py k e l = w.chain v y pv py k e l
chain_step o (Ask c) may w v y pv py k e l = w.chain v y pv py k e l
chain_step o (Note i j u d) may w v y pv py k e l = w.chain v y pv py k e l
chain_step o (Answer i r) may w v y pv py k e l = w.chain v y pv py k e l
chain_step o (Raise p d) may w v y pv py k e l = same_link o (objects_after o (Raise p d)) v y refl (λ h. h) (w.chain v y pv py k e l)
chain_step o (Elect d b) may w v y pv py k e l = same_link o (objects_after o (Elect d b)) v y refl (λ h. h) (w.chain v y pv py k e l)
chain_step o (Accept p d) may w v y pv py k e l = same_link o (objects_after o (Accept p d)) v y refl (λ h. h) (w.chain v y pv py k e l)
chain_step o (Commit d c) may w v y pv py k e l = same_link o (objects_after o (Commit d c)) v y refl (λ h. h) (w.chain v y pv py k e l)
chain_step o (Adopt p d) may w v y pv py k e l = same_link o (objects_after o (Adopt p d)) v y refl (λ h. h) (w.chain v y pv py k e l)
chain_step o (Write p x) may w v y pv py k e l = same_link o (objects_after o (Write p x)) v y refl (λ h. h) (w.chain v y pv py k e l)
chain_step o (Acknowledge p x) may w v y pv py k e l = same_link o (objects_after o (Acknowledge p x)) v y refl (λ h. h) (w.chain v y pv py k e l)
chain_step o (Install p d m) may w v y pv py k e l = same_link o (objects_after o (Install p d m)) v y refl (λ h. h) (w.chain v y pv py k e l)
chain_step o (EndSync p d) may w v y pv py k e l = same_link o (objects_after o (EndSync p d)) v y refl (λ h. h) (w.chain v y pv py k e l)
chain_step o (Lose p) may w v y pv py k e l = same_link o (objects_after o (Lose p)) v y refl (λ h. h) (w.chain v y pv py k e l)
chain_step o (Revert p m) may w v y pv py k e l = same_link o (objects_after o (Revert p m)) v y refl (λ h. h) (w.chain v y pv py k e l)

older : (o : Objects) (e : Step) → MayDo o e → Whole o → (y : ℕ) → o.proposed y ≡ true → IsDead o y → IsDead (objects_after o e) y
older o e may w y py = dead_stays o e may y (w.basics.elected y py)

descent_step : (o : Objects) (e : Step) → MayDo o e → Whole o → Descent (objects_after o e)
descent_step o (Propose x k u s z c) may w v y pv py k2 l = descent_propose o x k u may w.sound w.basics w.since w.chain w.descent v y pv py k2 l
descent_step o Begin may w v y pv py k l = w.descent v y pv py k l
descent_step o (Ask c) may w v y pv py k l = w.descent v y pv py k l
descent_step o (Note i j u d) may w v y pv py k l = w.descent v y pv py k l
descent_step o (Answer i r) may w v y pv py k l = w.descent v y pv py k l
descent_step o (Raise p d) may w v y pv py k l = or_dead (older o (Raise p d) may w y py) (w.descent v y pv py k l)
descent_step o (Elect d b) may w v y pv py k l = or_dead (older o (Elect d b) may w y py) (w.descent v y pv py k l)
descent_step o (Accept p d) may w v y pv py k l = or_dead (older o (Accept p d) may w y py) (w.descent v y pv py k l)
descent_step o (Commit d c) may w v y pv py k l = or_dead (older o (Commit d c) may w y py) (w.descent v y pv py k l)
descent_step o (Adopt p d) may w v y pv py k l = or_dead (older o (Adopt p d) may w y py) (w.descent v y pv py k l)
descent_step o (Write p x) may w v y pv py k l = or_dead (older o (Write p x) may w y py) (w.descent v y pv py k l)
descent_step o (Acknowledge p x) may w v y pv py k l = or_dead (older o (Acknowledge p x) may w y py) (w.descent v y pv py k l)
descent_step o (Install p d m) may w v y pv py k l = or_dead (older o (Install p d m) may w y py) (w.descent v y pv py k l)
descent_step o (EndSync p d) may w v y pv py k l = or_dead (older o (EndSync p d) may w y py) (w.descent v y pv py k l)
descent_step o (Settle x) may w v y pv py k l = or_dead (older o (Settle x) may w y py) (w.descent v y pv py k l)
descent_step o (Lose p) may w v y pv py k l = or_dead (older o (Lose p) may w y py) (w.descent v y pv py k l)
descent_step o (Revert p m) may w v y pv py k l = or_dead (older o (Revert p m) may w y py) (w.descent v y pv py k l)

pub whole_step : (o : Objects) (e : Step) → MayDo o e → Whole o → Whole (objects_after o e)
whole_step o e may w = let next = basics_step o e may w.basics in record {
  sound = sound_step o e may w.sound;
  basics = next;
  settled = settled_step o e may w.basics w.settled;
  kept = aged_kept o e may w.basics next (kept_step o e may w.sound w.basics w.since w.kept);
  since = aged_floors o e may w.basics next (since_step o e may w.sound w.basics w.kept w.since);
  chain = chain_step o e may w;
  descent = descent_step o e may w;
}

pub opening_whole : (view : List ℕ) → 0 < length view → Whole (opening_objects view)
opening_whole view some = record {
  sound = opening_sound view some;
  basics = opening_basics view;
  settled = opening_settled view;
  kept = record { acked = λ q x h. absurd (false≢true h); synced = λ q x e h. absurd (false≢true h) };
  since = record { acked = λ q x d h. absurd (false≢true h); synced = λ q x d e h. absurd (false≢true h) };
  chain = λ x y h. absurd (false≢true h);
  descent = λ x y h. absurd (false≢true h);
}

pub run_whole : (view : List ℕ) (steps : List Step) → IsRun view steps → Whole (state_after view steps).objects
run_whole view [] run = opening_whole view run
run_whole view (e ∷ steps) run = whole_step (state_after view steps).objects e run.1.0 (run_whole view steps run.0)
