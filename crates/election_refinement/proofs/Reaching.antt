-- The runs of the abstract protocol that extend a run by steps of one peer.
use Rattle.std.proofs.Common.{◌≡◌, ℕ, ◌<◌, ◌≤◌, Bool, true, false, ◌==◌, ◌||◌, eqb-true, List, [], ◌∷◌, ◌++◌, length, ◌⊎◌, inl, inr, arith, refl, ap, le_trans, ◌∙◌, sym, subst}
use Rattle.std.specs.Prelude.{nat_le}
use Rattle.std.proofs.lemmas.Bool.Decides.{nat_tests}
use Rattle.quorums.proofs.Majorities.{meet_of_quorums, shares_itself}
use Rattle.quorums.specs.Quorums.{is_quorum}
use Rattle.protocol_laws.specs.Ledger.{Ledger, Place, Change, IsAtMost, put, mark, raise, elect, accept, commit, adopt, join, next_views, IsNew, MayElect, MayAccept, MayCommit, MayAdopt}
use Rattle.protocol_laws.specs.Protocol.{Step, Raise, Elect, Accept, Commit, Adopt, EndSync, Install, IsRun}
use Rattle.protocol_laws.specs.Preparing.{proposer_of}
use Rattle.protocol_laws.specs.Elections.{ElectionsAreSafe}
use Rattle.protocol_laws.proofs.Epochs.{not_both, not_empty, run_elections}
use Rattle.protocol_laws.proofs.Rising.{put_rises}
use Rattle.protocol_laws.proofs.Sound.{Sound, run_sound}
use Rattle.ens_base.specs.View.{IsPeer}
use Rattle.protocol_laws.proofs.Maps.{put_other, put_then}
use Rattle.election_refinement.proofs.Joining.{joins_after}
use Rattle.election_refinement.proofs.Keeps.{closed_keeps, raise_keeps, elect_keeps, accept_keeps, join_keeps, commit_keeps, adopt_keeps}
use Rattle.election_refinement.specs.Keeps.{Keeps}
use Rattle.election_refinement.specs.Refinement.{IsFitting, may_take, IsFactClosed, second_of, IsOrderly}
use Rattle.election_refinement.specs.Worlds.{ledger_after}

-- the beginning of a peer's step: the steps of the run so far, the peer, and whether syncs may end in
-- this step
pub record Course : Type 1 where
  pub view : List ℕ
  pub steps : List Step
  pub peer : ℕ
  pub is_peer : IsPeer peer
  pub joins : Type 0

-- a step that belongs to a rule of this peer's elections: a step of the peer itself, or of the leader
-- of an epoch that the peer proposes; the steps of the end of a sync belong to one only if syncs may
-- end
abbrev pub IsRowStep : Type 0 → ℕ → Step → Type 0
IsRowStep joins p (Raise q d) = q ≡ p
IsRowStep joins p (Elect d base) = proposer_of d ≡ p
IsRowStep joins p (Accept q d) = q ≡ p
IsRowStep joins p (Commit d change) = proposer_of d ≡ p
IsRowStep joins p (Adopt q d) = q ≡ p
IsRowStep joins p (Install q d merged) = joins × (q ≡ p)
IsRowStep joins p (EndSync q d) = joins × (q ≡ p)
IsRowStep joins p other = ⊥

abbrev pub AreRowSteps : Type 0 → ℕ → List Step → Type 0
AreRowSteps joins p [] = Unit {0}
AreRowSteps joins p (step ∷ steps) = IsRowStep joins p step × AreRowSteps joins p steps

-- an extension of the run, by such steps of the peer, leads to this ledger
pub record Reaches (c : Course) (l : Ledger) : Type 0 where
  pub more : List Step
  pub kinds : AreRowSteps c.joins c.peer more
  pub run : IsRun c.view (more ++ c.steps)
  pub same : ledger_after c.view (more ++ c.steps) ≡ l
  pub orderly : IsOrderly l

pub reaches_safe : (c : Course) (l : Ledger) → Reaches c l → ElectionsAreSafe l
reaches_safe c l r = subst ElectionsAreSafe r.same (run_elections c.view (r.more ++ c.steps) r.run)

pub reaches_sound : (c : Course) (l : Ledger) → Reaches c l → Sound l
reaches_sound c l r = subst Sound r.same (run_sound c.view (r.more ++ c.steps) r.run)

-- voters of which none accepted the second fact of their epoch, unless the base is as late, leave no
-- quorum that can accept it
second_closed : (l : Ledger) (d : ℕ) (b : Place) (voters : ℕ → Bool) → 0 < length (l.views b.epoch) → b.epoch < d → is_quorum voters (l.views b.epoch) ≡ true → ((q : ℕ) → voters q ≡ true → d ≤ l.ballot q)
    → ((q : ℕ) → voters q ≡ true → l.adopted b.epoch q ≡ true → IsAtMost (second_of b.epoch) b) → IsAtMost (second_of b.epoch) b ⊎ IsFactClosed l (second_of b.epoch)
second_closed l d b voters some above quorum reached told = by_seq (nat_le 2 b.seq) refl
  where
    late : (s : ℕ) → nat_le 2 s ≡ true → 2 ≤ s
    late s h = grind (arith, nat_tests)

    early : (s : ℕ) → nat_le 2 s ≡ false → 2 ≤ s → ⊥
    early s h is = grind (arith, nat_tests)

    not_late : nat_le 2 b.seq ≡ false → IsAtMost (second_of b.epoch) b → ⊥
    not_late h (inl below) = omega (arith, below)
    not_late h (inr same) = early b.seq h same.1

    outside : (x n a : ℕ) (t : Bool) → n ≤ x → a < n → (nat_le x a || t) ≡ true → t ≡ true
    outside x n a t le less h = grind (arith, nat_tests)

    closed : nat_le 2 b.seq ≡ false → (t : Bool) → is_quorum (may_take l (second_of b.epoch)) (l.views b.epoch) ≡ t → is_quorum (may_take l (second_of b.epoch)) (l.views b.epoch) ≡ false
    closed early_base false is = is
    closed early_base true is =
        let both = (meet_of_quorums voters (may_take l (second_of b.epoch)) (l.views b.epoch) (l.views b.epoch) (shares_itself (l.views b.epoch) some) quorum is).meet in
        absurd (not_late early_base (told both.peer both.in_left (outside (l.ballot both.peer) d b.epoch (l.adopted b.epoch both.peer) (reached both.peer both.in_left) above both.in_right)))

    by_seq : (t : Bool) → nat_le 2 b.seq ≡ t → IsAtMost (second_of b.epoch) b ⊎ IsFactClosed l (second_of b.epoch)
    by_seq true is = inl (inr (refl, late b.seq is))
    by_seq false is = inr (closed is (is_quorum (may_take l (second_of b.epoch)) (l.views b.epoch)) refl)

module _ (c : Course) (l : Ledger) (r : Reaches c l) where
  open c use {view, peer as p}

  -- what is said of the bases of elected epochs stays so
  left_stays : (m : Ledger) → Keeps l m p → (e : ℕ) → l.elected e ≡ true → 0 < e → IsAtMost (second_of (l.base e).epoch) (l.base e) ⊎ IsFactClosed m (second_of (l.base e).epoch)
  left_stays m keeps e elected later = closed (r.orderly.left e elected later)
    where
      closed : IsAtMost (second_of (l.base e).epoch) (l.base e) ⊎ IsFactClosed l (second_of (l.base e).epoch) → IsAtMost (second_of (l.base e).epoch) (l.base e) ⊎ IsFactClosed m (second_of (l.base e).epoch)
      closed (inl based) = inl based
      closed (inr old) = inr (closed_keeps l m p keeps (l.base e).epoch ((reaches_sound c l r).elections e elected later).listed old)

  -- a peer that accepts a later epoch holds a later fact
  adopted_below : (d : ℕ) → (l.fact p).epoch < d → (q e : ℕ) → l.adopted e q ≡ true → IsAtMost (second_of e) (put l.fact p (record { epoch = d; seq = 1 }) q)
  adopted_below d newer = put_then l.fact p (record { epoch = d; seq = 1 }) (λ q f. (e : ℕ) → l.adopted e q ≡ true → IsAtMost (second_of e) f) (λ e h. inl (lower e (r.orderly.adopted p e h))) (λ q other e h. r.orderly.adopted q e h)
    where
      lower : (e : ℕ) → IsAtMost (second_of e) (l.fact p) → e < d
      lower e (inl below) = le_trans below (omega (arith, newer))
      lower e (inr same) = rw same.0 newer

  raise_orderly : (d : ℕ) → l.ballot p ≤ d → IsOrderly (raise l p d)
  raise_orderly d may = record {
    reached = λ e h. le_trans (r.orderly.reached e h) (put_rises l.ballot p d may (proposer_of e));
    fits = r.orderly.fits;
    adopted = r.orderly.adopted;
    left = left_stays (raise l p d) (raise_keeps l p d may);
  }

  -- the peer raises its ballot
  pub raise_reaches : (d : ℕ) → l.ballot p ≤ d → Reaches c (raise l p d)
  raise_reaches d may = record {
    more = Raise p d ∷ r.more;
    kinds = (refl, r.kinds);
    run = (r.run, (subst (λ m. m.ballot p ≤ d) (sym r.same) may, tt));
    same = ap (λ m. raise m p d) r.same;
    orderly = raise_orderly d may;
  }

  elect_orderly : (d : ℕ) (b : Place) → p ≡ proposer_of d → d ≤ l.ballot p → (may : MayElect l d b) → ((q : ℕ) → may.voters q ≡ true → l.adopted b.epoch q ≡ true → IsAtMost (second_of b.epoch) b) → IsOrderly (elect l d b)
  elect_orderly d b own stands may told = record {
    reached = put_then l.elected d true (λ e t. t ≡ true → e ≤ l.ballot (proposer_of e)) (λ is. subst (λ q. d ≤ l.ballot q) own stands) (λ e other h. r.orderly.reached e h);
    fits = λ e h. subst (IsFitting (l.change e)) (sym (put_other l.views d (next_views l b) e (λ same. not_both ((reaches_sound c l r).leaders.changed e h) (subst (λ x. l.elected x ≡ false) same may.fresh)))) (r.orderly.fits e h);
    adopted = r.orderly.adopted;
    left = put_then l.base d b (λ e base. (elect l d b).elected e ≡ true → 0 < e → IsAtMost (second_of base.epoch) base ⊎ IsFactClosed (elect l d b) (second_of base.epoch)) (λ h later. here) (λ e other h later. left_stays (elect l d b) (elect_keeps l p d b own may.fresh) e (sym (put_other l.elected d true e other) ∙ h) later);
  }
    where
      closed : IsAtMost (second_of b.epoch) b ⊎ IsFactClosed l (second_of b.epoch) → IsAtMost (second_of b.epoch) b ⊎ IsFactClosed (elect l d b) (second_of b.epoch)
      closed (inl based) = inl based
      closed (inr old) = inr (closed_keeps l (elect l d b) p (elect_keeps l p d b own may.fresh) b.epoch may.listed old)

      here : IsAtMost (second_of b.epoch) b ⊎ IsFactClosed (elect l d b) (second_of b.epoch)
      here = closed (second_closed l d b may.voters (not_empty l (reaches_sound c l r) b.epoch may.listed) may.above may.quorum may.reached told)

  -- the peer, proposer of the epoch and at its ballot or above, is elected
  pub elect_reaches : (d : ℕ) (b : Place) → p ≡ proposer_of d → d ≤ l.ballot p → (may : MayElect l d b) → ((q : ℕ) → may.voters q ≡ true → l.adopted b.epoch q ≡ true → IsAtMost (second_of b.epoch) b) → Reaches c (elect l d b)
  elect_reaches d b own stands may told = record {
    more = Elect d b ∷ r.more;
    kinds = (sym own, r.kinds);
    run = (r.run, (subst (λ m. MayElect m d b) (sym r.same) may, tt));
    same = ap (λ m. elect m d b) r.same;
    orderly = elect_orderly d b own stands may told;
  }

  -- the peer accepts the elected epoch of its ballot; a member of the new view of two may not do so
  pub accept_reaches : (d : ℕ) → l.elected d ≡ true → l.ballot p ≡ d → (l.fact p).epoch < d → ¬ IsNew (l.views d) p → Reaches c (accept l p d)
  accept_reaches d elected stands newer old = record {
    more = Accept p d ∷ r.more;
    kinds = (refl, r.kinds);
    run = (r.run, (subst (λ m. MayAccept m p d) (sym r.same) may, tt));
    same = ap (λ m. accept m p d) r.same;
    orderly = record { reached = r.orderly.reached; fits = r.orderly.fits; adopted = adopted_below d newer; left = left_stays (accept l p d) (accept_keeps l p d stands) };
  }
    where
      may : MayAccept l p d
      may = record { elected = elected; stands = stands; newer = newer; old = old }

  -- the peer accepts the elected epoch of its ballot by ending a sync, where syncs may end
  pub join_reaches : c.joins → (d : ℕ) → 0 < d → l.elected d ≡ true → l.ballot p ≡ d → (l.fact p).epoch < d → Reaches c (join l p d)
  join_reaches may d later elected stands newer =
      let joined = joins_after view (r.more ++ c.steps) r.run p d later (subst (λ m. m.elected d ≡ true) (sym r.same) elected) (subst (λ m. m.ballot p ≡ d) (sym r.same) stands) (subst (λ m. (m.fact p).epoch < d) (sym r.same) newer) in
      record {
        more = EndSync p d ∷ Install p d joined.merged ∷ r.more;
        kinds = ((may, refl), ((may, refl), r.kinds));
        run = joined.run;
        same = ap (λ m. join m p d) r.same;
        orderly = record { reached = r.orderly.reached; fits = r.orderly.fits; adopted = adopted_below d newer; left = left_stays (join l p d) (join_keeps l p d stands) };
      }

  commit_orderly : (d : ℕ) (change : Change) → p ≡ proposer_of d → l.changed d ≡ false → IsFitting change (l.views d) → IsOrderly (commit l d change)
  commit_orderly d change own fresh fits = record {
    reached = r.orderly.reached;
    fits = put_then l.change d change (λ e x. put l.changed d true e ≡ true → IsFitting x (l.views e)) (λ is. fits) (λ e other h. r.orderly.fits e (sym (put_other l.changed d true e other) ∙ h));
    adopted = r.orderly.adopted;
    left = left_stays (commit l d change) (commit_keeps l p d change own fresh);
  }

  -- the leader of an epoch changes the views
  pub commit_reaches : (d : ℕ) (change : Change) → p ≡ proposer_of d → MayCommit l d → IsFitting change (l.views d) → Reaches c (commit l d change)
  commit_reaches d change own may fits = record {
    more = Commit d change ∷ r.more;
    kinds = (sym own, r.kinds);
    run = (r.run, (subst (λ m. MayCommit m d) (sym r.same) may, tt));
    same = ap (λ m. commit m d change) r.same;
    orderly = commit_orderly d change own may.fresh fits;
  }

  -- the peer accepts a change of the views
  pub adopt_reaches : (d : ℕ) → MayAdopt l p d → Reaches c (adopt l p d)
  adopt_reaches d may = record {
    more = Adopt p d ∷ r.more;
    kinds = (refl, r.kinds);
    run = (r.run, (subst (λ m. MayAdopt m p d) (sym r.same) may, tt));
    same = ap (λ m. adopt m p d) r.same;
    orderly = record { reached = r.orderly.reached; fits = r.orderly.fits; adopted = adopted; left = left_stays (adopt l p d) (adopt_keeps l p d may.stands) };
  }
    where
      low : (e : ℕ) → IsAtMost (second_of e) (l.fact p) → e ≤ d
      low e (inl below) = le_trans (omega (arith, below)) (subst (λ n. (l.fact p).epoch ≤ n) may.stands ((reaches_sound c l r).peers.kept p))
      low e (inr same) = rw same.0 (subst (λ n. (l.fact p).epoch ≤ n) may.stands ((reaches_sound c l r).peers.kept p))

      at_most : (e : ℕ) → e ≤ d → IsAtMost (second_of e) (second_of d)
      at_most e le = by_equal (e == d) refl
        where
          by_equal : (t : Bool) → (e == d) ≡ t → IsAtMost (second_of e) (second_of d)
          by_equal true is = inr (eqb-true e d is, omega arith)
          by_equal false is = inl (less e d le is)
            where
              less : (e d : ℕ) → e ≤ d → (e == d) ≡ false → e < d
              less e d le is = grind (arith, nat_tests)

      old_or_new : (q e : ℕ) → mark l.adopted d p e q ≡ true → (p ≡ q → ⊥) → l.adopted e q ≡ true
      old_or_new q e h other = grind (arith, nat_tests)

      own_or_old : (e : ℕ) → mark l.adopted d p e p ≡ true → (d ≡ e) ⊎ (l.adopted e p ≡ true)
      own_or_old e h = grind (arith, nat_tests)

      by_epoch : (e : ℕ) → (d ≡ e) ⊎ (l.adopted e p ≡ true) → IsAtMost (second_of e) (second_of d)
      by_epoch e (inl same) = at_most e (rw same (omega arith))
      by_epoch e (inr old) = at_most e (low e (r.orderly.adopted p e old))

      adopted : (q e : ℕ) → mark l.adopted d p e q ≡ true → IsAtMost (second_of e) (put l.fact p (second_of d) q)
      adopted = put_then l.fact p (second_of d) (λ q f. (e : ℕ) → mark l.adopted d p e q ≡ true → IsAtMost (second_of e) f) (λ e h. by_epoch e (own_or_old e h)) (λ q other e h. r.orderly.adopted q e (old_or_new q e h other))
