-- The laws of elections in one state, derived from the plain facts. No step is mentioned here.
use Rattle.std.proofs.Common.{◌≡◌, ℕ, zero, ◌<◌, ◌≤◌, Bool, true, false, ◌⊎◌, List, [], ◌∷◌, length, arith, subst, refl, inl, inr, sym, suc, ◌∙◌, le_trans}
use Rattle.std.specs.Prelude.{◌||◌, nat_le}
use Rattle.std.proofs.lemmas.Bool.Decides.{nat_tests}
use Rattle.std.proofs.lemmas.Bool.{true≢false, cases_order}
use Rattle.quorums.proofs.Majorities.{meet_of_quorums, majority_of_quorum, majority_more_on, outside_of_quorum, quorum_less, quorum_more, quorum_of_all, shares_first, shares_itself, shares_back}
use Rattle.quorums.specs.Quorums.{is_quorum, SharesView}
use Rattle.protocol_laws.proofs.Sound.{Election, Sound, run_sound}
use Rattle.protocol_laws.specs.Ledger.{Change, Add, Drop, Ledger, IsAtMost, changed_views, is_established}
use Rattle.protocol_laws.specs.Elections.{may_accept, IsClosed, IsOpen, Completeness, IsLastOpen, Follows, Lists, IsBlocked, Blocked, Joined, ClosedByQuorums, ClosedIsNotEstablished, EstablishedIsKept, ElectionsAreSafe}
use Rattle.protocol_laws.specs.Protocol.{Step, IsRun, state_after}

-- ## Induction on all smaller numbers

below : (P : ℕ → Type 0) → ((d : ℕ) → ((a : ℕ) → a < d → P a) → P d) → (n d : ℕ) → d < n → P d
below P step zero d h = absurd (omega arith)
below P step (suc n) d h = step d (λ a l. below P step n a (omega arith))

pub strong : (P : ℕ → Type 0) → ((d : ℕ) → ((a : ℕ) → a < d → P a) → P d) → (d : ℕ) → P d
strong P step d = below P step (suc d) d (omega arith)

pub not_both : {b : Bool} → b ≡ true → b ≡ false → ⊥
not_both t f = true≢false (sym t ∙ f)

-- ## A list of views, and the list after a change

pub shares_change : (c : Change) (vs : List (List ℕ)) → 0 < length vs → SharesView (changed_views c vs) vs
shares_change c [] h = absurd (omega arith)
shares_change (Add u) (v ∷ []) h = record { view = v; in_left = inr (inl refl); in_right = inl refl }
shares_change (Add u) (v ∷ w ∷ vs) h = shares_first v (w ∷ vs) (w ∷ vs)
shares_change Drop (v ∷ []) h = shares_first v [] []
shares_change Drop (u ∷ v ∷ []) h = shares_first u [] (v ∷ [])
shares_change Drop (u ∷ v ∷ w ∷ vs) h = shares_first u (v ∷ w ∷ vs) (v ∷ w ∷ vs)

pub change_not_empty : (c : Change) (vs : List (List ℕ)) → 0 < length vs → 0 < length (changed_views c vs)
change_not_empty c [] h = absurd (omega arith)
change_not_empty (Add u) (v ∷ []) h = omega arith
change_not_empty (Add u) (v ∷ w ∷ vs) h = omega arith
change_not_empty Drop (v ∷ []) h = omega arith
change_not_empty Drop (u ∷ v ∷ []) h = omega arith
change_not_empty Drop (u ∷ v ∷ w ∷ vs) h = omega arith

-- ## In one state

module _ (l : Ledger) (sound : Sound l) where
  zero_open : IsOpen l 0
  zero_open = rw sound.beginning.zero_views (quorum_of_all (may_accept l 0) (λ q. grind (arith, nat_tests, sound.beginning.zero_accepted q)) l.opening sound.beginning.some)

  pub established_open : (a : ℕ) → is_established l a ≡ true → IsOpen l a
  established_open a e = quorum_more (l.accepted a) (may_accept l a) (λ q t. grind (arith, nat_tests)) (l.views a) e

  changed_open : (a : ℕ) → l.changed a ≡ true → IsOpen l a
  changed_open a c = established_open a (sound.leaders.agreed a c)

  follows_base : (d : ℕ) → l.elected d ≡ true → 0 < d → Follows l d (l.base d).epoch
  follows_base d e z = (sound.elections d e z).follows

  -- ### The lists are not empty

  not_empty_after : (d b : ℕ) → Follows l d b → 0 < length (l.views b) → 0 < length (l.views d)
  not_empty_after d b (inl p) h = rw p h
  not_empty_after d b (inr p) h = rw p.1 (change_not_empty (l.change b) (l.views b) h)

  not_empty_step : (d : ℕ) → ((a : ℕ) → a < d → l.elected a ≡ true → 0 < length (l.views a)) → l.elected d ≡ true → 0 < length (l.views d)
  not_empty_step zero before e = rw sound.beginning.zero_views (omega arith)
  not_empty_step (suc d) before e =
      let n : 0 < suc d = omega arith in
      let election = sound.elections (suc d) e n in
      not_empty_after (suc d) (l.base (suc d)).epoch (follows_base (suc d) e n) (before (l.base (suc d)).epoch election.low election.listed)

  pub not_empty : (d : ℕ) → l.elected d ≡ true → 0 < length (l.views d)
  not_empty = strong (λ d. l.elected d ≡ true → 0 < length (l.views d)) not_empty_step

  follower_shares : (d b : ℕ) → Follows l d b → 0 < length (l.views b) → SharesView (l.views d) (l.views b)
  follower_shares d b (inl p) h = rw p (shares_itself (l.views b) h)
  follower_shares d b (inr p) h = rw p.1 (shares_change (l.change b) (l.views b) h)

  followers_share : (d e b : ℕ) → Follows l d b → Follows l e b → 0 < length (l.views b) → SharesView (l.views d) (l.views e)
  followers_share d e b f (inl q) h = rw q (follower_shares d b f h)
  followers_share d e b (inl p) (inr q) h = rw p (shares_back (l.views e) (l.views b) (follower_shares e b (inr q) h))
  followers_share d e b (inr p) (inr q) h = rw (p.1, q.1) (shares_itself (changed_views (l.change b) (l.views b)) (change_not_empty (l.change b) (l.views b) h))

  -- ### The last open epoch below

  last_more : (n d : ℕ) → IsLastOpen l d n → (l.elected d ≡ true → IsClosed l d) → (a : ℕ) → n < a → a < suc d → l.elected a ≡ true → IsClosed l a
  last_more n d i here a m u e = by_order (cases_order a d)
    where
      by_order : (a ≡ d) ⊎ ((a < d) ⊎ (d < a)) → IsClosed l a
      by_order (inl p) = rw p (here (rw p at e))
      by_order (inr (inl p)) = i.last a m p e
      by_order (inr (inr p)) = absurd (omega arith)

  last_here : (d : ℕ) (a b : Bool) → l.elected d ≡ a → is_quorum (may_accept l d) (l.views d) ≡ b → (0 < d → (n : ℕ) × IsLastOpen l d n) → (n : ℕ) × IsLastOpen l (suc d) n
  last_here d true true p q rest = (d, record { below = omega arith; elected = p; still_open = q; last = λ a m u. absurd (omega arith) })
  last_here zero false b p q rest = absurd (not_both sound.beginning.zero_elected p)
  last_here zero true false p q rest = absurd (not_both zero_open q)
  last_here (suc d) true false p q rest =
      let r = rest (omega arith) in
      let i = r.1 in
      (r.0, record { below = omega (arith, i.below); elected = i.elected; still_open = i.still_open; last = last_more r.0 (suc d) i (λ e. q) })
  last_here (suc d) false b p q rest =
      let r = rest (omega arith) in
      let i = r.1 in
      (r.0, record { below = omega (arith, i.below); elected = i.elected; still_open = i.still_open; last = last_more r.0 (suc d) i (λ e. absurd (not_both e p)) })

  pub last_open : (d : ℕ) → 0 < d → (n : ℕ) × IsLastOpen l d n
  last_open zero h = absurd (omega arith)
  last_open (suc d) h = last_here d (l.elected d) (is_quorum (may_accept l d) (l.views d)) refl refl (last_open d)

  lower_last : (a b n : ℕ) → IsLastOpen l a n → b < a → n < b → IsLastOpen l b n
  lower_last a b n i m h = record { below = h; elected = i.elected; still_open = i.still_open; last = λ x o u. i.last x o (omega arith) }

  -- ### Completeness and the lists, together, from the lower epochs on

  abbrev Completed : ℕ → Type 0
  Completed a = (d : ℕ) → l.elected d ≡ true → l.elected a ≡ true → a < d → (l.base d).epoch < a → IsClosed l a

  abbrev Listed : ℕ → Type 0
  Listed a = l.elected a ≡ true → 0 < a → (n : ℕ) → IsLastOpen l a n → Follows l a n

  -- the list of a, if its base b is not the last open epoch n
  follows_through : (a b n : ℕ) → Follows l a b → IsClosed l b → Follows l b n → Follows l a n
  follows_through a b n (inl p) c (inl q) = inl (p ∙ q)
  follows_through a b n (inl p) c (inr q) = inr (q.0, p ∙ q.1)
  follows_through a b n (inr p) c f = absurd (not_both (changed_open b p.0) c)

  listed_by : (a : ℕ) → ((x : ℕ) → x < a → Completed x × Listed x) → (e : l.elected a ≡ true) (z : 0 < a) (n : ℕ) → IsLastOpen l a n → (b : ℕ) → (l.base a).epoch ≡ b → (b ≡ n) ⊎ ((b < n) ⊎ (n < b)) → Follows l a n
  listed_by a before e z n i b same (inl p) = let P : ℕ → Type 0 = λ x. Follows l a x in subst P (same ∙ p) (follows_base a e z)
  listed_by a before e z n i b same (inr (inl m)) = absurd (not_both i.still_open ((before n i.below).0 a e i.elected i.below (rw same m)))
  listed_by a before e z n i b same (inr (inr m)) =
      let election = sound.elections a e z in
      let low : b < a = rw same at election.low in
      let listed : l.elected b ≡ true = rw same at election.listed in
      let follows : Follows l a b = rw same at (follows_base a e z) in
      follows_through a b n follows (i.last b m low listed) ((before b low).1 listed (omega arith) n (lower_last a b n i low m))

  -- a quorum of views that share one with those of a has passed a by
  closed_by : (a d : ℕ) → (e : l.elected d ≡ true) (z : 0 < d) → a < d → (l.base d).epoch < a → SharesView (l.views (l.base d).epoch) (l.views a) → IsClosed l a
  closed_by a d e z m low shares = by_cases (is_quorum (may_accept l a) (l.views a)) refl
    where
      passed : (q : ℕ) → may_accept l a q ≡ true → d ≤ l.ballot q → (l.accepted a q ≡ true → a ≤ (l.base d).epoch) → ⊥
      passed q t r n = grind (arith, nat_tests)

      by_cases : (b : Bool) → is_quorum (may_accept l a) (l.views a) ≡ b → IsClosed l a
      by_cases false p = p
      by_cases true p =
          let election = sound.elections d e z in
          let c = (meet_of_quorums election.voters (may_accept l a) (l.views (l.base d).epoch) (l.views a) shares election.quorum p).meet in
          absurd (passed c.peer c.in_right (election.reached c.peer c.in_left) (λ has. election.missed c.peer a c.in_left has m))

  base_shares : (a d : ℕ) → ((x : ℕ) → x < a → Completed x × Listed x) → l.elected d ≡ true → a < d → l.elected a ≡ true → 0 < a → (n : ℕ) → IsLastOpen l a n → Follows l a n → (b : ℕ) → (l.base d).epoch ≡ b → b < a → l.elected b ≡ true → (b ≡ n) ⊎ ((b < n) ⊎ (n < b)) → SharesView (l.views b) (l.views a)
  base_shares a d before e m ea z n i f b same low eb (inl p) = rw p (shares_back (l.views a) (l.views n) (follower_shares a n f (not_empty n i.elected)))
  base_shares a d before e m ea z n i f b same low eb (inr (inl h)) = absurd (not_both i.still_open ((before n i.below).0 d e i.elected (omega (arith, i.below)) (rw same h)))
  base_shares a d before e m ea z n i f b same low eb (inr (inr h)) = followers_share b a n ((before b low).1 eb (omega arith) n (lower_last a b n i low h)) f (not_empty n i.elected)

  past_step : (a : ℕ) → ((x : ℕ) → x < a → Completed x × Listed x) → Completed a × Listed a
  past_step a before = (completed, listed)
    where
      listed : Listed a
      listed e z n i = listed_by a before e z n i (l.base a).epoch refl (cases_order (l.base a).epoch n)

      completed : Completed a
      completed d e ea m low =
          let z : 0 < a = omega arith in
          let n = last_open a z in
          let election = sound.elections d e (omega arith) in
          closed_by a d e (omega arith) m low (base_shares a d before e m ea z n.0 n.1 (listed ea z n.0 n.1) (l.base d).epoch refl low election.listed (cases_order (l.base d).epoch n.0))

  past : (a : ℕ) → Completed a × Listed a
  past = strong (λ a. Completed a × Listed a) past_step

  -- ### The laws

  completeness_by : (d a : ℕ) → l.elected d ≡ true → l.elected a ≡ true → 0 < a → a < d → ((l.base d).epoch ≡ a) ⊎ (((l.base d).epoch < a) ⊎ (a < (l.base d).epoch)) → IsAtMost (record { epoch = a; seq = 1 }) (l.base d) ⊎ IsClosed l a
  completeness_by d a e ea z m (inl p) = inl (inr (sym p, (sound.elections d e (omega arith)).numbered (rw p z)))
  completeness_by d a e ea z m (inr (inl p)) = inr ((past a).0 d e ea m p)
  completeness_by d a e ea z m (inr (inr p)) = inl (inl p)

  pub completeness : Completeness l
  completeness d a e ea z m = completeness_by d a e ea z m (cases_order (l.base d).epoch a)

  -- an open epoch is at most the base
  pub open_below_base : (d a : ℕ) → l.elected d ≡ true → l.elected a ≡ true → a < d → IsOpen l a → a ≤ (l.base d).epoch
  open_below_base d a e ea m o = by_order (cases_order (l.base d).epoch a)
    where
      by_order : ((l.base d).epoch ≡ a) ⊎ (((l.base d).epoch < a) ⊎ (a < (l.base d).epoch)) → a ≤ (l.base d).epoch
      by_order (inl p) = omega arith
      by_order (inr (inl p)) = absurd (not_both o ((past a).0 d e ea m p))
      by_order (inr (inr p)) = omega arith

  pub lists : Lists l
  lists d z e =
      let n = last_open d z in
      let f = (past d).1 e z n.0 n.1 in
      record { from = n.0; is_last = n.1; follows = f; shares = follower_shares d n.0 f (not_empty n.0 n.1.elected) }

  blocked_by : (d a : ℕ) → ((x : ℕ) → x < d → l.elected x ≡ true → a < x → IsBlocked l a) → l.elected d ≡ true → l.elected a ≡ true → a < d → IsOpen l a → Election l d → (b : ℕ) → (l.base d).epoch ≡ b → (b ≡ a) ⊎ ((b < a) ⊎ (a < b)) → IsBlocked l a
  blocked_by d a before e ea m o election b same (inl p) = record { peers = election.voters; quorum = rw (same ∙ p) at election.quorum; above = λ q v. le_trans m (election.reached q v) }
  blocked_by d a before e ea m o election b same (inr (inl p)) = absurd (not_both o ((past a).0 d e ea m (rw same p)))
  blocked_by d a before e ea m o election b same (inr (inr p)) = before b (rw same at election.low) (rw same at election.listed) p

  blocked_step : (a : ℕ) → l.elected a ≡ true → IsOpen l a → (d : ℕ) → ((x : ℕ) → x < d → l.elected x ≡ true → a < x → IsBlocked l a) → l.elected d ≡ true → a < d → IsBlocked l a
  blocked_step a ea o d before e m = blocked_by d a before e ea m o (sound.elections d e (omega arith)) (l.base d).epoch refl (cases_order (l.base d).epoch a)

  pub blocked : Blocked l
  blocked d a e ea m o = strong (λ x. l.elected x ≡ true → a < x → IsBlocked l a) (blocked_step a ea o) d e m

  pub joined : Joined l
  joined d u v established joint = majority_more_on (l.accepted d) (l.synced d) u (λ q has a. sound.peers.joined q d a (rw joint has)) (majority_of_quorum (l.accepted d) (l.views d) u (rw joint (inl refl)) established)

  not_established : ClosedIsNotEstablished l
  not_established a closed = quorum_less (may_accept l a) (l.accepted a) (l.views a) (λ q h. also (nat_le (l.ballot q) a) (l.accepted a q) h) closed
    where
      also : (b c : Bool) → c ≡ true → (b || c) ≡ true
      also b c h = grind arith

  closed_by_quorums : ClosedByQuorums l
  closed_by_quorums a closed quorum q = outside_of_quorum quorum (may_accept l a) (l.views a) q closed

  established_is_kept : EstablishedIsKept l
  established_is_kept d a e ea m established = open_below_base d a e ea m (established_open a established)

  pub elections_are_safe : ElectionsAreSafe l
  elections_are_safe = record {
    ballots = record { kept = sound.peers.kept; accepted = sound.peers.newest; last = sound.peers.last; last_change = sound.peers.last_change };
    facts = record { first = sound.peers.first; second = λ q d h. (sound.peers.second q d h, sound.peers.both q d h); established = sound.leaders.agreed };
    completeness = completeness;
    blocked = blocked;
    joined = joined;
    closed = closed_by_quorums;
    not_established = not_established;
    kept = established_is_kept;
  }

pub run_elections : (view : List ℕ) (steps : List Step) → IsRun view steps → ElectionsAreSafe (state_after view steps).objects.ledger
run_elections view steps run = elections_are_safe (state_after view steps).objects.ledger (run_sound view steps run)

pub run_lists : (view : List ℕ) (steps : List Step) → IsRun view steps → Lists (state_after view steps).objects.ledger
run_lists view steps run = lists (state_after view steps).objects.ledger (run_sound view steps run)
