-- What each step preserves of the ledger: the plain facts from which the laws of elections follow.
use Rattle.std.proofs.Common.{◌≡◌, ℕ, ◌<◌, ◌≤◌, Bool, true, false, List, [], ◌∷◌, length, eqb, eqb-true, arith, subst, refl, inl, inr}
use Rattle.std.proofs.lemmas.Bool.Decides.{nat_tests}
use Rattle.std.proofs.lemmas.Bool.{eqb-false, false≢true}
use Rattle.quorums.proofs.Majorities.{quorum_more}
use Rattle.quorums.specs.Quorums.{is_quorum}
use Rattle.protocol_laws.specs.Ledger.{Place, Change, Ledger, opening_ledger, put, IsNew, IsFact, is_established, raise, elect, accept, commit, adopt, join, MayElect, MayAccept, MayCommit, MayAdopt, MayJoin}
use Rattle.protocol_laws.specs.Objects.{Objects}
use Rattle.protocol_laws.specs.Elections.{Follows}
use Rattle.protocol_laws.specs.Protocol.{Step, Begin, Ask, Raise, Elect, Accept, Commit, Adopt, Write, Acknowledge, Install, EndSync, Propose, Settle, Note, Answer, Lose, Revert, objects_after, MayDo, state_after, IsRun}

-- how an epoch was elected: who voted for it, and which epoch's views it inherits
pub record Election (l : Ledger) (d : ℕ) : Type 0 where
  pub voters : ℕ → Bool
  pub low : (l.base d).epoch < d
  pub listed : l.elected (l.base d).epoch ≡ true
  pub quorum : is_quorum voters (l.views (l.base d).epoch) ≡ true
  pub reached : (q : ℕ) → voters q ≡ true → d ≤ l.ballot q
  pub missed : (q a : ℕ) → voters q ≡ true → l.accepted a q ≡ true → a < d → a ≤ (l.base d).epoch
  pub follows : Follows l d (l.base d).epoch
  pub numbered : 0 < (l.base d).epoch → 1 ≤ (l.base d).seq

pub record Beginning (l : Ledger) : Type 0 where
  pub zero_elected : l.elected 0 ≡ true
  pub zero_accepted : (q : ℕ) → l.accepted 0 q ≡ true
  pub zero_views : l.views 0 ≡ l.opening ∷ []
  pub some : 0 < length l.opening

pub record Peers (l : Ledger) : Type 0 where
  pub kept : (q : ℕ) → (l.fact q).epoch ≤ l.ballot q
  pub newest : (q d : ℕ) → l.accepted d q ≡ true → d ≤ (l.fact q).epoch
  pub last : (q : ℕ) → l.accepted (l.fact q).epoch q ≡ true
  pub last_change : (q : ℕ) → (l.fact q).seq ≡ 2 → l.adopted (l.fact q).epoch q ≡ true
  pub first : (q d : ℕ) → l.accepted d q ≡ true → l.elected d ≡ true
  pub second : (q d : ℕ) → l.adopted d q ≡ true → l.changed d ≡ true
  pub both : (q d : ℕ) → l.adopted d q ≡ true → l.accepted d q ≡ true
  pub ended : (q d : ℕ) → l.synced d q ≡ true → l.accepted d q ≡ true
  pub joined : (q d : ℕ) → l.accepted d q ≡ true → IsNew (l.views d) q → l.synced d q ≡ true

pub record Leaders (l : Ledger) : Type 0 where
  pub changed : (d : ℕ) → l.changed d ≡ true → l.elected d ≡ true
  pub agreed : (d : ℕ) → l.changed d ≡ true → is_established l d ≡ true

pub record Sound (l : Ledger) : Type 0 where
  pub beginning : Beginning l
  pub peers : Peers l
  pub leaders : Leaders l
  pub elections : (d : ℕ) → l.elected d ≡ true → 0 < d → Election l d

-- ## Established epochs stay established

pub accept_established : (l : Ledger) (p e d : ℕ) → is_established l d ≡ true → is_established (accept l p e) d ≡ true
accept_established l p e d h = quorum_more (l.accepted d) ((accept l p e).accepted d) (λ q a. grind (arith, nat_tests)) (l.views d) h

pub join_established : (l : Ledger) (p e d : ℕ) → is_established l d ≡ true → is_established (join l p e) d ≡ true
join_established l p e d h = accept_established l p e d h

pub elect_established : (l : Ledger) (d : ℕ) (b : Place) (a : ℕ) → MayElect l d b → l.elected a ≡ true → is_established l a ≡ true → is_established (elect l d b) a ≡ true
elect_established l d b a may e h = grind (arith, nat_tests)

-- ## Peers

raise_peers : (l : Ledger) (p d : ℕ) → l.ballot p ≤ d → Peers l → Peers (raise l p d)
raise_peers l p d may old = grind (arith, nat_tests)

elect_peers : (l : Ledger) (d : ℕ) (b : Place) → MayElect l d b → Peers l → Peers (elect l d b)
elect_peers l d b may old = grind (arith, nat_tests)

accept_peers : (l : Ledger) (p d : ℕ) → MayAccept l p d → Peers l → Peers (accept l p d)
accept_peers l p d may old = grind (arith, nat_tests)

commit_peers : (l : Ledger) (d : ℕ) (c : Change) → MayCommit l d → Peers l → Peers (commit l d c)
commit_peers l d c may old = grind (arith, nat_tests)

adopt_peers : (l : Ledger) (p d : ℕ) → MayAdopt l p d → Peers l → Peers (adopt l p d)
adopt_peers l p d may old = grind (arith, nat_tests)

join_peers : (l : Ledger) (p d : ℕ) → MayJoin l p d → Peers l → Peers (join l p d)
join_peers l p d may old = grind (arith, nat_tests)

-- ## Leaders

elect_leaders : (l : Ledger) (d : ℕ) (b : Place) → MayElect l d b → Leaders l → Leaders (elect l d b)
elect_leaders l d b may old = grind (arith, nat_tests, elect_established l d b)

accept_leaders : (l : Ledger) (p d : ℕ) → Leaders l → Leaders (accept l p d)
accept_leaders l p d old = record { changed = old.changed; agreed = λ e h. accept_established l p d e (old.agreed e h) }

commit_leaders : (l : Ledger) (d : ℕ) (c : Change) → MayCommit l d → Leaders l → Leaders (commit l d c)
commit_leaders l d c may old = grind (arith, nat_tests)

join_leaders : (l : Ledger) (p d : ℕ) → Leaders l → Leaders (join l p d)
join_leaders l p d old = record { changed = old.changed; agreed = λ e h. join_established l p d e (old.agreed e h) }

-- ## Elections

raise_election : (l : Ledger) (p d : ℕ) → l.ballot p ≤ d → (a : ℕ) → Election l a → Election (raise l p d) a
raise_election l p d may a old = grind (arith, nat_tests)

accept_election : (l : Ledger) (p d : ℕ) → l.ballot p ≡ d → (a : ℕ) → Election l a → Election (accept l p d) a
accept_election l p d may a old = grind (arith, nat_tests)

join_election : (l : Ledger) (p d : ℕ) → l.ballot p ≡ d → (a : ℕ) → Election l a → Election (join l p d) a
join_election l p d may a old = grind (arith, nat_tests)

commit_follows : (l : Ledger) (d : ℕ) (c : Change) → l.changed d ≡ false → (a b : ℕ) → Follows l a b → Follows (commit l d c) a b
commit_follows l d c fresh a b (inl p) = inl p
commit_follows l d c fresh a b (inr p) = inr (grind (arith, nat_tests), grind (arith, nat_tests))

commit_election : (l : Ledger) (d : ℕ) (c : Change) → MayCommit l d → (a : ℕ) → Election l a → Election (commit l d c) a
commit_election l d c may a old = record {
  voters = old.voters;
  low = old.low;
  listed = old.listed;
  quorum = old.quorum;
  reached = old.reached;
  missed = old.missed;
  follows = commit_follows l d c may.fresh a (l.base a).epoch old.follows;
  numbered = old.numbered;
}

-- the earlier elections, after an election
elect_follows : (l : Ledger) (d : ℕ) (b : Place) → MayElect l d b → (a x : ℕ) → (d ≡ a → ⊥) → l.elected x ≡ true → Follows l a x → Follows (elect l d b) a x
elect_follows l d b may a x ne ex (inl p) = inl (grind (arith, nat_tests, may.fresh))
elect_follows l d b may a x ne ex (inr p) = inr (p.0, grind (arith, nat_tests, may.fresh))

elect_other : (l : Ledger) (d : ℕ) (b : Place) → MayElect l d b → (a : ℕ) → (d ≡ a → ⊥) → Election l a → Election (elect l d b) a
elect_other l d b may a ne old = same_base (put l.base d b a) (grind (arith, nat_tests))
  where
    same_base : (x : Place) → l.base a ≡ x → Election (elect l d b) a
    same_base x e = grind (arith, nat_tests, elect_follows l d b may a)

-- the election made by the step
base_follows : (l : Ledger) (b : Place) → IsFact l b → (d : ℕ) → l.elected d ≡ false → b.epoch < d → Follows (elect l d b) d b.epoch
base_follows l b (inl p) d f h = inl (grind (arith, nat_tests))
base_follows l b (inr (inl p)) d f h = inl (grind (arith, nat_tests))
base_follows l b (inr (inr p)) d f h = inr (p.0, grind (arith, nat_tests))

elect_here : (l : Ledger) (d : ℕ) (b : Place) → MayElect l d b → Election (elect l d b) d
elect_here l d b may = grind (arith, nat_tests, base_follows l b may.is_fact d may.fresh may.above)

elect_elections : (l : Ledger) (d : ℕ) (b : Place) → MayElect l d b → Sound l → (a : ℕ) → (elect l d b).elected a ≡ true → 0 < a → Election (elect l d b) a
elect_elections l d b may sound a e z = by_cases (eqb d a) refl
  where
    by_cases : (t : Bool) → eqb d a ≡ t → Election (elect l d b) a
    by_cases true t = subst (Election (elect l d b)) (eqb-true d a t) (elect_here l d b may)
    by_cases false t = elect_other l d b may a (eqb-false d a t) (sound.elections a (rw t at e) z)

-- ## Each step preserves them

raise_sound : (l : Ledger) (p d : ℕ) → l.ballot p ≤ d → Sound l → Sound (raise l p d)
raise_sound l p d may old = record { beginning = assumption; peers = raise_peers l p d may old.peers; leaders = assumption; elections = λ a e z. raise_election l p d may a (old.elections a e z) }

elect_beginning : (l : Ledger) (d : ℕ) (b : Place) → MayElect l d b → Beginning l → Beginning (elect l d b)
elect_beginning l d b may old = grind (arith, nat_tests)

elect_sound : (l : Ledger) (d : ℕ) (b : Place) → MayElect l d b → Sound l → Sound (elect l d b)
elect_sound l d b may old = record { beginning = elect_beginning l d b may old.beginning; peers = elect_peers l d b may old.peers; leaders = elect_leaders l d b may old.leaders; elections = elect_elections l d b may old }

accept_beginning : (l : Ledger) (p d : ℕ) → Beginning l → Beginning (accept l p d)
accept_beginning l p d old = grind (arith, nat_tests)

accept_sound : (l : Ledger) (p d : ℕ) → MayAccept l p d → Sound l → Sound (accept l p d)
accept_sound l p d may old = record { beginning = accept_beginning l p d old.beginning; peers = accept_peers l p d may old.peers; leaders = accept_leaders l p d old.leaders; elections = λ a e z. accept_election l p d may.stands a (old.elections a e z) }

commit_sound : (l : Ledger) (d : ℕ) (c : Change) → MayCommit l d → Sound l → Sound (commit l d c)
commit_sound l d c may old = record { beginning = assumption; peers = commit_peers l d c may old.peers; leaders = commit_leaders l d c may old.leaders; elections = λ a e z. commit_election l d c may a (old.elections a e z) }

adopt_election : (l : Ledger) (p d a : ℕ) → Election l a → Election (adopt l p d) a
adopt_election l p d a old = record { voters = old.voters; low = old.low; listed = old.listed; quorum = old.quorum; reached = old.reached; missed = old.missed; follows = old.follows; numbered = old.numbered }

adopt_sound : (l : Ledger) (p d : ℕ) → MayAdopt l p d → Sound l → Sound (adopt l p d)
adopt_sound l p d may old = record { beginning = assumption; peers = adopt_peers l p d may old.peers; leaders = assumption; elections = λ a e z. adopt_election l p d a (old.elections a e z) }

join_beginning : (l : Ledger) (p d : ℕ) → Beginning l → Beginning (join l p d)
join_beginning l p d old = grind (arith, nat_tests)

join_sound : (l : Ledger) (p d : ℕ) → MayJoin l p d → Sound l → Sound (join l p d)
join_sound l p d may old = record { beginning = join_beginning l p d old.beginning; peers = join_peers l p d may old.peers; leaders = join_leaders l p d old.leaders; elections = λ a e z. join_election l p d may.stands a (old.elections a e z) }

pub sound_step : (o : Objects) (e : Step) → MayDo o e → Sound o.ledger → Sound (objects_after o e).ledger
sound_step o Begin may old = old
sound_step o (Ask c) may old = old
sound_step o (Raise p d) may old = raise_sound o.ledger p d may old
sound_step o (Elect d b) may old = elect_sound o.ledger d b may old
sound_step o (Accept p d) may old = accept_sound o.ledger p d may old
sound_step o (Commit d c) may old = commit_sound o.ledger d c may old
sound_step o (Adopt p d) may old = adopt_sound o.ledger p d may old
sound_step o (Write p v) may old = old
sound_step o (Acknowledge p v) may old = old
sound_step o (Install p d m) may old = old
sound_step o (EndSync p d) may old = join_sound o.ledger p d may.0 old
sound_step o (Propose v k u s x c) may old = old
sound_step o (Settle v) may old = old
sound_step o (Note i k u d) may old = old
sound_step o (Answer i r) may old = old
sound_step o (Lose p) may old = old
sound_step o (Revert p m) may old = old

-- ## The opening

zero_only : (d : ℕ) → eqb d 0 ≡ true → 0 < d → ⊥
zero_only d e z = grind (arith, nat_tests)

pub opening_sound : (view : List ℕ) → 0 < length view → Sound (opening_ledger view)
opening_sound view some = record {
  beginning = record { zero_elected = refl; zero_accepted = λ q. refl; zero_views = refl; some = some };
  peers = record {
    kept = λ q. omega arith;
    newest = λ q d h. grind (arith, nat_tests);
    last = λ q. refl;
    last_change = λ q h. absurd (omega arith);
    first = λ q d h. h;
    second = λ q d h. absurd (false≢true h);
    both = λ q d h. absurd (false≢true h);
    ended = λ q d h. absurd (false≢true h);
    joined = λ q d h new. absurd new;
  };
  leaders = record { changed = λ d h. absurd (false≢true h); agreed = λ d h. absurd (false≢true h) };
  elections = λ d e z. absurd (zero_only d e z);
}

pub run_sound : (view : List ℕ) (steps : List Step) → IsRun view steps → Sound (state_after view steps).objects.ledger
run_sound view [] run = opening_sound view run
run_sound view (e ∷ steps) run = sound_step (state_after view steps).objects e run.1.0 (run_sound view steps run.0)
