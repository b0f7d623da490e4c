-- What is preserved by each step.
use Rattle.std.proofs.Common.{◌≡◌, ℕ, ◌+◌, ◌<◌, ◌≤◌, ◌∙◌, le_trans, Bool, true, false, List, [], ◌∷◌, ◌==◌, cond, arith, refl}
use Rattle.std.proofs.lemmas.Bool.Decides.{nat_tests}
use Rattle.quorums.proofs.Majorities.{quorum_less}
use Rattle.protocol_laws.proofs.Sound.{accept_established, join_established, elect_established}
use Rattle.protocol_laws.specs.Ledger.{Place, Change, Ledger, put, mark, raise, elect, accept, commit, adopt, join, MayElect}
use Rattle.protocol_laws.specs.Objects.{Objects}
use Rattle.protocol_laws.specs.Elections.{may_accept, Stays, times_elected}
use Rattle.protocol_laws.specs.Protocol.{Step, Begin, Ask, Raise, Elect, Accept, Commit, Adopt, Write, Acknowledge, Install, EndSync, Propose, Settle, Note, Answer, Lose, Revert, objects_after, MayDo, state_after, IsRun}

pub stays_same : (l : Ledger) → Stays l l
stays_same l = record { ballot = λ q. omega arith; elected = λ d h. h; base = λ d h. refl; views = λ d h. refl; changed = λ d h. (h, refl); accepted = λ a q h. h; adopted = λ a q h. h; synced = λ a q h. h; passed = λ a q l h. h; established = λ d e h. h; closed = λ d e h. h }

marked : (r : ℕ → ℕ → Bool) (p x d q : ℕ) → r d q ≡ true → mark r x p d q ≡ true
marked r p x d q h = grind (arith, nat_tests)

-- a peer accepts only at its ballot
old_mark : (l : Ledger) (p x d q : ℕ) → l.ballot p ≡ x → d < l.ballot q → mark l.accepted x p d q ≡ true → l.accepted d q ≡ true
old_mark l p x d q stands r m = grind (arith, nat_tests)

pub put_rises : (f : ℕ → ℕ) (p d : ℕ) → f p ≤ d → (q : ℕ) → f q ≤ put f p d q
put_rises f p d h q = grind (arith, nat_tests)

raise_less : (l : Ledger) (p d a : ℕ) → l.ballot p ≤ d → (q : ℕ) → may_accept (raise l p d) a q ≡ true → may_accept l a q ≡ true
raise_less l p d a may q h = grind (arith, nat_tests)

accept_less : (l : Ledger) (p d a : ℕ) → l.ballot p ≡ d → (q : ℕ) → may_accept (accept l p d) a q ≡ true → may_accept l a q ≡ true
accept_less l p d a may q h = grind (arith, nat_tests)

raise_stays : (l : Ledger) (p d : ℕ) → l.ballot p ≤ d → Stays l (raise l p d)
raise_stays l p d may = record {
  ballot = put_rises l.ballot p d may;
  elected = λ a h. h;
  base = λ a h. refl;
  views = λ a h. refl;
  changed = λ a h. (h, refl);
  accepted = λ a q h. h;
  adopted = λ a q h. h;
  synced = λ a q h. h;
  passed = λ a q l h. h;
  established = λ a e h. h;
  closed = λ a e h. quorum_less (may_accept l a) (may_accept (raise l p d) a) (l.views a) (raise_less l p d a may) h;
}

elect_stays : (l : Ledger) (d : ℕ) (b : Place) → MayElect l d b → Stays l (elect l d b)
elect_stays l d b may = record {
  ballot = λ q. omega arith;
  elected = λ a h. grind (arith, nat_tests);
  base = λ a h. grind (arith, nat_tests, may.fresh);
  views = λ a h. grind (arith, nat_tests, may.fresh);
  changed = λ a h. (h, refl);
  accepted = λ a q h. h;
  adopted = λ a q h. h;
  synced = λ a q h. h;
  passed = λ a q l h. h;
  established = λ a e h. elect_established l d b a may e h;
  closed = λ a e h. grind (arith, nat_tests, may.fresh);
}

accept_stays : (l : Ledger) (p d : ℕ) → l.ballot p ≡ d → Stays l (accept l p d)
accept_stays l p d may = record {
  ballot = λ q. omega arith;
  elected = λ a h. h;
  base = λ a h. refl;
  views = λ a h. refl;
  changed = λ a h. (h, refl);
  accepted = λ a q h. marked l.accepted p d a q h;
  adopted = λ a q h. h;
  synced = λ a q h. h;
  passed = λ a q r h. old_mark l p d a q may r h;
  established = λ a e h. accept_established l p d a h;
  closed = λ a e h. quorum_less (may_accept l a) (may_accept (accept l p d) a) (l.views a) (accept_less l p d a may) h;
}

join_stays : (l : Ledger) (p d : ℕ) → l.ballot p ≡ d → Stays l (join l p d)
join_stays l p d may = record {
  ballot = λ q. omega arith;
  elected = λ a h. h;
  base = λ a h. refl;
  views = λ a h. refl;
  changed = λ a h. (h, refl);
  accepted = λ a q h. marked l.accepted p d a q h;
  adopted = λ a q h. h;
  synced = λ a q h. marked l.synced p d a q h;
  passed = λ a q r h. old_mark l p d a q may r h;
  established = λ a e h. join_established l p d a h;
  closed = λ a e h. quorum_less (may_accept l a) (may_accept (join l p d) a) (l.views a) (accept_less l p d a may) h;
}

commit_stays : (l : Ledger) (d : ℕ) (c : Change) → l.changed d ≡ false → Stays l (commit l d c)
commit_stays l d c fresh = record { ballot = λ q. omega arith; elected = λ a h. h; base = λ a h. refl; views = λ a h. refl; changed = λ a h. (grind (arith, nat_tests), grind (arith, nat_tests)); accepted = λ a q h. h; adopted = λ a q h. h; synced = λ a q h. h; passed = λ a q l h. h; established = λ a e h. h; closed = λ a e h. h }

adopt_stays : (l : Ledger) (p d : ℕ) → Stays l (adopt l p d)
adopt_stays l p d = record { ballot = λ q. omega arith; elected = λ a h. h; base = λ a h. refl; views = λ a h. refl; changed = λ a h. (h, refl); accepted = λ a q h. h; adopted = λ a q h. marked l.adopted p d a q h; synced = λ a q h. h; passed = λ a q l h. h; established = λ a e h. h; closed = λ a e h. h }

pub step_stays : (o : Objects) (e : Step) → MayDo o e → Stays o.ledger (objects_after o e).ledger
step_stays o Begin may = stays_same o.ledger
step_stays o (Ask c) may = stays_same o.ledger
step_stays o (Raise p d) may = raise_stays o.ledger p d may
step_stays o (Elect d b) may = elect_stays o.ledger d b may
step_stays o (Accept p d) may = accept_stays o.ledger p d may.stands
step_stays o (Commit d c) may = commit_stays o.ledger d c may.fresh
step_stays o (Adopt p d) may = adopt_stays o.ledger p d
step_stays o (Write p v) may = stays_same o.ledger
step_stays o (Acknowledge p v) may = stays_same o.ledger
step_stays o (Install p d m) may = stays_same o.ledger
step_stays o (EndSync p d) may = join_stays o.ledger p d may.0.stands
step_stays o (Propose v k u s x c) may = stays_same o.ledger
step_stays o (Settle v) may = stays_same o.ledger
step_stays o (Note i k u d) may = stays_same o.ledger
step_stays o (Answer i r) may = stays_same o.ledger
step_stays o (Lose p) may = stays_same o.ledger
step_stays o (Revert p m) may = stays_same o.ledger

pub stays_then : (l m n : Ledger) → Stays l m → Stays m n → Stays l n
stays_then l m n a b = record {
  ballot = λ q. le_trans (a.ballot q) (b.ballot q);
  elected = λ d e. b.elected d (a.elected d e);
  base = λ d e. b.base d (a.elected d e) ∙ a.base d e;
  views = λ d e. b.views d (a.elected d e) ∙ a.views d e;
  changed = λ d e. ((b.changed d (a.changed d e).0).0, (b.changed d (a.changed d e).0).1 ∙ (a.changed d e).1);
  accepted = λ d q h. b.accepted d q (a.accepted d q h);
  adopted = λ d q h. b.adopted d q (a.adopted d q h);
  synced = λ d q h. b.synced d q (a.synced d q h);
  passed = λ d q r h. a.passed d q r (b.passed d q (le_trans r (a.ballot q)) h);
  established = λ d e h. b.established d (a.elected d e) (a.established d e h);
  closed = λ d e h. b.closed d (a.elected d e) (a.closed d e h);
}

pub run_stays : (view : List ℕ) (steps : List Step) (e : Step) → IsRun view (e ∷ steps) → Stays (state_after view steps).objects.ledger (state_after view (e ∷ steps)).objects.ledger
run_stays view steps e run = step_stays (state_after view steps).objects e run.1.0

-- ## An epoch is elected once

elect_once : (f : ℕ → Bool) (d e n : ℕ) → f e ≡ false → ((f d ≡ false → n ≡ 0) × (n ≤ 1)) → (put f e true d ≡ false → cond (d == e) 1 0 + n ≡ 0) × (cond (d == e) 1 0 + n ≤ 1)
elect_once f d e n fresh old = grind (arith, nat_tests)

once : (d : ℕ) (view : List ℕ) (steps : List Step) → IsRun view steps → ((state_after view steps).objects.ledger.elected d ≡ false → times_elected d steps ≡ 0) × (times_elected d steps ≤ 1)
once d view [] run = (λ h. refl, omega arith)
once d view (Elect e b ∷ steps) run = elect_once (state_after view steps).objects.ledger.elected d e (times_elected d steps) run.1.0.fresh (once d view steps run.0)
once d view (Raise p e ∷ steps) run = once d view steps run.0
once d view (Accept p e ∷ steps) run = once d view steps run.0
once d view (Begin ∷ steps) run = once d view steps run.0
once d view (Ask c ∷ steps) run = once d view steps run.0
once d view (Commit e c ∷ steps) run = once d view steps run.0
once d view (Adopt p e ∷ steps) run = once d view steps run.0
once d view (Write p v ∷ steps) run = once d view steps run.0
once d view (Acknowledge p v ∷ steps) run = once d view steps run.0
once d view (Install p e m ∷ steps) run = once d view steps run.0
once d view (EndSync p e ∷ steps) run = once d view steps run.0
once d view (Propose v k u s x c ∷ steps) run = once d view steps run.0
once d view (Settle v ∷ steps) run = once d view steps run.0
once d view (Note i k u e ∷ steps) run = once d view steps run.0
once d view (Answer i r ∷ steps) run = once d view steps run.0
once d view (Lose p ∷ steps) run = once d view steps run.0
once d view (Revert p m ∷ steps) run = once d view steps run.0

pub run_once : (view : List ℕ) (steps : List Step) (d : ℕ) → IsRun view steps → times_elected d steps ≤ 1
run_once view steps d run = (once d view steps run).1
