-- What each step preserves of answers and of the epochs elected before a call; and the laws of all
-- entries in each run.
use Rattle.std.proofs.Common.{◌≡◌, ℕ, ◌<◌, ◌≤◌, Bool, true, false, ◌⊎◌, List, [], ◌∷◌, arith, ap, refl, inl, inr, sym, ◌∙◌, subst, le_trans}
use Rattle.std.specs.Prelude.{nat_lt}
use Rattle.std.proofs.lemmas.Bool.Decides.{nat_tests}
use Rattle.std.proofs.lemmas.Bool.{false≢true}
use Rattle.ens_base.specs.declared.reply.Reply.{Reply}
use Rattle.register_model.specs.declared.register.Register.{Register}
use Rattle.register_model.specs.declared.call.Call.{Call}
use Rattle.register_model.specs.declared.answer.Answer.{Answer as Given}
use Rattle.register_model.specs.Registers.{outcome}
use Rattle.register_model.specs.Histories.{IsRefused}
use Rattle.quorums.proofs.Majorities.{quorum_more}
use Rattle.quorums.specs.Quorums.{is_quorum}
use Rattle.protocol_laws.proofs.Sound.{Sound}
use Rattle.protocol_laws.proofs.Epochs.{not_both, blocked}
use Rattle.protocol_laws.proofs.Basics.{proposed_then}
use Rattle.protocol_laws.proofs.Descent.{Whole, whole_step, run_whole}
use Rattle.protocol_laws.proofs.Maps.{put_other, put_here}
use Rattle.protocol_laws.proofs.Later.{later_step}
use Rattle.protocol_laws.specs.Stays.{Later}
use Rattle.protocol_laws.proofs.Entries.{call_later, elected_later, proposals_step, settled_step_keeps, once_step, reads_step, base_old}
use Rattle.protocol_laws.specs.Ledger.{put}
use Rattle.protocol_laws.specs.Book.{Seen, register_at, Wrote, MayCall, MayAnswer, IsWriteReply, IsReadReply}
use Rattle.protocol_laws.specs.Elections.{may_accept}
use Rattle.protocol_laws.specs.Entries.{EntriesAreSafe, CallKeeps, IsByWrite, IsByRead, AnswerKeeps, stood_above, PastKeeps}
use Rattle.protocol_laws.specs.Protocol.{State, Step, Begin, Ask, Raise, Elect, Accept, Commit, Adopt, Write, Acknowledge, Install, EndSync, Propose, Settle, Note, Answer, Lose, Revert, opening, happens, MayCome, IsRun, state_after}

-- ## Calls

new_call : (s : State) (c : Call) → MayCall s.book c → CallKeeps (happens s (Ask c)) c.id
new_call s c may = record {
  own_id = ap (λ (x : Call). x.id) (put_here s.book.asked c.id c);
  event = rw (put_here s.book.asked c.id c) (omega (arith, may.event));
  stood = λ q. rw (put_here s.book.stood c.id s.objects.ledger.ballot) (omega arith);
}

calls_step : (s : State) (e : Step) → MayCome s e → Later s (happens s e) → EntriesAreSafe s → (i : ℕ) → (happens s e).book.called i ≡ true → CallKeeps (happens s e) i
calls_step s (Ask c) may l entries i h = proposed_then s.book.called c.id (CallKeeps (happens s (Ask c))) (new_call s c may.1) (λ i n h. call_later s (happens s (Ask c)) l i h (entries.calls i h)) i h
calls_step s Begin may l entries i h = call_later s (happens s Begin) l i h (entries.calls i h)
calls_step s (Raise q d) may l entries i h = call_later s (happens s (Raise q d)) l i h (entries.calls i h)
calls_step s (Elect d b) may l entries i h = call_later s (happens s (Elect d b)) l i h (entries.calls i h)
calls_step s (Accept q d) may l entries i h = call_later s (happens s (Accept q d)) l i h (entries.calls i h)
calls_step s (Commit d c) may l entries i h = call_later s (happens s (Commit d c)) l i h (entries.calls i h)
calls_step s (Adopt q d) may l entries i h = call_later s (happens s (Adopt q d)) l i h (entries.calls i h)
calls_step s (Write q v) may l entries i h = call_later s (happens s (Write q v)) l i h (entries.calls i h)
calls_step s (Acknowledge q v) may l entries i h = call_later s (happens s (Acknowledge q v)) l i h (entries.calls i h)
calls_step s (Install q d m) may l entries i h = call_later s (happens s (Install q d m)) l i h (entries.calls i h)
calls_step s (EndSync q d) may l entries i h = call_later s (happens s (EndSync q d)) l i h (entries.calls i h)
calls_step s (Propose v k u y z c) may l entries i h = call_later s (happens s (Propose v k u y z c)) l i h (entries.calls i h)
calls_step s (Settle v) may l entries i h = call_later s (happens s (Settle v)) l i h (entries.calls i h)
calls_step s (Note j k u d) may l entries i h = call_later s (happens s (Note j k u d)) l i h (entries.calls i h)
calls_step s (Answer j r) may l entries i h = call_later s (happens s (Answer j r)) l i h (entries.calls i h)
calls_step s (Lose q) may l entries i h = call_later s (happens s (Lose q)) l i h (entries.calls i h)
calls_step s (Revert q m) may l entries i h = call_later s (happens s (Revert q m)) l i h (entries.calls i h)

-- ## Elections

elected_step : (s : State) (e : Step) → MayCome s e → Later s (happens s e) → EntriesAreSafe s → (d : ℕ) → (happens s e).objects.ledger.elected d ≡ true → (happens s e).book.elected_at d ≤ (happens s e).book.now
elected_step s (Elect x b) may l entries d h = proposed_then s.objects.ledger.elected x (λ d. put s.book.elected_at x s.book.now d ≤ s.book.now) (rw (put_here s.book.elected_at x s.book.now) (omega arith)) (λ d n h. elected_later s (happens s (Elect x b)) l entries.elected d h) d h
elected_step s (Ask c) may l entries d h = elected_later s (happens s (Ask c)) l entries.elected d h
elected_step s Begin may l entries d h = elected_later s (happens s Begin) l entries.elected d h
elected_step s (Raise q e) may l entries d h = elected_later s (happens s (Raise q e)) l entries.elected d h
elected_step s (Accept q e) may l entries d h = elected_later s (happens s (Accept q e)) l entries.elected d h
elected_step s (Commit e c) may l entries d h = elected_later s (happens s (Commit e c)) l entries.elected d h
elected_step s (Adopt q e) may l entries d h = elected_later s (happens s (Adopt q e)) l entries.elected d h
elected_step s (Write q v) may l entries d h = elected_later s (happens s (Write q v)) l entries.elected d h
elected_step s (Acknowledge q v) may l entries d h = elected_later s (happens s (Acknowledge q v)) l entries.elected d h
elected_step s (Install q e m) may l entries d h = elected_later s (happens s (Install q e m)) l entries.elected d h
elected_step s (EndSync q e) may l entries d h = elected_later s (happens s (EndSync q e)) l entries.elected d h
elected_step s (Propose v k u y z c) may l entries d h = elected_later s (happens s (Propose v k u y z c)) l entries.elected d h
elected_step s (Settle v) may l entries d h = elected_later s (happens s (Settle v)) l entries.elected d h
elected_step s (Note j k u e) may l entries d h = elected_later s (happens s (Note j k u e)) l entries.elected d h
elected_step s (Answer j r) may l entries d h = elected_later s (happens s (Answer j r)) l entries.elected d h
elected_step s (Lose q) may l entries d h = elected_later s (happens s (Lose q)) l entries.elected d h
elected_step s (Revert q m) may l entries d h = elected_later s (happens s (Revert q m)) l entries.elected d h

-- ## Answers

by_write_later : (s t : State) → Later s t → (i : ℕ) (a : Given) → IsByWrite s i a → IsByWrite t i a
by_write_later s t l i a k = record {
  version = k.version;
  proposed = l.stay.versions.proposed k.version k.proposed;
  call = l.stay.call k.version k.proposed ∙ k.call;
  settled = l.stay.versions.settled k.version k.settled;
  in_time = rw (l.stay.settled_at k.version k.settled) k.in_time;
  reply = k.reply;
}

by_read_later : (s t : State) → Later s t → EntriesAreSafe s → (i : ℕ) (a : Given) → s.book.called i ≡ true → IsByRead s i (s.book.seen i) a → IsByRead t i (t.book.seen i) a
by_read_later s t l entries i a called k = subst (λ (n : Seen). IsByRead t i n a) (sym (l.stay.seen i k.noted)) (record {
  noted = l.stay.noted i k.noted;
  in_time = k.in_time;
  keeps = ap (λ (c : Call). outcome c.command (register_at t.book (s.book.seen i).base)) (l.stay.asked i called) ∙ ap (λ (r : Register). outcome (s.book.asked i).command r) (l.stay.register (s.book.seen i).base (base_old s (s.book.seen i) (entries.reads i k.noted).base)) ∙ k.keeps;
})

answer_later : (s t : State) → Later s t → EntriesAreSafe s → (i : ℕ) → s.book.answered i ≡ true → AnswerKeeps s i (s.book.answer i) → AnswerKeeps t i (s.book.answer i)
answer_later s t l entries i h k = record {
  called = l.stay.called i k.called;
  own_id = k.own_id;
  now = le_trans k.now l.stay.now;
  done = λ d. done (k.done d);
  not_written = λ r v w. not_written r v w (s.objects.proposed v) refl;
  not_noted = λ r n. not_noted r n (s.book.noted i) refl;
}
  where
    done : IsByWrite s i (s.book.answer i) ⊎ IsByRead s i (s.book.seen i) (s.book.answer i) → IsByWrite t i (s.book.answer i) ⊎ IsByRead t i (t.book.seen i) (s.book.answer i)
    done (inl w) = inl (by_write_later s t l i (s.book.answer i) w)
    done (inr r) = inr (by_read_later s t l entries i (s.book.answer i) k.called r)

    not_written : IsRefused (s.book.answer i).reply → (v : ℕ) → Wrote t.objects t.book i v → (b : Bool) → s.objects.proposed v ≡ b → ⊥
    not_written r v w true p = k.not_written r v (p, sym (l.stay.call v p) ∙ w.1)
    not_written r v w false p = (l.new_write v i w.0 p w.1).not_refused h r

    not_noted : IsRefused (s.book.answer i).reply → t.book.noted i ≡ true → (b : Bool) → s.book.noted i ≡ b → ⊥
    not_noted r n true p = k.not_noted r p
    not_noted r n false p = (l.new_note i n p).not_refused h r

new_answer : (s : State) (i : ℕ) (r : Reply) → MayAnswer s.objects s.book i r → EntriesAreSafe s → AnswerKeeps (happens s (Answer i r)) i (record { id = i; event = s.book.now; reply = r })
new_answer s i r may entries = record {
  called = may.called;
  own_id = refl;
  now = omega arith;
  done = λ d. done (may.done d);
  not_written = may.not_written;
  not_noted = λ f n. not_both n (may.not_noted f);
}
  where
    a : Given
    a = record { id = i; event = s.book.now; reply = r }

    done : IsWriteReply s.objects s.book i r ⊎ IsReadReply s.book i r → IsByWrite (happens s (Answer i r)) i a ⊎ IsByRead (happens s (Answer i r)) i (s.book.seen i) a
    done (inl w) = inl (record { version = w.version; proposed = w.wrote.0; call = w.wrote.1; settled = w.settled; in_time = (entries.settled w.version w.settled).now; reply = w.reply })
    done (inr n) = inr (record { noted = n.noted; in_time = (entries.reads i n.noted).now; keeps = n.keeps })

answers_step : (s : State) (e : Step) → MayCome s e → Later s (happens s e) → EntriesAreSafe s → (i : ℕ) → (happens s e).book.answered i ≡ true → AnswerKeeps (happens s e) i ((happens s e).book.answer i)
answers_step s (Answer j r) may l entries i h = proposed_then s.book.answered j (λ i. AnswerKeeps (happens s (Answer j r)) i (put s.book.answer j a i)) here (λ i n h. subst (λ (x : Given). AnswerKeeps (happens s (Answer j r)) i x) (sym (put_other s.book.answer j a i n)) (answer_later s (happens s (Answer j r)) l entries i h (entries.answers i h))) i h
  where
    a : Given
    a = record { id = j; event = s.book.now; reply = r }

    here : AnswerKeeps (happens s (Answer j r)) j (put s.book.answer j a j)
    here = subst (λ (x : Given). AnswerKeeps (happens s (Answer j r)) j x) (sym (put_here s.book.answer j a)) (new_answer s j r may.1 entries)
answers_step s (Ask c) may l entries i h = answer_later s (happens s (Ask c)) l entries i h (entries.answers i h)
answers_step s Begin may l entries i h = answer_later s (happens s Begin) l entries i h (entries.answers i h)
answers_step s (Raise q d) may l entries i h = answer_later s (happens s (Raise q d)) l entries i h (entries.answers i h)
answers_step s (Elect d b) may l entries i h = answer_later s (happens s (Elect d b)) l entries i h (entries.answers i h)
answers_step s (Accept q d) may l entries i h = answer_later s (happens s (Accept q d)) l entries i h (entries.answers i h)
answers_step s (Commit d c) may l entries i h = answer_later s (happens s (Commit d c)) l entries i h (entries.answers i h)
answers_step s (Adopt q d) may l entries i h = answer_later s (happens s (Adopt q d)) l entries i h (entries.answers i h)
answers_step s (Write q v) may l entries i h = answer_later s (happens s (Write q v)) l entries i h (entries.answers i h)
answers_step s (Acknowledge q v) may l entries i h = answer_later s (happens s (Acknowledge q v)) l entries i h (entries.answers i h)
answers_step s (Install q d m) may l entries i h = answer_later s (happens s (Install q d m)) l entries i h (entries.answers i h)
answers_step s (EndSync q d) may l entries i h = answer_later s (happens s (EndSync q d)) l entries i h (entries.answers i h)
answers_step s (Propose v k u y z c) may l entries i h = answer_later s (happens s (Propose v k u y z c)) l entries i h (entries.answers i h)
answers_step s (Settle v) may l entries i h = answer_later s (happens s (Settle v)) l entries i h (entries.answers i h)
answers_step s (Note j k u d) may l entries i h = answer_later s (happens s (Note j k u d)) l entries i h (entries.answers i h)
answers_step s (Lose q) may l entries i h = answer_later s (happens s (Lose q)) l entries i h (entries.answers i h)
answers_step s (Revert q m) may l entries i h = answer_later s (happens s (Revert q m)) l entries i h (entries.answers i h)

-- ## What was elected before a call

same_above : (s t : State) (i d q : ℕ) → t.book.stood i q ≡ s.book.stood i q → stood_above s.book i d q ≡ true → stood_above t.book i d q ≡ true
same_above s t i d q e h = rw e h

past_later : (s t : State) → Later s t → (i : ℕ) → s.book.called i ≡ true → CallKeeps s i → PastKeeps s i → PastKeeps t i
past_later s t l i called call k d e ed ee low before after opened = by_elected (s.objects.ledger.elected d) refl (s.objects.ledger.elected e) refl
  where
    too_late : (x : ℕ) → s.book.now ≤ t.book.elected_at x → t.book.elected_at x < (s.book.asked i).event → (s.book.asked i).event ≤ s.book.now → ⊥
    too_late x a b c = omega arith

    asked : t.book.asked i ≡ s.book.asked i
    asked = l.stay.asked i called

    by_open : s.objects.ledger.elected d ≡ true → s.objects.ledger.elected e ≡ true → (b : Bool) → is_quorum (may_accept s.objects.ledger d) (s.objects.ledger.views d) ≡ b → is_quorum (stood_above t.book i d) (t.objects.ledger.views d) ≡ true
    by_open p q false c = absurd (not_both opened (l.stay.versions.ledger.closed d p c))
    by_open p q true o = rw (l.stay.versions.ledger.views d p) (quorum_more (stood_above s.book i d) (stood_above t.book i d) (λ r. same_above s t i d r (l.stay.stood i r called)) (s.objects.ledger.views d)
        (k d e p q low (rw (asked, l.stay.elected_at d p) at before) (rw (asked, l.stay.elected_at e q) at after) o))

    by_elected : (a : Bool) → s.objects.ledger.elected d ≡ a → (b : Bool) → s.objects.ledger.elected e ≡ b → is_quorum (stood_above t.book i d) (t.objects.ledger.views d) ≡ true
    by_elected false p b q = absurd (too_late d (l.new_epoch d ed p) (rw asked at before) call.event)
    by_elected true p false q = absurd (too_late e (l.new_epoch e ee q) (rw asked at after) call.event)
    by_elected true p true q = by_open p q (is_quorum (may_accept s.objects.ledger d) (s.objects.ledger.views d)) refl

new_past : (s : State) (c : Call) → Sound s.objects.ledger → PastKeeps (happens s (Ask c)) c.id
new_past s c sound d e ed ee low before after opened =
    let b = blocked s.objects.ledger sound e d ee ed low opened in
    quorum_more b.peers (stood_above (happens s (Ask c)).book c.id d) (λ q h. above q (b.above q h)) (s.objects.ledger.views d) b.quorum
  where
    test : (q : ℕ) (f : ℕ → ℕ) → f q ≡ s.objects.ledger.ballot q → d < s.objects.ledger.ballot q → nat_lt d (f q) ≡ true
    test q f e h = grind (arith, nat_tests)

    above : (q : ℕ) → d < s.objects.ledger.ballot q → stood_above (happens s (Ask c)).book c.id d q ≡ true
    above q h = test q (put s.book.stood c.id s.objects.ledger.ballot c.id) (ap (λ (f : ℕ → ℕ). f q) (put_here s.book.stood c.id s.objects.ledger.ballot)) h

past_step : (s : State) (e : Step) → MayCome s e → Later s (happens s e) → Sound s.objects.ledger → EntriesAreSafe s → (i : ℕ) → (happens s e).book.called i ≡ true → PastKeeps (happens s e) i
past_step s (Ask c) may l sound entries i h = proposed_then s.book.called c.id (PastKeeps (happens s (Ask c))) (new_past s c sound) (λ i n h. past_later s (happens s (Ask c)) l i h (entries.calls i h) (entries.past i h)) i h
past_step s Begin may l sound entries i h = past_later s (happens s Begin) l i h (entries.calls i h) (entries.past i h)
past_step s (Raise q d) may l sound entries i h = past_later s (happens s (Raise q d)) l i h (entries.calls i h) (entries.past i h)
past_step s (Elect d b) may l sound entries i h = past_later s (happens s (Elect d b)) l i h (entries.calls i h) (entries.past i h)
past_step s (Accept q d) may l sound entries i h = past_later s (happens s (Accept q d)) l i h (entries.calls i h) (entries.past i h)
past_step s (Commit d c) may l sound entries i h = past_later s (happens s (Commit d c)) l i h (entries.calls i h) (entries.past i h)
past_step s (Adopt q d) may l sound entries i h = past_later s (happens s (Adopt q d)) l i h (entries.calls i h) (entries.past i h)
past_step s (Write q v) may l sound entries i h = past_later s (happens s (Write q v)) l i h (entries.calls i h) (entries.past i h)
past_step s (Acknowledge q v) may l sound entries i h = past_later s (happens s (Acknowledge q v)) l i h (entries.calls i h) (entries.past i h)
past_step s (Install q d m) may l sound entries i h = past_later s (happens s (Install q d m)) l i h (entries.calls i h) (entries.past i h)
past_step s (EndSync q d) may l sound entries i h = past_later s (happens s (EndSync q d)) l i h (entries.calls i h) (entries.past i h)
past_step s (Propose v k u y z c) may l sound entries i h = past_later s (happens s (Propose v k u y z c)) l i h (entries.calls i h) (entries.past i h)
past_step s (Settle v) may l sound entries i h = past_later s (happens s (Settle v)) l i h (entries.calls i h) (entries.past i h)
past_step s (Note j k u d) may l sound entries i h = past_later s (happens s (Note j k u d)) l i h (entries.calls i h) (entries.past i h)
past_step s (Answer j r) may l sound entries i h = past_later s (happens s (Answer j r)) l i h (entries.calls i h) (entries.past i h)
past_step s (Lose q) may l sound entries i h = past_later s (happens s (Lose q)) l i h (entries.calls i h) (entries.past i h)
past_step s (Revert q m) may l sound entries i h = past_later s (happens s (Revert q m)) l i h (entries.calls i h) (entries.past i h)

-- ## All entries

pub entries_step : (s : State) (e : Step) → MayCome s e → Whole s.objects → Whole (happens s e).objects → EntriesAreSafe s → EntriesAreSafe (happens s e)
entries_step s e may w next entries = let l = later_step s e may w in record {
  calls = calls_step s e may l entries;
  elected = elected_step s e may l entries;
  proposals = proposals_step s e may l w.basics next.basics entries;
  settled = settled_step_keeps s e may l w.settled entries;
  once = once_step s e may l entries.once;
  reads = reads_step s e may l w entries;
  answers = answers_step s e may l entries;
  past = past_step s e may l w.sound entries;
}

pub opening_entries : (view : List ℕ) → EntriesAreSafe (opening view)
opening_entries view = record {
  calls = λ i h. absurd (false≢true h);
  elected = λ d h. omega arith;
  proposals = λ v h. absurd (false≢true h);
  settled = λ v h. absurd (false≢true h);
  once = record { once = λ v w i a b. absurd (false≢true a.0); apart = λ v i a h. absurd (false≢true h) };
  reads = λ i h. absurd (false≢true h);
  answers = λ i h. absurd (false≢true h);
  past = λ i h. absurd (false≢true h);
}

pub run_entries : (view : List ℕ) (steps : List Step) → IsRun view steps → EntriesAreSafe (state_after view steps)
run_entries view [] run = opening_entries view
run_entries view (e ∷ steps) run = entries_step (state_after view steps) e run.1 (run_whole view steps run.0) (whole_step (state_after view steps).objects e run.1.0 (run_whole view steps run.0)) (run_entries view steps run.0)
