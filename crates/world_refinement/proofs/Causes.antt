-- The answers of a world that agrees with the book of a run have their causes in the notes.
use Rattle.std.proofs.Common.{◌≡◌, ℕ, zero, suc, ◌≤◌, ◌<◌, Bool, true, false, ◌⊎◌, List, [], ◌∷◌, Option, None, Some, if◌then◌else◌, eqb, eqb-true, length, map, arith, ap, refl, inl, inr, sym, ◌∙◌, subst}
use Rattle.std.proofs.lemmas.List.{length-map}
use Rattle.ens_base.specs.Lists.{◌∈◌, AreDistinct, same_bytes}
use Rattle.ens_base.specs.Epochs.{same_version}
use Rattle.ens_base.specs.declared.command.Command.{Command}
use Rattle.ens_base.specs.declared.command.Command.TheVariants.{Get, PutOnce, Update, Append, Add, Swap, Over, Delete}
use Rattle.ens_base.specs.declared.epoch.Version.{Version}
use Rattle.ens_base.specs.declared.reply.Reply.{Reply}
use Rattle.protocol_laws.proofs.Epochs.{not_both}
use Rattle.register_model.specs.Histories.{IsDone, IsRefused}
use Rattle.register_model.specs.Orders.{rank, rank_or_none}
use Rattle.register_model.specs.Registers.{outcome, Keeps, Writes, written}
use Rattle.register_model.specs.declared.answer.Answer.{Answer as Given}
use Rattle.register_model.specs.declared.call.Call.{Call}
use Rattle.register_model.specs.declared.note.Note.{Note as Noted}
use Rattle.register_model.specs.declared.note.Note.TheVariants.{Proposed, Settled as SettledNote, Read}
use Rattle.register_model.specs.declared.register.Register.{Register}
use Rattle.register_model.specs.declared.register.Register.TheVariants.{Absent, Present}
use Rattle.protocol_laws.specs.Book.{Book, version_of, version_or_none, register_at, Wrote, IsWriteReply, IsReadReply}
use Rattle.protocol_laws.specs.Protocol.{State, Step, Begin, Ask, Raise, Elect, Accept, Commit, Adopt, Write, Acknowledge, Install, EndSync, Propose, Settle, Note, Answer, Lose, Revert, happens, MayCome, IsRun, state_after}
use Rattle.protocol_laws.specs.Entries.{EntriesAreSafe, WriteKeeps, RewriteKeeps, SawNothing, SawNewest, IsByWrite, IsByRead, AnswerKeeps}
use Rattle.protocol_laws.proofs.Replies.{run_entries}
use Rattle.protocol_laws.proofs.Chains.{IsOfOrNone, positive, parent_of}
use Rattle.protocol_laws.proofs.Noted.{ProposedHolds, ReadHolds, Listed, run_listed}
use Rattle.protocol_laws.proofs.Descent.{Whole, run_whole}
use Rattle.schedule_text.specs.declared.event.ScheduleEvent.{ScheduleEvent}
use Rattle.world_spec.specs.Runs.{Run}
use Rattle.step_refinement.proofs.DistinctItems.{end_distinct}
use Rattle.world_refinement.specs.Causes.{StandsFor, none, write, rewrite, IsWritten, IsRead, IsUntouched, HasCause, HaveCauses}
use Rattle.world_refinement.specs.Lines.{calls_from, answers_in, BookAgrees}

-- ## A command that writes nothing does not return `ok`

fails : (b : Bool) (content : Option (List ℕ)) (stamp : Version) → (if b then Writes content else Keeps Reply.Failed) ≡ Keeps (Reply.Ok stamp) → ⊥
fails true content stamp e = cc
fails false content stamp e = cc

keeps_not_ok : (c : Command) (x : Register) (stamp : Version) → outcome c x ≡ Keeps (Reply.Ok stamp) → ⊥
keeps_not_ok Get Absent stamp e = cc
keeps_not_ok Get (Present old bytes) stamp e = cc
keeps_not_ok (PutOnce value) Absent stamp e = cc
keeps_not_ok (PutOnce value) (Present old bytes) stamp e = cc
keeps_not_ok (Update wanted value) Absent stamp e = cc
keeps_not_ok (Update wanted value) (Present old bytes) stamp e = fails (same_version wanted old) (Some value) stamp e
keeps_not_ok (Append tail) Absent stamp e = cc
keeps_not_ok (Append tail) (Present old bytes) stamp e = fails _ _ stamp e
keeps_not_ok (Add n) Absent stamp e = cc
keeps_not_ok (Add n) (Present old bytes) stamp e = fails _ _ stamp e
keeps_not_ok (Swap wanted value) Absent stamp e = cc
keeps_not_ok (Swap wanted value) (Present old bytes) stamp e = fails (same_bytes bytes wanted) (Some value) stamp e
keeps_not_ok (Over value) x stamp e = cc
keeps_not_ok Delete x stamp e = cc

same_stamp : (a b : Version) → Reply.Ok a ≡ Reply.Ok b → b ≡ a
same_stamp a b e = cc

value_not_ok : (stamp v : Version) (bytes : List ℕ) → Reply.Value stamp bytes ≡ Reply.Ok v → ⊥
value_not_ok stamp v bytes e = cc

absent_not_ok : (v : Version) → Reply.NotFound ≡ Reply.Ok v → ⊥
absent_not_ok v e = cc

failed_not_ok : (v : Version) → Reply.Failed ≡ Reply.Ok v → ⊥
failed_not_ok v e = cc

-- ## A version, or none

some_is_it : (v : ℕ) (w : Version) → version_or_none v ≡ Some w → version_of v ≡ w
some_is_it v w e = by_cases (eqb v 0) e
  where
    by_cases : (b : Bool) → (if b then None else Some (version_of v)) ≡ Some w → version_of v ≡ w
    by_cases true n = absurd (cc)
    by_cases false n = cc

zero_is_none : (v : ℕ) (w : Version) → v ≡ 0 → version_or_none v ≡ Some w → ⊥
zero_is_none v w z e = no (subst (λ (u : ℕ). version_or_none u ≡ Some w) z e)
  where
    no : version_or_none 0 ≡ Some w → ⊥
    no n = cc

-- ## The register that a version stands for

some_version : (v : ℕ) → 0 < v → version_or_none v ≡ Some (version_of v)
some_version v some = by_zero (eqb v 0) refl
  where
    not_zero : v ≡ 0 → ⊥
    not_zero e = omega arith

    by_zero : (b : Bool) → eqb v 0 ≡ b → version_or_none v ≡ Some (version_of v)
    by_zero true t = absurd (not_zero (eqb-true v 0 t))
    by_zero false t = rw t refl

some_register : (b : Book) (v : ℕ) → 0 < v → register_at b v ≡ written (b.stamp v) (b.content v)
some_register b v some = by_zero (eqb v 0) refl
  where
    not_zero : v ≡ 0 → ⊥
    not_zero e = omega arith

    by_zero : (t : Bool) → eqb v 0 ≡ t → register_at b v ≡ written (b.stamp v) (b.content v)
    by_zero true t = absurd (not_zero (eqb-true v 0 t))
    by_zero false t = rw t refl

module _ (s : State) (w : Whole s.objects) (entries : EntriesAreSafe s) (listed : Listed s) (k : List ℕ) where
  -- the version of this rank, or none, stands for this register
  abbrev Stands : Option Version → Register → Type 0
  Stands = StandsFor s.book.calls s.book.notes k

  standing : (n v : ℕ) → v < n → IsOfOrNone s k v → Stands (version_or_none v) (register_at s.book v)
  standing zero v less of = absurd (omega arith)
  standing (suc n) v less (inl absent) = subst (λ (u : ℕ). Stands (version_or_none u) (register_at s.book u)) (sym absent) none
  standing (suc n) v less (inr of) = subst (λ (o : Option Version). Stands o (register_at s.book v)) (sym (some_version v some))
      (by (standing n (s.objects.parent v) (let below : s.objects.parent v < v = w.basics.lower v of.0 in omega arith) (parent_of s w.basics k v of)) (s.book.call v) refl)
    where
      some : 0 < v
      some = positive s w.basics k v of

      u : ℕ
      u = s.objects.parent v

      noted : (c : Option ℕ) → s.book.call v ≡ c → Proposed k (version_of v) (version_or_none u) c ∈ s.book.notes
      noted c e = subst (λ (o : Option ℕ). Proposed k (version_of v) (version_or_none u) o ∈ s.book.notes) e
          (subst (λ (l : List ℕ). Proposed l (version_of v) (version_or_none u) (s.book.call v) ∈ s.book.notes) of.1 (listed.proposed_in v of.0))

      by : Stands (version_or_none u) (register_at s.book u) → (c : Option ℕ) → s.book.call v ≡ c → Stands (Some (version_of v)) (register_at s.book v)
      by parent None e = subst (Stands (Some (version_of v))) (sym same) (rewrite (version_of v) (version_or_none u) (register_at s.book u) (noted None e) parent)
        where
          keeps : RewriteKeeps s v
          keeps = (entries.proposals v of.0).rewrite e

          same : register_at s.book v ≡ register_at s.book u
          same = some_register s.book v some ∙ ap (λ (x : Version). written x (s.book.content v)) keeps.same_stamp ∙ ap (λ (x : Option (List ℕ)). written (s.book.stamp u) x) keeps.same_content ∙ sym (some_register s.book u keeps.some)
      by parent (Some i) e = subst (Stands (Some (version_of v))) (sym is)
          (write (s.book.asked i) (version_of v) (version_or_none u) (register_at s.book u) (s.book.content v) (listed.call_in i keeps.called) (keeps.on_key ∙ of.1)
          (noted (Some (s.book.asked i).id) (e ∙ ap (λ (n : ℕ). Some n) (sym (entries.calls i keeps.called).own_id))) parent keeps.applies)
        where
          keeps : WriteKeeps s v i
          keeps = (entries.proposals v of.0).write i e

          is : register_at s.book v ≡ written (version_of v) (s.book.content v)
          is = some_register s.book v some ∙ ap (λ (x : Version). written x (s.book.content v)) keeps.own_stamp

  -- each version of the book, or none, stands for the register that it leaves there
  stands_for : (v : ℕ) → IsOfOrNone s k v → Stands (version_or_none v) (register_at s.book v)
  stands_for v of = standing (suc v) v (omega arith) of

-- ## The causes in the book of a state

module _ (s : State) (w : Whole s.objects) (entries : EntriesAreSafe s) (listed : Listed s) where
  module _ (i : ℕ) (called : s.book.called i ≡ true) where
    abbrev c : Call
    c = s.book.asked i

    own : c.id ≡ i
    own = (entries.calls i called).own_id

    wrote : (v : ℕ) → s.objects.proposed v ≡ true → s.book.call v ≡ Some i → s.objects.settled v ≡ true → IsWritten s.book.calls s.book.notes c (version_of v)
    wrote v proposed call settled = record {
      parent = version_or_none (s.objects.parent v);
      proposed = subst (λ (o : Option ℕ). Proposed c.key (version_of v) (version_or_none (s.objects.parent v)) o ∈ s.book.notes) (call ∙ ap (λ (n : ℕ). Some n) (sym own))
          (subst (λ (k : List ℕ). Proposed k (version_of v) (version_or_none (s.objects.parent v)) (s.book.call v) ∈ s.book.notes) (sym on_key) (listed.proposed_in v proposed));
      settled = subst (λ (k : List ℕ). SettledNote k (version_of v) ∈ s.book.notes) (sym on_key) (listed.settled_in v settled);
      register = register_at s.book (s.objects.parent v);
      stands = stands_for s w entries listed c.key (s.objects.parent v) (parent_of s w.basics c.key v (proposed, sym on_key));
      content = s.book.content v;
      writes = keeps.applies;
    }
      where
        keeps : WriteKeeps s v i
        keeps = (entries.proposals v proposed).write i call

        on_key : c.key ≡ s.objects.key v
        on_key = keeps.on_key

    read : (r : Reply) → IsReadReply s.book i r → IsRead s.book.calls s.book.notes c r
    read r by = record {
      base = version_or_none base;
      noted = subst (λ (j : ℕ). Read j c.key (version_or_none base) ∈ s.book.notes) (sym own) (subst (λ (k : List ℕ). Read i k (version_or_none base) ∈ s.book.notes) (sym on_key) (listed.read_in i by.noted));
      settled = λ version e. settled version e saw;
      register = register_at s.book base;
      stands = stands_for s w entries listed c.key base (of_key saw);
      keeps = by.keeps;
    }
      where
        base : ℕ
        base = (s.book.seen i).base

        saw : SawNothing s (s.book.seen i) ⊎ SawNewest s (s.book.seen i)
        saw = (entries.reads i by.noted).base

        on_key : c.key ≡ (s.book.seen i).key
        on_key = (entries.reads i by.noted).on_key

        of_key : SawNothing s (s.book.seen i) ⊎ SawNewest s (s.book.seen i) → IsOfOrNone s c.key base
        of_key (inl nothing) = inl nothing.none
        of_key (inr newest) = inr (newest.proposed, newest.key ∙ sym on_key)

        settled : (version : Version) → version_or_none base ≡ Some version → SawNothing s (s.book.seen i) ⊎ SawNewest s (s.book.seen i) → SettledNote c.key version ∈ s.book.notes
        settled version e (inl nothing) = absurd (zero_is_none base version nothing.none e)
        settled version e (inr newest) = subst (λ (w : Version). SettledNote c.key w ∈ s.book.notes) (some_is_it base version e)
            (subst (λ (k : List ℕ). SettledNote k (version_of base) ∈ s.book.notes) (newest.key ∙ sym on_key) (listed.settled_in base newest.settled))

    untouched : ((v : ℕ) → Wrote s.objects s.book i v → ⊥) → (s.book.noted i ≡ true → ⊥) → IsUntouched s.book.notes c
    untouched not_written not_noted = record {
      not_written = λ key version parent m. by_write key version parent (listed.holds (Proposed key version parent (Some c.id)) m);
      not_read = λ key base m. by_read key base (listed.holds (Read c.id key base) m);
    }
      where
        by_write : (key : List ℕ) (version : Version) (parent : Option Version) → ProposedHolds s key (rank version) (rank_or_none parent) (Some c.id) → ⊥
        by_write key version parent h = not_written (rank version) (h.proposed, h.call_of ∙ ap (λ (n : ℕ). Some n) own)

        by_read : (key : List ℕ) (base : Option Version) → ReadHolds s c.id key (rank_or_none base) → ⊥
        by_read key base h = not_noted (subst (λ (j : ℕ). s.book.noted j ≡ true) own h.noted)

    cause : (r : Reply) → (IsDone r → IsWriteReply s.objects s.book i r ⊎ IsReadReply s.book i r) → (IsRefused r → (v : ℕ) → Wrote s.objects s.book i v → ⊥) → (IsRefused r → s.book.noted i ≡ true → ⊥) → HasCause s.book.calls s.book.notes c r
    cause (Reply.Ok stamp) done not_written not_noted = by_done (done tt)
      where
        by_done : IsWriteReply s.objects s.book i (Reply.Ok stamp) ⊎ IsReadReply s.book i (Reply.Ok stamp) → IsWritten s.book.calls s.book.notes c stamp
        by_done (inl by) = subst (IsWritten s.book.calls s.book.notes c) (same_stamp stamp (version_of by.version) by.reply) (wrote by.version by.wrote.0 by.wrote.1 by.settled)
        by_done (inr by) = absurd (keeps_not_ok c.command (register_at s.book (s.book.seen i).base) stamp by.keeps)
    cause (Reply.Value stamp bytes) done not_written not_noted = by_done (done tt)
      where
        by_done : IsWriteReply s.objects s.book i (Reply.Value stamp bytes) ⊎ IsReadReply s.book i (Reply.Value stamp bytes) → IsRead s.book.calls s.book.notes c (Reply.Value stamp bytes)
        by_done (inl by) = absurd (value_not_ok stamp (version_of by.version) bytes by.reply)
        by_done (inr by) = read (Reply.Value stamp bytes) by
    cause Reply.NotFound done not_written not_noted = by_done (done tt)
      where
        by_done : IsWriteReply s.objects s.book i Reply.NotFound ⊎ IsReadReply s.book i Reply.NotFound → IsRead s.book.calls s.book.notes c Reply.NotFound
        by_done (inl by) = absurd (absent_not_ok (version_of by.version) by.reply)
        by_done (inr by) = read Reply.NotFound by
    cause Reply.Failed done not_written not_noted = by_done (done tt)
      where
        by_done : IsWriteReply s.objects s.book i Reply.Failed ⊎ IsReadReply s.book i Reply.Failed → IsRead s.book.calls s.book.notes c Reply.Failed
        by_done (inl by) = absurd (failed_not_ok (version_of by.version) by.reply)
        by_done (inr by) = read Reply.Failed by
    cause Reply.Unavailable done not_written not_noted = untouched (not_written tt) (not_noted tt)
    cause Reply.Busy done not_written not_noted = untouched (not_written tt) (not_noted tt)
    cause Reply.Lost done not_written not_noted = untouched (not_written tt) (not_noted tt)
    cause Reply.Timeout done not_written not_noted = tt

  -- an answer has its cause
  kept_cause : (i : ℕ) (a : Given) → (keeps : AnswerKeeps s i a) → HasCause s.book.calls s.book.notes (s.book.asked i) a.reply
  kept_cause i a keeps = cause i keeps.called a.reply (λ d. guards (keeps.done d)) keeps.not_written keeps.not_noted
    where
      guards : IsByWrite s i a ⊎ IsByRead s i (s.book.seen i) a → IsWriteReply s.objects s.book i a.reply ⊎ IsReadReply s.book i a.reply
      guards (inl by) = inl (record { version = by.version; wrote = (by.proposed, by.call); settled = by.settled; reply = by.reply })
      guards (inr by) = inr (record { noted = by.noted; keeps = by.keeps })

  -- each answer of the book is to a call, and has its cause
  pub answer_cause : (a : Given) → a ∈ s.book.answers → (c : Call) × (c ∈ s.book.calls) × (c.id ≡ a.id) × HasCause s.book.calls s.book.notes c a.reply
  answer_cause a h = (s.book.asked a.id, listed.call_in a.id keeps.called, (entries.calls a.id keeps.called).own_id, kept_cause a.id a keeps)
    where
      keeps : AnswerKeeps s a.id a
      keeps = subst (λ (x : Given). AnswerKeeps s a.id x) (listed.answer a h) (entries.answers a.id (listed.answered a h))

  -- ## Whose calls the notes are about

  -- a call with this id came
  abbrev HasCome : ℕ → Type 0
  HasCome id = (c : Call) × (c ∈ s.book.calls) × (c.id ≡ id)

  has_come : (id : ℕ) → s.book.called id ≡ true → HasCome id
  has_come id called = (s.book.asked id, listed.call_in id called, (entries.calls id called).own_id)

  -- a proposal that is noted for a call is for one that came
  pub proposed_call : (id : ℕ) (key : List ℕ) (version : Version) (parent : Option Version) → Proposed key version parent (Some id) ∈ s.book.notes → HasCome id
  proposed_call id key version parent m = by_write (listed.holds (Proposed key version parent (Some id)) m)
    where
      by_write : ProposedHolds s key (rank version) (rank_or_none parent) (Some id) → HasCome id
      by_write h = has_come id ((entries.proposals (rank version) h.proposed).write id h.call_of).called

  -- so is a read that is noted
  pub read_call : (id : ℕ) (key : List ℕ) (base : Option Version) → Read id key base ∈ s.book.notes → HasCome id
  read_call id key base m = by_read (listed.holds (Read id key base) m)
    where
      by_read : ReadHolds s id key (rank_or_none base) → HasCome id
      by_read h = has_come id (entries.reads id h.noted).called

-- ## No call is answered twice

abbrev ids_of : List Given → List ℕ
ids_of answers = map (λ (a : Given). a.id) answers

id_in : (answers : List Given) (i : ℕ) → i ∈ ids_of answers → (a : Given) × (a ∈ answers) × (a.id ≡ i)
id_in [] i m = absurd m
id_in (a ∷ answers) i (inl e) = (a, inl refl, sym e)
id_in (a ∷ answers) i (inr m) = let b = id_in answers i m in (b.0, inr b.1, b.2)

in_ids : (answers : List Given) (a : Given) → a ∈ answers → a.id ∈ ids_of answers
in_ids [] a m = absurd m
in_ids (b ∷ answers) a (inl e) = inl (ap (λ (x : Given). x.id) e)
in_ids (b ∷ answers) a (inr m) = inr (in_ids answers a m)

once_step : (s : State) (e : Step) → MayCome s e → Listed s → AreDistinct (ids_of s.book.answers) → AreDistinct (ids_of (happens s e).book.answers)
once_step s (Answer i r) may listed old = (λ m. again (id_in s.book.answers i m), old)
  where
    again : (a : Given) × (a ∈ s.book.answers) × (a.id ≡ i) → ⊥
    again a = not_both (listed.answered a.0 a.1) (subst (λ (j : ℕ). s.book.answered j ≡ false) (sym a.2) may.1.fresh)
once_step s Begin may listed old = old
once_step s (Ask c) may listed old = old
once_step s (Raise p d) may listed old = old
once_step s (Elect d b) may listed old = old
once_step s (Accept p d) may listed old = old
once_step s (Commit d c) may listed old = old
once_step s (Adopt p d) may listed old = old
once_step s (Write p v) may listed old = old
once_step s (Acknowledge p v) may listed old = old
once_step s (Install p d m) may listed old = old
once_step s (EndSync p d) may listed old = old
once_step s (Propose v k u x y c) may listed old = old
once_step s (Settle v) may listed old = old
once_step s (Note i k u d) may listed old = old
once_step s (Lose p) may listed old = old
once_step s (Revert p m) may listed old = old

run_once : (view : List ℕ) (steps : List Step) → IsRun view steps → AreDistinct (ids_of (state_after view steps).book.answers)
run_once view [] run = tt
run_once view (e ∷ steps) run = once_step (state_after view steps) e run.1 (run_listed view steps run.0) (run_once view steps run.0)

-- ## In a world that agrees with the book

-- what is said of some calls is said of more
module _ (few more : List Call) (notes : List Noted) (among : (c : Call) → c ∈ few → c ∈ more) where
  stands_of : (key : List ℕ) (version : Option Version) (register : Register) → StandsFor few notes key version register → StandsFor more notes key version register
  stands_of key version register none = none
  stands_of key version register (write call v parent old content called on_key noted stands writes) = write call v parent old content (among call called) on_key noted (stands_of key parent old stands) writes
  stands_of key version register (rewrite v parent old noted stands) = rewrite v parent old noted (stands_of key parent old stands)

  written_of : (c : Call) (version : Version) → IsWritten few notes c version → IsWritten more notes c version
  written_of c version h = record {
    parent = h.parent;
    proposed = h.proposed;
    settled = h.settled;
    register = h.register;
    stands = stands_of c.key h.parent h.register h.stands;
    content = h.content;
    writes = h.writes;
  }

  read_of : (c : Call) (reply : Reply) → IsRead few notes c reply → IsRead more notes c reply
  read_of c reply h = record { base = h.base; noted = h.noted; settled = h.settled; register = h.register; stands = stands_of c.key h.base h.register h.stands; keeps = h.keeps }

  cause_of : (c : Call) (reply : Reply) → HasCause few notes c reply → HasCause more notes c reply
  cause_of c (Reply.Ok stamp) h = written_of c stamp h
  cause_of c (Reply.Value stamp bytes) h = read_of c (Reply.Value stamp bytes) h
  cause_of c Reply.NotFound h = read_of c Reply.NotFound h
  cause_of c Reply.Failed h = read_of c Reply.Failed h
  cause_of c Reply.Unavailable h = h
  cause_of c Reply.Busy h = h
  cause_of c Reply.Lost h = h
  cause_of c Reply.Timeout h = tt

-- the answers of the world have their causes in its notes
pub causes_of : (view : List ℕ) (steps : List Step) (events : List ScheduleEvent) (w : Run) → IsRun view steps → BookAgrees events w (state_after view steps).book → HaveCauses events w.printed w.notes
causes_of view steps events w run agrees = record {
  caused = λ a m. by_cause a (answer_cause s whole entries listed a ((agrees.answers a).1 m));
  once = end_distinct (ids_of s.book.answers) (run_once view steps run) [] (ids_of (answers_in w.printed)) (λ i m. printed i (id_in s.book.answers i m)) (no_more (length-map s.book.answers (λ (a : Given). a.id)) agrees.many (length-map (answers_in w.printed) (λ (a : Given). a.id)));
  proposed = λ id key version parent m. in_lines id (proposed_call s whole entries listed id key version parent (noted (Proposed key version parent (Some id)) m));
  read = λ id key base m. in_lines id (read_call s whole entries listed id key base (noted (Read id key base) m));
}
  where
    s : State
    s = state_after view steps

    whole : Whole s.objects
    whole = run_whole view steps run

    entries : EntriesAreSafe s
    entries = run_entries view steps run

    listed : Listed s
    listed = run_listed view steps run

    noted : (n : Noted) → n ∈ w.notes → n ∈ s.book.notes
    noted n m = subst (λ (notes : List Noted). n ∈ notes) (sym agrees.notes) m

    in_lines : (id : ℕ) → (c : Call) × (c ∈ s.book.calls) × (c.id ≡ id) → (c : Call) × (c ∈ calls_from 1 events) × (c.id ≡ id)
    in_lines id c = (c.0, (agrees.calls c.0).0 c.1, c.2)

    by_cause : (a : Given) → (c : Call) × (c ∈ s.book.calls) × (c.id ≡ a.id) × HasCause s.book.calls s.book.notes c a.reply → (c : Call) × (c ∈ calls_from 1 events) × (c.id ≡ a.id) × HasCause (calls_from 1 events) w.notes c a.reply
    by_cause a c = (c.0, (agrees.calls c.0).0 c.1, c.2, subst (λ (notes : List Noted). HasCause (calls_from 1 events) notes c.0 a.reply) agrees.notes (cause_of s.book.calls (calls_from 1 events) s.book.notes (λ d. (agrees.calls d).0) c.0 a.reply c.3))

    printed : (i : ℕ) → (a : Given) × (a ∈ s.book.answers) × (a.id ≡ i) → i ∈ ids_of (answers_in w.printed)
    printed i a = subst (λ (j : ℕ). j ∈ ids_of (answers_in w.printed)) a.2 (in_ids (answers_in w.printed) a.0 ((agrees.answers a.0).0 a.1))

    no_more : length (ids_of s.book.answers) ≡ length s.book.answers → length s.book.answers ≡ length (answers_in w.printed) → length (ids_of (answers_in w.printed)) ≡ length (answers_in w.printed) → length (ids_of (answers_in w.printed)) ≤ length (ids_of s.book.answers)
    no_more e f g = omega (arith, e, f, g)
