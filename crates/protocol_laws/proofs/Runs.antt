-- The order of a key is a run of one register with the printed replies.
use Rattle.std.proofs.Common.{◌≡◌, ℕ, zero, suc, ◌<◌, ◌≤◌, Bool, true, false, ◌&&◌, ◌⊎◌, List, [], ◌∷◌, ◌++◌, append_assoc, Option, None, Some, eqb, eqb-true, eq-eqb, arith, ap, refl, inl, inr, sym, ◌∙◌, subst, le_trans}
use Rattle.std.specs.Prelude.{if◌then◌else◌, ◌+◌}
use Rattle.std.proofs.lemmas.Bool.{and_parts}
use Rattle.ens_base.specs.Lists.{same_bytes, ◌∈◌}
use Rattle.ens_base.specs.declared.epoch.Version.{Version}
use Rattle.ens_base.specs.declared.command.Command.{Command}
use Rattle.ens_base.specs.declared.reply.Reply.{Reply}
use Rattle.register_model.specs.declared.register.Register.{Register}
use Rattle.register_model.specs.declared.register.Register.TheVariants.{Absent}
use Rattle.register_model.specs.declared.answer.Answer.{Answer as Given}
use Rattle.register_model.specs.declared.note.Note.{Note as Noted}
use Rattle.register_model.specs.declared.note.Note.TheVariants.{Proposed, Settled as SettledNote, Read}
use Rattle.register_model.specs.Registers.{Outcome, Keeps, outcome, written, Comes, Steps, stamps_after}
use Rattle.register_model.specs.Histories.{IsDone, MayHave, RunsFrom}
use Rattle.register_model.specs.Orders.{rank, rank_or_none, call_in, newest_in, reads_on, chain, write_of, block, blocks, settled_chain, order}
use Rattle.protocol_laws.proofs.Epochs.{not_both}
use Rattle.protocol_laws.proofs.Ranks.{rank-version_of}
use Rattle.protocol_laws.proofs.Descent.{Whole}
use Rattle.protocol_laws.specs.Entries.{EntriesAreSafe, WriteKeeps, RewriteKeeps, ReadKeeps, IsByWrite, IsByRead, AnswerKeeps}
use Rattle.protocol_laws.proofs.Noted.{Holds, ReadHolds, Listed}
use Rattle.protocol_laws.proofs.Chains.{IsOf, IsOfOrNone, positive, parent_of}
use Rattle.protocol_laws.proofs.Placed.{call_told, newest_of, versions_same}
use Rattle.protocol_laws.specs.Book.{version_of, register_at, Wrote}
use Rattle.protocol_laws.specs.Protocol.{State}
use Rattle.protocol_laws.proofs.Outcomes.{keeps_then}

-- ## An outcome that leaves the register unchanged is not a write

abbrev IsNoWrite : Reply → Type 0
IsNoWrite r = (stamps : List Version) → stamps_after r stamps ≡ stamps

keeps_no_write : (c : Command) (x : Register) (r : Reply) → outcome c x ≡ Keeps r → IsNoWrite r
keeps_no_write = keeps_then IsNoWrite (λ stamps. refl) (λ stamps. refl) (λ stamp bytes stamps. refl)

keeps_step : (stamps : List Version) (x : Register) (c : Command) (r : Reply) → outcome c x ≡ Keeps r → Steps stamps x c r x
keeps_step stamps x c r e = subst (λ (o : Outcome). Comes stamps x o r x) (sym e) (refl, refl)

-- ## The steps of the order

module _ (s : State) (w : Whole s.objects) (entries : EntriesAreSafe s) (listed : Listed s) (k : List ℕ) where
  answer_of : (i : ℕ) (a : Given) → a ∈ s.book.answers → a.id ≡ i → (s.book.answered i ≡ true) × (s.book.answer i ≡ a)
  answer_of i a h e = (subst (λ j. s.book.answered j ≡ true) e (listed.answered a h), subst (λ j. s.book.answer j ≡ a) e (listed.answer a h))

  -- the reply of a completed answer to a call, by how the call was answered
  pub done_of : (i : ℕ) (a : Given) → a ∈ s.book.answers → a.id ≡ i → IsDone a.reply → IsByWrite s i a ⊎ IsByRead s i (s.book.seen i) a
  done_of i a h e d =
      let p = answer_of i a h e in
      (subst (λ (x : Given). AnswerKeeps s i x) p.1 (entries.answers i p.0)).done d

  write_reply : (v i : ℕ) → Wrote s.objects s.book i v → MayHave s.book.answers i (Reply.Ok (version_of v))
  write_reply v i wrote a h e d = by_done (done_of i a h e d)
    where
      by_done : IsByWrite s i a ⊎ IsByRead s i (s.book.seen i) a → Reply.Ok (version_of v) ≡ a.reply
      by_done (inl b) = ap (λ u. Reply.Ok (version_of u)) (entries.once.once v b.version i wrote (b.proposed, b.call)) ∙ sym b.reply
      by_done (inr b) = absurd (entries.once.apart v i wrote b.noted)

  read_reply : (i : ℕ) → (n : s.book.noted i ≡ true) → MayHave s.book.answers i (entries.reads i n).reply
  read_reply i n a h e d = by_done (done_of i a h e d)
    where
      same : Keeps (entries.reads i n).reply ≡ Keeps a.reply → (entries.reads i n).reply ≡ a.reply
      same e = cc

      by_done : IsByWrite s i a ⊎ IsByRead s i (s.book.seen i) a → (entries.reads i n).reply ≡ a.reply
      by_done (inl b) = absurd (entries.once.apart b.version i (b.proposed, b.call) n)
      by_done (inr b) = same (sym (entries.reads i n).keeps ∙ b.keeps)

  reads_run : (ns : List Noted) → ((n : Noted) → n ∈ ns → Holds s n) → (v : ℕ) (stamps : List Version) (rest : List ℕ) → RunsFrom s.book.calls s.book.answers stamps (register_at s.book v) rest → RunsFrom s.book.calls s.book.answers stamps (register_at s.book v) (reads_on ns k v ++ rest)
  reads_run [] holds v stamps rest run = run
  reads_run (Read i l b ∷ ns) holds v stamps rest run = by_test (reads_run ns (λ n m. holds n (inr m)) v stamps rest run) (same_bytes l k && eqb (rank_or_none b) v) refl
    where
      head : ReadHolds s i l (rank_or_none b)
      head = holds (Read i l b) (inl refl)

      kept : ReadKeeps s i (s.book.seen i)
      kept = entries.reads i head.noted

      here : rank_or_none b ≡ v → outcome (s.book.asked i).command (register_at s.book v) ≡ Keeps kept.reply
      here e = subst (λ (u : ℕ). outcome (s.book.asked i).command (register_at s.book u) ≡ Keeps kept.reply) (head.base ∙ e) kept.keeps

      by_test : RunsFrom s.book.calls s.book.answers stamps (register_at s.book v) (reads_on ns k v ++ rest) → (t : Bool) → (same_bytes l k && eqb (rank_or_none b) v) ≡ t → RunsFrom s.book.calls s.book.answers stamps (register_at s.book v) ((if t then i ∷ reads_on ns k v else reads_on ns k v) ++ rest)
      by_test later false t = later
      by_test later true t =
          let e = here (eqb-true (rank_or_none b) v ((and_parts (same_bytes l k) (eqb (rank_or_none b) v) t).1)) in (
            s.book.asked i,
            kept.reply,
            register_at s.book v,
            listed.call_in i kept.called,
            (entries.calls i kept.called).own_id,
            read_reply i head.noted,
            keeps_step stamps (register_at s.book v) (s.book.asked i).command kept.reply e,
            subst (λ (x : List Version). RunsFrom s.book.calls s.book.answers x (register_at s.book v) (reads_on ns k v ++ rest)) (sym (keeps_no_write (s.book.asked i).command (register_at s.book v) kept.reply e stamps)) later,
          )
  reads_run (Proposed l x p c ∷ ns) holds v stamps rest run = reads_run ns (λ n m. holds n (inr m)) v stamps rest run
  reads_run (SettledNote l x ∷ ns) holds v stamps rest run = reads_run ns (λ n m. holds n (inr m)) v stamps rest run

  -- ### Stamps

  abbrev push_stamp : Option ℕ → ℕ → List Version → List Version
  push_stamp None v stamps = stamps
  push_stamp (Some i) v stamps = version_of v ∷ stamps

  -- the stamps of the writes among a version and its ancestors, the latest first
  abbrev stamps_of : ℕ → ℕ → List Version
  stamps_of zero v = []
  stamps_of (suc n) v = if eqb v 0 then [] else push_stamp (s.book.call v) v (stamps_of n (s.objects.parent v))

  record IsStamp (v : ℕ) (x : Version) : Type 0 where
    pub version : ℕ
    pub some : 0 < version
    pub low : version ≤ v
    pub stamp : x ≡ version_of version

  higher : (u v : ℕ) (x : Version) → u ≤ v → IsStamp u x → IsStamp v x
  higher u v x l i = record { version = i.version; some = i.some; low = le_trans i.low l; stamp = i.stamp }

  stamps_low : (n v : ℕ) → IsOfOrNone s k v → (x : Version) → x ∈ stamps_of n v → IsStamp v x
  stamps_low zero v g x h = absurd h
  stamps_low (suc n) v g x h = by_zero (stamps_low n (s.objects.parent v)) (eqb v 0) refl g h
    where
      lower : s.objects.parent v < v → s.objects.parent v ≤ v
      lower l = omega arith

      le_itself : v ≤ v
      le_itself = omega arith

      by_call : (f : IsOf s k v) → ((y : Version) → y ∈ stamps_of n (s.objects.parent v) → IsStamp (s.objects.parent v) y) → (c : Option ℕ) → x ∈ push_stamp c v (stamps_of n (s.objects.parent v)) → IsStamp v x
      by_call f rest None p = higher (s.objects.parent v) v x (lower (w.basics.lower v f.0)) (rest x p)
      by_call f rest (Some i) (inl e) = record { version = v; some = positive s w.basics k v f; low = le_itself; stamp = e }
      by_call f rest (Some i) (inr p) = higher (s.objects.parent v) v x (lower (w.basics.lower v f.0)) (rest x p)

      by_zero : (IsOfOrNone s k (s.objects.parent v) → (y : Version) → y ∈ stamps_of n (s.objects.parent v) → IsStamp (s.objects.parent v) y) → (b : Bool) → eqb v 0 ≡ b → IsOfOrNone s k v → x ∈ (if b then [] else push_stamp (s.book.call v) v (stamps_of n (s.objects.parent v))) → IsStamp v x
      by_zero rest true t g p = absurd p
      by_zero rest false t (inl z) p = absurd (not_both (eq-eqb v 0 z) t)
      by_zero rest false t (inr f) p = by_call f (rest (parent_of s w.basics k v f)) (s.book.call v) p

  fresh_stamp : (n v : ℕ) → IsOf s k v → version_of v ∈ stamps_of n (s.objects.parent v) → ⊥
  fresh_stamp n v g h =
      let i = stamps_low n (s.objects.parent v) (parent_of s w.basics k v g) (version_of v) h in
      too_low i.version i.low (sym (rank-version_of v (positive s w.basics k v g)) ∙ ap rank i.stamp ∙ rank-version_of i.version i.some) (w.basics.lower v g.0)
    where
      too_low : (u : ℕ) → u ≤ s.objects.parent v → v ≡ u → s.objects.parent v < v → ⊥
      too_low u a e b = omega arith

  -- ### One version

  register_some : (v : ℕ) → 0 < v → register_at s.book v ≡ written (s.book.stamp v) (s.book.content v)
  register_some v h = by_zero (eqb v 0) refl
    where
      not_zero : v ≡ 0 → ⊥
      not_zero e = omega arith

      by_zero : (b : Bool) → eqb v 0 ≡ b → register_at s.book v ≡ written (s.book.stamp v) (s.book.content v)
      by_zero true t = absurd (not_zero (eqb-true v 0 t))
      by_zero false t = rw t refl

  rewrite_same : (v : ℕ) → IsOf s k v → RewriteKeeps s v → register_at s.book v ≡ register_at s.book (s.objects.parent v)
  rewrite_same v g r = register_some v (positive s w.basics k v g) ∙ ap (λ (x : Version). written x (s.book.content v)) r.same_stamp ∙ ap (λ (x : Option (List ℕ)). written (s.book.stamp (s.objects.parent v)) x) r.same_content ∙ sym (register_some (s.objects.parent v) r.some)

  write_step : (n v i : ℕ) → IsOf s k v → WriteKeeps s v i → Steps (stamps_of n (s.objects.parent v)) (register_at s.book (s.objects.parent v)) (s.book.asked i).command (Reply.Ok (version_of v)) (register_at s.book v)
  write_step n v i g keep = subst (λ (o : Outcome). Comes (stamps_of n (s.objects.parent v)) (register_at s.book (s.objects.parent v)) o (Reply.Ok (version_of v)) (register_at s.book v)) (sym keep.applies)
      (version_of v, refl, fresh_stamp n v g, register_some v (positive s w.basics k v g) ∙ ap (λ (x : Version). written x (s.book.content v)) keep.own_stamp)

  block_run : (n v : ℕ) → IsOf s k v → (c : Option ℕ) → s.book.call v ≡ c → (rest : List ℕ) → RunsFrom s.book.calls s.book.answers (push_stamp c v (stamps_of n (s.objects.parent v))) (register_at s.book v) rest → RunsFrom s.book.calls s.book.answers (stamps_of n (s.objects.parent v)) (register_at s.book (s.objects.parent v)) (write_of c ++ (reads_on s.book.notes k v ++ rest))
  block_run n v g None e rest run = subst (λ (x : Register). RunsFrom s.book.calls s.book.answers (stamps_of n (s.objects.parent v)) x (reads_on s.book.notes k v ++ rest)) (rewrite_same v g ((entries.proposals v g.0).rewrite e)) (reads_run s.book.notes listed.holds v (stamps_of n (s.objects.parent v)) rest run)
  block_run n v g (Some i) e rest run =
      let keep = (entries.proposals v g.0).write i e in
      (s.book.asked i, Reply.Ok (version_of v), register_at s.book v, listed.call_in i keep.called, (entries.calls i keep.called).own_id, write_reply v i (g.0, e), write_step n v i g keep, reads_run s.book.notes listed.holds v (version_of v ∷ stamps_of n (s.objects.parent v)) rest run)

  -- ### The chain

  blocks_push : (vs : List ℕ) (v : ℕ) (rest : List ℕ) → blocks s.book.notes k (vs ++ v ∷ []) ++ rest ≡ blocks s.book.notes k vs ++ (block s.book.notes k v ++ rest)
  blocks_push [] v rest = append_assoc (block s.book.notes k v) [] rest
  blocks_push (u ∷ vs) v rest = append_assoc (block s.book.notes k u) (blocks s.book.notes k (vs ++ v ∷ [])) rest ∙ ap (λ (l : List ℕ). block s.book.notes k u ++ l) (blocks_push vs v rest) ∙ sym (append_assoc (block s.book.notes k u) (blocks s.book.notes k vs) (block s.book.notes k v ++ rest))

  block_is : (v : ℕ) → IsOf s k v → (rest : List ℕ) → write_of (s.book.call v) ++ (reads_on s.book.notes k v ++ rest) ≡ block s.book.notes k v ++ rest
  block_is v g rest = ap (λ (c : Option ℕ). write_of c ++ (reads_on s.book.notes k v ++ rest)) (sym (call_told s w entries listed k v g)) ∙ sym (append_assoc (write_of (call_in s.book.notes k v)) (reads_on s.book.notes k v) rest)

  chain_run : (n v : ℕ) → v ≤ n → IsOfOrNone s k v → (rest : List ℕ) → RunsFrom s.book.calls s.book.answers (stamps_of n v) (register_at s.book v) rest → RunsFrom s.book.calls s.book.answers [] Absent (blocks s.book.notes k (chain n s.objects.parent v) ++ rest)
  chain_run zero v l g rest run = subst (λ (x : Register). RunsFrom s.book.calls s.book.answers [] x rest) (absent v (zero_is l)) run
    where
      zero_is : v ≤ 0 → v ≡ 0
      zero_is l = omega arith

      absent : (v : ℕ) → v ≡ 0 → register_at s.book v ≡ Absent
      absent v e = rw (eq-eqb v 0 e) refl
  chain_run (suc n) v l g rest run = by_zero (chain_run n (s.objects.parent v)) (eqb v 0) refl g run
    where
      absent : eqb v 0 ≡ true → register_at s.book v ≡ Absent
      absent t = rw t refl

      lower_bound : s.objects.parent v < v → s.objects.parent v ≤ n
      lower_bound h = omega arith

      by_zero : (s.objects.parent v ≤ n → IsOfOrNone s k (s.objects.parent v) → (rest : List ℕ) → RunsFrom s.book.calls s.book.answers (stamps_of n (s.objects.parent v)) (register_at s.book (s.objects.parent v)) rest → RunsFrom s.book.calls s.book.answers [] Absent (blocks s.book.notes k (chain n s.objects.parent (s.objects.parent v)) ++ rest)) →
          (b : Bool) → eqb v 0 ≡ b → IsOfOrNone s k v → RunsFrom s.book.calls s.book.answers (if b then [] else push_stamp (s.book.call v) v (stamps_of n (s.objects.parent v))) (register_at s.book v) rest →
          RunsFrom s.book.calls s.book.answers [] Absent (blocks s.book.notes k (elim b as (λ (c : Bool). List ℕ) [ true ↦ [] | false ↦ chain n s.objects.parent (s.objects.parent v) ++ v ∷ [] ]) ++ rest)
      by_zero before true t g run = subst (λ (x : Register). RunsFrom s.book.calls s.book.answers [] x rest) (absent t) run
      by_zero before false t (inl z) run = absurd (not_both (eq-eqb v 0 z) t)
      by_zero before false t (inr f) run = subst (λ (x : List ℕ). RunsFrom s.book.calls s.book.answers [] Absent x) (sym (blocks_push (chain n s.objects.parent (s.objects.parent v)) v rest))
          (before (lower_bound (w.basics.lower v f.0)) (parent_of s w.basics k v f) (block s.book.notes k v ++ rest)
          (subst (λ (x : List ℕ). RunsFrom s.book.calls s.book.answers (stamps_of n (s.objects.parent v)) (register_at s.book (s.objects.parent v)) x) (block_is v f rest) (block_run n v f (s.book.call v) refl rest run)))

  append_nil : (xs : List ℕ) → xs ++ [] ≡ xs
  append_nil [] = refl
  append_nil (x ∷ xs) = ap (λ (l : List ℕ). x ∷ l) (append_nil xs)

  pub order_runs : RunsFrom s.book.calls s.book.answers [] Absent (order s.book.notes k)
  order_runs = reads_run s.book.notes listed.holds 0 [] (blocks s.book.notes k (settled_chain s.book.notes k)) (subst (λ (x : List ℕ). RunsFrom s.book.calls s.book.answers [] Absent x) (append_nil (blocks s.book.notes k (settled_chain s.book.notes k)))
      (subst (λ (x : List ℕ). RunsFrom s.book.calls s.book.answers [] Absent (blocks s.book.notes k x ++ [])) (sym (versions_same s w entries listed k))
      (chain_run (newest_in s.book.notes k) (newest_in s.book.notes k) (le_itself (newest_in s.book.notes k)) (newest_of s w entries listed k) [] tt)))
    where
      le_itself : (n : ℕ) → n ≤ n
      le_itself n = omega arith
