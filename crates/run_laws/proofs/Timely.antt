-- In each state of a run of the abstract protocol no answer comes before its call, and each reply is in range.
use Rattle.std.proofs.Common.{◌≡◌, ℕ, ◌+◌, ◌<◌, ◌≤◌, ◌^◌, ◌==◌, ◌&&◌, Bool, true, false, ◌⊎◌, inl, inr, if◌then◌else◌, nat_lt, nat_le, List, [], ◌∷◌, Option, None, Some, length, refl, sym, subst, arith}
use Rattle.std.proofs.lemmas.Bool.Decides.{nat_tests}
use Rattle.protocol_laws.specs.Book.{version_of, register_at}
use Rattle.protocol_laws.specs.Numbers.{epoch_number}
use Rattle.protocol_laws.specs.Protocol.{State, Step, Begin, Ask, Raise, Elect, Accept, Commit, Adopt, Write, Acknowledge, Install, EndSync, Propose, Settle, Note, Answer, Lose, Revert, happens, MayCome, IsRun, state_after}
use Rattle.protocol_laws.proofs.Ranks.{version_within}
use Rattle.byteorder.specs.Endian.{big_number}
use Rattle.protocol_laws.proofs.Epochs.{not_both}
use Rattle.ens_base.specs.Epochs.{same_version}
use Rattle.ens_base.specs.Limits.{IsValue, IsVersion}
use Rattle.ens_base.specs.Lists.{◌∈◌, same_bytes}
use Rattle.ens_base.specs.declared.command.Command.{Command}
use Rattle.ens_base.specs.declared.command.Command.TheVariants.{Get, PutOnce, Update, Append, Add, Swap, Over, Delete}
use Rattle.ens_base.specs.declared.epoch.Version.{Version}
use Rattle.ens_base.specs.declared.reply.Reply.{Reply}
use Rattle.stored_formats.specs.Objects.{IsContent}
use Rattle.protocol_laws.proofs.Replies.{run_entries}
use Rattle.protocol_laws.specs.Entries.{AnswerKeeps, EntriesAreSafe, IsByRead, IsByWrite, SawNewest, SawNothing}
use Rattle.role_laws.specs.Tables as theory
use Rattle.leader_refinement.specs.Seen.{rank}
use Rattle.register_model.specs.Histories.{IsDone}
use Rattle.register_model.specs.Registers.{Outcome, Keeps, Writes, outcome, written}
use Rattle.register_model.specs.declared.answer.Answer.{Answer as Given}
use Rattle.register_model.specs.declared.call.Call.{Call}
use Rattle.register_model.specs.declared.register.Register.{Register}
use Rattle.register_model.specs.declared.register.Register.TheVariants.{Absent, Present}
use Rattle.protocol_laws.proofs.Noted.{Listed, run_listed}
use Rattle.world_refinement.proofs.StepRefinement.{objects_obey}
use Rattle.world_refinement.specs.StepRefinement.{AsksFit, EpochsFit}
use Rattle.protocol_laws.proofs.Maps.{put_other}
use Rattle.protocol_laws.proofs.Trees.{run_versions}
use Rattle.run_laws.proofs.Again.{ReplyFits}

-- ## No answer comes before its call

abbrev Timely : State → Type 0
Timely s = (a : Given) → a ∈ s.book.answers → (s.book.asked a.id).event ≤ a.event

timely_step : (s : State) (e : Step) → MayCome s e → EntriesAreSafe s → Listed s → Timely s → Timely (happens s e)
timely_step s (Ask c) may entries listed old = λ a m.
    let other : c.id ≡ a.id → ⊥ = λ same. not_both (entries.answers a.id (listed.answered a m)).called (subst (λ (i : ℕ). s.book.called i ≡ false) same may.1.fresh) in
    subst (λ (x : Call). x.event ≤ a.event) (sym (put_other s.book.asked c.id c a.id other)) (old a m)
timely_step s (Answer i r) may entries listed old = by
  where
    by : (a : Given) → (a ≡ record { id = i; event = s.book.now; reply = r }) ⊎ (a ∈ s.book.answers) → (s.book.asked a.id).event ≤ a.event
    by a (inl new) = subst (λ (x : Given). (s.book.asked x.id).event ≤ x.event) (sym new) (entries.calls i may.1.called).event
    by a (inr m) = old a m
timely_step s Begin may entries listed old = old
timely_step s (Raise p d) may entries listed old = old
timely_step s (Elect d b) may entries listed old = old
timely_step s (Accept p d) may entries listed old = old
timely_step s (Commit d c) may entries listed old = old
timely_step s (Adopt p d) may entries listed old = old
timely_step s (Write p v) may entries listed old = old
timely_step s (Acknowledge p v) may entries listed old = old
timely_step s (Install p d m) may entries listed old = old
timely_step s (EndSync p d) may entries listed old = old
timely_step s (Propose v k u x y c) may entries listed old = old
timely_step s (Settle v) may entries listed old = old
timely_step s (Note i k u d) may entries listed old = old
timely_step s (Lose p) may entries listed old = old
timely_step s (Revert p m) may entries listed old = old

pub run_timely : (view : List ℕ) (steps : List Step) → IsRun view steps → (a : Given) → a ∈ (state_after view steps).book.answers → ((state_after view steps).book.asked a.id).event ≤ a.event
run_timely view [] run = λ a m. absurd m
run_timely view (e ∷ steps) run = timely_step (state_after view steps) e run.1 (run_entries view steps run.0) (run_listed view steps run.0) (run_timely view steps run.0)

-- ## Replies are in range

-- the stamp and the value of a register
abbrev RegisterFits : Register → Type 0
RegisterFits Absent = Unit {0}
RegisterFits (Present stamp bytes) = IsVersion stamp × IsValue bytes

-- a command that writes nothing has such a reply
abbrev OutcomeFits : Outcome → Type 0
OutcomeFits (Keeps reply) = ReplyFits reply
OutcomeFits (Writes content) = Unit {0}

either : (b : Bool) (o p : Outcome) → OutcomeFits o → OutcomeFits p → OutcomeFits (if b then o else p)
either true o p first second = first
either false o p first second = second

outcome_fits : (command : Command) (register : Register) → RegisterFits register → OutcomeFits (outcome command register)
outcome_fits Get Absent has = tt
outcome_fits Get (Present stamp bytes) has = has
outcome_fits (PutOnce value) Absent has = tt
outcome_fits (PutOnce value) (Present stamp bytes) has = tt
outcome_fits (Update wanted value) Absent has = tt
outcome_fits (Update wanted value) (Present stamp bytes) has = either (same_version wanted stamp) _ _ tt tt
outcome_fits (Append tail) Absent has = tt
outcome_fits (Append tail) (Present stamp bytes) has = either (nat_le (length bytes + length tail) 1024) _ _ tt tt
outcome_fits (Add n) Absent has = tt
outcome_fits (Add n) (Present stamp bytes) has = either (length bytes == 8 && nat_lt (big_number 8 bytes + n) (2 ^ 64)) _ _ tt tt
outcome_fits (Swap old new) Absent has = tt
outcome_fits (Swap old new) (Present stamp bytes) has = either (same_bytes bytes old) _ _ tt tt
outcome_fits (Over value) register has = tt
outcome_fits Delete register has = tt

rank_of : (v : ℕ) → 0 < v → rank (version_of v) ≡ v
unfolding version_of theory.version_at epoch_number
rank_of v h = omega arith

module _ (view : List ℕ) (steps : List Step) (run : IsRun view steps) (asks : AsksFit (state_after view steps)) (epochs : EpochsFit (state_after view steps)) where
  abbrev s : State
  s = state_after view steps

  -- the version of a proposal, its stamp and its content
  proposed_fits : (v : ℕ) → s.objects.proposed v ≡ true → IsVersion (version_of v) × IsVersion (s.book.stamp v) × IsContent (s.book.content v)
  proposed_fits v is =
      let positive : 0 < v = above (s.objects.parent v) v ((run_versions view steps run).lineage v is).smaller in
      let obeys = objects_obey view steps run asks epochs (version_of v) (version_within v) (subst (λ (n : ℕ). s.objects.proposed n ≡ true) (sym (rank_of v positive)) is) in
      (obeys.version, subst (λ (n : ℕ). IsVersion (s.book.stamp n)) (rank_of v positive) obeys.stamp, subst (λ (n : ℕ). IsContent (s.book.content n)) (rank_of v positive) obeys.content)
    where
      above : (p v : ℕ) → p < v → 0 < v
      above p v h = omega arith

  register_fits : (v : ℕ) → (v ≡ 0) ⊎ (s.objects.proposed v ≡ true) → RegisterFits (register_at s.book v)
  register_fits v is = by (v == 0) refl
    where
      of_content : (stamp : Version) (content : Option (List ℕ)) → IsVersion stamp → IsContent content → RegisterFits (written stamp content)
      of_content stamp None fits has = tt
      of_content stamp (Some bytes) fits has = (fits, has)

      some : (v ≡ 0) ⊎ (s.objects.proposed v ≡ true) → (v == 0) ≡ false → s.objects.proposed v ≡ true
      some (inl none) test = absurd (zero none test)
        where
          zero : v ≡ 0 → (v == 0) ≡ false → ⊥
          zero none test = grind (arith, nat_tests)
      some (inr proposed) test = proposed

      by : (b : Bool) → (v == 0) ≡ b → RegisterFits (if b then Absent else written (s.book.stamp v) (s.book.content v))
      by true test = tt
      by false test = let parts = proposed_fits v (some is test) in of_content (s.book.stamp v) (s.book.content v) parts.1 parts.2

  -- a reply of a completed call is in range; any other has nothing to be so
  if_done : (r : Reply) → (IsDone r → ReplyFits r) → ReplyFits r
  if_done (Reply.Value stamp bytes) h = h tt
  if_done (Reply.Ok stamp) h = h tt
  if_done r h = tt

  pub replies_fit : (a : Given) → a ∈ s.book.answers → ReplyFits a.reply
  replies_fit a m = subst (λ (b : Given). ReplyFits b.reply) (listed.answer a m) (if_done (s.book.answer a.id).reply (λ done. by (keeps.done done)))
    where
      entries : EntriesAreSafe s
      entries = run_entries view steps run

      listed : Listed s
      listed = run_listed view steps run

      keeps : AnswerKeeps s a.id (s.book.answer a.id)
      keeps = entries.answers a.id (listed.answered a m)

      base : (SawNothing s (s.book.seen a.id) ⊎ SawNewest s (s.book.seen a.id)) → ((s.book.seen a.id).base ≡ 0) ⊎ (s.objects.proposed (s.book.seen a.id).base ≡ true)
      base (inl nothing) = inl nothing.none
      base (inr newest) = inr newest.proposed

      by : IsByWrite s a.id (s.book.answer a.id) ⊎ IsByRead s a.id (s.book.seen a.id) (s.book.answer a.id) → ReplyFits (s.book.answer a.id).reply
      by (inl wrote) = subst ReplyFits (sym wrote.reply) (proposed_fits wrote.version wrote.proposed).0
      by (inr read) = subst OutcomeFits read.keeps (outcome_fits (s.book.asked a.id).command (register_at s.book (s.book.seen a.id).base) (register_fits (s.book.seen a.id).base (base (entries.reads a.id read.noted).base)))
