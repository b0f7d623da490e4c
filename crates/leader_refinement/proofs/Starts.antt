-- Rules 28 and 36 are moves of the theory.
use Rattle.std.specs.Prelude.{◌&&◌}
use Rattle.std.proofs.Common.{◌≡◌, inr, ℕ, Bool, true, false, if◌then◌else◌, List, [], Option, Some, None, refl, sym, ap, subst, ◌∙◌}
use Rattle.std.proofs.lemmas.Bool.{and_parts}
use Rattle.ens_base.proofs.Orders.{version_same}
use Rattle.ens_base.specs.Epochs.{same_version}
use Rattle.ens_base.specs.Lists.{same_bytes}
use Rattle.ens_base.proofs.Lists.{bytes_same}
use Rattle.ens_base.specs.declared.command.Command.{Command}
use Rattle.ens_base.specs.declared.command.Command.TheVariants.{Get, PutOnce, Update, Append, Add, Swap, Over, Delete}
use Rattle.ens_base.specs.declared.epoch.Version.{Version}
use Rattle.ens_base.specs.declared.reply.Reply.{Reply}
use Rattle.stored_formats.specs.declared.object.Object.{Object}
use Rattle.object_commands.specs.Kept.{matching, is_named}
use Rattle.object_commands.specs.Commands.{register_of, verdict_of, stamp_verdict}
use Rattle.object_commands.specs.declared.verdict.Verdict.{Verdict}
use Rattle.object_commands.specs.declared.verdict.Verdict.TheVariants.{Answer, Write}
use Rattle.register_model.specs.Registers.{Outcome, Keeps, Writes, outcome}
use Rattle.register_model.specs.declared.register.Register.{Register}
use Rattle.register_model.specs.declared.register.Register.TheVariants.{Absent, Present}
use Rattle.phase_rows.specs.declared.phase.Seen.{Seen}
use Rattle.phase_rows.specs.declared.phase.Seen.TheVariants as seens
use Rattle.phase_rows.specs.declared.rules.KeyRule.TheVariants as key_rules
use Rattle.protocol_laws.specs.Book.{register_at, version_of}
use Rattle.protocol_laws.specs.Numbers.{epoch_number}
use Rattle.protocol_laws.specs.Protocol.{State, Step, IsRun, state_after}
use Rattle.call_table.specs.Calls.{running}
use Rattle.call_table.specs.Rows.{row_at}
use Rattle.call_table.specs.declared.row.Known.{Known}
use Rattle.call_table.specs.declared.row.Known.TheVariants as knowns
use Rattle.call_table.specs.declared.row.Stage.{Stage}
use Rattle.call_table.specs.declared.row.Stage.TheVariants as stages
use Rattle.call_table.specs.declared.waiting.Waiting.{Waiting}
use Rattle.leader_output.specs.Outs.{rests, leads_on, and_own}
use Rattle.leader_output.specs.declared.out.Own.TheVariants.{Fetch}
use Rattle.leader.specs.Leaders.{base, decided}
use Rattle.leader.specs.Starts.{on_object, by_value, by_stamp, on_present, by_known, started, next_call}
use Rattle.leader.specs.declared.leader.Leader.{Leader}
use Rattle.leader_laws.proofs.Moves.{free as ready_free}
use Rattle.leader.specs.declared.pending.Pending.{Pending}
use Rattle.leader.specs.declared.pending.Pending.TheVariants as tasks
use Rattle.role_laws.proofs.Guards.{settled_parent}
use Rattle.role_laws.proofs.Runs.{run_keys}
use Rattle.role_laws.specs.LeaderLaws.{KeyLaws}
use Rattle.role_laws.specs.Leaders.{RowHolds, KnownHolds, HeldHolds, IsSettledKey, IsObjectOf, IsParent}
use Rattle.role_laws.specs.Rows.{needs_bytes}
use Rattle.role_laws.specs.Tables.{Ghosts, Owed}
use Rattle.leader_refinement.proofs.Base.{stays, rests_so, tasked_so, row_told}
use Rattle.leader_refinement.proofs.Numbers.{base_rank, base_fits}
use Rattle.leader_refinement.specs.Seen.{rank, content_of, known_of, waiting_behind, row_parts}
use Rattle.leader_refinement.specs.Follows.{settled_rank, IsAtWork, Follows}
use Rattle.leader_refinement.specs.Laws.{KeptSays, BackendSays, CallsStart, NextIsSought}

-- ## Tasks

-- an idle row at whose key a command was decided is as before: its call has begun
module _ (g : Ghosts) (s : State) (key : List ℕ) (owed : List Owed) (l : Leader) (work : IsAtWork g s key owed l) (free : l.task ≡ tasks.Nothing) (idle : (row_at key l.table.rows).stage ≡ stages.Idle) (w : Waiting) (is : running key l.table.calls ≡ Some w) where
  abbrev K : Known
  K = (row_at key l.table.rows).known

  abbrev Here : Option Waiting → Pending → Stage → Type 0
  Here call task stage = RowHolds g s (record { peer = l.me; owed = owed }) (epoch_number l.fact.epoch) key (row_parts K call task stage (waiting_behind key l.table.calls))

  pub known_holds : KnownHolds g s (epoch_number l.fact.epoch) key (known_of K)
  known_holds = (row_told g s key owed l work.holds (Some w) is tasks.Nothing free stages.Idle idle).known refl

  -- the outcome of the command on the settled register: a write, or a check
  pub decided_so : IsSettledKey (known_of K) → (o : Outcome) → outcome w.command (register_at s.book (settled_rank K)) ≡ o → Follows g s key owed l (decided (base key l) (verdict_of o) key l)
  decided_so settled (Writes content) e = tasked_so g s key owed l work w is key_rules.Write (tasks.Write content (base key l)) (row_told g s key owed l work.holds (Some w) is tasks.Nothing free stages.Idle idle) (record {
    parent_holds = subst (λ (u : ℕ). IsParent s (epoch_number l.fact.epoch) key u) (sym (base_rank K)) (settled_parent g s (epoch_number l.fact.epoch) key (known_of K) settled known_holds);
    applies = ap (λ (u : ℕ). outcome w.command (register_at s.book u)) (base_rank K) ∙ e;
    fits = base_fits K (work.fits.rows key).0;
  }) (λ n. idle) (λ runs. (refl, runs))
  decided_so settled (Keeps reply) e = tasked_so g s key owed l work w is key_rules.Check (tasks.Check reply) (row_told g s key owed l work.holds (Some w) is tasks.Nothing free stages.Idle idle) (record { settled = settled; keeps = e }) (λ n. idle) (λ runs. (refl, runs))

  pub reads_so : Follows g s key owed l (l, leads_on key_rules.Read key)
  reads_so = stays g s key owed l work (leads_on key_rules.Read key) refl refl refl (λ e. idle) (refl, ready_free key_rules.Read key l refl free)

-- ## Commands

some_verdict : (a b : Verdict) → Some a ≡ Some b → b ≡ a
some_verdict a b e = cc

pub none_verdict : {A : Type 0} (b : Verdict) → None ≡ Some b → A
none_verdict b e = absurd cc

either_verdict : (b : Bool) (content : Option (List ℕ)) (reply : Reply) → (if b then Write content else Answer reply) ≡ verdict_of (if b then Writes content else Keeps reply)
either_verdict true content reply = refl
either_verdict false content reply = refl

-- a command that the stamp decides needs no bytes, and has this outcome
stamp_decides : (c : Command) (stamp : Version) (verdict : Verdict) → stamp_verdict c stamp ≡ Some verdict → (needs_bytes c ≡ false) × (verdict ≡ verdict_of (outcome c (Present stamp [])))
stamp_decides (PutOnce value) stamp verdict e = (refl, some_verdict _ verdict e)
stamp_decides (Update wanted value) stamp verdict e = (refl, some_verdict _ verdict e ∙ either_verdict (same_version wanted stamp) (Some value) Reply.Failed)
stamp_decides (Over value) stamp verdict e = (refl, some_verdict _ verdict e)
stamp_decides Delete stamp verdict e = (refl, some_verdict _ verdict e)
stamp_decides Get stamp verdict e = none_verdict verdict e
stamp_decides (Append tail) stamp verdict e = none_verdict verdict e
stamp_decides (Add number) stamp verdict e = none_verdict verdict e
stamp_decides (Swap old new) stamp verdict e = none_verdict verdict e

-- ## What the backend keeps

-- the object that an entry names
record IsNamed (key : List ℕ) (version : Version) (digest : List ℕ) (kept : Object × List ℕ) (o : Object) : Type 0 where
  object : kept.0 ≡ o
  on_key : kept.0.key ≡ key
  version_is : kept.0.version ≡ version
  digest_is : kept.1 ≡ digest

matched : (key : List ℕ) (version : Version) (digest : List ℕ) (kept : Object × List ℕ) (o : Object) → matching (record { key = key; version = version; digest = digest }) (Some kept) ≡ Some o → IsNamed key version digest kept o
matched key version digest kept o e = by_name (is_named (record { key = key; version = version; digest = digest }) kept.0 kept.1) refl e
  where
    some_object : (a b : Object) → Some a ≡ Some b → a ≡ b
    some_object a b e = cc

    by_name : (b : Bool) → is_named (record { key = key; version = version; digest = digest }) kept.0 kept.1 ≡ b → (if b then Some kept.0 else None) ≡ Some o → IsNamed key version digest kept o
    by_name true named e =
        let first = and_parts (same_bytes kept.0.key key && same_version kept.0.version version) (same_bytes kept.1 digest) named in
        let second = and_parts (same_bytes kept.0.key key) (same_version kept.0.version version) first.0 in record {
          object = some_object kept.0 o e;
          on_key = bytes_same kept.0.key key second.0;
          version_is = version_same kept.0.version version second.1;
          digest_is = bytes_same kept.1 digest first.1;
        }
    by_name false other e = absurd cc

-- ## Rule 28

module _ (g : Ghosts) (s : State) (key : List ℕ) (owed : List Owed) (l : Leader) (laws : KeyLaws s g (epoch_number l.fact.epoch) key) (work : IsAtWork g s key owed l) (free : l.task ≡ tasks.Nothing) (idle : (row_at key l.table.rows).stage ≡ stages.Idle) where
  on_nothing : (w : Waiting) → running key l.table.calls ≡ Some w → (row_at key l.table.rows).known ≡ knowns.Absent → Follows g s key owed l (decided (base key l) (verdict_of (outcome w.command Absent)) key l)
  on_nothing w is k = decided_so g s key owed l work free idle w is (subst (λ (known : Known). IsSettledKey (known_of known)) (sym k) tt) (outcome w.command Absent) (ap (λ (known : Known). outcome w.command (register_at s.book (settled_rank known))) k)

  module _ (w : Waiting) (is : running key l.table.calls ≡ Some w) (version stamp : Version) (digest : List ℕ) where
    settled_so : (gone : Bool) → (row_at key l.table.rows).known ≡ knowns.Present version stamp digest gone → IsSettledKey (known_of (row_at key l.table.rows).known)
    settled_so gone k = subst (λ (known : Known). IsSettledKey (known_of known)) (sym k) tt

    held_so : (gone : Bool) → (row_at key l.table.rows).known ≡ knowns.Present version stamp digest gone → HeldHolds g s (epoch_number l.fact.epoch) key (rank version) stamp digest gone
    held_so gone k = subst (λ (known : Known). KnownHolds g s (epoch_number l.fact.epoch) key (known_of known)) k (known_holds g s key owed l work free idle w is)

    -- a command that is applied to a register that is the settled one
    applied_so : (gone : Bool) → (row_at key l.table.rows).known ≡ knowns.Present version stamp digest gone → (register : Register) → outcome w.command register ≡ outcome w.command (register_at s.book (rank version)) → Follows g s key owed l (decided (base key l) (verdict_of (outcome w.command register)) key l)
    applied_so gone k register e = decided_so g s key owed l work free idle w is (settled_so gone k) (outcome w.command register) (ap (λ (known : Known). outcome w.command (register_at s.book (settled_rank known))) k ∙ sym e)

    on_kept : (kept : Object × List ℕ) → KeptSays g s key kept → (row_at key l.table.rows).known ≡ knowns.Present version stamp digest false → (o : Option Object) → matching (record { key = key; version = version; digest = digest }) (Some kept) ≡ o → Follows g s key owed l (on_object o w.command key l)
    on_kept kept says k None e = reads_so g s key owed l work free idle w is
    on_kept kept says k (Some o) e = applied_so false k (register_of o) (ap (λ (register : Register). outcome w.command register) (laws.object_register (rank version) (content_of o) object))
      where
        named : IsNamed key version digest kept o
        named = matched key version digest kept o e

        holds : HeldHolds g s (epoch_number l.fact.epoch) key (rank version) stamp digest false
        holds = held_so false k

        there : s.objects.settled (rank version) ≡ true → s.objects.key (rank version) ≡ key → kept.1 ≡ g.hash (version_of (rank version)) key (s.book.stamp (rank version)) (s.book.content (rank version)) → IsObjectOf s (rank version) (content_of kept.0)
        there = subst (λ (v : Version). s.objects.settled (rank v) ≡ true → s.objects.key (rank v) ≡ key → kept.1 ≡ g.hash (version_of (rank v)) key (s.book.stamp (rank v)) (s.book.content (rank v)) → IsObjectOf s (rank v) (content_of kept.0)) named.version_is (says named.on_key)

        object : IsObjectOf s (rank version) (content_of o)
        object = subst (λ (x : Object). IsObjectOf s (rank version) (content_of x)) named.object (there holds.newest.settled holds.newest.key (named.digest_is ∙ holds.same_digest))

    by_value_so : (seen : Seen) → BackendSays g s key seen → (row_at key l.table.rows).known ≡ knowns.Present version stamp digest false → Follows g s key owed l (by_value seen version digest w.command key l)
    by_value_so seens.Nothing says k = stays g s key owed l work (and_own (Fetch key) rests) refl refl refl tt (refl, free)
    by_value_so (seens.Kept None) says k = reads_so g s key owed l work free idle w is
    by_value_so (seens.Kept (Some kept)) says k = on_kept kept says k (matching (record { key = key; version = version; digest = digest }) (Some kept)) refl
    by_value_so seen says k = rests_so g s key owed l work free

    by_stamp_so : (seen : Seen) → BackendSays g s key seen → (row_at key l.table.rows).known ≡ knowns.Present version stamp digest false → (verdict : Option Verdict) → stamp_verdict w.command stamp ≡ verdict → Follows g s key owed l (by_stamp verdict seen version digest w.command key l)
    by_stamp_so seen says k None e = by_value_so seen says k
    by_stamp_so seen says k (Some verdict) e = let decides = stamp_decides w.command stamp verdict e in
        subst (λ (v : Verdict). Follows g s key owed l (decided (base key l) v key l)) (sym decides.1)
        (applied_so false k (Present stamp []) (laws.stamp_outcome (rank version) stamp digest [] w.command (held_so false k) decides.0))

    on_present_so : (seen : Seen) → BackendSays g s key seen → (gone : Bool) → (row_at key l.table.rows).known ≡ knowns.Present version stamp digest gone → Follows g s key owed l (on_present gone version stamp digest seen w.command key l)
    on_present_so seen says true k = applied_so true k Absent (ap (λ (register : Register). outcome w.command register) (laws.gone_register (rank version) stamp digest (held_so true k)))
    on_present_so seen says false k = by_stamp_so seen says k (stamp_verdict w.command stamp) refl

  by_known_so : (w : Waiting) → running key l.table.calls ≡ Some w → (seen : Seen) → BackendSays g s key seen → (known : Known) → (row_at key l.table.rows).known ≡ known → Follows g s key owed l (by_known known seen w.command key l)
  by_known_so w is seen says knowns.Unknown k = reads_so g s key owed l work free idle w is
  by_known_so w is seen says knowns.Absent k = on_nothing w is k
  by_known_so w is seen says (knowns.Present version stamp digest gone) k = on_present_so w is version stamp digest seen says gone k

  started_so : (seen : Seen) → BackendSays g s key seen → (call : Option Waiting) → running key l.table.calls ≡ call → Follows g s key owed l (started call seen key l)
  started_so seen says None is = rests_so g s key owed l work free
  started_so seen says (Some w) is = by_known_so w is seen says (row_at key l.table.rows).known refl

pub run_starts : (view : List ℕ) (steps : List Step) → IsRun view steps → CallsStart (state_after view steps)
run_starts view steps run g key owed l seen work free idle says = inr (started_so g (state_after view steps) key owed l (run_keys view steps g (epoch_number l.fact.epoch) key run) work free idle seen says (running key l.table.calls) refl)

-- ## Rule 36

next_so : (g : Ghosts) (s : State) (key : List ℕ) (owed : List Owed) (l : Leader) → IsAtWork g s key owed l → l.task ≡ tasks.Nothing → (row_at key l.table.rows).stage ≡ stages.Idle → (call : Option Waiting) → Follows g s key owed l (l, next_call call key)
next_so g s key owed l work free idle None = rests_so g s key owed l work free
next_so g s key owed l work free idle (Some w) = stays g s key owed l work (leads_on key_rules.StartCall key) refl refl refl (λ e. idle) (refl, ready_free key_rules.StartCall key l refl free)

pub run_next : (view : List ℕ) (steps : List Step) → IsRun view steps → NextIsSought (state_after view steps)
run_next view steps run g key owed l work free idle = inr (next_so g (state_after view steps) key owed l work free idle (running key l.table.calls))
