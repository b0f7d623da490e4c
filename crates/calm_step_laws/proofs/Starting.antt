-- Rule 28: a leader starts its only call, by what it knows of the key.
use Rattle.std.proofs.Common.{◌≡◌, refl, ap, sym, ◌∙◌, subst, ℕ, suc, Bool, true, false, List, [], ◌∷◌, Option, None, Some}
use Rattle.std.specs.Prelude.{if◌then◌else◌}
use Rattle.std.proofs.lemmas.Option.{none-some, same_Some}
use Rattle.call_table.specs.Calls.{running}
use Rattle.call_table.specs.Rows.{row_at}
use Rattle.call_table.specs.declared.row.Known.TheVariants as knowns
use Rattle.call_table.specs.declared.waiting.Waiting.{Waiting}
use Rattle.ens_base.proofs.Lists.{bytes_itself}
use Rattle.ens_base.proofs.Orders.{version_itself}
use Rattle.ens_base.specs.Epochs.{same_version}
use Rattle.ens_base.specs.Lists.{same_bytes}
use Rattle.ens_base.specs.declared.command.Command.{Command}
use Rattle.ens_base.specs.declared.command.Command.TheVariants.{Get, PutOnce, Update, Append, Add, Swap, Over, Delete}
use Rattle.ens_base.specs.declared.entry.Entry.{Entry}
use Rattle.ens_base.specs.declared.epoch.Version.{Version}
use Rattle.ens_base.specs.declared.reply.Reply.{Reply}
use Rattle.stored_formats.specs.Objects.{IsObject, object_spelling}
use Rattle.stored_formats.specs.declared.object.Object.{Object}
use Rattle.environment.specs.Maps.{value_at}
use Rattle.peer_refinement.specs.WorldSpec.{answered, Held}
use Rattle.object_commands.specs.Kept.{matching}
use Rattle.object_commands.specs.Commands.{verdict_of, stamp_verdict, register_of}
use Rattle.object_commands.specs.declared.verdict.Verdict.{Verdict}
use Rattle.object_commands.specs.declared.verdict.Verdict.TheVariants.{Write, Answer}
use Rattle.leader_output.specs.Outs.{and_own, rests}
use Rattle.leader_output.specs.declared.out.Own.TheVariants as owns
use Rattle.leader.specs.Leaders.{with_task, base, is_spent, settled_as, decided}
use Rattle.leader.specs.Starts.{row_28, started, by_known, by_stamp, on_object}
use Rattle.leader.specs.declared.leader.Leader.{Leader}
use Rattle.leader.specs.declared.pending.Pending.TheVariants as pendings
use Rattle.md5.specs.Md5.{md5}
use Rattle.peer_refinement.specs.PeerSpec.{driven}
use Rattle.peer_state.specs.declared.state.State.{State}
use Rattle.stored_formats.specs.declared.fact.Fact.{Fact}
use Rattle.quorums.specs.Rounds.{state_of, begun}
use Rattle.quorums.specs.declared.round.RoundState.{RoundState}
use Rattle.register_model.specs.Registers.{outcome, Writes, Keeps}
use Rattle.register_model.specs.declared.note.Note.{Note}
use Rattle.register_model.specs.declared.register.Register.TheVariants.{Absent, Present}
use Rattle.step_plans.specs.Calls.{Find, Hash}
use Rattle.step_plans.specs.Plans.{Out, Rest}
use Rattle.step_plans.specs.declared.tasks.Task.{Task}
use Rattle.step_plans.specs.declared.tasks.Task.TheVariants as tasks
use Rattle.synctree.specs.Entries.{lookup}
use Rattle.peer_refinement.specs.Trees.{AreFree}
use Rattle.peer_refinement.specs.Whole.{IsWhole}
use Rattle.phase_rows.specs.declared.phase.Seen.{Seen}
use Rattle.phase_rows.specs.declared.phase.Seen.TheVariants as seens
use Rattle.phase_rows.specs.declared.phase.Then.TheVariants as thens
use Rattle.phase_rows.specs.declared.rules.KeyRule.{KeyRule}
use Rattle.phase_rows.specs.declared.rules.KeyRule.TheVariants as key_rules
use Rattle.calm_step_laws.proofs.Backends.{fetched_lands}
use Rattle.calm_step_laws.proofs.KeyRows.{row_28_unknown}
use Rattle.calm_step_laws.proofs.Lands.{Aim}
use Rattle.calm_step_laws.proofs.Leads.{leads, told, told_nothing, LandsFrom, key_goes, key_asks, again_goes}
use Rattle.calm_step_laws.proofs.Reading.{reads_29, reading, asks_get}
use Rattle.calm_step_laws.proofs.Serving.{Runs, HasCall, runs, ReadsEnd, WritesEnd, ChecksEnd, writes_31, checks_33}
use Rattle.calm_step_laws.proofs.TreeCalls.{keeps}

-- ## Verdicts

-- what the stamp of a present register decides is the outcome
stamp_agrees : (c : Command) (stamp : Version) (bytes : List ℕ) (verdict : Verdict) → stamp_verdict c stamp ≡ Some verdict → verdict ≡ verdict_of (outcome c (Present stamp bytes))
stamp_agrees (PutOnce value) stamp bytes verdict is = sym (same_Some _ _ is)
stamp_agrees (Update wanted value) stamp bytes verdict is = sym (same_Some _ _ is) ∙ either (same_version wanted stamp) where
  either : (b : Bool) → (if b then Write (Some value) else Answer Reply.Failed) ≡ verdict_of (if b then Writes (Some value) else Keeps Reply.Failed)
  either true = refl
  either false = refl
stamp_agrees (Over value) stamp bytes verdict is = sym (same_Some _ _ is)
stamp_agrees Delete stamp bytes verdict is = sym (same_Some _ _ is)
stamp_agrees Get stamp bytes verdict is = absurd (none-some verdict is)
stamp_agrees (Append tail) stamp bytes verdict is = absurd (none-some verdict is)
stamp_agrees (Add number) stamp bytes verdict is = absurd (none-some verdict is)
stamp_agrees (Swap old new) stamp bytes verdict is = absurd (none-some verdict is)

-- the object that a backend returned is the one that was settled
named : (o : Object) (key : List ℕ) → o.key ≡ key → matching (record { key = key; version = o.version; digest = md5 (object_spelling o) }) (Some (o, md5 (object_spelling o))) ≡ Some o
named o key same = rw (subst (λ (k : List ℕ). same_bytes o.key k ≡ true) same (bytes_itself o.key), version_itself o.version, bytes_itself (md5 (object_spelling o))) refl

-- ## The row of rule 28

module _ (key : List ℕ) (w : Waiting) (l : Leader) (going : running key l.table.calls ≡ Some w) where
  begins : (seen : Seen) → row_28 key seen l ≡ by_known (row_at key l.table.rows).known seen w.command key l
  begins seen = ap (λ call. started call seen key l) going

  row_absent : (row_at key l.table.rows).known ≡ knowns.Absent → row_28 key seens.Nothing l ≡ decided (base key l) (verdict_of (outcome w.command Absent)) key l
  row_absent is = begins seens.Nothing ∙ ap (λ k. by_known k seens.Nothing w.command key l) is

  module _ (version stamp : Version) (digest : List ℕ) where
    row_gone : (row_at key l.table.rows).known ≡ knowns.Present version stamp digest true → row_28 key seens.Nothing l ≡ decided (base key l) (verdict_of (outcome w.command Absent)) key l
    row_gone is = begins seens.Nothing ∙ ap (λ k. by_known k seens.Nothing w.command key l) is

    row_by_stamp : (row_at key l.table.rows).known ≡ knowns.Present version stamp digest false → (verdict : Verdict) → stamp_verdict w.command stamp ≡ Some verdict → row_28 key seens.Nothing l ≡ decided (base key l) verdict key l
    row_by_stamp is verdict decides = begins seens.Nothing ∙ (ap (λ k. by_known k seens.Nothing w.command key l) is ∙ ap (λ v. by_stamp v seens.Nothing version digest w.command key l) decides)

    row_fetches : (row_at key l.table.rows).known ≡ knowns.Present version stamp digest false → stamp_verdict w.command stamp ≡ None → row_28 key seens.Nothing l ≡ (l, and_own (owns.Fetch key) rests)
    row_fetches is decides = begins seens.Nothing ∙ (ap (λ k. by_known k seens.Nothing w.command key l) is ∙ ap (λ v. by_stamp v seens.Nothing version digest w.command key l) decides)

  row_sees : (o : Object) → o.key ≡ key → (row_at key l.table.rows).known ≡ knowns.Present o.version o.stamp (md5 (object_spelling o)) false → stamp_verdict w.command o.stamp ≡ None
      → row_28 key (seens.Kept (Some (o, md5 (object_spelling o)))) l ≡ decided (base key l) (verdict_of (outcome w.command (register_of o))) key l
  row_sees o same is decides =
      let seen : Seen = seens.Kept (Some (o, md5 (object_spelling o))) in
      begins seen ∙ (ap (λ k. by_known k seen w.command key l) is ∙ (ap (λ v. by_stamp v seen o.version (md5 (object_spelling o)) w.command key l) decides ∙ ap (λ found. on_object found w.command key l) (named o key same)))

module _ (me : ℕ) (fact : Fact) (strings : List (List ℕ)) (P : Aim) (free : AreFree strings) (next : Rest State (List Task)) (key : List ℕ) (w : Waiting) (mine : running key (w ∷ []) ≡ Some w) where
  -- what the step ends with, if the command is decided on what the leader knows
  abbrev pub DecidesEnd : RoundState → Verdict → Leader → Out → Held → List Entry → Type 0
  DecidesEnd state (Write content) l out h m = (is_spent l.seq ≡ false) × WritesEnd me fact strings P free next key w mine state content l out h m
  DecidesEnd state (Answer reply) l out h m = (is_spent l.round ≡ false) × ChecksEnd me fact strings P free next key w mine state reply l out h

  abbrev Step : ℕ → KeyRule → Leader → Out → Held → List Note → Type 0
  Step n k l out h ns = Runs me fact strings P free next key w mine n k l out h ns

  abbrev Call : Leader → Type 0
  Call l = HasCall me fact strings P free next key w mine l

  writes : (n : ℕ) (l : Leader) (parent : Option Version) (content : Option (List ℕ)) (out : Out) (h : Held) (m : List Entry) (ns : List Note) (state : RoundState) → Call l → state_of (begun l.fact.views l.me) ≡ state → IsWhole h m
      → DecidesEnd state (Write content) l out h m → Step (suc (suc (suc (suc n)))) key_rules.Write (with_task (pendings.Write content parent) l) (told out [] []) h ns
  writes n l parent content out h m ns state calls begins whole ends =
      let k : Leader = with_task (pendings.Write content parent) l in
      subst (λ o. Step (suc (suc (suc (suc n)))) key_rules.Write k o h ns) (sym (told_nothing out)) (writes_31 me fact strings P free next key w mine n k content parent out h m ns state calls refl ends.0 begins whole ends.1)

  checks : (n : ℕ) (l : Leader) (reply : Reply) (out : Out) (h : Held) (m : List Entry) (ns : List Note) (state : RoundState) → Call l → state_of (begun l.fact.views l.me) ≡ state
      → DecidesEnd state (Answer reply) l out h m → Step (suc (suc (suc (suc n)))) key_rules.Check (with_task (pendings.Check reply) l) (told out [] []) h ns
  checks n l reply out h m ns state calls begins ends =
      let k : Leader = with_task (pendings.Check reply) l in
      subst (λ o. Step (suc (suc (suc (suc n)))) key_rules.Check k o h ns) (sym (told_nothing out)) (checks_33 me fact strings P free next key w mine (suc (suc n)) k reply out h ns state calls refl ends.0 begins ends.1)

  -- the rule runs, and decides
  decides_28 : (n : ℕ) (l : Leader) (parent : Option Version) (verdict : Verdict) (out : Out) (h : Held) (m : List Entry) (ns : List Note) (state : RoundState) → Call l → state_of (begun l.fact.views l.me) ≡ state → IsWhole h m
      → row_28 key seens.Nothing l ≡ decided parent verdict key l → DecidesEnd state verdict l out h m → Step (suc (suc (suc (suc (suc n))))) key_rules.StartCall l out h ns
  decides_28 n l parent (Write content) out h m ns state calls begins whole is ends =
      key_goes me fact strings P next (suc (suc (suc (suc n)))) key_rules.StartCall key l (with_task (pendings.Write content parent) l) out [] [] [] (thens.OnKeys key_rules.Write) (key ∷ []) h ns is tt (writes n l parent content out h m ns state calls begins whole ends)
  decides_28 n l parent (Answer reply) out h m ns state calls begins whole is ends =
      key_goes me fact strings P next (suc (suc (suc (suc n)))) key_rules.StartCall key l (with_task (pendings.Check reply) l) out [] [] [] (thens.OnKeys key_rules.Check) (key ∷ []) h ns is tt (checks n l reply out h m ns state calls begins ends)

  -- the rule runs again, after the own backend returned the object
  decides_again : (n : ℕ) (l : Leader) (parent : Option Version) (verdict : Verdict) (o : Object) (out : Out) (h : Held) (m : List Entry) (ns : List Note) (state : RoundState) → Call l → state_of (begun l.fact.views l.me) ≡ state → IsWhole h m
      → row_28 key (seens.Kept (Some (o, md5 (object_spelling o)))) l ≡ decided parent verdict key l → DecidesEnd state verdict l out h m
      → LandsFrom me fact strings P (λ x. driven me (suc (suc (suc (suc (suc n))))) (tasks.Again key_rules.StartCall key (seens.Kept (Some (o, md5 (object_spelling o)))) ∷ []) x out next) l h ns
  decides_again n l parent (Write content) o out h m ns state calls begins whole is ends =
      again_goes me fact strings P next (suc (suc (suc (suc n)))) key_rules.StartCall key (seens.Kept (Some (o, md5 (object_spelling o)))) l (with_task (pendings.Write content parent) l) out [] [] [] (thens.OnKeys key_rules.Write) (key ∷ []) h ns is tt (writes n l parent content out h m ns state calls begins whole ends)
  decides_again n l parent (Answer reply) o out h m ns state calls begins whole is ends =
      again_goes me fact strings P next (suc (suc (suc (suc n)))) key_rules.StartCall key (seens.Kept (Some (o, md5 (object_spelling o)))) l (with_task (pendings.Check reply) l) out [] [] [] (thens.OnKeys key_rules.Check) (key ∷ []) h ns is tt (checks n l reply out h m ns state calls begins ends)

  -- ## By what is known

  -- an unknown key is read
  pub starts_unknown : (n : ℕ) (l : Leader) (verdict : Verdict) (out : Out) (h : Held) (m : List Entry) (ns : List Note) (state : RoundState) → Call l → (row_at key l.table.rows).known ≡ knowns.Unknown → is_spent l.round ≡ false
      → verdict_of (outcome w.command Absent) ≡ verdict → state_of (begun l.fact.views l.me) ≡ state → IsWhole h m → lookup key m ≡ None
      → ReadsEnd me fact strings P free next key w mine state state verdict (reading me fact strings P free next key w mine l) (told out (asks_get me fact strings P free next key w mine l) []) (answered (Find key) h).held m
      → Step (suc (suc (suc (suc (suc (suc (suc (suc (suc n))))))))) key_rules.StartCall l out h ns
  starts_unknown n l verdict out h m ns state calls unknown fresh is begins whole absent ends =
      key_goes me fact strings P next (suc (suc (suc (suc (suc (suc (suc (suc n)))))))) key_rules.StartCall key l l out [] [] [] (thens.OnKeys key_rules.Read) (key ∷ []) h ns (row_28_unknown key w l (runs me fact strings P free next key w mine l calls) unknown) tt
      (subst (λ o. Step (suc (suc (suc (suc (suc (suc (suc (suc n)))))))) key_rules.Read l o h ns) (sym (told_nothing out)) (reads_29 me fact strings P free next key w mine n l verdict out h m ns state calls fresh is begins whole absent ends))

  -- a key that is absent
  pub starts_absent : (n : ℕ) (l : Leader) (verdict : Verdict) (out : Out) (h : Held) (m : List Entry) (ns : List Note) (state : RoundState) → Call l → (row_at key l.table.rows).known ≡ knowns.Absent
      → verdict_of (outcome w.command Absent) ≡ verdict → state_of (begun l.fact.views l.me) ≡ state → IsWhole h m → DecidesEnd state verdict l out h m → Step (suc (suc (suc (suc (suc n))))) key_rules.StartCall l out h ns
  starts_absent n l verdict out h m ns state calls absent is begins whole ends =
      decides_28 n l (base key l) verdict out h m ns state calls begins whole (row_absent key w l (runs me fact strings P free next key w mine l calls) absent ∙ ap (λ v. decided (base key l) v key l) is) ends

  -- what the step ends with, whatever was hashed meanwhile
  abbrev pub KeptEnd : RoundState → Verdict → Leader → Out → Held → List Entry → Type 0
  KeptEnd state verdict l out h m = (g : Held) → IsWhole g m → g.stores ≡ h.stores → DecidesEnd state verdict l out g m

  -- a settled object, which the own backend has
  module _ (o : Object) (same : o.key ≡ key) (valid : IsObject o) (l : Leader) (calls : Call l) (out : Out) (h : Held) (m : List Entry) (whole : IsWhole h m) (state : RoundState) (begins : state_of (begun l.fact.views l.me) ≡ state) where
    fetches : (n : ℕ) (ns : List Note) → (row_at key l.table.rows).known ≡ knowns.Present o.version o.stamp (md5 (object_spelling o)) false → stamp_verdict w.command o.stamp ≡ None → value_at key h.stores.backend.entries ≡ Some (object_spelling o)
        → KeptEnd state (verdict_of (outcome w.command (register_of o))) l out h m → Step (suc (suc (suc (suc (suc (suc n)))))) key_rules.StartCall l out h ns
    fetches n ns known undecided has ends =
        let g : Held = (answered (Hash (object_spelling o)) h).held in
        let whole_g : IsWhole g m = keeps (Hash (object_spelling o)) h m tt whole in
        key_asks me fact strings P next (suc (suc (suc (suc (suc n))))) key_rules.StartCall key l l out [] (owns.Fetch key) h ns (row_fetches key w l (runs me fact strings P free next key w mine l calls) o.version o.stamp (md5 (object_spelling o)) known undecided)
        (λ keep. fetched_lands strings P o key (leads fact l keep) out (λ seen y p. driven me (suc (suc (suc (suc (suc n))))) (tasks.Again key_rules.StartCall key seen ∷ []) y p next) h ns valid has
        (decides_again n l (base key l) (verdict_of (outcome w.command (register_of o))) o out g m ns state calls begins whole_g
        (row_sees key w l (runs me fact strings P free next key w mine l calls) o same known undecided) (ends g whole_g refl) keep))

    by_content : (n : ℕ) (ns : List Note) (content : Option (List ℕ)) → o.value ≡ content → (row_at key l.table.rows).known ≡ settled_as o.version o (md5 (object_spelling o)) → value_at key h.stores.backend.entries ≡ Some (object_spelling o)
        → KeptEnd state (verdict_of (outcome w.command (register_of o))) l out h m → Step (suc (suc (suc (suc (suc (suc n)))))) key_rules.StartCall l out h ns
    by_content n ns None is known has ends =
        decides_28 (suc n) l (base key l) (verdict_of (outcome w.command (register_of o))) out h m ns state calls begins whole
        (row_gone key w l (runs me fact strings P free next key w mine l calls) o.version o.stamp (md5 (object_spelling o)) (known ∙ rw is refl) ∙ rw is refl) (ends h whole refl)
    by_content n ns (Some bytes) is known has ends = on_stamp (stamp_verdict w.command o.stamp) refl where
      present : (row_at key l.table.rows).known ≡ knowns.Present o.version o.stamp (md5 (object_spelling o)) false
      present = known ∙ rw is refl

      on_stamp : (v : Option Verdict) → stamp_verdict w.command o.stamp ≡ v → Step (suc (suc (suc (suc (suc (suc n)))))) key_rules.StartCall l out h ns
      on_stamp None undecided = fetches n ns present undecided has ends
      on_stamp (Some verdict) decides =
          decides_28 (suc n) l (base key l) (verdict_of (outcome w.command (register_of o))) out h m ns state calls begins whole
          (row_by_stamp key w l (runs me fact strings P free next key w mine l calls) o.version o.stamp (md5 (object_spelling o)) present verdict decides ∙ ap (λ v. decided (base key l) v key l) (stamp_agrees w.command o.stamp bytes verdict decides ∙ rw is refl)) (ends h whole refl)

    pub starts_kept : (n : ℕ) (ns : List Note) → (row_at key l.table.rows).known ≡ settled_as o.version o (md5 (object_spelling o)) → value_at key h.stores.backend.entries ≡ Some (object_spelling o)
        → KeptEnd state (verdict_of (outcome w.command (register_of o))) l out h m → Step (suc (suc (suc (suc (suc (suc n)))))) key_rules.StartCall l out h ns
    starts_kept n ns known has ends = by_content n ns o.value refl known has ends
