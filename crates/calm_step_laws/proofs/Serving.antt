-- The rules of a leader on the key of its only call, one after another in a step: each chain ends in
-- a round that waits, or with the call answered.
use Rattle.std.proofs.Common.{◌≡◌, ◌<◌, ◌^◌, ◌+◌, refl, ap, sym, ◌∙◌, subst, ℕ, suc, false, List, [], ◌∷◌, ◌++◌, length, Option, None, Some}
use Rattle.call_table.specs.Calls.{running, without_running}
use Rattle.call_table.specs.Rows.{row_at, with_check}
use Rattle.call_table.specs.Tables.{ended}
use Rattle.call_table.specs.declared.row.Known.TheVariants as knowns
use Rattle.call_table.specs.declared.row.Stage.TheVariants as stages
use Rattle.call_table.specs.declared.waiting.Waiting.{Waiting}
use Rattle.ens_base.specs.declared.entry.Entry.{Entry}
use Rattle.ens_base.specs.declared.epoch.Version.{Version}
use Rattle.ens_base.specs.declared.reply.Reply.{Reply}
use Rattle.ens_base.specs.declared.reply.Reply.TheVariants as replies
use Rattle.fields.specs.Entries.{IsEntry}
use Rattle.stored_formats.specs.Objects.{object_spelling}
use Rattle.stored_formats.specs.declared.object.Object.{Object}
use Rattle.peer_refinement.specs.WorldSpec.{Held}
use Rattle.object_commands.specs.Kept.{entry_of}
use Rattle.object_commands.specs.Commands.{verdict_of}
use Rattle.object_commands.specs.declared.verdict.Verdict.{Verdict}
use Rattle.object_commands.specs.declared.verdict.Verdict.TheVariants.{Write, Answer}
use Rattle.leader_output.specs.Sends.{is_other, sent_up_to}
use Rattle.leader_output.specs.declared.out.AnswerOut.{AnswerOut}
use Rattle.leader_output.specs.declared.out.Outgoing.{Outgoing}
use Rattle.leader_output.specs.declared.out.Own.TheVariants as owns
use Rattle.leader.specs.Leaders.{with_task, knows, stands, base, is_spent, next_version, settled_as}
use Rattle.leader.specs.declared.leader.Leader.{Leader}
use Rattle.leader.specs.declared.pending.Pending.TheVariants as pendings
use Rattle.md5.specs.Md5.{md5}
use Rattle.peer_refinement.specs.PeerSpec.{driven}
use Rattle.peer_state.specs.declared.state.State.{State}
use Rattle.stored_formats.specs.declared.fact.Fact.{Fact}
use Rattle.quorums.specs.Rounds.{state_of, begun}
use Rattle.quorums.specs.declared.round.Round.{Round}
use Rattle.quorums.specs.declared.round.RoundState.{RoundState}
use Rattle.quorums.specs.declared.round.RoundState.TheVariants.{Open, Met, AllAnswered}
use Rattle.register_model.specs.Registers.{outcome}
use Rattle.register_model.specs.declared.note.Note.{Note}
use Rattle.register_model.specs.declared.note.Note.TheVariants.{Proposed, Settled, Read}
use Rattle.register_model.specs.declared.register.Register.TheVariants.{Absent}
use Rattle.step_plans.specs.Plans.{Out, Rest}
use Rattle.step_plans.specs.declared.tasks.Task.{Task}
use Rattle.step_plans.specs.declared.tasks.Task.TheVariants as tasks
use Rattle.synctree.specs.Entries.{put}
use Rattle.peer_refinement.specs.Trees.{AreFree}
use Rattle.peer_refinement.specs.Whole.{IsWhole}
use Rattle.wire_frames.specs.declared.message.Message.TheVariants as messages
use Rattle.phase_rows.specs.declared.phase.Seen.TheVariants as seens
use Rattle.phase_rows.specs.declared.phase.Then.TheVariants as thens
use Rattle.phase_rows.specs.declared.rules.KeyRule.{KeyRule}
use Rattle.phase_rows.specs.declared.rules.KeyRule.TheVariants as key_rules
use Rattle.calm_step_laws.proofs.CheckReplies.{ended_calls, none_left}
use Rattle.calm_step_laws.proofs.KeyRows.{row_30_waits, row_30_absent, row_30_all, row_33_checks, row_34_writes, row_34_reads, row_31_proposes, row_35_asks, row_35_stored, row_36_ends}
use Rattle.calm_step_laws.proofs.Lands.{Aim, Lands}
use Rattle.calm_step_laws.proofs.Leads.{leads, told, told_nothing, LandsFrom, key_goes, key_asks, again_goes, rests_there}
use Rattle.calm_step_laws.proofs.Requests.{HasWritten, written_lands}

-- the one type for a round that is open, and the other for a round that is not
abbrev pub by_round : RoundState → Type 0 → Type 0 → Type 0
by_round Open waits ends = waits
by_round Met waits ends = ends
by_round AllAnswered waits ends = ends

module _ (me : ℕ) (fact : Fact) (strings : List (List ℕ)) (P : Aim) (free : AreFree strings) (next : Rest State (List Task)) (key : List ℕ) (w : Waiting) (mine : running key (w ∷ []) ≡ Some w) where
  -- the step ends with this leader, output and stores
  abbrev pub Goes : Leader → Out → Held → Type 0
  Goes l out h = (ns : List Note) → LandsFrom me fact strings P (λ x. next [] x out) l h ns

  -- this rule still runs on the key
  abbrev pub Runs : ℕ → KeyRule → Leader → Out → Held → List Note → Type 0
  Runs n k l out h ns = LandsFrom me fact strings P (λ x. driven me n (tasks.Key k key ∷ []) x out next) l h ns

  -- the call is the only one
  abbrev pub HasCall : Leader → Type 0
  HasCall l = l.table.calls ≡ w ∷ []

  pub runs : (l : Leader) → HasCall l → running key l.table.calls ≡ Some w
  runs l calls = ap (λ cs. running key cs) calls ∙ mine

  -- the leader after it answered its call
  abbrev pub replied : Leader → Leader
  replied l = record l { table = ended key l.table }

  abbrev pub answer : Reply → List AnswerOut
  answer reply = record { caller = w.from; id = w.id; reply = reply } ∷ []

  none_runs : (l : Leader) → HasCall l → running key (replied l).table.calls ≡ None
  none_runs l calls = ap (λ cs. running key cs) (ended_calls key l.table ∙ ap (λ cs. without_running key cs) calls) ∙ none_left key w mine

  -- rule 36: no call is left
  pub rests_36 : (n : ℕ) (l : Leader) (out : Out) (h : Held) (ns : List Note) → HasCall l → Goes (replied l) out h → Runs (suc n) key_rules.StartNextCall (replied l) out h ns
  rests_36 n l out h ns calls goes =
      key_goes me fact strings P next n key_rules.StartNextCall key (replied l) (replied l) out [] [] [] thens.Stay [] h ns (row_36_ends key (replied l) (none_runs l calls)) tt
      (rests_there me fact strings P next n (replied l) (told out [] []) h ns (subst (λ o. LandsFrom me fact strings P (λ x. next [] x o) (replied l) h ns) (sym (told_nothing out)) (goes ns)))

  -- ## Checks

  abbrev pub asks_check : Leader → List Outgoing
  asks_check l = sent_up_to (is_other l.me l.fact.views) (messages.Check l.fact.epoch (l.round + 1)) 31

  -- the leader in its next round
  abbrev pub rounded : Leader → Leader
  rounded l = record l { round = l.round + 1; task = pendings.Nothing }

  abbrev pub checking : Reply → Leader → Leader
  checking reply l =
      let m : Leader = stands key (stages.Checking (l.round + 1) (begun l.fact.views l.me) reply) (rounded l) in record m { table = record m.table { checks = with_check (l.round + 1) key m.table.checks } }

  -- what the step ends with, if a check gives this reply
  abbrev pub ChecksEnd : RoundState → Reply → Leader → Out → Held → Type 0
  ChecksEnd state reply l out h = by_round state (Goes (checking reply l) (told out (asks_check l) []) h) (Goes (replied (rounded l)) (told out (asks_check l) (answer reply)) h)

  -- rule 33: the members are asked whether they are still at the epoch
  pub checks_33 : (n : ℕ) (l : Leader) (reply : Reply) (out : Out) (h : Held) (ns : List Note) (state : RoundState) → HasCall l → l.task ≡ pendings.Check reply → is_spent l.round ≡ false → state_of (begun l.fact.views l.me) ≡ state
      → ChecksEnd state reply l out h → Runs (suc (suc n)) key_rules.Check l out h ns
  checks_33 n l reply out h ns Open calls task fresh is ends =
      key_goes me fact strings P next (suc n) key_rules.Check key l (checking reply l) out (asks_check l) [] [] thens.Stay [] h ns (row_33_checks key w l (runs l calls) reply task fresh ∙ rw is refl) tt
      (rests_there me fact strings P next (suc n) (checking reply l) (told out (asks_check l) []) h ns (ends ns))
  checks_33 n l reply out h ns Met calls task fresh is ends =
      key_goes me fact strings P next (suc n) key_rules.Check key l (replied (rounded l)) out (asks_check l) (answer reply) (Read w.id key (base key l) ∷ []) (thens.OnKeys key_rules.StartNextCall) (key ∷ []) h ns (row_33_checks key w l (runs l calls) reply task fresh ∙ rw is refl) tt
      (rests_36 n (rounded l) (told out (asks_check l) (answer reply)) h (ns ++ Read w.id key (base key l) ∷ []) calls ends)
  checks_33 n l reply out h ns AllAnswered calls task fresh is ends =
      key_goes me fact strings P next (suc n) key_rules.Check key l (replied (rounded l)) out (asks_check l) (answer reply) (Read w.id key (base key l) ∷ []) (thens.OnKeys key_rules.StartNextCall) (key ∷ []) h ns (row_33_checks key w l (runs l calls) reply task fresh ∙ rw is refl) tt
      (rests_36 n (rounded l) (told out (asks_check l) (answer reply)) h (ns ++ Read w.id key (base key l) ∷ []) calls ends)

  -- ## Puts

  abbrev pub digest_of : Object → List ℕ
  digest_of o = md5 (object_spelling o)

  abbrev pub asks_put : Object → Leader → List Outgoing
  asks_put o l = sent_up_to (is_other l.me l.fact.views) (messages.Put l.fact.epoch o) 31

  -- the leader that waits for the acknowledgements of this put, and the one whose put is settled
  abbrev pub putting : Object → Leader → Leader
  putting o l = stands key (stages.Putting o (digest_of o) (begun l.fact.views l.me) false) (with_task pendings.Nothing l)

  abbrev pub settled : Object → Leader → Leader
  settled o l = replied (knows key (settled_as o.version o (digest_of o)) (with_task pendings.Nothing l))

  abbrev pub PutsEnd : RoundState → Object → Leader → Out → Held → List Entry → Type 0
  PutsEnd state o l out h m =
      (g : Held) → HasWritten o m h g → by_round state (Goes (putting o l) (told out (asks_put o l) []) g) (Goes (settled o l) (told out (asks_put o l) (answer (replies.Ok o.stamp))) g)

  stored_35 : (n : ℕ) (l : Leader) (o : Object) (parent : Option Version) (out : Out) (g : Held) (ns : List Note) (state : RoundState) → HasCall l → l.task ≡ pendings.Propose o parent (Some w.id) → state_of (begun l.fact.views l.me) ≡ state
      → by_round state (Goes (putting o l) (told out (asks_put o l) []) g) (Goes (settled o l) (told out (asks_put o l) (answer (replies.Ok o.stamp))) g)
      → LandsFrom me fact strings P (λ x. driven me (suc (suc n)) (tasks.Again key_rules.Put key (seens.Stored (digest_of o)) ∷ []) x out next) l g ns
  stored_35 n l o parent out g ns Open calls task is ends =
      again_goes me fact strings P next (suc n) key_rules.Put key (seens.Stored (digest_of o)) l (putting o l) out (asks_put o l) [] [] thens.Stay [] g ns (row_35_stored key l o parent w.id (digest_of o) task ∙ rw is refl) tt
      (rests_there me fact strings P next (suc n) (putting o l) (told out (asks_put o l) []) g ns (ends ns))
  stored_35 n l o parent out g ns Met calls task is ends =
      again_goes me fact strings P next (suc n) key_rules.Put key (seens.Stored (digest_of o)) l (settled o l) out (asks_put o l) (answer (replies.Ok o.stamp)) (Settled key o.version ∷ []) (thens.OnKeys key_rules.StartNextCall) (key ∷ []) g ns
      (row_35_stored key l o parent w.id (digest_of o) task ∙ rw (is, runs l calls) refl) tt
      (rests_36 n (knows key (settled_as o.version o (digest_of o)) (with_task pendings.Nothing l)) (told out (asks_put o l) (answer (replies.Ok o.stamp))) g (ns ++ Settled key o.version ∷ []) calls ends)
  stored_35 n l o parent out g ns AllAnswered calls task is ends =
      again_goes me fact strings P next (suc n) key_rules.Put key (seens.Stored (digest_of o)) l (settled o l) out (asks_put o l) (answer (replies.Ok o.stamp)) (Settled key o.version ∷ []) (thens.OnKeys key_rules.StartNextCall) (key ∷ []) g ns
      (row_35_stored key l o parent w.id (digest_of o) task ∙ rw (is, runs l calls) refl) tt
      (rests_36 n (knows key (settled_as o.version o (digest_of o)) (with_task pendings.Nothing l)) (told out (asks_put o l) (answer (replies.Ok o.stamp))) g (ns ++ Settled key o.version ∷ []) calls ends)

  -- the entry of an object fits into the tree
  abbrev pub Fits : Object → List Entry → Type 0
  Fits o m = IsEntry (entry_of o (digest_of o)) × (length (put (entry_of o (digest_of o)) m) < 2 ^ 32)

  -- rule 35: the object is stored, and goes to the other members
  pub puts_35 : (n : ℕ) (l : Leader) (o : Object) (parent : Option Version) (out : Out) (h : Held) (m : List Entry) (ns : List Note) (state : RoundState) → HasCall l → l.task ≡ pendings.Propose o parent (Some w.id) → o.key ≡ key
      → state_of (begun l.fact.views l.me) ≡ state → IsWhole h m → Fits o m → PutsEnd state o l out h m → Runs (suc (suc (suc n))) key_rules.Put l out h ns
  puts_35 n l o parent out h m ns state calls task same is whole fits ends =
      let k : Leader = with_task (pendings.Propose o parent (Some w.id)) l in
      let noted : List Note = ns ++ Proposed key o.version parent (Some w.id) ∷ [] in
      key_asks me fact strings P next (suc (suc n)) key_rules.Put key l k out (Proposed key o.version parent (Some w.id) ∷ []) (owns.Put o) h ns (row_35_asks key l o parent (Some w.id) task)
      (λ keep. written_lands strings P free o (leads fact k keep) out (λ seen y p. driven me (suc (suc n)) (tasks.Again key_rules.Put o.key seen ∷ []) y p next) h m noted whole fits.0 fits.1
      (λ seal g has. subst (λ (j : List ℕ). Lands strings P (driven me (suc (suc n)) (tasks.Again key_rules.Put j (seens.Stored (digest_of o)) ∷ []) (leads fact k (record keep { seal = seal })) out next) g noted) (sym same)
      (stored_35 n k o parent out g noted state calls refl is (ends g has) (record keep { seal = seal }))))

  -- the object of a write by a leader
  abbrev pub written_by : Leader → Option (List ℕ) → Object
  written_by l content = record { version = next_version l; stamp = next_version l; key = key; value = content }

  -- the leader in which the number of the write was given
  abbrev pub numbered : Leader → Leader
  numbered l = record l { seq = l.seq + 1 }

  abbrev pub WritesEnd : RoundState → Option (List ℕ) → Leader → Out → Held → List Entry → Type 0
  WritesEnd state content l out h m = Fits (written_by l content) m × PutsEnd state (written_by l content) (numbered l) out h m

  -- rule 31: a write is proposed
  pub writes_31 : (n : ℕ) (l : Leader) (content : Option (List ℕ)) (parent : Option Version) (out : Out) (h : Held) (m : List Entry) (ns : List Note) (state : RoundState) → HasCall l → l.task ≡ pendings.Write content parent → is_spent l.seq ≡ false
      → state_of (begun l.fact.views l.me) ≡ state → IsWhole h m → WritesEnd state content l out h m → Runs (suc (suc (suc (suc n)))) key_rules.Write l out h ns
  writes_31 n l content parent out h m ns state calls task fresh is whole ends =
      let k : Leader = record l { seq = l.seq + 1; task = pendings.Propose (written_by l content) parent (Some w.id) } in
      key_goes me fact strings P next (suc (suc (suc n))) key_rules.Write key l k out [] [] [] (thens.OnKeys key_rules.Put) (key ∷ []) h ns (row_31_proposes key w l (runs l calls) content parent task fresh) tt
      (subst (λ o. Runs (suc (suc (suc n))) key_rules.Put k o h ns) (sym (told_nothing out)) (puts_35 n k (written_by l content) parent out h m ns state calls refl refl is whole ends.0 ends.1))

  -- ## Commands on an absent register

  abbrev pub AppliesEnd : RoundState → Verdict → Leader → Out → Held → List Entry → Type 0
  AppliesEnd state (Write content) l out h m = (is_spent l.seq ≡ false) × WritesEnd state content l out h m
  AppliesEnd state (Answer reply) l out h m = Goes (replied (with_task pendings.Nothing l)) (told out [] (answer reply)) h

  -- rule 34: the command is applied
  pub applies_34 : (n : ℕ) (l : Leader) (verdict : Verdict) (out : Out) (h : Held) (m : List Entry) (ns : List Note) (state : RoundState) → HasCall l → l.task ≡ pendings.Apply None → verdict_of (outcome w.command Absent) ≡ verdict
      → state_of (begun l.fact.views l.me) ≡ state → IsWhole h m → AppliesEnd state verdict l out h m → Runs (suc (suc (suc (suc (suc n))))) key_rules.Apply l out h ns
  applies_34 n l (Write content) out h m ns state calls task is begins whole ends =
      let k : Leader = with_task (pendings.Write content (base key l)) l in
      key_goes me fact strings P next (suc (suc (suc (suc n)))) key_rules.Apply key l k out [] [] [] (thens.OnKeys key_rules.Write) (key ∷ []) h ns (row_34_writes key w l (runs l calls) content task is) tt
      (subst (λ o. Runs (suc (suc (suc (suc n)))) key_rules.Write k o h ns) (sym (told_nothing out)) (writes_31 n k content (base key l) out h m ns state calls refl ends.0 begins whole ends.1))
  applies_34 n l (Answer reply) out h m ns state calls task is begins whole ends =
      key_goes me fact strings P next (suc (suc (suc (suc n)))) key_rules.Apply key l (replied (with_task pendings.Nothing l)) out [] (answer reply) (Read w.id key (base key l) ∷ []) (thens.OnKeys key_rules.StartNextCall) (key ∷ []) h ns
      (row_34_reads key w l (runs l calls) reply task is) tt
      (rests_36 (suc (suc (suc n))) (with_task pendings.Nothing l) (told out [] (answer reply)) h (ns ++ Read w.id key (base key l) ∷ []) calls ends)

  -- ## Reads

  -- the leader after it found no entry of the key
  abbrev pub missing : Leader → Leader
  missing l = with_task (pendings.Apply None) (knows key knowns.Absent l)

  abbrev pub ReadsEnd : RoundState → RoundState → Verdict → Leader → Out → Held → List Entry → Type 0
  ReadsEnd heard state verdict l out h m = by_round heard (Goes l out h) (AppliesEnd state verdict (missing l) out h m)

  -- rule 30: the replies of a round of reading are evaluated; none of them has an entry
  pub reads_30 : (n : ℕ) (l : Leader) (round : ℕ) (votes : Round) (heard : RoundState) (verdict : Verdict) (out : Out) (h : Held) (m : List Entry) (ns : List Note) (state : RoundState) → HasCall l
      → (row_at key l.table.rows).stage ≡ stages.Reading round votes None → state_of votes ≡ heard → verdict_of (outcome w.command Absent) ≡ verdict → state_of (begun l.fact.views l.me) ≡ state → IsWhole h m
      → ReadsEnd heard state verdict l out h m → Runs (suc (suc (suc (suc (suc (suc n)))))) key_rules.EnoughReplies l out h ns
  reads_30 n l round votes Open verdict out h m ns state calls stage heard is begins whole ends =
      key_goes me fact strings P next (suc (suc (suc (suc (suc n))))) key_rules.EnoughReplies key l l out [] [] [] thens.Stay [] h ns (row_30_waits key w l (runs l calls) round votes stage heard) tt
      (rests_there me fact strings P next (suc (suc (suc (suc (suc n))))) l (told out [] []) h ns (subst (λ o. LandsFrom me fact strings P (λ x. next [] x o) l h ns) (sym (told_nothing out)) (ends ns)))
  reads_30 n l round votes Met verdict out h m ns state calls stage heard is begins whole ends =
      key_goes me fact strings P next (suc (suc (suc (suc (suc n))))) key_rules.EnoughReplies key l (missing l) out [] [] [] (thens.OnKeys key_rules.Apply) (key ∷ []) h ns (row_30_absent key w l (runs l calls) round votes stage heard) tt
      (subst (λ o. Runs (suc (suc (suc (suc (suc n))))) key_rules.Apply (missing l) o h ns) (sym (told_nothing out)) (applies_34 n (missing l) verdict out h m ns state calls refl is begins whole ends))
  reads_30 n l round votes AllAnswered verdict out h m ns state calls stage heard is begins whole ends =
      key_goes me fact strings P next (suc (suc (suc (suc (suc n))))) key_rules.EnoughReplies key l (missing l) out [] [] [] (thens.OnKeys key_rules.Apply) (key ∷ []) h ns (row_30_all key w l (runs l calls) round votes stage heard) tt
      (subst (λ o. Runs (suc (suc (suc (suc (suc n))))) key_rules.Apply (missing l) o h ns) (sym (told_nothing out)) (applies_34 n (missing l) verdict out h m ns state calls refl is begins whole ends))
