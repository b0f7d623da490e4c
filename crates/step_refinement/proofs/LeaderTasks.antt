-- The tasks that a leader is to run: what the first one finds, and that the others wait on keys that stay idle.
use Rattle.std.proofs.Common.{◌≡◌, ◌⊎◌, inl, inr, ℕ, false, List, [], ◌∷◌, ◌++◌, Option, refl, ap, ◌∙◌}
use Rattle.std.proofs.lemmas.Bool.{false≢true}
use Rattle.ens_base.specs.Lists.{same_bytes}
use Rattle.ens_base.specs.declared.epoch.Version.{Version}
use Rattle.ens_base.specs.declared.reply.Reply.{Reply}
use Rattle.stored_formats.specs.declared.object.Object.{Object}
use Rattle.call_table.specs.Rows.{row_at}
use Rattle.call_table.specs.declared.row.KeyRow.{KeyRow}
use Rattle.call_table.specs.declared.row.Stage.TheVariants as stages
use Rattle.peer_refinement.specs.WorldSpec.{Held}
use Rattle.leader_refinement.proofs.Answers.{run_applies}
use Rattle.leader_refinement.proofs.Checks.{run_checks}
use Rattle.leader_refinement.proofs.Gathering.{run_reads}
use Rattle.leader_refinement.proofs.Starts.{run_starts, run_next}
use Rattle.leader_refinement.specs.Follows.{GoesOn, IsReadyFor}
use Rattle.leader_refinement.specs.Seen.{owed_after}
use Rattle.leader_output.specs.Outs.{rests, and_own, and_note}
use Rattle.leader_output.specs.declared.out.LeadOut.{LeadOut}
use Rattle.leader_output.specs.declared.out.Own.TheVariants as owns
use Rattle.leader.specs.Rules.{lead_row}
use Rattle.leader_laws.specs.Steps.{Fits, IsReady, KeepsOthers, Runs}
use Rattle.leader.specs.declared.leader.Leader.{Leader}
use Rattle.leader.specs.declared.pending.Pending.{Pending}
use Rattle.leader.specs.declared.pending.Pending.TheVariants as pendings
use Rattle.leader_laws.proofs.Moves.{no_task}
use Rattle.peer_state.specs.Moves.{leading, with_leader}
use Rattle.peer_state.specs.declared.state.Leadership.{Leadership}
use Rattle.peer_state.specs.declared.state.Phase.{Phase}
use Rattle.peer_state.specs.declared.state.Phase.TheVariants as phases
use Rattle.peer_state.specs.declared.state.State.{State as PeerState}
use Rattle.register_model.specs.declared.note.Note.{Note}
use Rattle.step_plans.specs.Plans.{Out}
use Rattle.step_plans.specs.declared.tasks.Task.{Task}
use Rattle.step_plans.specs.declared.tasks.Task.TheVariants as tasks
use Rattle.phase_rows.specs.declared.phase.Seen.{Seen}
use Rattle.phase_rows.specs.declared.phase.Seen.TheVariants as seens
use Rattle.phase_rows.specs.declared.phase.Then.TheVariants.{OnKeys}
use Rattle.phase_rows.specs.declared.rules.KeyRule.{KeyRule}
use Rattle.phase_rows.specs.declared.rules.KeyRule.TheVariants as key_rules
use Rattle.phase_rows.specs.declared.rules.PhaseRule.{PhaseRule}
use Rattle.step_refinement.specs.Scenes.{Scene, now, Here, AtRest}
use Rattle.step_refinement.proofs.LeadersAtWork.{at_work, own_ballot}
use Rattle.step_refinement.proofs.LeaderOutcomes.{IsNamed, IsTame, IsDamage, IsLooking, tame_28, tame_30, tame_33, tame_34, tame_36}

-- ## Tasks that wait

-- these tasks are rules of phases
abbrev pub ArePhases : List Task → Type 0
ArePhases [] = Unit {0}
ArePhases (tasks.Phase n ∷ ts) = ArePhases ts
ArePhases (tasks.Remind ∷ ts) = ArePhases ts
ArePhases (other ∷ ts) = ⊥

-- rules on keys come before those of phases
abbrev pub AreInOrder : List Task → Type 0
AreInOrder [] = Unit {0}
AreInOrder (tasks.Phase n ∷ ts) = ArePhases ts
AreInOrder (tasks.Remind ∷ ts) = ArePhases ts
AreInOrder (other ∷ ts) = AreInOrder ts

-- none of these tasks is on the key
abbrev pub AreApart : List ℕ → List Task → Type 0
AreApart key [] = Unit {0}
AreApart key (tasks.Key n k ∷ ts) = (same_bytes key k ≡ false) × AreApart key ts
AreApart key (other ∷ ts) = AreApart key ts

-- the keys of these tasks are idle and different, and the next call of each is looked for; rules of phases
-- come after that
abbrev pub AreIdle : Leader → List Task → Type 0
AreIdle l [] = Unit {0}
AreIdle l (tasks.Key n k ∷ ts) = (n ≡ key_rules.StartNextCall) × (((row_at k l.table.rows).stage ≡ stages.Idle) × (AreApart k ts × AreIdle l ts))
AreIdle l (tasks.Phase n ∷ ts) = ArePhases ts
AreIdle l (tasks.Remind ∷ ts) = ArePhases ts
AreIdle l (tasks.Again n k seen ∷ ts) = ⊥

-- these tasks wait in a peer in this phase; one that does not lead does nothing on keys
abbrev pub Wait : Phase → List Task → Type 0
Wait (phases.Leading l) ts = AreIdle l.leader ts
Wait other ts = AreInOrder ts

-- rules of phases are in order
pub phases_in_order : (ts : List Task) → ArePhases ts → AreInOrder ts
phases_in_order [] are = tt
phases_in_order (tasks.Phase n ∷ ts) are = are
phases_in_order (tasks.Remind ∷ ts) are = are
phases_in_order (tasks.Key n k ∷ ts) are = absurd are
phases_in_order (tasks.Again n k seen ∷ ts) are = absurd are

-- they wait on idle keys
pub phases_idle : (l : Leader) (ts : List Task) → ArePhases ts → AreIdle l ts
phases_idle l [] are = tt
phases_idle l (tasks.Phase n ∷ ts) are = are
phases_idle l (tasks.Remind ∷ ts) are = are
phases_idle l (tasks.Key n k ∷ ts) are = absurd are
phases_idle l (tasks.Again n k seen ∷ ts) are = absurd are

-- they are apart from each key
pub phases_apart : (key : List ℕ) (ts : List Task) → ArePhases ts → AreApart key ts
phases_apart key [] are = tt
phases_apart key (tasks.Phase n ∷ ts) are = phases_apart key ts are
phases_apart key (tasks.Remind ∷ ts) are = phases_apart key ts are
phases_apart key (tasks.Key n k ∷ ts) are = absurd are
phases_apart key (tasks.Again n k seen ∷ ts) are = absurd are

-- they wait in each phase
pub phases_wait : (phase : Phase) (ts : List Task) → ArePhases ts → Wait phase ts
phases_wait (phases.Leading l) ts are = phases_idle l.leader ts are
phases_wait (phases.Following f) ts are = phases_in_order ts are
phases_wait (phases.Probing b) ts are = phases_in_order ts are
phases_wait (phases.Electing e) ts are = phases_in_order ts are

-- tasks that wait on idle keys are in order
pub idle_in_order : (l : Leader) (ts : List Task) → AreIdle l ts → AreInOrder ts
idle_in_order l [] idle = tt
idle_in_order l (tasks.Key n k ∷ ts) idle = idle_in_order l ts idle.1.1.1
idle_in_order l (tasks.Phase n ∷ ts) idle = idle
idle_in_order l (tasks.Remind ∷ ts) idle = idle
idle_in_order l (tasks.Again n k seen ∷ ts) idle = absurd idle

-- rules of phases come after rules of phases
pub phases_then : (ts us : List Task) → ArePhases ts → ArePhases us → ArePhases (ts ++ us)
phases_then [] us first second = second
phases_then (tasks.Phase n ∷ ts) us first second = phases_then ts us first second
phases_then (tasks.Remind ∷ ts) us first second = phases_then ts us first second
phases_then (tasks.Key n k ∷ ts) us first second = absurd first
phases_then (tasks.Again n k seen ∷ ts) us first second = absurd first

-- after a rule of a phase only rules of phases wait
pub wait_after_phase : (rule : PhaseRule) (phase : Phase) (ts : List Task) → Wait phase (tasks.Phase rule ∷ ts) → ArePhases ts
wait_after_phase rule (phases.Leading l) ts wait = wait
wait_after_phase rule (phases.Following f) ts wait = wait
wait_after_phase rule (phases.Probing b) ts wait = wait
wait_after_phase rule (phases.Electing e) ts wait = wait

-- so after a reminder
pub wait_after_reminder : (phase : Phase) (ts : List Task) → Wait phase (tasks.Remind ∷ ts) → ArePhases ts
wait_after_reminder (phases.Leading l) ts wait = wait
wait_after_reminder (phases.Following f) ts wait = wait
wait_after_reminder (phases.Probing b) ts wait = wait
wait_after_reminder (phases.Electing e) ts wait = wait

-- idle keys stay idle through a rule on another key
pub idle_kept : (key : List ℕ) (l m : Leader) (ts : List Task) → KeepsOthers key l.table m.table → AreApart key ts → AreIdle l ts → AreIdle m ts
idle_kept key l m [] keeps apart idle = tt
idle_kept key l m (tasks.Key n k ∷ ts) keeps apart idle = (idle.0, (ap (λ (row : KeyRow). row.stage) (keeps k apart.0) ∙ idle.1.0, (idle.1.1.0, idle_kept key l m ts keeps apart.1 idle.1.1.1)))
idle_kept key l m (tasks.Phase n ∷ ts) keeps apart idle = idle
idle_kept key l m (tasks.Remind ∷ ts) keeps apart idle = idle
idle_kept key l m (tasks.Again n k seen ∷ ts) keeps apart idle = absurd idle

-- ## What a leader finds that is ready for a rule

-- the task at hand for rule 31 is a write
pub write_for : (key : List ℕ) (l : Leader) (task : Pending) → Fits key_rules.Write key l task → (content : Option (List ℕ)) × (parent : Option Version) × ((task ≡ pendings.Write content parent) × Runs key l)
write_for key l pendings.Nothing fits = absurd (false≢true fits)
write_for key l (pendings.Write content parent) fits = (content, parent, (refl, fits.1))
write_for key l (pendings.Rewrite o) fits = let is : key_rules.Write ≡ key_rules.Rewrite = fits.0 in absurd cc
write_for key l (pendings.Check reply) fits = let is : key_rules.Write ≡ key_rules.Check = fits.0 in absurd cc
write_for key l (pendings.Apply current) fits = let is : key_rules.Write ≡ key_rules.Apply = fits.0 in absurd cc
write_for key l (pendings.Propose o parent call) fits = let is : key_rules.Write ≡ key_rules.Put = fits.0 in absurd cc

-- the task at hand for rule 32 is a rewrite
pub rewrite_for : (key : List ℕ) (l : Leader) (task : Pending) → Fits key_rules.Rewrite key l task → (o : Object) × (task ≡ pendings.Rewrite o)
rewrite_for key l pendings.Nothing fits = absurd (false≢true fits)
rewrite_for key l (pendings.Write content parent) fits = let is : key_rules.Rewrite ≡ key_rules.Write = fits.0 in absurd cc
rewrite_for key l (pendings.Rewrite o) fits = (o, refl)
rewrite_for key l (pendings.Check reply) fits = let is : key_rules.Rewrite ≡ key_rules.Check = fits.0 in absurd cc
rewrite_for key l (pendings.Apply current) fits = let is : key_rules.Rewrite ≡ key_rules.Apply = fits.0 in absurd cc
rewrite_for key l (pendings.Propose o parent call) fits = let is : key_rules.Rewrite ≡ key_rules.Put = fits.0 in absurd cc

check_for : (key : List ℕ) (l : Leader) (task : Pending) → Fits key_rules.Check key l task → (reply : Reply) × (task ≡ pendings.Check reply)
check_for key l pendings.Nothing fits = absurd (false≢true fits)
check_for key l (pendings.Write content parent) fits = let is : key_rules.Check ≡ key_rules.Write = fits.0 in absurd cc
check_for key l (pendings.Rewrite o) fits = let is : key_rules.Check ≡ key_rules.Rewrite = fits.0 in absurd cc
check_for key l (pendings.Check reply) fits = (reply, refl)
check_for key l (pendings.Apply current) fits = let is : key_rules.Check ≡ key_rules.Apply = fits.0 in absurd cc
check_for key l (pendings.Propose o parent call) fits = let is : key_rules.Check ≡ key_rules.Put = fits.0 in absurd cc

apply_for : (key : List ℕ) (l : Leader) (task : Pending) → Fits key_rules.Apply key l task → (current : Option Object) × (task ≡ pendings.Apply current)
apply_for key l pendings.Nothing fits = absurd (false≢true fits)
apply_for key l (pendings.Write content parent) fits = let is : key_rules.Apply ≡ key_rules.Write = fits.0 in absurd cc
apply_for key l (pendings.Rewrite o) fits = let is : key_rules.Apply ≡ key_rules.Rewrite = fits.0 in absurd cc
apply_for key l (pendings.Check reply) fits = let is : key_rules.Apply ≡ key_rules.Check = fits.0 in absurd cc
apply_for key l (pendings.Apply current) fits = (current, refl)
apply_for key l (pendings.Propose o parent call) fits = let is : key_rules.Apply ≡ key_rules.Put = fits.0 in absurd cc

-- ## The task at hand

-- rule 28 asks the backend, and stays ready to start the call
pub record IsFetching (n : KeyRule) (key : List ℕ) (l : Leader) (r : Leader × LeadOut) : Type 0 where
  pub rule : n ≡ key_rules.StartCall
  pub same : r ≡ (l, and_own (owns.Fetch key) rests)
  pub free : l.task ≡ pendings.Nothing
  pub idle : (row_at key l.table.rows).stage ≡ stages.Idle

-- rule 35 notes a proposal and puts its object
pub record IsPutting (n : KeyRule) (r : Leader × LeadOut) : Type 0 where
  pub rule : n ≡ key_rules.Put
  pub object : Object
  pub note : Note
  pub same : r.1 ≡ and_own (owns.Put object) (and_note note rests)

-- what the answer of a rule asks for, or that its peer found damage
abbrev pub Way : KeyRule → List ℕ → Leader → Leader × LeadOut → Type 0
Way n key l r = IsTame r.1 ⊎ (IsFetching n key l r ⊎ (IsPutting n r ⊎ IsDamage r))

-- a rule that was shown damage asks for nothing
pub broken_way : (rule : KeyRule) (key : List ℕ) (l : Leader) (r : Leader × LeadOut) → IsTame r.1 ⊎ IsDamage r → Way rule key l r
broken_way rule key l r (inl tame) = inl tame
broken_way rule key l r (inr damage) = inr (inr (inr damage))

-- such a rule goes one of these ways on an idle key
pub looking_way : (key : List ℕ) (l : Leader) (r : Leader × LeadOut) → IsLooking key l r → l.task ≡ pendings.Nothing → (row_at key l.table.rows).stage ≡ stages.Idle → Way key_rules.StartCall key l r
looking_way key l r (inl tame) free idle = inl tame
looking_way key l r (inr same) free idle = inr (inl (record { rule = refl; same = same; free = free; idle = idle }))

-- a rule takes a version that is to be written or rewritten to the next number, or asks for the entry of a key
-- that is read
pub record OpensRead (n : KeyRule) (key : List ℕ) (l : Leader) : Type 0 where
  pub rule : n ≡ key_rules.Read
  pub free : l.task ≡ pendings.Nothing
  pub idle : (row_at key l.table.rows).stage ≡ stages.Idle

-- rule 31 begins to write a version
pub record OpensWrite (n : KeyRule) (key : List ℕ) (l : Leader) : Type 0 where
  pub rule : n ≡ key_rules.Write
  pub content : Option (List ℕ)
  pub parent : Option Version
  pub task : l.task ≡ pendings.Write content parent
  pub runs : Runs key l

-- rule 32 begins to rewrite an object
pub record OpensRewrite (n : KeyRule) (l : Leader) : Type 0 where
  pub rule : n ≡ key_rules.Rewrite
  pub object : Object
  pub task : l.task ≡ pendings.Rewrite object

-- one of these rules begins
abbrev pub OpensAs : KeyRule → List ℕ → Leader → Type 0
OpensAs n key l = OpensRead n key l ⊎ (OpensWrite n key l ⊎ OpensRewrite n l)

module _ (c : Scene) where
  open c use {view, peer as p}

  -- The rule is to run on the key, and goes on from the leader with which the peer was in agreement. The leader now
  -- is this one, or the rule before has only noted what comes next.
  pub record Half (rule : KeyRule) (key : List ℕ) (seen : Seen) (ts : List Task) (x : PeerState) (h : Held) (out : Out) (notes : List Note) : Type 0 where
    pub before : Leadership
    pub leader : Leader
    pub is : x.phase ≡ phases.Leading (with_leader leader before)
    pub here : Here c key (leading before x) h out notes
    pub goes : GoesOn here.reached.ghosts (now c here.reached) key (owed_after [] out.answers) before.leader (lead_row rule key seen leader)
    pub way : Way rule key before.leader (lead_row rule key seen leader)
    pub apart : AreApart key ts
    pub idle : AreIdle leader ts

  -- The rule is to run on the key, and is the first half of what the leader goes on with.
  pub record Opens (rule : KeyRule) (key : List ℕ) (ts : List Task) (x : PeerState) (h : Held) (out : Out) (notes : List Note) : Type 0 where
    pub now_leads : Leadership
    pub is : x.phase ≡ phases.Leading now_leads
    pub here : Here c key (leading now_leads x) h out notes
    pub way : OpensAs rule key now_leads.leader
    pub apart : AreApart key ts
    pub idle : AreIdle now_leads.leader ts

  -- the rule is to run on the key in one of these ways
  abbrev pub KeyFits : KeyRule → List ℕ → List Task → PeerState → Held → Out → List Note → Type 0
  KeyFits n key ts x h out notes = Half n key seens.Nothing ts x h out notes ⊎ Opens n key ts x h out notes

  -- the first of the tasks is at hand, and the others wait
  abbrev pub AtHand : List Task → PeerState → Held → Out → List Note → Type 0
  AtHand [] x h out notes = ⊥
  AtHand (tasks.Phase n ∷ ts) x h out notes = ⊥
  AtHand (tasks.Remind ∷ ts) x h out notes = ⊥
  AtHand (tasks.Key n key ∷ ts) x h out notes = KeyFits n key ts x h out notes
  AtHand (tasks.Again n key seen ∷ ts) x h out notes = Half n key seen ts x h out notes

  -- all tasks wait, or the first one is at hand
  abbrev pub TasksFit : List Task → List ℕ → PeerState → Held → Out → List Note → Type 0
  TasksFit ts key x h out notes = (AtRest c key x h out notes × Wait x.phase ts) ⊎ AtHand ts x h out notes

  -- no task is at hand, and rules of phases alone come next
  abbrev pub PhasesNext : List Task → List ℕ → PeerState → Held → Out → List Note → Type 0
  PhasesNext ts key x h out notes = ArePhases ts × AtRest c key x h out notes

  -- a rule that is named finds the leader ready
  module _ {key : List ℕ} {h : Held} {out : Out} {notes : List Note} (l : Leadership) (x : PeerState) (here : Here c key (leading l x) h out notes) (ts : List Task) (apart : AreApart key ts) (idle : AreIdle l.leader ts) where
    half : (rule : KeyRule) (seen : Seen) → GoesOn here.reached.ghosts (now c here.reached) key (owed_after [] out.answers) l.leader (lead_row rule key seen l.leader) → Way rule key l.leader (lead_row rule key seen l.leader) → Half rule key seen ts (leading l x) h out notes
    half rule seen goes way = record { before = l; leader = l.leader; is = refl; here = here; goes = goes; way = way; apart = apart; idle = idle }

    -- rule 28 may run on an idle key
    pub start_fits : l.leader.task ≡ pendings.Nothing → (row_at key l.leader.table.rows).stage ≡ stages.Idle → Half key_rules.StartCall key seens.Nothing ts (leading l x) h out notes
    start_fits free at_idle = half key_rules.StartCall seens.Nothing (run_starts view here.reached.steps here.reached.run here.reached.ghosts key (owed_after [] out.answers) l.leader seens.Nothing (at_work c l x here) free at_idle tt)
        (looking_way key l.leader (lead_row key_rules.StartCall key seens.Nothing l.leader) (tame_28 key seens.Nothing l.leader) free at_idle)

    -- so may rule 36
    pub next_fits : l.leader.task ≡ pendings.Nothing → (row_at key l.leader.table.rows).stage ≡ stages.Idle → Half key_rules.StartNextCall key seens.Nothing ts (leading l x) h out notes
    next_fits free at_idle = half key_rules.StartNextCall seens.Nothing (run_next view here.reached.steps here.reached.run here.reached.ghosts key (owed_after [] out.answers) l.leader (at_work c l x here) free at_idle) (inl (tame_36 key l.leader))

    evaluates : l.leader.task ≡ pendings.Nothing → Half key_rules.EnoughReplies key seens.Nothing ts (leading l x) h out notes
    evaluates free = half key_rules.EnoughReplies seens.Nothing (run_reads view here.reached.steps here.reached.run here.reached.ghosts key (owed_after [] out.answers) l.leader (at_work c l x here) free) (inl (tame_30 key l.leader))

    checks : (reply : Reply) → l.leader.task ≡ pendings.Check reply → Half key_rules.Check key seens.Nothing ts (leading l x) h out notes
    checks reply is = half key_rules.Check seens.Nothing (run_checks view here.reached.steps here.reached.run here.reached.ghosts key (owed_after [] out.answers) l.leader reply (at_work c l x here) is (own_ballot c l x here)) (inl (tame_33 key l.leader))

    applies : (current : Option Object) → l.leader.task ≡ pendings.Apply current → Half key_rules.Apply key seens.Nothing ts (leading l x) h out notes
    applies current is = half key_rules.Apply seens.Nothing (run_applies view here.reached.steps here.reached.run here.reached.ghosts key (owed_after [] out.answers) l.leader current (at_work c l x here) is) (inl (tame_34 key l.leader))

    opens : (rule : KeyRule) → OpensAs rule key l.leader → Opens rule key ts (leading l x) h out notes
    opens rule way = record { now_leads = l; is = refl; here = here; way = way; apart = apart; idle = idle }

    -- whichever rule is named
    pub named_fits : (n : KeyRule) → IsNamed n → IsReady n key l.leader → IsReadyFor (OnKeys n) key l.leader → KeyFits n key ts (leading l x) h out notes
    named_fits key_rules.StartCall named ready at_idle = inl (start_fits (no_task key_rules.StartCall key l.leader l.leader.task refl ready) (at_idle refl))
    named_fits key_rules.Read named ready at_idle = inr (opens key_rules.Read (inl (record { rule = refl; free = no_task key_rules.Read key l.leader l.leader.task refl ready; idle = at_idle refl })))
    named_fits key_rules.EnoughReplies named ready at_idle = inl (evaluates (no_task key_rules.EnoughReplies key l.leader l.leader.task refl ready))
    named_fits key_rules.Write named ready at_idle =
        let write = write_for key l.leader l.leader.task ready in inr (opens key_rules.Write (inr (inl (record { rule = refl; content = write.0; parent = write.1; task = write.2.0; runs = write.2.1 }))))
    named_fits key_rules.Rewrite named ready at_idle =
        let rewrite = rewrite_for key l.leader l.leader.task ready in inr (opens key_rules.Rewrite (inr (inr (record { rule = refl; object = rewrite.0; task = rewrite.1 }))))
    named_fits key_rules.Check named ready at_idle = let check = check_for key l.leader l.leader.task ready in inl (checks check.0 check.1)
    named_fits key_rules.Apply named ready at_idle = let apply = apply_for key l.leader l.leader.task ready in inl (applies apply.0 apply.1)
    named_fits key_rules.Put named ready at_idle = absurd named
    named_fits key_rules.StartNextCall named ready at_idle = inl (next_fits (no_task key_rules.StartNextCall key l.leader l.leader.task refl ready) (at_idle refl))
