-- The rules by which a leader reads the key of its only call, and starts the call.
use Rattle.std.proofs.Common.{◌≡◌, ◌+◌, refl, ap, ◌∙◌, ℕ, suc, false, List, [], ◌∷◌, Option, None, Some, Ok}
use Rattle.call_table.specs.Calls.{running}
use Rattle.call_table.specs.declared.row.Stage.TheVariants as stages
use Rattle.call_table.specs.declared.waiting.Waiting.{Waiting}
use Rattle.ens_base.specs.declared.entry.Entry.{Entry}
use Rattle.peer_refinement.specs.WorldSpec.{answered, Held}
use Rattle.object_commands.specs.Commands.{verdict_of}
use Rattle.object_commands.specs.declared.verdict.Verdict.{Verdict}
use Rattle.leader_output.specs.Outs.{leads_on}
use Rattle.leader_output.specs.Sends.{is_other, sent_up_to, tells_all}
use Rattle.leader_output.specs.declared.out.Outgoing.{Outgoing}
use Rattle.leader_output.specs.declared.out.Own.TheVariants as owns
use Rattle.peer_refinement.proofs.PeerSpec.{stage_here}
use Rattle.leader.specs.Leaders.{stands, is_spent}
use Rattle.leader.specs.Rounds.{row_29}
use Rattle.leader.specs.declared.leader.Leader.{Leader}
use Rattle.peer_refinement.specs.PeerSpec.{driven, looked_at}
use Rattle.peer_state.specs.declared.state.State.{State}
use Rattle.stored_formats.specs.declared.fact.Fact.{Fact}
use Rattle.quorums.specs.Rounds.{state_of, begun}
use Rattle.quorums.specs.declared.round.RoundState.{RoundState}
use Rattle.register_model.specs.Registers.{outcome}
use Rattle.register_model.specs.declared.note.Note.{Note}
use Rattle.register_model.specs.declared.register.Register.TheVariants.{Absent}
use Rattle.step_plans.specs.Calls.{Find}
use Rattle.step_plans.specs.Plans.{Out, Rest, asked}
use Rattle.step_plans.specs.declared.tasks.Task.{Task}
use Rattle.step_plans.specs.declared.tasks.Task.TheVariants as tasks
use Rattle.step_plans.specs.declared.walked.Walked.TheVariants.{Reached}
use Rattle.synctree.specs.Entries.{lookup}
use Rattle.peer_refinement.specs.Trees.{AreFree}
use Rattle.peer_refinement.specs.Whole.{IsWhole}
use Rattle.wire_frames.specs.declared.message.Message.TheVariants as messages
use Rattle.phase_rows.specs.declared.phase.Seen.TheVariants as seens
use Rattle.phase_rows.specs.declared.phase.Then.TheVariants as thens
use Rattle.phase_rows.specs.declared.rules.KeyRule.TheVariants as key_rules
use Rattle.calm_step_laws.proofs.KeyRows.{row_29_begins}
use Rattle.calm_step_laws.proofs.Lands.{Aim, lands_ask}
use Rattle.calm_step_laws.proofs.Leads.{leads, told, key_asks, again_goes}
use Rattle.calm_step_laws.proofs.Serving.{Runs, HasCall, runs, ReadsEnd, reads_30}
use Rattle.calm_step_laws.proofs.TreeCalls.{finds, keeps}

-- rule 29 with what the own tree has, which is nothing
row_29_held : (key : List ℕ) (w : Waiting) (l : Leader) → running key l.table.calls ≡ Some w
    → row_29 key (seens.Held None None) l ≡ (stands key (stages.Reading l.round (begun l.fact.views l.me) None) l, tells_all l.me l.fact.views (messages.Get l.fact.epoch l.round key) (leads_on key_rules.EnoughReplies key))
row_29_held key w l going = rw going refl

module _ (me : ℕ) (fact : Fact) (strings : List (List ℕ)) (P : Aim) (free : AreFree strings) (next : Rest State (List Task)) (key : List ℕ) (w : Waiting) (mine : running key (w ∷ []) ≡ Some w) where
  -- ## A round of reading

  abbrev pub asks_get : Leader → List Outgoing
  asks_get l = sent_up_to (is_other l.me l.fact.views) (messages.Get l.fact.epoch (l.round + 1) key) 31

  abbrev pub reading : Leader → Leader
  reading l = stands key (stages.Reading (l.round + 1) (begun l.fact.views l.me) None) (record l { round = l.round + 1 })

  -- rule 29: the own tree has no entry, and the other members are asked
  pub reads_29 : (n : ℕ) (l : Leader) (verdict : Verdict) (out : Out) (h : Held) (m : List Entry) (ns : List Note) (state : RoundState) → HasCall me fact strings P free next key w mine l → is_spent l.round ≡ false
      → verdict_of (outcome w.command Absent) ≡ verdict → state_of (begun l.fact.views l.me) ≡ state → IsWhole h m → lookup key m ≡ None
      → ReadsEnd me fact strings P free next key w mine state state verdict (reading l) (told out (asks_get l) []) (answered (Find key) h).held m
      → Runs me fact strings P free next key w mine (suc (suc (suc (suc (suc (suc (suc (suc n)))))))) key_rules.Read l out h ns
  unfolding asked
  reads_29 n l verdict out h m ns state calls fresh is begins whole absent ends =
      let k : Leader = record l { round = l.round + 1 } in
      let g : Held = (answered (Find key) h).held in
      let n7 : ℕ = suc (suc (suc (suc (suc (suc n))))) in
      key_asks me fact strings P next (suc n7) key_rules.Read key l k out [] (owns.Look key) h ns (row_29_begins key w l (runs me fact strings P free next key w mine l calls) fresh)
      (λ keep. lands_ask strings P (Find key) (λ found. looked_at key found (leads fact k keep) out (λ seen y o. driven me (suc n7) (tasks.Again key_rules.Read key seen ∷ []) y o next)) h ns (λ among. record {
        answer = Reached None;
        is = finds h m key whole ∙ ap (λ (e : Option Entry). Ok (Reached e)) absent;
        goes = again_goes me fact strings P next n7 key_rules.Read key (seens.Held None None) k (reading l) out (asks_get l) [] [] (thens.OnKeys key_rules.EnoughReplies) (key ∷ []) g ns (row_29_held key w k (runs me fact strings P free next key w mine l calls)) tt
            (reads_30 me fact strings P free next key w mine n (reading l) (l.round + 1) (begun l.fact.views l.me) state verdict (told out (asks_get l) []) g m ns state calls (ap (λ s. s) (stage_here key (stages.Reading (l.round + 1) (begun l.fact.views l.me) None) k.table.rows)) begins is begins
            (keeps (Find key) h m tt whole) ends) keep;
      }))
