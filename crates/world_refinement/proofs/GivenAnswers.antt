-- The answers that a peer owes at the end of its step are given, one after another.
use Rattle.std.proofs.Common.{◌≡◌, ◌<◌, ◌^◌, ℕ, suc, true, false, List, [], ◌∷◌, ◌++◌, append_assoc, append-nil, refl, sym, ap, ◌∙◌, subst}
use Rattle.protocol_laws.specs.Ledger.{put}
use Rattle.protocol_laws.specs.Objects.{Objects}
use Rattle.protocol_laws.specs.Protocol.{State, Step, Answer, happens, MayCome, state_after}
use Rattle.phase_rules.specs.declared.election.Election.TheVariants.{Preparing, Starting}
use Rattle.step_refinement.specs.ElectionRefinement.{IsOrderly}
use Rattle.protocol_laws.proofs.Later.{stay_step}
use Rattle.role_laws.proofs.Roles.{run_roles}
use Rattle.role_laws.specs.Roles.{Role, Sent, RolesHold, with_owed, owed_by}
use Rattle.role_laws.specs.Tables.{Ghosts, Owed}
use Rattle.step_refinement.specs.LeaderRefinement.{owed_after}
use Rattle.leader_output.specs.declared.out.AnswerOut.{AnswerOut}
use Rattle.peer_state.specs.declared.state.Phase.{Phase}
use Rattle.peer_state.specs.declared.state.Phase.TheVariants as phases
use Rattle.register_model.specs.declared.note.Note.{Note}
use Rattle.role_laws.specs.Facts.{Lines}
use Rattle.protocol_laws.proofs.Maps.{put_here, put_other, put_then}
use Rattle.wire_frames.specs.declared.frame.Frame.{Frame}
use Rattle.world_spec.specs.Nodes.{Node}
use Rattle.world_refinement.proofs.BookSteps.{with_answers}
use Rattle.step_refinement.proofs.LaterStates.{acks_stay}
use Rattle.world_refinement.proofs.LaterWorlds.{same_stays, node_fits, messages_same}
use Rattle.step_refinement.specs.Peers.{AsksFit}
use Rattle.tree_node.specs.declared.version.TreeVersion.{TreeVersion}
use Rattle.step_refinement.specs.Roles.{role_in}
use Rattle.world_refinement.specs.Worlds.{PartsHold}
use Rattle.step_refinement.proofs.Stretches.{roles_same}

-- ## A step of the book alone

-- the parts of a world hold after a step that is of the book alone, and notes nothing
pub parts_same : (version : TreeVersion) (first : ℕ) (lines : Lines) (view : List ℕ) (strings : List (List ℕ)) (steps : List Step) (e : Step) (nodes : List Node) (sent : List Frame) (hashed : List (List ℕ)) (notes : List Note) → MayCome (state_after view steps) e
    → (happens (state_after view steps) e).objects ≡ (state_after view steps).objects → AsksFit (happens (state_after view steps) e) → (happens (state_after view steps) e).book.notes ≡ (state_after view steps).book.notes
    → PartsHold version first lines view strings steps nodes sent hashed notes → PartsHold version first lines view strings (e ∷ steps) nodes sent hashed notes
parts_same version first lines view strings steps e nodes sent hashed notes may same asked noted a = record {
  run = (a.run, may);
  orderly = subst (λ (o : Objects). IsOrderly o.ledger) (sym same) a.orderly;
  acks = acks_stay s t strings (ap (λ (o : Objects). o.acked) same) (stay_step s e may) a.acks;
  asked = asked;
  epochs = subst (λ (o : Objects). (d : ℕ) → o.ledger.elected d ≡ true → d < 2 ^ 96) (sym same) a.epochs;
  firm = subst (λ (o : Objects). (q : ℕ) → lines.firm q ≡ true → o.reverted q ≡ false) (sym same) a.firm;
  nodes_fit = λ place node at. node_fits version lines strings hashed hashed (suc place) s t (same_stays (suc place) s t same (stay_step s e may)) (λ x i. i) node (a.nodes_fit place node at);
  messages = messages_same version first lines strings s t sent (ap (λ (o : Objects). o.ledger) same) (stay_step s e may) a.messages;
  noted = noted ∙ a.noted;
}
  where
    s : State
    s = state_after view steps

    t : State
    t = happens s e

-- ## Answers

-- what is owed for these answers
abbrev pub owes : List AnswerOut → List Owed
owes [] = []
owes (a ∷ answers) = record { call = a.id; reply = a.reply } ∷ owes answers

owed_from : (owed : List Owed) (answers : List AnswerOut) → owed_after owed answers ≡ owed ++ owes answers
owed_from owed [] = sym (append-nil owed)
owed_from owed (a ∷ answers) = owed_from (owed ++ record { call = a.id; reply = a.reply } ∷ []) answers ∙ append_assoc owed (record { call = a.id; reply = a.reply } ∷ []) (owes answers)

-- all answers of a step are owed at its end
pub owed_all : (answers : List AnswerOut) → owed_after [] answers ≡ owes answers
owed_all answers = owed_from [] answers

role_owes : (key : List ℕ) (phase : Phase) (owed : List Owed) → owed_by (role_in key phase owed) ≡ owed
role_owes key (phases.Leading l) owed = refl
role_owes key (phases.Electing (Preparing base promises asked age)) owed = refl
role_owes key (phases.Electing (Starting new accepts age)) owed = refl
role_owes key (phases.Following f) owed = refl
role_owes key (phases.Probing b) owed = refl

role_with : (key : List ℕ) (phase : Phase) (owed less : List Owed) → with_owed (role_in key phase owed) less ≡ role_in key phase less
role_with key (phases.Leading l) owed less = refl
role_with key (phases.Electing (Preparing base promises asked age)) owed less = refl
role_with key (phases.Electing (Starting new accepts age)) owed less = refl
role_with key (phases.Following f) owed less = refl
role_with key (phases.Probing b) owed less = refl

module _ (version : TreeVersion) (first : ℕ) (lines : Lines) (view : List ℕ) (strings : List (List ℕ)) (nodes : List Node) (sent : List Frame) (hashed : List (List ℕ)) (made : List Note) (g : Ghosts) (roles : ℕ → Role) (said : List Sent) (p : ℕ) (phase : Phase) where
  -- all answers that peer p in this phase owed in state s were given
  pub record AllGiven (s : State) (answers : List AnswerOut) : Type 0 where
    pub steps : List Step
    pub parts : PartsHold version first lines view strings steps nodes sent hashed made
    pub hold : RolesHold g (state_after view steps) (put roles p (role_in [] phase [])) said
    pub given : (state_after view steps).book.answers ≡ with_answers s.book.now answers s.book.answers
    pub calls : (state_after view steps).book.calls ≡ s.book.calls
    pub notes : (state_after view steps).book.notes ≡ s.book.notes
    pub now : (state_after view steps).book.now ≡ s.book.now

  -- all of them are given, one after another
  pub all_given : (steps : List Step) (answers : List AnswerOut) → PartsHold version first lines view strings steps nodes sent hashed made → RolesHold g (state_after view steps) (put roles p (role_in [] phase (owes answers))) said → AllGiven (state_after view steps) answers
  all_given steps [] parts hold = record { steps = steps; parts = parts; hold = hold; given = refl; calls = refl; notes = refl; now = refl }
  all_given steps (a ∷ answers) parts hold =
      let rest = all_given (step ∷ steps) answers (parts_same version first lines view strings steps step nodes sent hashed made give.0 refl parts.asked refl parts) next in
      record { steps = rest.steps; parts = rest.parts; hold = rest.hold; given = rest.given; calls = rest.calls; notes = rest.notes; now = rest.now }
    where
      s : State
      s = state_after view steps

      step : Step
      step = Answer a.id a.reply

      before : ℕ → Role
      before = put roles p (role_in [] phase (owes (a ∷ answers)))

      role : before p ≡ role_in [] phase (owes (a ∷ answers))
      role = put_here roles p (role_in [] phase (owes (a ∷ answers)))

      give : MayCome s step × RolesHold g (happens s step) (put before p (with_owed (before p) (owes answers))) said
      give = ((run_roles view steps parts.run).peer g before said p hold).gives (record { call = a.id; reply = a.reply }) (owes answers) (ap owed_by role ∙ role_owes [] phase (owes (a ∷ answers)))

      same : (q : ℕ) → put before p (with_owed (before p) (owes answers)) q ≡ put roles p (role_in [] phase (owes answers)) q
      same = put_then before p (with_owed (before p) (owes answers)) (λ q r. r ≡ put roles p (role_in [] phase (owes answers)) q)
          (ap (λ r. with_owed r (owes answers)) role ∙ role_with [] phase (owes (a ∷ answers)) (owes answers) ∙ sym (put_here roles p (role_in [] phase (owes answers))))
          (λ q other. put_other roles p (role_in [] phase (owes (a ∷ answers))) q other ∙ sym (put_other roles p (role_in [] phase (owes answers)) q other))

      next : RolesHold g (happens s step) (put roles p (role_in [] phase (owes answers))) said
      next = roles_same g (happens s step) (put before p (with_owed (before p) (owes answers))) (put roles p (role_in [] phase (owes answers))) said said same (λ m at. at) give.1
