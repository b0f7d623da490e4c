-- What stays over several stretches of a run: roles that are replaced, answers that are owed, entries, and
-- what the steps of a peer leave to the others.
use Rattle.std.proofs.Common.{◌≡◌, ℕ, List, [], ◌∷◌, ◌++◌, refl, subst, ◌∙◌}
use Rattle.protocol_laws.specs.Ledger.{put}
use Rattle.protocol_laws.specs.Protocol.{State}
use Rattle.election_refinement.proofs.Keeps.{keeps_none, keeps_both}
use Rattle.protocol_laws.proofs.Later.{stay_same, stay_then as stays_then}
use Rattle.role_laws.specs.Roles.{Role, Sent, RoleHolds, RolesHold}
use Rattle.role_laws.specs.Tables.{Ghosts, Owed}
use Rattle.leader_refinement.specs.Seen.{owed_after}
use Rattle.leader_output.specs.declared.out.AnswerOut.{AnswerOut}
use Rattle.protocol_laws.proofs.Maps.{put_here, put_other, put_then}
use Rattle.step_refinement.specs.Scenes.{Elsewhere}
use Rattle.ens_base.specs.Lists.{◌∈◌}

-- ## Roles

-- only the role of each peer matters, and which things were said
pub roles_same : (g : Ghosts) (s : State) (roles others : ℕ → Role) (sent more : List Sent) → ((q : ℕ) → roles q ≡ others q) → ((m : Sent) → m ∈ more → m ∈ sent) → RolesHold g s roles sent → RolesHold g s others more
roles_same g s roles others sent more same among a = record {
  turns = a.turns;
  roles_hold = λ q. subst (RoleHolds g s q) (same q) (a.roles_hold q);
  sent_hold = λ m at. a.sent_hold m (among m at);
}

module _ (g : Ghosts) (s : State) (p : ℕ) (sent : List Sent) (roles : ℕ → Role) where
  -- the role that the peer has holds
  pub role_here : (role : Role) → RolesHold g s (put roles p role) sent → RoleHolds g s p role
  role_here role a = subst (RoleHolds g s p) (put_here roles p role) (a.roles_hold p)

  -- the peer takes another role that holds
  pub role_replaced : (old new : Role) → RolesHold g s (put roles p old) sent → RoleHolds g s p new → RolesHold g s (put roles p new) sent
  role_replaced old new a holds = record {
    turns = a.turns;
    roles_hold = put_then roles p new (RoleHolds g s) holds (λ q other. subst (RoleHolds g s q) (put_other roles p old q other) (a.roles_hold q));
    sent_hold = a.sent_hold;
  }

  -- of two roles that the peer took one after the other only the later one is left
  pub role_once : (old new : Role) → RolesHold g s (put (put roles p old) p new) sent → RolesHold g s (put roles p new) sent
  role_once old new a = record {
    turns = a.turns;
    roles_hold = put_then roles p new (RoleHolds g s) (subst (RoleHolds g s p) (put_here (put roles p old) p new) (a.roles_hold p))
        (λ q other. subst (RoleHolds g s q) (put_other (put roles p old) p new q other ∙ put_other roles p old q other) (a.roles_hold q));
    sent_hold = a.sent_hold;
  }

-- ## Answers

-- answers are owed after two lists of them as after one and then the other
pub owed_both : (owed : List Owed) (a b : List AnswerOut) → owed_after owed (a ++ b) ≡ owed_after (owed_after owed a) b
owed_both owed [] b = refl
owed_both owed (x ∷ a) b = owed_both (owed ++ record { call = x.id; reply = x.reply } ∷ []) a b

-- ## Stretches of a run

-- no step was taken
pub elsewhere_none : (p : ℕ) (s : State) → Elsewhere p s s
elsewhere_none p s = record {
  ledger = keeps_none s.objects.ledger p;
  map = λ q other. refl;
  visible = λ q other. refl;
  trusted = λ q other. refl;
  reverted = λ q. refl;
  stays = stay_same s;
  calls = refl;
  called = refl;
  answers = refl;
  answered = refl;
  now = refl;
}

-- the steps of one peer after its steps
pub elsewhere_then : (p : ℕ) (s t u : State) → Elsewhere p s t → Elsewhere p t u → Elsewhere p s u
elsewhere_then p s t u a b = record {
  ledger = keeps_both s.objects.ledger t.objects.ledger u.objects.ledger p a.ledger b.ledger;
  map = λ q other. b.map q other ∙ a.map q other;
  visible = λ q other. b.visible q other ∙ a.visible q other;
  trusted = λ q other. b.trusted q other ∙ a.trusted q other;
  reverted = λ q. b.reverted q ∙ a.reverted q;
  stays = stays_then s t u a.stays b.stays;
  calls = b.calls ∙ a.calls;
  called = b.called ∙ a.called;
  answers = b.answers ∙ a.answers;
  answered = b.answered ∙ a.answered;
  now = b.now ∙ a.now;
}
