-- Steps of elections, which end no sync: the run that a step of a peer has reached goes on by them, and
-- what trees, messages and acknowledgements say stays so.
use Rattle.std.proofs.Common.{◌≡◌, ℕ, suc, Bool, List, [], ◌∷◌, ◌++◌, Option, arith, refl, ap, sym, subst, ◌∙◌}
use Rattle.std.specs.Prelude.{All}
use Rattle.protocol_laws.proofs.Steps.{after_both, may_both}
use Rattle.protocol_laws.specs.Protocol.{State, Step, Raise, Elect, Accept, Commit, Adopt, Install, EndSync, happens, MayCome, IsRun, state_after, after, MayAll}
use Rattle.protocol_laws.proofs.Later.{stay_after}
use Rattle.protocol_laws.specs.Stays.{EntriesStay}
use Rattle.election_refinement.specs.Keeps.{Keeps}
use Rattle.election_refinement.proofs.Reaching.{IsRowStep, AreRowSteps}
use Rattle.election_refinement.specs.Refinement.{IsOrderly}
use Rattle.peer_refinement.specs.WorldSpec.{Held}
use Rattle.role_laws.proofs.Roles.{run_roles}
use Rattle.role_laws.proofs.Runs.{run_leaders}
use Rattle.role_laws.specs.Leaders.{IsUnled}
use Rattle.role_laws.specs.Moves.{IsOfLeader}
use Rattle.role_laws.specs.Roles.{Role, Sent, RolesHold, IsSilent}
use Rattle.role_laws.specs.Tables.{Ghosts}
use Rattle.leader_refinement.specs.Seen.{rank}
use Rattle.leader_output.specs.declared.out.Outgoing.{Outgoing}
use Rattle.role_laws.specs.Facts.{Lines}
use Rattle.peer_refinement.proofs.SyncStaying.{version_stays}
use Rattle.tree_node.specs.declared.version.TreeVersion.{TreeVersion}
use Rattle.step_refinement.specs.Scenes.{Scene, Elsewhere, Reached, now, state_before}
use Rattle.step_refinement.proofs.Stretches.{elsewhere_then}
use Rattle.step_refinement.proofs.LaterStates.{sends_stay}
use Rattle.step_refinement.proofs.ShownMaps.{tree_stays}
use Rattle.step_refinement.specs.Peers.{TreeHolds, AcksSay, SendFits}

-- ## Runs that go on

-- steps that are given newest first, from the oldest on
abbrev pub oldest_first : List Step → List Step
oldest_first [] = []
oldest_first (e ∷ es) = oldest_first es ++ e ∷ []

-- the steps lead from the state of the run to the state of the run with them
pub state_there : (view : List ℕ) (es steps : List Step) → after (state_after view steps) (oldest_first es) ≡ state_after view (es ++ steps)
state_there view [] steps = refl
state_there view (e ∷ es) steps = after_both (state_after view steps) (oldest_first es) (e ∷ []) ∙ ap (λ (s : State). happens s e) (state_there view es steps)

-- and their guards were met
pub may_there : (view : List ℕ) (es steps : List Step) → IsRun view (es ++ steps) → MayAll (state_after view steps) (oldest_first es)
may_there view [] steps run = tt
may_there view (e ∷ es) steps run =
    may_both (state_after view steps) (oldest_first es) (e ∷ []) (may_there view es steps run.0) (subst (λ (s : State). MayCome s e) (sym (state_there view es steps)) run.1, tt)

-- entries stay
pub entries_there : (view : List ℕ) (es steps : List Step) → IsRun view (es ++ steps) → EntriesStay (state_after view steps) (state_after view (es ++ steps))
entries_there view es steps run = subst (EntriesStay (state_after view steps)) (state_there view es steps) (stay_after (state_after view steps) (oldest_first es) (may_there view es steps run))

-- ## Steps of elections

-- a step of elections that ends no sync
abbrev pub IsElectionStep : Step → Type 0
IsElectionStep (Raise p d) = Unit {0}
IsElectionStep (Elect d base) = Unit {0}
IsElectionStep (Accept p d) = Unit {0}
IsElectionStep (Commit d change) = Unit {0}
IsElectionStep (Adopt p d) = Unit {0}
IsElectionStep step = ⊥

-- all steps are of elections, and end no sync
abbrev pub AreElectionSteps : List Step → Type 0
AreElectionSteps [] = Unit {0}
AreElectionSteps (e ∷ es) = IsElectionStep e × AreElectionSteps es

-- the steps of a row in which no sync ends
election_only : (p : ℕ) (e : Step) → IsRowStep ⊥ p e → IsElectionStep e
election_only p (Raise q d) kind = tt
election_only p (Elect d base) kind = tt
election_only p (Accept q d) kind = tt
election_only p (Commit d change) kind = tt
election_only p (Adopt q d) kind = tt
election_only p (Install q d merged) kind = absurd kind.0
election_only p (EndSync q d) kind = absurd kind.0
election_only p step kind = absurd kind

-- so are all steps of such a row
pub elections_only : (p : ℕ) (es : List Step) → AreRowSteps ⊥ p es → AreElectionSteps es
elections_only p [] kinds = tt
elections_only p (e ∷ es) kinds = (election_only p e kinds.0, elections_only p es kinds.1)

is_silent : (e : Step) → IsElectionStep e → IsSilent e
is_silent (Raise p d) kind = tt
is_silent (Elect d base) kind = tt
is_silent (Accept p d) kind = tt
is_silent (Commit d change) kind = tt
is_silent (Adopt p d) kind = tt
is_silent step kind = absurd kind

of_any_leader : (g : Ghosts) (d p : ℕ) (e : Step) → IsElectionStep e → IsOfLeader g d p e
of_any_leader g d p (Raise q e) kind = tt
of_any_leader g d p (Elect e base) kind = tt
of_any_leader g d p (Accept q e) kind = tt
of_any_leader g d p (Commit e change) kind = tt
of_any_leader g d p (Adopt q e) kind = tt
of_any_leader g d p step kind = absurd kind

-- what such steps leave as it was: the trees and their trust, what was acknowledged, and the book but for
-- the times of elections
pub record IsSpared (s t : State) : Type 0 where
  pub map : t.objects.map ≡ s.objects.map
  pub visible : t.objects.visible ≡ s.objects.visible
  pub trusted : t.objects.trusted ≡ s.objects.trusted
  pub reverted : t.objects.reverted ≡ s.objects.reverted
  pub acked : t.objects.acked ≡ s.objects.acked
  pub calls : t.book.calls ≡ s.book.calls
  pub called : t.book.called ≡ s.book.called
  pub answers : t.book.answers ≡ s.book.answers
  pub answered : t.book.answered ≡ s.book.answered
  pub now : t.book.now ≡ s.book.now
  pub notes : t.book.notes ≡ s.book.notes

spared_same : (s : State) → IsSpared s s
spared_same s = record { map = refl; visible = refl; trusted = refl; reverted = refl; acked = refl; calls = refl; called = refl; answers = refl; answered = refl; now = refl; notes = refl }

spared_then : (s t u : State) → IsSpared s t → IsSpared t u → IsSpared s u
spared_then s t u a b = record {
  map = b.map ∙ a.map;
  visible = b.visible ∙ a.visible;
  trusted = b.trusted ∙ a.trusted;
  reverted = b.reverted ∙ a.reverted;
  acked = b.acked ∙ a.acked;
  calls = b.calls ∙ a.calls;
  called = b.called ∙ a.called;
  answers = b.answers ∙ a.answers;
  answered = b.answered ∙ a.answered;
  now = b.now ∙ a.now;
  notes = b.notes ∙ a.notes;
}

spared_step : (s : State) (e : Step) → IsElectionStep e → IsSpared s (happens s e)
spared_step s (Raise p d) kind = record { map = refl; visible = refl; trusted = refl; reverted = refl; acked = refl; calls = refl; called = refl; answers = refl; answered = refl; now = refl; notes = refl }
spared_step s (Elect d base) kind = record { map = refl; visible = refl; trusted = refl; reverted = refl; acked = refl; calls = refl; called = refl; answers = refl; answered = refl; now = refl; notes = refl }
spared_step s (Accept p d) kind = record { map = refl; visible = refl; trusted = refl; reverted = refl; acked = refl; calls = refl; called = refl; answers = refl; answered = refl; now = refl; notes = refl }
spared_step s (Commit d change) kind = record { map = refl; visible = refl; trusted = refl; reverted = refl; acked = refl; calls = refl; called = refl; answers = refl; answered = refl; now = refl; notes = refl }
spared_step s (Adopt p d) kind = record { map = refl; visible = refl; trusted = refl; reverted = refl; acked = refl; calls = refl; called = refl; answers = refl; answered = refl; now = refl; notes = refl }
spared_step s step kind = absurd kind

-- such steps leave all else as it was
pub spared_there : (view : List ℕ) (es steps : List Step) → AreElectionSteps es → IsSpared (state_after view steps) (state_after view (es ++ steps))
spared_there view [] steps kinds = spared_same (state_after view steps)
spared_there view (e ∷ es) steps kinds =
    spared_then (state_after view steps) (state_after view (es ++ steps)) (happens (state_after view (es ++ steps)) e) (spared_there view es steps kinds.1) (spared_step (state_after view (es ++ steps)) e kinds.0)

-- the roles and the messages of calls stay
pub roles_there : (view : List ℕ) (es steps : List Step) (g : Ghosts) (roles : ℕ → Role) (sent : List Sent) → IsRun view (es ++ steps) → AreElectionSteps es → RolesHold g (state_after view steps) roles sent → RolesHold g (state_after view (es ++ steps)) roles sent
roles_there view [] steps g roles sent run kinds hold = hold
roles_there view (e ∷ es) steps g roles sent run kinds hold =
    (run_roles view (es ++ steps) run.0).silent g roles sent e run.1 (is_silent e kinds.0) (roles_there view es steps g roles sent run.0 kinds.1 hold)

-- an epoch that no leader has begun stays so
pub unled_there : (view : List ℕ) (es steps : List Step) (g : Ghosts) (d : ℕ) → IsRun view (es ++ steps) → AreElectionSteps es → IsUnled g (state_after view steps) d → IsUnled g (state_after view (es ++ steps)) d
unled_there view [] steps g d run kinds unled = unled
unled_there view (e ∷ es) steps g d run kinds unled =
    (run_leaders view (es ++ steps) run.0).unled_stays g d (suc d) 0 (e ∷ []) (run.1, tt) (of_any_leader g (suc d) 0 e kinds.0, tt) other (unled_there view es steps g d run.0 kinds.1 unled)
  where
    other : suc d ≡ d → ⊥
    other same = omega arith

-- ## What maps and messages say

module _ (view : List ℕ) (es steps : List Step) (run : IsRun view (es ++ steps)) (strings : List (List ℕ)) where
  -- acknowledged versions say what they said
  pub acks_there : AreElectionSteps es → AcksSay (state_after view steps) strings → AcksSay (state_after view (es ++ steps)) strings
  acks_there kinds acks v q fits acked = version_stays (state_after view steps) (state_after view (es ++ steps)) strings (entries_there view es steps run) v
      (acks v q fits (ap (λ (f : ℕ → ℕ → Bool). f (rank v) q) (sym (spared_there view es steps kinds).acked) ∙ acked))

  -- the tree of a peer holds what it held
  abbrev pub tree_there : AreElectionSteps es → (q : ℕ) (seal : Option (List ℕ)) (h : Held) → TreeHolds (state_after view steps) strings q seal h → TreeHolds (state_after view (es ++ steps)) strings q seal h
  tree_there kinds q seal h tree = let spared = spared_there view es steps kinds in
      tree_stays (state_after view steps) (state_after view (es ++ steps)) strings q seal h (entries_there view es steps run) (ap (λ (f : ℕ → List ℕ → ℕ). f q) spared.visible) (ap (λ (f : ℕ → List ℕ → ℕ). f q) spared.map)
      (λ blind. ap (λ (f : ℕ → Bool). f q) spared.trusted ∙ blind) tree

  -- messages that were to be sent fit as before
  pub sends_there : (version : TreeVersion) (lines : Lines) (q : ℕ) (sends : List Outgoing) → All (SendFits version lines (state_after view steps) strings q) sends → All (SendFits version lines (state_after view (es ++ steps)) strings q) sends
  sends_there version lines q = sends_stay (state_after view steps) (state_after view (es ++ steps)) strings (entries_there view es steps run) version lines q

-- ## The run that a step has reached

-- such steps of peer p leave the others as they were
pub elsewhere_row : (p : ℕ) (s t : State) → Keeps s.objects.ledger t.objects.ledger p → EntriesStay s t → IsSpared s t → Elsewhere p s t
elsewhere_row p s t keeps stays spared = record {
  ledger = keeps;
  map = λ q n. ap (λ (f : ℕ → List ℕ → ℕ). f q) spared.map;
  visible = λ q n. ap (λ (f : ℕ → List ℕ → ℕ). f q) spared.visible;
  trusted = λ q n. ap (λ (f : ℕ → Bool). f q) spared.trusted;
  reverted = λ q. ap (λ (f : ℕ → Bool). f q) spared.reverted;
  stays = stays;
  calls = spared.calls;
  called = spared.called;
  answers = spared.answers;
  answered = spared.answered;
  now = spared.now;
}

-- it goes on by steps of the peer's elections
abbrev pub reached_there : (c : Scene) (r : Reached c) (es : List Step) → IsRun c.view (es ++ r.steps) → AreElectionSteps es
    → Keeps (now c r).objects.ledger (state_after c.view (es ++ r.steps)).objects.ledger c.peer → IsOrderly (state_after c.view (es ++ r.steps)).objects.ledger → Reached c
reached_there c r es run kinds keeps orderly = record {
  steps = es ++ r.steps;
  run = run;
  ghosts = r.ghosts;
  hash = r.hash;
  elsewhere = elsewhere_then c.peer (state_before c) (now c r) (state_after c.view (es ++ r.steps)) r.elsewhere
      (elsewhere_row c.peer (now c r) (state_after c.view (es ++ r.steps)) keeps (entries_there c.view es r.steps run) (spared_there c.view es r.steps kinds));
  orderly = orderly;
  acks = acks_there c.view es r.steps run c.strings kinds r.acks;
}
