-- A step of one peer in a world: the world after it agrees with a run that goes on.
use Rattle.std.proofs.Common.{◌≡◌, ℕ, suc, ◌⊎◌, inl, inr, true, false, List, [], ◌∷◌, ◌++◌, map, length, Some, slice_get, slice_set, append-nil, refl, sym, ap, ◌∙◌, subst}
use Rattle.ens_base.proofs.Lists.{in_left}
use Rattle.std.specs.Prelude.{All, Bool}
use Rattle.std.proofs.lemmas.Bool.{true≢false}
use Rattle.std.proofs.lemmas.List.Elements.{All-nil, All-map, All-weaker}
use Rattle.ens_base.specs.Limits.{IsKey, IsCommand}
use Rattle.ens_base.specs.View.{IsPeer}
use Rattle.protocol_laws.specs.Ledger.{put}
use Rattle.protocol_laws.specs.Book.{MayCall}
use Rattle.protocol_laws.specs.Protocol.{State, Step, Ask, Lose, Revert, IsRun, happens, state_after}
use Rattle.step_refinement.specs.ElectionRefinement.{IsListedMessage, SendHolds, FrameHolds, IsOrderly}
use Rattle.protocol_laws.proofs.Later.{stay_step}
use Rattle.protocol_laws.specs.Stays.{EntriesStay}
use Rattle.peer_refinement.specs.WorldSpec.{Held, HeldStores, held_with, Ended, run}
use Rattle.role_laws.proofs.Roles.{run_roles}
use Rattle.role_laws.specs.Roles.{RoleHolds, RolesHold}
use Rattle.role_laws.specs.Tables.{Ghosts}
use Rattle.leader_output.specs.declared.out.Outgoing.{Outgoing}
use Rattle.network.specs.Mail.{MayBeSent}
use Rattle.peer_refinement.specs.PeerSpec.{step_of}
use Rattle.peer_state.specs.declared.event.CallIn.{CallIn}
use Rattle.peer_state.specs.declared.event.Event.{Event}
use Rattle.peer_state.specs.declared.event.Event.TheVariants as events
use Rattle.peer_state.specs.declared.state.State.{State as PeerState}
use Rattle.register_model.specs.declared.answer.Answer.{Answer}
use Rattle.register_model.specs.declared.note.Note.{Note}
use Rattle.step_refinement.specs.PeerRefinement.{hash_of, FirmAreKept, ranks}
use Rattle.step_plans.specs.Plans.{Ending, Finished, Stopped, Plan, nothing}
use Rattle.role_laws.specs.Facts.{Lines, AreFirm}
use Rattle.peer_refinement.specs.Trees.{AreAmong, AreFree}
use Rattle.tree_node.specs.declared.version.TreeVersion.{TreeVersion}
use Rattle.protocol_laws.proofs.Maps.{put_other, put_then}
use Rattle.wire_frames.specs.declared.frame.Frame.{Frame}
use Rattle.world_spec.specs.Nodes.{Node, Up, Down, Taken, taken, taken_by, taken_of, run_over}
use Rattle.world_spec.specs.Runs.{Run, place_of, frame_from, with_taken}
use Rattle.world_spec.proofs.Determined.{taken_strings}
use Rattle.world_refinement.proofs.ChangedStores.{stopped_fits, PutsBack, TakesBack}
use Rattle.world_refinement.proofs.HashedBefore.{behind, run_behind}
use Rattle.step_refinement.proofs.CallByCall.{rest_task}
use Rattle.step_refinement.specs.Keys.{AreFew}
use Rattle.step_refinement.specs.Scenes.{Scene, Elsewhere, Reached, Here, EventComes, EndsBy}
use Rattle.world_refinement.proofs.GivenAnswers.{owes, owed_all, AllGiven, all_given}
use Rattle.step_refinement.specs.Steps.{asked_in}
use Rattle.step_refinement.proofs.AllEvents.{steps_good, calls_good}
use Rattle.step_refinement.proofs.ObjectGrammar.{epochs_here, epochs_there}
use Rattle.world_refinement.proofs.BookSteps.{with_answers, answers_in_front, answers_many, down_agrees}
use Rattle.step_refinement.proofs.LostTrust.{elsewhere_lost}
use Rattle.step_refinement.proofs.Stretches.{elsewhere_none, roles_same}
use Rattle.step_refinement.proofs.ElectionRefinement.{get_put, posted_all_hold}
use Rattle.world_refinement.proofs.ChangedNodes.{number, apart, role_there, role_put, said_posted, from_posted}
use Rattle.step_refinement.proofs.LaterStates.{acks_stay}
use Rattle.world_refinement.proofs.LaterWorlds.{StaysFor, elsewhere_stays, node_fits, messages_same, messages_elsewhere}
use Rattle.world_refinement.specs.Lines.{AreSame, MayBeReverted, given_at, StepAgrees, IsQuiet}
use Rattle.step_refinement.specs.Peers.{AcksSay, AsksFit, EpochsFit, PhaseFits, IsAtRest, SendFits, FrameFits}
use Rattle.world_refinement.specs.Roles.{role_of, roles_of, said_in}
use Rattle.step_refinement.specs.Roles.{role_in, said_in_sends}
use Rattle.world_refinement.specs.Worlds.{UpFits, NodeFits, MessagesFit, PartsHold, RolesFit, WorldHolds}

-- ## Steps of one peer, for the others

-- the calls keep their limits
asks_elsewhere : (p : ℕ) (s t : State) → Elsewhere p s t → AsksFit s → AsksFit t
asks_elsewhere p s t e asked i came = let old : s.book.called i ≡ true = subst (λ (called : ℕ → Bool). called i ≡ true) e.called came in
    subst (λ c. IsKey c.key × IsCommand c.command) (sym (e.stays.asked i old)) (asked i old)

-- from s to t peer p takes steps: what they leave to the others, and what the whole state holds then
pub record LeavesRest (lines : Lines) (strings : List (List ℕ)) (p : ℕ) (s t : State) : Type 0 where
  pub others : (q : ℕ) → (p ≡ q → ⊥) → StaysFor q s t
  pub orderly : IsOrderly t.objects.ledger
  pub acks : AcksSay t strings
  pub asked : AsksFit t
  pub epochs : EpochsFit t
  pub firm : FirmAreKept lines t

module _ (version : TreeVersion) (first : ℕ) (lines : Lines) (view : List ℕ) (strings : List (List ℕ)) (p : ℕ) (peer : IsPeer p) where
  -- no tree is reverted in these steps
  leaves_elsewhere : (before after : List Step) (nodes : List Node) (sent : List Frame) (hashed : List (List ℕ)) (notes : List Note) → PartsHold version first lines view strings before nodes sent hashed notes → Elsewhere p (state_after view before) (state_after view after)
      → IsOrderly (state_after view after).objects.ledger → AcksSay (state_after view after) strings → EpochsFit (state_after view after) → LeavesRest lines strings p (state_after view before) (state_after view after)
  leaves_elsewhere before after nodes sent hashed notes parts elsewhere orderly acks epochs = record {
    others = λ q other. elsewhere_stays p q (state_after view before) (state_after view after) other elsewhere;
    orderly = orderly;
    acks = acks;
    asked = asks_elsewhere p (state_after view before) (state_after view after) elsewhere parts.asked;
    epochs = epochs;
    firm = λ q is. elsewhere.reverted q ∙ parts.firm q is;
  }

  -- no step was taken
  leaves_all : (steps : List Step) (nodes : List Node) (sent : List Frame) (hashed : List (List ℕ)) (notes : List Note) → PartsHold version first lines view strings steps nodes sent hashed notes → LeavesRest lines strings p (state_after view steps) (state_after view steps)
  leaves_all steps nodes sent hashed notes parts = leaves_elsewhere steps steps nodes sent hashed notes parts (elsewhere_none p (state_after view steps)) parts.orderly parts.acks parts.epochs

  -- the parts of a world after steps of peer p, with a new node of it and new messages
  pub parts_replaced : (before after : List Step) (nodes : List Node) (sent more : List Frame) (hashed longer : List (List ℕ)) (notes noted : List Note) (node : Node) → PartsHold version first lines view strings before nodes sent hashed notes
      → IsRun view after → LeavesRest lines strings p (state_after view before) (state_after view after) → AreAmong hashed longer → NodeFits version lines strings longer (state_after view after) p node → MessagesFit version first lines strings (state_after view after) more
      → (state_after view after).book.notes ≡ noted → PartsHold version first lines view strings after (slice_set nodes (place_of p) node) more longer noted
  parts_replaced before after nodes sent more hashed longer notes noted node a run leaves among fits messages notes_are = record {
    run = run;
    orderly = leaves.orderly;
    acks = leaves.acks;
    asked = leaves.asked;
    epochs = leaves.epochs;
    firm = leaves.firm;
    nodes_fit = λ place new at. by_place place new (get_put nodes (place_of p) place node new at);
    messages = messages;
    noted = notes_are;
  }
    where
      by_place : (place : ℕ) (new : Node) → ((place_of p ≡ place) × (new ≡ node)) ⊎ ((place_of p ≡ place → ⊥) × (slice_get nodes place ≡ Some new)) → NodeFits version lines strings longer (state_after view after) (suc place) new
      by_place place new (inl here) = subst (λ (n : Node). NodeFits version lines strings longer (state_after view after) (suc place) n) (sym here.1)
          (subst (λ (q : ℕ). NodeFits version lines strings longer (state_after view after) q node) (sym (number p peer) ∙ ap suc here.0) fits)
      by_place place new (inr other) = node_fits version lines strings hashed longer (suc place) (state_after view before) (state_after view after) (leaves.others (suc place) (apart p place other.0)) among new (a.nodes_fit place new other.1)

  -- what the node of the peer holds
  pub own_fits : (steps : List Step) (nodes : List Node) (sent : List Frame) (hashed : List (List ℕ)) (notes : List Note) (node : Node) → PartsHold version first lines view strings steps nodes sent hashed notes → slice_get nodes (place_of p) ≡ Some node → NodeFits version lines strings hashed (state_after view steps) p node
  own_fits steps nodes sent hashed notes node a at = subst (λ (q : ℕ). NodeFits version lines strings hashed (state_after view steps) q node) (number p peer) (a.nodes_fit (place_of p) node at)

  -- the messages that the peer sends
  sends_fit : (s : State) (sends : List Outgoing) → All (SendHolds s.objects.ledger p) sends → All (FrameHolds s.objects.ledger) (map (frame_from p) sends)
  sends_fit s sends hold = All-map (FrameHolds s.objects.ledger) (frame_from p) sends (All-weaker (SendHolds s.objects.ledger p) (λ o. FrameHolds s.objects.ledger (frame_from p o)) (λ o h. (peer, h)) sends hold)

  -- the roles, where that of the peer is the one of its new node
  roles_put : (steps : List Step) (nodes : List Node) (sent : List Frame) (node new : Node) → slice_get nodes (place_of p) ≡ Some node → (g : Ghosts) → g.hash ≡ hash_of → RolesHold g (state_after view steps) (put (roles_of nodes) p (role_of new)) (said_in sent)
      → RolesFit view steps (roles_of (slice_set nodes (place_of p) new)) sent
  roles_put steps nodes sent node new at g hash hold = record {
    ghosts = g;
    hash = hash;
    hold = roles_same g (state_after view steps) (put (roles_of nodes) p (role_of new)) (roles_of (slice_set nodes (place_of p) new)) (said_in sent) (said_in sent) (λ q. sym (role_put nodes p peer node new at q)) (λ m i. i) hold;
  }

  -- the new node of the peer has the same role
  roles_kept : (steps : List Step) (nodes : List Node) (sent : List Frame) (node new : Node) → slice_get nodes (place_of p) ≡ Some node → role_of new ≡ role_of node → RolesFit view steps (roles_of nodes) sent → RolesFit view steps (roles_of (slice_set nodes (place_of p) new)) sent
  roles_kept steps nodes sent node new at same roles =
      roles_put steps nodes sent node new at roles.ghosts roles.hash (roles_same roles.ghosts (state_after view steps) (roles_of nodes) (put (roles_of nodes) p (role_of new)) (said_in sent) (said_in sent) (λ q. sym (still q)) (λ m i. i) roles.hold)
    where
      still : (q : ℕ) → put (roles_of nodes) p (role_of new) q ≡ roles_of nodes q
      still = put_then (roles_of nodes) p (role_of new) (λ q role. role ≡ roles_of nodes q) (same ∙ sym (role_there nodes p peer node at)) (λ q other. refl)

  -- ## Lines that change the node of a peer

  -- the run goes on from these steps, and the world with these nodes and hashed strings agrees with it
  pub record NodesGo (before : List Step) (nodes : List Node) (sent : List Frame) (hashed : List (List ℕ)) (notes : List Note) : Type 0 where
    pub steps : List Step
    pub parts : PartsHold version first lines view strings steps nodes sent hashed notes
    pub roles : RolesFit view steps (roles_of nodes) sent
    pub quiet : IsQuiet (state_after view before).book (state_after view steps).book

  module _ (steps : List Step) (nodes : List Node) (sent : List Frame) (hashed : List (List ℕ)) (notes : List Note) (parts : PartsHold version first lines view strings steps nodes sent hashed notes) (roles : RolesFit view steps (roles_of nodes) sent) where
    -- the state that the run has reached
    abbrev pub reached_state : State
    reached_state = state_after view steps

    -- the node of the peer is another one, with the same role
    pub renewed : (longer : List (List ℕ)) (node new : Node) → slice_get nodes (place_of p) ≡ Some node → role_of new ≡ role_of node → AreAmong hashed longer → NodeFits version lines strings longer reached_state p new → NodesGo steps (slice_set nodes (place_of p) new) sent longer notes
    renewed longer node new at same among fits = record {
      steps = steps;
      parts = parts_replaced steps steps nodes sent sent hashed longer notes notes new parts parts.run (leaves_all steps nodes sent hashed notes parts) among fits parts.messages parts.noted;
      roles = roles_kept steps nodes sent node new at same roles;
      quiet = record { now = refl; calls = refl; notes = refl; answers = refl };
    }

    -- a running peer stops: it follows nobody, owes nothing, and no longer trusts its tree
    pub stops : (x : PeerState) (stores : HeldStores) → slice_get nodes (place_of p) ≡ Some (Up x stores) → NodesGo steps (slice_set nodes (place_of p) (Down stores)) sent hashed notes
    stops x stores at = record {
      steps = Lose p ∷ steps;
      parts = parts_replaced steps (Lose p ∷ steps) nodes sent sent hashed hashed notes notes (Down stores) parts (parts.run, (tt, tt))
          (leaves_elsewhere steps (Lose p ∷ steps) nodes sent hashed notes parts (elsewhere_lost p reached_state) parts.orderly (acks_stay reached_state t strings refl (stay_step reached_state (Lose p) (tt, tt)) parts.acks) parts.epochs)
          (λ z i. i) (stopped_fits version lines strings hashed reached_state p x stores (own_fits steps nodes sent hashed notes (Up x stores) parts at)) (messages_elsewhere version first lines strings p reached_state t sent (elsewhere_lost p reached_state) parts.messages) parts.noted;
      roles = roles_put (Lose p ∷ steps) nodes sent (Up x stores) (Down stores) at roles.ghosts roles.hash
          ((run_roles view (Lose p ∷ steps) (parts.run, (tt, tt))).peer roles.ghosts (roles_of nodes) (said_in sent) p ((run_roles view steps parts.run).silent roles.ghosts (roles_of nodes) (said_in sent) (Lose p) (tt, tt) tt roles.hold)).stops;
      quiet = record { now = refl; calls = refl; notes = refl; answers = refl };
    }
      where
        t : State
        t = happens reached_state (Lose p)

    -- the tree of a peer that is down is put back to another map, which no line does to a firm peer
    puts_back : (old stores : HeldStores) → lines.firm p ≡ false → slice_get nodes (place_of p) ≡ Some (Down old) → PutsBack lines strings hashed reached_state p stores → NodesGo steps (slice_set nodes (place_of p) (Down stores)) sent hashed notes
    puts_back old stores soft at back = record {
      steps = e ∷ steps;
      parts = parts_replaced steps (e ∷ steps) nodes sent sent hashed hashed notes notes (Down stores) parts (parts.run, back.may)
          (record { others = others; orderly = parts.orderly; acks = acks_stay reached_state t strings refl stay parts.acks; asked = parts.asked; epochs = parts.epochs; firm = firm })
          (λ z i. i) back.down (messages_same version first lines strings reached_state t sent refl stay parts.messages) parts.noted;
      roles = roles_kept (e ∷ steps) nodes sent (Down old) (Down stores) at refl (record { ghosts = roles.ghosts; hash = roles.hash; hold = (run_roles view steps parts.run).silent roles.ghosts (roles_of nodes) (said_in sent) e back.may tt roles.hold });
      quiet = record { now = refl; calls = refl; notes = refl; answers = refl };
    }
      where
        e : Step
        e = Revert p (ranks back.map)

        t : State
        t = happens reached_state e

        stay : EntriesStay reached_state t
        stay = stay_step reached_state e back.may

        others : (q : ℕ) → (p ≡ q → ⊥) → StaysFor q reached_state t
        others q other = record { node = λ node holds. holds; views = λ d elected. refl; map = refl; visible = put_other reached_state.objects.visible p (ranks back.map) q other; trusted = refl; entries = stay }

        firm : FirmAreKept lines t
        firm = put_then reached_state.objects.reverted p true (λ q was. lines.firm q ≡ true → was ≡ false) (λ is. absurd (true≢false (sym is ∙ soft))) (λ q other. parts.firm q)

    -- or, under a seal, to the same
    pub takes_back : (old stores : HeldStores) → MayBeReverted lines p → slice_get nodes (place_of p) ≡ Some (Down old) → TakesBack lines strings hashed reached_state p stores → NodesGo steps (slice_set nodes (place_of p) (Down stores)) sent hashed notes
    takes_back old stores may at (inl down) = renewed hashed (Down old) (Down stores) at refl (λ x i. i) down
    takes_back old stores (inl sealed) at (inr back) = absurd (back.0 sealed)
    takes_back old stores (inr soft) at (inr back) = puts_back old stores soft at back.1

-- ## A step in a world

module _ (lines : Lines) (sound : AreFirm lines) (view : List ℕ) (strings : List (List ℕ)) (free : AreFree strings) (p : ℕ) (peer : IsPeer p) (w : Run) where
  -- the scene of a step of the peer
  abbrev pub scene : (before : List Step) → AreFew (state_after view before).book.calls → AsksFit (state_after view before) → FirmAreKept lines (state_after view before) → Scene
  scene before few asked firm = record {
    lines = lines;
    version = w.tree;
    sound = sound;
    view = view;
    begun = before;
    peer = p;
    is_peer = peer;
    roles = roles_of w.nodes;
    said = said_in w.mail.sent;
    strings = strings;
    free = free;
    few = few;
    asked = asked;
    firm = firm;
  }

  -- the run goes on from these steps, and the world after the step of the peer agrees with it
  pub record StepGoes (before : List Step) (t : Taken) : Type 0 where
    pub steps : List Step
    pub holds : WorldHolds lines view strings steps (with_taken p t w)
    pub agrees : StepAgrees t (state_after view before).book (state_after view steps).book

  -- the peer before its step
  abbrev pub here : (steps : List Step) (holds : WorldHolds lines view strings steps w) (few : AreFew (state_after view steps).book.calls) (x : PeerState) (stores : HeldStores) → slice_get w.nodes (place_of p) ≡ Some (Up x stores)
      → Here (scene steps few holds.parts.asked holds.parts.firm) [] x (held_with stores w.hashed) nothing [] × IsAtRest x.phase
  here steps holds few x stores at = (
    record {
      reached = record {
        steps = steps;
        run = holds.parts.run;
        ghosts = holds.roles.ghosts;
        hash = holds.roles.hash;
        elsewhere = elsewhere_none p s;
        orderly = holds.parts.orderly;
        acks = holds.parts.acks;
      };
      roles = record {
        turns = holds.roles.hold.turns;
        roles_hold = put_then (roles_of w.nodes) p (role_in [] x.phase []) (RoleHolds holds.roles.ghosts s) (subst (RoleHolds holds.roles.ghosts s p) (role_there w.nodes p peer (Up x stores) at) (holds.roles.hold.roles_hold p)) (λ q other. holds.roles.hold.roles_hold q);
        sent_hold = holds.roles.hold.sent_hold;
      };
      peer = fits.holds;
      listed = fits.listed;
      trust = fits.trust;
      tree = fits.tree;
      seal = fits.seal;
      mode = fits.mode;
      held = fits.held;
      sync = fits.sync;
      fits = subst (λ hash. PhaseFits hash s x.phase) (sym holds.roles.hash) fits.fits;
      task = rest_task s [] x.phase fits.rests;
      noted = sym (append-nil s.book.notes);
      sends = All-nil (SendHolds s.objects.ledger p);
      listed_sends = All-nil (λ (o : Outgoing). IsListedMessage lines.voting o.message);
      fits_sends = All-nil (SendFits w.tree lines s strings p);
    },
    fits.rests,
  )
    where
      s : State
      s = state_after view steps

      fits : UpFits w.tree lines strings w.hashed s p x stores
      fits = own_fits w.tree w.first_alive lines view strings p peer steps w.nodes w.mail.sent w.hashed w.notes (Up x stores) holds.parts at

  module _ (before : List Step) (few : AreFew (state_after view before).book.calls) (parts : PartsHold w.tree w.first_alive lines view strings before w.nodes w.mail.sent w.hashed w.notes) (firm : FirmAreKept lines (state_after view before)) (node : Node)
      (at : slice_get w.nodes (place_of p) ≡ Some node) where
    -- the world after a step that ended well, or that a refusal ended
    ended_goes : (k : Ending PeerState) (held : Held) (ns : List Note) → EndsBy (scene before few parts.asked firm) k (behind w.hashed held) ns → All MayBeSent (with_taken p (taken_by k held ns) w).mail.sent → StepGoes before (taken_by k held ns)
    ended_goes (Stopped error) held ns ends may = record {
      steps = ends.reached.steps;
      holds = record {
        parts = parts_replaced w.tree w.first_alive lines view strings p peer before ends.reached.steps w.nodes w.mail.sent w.mail.sent w.hashed (w.hashed ++ held.hashed) w.notes (w.notes ++ ns) (Down held.stores) parts ends.reached.run
            (leaves_elsewhere w.tree w.first_alive lines view strings p peer before ends.reached.steps w.nodes w.mail.sent w.hashed w.notes parts ends.reached.elsewhere ends.reached.orderly ends.reached.acks
            (epochs_there (scene before few parts.asked firm) ends.reached ends.down.fact ends.down.saved ends.down.listed parts.epochs))
            (λ x i. in_left w.hashed held.hashed x i) ends.down (messages_elsewhere w.tree w.first_alive lines strings p (state_after view before) (state_after view ends.reached.steps) w.mail.sent ends.reached.elsewhere parts.messages)
            (ends.noted ∙ ap (λ (notes : List Note). notes ++ ns) parts.noted);
        roles = roles_put w.tree w.first_alive lines view strings p peer ends.reached.steps w.nodes w.mail.sent node (Down held.stores) at ends.reached.ghosts ends.reached.hash ends.roles;
      };
      agrees = record {
        now = ends.reached.elsewhere.now;
        calls = ends.reached.elsewhere.calls;
        notes = ends.noted;
        answers = subst (λ (all : List Answer). AreSame all (state_after view before).book.answers) (sym ends.reached.elsewhere.answers) (λ a. (λ i. i, λ i. i));
        many = ap (λ (all : List Answer). length all) ends.reached.elsewhere.answers ∙ answers_many (state_after view before).book.now [] (state_after view before).book.answers;
      };
    }
    ended_goes (Finished y out) held ns ends may = record {
      steps = given.steps;
      holds = record {
        parts = given.parts;
        roles = record {
          ghosts = r.ghosts;
          hash = r.hash;
          hold = roles_same r.ghosts (state_after view given.steps) (put (roles_of w.nodes) p (role_in [] y.phase [])) (roles_of v.nodes) (said_in v.mail.sent) (said_in v.mail.sent) (λ q. sym (role_put w.nodes p peer node (Up y held.stores) at q)) (λ m i. i) given.hold;
        };
      };
      agrees = record {
        now = given.now ∙ r.elsewhere.now;
        calls = given.calls ∙ r.elsewhere.calls;
        notes = given.notes ∙ is.noted;
        answers = subst (λ (all : List Answer). AreSame all (map (given_at s.book.now) out.answers ++ s.book.answers)) (sym answered) (answers_in_front s.book.now out.answers s.book.answers);
        many = ap (λ (all : List Answer). length all) answered ∙ answers_many s.book.now out.answers s.book.answers;
      };
    }
      where
        s : State
        s = state_after view before

        c : Scene
        c = scene before few parts.asked firm

        is : Here c [] y (behind w.hashed held) out ns
        is = ends.0

        r : Reached c
        r = is.reached

        t : State
        t = state_after view r.steps

        v : Run
        v = with_taken p (taken_by (Finished y out) held ns) w

        old : MessagesFit w.tree w.first_alive lines strings t w.mail.sent
        old = messages_elsewhere w.tree w.first_alive lines strings p s t w.mail.sent r.elsewhere parts.messages

        messages : MessagesFit w.tree w.first_alive lines strings t v.mail.sent
        messages = record {
          hold = posted_all_hold (FrameHolds t.objects.ledger) (map (frame_from p) out.sends) w.mail old.hold (sends_fit w.tree w.first_alive lines view strings p peer t out.sends is.sends);
          listed = posted_all_hold (λ (f : Frame). IsListedMessage lines.voting f.message) (map (frame_from p) out.sends) w.mail old.listed (All-map (λ (f : Frame). IsListedMessage lines.voting f.message) (frame_from p) out.sends is.listed_sends);
          fit = from_posted w.first_alive (FrameFits w.tree lines t strings) (map (frame_from p) out.sends) w.mail old.fit (All-map (FrameFits w.tree lines t strings) (frame_from p) out.sends is.fits_sends);
          may = may;
        }

        own : UpFits w.tree lines strings (w.hashed ++ held.hashed) t p y held.stores
        own = record { holds = is.peer; listed = is.listed; trust = is.trust; tree = is.tree; seal = is.seal; mode = is.mode; held = is.held; sync = is.sync; fits = subst (λ hash. PhaseFits hash t y.phase) r.hash is.fits; rests = ends.1 }

        after_step : PartsHold w.tree w.first_alive lines view strings r.steps v.nodes v.mail.sent v.hashed v.notes
        after_step = parts_replaced w.tree w.first_alive lines view strings p peer before r.steps w.nodes w.mail.sent v.mail.sent w.hashed v.hashed w.notes v.notes (Up y held.stores) parts r.run
            (leaves_elsewhere w.tree w.first_alive lines view strings p peer before r.steps w.nodes w.mail.sent w.hashed w.notes parts r.elsewhere r.orderly r.acks (epochs_here c [] y (behind w.hashed held) out ns is parts.epochs)) (λ x i. in_left w.hashed held.hashed x i) own messages
            (is.noted ∙ ap (λ (notes : List Note). notes ++ ns) parts.noted)

        roles : RolesHold r.ghosts t (put (roles_of w.nodes) p (role_in [] y.phase (owes out.answers))) (said_in v.mail.sent)
        roles = roles_same r.ghosts t (put (roles_of w.nodes) p (role_in [] y.phase (owes out.answers))) (put (roles_of w.nodes) p (role_in [] y.phase (owes out.answers))) (said_in_sends p out.sends ++ said_in w.mail.sent) (said_in v.mail.sent) (λ q. refl)
            (λ m i. said_posted p out.sends w.mail m i) (subst (λ owed. RolesHold r.ghosts t (put (roles_of w.nodes) p (role_in [] y.phase owed)) (said_in_sends p out.sends ++ said_in w.mail.sent)) (owed_all out.answers) is.roles)

        given : AllGiven w.tree w.first_alive lines view strings v.nodes v.mail.sent v.hashed v.notes r.ghosts (roles_of w.nodes) (said_in v.mail.sent) p y.phase t out.answers
        given = all_given w.tree w.first_alive lines view strings v.nodes v.mail.sent v.hashed v.notes r.ghosts (roles_of w.nodes) (said_in v.mail.sent) p y.phase r.steps out.answers after_step roles

        answered : (state_after view given.steps).book.answers ≡ with_answers s.book.now out.answers s.book.answers
        answered = given.given ∙ ap (λ (old : List Answer). with_answers t.book.now out.answers old) r.elsewhere.answers ∙ ap (λ (event : ℕ). with_answers event out.answers s.book.answers) r.elsewhere.now

    -- all that a step hashes is among the strings, if all that the world hashed after it is
    step_among : (plan : Plan PeerState) (stores : HeldStores) → AreAmong (with_taken p (taken_of (run_over plan stores)) w).hashed strings → AreAmong (run plan (held_with stores w.hashed) []).held.hashed strings
    step_among plan stores among = let e : Ended PeerState = run_over plan stores in
        subst (λ (k : Ended PeerState). AreAmong k.held.hashed strings) (sym (run_behind plan stores w.hashed)) (subst (λ (xs : List (List ℕ)). AreAmong (w.hashed ++ xs) strings) (taken_strings e.ending e.held e.notes) among)

    -- the world after the step of a running peer
    pub ran_goes : (plan : Plan PeerState) (stores : HeldStores) → All MayBeSent (with_taken p (taken_of (run_over plan stores)) w).mail.sent → AreAmong (with_taken p (taken_of (run_over plan stores)) w).hashed strings
        → (AreAmong (run plan (held_with stores w.hashed) []).held.hashed strings → EndsBy (scene before few parts.asked firm) (run plan (held_with stores w.hashed) []).ending (run plan (held_with stores w.hashed) []).held (run plan (held_with stores w.hashed) []).notes)
        → StepGoes before (taken_of (run_over plan stores))
    ran_goes plan stores may among good = let e : Ended PeerState = run_over plan stores in
        ended_goes e.ending e.held e.notes (subst (λ (k : Ended PeerState). EndsBy (scene before few parts.asked firm) k.ending k.held k.notes) (run_behind plan stores w.hashed) (good (step_among plan stores among))) may

  -- a peer that is down takes no step
  pub down_goes : (steps : List Step) → WorldHolds lines view strings steps w → (event : Event) (stores : HeldStores) → slice_get w.nodes (place_of p) ≡ Some (Down stores) → StepGoes steps (taken p event (Down stores))
  down_goes steps holds event stores at = record {
    steps = steps;
    holds = record {
      parts = subst (λ (hashed : List (List ℕ)). PartsHold w.tree w.first_alive lines view strings steps (slice_set w.nodes (place_of p) (Down stores)) w.mail.sent hashed (w.notes ++ [])) (sym (append-nil w.hashed))
          (subst (λ (notes : List Note). PartsHold w.tree w.first_alive lines view strings steps (slice_set w.nodes (place_of p) (Down stores)) w.mail.sent w.hashed notes) (sym (append-nil w.notes))
          (parts_replaced w.tree w.first_alive lines view strings p peer steps steps w.nodes w.mail.sent w.mail.sent w.hashed w.hashed w.notes w.notes (Down stores) holds.parts holds.parts.run (leaves_all w.tree w.first_alive lines view strings p peer steps w.nodes w.mail.sent w.hashed w.notes holds.parts) (λ x i. i)
          (own_fits w.tree w.first_alive lines view strings p peer steps w.nodes w.mail.sent w.hashed w.notes (Down stores) holds.parts at) holds.parts.messages holds.parts.noted));
      roles = roles_kept w.tree w.first_alive lines view strings p peer steps w.nodes w.mail.sent (Down stores) (Down stores) at refl holds.roles;
    };
    agrees = down_agrees p event stores (state_after view steps).book;
  }

  -- the step of a peer on an event that is no call
  pub stepped_goes : (event : Event) (node : Node) (steps : List Step) (holds : WorldHolds lines view strings steps w) (few : AreFew (state_after view steps).book.calls) → slice_get w.nodes (place_of p) ≡ Some node
      → EventComes (scene steps few holds.parts.asked holds.parts.firm) event (state_after view steps) → All MayBeSent (with_taken p (taken p event node) w).mail.sent → AreAmong (with_taken p (taken p event node) w).hashed strings → StepGoes steps (taken p event node)
  stepped_goes event (Down stores) steps holds few at comes may among = down_goes steps holds event stores at
  stepped_goes event (Up x stores) steps holds few at comes may among = let begins = here steps holds few x stores at in
      ran_goes steps few holds.parts holds.parts.firm (Up x stores) at (step_of p event x) stores may among (λ all. steps_good (scene steps few holds.parts.asked holds.parts.firm) event x (held_with stores w.hashed) holds.parts.epochs begins comes all)

  -- the step of a peer on a call, which has come
  pub called_goes : (call : CallIn) (node : Node) (steps : List Step) (holds : WorldHolds lines view strings steps w) → (few : AreFew (state_after view steps).book.calls) → slice_get w.nodes (place_of p) ≡ Some node → MayCall (state_after view steps).book (asked_in (state_after view steps) call)
      → (come : WorldHolds lines view strings (Ask (asked_in (state_after view steps) call) ∷ steps) w) → AreFew (state_after view (Ask (asked_in (state_after view steps) call) ∷ steps)).book.calls
      → All MayBeSent (with_taken p (taken p (events.Call call) node) w).mail.sent → AreAmong (with_taken p (taken p (events.Call call) node) w).hashed strings → StepGoes (Ask (asked_in (state_after view steps) call) ∷ steps) (taken p (events.Call call) node)
  called_goes call (Down stores) steps holds few at may_call come fewer may among = down_goes (Ask (asked_in (state_after view steps) call) ∷ steps) come (events.Call call) stores at
  called_goes call (Up x stores) steps holds few at may_call come fewer may among = let begins = here steps holds few x stores at in
      ran_goes (Ask (asked_in (state_after view steps) call) ∷ steps) fewer come.parts holds.parts.firm (Up x stores) at (step_of p (events.Call call) x) stores may among
      (λ all. calls_good (scene steps few holds.parts.asked holds.parts.firm) call fewer come.parts.asked x (held_with stores w.hashed) holds.parts.epochs begins refl may_call all)
