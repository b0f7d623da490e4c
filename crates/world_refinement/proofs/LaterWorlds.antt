-- What holds of the node of a peer stays so while other peers take steps, and by the steps at which an
-- event begins and calls are answered; and all messages hold what they held.
use Rattle.std.proofs.Common.{◌≡◌, ℕ, true, List, Option, Some, refl, sym, ap, ◌∙◌, subst}
use Rattle.std.specs.Prelude.{All}
use Rattle.std.proofs.lemmas.Option.{same_Some}
use Rattle.protocol_laws.specs.Ledger.{Ledger}
use Rattle.protocol_laws.specs.Objects.{Objects}
use Rattle.protocol_laws.specs.Protocol.{State}
use Rattle.protocol_laws.specs.Stays.{EntriesStay}
use Rattle.step_refinement.proofs.ElectionRefinement.{node_keeps, frames_keep}
use Rattle.step_refinement.specs.ElectionRefinement.{IsSaved, IsKept, NodeHolds, FrameHolds}
use Rattle.peer_refinement.specs.WorldSpec.{held_with}
use Rattle.stored_formats.specs.declared.fact.Fact.{Fact}
use Rattle.step_refinement.specs.PeerRefinement.{hash_of}
use Rattle.step_plans.specs.Saved.{bare, kept_seal}
use Rattle.role_laws.specs.Facts.{Lines}
use Rattle.peer_refinement.specs.Tops.{tops_of}
use Rattle.peer_refinement.specs.Trees.{AreAmong}
use Rattle.tree_node.specs.declared.version.TreeVersion.{TreeVersion}
use Rattle.wire_frames.specs.declared.frame.Frame.{Frame}
use Rattle.world_spec.specs.Nodes.{Node, Up, Down}
use Rattle.step_refinement.specs.Scenes.{Elsewhere}
use Rattle.step_refinement.proofs.ShownMaps.{tree_behind, tree_stays, last_over, last_stays}
use Rattle.world_refinement.specs.Worlds.{NodeFits, MessagesFit}
use Rattle.step_refinement.proofs.LaterStates.{message_stays, sync_stays, phase_stays}

-- ## Peers

-- from s to t nothing is taken from peer q
pub record StaysFor (q : ℕ) (s t : State) : Type 0 where
  pub node : (node : Node) → NodeHolds s.objects.ledger q node → NodeHolds t.objects.ledger q node
  pub views : (d : ℕ) → s.objects.ledger.elected d ≡ true → t.objects.ledger.views d ≡ s.objects.ledger.views d
  pub map : t.objects.map q ≡ s.objects.map q
  pub visible : t.objects.visible q ≡ s.objects.visible q
  pub trusted : t.objects.trusted q ≡ s.objects.trusted q
  pub entries : EntriesStay s t

-- a step of another peer takes nothing from peer q
pub elsewhere_stays : (p q : ℕ) (s t : State) → (p ≡ q → ⊥) → Elsewhere p s t → StaysFor q s t
elsewhere_stays p q s t other e = record {
  node = λ node holds. node_keeps s.objects.ledger t.objects.ledger p e.ledger q node other holds;
  views = e.ledger.views;
  map = e.map q other;
  visible = e.visible q other;
  trusted = e.trusted q other;
  entries = e.stays;
}

-- a step of the book alone
pub same_stays : (q : ℕ) (s t : State) → t.objects ≡ s.objects → EntriesStay s t → StaysFor q s t
same_stays q s t same stays = record {
  node = λ node holds. subst (λ (o : Objects). NodeHolds o.ledger q node) (sym same) holds;
  views = λ d elected. ap (λ (o : Objects). o.ledger.views d) same;
  map = ap (λ (o : Objects). o.map q) same;
  visible = ap (λ (o : Objects). o.visible q) same;
  trusted = ap (λ (o : Objects). o.trusted q) same;
  entries = stays;
}

module _ (version : TreeVersion) (lines : Lines) (strings hashed more : List (List ℕ)) (q : ℕ) (s t : State) (stays_for : StaysFor q s t) (among : AreAmong hashed more) where
  -- what holds of the node of the peer stays so
  pub node_fits : (node : Node) → NodeFits version lines strings hashed s q node → NodeFits version lines strings more t q node
  node_fits (Up x stores) f = record {
    holds = stays_for.node (Up x stores) f.holds;
    listed = f.listed;
    trust = stays_for.trusted ∙ f.trust;
    tree = tree_behind t strings q x.seal stores hashed more among (tree_stays s t strings q x.seal (held_with stores hashed) stays_for.entries stays_for.visible stays_for.map (λ blind. stays_for.trusted ∙ blind) f.tree);
    seal = f.seal;
    mode = f.mode;
    held = f.held;
    sync = sync_stays version lines s t strings q x.fact x.trusted f.tree.last.map stores.tree.top x.sync stays_for.entries f.holds.saved.ballot f.sync;
    fits = phase_stays hash_of s t q x.fact x.phase stays_for.entries stays_for.views f.holds.phase f.fits;
    rests = f.rests;
  }
  node_fits (Down stores) f = record {
    fact = f.fact;
    kept = f.kept;
    saved = saved_stays f.fact f.kept (stays_for.node (Down stores) (record { fact = f.fact; kept = f.kept; saved = f.saved }));
    listed = f.listed;
    seal = f.seal;
    blind = stays_for.trusted ∙ f.blind;
    last = last_over strings q t hashed more (kept_seal stores.facts.kept) (tops_of stores) (tops_of stores) among refl (last_stays strings q s t hashed (kept_seal stores.facts.kept) (tops_of stores) stays_for.entries stays_for.visible stays_for.map f.last);
  }
    where
      same_fact : (o : Option Fact) (a b : Fact) → o ≡ Some a → o ≡ Some b → b ≡ a
      same_fact o a b is_a is_b = same_Some b a (sym is_b ∙ is_a)

      saved_stays : (fact : Fact) → bare stores.facts.kept ≡ Some fact → IsKept t.objects.ledger q (bare stores.facts.kept) → IsSaved t.objects.ledger q fact
      saved_stays fact kept now = subst (IsSaved t.objects.ledger q) (same_fact (bare stores.facts.kept) fact now.fact kept now.kept) now.saved

-- ## Messages

-- messages hold what they held
pub messages_same : (version : TreeVersion) (first : ℕ) (lines : Lines) (strings : List (List ℕ)) (s t : State) (sent : List Frame) → t.objects.ledger ≡ s.objects.ledger → EntriesStay s t → MessagesFit version first lines strings s sent → MessagesFit version first lines strings t sent
messages_same version first lines strings s t sent same stay m = record {
  hold = subst (λ (l : Ledger). All (FrameHolds l) sent) (sym same) m.hold;
  listed = m.listed;
  fit = λ n f later at. message_stays s t strings stay version lines f.from f.message (m.fit n f later at);
  may = m.may;
}

-- the same where another peer takes a step
pub messages_elsewhere : (version : TreeVersion) (first : ℕ) (lines : Lines) (strings : List (List ℕ)) (p : ℕ) (s t : State) (sent : List Frame) → Elsewhere p s t → MessagesFit version first lines strings s sent → MessagesFit version first lines strings t sent
messages_elsewhere version first lines strings p s t sent e m = record {
  hold = frames_keep s.objects.ledger t.objects.ledger p e.ledger sent m.hold;
  listed = m.listed;
  fit = λ n f later at. message_stays s t strings e.stays version lines f.from f.message (m.fit n f later at);
  may = m.may;
}
