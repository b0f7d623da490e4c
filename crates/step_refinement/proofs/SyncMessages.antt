-- The messages of syncs in the step of a peer: a node of the tree is asked for, and one comes.
use Rattle.std.proofs.Common.{◌≡◌, ◌⊎◌, inl, inr, ℕ, Bool, true, false, List, [], ◌++◌, Option, None, Some, Result, Ok, Err, refl, ap, sym, subst, ◌∙◌}
use Rattle.ens_base.specs.declared.entry.Entry.{Entry}
use Rattle.ens_base.specs.declared.epoch.Epoch.{Epoch}
use Rattle.protocol_laws.specs.Numbers.{epoch_number}
use Rattle.protocol_laws.specs.Protocol.{State, state_after}
use Rattle.election_refinement.proofs.Calls.{BeginsNothing}
use Rattle.election_refinement.proofs.Listed.{GoesListed, listed_left, listed_untrusted}
use Rattle.election_refinement.proofs.Requests.{IsHarmless, harmless_goes, row_23_harmless}
use Rattle.election_refinement.proofs.Rows.{saved_in, made_way}
use Rattle.election_refinement.proofs.Tests.{by_test}
use Rattle.election_refinement.proofs.Whole.{here, row_goes, RowGoes}
use Rattle.election_refinement.specs.Listed.{IsListedFact, IsListedPeer, IsListedSync, IsListedThen, SaysListed}
use Rattle.election_refinement.specs.Refinement as ledgers
use Rattle.election_refinement.specs.Refinement.{IsSyncing, MaySync, may_wait}
use Rattle.tree_node.specs.declared.version.TreeVersion.{TreeVersion}
use Rattle.tree_exchange.specs.declared.question.Question.{Question}
use Rattle.phase_rules.specs.Requests.{row_23, gives, gives_read}
use Rattle.peer_refinement.specs.WorldSpec.{answered, Held}
use Rattle.peer_spec.specs.Drives.{row_done, got_ask}
use Rattle.peer_state.specs.Moves.{followed, left, turned}
use Rattle.peer_spec.specs.Syncs.{body_of, tree_give, needs_node, own_node, reached, shown_node, take_give}
use Rattle.peer_state.specs.declared.state.State.{State as PeerState}
use Rattle.stored_formats.specs.declared.fact.Fact.{Fact}
use Rattle.phase_rows.specs.Orders.{is_below, is_same}
use Rattle.register_model.specs.declared.note.Note.{Note}
use Rattle.tree_sync.proofs.Keeping.{fact_stays, scan_stays}
use Rattle.tree_sync.proofs.Messages.{take_go, take_ask}
use Rattle.tree_sync.proofs.Others.{taken_are}
use Rattle.tree_sync.specs.Rows.{row_take}
use Rattle.tree_sync.specs.Running.{Running}
use Rattle.tree_sync.specs.declared.asking.Give.{Give}
use Rattle.step_plans.specs.Calls.{ReadNode}
use Rattle.step_plans.specs.Plans.{Out, Rest, asked}
use Rattle.step_plans.specs.declared.error.PeerError.{PeerError}
use Rattle.step_plans.specs.declared.tasks.Task.{Task}
use Rattle.step_plans.specs.declared.walked.Walked.{Walked}
use Rattle.step_plans.specs.declared.walked.Walked.TheVariants.{Reached as Came, Broken}
use Rattle.step_plans.specs.Saved.{bare}
use Rattle.peer_refinement.specs.SyncLaws.{HasWalked}
use Rattle.peer_refinement.specs.Syncs.{AreHashed, SyncSays, GiveFits}
use Rattle.synctree.specs.Paths.{node_of}
use Rattle.synctree.specs.Sixteen.{form_of}
use Rattle.tree_node.specs.Positions.{IsPosition}
use Rattle.tree_node.specs.declared.body.TreeBody.{TreeBody}
use Rattle.tree_node.specs.declared.body.TreeBody.TheVariants as bodies
use Rattle.tree_node.specs.declared.body.Scan.{Scan}
use Rattle.tree_node.specs.declared.position.Position.{Position}
use Rattle.peer_refinement.proofs.Keeping as keeping
use Rattle.peer_refinement.proofs.Rooted as rooted
use Rattle.peer_refinement.specs.Rooted.{IsShown}
use Rattle.peer_refinement.specs.Trees.{AreAmong}
use Rattle.wire_frames.specs.declared.message.Message.{Message}
use Rattle.phase_rows.specs.declared.phase.PhaseOut.{PhaseOut}
use Rattle.phase_rows.specs.declared.phase.Then.{Then}
use Rattle.phase_rows.specs.declared.phase.Then.TheVariants as thens
use Rattle.phase_rows.proofs.Epochs.{same_epochs}
use Rattle.world_stores.specs.declared.fact.HeldFact.{HeldFact}
use Rattle.step_refinement.proofs.CallByCall.{Ends, Answers, Onward, ask_ends}
use Rattle.step_refinement.specs.Scenes.{Scene, now, AtRest}
use Rattle.step_refinement.proofs.ShownMaps.{tree_sees}
use Rattle.step_refinement.proofs.PhaseMessages.{SaysNothing}
use Rattle.step_refinement.proofs.PhaseRows.{RowAll, row_good}
use Rattle.step_refinement.proofs.PhaseRules.{mute_says}
use Rattle.step_refinement.proofs.ElectionSteps.{entries_there}
use Rattle.step_refinement.proofs.KeptTrust.{spares_same}
use Rattle.step_refinement.proofs.LaterStates.{message_stays}
use Rattle.step_refinement.proofs.SyncSteps.{firm_here, gone_good, laws_here, read_here}
use Rattle.step_refinement.proofs.LeaderTasks.{PhasesNext}
use Rattle.step_refinement.specs.Peers.{MessageFits, IsRooted, SyncFits}

-- ## Rows that begin nothing

no_lead : (turn : Then) (fact : Fact) → BeginsNothing turn → turn ≡ thens.Lead fact → ⊥
no_lead turn fact begins is = subst BeginsNothing is begins

-- the peer follows
listed_follows : {voting : List (List ℕ)} {p : ℕ} {x : PeerState} → IsListedPeer voting p x → IsListedPeer voting p (followed x)
listed_follows old = record { fact = old.fact; phase = tt; sync = tt }

-- the facts of the peer after such a row
turned_listed : (voting : List (List ℕ)) (p : ℕ) (turn : Then) (x : PeerState) → BeginsNothing turn → IsListedPeer voting p x → IsListedPeer voting p (made_way turn (turned p turn x))
turned_listed voting p (thens.SyncOn fact) x begins old = absurd begins
turned_listed voting p (thens.Lead fact) x begins old = absurd begins
turned_listed voting p thens.Follow x begins old = listed_follows old
turned_listed voting p thens.Untrust x begins old = listed_untrusted old
turned_listed voting p other x begins old = old

next_listed : (voting : List (List ℕ)) (turn : Then) → BeginsNothing turn → IsListedThen voting turn
next_listed voting (thens.SyncOn fact) begins = absurd begins
next_listed voting other begins = tt

row_listed : (voting : List (List ℕ)) (p : ℕ) (x : PeerState) (row : PhaseOut) → IsHarmless row → SaysListed voting row.message → IsListedPeer voting p x → GoesListed voting p (x, row)
row_listed voting p x row harmless says old = record {
  peer = turned_listed voting p row.then (saved_in row.save (left row.leave x)) harmless.next (subst (λ (save : Option Fact). IsListedPeer voting p (saved_in save (left row.leave x))) (sym harmless.save) (listed_left row.leave old));
  says = says;
  next = next_listed voting row.then harmless.next;
}

module _ (c : Scene) where
  open c use {lines, version, view, strings, peer as p}

  module _ {key : List ℕ} {x : PeerState} {h : Held} {out : Out} {notes : List Note} (at : AtRest c key x h out notes) (next mark : Rest PeerState (List Task)) (go : Onward c (PhasesNext c) next mark) where
    abbrev s : State
    s = now c at.0.reached

    fits_later : (t : State) (message : Option Message) → ((m : Message) → MessageFits version lines s strings p m → MessageFits version lines t strings p m) → RowAll (MessageFits version lines s strings p) message → RowAll (MessageFits version lines t strings p) message
    fits_later t None later fits = tt
    fits_later t (Some message) later fits = later message fits

    -- a row that begins nothing, and whose message says nothing of calls
    harmless_ends : (row : PhaseOut) → IsHarmless row → SaysListed lines.voting row.message → SaysNothing row.message → RowAll (MessageFits version lines s strings p) row.message → Ends c (row_done p row x out next) (row_done p row x out mark) h notes
    harmless_ends row harmless listed mute fits = row_good c key (x, row) x h out notes at (record {
      goes = goes;
      turns = record { turn = inl refl; leads = λ fact is. absurd (no_lead row.then fact harmless.next is) };
      listed = row_listed lines.voting p x row harmless listed at.0.listed;
      spares = spares_same x;
      says = mute_says at.0.reached.ghosts (state_after view (goes.es ++ at.0.reached.steps)) p row.message mute;
      fits = fits_later (state_after view (goes.es ++ at.0.reached.steps)) row.message (λ m. message_stays s (state_after view (goes.es ++ at.0.reached.steps)) strings (entries_there view goes.es at.0.reached.steps goes.run) version lines p m) fits;
    }) next mark go
      where
        goes : RowGoes view at.0.reached.steps p x (bare h.stores.facts.kept) (x, row)
        goes = row_goes view at.0.reached.steps p c.is_peer at.0.reached.run at.0.reached.orderly at.0.peer (x, row) (harmless_goes (here view at.0.reached.steps p c.is_peer at.0.reached.run at.0.reached.orderly at.0.peer) row harmless)

  -- ## Rule 23: a node is asked for

  -- what the answer holds, if what is given fits
  abbrev MayFit : State → ℕ → Epoch → Question → Bool → Option TreeBody → Type 0
  MayFit s q ballot question trusted None = Unit {0}
  MayFit s q ballot question trusted (Some body) = GiveFits version lines s strings q ballot question trusted body

  module _ (s : State) (trusted : Bool) (from : ℕ) (ballot : Epoch) (at : Position) (after : Option (List ℕ)) where
    gives_fit : (body : TreeBody) → GiveFits version lines s strings p ballot (record { position = at; after = after }) trusted body → RowAll (MessageFits version lines s strings p) (gives trusted from ballot at after body).message
    gives_fit (bodies.Inner mask digests) fits = fits
    gives_fit (bodies.Page entries more) fits = fits
    gives_fit (bodies.Damaged place) fits = tt

    read_fits : (body : Option TreeBody) → MayFit s p ballot (record { position = at; after = after }) trusted body → RowAll (MessageFits version lines s strings p) (gives_read trusted from ballot at after body).message
    read_fits None fits = tt
    read_fits (Some body) fits = gives_fit body fits

    row_fits : (fact : Fact) (body : Option TreeBody) → MayFit s p ballot (record { position = at; after = after }) trusted body → RowAll (MessageFits version lines s strings p) (row_23 fact trusted from ballot at after body).message
    row_fits fact body fits = let P : PhaseOut → Type 0 = λ row. RowAll (MessageFits version lines s strings p) row.message in
        by_test P (is_below ballot fact.ballot) _ _ (λ below. tt) (λ above. by_test P (is_same ballot fact.ballot) _ _ (λ same. read_fits body fits) (λ other. tt))

    gives_mute : (body : TreeBody) → SaysNothing (gives trusted from ballot at after body).message × SaysListed lines.voting (gives trusted from ballot at after body).message
    gives_mute (bodies.Inner mask digests) = (refl, tt)
    gives_mute (bodies.Page entries more) = (refl, tt)
    gives_mute (bodies.Damaged place) = (refl, tt)

    read_mute : (body : Option TreeBody) → SaysNothing (gives_read trusted from ballot at after body).message × SaysListed lines.voting (gives_read trusted from ballot at after body).message
    read_mute None = (tt, tt)
    read_mute (Some body) = gives_mute body

    row_mute : (fact : Fact) (body : Option TreeBody) → SaysNothing (row_23 fact trusted from ballot at after body).message × SaysListed lines.voting (row_23 fact trusted from ballot at after body).message
    row_mute fact body = let P : PhaseOut → Type 0 = λ row. SaysNothing row.message × SaysListed lines.voting row.message in
        by_test P (is_below ballot fact.ballot) _ _ (λ below. (refl, tt)) (λ above. by_test P (is_same ballot fact.ballot) _ _ (λ same. read_mute body) (λ other. (tt, tt)))

  -- what a read of a node tells, in the version of the tree
  walked_so : (h : Held) (m : List Entry) (tree : TreeVersion) (at : Position) → h.stores.tree.version ≡ tree → AreAmong h.hashed strings → (walked : Walked (Option (List ℕ))) → IsShown h m at (Ok walked) → HasWalked tree strings m at walked
  walked_so h m tree at same among (Came found) shown = subst (λ (v : TreeVersion). (found ≡ node_of (form_of v) at m) × AreHashed v strings m) same (shown.0, λ node within. among node (shown.1.texts node within))
  walked_so h m tree at same among (Broken place) shown = tt

  -- a node of the tree is asked for
  pub ask_good : {key : List ℕ} {x : PeerState} {h : Held} {out : Out} {notes : List Note} (rest : AtRest c key x h out notes) (next mark : Rest PeerState (List Task)) → Onward c (PhasesNext c) next mark → (from : ℕ) (ballot : Epoch) (at : Position) (after : Option (List ℕ)) → IsPosition x.mode.tree at
      → Ends c (got_ask p from ballot (record { position = at; after = after }) x out next) (got_ask p from ballot (record { position = at; after = after }) x out mark) h notes
  unfolding asked
  ask_good {key} {x} {h} {out} {notes} rest next mark go from ballot at after position = by_served (is_same ballot x.fact.ballot) refl
    where
      question : Question
      question = record { position = at; after = after }

      -- the tree is of the version of the peer
      same_tree : h.stores.tree.version ≡ x.mode.tree
      same_tree = rest.0.held ∙ sym rest.0.mode

      answers : (body : Option TreeBody) (t : Held) → (there : AtRest c key x t out notes) → MayFit (now c there.0.reached) p ballot question x.trusted body
          → Ends c (row_done p (row_23 x.fact x.trusted from ballot at after body) x out next) (row_done p (row_23 x.fact x.trusted from ballot at after body) x out mark) t notes
      answers body t there fits = let mute = row_mute (now c there.0.reached) x.trusted from ballot at after x.fact body in
          harmless_ends there next mark go (row_23 x.fact x.trusted from ballot at after body) (row_23_harmless x.fact x.trusted from ballot at after body) mute.1 mute.0 (row_fits (now c there.0.reached) x.trusted from ballot at after x.fact body fits)

      read_ends : is_same ballot x.fact.ballot ≡ true
          → Ends c (shown_node x.mode.tree true question x out (λ body y o. row_done p (row_23 y.fact y.trusted from ballot at after body) y o next)) (shown_node x.mode.tree true question x out (λ body y o. row_done p (row_23 y.fact y.trusted from ballot at after body) y o mark)) h notes
      read_ends same = ask_ends keeping.grows c (ReadNode at) _ _ h notes (λ among.
          by_walk among (answered (ReadNode at) h).result refl (rooted.reads strings h rest.0.tree.last.map at c.free among (tree_sees (now c rest.0.reached) strings p x.seal h rest.0.tree) (subst (λ (v : TreeVersion). IsPosition v at) (sym same_tree) position)))
        where
          kept : (answered (ReadNode at) h).held.stores.facts.kept ≡ h.stores.facts.kept
          kept = ap (λ (f : HeldFact). f.kept) (keeping.spares (ReadNode at) h).1

          by_walk : AreAmong (answered (ReadNode at) h).held.hashed strings → (result : Result (Walked (Option (List ℕ))) PeerError) → (answered (ReadNode at) h).result ≡ result → IsShown h rest.0.tree.last.map at result
              → Answers c (ReadNode at) (λ walked. row_done p (row_23 x.fact x.trusted from ballot at after (Some (body_of x.mode.tree question walked))) x out next) (λ walked. row_done p (row_23 x.fact x.trusted from ballot at after (Some (body_of x.mode.tree question walked))) x out mark) h notes
          by_walk among (Ok walked) is found = record {
            answer = walked;
            is = is;
            goes = answers (Some (body_of x.mode.tree question walked)) (answered (ReadNode at) h).held (read_here c rest.0 (ReadNode at) tt kept, rest.1)
                (subst (λ (v : TreeVersion). GiveFits v lines (now c rest.0.reached) strings p ballot question x.trusted (body_of x.mode.tree question walked)) rest.0.mode
                ((laws_here c rest.0.reached).gives x.mode.tree strings p ballot question x.trusted rest.0.tree.last.map walked (firm_here c rest.0.reached) rest.0.trust (rest.0.peer.saved.ballot ∙ ap epoch_number (sym (same_epochs ballot x.fact.ballot same))) rest.0.tree.last.named.stands.is_map
                rest.0.tree.last.says (walked_so h rest.0.tree.last.map x.mode.tree at same_tree (λ a i. among a (keeping.grows (ReadNode at) h a i)) walked found)));
          }
          by_walk among (Err e) is none = absurd none

      by_served : (b : Bool) → is_same ballot x.fact.ballot ≡ b
          → Ends c (shown_node x.mode.tree b question x out (λ body y o. row_done p (row_23 y.fact y.trusted from ballot at after body) y o next)) (shown_node x.mode.tree b question x out (λ body y o. row_done p (row_23 y.fact y.trusted from ballot at after body) y o mark)) h notes
      by_served true same = read_ends same
      by_served false other = answers None h rest tt

  -- ## A node comes

  -- the own node at the position, in a map whose nodes were hashed, or none
  abbrev IsOwnNode : TreeVersion → Position → List Entry → Option (List ℕ) → Type 0
  IsOwnNode tree at m own = (own ≡ None) ⊎ ((own ≡ node_of (form_of tree) at m) × AreHashed tree strings m)

  -- a source sends a node of its tree
  pub give_good : {key : List ℕ} {x : PeerState} {h : Held} {out : Out} {notes : List Note} (rest : AtRest c key x h out notes) (next mark : Rest PeerState (List Task)) → Onward c (PhasesNext c) next mark → (from : ℕ) (give : Give) → IsPosition x.mode.tree give.question.position
      → GiveFits version lines (now c rest.0.reached) strings from give.ballot give.question give.trusted give.body → Ends c (tree_give p from give x out next) (tree_give p from give x out mark) h notes
  unfolding asked
  give_good {key} {x} {h} {out} {notes} rest next mark go from give position fits = by_need (needs_node x.mode.tree from give x.sync)
    where
      at : Position
      at = give.question.position

      takes : (own : Option (List ℕ)) (t : Held) → IsOwnNode x.mode.tree at rest.0.tree.last.map own → (there : AtRest c key x t out notes) → GiveFits version lines (now c there.0.reached) strings from give.ballot give.question give.trusted give.body → there.0.tree.last.map ≡ rest.0.tree.last.map → (sync : Option Running) → x.sync ≡ sync
          → Ends c (take_give x.mode.tree p from give own sync x out next) (take_give x.mode.tree p from give own sync x out mark) t notes
      takes own t is there shows same None none = go [] key x t out notes (tt, there)
      takes own t is there shows same (Some r) runs = gone_good c there next mark go (row_take x.mode.tree from give own r) r
          (record { may = subst (MaySync (now c there.0.reached).objects.ledger x.fact (may_wait x.phase)) (sym (fact_stays x.mode.tree from give own r)) syncing.may; asks = taken_are x.mode.tree p from give own r position.level syncing.asks })
          (subst (IsListedFact lines.voting) (sym (fact_stays x.mode.tree from give own r)) (subst (IsListedSync lines.voting) runs there.0.listed.sync)) (
            subst (λ (v : TreeVersion). SyncSays v lines (now c there.0.reached) strings p x.fact x.trusted there.0.tree.last.map (row_take x.mode.tree from give own r).0) there.0.mode
                ((laws_here c there.0.reached).takes x.mode.tree strings p x.fact x.trusted there.0.tree.last.map r from give own c.free position syncing.asks
                (subst (λ (v : TreeVersion). GiveFits v lines (now c there.0.reached) strings from give.ballot give.question give.trusted give.body) (sym there.0.mode) shows)
                (subst (λ m. IsOwnNode x.mode.tree at m own) (sym same) is)
                (subst (λ (v : TreeVersion). SyncSays v lines (now c there.0.reached) strings p x.fact x.trusted there.0.tree.last.map r) (sym there.0.mode) says.0)),
            subst (λ (scan : Scan). IsRooted scan t.stores.tree.top) (sym (scan_stays x.mode.tree from give own r)) says.1,
          )
          (take_go x.mode.tree p from give own r position.level syncing.asks) (take_ask x.mode.tree p from give own r position.level syncing.asks)
        where
          syncing : IsSyncing (now c there.0.reached).objects.ledger p x.fact (may_wait x.phase) r
          syncing = subst (ledgers.SyncHolds (now c there.0.reached).objects.ledger p x.fact (may_wait x.phase)) runs there.0.peer.sync

          says : SyncFits version lines (now c there.0.reached) strings p x.fact x.trusted there.0.tree.last.map t.stores.tree.top (Some r)
          says = subst (SyncFits version lines (now c there.0.reached) strings p x.fact x.trusted there.0.tree.last.map t.stores.tree.top) runs there.0.sync

      -- the tree is of the version of the peer
      same_tree : h.stores.tree.version ≡ x.mode.tree
      same_tree = rest.0.held ∙ sym rest.0.mode

      read_ends : Ends c (own_node true at x out (λ own y o. take_give x.mode.tree p from give own y.sync y o next)) (own_node true at x out (λ own y o. take_give x.mode.tree p from give own y.sync y o mark)) h notes
      read_ends = ask_ends keeping.grows c (ReadNode at) _ _ h notes (λ among.
          by_walk among (answered (ReadNode at) h).result refl (rooted.reads strings h rest.0.tree.last.map at c.free among (tree_sees (now c rest.0.reached) strings p x.seal h rest.0.tree) (subst (λ (v : TreeVersion). IsPosition v at) (sym same_tree) position)))
        where
          kept : (answered (ReadNode at) h).held.stores.facts.kept ≡ h.stores.facts.kept
          kept = ap (λ (f : HeldFact). f.kept) (keeping.spares (ReadNode at) h).1

          own_is : (walked : Walked (Option (List ℕ))) → HasWalked x.mode.tree strings rest.0.tree.last.map at walked → IsOwnNode x.mode.tree at rest.0.tree.last.map (reached walked)
          own_is (Came found) is = inr is
          own_is (Broken place) is = inl refl

          by_walk : AreAmong (answered (ReadNode at) h).held.hashed strings → (result : Result (Walked (Option (List ℕ))) PeerError) → (answered (ReadNode at) h).result ≡ result → IsShown h rest.0.tree.last.map at result
              → Answers c (ReadNode at) (λ walked. take_give x.mode.tree p from give (reached walked) x.sync x out next) (λ walked. take_give x.mode.tree p from give (reached walked) x.sync x out mark) h notes
          by_walk among (Ok walked) is found = record {
            answer = walked;
            is = is;
            goes = takes (reached walked) (answered (ReadNode at) h).held (own_is walked (walked_so h rest.0.tree.last.map x.mode.tree at same_tree (λ a i. among a (keeping.grows (ReadNode at) h a i)) walked found)) (read_here c rest.0 (ReadNode at) tt kept, rest.1) fits refl x.sync refl;
          }
          by_walk among (Err e) is none = absurd none

      by_need : (b : Bool) → Ends c (own_node b at x out (λ own y o. take_give x.mode.tree p from give own y.sync y o next)) (own_node b at x out (λ own y o. take_give x.mode.tree p from give own y.sync y o mark)) h notes
      by_need true = read_ends
      by_need false = takes None h (inl refl) rest fits refl x.sync refl
