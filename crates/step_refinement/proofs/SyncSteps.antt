-- A sync in the step of a peer: it begins, asks again, takes what a source sends, and ends. At its end the
-- peer installs the merged map and accepts the epoch that it promised.
use Rattle.std.specs.Option.{is_some}
use Rattle.std.specs.List.{AllByRecursion}
use Rattle.std.specs.Prelude.{All, nat_le, not, ◌&&◌, ◌||◌, ◌==◌}
use Rattle.std.proofs.Common.{◌≡◌, ◌⊎◌, inl, inr, ◌<◌, ◌^◌, ℕ, Bool, true, false, List, [], ◌∷◌, ◌++◌, get_or, length, map, Option, None, Some, Result, Ok, Err, refl, ap, sym, subst, ◌∙◌}
use Rattle.std.proofs.lemmas.Bool.{true≢false}
use Rattle.std.proofs.lemmas.List.Elements.{All-nil, All-cons}
use Rattle.std.proofs.lemmas.Option.{none-some}
use Rattle.ens_base.specs.Views.{last_view}
use Rattle.ens_base.specs.declared.entry.Entry.{Entry}
use Rattle.ens_base.specs.declared.epoch.Epoch.{Epoch}
use Rattle.protocol_laws.specs.Ledger.{Ledger, Place, put}
use Rattle.protocol_laws.specs.Numbers.{epoch_number}
use Rattle.protocol_laws.specs.Objects.{Map, IsHonest, MayEndSync}
use Rattle.protocol_laws.specs.Protocol.{State, Step, Install, EndSync, MayCome, happens}
use Rattle.phase_rules.specs.declared.election.Election.TheVariants.{Preparing, Starting}
use Rattle.protocol_laws.proofs.Epochs.{not_empty, run_elections}
use Rattle.protocol_laws.proofs.Sound.{run_sound}
use Rattle.election_refinement.proofs.Keeps.{keeps_none, join_keeps, sends_keep}
use Rattle.election_refinement.proofs.Listed.{listed_synced, listed_counts_itself, listed_sync}
use Rattle.election_refinement.proofs.Reaching.{Course, join_reaches}
use Rattle.election_refinement.proofs.Saving.{first_saved}
use Rattle.election_refinement.proofs.Syncing.{questions_hold, acceptance_holds, phase_joins, counts_itself}
use Rattle.election_refinement.proofs.Tests.{by_test}
use Rattle.election_refinement.specs.Listed.{IsListedFact, IsListedMessage, IsListedPeer, IsListedSync}
use Rattle.election_refinement.specs.Refinement as ledgers
use Rattle.election_refinement.specs.Refinement.{PhaseHolds, IsFirst, IsSaved, IsOrderly, IsSyncing, MaySync, change_at, may_wait}
use Rattle.protocol_laws.proofs.Later.{stay_step}
use Rattle.protocol_laws.specs.Stays.{EntriesStay}
use Rattle.peer_refinement.specs.WorldSpec.{Answered, answered, with_facts, Held}
use Rattle.role_laws.proofs.Roles.{run_roles}
use Rattle.role_laws.specs.Roles.{RolesHold}
use Rattle.leader_refinement.specs.Seen.{rank, owed_after}
use Rattle.leader_output.specs.declared.out.Outgoing.{Outgoing}
use Rattle.peer_state.specs.Moves.{electing, keeps_seal, without_sync}
use Rattle.peer_spec.specs.Syncs.{sealed_if, and_sends, with_sync, installed, accepted, accepted_in, end_sync, by_outcome, go_on, start_sync, resume_sync}
use Rattle.peer_state.specs.declared.state.Phase.{Phase}
use Rattle.peer_state.specs.declared.state.Phase.TheVariants as phases
use Rattle.peer_state.specs.declared.state.State.{State as PeerState}
use Rattle.stored_formats.specs.declared.fact.Change.TheVariants as changes
use Rattle.stored_formats.specs.declared.fact.Fact.{Fact}
use Rattle.phase_rows.specs.Peers.{joined}
use Rattle.phase_rows.specs.declared.rules.PhaseRule.TheVariants as phase_rules
use Rattle.register_model.specs.declared.note.Note.{Note}
use Rattle.tree_sync.proofs.Messages.{start_go, resume_go, start_ask, resume_ask}
use Rattle.tree_sync.proofs.Others.{asks_are, resumed_are}
use Rattle.tree_sync.specs.Rows.{row_start, row_resume}
use Rattle.tree_sync.specs.Running.{Running}
use Rattle.tree_sync.specs.Sends.{MayGo, AsksAt, IsQuestion}
use Rattle.role_laws.specs.Kept.{IsSealed, RootHolds}
use Rattle.step_plans.specs.Saved.{bare, kept_seal, with_seal}
use Rattle.step_plans.specs.Calls.{Call, ScanTree, Install as InstallTree, Save, Root}
use Rattle.step_plans.specs.Plans.{Ask, Out, Rest, asked}
use Rattle.step_plans.specs.declared.error.PeerError.{PeerError}
use Rattle.step_plans.specs.declared.error.PeerError.TheVariants.{StoreFault}
use Rattle.step_plans.specs.declared.tasks.Task.{Task}
use Rattle.step_plans.specs.declared.tasks.Task.TheVariants as tasks
use Rattle.role_laws.proofs.Gives.{may_end}
use Rattle.role_laws.specs.Facts as facts
use Rattle.role_laws.specs.Peers as Theory
use Rattle.peer_refinement.proofs.Assembled.{laws as run_syncs}
use Rattle.peer_refinement.proofs.Firsts.{seen_first}
use Rattle.peer_refinement.proofs.SyncStaying.{version_stays, entries_stay}
use Rattle.peer_refinement.specs.SyncLaws.{AreFewKeys, FirmAreKept, SyncEnds, SyncLaws}
use Rattle.peer_refinement.specs.Seen.{ranks, seen_fact, seen_tree}
use Rattle.peer_refinement.specs.Syncs.{TreeSays, MayReturn, AreHashed}
use Rattle.tree_sync.specs.Syncs.{outcome_of, needs_build, is_clean, is_none, same_entries}
use Rattle.tree_sync.specs.declared.sync.Outcome.{Outcome}
use Rattle.tree_sync.specs.declared.sync.Outcome.TheVariants.{Pending, Trusted}
use Rattle.synctree.specs.Sixteen.{form_of}
use Rattle.tree_node.specs.Positions.{IsPosition}
use Rattle.tree_node.specs.declared.body.Scan.{Scan}
use Rattle.tree_node.specs.declared.position.Position.{Position}
use Rattle.tree_node.specs.declared.version.TreeVersion.{TreeVersion}
use Rattle.tree_node.specs.declared.version.TreeVersion.TheVariants.{Two}
use Rattle.tree_repair.specs.Scans.{lost}
use Rattle.peer_refinement.proofs.Damage.{scan_positions}
use Rattle.peer_refinement.proofs.Keeping as keeping
use Rattle.peer_refinement.proofs.Rooted as rooted
use Rattle.peer_refinement.proofs.Rooted.{version_kept_so, root_kept_so}
use Rattle.peer_refinement.proofs.Tops.{installs as installs_tops, named_behind}
use Rattle.peer_refinement.specs.TreeLaws.{KeepsRoot}
use Rattle.peer_refinement.specs.Rooted.{LosesAll, IsSeen}
use Rattle.peer_refinement.specs.Tops.{HasBuilt, IsNamed, IsTorn, IsWritten, NamesNext, tops_of}
use Rattle.peer_refinement.specs.Trees.{AreAmong, Shows}
use Rattle.protocol_laws.proofs.Maps.{put_here, put_other}
use Rattle.protocol_laws.proofs.Trees.{run_versions}
use Rattle.protocol_laws.proofs.Views.{last_view_in}
use Rattle.wire_frames.specs.declared.message.Message.TheVariants as messages
use Rattle.wire_frames.specs.declared.message.Message.{Message}
use Rattle.world_stores.specs.Nodes.{top_of}
use Rattle.world_stores.specs.declared.fact.HeldFact.{HeldFact}
use Rattle.step_refinement.proofs.CallByCall.{Ends, Answers, IsRefused, Onward, ask_ends, ask_may_end, rest_task}
use Rattle.step_refinement.specs.Keys.{AreFew}
use Rattle.step_refinement.specs.Scenes.{Scene, Reached, state_before, now, Elsewhere, Here, AtRest, Rests}
use Rattle.step_refinement.proofs.CalledKeys.{run_keys_below, length_keys, key_from}
use Rattle.step_refinement.proofs.Stretches.{elsewhere_then}
use Rattle.step_refinement.proofs.StoreAnswers.{HasEither, SaveEnds, Saves, Refuses, save_ends}
use Rattle.step_refinement.proofs.Refusals.{Halts, rests_down, rests_over, rests_sealed}
use Rattle.step_refinement.proofs.SentMessages.{SaysSo, SendSaysSo, says_nothing, tells_more}
use Rattle.step_refinement.proofs.LaterStates.{phase_stays, sends_stay}
use Rattle.step_refinement.proofs.LeaderTasks.{PhasesNext}
use Rattle.step_refinement.proofs.ShownMaps.{IsSealOf, seal_on, tops_behind, tops_next, tops_stay, seal_names, next_top, last_stays, last_under, last_written, tree_kept, tree_sees, written_root}
use Rattle.step_refinement.specs.Peers.{MessageFits, SendFits, TopsReturn, LastMap, SealFits, IsRooted, SyncFits}
use Rattle.step_refinement.specs.Roles.{role_in, said_in_sends}

-- ## Questions

-- what holds of each question holds of a message that asks
by_question : (P : Message → Type 0) (ballot : Epoch) (message : Message) → ((epoch : Epoch) (at : Position) (after : Option (List ℕ)) → P (messages.TreeAsk epoch at after)) → AsksAt ballot message → P message
by_question P ballot (messages.TreeAsk epoch at after) holds asks = holds epoch at after
by_question P ballot message holds asks = absurd asks

-- and of each message of a sync that asks
pub asked_each : (P : Message → Type 0) (r : Running) (more : List Outgoing) → ((epoch : Epoch) (at : Position) (after : Option (List ℕ)) → P (messages.TreeAsk epoch at after)) → All (IsQuestion r) more → All (λ (o : Outgoing). P o.message) more
asked_each P r more holds ask n o at = by_question P r.fact.epoch (get_or more n o).message holds (ask n o at).1

-- ## First facts

-- a first fact tells no change
first_change : (l : Ledger) (f : Fact) → IsFirst l f → f.change ≡ changes.None
first_change l f first = first.known.change ∙ ap (λ (n : ℕ). change_at l (record { epoch = epoch_number f.epoch; seq = n })) first.seq

first_seen : (l : Ledger) (f : Fact) → IsFirst l f → facts.IsFirst l (seen_fact f)
first_seen l f first = seen_first l f first.known.below first.known.elected first.seq first.later first.own_ballot first.known.views (first_change l f first)

-- ## Scans and seals

-- the entries stay as they are only if the scan was clean
clean_kept : (a b : Bool) → not (a && b) ≡ false → a ≡ true
clean_kept true b is = refl
clean_kept false b is = absurd (true≢false is)

-- a peer that is to keep no seal has none
seals_none : (sealing : Bool) (seal : Option (List ℕ)) → (sealing || is_some seal) ≡ false → seal ≡ None
seals_none true seal keeps = absurd (true≢false keeps)
seals_none false None keeps = refl
seals_none false (Some seal) keeps = absurd (true≢false keeps)

-- a scan that lost each key is not clean
unclean : (damaged : List Position) → ((key : List ℕ) → lost (form_of Two) damaged key ≡ true) → is_none damaged ≡ true → ⊥
unclean [] loses clean = true≢false (sym (loses []))
unclean (p ∷ ps) loses clean = true≢false (sym clean)

-- a clean scan is that of a tree with a root
clean_rooted : (h : Held) (m : List Entry) (scan : Scan) → LosesAll scan ⊎ Shows h m → IsRooted scan h.stores.tree.top
clean_rooted h m scan (inl loses) clean none = unclean scan.damaged loses clean
clean_rooted h m scan (inr shows) clean none = none-some shows.digest (sym none ∙ shows.top)

-- ## Steps of the end of a sync

-- a step that the others do not see, from which the peer's tree or its trust may change
elsewhere_install : (p d : ℕ) (m : Map) (s : State) → MayCome s (Install p d m) → Elsewhere p s (happens s (Install p d m))
elsewhere_install p d m s may = record {
  ledger = keeps_none s.objects.ledger p;
  map = λ q other. put_other s.objects.map p m q other;
  visible = λ q other. put_other s.objects.visible p m q other;
  trusted = λ q other. refl;
  reverted = λ q. refl;
  stays = stay_step s (Install p d m) may;
  calls = refl;
  called = refl;
  answers = refl;
  answered = refl;
  now = refl;
}

elsewhere_end : (p d : ℕ) (s : State) → s.objects.ledger.ballot p ≡ d → MayCome s (EndSync p d) → Elsewhere p s (happens s (EndSync p d))
elsewhere_end p d s stands may = record {
  ledger = join_keeps s.objects.ledger p d stands;
  map = λ q other. refl;
  visible = λ q other. refl;
  trusted = λ q other. put_other s.objects.trusted p true q other;
  reverted = λ q. refl;
  stays = stay_step s (EndSync p d) may;
  calls = refl;
  called = refl;
  answers = refl;
  answered = refl;
  now = refl;
}

module _ (c : Scene) where
  open c use {lines, version, view, strings, peer as p}

  -- the run goes on with a step that leaves the others, and what was acknowledged
  abbrev goes_on : (r : Reached c) (e : Step) (may : MayCome (now c r) e) → Elsewhere p (now c r) (happens (now c r) e) → IsOrderly (happens (now c r) e).objects.ledger → (happens (now c r) e).objects.acked ≡ (now c r).objects.acked → Reached c
  goes_on r e may moved orderly same = record {
    steps = e ∷ r.steps;
    run = (r.run, may);
    ghosts = r.ghosts;
    hash = r.hash;
    elsewhere = elsewhere_then p (state_before c) (now c r) (happens (now c r) e) r.elsewhere moved;
    orderly = orderly;
    acks = λ v q fits acked. version_stays (now c r) (happens (now c r) e) strings (stay_step (now c r) e may) v (r.acks v q fits (subst (λ (f : ℕ → ℕ → Bool). f (rank v) q ≡ true) same acked));
  }

  -- the laws of syncs in the state that the step has reached
  pub laws_here : (r : Reached c) → SyncLaws lines (now c r)
  laws_here r = run_syncs lines view r.steps r.run

  -- no firm peer was reverted
  pub firm_here : (r : Reached c) → FirmAreKept lines (now c r)
  firm_here r q firm = r.elsewhere.reverted q ∙ c.firm q firm

  few_here : (r : Reached c) → AreFewKeys (now c r)
  few_here r m proposed keys distinct = subst (λ (n : ℕ). n < 2 ^ 32) (length_keys m)
      (run_keys_below view r.steps r.run (subst AreFew (sym r.elsewhere.calls) c.few) (map (λ (e : Entry). e.key) m) distinct (key_from (λ k. (v : ℕ) × ((now c r).objects.proposed v ≡ true) × ((now c r).objects.key v ≡ k)) m (λ e at. (rank e.version, proposed e at, sym (keys e at)))))

  -- ## What a sync sends

  -- the peer asks these questions
  abbrev pub asks_here : {key : List ℕ} {x : PeerState} {h : Held} {out : Out} {notes : List Note} → (here : Here c key x h out notes) → (r : Running) (more : List Outgoing) → All (MayGo p) more → All (IsQuestion r) more → Here c key x h (and_sends out more) notes
  asks_here {key} {x} {h} {out} {notes} here r more go ask = tells_more c key x h out notes more here (questions_hold (now c here.reached).objects.ledger p r more go ask)
      (asked_each (IsListedMessage lines.voting) r more (λ epoch place after. tt) ask)
      (asked_each (MessageFits version lines (now c here.reached) strings p) r more (λ epoch place after. tt) ask)
      (asked_each (SaysSo here.reached.ghosts (now c here.reached) p) r more (λ epoch place after. says_nothing here.reached.ghosts (now c here.reached) p (messages.TreeAsk epoch place after) refl) ask)

  -- ## A sync runs on

  module _ {key : List ℕ} {x : PeerState} {h : Held} {out : Out} {notes : List Note} (here : Here c key x h out notes) where
    -- this sync runs
    abbrev pub runs_here : (r : Running) → IsSyncing (now c here.reached).objects.ledger p x.fact (may_wait x.phase) r → IsListedFact lines.voting r.fact → SyncFits version lines (now c here.reached) strings p x.fact x.trusted here.tree.last.map h.stores.tree.top (Some r) → Here c key (with_sync r x) h out notes
    runs_here r syncing listed says = record {
      reached = here.reached;
      roles = here.roles;
      peer = record { saved = here.peer.saved; kept = here.peer.kept; phase = here.peer.phase; sync = syncing };
      listed = listed_sync (Some r) listed here.listed;
      trust = here.trust;
      tree = here.tree;
      seal = here.seal;
      mode = here.mode;
      held = here.held;
      sync = says;
      fits = here.fits;
      task = here.task;
      noted = here.noted;
      sends = here.sends;
      listed_sends = here.listed_sends;
      fits_sends = here.fits_sends;
    }

    -- no sync runs
    abbrev pub alone_here : Here c key (without_sync x) h out notes
    alone_here = record {
      reached = here.reached;
      roles = here.roles;
      peer = record { saved = here.peer.saved; kept = here.peer.kept; phase = here.peer.phase; sync = tt };
      listed = listed_sync None tt here.listed;
      trust = here.trust;
      tree = here.tree;
      seal = here.seal;
      mode = here.mode;
      held = here.held;
      sync = tt;
      fits = here.fits;
      task = here.task;
      noted = here.noted;
      sends = here.sends;
      listed_sends = here.listed_sends;
      fits_sends = here.fits_sends;
    }

  -- ## The end of a sync, until its fact is saved

  module _ {key : List ℕ} {x : PeerState} {h : Held} {out : Out} {notes : List Note} (at : AtRest c key x h out notes) (r : Running) (entries : List Entry) (may : MaySync (now c at.0.reached).objects.ledger x.fact (may_wait x.phase) r.fact) (listed : IsListedFact lines.voting r.fact)
      (ends : SyncEnds (now c at.0.reached) strings p at.0.tree.last.map r entries) (rooted : IsRooted r.sync.scan h.stores.tree.top) where
    abbrev s : State
    s = now c at.0.reached

    abbrev d : ℕ
    d = epoch_number r.fact.epoch

    -- ## The steps

    may_install : MayCome s (Install p d (ranks entries))
    may_install = (ends.may, tt)

    abbrev t : State
    t = happens s (Install p d (ranks entries))

    stay : EntriesStay s t
    stay = stay_step s (Install p d (ranks entries)) may_install

    abbrev reached : Reached c
    reached = goes_on at.0.reached (Install p d (ranks entries)) may_install (elsewhere_install p d (ranks entries) s may_install) at.0.reached.orderly refl

    roles_on : RolesHold at.0.reached.ghosts t (put c.roles p (role_in key x.phase (owed_after [] out.answers))) (said_in_sends p out.sends ++ c.said)
    roles_on = (run_roles view at.0.reached.steps at.0.reached.run).silent at.0.reached.ghosts (put c.roles p (role_in key x.phase (owed_after [] out.answers))) (said_in_sends p out.sends ++ c.said) (Install p d (ranks entries)) may_install tt at.0.roles

    -- the sync may end then
    finishes : MayEndSync t.objects p d
    finishes = may_end lines s (run_versions view at.0.reached.steps at.0.reached.run) p (seen_fact x.fact) (seen_tree at.0.tree.last.map) x.trusted Theory.Following d (ranks entries) ends.may

    stands : t.objects.ledger.ballot p ≡ d
    stands = at.0.peer.saved.ballot ∙ ap epoch_number (sym may.promised)

    may_join : MayCome t (EndSync p d)
    may_join = ((record { elected = may.first.known.elected; stands = stands; newer = subst (λ (place : Place). place.epoch < d) (sym at.0.peer.saved.place) may.newer }, finishes), tt)

    abbrev later : State
    later = happens t (EndSync p d)

    stay_on : EntriesStay t later
    stay_on = stay_step t (EndSync p d) may_join

    -- the ledger stays orderly
    abbrev course : Course
    course = record { view = view; steps = reached.steps; peer = p; is_peer = c.is_peer; joins = Unit {0} }

    orderly : IsOrderly later.objects.ledger
    orderly = (join_reaches course t.objects.ledger (record { more = []; kinds = tt; run = reached.run; same = refl; orderly = reached.orderly }) tt d may.first.later may.first.known.elected stands (subst (λ (place : Place). place.epoch < d) (sym at.0.peer.saved.place) may.newer)).orderly

    abbrev reached_on : Reached c
    reached_on = goes_on reached (EndSync p d) may_join (elsewhere_end p d t stands may_join) orderly refl

    roles_joined : RolesHold at.0.reached.ghosts later (put c.roles p (role_in key x.phase (owed_after [] out.answers))) (said_in_sends p out.sends ++ c.said)
    roles_joined = (run_roles view reached.steps reached.run).silent at.0.reached.ghosts (put c.roles p (role_in key x.phase (owed_after [] out.answers))) (said_in_sends p out.sends ++ c.said) (EndSync p d) may_join tt roles_on

    -- ## The stores

    -- what the tree shows then
    says_merged : TreeSays t strings p entries
    says_merged = record { entries = entries_stay s t strings stay entries ends.entries_say; visible = λ k. ap (λ (m : Map). m k) (put_here s.objects.visible p (ranks entries)) }

    return_merged : MayReturn t strings p entries
    return_merged = (run_syncs lines view reached.steps reached.run).may_return strings p entries ends.is_map says_merged

    honest_merged : IsHonest t.objects p
    honest_merged k = ap (λ (m : Map). m k) (put_here s.objects.visible p (ranks entries)) ∙ sym (ap (λ (m : Map). m k) (put_here s.objects.map p (ranks entries)))

    -- without a seal each map that a top record names may still return
    tops_on : x.seal ≡ None → TopsReturn t strings h.hashed p (tops_of h.stores)
    tops_on none = tops_stay s t strings h.hashed p (tops_of h.stores) stay (at.0.tree.last.returns none)

    -- the tree has the merged map
    record Merged (u : Held) : Type 0 where
      hashed : AreAmong h.hashed u.hashed
      digest : List ℕ
      root : u.stores.tree.top ≡ Some digest
      same_version : u.stores.tree.version ≡ h.stores.tree.version
      top : top_of (tops_of u.stores) ≡ Some digest
      named : IsNamed u.hashed digest entries
      returns : x.seal ≡ None → TopsReturn t strings u.hashed p (tops_of u.stores)

    -- more strings were hashed
    abbrev merged_over : (u v : Held) → tops_of v.stores ≡ tops_of u.stores → v.stores.tree.top ≡ u.stores.tree.top → v.stores.tree.version ≡ u.stores.tree.version → AreAmong u.hashed v.hashed → Merged u → Merged v
    merged_over u v tops root one_version among m = record {
      hashed = λ a i. among a (m.hashed a i);
      digest = m.digest;
      root = root ∙ m.root;
      same_version = one_version ∙ m.same_version;
      top = ap top_of tops ∙ m.top;
      named = named_behind u.hashed v.hashed m.digest entries among m.named;
      returns = λ none. subst (λ (all : List (List ℕ)). TopsReturn t strings v.hashed p all) (sym tops) (tops_behind t strings u.hashed v.hashed p (tops_of u.stores) among (m.returns none));
    }

    -- the peer keeps the merged map under this seal, or without one
    abbrev last_merged : (seal : Option (List ℕ)) (u : Held) (m : Merged u) → IsSealOf seal m.digest → (seal ≡ None → x.seal ≡ None) → LastMap t strings u.hashed p seal (tops_of u.stores)
    last_merged seal u m names unsealed = record {
      digest = m.digest;
      is = seal_names (top_of (tops_of u.stores)) seal m.digest m.top names;
      map = entries;
      named = m.named;
      says = says_merged;
      honest = λ sealed. honest_merged;
      returns = λ none. m.returns (unsealed none);
    }

    -- ## The peer is down

    abbrev halted : Halts c x notes
    halted = record { reached = reached; role = role_in key x.phase (owed_after [] out.answers); sends = out.sends; roles = roles_on; saved = at.0.peer.saved; listed = at.0.listed.fact; noted = at.0.noted }

    -- the fact that it had has the seal that it had
    seal_kept : (u : Held) → u.stores.facts.kept ≡ h.stores.facts.kept → SealFits lines (kept_seal u.stores.facts.kept)
    seal_kept u same = subst (SealFits lines) (sym (ap kept_seal same ∙ at.0.tree.sealed)) at.0.seal

    -- over the fact that it had: without a seal the map was installed, and with one nothing has happened
    rests_merged : (u : Held) → u.stores.facts.kept ≡ h.stores.facts.kept → Merged u → Rests c u notes
    rests_merged u same m = by_seal x.seal refl
      where
        by_seal : (seal : Option (List ℕ)) → x.seal ≡ seal → Rests c u notes
        by_seal None none = rests_down c halted u (ap bare same ∙ at.0.peer.kept) (seal_kept u same) (last_under strings p t u.hashed x.seal (kept_seal u.stores.facts.kept) (tops_of u.stores) (ap kept_seal same ∙ at.0.tree.sealed) (last_merged x.seal u m (inl none) (λ is. is)))
        by_seal (Some seal) is = rests_sealed c at.0 u same m.hashed (subst IsSealed (sym is) tt)

    -- the building of the tree is refused
    spared : (answered (InstallTree entries) h).held.stores.facts.kept ≡ h.stores.facts.kept
    spared = ap (λ (f : HeldFact). f.kept) (keeping.spares (InstallTree entries) h).1

    torn_rests : (e : PeerError) → IsTorn entries h e (answered (InstallTree entries) h).held → Rests c (answered (InstallTree entries) h).held notes
    torn_rests e torn = by_tops torn.1
      where
        u : Held
        u = (answered (InstallTree entries) h).held

        left_new : NamesNext entries h u → (seal : Option (List ℕ)) → x.seal ≡ seal → Rests c u notes
        left_new next None none = rests_down c halted u (ap bare spared ∙ at.0.peer.kept) (seal_kept u spared) (last_under strings p t u.hashed x.seal (kept_seal u.stores.facts.kept) (tops_of u.stores) (ap kept_seal spared ∙ at.0.tree.sealed)
            (last_written strings p t h u x.seal entries next (inl none) (keeping.grows (InstallTree entries) h) says_merged honest_merged return_merged tops_on))
        left_new next (Some seal) is = rests_sealed c at.0 u spared (keeping.grows (InstallTree entries) h) (subst IsSealed (sym is) tt)

        by_tops : (tops_of u.stores ≡ tops_of h.stores) ⊎ NamesNext entries h u → Rests c u notes
        by_tops (inl same) = rests_over c at.0 u spared same (keeping.grows (InstallTree entries) h)
        by_tops (inr next) = left_new next x.seal refl

    -- ## The tree is built if that is needed

    built_merged : IsWritten entries h (answered (InstallTree entries) h).held → Merged (answered (InstallTree entries) h).held
    built_merged written = let u : Held = (answered (InstallTree entries) h).held in record {
      hashed = keeping.grows (InstallTree entries) h;
      digest = written.next.digest;
      root = written_root h u entries written;
      same_version = keeping.versions (InstallTree entries) h tt;
      top = next_top h u entries written.next;
      named = written.next.named;
      returns = λ none. subst (λ (tops : List (List ℕ)). TopsReturn t strings u.hashed p tops) (sym written.next.tops)
          (tops_next t strings u.hashed p (tops_of h.stores) written.next.digest entries written.next.named return_merged (tops_behind t strings h.hashed u.hashed p (tops_of h.stores) (keeping.grows (InstallTree entries) h) (tops_on none)));
    }

    -- a tree that is not built has the merged map already, and a root, since its scan was clean
    kept_merged : needs_build r.sync.scan entries ≡ false → Merged h
    kept_merged is = by_root at.0.tree.root
      where
        by_root : RootHolds s.objects p (top_of (tops_of h.stores)) x.seal h.stores.tree.top → Merged h
        by_root (inl root) = let last = at.0.tree.last in record {
          hashed = λ a i. i;
          digest = last.digest;
          root = root.1 ∙ last.is;
          same_version = refl;
          top = sym root.0 ∙ (root.1 ∙ last.is);
          named = subst (λ (m : List Entry). IsNamed h.hashed last.digest m) (sym (ends.kept is)) last.named;
          returns = tops_on;
        }
        by_root (inr none) = absurd (rooted (clean_kept (is_clean r.sync.scan) (same_entries r.sync.scan.entries entries) is) none.0)

    installed_ends : (builds : Bool) → needs_build r.sync.scan entries ≡ builds → (next mark : Rest PeerState (Unit {0})) → ((u : Held) → u.stores.facts.kept ≡ h.stores.facts.kept → Merged u → Ends c (next tt x out) (mark tt x out) u notes)
        → Ends c (installed builds entries x out next) (installed builds entries x out mark) h notes
    unfolding asked
    installed_ends false is next mark go = go h refl (kept_merged is)
    installed_ends true is next mark go = ask_may_end keeping.grows c (InstallTree entries) (λ u. next u x out) (λ u. mark u x out) h notes (λ among. by_end (answered (InstallTree entries) h).result refl (installs_tops h entries ends.is_map))
      where
        by_end : (result : Result (Unit {0}) PeerError) → (answered (InstallTree entries) h).result ≡ result → HasBuilt entries h result (answered (InstallTree entries) h).held
            → Answers c (InstallTree entries) (λ u. next u x out) (λ u. mark u x out) h notes ⊎ IsRefused c (InstallTree entries) h notes
        by_end (Ok done) is written = inl (record { answer = tt; is = is; goes = go (answered (InstallTree entries) h).held spared (built_merged written) })
        by_end (Err e) is torn = inr (record { error = e; is = is; rests = torn_rests e torn })

    -- ## The fact is saved

    -- the peer then: it accepted the epoch that it promised, and trusts its tree
    abbrev joined_state : Option (List ℕ) → PeerState
    joined_state seal = record x { fact = r.fact; seal = seal; trusted = true; sync = None }

    saved_new : IsSaved later.objects.ledger p r.fact
    saved_new = first_saved t.objects.ledger later.objects.ledger p r.fact (join_keeps t.objects.ledger p d stands) may.first stands (put_here t.objects.ledger.fact p (record { epoch = d; seq = 1 }))

    listed_new : (seal : Option (List ℕ)) → IsListedPeer lines.voting p (joined_state seal)
    listed_new seal = let l = listed_synced r.fact listed at.0.listed in record { fact = l.fact; phase = l.phase; sync = l.sync }

    abbrev joined_here : (seal : Option (List ℕ)) (u : Held) → u.stores.facts.kept ≡ Some (with_seal seal r.fact) → (m : Merged u) → IsSealOf seal m.digest → (seal ≡ None → x.seal ≡ None) → AtRest c key (joined_state seal) u out notes
    joined_here seal u kept m names unsealed = (
      record {
        reached = reached_on;
        roles = roles_joined;
        peer = record { saved = saved_new; kept = ap bare kept; phase = phase_joins t.objects.ledger p x.fact r.fact x.phase stands may at.0.peer.phase; sync = tt };
        listed = listed_new seal;
        trust = put_here t.objects.trusted p true;
        seal = seal_on lines x.seal seal unsealed at.0.seal;
        mode = at.0.mode;
        held = m.same_version ∙ at.0.held;
        tree = record {
          last = last_stays strings p t later u.hashed seal (tops_of u.stores) stay_on refl refl (last_merged seal u m names unsealed);
          sealed = ap kept_seal kept;
          root = inl (m.root ∙ sym m.top, m.root ∙ sym (seal_names (top_of (tops_of u.stores)) seal m.digest m.top names));
        };
        sync = tt;
        fits = phase_stays at.0.reached.ghosts.hash t later p x.fact x.phase stay_on (λ e elected. refl) at.0.peer.phase (phase_stays at.0.reached.ghosts.hash s t p x.fact x.phase stay (λ e elected. refl) at.0.peer.phase at.0.fits);
        task = rest_task later key x.phase at.1;
        noted = at.0.noted;
        sends = sends_keep t.objects.ledger later.objects.ledger p (join_keeps t.objects.ledger p d stands) p out.sends at.0.sends;
        listed_sends = at.0.listed_sends;
        fits_sends = sends_stay t later strings stay_on version lines p out.sends (sends_stay s t strings stay version lines p out.sends at.0.fits_sends);
      },
      at.1,
    )

    -- what follows once the fact is saved
    abbrev Saved : Rest PeerState (Unit {0}) → Rest PeerState (Unit {0}) → Type 0
    Saved next mark = (seal : Option (List ℕ)) (u : Held) → AtRest c key (joined_state seal) u out notes → Ends c (next tt (record x { fact = r.fact; seal = seal }) out) (mark tt (record x { fact = r.fact; seal = seal }) out) u notes

    -- the fact is saved with this seal, or the save is refused
    saves_end : (seal : Option (List ℕ)) (u : Held) → u.stores.facts.kept ≡ h.stores.facts.kept → (m : Merged u) → IsSealOf seal m.digest → (seal ≡ None → x.seal ≡ None) → (next mark : Rest PeerState (Unit {0})) → Saved next mark
        → Ends c (Ask (Save (with_seal seal r.fact)) (λ v. next tt (record x { fact = r.fact; seal = seal }) out)) (Ask (Save (with_seal seal r.fact)) (λ v. mark tt (record x { fact = r.fact; seal = seal }) out)) u notes
    saves_end seal u same m names unsealed next mark go =
        ask_may_end keeping.grows c (Save (with_seal seal r.fact)) (λ v. next tt (record x { fact = r.fact; seal = seal }) out) (λ v. mark tt (record x { fact = r.fact; seal = seal }) out) u notes (λ among. by_end (save_ends (with_seal seal r.fact) u))
      where
        v : Held
        v = (answered (Save (with_seal seal r.fact)) u).held

        merged_left : Merged v
        merged_left = merged_over u v (ap (λ tree. tree.store.tops) (keeping.spares (Save (with_seal seal r.fact)) u).1) (ap (λ tree. tree.top) (keeping.spares (Save (with_seal seal r.fact)) u).1) (keeping.versions (Save (with_seal seal r.fact)) u tt) (keeping.grows (Save (with_seal seal r.fact)) u) m

        either_rests : HasEither (with_seal seal r.fact) u v → Rests c v notes
        either_rests (inl old) = rests_merged v (old ∙ same) merged_left
        either_rests (inr new) = rests_over c (joined_here seal v new merged_left names unsealed).0 v refl refl (λ a i. i)

        by_end : SaveEnds (with_seal seal r.fact) u (answered (Save (with_seal seal r.fact)) u)
            → Answers c (Save (with_seal seal r.fact)) (λ v. next tt (record x { fact = r.fact; seal = seal }) out) (λ v. mark tt (record x { fact = r.fact; seal = seal }) out) u notes ⊎ IsRefused c (Save (with_seal seal r.fact)) u notes
        by_end (Saves is) = inl (record {
          answer = tt;
          is = ap (λ (a : Answered (Save (with_seal seal r.fact))). a.result) is;
          goes = subst (λ (w : Held). Ends c (next tt (record x { fact = r.fact; seal = seal }) out) (mark tt (record x { fact = r.fact; seal = seal }) out) w notes) (sym (ap (λ (a : Answered (Save (with_seal seal r.fact))). a.held) is))
              (go seal after (joined_here seal after refl (merged_over u after refl refl refl (λ a i. i) m) names unsealed));
        })
          where
            after : Held
            after = with_facts (record u.stores.facts { kept = Some (with_seal seal r.fact) }) u
        by_end (Refuses is left) = inr (record { error = StoreFault; is = is; rests = either_rests left })

    accepts_ends : (seals : Bool) → keeps_seal x ≡ seals → (u : Held) → u.stores.facts.kept ≡ h.stores.facts.kept → Merged u → (next mark : Rest PeerState (Unit {0})) → Saved next mark → Ends c (sealed_if seals r.fact x out next) (sealed_if seals r.fact x out mark) u notes
    unfolding asked
    accepts_ends true keeps u same m next mark go = ask_ends keeping.grows c Root (λ seal. Ask (Save (with_seal seal r.fact)) (λ v. next tt (record x { fact = r.fact; seal = seal }) out)) (λ seal. Ask (Save (with_seal seal r.fact)) (λ v. mark tt (record x { fact = r.fact; seal = seal }) out)) u notes (λ among. record {
      answer = u.stores.tree.top;
      is = refl;
      goes = saves_end u.stores.tree.top u same m (inr m.root) (λ none. absurd (none-some m.digest (sym none ∙ m.root))) next mark go;
    })
    accepts_ends false keeps u same m next mark go = saves_end x.seal u same m (inl (seals_none x.mode.sealing x.seal keeps)) (λ none. none) next mark go

  -- ## What follows the acceptance

  -- the peer has accepted its fact, at the ballot of that fact, and runs no sync
  accepted_good : {key : List ℕ} {h : Held} {out : Out} {notes : List Note} (phase : Phase) (x : PeerState) → x.phase ≡ phase → x.trusted ≡ true → x.sync ≡ None → x.fact.ballot ≡ x.fact.epoch → (at : AtRest c key x h out notes) → (next mark : Rest PeerState (List Task)) → Onward c (PhasesNext c) next mark
      → Ends c (accepted_in p x.fact phase x out next) (accepted_in p x.fact phase x out mark) h notes
  accepted_good {key} {h} {out} {notes} (phases.Electing (Starting new accepts age)) x is trusts alone own_ballot at next mark go =
      go (tasks.Phase phase_rules.EnoughAccepted ∷ []) key (electing (Starting new (joined p accepts) age) x) h out notes (
        tt,
        (
          record {
            reached = at.0.reached;
            roles = subst (λ (phase : Phase). RolesHold at.0.reached.ghosts (now c at.0.reached) (put c.roles p (role_in key phase (owed_after [] out.answers))) (said_in_sends p out.sends ++ c.said)) is at.0.roles;
            peer = record {
              saved = at.0.peer.saved;
              kept = at.0.peer.kept;
              phase = counts_itself (now c at.0.reached).objects.ledger p x.fact new accepts own_ballot own_accepted (subst (PhaseHolds (now c at.0.reached).objects.ledger p x.fact) is at.0.peer.phase);
              sync = subst (ledgers.SyncHolds (now c at.0.reached).objects.ledger p x.fact true) (sym alone) tt;
            };
            listed = listed_counts_itself new accepts age trusts is at.0.listed;
            trust = at.0.trust;
            tree = at.0.tree;
            seal = at.0.seal;
            mode = at.0.mode;
            held = at.0.held;
            sync = at.0.sync;
            fits = tt;
            task = tt;
            noted = at.0.noted;
            sends = at.0.sends;
            listed_sends = at.0.listed_sends;
            fits_sends = at.0.fits_sends;
          },
          tt,
        ),
      )
    where
      own_accepted : (now c at.0.reached).objects.ledger.accepted (epoch_number x.fact.epoch) p ≡ true
      own_accepted = subst (λ (place : Place). (now c at.0.reached).objects.ledger.accepted place.epoch p ≡ true) at.0.peer.saved.place ((run_elections view at.0.reached.steps at.0.reached.run).ballots.last p)
  accepted_good {key} {h} {out} {notes} (phases.Electing (Preparing base promises asked_of age)) x is trusts alone own_ballot at next mark go = go [] key x h out notes (tt, at)
  accepted_good {key} {h} {out} {notes} (phases.Following f) x is trusts alone own_ballot at next mark go = go [] key x h (and_sends out (accepted p x.fact)) notes (
    tt,
    (
      tells_more c key x h out notes (accepted p x.fact) at.0
          (acceptance_holds (now c at.0.reached).objects.ledger p x.fact own_accepted)
          (each (λ (o : Outgoing). IsListedMessage lines.voting o.message) tt)
          (each (SendFits version lines (now c at.0.reached) strings p) tt)
          (each (SendSaysSo at.0.reached.ghosts (now c at.0.reached) p) (says_nothing at.0.reached.ghosts (now c at.0.reached) p (messages.Accepted x.fact.epoch 1) refl)),
      at.1,
    ),
  )
    where
      own_accepted : (now c at.0.reached).objects.ledger.accepted (epoch_number x.fact.epoch) p ≡ true
      own_accepted = subst (λ (place : Place). (now c at.0.reached).objects.ledger.accepted place.epoch p ≡ true) at.0.peer.saved.place ((run_elections view at.0.reached.steps at.0.reached.run).ballots.last p)

      each : (P : Outgoing → Type 0) → P (record { to = x.fact.leader; message = messages.Accepted x.fact.epoch 1 }) → All P (accepted p x.fact)
      each P holds = by_test (All P) (nat_le 1 x.fact.leader && nat_le x.fact.leader 31 && not (x.fact.leader == p)) _ _ (λ other. All-cons P (record { to = x.fact.leader; message = messages.Accepted x.fact.epoch 1 }) [] holds (All-nil P)) (λ none. All-nil P)
  accepted_good {key} {h} {out} {notes} (phases.Probing b) x is trusts alone own_ballot at next mark go = go [] key x h out notes (tt, at)
  accepted_good {key} {h} {out} {notes} (phases.Leading l) x is trusts alone own_ballot at next mark go = go [] key x h out notes (tt, at)

  -- ## The end of a sync

  module _ {key : List ℕ} {x : PeerState} {h : Held} {out : Out} {notes : List Note} (at : AtRest c key x h out notes) (next mark : Rest PeerState (List Task)) (go : Onward c (PhasesNext c) next mark) where
    -- the peer without its sync is at rest
    abbrev alone : AtRest c key (without_sync x) h out notes
    alone = (alone_here at.0, at.1)

    end_sync_good : (r : Running) (entries : List Entry) → IsSyncing (now c at.0.reached).objects.ledger p x.fact (may_wait x.phase) r → IsListedFact lines.voting r.fact → SyncEnds (now c at.0.reached) strings p at.0.tree.last.map r entries → IsRooted r.sync.scan h.stores.tree.top
        → Ends c (end_sync p r entries x out next) (end_sync p r entries x out mark) h notes
    end_sync_good r entries syncing listed ends rooted =
        installed_ends alone r entries syncing.may listed ends rooted (needs_build r.sync.scan entries) refl (saves next) (saves mark) (λ u same m.
        accepts_ends alone r entries syncing.may listed ends rooted (keeps_seal (without_sync x)) refl u same m (accepts next) (accepts mark) (λ seal v joined.
        accepted_good x.phase (record x { fact = r.fact; seal = seal; trusted = true; sync = None }) refl refl refl syncing.may.first.own_ballot joined next mark go))
      where
        accepts : Rest PeerState (List Task) → Rest PeerState (Unit {0})
        accepts rest done z out = accepted_in p r.fact z.phase (record z { trusted = true }) out rest

        saves : Rest PeerState (List Task) → Rest PeerState (Unit {0})
        saves rest done y out = sealed_if (keeps_seal y) r.fact y out (accepts rest)

    -- the fact of a sync has a view
    has_view : (r : Running) → IsSyncing (now c at.0.reached).objects.ledger p x.fact (may_wait x.phase) r → 0 < length r.fact.views
    has_view r syncing = let l = (now c at.0.reached).objects.ledger in
        subst (λ (views : List (List ℕ)). 0 < length views) (sym syncing.may.first.known.views) (not_empty l (run_sound view at.0.reached.steps at.0.reached.run) (epoch_number r.fact.epoch) syncing.may.first.known.elected)

    ended_good : (r : Running) (outcome : Outcome) → outcome_of r.sync ≡ outcome → IsSyncing (now c at.0.reached).objects.ledger p x.fact (may_wait x.phase) r → IsListedFact lines.voting r.fact → SyncFits version lines (now c at.0.reached) strings p x.fact x.trusted at.0.tree.last.map h.stores.tree.top (Some r)
        → Ends c (by_outcome p r outcome x out next) (by_outcome p r outcome x out mark) h notes
    ended_good r Pending is syncing listed says = go [] key (with_sync r x) h out notes (tt, (runs_here at.0 r syncing listed says, at.1))
    ended_good r (Trusted entries) is syncing listed says = end_sync_good r entries syncing listed
        ((laws_here at.0.reached).ends version strings p x.fact x.trusted at.0.tree.last.map r entries c.sound (listed.views (last_view r.fact.views) (last_view_in r.fact.views (has_view r syncing))) (few_here at.0.reached) at.0.peer.saved.ballot (ap (λ (place : Place). place.epoch) at.0.peer.saved.place) at.0.tree.last.says says.0 is) says.1

  -- ## What a sync does

  -- a sync sends its questions, and goes on, or ends
  pub gone_good : {key : List ℕ} {x : PeerState} {h : Held} {out : Out} {notes : List Note} (at : AtRest c key x h out notes) (next mark : Rest PeerState (List Task)) → Onward c (PhasesNext c) next mark → (r : Running × List Outgoing) (of : Running) → IsSyncing (now c at.0.reached).objects.ledger p x.fact (may_wait x.phase) r.0
      → IsListedFact lines.voting r.0.fact → SyncFits version lines (now c at.0.reached) strings p x.fact x.trusted at.0.tree.last.map h.stores.tree.top (Some r.0) → All (MayGo p) r.1 → All (IsQuestion of) r.1 → Ends c (go_on p r x out next) (go_on p r x out mark) h notes
  gone_good at next mark go r of syncing listed says may ask = ended_good (asks_here at.0 of r.1 may ask, at.1) next mark go r.0 (outcome_of r.0.sync) refl syncing listed says

  -- the stores after a call that leaves the root of the tree and the fact
  abbrev pub read_here : {key : List ℕ} {x : PeerState} {h : Held} {out : Out} {notes : List Note} → (here : Here c key x h out notes) → (call : Call) → KeepsRoot call → (answered call h).held.stores.facts.kept ≡ h.stores.facts.kept → Here c key x (answered call h).held out notes
  read_here {key} {x} {h} {out} {notes} here call root kept = record {
    reached = here.reached;
    roles = here.roles;
    peer = record { saved = here.peer.saved; kept = ap bare kept ∙ here.peer.kept; phase = here.peer.phase; sync = here.peer.sync };
    listed = here.listed;
    trust = here.trust;
    tree = tree_kept (now c here.reached) strings p x.seal call h root kept here.tree;
    seal = here.seal;
    mode = here.mode;
    held = version_kept_so call h root ∙ here.held;
    sync = subst (λ (top : Option (List ℕ)). SyncFits version lines (now c here.reached) strings p x.fact x.trusted here.tree.last.map top x.sync) (sym (root_kept_so call h root)) here.sync;
    fits = here.fits;
    task = here.task;
    noted = here.noted;
    sends = here.sends;
    listed_sends = here.listed_sends;
    fits_sends = here.fits_sends;
  }

  -- a sync begins, after a scan of the own tree
  pub begun_good : {key : List ℕ} {x : PeerState} {h : Held} {out : Out} {notes : List Note} (at : AtRest c key x h out notes) (next mark : Rest PeerState (List Task)) → Onward c (PhasesNext c) next mark → (new : Fact) → IsListedFact lines.voting new → MaySync (now c at.0.reached).objects.ledger x.fact (may_wait x.phase) new
      → Ends c (start_sync p new x out next) (start_sync p new x out mark) h notes
  unfolding asked
  begun_good {key} {x} {h} {out} {notes} at next mark go new listed may =
      ask_ends keeping.grows c ScanTree (λ scan. go_on p (row_start new p x.trusted scan) x out next) (λ scan. go_on p (row_start new p x.trusted scan) x out mark) h notes (λ among. by_scan among (answered ScanTree h).result refl (rooted.scans strings h at.0.tree.last.map c.free among (tree_sees (now c at.0.reached) strings p x.seal h at.0.tree)))
    where
      same : (answered ScanTree h).held.stores.facts.kept ≡ h.stores.facts.kept
      same = ap (λ (f : HeldFact). f.kept) (keeping.spares ScanTree h).1

      -- the nodes of the map were hashed, if the tree shows it
      hashed : AreAmong (answered ScanTree h).held.hashed strings → (scan : Scan) → LosesAll scan ⊎ Shows h at.0.tree.last.map → LosesAll scan ⊎ AreHashed version strings at.0.tree.last.map
      hashed among scan (inl loses) = inl loses
      hashed among scan (inr shows) = inr (subst (λ (v : TreeVersion). AreHashed v strings at.0.tree.last.map) at.0.held (λ node within. among node (keeping.grows ScanTree h node (shows.texts node within))))

      starts : AreAmong (answered ScanTree h).held.hashed strings → (scan : Scan) → (answered ScanTree h).result ≡ Ok scan → IsSeen h at.0.tree.last.map (Ok scan) → SyncFits version lines (now c at.0.reached) strings p x.fact x.trusted at.0.tree.last.map (answered ScanTree h).held.stores.tree.top (Some (row_start new p x.trusted scan).0)
      starts among scan is seen = (
        (laws_here at.0.reached).starts version strings p x.fact new x.trusted at.0.tree.last.map scan (firm_here at.0.reached) at.0.trust at.0.peer.saved.ballot (first_seen (now c at.0.reached).objects.ledger new may.first) (ap epoch_number may.promised) may.newer
            (hashed among scan seen.1) at.0.tree.last.says (record { is_map = at.0.tree.last.named.stands.is_map; entries = seen.0 })
            (subst (λ (v : TreeVersion). AllByRecursion (IsPosition v) scan.damaged) at.0.held (scan_positions h scan is)),
        subst (IsRooted scan) (sym (root_kept_so ScanTree h tt)) (clean_rooted h at.0.tree.last.map scan seen.1),
      )

      by_scan : AreAmong (answered ScanTree h).held.hashed strings → (result : Result Scan PeerError) → (answered ScanTree h).result ≡ result → IsSeen h at.0.tree.last.map result → Answers c ScanTree (λ scan. go_on p (row_start new p x.trusted scan) x out next) (λ scan. go_on p (row_start new p x.trusted scan) x out mark) h notes
      by_scan among (Ok scan) is seen = record {
        answer = scan;
        is = is;
        goes = gone_good (read_here at.0 ScanTree tt same, at.1) next mark go (row_start new p x.trusted scan) (row_start new p x.trusted scan).0 (record { may = may; asks = asks_are p (last_view new.views) }) listed (starts among scan is seen)
            (start_go new p x.trusted scan) (start_ask new p x.trusted scan);
      }
      by_scan among (Err e) is none = absurd none

  -- the sync that runs, if one does, asks again
  pub resumed_good : {key : List ℕ} {x : PeerState} {h : Held} {out : Out} {notes : List Note} (at : AtRest c key x h out notes) (next mark : Rest PeerState (List Task)) → Onward c (PhasesNext c) next mark → Ends c (resume_sync x.sync x out next) (resume_sync x.sync x out mark) h notes
  resumed_good {key} {x} {h} {out} {notes} at next mark go = by_sync x.sync refl
    where
      asks_again : (r : Running) → x.sync ≡ Some r → IsSyncing (now c at.0.reached).objects.ledger p x.fact (may_wait x.phase) r → IsListedFact lines.voting r.fact → SyncFits version lines (now c at.0.reached) strings p x.fact x.trusted at.0.tree.last.map h.stores.tree.top (Some r)
          → Ends c (next [] (with_sync (row_resume r).0 x) (and_sends out (row_resume r).1)) (mark [] (with_sync (row_resume r).0 x) (and_sends out (row_resume r).1)) h notes
      asks_again r is syncing listed says = go [] key (with_sync (row_resume r).0 x) h (and_sends out (row_resume r).1) notes (
        tt,
        (
          runs_here (asks_here at.0 r (row_resume r).1 (resume_go p r syncing.asks) (resume_ask p r syncing.asks)) (row_resume r).0 (record { may = syncing.may; asks = resumed_are p r syncing.asks }) listed ((laws_here at.0.reached).resumes version strings p x.fact x.trusted at.0.tree.last.map r says.0, says.1),
          at.1,
        ),
      )

      by_sync : (sync : Option Running) → x.sync ≡ sync → Ends c (resume_sync sync x out next) (resume_sync sync x out mark) h notes
      by_sync None is = go [] key x h out notes (tt, at)
      by_sync (Some r) is = asks_again r is (subst (ledgers.SyncHolds (now c at.0.reached).objects.ledger p x.fact (may_wait x.phase)) is at.0.peer.sync) (subst (IsListedSync lines.voting) is at.0.listed.sync)
          (subst (SyncFits version lines (now c at.0.reached) strings p x.fact x.trusted at.0.tree.last.map h.stores.tree.top) is at.0.sync)
