-- What a rule asks of the peer's own tree and backend. The entry of a key is found, or damage on its
-- path; an object of the backend comes with the digest of its bytes; and an object that is written is
-- stored, unless its path is damaged. The steps of the abstract protocol that belong to this are those
-- of the peer's own tree: a write, and an acknowledgement.
use Rattle.std.specs.Option.{is_some}
use Rattle.std.proofs.Common.{◌≡◌, ◌⊎◌, inl, inr, ◌<◌, ◌^◌, ℕ, true, List, [], ◌∷◌, ◌++◌, length, map, Option, None, Some, Ok, Err, arith, refl, sym, ap, subst, ◌∙◌}
use Rattle.std.proofs.lemmas.Option.{none-some}
use Rattle.md5.specs.Md5.{md5}
use Rattle.ens_base.specs.Lists.{◌∈◌}
use Rattle.ens_base.specs.declared.entry.Entry.{Entry}
use Rattle.ens_base.specs.declared.epoch.Epoch.{Epoch}
use Rattle.stored_formats.specs.Objects.{IsObject, object_spelling}
use Rattle.stored_formats.specs.declared.object.Object.{Object}
use Rattle.environment.specs.Maps.{value_at}
use Rattle.object_commands.specs.Kept.{object_in, matching, entry_of}
use Rattle.protocol_laws.proofs.Ranks.{version_within}
use Rattle.protocol_laws.specs.Book.{version_of}
use Rattle.protocol_laws.specs.Ledger as ledger
use Rattle.protocol_laws.specs.Numbers.{epoch_number}
use Rattle.protocol_laws.specs.Objects.{set_entry, Map, IsHonest}
use Rattle.protocol_laws.specs.Protocol.{State, Step, Write, Acknowledge, IsRun, state_after, happens, MayCome}
use Rattle.protocol_laws.proofs.Maps.{put_other, put_here, set_same}
use Rattle.protocol_laws.proofs.Later.{stay_step, stay_then as stays_then}
use Rattle.protocol_laws.specs.Stays.{EntriesStay}
use Rattle.election_refinement.specs.Refinement.{may_wait, SyncHolds}
use Rattle.call_table.specs.Best.{better}
use Rattle.peer_refinement.specs.WorldSpec.{answered, Answered, with_facts, Held, and_hashed}
use Rattle.role_laws.proofs.Roles.{run_roles}
use Rattle.role_laws.specs.Leaders.{IsObjectOf}
use Rattle.role_laws.specs.LeaderMessages.{PutSays, GetReplySays}
use Rattle.role_laws.specs.Roles.{RolesHold}
use Rattle.leader_refinement.proofs.Numbers.{rank_some}
use Rattle.leader_refinement.specs.Follows.{Hash as Digests}
use Rattle.leader_refinement.specs.Laws.{BackendSays, FoundSays, LookSays, LookNames}
use Rattle.leader_refinement.specs.Seen.{rank, content_of, entry_rank, shown, owed_after}
use Rattle.peer_spec.specs.Syncs.{sealed}
use Rattle.peer_spec.specs.Owns.{digested, read, kept, fetched, held, looked_at, looked, found_at, found, stored as stored_bytes, resealed, entered, written, confirmed}
use Rattle.peer_state.specs.declared.state.State.{State as PeerState}
use Rattle.register_model.specs.declared.note.Note.{Note}
use Rattle.peer_refinement.proofs.Looks.{looks_so}
use Rattle.peer_refinement.proofs.Lookups.{in_put}
use Rattle.peer_refinement.proofs.Names.{version_decoded}
use Rattle.peer_refinement.proofs.RequestStaying.{put_entry, write_shows}
use Rattle.peer_refinement.specs.Naming.{hash_of, version_string, object_of_version, VersionSays, EntryMaySay, MayBeDecoded}
use Rattle.peer_refinement.specs.Replies.{MapSays, LookSees, IsShown, found_in}
use Rattle.tree_sync.specs.Running.{Running}
use Rattle.step_plans.specs.Saved.{bare, kept_seal, with_seal}
use Rattle.role_laws.specs.Kept.{IsSealed}
use Rattle.step_plans.specs.Calls.{Call, Find, Enter, Fetch, Put, Hash, Root, Save}
use Rattle.step_plans.specs.Plans.{Plan, Ask, Out, Rest, asked}
use Rattle.step_plans.specs.declared.error.PeerError.TheVariants.{StoreFault}
use Rattle.step_plans.specs.declared.walked.Walked.TheVariants.{Reached as Came, Broken}
use Rattle.peer_refinement.proofs.Ends.{distinct_keys}
use Rattle.peer_refinement.proofs.Gives.{trusted_maps, may_return}
use Rattle.peer_refinement.proofs.SyncStaying.{version_stays}
use Rattle.peer_refinement.specs.Syncs.{TreeSays, MayReturn}
use Rattle.synctree.proofs.Names.{md5_run}
use Rattle.synctree.proofs.Parts.{ascends-put}
use Rattle.synctree.specs.Entries.{lookup, put, IsMap}
use Rattle.tree_node.specs.declared.position.Position.{Position}
use Rattle.peer_refinement.proofs.Keeping.{grows, hashes, spares, versions}
use Rattle.peer_refinement.proofs.Rooted.{version_kept_so, root_kept_so}
use Rattle.peer_refinement.proofs.Tops as records
use Rattle.peer_refinement.specs.TreeLaws.{KeepsRoot}
use Rattle.peer_refinement.specs.Tops.{tops_of, NamesNext, IsWritten}
use Rattle.peer_refinement.specs.Trees.{AreAmong}
use Rattle.phase_rows.specs.declared.phase.Seen.{Seen}
use Rattle.phase_rows.specs.declared.phase.Seen.TheVariants as seens
use Rattle.world_stores.specs.declared.fact.HeldFact.{HeldFact}
use Rattle.step_refinement.proofs.CallByCall.{Ends, Answers, IsRefused, ask_ends, ask_may_end}
use Rattle.step_refinement.specs.Scenes.{Scene, state_before, Reached, now, Here, Rests}
use Rattle.step_refinement.proofs.CalledKeys.{length_keys, key_from}
use Rattle.step_refinement.proofs.StoreAnswers.{Looks, Finds, Breaks, find_ends, put_ends, EnterEnds, Enters, Stops, Tears, enter_ends, broken_root, HasEither, SaveEnds, Saves, Refuses, save_ends}
use Rattle.step_refinement.proofs.Refusals.{rests_down, rests_over, rests_sealed}
use Rattle.step_refinement.proofs.LaterStates.{sends_stay, sync_stays, phase_stays}
use Rattle.step_refinement.proofs.ShownMaps.{seal_on, tops_stay, last_under, last_written, tree_sees, tree_over, tree_written, tree_stays, names_from, written_from, written_kept, IsSealOf, written_root}
use Rattle.step_refinement.proofs.SaidVersions.{settled_say, rank_again, acks_step, matches, Confirmed, none_confirmed, named_confirmed, both_kept}
use Rattle.step_refinement.specs.Keys.{AreFew, KeysAreBelow}
use Rattle.step_refinement.specs.Peers.{TopsReturn, TreeHolds, TaskFits, LastMap, SealFits, SyncFits}
use Rattle.step_refinement.specs.Roles.{role_in, said_in_sends}

-- ## A scene

module _ (c : Scene) where
  open c use {lines, version, view, strings, peer as p}

  -- what rule 28 finds in the backend: if its version is settled, it is that version's object,
  -- unless two strings clash
  backend_says : (r : Reached c) (k : List ℕ) (o : Option (Object × List ℕ)) → MayBeDecoded strings o → BackendSays r.ghosts (now c r) k (seens.Kept o)
  backend_says r k None decoded = tt
  backend_says r k (Some o) decoded = λ on_key settled key_is digest. is_object settled key_is digest
    where
      s : State
      s = now c r

      u : ℕ
      u = rank o.0.version

      again : rank (version_of u) ≡ u
      again = rank_again u (rank_some o.0.version)

      is_object : s.objects.settled u ≡ true → s.objects.key u ≡ k → o.1 ≡ r.ghosts.hash (version_of u) k (s.book.stamp u) (s.book.content u) → IsObjectOf s u (content_of o.0)
      is_object settled key_is digest =
          let says : VersionSays s strings (version_of u) = settled_say view r.steps strings (version_of u) r.run r.acks (version_within u) (subst (λ (n : ℕ). s.objects.settled n ≡ true) (sym again) settled) in
          let plain : o.1 ≡ hash_of (version_of u) k (s.book.stamp u) (s.book.content u) = subst (λ (f : Digests). o.1 ≡ f (version_of u) k (s.book.stamp u) (s.book.content u)) r.hash digest in
          let on_version : o.1 ≡ hash_of (version_of u) (s.objects.key u) (s.book.stamp u) (s.book.content u) = subst (λ (j : List ℕ). o.1 ≡ hash_of (version_of u) j (s.book.stamp u) (s.book.content u)) (sym key_is) plain in
          let own : o.1 ≡ md5 (version_string s (version_of u)) = subst (λ (n : ℕ). o.1 ≡ hash_of (version_of u) (s.objects.key n) (s.book.stamp n) (s.book.content n)) (sym again) on_version in
          let same : o.0 ≡ object_of_version s (version_of u) = version_decoded s strings (version_of u) decoded.bytes o.0 c.free says decoded.hashed decoded.decodes (sym decoded.digest ∙ own) in
          record {
            some = rank_some o.0.version;
            stamp = ap (λ (x : Object). x.stamp) same ∙ ap (λ (n : ℕ). s.book.stamp n) again;
            content = ap (λ (x : Object). x.value) same ∙ ap (λ (n : ℕ). s.book.content n) again;
          }

  -- ## Steps of the peer's own tree

  -- the run goes on with a write of the peer
  abbrev pub wrote : (r : Reached c) (v : ℕ) → MayCome (now c r) (Write p v) → Reached c
  wrote r v may = record {
    steps = Write p v ∷ r.steps;
    run = (r.run, may);
    ghosts = r.ghosts;
    hash = r.hash;
    elsewhere = record {
      ledger = r.elsewhere.ledger;
      map = λ q other. put_other (now c r).objects.map p (set_entry ((now c r).objects.map p) ((now c r).objects.key v) v) q other ∙ r.elsewhere.map q other;
      visible = λ q other. put_other (now c r).objects.visible p (set_entry ((now c r).objects.visible p) ((now c r).objects.key v) v) q other ∙ r.elsewhere.visible q other;
      trusted = r.elsewhere.trusted;
      reverted = r.elsewhere.reverted;
      stays = stays_then (state_before c) (now c r) (happens (now c r) (Write p v)) r.elsewhere.stays (stay_step (now c r) (Write p v) may);
      calls = r.elsewhere.calls;
      called = r.elsewhere.called;
      answers = r.elsewhere.answers;
      answered = r.elsewhere.answered;
      now = r.elsewhere.now;
    };
    orderly = r.orderly;
    acks = λ w q fits acked. version_stays (now c r) (happens (now c r) (Write p v)) strings (stay_step (now c r) (Write p v) may) w (r.acks w q fits acked);
  }

  -- the run goes on with an acknowledgement of the peer
  abbrev pub acknowledged : (r : Reached c) (m : List Entry) (v : ℕ) → MapSays (now c r) strings p m → MayCome (now c r) (Acknowledge p v) → Reached c
  acknowledged r m v says may = record {
    steps = Acknowledge p v ∷ r.steps;
    run = (r.run, may);
    ghosts = r.ghosts;
    hash = r.hash;
    elsewhere = record {
      ledger = r.elsewhere.ledger;
      map = r.elsewhere.map;
      visible = r.elsewhere.visible;
      trusted = r.elsewhere.trusted;
      reverted = r.elsewhere.reverted;
      stays = stays_then (state_before c) (now c r) (happens (now c r) (Acknowledge p v)) r.elsewhere.stays (stay_step (now c r) (Acknowledge p v) may);
      calls = r.elsewhere.calls;
      called = r.elsewhere.called;
      answers = r.elsewhere.answers;
      answered = r.elsewhere.answered;
      now = r.elsewhere.now;
    };
    orderly = r.orderly;
    acks = acks_step view r.steps strings p m r.run r.acks says (Acknowledge p v) may refl;
  }

  -- the peer stands at the epoch that it accepted, and trusts its tree
  pub record IsReady (x : PeerState) : Type 0 where
    pub stands : epoch_number x.fact.epoch ≡ epoch_number x.fact.ballot
    pub trusts : x.trusted ≡ true

  module _ {key : List ℕ} {x : PeerState} {h : Held} {out : Out} {notes : List Note} (here : Here c key x h out notes) where
    abbrev s : State
    s = now c here.reached

    -- a peer that trusts its tree shows the map that it wrote last
    pub shown_map : x.trusted ≡ true → MapSays s strings p here.tree.last.map
    shown_map trusts = trusted_maps view here.reached.steps here.reached.run strings p here.tree.last.map (here.trust ∙ trusts) here.tree.last.says

    -- the fact and the seal that its stores keep are its own
    kept_whole : h.stores.facts.kept ≡ Some (with_seal x.seal x.fact)
    kept_whole = both_kept h.stores.facts.kept x.fact x.seal here.peer.kept here.tree.sealed

    -- and it runs no sync
    pub no_sync : IsReady x → x.sync ≡ None
    no_sync ready = none x.sync here.peer.sync
      where
        apart : epoch_number x.fact.epoch < epoch_number x.fact.ballot → epoch_number x.fact.epoch ≡ epoch_number x.fact.ballot → ⊥
        apart less same = omega (arith, less, same)

        none : (sync : Option Running) → SyncHolds s.objects.ledger p x.fact (may_wait x.phase) sync → sync ≡ None
        none None holds = refl
        none (Some r) holds = absurd (apart (subst (λ (e : Epoch). epoch_number x.fact.epoch < epoch_number e) holds.may.promised holds.may.newer) ready.stands)

    -- the stores, after calls that leave the tree
    pub record Over (t : Held) : Type 0 where
      pub kept_fact : t.stores.facts.kept ≡ h.stores.facts.kept
      pub root : t.stores.tree.top ≡ h.stores.tree.top
      pub tree_version : t.stores.tree.version ≡ h.stores.tree.version
      pub tops : tops_of t.stores ≡ tops_of h.stores
      pub hashed : AreAmong h.hashed t.hashed

    -- the stores, after the entry of the object went into the tree
    record Entered (o : Object) (t : Held) : Type 0 where
      kept_fact : t.stores.facts.kept ≡ h.stores.facts.kept
      tree_version : t.stores.tree.version ≡ h.stores.tree.version
      spelled : object_spelling o ∈ strings
      hashed : AreAmong h.hashed t.hashed
      written : IsWritten (put (entry_of o (md5 (object_spelling o))) here.tree.last.map) h t

    -- the stores, after the object was written: its entry is in the tree, and a peer with a seal has saved its
    -- fact with the new top record as its seal
    pub record Stored (o : Object) (seal : Option (List ℕ)) (t : Held) : Type 0 where
      pub kept_fact : t.stores.facts.kept ≡ Some (with_seal seal x.fact)
      pub unsealed : seal ≡ None → x.seal ≡ None
      pub tree_version : t.stores.tree.version ≡ h.stores.tree.version
      pub spelled : object_spelling o ∈ strings
      pub hashed : AreAmong h.hashed t.hashed
      pub written : IsWritten (put (entry_of o (md5 (object_spelling o))) here.tree.last.map) h t
      pub names : IsSealOf seal written.next.digest

    -- one more call that leaves the tree
    over_call : (call : Call) (t : Held) → KeepsRoot call → (answered call t).held.stores.facts.kept ≡ t.stores.facts.kept → Over t → Over (answered call t).held
    over_call call t root same over = record {
      kept_fact = same ∙ over.kept_fact;
      root = root_kept_so call t root ∙ over.root;
      tree_version = version_kept_so call t root ∙ over.tree_version;
      tops = (records.keeps call t root).0 ∙ over.tops;
      hashed = λ a at. grows call t a (over.hashed a at);
    }

    -- the peer agrees with the run over other stores too, with the same fact and a tree that agrees
    abbrev pub here_over : (t : Held) → t.stores.facts.kept ≡ h.stores.facts.kept → t.stores.tree.version ≡ h.stores.tree.version → (tree : TreeHolds s strings p x.seal t) → SyncFits version lines s strings p x.fact x.trusted tree.last.map t.stores.tree.top x.sync → Here c key x t out notes
    here_over t kept_fact same tree sync = record {
      reached = here.reached;
      roles = here.roles;
      peer = record { saved = here.peer.saved; kept = ap bare kept_fact ∙ here.peer.kept; phase = here.peer.phase; sync = here.peer.sync };
      listed = here.listed;
      trust = here.trust;
      tree = tree;
      seal = here.seal;
      mode = here.mode;
      held = same ∙ here.held;
      sync = sync;
      fits = here.fits;
      task = here.task;
      noted = here.noted;
      sends = here.sends;
      listed_sends = here.listed_sends;
      fits_sends = here.fits_sends;
    }

    -- so it does after calls that leave the tree
    abbrev pub over_here : (t : Held) → Over t → Here c key x t out notes
    over_here t over = here_over t over.kept_fact over.tree_version (tree_over s strings p x.seal h t over.kept_fact over.tops over.root over.hashed here.tree)
        (subst (λ (root : Option (List ℕ)). SyncFits version lines s strings p x.fact x.trusted here.tree.last.map root x.sync) (sym over.root) here.sync)

    -- before any call the stores are such stores
    abbrev pub nothing_read : Over h
    nothing_read = record { kept_fact = refl; root = refl; tree_version = refl; tops = refl; hashed = λ a at. at }

    -- ## A write of the tree

    -- the object of a put that the peer may write
    pub record MayStore (o : Object) (d : ℕ) : Type 0 where
      pub ready : IsReady x
      pub may : MayCome s (Write p (rank o.version))
      pub says : PutSays s d o.key (rank o.version) (content_of o)
      pub obeys : IsObject o

    module _ (o : Object) (d : ℕ) (store : MayStore o d) where
      abbrev entry : Entry
      entry = entry_of o (md5 (object_spelling o))

      abbrev map_then : List Entry
      map_then = put entry here.tree.last.map

      -- the run with the write
      abbrev reached_then : Reached c
      reached_then = wrote here.reached (rank o.version) store.may

      abbrev t : State
      t = now c reached_then

      -- entries stay through the write
      pub stay : EntriesStay s t
      stay = stay_step s (Write p (rank o.version)) store.may

      -- the map with the entry is that of the protocol
      map_says : object_spelling o ∈ strings → MapSays t strings p map_then
      map_says spelled = write_shows s strings strings p here.tree.last.map entry (λ a i. i) (shown_map store.ready.trusts) (put_entry s strings d o (md5 (object_spelling o)) store.says store.obeys spelled refl)

      -- the tree that shows the map with the entry says what holds
      pub tree_says : object_spelling o ∈ strings → TreeSays t strings p map_then
      tree_says spelled = let says = map_says spelled in record { entries = says.entries; visible = says.visible }

      -- the tree may be put back to this map
      pub map_returns : object_spelling o ∈ strings → IsMap map_then → MayReturn t strings p map_then
      map_returns spelled is_map = may_return view reached_then.steps reached_then.run strings p map_then is_map (tree_says spelled)

      -- the map that the peer shows then is the one that it wrote last
      pub honest_then : IsHonest t.objects p
      honest_then k =
          ap (λ (m : Map). m k) (put_here s.objects.visible p (set_entry (s.objects.visible p) (s.objects.key (rank o.version)) (rank o.version)))
          ∙ (set_same (s.objects.visible p) (s.objects.map p) (s.objects.key (rank o.version)) (rank o.version) k (store.may.0.honest k)
          ∙ sym (ap (λ (m : Map). m k) (put_here s.objects.map p (set_entry (s.objects.map p) (s.objects.key (rank o.version)) (rank o.version)))))

      -- without a seal each map that a top record names may still return
      pub tops_then : x.seal ≡ None → TopsReturn t strings h.hashed p (tops_of h.stores)
      tops_then none = tops_stay s t strings h.hashed p (tops_of h.stores) stay (here.tree.last.returns none)

      -- the roles of the peers still hold
      pub roles_then : RolesHold here.reached.ghosts t (ledger.put c.roles p (role_in key x.phase (owed_after [] out.answers))) (said_in_sends p out.sends ++ c.said)
      roles_then = (run_roles view here.reached.steps here.reached.run).silent here.reached.ghosts (ledger.put c.roles p (role_in key x.phase (owed_after [] out.answers))) (said_in_sends p out.sends ++ c.said) (Write p (rank o.version)) store.may tt here.roles

      -- the peer keeps the map with the entry under this seal, or without one
      abbrev last_then : (seal : Option (List ℕ)) (u : Held) → object_spelling o ∈ strings → AreAmong h.hashed u.hashed → (next : NamesNext map_then h u) → IsSealOf seal next.digest → (seal ≡ None → x.seal ≡ None) → LastMap t strings u.hashed p seal (tops_of u.stores)
      last_then seal u spelled among next names unsealed = last_written strings p t h u seal map_then next names among (tree_says spelled) honest_then (map_returns spelled next.named.stands.is_map) (λ none. tops_then (unsealed none))

      -- a call is refused after the version was written
      rests_written : (seal : Option (List ℕ)) (u : Held) → u.stores.facts.kept ≡ Some (with_seal seal x.fact) → object_spelling o ∈ strings → AreAmong h.hashed u.hashed → (next : NamesNext map_then h u) → IsSealOf seal next.digest → (seal ≡ None → x.seal ≡ None) → Rests c u notes
      rests_written seal u kept_fact spelled among next names unsealed = rests_down c {x = x} {notes = notes}
          (record {
            reached = reached_then;
            role = role_in key x.phase (owed_after [] out.answers);
            sends = out.sends;
            roles = roles_then;
            saved = here.peer.saved;
            listed = here.listed.fact;
            noted = here.noted;
          })
          u (ap bare kept_fact) (subst (SealFits lines) (sym (ap kept_seal kept_fact)) (seal_on lines x.seal seal unsealed here.seal)) (last_under strings p t u.hashed seal (kept_seal u.stores.facts.kept) (tops_of u.stores) (ap kept_seal kept_fact) (last_then seal u spelled among next names unsealed))

      -- the object was written: its version is in the peer's tree
      abbrev pub write_here : (seal : Option (List ℕ)) (u : Held) → Stored o seal u → TaskFits t key x.phase → Here c key (record x { seal = seal }) u out notes
      write_here seal u stored task = record {
        reached = reached_then;
        roles = roles_then;
        peer = record { saved = here.peer.saved; kept = ap bare stored.kept_fact; phase = here.peer.phase; sync = here.peer.sync };
        listed = record { fact = here.listed.fact; phase = here.listed.phase; sync = here.listed.sync };
        trust = here.trust;
        tree = tree_written t strings p seal h u map_then stored.written stored.names (ap kept_seal stored.kept_fact) stored.hashed (tree_says stored.spelled) honest_then (map_returns stored.spelled stored.written.next.named.stands.is_map) (λ none. tops_then (stored.unsealed none));
        seal = seal_on lines x.seal seal stored.unsealed here.seal;
        mode = here.mode;
        held = stored.tree_version ∙ here.held;
        sync = subst (λ (sync : Option Running). SyncFits version lines t strings p x.fact x.trusted map_then u.stores.tree.top sync) (sym (no_sync store.ready)) tt;
        fits = phase_stays here.reached.ghosts.hash s t p x.fact x.phase stay (λ e elected. refl) here.peer.phase here.fits;
        task = task;
        noted = here.noted;
        sends = here.sends;
        listed_sends = here.listed_sends;
        fits_sends = sends_stay s t strings stay version lines p out.sends here.fits_sends;
      }

    -- ## An acknowledgement

    -- the peer acknowledges a version
    abbrev pub acknowledge_here : (v : ℕ) → x.trusted ≡ true → MayCome s (Acknowledge p v) → TaskFits (happens s (Acknowledge p v)) key x.phase → Here c key x h out notes
    acknowledge_here v trusts may task = record {
      reached = acknowledged here.reached here.tree.last.map v (shown_map trusts) may;
      roles = (run_roles view here.reached.steps here.reached.run).silent here.reached.ghosts (ledger.put c.roles p (role_in key x.phase (owed_after [] out.answers))) (said_in_sends p out.sends ++ c.said) (Acknowledge p v) may tt here.roles;
      peer = here.peer;
      listed = here.listed;
      trust = here.trust;
      tree = tree_stays s (happens s (Acknowledge p v)) strings p x.seal h (stay_step s (Acknowledge p v) may) refl refl (λ blind. blind) here.tree;
      seal = here.seal;
      mode = here.mode;
      held = here.held;
      sync = sync_stays version lines s (happens s (Acknowledge p v)) strings p x.fact x.trusted here.tree.last.map h.stores.tree.top x.sync (stay_step s (Acknowledge p v) may) here.peer.saved.ballot here.sync;
      fits = phase_stays here.reached.ghosts.hash s (happens s (Acknowledge p v)) p x.fact x.phase (stay_step s (Acknowledge p v) may) (λ d elected. refl) here.peer.phase here.fits;
      task = task;
      noted = here.noted;
      sends = here.sends;
      listed_sends = here.listed_sends;
      fits_sends = sends_stay s (happens s (Acknowledge p v)) strings (stay_step s (Acknowledge p v) may) version lines p out.sends here.fits_sends;
    }

    -- ## The parts of a step

    -- what a peer that trusts its tree sees of a key
    pub record Sees (k : List ℕ) (entry : Option Entry) (object : Option Object) : Type 0 where
      pub sees : LookSees strings here.tree.last.map k (seens.Held entry object)
      pub look : LookSays s p k (seens.Held entry object)
      pub shows : IsShown here.reached.ghosts s strings p k entry object
      pub names : LookNames here.reached.ghosts k (seens.Held entry object)

    sees_so : x.trusted ≡ true → (k : List ℕ) (entry : Option Entry) (object : Option Object) → LookSees strings here.tree.last.map k (seens.Held entry object) → Sees k entry object
    sees_so trusts k entry object sees =
        let both = looks_so s here.reached.ghosts strings p here.tree.last.map k (seens.Held entry object) here.reached.hash c.free (shown_map trusts) sees in
        record { sees = sees; look = both.0; shows = both.1; names = names entry both.1.found }
      where
        names : (entry : Option Entry) → FoundSays here.reached.ghosts k (found_in entry object) → FoundSays here.reached.ghosts k (better None entry object)
        names None says = tt
        names (Some e) says = says

    -- the rest of a plan ends well after damage was found
    abbrev pub EndsDamaged : Rest PeerState Seen → Rest PeerState Seen → Type 0
    EndsDamaged next mark = (at : Position) (t : Held) → Over t → Ends c (next (seens.Damaged at) x out) (mark (seens.Damaged at) x out) t notes

    -- ## The backend

    digested_ends : (o : Option Object) (bytes : List ℕ) (t : Held) (next mark : Rest PeerState (Option (Object × List ℕ))) → object_in bytes ≡ o → Over t
        → ((o : Option (Object × List ℕ)) (u : Held) → Over u → MayBeDecoded strings o → Ends c (next o x out) (mark o x out) u notes) → Ends c (digested o bytes x out next) (digested o bytes x out mark) t notes
    unfolding asked
    digested_ends None bytes t next mark is over go = go None t over tt
    digested_ends (Some o) bytes t next mark is over go = ask_ends grows c (Hash bytes) (λ digest. next (Some (o, digest)) x out) (λ digest. mark (Some (o, digest)) x out) t notes (λ among. record {
      answer = md5 bytes;
      is = refl;
      goes = go (Some (o, md5 bytes)) (and_hashed bytes t) (over_call (Hash bytes) t tt refl over) (record { bytes = bytes; hashed = among bytes (hashes bytes t).1; decodes = is; digest = refl });
    })

    read_ends : (bytes : Option (List ℕ)) (t : Held) (next mark : Rest PeerState (Option (Object × List ℕ))) → Over t
        → ((o : Option (Object × List ℕ)) (u : Held) → Over u → MayBeDecoded strings o → Ends c (next o x out) (mark o x out) u notes) → Ends c (read bytes x out next) (read bytes x out mark) t notes
    read_ends None t next mark over go = go None t over tt
    read_ends (Some bytes) t next mark over go = digested_ends (object_in bytes) bytes t next mark refl over go

    kept_ends : (k : List ℕ) (t : Held) (next mark : Rest PeerState (Option (Object × List ℕ))) → Over t
        → ((o : Option (Object × List ℕ)) (u : Held) → Over u → MayBeDecoded strings o → Ends c (next o x out) (mark o x out) u notes) → Ends c (kept k x out next) (kept k x out mark) t notes
    unfolding asked
    kept_ends k t next mark over go = ask_ends grows c (Fetch k) (λ bytes. read bytes x out next) (λ bytes. read bytes x out mark) t notes (λ among. record {
      answer = value_at k t.stores.backend.entries;
      is = refl;
      goes = read_ends (value_at k t.stores.backend.entries) t next mark over go;
    })

    -- rule 28: what the backend keeps under the key
    pub fetched_ends : (k : List ℕ) (next mark : Rest PeerState Seen)
        → ((o : Option (Object × List ℕ)) (t : Held) → Over t → BackendSays here.reached.ghosts s k (seens.Kept o) → Ends c (next (seens.Kept o) x out) (mark (seens.Kept o) x out) t notes)
        → Ends c (fetched k x out next) (fetched k x out mark) h notes
    fetched_ends k next mark go = kept_ends k h (λ o y q. next (seens.Kept o) y q) (λ o y q. mark (seens.Kept o) y q) nothing_read (λ o t over decoded. go o t over (backend_says here.reached k o decoded))

    -- ## The tree

    held_ends : (k : List ℕ) (entry : Option Entry) (t : Held) (next mark : Rest PeerState Seen) → x.trusted ≡ true → entry ≡ lookup k here.tree.last.map → Over t
        → ((entry : Option Entry) (object : Option Object) (u : Held) → Over u → Sees k entry object → Ends c (next (seens.Held entry object) x out) (mark (seens.Held entry object) x out) u notes)
        → Ends c (held k entry x out next) (held k entry x out mark) t notes
    held_ends k None t next mark trusts is over go = go None None t over (sees_so trusts k None None (is, refl))
    held_ends k (Some entry) t next mark trusts is over go = kept_ends k t (λ o y q. next (seens.Held (Some entry) (matching entry o)) y q) (λ o y q. mark (seens.Held (Some entry) (matching entry o)) y q) over
        (λ o u still decoded. go (Some entry) (matching entry o) u still (sees_so trusts k (Some entry) (matching entry o) (is, (o, decoded, refl))))

    -- rules 21 and 29: the entry of the key, and the object that it names
    pub looked_ends : (k : List ℕ) (next mark : Rest PeerState Seen) → x.trusted ≡ true
        → ((entry : Option Entry) (object : Option Object) (t : Held) → Over t → Sees k entry object → Ends c (next (seens.Held entry object) x out) (mark (seens.Held entry object) x out) t notes)
        → EndsDamaged next mark → Ends c (looked k x out next) (looked k x out mark) h notes
    unfolding asked
    looked_ends k next mark trusts go damaged = ask_ends grows c (Find k) (λ end. looked_at k end x out next) (λ end. looked_at k end x out mark) h notes (λ among. by_look (find_ends strings h here.tree.last.map k c.free among (tree_sees s strings p x.seal h here.tree)))
      where
        t : Held
        t = (answered (Find k) h).held

        read_over : Over t
        read_over = over_call (Find k) h tt refl nothing_read

        by_look : Looks (lookup k here.tree.last.map) (answered (Find k) h).result → Answers c (Find k) (λ end. looked_at k end x out next) (λ end. looked_at k end x out mark) h notes
        by_look (Finds is) = record { answer = Came (lookup k here.tree.last.map); is = is; goes = held_ends k (lookup k here.tree.last.map) t next mark trusts refl read_over go }
        by_look (Breaks at is) = record { answer = Broken at; is = is; goes = damaged at t read_over }

    -- rule 22: the entry of the key
    pub found_ends : (k : List ℕ) (next mark : Rest PeerState Seen)
        → ((t : Held) → Over t → Ends c (next (seens.Held (lookup k here.tree.last.map) None) x out) (mark (seens.Held (lookup k here.tree.last.map) None) x out) t notes)
        → EndsDamaged next mark → Ends c (found k x out next) (found k x out mark) h notes
    unfolding asked
    found_ends k next mark go damaged = ask_ends grows c (Find k) (λ end. next (found_at end) x out) (λ end. mark (found_at end) x out) h notes (λ among. by_look (find_ends strings h here.tree.last.map k c.free among (tree_sees s strings p x.seal h here.tree)))
      where
        t : Held
        t = (answered (Find k) h).held

        read_over : Over t
        read_over = over_call (Find k) h tt refl nothing_read

        by_look : Looks (lookup k here.tree.last.map) (answered (Find k) h).result → Answers c (Find k) (λ end. next (found_at end) x out) (λ end. mark (found_at end) x out) h notes
        by_look (Finds is) = record { answer = Came (lookup k here.tree.last.map); is = is; goes = go t read_over }
        by_look (Breaks at is) = record { answer = Broken at; is = is; goes = damaged at t read_over }

    -- ## The object of a reply

    -- rule 29, GetReply: the object of the reply, if its entry names it
    pub confirmed_ends : (q d r : ℕ) (k : List ℕ) (entry : Option Entry) (object : Option Object) (next mark : Rest PeerState (Option Object))
        → GetReplySays here.reached.ghosts s q d r k (entry_rank entry) (shown entry object) → EntryMaySay s strings entry
        → ((named : Option Object) (t : Held) → Over t → Confirmed here.reached.ghosts s q d r k entry named → Ends c (next named x out) (mark named x out) t notes)
        → Ends c (confirmed entry object x out next) (confirmed entry object x out mark) h notes
    unfolding asked
    confirmed_ends q d r k None object next mark reply says go = go None h nothing_read (none_confirmed here.reached.ghosts s strings q d r k here.reached.hash None object reply)
    confirmed_ends q d r k (Some e) None next mark reply says go = go None h nothing_read (none_confirmed here.reached.ghosts s strings q d r k here.reached.hash (Some e) None reply)
    confirmed_ends q d r k (Some e) (Some o) next mark reply says go =
        ask_ends grows c (Hash (object_spelling o)) (λ digest. next (matching e (Some (o, digest))) x out) (λ digest. mark (matching e (Some (o, digest))) x out) h notes (λ among. record {
          answer = md5 (object_spelling o);
          is = refl;
          goes = go (matching e (Some (o, md5 (object_spelling o)))) (and_hashed (object_spelling o) h) (over_call (Hash (object_spelling o)) h tt refl nothing_read)
              (named_confirmed here.reached.ghosts s strings q d r k here.reached.hash e o (matching e (Some (o, md5 (object_spelling o)))) (matches e o) reply says);
        })

    -- ## A write

    module _ (few : (view : List ℕ) (steps : List Step) → IsRun view steps → KeysAreBelow (state_after view steps)) where
      -- with one more version the map has few entries, since few calls came
      few_entries : (o : Object) (d : ℕ) (digest : List ℕ) → PutSays s d o.key (rank o.version) (content_of o) → length (put (entry_of o digest) here.tree.last.map) < 2 ^ 32
      few_entries o d digest says = subst (λ (n : ℕ). n < 2 ^ 32) (length_keys m)
          (few view here.reached.steps here.reached.run (subst AreFew (sym here.reached.elsewhere.calls) c.few) (map (λ (e : Entry). e.key) m) (distinct_keys m (ascends-put (entry_of o digest) here.tree.last.map here.tree.last.named.stands.is_map.ascends)) (key_from IsKeyOf m (λ e i. by_place e (in_put e (entry_of o digest) here.tree.last.map i))))
        where
          m : List Entry
          m = put (entry_of o digest) here.tree.last.map

          IsKeyOf : List ℕ → Type 0
          IsKeyOf k = (v : ℕ) × (s.objects.proposed v ≡ true) × (s.objects.key v ≡ k)

          by_place : (e : Entry) → (e ≡ entry_of o digest) ⊎ (e ∈ here.tree.last.map) → IsKeyOf e.key
          by_place e (inl same) = (rank o.version, says.proposed, says.key ∙ ap (λ (f : Entry). f.key) (sym same))
          by_place e (inr old) = let there = here.tree.last.says.entries e old in (rank e.version, there.version.proposed, sym there.key)

      module _ (o : Object) (d : ℕ) (store : MayStore o d) (next mark : Rest PeerState Seen) where
        abbrev bytes : List ℕ
        bytes = object_spelling o

        abbrev e : Entry
        e = entry_of o (md5 bytes)

        -- what follows where the object was written
        abbrev Onwards : Type 0
        Onwards = (seal : Option (List ℕ)) (u : Held) → Stored o seal u → Ends c (next (seens.Stored (md5 bytes)) (record x { seal = seal }) out) (mark (seens.Stored (md5 bytes)) (record x { seal = seal }) out) u notes

        -- the object is written; now its bytes go into the backend
        bytes_end : (seal : Option (List ℕ)) (t : Held) → Stored o seal t → Onwards
            → Ends c (stored_bytes o bytes (md5 bytes) (record x { seal = seal }) out next) (stored_bytes o bytes (md5 bytes) (record x { seal = seal }) out mark) t notes
        unfolding asked
        bytes_end seal t stored go = ask_may_end grows c (Put o.key bytes) (λ u. next (seens.Stored (md5 bytes)) (record x { seal = seal }) out) (λ u. mark (seens.Stored (md5 bytes)) (record x { seal = seal }) out) t notes (λ among. by_end (put_ends o.key bytes t))
          where
            u : Held
            u = (answered (Put o.key bytes) t).held

            still : Stored o seal u
            still = record {
              kept_fact = ap (λ (f : HeldFact). f.kept) (spares (Put o.key bytes) t).1 ∙ stored.kept_fact;
              unsealed = stored.unsealed;
              tree_version = version_kept_so (Put o.key bytes) t tt ∙ stored.tree_version;
              spelled = stored.spelled;
              hashed = λ a at. grows (Put o.key bytes) t a (stored.hashed a at);
              written = written_kept (Put o.key bytes) h t (put e here.tree.last.map) tt stored.written;
              names = stored.names;
            }

            by_end : ((answered (Put o.key bytes) t).result ≡ Ok tt) ⊎ ((answered (Put o.key bytes) t).result ≡ Err StoreFault)
                → Answers c (Put o.key bytes) (λ u. next (seens.Stored (md5 bytes)) (record x { seal = seal }) out) (λ u. mark (seens.Stored (md5 bytes)) (record x { seal = seal }) out) t notes ⊎ IsRefused c (Put o.key bytes) t notes
            by_end (inl is) = inl (record { answer = tt; is = is; goes = go seal u still })
            by_end (inr is) = inr (record { error = StoreFault; is = is; rests = rests_written o d store seal u still.kept_fact still.spelled still.hashed still.written.next still.names still.unsealed })

        -- a peer with a seal saves its fact again, and then the object is written
        saved_end : (t : Held) → Entered o t → IsSealed x.seal → Onwards → Ends c (sealed x.fact x out (λ v y q. stored_bytes o bytes (md5 bytes) y q next)) (sealed x.fact x out (λ v y q. stored_bytes o bytes (md5 bytes) y q mark)) t notes
        unfolding asked
        saved_end t at is_sealed go = ask_ends grows c Root (λ seal. Ask (Save (with_seal seal x.fact)) (λ v. bytes_then seal next)) (λ seal. Ask (Save (with_seal seal x.fact)) (λ v. bytes_then seal mark)) t notes (λ among. record {
          answer = root;
          is = refl;
          goes = ask_may_end grows c (Save (with_seal root x.fact)) (λ v. bytes_then root next) (λ v. bytes_then root mark) t notes (λ more. by_end (save_ends (with_seal root x.fact) t));
        })
          where
            root : Option (List ℕ)
            root = t.stores.tree.top

            bytes_then : Option (List ℕ) → Rest PeerState Seen → Plan PeerState
            bytes_then seal rest = stored_bytes o bytes (md5 bytes) (record x { seal = seal }) out rest

            is_root : root ≡ Some at.written.next.digest
            is_root = written_root h t (put e here.tree.last.map) at.written

            -- over these stores the object is written
            saved_so : (u : Held) → u.stores.facts.kept ≡ Some (with_seal root x.fact) → u.stores.tree.version ≡ t.stores.tree.version → AreAmong t.hashed u.hashed → (written : IsWritten (put e here.tree.last.map) h u) → written.next.digest ≡ at.written.next.digest → Stored o root u
            saved_so u kept one_version among written same = record {
              kept_fact = kept;
              unsealed = λ none. absurd (none-some at.written.next.digest (sym none ∙ is_root));
              tree_version = one_version ∙ at.tree_version;
              spelled = at.spelled;
              hashed = λ a i. among a (at.hashed a i);
              written = written;
              names = inr (is_root ∙ ap (λ (x : List ℕ). Some x) (sym same));
            }

            v : Held
            v = (answered (Save (with_seal root x.fact)) t).held

            stopped : Stored o root v → Rests c v notes
            stopped stored = rests_written o d store root v stored.kept_fact stored.spelled stored.hashed stored.written.next stored.names stored.unsealed

            either_rests : HasEither (with_seal root x.fact) t v → Rests c v notes
            either_rests (inl same) = rests_sealed c here v (same ∙ at.kept_fact) (λ a i. grows (Save (with_seal root x.fact)) t a (at.hashed a i)) is_sealed
            either_rests (inr is) = stopped (saved_so v is (version_kept_so (Save (with_seal root x.fact)) t tt) (grows (Save (with_seal root x.fact)) t) (written_kept (Save (with_seal root x.fact)) h t (put e here.tree.last.map) tt at.written) refl)

            by_end : SaveEnds (with_seal root x.fact) t (answered (Save (with_seal root x.fact)) t) → Answers c (Save (with_seal root x.fact)) (λ v. bytes_then root next) (λ v. bytes_then root mark) t notes ⊎ IsRefused c (Save (with_seal root x.fact)) t notes
            by_end (Saves is) = inl (record {
              answer = tt;
              is = ap (λ (a : Answered (Save (with_seal root x.fact))). a.result) is;
              goes = subst (λ (u : Held). Ends c (bytes_then root next) (bytes_then root mark) u notes) (sym (ap (λ (a : Answered (Save (with_seal root x.fact))). a.held) is))
                  (bytes_end root (with_facts (record t.stores.facts { kept = Some (with_seal root x.fact) }) t)
                  (saved_so (with_facts (record t.stores.facts { kept = Some (with_seal root x.fact) }) t) refl refl (λ a i. i)
                  (record { next = record { digest = at.written.next.digest; tops = at.written.next.tops; named = at.written.next.named }; shows = record { digest = at.written.shows.digest; top = at.written.shows.top; stands = at.written.shows.stands; texts = at.written.shows.texts }; recorded = at.written.recorded }) refl)
                  go);
            })
            by_end (Refuses is left) = inr (record { error = StoreFault; is = is; rests = either_rests left })

        -- the entry is in the tree
        entered_end : (t : Held) → Entered o t → Onwards → Ends c (entered o bytes (md5 bytes) (Came tt) x out next) (entered o bytes (md5 bytes) (Came tt) x out mark) t notes
        entered_end t at go = by_seal x.seal refl
          where
            by_seal : (seal : Option (List ℕ)) → x.seal ≡ seal
                → Ends c (resealed (is_some seal) x out (λ v y q. stored_bytes o bytes (md5 bytes) y q next)) (resealed (is_some seal) x out (λ v y q. stored_bytes o bytes (md5 bytes) y q mark)) t notes
            by_seal None none = bytes_end x.seal t (record {
              kept_fact = at.kept_fact ∙ kept_whole;
              unsealed = λ is. is;
              tree_version = at.tree_version;
              spelled = at.spelled;
              hashed = at.hashed;
              written = at.written;
              names = inl none;
            }) go
            by_seal (Some seal) is = saved_end t at (subst IsSealed (sym is) tt) go

        -- the entry goes into the tree
        entry_ends : (t : Held) → bytes ∈ strings → Over t → Onwards → EndsDamaged next mark
            → Ends c (Ask (Enter e) (λ end. entered o bytes (md5 bytes) end x out next)) (Ask (Enter e) (λ end. entered o bytes (md5 bytes) end x out mark)) t notes
        entry_ends t spelled over go damaged = ask_may_end grows c (Enter e) (λ end. entered o bytes (md5 bytes) end x out next) (λ end. entered o bytes (md5 bytes) end x out mark) t notes (λ among.
            by_end (enter_ends strings t here.tree.last.map e c.free among (tree_sees s strings p x.seal t (over_here t over).tree) (record { key = store.obeys.key; version = store.obeys.version; digest = md5_run bytes }) (few_entries o d (md5 bytes) store.says)))
          where
            u : Held
            u = (answered (Enter e) t).held

            still : u.stores.facts.kept ≡ h.stores.facts.kept
            still = ap (λ (f : HeldFact). f.kept) (spares (Enter e) t).1 ∙ over.kept_fact

            -- the tree keeps its version
            entered_version : u.stores.tree.version ≡ t.stores.tree.version
            entered_version = versions (Enter e) t tt

            hashed : AreAmong h.hashed u.hashed
            hashed a at = grows (Enter e) t a (over.hashed a at)

            -- the write of the top record was refused, and left the new one: that is a write without a seal alone
            left_new : NamesNext (put e here.tree.last.map) h u → (seal : Option (List ℕ)) → x.seal ≡ seal → Rests c u notes
            left_new named None none = rests_written o d store x.seal u (still ∙ kept_whole) spelled hashed named (inl none) (λ is. is)
            left_new named (Some seal) is = rests_sealed c here u still hashed (subst IsSealed (sym is) tt)

            torn : (tops_of u.stores ≡ tops_of t.stores) ⊎ NamesNext (put e here.tree.last.map) t u → Rests c u notes
            torn (inl same) = rests_over c here u still (same ∙ over.tops) hashed
            torn (inr named) = left_new (names_from h t u (put e here.tree.last.map) over.tops named) x.seal refl

            by_end : EnterEnds e here.tree.last.map t (answered (Enter e) t).result u → Answers c (Enter e) (λ end. entered o bytes (md5 bytes) end x out next) (λ end. entered o bytes (md5 bytes) end x out mark) t notes ⊎ IsRefused c (Enter e) t notes
            by_end (Enters is written) = inl (record {
              answer = Came tt;
              is = is;
              goes = entered_end u (record { kept_fact = still; tree_version = entered_version ∙ over.tree_version; spelled = spelled; hashed = hashed; written = written_from h t u (put e here.tree.last.map) over.tops written }) go;
            })
            by_end (Stops at is tops) = inl (record {
              answer = Broken at;
              is = is;
              goes = damaged at u (record { kept_fact = still; root = broken_root e t at is ∙ over.root; tree_version = entered_version ∙ over.tree_version; tops = tops ∙ over.tops; hashed = hashed });
            })
            by_end (Tears is either) = inr (record { error = StoreFault; is = is; rests = torn either })

        -- rules 22 and 35: the object is written
        pub written_ends : Onwards → EndsDamaged next mark
            → Ends c (written o x out next) (written o x out mark) h notes
        unfolding asked
        written_ends go damaged = ask_ends grows c (Hash bytes) (λ digest. asks digest next) (λ digest. asks digest mark) h notes (λ among. record {
          answer = md5 bytes;
          is = refl;
          goes = entry_ends (and_hashed bytes h) (among bytes (hashes bytes h).1) (over_call (Hash bytes) h tt refl nothing_read) go damaged;
        })
          where
            asks : List ℕ → Rest PeerState Seen → Plan PeerState
            asks digest rest = Ask (Enter (entry_of o digest)) (λ end. entered o bytes digest end x out rest)
