-- What a settled version says, and the object of a reply.
use Rattle.std.proofs.Common.{◌≡◌, ◌⊎◌, inl, inr, ◌<◌, ◌≤◌, ℕ, Bool, true, false, ◌&&◌, if◌then◌else◌, List, length, map, Option, None, Some, arith, refl, sym, ap, subst, ◌∙◌}
use Rattle.std.proofs.lemmas.Bool.{and_parts, cases_order}
use Rattle.std.proofs.lemmas.Bool.Decides.{nat_tests}
use Rattle.std.proofs.lemmas.Option.{none-some, same_Some}
use Rattle.md5.specs.Md5.{md5}
use Rattle.ens_base.proofs.Lists.{bytes_same}
use Rattle.ens_base.proofs.Orders.{version_same}
use Rattle.ens_base.specs.Epochs.{same_version}
use Rattle.ens_base.specs.Lists.{same_bytes}
use Rattle.ens_base.specs.declared.entry.Entry.{Entry}
use Rattle.ens_base.specs.declared.epoch.Version.{Version}
use Rattle.stored_formats.specs.Objects.{object_spelling}
use Rattle.stored_formats.specs.declared.object.Object.{Object}
use Rattle.object_commands.specs.Kept.{is_named, matching}
use Rattle.quorums.proofs.Majorities.{meet_of_quorums, shares_itself}
use Rattle.protocol_laws.specs.Book.{version_of}
use Rattle.protocol_laws.specs.Ledger as ledger
use Rattle.protocol_laws.specs.Numbers.{epoch_number, IsVersion}
use Rattle.protocol_laws.specs.Objects.{epoch_of, IsGenuine, MayAcknowledge}
use Rattle.protocol_laws.specs.Protocol.{State, Step, Acknowledge, IsRun, state_after, happens, MayCome}
use Rattle.protocol_laws.proofs.Epochs.{not_empty}
use Rattle.protocol_laws.proofs.Sound.{Sound, run_sound}
use Rattle.protocol_laws.proofs.Maps.{epoch_mono}
use Rattle.protocol_laws.proofs.Trees.{run_versions}
use Rattle.protocol_laws.specs.Versions.{VersionsAreSafe, IsSettled}
use Rattle.protocol_laws.proofs.Later.{stay_step}
use Rattle.call_table.specs.Best.{better}
use Rattle.role_laws.specs.LeaderMessages.{GetReplySays}
use Rattle.role_laws.specs.Tables as theory
use Rattle.leader_refinement.proofs.Numbers.{rank_back, rank_some}
use Rattle.leader_refinement.specs.Follows.{Hash as Digests}
use Rattle.leader_refinement.specs.Laws.{FoundSays}
use Rattle.leader_refinement.specs.Seen.{rank, content_of, entry_rank, shown}
use Rattle.peer_spec.specs.Owns.{kept, written}
use Rattle.peer_refinement.proofs.Lookups.{lookup_in, lookup_key}
use Rattle.peer_refinement.proofs.Numbers.{version_fits}
use Rattle.peer_refinement.specs.Naming.{hash_of, VersionSays, EntrySays}
use Rattle.peer_refinement.specs.Replies.{MapSays}
use Rattle.step_plans.specs.Saved.{bare, kept_seal, with_seal}
use Rattle.stored_formats.specs.declared.fact.Fact.{Fact}
use Rattle.stored_formats.specs.declared.saved.SavedFact.{SavedFact}
use Rattle.peer_refinement.proofs.SyncStaying.{version_stays}
use Rattle.synctree.specs.Entries.{lookup}
use Rattle.step_refinement.specs.Peers.{AcksSay}

-- ## Settled versions

-- some peer acknowledged the version
abbrev IsAcked : State → ℕ → Type 0
IsAcked s v = (q : ℕ) × (s.objects.acked v q ≡ true)

settled_acked : (s : State) → Sound s.objects.ledger → VersionsAreSafe s.objects → (v : ℕ) → s.objects.settled v ≡ true → IsAcked s v
settled_acked s sound safe v settled = by_settled (safe.settled v settled)
  where
    by_settled : IsSettled s.objects v → IsAcked s v
    by_settled is =
        let views = s.objects.ledger.views (epoch_of v) in
        let some : 0 < length views = not_empty s.objects.ledger sound (epoch_of v) (safe.epochs v is.proposed).elected in
        let both = (meet_of_quorums (s.objects.settled_by v) (s.objects.settled_by v) views views (shares_itself views some) is.quorum is.quorum).meet in
        (both.peer, is.acked both.peer both.in_left)

-- a settled version says what holds, since a quorum had acknowledged it
pub settled_say : (view : List ℕ) (steps : List Step) (strings : List (List ℕ)) (v : Version) → IsRun view steps → AcksSay (state_after view steps) strings → IsVersion v → (state_after view steps).objects.settled (rank v) ≡ true → VersionSays (state_after view steps) strings v
settled_say view steps strings v run acks fits settled =
    let acked = settled_acked (state_after view steps) (run_sound view steps run) (run_versions view steps run) (rank v) settled in
    acks v acked.0 fits acked.1

-- a version that a peer may acknowledge says what holds: its tree shows that version, or a greater
-- one of the same epoch, and then the version is settled
may_acknowledge_says : (view : List ℕ) (steps : List Step) (strings : List (List ℕ)) (p : ℕ) (m : List Entry) (v : Version) → IsRun view steps → AcksSay (state_after view steps) strings → MapSays (state_after view steps) strings p m → IsVersion v
    → MayAcknowledge (state_after view steps).objects p (rank v) → VersionSays (state_after view steps) strings v
may_acknowledge_says view steps strings p m v run acks shows fits may = by_entry (lookup k m) refl
  where
    s : State
    s = state_after view steps

    k : List ℕ
    k = s.objects.key (rank v)

    safe : VersionsAreSafe s.objects
    safe = run_versions view steps run

    none_there : 0 < rank v → rank v ≤ s.objects.map p k → s.objects.map p k ≡ 0 → ⊥
    none_there some has none = omega arith

    -- the version in the tree is of the peer's ballot, or of a lower epoch
    low : (u : ℕ) → 0 < u → IsGenuine s.objects (s.objects.ledger.ballot p) k u → epoch_of u ≤ s.objects.ledger.ballot p
    low u some (inl none) = absurd (no_version some none)
      where
        no_version : 0 < u → u ≡ 0 → ⊥
        no_version some none = omega arith
    low u some (inr is) = is.2

    same_epoch : (u : ℕ) → rank v ≤ u → epoch_of u ≤ s.objects.ledger.ballot p → epoch_of (rank v) ≡ epoch_of u
    same_epoch u above low = equal (epoch_mono (rank v) u above) low may.stands
      where
        equal : epoch_of (rank v) ≤ epoch_of u → epoch_of u ≤ s.objects.ledger.ballot p → s.objects.ledger.ballot p ≡ epoch_of (rank v) → epoch_of (rank v) ≡ epoch_of u
        equal a b e = omega arith

    by_order : (e : Entry) → EntrySays s strings e → e.key ≡ k → s.objects.map p k ≡ rank e.version → (rank v ≡ rank e.version) ⊎ ((rank v < rank e.version) ⊎ (rank e.version < rank v)) → VersionSays s strings v
    by_order e says on_key shown (inl same) = subst (λ (w : Version). VersionSays s strings w) (sym (rank_back e.version (version_fits e.version says.version.object.version)) ∙ ap version_of (sym same) ∙ rank_back v fits) says.version
    by_order e says on_key shown (inr (inl less)) = settled_say view steps strings v run acks fits
        (safe.chain (rank e.version) (rank v) says.version.proposed may.proposed (sym on_key ∙ says.key) (same_epoch (rank e.version) (under less) (low (rank e.version) (rank_some e.version) (subst (λ (u : ℕ). IsGenuine s.objects (s.objects.ledger.ballot p) k u) shown (safe.genuine.written p k)))) less).settled
      where
        under : rank v < rank e.version → rank v ≤ rank e.version
        under h = omega arith
    by_order e says on_key shown (inr (inr more)) = absurd (too_great more may.has shown)
      where
        too_great : rank e.version < rank v → rank v ≤ s.objects.map p k → s.objects.map p k ≡ rank e.version → ⊥
        too_great more has shown = omega arith

    by_entry : (entry : Option Entry) → lookup k m ≡ entry → VersionSays s strings v
    by_entry None none = absurd (none_there (rank_some v) may.has (shows.map k ∙ ap entry_rank none))
    by_entry (Some e) is = by_order e (shows.entries e (lookup_in k m e is)) (lookup_key k m e is) (shows.map k ∙ ap entry_rank is) (cases_order (rank v) (rank e.version))

-- the version of a number has that number
pub rank_again : (u : ℕ) → 0 < u → rank (version_of u) ≡ u
unfolding version_of theory.version_at epoch_number
rank_again u some = omega (arith, some)

-- ## What stays

-- only peer p acknowledges in the step
abbrev pub AcksAlone : ℕ → Step → Type 0
AcksAlone p (Acknowledge q v) = q ≡ p
AcksAlone p step = Unit {0}

acks_more : (view : List ℕ) (steps : List Step) (strings : List (List ℕ)) (p : ℕ) (m : List Entry) → IsRun view steps → AcksSay (state_after view steps) strings → MapSays (state_after view steps) strings p m
    → (v : ℕ) → MayCome (state_after view steps) (Acknowledge p v) → AcksSay (happens (state_after view steps) (Acknowledge p v)) strings
acks_more view steps strings p m run acks shows v may w q fits acked = version_stays (state_after view steps) (happens (state_after view steps) (Acknowledge p v)) strings (stay_step (state_after view steps) (Acknowledge p v) may) w (by_mark (either (state_after view steps).objects.acked v p (rank w) q acked))
  where
    either : (old : ℕ → ℕ → Bool) (n p m q : ℕ) → ledger.mark old n p m q ≡ true → (n ≡ m) ⊎ (old m q ≡ true)
    either old n p m q h = grind (arith, nat_tests)

    by_mark : (v ≡ rank w) ⊎ ((state_after view steps).objects.acked (rank w) q ≡ true) → VersionSays (state_after view steps) strings w
    by_mark (inl same) = may_acknowledge_says view steps strings p m w run acks shows fits (subst (λ (u : ℕ). MayAcknowledge (state_after view steps).objects p u) same may.0)
    by_mark (inr old) = acks w q fits old

-- each acknowledged version still says what holds after a step
pub acks_step : (view : List ℕ) (steps : List Step) (strings : List (List ℕ)) (p : ℕ) (m : List Entry) → IsRun view steps → AcksSay (state_after view steps) strings → MapSays (state_after view steps) strings p m
    → (e : Step) → MayCome (state_after view steps) e → AcksAlone p e → AcksSay (happens (state_after view steps) e) strings
acks_step view steps strings p m run acks shows (Acknowledge q v) may alone = subst (λ (r : ℕ). AcksSay (happens (state_after view steps) (Acknowledge r v)) strings) (sym alone)
    (acks_more view steps strings p m run acks shows v (subst (λ (r : ℕ). MayCome (state_after view steps) (Acknowledge r v)) alone may))
acks_step view steps strings p m run acks shows e may alone = λ w q fits acked. version_stays (state_after view steps) (happens (state_after view steps) e) strings (stay_step (state_after view steps) e may) w (acks w q fits acked)

-- ## The object of a reply

-- the object matches the entry, which names it
pub record Matches (e : Entry) (o named : Object) : Type 0 where
  pub object : named ≡ o
  pub key : o.key ≡ e.key
  pub version : o.version ≡ e.version
  pub digest : e.digest ≡ md5 (object_spelling o)

-- an object that the entry does not name counts as none
abbrev pub MayMatch : Entry → Object → Option Object → Type 0
MayMatch e o None = Unit {0}
MayMatch e o (Some named) = Matches e o named

pub matches : (e : Entry) (o : Object) → MayMatch e o (matching e (Some (o, md5 (object_spelling o))))
matches e o = by_name (is_named e o (md5 (object_spelling o))) refl
  where
    by_name : (b : Bool) → is_named e o (md5 (object_spelling o)) ≡ b → MayMatch e o (if b then Some o else None)
    by_name true is =
        let parts = and_parts (same_bytes o.key e.key && same_version o.version e.version) (same_bytes (md5 (object_spelling o)) e.digest) is in
        let both = and_parts (same_bytes o.key e.key) (same_version o.version e.version) parts.0 in
        record { object = refl; key = bytes_same o.key e.key both.0; version = version_same o.version e.version both.1; digest = sym (bytes_same (md5 (object_spelling o)) e.digest parts.1) }
    by_name false other = tt

-- a genuine entry is of the key
reply_key : (g : theory.Ghosts) (s : State) (strings : List (List ℕ)) (q d r : ℕ) (k : List ℕ) (e : Entry) (object : Option theory.Object) → GetReplySays g s q d r k (rank e.version) object → EntrySays s strings e → e.key ≡ k
reply_key g s strings q d r k e object reply says = by_genuine reply.genuine
  where
    by_genuine : (rank e.version ≡ 0) ⊎ ((s.objects.proposed (rank e.version) ≡ true) × (s.objects.key (rank e.version) ≡ k) × (epoch_of (rank e.version) ≤ d)) → e.key ≡ k
    by_genuine (inl none) = absurd (no_rank (rank_some e.version))
      where
        no_rank : 0 < rank e.version → ⊥
        no_rank some = omega arith
    by_genuine (inr there) = says.key ∙ there.1

-- a reply without its object
without_object : (g : theory.Ghosts) (s : State) (q d r : ℕ) (k : List ℕ) (entry : ℕ) (object : Option theory.Object) → GetReplySays g s q d r k entry object → GetReplySays g s q d r k entry None
without_object g s q d r k entry object reply = record {
  turn = reply.turn;
  started = reply.started;
  genuine = reply.genuine;
  reached = reply.reached;
  given = reply.given;
  stood = reply.stood;
  settled = reply.settled;
  holds = λ x e. absurd (none-some x e);
}

-- what is known of the object of a reply once it is confirmed
pub record Confirmed (g : theory.Ghosts) (s : State) (q d r : ℕ) (k : List ℕ) (entry : Option Entry) (named : Option Object) : Type 0 where
  pub reply : GetReplySays g s q d r k (entry_rank entry) (shown entry named)
  pub found_says : FoundSays g k (better None entry named)

module _ (g : theory.Ghosts) (s : State) (strings : List (List ℕ)) (q d r : ℕ) (k : List ℕ) (hash : g.hash ≡ hash_of) where
  pub none_confirmed : (entry : Option Entry) (object : Option Object) → GetReplySays g s q d r k (entry_rank entry) (shown entry object) → Confirmed g s q d r k entry None
  none_confirmed None object reply = record { reply = reply; found_says = tt }
  none_confirmed (Some e) object reply = record { reply = without_object g s q d r k (rank e.version) (shown (Some e) object) reply; found_says = λ o is. absurd (none-some o is) }

  pub named_confirmed : (e : Entry) (o : Object) (named : Option Object) → MayMatch e o named → GetReplySays g s q d r k (rank e.version) (Some (content_of o)) → EntrySays s strings e → Confirmed g s q d r k (Some e) named
  named_confirmed e o None match reply says = none_confirmed (Some e) (Some o) reply
  named_confirmed e o (Some named) match reply says = record {
    reply = subst (λ (x : Object). GetReplySays g s q d r k (rank e.version) (Some (content_of x))) (sym match.object) reply;
    found_says = λ x is. subst (λ (y : Object). (y.version ≡ e.version) × (e.digest ≡ g.hash e.version k y.stamp y.value)) (sym match.object ∙ same_Some named x is) own;
  }
    where
      plain : e.digest ≡ hash_of e.version k o.stamp o.value
      plain = subst (λ (j : List ℕ). e.digest ≡ hash_of e.version j o.stamp o.value) (match.key ∙ reply_key g s strings q d r k e (Some (content_of o)) reply says)
          (subst (λ (v : Version). e.digest ≡ hash_of v o.key o.stamp o.value) match.version match.digest)

      own : (o.version ≡ e.version) × (e.digest ≡ g.hash e.version k o.stamp o.value)
      own = (match.version, subst (λ (f : Digests). e.digest ≡ f e.version k o.stamp o.value) (sym hash) plain)

-- ## What is kept

-- a fact that is kept with this seal
pub both_kept : (kept : Option SavedFact) (fact : Fact) (seal : Option (List ℕ)) → bare kept ≡ Some fact → kept_seal kept ≡ seal → kept ≡ Some (with_seal seal fact)
both_kept None fact seal is same = absurd (none-some fact is)
both_kept (Some saved) fact seal is same = ap (λ (f : Fact). Some (with_seal saved.seal f)) (same_Some saved.fact fact is) ∙ ap (λ (x : Option (List ℕ)). Some (with_seal x fact)) same
