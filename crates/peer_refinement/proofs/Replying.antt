-- The rows of the rules 20, 21 and 22 reply what holds.
use Rattle.std.proofs.Common.{◌≡◌, inl, inr, ◌≤◌, ℕ, Bool, true, false, if◌then◌else◌, List, Option, None, Some, arith, refl, sym, ap, subst, ◌∙◌}
use Rattle.std.specs.Prelude.{not}
use Rattle.ens_base.proofs.Orders.{version_same}
use Rattle.ens_base.specs.Epochs.{same_version}
use Rattle.ens_base.specs.declared.entry.Entry.{Entry}
use Rattle.ens_base.specs.declared.epoch.Epoch.{Epoch}
use Rattle.stored_formats.specs.Objects.{IsObject}
use Rattle.stored_formats.specs.declared.object.Object.{Object}
use Rattle.stored_formats.specs.declared.fact.Fact.{Fact}
use Rattle.phase_rows.specs.Orders.{is_below, is_same}
use Rattle.phase_rows.specs.Peers.{alone}
use Rattle.phase_rows.specs.Rows.{silent, sends, refuses, refuses_below}
use Rattle.synctree.specs.Entries.{lookup}
use Rattle.wire_frames.specs.declared.message.Message.TheVariants as messages
use Rattle.wire_frames.specs.declared.message.NackCause.TheVariants as causes
use Rattle.phase_rows.specs.declared.phase.PhaseOut.{PhaseOut}
use Rattle.phase_rows.specs.declared.phase.Seen.{Seen}
use Rattle.phase_rows.specs.declared.phase.Seen.TheVariants as seens
use Rattle.phase_rows.specs.declared.phase.Then.TheVariants.{Stay, Put}
use Rattle.phase_rows.proofs.Epochs.{same_epochs}
use Rattle.phase_rules.specs.Refusals.{refusal, unless_refused}
use Rattle.phase_rules.specs.Requests.{row_20, gets, row_21, is_version_below, acknowledges, puts_over, puts_at, puts, row_22}
use Rattle.protocol_laws.specs.Numbers.{epoch_number, IsEpoch}
use Rattle.protocol_laws.specs.Protocol.{State, Step, IsRun, state_after}
use Rattle.protocol_laws.proofs.Sound.{Sound, run_sound}
use Rattle.role_laws.proofs.Runs.{run_peers}
use Rattle.role_laws.specs.LeaderLaws.{PeersReply}
use Rattle.role_laws.specs.Leaders.{TurnsHold, IsObjectOf}
use Rattle.role_laws.specs.LeaderMessages.{GetSays, CheckSays, PutSays, GetReplySays}
use Rattle.role_laws.specs.Tables.{Ghosts}
use Rattle.leader_refinement.specs.Seen.{rank, content_of, entry_rank, shown}
use Rattle.object_commands.specs.Kept.{entry_of}
use Rattle.peer_refinement.proofs.Lookups.{lookup_in}
use Rattle.peer_refinement.proofs.Looks.{fits_so}
use Rattle.peer_refinement.proofs.Numbers.{version_fits, not_below, not_below_version}
use Rattle.peer_refinement.proofs.RequestStaying.{put_entry, write_shows}
use Rattle.peer_refinement.specs.Naming.{EntrySays}
use Rattle.peer_refinement.specs.Replies.{Serves, MapSays, FindSees, IsShown, SeenSays, Replies, HasVersion, TakesVersion, IsReplyToPut}
use Rattle.peer_refinement.specs.RequestLaws.{PeersServe, RepliesToChecks, RepliesToGets, RepliesToPuts}
use Rattle.protocol_laws.proofs.Maps.{mark_here}

serves : (s : State) → Sound s.objects.ledger → PeersServe s
serves s sound q fact trusted ballot place trusts ballot_fits epoch_fits below = record {
  ballot = ballot;
  accepted = subst (λ (d : ℕ). s.objects.ledger.accepted d q ≡ true) place (sound.peers.last q);
  trusts = trusts;
  ballot_fits = ballot_fits;
  epoch_fits = epoch_fits;
  below = below;
}

pub run_serves : (view : List ℕ) (steps : List Step) → IsRun view steps → PeersServe (state_after view steps)
run_serves view steps run = serves (state_after view steps) (run_sound view steps run)

-- in this state a peer that stands at an epoch replies what holds
abbrev RepliesAt : State → ℕ → Type 0
RepliesAt s q = (d : ℕ) → s.objects.ledger.ballot q ≡ d → PeersReply s q d

-- ## Rule 20

module _ (s : State) (g : Ghosts) (strings : List (List ℕ)) (q : ℕ) (fact : Fact) (trusted : Bool) (serves : Serves s q fact trusted) (peers : RepliesAt s q) (from : ℕ) (ballot : Epoch) where
  check_row : (round : ℕ) → TurnsHold g s → CheckSays g (epoch_number ballot) round → Replies g s strings q (row_20 fact from ballot round)
  check_row round turns says = by_below (is_below ballot fact.ballot)
    where
      by_same : (b : Bool) → is_same ballot fact.ballot ≡ b → Replies g s strings q (if b then sends (alone from) (messages.CheckReply ballot round) Stay else silent Stay)
      by_same true same = record { says = (peers (epoch_number ballot) (serves.ballot ∙ ap epoch_number (sym (same_epochs ballot fact.ballot same)))).check_reply g round turns says; unsaved = refl; next = inl refl }
      by_same false other = record { says = tt; unsaved = refl; next = inl refl }

      by_below : (b : Bool) → Replies g s strings q (if b then refuses_below from ballot fact else (if is_same ballot fact.ballot then sends (alone from) (messages.CheckReply ballot round) Stay else silent Stay))
      by_below true = record { says = tt; unsaved = refl; next = inl refl }
      by_below false = by_same (is_same ballot fact.ballot) refl

  -- ## A request that is served

  -- the peer stands at the ballot, which it accepted, and trusts its tree, as it says
  record IsServed : Type 0 where
    own_trust : trusted ≡ true
    stands : s.objects.ledger.ballot q ≡ epoch_number ballot
    accepted : s.objects.ledger.accepted (epoch_number ballot) q ≡ true
    trusts : s.objects.trusted q ≡ true

  served : is_below ballot fact.ballot ≡ false → is_same fact.epoch ballot ≡ true → trusted ≡ true → IsServed
  served above same trusts = record {
    own_trust = trusts;
    stands = serves.ballot ∙ equal (not_below ballot fact.ballot (subst IsEpoch epochs serves.epoch_fits) serves.ballot_fits above) (subst (λ (e : Epoch). epoch_number e ≤ epoch_number fact.ballot) epochs serves.below);
    accepted = subst (λ (e : Epoch). s.objects.ledger.accepted (epoch_number e) q ≡ true) epochs serves.accepted;
    trusts = serves.trusts ∙ trusts;
  }
    where
      epochs : fact.epoch ≡ ballot
      epochs = same_epochs fact.epoch ballot same

      equal : epoch_number fact.ballot ≤ epoch_number ballot → epoch_number ballot ≤ epoch_number fact.ballot → epoch_number fact.ballot ≡ epoch_number ballot
      equal a b = omega arith

  -- what holds of each refusal, and of the answer if the request is served, holds of the row
  unless_so : (P : PhaseOut → Type 0) (answer : PhaseOut) → P (refuses_below from ballot fact) → P (silent Stay) → P (refuses from ballot causes.Untrusted) → (IsServed → P answer) → P (unless_refused (refusal fact trusted from ballot) answer)
  unless_so P answer below other untrusted goes = by_below (is_below ballot fact.ballot) refl
    where
      by_trust : (t : Bool) → trusted ≡ t → is_below ballot fact.ballot ≡ false → is_same fact.epoch ballot ≡ true → P (unless_refused (if not t then Some (refuses from ballot causes.Untrusted) else None) answer)
      by_trust true trusts above same = goes (served above same trusts)
      by_trust false trusts above same = untrusted

      by_same : (b : Bool) → is_same fact.epoch ballot ≡ b → is_below ballot fact.ballot ≡ false → P (unless_refused (if not b then Some (silent Stay) else (if not trusted then Some (refuses from ballot causes.Untrusted) else None)) answer)
      by_same true same above = by_trust trusted refl above same
      by_same false differs above = other

      by_below : (b : Bool) → is_below ballot fact.ballot ≡ b → P (unless_refused (if b then Some (refuses_below from ballot fact) else (if not (is_same fact.epoch ballot) then Some (silent Stay) else (if not trusted then Some (refuses from ballot causes.Untrusted) else None))) answer)
      by_below true is = below
      by_below false is = by_same (is_same fact.epoch ballot) refl is

  -- ## Rule 21

  get_row : (round : ℕ) (key : List ℕ) (seen : Seen) → TurnsHold g s → GetSays g s (epoch_number ballot) round key → SeenSays g s strings q key seen → Replies g s strings q (row_21 fact trusted from ballot round key seen)
  get_row round key seen turns says sees = unless_so (Replies g s strings q) (gets from ballot round key seen) (record { says = tt; unsaved = refl; next = inl refl }) (record { says = tt; unsaved = refl; next = inl refl }) (record { says = tt; unsaved = refl; next = inl refl }) (λ is. by_seen is seen sees)
    where
      replied : IsServed → (entry : Option Entry) (object : Option Object) → IsShown g s strings q key entry object → GetReplySays g s q (epoch_number ballot) round key (entry_rank entry) (shown entry object)
      replied is entry object shows = subst (λ (v : ℕ). GetReplySays g s q (epoch_number ballot) round key v (shown entry object)) shows.look.1
          ((peers (epoch_number ballot) is.stands).get_reply g round key (shown entry object) turns says is.trusts (λ x e. subst (λ (v : ℕ). IsObjectOf s v x) (sym shows.look.1) (shows.look.2 x e)))

      by_seen : IsServed → (seen : Seen) → SeenSays g s strings q key seen → Replies g s strings q (gets from ballot round key seen)
      by_seen is (seens.Held entry object) shows = record {
        says = record { reply = replied is entry object shows; entry_says = shows.entry_says; fits = fits_so s strings entry shows.entry_says };
        unsaved = refl;
        next = inl refl;
      }
      by_seen is (seens.Damaged at) shows = record { says = tt; unsaved = refl; next = inr refl }
      by_seen is seens.Nothing shows = record { says = tt; unsaved = refl; next = inl refl }
      by_seen is (seens.Kept object) shows = record { says = tt; unsaved = refl; next = inl refl }
      by_seen is (seens.Stored digest) shows = record { says = tt; unsaved = refl; next = inl refl }

  -- ## Rule 22

  module _ (m : List Entry) (map_says : trusted ≡ true → MapSays s strings q m) (o : Object) (says : PutSays s (epoch_number ballot) o.key (rank o.version) (content_of o)) (obeys : IsObject o) where
    abbrev IsReply : PhaseOut → Type 0
    IsReply out = IsReplyToPut g s strings q m from ballot o out

    has_version : IsServed → s.objects.visible q o.key ≡ rank o.version → HasVersion g s strings q from ballot o (acknowledges from ballot o Stay)
    has_version is same = record {
      is = refl;
      may = (peers (epoch_number ballot) is.stands).put_is_there o.key (rank o.version) (content_of o) is.trusts is.accepted says same;
      says = mark_here s.objects.acked (rank o.version) q;
    }

    takes_version : IsServed → s.objects.visible q o.key ≤ rank o.version → TakesVersion g s strings q m from ballot o (acknowledges from ballot o Put)
    takes_version is low = record {
      is = refl;
      may = (peers (epoch_number ballot) is.stands).put_goes_in o.key (rank o.version) (content_of o) is.trusts is.accepted says low;
      shows = λ more digest among hashed same. write_shows s strings more q m (entry_of o digest) among (map_says is.own_trust) (put_entry s more (epoch_number ballot) o digest says obeys hashed same);
      says = mark_here s.objects.acked (rank o.version) q;
      damaged = λ at. record { says = tt; unsaved = refl; next = inr refl };
    }

    over_entry : IsServed → (e : Entry) → EntrySays s strings e → s.objects.visible q o.key ≡ rank e.version → IsReply (puts_over from ballot o e.version)
    over_entry is e here shows = by_same (same_version e.version o.version) refl
      where
        lower : rank e.version ≤ rank o.version → s.objects.visible q o.key ≤ rank o.version
        lower l = omega arith

        by_below : (b : Bool) → is_version_below o.version e.version ≡ b → IsReply (if b then silent Stay else acknowledges from ballot o Put)
        by_below true more = inl (record { says = tt; unsaved = refl; next = inl refl })
        by_below false less = inr (inr (takes_version is (lower (not_below_version o.version e.version (version_fits o.version obeys.version) (version_fits e.version here.version.object.version) less))))

        by_same : (b : Bool) → same_version e.version o.version ≡ b → IsReply (if b then acknowledges from ballot o Stay else (if is_version_below o.version e.version then silent Stay else acknowledges from ballot o Put))
        by_same true same = inr (inl (has_version is (shows ∙ ap rank (version_same e.version o.version same))))
        by_same false other = by_below (is_version_below o.version e.version) refl

    at_entry : IsServed → (entry : Option Entry) → entry ≡ lookup o.key m → IsReply (puts_at from ballot o entry)
    at_entry is None found = inr (inr (takes_version is (none ((map_says is.own_trust).visible o.key ∙ ap entry_rank (sym found)))))
      where
        none : s.objects.visible q o.key ≡ 0 → s.objects.visible q o.key ≤ rank o.version
        none e = omega arith
    at_entry is (Some e) found = over_entry is e ((map_says is.own_trust).entries e (lookup_in o.key m e (sym found))) ((map_says is.own_trust).visible o.key ∙ ap entry_rank (sym found))

    put_row : (seen : Seen) → FindSees m o.key seen → IsReply (row_22 fact trusted from ballot o seen)
    put_row seen find = unless_so IsReply (puts from ballot o seen) (inl (record { says = tt; unsaved = refl; next = inl refl })) (inl (record { says = tt; unsaved = refl; next = inl refl })) (inl (record { says = tt; unsaved = refl; next = inl refl })) (λ is. by_seen is seen find)
      where
        by_seen : IsServed → (seen : Seen) → FindSees m o.key seen → IsReply (puts from ballot o seen)
        by_seen is (seens.Held entry kept) found = at_entry is entry found
        by_seen is (seens.Damaged at) found = inl (record { says = tt; unsaved = refl; next = inr refl })
        by_seen is seens.Nothing found = inl (record { says = tt; unsaved = refl; next = inl refl })
        by_seen is (seens.Kept object) found = absurd found
        by_seen is (seens.Stored digest) found = absurd found

-- ## In a run

pub run_checks : (view : List ℕ) (steps : List Step) → IsRun view steps → RepliesToChecks (state_after view steps)
run_checks view steps run g strings q fact trusted from ballot round turns serves says = check_row (state_after view steps) g strings q fact trusted serves (λ d stands. run_peers view steps q d run stands) from ballot round turns says

pub run_gets : (view : List ℕ) (steps : List Step) → IsRun view steps → RepliesToGets (state_after view steps)
run_gets view steps run g strings q fact trusted from ballot round key seen turns serves says sees = get_row (state_after view steps) g strings q fact trusted serves (λ d stands. run_peers view steps q d run stands) from ballot round key seen turns says sees

pub run_puts : (view : List ℕ) (steps : List Step) → IsRun view steps → RepliesToPuts (state_after view steps)
run_puts view steps run g strings q m fact trusted from ballot o seen serves map_says says obeys find = put_row (state_after view steps) g strings q fact trusted serves (λ d stands. run_peers view steps q d run stands) from ballot m map_says o says obeys seen find
