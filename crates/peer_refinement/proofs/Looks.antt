-- What a peer finds in its own tree and backend, and what comes with a reply.
use Rattle.std.proofs.Common.{◌≡◌, ◌⊎◌, inl, inr, ◌<◌, ◌≤◌, ℕ, true, List, Option, None, Some, arith, refl, sym, ap, subst, ◌∙◌}
use Rattle.md5.specs.Md5.{md5}
use Rattle.ens_base.specs.declared.entry.Entry.{Entry}
use Rattle.ens_base.specs.declared.epoch.Version.{Version}
use Rattle.stored_formats.specs.declared.object.Object.{Object}
use Rattle.object_commands.specs.Kept.{matching}
use Rattle.synctree.specs.Entries.{lookup}
use Rattle.phase_rows.specs.declared.phase.Seen.TheVariants as seens
use Rattle.protocol_laws.specs.Book.{version_of}
use Rattle.protocol_laws.specs.Objects.{epoch_of}
use Rattle.protocol_laws.specs.Protocol.{State}
use Rattle.role_laws.specs.Leaders.{IsObjectOf}
use Rattle.role_laws.specs.LeaderMessages.{GetReplySays}
use Rattle.role_laws.specs.Tables as theory
use Rattle.role_laws.specs.Tables.{Ghosts}
use Rattle.leader_refinement.proofs.Numbers.{rank_back, rank_some}
use Rattle.leader_refinement.specs.Seen.{rank, content_of, entry_rank, shown}
use Rattle.leader_refinement.specs.Laws.{EntryFits, FoundSays, LookSays}
use Rattle.peer_refinement.specs.Trees.{AreFree}
use Rattle.peer_refinement.proofs.Lookups.{lookup_in, lookup_key}
use Rattle.peer_refinement.proofs.Names.{version_decoded, decoded_named, spelled_named, named_found}
use Rattle.peer_refinement.proofs.Numbers.{version_fits}
use Rattle.peer_refinement.specs.Naming.{hash_of, object_of_version, version_string, VersionSays, EntrySays, EntryMaySay, Names, MayBeDecoded, IsMatched, IsConfirmed}
use Rattle.peer_refinement.specs.Replies.{MapSays, found_in}
use Rattle.peer_refinement.specs.RequestLaws.{LooksSay, KeptAreNamed, RepliesAreNamed}

-- the object, if there is one, is named by the entry
abbrev pub MayName : State → Option Entry → Option Object → Type 0
MayName s None object = Unit {0}
MayName s (Some e) object = (o : Object) → object ≡ Some o → Names s e o

-- the entry, if there is one, is of the key
abbrev pub MayBeOn : List ℕ → Option Entry → Type 0
MayBeOn key None = Unit {0}
MayBeOn key (Some e) = e.key ≡ key

pub fits_so : (s : State) (strings : List (List ℕ)) (entry : Option Entry) → EntryMaySay s strings entry → EntryFits entry
fits_so s strings None says = tt
fits_so s strings (Some e) says = version_fits e.version says.version.object.version

-- an object that is named is that of the entry's version
shown_object : (s : State) (entry : Option Entry) (object : Option Object) → MayName s entry object → (x : theory.Object) → shown entry object ≡ Some x → IsObjectOf s (entry_rank entry) x
shown_object s None object names x e = absurd cc
shown_object s (Some f) None names x e = absurd cc
shown_object s (Some f) (Some o) names x e = let is : content_of o ≡ x = cc in subst (λ (y : theory.Object). IsObjectOf s (rank f.version) y) is (names o refl).object

found_says : (s : State) (g : Ghosts) (key : List ℕ) (entry : Option Entry) (object : Option Object) → g.hash ≡ hash_of → MayBeOn key entry → MayName s entry object → FoundSays g key (found_in entry object)
found_says s g key None object hash on_key names = tt
found_says s g key (Some e) object hash on_key names = λ o h. named_found s g key e o hash on_key (names o h)

-- ## The peer's own tree and backend

module _ (s : State) (strings : List (List ℕ)) (free : AreFree strings) where
  kept_named : (e : Entry) (kept : Option (Object × List ℕ)) → EntrySays s strings e → MayBeDecoded strings kept → (o : Object) → matching e kept ≡ Some o → Names s e o
  kept_named e None says decoded o h = absurd cc
  kept_named e (Some kept) says decoded o h = decoded_named s strings e decoded.bytes kept.0 o free says decoded.hashed decoded.decodes (subst (λ (d : List ℕ). matching e (Some (kept.0, d)) ≡ Some o) decoded.digest h)

  matched_named : (entry : Option Entry) (object : Option Object) → EntryMaySay s strings entry → IsMatched strings entry object → MayName s entry object
  matched_named None object says is = tt
  matched_named (Some e) object says is = λ o h. kept_named e is.0 says is.1 o (sym is.2 ∙ h)

  confirmed_named : (entry : Option Entry) (object named : Option Object) → EntryMaySay s strings entry → IsConfirmed strings entry object named → MayName s entry named
  confirmed_named None object named says is = tt
  confirmed_named (Some e) None named says is = λ o h. absurd (none_is (sym is ∙ h))
    where
      none_is : {o : Object} → None ≡ Some o → ⊥
      none_is h = cc
  confirmed_named (Some e) (Some x) named says is = λ o h. spelled_named s strings e x o free says is.0 is.1 (sym is.2 ∙ h)

found_entry : (s : State) (strings : List (List ℕ)) (q : ℕ) (m : List Entry) (key : List ℕ) (entry : Option Entry) → MapSays s strings q m → entry ≡ lookup key m → EntryMaySay s strings entry × MayBeOn key entry
found_entry s strings q m key None says is = (tt, tt)
found_entry s strings q m key (Some e) says is = (says.entries e (lookup_in key m e (sym is)), lookup_key key m e (sym is))

pub looks_so : (s : State) → LooksSay s
looks_so s g strings q m key (seens.Held entry object) hash free says look = (own, record { entry_says = here.0; look = own; found = found_says s g key entry object hash here.1 names })
  where
    here : EntryMaySay s strings entry × MayBeOn key entry
    here = found_entry s strings q m key entry says look.0

    names : MayName s entry object
    names = matched_named s strings free entry object here.0 look.1

    own : LookSays s q key (seens.Held entry object)
    own = (fits_so s strings entry here.0, says.visible key ∙ ap entry_rank (sym look.0), shown_object s entry object names)
looks_so s g strings q m key (seens.Damaged at) hash free says look = (tt, tt)
looks_so s g strings q m key seen hash free says look = absurd look

pub kept_so : (s : State) → KeptAreNamed s
kept_so s g strings key kept hash free decoded settled_says on_key settled key_is digest =
    subst (λ (o : Object). IsObjectOf s (rank kept.0.version) (content_of o)) (sym same) (record { some = rank_some kept.0.version; stamp = refl; content = refl })
  where
    says : VersionSays s strings kept.0.version
    says = settled_says settled key_is

    plain : kept.1 ≡ hash_of (version_of (rank kept.0.version)) key (s.book.stamp (rank kept.0.version)) (s.book.content (rank kept.0.version))
    plain = rw hash at digest

    own : kept.1 ≡ md5 (version_string s kept.0.version)
    own = subst (λ (j : List ℕ). kept.1 ≡ hash_of kept.0.version j (s.book.stamp (rank kept.0.version)) (s.book.content (rank kept.0.version))) (sym key_is)
        (subst (λ (v : Version). kept.1 ≡ hash_of v key (s.book.stamp (rank kept.0.version)) (s.book.content (rank kept.0.version))) (rank_back kept.0.version (version_fits kept.0.version says.object.version)) plain)

    same : kept.0 ≡ object_of_version s kept.0.version
    same = version_decoded s strings kept.0.version decoded.bytes kept.0 free says decoded.hashed decoded.decodes (sym decoded.digest ∙ own)

-- ## Replies

reply_key : (s : State) (g : Ghosts) (strings : List (List ℕ)) (q d r : ℕ) (key : List ℕ) (entry : Option Entry) (object : Option theory.Object) → GetReplySays g s q d r key (entry_rank entry) object → EntryMaySay s strings entry → MayBeOn key entry
reply_key s g strings q d r key None object reply says = tt
reply_key s g strings q d r key (Some e) object reply says = by_genuine reply.genuine
  where
    by_genuine : (rank e.version ≡ 0) ⊎ ((s.objects.proposed (rank e.version) ≡ true) × (s.objects.key (rank e.version) ≡ key) × (epoch_of (rank e.version) ≤ d)) → e.key ≡ key
    by_genuine (inl none) = absurd (no_rank (rank_some e.version))
      where
        no_rank : 0 < rank e.version → ⊥
        no_rank some = omega arith
    by_genuine (inr there) = says.key ∙ there.1

pub confirmed_so : (s : State) → RepliesAreNamed s
confirmed_so s g strings q d r key entry object named hash free reply says is = (
  record {
    turn = reply.turn;
    started = reply.started;
    genuine = reply.genuine;
    reached = reply.reached;
    given = reply.given;
    stood = reply.stood;
    settled = reply.settled;
    holds = shown_object s entry named names;
  },
  found_says s g key entry named hash (reply_key s g strings q d r key entry (shown entry object) reply says) names,
)
  where
    names : MayName s entry named
    names = confirmed_named s strings free entry object named says is
