-- While calls are served: a member takes a put of the leader.
use Rattle.std.proofs.Common.{◌≡◌, ◌⊎◌, ◌≤◌, ◌<◌, ◌^◌, inl, inr, refl, ap, sym, ◌∙◌, subst, arith, ℕ, Bool, true, false, List, [], map, length, Option, None, Some}
use Rattle.std.specs.Prelude.{slice_get, cond}
use Rattle.ens_base.proofs.Lists.{bytes_same}
use Rattle.ens_base.specs.Lists.{◌∈◌, same_bytes}
use Rattle.ens_base.specs.View.{IsPeer}
use Rattle.ens_base.specs.declared.entry.Entry.{Entry}
use Rattle.ens_base.specs.declared.epoch.Version.{Version}
use Rattle.fields.specs.Entries.{IsEntry}
use Rattle.stored_formats.specs.Objects.{object_spelling}
use Rattle.stored_formats.specs.declared.object.Object.{Object}
use Rattle.phase_rules.specs.Requests.{puts_at, acknowledges}
use Rattle.calm_step_laws.specs.WorldSpec.{Held, held_with, step_of}
use Rattle.object_commands.specs.Kept.{entry_of}
use Rattle.md5.specs.Md5.{md5}
use Rattle.peer_state.specs.declared.event.Event.TheVariants as events
use Rattle.phase_rows.specs.declared.phase.Then.TheVariants as thens
use Rattle.world_refinement.proofs.PeerRefinement.{lookup_put, in_put, lookup_in}
use Rattle.synctree.specs.Entries.{lookup, put}
use Rattle.calm_step_laws.specs.PeerRefinement.{AreAmong, AreFree}
use Rattle.wire_frames.specs.declared.message.Message.{Message}
use Rattle.wire_frames.specs.declared.message.Message.TheVariants as messages
use Rattle.world_refinement.specs.WorldSpec.{Run, frame_from, received}
use Rattle.calm_step_laws.proofs.Bystanders.{tells}
use Rattle.calm_step_laws.proofs.CandidateSteps.{ballot, accepted}
use Rattle.calm_step_laws.proofs.Lands.{Lands}
use Rattle.calm_step_laws.proofs.MemberSteps.{on_put_again, put_over}
use Rattle.calm_step_laws.proofs.Requests.{on_put}
use Rattle.calm_laws.proofs.ElectionRequests.{tells_it}
use Rattle.calm_laws.proofs.Elections.{IsOther, rests, asking, replying}
use Rattle.calm_laws.proofs.ServedMembers.{Replies}
use Rattle.calm_laws.proofs.ServedRequests.{Comes, lands, quiet_reply, reply_kind, old_past, unknown_there, not_below, same_ballot}
use Rattle.calm_laws.proofs.ServedWorlds.{Scene, Wait, Reads, Checks, Puts, Leading, IsUnknown, IsPast}

-- a put keeps the limits of the tree
abbrev pub Fits : Object → List Entry → Type 0
Fits o m = IsEntry (entry_of o (md5 (object_spelling o))) × (length (put (entry_of o (md5 (object_spelling o))) m) < 2 ^ 32)

module _ (me : ℕ) (view : List ℕ) (is_peer : IsPeer me) (peers : (q : ℕ) → q ∈ view → IsPeer q) (strings : List (List ℕ)) (free : AreFree strings) where
  module _ (n : Scene) (w : Run) (served : Leading me view n w) (i q : ℕ) (ask : Message) (other : IsOther me view q) (at : slice_get w.mail.sent i ≡ Some (asking me view q ask)) (o : Object) (is : ask ≡ messages.Put (ballot me view) o) where
    abbrev entry : Entry
    entry = entry_of o (md5 (object_spelling o))

    put_replies : (runs : Option (List ℕ × Wait me view)) → Replies me view is_peer peers n w served i q ask other at (tells me (messages.PutReply (ballot me view) o.key o.version)) runs
    put_replies None = tt
    put_replies (Some (key, Reads round votes)) = λ same. absurd (let no : ⊥ = grind (arith, sym is ∙ same) in no)
    put_replies (Some (key, Checks round votes reply)) = λ same. absurd (let no : ⊥ = grind (arith, sym is ∙ same) in no)
    put_replies (Some (key, Puts p votes)) = λ same.
        subst (λ (x : Object). replying me view q (messages.PutReply (ballot me view) x.key x.version) ∈ map (frame_from q) (tells me (messages.PutReply (ballot me view) o.key o.version)).sends) (object_is o p (sym is ∙ same)) (tells_it me view is_peer peers q (messages.PutReply (ballot me view) o.key o.version))
      where
        object_is : (a b : Object) → messages.Put (ballot me view) a ≡ messages.Put (ballot me view) b → a ≡ b
        object_is a b same = grind (arith, same)

    -- the put is of the last version, on a key that is known and was called
    module _ (version : o.version ≡ (let v : Version = record { epoch = ballot me view; seq = served.l.seq } in v)) (known : IsUnknown me view served.l.table.rows o.key → ⊥) (called : o.key ∈ n.called) (fits : Fits o (served.map q)) (among : AreAmong (received (asking me view q ask) i w).hashed strings) where
      new_past : (e : Entry) → e ∈ put entry (served.map q) → IsPast me view served.l.seq n.called e
      new_past e at_e = by (in_put e entry (served.map q) at_e) where
        by : (e ≡ entry) ⊎ (e ∈ served.map q) → IsPast me view served.l.seq n.called e
        by (inr old) = served.holds_well.past q e other.0 old
        by (inl same) = subst (λ (x : Entry). IsPast me view served.l.seq n.called x) (sym same) (ap (λ (v : Version). v.epoch) version, subst (λ s. s ≤ served.l.seq) (sym (ap (λ (v : Version). v.seq) version)) (omega arith), called)

      new_unknown : (k : List ℕ) → IsUnknown me view served.l.table.rows k → lookup k (put entry (served.map q)) ≡ None
      new_unknown k unknown = lookup_put entry (served.map q) k ∙ by (same_bytes o.key k) refl where
        by : (b : Bool) → same_bytes o.key k ≡ b → cond b (Some entry) (lookup k (served.map q)) ≡ None
        by true same = absurd (known (subst (λ j. IsUnknown me view served.l.table.rows j) (sym (bytes_same o.key k same)) unknown))
        by false apart = unknown_there me view is_peer peers strings n w served i q ask other at k unknown

      h : Held
      h = held_with (served.others q other).stores w.hashed

      writes : puts_at me (ballot me view) o (lookup o.key (served.map q)) ≡ acknowledges me (ballot me view) o thens.Put → Leading me view n (received (asking me view q ask) i w)
      writes takes =
          lands me view is_peer peers strings n w served i q ask other at (put entry (served.map q))
          (subst (λ (m : Message). Lands strings (Comes me view is_peer peers strings n w served i q ask other at (put entry (served.map q))) (step_of q (events.Deliver me m) (rests (accepted me view) (served.others q other).keep)) (held_with (served.others q other).stores w.hashed) []) (sym is)
          (on_put q me strings (Comes me view is_peer peers strings n w served i q ask other at (put entry (served.map q))) free (served.others q other).keep (accepted me view) (ballot me view) o (held_with (served.others q other).stores w.hashed) (served.map q) (not_below me view is_peer peers strings n w served i q ask other at) (same_ballot me view is_peer peers strings n w served i q ask other at) (served.others q other).whole fits.0 fits.1 takes
          (λ seal f g has. (record (served.others q other).keep { seal = seal }, (refl, (has.whole, (quiet_reply me view is_peer peers strings n w served i q ask other at (messages.PutReply (ballot me view) o.key o.version), (put_replies served.runs, reply_kind me view is_peer peers strings n w served i q ask other at (messages.PutReply (ballot me view) o.key o.version) refl))))))))
          new_past new_unknown among

      keeps_it : puts_at me (ballot me view) o (lookup o.key (served.map q)) ≡ acknowledges me (ballot me view) o thens.Stay → Leading me view n (received (asking me view q ask) i w)
      keeps_it stays =
          lands me view is_peer peers strings n w served i q ask other at (served.map q)
          (subst (λ (m : Message). Lands strings (Comes me view is_peer peers strings n w served i q ask other at (served.map q)) (step_of q (events.Deliver me m) (rests (accepted me view) (served.others q other).keep)) (held_with (served.others q other).stores w.hashed) []) (sym is)
          (on_put_again q me strings (Comes me view is_peer peers strings n w served i q ask other at (served.map q)) (served.others q other).keep (accepted me view) (ballot me view) o (held_with (served.others q other).stores w.hashed) (served.map q) (not_below me view is_peer peers strings n w served i q ask other at) (same_ballot me view is_peer peers strings n w served i q ask other at) (served.others q other).whole stays
          (λ g whole. ((served.others q other).keep, (refl, (whole, (quiet_reply me view is_peer peers strings n w served i q ask other at (messages.PutReply (ballot me view) o.key o.version), (put_replies served.runs, reply_kind me view is_peer peers strings n w served i q ask other at (messages.PutReply (ballot me view) o.key o.version) refl))))))))
          (old_past me view is_peer peers strings n w served i q ask other at) (unknown_there me view is_peer peers strings n w served i q ask other at) among

      pub taken : Leading me view n (received (asking me view q ask) i w)
      taken = by (lookup o.key (served.map q)) refl where
        by : (found : Option Entry) → lookup o.key (served.map q) ≡ found → Leading me view n (received (asking me view q ask) i w)
        by None absent = writes (ap (λ f. puts_at me (ballot me view) o f) absent)
        by (Some e) has = over (put_over me (ballot me view) o e (past.0 ∙ sym (ap (λ (v : Version). v.epoch) version)) (subst (λ s. e.version.seq ≤ s) (sym (ap (λ (v : Version). v.seq) version)) past.1)) where
          past : IsPast me view served.l.seq n.called e
          past = served.holds_well.past q e other.0 (lookup_in o.key (served.map q) e has)

          over : (puts_at me (ballot me view) o (Some e) ≡ acknowledges me (ballot me view) o thens.Put) ⊎ (puts_at me (ballot me view) o (Some e) ≡ acknowledges me (ballot me view) o thens.Stay) → Leading me view n (received (asking me view q ask) i w)
          over (inl takes) = writes (ap (λ f. puts_at me (ballot me view) o f) has ∙ takes)
          over (inr stays) = keeps_it (ap (λ f. puts_at me (ballot me view) o f) has ∙ stays)
