-- While calls are served: a member confirms the epoch, and says what it has under a key.
use Rattle.std.proofs.Common.{◌≡◌, ◌≤◌, inr, refl, sym, ◌∙◌, subst, arith, ℕ, true, false, List, [], map, Option, None, Some}
use Rattle.std.specs.Prelude.{slice_get}
use Rattle.std.proofs.lemmas.Bool.Decides.{nat_tests}
use Rattle.std.proofs.lemmas.Option.{none-some}
use Rattle.ens_base.specs.Lists.{◌∈◌}
use Rattle.ens_base.specs.View.{IsPeer}
use Rattle.ens_base.specs.declared.entry.Entry.{Entry}
use Rattle.stored_formats.specs.declared.object.Object.{Object}
use Rattle.calm_step_laws.specs.WorldSpec.{Held, held_with, step_of}
use Rattle.network.specs.Mail.{settled}
use Rattle.peer_state.specs.declared.event.Event.TheVariants as events
use Rattle.peer_state.specs.declared.state.State.{State}
use Rattle.phase_rows.specs.Orders.{is_below, is_same}
use Rattle.step_plans.specs.Calls.{Find}
use Rattle.synctree.specs.Entries.{lookup}
use Rattle.calm_step_laws.specs.PeerRefinement.{AreAmong, IsWhole}
use Rattle.wire_frames.specs.declared.frame.Frame.{Frame}
use Rattle.wire_frames.specs.declared.message.Message.{Message}
use Rattle.wire_frames.specs.declared.message.Message.TheVariants as messages
use Rattle.world_refinement.specs.WorldSpec.{Run, frame_from, received}
use Rattle.calm_step_laws.proofs.Bystanders.{tells, on_check}
use Rattle.calm_step_laws.proofs.CandidateSteps.{ballot, accepted}
use Rattle.calm_step_laws.proofs.Keeping.{Keeping}
use Rattle.calm_step_laws.proofs.Lands.{Aim, Lands}
use Rattle.calm_step_laws.proofs.MemberSteps.{on_get_found}
use Rattle.calm_step_laws.proofs.Requests.{on_get}
use Rattle.calm_step_laws.proofs.TreeCalls.{keeps}
use Rattle.calm_laws.proofs.ElectionRequests.{IsQuiet, tells_it, tells_only}
use Rattle.calm_laws.proofs.Elections.{IsOther, rests, asking, replying}
use Rattle.calm_laws.proofs.ServedMembers.{Replies, member_moves}
use Rattle.calm_laws.proofs.ServedWorlds.{Scene, Wait, Reads, Checks, Puts, Leading, IsUnknown, IsPast, IsReadOf, MayReply, Kind, Runs}
use Rattle.calm_laws.proofs.Standing.{Stands}
use Rattle.calm_laws.proofs.Worlds.{moved, step_grows}

module _ (me : ℕ) (view : List ℕ) (is_peer : IsPeer me) (peers : (q : ℕ) → q ∈ view → IsPeer q) (strings : List (List ℕ)) where
  module _ (n : Scene) (w : Run) (served : Leading me view n w) (i q : ℕ) (ask : Message) (other : IsOther me view q) (at : slice_get w.mail.sent i ≡ Some (asking me view q ask)) where
    abbrev stands : Stands w q (rests (accepted me view)) (served.map q)
    stands = served.others q other

    -- the member follows, its tree shows this map, and what it sent may wait
    abbrev pub Comes : List Entry → Aim
    Comes now y g o ms = (keep : Keeping) × ((y ≡ rests (accepted me view) keep) × (IsWhole g now × (IsQuiet o × (Replies me view is_peer peers n w served i q ask other at o served.runs × ((f : Frame) → f ∈ map (frame_from q) o.sends → Kind me view n served.l served.runs f)))))

    pub quiet_reply : (reply : Message) → IsQuiet (tells me reply)
    quiet_reply reply = record { answers = refl; changes = refl }

    pub lands : (now : List Entry) → Lands strings (Comes now) (step_of q (events.Deliver me ask) (rests (accepted me view) stands.keep)) (held_with stands.stores w.hashed) []
        → ((e : Entry) → e ∈ now → IsPast me view served.l.seq n.called e) → ((k : List ℕ) → IsUnknown me view served.l.table.rows k → lookup k now ≡ None)
        → AreAmong (received (asking me view q ask) i w).hashed strings → Leading me view n (received (asking me view q ask) i w)
    lands now ends past new among =
        step_grows q (events.Deliver me ask) strings (Comes now) (Leading me view n) (record w { mail = settled w.mail i }) (rests (accepted me view) stands.keep) stands.stores stands.at ends among
        (λ y g o ms grown meets. subst (λ (x : State). Leading me view n (moved q x g o ms (record w { mail = settled w.mail i }))) (sym meets.1.0)
        (member_moves me view is_peer peers n w served i q ask other at now meets.0 g o ms grown meets.1.1.0 meets.1.1.1.0 meets.1.1.1.1.0 past new meets.1.1.1.1.1))

    -- what a member replies may wait
    pub reply_kind : (reply : Message) → MayReply me view served.l served.runs reply → (f : Frame) → f ∈ map (frame_from q) (tells me reply).sends → Kind me view n served.l served.runs f
    reply_kind reply may f is = inr (record { from = q; other = other; message = reply; is = tells_only me view is_peer peers q reply f is; may = may })

    -- the old map is as it was
    pub old_past : (e : Entry) → e ∈ served.map q → IsPast me view served.l.seq n.called e
    old_past e is = served.holds_well.past q e other.0 is

    -- the map of a member has no entry of an unknown key
    pub unknown_there : (k : List ℕ) → IsUnknown me view served.l.table.rows k → lookup k (served.map q) ≡ None
    unknown_there k unknown = served.holds_well.unknown k unknown q other.0

    pub not_below : is_below (ballot me view) (ballot me view) ≡ false
    not_below = grind (arith, nat_tests)

    pub same_ballot : is_same (ballot me view) (ballot me view) ≡ true
    same_ballot = grind (arith, nat_tests)

    -- ## Checks

    check_replies : (r : ℕ) → ask ≡ messages.Check (ballot me view) r → (runs : Option (List ℕ × Wait me view)) → Replies me view is_peer peers n w served i q ask other at (tells me (messages.CheckReply (ballot me view) r)) runs
    check_replies r is None = tt
    check_replies r is (Some (key, Reads round votes)) = λ same. absurd (let no : ⊥ = grind (arith, sym is ∙ same) in no)
    check_replies r is (Some (key, Puts o votes)) = λ same. absurd (let no : ⊥ = grind (arith, sym is ∙ same) in no)
    check_replies r is (Some (key, Checks round votes reply)) =
        λ same. subst (λ k. replying me view q (messages.CheckReply (ballot me view) k) ∈ map (frame_from q) (tells me (messages.CheckReply (ballot me view) r)).sends) (round_is r round (sym is ∙ same)) (tells_it me view is_peer peers q (messages.CheckReply (ballot me view) r))
      where
        round_is : (a b : ℕ) → messages.Check (ballot me view) a ≡ messages.Check (ballot me view) b → a ≡ b
        round_is a b same = grind (arith, same)

    pub checked : (r : ℕ) → ask ≡ messages.Check (ballot me view) r → r ≤ served.l.round → AreAmong (received (asking me view q ask) i w).hashed strings → Leading me view n (received (asking me view q ask) i w)
    checked r is within among =
        let h : Held = held_with stands.stores w.hashed in
        lands (served.map q)
        (subst (λ (m : Message). Lands strings (Comes (served.map q)) (step_of q (events.Deliver me m) (rests (accepted me view) stands.keep)) h []) (sym is)
        (on_check q me strings (Comes (served.map q)) stands.keep (accepted me view) (ballot me view) r h not_below same_ballot
        (stands.keep, (refl, (stands.whole, (quiet_reply (messages.CheckReply (ballot me view) r), (check_replies r is served.runs, reply_kind (messages.CheckReply (ballot me view) r) (refl, within))))))))
        old_past unknown_there among

    -- ## Reads

    get_parts : (a b : ℕ) (j k : List ℕ) → messages.Get (ballot me view) a j ≡ messages.Get (ballot me view) b k → (a ≡ b) × (j ≡ k)
    get_parts a b j k same = (grind (arith, same), grind (arith, same))

    get_replies : (r : ℕ) (k : List ℕ) → ask ≡ messages.Get (ballot me view) r k → (runs : Option (List ℕ × Wait me view)) → Replies me view is_peer peers n w served i q ask other at (tells me (messages.GetReply (ballot me view) r k None None)) runs
    get_replies r k is None = tt
    get_replies r k is (Some (key, Puts o votes)) = λ same. absurd (let no : ⊥ = grind (arith, sym is ∙ same) in no)
    get_replies r k is (Some (key, Checks round votes reply)) = λ same. absurd (let no : ⊥ = grind (arith, sym is ∙ same) in no)
    get_replies r k is (Some (key, Reads round votes)) = λ same.
        let parts = get_parts r round k key (sym is ∙ same) in
        subst (λ j. replying me view q (messages.GetReply (ballot me view) round j None None) ∈ map (frame_from q) (tells me (messages.GetReply (ballot me view) r k None None)).sends) parts.1
        (subst (λ s. replying me view q (messages.GetReply (ballot me view) s k None None) ∈ map (frame_from q) (tells me (messages.GetReply (ballot me view) r k None None)).sends) parts.0 (tells_it me view is_peer peers q (messages.GetReply (ballot me view) r k None None)))

    -- a key that is being read is in no map
    reads_nothing : (k : List ℕ) → IsReadOf me view served.runs k → lookup k (served.map q) ≡ None
    reads_nothing k is = by served.runs served.standing is where
      by : (runs : Option (List ℕ × Wait me view)) → Runs me view n served.l served.leader.stores w runs → IsReadOf me view runs k → lookup k (served.map q) ≡ None
      by None standing none = absurd none
      by (Some (key, Puts o votes)) standing none = absurd none
      by (Some (key, Checks round votes reply)) standing none = absurd none
      by (Some (key, Reads round votes)) (lines, (call, same, s)) here = unknown_there k (subst (λ j. IsUnknown me view served.l.table.rows j) (same ∙ here) s.fits.1)

    found_replies : (r : ℕ) (k : List ℕ) (e : Entry) (object : Option Object) → ask ≡ messages.Get (ballot me view) r k → lookup k (served.map q) ≡ Some e → (runs : Option (List ℕ × Wait me view)) → served.runs ≡ runs
        → Replies me view is_peer peers n w served i q ask other at (tells me (messages.GetReply (ballot me view) r k (Some e) object)) runs
    found_replies r k e object is has None runs_is = tt
    found_replies r k e object is has (Some (key, Puts o votes)) runs_is = λ same. absurd (let no : ⊥ = grind (arith, sym is ∙ same) in no)
    found_replies r k e object is has (Some (key, Checks round votes reply)) runs_is = λ same. absurd (let no : ⊥ = grind (arith, sym is ∙ same) in no)
    found_replies r k e object is has (Some (key, Reads round votes)) runs_is = λ same.
        absurd (none-some e (sym (reads_nothing k (subst (λ (running : Option (List ℕ × Wait me view)). IsReadOf me view running k) (sym runs_is) (sym (get_parts r round k key (sym is ∙ same)).1))) ∙ has))

    pub read : (r : ℕ) (k : List ℕ) → ask ≡ messages.Get (ballot me view) r k → r ≤ served.l.round → AreAmong (received (asking me view q ask) i w).hashed strings → Leading me view n (received (asking me view q ask) i w)
    read r k is within among = by (lookup k (served.map q)) refl where
      h : Held
      h = held_with stands.stores w.hashed

      whole : IsWhole (held_with stands.stores w.hashed) (served.map q)
      whole = stands.whole

      by : (found : Option Entry) → lookup k (served.map q) ≡ found → Leading me view n (received (asking me view q ask) i w)
      by None absent =
          lands (served.map q)
          (subst (λ (m : Message). Lands strings (Comes (served.map q)) (step_of q (events.Deliver me m) (rests (accepted me view) stands.keep)) (held_with stands.stores w.hashed) []) (sym is)
          (on_get q me strings (Comes (served.map q)) stands.keep (accepted me view) (ballot me view) r k (held_with stands.stores w.hashed) (served.map q) not_below same_ballot whole absent
          (stands.keep, (refl, (keeps (Find k) (held_with stands.stores w.hashed) (served.map q) tt whole, (quiet_reply (messages.GetReply (ballot me view) r k None None), (get_replies r k is served.runs, reply_kind (messages.GetReply (ballot me view) r k None None) (refl, within, λ reading. (refl, refl)))))))))
          old_past unknown_there among
      by (Some e) has =
          lands (served.map q)
          (subst (λ (m : Message). Lands strings (Comes (served.map q)) (step_of q (events.Deliver me m) (rests (accepted me view) stands.keep)) (held_with stands.stores w.hashed) []) (sym is)
          (on_get_found q me strings (Comes (served.map q)) stands.keep (accepted me view) (ballot me view) r k e (served.map q) not_below same_ballot
          (λ object g whole_g. (
            stands.keep,
            (
              refl,
              (
                whole_g,
                (
                  quiet_reply (messages.GetReply (ballot me view) r k (Some e) object),
                  (
                    found_replies r k e object is has served.runs refl,
                    reply_kind (messages.GetReply (ballot me view) r k (Some e) object) (refl, within, λ reading. absurd (none-some e (sym (reads_nothing k reading) ∙ has))),
                  ),
                ),
              ),
            ),
          ))
          (held_with stands.stores w.hashed) whole has))
          old_past unknown_there among
