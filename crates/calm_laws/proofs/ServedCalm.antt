-- A calm in which calls are served ends with no call left, and no message waiting.
use Rattle.std.proofs.Common.{◌≡◌, ◌<◌, inl, inr, refl, ap, sym, ◌∙◌, subst, ℕ, true, false, List, length, Option, None, Some}
use Rattle.std.specs.Prelude.{slice_get}
use Rattle.std.proofs.lemmas.Bool.{and_parts, both_ways}
use Rattle.call_table.specs.declared.waiting.Waiting.{Waiting}
use Rattle.ens_base.specs.Lists.{◌∈◌}
use Rattle.ens_base.specs.PeerSet.{holds}
use Rattle.ens_base.specs.View.{IsPeer}
use Rattle.calm_step_laws.specs.WorldSpec.{held_with}
use Rattle.quorums.specs.Members.{those}
use Rattle.quorums.specs.Quorums.{is_quorum}
use Rattle.network.proofs.MailLaws.{oldest_waits}
use Rattle.network.specs.Mail.{Mail, oldest, is_among}
use Rattle.calm_step_laws.specs.PeerRefinement.{AreAmong, AreFree}
use Rattle.wire_frames.specs.declared.frame.Frame.{Frame}
use Rattle.wire_frames.specs.declared.message.Message.{Message}
use Rattle.wire_frames.specs.declared.message.Message.TheVariants as messages
use Rattle.world_refinement.specs.WorldSpec.{Run, received, calmed}
use Rattle.calm_step_laws.proofs.CheckReplies.{open_votes}
use Rattle.calm_laws.proofs.Waits.{Waits}
use Rattle.calm_laws.proofs.Counted.{rounds_end}
use Rattle.calm_laws.proofs.Elections.{IsOther, asking}
use Rattle.calm_laws.proofs.Parts.{grown}
use Rattle.calm_laws.proofs.ServedPuts.{taken}
use Rattle.calm_laws.proofs.ServedReplies.{replied}
use Rattle.calm_laws.proofs.ServedRequests.{checked, read}
use Rattle.calm_laws.proofs.ServedRows.{fits_in}
use Rattle.calm_laws.proofs.ServedWorlds.{Scene, Wait, Reads, Checks, Puts, votes_of, round_for, MayAsk, Kind, Serves, Runs, Leading, IsServed}
use Rattle.calm_laws.proofs.Worlds.{AllAlive, calm_keeps}

module _ (me : ℕ) (view : List ℕ) (is_peer : IsPeer me) (peers : (q : ℕ) → q ∈ view → IsPeer q) (listed : me ∈ view) (strings : List (List ℕ)) (free : AreFree strings) (n : Scene) where
  -- a request comes to a member
  asked : (w : Run) (led : Leading me view n w) (i q : ℕ) (ask : Message) (other : IsOther me view q) (at : slice_get w.mail.sent i ≡ Some (asking me view q ask)) → MayAsk me view n led.l led.runs ask → AreAmong (received (asking me view q ask) i w).hashed strings
      → Leading me view n (received (asking me view q ask) i w)
  asked w led i q ask other at may among = by ask refl may where
    by : (m : Message) → ask ≡ m → MayAsk me view n led.l led.runs m → Leading me view n (received (asking me view q ask) i w)
    by (messages.Get d r k) is may = read me view is_peer peers strings n w led i q ask other at r k (is ∙ ap (λ e. messages.Get e r k) may.0) may.1 among
    by (messages.Check d r) is may = checked me view is_peer peers strings n w led i q ask other at r (is ∙ ap (λ e. messages.Check e r) may.0) may.1 among
    by (messages.Put d o) is may = taken me view is_peer peers strings free n w led i q ask other at o (is ∙ ap (λ e. messages.Put e o) may.0) may.2 may.3 may.4
        (fits_in n (held_with (led.others q other).stores w.hashed) (led.map q) o (led.others q other).whole may.1 may.4 (λ e there. (led.holds_well.past q e other.0 there).2)) among
    by m is may = absurd may

  -- calls are served, as far as the strings of the schedule reach
  abbrev pub GoesOn : Run → Type 0
  GoesOn w = AreAmong w.hashed strings → Leading me view n w

  waits_at : (m : Mail) (i : ℕ) (f : Frame) → oldest (is_among (those (λ p. true))) m ≡ Some i → slice_get m.sent i ≡ Some f → Waits m f
  waits_at m i f is at = record { number = i; sent = at; waits = (and_parts _ _ (oldest_waits (is_among (those (λ p. true))) m i is)).0 }

  delivery : (w : Run) (i : ℕ) (f : Frame) → GoesOn w → oldest (is_among (those (λ p. true))) w.mail ≡ Some i → slice_get w.mail.sent i ≡ Some f → GoesOn (received f i w)
  delivery w i f goes is at among = by (now.kinds f (waits_at w.mail i f is at)) where
    now : Leading me view n w
    now = goes (λ s there. among s (grown f i w s there))

    by : Kind me view n now.l now.runs f → Leading me view n (received f i w)
    by (inl a) = subst (λ (g : Frame). Leading me view n (received g i w)) (sym a.is)
        (asked w now i a.to a.message a.other (at ∙ ap (λ (g : Frame). Some g) a.is) a.may (subst (λ (g : Frame). AreAmong (received g i w).hashed strings) a.is among))
    by (inr a) = subst (λ (g : Frame). Leading me view n (received g i w)) (sym a.is)
        (replied me view is_peer peers listed strings free n w now i a.from a.message a.other (at ∙ ap (λ (g : Frame). Some g) a.is) (subst (λ (g : Frame). AreAmong (received g i w).hashed strings) a.is among) a.may)

  -- no call waits in an open round
  none_left : 0 < length view → (w : Run) (led : Leading me view n w) → oldest (is_among (those (λ p. true))) w.mail ≡ None → led.runs ≡ None
  none_left filled w led none = by led.runs led.standing where
    over : (call : Waiting) (wait : Wait me view) → (round_for me view call.key wait).leader ≡ me → Serves me view n led.l led.leader.stores w.mail call wait → ⊥
    over call wait leads_it s =
        both_ways _ (subst (λ vs. is_quorum (λ k. holds (votes_of me view wait).tally.votes k) vs ≡ false) s.views (open_votes (votes_of me view wait) s.open_yet))
        (rounds_end (round_for me view call.key wait) (λ k. true) w.mail (λ k. holds (votes_of me view wait).tally.votes k) view filled peers (subst IsPeer (sym leads_it) is_peer) none
        (record { leader = subst (λ k. holds (votes_of me view wait).tally.votes k ≡ true) (sym leads_it) s.own; others = λ q is apart. s.others q (is, λ same. apart (same ∙ sym leads_it)) }))

    by : (runs : Option (List ℕ × Wait me view)) → Runs me view n led.l led.leader.stores w runs → runs ≡ None
    by None standing = refl
    by (Some (key, Reads round votes)) (lines, (call, keyed, s)) = absurd (over call (Reads round votes) refl s)
    by (Some (key, Checks round votes reply)) (lines, (call, keyed, s)) = absurd (over call (Checks round votes reply) refl s)
    by (Some (key, Puts o votes)) (lines, (call, keyed, s)) = absurd (over call (Puts o votes) refl s)

  -- so a calm ends
  pub calm_serves : 0 < length view → (k : ℕ) (w : Run) → AllAlive w → Leading me view n w → AreAmong (calmed (those (λ p. true)) k w).hashed strings → oldest (is_among (those (λ p. true))) (calmed (those (λ p. true)) k w).mail ≡ None → IsServed me view n (calmed (those (λ p. true)) k w)
  calm_serves filled k w alive led among none = let now : Leading me view n (calmed (those (λ p. true)) k w) = (calm_keeps GoesOn (those (λ p. true)) delivery k w (alive, λ within. led)).1 among in
      record { led = now; rests = none_left filled (calmed (those (λ p. true)) k w) now none; none = none }
