-- What the table of a leader says is what the steps ask.
use Rattle.std.proofs.Common.{◌≡◌, ℕ, suc, ◌^◌, ◌<◌, ◌≤◌, Bool, true, false, ◌⊎◌, List, Option, None, Some, arith, ap, refl, inl, inr, sym, subst}
use Rattle.std.proofs.lemmas.Bool.{cases_order}
use Rattle.std.proofs.lemmas.Bool.Decides.{nat_tests}
use Rattle.ens_base.specs.declared.reply.Reply.{Reply}
use Rattle.register_model.specs.declared.call.Call.{Call}
use Rattle.register_model.specs.Registers.{outcome, Keeps, Writes}
use Rattle.quorums.proofs.Majorities.{meet_of_quorums, shares_itself, quorum_more}
use Rattle.quorums.specs.Quorums.{is_quorum, QuorumsMeet}
use Rattle.protocol_laws.proofs.Epochs.{not_empty, not_both}
use Rattle.protocol_laws.proofs.Maps.{epoch_mono, zero_not, put_here}
use Rattle.protocol_laws.proofs.Descent.{Whole}
use Rattle.protocol_laws.specs.Entries.{EntriesAreSafe}
use Rattle.protocol_laws.specs.Objects.{epoch_of, IsGenuine, IsNewest, IsUntouched, MayBegin, MayPropose, MaySettle}
use Rattle.protocol_laws.specs.Book.{version_of, register_at, stood_below, IsOpenCall, IsAbsentHere, MayCall, MayNoteProposal, MayNoteRead}
use Rattle.protocol_laws.specs.Protocol.{State, Ask, happens}
use Rattle.role_laws.specs.Tables.{Seat, Ghosts, Object, Known, Unknown, Nothing, Held, Leader, version_at, base_of}
use Rattle.role_laws.specs.Leaders.{IsUnwritten, IsObjectOf, KnownHolds, IsSettledKey, IsFresh, ReadingHolds, PutHolds, CallHolds, LeaderHolds, IsParent}

-- ## Reads

-- some peer that replied had acknowledged the settled version when it was settled
base_below : (g : Ghosts) (s : State) (d : ℕ) (k : List ℕ) (u i r : ℕ) (replied : ℕ → Bool) (best : ℕ) (object : Option Object) → Whole s.objects → s.objects.ledger.elected d ≡ true → IsNewest s.objects d k u → ReadingHolds g s d k u i r replied best object → is_quorum replied (s.objects.ledger.views d) ≡ true → u ≤ best
base_below g s d k u i r replied best object w elected newest reading quorum = by_meet (meet_of_quorums replied (s.objects.settled_by u) (s.objects.ledger.views d) (s.objects.ledger.views d) (shares_itself (s.objects.ledger.views d) (not_empty s.objects.ledger w.sound d elected)) quorum settled)
  where
    settled : is_quorum (s.objects.settled_by u) (s.objects.ledger.views d) ≡ true
    settled = subst (λ e. is_quorum (s.objects.settled_by u) (s.objects.ledger.views e) ≡ true) newest.epoch (w.settled.quorum u newest.settled)

    by_meet : QuorumsMeet replied (s.objects.settled_by u) (s.objects.ledger.views d) (s.objects.ledger.views d) → u ≤ best
    by_meet m = reading.settled m.meet.peer m.meet.in_left m.meet.in_right

pub newest_of_reread : (s : State) → Whole s.objects → (g : Ghosts) (d : ℕ) (k : List ℕ) (u i r : ℕ) (replied : ℕ → Bool) (best : ℕ) (object : Option Object) → s.objects.ledger.elected d ≡ true → IsNewest s.objects d k u → ReadingHolds g s d k u i r replied best object → is_quorum replied (s.objects.ledger.views d) ≡ true → best ≡ u
newest_of_reread s w g d k u i r replied best object elected newest reading quorum = by_genuine reading.genuine (base_below g s d k u i r replied best object w elected newest reading quorum)
  where
    none_above : u ≤ 0 → u ≡ 0
    none_above l = omega arith

    both : d ≤ epoch_of best → epoch_of best ≤ d → epoch_of best ≡ d
    both a b = omega arith

    by_genuine : IsGenuine s.objects d k best → u ≤ best → best ≡ u
    by_genuine (inl z) l = absurd (zero_not u (w.basics.led u newest.proposed) (none_above (subst (λ n. u ≤ n) z l)))
    by_genuine (inr h) l = let least : d ≤ epoch_of best = subst (λ e. e ≤ epoch_of best) newest.epoch (epoch_mono u best l) in
        let most = newest.greatest best h.0 h.1 (both least h.2) in omega arith

-- what a quorum showed of a key of which nothing was proposed in the epoch
pub may_begin : (g : Ghosts) (s : State) (d : ℕ) (k : List ℕ) (base i r : ℕ) (replied : ℕ → Bool) (best : ℕ) (object : Option Object) → IsUntouched s.objects d k → ReadingHolds g s d k base i r replied best object → is_quorum replied (s.objects.ledger.views d) ≡ true → MayBegin s.objects d k best
may_begin g s d k base i r replied best object untouched reading quorum = record {
  untouched = untouched;
  heard = record { readers = replied; quorum = quorum; reached = reading.reached; given = reading.given };
  genuine = reading.genuine;
}

-- ## Numbers of versions

pub version_epoch : (d n : ℕ) → n < 2 ^ 64 → epoch_of (version_at d n) ≡ d
unfolding epoch_of version_at
version_epoch d n l = omega arith

pub version_next : (d n v : ℕ) → v ≤ version_at d n → v < version_at d (suc n)
unfolding version_at
version_next d n v l = omega arith

pub version_some : (d n : ℕ) → 0 < version_at d n
unfolding version_at
version_some d n = omega arith

-- a version of a lower epoch is lower
pub version_lower : (d n v : ℕ) → n < 2 ^ 64 → epoch_of v < d → v < version_at d n
version_lower d n v fits l = by_order (cases_order v (version_at d n))
  where
    at : epoch_of (version_at d n) ≡ d
    at = version_epoch d n fits

    by_order : (v ≡ version_at d n) ⊎ ((v < version_at d n) ⊎ (version_at d n < v)) → v < version_at d n
    by_order (inr (inl h)) = h
    by_order (inl e) = absurd (omega (arith, at, ap epoch_of e))
    by_order (inr (inr h)) = absurd (high (less h))
      where
        less : version_at d n < v → version_at d n ≤ v
        less h = omega arith

        high : version_at d n ≤ v → ⊥
        high h = omega (arith, at, epoch_mono (version_at d n) v h)

-- ## Proposals

pub settled_parent : (g : Ghosts) (s : State) (d : ℕ) (k : List ℕ) (known : Known) → IsSettledKey known → KnownHolds g s d k known → IsParent s d k (base_of known)
settled_parent g s d k Unknown is a = absurd is
settled_parent g s d k Nothing is a = inl (record { untouched = a.untouched; heard = a.heard; genuine = inl refl })
settled_parent g s d k (Held u stamp digest gone) is a = inr a.newest

-- after a quorum's replies, whatever was known
pub read_parent : (g : Ghosts) (s : State) (d : ℕ) (k : List ℕ) (known : Known) (i r : ℕ) (replied : ℕ → Bool) (best : ℕ) (object : Option Object) → Whole s.objects → s.objects.ledger.elected d ≡ true → KnownHolds g s d k known → ReadingHolds g s d k (base_of known) i r replied best object → is_quorum replied (s.objects.ledger.views d) ≡ true → IsParent s d k best
read_parent g s d k Unknown i r replied best object w elected a reading quorum = inl (may_begin g s d k 0 i r replied best object a reading quorum)
read_parent g s d k Nothing i r replied best object w elected a reading quorum = inl (may_begin g s d k 0 i r replied best object a.untouched reading quorum)
read_parent g s d k (Held u stamp digest gone) i r replied best object w elected a reading quorum = inr (subst (λ n. IsNewest s.objects d k n) (sym (newest_of_reread s w g d k u i r replied best object elected a.newest reading quorum)) a.newest)

parent_genuine : (s : State) (d : ℕ) (k : List ℕ) (u : ℕ) → IsParent s d k u → IsGenuine s.objects d k u
parent_genuine s d k u (inl b) = b.genuine
parent_genuine s d k u (inr n) = inr (n.proposed, n.key, low n.epoch)
  where
    low : epoch_of u ≡ d → epoch_of u ≤ d
    low e = omega arith

parent_lower : (g : Ghosts) (s : State) (l : Leader) (k : List ℕ) (u : ℕ) → LeaderHolds g s l → suc l.seq < 2 ^ 64 → IsGenuine s.objects l.epoch k u → u < version_at l.epoch (suc l.seq)
parent_lower g s l k u a fits (inl z) = rw z (version_some l.epoch (suc l.seq))
parent_lower g s l k u a fits (inr h) = by_order (cases_order (epoch_of u) l.epoch)
  where
    by_order : (epoch_of u ≡ l.epoch) ⊎ ((epoch_of u < l.epoch) ⊎ (l.epoch < epoch_of u)) → u < version_at l.epoch (suc l.seq)
    by_order (inl e) = version_next l.epoch l.seq u (a.numbers u h.0 e)
    by_order (inr (inl m)) = version_lower l.epoch (suc l.seq) u fits m
    by_order (inr (inr m)) = absurd (omega (arith, h.2))

pub may_propose : (g : Ghosts) (s : State) (l : Leader) (k : List ℕ) (u : ℕ) → LeaderHolds g s l → suc l.seq < 2 ^ 64 → IsParent s l.epoch k u → MayPropose s.objects (version_at l.epoch (suc l.seq)) k u
may_propose g s l k u a fits parent = record {
  fresh = by_cases (s.objects.proposed x) refl;
  led = rw at a.led;
  elected = rw at a.elected;
  established = rw at a.established;
  lower = parent_lower g s l k u a fits (parent_genuine s l.epoch k u parent);
  from = subst (λ e. MayBegin s.objects e k u ⊎ IsNewest s.objects e k u) (sym at) parent;
}
  where
    x : ℕ
    x = version_at l.epoch (suc l.seq)

    at : epoch_of x ≡ l.epoch
    at = version_epoch l.epoch (suc l.seq) fits

    above : x ≤ version_at l.epoch l.seq → ⊥
    above h = let m : x < x = version_next l.epoch l.seq x h in omega arith

    by_cases : (b : Bool) → s.objects.proposed x ≡ b → s.objects.proposed x ≡ false
    by_cases false p = p
    by_cases true p = absurd (above (a.numbers x p at))

pub open_call : (g : Ghosts) (s : State) (p : Seat) (d : ℕ) (k : List ℕ) (i : ℕ) → CallHolds g s p d k i → IsUnwritten s i → IsOpenCall s.objects s.book i
open_call g s p d k i a unwritten = record { called = a.called; not_written = unwritten; not_noted = a.unnoted; not_refused = λ h e. not_both h a.unanswered }

-- the write of a call
pub may_write : (g : Ghosts) (s : State) (p : Seat) (d : ℕ) (k : List ℕ) (u v i : ℕ) (content : Option (List ℕ)) → CallHolds g s p d k i → IsUnwritten s i → outcome (s.book.asked i).command (register_at s.book u) ≡ Writes content → MayNoteProposal s.objects s.book v k u (version_of v) content (Some i)
may_write g s p d k u v i content a unwritten applies = record { waiting = open_call g s p d k i a unwritten; on_key = a.on_key; own_stamp = refl; applies = applies }

-- a rewrite of the object that a read found
pub may_rewrite : (s : State) (u v : ℕ) (k : List ℕ) (x : Object) → IsObjectOf s u x → MayNoteProposal s.objects s.book v k u x.stamp x.content None
may_rewrite s u v k x a = record { some = a.some; same_stamp = a.stamp; same_content = a.content }

-- ## Settling

pub may_settle : (s : State) (d : ℕ) (k : List ℕ) (v : ℕ) (x : Object) (acks : ℕ → Bool) → PutHolds s d k v x acks → is_quorum acks (s.objects.ledger.views d) ≡ true → MaySettle s.objects v
may_settle s d k v x acks a quorum = record {
  proposed = a.proposed;
  fresh = a.unsettled;
  quorum = subst (λ e. is_quorum (s.objects.acked v) (s.objects.ledger.views e) ≡ true) (sym a.epoch) (quorum_more acks (s.objects.acked v) a.acked (s.objects.ledger.views d) quorum);
}

-- ## Notes of reads

pub fresh_of_replies : (s : State) (d i : ℕ) (replied : ℕ → Bool) → ((q : ℕ) → replied q ≡ true → s.book.stood i q ≤ d) → is_quorum replied (s.objects.ledger.views d) ≡ true → IsFresh s d i
fresh_of_replies s d i replied stood quorum = quorum_more replied (stood_below s.book i d) (λ q h. below q (stood q h)) (s.objects.ledger.views d) quorum
  where
    below : (q : ℕ) → s.book.stood i q ≤ d → stood_below s.book i d q ≡ true
    below q l = grind (arith, nat_tests)

pub known_base : (g : Ghosts) (s : State) (d : ℕ) (k : List ℕ) (known : Known) → IsSettledKey known → KnownHolds g s d k known → IsAbsentHere s.objects d k (base_of known) ⊎ IsNewest s.objects d k (base_of known)
known_base g s d k Unknown is a = absurd is
known_base g s d k Nothing is a = inl a
known_base g s d k (Held u stamp digest gone) is a = inr a.newest

pub may_note_read : (g : Ghosts) (s : State) (l : Leader) (k : List ℕ) (known : Known) (i : ℕ) (reply : Reply) → LeaderHolds g s l → IsSettledKey known → KnownHolds g s l.epoch k known → CallHolds g s l.seat l.epoch k i → IsUnwritten s i → IsFresh s l.epoch i → outcome (s.book.asked i).command (register_at s.book (base_of known)) ≡ Keeps reply → MayNoteRead s.objects s.book i k (base_of known) l.epoch
may_note_read g s l k known i reply a is b call unwritten fresh keeps = record {
  waiting = open_call g s l.seat l.epoch k i call unwritten;
  on_key = call.on_key;
  elected = a.elected;
  before = call.later;
  established = a.established;
  quorum = fresh;
  base = known_base g s l.epoch k known is b;
  reply = reply;
  keeps = keeps;
}

-- ## Answers

-- ## New calls

pub record IsNewCall (s : State) (i : ℕ) : Type 0 where
  pub called : s.book.called i ≡ true
  pub unanswered : s.book.answered i ≡ false
  pub unnoted : s.book.noted i ≡ false
  pub unwritten : IsUnwritten s i

pub new_call : (s : State) (c : Call) → MayCall s.book c → EntriesAreSafe s → IsNewCall (happens s (Ask c)) c.id
new_call s c may entries = record {
  called = put_here s.book.called c.id true;
  unanswered = unanswered (s.book.answered c.id) refl;
  unnoted = unnoted (s.book.noted c.id) refl;
  unwritten = λ v h. not_both ((entries.proposals v h.0).write c.id h.1).called may.fresh;
}
  where
    unanswered : (b : Bool) → s.book.answered c.id ≡ b → s.book.answered c.id ≡ false
    unanswered false h = h
    unanswered true h = absurd (not_both (entries.answers c.id h).called may.fresh)

    unnoted : (b : Bool) → s.book.noted c.id ≡ b → s.book.noted c.id ≡ false
    unnoted false h = h
    unnoted true h = absurd (not_both (entries.reads c.id h).called may.fresh)
