-- What peers keep through each step, and what each majority has.
use Rattle.std.proofs.Common.{◌≡◌, ℕ, ◌<◌, ◌≤◌, Bool, true, false, ◌⊎◌, List, eqb, eqb-true, arith, subst, refl, inl, inr, le_trans}
use Rattle.std.proofs.lemmas.Bool.Decides.{nat_tests}
use Rattle.ens_base.specs.Views.{last_view}
use Rattle.quorums.proofs.Majorities.{meet_of_majorities, majority_of_quorum, quorum_more}
use Rattle.quorums.specs.Quorums.{is_majority, is_quorum}
use Rattle.protocol_laws.proofs.Sound.{Sound}
use Rattle.protocol_laws.proofs.Epochs.{joined}
use Rattle.protocol_laws.proofs.Maps.{entry_then}
use Rattle.protocol_laws.proofs.Basics.{Basics}
use Rattle.protocol_laws.proofs.Views.{Origin, origin}
use Rattle.protocol_laws.proofs.Dead.{dead_stays, new_dead}
use Rattle.protocol_laws.specs.Ledger.{put}
use Rattle.protocol_laws.specs.Objects.{Map, Objects, epoch_of, set_entry, write, IsSynced, MayWrite, MayAcknowledge}
use Rattle.protocol_laws.specs.Elections.{may_accept, IsOpen}
use Rattle.protocol_laws.specs.Protocol.{Step, Begin, Ask, Raise, Elect, Accept, Commit, Adopt, Write, Acknowledge, Install, EndSync, Propose, Settle, Note, Answer, Lose, Revert, objects_after, MayDo}
use Rattle.protocol_laws.specs.Versions.{may_acknowledge, IsDead, KeptBut, Kept, HasIt, Found}

-- what a peer that reached d had before, or got by a sync in between, it has had since then
pub record SinceBut (o : Objects) (dead : ℕ → Type 0) : Type 0 where
  pub acked : (q v d : ℕ) → o.acked v q ≡ true → epoch_of v < d → d ≤ o.ledger.ballot q → (v ≤ o.floor q d (o.key v)) ⊎ dead v
  pub synced : (q v d e : ℕ) → o.proposed v ≡ true → o.ledger.synced e q ≡ true → epoch_of v < e → e < d → d ≤ o.ledger.ballot q → (v ≤ o.floor q d (o.key v)) ⊎ dead v

abbrev pub KeptSince : Objects → Type 0
KeptSince o = SinceBut o (IsDead o)

-- ## In one state

module _ (o : Objects) (sound : Sound o.ledger) (basics : Basics o) (since : KeptSince o) (v d : ℕ) (peers : ℕ → Bool) (pv : o.proposed v ≡ true) (ed : o.ledger.elected d ≡ true) (l : epoch_of v < d)
    (majority : is_majority peers (last_view (o.ledger.views d)) ≡ true) (reached : (q : ℕ) → peers q ≡ true → d ≤ o.ledger.ballot q) where
  alive_open : is_quorum (may_acknowledge o v) (o.ledger.views (epoch_of v)) ≡ true → IsOpen o.ledger (epoch_of v)
  alive_open alive = quorum_more (may_acknowledge o v) (may_accept o.ledger (epoch_of v)) (λ q h. grind (arith, nat_tests, basics.acked_accepted v q)) (o.ledger.views (epoch_of v)) alive

  has_it : (q : ℕ) → peers q ≡ true → (v ≤ o.floor q d (o.key v)) ⊎ IsDead o v → HasIt o d v peers ⊎ IsDead o v
  has_it q p (inl h) = inl (record { peer = q; among = p; has = h })
  has_it q p (inr h) = inr h

  must_have : (q : ℕ) → d ≤ o.ledger.ballot q → may_acknowledge o v q ≡ true → o.acked v q ≡ true
  must_have q r m = grind (arith, nat_tests)

  by_origin : is_quorum (may_acknowledge o v) (o.ledger.views (epoch_of v)) ≡ true → Origin o.ledger (epoch_of v) d (last_view (o.ledger.views d)) → HasIt o d v peers ⊎ IsDead o v
  by_origin alive (inl h) =
      let c = meet_of_majorities peers (may_acknowledge o v) (last_view (o.ledger.views d)) majority (majority_of_quorum (may_acknowledge o v) (o.ledger.views (epoch_of v)) (last_view (o.ledger.views d)) h alive) in
      has_it c.peer c.in_left (since.acked c.peer v d (must_have c.peer (reached c.peer c.in_left) c.in_right) l (reached c.peer c.in_left))
  by_origin alive (inr r) =
      let c = meet_of_majorities peers (o.ledger.synced r.epoch) (last_view (o.ledger.views d)) majority (joined o.ledger sound r.epoch (last_view (o.ledger.views d)) r.old r.established r.joint) in
      has_it c.peer c.in_left (since.synced c.peer v d r.epoch pv c.in_right r.above r.below (reached c.peer c.in_left))

  by_alive : (t : Bool) → is_quorum (may_acknowledge o v) (o.ledger.views (epoch_of v)) ≡ t → HasIt o d v peers ⊎ IsDead o v
  by_alive false p = inr p
  by_alive true p = by_origin p (origin o.ledger sound (epoch_of v) (basics.elected v pv) (alive_open p) d ed l)

pub found_from : (o : Objects) → Sound o.ledger → Basics o → KeptSince o → Found o
found_from o sound basics since d v peers pv ed l majority reached = by_alive o sound basics since v d peers pv ed l majority reached (is_quorum (may_acknowledge o v) (o.ledger.views (epoch_of v))) refl

-- ## Through each step

pub or_dead : {A B C : Type 0} → (B → C) → A ⊎ B → A ⊎ C
or_dead f (inl a) = inl a
or_dead f (inr b) = inr (f b)

pub or_has : {A B C D : Type 0} → (A → B) → (C → D) → A ⊎ C → B ⊎ D
or_has g f (inl a) = inl (g a)
or_has g f (inr b) = inr (f b)

-- more versions are dead
aged : (o : Objects) (dead later : ℕ → Type 0) → Basics o → ((v : ℕ) → o.proposed v ≡ true → dead v → later v) → KeptBut o dead → KeptBut o later
aged o dead later basics f k = record {
  acked = λ q v a. or_dead (f v (basics.acked_proposed v q a)) (k.acked q v a);
  synced = λ q v e p h l. or_dead (f v p) (k.synced q v e p h l);
}

aged_since : (o : Objects) (dead later : ℕ → Type 0) → Basics o → ((v : ℕ) → o.proposed v ≡ true → dead v → later v) → SinceBut o dead → SinceBut o later
aged_since o dead later basics f k = record {
  acked = λ q v d a l r. or_dead (f v (basics.acked_proposed v q a)) (k.acked q v d a l r);
  synced = λ q v d e p h l m r. or_dead (f v p) (k.synced q v d e p h l m r);
}

raise_since : (o : Objects) (p d : ℕ) (dead : ℕ → Type 0) → o.ledger.ballot p ≤ d → KeptBut o dead → SinceBut o dead → SinceBut (objects_after o (Raise p d)) dead
raise_since o p d dead may kept since = grind (arith, nat_tests)

acknowledge_kept : (o : Objects) (p x : ℕ) (dead : ℕ → Type 0) → MayAcknowledge o p x → KeptBut o dead → KeptBut (objects_after o (Acknowledge p x)) dead
acknowledge_kept o p x dead may old = record { acked = λ q v a. grind (arith, nat_tests, old.acked q v, may.has); synced = old.synced }

acknowledge_since : (o : Objects) (p x : ℕ) (dead : ℕ → Type 0) → MayAcknowledge o p x → SinceBut o dead → SinceBut (objects_after o (Acknowledge p x)) dead
acknowledge_since o p x dead may old = record { acked = λ q v d a l r. grind (arith, nat_tests, old.acked q v d, may.stands); synced = old.synced }

-- a tree write lowers no entry
pub write_rises : (o : Objects) (p x : ℕ) → MayWrite o p x → (q : ℕ) (k : List ℕ) → o.map q k ≤ (write o p x).map q k
write_rises o p x may q k = by_peer (eqb p q) refl
  where
    here : (j : List ℕ) → o.map p j ≤ set_entry (o.map p) (o.key x) x j
    here = entry_then (o.map p) (o.key x) x (λ j v. o.map p j ≤ v) may.higher (λ j. omega arith)

    by_peer : (b : Bool) → eqb p q ≡ b → o.map q k ≤ (write o p x).map q k
    by_peer true t = rw t (subst (λ y. o.map y k ≤ set_entry (o.map p) (o.key x) x k) (eqb-true p q t) (here k))
    by_peer false t = rw t (omega arith)

write_kept : (o : Objects) (p x : ℕ) (dead : ℕ → Type 0) → MayWrite o p x → KeptBut o dead → KeptBut (objects_after o (Write p x)) dead
write_kept o p x dead may old = record {
  acked = λ q v a. or_has (λ h. le_trans h (write_rises o p x may q (o.key v))) (λ d. d) (old.acked q v a);
  synced = λ q v e pv h l. or_has (λ h. le_trans h (write_rises o p x may q (o.key v))) (λ d. d) (old.synced q v e pv h l);
}

-- the merged map has each version of a lower epoch, and the peer must keep no other
install_kept : (o : Objects) (p d : ℕ) (merged : Map) (dead : ℕ → Type 0) → ((v : ℕ) → o.proposed v ≡ true → epoch_of v < d → (v ≤ merged (o.key v)) ⊎ dead v) →
    ((v q : ℕ) → o.acked v q ≡ true → o.proposed v ≡ true) → ((v : ℕ) → o.acked v p ≡ true → epoch_of v < d) → ((e : ℕ) → o.ledger.synced e p ≡ true → e < d) → KeptBut o dead → KeptBut (objects_after o (Install p d merged)) dead
install_kept o p d merged dead has acked_proposed acked_low synced_low old = record {
  acked = λ q v a. grind (arith, nat_tests, old.acked q v a);
  synced = λ q v e pv h l. grind (arith, nat_tests, old.synced q v e pv);
}

install_since : (o : Objects) (p d : ℕ) (merged : Map) (dead : ℕ → Type 0) → Basics o → ((v : ℕ) → o.proposed v ≡ true → epoch_of v < d → (v ≤ merged (o.key v)) ⊎ dead v) → SinceBut o dead → SinceBut (objects_after o (Install p d merged)) dead
install_since o p d merged dead basics has old = grind (arith, nat_tests)

join_kept : (o : Objects) (p d : ℕ) (dead : ℕ → Type 0) → ((v : ℕ) → o.proposed v ≡ true → epoch_of v < d → (v ≤ o.map p (o.key v)) ⊎ dead v) → KeptBut o dead → KeptBut (objects_after o (EndSync p d)) dead
join_kept o p d dead has old = record {
  acked = old.acked;
  synced = λ q v e pv h l. grind (arith, nat_tests, old.synced q v e pv);
}

join_since : (o : Objects) (p d : ℕ) (dead : ℕ → Type 0) → o.ledger.ballot p ≡ d → SinceBut o dead → SinceBut (objects_after o (EndSync p d)) dead
join_since o p d dead stands old = record {
  acked = old.acked;
  synced = λ q v b e pv h l m r. grind (arith, nat_tests, old.synced q v b e pv);
}

propose_kept : (o : Objects) (x : ℕ) (k : List ℕ) (u : ℕ) (dead : ℕ → Type 0) → o.proposed x ≡ false → Basics o → Sound o.ledger → ((e : ℕ) → o.ledger.elected e ≡ true → epoch_of x < e → dead x) → KeptBut o dead → (t : Objects) → t ≡ record o { proposed = put o.proposed x true; key = put o.key x k; parent = put o.parent x u } → KeptBut (record o { proposed = put o.proposed x true; key = put o.key x k; parent = put o.parent x u }) dead
propose_kept o x k u dead fresh basics sound born old t same = record {
  acked = λ q v a. grind (arith, nat_tests, old.acked q v a, basics.acked_proposed v q a);
  synced = λ q v e pv h l. grind (arith, nat_tests, old.synced q v e, sound.peers.ended q e h, sound.peers.first q e, born e);
}

propose_since : (o : Objects) (x : ℕ) (k : List ℕ) (u : ℕ) (dead : ℕ → Type 0) → o.proposed x ≡ false → Basics o → Sound o.ledger → ((e : ℕ) → o.ledger.elected e ≡ true → epoch_of x < e → dead x) → SinceBut o dead → SinceBut (record o { proposed = put o.proposed x true; key = put o.key x k; parent = put o.parent x u }) dead
propose_since o x k u dead fresh basics sound born old = record {
  acked = λ q v d a l r. grind (arith, nat_tests, old.acked q v d a, basics.acked_proposed v q a);
  synced = λ q v d e pv h l m r. grind (arith, nat_tests, old.synced q v d e, sound.peers.ended q e h, sound.peers.first q e, born e);
}

-- ### The premises of the lemmas

-- a map that met a sync's majority has each version of a lower epoch
pub sync_has : (o : Objects) (d : ℕ) (merged : Map) → IsSynced o d merged → o.ledger.elected d ≡ true → Sound o.ledger → Basics o → KeptSince o → (v : ℕ) → o.proposed v ≡ true → epoch_of v < d → (v ≤ merged (o.key v)) ⊎ IsDead o v
sync_has o d merged may ed sound basics since v pv l = from_found (found_from o sound basics since d v may.sources pv ed l may.majority may.reached)
  where
    from_found : HasIt o d v may.sources ⊎ IsDead o v → (v ≤ merged (o.key v)) ⊎ IsDead o v
    from_found (inl h) = inl (le_trans h.has (may.given h.peer (o.key v) h.among))
    from_found (inr h) = inr h

-- what the peer accepted before is of a lower epoch
before_epoch : (o : Objects) (p d : ℕ) → (o.ledger.fact p).epoch < d → Sound o.ledger → (a : ℕ) → o.ledger.accepted a p ≡ true → a < d
before_epoch o p d newer sound a h = omega (arith, sound.peers.newest p a h)

-- ### All steps

pub kept_step : (o : Objects) (e : Step) → MayDo o e → Sound o.ledger → Basics o → KeptSince o → Kept o → KeptBut (objects_after o e) (IsDead o)
kept_step o (Install p d merged) may sound basics since old =
    let low = before_epoch o p d may.newer sound in
    install_kept o p d merged (IsDead o) (sync_has o d merged may.synced may.elected sound basics since) basics.acked_proposed (λ v a. low (epoch_of v) (basics.acked_accepted v p a)) (λ e h. low e (sound.peers.ended p e h)) old
kept_step o (EndSync p d) may sound basics since old = join_kept o p d (IsDead o) (sync_has o d (o.map p) may.1.synced may.0.elected sound basics since) old
kept_step o (Propose x k u s y c) may sound basics since old = propose_kept o x k u (IsDead o) may.fresh basics sound (new_dead o x k u may sound basics) old (objects_after o (Propose x k u s y c)) refl
kept_step o (Acknowledge p x) may sound basics since old = acknowledge_kept o p x (IsDead o) may old
kept_step o (Write p x) may sound basics since old = write_kept o p x (IsDead o) may old
kept_step o Begin may sound basics since old = old
kept_step o (Ask c) may sound basics since old = old
kept_step o (Raise p d) may sound basics since old = assumption
kept_step o (Elect d b) may sound basics since old = assumption
kept_step o (Accept p d) may sound basics since old = assumption
kept_step o (Commit d c) may sound basics since old = assumption
kept_step o (Adopt p d) may sound basics since old = assumption
kept_step o (Settle v) may sound basics since old = assumption
kept_step o (Note i k u d) may sound basics since old = old
kept_step o (Answer i r) may sound basics since old = old
kept_step o (Lose p) may sound basics since old = assumption
kept_step o (Revert p m) may sound basics since old = assumption

pub since_step : (o : Objects) (e : Step) → MayDo o e → Sound o.ledger → Basics o → Kept o → KeptSince o → SinceBut (objects_after o e) (IsDead o)
since_step o (Raise p d) may sound basics kept old = raise_since o p d (IsDead o) may kept old
since_step o (Install p d merged) may sound basics kept old = install_since o p d merged (IsDead o) basics (sync_has o d merged may.synced may.elected sound basics old) old
since_step o (EndSync p d) may sound basics kept old = join_since o p d (IsDead o) may.0.stands old
since_step o (Propose x k u s y c) may sound basics kept old = propose_since o x k u (IsDead o) may.fresh basics sound (new_dead o x k u may sound basics) old
since_step o (Acknowledge p x) may sound basics kept old = acknowledge_since o p x (IsDead o) may old
since_step o Begin may sound basics kept old = old
since_step o (Ask c) may sound basics kept old = old
since_step o (Elect d b) may sound basics kept old = assumption
since_step o (Accept p d) may sound basics kept old = assumption
since_step o (Commit d c) may sound basics kept old = assumption
since_step o (Adopt p d) may sound basics kept old = assumption
since_step o (Write p v) may sound basics kept old = assumption
since_step o (Settle v) may sound basics kept old = assumption
since_step o (Note i k u d) may sound basics kept old = old
since_step o (Answer i r) may sound basics kept old = old
since_step o (Lose p) may sound basics kept old = assumption
since_step o (Revert p m) may sound basics kept old = assumption

-- a dead version stays dead, even one that the step proposed
dead_then : (o : Objects) (e : Step) → MayDo o e → Basics o → (v : ℕ) → (objects_after o e).proposed v ≡ true → IsDead o v → IsDead (objects_after o e) v
dead_then o (Propose x k u s y c) may basics v pv dead = dead
dead_then o Begin may basics v pv dead = dead
dead_then o (Ask c) may basics v pv dead = dead
dead_then o (Raise p d) may basics v pv dead = dead_stays o (Raise p d) may v (basics.elected v pv) dead
dead_then o (Elect d b) may basics v pv dead = dead_stays o (Elect d b) may v (basics.elected v pv) dead
dead_then o (Acknowledge p x) may basics v pv dead = dead_stays o (Acknowledge p x) may v (basics.elected v pv) dead
dead_then o (Accept p d) may basics v pv dead = dead
dead_then o (Commit d c) may basics v pv dead = dead
dead_then o (Adopt p d) may basics v pv dead = dead
dead_then o (Write p x) may basics v pv dead = dead
dead_then o (Install p d m) may basics v pv dead = dead
dead_then o (EndSync p d) may basics v pv dead = dead
dead_then o (Settle x) may basics v pv dead = dead
dead_then o (Note i k u d) may basics v pv dead = dead
dead_then o (Answer i r) may basics v pv dead = dead
dead_then o (Lose p) may basics v pv dead = dead
dead_then o (Revert p m) may basics v pv dead = dead

pub aged_kept : (o : Objects) (e : Step) → MayDo o e → Basics o → Basics (objects_after o e) → KeptBut (objects_after o e) (IsDead o) → Kept (objects_after o e)
aged_kept o e may basics next k = aged (objects_after o e) (IsDead o) (IsDead (objects_after o e)) next (dead_then o e may basics) k

pub aged_floors : (o : Objects) (e : Step) → MayDo o e → Basics o → Basics (objects_after o e) → SinceBut (objects_after o e) (IsDead o) → KeptSince (objects_after o e)
aged_floors o e may basics next k = aged_since (objects_after o e) (IsDead o) (IsDead (objects_after o e)) next (dead_then o e may basics) k
