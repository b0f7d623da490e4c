-- The rules of a leader as moves.
use Rattle.std.proofs.Common.{false, subst, ◌≡◌, ℕ, suc, ◌^◌, ◌<◌, Bool, true, List, [], ◌∷◌, Option, None, Some, refl, sym, ◌∙◌}
use Rattle.protocol_laws.proofs.Later.{stay_after, stay_same}
use Rattle.ens_base.specs.declared.reply.Reply.{Reply}
use Rattle.register_model.specs.Registers.{outcome, Writes}
use Rattle.quorums.specs.Quorums.{is_quorum}
use Rattle.protocol_laws.proofs.Epochs.{not_both}
use Rattle.protocol_laws.proofs.Basics.{proposed_then}
use Rattle.protocol_laws.proofs.Descent.{Whole, whole_step}
use Rattle.protocol_laws.specs.Ledger.{is_established}
use Rattle.protocol_laws.specs.Objects.{epoch_of}
use Rattle.protocol_laws.specs.Book.{register_at}
use Rattle.protocol_laws.specs.Protocol.{State, Step, Begin, Ask, Raise, Elect, Accept, Commit, Adopt, Write, Acknowledge, Install, EndSync, Propose, Settle, Note, Answer, Lose, Revert, happens, after, MayAll}
use Rattle.role_laws.proofs.Growth.{call_spared_none}
use Rattle.role_laws.proofs.Steps.{leader_stays, others_step, turn_stays}
use Rattle.role_laws.proofs.Rounds.{spared_none, ghosts_same}
use Rattle.role_laws.proofs.LeaderMoves.{check_ends}
use Rattle.role_laws.proofs.Acts.{reading_began, sure_began, writes, rewrites, reads, is_lost}
use Rattle.role_laws.proofs.Guards.{read_parent, settled_parent, fresh_of_replies}
use Rattle.role_laws.specs.Tables.{Turn, Object, Known, Idle, Begun, Reading, Sure, Checking, Leader, Ghosts, base_of, calls_of, row_of, new_leader, Seat, owing}
use Rattle.role_laws.specs.Leaders.{IsSettledKey, RowHolds, LeaderHolds, TurnsHold, IsUnled, OwesHold}
use Rattle.role_laws.specs.Moves.{IsOfLeader, AreOfLeader, IsOfOthers, IsLeaderMove, put_write, write_step, put_rewrite, rewrite_step}

-- ## A call that is sure, or begins, on a settled key: the command is applied

pub begun_writes : (g : Ghosts) (s : State) (l : Leader) (k : List ℕ) (known : Known) (i : ℕ) (rest : List ℕ) (z : Option (List ℕ)) → LeaderHolds g s l → Whole s.objects → suc l.seq < 2 ^ 64 → IsSettledKey known → RowHolds g s l.seat l.epoch k (row_of known (Begun i) rest) → outcome (s.book.asked i).command (register_at s.book (base_of known)) ≡ Writes z
    → IsLeaderMove g s (write_step l k (base_of known) z i ∷ []) g (put_write l k known i rest z)
begun_writes g s l k known i rest z a w fits is row applies = writes g s l k known i rest (base_of known) z a w fits row (settled_parent g s l.epoch k known is (row.known refl)) applies

pub sure_writes : (g : Ghosts) (s : State) (l : Leader) (k : List ℕ) (known : Known) (i : ℕ) (rest : List ℕ) (z : Option (List ℕ)) → LeaderHolds g s l → Whole s.objects → suc l.seq < 2 ^ 64 → RowHolds g s l.seat l.epoch k (row_of known (Sure i) rest) → outcome (s.book.asked i).command (register_at s.book (base_of known)) ≡ Writes z
    → IsLeaderMove g s (write_step l k (base_of known) z i ∷ []) g (put_write l k known i rest z)
sure_writes g s l k known i rest z a w fits row applies = begun_writes g s l k known i rest z a w fits row.stage.2 (sure_began g s l.seat l.epoch k known rest i row) applies

-- ## A quorum replied to the read

module _ (g : Ghosts) (s : State) (l : Leader) (k : List ℕ) (known : Known) (i r : ℕ) (replied : ℕ → Bool) (best : ℕ) (object : Option Object) (rest : List ℕ) (a : LeaderHolds g s l) (w : Whole s.objects) (row : RowHolds g s l.seat l.epoch k (row_of known (Reading i r replied best object) rest)) where
  began : RowHolds g s l.seat l.epoch k (row_of known (Begun i) rest)
  began = reading_began g s l.seat l.epoch k known rest i r replied best object row

  -- over and delete: upon the best entry, or none
  pub read_then_over : (z : Option (List ℕ)) → suc l.seq < 2 ^ 64 → is_quorum replied (s.objects.ledger.views l.epoch) ≡ true → outcome (s.book.asked i).command (register_at s.book best) ≡ Writes z → IsLeaderMove g s (write_step l k best z i ∷ []) g (put_write l k known i rest z)
  read_then_over z fits quorum applies = writes g s l k known i rest best z a w fits began (read_parent g s l.epoch k known i r replied best object w a.elected (row.known refl) row.stage quorum) applies

  -- the best entry's object is there: it is rewritten
  pub read_then_rewrite : (x : Object) → object ≡ Some x → suc l.seq < 2 ^ 64 → is_quorum replied (s.objects.ledger.views l.epoch) ≡ true → IsLeaderMove g s (rewrite_step l k best x ∷ []) g (put_rewrite l k known i rest x)
  read_then_rewrite x e fits quorum = rewrites g s l k known i rest best x a w fits began (read_parent g s l.epoch k known i r replied best object w a.elected (row.known refl) row.stage quorum) (row.stage.holds x e) (fresh_of_replies s l.epoch i replied row.stage.stood quorum)

  -- no object, and the leader waits no more
  pub read_then_lost : IsLeaderMove g s [] g (owing l k (row_of known Idle rest) i Reply.Lost)
  read_then_lost = is_lost g s l k known i rest a began

-- a quorum replied to the check
pub check_then_answer : (g : Ghosts) (s : State) (l : Leader) (k : List ℕ) (known : Known) (i r : ℕ) (replied : ℕ → Bool) (reply : Reply) (rest : List ℕ) → LeaderHolds g s l → Whole s.objects → RowHolds g s l.seat l.epoch k (row_of known (Checking i r replied reply) rest) → is_quorum replied (s.objects.ledger.views l.epoch) ≡ true
    → IsLeaderMove g s (Note i k (base_of known) l.epoch ∷ []) g (owing l k (row_of known Idle rest) i reply)
check_then_answer g s l k known i r replied reply rest a w row quorum = reads g s l k known i rest reply a w (check_ends g s l.seat l.epoch k known rest i r replied reply quorum row) row.stage.0.keeps

-- ## What a move keeps of others

-- a step of one leader is a step of others to each leader of another epoch at another peer
pub others_of : (g : Ghosts) (d p : ℕ) (m : Leader) (e : Step) → (d ≡ m.epoch → ⊥) → (p ≡ m.seat.peer → ⊥) → IsOfLeader g d p e → IsOfOthers g m e
others_of g d p m (Propose v k u x y c) n o own = (λ e. n (sym own.0 ∙ e), λ i e h. o (sym (own.1 i e) ∙ h))
others_of g d p m (Settle v) n o own = λ e. n (sym own ∙ e)
others_of g d p m (Note i k u e) n o own = λ h. o (sym own ∙ h)
others_of g d p m (Answer i r) n o own = λ h. o (sym own ∙ h)
others_of g d p m e n o own = tt

pub others_after : (g : Ghosts) (d p : ℕ) (m : Leader) (s : State) (steps : List Step) → MayAll s steps → Whole s.objects → (d ≡ m.epoch → ⊥) → (p ≡ m.seat.peer → ⊥) → AreOfLeader g d p steps → LeaderHolds g s m → LeaderHolds g (after s steps) m
others_after g d p m s [] may w n o own a = a
others_after g d p m s (e ∷ es) may w n o own a = others_after g d p m (happens s e) es may.1 (whole_step s.objects e may.0.0 w) n o own.1 (others_step g g s e m may.0 w (ghosts_same s g) a.rounds (others_of g d p m e n o own.0) a)

-- a move of one leader keeps the table of each other one
pub move_for_others : (g h : Ghosts) (s : State) (steps : List Step) (l m : Leader) → Whole s.objects → IsLeaderMove g s steps h l → (l.epoch ≡ m.epoch → ⊥) → (l.seat.peer ≡ m.seat.peer → ⊥) → LeaderHolds g s m → LeaderHolds h (after s steps) m
move_for_others g h s steps l m w move n o a = others_after h l.epoch l.seat.peer m s steps move.may w n o move.own (leader_stays g h s s m (stay_same s) move.ghosts (λ r above. move.turns m.epoch r n ∙ a.rounds r above) (λ k. spared_none s m.epoch k (calls_of (m.rows k))) (λ i m. call_spared_none s i) a)

-- a move of one leader keeps the rounds, where its own new one holds
pub turns_after : (g : Ghosts) (s : State) (steps : List Step) → MayAll s steps → Whole s.objects → TurnsHold g s → TurnsHold g (after s steps)
turns_after g s steps may w a d r t e = turn_stays s (after s steps) d t (stay_after s steps may) w (a d r t e)

-- ## A leader that begins

pub leader_begins : (g : Ghosts) (s : State) (d : ℕ) (p : Seat) → OwesHold g s p.peer p.owed → 0 < d → s.objects.ledger.elected d ≡ true → is_established s.objects.ledger d ≡ true → IsUnled g s d → LeaderHolds g s (new_leader d p)
leader_begins g s d p owes led elected established unled = record {
  owes = owes;
  led = led;
  elected = elected;
  established = established;
  numbers = λ v q e. absurd (unled.none v q e);
  rounds = λ r h. unled.fresh r;
  rows = λ k. record { known = λ n x q key e. unled.none x q e; stage = tt; calls = λ i m. absurd m; waiting = λ i m. absurd m; distinct = tt };
}

-- ## Epochs that are not led

pub unled_at_first : (g : Ghosts) (s : State) (d : ℕ) → Whole s.objects → TurnsHold g s → s.objects.ledger.elected d ≡ false → IsUnled g s d
unled_at_first g s d w turns fresh = record { none = λ v p e. not_both (subst (λ n. s.objects.ledger.elected n ≡ true) e (w.basics.elected v p)) fresh; fresh = λ r. by_cases r (g.turn d r) refl }
  where
    by_cases : (r : ℕ) (t : Option Turn) → g.turn d r ≡ t → g.turn d r ≡ None
    by_cases r None e = e
    by_cases r (Some t) e = absurd (not_both (turns d r t e).elected fresh)

pub unled_step : (g : Ghosts) (s : State) (d e p : ℕ) (step : Step) → IsOfLeader g e p step → (e ≡ d → ⊥) → IsUnled g s d → IsUnled g (happens s step) d
unled_step g s d e p (Propose v k u x y c) own n a = record { none = proposed_then s.objects.proposed v (λ z. epoch_of z ≡ d → ⊥) (λ f. n (sym own.0 ∙ f)) (λ z m q f. a.none z q f); fresh = a.fresh }
unled_step g s d e p Begin own n a = record { none = a.none; fresh = a.fresh }
unled_step g s d e p (Ask c) own n a = record { none = a.none; fresh = a.fresh }
unled_step g s d e p (Raise q f) own n a = record { none = a.none; fresh = a.fresh }
unled_step g s d e p (Elect f b) own n a = record { none = a.none; fresh = a.fresh }
unled_step g s d e p (Accept q f) own n a = record { none = a.none; fresh = a.fresh }
unled_step g s d e p (Commit f c) own n a = record { none = a.none; fresh = a.fresh }
unled_step g s d e p (Adopt q f) own n a = record { none = a.none; fresh = a.fresh }
unled_step g s d e p (Write q v) own n a = record { none = a.none; fresh = a.fresh }
unled_step g s d e p (Acknowledge q v) own n a = record { none = a.none; fresh = a.fresh }
unled_step g s d e p (Install q f m) own n a = record { none = a.none; fresh = a.fresh }
unled_step g s d e p (EndSync q f) own n a = record { none = a.none; fresh = a.fresh }
unled_step g s d e p (Settle v) own n a = record { none = a.none; fresh = a.fresh }
unled_step g s d e p (Note i k u f) own n a = record { none = a.none; fresh = a.fresh }
unled_step g s d e p (Answer i r) own n a = record { none = a.none; fresh = a.fresh }
unled_step g s d e p (Lose q) own n a = record { none = a.none; fresh = a.fresh }
unled_step g s d e p (Revert q m) own n a = record { none = a.none; fresh = a.fresh }

pub unled_after : (g : Ghosts) (s : State) (d e p : ℕ) (steps : List Step) → AreOfLeader g e p steps → (e ≡ d → ⊥) → IsUnled g s d → IsUnled g (after s steps) d
unled_after g s d e p [] own n a = a
unled_after g s d e p (step ∷ steps) own n a = unled_after g (happens s step) d e p steps own.1 n (unled_step g s d e p step own.0 n a)

pub unled_moves : (g h : Ghosts) (s : State) (d : ℕ) (steps : List Step) (l : Leader) → IsLeaderMove g s steps h l → (l.epoch ≡ d → ⊥) → IsUnled g s d → IsUnled h (after s steps) d
unled_moves g h s d steps l move n a = unled_after h s d l.epoch l.seat.peer steps move.own n (record { none = a.none; fresh = λ r. move.turns d r n ∙ a.fresh r })
