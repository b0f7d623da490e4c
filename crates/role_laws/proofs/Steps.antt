-- Steps that are of no row of a leader keep its table; and messages stay true.
use Rattle.ens_base.specs.Lists.{◌∈◌}
use Rattle.protocol_laws.proofs.Later.{stay_step}
use Rattle.protocol_laws.specs.Stays.{EntriesStay}
use Rattle.std.proofs.Common.{[], ◌∷◌, ◌≡◌, ℕ, ◌<◌, ◌≤◌, true, ◌⊎◌, List, Option, None, Some, arith, ap, refl, inl, inr, sym, ◌∙◌, subst, le_trans}
use Rattle.register_model.specs.declared.call.Call.{Call}
use Rattle.protocol_laws.proofs.Maps.{put_here, eq_same_bytes}
use Rattle.protocol_laws.proofs.Dead.{settled_alive}
use Rattle.protocol_laws.specs.Ledger.{put}
use Rattle.protocol_laws.proofs.Descent.{Whole}
use Rattle.protocol_laws.specs.Versions.{VersionsAreSafe, IsDead}
use Rattle.protocol_laws.specs.Entries.{EntriesAreSafe}
use Rattle.protocol_laws.specs.Objects.{epoch_of, set_entry, IsGenuine}
use Rattle.protocol_laws.specs.Protocol.{State, Step, Begin, Ask, Raise, Elect, Accept, Commit, Adopt, Write, Acknowledge, Install, EndSync, Propose, Settle, Note, Answer, Lose, Revert, happens, MayCome, MayAll}
use Rattle.protocol_laws.proofs.Stays.{genuine_stays}
use Rattle.role_laws.proofs.Growth.{object_stays, genuine_proposed, spared_step, row_stays, call_spared_step, owes_stay, owed_home}
use Rattle.role_laws.specs.Tables.{calls_owed, Ghosts, Object, Leader, Turn, calls_of}
use Rattle.role_laws.specs.Leaders.{IsObjectOf, LeaderHolds, TurnHolds, TurnsHold}
use Rattle.role_laws.specs.LeaderMessages.{GetSays, CheckSays, PutSays, GetReplySays, CheckReplySays}
use Rattle.role_laws.specs.Moves.{CallSpared, SparesCall, RowSpared, IsOfOthers, SparesLeader, GhostsGrow, SparesRow}

-- ## The table

pub leader_stays : (g h : Ghosts) (s t : State) (l : Leader) → EntriesStay s t → GhostsGrow s g h → ((r : ℕ) → l.round < r → h.turn l.epoch r ≡ None) → ((k : List ℕ) → RowSpared s t l.epoch k (calls_of (l.rows k))) → ((i : ℕ) → i ∈ calls_owed l.seat.owed → CallSpared s t i) → LeaderHolds g s l → LeaderHolds h t l
leader_stays g h s t l stay ghosts rounds spared owed a = record {
  led = a.led;
  elected = stay.versions.ledger.elected l.epoch a.elected;
  established = stay.versions.ledger.established l.epoch a.elected a.established;
  numbers = λ v p e. a.numbers v ((spared (t.objects.key v)).untouched v p refl e) e;
  rounds = rounds;
  rows = λ k. row_stays g h s t l.seat l.epoch k stay ghosts a.elected (l.rows k) (spared k) (a.rows k);
  owes = owes_stay g h s t l.seat.peer l.seat.owed stay ghosts owed a.owes;
}

pub leader_step : (g h : Ghosts) (s : State) (e : Step) (l : Leader) → MayCome s e → Whole s.objects → GhostsGrow s g h → ((r : ℕ) → l.round < r → h.turn l.epoch r ≡ None) → SparesLeader s l e → LeaderHolds g s l → LeaderHolds h (happens s e) l
leader_step g h s e l may w ghosts rounds spares a = leader_stays g h s (happens s e) l (stay_step s e may) ghosts rounds (λ k. spared_step s e l.epoch k (calls_of (l.rows k)) (spares.rows k)) (λ i m. call_spared_step s e i (spares.owed i m)) a

-- the steps of others are of no call here
others_spare_call : (g : Ghosts) (l : Leader) (e : Step) (i : ℕ) → g.home i ≡ l.seat.peer → IsOfOthers g l e → SparesCall i e
others_spare_call g l (Propose v j u x y c) i home others = λ same. others.1 i same home
others_spare_call g l (Note j k u d) i home others = λ same. others (rw same home)
others_spare_call g l (Answer j r) i home others = λ same. others (rw same home)
others_spare_call g l e i home others = tt

-- the steps of others
others_spare_row : (g : Ghosts) (s : State) (l : Leader) (e : Step) → LeaderHolds g s l → IsOfOthers g l e → (k : List ℕ) → SparesRow s l.epoch k (calls_of (l.rows k)) e
others_spare_row g s l (Propose v j u x y c) a others k = (λ e same. others.0 e, λ i m same. others.1 i same ((a.rows k).calls i m).home)
others_spare_row g s l (Settle v) a others k = λ e same. others e
others_spare_row g s l (Note i j u d) a others k = λ m. others ((a.rows k).calls i m).home
others_spare_row g s l (Answer i r) a others k = λ m. others ((a.rows k).calls i m).home
others_spare_row g s l Begin a others k = tt
others_spare_row g s l (Ask c) a others k = tt
others_spare_row g s l (Raise p d) a others k = tt
others_spare_row g s l (Elect d b) a others k = tt
others_spare_row g s l (Accept p d) a others k = tt
others_spare_row g s l (Commit d c) a others k = tt
others_spare_row g s l (Adopt p d) a others k = tt
others_spare_row g s l (Write p v) a others k = tt
others_spare_row g s l (Acknowledge p v) a others k = tt
others_spare_row g s l (Install p d m) a others k = tt
others_spare_row g s l (EndSync p d) a others k = tt
others_spare_row g s l (Lose p) a others k = tt
others_spare_row g s l (Revert p m) a others k = tt

pub others_spare : (g : Ghosts) (s : State) (l : Leader) (e : Step) → LeaderHolds g s l → IsOfOthers g l e → SparesLeader s l e
others_spare g s l e a others = record { rows = others_spare_row g s l e a others; owed = λ i m. others_spare_call g l e i (owed_home g s l.seat.peer l.seat.owed i a.owes m) others }

pub others_step : (g h : Ghosts) (s : State) (e : Step) (l : Leader) → MayCome s e → Whole s.objects → GhostsGrow s g h → ((r : ℕ) → l.round < r → h.turn l.epoch r ≡ None) → IsOfOthers g l e → LeaderHolds g s l → LeaderHolds h (happens s e) l
others_step g h s e l may w ghosts rounds others a = leader_step g h s e l may w ghosts rounds (others_spare g s l e a others) a

-- ## Rounds and messages

turn_base : (s t : State) (x : Turn) → EntriesStay s t → Whole s.objects → s.book.called x.call ≡ true → (x.base ≡ 0) ⊎ ((s.objects.settled x.base ≡ true) × (s.objects.key x.base ≡ (s.book.asked x.call).key)) → (x.base ≡ 0) ⊎ ((t.objects.settled x.base ≡ true) × (t.objects.key x.base ≡ (t.book.asked x.call).key))
turn_base s t x stay w called (inl z) = inl z
turn_base s t x stay w called (inr b) = inr (stay.versions.settled x.base b.0, stay.versions.key x.base (w.settled.proposed x.base b.0) ∙ b.1 ∙ sym (ap (λ (c : Call). c.key) (stay.asked x.call called)))

pub turn_stays : (s t : State) (d : ℕ) (x : Turn) → EntriesStay s t → Whole s.objects → TurnHolds s d x → TurnHolds t d x
turn_stays s t d x stay w a = record { elected = stay.versions.ledger.elected d a.elected; called = stay.called x.call a.called; base = turn_base s t x stay w a.called a.base }

pub get_reply_stays : (g h : Ghosts) (s t : State) (q d r : ℕ) (k : List ℕ) (entry : ℕ) (object : Option Object) → EntriesStay s t → GhostsGrow s g h → TurnsHold g s → GetReplySays g s q d r k entry object → GetReplySays h t q d r k entry object
get_reply_stays g h s t q d r k entry object stay ghosts turns a = record {
  turn = a.turn;
  started = ghosts.turn d r a.turn a.started;
  genuine = genuine_stays s.objects t.objects stay.versions d k entry a.genuine;
  reached = le_trans a.reached (stay.versions.ledger.ballot q);
  given = le_trans (stay.versions.floors q d k a.reached) a.given;
  stood = rw (stay.stood a.turn.call q (turns d r a.turn a.started).called) a.stood;
  settled = by_base (turns d r a.turn a.started).base;
  holds = λ x e. object_stays s t entry x stay (genuine_proposed s d k entry a.genuine) (a.holds x e);
}
  where
    by_base : (a.turn.base ≡ 0) ⊎ ((s.objects.settled a.turn.base ≡ true) × (s.objects.key a.turn.base ≡ (s.book.asked a.turn.call).key)) → t.objects.settled_by a.turn.base q ≡ true → a.turn.base ≤ entry
    by_base (inl z) b = rw z (omega arith)
    by_base (inr c) b = a.settled (rw (stay.versions.settled_by a.turn.base c.0) at b)

pub check_reply_stays : (g h : Ghosts) (s t : State) (q d r : ℕ) → EntriesStay s t → GhostsGrow s g h → TurnsHold g s → CheckReplySays g s q d r → CheckReplySays h t q d r
check_reply_stays g h s t q d r stay ghosts turns a = record { turn = a.turn; started = ghosts.turn d r a.turn a.started; stood = rw (stay.stood a.turn.call q (turns d r a.turn a.started).called) a.stood }

-- ## What a peer that stands at the epoch and trusts its tree replies

at_most : (a d e : ℕ) → a ≤ e → e ≡ d → a ≤ d
at_most a d e l p = omega arith

pub get_reply : (g : Ghosts) (s : State) (q d r : ℕ) (k : List ℕ) (x : Turn) (object : Option Object) → VersionsAreSafe s.objects → EntriesAreSafe s → Whole s.objects → g.turn d r ≡ Some x → TurnHolds s d x → (s.book.asked x.call).key ≡ k → s.objects.ledger.ballot q ≡ d → s.objects.trusted q ≡ true
    → ((y : Object) → object ≡ Some y → IsObjectOf s (s.objects.visible q k) y) → GetReplySays g s q d r k (s.objects.visible q k) object
get_reply g s q d r k x object versions entries w started turn key stands trusted holds = record {
  turn = x;
  started = started;
  genuine = subst (λ e. IsGenuine s.objects e k (s.objects.visible q k)) stands (versions.genuine.shown q k);
  reached = reached stands;
  given = subst (λ e. s.objects.floor q e k ≤ s.objects.visible q k) stands (versions.shows q k (inl trusted));
  stood = at_most (s.book.stood x.call q) d (s.objects.ledger.ballot q) ((entries.calls x.call turn.called).stood q) stands;
  settled = by_base turn.base;
  holds = holds;
}
  where
    reached : s.objects.ledger.ballot q ≡ d → d ≤ s.objects.ledger.ballot q
    reached e = omega arith

    kept : s.objects.settled x.base ≡ true → (x.base ≤ s.objects.map q (s.objects.key x.base)) ⊎ IsDead s.objects x.base → x.base ≤ s.objects.map q (s.objects.key x.base)
    kept b (inl l) = l
    kept b (inr dead) = absurd (settled_alive s.objects x.base w.settled b dead)

    by_base : (x.base ≡ 0) ⊎ ((s.objects.settled x.base ≡ true) × (s.objects.key x.base ≡ (s.book.asked x.call).key)) → s.objects.settled_by x.base q ≡ true → x.base ≤ s.objects.visible q k
    by_base (inl z) b = rw z (omega arith)
    by_base (inr c) b = rw (versions.sight.trusted q trusted k) (subst (λ j. x.base ≤ s.objects.map q j) (c.1 ∙ key) (kept c.0 (versions.kept.acked q x.base (w.settled.acked x.base q c.0 b))))

pub check_reply : (g : Ghosts) (s : State) (q d r : ℕ) (x : Turn) → EntriesAreSafe s → g.turn d r ≡ Some x → TurnHolds s d x → s.objects.ledger.ballot q ≡ d → CheckReplySays g s q d r
check_reply g s q d r x entries started turn stands = record { turn = x; started = started; stood = at_most (s.book.stood x.call q) d (s.objects.ledger.ballot q) ((entries.calls x.call turn.called).stood q) stands }

-- ## Questions and objects

pub get_stays : (g h : Ghosts) (s t : State) (d r : ℕ) (k : List ℕ) → EntriesStay s t → GhostsGrow s g h → TurnsHold g s → GetSays g s d r k → GetSays h t d r k
get_stays g h s t d r k stay ghosts turns a = record { turn = a.turn; started = ghosts.turn d r a.turn a.started; on_key = ap (λ (c : Call). c.key) (stay.asked a.turn.call (turns d r a.turn a.started).called) ∙ a.on_key }

pub check_stays : (g h : Ghosts) (s : State) (d r : ℕ) → GhostsGrow s g h → CheckSays g d r → CheckSays h d r
check_stays g h s d r ghosts a = record { turn = a.turn; started = ghosts.turn d r a.turn a.started }

pub put_says_stays : (s t : State) (d : ℕ) (k : List ℕ) (v : ℕ) (x : Object) → EntriesStay s t → PutSays s d k v x → PutSays t d k v x
put_says_stays s t d k v x stay a = record {
  proposed = stay.versions.proposed v a.proposed;
  key = stay.versions.key v a.proposed ∙ a.key;
  epoch = a.epoch;
  object = record { some = a.object.some; stamp = a.object.stamp ∙ sym (stay.stamp v a.proposed); content = a.object.content ∙ sym (stay.content v a.proposed) };
}

-- the peer's entry is the version: it acknowledges it
pub put_is_there : (s : State) (q d : ℕ) (k : List ℕ) (v : ℕ) (x : Object) → VersionsAreSafe s.objects → s.objects.ledger.ballot q ≡ d → s.objects.trusted q ≡ true → s.objects.ledger.accepted d q ≡ true → PutSays s d k v x → s.objects.visible q k ≡ v → MayCome s (Acknowledge q v)
put_is_there s q d k v x versions stands trusted accepted a e = (record { proposed = a.proposed; stands = stands ∙ sym a.epoch; accepted = rw a.epoch accepted; has = rw a.key (same (s.objects.map q k) (sym (versions.sight.trusted q trusted k) ∙ e)) }, tt)
  where
    same : (m : ℕ) → m ≡ v → v ≤ m
    same m f = omega arith

-- the peer's entry is lower: the version goes into its tree, and it acknowledges it
pub put_goes_in : (s : State) (q d : ℕ) (k : List ℕ) (v : ℕ) (x : Object) → VersionsAreSafe s.objects → s.objects.ledger.ballot q ≡ d → s.objects.trusted q ≡ true → s.objects.ledger.accepted d q ≡ true → PutSays s d k v x → s.objects.visible q k ≤ v → MayAll s (Write q v ∷ Acknowledge q v ∷ [])
put_goes_in s q d k v x versions stands trusted accepted a l = ((record { honest = versions.sight.trusted q trusted; proposed = a.proposed; low = low a.epoch stands; higher = rw a.key (subst (λ m. m ≤ v) (versions.sight.trusted q trusted k) l) }, tt), ((record { proposed = a.proposed; stands = stands ∙ sym a.epoch; accepted = rw a.epoch accepted; has = has }, tt), tt))
  where
    low : epoch_of v ≡ d → s.objects.ledger.ballot q ≡ d → epoch_of v ≤ s.objects.ledger.ballot q
    low e f = omega arith

    entry_here : (m : List ℕ → ℕ) (j : List ℕ) → v ≤ set_entry m j v j
    entry_here m j = rw (eq_same_bytes j j refl) (omega arith)

    has : v ≤ put s.objects.map q (set_entry (s.objects.map q) (s.objects.key v) v) q (s.objects.key v)
    has = rw (put_here s.objects.map q (set_entry (s.objects.map q) (s.objects.key v) v)) (entry_here (s.objects.map q) (s.objects.key v))
