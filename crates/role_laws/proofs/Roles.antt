-- All leaders at once, and all messages of calls.
use Rattle.protocol_laws.proofs.Epochs.{not_both}
use Rattle.protocol_laws.proofs.Later.{stay_step, stay_after, stay_same}
use Rattle.protocol_laws.specs.Stays.{EntriesStay}
use Rattle.std.proofs.Common.{◌≡◌, ℕ, suc, ◌<◌, true, ◌⊎◌, List, [], ◌∷◌, Option, None, Some, arith, ap, refl, inl, inr, sym, ◌∙◌, subst, ◌++◌}
use Rattle.ens_base.specs.Lists.{◌∈◌, AreDistinct}
use Rattle.ens_base.specs.declared.epoch.Version.{Version}
use Rattle.ens_base.specs.declared.reply.Reply.{Reply}
use Rattle.register_model.specs.declared.call.Call.{Call}
use Rattle.register_model.specs.Histories.{IsRefused}
use Rattle.protocol_laws.specs.Preparing.{proposer_of}
use Rattle.protocol_laws.proofs.Maps.{put_then}
use Rattle.protocol_laws.proofs.Descent.{Whole, whole_step, run_whole}
use Rattle.protocol_laws.proofs.Replies.{run_entries}
use Rattle.protocol_laws.specs.Entries.{EntriesAreSafe}
use Rattle.protocol_laws.specs.Ledger.{Place, is_established, put}
use Rattle.protocol_laws.specs.Book.{MayCall}
use Rattle.protocol_laws.specs.Protocol.{State, Step, Ask, Elect, Propose, Settle, Note, Answer, happens, MayCome, opening, IsRun, state_after, after, MayAll}
use Rattle.role_laws.proofs.Growth.{owes_stay, call_spared_step, call_spared_none, owed_home, owed_called, owes_more}
use Rattle.role_laws.proofs.Steps.{others_step, get_stays, check_stays, put_says_stays, get_reply_stays, check_reply_stays}
use Rattle.role_laws.proofs.Rounds.{ghosts_same, home_grows}
use Rattle.role_laws.proofs.Rules.{move_for_others, turns_after, leader_begins, unled_at_first, unled_after, unled_moves, unled_step}
use Rattle.role_laws.specs.Tables.{Leader, Turn, Ghosts, calls_of, timeouts, with_home, new_leader, Owed, seated}
use Rattle.role_laws.specs.Leaders.{TurnsHold, OwedHolds, OwesHold, LeaderHolds}
use Rattle.role_laws.specs.Moves.{GhostsGrow, IsOfLeader, AreOfLeader, IsOfOthers, IsLeaderMove, SparesCall}
use Rattle.role_laws.proofs.Acts.{leader_owes}
use Rattle.role_laws.proofs.Turns.{asks, new_dropped, leader_leaves, owes_give, leader_gives, refused_call}
use Rattle.role_laws.specs.Roles.{Role, Follows, Starts, Leads, Said, Reads, Entry, Checks, Stands, Puts, Acks, Sent, IsLeaderOf, IsStartOf, RoleHolds, SaidHolds, RolesHold, IsSilent, RoleMoves, RolesMove, with_owed, owed_by}

-- ## Messages

said_stays : (g h : Ghosts) (s t : State) (q : ℕ) (m : Said) → EntriesStay s t → GhostsGrow s g h → TurnsHold g s → SaidHolds g s q m → SaidHolds h t q m
said_stays g h s t q (Reads d r k) stay ghosts turns a = get_stays g h s t d r k stay ghosts turns a
said_stays g h s t q (Entry d r k entry object) stay ghosts turns a = get_reply_stays g h s t q d r k entry object stay ghosts turns a
said_stays g h s t q (Checks d r) stay ghosts turns a = check_stays g h s d r ghosts a
said_stays g h s t q (Stands d r) stay ghosts turns a = check_reply_stays g h s t q d r stay ghosts turns a
said_stays g h s t q (Puts d k v x) stay ghosts turns a = put_says_stays s t d k v x stay a
said_stays g h s t q (Acks v) stay ghosts turns a = stay.versions.acked v q a

-- ## Roles

-- epochs of two peers are two
epochs_apart : (p q d e : ℕ) → proposer_of d ≡ p → proposer_of e ≡ q → (p ≡ q → ⊥) → d ≡ e → ⊥
epochs_apart p q d e own other n same = n (sym own ∙ ap proposer_of same ∙ other)

peers_apart : (p q a b : ℕ) → a ≡ p → b ≡ q → (p ≡ q → ⊥) → a ≡ b → ⊥
peers_apart p q a b x y n same = n (sym x ∙ same ∙ y)

-- a step of one peer is of no call that came to another one
of_spares : (g : Ghosts) (d p q : ℕ) (e : Step) (i : ℕ) → (p ≡ q → ⊥) → g.home i ≡ q → IsOfLeader g d p e → SparesCall i e
of_spares g d p q (Propose v k u x y c) i n home own = λ same. n (sym (own.1 i same) ∙ home)
of_spares g d p q (Note j k u f) i n home own = λ same. n (sym own ∙ ap g.home same ∙ home)
of_spares g d p q (Answer j r) i n home own = λ same. n (sym own ∙ ap g.home same ∙ home)
of_spares g d p q e i n home own = tt

owes_steps : (g : Ghosts) (s : State) (steps : List Step) (d p q : ℕ) (o : List Owed) → Whole s.objects → MayAll s steps → AreOfLeader g d p steps → (p ≡ q → ⊥) → OwesHold g s q o → OwesHold g (after s steps) q o
owes_steps g s [] d p q o w may own n a = a
owes_steps g s (e ∷ es) d p q o w may own n a = owes_steps g (happens s e) es d p q o (whole_step s.objects e may.0.0 w) may.1 own.1 n (owes_stay g g s (happens s e) q o (stay_step s e may.0) (ghosts_same s g) (λ i m. call_spared_step s e i (of_spares g d p q e i n (owed_home g s q o i a m) own.0)) a)

owes_after : (g h : Ghosts) (s : State) (steps : List Step) (d p q : ℕ) (o : List Owed) → Whole s.objects → MayAll s steps → GhostsGrow s g h → AreOfLeader h d p steps → (p ≡ q → ⊥) → OwesHold g s q o → OwesHold h (after s steps) q o
owes_after g h s steps d p q o w may ghosts own n a = owes_steps h s steps d p q o w may own n (owes_stay g h s s q o (stay_same s) ghosts (λ i m. call_spared_none s i) a)

role_moves : (g h : Ghosts) (s : State) (steps : List Step) (p : ℕ) (l : Leader) → Whole s.objects → l.seat.peer ≡ p → proposer_of l.epoch ≡ p → IsLeaderMove g s steps h l → (q : ℕ) (role : Role) → (p ≡ q → ⊥) → RoleHolds g s q role → RoleHolds h (after s steps) q role
role_moves g h s steps p l w peer own move q (Follows o) n a = owes_after g h s steps l.epoch p q o w move.may move.ghosts (subst (λ b. AreOfLeader h l.epoch b steps) peer move.own) n a
role_moves g h s steps p l w peer own move q (Starts d o) n a = record { own = a.own; owes = owes_after g h s steps l.epoch p q o w move.may move.ghosts (subst (λ b. AreOfLeader h l.epoch b steps) peer move.own) n a.owes; unled = unled_moves g h s d steps l move (epochs_apart p q l.epoch d own a.own n) a.unled }
role_moves g h s steps p l w peer own move q (Leads m) n a = record { peer = a.peer; own = a.own; table = move_for_others g h s steps l m w move (epochs_apart p q l.epoch m.epoch own a.own n) (peers_apart p q l.seat.peer m.seat.peer peer a.peer n) a.table }

silent_others : (g : Ghosts) (l : Leader) (e : Step) → IsSilent e → IsOfOthers g l e
silent_others g l (Propose v k u x y c) a = absurd a
silent_others g l (Settle v) a = absurd a
silent_others g l (Note i k u d) a = absurd a
silent_others g l (Answer i r) a = absurd a
silent_others g l e a = tt

silent_call : (e : Step) (i : ℕ) → IsSilent e → SparesCall i e
silent_call (Propose v k u x y c) i a = absurd a
silent_call (Settle v) i a = absurd a
silent_call (Note j k u d) i a = absurd a
silent_call (Answer j r) i a = absurd a
silent_call e i a = tt

owes_silent : (g : Ghosts) (s : State) (e : Step) (q : ℕ) (o : List Owed) → MayCome s e → IsSilent e → Whole s.objects → OwesHold g s q o → OwesHold g (happens s e) q o
owes_silent g s e q o may silent w a = owes_stay g g s (happens s e) q o (stay_step s e may) (ghosts_same s g) (λ i m. call_spared_step s e i (silent_call e i silent)) a

silent_of : (g : Ghosts) (d p : ℕ) (e : Step) → IsSilent e → IsOfLeader g d p e
silent_of g d p (Propose v k u x y c) a = absurd a
silent_of g d p (Settle v) a = absurd a
silent_of g d p (Note i k u f) a = absurd a
silent_of g d p (Answer i r) a = absurd a
silent_of g d p e a = tt

other_than : (d : ℕ) → suc d ≡ d → ⊥
other_than d e = omega arith

role_silent : (g : Ghosts) (s : State) (e : Step) → MayCome s e → IsSilent e → Whole s.objects → (q : ℕ) (role : Role) → RoleHolds g s q role → RoleHolds g (happens s e) q role
role_silent g s e may silent w q (Follows o) a = owes_silent g s e q o may silent w a
role_silent g s e may silent w q (Starts d o) a = record { own = a.own; owes = owes_silent g s e q o may silent w a.owes; unled = unled_step g s d (suc d) 0 e (silent_of g (suc d) 0 e silent) (other_than d) a.unled }
role_silent g s e may silent w q (Leads m) a = record { peer = a.peer; own = a.own; table = others_step g g s e m may w (ghosts_same s g) a.table.rounds (silent_others g m e silent) a.table }

-- ## All roles

-- before the first step nobody leads, no round was started and no message sent
pub roles_open : (view : List ℕ) (hash : Version → List ℕ → Version → Option (List ℕ) → List ℕ) → RolesHold (record { turn = λ d r. None; home = λ i. 0; hash = hash }) (opening view) (λ p. Follows []) []
roles_open view hash = record { turns = λ d r t e. absurd (none_some t e); roles_hold = λ p. tt; sent_hold = λ m at. absurd at }
  where
    none_some : (t : Turn) → None ≡ Some t → ⊥
    none_some t e = cc

module _ (s : State) (w : Whole s.objects) where
  pub silent : (g : Ghosts) (roles : ℕ → Role) (sent : List Sent) (e : Step) → MayCome s e → IsSilent e → RolesHold g s roles sent → RolesHold g (happens s e) roles sent
  silent g roles sent e may quiet a = record {
    turns = turns_after g s (e ∷ []) (may, tt) w a.turns;
    roles_hold = λ q. role_silent g s e may quiet w q (roles q) (a.roles_hold q);
    sent_hold = λ m at. said_stays g g s (happens s e) m.from m.said (stay_step s e may) (ghosts_same s g) a.turns (a.sent_hold m at);
  }

  pub leads : (g h : Ghosts) (roles : ℕ → Role) (sent : List Sent) (p : ℕ) (l m : Leader) (steps : List Step) → roles p ≡ Leads l → m.epoch ≡ l.epoch → m.seat.peer ≡ l.seat.peer → IsLeaderMove g s steps h m → TurnsHold h (after s steps) → RolesHold g s roles sent → RolesHold h (after s steps) (put roles p (Leads m)) sent
  leads g h roles sent p l m steps is same_epoch same_peer move turns a = record {
    turns = turns;
    roles_hold = put_then roles p (Leads m) (RoleHolds h (after s steps)) (record { peer = peer; own = own; table = move.holds }) (λ q n. role_moves g h s steps p m w peer own move q (roles q) n (a.roles_hold q));
    sent_hold = λ x at. said_stays g h s (after s steps) x.from x.said (stay_after s steps move.may) move.ghosts a.turns (a.sent_hold x at);
  }
    where
      old : IsLeaderOf g s p l
      old = subst (RoleHolds g s p) is (a.roles_hold p)

      peer : m.seat.peer ≡ p
      peer = same_peer ∙ old.peer

      own : proposer_of m.epoch ≡ p
      own = ap proposer_of same_epoch ∙ old.own

  pub leaves : (g : Ghosts) (roles : ℕ → Role) (sent : List Sent) (p : ℕ) (l : Leader) (is : List ℕ) → roles p ≡ Leads l → AreDistinct is → ((i : ℕ) → i ∈ is → (k : List ℕ) × (i ∈ calls_of (l.rows k))) → RolesHold g s roles sent → RolesHold g s (put roles p (Follows (l.seat.owed ++ timeouts is))) sent
  leaves g roles sent p l is role distinct among a = let old : IsLeaderOf g s p l = subst (RoleHolds g s p) role (a.roles_hold p) in
      record { turns = a.turns; roles_hold = put_then roles p (Follows (l.seat.owed ++ timeouts is)) (RoleHolds g s) (subst (λ b. OwesHold g s b (l.seat.owed ++ timeouts is)) old.peer (leader_leaves g s l is old.table distinct among)) (λ q n. a.roles_hold q); sent_hold = a.sent_hold }

  -- the oldest answer is given
  pub gives : (g : Ghosts) (roles : ℕ → Role) (sent : List Sent) (p : ℕ) (x : Owed) (o : List Owed) → owed_by (roles p) ≡ x ∷ o → RolesHold g s roles sent → MayCome s (Answer x.call x.reply) × RolesHold g (happens s (Answer x.call x.reply)) (put roles p (with_owed (roles p) o)) sent
  gives g roles sent p x o owed a = (
    mine.0,
    record {
      turns = turns_after g s (step ∷ []) (mine.0, tt) w a.turns;
      roles_hold = put_then roles p (with_owed (roles p) o) (RoleHolds g (happens s step)) mine.1 (λ q n. others q (roles q) n (a.roles_hold q));
      sent_hold = λ m at. said_stays g g s (happens s step) m.from m.said (stay_step s step mine.0) (ghosts_same s g) a.turns (a.sent_hold m at);
    },
  )
    where
      step : Step
      step = Answer x.call x.reply

      role_gives : (role : Role) → owed_by role ≡ x ∷ o → RoleHolds g s p role → MayCome s step × RoleHolds g (happens s step) p (with_owed role o)
      role_gives (Follows b) e h = owes_give g s p x o w (subst (OwesHold g s p) e h)
      role_gives (Starts d b) e h = let give = owes_give g s p x o w (subst (OwesHold g s p) e h.owes) in (give.0, record { own = h.own; owes = give.1; unled = unled_after g s d (suc d) p (step ∷ []) (home, tt) (other_than d) h.unled })
        where
          home : g.home x.call ≡ p
          home = (subst (OwesHold g s p) e h.owes).0.home
      role_gives (Leads l) e h = let move = leader_gives g s l x o w (subst (λ b. LeaderHolds g s (seated l b)) e h.table) in (move.may.0, record { peer = h.peer; own = h.own; table = move.holds })

      mine : MayCome s step × RoleHolds g (happens s step) p (with_owed (roles p) o)
      mine = role_gives (roles p) owed (a.roles_hold p)

      first_home : (role : Role) → owed_by role ≡ x ∷ o → RoleHolds g s p role → g.home x.call ≡ p
      first_home (Follows b) e h = (subst (OwesHold g s p) e h).0.home
      first_home (Starts d b) e h = (subst (OwesHold g s p) e h.owes).0.home
      first_home (Leads l) e h = (subst (OwesHold g s l.seat.peer) e h.table.owes).0.home ∙ h.peer

      home : g.home x.call ≡ p
      home = first_home (roles p) owed (a.roles_hold p)

      others : (q : ℕ) (role : Role) → (p ≡ q → ⊥) → RoleHolds g s q role → RoleHolds g (happens s step) q role
      others q (Follows b) n h = owes_steps g s (step ∷ []) 0 p q b w (mine.0, tt) (home, tt) n h
      others q (Starts d b) n h = record { own = h.own; owes = owes_steps g s (step ∷ []) 0 p q b w (mine.0, tt) (home, tt) n h.owes; unled = unled_after g s d (suc d) p (step ∷ []) (home, tt) (other_than d) h.unled }
      others q (Leads m) n h = record { peer = h.peer; own = h.own; table = others_step g g s step m mine.0 w (ghosts_same s g) h.table.rounds (λ same. n (sym home ∙ same ∙ h.peer)) h.table }

  pub elects : (g : Ghosts) (roles : ℕ → Role) (sent : List Sent) (p d : ℕ) (b : Place) (o : List Owed) → proposer_of d ≡ p → MayCome s (Elect d b) → roles p ≡ Follows o → RolesHold g s roles sent → RolesHold g (happens s (Elect d b)) (put roles p (Starts d o)) sent
  elects g roles sent p d b o own may is a = record {
    turns = next.turns;
    roles_hold = put_then roles p (Starts d o) (RoleHolds g (happens s (Elect d b))) (record { own = own; owes = subst (RoleHolds g (happens s (Elect d b)) p) is (next.roles_hold p); unled = unled_step g s d (suc d) 0 (Elect d b) tt (other_than d) (unled_at_first g s d w a.turns may.0.fresh) }) (λ q n. next.roles_hold q);
    sent_hold = next.sent_hold;
  }
    where
      next : RolesHold g (happens s (Elect d b)) roles sent
      next = silent g roles sent (Elect d b) may tt a

  pub begins : (g : Ghosts) (roles : ℕ → Role) (sent : List Sent) (p d : ℕ) (o : List Owed) → 0 < d → s.objects.ledger.elected d ≡ true → is_established s.objects.ledger d ≡ true → roles p ≡ Starts d o → RolesHold g s roles sent → RolesHold g s (put roles p (Leads (new_leader d (record { peer = p; owed = o })))) sent
  begins g roles sent p d o led elected established is a = record {
    turns = a.turns;
    roles_hold = put_then roles p (Leads (new_leader d (record { peer = p; owed = o }))) (RoleHolds g s) (record { peer = refl; own = old.own; table = leader_begins g s d (record { peer = p; owed = o }) old.owes led elected established old.unled }) (λ q n. a.roles_hold q);
    sent_hold = a.sent_hold;
  }
    where
      old : IsStartOf g s p d o
      old = subst (RoleHolds g s p) is (a.roles_hold p)

  pub gives_up : (g : Ghosts) (roles : ℕ → Role) (sent : List Sent) (p d : ℕ) (o : List Owed) → roles p ≡ Starts d o → RolesHold g s roles sent → RolesHold g s (put roles p (Follows o)) sent
  gives_up g roles sent p d o is a = let old : IsStartOf g s p d o = subst (RoleHolds g s p) is (a.roles_hold p) in record { turns = a.turns; roles_hold = put_then roles p (Follows o) (RoleHolds g s) old.owes (λ q n. a.roles_hold q); sent_hold = a.sent_hold }

  pub stops : (g : Ghosts) (roles : ℕ → Role) (sent : List Sent) (p : ℕ) → RolesHold g s roles sent → RolesHold g s (put roles p (Follows [])) sent
  stops g roles sent p a = record { turns = a.turns; roles_hold = put_then roles p (Follows []) (RoleHolds g s) tt (λ q n. a.roles_hold q); sent_hold = a.sent_hold }

  pub sends : (g : Ghosts) (roles : ℕ → Role) (sent : List Sent) (m : Sent) → SaidHolds g s m.from m.said → RolesHold g s roles sent → RolesHold g s roles (m ∷ sent)
  sends g roles sent m says a = record { turns = a.turns; roles_hold = a.roles_hold; sent_hold = λ x at. by_place x at }
    where
      by_place : (x : Sent) → (x ≡ m) ⊎ (x ∈ sent) → SaidHolds g s x.from x.said
      by_place x (inl e) = subst (λ (y : Sent). SaidHolds g s y.from y.said) (sym e) says
      by_place x (inr at) = a.sent_hold x at

  -- a call comes to a peer, and is to be refused
  pub refuses : EntriesAreSafe s → (g : Ghosts) (roles : ℕ → Role) (sent : List Sent) (p : ℕ) (c : Call) (r : Reply) → IsRefused r → MayCall s.book c → RolesHold g s roles sent → RolesHold (with_home g c.id p) (happens s (Ask c)) (put roles p (with_owed (roles p) (owed_by (roles p) ++ record { call = c.id; reply = r } ∷ []))) sent
  refuses entries g roles sent p c r refused may a = record {
    turns = turns_after g s (Ask c ∷ []) ((tt, may), tt) w a.turns;
    roles_hold = put_then roles p (with_owed (roles p) (owed_by (roles p) ++ record { call = c.id; reply = r } ∷ [])) (RoleHolds h t) (mine (roles p) (a.roles_hold p)) (λ q n. others q (roles q) (a.roles_hold q));
    sent_hold = λ x at. said_stays g h s t x.from x.said (stay_step s (Ask c) (tt, may)) (home_grows s g c.id p may.fresh) a.turns (a.sent_hold x at);
  }
    where
      h : Ghosts
      h = with_home g c.id p

      t : State
      t = happens s (Ask c)

      owes : (q : ℕ) (o : List Owed) → OwesHold g s q o → OwesHold h t q o
      owes q o b = owes_stay g h s t q o (stay_step s (Ask c) (tt, may)) (home_grows s g c.id p may.fresh) (λ i m. call_spared_step s (Ask c) i tt) b

      others : (q : ℕ) (role : Role) → RoleHolds g s q role → RoleHolds h t q role
      others q (Follows o) b = owes q o b
      others q (Starts d o) b = record { own = b.own; owes = owes q o b.owes; unled = record { none = b.unled.none; fresh = b.unled.fresh } }
      others q (Leads m) b = record { peer = b.peer; own = b.own; table = asks g s m c p b.table w may }

      more : (o : List Owed) → OwesHold g s p o → OwesHold h t p (o ++ record { call = c.id; reply = r } ∷ [])
      more o b = owes_more h t (record { peer = p; owed = o }) c.id r (λ m. not_both (owed_called g s p o c.id b m) may.fresh) (refused_call g s c r p refused entries may) (owes p o b)

      mine : (role : Role) → RoleHolds g s p role → RoleHolds h t p (with_owed role (owed_by role ++ record { call = c.id; reply = r } ∷ []))
      mine (Follows o) b = more o b
      mine (Starts d o) b = record { own = b.own; owes = more o b.owes; unled = record { none = b.unled.none; fresh = b.unled.fresh } }
      mine (Leads m) b = record { peer = b.peer; own = b.own; table = leader_owes h t m c.id r (asks g s m c p b.table w may) (new_dropped g s m c.id b.table may.fresh) (λ n. not_both (owed_called g s m.seat.peer m.seat.owed c.id b.table.owes n) may.fresh) (subst (λ x. OwedHolds h t x c.id r) (sym b.peer) (refused_call g s c r p refused entries may)) }

peer_moves : (s : State) → Whole s.objects → EntriesAreSafe s → (g : Ghosts) (roles : ℕ → Role) (sent : List Sent) (p : ℕ) → RolesHold g s roles sent → RoleMoves s g roles sent p
peer_moves s w entries g roles sent p a = record {
  leads = λ h l m steps role same_epoch same_peer move turns. leads s w g h roles sent p l m steps role same_epoch same_peer move turns a;
  leaves = λ l is role distinct among. leaves s w g roles sent p l is role distinct among a;
  refuses = λ c r refused may. refuses s w entries g roles sent p c r refused may a;
  gives = λ x o owes. gives s w g roles sent p x o owes a;
  elects = λ d b o own may role. elects s w g roles sent p d b o own may role a;
  begins = λ d o led elected established role. begins s w g roles sent p d o led elected established role a;
  gives_up = λ d o role. gives_up s w g roles sent p d o role a;
  stops = stops s w g roles sent p a;
}

pub run_roles : (view : List ℕ) (steps : List Step) → IsRun view steps → RolesMove (state_after view steps)
run_roles view steps run = let s = state_after view steps in let w = run_whole view steps run in record {
  peer = λ g roles sent p a. peer_moves s w (run_entries view steps run) g roles sent p a;
  silent = silent s w;
  sends = sends s w;
}
