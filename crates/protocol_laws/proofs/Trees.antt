-- What the trees of peers show through each step, and what versions preserve.
use Rattle.std.proofs.Common.{◌≡◌, ℕ, ◌<◌, ◌≤◌, Bool, true, false, ◌⊎◌, List, [], ◌∷◌, eqb, eqb-true, arith, ap, refl, inl, inr, sym, ◌∙◌, subst, le_trans}
use Rattle.std.proofs.lemmas.Bool.Decides.{nat_tests}
use Rattle.std.proofs.lemmas.Bool.{cases_order}
use Rattle.ens_base.specs.Lists.{same_bytes}
use Rattle.quorums.proofs.Majorities.{outside_of_quorum}
use Rattle.protocol_laws.proofs.Epochs.{not_both}
use Rattle.protocol_laws.proofs.Rising.{put_rises}
use Rattle.protocol_laws.proofs.Maps.{entry_then, epoch_mono, put_other}
use Rattle.protocol_laws.proofs.Basics.{Basics}
use Rattle.protocol_laws.proofs.Dead.{settled_alive}
use Rattle.protocol_laws.proofs.Keeping.{found_from, write_rises}
use Rattle.protocol_laws.proofs.Descent.{Whole, run_whole}
use Rattle.protocol_laws.specs.Ledger.{put}
use Rattle.protocol_laws.specs.Objects.{Map, Objects, epoch_of, set_entry, write, install, propose, IsGenuine, IsHonest, MayWrite, MayPropose}
use Rattle.protocol_laws.specs.Versions.{may_acknowledge, Descends, itself, further, Link, Successor, Genuine, Sight, FloorsAreLow, ShowsFloors, VersionsAreSafe}
use Rattle.protocol_laws.specs.Protocol.{Step, Begin, Ask, Raise, Elect, Accept, Commit, Adopt, Write, Acknowledge, Install, EndSync, Propose, Settle, Note, Answer, Lose, Revert, objects_after, MayDo, IsRun, state_after}

-- ## Genuine maps

pub genuine_higher : (o : Objects) (d e : ℕ) (k : List ℕ) (v : ℕ) → d ≤ e → IsGenuine o d k v → IsGenuine o e k v
genuine_higher o d e k v l (inl z) = inl z
genuine_higher o d e k v l (inr g) = inr (g.0, g.1, le_trans g.2 l)

-- a peer's new map is genuine, and the others are unchanged
put_map : (o : Objects) (f : ℕ → Map) (p : ℕ) (m : Map) → ((k : List ℕ) → IsGenuine o (o.ledger.ballot p) k (m k)) → ((q : ℕ) (k : List ℕ) → IsGenuine o (o.ledger.ballot q) k (f q k)) → (q : ℕ) (k : List ℕ) → IsGenuine o (o.ledger.ballot q) k (put f p m q k)
put_map o f p m here old q k = by_peer (eqb p q) refl
  where
    by_peer : (b : Bool) → eqb p q ≡ b → IsGenuine o (o.ledger.ballot q) k (put f p m q k)
    by_peer true t = rw t (subst (λ x. IsGenuine o (o.ledger.ballot x) k (m k)) (eqb-true p q t) (here k))
    by_peer false t = rw t (old q k)

entry_genuine : (o : Objects) (p v : ℕ) → MayWrite o p v → (m : Map) → ((k : List ℕ) → IsGenuine o (o.ledger.ballot p) k (m k)) → (k : List ℕ) → IsGenuine o (o.ledger.ballot p) k (set_entry m (o.key v) v k)
entry_genuine o p v may m old = entry_then m (o.key v) v (λ j x. IsGenuine o (o.ledger.ballot p) j x) (inr (may.proposed, refl, may.low)) old

propose_genuine : (o : Objects) (x : ℕ) (k : List ℕ) (u : ℕ) → MayPropose o x k u → (d : ℕ) (j : List ℕ) (v : ℕ) → IsGenuine o d j v → IsGenuine (propose o x k u) d j v
propose_genuine o x k u may d j v (inl z) = inl z
propose_genuine o x k u may d j v (inr g) = inr (put_other o.proposed x true v other ∙ g.0, put_other o.key x k v other ∙ g.1, g.2)
  where
    other : x ≡ v → ⊥
    other e = not_both g.0 (rw (← e) may.fresh)

at_ballot : (o : Objects) (p d : ℕ) (m : Map) → o.ledger.ballot p ≡ d → ((k : List ℕ) → IsGenuine o d k (m k)) → (k : List ℕ) → IsGenuine o (o.ledger.ballot p) k (m k)
at_ballot o p d m e f k = rw e (f k)

genuine_step : (o : Objects) (e : Step) → MayDo o e → Genuine o → Genuine (objects_after o e)
genuine_step o (Raise p d) may old = record {
  written = λ q k. genuine_higher o (o.ledger.ballot q) (put o.ledger.ballot p d q) k (o.map q k) (put_rises o.ledger.ballot p d may q) (old.written q k);
  shown = λ q k. genuine_higher o (o.ledger.ballot q) (put o.ledger.ballot p d q) k (o.visible q k) (put_rises o.ledger.ballot p d may q) (old.shown q k);
}
genuine_step o (Write p v) may old = record {
  written = put_map o o.map p (set_entry (o.map p) (o.key v) v) (entry_genuine o p v may (o.map p) (old.written p)) old.written;
  shown = put_map o o.visible p (set_entry (o.visible p) (o.key v) v) (entry_genuine o p v may (o.visible p) (old.shown p)) old.shown;
}
genuine_step o (Install p d m) may old = record { written = put_map o o.map p m (at_ballot o p d m may.stands may.genuine) old.written; shown = put_map o o.visible p m (at_ballot o p d m may.stands may.genuine) old.shown }
genuine_step o (Revert p m) may old = record { written = old.written; shown = put_map o o.visible p m may.genuine old.shown }
genuine_step o (Propose x k u y z c) may old = record { written = λ q j. propose_genuine o x k u may (o.ledger.ballot q) j (o.map q j) (old.written q j); shown = λ q j. propose_genuine o x k u may (o.ledger.ballot q) j (o.visible q j) (old.shown q j) }
genuine_step o Begin may old = old
genuine_step o (Ask c) may old = old
genuine_step o (Elect d b) may old = record { written = old.written; shown = old.shown }
genuine_step o (Accept p d) may old = record { written = old.written; shown = old.shown }
genuine_step o (Commit d c) may old = record { written = old.written; shown = old.shown }
genuine_step o (Adopt p d) may old = record { written = old.written; shown = old.shown }
genuine_step o (Acknowledge p v) may old = record { written = old.written; shown = old.shown }
genuine_step o (EndSync p d) may old = record { written = old.written; shown = old.shown }
genuine_step o (Settle v) may old = record { written = old.written; shown = old.shown }
genuine_step o (Note i k u d) may old = old
genuine_step o (Answer i r) may old = old
genuine_step o (Lose p) may old = record { written = old.written; shown = old.shown }

-- ## Sight

write_honest : (o : Objects) (p v : ℕ) → IsHonest o p → (q : ℕ) → IsHonest o q → IsHonest (write o p v) q
write_honest o p v here q old k = by_peer (eqb p q) refl
  where
    by_key : (b : Bool) → same_bytes (o.key v) k ≡ b → set_entry (o.visible p) (o.key v) v k ≡ set_entry (o.map p) (o.key v) v k
    by_key true t = rw t refl
    by_key false t = rw t (here k)

    by_peer : (b : Bool) → eqb p q ≡ b → (write o p v).visible q k ≡ (write o p v).map q k
    by_peer true t = rw t (by_key (same_bytes (o.key v) k) refl)
    by_peer false t = rw t (old k)

install_honest : (o : Objects) (p d : ℕ) (m : Map) (q : ℕ) → IsHonest o q → IsHonest (install o p d m) q
install_honest o p d m q old k = by_peer (eqb p q) refl
  where
    by_peer : (b : Bool) → eqb p q ≡ b → (install o p d m).visible q k ≡ (install o p d m).map q k
    by_peer true t = rw t refl
    by_peer false t = rw t (old k)

sync_honest : (o : Objects) (p d : ℕ) → IsHonest o p → ((q : ℕ) → o.trusted q ≡ true → IsHonest o q) → (q : ℕ) → put o.trusted p true q ≡ true → IsHonest (objects_after o (EndSync p d)) q
sync_honest o p d here old q h = by_peer (eqb p q) refl h
  where
    by_peer : (b : Bool) → eqb p q ≡ b → put o.trusted p true q ≡ true → IsHonest o q
    by_peer true t h = subst (IsHonest o) (eqb-true p q t) here
    by_peer false t h = old q (rw t at h)

still_trusted : (f : ℕ → Bool) (p q : ℕ) → put f p false q ≡ true → f q ≡ true
still_trusted f p q h = grind (arith, nat_tests)

revert_honest : (o : Objects) (p : ℕ) (m : Map) (q : ℕ) → (p ≡ q → ⊥) → IsHonest o q → IsHonest (objects_after o (Revert p m)) q
revert_honest o p m q n old k = put_at ∙ old k
  where
    put_at : put o.visible p m q k ≡ o.visible q k
    put_at = ap (λ (f : Map). f k) (put_other o.visible p m q n)

sight_step : (o : Objects) (e : Step) → MayDo o e → Sight o → Sight (objects_after o e)
sight_step o (Write p v) may old = record { trusted = λ q h. write_honest o p v may.honest q (old.trusted q h); kept = λ q h. write_honest o p v may.honest q (old.kept q h) }
sight_step o (Install p d m) may old = record { trusted = λ q h. install_honest o p d m q (old.trusted q h); kept = λ q h. install_honest o p d m q (old.kept q h) }
sight_step o (EndSync p d) may old = record { trusted = sync_honest o p d may.1.honest old.trusted; kept = old.kept }
sight_step o (Lose p) may old = record { trusted = λ q h. old.trusted q (still_trusted o.trusted p q h); kept = old.kept }
sight_step o (Revert p m) may old = record {
  trusted = λ q h. revert_honest o p m q (λ e. not_both h (rw (← e) may.blind)) (old.trusted q h);
  kept = λ q h. revert_honest o p m q (differ q h) (old.kept q (before q h));
}
  where
    differ : (q : ℕ) → put o.reverted p true q ≡ false → p ≡ q → ⊥
    differ q h e = grind (arith, nat_tests)

    before : (q : ℕ) → put o.reverted p true q ≡ false → o.reverted q ≡ false
    before q h = grind (arith, nat_tests)
sight_step o Begin may old = old
sight_step o (Ask c) may old = old
sight_step o (Raise p d) may old = record { trusted = old.trusted; kept = old.kept }
sight_step o (Elect d b) may old = record { trusted = old.trusted; kept = old.kept }
sight_step o (Accept p d) may old = record { trusted = old.trusted; kept = old.kept }
sight_step o (Commit d c) may old = record { trusted = old.trusted; kept = old.kept }
sight_step o (Adopt p d) may old = record { trusted = old.trusted; kept = old.kept }
sight_step o (Acknowledge p v) may old = record { trusted = old.trusted; kept = old.kept }
sight_step o (Propose x k u y z c) may old = record { trusted = old.trusted; kept = old.kept }
sight_step o (Settle v) may old = record { trusted = old.trusted; kept = old.kept }
sight_step o (Note i k u d) may old = old
sight_step o (Answer i r) may old = old

-- ## Floors

raise_low : (o : Objects) (p d : ℕ) → o.ledger.ballot p ≤ d → FloorsAreLow o → FloorsAreLow (objects_after o (Raise p d))
raise_low o p d may old = grind (arith, nat_tests)

write_low : (o : Objects) (p x : ℕ) → MayWrite o p x → FloorsAreLow o → FloorsAreLow (objects_after o (Write p x))
write_low o p x may old q k = le_trans (old q k) (write_rises o p x may q k)

install_low : (o : Objects) (p d : ℕ) (m : Map) → o.ledger.ballot p ≡ d → FloorsAreLow o → FloorsAreLow (objects_after o (Install p d m))
install_low o p d m may old = grind (arith, nat_tests)

low_step : (o : Objects) (e : Step) → MayDo o e → FloorsAreLow o → FloorsAreLow (objects_after o e)
low_step o (Raise p d) may old = raise_low o p d may old
low_step o (Write p x) may old = write_low o p x may old
low_step o (Install p d m) may old = install_low o p d m may.stands old
low_step o Begin may old = old
low_step o (Ask c) may old = old
low_step o (Elect d b) may old = old
low_step o (Accept p d) may old = old
low_step o (Commit d c) may old = old
low_step o (Adopt p d) may old = old
low_step o (Acknowledge p v) may old = old
low_step o (EndSync p d) may old = old
low_step o (Propose x k u y z c) may old = old
low_step o (Settle v) may old = old
low_step o (Note i k u d) may old = old
low_step o (Answer i r) may old = old
low_step o (Lose p) may old = old
low_step o (Revert p m) may old = old

-- ## In each run

pub record Trees (o : Objects) : Type 0 where
  pub genuine : Genuine o
  pub sight : Sight o
  pub floors : FloorsAreLow o

run_trees : (view : List ℕ) (steps : List Step) → IsRun view steps → Trees (state_after view steps).objects
run_trees view [] run = record { genuine = record { written = λ q k. inl refl; shown = λ q k. inl refl }; sight = record { trusted = λ q h k. refl; kept = λ q h k. refl }; floors = λ q k. omega arith }
run_trees view (e ∷ steps) run =
    let old = run_trees view steps run.0 in
    let o = (state_after view steps).objects in
    record { genuine = genuine_step o e run.1.0 old.genuine; sight = sight_step o e run.1.0 old.sight; floors = low_step o e run.1.0 old.floors }

-- ## The preceding version is the parent

descends_parent : (o : Objects) (v x : ℕ) → Descends o.parent v x → x < v → Descends o.parent (o.parent v) x
descends_parent o v x (itself y) l = absurd (omega arith)
descends_parent o v x (further y z r) l = r

pub ancestor_low : (o : Objects) → Basics o → (v x : ℕ) → (v ≡ 0) ⊎ (o.proposed v ≡ true) → Descends o.parent v x → x ≤ v
ancestor_low o basics v x g (itself y) = omega arith
ancestor_low o basics v x (inl z) (further y u r) = let p : o.parent y ≡ 0 = rw z basics.no_parent in let l : u ≤ o.parent y = ancestor_low o basics (o.parent y) u (inl p) r in omega arith
ancestor_low o basics v x (inr g) (further y u r) = let l : u ≤ o.parent y = ancestor_low o basics (o.parent y) u (basics.parents y g) r in omega (arith, basics.lower y g)

successor : (o : Objects) → Whole o → Successor o
successor o w v x pv h = by_order (cases_order x (o.parent v))
  where
    link : Link o v x
    link = w.chain v x pv h.proposed h.key h.epoch h.below

    low : x ≤ o.parent v
    low = ancestor_low o w.basics (o.parent v) x (w.basics.parents v pv) (descends_parent o v x link.descends h.below)

    between : x < o.parent v → (o.parent v ≡ 0) ⊎ (o.proposed (o.parent v) ≡ true) → o.parent v ≡ x
    between l (inl z) = absurd (omega arith)
    between l (inr p) = absurd (h.none_between (o.parent v) p (w.basics.same_key v pv p) (same_epoch (epoch_mono x (o.parent v) low) (epoch_mono (o.parent v) v (less (w.basics.lower v pv))) h.epoch) l (w.basics.lower v pv))
      where
        less : o.parent v < v → o.parent v ≤ v
        less l = omega arith

        same_epoch : epoch_of x ≤ epoch_of (o.parent v) → epoch_of (o.parent v) ≤ epoch_of v → epoch_of x ≡ epoch_of v → epoch_of (o.parent v) ≡ epoch_of v
        same_epoch a b e = omega arith

    by_order : (x ≡ o.parent v) ⊎ ((x < o.parent v) ⊎ (o.parent v < x)) → o.parent v ≡ x
    by_order (inl e) = sym e
    by_order (inr (inl l)) = between l (w.basics.parents v pv)
    by_order (inr (inr l)) = absurd (omega (arith, low))

shows : (o : Objects) → Sight o → FloorsAreLow o → ShowsFloors o
shows o sight low q k (inl t) = rw (sight.trusted q t k) (low q k)
shows o sight low q k (inr n) = rw (sight.kept q n k) (low q k)

pub run_versions : (view : List ℕ) (steps : List Step) → IsRun view steps → VersionsAreSafe (state_after view steps).objects
run_versions view steps run =
    let w = run_whole view steps run in
    let t = run_trees view steps run in
    let o = (state_after view steps).objects in
    record {
      kept = w.kept;
      found = found_from o w.sound w.basics w.since;
      lineage = λ v p. record { smaller = w.basics.lower v p; parent = w.basics.parents v p; same_key = w.basics.same_key v p };
      chain = w.chain;
      successor = successor o w;
      descent = w.descent;
      genuine = t.genuine;
      sight = t.sight;
      floors = t.floors;
      dead = λ v dead quorum q. outside_of_quorum quorum (may_acknowledge o v) (o.ledger.views (epoch_of v)) q dead;
      epochs = λ v p. record { led = w.basics.led v p; elected = w.basics.elected v p; established = w.basics.established v p };
      acknowledged = λ v q a. record { proposed = w.basics.acked_proposed v q a; accepted = w.basics.acked_accepted v q a };
      shows = shows o t.sight t.floors;
      settled = λ v h. record { proposed = w.settled.proposed v h; quorum = w.settled.quorum v h; acked = λ q a. w.settled.acked v q h a; alive = settled_alive o v w.settled h };
    }
