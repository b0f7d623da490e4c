-- A step of a peer in a world, and a calm.
use Rattle.std.proofs.Common.{◌≡◌, refl, ap, sym, ◌∙◌, subst, arith, ℕ, zero, suc, nat_lt, Bool, true, false, if◌then◌else◌, List, [], ◌++◌, map, Option, None, Some}
use Rattle.std.specs.Prelude.{slice_get, slice_set}
use Rattle.std.proofs.lemmas.Bool.Decides.{nat_tests}
use Rattle.ens_base.proofs.Lists.{in_left}
use Rattle.calm_step_laws.specs.WorldSpec.{Held, HeldStores, held_with, Ended, step_of}
use Rattle.ens_base.specs.declared.entry.Entry.{Entry}
use Rattle.calm_step_laws.specs.PeerRefinement.{AreAmong, IsWhole}
use Rattle.network.specs.Mail.{oldest, is_among}
use Rattle.peer_state.specs.declared.event.Event.{Event}
use Rattle.peer_state.specs.declared.event.Event.TheVariants as events
use Rattle.peer_state.specs.declared.state.State.{State}
use Rattle.register_model.specs.declared.note.Note.{Note}
use Rattle.step_plans.specs.Plans.{Out, Ending, Finished, Stopped}
use Rattle.wire_frames.specs.declared.frame.Frame.{Frame}
use Rattle.world_refinement.specs.WorldSpec.{Node, Up, taken, taken_by, run_over, Run, next_event, place_of, frame_from, posted_all, printed_by, with_taken, stepped, stepped_at, ticked, without_waiting, received, received_if, delivered, going_on, calmed}
use Rattle.world_refinement.proofs.HashedBefore.{run_behind}
use Rattle.calm_step_laws.proofs.Lands.{Aim, Lands, EndsWell}

-- the world after a step that ended well, with these stores and strings after it
abbrev pub moved : ℕ → State → Held → Out → List Note → Run → Run
moved q x h out ns w = record w {
  nodes = slice_set w.nodes (place_of q) (Up x h.stores);
  mail = posted_all (map (frame_from q) out.sends) w.mail;
  printed = w.printed ++ printed_by (next_event w.events) q out;
  notes = w.notes ++ ns;
  hashed = h.hashed;
}

-- each message that waits is given to its receiver, as trees got version two after none of them
abbrev pub AllAlive : Run → Type 0
AllAlive w = w.first_alive ≡ 0

pub stepped_alive : (q : ℕ) (event : Event) (w : Run) → (stepped q event w).first_alive ≡ w.first_alive
stepped_alive q event w = by (slice_get w.nodes (place_of q)) where
  by : (o : Option Node) → (stepped_at o q event w).first_alive ≡ w.first_alive
  by None = refl
  by (Some node) = refl

pub ticked_alive : (q k : ℕ) (w : Run) → (ticked q k w).first_alive ≡ w.first_alive
unfolding ticked
ticked_alive q zero w = refl
ticked_alive q (suc k) w = ticked_alive q k (stepped q events.Tick w) ∙ stepped_alive q events.Tick w

module _ (q : ℕ) (event : Event) (strings : List (List ℕ)) (P : Aim) (J : Run → Type 0) where
  by_end : (w : Run) (k : Ending State) (h : Held) (ns : List Note) → ((x : State) (g : Held) (out : Out) (ms : List Note) → AreAmong w.hashed g.hashed → P x g out ms → J (moved q x g out ms w))
      → EndsWell P k (record h { hashed = w.hashed ++ h.hashed }) ns → J (with_taken q (taken_by k h ns) w)
  by_end w (Finished x out) h ns keeps ends = keeps x (record h { hashed = w.hashed ++ h.hashed }) out ns (λ s there. in_left w.hashed h.hashed s there) ends
  by_end w (Stopped e) h ns keeps ends = absurd ends

  taken_hashed : (k : Ending State) (h : Held) (ns : List Note) → (taken_by k h ns).hashed ≡ h.hashed
  taken_hashed (Finished x out) h ns = refl
  taken_hashed (Stopped e) h ns = refl

  at_node : (w : Run) (x : State) (s : HeldStores) (there : Option Node) → there ≡ Some (Up x s) → J (with_taken q (taken q event (Up x s)) w) → J (stepped_at there q event w)
  at_node w x s there is holds = subst (λ o. J (stepped_at o q event w)) (sym is) holds

  -- a step that lands where P holds leads to a world where J holds; the strings are all that the schedule hashes
  pub step_grows : (w : Run) (x : State) (s : HeldStores) → slice_get w.nodes (place_of q) ≡ Some (Up x s) → Lands strings P (step_of q event x) (held_with s w.hashed) [] → AreAmong (stepped q event w).hashed strings
      → ((y : State) (g : Held) (out : Out) (ms : List Note) → AreAmong w.hashed g.hashed → P y g out ms → J (moved q y g out ms w)) → J (stepped q event w)
  step_grows w x s at lands among keeps =
      let e : Ended State = run_over (step_of q event x) s in
      at_node w x s (slice_get w.nodes (place_of q)) at
      (by_end w e.ending e.held e.notes keeps (subst (λ (f : Ended State). EndsWell P f.ending f.held f.notes) (run_behind (step_of q event x) s w.hashed)
      (lands (subst (λ (hs : List (List ℕ)). AreAmong hs strings)
      (ap (λ (o : Option Node). (stepped_at o q event w).hashed) at ∙ (ap (λ (hs : List (List ℕ)). w.hashed ++ hs) (taken_hashed e.ending e.held e.notes) ∙ sym (ap (λ (f : Ended State). f.held.hashed) (run_behind (step_of q event x) s w.hashed)))) among))))

module _ (J : Run → Type 0) (peers : List Bool) (keeps : (w : Run) (n : ℕ) (f : Frame) → J w → oldest (is_among peers) w.mail ≡ Some n → slice_get w.mail.sent n ≡ Some f → J (received f n w)) where
  abbrev Keeps : Run → Type 0
  Keeps w = AllAlive w × J w

  one : (w : Run) (n : ℕ) (f : Option Frame) → slice_get w.mail.sent n ≡ f → Keeps w → oldest (is_among peers) w.mail ≡ Some n → Keeps (received_if f n w)
  one w n None is holds old = holds
  one w n (Some f) is (alive, holds) old = by (nat_lt n w.first_alive) refl
    where
      none_before : (first : ℕ) → first ≡ 0 → nat_lt n first ≡ true → ⊥
      none_before first none before = grind (arith, nat_tests)

      by : (b : Bool) → nat_lt n w.first_alive ≡ b → Keeps (if b then without_waiting n w else received f n w)
      by false after = (stepped_alive f.to (events.Deliver f.from f.message) (without_waiting n w) ∙ alive, keeps w n f holds old is)
      by true before = absurd (none_before w.first_alive alive before)

  -- what each delivery keeps, a calm keeps
  pub calm_keeps : (k : ℕ) (w : Run) → Keeps w → Keeps (calmed peers k w)
  unfolding calmed
  calm_keeps zero w holds = holds
  calm_keeps (suc k) w holds = by (oldest (is_among peers) w.mail) refl (λ v now. calm_keeps k v now) where
    by : (first : Option ℕ) → oldest (is_among peers) w.mail ≡ first → ((v : Run) → Keeps v → Keeps (calmed peers k v)) → Keeps (going_on first (λ v. calmed peers k v) w)
    by None is later = holds
    by (Some n) is later = later (delivered n w) (one w n (slice_get w.mail.sent n) refl holds is)

-- a calm alone
pub calmed_alive : (peers : List Bool) (k : ℕ) (w : Run) → AllAlive w → AllAlive (calmed peers k w)
calmed_alive peers k w alive = (calm_keeps (λ v. Unit {0}) peers (λ v n f holds old is. tt) k w (alive, tt)).0

-- a whole tree stays whole while other peers hash strings
pub whole_grows : (s : HeldStores) (hashed more : List (List ℕ)) (m : List Entry) → AreAmong hashed more → IsWhole (held_with s hashed) m → IsWhole (held_with s more) m
whole_grows s hashed more m among w = record {
  shows = record { digest = w.shows.digest; top = w.shows.top; stands = w.shows.stands; texts = λ node is. among node (w.shows.texts node is) };
  stored = w.stored;
  no_faults = w.no_faults;
}
