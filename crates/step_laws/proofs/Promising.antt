-- A step on a Prepare, a Check or a Beat: it saves the fact at most.
use Rattle.std.proofs.Common.{◌≡◌, ◌≤◌, ◌+◌, ◌<◌, ◌&&◌, ℕ, Bool, true, false, List, [], ◌∷◌, ◌++◌, length, inl, inr, refl, sym, ap, ◌∙◌, subst, arith}
use Rattle.std.specs.Prelude.{if◌then◌else◌}
use Rattle.ens_base.specs.Lists.{◌∈◌}
use Rattle.ens_base.specs.View.{IsPeer}
use Rattle.ens_base.specs.declared.epoch.Epoch.{Epoch}
use Rattle.leader.proofs.Cases.{either}
use Rattle.stored_formats.specs.declared.fact.Fact.{Fact}
use Rattle.stored_formats.specs.declared.saved.SavedFact.{SavedFact}
use Rattle.peer_spec.specs.Drives.{MayCome, concluded, delivered, driven, most_turns, responded, row_done, step_of}
use Rattle.peer_spec.specs.Syncs.{and_sends}
use Rattle.peer_spec.proofs.Aging.{steps_young}
use Rattle.peer_spec.proofs.FreeRows.{none_more, one_more, while_26_silent}
use Rattle.peer_spec.proofs.Parts.{driven_none}
use Rattle.peer_spec.proofs.Steady.{steps_steady}
use Rattle.peer_state.specs.Ages.{IsYoung}
use Rattle.peer_state.specs.PhaseRules.{promises_to, row_11, row_19, row_20}
use Rattle.peer_state.specs.NoAllocation.{IsAllocationFree, IsAllocationFreeMessage, IsSteady}
use Rattle.peer_state.specs.declared.event.Event.{Event}
use Rattle.peer_state.specs.declared.event.Event.TheVariants as events
use Rattle.peer_state.specs.declared.state.Mode.{Mode}
use Rattle.peer_state.specs.declared.state.State.{State}
use Rattle.phase_rows.specs.Orders.{is_below, is_same}
use Rattle.phase_rows.specs.Peers.{alone}
use Rattle.phase_rows.specs.Rows.{at_ballot, sends, silent}
use Rattle.phase_rows.specs.declared.phase.PhaseOut.{PhaseOut}
use Rattle.phase_rows.specs.declared.phase.Then.TheVariants as thens
use Rattle.register_model.specs.declared.note.Note.{Note}
use Rattle.peer_stores.specs.Stores.{FactsAlone, HasFailed}
use Rattle.peer_stores.specs.declared.stores.Stores.{Stores}
use Rattle.ens_base.proofs.Causes.{rose_later}
use Rattle.step_laws.specs.Promising.{BlamesTheFact, IsFactError, IsSave}
use Rattle.step_laws.specs.Reached.{Reached}
use Rattle.step_laws.proofs.Bounds.{held_at_end}
use Rattle.step_plans.specs.Calls.{AnswerOf, Call, Save}
use Rattle.step_plans.specs.Plans.{Ask, Done, Ending, Finished, Follows, Out, Plan, Rest, Runs, Say, Stopped, asked, nothing}
use Rattle.step_plans.specs.declared.error.PeerError.{PeerError}
use Rattle.step_plans.specs.declared.error.PeerError.TheVariants.{Memory, StoreFault}
use Rattle.step_plans.specs.declared.tasks.Task.{Task}
use Rattle.wire_frames.specs.declared.message.Message.{Message}
use Rattle.wire_frames.specs.declared.message.Message.TheVariants as messages

-- ## A peer between its steps

-- it has no epoch to end, and its waits are young
reached_steady : (me : ℕ) (mode : Mode) (saved : SavedFact) (trusted : Bool) (events : List Event) (x : State) → IsPeer me → ((e : Event) → e ∈ events → MayCome me e) → Reached me mode saved trusted events x → IsSteady x × IsYoung x.phase
reached_steady me mode saved trusted [] x peer come is = subst (λ (y : State). IsSteady y × IsYoung y.phase) (sym is) (refl, first)
  where
    first : 0 < 6
    first = omega arith
reached_steady me mode saved trusted (event ∷ events) x peer come (y, before, end) =
    let young = (reached_steady me mode saved trusted events y peer (λ e m. come e (inr m)) before).1 in
    (held_at_end (λ z. IsSteady z) (step_of me event y) x (steps_steady me event y peer (come event (inl refl)) young) end, held_at_end (λ z. IsYoung z.phase) (step_of me event y) x (steps_young me event y peer (come event (inl refl)) young) end)

-- ## The row of such a message

module _ (P : State → Out → Type 0) (me : ℕ) (x : State) (steady : IsSteady x) where
  abbrev IsLight : PhaseOut → Type 0
  IsLight row = (out : Out) (next : Rest State (List Task)) → ((y : State) (o : Out) → IsSteady y → length o.sends ≤ length out.sends + 1 → Follows IsSave P (next [] y o)) → Follows IsSave P (row_done me row x out next)

  stay_light : IsLight (silent thens.Stay)
  stay_light out next go = go x _ steady (omega (arith, none_more out.sends))

  follow_light : IsLight (silent thens.Follow)
  follow_light out next go = go _ _ refl (omega (arith, none_more out.sends))

  answer_light : (from : ℕ) (message : Message) → IsPeer from → IsLight (sends (alone from) message thens.Stay)
  answer_light from message peer out next go = go x _ steady (one_more from message out.sends peer)

  promise_light : (from : ℕ) (fact : Fact) → IsPeer from → IsLight (promises_to from fact)
  unfolding asked
  promise_light from fact peer out next go = (tt, λ u. go _ _ refl (one_more from (messages.Promise fact.ballot fact) out.sends peer))

  row_11_light : (from : ℕ) (ballot : Epoch) → IsPeer from → IsLight (row_11 x.fact from ballot)
  row_11_light from ballot peer =
      either IsLight (is_below x.fact.ballot ballot) _ _ (promise_light from (at_ballot x.fact ballot) peer)
      (either IsLight (is_same ballot x.fact.ballot) _ _ stay_light (answer_light from _ peer))

  row_19_light : (from : ℕ) (ballot : Epoch) → IsPeer from → IsLight (row_19 x.fact x.trusted from ballot)
  row_19_light from ballot peer = either IsLight (is_below ballot x.fact.ballot) _ _ (answer_light from _ peer) (by_test (is_same x.fact.epoch ballot && x.trusted))
    where
      by_test : (t : Bool) → IsLight (silent (if t then thens.Follow else thens.Stay))
      by_test true = follow_light
      by_test false = stay_light

  row_20_light : (from : ℕ) (ballot : Epoch) (round : ℕ) → IsPeer from → IsLight (row_20 x.fact from ballot round)
  row_20_light from ballot round peer =
      either IsLight (is_below ballot x.fact.ballot) _ _ (answer_light from _ peer)
      (either IsLight (is_same ballot x.fact.ballot) _ _ (answer_light from _ peer) stay_light)

  delivered_light : (from : ℕ) (message : Message) → IsPeer from → IsAllocationFreeMessage message → (out : Out) (next : Rest State (List Task))
      → ((y : State) (o : Out) → IsSteady y → length o.sends ≤ length out.sends + 1 → Follows IsSave P (next [] y o)) → Follows IsSave P (delivered me from message x out next)
  delivered_light from (messages.Prepare ballot) peer is = row_11_light from ballot peer
  delivered_light from (messages.Beat ballot) peer is = row_19_light from ballot peer
  delivered_light from (messages.Check ballot round) peer is = row_20_light from ballot round peer
  delivered_light from other peer is = absurd is

  responded_light : (event : Event) → MayCome me event → IsAllocationFree event → (out : Out) (next : Rest State (Unit {0}))
      → ((y : State) (o : Out) → IsSteady y → length o.sends ≤ length out.sends + 1 → Follows IsSave P (next tt y o)) → Follows IsSave P (responded me event x out next)
  responded_light (events.Deliver from message) come is out next go =
      delivered_light from message come.0 is out (λ ts y o. driven me most_turns ts y o (λ rest z q. next tt z q))
      (λ y o still few. rw (driven_none me most_turns y o (λ rest z q. next tt z q)) (go y o still few))
  responded_light events.Tick come is out next go = absurd is
  responded_light (events.Call call) come is out next go = absurd is
  responded_light (events.Change view) come is out next go = absurd is

  concluded_light : (out : Out) (next : Rest State (Unit {0})) → Follows IsSave P (next tt x (and_sends out [])) → Follows IsSave P (concluded me x out next)
  concluded_light out next end =
      subst (λ r. Follows IsSave P (row_done me r.1 r.0 out (λ ts y o. driven me most_turns ts y o (λ rest z q. next tt z q)))) (sym (while_26_silent x.phase me x steady))
      (rw (driven_none me most_turns x _ (λ rest z q. next tt z q)) end)

saves_one : (me : ℕ) (event : Event) (x : State) → MayCome me event → IsAllocationFree event → IsSteady x → Follows IsSave (λ y o. length o.sends ≤ 1) (step_of me event x)
saves_one me event x come is steady =
    let P : State → Out → Type 0 = λ y o. length o.sends ≤ 1 in
    responded_light P me x steady event come is nothing (λ u y o. concluded me y o (λ v z q. Done z q))
    (λ y o still few. concluded_light P me y still o (λ v z q. Done z q) (omega (arith, none_more o.sends, few)))

-- ## The law

pub reached_saves : (me : ℕ) (mode : Mode) (saved : SavedFact) (trusted : Bool) (event : Event) (events : List Event) (x : State) → IsPeer me → ((e : Event) → e ∈ (event ∷ events) → MayCome me e) → Reached me mode saved trusted events x
    → IsAllocationFree event → Follows IsSave (λ y out. length out.sends ≤ 1) (step_of me event x)
reached_saves me mode saved trusted event events x peer come reached is = saves_one me event x (come event (inl refl)) is (reached_steady me mode saved trusted events x peer (λ e m. come e (inr m)) reached).0

module _ {X B N F H : Type 0} (faults : F → ℕ) (does : Stores B N F × H → (call : Call) → AnswerOf call → Stores B N F × H → Type 0) (refuses : Stores B N F × H → Call → PeerError → Stores B N F × H → Type 0)
    (saves : (s : Stores B N F × H) (fact : SavedFact) (a : Unit {0}) (t : Stores B N F × H) → does s (Save fact) a t → FactsAlone s t × (faults s.0.facts ≤ faults t.0.facts))
    (fails : (s : Stores B N F × H) (fact : SavedFact) (e : PeerError) (t : Stores B N F × H) → refuses s (Save fact) e t → (e ≡ StoreFault) × HasFailed (faults s.0.facts) (faults t.0.facts) × FactsAlone s t)
    (Q : X → Out → Type 0) (end : Ending X) (t : Stores B N F × H) (after : List Note) where
  abbrev Blames : Stores B N F × H → Type 0
  Blames s = BlamesTheFact faults s end t

  -- nothing was called
  still : (s : Stores B N F × H) (e : Ending X) → IsFactError (faults s.0.facts) (faults s.0.facts) e → end ≡ e → t ≡ s → Blames s
  still s e error is same =
      subst (λ (u : Stores B N F × H). BlamesTheFact faults s end u) (sym same) (subst (λ (d : Ending X). BlamesTheFact faults s d s) (sym is) (record { alone = (refl, refl, refl); later = omega arith; error = error }))

  earlier : (a b c : ℕ) (e : Ending X) → a ≤ b → IsFactError b c e → IsFactError a c e
  earlier a b c (Finished x out) less h = tt
  earlier a b c (Stopped Memory) less h = tt
  earlier a b c (Stopped StoreFault) less h = rose_later a b c less h
  earlier a b c (Stopped e) less h = absurd h

  refused : (c : Call) (s : Stores B N F × H) (e : PeerError) → IsSave c → refuses s c e t → end ≡ Stopped e → Blames s
  refused (Save fact) s e is r stopped =
      let f = fails s fact e t r in
      record { alone = f.2; later = f.1.later; error = subst (λ (d : Ending X). IsFactError (faults s.0.facts) (faults t.0.facts) d) (sym (stopped ∙ ap (λ (d : PeerError). Stopped d) f.0)) f.1.rose }
  refused other s e is r stopped = absurd is

  went : (c : Call) (s m : Stores B N F × H) (a : AnswerOf c) → IsSave c → does s c a m → Blames m → Blames s
  went (Save fact) s m a is d rest =
      let f = saves s fact a m d in
      record {
        alone = (rest.alone.0 ∙ f.0.0, rest.alone.1 ∙ f.0.1, rest.alone.2 ∙ f.0.2);
        later = omega (arith, f.1, rest.later);
        error = earlier (faults s.0.facts) (faults m.0.facts) (faults t.0.facts) end f.1 rest.error;
      }
  went other s m a is d rest = absurd is

  -- a run of a plan that makes no call but saves
  saved_end : (p : Plan X) (s : Stores B N F × H) (before : List Note) → Follows IsSave Q p → Runs does refuses p s before end t after → Blames s
  saved_end (Done x out) s before only (inl is) = still s (Stopped Memory) tt is.0 is.1
  saved_end (Done x out) s before only (inr is) = still s (Finished x out) tt is.0 is.1
  saved_end (Say n p) s before only (inl is) = still s (Stopped Memory) tt is.0 is.1
  saved_end (Say n p) s before only (inr runs) = saved_end p s (before ++ n ∷ []) only runs
  saved_end (Ask c next) s before only (inl is) = still s (Stopped Memory) tt is.0 is.1
  saved_end (Ask c next) s before only (inr (inl r)) = refused c s r.0 only.0 r.1 r.2
  saved_end (Ask c next) s before only (inr (inr w)) = went c s w.1 w.0 only.0 w.2 (saved_end (next w.0) w.1 before (only.1 w.0) w.3)

pub reached_blames : {B N F H : Type 0} (faults : F → ℕ) (does : Stores B N F × H → (call : Call) → AnswerOf call → Stores B N F × H → Type 0) (refuses : Stores B N F × H → Call → PeerError → Stores B N F × H → Type 0)
    → ((s : Stores B N F × H) (fact : SavedFact) (a : Unit {0}) (t : Stores B N F × H) → does s (Save fact) a t → FactsAlone s t × (faults s.0.facts ≤ faults t.0.facts))
    → ((s : Stores B N F × H) (fact : SavedFact) (e : PeerError) (t : Stores B N F × H) → refuses s (Save fact) e t → (e ≡ StoreFault) × HasFailed (faults s.0.facts) (faults t.0.facts) × FactsAlone s t)
    → (me : ℕ) (mode : Mode) (saved : SavedFact) (trusted : Bool) (event : Event) (events : List Event) (x : State) (s t : Stores B N F × H) (before after : List Note) (end : Ending State) → IsPeer me → ((e : Event) → e ∈ (event ∷ events) → MayCome me e)
    → Reached me mode saved trusted events x → IsAllocationFree event → Runs does refuses (step_of me event x) s before end t after → BlamesTheFact faults s end t
reached_blames faults does refuses saves fails me mode saved trusted event events x s t before after end peer come reached is runs =
    saved_end faults does refuses saves fails (λ y out. length out.sends ≤ 1) end t after (step_of me event x) s before (reached_saves me mode saved trusted event events x peer come reached is) runs
