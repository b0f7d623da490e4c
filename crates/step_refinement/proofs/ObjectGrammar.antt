-- The objects of versions obey the grammar, in a run whose calls keep their limits and whose epochs have a count
-- of 64 bits.
use Rattle.std.proofs.Common.{◌*◌, ◌≡◌, ◌⊎◌, inl, inr, ◌<◌, ◌≤◌, ◌^◌, ◌+◌, ℕ, ◌==◌, Bool, true, false, eqb-true, List, [], ◌∷◌, Option, Some, None, arith, refl, sym, ap, subst, ◌∙◌}
use Rattle.std.proofs.lemmas.Bool.{false≢true, true≢false}
use Rattle.std.proofs.lemmas.Bool.Decides.{nat_tests}
use Rattle.ens_base.specs.Limits.{IsKey, IsVersion, IsCommand}
use Rattle.ens_base.specs.declared.epoch.Version.{Version}
use Rattle.stored_formats.specs.Objects.{IsObject, IsContent}
use Rattle.register_model.specs.Registers.{written}
use Rattle.register_model.specs.declared.call.Call.{Call}
use Rattle.register_model.specs.declared.register.Register.TheVariants.{Absent}
use Rattle.protocol_laws.specs.Book.{version_of, register_at, MayWriteFor, MayRewrite}
use Rattle.protocol_laws.specs.Numbers as numbers
use Rattle.protocol_laws.specs.Numbers.{epoch_number}
use Rattle.protocol_laws.specs.Objects.{epoch_of, MayBegin, IsNewest, MayPropose}
use Rattle.protocol_laws.specs.Protocol.{State, Step, Propose, IsRun, state_after, happens, MayCome}
use Rattle.election_refinement.proofs.Tests.{by_test}
use Rattle.protocol_laws.specs.Preparing.{proposer_of}
use Rattle.election_refinement.specs.Listed.{IsListedFact}
use Rattle.election_refinement.specs.Refinement.{IsSaved}
use Rattle.protocol_laws.proofs.Later.{stay_step}
use Rattle.protocol_laws.specs.Stays.{EntriesStay}
use Rattle.peer_refinement.specs.WorldSpec.{Held}
use Rattle.object_commands.proofs.Outcomes.{RegisterFits, OutcomeFits, outcome_fits}
use Rattle.role_laws.specs.Tables as theory
use Rattle.leader_refinement.specs.Seen.{rank}
use Rattle.peer_refinement.specs.Naming.{object_of_version}
use Rattle.peer_state.specs.declared.state.State.{State as PeerState}
use Rattle.stored_formats.specs.declared.fact.Fact.{Fact}
use Rattle.register_model.specs.declared.note.Note.{Note}
use Rattle.step_plans.specs.Plans.{Out}
use Rattle.protocol_laws.proofs.Maps.{put_here, put_other}
use Rattle.protocol_laws.proofs.Trees.{run_versions}
use Rattle.step_refinement.specs.Scenes.{Scene, Reached, state_before, now, Here}
use Rattle.step_refinement.specs.Peers.{AsksFit, EpochsFit}

-- ## Versions

version_fits : (u : ℕ) → epoch_of u < 2 ^ 96 → IsVersion (version_of u)
unfolding version_of epoch_of
version_fits u low = record { epoch = record { count = omega (arith, low); proposer = omega arith }; seq = omega arith }

-- the parts of the object of a version keep their limits
record PartsFit (s : State) (u : ℕ) : Type 0 where
  stamp : IsVersion (s.book.stamp u)
  key : IsKey (s.objects.key u)
  content : IsContent (s.book.content u)

abbrev AllFit : State → Type 0
AllFit s = (u : ℕ) → s.objects.proposed u ≡ true → PartsFit s u

-- the parent of a version is none or a version of the key
parent_is : (s : State) (v : ℕ) (k : List ℕ) (u : ℕ) → MayPropose s.objects v k u → (u ≡ 0) ⊎ ((s.objects.proposed u ≡ true) × (s.objects.key u ≡ k))
parent_is s v k u may = by_from may.from
  where
    by_genuine : (u ≡ 0) ⊎ ((s.objects.proposed u ≡ true) × (s.objects.key u ≡ k) × (epoch_of u ≤ epoch_of v)) → (u ≡ 0) ⊎ ((s.objects.proposed u ≡ true) × (s.objects.key u ≡ k))
    by_genuine (inl none) = inl none
    by_genuine (inr there) = inr (there.0, there.1)

    by_from : MayBegin s.objects (epoch_of v) k u ⊎ IsNewest s.objects (epoch_of v) k u → (u ≡ 0) ⊎ ((s.objects.proposed u ≡ true) × (s.objects.key u ≡ k))
    by_from (inl begins) = by_genuine begins.genuine
    by_from (inr newest) = inr (newest.proposed, newest.key)

register_fits : (s : State) (u : ℕ) → AllFit s → (u ≡ 0) ⊎ (s.objects.proposed u ≡ true) → RegisterFits (register_at s.book u)
register_fits s u all old = by_test RegisterFits (u == 0) Absent (written (s.book.stamp u) (s.book.content u)) (λ none. tt) (λ some. of_content (s.book.content u) (all u (proposed old some)).content)
  where
    of_content : (content : Option (List ℕ)) → IsContent content → RegisterFits (written (s.book.stamp u) content)
    of_content None fits = tt
    of_content (Some bytes) fits = fits

    proposed : (u ≡ 0) ⊎ (s.objects.proposed u ≡ true) → (u == 0) ≡ false → s.objects.proposed u ≡ true
    proposed (inl none) some = absurd (true≢false (sym (ap (λ n. n == 0) none) ∙ some))
    proposed (inr there) some = there

-- the parts of a version that is proposed
new_fits : (s : State) (v : ℕ) (k : List ℕ) (u : ℕ) (stamp : Version) (content : Option (List ℕ)) (call : Option ℕ) → MayCome s (Propose v k u stamp content call) → AsksFit s → EpochsFit s → AllFit s → IsVersion stamp × (IsKey k × IsContent content)
new_fits s v k u stamp content (Some i) may asks epochs all = let write : MayWriteFor s.objects s.book v k u stamp content i = may.1 in let asked = asks i write.waiting.called in (
  subst IsVersion (sym write.own_stamp) (version_fits v (epochs (epoch_of v) may.0.elected)),
  (subst IsKey write.on_key asked.0, subst OutcomeFits write.applies (outcome_fits (s.book.asked i).command (register_at s.book u) asked.1 (register_fits s u all (old (parent_is s v k u may.0))))),
)
  where
    old : (u ≡ 0) ⊎ ((s.objects.proposed u ≡ true) × (s.objects.key u ≡ k)) → (u ≡ 0) ⊎ (s.objects.proposed u ≡ true)
    old (inl none) = inl none
    old (inr there) = inr there.0
new_fits s v k u stamp content None may asks epochs all = by_parent (parent_is s v k u may.0)
  where
    rewrite : MayRewrite s.book u stamp content
    rewrite = may.1

    by_parent : (u ≡ 0) ⊎ ((s.objects.proposed u ≡ true) × (s.objects.key u ≡ k)) → IsVersion stamp × (IsKey k × IsContent content)
    by_parent (inl none) = absurd (not_none u rewrite.some none)
      where
        not_none : (n : ℕ) → 0 < n → n ≡ 0 → ⊥
        not_none n some none = omega (arith, some, none)
    by_parent (inr there) = let parts = all u there.0 in (subst IsVersion (sym rewrite.same_stamp) parts.stamp, (subst IsKey there.1 parts.key, subst IsContent (sym rewrite.same_content) parts.content))

-- a step keeps the limits of all versions
step_fits : (s : State) (e : Step) → MayCome s e → AsksFit s → EpochsFit s → AllFit s → AllFit (happens s e)
step_fits s (Propose v k u stamp content call) may asks epochs all w is = by_same (v == w) refl
  where
    new : IsVersion stamp × (IsKey k × IsContent content)
    new = new_fits s v k u stamp content call may asks epochs all

    t : State
    t = happens s (Propose v k u stamp content call)

    here : PartsFit t v
    here = record { stamp = subst IsVersion (sym (put_here s.book.stamp v stamp)) new.0; key = subst IsKey (sym (put_here s.objects.key v k)) new.1.0; content = subst IsContent (sym (put_here s.book.content v content)) new.1.1 }

    by_same : (b : Bool) → (v == w) ≡ b → PartsFit t w
    by_same true same = subst (PartsFit t) (eqb-true v w same) here
    by_same false other =
        let apart : v ≡ w → ⊥ = λ e. true≢false (sym (subst (λ n. (v == n) ≡ true) e (itself v)) ∙ other) in
        let old = all w (sym (put_other s.objects.proposed v true w apart) ∙ is) in
        record { stamp = subst IsVersion (sym (put_other s.book.stamp v stamp w apart)) old.stamp; key = subst IsKey (sym (put_other s.objects.key v k w apart)) old.key; content = subst IsContent (sym (put_other s.book.content v content w apart)) old.content }
      where
        itself : (n : ℕ) → (n == n) ≡ true
        itself n = grind (arith, nat_tests)
step_fits s e may asks epochs all w is = let old = all w is in record { stamp = old.stamp; key = old.key; content = old.content }

-- what later calls and epochs keep, earlier ones do
asks_before : (s t : State) → EntriesStay s t → AsksFit t → AsksFit s
asks_before s t stay fits i called = subst (λ (call : Call). IsKey call.key × IsCommand call.command) (stay.asked i called) (fits i (stay.called i called))

epochs_before : (s t : State) → EntriesStay s t → EpochsFit t → EpochsFit s
epochs_before s t stay fits d elected = fits d (stay.versions.ledger.elected d elected)

parts_fit : (view : List ℕ) (steps : List Step) → IsRun view steps → AsksFit (state_after view steps) → EpochsFit (state_after view steps) → AllFit (state_after view steps)
parts_fit view [] run asks epochs u is = absurd (false≢true is)
parts_fit view (e ∷ steps) run asks epochs u is =
    let stay = stay_step (state_after view steps) e run.1 in
    let asks_then = asks_before (state_after view steps) (state_after view (e ∷ steps)) stay asks in
    let epochs_then = epochs_before (state_after view steps) (state_after view (e ∷ steps)) stay epochs in
    step_fits (state_after view steps) e run.1 asks_then epochs_then (parts_fit view steps run.0 asks_then epochs_then) u is

-- the numbers of a version of such an epoch are in range
rank_fits : (v : Version) → numbers.IsVersion v → epoch_of (rank v) < 2 ^ 96 → IsVersion v
unfolding epoch_of theory.version_at epoch_number
rank_fits v fits low = record { epoch = record { count = omega (arith, fits.0, fits.1, low); proposer = fits.0 }; seq = fits.1 }

-- each version that was proposed has an object that obeys the grammar
pub objects_obey : (view : List ℕ) (steps : List Step) → IsRun view steps → AsksFit (state_after view steps) → EpochsFit (state_after view steps) → (v : Version) → numbers.IsVersion v → (state_after view steps).objects.proposed (rank v) ≡ true
    → IsObject (object_of_version (state_after view steps) v)
objects_obey view steps run asks epochs v fits is = let parts = parts_fit view steps run asks epochs (rank v) is in record {
  version = rank_fits v fits (epochs (epoch_of (rank v)) ((run_versions view steps run).epochs (rank v) is).elected);
  stamp = parts.stamp;
  key = parts.key;
  content = parts.content;
}

-- ## Epochs

-- an epoch that the peer has elected is at most its ballot, whose count has 64 bits; others elect none in its step
pub epochs_there : (c : Scene) (r : Reached c) (fact : Fact) → IsSaved (now c r).objects.ledger c.peer fact → IsListedFact c.lines.voting fact → EpochsFit (state_before c) → EpochsFit (now c r)
unfolding epoch_number
epochs_there c r fact saved listed before d elected = by_time ((state_before c).objects.ledger.elected d) refl
  where
    p : ℕ
    p = c.peer

    -- the number of the peer's ballot
    in_range : (count proposer n : ℕ) → count < 2 ^ 64 → proposer < 2 ^ 32 → n ≤ count * 2 ^ 32 + proposer → n < 2 ^ 96
    in_range count proposer n low small le = omega (arith, low, small, le)

    own : (p == proposer_of d) ≡ true → d < 2 ^ 96
    own same = in_range fact.ballot.count fact.ballot.proposer d listed.count saved.known.ballot
        (subst (λ n. d ≤ n) (saved.ballot) (subst (λ q. d ≤ (now c r).objects.ledger.ballot q) (sym (eqb-true p (proposer_of d) same)) (r.orderly.reached d elected)))

    by_peer : (b : Bool) → (p == proposer_of d) ≡ b → (state_before c).objects.ledger.elected d ≡ false → d < 2 ^ 96
    by_peer true same fresh = own same
    by_peer false other fresh = absurd (true≢false (sym elected ∙ r.elsewhere.ledger.fresh d fresh (λ e. true≢false (sym (is_same p (proposer_of d) e) ∙ other))))
      where
        is_same : (m n : ℕ) → m ≡ n → (m == n) ≡ true
        is_same m n e = grind (arith, nat_tests)

    by_time : (b : Bool) → (state_before c).objects.ledger.elected d ≡ b → d < 2 ^ 96
    by_time true is = before d is
    by_time false is = by_peer (p == proposer_of d) refl is

-- the epochs in the middle of a step still have counts of 64 bits
pub epochs_here : (c : Scene) (key : List ℕ) (x : PeerState) (h : Held) (out : Out) (notes : List Note) (here : Here c key x h out notes) → EpochsFit (state_before c) → EpochsFit (now c here.reached)
epochs_here c key x h out notes here before = epochs_there c here.reached x.fact here.peer.saved here.listed.fact before
