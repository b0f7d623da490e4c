-- What the steps of a leader keep as it was, and what is kept of a leader.
use Rattle.std.proofs.Common.{◌≡◌, ◌⊎◌, inl, inr, ℕ, ◌==◌, ◌&&◌, ◌||◌, Bool, true, false, eqb-true, List, [], ◌∷◌, refl, sym, ap, subst, ◌∙◌}
use Rattle.std.proofs.lemmas.Bool.{and_parts}
use Rattle.protocol_laws.specs.Ledger.{mark}
use Rattle.protocol_laws.specs.Protocol.{State, Step, Propose, Settle, Note, Acknowledge, happens, after}
use Rattle.call_table.specs.declared.waiting.Waiting.{Waiting}
use Rattle.register_model.specs.declared.call.Call.{Call}
use Rattle.protocol_laws.specs.Stays.{EntriesStay}
use Rattle.leader_refinement.specs.Follows.{CallsAgree, IsLeaderStep, AreLeaderSteps, IsKept}
use Rattle.leader_refinement.specs.Laws.{StepsKeep, AcksAreShown, FitsStay}

-- ## What stays as it was

kept_same : (s : State) → IsKept s s
kept_same s = record { ledger = refl; map = refl; visible = refl; floor = refl; trusted = refl; reverted = refl; calls = refl; called = refl; asked = refl; stood = refl; answers = refl; answered = refl; now = refl; elected_at = refl }

kept_then : (s t u : State) → IsKept s t → IsKept t u → IsKept s u
kept_then s t u a b = record {
  ledger = b.ledger ∙ a.ledger;
  map = b.map ∙ a.map;
  visible = b.visible ∙ a.visible;
  floor = b.floor ∙ a.floor;
  trusted = b.trusted ∙ a.trusted;
  reverted = b.reverted ∙ a.reverted;
  calls = b.calls ∙ a.calls;
  called = b.called ∙ a.called;
  asked = b.asked ∙ a.asked;
  stood = b.stood ∙ a.stood;
  answers = b.answers ∙ a.answers;
  answered = b.answered ∙ a.answered;
  now = b.now ∙ a.now;
  elected_at = b.elected_at ∙ a.elected_at;
}

kept_step : (b s : State) (me : ℕ) (step : Step) → IsLeaderStep b me step → IsKept s (happens s step)
kept_step b s me (Propose v k u stamp content call) own = record { ledger = refl; map = refl; visible = refl; floor = refl; trusted = refl; reverted = refl; calls = refl; called = refl; asked = refl; stood = refl; answers = refl; answered = refl; now = refl; elected_at = refl }
kept_step b s me (Settle v) own = record { ledger = refl; map = refl; visible = refl; floor = refl; trusted = refl; reverted = refl; calls = refl; called = refl; asked = refl; stood = refl; answers = refl; answered = refl; now = refl; elected_at = refl }
kept_step b s me (Note i k u d) own = record { ledger = refl; map = refl; visible = refl; floor = refl; trusted = refl; reverted = refl; calls = refl; called = refl; asked = refl; stood = refl; answers = refl; answered = refl; now = refl; elected_at = refl }
kept_step b s me (Acknowledge p v) own = record { ledger = refl; map = refl; visible = refl; floor = refl; trusted = refl; reverted = refl; calls = refl; called = refl; asked = refl; stood = refl; answers = refl; answered = refl; now = refl; elected_at = refl }
kept_step b s me step own = absurd own

-- b is the state in which the rule began
kept_from : (b s : State) (me : ℕ) (steps : List Step) → AreLeaderSteps b me steps → IsKept s (after s steps)
kept_from b s me [] own = kept_same s
kept_from b s me (step ∷ steps) own = kept_then s (happens s step) (after s (step ∷ steps)) (kept_step b s me step own.0) (kept_from b (happens s step) me steps own.1)

pub steps_keep : StepsKeep
steps_keep s me steps own = kept_from s s me steps own

-- ## Acknowledgements

marked : (r : ℕ → ℕ → Bool) (d p e q : ℕ) → mark r d p e q ≡ true → (r e q ≡ true) ⊎ ((d ≡ e) × (p ≡ q))
marked r d p e q m = by_test ((d == e) && (p == q)) refl m
  where
    by_test : (b : Bool) → ((d == e) && (p == q)) ≡ b → (b || r e q) ≡ true → (r e q ≡ true) ⊎ ((d ≡ e) × (p ≡ q))
    by_test true both m = let parts = and_parts (d == e) (p == q) both in inr (eqb-true d e parts.0, eqb-true p q parts.1)
    by_test false both m = inl m

-- the peer had acknowledged the version, or is the leader's own, and its tree showed the version when
-- the rule began
abbrev IsAckedSo : State → State → ℕ → ℕ → ℕ → Type 0
IsAckedSo b s me v q = (s.objects.acked v q ≡ true) ⊎ ((q ≡ me) × (b.objects.visible me (b.objects.key v) ≡ v))

acked_step : (b s : State) (me : ℕ) (step : Step) → IsLeaderStep b me step → (v q : ℕ) → (happens s step).objects.acked v q ≡ true → IsAckedSo b s me v q
acked_step b s me (Propose u k parent stamp content call) own v q m = inl m
acked_step b s me (Settle u) own v q m = inl m
acked_step b s me (Note i k u d) own v q m = inl m
acked_step b s me (Acknowledge p u) own v q m = by_mark (marked s.objects.acked u p v q m)
  where
    by_mark : (s.objects.acked v q ≡ true) ⊎ ((u ≡ v) × (p ≡ q)) → IsAckedSo b s me v q
    by_mark (inl old) = inl old
    by_mark (inr same) = inr (sym same.1 ∙ own.0, subst (λ (x : ℕ). b.objects.visible me (b.objects.key x) ≡ x) same.0 own.1)
acked_step b s me step own v q m = absurd own

acked_from : (b s : State) (me : ℕ) (steps : List Step) → AreLeaderSteps b me steps → (v q : ℕ) → (after s steps).objects.acked v q ≡ true → IsAckedSo b s me v q
acked_from b s me [] own v q m = inl m
acked_from b s me (step ∷ steps) own v q m = by_later (acked_from b (happens s step) me steps own.1 v q m)
  where
    by_later : IsAckedSo b (happens s step) me v q → IsAckedSo b s me v q
    by_later (inl now) = acked_step b s me step own.0 v q now
    by_later (inr shown) = inr shown

pub acks_shown : AcksAreShown
acks_shown s me steps own v q m = acked_from s s me steps own v q m

-- ## What fits of a leader

agree_later : (s t : State) (calls : List Waiting) → EntriesStay s t → CallsAgree s.book calls → CallsAgree t.book calls
agree_later s t [] stay agree = tt
agree_later s t (w ∷ calls) stay agree = ((stay.called w.id agree.0.0, ap (λ (c : Call). c.command) (stay.asked w.id agree.0.0) ∙ agree.0.1), agree_later s t calls stay agree.1)

pub fits_stay : FitsStay
fits_stay hash s t l stay views fits = record { epoch = fits.epoch; seq = fits.seq; views = views ∙ fits.views; rows = fits.rows; calls = agree_later s t l.table.calls stay fits.calls; calm = fits.calm }
