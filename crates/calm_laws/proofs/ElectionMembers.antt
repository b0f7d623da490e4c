-- The steps of the other members during the election.
use Rattle.std.proofs.Common.{◌≡◌, ◌⊎◌, inl, inr, refl, ap, sym, ◌∙◌, subst, arith, ℕ, List, Some}
use Rattle.std.specs.Prelude.{◌≢◌, slice_get}
use Rattle.ens_base.specs.Lists.{◌∈◌}
use Rattle.network.proofs.MailLaws.{is_mail_settled}
use Rattle.network.specs.Mail.{Mail, IsMail, settled}
use Rattle.stored_formats.specs.declared.fact.Fact.{Fact}
use Rattle.wire_frames.specs.declared.frame.Frame.{Frame}
use Rattle.wire_frames.specs.declared.message.Message.{Message}
use Rattle.wire_frames.specs.declared.message.Message.TheVariants as messages
use Rattle.world_refinement.specs.WorldSpec.{posted_all}
use Rattle.calm_step_laws.proofs.CandidateSteps.{ballot, opened, promised, accepted}
use Rattle.calm_laws.proofs.Waits.{Waits}
use Rattle.calm_laws.proofs.Elections.{Step, Quiet, Probes, Prepares, Starts, Led, MayHave, IsHeard, MayAsk, asking, replying}
use Rattle.calm_laws.proofs.Waiting.{waits_settled, waits_all_posted, waits_new}

-- another message than the one delivered still waits
pub still_waits : (m : Mail) (n : ℕ) (g f : Frame) (fs : List Frame) → slice_get m.sent n ≡ Some g → (g ≡ f → ⊥) → Waits m f → Waits (posted_all fs (settled m n)) f
still_waits m n g f fs is differs w = by (waits_settled m n g f is w) where
  by : (g ≡ f) ⊎ Waits (settled m n) f → Waits (posted_all fs (settled m n)) f
  by (inl same) = absurd (differs same)
  by (inr waits) = waits_all_posted fs (settled m n) f waits

module _ (me : ℕ) (view : List ℕ) where
  -- the delivery of a message that is none of this member leaves it counted or on its way
  pub stays_heard : (step : Step) (m : Mail) (n k : ℕ) (g : Frame) (fs : List Frame) (fact : Fact) → slice_get m.sent n ≡ Some g → ((message : Message) → g ≡ asking me view k message → ⊥) → ((message : Message) → g ≡ replying me view k message → ⊥)
      → IsHeard me view step m fact k → IsHeard me view step (posted_all fs (settled m n)) fact k
  stays_heard (Quiet ticks) m n k g fs fact is to from heard = tt
  stays_heard (Probes set) m n k g fs fact is to from (inl counted) = inl counted
  stays_heard (Probes set) m n k g fs fact is to from (inr (inl w)) = inr (inl (still_waits m n g _ fs is (to messages.Probe) w))
  stays_heard (Probes set) m n k g fs fact is to from (inr (inr w)) = inr (inr (still_waits m n g _ fs is (from (messages.ProbeReply (opened me view))) w))
  stays_heard (Prepares set) m n k g fs fact is to from (inl counted) = inl counted
  stays_heard (Prepares set) m n k g fs fact is to from (inr (inl w)) = inr (inl (w.0, still_waits m n g _ fs is (to (messages.Prepare (ballot me view))) w.1))
  stays_heard (Prepares set) m n k g fs fact is to from (inr (inr w)) = inr (inr (still_waits m n g _ fs is (from (messages.Promise (ballot me view) (promised me view))) w))
  stays_heard (Starts set) m n k g fs fact is to from (inl (has, inl counted)) = inl (has, inl counted)
  stays_heard (Starts set) m n k g fs fact is to from (inl (has, inr w)) = inl (has, inr (still_waits m n g _ fs is (from (messages.Accepted (ballot me view) 1)) w))
  stays_heard (Starts set) m n k g fs fact is to from (inr w) = inr (still_waits m n g _ fs is (to (messages.NewEpoch (accepted me view))) w)
  stays_heard (Led set) m n k g fs fact is to from (inl has) = inl has
  stays_heard (Led set) m n k g fs fact is to from (inr w) = inr (still_waits m n g _ fs is (to (messages.NewEpoch (accepted me view))) w)

  -- ## The member that takes the step

  module _ (m : Mail) (n q : ℕ) (ask : Message) (fs : List Frame) (other : q ≢ me) (is : slice_get m.sent n ≡ Some (asking me view q ask)) where
    asks_still : (message : Message) → (ask ≡ message → ⊥) → Waits m (asking me view q message) → Waits (posted_all fs (settled m n)) (asking me view q message)
    asks_still message differs w = still_waits m n (asking me view q ask) (asking me view q message) fs is (λ same. differs (ap (λ (f : Frame). f.message) same)) w

    replies_still : (message : Message) → Waits m (replying me view q message) → Waits (posted_all fs (settled m n)) (replying me view q message)
    replies_still message w = still_waits m n (asking me view q ask) (replying me view q message) fs is (λ same. other (sym (ap (λ (f : Frame). f.from) same))) w

  module _ (m : Mail) (n q : ℕ) (fs : List Frame) (mail : IsMail m) (other : q ≢ me) where
    new_reply : (message : Message) → replying me view q message ∈ fs → Waits (posted_all fs (settled m n)) (replying me view q message)
    new_reply message sent = waits_new fs (settled m n) (replying me view q message) (is_mail_settled m n mail) sent

    -- a probe is answered with what the member has
    pub probe_heard : (step : Step) (fact : Fact) → slice_get m.sent n ≡ Some (asking me view q messages.Probe) → MayHave me view step fact → replying me view q (messages.ProbeReply fact) ∈ fs
        → IsHeard me view step m fact q → IsHeard me view step (posted_all fs (settled m n)) fact q
    probe_heard (Quiet ticks) fact is may sent heard = tt
    probe_heard (Probes set) fact is may sent heard = inr (inr (new_reply (messages.ProbeReply (opened me view)) (subst (λ (f : Fact). replying me view q (messages.ProbeReply f) ∈ fs) may sent)))
    probe_heard (Prepares set) fact is may sent (inl counted) = inl counted
    probe_heard (Prepares set) fact is may sent (inr (inl w)) = inr (inl (w.0, asks_still m n q messages.Probe fs other is (messages.Prepare (ballot me view)) (λ same. let no : ⊥ = grind (arith, same) in no) w.1))
    probe_heard (Prepares set) fact is may sent (inr (inr w)) = inr (inr (replies_still m n q messages.Probe fs other is (messages.Promise (ballot me view) (promised me view)) w))
    probe_heard (Starts set) fact is may sent (inl (has, inl counted)) = inl (has, inl counted)
    probe_heard (Starts set) fact is may sent (inl (has, inr w)) = inl (has, inr (replies_still m n q messages.Probe fs other is (messages.Accepted (ballot me view) 1) w))
    probe_heard (Starts set) fact is may sent (inr w) = inr (asks_still m n q messages.Probe fs other is (messages.NewEpoch (accepted me view)) (λ same. let no : ⊥ = grind (arith, same) in no) w)
    probe_heard (Led set) fact is may sent (inl has) = inl has
    probe_heard (Led set) fact is may sent (inr w) = inr (asks_still m n q messages.Probe fs other is (messages.NewEpoch (accepted me view)) (λ same. let no : ⊥ = grind (arith, same) in no) w)

    module _ (is : slice_get m.sent n ≡ Some (asking me view q (messages.Prepare (ballot me view)))) where
      epoch_still : Waits m (asking me view q (messages.NewEpoch (accepted me view))) → Waits (posted_all fs (settled m n)) (asking me view q (messages.NewEpoch (accepted me view)))
      epoch_still w = asks_still m n q (messages.Prepare (ballot me view)) fs other is (messages.NewEpoch (accepted me view)) (λ same. let no : ⊥ = grind (arith, same) in no) w

      -- the ballot is promised by a member with the opening fact
      pub promise_heard : (step : Step) (fact : Fact) → fact ≡ opened me view → MayAsk me view step (messages.Prepare (ballot me view)) → replying me view q (messages.Promise (ballot me view) (promised me view)) ∈ fs
          → IsHeard me view step m fact q → IsHeard me view step (posted_all fs (settled m n)) (promised me view) q
      promise_heard (Quiet ticks) fact has may sent heard = tt
      promise_heard (Probes set) fact has may sent heard = absurd (let no : ⊥ = grind (arith, may) in no)
      promise_heard (Prepares set) fact has may sent heard = inr (inr (new_reply (messages.Promise (ballot me view) (promised me view)) sent))
      promise_heard (Starts set) fact has may sent (inl (old, way)) = absurd (let no : ⊥ = omega (arith, ap (λ (f : Fact). f.epoch.count) (sym old ∙ has)) in no)
      promise_heard (Starts set) fact has may sent (inr w) = inr (epoch_still w)
      promise_heard (Led set) fact has may sent (inl old) = absurd (let no : ⊥ = omega (arith, ap (λ (f : Fact). f.epoch.count) (sym old ∙ has)) in no)
      promise_heard (Led set) fact has may sent (inr w) = inr (epoch_still w)

      -- any other member ignores it
      pub ignored_heard : (step : Step) (fact : Fact) → (fact ≡ opened me view → ⊥) → MayAsk me view step (messages.Prepare (ballot me view)) → IsHeard me view step m fact q → IsHeard me view step (posted_all fs (settled m n)) fact q
      ignored_heard (Quiet ticks) fact past may heard = tt
      ignored_heard (Probes set) fact past may heard = absurd (let no : ⊥ = grind (arith, may) in no)
      ignored_heard (Prepares set) fact past may (inl counted) = inl counted
      ignored_heard (Prepares set) fact past may (inr (inl w)) = absurd (past w.0)
      ignored_heard (Prepares set) fact past may (inr (inr w)) = inr (inr (replies_still m n q (messages.Prepare (ballot me view)) fs other is (messages.Promise (ballot me view) (promised me view)) w))
      ignored_heard (Starts set) fact past may (inl (has, inl counted)) = inl (has, inl counted)
      ignored_heard (Starts set) fact past may (inl (has, inr w)) = inl (has, inr (replies_still m n q (messages.Prepare (ballot me view)) fs other is (messages.Accepted (ballot me view) 1) w))
      ignored_heard (Starts set) fact past may (inr w) = inr (epoch_still w)
      ignored_heard (Led set) fact past may (inl has) = inl has
      ignored_heard (Led set) fact past may (inr w) = inr (epoch_still w)

    -- the epoch is accepted, again or for the first time
    pub acceptance_heard : (step : Step) → MayAsk me view step (messages.NewEpoch (accepted me view)) → replying me view q (messages.Accepted (ballot me view) 1) ∈ fs → IsHeard me view step (posted_all fs (settled m n)) (accepted me view) q
    acceptance_heard (Quiet ticks) may sent = tt
    acceptance_heard (Probes set) may sent = absurd (let no : ⊥ = grind (arith, may) in no)
    acceptance_heard (Prepares set) (inl may) sent = absurd (let no : ⊥ = grind (arith, may) in no)
    acceptance_heard (Prepares set) (inr may) sent = absurd (let no : ⊥ = grind (arith, may) in no)
    acceptance_heard (Starts set) may sent = inl (refl, inr (new_reply (messages.Accepted (ballot me view) 1) sent))
    acceptance_heard (Led set) may sent = inl refl
