-- To whom a message goes that is sent to a set of peers.
use Rattle.std.proofs.Common.{◌≡◌, ◌⊎◌, ◌≤◌, ◌<◌, ◌+◌, inl, inr, refl, ap, sym, subst, arith, ℕ, zero, suc, Bool, true, false, List, [], ◌∷◌, ◌++◌, map, Some}
use Rattle.std.specs.Prelude.{if◌then◌else◌}
use Rattle.std.proofs.lemmas.Bool.{cases_lt, false≢true}
use Rattle.ens_base.proofs.Lists.{in_append, in_left, in_right, in-map}
use Rattle.ens_base.specs.Lists.{◌∈◌}
use Rattle.ens_base.specs.PeerSet.{holds}
use Rattle.ens_base.specs.View.{IsPeer}
use Rattle.leader_output.specs.Sends.{sent_up_to}
use Rattle.leader_output.specs.declared.out.Outgoing.{Outgoing}
use Rattle.step_plans.specs.Sends.{posted, posted_to}
use Rattle.wire_frames.specs.declared.frame.Frame.{Frame}
use Rattle.wire_frames.specs.declared.message.Message.{Message}
use Rattle.world_refinement.specs.WorldSpec.{frame_from}

abbrev pub going : ℕ → Message → Outgoing
going q message = record { to = q; message = message }

one_if : (b : Bool) (o : Outgoing) → b ≡ true → o ∈ (if b then o ∷ [] else [])
one_if true o passes = inl refl
one_if false o passes = absurd (false≢true passes)

if_one : (b : Bool) (o x : Outgoing) → x ∈ (if b then o ∷ [] else []) → (b ≡ true) × (x ≡ o)
if_one true o x (inl e) = (refl, e)
if_one true o x (inr none) = absurd none
if_one false o x none = absurd none

module _ (test : ℕ → Bool) (word : ℕ → Message) where
  -- each peer that passes gets its message
  pub posted_has : (n q : ℕ) → 1 ≤ q → q ≤ n → test q ≡ true → going q (word q) ∈ posted test word n
  unfolding posted
  posted_has zero q low high passes = absurd (omega (arith, low, high))
  posted_has (suc n) q low high passes = by (cases_lt n q) (λ within. posted_has n q low within passes) where
    by : (n < q) ⊎ (q ≤ n) → (q ≤ n → going q (word q) ∈ posted test word n) → going q (word q) ∈ (posted test word n ++ (if test (n + 1) then going (n + 1) (word (n + 1)) ∷ [] else []))
    by (inr within) rest = in_left (posted test word n) _ _ (rest within)
    by (inl past) rest =
        let last : n + 1 ≡ q = omega (arith, past, high) in
        in_right (posted test word n) _ _ (subst (λ k. going k (word k) ∈ (if test (n + 1) then going (n + 1) (word (n + 1)) ∷ [] else [])) last (one_if (test (n + 1)) _ (subst (λ k. test k ≡ true) (sym last) passes)))

  -- and nothing else is sent
  pub record IsPosted (x : Outgoing) : Type 0 where
    pub low : 1 ≤ x.to
    pub tested : test x.to ≡ true
    pub message : x.message ≡ word x.to

  pub posted_only : (n : ℕ) (x : Outgoing) → x ∈ posted test word n → IsPosted x
  unfolding posted
  posted_only zero x is = absurd is
  posted_only (suc n) x is = by (in_append (posted test word n) _ x is) (λ there. posted_only n x there) where
    by : (x ∈ posted test word n) ⊎ (x ∈ (if test (n + 1) then going (n + 1) (word (n + 1)) ∷ [] else [])) → (x ∈ posted test word n → IsPosted x) → IsPosted x
    by (inl there) rest = rest there
    by (inr last) rest =
        let is_last = if_one (test (n + 1)) (going (n + 1) (word (n + 1))) x last in
        subst IsPosted (sym is_last.1) (record { low = omega arith; tested = is_last.0; message = refl })

  -- to no peer above this number
  pub posted_high : (n : ℕ) (x : Outgoing) → x ∈ posted test word n → x.to ≤ n
  unfolding posted
  posted_high zero x is = absurd is
  posted_high (suc n) x is = by (in_append (posted test word n) _ x is) (λ there. posted_high n x there) where
    by : (x ∈ posted test word n) ⊎ (x ∈ (if test (n + 1) then going (n + 1) (word (n + 1)) ∷ [] else [])) → (x ∈ posted test word n → x.to ≤ n) → x.to ≤ suc n
    by (inl there) rest = omega (arith, rest there)
    by (inr last) rest =
        let is_last = if_one (test (n + 1)) (going (n + 1) (word (n + 1))) x last in
        subst (λ (y : Outgoing). y.to ≤ suc n) (sym is_last.1) (omega arith)

-- what holds of the frame of each message holds of each frame
pub told_each : (K : Frame → Type 0) (p : ℕ) (sends : List Outgoing) (f : Frame) → ((x : Outgoing) → x ∈ sends → K (frame_from p x)) → f ∈ map (frame_from p) sends → K f
told_each K p [] f each is = absurd is
told_each K p (x ∷ sends) f each (inl e) = subst K (sym e) (each x (inl refl))
told_each K p (x ∷ sends) f each (inr more) = told_each K p sends f (λ y at. each y (inr at)) more

-- the messages of a leader are sent in the same way
pub sent_is_posted : (test : ℕ → Bool) (message : Message) (n : ℕ) → sent_up_to test message n ≡ posted test (λ q. message) n
unfolding posted sent_up_to
sent_is_posted test message zero = refl
sent_is_posted test message (suc n) = ap (λ s. s ++ (if test (n + 1) then going (n + 1) message ∷ [] else [])) (sent_is_posted test message n)

-- the frames of a message to a set of peers
pub frame_sent : (p q : ℕ) (set : List Bool) (message : Message) → IsPeer q → holds set q ≡ true → (let f : Frame = record { from = p; to = q; message = message } in f) ∈ map (frame_from p) (posted_to set (Some message))
frame_sent p q set message peer passes = in-map (frame_from p) (posted_to set (Some message)) (going q message) (posted_has (holds set) (λ k. message) 31 q peer.0 peer.1 passes)
