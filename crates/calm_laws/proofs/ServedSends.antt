-- The messages that a leader sends to all other members.
use Rattle.std.proofs.Common.{◌≡◌, ◌==◌, refl, ap, sym, ◌∙◌, subst, ℕ, Bool, true, false, not, List, [], ◌∷◌, map}
use Rattle.std.specs.Prelude.{◌≢◌}
use Rattle.std.proofs.lemmas.Bool.{and_parts, eqb-false, false≢true}
use Rattle.ens_base.proofs.Lists.{tested_in, in_tested, in-map}
use Rattle.ens_base.specs.Lists.{◌∈◌, is_in}
use Rattle.ens_base.specs.View.{IsPeer}
use Rattle.quorums.specs.Quorums.{is_member}
use Rattle.leader_output.specs.Sends.{is_other, sent_up_to}
use Rattle.leader_output.specs.declared.out.Outgoing.{Outgoing}
use Rattle.step_plans.specs.Sends.{posted}
use Rattle.wire_frames.specs.declared.frame.Frame.{Frame}
use Rattle.wire_frames.specs.declared.message.Message.{Message}
use Rattle.world_refinement.specs.WorldSpec.{frame_from}
use Rattle.calm_laws.proofs.Elections.{IsOther, asking}
use Rattle.calm_laws.proofs.Posting.{going, posted_has, posted_only, told_each, sent_is_posted}
use Rattle.calm_laws.proofs.Standing.{not_itself}

module _ (me : ℕ) (view : List ℕ) (peers : (q : ℕ) → q ∈ view → IsPeer q) (message : Message) where
  -- the message to each other member
  abbrev pub to_others : List Outgoing
  to_others = sent_up_to (is_other me (view ∷ [])) message 31

  abbrev as_posted : List Outgoing
  as_posted = posted (is_other me (view ∷ [])) (λ k. message) 31

  same : to_others ≡ as_posted
  same = sent_is_posted (is_other me (view ∷ [])) message 31

  -- each other member gets it
  pub reaches_all : (q : ℕ) → IsOther me view q → asking me view q message ∈ map (frame_from me) to_others
  reaches_all q other = subst (λ (s : List Outgoing). asking me view q message ∈ map (frame_from me) s) (sym same)
      (in-map (frame_from me) as_posted (going q message) (posted_has (is_other me (view ∷ [])) (λ k. message) 31 q (peers q other.0).0 (peers q other.0).1 (rw (tested_in view q other.0, not_itself q me other.1) refl)))

  other_of : (q : ℕ) → is_other me (view ∷ []) q ≡ true → IsOther me view q
  other_of q passes = (listed (is_in view q) refl, differs (q == me) refl) where
    parts : (is_member (view ∷ []) q ≡ true) × (not (q == me) ≡ true)
    parts = and_parts (is_member (view ∷ []) q) (not (q == me)) passes

    listed : (b : Bool) → is_in view q ≡ b → q ∈ view
    listed true is = in_tested view q is
    listed false is = absurd (false≢true (sym (rw is refl) ∙ parts.0))

    differs : (b : Bool) → (q == me) ≡ b → q ≢ me
    differs false is = eqb-false q me is
    differs true is = absurd (false≢true (sym (rw is refl) ∙ parts.1))

  -- and nobody else
  pub record IsTo (f : Frame) : Type 0 where
    pub to : ℕ
    pub other : IsOther me view to
    pub is : f ≡ asking me view to message

  pub reaches_only : (f : Frame) → f ∈ map (frame_from me) to_others → IsTo f
  reaches_only f is = told_each IsTo me as_posted f each (subst (λ (s : List Outgoing). f ∈ map (frame_from me) s) same is) where
    each : (x : Outgoing) → x ∈ as_posted → IsTo (frame_from me x)
    each x at =
        let it = posted_only (is_other me (view ∷ [])) (λ k. message) 31 x at in
        record { to = x.to; other = other_of x.to it.tested; is = ap (λ (m : Message). asking me view x.to m) it.message }
