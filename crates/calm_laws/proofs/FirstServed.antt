-- The world after the first calm is one in which calls are served, and none was made.
use Rattle.std.proofs.Common.{◌≡◌, inl, inr, refl, subst, arith, ℕ, Bool, true, List, [], None}
use Rattle.call_table.specs.Rows.{row_at}
use Rattle.call_table.specs.declared.row.Known.TheVariants as knowns
use Rattle.call_table.specs.declared.row.Stage.TheVariants as stages
use Rattle.ens_base.specs.Lists.{◌∈◌}
use Rattle.ens_base.specs.View.{IsPeer}
use Rattle.quorums.specs.Members.{those}
use Rattle.leader.specs.Leaders.{new_leader}
use Rattle.network.specs.Mail.{oldest, is_among}
use Rattle.wire_frames.specs.declared.frame.Frame.{Frame}
use Rattle.world_refinement.specs.WorldSpec.{Run}
use Rattle.calm_step_laws.proofs.CandidateSteps.{accepted}
use Rattle.calm_laws.proofs.Waits.{Waits}
use Rattle.calm_laws.proofs.Counted.{everyone_has}
use Rattle.calm_laws.proofs.Elections.{Led, MayWait, asking, replying}
use Rattle.calm_laws.proofs.FirstCalm.{HasLeader}
use Rattle.calm_laws.proofs.ServedWorlds.{Scene, IsServed}
use Rattle.calm_laws.proofs.Waiting.{none_waits}

module _ (me : ℕ) (view : List ℕ) (is_peer : IsPeer me) (peers : (q : ℕ) → q ∈ view → IsPeer q) where
  -- nothing waits
  nothing_waits : (w : Run) (accepts : List Bool) → oldest (is_among (those (λ p. true))) w.mail ≡ None → (f : Frame) → MayWait me view (Led accepts) f → Waits w.mail f → ⊥
  nothing_waits w accepts none f (inl a) waits = none_waits (those (λ p. true)) w.mail (asking me view a.to a.message) none (rw (everyone_has me is_peer, everyone_has a.to (peers a.to a.other.0)) refl) (subst (λ (g : Frame). Waits w.mail g) a.is waits)
  nothing_waits w accepts none f (inr a) waits = none_waits (those (λ p. true)) w.mail (replying me view a.from a.message) none (rw (everyone_has me is_peer, everyone_has a.from (peers a.from a.other.0)) refl) (subst (λ (g : Frame). Waits w.mail g) a.is waits)

  idle_row : (k : List ℕ) → (row_at k []).stage ≡ stages.Idle
  unfolding row_at
  idle_row k = refl

  unknown_row : (k : List ℕ) → (row_at k []).known ≡ knowns.Unknown
  unfolding row_at
  unknown_row k = refl

  -- no call was made yet
  abbrev pub first_scene : Scene
  first_scene = record { count = 0; small = omega arith; called = []; few = omega arith; before = []; call = None }

  pub serves_from_now : (w : Run) → HasLeader me view w → IsServed me view first_scene w
  serves_from_now w led = record {
    led = record {
      mail = led.elects.crowd.mail;
      l = new_leader (accepted me view) me led.accepts;
      fact = refl;
      self = refl;
      task = refl;
      map = λ q. [];
      leader = led.elects.leader;
      others = led.others;
      runs = None;
      holds_well = record {
        seqs = omega arith;
        rounds = omega arith;
        past = λ q e is none. absurd none;
        idle = λ k apart. idle_row k;
        knows = λ k apart. inl (unknown_row k);
        unknown = λ k unknown q is. refl;
      };
      standing = (refl, led.elects.printed);
      kinds = λ f waits. absurd (nothing_waits w led.accepts led.none f (led.elects.crowd.kinds f waits) waits);
    };
    rests = refl;
    none = led.none;
  }
