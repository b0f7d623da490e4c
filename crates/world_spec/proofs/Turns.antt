-- One tick or one delivery, followed by the rest.
use Rattle.std.proofs.Common.{◌≡◌, ◌<◌, ◌+◌, ◌-◌, ℕ, suc, None, Some, List, refl, ap, ◌∙◌}
use Rattle.std.specs.Prelude.{Bool}
use Rattle.network.specs.Mail.{is_among, oldest}
use Rattle.peer_state.specs.declared.event.Event.TheVariants as events
use Rattle.world_spec.specs.Runs.{Run, stepped, ticked, delivered, going_on, calmed}
use Rattle.world_spec.proofs.PeerSpec.{one_turn as one_more}

pub no_tick : (peer : ℕ) (w : Run) → ticked peer 0 w ≡ w
unfolding ticked
no_tick peer w = refl

tick : (peer k : ℕ) (w : Run) → ticked peer (suc k) w ≡ ticked peer k (stepped peer events.Tick w)
unfolding ticked
tick peer k w = refl

pub one_tick : (peer n i : ℕ) (w : Run) → i < n → ticked peer (n - i) w ≡ ticked peer (n - (i + 1)) (stepped peer events.Tick w)
one_tick peer n i w below = ap (λ k. ticked peer k w) (one_more n i below) ∙ tick peer (n - (i + 1)) w

pub no_turn : (peers : List Bool) (w : Run) → calmed peers 0 w ≡ w
unfolding calmed
no_turn peers w = refl

turn : (peers : List Bool) (k : ℕ) (w : Run) → calmed peers (suc k) w ≡ going_on (oldest (is_among peers) w.mail) (λ v. calmed peers k v) w
unfolding calmed
turn peers k w = refl

pub one_turn : (peers : List Bool) (n i : ℕ) (w : Run) (k : ℕ) → i < n → Some k ≡ oldest (is_among peers) w.mail → calmed peers (n - i) w ≡ calmed peers (n - (i + 1)) (delivered k w)
one_turn peers n i w k below is = ap (λ j. calmed peers j w) (one_more n i below) ∙ (turn peers (n - (i + 1)) w ∙ rw (← is) refl)

pub last_turn : (peers : List Bool) (n i : ℕ) (w : Run) → i < n → None ≡ oldest (is_among peers) w.mail → calmed peers (n - i) w ≡ w
last_turn peers n i w below is = ap (λ j. calmed peers j w) (one_more n i below) ∙ (turn peers (n - (i + 1)) w ∙ rw (← is) refl)
