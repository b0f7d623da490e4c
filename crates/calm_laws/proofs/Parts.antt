-- Small facts on nodes, messages, sets of peers and hashed strings.
use Rattle.std.proofs.Common.{◌≡◌, ◌<◌, ◌==◌, inl, inr, refl, sym, ◌∙◌, arith, ℕ, zero, suc, Bool, true, false, List, [], ◌∷◌, map, length, Option, None, Some}
use Rattle.std.specs.Prelude.{◌≢◌, slice_get, slice_set, slice_index_or}
use Rattle.std.proofs.lemmas.Bool.{eqb-true, eqb-false, false≢true}
use Rattle.std.proofs.lemmas.List.{get_or-set_other}
use Rattle.ens_base.proofs.Lists.{in_left}
use Rattle.ens_base.specs.Lists.{◌∈◌}
use Rattle.ens_base.specs.PeerSet.{holds}
use Rattle.ens_base.specs.View.{IsPeer}
use Rattle.leader_output.specs.declared.out.Outgoing.{Outgoing}
use Rattle.network.specs.Mail.{settled}
use Rattle.peer_state.specs.declared.event.Event.TheVariants as events
use Rattle.phase_rows.specs.Peers.{alone, nobody}
use Rattle.calm_step_laws.specs.PeerRefinement.{AreAmong}
use Rattle.wire_frames.specs.declared.frame.Frame.{Frame}
use Rattle.wire_frames.specs.declared.message.Message.{Message}
use Rattle.world_refinement.specs.WorldSpec.{Node, Run, place_of, frame_from, received, stepped_at}
use Rattle.quorums.proofs.Sets.{no_flag}

-- ## Nodes and messages

pub places_apart : (p q : ℕ) → IsPeer p → IsPeer q → p ≢ q → place_of p ≡ place_of q → ⊥
places_apart p q pp qq other same = other (omega (arith, pp.0, qq.0, same))

-- ## Sets of peers

pub flag_here : (xs : List Bool) (p : ℕ) → p < length xs → slice_index_or (slice_set xs p true) p false ≡ true
flag_here [] p within = absurd (omega (arith, within))
flag_here (x ∷ xs) zero within = refl
flag_here (x ∷ xs) (suc p) within = flag_here xs p (omega (arith, within))

pub flag_kept : (xs : List Bool) (p k : ℕ) → slice_index_or xs k false ≡ true → slice_index_or (slice_set xs p true) k false ≡ true
flag_kept [] p k is = is
flag_kept (x ∷ xs) zero zero is = refl
flag_kept (x ∷ xs) zero (suc k) is = is
flag_kept (x ∷ xs) (suc p) zero is = is
flag_kept (x ∷ xs) (suc p) (suc k) is = flag_kept xs p k is

pub alone_has : (p : ℕ) → IsPeer p → holds (alone p) p ≡ true
alone_has p peer = flag_here nobody p (omega (arith, peer.1))

pub alone_only : (p k : ℕ) → holds (alone p) k ≡ true → k ≡ p
alone_only p k voted = by (k == p) refl where
  by : (b : Bool) → (k == p) ≡ b → k ≡ p
  by true same = eqb-true k p same
  by false other = absurd (false≢true (sym (get_or-set_other nobody p k true false (eqb-false k p other) ∙ no_flag 32 k) ∙ voted))

-- what one peer is told goes to it alone
pub told_one : (q p : ℕ) (m : Message) (sends : List Outgoing) (f : Frame) → ((x : Outgoing) → x ∈ sends → (x.to ≡ p) × (x.message ≡ m)) → f ∈ map (frame_from q) sends → (let g : Frame = record { from = q; to = p; message = m } in f ≡ g)
told_one q p m [] f only is = absurd is
told_one q p m (x ∷ sends) f only (inl e) = let it = only x (inl refl) in e ∙ rw (it.0, it.1) refl
told_one q p m (x ∷ sends) f only (inr more) = told_one q p m sends f (λ y at. only y (inr at)) more

-- ## Strings

-- what was hashed stays
pub grown : (f : Frame) (n : ℕ) (v : Run) → AreAmong v.hashed (received f n v).hashed
grown f n v s there = by (slice_get v.nodes (place_of f.to)) where
  by : (o : Option Node) → s ∈ (stepped_at o f.to (events.Deliver f.from f.message) (record v { mail = settled v.mail n })).hashed
  by None = there
  by (Some node) = in_left v.hashed _ s there
