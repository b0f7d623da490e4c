-- One peer of a world takes a step, or changes.
use Rattle.std.proofs.Common.{◌≡◌, ◌<◌, ◌≤◌, ◌+◌, ℕ, zero, suc, Option, Some, List, [], ◌∷◌, ◌++◌, length, map, slice_get, slice_set, refl, ap, ◌∙◌, arith}
use Rattle.std.proofs.lemmas.List.{map-set, length-map, length-set}
use Rattle.std.proofs.lemmas.Option.{slice_get-map, same_Some, none-some}
use Rattle.std.specs.Prelude.{option_map}
use Rattle.network.specs.Mail.{most_messages}
use Rattle.peer_state.specs.declared.event.Event.{Event}
use Rattle.register_model.specs.declared.note.Note.{Note}
use Rattle.step_plans.specs.Plans.{Out}
use Rattle.world_spec.proofs.Growth.{length_posted_all, changed_hashed}
use Rattle.world_spec.specs.Messages.{IsPastMessages}
use Rattle.world_spec.specs.Nodes.{Node, taken, started, hashed_by_start}
use Rattle.world_spec.specs.Runs.{Run, unhashed, frame_from, place_of, stepped, changed, mode_at, start_strings, with_start}
use Rattle.world_spec.specs.Steps.{outcome}
use Rattle.world_model.proofs.Numbers.{shifted, shifted_back}
use Rattle.world_model.specs.Peers.{node_of, AreNumbered}
use Rattle.world_model.specs.Worlds.{reported}
use Rattle.world_model.specs.declared.peer.WorldPeer.{WorldPeer}

pub node_at : (peers : List WorldPeer) (place : ℕ) (x : WorldPeer) → slice_get peers place ≡ Some x → slice_get (map node_of peers) place ≡ Some (node_of x)
node_at peers place x is = slice_get-map node_of peers place ∙ ap (option_map node_of) is

-- the messages of a step that is reported are past the limit
pub past_limit : (peer : ℕ) (out : Out) (notes : List Note) (w : Run) → most_messages < length w.mail.sent + length out.sends → IsPastMessages (reported peer out notes w)
past_limit peer out notes w over = rw (length_posted_all (map (frame_from peer) out.sends) w.mail) (rw (length-map out.sends (frame_from peer)) over)

module _ (peers : List WorldPeer) (w : Run) (peer : ℕ) (x new : WorldPeer) (nodes : w.nodes ≡ map node_of peers) (here : slice_get peers (place_of peer) ≡ Some x) where
  pub took : (event : Event) (out : Out) (notes : List Note) (strings : List (List ℕ)) → x.me ≡ peer → outcome (node_of new) out notes strings ≡ taken x.me event (node_of x)
      → reported peer out notes (record w { nodes = map node_of (slice_set peers (place_of peer) new); hashed = [] }) ≡ unhashed (stepped peer event w)
  took event out notes strings me did = rw nodes (rw (node_at peers (place_of peer) x here) (rw (← me) (rw (← did) (rw me (rw (map-set node_of peers (place_of peer) new) (rw (← nodes) refl))))))

  -- the strings that a step hashed
  pub took_strings : (event : Event) → x.me ≡ peer → (stepped peer event w).hashed ≡ w.hashed ++ (taken x.me event (node_of x)).hashed
  took_strings event me = rw nodes (rw (node_at peers (place_of peer) x here) (rw me refl))

  -- the strings that a start hashed
  pub start_strings_at : (with_start peer w).hashed ≡ w.hashed ++ hashed_by_start (mode_at peer w) w.view (node_of x)
  start_strings_at =
      let found : slice_get w.nodes (place_of peer) ≡ Some (node_of x) = ap (λ (ns : List Node). slice_get ns (place_of peer)) nodes ∙ node_at peers (place_of peer) x here in
      ap (λ h. h ++ start_strings (mode_at peer w) w.view (slice_get w.nodes (place_of peer))) (changed_hashed peer (started (mode_at peer w) w.view) w) ∙ ap (λ (o : Option Node). w.hashed ++ start_strings (mode_at peer w) w.view o) found

  pub did_change : (change : Node → Node) → node_of new ≡ change (node_of x) → record w { nodes = map node_of (slice_set peers (place_of peer) new) } ≡ changed peer change w
  did_change change did = rw nodes (rw (node_at peers (place_of peer) x here) (rw (← did) (rw (map-set node_of peers (place_of peer) new) (rw (← nodes) refl))))

  -- a peer that was started, in a world that keeps no hashed strings
  pub did_start : node_of new ≡ started (mode_at peer w) w.view (node_of x) → unhashed (record w { nodes = map node_of (slice_set peers (place_of peer) new) }) ≡ unhashed (with_start peer w)
  did_start did = ap unhashed (did_change (started (mode_at peer w) w.view) did)

same_number : (x new p : WorldPeer) (n : ℕ) → Some new ≡ Some p → new.me ≡ x.me → x.me ≡ n → p.me ≡ n
same_number x new p n is same numbered = rw (← same_Some new p is) (same ∙ numbered)

still_from : (base : ℕ) (peers : List WorldPeer) (place : ℕ) (x new : WorldPeer) → slice_get peers place ≡ Some x → new.me ≡ x.me
    → ((q : ℕ) (p : WorldPeer) → slice_get peers q ≡ Some p → p.me ≡ q + base) → (q : ℕ) (p : WorldPeer) → slice_get (slice_set peers place new) q ≡ Some p → p.me ≡ q + base
still_from base [] place x new here same numbered q p is = absurd (none-some x here)
still_from base (y ∷ ys) zero x new here same numbered zero p is = same_number x new p (zero + base) is same (numbered zero x here)
still_from base (y ∷ ys) zero x new here same numbered (suc q) p is = numbered (suc q) p is
still_from base (y ∷ ys) (suc place) x new here same numbered zero p is = numbered zero p is
still_from base (y ∷ ys) (suc place) x new here same numbered (suc q) p is =
    shifted_back p.me q base (still_from (base + 1) ys place x new here same (λ r o found. shifted o.me r base (numbered (suc r) o found)) q p is)

-- the peers keep their numbers
pub still_numbered : (peers : List WorldPeer) (place : ℕ) (x new : WorldPeer) → slice_get peers place ≡ Some x → new.me ≡ x.me → AreNumbered peers → AreNumbered (slice_set peers place new)
still_numbered peers place x new here same numbered = still_from 1 peers place x new here same numbered

-- the peer at the index of a number has this number
pub has_number : (peers : List WorldPeer) (peer : ℕ) (x : WorldPeer) → 1 ≤ peer → slice_get peers (place_of peer) ≡ Some x → AreNumbered peers → x.me ≡ peer
has_number peers peer x first here numbered = numbered (place_of peer) x here ∙ omega (arith, first)

-- the number of peers stays the same
pub still_few : (peers : List WorldPeer) (place : ℕ) (new : WorldPeer) → length peers ≤ 31 → length (slice_set peers place new) ≤ 31
still_few peers place new few = rw (length-set peers place new) few
