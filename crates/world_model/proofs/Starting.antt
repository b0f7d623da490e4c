-- Peers start one after another.
use Rattle.std.proofs.Common.{◌≡◌, ◌+◌, ℕ, zero, suc, Some, List, [], ◌∷◌, ◌++◌, length, map, replicate, slice_get, refl, ap, subst, ◌∙◌, sym, add-one}
use Rattle.std.proofs.lemmas.List.{map-append, length-append}
use Rattle.std.proofs.lemmas.Option.{same_Some, none-some}
use Rattle.world_spec.proofs.Taken.{hashed_none, hashed_all}
use Rattle.world_spec.specs.Held.{Account, HasHashed, empty_stores}
use Rattle.peer_state.specs.declared.state.Mode.{Mode}
use Rattle.world_spec.specs.Nodes.{Down, opening_node, opening_strings}
use Rattle.world_spec.specs.Runs.{repeated}
use Rattle.world_spec.specs.Steps.{StartsAs}
use Rattle.world_model.proofs.Numbers.{shifted, shifted_back}
use Rattle.world_model.specs.Peers.{node_of, AreNumbered}
use Rattle.world_model.specs.declared.peer.WorldPeer.{WorldPeer}

-- the first n peers have started, and the hasher took the strings of the starts
pub record Started (mode : Mode) (view : List ℕ) (n : ℕ) (peers : List WorldPeer) (first now : Account) : Type 0 where
  pub nodes : map node_of peers ≡ replicate n (opening_node mode view)
  pub numbered : AreNumbered peers
  pub count : length peers ≡ n
  pub has : HasHashed (repeated n (opening_strings mode view)) first now

pub none_started : (mode : Mode) (view : List ℕ) (first : Account) → Started mode view 0 [] first first
none_started mode view first = record { nodes = refl; numbered = λ place p here. absurd (none-some p here); count = refl; has = hashed_none first }

replicate_more : {A : Type 0} (n : ℕ) (x : A) → replicate n x ++ x ∷ [] ≡ replicate (suc n) x
replicate_more zero x = refl
replicate_more (suc n) x = ap (λ xs. x ∷ xs) (replicate_more n x)

last_number : (p x : WorldPeer) (n : ℕ) → Some p ≡ Some x → p.me ≡ n → x.me ≡ n
last_number p x n is me = rw (← same_Some p x is) me

numbered_from : (base : ℕ) (peers : List WorldPeer) (p : WorldPeer) → p.me ≡ length peers + base → ((q : ℕ) (x : WorldPeer) → slice_get peers q ≡ Some x → x.me ≡ q + base)
    → (q : ℕ) (x : WorldPeer) → slice_get (peers ++ p ∷ []) q ≡ Some x → x.me ≡ q + base
numbered_from base [] p me numbered zero x here = last_number p x (zero + base) here me
numbered_from base [] p me numbered (suc q) x here = absurd (none-some x here)
numbered_from base (y ∷ ys) p me numbered zero x here = numbered zero x here
numbered_from base (y ∷ ys) p me numbered (suc q) x here =
    shifted_back x.me q base (numbered_from (base + 1) ys p (shifted p.me (length ys) base me) (λ r o found. shifted o.me r base (numbered (suc r) o found)) q x here)

pub one_started : (mode : Mode) (view : List ℕ) (n : ℕ) (peers : List WorldPeer) (p : WorldPeer) (first mid now : Account) → Started mode view n peers first mid → p.me ≡ n + 1 → StartsAs mid now mode view (Down empty_stores) (node_of p)
    → Started mode view (n + 1) (peers ++ p ∷ []) first now
one_started mode view n peers p first mid now old me starts = record {
  nodes = map-append node_of peers (p ∷ []) ∙ (rw old.nodes (rw starts.is (replicate_more n (opening_node mode view) ∙ ap (λ k. replicate k (opening_node mode view)) (sym (add-one n)))));
  numbered = numbered_from 1 peers p (rw old.count me) old.numbered;
  count = length-append peers (p ∷ []) ∙ rw old.count refl;
  has = subst (λ k. HasHashed (repeated k (opening_strings mode view)) first now) (sym (add-one n)) (hashed_all (repeated n (opening_strings mode view)) (opening_strings mode view) first mid now old.has starts.has);
}
