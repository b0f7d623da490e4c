-- The asks of a sync as the theory sees them, and what a list of asks is once one of them is set.
use Rattle.std.proofs.Common.{◌≡◌, ◌⊎◌, ℕ, zero, suc, ◌+◌, Bool, true, false, List, [], ◌∷◌, ◌++◌, Some, map, arith, refl, ap, sym, ◌∙◌, subst, inl, inr}
use Rattle.std.specs.Prelude.{◌==◌, slice_get, slice_set, if◌then◌else◌}
use Rattle.std.proofs.lemmas.Option.{none-some, same_Some}
use Rattle.ens_base.proofs.Lists.{in-map}
use Rattle.ens_base.specs.Lists.{◌∈◌, AreDistinct}
use Rattle.tree_sync.specs.Asks.{place_of}
use Rattle.tree_sync.specs.declared.asking.Asking.{Asking}
use Rattle.peer_refinement.specs.Seen.{seen_ask, ask_of}
use Rattle.std.proofs.lemmas.Bool.{eq-eqb, eqb-true}

-- the peers that are asked
abbrev pub peers_of : List Asking → List ℕ
peers_of asks = map (λ (a : Asking). a.peer) asks

-- the peer of each ask is asked
pub in_peers : (asks : List Asking) (a : Asking) → a ∈ asks → a.peer ∈ peers_of asks
in_peers asks a at = in-map (λ (x : Asking). x.peer) asks a at

-- ## Places

-- the ask at a place is one of the asks
pub at_place : (asks : List Asking) (place : ℕ) (a : Asking) → slice_get asks place ≡ Some a → a ∈ asks
at_place [] place a at = absurd (none-some a at)
at_place (x ∷ asks) zero a at = inl (sym (same_Some x a at))
at_place (x ∷ asks) (suc n) a at = inr (at_place asks n a at)

-- the ask at the place of a peer is of that peer
pub peer_there : (p : ℕ) (asks : List Asking) (a : Asking) → slice_get asks (place_of p asks) ≡ Some a → a.peer ≡ p
peer_there p [] a at = absurd (none-some a at)
peer_there p (x ∷ asks) a at = by_peer (x.peer == p) refl at (λ t. peer_there p asks a t)
  where
    next : (n : ℕ) → n + 1 ≡ suc n
    next n = omega arith

    by_peer : (b : Bool) → (x.peer == p) ≡ b → slice_get (x ∷ asks) (if b then 0 else place_of p asks + 1) ≡ Some a → (slice_get asks (place_of p asks) ≡ Some a → a.peer ≡ p) → a.peer ≡ p
    by_peer true same at further = ap (λ (y : Asking). y.peer) (sym (same_Some x a at)) ∙ eqb-true x.peer p same
    by_peer false same at further = further (subst (λ n. slice_get (x ∷ asks) n ≡ Some a) (next (place_of p asks)) at)

-- ## An ask that is set

-- once an ask is set, each ask is that one or an old one
pub in_set : (asks : List Asking) (place : ℕ) (b x : Asking) → x ∈ slice_set asks place b → (x ≡ b) ⊎ (x ∈ asks)
in_set [] place b x at = absurd at
in_set (y ∷ asks) zero b x (inl same) = inl same
in_set (y ∷ asks) zero b x (inr at) = inr (inr at)
in_set (y ∷ asks) (suc n) b x (inl same) = inr (inl same)
in_set (y ∷ asks) (suc n) b x (inr at) = further (in_set asks n b x at)
  where
    further : (x ≡ b) ⊎ (x ∈ asks) → (x ≡ b) ⊎ ((x ≡ y) ⊎ (x ∈ asks))
    further (inl same) = inl same
    further (inr there) = inr (inr there)

-- it is there
pub set_there : (asks : List Asking) (place : ℕ) (a b : Asking) → slice_get asks place ≡ Some a → b ∈ slice_set asks place b
set_there [] place a b at = absurd (none-some a at)
set_there (x ∷ asks) zero a b at = inl refl
set_there (x ∷ asks) (suc n) a b at = inr (set_there asks n a b at)

-- and so is each other ask
pub still_there : (asks : List Asking) (place : ℕ) (a b x : Asking) → slice_get asks place ≡ Some a → x ∈ asks → (x ≡ a) ⊎ (x ∈ slice_set asks place b)
still_there [] place a b x at there = absurd there
still_there (y ∷ asks) zero a b x at (inl same) = inl (same ∙ same_Some y a at)
still_there (y ∷ asks) zero a b x at (inr there) = inr (inr there)
still_there (y ∷ asks) (suc n) a b x at (inl same) = inr (inl same)
still_there (y ∷ asks) (suc n) a b x at (inr there) = further (still_there asks n a b x at there)
  where
    further : (x ≡ a) ⊎ (x ∈ slice_set asks n b) → (x ≡ a) ⊎ ((x ≡ y) ⊎ (x ∈ slice_set asks n b))
    further (inl same) = inl same
    further (inr later) = inr (inr later)

-- an ask that is set to itself
pub set_itself : (asks : List Asking) (place : ℕ) (a b : Asking) → slice_get asks place ≡ Some a → b ≡ a → slice_set asks place b ≡ asks
set_itself [] place a b at same = refl
set_itself (x ∷ asks) zero a b at same = ap (λ (y : Asking). y ∷ asks) (same ∙ sym (same_Some x a at))
set_itself (x ∷ asks) (suc n) a b at same = ap (λ (ys : List Asking). x ∷ ys) (set_itself asks n a b at same)

-- the same peers are asked
pub set_peers : (asks : List Asking) (place : ℕ) (a b : Asking) → slice_get asks place ≡ Some a → b.peer ≡ a.peer → peers_of (slice_set asks place b) ≡ peers_of asks
set_peers [] place a b at same = refl
set_peers (x ∷ asks) zero a b at same = ap (λ (p : ℕ). p ∷ peers_of asks) (same ∙ ap (λ (y : Asking). y.peer) (sym (same_Some x a at)))
set_peers (x ∷ asks) (suc n) a b at same = ap (λ (ps : List ℕ). x.peer ∷ ps) (set_peers asks n a b at same)

-- ## The ask of a peer

-- each ask is that of its peer
pub ask_in : (asks : List Asking) (a : Asking) → AreDistinct (peers_of asks) → a ∈ asks → ask_of asks a.peer ≡ seen_ask a
ask_in [] a distinct at = absurd at
ask_in (x ∷ asks) a distinct (inl same) = subst (λ (y : Asking). ask_of (x ∷ asks) y.peer ≡ seen_ask y) (sym same) (here (x.peer == x.peer) (eq-eqb x.peer x.peer refl))
  where
    here : (b : Bool) → b ≡ true → (if b then seen_ask x else ask_of asks x.peer) ≡ seen_ask x
    here true h = refl
    here false h = absurd cc
ask_in (x ∷ asks) a distinct (inr at) = later (x.peer == a.peer) refl (ask_in asks a distinct.1 at)
  where
    later : (b : Bool) → (x.peer == a.peer) ≡ b → ask_of asks a.peer ≡ seen_ask a → (if b then seen_ask x else ask_of asks a.peer) ≡ seen_ask a
    later true same rest = absurd (distinct.0 (subst (λ (p : ℕ). p ∈ peers_of asks) (sym (eqb-true x.peer a.peer same)) (in_peers asks a at)))
    later false same rest = rest

-- the asks of the peers after one of them was set
pub ask_set : (asks : List Asking) (place : ℕ) (a b : Asking) (q : ℕ) → AreDistinct (peers_of asks) → slice_get asks place ≡ Some a → b.peer ≡ a.peer → ask_of (slice_set asks place b) q ≡ (if a.peer == q then seen_ask b else ask_of asks q)
ask_set [] place a b q distinct at same = absurd (none-some a at)
ask_set (x ∷ asks) zero a b q distinct at same = by_peer (b.peer == q) (a.peer == q) (x.peer == q) (ap (λ (p : ℕ). p == q) same) (ap (λ (y : Asking). y.peer == q) (same_Some x a at))
  where
    by_peer : (c d e : Bool) → c ≡ d → e ≡ d → (if c then seen_ask b else ask_of asks q) ≡ (if d then seen_ask b else (if e then seen_ask x else ask_of asks q))
    by_peer true true e h k = refl
    by_peer false false false h k = refl
    by_peer true false e h k = absurd cc
    by_peer false true e h k = absurd cc
    by_peer false false true h k = absurd cc
ask_set (x ∷ asks) (suc n) a b q distinct at same = by_peer (x.peer == q) (a.peer == q) refl refl (ask_set asks n a b q distinct.1 at same)
  where
    by_peer : (c d : Bool) → (x.peer == q) ≡ c → (a.peer == q) ≡ d → ask_of (slice_set asks n b) q ≡ (if d then seen_ask b else ask_of asks q) → (if c then seen_ask x else ask_of (slice_set asks n b) q) ≡ (if d then seen_ask b else (if c then seen_ask x else ask_of asks q))
    by_peer true true h k rest = absurd (distinct.0 (subst (λ (p : ℕ). p ∈ peers_of asks) (eqb-true a.peer q k ∙ sym (eqb-true x.peer q h)) (in_peers asks a (at_place asks n a at))))
    by_peer true false h k rest = refl
    by_peer false true h k rest = rest
    by_peer false false h k rest = rest

-- ## Peers

-- a peer that is asked has an ask
pub peer_in : (asks : List Asking) (p : ℕ) → p ∈ peers_of asks → (a : Asking) × (a ∈ asks) × (a.peer ≡ p)
peer_in [] p at = absurd at
peer_in (x ∷ asks) p (inl same) = (x, inl refl, sym same)
peer_in (x ∷ asks) p (inr at) = let found = peer_in asks p at in (found.0, inr found.1, found.2)

-- the peers once one more is asked
pub in_push : (asks : List Asking) (a : Asking) (p : ℕ) → p ∈ peers_of (asks ++ a ∷ []) → (p ∈ peers_of asks) ⊎ (p ≡ a.peer)
in_push [] a p (inl same) = inr same
in_push [] a p (inr none) = absurd none
in_push (x ∷ asks) a p (inl same) = inl (inl same)
in_push (x ∷ asks) a p (inr at) = further (in_push asks a p at)
  where
    further : (p ∈ peers_of asks) ⊎ (p ≡ a.peer) → ((p ≡ x.peer) ⊎ (p ∈ peers_of asks)) ⊎ (p ≡ a.peer)
    further (inl there) = inl (inr there)
    further (inr here) = inr here
