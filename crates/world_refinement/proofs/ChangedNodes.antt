-- The nodes and the roles of a world after the node of one peer changed, and what was said once a peer
-- has sent its messages.
use Rattle.std.proofs.Common.{◌≡◌, ◌<◌, ℕ, zero, suc, nat_lt, true, false, ◌⊎◌, inl, inr, length, List, [], ◌∷◌, ◌++◌, map, Option, None, Some, slice_get, slice_set, arith, refl, sym, ap, ◌∙◌, subst}
use Rattle.ens_base.proofs.Lists.{in_left, in_right}
use Rattle.std.specs.Prelude.{All}
use Rattle.std.proofs.lemmas.Bool.{and_parts}
use Rattle.std.proofs.lemmas.Bool.Decides.{nat_tests}
use Rattle.std.proofs.lemmas.List.Elements.{All-head, All-tail}
use Rattle.std.proofs.lemmas.Option.{none-some, same_Some, get_or_from_slice_get, slice_get_within}
use Rattle.ens_base.specs.Lists.{◌∈◌}
use Rattle.ens_base.specs.View.{IsPeer}
use Rattle.protocol_laws.specs.Ledger.{put}
use Rattle.role_laws.specs.Roles.{Said, Sent}
use Rattle.leader_output.specs.declared.out.Outgoing.{Outgoing}
use Rattle.network.specs.Mail.{Mail, posted}
use Rattle.protocol_laws.proofs.Maps.{put_then}
use Rattle.wire_frames.specs.declared.frame.Frame.{Frame}
use Rattle.world_spec.specs.Nodes.{Node, is_down, all_down}
use Rattle.world_spec.specs.Runs.{place_of, frame_from, posted_all}
use Rattle.world_spec.proofs.Growth.{sent_after}
use Rattle.world_refinement.specs.Roles.{role_of, role_at, roles_of, said_in}
use Rattle.world_refinement.specs.Worlds.{AllFrom}
use Rattle.step_refinement.specs.Roles.{said_of, said_by, said_in_sends}

-- ## Places

pub set_same : {A : Type 0} (xs : List A) (p : ℕ) (y m : A) → slice_get xs p ≡ Some m → slice_get (slice_set xs p y) p ≡ Some y
set_same [] p y m is = absurd (none-some m is)
set_same (x ∷ xs) zero y m is = refl
set_same (x ∷ xs) (suc p) y m is = set_same xs p y m is

pub set_other : {A : Type 0} (xs : List A) (p q : ℕ) (y : A) → (p ≡ q → ⊥) → slice_get (slice_set xs p y) q ≡ slice_get xs q
set_other [] p q y other = refl
set_other (x ∷ xs) zero zero y other = absurd (other refl)
set_other (x ∷ xs) zero (suc q) y other = refl
set_other (x ∷ xs) (suc p) zero y other = refl
set_other (x ∷ xs) (suc p) (suc q) y other = set_other xs p q y (λ same. other (ap suc same))

-- ## Roles

-- the place of a peer
pub number : (p : ℕ) → IsPeer p → suc (place_of p) ≡ p
number p peer = omega (arith, peer.0)

-- a peer at another place has another number
pub apart : (p place : ℕ) → (place_of p ≡ place → ⊥) → p ≡ suc place → ⊥
apart p place other same = other (omega (arith, same))

-- the role of the peer whose node is at its place
pub role_there : (nodes : List Node) (p : ℕ) → IsPeer p → (node : Node) → slice_get nodes (place_of p) ≡ Some node → roles_of nodes p ≡ role_of node
role_there nodes p peer node at = subst (λ (q : ℕ). roles_of nodes q ≡ role_of node) (number p peer) (ap role_at at)

-- the roles after the node of a peer changed
pub role_put : (nodes : List Node) (p : ℕ) → IsPeer p → (node new : Node) → slice_get nodes (place_of p) ≡ Some node → (q : ℕ) → roles_of (slice_set nodes (place_of p) new) q ≡ put (roles_of nodes) p (role_of new) q
role_put nodes p peer node new at = put_then (roles_of nodes) p (role_of new) (λ q role. roles_of (slice_set nodes (place_of p) new) q ≡ role) here other
  where
    here : roles_of (slice_set nodes (place_of p) new) p ≡ role_of new
    here = role_there (slice_set nodes (place_of p) new) p peer new (set_same nodes (place_of p) new node at)

    other : (q : ℕ) → (p ≡ q → ⊥) → roles_of (slice_set nodes (place_of p) new) q ≡ roles_of nodes q
    other zero n = refl
    other (suc place) n = ap role_at (set_other nodes (place_of p) place new (λ same. n (sym (number p peer) ∙ ap suc same)))

-- ## What was said

-- what is said by one or the other
said_in_both : (xs ys : List Frame) (m : Sent) → m ∈ said_in (xs ++ ys) → (m ∈ said_in xs) ⊎ (m ∈ said_in ys)
said_in_both [] ys m at = inr at
said_in_both (f ∷ xs) ys m at = by_said (said_of f.message) at (λ there. said_in_both xs ys m there)
  where
    further : (said : Said) → (m ∈ said_in xs) ⊎ (m ∈ said_in ys) → (m ∈ said_by f.from (Some said) (said_in xs)) ⊎ (m ∈ said_in ys)
    further said (inl x) = inl (inr x)
    further said (inr y) = inr y

    by_said : (o : Option Said) → m ∈ said_by f.from o (said_in (xs ++ ys)) → (m ∈ said_in (xs ++ ys) → (m ∈ said_in xs) ⊎ (m ∈ said_in ys)) → (m ∈ said_by f.from o (said_in xs)) ⊎ (m ∈ said_in ys)
    by_said None there rest = rest there
    by_said (Some said) (inl e) rest = inl (inl e)
    by_said (Some said) (inr there) rest = further said (rest there)

said_in_frames : (p : ℕ) (sends : List Outgoing) → said_in (map (frame_from p) sends) ≡ said_in_sends p sends
said_in_frames p [] = refl
said_in_frames p (o ∷ sends) = ap (λ (rest : List Sent). said_by p (said_of o.message) rest) (said_in_frames p sends)

-- what was said once a peer has sent these messages
pub said_posted : (p : ℕ) (sends : List Outgoing) (mail : Mail) (m : Sent) → m ∈ said_in (posted_all (map (frame_from p) sends) mail).sent → m ∈ (said_in_sends p sends ++ said_in mail.sent)
said_posted p sends mail m at = by_place (said_in_both mail.sent (map (frame_from p) sends) m (subst (λ (frames : List Frame). m ∈ said_in frames) (sent_after (map (frame_from p) sends) mail) at))
  where
    by_place : (m ∈ said_in mail.sent) ⊎ (m ∈ said_in (map (frame_from p) sends)) → m ∈ (said_in_sends p sends ++ said_in mail.sent)
    by_place (inl old) = in_right (said_in_sends p sends) (said_in mail.sent) m old
    by_place (inr new) = in_left (said_in_sends p sends) (said_in mail.sent) m (subst (λ (said : List Sent). m ∈ said) (said_in_frames p sends) new)

-- what the message of this number says was said
pub said_at : (frames : List Frame) (n : ℕ) (f : Frame) (said : Said) → slice_get frames n ≡ Some f → said_of f.message ≡ Some said → (let sent : Sent = record { from = f.from; said = said } in sent) ∈ said_in frames
said_at [] n f said is says = absurd (none-some f is)
said_at (x ∷ frames) zero f said is says = subst (λ (y : Frame). (let sent : Sent = record { from = f.from; said = said } in sent) ∈ said_by y.from (said_of y.message) (said_in frames)) (sym (same_Some x f is))
    (subst (λ (o : Option Said). (let sent : Sent = record { from = f.from; said = said } in sent) ∈ said_by f.from o (said_in frames)) (sym says) (inl refl))
said_at (x ∷ frames) (suc n) f said is says = further (said_of x.message) (said_at frames n f said is says)
  where
    further : (o : Option Said) → (let sent : Sent = record { from = f.from; said = said } in sent) ∈ said_in frames → (let sent : Sent = record { from = f.from; said = said } in sent) ∈ said_by x.from o (said_in frames)
    further None at = at
    further (Some other) at = inr at

-- ## All messages

-- what the message of this number holds
pub frame_at : (P : Frame → Type 0) (frames : List Frame) (n : ℕ) (f : Frame) → slice_get frames n ≡ Some f → All P frames → P f
frame_at P frames n f is hold = subst P (get_or_from_slice_get frames n f f is) (hold n f (slice_get_within frames n f is))

-- ## Messages from a number on

pub get_push : (xs : List Frame) (f g : Frame) (n : ℕ) → slice_get (xs ++ f ∷ []) n ≡ Some g → (slice_get xs n ≡ Some g) ⊎ (g ≡ f)
get_push [] f g zero is = inr (sym (same_Some f g is))
get_push [] f g (suc n) is = absurd (none-some g is)
get_push (x ∷ xs) f g zero is = inl is
get_push (x ∷ xs) f g (suc n) is = get_push xs f g n is

-- a property of each message from the number on and of all new ones
pub from_posted : (first : ℕ) (P : Frame → Type 0) (frames : List Frame) (m : Mail) → AllFrom first P m.sent → All P frames → AllFrom first P (posted_all frames m).sent
from_posted first P [] m old new = old
from_posted first P (f ∷ frames) m old new = from_posted first P frames (posted m f) (λ n g later at. by n g later (get_push m.sent f g n at)) (All-tail P f frames new)
  where
    by : (n : ℕ) (g : Frame) → nat_lt n first ≡ false → (slice_get m.sent n ≡ Some g) ⊎ (g ≡ f) → P g
    by n g later (inl before) = old n g later before
    by n g later (inr same) = subst P (sym same) (All-head P f frames new)

-- after all messages none was sent
pub none_from : (P : Frame → Type 0) (sent : List Frame) → AllFrom (length sent) P sent
none_from P sent n f later at = absurd (beyond n (length sent) (slice_get_within sent n f at) later)
  where
    beyond : (n size : ℕ) → n < size → nat_lt n size ≡ false → ⊥
    beyond n size less later = grind (arith, nat_tests)

-- ## Nodes that are down

-- each node is down
pub all_are_down : (nodes : List Node) (place : ℕ) (node : Node) → all_down nodes ≡ true → slice_get nodes place ≡ Some node → is_down node ≡ true
all_are_down [] place node down at = absurd (none-some node at)
all_are_down (x ∷ nodes) zero node down at = subst (λ (n : Node). is_down n ≡ true) (same_Some x node at) (and_parts (is_down x) (all_down nodes) down).0
all_are_down (x ∷ nodes) (suc place) node down at = all_are_down nodes place node (and_parts (is_down x) (all_down nodes) down).1 at
