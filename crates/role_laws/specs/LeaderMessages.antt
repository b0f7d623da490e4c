-- What the messages of calls say.
use Rattle.std.specs.Prelude.{◌≡◌, ℕ, ◌≤◌, true, List, Option, Some}
use Rattle.protocol_laws.specs.Objects.{epoch_of, IsGenuine}
use Rattle.protocol_laws.specs.Protocol.{State}
use Rattle.role_laws.specs.Tables.{Object, Turn, Ghosts}
use Rattle.role_laws.specs.Leaders.{IsObjectOf}

-- Get: a round was started for a call on the key
pub record GetSays (g : Ghosts) (s : State) (d r : ℕ) (k : List ℕ) : Type 0 where
  pub turn : Turn
  pub started : g.turn d r ≡ Some turn
  pub on_key : (s.book.asked turn.call).key ≡ k

-- Check: the round was started
pub record CheckSays (g : Ghosts) (d r : ℕ) : Type 0 where
  pub turn : Turn
  pub started : g.turn d r ≡ Some turn

-- Put: the object of a proposed version of the epoch
pub record PutSays (s : State) (d : ℕ) (k : List ℕ) (v : ℕ) (x : Object) : Type 0 where
  pub proposed : s.objects.proposed v ≡ true
  pub key : s.objects.key v ≡ k
  pub epoch : epoch_of v ≡ d
  pub object : IsObjectOf s v x

-- the reply of peer q to a read: its entry of the key
pub record GetReplySays (g : Ghosts) (s : State) (q d r : ℕ) (k : List ℕ) (entry : ℕ) (object : Option Object) : Type 0 where
  pub turn : Turn
  pub started : g.turn d r ≡ Some turn
  pub genuine : IsGenuine s.objects d k entry
  pub reached : d ≤ s.objects.ledger.ballot q
  pub given : s.objects.floor q d k ≤ entry
  pub stood : s.book.stood turn.call q ≤ d
  pub settled : s.objects.settled_by turn.base q ≡ true → turn.base ≤ entry
  pub holds : (x : Object) → object ≡ Some x → IsObjectOf s entry x

-- the reply of peer q to a check
pub record CheckReplySays (g : Ghosts) (s : State) (q d r : ℕ) : Type 0 where
  pub turn : Turn
  pub started : g.turn d r ≡ Some turn
  pub stood : s.book.stood turn.call q ≤ d
