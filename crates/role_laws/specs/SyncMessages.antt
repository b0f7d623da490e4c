-- What messages of elections, changes and syncs say, and all peers at once.
use Rattle.std.specs.Prelude.{◌≡◌, ℕ, ◌≤◌, Bool, true, ◌||◌, List}
use Rattle.protocol_laws.specs.Objects.{Map, Objects, IsGenuine}
use Rattle.role_laws.specs.Facts.{Lines}

-- a give of a tree, and the map that it was made of: the sender has reached the epoch, and if it
-- trusts its tree or is firm, the map has each version that it has had since then
pub record GiveSays (g : Lines) (o : Objects) (q d : ℕ) (flag : Bool) (shown : Map) : Type 0 where
  pub reached : d ≤ o.ledger.ballot q
  pub genuine : (k : List ℕ) → IsGenuine o d k (shown k)
  pub given : (flag || g.firm q) ≡ true → (k : List ℕ) → o.floor q d k ≤ shown k
