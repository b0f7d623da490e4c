-- Whom a sync asks, and what it sends.
use Rattle.std.specs.Prelude.{◌≡◌, ◌≢◌, ℕ, true, List, All}
use Rattle.ens_base.specs.Lists.{is_in}
use Rattle.ens_base.specs.View.{IsPeer}
use Rattle.ens_base.specs.declared.epoch.Epoch.{Epoch}
use Rattle.leader_output.specs.WireFrames.{Obeys, Message, TreeAsk}
use Rattle.leader_output.specs.declared.out.Outgoing.{Outgoing}
use Rattle.tree_node.specs.declared.version.TreeVersion.TheVariants.{Two}
use Rattle.tree_exchange.specs.Asked.{ArePlaces}
use Rattle.tree_sync.specs.Running.{Running}
use Rattle.tree_sync.specs.declared.asking.Asking.{Asking}

-- the ask is of a member of the view other than `me`, and the positions left to ask are those of a tree
pub record IsOfOther (me : ℕ) (view : List ℕ) (a : Asking) : Type 0 where
  pub peer : IsPeer a.peer
  pub member : is_in view a.peer ≡ true
  pub other : a.peer ≢ me
  pub places : ArePlaces Two a.ask.current a.ask.left

-- the sync asks other members of its view alone, and for positions of a tree
abbrev pub AsksOthers : ℕ → Running → Type 0
AsksOthers me r = All (IsOfOther me r.sync.view) r.asks

-- the message goes to a peer other than `me`, and obeys the grammar of frames
abbrev pub MayGo : ℕ → Outgoing → Type 0
MayGo me s = IsPeer s.to × (s.to ≢ me) × Obeys s.message

-- the message asks for a node of the tree at this ballot
abbrev pub AsksAt : Epoch → Message → Type 0
AsksAt ballot (TreeAsk epoch position after) = epoch ≡ ballot
AsksAt ballot message = ⊥

-- the message asks a member of the sync's view for a node of its tree, at the epoch of the sync's fact
abbrev pub IsQuestion : Running → Outgoing → Type 0
IsQuestion r s = (is_in r.sync.view s.to ≡ true) × AsksAt r.fact.epoch s.message
