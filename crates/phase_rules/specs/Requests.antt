-- The requests of a leader, or of a peer that runs a sync: the ballot, an object, a write, a node
-- of the tree.
use Rattle.std.specs.Prelude.{◌≡◌, ◌⊎◌, ℕ, Bool, true, false, ◌&&◌, ◌||◌, nat_lt, List, Option, Some, None, if◌then◌else◌}
use Rattle.ens_base.specs.Epochs.{same_version}
use Rattle.ens_base.specs.declared.entry.Entry.{Entry}
use Rattle.ens_base.specs.declared.epoch.Epoch.{Epoch}
use Rattle.ens_base.specs.declared.epoch.Version.{Version}
use Rattle.wire_frames.specs.StoredFormats.{Object, Fact}
use Rattle.tree_node.specs.declared.body.TreeBody.{TreeBody}
use Rattle.tree_node.specs.declared.body.TreeBody.TheVariants as bodies
use Rattle.tree_node.specs.declared.position.Position.{Position}
use Rattle.wire_frames.specs.declared.message.Message.TheVariants as messages
use Rattle.wire_frames.specs.declared.message.NackCause.TheVariants as causes
use Rattle.phase_rows.specs.declared.phase.PhaseOut.{PhaseOut}
use Rattle.phase_rows.specs.declared.phase.Seen.{Seen}
use Rattle.phase_rows.specs.declared.phase.Seen.TheVariants.{Nothing, Damaged, Held, Kept, Stored}
use Rattle.phase_rows.specs.declared.phase.Then.{Then}
use Rattle.phase_rows.specs.declared.phase.Then.TheVariants.{Stay, Put}
use Rattle.phase_rows.specs.Orders.{is_below, is_same}
use Rattle.phase_rows.specs.Peers.{alone}
use Rattle.phase_rows.specs.Rows.{silent, sends, refuses_below}
use Rattle.phase_rules.specs.Refusals.{refusal, unless_refused, tells_damage}

-- rule 20, Check: a ballot below the promised one is refused, the promised one is confirmed, and a
-- greater one is not answered
abbrev pub row_20 : Fact → ℕ → Epoch → ℕ → PhaseOut
row_20 fact from ballot round =
    if is_below ballot fact.ballot then refuses_below from ballot fact
    else (if is_same ballot fact.ballot then sends (alone from) (messages.CheckReply ballot round) Stay
    else silent Stay)

-- the answer to a Get, from what the stores returned: the damage, or the entry and the object
abbrev pub gets : ℕ → Epoch → ℕ → List ℕ → Seen → PhaseOut
gets from ballot round key Nothing = silent Stay
gets from ballot round key (Damaged place) = tells_damage from (messages.Nack ballot (causes.Damaged place))
gets from ballot round key (Held entry object) = sends (alone from) (messages.GetReply ballot round key entry object) Stay
gets from ballot round key (Kept object) = silent Stay
gets from ballot round key (Stored digest) = silent Stay

-- rule 21, Get: a peer that accepted the epoch and trusts its tree returns what it has under the
-- key
abbrev pub row_21 : Fact → Bool → ℕ → Epoch → ℕ → List ℕ → Seen → PhaseOut
row_21 fact trusted from ballot round key seen = unless_refused (refusal fact trusted from ballot) (gets from ballot round key seen)

-- whether the first version is below the second: by epoch, then by sequence number
abbrev pub is_version_below : Version → Version → Bool
is_version_below a b = is_below a.epoch b.epoch || (is_same a.epoch b.epoch && nat_lt a.seq b.seq)

-- acknowledge the put
abbrev pub acknowledges : ℕ → Epoch → Object → Then → PhaseOut
acknowledges from ballot object next = sends (alone from) (messages.PutReply ballot object.key object.version) next

-- the answer acknowledges the put, with or without a write
abbrev pub IsAcknowledgement : ℕ → Epoch → Object → PhaseOut → Type 0
IsAcknowledgement from ballot object out =
    (out ≡ acknowledges from ballot object Stay) ⊎ (out ≡ acknowledges from ballot object Put)

-- a put over the version in the tree: an equal version is acknowledged and not written again, over
-- a greater one the put is ignored, and a lower one is overwritten
abbrev pub puts_over : ℕ → Epoch → Object → Version → PhaseOut
puts_over from ballot object version =
    if same_version version object.version then acknowledges from ballot object Stay
    else (if is_version_below object.version version then silent Stay
    else acknowledges from ballot object Put)

-- a put, by the entry of its key in the tree
abbrev pub puts_at : ℕ → Epoch → Object → Option Entry → PhaseOut
puts_at from ballot object None = acknowledges from ballot object Put
puts_at from ballot object (Some entry) = puts_over from ballot object entry.version

-- the answer to a Put, from what the stores returned: the damage, or the put by the entry
abbrev pub puts : ℕ → Epoch → Object → Seen → PhaseOut
puts from ballot object Nothing = silent Stay
puts from ballot object (Damaged place) = tells_damage from (messages.Nack ballot (causes.Damaged place))
puts from ballot object (Held entry kept) = puts_at from ballot object entry
puts from ballot object (Kept kept) = silent Stay
puts from ballot object (Stored digest) = silent Stay

-- rule 22, Put: a peer that accepted the epoch and trusts its tree writes the object, unless the
-- tree has a version at least as great
abbrev pub row_22 : Fact → Bool → ℕ → Epoch → Object → Seen → PhaseOut
row_22 fact trusted from ballot object seen = unless_refused (refusal fact trusted from ballot) (puts from ballot object seen)

-- whether this give reports damage
abbrev pub is_damaged : TreeBody → Bool
is_damaged (bodies.Inner mask digests) = false
is_damaged (bodies.Page entries more) = false
is_damaged (bodies.Damaged place) = true

-- the answer that gives a node, with a flag that says whether the tree is trusted; damage makes it
-- untrusted
abbrev pub gives : Bool → ℕ → Epoch → Position → Option (List ℕ) → TreeBody → PhaseOut
gives trusted from ballot at after body =
    if is_damaged body
    then tells_damage from (messages.TreeGive ballot at after false body)
    else sends (alone from) (messages.TreeGive ballot at after trusted body) Stay

-- the answer that gives what was read, if anything was
abbrev pub gives_read : Bool → ℕ → Epoch → Position → Option (List ℕ) → Option TreeBody → PhaseOut
gives_read trusted from ballot at after None = silent Stay
gives_read trusted from ballot at after (Some body) = gives trusted from ballot at after body

-- rule 23, TreeAsk: a ballot below the promised one is refused; at the promised one the node is
-- given, trusted or not; a greater one is not answered
abbrev pub row_23 : Fact → Bool → ℕ → Epoch → Position → Option (List ℕ) → Option TreeBody → PhaseOut
row_23 fact trusted from ballot at after body =
    if is_below ballot fact.ballot then refuses_below from ballot fact
    else (if is_same ballot fact.ballot then gives_read trusted from ballot at after body
    else silent Stay)
