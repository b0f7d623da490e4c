-- The answers to a Get and to a Put go to the peer that asked, and obey the grammar of frames.
use Rattle.std.specs.Prelude.{IfSome}
use Rattle.std.proofs.Common.{◌≡◌, ◌≢◌, ℕ, Bool, false, not, List, Option, Some, None}
use Rattle.ens_base.specs.Epochs.{same_version}
use Rattle.ens_base.specs.PeerSet.{holds}
use Rattle.ens_base.specs.View.{IsPeer}
use Rattle.ens_base.specs.declared.entry.Entry.{Entry}
use Rattle.ens_base.specs.declared.epoch.Epoch.{Epoch}
use Rattle.stored_formats.specs.declared.object.Object.{Object}
use Rattle.peer_state.specs.PhaseRules.{refusal, unless_refused, gets, row_21, is_version_below, puts_at, puts, row_22, gives, gives_read, row_23}
use Rattle.stored_formats.specs.declared.fact.Fact.{Fact}
use Rattle.phase_rows.specs.Orders.{is_below, is_same}
use Rattle.phase_rows.specs.Peers.{alone}
use Rattle.tree_node.specs.declared.version.TreeVersion.TheVariants.{Two}
use Rattle.tree_node.specs.Positions.{IsPosition}
use Rattle.tree_node.specs.declared.body.TreeBody.{TreeBody}
use Rattle.tree_node.specs.declared.body.TreeBody.TheVariants as bodies
use Rattle.tree_node.specs.declared.position.Position.{Position}
use Rattle.wire_frames.specs.Messages.{ObeysBody}
use Rattle.phase_rows.specs.declared.phase.PhaseOut.{PhaseOut}
use Rattle.phase_rows.specs.declared.phase.Seen.{Seen}
use Rattle.phase_rows.specs.declared.phase.Seen.TheVariants as seens
use Rattle.peer_spec.specs.Drives.{after_put}
use Rattle.leader.proofs.Cases.{either}
use Rattle.peer_spec.proofs.Grammar.{MayGo, none_me, alone_me}

-- the damage that was seen, if any, is at a position of the tree
abbrev pub IsSeenInTree : Seen → Type 0
IsSeenInTree (seens.Damaged at) = IsPosition Two at
IsSeenInTree seens.Nothing = Unit {0}
IsSeenInTree (seens.Held entry object) = Unit {0}
IsSeenInTree (seens.Kept object) = Unit {0}
IsSeenInTree (seens.Stored digest) = Unit {0}

-- what is shown of a node obeys the grammar of frames
abbrev pub IsShown : Option TreeBody → Type 0
IsShown None = Unit {0}
IsShown (Some body) = ObeysBody body

module _ (me : ℕ) (peer : IsPeer me) (from : ℕ) (other : from ≢ me) where
  to_it : holds (alone from) me ≡ false
  to_it = alone_me me from peer other

  refusal_may : (fact : Fact) (trusted : Bool) (ballot : Epoch) → IfSome (refusal fact trusted from ballot) (MayGo me)
  refusal_may fact trusted ballot =
      either (λ (r : Option PhaseOut). IfSome r (MayGo me)) (is_below ballot fact.ballot) _ _ (tt, to_it)
      (either (λ (r : Option PhaseOut). IfSome r (MayGo me)) (not (is_same fact.epoch ballot)) _ _ (tt, none_me me peer)
      (either (λ (r : Option PhaseOut). IfSome r (MayGo me)) (not trusted) _ _ (tt, to_it) tt))

  refused_may : (r : Option PhaseOut) (answer : PhaseOut) → IfSome r (MayGo me) → MayGo me answer → MayGo me (unless_refused r answer)
  refused_may None answer refused given = given
  refused_may (Some out) answer refused given = refused

  gets_may : (ballot : Epoch) (round : ℕ) (key : List ℕ) (seen : Seen) → IsSeenInTree seen → MayGo me (gets from ballot round key seen)
  gets_may ballot round key seens.Nothing is = (tt, none_me me peer)
  gets_may ballot round key (seens.Damaged at) is = (is, to_it)
  gets_may ballot round key (seens.Held entry object) is = (tt, to_it)
  gets_may ballot round key (seens.Kept object) is = (tt, none_me me peer)
  gets_may ballot round key (seens.Stored digest) is = (tt, none_me me peer)

  pub row_21_may : (fact : Fact) (trusted : Bool) (ballot : Epoch) (round : ℕ) (key : List ℕ) (seen : Seen) → IsSeenInTree seen → MayGo me (row_21 fact trusted from ballot round key seen)
  row_21_may fact trusted ballot round key seen is =
      refused_may (refusal fact trusted from ballot) (gets from ballot round key seen) (refusal_may fact trusted ballot) (gets_may ballot round key seen is)

  puts_at_may : (ballot : Epoch) (o : Object) (entry : Option Entry) → MayGo me (puts_at from ballot o entry)
  puts_at_may ballot o None = (tt, to_it)
  puts_at_may ballot o (Some entry) =
      either (MayGo me) (same_version entry.version o.version) _ _ (tt, to_it) (either (MayGo me) (is_version_below o.version entry.version) _ _ (tt, none_me me peer) (tt, to_it))

  puts_may : (ballot : Epoch) (o : Object) (seen : Seen) → IsSeenInTree seen → MayGo me (puts from ballot o seen)
  puts_may ballot o seens.Nothing is = (tt, none_me me peer)
  puts_may ballot o (seens.Damaged at) is = (is, to_it)
  puts_may ballot o (seens.Held entry kept) is = puts_at_may ballot o entry
  puts_may ballot o (seens.Kept kept) is = (tt, none_me me peer)
  puts_may ballot o (seens.Stored digest) is = (tt, none_me me peer)

  pub row_22_may : (fact : Fact) (trusted : Bool) (ballot : Epoch) (o : Object) (seen : Seen) → IsSeenInTree seen → MayGo me (row_22 fact trusted from ballot o seen)
  row_22_may fact trusted ballot o seen is =
      refused_may (refusal fact trusted from ballot) (puts from ballot o seen) (refusal_may fact trusted ballot) (puts_may ballot o seen is)

  pub after_put_may : (ballot : Epoch) (row : PhaseOut) (seen : Seen) → IsSeenInTree seen → MayGo me row → MayGo me (after_put from ballot row seen)
  after_put_may ballot row seens.Nothing is may = may
  after_put_may ballot row (seens.Damaged at) is may = (is, to_it)
  after_put_may ballot row (seens.Held entry object) is may = may
  after_put_may ballot row (seens.Kept object) is may = may
  after_put_may ballot row (seens.Stored digest) is may = may

  gives_may : (trusted : Bool) (ballot : Epoch) (at : Position) (after : Option (List ℕ)) (body : TreeBody) → IsPosition Two at → ObeysBody body → MayGo me (gives trusted from ballot at after body)
  gives_may trusted ballot at after (bodies.Inner mask digests) is obeys = ((is, obeys), to_it)
  gives_may trusted ballot at after (bodies.Page entries more) is obeys = ((is, obeys), to_it)
  gives_may trusted ballot at after (bodies.Damaged place) is obeys = ((is, obeys), to_it)

  gives_read_may : (trusted : Bool) (ballot : Epoch) (at : Position) (after : Option (List ℕ)) (body : Option TreeBody) → IsPosition Two at → IsShown body → MayGo me (gives_read trusted from ballot at after body)
  gives_read_may trusted ballot at after None is shown = (tt, none_me me peer)
  gives_read_may trusted ballot at after (Some body) is shown = gives_may trusted ballot at after body is shown

  pub row_23_may : (fact : Fact) (trusted : Bool) (ballot : Epoch) (at : Position) (after : Option (List ℕ)) (body : Option TreeBody) → IsPosition Two at → IsShown body → MayGo me (row_23 fact trusted from ballot at after body)
  row_23_may fact trusted ballot at after body is shown =
      either (MayGo me) (is_below ballot fact.ballot) _ _ (tt, to_it)
      (either (MayGo me) (is_same ballot fact.ballot) _ _ (gives_read_may trusted ballot at after body is shown) (tt, none_me me peer))
