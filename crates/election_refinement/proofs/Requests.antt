-- Rules 20 to 23: the requests of a leader, or of a peer that runs a sync. They save nothing, and
-- their answers assert nothing about elections.
use Rattle.std.proofs.Common.{◌≡◌, ℕ, Bool, true, false, not, List, Option, Some, None, refl, sym, subst}
use Rattle.protocol_laws.specs.Ledger.{Ledger}
use Rattle.phase_rules.specs.declared.election.Election.TheVariants.{Preparing, Starting}
use Rattle.ens_base.specs.Epochs.{same_version}
use Rattle.ens_base.specs.declared.entry.Entry.{Entry}
use Rattle.ens_base.specs.declared.epoch.Epoch.{Epoch}
use Rattle.ens_base.specs.declared.epoch.Version.{Version}
use Rattle.stored_formats.specs.declared.object.Object.{Object}
use Rattle.phase_rules.specs.Refusals.{refusal, unless_refused}
use Rattle.phase_rules.specs.Requests.{row_20, gets, row_21, is_version_below, puts_over, puts_at, puts, row_22, is_damaged, gives, gives_read, row_23}
use Rattle.peer_spec.specs.Drives.{after_put}
use Rattle.peer_state.specs.Moves.{follower, stopped_leading, without_candidacy, left, turned}
use Rattle.peer_state.specs.declared.state.Phase.{Phase}
use Rattle.peer_state.specs.declared.state.Phase.TheVariants as phases
use Rattle.peer_state.specs.declared.state.State.{State}
use Rattle.stored_formats.specs.declared.fact.Fact.{Fact}
use Rattle.phase_rows.specs.Orders.{is_below, is_same}
use Rattle.phase_rows.specs.Rows.{silent}
use Rattle.tree_sync.specs.Running.{Running}
use Rattle.tree_node.specs.declared.body.TreeBody.{TreeBody}
use Rattle.tree_node.specs.declared.position.Position.{Position}
use Rattle.phase_rows.specs.declared.phase.PhaseOut.{PhaseOut}
use Rattle.phase_rows.specs.declared.phase.Seen.{Seen}
use Rattle.phase_rows.specs.declared.phase.Seen.TheVariants as seens
use Rattle.phase_rows.specs.declared.phase.Then.{Then}
use Rattle.phase_rows.specs.declared.phase.Then.TheVariants as thens
use Rattle.election_refinement.proofs.Calls.{BeginsNothing}
use Rattle.election_refinement.proofs.Reaching.{Course}
use Rattle.election_refinement.proofs.Rows.{Fits, Goes, saved_in, stored_in, settled, made_way, ThenHolds, none_runs, unmoved, enters, enters_alone}
use Rattle.election_refinement.proofs.Sets.{RowSays}
use Rattle.election_refinement.proofs.Tests.{by_test}
use Rattle.election_refinement.specs.Refinement.{PhaseHolds, may_wait, SyncHolds}

-- ## A peer that steps down, or no longer trusts its tree

stopped_holds : (l : Ledger) (p : ℕ) (fact : Fact) (phase : Phase) → PhaseHolds l p fact phase → PhaseHolds l p fact (stopped_leading phase)
stopped_holds l p fact (phases.Leading leadership) old = tt
stopped_holds l p fact (phases.Following f) old = old
stopped_holds l p fact (phases.Probing b) old = old
stopped_holds l p fact (phases.Electing e) old = old

without_holds : (l : Ledger) (p : ℕ) (fact : Fact) (phase : Phase) → PhaseHolds l p fact phase → PhaseHolds l p fact (without_candidacy phase)
without_holds l p fact (phases.Leading leadership) old = old
without_holds l p fact (phases.Following f) old = old
without_holds l p fact (phases.Probing b) old = old
without_holds l p fact (phases.Electing (Preparing base promises asked age)) old = old
without_holds l p fact (phases.Electing (Starting new accepts age)) old = tt

stopped_runs : (l : Ledger) (p : ℕ) (fact : Fact) (phase : Phase) (sync : Option Running) → SyncHolds l p fact (may_wait phase) sync → SyncHolds l p fact (may_wait (stopped_leading phase)) sync
stopped_runs l p fact (phases.Leading leadership) sync runs = none_runs l l p fact fact true sync runs
stopped_runs l p fact (phases.Following f) sync runs = runs
stopped_runs l p fact (phases.Probing b) sync runs = runs
stopped_runs l p fact (phases.Electing e) sync runs = runs

module _ {c : Course} {l : Ledger} {stored : Option Fact} where
  open c use {peer as p}

  pub left_fits : (leave : Bool) (x : State) → Fits c l x stored → Fits c l (left leave x) stored
  left_fits true x h = enters h (stopped_leading x.phase) (stopped_holds l p x.fact x.phase h.peer.phase) (stopped_runs l p x.fact x.phase x.sync h.peer.sync)
  left_fits false x h = h

  pub turned_fits : (then : Then) (x : State) → BeginsNothing then → Fits c l x stored → Fits c l (turned p then x) stored
  turned_fits thens.Stay x nothing h = h
  turned_fits thens.Follow x nothing h = enters_alone h follower tt
  turned_fits (thens.Lead fact) x nothing h = absurd nothing
  turned_fits thens.Untrust x nothing h = record {
    reaches = h.reaches;
    peer = record { saved = h.peer.saved; kept = h.peer.kept; phase = without_holds l p x.fact (stopped_leading x.phase) (stopped_holds l p x.fact x.phase h.peer.phase); sync = tt };
  }
  turned_fits thens.Put x nothing h = h
  turned_fits thens.Resume x nothing h = h
  turned_fits (thens.SyncOn fact) x nothing h = absurd nothing
  turned_fits (thens.Rule n) x nothing h = h
  turned_fits (thens.OnKeys n) x nothing h = h

-- no sync makes way for another one
made_no_way : (then : Then) (x : State) → BeginsNothing then → made_way then x ≡ x
made_no_way (thens.SyncOn fact) x nothing = absurd nothing
made_no_way other x nothing = refl

begins_none : (l : Ledger) (x : State) (then : Then) → BeginsNothing then → ThenHolds l x then
begins_none l x (thens.SyncOn fact) nothing = absurd nothing
begins_none l x other nothing = tt

-- ## Rows that concern no election

-- the row saves nothing, its message asserts nothing, and it begins nothing
pub record IsHarmless (row : PhaseOut) : Type 0 where
  pub save : row.save ≡ None
  pub says : (l : Ledger) (p : ℕ) → RowSays l p row.message
  pub next : BeginsNothing row.then

pub harmless_goes : {c : Course} {l : Ledger} {x : State} {stored : Option Fact} → Fits c l x stored → (row : PhaseOut) → IsHarmless row → Goes c l stored (x, row)
harmless_goes {c} {l} {x} {stored} h row harmless =
    unmoved (subst (λ y. Fits c l y (stored_in row.save stored)) (sym (made_no_way row.then (turned c.peer row.then (saved_in row.save (left row.leave x))) harmless.next))
    (subst fits_with (sym harmless.save) (turned_fits row.then (left row.leave x) harmless.next (left_fits row.leave x h)))) (harmless.says l c.peer) (begins_none l (settled c.peer row x) row.then harmless.next)
  where
    fits_with : Option Fact → Type 0
    fits_with save = Fits c l (turned c.peer row.then (saved_in save (left row.leave x))) (stored_in save stored)

quiet_row : (then : Then) → BeginsNothing then → IsHarmless (silent then)
quiet_row then next = record { save = refl; says = λ l p. tt; next = next }

pub row_20_harmless : (fact : Fact) (from : ℕ) (ballot : Epoch) (round : ℕ) → IsHarmless (row_20 fact from ballot round)
row_20_harmless fact from ballot round =
    by_test IsHarmless (is_below ballot fact.ballot) _ _
    (λ below. record { save = refl; says = λ l p. tt; next = tt })
    (λ above. by_test IsHarmless (is_same ballot fact.ballot) _ _
    (λ same. record { save = refl; says = λ l p. tt; next = tt })
    (λ other. quiet_row thens.Stay tt))

-- a refusal, or the answer
refused_or : (fact : Fact) (trusted : Bool) (from : ℕ) (ballot : Epoch) (answer : PhaseOut) → IsHarmless answer → IsHarmless (unless_refused (refusal fact trusted from ballot) answer)
refused_or fact trusted from ballot answer harmless = let P : Option PhaseOut → Type 0 = λ refused. IsHarmless (unless_refused refused answer) in
    by_test P (is_below ballot fact.ballot) _ _
    (λ below. record { save = refl; says = λ l p. tt; next = tt })
    (λ above. by_test P (not (is_same fact.epoch ballot)) _ _
    (λ other. quiet_row thens.Stay tt)
    (λ same. by_test P (not trusted) _ _
    (λ untrusted. record { save = refl; says = λ l p. tt; next = tt })
    (λ trusts. harmless)))

gets_harmless : (from : ℕ) (ballot : Epoch) (round : ℕ) (key : List ℕ) (seen : Seen) → IsHarmless (gets from ballot round key seen)
gets_harmless from ballot round key seens.Nothing = quiet_row thens.Stay tt
gets_harmless from ballot round key (seens.Damaged at) = record { save = refl; says = λ l p. tt; next = tt }
gets_harmless from ballot round key (seens.Held entry object) = record { save = refl; says = λ l p. tt; next = tt }
gets_harmless from ballot round key (seens.Kept object) = quiet_row thens.Stay tt
gets_harmless from ballot round key (seens.Stored digest) = quiet_row thens.Stay tt

pub row_21_harmless : (fact : Fact) (trusted : Bool) (from : ℕ) (ballot : Epoch) (round : ℕ) (key : List ℕ) (seen : Seen) → IsHarmless (row_21 fact trusted from ballot round key seen)
row_21_harmless fact trusted from ballot round key seen = refused_or fact trusted from ballot (gets from ballot round key seen) (gets_harmless from ballot round key seen)

puts_over_harmless : (from : ℕ) (ballot : Epoch) (object : Object) (version : Version) → IsHarmless (puts_over from ballot object version)
puts_over_harmless from ballot object version =
    by_test IsHarmless (same_version version object.version) _ _
    (λ same. record { save = refl; says = λ l p. tt; next = tt })
    (λ other. by_test IsHarmless (is_version_below object.version version) _ _
    (λ greater. quiet_row thens.Stay tt)
    (λ lower. record { save = refl; says = λ l p. tt; next = tt }))

puts_at_harmless : (from : ℕ) (ballot : Epoch) (object : Object) (entry : Option Entry) → IsHarmless (puts_at from ballot object entry)
puts_at_harmless from ballot object None = record { save = refl; says = λ l p. tt; next = tt }
puts_at_harmless from ballot object (Some entry) = puts_over_harmless from ballot object entry.version

puts_harmless : (from : ℕ) (ballot : Epoch) (object : Object) (seen : Seen) → IsHarmless (puts from ballot object seen)
puts_harmless from ballot object seens.Nothing = quiet_row thens.Stay tt
puts_harmless from ballot object (seens.Damaged at) = record { save = refl; says = λ l p. tt; next = tt }
puts_harmless from ballot object (seens.Held entry kept) = puts_at_harmless from ballot object entry
puts_harmless from ballot object (seens.Kept kept) = quiet_row thens.Stay tt
puts_harmless from ballot object (seens.Stored digest) = quiet_row thens.Stay tt

pub row_22_harmless : (fact : Fact) (trusted : Bool) (from : ℕ) (ballot : Epoch) (object : Object) (seen : Seen) → IsHarmless (row_22 fact trusted from ballot object seen)
row_22_harmless fact trusted from ballot object seen = refused_or fact trusted from ballot (puts from ballot object seen) (puts_harmless from ballot object seen)

pub after_put_harmless : (from : ℕ) (ballot : Epoch) (row : PhaseOut) (seen : Seen) → IsHarmless row → IsHarmless (after_put from ballot row seen)
after_put_harmless from ballot row (seens.Damaged at) harmless = record { save = refl; says = λ l p. tt; next = tt }
after_put_harmless from ballot row seens.Nothing harmless = harmless
after_put_harmless from ballot row (seens.Held entry object) harmless = harmless
after_put_harmless from ballot row (seens.Kept object) harmless = harmless
after_put_harmless from ballot row (seens.Stored digest) harmless = harmless

gives_harmless : (trusted : Bool) (from : ℕ) (ballot : Epoch) (at : Position) (after : Option (List ℕ)) (body : TreeBody) → IsHarmless (gives trusted from ballot at after body)
gives_harmless trusted from ballot at after body =
    by_test IsHarmless (is_damaged body) _ _
    (λ damaged. record { save = refl; says = λ l p. tt; next = tt })
    (λ whole. record { save = refl; says = λ l p. tt; next = tt })

read_harmless : (trusted : Bool) (from : ℕ) (ballot : Epoch) (at : Position) (after : Option (List ℕ)) (body : Option TreeBody) → IsHarmless (gives_read trusted from ballot at after body)
read_harmless trusted from ballot at after None = quiet_row thens.Stay tt
read_harmless trusted from ballot at after (Some body) = gives_harmless trusted from ballot at after body

pub row_23_harmless : (fact : Fact) (trusted : Bool) (from : ℕ) (ballot : Epoch) (at : Position) (after : Option (List ℕ)) (body : Option TreeBody) → IsHarmless (row_23 fact trusted from ballot at after body)
row_23_harmless fact trusted from ballot at after body =
    by_test IsHarmless (is_below ballot fact.ballot) _ _
    (λ below. record { save = refl; says = λ l p. tt; next = tt })
    (λ above. by_test IsHarmless (is_same ballot fact.ballot) _ _
    (λ same. read_harmless trusted from ballot at after body)
    (λ other. quiet_row thens.Stay tt))
