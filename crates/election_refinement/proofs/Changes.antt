-- Rules 24 to 26: the leader of an epoch changes its views, and ends the epoch.
use Rattle.std.specs.Prelude.{◌&&◌, not}
use Rattle.std.proofs.Common.{◌≡◌, ℕ, ◌<◌, Bool, true, false, List, [], ◌∷◌, length, if◌then◌else◌, inr, Option, arith, refl, ap, ◌∙◌, sym, subst}
use Rattle.std.proofs.lemmas.Bool.{true≢false}
use Rattle.quorums.specs.Quorums.{is_member}
use Rattle.protocol_laws.specs.Ledger.{Ledger, Add, Drop, MayAdopt, MayCommit, commit, adopt, is_established}
use Rattle.protocol_laws.specs.Numbers.{epoch_number}
use Rattle.call_table.specs.Calls.{has_calls}
use Rattle.protocol_laws.proofs.Epochs.{not_empty}
use Rattle.protocol_laws.specs.Preparing.{proposer_of}
use Rattle.ens_base.specs.PeerSet.{holds}
use Rattle.ens_base.specs.declared.epoch.Epoch.{Epoch}
use Rattle.peer_state.specs.Leading.{older, wished}
use Rattle.peer_state.specs.Moves.{leading}
use Rattle.peer_state.specs.Rows.{begun_change, changes as has_changes, ended, has_begun, leads, wanting, while_25, while_26}
use Rattle.peer_state.specs.declared.state.ChangeState.{ChangeState}
use Rattle.peer_state.specs.declared.state.ChangeState.TheVariants.{Settled, Wanted, Finishing as Finishes}
use Rattle.peer_state.specs.declared.state.Leadership.{Leadership}
use Rattle.peer_state.specs.declared.state.Phase.{Phase}
use Rattle.peer_state.specs.declared.state.Phase.TheVariants as phases
use Rattle.peer_state.specs.declared.state.State.{State}
use Rattle.stored_formats.specs.Facts.{views_after}
use Rattle.stored_formats.specs.declared.fact.Change.{Change as FactChange}
use Rattle.stored_formats.specs.declared.fact.Change.TheVariants as changes
use Rattle.stored_formats.specs.declared.fact.Fact.{Fact}
use Rattle.phase_rows.specs.Orders.{is_joint}
use Rattle.phase_rows.specs.Peers.{alone, others_of}
use Rattle.phase_rows.specs.Rows.{silent, saves_and_sends}
use Rattle.protocol_laws.proofs.Maps.{put_here, mark_here}
use Rattle.phase_rules.specs.Changes.{may_change, row_24, same_view, second_fact}
use Rattle.phase_rules.specs.Finishing.{may_end}
use Rattle.ens_base.specs.Views.{first_view}
use Rattle.wire_frames.specs.declared.message.Message.TheVariants as messages
use Rattle.phase_rows.specs.declared.phase.PhaseOut.{PhaseOut}
use Rattle.phase_rows.specs.declared.phase.Then.{Then}
use Rattle.phase_rows.specs.declared.phase.Then.TheVariants as thens
use Rattle.phase_rows.specs.declared.rules.PhaseRule.TheVariants as phase_rules
use Rattle.election_refinement.proofs.Keeps.{keeps_both, commit_keeps, adopt_keeps, started_keeps}
use Rattle.election_refinement.specs.Keeps.{Keeps}
use Rattle.election_refinement.proofs.Numbers.{proposer_of-number}
use Rattle.election_refinement.proofs.Reaching.{Course, Reaches, reaches_sound, commit_reaches, adopt_reaches}
use Rattle.election_refinement.proofs.Rows.{Fits, Goes, none_runs, unmoved, quiet, follows, rests_in, names}
use Rattle.election_refinement.proofs.Saving.{own_accepted}
use Rattle.election_refinement.proofs.Sets.{alone_then}
use Rattle.election_refinement.proofs.Tests.{by_test}
use Rattle.election_refinement.specs.Refinement.{told_change, IsFitting, IsSecond, IsWanted, ChangeHolds, IsLeading, PhaseHolds, may_wait, SyncHolds}

-- ## Where the change stands

-- a leader that has begun no change has not changed the views
settled_unchanged : (l : Ledger) (fact : Fact) (change : ChangeState) → has_begun change ≡ false → ChangeHolds l fact change → l.changed (epoch_number fact.epoch) ≡ false
settled_unchanged l fact Settled begun old = old
settled_unchanged l fact (Wanted change) begun old = absurd (true≢false begun)
settled_unchanged l fact (Finishes f) begun old = absurd (true≢false begun)

-- an ending epoch is one tick older
pub older_holds : (l : Ledger) (fact : Fact) (change : ChangeState) → ChangeHolds l fact change → ChangeHolds l fact (older change)
older_holds l fact Settled old = old
older_holds l fact (Wanted change) old = old
older_holds l fact (Finishes f) old = record { seq = old.seq; adopted = old.adopted }

-- in an epoch of two views the old one is to be dropped
pub wished_holds : (l : Ledger) (fact first : Fact) (change : ChangeState) → ChangeHolds l fact change → ChangeHolds l fact (wished first change)
wished_holds l fact first Settled old = by_test (ChangeHolds l fact) (is_joint first.views) (Wanted changes.Drop) Settled (λ joint. record { unchanged = old; change = Drop; told = refl; fits = tt }) (λ single. old)
wished_holds l fact first (Wanted change) old = old
wished_holds l fact first (Finishes f) old = old

-- a leader whose epoch ends saved its second fact
pub is_second : {c : Course} {l : Ledger} {x : State} {stored : Option Fact} → Fits c l x stored → (y : Leadership) → IsLeading l c.peer x.fact y → x.fact.seq ≡ 2 → IsSecond l x.fact
is_second h y leading seq = record {
  known = h.peer.saved.known;
  seq = seq;
  later = subst (λ (e : Epoch). 0 < epoch_number e) (sym leading.has) leading.started.first.later;
  own_ballot = sym (leading.has ∙ leading.started.at_ballot);
}

-- a view may be added to a single one
single_fits : (new : List ℕ) (views : List (List ℕ)) → 0 < length views → is_joint views ≡ false → IsFitting (Add new) views
single_fits new [] some single = absurd (omega arith)
single_fits new (view ∷ []) some single = tt
single_fits new (view ∷ old ∷ rest) some single = absurd (true≢false single)

module _ {c : Course} {l : Ledger} {x : State} {stored : Option Fact} (h : Fits c l x stored) where
  open c use {peer as p}

  -- ## Rule 24

  wants : (y : Leadership) (view : List ℕ) → IsLeading l p x.fact y → has_begun y.change ≡ false → is_joint x.fact.views ≡ false → IsLeading l p x.fact (record y { change = Wanted (changes.Add view) })
  wants y view old begun single = record {
    started = old.started;
    established = old.established;
    has = old.has;
    change = record {
      unchanged = settled_unchanged l x.fact y.change begun old.change;
      change = Add view;
      told = refl;
      fits = single_fits view (l.views (epoch_number x.fact.epoch)) (not_empty l (reaches_sound c l h.reaches) (epoch_number x.fact.epoch) h.peer.saved.known.elected) (subst (λ views. is_joint views ≡ false) h.peer.saved.known.views single);
    };
  }

  abbrev Asks : Phase → List ℕ → PhaseOut × Bool → Type 0
  Asks phase view r = Goes c l stored (if r.1 then wanting (changes.Add view) phase x else x, r.0)

  pub rule_24 : (phase : Phase) (view : List ℕ) → PhaseHolds l p x.fact phase → SyncHolds l p x.fact (may_wait phase) x.sync → Asks phase view (row_24 x.fact (leads phase) (has_changes phase) view)
  rule_24 (phases.Leading y) view old runs =
      by_test (Asks (phases.Leading y) view) (may_change x.fact true (has_begun y.change) view) _ _
      (λ may. takes (parts (has_begun y.change) (is_joint x.fact.views) (same_view (first_view x.fact.views) view) may))
      (λ may_not. quiet h)
    where
      parts : (a b c : Bool) → (true && not a && not b && not c) ≡ true → (a ≡ false) × (b ≡ false)
      parts true b c may = absurd (true≢false (sym may))
      parts false true c may = absurd (true≢false (sym may))
      parts false false c may = (refl, refl)

      takes : (has_begun y.change ≡ false) × (is_joint x.fact.views ≡ false) → Asks (phases.Leading y) view (silent (thens.Rule phase_rules.BeginChange), true)
      takes may = names h phase_rules.BeginChange (phases.Leading (record y { change = Wanted (changes.Add view) })) (wants y view old may.0 may.1) runs
  rule_24 (phases.Following f) view old runs = quiet h
  rule_24 (phases.Probing b) view old runs = quiet h
  rule_24 (phases.Electing e) view old runs = quiet h

  -- ## Rule 25

  module _ (y : Leadership) (old : IsLeading l p x.fact y) (wanted : FactChange) (wants_it : IsWanted l x.fact wanted) where
    abbrev d : ℕ
    d = epoch_number x.fact.epoch

    abbrev committed : Ledger
    committed = commit l d wants_it.change

    abbrev after : Ledger
    after = adopt committed p d

    abbrev second : Fact
    second = second_fact x.fact wanted

    proposes : p ≡ proposer_of d
    proposes = sym (proposer_of-number x.fact.epoch h.peer.saved.known.epoch ∙ ap (λ (e : Epoch). e.proposer) (old.has ∙ old.started.at_ballot) ∙ old.started.own)

    later : 0 < d
    later = subst (λ (e : Epoch). 0 < epoch_number e) (sym old.has) old.started.first.later

    own_ballot : x.fact.ballot ≡ x.fact.epoch
    own_ballot = sym (old.has ∙ old.started.at_ballot)

    may_commit : MayCommit l d
    may_commit = record {
      led = later;
      elected = h.peer.saved.known.elected;
      established = subst (λ (e : Epoch). is_established l (epoch_number e) ≡ true) (sym old.has) old.established;
      fresh = wants_it.unchanged;
    }

    reaches_committed : Reaches c committed
    reaches_committed = commit_reaches c l h.reaches d wants_it.change proposes may_commit wants_it.fits

    may_adopt : MayAdopt committed p d
    may_adopt = record { changed = put_here l.changed d true; stands = h.peer.saved.ballot ∙ ap epoch_number own_ballot; first = own_accepted h }

    keeps_committed : Keeps l committed p
    keeps_committed = commit_keeps l p d wants_it.change proposes wants_it.unchanged

    keeps_after : Keeps l after p
    keeps_after = keeps_both l committed after p keeps_committed (adopt_keeps committed p d may_adopt.stands)

    is_second_fact : IsSecond after second
    is_second_fact = record {
      known = record {
        ballot = h.peer.saved.known.ballot;
        epoch = h.peer.saved.known.epoch;
        below = h.peer.saved.known.below;
        elected = h.peer.saved.known.elected;
        is_fact = inr (inr (put_here l.changed d true, refl));
        leader = h.peer.saved.known.leader;
        views = h.peer.saved.known.views;
        change = wants_it.told ∙ ap told_change (sym (put_here l.change d wants_it.change));
      };
      seq = refl;
      later = later;
      own_ballot = own_ballot;
    }

    abbrev ends : Leadership
    ends = record y { change = Finishes (record { accepts2 = alone p; age = 0 }) }

    finishing : IsLeading after p second ends
    finishing = record {
      started = started_keeps l after p keeps_after p second y.leader.fact y.leader.accepts (record { own = old.started.own; first = old.started.first; at_ballot = old.started.at_ballot; accepted = old.started.accepted });
      established = old.established;
      has = old.has;
      change = record { seq = refl; adopted = alone_then (λ q. after.adopted d q ≡ true) p (mark_here l.adopted d p) };
    }

    commits_goes : SyncHolds l p x.fact false x.sync → Goes c l stored (leading ends x, saves_and_sends second (others_of p y.leader.accepts) (messages.Commit second) thens.Stay)
    commits_goes runs = record {
      ledger = after;
      keeps = keeps_after;
      fits = record {
        reaches = adopt_reaches c committed reaches_committed d may_adopt;
        peer = record {
          saved = record { known = is_second_fact.known; ballot = h.peer.saved.ballot; place = put_here l.fact p (record { epoch = d; seq = 2 }) };
          kept = refl;
          phase = finishing;
          sync = none_runs l after p x.fact second false x.sync runs;
        };
      };
      says = is_second_fact;
      syncs = tt;
    }

  begins : (y : Leadership) → IsLeading l p x.fact y → SyncHolds l p x.fact false x.sync → (change : ChangeState) → ChangeHolds l x.fact change → Goes c l stored (leading (begun_change change y x.fact p).0 x, (begun_change change y x.fact p).1)
  begins y old runs Settled holds = rests_in h (phases.Leading y) old runs
  begins y old runs (Wanted wanted) holds = commits_goes y old wanted holds runs
  begins y old runs (Finishes f) holds = rests_in h (phases.Leading y) old runs

  pub rule_25 : (phase : Phase) → PhaseHolds l p x.fact phase → SyncHolds l p x.fact (may_wait phase) x.sync → Goes c l stored (while_25 phase p x)
  rule_25 (phases.Leading y) old runs = begins y old runs y.change old.change
  rule_25 other old runs = quiet h

  -- ## Rule 26

  ends_goes : (change : ChangeState) (unanswered : Bool) → Goes c l stored (x, ended change x.fact p unanswered)
  ends_goes Settled unanswered = quiet h
  ends_goes (Wanted change) unanswered = quiet h
  ends_goes (Finishes f) unanswered = let P : Then → Type 0 = λ turn. Goes c l stored (x, silent turn) in
      by_test P (may_end f x.fact unanswered) _ _
      (λ may. by_test P (is_member (views_after x.fact) p) _ _ (λ member. unmoved h tt tt) (λ stranger. follows h x.phase))
      (λ may_not. quiet h)

  pub rule_26 : (phase : Phase) → Goes c l stored (while_26 phase p x)
  rule_26 (phases.Leading y) = ends_goes y.change (has_calls y.leader.table.calls)
  rule_26 other = quiet h
