-- The messages of the rules obey the grammar of frames.
use Rattle.std.specs.Prelude.{All, IfSome}
use Rattle.std.proofs.Common.{◌≡◌, ◌≢◌, ◌≤◌, ◌+◌, ◌-◌, ◌^◌, ◌∙◌, ◌==◌, ◌&&◌, ◌||◌, not, sym, refl, lit≤, ℕ, zero, suc, Bool, true, false, if◌then◌else◌, List, [], ◌∷◌, Option, Some, None, arith}
use Rattle.std.proofs.lemmas.List.{get_or-replicate, get_or-set_other}
use Rattle.std.proofs.lemmas.List.FromFn.{get_or-map-range_with_len}
use Rattle.std.proofs.lemmas.List.Elements.{All-nil, All-cons, All-append}
use Rattle.ens_base.specs.PeerSet.{holds}
use Rattle.ens_base.specs.View.{IsPeer}
use Rattle.quorums.specs.Quorums.{is_quorum, is_member}
use Rattle.phase_rows.specs.Orders.{is_below, is_same, is_newer, may_accept}
use Rattle.phase_rows.specs.Peers.{nobody, alone, those, members, others_of, others_outside}
use Rattle.peer_state.specs.PhaseRules.{refusal, unless_refused, takes, commits, row_16, row_18, row_19, row_20, row_2, Follower, row_8, Probing, row_11, row_15, row_10, promised_by, row_12, first_fact, starts, elected, row_13, row_4, row_14, row_17, Election, Preparing, Starting}
use Rattle.ens_base.specs.declared.epoch.Epoch.{Epoch}
use Rattle.ens_base.proofs.Tests.{itself}
use Rattle.stored_formats.specs.declared.fact.Fact.{Fact}
use Rattle.stored_formats.specs.Facts.{views_after}
use Rattle.wire_frames.specs.Messages.{Obeys}
use Rattle.wire_frames.specs.declared.message.Message.{Message}
use Rattle.wire_frames.specs.declared.message.NackCause.{NackCause}
use Rattle.wire_frames.specs.declared.message.NackCause.TheVariants as causes
use Rattle.phase_rows.specs.declared.phase.PhaseOut.{PhaseOut}
use Rattle.step_plans.specs.Plans.{Out}
use Rattle.step_plans.specs.Sends.{posted, posted_to}
use Rattle.leader_output.specs.declared.out.Outgoing.{Outgoing}
use Rattle.leader.proofs.Cases.{either}
use Rattle.peer_spec.specs.Syncs.{and_sends}
use Rattle.peer_spec.specs.Kept.{MaySend, AllMayGo}
use Rattle.leader_laws.proofs.Sends.{not_itself, other_than}

-- the message of a row, if there is one, obeys the grammar
abbrev pub RowObeys : PhaseOut → Type 0
RowObeys row = IfSome row.message Obeys

-- the message of a row does not go to this peer
abbrev pub IsElsewhere : ℕ → PhaseOut → Type 0
IsElsewhere me row = holds row.to me ≡ false

-- the message of a row, if there is one, obeys the grammar, and goes to other peers
abbrev pub MayGo : ℕ → PhaseOut → Type 0
MayGo me row = RowObeys row × IsElsewhere me row

pub posted_may : (me : ℕ) (test : ℕ → Bool) (word : ℕ → Message) → test me ≡ false → ((p : ℕ) → Obeys (word p)) → (n : ℕ) → n ≤ 31 → All (MaySend me) (posted test word n)
unfolding posted
posted_may me test word none obey zero le = All-nil (MaySend me)
posted_may me test word none obey (suc n) le = All-append (MaySend me) (posted test word n) _ (posted_may me test word none obey n (omega (arith, le))) (by_test (test (n + 1)) refl)
  where
    by_test : (t : Bool) → test (n + 1) ≡ t → All (MaySend me) (if t then record { to = n + 1; message = word (n + 1) } ∷ [] else [])
    by_test true e = All-cons (MaySend me) (record { to = n + 1; message = word (n + 1) }) [] ((omega arith, omega (arith, le)), other_than test me (n + 1) none e, obey (n + 1)) (All-nil (MaySend me))
    by_test false e = All-nil (MaySend me)

pub posted_to_may : (me : ℕ) (set : List Bool) (message : Option Message) → holds set me ≡ false → IfSome message Obeys → All (MaySend me) (posted_to set message)
posted_to_may me set None none obey = All-nil (MaySend me)
posted_to_may me set (Some message) none obey = posted_may me (holds set) (λ p. message) none (λ p. obey) 31 (lit≤ tt)

pub and_sends_may : (me : ℕ) (out : Out) (more : List Outgoing) → AllMayGo me out → All (MaySend me) more → AllMayGo me (and_sends out more)
and_sends_may me out more first last = All-append (MaySend me) out.sends more first last

-- sets that do not contain this peer
pub none_me : (me : ℕ) → IsPeer me → holds nobody me ≡ false
none_me me peer = get_or-replicate 32 me false false (omega (arith, peer.1))

pub alone_me : (me from : ℕ) → IsPeer me → from ≢ me → holds (alone from) me ≡ false
alone_me me from peer other = get_or-set_other nobody from me true false (λ same. other (sym same)) ∙ none_me me peer

-- a set of the peers that pass a test
pub those_at : (test : ℕ → Bool) (p : ℕ) → IsPeer p → holds (those test) p ≡ test p
those_at test zero peer = absurd (omega (arith, peer.0))
those_at test (suc k) peer = get_or-map-range_with_len test 1 31 k (suc k) false (omega (arith, peer.1)) (omega arith)

not_itself_in : (b c : Bool) (p : ℕ) → (b && not (p == p) && c) ≡ false
not_itself_in true c p = rw (itself p) refl
not_itself_in false c p = refl

pub others_me : (me : ℕ) (set : List Bool) → IsPeer me → holds (others_of me set) me ≡ false
others_me me set peer = those_at (λ p. holds set p && not (p == me)) me peer ∙ not_itself (holds set me) me

pub outside_me : (me : ℕ) (set : List Bool) (views : List (List ℕ)) → IsPeer me → holds (others_outside me set views) me ≡ false
outside_me me set views peer = those_at (λ p. is_member views p && not (p == me) && not (holds set p)) me peer ∙ not_itself_in (is_member views me) (not (holds set me)) me

-- the rows of the rules
pub row_8_obeys : (p : Probing) (me from : ℕ) (reply : Fact) → RowObeys (row_8 p me from reply).1
row_8_obeys p me from reply = grind arith

pub row_10_obeys : (fact : Fact) (me : ℕ) (best : Fact) (count : ℕ) → RowObeys (row_10 fact me best count).0
row_10_obeys fact me best count = grind arith

pub row_11_obeys : (fact : Fact) (from : ℕ) (ballot : Epoch) → RowObeys (row_11 fact from ballot)
row_11_obeys fact from ballot = grind arith

pub promised_by_obeys : (base : Fact) (promises asked : List Bool) (age me from : ℕ) (ballot : Epoch) (promised : Fact) → RowObeys (promised_by base promises asked age me from ballot promised).1
promised_by_obeys base promises asked age me from ballot promised = grind arith

pub row_12_obeys : (e : Election) (fact : Fact) (me from : ℕ) (ballot : Epoch) (promised : Fact) → RowObeys (row_12 e fact me from ballot promised).1
row_12_obeys (Preparing base promises asked age) fact me from ballot promised = grind (arith, promised_by_obeys base promises asked age me from ballot promised)
row_12_obeys (Starting new accepts age) fact me from ballot promised = tt

pub starts_obeys : (trusted : Bool) (me : ℕ) (new : Fact) → RowObeys (starts trusted me new).1
unfolding starts
starts_obeys trusted me new = grind arith

pub elected_obeys : (e : Election) (fact : Fact) (me : ℕ) (trusted : Bool) (views : List (List ℕ)) → RowObeys (elected e fact me trusted views).1
elected_obeys e fact me trusted views = grind (arith, starts_obeys trusted me (first_fact fact me views))

pub row_13_obeys : (e : Election) (fact : Fact) (me : ℕ) (trusted : Bool) → RowObeys (row_13 e fact me trusted).1
row_13_obeys (Preparing base promises asked age) fact me trusted = grind (arith, elected_obeys (Preparing base promises asked age) fact me trusted (views_after base))
row_13_obeys (Starting new accepts age) fact me trusted = tt

pub row_14_obeys : (e : Election) (me : ℕ) → RowObeys (row_14 e me).1
row_14_obeys (Preparing base promises asked age) me = tt
row_14_obeys (Starting new accepts age) me = tt

pub row_4_obeys : (e : Election) (me : ℕ) (runs : Bool) → RowObeys (row_4 e me runs).1
row_4_obeys (Preparing base promises asked age) me runs = tt
row_4_obeys (Starting new accepts age) me runs = grind arith

pub row_17_obeys : (e : Election) (fact : Fact) (from : ℕ) (ballot : Epoch) (seq : ℕ) → RowObeys (row_17 e fact from ballot seq).1
row_17_obeys (Preparing base promises asked age) fact from ballot seq = tt
row_17_obeys (Starting new accepts age) fact from ballot seq = grind arith

pub row_2_obeys : (f : Follower) (fact : Fact) (me : ℕ) → RowObeys (row_2 f fact me).1
row_2_obeys f fact me = grind arith

pub row_15_obeys : (fact : Fact) (ballot : Epoch) (cause : NackCause) → RowObeys (row_15 fact ballot cause)
row_15_obeys fact ballot (causes.Greater other) = grind arith
row_15_obeys fact ballot causes.Untrusted = tt
row_15_obeys fact ballot (causes.Damaged position) = tt

pub takes_obeys : (fact : Fact) (me : ℕ) (trusted sync_runs : Bool) (from : ℕ) (new : Fact) → RowObeys (takes fact me trusted sync_runs from new)
takes_obeys fact me trusted sync_runs from new = grind arith

pub row_16_obeys : (fact : Fact) (me : ℕ) (trusted sync_runs : Bool) (from : ℕ) (new : Fact) → RowObeys (row_16 fact me trusted sync_runs from new)
row_16_obeys fact me trusted sync_runs from new = grind (arith, takes_obeys fact me trusted sync_runs from new)

pub row_19_obeys : (fact : Fact) (trusted : Bool) (from : ℕ) (ballot : Epoch) → RowObeys (row_19 fact trusted from ballot)
row_19_obeys fact trusted from ballot = grind arith

pub row_18_obeys : (fact : Fact) (trusted : Bool) (from : ℕ) (commit : Fact) → RowObeys (row_18 fact trusted from commit)
row_18_obeys fact trusted from commit = grind arith

pub row_20_obeys : (fact : Fact) (from : ℕ) (ballot : Epoch) (round : ℕ) → RowObeys (row_20 fact from ballot round)
row_20_obeys fact from ballot round = grind arith

-- the messages of the rows go to other peers
module _ (me : ℕ) (peer : IsPeer me) where
  pub row_8_elsewhere : (p : Probing) (from : ℕ) (reply : Fact) → IsElsewhere me (row_8 p me from reply).1
  row_8_elsewhere p from reply = either (λ (r : Probing × PhaseOut). IsElsewhere me r.1) (is_newer reply p.best) _ _ (outside_me me p.asked reply.views peer) (none_me me peer)

  pub row_10_elsewhere : (fact best : Fact) (count : ℕ) → IsElsewhere me (row_10 fact me best count).0
  row_10_elsewhere fact best count = either (λ (r : PhaseOut × Option Election). IsElsewhere me r.0) (not (is_member (views_after best) me) || count == 2 ^ 64 - 1) _ _ (none_me me peer) (others_me me (members best.views) peer)

  pub row_12_elsewhere : (e : Election) (fact : Fact) (from : ℕ) (ballot : Epoch) (promised : Fact) → IsElsewhere me (row_12 e fact me from ballot promised).1
  row_12_elsewhere (Starting new accepts age) fact from ballot promised = none_me me peer
  row_12_elsewhere (Preparing base promises asked age) fact from ballot promised =
      either (λ (r : Election × PhaseOut). IsElsewhere me r.1) (is_same ballot fact.ballot) _ _
      (either (λ (r : Election × PhaseOut). IsElsewhere me r.1) (is_newer promised base) _ _ (outside_me me asked promised.views peer) (none_me me peer)) (none_me me peer)

  starts_elsewhere : (trusted : Bool) (new : Fact) → IsElsewhere me (starts trusted me new).1
  unfolding starts
  starts_elsewhere trusted new = either (λ (r : Election × PhaseOut). IsElsewhere me r.1) (may_accept trusted me new) _ _ (others_me me (members new.views) peer) (others_me me (members new.views) peer)

  pub row_13_elsewhere : (e : Election) (fact : Fact) (trusted : Bool) → IsElsewhere me (row_13 e fact me trusted).1
  row_13_elsewhere (Starting new accepts age) fact trusted = none_me me peer
  row_13_elsewhere (Preparing base promises asked age) fact trusted =
      either (λ (r : Election × PhaseOut). IsElsewhere me r.1) (is_quorum (holds promises) base.views) _ _
      (either (λ (r : Election × PhaseOut). IsElsewhere me r.1) (is_member (views_after base) me) _ _ (starts_elsewhere trusted (first_fact fact me (views_after base))) (none_me me peer)) (none_me me peer)

  pub row_14_elsewhere : (e : Election) → IsElsewhere me (row_14 e me).1
  row_14_elsewhere (Preparing base promises asked age) = none_me me peer
  row_14_elsewhere (Starting new accepts age) = none_me me peer

  pub row_4_elsewhere : (e : Election) (runs : Bool) → IsElsewhere me (row_4 e me runs).1
  row_4_elsewhere (Preparing base promises asked age) runs = none_me me peer
  row_4_elsewhere (Starting new accepts age) runs = either (IsElsewhere me) (age + 1 == 8) _ _ (none_me me peer) (outside_me me accepts new.views peer)

  pub row_17_elsewhere : (e : Election) (fact : Fact) (from : ℕ) (ballot : Epoch) (seq : ℕ) → IsElsewhere me (row_17 e fact from ballot seq).1
  row_17_elsewhere (Preparing base promises asked age) fact from ballot seq = none_me me peer
  row_17_elsewhere (Starting new accepts age) fact from ballot seq =
      either (λ (r : Election × PhaseOut). IsElsewhere me r.1) (is_same ballot fact.ballot && seq == 1) _ _ (none_me me peer) (none_me me peer)

  pub row_15_elsewhere : (fact : Fact) (ballot : Epoch) (cause : NackCause) → IsElsewhere me (row_15 fact ballot cause)
  row_15_elsewhere fact ballot (causes.Greater other) = either (IsElsewhere me) (is_same ballot fact.ballot && is_below ballot other) _ _ (none_me me peer) (none_me me peer)
  row_15_elsewhere fact ballot causes.Untrusted = none_me me peer
  row_15_elsewhere fact ballot (causes.Damaged position) = none_me me peer

  -- answers to another peer
  module _ (from : ℕ) (other : from ≢ me) where
    to_it : holds (alone from) me ≡ false
    to_it = alone_me me from peer other

    pub row_11_elsewhere : (fact : Fact) (ballot : Epoch) → IsElsewhere me (row_11 fact from ballot)
    row_11_elsewhere fact ballot = either (IsElsewhere me) (is_below fact.ballot ballot) _ _ to_it (either (IsElsewhere me) (is_same ballot fact.ballot) _ _ (none_me me peer) to_it)

    takes_elsewhere : (fact : Fact) (trusted runs : Bool) (new : Fact) → IsElsewhere me (takes fact me trusted runs from new)
    takes_elsewhere fact trusted runs new = either (IsElsewhere me) (may_accept trusted me new) _ _ to_it (either (IsElsewhere me) (is_below fact.ballot new.epoch) _ _ (none_me me peer) (none_me me peer))

    pub row_16_elsewhere : (fact : Fact) (trusted runs : Bool) (new : Fact) → IsElsewhere me (row_16 fact me trusted runs from new)
    row_16_elsewhere fact trusted runs new =
        either (IsElsewhere me) (is_below new.epoch fact.ballot) _ _ to_it
        (either (IsElsewhere me) (is_same new.epoch fact.epoch) _ _ to_it (takes_elsewhere fact trusted runs new))

    commits_elsewhere : (fact commit : Fact) → IsElsewhere me (commits fact from commit)
    commits_elsewhere fact commit = either (IsElsewhere me) (fact.seq == 1) _ _ to_it to_it

    refused_elsewhere : (r : Option PhaseOut) (answer : PhaseOut) → IfSome r (IsElsewhere me) → IsElsewhere me answer → IsElsewhere me (unless_refused r answer)
    refused_elsewhere None answer refused given = given
    refused_elsewhere (Some out) answer refused given = refused

    refusal_elsewhere : (fact : Fact) (trusted : Bool) (ballot : Epoch) → IfSome (refusal fact trusted from ballot) (IsElsewhere me)
    refusal_elsewhere fact trusted ballot =
        either (λ (r : Option PhaseOut). IfSome r (IsElsewhere me)) (is_below ballot fact.ballot) _ _ to_it
        (either (λ (r : Option PhaseOut). IfSome r (IsElsewhere me)) (not (is_same fact.epoch ballot)) _ _ (none_me me peer)
        (either (λ (r : Option PhaseOut). IfSome r (IsElsewhere me)) (not trusted) _ _ to_it tt))

    pub row_18_elsewhere : (fact : Fact) (trusted : Bool) (commit : Fact) → IsElsewhere me (row_18 fact trusted from commit)
    row_18_elsewhere fact trusted commit = refused_elsewhere (refusal fact trusted from commit.epoch) (commits fact from commit) (refusal_elsewhere fact trusted commit.epoch) (commits_elsewhere fact commit)

    pub row_19_elsewhere : (fact : Fact) (trusted : Bool) (ballot : Epoch) → IsElsewhere me (row_19 fact trusted from ballot)
    row_19_elsewhere fact trusted ballot = either (IsElsewhere me) (is_below ballot fact.ballot) _ _ to_it (none_me me peer)

    pub row_20_elsewhere : (fact : Fact) (ballot : Epoch) (round : ℕ) → IsElsewhere me (row_20 fact from ballot round)
    row_20_elsewhere fact ballot round = either (IsElsewhere me) (is_below ballot fact.ballot) _ _ to_it (either (IsElsewhere me) (is_same ballot fact.ballot) _ _ to_it (none_me me peer))
    -- the messages of a leader go to other peers
