-- The announcements of a leader: its epoch, the change of its epoch, and that it is alive.
use Rattle.std.specs.Prelude.{ℕ, Bool, ◌&&◌, ◌==◌, if◌then◌else◌}
use Rattle.ens_base.specs.declared.epoch.Epoch.{Epoch}
use Rattle.wire_frames.specs.StoredFormats.{Fact}
use Rattle.wire_frames.specs.declared.message.Message.TheVariants.{Accepted}
use Rattle.phase_rows.specs.declared.phase.PhaseOut.{PhaseOut}
use Rattle.phase_rows.specs.declared.phase.Then.TheVariants.{Stay, Follow, Resume, SyncOn}
use Rattle.phase_rows.specs.Orders.{is_below, is_same, may_accept}
use Rattle.phase_rows.specs.Peers.{alone}
use Rattle.phase_rows.specs.Rows.{silent, sends, saves, saves_and_sends, leaves_leading, refuses_below, at_ballot}
use Rattle.phase_rules.specs.Refusals.{refusal, unless_refused}

-- the announced fact is saved and acknowledged, and the peer follows
abbrev pub accepts : ℕ → Fact → PhaseOut
accepts from new = saves_and_sends new (alone from) (Accepted new.epoch 1) Follow

-- a peer that may not accept the fact yet: it promises a greater ballot and begins a sync on the
-- fact; at its own ballot it resumes a running sync, or else begins one
abbrev pub awaits_sync : Fact → Bool → Fact → PhaseOut
awaits_sync fact sync_runs new =
    if is_below fact.ballot new.epoch
    then saves (at_ballot fact new.epoch) (SyncOn new)
    else silent (if sync_runs then Resume else SyncOn new)

-- a fact of another epoch is accepted if the peer may accept it, and otherwise waits for a sync
abbrev pub takes : Fact → ℕ → Bool → Bool → ℕ → Fact → PhaseOut
takes fact me trusted sync_runs from new =
    if may_accept trusted me new then accepts from new else awaits_sync fact sync_runs new

-- rule 16, NewEpoch: an epoch below the ballot is refused, and the accepted epoch is acknowledged
-- again; for any other epoch a leader steps down, and the peer accepts it or waits for a sync
abbrev pub row_16 : Fact → ℕ → Bool → Bool → ℕ → Fact → PhaseOut
row_16 fact me trusted sync_runs from new =
    if is_below new.epoch fact.ballot then refuses_below from new.epoch fact
    else (if is_same new.epoch fact.epoch then sends (alone from) (Accepted new.epoch 1) Follow
    else leaves_leading (takes fact me trusted sync_runs from new))

-- the second fact of the accepted epoch is saved if the first one is held, and acknowledged each
-- time
abbrev pub commits : Fact → ℕ → Fact → PhaseOut
commits fact from commit =
    if fact.seq == 1
    then saves_and_sends commit (alone from) (Accepted commit.epoch 2) Follow
    else sends (alone from) (Accepted commit.epoch 2) Follow

-- rule 18, Commit: a peer that accepted the epoch and trusts its tree takes the second fact and
-- follows
abbrev pub row_18 : Fact → Bool → ℕ → Fact → PhaseOut
row_18 fact trusted from commit = unless_refused (refusal fact trusted from commit.epoch) (commits fact from commit)

-- rule 19, Beat: an epoch below the ballot is refused; a peer that accepted the epoch and trusts
-- its tree follows
abbrev pub row_19 : Fact → Bool → ℕ → Epoch → PhaseOut
row_19 fact trusted from ballot =
    if is_below ballot fact.ballot then refuses_below from ballot fact
    else silent (if is_same fact.epoch ballot && trusted then Follow else Stay)
