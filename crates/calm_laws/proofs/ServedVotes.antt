-- The votes of a round of a leader: those at its beginning, and those after one more reply.
use Rattle.std.proofs.Common.{◌≡◌, ◌⊎◌, inl, inr, refl, ◌∙◌, arith, ℕ, true, false, List, [], ◌∷◌, length}
use Rattle.std.specs.Prelude.{replicate}
use Rattle.std.proofs.lemmas.List.{length-set}
use Rattle.ens_base.proofs.Lists.{tested_in}
use Rattle.ens_base.specs.Lists.{◌∈◌}
use Rattle.ens_base.specs.PeerSet.{holds}
use Rattle.ens_base.specs.View.{IsPeer}
use Rattle.quorums.specs.Quorums.{is_member}
use Rattle.network.specs.Mail.{Mail, IsMail}
use Rattle.quorums.specs.Rounds.{begun, answered as heard_from}
use Rattle.quorums.specs.declared.round.Round.{Round as Tally}
use Rattle.wire_frames.specs.declared.frame.Frame.{Frame}
use Rattle.world_refinement.specs.WorldSpec.{posted_all}
use Rattle.calm_laws.proofs.Waits.{Waits, AllWaiting}
use Rattle.calm_laws.proofs.Parts.{flag_here, flag_kept}
use Rattle.calm_laws.proofs.Waiting.{was_all_posted}

-- this peer is counted, and so are those counted before
pub record IsCounted (view : List ℕ) (q : ℕ) (before now : Tally) : Type 0 where
  pub views : now.tally.views ≡ view ∷ []
  pub size : length now.tally.votes ≡ 32
  pub here : holds now.tally.votes q ≡ true
  pub kept : (k : ℕ) → holds before.tally.votes k ≡ true → holds now.tally.votes k ≡ true

pub counted : (view : List ℕ) (q : ℕ) (t : Tally) → t.tally.views ≡ view ∷ [] → length t.tally.votes ≡ 32 → q ∈ view → IsPeer q → IsCounted view q t (heard_from q t)
unfolding heard_from
counted view q t views size listed peer =
    let member : is_member t.tally.views q ≡ true = rw (views, tested_in view q listed) refl in
    rw member (record {
      views = views;
      size = length-set t.tally.votes q true ∙ size;
      here = flag_here t.tally.votes q (omega (arith, peer.1, size));
      kept = λ k is. flag_kept t.tally.votes q k is;
    })

-- a round in which only this peer is counted
pub record IsBegun (view : List ℕ) (me : ℕ) (t : Tally) : Type 0 where
  pub views : t.tally.views ≡ view ∷ []
  pub size : length t.tally.votes ≡ 32
  pub own : holds t.tally.votes me ≡ true

pub begins : (view : List ℕ) (me : ℕ) → me ∈ view → IsPeer me → IsBegun view me (begun (view ∷ []) me)
unfolding begun
begins view me listed peer =
    let it = counted view me (record { tally = record { views = view ∷ []; votes = replicate 32 false } }) refl refl listed peer in
    record { views = it.views; size = it.size; own = it.here }

-- each waiting message is of a kind, also after these are sent
pub kinds_posted : (K L : Frame → Type 0) (m : Mail) (fs : List Frame) → IsMail m → AllWaiting K m → ((f : Frame) → K f → L f) → ((f : Frame) → f ∈ fs → L f) → AllWaiting L (posted_all fs m)
kinds_posted K L m fs mail all old new f w = by (was_all_posted fs m f mail w) where
  by : Waits m f ⊎ (f ∈ fs) → L f
  by (inl v) = old f (all f v)
  by (inr is) = new f is
