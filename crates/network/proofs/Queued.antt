-- What a network keeps: when nothing was sent, when nothing changes, and when one message more is sent.
use Rattle.std.proofs.Common.{◌≡◌, ◌≤◌, refl, ap, sym, ◌∙◌, arith, subst, ℕ, Bool, true, false, List, [], ◌∷◌, ◌++◌, length}
use Rattle.ens_base.specs.Lists.{is_in}
use Rattle.std.proofs.lemmas.Bool.{both_ways}
use Rattle.std.proofs.lemmas.List.{get_or_append_left, length_push}
use Rattle.std.proofs.lemmas.List.Elements.{All-nil, All-push}
use Rattle.std.proofs.lemmas.Option.{none-some}
use Rattle.wire_frames.specs.declared.frame.Frame.{Frame}
use Rattle.network.specs.Mail.{Mail, MayBeSent, posted}
use Rattle.network.specs.Lines.{line, line_of, Ascends, FrontWaits, Changes}
use Rattle.network.specs.Representation.{mail_in, IsBelow, AreInLine, IsQueued, IsKept}
use Rattle.network.proofs.Bounds.{below_more}
use Rattle.network.proofs.Posting.{posted_in_line}

pub in_line : (sent : List Frame) (waits : List Bool) (lines : List (List ℕ)) → IsQueued sent waits lines → AreInLine sent waits lines
unfolding IsQueued
in_line sent waits lines queued = queued

pub queued_by : (sent : List Frame) (waits : List Bool) (lines : List (List ℕ)) → AreInLine sent waits lines → IsQueued sent waits lines
unfolding IsQueued
queued_by sent waits lines queued = queued

empty_in_line : (lines : List (List ℕ)) → ((p : ℕ) → line lines p ≡ []) → AreInLine [] [] lines
empty_in_line lines empty = record {
  own = λ p k there. absurd (both_ways _ (ap (λ (ns : List ℕ). is_in ns k) (empty p)) there);
  held = λ k f at waiting. absurd (none-some f at);
  ascending = λ p. subst Ascends (sym (empty p)) tt;
  prefix = λ p. subst (FrontWaits []) (sym (empty p)) tt;
}

-- nothing was sent
pub nothing_kept : (sent : List Frame) (waits : List Bool) (lines : List (List ℕ)) → sent ≡ [] → waits ≡ [] → ((p : ℕ) → line lines p ≡ []) → IsKept sent waits lines 1 0
nothing_kept sent waits lines none clear empty =
    subst (λ (fs : List Frame). IsKept fs waits lines 1 0) (sym none) (subst (λ (ws : List Bool). IsKept [] ws lines 1 0) (sym clear) (record { may = All-nil MayBeSent; below = All-nil (IsBelow 1); few = omega arith; mail = refl; queued = queued_by [] [] lines (empty_in_line lines empty); settled = record { within = omega arith; none = λ n below. refl } }))

-- the same messages, flags and lines
pub still_kept : (sent now : List Frame) (waits flags : List Bool) (old new : List (List ℕ)) (bound first : ℕ) → now ≡ sent → flags ≡ waits → new ≡ old → IsKept sent waits old bound first → IsKept now flags new bound first
still_kept sent now waits flags old new bound first same_sent same_waits same_lines kept =
    subst (λ (fs : List Frame). IsKept fs flags new bound first) (sym same_sent) (subst (λ (ws : List Bool). IsKept sent ws new bound first) (sym same_waits) (subst (λ (ls : List (List ℕ)). IsKept sent waits ls bound first) (sym same_lines) kept))

pub same_mail : (sent now : List Frame) (waits flags : List Bool) (mail : Mail) → now ≡ sent → flags ≡ waits → mail_in sent waits ≡ mail → mail_in now flags ≡ mail
same_mail sent now waits flags mail same_sent same_waits is =
    ap (λ (fs : List Frame). mail_in fs flags) same_sent ∙ ap (mail_in sent) same_waits ∙ is

-- one more message
module _ (sent now : List Frame) (waits flags : List Bool) (f : Frame) (more_sent : now ≡ sent ++ f ∷ []) (more_waits : flags ≡ waits ++ true ∷ []) where
  pub posted_mail : (mail : Mail) → mail_in sent waits ≡ mail → mail_in now flags ≡ posted mail f
  posted_mail mail is =
      ap (λ (fs : List Frame). mail_in fs flags) more_sent
      ∙ ap (mail_in (sent ++ f ∷ [])) more_waits
      ∙ ap (λ (m : Mail). posted m f) is

  pub posted_kept : (old new : List (List ℕ)) (place n bound more first : ℕ) → IsKept sent waits old bound first → MayBeSent f → bound ≤ more → IsBelow more f → more ≤ 32 → n ≡ length sent → place ≡ line_of f → Changes old new place (λ ns. ns ++ n ∷ []) → IsKept now flags new more first
  posted_kept old new place n bound more first kept may higher below few last here pushed =
      subst (λ (fs : List Frame). IsKept fs flags new more first) (sym more_sent) (subst (λ (ws : List Bool). IsKept (sent ++ f ∷ []) ws new more first) (sym more_waits) (record {
        may = All-push MayBeSent sent f kept.may may;
        below = below_more sent f bound more kept.below higher below;
        few = few;
        mail = omega (arith, kept.mail, length_push sent f, length_push waits true);
        queued = queued_by _ _ _ (posted_in_line sent waits old new f place n (in_line sent waits old kept.queued) last kept.mail here pushed);
        settled = record {
          within = omega (arith, kept.settled.within, length_push waits true);
          none = λ k below. get_or_append_left waits (true ∷ []) false k (omega (arith, below, kept.settled.within)) ∙ kept.settled.none k below;
        };
      }))
