-- A link and what waits for it: how the frames that were put out grow.
use Rattle.std.specs.Prelude.{Option, None, Some}
use Rattle.std.proofs.Common.{◌≡◌, ◌∙◌, ◌<◌, ap, sym, subst, refl, ℕ, List, [], ◌∷◌, ◌++◌, length, append_assoc, append-nil, arith}
use Rattle.peer_turns.specs.Sending.{SentSome}
use Rattle.step_plans.specs.Outboxes.{out_of}
use Rattle.step_plans.specs.declared.outbox.Outbox.{Outbox}
use Rattle.peer_turns.proofs.Following.{grew_none}
use Rattle.peer_turns.specs.Deeds.{frames_of}
use Rattle.peer_turns.specs.Going.{Grew}
use Rattle.peer_server.specs.Commits.{SentPrefix}
use Rattle.peer_server.specs.Lines.{frames_waiting, grown}
use Rattle.peer_server.specs.Turning.{Shrank}

abbrev Frames : Type 0
Frames = List (ℕ × List ℕ)

some : {A : Type 0} (xs ys : List A) → xs ≡ ys → Some xs ≡ Some ys
some xs ys same = ap (λ (l : List _). Some l) same

pub grown_nil : {A : Type 0} (o : Option (List A)) → grown o [] ≡ o
grown_nil None = refl
grown_nil (Some xs) = some (xs ++ []) xs (append-nil xs)

pub waiting_later : (me : ℕ) (outs more : List Outbox) → frames_waiting me (outs ++ more) ≡ frames_waiting me outs ++ frames_waiting me more
waiting_later me [] more = refl
waiting_later me (o ∷ os) more = ap (λ (l : Frames). frames_of me (out_of o) ++ l) (waiting_later me os more) ∙ sym (append_assoc (frames_of me (out_of o)) (frames_waiting me os) (frames_waiting me more))

pub waiting_more : (me : ℕ) (outs : List Outbox) (out : Outbox) → frames_waiting me (outs ++ out ∷ []) ≡ frames_waiting me outs ++ frames_of me (out_of out)
waiting_more me outs out = waiting_later me outs (out ∷ []) ∙ ap (λ (l : Frames). frames_waiting me outs ++ l) (append-nil (frames_of me (out_of out)))

-- more waits than before
pub more_wait : {A : Type 0} (o : Option (List A)) (old more now : List A) → now ≡ old ++ more → Grew (grown o old) (grown o now) more
more_wait None old more now is = tt
more_wait (Some xs) old more now is = some (xs ++ now) ((xs ++ old) ++ more) (ap (λ (l : List _). xs ++ l) is ∙ sym (append_assoc xs old more))

-- the link was given nothing, and as much waits as before
pub none_sent : {A : Type 0} (o p : Option (List A)) (waiting : List A) → Grew o p [] → Grew (grown o waiting) (grown p waiting) []
none_sent None p waiting sends = tt
none_sent (Some xs) p waiting sends =
    subst (λ (q : Option (List _)). grown q waiting ≡ Some ((xs ++ waiting) ++ [])) (sym (sends ∙ some (xs ++ []) xs (append-nil xs))) (some (xs ++ waiting) ((xs ++ waiting) ++ []) (sym (append-nil (xs ++ waiting))))

-- as much waits as before
pub as_many_wait : (o : Option Frames) (me : ℕ) (old now : List Outbox) → now ≡ old → Grew (grown o (frames_waiting me old)) (grown o (frames_waiting me now)) []
as_many_wait o me old now same = subst (λ (outs : List Outbox). Grew (grown o (frames_waiting me old)) (grown o (frames_waiting me outs)) []) (sym same) (grew_none (grown o (frames_waiting me old)))

-- all that waited was sent
pub all_sent : {A : Type 0} (o p : Option (List A)) (waiting : List A) → Grew o p waiting → Grew (grown o waiting) (grown p []) []
all_sent None p waiting sends = tt
all_sent (Some xs) p waiting sends = ap (λ (q : Option (List _)). grown q []) sends

-- not all that waited was sent
abbrev pub lost_of : {o p : Option Frames} {waiting : Frames} → SentSome o p waiting → Frames
lost_of some = some.unsent ∷ some.rest

pub some_lost : (o p : Option Frames) (waiting : Frames) (cut : SentSome o p waiting) → 0 < length (lost_of cut)
some_lost o p waiting cut = omega arith

told_lost : (xs waiting prefix lost : Frames) (p : Option Frames) → waiting ≡ prefix ++ lost → p ≡ Some (xs ++ prefix) → Shrank (Some (xs ++ waiting)) (grown p []) lost
told_lost xs waiting prefix lost p all sends =
    subst (λ (q : Option Frames). Shrank (Some (xs ++ waiting)) (grown q []) lost) (sym sends)
    (ap (λ (l : Frames). xs ++ l) all ∙ sym (append_assoc xs prefix lost) ∙ ap (λ (l : Frames). l ++ lost) (sym (append-nil (xs ++ prefix))))

pub shrank : (o p : Option Frames) (waiting : Frames) (cut : SentSome o p waiting) → Shrank (grown o waiting) (grown p []) (lost_of cut)
shrank None p waiting cut = tt
shrank (Some xs) p waiting cut = told_lost xs waiting cut.prefix (lost_of cut) p cut.all cut.sent

-- where nothing waits before and after, the link was given all
pub given_all : (o p : Option Frames) (frames : Frames) → Grew (grown o []) (grown p []) frames → Grew o p frames
given_all o p frames grew = subst (λ (q : Option Frames). Grew q p frames) (grown_nil o) (subst (λ (q : Option Frames). Grew (grown o []) q frames) (grown_nil p) grew)

append_cancel : {A : Type 0} (xs ys zs : List A) → xs ++ ys ≡ xs ++ zs → ys ≡ zs
append_cancel [] ys zs same = same
append_cancel (x ∷ xs) ys zs same = append_cancel xs ys zs cc

same_list : {A : Type 0} (xs ys : List A) → Some xs ≡ Some ys → xs ≡ ys
same_list xs ys same = cc

-- what was put out in all is what was sent and what waits: of the latter a prefix was sent, so of all a prefix
told_prefix : (xs sent waiting all prefix rest : Frames) (p : Option Frames) → Grew (Some (xs ++ [])) (grown (Some (xs ++ sent)) waiting) all → waiting ≡ prefix ++ rest → p ≡ Some ((xs ++ sent) ++ prefix) → SentPrefix (Some xs) p all
told_prefix xs sent waiting all prefix rest p posted parts sends =
    let whole : xs ++ (sent ++ waiting) ≡ xs ++ all = sym (append_assoc xs sent waiting) ∙ same_list ((xs ++ sent) ++ waiting) ((xs ++ []) ++ all) posted ∙ ap (λ (l : Frames). l ++ all) (append-nil xs) in (
      sent ++ prefix,
      rest,
      sends ∙ some ((xs ++ sent) ++ prefix) (xs ++ (sent ++ prefix)) (append_assoc xs sent prefix),
      sym (append_cancel xs (sent ++ waiting) all whole) ∙ ap (λ (l : Frames). sent ++ l) parts ∙ sym (append_assoc sent prefix rest),
    )

pub prefix_on : (o m p : Option Frames) (sent waiting all : Frames) → Grew o m sent → Grew (grown o []) (grown m waiting) all → SentSome m p waiting → SentPrefix o p all
prefix_on None m p sent waiting all first posted cut = tt
prefix_on (Some xs) m p sent waiting all first posted cut =
    told_prefix xs sent waiting all cut.prefix (lost_of cut) p (subst (λ (q : Option Frames). Grew (Some (xs ++ [])) (grown q waiting) all) first posted) cut.all (subst (λ (q : Option Frames). Grew q p cut.prefix) first cut.sent)

-- all of these frames are a prefix of them
pub all_prefix : (o p : Option Frames) (frames : Frames) → Grew o p frames → SentPrefix o p frames
all_prefix None p frames grew = tt
all_prefix (Some xs) p frames grew = (frames, [], grew, sym (append-nil frames))
