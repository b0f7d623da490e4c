-- Frames that are sent one after another, and the prefix of them that was sent.
use Rattle.std.specs.Prelude.{All, IsErrAnd, Option, None, Some, map}
use Rattle.std.proofs.Common.{◌≡◌, ◌∙◌, ap, sym, subst, refl, ℕ, true, List, [], ◌∷◌, ◌++◌, length, Result, Ok, Err, append_assoc, append-nil, arith}
use Rattle.std.proofs.lemmas.List.{map-append}
use Rattle.std.proofs.lemmas.List.Elements.{All-head, All-tail}
use Rattle.std.specs.Vec.Iter.{into_iter_items, into_iter_len}
use Rattle.std.specs.declared.vec.IntoIter.{IntoIter}
use Rattle.ens_base.proofs.Causes.{rose_later}
use Rattle.environment.specs.Links.{LinkCounts, Sends}
use Rattle.environment.specs.Told.{StaysTold}
use Rattle.environment.specs.declared.errors.LinkError.{LinkError}
use Rattle.environment.specs.declared.errors.LinkError.TheVariants as links
use Rattle.leader_output.specs.declared.out.AnswerOut.{AnswerOut}
use Rattle.peer_turns.proofs.Following.{grew_more, grew_none}
use Rattle.peer_turns.specs.Going.{Grew}
use Rattle.peer_turns.specs.Turns.{is_client}
use Rattle.peer_turns.specs.Sending.{BrokeOff, SendsInOrder, SentAll, SentSome}

abbrev Sent : Type 0
Sent = Option (List (ℕ × List ℕ))

pub stays_grew : {A : Type 0} (old new : Option (List A)) → StaysTold old new → Grew old new []
stays_grew None new stays = tt
stays_grew (Some xs) new stays = stays ∙ ap (λ (l : List _). Some l) (sym (append-nil xs))

handed_grew : {T : Type 0} (old new : Sent) (to : ℕ) (bytes : List ℕ) (x : T) → Sends old new to bytes (Ok x) → Grew old new ((to, bytes) ∷ [])
handed_grew None new to bytes x sends = tt
handed_grew (Some xs) new to bytes x sends = sends

kept_grew : (T : Type 0) (old new : Sent) (to : ℕ) (bytes : List ℕ) (e : LinkError) → Sends {T = T} old new to bytes (Err e) → Grew old new []
kept_grew T None new to bytes e sends = tt
kept_grew T (Some xs) new to bytes e sends = sends ∙ ap (λ (l : List _). Some l) (sym (append-nil xs))

-- one frame was not sent
one_unsent : (old new : Sent) (frame : ℕ × List ℕ) → Grew old new [] → SentSome old new (frame ∷ [])
one_unsent old new frame kept = record { prefix = []; unsent = frame; rest = []; all = refl; sent = kept }

-- the answer is for a client
abbrev pub IsToClient : AnswerOut → Type 0
IsToClient a = is_client a.caller ≡ true

no_items : {X : Type 0} (xs : List X) → length xs ≡ 0 → xs ≡ []
no_items [] none = refl
no_items (x ∷ xs) none = absurd (omega arith)

-- an iterator that came to its end has no items
pub none_left : {X A : Type 0} (it : IntoIter X A) → into_iter_len it ≡ 0 → into_iter_items it ≡ []
none_left it none = no_items it.rest.items (sym it.rest.ok.0 ∙ none)

module _ {L : Type 0} (sent : L → Option (List (ℕ × List ℕ))) (given : L → Option (List (Option (List ℕ)))) (faults : L → ℕ) where
  -- bytes were handed to the link for a number
  pub handed : {T : Type 0} (a b : L) (to : ℕ) (bytes : List ℕ) (r : Result T LinkError) → Sends (sent a) (sent b) to bytes r → StaysTold (given a) (given b) → LinkCounts (faults a) (faults b) r
      → SendsInOrder sent given faults ((to, bytes) ∷ []) a b r
  handed {T} a b to bytes (Ok x) sends stays counts = record { sends = handed_grew (sent a) (sent b) to bytes x sends; looked = stays_grew (given a) (given b) stays; later = counts }
  handed {T} a b to bytes (Err links.Failed) sends stays counts = record {
    sends = one_unsent (sent a) (sent b) (to, bytes) (kept_grew T (sent a) (sent b) to bytes links.Failed sends);
    looked = stays_grew (given a) (given b) stays;
    later = counts.0;
    cause = λ same. counts.1;
  }
  handed {T} a b to bytes (Err links.Memory) sends stays counts = record {
    sends = one_unsent (sent a) (sent b) (to, bytes) (kept_grew T (sent a) (sent b) to bytes links.Memory sends);
    looked = stays_grew (given a) (given b) stays;
    later = omega (arith, counts);
    cause = λ same. absurd cc;
  }

  -- memory ran out before the frame was handed to the link
  pub unspelled : (a : L) (frame : ℕ × List ℕ) → BrokeOff sent given faults links.Memory (frame ∷ []) a a
  unspelled a frame = record {
    sends = one_unsent (sent a) (sent a) frame (grew_none (sent a));
    looked = grew_none (given a);
    later = omega arith;
    cause = λ same. absurd cc;
  }

  pub sent_none : (a : L) → SentAll sent given faults [] a a
  sent_none a = record { sends = grew_none (sent a); looked = grew_none (given a); later = omega arith }

  both_none : (a b c : L) → Grew (given a) (given b) [] → Grew (given b) (given c) [] → Grew (given a) (given c) []
  both_none a b c first second = grew_more (given a) (given b) (given c) [] [] first second

  -- `?` returns the error that it met
  pub passed_on : {T : Type 0} (frames : List (ℕ × List ℕ)) (a b : L) (e : LinkError) (r : Result T LinkError) (G : LinkError → Type 0) → IsErrAnd r G → ((d : LinkError) → G d → d ≡ e) → BrokeOff sent given faults e frames a b
      → SendsInOrder sent given faults frames a b r
  passed_on frames a b e (Ok x) G and same broke = absurd and
  passed_on frames a b e (Err d) G and same broke = subst (λ (x : LinkError). BrokeOff sent given faults x frames a b) (sym (same d and)) broke

  -- more frames are sent after some
  pub sent_on : {T : Type 0} (a b c : L) (xs ys : List (ℕ × List ℕ)) (r : Result T LinkError) → SentAll sent given faults xs a b → SendsInOrder sent given faults ys b c r → SendsInOrder sent given faults (xs ++ ys) a c r
  sent_on a b c xs ys (Ok x) first second = record {
    sends = grew_more (sent a) (sent b) (sent c) xs ys first.sends second.sends;
    looked = both_none a b c first.looked second.looked;
    later = omega (arith, first.later, second.later);
  }
  sent_on a b c xs ys (Err e) first second = record {
    sends = record {
      prefix = xs ++ second.sends.prefix;
      unsent = second.sends.unsent;
      rest = second.sends.rest;
      all = ap (λ (l : List (ℕ × List ℕ)). xs ++ l) second.sends.all ∙ sym (append_assoc xs second.sends.prefix (second.sends.unsent ∷ second.sends.rest));
      sent = grew_more (sent a) (sent b) (sent c) xs second.sends.prefix first.sends second.sends.sent;
    };
    looked = both_none a b c first.looked second.looked;
    later = omega (arith, first.later, second.later);
    cause = λ same. rose_later (faults a) (faults b) (faults c) first.later (second.cause same);
  }

  -- the sending broke off among the first of some frames
  pub broke_early : (e : LinkError) (a b : L) (xs ys : List (ℕ × List ℕ)) → BrokeOff sent given faults e xs a b → BrokeOff sent given faults e (xs ++ ys) a b
  broke_early e a b xs ys broke = record {
    sends = record {
      prefix = broke.sends.prefix;
      unsent = broke.sends.unsent;
      rest = broke.sends.rest ++ ys;
      all = ap (λ (l : List (ℕ × List ℕ)). l ++ ys) broke.sends.all ∙ append_assoc broke.sends.prefix (broke.sends.unsent ∷ broke.sends.rest) ys;
      sent = broke.sends.sent;
    };
    looked = broke.looked;
    later = broke.later;
    cause = broke.cause;
  }

  module _ {X : Type 0} (f : X → ℕ × List ℕ) (P : X → Type 0) (items : List X) (first : L) where
    -- all items but these were sent, and these may be sent
    pub record Underway (left : List X) (now : L) : Type 0 where
      pub done : List X
      pub all : items ≡ done ++ left
      pub may : All P left
      pub went : SentAll sent given faults (map f done) first now

    pub begun : (left : List X) → left ≡ items → All P items → Underway left first
    begun left same may = record { done = []; all = sym same; may = subst (All P) (sym same) may; went = sent_none first }

    -- the next item was sent
    pub goes_on : (left : List X) (x : X) (rest : List X) (now next : L) → left ≡ x ∷ rest → Underway left now → SentAll sent given faults (f x ∷ []) now next → Underway rest next
    goes_on left x rest now next same old one = record {
      done = old.done ++ x ∷ [];
      all = old.all ∙ ap (λ (l : List X). old.done ++ l) same ∙ sym (append_assoc old.done (x ∷ []) rest);
      may = All-tail P x rest (subst (All P) same old.may);
      went = subst (λ (fs : List (ℕ × List ℕ)). SentAll sent given faults fs first next) (sym (map-append f old.done (x ∷ []))) (sent_on {T = Unit {0}} first now next (map f old.done) (f x ∷ []) (Ok tt) old.went one);
    }

    -- the next item may be sent
    pub next_may : (left : List X) (x : X) (rest : List X) (now : L) → left ≡ x ∷ rest → Underway left now → P x
    next_may left x rest now same old = All-head P x rest (subst (All P) same old.may)

    -- the next item was not sent
    pub broke : (e : LinkError) (left : List X) (x : X) (rest : List X) (now next : L) → left ≡ x ∷ rest → Underway left now → BrokeOff sent given faults e (f x ∷ []) now next → BrokeOff sent given faults e (map f items) first next
    broke e left x rest now next same old one =
        subst (λ (fs : List (ℕ × List ℕ)). BrokeOff sent given faults e fs first next) (sym (ap (map f) (old.all ∙ ap (λ (l : List X). old.done ++ l) same) ∙ map-append f old.done (x ∷ rest)))
        (sent_on {T = Unit {0}} first now next (map f old.done) (f x ∷ map f rest) (Err e) old.went (broke_early e now next (f x ∷ []) (map f rest) one))

    -- no item is left
    pub went_all : (left : List X) (now : L) → left ≡ [] → Underway left now → SentAll sent given faults (map f items) first now
    went_all left now none old =
        subst (λ (fs : List (ℕ × List ℕ)). SentAll sent given faults fs first now) (ap (map f) (sym (append-nil old.done) ∙ ap (λ (l : List X). old.done ++ l) (sym none) ∙ sym old.all)) old.went
