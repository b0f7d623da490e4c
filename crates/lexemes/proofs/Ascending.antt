-- Reading a list of members word by word.
use Rattle.std.proofs.Common.{◌≡◌, ℕ, zero, suc, ◌+◌, ◌<◌, ◌≤◌, ◌^◌, Bool, true, false, ◌&&◌, min, nat_le, if◌then◌else◌, List, [], ◌∷◌, ◌++◌, length, slice_index, map, drop, get_or, Some, None, Result, Ok, Err, Bor, refl, ap, sym, subst, ◌∙◌, arith, add-one, append_assoc}
use Rattle.std.proofs.lemmas.Bool.Decides.{nat_tests}
use Rattle.std.proofs.lemmas.List.Elements.{All-nil, All-cons}
use Rattle.std.specs.Prelude.{All}
use Rattle.std.specs.List.Sorted.{IsStrictlyIncreasing}
use Rattle.ens_base.specs.View.{IsPeer, IsView}
use Rattle.lexemes.specs.Spelling.{AreMembers, AscendFrom, member_words}
use Rattle.lexemes.proofs.Results.{bind_ok, or_cause_ok, ok_same}
use Rattle.lexemes.proofs.Numerals.{number_within-some, number_within-decimal}
use Rattle.ens_base.specs.Results.{◌>>=◌}
use Rattle.lexemes.specs.Causes.{or_cause}
use Rattle.lexemes.specs.Words.{members_from, members_of, number_within, view_of}
use Rattle.lexemes.specs.declared.cause.Cause.{Cause}
use Rattle.lexemes.specs.declared.cause.Cause.TheVariants.{Peers}

-- members that were read already, in front of the rest
abbrev pub prefix_onto : List ℕ → Result (List ℕ) Cause → Result (List ℕ) Cause
prefix_onto prefix rest = rest >>= λ more. Ok (prefix ++ more)

-- a member that is read goes from the rest to the front
pub prefix_onto-member : (prefix : List ℕ) (low peers member : ℕ) (word : List ℕ) (more : List (List ℕ)) → number_within low peers word ≡ Some member
    → prefix_onto prefix (members_from low peers (word ∷ more)) ≡ prefix_onto (prefix ++ member ∷ []) (members_from (member + 1) peers more)
prefix_onto-member prefix low peers member word more h = rw h (by_rest (members_from (member + 1) peers more))
  where
    by_rest : (rest : Result (List ℕ) Cause) → prefix_onto prefix (rest >>= λ members. Ok (member ∷ members)) ≡ prefix_onto (prefix ++ member ∷ []) rest
    by_rest (Ok xs) = ap Ok (sym (append_assoc prefix (member ∷ []) xs))
    by_rest (Err e) = refl

-- a word that is no such member is the cause
pub prefix_onto-refused : (prefix : List ℕ) (low peers : ℕ) (word : List ℕ) (more : List (List ℕ)) → number_within low peers word ≡ None
    → prefix_onto prefix (members_from low peers (word ∷ more)) ≡ Err Peers
prefix_onto-refused prefix low peers word more h = rw h refl

-- members of a list are peers
pub IsPeer-members : (low peers : ℕ) (members : List ℕ) → 1 ≤ low → peers ≤ 31 → AscendFrom low peers members → All IsPeer members
IsPeer-members low peers [] least most h = All-nil IsPeer
IsPeer-members low peers (m ∷ ms) least most h =
    All-cons IsPeer m ms (omega arith, omega arith) (IsPeer-members (m + 1) peers ms (omega arith) most h.2)

-- and strictly increase
pub IsStrictlyIncreasing-members : (low peers : ℕ) (members : List ℕ) → AscendFrom low peers members → IsStrictlyIncreasing members
IsStrictlyIncreasing-members low peers [] h k within = absurd (omega arith)
IsStrictlyIncreasing-members low peers (m ∷ []) h k within = absurd (omega arith)
IsStrictlyIncreasing-members low peers (m ∷ n ∷ ms) h zero within = omega (arith, h.2)
IsStrictlyIncreasing-members low peers (m ∷ n ∷ ms) h (suc k) within =
    let later : slice_index (n ∷ ms) k < slice_index (n ∷ ms) (k + 1) = IsStrictlyIncreasing-members (m + 1) peers (n ∷ ms) h.2 k (omega arith) in
    rw add-one (rw add-one at later)

-- what is read as members ascends, and each word is a member's spelling
pub members_from-ok : (low peers : ℕ) (words : List (List ℕ)) (members : List ℕ) → peers < 2 ^ 64 → members_from low peers words ≡ Ok members
    → AscendFrom low peers members × (words ≡ member_words members)
members_from-ok low peers [] members fits h = rw (← (ok_same h)) (tt, refl)
members_from-ok low peers (word ∷ more) members fits h =
    let first = bind_ok (or_cause Peers (number_within low peers word)) _ members h in
    let rest = bind_ok (members_from (first.0 + 1) peers more) _ members first.2 in
    let member = number_within-some low peers word first.0 fits (or_cause_ok Peers (number_within low peers word) first.0 first.1) in
    let tail = members_from-ok (first.0 + 1) peers more rest.0 fits rest.1 in
    rw (← (ok_same rest.2)) ((member.1, member.2, tail.0), cons_same member.0 tail.1)
  where
    cons_same : {A : Type 0} {a b : A} {xs ys : List A} → a ≡ b → xs ≡ ys → a ∷ xs ≡ b ∷ ys
    cons_same p q = λ i. p i ∷ q i

-- the words of ascending members are read as them
pub members_from-words : (low peers : ℕ) (members : List ℕ) → peers < 2 ^ 64 → AscendFrom low peers members
    → members_from low peers (member_words members) ≡ Ok members
members_from-words low peers [] fits h = refl
members_from-words low peers (m ∷ ms) fits h =
    rw (number_within-decimal low peers m h.0 h.1 (omega arith), members_from-words (m + 1) peers ms fits h.2) refl

-- the words from a place on are the word there and those behind it
drop_words : (words : List (Bor (List ℕ))) (k : ℕ) (d : Bor (List ℕ)) → k < length words
    → drop k (map (λ word. word.now) words) ≡ (get_or words k d).now ∷ drop (k + 1) (map (λ word. word.now) words)
drop_words [] k d h = absurd (omega arith)
drop_words (w ∷ ws) zero d h = refl
drop_words (w ∷ ws) (suc k) d h =
    let later : drop k (map (λ word. word.now) ws) ≡ (get_or ws k d).now ∷ drop (k + 1) (map (λ word. word.now) ws) = drop_words ws k d (omega arith) in
    rw add-one (rw add-one at later)

-- the step of the loop that reads members
pub member_step : (prefix : List ℕ) (low peers member : ℕ) (words : List (Bor (List ℕ))) (k : ℕ) (d : Bor (List ℕ)) → k < length words
    → number_within low peers (get_or words k d).now ≡ Some member
    → prefix_onto prefix (members_from low peers (drop k (map (λ word. word.now) words)))
    ≡ prefix_onto (prefix ++ member ∷ []) (members_from (member + 1) peers (drop (k + 1) (map (λ word. word.now) words)))
member_step prefix low peers member words k d within h =
    ap (λ (ws : List (List ℕ)). prefix_onto prefix (members_from low peers ws)) (drop_words words k d within)
    ∙ prefix_onto-member prefix low peers member (get_or words k d).now (drop (k + 1) (map (λ word. word.now) words)) h

-- a member that is read is a peer
pub member_bound : (low peers member : ℕ) (words : List (Bor (List ℕ))) (k : ℕ) (d : Bor (List ℕ)) → peers < 2 ^ 64
    → number_within low peers (get_or words k d).now ≡ Some member → member ≤ peers
member_bound low peers member words k d fits h = (number_within-some low peers (get_or words k d).now member fits h).2

-- the end of that loop at a word that is no member
pub member_refused : (prefix : List ℕ) (low peers : ℕ) (words : List (Bor (List ℕ))) (k : ℕ) (d : Bor (List ℕ)) → k < length words
    → number_within low peers (get_or words k d).now ≡ None
    → prefix_onto prefix (members_from low peers (drop k (map (λ word. word.now) words))) ≡ Err Peers
member_refused prefix low peers words k d within h =
    ap (λ (ws : List (List ℕ)). prefix_onto prefix (members_from low peers ws)) (drop_words words k d within)
    ∙ prefix_onto-refused prefix low peers (get_or words k d).now (drop (k + 1) (map (λ word. word.now) words)) h

-- members that are no view are too few or too many
pub view_refused : (peers : ℕ) (words : List (List ℕ)) (members : List ℕ) → members_of (min peers 31) words ≡ Ok members → ¬ (IsView members)
    → view_of peers words ≡ Err Peers
view_refused peers words members read refused = rw read (by (nat_le 1 (length members) && nat_le (length members) 9) refl)
  where
    ascends : AscendFrom 1 (min peers 31) members
    ascends = (members_from-ok 1 (min peers 31) words members (omega arith) read).0

    by : (b : Bool) → nat_le 1 (length members) && nat_le (length members) 9 ≡ b
        → (if b then Ok members else Err Peers) ≡ Err Peers
    by true e = absurd (refused (record {
      size = grind (arith, nat_tests);
      peers = IsPeer-members 1 (min peers 31) members (omega arith) (omega arith) ascends;
      ascends = IsStrictlyIncreasing-members 1 (min peers 31) members ascends;
    }))
    by false e = refl

-- a list of 1 to 9 members, of at most 31 peers
sized_view : (peers : ℕ) (members : List ℕ) → peers ≤ 31 → AscendFrom 1 peers members → (nat_le 1 (length members) && nat_le (length members) 9) ≡ true → IsView members
sized_view peers members most ascends sized = record {
  size = grind (arith, nat_tests);
  peers = IsPeer-members 1 peers members (omega arith) most ascends;
  ascends = IsStrictlyIncreasing-members 1 peers members ascends;
}

if_ok : (b : Bool) (x y : List ℕ) → (if b then Ok x else Err Peers) ≡ Ok y → (b ≡ true) × (x ≡ y)
if_ok true x y h = (refl, cc h)
if_ok false x y h = cc h

-- what is read as a view is one, of these peers, and each word is a member's spelling
pub view_of-ok : (peers : ℕ) (words : List (List ℕ)) (view : List ℕ) → peers ≤ 31 → view_of peers words ≡ Ok view
    → AreMembers peers view × IsView view × (words ≡ member_words view)
view_of-ok peers words view most h =
    let bounded : min peers 31 ≡ peers = omega arith in
    let read = bind_ok (members_of (min peers 31) words) _ view h in
    let sized = if_ok _ read.0 view read.2 in
    let parts = members_from-ok 1 (min peers 31) words read.0 (omega arith) read.1 in
    let members : AscendFrom 1 peers read.0 = subst (λ (n : ℕ). AscendFrom 1 n read.0) bounded parts.0 in
    rw (← sized.1) (members, sized_view peers read.0 most members sized.0, parts.1)

-- the words of a view are read as it
pub view_of-words : (peers : ℕ) (view : List ℕ) → peers ≤ 31 → AreMembers peers view → IsView view → view_of peers (member_words view) ≡ Ok view
view_of-words peers view most members is_view =
    let bounded : min peers 31 ≡ peers = omega arith in
    let least : 1 ≤ length view = is_view.size.0 in
    let top : length view ≤ 9 = is_view.size.1 in
    let sized : (nat_le 1 (length view) && nat_le (length view) 9) ≡ true = grind (arith, nat_tests, least, top) in
    rw (bounded, members_from-words 1 peers view (omega arith) members, sized) refl
