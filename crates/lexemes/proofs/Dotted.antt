-- A version has one spelling.
use Rattle.std.proofs.Common.{◌≡◌, ℕ, ◌-◌, ◌<◌, ◌≤◌, ◌^◌, false, List, [], ◌∷◌, ◌++◌, length, Ok, refl, sym, ap, ◌∙◌, arith, append_assoc, lit<}
use Rattle.std.proofs.lemmas.List.Splits.{join_with_byte-slice_split}
use Rattle.std.proofs.lemmas.List.{length-append}
use Rattle.std.proofs.lemmas.Fmt.{length-decimal-le}
use Rattle.std.specs.Fmt.{decimal}
use Rattle.std.specs.List.{join_with_byte}
use Rattle.ens_base.specs.Words.{epoch_word, version_word}
use Rattle.ens_base.specs.declared.epoch.Version.{Version}
use Rattle.lexemes.specs.Causes.{or_cause}
use Rattle.ens_base.specs.Limits.{IsVersion}
use Rattle.lexemes.specs.Words.{number_of, number_within, parts_of, version_from, version_of, version_of_parts}
use Rattle.lexemes.specs.declared.cause.Cause.TheVariants.{Number}
use Rattle.lexemes.proofs.Joined.{has, has-append, has-decimal, length-decimal, other, parts_of-join}
use Rattle.lexemes.proofs.Numerals.{number_within-some, number_within-decimal}
use Rattle.lexemes.proofs.Results.{bind_ok, ok_same, or_cause_ok}

-- a number that was read is spelled so
pub number_of-ok : (low high : ℕ) (word : List ℕ) (n : ℕ) → high < 2 ^ 64 → number_of low high word ≡ Ok n
    → (word ≡ decimal n) × (low ≤ n) × (n ≤ high)
number_of-ok low high word n fits h = number_within-some low high word n fits (or_cause_ok Number (number_within low high word) n h)

pub number_of-decimal : (low high n : ℕ) → low ≤ n → n ≤ high → n < 2 ^ 64 → number_of low high (decimal n) ≡ Ok n
number_of-decimal low high n least most fits = ap (or_cause Number) (number_within-decimal low high n least most fits)

dotted-join : (a b c : List ℕ) → ((a ++ 46 ∷ []) ++ b ++ 46 ∷ []) ++ c ≡ join_with_byte 46 (a ∷ b ∷ c ∷ [])
dotted-join a b c = simp append_assoc

version_parts : (parts : List (List ℕ)) (v : Version) → version_of_parts parts ≡ Ok v
    → (a : List ℕ) × (b : List ℕ) × (c : List ℕ) × (parts ≡ a ∷ b ∷ c ∷ []) × (version_from a b c ≡ Ok v)
version_parts [] v h = cc h
version_parts (a ∷ []) v h = cc h
version_parts (a ∷ b ∷ []) v h = cc h
version_parts (a ∷ b ∷ c ∷ []) v h = (a, b, c, refl, h)
version_parts (a ∷ b ∷ c ∷ d ∷ more) v h = cc h

version_from-ok : (a b c : List ℕ) (v : Version) → version_from a b c ≡ Ok v → (join_with_byte 46 (a ∷ b ∷ c ∷ []) ≡ version_word v) × IsVersion v
version_from-ok a b c v h =
    let count = bind_ok (number_of 0 (2 ^ 64 - 1) a) _ v h in
    let proposer = bind_ok (number_of 0 (2 ^ 32 - 1) b) _ v count.2 in
    let seq = bind_ok (number_of 0 (2 ^ 64 - 1) c) _ v proposer.2 in
    let first = number_of-ok 0 (2 ^ 64 - 1) a count.0 (lit< tt) count.1 in
    let second = number_of-ok 0 (2 ^ 32 - 1) b proposer.0 (lit< tt) proposer.1 in
    let third = number_of-ok 0 (2 ^ 64 - 1) c seq.0 (lit< tt) seq.1 in
    rw (← (ok_same seq.2)) (
      spelled count.0 proposer.0 seq.0 first.0 second.0 third.0,
      record {
        epoch = record { count = omega (arith, first.2); proposer = omega (arith, second.2) };
        seq = omega (arith, third.2);
      },
    )
  where
    spelled : (m n k : ℕ) → a ≡ decimal m → b ≡ decimal n → c ≡ decimal k
        → join_with_byte 46 (a ∷ b ∷ c ∷ []) ≡ version_word (record { epoch = record { count = m; proposer = n }; seq = k })
    spelled m n k p q r = sym (dotted-join a b c) ∙ (λ i. ((p i ++ 46 ∷ []) ++ q i ++ 46 ∷ []) ++ r i)

-- a version that was read is spelled so
pub version_of-ok : (word : List ℕ) (v : Version) → version_of word ≡ Ok v → (word ≡ version_word v) × IsVersion v
version_of-ok word v h =
    let parts = version_parts (parts_of 46 word) v h in
    let spelled = version_from-ok parts.0 parts.1 parts.2 v parts.4 in
    (sym (join_with_byte-slice_split 46 word) ∙ ap (join_with_byte 46) parts.3 ∙ spelled.0, spelled.1)

-- the spelling of a version is read as it
pub version_of-word : (v : Version) → IsVersion v → version_of (version_word v) ≡ Ok v
version_of-word v h =
    let count : v.epoch.count < 2 ^ 64 = h.epoch.count in
    let proposer : v.epoch.proposer < 2 ^ 32 = h.epoch.proposer in
    let seq : v.seq < 2 ^ 64 = h.seq in
    let parts : parts_of 46 (version_word v) ≡ decimal v.epoch.count ∷ decimal v.epoch.proposer ∷ decimal v.seq ∷ [] =
    ap (parts_of 46) (dotted-join (decimal v.epoch.count) (decimal v.epoch.proposer) (decimal v.seq))
    ∙ parts_of-join 46 (decimal v.epoch.count) (decimal v.epoch.proposer ∷ decimal v.seq ∷ []) (
      has-decimal 46 v.epoch.count (lit< tt) count,
      length-decimal v.epoch.count count,
      (
        has-decimal 46 v.epoch.proposer (lit< tt) (omega arith),
        length-decimal v.epoch.proposer (omega arith),
        (has-decimal 46 v.seq (lit< tt) seq, length-decimal v.seq seq, tt),
      ),
    ) in
    ap version_of_parts parts
    ∙ rw (
      number_of-decimal 0 (2 ^ 64 - 1) v.epoch.count (omega arith) (omega arith) count,
      number_of-decimal 0 (2 ^ 32 - 1) v.epoch.proposer (omega arith) (omega arith) (omega arith),
      number_of-decimal 0 (2 ^ 64 - 1) v.seq (omega arith) (omega arith) seq,
    ) refl

-- no byte below 46 stands in the spelling of a version
pub has-version : (at : ℕ) (v : Version) → at < 46 → IsVersion v → has at (version_word v) ≡ false
has-version at v low h =
    let proposer : v.epoch.proposer < 2 ^ 32 = h.epoch.proposer in
    let dot : has at (46 ∷ []) ≡ false = rw (other at 46 low) refl in
    has-append at (epoch_word v.epoch ++ 46 ∷ []) (decimal v.seq)
    (has-append at (epoch_word v.epoch) (46 ∷ [])
    (has-append at (decimal v.epoch.count ++ 46 ∷ []) (decimal v.epoch.proposer)
    (has-append at (decimal v.epoch.count) (46 ∷ []) (has-decimal at v.epoch.count (omega arith) h.epoch.count) dot)
    (has-decimal at v.epoch.proposer (omega arith) (omega arith))) dot)
    (has-decimal at v.seq (omega arith) h.seq)

pub length-version : (v : Version) → IsVersion v → 0 < length (version_word v)
length-version v h =
    let seq = length-decimal v.seq h.seq in
    omega (arith, length-append (epoch_word v.epoch ++ 46 ∷ []) (decimal v.seq), seq)

pub length-version_word-le : (v : Version) → IsVersion v → length (version_word v) ≤ 62
length-version_word-le v h =
    let small : v.epoch.proposer < 2 ^ 32 = h.epoch.proposer in
    let count = length-decimal-le 20 v.epoch.count (lit< tt) (omega (arith, h.epoch.count)) h.epoch.count in
    let proposer = length-decimal-le 20 v.epoch.proposer (lit< tt) (omega arith) (omega arith) in
    let seq = length-decimal-le 20 v.seq (lit< tt) (omega (arith, h.seq)) h.seq in
    omega (
      arith,
      length-append (epoch_word v.epoch ++ 46 ∷ []) (decimal v.seq),
      length-append (epoch_word v.epoch) (46 ∷ []),
      length-append (decimal v.epoch.count ++ 46 ∷ []) (decimal v.epoch.proposer),
      length-append (decimal v.epoch.count) (46 ∷ []),
      count,
      proposer,
      seq,
    )
