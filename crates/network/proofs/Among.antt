-- The tests of a search among peers, number by number.
use Rattle.std.proofs.Common.{◌≡◌, ◌+◌, ◌≤◌, ◌&&◌, ◌||◌, arith, ℕ, Bool, true, false, List, nat_lt}
use Rattle.std.proofs.lemmas.Bool.Decides.{nat_tests}
use Rattle.ens_base.specs.PeerSet.{holds}
use Rattle.wire_frames.specs.declared.frame.Frame.{Frame}
use Rattle.network.specs.Mail.{goes, goes_into, is_among, MayBeSent}
use Rattle.network.specs.Representation.{IsBelow}

module _ (peers : List Bool) (f : Frame) (ends : MayBeSent f) where
  module _ (from : ℕ) where
    pub into_none : (goes_into from peers f && nat_lt f.to 1) ≡ false
    into_none = grind (arith, nat_tests)

    pub into_member : (n : ℕ) → holds peers n ≡ true → ((goes_into from peers f && nat_lt f.to n) || goes from n f) ≡ (goes_into from peers f && nat_lt f.to (n + 1))
    into_member n has = grind (arith, nat_tests)

    pub into_other : (n : ℕ) → holds peers n ≡ false → (goes_into from peers f && nat_lt f.to n) ≡ (goes_into from peers f && nat_lt f.to (n + 1))
    into_other n has = grind (arith, nat_tests)

  pub among_none : (is_among peers f && nat_lt f.from 1) ≡ false
  among_none = grind (arith, nat_tests)

  pub among_member : (n : ℕ) → holds peers n ≡ true → ((is_among peers f && nat_lt f.from n) || goes_into n peers f) ≡ (is_among peers f && nat_lt f.from (n + 1))
  among_member n has = grind (arith, nat_tests)

  pub among_other : (n : ℕ) → holds peers n ≡ false → (is_among peers f && nat_lt f.from n) ≡ (is_among peers f && nat_lt f.from (n + 1))
  among_other n has = grind (arith, nat_tests)

-- beyond the bound of all numbers the tests are the whole ones
pub into_all : (peers : List Bool) (f : Frame) (from bound n : ℕ) → IsBelow bound f → bound ≤ n → (goes_into from peers f && nat_lt f.to n) ≡ goes_into from peers f
into_all peers f from bound n below all = grind (arith, nat_tests)

pub among_all : (peers : List Bool) (f : Frame) (bound n : ℕ) → IsBelow bound f → bound ≤ n → (is_among peers f && nat_lt f.from n) ≡ is_among peers f
among_all peers f bound n below all = grind (arith, nat_tests)
