-- A sync asks for nothing more than a majority whose members are sources.
use Rattle.std.proofs.Common.{◌≡◌, ℕ, Bool, true, ◌&&◌, arith}
use Rattle.std.proofs.lemmas.Bool.{and_parts}
use Rattle.ens_base.proofs.Lists.{in_tested, tested_in}
use Rattle.ens_base.specs.Lists.{◌∈◌, is_in}
use Rattle.ens_base.specs.Views.{last_view}
use Rattle.quorums.proofs.Majorities.{majority_more_on}
use Rattle.quorums.specs.Quorums.{is_majority}
use Rattle.protocol_laws.specs.Objects.{Map, Objects, IsSynced}
use Rattle.protocol_laws.specs.Versions.{IsSource, is_solid}

-- what holds of the sources in the view is all that is asked of them
pub synced_by : (o : Objects) (d : ℕ) (merged : Map) (sources : ℕ → Bool) → is_majority sources (last_view (o.ledger.views d)) ≡ true → ((q : ℕ) → q ∈ last_view (o.ledger.views d) → sources q ≡ true → IsSource o d merged q) → IsSynced o d merged
synced_by o d merged sources majority serve = record {
  sources = members;
  majority = majority_more_on sources members (last_view (o.ledger.views d)) (λ q h s. both (sources q) (is_in (last_view (o.ledger.views d)) q) s (tested_in (last_view (o.ledger.views d)) q h)) majority;
  reached = λ q h. (source q h).reached;
  given = λ q k h. (source q h).given k;
}
  where
    members : ℕ → Bool
    members q = sources q && is_in (last_view (o.ledger.views d)) q

    both : (a b : Bool) → a ≡ true → b ≡ true → (a && b) ≡ true
    both a b h k = grind arith

    source : (q : ℕ) → (sources q && is_in (last_view (o.ledger.views d)) q) ≡ true → IsSource o d merged q
    source q h = let p = and_parts (sources q) (is_in (last_view (o.ledger.views d)) q) h in serve q (in_tested (last_view (o.ledger.views d)) q p.1) p.0

pub synced_by_solid : (o : Objects) (d : ℕ) (merged : Map) → is_majority (is_solid o) (last_view (o.ledger.views d)) ≡ true → ((q : ℕ) → q ∈ last_view (o.ledger.views d) → is_solid o q ≡ true → IsSource o d merged q) → IsSynced o d merged
synced_by_solid o d merged = synced_by o d merged (is_solid o)
